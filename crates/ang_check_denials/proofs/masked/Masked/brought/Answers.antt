use Rattle.std.proofs.Common.{◌≡◌, ℕ, sym, ap, ◌∙◌}
use Rattle.ang_check_added.specs.Brought.{brought, numbers_at}
use Rattle.ang_check_denials.specs.Masked.{Masked}
use Rattle.ang_check_added.proofs.Bringing.{numbers_are}
use Rattle.ang_check_denials.proofs.masked.Masked.brought.Goals as goal

pub returns : goal.returns
returns c =
    let inside = c.self.inside in
    let n : ℕ = c.args.number in
    record {
      exact =
          c.numbers_at.ensures.exact
          ∙ ap (λ rows. numbers_at rows n) c.self.invariant.3
          ∙ numbers_are inside.whole.now inside.mask.0 n
          ∙ ap (λ (k : Masked). brought k.list k.mask n) c.self.view_is;
    }

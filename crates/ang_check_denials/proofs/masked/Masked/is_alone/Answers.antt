use Rattle.std.specs.Prelude.{false, slice_index_or}
use Rattle.std.proofs.Common.{◌≡◌, ℕ, Bool, List, ap, ◌∙◌}
use Rattle.ang_check_added.specs.Brought.{is_alone}
use Rattle.ang_check_denials.specs.Masked.{Masked}
use Rattle.ang_check_added.proofs.Bringing.{alone_at}
use Rattle.ang_check_denials.proofs.masked.Masked.is_alone.Goals as goal

pub returns : goal.returns
returns c =
    let inside = c.self.inside in
    let n : ℕ = c.args.number in
    record {
      exact =
          c.is_marked.ensures.exact
          ∙ ap (λ (bs : List Bool). slice_index_or bs n false) (c.as_slice.ensures.value ∙ c.self.invariant.5)
          ∙ alone_at inside.whole.now inside.mask.0 n inside.brought c.self.invariant.3
          ∙ ap (λ (k : Masked). is_alone k.list k.mask n) c.self.view_is;
    }

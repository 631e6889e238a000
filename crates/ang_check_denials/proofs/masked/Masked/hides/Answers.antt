use Rattle.std.specs.Prelude.{false, slice_index_or}
use Rattle.std.proofs.Common.{◌≡◌, ℕ, Bool, List, ap, ◌∙◌}
use Rattle.ang_view.specs.Hidden.{hidden, is_hidden}
use Rattle.ang_check_denials.specs.Masked.{Masked}
use Rattle.ang_check_added.proofs.Bringing.{some_at}
use Rattle.ang_check_denials.proofs.masked.Masked.hides.Goals as goal

pub returns : goal.returns
returns c =
    let inside = c.self.inside in
    let n : ℕ = c.args.number in
    record {
      exact =
          c.is_marked.ensures.exact
          ∙ ap (λ (bs : List Bool). slice_index_or bs n false) c.self.invariant.0
          ∙ some_at (hidden inside.whole.now inside.mask.0) n
          ∙ ap (λ (k : Masked). is_hidden k.list k.mask n) c.self.view_is;
    }

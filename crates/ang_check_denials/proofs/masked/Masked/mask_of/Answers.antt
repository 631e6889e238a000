use Rattle.std.specs.Prelude.{None, slice_index_or}
use Rattle.std.proofs.Common.{◌≡◌, ℕ, List, ap, ◌∙◌}
use Rattle.ang_kinds.specs.declared.mask.Mask.{Mask}
use Rattle.ang_view.specs.Registration.{entry_at}
use Rattle.ang_check_denials.specs.Denials.{mask_of}
use Rattle.ang_check_denials.specs.Masked.{Masked}
use Rattle.ang_check_denials.proofs.Masks.{mask_there}
use Rattle.ang_check_denials.proofs.masked.Masked.mask_of.Goals as goal

pub returns : goal.returns
returns c =
    let inside = c.self.inside in
    let n : ℕ = c.args.number in
    record {
      exact =
          c.mask_at.ensures.exact
          ∙ ap (λ (ms : List Mask). slice_index_or ms n (mask_of None)) (c.as_slice.ensures.value ∙ c.self.invariant.6)
          ∙ mask_there inside.whole.now n
          ∙ ap (λ (k : Masked). mask_of (entry_at k.list n)) c.self.view_is;
    }

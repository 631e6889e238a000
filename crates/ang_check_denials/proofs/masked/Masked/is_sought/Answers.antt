use Rattle.std.specs.Prelude.{◌==◌, Some, slice_index_or}
use Rattle.std.proofs.Common.{ℕ, List, ap, ◌∙◌}
use Rattle.ang_view.specs.Registration.{entry_at}
use Rattle.ang_check_denials.specs.declared.told.Sought.{Sought}
use Rattle.ang_check_denials.specs.Masked.{Masked}
use Rattle.ang_check_denials.specs.Telling.{is_sought, key_of}
use Rattle.ang_check_denials.proofs.Masks.{sort_there}
use Rattle.ang_check_denials.proofs.masked.Masked.is_sought.Goals as goal

pub returns : goal.returns
returns c =
    let inside = c.self.inside in
    let n : ℕ = c.args.number in
    let q : Sought = c.args.sought in
    record {
      exact =
          c.is_of_sort.ensures.exact
          ∙ ap (λ (k : ℕ). slice_index_or c.as_slice.result.now n 3 == k) c.key_of.ensures.exact
          ∙ ap (λ (ss : List ℕ). slice_index_or ss n 3 == key_of (Some q)) (c.as_slice.ensures.value ∙ c.self.invariant.7)
          ∙ sort_there q inside.whole.now n
          ∙ ap (λ (k : Masked). is_sought q (entry_at k.list n)) c.self.view_is;
    }

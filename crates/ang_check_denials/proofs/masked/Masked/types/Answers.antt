use Rattle.std.proofs.Common.{◌≡◌, ap, ◌∙◌}
use Rattle.ang_check_added.specs.Brought.{all_types}
use Rattle.ang_check_denials.specs.Masked.{Masked}
use Rattle.ang_check_denials.proofs.masked.Masked.types.Goals as goal

pub returns : goal.returns
returns c = record { exact = c.as_slice.ensures.value ∙ c.self.invariant.4 ∙ ap (λ (k : Masked). all_types k.list) c.self.view_is }

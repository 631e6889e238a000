use Rattle.std.proofs.Common.{◌≡◌, ◌++◌, drop, map}
use Rattle.ang_check_denials.specs.Denials.{mask_of}
use Rattle.ang_check_denials.proofs.masked.all_masks.Given as goal

abbrev pub invariant-loop-entry : goal.invariant-loop-entry
invariant-loop-entry l = map mask_of l.whole ≡ l.masks.items ++ map mask_of (drop l.entry-index l.entry-items)

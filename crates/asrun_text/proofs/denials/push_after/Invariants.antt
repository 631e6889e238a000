use Rattle.std.proofs.Common.{◌≡◌, ◌++◌, take, flat_map}
use Rattle.asrun_text.specs.Text.{denial_text}
use Rattle.asrun_text.proofs.denials.push_after.Given as goal

abbrev pub invariant-loop-denial : goal.invariant-loop-denial
invariant-loop-denial l = l.out.items ≡ l.initial.out.items ++ flat_map (denial_text) (take l.denial-index l.denials)

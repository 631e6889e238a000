use Rattle.std.proofs.Common.{◌≡◌, drop}
use Rattle.ang_engine_call.specs.Calls.{arguments_for}
use Rattle.ang_engine_call.proofs.SoFar.{all_in_front}
use Rattle.ang_engine_call.proofs.argument_slots.arguments_for.Given as goal

abbrev pub invariant-loop-i : goal.invariant-loop-i
invariant-loop-i l = arguments_for l.params l.values ≡ all_in_front l.slots.items (arguments_for (drop l.i l.params) (drop l.i l.values))

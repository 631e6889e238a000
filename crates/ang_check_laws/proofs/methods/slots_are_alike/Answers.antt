use Rattle.ang_check_laws.proofs.MethodsSlots.{in_one_slot}
use Rattle.ang_check_laws.proofs.methods.slots_are_alike.Goals as goal

-- src/methods.rt:5:1
pub returns : goal.returns
returns c = record { slots = in_one_slot }

use Rattle.ang_engine.proofs.Entries.{entitled_one}
use Rattle.ang_engine.proofs.Standing.{drivers_left, modules_left, removal_stands, step_stands}
use Rattle.ang_engine.proofs.laws.used_entries_stand.Goals as goal

pub returns-clause-commands : goal.returns-clause-commands
returns-clause-commands c = λ R w k is h. step_stands R w h k is

pub returns-clause-removal : goal.returns-clause-removal
returns-clause-removal c = removal_stands

pub returns-clause-modules : goal.returns-clause-modules
returns-clause-modules c = λ R g x none h. modules_left R g x.places.items x.code none h

pub returns-clause-drivers : goal.returns-clause-drivers
returns-clause-drivers c = drivers_left

pub returns-clause-entitled : goal.returns-clause-entitled
returns-clause-entitled c = λ R x r e h asked. entitled_one R x.places.items x.code x.code x.order.items r h.each h.apart e asked

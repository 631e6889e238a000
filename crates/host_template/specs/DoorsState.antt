-- The state of the driver. `Bool` is the type of an object's value.
use Rattle.std.specs.Prelude.{Bool}
use Rattle.ang_host.specs.State.{State}
use Rattle.ang_host.specs.Laws.{Fits}
use Rattle.ang_drivers.specs.Objects.{Ledger}
use Rattle.ang_drivers.specs.ObjectsLedger.{ledger}
use Rattle.ang_drivers.specs.Tables.{state_of as state_over}
use Rattle.host_template.specs.declared.doors.Doors.{Doors}
use Rattle.host_template.specs.Answers.{AnyFits, untold}

abbrev pub door_ledger : Doors → Ledger Bool
door_ledger d = ledger d.doors

abbrev pub state_of : Doors → State
state_of d = state_over untold (door_ledger d)

abbrev pub DoorsFits : Fits
DoorsFits = AnyFits Bool

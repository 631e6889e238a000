-- The state of a driver that keeps lists of numbers.
use Rattle.std.specs.Prelude.{ℕ, ℤ, List}
use Rattle.ang_host.specs.State.{State}
use Rattle.ang_drivers.specs.declared.int_list.IntList.{IntList}
use Rattle.ang_drivers.specs.Objects.{Ledger}
use Rattle.ang_drivers.specs.ObjectsLedger.{ledger}
use Rattle.ang_drivers.specs.Tables.{state_of}
use Rattle.ang_drivers.specs.Bounded.{bounded_over}
use Rattle.ang_drivers.specs.IntList.{list_code}

-- the references, the lists and the tallies of its objects
abbrev pub list_ledger : IntList → Ledger (List ℤ)
list_ledger d = ledger d.lists

-- how many numbers a list holds at most
abbrev pub list_bound : IntList → ℕ
list_bound d = d.bound

abbrev pub list_state : IntList → State
list_state d = bounded_over d.bound (state_of list_code (list_ledger d))

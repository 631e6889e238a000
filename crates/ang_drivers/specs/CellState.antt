-- The state of a cell driver.
use Rattle.std.specs.Prelude.{ℤ}
use Rattle.ang_host.specs.State.{State}
use Rattle.ang_drivers.specs.declared.cell.Cell.{Cell}
use Rattle.ang_drivers.specs.Objects.{Ledger}
use Rattle.ang_drivers.specs.ObjectsLedger.{ledger}
use Rattle.ang_drivers.specs.Tables.{state_of}
use Rattle.ang_drivers.specs.Cell.{value_code}

-- the references, the values and the tallies of its objects
abbrev pub cell_ledger : Cell → Ledger ℤ
cell_ledger c = ledger c.cells

abbrev pub cell_state : Cell → State
cell_state c = state_of value_code (cell_ledger c)

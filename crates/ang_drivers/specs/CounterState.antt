-- The state of a counter.
use Rattle.ang_host.specs.State.{State}
use Rattle.ang_drivers.specs.declared.counter.Count.{Count}
use Rattle.ang_drivers.specs.declared.counter.Counter.{Counter}
use Rattle.ang_drivers.specs.Objects.{Ledger}
use Rattle.ang_drivers.specs.ObjectsLedger.{ledger}
use Rattle.ang_drivers.specs.Tables.{state_of}
use Rattle.ang_drivers.specs.Counter.{count_code}

-- the references, the counts and the tallies of its objects
abbrev pub counter_ledger : Counter → Ledger Count
counter_ledger c = ledger c.counts

abbrev pub counter_state : Counter → State
counter_state c = state_of count_code (counter_ledger c)

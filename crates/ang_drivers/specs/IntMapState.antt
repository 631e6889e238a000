-- The state of a driver that keeps maps of numbers.
use Rattle.std.specs.Prelude.{ℕ}
use Rattle.ang_host.specs.State.{State}
use Rattle.ang_drivers.specs.declared.int_map.IntMap.{IntMap}
use Rattle.ang_drivers.specs.Objects.{Ledger}
use Rattle.ang_drivers.specs.ObjectsLedger.{ledger}
use Rattle.ang_drivers.specs.Tables.{state_of}
use Rattle.ang_drivers.specs.Bounded.{bounded_over}
use Rattle.ang_drivers.specs.IntMap.{Pairs, map_code}

-- the references, the maps and the tallies of its objects
abbrev pub map_ledger : IntMap → Ledger Pairs
map_ledger d = ledger d.maps

-- how many pairs a map holds at most
abbrev pub map_bound : IntMap → ℕ
map_bound d = d.bound

abbrev pub map_state : IntMap → State
map_state d = bounded_over d.bound (state_of map_code (map_ledger d))

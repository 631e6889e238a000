-- The entries of a table beside a list of drivers.
use Rattle.std.specs.Prelude.{ℕ, ◌≡◌, ◌<◌, List, Some}
use Rattle.ang_host.specs.declared.event.Role.{Role}
use Rattle.ang_host.specs.Events.{role_at}
use Rattle.ang_kinds.specs.declared.mask.EntityNo.{EntityNo}
use Rattle.ang_meaning.specs.declared.host.HostUse.{HostUse}
use Rattle.ang_meaning.specs.declared.operation.Operation.{Operation}
use Rattle.ang_vm_stack.specs.declared.table.Table.{Table}
use Rattle.ang_vm_stack.specs.Tables.{entity_of}
use Rattle.ang_vm_ask.specs.Asks.{asked_by}

-- each entry that a module sees is of one of the first `count` drivers
pub record DriversThere (t : Table) (count : ℕ) : Type 0 where
  pub each : (m e : ℕ) (u : HostUse) → entity_of t m e ≡ Some u → u.driver < count

-- by number, the roles of the entries that modules see
pub record HaveRoles (t : Table) (roles : List Role) : Type 0 where
  pub each : (m e : ℕ) (u : HostUse) → entity_of t m e ≡ Some u → role_at roles e ≡ u.role

-- the operation asks this entry, as module m sees it
pub record AsksEntry (t : Table) (m : ℕ) (o : Operation) (u : HostUse) : Type 0 where
  pub entity : EntityNo
  pub asked : asked_by o ≡ Some entity
  pub seen : entity_of t m entity.0 ≡ Some u

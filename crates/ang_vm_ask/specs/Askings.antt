-- What asking an entry of the host leaves of a store.
use Rattle.std.specs.Prelude.{ℕ, ◌≡◌, true, List, Some, Result, length, reverse}
use Rattle.ang_kinds.specs.declared.mask.EntityNo.{EntityNo}
use Rattle.ang_kinds.specs.declared.fault.Fault.{Fault}
use Rattle.ang_host.specs.declared.event.Role.{Role}
use Rattle.ang_host.specs.State.{State}
use Rattle.ang_host.specs.Meanings.{Meanings}
use Rattle.ang_host.specs.Members.{state_at, states_of}
use Rattle.ang_host.specs.Boxes.{members}
use Rattle.ang_host.specs.Events.{role_at}
use Rattle.ang_meaning.specs.declared.host.HostUse.{HostUse}
use Rattle.ang_meaning.specs.declared.operation.Operation.{Operation}
use Rattle.ang_meaning.specs.declared.slot.Slot.{Slot}
use Rattle.ang_meaning.specs.World.{World, with_inputs}
use Rattle.ang_meaning.specs.Environment.{Environment, is_fit}
use Rattle.ang_meaning.specs.Perform.{operands}
use Rattle.ang_meaning.specs.Told.{Told}
use Rattle.ang_meaning.specs.Counting.{CanGive}
use Rattle.ang_heap.specs.declared.store.Store.{Store}
use Rattle.ang_heap.specs.Stores.{world_of, IsReady, StoreMoves}
use Rattle.ang_vm_stack.specs.Arms.{done}
use Rattle.ang_vm_stack.specs.declared.table.Table.{Table}
use Rattle.ang_vm_ask.specs.Asks.{asks}
use Rattle.ang_vm_ask.specs.Entities.{HaveRoles}

-- a module of this name sees an entry as this
pub record Sees (z : Environment) (m : ℕ) (caller : List ℕ) (e : EntityNo) (u : HostUse) : Type 0 where
  pub name : z.name m ≡ caller
  pub host : z.host m e.0 ≡ Some u

-- Operation o on these operands, the first one first, gave this result and left this world, in each
-- module that sees the entry so, where the operation is fit and these are as many operands as it
-- takes.
pub record Performed (caller : List ℕ) (e : EntityNo) (u : HostUse) (o : Operation)
    (ops : List Slot) (w : World) (r : Result Slot Fault) (w' : World) : Type 0 where
  pub told : (z : Environment) (m : ℕ) → Sees z m caller e u → is_fit z m o ≡ true
      → length ops ≡ operands z m o
      → Told (λ is. asks z m o (reverse ops) (with_inputs is w)) (λ is. done r (with_inputs is w'))

-- An entry of this role was asked, or not: the drivers follow what was listed, there are as many
-- of them as before, and all is ready again.
pub record StoreAsked {V : Type 0} {P : V → Type 0} (m : Meanings P) (e : EntityNo) (role : Role)
    (s t : Store V P) : Type 0 where
  pub moves : (roles : List Role) → role_at roles e.0 ≡ role → StoreMoves m roles s t
  pub ready : IsReady m s → IsReady m t
  pub same : length (members t.drivers) ≡ length (members s.drivers)

-- the state of the driver of that number
abbrev pub driver_state : {V : Type 0} {P : V → Type 0} → Meanings P → Store V P → ℕ → State
driver_state m s d = state_at (states_of m (members s.drivers)) d

-- what could be given up before can be given up still
abbrev pub StillGives : {V : Type 0} {P : V → Type 0} → Meanings P → Store V P → Store V P → Type 0
StillGives m s t = (vs : List Slot) → CanGive vs (world_of m s) → CanGive vs (world_of m t)

-- the drivers follow what was listed, where they have the roles of the table's entries
abbrev pub HasMovedOver : {V : Type 0} {P : V → Type 0} → Meanings P → Table → Store V P
    → Store V P → Type 0
HasMovedOver m t s u = (roles : List Role) → HaveRoles t roles → StoreMoves m roles s u

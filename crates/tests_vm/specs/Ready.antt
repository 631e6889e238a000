-- What a machine of the tests needs to run code, as a test can see it.
use Rattle.std.specs.Prelude.{ℕ, ◌+◌, ◌≤◌, ltb, Bool, true, false, Option, Some, None, []}
use Rattle.ang_host.specs.Logs.{log_len, log_capacity}
use Rattle.ang_host.specs.declared.event_buffer.EventBuffer.{EventBuffer}
use Rattle.ang_host.specs.Meanings.{Meanings}
use Rattle.ang_meaning.specs.declared.host.HostUse.{HostUse}
use Rattle.ang_meaning.specs.declared.slot.Slot.{Slot}
use Rattle.ang_meaning.specs.declared.slot.Slot.TheVariants.{Bits, Script, Host}
use Rattle.ang_meaning.specs.Counting.{IsCounted}
use Rattle.ang_heap.specs.Stores.{world_of, IsReady}
use Rattle.ang_vm.specs.declared.machines.Machine.{Machine}
use Rattle.ang_vm.specs.Machines.{lent}

-- the driver of an entity that a module sees is one of the first `count`
abbrev pub is_below : ℕ → Option HostUse → Bool
is_below count None = true
is_below count (Some u) = ltb u.driver count

-- a place that holds no object
abbrev pub names_nothing : Slot → Bool
names_nothing (Bits n) = true
names_nothing (Script None) = true
names_nothing (Script (Some n)) = false
names_nothing (Host d k) = false

-- a machine, with the events of a command, on which code may run, but for its drivers
pub record MayBegin {V : Type 0} {P : V → Type 0} (m : Meanings P) (x : Machine V P) (events : EventBuffer) : Type 0 where
  pub ready : IsReady m (lent x events)
  pub counted : IsCounted [] (world_of m (lent x events))

-- a machine between runs: code may run on it with any events that have room for the end of each host object that lives
abbrev pub IsAtRest : {V : Type 0} {P : V → Type 0} → Meanings P → Machine V P → Type 0
IsAtRest m x = (events : EventBuffer) → log_len events + x.store.live ≤ log_capacity events → MayBegin m x events

-- What contracts see of the lists in which events are kept.
use Rattle.std.specs.Prelude.{ℕ, ◌+◌, ◌^◌, ◌≡◌, ◌<◌, ◌≤◌, List, Option, Some}
use Rattle.ang_host.specs.declared.event.HostEvent.{HostEvent}

-- the events that are read back, how many there is room for, the caller's name for which there is room, and how many
-- arguments there are and can be
pub record Kept : Type 0 where
  pub events : List HostEvent
  pub capacity : ℕ
  pub name : Option (List ℕ)
  pub arguments : ℕ
  pub argument_capacity : ℕ

-- there is room for the caller's name and for the arguments of one host call
pub record IsReserved (caller : List ℕ) (count : ℕ) (k : Kept) : Type 0 where
  pub name : k.name ≡ Some caller
  pub few : count < 2 ^ 32
  pub room : k.arguments + count ≤ k.argument_capacity

-- The events of a command while it runs: which they are, and for how many more there is room
-- (docs/HOST.md, "Replies").
use Rattle.std.specs.Prelude.{ℕ, ◌-◌, ◌^◌, ◌≡◌, Bool, true, cond, List, length}
use Rattle.ang_host.specs.declared.event.HostEvent.{HostEvent}
use Rattle.ang_host.specs.declared.event_buffer.EventBuffer.{EventBuffer}
use Rattle.ang_host.specs.Kept.{IsReserved}

-- the events so far, in order
unfoldable pub listed_in : EventBuffer → List HostEvent
listed_in b = b.record.events

-- how many there are
abbrev pub log_len : EventBuffer → ℕ
log_len b = length (listed_in b)

-- whether they can be read afterwards
unfoldable pub is_heard : EventBuffer → Bool
is_heard b = b.listens

-- How many there is room for, those that are there among them. Where nobody listens they take none.
unfoldable pub log_capacity : EventBuffer → ℕ
log_capacity b = cond b.listens b.kept.capacity (2 ^ 64 - 1)

-- there is room for the caller's name and for the arguments of one host call, which take none where nobody listens
unfoldable pub HasRoomForCall : List ℕ → ℕ → EventBuffer → Type 0
HasRoomForCall caller count b = b.listens ≡ true → IsReserved caller count b.kept

-- The world between commands, and those in which their runs begin and end.
use Rattle.std.proofs.Common.{◌≡◌, ◌+◌, ◌-◌, ℕ, List, [], ap, sym, ◌∙◌, arith, length}
use Rattle.ang_host.specs.Logs.{listed_in, log_len}
use Rattle.ang_host.specs.declared.event_buffer.EventBuffer.{EventBuffer}
use Rattle.ang_host.specs.Meanings.{Meanings}
use Rattle.ang_meaning.specs.World.{Input, with_inputs}
use Rattle.ang_heap.specs.declared.store.Store.{Store}
use Rattle.ang_heap.specs.Stores.{world_of}
use Rattle.ang_engine_modules.specs.World.{ModuleStates, World, running, left_to}

-- what is owed beside what is listed
owed : (listed live : ℕ) → (listed + live) - listed ≡ live
owed listed live = omega arith

module _ {V : Type 0} {P : V → Type 0} (m : Meanings P) where
  -- what a run leaves has none of its events
  pub left_without : (ss : ModuleStates) (s : Store V P) (es : EventBuffer) → left_to ss (world_of m (record s { events = es })) ≡ left_to ss (world_of m s)
  left_without ss s es = ap (λ n. record (left_to ss (world_of m s)) { live = n }) (owed (log_len es) s.live ∙ sym (owed (log_len s.events) s.live))

  -- a run begins with none listed
  pub run_begins : (ss : ModuleStates) (s : Store V P) (es : EventBuffer) (is : List Input) → listed_in es ≡ []
      → running (left_to ss (world_of m s)) is ≡ with_inputs is (world_of m (record s { events = es }))
  run_begins ss s es is first =
      let w : World = left_to ss (world_of m s) in
      let none : log_len es ≡ 0 = ap length first in
      let all : s.live ≡ log_len es + s.live = omega (arith, none) in
      ap (λ l. record (running w is) { events = l }) (sym first)
      ∙ ap (λ n. record (running w is) { events = listed_in es; reserved = n }) (owed (log_len s.events) s.live ∙ all)

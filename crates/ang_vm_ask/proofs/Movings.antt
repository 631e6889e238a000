-- Pieces of a run that leave the drivers and the events as they are.
use Rattle.std.proofs.Common.{ℕ, ◌≤◌, List, refl, arith}
use Rattle.ang_host.specs.Logs.{listed_in}
use Rattle.ang_host.specs.declared.event.Role.{Role}
use Rattle.ang_host.specs.Meanings.{Meanings}
use Rattle.ang_host.specs.Boxes.{members}
use Rattle.ang_heap.specs.declared.globals.Globals.{Globals}
use Rattle.ang_heap.specs.declared.heap.Heap.{Heap}
use Rattle.ang_heap.specs.declared.store.Store.{Store}
use Rattle.ang_heap.specs.Heaps.{IsTallied, IsLess}
use Rattle.ang_heap.specs.Stores.{StoreMoves}
use Rattle.ang_heap.proofs.Hosting.{parts_none}
use Rattle.ang_heap.proofs.Storing.{moves_objects}

pub moves_globals : {V : Type 0} {P : V → Type 0} (m : Meanings P) (roles : List Role) (s : Store V P) (gs : Globals) → StoreMoves m roles s (record s { globals = gs })
moves_globals m roles s gs = record {
  parts = parts_none m roles (members s.drivers) (listed_in s.events);
  ready = λ r. record { kept = record { drivers = r.kept.drivers; alive = r.kept.alive; none = r.kept.none; due = r.kept.due; tallied = r.kept.tallied }; room = r.room };
  heard = refl;
  limits = refl;
  within = λ r n k o a w. record { slots = w.slots; events = w.events; objects = w.objects };
  made = λ n l h. h;
}

-- a heap that counts what its objects take still does so, and they take more only within the limit
pub moves_heap : {V : Type 0} {P : V → Type 0} (m : Meanings P) (roles : List Role) (s : Store V P) (h : Heap) → (IsTallied s.heap → IsTallied h)
    → ((n : ℕ) → s.heap.slots ≤ n → s.limits.slots ≤ n → h.slots ≤ n) → StoreMoves m roles s (record s { heap = h })
moves_heap m roles s h tallied grown = moves_objects m roles s h tallied grown

-- the same of one whose objects take no more than before
pub moves_heap_within : {V : Type 0} {P : V → Type 0} (m : Meanings P) (roles : List Role) (s : Store V P) (h : Heap) → (IsTallied s.heap → IsTallied h) → IsLess s.heap h
    → StoreMoves m roles s (record s { heap = h })
moves_heap_within m roles s h tallied less = moves_objects m roles s h tallied (λ n a b. omega (arith, less, a))

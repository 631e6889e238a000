-- Objects with counts, as a driver keeps them (the AngelScript manual, "Registering reference types"; docs/RATTLE_HOST.md).
use Rattle.std.specs.Prelude.{ℕ, ◌+◌, ◌-◌, ◌≡◌, cond, Bool, true, false, List, Some, None, map as list_map}
use Rattle.std.specs.Ordering.{nat_cmp}
use Rattle.std.specs.FinMap as map
use Rattle.ang_host.specs.declared.answer.Made.{Made}
use Rattle.ang_host.specs.declared.answer.Made.TheVariants.{Key as MadeKey, Nothing, Fault as MadeFault, Memory as MadeMemory, Full as MadeFull}
use Rattle.ang_host.specs.State.{Tally, limit, count_at}
use Rattle.ang_host.specs.Laws.{one_asked}

-- the part of each object that f reads, by the object's key
unfoldable pub by_key : {O V : Type 0} → (O → V) → List (ℕ × O) → map.FinMap nat_cmp V
by_key f es = map.from_entries (list_map (λ e. (e.0, f e.1)) es)

-- one reference more to the key k
abbrev pub one_more : map.FinMap nat_cmp ℕ → ℕ → map.FinMap nat_cmp ℕ
one_more m k = map.insert m k (count_at m k + 1)

-- one reference fewer to the key k where b is true, and else the same
abbrev pub one_less_if : Bool → map.FinMap nat_cmp ℕ → ℕ → map.FinMap nat_cmp ℕ
one_less_if b m k = cond b (map.insert m k (count_at m k - 1)) m

-- objects without their counts: the key that the next one gets, and the value of each live one
pub record Table (T : Type 0) : Type 0 where
  pub next : ℕ
  pub values : map.FinMap nat_cmp T

-- objects with the references to each, and the tallies
pub record Ledger (T : Type 0) : Type 0 where
  pub counts : map.FinMap nat_cmp ℕ
  pub table : Table T
  pub tally : Tally

-- no object was made yet, and so many host calls are counted
abbrev pub begun : {T : Type 0} → ℕ → Ledger T
begun asked = record {
  counts = map.empty;
  table = record { next = 0; values = map.empty };
  tally = record { asked = asked; made = 0; added = 0; released = 0 };
}

-- no object was made yet, and nothing was asked
abbrev pub fresh : {T : Type 0} → Ledger T
fresh = begun 0

-- a key with a count
abbrev pub IsHeld : {T : Type 0} → Ledger T → ℕ → Type 0
IsHeld s k = (n : ℕ) × (map.get s.counts k ≡ Some n)

-- the object of the key k has the value v
abbrev pub with_value : {T : Type 0} → Table T → ℕ → T → Table T
with_value x k v = record { next = x.next; values = map.insert x.values k v }

-- the object of the key k is gone; nothing else changes
abbrev pub without : {T : Type 0} → Table T → ℕ → Table T
without x k = record { next = x.next; values = map.remove x.values k }

-- one object more, of the value v: keys rise from 0, so none is used again
abbrev pub with_new : {T : Type 0} → Table T → T → Table T
with_new x v = record { next = x.next + 1; values = map.insert x.values x.next v }

-- a host call is counted; false where the tally of host calls is full
abbrev pub Asks : {T : Type 0} → Ledger T → Bool → Ledger T → Type 0
Asks s true t = t ≡ record s { tally = one_asked s.tally }
Asks s false t = (t ≡ s) × (s.tally.asked ≡ limit)

-- an object of the value v is made, of the key k with one reference
pub record Inserts {T : Type 0} (s : Ledger T) (v : T) (k : ℕ) (t : Ledger T) : Type 0 where
  pub key : k ≡ s.table.next
  pub unused : map.get s.counts k ≡ None
  pub counts : t.counts ≡ map.insert s.counts k 1
  pub table : t.table ≡ with_new s.table v
  pub tally : t.tally ≡ record s.tally { made = s.tally.made + 1 }

-- a host call for an object of the value v, for which there may be no memory
abbrev pub MakesOne : {T : Type 0} → Ledger T → T → Made → Ledger T → Type 0
MakesOne s v (MadeKey k) t = Inserts s v k t
MakesOne s v MadeMemory t = t ≡ s
MakesOne s v Nothing t = ⊥
MakesOne s v (MadeFault n) t = ⊥
MakesOne s v MadeFull t = ⊥

-- the object of the key k gets the value v, and all else stays
abbrev pub IsRevalued : {T : Type 0} → Ledger T → ℕ → T → Ledger T → Type 0
IsRevalued s k v t = t ≡ record s { table = with_value s.table k v }

-- a reference to the key k is added; false where the tally of these is full
abbrev pub AddsOne : {T : Type 0} → Ledger T → ℕ → Bool → Ledger T → Type 0
AddsOne s k true t =
    (n : ℕ) × (map.get s.counts k ≡ Some n) × (t.counts ≡ map.insert s.counts k (n + 1)) × (t.table ≡ s.table)
    × (t.tally ≡ record s.tally { added = s.tally.added + 1 })
AddsOne s k false t = (t ≡ s) × (s.tally.added ≡ limit)

-- a reference to the key k is released; true where it was the last, and then the object is gone
abbrev pub ReleasesOne : {T : Type 0} → Ledger T → ℕ → Bool → Ledger T → Type 0
ReleasesOne s k true t =
    (map.get s.counts k ≡ Some 1) × (t.counts ≡ map.remove s.counts k) × (t.table ≡ without s.table k)
    × (t.tally ≡ record s.tally { released = s.tally.released + 1 })
ReleasesOne s k false t =
    (n : ℕ) × (map.get s.counts k ≡ Some (n + 2)) × (t.counts ≡ map.insert s.counts k (n + 1)) × (t.table ≡ s.table)
    × (t.tally ≡ record s.tally { released = s.tally.released + 1 })

-- Objects by key in pages of 64 keys each.
use mathlib.Core.HLevel.{×_prop, ×₃_prop, Unit-prop}
use Rattle.std.specs.Prelude.{ℕ, ◌+◌, ◌*◌, ◌≡◌, ◌<◌, ◌≤◌, min, Bool, not, cond, nat_eq, IsSome, List, [], ◌∷◌, length, slice_index_or, Vec, vec_len}
use Rattle.std.specs.List.{filter}
use Rattle.std.specs.Map.{lookup}
use Rattle.std.specs.BTreeMap.{is_at}
use Rattle.std.specs.Ordering.{nat_cmp}
use Rattle.std.specs.declared.alloc.Global.{Global}
use Rattle.std.proofs.Props.{props}

-- what a page has: objects with their keys
abbrev pub objects_in : {O : Type 0} → Vec (ℕ × O) Global → List (ℕ × O)
objects_in v = v.items

-- the keys rise, from low on and below high
abbrev pub IsRising : {E : Type 0} → ℕ → ℕ → List (ℕ × E) → Type 0
IsRising low high [] = Unit {0}
IsRising low high (e ∷ es) = (low ≤ e.0) × (e.0 < high) × IsRising (e.0 + 1) high es

-- an entry of the key k stands at the place i
abbrev pub IsEntryAt : {E : Type 0} → List (ℕ × E) → ℕ → ℕ → Type 0
IsEntryAt {E} es k i = (i < length es) × ((d : ℕ × E) → (slice_index_or es i d).0 ≡ k)

-- each key below n has an entry
abbrev pub HasEachBelow : {E : Type 0} → ℕ → List (ℕ × E) → Type 0
HasEachBelow n es = (k : ℕ) → k < n → IsSome (lookup (is_at (nat_cmp k)) es)

-- pages by number, from the number low on, of objects whose keys are the page's own and below next; f tells what a page has
abbrev pub ArePages : {O V : Type 0} → (V → List (ℕ × O)) → ℕ → ℕ → List (ℕ × V) → Type 0
ArePages f low next [] = Unit {0}
ArePages f low next (p ∷ ps) =
    (low ≤ p.0) × (64 * p.0 ≤ next) × (IsRising (64 * p.0) (min (64 * p.0 + 64) next) (f p.1) × ArePages f (p.0 + 1) next ps)

-- a page without objects
abbrev pub is_blank : {O : Type 0} → ℕ × Vec (ℕ × O) Global → Bool
is_blank p = nat_eq (vec_len p.1) 0

-- the same pages, or those of them that have objects
abbrev pub IsThinned : {O : Type 0} → List (ℕ × Vec (ℕ × O) Global) → List (ℕ × Vec (ℕ × O) Global) → Type 0
IsThinned old new = (b : Bool) × (new ≡ cond b (filter (λ p. not (is_blank p)) old) old)

-- each of these facts has one proof at most
pub IsRising-prop : {E : Type 0} (low high : ℕ) (es : List (ℕ × E)) → IsProp (IsRising low high es)
IsRising-prop low high [] = Unit-prop
IsRising-prop low high (e ∷ es) =
    let from : IsProp (low ≤ e.0) = Prim.hlevel props in
    let to : IsProp (e.0 < high) = Prim.hlevel props in
    ×₃_prop from to (IsRising-prop (e.0 + 1) high es)

pub ArePages-prop : {O V : Type 0} (f : V → List (ℕ × O)) (low next : ℕ) (ps : List (ℕ × V)) → IsProp (ArePages f low next ps)
ArePages-prop f low next [] = Unit-prop
ArePages-prop f low next (p ∷ ps) =
    let from : IsProp (low ≤ p.0) = Prim.hlevel props in
    let to : IsProp (64 * p.0 ≤ next) = Prim.hlevel props in
    ×₃_prop from to (×_prop (IsRising-prop (64 * p.0) (min (64 * p.0 + 64) next) (f p.1)) (ArePages-prop f (p.0 + 1) next ps))

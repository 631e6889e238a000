-- Items by a scope's number and a name: for each two that were used, the items in the order in which they were put in.
use Rattle.std.specs.Prelude.{ℕ, ◌≡◌, ◌==◌, Bool, ◌&&◌, if◌then◌else◌, List, [], ◌∷◌, ◌++◌, map, Option, bytes_eq}
use Rattle.std.specs.Map.{lookup}
use Rattle.ang_index.specs.declared.key.Key.{Key}

-- a row of items under each scope's number and name
abbrev pub Rows : Type 0 → Type 0
Rows T = List ((ℕ × List ℕ) × List T)

-- the two are this scope's number and this name
abbrev pub is_under : ℕ → List ℕ → ℕ × List ℕ → Bool
is_under scope name k = k.0 == scope && bytes_eq k.1 name

-- The items under a scope's number and a name, in the order in which they were put in.
abbrev pub items_at : {T : Type 0} → ℕ → List ℕ → Rows T → List T
items_at scope name [] = []
items_at scope name (r ∷ rs) = if is_under scope name r.0 then r.1 else items_at scope name rs

-- x is put in under a scope's number and a name: it stands after all that were there, and under all others nothing changes
abbrev pub Puts : {T : Type 0} → Rows T → Rows T → ℕ → List ℕ → T → Type 0
Puts old new scope name x = (t : ℕ) (other : List ℕ) →
    items_at t other new ≡ (if is_under t other (scope, name) then items_at t other old ++ x ∷ [] else items_at t other old)

-- what stands under a scope's number and a name is changed by f, and under all others nothing changes
abbrev pub Changes : {T : Type 0} → Rows T → Rows T → ℕ → List ℕ → (List T → List T) → Type 0
Changes old new scope name f = (t : ℕ) (other : List ℕ) →
    items_at t other new ≡ (if is_under t other (scope, name) then f (items_at t other old) else items_at t other old)

-- ---- as the table has them

abbrev pub rows_of : {T : Type 0} → List (Key × List T) → Rows T
rows_of es = map (λ e. ((e.0.scope, e.0.name.items), e.1)) es

-- whether a key is the one that is looked for
abbrev pub is_asked : ℕ → List ℕ → Key → Bool
is_asked scope name k = scope == k.scope && bytes_eq name k.name.items

abbrev pub lookup_asked : {T : Type 0} → ℕ → List ℕ → List (Key × List T) → Option (List T)
lookup_asked scope name es = lookup (is_asked scope name) es

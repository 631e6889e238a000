-- The names of a build's scripts as an index keeps them: of each kind the places of each name, rising.
use Rattle.std.specs.Prelude.{ℕ, ◌≡◌, ◌+◌, ◌==◌, if◌then◌else◌, List, [], ◌∷◌, ◌++◌, map, Option, Some, None, bytes_eq, slice_get}
use Rattle.ang_index.specs.Rows.{Rows, items_at}
use Rattle.ang_names_known.specs.declared.names.Family.{Family}
use Rattle.ang_names_known.specs.declared.names.Field.{Field}
use Rattle.ang_names_known.specs.declared.names.ScriptMethod.{ScriptMethod}
use Rattle.ang_names_known.specs.declared.names.Names.{Names}
use Rattle.ang_names_known.specs.declared.names.ScriptFunction.{ScriptFunction}
use Rattle.ang_names_known.specs.declared.names.ScriptGlobal.{ScriptGlobal}
use Rattle.ang_names_known.specs.Lookup.{fields_in}
use Rattle.ang_names_known.specs.Nearest.{methods_declared}

abbrev pub places_from : ℕ → List (List ℕ) → List ℕ → List ℕ
places_from n [] name = []
places_from n (x ∷ xs) name = if bytes_eq x name then n ∷ places_from (n + 1) xs name else places_from (n + 1) xs name

-- The places of a name among some names, rising.
abbrev pub places_of : List (List ℕ) → List ℕ → List ℕ
places_of xs name = places_from 0 xs name

abbrev pub function_names : List ScriptFunction → List (List ℕ)
function_names fs = map (λ (f : ScriptFunction). f.name) fs

abbrev pub global_names : List ScriptGlobal → List (List ℕ)
global_names gs = map (λ (g : ScriptGlobal). g.name) gs

abbrev pub families_names : List Family → List (List ℕ)
families_names fs = map (λ (f : Family). f.name) fs

-- the places of some names are put in under a scope's number, after what stands there
abbrev pub PutsAll : Rows ℕ → Rows ℕ → ℕ → List (List ℕ) → Type 0
PutsAll old new scope names = (s : ℕ) (name : List ℕ) →
    items_at s name new ≡ items_at s name old ++ (if scope == s then places_of names name else [])

-- those of functions, imports and globals, each in its scope
abbrev pub PutsKinds : Rows ℕ → Rows ℕ → Names → Type 0
PutsKinds old new N = (s : ℕ) (name : List ℕ) →
    items_at s name new
    ≡ ((items_at s name old ++ (if 1 == s then places_of (function_names N.functions) name else []))
    ++ (if 2 == s then places_of (function_names N.imports) name else []))
    ++ (if 3 == s then places_of (global_names N.globals) name else [])

abbrev pub first_place : List ℕ → Option ℕ
first_place [] = None
first_place (p ∷ ps) = Some p

-- the rows have the names of all declarations in scope 0, and those of functions, imports, globals and families in 1 to 4
pub record IndexesKinds (N : Names) (rows : Rows ℕ) : Type 0 where
  pub in_declared : (name : List ℕ) → items_at 0 name rows ≡ places_of N.declared name
  pub in_functions : (name : List ℕ) → items_at 1 name rows ≡ places_of (function_names N.functions) name
  pub in_imports : (name : List ℕ) → items_at 2 name rows ≡ places_of (function_names N.imports) name
  pub in_globals : (name : List ℕ) → items_at 3 name rows ≡ places_of (global_names N.globals) name
  pub in_families : (name : List ℕ) → items_at 4 name rows ≡ places_of (families_names N.families) name

-- ---- members of families

-- the names of the fields that a family declares itself, in order of declaration
abbrev pub field_names : Option Family → List (List ℕ)
field_names f = map (λ (x : Field). x.name) (fields_in f)

-- those of its methods
abbrev pub method_names : Option Family → List (List ℕ)
method_names f = map (λ (m : ScriptMethod). m.function.name) (methods_declared f)

-- the rows have in the scope of each family's number the places of its members' names among these members
abbrev pub IndexesMembers : (Option Family → List (List ℕ)) → List Family → Rows ℕ → Type 0
IndexesMembers names fs rows = (c : ℕ) (name : List ℕ) → items_at c name rows ≡ places_of (names (slice_get fs c)) name

abbrev pub IndexesFields : List Family → Rows ℕ → Type 0
IndexesFields fs rows = IndexesMembers field_names fs rows

abbrev pub IndexesMethods : List Family → Rows ℕ → Type 0
IndexesMethods fs rows = IndexesMembers method_names fs rows

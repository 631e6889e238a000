-- The declarations before one, found by name and counted by kind.
use Rattle.std.specs.Prelude.{ℕ, ◌≡◌, ◌+◌, Bool, false, if◌then◌else◌, List, [], ◌∷◌, ◌++◌, Option, Some, None, bytes_eq, map, count_by, length, slice_get}
use Rattle.ang_tree.specs.declared.declaration.Parameter.{Parameter}
use Rattle.ang_index.specs.Rows.{Rows, items_at}
use Rattle.ang_names_known.specs.NameIndex.{places_of}
use Rattle.ang_names_listed.specs.declared.earlier.Counts.{Counts}
use Rattle.ang_names_listed.specs.declared.listed.ListedDeclaration.{ListedDeclaration}
use Rattle.ang_names_listed.specs.declared.listed.Part.{Part}
use Rattle.ang_names_listed.specs.declared.listed.Part.TheVariants as part
use Rattle.ang_names_listed.specs.Declarations.{declared_name, families_of}
use Rattle.ang_names_listed.specs.Spellings.{codes_of}
use Rattle.ang_names_listed.specs.Taken.{clashes, declares_function, declares_global, declares_import}

-- the parameters of a function or an import
abbrev pub params_of : Part → Option (List Parameter)
params_of (part.Family s) = None
params_of (part.Function y ps) = Some ps
params_of (part.Import y ps) = Some ps
params_of (part.Global y) = None

-- what functions are found by: those of one name that can't overload have one key, which no bare name is
abbrev pub function_key : ListedDeclaration → List Parameter → List ℕ
function_key d ps = declared_name d ++ 0 ∷ codes_of d.text ps

abbrev pub key_with : ListedDeclaration → Option (List Parameter) → List ℕ
key_with d None = declared_name d
key_with d (Some ps) = function_key d ps

-- what a declaration is found by: all but functions by their names
abbrev pub key_of : ListedDeclaration → List ℕ
key_of d = key_with d (params_of d.part)

-- the numbers of those of a name, rising
unfoldable pub named : List ListedDeclaration → List ℕ → List ℕ
named ds name = places_of (map declared_name ds) name

-- the numbers of those of a key, rising
unfoldable pub keyed : List ListedDeclaration → List ℕ → List ℕ
keyed ds key = places_of (map key_of ds) key

-- the rows have the places of each name, in scope 0, and those of each key, in scope 1
pub record HasPlaces (ds : List ListedDeclaration) (rows : Rows ℕ) : Type 0 where
  pub names : (name : List ℕ) → items_at 0 name rows ≡ named ds name
  pub keys : (key : List ℕ) → items_at 1 key rows ≡ keyed ds key

abbrev pub put_at : List ℕ → List ℕ → ℕ → List ℕ → List ℕ
put_at own key n places = if bytes_eq own key then places ++ n ∷ [] else places

-- the number of a declaration is put in, under its name and under its key
pub record PutsPlaces (old new : Rows ℕ) (d : ListedDeclaration) (n : ℕ) : Type 0 where
  pub under_name : (name : List ℕ) → items_at 0 name new ≡ put_at (declared_name d) name n (items_at 0 name old)
  pub under_key : (key : List ℕ) → items_at 1 key new ≡ put_at (key_of d) key n (items_at 1 key old)

-- the declaration can't stand beside the one that may stand there
abbrev pub clashes_with : ListedDeclaration → Option ListedDeclaration → Bool
clashes_with d None = false
clashes_with d (Some earlier) = clashes d earlier

-- the declaration can't stand beside the earlier one of this number
abbrev pub clashes_at : List ListedDeclaration → ListedDeclaration → ℕ → Bool
clashes_at before d n = clashes_with d (slice_get before n)

abbrev pub counts_of : List ListedDeclaration → Counts
counts_of ds = record {
  families = length (families_of ds);
  functions = count_by (λ (d : ListedDeclaration). declares_function d.part) ds;
  imports = count_by (λ (d : ListedDeclaration). declares_import d.part) ds;
  globals = count_by (λ (d : ListedDeclaration). declares_global d.part) ds;
}

-- with one declaration more
abbrev pub counted : Counts → Part → Counts
counted c (part.Family s) = record c { families = c.families + 1 }
counted c (part.Function y ps) = record c { functions = c.functions + 1 }
counted c (part.Import y ps) = record c { imports = c.imports + 1 }
counted c (part.Global y) = record c { globals = c.globals + 1 }

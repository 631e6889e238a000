-- Methods found by key, so that the first of a signature is looked for among those of its key.
use Rattle.std.specs.Prelude.{ℕ, ◌≡◌, Bool, false, List, map, Option, Some, None, slice_get}
use Rattle.ang_index.specs.Rows.{Rows, items_at}
use Rattle.ang_names_known.specs.declared.names.ScriptFunction.{ScriptFunction}
use Rattle.ang_names_known.specs.NameIndex.{places_of}
use Rattle.ang_names_classes.specs.Headings.{same_signature}
use Rattle.ang_names_classes.specs.Keys.{method_key}

-- the numbers of the methods of a key, rising
abbrev pub methods_keyed : List (ScriptFunction × Bool) → List ℕ → List ℕ
methods_keyed all key = places_of (map method_key all) key

-- the rows have the numbers of the methods of each key, in scope 0
pub record HasNumbers (all : List (ScriptFunction × Bool)) (rows : Rows ℕ) : Type 0 where
  pub numbers : (key : List ℕ) → items_at 0 key rows ≡ methods_keyed all key

abbrev pub is_same_in : ScriptFunction × Bool → Option (ScriptFunction × Bool) → Bool
is_same_in s None = false
is_same_in s (Some t) = same_signature s t

-- the method of this number is of the signature
abbrev pub is_same_at : List (ScriptFunction × Bool) → ScriptFunction × Bool → ℕ → Bool
is_same_at all s n = is_same_in s (slice_get all n)

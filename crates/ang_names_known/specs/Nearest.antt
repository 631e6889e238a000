-- The methods of a name, family by family and place by place.
use Rattle.std.specs.Prelude.{ℕ, ◌≡◌, nat_eq, List, [], ◌∷◌, ◌++◌, map, filter, drop, Option, Some, None, option_map, option_to_list, slice_get}
use Rattle.std.specs.HashSet.{HashSet, contains}
use Rattle.std.specs.List.{list_any}
use Rattle.ang_names_known.specs.declared.names.Family.{Family}
use Rattle.ang_names_known.specs.declared.names.ScriptMethod.{ScriptMethod}
use Rattle.ang_names_known.specs.Lookup.{FoundMethod, is_named, if_nearest, stands_in}

-- the methods that a family declares itself
abbrev pub methods_declared : Option Family → List ScriptMethod
methods_declared None = []
methods_declared (Some f) = f.methods

abbrev pub of_owner : ℕ → ScriptMethod → FoundMethod
of_owner n m = record { owner = n; method = m }

-- those of a name among some methods of family n
abbrev pub named_among : List ℕ → ℕ → List ScriptMethod → List FoundMethod
named_among name n ms = filter (is_named name) (map (of_owner n) ms)

-- the methods of family n at some places of those that it declares
abbrev pub at_places : ℕ → List ScriptMethod → List ℕ → List FoundMethod
at_places n ms [] = []
at_places n ms (p ∷ ps) = option_to_list (option_map (of_owner n) (slice_get ms p)) ++ at_places n ms ps

-- what a method adds to the nearest ones of a name
abbrev pub nearest_at : List FoundMethod → Option FoundMethod → List FoundMethod
nearest_at before None = []
nearest_at before (Some x) = if_nearest before x

-- a set has the slots of all methods after the first eight
abbrev pub HasSlots : {S : Type 0} → HashSet ℕ S → List FoundMethod → Type 0
HasSlots slots found = (slot : ℕ) → contains nat_eq slots slot ≡ list_any (stands_in slot) (drop 8 found)

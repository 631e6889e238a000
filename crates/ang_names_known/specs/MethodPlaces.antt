-- Methods by their places: the family that declares one, and its place among the methods of that.
use Rattle.std.specs.Prelude.{ℕ, ◌≡◌, Bool, false, List, map, slice_get, Option, Some, None, option_map, option_to_list}
use Rattle.std.specs.List.{flat_map}
use Rattle.ang_names_known.specs.declared.methods.MethodPlace.{MethodPlace}
use Rattle.ang_names_known.specs.declared.names.Family.{Family}
use Rattle.ang_names_known.specs.Lookup.{FoundMethod, stands_in}
use Rattle.ang_names_known.specs.Nearest.{methods_declared, of_owner}

abbrev pub found_at : List Family → MethodPlace → Option FoundMethod
found_at fs at = option_map (of_owner at.owner) (slice_get (methods_declared (slice_get fs at.owner)) at.place)

abbrev pub found_in : List Family → List MethodPlace → List FoundMethod
found_in fs ps = flat_map (λ (p : MethodPlace). option_to_list (found_at fs p)) ps

-- a method stands at each place
abbrev pub AreFound : List Family → List MethodPlace → Type 0
AreFound fs ps = map (found_at fs) ps ≡ map Some (found_in fs ps)

abbrev pub stands_with : ℕ → Option FoundMethod → Bool
stands_with slot None = false
stands_with slot (Some x) = stands_in slot x

abbrev pub stands_at : List Family → ℕ → MethodPlace → Bool
stands_at fs slot at = stands_with slot (found_at fs at)

-- a method of this slot stands at a place
abbrev pub HasMethodOfSlot : List Family → MethodPlace → ℕ → Type 0
HasMethodOfSlot fs at slot = (m : FoundMethod) × ((found_at fs at ≡ Some m) × (m.method.slot ≡ slot))

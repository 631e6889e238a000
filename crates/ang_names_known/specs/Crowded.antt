-- Lists of the methods of a name that a family has, which are made once.
use Rattle.std.specs.Prelude.{ℕ, ◌≡◌, List, map, slice_get, Option, Some, None, Vec}
use Rattle.std.specs.declared.alloc.Global.{Global}
use Rattle.ang_index.specs.Rows.{items_at}
use Rattle.ang_names_known.specs.declared.crowded.CrowdedMethods.{CrowdedMethods}
use Rattle.ang_names_known.specs.declared.methods.MethodPlace.{MethodPlace}
use Rattle.ang_names_known.specs.declared.names.Family.{Family}
use Rattle.ang_names_known.specs.Lookup.{methods_named}
use Rattle.ang_names_known.specs.MethodPlaces.{AreFound, found_in}

-- a list is that of the methods of a name that a family has
pub record IsList (fs : List Family) (c : ℕ) (name : List ℕ) (list : List MethodPlace) : Type 0 where
  pub there : AreFound fs list
  pub exact : found_in fs list ≡ methods_named fs c name

abbrev pub lists_of : CrowdedMethods → List (List MethodPlace)
lists_of m = map (λ (v : Vec MethodPlace Global). v.items) m.lists.items

-- such a list is there
abbrev pub HasList : List Family → ℕ → List ℕ → Option (List MethodPlace) → Type 0
HasList fs c name None = ⊥
HasList fs c name (Some list) = IsList fs c name list

-- each number under a family and a name is that of their list
abbrev pub AreRight : List Family → CrowdedMethods → Type 0
AreRight fs m = (c n i : ℕ) (name : List ℕ) → slice_get (items_at c name m.numbers) i ≡ Some n → HasList fs c name (slice_get (lists_of m) n)

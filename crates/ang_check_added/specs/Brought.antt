-- What comes with an entry where it is added, of that whose own mask is not met: the entry, and the types that its declaration names.
use Rattle.std.specs.Prelude.{ℕ, ◌≡◌, ◌==◌, Bool, true, false, ◌&&◌, if◌then◌else◌, List, [], ◌∷◌, ◌++◌, filter, map, Option, Some, None}
use Rattle.std.specs.List.{flat_map, list_any}
use Rattle.ang_kinds.specs.declared.mask.EntityNo.{EntityNo}
use Rattle.ang_kinds.specs.declared.types.Param.{Param}
use Rattle.ang_kinds.specs.declared.types.Signature.{Signature}
use Rattle.ang_kinds.specs.declared.types.TypeRef.{TypeRef}
use Rattle.ang_view.specs.declared.entry.Entry.{Entry}
use Rattle.ang_view.specs.Hidden.{is_unmet, numbers_of}
use Rattle.ang_view.specs.Named.{is_type_entry}
use Rattle.ang_view.specs.Registration.{RegistrationList, entry_at, is_type}
use Rattle.ang_view.specs.SeenTypes.{is_spelled_type}
use Rattle.ang_names_known.specs.Kinds.{Rows}
use Rattle.ang_names_known.specs.KindRows.{row_at}

-- the numbers of all types of a list, rising
unfoldable pub all_types : RegistrationList → List ℕ
all_types R = filter (λ k. is_type_entry (entry_at R k)) (numbers_of R)

-- entry k is a type that is spelled so, and its own mask does not meet m
abbrev pub is_unmet_type : RegistrationList → ℕ → TypeRef → ℕ → Bool
is_unmet_type R m ty k = is_unmet R m k && is_spelled_type ty (entry_at R k)

-- the numbers of these types, rising
unfoldable pub unmet_spelled : RegistrationList → ℕ → TypeRef → List ℕ
unmet_spelled R m ty = filter (is_unmet_type R m ty) (numbers_of R)

-- the own type of an entry, where the type's mask does not meet m
abbrev pub unmet_owner : RegistrationList → ℕ → Option EntityNo → List ℕ
unmet_owner R m None = []
unmet_owner R m (Some k) = if is_unmet R m k.0 && is_type_entry (entry_at R k.0) then k.0 ∷ [] else []

-- the types of a signature whose own masks do not meet m: each as often as it is spelled
abbrev pub unmet_in : RegistrationList → ℕ → Signature → List ℕ
unmet_in R m s = unmet_spelled R m s.result ++ flat_map (λ (p : Param). unmet_spelled R m p.ty) s.params

-- the types that the declaration of an entry names and whose own masks do not meet m; a type names none
abbrev pub unmet_named : RegistrationList → ℕ → Option Entry → List ℕ
unmet_named R m None = []
unmet_named R m (Some x) = if is_type x.kind then [] else unmet_owner R m x.owner ++ unmet_in R m x.signature

-- what comes with entry x, of that whose own mask does not meet m
unfoldable pub brought : RegistrationList → ℕ → ℕ → List ℕ
brought R m x = (if is_unmet R m x then x ∷ [] else []) ++ unmet_named R m (entry_at R x)

-- the same of each entry of a list
unfoldable pub all_brought : RegistrationList → ℕ → Rows
all_brought R m = map (λ x. Some (brought R m x)) (numbers_of R)

-- ---- entries that come alone

abbrev pub is_only : ℕ → List ℕ → Bool
is_only x [] = false
is_only x (k ∷ []) = k == x
is_only x (k ∷ l ∷ ks) = false

-- Entry x comes alone: its own mask does not meet m, and no type comes with it.
abbrev pub is_alone : RegistrationList → ℕ → ℕ → Bool
is_alone R m x = is_only x (brought R m x)

abbrev pub are_alone : RegistrationList → ℕ → List ℕ → Bool
are_alone R m [] = true
are_alone R m (x ∷ xs) = is_alone R m x && are_alone R m xs

-- these are numbers of the list, in their order and each once
abbrev pub AreInOrder : RegistrationList → List ℕ → Type 0
AreInOrder R ns = ns ≡ filter (λ y. list_any (λ k. k == y) ns) (numbers_of R)

-- ---- rows of numbers

abbrev pub numbers_of_row : Option (List ℕ) → List ℕ
numbers_of_row None = []
numbers_of_row (Some ns) = ns

-- the numbers of the row at a place, none past the end
abbrev pub numbers_at : Rows → ℕ → List ℕ
numbers_at rows n = numbers_of_row (row_at rows n)

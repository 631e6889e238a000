-- Whether a module of a mask sees the types that a declaration names: its own type, and each type that is spelled in its signature
-- (docs/HOST.md, "Masks").
use Rattle.std.specs.Prelude.{ℕ, Bool, true, false, not, ◌&&◌, ◌||◌, filter, Option, Some, None}
use Rattle.std.specs.List.{list_all}
use Rattle.ang_kinds.specs.declared.mask.EntityNo.{EntityNo}
use Rattle.ang_kinds.specs.declared.types.Signature.{Signature}
use Rattle.ang_kinds.specs.declared.types.TypeRef.{TypeRef}
use Rattle.ang_view.specs.declared.entry.Entry.{Entry}
use Rattle.ang_view.specs.Hidden.{numbers_of}
use Rattle.ang_view.specs.Named.{is_type_entry}
use Rattle.ang_view.specs.Registration.{RegistrationList, entry_at, has_mask_for, is_spelled_with, is_type}

-- an entry is a type that is spelled so
abbrev pub is_spelled_type : TypeRef → Option Entry → Bool
is_spelled_type ty None = false
is_spelled_type ty (Some t) = is_type t.kind && is_spelled_with t.signature.name ty

-- an entry has a mask that meets m, if it is a type that is spelled so
abbrev pub meets_if_spelled : ℕ → TypeRef → Option Entry → Bool
meets_if_spelled m ty o = not (is_spelled_type ty o) || has_mask_for m o

-- each type of a list that is spelled so has a mask that meets m
abbrev pub meets_spelled : RegistrationList → ℕ → TypeRef → Bool
meets_spelled V m ty = list_all (λ n. has_mask_for m (entry_at V n)) (filter (λ n. is_spelled_type ty (entry_at V n)) (numbers_of V))

abbrev pub meets_signature : RegistrationList → ℕ → Signature → Bool
meets_signature V m s = meets_spelled V m s.result && list_all (λ p. meets_spelled V m p.ty) s.params

-- the own type of an entry has a mask that meets m
abbrev pub meets_owner : RegistrationList → ℕ → Option EntityNo → Bool
meets_owner V m None = true
meets_owner V m (Some e) = not (is_type_entry (entry_at V e.0)) || has_mask_for m (entry_at V e.0)

-- Whether a declaration names a type of a group: its own type, and each type that is spelled in its signature (docs/HOST.md, "Groups").
use Rattle.std.specs.Prelude.{ℕ, Bool, false, not, ◌&&◌, ◌||◌, Option, Some, None}
use Rattle.std.specs.List.{list_any}
use Rattle.ang_kinds.specs.declared.mask.EntityNo.{EntityNo}
use Rattle.ang_kinds.specs.declared.types.Signature.{Signature}
use Rattle.ang_kinds.specs.declared.types.TypeRef.{TypeRef}
use Rattle.ang_view.specs.declared.entry.Entry.{Entry}
use Rattle.ang_view.specs.declared.group.Group.{Group}
use Rattle.ang_view.specs.Groups.{is_in}
use Rattle.ang_view.specs.Hidden.{numbers_of}
use Rattle.ang_view.specs.Named.{is_type_entry}
use Rattle.ang_view.specs.Registration.{RegistrationList, entry_at, is_type}
use Rattle.ang_view.specs.SeenTypes.{is_spelled_type}

-- the entry of a number is of the group, and a type that is spelled so
abbrev pub spelled_here : Group → TypeRef → ℕ → Option Entry → Bool
spelled_here g ty n o = is_in g n && is_spelled_type ty o

-- a type that is spelled so is of the group
abbrev pub spelled_in : RegistrationList → Group → TypeRef → Bool
spelled_in R g ty = list_any (λ n. spelled_here g ty n (entry_at R n)) (numbers_of R)

-- a type that is spelled in a signature is of the group
abbrev pub signature_in : RegistrationList → Group → Signature → Bool
signature_in R g s = spelled_in R g s.result || list_any (λ p. spelled_in R g p.ty) s.params

-- the own type of an entry is of the group
abbrev pub owner_in : RegistrationList → Group → Option EntityNo → Bool
owner_in R g None = false
owner_in R g (Some e) = is_in g e.0 && is_type_entry (entry_at R e.0)

-- an entry that is no type itself has its own type in the group, or spells one of it
abbrev pub declared_in : RegistrationList → Group → Entry → Bool
declared_in R g x = not (is_type x.kind) && (owner_in R g x.owner || signature_in R g x.signature)

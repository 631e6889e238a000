-- The entries among which a registration is compared: those of its name or type, and those of its types' names.
use Rattle.std.specs.Prelude.{ℕ, Bool, false, not, ◌==◌, ◌&&◌, List, [], Option, Some, None}
use Rattle.ang_kinds.specs.declared.mask.EntityNo.{EntityNo}
use Rattle.ang_kinds.specs.declared.types.TypeRef.{TypeRef}
use Rattle.ang_kinds.specs.declared.types.TypeRef.TheVariants.{Void, Plain, Enumeration, Object}
use Rattle.ang_view.specs.declared.entry.Entry.{Entry}
use Rattle.ang_view.specs.declared.entry.EntryKind.{EntryKind}
use Rattle.ang_view.specs.declared.entry.EntryKind.TheVariants as entry
use Rattle.ang_view.specs.Named as view
use Rattle.ang_view.specs.Registration.{RegistrationList, is_spelled_with, is_host_type}

abbrev pub owned_by : RegistrationList → Option EntityNo → List ℕ → List ℕ
owned_by V None name = []
owned_by V (Some t) name = view.owned V t.0 name

abbrev pub made_by : RegistrationList → Option EntityNo → List ℕ
made_by V None = []
made_by V (Some t) = view.makers V t.0

-- the numbers of the entries whose name or type something of this kind, type and name shares
abbrev pub rivals : RegistrationList → EntryKind → Option EntityNo → List ℕ → List ℕ
rivals V entry.HostType owner name = view.find V name
rivals V entry.Factory owner name = made_by V owner
rivals V entry.Method owner name = owned_by V owner name
rivals V entry.Property owner name = owned_by V owner name
rivals V entry.Function owner name = view.find V name
rivals V entry.Global owner name = view.find V name
rivals V entry.Enumeration owner name = view.find V name
rivals V (entry.EnumValue v) owner name = owned_by V owner name

-- the entry is an object type of another driver, and a type is spelled with its name
abbrev pub is_spelled_foreign : ℕ → TypeRef → Option Entry → Bool
is_spelled_foreign driver ty None = false
is_spelled_foreign driver ty (Some t) = is_host_type t.kind && is_spelled_with t.signature.name ty && not (t.driver == driver)

-- the numbers of the entries of the name with which a type is spelled
abbrev pub spelled : RegistrationList → TypeRef → List ℕ
spelled V Void = []
spelled V (Plain p) = []
spelled V (Enumeration name) = view.find V name
spelled V (Object name shape const_object const_handle) = view.find V name

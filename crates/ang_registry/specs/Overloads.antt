-- What can stand beside what under one name (docs/HOST.md, "Names").
use Rattle.std.specs.Prelude.{Bool, true, false, ◌==◌, ◌&&◌, List, Option, Some, None}
use Rattle.std.specs.Cmp.Lexicographic.{pointwise}
use Rattle.std.specs.List.{list_any}
use Rattle.std.specs.Str.{bytes_eq}
use Rattle.std.proofs.Math.Bool.{beq}
use Rattle.ang_kinds.specs.declared.mask.EntityNo.{EntityNo}
use Rattle.ang_kinds.specs.declared.types.Shape.{Shape}
use Rattle.ang_kinds.specs.declared.types.Shape.TheVariants.{ByValue}
use Rattle.ang_kinds.specs.declared.types.Param.{Param}
use Rattle.ang_kinds.specs.declared.types.Signature.{Signature}
use Rattle.ang_kinds.specs.declared.types.TypeRef.{TypeRef}
use Rattle.ang_kinds.specs.declared.types.TypeRef.TheVariants as ref
use Rattle.ang_view.specs.declared.entry.Entry.{Entry}
use Rattle.ang_view.specs.declared.entry.EntryKind.{EntryKind}
use Rattle.ang_view.specs.declared.entry.EntryKind.TheVariants.{HostType, Factory, Method, Property, Function, Global, Enumeration, EnumValue}
use Rattle.ang_view.specs.Named.{is_bare, is_factory, is_value}
use Rattle.ang_view.specs.Numbers.{primitive_number, pass_number}
use Rattle.ang_view.specs.Registration.{RegistrationList}

-- a handle, which an auto handle is too
abbrev pub is_handle : Shape → Bool
is_handle ByValue = false
is_handle _ = true

-- Whether two types are spelled the same, where `T@+` is as `T@`.
abbrev pub same_type : TypeRef → TypeRef → Bool
same_type ref.Void ref.Void = true
same_type (ref.Plain p) (ref.Plain q) = primitive_number p == primitive_number q
same_type (ref.Enumeration m) (ref.Enumeration n) = bytes_eq m n
same_type (ref.Object m r i g) (ref.Object n s o h) = bytes_eq m n && beq (is_handle r) (is_handle s) && beq i o && beq g h
same_type _ _ = false

-- names of parameters don't count
abbrev pub same_parameter : Param → Param → Bool
same_parameter p q = same_type p.ty q.ty && pass_number p.pass == pass_number q.pass && beq p.read_only q.read_only

-- whether two lists of parameters differ in nothing by which functions overload
abbrev pub same_parameters : List Param → List Param → Bool
same_parameters = pointwise same_parameter

-- ---- what can't stand beside what

-- a type's methods and properties share its names
abbrev pub is_member_name : EntryKind → Bool
is_member_name Method = true
is_member_name Property = true
is_member_name _ = false

abbrev pub same_name : Signature → Signature → Bool
same_name x y = bytes_eq x.name y.name

-- both belong to one type, or to one enumeration
abbrev pub same_owner : Option EntityNo → Option EntityNo → Bool
same_owner (Some a) (Some b) = a.0 == b.0
same_owner _ _ = false

-- what a function of the same name can't stand beside: functions of one name differ in their parameters
abbrev pub excludes_function : EntryKind → Signature → Signature → Bool
excludes_function HostType x s = true
excludes_function Factory x s = false
excludes_function Method x s = false
excludes_function Property x s = false
excludes_function Function x s = same_parameters x.params s.params
excludes_function Global x s = true
excludes_function Enumeration x s = true
excludes_function (EnumValue v) x s = false

-- what a method of the same type and name can't stand beside: methods of one name differ in their parameters or in `const`
abbrev pub excludes_method : EntryKind → Signature → Signature → Bool
excludes_method Method x s = same_parameters x.params s.params && beq x.read_only s.read_only
excludes_method Property x s = true
excludes_method _ x s = false

-- Whether something of this kind, owner and signature can't stand beside the entry. Factories of one type differ in their
-- parameters, whatever their names.
abbrev pub clashes_with : EntryKind → Option EntityNo → Signature → Entry → Bool
clashes_with HostType owner s x = is_bare x.kind && same_name x.signature s
clashes_with Factory owner s x = is_factory x.kind && same_owner x.owner owner && same_parameters x.signature.params s.params
clashes_with Method owner s x = same_owner x.owner owner && same_name x.signature s && excludes_method x.kind x.signature s
clashes_with Property owner s x = is_member_name x.kind && same_owner x.owner owner && same_name x.signature s
clashes_with Function owner s x = same_name x.signature s && excludes_function x.kind x.signature s
clashes_with Global owner s x = is_bare x.kind && same_name x.signature s
clashes_with Enumeration owner s x = is_bare x.kind && same_name x.signature s
clashes_with (EnumValue v) owner s x = is_value x.kind && same_owner x.owner owner && same_name x.signature s

abbrev pub clashes : EntryKind → Option EntityNo → Signature → Option Entry → Bool
clashes kind owner s None = false
clashes kind owner s (Some x) = clashes_with kind owner s x

-- The name, or what tells factories apart, is taken: over the whole list, whatever the masks.
unfoldable pub is_taken : RegistrationList → EntryKind → Option EntityNo → Signature → Bool
is_taken list kind owner s = list_any (clashes kind owner s) list

-- What the scripts declare, by name (docs/LANGUAGE.md, "Names of a build"; the AngelScript manual, "Function overloading" and
-- "Inheritance and polymorphism"). Numbers are places in `Names`.
use Rattle.std.specs.Prelude.{ℕ, ◌+◌, ◌==◌, Bool, true, false, not, ◌&&◌, ◌||◌, if◌then◌else◌, List, [], ◌∷◌, map, filter, find, Option, Some, None, bytes_eq, is_some, option_map, option_and_then, slice_get}
use Rattle.std.specs.List.{list_any, position, flat_map}
use Rattle.std.specs.Option.{option_or, option_map_or}
use Rattle.std.specs.Cmp.Lexicographic.{pointwise}
use Rattle.std.proofs.Math.Bool.{beq}
use Rattle.ang_kinds.specs.declared.types.Pass.{Pass}
use Rattle.ang_types.specs.declared.arg_type.ArgType.{ArgType}
use Rattle.ang_types.specs.declared.arg_type.ArgType.TheVariants as type
use Rattle.ang_view.specs.Numbers.{primitive_number, pass_number}
use Rattle.ang_names_known.specs.declared.names.Access.{Access}
use Rattle.ang_names_known.specs.declared.names.Access.TheVariants as access
use Rattle.ang_names_known.specs.declared.names.ScriptConstructor.{ScriptConstructor}
use Rattle.ang_names_known.specs.declared.names.Default.{Default}
use Rattle.ang_names_known.specs.declared.names.Default.TheVariants as default
use Rattle.ang_names_known.specs.declared.names.Family.{Family}
use Rattle.ang_names_known.specs.declared.names.Field.{Field}
use Rattle.ang_names_known.specs.declared.names.FoundField.{FoundField}
use Rattle.ang_names_known.specs.declared.names.ScriptMethod.{ScriptMethod}
use Rattle.ang_names_known.specs.declared.names.ScriptFunction.{ScriptFunction}
use Rattle.ang_names_known.specs.declared.names.ScriptGlobal.{ScriptGlobal}
use Rattle.ang_names_known.specs.declared.names.ScriptParameter.{ScriptParameter}
use Rattle.ang_names_known.specs.declared.names.Written.{Written}
use Rattle.ang_names_known.specs.Items.{is_empty, each_after}

-- ---- types as they are written

abbrev pub is_read_only_by : ArgType → Bool → Bool → Bool
is_read_only_by (type.Handle n c) constant const_handle = const_handle
is_read_only_by _ constant const_handle = constant

-- a variable of this written type can't be assigned: `const int`, `const T`, `T@ const`
abbrev pub is_read_only : Written → Bool
is_read_only w = is_read_only_by w.ty w.constant w.const_handle

abbrev pub same_type : ArgType → ArgType → Bool
same_type type.Void type.Void = true
same_type type.Null type.Null = true
same_type (type.Plain p) (type.Plain q) = primitive_number p == primitive_number q
same_type (type.Enumeration n) (type.Enumeration m) = n == m
same_type (type.Object n c) (type.Object m d) = n == m && beq c d
same_type (type.Handle n c) (type.Handle m d) = n == m && beq c d
same_type _ _ = false

-- Two types are written the same: `int32` is `int`, and `const` stands at both or at neither, in front and after `@`. Object types
-- and enumerations are the same by number.
abbrev pub same_written : Written → Written → Bool
same_written a b = same_type a.ty b.ty && beq a.constant b.constant && beq a.const_handle b.const_handle

abbrev pub same_parameter : ScriptParameter → ScriptParameter → Bool
same_parameter p q = same_written p.written q.written && pass_number p.pass == pass_number q.pass

-- names of parameters don't count
abbrev pub same_parameters : List ScriptParameter → List ScriptParameter → Bool
same_parameters = pointwise same_parameter

-- equal results and parameters, `const` as it is spelled, as a binding compares them
abbrev pub same_call : ScriptFunction → ScriptFunction → Bool
same_call f g = same_written f.result g.result && same_parameters f.params g.params

-- equal names besides, as a command's call compares them
abbrev pub same_heading : ScriptFunction → ScriptFunction → Bool
same_heading f g = bytes_eq f.name g.name && same_call f g

-- ---- functions, imports and globals

-- the number of the function with this heading
unfoldable pub function_with : List ScriptFunction → ScriptFunction → Option ℕ
function_with fs wanted = position (same_heading wanted) fs

abbrev pub named_from : ℕ → List ScriptFunction → List ℕ → List ℕ
named_from n [] name = []
named_from n (f ∷ fs) name = if bytes_eq f.name name then n ∷ named_from (n + 1) fs name else named_from (n + 1) fs name

-- the numbers of the functions of this name, or of the imports, rising
unfoldable pub functions_named : List ScriptFunction → List ℕ → List ℕ
functions_named fs name = named_from 0 fs name

-- the number of the global of this name
unfoldable pub global_named : List ScriptGlobal → List ℕ → Option ℕ
global_named gs name = position (λ (g : ScriptGlobal). bytes_eq g.name name) gs

-- some declaration has the name
abbrev pub is_declared : List (List ℕ) → List ℕ → Bool
is_declared declared name = list_any (bytes_eq name) declared

abbrev pub type_and_pass : ScriptParameter → ArgType × Pass
type_and_pass p = (p.written.ty, p.pass)

-- the types and passings of a function's parameters
unfoldable pub parameters_of : ScriptFunction → List (ArgType × Pass)
parameters_of f = map type_and_pass f.params

-- ---- members

-- a family with its number
abbrev pub Numbered : Type 0
Numbered = ℕ × Family

abbrev pub with_family : ℕ → Option Family → List Numbered → List Numbered
with_family n None rest = rest
with_family n (Some f) rest = (n, f) ∷ rest

-- the families of these numbers
abbrev pub families_at : List Family → List ℕ → List Numbered
families_at fs [] = []
families_at fs (n ∷ ns) = with_family n (slice_get fs n) (families_at fs ns)

-- a family and those that it has members of, the nearest first
unfoldable pub kin_of : List Family → ℕ → List Numbered
kin_of fs c = option_map_or (λ (f : Family). families_at fs f.order) (slice_get fs c) []

-- family d is family c, or stands above it
abbrev pub is_under : List Family → ℕ → ℕ → Bool
is_under fs c d = c == d || list_any (λ k. k == d) (option_map_or (λ (f : Family). f.above) (slice_get fs c) [])

abbrev pub field_of : ℕ → Field → FoundField
field_of owner x = record { owner = owner; number = x.number; written = x.written; access = x.access }

abbrev pub own_field : List ℕ → Numbered → Option FoundField
own_field name f = option_map (field_of f.0) (find (λ (x : Field). bytes_eq x.name name) f.1.fields)

abbrev pub fields_in : Option Family → List Field
fields_in None = []
fields_in (Some f) = f.fields

abbrev pub first_field : List ℕ → List Numbered → Option FoundField
first_field name [] = None
first_field name (f ∷ fs) = option_or (own_field name f) (first_field name fs)

-- The field of this name that objects of a family have.
unfoldable pub field_named : List Family → ℕ → List ℕ → Option FoundField
field_named fs c name = first_field name (kin_of fs c)

-- a method, with the family that declares it
pub record FoundMethod : Type 0 where
  pub owner : ℕ
  pub method : ScriptMethod

abbrev pub methods_in : Numbered → List FoundMethod
methods_in f = map (λ (x : ScriptMethod). record { owner = f.0; method = x }) f.1.methods

-- All methods of a family and of those that it has members of, the nearest first.
unfoldable pub methods_of : List Family → ℕ → List FoundMethod
methods_of fs c = flat_map methods_in (kin_of fs c)

abbrev pub stands_in : ℕ → FoundMethod → Bool
stands_in slot x = x.method.slot == slot

-- the method that a family has in a slot, own or inherited: the nearest one
unfoldable pub method_in_slot : List Family → ℕ → ℕ → Option FoundMethod
method_in_slot fs c slot = find (stands_in slot) (methods_of fs c)

abbrev pub is_named : List ℕ → FoundMethod → Bool
is_named name x = bytes_eq x.method.function.name name

-- a method in front of which none of its slot stands
abbrev pub if_nearest : List FoundMethod → FoundMethod → List FoundMethod
if_nearest before x = if list_any (stands_in x.method.slot) before then [] else x ∷ []

-- The methods of this name, own and inherited: of those of equal parameters and `const` the nearest alone.
unfoldable pub methods_named : List Family → ℕ → List ℕ → List FoundMethod
methods_named fs c name = each_after if_nearest [] (filter (is_named name) (methods_of fs c))

abbrev pub declares_method : List ℕ → Numbered → Bool
declares_method name f = list_any (λ (x : ScriptMethod). bytes_eq x.function.name name) f.1.methods

-- some method of the family has the name, own or inherited
unfoldable pub has_method : List Family → ℕ → List ℕ → Bool
has_method fs c name = list_any (declares_method name) (kin_of fs c)

-- a field or a method does
abbrev pub has_member : List Family → ℕ → List ℕ → Bool
has_member fs c name = is_some (field_named fs c name) || has_method fs c name

-- ---- constructors

abbrev pub takes_nothing : ScriptConstructor → Bool
takes_nothing k = is_empty k.function.params

-- the body of the one without parameters among some
abbrev pub default_among : List ScriptConstructor → Option ℕ
default_among ks = option_map (λ (k : ScriptConstructor). k.body) (find takes_nothing ks)

-- the body that is written, or else how an object is made without one
abbrev pub written_or : Default → Option ℕ → Default
written_or other None = other
written_or other (Some body) = default.Written body

abbrev pub has_constructors : Numbered → Bool
has_constructors f = not (is_empty f.1.constructors)

-- the one without parameters of the nearest of these families that has constructors
abbrev pub nearest_default : List Numbered → Option ℕ
nearest_default kin = option_and_then (λ (f : Numbered). default_among f.1.constructors) (find has_constructors kin)

abbrev pub constructors_in : Option Family → List ScriptConstructor
constructors_in None = []
constructors_in (Some f) = f.constructors

-- How an object of a class is made without arguments. A class without a constructor has a default one, which runs that of its base class:
-- where that has none without parameters it is refused at its own name, and nowhere else.
unfoldable pub default_of : List Family → ℕ → Default
default_of fs c =
    let own = constructors_in (slice_get fs c) in
    if is_empty own then written_or default.Unwritten (nearest_default (kin_of fs c)) else written_or default.Missing (default_among own)

-- ---- who may use a member

-- the body in which a use stands is that of a method or a constructor of the class c
abbrev pub may_use : List Family → Option ℕ → ℕ → Access → Bool
may_use fs within owner access.Public = true
may_use fs None owner _ = false
may_use fs (Some c) owner access.Protected = is_under fs c owner
may_use fs (Some c) owner access.Private = c == owner

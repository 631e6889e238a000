-- The text of a declaration, without a body, as a script may write it (docs/LANGUAGE.md, "Grammar"; the AngelScript manual, "Function
-- declaration"). Types are spelled by the names that they have in the module.
use Rattle.std.specs.Prelude.{ℕ, Bool, true, false, List, [], ◌∷◌, ◌++◌, Option, Some, None, codes, flat_map, slice_get}
use Rattle.ang_kinds.specs.declared.primitive.Primitive.{Primitive}
use Rattle.ang_kinds.specs.declared.primitive.Primitive.TheVariants as primitive
use Rattle.ang_kinds.specs.declared.types.Pass.{Pass}
use Rattle.ang_kinds.specs.declared.types.Pass.TheVariants as pass
use Rattle.ang_types.specs.declared.arg_type.ArgType.{ArgType}
use Rattle.ang_types.specs.declared.arg_type.ArgType.TheVariants as type
use Rattle.ang_view.specs.declared.entry.Entry.{Entry}
use Rattle.ang_view.specs.Registration.{RegistrationList, entry_at}
use Rattle.ang_names_known.specs.declared.names.Family.{Family}
use Rattle.ang_names_known.specs.declared.names.ScriptFunction.{ScriptFunction}
use Rattle.ang_names_known.specs.declared.names.ScriptGlobal.{ScriptGlobal}
use Rattle.ang_names_known.specs.declared.names.ScriptParameter.{ScriptParameter}
use Rattle.ang_names_known.specs.declared.names.Written.{Written}
use Rattle.ang_names_known.specs.Spaces.{family_of_type}

unfoldable pub primitive_text : Primitive → List ℕ
primitive_text primitive.I8 = codes "int8"
primitive_text primitive.I16 = codes "int16"
primitive_text primitive.I32 = codes "int"
primitive_text primitive.I64 = codes "int64"
primitive_text primitive.U8 = codes "uint8"
primitive_text primitive.U16 = codes "uint16"
primitive_text primitive.U32 = codes "uint"
primitive_text primitive.U64 = codes "uint64"
primitive_text primitive.Bool = codes "bool"

-- ---- names of types

abbrev pub entry_name : Option Entry → List ℕ
entry_name None = []
entry_name (Some x) = x.signature.name

abbrev pub family_name : Option Family → List ℕ
family_name None = []
family_name (Some f) = f.name

abbrev pub object_name : RegistrationList → List Family → ℕ → Option ℕ → List ℕ
object_name V fs n None = entry_name (entry_at V n)
object_name V fs n (Some c) = family_name (slice_get fs c)

-- the name of the object type of a number: a family's, or a host type's
abbrev pub name_of_type : RegistrationList → List Family → ℕ → List ℕ
name_of_type V fs n = object_name V fs n (family_of_type n)

-- ---- types

abbrev pub const_handle_text : Bool → List ℕ
const_handle_text true = codes "@ const"
const_handle_text false = codes "@"

-- a type, but for a `const` in front of it
unfoldable pub type_text : RegistrationList → List Family → ArgType → Bool → List ℕ
type_text V fs type.Void const_handle = codes "void"
type_text V fs type.Null const_handle = codes "null"
type_text V fs (type.Plain p) const_handle = primitive_text p
type_text V fs (type.Enumeration n) const_handle = entry_name (entry_at V n)
type_text V fs (type.Object n c) const_handle = name_of_type V fs n
type_text V fs (type.Handle n c) const_handle = name_of_type V fs n ++ const_handle_text const_handle

abbrev pub const_text : Bool → List ℕ
const_text true = codes "const "
const_text false = []

-- `const Cell@ const`
abbrev pub written_text : RegistrationList → List Family → Written → List ℕ
written_text V fs w = const_text w.constant ++ type_text V fs w.ty w.const_handle

-- ---- parameters

abbrev pub pass_text : Pass → List ℕ
pass_text pass.Value = []
pass_text pass.RefIn = codes " &in"
pass_text pass.RefOut = codes " &out"
pass_text pass.RefInOut = codes " &inout"

abbrev pub name_text : List ℕ → List ℕ
name_text [] = []
name_text (b ∷ bs) = codes " " ++ b ∷ bs

-- `const Cell &in c`, or without the name where there is none
abbrev pub parameter_text : RegistrationList → List Family → ScriptParameter → List ℕ
parameter_text V fs p = written_text V fs p.written ++ (pass_text p.pass ++ name_text p.name)

-- with a comma and a blank between two
unfoldable pub parameters_text : RegistrationList → List Family → List ScriptParameter → List ℕ
parameters_text V fs [] = []
parameters_text V fs (p ∷ ps) =
    parameter_text V fs p ++ flat_map (λ q. codes ", " ++ parameter_text V fs q) ps

-- ---- declarations

-- `int f(int n, Cell@ c)`
abbrev pub function_text : RegistrationList → List Family → ScriptFunction → List ℕ
function_text V fs f =
    written_text V fs f.result ++ (codes " " ++ (f.name ++ (codes "(" ++ (parameters_text V fs f.params ++ codes ")"))))

-- `const int limit`
abbrev pub global_text : RegistrationList → List Family → ScriptGlobal → List ℕ
global_text V fs g = written_text V fs g.written ++ (codes " " ++ g.name)

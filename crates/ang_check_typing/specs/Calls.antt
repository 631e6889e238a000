-- Calls, and what makes objects (docs/LANGUAGE.md, "Expressions"; the AngelScript manual, "Function calls", "Parameter references", "Script
-- classes" and "Inheritance").
use Rattle.std.specs.Prelude.{ℕ, ◌==◌, Bool, true, false, not, ◌&&◌, if◌then◌else◌, List, [], ◌∷◌, map, Option, Some, None, Ok, Err, bytes_eq, slice_get}
use Rattle.std.specs.List.{position, flat_map}
use Rattle.ang_kinds.specs.declared.error.ErrorKind.{ErrorKind}
use Rattle.ang_kinds.specs.declared.error.ErrorKind.TheVariants as kind
use Rattle.ang_kinds.specs.declared.place.Place.{Place}
use Rattle.ang_kinds.specs.declared.primitive.Primitive.TheVariants as p
use Rattle.ang_kinds.specs.declared.types.Pass.{Pass}
use Rattle.ang_kinds.specs.declared.types.Pass.TheVariants as pass
use Rattle.ang_lex.specs.declared.token.Token.{Token}
use Rattle.ang_types.specs.declared.arg_type.ArgType.{ArgType}
use Rattle.ang_types.specs.declared.arg_type.ArgType.TheVariants as type
use Rattle.ang_types.specs.declared.asks.Asks.{Asks}
use Rattle.ang_types.specs.declared.asks.Asks.TheVariants as asks
use Rattle.ang_types.specs.Ranks.{Ancestors}
use Rattle.ang_typed.specs.declared.expression.TypedCallee.TheVariants as callee
use Rattle.ang_typed.specs.declared.expression.TypedVariable.{TypedVariable}
use Rattle.ang_typed.specs.declared.expression.TypedVariable.TheVariants as variable
use Rattle.ang_typed.specs.Typed as t
use Rattle.ang_names_known.specs.declared.names.Family.{Family}
use Rattle.ang_names_known.specs.declared.names.ScriptMethod.{ScriptMethod}
use Rattle.ang_check_operators.specs.declared.operand.SiteUse.{SiteUse}
use Rattle.ang_check_context.specs.declared.scope.LocalVariable.{LocalVariable}
use Rattle.ang_check_context.specs.declared.scope.Within.{Within}
use Rattle.ang_check_uses.specs.declared.uses.Callable.{Callable}
use Rattle.ang_check_uses.specs.declared.uses.Called.{Called}
use Rattle.ang_check_uses.specs.declared.uses.Called.TheVariants as calls
use Rattle.ang_check_uses.specs.declared.uses.Resolution.{Resolution}
use Rattle.ang_check_uses.specs.declared.uses.Resolution.TheVariants as resolution
use Rattle.ang_names_known.specs.Items.{is_empty}
use Rattle.ang_names_known.specs.Lookup.{FoundMethod, is_under, methods_named, parameters_of}
use Rattle.ang_names_known.specs.Spaces.{family_type, family_of_type}
use Rattle.ang_check_operators.specs.Operands.{Operand, operand, fit, integer, object_of, site_in}
use Rattle.ang_check_operators.specs.Refusals.{Typing, ◌>>=◌, fault, refused, use_refused}
use Rattle.ang_check_context.specs.Access.{if_in_reach}
use Rattle.ang_check_context.specs.Names.{this_operand}
use Rattle.ang_check_context.specs.Operands.{types_of}
use Rattle.ang_check_context.specs.Scope.{BodyContext, scope_of, is_there}
use Rattle.ang_check_uses.specs.Uses.{resolution_of, best_method, best_of_those, makers_of, why}
use Rattle.ang_lex.specs.Text.{text_of}

-- ---- arguments

-- a variable that an `&out` value can move into
abbrev pub is_out_variable : TypedVariable → Bool
is_out_variable (variable.Property h) = false
is_out_variable _ = true

abbrev pub out_variable : t.Site → Option TypedVariable
out_variable (t.named x) = if is_out_variable x then Some x else None
out_variable (t.member_of e m) = None

-- an object variable is none
abbrev pub is_out_type : ArgType → Bool
is_out_type (type.Plain p) = true
is_out_type (type.Enumeration n) = true
is_out_type (type.Handle n c) = true
is_out_type _ = false

-- by its bare name, and not `const`
abbrev pub is_out : Operand → Option SiteUse → Bool
is_out a None = false
is_out a (Some x) = x.bare && (not x.read_only && is_out_type a.ty)

abbrev pub variable_in : Option t.Site → Option TypedVariable
variable_in None = None
variable_in (Some x) = out_variable x

abbrev pub out_or : Place → Option TypedVariable → Typing TypedVariable
out_or place None = Err (fault kind.BadOut place)
out_or place (Some x) = Ok x

-- The variable that an `&out` argument is: a local, a global or a field by its bare name, that is not `const` and no object.
unfoldable pub out_of : Operand → Typing TypedVariable
out_of a = if is_out a a.target then out_or a.place (variable_in (site_in a.tree)) else Err (fault kind.BadOut a.place)

abbrev pub value_for : Ancestors → ArgType → Operand → Typing t.Arg
value_for ancestors ty a = do
  x ← fit ancestors ty a
  Ok (t.by_value ty x)

abbrev pub out_for : ArgType → Operand → Typing t.Arg
out_for ty a = do
  x ← out_of a
  Ok (t.out x ty a.ty)

abbrev pub argument_by : Ancestors → Pass → ArgType → Operand → Typing t.Arg
argument_by ancestors pass.RefOut ty a = out_for ty a
argument_by ancestors _ ty a = value_for ancestors ty a

-- an argument for a parameter
unfoldable pub argument : Ancestors → ArgType × Pass → Operand → Typing t.Arg
argument ancestors param a = argument_by ancestors param.1 param.0 a

-- each argument for its parameter, from left to right
abbrev pub arguments_for : Ancestors → List (ArgType × Pass) → List Operand → Typing (List t.Arg)
arguments_for ancestors [] operands = Ok []
arguments_for ancestors (p ∷ ps) [] = Ok []
arguments_for ancestors (p ∷ ps) (a ∷ rest) = do
  x ← argument ancestors p a
  xs ← arguments_for ancestors ps rest
  Ok (x ∷ xs)

-- ---- calls

abbrev pub call_of : Called → ArgType → List t.Arg → t.Expr
call_of (calls.Script f) result xs = t.call f result (t.args xs)
call_of (calls.Host h) result xs = t.host_call h result (t.args xs)
call_of (calls.Makes c k) result xs = t.make c k (t.args xs)

abbrev pub call_with : BodyContext → Place → Callable → List Operand → Typing Operand
call_with s place c operands = do
  xs ← arguments_for s.ancestors c.candidate.params operands
  Ok (operand place c.result (call_of c.called c.result xs))

-- what is called by this name, with its operands; a receiver is the first one
abbrev pub called : BodyContext → Place → Token → Callable → List Operand → Typing Operand
called s place x c operands = if_in_reach s x c.reach (call_with s place c operands)

-- A call that was resolved. Else it is refused, as a use or as what no entry of the host could help.
abbrev pub called_use : BodyContext → Place → Token → Asks → Bool → List Operand → Resolution → Typing Operand
called_use s place x a there operands (resolution.Call c) = called s place x c operands
called_use s place x a there operands r = Err (use_refused (why r) x a there)

abbrev pub called_own : BodyContext → Place → Token → List Operand → Resolution → Typing Operand
called_own s place x operands (resolution.Call c) = called s place x c operands
called_own s place x operands r = Err (refused (why r) x)

-- ---- methods of the scripts

abbrev pub with_receiver : ℕ → ScriptMethod → List (ArgType × Pass)
with_receiver n m = (type.Object n m.read_only, pass.RefInOut) ∷ parameters_of m.function

-- a method as it is called on an object: that of its class in the slot
abbrev pub virtual_method : ℕ → FoundMethod → Callable
virtual_method n x = record {
  called = calls.Script (callee.Chosen x.method.slot);
  result = x.method.function.result.ty;
  candidate = record { params = with_receiver n x.method };
  reach = Some (record { owner = x.owner; access = x.method.access });
}

abbrev pub direct_by : ℕ → FoundMethod → Option ℕ → List Callable
direct_by n x None = []
direct_by n x (Some k) = record (virtual_method n x) { called = calls.Script (callee.Own k) } ∷ []

-- a method as its class has it, whatever the object's class; one without a body is none
abbrev pub direct_method : ℕ → FoundMethod → List Callable
direct_method n x = direct_by n x x.method.body

-- a method of this name of a family, on a receiver of the type of number n
abbrev pub own_method : BodyContext → ℕ → ℕ → Bool → Token → Operand → List Operand → Typing Operand
own_method s d n c x receiver operands =
    called_own s receiver.place x (receiver ∷ operands)
    (best_method s.ancestors (map (virtual_method n) (methods_named s.names.families d (text_of s.text x))) n c (types_of operands))

-- ---- a bare call

-- `E(x)` keeps the low 32 bits of a number.
abbrev pub enumerated : Place → ℕ → Operand → Typing Operand
enumerated place n a = do
  q ← integer a
  Ok (operand place (type.Enumeration n) (t.naming (record { 0 = n }) (t.convert q p.I32 a.tree)))

abbrev pub enumerated_of : Token → ℕ → List Operand → Typing Operand
enumerated_of x n (a ∷ []) = enumerated x.place n a
enumerated_of x n _ = Err (refused kind.NoMatch x)

-- A bare call that was resolved: of an enumeration's name it is a conversion.
abbrev pub bare_use : BodyContext → Token → Asks → Bool → List Operand → Resolution → Typing Operand
bare_use s x a there operands (resolution.Enumeration n) = enumerated_of x n operands
bare_use s x a there operands r = called_use s x.place x a there operands r

abbrev pub named_methods : BodyContext → Option Within → List ℕ → Option (Within × List FoundMethod)
named_methods s None name = None
named_methods s (Some w) name =
    let found = methods_named s.names.families w.family name in if is_empty found then None else Some (w, found)

abbrev pub call_by : BodyContext → List LocalVariable → Token → List Operand → Option (Within × List FoundMethod) → Typing Operand
call_by s ps x operands None =
    let name = text_of s.text x in
    let a = asks.Call (types_of operands) in
    bare_use s x a (is_there s ps name) operands (resolution_of (scope_of s) name a)
call_by s ps x operands (Some m) = own_method s m.0.family (family_type m.0.family) m.0.read_only x (this_operand x.place m.0) operands

-- A name with typed arguments: inside a class its methods, if one has the name, else a conversion to the enumeration or what makes an object
-- of the type of the name, else functions. Locals and fields of the name play no part.
unfoldable pub call_typing : BodyContext → List LocalVariable → Token → List Operand → Typing Operand
call_typing s ps x operands = call_by s ps x operands (named_methods s s.within (text_of s.text x))

-- ---- `B::f(..)`

abbrev pub family_at : BodyContext → Option ℕ → Option Family
family_at s None = None
family_at s (Some d) = slice_get s.names.families d

-- the class of this name that stands above the body's class
abbrev pub ancestor_by : BodyContext → Within → Option ℕ → Option Family → Option (Within × ℕ)
ancestor_by s w d None = None
ancestor_by s w None (Some f) = None
ancestor_by s w (Some d) (Some f) = if f.is_class && (not (d == w.family) && is_under s.names.families w.family d) then Some (w, d) else None

abbrev pub ancestor_in : BodyContext → Token → Option Within → Option (Within × ℕ)
ancestor_in s c None = None
ancestor_in s c (Some w) =
    let d = position (λ (f : Family). bytes_eq f.name (text_of s.text c)) s.names.families in ancestor_by s w d (family_at s d)

abbrev pub scoped_by : BodyContext → Token → Token → List Operand → Option (Within × ℕ) → Typing Operand
scoped_by s c x operands None = Err (refused kind.UnknownName c)
scoped_by s c x operands (Some a) =
    let n = family_type a.0.family in
    let found = methods_named s.names.families a.1 (text_of s.text x) in
    called_own s c.place x (this_operand c.place a.0 ∷ operands)
    (best_method s.ancestors (flat_map (direct_method n) found) n a.0.read_only (types_of operands))

-- A method of a class above the body's, as that class has it, called on `this`.
unfoldable pub scoped_typing : BodyContext → Token → Token → List Operand → Typing Operand
scoped_typing s c x operands = scoped_by s c x operands (ancestor_in s c s.within)

-- ---- methods of objects

abbrev pub method_of_type : BodyContext → Operand → Token → List Operand → ℕ → Bool → Option ℕ → Typing Operand
method_of_type s a x operands n c None =
    let wanted = asks.Method n c (types_of operands) in
    called_use s a.place x wanted false (a ∷ operands) (resolution_of (scope_of s) (text_of s.text x) wanted)
method_of_type s a x operands n c (Some d) = own_method s d n c x a operands

abbrev pub method_on : BodyContext → Operand → Token → List Operand → Option (ℕ × Bool) → Typing Operand
method_on s a x operands None = Err (refused kind.UnknownName x)
method_on s a x operands (Some o) = method_of_type s a x operands o.0 o.1 (family_of_type o.0)

-- A method of an object, which is its first argument.
unfoldable pub method_call_typing : BodyContext → Operand → Token → List Operand → Typing Operand
method_call_typing s a x operands = method_on s a x operands (object_of a.ty)

-- ---- objects of declarations

-- A type's name that a local or a member has too stays the script's.
abbrev pub made_use : BodyContext → List LocalVariable → Token → Asks → List Operand → Resolution → Typing Operand
made_use s ps x a operands r = called_use s x.place x a (is_there s ps (text_of s.text x)) operands r

abbrev pub made_by : BodyContext → List LocalVariable → Token → ErrorKind → ℕ → Asks → List Operand → Option ℕ → Typing Operand
made_by s ps x unviable n a operands None = made_use s ps x a operands (resolution_of (scope_of s) (text_of s.text x) a)
made_by s ps x unviable n a operands (Some c) =
    called_own s x.place x operands (best_of_those s.ancestors unviable (makers_of (scope_of s) n) (types_of operands))

-- `T x;`, refused at the name of the type
unfoldable pub default_typing : BodyContext → List LocalVariable → Token → ℕ → Typing Operand
default_typing s ps x n = made_by s ps x kind.NoDefault n (asks.Default n) [] (family_of_type n)

-- `T x(..);`, as `T(..)`
unfoldable pub made_typing : BodyContext → List LocalVariable → Token → ℕ → List Operand → Typing Operand
made_typing s ps x n operands = made_by s ps x kind.NoMatch n (asks.Make n (types_of operands)) operands (family_of_type n)

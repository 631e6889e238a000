-- One body: of a function, a method or a constructor, or a global's initializer (docs/LANGUAGE.md, "Statements"; the AngelScript manual,
-- "Functions", "Script classes" and "Inheritance"): its resolved tree, or the first refusal in reading order.
use Rattle.std.specs.Prelude.{ℕ, Bool, true, false, ◌||◌, if◌then◌else◌, length, List, [], ◌∷◌, map, Option, Some, None, Ok, Err}
use Rattle.ang_kinds.specs.declared.error.ErrorKind.TheVariants as kind
use Rattle.ang_kinds.specs.declared.place.Place.{Place}
use Rattle.ang_kinds.specs.declared.position.Position.{Position}
use Rattle.ang_kinds.specs.declared.types.Pass.TheVariants as pass
use Rattle.ang_lex.specs.declared.token.Token.{Token}
use Rattle.ang_tree.specs.declared.type_name.TypeName.{TypeName}
use Rattle.ang_tree.specs.Stmt.{Init, Body, Stmts}
use Rattle.ang_tree.specs.Declarations.{SuperTree}
use Rattle.ang_types.specs.declared.arg_type.ArgType.{ArgType}
use Rattle.ang_types.specs.ArgTypes.{is_void}
use Rattle.ang_typed.specs.declared.expression.TypedCallee.TheVariants as callee
use Rattle.ang_typed.specs.declared.program.TypedParameter.{TypedParameter}
use Rattle.ang_typed.specs.Typed as t
use Rattle.ang_names_known.specs.declared.names.Default.{Default}
use Rattle.ang_names_known.specs.declared.names.Default.TheVariants as default
use Rattle.ang_names_known.specs.declared.names.Names.{Names}
use Rattle.ang_names_known.specs.declared.names.ScriptFunction.{ScriptFunction}
use Rattle.ang_names_known.specs.declared.names.ScriptGlobal.{ScriptGlobal}
use Rattle.ang_names_known.specs.declared.names.ScriptParameter.{ScriptParameter}
use Rattle.ang_check_stmt.specs.declared.frame.Returns.TheVariants as returns
use Rattle.ang_check_context.specs.declared.scope.LocalVariable.{LocalVariable}
use Rattle.ang_check_context.specs.declared.scope.Within.{Within}
use Rattle.ang_check_uses.specs.declared.uses.Called.{Called}
use Rattle.ang_check_uses.specs.declared.uses.Called.TheVariants as calls
use Rattle.ang_check_uses.specs.declared.uses.Resolution.{Resolution}
use Rattle.ang_check_uses.specs.declared.uses.Resolution.TheVariants as resolution
use Rattle.ang_check_stmt.specs.Paths.{body_ends}
use Rattle.ang_check_stmt.specs.Positions.{inner_positions}
use Rattle.ang_names_known.specs.Lookup.{is_read_only, default_of}
use Rattle.ang_names_known.specs.Spaces.{family_type}
use Rattle.ang_check_operators.specs.Operands.{Operand}
use Rattle.ang_check_operators.specs.Refusals.{Typing, ◌>>=◌, refused, refused_for}
use Rattle.ang_check_stmt.specs.Typing.{FunctionContext, block_typing, stmts_typing, initializer_typing, own_object}
use Rattle.ang_check_context.specs.Names.{own_type}
use Rattle.ang_check_context.specs.Operands.{types_of}
use Rattle.ang_check_context.specs.Scope.{BodyContext, scope_of}
use Rattle.ang_check_typing.specs.Calls.{arguments_for}
use Rattle.ang_check_typing.specs.Typing.{typing_of_args}
use Rattle.ang_check_uses.specs.Uses.{best_of_those, makers_of, why}
use Rattle.ang_check.specs.Positions.{constructor_positions}

-- ---- parameters

-- a parameter as the statements of its function see it
abbrev pub parameter_local : ScriptParameter → LocalVariable
parameter_local p = record { name = p.name; ty = p.written.ty; read_only = is_read_only p.written }

abbrev pub typed_parameter : ScriptParameter → TypedParameter
typed_parameter p = record { ty = p.written.ty; pass = p.pass }

abbrev pub typed_parameters : ScriptFunction → List TypedParameter
typed_parameters f = map typed_parameter f.params

-- `this` has no name of its own, and is an object that can't be another one
abbrev pub this_local : Within → LocalVariable
this_local w = record { name = []; ty = own_type w; read_only = true }

abbrev pub this_parameter : Within → TypedParameter
this_parameter w = record { ty = own_type w; pass = pass.RefInOut }

-- ---- functions and methods

-- Every path through a function with a result has to end.
abbrev pub ending : ArgType → Token → Bool → List TypedParameter → List Position → t.Stmts → Typing t.TypedFunction
ending ty x ends ps qs ss = if ends || is_void ty then Ok (record { parameters = ps; result = ty; body = ss; positions = qs }) else Err (refused kind.NoReturn x)

abbrev pub frame_of : BodyContext → ArgType → List LocalVariable → FunctionContext
frame_of s ty ps = record { context = s; returns = returns.Value ty; parameters = length ps }

-- the body of the function that is declared with this name
unfoldable pub function_typing : BodyContext → ScriptFunction → Token → Body → Typing t.TypedFunction
function_typing s f x b =
    let ps = map parameter_local f.params in do
      ss ← block_typing (frame_of s f.result.ty ps) false ps b
      ending f.result.ty x (body_ends b) (typed_parameters f) (inner_positions b) ss

-- a method, whose first local is `this`
unfoldable pub method_body_typing : BodyContext → Within → ScriptFunction → Token → Body → Typing t.TypedFunction
method_body_typing s w f x b =
    let ps = this_local w ∷ map parameter_local f.params in do
      ss ← block_typing (frame_of s f.result.ty ps) false ps b
      ending f.result.ty x (body_ends b) (this_parameter w ∷ typed_parameters f) (inner_positions b) ss

-- ---- constructors

-- the base class's constructor runs on `this` where there is a body, and gives nothing that is taken
abbrev pub base_call : Within → Option ℕ → List t.Arg → t.Stmts → t.Stmts
base_call w None xs ss = ss
base_call w (Some k) xs ss =
    t.then (t.expression (Some (t.call (callee.Own k) (own_type w) (t.args (t.by_value (own_type w) (own_object (own_type w)) ∷ xs))))) ss

abbrev pub body_called : Called → Option ℕ
body_called (calls.Makes c k) = k
body_called _ = None

-- the body of a base class's constructor, and its arguments
abbrev pub Base : Type 0
Base = Option ℕ × List t.Arg

abbrev pub super_chosen : BodyContext → Token → List Operand → Resolution → Typing Base
super_chosen s word operands (resolution.Call c) = do
  xs ← arguments_for s.ancestors c.candidate.params operands
  Ok (body_called c.called, xs)
super_chosen s word operands r = Err (refused (why r) word)

abbrev pub super_by : BodyContext → Token → List Operand → Option ℕ → Typing Base
super_by s word operands None = Err (refused kind.UnknownName word)
super_by s word operands (Some b) =
    super_chosen s word operands (best_of_those s.ancestors kind.NoMatch (makers_of (scope_of s) (family_type b)) (types_of operands))

-- `super(..)`, refused at the word
unfoldable pub super_typing : BodyContext → List LocalVariable → Option ℕ → SuperTree → Typing Base
super_typing s ps base x = do
  operands ← typing_of_args s ps x.arguments
  super_by s x.word operands base

abbrev pub default_base : Place → Token → Default → Typing Base
default_base place base default.Missing = Err (refused_for kind.NoDefault place base)
default_base place base default.Unwritten = Ok (None, [])
default_base place base (default.Written k) = Ok (Some k, [])

-- Where `super` is not written, the base class's constructor without parameters runs: `NoDefault` at this place, naming the base class.
unfoldable pub implicit_super : Names → Place → Token → Option ℕ → Typing Base
implicit_super names place base None = Ok (None, [])
implicit_super names place base (Some b) = default_base place base (default_of names.families b)

abbrev pub base_typing : BodyContext → List LocalVariable → Token → Token → Option ℕ → Option SuperTree → Typing Base
base_typing s ps x base b None = implicit_super s.names x.place base b
base_typing s ps x base b (Some u) = super_typing s ps b u

-- one statement more at the end
abbrev pub with_last : t.Stmts → t.Stmt → t.Stmts
with_last t.end s = t.then s t.end
with_last (t.then r ss) s = t.then r (with_last ss s)

-- the base class's constructor, the statements, and the object is given back
abbrev pub constructor_body : Within → Base → t.Stmts → t.Stmts
constructor_body w base ss = base_call w base.0 base.1 (with_last ss (t.return (Some (own_object (own_type w)))))

abbrev pub constructed : Within → ScriptFunction → Base → List Position → t.Stmts → t.TypedFunction
constructed w f base qs ss = record {
  parameters = this_parameter w ∷ typed_parameters f;
  result = own_type w;
  body = constructor_body w base ss;
  positions = qs;
}

-- a constructor returns as a `void` function, and gives its object
abbrev pub maker_frame : BodyContext → Within → List LocalVariable → FunctionContext
maker_frame s w ps = record { context = s; returns = returns.Own (own_type w); parameters = length ps }

-- A constructor: `super`, then its statements, then, at its closing `}`, it gives its object back.
unfoldable pub constructor_typing : BodyContext → Within → ScriptFunction → Token → Token → Option ℕ → Option SuperTree → Stmts → Token → Typing t.TypedFunction
constructor_typing s w f x base b u ss close =
    let ps = this_local w ∷ map parameter_local f.params in do
      first ← base_typing s ps x base b u
      xs ← stmts_typing (maker_frame s w ps) false (length ps) ps ss
      Ok (constructed w f first (constructor_positions first.0 x u ss close) xs)

-- ---- globals

-- a global's initializer
unfoldable pub global_typing : BodyContext → ScriptGlobal → TypeName → Init → Typing t.Global
global_typing s g y i = do
  x ← initializer_typing s [] y g.written.ty i
  Ok (record { ty = g.written.ty; initializer = x })

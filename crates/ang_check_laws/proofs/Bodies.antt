-- What is refused of a body or an initializer is a use in it, or no use.
use Rattle.std.specs.Prelude.{ℕ, Bool, false, ◌||◌, length, List, [], ◌∷◌, map, Option, Some, None}
use Rattle.std.proofs.Common.{refl}
use Rattle.ang_kinds.specs.declared.place.Place.{Place}
use Rattle.ang_kinds.specs.declared.position.Position.{Position}
use Rattle.ang_lex.specs.declared.token.Token.{Token}
use Rattle.ang_tree.specs.declared.type_name.TypeName.{TypeName}
use Rattle.ang_tree.specs.Declarations.{SuperTree}
use Rattle.ang_tree.specs.Stmt.{Init, Body, Stmts}
use Rattle.ang_types.specs.declared.arg_type.ArgType.{ArgType}
use Rattle.ang_typed.specs.declared.program.TypedParameter.{TypedParameter}
use Rattle.ang_typed.specs.Typed as t
use Rattle.ang_names_known.specs.declared.names.Default.{Default}
use Rattle.ang_names_known.specs.declared.names.Default.TheVariants as default
use Rattle.ang_names_known.specs.declared.names.Names.{Names}
use Rattle.ang_names_known.specs.declared.names.ScriptFunction.{ScriptFunction}
use Rattle.ang_names_known.specs.declared.names.ScriptGlobal.{ScriptGlobal}
use Rattle.ang_names_known.specs.Lookup.{default_of}
use Rattle.ang_check_operators.specs.Operands.{Operand}
use Rattle.ang_check_context.specs.declared.scope.LocalVariable.{LocalVariable}
use Rattle.ang_check_context.specs.declared.scope.Within.{Within}
use Rattle.ang_check_context.specs.Scope.{BodyContext}
use Rattle.ang_check_uses.specs.declared.uses.Resolution.{Resolution}
use Rattle.ang_check_uses.specs.declared.uses.Resolution.TheVariants as resolution
use Rattle.ang_check_typing.specs.Calls.{arguments_for}
use Rattle.ang_check_typing.specs.Typing.{typing_of_args}
use Rattle.ang_check_stmt.specs.Typing.{block_typing, stmts_typing, initializer_typing}
use Rattle.ang_check.specs.Typing.{parameter_local, typed_parameters, this_local, this_parameter, ending, frame_of, function_typing, method_body_typing, super_chosen, super_by, super_typing, default_base, implicit_super, base_typing, maker_frame, constructor_typing, global_typing}
use Rattle.ang_types.specs.ArgTypes.{is_void}
use Rattle.ang_check_laws.proofs.Judged.{Silent, silent_in, either_silent}
use Rattle.ang_check_laws.proofs.Calls.{arguments_silent}
use Rattle.ang_check_laws.proofs.Expressions.{args_use}
use Rattle.ang_check_laws.proofs.Statements.{BodyUses, here, none_here, then_here, block_use, statements_use}
use Rattle.ang_check_laws.proofs.Variables.{initializer_uses}

ending_silent : (ty : ArgType) (x : Token) (ends : Bool) (ps : List TypedParameter) (qs : List Position) (ss : t.Stmts) → Silent (ending ty x ends ps qs ss)
ending_silent ty x ends ps qs ss = either_silent (ends || is_void ty) _ _ tt refl

default_base_silent : (place : Place) (base : Token) (d : Default) → Silent (default_base place base d)
default_base_silent place base default.Missing = refl
default_base_silent place base default.Unwritten = tt
default_base_silent place base (default.Written k) = tt

pub implicit_silent : (names : Names) (place : Place) (base : Token) (b : Option ℕ) → Silent (implicit_super names place base b)
unfolding implicit_super
implicit_silent names place base None = tt
implicit_silent names place base (Some b) = default_base_silent place base (default_of names.families b)

module _ (s : BodyContext) where
  pub function_use : (f : ScriptFunction) (x : Token) (b : Body) → BodyUses s (function_typing s f x b)
  unfolding function_typing
  function_use f x b =
      let ps = map parameter_local f.params in
      then_here s (block_typing (frame_of s f.result.ty ps) false ps b) _ (block_use (frame_of s f.result.ty ps) b false ps)
      (λ ss. none_here s _ (ending_silent f.result.ty x _ (typed_parameters f) _ ss))

  pub method_use : (w : Within) (f : ScriptFunction) (x : Token) (b : Body) → BodyUses s (method_body_typing s w f x b)
  unfolding method_body_typing
  method_use w f x b =
      let ps = this_local w ∷ map parameter_local f.params in
      then_here s (block_typing (frame_of s f.result.ty ps) false ps b) _ (block_use (frame_of s f.result.ty ps) b false ps)
      (λ ss. none_here s _ (ending_silent f.result.ty x _ (this_parameter w ∷ typed_parameters f) _ ss))

  -- ---- `super`

  chosen_silent : (word : Token) (operands : List Operand) (r : Resolution) → Silent (super_chosen s word operands r)
  chosen_silent word operands (resolution.Variable v ty read_only) = refl
  chosen_silent word operands (resolution.Property p) = refl
  chosen_silent word operands (resolution.Call c) =
      silent_in (arguments_for s.ancestors c.candidate.params operands) _ (arguments_silent s.ancestors c.candidate.params operands) (λ xs. tt)
  chosen_silent word operands (resolution.Type k) = refl
  chosen_silent word operands (resolution.Enumeration k) = refl
  chosen_silent word operands (resolution.Value v) = refl
  chosen_silent word operands (resolution.Refused why) = refl

  super_by_silent : (word : Token) (operands : List Operand) (b : Option ℕ) → Silent (super_by s word operands b)
  super_by_silent word operands None = refl
  super_by_silent word operands (Some b) = chosen_silent word operands _

  super_use : (ps : List LocalVariable) (b : Option ℕ) (u : SuperTree) → BodyUses s (super_typing s ps b u)
  unfolding super_typing
  super_use ps b u =
      then_here s (typing_of_args s ps u.arguments) _ (here s ps (typing_of_args s ps u.arguments) (args_use s ps u.arguments))
      (λ operands. none_here s (super_by s u.word operands b) (super_by_silent u.word operands b))

  base_use : (ps : List LocalVariable) (x base : Token) (b : Option ℕ) (u : Option SuperTree) → BodyUses s (base_typing s ps x base b u)
  base_use ps x base b None = none_here s (implicit_super s.names x.place base b) (implicit_silent s.names x.place base b)
  base_use ps x base b (Some u) = super_use ps b u

  pub constructor_use : (w : Within) (f : ScriptFunction) (x base : Token) (b : Option ℕ) (u : Option SuperTree) (ss : Stmts) (close : Token)
      → BodyUses s (constructor_typing s w f x base b u ss close)
  unfolding constructor_typing
  constructor_use w f x base b u ss close =
      let ps = this_local w ∷ map parameter_local f.params in
      then_here s (base_typing s ps x base b u) _ (base_use ps x base b u)
      (λ first. then_here s (stmts_typing (maker_frame s w ps) false (length ps) ps ss) _
      (statements_use (maker_frame s w ps) ss false (length ps) ps) (λ xs. tt))

  pub global_use : (g : ScriptGlobal) (y : TypeName) (i : Init) → BodyUses s (global_typing s g y i)
  unfolding global_typing
  global_use g y i = then_here s (initializer_typing s [] y g.written.ty i) _
      (here s [] (initializer_typing s [] y g.written.ty i) (initializer_uses s [] y g.written.ty i)) (λ x. tt)

-- What is refused of a local variable's type, or of what a variable begins with, is a use, or no use.
use Rattle.std.specs.Prelude.{List, IfErr}
use Rattle.ang_lex.specs.declared.token.Token.{Token}
use Rattle.ang_tree.specs.declared.type_name.TypeName.{TypeName}
use Rattle.ang_tree.specs.Stmt.{Init, absent, value, constructor}
use Rattle.ang_types.specs.declared.arg_type.ArgType.{ArgType}
use Rattle.ang_types.specs.declared.arg_type.ArgType.TheVariants as type
use Rattle.ang_types.specs.Ranks.{Ancestors}
use Rattle.ang_names_listed.specs.declared.role.TypePosition.TheVariants as role
use Rattle.ang_check_operators.specs.Operands.{Operand, fit}
use Rattle.ang_check_operators.specs.Refusals.{Typing}
use Rattle.ang_check_context.specs.declared.scope.LocalVariable.{LocalVariable}
use Rattle.ang_check_context.specs.Scope.{BodyContext}
use Rattle.ang_check_typing.specs.Calls.{default_typing, made_typing}
use Rattle.ang_check_typing.specs.Typing.{typing_of, typing_of_args}
use Rattle.ang_check_stmt.specs.Typing.{local_type, made, fitted, absent_typing, value_typing, arguments_typing, initializer_typing}
use Rattle.ang_check_laws.specs.Asked.{IsAskedThere}
use Rattle.ang_check_laws.proofs.Operators.{fit_silent}
use Rattle.ang_check_laws.proofs.Names.{Uses, no_use, written_uses}
use Rattle.ang_check_laws.proofs.Calls.{default_uses, made_uses}
use Rattle.ang_check_laws.proofs.Expressions.{after, typing_uses, args_use}

-- In a body, with these parameters and locals alive:
module _ (s : BodyContext) (ps : List LocalVariable) where
  pub local_type_uses : (y : TypeName) → Uses s ps (local_type s ps y)
  unfolding local_type
  local_type_uses y = written_uses s ps role.Variable y

  object_uses : (x : Typing Operand) → Uses s ps x → Uses s ps (made x)
  object_uses x h = after s ps x _ h (λ a. tt)

  fitted_uses : (ancestors : Ancestors) (ty : ArgType) (a : Operand) → Uses s ps (fitted ancestors ty a)
  fitted_uses ancestors ty a = after s ps (fit ancestors ty a) _ (no_use s ps (fit ancestors ty a) (fit_silent ancestors ty a)) (λ x. tt)

  absent_uses : (y : TypeName) (ty : ArgType) → Uses s ps (absent_typing s ps y ty)
  absent_uses y type.Void = tt
  absent_uses y type.Null = tt
  absent_uses y (type.Plain p) = tt
  absent_uses y (type.Enumeration n) = tt
  absent_uses y (type.Object n c) = object_uses (default_typing s ps y.name n) (default_uses s ps y.name n)
  absent_uses y (type.Handle n c) = tt

  value_uses : (ancestors : Ancestors) (equals : Token) (ty : ArgType) (a : Operand) → Uses s ps (value_typing ancestors equals ty a)
  value_uses ancestors equals type.Void a = fitted_uses ancestors type.Void a
  value_uses ancestors equals type.Null a = fitted_uses ancestors type.Null a
  value_uses ancestors equals (type.Plain p) a = fitted_uses ancestors (type.Plain p) a
  value_uses ancestors equals (type.Enumeration n) a = fitted_uses ancestors (type.Enumeration n) a
  value_uses ancestors equals (type.Object n c) a = tt
  value_uses ancestors equals (type.Handle n c) a = fitted_uses ancestors (type.Handle n c) a

  arguments_uses : (y : TypeName) (ty : ArgType) (operands : List Operand) → Uses s ps (arguments_typing s ps y ty operands)
  arguments_uses y type.Void operands = tt
  arguments_uses y type.Null operands = tt
  arguments_uses y (type.Plain p) operands = tt
  arguments_uses y (type.Enumeration n) operands = tt
  arguments_uses y (type.Object n c) operands = object_uses (made_typing s ps y.name n operands) (made_uses s ps y.name n operands)
  arguments_uses y (type.Handle n c) operands = tt

  pub initializer_uses : (y : TypeName) (ty : ArgType) (i : Init) → Uses s ps (initializer_typing s ps y ty i)
  initializer_uses y ty absent = absent_uses y ty
  initializer_uses y ty (value equals e) = after s ps (typing_of s ps e) _ (typing_uses s ps e) (λ a. value_uses s.ancestors equals ty a)
  initializer_uses y ty (constructor es) = after s ps (typing_of_args s ps es) _ (args_use s ps es) (λ operands. arguments_uses y ty operands)

pub each_type_asked : (s : BodyContext) (locals : List LocalVariable) (y : TypeName) → IfErr (local_type s locals y) (IsAskedThere s locals)
each_type_asked s locals y = local_type_uses s locals y

pub each_initializer_asked : (s : BodyContext) (locals : List LocalVariable) (y : TypeName) (ty : ArgType) (i : Init)
    → IfErr (initializer_typing s locals y ty i) (IsAskedThere s locals)
each_initializer_asked s locals y ty i = initializer_uses s locals y ty i

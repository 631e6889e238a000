-- What is refused of a call, or of what makes an object, is a use, or no use.
use Rattle.std.specs.Prelude.{◌≡◌, ◌&&◌, ℕ, Bool, List, [], ◌∷◌, Option, Some, None, Err}
use Rattle.std.proofs.Common.{refl}
use Rattle.ang_kinds.specs.declared.error.ErrorKind.TheVariants as kind
use Rattle.ang_kinds.specs.declared.place.Place.{Place}
use Rattle.ang_kinds.specs.declared.types.Pass.{Pass}
use Rattle.ang_kinds.specs.declared.types.Pass.TheVariants as pass
use Rattle.ang_lex.specs.declared.token.Token.{Token}
use Rattle.ang_types.specs.declared.arg_type.ArgType.{ArgType}
use Rattle.ang_types.specs.declared.asks.Asks.{Asks}
use Rattle.ang_types.specs.declared.asks.Asks.TheVariants as asks
use Rattle.ang_types.specs.Ranks.{Ancestors}
use Rattle.ang_typed.specs.declared.expression.TypedVariable.{TypedVariable}
use Rattle.ang_names_known.specs.Lookup.{FoundMethod, may_use}
use Rattle.ang_names_known.specs.Spaces.{family_type, family_of_type}
use Rattle.ang_lex.specs.Text.{text_of}
use Rattle.ang_check_operators.specs.Operands.{Operand, fit, integer, object_of, site_in}
use Rattle.ang_check_operators.specs.Refusals.{Typing, fault}
use Rattle.ang_check_context.specs.declared.scope.LocalVariable.{LocalVariable}
use Rattle.ang_check_context.specs.declared.scope.Within.{Within}
use Rattle.ang_check_context.specs.Access.{if_in_reach}
use Rattle.ang_check_context.specs.Names.{this_operand}
use Rattle.ang_check_context.specs.Operands.{types_of}
use Rattle.ang_check_context.specs.Scope.{BodyContext, scope_of, family_of, is_there}
use Rattle.ang_check_denials.specs.Denials.{is_bare}
use Rattle.ang_check_uses.specs.declared.uses.Callable.{Callable}
use Rattle.ang_check_uses.specs.declared.uses.Reach.{Reach}
use Rattle.ang_check_uses.specs.declared.uses.Resolution.{Resolution}
use Rattle.ang_check_uses.specs.declared.uses.Resolution.TheVariants as resolution
use Rattle.ang_check_uses.specs.Uses.{resolution_of, factories_of, host_methods}
use Rattle.ang_check_typing.specs.Calls.{is_out, variable_in, out_or, out_of, value_for, out_for, argument_by, argument, arguments_for, call_with, called, called_use, called_own, enumerated_of, bare_use, own_method, named_methods, call_by, call_typing, ancestor_in, scoped_by, scoped_typing, method_of_type, method_on, method_call_typing, made_by, default_typing, made_typing}
use Rattle.ang_check_laws.proofs.Judged.{Silent, silent_in, either_silent}
use Rattle.ang_check_laws.proofs.Operators.{fit_silent, integer_silent}
use Rattle.ang_check_laws.proofs.Resolutions.{IsBareCall, IsCall, best_is_call, method_is_call, name_is_call}
use Rattle.ang_check_laws.proofs.Names.{Uses, no_use, refused_use}

-- ---- arguments

out_or_silent : (place : Place) (x : Option TypedVariable) → Silent (out_or place x)
out_or_silent place None = refl
out_or_silent place (Some x) = tt

out_silent : (a : Operand) → Silent (out_of a)
unfolding out_of
out_silent a =
    either_silent (is_out a a.target) (out_or a.place (variable_in (site_in a.tree))) (Err (fault kind.BadOut a.place))
    (out_or_silent a.place (variable_in (site_in a.tree))) refl

value_for_silent : (ancestors : Ancestors) (ty : ArgType) (a : Operand) → Silent (value_for ancestors ty a)
value_for_silent ancestors ty a = silent_in (fit ancestors ty a) _ (fit_silent ancestors ty a) (λ x. tt)

out_for_silent : (ty : ArgType) (a : Operand) → Silent (out_for ty a)
out_for_silent ty a = silent_in (out_of a) _ (out_silent a) (λ x. tt)

argument_by_silent : (ancestors : Ancestors) (way : Pass) (ty : ArgType) (a : Operand) → Silent (argument_by ancestors way ty a)
argument_by_silent ancestors pass.Value ty a = value_for_silent ancestors ty a
argument_by_silent ancestors pass.RefIn ty a = value_for_silent ancestors ty a
argument_by_silent ancestors pass.RefOut ty a = out_for_silent ty a
argument_by_silent ancestors pass.RefInOut ty a = value_for_silent ancestors ty a

argument_silent : (ancestors : Ancestors) (p : ArgType × Pass) (a : Operand) → Silent (argument ancestors p a)
unfolding argument
argument_silent ancestors p a = argument_by_silent ancestors p.1 p.0 a

pub arguments_silent : (ancestors : Ancestors) (params : List (ArgType × Pass)) (operands : List Operand) → Silent (arguments_for ancestors params operands)
arguments_silent ancestors [] operands = tt
arguments_silent ancestors (p ∷ params) [] = tt
arguments_silent ancestors (p ∷ params) (a ∷ operands) =
    silent_in (argument ancestors p a) _ (argument_silent ancestors p a)
    (λ x. silent_in (arguments_for ancestors params operands) _ (arguments_silent ancestors params operands) (λ xs. tt))

-- ---- in a body, where these parameters and locals are alive

module _ (s : BodyContext) (ps : List LocalVariable) where
  call_with_silent : (place : Place) (c : Callable) (operands : List Operand) → Silent (call_with s place c operands)
  call_with_silent place c operands =
      silent_in (arguments_for s.ancestors c.candidate.params operands) _ (arguments_silent s.ancestors c.candidate.params operands) (λ xs. tt)

  reach_silent : (x : Token) (r : Option Reach) (next : Typing Operand) → Silent next → Silent (if_in_reach s x r next)
  reach_silent x None next h = h
  reach_silent x (Some r) next h = either_silent (may_use s.names.families (family_of s.within) r.owner r.access) next _ h refl

  called_silent : (place : Place) (x : Token) (c : Callable) (operands : List Operand) → Silent (called s place x c operands)
  called_silent place x c operands = reach_silent x c.reach (call_with s place c operands) (call_with_silent place c operands)

  called_uses : (place : Place) (x : Token) (a : Asks) (operands : List Operand) (r : Resolution) → IsCall r
      → resolution_of (scope_of s) (text_of s.text x) a ≡ r
      → Uses s ps (called_use s place x a (is_bare a && is_there s ps (text_of s.text x)) operands r)
  called_uses place x a operands (resolution.Variable v ty read_only) h e = absurd h
  called_uses place x a operands (resolution.Property p) h e = absurd h
  called_uses place x a operands (resolution.Call c) h e = no_use s ps (called s place x c operands) (called_silent place x c operands)
  called_uses place x a operands (resolution.Type k) h e = absurd h
  called_uses place x a operands (resolution.Enumeration k) h e = absurd h
  called_uses place x a operands (resolution.Value v) h e = absurd h
  called_uses place x a operands (resolution.Refused why) h e = refused_use s ps why x a e

  called_own_silent : (place : Place) (x : Token) (operands : List Operand) (r : Resolution) → Silent (called_own s place x operands r)
  called_own_silent place x operands (resolution.Variable v ty read_only) = refl
  called_own_silent place x operands (resolution.Property p) = refl
  called_own_silent place x operands (resolution.Call c) = called_silent place x c operands
  called_own_silent place x operands (resolution.Type k) = refl
  called_own_silent place x operands (resolution.Enumeration k) = refl
  called_own_silent place x operands (resolution.Value v) = refl
  called_own_silent place x operands (resolution.Refused why) = refl

  own_method_silent : (d n : ℕ) (c : Bool) (x : Token) (receiver : Operand) (operands : List Operand) → Silent (own_method s d n c x receiver operands)
  own_method_silent d n c x receiver operands = called_own_silent receiver.place x (receiver ∷ operands) _

  -- ---- a bare call

  enumerated_silent : (x : Token) (n : ℕ) (operands : List Operand) → Silent (enumerated_of x n operands)
  enumerated_silent x n [] = refl
  enumerated_silent x n (a ∷ []) = silent_in (integer a) _ (integer_silent a) (λ q. tt)
  enumerated_silent x n (a ∷ b ∷ rest) = refl

  bare_uses : (x : Token) (a : Asks) (operands : List Operand) (r : Resolution) → IsBareCall r
      → resolution_of (scope_of s) (text_of s.text x) a ≡ r
      → Uses s ps (bare_use s x a (is_bare a && is_there s ps (text_of s.text x)) operands r)
  bare_uses x a operands (resolution.Variable v ty read_only) h e = absurd h
  bare_uses x a operands (resolution.Property p) h e = absurd h
  bare_uses x a operands (resolution.Call c) h e = called_uses x.place x a operands (resolution.Call c) tt e
  bare_uses x a operands (resolution.Type k) h e = absurd h
  bare_uses x a operands (resolution.Enumeration k) h e = no_use s ps (enumerated_of x k operands) (enumerated_silent x k operands)
  bare_uses x a operands (resolution.Value v) h e = absurd h
  bare_uses x a operands (resolution.Refused why) h e = called_uses x.place x a operands (resolution.Refused why) tt e

  call_by_uses : (x : Token) (operands : List Operand) (m : Option (Within × List FoundMethod)) → Uses s ps (call_by s ps x operands m)
  call_by_uses x operands None =
      bare_uses x (asks.Call (types_of operands)) operands
      (resolution_of (scope_of s) (text_of s.text x) (asks.Call (types_of operands)))
      (name_is_call (scope_of s) (text_of s.text x) (types_of operands)) refl
  call_by_uses x operands (Some m) =
      no_use s ps _ (own_method_silent m.0.family (family_type m.0.family) m.0.read_only x (this_operand x.place m.0) operands)

  pub call_uses : (x : Token) (operands : List Operand) → Uses s ps (call_typing s ps x operands)
  unfolding call_typing
  call_uses x operands = call_by_uses x operands (named_methods s s.within (text_of s.text x))

  -- ---- `B::f(..)`

  scoped_by_silent : (c x : Token) (operands : List Operand) (a : Option (Within × ℕ)) → Silent (scoped_by s c x operands a)
  scoped_by_silent c x operands None = refl
  scoped_by_silent c x operands (Some a) = called_own_silent c.place x (this_operand c.place a.0 ∷ operands) _

  pub scoped_silent : (c x : Token) (operands : List Operand) → Silent (scoped_typing s c x operands)
  unfolding scoped_typing
  scoped_silent c x operands = scoped_by_silent c x operands (ancestor_in s c s.within)

  -- ---- methods of objects

  method_of_uses : (a : Operand) (x : Token) (operands : List Operand) (n : ℕ) (c : Bool) (d : Option ℕ) → Uses s ps (method_of_type s a x operands n c d)
  method_of_uses a x operands n c None =
      called_uses a.place x (asks.Method n c (types_of operands)) (a ∷ operands)
      (resolution_of (scope_of s) (text_of s.text x) (asks.Method n c (types_of operands)))
      (method_is_call s.ancestors (host_methods s.view n (text_of s.text x)) n c (types_of operands)) refl
  method_of_uses a x operands n c (Some d) = no_use s ps _ (own_method_silent d n c x a operands)

  method_on_uses : (a : Operand) (x : Token) (operands : List Operand) (o : Option (ℕ × Bool)) → Uses s ps (method_on s a x operands o)
  method_on_uses a x operands None = tt
  method_on_uses a x operands (Some o) = method_of_uses a x operands o.0 o.1 (family_of_type o.0)

  pub method_call_uses : (a : Operand) (x : Token) (operands : List Operand) → Uses s ps (method_call_typing s a x operands)
  unfolding method_call_typing
  method_call_uses a x operands = method_on_uses a x operands (object_of a.ty)

  -- ---- objects of declarations

  default_by_uses : (x : Token) (n : ℕ) (o : Option ℕ) → Uses s ps (made_by s ps x kind.NoDefault n (asks.Default n) [] o)
  default_by_uses x n None =
      called_uses x.place x (asks.Default n) [] (resolution_of (scope_of s) (text_of s.text x) (asks.Default n))
      (best_is_call s.ancestors kind.NoDefault (factories_of s.view n) []) refl
  default_by_uses x n (Some c) = no_use s ps _ (called_own_silent x.place x [] _)

  pub default_uses : (x : Token) (n : ℕ) → Uses s ps (default_typing s ps x n)
  unfolding default_typing
  default_uses x n = default_by_uses x n (family_of_type n)

  made_by_uses : (x : Token) (n : ℕ) (operands : List Operand) (o : Option ℕ)
      → Uses s ps (made_by s ps x kind.NoMatch n (asks.Make n (types_of operands)) operands o)
  made_by_uses x n operands None =
      called_uses x.place x (asks.Make n (types_of operands)) operands
      (resolution_of (scope_of s) (text_of s.text x) (asks.Make n (types_of operands)))
      (best_is_call s.ancestors kind.NoMatch (factories_of s.view n) (types_of operands)) refl
  made_by_uses x n operands (Some c) = no_use s ps _ (called_own_silent x.place x operands _)

  pub made_uses : (x : Token) (n : ℕ) (operands : List Operand) → Uses s ps (made_typing s ps x n operands)
  unfolding made_typing
  made_uses x n operands = made_by_uses x n operands (family_of_type n)

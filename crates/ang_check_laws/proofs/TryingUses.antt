-- What is refused of a name, a member, a call or a made object asks something, or is refused over each view that keeps values of enumerations.
use Rattle.std.specs.Prelude.{◌≡◌, ℕ, zero, suc, Bool, true, false, not, if◌then◌else◌, List, [], ◌∷◌, Option, Some, None, Ok, Err, IfErr}
use Rattle.std.proofs.Common.{refl, ap, sym, subst, ◌∙◌}
use Rattle.ang_kinds.specs.declared.error.ErrorKind.{ErrorKind}
use Rattle.ang_kinds.specs.declared.error.ErrorKind.TheVariants as kind
use Rattle.ang_kinds.specs.declared.place.Place.{Place}
use Rattle.ang_kinds.specs.declared.types.Pass.{Pass}
use Rattle.ang_kinds.specs.declared.types.Pass.TheVariants as pass
use Rattle.ang_lex.specs.declared.token.Token.{Token}
use Rattle.ang_lex.specs.Text.{text_of}
use Rattle.ang_tree.specs.declared.type_name.TypeName.{TypeName}
use Rattle.ang_types.specs.declared.arg_type.ArgType.{ArgType}
use Rattle.ang_types.specs.declared.arg_type.ArgType.TheVariants as type
use Rattle.ang_types.specs.declared.asks.Asks.{Asks}
use Rattle.ang_types.specs.declared.asks.Asks.TheVariants as asks
use Rattle.ang_types.specs.Integers.{is_integer}
use Rattle.ang_types.specs.Ranks.{Ancestors, rank_of}
use Rattle.ang_typed.specs.declared.expression.TypedVariable.{TypedVariable}
use Rattle.ang_view.specs.Registration.{RegistrationList}
use Rattle.ang_names_known.specs.declared.names.Access.{Access}
use Rattle.ang_names_known.specs.declared.names.Access.TheVariants as access
use Rattle.ang_names_known.specs.declared.names.FoundField.{FoundField}
use Rattle.ang_names_known.specs.declared.space.Named.{Named}
use Rattle.ang_names_known.specs.declared.space.Named.TheVariants as named
use Rattle.ang_names_known.specs.Items.{is_empty}
use Rattle.ang_names_known.specs.Lookup.{FoundMethod, field_named, may_use}
use Rattle.ang_names_known.specs.Spaces.{family_of_type, space_of_names, type_of_name}
use Rattle.ang_names_listed.specs.declared.role.TypePosition.{TypePosition}
use Rattle.ang_names_listed.specs.declared.role.TypePosition.TheVariants as role
use Rattle.ang_names_listed.specs.Types.{TypeOrError, type_in}
use Rattle.ang_check_contest.specs.Scopes.{Scope}
use Rattle.ang_check_operators.specs.Operands.{Operand, fit_by, fit, integer_in, integer, object_of, site_in}
use Rattle.ang_check_operators.specs.Refusals.{Typing, fault, refused}
use Rattle.ang_check_context.specs.declared.scope.LocalVariable.{LocalVariable}
use Rattle.ang_check_context.specs.declared.scope.Within.{Within}
use Rattle.ang_check_context.specs.Access.{access_error, if_reached, if_in_reach}
use Rattle.ang_check_context.specs.Casts.{type_or_refusal, cast_type}
use Rattle.ang_check_context.specs.Members.{property_use, field_typing, member_of_type, member_on, member_typing}
use Rattle.ang_check_context.specs.Names.{this_operand, value_or_unknown, scoped_name_use, scoped_name_typing, value_use, field_within, field_or_global, local_named, local_or, name_typing}
use Rattle.ang_check_context.specs.Operands.{types_of}
use Rattle.ang_check_context.specs.Scope.{BodyContext, scope_of, space_of, family_of, is_there}
use Rattle.ang_check_uses.specs.declared.uses.Callable.{Callable}
use Rattle.ang_check_uses.specs.declared.uses.EnumerationValue.{EnumerationValue}
use Rattle.ang_check_uses.specs.declared.uses.Reach.{Reach}
use Rattle.ang_check_uses.specs.declared.uses.Resolution.{Resolution}
use Rattle.ang_check_uses.specs.declared.uses.Resolution.TheVariants as resolution
use Rattle.ang_check_uses.specs.Uses.{resolution_of, best_of_those, called_by, called_name, enumeration_meant, functions_of, makers_for, makers_of, takes_number, value_of}
use Rattle.ang_check_typing.specs.Calls.{is_out, variable_in, out_or, out_of, value_for, argument_by, argument, arguments_for, call_with, called, called_use, called_own, enumerated_of, bare_use, named_methods, call_by, call_typing, ancestor_in, scoped_by, scoped_typing, method_of_type, method_on, method_call_typing, made_by, default_typing, made_typing}
use Rattle.ang_check_laws.specs.Beyond.{over, refusal}
use Rattle.ang_check_laws.proofs.Resolutions.{IsCall, best_is_call}
use Rattle.ang_check_laws.proofs.Trying.{IsHarmless, Harmless, Kept, harmless_in, either_harmless, kept_harmless}
use Rattle.ang_check_laws.proofs.Types.{IfUnknown, type_refused_so}

-- ---- operands and arguments

fit_by_harmless : (rank : Option ℕ) (ty : ArgType) (a : Operand) → Harmless (fit_by rank ty a)
fit_by_harmless None ty a = refl
fit_by_harmless (Some zero) ty a = tt
fit_by_harmless (Some (suc r)) ty a = tt

pub fit_harmless : (ancestors : Ancestors) (ty : ArgType) (a : Operand) → Harmless (fit ancestors ty a)
unfolding fit
fit_harmless ancestors ty a = fit_by_harmless (rank_of ancestors a.ty ty) ty a

integer_in_harmless : (a : Operand) (ty : ArgType) → Harmless (integer_in a ty)
integer_in_harmless a (type.Plain q) = either_harmless (is_integer q) (Ok q) (Err (fault kind.BadConversion a.place)) tt refl
integer_in_harmless a (type.Enumeration n) = tt
integer_in_harmless a _ = refl

integer_harmless : (a : Operand) → Harmless (integer a)
unfolding integer
integer_harmless a = integer_in_harmless a a.ty

out_or_harmless : (place : Place) (x : Option TypedVariable) → Harmless (out_or place x)
out_or_harmless place None = refl
out_or_harmless place (Some x) = tt

out_harmless : (a : Operand) → Harmless (out_of a)
unfolding out_of
out_harmless a =
    either_harmless (is_out a a.target) (out_or a.place (variable_in (site_in a.tree))) (Err (fault kind.BadOut a.place))
    (out_or_harmless a.place (variable_in (site_in a.tree))) refl

value_for_harmless : (ancestors : Ancestors) (ty : ArgType) (a : Operand) → Harmless (value_for ancestors ty a)
value_for_harmless ancestors ty a = harmless_in (fit ancestors ty a) _ (fit_harmless ancestors ty a) (λ x. tt)

argument_by_harmless : (ancestors : Ancestors) (way : Pass) (ty : ArgType) (a : Operand) → Harmless (argument_by ancestors way ty a)
argument_by_harmless ancestors pass.Value ty a = value_for_harmless ancestors ty a
argument_by_harmless ancestors pass.RefIn ty a = value_for_harmless ancestors ty a
argument_by_harmless ancestors pass.RefOut ty a = harmless_in (out_of a) _ (out_harmless a) (λ x. tt)
argument_by_harmless ancestors pass.RefInOut ty a = value_for_harmless ancestors ty a

argument_harmless : (ancestors : Ancestors) (p : ArgType × Pass) (a : Operand) → Harmless (argument ancestors p a)
unfolding argument
argument_harmless ancestors p a = argument_by_harmless ancestors p.1 p.0 a

pub arguments_harmless : (ancestors : Ancestors) (params : List (ArgType × Pass)) (operands : List Operand)
    → Harmless (arguments_for ancestors params operands)
arguments_harmless ancestors [] operands = tt
arguments_harmless ancestors (p ∷ params) [] = tt
arguments_harmless ancestors (p ∷ params) (a ∷ operands) =
    harmless_in (argument ancestors p a) _ (argument_harmless ancestors p a)
    (λ x. harmless_in (arguments_for ancestors params operands) _ (arguments_harmless ancestors params operands) (λ xs. tt))

-- ---- what asks, whatever it means

access_harmless : (a : Access) (x : Token) → IsHarmless (refused (access_error a) x)
access_harmless access.Public x = refl
access_harmless access.Protected x = refl
access_harmless access.Private x = refl

module _ (s : BodyContext) (ps : List LocalVariable) where
  reached_harmless : {A : Type 0} (x : Token) (owner : ℕ) (a : Access) (next : Typing A) → Harmless next → Harmless (if_reached s x owner a next)
  reached_harmless x owner a next h = either_harmless (may_use s.names.families (family_of s.within) owner a) next _ h (access_harmless a x)

  reach_harmless : {A : Type 0} (x : Token) (r : Option Reach) (next : Typing A) → Harmless next → Harmless (if_in_reach s x r next)
  reach_harmless x None next h = h
  reach_harmless x (Some r) next h = reached_harmless x r.owner r.access next h

  type_harmless : (x : Token) (d : Named) (y : TypeOrError) → IfErr y (IfUnknown d) → Harmless (type_or_refusal s ps x y)
  type_harmless x d (Ok ty) h = tt
  type_harmless x d (Err kind.UnknownType) h = refl
  type_harmless x d (Err _) h = ap not h

  pub written_harmless : (r : TypePosition) (y : TypeName) → Harmless (type_or_refusal s ps y.name (type_in (space_of s) r s.text y))
  written_harmless r y =
      type_harmless y.name (type_of_name (space_of s) (text_of s.text y.name)) (type_in (space_of s) r s.text y) (type_refused_so (space_of s) r s.text y)

  pub cast_type_harmless : (y : TypeName) → Harmless (cast_type s ps y)
  unfolding cast_type
  cast_type_harmless y = written_harmless role.Cast y

  value_harmless : (x : Token) (there : Bool) (r : Resolution) → Harmless (value_use s x there r)
  value_harmless x there (resolution.Variable v ty read_only) = tt
  value_harmless x there (resolution.Property p) = refl
  value_harmless x there (resolution.Call f) = refl
  value_harmless x there (resolution.Type k) = refl
  value_harmless x there (resolution.Enumeration k) = refl
  value_harmless x there (resolution.Value v) = tt
  value_harmless x there (resolution.Refused why) = refl

  field_or_global_harmless : (x : Token) (there : Bool) (f : Option (Within × FoundField)) → Harmless (field_or_global s x there f)
  field_or_global_harmless x there None = value_harmless x there (resolution_of (scope_of s) (text_of s.text x) asks.Value)
  field_or_global_harmless x there (Some f) = reached_harmless x f.1.owner f.1.access _ tt

  local_or_harmless : (o : Option Operand) (otherwise : Typing Operand) → Harmless otherwise → Harmless (local_or o otherwise)
  local_or_harmless None otherwise h = h
  local_or_harmless (Some a) otherwise h = tt

  pub name_harmless : (x : Token) → Harmless (name_typing s ps x)
  unfolding name_typing
  name_harmless x =
      let name = text_of s.text x in
      local_or_harmless (local_named x name ps) (field_or_global s x (is_there s ps name) (field_within s s.within name))
      (field_or_global_harmless x (is_there s ps name) (field_within s s.within name))

  property_harmless : (a : Operand) (x : Token) (n : ℕ) (c : Bool) (r : Resolution) → Harmless (property_use a x n c r)
  property_harmless a x n c (resolution.Variable v ty read_only) = refl
  property_harmless a x n c (resolution.Property p) = tt
  property_harmless a x n c (resolution.Call f) = refl
  property_harmless a x n c (resolution.Type k) = refl
  property_harmless a x n c (resolution.Enumeration k) = refl
  property_harmless a x n c (resolution.Value v) = refl
  property_harmless a x n c (resolution.Refused why) = refl

  -- ---- calls

  called_harmless : (place : Place) (x : Token) (c : Callable) (operands : List Operand) → Harmless (called s place x c operands)
  called_harmless place x c operands =
      reach_harmless x c.reach (call_with s place c operands)
      (harmless_in (arguments_for s.ancestors c.candidate.params operands) _ (arguments_harmless s.ancestors c.candidate.params operands) (λ xs. tt))

  called_use_harmless : (place : Place) (x : Token) (a : Asks) (there : Bool) (operands : List Operand) (r : Resolution)
      → Harmless (called_use s place x a there operands r)
  called_use_harmless place x a there operands (resolution.Variable v ty read_only) = refl
  called_use_harmless place x a there operands (resolution.Property p) = refl
  called_use_harmless place x a there operands (resolution.Call c) = called_harmless place x c operands
  called_use_harmless place x a there operands (resolution.Type k) = refl
  called_use_harmless place x a there operands (resolution.Enumeration k) = refl
  called_use_harmless place x a there operands (resolution.Value v) = refl
  called_use_harmless place x a there operands (resolution.Refused why) = refl

  -- a conversion to an enumeration takes one number
  abbrev IfConverts : List ArgType → Resolution → Type 0
  IfConverts args (resolution.Variable v ty read_only) = Unit {0}
  IfConverts args (resolution.Property p) = Unit {0}
  IfConverts args (resolution.Call c) = Unit {0}
  IfConverts args (resolution.Type k) = Unit {0}
  IfConverts args (resolution.Enumeration k) = takes_number args ≡ true
  IfConverts args (resolution.Value v) = Unit {0}
  IfConverts args (resolution.Refused why) = Unit {0}

  call_converts : (args : List ArgType) (r : Resolution) → IsCall r → IfConverts args r
  call_converts args (resolution.Variable v ty read_only) h = tt
  call_converts args (resolution.Property p) h = tt
  call_converts args (resolution.Call c) h = tt
  call_converts args (resolution.Type k) h = tt
  call_converts args (resolution.Enumeration k) h = absurd h
  call_converts args (resolution.Value v) h = tt
  call_converts args (resolution.Refused why) h = tt

  enumeration_converts : (args : List ArgType) (n : ℕ) (b : Bool) → takes_number args ≡ b
      → IfConverts args (if b then resolution.Enumeration n else resolution.Refused kind.NoMatch)
  enumeration_converts args n true e = e
  enumeration_converts args n false e = tt

  either_converts : (args : List ArgType) (b : Bool) (x y : Resolution) → IfConverts args x → IfConverts args y → IfConverts args (if b then x else y)
  either_converts args true x y h k = h
  either_converts args false x y h k = k

  by_converts : (S : Scope) (name : List ℕ) (args : List ArgType) (d : Named) → IfConverts args (called_by S name args d)
  by_converts S name args (named.Object n) =
      call_converts args (best_of_those S.ancestors kind.NoMatch (makers_of S n) args) (best_is_call S.ancestors kind.NoMatch (makers_of S n) args)
  by_converts S name args (named.Enumeration n) = enumeration_converts args n (takes_number args) refl
  by_converts S name args named.Unknown =
      either_converts args (is_empty (functions_of S name)) _ _ tt
      (call_converts args _ (best_is_call S.ancestors kind.NoMatch (functions_of S name) args))

  name_converts : (S : Scope) (name : List ℕ) (args : List ArgType) → IfConverts args (called_name S name args)
  unfolding called_name
  name_converts S name args = by_converts S name args (type_of_name (space_of_names S.view S.names) name)

  enumerated_harmless : (x : Token) (n : ℕ) (operands : List Operand) → takes_number (types_of operands) ≡ true → Harmless (enumerated_of x n operands)
  enumerated_harmless x n [] e = cc
  enumerated_harmless x n (a ∷ []) e = harmless_in (integer a) _ (integer_harmless a) (λ q. tt)
  enumerated_harmless x n (a ∷ b ∷ rest) e = cc

  bare_harmless : (x : Token) (a : Asks) (there : Bool) (operands : List Operand) (r : Resolution) → IfConverts (types_of operands) r
      → Harmless (bare_use s x a there operands r)
  bare_harmless x a there operands (resolution.Variable v ty read_only) h = refl
  bare_harmless x a there operands (resolution.Property p) h = refl
  bare_harmless x a there operands (resolution.Call c) h = called_harmless x.place x c operands
  bare_harmless x a there operands (resolution.Type k) h = refl
  bare_harmless x a there operands (resolution.Enumeration k) h = enumerated_harmless x k operands h
  bare_harmless x a there operands (resolution.Value v) h = refl
  bare_harmless x a there operands (resolution.Refused why) h = refl

-- ---- what is of the scripts alone, over another view

module _ (s : BodyContext) (W : RegistrationList) (ps : List LocalVariable) where
  -- a method or a constructor of the scripts
  own_kept : (place : Place) (x : Token) (operands : List Operand) (r : Resolution)
      → Kept (called_own s place x operands r) (refusal (called_own (over s W) place x operands r))
  own_kept place x operands (resolution.Variable v ty read_only) = λ e f. refl
  own_kept place x operands (resolution.Property p) = λ e f. refl
  own_kept place x operands (resolution.Call c) = kept_harmless (called s place x c operands) _ (called_harmless s ps place x c operands)
  own_kept place x operands (resolution.Type k) = λ e f. refl
  own_kept place x operands (resolution.Enumeration k) = λ e f. refl
  own_kept place x operands (resolution.Value v) = λ e f. refl
  own_kept place x operands (resolution.Refused why) = λ e f. refl

  -- ---- fields

  field_kept : (a : Operand) (x : Token) (c : Bool) (f : Option FoundField) → Kept (field_typing s a x c f) (refusal (field_typing (over s W) a x c f))
  field_kept a x c None = λ e f. refl
  field_kept a x c (Some g) = kept_harmless (field_typing s a x c (Some g)) _ (reached_harmless s ps x g.owner g.access _ tt)

  member_of_kept : (a : Operand) (x : Token) (n : ℕ) (c : Bool) (d : Option ℕ)
      → Kept (member_of_type s a x n c d) (refusal (member_of_type (over s W) a x n c d))
  member_of_kept a x n c None =
      kept_harmless (member_of_type s a x n c None) _
      (property_harmless s ps a x n c (resolution_of (scope_of s) (text_of s.text x) (asks.Property n)))
  member_of_kept a x n c (Some d) = field_kept a x c (field_named s.names.families d (text_of s.text x))

  member_on_kept : (a : Operand) (x : Token) (o : Option (ℕ × Bool)) → Kept (member_on s a x o) (refusal (member_on (over s W) a x o))
  member_on_kept a x None = λ e f. refl
  member_on_kept a x (Some o) = member_of_kept a x o.0 o.1 (family_of_type o.0)

  pub member_kept : (a : Operand) (x : Token) → Kept (member_typing s a x) (refusal (member_typing (over s W) a x))
  unfolding member_typing
  member_kept a x = member_on_kept a x (object_of a.ty)

  -- ---- methods

  method_of_kept : (a : Operand) (x : Token) (operands : List Operand) (n : ℕ) (c : Bool) (d : Option ℕ)
      → Kept (method_of_type s a x operands n c d) (refusal (method_of_type (over s W) a x operands n c d))
  method_of_kept a x operands n c None =
      let wanted = asks.Method n c (types_of operands) in
      kept_harmless (method_of_type s a x operands n c None) _
      (called_use_harmless s ps a.place x wanted false (a ∷ operands) (resolution_of (scope_of s) (text_of s.text x) wanted))
  method_of_kept a x operands n c (Some d) = own_kept a.place x (a ∷ operands) _

  method_on_kept : (a : Operand) (x : Token) (operands : List Operand) (o : Option (ℕ × Bool))
      → Kept (method_on s a x operands o) (refusal (method_on (over s W) a x operands o))
  method_on_kept a x operands None = λ e f. refl
  method_on_kept a x operands (Some o) = method_of_kept a x operands o.0 o.1 (family_of_type o.0)

  pub method_kept : (a : Operand) (x : Token) (operands : List Operand)
      → Kept (method_call_typing s a x operands) (refusal (method_call_typing (over s W) a x operands))
  unfolding method_call_typing
  method_kept a x operands = method_on_kept a x operands (object_of a.ty)

  -- ---- bare calls

  call_by_kept : (x : Token) (operands : List Operand) (m : Option (Within × List FoundMethod))
      → Kept (call_by s ps x operands m) (refusal (call_by (over s W) ps x operands m))
  call_by_kept x operands None =
      let name = text_of s.text x in
      let a = asks.Call (types_of operands) in
      kept_harmless (call_by s ps x operands None) _
      (bare_harmless s ps x a (is_there s ps name) operands (resolution_of (scope_of s) name a) (name_converts s ps (scope_of s) name (types_of operands)))
  call_by_kept x operands (Some m) = own_kept x.place x (this_operand x.place m.0 ∷ operands) _

  same_methods : (w : Option Within) (name : List ℕ) → named_methods s w name ≡ named_methods (over s W) w name
  same_methods None name = refl
  same_methods (Some w) name = refl

  pub call_kept : (x : Token) (operands : List Operand) → Kept (call_typing s ps x operands) (refusal (call_typing (over s W) ps x operands))
  unfolding call_typing
  call_kept x operands =
      let name = text_of s.text x in
      subst (λ m. Kept (call_by s ps x operands (named_methods s s.within name)) (refusal (call_by (over s W) ps x operands m))) (same_methods s.within name)
      (call_by_kept x operands (named_methods s s.within name))

  -- ---- `B::f(..)`

  same_ancestor : (c : Token) (w : Option Within) → ancestor_in s c w ≡ ancestor_in (over s W) c w
  same_ancestor c None = refl
  same_ancestor c (Some w) = refl

  scoped_by_kept : (c x : Token) (operands : List Operand) (a : Option (Within × ℕ))
      → Kept (scoped_by s c x operands a) (refusal (scoped_by (over s W) c x operands a))
  scoped_by_kept c x operands None = λ e f. refl
  scoped_by_kept c x operands (Some a) = own_kept c.place x (this_operand c.place a.0 ∷ operands) _

  pub scoped_kept : (c x : Token) (operands : List Operand) → Kept (scoped_typing s c x operands) (refusal (scoped_typing (over s W) c x operands))
  unfolding scoped_typing
  scoped_kept c x operands =
      subst (λ a. Kept (scoped_by s c x operands (ancestor_in s c s.within)) (refusal (scoped_by (over s W) c x operands a))) (same_ancestor c s.within)
      (scoped_by_kept c x operands (ancestor_in s c s.within))

  -- ---- objects that are made

  -- what makes an object of a class is the same over each view
  pub same_makers : (n c : ℕ) → family_of_type n ≡ Some c → makers_of (scope_of s) n ≡ makers_of (scope_of (over s W)) n
  unfolding makers_of
  same_makers n c e = ap (makers_for (scope_of s) n) e ∙ sym (ap (makers_for (scope_of (over s W)) n) e)

  made_by_kept : (x : Token) (unviable : ErrorKind) (n : ℕ) (a : Asks) (operands : List Operand) (o : Option ℕ) → family_of_type n ≡ o
      → Kept (made_by s ps x unviable n a operands o) (refusal (made_by (over s W) ps x unviable n a operands o))
  made_by_kept x unviable n a operands None e =
      kept_harmless (made_by s ps x unviable n a operands None) _
      (called_use_harmless s ps x.place x a (is_there s ps (text_of s.text x)) operands (resolution_of (scope_of s) (text_of s.text x) a))
  made_by_kept x unviable n a operands (Some c) e =
      let r = best_of_those s.ancestors unviable (makers_of (scope_of s) n) (types_of operands) in
      subst
      (λ ms. Kept (called_own s x.place x operands r)
      (refusal (called_own (over s W) x.place x operands (best_of_those s.ancestors unviable ms (types_of operands)))))
      (same_makers n c e) (own_kept x.place x operands r)

  pub default_kept : (x : Token) (n : ℕ) → Kept (default_typing s ps x n) (refusal (default_typing (over s W) ps x n))
  unfolding default_typing
  default_kept x n = made_by_kept x kind.NoDefault n (asks.Default n) [] (family_of_type n) refl

  pub made_kept : (x : Token) (n : ℕ) (operands : List Operand) → Kept (made_typing s ps x n operands) (refusal (made_typing (over s W) ps x n operands))
  unfolding made_typing
  made_kept x n operands = made_by_kept x kind.NoMatch n (asks.Make n (types_of operands)) operands (family_of_type n) refl

-- ---- values of enumerations, over a view that keeps them

-- An enumeration of the first view is one of the second, which has no value of it that the first has not.
pub record KeepsValues (V W : RegistrationList) : Type 0 where
  pub enumerations : (families : List (List ℕ)) (name : List ℕ) (n : ℕ)
      → type_of_name (record { view = V; families = families }) name ≡ named.Enumeration n
      → type_of_name (record { view = W; families = families }) name ≡ named.Enumeration n
  pub values : (families : List (List ℕ)) (name : List ℕ) (n : ℕ)
      → type_of_name (record { view = V; families = families }) name ≡ named.Enumeration n
      → (value : List ℕ) → value_of V n value ≡ None → value_of W n value ≡ None

module _ (s : BodyContext) (W : RegistrationList) (keeps : KeepsValues s.view W) (ps : List LocalVariable) where
  value_or_kept : (c x : Token) (v w : Option EnumerationValue) → (v ≡ None → w ≡ None) → Kept (value_or_unknown c x v) (refusal (value_or_unknown c x w))
  value_or_kept c x None w h = λ e f. ap (λ v. refusal (value_or_unknown c x v)) (h refl)
  value_or_kept c x (Some v) w h = tt

  scoped_use_kept : (c x : Token) (there : Bool) (d : Named) → type_of_name (space_of s) (text_of s.text c) ≡ d
      → Kept (scoped_name_use s c x there (enumeration_meant d))
      (refusal (scoped_name_use (over s W) c x there (enumeration_meant (type_of_name (space_of (over s W)) (text_of s.text c)))))
  scoped_use_kept c x there named.Unknown e = kept_harmless (scoped_name_use s c x there (enumeration_meant named.Unknown)) _ refl
  scoped_use_kept c x there (named.Object n) e = kept_harmless (scoped_name_use s c x there (enumeration_meant (named.Object n))) _ refl
  scoped_use_kept c x there (named.Enumeration n) e =
      let families = (space_of s).families in
      let name = text_of s.text c in
      let value = text_of s.text x in
      subst
      (λ d. Kept (value_or_unknown c x (value_of s.view n value)) (refusal (scoped_name_use (over s W) c x there (enumeration_meant d))))
      (sym (keeps.enumerations families name n e))
      (value_or_kept c x (value_of s.view n value) (value_of W n value) (keeps.values families name n e value))

  pub scoped_name_kept : (c x : Token) → Kept (scoped_name_typing s ps c x) (refusal (scoped_name_typing (over s W) ps c x))
  unfolding scoped_name_typing
  scoped_name_kept c x = scoped_use_kept c x (is_there s ps (text_of s.text c)) (type_of_name (space_of s) (text_of s.text c)) refl

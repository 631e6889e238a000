-- What is refused of a name, a member or a type in a body is a use of it, or no use.
use Rattle.std.specs.Prelude.{◌≡◌, ◌&&◌, ℕ, ◌==◌, ◌||◌, Bool, List, option_map, Option, Some, None, Ok, Err, IfErr}
use Rattle.std.proofs.Common.{refl, ap}
use Rattle.ang_kinds.specs.declared.error.ErrorKind.{ErrorKind}
use Rattle.ang_kinds.specs.declared.error.ErrorKind.TheVariants as kind
use Rattle.ang_kinds.specs.declared.place.Place.{Place}
use Rattle.ang_lex.specs.declared.token.Token.{Token}
use Rattle.ang_tree.specs.declared.type_name.TypeName.{TypeName}
use Rattle.ang_types.specs.declared.arg_type.ArgType.{ArgType}
use Rattle.ang_types.specs.declared.asks.Asks.{Asks}
use Rattle.ang_types.specs.declared.asks.Asks.TheVariants as asks
use Rattle.ang_names_known.specs.declared.names.Access.{Access}
use Rattle.ang_names_known.specs.declared.names.FoundField.{FoundField}
use Rattle.ang_check_contest.specs.declared.host.WantedProperty.TheVariants as property
use Rattle.ang_check_contest.specs.Host.{property_where}
use Rattle.ang_names_known.specs.Lookup.{field_named, may_use}
use Rattle.ang_names_known.specs.Spaces.{family_of_type, type_of_name}
use Rattle.ang_names_listed.specs.declared.role.TypePosition.{TypePosition}
use Rattle.ang_names_listed.specs.declared.role.TypePosition.TheVariants as role
use Rattle.ang_lex.specs.Text.{text_of}
use Rattle.ang_names_listed.specs.Types.{TypeOrError, type_in}
use Rattle.ang_check_operators.specs.Operands.{Operand, object_of}
use Rattle.ang_check_operators.specs.Refusals.{Typing, use_refused}
use Rattle.ang_check_context.specs.declared.scope.LocalVariable.{LocalVariable}
use Rattle.ang_check_context.specs.declared.scope.Within.{Within}
use Rattle.ang_check_context.specs.Access.{if_reached}
use Rattle.ang_check_context.specs.Casts.{type_or_refusal, cast_type, cast_between, cast_from, cast_by, cast_typing}
use Rattle.ang_check_context.specs.Members.{property_use, field_typing, member_of_type, member_on, member_typing}
use Rattle.ang_check_context.specs.Names.{this_in, this_typing, value_or_unknown, scoped_name_use, scoped_name_typing, value_use, field_within, field_or_global, local_named, local_or, name_typing}
use Rattle.ang_check_context.specs.Scope.{BodyContext, scope_of, space_of, family_of, is_there}
use Rattle.ang_check_denials.specs.Denials.{is_bare}
use Rattle.ang_check_uses.specs.declared.uses.EnumerationValue.{EnumerationValue}
use Rattle.ang_check_uses.specs.declared.uses.Resolution.{Resolution}
use Rattle.ang_check_uses.specs.declared.uses.Resolution.TheVariants as resolution
use Rattle.ang_check_uses.specs.Uses.{resolution_of, type_meant, value_of}
use Rattle.ang_check_laws.specs.Asked.{IsAskedThere, IsRefusedUse}
use Rattle.ang_check_laws.proofs.Judged.{Silent, either_silent, either_refused, unasked}
use Rattle.ang_check_laws.proofs.Resolutions.{IsEnumeration, IsVariable, IsProperty, enumeration_is, value_is_variable, property_is}
use Rattle.ang_check_laws.proofs.Types.{IfUnknown, type_refused_so}

-- ---- casts

cast_between_silent : (place : Place) (n : ℕ) (c : Bool) (a : Operand) (m : ℕ) (d own : Option ℕ) → Silent (cast_between place n c a m d own)
cast_between_silent place n c a m (Some d) (Some own) = tt
cast_between_silent place n c a m (Some d) None = refl
cast_between_silent place n c a m None (Some own) = refl
cast_between_silent place n c a m None None = either_silent (n == m) _ _ tt refl

cast_from_silent : (place : Place) (n : ℕ) (c : Bool) (a : Operand) (o : Option (ℕ × Bool)) → Silent (cast_from place n c a o)
cast_from_silent place n c a None = refl
cast_from_silent place n c a (Some o) = cast_between_silent place n (c || o.1) a o.0 (family_of_type n) (family_of_type o.0)

cast_by_silent : (place : Place) (a : Operand) (wanted : Option (ℕ × Bool)) → Silent (cast_by place a wanted)
cast_by_silent place a None = refl
cast_by_silent place a (Some wanted) = cast_from_silent place wanted.0 wanted.1 a (object_of a.ty)

pub cast_silent : (word : Token) (ty : ArgType) (a : Operand) → Silent (cast_typing word ty a)
unfolding cast_typing
cast_silent word ty a = cast_by_silent word.place a (object_of ty)

-- ---- `this`

this_in_silent : (x : Token) (w : Option Within) → Silent (this_in x w)
this_in_silent x None = refl
this_in_silent x (Some w) = tt

pub this_silent : (s : BodyContext) (x : Token) → Silent (this_typing s x)
unfolding this_typing
this_silent s x = this_in_silent x s.within

-- ---- in a body, where these parameters and locals are alive

module _ (s : BodyContext) (ps : List LocalVariable) where
  -- what is refused is a use, or none
  abbrev pub Uses : {A : Type 0} → Typing A → Type 0
  Uses x = IfErr x (IsAskedThere s ps)

  pub no_use : {A : Type 0} (x : Typing A) → Silent x → Uses x
  no_use x h = unasked (IsRefusedUse s ps) x h

  pub refused_use : (why : ErrorKind) (x : Token) (a : Asks) → resolution_of (scope_of s) (text_of s.text x) a ≡ resolution.Refused why
      → IsRefusedUse s ps (use_refused why x a (is_bare a && is_there s ps (text_of s.text x))) a
  refused_use why x a e = record { name = x; means_nothing = e; refusal = refl }

  -- where the body may use a member
  reached_uses : {A : Type 0} (x : Token) (owner : ℕ) (a : Access) (next : Typing A) → Uses next → Uses (if_reached s x owner a next)
  reached_uses x owner a next h = either_refused (IsAskedThere s ps) (may_use s.names.families (family_of s.within) owner a) next _ h tt

  -- ---- types

  type_uses : (x : Token) (y : TypeOrError) → IfErr y (IfUnknown (type_of_name (space_of s) (text_of s.text x))) → Uses (type_or_refusal s ps x y)
  type_uses x (Ok ty) h = tt
  type_uses x (Err kind.UnknownType) h = refused_use kind.UnknownType x asks.Type (ap type_meant h)
  type_uses x (Err _) h = tt

  pub written_uses : (r : TypePosition) (y : TypeName) → Uses (type_or_refusal s ps y.name (type_in (space_of s) r s.text y))
  written_uses r y = type_uses y.name (type_in (space_of s) r s.text y) (type_refused_so (space_of s) r s.text y)

  pub cast_type_uses : (y : TypeName) → Uses (cast_type s ps y)
  unfolding cast_type
  cast_type_uses y = written_uses role.Cast y

  -- ---- members

  property_uses : (a : Operand) (x : Token) (n : ℕ) (c : Bool) (r : Resolution) → IsProperty r
      → resolution_of (scope_of s) (text_of s.text x) (asks.Property n) ≡ r → Uses (property_use a x n c r)
  property_uses a x n c (resolution.Variable v ty read_only) h e = absurd h
  property_uses a x n c (resolution.Property p) h e = tt
  property_uses a x n c (resolution.Call f) h e = absurd h
  property_uses a x n c (resolution.Type k) h e = absurd h
  property_uses a x n c (resolution.Enumeration k) h e = absurd h
  property_uses a x n c (resolution.Value v) h e = absurd h
  property_uses a x n c (resolution.Refused why) h e = refused_use why x (asks.Property n) e

  field_uses : (a : Operand) (x : Token) (c : Bool) (f : Option FoundField) → Uses (field_typing s a x c f)
  field_uses a x c None = tt
  field_uses a x c (Some f) = reached_uses x f.owner f.access _ tt

  member_of_uses : (a : Operand) (x : Token) (n : ℕ) (c : Bool) (d : Option ℕ) → Uses (member_of_type s a x n c d)
  member_of_uses a x n c None =
      property_uses a x n c (resolution_of (scope_of s) (text_of s.text x) (asks.Property n))
      (property_is (property_where (property.Member n (text_of s.text x)) s.view)) refl
  member_of_uses a x n c (Some d) = field_uses a x c (field_named s.names.families d (text_of s.text x))

  member_on_uses : (a : Operand) (x : Token) (o : Option (ℕ × Bool)) → Uses (member_on s a x o)
  member_on_uses a x None = tt
  member_on_uses a x (Some o) = member_of_uses a x o.0 o.1 (family_of_type o.0)

  pub member_uses : (a : Operand) (x : Token) → Uses (member_typing s a x)
  unfolding member_typing
  member_uses a x = member_on_uses a x (object_of a.ty)

  -- ---- values of enumerations

  value_of_uses : (c x : Token) (v : Option EnumerationValue) → Uses (value_or_unknown c x v)
  value_of_uses c x None = tt
  value_of_uses c x (Some v) = tt

  scoped_uses : (c x : Token) (r : Resolution) → IsEnumeration r → resolution_of (scope_of s) (text_of s.text c) asks.Enumeration ≡ r
      → Uses (scoped_name_use s c x (is_there s ps (text_of s.text c)) r)
  scoped_uses c x (resolution.Variable v ty read_only) h e = absurd h
  scoped_uses c x (resolution.Property p) h e = absurd h
  scoped_uses c x (resolution.Call f) h e = absurd h
  scoped_uses c x (resolution.Type k) h e = absurd h
  scoped_uses c x (resolution.Enumeration k) h e = value_of_uses c x (value_of s.view k (text_of s.text x))
  scoped_uses c x (resolution.Value v) h e = absurd h
  scoped_uses c x (resolution.Refused why) h e = refused_use why c asks.Enumeration e

  pub scoped_name_uses : (c x : Token) → Uses (scoped_name_typing s ps c x)
  unfolding scoped_name_typing
  scoped_name_uses c x =
      scoped_uses c x (resolution_of (scope_of s) (text_of s.text c) asks.Enumeration)
      (enumeration_is (type_of_name (space_of s) (text_of s.text c))) refl

  -- ---- bare names

  value_uses : (x : Token) (r : Resolution) → IsVariable r → resolution_of (scope_of s) (text_of s.text x) asks.Value ≡ r
      → Uses (value_use s x (is_there s ps (text_of s.text x)) r)
  value_uses x (resolution.Variable v ty read_only) h e = tt
  value_uses x (resolution.Property p) h e = absurd h
  value_uses x (resolution.Call f) h e = absurd h
  value_uses x (resolution.Type k) h e = absurd h
  value_uses x (resolution.Enumeration k) h e = absurd h
  value_uses x (resolution.Value v) h e = tt
  value_uses x (resolution.Refused why) h e = refused_use why x asks.Value e

  global_uses : (x : Token) → Uses (field_or_global s x (is_there s ps (text_of s.text x)) None)
  global_uses x =
      value_uses x (resolution_of (scope_of s) (text_of s.text x) asks.Value) (value_is_variable (scope_of s) (text_of s.text x)) refl

  own_field_uses : (x : Token) (w : Within) (f : Option FoundField)
      → Uses (field_or_global s x (is_there s ps (text_of s.text x)) (option_map (λ (g : FoundField). (w, g)) f))
  own_field_uses x w None = global_uses x
  own_field_uses x w (Some f) = reached_uses x f.owner f.access _ tt

  within_uses : (x : Token) (w : Option Within)
      → Uses (field_or_global s x (is_there s ps (text_of s.text x)) (field_within s w (text_of s.text x)))
  within_uses x None = global_uses x
  within_uses x (Some w) = own_field_uses x w (field_named s.names.families w.family (text_of s.text x))

  local_or_uses : (o : Option Operand) (otherwise : Typing Operand) → Uses otherwise → Uses (local_or o otherwise)
  local_or_uses None otherwise h = h
  local_or_uses (Some a) otherwise h = tt

  pub name_uses : (x : Token) → Uses (name_typing s ps x)
  unfolding name_typing
  name_uses x =
      let name = text_of s.text x in
      local_or_uses (local_named x name ps) (field_or_global s x (is_there s ps name) (field_within s s.within name)) (within_uses x s.within)

-- Names and calls make typed trees of typed operands.
use Rattle.std.specs.Prelude.{◌≡◌, ℕ, suc, ◌+◌, ◌-◌, ◌<◌, ◌==◌, nat_lt, Bool, true, false, not, ◌&&◌, if◌then◌else◌, length, List, [], ◌∷◌, map, option_map, option_and_then, Option, Some, None, IfSome, IfOk, slice_get}
use Rattle.std.specs.List.{flat_map}
use Rattle.std.proofs.Common.{refl, ap, sym, ◌∙◌, subst, arith}
use Rattle.ang_kinds.specs.declared.place.Place.{Place}
use Rattle.ang_kinds.specs.declared.primitive.Primitive.TheVariants as primitive
use Rattle.ang_lex.specs.declared.token.Token.{Token}
use Rattle.ang_lex.specs.Text.{text_of}
use Rattle.ang_types.specs.declared.arg_type.ArgType.{ArgType}
use Rattle.ang_types.specs.declared.arg_type.ArgType.TheVariants as type
use Rattle.ang_types.specs.declared.asks.Asks.{Asks}
use Rattle.ang_types.specs.declared.asks.Asks.TheVariants as asks
use Rattle.ang_typed.specs.declared.expression.TypedVariable.{TypedVariable}
use Rattle.ang_typed.specs.declared.expression.TypedVariable.TheVariants as variable
use Rattle.ang_typed.specs.Typed as t
use Rattle.ang_tree.specs.Stmt.{Every}
use Rattle.ang_names_known.specs.declared.names.Family.{Family}
use Rattle.ang_names_known.specs.declared.names.FoundField.{FoundField}
use Rattle.ang_names_known.specs.Items.{is_empty}
use Rattle.ang_names_known.specs.Lookup.{FoundMethod, field_named, methods_named, is_under, may_use}
use Rattle.ang_names_known.specs.Spaces.{family_type}
use Rattle.ang_check_operators.specs.declared.operand.SiteUse.{SiteUse}
use Rattle.ang_check_operators.specs.Refusals.{Typing}
use Rattle.ang_check_operators.specs.Operands.{Operand, reading, integer, object_of}
use Rattle.ang_check_context.specs.declared.scope.LocalVariable.{LocalVariable}
use Rattle.ang_check_context.specs.declared.scope.Within.{Within}
use Rattle.ang_check_context.specs.Scope.{BodyContext, scope_of, last_named, family_of, is_there}
use Rattle.ang_check_context.specs.Access.{if_in_reach}
use Rattle.ang_check_context.specs.Names.{own_type, this_operand, int_bits, value_operand, value_or_unknown, scoped_name_use, scoped_name_typing, value_use, field_within, field_or_global, local_at, local_named, local_or, name_typing, this_in, this_typing}
use Rattle.ang_check_context.specs.Operands.{types_of}
use Rattle.ang_check_typing.specs.Calls.{arguments_for, call_of, call_with, called_use, called_own, virtual_method, direct_method, own_method, enumerated_of, bare_use, named_methods, call_by, call_typing, ancestor_by, ancestor_in, scoped_by, scoped_typing}
use Rattle.ang_check_uses.specs.declared.uses.Callable.{Callable}
use Rattle.ang_check_uses.specs.declared.uses.EnumerationValue.{EnumerationValue}
use Rattle.ang_check_uses.specs.declared.uses.Reach.{Reach}
use Rattle.ang_check_uses.specs.declared.uses.Resolution.{Resolution}
use Rattle.ang_check_uses.specs.declared.uses.Resolution.TheVariants as resolution
use Rattle.ang_check_uses.specs.Uses.{resolution_of, value_of}
use Rattle.ang_meaning.specs.Environment.{Environment}
use Rattle.ang_source_typed.specs.Types.{SlotType, Number, Key, Family as FamilyType, Modules, driver_of, object_type, first_family, IsA}
use Rattle.ang_view.specs.Registration.{entry_at}
use Rattle.ang_source_typed.specs.TypedProgram.{IsVariable, IsStored, Types}
use Rattle.ang_check_sound.proofs.Judged.{holds, either_holds}
use Rattle.ang_check_sound.proofs.Items.{every_mapped, every_flat_of, second_true}
use Rattle.ang_check_laws.specs.Contexts.{place_type, IsDeclared, IsTypedCallable, IsTypedContext, IsLocal, HasThisOf, AreLocals}
use Rattle.ang_check_laws.proofs.Operands.{TypedOperand, made, value_made, no_nulls, integer_typed}
use Rattle.ang_check_laws.proofs.Arguments.{AreRanked, receiver_ranked, call_typed}
use Rattle.ang_check_laws.proofs.Uses.{IsMeant, value_typed, IsMeantCall, name_typed, best_method_typed}

-- a family's number as a type is that of no host type
pub not_low : (c : ℕ) → nat_lt (family_type c) first_family ≡ false
not_low c = by (nat_lt (family_type c) first_family) refl
  where
    by : (b : Bool) → nat_lt (family_type c) first_family ≡ b → b ≡ false
    by true e = absurd (let less : first_family + c < first_family = search arith in omega (arith, less))
    by false e = refl

-- In a body, where these parameters and locals are alive:
module _ (z : Environment) (ms : Modules) (m : ℕ) (s : BodyContext) (built : IsTypedContext z ms m s) (locals : List SlotType) where
  abbrev T : ArgType → SlotType
  T ty = place_type z ms m ty

  abbrev Typed : Operand → Type 0
  Typed a = TypedOperand z ms m locals a

  -- an object of a family's type is one of the family
  pub family_place : (c : ℕ) → object_type (ms m).view m (family_type c) ≡ FamilyType m c
  family_place c =
      ap (λ b. if b then Key (driver_of (entry_at (ms m).view (family_type c))) else FamilyType m (family_type c - first_family)) (not_low c)
      ∙ ap (FamilyType m) (let same : 1024 + c - 1024 ≡ c = omega arith in same)

  -- ---- calls

  called_typed : (place : Place) (c : Callable) (operands : List Operand) → IsTypedCallable z ms m c → AreRanked s.ancestors c.candidate.params (types_of operands)
      → Every Typed operands → IfOk (call_with s place c operands) Typed
  called_typed place c operands h r all =
      holds (λ xs. Types z ms m locals (T c.result) (call_of c.called c.result xs)) Typed (arguments_for s.ancestors c.candidate.params operands) _
      (call_typed z ms m locals built.classes s.ancestors built.ancestors c.called c.result c.candidate.params operands (T c.result) h.gives r all)
      (λ xs sxs. value_made z ms m locals place c.result (call_of c.called c.result xs) h.declared sxs)

  -- where the body may use it
  reached_typed : (x : Token) (r : Option Reach) (next : Typing Operand) → IfOk next Typed → IfOk (if_in_reach s x r next) Typed
  reached_typed x None next h = h
  reached_typed x (Some r) next h = either_holds Typed (may_use s.names.families (family_of s.within) r.owner r.access) next _ h tt

  pub use_typed : (place : Place) (x : Token) (a : Asks) (there : Bool) (operands : List Operand) (r : Resolution) → IsMeantCall z ms m s built (types_of operands) r
      → Every (TypedOperand z ms m locals) operands → IfOk (called_use s place x a there operands r) (TypedOperand z ms m locals)
  use_typed place x a there operands (resolution.Call c) h all =
      reached_typed x c.reach (call_with s place c operands) (called_typed place c operands h.0 h.1 all)
  use_typed place x a there operands (resolution.Variable v ty read_only) h all = tt
  use_typed place x a there operands (resolution.Property p) h all = tt
  use_typed place x a there operands (resolution.Type k) h all = tt
  use_typed place x a there operands (resolution.Enumeration k) h all = tt
  use_typed place x a there operands (resolution.Value v) h all = tt
  use_typed place x a there operands (resolution.Refused why) h all = tt

  pub own_use_typed : (place : Place) (x : Token) (operands : List Operand) (r : Resolution) → IsMeantCall z ms m s built (types_of operands) r
      → Every (TypedOperand z ms m locals) operands → IfOk (called_own s place x operands r) (TypedOperand z ms m locals)
  own_use_typed place x operands (resolution.Call c) h all =
      reached_typed x c.reach (call_with s place c operands) (called_typed place c operands h.0 h.1 all)
  own_use_typed place x operands (resolution.Variable v ty read_only) h all = tt
  own_use_typed place x operands (resolution.Property p) h all = tt
  own_use_typed place x operands (resolution.Type k) h all = tt
  own_use_typed place x operands (resolution.Enumeration k) h all = tt
  own_use_typed place x operands (resolution.Value v) h all = tt
  own_use_typed place x operands (resolution.Refused why) h all = tt

  -- ---- methods of the scripts

  -- a receiver's object is asked of
  pub receiver_meant : (receiver : Operand) (o : ℕ × Bool) (operands : List Operand) (r : Resolution) → object_of receiver.ty ≡ Some o
      → IsMeantCall z ms m s built (type.Object o.0 o.1 ∷ types_of operands) r → IsMeantCall z ms m s built (types_of (receiver ∷ operands)) r
  receiver_meant receiver o operands (resolution.Call c) is h = (h.0, receiver_ranked s.ancestors c.candidate.params receiver.ty o (types_of operands) is h.1)
  receiver_meant receiver o operands (resolution.Variable v ty read_only) is h = tt
  receiver_meant receiver o operands (resolution.Property p) is h = tt
  receiver_meant receiver o operands (resolution.Type k) is h = tt
  receiver_meant receiver o operands (resolution.Enumeration k) is h = tt
  receiver_meant receiver o operands (resolution.Value v) is h = tt
  receiver_meant receiver o operands (resolution.Refused why) is h = tt

  pub own_method_typed : (d : ℕ) (n : ℕ) (c : Bool) (x : Token) (receiver : Operand) (operands : List Operand) → n ≡ family_type d → object_of receiver.ty ≡ Some (n, c)
      → TypedOperand z ms m locals receiver → Every (TypedOperand z ms m locals) operands → IfOk (own_method s d n c x receiver operands) (TypedOperand z ms m locals)
  own_method_typed d n c x receiver operands number is sr all =
      let found = methods_named s.names.families d (text_of s.text x) in
      own_use_typed receiver.place x (receiver ∷ operands) _
      (receiver_meant receiver (n, c) operands _ is
      (best_method_typed z ms m s built (map (virtual_method n) found) n c (types_of operands)
      (every_mapped (λ y. IsTypedCallable z ms m (virtual_method n y)) (IsTypedCallable z ms m) (virtual_method n) found (λ y h. h)
      (subst (λ k. Every (λ y. IsTypedCallable z ms m (virtual_method k y)) found) (sym number) (built.methods d (text_of s.text x)))))) (sr, all)

  -- `this`, where it is alive
  this_made : (place : Place) (w : Within) → HasThisOf z ms m locals w → Typed (this_operand place w)
  this_made place w h =
      let is : IsA z ms (FamilyType m h.class) (object_type (ms m).view m (family_type w.family)) =
      subst (λ u. IsA z ms (FamilyType m h.class) u) (sym (family_place w.family)) (refl, h.under) in
      let own : IsA z ms (object_type (ms m).view m (family_type w.family)) (object_type (ms m).view m (family_type w.family)) =
      subst (λ u. IsA z ms u u) (sym (family_place w.family)) (refl, h.itself) in
      made z ms m locals place (own_type w) (t.read (t.named (variable.Local 0)) (own_type w))
      (record { tree = (FamilyType m h.class, h.there, is); nulls = tt }) own

  this_by : (x : Token) (w : Option Within) → IfSome w (HasThisOf z ms m locals) → IfOk (this_in x w) Typed
  this_by x None alive = tt
  this_by x (Some w) alive = this_made x.place w alive

  pub this_typed : (x : Token) → IfSome s.within (HasThisOf z ms m locals) → IfOk (this_typing s x) (TypedOperand z ms m locals)
  unfolding this_typing
  this_typed x alive = this_by x s.within alive

  -- ---- a bare call

  -- a conversion to an enumeration, of one operand
  enumerated_typed : (x : Token) (k : ℕ) (operands : List Operand) → Every Typed operands → IfOk (enumerated_of x k operands) Typed
  enumerated_typed x k [] all = tt
  enumerated_typed x k (a ∷ []) all =
      holds (λ q. T a.ty ≡ Number) Typed (integer a) _ (integer_typed z ms m locals a)
      (λ q is. made z ms m locals x.place (type.Enumeration k) (t.naming (record { 0 = k }) (t.convert q primitive.I32 a.tree))
      (record { tree = (refl, subst (λ u. Types z ms m locals u a.tree) is (all.0).typed.tree); nulls = tt }) tt)
  enumerated_typed x k (a ∷ b ∷ rest) all = tt

  bare_typed : (x : Token) (a : Asks) (there : Bool) (operands : List Operand) (r : Resolution) → IsMeantCall z ms m s built (types_of operands) r
      → Every Typed operands → IfOk (bare_use s x a there operands r) Typed
  bare_typed x a there operands (resolution.Enumeration k) h all = enumerated_typed x k operands all
  bare_typed x a there operands (resolution.Call c) h all = use_typed x.place x a there operands (resolution.Call c) h all
  bare_typed x a there operands (resolution.Variable v ty read_only) h all = tt
  bare_typed x a there operands (resolution.Property q) h all = tt
  bare_typed x a there operands (resolution.Type k) h all = tt
  bare_typed x a there operands (resolution.Value v) h all = tt
  bare_typed x a there operands (resolution.Refused why) h all = tt

  call_by_name : (ps : List LocalVariable) (x : Token) (operands : List Operand) → Every Typed operands → IfOk (call_by s ps x operands None) Typed
  call_by_name ps x operands all =
      bare_typed x (asks.Call (types_of operands)) (is_there s ps (text_of s.text x)) operands
      (resolution_of (scope_of s) (text_of s.text x) (asks.Call (types_of operands)))
      (name_typed z ms m s built (text_of s.text x) (types_of operands)) all

  call_within : (ps : List LocalVariable) (x : Token) (operands : List Operand) (w : Option Within) → IfSome w (HasThisOf z ms m locals)
      → Every Typed operands → IfOk (call_by s ps x operands (named_methods s w (text_of s.text x))) Typed
  call_within ps x operands None alive all = call_by_name ps x operands all
  call_within ps x operands (Some w) alive all = by (is_empty found)
    where
      found : List FoundMethod
      found = methods_named s.names.families w.family (text_of s.text x)

      by : (b : Bool) → IfOk (call_by s ps x operands (if b then None else Some (w, found))) Typed
      by true = call_by_name ps x operands all
      by false =
          own_method_typed w.family (family_type w.family) w.read_only x (this_operand x.place w) operands refl refl (this_made x.place w alive) all

  pub bare_call_typed : (ps : List LocalVariable) (x : Token) (operands : List Operand) → IfSome s.within (HasThisOf z ms m locals)
      → Every (TypedOperand z ms m locals) operands → IfOk (call_typing s ps x operands) (TypedOperand z ms m locals)
  unfolding call_typing
  bare_call_typed ps x operands alive all = call_within ps x operands s.within alive all

  -- ---- `B::f(..)`

  -- the class of the body, where some class above it is meant
  abbrev IsAbove : Option (Within × ℕ) → Type 0
  IsAbove a = IfSome a (λ (b : Within × ℕ). HasThisOf z ms m locals b.0 × (is_under s.names.families b.0.family b.1 ≡ true))

  ancestor_is : (w : Within) (d : ℕ) (b : Bool) → (b ≡ true → is_under s.names.families w.family d ≡ true) → HasThisOf z ms m locals w
      → IsAbove (if b then Some (w, d) else None)
  ancestor_is w d true e alive = (alive, e refl)
  ancestor_is w d false e alive = tt

  ancestor_by_typed : (w : Within) (d : Option ℕ) (f : Option Family) → HasThisOf z ms m locals w → IsAbove (ancestor_by s w d f)
  ancestor_by_typed w d None alive = tt
  ancestor_by_typed w None (Some f) alive = tt
  ancestor_by_typed w (Some d) (Some f) alive =
      let others = not (d == w.family) && is_under s.names.families w.family d in
      ancestor_is w d (f.is_class && others)
      (λ e. second_true (not (d == w.family)) (is_under s.names.families w.family d) (second_true f.is_class others e)) alive

  ancestor_typed : (c : Token) (w : Option Within) → IfSome w (HasThisOf z ms m locals) → IsAbove (ancestor_in s c w)
  ancestor_typed c None alive = tt
  ancestor_typed c (Some w) alive = ancestor_by_typed w _ _ alive

  scoped_by_typed : (c x : Token) (operands : List Operand) (a : Option (Within × ℕ)) → IsAbove a → Every Typed operands → IfOk (scoped_by s c x operands a) Typed
  scoped_by_typed c x operands None alive all = tt
  scoped_by_typed c x operands (Some a) alive all =
      let number = family_type a.0.family in
      let found = methods_named s.names.families a.1 (text_of s.text x) in
      own_use_typed c.place x (this_operand c.place a.0 ∷ operands) _
      (best_method_typed z ms m s built (flat_map (direct_method number) found) number a.0.read_only (types_of operands)
      (every_flat_of (λ y. Every (IsTypedCallable z ms m) (direct_method number y)) (IsTypedCallable z ms m) (direct_method number) found (λ y h. h)
      (built.direct a.0.family a.1 (text_of s.text x) alive.1))) (this_made c.place a.0 alive.0, all)

  pub scoped_typed : (c x : Token) (operands : List Operand) → IfSome s.within (HasThisOf z ms m locals)
      → Every (TypedOperand z ms m locals) operands → IfOk (scoped_typing s c x operands) (TypedOperand z ms m locals)
  unfolding scoped_typing
  scoped_typed c x operands alive all = scoped_by_typed c x operands (ancestor_in s c s.within) (ancestor_typed c s.within alive) all

  -- ---- names

  -- a variable, which may be stored into where it is not `const`
  read_typed : (place : Place) (x : TypedVariable) (ty : ArgType) (how : SiteUse) (held : SlotType) → IsDeclared z ms m ty → IsVariable z ms m locals x held
      → IsA z ms held (T ty) → (how.read_only ≡ false → IsVariable z ms m locals x (T ty) × IsStored z ms m x) → Typed (reading place (t.named x) ty how)
  read_typed place x ty how held d h is stored = record {
    typed = record { tree = (held, h, is); nulls = no_nulls z ms m locals ty (t.read (t.named x) ty) d.not_null };
    itself = d.itself;
    target = stored;
    seat = tt;
  }

  enumeration_value : (place : Place) (v : EnumerationValue) → Typed (value_operand place v)
  enumeration_value place v =
      made z ms m locals place (type.Enumeration v.enumeration) (t.naming v.entity (t.number primitive.I32 (int_bits v.number))) (record { tree = refl; nulls = tt }) tt

  value_use_typed : (x : Token) (there : Bool) (r : Resolution) → IsMeant z ms m s built locals r → IfOk (value_use s x there r) Typed
  value_use_typed x there (resolution.Variable v ty read_only) h =
      read_typed x.place v ty (record { read_only = read_only; bare = true; name = x }) (T ty) h.0 h.1 (h.0).itself (λ free. (h.1, h.2 free))
  value_use_typed x there (resolution.Property p) h = tt
  value_use_typed x there (resolution.Call c) h = tt
  value_use_typed x there (resolution.Type k) h = tt
  value_use_typed x there (resolution.Enumeration k) h = tt
  value_use_typed x there (resolution.Value v) h = enumeration_value x.place v
  value_use_typed x there (resolution.Refused why) h = tt

  -- `E::V`
  or_unknown : (c x : Token) (v : Option EnumerationValue) → IfOk (value_or_unknown c x v) Typed
  or_unknown c x None = tt
  or_unknown c x (Some v) = enumeration_value c.place v

  scoped_name_by : (c x : Token) (there : Bool) (r : Resolution) → IfOk (scoped_name_use s c x there r) Typed
  scoped_name_by c x there (resolution.Enumeration k) = or_unknown c x (value_of s.view k (text_of s.text x))
  scoped_name_by c x there (resolution.Variable v ty read_only) = tt
  scoped_name_by c x there (resolution.Property q) = tt
  scoped_name_by c x there (resolution.Call k) = tt
  scoped_name_by c x there (resolution.Type k) = tt
  scoped_name_by c x there (resolution.Value v) = tt
  scoped_name_by c x there (resolution.Refused why) = tt

  pub scoped_name_typed : (ps : List LocalVariable) (c x : Token) → IfOk (scoped_name_typing s ps c x) (TypedOperand z ms m locals)
  unfolding scoped_name_typing
  scoped_name_typed ps c x =
      let name = text_of s.text c in scoped_name_by c x (is_there s ps name) (resolution_of (scope_of s) name asks.Enumeration)

  -- a field of `this`, else a global
  global_typed : (x : Token) (there : Bool) → IfOk (field_or_global s x there None) Typed
  global_typed x there =
      value_use_typed x there (resolution_of (scope_of s) (text_of s.text x) asks.Value) (value_typed z ms m s built locals (text_of s.text x))

  -- what an object of a class has, an object of a class under it has too
  field_held : (w : Within) (f : FoundField) (name : List ℕ) → field_named s.names.families w.family name ≡ Some f → HasThisOf z ms m locals w
      → IsVariable z ms m locals (variable.Field f.number) (T f.written.ty)
  field_held w f name e h =
      (h.class, h.there, built.classes.inherits h.class w.family f.number (T f.written.ty) h.under (built.fields w.family name f e).1)

  field_typed : (x : Token) (there : Bool) (w : Within) (f : Option FoundField) → field_named s.names.families w.family (text_of s.text x) ≡ f → HasThisOf z ms m locals w
      → IfOk (field_or_global s x there (option_map (λ (g : FoundField). (w, g)) f)) Typed
  field_typed x there w None e alive = global_typed x there
  field_typed x there w (Some f) e alive =
      let d = (built.fields w.family (text_of s.text x) f e).0 in
      let held = field_held w f (text_of s.text x) e alive in
      either_holds Typed (may_use s.names.families (family_of s.within) f.owner f.access) _ _
      (read_typed x.place (variable.Field f.number) f.written.ty _ (T f.written.ty) d held d.itself (λ free. (held, tt))) tt

  within_typed : (x : Token) (there : Bool) (w : Option Within) → IfSome w (HasThisOf z ms m locals)
      → IfOk (field_or_global s x there (field_within s w (text_of s.text x))) Typed
  within_typed x there None alive = global_typed x there
  within_typed x there (Some w) alive = field_typed x there w (field_named s.names.families w.family (text_of s.text x)) refl alive

  found_or : (o : Option Operand) (otherwise : Typing Operand) → IfSome o Typed → IfOk otherwise Typed → IfOk (local_or o otherwise) Typed
  found_or None otherwise h k = k
  found_or (Some a) otherwise h k = h

  local_typed : (x : Token) (i : ℕ) (p : LocalVariable) → IsLocal z ms m locals i p → Typed (local_at x i p)
  local_typed x i p h =
      read_typed x.place (variable.Local i) p.ty (record { read_only = p.read_only; bare = true; name = x }) h.held h.declared h.there h.is
      (λ free. (subst (λ u. slice_get locals (length locals - suc i) ≡ Some u) (h.exact free) h.there, tt))

  local_at_typed : (ps : List LocalVariable) (x : Token) (i : ℕ) (p : Option LocalVariable) → slice_get ps i ≡ p
      → ((i : ℕ) (p : LocalVariable) → slice_get ps i ≡ Some p → IsLocal z ms m locals i p) → IfSome (option_map (local_at x i) p) Typed
  local_at_typed ps x i None e each = tt
  local_at_typed ps x i (Some p) e each = local_typed x i p (each i p e)

  local_by : (ps : List LocalVariable) (x : Token) (o : Option ℕ) → ((i : ℕ) (p : LocalVariable) → slice_get ps i ≡ Some p → IsLocal z ms m locals i p)
      → IfSome (option_and_then (λ i. option_map (local_at x i) (slice_get ps i)) o) Typed
  local_by ps x None each = tt
  local_by ps x (Some i) each = local_at_typed ps x i (slice_get ps i) refl each

  pub bare_name_typed : (ps : List LocalVariable) (x : Token) → AreLocals z ms m s.within ps locals → IfOk (name_typing s ps x) (TypedOperand z ms m locals)
  unfolding name_typing
  bare_name_typed ps x are =
      let name = text_of s.text x in
      found_or (local_named x name ps) (field_or_global s x (is_there s ps name) (field_within s s.within name))
      (local_by ps x (last_named name 0 ps) are.each) (within_typed x (is_there s ps name) s.within are.this)

-- Members, casts and what makes objects are typed, of typed operands.
use Rattle.std.specs.Prelude.{◌≡◌, ℕ, ◌+◌, ◌-◌, ◌≤◌, ◌<◌, ◌==◌, nat_lt, Bool, true, false, ◌||◌, if◌then◌else◌, length, List, [], ◌∷◌, Option, Some, None, IfSome, IsSome, Ok, Err, IfOk}
use Rattle.std.proofs.Common.{refl, ap, sym, ◌∙◌, subst, arith}
use Rattle.std.proofs.lemmas.Bool.{eqb-true}
use Rattle.std.proofs.lemmas.List.{length-map}
use Rattle.std.proofs.lemmas.Option.{same_Some}
use Rattle.ang_kinds.specs.declared.error.ErrorKind.TheVariants as kind
use Rattle.ang_kinds.specs.declared.place.Place.{Place}
use Rattle.ang_lex.specs.declared.token.Token.{Token}
use Rattle.ang_lex.specs.Text.{text_of}
use Rattle.ang_view.specs.Registration.{entry_at}
use Rattle.ang_tree.specs.declared.type_name.TypeName.{TypeName}
use Rattle.ang_tree.specs.Stmt.{Every}
use Rattle.ang_types.specs.declared.arg_type.ArgType.{ArgType}
use Rattle.ang_types.specs.declared.arg_type.ArgType.TheVariants as type
use Rattle.ang_types.specs.declared.asks.Asks.TheVariants as asks
use Rattle.ang_typed.specs.declared.expression.TypedMember.{TypedMember}
use Rattle.ang_typed.specs.declared.expression.TypedMember.TheVariants as member
use Rattle.ang_typed.specs.Typed as t
use Rattle.ang_names_known.specs.declared.names.Family.{Family as ScriptFamily}
use Rattle.ang_names_known.specs.declared.names.FoundField.{FoundField}
use Rattle.ang_names_known.specs.Lookup.{field_named, may_use}
use Rattle.ang_names_known.specs.Spaces.{family_type, family_of_type}
use Rattle.ang_names_listed.specs.declared.role.TypePosition.TheVariants as role
use Rattle.ang_names_listed.specs.Types.{TypeOrError, is_unknown_type, type_in}
use Rattle.ang_check_operators.specs.declared.operand.SiteUse.{SiteUse}
use Rattle.ang_check_operators.specs.Operands.{Operand, operand, reading, object_of}
use Rattle.ang_check_operators.specs.Refusals.{fault}
use Rattle.ang_check_context.specs.declared.scope.LocalVariable.{LocalVariable}
use Rattle.ang_check_context.specs.Scope.{BodyContext, scope_of, space_of, family_of, is_there}
use Rattle.ang_check_context.specs.Casts.{type_or_refusal, cast_type, cast_between, cast_from, cast_by, cast_typing}
use Rattle.ang_check_context.specs.Members.{property_use, field_typing, member_of_type, member_on, member_typing}
use Rattle.ang_check_context.specs.Operands.{types_of}
use Rattle.ang_check_typing.specs.Calls.{method_of_type, method_on, method_call_typing, made_by, default_typing, made_typing}
use Rattle.ang_check_uses.specs.declared.uses.Resolution.{Resolution}
use Rattle.ang_check_uses.specs.declared.uses.Resolution.TheVariants as resolution
use Rattle.ang_check_uses.specs.Uses.{entity_of, makers_of, resolution_of}
use Rattle.ang_meaning.specs.Environment.{Environment}
use Rattle.ang_source_typed.specs.Types.{SlotType, Key, Family, Modules, driver_of, object_type, first_family, IsA}
use Rattle.ang_source_typed.specs.TypedProgram.{IsMember, IsStoredMember, Types}
use Rattle.ang_check_sound.proofs.Judged.{either_holds}
use Rattle.ang_check_sound.proofs.Items.{two_false}
use Rattle.ang_check_sound.proofs.Types.{cast_there}
use Rattle.ang_check_laws.specs.Contexts.{place_type, IsDeclared, IsTypedContext}
use Rattle.ang_check_laws.proofs.Operands.{TypedOperand, made, no_nulls}
use Rattle.ang_check_laws.proofs.Uses.{IsMeantMember, property_typed, makers_typed, those_typed, host_method_typed, make_typed, default_typed}
use Rattle.ang_check_laws.proofs.TypedCalls.{use_typed, own_use_typed, own_method_typed, receiver_meant}

-- a type's number, of a family
family_by : (n d : ℕ) (b : Bool) → nat_lt n first_family ≡ b → (if b then None else Some (n - first_family)) ≡ Some d → (b ≡ false) × (n ≡ family_type d)
family_by n d true low e = cc
family_by n d false low e =
    let is : n - first_family ≡ d = same_Some (n - first_family) d e in
    let high : first_family ≤ n = search arith in
    (refl, let same : n ≡ 1024 + d = omega (arith, is, high) in same)

pub number_of : (n d : ℕ) → family_of_type n ≡ Some d → (nat_lt n first_family ≡ false) × (n ≡ family_type d)
number_of n d e = let h = family_by n d (nat_lt n first_family) refl e in (h.0, h.1)

-- in a body, where locals of these types are alive
module _ (z : Environment) (ms : Modules) (m : ℕ) (s : BodyContext) (built : IsTypedContext z ms m s) (locals : List SlotType) where
  abbrev T : ArgType → SlotType
  T ty = place_type z ms m ty

  abbrev Typed : Operand → Type 0
  Typed a = TypedOperand z ms m locals a

  -- what an object's type and its handle's hold
  object_place : (ty : ArgType) (o : ℕ × Bool) → object_of ty ≡ Some o → place_type z ms m ty ≡ object_type (ms m).view m o.0
  object_place type.Void o e = cc
  object_place type.Null o e = cc
  object_place (type.Plain q) o e = cc
  object_place (type.Enumeration k) o e = cc
  object_place (type.Object n c) o e = ap (λ (u : ℕ × Bool). object_type (ms m).view m u.0) (same_Some (n, c) o e)
  object_place (type.Handle n c) o e = ap (λ (u : ℕ × Bool). object_type (ms m).view m u.0) (same_Some (n, c) o e)

  pub family_type_is : (n d : ℕ) → family_of_type n ≡ Some d → object_type (ms m).view m n ≡ Family m d
  family_type_is n d e =
      let h = number_of n d e in
      ap (λ b. if b then Key (driver_of (entry_at (ms m).view n)) else Family m (n - first_family)) h.0
      ∙ ap (Family m) (let is : n ≡ 1024 + d = h.1 in let same : n - 1024 ≡ d = omega (arith, is) in same)

  -- ---- members

  member_made : (place : Place) (o : t.Expr) (x : TypedMember) (ty : ArgType) (how : SiteUse) (object : SlotType) → IsDeclared z ms m ty → Types z ms m locals object o
      → IsMember z ms m object x (T ty) → (how.read_only ≡ false → IsStoredMember z ms m x) → Typed (reading place (t.member_of o x) ty how)
  member_made place o x ty how object d ho hx stored = record {
    typed = record { tree = (T ty, object, ho, hx, d.itself); nulls = no_nulls z ms m locals ty (t.read (t.member_of o x) ty) d.not_null };
    itself = d.itself;
    target = λ free. (object, ho, hx, stored free);
    seat = tt;
  }

  property_use_typed : (a : Operand) (x : Token) (number : ℕ) (c : Bool) (r : Resolution) → T a.ty ≡ object_type (ms m).view m number → Typed a
      → IsMeantMember z ms m s built number r → IfOk (property_use a x number c r) Typed
  property_use_typed a x number c (resolution.Property h) is sa there =
      member_made a.place a.tree (member.Property (entity_of h)) h.ty _ (Key (there.property).driver) (there.property).declared
      (subst (λ u. Types z ms m locals u a.tree) (is ∙ there.object) sa.typed.tree) ((there.property).driver, refl, (there.property).held)
      (λ free. (there.property).writable (two_false h.read_only c free).0)
  property_use_typed a x number c (resolution.Variable v ty read_only) is sa there = tt
  property_use_typed a x number c (resolution.Call k) is sa there = tt
  property_use_typed a x number c (resolution.Type k) is sa there = tt
  property_use_typed a x number c (resolution.Enumeration k) is sa there = tt
  property_use_typed a x number c (resolution.Value v) is sa there = tt
  property_use_typed a x number c (resolution.Refused why) is sa there = tt

  field_of_typed : (a : Operand) (x : Token) (c : Bool) (d : ℕ) (f : Option FoundField) → field_named s.names.families d (text_of s.text x) ≡ f → T a.ty ≡ Family m d
      → Typed a → IfOk (field_typing s a x c f) Typed
  field_of_typed a x c d None e is sa = tt
  field_of_typed a x c d (Some f) e is sa =
      let own = built.fields d (text_of s.text x) f e in
      either_holds Typed (may_use s.names.families (family_of s.within) f.owner f.access) _ _
      (member_made a.place a.tree (member.Field f.number) f.written.ty _ (Family m d) own.0 (subst (λ u. Types z ms m locals u a.tree) is sa.typed.tree)
      (d, refl, own.1) (λ free. tt)) tt

  member_of_typed : (a : Operand) (x : Token) (number : ℕ) (c : Bool) (d : Option ℕ) → family_of_type number ≡ d → T a.ty ≡ object_type (ms m).view m number → Typed a
      → IfOk (member_of_type s a x number c d) Typed
  member_of_typed a x number c None e is sa =
      property_use_typed a x number c (resolution_of (scope_of s) (text_of s.text x) (asks.Property number)) is sa
      (property_typed z ms m s built number (text_of s.text x) e)
  member_of_typed a x number c (Some d) e is sa =
      field_of_typed a x c d (field_named s.names.families d (text_of s.text x)) refl (is ∙ family_type_is number d e) sa

  member_on_typed : (a : Operand) (x : Token) (o : Option (ℕ × Bool)) → object_of a.ty ≡ o → Typed a → IfOk (member_on s a x o) Typed
  member_on_typed a x None e sa = tt
  member_on_typed a x (Some o) e sa = member_of_typed a x o.0 o.1 (family_of_type o.0) refl (object_place a.ty o e) sa

  pub member_typed : (a : Operand) (x : Token) → TypedOperand z ms m locals a → IfOk (member_typing s a x) (TypedOperand z ms m locals)
  unfolding member_typing
  member_typed a x sa = member_on_typed a x (object_of a.ty) refl sa

  -- ---- methods

  method_of_typed : (a : Operand) (x : Token) (operands : List Operand) (o : ℕ × Bool) (d : Option ℕ) → object_of a.ty ≡ Some o → family_of_type o.0 ≡ d → Typed a
      → Every Typed operands → IfOk (method_of_type s a x operands o.0 o.1 d) Typed
  method_of_typed a x operands o None is e sa all =
      use_typed z ms m s built locals a.place x (asks.Method o.0 o.1 (types_of operands)) false (a ∷ operands)
      (resolution_of (scope_of s) (text_of s.text x) (asks.Method o.0 o.1 (types_of operands)))
      (receiver_meant z ms m s built locals a o operands _ is (host_method_typed z ms m s built (text_of s.text x) o.0 o.1 (types_of operands) e)) (sa, all)
  method_of_typed a x operands o (Some d) is e sa all =
      own_method_typed z ms m s built locals d o.0 o.1 x a operands (number_of o.0 d e).1 is sa all

  method_on_typed : (a : Operand) (x : Token) (operands : List Operand) (o : Option (ℕ × Bool)) → object_of a.ty ≡ o → Typed a
      → Every Typed operands → IfOk (method_on s a x operands o) Typed
  method_on_typed a x operands None e sa all = tt
  method_on_typed a x operands (Some o) e sa all = method_of_typed a x operands o (family_of_type o.0) e refl sa all

  pub method_call_typed : (a : Operand) (x : Token) (operands : List Operand) → TypedOperand z ms m locals a
      → Every (TypedOperand z ms m locals) operands → IfOk (method_call_typing s a x operands) (TypedOperand z ms m locals)
  unfolding method_call_typing
  method_call_typed a x operands sa all = method_on_typed a x operands (object_of a.ty) refl sa all

  -- ---- casts

  -- a family that a type's number may be is there
  abbrev pub IsFamilyThere : ℕ → Type 0
  IsFamilyThere n = IfSome (family_of_type n) (λ d. d < length s.names.families)

  family_itself : (n d : ℕ) → family_of_type n ≡ Some d → IsFamilyThere n → IsA z ms (Family m d) (object_type (ms m).view m n)
  family_itself n d e there =
      subst (λ u. IsA z ms (Family m d) u) (sym (family_type_is n d e))
      (refl, built.families d (subst (λ (o : Option ℕ). IfSome o (λ k. k < length s.names.families)) e there))

  cast_between_typed : (place : Place) (n : ℕ) (c : Bool) (a : Operand) (k : ℕ) (own other : Option ℕ) → family_of_type n ≡ own → family_of_type k ≡ other
      → IsFamilyThere n → T a.ty ≡ object_type (ms m).view m k → Typed a → IfOk (cast_between place n c a k own other) Typed
  cast_between_typed place n c a k (Some d) (Some e) is at there same sa =
      let up = family_itself n d is there in
      made z ms m locals place (type.Handle n c) (t.cast d a.tree)
      (record { tree = (e, subst (λ u. Types z ms m locals u a.tree) (same ∙ family_type_is k e at) sa.typed.tree, up); nulls = tt })
      (subst (λ u. IsA z ms u (object_type (ms m).view m n)) (sym (family_type_is n d is)) up)
  cast_between_typed place n c a k None None is at there same sa = by (n == k) refl
    where
      by : (b : Bool) → (n == k) ≡ b → IfOk (if b then Ok (operand place (type.Handle n c) (t.naming (record { 0 = n }) a.tree)) else Err (fault kind.BadConversion a.place)) Typed
      by true e =
          let one : n ≡ k = eqb-true n k e in
          let tree : Types z ms m locals (object_type (ms m).view m n) a.tree =
          subst (λ u. Types z ms m locals u a.tree) (same ∙ ap (object_type (ms m).view m) (sym one)) sa.typed.tree in
          made z ms m locals place (type.Handle n c) (t.naming (record { 0 = n }) a.tree) (record { tree = tree; nulls = tt })
          (subst (λ u. IsA z ms u u) (same ∙ ap (object_type (ms m).view m) (sym one)) sa.itself)
      by false e = tt
  cast_between_typed place n c a k (Some d) None is at there same sa = tt
  cast_between_typed place n c a k None (Some e) is at there same sa = tt

  cast_from_typed : (place : Place) (n : ℕ) (c : Bool) (a : Operand) (o : Option (ℕ × Bool)) → object_of a.ty ≡ o → IsFamilyThere n
      → Typed a → IfOk (cast_from place n c a o) Typed
  cast_from_typed place n c a None e there sa = tt
  cast_from_typed place n c a (Some o) e there sa =
      cast_between_typed place n (c || o.1) a o.0 (family_of_type n) (family_of_type o.0) refl refl there (object_place a.ty o e) sa

  -- what a cast is to is there
  abbrev pub IsCastable : Option (ℕ × Bool) → Type 0
  IsCastable o = IfSome o (λ w. IfSome (family_of_type w.0) (λ d. d < length s.names.families))

  cast_by_typed : (place : Place) (a : Operand) (o : Option (ℕ × Bool)) → IsCastable o → Typed a → IfOk (cast_by place a o) Typed
  cast_by_typed place a None there sa = tt
  cast_by_typed place a (Some w) there sa = cast_from_typed place w.0 w.1 a (object_of a.ty) refl there sa

  pub cast_typed : (word : Token) (ty : ArgType) (a : Operand) → IsCastable (object_of ty) → TypedOperand z ms m locals a
      → IfOk (cast_typing word ty a) (TypedOperand z ms m locals)
  unfolding cast_typing
  cast_typed word ty a there sa = cast_by_typed word.place a (object_of ty) there sa

  pub refusal_there : (ps : List LocalVariable) (x : Token) (P : ArgType → Type 0) (h : TypeOrError) → IfOk h P → IfOk (type_or_refusal s ps x h) P
  refusal_there ps x P (Ok ty) h = h
  refusal_there ps x P (Err why) h = either_holds P (is_unknown_type why) _ _ tt tt

  first_part : (k : ℕ) (o : Option (ℕ × Bool)) → IfSome o (λ w. IfSome (family_of_type w.0) (λ d. d < k) × (family_of_type w.0 ≡ None → IsSome (entry_at s.view w.0)))
      → IfSome o (λ w. IfSome (family_of_type w.0) (λ d. d < k))
  first_part k None h = tt
  first_part k (Some w) h = h.0

  castable : (h : TypeOrError)
      → IfOk h (λ ty. IfSome (object_of ty) (λ w. IfSome (family_of_type w.0) (λ d. d < length s.names.families) × (family_of_type w.0 ≡ None → IsSome (entry_at s.view w.0))))
      → IfOk h (λ ty. IsCastable (object_of ty))
  castable (Ok ty) h = first_part (length s.names.families) (object_of ty) h
  castable (Err why) h = tt

  pub cast_type_there : (ps : List LocalVariable) (y : TypeName) → IfOk (cast_type s ps y) (λ ty. IsCastable (object_of ty))
  unfolding cast_type
  cast_type_there ps y =
      refusal_there ps y.name (λ ty. IsCastable (object_of ty)) (type_in (space_of s) role.Cast s.text y)
      (castable (type_in (space_of s) role.Cast s.text y)
      (subst (λ k. IfOk (type_in (space_of s) role.Cast s.text y)
      (λ ty. IfSome (object_of ty) (λ w. IfSome (family_of_type w.0) (λ d. d < k) × (family_of_type w.0 ≡ None → IsSome (entry_at s.view w.0)))))
      (length-map s.names.families (λ (f : ScriptFamily). f.name)) (cast_there (space_of s) built.few s.text y)))

  -- ---- objects of declarations

  default_by_typed : (ps : List LocalVariable) (x : Token) (number : ℕ) (d : Option ℕ) → family_of_type number ≡ d
      → IfOk (made_by s ps x kind.NoDefault number (asks.Default number) [] d) Typed
  default_by_typed ps x number None e =
      use_typed z ms m s built locals x.place x (asks.Default number) (is_there s ps (text_of s.text x)) []
      (resolution_of (scope_of s) (text_of s.text x) (asks.Default number)) (default_typed z ms m s built (text_of s.text x) number e) tt
  default_by_typed ps x number (Some c) e =
      own_use_typed z ms m s built locals x.place x [] _ (those_typed z ms m s built kind.NoDefault (makers_of (scope_of s) number) [] (makers_typed z ms m s built number)) tt

  pub default_made : (ps : List LocalVariable) (x : Token) (number : ℕ) → IfOk (default_typing s ps x number) (TypedOperand z ms m locals)
  unfolding default_typing
  default_made ps x number = default_by_typed ps x number (family_of_type number) refl

  made_by_typed : (ps : List LocalVariable) (x : Token) (number : ℕ) (operands : List Operand) (d : Option ℕ) → family_of_type number ≡ d → Every Typed operands
      → IfOk (made_by s ps x kind.NoMatch number (asks.Make number (types_of operands)) operands d) Typed
  made_by_typed ps x number operands None e all =
      use_typed z ms m s built locals x.place x (asks.Make number (types_of operands)) (is_there s ps (text_of s.text x)) operands
      (resolution_of (scope_of s) (text_of s.text x) (asks.Make number (types_of operands)))
      (make_typed z ms m s built (text_of s.text x) number (types_of operands) e) all
  made_by_typed ps x number operands (Some c) e all =
      own_use_typed z ms m s built locals x.place x operands _
      (those_typed z ms m s built kind.NoMatch (makers_of (scope_of s) number) (types_of operands) (makers_typed z ms m s built number)) all

  pub object_made : (ps : List LocalVariable) (x : Token) (number : ℕ) (operands : List Operand) → Every (TypedOperand z ms m locals) operands
      → IfOk (made_typing s ps x number operands) (TypedOperand z ms m locals)
  unfolding made_typing
  object_made ps x number operands all = made_by_typed ps x number operands (family_of_type number) refl all

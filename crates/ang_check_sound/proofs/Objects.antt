-- Members, casts and what makes objects are sound, of sound operands.
use Rattle.std.specs.Prelude.{◌≡◌, ℕ, suc, ◌<◌, ◌==◌, Bool, false, ◌||◌, length, List, [], ◌∷◌, Option, Some, None, IfSome, IsSome, Ok, Err, IfOk}
use Rattle.std.proofs.Common.{refl, ap, subst}
use Rattle.std.proofs.lemmas.List.{length-map}
use Rattle.ang_kinds.specs.declared.error.ErrorKind.TheVariants as kind
use Rattle.ang_kinds.specs.declared.place.Place.{Place}
use Rattle.ang_lex.specs.declared.token.Token.{Token}
use Rattle.ang_view.specs.Registration.{entry_at}
use Rattle.ang_tree.specs.declared.type_name.TypeName.{TypeName}
use Rattle.ang_tree.specs.Stmt.{Every}
use Rattle.ang_types.specs.declared.arg_type.ArgType.{ArgType}
use Rattle.ang_types.specs.declared.arg_type.ArgType.TheVariants as type
use Rattle.ang_types.specs.declared.asks.Asks.TheVariants as asks
use Rattle.ang_typed.specs.declared.expression.TypedMember.TheVariants as member
use Rattle.ang_names_known.specs.declared.names.Family.{Family}
use Rattle.ang_names_known.specs.declared.names.FoundField.{FoundField}
use Rattle.ang_names_known.specs.Lookup.{field_named, may_use}
use Rattle.ang_names_known.specs.Spaces.{family_of_type}
use Rattle.ang_names_listed.specs.declared.role.TypePosition.TheVariants as role
use Rattle.ang_lex.specs.Text.{text_of}
use Rattle.ang_names_listed.specs.Types.{TypeOrError, is_unknown_type, type_in}
use Rattle.ang_check_operators.specs.Operands.{Operand, object_of}
use Rattle.ang_check_context.specs.declared.scope.LocalVariable.{LocalVariable}
use Rattle.ang_check_context.specs.Scope.{BodyContext, scope_of, space_of, family_of, is_there}
use Rattle.ang_check_context.specs.Casts.{type_or_refusal, cast_type, cast_between, cast_from, cast_by, cast_typing}
use Rattle.ang_check_context.specs.Members.{property_use, field_typing, member_of_type, member_on, member_typing}
use Rattle.ang_check_context.specs.Operands.{types_of}
use Rattle.ang_check_typing.specs.Calls.{method_of_type, method_on, method_call_typing, made_by, default_typing, made_typing}
use Rattle.ang_check_uses.specs.declared.uses.Resolution.{Resolution}
use Rattle.ang_check_uses.specs.declared.uses.Resolution.TheVariants as resolution
use Rattle.ang_check_uses.specs.Uses.{makers_of, resolution_of}
use Rattle.ang_source.specs.Sound.{Module}
use Rattle.ang_check_sound.specs.Built.{IsBuiltContext}
use Rattle.ang_check_sound.proofs.Judged.{either_holds}
use Rattle.ang_check_sound.proofs.Items.{two_false}
use Rattle.ang_check_sound.proofs.Operators.{SoundOperand, no_site, member_sound}
use Rattle.ang_check_sound.proofs.Types.{cast_there}
use Rattle.ang_check_sound.proofs.Uses.{Here, IsMeant, property_sound, makers_there, those_there, method_there, make_there, default_there}
use Rattle.ang_check_sound.proofs.Calls.{use_sound, own_use_sound, types_counted, own_method_sound}

-- in a body, where n locals are alive
module _ (s : BodyContext) (n : ℕ) where
  abbrev M : Module
  M = Here s

  -- ---- members

  property_use_sound : (a : Operand) (x : Token) (number : ℕ) (c : Bool) (r : Resolution) → SoundOperand M n a → IsMeant s n r
      → IfOk (property_use a x number c r) (SoundOperand M n)
  property_use_sound a x number c (resolution.Property h) sa there =
      member_sound M n a.place a.tree (member.Property _) h.ty _ sa.tree there.entity (λ writable. there.writable (two_false h.read_only c writable).0)
  property_use_sound a x number c (resolution.Variable v ty read_only) sa there = tt
  property_use_sound a x number c (resolution.Call k) sa there = tt
  property_use_sound a x number c (resolution.Type k) sa there = tt
  property_use_sound a x number c (resolution.Enumeration k) sa there = tt
  property_use_sound a x number c (resolution.Value v) sa there = tt
  property_use_sound a x number c (resolution.Refused why) sa there = tt

  field_sound : (a : Operand) (x : Token) (c : Bool) (f : Option FoundField) → SoundOperand M n a → IfOk (field_typing s a x c f) (SoundOperand M n)
  field_sound a x c None sa = tt
  field_sound a x c (Some f) sa =
      either_holds (SoundOperand M n) (may_use s.names.families (family_of s.within) f.owner f.access) _ _
      (member_sound M n a.place a.tree (member.Field f.number) f.written.ty _ sa.tree tt (λ writable. tt)) tt

  member_of_sound : (a : Operand) (x : Token) (number : ℕ) (c : Bool) (d : Option ℕ) → SoundOperand M n a → IfOk (member_of_type s a x number c d) (SoundOperand M n)
  member_of_sound a x number c None sa =
      property_use_sound a x number c (resolution_of (scope_of s) (text_of s.text x) (asks.Property number)) sa (property_sound s n number (text_of s.text x))
  member_of_sound a x number c (Some d) sa = field_sound a x c (field_named s.names.families d (text_of s.text x)) sa

  member_on_sound : (a : Operand) (x : Token) (o : Option (ℕ × Bool)) → SoundOperand M n a → IfOk (member_on s a x o) (SoundOperand M n)
  member_on_sound a x None sa = tt
  member_on_sound a x (Some o) sa = member_of_sound a x o.0 o.1 (family_of_type o.0) sa

  pub member_typed : (a : Operand) (x : Token) → SoundOperand M n a → IfOk (member_typing s a x) (SoundOperand M n)
  unfolding member_typing
  member_typed a x sa = member_on_sound a x (object_of a.ty) sa

  -- ---- methods

  method_of_sound : IsBuiltContext s → (a : Operand) (x : Token) (operands : List Operand) (number : ℕ) (c : Bool) (d : Option ℕ) → SoundOperand M n a
      → Every (SoundOperand M n) operands → IfOk (method_of_type s a x operands number c d) (SoundOperand M n)
  method_of_sound built a x operands number c None sa all =
      use_sound s n a.place x (asks.Method number c (types_of operands)) false (a ∷ operands) (type.Object number c ∷ types_of operands)
      (resolution_of (scope_of s) (text_of s.text x) (asks.Method number c (types_of operands)))
      (method_there s built (text_of s.text x) number c (types_of operands)) (ap suc (types_counted s n operands)) (sa, all)
  method_of_sound built a x operands number c (Some d) sa all = own_method_sound s n built d number c x a operands sa all

  method_on_sound : IsBuiltContext s → (a : Operand) (x : Token) (operands : List Operand) (o : Option (ℕ × Bool)) → SoundOperand M n a
      → Every (SoundOperand M n) operands → IfOk (method_on s a x operands o) (SoundOperand M n)
  method_on_sound built a x operands None sa all = tt
  method_on_sound built a x operands (Some o) sa all = method_of_sound built a x operands o.0 o.1 (family_of_type o.0) sa all

  pub method_call_typed : IsBuiltContext s → (a : Operand) (x : Token) (operands : List Operand) → SoundOperand M n a
      → Every (SoundOperand M n) operands → IfOk (method_call_typing s a x operands) (SoundOperand M n)
  unfolding method_call_typing
  method_call_typed built a x operands sa all = method_on_sound built a x operands (object_of a.ty) sa all

  -- ---- casts

  -- a class or an interface that is there, or a host type that the view has
  abbrev IsClassOrHost : ℕ → Option ℕ → Type 0
  IsClassOrHost number own = IfSome own (λ d. d < length s.names.families) × (own ≡ None → IsSome (entry_at s.view number))

  cast_between_sound : (place : Place) (number : ℕ) (c : Bool) (a : Operand) (m : ℕ) (own other : Option ℕ) → IsClassOrHost number own
      → SoundOperand M n a → IfOk (cast_between place number c a m own other) (SoundOperand M n)
  cast_between_sound place number c a m (Some d) (Some own) there sa = no_site M n _ _ _ (there.0, sa.tree)
  cast_between_sound place number c a m None None there sa = either_holds (SoundOperand M n) (number == m) _ _ (no_site M n _ _ _ (there.1 refl, sa.tree)) tt
  cast_between_sound place number c a m (Some d) None there sa = tt
  cast_between_sound place number c a m None (Some own) there sa = tt

  cast_from_sound : (place : Place) (number : ℕ) (c : Bool) (a : Operand) (o : Option (ℕ × Bool)) → IsClassOrHost number (family_of_type number)
      → SoundOperand M n a → IfOk (cast_from place number c a o) (SoundOperand M n)
  cast_from_sound place number c a None there sa = tt
  cast_from_sound place number c a (Some o) there sa = cast_between_sound place number (c || o.1) a o.0 (family_of_type number) (family_of_type o.0) there sa

  -- what a cast is to is there
  abbrev pub IsCastable : Option (ℕ × Bool) → Type 0
  IsCastable o = IfSome o (λ w. IsClassOrHost w.0 (family_of_type w.0))

  cast_by_sound : (place : Place) (a : Operand) (o : Option (ℕ × Bool)) → IsCastable o → SoundOperand M n a → IfOk (cast_by place a o) (SoundOperand M n)
  cast_by_sound place a None there sa = tt
  cast_by_sound place a (Some w) there sa = cast_from_sound place w.0 w.1 a (object_of a.ty) there sa

  pub cast_typed : (word : Token) (ty : ArgType) (a : Operand) → IsCastable (object_of ty) → SoundOperand M n a → IfOk (cast_typing word ty a) (SoundOperand M n)
  unfolding cast_typing
  cast_typed word ty a there sa = cast_by_sound word.place a (object_of ty) there sa

  pub refusal_there : (ps : List LocalVariable) (x : Token) (P : ArgType → Type 0) (m : TypeOrError) → IfOk m P → IfOk (type_or_refusal s ps x m) P
  refusal_there ps x P (Ok ty) h = h
  refusal_there ps x P (Err why) h = either_holds P (is_unknown_type why) _ _ tt tt

  pub cast_type_there : IsBuiltContext s → (ps : List LocalVariable) (y : TypeName) → IfOk (cast_type s ps y) (λ ty. IsCastable (object_of ty))
  unfolding cast_type
  cast_type_there built ps y =
      refusal_there ps y.name (λ ty. IsCastable (object_of ty)) (type_in (space_of s) role.Cast s.text y)
      (subst (λ k. IfOk (type_in (space_of s) role.Cast s.text y)
      (λ ty. IfSome (object_of ty) (λ w. IfSome (family_of_type w.0) (λ d. d < k) × (family_of_type w.0 ≡ None → IsSome (entry_at s.view w.0)))))
      (length-map s.names.families (λ (f : Family). f.name)) (cast_there (space_of s) built.few s.text y))

  -- ---- objects of declarations

  default_by_sound : IsBuiltContext s → (ps : List LocalVariable) (x : Token) (number : ℕ) (d : Option ℕ)
      → IfOk (made_by s ps x kind.NoDefault number (asks.Default number) [] d) (SoundOperand M n)
  default_by_sound built ps x number None =
      use_sound s n x.place x (asks.Default number) (is_there s ps (text_of s.text x)) [] [] (resolution_of (scope_of s) (text_of s.text x) (asks.Default number))
      (default_there s built (text_of s.text x) number) refl tt
  default_by_sound built ps x number (Some c) =
      own_use_sound s n x.place x [] [] _ (those_there s kind.NoDefault (makers_of (scope_of s) number) [] (makers_there s built number)) refl tt

  pub default_typed : IsBuiltContext s → (ps : List LocalVariable) (x : Token) (number : ℕ) → IfOk (default_typing s ps x number) (SoundOperand M n)
  unfolding default_typing
  default_typed built ps x number = default_by_sound built ps x number (family_of_type number)

  made_by_sound : IsBuiltContext s → (ps : List LocalVariable) (x : Token) (number : ℕ) (operands : List Operand) (d : Option ℕ) → Every (SoundOperand M n) operands
      → IfOk (made_by s ps x kind.NoMatch number (asks.Make number (types_of operands)) operands d) (SoundOperand M n)
  made_by_sound built ps x number operands None all =
      use_sound s n x.place x (asks.Make number (types_of operands)) (is_there s ps (text_of s.text x)) operands (types_of operands)
      (resolution_of (scope_of s) (text_of s.text x) (asks.Make number (types_of operands)))
      (make_there s built (text_of s.text x) number (types_of operands)) (types_counted s n operands) all
  made_by_sound built ps x number operands (Some c) all =
      own_use_sound s n x.place x operands (types_of operands) _
      (those_there s kind.NoMatch (makers_of (scope_of s) number) (types_of operands) (makers_there s built number)) (types_counted s n operands) all

  pub made_typed : IsBuiltContext s → (ps : List LocalVariable) (x : Token) (number : ℕ) (operands : List Operand) → Every (SoundOperand M n) operands
      → IfOk (made_typing s ps x number operands) (SoundOperand M n)
  unfolding made_typing
  made_typed built ps x number operands all = made_by_sound built ps x number operands (family_of_type number) all

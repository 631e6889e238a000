-- Locals of a body: one more is alive after each declaration, of a type that a declaration may have.
use Rattle.std.specs.Prelude.{◌≡◌, ◌≢◌, ℕ, zero, suc, ◌-◌, ◌<◌, Bool, if◌then◌else◌, length, List, [], ◌∷◌, ◌++◌, Option, Some, None, IfSome, Ok, Err, IfOk, slice_get}
use Rattle.std.proofs.Common.{refl, sym, ap, ◌∙◌, subst, arith, length-append}
use Rattle.std.proofs.lemmas.List.{length-map}
use Rattle.std.proofs.lemmas.Option.{same_Some, slice_get_within}
use Rattle.ang_lex.specs.declared.token.TokenKind.{TokenKind}
use Rattle.ang_lex.specs.declared.token.TokenKind.TheVariants as k
use Rattle.ang_tree.specs.declared.type_name.Handle.{Handle}
use Rattle.ang_tree.specs.declared.type_name.TypeName.{TypeName}
use Rattle.ang_types.specs.declared.arg_type.ArgType.{ArgType}
use Rattle.ang_types.specs.declared.arg_type.ArgType.TheVariants as type
use Rattle.ang_names_known.specs.declared.names.Family.{Family as ScriptFamily}
use Rattle.ang_names_known.specs.declared.space.Named.{Named}
use Rattle.ang_names_known.specs.declared.space.Named.TheVariants as named
use Rattle.ang_names_known.specs.Spaces.{Space, family_of_type, type_of_name}
use Rattle.ang_names_listed.specs.declared.role.TypePosition.TheVariants as role
use Rattle.ang_names_listed.specs.Types.{TypeOrError, ◌and_then◌, without_handle, object_type, written_type, no_void, type_in}
use Rattle.ang_check_context.specs.declared.scope.LocalVariable.{LocalVariable}
use Rattle.ang_check_context.specs.declared.scope.Within.{Within}
use Rattle.ang_check_context.specs.Scope.{BodyContext, space_of}
use Rattle.ang_check_stmt.specs.Typing.{local_type}
use Rattle.ang_meaning.specs.Environment.{Environment}
use Rattle.ang_source_typed.specs.Types as types
use Rattle.ang_source_typed.specs.Types.{SlotType, Key, Family, Modules, driver_of, first_family, IsA}
use Rattle.ang_view.specs.Registration.{entry_at}
use Rattle.ang_check_sound.proofs.Types.{TypeHas, type_in_has, IsNameThere, name_there}
use Rattle.ang_check_laws.specs.Contexts.{place_type, IsDeclared, IsTypedContext, IsLocal, HasThisOf, AreLocals}
use Rattle.ang_check_laws.proofs.Hosts.{low}
use Rattle.ang_check_laws.proofs.Objects.{family_type_is, refusal_there}

-- ---- one local more

-- what holds of each of some locals and of one more
pushed : (P : ℕ → LocalVariable → Type 0) (ps : List LocalVariable) (p : LocalVariable) → ((i : ℕ) (q : LocalVariable) → slice_get ps i ≡ Some q → P i q)
    → P (length ps) p → (i : ℕ) (q : LocalVariable) → slice_get (ps ++ (p ∷ [])) i ≡ Some q → P i q
pushed P [] p each last zero q e = subst (P 0) (same_Some p q e) last
pushed P [] p each last (suc i) q e = cc
pushed P (x ∷ ps) p each last zero q e = each 0 q e
pushed P (x ∷ ps) p each last (suc i) q e = pushed (λ j r. P (suc j) r) ps p (λ j r at. each (suc j) r at) last i q e

-- a place is one further from the front
pub further : (locals : List SlotType) (x : SlotType) (i : ℕ) (o : Option SlotType) → i < length locals → slice_get locals (length locals - suc i) ≡ o
    → slice_get (x ∷ locals) (length (x ∷ locals) - suc i) ≡ o
further locals x i o less e =
    let same : suc (length locals) - suc i ≡ suc (length locals - suc i) = omega (arith, less) in
    ap (λ k. slice_get (x ∷ locals) k) same ∙ e

module _ (z : Environment) (ms : Modules) (m : ℕ) where
  this_further : (locals : List SlotType) (x : SlotType) (w : Option Within) → IfSome w (HasThisOf z ms m locals) → IfSome w (HasThisOf z ms m (x ∷ locals))
  this_further locals x None h = tt
  this_further locals x (Some w) h =
      let within = slice_get_within locals (length locals - 1) (Family m h.class) h.there in
      let some : 0 < length locals = omega (arith, within) in
      record { class = h.class; there = further locals x 0 (Some (Family m h.class)) some h.there; under = h.under; itself = h.itself }

  pub one_more : (within : Option Within) (ps : List LocalVariable) (locals : List SlotType) (p : LocalVariable) → IsDeclared z ms m p.ty → AreLocals z ms m within ps locals
      → AreLocals z ms m within (ps ++ (p ∷ [])) (place_type z ms m p.ty ∷ locals)
  one_more within ps locals p d are =
      let x = place_type z ms m p.ty in
      let count : length locals ≡ length ps = are.count in
      let joined = length-append ps (p ∷ []) in
      let end : suc (length locals) - suc (length ps) ≡ 0 = omega (arith, count) in
      let last : IsLocal z ms m (x ∷ locals) (length ps) p =
      record { declared = d; held = x; there = ap (λ k. slice_get (x ∷ locals) k) end; is = d.itself; exact = λ free. refl } in record {
        count = let both : suc (length locals) ≡ length (ps ++ (p ∷ [])) = omega (arith, count, joined) in both;
        each = pushed (IsLocal z ms m (x ∷ locals)) ps p
            (λ i q e. let h = are.each i q e in
            let within_ps = slice_get_within ps i q e in
            let less : i < length locals = omega (arith, count, within_ps) in
            record { declared = h.declared; held = h.held; there = further locals x i (Some h.held) less h.there; is = h.is; exact = h.exact }) last;
        this = this_further locals x within are.this;
      }

-- ---- types of declarations

-- what is written is not the type of `null`
abbrev pub IsNoNull : ArgType → Type 0
IsNoNull ty = ty ≢ type.Null

without_null : (ty : ArgType) (h : Option Handle) → IsNoNull ty → IfOk (without_handle ty h) IsNoNull
without_null ty None ne = ne
without_null ty (Some h) ne = tt

object_no_null : (d : Named) (constant : Bool) (h : Option Handle) → IfOk (object_type d constant h) IsNoNull
object_no_null named.Unknown constant h = tt
object_no_null (named.Object n) constant None = λ e. cc
object_no_null (named.Object n) constant (Some h) = λ e. cc
object_no_null (named.Enumeration n) constant h = without_null (type.Enumeration n) h (λ e. cc)

pub written_no_null : (E : Space) (text : List ℕ) (y : TypeName) (kind : TokenKind) → IfOk (written_type E text y kind) IsNoNull
written_no_null E text y (k.Primitive p) = without_null (type.Plain p) y.handle (λ e. cc)
written_no_null E text y k.Void = without_null type.Void y.handle (λ e. cc)
written_no_null E text y _ = object_no_null _ _ y.handle

no_void_no_null : (ty : ArgType) → IsNoNull ty → IfOk (no_void ty) IsNoNull
no_void_no_null type.Void ne = tt
no_void_no_null type.Null ne = ne
no_void_no_null (type.Plain p) ne = ne
no_void_no_null (type.Enumeration n) ne = ne
no_void_no_null (type.Object n c) ne = ne
no_void_no_null (type.Handle n c) ne = ne

joined_no_null : (h : TypeOrError) → IfOk h IsNoNull → IfOk (h and_then no_void) IsNoNull
joined_no_null (Ok ty) ne = no_void_no_null ty ne
joined_no_null (Err why) ne = tt

variable_no_null : (E : Space) (text : List ℕ) (y : TypeName) → IfOk (type_in E role.Variable text y) IsNoNull
unfolding type_in
variable_no_null E text y = joined_no_null (written_type E text y y.name.kind) (written_no_null E text y y.name.kind)

module _ (z : Environment) (ms : Modules) (m : ℕ) (s : BodyContext) (built : IsTypedContext z ms m s) where
  abbrev Itself : ℕ → Type 0
  Itself n = IsA z ms (types.object_type (ms m).view m n) (types.object_type (ms m).view m n)

  abbrev IsNamed : Named → Type 0
  IsNamed named.Unknown = Unit {0}
  IsNamed (named.Object n) = Itself n
  IsNamed (named.Enumeration n) = Unit {0}

  itself_by : (n : ℕ) (d : Option ℕ) → family_of_type n ≡ d → IfSome d (λ c. c < length s.names.families) → Itself n
  itself_by n None e there =
      subst (λ b. IsA z ms (if b then Key (driver_of (entry_at (ms m).view n)) else Family m (n - first_family))
      (if b then Key (driver_of (entry_at (ms m).view n)) else Family m (n - first_family))) (sym (low n e)) refl
  itself_by n (Some c) e there =
      subst (λ u. IsA z ms u u) (sym (family_type_is z ms m s built [] n c e)) (refl, built.families c there)

  named_itself : (d : Named) → IsNameThere (space_of s) built.few d → IsNamed d
  named_itself named.Unknown h = tt
  named_itself (named.Object n) h =
      itself_by n (family_of_type n) refl
      (subst (λ k. IfSome (family_of_type n) (λ c. c < k)) (length-map s.names.families (λ (f : ScriptFamily). f.name)) h.0)
  named_itself (named.Enumeration n) h = tt

  declared_by : (ty : ArgType) → TypeHas IsNamed (Unit {0}) ty → IsNoNull ty → IsDeclared z ms m ty
  declared_by type.Void h ne = record { not_null = ne; itself = tt }
  declared_by type.Null h ne = absurd (ne refl)
  declared_by (type.Plain p) h ne = record { not_null = ne; itself = tt }
  declared_by (type.Enumeration n) h ne = record { not_null = ne; itself = tt }
  declared_by (type.Object n c) h ne = record { not_null = ne; itself = h }
  declared_by (type.Handle n c) h ne = record { not_null = ne; itself = h }

  both : (h : TypeOrError) → IfOk h (TypeHas IsNamed (Unit {0})) → IfOk h IsNoNull → IfOk h (IsDeclared z ms m)
  both (Ok ty) h ne = declared_by ty h ne
  both (Err why) h ne = tt

  -- the type of locals
  pub local_type_declared : (ps : List LocalVariable) (y : TypeName) → IfOk (local_type s ps y) (IsDeclared z ms m)
  unfolding local_type
  local_type_declared ps y =
      refusal_there z ms m s built [] ps y.name (IsDeclared z ms m) (type_in (space_of s) role.Variable s.text y)
      (both (type_in (space_of s) role.Variable s.text y)
      (type_in_has (space_of s) IsNamed (λ name. named_itself (type_of_name (space_of s) name) (name_there (space_of s) built.few name)) role.Variable s.text y)
      (variable_no_null (space_of s) s.text y))

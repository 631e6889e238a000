-- Arguments for parameters, and what is called with them.
use Rattle.std.specs.Prelude.{◌≡◌, ◌≢◌, ℕ, suc, ◌<◌, ◌-◌, nat_lt, Bool, true, false, not, ◌&&◌, if◌then◌else◌, List, [], ◌∷◌, ◌++◌, length, reverse, Option, Some, None, IfSome, IsSome, Ok, Err, IfOk}
use Rattle.std.proofs.Common.{refl, sym, ap, ◌∙◌, subst, arith}
use Rattle.std.proofs.lemmas.Option.{same_Some}
use Rattle.std.proofs.lemmas.List.{reverse-append, append_assoc, append-nil}
use Rattle.ang_kinds.specs.declared.error.ErrorKind.TheVariants as kind
use Rattle.ang_kinds.specs.declared.place.Place.{Place}
use Rattle.ang_kinds.specs.declared.types.Pass.{Pass}
use Rattle.ang_kinds.specs.declared.types.Pass.TheVariants as pass
use Rattle.ang_view.specs.Registration.{RegistrationList, entry_at}
use Rattle.ang_types.specs.declared.arg_type.ArgType.{ArgType}
use Rattle.ang_types.specs.declared.arg_type.ArgType.TheVariants as type
use Rattle.ang_types.specs.Overloads.{Params, rank_at}
use Rattle.ang_types.specs.Ranks.{Ancestors, argument_rank, class_rank, const_rank, greatest, rank_of}
use Rattle.ang_typed.specs.declared.expression.TypedVariable.{TypedVariable}
use Rattle.ang_typed.specs.declared.expression.TypedVariable.TheVariants as variable
use Rattle.ang_typed.specs.Typed as t
use Rattle.ang_tree.specs.Stmt.{Every}
use Rattle.ang_check_operators.specs.declared.operand.SiteUse.{SiteUse}
use Rattle.ang_check_operators.specs.Operands.{Operand, fit, object_of, site_in}
use Rattle.ang_check_operators.specs.Refusals.{Typing, fault}
use Rattle.ang_check_context.specs.Operands.{types_of}
use Rattle.ang_check_uses.specs.declared.uses.Called.{Called}
use Rattle.ang_check_uses.specs.declared.uses.Called.TheVariants as calls
use Rattle.ang_check_typing.specs.Calls.{is_out_variable, is_out_type, is_out, variable_in, out_or, out_of, value_for, out_for, argument_by, argument, arguments_for, call_of}
use Rattle.ang_meaning.specs.declared.class.ValueKind.TheVariants as holds_a
use Rattle.ang_meaning.specs.declared.routine.Passing.TheVariants.{Out}
use Rattle.ang_meaning.specs.Environment.{Environment}
use Rattle.ang_source.specs.Meaning.{kind_of}
use Rattle.ang_source_typed.specs.Types.{SlotType, Key, Family, Modules, driver_of, first_family, slot_type, IsA}
use Rattle.ang_source_typed.specs.TypedProgram.{AreClasses, Parameter, kind_in, IsVariable, IsTarget, Types, TypesAll, TypesArgument}
use Rattle.ang_check_sound.proofs.Items.{first_true, second_true, not_true}
use Rattle.ang_check_sound.proofs.Judged.{holds, any}
use Rattle.ang_check_laws.specs.Contexts.{place_type, AreAbove, TakesOne, Takes, Gives}
use Rattle.ang_check_laws.proofs.GoesUp.{types_go_up}
use Rattle.ang_check_laws.proofs.Operands.{HasRank, own_type_is, IsTyped, IsStoredSite, IsTargeted, TypedOperand, fit_typed, is_ranked}

-- ---- ranks of arguments

-- what comes out by `&out` converts to its variable's type
abbrev pub AreRanked : Ancestors → Params → List ArgType → Type 0
AreRanked ancestors [] [] = Unit {0}
AreRanked ancestors [] (a ∷ args) = ⊥
AreRanked ancestors (p ∷ ps) [] = ⊥
AreRanked ancestors (p ∷ ps) (a ∷ args) = (p.1 ≡ pass.RefOut → HasRank (rank_of ancestors p.0 a)) × AreRanked ancestors ps args

has_rank : (r : Option ℕ) → IsSome r → HasRank r
has_rank None h = cc
has_rank (Some n) h = tt

pub all_ranked : (ancestors : Ancestors) (ps : Params) (args : List ArgType) → length ps ≡ length args
    → ((k : ℕ) → k < length args → IsSome (rank_at ancestors ps args k)) → AreRanked ancestors ps args
all_ranked ancestors [] [] e h = tt
all_ranked ancestors [] (a ∷ args) e h = cc
all_ranked ancestors (p ∷ ps) [] e h = cc
all_ranked ancestors (p ∷ ps) (a ∷ args) e h =
    let first : HasRank (argument_rank ancestors p.0 p.1 a) = has_rank (argument_rank ancestors p.0 p.1 a) (h 0 (omega arith)) in (
      λ out. subst (λ way. HasRank (argument_rank ancestors p.0 way a)) out first,
      all_ranked ancestors ps args (let same : length ps ≡ length args = cc in same)
          (λ k less. h (suc k) (let more : suc k < suc (length args) = omega (arith, less) in more)),
    )

-- to a handle converts what converts to an object
any_form : (f g : ℕ) (a b : Option ℕ) → HasRank (greatest f a b) → HasRank (greatest g a b)
any_form f g None b h = absurd h
any_form f g (Some x) None h = absurd h
any_form f g (Some x) (Some y) h = tt

handle_ranked : (ancestors : Ancestors) (from : ArgType) (n : ℕ) (c : Bool) → HasRank (rank_of ancestors from (type.Object n c)) → HasRank (rank_of ancestors from (type.Handle n c))
handle_ranked ancestors type.Void n c h = absurd h
handle_ranked ancestors type.Null n c h = absurd h
handle_ranked ancestors (type.Plain q) n c h = absurd h
handle_ranked ancestors (type.Enumeration k) n c h = absurd h
handle_ranked ancestors (type.Object k d) n c h = any_form 0 1 (const_rank d c) (class_rank ancestors k n) h
handle_ranked ancestors (type.Handle k d) n c h = any_form 1 0 (const_rank d c) (class_rank ancestors k n) h

first_ranked : (ancestors : Ancestors) (ps : Params) (n : ℕ) (c : Bool) (rest : List ArgType) → AreRanked ancestors ps (type.Object n c ∷ rest)
    → AreRanked ancestors ps (type.Handle n c ∷ rest)
first_ranked ancestors [] n c rest h = absurd h
first_ranked ancestors (p ∷ ps) n c rest h = (λ out. handle_ranked ancestors p.0 n c (h.0 out), h.1)

-- a receiver's type, of which its object is asked
pub receiver_ranked : (ancestors : Ancestors) (ps : Params) (ty : ArgType) (o : ℕ × Bool) (rest : List ArgType) → object_of ty ≡ Some o
    → AreRanked ancestors ps (type.Object o.0 o.1 ∷ rest) → AreRanked ancestors ps (ty ∷ rest)
receiver_ranked ancestors ps type.Void o rest e h = cc
receiver_ranked ancestors ps type.Null o rest e h = cc
receiver_ranked ancestors ps (type.Plain q) o rest e h = cc
receiver_ranked ancestors ps (type.Enumeration k) o rest e h = cc
receiver_ranked ancestors ps (type.Object k d) o rest e h =
    subst (λ (u : ℕ × Bool). AreRanked ancestors ps (type.Object u.0 u.1 ∷ rest)) (sym (same_Some (k, d) o e)) h
receiver_ranked ancestors ps (type.Handle k d) o rest e h =
    first_ranked ancestors ps k d rest (subst (λ (u : ℕ × Bool). AreRanked ancestors ps (type.Object u.0 u.1 ∷ rest)) (sym (same_Some (k, d) o e)) h)

-- a place of a declared type holds a value of the type's kind
object_kind : (b : Bool) (d m c : ℕ) → kind_in (if b then Key d else Family m c) ≡ holds_a.Handle
object_kind true d m c = refl
object_kind false d m c = refl

place_kind : (V : RegistrationList) (m : ℕ) (ty : ArgType) → kind_in (slot_type V m ty) ≡ kind_of ty
place_kind V m type.Void = refl
place_kind V m type.Null = refl
place_kind V m (type.Plain q) = refl
place_kind V m (type.Enumeration n) = refl
place_kind V m (type.Object n c) = object_kind (nat_lt n first_family) (driver_of (entry_at V n)) m (n - first_family)
place_kind V m (type.Handle n c) = object_kind (nat_lt n first_family) (driver_of (entry_at V n)) m (n - first_family)

-- what follows of a value
pub follows : {A : Type 0} (P Q : A → Type 0) (x : Typing A) → IfOk x P → ((a : A) → P a → Q a) → IfOk x Q
follows P Q (Ok a) h g = g a h
follows P Q (Err r) h g = tt

-- In module m, where locals of these types are alive:
module _ (z : Environment) (ms : Modules) (m : ℕ) (locals : List SlotType) (classes : AreClasses z ms m) (ancestors : Ancestors) (above : AreAbove z ms m ancestors) where
  abbrev T : ArgType → SlotType
  T ty = place_type z ms m ty

  -- a variable of this type that an `&out` value moves into
  abbrev HasRoom : SlotType → TypedVariable → Type 0
  HasRoom s x = IsVariable z ms m locals x s × IsTarget z ms m x

  target_variable : (s : SlotType) (x : TypedVariable) → IsStoredSite z ms m locals s (t.named x) → IfSome (if is_out_variable x then Some x else None) (HasRoom s)
  target_variable s (variable.Local i) h = (h.0, tt)
  target_variable s (variable.Global g) h = (h.0, tt)
  target_variable s (variable.Property p) h = tt
  target_variable s (variable.Field i) h = (h.0, tt)

  target_at : (s : SlotType) (x : Option t.Site) → IfSome x (IsStoredSite z ms m locals s) → IfSome (variable_in x) (HasRoom s)
  target_at s None h = tt
  target_at s (Some (t.named x)) h = target_variable s x h
  target_at s (Some (t.member_of o a)) h = tt

  target_there : (s : SlotType) (place : Place) (x : Option TypedVariable) → IfSome x (HasRoom s) → IfOk (out_or place x) (HasRoom s)
  target_there s place None h = tt
  target_there s place (Some x) h = h

  out_there : (a : Operand) (x : Option SiteUse) (b : Bool) → is_out a x ≡ b → IsTargeted z ms m locals a.ty x a.tree
      → IfOk (if b then out_or a.place (variable_in (site_in a.tree)) else Err (fault kind.BadOut a.place)) (HasRoom (T a.ty))
  out_there a x false e s = tt
  out_there a None true e s = cc
  out_there a (Some x) true e s =
      let free = not_true x.read_only (first_true (not x.read_only) (is_out_type a.ty) (second_true x.bare (not x.read_only && is_out_type a.ty) e)) in
      target_there (T a.ty) a.place (variable_in (site_in a.tree)) (target_at (T a.ty) (site_in a.tree) (s free))

  out_typed : (a : Operand) → TypedOperand z ms m locals a → IfOk (out_of a) (HasRoom (T a.ty))
  unfolding out_of
  out_typed a s = out_there a a.target (is_out a a.target) refl s.target

  value_for_typed : (ty : ArgType) (q : Parameter) (a : Operand) → q.passing ≢ Out → IsA z ms (T ty) q.type → TypedOperand z ms m locals a
      → IfOk (value_for ancestors ty a) (TypesArgument z ms m locals q)
  value_for_typed ty q a ne up s =
      holds (IsTyped z ms m locals ty) (TypesArgument z ms m locals q) (fit ancestors ty a) _ (fit_typed z ms m locals classes ancestors above ty a s)
      (λ x sx. (ne, types_go_up z ms m classes locals (T ty) q.type x (own_type_is z ms m locals ty) up sx.tree))

  out_for_typed : (ty : ArgType) (q : Parameter) (a : Operand) → (q.passing ≡ Out) × (q.type ≡ T ty) × (ty ≢ type.Null) → HasRank (rank_of ancestors ty a.ty)
      → TypedOperand z ms m locals a → IfOk (out_for ty a) (TypesArgument z ms m locals q)
  out_for_typed ty q a is r s =
      holds (HasRoom (T a.ty)) (TypesArgument z ms m locals q) (out_of a) _ (out_typed a s)
      (λ x sx. (
        is.0,
        ap kind_in is.1 ∙ place_kind (ms m).view m ty,
        (T a.ty, sx.0, sx.1, subst (λ u. IsA z ms u (T a.ty)) (sym is.1) (is_ranked z ms m locals classes ancestors above ty a.ty is.2 r s.itself)),
      ))

  argument_by_typed : (ty : ArgType) (way : Pass) (q : Parameter) (a : Operand) → TakesOne z ms m (ty, way) q → (way ≡ pass.RefOut → HasRank (rank_of ancestors ty a.ty))
      → TypedOperand z ms m locals a → IfOk (argument_by ancestors way ty a) (TypesArgument z ms m locals q)
  argument_by_typed ty pass.Value q a h r s = value_for_typed ty q a (λ out. let e : pass.Value ≡ pass.RefOut = h.only out in cc) h.value s
  argument_by_typed ty pass.RefIn q a h r s = value_for_typed ty q a (λ out. let e : pass.RefIn ≡ pass.RefOut = h.only out in cc) h.value s
  argument_by_typed ty pass.RefOut q a h r s = out_for_typed ty q a (h.out refl) (r refl) s
  argument_by_typed ty pass.RefInOut q a h r s = value_for_typed ty q a (λ out. let e : pass.RefInOut ≡ pass.RefOut = h.only out in cc) h.value s

  argument_typed : (p : ArgType × Pass) (q : Parameter) (a : Operand) → TakesOne z ms m p q → (p.1 ≡ pass.RefOut → HasRank (rank_of ancestors p.0 a.ty))
      → TypedOperand z ms m locals a → IfOk (argument ancestors p a) (TypesArgument z ms m locals q)
  unfolding argument
  argument_typed p q a h r s = argument_by_typed p.0 p.1 q a h r s

  -- an argument for each of these parameters
  abbrev pub AreFor : List Parameter → List t.Arg → Type 0
  AreFor [] [] = Unit {0}
  AreFor [] (x ∷ xs) = ⊥
  AreFor (q ∷ qs) [] = ⊥
  AreFor (q ∷ qs) (x ∷ xs) = TypesArgument z ms m locals q x × AreFor qs xs

  pub arguments_typed : (ps : Params) (qs : List Parameter) (operands : List Operand) → Takes z ms m ps qs → AreRanked ancestors ps (types_of operands)
      → Every (TypedOperand z ms m locals) operands → IfOk (arguments_for ancestors ps operands) (AreFor qs)
  arguments_typed [] [] [] h r all = tt
  arguments_typed [] [] (a ∷ rest) h r all = tt
  arguments_typed [] (q ∷ qs) operands h r all = absurd h
  arguments_typed (p ∷ ps) [] operands h r all = absurd h
  arguments_typed (p ∷ ps) (q ∷ qs) [] h r all = absurd r
  arguments_typed (p ∷ ps) (q ∷ qs) (a ∷ rest) h r all =
      holds (TypesArgument z ms m locals q) (AreFor (q ∷ qs)) (argument ancestors p a) _ (argument_typed p q a h.0 r.0 all.0)
      (λ x sx. holds (AreFor qs) (AreFor (q ∷ qs)) (arguments_for ancestors ps rest) _ (arguments_typed ps qs rest h.1 r.1 all.1) (λ xs sxs. (sx, sxs)))

  turned : (q : Parameter) (qs before : List Parameter) → reverse qs ++ (q ∷ before) ≡ reverse (q ∷ qs) ++ before
  turned q qs before =
      sym (append_assoc (reverse qs) (q ∷ []) before) ∙ ap (λ xs. xs ++ before) (sym (reverse-append (q ∷ []) qs))

  -- after those that are there
  pub all_typed : (before qs : List Parameter) (xs : List t.Arg) → AreFor qs xs → TypesAll z ms m locals before (reverse qs ++ before) (t.args xs)
  all_typed before [] [] h = refl
  all_typed before [] (x ∷ xs) h = absurd h
  all_typed before (q ∷ qs) [] h = absurd h
  all_typed before (q ∷ qs) (x ∷ xs) h =
      (q, h.0, subst (λ all. TypesAll z ms m locals (q ∷ before) all (t.args xs)) (turned q qs before) (all_typed (q ∷ before) qs xs h.1))

  none_before : (qs all : List Parameter) (xs : List t.Arg) → all ≡ reverse qs → AreFor qs xs → TypesAll z ms m locals [] all (t.args xs)
  none_before qs all xs is h =
      subst (λ a. TypesAll z ms m locals [] a (t.args xs)) (append-nil (reverse qs) ∙ sym is) (all_typed [] qs xs h)

  one_before : (q : Parameter) (qs all : List Parameter) (xs : List t.Arg) → all ≡ reverse qs ++ (q ∷ []) → AreFor qs xs → TypesAll z ms m locals (q ∷ []) all (t.args xs)
  one_before q qs all xs is h = subst (λ a. TypesAll z ms m locals (q ∷ []) a (t.args xs)) (sym is) (all_typed (q ∷ []) qs xs h)

  -- ---- what is called

  pub call_typed : (c : Called) (result : ArgType) (ps : Params) (operands : List Operand) (s : SlotType) → Gives z ms m c ps s → AreRanked ancestors ps (types_of operands)
      → Every (TypedOperand z ms m locals) operands → IfOk (arguments_for ancestors ps operands) (λ xs. Types z ms m locals s (call_of c result xs))
  call_typed (calls.Script f) result ps operands s h r all =
      follows (AreFor h.1) (λ xs. Types z ms m locals s (call_of (calls.Script f) result xs)) (arguments_for ancestors ps operands)
      (arguments_typed ps h.1 operands h.4 r all)
      (λ xs sxs. (h.0, h.2, none_before h.1 (h.0).params xs h.3 sxs, h.5))
  call_typed (calls.Host x) result ps operands s h r all =
      follows (AreFor h.1) (λ xs. Types z ms m locals s (call_of (calls.Host x) result xs)) (arguments_for ancestors ps operands)
      (arguments_typed ps h.1 operands h.5 r all)
      (λ xs sxs. (h.0, h.2, h.3, none_before h.1 _ xs h.4 sxs, h.6))
  call_typed (calls.Makes c None) result ps operands s h r all =
      follows (λ xs. Unit {0}) (λ xs. Types z ms m locals s (call_of (calls.Makes c None) result xs)) (arguments_for ancestors ps operands)
      (any (arguments_for ancestors ps operands)) (λ xs sxs. (h.0, h.1))
  call_typed (calls.Makes c (Some k)) result ps operands s h r all =
      follows (AreFor h.1.1) (λ xs. Types z ms m locals s (call_of (calls.Makes c (Some k)) result xs)) (arguments_for ancestors ps operands)
      (arguments_typed ps h.1.1 operands h.1.6 r all)
      (λ xs sxs. (h.0, (h.1.0, h.1.2, h.1.3, h.1.4, one_before (record { passing = h.1.2; type = Family m c }) h.1.1 (h.1.0).params xs h.1.5 sxs, h.1.7)))

-- Typed operands, and what they are fit for.
use Rattle.std.specs.Prelude.{◌≡◌, ℕ, zero, suc, ◌-◌, ◌==◌, nat_lt, Bool, true, false, if◌then◌else◌, List, Option, Some, None, IfSome, Ok, Err, IfOk}
use Rattle.std.proofs.Common.{refl, sym, subst}
use Rattle.std.proofs.lemmas.Bool.{eqb-true}
use Rattle.ang_kinds.specs.declared.error.ErrorKind.TheVariants as why
use Rattle.ang_kinds.specs.declared.place.Place.{Place}
use Rattle.ang_kinds.specs.declared.operator.Operator.{Operator}
use Rattle.ang_kinds.specs.declared.primitive.Primitive.{Primitive}
use Rattle.ang_kinds.specs.declared.primitive.Primitive.TheVariants as p
use Rattle.ang_types.specs.declared.arg_type.ArgType.{ArgType}
use Rattle.ang_types.specs.declared.arg_type.ArgType.TheVariants as type
use Rattle.ang_types.specs.Integers.{is_integer}
use Rattle.ang_types.specs.Ranks.{Ancestors, is_above, class_rank, const_rank, greatest, rank_of}
use Rattle.ang_typed.specs.declared.expression.StepKind.{StepKind}
use Rattle.ang_typed.specs.Typed as t
use Rattle.ang_check_operators.specs.declared.operand.HandleSite.{HandleSite}
use Rattle.ang_check_operators.specs.declared.operand.SiteUse.{SiteUse}
use Rattle.ang_check_operators.specs.Operands.{Operand, operand, conversion, fit_by, fit, integer_in, integer, number_in, number, truth_in, truth, identity_in, identity, site_in, site_or, target_by, target, seat_by, seat}
use Rattle.ang_check_operators.specs.Refusals.{Typing, refused}
use Rattle.ang_meaning.specs.Environment.{Environment}
use Rattle.ang_source_typed.specs.Types.{SlotType, Number, Key, Family, Modules, driver_of, object_type, first_family, IsA}
use Rattle.ang_view.specs.Registration.{RegistrationList, entry_at}
use Rattle.ang_source_typed.specs.TypedProgram.{AreClasses, IsHandle, IsVariable, IsMember, IsStored, IsStoredMember, Types}
use Rattle.ang_check_sound.proofs.Judged.{either_holds}
use Rattle.ang_check_laws.specs.Contexts.{place_type, IsDeclared, AreAbove}
use Rattle.ang_check_laws.specs.Typed.{IsOwn}
use Rattle.ang_check_laws.proofs.GoesUp.{types_go_up}

-- ---- ranks

abbrev pub HasRank : Option ℕ → Type 0
HasRank None = ⊥
HasRank (Some r) = Unit {0}

-- ---- types of objects

handle_by : (b : Bool) (d m c : ℕ) → IsHandle (if b then Key d else Family m c)
handle_by true d m c = tt
handle_by false d m c = tt

own_by : (b : Bool) (d m c : ℕ) → IsOwn m (if b then Key d else Family m c)
own_by true d m c = tt
own_by false d m c = refl

pub is_handle : (V : RegistrationList) (m n : ℕ) → IsHandle (object_type V m n)
is_handle V m n = handle_by (nat_lt n first_family) (driver_of (entry_at V n)) m (n - first_family)

pub is_own : (V : RegistrationList) (m n : ℕ) → IsOwn m (object_type V m n)
is_own V m n = own_by (nat_lt n first_family) (driver_of (entry_at V n)) m (n - first_family)

-- In module m, where locals of these types are alive:
module _ (z : Environment) (ms : Modules) (m : ℕ) (locals : List SlotType) where
  abbrev T : ArgType → SlotType
  T ty = place_type z ms m ty

  abbrev Ty : SlotType → t.Expr → Type 0
  Ty s e = Types z ms m locals s e

  pub own_type_is : (ty : ArgType) → IsOwn m (place_type z ms m ty)
  own_type_is type.Void = tt
  own_type_is type.Null = tt
  own_type_is (type.Plain q) = tt
  own_type_is (type.Enumeration n) = tt
  own_type_is (type.Object n c) = is_own (ms m).view m n
  own_type_is (type.Handle n c) = is_own (ms m).view m n

  -- what is `null` stands for each handle
  abbrev pub Nulls : ArgType → t.Expr → Type 0
  Nulls type.Void e = Unit {0}
  Nulls type.Null e = (want : SlotType) → IsHandle want → Types z ms m locals want e
  Nulls (type.Plain q) e = Unit {0}
  Nulls (type.Enumeration n) e = Unit {0}
  Nulls (type.Object n c) e = Unit {0}
  Nulls (type.Handle n c) e = Unit {0}

  -- A tree of a type, and of each handle's where that is the type of `null`.
  pub record IsTyped (ty : ArgType) (e : t.Expr) : Type 0 where
    pub tree : Types z ms m locals (place_type z ms m ty) e
    pub nulls : Nulls ty e

  -- a site that holds this type, and is stored into
  abbrev pub IsStoredSite : SlotType → t.Site → Type 0
  IsStoredSite ty (t.named x) = IsVariable z ms m locals x ty × IsStored z ms m x
  IsStoredSite ty (t.member_of o a) = (object : SlotType) × Types z ms m locals object o × IsMember z ms m object a ty × IsStoredMember z ms m a

  -- The site that a tree reads may be stored into where it is not `const`.
  abbrev pub IsTargeted : ArgType → Option SiteUse → t.Expr → Type 0
  IsTargeted ty None e = Unit {0}
  IsTargeted ty (Some x) e = x.read_only ≡ false → IfSome (site_in e) (IsStoredSite (place_type z ms m ty))

  -- The same of the site after `@`, which is no null.
  abbrev pub IsSeated : ArgType → Option HandleSite → t.Expr → Type 0
  IsSeated ty None e = Unit {0}
  IsSeated ty (Some s) e = (ty ≡ type.Null → ⊥) × IsTargeted ty (Some s.target) e

  -- what was typed
  pub record TypedOperand (a : Operand) : Type 0 where
    pub typed : IsTyped a.ty a.tree
    pub itself : IsA z ms (place_type z ms m a.ty) (place_type z ms m a.ty)
    pub target : IsTargeted a.ty a.target a.tree
    pub seat : IsSeated a.ty a.seat a.tree

  pub no_nulls : (ty : ArgType) (e : t.Expr) → (ty ≡ type.Null → ⊥) → Nulls ty e
  no_nulls type.Void e h = tt
  no_nulls type.Null e h = absurd (h refl)
  no_nulls (type.Plain q) e h = tt
  no_nulls (type.Enumeration n) e h = tt
  no_nulls (type.Object n c) e h = tt
  no_nulls (type.Handle n c) e h = tt

  -- what is no site
  pub made : (place : Place) (ty : ArgType) (e : t.Expr) → IsTyped ty e → IsA z ms (place_type z ms m ty) (place_type z ms m ty) → TypedOperand (operand place ty e)
  made place ty e h i = record { typed = h; itself = i; target = tt; seat = tt }

  -- a value of a declared type
  pub value_made : (place : Place) (ty : ArgType) (e : t.Expr) → IsDeclared z ms m ty → Types z ms m locals (place_type z ms m ty) e → TypedOperand (operand place ty e)
  value_made place ty e d h = made place ty e (record { tree = h; nulls = no_nulls ty e d.not_null }) d.itself

  -- ---- what a site holds

  pub assigned_typed : (x : t.Site) (ty : ArgType) (s : SlotType) (e : t.Expr) → IsStoredSite s x → IsA z ms s s → Types z ms m locals s e → Types z ms m locals s (t.assign x ty e)
  assigned_typed (t.named x) ty s e h i k = (s, h.0, h.1, k, i)
  assigned_typed (t.member_of o a) ty s e h i k = (s, h.0, k, h.1, h.2, h.3, i)

  pub changed_typed : (x : t.Site) (q r : Primitive) (op : Operator) (e : t.Expr) → IsStoredSite Number x → Types z ms m locals Number e
      → Types z ms m locals Number (t.compound x q op r e)
  changed_typed (t.named x) q r op e h k = (refl, h.0, h.1, k)
  changed_typed (t.member_of o a) q r op e h k = (refl, k, h)

  pub stepped_typed : (x : t.Site) (q : Primitive) (kind : StepKind) → IsStoredSite Number x → Types z ms m locals Number (t.step x q kind)
  stepped_typed (t.named x) q kind h = (refl, h.0, h.1)
  stepped_typed (t.member_of o a) q kind h = (refl, h)

  -- ---- conversions

  module _ (classes : AreClasses z ms m) (ancestors : Ancestors) (above : AreAbove z ms m ancestors) where
    class_up : (n k : ℕ) (b c : Bool) (e : t.Expr) → (n == k) ≡ b → is_above ancestors n k ≡ c → HasRank (if b then Some 0 else (if c then Some 4 else None))
        → Ty (object_type (ms m).view m n) e → Ty (object_type (ms m).view m k) e
    class_up n k true c e same above_it r h = subst (λ i. Ty (object_type (ms m).view m i) e) (eqb-true n k same) h
    class_up n k false true e same above_it r h =
        types_go_up z ms m classes locals (object_type (ms m).view m n) (object_type (ms m).view m k) e (is_own (ms m).view m n) (above n k above_it) h
    class_up n k false false e same above_it r h = absurd r

    parts : (form : ℕ) (a b : Option ℕ) → HasRank (greatest form a b) → HasRank b
    parts form None b r = absurd r
    parts form (Some x) None r = r
    parts form (Some x) (Some y) r = tt

    object_up : (form n k : ℕ) (c : Option ℕ) (e : t.Expr) → HasRank (greatest form c (class_rank ancestors n k)) → Ty (object_type (ms m).view m n) e
        → Ty (object_type (ms m).view m k) e
    object_up form n k c e r h = class_up n k (n == k) (is_above ancestors n k) e refl refl (parts form c (class_rank ancestors n k) r) h

    -- what converts by itself is of the other type too
    ranked : (from to : ArgType) (e : t.Expr) → HasRank (rank_of ancestors from to) → IsTyped from e → Ty (T to) e
    ranked type.Void type.Void e r h = h.tree
    ranked type.Void type.Null e r h = absurd r
    ranked type.Void (type.Plain q) e r h = absurd r
    ranked type.Void (type.Enumeration k) e r h = absurd r
    ranked type.Void (type.Object k d) e r h = absurd r
    ranked type.Void (type.Handle k d) e r h = absurd r
    ranked type.Null type.Void e r h = absurd r
    ranked type.Null type.Null e r h = h.tree
    ranked type.Null (type.Plain q) e r h = absurd r
    ranked type.Null (type.Enumeration k) e r h = absurd r
    ranked type.Null (type.Object k d) e r h = absurd r
    ranked type.Null (type.Handle k d) e r h = h.nulls (object_type (ms m).view m k) (is_handle (ms m).view m k)
    ranked (type.Plain q) type.Void e r h = absurd r
    ranked (type.Plain q) type.Null e r h = absurd r
    ranked (type.Plain q) (type.Plain u) e r h = h.tree
    ranked (type.Plain q) (type.Enumeration k) e r h = absurd r
    ranked (type.Plain q) (type.Object k d) e r h = absurd r
    ranked (type.Plain q) (type.Handle k d) e r h = absurd r
    ranked (type.Enumeration n) type.Void e r h = absurd r
    ranked (type.Enumeration n) type.Null e r h = absurd r
    ranked (type.Enumeration n) (type.Plain u) e r h = h.tree
    ranked (type.Enumeration n) (type.Enumeration k) e r h = h.tree
    ranked (type.Enumeration n) (type.Object k d) e r h = absurd r
    ranked (type.Enumeration n) (type.Handle k d) e r h = absurd r
    ranked (type.Object n c) type.Void e r h = absurd r
    ranked (type.Object n c) type.Null e r h = absurd r
    ranked (type.Object n c) (type.Plain u) e r h = absurd r
    ranked (type.Object n c) (type.Enumeration k) e r h = absurd r
    ranked (type.Object n c) (type.Object k d) e r h = object_up 0 n k (const_rank c d) e r h.tree
    ranked (type.Object n c) (type.Handle k d) e r h = object_up 1 n k (const_rank c d) e r h.tree
    ranked (type.Handle n c) type.Void e r h = absurd r
    ranked (type.Handle n c) type.Null e r h = absurd r
    ranked (type.Handle n c) (type.Plain u) e r h = absurd r
    ranked (type.Handle n c) (type.Enumeration k) e r h = absurd r
    ranked (type.Handle n c) (type.Object k d) e r h = object_up 1 n k (const_rank c d) e r h.tree
    ranked (type.Handle n c) (type.Handle k d) e r h = object_up 0 n k (const_rank c d) e r h.tree

    only_null : (from to : ArgType) (e : t.Expr) → HasRank (rank_of ancestors from to) → IsTyped from e → Nulls to e
    only_null from type.Void e r h = tt
    only_null type.Void type.Null e r h = absurd r
    only_null type.Null type.Null e r h = h.nulls
    only_null (type.Plain q) type.Null e r h = absurd r
    only_null (type.Enumeration n) type.Null e r h = absurd r
    only_null (type.Object n c) type.Null e r h = absurd r
    only_null (type.Handle n c) type.Null e r h = absurd r
    only_null from (type.Plain q) e r h = tt
    only_null from (type.Enumeration n) e r h = tt
    only_null from (type.Object n c) e r h = tt
    only_null from (type.Handle n c) e r h = tt

    class_is : (n k : ℕ) (b c : Bool) → (n == k) ≡ b → is_above ancestors n k ≡ c → HasRank (if b then Some 0 else (if c then Some 4 else None))
        → IsA z ms (object_type (ms m).view m k) (object_type (ms m).view m k) → IsA z ms (object_type (ms m).view m n) (object_type (ms m).view m k)
    class_is n k true c same above_it r h = subst (λ i. IsA z ms (object_type (ms m).view m i) (object_type (ms m).view m k)) (sym (eqb-true n k same)) h
    class_is n k false true same above_it r h = above n k above_it
    class_is n k false false same above_it r h = absurd r

    object_is : (form n k : ℕ) (c : Option ℕ) → HasRank (greatest form c (class_rank ancestors n k))
        → IsA z ms (object_type (ms m).view m k) (object_type (ms m).view m k) → IsA z ms (object_type (ms m).view m n) (object_type (ms m).view m k)
    object_is form n k c r h = class_is n k (n == k) (is_above ancestors n k) refl refl (parts form c (class_rank ancestors n k) r) h

    -- what converts by itself is one of the other type
    pub is_ranked : (from to : ArgType) → (from ≡ type.Null → ⊥) → HasRank (rank_of ancestors from to) → IsA z ms (place_type z ms m to) (place_type z ms m to)
        → IsA z ms (place_type z ms m from) (place_type z ms m to)
    is_ranked type.Void type.Void ne r h = tt
    is_ranked type.Void type.Null ne r h = absurd r
    is_ranked type.Void (type.Plain u) ne r h = absurd r
    is_ranked type.Void (type.Enumeration k) ne r h = absurd r
    is_ranked type.Void (type.Object k d) ne r h = absurd r
    is_ranked type.Void (type.Handle k d) ne r h = absurd r
    is_ranked type.Null to ne r h = absurd (ne refl)
    is_ranked (type.Plain q) type.Void ne r h = absurd r
    is_ranked (type.Plain q) type.Null ne r h = absurd r
    is_ranked (type.Plain q) (type.Plain u) ne r h = tt
    is_ranked (type.Plain q) (type.Enumeration k) ne r h = absurd r
    is_ranked (type.Plain q) (type.Object k d) ne r h = absurd r
    is_ranked (type.Plain q) (type.Handle k d) ne r h = absurd r
    is_ranked (type.Enumeration n) type.Void ne r h = absurd r
    is_ranked (type.Enumeration n) type.Null ne r h = absurd r
    is_ranked (type.Enumeration n) (type.Plain u) ne r h = tt
    is_ranked (type.Enumeration n) (type.Enumeration k) ne r h = tt
    is_ranked (type.Enumeration n) (type.Object k d) ne r h = absurd r
    is_ranked (type.Enumeration n) (type.Handle k d) ne r h = absurd r
    is_ranked (type.Object n c) type.Void ne r h = absurd r
    is_ranked (type.Object n c) type.Null ne r h = absurd r
    is_ranked (type.Object n c) (type.Plain u) ne r h = absurd r
    is_ranked (type.Object n c) (type.Enumeration k) ne r h = absurd r
    is_ranked (type.Object n c) (type.Object k d) ne r h = object_is 0 n k (const_rank c d) r h
    is_ranked (type.Object n c) (type.Handle k d) ne r h = object_is 1 n k (const_rank c d) r h
    is_ranked (type.Handle n c) type.Void ne r h = absurd r
    is_ranked (type.Handle n c) type.Null ne r h = absurd r
    is_ranked (type.Handle n c) (type.Plain u) ne r h = absurd r
    is_ranked (type.Handle n c) (type.Enumeration k) ne r h = absurd r
    is_ranked (type.Handle n c) (type.Object k d) ne r h = object_is 1 n k (const_rank c d) r h
    is_ranked (type.Handle n c) (type.Handle k d) ne r h = object_is 0 n k (const_rank c d) r h

    -- a conversion between numbers that is written out gives one
    written_out : (from to : ArgType) (e : t.Expr) → IsTyped from e → IsTyped to e → IsTyped to (conversion from to e)
    written_out type.Void to e h k = k
    written_out type.Null to e h k = k
    written_out (type.Plain q) type.Void e h k = k
    written_out (type.Plain q) type.Null e h k = k
    written_out (type.Plain q) (type.Plain u) e h k = record { tree = (refl, h.tree); nulls = tt }
    written_out (type.Plain q) (type.Enumeration n) e h k = k
    written_out (type.Plain q) (type.Object n c) e h k = k
    written_out (type.Plain q) (type.Handle n c) e h k = k
    written_out (type.Enumeration n) type.Void e h k = k
    written_out (type.Enumeration n) type.Null e h k = k
    written_out (type.Enumeration n) (type.Plain u) e h k = record { tree = (refl, h.tree); nulls = tt }
    written_out (type.Enumeration n) (type.Enumeration j) e h k = k
    written_out (type.Enumeration n) (type.Object j c) e h k = k
    written_out (type.Enumeration n) (type.Handle j c) e h k = k
    written_out (type.Object n c) to e h k = k
    written_out (type.Handle n c) to e h k = k

    fit_by_typed : (rank : Option ℕ) (ty : ArgType) (a : Operand) → rank_of ancestors a.ty ty ≡ rank → TypedOperand a → IfOk (fit_by rank ty a) (IsTyped ty)
    fit_by_typed None ty a is s = tt
    fit_by_typed (Some zero) ty a is s =
        let r : HasRank (rank_of ancestors a.ty ty) = subst HasRank (sym is) tt in
        record { tree = ranked a.ty ty a.tree r s.typed; nulls = only_null a.ty ty a.tree r s.typed }
    fit_by_typed (Some (suc n)) ty a is s =
        let r : HasRank (rank_of ancestors a.ty ty) = subst HasRank (sym is) tt in
        written_out a.ty ty a.tree s.typed (record { tree = ranked a.ty ty a.tree r s.typed; nulls = only_null a.ty ty a.tree r s.typed })

    pub fit_typed : (ty : ArgType) (a : Operand) → TypedOperand a → IfOk (fit ancestors ty a) (IsTyped ty)
    unfolding fit
    fit_typed ty a s = fit_by_typed (rank_of ancestors a.ty ty) ty a refl s

  -- ---- what an operator wants

  integer_in_typed : (ty : ArgType) (a : Operand) → IfOk (integer_in a ty) (λ q. place_type z ms m ty ≡ Number)
  integer_in_typed type.Void a = tt
  integer_in_typed type.Null a = tt
  integer_in_typed (type.Plain q) a = either_holds (λ u. place_type z ms m (type.Plain q) ≡ Number) (is_integer q) _ _ refl tt
  integer_in_typed (type.Enumeration n) a = refl
  integer_in_typed (type.Object n c) a = tt
  integer_in_typed (type.Handle n c) a = tt

  -- an operand of which an integer comes is a number
  pub integer_typed : (a : Operand) → IfOk (integer a) (λ q. place_type z ms m a.ty ≡ Number)
  unfolding integer
  integer_typed a = integer_in_typed a.ty a

  number_in_typed : (ty : ArgType) (a : Operand) → IfOk (number_in a ty) (λ q. place_type z ms m ty ≡ Number)
  number_in_typed type.Void a = tt
  number_in_typed type.Null a = tt
  number_in_typed (type.Plain q) a = either_holds (λ u. place_type z ms m (type.Plain q) ≡ Number) (is_integer q) _ _ refl tt
  number_in_typed (type.Enumeration n) a = tt
  number_in_typed (type.Object n c) a = tt
  number_in_typed (type.Handle n c) a = tt

  pub number_typed : (a : Operand) → IfOk (number a) (λ q. place_type z ms m a.ty ≡ Number)
  unfolding number
  number_typed a = number_in_typed a.ty a

  truth_in_typed : (ty : ArgType) (a : Operand) → IsTyped ty a.tree → IfOk (truth_in a ty) (Types z ms m locals Number)
  truth_in_typed (type.Plain p.Bool) a s = s.tree
  truth_in_typed _ a s = tt

  pub truth_typed : (a : Operand) → TypedOperand a → IfOk (truth a) (Types z ms m locals Number)
  unfolding truth
  truth_typed a s = truth_in_typed a.ty a s.typed

  -- of some handle's type
  abbrev pub IsHandled : t.Expr → Type 0
  IsHandled e = (s : SlotType) × IsHandle s × Types z ms m locals s e

  identity_in_typed : (ty : ArgType) (a : Operand) → IsTyped ty a.tree → IfOk (identity_in a ty) IsHandled
  identity_in_typed type.Void a s = tt
  identity_in_typed type.Null a s = (Key 0, tt, s.tree)
  identity_in_typed (type.Plain q) a s = tt
  identity_in_typed (type.Enumeration n) a s = tt
  identity_in_typed (type.Object n c) a s = (object_type (ms m).view m n, is_handle (ms m).view m n, s.tree)
  identity_in_typed (type.Handle n c) a s = (object_type (ms m).view m n, is_handle (ms m).view m n, s.tree)

  pub identity_typed : (a : Operand) → TypedOperand a → IfOk (identity a) IsHandled
  unfolding identity
  identity_typed a s = identity_in_typed a.ty a s.typed

  -- ---- targets

  site_typed : (ty : SlotType) (place : Place) (x : Option t.Site) → IfSome x (IsStoredSite ty) → IfOk (site_or place x) (IsStoredSite ty)
  site_typed ty place None s = tt
  site_typed ty place (Some x) s = s

  stored_there : (ty : ArgType) (place : Place) (x : SiteUse) (b : Bool) (e : t.Expr) → x.read_only ≡ b → IsTargeted ty (Some x) e
      → IfOk (if b then Err (refused why.Const x.name) else site_or place (site_in e)) (IsStoredSite (T ty))
  stored_there ty place x true e is s = tt
  stored_there ty place x false e is s = site_typed (T ty) place (site_in e) (s is)

  target_by_typed : (ty : ArgType) (place : Place) (x : Option SiteUse) (e : t.Expr) → IsTargeted ty x e → IfOk (target_by place x e) (IsStoredSite (T ty))
  target_by_typed ty place None e s = tt
  target_by_typed ty place (Some x) e s = stored_there ty place x x.read_only e refl s

  pub target_typed : (a : Operand) → TypedOperand a → IfOk (target a) (IsStoredSite (place_type z ms m a.ty))
  unfolding target
  target_typed a s = target_by_typed a.ty a.place a.target a.tree s.target

  -- a site of a handle
  abbrev pub IsSeat : ArgType → t.Site → Type 0
  IsSeat ty x = (ty ≡ type.Null → ⊥) × IsStoredSite (place_type z ms m ty) x

  with_seat : (ty : ArgType) (x : Typing t.Site) → (ty ≡ type.Null → ⊥) → IfOk x (IsStoredSite (T ty)) → IfOk x (IsSeat ty)
  with_seat ty (Ok x) ne h = (ne, h)
  with_seat ty (Err r) ne h = tt

  seat_by_typed : (ty : ArgType) (place : Place) (x : Option HandleSite) (e : t.Expr) → IsSeated ty x e → IfOk (seat_by place x e) (IsSeat ty)
  seat_by_typed ty place None e s = tt
  seat_by_typed ty place (Some x) e s =
      either_holds (IsSeat ty) x.is_object _ _ tt (with_seat ty _ s.0 (target_by_typed ty place (Some x.target) e s.1))

  pub seat_typed : (a : Operand) → TypedOperand a → IfOk (seat a) (IsSeat a.ty)
  unfolding seat
  seat_typed a s = seat_by_typed a.ty a.place a.seat a.tree s.seat

-- A typed expression gives a value of its type, leaves all places typed, and is the same whatever a misfit does.
use Rattle.std.proofs.Common.{◌≡◌, ℕ, suc, List, [], ◌∷◌, ◌++◌, length, Some, None, refl, sym, ap, ◌∙◌, subst, arith}
use Rattle.std.specs.Prelude.{true, false, ◌≢◌}
use Rattle.ang_typed.specs.declared.expression.TypedCallee.{TypedCallee}
use Rattle.ang_typed.specs.declared.expression.TypedCallee.TheVariants as callee
use Rattle.ang_typed.specs.declared.expression.TypedVariable.{TypedVariable}
use Rattle.ang_typed.specs.declared.expression.TypedVariable.TheVariants as variable
use Rattle.ang_typed.specs.Typed as t
use Rattle.ang_meaning.specs.declared.class.ValueKind.{ValueKind}
use Rattle.ang_meaning.specs.declared.class.ValueKind.TheVariants as holds_a
use Rattle.ang_meaning.specs.declared.slot.Slot.{Slot}
use Rattle.ang_meaning.specs.declared.slot.Slot.TheVariants.{Bits, Script}
use Rattle.ang_meaning.specs.declared.operation.Operation.TheVariants.{Binary, Compare, Convert, Negate, Complement, Not, Same, Ask, Make, Cast}
use Rattle.ang_meaning.specs.declared.routine.Callee.TheVariants.{Own}
use Rattle.ang_meaning.specs.declared.routine.Passing.{Passing}
use Rattle.ang_meaning.specs.declared.routine.Passing.TheVariants.{In, Out, Object}
use Rattle.ang_meaning.specs.declared.routine.Target.{Target}
use Rattle.ang_meaning.specs.Numbers.{truth}
use Rattle.ang_kinds.specs.Primitives.{is_signed}
use Rattle.ang_meaning.specs.World.{World, ScriptObjects}
use Rattle.ang_meaning.specs.Environment.{Environment, host_in, use_at, default_of, may_call}
use Rattle.ang_meaning.specs.Perform.{perform}
use Rattle.ang_meaning.specs.Bodies.{Callees}
use Rattle.ang_meaning.specs.Results.{Evaluated, Gave, Failed, Gathered, Ready, Broke, applied, then_rest, called}
use Rattle.ang_meaning.specs.Counting.{Thing, names}
use Rattle.ang_meaning.proofs.Counting.{many_append, bits_name_none, null_names_none}
use Rattle.ang_meaning.proofs.Counted.{counted_as}
use Rattle.ang_source.specs.Meaning.{kind_of, default_in, callee_of, compound_of, step_of, spot_of, targets_behind, targets_of, brought_to, evaluate, evaluate_all, evaluate_argument}
use Rattle.ang_source_typed.specs.Types.{SlotType, Number, Key, Family, Modules, Owners, IsA, HasType}
use Rattle.ang_source_typed.specs.TypedProgram.{Parameter, Signature, types_of, AreClasses, IsCallee, IsHandle, kind_in, host_params, result_by, IsVariable, IsTarget, Types, TypesAll, TypesArgument}
use Rattle.ang_source_typed.specs.Runs.{HasTree, out_by, out_types}
use Rattle.ang_source_typed.specs.Guarded.{Guard, misfits}
use Rattle.ang_source_typed.specs.Guarded as guarded
use Rattle.ang_source_typed.proofs.Values.{typed_length, both_typed, split_typed}
use Rattle.ang_source_typed.proofs.Operations.{DoesWell, converts, negates, complements, denies, operates, compares, same, casts}
use Rattle.ang_source_typed.proofs.HostCalls.{asks}
use Rattle.ang_source_typed.proofs.Ends.{Good, At, IsGoodEnd, IsGoodAll, Go, applied_good, chosen_good, subsumed, push_number, give_all_good}
use Rattle.ang_source_typed.proofs.Making.{make_good}
use Rattle.ang_source_typed.proofs.Targets.{IsGoodCall, IsSpot, IsTargets, replied_good}
use Rattle.ang_source_typed.proofs.Variables.{Both, placed, one_op, two_op, read_good, stored_good, changed_good, member_read_good, member_stored_good, member_changed_good}

-- ---- values of nothing

null_of : (z : Environment) (ms : Modules) (own : Owners) (os : ScriptObjects) (ty : SlotType) → IsHandle ty → HasType z ms own os ty (Script None)
null_of z ms own os Number h = absurd h
null_of z ms own os (Key d) h = tt
null_of z ms own os (Family m c) h = tt

begins : (z : Environment) (ms : Modules) (own : Owners) (os : ScriptObjects) (ty : SlotType) → HasType z ms own os ty (default_of (kind_in ty))
begins z ms own os Number = tt
begins z ms own os (Key d) = tt
begins z ms own os (Family m c) = tt

pub default_names : (k : ValueKind) (x : Thing) → names x (default_of k) ≡ 0
default_names holds_a.Number x = bits_name_none 0 x
default_names holds_a.Handle x = null_names_none x

other_passing : (q : Passing) (ty : SlotType) (types : List SlotType) → q ≢ Out → out_by q ty types ≡ types
other_passing In ty types h = refl
other_passing Out ty types h = absurd (h refl)
other_passing Object ty types h = refl

module _ (z : Environment) (ms : Modules) (T m : ℕ) (classes : (k : ℕ) → AreClasses z ms k) (tree : HasTree z m (ms m).program) (y : Guard) (by calls : Callees) where
  -- what lies on top of typed places
  pub nothing_pushed : (ty : SlotType) (v : Slot) (locals below : List SlotType) (ls under : List Slot) (w : World) (g : Good z ms locals below ls under w) → HasType z ms g.own w.objects ty v
      → ((x : Thing) → names x v ≡ 0) → Good z ms locals (ty ∷ below) ls (v ∷ under) w
  nothing_pushed ty v locals below ls under w g h none = record {
    own = g.own;
    locals_typed = g.locals_typed;
    under_typed = (h, g.under_typed);
    world = g.world;
    counted = counted_as (ls ++ under) (ls ++ (v ∷ under)) w (λ x. omega (arith, none x, many_append x ls under, many_append x ls (v ∷ under))) g.counted;
  }

  -- What calls from the module do with arguments of their types, above whatever is typed; and they are the same in the guarded meaning.
  pub record CallsAreGood : Type 0 where
    pub each : (f : TypedCallee) (s : Signature) → IsCallee z ms m f s → (vs under : List Slot) (below : List SlotType) (n : ℕ) (w : World) → At z ms T n (types_of s.params) below vs under w
        → IsGoodCall z ms T s below under (calls (callee_of f) vs n w) × (by (callee_of f) vs n w ≡ calls (callee_of f) vs n w)

  module _ (are_good : CallsAreGood) where
    -- ---- calls

    -- a call's arguments are its locals, and those of its caller lie below
    framed : (types locals below : List SlotType) (vs ls under : List Slot) (w : World) → length types ≡ length vs → Good z ms locals (types ++ below) ls (vs ++ under) w
        → Good z ms types (locals ++ below) vs (ls ++ under) w
    framed types locals below vs ls under w n g =
        let q = split_typed z ms g.own w.objects types below vs under n g.under_typed in
        record {
          own = g.own;
          locals_typed = q.0;
          under_typed = both_typed z ms g.own w.objects locals below ls under g.locals_typed q.1;
          world = g.world;
          counted = counted_as (ls ++ (vs ++ under)) (vs ++ (ls ++ under)) w
              (λ x. omega (arith, many_append x ls (vs ++ under), many_append x vs under, many_append x vs (ls ++ under), many_append x ls under)) g.counted;
        }

    called_good : (f : TypedCallee) (s : Signature) (locals below : List SlotType) (under : List Slot) (xs : List Target) (g : Gathered) → IsCallee z ms m f s
        → IsTargets z ms T m classes locals xs (out_types s.params) → IsGoodAll z ms T (types_of s.params) locals below under g
        → Both z ms T m classes y s.result locals below under (called m (calls (callee_of f)) xs g) (guarded.called (misfits y) z m (by (callee_of f)) xs g)
    called_good f s locals below under xs (Ready vs ls n w) is targets h =
        let r = are_good.each f s is vs (ls ++ under) (locals ++ below) n w (h.1.0, framed (types_of s.params) locals below vs ls under w h.0 h.1.1) in
        let q = replied_good z ms T m classes y s locals below xs ls under (calls (callee_of f) vs n w) targets (typed_length z ms (h.1.1).own w.objects locals ls (h.1.1).locals_typed) r.0 in
        (q.0, ap (λ x. guarded.replied (misfits y) z m xs x ls) r.1 ∙ q.1)
    called_good f s locals below under xs (Broke x ls w) is targets h = (h, refl)

    -- ---- targets

    spot_good : (x : TypedVariable) (s : SlotType) (locals : List SlotType) (ls : List Slot) → length locals ≡ length ls → IsVariable z ms m locals x s → IsTarget z ms m x
        → IsSpot z ms T m classes locals (spot_of ls x) s
    spot_good (variable.Local i) s locals ls n h k = placed locals i (length ls) s n h
    spot_good (variable.Global g) s locals ls n h k = h
    spot_good (variable.Property p) s locals ls n h k = absurd k
    spot_good (variable.Field i) s locals ls n h k = (h.0, placed locals 0 (length ls) (Family m h.0) n h.1, h.2)

    targets_good : (args : t.Args) (before all : List Parameter) (found : List Target) (locals : List SlotType) (ls : List Slot) → length locals ≡ length ls → TypesAll z ms m locals before all args
        → IsTargets z ms T m classes locals found (out_types before) → IsTargets z ms T m classes locals (targets_behind ls args found) (out_types all)
    targets_good t.none before all found locals ls n h k = subst (λ x. IsTargets z ms T m classes locals found (out_types x)) (sym h) k
    targets_good (t.more (t.by_value a e) args) before all found locals ls n h k =
        targets_good args (h.0 ∷ before) all found locals ls n h.2
        (subst (λ x. IsTargets z ms T m classes locals found x) (sym (other_passing (h.0).passing (h.0).type (out_types before) h.1.0)) k)
    targets_good (t.more (t.out x from to) args) before all found locals ls n h k =
        let p = h.0 in
        let o = h.1 in
        let s = o.2.0 in
        let target : Target = record { spot = spot_of ls x; to = brought_to to } in
        let is : IsTargets z ms T m classes locals (target ∷ found) (p.type ∷ out_types before) = ((s, spot_good x s locals ls n o.2.1 o.2.2, o.2.3), k) in
        targets_good args (p ∷ before) all (target ∷ found) locals ls n h.2
        (subst (λ q. IsTargets z ms T m classes locals (target ∷ found) (out_by q p.type (out_types before))) (sym o.0) is)

    -- ---- arguments

    next_good : (all : List SlotType) (a : SlotType) (before locals below : List SlotType) (vs under : List Slot) (e : Evaluated) (go go' : Slot → List Slot → ℕ → World → Gathered) → length before ≡ length vs
        → IsGoodEnd z ms T a locals (before ++ below) (vs ++ under) e
        → ((v : Slot) (ls : List Slot) (n : ℕ) (w : World) → At z ms T n locals (a ∷ (before ++ below)) ls (v ∷ (vs ++ under)) w → IsGoodAll z ms T all locals below under (go v ls n w) × (go' v ls n w ≡ go v ls n w))
        → IsGoodAll z ms T all locals below under (then_rest vs e go) × (then_rest vs e go' ≡ then_rest vs e go)
    next_good all a before locals below vs under (Gave v ls n w) go go' many h k = k v ls n w h
    next_good all a before locals below vs under (Failed f ls w) go go' many h k = (give_all_good z ms before locals below vs ls under w many h, refl)

    -- ---- expressions

    as_number : (ty : SlotType) (locals below : List SlotType) (under : List Slot) (e other : Evaluated) → ty ≡ Number → Both z ms T m classes y Number locals below under e other
        → Both z ms T m classes y ty locals below under e other
    as_number ty locals below under e other h b = subst (λ x. Both z ms T m classes y x locals below under e other) (sym h) b

    above : (s ty : SlotType) (locals below : List SlotType) (under : List Slot) (e other : Evaluated) → IsA z ms s ty → Both z ms T m classes y s locals below under e other
        → Both z ms T m classes y ty locals below under e other
    above s ty locals below under e other i b = (subsumed z ms T classes s ty locals below under e i b.0, b.1)

    locals_many : (locals below : List SlotType) (ls under : List Slot) (w : World) → Good z ms locals below ls under w → length locals ≡ length ls
    locals_many locals below ls under w g = typed_length z ms g.own w.objects locals ls g.locals_typed

    mutual
      pub typed_good : (e : t.Expr) (ty : SlotType) (locals below : List SlotType) (ls under : List Slot) (n : ℕ) (w : World) → Types z ms m locals ty e → At z ms T n locals below ls under w
          → Both z ms T m classes y ty locals below under (evaluate z m calls e ls n w) (guarded.evaluate (misfits y) z m by e ls n w)
      typed_good (t.number p k) ty locals below ls under n w h g =
          as_number ty locals below under (Gave (Bits k) ls n w) (Gave (Bits k) ls n w) h ((g.0, push_number z ms k locals below ls under w g.1), refl)
      typed_good (t.truth b) ty locals below ls under n w h g =
          as_number ty locals below under (Gave (Bits (truth b)) ls n w) (Gave (Bits (truth b)) ls n w) h ((g.0, push_number z ms (truth b) locals below ls under w g.1), refl)
      typed_good (t.read (t.named x) a) ty locals below ls under n w h g =
          above h.0 ty locals below under (evaluate z m calls (t.read (t.named x) a) ls n w) (guarded.evaluate (misfits y) z m by (t.read (t.named x) a) ls n w) h.2
          (read_good z ms T m classes y x h.0 locals below ls under n w h.1 g)
      typed_good (t.read (t.member_of o x) a) ty locals below ls under n w h g =
          above h.0 ty locals below under (evaluate z m calls (t.read (t.member_of o x) a) ls n w) (guarded.evaluate (misfits y) z m by (t.read (t.member_of o x) a) ls n w) h.4
          (member_read_good z ms T m classes y x h.1 h.0 locals below under (evaluate z m calls o ls n w) (guarded.evaluate (misfits y) z m by o ls n w) h.3 (typed_good o h.1 locals below ls under n w h.2 g))
      typed_good t.null ty locals below ls under n w h g = ((g.0, nothing_pushed ty (Script None) locals below ls under w g.1 (null_of z ms (g.1).own w.objects ty h) null_names_none), refl)
      typed_good (t.convert from to e) ty locals below ls under n w h g =
          as_number ty locals below under _ _ h.0
          (one_op z ms T m classes y (Convert to) Number Number locals below under (evaluate z m calls e ls n w) (guarded.evaluate (misfits y) z m by e ls n w) (converts z ms m to)
          (typed_good e Number locals below ls under n w h.1 g))
      typed_good (t.negate p e) ty locals below ls under n w h g =
          as_number ty locals below under _ _ h.0
          (one_op z ms T m classes y (Negate p) Number Number locals below under (evaluate z m calls e ls n w) (guarded.evaluate (misfits y) z m by e ls n w) (negates z ms m p)
          (typed_good e Number locals below ls under n w h.1 g))
      typed_good (t.complement p e) ty locals below ls under n w h g =
          as_number ty locals below under _ _ h.0
          (one_op z ms T m classes y (Complement p) Number Number locals below under (evaluate z m calls e ls n w) (guarded.evaluate (misfits y) z m by e ls n w) (complements z ms m p)
          (typed_good e Number locals below ls under n w h.1 g))
      typed_good (t.not e) ty locals below ls under n w h g =
          as_number ty locals below under _ _ h.0
          (one_op z ms T m classes y Not Number Number locals below under (evaluate z m calls e ls n w) (guarded.evaluate (misfits y) z m by e ls n w) (denies z ms m)
          (typed_good e Number locals below ls under n w h.1 g))
      typed_good (t.operate op p l r) ty locals below ls under n w h g =
          as_number ty locals below under _ _ h.0
          (two_op z ms T m classes y (Binary op p) Number Number Number locals below under (evaluate z m calls l ls n w) (guarded.evaluate (misfits y) z m by l ls n w) (evaluate z m calls r) (guarded.evaluate (misfits y) z m by r)
          (operates z ms m op p) (typed_good l Number locals below ls under n w h.1 g) (λ v ls' n' w' g'. typed_good r Number locals (Number ∷ below) ls' (v ∷ under) n' w' h.2 g'))
      typed_good (t.compare op p l r) ty locals below ls under n w h g =
          as_number ty locals below under _ _ h.0
          (two_op z ms T m classes y (Compare op (is_signed p)) Number Number Number locals below under (evaluate z m calls l ls n w) (guarded.evaluate (misfits y) z m by l ls n w) (evaluate z m calls r) (guarded.evaluate (misfits y) z m by r)
          (compares z ms m op (is_signed p)) (typed_good l Number locals below ls under n w h.1 g) (λ v ls' n' w' g'. typed_good r Number locals (Number ∷ below) ls' (v ∷ under) n' w' h.2 g'))
      typed_good (t.and l r) ty locals below ls under n w h g =
          let first = typed_good l Number locals below ls under n w h.1 g in
          let no : Go = λ ls' n' w'. Gave (Bits (truth false)) ls' n' w' in
          let q = chosen_good z ms T Number locals below under y (evaluate z m calls l ls n w) (evaluate z m calls r) no (guarded.evaluate (misfits y) z m by r) no first.0
          (λ ls' n' w' g'. typed_good r Number locals below ls' under n' w' h.2 g') (λ ls' n' w' g'. ((g'.0, push_number z ms 0 locals below ls' under w' g'.1), refl)) in
          as_number ty locals below under _ _ h.0 (q.0, ap (λ x. guarded.chosen (misfits y) z x (guarded.evaluate (misfits y) z m by r) no) first.1 ∙ q.1)
      typed_good (t.or l r) ty locals below ls under n w h g =
          let first = typed_good l Number locals below ls under n w h.1 g in
          let yes_it_is : Go = λ ls' n' w'. Gave (Bits (truth true)) ls' n' w' in
          let q = chosen_good z ms T Number locals below under y (evaluate z m calls l ls n w) yes_it_is (evaluate z m calls r) yes_it_is (guarded.evaluate (misfits y) z m by r) first.0
          (λ ls' n' w' g'. ((g'.0, push_number z ms 1 locals below ls' under w' g'.1), refl)) (λ ls' n' w' g'. typed_good r Number locals below ls' under n' w' h.2 g') in
          as_number ty locals below under _ _ h.0 (q.0, ap (λ x. guarded.chosen (misfits y) z x yes_it_is (guarded.evaluate (misfits y) z m by r)) first.1 ∙ q.1)
      typed_good (t.choose a l r) ty locals below ls under n w h g =
          let first = typed_good a Number locals below ls under n w h.0 g in
          let q = chosen_good z ms T ty locals below under y (evaluate z m calls a ls n w) (evaluate z m calls l) (evaluate z m calls r) (guarded.evaluate (misfits y) z m by l) (guarded.evaluate (misfits y) z m by r) first.0
          (λ ls' n' w' g'. typed_good l ty locals below ls' under n' w' h.1 g') (λ ls' n' w' g'. typed_good r ty locals below ls' under n' w' h.2 g') in
          (q.0, ap (λ x. guarded.chosen (misfits y) z x (guarded.evaluate (misfits y) z m by l) (guarded.evaluate (misfits y) z m by r)) first.1 ∙ q.1)
      typed_good (t.same l r) ty locals below ls under n w h g =
          let a = h.1.0 in
          let b = h.1.1 in
          as_number ty locals below under _ _ h.0
          (two_op z ms T m classes y Same a b Number locals below under (evaluate z m calls l ls n w) (guarded.evaluate (misfits y) z m by l ls n w) (evaluate z m calls r) (guarded.evaluate (misfits y) z m by r)
          (same z ms m a b h.1.2 h.1.4) (typed_good l a locals below ls under n w h.1.3 g) (λ v ls' n' w' g'. typed_good r b locals (a ∷ below) ls' (v ∷ under) n' w' h.1.5 g'))
      typed_good (t.naming x e) ty locals below ls under n w h g = typed_good e ty locals below ls under n w h g
      typed_good (t.cast k e) ty locals below ls under n w h g =
          above (Family m k) ty locals below under _ _ h.2
          (one_op z ms T m classes y (Cast k) (Family m h.0) (Family m k) locals below under (evaluate z m calls e ls n w) (guarded.evaluate (misfits y) z m by e ls n w) (casts z ms m k h.0)
          (typed_good e (Family m h.0) locals below ls under n w h.1 g))
      typed_good (t.make k None args) ty locals below ls under n w h g =
          above (Family m k) ty locals below under _ _ h.1 (make_good z ms T m k tree (classes m) h.0 y locals below ls under n w g)
      typed_good (t.make k (Some f) args) ty locals below ls under n w h g =
          let s = h.1.0 in
          let this : Parameter = record { passing = h.1.1; type = Family m k } in
          let made = make_good z ms T m k tree (classes m) h.0 y locals below ls under n w g in
          let r = next_good (types_of s.params) (Family m k) [] locals below [] under (applied (perform z m (Make k)) (Ready [] ls n w)) (λ o ls' n' w'. evaluate_all z m calls args (o ∷ []) ls' n' w')
          (λ o ls' n' w'. guarded.evaluate_all (misfits y) z m by args (o ∷ []) ls' n' w') refl made.0
          (λ o ls' n' w' g'. all_good args (this ∷ []) s.params locals below ls' (o ∷ []) under n' w' h.1.4 refl g') in
          let xs = targets_of ls args in
          let targets = targets_good args (this ∷ []) s.params [] locals ls (locals_many locals below ls under w g.1) h.1.4
          (subst (λ x. IsTargets z ms T m classes locals [] x) (sym (other_passing h.1.1 (Family m k) [] h.1.3)) tt) in
          let q = called_good (callee.Own f) s locals below under xs (then_rest [] (applied (perform z m (Make k)) (Ready [] ls n w)) (λ o ls' n' w'. evaluate_all z m calls args (o ∷ []) ls' n' w')) h.1.2 targets r.0 in
          above s.result ty locals below under _ _ h.1.5 (
            q.0,
            ap (λ x. guarded.called (misfits y) z m (by (Own f)) xs (then_rest [] x (λ o ls' n' w'. guarded.evaluate_all (misfits y) z m by args (o ∷ []) ls' n' w'))) made.1
                ∙ ap (guarded.called (misfits y) z m (by (Own f)) xs) r.1 ∙ q.1,
          )
      typed_good (t.assign (t.named x) a e) ty locals below ls under n w h g =
          above h.0 ty locals below under _ _ h.4
          (stored_good z ms T m classes y x h.0 locals below ls under (evaluate z m calls e ls n w) (guarded.evaluate (misfits y) z m by e ls n w) (locals_many locals below ls under w g.1) h.1 h.2
          (typed_good e h.0 locals below ls under n w h.3 g))
      typed_good (t.assign (t.member_of o x) a e) ty locals below ls under n w h g =
          above h.0 ty locals below under _ _ h.6
          (member_stored_good z ms T m classes y x h.1 h.0 locals below under (evaluate z m calls e ls n w) (guarded.evaluate (misfits y) z m by e ls n w) (evaluate z m calls o) (guarded.evaluate (misfits y) z m by o) h.4 h.5
          (typed_good e h.0 locals below ls under n w h.2 g) (λ v ls' n' w' g'. typed_good o h.1 locals (h.0 ∷ below) ls' (v ∷ under) n' w' h.3 g'))
      typed_good (t.compound (t.named x) p op at e) ty locals below ls under n w h g =
          as_number ty locals below under _ _ h.0
          (changed_good z ms T m classes y x (compound_of p op at) locals below ls under (evaluate z m calls e ls n w) (guarded.evaluate (misfits y) z m by e ls n w) (locals_many locals below ls under w g.1) h.1 h.2
          (typed_good e Number locals below ls under n w h.3 g))
      typed_good (t.compound (t.member_of o x) p op at e) ty locals below ls under n w h g =
          as_number ty locals below under _ _ h.0
          (member_changed_good z ms T m classes y x (compound_of p op at) h.2.0 locals below under (evaluate z m calls e ls n w) (guarded.evaluate (misfits y) z m by e ls n w) (evaluate z m calls o) (guarded.evaluate (misfits y) z m by o) h.2.2 h.2.3
          (typed_good e Number locals below ls under n w h.1 g) (λ v ls' n' w' g'. typed_good o h.2.0 locals (Number ∷ below) ls' (v ∷ under) n' w' h.2.1 g'))
      typed_good (t.step (t.named x) p kind) ty locals below ls under n w h g =
          as_number ty locals below under _ _ h.0
          (changed_good z ms T m classes y x (step_of p kind) locals below ls under (Gave (Bits 1) ls n w) (Gave (Bits 1) ls n w) (locals_many locals below ls under w g.1) h.1 h.2
          ((g.0, push_number z ms 1 locals below ls under w g.1), refl))
      typed_good (t.step (t.member_of o x) p kind) ty locals below ls under n w h g =
          as_number ty locals below under _ _ h.0
          (member_changed_good z ms T m classes y x (step_of p kind) h.1.0 locals below under (Gave (Bits 1) ls n w) (Gave (Bits 1) ls n w) (evaluate z m calls o) (guarded.evaluate (misfits y) z m by o) h.1.2 h.1.3
          ((g.0, push_number z ms 1 locals below ls under w g.1), refl) (λ v ls' n' w' g'. typed_good o h.1.0 locals (Number ∷ below) ls' (v ∷ under) n' w' h.1.1 g'))
      typed_good (t.call f a args) ty locals below ls under n w h g =
          let s = h.0 in
          let r = all_good args [] s.params locals below ls [] under n w h.2 refl g in
          let xs = targets_of ls args in
          let targets = targets_good args [] s.params [] locals ls (locals_many locals below ls under w g.1) h.2 tt in
          let q = called_good f s locals below under xs (evaluate_all z m calls args [] ls n w) h.1 targets r.0 in
          above s.result ty locals below under _ _ h.3 (q.0, ap (guarded.called (misfits y) z m (by (callee_of f)) xs) r.1 ∙ q.1)
      typed_good (t.host_call p a args) ty locals below ls under n w h g =
          let u = h.0 in
          let is : use_at z m p.entity ≡ u = ap host_in h.1 in
          let does = asks z ms m p.entity (ap may_call h.1 ∙ h.2) in
          let r = all_good args [] (host_params u) locals below ls [] under n w h.3 refl g in
          let did : DoesWell z ms m (Ask p.entity) (types_of (host_params u)) (result_by u.driver u.result u.role) =
          subst (λ x. DoesWell z ms m (Ask p.entity) (types_of (host_params x)) (result_by x.driver x.result x.role)) is does in
          let q = applied_good z ms T m y (Ask p.entity) (types_of (host_params u)) locals below (result_by u.driver u.result u.role) under (evaluate_all z m calls args [] ls n w) did r.0 in
          above (result_by u.driver u.result u.role) ty locals below under _ _ h.4 (q.0, ap (applied (guarded.perform (misfits y) z m (Ask p.entity))) r.1 ∙ q.1)

      all_good : (args : t.Args) (before all : List Parameter) (locals below : List SlotType) (ls vs under : List Slot) (n : ℕ) (w : World) → TypesAll z ms m locals before all args
          → length (types_of before) ≡ length vs → At z ms T n locals (types_of before ++ below) ls (vs ++ under) w
          → IsGoodAll z ms T (types_of all) locals below under (evaluate_all z m calls args vs ls n w) × (guarded.evaluate_all (misfits y) z m by args vs ls n w ≡ evaluate_all z m calls args vs ls n w)
      all_good t.none before all locals below ls vs under n w h many g =
          (subst (λ x. IsGoodAll z ms T (types_of x) locals below under (Ready vs ls n w)) (sym h) (many, g), refl)
      all_good (t.more a args) before all locals below ls vs under n w h many g =
          let p = h.0 in
          let first = argument_good a p locals (types_of before ++ below) ls (vs ++ under) n w h.1 g in
          let r = next_good (types_of all) p.type (types_of before) locals below vs under (evaluate_argument z m calls a ls n w) (λ v ls' n' w'. evaluate_all z m calls args (v ∷ vs) ls' n' w')
          (λ v ls' n' w'. guarded.evaluate_all (misfits y) z m by args (v ∷ vs) ls' n' w') many first.0
          (λ v ls' n' w' g'. all_good args (p ∷ before) all locals below ls' (v ∷ vs) under n' w' h.2 (ap suc many) g') in
          (r.0, ap (λ x. then_rest vs x (λ v ls' n' w'. guarded.evaluate_all (misfits y) z m by args (v ∷ vs) ls' n' w')) first.1 ∙ r.1)

      argument_good : (a : t.Arg) (p : Parameter) (locals below : List SlotType) (ls under : List Slot) (n : ℕ) (w : World) → TypesArgument z ms m locals p a → At z ms T n locals below ls under w
          → Both z ms T m classes y p.type locals below under (evaluate_argument z m calls a ls n w) (guarded.evaluate_argument (misfits y) z m by a ls n w)
      argument_good (t.by_value a e) p locals below ls under n w h g = typed_good e p.type locals below ls under n w h.1 g
      argument_good (t.out x from to) p locals below ls under n w h g = (
        (
          g.0,
          nothing_pushed p.type (default_in from) locals below ls under w g.1
              (subst (λ k. HasType z ms (g.1).own w.objects p.type (default_of k)) h.1 (begins z ms (g.1).own w.objects p.type)) (default_names (kind_of from)),
        ),
        refl,
      )

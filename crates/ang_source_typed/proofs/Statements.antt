-- A typed statement leaves all places typed however it ends, ends where each path of it ends, and is the same whatever a misfit does.
use Rattle.std.proofs.Common.{◌≡◌, ℕ, zero, suc, ◌+◌, ◌≤◌, List, [], ◌∷◌, ◌++◌, length, Option, Some, None, refl, sym, ap, ◌∙◌, subst, arith}
use Rattle.std.specs.Prelude.{Bool, true, false, not, ◌&&◌, ◌||◌, ◌-◌}
use Rattle.std.proofs.lemmas.List.{append_assoc}
use Rattle.ang_types.specs.declared.arg_type.ArgType.{ArgType}
use Rattle.ang_typed.specs.Typed as t
use Rattle.ang_meaning.specs.declared.slot.Slot.{Slot}
use Rattle.ang_meaning.specs.declared.slot.Slot.TheVariants.{Bits, Script, Host}
use Rattle.ang_meaning.specs.World.{World, give}
use Rattle.ang_meaning.specs.Environment.{Environment}
use Rattle.ang_meaning.specs.Bodies.{Callees}
use Rattle.ang_meaning.specs.Results.{Evaluated, Gave, Failed, Ran, Went, Returned, Halted, Broken, Continued, give_some, drop_some, leave, with_value, then_run, caught}
use Rattle.ang_meaning.proofs.Counting.{many_append}
use Rattle.ang_meaning.proofs.Counted.{counted_as, give_counted}
use Rattle.ang_source.specs.Meaning.{Passes, default_in, begin_local, evaluate, evaluate_or, discarded, branched, run_locals, run_steps, in_block, tested, run, run_all, pass_of, kind_of}
use Rattle.ang_source_typed.specs.Types.{SlotType, Number, Modules, slot_type}
use Rattle.ang_source_typed.specs.TypedProgram.{AreClasses, Types, TypesOption, TypesEach, TypesLocals, TypesStatement, TypesStatements, with_locals, after, after_all}
use Rattle.ang_source_typed.specs.Paths.{is_true, breaks, some_breaks, ends, some_ends}
use Rattle.ang_source_typed.specs.Runs.{HasTree}
use Rattle.ang_source_typed.specs.Guarded.{Guard, is_number, misfits}
use Rattle.ang_source_typed.specs.Guarded as guarded
use Rattle.ang_source_typed.proofs.Values.{give_leads, moves_of, typed_length}
use Rattle.ang_source_typed.proofs.Ends.{Good, At, IsGoodEnd, guard_passes, moved_good, give_good, drop_number, push_number}
use Rattle.ang_source_typed.proofs.Making.{default_typed}
use Rattle.ang_source_typed.proofs.Variables.{Both}
use Rattle.ang_source_typed.proofs.Expressions.{CallsAreGood, typed_good, nothing_pushed, default_names}

-- ---- truth values

either_false : (a b : Bool) → a ≡ false → b ≡ false → (a || b) ≡ false
either_false a b h k = λ j. h j || k j

left_holds : (a b : Bool) → a ≡ true → (a || b) ≡ true
left_holds a b h = λ j. h j || b

right_holds : (a b : Bool) → b ≡ true → (a || b) ≡ true
right_holds true b h = refl
right_holds false b h = h

or_false : (a : Bool) → (a || false) ≡ true → a ≡ true
or_false true h = refl
or_false false h = h

first_fails : (a b : Bool) → a ≡ false → (a && b) ≡ false
first_fails a b h = λ j. h j && b

second_fails : (a b : Bool) → b ≡ false → (a && b) ≡ false
second_fails true b h = h
second_fails false b h = refl

abbrev pub GoRun : Type 0
GoRun = List Slot → ℕ → World → Ran

-- ---- locals that end

module _ (z : Environment) (ms : Modules) where
  -- the innermost local is given up
  pub pop_good : (ty : SlotType) (types below : List SlotType) (v : Slot) (ls under : List Slot) (w : World) → Good z ms (ty ∷ types) below (v ∷ ls) under w → Good z ms types below ls under (give v w)
  pop_good ty types below v ls under w g =
      moved_good z ms g.own types below ls under w (give v w) (g.locals_typed.1) g.under_typed (moves_of z ms g.own w (give v w) g.world (give_leads v w))
      (give_counted v (ls ++ under) w g.counted)

  dropped_by : (extra base below : List SlotType) (ls under : List Slot) (w : World) → Good z ms (extra ++ base) below ls under w
      → Good z ms base below (drop_some (length extra) ls) under (give_some (length extra) ls w)
  dropped_by [] base below ls under w g = g
  dropped_by (s ∷ extra) base below [] under w g = absurd g.locals_typed
  dropped_by (s ∷ extra) base below (v ∷ ls) under w g = dropped_by extra base below ls under (give v w) (pop_good s (extra ++ base) below v ls under w g)

  many_both : (extra base : List SlotType) → length (extra ++ base) ≡ length extra + length base
  many_both [] base = omega arith
  many_both (s ∷ extra) base = omega (arith, many_both extra base)

  pub dropped_good : (extra base below : List SlotType) (n : ℕ) (ls under : List Slot) (w : World) → n ≡ length base → Good z ms (extra ++ base) below ls under w
      → Good z ms base below (drop_some (length ls - n) ls) under (give_some (length ls - n) ls w)
  dropped_good extra base below n ls under w e g =
      let k : length extra ≡ length ls - n = omega (arith, many_both extra base, typed_length z ms g.own w.objects (extra ++ base) ls g.locals_typed, e) in
      subst (λ i. Good z ms base below (drop_some i ls) under (give_some i ls w)) k (dropped_by extra base below ls under w g)

module _ (z : Environment) (ms : Modules) (T : ℕ) where
  dropped_at : (extra base below : List SlotType) (n k : ℕ) (ls under : List Slot) (w : World) → n ≡ length base → At z ms T k (extra ++ base) below ls under w
      → At z ms T k base below (drop_some (length ls - n) ls) under (give_some (length ls - n) ls w)
  dropped_at extra base below n k ls under w e g = (g.0, dropped_good z ms extra base below n ls under w e g.1)

  -- ---- how statements end

  -- Of a statement that began with the locals `base`: it goes through only where not each path of it ends, and leaves a loop only in one.
  abbrev pub IsGoodRun : (loop ended breaking : Bool) → SlotType → (left base below : List SlotType) → List Slot → Ran → Type 0
  IsGoodRun loop ended breaking result left base below under (Went ls n w) = (ended ≡ false) × At z ms T n left below ls under w
  IsGoodRun loop ended breaking result left base below under (Returned v ls n w) = (extra : List SlotType) × At z ms T n (extra ++ base) (result ∷ below) ls (v ∷ under) w
  IsGoodRun loop ended breaking result left base below under (Halted f ls w) = (extra : List SlotType) × Good z ms (extra ++ base) below ls under w
  IsGoodRun loop ended breaking result left base below under (Broken ls n w) =
      (loop ≡ true) × (breaking ≡ true) × ((extra : List SlotType) × At z ms T n (extra ++ base) below ls under w)
  IsGoodRun loop ended breaking result left base below under (Continued ls n w) = (loop ≡ true) × ((extra : List SlotType) × At z ms T n (extra ++ base) below ls under w)

  -- and it is the same in the guarded meaning
  abbrev pub BothRun : (loop ended breaking : Bool) → SlotType → (left base below : List SlotType) → List Slot → (r other : Ran) → Type 0
  BothRun loop ended breaking result left base below under r other = IsGoodRun loop ended breaking result left base below under r × (other ≡ r)

  abbrev pub RunsWell : (loop ended breaking : Bool) → SlotType → (start left base below : List SlotType) → List Slot → (go other : GoRun) → Type 0
  RunsWell loop ended breaking result start left base below under go other =
      (ls : List Slot) (n : ℕ) (w : World) → At z ms T n start below ls under w → BothRun loop ended breaking result left base below under (go ls n w) (other ls n w)

  -- a loop's end says nothing of the loop around it
  widened : (loop ended ended' breaking breaking' : Bool) (result : SlotType) (left base below : List SlotType) (under : List Slot) (r : Ran) → (ended ≡ false → ended' ≡ false)
      → (breaking ≡ true → breaking' ≡ true) → IsGoodRun loop ended breaking result left base below under r → IsGoodRun loop ended' breaking' result left base below under r
  widened loop ended ended' breaking breaking' result left base below under (Went ls n w) f b h = (f h.0, h.1)
  widened loop ended ended' breaking breaking' result left base below under (Returned v ls n w) f b h = h
  widened loop ended ended' breaking breaking' result left base below under (Halted x ls w) f b h = h
  widened loop ended ended' breaking breaking' result left base below under (Broken ls n w) f b h = (h.0, b h.1, h.2)
  widened loop ended ended' breaking breaking' result left base below under (Continued ls n w) f b h = h

  looped : (loop ended breaking : Bool) (result : SlotType) (left base below : List SlotType) (under : List Slot) (r : Ran) → IsGoodRun false ended false result left base below under r
      → IsGoodRun loop ended breaking result left base below under r
  looped loop ended breaking result left base below under (Went ls n w) h = h
  looped loop ended breaking result left base below under (Returned v ls n w) h = h
  looped loop ended breaking result left base below under (Halted x ls w) h = h
  looped loop ended breaking result left base below under (Broken ls n w) h = absurd (let e = h.0 in let x : ⊥ = cc in x)
  looped loop ended breaking result left base below under (Continued ls n w) h = absurd (let e = h.0 in let x : ⊥ = cc in x)

  regrouped : (extra added base below : List SlotType) (ls under : List Slot) (w : World) → Good z ms (extra ++ (added ++ base)) below ls under w → Good z ms ((extra ++ added) ++ base) below ls under w
  regrouped extra added base below ls under w g = subst (λ x. Good z ms x below ls under w) (sym (append_assoc extra added base)) g

  regrouped_at : (n : ℕ) (extra added base below : List SlotType) (ls under : List Slot) (w : World) → At z ms T n (extra ++ (added ++ base)) below ls under w → At z ms T n ((extra ++ added) ++ base) below ls under w
  regrouped_at n extra added base below ls under w g = (g.0, regrouped extra added base below ls under w g.1)

  -- by the locals that were alive before some of those that a part began with
  rebased : (loop ended breaking : Bool) (result : SlotType) (left added base below : List SlotType) (under : List Slot) (r : Ran) → IsGoodRun loop ended breaking result left (added ++ base) below under r
      → IsGoodRun loop ended breaking result left base below under r
  rebased loop ended breaking result left added base below under (Went ls n w) h = h
  rebased loop ended breaking result left added base below under (Returned v ls n w) h = (h.0 ++ added, regrouped_at n h.0 added base (result ∷ below) ls (v ∷ under) w h.1)
  rebased loop ended breaking result left added base below under (Halted x ls w) h = (h.0 ++ added, regrouped h.0 added base below ls under w h.1)
  rebased loop ended breaking result left added base below under (Broken ls n w) h = (h.0, h.1, (h.2.0 ++ added, regrouped_at n h.2.0 added base below ls under w h.2.1))
  rebased loop ended breaking result left added base below under (Continued ls n w) h = (h.0, (h.1.0 ++ added, regrouped_at n h.1.0 added base below ls under w h.1.1))

  -- ---- constructs

  pub leave_good : (loop ended breaking : Bool) (result : SlotType) (left added base below : List SlotType) (n : ℕ) (under : List Slot) (r : Ran) → n ≡ length base → left ≡ added ++ base
      → IsGoodRun loop ended breaking result left base below under r → IsGoodRun loop ended breaking result base base below under (leave n r)
  leave_good loop ended breaking result left added base below n under (Went ls k w) e a h =
      (h.0, dropped_at added base below n k ls under w e (subst (λ x. At z ms T k x below ls under w) a h.1))
  leave_good loop ended breaking result left added base below n under (Returned v ls k w) e a h = ([], dropped_at h.0 base (result ∷ below) n k ls (v ∷ under) w e h.1)
  leave_good loop ended breaking result left added base below n under (Halted x ls w) e a h = ([], dropped_good z ms h.0 base below n ls under w e h.1)
  leave_good loop ended breaking result left added base below n under (Broken ls k w) e a h = (h.0, h.1, ([], dropped_at h.2.0 base below n k ls under w e h.2.1))
  leave_good loop ended breaking result left added base below n under (Continued ls k w) e a h = (h.0, ([], dropped_at h.1.0 base below n k ls under w e h.1.1))

  pub value_good : (y : Guard) (loop ended breaking : Bool) (result ty : SlotType) (left base below : List SlotType) (under : List Slot) (e other : Evaluated) (go go' : Slot → GoRun)
      → IsGoodEnd z ms T ty base below under e → (other ≡ e) → ((v : Slot) (ls : List Slot) (n : ℕ) (w : World) → At z ms T n base (ty ∷ below) ls (v ∷ under) w → BothRun loop ended breaking result left base below under (go v ls n w) (go' v ls n w))
      → BothRun loop ended breaking result left base below under (with_value e go) (with_value other go')
  value_good y loop ended breaking result ty left base below under (Gave v ls n w) other go go' h k next = let q = next v ls n w h in (q.0, ap (λ x. with_value x go') k ∙ q.1)
  value_good y loop ended breaking result ty left base below under (Failed f ls w) other go go' h k next = (([], h), ap (λ x. with_value x go') k)

  then_good : (loop e1 e2 b1 b2 : Bool) (result : SlotType) (mid left added base below : List SlotType) (under : List Slot) (r other : Ran) (go go' : GoRun) → mid ≡ added ++ base
      → BothRun loop e1 b1 result mid base below under r other → RunsWell loop e2 b2 result mid left mid below under go go'
      → BothRun loop (e1 || e2) (b1 || b2) result left base below under (then_run r go) (then_run other go')
  then_good loop e1 e2 b1 b2 result mid left added base below under (Went ls n w) other go go' a h k =
      let q = k ls n w h.0.1 in
      let there = rebased loop e2 b2 result left added base below under (go ls n w) (subst (λ x. IsGoodRun loop e2 b2 result left x below under (go ls n w)) a q.0) in
      (widened loop e2 (e1 || e2) b2 (b1 || b2) result left base below under (go ls n w) (either_false e1 e2 h.0.0) (right_holds b1 b2) there, ap (λ x. then_run x go') h.1 ∙ q.1)
  then_good loop e1 e2 b1 b2 result mid left added base below under (Returned v ls n w) other go go' a h k = (h.0, ap (λ x. then_run x go') h.1)
  then_good loop e1 e2 b1 b2 result mid left added base below under (Halted x ls w) other go go' a h k = (h.0, ap (λ x. then_run x go') h.1)
  then_good loop e1 e2 b1 b2 result mid left added base below under (Broken ls n w) other go go' a h k =
      ((h.0.0, left_holds b1 b2 h.0.1, h.0.2), ap (λ x. then_run x go') h.1)
  then_good loop e1 e2 b1 b2 result mid left added base below under (Continued ls n w) other go go' a h k = (h.0, ap (λ x. then_run x go') h.1)

  -- a loop's body: what follows it begins with the locals before it
  caught_good : (b e2 : Bool) (result : SlotType) (left added base below : List SlotType) (m : ℕ) (under : List Slot) (r other : Ran) (go go' : GoRun) → m ≡ length base → left ≡ added ++ base
      → (b ≡ true → e2 ≡ false) → (ended : Bool) → BothRun true ended b result left base below under r other → RunsWell false e2 false result base base base below under go go'
      → BothRun false e2 false result base base below under (caught m r go) (caught m other go')
  caught_good b e2 result left added base below m under (Went ls n w) other go go' e a f ended h k =
      let q = k (drop_some (length ls - m) ls) n (give_some (length ls - m) ls w) (dropped_at added base below m n ls under w e (subst (λ x. At z ms T n x below ls under w) a h.0.1)) in
      (q.0, ap (λ x. caught m x go') h.1 ∙ q.1)
  caught_good b e2 result left added base below m under (Continued ls n w) other go go' e a f ended h k =
      let q = k (drop_some (length ls - m) ls) n (give_some (length ls - m) ls w) (dropped_at h.0.1.0 base below m n ls under w e h.0.1.1) in
      (q.0, ap (λ x. caught m x go') h.1 ∙ q.1)
  caught_good b e2 result left added base below m under (Broken ls n w) other go go' e a f ended h k =
      ((f h.0.1, dropped_at h.0.2.0 base below m n ls under w e h.0.2.1), ap (λ x. caught m x go') h.1)
  caught_good b e2 result left added base below m under (Returned v ls n w) other go go' e a f ended h k =
      (([], dropped_at h.0.0 base (result ∷ below) m n ls (v ∷ under) w e h.0.1), ap (λ x. caught m x go') h.1)
  caught_good b e2 result left added base below m under (Halted x ls w) other go go' e a f ended h k =
      (([], dropped_good z ms h.0.0 base below m ls under w e h.0.1), ap (λ q. caught m q go') h.1)

module _ (z : Environment) (ms : Modules) (T : ℕ) where
  -- fewer ticks are fewer than more, too
  wider : (P : ℕ) → P ≤ T → (loop ended breaking : Bool) (result : SlotType) (left base below : List SlotType) (under : List Slot) (r : Ran) → IsGoodRun z ms P loop ended breaking result left base below under r
      → IsGoodRun z ms T loop ended breaking result left base below under r
  wider P e loop ended breaking result left base below under (Went ls n w) h = (h.0, (omega (arith, h.1.0, e), h.1.1))
  wider P e loop ended breaking result left base below under (Returned v ls n w) h = (h.0, (omega (arith, h.1.0, e), h.1.1))
  wider P e loop ended breaking result left base below under (Halted x ls w) h = h
  wider P e loop ended breaking result left base below under (Broken ls n w) h = (h.0, h.1, (h.2.0, (omega (arith, h.2.1.0, e), h.2.1.1)))
  wider P e loop ended breaking result left base below under (Continued ls n w) h = (h.0, (h.1.0, (omega (arith, h.1.1.0, e), h.1.1.1)))

  ticked_good : (e : Bool) (result : SlotType) (base below : List SlotType) (ls under : List Slot) (n : ℕ) (w : World) (go go' : GoRun) → At z ms T n base below ls under w
      → RunsWell z ms (T - 1) false e false result base base base below under go go' → BothRun z ms T false e false result base base below under (tested go ls n w) (tested go' ls n w)
  ticked_good e result base below ls under zero w go go' g k = (([], g.1), refl)
  ticked_good e result base below ls under (suc n) w go go' g k =
      let q = k ls n w (omega (arith, g.0), g.1) in (wider (T - 1) (omega arith) false e false result base base below under (go ls n w) q.0, q.1)

  test_good : (k : ℕ) (y : Guard) (loop e1 e2 b1 b2 : Bool) (result : SlotType) (base below : List SlotType) (ls under : List Slot) (n : ℕ) (w : World) (go go' other other' : GoRun)
      → At z ms T n base below ls under w → RunsWell z ms T loop e1 b1 result base base base below under go go' → RunsWell z ms T loop e2 b2 result base base base below under other other'
      → BothRun z ms T loop (e1 && e2) (b1 || b2) result base base below under (branched (Gave (Bits k) ls n w) go other) (guarded.branched (misfits y) z (Gave (Bits k) ls n w) go' other')
  test_good zero y loop e1 e2 b1 b2 result base below ls under n w go go' other other' g a b =
      let q = b ls n w g in
      (widened z ms T loop e2 (e1 && e2) b2 (b1 || b2) result base base below under (other ls n w) (second_fails e1 e2) (right_holds b1 b2) q.0, guard_passes y true (other' ls n w) (λ f. Halted f ls (give (Bits zero) w)) refl ∙ q.1)
  test_good (suc k) y loop e1 e2 b1 b2 result base below ls under n w go go' other other' g a b =
      let q = a ls n w g in
      (widened z ms T loop e1 (e1 && e2) b1 (b1 || b2) result base base below under (go ls n w) (first_fails e1 e2) (left_holds b1 b2) q.0, guard_passes y true (go' ls n w) (λ f. Halted f ls (give (Bits (suc k)) w)) refl ∙ q.1)

  branched_good : (y : Guard) (loop e1 e2 b1 b2 : Bool) (result : SlotType) (base below : List SlotType) (under : List Slot) (e e' : Evaluated) (go go' other other' : GoRun)
      → IsGoodEnd z ms T Number base below under e → (e' ≡ e) → RunsWell z ms T loop e1 b1 result base base base below under go go' → RunsWell z ms T loop e2 b2 result base base base below under other other'
      → BothRun z ms T loop (e1 && e2) (b1 || b2) result base base below under (branched e go other) (guarded.branched (misfits y) z e' go' other')
  branched_good y loop e1 e2 b1 b2 result base below under (Gave (Bits k) ls n w) e' go go' other other' h s a b =
      let q = test_good k y loop e1 e2 b1 b2 result base below ls under n w go go' other other' (h.0, drop_number z ms (Bits k) base below ls under w h.1) a b in
      (q.0, ap (λ x. guarded.branched (misfits y) z x go' other') s ∙ q.1)
  branched_good y loop e1 e2 b1 b2 result base below under (Gave (Script k) ls n w) e' go go' other other' h s a b = absurd h.1.under_typed.0
  branched_good y loop e1 e2 b1 b2 result base below under (Gave (Host d k) ls n w) e' go go' other other' h s a b = absurd h.1.under_typed.0
  branched_good y loop e1 e2 b1 b2 result base below under (Failed f ls w) e' go go' other other' h s a b = (([], h), ap (λ x. guarded.branched (misfits y) z x go' other') s)

-- ---- which locals are alive

module _ (z : Environment) (ms : Modules) (m : ℕ) where
  grown_by : (locals : List SlotType) (ls : List t.Local) → (added : List SlotType) × (with_locals z ms m locals ls ≡ added ++ locals)
  grown_by locals [] = ([], refl)
  grown_by locals (l ∷ ls) =
      let ty = slot_type (ms m).view m l.ty in
      let q = grown_by (ty ∷ locals) ls in
      (q.0 ++ (ty ∷ []), q.1 ∙ sym (append_assoc q.0 (ty ∷ []) locals))

  grown : (locals : List SlotType) (s : t.Stmt) → (added : List SlotType) × (after z ms m locals s ≡ added ++ locals)
  grown locals (t.block ss) = ([], refl)
  grown locals (t.locals ls) = grown_by locals ls
  grown locals (t.expression e) = ([], refl)
  grown locals t.break = ([], refl)
  grown locals t.continue = ([], refl)
  grown locals (t.return e) = ([], refl)
  grown locals (t.either c ss other) = ([], refl)
  grown locals (t.while c ss) = ([], refl)
  grown locals (t.do_while ss c) = ([], refl)
  grown locals (t.for start c steps ss) = ([], refl)

  pub all_grown : (locals : List SlotType) (ss : t.Stmts) → (added : List SlotType) × (after_all z ms m locals ss ≡ added ++ locals)
  all_grown locals t.end = ([], refl)
  all_grown locals (t.then s ss) =
      let a = grown locals s in
      let b = all_grown (after z ms m locals s) ss in
      (b.0 ++ a.0, b.1 ∙ ap (λ x. b.0 ++ x) a.1 ∙ sym (append_assoc b.0 a.0 locals))

-- a loop without an end of its own
abbrev pub endless : Option t.Expr → t.Stmts → Bool
endless None ss = false
endless (Some c) ss = is_true c && not (some_breaks ss)

true_is : (c : t.Expr) → is_true c ≡ true → c ≡ t.truth true
true_is (t.truth true) h = refl
true_is c h = absurd (let x : ⊥ = cc in x)

left_by_break : (e : Option t.Expr) (ss : t.Stmts) → some_breaks ss ≡ true → endless e ss ≡ false
left_by_break None ss h = refl
left_by_break (Some c) ss h = second_fails (is_true c) (not (some_breaks ss)) (ap not h)

module _ (z : Environment) (ms : Modules) (T m : ℕ) (y : Guard) (by passes : Passes) where
  -- what passes of typed loops do
  pub record PassesAreGood : Type 0 where
    pub each : (e : Option t.Expr) (ss : t.Stmts) (steps : List t.Expr) (result : SlotType) (locals below : List SlotType) (under : List Slot) → TypesOption z ms m locals Number e
        → TypesStatements z ms m result true locals ss → TypesEach z ms m locals steps
        → RunsWell z ms (T - 1) false (endless e ss) false result locals locals locals below under (passes e ss steps) (by e ss steps)

module _ (z : Environment) (ms : Modules) (T m : ℕ) (classes : (k : ℕ) → AreClasses z ms k) (tree : HasTree z m (ms m).program) (y : Guard) (by calls : Callees)
    (are_good : CallsAreGood z ms T m classes tree y by calls) (other passes : Passes) (passes_good : PassesAreGood z ms T m y other passes) where
  value : (e : t.Expr) (ty : SlotType) (locals below : List SlotType) (ls under : List Slot) (n : ℕ) (w : World) → Types z ms m locals ty e → At z ms T n locals below ls under w
      → Both z ms T m classes y ty locals below under (evaluate z m calls e ls n w) (guarded.evaluate (misfits y) z m by e ls n w)
  value e ty locals below ls under n w h g = typed_good z ms T m classes tree y by calls are_good e ty locals below ls under n w h g

  discard_good : (loop breaking : Bool) (result : SlotType) (e : t.Expr) (ty : SlotType) (locals below : List SlotType) (under : List Slot) → Types z ms m locals ty e
      → RunsWell z ms T loop false breaking result locals locals locals below under (λ ls n w. discarded (evaluate z m calls e ls n w)) (λ ls n w. discarded (guarded.evaluate (misfits y) z m by e ls n w))
  discard_good loop breaking result e ty locals below under h ls n w g =
      let q = value e ty locals below ls under n w h g in
      value_good z ms T y loop false breaking result ty locals locals below under (evaluate z m calls e ls n w) (guarded.evaluate (misfits y) z m by e ls n w) (λ v ls' n' w'. Went ls' n' (give v w'))
      (λ v ls' n' w'. Went ls' n' (give v w')) q.0 q.1 (λ v ls' n' w' g'. ((refl, (g'.0, give_good z ms locals below ls' under ty v w' g'.1)), refl))

  local_pushed : (ty : SlotType) (locals below : List SlotType) (v : Slot) (ls under : List Slot) (w : World) → Good z ms locals (ty ∷ below) ls (v ∷ under) w → Good z ms (ty ∷ locals) below (v ∷ ls) under w
  local_pushed ty locals below v ls under w g = record {
    own = g.own;
    locals_typed = (g.under_typed.0, g.locals_typed);
    under_typed = g.under_typed.1;
    world = g.world;
    counted = counted_as (ls ++ (v ∷ under)) (v ∷ (ls ++ under)) w (λ x. omega (arith, many_append x ls (v ∷ under), many_append x ls under)) g.counted;
  }

  begin_good : (a : ArgType) (e : Option t.Expr) (locals below : List SlotType) (ls under : List Slot) (n : ℕ) (w : World) → TypesOption z ms m locals (slot_type (ms m).view m a) e
      → At z ms T n locals below ls under w → Both z ms T m classes y (slot_type (ms m).view m a) locals below under (begin_local z m calls a e ls n w) (guarded.begin_local (misfits y) z m by a e ls n w)
  begin_good a None locals below ls under n w h g =
      ((g.0, nothing_pushed z ms T m classes tree y by calls (slot_type (ms m).view m a) (default_in a) locals below ls under w g.1 (default_typed z ms (g.1).own w.objects (ms m).view m a) (default_names (kind_of a))), refl)
  begin_good a (Some e) locals below ls under n w h g = value e (slot_type (ms m).view m a) locals below ls under n w h g

  locals_good : (loop breaking : Bool) (result : SlotType) (xs : List t.Local) (locals below : List SlotType) (under : List Slot) → TypesLocals z ms m locals xs
      → RunsWell z ms T loop false breaking result locals (with_locals z ms m locals xs) locals below under (run_locals z m calls xs) (guarded.run_locals (misfits y) z m by xs)
  locals_good loop breaking result [] locals below under h ls n w g = ((refl, g), refl)
  locals_good loop breaking result (x ∷ xs) locals below under h ls n w g =
      let ty = slot_type (ms m).view m x.ty in
      let left = with_locals z ms m (ty ∷ locals) xs in
      let q = begin_good x.ty x.initializer locals below ls under n w h.0 g in
      value_good z ms T y loop false breaking result ty left locals below under (begin_local z m calls x.ty x.initializer ls n w) (guarded.begin_local (misfits y) z m by x.ty x.initializer ls n w)
      (λ v ls' n' w'. run_locals z m calls xs (v ∷ ls') n' w') (λ v ls' n' w'. guarded.run_locals (misfits y) z m by xs (v ∷ ls') n' w') q.0 q.1
      (λ v ls' n' w' g'.
      let r = locals_good loop breaking result xs (ty ∷ locals) below under h.1 (v ∷ ls') n' w' (g'.0, local_pushed ty locals below v ls' under w' g'.1) in
      (rebased z ms T loop false breaking result left (ty ∷ []) locals below under (run_locals z m calls xs (v ∷ ls') n' w') r.0, r.1))

  steps_good : (result : SlotType) (es : List t.Expr) (locals below : List SlotType) (under : List Slot) → TypesEach z ms m locals es
      → RunsWell z ms T false false false result locals locals locals below under (run_steps z m calls es) (guarded.run_steps (misfits y) z m by es)
  steps_good result [] locals below under h ls n w g = ((refl, g), refl)
  steps_good result (e ∷ es) locals below under h ls n w g =
      then_good z ms T false false false false false result locals locals [] locals below under (discarded (evaluate z m calls e ls n w)) (discarded (guarded.evaluate (misfits y) z m by e ls n w))
      (run_steps z m calls es) (guarded.run_steps (misfits y) z m by es) refl (discard_good false false result e h.0.0 locals below under h.0.1 ls n w g) (steps_good result es locals below under h.1)

  block_of : (loop : Bool) (result : SlotType) (ss : t.Stmts) (locals below : List SlotType) (under : List Slot)
      → RunsWell z ms T loop (some_ends ss) (some_breaks ss) result locals (after_all z ms m locals ss) locals below under (run_all z m calls passes ss) (guarded.run_all (misfits y) z m by other ss)
      → RunsWell z ms T loop (some_ends ss) (some_breaks ss) result locals locals locals below under (in_block (run_all z m calls passes ss)) (in_block (guarded.run_all (misfits y) z m by other ss))
  block_of loop result ss locals below under k ls n w g =
      let q = k ls n w g in
      let grew = all_grown z ms m locals ss in (
        leave_good z ms T loop (some_ends ss) (some_breaks ss) result (after_all z ms m locals ss) grew.0 locals below (length ls) under (run_all z m calls passes ss ls n w)
            (sym (typed_length z ms (g.1).own w.objects locals ls (g.1).locals_typed)) grew.1 q.0,
        ap (leave (length ls)) q.1,
      )

  mutual
    run_good : (loop : Bool) (result : SlotType) (s : t.Stmt) (locals below : List SlotType) (under : List Slot) → TypesStatement z ms m result loop locals s
        → RunsWell z ms T loop (ends s) (breaks s) result locals (after z ms m locals s) locals below under (run z m calls passes s) (guarded.run (misfits y) z m by other s)
    run_good loop result (t.block ss) locals below under h ls n w g = block_of loop result ss locals below under (run_all_good loop result ss locals below under h) ls n w g
    run_good loop result (t.locals xs) locals below under h ls n w g = locals_good loop false result xs locals below under h ls n w g
    run_good loop result (t.expression None) locals below under h ls n w g = ((refl, g), refl)
    run_good loop result (t.expression (Some e)) locals below under h ls n w g = discard_good loop false result e h.0 locals below under h.1 ls n w g
    run_good loop result t.break locals below under h ls n w g = ((h, refl, ([], g)), refl)
    run_good loop result t.continue locals below under h ls n w g = ((h, ([], g)), refl)
    run_good loop result (t.return None) locals below under h ls n w g =
        (([], (g.0, subst (λ x. Good z ms locals (x ∷ below) ls (Bits 0 ∷ under) w) (sym h) (push_number z ms 0 locals below ls under w g.1))), refl)
    run_good loop result (t.return (Some e)) locals below under h ls n w g =
        let q = value e result locals below ls under n w h g in
        value_good z ms T y loop true false result result locals locals below under (evaluate z m calls e ls n w) (guarded.evaluate (misfits y) z m by e ls n w) (λ v ls' n' w'. Returned v ls' n' w')
        (λ v ls' n' w'. Returned v ls' n' w') q.0 q.1 (λ v ls' n' w' g'. (([], g'), refl))
    run_good loop result (t.either c ss otherwise) locals below under h ls n w g =
        let q = value c Number locals below ls under n w h.0 g in
        branched_good z ms T y loop (some_ends ss) (some_ends otherwise) (some_breaks ss) (some_breaks otherwise) result locals below under (evaluate z m calls c ls n w) (guarded.evaluate (misfits y) z m by c ls n w)
        (in_block (run_all z m calls passes ss)) (in_block (guarded.run_all (misfits y) z m by other ss)) (in_block (run_all z m calls passes otherwise)) (in_block (guarded.run_all (misfits y) z m by other otherwise))
        q.0 q.1 (block_of loop result ss locals below under (run_all_good loop result ss locals below under h.1))
        (block_of loop result otherwise locals below under (run_all_good loop result otherwise locals below under h.2))
    run_good loop result (t.while c ss) locals below under h ls n w g =
        let q = ticked_good z ms T (endless (Some c) ss) result locals below ls under n w (passes (Some c) ss []) (other (Some c) ss []) g
        (passes_good.each (Some c) ss [] result locals below under h.0 h.1 tt) in
        (looped z ms T loop (endless (Some c) ss) false result locals locals below under (tested (passes (Some c) ss []) ls n w) q.0, q.1)
    run_good loop result (t.do_while ss c) locals below under h ls n w g =
        let grew = all_grown z ms m locals ss in
        let e = endless (Some c) ss in
        let go = tested (passes (Some c) ss []) in
        let go' = tested (other (Some c) ss []) in
        let q = caught_good z ms T (some_breaks ss) e result (after_all z ms m locals ss) grew.0 locals below (length ls) under (run_all z m calls passes ss ls n w) (guarded.run_all (misfits y) z m by other ss ls n w) go go'
        (sym (typed_length z ms (g.1).own w.objects locals ls (g.1).locals_typed)) grew.1 (left_by_break (Some c) ss) (some_ends ss) (run_all_good true result ss locals below under h.0 ls n w g)
        (λ ls' n' w' g'. ticked_good z ms T e result locals below ls' under n' w' (passes (Some c) ss []) (other (Some c) ss []) g' (passes_good.each (Some c) ss [] result locals below under h.1 h.0 tt)) in
        let r = caught (length ls) (run_all z m calls passes ss ls n w) go in
        (widened z ms T loop e false false false result locals locals below under r (λ x. refl) (λ x. x) (looped z ms T loop e false result locals locals below under r q.0), q.1)
    run_good loop result (t.for start c steps ss) locals below under h ls n w g =
        let inside = after_all z ms m locals start in
        let grew = all_grown z ms m locals start in
        let e = endless c ss in
        let go = tested (passes c ss steps) in
        let go' = tested (other c ss steps) in
        let q = then_good z ms T loop (some_ends start) e (some_breaks start) false result inside inside grew.0 locals below under (run_all z m calls passes start ls n w) (guarded.run_all (misfits y) z m by other start ls n w) go go'
        grew.1 (run_all_good loop result start locals below under h.0 ls n w g)
        (λ ls' n' w' g'.
        let x = ticked_good z ms T e result inside below ls' under n' w' (passes c ss steps) (other c ss steps) g' (passes_good.each c ss steps result inside below under h.1 h.3 h.2) in
        (looped z ms T loop e false result inside inside below under (go ls' n' w') x.0, x.1)) in
        let r = then_run (run_all z m calls passes start ls n w) go in
        let left = leave_good z ms T loop (some_ends start || e) (some_breaks start || false) result inside grew.0 locals below (length ls) under r
        (sym (typed_length z ms (g.1).own w.objects locals ls (g.1).locals_typed)) grew.1 q.0 in (
          widened z ms T loop (some_ends start || e) false (some_breaks start || false) (some_breaks start) result locals locals below under (leave (length ls) r) (λ x. refl) (or_false (some_breaks start)) left,
          ap (leave (length ls)) q.1,
        )

    pub run_all_good : (loop : Bool) (result : SlotType) (ss : t.Stmts) (locals below : List SlotType) (under : List Slot) → TypesStatements z ms m result loop locals ss
        → RunsWell z ms T loop (some_ends ss) (some_breaks ss) result locals (after_all z ms m locals ss) locals below under (run_all z m calls passes ss) (guarded.run_all (misfits y) z m by other ss)
    run_all_good loop result t.end locals below under h ls n w g = ((refl, g), refl)
    run_all_good loop result (t.then s ss) locals below under h ls n w g =
        let mid = after z ms m locals s in
        let grew = grown z ms m locals s in
        then_good z ms T loop (ends s) (some_ends ss) (breaks s) (some_breaks ss) result mid (after_all z ms m mid ss) grew.0 locals below under (run z m calls passes s ls n w) (guarded.run (misfits y) z m by other s ls n w)
        (run_all z m calls passes ss) (guarded.run_all (misfits y) z m by other ss) grew.1 (run_good loop result s locals below under h.0 ls n w g) (run_all_good loop result ss mid below under h.1)

  pub body_block_good : (loop : Bool) (result : SlotType) (ss : t.Stmts) (locals below : List SlotType) (under : List Slot) → TypesStatements z ms m result loop locals ss
      → RunsWell z ms T loop (some_ends ss) (some_breaks ss) result locals locals locals below under (in_block (run_all z m calls passes ss)) (in_block (guarded.run_all (misfits y) z m by other ss))
  body_block_good loop result ss locals below under h = block_of loop result ss locals below under (run_all_good loop result ss locals below under h)

  -- ---- one pass of a loop

  module _ (e : Option t.Expr) (ss : t.Stmts) (steps : List t.Expr) (result : SlotType) (locals below : List SlotType) (under : List Slot)
      (e_typed : TypesOption z ms m locals Number e) (body_typed : TypesStatements z ms m result true locals ss) (steps_typed : TypesEach z ms m locals steps) where
    abbrev rest : GoRun
    rest = λ l2 n2 w2. then_run (run_steps z m calls steps l2 n2 w2) (tested (passes e ss steps))

    abbrev rest' : GoRun
    rest' = λ l2 n2 w2. then_run (guarded.run_steps (misfits y) z m by steps l2 n2 w2) (tested (other e ss steps))

    rest_good : RunsWell z ms T false (endless e ss) false result locals locals locals below under rest rest'
    rest_good ls n w g =
        then_good z ms T false false (endless e ss) false false result locals locals [] locals below under (run_steps z m calls steps ls n w) (guarded.run_steps (misfits y) z m by steps ls n w)
        (tested (passes e ss steps)) (tested (other e ss steps)) refl (steps_good result steps locals below under steps_typed ls n w g)
        (λ ls' n' w' g'. ticked_good z ms T (endless e ss) result locals below ls' under n' w' (passes e ss steps) (other e ss steps) g' (passes_good.each e ss steps result locals below under e_typed body_typed steps_typed))

    turn_good : RunsWell z ms T false (endless e ss) false result locals locals locals below under
        (λ ls n w. caught (length ls) (run_all z m calls passes ss ls n w) rest) (λ ls n w. caught (length ls) (guarded.run_all (misfits y) z m by other ss ls n w) rest')
    turn_good ls n w g =
        let grew = all_grown z ms m locals ss in
        caught_good z ms T (some_breaks ss) (endless e ss) result (after_all z ms m locals ss) grew.0 locals below (length ls) under (run_all z m calls passes ss ls n w) (guarded.run_all (misfits y) z m by other ss ls n w) rest rest'
        (sym (typed_length z ms (g.1).own w.objects locals ls (g.1).locals_typed)) grew.1 (left_by_break e ss) (some_ends ss) (run_all_good true result ss locals below under body_typed ls n w g) rest_good

  always_good : (ss : t.Stmts) (steps : List t.Expr) (result : SlotType) (locals below : List SlotType) (under : List Slot) → TypesStatements z ms m result true locals ss → TypesEach z ms m locals steps
      → (e : Option t.Expr) → TypesOption z ms m locals Number e → ((ls : List Slot) (n : ℕ) (w : World) → evaluate_or z m calls 1 e ls n w ≡ Gave (Bits 1) ls n w)
      → ((ls : List Slot) (n : ℕ) (w : World) → guarded.evaluate_or (misfits y) z m by 1 e ls n w ≡ Gave (Bits 1) ls n w)
      → RunsWell z ms T false (endless e ss) false result locals locals locals below under (pass_of z m calls passes e ss steps) (guarded.pass_of (misfits y) z m by other e ss steps)
  always_good ss steps result locals below under b s e h one one' ls n w g =
      let turn : GoRun = λ ls' n' w'. caught (length ls') (run_all z m calls passes ss ls' n' w') (rest e ss steps result locals below under h b s) in
      let turn' : GoRun = λ ls' n' w'. caught (length ls') (guarded.run_all (misfits y) z m by other ss ls' n' w') (rest' e ss steps result locals below under h b s) in
      let out : GoRun = λ ls' n' w'. Went ls' n' w' in
      let q = turn_good e ss steps result locals below under h b s ls n w g in
      let is : pass_of z m calls passes e ss steps ls n w ≡ turn ls n w = ap (λ x. branched x turn out) (one ls n w) in (
        subst (IsGoodRun z ms T false (endless e ss) false result locals locals below under) (sym is) q.0,
        ap (λ x. guarded.branched (misfits y) z x turn' out) (one' ls n w) ∙ guard_passes y true (turn' ls n w) (λ f. Halted f ls (give (Bits 1) w)) refl ∙ q.1 ∙ sym is,
      )

  sometimes_good : (c : t.Expr) (ss : t.Stmts) (steps : List t.Expr) (result : SlotType) (locals below : List SlotType) (under : List Slot) → Types z ms m locals Number c
      → TypesStatements z ms m result true locals ss → TypesEach z ms m locals steps → is_true c ≡ false
      → RunsWell z ms T false (endless (Some c) ss) false result locals locals locals below under (pass_of z m calls passes (Some c) ss steps) (guarded.pass_of (misfits y) z m by other (Some c) ss steps)
  sometimes_good c ss steps result locals below under h b s never ls n w g =
      let e = Some c in
      let q = value c Number locals below ls under n w h g in
      let r = branched_good z ms T y false (endless e ss) false false false result locals below under (evaluate z m calls c ls n w) (guarded.evaluate (misfits y) z m by c ls n w)
      (λ ls' n' w'. caught (length ls') (run_all z m calls passes ss ls' n' w') (rest e ss steps result locals below under h b s))
      (λ ls' n' w'. caught (length ls') (guarded.run_all (misfits y) z m by other ss ls' n' w') (rest' e ss steps result locals below under h b s))
      (λ ls' n' w'. Went ls' n' w') (λ ls' n' w'. Went ls' n' w') q.0 q.1 (turn_good e ss steps result locals below under h b s) (λ ls' n' w' g'. ((refl, g'), refl)) in (
        widened z ms T false (endless e ss && false) (endless e ss) false false result locals locals below under (pass_of z m calls passes (Some c) ss steps ls n w)
            (λ x. first_fails (is_true c) (not (some_breaks ss)) never) (λ x. x) r.0,
        r.1,
      )

  by_test : (test : Bool) (c : t.Expr) (ss : t.Stmts) (steps : List t.Expr) (result : SlotType) (locals below : List SlotType) (under : List Slot) → is_true c ≡ test → Types z ms m locals Number c
      → TypesStatements z ms m result true locals ss → TypesEach z ms m locals steps
      → RunsWell z ms T false (endless (Some c) ss) false result locals locals locals below under (pass_of z m calls passes (Some c) ss steps) (guarded.pass_of (misfits y) z m by other (Some c) ss steps)
  by_test true c ss steps result locals below under is h b s =
      let same = true_is c is in
      always_good ss steps result locals below under b s (Some c) h (λ ls n w. ap (λ x. evaluate z m calls x ls n w) same) (λ ls n w. ap (λ x. guarded.evaluate (misfits y) z m by x ls n w) same)
  by_test false c ss steps result locals below under is h b s = sometimes_good c ss steps result locals below under h b s is

  pub pass_good : (e : Option t.Expr) (ss : t.Stmts) (steps : List t.Expr) (result : SlotType) (locals below : List SlotType) (under : List Slot) → TypesOption z ms m locals Number e
      → TypesStatements z ms m result true locals ss → TypesEach z ms m locals steps
      → RunsWell z ms T false (endless e ss) false result locals locals locals below under (pass_of z m calls passes e ss steps) (guarded.pass_of (misfits y) z m by other e ss steps)
  pass_good None ss steps result locals below under h b s = always_good ss steps result locals below under b s None h (λ ls n w. refl) (λ ls n w. refl)
  pass_good (Some c) ss steps result locals below under h b s = by_test (is_true c) c ss steps result locals below under refl h b s

-- Statements come to the same in two worlds that are alike.
use Rattle.std.proofs.Common.{◌≡◌, ◌≤◌, ◌<◌, ◌+◌, ◌-◌, ℕ, zero, suc, inl, inr, List, [], ◌∷◌, ◌++◌, length, refl, sym, ap, ◌∙◌, subst, arith}
use Rattle.std.specs.Prelude.{◌⊎◌, Bool, true, false}
use Rattle.ang_kinds.specs.declared.fault.Fault.{Fault}
use Rattle.ang_kinds.specs.declared.fault.Fault.TheVariants.{Null as NullFault, Budget}
use Rattle.ang_meaning.specs.declared.slot.Slot.{Slot}
use Rattle.ang_meaning.specs.declared.slot.Slot.TheVariants.{Bits, Script, Host}
use Rattle.ang_meaning.specs.declared.routine.Passing.{Passing}
use Rattle.ang_meaning.specs.declared.routine.Passing.TheVariants.{In, Out, Object}
use Rattle.ang_meaning.specs.World.{World, give, give_all}
use Rattle.ang_meaning.specs.Environment.{Environment}
use Rattle.ang_meaning.specs.Results.{Evaluated, Gave, Failed, Ran, Went, Returned, Halted, Broken, Continued, Yields, drop_some, give_some, at_zero, on_test, ticked, leave, with_value, then_run, caught, outs_of, give_others, yielded, finished}
use Rattle.ang_meaning.specs.Counting.{IsCounted}
use Rattle.ang_meaning.specs.Alike.{Renaming, renamed, renamed_all}
use Rattle.ang_meaning.proofs.Counting.{many_append, bits_name_none}
use Rattle.ang_meaning.proofs.Counted.{counted_as, give_counted, give_all_counted}
use Rattle.ang_meaning.proofs.AlikeWorlds.{three, HasMore, give_alike, give_all_alike}
use Rattle.ang_meaning.proofs.Matching.{AlikeUpTo}
use Rattle.ang_meaning.specs.Bodies.{Callees}
use Rattle.ang_core.specs.Meaning.{turned}
use Rattle.ang_core.specs.Sound.{out_count}
use Rattle.ang_lower.specs.ExprTree as c
use Rattle.ang_lower.specs.Tree as stmt
use Rattle.ang_lower.proofs.PlainMeaning.{eval, Passes, run, run_all, pass}
use Rattle.ang_lower.proofs.PlainSound.{IsSound, leaves, leaves_all, IsSoundStmt, AreSoundStmts}
use Rattle.ang_alike.proofs.Renamed.{many_renamed, drop_renamed, outs_renamed, some_alike, others_alike, more_given, more_some, some_counted, others_counted, length_drop, none_left}
use Rattle.ang_alike.proofs.Values.{Turned, turned_on, turned_value, value_stack, value_world, ValueKeeps, ValueLeaves, ValueAlike}
use Rattle.ang_alike.proofs.Calls.{ReplyLeaves, ReplyAlike, reply_on, CallsGo, eval_alike}

-- ---- an end of statements

abbrev pub turned_ran : Renaming → World → Ran → Ran
turned_ran r w (Went ls t v) = Went (renamed_all r ls) t w
turned_ran r w (Returned x ls t v) = Returned (renamed r x) (renamed_all r ls) t w
turned_ran r w (Halted f ls v) = Halted f (renamed_all r ls) w
turned_ran r w (Broken ls t v) = Broken (renamed_all r ls) t w
turned_ran r w (Continued ls t v) = Continued (renamed_all r ls) t w

abbrev pub ran_stack : Ran → List Slot
ran_stack (Went ls t v) = ls
ran_stack (Returned x ls t v) = x ∷ ls
ran_stack (Halted f ls v) = ls
ran_stack (Broken ls t v) = ls
ran_stack (Continued ls t v) = ls

abbrev pub ran_world : Ran → World
ran_world (Went ls t v) = v
ran_world (Returned x ls t v) = v
ran_world (Halted f ls v) = v
ran_world (Broken ls t v) = v
ran_world (Continued ls t v) = v

-- j locals are alive after it, and the first n wherever it leaves; at most `most` ticks are left
abbrev pub RanKeeps : ℕ → ℕ → ℕ → Ran → Type 0
RanKeeps most n j (Went ls t v) = (length ls ≡ j) × (t ≤ most)
RanKeeps most n j (Returned x ls t v) = (n ≤ length ls) × (t ≤ most)
RanKeeps most n j (Halted f ls v) = Unit {0}
RanKeeps most n j (Broken ls t v) = (n ≤ length ls) × (t ≤ most)
RanKeeps most n j (Continued ls t v) = (n ≤ length ls) × (t ≤ most)

abbrev pub RanLeaves : Type 0 → Ran → Type 0
RanLeaves apart (Went ls t v) = ⊥
RanLeaves apart (Returned x ls t v) = ⊥
RanLeaves apart (Halted f ls v) = apart × HasMore v
RanLeaves apart (Broken ls t v) = ⊥
RanLeaves apart (Continued ls t v) = ⊥

abbrev pub RanSame : Type 0 → ℕ → ℕ → ℕ → Renaming → List Slot → Ran → Ran → Type 0
RanSame apart most n j r below o p = Turned turned_ran ran_stack ran_world (RanKeeps most n j) apart r below o p

abbrev pub RanAlike : Type 0 → ℕ → ℕ → ℕ → Renaming → List Slot → Ran → Ran → Type 0
RanAlike apart most n j r below o p = RanSame apart most n j r below o p ⊎ (RanLeaves apart o ⊎ RanLeaves apart p)

module _ (apart : Type 0) (most : ℕ) where
  pub ran_on : (n j : ℕ) (q r : Renaming) (below : List Slot) (o p : Ran) → renamed_all q below ≡ renamed_all r below → RanAlike apart most n j q below o p → RanAlike apart most n j r below o p
  ran_on n j q r below o p e h = three (λ m. inl (turned_on apart q r below o p e m)) (λ l. inr (inl l)) (λ l. inr (inr l)) h

  -- fewer locals are promised where it leaves
  fewer_kept : (i n j : ℕ) (o : Ran) → i ≤ n → RanKeeps most n j o → RanKeeps most i j o
  fewer_kept i n j (Went ls t v) le h = h
  fewer_kept i n j (Returned x ls t v) le h = (omega (arith, le, h.0), h.1)
  fewer_kept i n j (Halted f ls v) le h = tt
  fewer_kept i n j (Broken ls t v) le h = (omega (arith, le, h.0), h.1)
  fewer_kept i n j (Continued ls t v) le h = (omega (arith, le, h.0), h.1)

  fewer : (i n j : ℕ) (r : Renaming) (below : List Slot) (o p : Ran) → i ≤ n → RanAlike apart most n j r below o p → RanAlike apart most i j r below o p
  fewer i n j r below o p le h =
      three (λ m. inl (record { by = m.by; other = m.other; kept = m.kept; same = m.same; counted = m.counted; alike = m.alike; keeps = fewer_kept i n j o le m.keeps })) (λ l. inr (inl l)) (λ l. inr (inr l)) h

  -- from locals of this number, in whatever worlds that are alike
  abbrev pub RunGoes : ℕ → ℕ → List Slot → (List Slot → ℕ → World → Ran) → Type 0
  RunGoes n j below go = (r : Renaming) (ls : List Slot) (t : ℕ) (v w : World) → (length ls ≡ n) × (t ≤ most) → IsCounted (ls ++ below) v → AlikeUpTo apart r v w → RanAlike apart most n j r below (go ls t v) (go (renamed_all r ls) t w)

  -- the same, where fewer ticks are left
  abbrev pub RunLater : ℕ → ℕ → List Slot → (List Slot → ℕ → World → Ran) → Type 0
  RunLater n j below go = (r : Renaming) (ls : List Slot) (t : ℕ) (v w : World) → (length ls ≡ n) × (t < most) → IsCounted (ls ++ below) v → AlikeUpTo apart r v w → RanAlike apart most n j r below (go ls t v) (go (renamed_all r ls) t w)

  went_alike : (n j : ℕ) (r : Renaming) (below ls : List Slot) (t : ℕ) (v w : World) → (length ls ≡ j) × (t ≤ most) → IsCounted (ls ++ below) v → AlikeUpTo apart r v w → RanAlike apart most n j r below (Went ls t v) (Went (renamed_all r ls) t w)
  went_alike n j r below ls t v w many p h = inl (record { by = r; other = w; kept = refl; same = refl; counted = p; alike = h; keeps = many })

  pub halted_alike : (n j : ℕ) (r : Renaming) (below : List Slot) (f : Fault) (ls : List Slot) (v w : World) → IsCounted (ls ++ below) v → AlikeUpTo apart r v w → RanAlike apart most n j r below (Halted f ls v) (Halted f (renamed_all r ls) w)
  halted_alike n j r below f ls v w p h = inl (record { by = r; other = w; kept = refl; same = refl; counted = p; alike = h; keeps = tt })

  -- ---- a value, and what follows it

  abbrev pub NextGoes : ℕ → ℕ → List Slot → (Slot → List Slot → ℕ → World → Ran) → Type 0
  NextGoes n j below go = (r : Renaming) (x : Slot) (ls : List Slot) (t : ℕ) (v w : World) → (length ls ≡ n) × (t ≤ most) → IsCounted (x ∷ (ls ++ below)) v → AlikeUpTo apart r v w
      → RanAlike apart most n j r below (go x ls t v) (go (renamed r x) (renamed_all r ls) t w)

  value_leaves : (go : Slot → List Slot → ℕ → World → Ran) (o : Evaluated) → ValueLeaves apart o → RanLeaves apart (with_value o go)
  value_leaves go (Gave x ls t v) h = absurd h
  value_leaves go (Failed f ls v) h = h

  value_same : (n j : ℕ) (r : Renaming) (below : List Slot) (go : Slot → List Slot → ℕ → World → Ran) (o : Evaluated) (w : World) → NextGoes n j below go → ValueKeeps most n o → IsCounted (value_stack o ++ below) (value_world o)
      → AlikeUpTo apart r (value_world o) w → RanAlike apart most n j r below (with_value o go) (with_value (turned_value r w o) go)
  value_same n j r below go (Gave x ls t v) w next many p h = next r x ls t v w many p h
  value_same n j r below go (Failed f ls v) w next many p h = halted_alike n j r below f ls v w p h

  pub value_alike : (n j : ℕ) (r : Renaming) (below : List Slot) (go : Slot → List Slot → ℕ → World → Ran) (o p : Evaluated) → NextGoes n j below go → ValueAlike apart most n r below o p
      → RanAlike apart most n j r below (with_value o go) (with_value p go)
  value_alike n j r below go o p next h =
      three (λ m. ran_on n j m.by r below (with_value o go) (with_value p go) m.kept
      (subst (λ e. RanAlike apart most n j m.by below (with_value o go) (with_value e go)) (sym m.same) (value_same n j m.by below go o m.other next m.keeps m.counted m.alike)))
      (λ l. inr (inl (value_leaves go o l))) (λ l. inr (inr (value_leaves go p l))) h

  -- ---- statements in turn

  then_leaves : (go : List Slot → ℕ → World → Ran) (o : Ran) → RanLeaves apart o → RanLeaves apart (then_run o go)
  then_leaves go (Went ls t v) h = absurd h
  then_leaves go (Returned x ls t v) h = absurd h
  then_leaves go (Halted f ls v) h = h
  then_leaves go (Broken ls t v) h = absurd h
  then_leaves go (Continued ls t v) h = absurd h

  then_same : (n j k : ℕ) (r : Renaming) (below : List Slot) (go : List Slot → ℕ → World → Ran) (o : Ran) (w : World) → n ≤ j → RunGoes j k below go → RanKeeps most n j o → IsCounted (ran_stack o ++ below) (ran_world o)
      → AlikeUpTo apart r (ran_world o) w → RanAlike apart most n k r below (then_run o go) (then_run (turned_ran r w o) go)
  then_same n j k r below go (Went ls t v) w le next many p h = fewer n j k r below (go ls t v) (go (renamed_all r ls) t w) le (next r ls t v w many p h)
  then_same n j k r below go (Returned x ls t v) w le next many p h = inl (record { by = r; other = w; kept = refl; same = refl; counted = p; alike = h; keeps = many })
  then_same n j k r below go (Halted f ls v) w le next many p h = halted_alike n k r below f ls v w p h
  then_same n j k r below go (Broken ls t v) w le next many p h = inl (record { by = r; other = w; kept = refl; same = refl; counted = p; alike = h; keeps = many })
  then_same n j k r below go (Continued ls t v) w le next many p h = inl (record { by = r; other = w; kept = refl; same = refl; counted = p; alike = h; keeps = many })

  pub then_alike : (n j k : ℕ) (r : Renaming) (below : List Slot) (go : List Slot → ℕ → World → Ran) (o p : Ran) → n ≤ j → RunGoes j k below go → RanAlike apart most n j r below o p
      → RanAlike apart most n k r below (then_run o go) (then_run p go)
  then_alike n j k r below go o p le next h =
      three (λ m. ran_on n k m.by r below (then_run o go) (then_run p go) m.kept
      (subst (λ e. RanAlike apart most n k m.by below (then_run o go) (then_run e go)) (sym m.same) (then_same n j k m.by below go o m.other le next m.keeps m.counted m.alike)))
      (λ l. inr (inl (then_leaves go o l))) (λ l. inr (inr (then_leaves go p l))) h

  -- ---- locals that are given up

  -- the locals above the first n, on both sides
  abbrev kept_in : ℕ → List Slot → List Slot
  kept_in n ls = drop_some (length ls - n) ls

  abbrev given_in : ℕ → List Slot → World → World
  given_in n ls w = give_some (length ls - n) ls w

  kept_renamed : (r : Renaming) (n : ℕ) (ls : List Slot) → kept_in n (renamed_all r ls) ≡ renamed_all r (kept_in n ls)
  kept_renamed r n ls = ap (λ k. drop_some (k - n) (renamed_all r ls)) (many_renamed r ls) ∙ drop_renamed r (length ls - n) ls

  given_renamed : (r : Renaming) (n : ℕ) (ls : List Slot) (v w : World) → AlikeUpTo apart r v w → AlikeUpTo apart r (given_in n ls v) (given_in n (renamed_all r ls) w)
  given_renamed r n ls v w h =
      subst (λ k. AlikeUpTo apart r (given_in n ls v) (give_some (k - n) (renamed_all r ls) w)) (sym (many_renamed r ls)) (some_alike apart r (length ls - n) ls v w h)

  kept_length : (n : ℕ) (ls : List Slot) → n ≤ length ls → length (kept_in n ls) ≡ n
  kept_length n ls le = length_drop (length ls - n) ls ∙ omega (arith, le)

  given_counted : (n : ℕ) (ls below : List Slot) (v : World) → IsCounted (ls ++ below) v → IsCounted (kept_in n ls ++ below) (given_in n ls v)
  given_counted n ls below v p = some_counted (length ls - n) ls below v p

  -- below a value
  under_counted : (n : ℕ) (x : Slot) (ls below : List Slot) (v : World) → IsCounted (x ∷ (ls ++ below)) v → IsCounted (x ∷ (kept_in n ls ++ below)) (given_in n ls v)
  under_counted n x ls below v p =
      counted_as (kept_in n ls ++ (x ∷ below)) (x ∷ (kept_in n ls ++ below)) (given_in n ls v) (λ y. omega (arith, many_append y (kept_in n ls) (x ∷ below), many_append y (kept_in n ls) below))
      (given_counted n ls (x ∷ below) v (counted_as (x ∷ (ls ++ below)) (ls ++ (x ∷ below)) v (λ y. omega (arith, many_append y ls (x ∷ below), many_append y ls below)) p))

  leave_leaves : (n : ℕ) (o : Ran) → RanLeaves apart o → RanLeaves apart (leave n o)
  leave_leaves n (Went ls t v) h = absurd h
  leave_leaves n (Returned x ls t v) h = absurd h
  leave_leaves n (Halted f ls v) h = (h.0, more_some (length ls - n) ls v h.1)
  leave_leaves n (Broken ls t v) h = absurd h
  leave_leaves n (Continued ls t v) h = absurd h

  leave_same : (n j : ℕ) (r : Renaming) (below : List Slot) (o : Ran) (w : World) → n ≤ j → RanKeeps most n j o → IsCounted (ran_stack o ++ below) (ran_world o) → AlikeUpTo apart r (ran_world o) w
      → RanAlike apart most n n r below (leave n o) (leave n (turned_ran r w o))
  leave_same n j r below (Went ls t v) w le many p h = inl (record {
    by = r;
    other = given_in n (renamed_all r ls) w;
    kept = refl;
    same = ap (λ l. Went l t (given_in n (renamed_all r ls) w)) (kept_renamed r n ls);
    counted = given_counted n ls below v p;
    alike = given_renamed r n ls v w h;
    keeps = (kept_length n ls (omega (arith, le, many.0)), many.1);
  })
  leave_same n j r below (Returned x ls t v) w le many p h = inl (record {
    by = r;
    other = given_in n (renamed_all r ls) w;
    kept = refl;
    same = ap (λ l. Returned (renamed r x) l t (given_in n (renamed_all r ls) w)) (kept_renamed r n ls);
    counted = under_counted n x ls below v p;
    alike = given_renamed r n ls v w h;
    keeps = let e = kept_length n ls many.0 in (omega (arith, e), many.1);
  })
  leave_same n j r below (Halted f ls v) w le many p h = inl (record {
    by = r;
    other = given_in n (renamed_all r ls) w;
    kept = refl;
    same = ap (λ l. Halted f l (given_in n (renamed_all r ls) w)) (kept_renamed r n ls);
    counted = given_counted n ls below v p;
    alike = given_renamed r n ls v w h;
    keeps = tt;
  })
  leave_same n j r below (Broken ls t v) w le many p h = inl (record {
    by = r;
    other = given_in n (renamed_all r ls) w;
    kept = refl;
    same = ap (λ l. Broken l t (given_in n (renamed_all r ls) w)) (kept_renamed r n ls);
    counted = given_counted n ls below v p;
    alike = given_renamed r n ls v w h;
    keeps = let e = kept_length n ls many.0 in (omega (arith, e), many.1);
  })
  leave_same n j r below (Continued ls t v) w le many p h = inl (record {
    by = r;
    other = given_in n (renamed_all r ls) w;
    kept = refl;
    same = ap (λ l. Continued l t (given_in n (renamed_all r ls) w)) (kept_renamed r n ls);
    counted = given_counted n ls below v p;
    alike = given_renamed r n ls v w h;
    keeps = let e = kept_length n ls many.0 in (omega (arith, e), many.1);
  })

  leave_alike : (n j : ℕ) (r : Renaming) (below : List Slot) (o p : Ran) → n ≤ j → RanAlike apart most n j r below o p → RanAlike apart most n n r below (leave n o) (leave n p)
  leave_alike n j r below o p le h =
      three (λ m. ran_on n n m.by r below (leave n o) (leave n p) m.kept
      (subst (λ e. RanAlike apart most n n m.by below (leave n o) (leave n e)) (sym m.same) (leave_same n j m.by below o m.other le m.keeps m.counted m.alike)))
      (λ l. inr (inl (leave_leaves n o l))) (λ l. inr (inr (leave_leaves n p l))) h

  -- by numbers that are the same
  leave_at : (a b n j : ℕ) (r : Renaming) (below : List Slot) (o p : Ran) → a ≡ n → b ≡ n → n ≤ j → RanAlike apart most n j r below o p → RanAlike apart most n n r below (leave a o) (leave b p)
  leave_at a b n j r below o p e f le h =
      subst (λ i. RanAlike apart most n n r below (leave i o) (leave b p)) (sym e) (subst (λ i. RanAlike apart most n n r below (leave n o) (leave i p)) (sym f) (leave_alike n j r below o p le h))

  -- ---- a loop's body

  caught_leaves : (n : ℕ) (go : List Slot → ℕ → World → Ran) (o : Ran) → RanLeaves apart o → RanLeaves apart (caught n o go)
  caught_leaves n go (Went ls t v) h = absurd h
  caught_leaves n go (Returned x ls t v) h = absurd h
  caught_leaves n go (Halted f ls v) h = (h.0, more_some (length ls - n) ls v h.1)
  caught_leaves n go (Broken ls t v) h = absurd h
  caught_leaves n go (Continued ls t v) h = absurd h

  caught_next : (n : ℕ) (r : Renaming) (below ls : List Slot) (t : ℕ) (v w : World) (go : List Slot → ℕ → World → Ran) → RunGoes n n below go → (n ≤ length ls) × (t ≤ most) → IsCounted (ls ++ below) v → AlikeUpTo apart r v w
      → RanAlike apart most n n r below (go (kept_in n ls) t (given_in n ls v)) (go (kept_in n (renamed_all r ls)) t (given_in n (renamed_all r ls) w))
  caught_next n r below ls t v w go next le p h =
      subst (λ l. RanAlike apart most n n r below (go (kept_in n ls) t (given_in n ls v)) (go l t (given_in n (renamed_all r ls) w))) (sym (kept_renamed r n ls))
      (next r (kept_in n ls) t (given_in n ls v) (given_in n (renamed_all r ls) w) (kept_length n ls le.0, le.1) (given_counted n ls below v p) (given_renamed r n ls v w h))

  caught_same : (n j : ℕ) (r : Renaming) (below : List Slot) (go : List Slot → ℕ → World → Ran) (o : Ran) (w : World) → n ≤ j → RunGoes n n below go → RanKeeps most n j o → IsCounted (ran_stack o ++ below) (ran_world o)
      → AlikeUpTo apart r (ran_world o) w → RanAlike apart most n n r below (caught n o go) (caught n (turned_ran r w o) go)
  caught_same n j r below go (Went ls t v) w le next many p h = caught_next n r below ls t v w go next (omega (arith, le, many.0), many.1) p h
  caught_same n j r below go (Continued ls t v) w le next many p h = caught_next n r below ls t v w go next many p h
  caught_same n j r below go (Broken ls t v) w le next many p h =
      subst (λ l. RanAlike apart most n n r below (Went (kept_in n ls) t (given_in n ls v)) (Went l t (given_in n (renamed_all r ls) w))) (sym (kept_renamed r n ls))
      (went_alike n n r below (kept_in n ls) t (given_in n ls v) (given_in n (renamed_all r ls) w) (kept_length n ls many.0, many.1) (given_counted n ls below v p) (given_renamed r n ls v w h))
  caught_same n j r below go (Returned x ls t v) w le next many p h = leave_same n j r below (Returned x ls t v) w le many p h
  caught_same n j r below go (Halted f ls v) w le next many p h = leave_same n j r below (Halted f ls v) w le many p h

  caught_alike : (n j : ℕ) (r : Renaming) (below : List Slot) (go : List Slot → ℕ → World → Ran) (o p : Ran) → n ≤ j → RunGoes n n below go → RanAlike apart most n j r below o p
      → RanAlike apart most n n r below (caught n o go) (caught n p go)
  caught_alike n j r below go o p le next h =
      three (λ m. ran_on n n m.by r below (caught n o go) (caught n p go) m.kept
      (subst (λ e. RanAlike apart most n n m.by below (caught n o go) (caught n e go)) (sym m.same) (caught_same n j m.by below go o m.other le next m.keeps m.counted m.alike)))
      (λ l. inr (inl (caught_leaves n go o l))) (λ l. inr (inr (caught_leaves n go p l))) h

  -- ---- ticks

  tick_alike : (n j : ℕ) (r : Renaming) (below ls : List Slot) (t : ℕ) (v w : World) (go on : ℕ → Ran) → t ≤ most → IsCounted (ls ++ below) v → AlikeUpTo apart r v w → ((k : ℕ) → k < most → RanAlike apart most n j r below (go k) (on k))
      → RanAlike apart most n j r below (ticked t (Halted Budget ls v) go) (ticked t (Halted Budget (renamed_all r ls) w) on)
  tick_alike n j r below ls zero v w go on le p h next = halted_alike n j r below Budget ls v w p h
  tick_alike n j r below ls (suc t) v w go on le p h next = next t (omega (arith, le))

  turned_alike : (a b n j k : ℕ) (r : Renaming) (below : List Slot) (o p : Ran) (step next : List Slot → ℕ → World → Ran) → a ≡ n → b ≡ n → n ≤ j → n ≤ k → RunGoes n k below step → RunLater n n below next
      → RanAlike apart most n j r below o p → RanAlike apart most n n r below (turned a o step next) (turned b p step next)
  turned_alike a b n j k r below o p step next e f le ge go on h =
      let after : List Slot → ℕ → World → Ran = λ ls t w. then_run (leave (length ls) (step ls t w)) (λ ls' t' w'. ticked t' (Halted Budget ls' w') (λ t2. next ls' t2 w')) in
      subst (λ i. RanAlike apart most n n r below (caught i o after) (caught b p after)) (sym e) (subst (λ i. RanAlike apart most n n r below (caught n o after) (caught i p after)) (sym f)
      (caught_alike n j r below after o p le
      (λ q ls t v w many c l.
      then_alike n n n q below (λ ls' t' w'. ticked t' (Halted Budget ls' w') (λ t2. next ls' t2 w')) (leave (length ls) (step ls t v)) (leave (length (renamed_all q ls)) (step (renamed_all q ls) t w)) (omega arith)
      (λ q' ls' t' v' w' many' c' l'. tick_alike n n q' below ls' t' v' w' (λ t2. next ls' t2 v') (λ t2. next (renamed_all q' ls') t2 w') many'.1 c' l' (λ t2 le2. on q' ls' t2 v' w' (many'.0, le2) c' l'))
      (leave_at (length ls) (length (renamed_all q ls)) n k q below (step ls t v) (step (renamed_all q ls) t w) many.0 (many_renamed q ls ∙ many.0) ge (go q ls t v w many c l))) h))

  -- ---- a test

  zero_alike : (x n j : ℕ) (r : Renaming) (below : List Slot) (a b d e : Ran) → RanAlike apart most n j r below a d → RanAlike apart most n j r below b e → RanAlike apart most n j r below (at_zero x a b) (at_zero x d e)
  zero_alike zero n j r below a b d e h k = h
  zero_alike (suc x) n j r below a b d e h k = k

  fails : (n j : ℕ) (r : Renaming) (below : List Slot) (x : Slot) (ls : List Slot) (v w : World) → IsCounted (x ∷ (ls ++ below)) v → AlikeUpTo apart r v w
      → RanAlike apart most n j r below (Halted NullFault ls (give x v)) (Halted NullFault (renamed_all r ls) (give (renamed r x) w))
  fails n j r below x ls v w p h = halted_alike n j r below NullFault ls (give x v) (give (renamed r x) w) (give_counted x (ls ++ below) v p) (give_alike apart r x v w h)

  test_alike : (n j : ℕ) (r : Renaming) (below : List Slot) (x : Slot) (ls : List Slot) (v w : World) (off on off' on' : Ran) → IsCounted (x ∷ (ls ++ below)) v → AlikeUpTo apart r v w
      → (IsCounted (ls ++ below) v → RanAlike apart most n j r below off off') → (IsCounted (ls ++ below) v → RanAlike apart most n j r below on on')
      → RanAlike apart most n j r below (on_test x (Halted NullFault ls (give x v)) off on) (on_test (renamed r x) (Halted NullFault (renamed_all r ls) (give (renamed r x) w)) off' on')
  test_alike n j r below (Bits x) ls v w off on off' on' p h a b =
      let c : IsCounted (ls ++ below) v = counted_as (Bits x ∷ (ls ++ below)) (ls ++ below) v (λ y. omega (arith, bits_name_none x y)) p in
      zero_alike x n j r below off on off' on' (a c) (b c)
  test_alike n j r below (Script k) ls v w off on off' on' p h a b = fails n j r below (Script k) ls v w p h
  test_alike n j r below (Host d k) ls v w off on off' on' p h a b = fails n j r below (Host d k) ls v w p h

  -- ---- trees

  -- passes of sound loops, where fewer ticks are left
  abbrev pub PassesGo : Environment → ℕ → Passes → Type 0
  PassesGo z m q = (e : c.Expr) (s step : stmt.Stmt) (n : ℕ) (below : List Slot) → IsSound z m n e → IsSoundStmt z m true n s → IsSoundStmt z m false n step → RunLater n n below (q e s step)

  module _ (z : Environment) (m : ℕ) (calls : Callees) (go : CallsGo apart most z m calls) where
    value_goes : (e : c.Expr) (n : ℕ) (r : Renaming) (below ls : List Slot) (t : ℕ) (v w : World) → IsSound z m n e → (length ls ≡ n) × (t ≤ most) → IsCounted (ls ++ below) v → AlikeUpTo apart r v w
        → ValueAlike apart most n r below (eval z m calls e ls t v) (eval z m calls e (renamed_all r ls) t w)
    value_goes e n r below ls t v w s many p h = eval_alike apart most z m calls go e n r below ls t v w s many p h

    module _ (q : Passes) (passes : PassesGo z m q) where
      mutual
        pub run_alike : (s : stmt.Stmt) (loop : Bool) (n : ℕ) (below : List Slot) → IsSoundStmt z m loop n s → RunGoes n (leaves s + n) below (run z m calls q s)
        run_alike stmt.skip loop n below s r ls t v w many p h = went_alike n (0 + n) r below ls t v w (many.0 ∙ omega arith, many.1) p h
        run_alike (stmt.evaluate e) loop n below s r ls t v w many p h =
            value_alike n (0 + n) r below (λ x ls' t' w'. Went ls' t' (give x w')) (eval z m calls e ls t v) (eval z m calls e (renamed_all r ls) t w)
            (λ q' x ls' t' v' w' many' p' h'. went_alike n (0 + n) q' below ls' t' (give x v') (give (renamed q' x) w') (many'.0 ∙ omega arith, many'.1) (give_counted x (ls' ++ below) v' p') (give_alike apart q' x v' w' h'))
            (value_goes e n r below ls t v w s many p h)
        run_alike (stmt.declare e) loop n below s r ls t v w many p h =
            value_alike n (1 + n) r below (λ x ls' t' w'. Went (x ∷ ls') t' w') (eval z m calls e ls t v) (eval z m calls e (renamed_all r ls) t w)
            (λ q' x ls' t' v' w' many' p' h'. went_alike n (1 + n) q' below (x ∷ ls') t' v' w' (ap suc many'.0 ∙ omega arith, many'.1) p' h')
            (value_goes e n r below ls t v w s many p h)
        run_alike (stmt.block ss) loop n below s r ls t v w many p h =
            let e : n ≡ 0 + n = omega arith in
            subst (λ j. RanAlike apart most n j r below (leave (length ls) (run_all z m calls q ss ls t v)) (leave (length (renamed_all r ls)) (run_all z m calls q ss (renamed_all r ls) t w))) e
            (leave_at (length ls) (length (renamed_all r ls)) n (leaves_all ss + n) r below (run_all z m calls q ss ls t v) (run_all z m calls q ss (renamed_all r ls) t w) many.0 (many_renamed r ls ∙ many.0) (omega arith)
            (runs_alike ss loop n below s r ls t v w many p h))
        run_alike (stmt.either e a b) loop n below s r ls t v w many p h =
            let j : n ≡ 0 + n = omega arith in
            let next : Slot → List Slot → ℕ → World → Ran = λ x ls' t' w'. on_test x (Halted NullFault ls' (give x w')) (leave (length ls') (run z m calls q b ls' t' w')) (leave (length ls') (run z m calls q a ls' t' w')) in
            subst (λ i. RanAlike apart most n i r below (with_value (eval z m calls e ls t v) next) (with_value (eval z m calls e (renamed_all r ls) t w) next)) j
            (value_alike n n r below next (eval z m calls e ls t v) (eval z m calls e (renamed_all r ls) t w)
            (λ q' x ls' t' v' w' many' p' h'.
            test_alike n n q' below x ls' v' w' (leave (length ls') (run z m calls q b ls' t' v')) (leave (length ls') (run z m calls q a ls' t' v'))
            (leave (length (renamed_all q' ls')) (run z m calls q b (renamed_all q' ls') t' w')) (leave (length (renamed_all q' ls')) (run z m calls q a (renamed_all q' ls') t' w')) p' h'
            (λ c'. leave_at (length ls') (length (renamed_all q' ls')) n (leaves b + n) q' below (run z m calls q b ls' t' v') (run z m calls q b (renamed_all q' ls') t' w') many'.0 (many_renamed q' ls' ∙ many'.0) (omega arith) (run_alike b loop n below s.2 q' ls' t' v' w' many' c' h'))
            (λ c'. leave_at (length ls') (length (renamed_all q' ls')) n (leaves a + n) q' below (run z m calls q a ls' t' v') (run z m calls q a (renamed_all q' ls') t' w') many'.0 (many_renamed q' ls' ∙ many'.0) (omega arith) (run_alike a loop n below s.1 q' ls' t' v' w' many' c' h')))
            (value_goes e n r below ls t v w s.0 many p h))
        run_alike (stmt.while e a step) loop n below s r ls t v w many p h =
            let j : n ≡ 0 + n = omega arith in
            subst (λ i. RanAlike apart most n i r below (ticked t (Halted Budget ls v) (λ k. q e a step ls k v)) (ticked t (Halted Budget (renamed_all r ls) w) (λ k. q e a step (renamed_all r ls) k w))) j
            (tick_alike n n r below ls t v w (λ k. q e a step ls k v) (λ k. q e a step (renamed_all r ls) k w) many.1 p h (λ k le. passes e a step n below s.0 s.1 s.2 r ls k v w (many.0, le) p h))
        run_alike (stmt.do_while e a) loop n below s r ls t v w many p h =
            let j : n ≡ 0 + n = omega arith in
            let stays : List Slot → ℕ → World → Ran = λ ls' t' w'. Went ls' t' w' in
            let next : List Slot → ℕ → World → Ran = λ ls' t' w'. q e a stmt.skip ls' t' w' in
            subst (λ i. RanAlike apart most n i r below (turned (length ls) (run z m calls q a ls t v) stays next) (turned (length (renamed_all r ls)) (run z m calls q a (renamed_all r ls) t w) stays next)) j
            (turned_alike (length ls) (length (renamed_all r ls)) n (leaves a + n) n r below (run z m calls q a ls t v) (run z m calls q a (renamed_all r ls) t w) stays next many.0 (many_renamed r ls ∙ many.0) (omega arith) (omega arith)
            (λ q' ls' t' v' w' many' p' h'. went_alike n n q' below ls' t' v' w' many' p' h') (passes e a stmt.skip n below s.0 s.1 tt) (run_alike a true n below s.1 r ls t v w many p h))
        run_alike (stmt.return e) loop n below s r ls t v w many p h =
            value_alike n (0 + n) r below (λ x ls' t' w'. Returned x ls' t' w') (eval z m calls e ls t v) (eval z m calls e (renamed_all r ls) t w)
            (λ q' x ls' t' v' w' many' p' h'. inl (record { by = q'; other = w'; kept = refl; same = refl; counted = p'; alike = h'; keeps = (omega (arith, many'.0), many'.1) }))
            (value_goes e n r below ls t v w s many p h)
        run_alike stmt.break loop n below s r ls t v w many p h = inl (record { by = r; other = w; kept = refl; same = refl; counted = p; alike = h; keeps = (omega (arith, many.0), many.1) })
        run_alike stmt.continue loop n below s r ls t v w many p h = inl (record { by = r; other = w; kept = refl; same = refl; counted = p; alike = h; keeps = (omega (arith, many.0), many.1) })

        runs_alike : (ss : stmt.Stmts) (loop : Bool) (n : ℕ) (below : List Slot) → AreSoundStmts z m loop n ss → RunGoes n (leaves_all ss + n) below (run_all z m calls q ss)
        runs_alike stmt.end loop n below s r ls t v w many p h = went_alike n (0 + n) r below ls t v w (many.0 ∙ omega arith, many.1) p h
        runs_alike (stmt.«then» a ss) loop n below s r ls t v w many p h =
            let j : leaves_all ss + (leaves a + n) ≡ leaves_all ss + leaves a + n = omega arith in
            let next : List Slot → ℕ → World → Ran = λ ls' t' w'. run_all z m calls q ss ls' t' w' in
            subst (λ i. RanAlike apart most n i r below (then_run (run z m calls q a ls t v) next) (then_run (run z m calls q a (renamed_all r ls) t w) next)) j
            (then_alike n (leaves a + n) (leaves_all ss + (leaves a + n)) r below next (run z m calls q a ls t v) (run z m calls q a (renamed_all r ls) t w) (omega arith)
            (runs_alike ss loop (leaves a + n) below s.1) (run_alike a loop n below s.0 r ls t v w many p h))

      pub pass_alike : (e : c.Expr) (a step : stmt.Stmt) (n : ℕ) (below : List Slot) → IsSound z m n e → IsSoundStmt z m true n a → IsSoundStmt z m false n step → RunGoes n n below (pass z m calls q e a step)
      pass_alike e a step n below se sa sstep r ls t v w many p h =
          let next : List Slot → ℕ → World → Ran = λ ls' t' w'. q e a step ls' t' w' in
          let after : Slot → List Slot → ℕ → World → Ran =
          λ x ls' t' w'. on_test x (Halted NullFault ls' (give x w')) (Went ls' t' w') (turned (length ls') (run z m calls q a ls' t' w') (run z m calls q step) next) in
          value_alike n n r below after (eval z m calls e ls t v) (eval z m calls e (renamed_all r ls) t w)
          (λ q' x ls' t' v' w' many' p' h'.
          test_alike n n q' below x ls' v' w' (Went ls' t' v') (turned (length ls') (run z m calls q a ls' t' v') (run z m calls q step) next)
          (Went (renamed_all q' ls') t' w') (turned (length (renamed_all q' ls')) (run z m calls q a (renamed_all q' ls') t' w') (run z m calls q step) next) p' h'
          (λ c'. went_alike n n q' below ls' t' v' w' many' c' h')
          (λ c'. turned_alike (length ls') (length (renamed_all q' ls')) n (leaves a + n) (leaves step + n) q' below (run z m calls q a ls' t' v') (run z m calls q a (renamed_all q' ls') t' w') (run z m calls q step) next
          many'.0 (many_renamed q' ls' ∙ many'.0) (omega arith) (omega arith) (run_alike step false n below sstep) (passes e a step n below se sa sstep) (run_alike a true n below sa q' ls' t' v' w' many' c' h')))
          (value_goes e n r below ls t v w se many p h)

  -- ---- a body's end

  outs_many : (ps : List Passing) (vs : List Slot) → length vs ≡ length ps → length (outs_of ps vs) ≡ out_count ps
  outs_many [] vs e = refl
  outs_many (p ∷ ps) [] e = absurd (omega (arith, e))
  outs_many (In ∷ ps) (v ∷ vs) e = outs_many ps vs (omega (arith, e))
  outs_many (Object ∷ ps) (v ∷ vs) e = outs_many ps vs (omega (arith, e))
  outs_many (Out ∷ ps) (v ∷ vs) e = ap suc (outs_many ps vs (omega (arith, e)))

  yielded_alike : (ps : List Passing) (r : Renaming) (below : List Slot) (x : Slot) (ls : List Slot) (t : ℕ) (v w : World) → (length ps ≤ length ls) × (t ≤ most) → IsCounted (x ∷ (ls ++ below)) v → AlikeUpTo apart r v w
      → ReplyAlike apart most (out_count ps) r below (yielded ps x ls t v) (yielded ps (renamed r x) (renamed_all r ls) t w)
  yielded_alike ps r below x ls t v w le p h =
      let n = length ps in
      let k = kept_in n ls in
      let v1 = given_in n ls v in
      let w1 = given_in n (renamed_all r ls) w in
      let empty : drop_some n k ≡ [] = none_left n k (let e = kept_length n ls le.0 in omega (arith, e)) in
      let c : IsCounted (outs_of ps k ++ (drop_some n k ++ (x ∷ below))) (give_others ps k v1) =
      others_counted ps k (x ∷ below) v1 (given_counted n ls (x ∷ below) v (counted_as (x ∷ (ls ++ below)) (ls ++ (x ∷ below)) v (λ y. omega (arith, many_append y ls (x ∷ below), many_append y ls below)) p)) in
      let c2 : IsCounted (outs_of ps k ++ (x ∷ below)) (give_others ps k v1) = subst (λ l. IsCounted (outs_of ps k ++ (l ++ (x ∷ below))) (give_others ps k v1)) empty c in
      inl (record {
        by = r;
        other = give_others ps (renamed_all r k) w1;
        kept = refl;
        same = ap (λ l. Yields (renamed r x) (outs_of ps l) t (give_others ps l w1)) (kept_renamed r n ls) ∙ ap (λ l. Yields (renamed r x) l t (give_others ps (renamed_all r k) w1)) (outs_renamed r ps k);
        counted = counted_as (outs_of ps k ++ (x ∷ below)) (x ∷ (outs_of ps k ++ below)) (give_others ps k v1) (λ y. omega (arith, many_append y (outs_of ps k) (x ∷ below), many_append y (outs_of ps k) below)) c2;
        alike = others_alike apart r ps k v1 w1 (given_renamed r n ls v w h);
        keeps = (outs_many ps k (kept_length n ls le.0), le.1);
      })

  finished_leaves : (ps : List Passing) (o : Ran) → RanLeaves apart o → ReplyLeaves apart (finished ps o)
  finished_leaves ps (Went ls t v) h = absurd h
  finished_leaves ps (Returned x ls t v) h = absurd h
  finished_leaves ps (Halted f ls v) h = (h.0, more_given ls v h.1)
  finished_leaves ps (Broken ls t v) h = absurd h
  finished_leaves ps (Continued ls t v) h = absurd h

  zero_counted : (s : List Slot) (v : World) → IsCounted s v → IsCounted (Bits 0 ∷ s) v
  zero_counted s v p = counted_as s (Bits 0 ∷ s) v (λ y. omega (arith, bits_name_none 0 y)) p

  finished_same : (ps : List Passing) (j : ℕ) (r : Renaming) (below : List Slot) (o : Ran) (w : World) → length ps ≤ j → RanKeeps most (length ps) j o → IsCounted (ran_stack o ++ below) (ran_world o) → AlikeUpTo apart r (ran_world o) w
      → ReplyAlike apart most (out_count ps) r below (finished ps o) (finished ps (turned_ran r w o))
  finished_same ps j r below (Went ls t v) w le many p h = yielded_alike ps r below (Bits 0) ls t v w (omega (arith, le, many.0), many.1) (zero_counted (ls ++ below) v p) h
  finished_same ps j r below (Returned x ls t v) w le many p h = yielded_alike ps r below x ls t v w many p h
  finished_same ps j r below (Halted f ls v) w le many p h = inl (record {
    by = r;
    other = give_all (renamed_all r ls) w;
    kept = refl;
    same = refl;
    counted = give_all_counted ls below v p;
    alike = give_all_alike apart r ls v w h;
    keeps = tt;
  })
  finished_same ps j r below (Broken ls t v) w le many p h = yielded_alike ps r below (Bits 0) ls t v w many (zero_counted (ls ++ below) v p) h
  finished_same ps j r below (Continued ls t v) w le many p h = yielded_alike ps r below (Bits 0) ls t v w many (zero_counted (ls ++ below) v p) h

  pub finished_alike : (ps : List Passing) (j : ℕ) (r : Renaming) (below : List Slot) (o p : Ran) → length ps ≤ j → RanAlike apart most (length ps) j r below o p
      → ReplyAlike apart most (out_count ps) r below (finished ps o) (finished ps p)
  finished_alike ps j r below o p le h =
      three (λ m. reply_on apart most (out_count ps) m.by r below (finished ps o) (finished ps p) m.kept
      (subst (λ e. ReplyAlike apart most (out_count ps) m.by below (finished ps o) (finished ps e)) (sym m.same) (finished_same ps j m.by below o m.other le m.keeps m.counted m.alike)))
      (λ l. inr (inl (finished_leaves ps o l))) (λ l. inr (inr (finished_leaves ps p l))) h

-- ---- what is at most a is at most b, where a is

ran_keeps_most : (a b n j : ℕ) (o : Ran) → a ≤ b → RanKeeps a n j o → RanKeeps b n j o
ran_keeps_most a b n j (Went ls t v) le h = (h.0, omega (arith, le, h.1))
ran_keeps_most a b n j (Returned x ls t v) le h = (h.0, omega (arith, le, h.1))
ran_keeps_most a b n j (Halted f ls v) le h = tt
ran_keeps_most a b n j (Broken ls t v) le h = (h.0, omega (arith, le, h.1))
ran_keeps_most a b n j (Continued ls t v) le h = (h.0, omega (arith, le, h.1))

pub ran_most : (apart : Type 0) (a b n j : ℕ) (r : Renaming) (below : List Slot) (o p : Ran) → a ≤ b → RanAlike apart a n j r below o p → RanAlike apart b n j r below o p
ran_most apart a b n j r below o p le h =
    three (λ m. inl (record { by = m.by; other = m.other; kept = m.kept; same = m.same; counted = m.counted; alike = m.alike; keeps = ran_keeps_most a b n j o le m.keeps })) (λ l. inr (inl l)) (λ l. inr (inr l)) h

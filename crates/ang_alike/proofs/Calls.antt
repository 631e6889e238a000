-- A call comes to the same in two worlds that are alike, and so do expressions.
use Rattle.std.proofs.Common.{◌≡◌, ◌≤◌, ◌+◌, ℕ, suc, inl, inr, List, [], ◌∷◌, ◌++◌, length, refl, sym, ap, ◌∙◌, subst, arith, None}
use Rattle.std.specs.Prelude.{◌⊎◌}
use Rattle.ang_kinds.specs.declared.fault.Fault.{Fault}
use Rattle.ang_meaning.specs.declared.slot.Slot.{Slot}
use Rattle.ang_meaning.specs.declared.slot.Slot.TheVariants.{Bits, Script}
use Rattle.ang_meaning.specs.declared.routine.Callee.{Callee}
use Rattle.ang_meaning.specs.declared.routine.Spot.{Spot}
use Rattle.ang_meaning.specs.declared.routine.Spot.TheVariants.{Local, Global, Field}
use Rattle.ang_meaning.specs.declared.routine.Target.{Target}
use Rattle.ang_meaning.specs.World.{World}
use Rattle.ang_meaning.specs.Environment.{Environment}
use Rattle.ang_meaning.specs.Perform.{member_or, member_put}
use Rattle.ang_meaning.specs.Results.{Gave, Gathered, Ready, Broke, Reply, Yields, Raises, local_at, local_set, brought, Traded, trade, Settled, settled_next, settled, with_outs, replied, called, give_back}
use Rattle.ang_meaning.specs.Counting.{IsCounted}
use Rattle.ang_meaning.specs.Alike.{Renaming, renamed, renamed_all}
use Rattle.ang_meaning.proofs.Counting.{many_append, bits_name_none, null_names_none}
use Rattle.ang_meaning.proofs.Counted.{counted_as, store_places, put_counted, member_counted}
use Rattle.ang_meaning.proofs.AlikeWorlds.{three, HasMore, global_renamed, put_alike, member_renamed, member_alike}
use Rattle.ang_meaning.proofs.Matching.{AlikeUpTo}
use Rattle.ang_meaning.specs.Bodies.{Callees}
use Rattle.ang_core.specs.Sound.{Fits, IsSpot, AreSpots}
use Rattle.ang_code_laws.proofs.Counting.{give_back_with}
use Rattle.ang_code_laws.proofs.AlikeSteps.{back_alike}
use Rattle.ang_lower.specs.ExprTree as c
use Rattle.ang_lower.proofs.PlainMeaning.{eval, eval_all}
use Rattle.ang_lower.proofs.PlainSound.{operand_count, IsSound, AreSoundArgs}
use Rattle.ang_alike.specs.SourcesAlike.{turned_reply, reply_world}
use Rattle.ang_alike.proofs.Renamed.{front_kept, back_kept, at_renamed, set_renamed, brought_renamed, brought_names, length_set}
use Rattle.ang_alike.proofs.Values.{Turned, turned_on, turned_values, values_stack, values_world, ValuesKeep, ValueLeaves, ValuesLeave, ValueAlike, ValuesAlike, value_on, gave_alike, failed_alike, loaded_alike, assigned_alike, altered_alike, applied_alike, chosen_alike, rest_alike}

-- ---- a reply

abbrev pub reply_stack : Reply → List Slot
reply_stack (Yields x outs t v) = x ∷ outs
reply_stack (Raises f v) = []

-- it gives k values of `&out` parameters, and at most `most` ticks are left
abbrev pub ReplyKeeps : ℕ → ℕ → Reply → Type 0
ReplyKeeps most k (Yields x outs t v) = (length outs ≡ k) × (t ≤ most)
ReplyKeeps most k (Raises f v) = Unit {0}

abbrev pub ReplyLeaves : Type 0 → Reply → Type 0
ReplyLeaves apart (Yields x outs t v) = ⊥
ReplyLeaves apart (Raises f v) = apart × HasMore v

abbrev pub ReplySame : Type 0 → ℕ → ℕ → Renaming → List Slot → Reply → Reply → Type 0
ReplySame apart most k r below o p = Turned turned_reply reply_stack reply_world (ReplyKeeps most k) apart r below o p

abbrev pub ReplyAlike : Type 0 → ℕ → ℕ → Renaming → List Slot → Reply → Reply → Type 0
ReplyAlike apart most k r below o p = ReplySame apart most k r below o p ⊎ (ReplyLeaves apart o ⊎ ReplyLeaves apart p)

module _ (apart : Type 0) (most : ℕ) where
  pub reply_on : (k : ℕ) (q r : Renaming) (below : List Slot) (o p : Reply) → renamed_all q below ≡ renamed_all r below → ReplyAlike apart most k q below o p → ReplyAlike apart most k r below o p
  reply_on k q r below o p e h = three (λ m. inl (turned_on apart q r below o p e m)) (λ l. inr (inl l)) (λ l. inr (inr l)) h

  pub raised_alike : (k : ℕ) (r : Renaming) (below : List Slot) (f : Fault) (v w : World) → IsCounted below v → AlikeUpTo apart r v w → ReplyAlike apart most k r below (Raises f v) (Raises f w)
  raised_alike k r below f v w p h = inl (record { by = r; other = w; kept = refl; same = refl; counted = p; alike = h; keeps = tt })

  -- ---- `&out` values move into their targets

  record SettledAlike (n : ℕ) (r : Renaming) (below : List Slot) (a b : Settled) : Type 0 where
    olds : b.olds ≡ renamed_all r a.olds
    locals : b.locals ≡ renamed_all r a.locals
    counted : IsCounted (a.olds ++ (a.locals ++ below)) a.world
    alike : AlikeUpTo apart r a.world b.world
    many : length a.locals ≡ n

  record TradedAlike (n : ℕ) (r : Renaming) (below : List Slot) (a b : Traded) : Type 0 where
    old : b.old ≡ renamed r a.old
    locals : b.locals ≡ renamed_all r a.locals
    counted : IsCounted (a.old ∷ (a.locals ++ below)) a.world
    alike : AlikeUpTo apart r a.world b.world
    many : length a.locals ≡ n

  trade_alike : (n m : ℕ) (r : Renaming) (below : List Slot) (x : Spot) (y : Slot) (ls : List Slot) (v w : World) → IsSpot n x → length ls ≡ n → IsCounted (y ∷ (ls ++ below)) v → AlikeUpTo apart r v w
      → TradedAlike n r below (trade m x y ls v) (trade m x (renamed r y) (renamed_all r ls) w)
  trade_alike n m r below (Local i) y ls v w lt many p h =
      let set = local_set ls i y in
      record {
        old = at_renamed r ls i;
        locals = set_renamed r ls i y;
        counted = counted_as (y ∷ (ls ++ below)) (local_at ls i ∷ (set ++ below)) v (λ x. omega (arith, store_places x ls i y (omega (arith, lt, many)), many_append x ls below, many_append x set below)) p;
        alike = h;
        many = length_set ls i y ∙ many;
      }
  trade_alike n m r below (Global g) y ls v w s many p h = record {
    old = global_renamed apart r m g y v w h;
    locals = refl;
    counted = put_counted m g y y (ls ++ below) v (λ x. refl) p;
    alike = put_alike apart r m g y v w h;
    many = many;
  }
  trade_alike n m r below (Field o i) y ls v w lt many p h =
      let at = local_at ls o in
      let same = at_renamed r ls o in
      record {
        old = ap (λ k. member_or i k (renamed r y) w) same ∙ member_renamed apart r i at y v w h;
        locals = refl;
        counted = member_counted i at y (ls ++ below) v p;
        alike = subst (λ k. AlikeUpTo apart r (member_put i at y v) (member_put i k (renamed r y) w)) (sym same) (member_alike apart r i at y v w h);
        many = many;
      }

  next_by : (n : ℕ) (r : Renaming) (below olds : List Slot) (a b : Traded) → TradedAlike n r (olds ++ below) a b
      → SettledAlike n r below (record { olds = a.old ∷ olds; locals = a.locals; world = a.world }) (record { olds = b.old ∷ renamed_all r olds; locals = b.locals; world = b.world })
  next_by n r below olds a b h = record {
    olds = ap (λ y. y ∷ renamed_all r olds) h.old;
    locals = h.locals;
    counted = counted_as (a.old ∷ (a.locals ++ (olds ++ below))) (a.old ∷ (olds ++ (a.locals ++ below))) a.world
        (λ x. omega (arith, many_append x a.locals (olds ++ below), many_append x olds below, many_append x olds (a.locals ++ below), many_append x a.locals below)) h.counted;
    alike = h.alike;
    many = h.many;
  }

  next_alike : (n m : ℕ) (r : Renaming) (below : List Slot) (x : Target) (y : Slot) (a b : Settled) → IsSpot n x.spot → SettledAlike n r (y ∷ below) a b
      → SettledAlike n r below (settled_next m x y a) (settled_next m x (renamed r y) b)
  next_alike n m r below x y a b spot h =
      let z = brought x.to y in
      let c : IsCounted (z ∷ (a.locals ++ (a.olds ++ below))) a.world =
      counted_as (a.olds ++ (a.locals ++ (y ∷ below))) (z ∷ (a.locals ++ (a.olds ++ below))) a.world
      (λ k. omega (arith, brought_names k x.to y, many_append k a.olds (a.locals ++ (y ∷ below)), many_append k a.locals (y ∷ below), many_append k a.locals (a.olds ++ below), many_append k a.olds below)) h.counted in
      let moved = trade_alike n m r (a.olds ++ below) x.spot z a.locals a.world b.world spot h.many c h.alike in
      let here : SettledAlike n r below (settled_next m x y a)
      (let t = trade m x.spot (renamed r z) (renamed_all r a.locals) b.world in record { olds = t.old ∷ renamed_all r a.olds; locals = t.locals; world = t.world }) =
      next_by n r below a.olds (trade m x.spot z a.locals a.world) (trade m x.spot (renamed r z) (renamed_all r a.locals) b.world) moved in
      subst (λ l. SettledAlike n r below (settled_next m x y a) (let t = trade m x.spot (brought x.to (renamed r y)) b.locals b.world in record { olds = t.old ∷ l; locals = t.locals; world = t.world })) (sym h.olds)
      (subst (λ l. SettledAlike n r below (settled_next m x y a) (let t = trade m x.spot (brought x.to (renamed r y)) l b.world in record { olds = t.old ∷ renamed_all r a.olds; locals = t.locals; world = t.world })) (sym h.locals)
      (subst (λ k. SettledAlike n r below (settled_next m x y a) (let t = trade m x.spot k (renamed_all r a.locals) b.world in record { olds = t.old ∷ renamed_all r a.olds; locals = t.locals; world = t.world })) (sym (brought_renamed r x.to y)) here))

  settled_alike : (n m : ℕ) (r : Renaming) (below : List Slot) (xs : List Target) (outs ls : List Slot) (v w : World) → AreSpots n xs → length outs ≡ length xs → length ls ≡ n → IsCounted (outs ++ (ls ++ below)) v → AlikeUpTo apart r v w
      → SettledAlike n r below (settled m xs outs ls v) (settled m xs (renamed_all r outs) (renamed_all r ls) w)
  settled_alike n m r below [] [] ls v w spots count many p h = record { olds = refl; locals = refl; counted = p; alike = h; many = many }
  settled_alike n m r below [] (y ∷ outs) ls v w spots count many p h = absurd (omega (arith, count))
  settled_alike n m r below (x ∷ xs) [] ls v w spots count many p h = absurd (omega (arith, count))
  settled_alike n m r below (x ∷ xs) (y ∷ outs) ls v w spots count many p h =
      next_alike n m r below x y (settled m xs outs ls v) (settled m xs (renamed_all r outs) (renamed_all r ls) w) spots.0
      (settled_alike n m r (y ∷ below) xs outs ls v w spots.1 (omega (arith, count)) many
      (counted_as (y ∷ (outs ++ (ls ++ below))) (outs ++ (ls ++ (y ∷ below))) v
      (λ k. omega (arith, many_append k outs (ls ++ below), many_append k ls below, many_append k outs (ls ++ (y ∷ below)), many_append k ls (y ∷ below))) p) h)

  outs_by : (n : ℕ) (r : Renaming) (below : List Slot) (x : Slot) (t : ℕ) (a b : Settled) → t ≤ most → IsCounted (a.olds ++ (x ∷ (a.locals ++ below))) a.world → SettledAlike n r (x ∷ below) a b
      → ValueAlike apart most n r below (with_outs x a t) (with_outs (renamed r x) b t)
  outs_by n r below x t a b le p h =
      subst (λ l. ValueAlike apart most n r below (with_outs x a t) (Gave (renamed r x) l t (give_back b.olds b.world))) (sym h.locals)
      (subst (λ l. ValueAlike apart most n r below (with_outs x a t) (Gave (renamed r x) (renamed_all r a.locals) t (give_back l b.world))) (sym h.olds)
      (gave_alike apart most n r below x (renamed r x) a.locals t (give_back a.olds a.world) (give_back (renamed_all r a.olds) b.world) refl (h.many, le)
      (give_back_with a.olds (x ∷ (a.locals ++ below)) a.world p) (back_alike apart r a.olds a.world b.world h.alike)))

  -- ---- a call

  replied_leaves : (m : ℕ) (xs : List Target) (o : Reply) (ls : List Slot) → ReplyLeaves apart o → ValueLeaves apart (replied m xs o ls)
  replied_leaves m xs (Yields x outs t v) ls h = absurd h
  replied_leaves m xs (Raises f v) ls h = h

  replied_same : (n m : ℕ) (r : Renaming) (below ls : List Slot) (xs : List Target) (o : Reply) (w : World) → AreSpots n xs → length ls ≡ n → ReplyKeeps most (length xs) o
      → IsCounted (reply_stack o ++ (ls ++ below)) (reply_world o) → AlikeUpTo apart r (reply_world o) w → ValueAlike apart most n r below (replied m xs o ls) (replied m xs (turned_reply r w o) (renamed_all r ls))
  replied_same n m r below ls xs (Yields x outs t v) w spots many count p h =
      let s = settled_alike n m r (x ∷ below) xs outs ls v w spots count.0 many
      (counted_as (x ∷ (outs ++ (ls ++ below))) (outs ++ (ls ++ (x ∷ below))) v
      (λ k. omega (arith, many_append k outs (ls ++ below), many_append k ls below, many_append k outs (ls ++ (x ∷ below)), many_append k ls (x ∷ below))) p) h in
      let a = settled m xs outs ls v in
      outs_by n r below x t a (settled m xs (renamed_all r outs) (renamed_all r ls) w) count.1
      (counted_as (a.olds ++ (a.locals ++ (x ∷ below))) (a.olds ++ (x ∷ (a.locals ++ below))) a.world
      (λ k. omega (arith, many_append k a.olds (a.locals ++ (x ∷ below)), many_append k a.locals (x ∷ below), many_append k a.olds (x ∷ (a.locals ++ below)), many_append k a.locals below)) s.counted) s
  replied_same n m r below ls xs (Raises f v) w spots many count p h = failed_alike apart most n r below f ls v w p h

  replied_alike : (n m : ℕ) (r : Renaming) (below ls : List Slot) (xs : List Target) (o p : Reply) → AreSpots n xs → length ls ≡ n → ReplyAlike apart most (length xs) r (ls ++ below) o p
      → ValueAlike apart most n r below (replied m xs o ls) (replied m xs p (renamed_all r ls))
  replied_alike n m r below ls xs o p spots many h =
      three (λ q. value_on apart most n q.by r below (replied m xs o ls) (replied m xs p (renamed_all r ls)) (back_kept q.by r ls below q.kept)
      (subst (λ e. ValueAlike apart most n q.by below (replied m xs o ls) (replied m xs e (renamed_all r ls))) (sym q.same)
      (subst (λ l. ValueAlike apart most n q.by below (replied m xs o ls) (replied m xs (turned_reply q.by q.other o) l)) (front_kept q.by r ls below q.kept)
      (replied_same n m q.by below ls xs o q.other spots many q.keeps q.counted q.alike))))
      (λ l. inr (inl (replied_leaves m xs o ls l))) (λ l. inr (inr (replied_leaves m xs p (renamed_all r ls) l))) h

  -- calls that a body makes, with `args` arguments and `outs` values of `&out` parameters, in whatever worlds that are alike
  abbrev pub CallsGo : Environment → ℕ → Callees → Type 0
  CallsGo z m calls = (f : Callee) (args outs : ℕ) (r : Renaming) (below vs : List Slot) (t : ℕ) (v w : World) → Fits z m f args outs → length vs ≡ args → t ≤ most → IsCounted (vs ++ below) v → AlikeUpTo apart r v w
      → ReplyAlike apart most outs r below (calls f vs t v) (calls f (renamed_all r vs) t w)

  module _ (z : Environment) (m : ℕ) (calls : Callees) (go : CallsGo z m calls) where
    called_leaves : (f : Callee) (xs : List Target) (o : Gathered) → ValuesLeave apart o → ValueLeaves apart (called m (calls f) xs o)
    called_leaves f xs (Ready vs ls t v) h = absurd h
    called_leaves f xs (Broke g ls v) h = h

    called_same : (k n : ℕ) (r : Renaming) (below : List Slot) (f : Callee) (xs : List Target) (o : Gathered) (w : World) → Fits z m f k (length xs) → AreSpots n xs → ValuesKeep most k n o → IsCounted (values_stack o ++ below) (values_world o)
        → AlikeUpTo apart r (values_world o) w → ValueAlike apart most n r below (called m (calls f) xs o) (called m (calls f) xs (turned_values r w o))
    called_same k n r below f xs (Ready vs ls t v) w fits spots many p h =
        replied_alike n m r below ls xs (calls f vs t v) (calls f (renamed_all r vs) t w) spots many.1.0
        (go f k (length xs) r (ls ++ below) vs t v w fits many.0 many.1.1
        (counted_as ((vs ++ ls) ++ below) (vs ++ (ls ++ below)) v (λ y. omega (arith, many_append y (vs ++ ls) below, many_append y vs ls, many_append y vs (ls ++ below), many_append y ls below)) p) h)
    called_same k n r below f xs (Broke g ls v) w fits spots many p h = failed_alike apart most n r below g ls v w p h

    called_alike : (k n : ℕ) (r : Renaming) (below : List Slot) (f : Callee) (xs : List Target) (o p : Gathered) → Fits z m f k (length xs) → AreSpots n xs → ValuesAlike apart most k n r below o p
        → ValueAlike apart most n r below (called m (calls f) xs o) (called m (calls f) xs p)
    called_alike k n r below f xs o p fits spots h =
        three (λ q. value_on apart most n q.by r below (called m (calls f) xs o) (called m (calls f) xs p) q.kept
        (subst (λ e. ValueAlike apart most n q.by below (called m (calls f) xs o) (called m (calls f) xs e)) (sym q.same) (called_same k n q.by below f xs o q.other fits spots q.keeps q.counted q.alike)))
        (λ l. inr (inl (called_leaves f xs o l))) (λ l. inr (inr (called_leaves f xs p l))) h

    -- ---- trees

    mutual
      pub eval_alike : (e : c.Expr) (n : ℕ) (r : Renaming) (below ls : List Slot) (t : ℕ) (v w : World) → IsSound z m n e → (length ls ≡ n) × (t ≤ most) → IsCounted (ls ++ below) v → AlikeUpTo apart r v w
          → ValueAlike apart most n r below (eval z m calls e ls t v) (eval z m calls e (renamed_all r ls) t w)
      eval_alike (c.number x) n r below ls t v w s many p h =
          gave_alike apart most n r below (Bits x) (Bits x) ls t v w refl many (counted_as (ls ++ below) (Bits x ∷ (ls ++ below)) v (λ y. omega (arith, bits_name_none x y)) p) h
      eval_alike c.null n r below ls t v w s many p h =
          gave_alike apart most n r below (Script None) (Script None) ls t v w refl many (counted_as (ls ++ below) (Script None ∷ (ls ++ below)) v (λ y. omega (arith, null_names_none y)) p) h
      eval_alike (c.local i) n r below ls t v w s many p h = loaded_alike apart most n r below i ls t v w many p h
      eval_alike (c.assign i e) n r below ls t v w s many p h =
          assigned_alike apart most n r below i (eval z m calls e ls t v) (eval z m calls e (renamed_all r ls) t w) s.0 (eval_alike e n r below ls t v w s.1 many p h)
      eval_alike (c.change i by e) n r below ls t v w s many p h =
          altered_alike apart most n r below i by (eval z m calls e ls t v) (eval z m calls e (renamed_all r ls) t w) s.0 (eval_alike e n r below ls t v w s.1 many p h)
      eval_alike (c.apply o args) n r below ls t v w s many p h =
          applied_alike apart most z m o s.1 (operand_count args + 0) n r below (eval_all z m calls args [] ls t v) (eval_all z m calls args [] (renamed_all r ls) t w) (all_alike args n r below [] ls t v w s.2 many p h)
      eval_alike (c.call f args outs) n r below ls t v w s many p h =
          let e : operand_count args + 0 ≡ operand_count args = omega arith in
          called_alike (operand_count args) n r below f outs (eval_all z m calls args [] ls t v) (eval_all z m calls args [] (renamed_all r ls) t w) s.0 s.1
          (subst (λ k. ValuesAlike apart most k n r below (eval_all z m calls args [] ls t v) (eval_all z m calls args [] (renamed_all r ls) t w)) e (all_alike args n r below [] ls t v w s.2 many p h))
      eval_alike (c.choose a b d) n r below ls t v w s many p h =
          chosen_alike apart most n r below (eval z m calls b) (eval z m calls d) (eval z m calls a ls t v) (eval z m calls a (renamed_all r ls) t w)
          (λ q ls' t' v' w' many' p' h'. eval_alike b n q below ls' t' v' w' s.1 many' p' h') (λ q ls' t' v' w' many' p' h'. eval_alike d n q below ls' t' v' w' s.2 many' p' h')
          (eval_alike a n r below ls t v w s.0 many p h)

      all_alike : (args : c.Exprs) (n : ℕ) (r : Renaming) (below vs ls : List Slot) (t : ℕ) (v w : World) → AreSoundArgs z m n args → (length ls ≡ n) × (t ≤ most) → IsCounted (vs ++ (ls ++ below)) v → AlikeUpTo apart r v w
          → ValuesAlike apart most (operand_count args + length vs) n r below (eval_all z m calls args vs ls t v) (eval_all z m calls args (renamed_all r vs) (renamed_all r ls) t w)
      all_alike c.none n r below vs ls t v w s many p h = inl (record {
        by = r;
        other = w;
        kept = refl;
        same = refl;
        counted = counted_as (vs ++ (ls ++ below)) ((vs ++ ls) ++ below) v (λ y. omega (arith, many_append y (vs ++ ls) below, many_append y vs ls, many_append y vs (ls ++ below), many_append y ls below)) p;
        alike = h;
        keeps = (omega arith, many);
      })
      all_alike (c.more e rest) n r below vs ls t v w s many p h =
          let count = suc (operand_count rest) + length vs in
          let later : operand_count rest + suc (length vs) ≡ count = omega arith in
          rest_alike apart most count n r below vs (λ x ls' t' w'. eval_all z m calls rest (x ∷ vs) ls' t' w') (λ x ls' t' w'. eval_all z m calls rest (x ∷ renamed_all r vs) ls' t' w')
          (eval z m calls e ls t v) (eval z m calls e (renamed_all r ls) t w)
          (λ q x ls' t' v' w' kept many' p' h'.
          subst (λ l. ValuesAlike apart most count n q below (eval_all z m calls rest (x ∷ vs) ls' t' v') (eval_all z m calls rest (renamed q x ∷ l) (renamed_all q ls') t' w')) kept
          (subst (λ k. ValuesAlike apart most k n q below (eval_all z m calls rest (x ∷ vs) ls' t' v') (eval_all z m calls rest (renamed_all q (x ∷ vs)) (renamed_all q ls') t' w')) later
          (all_alike rest n q below (x ∷ vs) ls' t' v' w' s.1 many' p' h')))
          (eval_alike e n r (vs ++ below) ls t v w s.0 many
          (counted_as (vs ++ (ls ++ below)) (ls ++ (vs ++ below)) v (λ y. omega (arith, many_append y ls (vs ++ below), many_append y vs below, many_append y vs (ls ++ below), many_append y ls below)) p) h)

-- ---- what is at most a is at most b, where a is

reply_keeps_most : (a b k : ℕ) (o : Reply) → a ≤ b → ReplyKeeps a k o → ReplyKeeps b k o
reply_keeps_most a b k (Yields x outs t v) le h = (h.0, omega (arith, le, h.1))
reply_keeps_most a b k (Raises f v) le h = tt

pub reply_most : (apart : Type 0) (a b k : ℕ) (r : Renaming) (below : List Slot) (o p : Reply) → a ≤ b → ReplyAlike apart a k r below o p → ReplyAlike apart b k r below o p
reply_most apart a b k r below o p le h =
    three (λ m. inl (record { by = m.by; other = m.other; kept = m.kept; same = m.same; counted = m.counted; alike = m.alike; keeps = reply_keeps_most a b k o le m.keeps })) (λ l. inr (inl l)) (λ l. inr (inr l)) h

-- What expressions are made of comes to the same in two worlds that are alike, up to the numbers of script objects, or one side was refused for an input of
-- another sort. All that is held elsewhere stands below, and keeps its new numbers.
use Rattle.std.proofs.Common.{◌≡◌, ◌≤◌, ◌<◌, ℕ, zero, suc, inl, inr, List, ◌∷◌, ◌++◌, length, refl, sym, ap, ◌∙◌, subst, arith}
use Rattle.std.specs.Prelude.{◌⊎◌, true}
use Rattle.ang_kinds.specs.declared.fault.Fault.{Fault}
use Rattle.ang_kinds.specs.declared.fault.Fault.TheVariants.{Null as NullFault, Tally}
use Rattle.ang_meaning.specs.declared.slot.Slot.{Slot}
use Rattle.ang_meaning.specs.declared.slot.Slot.TheVariants.{Bits, Script, Host}
use Rattle.ang_meaning.specs.declared.operation.Update.{Update}
use Rattle.ang_meaning.specs.declared.operation.Operation.{Operation}
use Rattle.ang_meaning.specs.Numbers.{Changed, Into, Never}
use Rattle.ang_meaning.specs.World.{World, Tried, Yes, No, or_else, hold, give, give_all}
use Rattle.ang_meaning.specs.Environment.{Environment, is_fit}
use Rattle.ang_meaning.specs.Hosts.{Done, Fine, Fails}
use Rattle.ang_meaning.specs.Perform.{perform, change_of}
use Rattle.ang_meaning.specs.Results.{Evaluated, Gave, Failed, Gathered, Ready, Broke, local_at, local_set, at_zero, loaded, performed, applied, assigned, altered_by, altered, chosen, then_rest}
use Rattle.ang_meaning.specs.Counting.{IsCounted}
use Rattle.ang_meaning.specs.Alike.{Renaming, renamed, renamed_all}
use Rattle.ang_meaning.proofs.Counting.{many_append, bits_name_none}
use Rattle.ang_meaning.proofs.Counted.{TriedCounted, counted_as, counted_there, names_at, store_places, give_counted, give_all_counted, hold_counted, first_there}
use Rattle.ang_meaning.proofs.Operating.{DoneCounted, change_plain, perform_counted}
use Rattle.ang_meaning.proofs.AlikeWorlds.{three, HasMore, TriedLeaves, DoneLeaves, TriedSame, DoneSame, hold_alike, give_alike, give_all_alike}
use Rattle.ang_meaning.proofs.AlikeOperations.{OneAlike, change_renamed, perform_alike}
use Rattle.ang_meaning.proofs.Matching.{AlikeUpTo}
use Rattle.ang_alike.proofs.Renamed.{front_kept, back_kept, at_renamed, set_renamed, more_given, more_gave, length_set}

-- ---- an end as it is under a renaming, in another world

abbrev pub turned_value : Renaming → World → Evaluated → Evaluated
turned_value r w (Gave x ls t v) = Gave (renamed r x) (renamed_all r ls) t w
turned_value r w (Failed f ls v) = Failed f (renamed_all r ls) w

abbrev pub turned_values : Renaming → World → Gathered → Gathered
turned_values r w (Ready vs ls t v) = Ready (renamed_all r vs) (renamed_all r ls) t w
turned_values r w (Broke f ls v) = Broke f (renamed_all r ls) w

-- the values that it leaves in flight, the locals, and the world
abbrev pub value_stack : Evaluated → List Slot
value_stack (Gave x ls t v) = x ∷ ls
value_stack (Failed f ls v) = ls

abbrev pub values_stack : Gathered → List Slot
values_stack (Ready vs ls t v) = vs ++ ls
values_stack (Broke f ls v) = ls

abbrev pub value_world : Evaluated → World
value_world (Gave x ls t v) = v
value_world (Failed f ls v) = v

abbrev pub values_world : Gathered → World
values_world (Ready vs ls t v) = v
values_world (Broke f ls v) = v

-- n locals are alive after it, and at most `most` ticks are left
abbrev pub ValueKeeps : ℕ → ℕ → Evaluated → Type 0
ValueKeeps most n (Gave x ls t v) = (length ls ≡ n) × (t ≤ most)
ValueKeeps most n (Failed f ls v) = Unit {0}

-- and there are k values
abbrev pub ValuesKeep : ℕ → ℕ → ℕ → Gathered → Type 0
ValuesKeep most k n (Ready vs ls t v) = (length vs ≡ k) × ((length ls ≡ n) × (t ≤ most))
ValuesKeep most k n (Broke f ls v) = Unit {0}

-- ---- two ends

-- The second is the first one renamed, and what stands below it is so too. All is counted.
pub record Turned {A : Type 0} (turn : Renaming → World → A → A) (stack : A → List Slot) (world : A → World) (Keeps : A → Type 0) (apart : Type 0) (r : Renaming) (below : List Slot) (o p : A) : Type 0 where
  pub by : Renaming
  pub other : World
  pub kept : renamed_all by below ≡ renamed_all r below
  pub same : p ≡ turn by other o
  pub counted : IsCounted (stack o ++ below) (world o)
  pub alike : AlikeUpTo apart by (world o) other
  pub keeps : Keeps o

pub turned_on : {A : Type 0} {turn : Renaming → World → A → A} {stack : A → List Slot} {world : A → World} {Keeps : A → Type 0} (apart : Type 0) (q r : Renaming) (below : List Slot) (o p : A)
    → renamed_all q below ≡ renamed_all r below → Turned turn stack world Keeps apart q below o p → Turned turn stack world Keeps apart r below o p
turned_on apart q r below o p e h = record { by = h.by; other = h.other; kept = h.kept ∙ e; same = h.same; counted = h.counted; alike = h.alike; keeps = h.keeps }

abbrev pub ValueLeaves : Type 0 → Evaluated → Type 0
ValueLeaves apart (Gave x ls t v) = ⊥
ValueLeaves apart (Failed f ls v) = apart × HasMore v

abbrev pub ValuesLeave : Type 0 → Gathered → Type 0
ValuesLeave apart (Ready vs ls t v) = ⊥
ValuesLeave apart (Broke f ls v) = apart × HasMore v

abbrev pub ValueSame : Type 0 → ℕ → ℕ → Renaming → List Slot → Evaluated → Evaluated → Type 0
ValueSame apart most n r below o p = Turned turned_value value_stack value_world (ValueKeeps most n) apart r below o p

abbrev pub ValuesSame : Type 0 → ℕ → ℕ → ℕ → Renaming → List Slot → Gathered → Gathered → Type 0
ValuesSame apart most k n r below o p = Turned turned_values values_stack values_world (ValuesKeep most k n) apart r below o p

-- they are the same, or one of them was refused for an input of another sort
abbrev pub ValueAlike : Type 0 → ℕ → ℕ → Renaming → List Slot → Evaluated → Evaluated → Type 0
ValueAlike apart most n r below o p = ValueSame apart most n r below o p ⊎ (ValueLeaves apart o ⊎ ValueLeaves apart p)

abbrev pub ValuesAlike : Type 0 → ℕ → ℕ → ℕ → Renaming → List Slot → Gathered → Gathered → Type 0
ValuesAlike apart most k n r below o p = ValuesSame apart most k n r below o p ⊎ (ValuesLeave apart o ⊎ ValuesLeave apart p)

module _ (apart : Type 0) (most : ℕ) where
  pub value_on : (n : ℕ) (q r : Renaming) (below : List Slot) (o p : Evaluated) → renamed_all q below ≡ renamed_all r below → ValueAlike apart most n q below o p → ValueAlike apart most n r below o p
  value_on n q r below o p e h = three (λ m. inl (turned_on apart q r below o p e m)) (λ l. inr (inl l)) (λ l. inr (inr l)) h

  pub values_on : (k n : ℕ) (q r : Renaming) (below : List Slot) (o p : Gathered) → renamed_all q below ≡ renamed_all r below → ValuesAlike apart most k n q below o p → ValuesAlike apart most k n r below o p
  values_on k n q r below o p e h = three (λ m. inl (turned_on apart q r below o p e m)) (λ l. inr (inl l)) (λ l. inr (inr l)) h

  -- nothing happens
  pub gave_alike : (n : ℕ) (r : Renaming) (below : List Slot) (x y : Slot) (ls : List Slot) (t : ℕ) (v w : World) → y ≡ renamed r x → (length ls ≡ n) × (t ≤ most) → IsCounted (x ∷ (ls ++ below)) v → AlikeUpTo apart r v w
      → ValueAlike apart most n r below (Gave x ls t v) (Gave y (renamed_all r ls) t w)
  gave_alike n r below x y ls t v w e many p h = inl (record { by = r; other = w; kept = refl; same = ap (λ z. Gave z (renamed_all r ls) t w) e; counted = p; alike = h; keeps = many })

  pub failed_alike : (n : ℕ) (r : Renaming) (below : List Slot) (f : Fault) (ls : List Slot) (v w : World) → IsCounted (ls ++ below) v → AlikeUpTo apart r v w
      → ValueAlike apart most n r below (Failed f ls v) (Failed f (renamed_all r ls) w)
  failed_alike n r below f ls v w p h = inl (record { by = r; other = w; kept = refl; same = refl; counted = p; alike = h; keeps = tt })

  -- ---- locals

  held_same : (n : ℕ) (r : Renaming) (below : List Slot) (x : Slot) (ls : List Slot) (t : ℕ) (o p : Tried) → (length ls ≡ n) × (t ≤ most) → TriedCounted (x ∷ (ls ++ below)) (ls ++ below) o → TriedSame apart r o p
      → ValueAlike apart most n r below (or_else o (λ u. Failed Tally ls u) (λ u. Gave x ls t u)) (or_else p (λ u. Failed Tally (renamed_all r ls) u) (λ u. Gave (renamed r x) (renamed_all r ls) t u))
  held_same n r below x ls t (Yes v) (Yes w) many c h = gave_alike n r below x (renamed r x) ls t v w refl many c h
  held_same n r below x ls t (Yes v) (No w) many c h = absurd h
  held_same n r below x ls t (No v) (Yes w) many c h = absurd h
  held_same n r below x ls t (No v) (No w) many c h = failed_alike n r below Tally ls v w c h

  held_leaves : (x : Slot) (ls : List Slot) (t : ℕ) (o : Tried) → TriedLeaves apart o → ValueLeaves apart (or_else o (λ u. Failed Tally ls u) (λ u. Gave x ls t u))
  held_leaves x ls t (Yes w) h = absurd h
  held_leaves x ls t (No w) h = h

  pub loaded_alike : (n : ℕ) (r : Renaming) (below : List Slot) (i : ℕ) (ls : List Slot) (t : ℕ) (v w : World) → (length ls ≡ n) × (t ≤ most) → IsCounted (ls ++ below) v → AlikeUpTo apart r v w
      → ValueAlike apart most n r below (loaded (local_at ls i) ls t v) (loaded (local_at (renamed_all r ls) i) (renamed_all r ls) t w)
  loaded_alike n r below i ls t v w many p h =
      let x = local_at ls i in
      let c : TriedCounted (x ∷ (ls ++ below)) (ls ++ below) (hold x v) =
      hold_counted x (ls ++ below) v (counted_there x (ls ++ below) v (λ y. omega (arith, names_at y ls i, many_append y ls below)) p).0 p in
      subst (λ y. ValueAlike apart most n r below (loaded x ls t v) (loaded y (renamed_all r ls) t w)) (sym (at_renamed r ls i))
      (three (λ m. held_same n r below x ls t (hold x v) (hold (renamed r x) w) many c m) (λ l. inr (inl (held_leaves x ls t (hold x v) l)))
      (λ l. inr (inr (held_leaves (renamed r x) (renamed_all r ls) t (hold (renamed r x) w) l))) (hold_alike apart r x v w h))

  -- a store
  store_same : (n : ℕ) (r : Renaming) (below : List Slot) (i : ℕ) (x : Slot) (ls : List Slot) (t : ℕ) (o p : Tried) → i < n → (length ls ≡ n) × (t ≤ most) → TriedCounted (x ∷ (x ∷ (ls ++ below))) (x ∷ (ls ++ below)) o → TriedSame apart r o p
      → ValueAlike apart most n r below (or_else o (λ u. Failed Tally ls (give x u)) (λ u. Gave x (local_set ls i x) t (give (local_at ls i) u)))
      (or_else p (λ u. Failed Tally (renamed_all r ls) (give (renamed r x) u)) (λ u. Gave (renamed r x) (local_set (renamed_all r ls) i (renamed r x)) t (give (local_at (renamed_all r ls) i) u)))
  store_same n r below i x ls t (Yes v) (Yes w) lt many c h =
      let old = local_at ls i in
      let set = local_set ls i x in
      inl (record {
        by = r;
        other = give (renamed r old) w;
        kept = refl;
        same = ap (λ l. Gave (renamed r x) l t (give (local_at (renamed_all r ls) i) w)) (set_renamed r ls i x) ∙ ap (λ y. Gave (renamed r x) (renamed_all r set) t (give y w)) (at_renamed r ls i);
        counted = give_counted old (x ∷ (set ++ below)) v (counted_as (x ∷ (x ∷ (ls ++ below))) (old ∷ (x ∷ (set ++ below))) v
            (λ y. omega (arith, store_places y ls i x (omega (arith, lt, many.0)), many_append y ls below, many_append y set below)) c);
        alike = give_alike apart r old v w h;
        keeps = (length_set ls i x ∙ many.0, many.1);
      })
  store_same n r below i x ls t (Yes v) (No w) lt many c h = absurd h
  store_same n r below i x ls t (No v) (Yes w) lt many c h = absurd h
  store_same n r below i x ls t (No v) (No w) lt many c h =
      failed_alike n r below Tally ls (give x v) (give (renamed r x) w) (give_counted x (ls ++ below) v c) (give_alike apart r x v w h)

  store_leaves : (i : ℕ) (x : Slot) (ls : List Slot) (t : ℕ) (o : Tried) → TriedLeaves apart o
      → ValueLeaves apart (or_else o (λ u. Failed Tally ls (give x u)) (λ u. Gave x (local_set ls i x) t (give (local_at ls i) u)))
  store_leaves i x ls t (Yes w) h = absurd h
  store_leaves i x ls t (No w) h = (h.0, more_gave x w h.1)

  assigned_leaves : (i : ℕ) (o : Evaluated) → ValueLeaves apart o → ValueLeaves apart (assigned i o)
  assigned_leaves i (Gave x ls t v) h = absurd h
  assigned_leaves i (Failed f ls v) h = h

  assigned_same : (n : ℕ) (r : Renaming) (below : List Slot) (i : ℕ) (o : Evaluated) (w : World) → i < n → ValueKeeps most n o → IsCounted (value_stack o ++ below) (value_world o) → AlikeUpTo apart r (value_world o) w
      → ValueAlike apart most n r below (assigned i o) (assigned i (turned_value r w o))
  assigned_same n r below i (Gave x ls t v) w lt many p h =
      three (λ m. store_same n r below i x ls t (hold x v) (hold (renamed r x) w) lt many (hold_counted x (x ∷ (ls ++ below)) v (first_there x (ls ++ below) v p).0 p) m)
      (λ l. inr (inl (store_leaves i x ls t (hold x v) l))) (λ l. inr (inr (store_leaves i (renamed r x) (renamed_all r ls) t (hold (renamed r x) w) l))) (hold_alike apart r x v w h)
  assigned_same n r below i (Failed f ls v) w lt many p h = failed_alike n r below f ls v w p h

  pub assigned_alike : (n : ℕ) (r : Renaming) (below : List Slot) (i : ℕ) (o p : Evaluated) → i < n → ValueAlike apart most n r below o p → ValueAlike apart most n r below (assigned i o) (assigned i p)
  assigned_alike n r below i o p lt h =
      three (λ m. value_on n m.by r below (assigned i o) (assigned i p) m.kept (subst (λ e. ValueAlike apart most n m.by below (assigned i o) (assigned i e)) (sym m.same) (assigned_same n m.by below i o m.other lt m.keeps m.counted m.alike)))
      (λ l. inr (inl (assigned_leaves i o l))) (λ l. inr (inr (assigned_leaves i p l))) h

  -- a change
  change_same : (n : ℕ) (r : Renaming) (below : List Slot) (i : ℕ) (c : Update) (q : Changed) (x : Slot) (ls : List Slot) (t : ℕ) (v w : World) → i < n → (length ls ≡ n) × (t ≤ most) → change_of c (local_at ls i) x ≡ q
      → IsCounted (x ∷ (ls ++ below)) v → AlikeUpTo apart r v w → ValueAlike apart most n r below (altered_by i q x ls t v) (altered_by i q (renamed r x) (renamed_all r ls) t w)
  change_same n r below i c (Into a b) x ls t v w lt many e p h =
      let plain = change_plain c (local_at ls i) x a b e in
      let set = local_set ls i (Bits a) in
      inl (record {
        by = r;
        other = w;
        kept = refl;
        same = ap (λ l. Gave (Bits b) l t w) (set_renamed r ls i (Bits a));
        counted = counted_as (x ∷ (ls ++ below)) (Bits b ∷ (set ++ below)) v
            (λ y. omega (arith, store_places y ls i (Bits a) (omega (arith, lt, many.0)), plain.0 y, plain.1 y, bits_name_none a y, bits_name_none b y, many_append y ls below, many_append y set below)) p;
        alike = h;
        keeps = (length_set ls i (Bits a) ∙ many.0, many.1);
      })
  change_same n r below i c (Never f) x ls t v w lt many e p h = failed_alike n r below f ls (give x v) (give (renamed r x) w) (give_counted x (ls ++ below) v p) (give_alike apart r x v w h)

  altered_leaves : (i : ℕ) (c : Update) (o : Evaluated) → ValueLeaves apart o → ValueLeaves apart (altered i c o)
  altered_leaves i c (Gave x ls t v) h = absurd h
  altered_leaves i c (Failed f ls v) h = h

  altered_same : (n : ℕ) (r : Renaming) (below : List Slot) (i : ℕ) (c : Update) (o : Evaluated) (w : World) → i < n → ValueKeeps most n o → IsCounted (value_stack o ++ below) (value_world o) → AlikeUpTo apart r (value_world o) w
      → ValueAlike apart most n r below (altered i c o) (altered i c (turned_value r w o))
  altered_same n r below i c (Gave x ls t v) w lt many p h =
      let q = change_of c (local_at ls i) x in
      subst (λ k. ValueAlike apart most n r below (altered_by i q x ls t v) (altered_by i k (renamed r x) (renamed_all r ls) t w))
      (sym (ap (λ y. change_of c y (renamed r x)) (at_renamed r ls i) ∙ change_renamed r c (local_at ls i) x))
      (change_same n r below i c q x ls t v w lt many refl p h)
  altered_same n r below i c (Failed f ls v) w lt many p h = failed_alike n r below f ls v w p h

  pub altered_alike : (n : ℕ) (r : Renaming) (below : List Slot) (i : ℕ) (c : Update) (o p : Evaluated) → i < n → ValueAlike apart most n r below o p → ValueAlike apart most n r below (altered i c o) (altered i c p)
  altered_alike n r below i c o p lt h =
      three (λ m. value_on n m.by r below (altered i c o) (altered i c p) m.kept (subst (λ e. ValueAlike apart most n m.by below (altered i c o) (altered i c e)) (sym m.same) (altered_same n m.by below i c o m.other lt m.keeps m.counted m.alike)))
      (λ l. inr (inl (altered_leaves i c o l))) (λ l. inr (inr (altered_leaves i c p l))) h

  -- ---- an operation

  done_same : (n : ℕ) (r : Renaming) (below vs ls : List Slot) (t : ℕ) (o p : Done) → (length ls ≡ n) × (t ≤ most) → DoneCounted vs (ls ++ below) o → DoneSame apart r o p
      → ValueAlike apart most n r below (performed o vs ls t) (performed p (renamed_all r vs) (renamed_all r ls) t)
  done_same n r below vs ls t (Fine x v) (Fine y w) many c h = gave_alike n r below x y ls t v w h.0 many c h.1
  done_same n r below vs ls t (Fine x v) (Fails g w) many c h = absurd h
  done_same n r below vs ls t (Fails f v) (Fine y w) many c h = absurd h
  done_same n r below vs ls t (Fails f v) (Fails g w) many c h =
      subst (λ k. ValueAlike apart most n r below (Failed f ls (give_all vs v)) (Failed k (renamed_all r ls) (give_all (renamed_all r vs) w))) (sym h.0)
      (failed_alike n r below f ls (give_all vs v) (give_all (renamed_all r vs) w) (give_all_counted vs (ls ++ below) v c) (give_all_alike apart r vs v w h.1))

  done_leaves : (vs ls : List Slot) (t : ℕ) (o : Done) → DoneLeaves apart o → ValueLeaves apart (performed o vs ls t)
  done_leaves vs ls t (Fine x w) h = absurd h
  done_leaves vs ls t (Fails f w) h = (h.0, more_given vs w h.1)

  performed_alike : (n : ℕ) (r : Renaming) (below vs ls : List Slot) (t : ℕ) (o p : Done) → (length ls ≡ n) × (t ≤ most) → DoneCounted vs (ls ++ below) o → OneAlike apart r (vs ++ (ls ++ below)) o p
      → ValueAlike apart most n r below (performed o vs ls t) (performed p (renamed_all r vs) (renamed_all r ls) t)
  performed_alike n r below vs ls t o p many c x =
      let upper = front_kept x.by r vs (ls ++ below) x.same in
      let lower = back_kept x.by r vs (ls ++ below) x.same in
      subst (λ l. ValueAlike apart most n r below (performed o vs ls t) (performed p l (renamed_all r ls) t)) upper
      (subst (λ l. ValueAlike apart most n r below (performed o vs ls t) (performed p (renamed_all x.by vs) l t)) (front_kept x.by r ls below lower)
      (value_on n x.by r below (performed o vs ls t) (performed p (renamed_all x.by vs) (renamed_all x.by ls) t) (back_kept x.by r ls below lower)
      (three (λ m. done_same n x.by below vs ls t o p many c m) (λ l. inr (inl (done_leaves vs ls t o l))) (λ l. inr (inr (done_leaves (renamed_all x.by vs) (renamed_all x.by ls) t p l))) x.done)))

  module _ (z : Environment) (m : ℕ) (op : Operation) (fit : is_fit z m op ≡ true) where
    applied_leaves : (o : Gathered) → ValuesLeave apart o → ValueLeaves apart (applied (perform z m op) o)
    applied_leaves (Ready vs ls t v) h = absurd h
    applied_leaves (Broke f ls v) h = h

    applied_same : (k n : ℕ) (r : Renaming) (below : List Slot) (o : Gathered) (w : World) → ValuesKeep most k n o → IsCounted (values_stack o ++ below) (values_world o) → AlikeUpTo apart r (values_world o) w
        → ValueAlike apart most n r below (applied (perform z m op) o) (applied (perform z m op) (turned_values r w o))
    applied_same k n r below (Ready vs ls t v) w many p h =
        let c : IsCounted (vs ++ (ls ++ below)) v =
        counted_as ((vs ++ ls) ++ below) (vs ++ (ls ++ below)) v (λ y. omega (arith, many_append y (vs ++ ls) below, many_append y vs ls, many_append y vs (ls ++ below), many_append y ls below)) p in
        performed_alike n r below vs ls t (perform z m op vs v) (perform z m op (renamed_all r vs) w) many.1 (perform_counted z m op vs (ls ++ below) v fit c) (perform_alike apart r z m (vs ++ (ls ++ below)) v w c h op vs)
    applied_same k n r below (Broke f ls v) w many p h = failed_alike n r below f ls v w p h

    pub applied_alike : (k n : ℕ) (r : Renaming) (below : List Slot) (o p : Gathered) → ValuesAlike apart most k n r below o p → ValueAlike apart most n r below (applied (perform z m op) o) (applied (perform z m op) p)
    applied_alike k n r below o p h =
        three (λ q. value_on n q.by r below (applied (perform z m op) o) (applied (perform z m op) p) q.kept
        (subst (λ e. ValueAlike apart most n q.by below (applied (perform z m op) o) (applied (perform z m op) e)) (sym q.same) (applied_same k n q.by below o q.other q.keeps q.counted q.alike)))
        (λ l. inr (inl (applied_leaves o l))) (λ l. inr (inr (applied_leaves p l))) h

  -- ---- a choice

  -- from locals of this number, in whatever worlds that are alike
  abbrev pub ValueGoes : ℕ → List Slot → (List Slot → ℕ → World → Evaluated) → Type 0
  ValueGoes n below go = (r : Renaming) (ls : List Slot) (t : ℕ) (v w : World) → (length ls ≡ n) × (t ≤ most) → IsCounted (ls ++ below) v → AlikeUpTo apart r v w → ValueAlike apart most n r below (go ls t v) (go (renamed_all r ls) t w)

  zero_alike : (x n : ℕ) (r : Renaming) (below : List Slot) (a b c d : Evaluated) → ValueAlike apart most n r below a c → ValueAlike apart most n r below b d → ValueAlike apart most n r below (at_zero x a b) (at_zero x c d)
  zero_alike zero n r below a b c d h k = h
  zero_alike (suc x) n r below a b c d h k = k

  chosen_leaves : (one two : List Slot → ℕ → World → Evaluated) (o : Evaluated) → ValueLeaves apart o → ValueLeaves apart (chosen o one two)
  chosen_leaves one two (Gave x ls t v) h = absurd h
  chosen_leaves one two (Failed f ls v) h = h

  test_fails : (n : ℕ) (r : Renaming) (below : List Slot) (x : Slot) (ls : List Slot) (v w : World) → IsCounted (x ∷ (ls ++ below)) v → AlikeUpTo apart r v w
      → ValueAlike apart most n r below (Failed NullFault ls (give x v)) (Failed NullFault (renamed_all r ls) (give (renamed r x) w))
  test_fails n r below x ls v w p h = failed_alike n r below NullFault ls (give x v) (give (renamed r x) w) (give_counted x (ls ++ below) v p) (give_alike apart r x v w h)

  chosen_same : (n : ℕ) (r : Renaming) (below : List Slot) (one two : List Slot → ℕ → World → Evaluated) (o : Evaluated) (w : World) → ValueGoes n below one → ValueGoes n below two
      → ValueKeeps most n o → IsCounted (value_stack o ++ below) (value_world o) → AlikeUpTo apart r (value_world o) w → ValueAlike apart most n r below (chosen o one two) (chosen (turned_value r w o) one two)
  chosen_same n r below one two (Gave (Bits x) ls t v) w a b many p h =
      let c : IsCounted (ls ++ below) v = counted_as (Bits x ∷ (ls ++ below)) (ls ++ below) v (λ y. omega (arith, bits_name_none x y)) p in
      zero_alike x n r below (two ls t v) (one ls t v) (two (renamed_all r ls) t w) (one (renamed_all r ls) t w) (b r ls t v w many c h) (a r ls t v w many c h)
  chosen_same n r below one two (Gave (Script k) ls t v) w a b many p h = test_fails n r below (Script k) ls v w p h
  chosen_same n r below one two (Gave (Host d k) ls t v) w a b many p h = test_fails n r below (Host d k) ls v w p h
  chosen_same n r below one two (Failed f ls v) w a b many p h = failed_alike n r below f ls v w p h

  pub chosen_alike : (n : ℕ) (r : Renaming) (below : List Slot) (one two : List Slot → ℕ → World → Evaluated) (o p : Evaluated) → ValueGoes n below one → ValueGoes n below two
      → ValueAlike apart most n r below o p → ValueAlike apart most n r below (chosen o one two) (chosen p one two)
  chosen_alike n r below one two o p a b h =
      three (λ m. value_on n m.by r below (chosen o one two) (chosen p one two) m.kept
      (subst (λ e. ValueAlike apart most n m.by below (chosen o one two) (chosen e one two)) (sym m.same) (chosen_same n m.by below one two o m.other a b m.keeps m.counted m.alike)))
      (λ l. inr (inl (chosen_leaves one two o l))) (λ l. inr (inr (chosen_leaves one two p l))) h

  -- ---- values in turn

  rest_leaves : (vs : List Slot) (go : Slot → List Slot → ℕ → World → Gathered) (o : Evaluated) → ValueLeaves apart o → ValuesLeave apart (then_rest vs o go)
  rest_leaves vs go (Gave x ls t v) h = absurd h
  rest_leaves vs go (Failed f ls v) h = (h.0, more_given vs v h.1)

  -- what follows a value, where these are in flight already
  abbrev pub RestGoes : ℕ → ℕ → Renaming → List Slot → List Slot → (go on : Slot → List Slot → ℕ → World → Gathered) → Type 0
  RestGoes k n r below vs go on = (q : Renaming) (x : Slot) (ls : List Slot) (t : ℕ) (v w : World) → renamed_all q vs ≡ renamed_all r vs → (length ls ≡ n) × (t ≤ most) → IsCounted ((x ∷ vs) ++ (ls ++ below)) v → AlikeUpTo apart q v w
      → ValuesAlike apart most k n q below (go x ls t v) (on (renamed q x) (renamed_all q ls) t w)

  rest_same : (k n : ℕ) (q r : Renaming) (below vs : List Slot) (go on : Slot → List Slot → ℕ → World → Gathered) (o : Evaluated) (w : World) → RestGoes k n r below vs go on → renamed_all q vs ≡ renamed_all r vs
      → ValueKeeps most n o → IsCounted (value_stack o ++ (vs ++ below)) (value_world o) → AlikeUpTo apart q (value_world o) w → ValuesAlike apart most k n q below (then_rest vs o go) (then_rest (renamed_all r vs) (turned_value q w o) on)
  rest_same k n q r below vs go on (Gave x ls t v) w next e many p h =
      next q x ls t v w e many
      (counted_as (x ∷ (ls ++ (vs ++ below))) (x ∷ (vs ++ (ls ++ below))) v (λ y. omega (arith, many_append y ls (vs ++ below), many_append y vs below, many_append y vs (ls ++ below), many_append y ls below)) p) h
  rest_same k n q r below vs go on (Failed f ls v) w next e many p h =
      subst (λ l. ValuesAlike apart most k n q below (Broke f ls (give_all vs v)) (Broke f (renamed_all q ls) (give_all l w))) e
      (inl (record {
        by = q;
        other = give_all (renamed_all q vs) w;
        kept = refl;
        same = refl;
        counted = give_all_counted vs (ls ++ below) v (counted_as (ls ++ (vs ++ below)) (vs ++ (ls ++ below)) v (λ y. omega (arith, many_append y ls (vs ++ below), many_append y vs below, many_append y vs (ls ++ below), many_append y ls below)) p);
        alike = give_all_alike apart q vs v w h;
        keeps = tt;
      }))

  pub rest_alike : (k n : ℕ) (r : Renaming) (below vs : List Slot) (go on : Slot → List Slot → ℕ → World → Gathered) (o p : Evaluated) → RestGoes k n r below vs go on
      → ValueAlike apart most n r (vs ++ below) o p → ValuesAlike apart most k n r below (then_rest vs o go) (then_rest (renamed_all r vs) p on)
  rest_alike k n r below vs go on o p next h =
      three (λ m. values_on k n m.by r below (then_rest vs o go) (then_rest (renamed_all r vs) p on) (back_kept m.by r vs below m.kept)
      (subst (λ e. ValuesAlike apart most k n m.by below (then_rest vs o go) (then_rest (renamed_all r vs) e on)) (sym m.same)
      (rest_same k n m.by r below vs go on o m.other next (front_kept m.by r vs below m.kept) m.keeps m.counted m.alike)))
      (λ l. inr (inl (rest_leaves vs go o l))) (λ l. inr (inr (rest_leaves (renamed_all r vs) on p l))) h

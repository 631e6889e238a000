-- Ranks fall along fields, and each object is held, whatever is held and given up.
use Rattle.std.proofs.Common.{◌≡◌, ℕ, zero, suc, ◌<◌, List, [], ◌∷◌, Option, Some, None, refl, sym, ap, ◌∙◌, subst, unwrap_or, arith}
use Rattle.std.specs.Prelude.{Bool, true, false, cond, nat_eq}
use Rattle.std.specs.FinMap as map
use Rattle.std.proofs.lemmas.Bool.{eqb-true}
use Rattle.ang_meaning.specs.declared.slot.Slot.{Slot}
use Rattle.ang_meaning.specs.declared.slot.Slot.TheVariants.{Bits, Script, Host}
use Rattle.ang_meaning.specs.World.{World, ScriptRecord, ScriptObjects, raised_at, script_raised, one_more, Lowered, Gone, Kept, one_less, lowered_at, script_lowered, each_given, script_given, given, give}
use Rattle.ang_meaning.specs.Counting.{IsBelow, AreBelow, AreSoundObjects}
use Rattle.ang_meaning.proofs.Tables.{get_inserted, get_without}
use Rattle.ang_meaning.proofs.Counting.{left_of}

-- an object of a later table was in the earlier one, with the same rank and fields
pub record Was (os : ScriptObjects) (n : ℕ) (o : ScriptRecord) : Type 0 where
  pub old : ScriptRecord
  pub there : map.get os n ≡ Some old
  pub rank : old.rank ≡ o.rank
  pub fields : old.fields ≡ o.fields

pub record Stems (os later : ScriptObjects) : Type 0 where
  pub was : (n : ℕ) (o : ScriptRecord) → map.get later n ≡ Some o → Was os n o
  pub alive : (n : ℕ) (o : ScriptRecord) → map.get later n ≡ Some o → 0 < o.count

-- no rank has changed
abbrev pub AreRanked : ScriptObjects → ScriptObjects → Type 0
AreRanked os later = (n : ℕ) (o : ScriptRecord) → map.get later n ≡ Some o → (old : ScriptRecord) × (map.get os n ≡ Some old) × (old.rank ≡ o.rank)

pub stems_ranked : (os later : ScriptObjects) → Stems os later → AreRanked os later
stems_ranked os later h n o g = let q = h.was n o g in (q.old, q.there, q.rank)

pub still_below : (os later : ScriptObjects) (r : ℕ) (v : Slot) → AreRanked os later → IsBelow os r v → IsBelow later r v
still_below os later r (Bits n) h p = tt
still_below os later r (Script None) h p = tt
still_below os later r (Script (Some n)) h p = λ o g. let q = h n o g in omega (arith, p q.0 q.1, q.2)
still_below os later r (Host d k) h p = tt

pub all_still_below : (os later : ScriptObjects) (r : ℕ) (vs : List Slot) → AreRanked os later → AreBelow os r vs → AreBelow later r vs
all_still_below os later r [] h p = tt
all_still_below os later r (v ∷ vs) h p = (still_below os later r v h p.0, all_still_below os later r vs h p.1)

pub stems_ordered : (os later : ScriptObjects) → Stems os later → AreSoundObjects os → AreSoundObjects later
stems_ordered os later h p = record {
  alive = h.alive;
  falls = λ n o g. let q = h.was n o g in
      subst (λ r. AreBelow later r o.fields) q.rank (subst (λ vs. AreBelow later q.old.rank vs) q.fields (all_still_below os later q.old.rank q.old.fields (stems_ranked os later h) (p.falls n q.old q.there)));
}

pub stems_same : (os : ScriptObjects) → AreSoundObjects os → Stems os os
stems_same os p = record { was = λ n o g. record { old = o; there = g; rank = refl; fields = refl }; alive = p.alive }

-- another count
replaced_at : (b : Bool) (os : ScriptObjects) (n q : ℕ) (o r p : ScriptRecord) → nat_eq n q ≡ b → map.get os n ≡ Some o → o.rank ≡ r.rank → o.fields ≡ r.fields
    → cond b (Some r) (map.get os q) ≡ Some p → Was os q p
replaced_at true os n q o r p t g a f e =
    let s : r ≡ p = ap (λ x. unwrap_or x r) e in
    record { old = o; there = ap (map.get os) (sym (eqb-true n q t)) ∙ g; rank = a ∙ ap (λ x. x.rank) s; fields = f ∙ ap (λ x. x.fields) s }
replaced_at false os n q o r p t g a f e = record { old = p; there = e; rank = refl; fields = refl }

replaced_alive : (b : Bool) (os : ScriptObjects) (q : ℕ) (r p : ScriptRecord) → AreSoundObjects os → 0 < r.count → cond b (Some r) (map.get os q) ≡ Some p → 0 < p.count
replaced_alive true os q r p h lt e = let s : r ≡ p = ap (λ x. unwrap_or x r) e in subst (λ x. 0 < x.count) s lt
replaced_alive false os q r p h lt e = h.alive q p e

pub stems_replaced : (os : ScriptObjects) (n : ℕ) (o r : ScriptRecord) → AreSoundObjects os → map.get os n ≡ Some o → o.rank ≡ r.rank → o.fields ≡ r.fields → 0 < r.count → Stems os (map.insert os n r)
stems_replaced os n o r h g a f lt = record {
  was = λ q p e. replaced_at (nat_eq n q) os n q o r p refl g a f (sym (get_inserted os n q r) ∙ e);
  alive = λ q p e. replaced_alive (nat_eq n q) os q r p h lt (sym (get_inserted os n q r) ∙ e);
}

kept_at : (b : Bool) (o : Option ScriptRecord) (p : ScriptRecord) → cond b None o ≡ Some p → o ≡ Some p
kept_at true o p e = absurd (let x : ⊥ = cc in x)
kept_at false o p e = e

stems_removed : (os : ScriptObjects) (n : ℕ) → AreSoundObjects os → Stems os (map.remove os n)
stems_removed os n h = record {
  was = λ q p e. record { old = p; there = kept_at (nat_eq n q) (map.get os q) p (sym (get_without os n q) ∙ e); rank = refl; fields = refl };
  alive = λ q p e. h.alive q p (kept_at (nat_eq n q) (map.get os q) p (sym (get_without os n q) ∙ e));
}

raised_stems : (n : ℕ) (o : Option ScriptRecord) (os : ScriptObjects) → AreSoundObjects os → map.get os n ≡ o → Stems os (raised_at n o os)
raised_stems n None os h g = stems_same os h
raised_stems n (Some o) os h g = stems_replaced os n o (record o { count = suc o.count }) h g refl refl (omega arith)

pub more_stems : (v : Slot) (w : World) → AreSoundObjects w.objects → Stems w.objects (one_more v w).objects
unfolding one_more script_raised
more_stems (Bits n) w h = stems_same w.objects h
more_stems (Script None) w h = stems_same w.objects h
more_stems (Script (Some n)) w h = raised_stems n (map.get w.objects n) w.objects h refl
more_stems (Host d None) w h = stems_same w.objects h
more_stems (Host d (Some k)) w h = stems_same w.objects h

less_stems : (n : ℕ) (o : ScriptRecord) (c : ℕ) (os : ScriptObjects) → AreSoundObjects os → map.get os n ≡ Some o → Stems os (left_of (one_less n o c os))
less_stems n o zero os h g = stems_removed os n h
less_stems n o (suc zero) os h g = stems_removed os n h
less_stems n o (suc (suc c)) os h g = stems_replaced os n o (record o { count = suc c }) h g refl refl (omega arith)

lower_stems : (n : ℕ) (o : Option ScriptRecord) (os : ScriptObjects) → AreSoundObjects os → map.get os n ≡ o → Stems os (left_of (lowered_at n o os))
lower_stems n None os h g = stems_same os h
lower_stems n (Some o) os h g = less_stems n o o.count os h g

abbrev KeepsOrder : (Slot → World → World) → Type 0
KeepsOrder go = (v : Slot) (w : World) → AreSoundObjects w.objects → AreSoundObjects (go v w).objects

each_ordered : (go : Slot → World → World) → KeepsOrder go → (vs : List Slot) (w : World) → AreSoundObjects w.objects → AreSoundObjects (each_given go vs w).objects
each_ordered go h [] w p = p
each_ordered go h (v ∷ vs) w p = each_ordered go h vs (go v w) (h v w p)

script_ordered : (go : Slot → World → World) → KeepsOrder go → (l : Lowered) (w : World) → AreSoundObjects (left_of l) → AreSoundObjects (script_given go l w).objects
script_ordered go h (Kept os) w p = p
script_ordered go h (Gone vs os) w p = each_ordered go h vs (record w { objects = os }) p

given_ordered : (n : ℕ) (v : Slot) (w : World) → AreSoundObjects w.objects → AreSoundObjects (given n v w).objects
unfolding given script_lowered
given_ordered n (Bits x) w p = p
given_ordered n (Script None) w p = p
given_ordered n (Host d None) w p = p
given_ordered n (Host d (Some k)) w p = p
given_ordered zero (Script (Some k)) w p = p
given_ordered (suc n) (Script (Some k)) w p =
    let l = lowered_at k (map.get w.objects k) w.objects in
    script_ordered (given n) (given_ordered n) l w (stems_ordered w.objects (left_of l) (lower_stems k (map.get w.objects k) w.objects p refl) p)

pub give_ordered : (v : Slot) (w : World) → AreSoundObjects w.objects → AreSoundObjects (give v w).objects
unfolding give
give_ordered v w p = given_ordered (map.len w.objects) v w p

pub more_ordered : (v : Slot) (w : World) → AreSoundObjects w.objects → AreSoundObjects (one_more v w).objects
more_ordered v w p = stems_ordered w.objects (one_more v w).objects (more_stems v w p) p

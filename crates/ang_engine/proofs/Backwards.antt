-- Values given up one after the other, the last one first.
use Rattle.std.proofs.Common.{◌≡◌, ℕ, zero, suc, ◌-◌, ◌<◌, ◌≤◌, List, [], ◌∷◌, ◌++◌, length, take, refl, ap, ◌∙◌, subst, arith}
use Rattle.std.specs.Prelude.{slice_index_or}
use Rattle.std.proofs.Math.Seq.{take-suc}
use Rattle.ang_meaning.specs.declared.slot.Slot.{Slot}
use Rattle.ang_meaning.specs.World.{World, ScriptObjects, HostCounts, give}
use Rattle.ang_meaning.specs.Results.{give_back}
use Rattle.ang_meaning.specs.Counting.{how_many, EnoughIn, CanGive}
use Rattle.ang_meaning.proofs.Counting.{many_append}
use Rattle.ang_meaning.proofs.Enough.{enough_as, give_can}
use Rattle.ang_engine_modules.specs.World.{globals_ended, all_ended}
use Rattle.ang_engine.proofs.GlobalsEnd.{back_last}

-- the last of the first n
pub last_of : {A : Type 0} (vs : List A) (n : ℕ) (d : A) → 0 < n → n ≤ length vs → take n vs ≡ take (n - 1) vs ++ slice_index_or vs (n - 1) d ∷ []
last_of vs n d some within =
    let next : n ≡ suc (n - 1) = omega (arith, some) in
    ap (λ k. take k vs) next ∙ take-suc vs (n - 1) d (omega (arith, some, within))

-- none are left of the first n
pub none_of : (vs : List Slot) (n : ℕ) (w : World) → n ≤ 0 → give_back (take n vs) w ≡ w
none_of vs zero w h = refl
none_of vs (suc n) w h = absurd (omega (arith, h))

pub back_turn : (vs : List Slot) (n : ℕ) (v : Slot) (w0 w w1 : World) → take n vs ≡ take (n - 1) vs ++ v ∷ [] → give_back vs w0 ≡ give_back (take n vs) w → give v w ≡ w1
    → give_back vs w0 ≡ give_back (take (n - 1) vs) w1
back_turn vs n v w0 w w1 e p q = p ∙ ap (λ l. give_back l w) e ∙ back_last (take (n - 1) vs) v w ∙ ap (give_back (take (n - 1) vs)) q

pub last_can : (vs us : List Slot) (v : Slot) (os : ScriptObjects) (hs : HostCounts) → us ≡ vs ++ v ∷ [] → EnoughIn us os hs → EnoughIn (v ∷ []) os hs
last_can vs us v os hs e p = enough_as us (v ∷ []) os hs (λ x. omega (arith, ap (how_many x) e, many_append x vs (v ∷ []))) p

pub others_can : (vs us : List Slot) (v : Slot) (w w1 : World) → us ≡ vs ++ v ∷ [] → CanGive us w → give v w ≡ w1 → CanGive vs w1
others_can vs us v w w1 e p q =
    subst (λ u. CanGive vs u) q (give_can v vs w (enough_as us (v ∷ vs) w.objects w.hosts (λ x. omega (arith, ap (how_many x) e, many_append x vs (v ∷ []))) p))

-- ---- modules whose globals end, the last one first

-- the last of the first n modules ends first
pub turn_ends : (is : List ℕ) (n i : ℕ) (w u : World) → take n is ≡ take (n - 1) is ++ i ∷ [] → globals_ended i w ≡ u → all_ended (take n is) w ≡ all_ended (take (n - 1) is) u
turn_ends is n i w u e ends = ap (λ l. all_ended l w) e ∙ ended_last (take (n - 1) is) i w ∙ ap (all_ended (take (n - 1) is)) ends
  where
    ended_last : (js : List ℕ) (i : ℕ) (w : World) → all_ended (js ++ i ∷ []) w ≡ all_ended js (globals_ended i w)
    ended_last [] i w = refl
    ended_last (j ∷ js) i w = ap (globals_ended j) (ended_last js i w)

pub none_ends : (is : List ℕ) (n : ℕ) (w : World) → n ≤ 0 → all_ended (take n is) w ≡ w
none_ends is zero w le = refl
none_ends is (suc n) w le = absurd (omega (arith, le))

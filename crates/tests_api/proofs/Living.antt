-- Keys that are live after a call.
use Rattle.std.specs.Prelude.{ℕ, ◌+◌, ◌≡◌, ◌&&◌, Bool, true, false, cond, Option, Some, None, List, [], ◌∷◌}
use Rattle.std.specs.List.{list_all}
use Rattle.std.specs.Ordering.{nat_cmp}
use Rattle.std.specs.FinMap as map
use Rattle.std.specs.FinMap.{get-insert}
use Rattle.std.proofs.lemmas.Cmp.{nat_cmp_total}
use Rattle.std.proofs.Common.{refl, ◌∙◌, ap}
use Rattle.std.proofs.lemmas.Bool.{eq-eqb}
use Rattle.ang_host.specs.declared.answer.Made.TheVariants.{Key as MadeKey}
use Rattle.ang_host.specs.declared.answer.Answer.{Answer}
use Rattle.ang_host.specs.State.{State, Ask}
use Rattle.ang_kinds.specs.declared.value.Value.{Value}
use Rattle.ang_kinds.specs.declared.value.Value.TheVariants.{Int, Uint, Bool as BoolValue, Key}
use Rattle.ang_host.specs.Laws.{Fits, IsLive, IsLiveOption, IsLiveValue, AreLive, Answered, WasMade, WasAdded, WasReleased}
use Rattle.tests_api.specs.Bare.{is_bare}
use Rattle.ang_host.proofs.Counts.{Answers-counts}
use Rattle.ang_host.proofs.Steps.{same_test}

get_here : (m : map.FinMap nat_cmp ℕ) (k v : ℕ) → map.get (map.insert m k v) k ≡ Some v
get_here m k v = get-insert nat_cmp_total m k v k ∙ ap (λ b. cond b (Some v) (map.get m k)) (same_test k k ∙ eq-eqb k k refl)

pub live_made : (fits : Fits) (s t : State) (a : Ask) (k : ℕ) → WasMade fits s a (MadeKey k) t → IsLive t k
live_made fits s t a k h = (1, ap (λ m. map.get m k) h.moved.1 ∙ get_here s.counts k 1)

pub live_answered : (fits : Fits) (s t : State) (a : Ask) (r : Answer) (k : ℕ) → Answered fits s a r t → IsLive s k → IsLive t k
live_answered fits s t a r k h live = (live.0, ap (λ m. map.get m k) (Answers-counts fits s t a r h.moved) ∙ live.1)

pub live_added : (s t : State) (k : ℕ) → WasAdded s k true t → IsLive t k
live_added s t k h = (h.moved.0 + 1, ap (λ m. map.get m k) h.moved.2 ∙ get_here s.counts k (h.moved.0 + 1))

pub live_released : (fits : Fits) (s t : State) (k : ℕ) → WasReleased fits s k false t → IsLive t k
live_released fits s t k h = (h.moved.0 + 1, ap (λ m. map.get m k) h.moved.2 ∙ get_here s.counts k (h.moved.0 + 1))

-- an object that lives, or none, after a host call
pub still_live : (fits : Fits) (s t : State) (a : Ask) (r : Answer) (o : Option ℕ) → Answered fits s a r t → IsLiveOption s o → IsLiveOption t o
still_live fits s t a r None h live = live
still_live fits s t a r (Some k) h live = live_answered fits s t a r k h live

-- ---- values without objects

both : (a b : Bool) → a && b ≡ true → (a ≡ true) × (b ≡ true)
both true b h = (refl, h)
both false b h = cc

pub live_bare : (s : State) (v : Value) → is_bare v ≡ true → IsLiveValue s v
live_bare s (Int n) h = tt
live_bare s (Uint n) h = tt
live_bare s (BoolValue b) h = tt
live_bare s (Key None) h = tt
live_bare s (Key (Some k)) h = cc

pub all_live : (s : State) (vs : List Value) → list_all is_bare vs ≡ true → AreLive s vs
all_live s [] h = tt
all_live s (v ∷ vs) h = let p = both (is_bare v) (list_all is_bare vs) h in (live_bare s v p.0, all_live s vs p.1)

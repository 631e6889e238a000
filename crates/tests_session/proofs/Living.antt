-- Keys that are live after a call.
use Rattle.std.specs.Prelude.{ℕ, ◌+◌, ◌≡◌, true, false, cond, Some}
use Rattle.std.specs.Ordering.{nat_cmp}
use Rattle.std.specs.FinMap as map
use Rattle.std.proofs.Common.{refl, ◌∙◌, ap}
use Rattle.std.proofs.lemmas.Bool.{eq-eqb}
use Rattle.ang_host.specs.declared.answer.Made.TheVariants.{Key as MadeKey}
use Rattle.ang_host.specs.declared.answer.Answer.{Answer}
use Rattle.ang_host.specs.State.{State, Ask}
use Rattle.ang_host.specs.Laws.{Fits, IsLive, Answered, WasMade, WasAdded, WasReleased}
use Rattle.ang_host.proofs.Counts.{Answers-counts}
use Rattle.ang_drivers.proofs.Ledgers.{get_inserted}

get_here : (m : map.FinMap nat_cmp ℕ) (k v : ℕ) → map.get (map.insert m k v) k ≡ Some v
get_here m k v = get_inserted m k k v ∙ ap (λ b. cond b (Some v) (map.get m k)) (eq-eqb k k refl)

pub live_made : (fits : Fits) (s t : State) (a : Ask) (k : ℕ) → WasMade fits s a (MadeKey k) t → IsLive t k
live_made fits s t a k h = (1, ap (λ m. map.get m k) h.moved.1 ∙ get_here s.counts k 1)

pub live_answered : (fits : Fits) (s t : State) (a : Ask) (r : Answer) (k : ℕ) → Answered fits s a r t → IsLive s k → IsLive t k
live_answered fits s t a r k h live = (live.0, ap (λ m. map.get m k) (Answers-counts fits s t a r h.moved) ∙ live.1)

pub live_added : (s t : State) (k : ℕ) → WasAdded s k true t → IsLive t k
live_added s t k h = (h.moved.0 + 1, ap (λ m. map.get m k) h.moved.2 ∙ get_here s.counts k (h.moved.0 + 1))

pub live_released : (fits : Fits) (s t : State) (k : ℕ) → WasReleased fits s k false t → IsLive t k
live_released fits s t k h = (h.moved.0 + 1, ap (λ m. map.get m k) h.moved.2 ∙ get_here s.counts k (h.moved.0 + 1))

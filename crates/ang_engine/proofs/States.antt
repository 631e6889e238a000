-- Facts of each state of a list of drivers.
use Rattle.std.proofs.Common.{◌≡◌, ℕ, zero, suc, ◌<◌, refl, sym, ap, ◌∙◌, List, [], ◌∷◌, length, arith, All, Option, Some, None}
use Rattle.std.specs.FinMap as map
use Rattle.std.specs.FinMap.{get-empty, len-empty, same_map, nat_cmp-IsAntisymmetric}
use Rattle.std.specs.Ordering.{nat_cmp}
use Rattle.std.proofs.lemmas.Cmp.{nat_cmp_total}
use Rattle.std.proofs.lemmas.List.Elements.{All-cons}
use Rattle.ang_host.specs.State.{State, count_of}
use Rattle.ang_host.specs.Laws.{IsSound}
use Rattle.ang_host.specs.Members.{state_at, AreFresh}
use Rattle.ang_host.specs.Counts.{IsBalanced}
use Rattle.ang_meaning.specs.Counting.{counts_by}
use Rattle.ang_heap.specs.Parts.{live_in, AreReady}

pub All-state_at : (P : State → Type 0) (ss : List State) → ((i : ℕ) → i < length ss → P (state_at ss i)) → All P ss
All-state_at P [] h = λ i d lt. absurd (omega arith)
All-state_at P (s ∷ ss) h = All-cons P s ss (h 0 (omega arith)) (All-state_at P ss (λ i lt. h (suc i) (omega arith)))

none_option : (o : Option ℕ) → ((n : ℕ) → o ≡ Some n → 0 < n) → count_of o ≡ 0 → o ≡ None
none_option None p h = refl
none_option (Some n) p h = absurd (omega (arith, p n refl, h))

-- a driver that is balanced has no live key
no_keys : (s : State) → IsSound s → IsBalanced s → s.counts ≡ map.empty
no_keys s sound b = same_map nat_cmp_total nat_cmp-IsAntisymmetric s.counts map.empty (λ q. none_option (map.get s.counts q) (sound.positive q) (b.none q) ∙ sym (get-empty nat_cmp q))

pub fresh_balanced : (ss : List State) → ((i : ℕ) → i < length ss → IsSound (state_at ss i)) → ((i : ℕ) → i < length ss → IsBalanced (state_at ss i)) → AreFresh ss
fresh_balanced ss sound balanced = record { idle = λ i lt. no_keys (state_at ss i) (sound i lt) (balanced i lt); sound = sound }

-- ---- drivers without live keys

counts_none : (ss : List State) (d : ℕ) → ((i : ℕ) → i < length ss → (state_at ss i).counts ≡ map.empty) → (state_at ss d).counts ≡ map.empty
counts_none [] d h = refl
counts_none (s ∷ ss) zero h = h 0 (omega arith)
counts_none (s ∷ ss) (suc d) h = counts_none ss d (λ i lt. h (suc i) (omega (arith, lt)))

pub counts_fresh : (ss : List State) → AreFresh ss → counts_by ss ≡ λ d. map.empty
counts_fresh ss f = λ j d. counts_none ss d f.idle j

live_none : (ss : List State) → ((i : ℕ) → i < length ss → (state_at ss i).counts ≡ map.empty) → live_in ss ≡ 0
live_none [] h = refl
live_none (s ∷ ss) h = omega (arith, ap map.len (h 0 (omega arith)), len-empty nat_cmp ℕ, live_none ss (λ i lt. h (suc i) (omega (arith, lt))))

pub live_fresh : (ss : List State) → AreFresh ss → live_in ss ≡ 0
live_fresh ss f = live_none ss f.idle

pub ready_fresh : (ss : List State) (capacity : ℕ) → AreFresh ss → AreReady ss 0 capacity
ready_fresh ss capacity f = record { sound = f.sound; room = omega (arith, live_fresh ss f) }

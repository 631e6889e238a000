-- Counts that are read off the drivers: what a driver does is what the world does.
use Rattle.std.proofs.Common.{◌≡◌, ℕ, zero, suc, ◌+◌, ◌<◌, List, [], ◌∷◌, ◌++◌, Some, refl, sym, ap, ◌∙◌, subst, length, arith, get_or-set_other}
use Rattle.std.specs.Prelude.{◌≢◌, Bool, true, false, cond, nat_eq, slice_set}
use Rattle.std.specs.Ordering.{nat_cmp}
use Rattle.std.specs.FinMap as map
use Rattle.std.specs.FinMap.{get-empty}
use Rattle.std.proofs.lemmas.Bool.{eqb-true, eq-eqb}
use Rattle.ang_host.specs.State.{State, Ask, count_of, count_at}
use Rattle.ang_host.specs.Laws.{Fits, Adds, Releases, Makes, IsLive, IsSound}
use Rattle.ang_host.specs.Members.{state_at, nothing}
use Rattle.ang_host.specs.declared.answer.Made.TheVariants.{Key as MadeKey}
use Rattle.ang_host.specs.declared.event.HostEvent.TheVariants.{Ended}
use Rattle.ang_host.specs.Counts.{IsBalanced}
use Rattle.ang_host.proofs.Counts.{IsLive-held, IsBalanced-none}
use Rattle.ang_meaning.specs.declared.slot.Slot.TheVariants.{Host}
use Rattle.ang_meaning.specs.World.{World, host_put, host_raised, host_less, host_lowered, host_given, one_more, give}
use Rattle.ang_meaning.specs.Counting.{Thing, in_lists, IsCounted, counts_by}
use Rattle.ang_meaning.proofs.Roots.{no_roots}
use Rattle.ang_meaning.proofs.Giving.{give_key}

put_at : (b : Bool) (ss ts : List State) (i e : ℕ) (m : map.FinMap nat_cmp ℕ) → nat_eq i e ≡ b → ts ≡ slice_set ss i (state_at ts i) → (state_at ts i).counts ≡ m
    → (state_at ts e).counts ≡ cond b m (state_at ss e).counts
put_at true ss ts i e m t h c = ap (λ q. (state_at ts q).counts) (sym (eqb-true i e t)) ∙ c
put_at false ss ts i e m t h c =
    let ne : e ≢ i = λ x. let y : true ≡ false = sym (eq-eqb i e (sym x)) ∙ t in cc in
    ap (λ us. (state_at us e).counts) h ∙ ap (λ s. s.counts) (get_or-set_other ss i e (state_at ts i) nothing ne)

-- one driver moves, and the others stay
pub counts_put : (ss ts : List State) (i : ℕ) (m : map.FinMap nat_cmp ℕ) → ts ≡ slice_set ss i (state_at ts i) → (state_at ts i).counts ≡ m → counts_by ts ≡ host_put i m (counts_by ss)
counts_put ss ts i m h c = λ j e. put_at (nat_eq i e) ss ts i e m refl h c j

pub counts_added : (ss ts : List State) (i k : ℕ) → ts ≡ slice_set ss i (state_at ts i) → Adds (state_at ss i) k true (state_at ts i) → counts_by ts ≡ host_raised i k (counts_by ss)
unfolding host_raised
counts_added ss ts i k h a =
    let n : a.0 + 1 ≡ suc (count_at (state_at ss i).counts k) = omega (arith, ap count_of a.1) in
    counts_put ss ts i _ h (a.2 ∙ ap (map.insert (state_at ss i).counts k) n)

pub counts_made : (fits : Fits) (ss ts : List State) (i k : ℕ) (q : Ask) → ts ≡ slice_set ss i (state_at ts i) → Makes fits (state_at ss i) q (MadeKey k) (state_at ts i) → counts_by ts ≡ host_raised i k (counts_by ss)
unfolding host_raised
counts_made fits ss ts i k q h a =
    let n : 1 ≡ suc (count_at (state_at ss i).counts k) = omega (arith, ap count_of a.0) in
    counts_put ss ts i _ h (a.1 ∙ ap (map.insert (state_at ss i).counts k) n)

-- a release: the world after it, where its hosts are read off the drivers
pub world_released : (fits : Fits) (ss ts : List State) (i k : ℕ) (b : Bool) (w : World) → w.hosts ≡ counts_by ss → ts ≡ slice_set ss i (state_at ts i) → Releases fits (state_at ss i) k b (state_at ts i)
    → give (Host i (Some k)) w ≡ record w { hosts = counts_by ts; events = cond b (w.events ++ Ended i k ∷ []) w.events }
unfolding host_lowered
world_released fits ss ts i k true w hs h r =
    let g : map.get (w.hosts i) k ≡ Some 1 = ap (λ q. map.get (q i) k) hs ∙ r.0 in
    let p : counts_by ts ≡ host_put i (map.remove (w.hosts i) k) w.hosts = counts_put ss ts i _ h (r.1) ∙ ap (λ q. host_put i (map.remove (q i) k) q) (sym hs) in
    give_key i k w ∙ ap (λ o. host_given i k (host_less i k o w.hosts) w) g ∙ ap (λ q. record w { hosts = q; events = w.events ++ Ended i k ∷ [] }) (sym p)
world_released fits ss ts i k false w hs h r =
    let two : r.0 + 2 ≡ suc (suc r.0) = omega arith in
    let one : r.0 + 1 ≡ suc r.0 = omega arith in
    let g : map.get (w.hosts i) k ≡ Some (suc (suc r.0)) = ap (λ q. map.get (q i) k) hs ∙ r.1 ∙ ap Some two in
    let p : counts_by ts ≡ host_put i (map.insert (w.hosts i) k (suc r.0)) w.hosts =
    counts_put ss ts i _ h (r.2 ∙ ap (map.insert (state_at ss i).counts k) one) ∙ ap (λ q. host_put i (map.insert (q i) k (suc r.0)) q) (sym hs) in
    give_key i k w ∙ ap (λ o. host_given i k (host_less i k o w.hosts) w) g ∙ ap (λ q. record w { hosts = q; events = w.events }) (sym p)

pub world_added : (ss ts : List State) (i k : ℕ) (w : World) → w.hosts ≡ counts_by ss → ts ≡ slice_set ss i (state_at ts i) → Adds (state_at ss i) k true (state_at ts i)
    → one_more (Host i (Some k)) w ≡ record w { hosts = counts_by ts }
unfolding one_more
world_added ss ts i k w hs h a = ap (λ q. record w { hosts = q }) (ap (host_raised i k) hs ∙ sym (counts_added ss ts i k h a))

-- what is counted is live
pub live_of : (ss : List State) (i k : ℕ) → 0 < count_at (counts_by ss i) k → IsLive (state_at ss i) k
live_of ss i k h = IsLive-held (state_at ss i) k h

-- and its driver is in the list
pub in_list_of : (ss : List State) (i k : ℕ) → 0 < count_at (counts_by ss i) k → i < length ss
in_list_of [] i k h = absurd (omega (arith, h, ap count_of (get-empty {X = ℕ} nat_cmp k)))
in_list_of (s ∷ ss) zero k h = omega arith
in_list_of (s ∷ ss) (suc i) k h = omega (arith, in_list_of ss i k h)

-- Where no place holds anything outside the fields, each driver is balanced.
pub all_balanced : (ss : List State) (w : World) → w.hosts ≡ counts_by ss → IsCounted [] w → ((x : Thing) → in_lists x w.globals ≡ 0) → (i : ℕ) → IsSound (state_at ss i) → IsBalanced (state_at ss i)
all_balanced ss w hs p none i sound =
    IsBalanced-none (state_at ss i) sound (λ k. subst (λ q. count_at (q i) k ≡ 0) hs ((no_roots w p none).1 i k))

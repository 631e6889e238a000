-- Globals that end: what is given up, what is listed, and what is left.
use Rattle.std.proofs.Common.{◌≡◌, ℕ, zero, suc, ◌+◌, List, [], ◌∷◌, ◌++◌, ◌⊎◌, inl, inr, refl, sym, ap, ◌∙◌, subst, arith, append-nil, append_assoc}
use Rattle.std.specs.Prelude.{Contains, slice_index_or, slice_set}
use Rattle.std.specs.List.{AllByRecursion}
use Rattle.ang_host.specs.declared.event.HostEvent.{HostEvent}
use Rattle.ang_host.specs.declared.event.HostEvent.TheVariants.{Called, Ended}
use Rattle.ang_host.specs.State.{State}
use Rattle.ang_host.specs.Laws.{IsSound}
use Rattle.ang_host.specs.Members.{state_at}
use Rattle.ang_host.specs.Counts.{IsBalanced}
use Rattle.ang_meaning.specs.declared.slot.Slot.{Slot}
use Rattle.ang_meaning.specs.World.{World as RunWorld, give}
use Rattle.ang_meaning.specs.Told.{answers_listed, Moves}
use Rattle.ang_meaning.specs.Results.{give_back}
use Rattle.ang_meaning.specs.Counting.{Thing, how_many, in_lists, IsCounted, counts_by}
use Rattle.ang_meaning.proofs.Counting.{many_append, give_globals}
use Rattle.ang_meaning.proofs.Counted.{counted_as, give_counted}
use Rattle.ang_meaning.proofs.Moving.{give_moves, give_back_moves}
use Rattle.ang_meaning.proofs.Driving.{all_balanced}
use Rattle.ang_engine_modules.specs.World.{running, globals_ended, all_ended}
use Rattle.ang_engine.specs.Ending.{ends_of, GivingListsEnds, EndingListsEnds}

-- ---- values that are given up, the last one first

pub back_counted : (vs s : List Slot) (w : RunWorld) → IsCounted (vs ++ s) w → IsCounted s (give_back vs w)
back_counted [] s w p = p
back_counted (v ∷ vs) s w p =
    let q : IsCounted (vs ++ (v ∷ s)) w = counted_as ((v ∷ vs) ++ s) (vs ++ (v ∷ s)) w (λ x. omega (arith, many_append x vs s, many_append x vs (v ∷ s))) p in
    give_counted v s (give_back vs w) (back_counted vs (v ∷ s) w q)

pub back_globals : (vs : List Slot) (w : RunWorld) → (give_back vs w).globals ≡ w.globals
back_globals [] w = refl
back_globals (v ∷ vs) w = give_globals v (give_back vs w) ∙ back_globals vs w

-- the first of several is given up after the others
pub back_last : (vs : List Slot) (v : Slot) (w : RunWorld) → give_back (vs ++ v ∷ []) w ≡ give_back vs (give v w)
back_last [] v w = refl
back_last (u ∷ vs) v w = ap (give u) (back_last vs v w)

-- ---- lists of globals

-- a list is taken out, and one that names nothing is put in its place
pub lists_taken : (x : Thing) (gs : List (List Slot)) (i : ℕ) (l : List Slot) → how_many x l ≡ 0 → in_lists x (slice_set gs i l) + how_many x (slice_index_or gs i []) ≡ in_lists x gs
lists_taken x [] i l none = refl
lists_taken x (g ∷ gs) zero l none = omega (arith, none)
lists_taken x (g ∷ gs) (suc i) l none = omega (arith, lists_taken x gs i l none)

-- ---- a module's globals end

pub ended_globals : (i : ℕ) (r : RunWorld) → (globals_ended i r).globals ≡ slice_set r.globals i []
ended_globals i r = back_globals (slice_index_or r.globals i []) (record r { globals = slice_set r.globals i [] })

pub taken_counted : (i : ℕ) (r : RunWorld) → IsCounted [] r → IsCounted (slice_index_or r.globals i []) (record r { globals = slice_set r.globals i [] })
taken_counted i r p = record { counts = record { counts = λ x. omega (arith, p.counts.counts x, lists_taken x r.globals i [] refl) }; ordered = p.ordered }

pub ended_counted : (i : ℕ) (r : RunWorld) → IsCounted [] r → IsCounted [] (globals_ended i r)
ended_counted i r p =
    let u : RunWorld = record r { globals = slice_set r.globals i [] } in
    let vs = slice_index_or r.globals i [] in
    back_counted vs [] u (subst (λ l. IsCounted l u) (sym (append-nil vs)) (taken_counted i r p))

-- Globals begin that name nothing, where there were none.
pub begun_counted : (i : ℕ) (l : List Slot) (r : RunWorld) → ((x : Thing) → how_many x l ≡ 0) → slice_index_or r.globals i [] ≡ [] → IsCounted [] r
    → IsCounted [] (record r { globals = slice_set r.globals i l })
begun_counted i l r none empty p = record {
  counts = record { counts = λ x. omega (arith, p.counts.counts x, lists_taken x r.globals i l (none x), ap (how_many x) empty) };
  ordered = p.ordered;
}

-- ---- those of some modules end

pub all_counted : (is : List ℕ) (r : RunWorld) → IsCounted [] r → IsCounted [] (all_ended is r)
all_counted [] r p = p
all_counted (i ∷ is) r p = ended_counted i (all_ended is r) (all_counted is r p)

pub emptied_at : (gs : List (List Slot)) (i j : ℕ) → (j ≡ i) ⊎ (slice_index_or gs j [] ≡ []) → slice_index_or (slice_set gs i []) j [] ≡ []
emptied_at [] i j h = refl
emptied_at (g ∷ gs) zero zero h = refl
emptied_at (g ∷ gs) zero (suc j) (inl e) = absurd (omega (arith, e))
emptied_at (g ∷ gs) zero (suc j) (inr e) = e
emptied_at (g ∷ gs) (suc i) zero (inl e) = absurd (omega (arith, e))
emptied_at (g ∷ gs) (suc i) zero (inr e) = e
emptied_at (g ∷ gs) (suc i) (suc j) (inl e) = emptied_at gs i j (inl (omega (arith, e)))
emptied_at (g ∷ gs) (suc i) (suc j) (inr e) = emptied_at gs i j (inr e)

-- of the module whose globals end last, and of the others
none_but : (i : ℕ) (is : List ℕ) (r : RunWorld) (j : ℕ) → (j ≡ i) ⊎ (slice_index_or (all_ended is r).globals j [] ≡ []) → slice_index_or (all_ended (i ∷ is) r).globals j [] ≡ []
none_but i is r j h = ap (λ gs. slice_index_or gs j []) (ended_globals i (all_ended is r)) ∙ emptied_at (all_ended is r).globals i j h

-- a module that is among them, or had no globals, has none then
pub none_at : (is : List ℕ) (r : RunWorld) (j : ℕ) → Contains is j ⊎ (slice_index_or r.globals j [] ≡ []) → slice_index_or (all_ended is r).globals j [] ≡ []
none_at [] r j (inl (k, lt, at)) = absurd (omega (arith, lt))
none_at [] r j (inr e) = e
none_at (i ∷ is) r j (inl (zero, lt, at)) = none_but i is r j (inl (sym at))
none_at (i ∷ is) r j (inl (suc k, lt, at)) = none_but i is r j (inr (none_at is r j (inl (k, omega (arith, lt), at))))
none_at (i ∷ is) r j (inr e) = none_but i is r j (inr (none_at is r j (inr e)))

nothing_in : (x : Thing) (gs : List (List Slot)) → ((j : ℕ) → slice_index_or gs j [] ≡ []) → in_lists x gs ≡ 0
nothing_in x [] h = refl
nothing_in x (g ∷ gs) h = omega (arith, ap (how_many x) (h 0), nothing_in x gs (λ j. h (suc j)))

-- then each driver is balanced, where each module with globals is among them
pub all_given_back : (ss : List State) (is : List ℕ) (r : RunWorld) → IsCounted [] r → ((j : ℕ) → Contains is j ⊎ (slice_index_or r.globals j [] ≡ []))
    → (all_ended is r).hosts ≡ counts_by ss → (i : ℕ) → IsSound (state_at ss i) → IsBalanced (state_at ss i)
all_given_back ss is r p among hosts i sound =
    all_balanced ss (all_ended is r) hosts (all_counted is r p) (λ x. nothing_in x (all_ended is r).globals (λ j. none_at is r j (among j))) i sound

-- ---- what is listed

only_ends : (es : List HostEvent) → answers_listed es ≡ [] → (ks : List (ℕ × ℕ)) × (es ≡ ends_of ks)
only_ends [] h = ([], refl)
only_ends (Called caller entity driver object args reply ∷ es) h = absurd (let x : ⊥ = cc in x)
only_ends (Ended d k ∷ es) h = let p = only_ends es h in ((d, k) ∷ p.0, ap (λ l. Ended d k ∷ l) p.1)

-- a world after which ends are listed, and nothing else
pub record ListsEnds (before after : RunWorld) : Type 0 where
  pub ends : List (ℕ × ℕ)
  pub events : after.events ≡ before.events ++ ends_of ends

moves_ends : (u w : RunWorld) → Moves u [] w → ListsEnds u w
moves_ends u w p = let q = only_ends p.more p.answers in record { ends = q.0; events = p.events ∙ ap (λ l. u.events ++ l) q.1 }

ends_append : (ks js : List (ℕ × ℕ)) → ends_of (ks ++ js) ≡ ends_of ks ++ ends_of js
ends_append [] js = refl
ends_append (k ∷ ks) js = ap (λ l. Ended k.0 k.1 ∷ l) (ends_append ks js)

ends_then : (u v w : RunWorld) → ListsEnds u v → ListsEnds v w → ListsEnds u w
ends_then u v w p q = record {
  ends = p.ends ++ q.ends;
  events = q.events ∙ ap (λ l. l ++ ends_of q.ends) p.events ∙ append_assoc u.events (ends_of p.ends) (ends_of q.ends) ∙ ap (λ l. u.events ++ l) (sym (ends_append p.ends q.ends));
}

pub give_ends : (v : Slot) (w : RunWorld) → ListsEnds w (give v w)
give_ends v w = moves_ends w (give v w) (give_moves v w)

pub globals_ends : (i : ℕ) (r : RunWorld) → ListsEnds r (globals_ended i r)
globals_ends i r =
    let u : RunWorld = record r { globals = slice_set r.globals i [] } in
    let vs = slice_index_or r.globals i [] in
    let p = moves_ends u (give_back vs u) (give_back_moves vs u) in
    record { ends = p.ends; events = p.events }

pub all_ends : (is : List ℕ) (r : RunWorld) → ListsEnds r (all_ended is r)
all_ends [] r = record { ends = []; events = sym (append-nil r.events) }
all_ends (i ∷ is) r = ends_then r (all_ended is r) (globals_ended i (all_ended is r)) (all_ends is r) (globals_ends i (all_ended is r))

pub giving_lists_ends : GivingListsEnds
giving_lists_ends v w = let p = give_ends v w in (p.ends, p.events)

pub ending_lists_ends : EndingListsEnds
ending_lists_ends w = let p = all_ends w.modules.order (running w []) in (p.ends, p.events)

-- ends answer nothing
listed_ends : (ks : List (ℕ × ℕ)) → answers_listed (ends_of ks) ≡ []
listed_ends [] = refl
listed_ends (k ∷ ks) = listed_ends ks

listed_then : (es : List HostEvent) (ks : List (ℕ × ℕ)) → answers_listed (es ++ ends_of ks) ≡ answers_listed es
listed_then [] ks = listed_ends ks
listed_then (Called caller entity driver object args reply ∷ es) ks = ap (λ l. reply ∷ l) (listed_then es ks)
listed_then (Ended d k ∷ es) ks = listed_then es ks

pub ends_listed : (u w : RunWorld) → ListsEnds u w → answers_listed w.events ≡ answers_listed u.events
ends_listed u w p = ap answers_listed p.events ∙ listed_then u.events p.ends

-- what holds of each event listed before holds of each listed after, where it holds of ends
all_then : (Q : HostEvent → Type 0) → ((d k : ℕ) → Q (Ended d k)) → (es : List HostEvent) (ks : List (ℕ × ℕ)) → AllByRecursion Q es → AllByRecursion Q (es ++ ends_of ks)
all_then Q h [] [] p = tt
all_then Q h [] (k ∷ ks) p = (h k.0 k.1, all_then Q h [] ks p)
all_then Q h (e ∷ es) ks p = (p.0, all_then Q h es ks p.1)

pub ends_all : (Q : HostEvent → Type 0) → ((d k : ℕ) → Q (Ended d k)) → (u w : RunWorld) → ListsEnds u w → AllByRecursion Q u.events → AllByRecursion Q w.events
ends_all Q h u w p all = subst (λ es. AllByRecursion Q es) (sym p.events) (all_then Q h u.events p.ends all)

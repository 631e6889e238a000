-- The laws of following events: none, one after another, and one event of one driver.
use Rattle.std.specs.Prelude.{ℕ, ◌+◌, ◌≡◌, ◌<◌, ◌≤◌, ◌⊎◌, Bool, true, false, nat_eq, ◌||◌, List, All, [], ◌∷◌, ◌++◌, length, map as list_map}
use Rattle.std.specs.FinMap as map
use Rattle.std.proofs.Common.{refl, sym, ◌∙◌, ap, subst, arith, inl, inr, rules, append_assoc}
use Rattle.std.proofs.lemmas.List.{length-map}
use Rattle.std.proofs.lemmas.List.Elements.{filter-append, All-append, All-nil}
use Rattle.ang_host.specs.declared.event.HostEvent.{HostEvent}
use Rattle.ang_host.specs.declared.event.Role.{Role}
use Rattle.ang_host.specs.State.{State, Tally}
use Rattle.ang_host.specs.Laws.{Fits}
use Rattle.ang_host.specs.Members.{state_at, rule_at}
use Rattle.ang_host.specs.Events.{CoreMoves, live_after, live_along, asked_in, was_full, some_full, HasRunOut, Follows, driver_of, events_of, EachFollows, AllFollow}

core_join : (roles : List Role) (fits : Fits) (c : List ℕ) (xs ys : List HostEvent) (d e : List ℕ)
    → CoreMoves roles fits c xs d → CoreMoves roles fits d ys e → CoreMoves roles fits c (xs ++ ys) e
core_join roles fits c [] ys d e p q = subst (λ m. CoreMoves roles fits m ys e) (sym p) q
core_join roles fits c (x ∷ xs) ys d e p q = (p.0, p.1, core_join roles fits p.0 xs ys d e p.2 q)

live_join : (k : ℕ) (b : Bool) (xs ys : List HostEvent) → live_along k b (xs ++ ys) ≡ live_along k (live_along k b xs) ys
live_join k b [] ys = refl
live_join k b (x ∷ xs) ys = live_join k (live_after k b x) xs ys

asked_join : (xs ys : List HostEvent) → asked_in (xs ++ ys) ≡ asked_in xs + asked_in ys
asked_join [] ys = omega arith
asked_join (x ∷ xs) ys = omega (arith, asked_join xs ys)

full_join : (xs ys : List HostEvent) → some_full (xs ++ ys) ≡ true → (some_full xs ≡ true) ⊎ (some_full ys ≡ true)
full_join [] ys h = inr h
full_join (x ∷ xs) ys h =
    elim (was_full x) as (λ b. (b || some_full (xs ++ ys)) ≡ true → ((b || some_full xs) ≡ true) ⊎ (some_full ys ≡ true))
    [ true ↦ λ _. inl refl | false ↦ λ e. full_join xs ys e ] h

run_out_stays : (s t : Tally) → s.asked ≤ t.asked → s.made ≤ t.made → s.added ≤ t.added → HasRunOut s → HasRunOut t
run_out_stays s t a m d h =
    elim h [ inl p ↦ inl (omega arith) | inr q ↦ elim q [ inl p ↦ inr (inl (omega arith)) | inr p ↦ inr (inr (omega arith)) ] ]

-- the law of joining two lists of events
pub Follows-join : (roles : List Role) (fits : Fits) (s t u : State) (xs ys : List HostEvent)
    → Follows roles fits s xs t → Follows roles fits t ys u → Follows roles fits s (xs ++ ys) u
Follows-join roles fits s t u xs ys p q =
    record {
      core = core_join roles fits s.core xs ys t.core u.core p.core q.core;
      live = λ k. q.live k ∙ ap (λ b. live_along k b ys) (p.live k) ∙ sym (live_join k (map.contains_key s.counts k) xs ys);
      asked = omega (arith, p.asked, q.asked, asked_join xs ys);
      made = omega (arith, p.made, q.made);
      added = omega (arith, p.added, q.added);
      full = λ h. elim (full_join xs ys h)
          [ inl a ↦ run_out_stays t.tally u.tally (omega (arith, q.asked)) q.made q.added (p.full a) | inr b ↦ q.full b ];
    }

pub Follows-none : (roles : List Role) (fits : Fits) (s : State) → Follows roles fits s [] s
Follows-none roles fits s =
    record { core = refl; live = λ k. refl; asked = omega arith; made = omega arith; added = omega arith; full = λ h. cc }

events_join : (i : ℕ) (xs ys : List HostEvent) → events_of i (xs ++ ys) ≡ events_of i xs ++ events_of i ys
events_join i xs ys = filter-append (λ e. nat_eq (driver_of e) i) xs ys

pub EachFollows-join : (roles : List Role) (rules : List Fits) (ss ts us : List State) (xs ys : List HostEvent)
    → EachFollows roles rules ss xs ts → EachFollows roles rules ts ys us → EachFollows roles rules ss (xs ++ ys) us
EachFollows-join roles rules ss ts us xs ys p q =
    record {
      same_length = q.same_length ∙ p.same_length;
      within = All-append (λ e. driver_of e < length ss) xs ys p.within (subst (λ n. All (λ e. driver_of e < n) ys) p.same_length q.within);
      each = λ i lt. subst (λ es. Follows roles (rule_at rules i) (state_at ss i) es (state_at us i)) (sym (events_join i xs ys))
          (Follows-join roles _ _ _ _ _ _ (p.each i lt) (q.each i (subst (λ n. i < n) (sym p.same_length) lt)));
    }

pub EachFollows-none : (roles : List Role) (rules : List Fits) (ss : List State) → EachFollows roles rules ss [] ss
EachFollows-none roles rules ss = record { same_length = refl; within = All-nil (λ e. driver_of e < length ss); each = λ i lt. Follows-none roles (rule_at rules i) (state_at ss i) }

pub AllFollow-none : {B V : Type 0} (st : B → State) (kind : B → V) (rule : V → Fits) (roles : List Role) (xs : List B) → AllFollow st kind rule roles xs [] xs
AllFollow-none st kind rule roles xs = record { kinds = refl; follow = EachFollows-none roles (list_map rule (list_map kind xs)) (list_map st xs) }

pub AllFollow-join : {B V : Type 0} (st : B → State) (kind : B → V) (rule : V → Fits) (roles : List Role) (xs ys zs : List B) (es fs : List HostEvent)
    → AllFollow st kind rule roles xs es ys → AllFollow st kind rule roles ys fs zs → AllFollow st kind rule roles xs (es ++ fs) zs
AllFollow-join st kind rule roles xs ys zs es fs p q =
    record {
      kinds = q.kinds ∙ p.kinds;
      follow = EachFollows-join roles (list_map rule (list_map kind xs)) _ _ _ es fs p.follow
          (subst (λ ks. EachFollows roles (list_map rule ks) (list_map st ys) fs (list_map st zs)) p.kinds q.follow);
    }

pub AllFollow-length : {B V : Type 0} (st : B → State) (kind : B → V) (rule : V → Fits) (roles : List Role) (xs ys : List B) (es : List HostEvent)
    → AllFollow st kind rule roles xs es ys → length ys ≡ length xs
AllFollow-length st kind rule roles xs ys es p = sym (length-map ys kind) ∙ ap length p.kinds ∙ length-map xs kind

-- a list of events that was written, and one more part
pub AllFollow-more : {B V : Type 0} (st : B → State) (kind : B → V) (rule : V → Fits) (roles : List Role) (xs ys zs : List B) (was now after more : List HostEvent)
    → ((es : List HostEvent) × (now ≡ was ++ es) × AllFollow st kind rule roles xs es ys)
    → after ≡ now ++ more → AllFollow st kind rule roles ys more zs
    → (es : List HostEvent) × (after ≡ was ++ es) × AllFollow st kind rule roles xs es zs
AllFollow-more st kind rule roles xs ys zs was now after more p e q =
    (p.0 ++ more, e ∙ ap (λ l. l ++ more) p.1 ∙ append_assoc was p.0 more, AllFollow-join st kind rule roles xs ys zs p.0 more p.2 q)

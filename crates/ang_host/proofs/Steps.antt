-- What one call of a driver is in the events of that driver, and of the list.
use Rattle.std.specs.Prelude.{ℕ, ◌+◌, ◌≡◌, ◌≢◌, ◌<◌, ◌≤◌, Bool, true, false, cond, nat_eq, nat_lt, ◌||◌, List, All, [], ◌∷◌, Option, Some, None, is_some, length, map as list_map}
use Rattle.std.specs.Ordering.{nat_cmp, eq_by_cmp, is_eq}
use Rattle.std.specs.FinMap as map
use Rattle.std.specs.FinMap.{get-insert, get-remove}
use Rattle.std.proofs.lemmas.Cmp.{nat_cmp_total}
use Rattle.std.specs.declared.cmp.Ordering.TheVariants.{Less, Equal, Greater}
use Rattle.std.proofs.Common.{refl, sym, ◌∙◌, ap, subst, arith, inl, inr, get_or-set_other}
use Rattle.std.proofs.lemmas.List.{length-map, length-set}
use Rattle.std.proofs.lemmas.List.Elements.{All-nil, All-push}
use Rattle.std.proofs.lemmas.Bool.{cases_eq, eq-eqb, ne_eqb, le-ltb}
use Rattle.ang_kinds.specs.declared.value.Value.{Value}
use Rattle.ang_host.specs.declared.answer.Made.{Made}
use Rattle.ang_host.specs.declared.answer.Made.TheVariants.{Key as MadeKey, Nothing, Fault as MadeFault, Memory as MadeMemory, Full as MadeFull}
use Rattle.ang_host.specs.declared.answer.Answer.{Answer}
use Rattle.ang_host.specs.declared.answer.Answer.TheVariants.{Void, Gave, Fault, Memory, Full}
use Rattle.ang_host.specs.declared.answer.HostReply.{HostReply}
use Rattle.ang_host.specs.declared.answer.HostReply.TheVariants.{Making, Asking}
use Rattle.ang_host.specs.declared.event.HostEvent.{HostEvent}
use Rattle.ang_host.specs.declared.event.HostEvent.TheVariants.{Called, Ended}
use Rattle.ang_host.specs.declared.event.Role.{Role}
use Rattle.ang_kinds.specs.declared.mask.EntityNo.{EntityNo}
use Rattle.ang_host.specs.State.{State, Ask}
use Rattle.ang_host.specs.Laws.{Fits, IsFull, IsAsked, Answers, Makes, Adds, Releases, Answered, WasMade, WasAdded, WasReleased}
use Rattle.ang_host.specs.Members.{nothing, state_at, rule_at, OneMoved}
use Rattle.ang_host.specs.Events.{ask_of, role_at, is_full, is_born, StaysIf, HasRunOut, Follows, driver_of, events_of, ends, AllFollow}
use Rattle.ang_host.proofs.Events.{Follows-none}

-- the map's test of keys, and that of numbers
pub same_test : (q k : ℕ) → eq_by_cmp nat_cmp q k ≡ nat_eq k q
same_test q k =
    elim (cases_eq q k) [
      | inl e ↦ ap (λ b. is_eq (cond b Less (cond (nat_eq q k) Equal Greater))) (le-ltb q k (omega (arith, e)))
          ∙ ap (λ b. is_eq (cond b Equal Greater)) (eq-eqb q k e) ∙ sym (eq-eqb k q (sym e))
      | inr ne ↦ elim (nat_lt q k) as (λ b. is_eq (cond b Less (cond (nat_eq q k) Equal Greater)) ≡ false)
          [ true ↦ refl | false ↦ ap (λ b. is_eq (cond b Equal Greater)) (ne_eqb q k ne) ] ∙ sym (ne_eqb k q (λ e. ne (sym e)))
    ]

run_out : (s t : State) → t ≡ s → IsFull s → HasRunOut t.tally
run_out s t e h =
    let eq : t.tally ≡ s.tally = ap (λ x. x.tally) e in
    let a : t.tally.asked ≡ s.tally.asked = ap (λ x. x.asked) eq in
    let m : t.tally.made ≡ s.tally.made = ap (λ x. x.made) eq in
    let d : t.tally.added ≡ s.tally.added = ap (λ x. x.added) eq in
    elim h [ inl p ↦ inl (omega arith) | inr q ↦ elim q [ inl p ↦ inr (inl (omega arith)) | inr p ↦ inr (inr (omega arith)) ] ]

module _ (roles : List Role) (fits : Fits) (s t : State) (caller : List ℕ) (entity : EntityNo) (d : ℕ) (o : Option ℕ) (args : List Value) (reply : HostReply) where
  the_event : HostEvent
  the_event = Called caller entity d o args reply

  -- a host call that was not refused as full
  called_follows : is_full reply ≡ false → fits s.core (ask_of (role_at roles entity.0) o args) reply t.core
      → ((k : ℕ) → map.contains_key t.counts k ≡ cond (is_born k reply) true (map.contains_key s.counts k))
      → t.tally.asked ≡ s.tally.asked + 1 → s.tally.made ≤ t.tally.made → s.tally.added ≤ t.tally.added
      → Follows roles fits s (Called caller entity d o args reply ∷ []) t
  called_follows f moved live asked made added =
      record {
        core = (t.core, subst (λ b. StaysIf b s.core t.core (fits s.core (ask_of (role_at roles entity.0) o args) reply t.core)) (sym f) moved, refl);
        live = live;
        asked = asked ∙ ap (λ b. s.tally.asked + (cond b 0 1 + 0)) (sym f);
        made = made;
        added = added;
        full = λ h. let e : (false || false) ≡ true = subst (λ b. (b || false) ≡ true) f h in cc;
      }

  -- a host call that was
  full_follows : is_full reply ≡ true → ((k : ℕ) → is_born k reply ≡ false) → t ≡ s → IsFull s
      → Follows roles fits s (Called caller entity d o args reply ∷ []) t
  full_follows f unborn same full =
      record {
        core = (t.core, subst (λ b. StaysIf b s.core t.core (fits s.core (ask_of (role_at roles entity.0) o args) reply t.core)) (sym f) (ap (λ x. x.core) (sym same)), refl);
        live = λ k. ap (λ x. map.contains_key x.counts k) same ∙ ap (λ b. cond b true (map.contains_key s.counts k)) (sym (unborn k));
        asked = let z : s.tally.asked ≡ s.tally.asked + (0 + 0) = omega arith in ap (λ x. x.tally.asked) same ∙ z ∙ ap (λ b. s.tally.asked + (cond b 0 1 + 0)) (sym f);
        made = subst (λ x. s.tally.made ≤ x.tally.made) (sym same) (omega arith);
        added = subst (λ x. s.tally.added ≤ x.tally.added) (sym same) (omega arith);
        full = λ h. run_out s t same full;
      }

  plain_follows : (a : Ask) → a ≡ ask_of (role_at roles entity.0) o args → is_full reply ≡ false → ((k : ℕ) → is_born k reply ≡ false)
      → IsAsked fits s a reply t → Follows roles fits s (Called caller entity d o args reply ∷ []) t
  plain_follows a e f unborn h =
      called_follows f (subst (λ x. fits s.core x reply t.core) e h.2)
      (λ k. ap (λ m. map.contains_key m k) h.0 ∙ ap (λ b. cond b true (map.contains_key s.counts k)) (sym (unborn k)))
      (ap (λ x. x.asked) h.1)
      (subst (λ x. s.tally.made ≤ x.made) (sym h.1) (omega arith))
      (subst (λ x. s.tally.added ≤ x.added) (sym h.1) (omega arith))

pub Answers-follow : (roles : List Role) (fits : Fits) (s t : State) (caller : List ℕ) (entity : EntityNo) (d : ℕ) (o : Option ℕ) (args : List Value) (r : Answer) (a : Ask)
    → a ≡ ask_of (role_at roles entity.0) o args → Answers fits s a r t → Follows roles fits s (Called caller entity d o args (Asking r) ∷ []) t
Answers-follow roles fits s t caller entity d o args Void a e h = plain_follows roles fits s t caller entity d o args (Asking Void) a e refl (λ k. refl) h
Answers-follow roles fits s t caller entity d o args (Gave v) a e h = plain_follows roles fits s t caller entity d o args (Asking (Gave v)) a e refl (λ k. refl) h
Answers-follow roles fits s t caller entity d o args (Fault n) a e h = plain_follows roles fits s t caller entity d o args (Asking (Fault n)) a e refl (λ k. refl) h
Answers-follow roles fits s t caller entity d o args Memory a e h = plain_follows roles fits s t caller entity d o args (Asking Memory) a e refl (λ k. refl) h
Answers-follow roles fits s t caller entity d o args Full a e h = full_follows roles fits s t caller entity d o args (Asking Full) refl (λ k. refl) h.0 h.1

pub Makes-follow : (roles : List Role) (fits : Fits) (s t : State) (caller : List ℕ) (entity : EntityNo) (d : ℕ) (o : Option ℕ) (args : List Value) (r : Made) (a : Ask)
    → a ≡ ask_of (role_at roles entity.0) o args → Makes fits s a r t → Follows roles fits s (Called caller entity d o args (Making r) ∷ []) t
Makes-follow roles fits s t caller entity d o args Nothing a e h = plain_follows roles fits s t caller entity d o args (Making Nothing) a e refl (λ k. refl) h
Makes-follow roles fits s t caller entity d o args (MadeFault n) a e h = plain_follows roles fits s t caller entity d o args (Making (MadeFault n)) a e refl (λ k. refl) h
Makes-follow roles fits s t caller entity d o args MadeMemory a e h = plain_follows roles fits s t caller entity d o args (Making MadeMemory) a e refl (λ k. refl) h
Makes-follow roles fits s t caller entity d o args MadeFull a e h = full_follows roles fits s t caller entity d o args (Making MadeFull) refl (λ k. refl) h.0 h.1
Makes-follow roles fits s t caller entity d o args (MadeKey j) a e h =
    called_follows roles fits s t caller entity d o args (Making (MadeKey j)) refl
    (subst (λ x. fits s.core x (Making (MadeKey j)) t.core) e h.3)
    (λ k. ap (λ m. map.contains_key m k) h.1 ∙ ap is_some (get-insert nat_cmp_total s.counts j 1 k)
    ∙ ap (λ b. is_some (cond b (Some 1) (map.get s.counts k))) (same_test k j)
    ∙ elim (nat_eq j k) as (λ b. is_some (cond b (Some 1) (map.get s.counts k)) ≡ cond b true (map.contains_key s.counts k)) [ true ↦ refl | false ↦ refl ])
    (ap (λ x. x.asked) h.2)
    (subst (λ x. s.tally.made ≤ x.made) (sym h.2) (omega arith))
    (subst (λ x. s.tally.added ≤ x.added) (sym h.2) (omega arith))

-- a key that is live stays live where its count changes
still_live : (m : map.FinMap nat_cmp ℕ) (k n v : ℕ) → map.get m k ≡ Some n → (q : ℕ) → map.contains_key (map.insert m k v) q ≡ map.contains_key m q
still_live m k n v h q =
    ap is_some (get-insert nat_cmp_total m k v q) ∙ ap (λ b. is_some (cond b (Some v) (map.get m q))) (same_test q k)
    ∙ elim (cases_eq k q) [
      | inl e ↦ ap (λ b. is_some (cond b (Some v) (map.get m q))) (eq-eqb k q e) ∙ ap is_some (sym h) ∙ ap (λ x. is_some (map.get m x)) e
      | inr ne ↦ ap (λ b. is_some (cond b (Some v) (map.get m q))) (ne_eqb k q ne)
    ]

-- a count call that ends no key: no event
quiet_follows : (roles : List Role) (fits : Fits) (s t : State) (k n v : ℕ) → map.get s.counts k ≡ Some n → t.counts ≡ map.insert s.counts k v → t.core ≡ s.core
    → t.tally.asked ≡ s.tally.asked → s.tally.made ≤ t.tally.made → s.tally.added ≤ t.tally.added → Follows roles fits s [] t
quiet_follows roles fits s t k n v g c core asked made added =
    record {
      core = sym core;
      live = λ q. ap (λ m. map.contains_key m q) c ∙ still_live s.counts k n v g q;
      asked = omega (arith, asked);
      made = made;
      added = added;
      full = λ h. cc;
    }

pub Adds-follow : (roles : List Role) (fits : Fits) (s t : State) (k : ℕ) (b : Bool) → Adds s k b t → Follows roles fits s [] t
Adds-follow roles fits s t k true h =
    quiet_follows roles fits s t k h.0 (h.0 + 1) h.1 h.2 h.3 (ap (λ x. x.asked) h.4)
    (subst (λ x. s.tally.made ≤ x.made) (sym h.4) (omega arith)) (subst (λ x. s.tally.added ≤ x.added) (sym h.4) (omega arith))
Adds-follow roles fits s t k false h = subst (λ x. Follows roles fits s [] x) (sym h.0) (Follows-none roles fits s)

pub Releases-follow : (roles : List Role) (fits : Fits) (s t : State) (d k : ℕ) (b : Bool) → Releases fits s k b t → Follows roles fits s (ends d k b) t
Releases-follow roles fits s t d k true h =
    record {
      core = (t.core, h.3, refl);
      live = λ q. ap (λ m. map.contains_key m q) h.1 ∙ ap is_some (get-remove nat_cmp_total s.counts k q)
          ∙ ap (λ b. is_some (cond b None (map.get s.counts q))) (same_test q k)
          ∙ elim (nat_eq k q) as (λ b. is_some (cond b None (map.get s.counts q)) ≡ cond b false (map.contains_key s.counts q)) [ true ↦ refl | false ↦ refl ];
      asked = ap (λ x. x.asked) h.2 ∙ omega arith;
      made = subst (λ x. s.tally.made ≤ x.made) (sym h.2) (omega arith);
      added = subst (λ x. s.tally.added ≤ x.added) (sym h.2) (omega arith);
      full = λ e. cc;
    }
Releases-follow roles fits s t d k false h =
    quiet_follows roles fits s t k (h.0 + 2) (h.0 + 1) h.1 h.2 h.3 (ap (λ x. x.asked) h.4)
    (subst (λ x. s.tally.made ≤ x.made) (sym h.4) (omega arith)) (subst (λ x. s.tally.added ≤ x.added) (sym h.4) (omega arith))

-- events of one driver i alone
pub record AreOf (i : ℕ) (es : List HostEvent) : Type 0 where
  pub all : events_of i es ≡ es
  pub none : (j : ℕ) → j ≢ i → events_of j es ≡ []
  pub each : All (λ e. driver_of e ≡ i) es

pub AreOf-none : (i : ℕ) → AreOf i []
AreOf-none i = record { all = refl; none = λ j ne. refl; each = All-nil (λ e. driver_of e ≡ i) }

pub AreOf-one : (i : ℕ) (e : HostEvent) → driver_of e ≡ i → AreOf i (e ∷ [])
AreOf-one i e h =
    record {
      all = ap (λ b. cond b (e ∷ []) []) (eq-eqb (driver_of e) i h);
      none = λ j ne. ap (λ b. cond b (e ∷ []) []) (ne_eqb (driver_of e) j (λ x. ne (sym x ∙ h)));
      each = All-push (λ e. driver_of e ≡ i) [] e (All-nil (λ e. driver_of e ≡ i)) h;
    }

pub AreOf-ends : (d k : ℕ) (b : Bool) → AreOf d (ends d k b)
AreOf-ends d k true = AreOf-one d (Ended d k) refl
AreOf-ends d k false = AreOf-none d

-- one member moved, and the events are its own
pub AllFollow-one : {B V : Type 0} (st : B → State) (kind : B → V) (rule : V → Fits) (roles : List Role) (xs ys : List B) (i : ℕ) (R : Fits → State → State → Type 0) (es : List HostEvent)
    → AreOf i es → ((f : Fits) (s t : State) → R f s t → Follows roles f s es t)
    → OneMoved st kind rule xs i R ys → AllFollow st kind rule roles xs es ys
AllFollow-one st kind rule roles xs ys i R es of follow one =
    let listed : i < length (list_map st xs) = subst (λ n. i < n) (sym (length-map xs st)) one.in_list in
    record {
      kinds = one.kinds;
      follow = record {
        same_length = ap length one.others ∙ length-set (list_map st xs) i (state_at (list_map st ys) i);
        within = λ k e lt. subst (λ n. n < length (list_map st xs)) (sym (of.each k e lt)) listed;
        each = λ j lt. elim (cases_eq j i) [
          | inl e ↦ subst (λ k. Follows roles (rule_at (list_map rule (list_map kind xs)) k) (state_at (list_map st xs) k) (events_of k es) (state_at (list_map st ys) k)) (sym e)
              (subst (λ l. Follows roles (rule_at (list_map rule (list_map kind xs)) i) (state_at (list_map st xs) i) l (state_at (list_map st ys) i)) (sym of.all)
              (follow _ _ _ one.moved))
          | inr ne ↦
              let same : state_at (list_map st ys) j ≡ state_at (list_map st xs) j =
              ap (λ ss. state_at ss j) one.others ∙ get_or-set_other (list_map st xs) i j (state_at (list_map st ys) i) nothing ne in
              subst (λ l. Follows roles (rule_at (list_map rule (list_map kind xs)) j) (state_at (list_map st xs) j) l (state_at (list_map st ys) j)) (sym (of.none j ne))
              (subst (λ t. Follows roles (rule_at (list_map rule (list_map kind xs)) j) (state_at (list_map st xs) j) [] t) (sym same) (Follows-none roles _ _))
        ];
      };
    }

module _ {B V : Type 0} (st : B → State) (kind : B → V) (rule : V → Fits) (roles : List Role) (xs ys : List B) (i : ℕ) where
  -- a listed call, read or write of the i-th
  pub AllFollow-answered : (caller : List ℕ) (entity : EntityNo) (o : Option ℕ) (args : List Value) (r : Answer) (a : Ask)
      → a ≡ ask_of (role_at roles entity.0) o args → OneMoved st kind rule xs i (λ f s t. Answered f s a r t) ys
      → AllFollow st kind rule roles xs (Called caller entity i o args (Asking r) ∷ []) ys
  AllFollow-answered caller entity o args r a e one =
      AllFollow-one st kind rule roles xs ys i _ _ (AreOf-one i _ refl) (λ f s t h. Answers-follow roles f s t caller entity i o args r a e h.moved) one

  -- a listed making of the i-th
  pub AllFollow-made : (caller : List ℕ) (entity : EntityNo) (o : Option ℕ) (args : List Value) (r : Made) (a : Ask)
      → a ≡ ask_of (role_at roles entity.0) o args → OneMoved st kind rule xs i (λ f s t. WasMade f s a r t) ys
      → AllFollow st kind rule roles xs (Called caller entity i o args (Making r) ∷ []) ys
  AllFollow-made caller entity o args r a e one =
      AllFollow-one st kind rule roles xs ys i _ _ (AreOf-one i _ refl) (λ f s t h. Makes-follow roles f s t caller entity i o args r a e h.moved) one

  -- an added reference is no event
  pub AllFollow-added : (k : ℕ) (b : Bool) → OneMoved st kind rule xs i (λ f s t. WasAdded s k b t) ys → AllFollow st kind rule roles xs [] ys
  AllFollow-added k b one = AllFollow-one st kind rule roles xs ys i _ _ (AreOf-none i) (λ f s t h. Adds-follow roles f s t k b h.moved) one

  -- a release is the end of the key, where it was the last reference
  pub AllFollow-released : (k : ℕ) (b : Bool) → OneMoved st kind rule xs i (λ f s t. WasReleased f s k b t) ys → AllFollow st kind rule roles xs (ends i k b) ys
  AllFollow-released k b one = AllFollow-one st kind rule roles xs ys i _ _ (AreOf-ends i k b) (λ f s t h. Releases-follow roles f s t i k b h.moved) one

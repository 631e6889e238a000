-- What a limit lets through, from one reset to the next.
use Rattle.std.specs.Prelude.{ℕ, ◌+◌, ◌-◌, ◌≡◌, ◌≤◌, ◌||◌, Bool, true, false, cond, not, nat_eq, List, [], ◌∷◌, Option}
use Rattle.std.proofs.Common.{refl, sym, ◌∙◌, ap, subst, arith, inl, inr}
use Rattle.std.proofs.lemmas.Bool.{eq-eqb, false≢true}
use Rattle.ang_kinds.specs.declared.value.Value.{Value}
use Rattle.ang_host.specs.declared.answer.Answer.TheVariants.{Void}
use Rattle.ang_host.specs.declared.answer.HostReply.{HostReply}
use Rattle.ang_host.specs.declared.answer.HostReply.TheVariants.{Asking}
use Rattle.ang_host.specs.declared.event.HostEvent.{HostEvent}
use Rattle.ang_host.specs.declared.event.HostEvent.TheVariants.{Called, Ended}
use Rattle.ang_host.specs.declared.event.Role.{Role}
use Rattle.ang_host.specs.State.{Ask, make, call, read, write, end}
use Rattle.ang_host.specs.Laws.{Fits}
use Rattle.ang_host.specs.Events.{ask_of, role_at, is_full, StaysIf, CoreMoves}
use Rattle.ang_drivers.specs.declared.limited.CallLimit.{CallLimit}
use Rattle.ang_drivers.specs.Limited.{limited_core, refusal, uses_one, left_after, CountedFits, InsideFits, LimitedFits}
use Rattle.ang_drivers.specs.LimitedEvents.{is_fault, answered_in, ResetsNothing}

-- ---- the core tells how many are left, the limit, and the core inside

cores_same : (l m : CallLimit) (a b : ℕ) (x y : List ℕ) → limited_core l a x ≡ limited_core m b y → (l ≡ m) × (a ≡ b) × (x ≡ y)
cores_same l m a b x y e =
    let left : a ≡ b = cc in
    let p : l.calls ≡ m.calls = cc in
    let q : l.fault ≡ m.fault = cc in
    let r : l.reset ≡ m.reset = cc in
    let inside : x ≡ y = cc in (λ i. record { calls = p i; fault = q i; reset = r i }, left, inside)

module _ (fits : Fits) (l : CallLimit) where
  -- a core that tells this moves so
  told : (left : ℕ) (x : List ℕ) (a : Ask) (r : HostReply) (d : List ℕ) → LimitedFits fits (limited_core l left x) a r d
      → (y : List ℕ) × (d ≡ limited_core l (left_after l left a) y) × InsideFits fits l left x a r y
  told left x a r d h =
      let s = cores_same l h.0 left h.1 x h.2 h.4 in
      let of_limit : InsideFits fits l h.1 h.2 a r h.3 = subst (λ k. InsideFits fits k h.1 h.2 a r h.3) (sym s.0) h.6 in
      let of_left : InsideFits fits l left h.2 a r h.3 = subst (λ k. InsideFits fits l k h.2 a r h.3) (sym s.1) of_limit in (
        h.3,
        h.5 ∙ (λ j. limited_core (sym s.0 j) (left_after (sym s.0 j) (sym s.1 j) a) h.3),
        subst (λ k. InsideFits fits l left k a r h.3) (sym s.2) of_left,
      )

  is_other : (b : Bool) → not b ≡ true → b ≡ false
  is_other false e = refl
  is_other true e = absurd (false≢true e)

  not_reset : (f : ℕ) → not (nat_eq f l.reset) ≡ true → f ≡ l.reset → ⊥
  not_reset f u e = false≢true (sym (ap not (eq-eqb f l.reset e)) ∙ u)

  inside_counted : (left : ℕ) (x : List ℕ) (a : Ask) (r : HostReply) (y : List ℕ) → uses_one l a ≡ true → InsideFits fits l left x a r y → CountedFits fits l left x a r y
  inside_counted left x (make f args) r y u h = h
  inside_counted left x (call f o args) r y u (inl h) = absurd (not_reset f u h.0)
  inside_counted left x (call f o args) r y u (inr h) = h.1
  inside_counted left x (read f o) r y u h = h
  inside_counted left x (write f o v) r y u h = h
  inside_counted left x (end k) r y u h = absurd (false≢true u)

  one_fewer : (left : ℕ) (a : Ask) → uses_one l a ≡ true → left_after l left a ≡ left - 1
  one_fewer left (make f args) u = refl
  one_fewer left (call f o args) u = ap (λ b. cond b l.calls (left - 1)) (is_other (nat_eq f l.reset) u)
  one_fewer left (read f o) u = refl
  one_fewer left (write f o v) u = refl
  one_fewer left (end k) u = absurd (false≢true u)

  one_used : (left : ℕ) (x : List ℕ) (a : Ask) (r : HostReply) (d : List ℕ) → uses_one l a ≡ true → LimitedFits fits (limited_core l left x) a r d
      → (y : List ℕ) × (d ≡ limited_core l (left - 1) y) × CountedFits fits l left x a r y
  one_used left x a r d u h =
      let t = told left x a r d h in (t.0, t.1 ∙ ap (λ n. limited_core l n t.0) (one_fewer left a u), inside_counted left x a r t.0 u t.2)

  -- ---- one host call

  refused_of : (x y : List ℕ) (a : Ask) (r : HostReply) (d : List ℕ) → d ≡ limited_core l 0 y → CountedFits fits l 0 x a r y → (r ≡ refusal l a) × (d ≡ limited_core l 0 x)
  refused_of x y a r d e (inl h) = (h.1, e ∙ ap (limited_core l 0) h.2)
  refused_of x y a r d e (inr h) = absurd (h.0 refl)

  pub refused_above : (x : List ℕ) (a : Ask) (r : HostReply) (d : List ℕ) → uses_one l a ≡ true → LimitedFits fits (limited_core l 0 x) a r d → (r ≡ refusal l a) × (d ≡ limited_core l 0 x)
  refused_above x a r d u h = let t = one_used 0 x a r d u h in refused_of x t.0 a r d t.1 t.2

  passed_of : (left : ℕ) (x y : List ℕ) (a : Ask) (r : HostReply) (d : List ℕ) → d ≡ limited_core l left y → CountedFits fits l (left + 1) x a r y
      → (z : List ℕ) × (d ≡ limited_core l left z) × fits x a r z
  passed_of left x y a r d e (inl h) = absurd (omega (arith, h.0))
  passed_of left x y a r d e (inr h) = (y, e, h.1)

  pub passed_below : (left : ℕ) (x : List ℕ) (a : Ask) (r : HostReply) (d : List ℕ) → uses_one l a ≡ true → LimitedFits fits (limited_core l (left + 1) x) a r d
      → (y : List ℕ) × (d ≡ limited_core l left y) × fits x a r y
  passed_below left x a r d u h =
      let t = one_used (left + 1) x a r d u h in
      let e : left + 1 - 1 ≡ left = omega arith in passed_of left x t.0 a r d (t.1 ∙ ap (λ n. limited_core l n t.0) e) t.2

  reset_of : (left : ℕ) (x y : List ℕ) (o : Option ℕ) (args : List Value) (r : HostReply) (d : List ℕ)
      → d ≡ limited_core l (left_after l left (call l.reset o args)) y → InsideFits fits l left x (call l.reset o args) r y
      → (r ≡ Asking Void) × (d ≡ limited_core l l.calls x)
  reset_of left x y o args r d e (inl h) = (
    h.1,
    e ∙ ap (λ b. limited_core l (cond b l.calls (left - 1)) y) (eq-eqb l.reset l.reset refl) ∙ ap (limited_core l l.calls) h.2,
  )
  reset_of left x y o args r d e (inr h) = absurd (h.0 refl)

  pub begins_anew : (left : ℕ) (x : List ℕ) (o : Option ℕ) (args : List Value) (r : HostReply) (d : List ℕ) → LimitedFits fits (limited_core l left x) (call l.reset o args) r d
      → (r ≡ Asking Void) × (d ≡ limited_core l l.calls x)
  begins_anew left x o args r d h = let t = told left x (call l.reset o args) r d h in reset_of left x t.0 o args r d t.1 t.2

  -- ---- many host calls

  refusal_is_fault : (a : Ask) → uses_one l a ≡ true → is_fault l.fault (refusal l a) ≡ true
  refusal_is_fault (make f args) u = eq-eqb l.fault l.fault refl
  refusal_is_fault (call f o args) u = eq-eqb l.fault l.fault refl
  refusal_is_fault (read f o) u = eq-eqb l.fault l.fault refl
  refusal_is_fault (write f o v) u = eq-eqb l.fault l.fault refl
  refusal_is_fault (end k) u = absurd (false≢true u)

  one_at_most : (b : Bool) → cond b 0 1 ≤ 1
  one_at_most true = omega arith
  one_at_most false = omega arith

  none_where : (b : Bool) → b ≡ true → cond b 0 1 ≤ 0
  none_where b e = let none : 0 ≤ 0 = omega arith in subst (λ c. cond c 0 1 ≤ 0) (sym e) none

  counted_at_most : (left k : ℕ) (x y : List ℕ) (a : Ask) (r : HostReply) → uses_one l a ≡ true → CountedFits fits l left x a r y → k ≤ left - 1 → cond (is_fault l.fault r) 0 1 + k ≤ left
  counted_at_most left k x y a r u (inl h) few = omega (arith, few, none_where (is_fault l.fault r) (ap (is_fault l.fault) h.1 ∙ refusal_is_fault a u))
  counted_at_most left k x y a r u (inr h) few = omega (arith, few, h.0, one_at_most (is_fault l.fault r))

  -- the number k of those that follow is at most what is left after the event
  step_at_most : (left k : ℕ) (x m : List ℕ) (a : Ask) (r : HostReply) (b : Bool) → uses_one l a ≡ true
      → StaysIf b (limited_core l left x) m (LimitedFits fits (limited_core l left x) a r m)
      → ((n : ℕ) (y : List ℕ) → m ≡ limited_core l n y → k ≤ n) → cond (b || is_fault l.fault r) 0 1 + k ≤ left
  step_at_most left k x m a r true u h more = omega (arith, more left x (sym h))
  step_at_most left k x m a r false u h more =
      let t = one_used left x a r m u h in counted_at_most left k x t.0 a r u t.2 (more (left - 1) t.0 t.1)

  pub at_most : (roles : List Role) (es : List HostEvent) (left : ℕ) (x c d : List ℕ) → c ≡ limited_core l left x → CoreMoves roles (LimitedFits fits) c es d
      → ResetsNothing roles l es → answered_in l.fault es ≤ left
  at_most roles [] left x c d e h u = omega arith
  at_most roles (Called caller entity driver object args reply ∷ es) left x c d e h u =
      let a = ask_of (role_at roles entity.0) object args in
      step_at_most left (answered_in l.fault es) x h.0 a reply (is_full reply) u.0
      (subst (λ k. StaysIf (is_full reply) k h.0 (LimitedFits fits k a reply h.0)) e h.1)
      (λ n y q. at_most roles es n y h.0 d q h.2 u.1)
  at_most roles (Ended driver key ∷ es) left x c d e h u =
      let t = told left x (end key) (Asking Void) h.0 (subst (λ k. LimitedFits fits k (end key) (Asking Void) h.0) e h.1) in
      at_most roles es left t.0 h.0 d t.1 h.2 u

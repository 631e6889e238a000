-- Counts as functions of the key.
use Rattle.std.specs.Prelude.{ℕ, ◌+◌, ◌≡◌, ◌<◌, Bool, true, false, cond, nat_eq, List, [], ◌∷◌, Option, Some, None, length, sum_by}
use Rattle.std.specs.Ordering.{nat_cmp}
use Rattle.std.specs.FinMap as map
use Rattle.std.specs.FinMap.{get-insert, get-remove, get-empty, len-empty, len-entries, same_map, nat_cmp-IsAntisymmetric}
use Rattle.std.proofs.lemmas.Cmp.{nat_cmp_total}
use Rattle.std.proofs.Common.{refl, sym, ◌∙◌, ap, arith}
use Rattle.std.proofs.lemmas.Bool.{eqb-true}
use Rattle.ang_host.specs.declared.answer.Made.{Made}
use Rattle.ang_host.specs.declared.answer.Made.TheVariants.{Key as MadeKey, Nothing, Fault as MadeFault, Memory as MadeMemory, Full as MadeFull}
use Rattle.ang_host.specs.declared.answer.Answer.{Answer}
use Rattle.ang_host.specs.declared.answer.Answer.TheVariants.{Void, Gave, Fault, Memory, Full}
use Rattle.ang_host.specs.State.{State, Ask, count_of, count_at, total}
use Rattle.ang_host.specs.Laws.{Fits, IsLive, IsSound, Adds, Releases, Makes, Answers}
use Rattle.ang_host.specs.Counts.{IsBalanced}
use Rattle.ang_host.proofs.Steps.{same_test}

-- one more where the keys are the same
abbrev pub one_if : Bool → ℕ
one_if b = cond b 1 0

at_insert : (m : map.FinMap nat_cmp ℕ) (k v q : ℕ) → count_at (map.insert m k v) q ≡ cond (nat_eq k q) v (count_at m q)
at_insert m k v q =
    ap count_of (get-insert nat_cmp_total m k v q) ∙ ap (λ b. count_of (cond b (Some v) (map.get m q))) (same_test q k)
    ∙ elim (nat_eq k q) as (λ b. count_of (cond b (Some v) (map.get m q)) ≡ cond b v (count_at m q)) [ true ↦ refl | false ↦ refl ]

at_remove : (m : map.FinMap nat_cmp ℕ) (k q : ℕ) → count_at (map.remove m k) q ≡ cond (nat_eq k q) 0 (count_at m q)
at_remove m k q =
    ap count_of (get-remove nat_cmp_total m k q) ∙ ap (λ b. count_of (cond b None (map.get m q))) (same_test q k)
    ∙ elim (nat_eq k q) as (λ b. count_of (cond b None (map.get m q)) ≡ cond b 0 (count_at m q)) [ true ↦ refl | false ↦ refl ]

at_key : (m : map.FinMap nat_cmp ℕ) (k n q : ℕ) → map.get m k ≡ Some n → nat_eq k q ≡ true → count_at m q ≡ n
at_key m k n q g e = ap (count_at m) (sym (eqb-true k q e)) ∙ ap count_of g

-- a count that goes from n to v at k alone
at_step : (m : map.FinMap nat_cmp ℕ) (k n v q a b : ℕ) → (map.get m k ≡ Some n) → v + a ≡ n + b → (c : Bool) → nat_eq k q ≡ c
    → cond c v (count_at m q) + cond c a 0 ≡ count_at m q + cond c b 0
at_step m k n v q a b g e true t = omega (arith, at_key m k n q g t, e)
at_step m k n v q a b g e false t = refl

pub Adds-count : (s t : State) (k : ℕ) → Adds s k true t → (q : ℕ) → count_at t.counts q ≡ count_at s.counts q + one_if (nat_eq k q)
Adds-count s t k h q =
    let e : count_at t.counts q ≡ cond (nat_eq k q) (h.0 + 1) (count_at s.counts q) = ap (λ m. count_at m q) h.2 ∙ at_insert s.counts k (h.0 + 1) q in
    let r = at_step s.counts k h.0 (h.0 + 1) q 0 1 h.1 (omega arith) (nat_eq k q) refl in
    elim (nat_eq k q) as (λ c. count_at t.counts q ≡ cond c (h.0 + 1) (count_at s.counts q) → cond c (h.0 + 1) (count_at s.counts q) + cond c 0 0 ≡ count_at s.counts q + cond c 1 0 → count_at t.counts q ≡ count_at s.counts q + one_if c)
    [ true ↦ λ x y. omega (arith, x, y) | false ↦ λ x y. omega (arith, x, y) ] e r

pub Releases-count : (fits : Fits) (s t : State) (k : ℕ) (b : Bool) → Releases fits s k b t → (q : ℕ) → count_at t.counts q + one_if (nat_eq k q) ≡ count_at s.counts q
Releases-count fits s t k true h q =
    let e : count_at t.counts q ≡ cond (nat_eq k q) 0 (count_at s.counts q) = ap (λ m. count_at m q) h.1 ∙ at_remove s.counts k q in
    let r = at_step s.counts k 1 0 q 1 0 h.0 (omega arith) (nat_eq k q) refl in
    elim (nat_eq k q) as (λ c. count_at t.counts q ≡ cond c 0 (count_at s.counts q) → cond c 0 (count_at s.counts q) + cond c 1 0 ≡ count_at s.counts q + cond c 0 0 → count_at t.counts q + one_if c ≡ count_at s.counts q)
    [ true ↦ λ x y. omega (arith, x, y) | false ↦ λ x y. omega (arith, x, y) ] e r
Releases-count fits s t k false h q =
    let e : count_at t.counts q ≡ cond (nat_eq k q) (h.0 + 1) (count_at s.counts q) = ap (λ m. count_at m q) h.2 ∙ at_insert s.counts k (h.0 + 1) q in
    let r = at_step s.counts k (h.0 + 2) (h.0 + 1) q 1 0 h.1 (omega arith) (nat_eq k q) refl in
    elim (nat_eq k q) as (λ c. count_at t.counts q ≡ cond c (h.0 + 1) (count_at s.counts q) → cond c (h.0 + 1) (count_at s.counts q) + cond c 1 0 ≡ count_at s.counts q + cond c 0 0 → count_at t.counts q + one_if c ≡ count_at s.counts q)
    [ true ↦ λ x y. omega (arith, x, y) | false ↦ λ x y. omega (arith, x, y) ] e r

live_option : (o : Option ℕ) → 0 < count_of o → (n : ℕ) × (o ≡ Some n)
live_option None h = absurd (omega (arith, h))
live_option (Some n) h = (n, refl)

-- what is held is live
pub IsLive-held : (s : State) (k : ℕ) → 0 < count_at s.counts k → IsLive s k
IsLive-held s k h = live_option (map.get s.counts k) h

none_option : (o : Option ℕ) → ((n : ℕ) → o ≡ Some n → 0 < n) → count_of o ≡ 0 → o ≡ None
none_option None p h = refl
none_option (Some n) p h = absurd (omega (arith, p n refl, h))

total_nil : (es : List (ℕ × ℕ)) → length es ≡ 0 → sum_by (λ e. e.1) es ≡ 0
total_nil [] e = refl
total_nil (x ∷ es) e = absurd (omega (arith, e))

pub total-empty : total map.empty ≡ 0
total-empty =
    let e : length (map.entries (map.empty {K = ℕ} {X = ℕ} {R = nat_cmp})) ≡ 0 = sym (len-entries map.empty) ∙ len-empty nat_cmp ℕ in
    total_nil (map.entries map.empty) e

pub IsBalanced-none : (s : State) → IsSound s → ((k : ℕ) → count_at s.counts k ≡ 0) → IsBalanced s
IsBalanced-none s sound h =
    let e : s.counts ≡ map.empty = same_map nat_cmp_total nat_cmp-IsAntisymmetric s.counts map.empty
    (λ q. none_option (map.get s.counts q) (sound.positive q) (h q) ∙ sym (get-empty nat_cmp q)) in
    record { none = h; sums = omega (arith, sound.sums, ap total e, total-empty) }

at_none : (m : map.FinMap nat_cmp ℕ) (k q : ℕ) → map.get m k ≡ None → (c : Bool) → nat_eq k q ≡ c → cond c 1 (count_at m q) ≡ count_at m q + one_if c
at_none m k q g true t =
    let z : count_at m q ≡ 0 = ap (count_at m) (sym (eqb-true k q t)) ∙ ap count_of g in omega (arith, z)
at_none m k q g false t = omega arith

pub Makes-count : (fits : Fits) (s t : State) (a : Ask) (k : ℕ) → Makes fits s a (MadeKey k) t → (q : ℕ) → count_at t.counts q ≡ count_at s.counts q + one_if (nat_eq k q)
Makes-count fits s t a k h q = ap (λ m. count_at m q) h.1 ∙ at_insert s.counts k 1 q ∙ at_none s.counts k q h.0 (nat_eq k q) refl

-- a host call that is answered by no key changes no count
pub Answers-counts : (fits : Fits) (s t : State) (a : Ask) (r : Answer) → Answers fits s a r t → t.counts ≡ s.counts
Answers-counts fits s t a Void h = h.0
Answers-counts fits s t a (Gave v) h = h.0
Answers-counts fits s t a (Fault n) h = h.0
Answers-counts fits s t a Memory h = h.0
Answers-counts fits s t a Full h = ap (λ x. x.counts) h.0

-- a making that answers no key changes no count
pub Makes-counts : (fits : Fits) (s t : State) (a : Ask) (r : Made) → ((k : ℕ) → r ≡ MadeKey k → ⊥) → Makes fits s a r t → t.counts ≡ s.counts
Makes-counts fits s t a (MadeKey k) none h = absurd (none k refl)
Makes-counts fits s t a Nothing none h = h.0
Makes-counts fits s t a (MadeFault n) none h = h.0
Makes-counts fits s t a MadeMemory none h = h.0
Makes-counts fits s t a MadeFull none h = ap (λ x. x.counts) h.0

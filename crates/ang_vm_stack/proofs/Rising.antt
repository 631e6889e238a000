-- Methods whose slots rise: which part of them has a slot, and what a stable sort and the first one of each slot leave.
use Rattle.std.proofs.Common.{◌≡◌, ◌<◌, map as list_map, ◌≤◌, ℕ, zero, suc, List, [], ◌∷◌, length, get_or, ◌++◌, refl, sym, ap, ◌∙◌, subst, arith, Option, Some, None, cond}
use Rattle.std.specs.Prelude.{◌≢◌, Bool, true, false, not, ◌&&◌, ◌==◌, nat_eq, slice_get, option_map, find, ⊤}
use Rattle.std.specs.List.{dedup, dedup_from, filter}
use Rattle.std.specs.List.Sorted.{IsNonDecreasingBy, IsStableByKey, ties}
use Rattle.std.specs.Ordering.{nat_cmp, is_lt}
use Rattle.std.proofs.lemmas.Bool.{eq-eqb, eqb-true}
use Rattle.std.proofs.lemmas.Bool.Decides.{nat_tests}
use Rattle.std.proofs.lemmas.List.{get_or-map, length-map}
use Rattle.ang_meaning.specs.declared.routine.Routine.{Routine}
use Rattle.ang_vm_stack.specs.declared.methods.MethodEntry.{MethodEntry}
use Rattle.ang_vm_stack.specs.declared.methods.MethodRow.{MethodRow}
use Rattle.ang_vm_stack.specs.Slots.{RiseFrom, entry_of}
use Rattle.ang_vm_stack.specs.Tables.{method_in}

-- ---- where a slot is

rise_lower : (n k : ℕ) (xs : List MethodEntry) → k ≤ n → RiseFrom n xs → RiseFrom k xs
rise_lower n k [] le r = tt
rise_lower n k (x ∷ xs) le r = (omega (arith, r.0), r.1)

-- the middle item is no lower than the first slot may be
middle_least : (n : ℕ) (us : List MethodEntry) (y : MethodEntry) (vs : List MethodEntry) → RiseFrom n (us ++ y ∷ vs) → n ≤ y.slot
middle_least n [] y vs r = r.0
middle_least n (u ∷ us) y vs r = omega (arith, r.0, middle_least (suc u.slot) us y vs r.1)

pub rise_front : (n : ℕ) (us vs : List MethodEntry) → RiseFrom n (us ++ vs) → RiseFrom n us
rise_front n [] vs r = tt
rise_front n (u ∷ us) vs r = (r.0, rise_front (suc u.slot) us vs r.1)

pub rise_back : (n : ℕ) (us : List MethodEntry) (y : MethodEntry) (vs : List MethodEntry) → RiseFrom n (us ++ y ∷ vs) → RiseFrom n vs
rise_back n [] y vs r = rise_lower (suc y.slot) n vs (omega (arith, r.0)) r.1
rise_back n (u ∷ us) y vs r = rise_lower (suc u.slot) n vs (omega (arith, r.0)) (rise_back (suc u.slot) us y vs r.1)

abbrev function_in : Option MethodEntry → Option Routine
function_in o = option_map (λ (m : MethodEntry). m.function) o

abbrev first_of : List MethodEntry → ℕ → Option MethodEntry
first_of xs s = find (λ (m : MethodEntry). nat_eq m.slot s) xs

-- the first one is skipped, or is taken
skipped : (s : ℕ) (x : MethodEntry) (xs : List MethodEntry) → x.slot ≢ s → method_in (x ∷ xs) s ≡ method_in xs s
skipped s x xs differs =
    let other : nat_eq x.slot s ≡ false = grind (arith, nat_tests) in
    ap (λ b. function_in (cond b (Some x) (first_of xs s))) other

taken : (s : ℕ) (x : MethodEntry) (xs : List MethodEntry) → x.slot ≡ s → method_in (x ∷ xs) s ≡ Some x.function
taken s x xs same = ap (λ b. function_in (cond b (Some x) (first_of xs s))) (eq-eqb x.slot s same)

-- what comes after the first one may be exchanged
after_first : (x : MethodEntry) (b : Bool) (o p : Option MethodEntry) → function_in o ≡ function_in p → function_in (cond b (Some x) o) ≡ function_in (cond b (Some x) p)
after_first x true o p same = refl
after_first x false o p same = same

place_least : (n i : ℕ) (xs : List MethodEntry) (y : MethodEntry) → RiseFrom n xs → i < length xs → y ≡ get_or xs i y → n ≤ y.slot
place_least n i [] y r lt is = absurd (omega arith)
place_least n zero (x ∷ xs) y r lt is = subst (λ (z : MethodEntry). n ≤ z.slot) (sym is) r.0
place_least n (suc i) (x ∷ xs) y r lt is = omega (arith, r.0, place_least (suc x.slot) i xs y r.1 (omega arith) is)

-- no slot is below the first one
none_below : (s n : ℕ) (xs : List MethodEntry) → RiseFrom n xs → s < n → method_in xs s ≡ None
none_below s n [] r lt = refl
none_below s n (x ∷ xs) r lt = skipped s x xs (λ e. omega (arith, r.0, e)) ∙ none_below s (suc x.slot) xs r.1 (omega (arith, r.0))

-- the middle item has the slot, or else those above it or below it
pub in_middle : (s n : ℕ) (us : List MethodEntry) (y : MethodEntry) (vs : List MethodEntry) → RiseFrom n (us ++ y ∷ vs) → y.slot ≡ s → method_in (us ++ y ∷ vs) s ≡ Some y.function
in_middle s n [] y vs r at = taken s y vs at
in_middle s n (u ∷ us) y vs r at =
    skipped s u (us ++ y ∷ vs) (λ e. omega (arith, middle_least (suc u.slot) us y vs r.1)) ∙ in_middle s (suc u.slot) us y vs r.1 at

pub in_back : (s n : ℕ) (us : List MethodEntry) (y : MethodEntry) (vs : List MethodEntry) → RiseFrom n (us ++ y ∷ vs) → y.slot < s → method_in vs s ≡ method_in (us ++ y ∷ vs) s
in_back s n [] y vs r lt = sym (skipped s y vs (λ e. omega arith))
in_back s n (u ∷ us) y vs r lt =
    in_back s (suc u.slot) us y vs r.1 lt ∙ sym (skipped s u (us ++ y ∷ vs) (λ e. omega (arith, middle_least (suc u.slot) us y vs r.1)))

pub in_front : (s n : ℕ) (us : List MethodEntry) (y : MethodEntry) (vs : List MethodEntry) → RiseFrom n (us ++ y ∷ vs) → s < y.slot → method_in us s ≡ method_in (us ++ y ∷ vs) s
in_front s n [] y vs r lt = sym (none_below s y.slot (y ∷ vs) (omega arith, r.1) lt)
in_front s n (u ∷ us) y vs r lt =
    after_first u (nat_eq u.slot s) (first_of us s) (first_of (us ++ y ∷ vs) s) (in_front s (suc u.slot) us y vs r.1 lt)

-- an item of the list
pub at_place : (s n i : ℕ) (xs : List MethodEntry) (y : MethodEntry) → RiseFrom n xs → i < length xs → y ≡ get_or xs i y → y.slot ≡ s → method_in xs s ≡ Some y.function
at_place s n i [] y r lt is at = absurd (omega arith)
at_place s n zero (x ∷ xs) y r lt is at = subst (λ (z : MethodEntry). method_in (z ∷ xs) s ≡ Some y.function) is (taken s y xs at)
at_place s n (suc i) (x ∷ xs) y r lt is at =
    skipped s x xs (λ e. omega (arith, place_least (suc x.slot) i xs y r.1 (omega arith) is)) ∙ at_place s (suc x.slot) i xs y r.1 (omega arith) is at

-- the same of a row
pub at_row : (s home i : ℕ) (rows : List MethodRow) (y : MethodRow) → RiseFrom 0 (list_map (entry_of home) rows) → i < length rows → y ≡ get_or rows i y → y.slot ≡ s → method_in (list_map (entry_of home) rows) s ≡ Some (entry_of home y).function
at_row s home i rows y r lt is at =
    let entry = entry_of home in
    at_place s 0 i (list_map entry rows) (entry y) r (omega (arith, lt, length-map rows entry)) (ap entry is ∙ sym (get_or-map entry rows i y (entry y) lt)) at

-- ---- a stable sort by slot

heads : (x : MethodEntry) (b : Bool) (o : Option MethodEntry) (ys : List MethodEntry) → o ≡ slice_get ys 0 → cond b (Some x) o ≡ slice_get (cond b (x ∷ ys) ys) 0
heads x true o ys same = refl
heads x false o ys same = same

-- the first one that passes stands first among those that pass
first_passing : (p q : MethodEntry → Bool) → ((x : MethodEntry) → p x ≡ q x) → (xs : List MethodEntry) → find p xs ≡ slice_get (filter q xs) 0
first_passing p q alike [] = refl
first_passing p q alike (x ∷ xs) =
    ap (λ b. cond b (Some x) (find p xs)) (alike x) ∙ heads x (q x) (find p xs) (filter q xs) (first_passing p q alike xs)

abbrev before : MethodEntry → MethodEntry → Bool
before x y = is_lt (nat_cmp x.slot y.slot)

tie_same : (a b : ℕ) → nat_eq b a ≡ not (is_lt (nat_cmp a b)) && not (is_lt (nat_cmp b a))
tie_same a b = grind (arith, nat_tests)

pub sorted_same : (xs ys : List MethodEntry) → IsStableByKey (λ (m : MethodEntry). m.slot) nat_cmp xs ys → (s : ℕ) → method_in ys s ≡ method_in xs s
sorted_same xs ys stable s =
    let row : MethodEntry = record { slot = s; function = record { home = 0; number = 0 } } in
    let passes : (zs : List MethodEntry) → first_of zs s ≡ slice_get (filter (ties before row) zs) 0 = first_passing (λ (m : MethodEntry). nat_eq m.slot s) (ties before row) (λ m. tie_same s m.slot) in
    ap function_in (passes ys ∙ ap (λ zs. slice_get zs 0) (stable row) ∙ sym (passes xs))

-- ---- the first one of each slot

abbrev pub same_slot : MethodEntry → MethodEntry → Bool
same_slot x y = x.slot == y.slot

differ : (a b : ℕ) → nat_eq a b ≡ false → a ≢ b
differ a b is = grind (arith, nat_tests)

repeated : (s : ℕ) (k x : MethodEntry) (xs : List MethodEntry) (b : Bool) → nat_eq k.slot s ≡ b → x.slot ≡ k.slot → function_in (cond b (Some k) (first_of xs s)) ≡ function_in (cond b (Some k) (first_of (x ∷ xs) s))
repeated s k x xs true is same = refl
repeated s k x xs false is same =
    sym (skipped s x xs (λ e. differ k.slot s is (sym same ∙ e)))

joined : (s : ℕ) (k x : MethodEntry) (xs kept_of_k kept_of_x : List MethodEntry) (b : Bool) → same_slot x k ≡ b → method_in kept_of_k s ≡ method_in (k ∷ xs) s → method_in kept_of_x s ≡ method_in (x ∷ xs) s
    → method_in (cond b kept_of_k (k ∷ kept_of_x)) s ≡ method_in (k ∷ x ∷ xs) s
joined s k x xs us vs true is of_k of_x = of_k ∙ repeated s k x xs (nat_eq k.slot s) refl (eqb-true x.slot k.slot is)
joined s k x xs us vs false is of_k of_x = after_first k (nat_eq k.slot s) (first_of vs s) (first_of (x ∷ xs) s) of_x

kept_from : (s : ℕ) (k : MethodEntry) (xs : List MethodEntry) → method_in (dedup_from same_slot k xs) s ≡ method_in (k ∷ xs) s
kept_from s k [] = refl
kept_from s k (x ∷ xs) = joined s k x xs (dedup_from same_slot k xs) (dedup_from same_slot x xs) (same_slot x k) refl (kept_from s k xs) (kept_from s x xs)

pub kept_same : (xs : List MethodEntry) (s : ℕ) → method_in (dedup same_slot xs) s ≡ method_in xs s
kept_same [] s = refl
kept_same (x ∷ xs) s = kept_from s x xs

-- the first slot is n or more, and none is below the one before it
abbrev Climb : ℕ → List MethodEntry → Type 0
Climb n [] = ⊤
Climb n (x ∷ xs) = (n ≤ x.slot) × Climb x.slot xs

climbing : (x : MethodEntry) (xs : List MethodEntry) → IsNonDecreasingBy (λ (m : MethodEntry). m.slot) (x ∷ xs) → Climb x.slot xs
climbing x [] up = tt
climbing x (y ∷ ys) up = (up 0 1 x (omega arith) (omega arith), climbing y ys (λ i j d le lt. up (suc i) (suc j) d (omega (arith, le)) (omega (arith, lt))))

rising : (n : ℕ) (k x : MethodEntry) (us vs : List MethodEntry) (b : Bool) → same_slot x k ≡ b → n ≤ k.slot → k.slot ≤ x.slot → (x.slot ≡ k.slot → RiseFrom n us) → (k.slot < x.slot → RiseFrom (suc k.slot) vs) → RiseFrom n (cond b us (k ∷ vs))
rising n k x us vs true is le up of_k of_x = of_k (eqb-true x.slot k.slot is)
rising n k x us vs false is le up of_k of_x = (le, of_x (grind (arith, nat_tests)))

rise_from : (n : ℕ) (k : MethodEntry) (xs : List MethodEntry) → n ≤ k.slot → Climb k.slot xs → RiseFrom n (dedup_from same_slot k xs)
rise_from n k [] le c = (le, tt)
rise_from n k (x ∷ xs) le c =
    rising n k x (dedup_from same_slot k xs) (dedup_from same_slot x xs) (same_slot x k) refl le c.0
    (λ e. rise_from n k xs le (subst (λ (a : ℕ). Climb a xs) e c.1))
    (λ lt. rise_from (suc k.slot) x xs (omega arith) c.1)

pub kept_rise : (xs : List MethodEntry) → IsNonDecreasingBy (λ (m : MethodEntry). m.slot) xs → RiseFrom 0 (dedup same_slot xs)
kept_rise [] up = tt
kept_rise (x ∷ xs) up = rise_from 0 x xs (omega arith) (climbing x xs up)

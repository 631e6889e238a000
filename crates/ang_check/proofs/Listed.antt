-- The denials of a build are the rows of its refused uses.
use Rattle.std.specs.Prelude.{ℕ, zero, suc, Bool, true, false, ◌≡◌, ◌<◌, ◌≤◌, ◌+◌, ◌⊎◌, ◌↔◌, cond, Contains, List, [], ◌∷◌, length, map, filter, flat_map, slice_index_or, Option, Some, None}
use Rattle.std.specs.List.{range_with_len}
use Rattle.std.proofs.Common.{arith, refl, sym, subst, ap, inl, inr, ◌∙◌}
use Rattle.std.proofs.lemmas.List.Elements.{Contains-append_left, Contains-append_right, Contains-append_cases}
use Rattle.ang_kinds.specs.declared.error.Denial.{Denial}
use Rattle.ang_types.specs.declared.asks.Asks.{Asks}
use Rattle.ang_types.specs.declared.asks.Refused.{Refused}
use Rattle.ang_view.specs.Registration.{RegistrationList, seen}
use Rattle.ang_names_listed.specs.Sources.{Source}
use Rattle.ang_check_contest.specs.Scopes.{Scope}
use Rattle.ang_check_denials.specs.Denials.{denied, row, rows_asked, rows_for}
use Rattle.ang_check.specs.Denials.{script_refusals, scope_over, denials_of, IsRowOf}

-- ---- what is in a list

none_in : {A P : Type 0} (x : A) → Contains [] x → P
none_in x c = absurd (omega (arith, c.1))

here : {A : Type 0} (x : A) (xs : List A) → Contains (x ∷ xs) x
here x xs = (0, omega arith, refl)

there : {A : Type 0} (y x : A) (xs : List A) → Contains xs x → Contains (y ∷ xs) x
there y x xs c = (suc c.0, omega (arith, c.1), c.2)

first_or_later : {A : Type 0} (y x : A) (xs : List A) (k : ℕ) → k < length (y ∷ xs) → slice_index_or (y ∷ xs) k x ≡ x → (y ≡ x) ⊎ Contains xs x
first_or_later y x xs zero lt e = inl e
first_or_later y x xs (suc k) lt e = inr (k, omega (arith, lt), e)

in_parts : {A : Type 0} (y x : A) (xs : List A) → Contains (y ∷ xs) x → (y ≡ x) ⊎ Contains xs x
in_parts y x xs c = first_or_later y x xs c.0 c.1 c.2

from_flat_map : {A B : Type 0} (f : A → List B) (xs : List A) (d : B) → Contains (flat_map f xs) d → (x : A) × Contains xs x × Contains (f x) d
from_flat_map f [] d c = none_in d c
from_flat_map f (x ∷ xs) d c =
    elim (Contains-append_cases (f x) (flat_map f xs) d c) [
      | inl own ↦ (x, here x xs, own)
      | inr later ↦ let r = from_flat_map f xs d later in (r.0, there x r.0 xs r.1, r.2)
    ]

to_flat_map : {A B : Type 0} (f : A → List B) (xs : List A) (x : A) (d : B) → Contains xs x → Contains (f x) d → Contains (flat_map f xs) d
to_flat_map f [] x d c own = none_in x c
to_flat_map f (y ∷ xs) x d c own =
    elim (in_parts y x xs c) [
      | inl same ↦ Contains-append_left (f y) (flat_map f xs) d (subst (λ z. Contains (f z) d) (sym same) own)
      | inr later ↦ Contains-append_right (f y) (flat_map f xs) d (to_flat_map f xs x d later own)
    ]

from_map : {A B : Type 0} (f : A → B) (xs : List A) (d : B) → Contains (map f xs) d → (x : A) × Contains xs x × (f x ≡ d)
from_map f [] d c = none_in d c
from_map f (x ∷ xs) d c =
    elim (in_parts (f x) d (map f xs) c) [
      | inl same ↦ (x, here x xs, same)
      | inr later ↦ let r = from_map f xs d later in (r.0, there x r.0 xs r.1, r.2)
    ]

to_map : {A B : Type 0} (f : A → B) (xs : List A) (x : A) → Contains xs x → Contains (map f xs) (f x)
to_map f [] x c = none_in x c
to_map f (y ∷ xs) x c =
    elim (in_parts y x xs c) [
      | inl same ↦ subst (λ z. Contains (map f (y ∷ xs)) (f z)) same (here (f y) (map f xs))
      | inr later ↦ there (f y) (f x) (map f xs) (to_map f xs x later)
    ]

from_kept : {A : Type 0} (p : A → Bool) (y x : A) (xs : List A) (b : Bool) → p y ≡ b → (Contains (filter p xs) x → Contains xs x × (p x ≡ true))
    → Contains (cond b (y ∷ filter p xs) (filter p xs)) x → Contains (y ∷ xs) x × (p x ≡ true)
from_kept p y x xs true e rest c =
    elim (in_parts y x (filter p xs) c) [
      | inl same ↦ (subst (λ z. Contains (y ∷ xs) z) same (here y xs), ap p (sym same) ∙ e)
      | inr later ↦ let r = rest later in (there y x xs r.0, r.1)
    ]
from_kept p y x xs false e rest c = let r = rest c in (there y x xs r.0, r.1)

from_filter : {A : Type 0} (p : A → Bool) (xs : List A) (x : A) → Contains (filter p xs) x → Contains xs x × (p x ≡ true)
from_filter p [] x c = none_in x c
from_filter p (y ∷ xs) x c = from_kept p y x xs (p y) refl (from_filter p xs x) c

to_kept : {A : Type 0} (p : A → Bool) (y x : A) (xs : List A) (b : Bool) → p y ≡ b → p x ≡ true → (y ≡ x) ⊎ Contains (filter p xs) x
    → Contains (cond b (y ∷ filter p xs) (filter p xs)) x
to_kept p y x xs true e h (inl same) = subst (λ z. Contains (y ∷ filter p xs) z) same (here y (filter p xs))
to_kept p y x xs true e h (inr later) = there y x (filter p xs) later
to_kept p y x xs false e h (inl same) = let no' : false ≡ true = sym e ∙ ap p same ∙ h in cc
to_kept p y x xs false e h (inr later) = later

to_filter : {A : Type 0} (p : A → Bool) (xs : List A) (x : A) → Contains xs x → p x ≡ true → Contains (filter p xs) x
to_filter p [] x c h = none_in x c
to_filter p (y ∷ xs) x c h =
    elim (in_parts y x xs c) [
      | inl same ↦ to_kept p y x xs (p y) refl h (inl same)
      | inr later ↦ to_kept p y x xs (p y) refl h (inr (to_filter p xs x later h))
    ]

from_range : (a n x : ℕ) → Contains (range_with_len a n) x → x < a + n
from_range a zero x c = none_in x c
from_range a (suc n) x c =
    elim (in_parts a x (range_with_len (a + 1) n) c) [
      | inl same ↦ omega (arith, same)
      | inr later ↦ let r = from_range (a + 1) n x later in omega (arith, r)
    ]

order : (a x : ℕ) → a ≤ x → (a ≡ x) ⊎ (a + 1 ≤ x)
order a x le = grind arith

to_range : (a n x : ℕ) → a ≤ x → x < a + n → Contains (range_with_len a n) x
to_range a zero x le lt = absurd (omega (arith, le, lt))
to_range a (suc n) x le lt =
    elim (order a x le) [
      | inl same ↦ subst (λ z. Contains (range_with_len a (suc n)) z) same (here a (range_with_len (a + 1) n))
      | inr less ↦ there a x (range_with_len (a + 1) n) (to_range (a + 1) n x less (omega (arith, lt)))
    ]

-- ---- rows

module _ (R : RegistrationList) (m : ℕ) (ss : List Source) (d : Denial) where
  abbrev over : Scope
  over = scope_over (seen R m) ss

  of_asks : (r : Refused) → Contains (script_refusals (seen R m) ss) r → (o : Option Asks) → r.asks ≡ o → Contains (rows_asked R m over r o) d → IsRowOf R m ss d
  of_asks r c None e own = none_in d own
  of_asks r c (Some a) e own =
      let x = from_map (row R m r) (filter (denied R m over r a) (range_with_len 0 (length R))) d own in
      let y = from_filter (denied R m over r a) (range_with_len 0 (length R)) x.0 x.1 in
      let lt = from_range 0 (length R) x.0 y.0 in
      (r, a, x.0, c, e, omega (arith, lt), y.1, sym x.2)

  told : Contains (denials_of R m ss) d → IsRowOf R m ss d
  unfolding denials_of
  told c =
      let r = from_flat_map (rows_for R m over) (script_refusals (seen R m) ss) d c in
      of_asks r.0 r.1 r.0.asks refl r.2

  listed : IsRowOf R m ss d → Contains (denials_of R m ss) d
  unfolding denials_of
  listed h =
      let kept = to_filter (denied R m over h.0 h.1) (range_with_len 0 (length R)) h.2 (to_range 0 (length R) h.2 (omega arith) (omega (arith, h.5))) h.6 in
      let own : Contains (rows_asked R m over h.0 (Some h.1)) (row R m h.0 h.2) = to_map (row R m h.0) (filter (denied R m over h.0 h.1) (range_with_len 0 (length R))) h.2 kept in
      let asked : Contains (rows_for R m over h.0) (row R m h.0 h.2) = subst (λ o. Contains (rows_asked R m over h.0 o) (row R m h.0 h.2)) (sym h.4) own in
      to_flat_map (rows_for R m over) (script_refusals (seen R m) ss) h.0 d h.3 (subst (λ z. Contains (rows_for R m over h.0) z) (sym h.7) asked)

pub each_help_is_listed : (R : RegistrationList) (m : ℕ) (ss : List Source) (d : Denial) → Contains (denials_of R m ss) d ↔ IsRowOf R m ss d
each_help_is_listed R m ss d = (told R m ss d, listed R m ss d)

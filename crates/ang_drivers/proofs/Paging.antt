-- Objects by key in pages: what a look-up finds, and what a change of one page changes.
use Rattle.std.specs.Prelude.{ℕ, zero, suc, ◌+◌, ◌-◌, ◌*◌, ◌/◌, ◌%◌, ◌≡◌, ◌<◌, ◌≤◌, min, Bool, true, false, not, cond, nat_eq, is_some, IsSome, List, [], ◌∷◌, ◌++◌, length, Option, Some, None, slice_index_or, slice_set, count_by}
use Rattle.std.specs.List.{flat_map, filter, remove}
use Rattle.std.specs.Map.{lookup}
use Rattle.std.specs.BTreeMap.{is_at}
use Rattle.std.specs.Ordering.{nat_cmp, is_eq, is_lt, ordering_index}
use Rattle.std.specs.declared.cmp.Ordering.TheVariants.{Less, Equal, Greater}
use Rattle.std.specs.FinMap.{nat_cmp-IsAntisymmetric}
use Rattle.std.specs.List.Sorted.{IsSearchInRange, IsBinarySearchResult, IsNonDecreasingBy}
use Rattle.std.proofs.Common.{Result, Ok, Err, IfOk, IfErr, refl, sym, ◌∙◌, ap, subst, arith, inl, inr}
use Rattle.std.proofs.lemmas.Bool.{eq-eqb, ne_eqb, eqb-true, le-ltb, cases_eq, cases_lt}
use Rattle.std.proofs.lemmas.Cmp.{nat_cmp_total}
use Rattle.std.proofs.lemmas.List.{get_or_default}
use Rattle.std.proofs.lemmas.List.Sorted.{searchable_from_sorted}
use Rattle.std.proofs.lemmas.List.Sums.{sum_by-cons, sum_by-set, sum_by_push}
use Rattle.std.proofs.lemmas.Nat.{mod_below, div-add-mod'}
use Rattle.ang_host.proofs.Steps.{same_test}
use Rattle.ang_drivers.specs.Pages.{IsRising, ArePages, IsEntryAt, HasEachBelow}

-- ---- tests of keys

abbrev hits : ℕ → ℕ → Bool
hits k q = is_at (nat_cmp k) q

hit : (k q : ℕ) → k ≡ q → hits k q ≡ true
hit k q e = same_test k q ∙ eq-eqb q k (sym e)

miss : (k q : ℕ) → (k ≡ q → ⊥) → hits k q ≡ false
miss k q ne = same_test k q ∙ ne_eqb q k (λ e. ne (sym e))

-- the page of a key
pub page_from : (k : ℕ) → 64 * (k / 64) ≤ k
page_from k = let d : k / 64 * 64 + k % 64 ≡ k = div-add-mod' k 64 in omega (arith, d)

pub page_to : (k : ℕ) → k < 64 * (k / 64) + 64
page_to k =
    let d : k / 64 * 64 + k % 64 ≡ k = div-add-mod' k 64 in
    let m : k % 64 < 64 = mod_below k 64 (omega arith) in
    omega (arith, d, m)

-- ---- lengths

pub half_grows : (n more : ℕ) → more ≡ n + 1 → n / 2 ≤ more / 2
half_grows n more e =
    let a : n / 2 * 2 + n % 2 ≡ n = div-add-mod' n 2 in
    let b : more / 2 * 2 + more % 2 ≡ more = div-add-mod' more 2 in
    let c : more % 2 < 2 = mod_below more 2 (omega arith) in
    omega (arith, e, a, b, c)

some_pushed : {E : Type 0} (es : List E) (e : E) → 0 < length (es ++ e ∷ [])
some_pushed [] e = omega arith
some_pushed (x ∷ es) e = omega arith

-- a list of which n is the length
pub some_if : {E : Type 0} (n : ℕ) (es : List E) → n ≡ length es → 0 < length es → nat_eq n 0 ≡ false
some_if n es len some = ne_eqb n 0 (λ e. absurd (omega (arith, len, some, e)))

pub pushed_some : {E : Type 0} (n : ℕ) (es front : List E) (e : E) → n ≡ length es → es ≡ front ++ e ∷ [] → nat_eq n 0 ≡ false
pushed_some n es front e len is = some_if n es len (subst (λ xs. 0 < length xs) (sym is) (some_pushed front e))

pub none_if_zero : {E : Type 0} (n : ℕ) (es : List E) → n ≡ length es → nat_eq n 0 ≡ true → es ≡ []
none_if_zero n [] len t = refl
none_if_zero n (e ∷ es) len t = absurd (omega (arith, len, eqb-true n 0 t))

-- ---- the order of keys

neither : (b : Bool) → is_lt (cond b Equal Greater) ≡ false
neither true = refl
neither false = refl

not_less : (x y : ℕ) → y ≤ x → is_lt (nat_cmp x y) ≡ false
not_less x y le = ap (λ b. is_lt (cond b Less (cond (nat_eq x y) Equal Greater))) (le-ltb x y le) ∙ neither (nat_eq x y)

one_on : (j : ℕ) → suc j ≡ j + 1
one_on j = omega arith

other : (x k : ℕ) → is_eq (nat_cmp x k) ≡ false → x ≡ k → ⊥
other x k f e = let t : false ≡ true = sym f ∙ hit x k e in let z : ⊥ = cc in z

-- ---- options

abbrev either : {A : Type 0} → Option A → Option A → Option A
either None o = o
either (Some x) o = Some x

either_none : {A : Type 0} (o : Option A) → either o None ≡ o
either_none None = refl
either_none (Some x) = refl

either_cond : {A : Type 0} (b : Bool) (x : A) (o p : Option A) → cond b (Some x) (either o p) ≡ either (cond b (Some x) o) p
either_cond true x o p = refl
either_cond false x o p = refl

swapped : {A : Type 0} (a b : Bool) (x y z : A) → (a ≡ true → b ≡ false) → cond b y (cond a x z) ≡ cond a x (cond b y z)
swapped true b x y z h = ap (λ c. cond c y x) (h refl)
swapped false b x y z h = refl

either_assoc : {A : Type 0} (o p q : Option A) → either o (either p q) ≡ either (either o p) q
either_assoc None p q = refl
either_assoc (Some x) p q = refl

module _ {O : Type 0} where
  abbrev pub at : ℕ → List (ℕ × O) → Option O
  at q es = lookup (is_at (nat_cmp q)) es

  at-append : (q : ℕ) (xs ys : List (ℕ × O)) → at q (xs ++ ys) ≡ either (at q xs) (at q ys)
  at-append q [] ys = refl
  at-append q (e ∷ xs) ys = ap (cond (hits q e.0) (Some e.1)) (at-append q xs ys) ∙ either_cond (hits q e.0) e.1 (at q xs) (at q ys)

  -- ---- a page

  none_below : (low high q : ℕ) (es : List (ℕ × O)) → IsRising low high es → q < low → at q es ≡ None
  none_below low high q [] h lt = refl
  none_below low high q (e ∷ es) h lt =
      let from : low ≤ e.0 = h.0 in
      let ne : q ≡ e.0 → ⊥ = λ s. absurd (omega (arith, s, lt, from)) in
      ap (λ b. cond b (Some e.1) (at q es)) (miss q e.0 ne) ∙ none_below (e.0 + 1) high q es h.2 (omega (arith, lt, from))

  none_above : (low high q : ℕ) (es : List (ℕ × O)) → IsRising low high es → high ≤ q → at q es ≡ None
  none_above low high q [] h le = refl
  none_above low high q (e ∷ es) h le =
      let to : e.0 < high = h.1 in
      let ne : q ≡ e.0 → ⊥ = λ s. absurd (omega (arith, s, le, to)) in
      ap (λ b. cond b (Some e.1) (at q es)) (miss q e.0 ne) ∙ none_above (e.0 + 1) high q es h.2 le

  pub key_from : (low high : ℕ) (es : List (ℕ × O)) (i : ℕ) (d : ℕ × O) → IsRising low high es → i < length es → low ≤ (slice_index_or es i d).0
  key_from low high [] i d h lt = absurd (omega (arith, lt))
  key_from low high (e ∷ es) zero d h lt = h.0
  key_from low high (e ∷ es) (suc i) d h lt =
      let from : low ≤ e.0 = h.0 in
      let rest : e.0 + 1 ≤ (slice_index_or es i d).0 = key_from (e.0 + 1) high es i d h.2 (omega (arith, lt)) in
      omega (arith, rest, from)

  -- an object behind the first has another key
  apart : (high k : ℕ) (e : ℕ × O) (es : List (ℕ × O)) (i : ℕ) → IsRising (e.0 + 1) high es → i < length es → ((d : ℕ × O) → (slice_index_or es i d).0 ≡ k) → e.0 < k
  apart high k e es i h lt s =
      let rest : e.0 + 1 ≤ (slice_index_or es i e).0 = key_from (e.0 + 1) high es i e h lt in
      let same : (slice_index_or es i e).0 ≡ k = s e in
      omega (arith, rest, same)

  pub read_there : (low high : ℕ) (es : List (ℕ × O)) (i k : ℕ) → IsRising low high es → IsEntryAt es k i → (d : ℕ × O) → at k es ≡ Some (slice_index_or es i d).1
  read_there low high [] i k h p d = absurd (omega (arith, p.0))
  read_there low high (e ∷ es) zero k h p d = ap (λ b. cond b (Some e.1) (at k es)) (hit k e.0 (sym (p.1 e)))
  read_there low high (e ∷ es) (suc i) k h p d =
      let lt : i < length es = omega (arith, p.0) in
      let behind : e.0 < k = apart high k e es i h.2 lt p.1 in
      let ne : k ≡ e.0 → ⊥ = λ s. absurd (omega (arith, s, behind)) in
      ap (λ b. cond b (Some e.1) (at k es)) (miss k e.0 ne) ∙ read_there (e.0 + 1) high es i k h.2 (lt, p.1) d

  -- another object under the key
  pub write_there : (low high : ℕ) (es : List (ℕ × O)) (i k : ℕ) (w : O) → IsRising low high es → IsEntryAt es k i → (q : ℕ)
      → at q (slice_set es i (k, w)) ≡ cond (hits k q) (Some w) (at q es)
  write_there low high [] i k w h p q = absurd (omega (arith, p.0))
  write_there low high (e ∷ es) zero k w h p q = elim (cases_eq k q) [
    | inl e' ↦ ap (λ b. cond b (Some w) (at q es)) (hit q k (sym e')) ∙ sym (ap (λ b. cond b (Some w) (cond (hits q e.0) (Some e.1) (at q es))) (hit k q e'))
    | inr ne ↦ ap (λ b. cond b (Some w) (at q es)) (miss q k (λ s. ne (sym s)))
        ∙ sym (ap (λ b. cond b (Some e.1) (at q es)) (miss q e.0 (λ s. ne (sym (s ∙ p.1 e)))))
        ∙ sym (ap (λ b. cond b (Some w) (cond (hits q e.0) (Some e.1) (at q es))) (miss k q ne))
  ]
  write_there low high (e ∷ es) (suc i) k w h p q =
      let lt : i < length es = omega (arith, p.0) in
      let behind : e.0 < k = apart high k e es i h.2 lt p.1 in
      let rest = write_there (e.0 + 1) high es i k w h.2 (lt, p.1) q in
      ap (cond (hits q e.0) (Some e.1)) rest ∙ elim (cases_eq k q) [
        | inl e' ↦ swapped (hits k q) (hits q e.0) (Some w) (Some e.1) (at q es) (λ _. miss q e.0 (λ s. absurd (omega (arith, s, e', behind))))
        | inr ne ↦ swapped (hits k q) (hits q e.0) (Some w) (Some e.1) (at q es) (λ t. absurd (let x : false ≡ true = sym (miss k q ne) ∙ t in let z : ⊥ = cc in z))
      ]

  pub page_written : (low high : ℕ) (es : List (ℕ × O)) (i k : ℕ) (w : O) → IsRising low high es → IsEntryAt es k i → IsRising low high (slice_set es i (k, w))
  page_written low high [] i k w h p = absurd (omega (arith, p.0))
  page_written low high (e ∷ es) zero k w h p = subst (λ x. (low ≤ x) × (x < high) × IsRising (x + 1) high es) (p.1 e) h
  page_written low high (e ∷ es) (suc i) k w h p =
      let lt : i < length es = omega (arith, p.0) in
      (h.0, h.1, page_written (e.0 + 1) high es i k w h.2 (lt, p.1))

  -- the object of the key is taken out
  pub remove_there : (low high : ℕ) (es : List (ℕ × O)) (i k : ℕ) → IsRising low high es → IsEntryAt es k i → (q : ℕ)
      → at q (remove es i) ≡ cond (hits k q) None (at q es)
  remove_there low high [] i k h p q = absurd (omega (arith, p.0))
  remove_there low high (e ∷ es) zero k h p q = elim (cases_eq k q) [
    | inl e' ↦ none_below (e.0 + 1) high q es h.2 (let same : e.0 ≡ k = p.1 e in omega (arith, same, e'))
        ∙ sym (ap (λ b. cond b None (cond (hits q e.0) (Some e.1) (at q es))) (hit k q e'))
    | inr ne ↦ sym (ap (λ b. cond b (Some e.1) (at q es)) (miss q e.0 (λ s. ne (sym (s ∙ p.1 e)))))
        ∙ sym (ap (λ b. cond b None (cond (hits q e.0) (Some e.1) (at q es))) (miss k q ne))
  ]
  remove_there low high (e ∷ es) (suc i) k h p q =
      let lt : i < length es = omega (arith, p.0) in
      let behind : e.0 < k = apart high k e es i h.2 lt p.1 in
      let rest = remove_there (e.0 + 1) high es i k h.2 (lt, p.1) q in
      ap (cond (hits q e.0) (Some e.1)) rest ∙ elim (cases_eq k q) [
        | inl e' ↦ swapped (hits k q) (hits q e.0) None (Some e.1) (at q es) (λ _. miss q e.0 (λ s. absurd (omega (arith, s, e', behind))))
        | inr ne ↦ swapped (hits k q) (hits q e.0) None (Some e.1) (at q es) (λ t. absurd (let x : false ≡ true = sym (miss k q ne) ∙ t in let z : ⊥ = cc in z))
      ]

  page_after : (low from high : ℕ) (es : List (ℕ × O)) → low ≤ from → IsRising from high es → IsRising low high es
  page_after low from high [] le h = tt
  page_after low from high (e ∷ es) le h = let x : from ≤ e.0 = h.0 in (omega (arith, le, x), h.1, h.2)

  pub page_removed : (low high : ℕ) (es : List (ℕ × O)) (i k : ℕ) → IsRising low high es → IsEntryAt es k i → IsRising low high (remove es i)
  page_removed low high [] i k h p = absurd (omega (arith, p.0))
  page_removed low high (e ∷ es) zero k h p = let from : low ≤ e.0 = h.0 in page_after low (e.0 + 1) high es (omega (arith, from)) h.2
  page_removed low high (e ∷ es) (suc i) k h p =
      let lt : i < length es = omega (arith, p.0) in
      (h.0, h.1, page_removed (e.0 + 1) high es i k h.2 (lt, p.1))

  -- an object is added
  pub push_there : (low high : ℕ) (es : List (ℕ × O)) (k : ℕ) (w : O) → IsRising low high es → high ≤ k → (q : ℕ)
      → at q (es ++ (k, w) ∷ []) ≡ cond (hits k q) (Some w) (at q es)
  push_there low high [] k w h le q = elim (cases_eq k q) [
    | inl e ↦ ap (λ b. cond b (Some w) None) (hit q k (sym e)) ∙ sym (ap (λ b. cond b (Some w) None) (hit k q e))
    | inr ne ↦ ap (λ b. cond b (Some w) None) (miss q k (λ s. ne (sym s))) ∙ sym (ap (λ b. cond b (Some w) None) (miss k q ne))
  ]
  push_there low high (e ∷ es) k w h le q =
      let to : e.0 < high = h.1 in
      ap (cond (hits q e.0) (Some e.1)) (push_there (e.0 + 1) high es k w h.2 le q) ∙ elim (cases_eq k q) [
        | inl e' ↦ swapped (hits k q) (hits q e.0) (Some w) (Some e.1) (at q es) (λ _. miss q e.0 (λ s. absurd (omega (arith, s, e', to, le))))
        | inr ne ↦ swapped (hits k q) (hits q e.0) (Some w) (Some e.1) (at q es) (λ t. absurd (let x : false ≡ true = sym (miss k q ne) ∙ t in let z : ⊥ = cc in z))
      ]

  pub page_pushed : (low high more : ℕ) (es : List (ℕ × O)) (k : ℕ) (w : O) → IsRising low high es → high ≤ k → low ≤ k → k < more → IsRising low more (es ++ (k, w) ∷ [])
  page_pushed low high more [] k w h le from to = (from, to, tt)
  page_pushed low high more (e ∷ es) k w h le from to =
      let here : e.0 < high = h.1 in
      (h.0, omega (arith, here, le, to), page_pushed (e.0 + 1) high more es k w h.2 le (omega (arith, here, le)) to)

  page_raised : (low high more : ℕ) (es : List (ℕ × O)) → high ≤ more → IsRising low high es → IsRising low more es
  page_raised low high more [] le h = tt
  page_raised low high more (e ∷ es) le h =
      let to : e.0 < high = h.1 in
      (h.0, omega (arith, to, le), page_raised (e.0 + 1) high more es le h.2)

  -- ---- where a binary search looks

  rising : (low high : ℕ) (es : List (ℕ × O)) (j : ℕ) (d : ℕ × O) → IsRising low high es → suc j < length es → (slice_index_or es j d).0 < (slice_index_or es (suc j) d).0
  rising low high [] j d h lt = absurd (omega (arith, lt))
  rising low high (e ∷ es) zero d h lt =
      let rest : e.0 + 1 ≤ (slice_index_or es zero d).0 = key_from (e.0 + 1) high es zero d h.2 (omega (arith, lt)) in
      omega (arith, rest)
  rising low high (e ∷ es) (suc j) d h lt = rising (e.0 + 1) high es j d h.2 (omega (arith, lt))

  ordered : (low high : ℕ) (es : List (ℕ × O)) (k : ℕ) → IsRising low high es → IsNonDecreasingBy (λ e. ordering_index (nat_cmp e.0 k)) es
  ordered low high es k h =
      searchable_from_sorted nat_cmp_total (λ e. e.0) es k
      (λ j d from to. subst (λ n. is_lt (nat_cmp (slice_index_or es n d).0 (slice_index_or es j d).0) ≡ false) (one_on j)
      (not_less (slice_index_or es (suc j) d).0 (slice_index_or es j d).0
      (let less : (slice_index_or es j d).0 < (slice_index_or es (suc j) d).0 = rising low high es j d h (omega (arith, to)) in omega (arith, less))))

  none_if : (es : List (ℕ × O)) (k : ℕ) → ((j : ℕ) (d : ℕ × O) → j < length es → (slice_index_or es j d).0 ≡ k → ⊥) → at k es ≡ None
  none_if [] k n = refl
  none_if (e ∷ es) k n =
      ap (λ b. cond b (Some e.1) (at k es)) (miss k e.0 (λ s. n zero e (omega arith) (sym s)))
      ∙ none_if es k (λ j d lt s. n (suc j) d (omega (arith, lt)) s)

  pub searched : (es : List (ℕ × O)) → (low : ℕ) × (high : ℕ) × IsRising low high es → (k : ℕ) (r : Result ℕ ℕ) → IsSearchInRange r (length es)
      → IsBinarySearchResult (λ e. nat_cmp e.0 k) es r → record { found : IfOk r (IsEntryAt es k); absent : IfErr r (λ i. at k es ≡ None) }
  searched es s k (Ok i) bound h = record { found = (bound, λ d. nat_cmp-IsAntisymmetric (slice_index_or es i d).0 k (h d)); absent = tt }
  searched es s k (Err i) bound h = record {
    found = tt;
    absent =
        let split = h (ordered s.0 s.1 es k s.2) in
        none_if es k (λ j d lt e. elim (cases_lt j i) [
          | inl below ↦ other (slice_index_or es j d).0 k (ap is_eq (split.0 j d (omega arith) below)) e
          | inr above ↦ other (slice_index_or es j d).0 k (ap is_eq (split.1 j d above lt)) e
        ]);
  }

  -- ---- keys that all have entries

  first_is : (low high : ℕ) (e : ℕ × O) (es : List (ℕ × O)) → IsRising low high (e ∷ es) → IsSome (at low (e ∷ es)) → e.0 ≡ low
  first_is low high e es h s = elim (cases_eq e.0 low) [
    | inl same ↦ same
    | inr ne ↦
        let from : low ≤ e.0 = h.0 in
        let missing : at low (e ∷ es) ≡ None = ap (λ b. cond b (Some e.1) (at low es)) (miss low e.0 (λ t. ne (sym t))) ∙ none_below (e.0 + 1) high low es h.2 (omega (arith, from)) in
        let t : false ≡ true = sym (ap is_some missing) ∙ s in
        absurd (let z : ⊥ = cc in z)
  ]

  behind_first : (k : ℕ) (e : ℕ × O) (es : List (ℕ × O)) → (k ≡ e.0 → ⊥) → IsSome (at k (e ∷ es)) → IsSome (at k es)
  behind_first k e es ne s = sym (ap (λ b. is_some (cond b (Some e.1) (at k es))) (miss k e.0 ne)) ∙ s

  -- where all keys from low up to k have entries, none is missing before that of k
  pub in_row : (low high k i : ℕ) (es : List (ℕ × O)) → k ≡ low + i → IsRising low high es → ((q : ℕ) → low ≤ q → q ≤ k → IsSome (at q es)) → IsEntryAt es k i
  in_row low high k i [] e h s =
      let t : false ≡ true = s k (omega (arith, e)) (omega arith) in
      absurd (let z : ⊥ = cc in z)
  in_row low high k zero (x ∷ es) e h s =
      let first : x.0 ≡ low = first_is low high x es h (s low (omega arith) (omega (arith, e))) in
      let here : x.0 ≡ k = omega (arith, e, first) in
      (omega arith, λ d. here)
  in_row low high k (suc i) (x ∷ es) e h s =
      let first : x.0 ≡ low = first_is low high x es h (s low (omega arith) (omega (arith, e))) in
      let rest : IsEntryAt es k i =
      in_row (x.0 + 1) high k i es (omega (arith, e, first)) h.2
      (λ q from to. behind_first q x es (λ same. absurd (omega (arith, same, from))) (s q (omega (arith, from, first)) to)) in
      let lt : i < length es = rest.0 in
      (omega (arith, lt), rest.1)

  cond_some : (b : Bool) (x : O) (o : Option O) → IsSome o → IsSome (cond b (Some x) o)
  cond_some true x o s = refl
  cond_some false x o s = s

  -- the key k has an entry, and those of all others stay
  pub each_kept : (n k : ℕ) (es ns : List (ℕ × O)) (x : O) → ((q : ℕ) → at q ns ≡ cond (hits k q) (Some x) (at q es)) → HasEachBelow n es → HasEachBelow n ns
  each_kept n k es ns x u h = λ q lt. ap is_some (u q) ∙ cond_some (hits k q) x (at q es) (h q lt)

  pub each_more : (n k m : ℕ) (es ns : List (ℕ × O)) (x : O) → ((q : ℕ) → at q ns ≡ cond (hits k q) (Some x) (at q es)) → HasEachBelow n ns → m ≡ cond (nat_eq n k) (k + 1) n → HasEachBelow m ns
  each_more n k m es ns x u h is = elim (cases_eq n k) [
    | inl e ↦
        let more : m ≡ k + 1 = is ∙ ap (λ b. cond b (k + 1) n) (eq-eqb n k e) in
        λ q lt. elim (cases_lt q k) [
          | inl below ↦ h q (omega (arith, below, e))
          | inr above ↦ ap is_some (u q ∙ ap (λ b. cond b (Some x) (at q es)) (hit k q (omega (arith, above, lt, more))))
        ]
    | inr ne ↦
        let same : m ≡ n = is ∙ ap (λ b. cond b (k + 1) n) (ne_eqb n k ne) in
        λ q lt. h q (omega (arith, lt, same))
  ]

  -- the key k has none any more
  pub each_before : (n k m : ℕ) (es ns : List (ℕ × O)) → ((q : ℕ) → at q ns ≡ cond (hits k q) None (at q es)) → m ≤ n → m ≤ k → HasEachBelow n es → HasEachBelow m ns
  each_before n k m es ns u among before h = λ q lt.
      let ne : k ≡ q → ⊥ = λ e. absurd (omega (arith, e, lt, before)) in
      ap is_some (u q) ∙ ap (λ b. is_some (cond b None (at q es))) (miss k q ne) ∙ h q (omega (arith, lt, among))

  -- ---- the last entry

  not_last : (low high i : ℕ) (es : List (ℕ × O)) → length es ≡ suc i → IsRising low (high + 1) es → (IsEntryAt es high i → ⊥) → IsRising low high es
  not_last low high i [] len h n = tt
  not_last low high zero (e ∷ []) len h n =
      let to : e.0 < high + 1 = h.1 in
      elim (cases_eq e.0 high) [
        | inl same ↦ absurd (n (omega arith, λ d. same))
        | inr ne ↦ (
          h.0,
          elim (cases_lt e.0 high) [
            | inl lt ↦ lt
            | inr ge ↦ absurd (ne (omega (arith, ge, to)))
          ],
          tt,
        )
      ]
  not_last low high (suc i) (e ∷ []) len h n = absurd (omega (arith, len))
  not_last low high zero (e ∷ x ∷ es) len h n = absurd (omega (arith, len))
  not_last low high (suc i) (e ∷ x ∷ es) len h n =
      let shorter : length (x ∷ es) ≡ suc i = omega (arith, len) in
      let rest : IsRising (e.0 + 1) high (x ∷ es) = not_last (e.0 + 1) high i (x ∷ es) shorter h.2 (λ t. n (let lt : i < length (x ∷ es) = t.0 in omega (arith, lt), t.1)) in
      let from : e.0 + 1 ≤ x.0 = rest.0 in
      let to : x.0 < high = rest.1 in
      (h.0, omega (arith, from, to), rest)

  pub not_at_end : (low high : ℕ) (es : List (ℕ × O)) → IsRising low (high + 1) es → (IsEntryAt es high (length es - 1) → ⊥) → IsRising low high es
  not_at_end low high [] h n = tt
  not_at_end low high (e ∷ es) h n =
      let same : length es ≡ length (e ∷ es) - 1 = omega arith in
      not_last low high (length es) (e ∷ es) refl h (λ t. n (subst (IsEntryAt (e ∷ es) high) same t))

-- ---- a count of the entries that pass

abbrev pub ones : Bool → ℕ
ones b = cond b 1 0

module _ {E : Type 0} (test : E → Bool) where
  pub count-set : (es : List E) (i : ℕ) (e' d : E) → i < length es → count_by test (slice_set es i e') + ones (test (slice_index_or es i d)) ≡ count_by test es + ones (test e')
  count-set es i e' d lt = sum_by-set (λ e. ones (test e)) es i e' d lt

  pub count-same : (es : List E) (i : ℕ) (e' d : E) → i < length es → test e' ≡ test (slice_index_or es i d) → count_by test (slice_set es i e') ≡ count_by test es
  count-same es i e' d lt same =
      let set = count-set es i e' d lt in
      let n : ones (test e') ≡ ones (test (slice_index_or es i d)) = ap ones same in
      omega (arith, set, n)

  pub count-push : (es : List E) (e : E) → test e ≡ false → count_by test (es ++ e ∷ []) ≡ count_by test es
  count-push es e off =
      let pushed = sum_by_push (λ e. ones (test e)) es e in
      let n : ones (test e) ≡ 0 = ap ones off in
      omega (arith, pushed, n)

  abbrev kept : List E → List E
  kept es = filter (λ e. not (test e)) es

  none_passes : (e : E) (es : List E) (b : Bool) → test e ≡ b → count_by test es ≡ 0 → count_by test (cond (not b) (e ∷ es) es) ≡ 0
  none_passes e es true t h = h
  none_passes e es false t h =
      let cons = sum_by-cons (λ e. ones (test e)) e es in
      let n : ones (test e) ≡ 0 = ap ones t in
      omega (arith, cons, n, h)

  pub count-kept : (es : List E) → count_by test (kept es) ≡ 0
  count-kept [] = refl
  count-kept (e ∷ es) = none_passes e (kept es) (test e) refl (count-kept es)

-- ---- pages

module _ {O V : Type 0} (f : V → List (ℕ × O)) where
  abbrev pub all : List (ℕ × V) → List (ℕ × O)
  all ps = flat_map (λ p. f p.1) ps

  under : (low next q : ℕ) (ps : List (ℕ × V)) → ArePages f low next ps → q < 64 * low → at q (all ps) ≡ None
  under low next q [] h lt = refl
  under low next q (p ∷ ps) h lt =
      let from : low ≤ p.0 = h.0 in
      at-append q (f p.1) (all ps)
      ∙ ap (λ o. either o (at q (all ps))) (none_below (64 * p.0) (min (64 * p.0 + 64) next) q (f p.1) h.2.0 (omega (arith, lt, from)))
      ∙ under (p.0 + 1) next q ps h.2.1 (omega (arith, lt, from))

  pub numbers : (low next : ℕ) (ps : List (ℕ × V)) → ArePages f low next ps → IsRising low (next / 64 + 1) ps
  numbers low next [] h = tt
  numbers low next (p ∷ ps) h =
      let to : 64 * p.0 ≤ next = h.1 in
      (h.0, omega (arith, to, page_to next), numbers (p.0 + 1) next ps h.2.1)

  -- no object of a page is of another page's keys
  above : (next q : ℕ) (p : ℕ × V) → IsRising (64 * p.0) (min (64 * p.0 + 64) next) (f p.1) → 64 * p.0 + 64 ≤ q → at q (f p.1) ≡ None
  above next q p h le = none_above (64 * p.0) (min (64 * p.0 + 64) next) q (f p.1) h (omega (arith, le))

  elsewhere : (next k n : ℕ) (p : ℕ × V) → IsRising (64 * p.0) (min (64 * p.0 + 64) next) (f p.1) → 64 * n ≤ k → k < 64 * n + 64 → (n ≡ p.0 → ⊥) → at k (f p.1) ≡ None
  elsewhere next k n p h from to ne = elim (cases_lt n p.0) [
    | inl lt ↦ none_below (64 * p.0) (min (64 * p.0 + 64) next) k (f p.1) h (omega (arith, to, lt))
    | inr ge ↦ elim (cases_lt p.0 n) [
      | inl lt ↦ above next k p h (omega (arith, from, lt))
      | inr le ↦ absurd (ne (omega (arith, ge, le)))
    ]
  ]

  pub page_there : (low next n i : ℕ) (ps : List (ℕ × V)) (d : ℕ × V) → ArePages f low next ps → IsEntryAt ps n i → IsRising (64 * n) (min (64 * n + 64) next) (f (slice_index_or ps i d).1)
  page_there low next n i [] d h t = absurd (omega (arith, t.0))
  page_there low next n zero (p ∷ ps) d h t = subst (λ x. IsRising (64 * x) (min (64 * x + 64) next) (f p.1)) (t.1 p) h.2.0
  page_there low next n (suc i) (p ∷ ps) d h t =
      let lt : i < length ps = omega (arith, t.0) in
      page_there (p.0 + 1) next n i ps d h.2.1 (lt, t.1)

  -- the page of a live key is there
  pub page_listed : (low next k n : ℕ) (ps : List (ℕ × V)) → ArePages f low next ps → 64 * n ≤ k → k < 64 * n + 64 → IsSome (at k (all ps)) → IsSome (at n ps)
  page_listed low next k n [] h from to s = absurd (let z : ⊥ = cc in z)
  page_listed low next k n (p ∷ ps) h from to s = elim (cases_eq n p.0) [
    | inl e ↦ ap (λ b. is_some (cond b (Some p.1) (at n ps))) (hit n p.0 e)
    | inr ne ↦
        let rest = at-append k (f p.1) (all ps) ∙ ap (λ o. either o (at k (all ps))) (elsewhere next k n p h.2.0 from to ne) in
        ap (λ b. is_some (cond b (Some p.1) (at n ps))) (miss n p.0 ne) ∙ page_listed (p.0 + 1) next k n ps h.2.1 from to (sym (ap is_some rest) ∙ s)
  ]

  pub in_page : (low next k n i : ℕ) (ps : List (ℕ × V)) (d : ℕ × V) → ArePages f low next ps → 64 * n ≤ k → k < 64 * n + 64 → IsEntryAt ps n i
      → at k (all ps) ≡ at k (f (slice_index_or ps i d).1)
  in_page low next k n i [] d h from to t = absurd (omega (arith, t.0))
  in_page low next k n zero (p ∷ ps) d h from to t =
      let e : p.0 ≡ n = t.1 p in
      at-append k (f p.1) (all ps) ∙ ap (either (at k (f p.1))) (under (p.0 + 1) next k ps h.2.1 (omega (arith, to, e))) ∙ either_none (at k (f p.1))
  in_page low next k n (suc i) (p ∷ ps) d h from to t =
      let lt : i < length ps = omega (arith, t.0) in
      let behind : p.0 < n = apart (next / 64 + 1) n p ps i (numbers (p.0 + 1) next ps h.2.1) lt t.1 in
      at-append k (f p.1) (all ps)
      ∙ ap (λ o. either o (at k (all ps))) (above next k p h.2.0 (omega (arith, from, behind)))
      ∙ in_page (p.0 + 1) next k n i ps d h.2.1 from to (lt, t.1)

  -- where each key up to k has an object, k's page and the object in it stand in their own places
  pub own_page : (next k : ℕ) (ps : List (ℕ × V)) → ArePages f 0 next ps → ((q : ℕ) → q ≤ k → IsSome (at q (all ps))) → IsEntryAt ps (k / 64) (k / 64)
  own_page next k ps h s =
      let begins : 64 * (k / 64) ≤ k = page_from k in
      in_row 0 (next / 64 + 1) (k / 64) (k / 64) ps (omega arith) (numbers 0 next ps h)
      (λ n from to. page_listed 0 next (64 * n) n ps h (omega arith) (omega arith) (s (64 * n) (omega (arith, to, begins))))

  pub own_place : (next k i : ℕ) (ps : List (ℕ × V)) (d : ℕ × V) → ArePages f 0 next ps → IsEntryAt ps (k / 64) i → ((q : ℕ) → q ≤ k → IsSome (at q (all ps)))
      → IsEntryAt (f (slice_index_or ps i d).1) k (k % 64)
  own_place next k i ps d h t s =
      let parts : k / 64 * 64 + k % 64 ≡ k = div-add-mod' k 64 in
      let ends : k < 64 * (k / 64) + 64 = page_to k in
      in_row (64 * (k / 64)) (min (64 * (k / 64) + 64) next) k (k % 64) (f (slice_index_or ps i d).1) (omega (arith, parts)) (page_there 0 next (k / 64) i ps d h t)
      (λ q from to. ap is_some (sym (in_page 0 next q (k / 64) i ps d h from (omega (arith, to, ends)) t)) ∙ s q to)

  -- a page in which a key k of its own has another object or none changes just that of all pages
  pub page_changed : (low next k n i : ℕ) (ps : List (ℕ × V)) (p' : ℕ × V) (s : Option O) → ArePages f low next ps → 64 * n ≤ k → k < 64 * n + 64 → IsEntryAt ps n i
      → ((d : ℕ × V) (q : ℕ) → at q (f p'.1) ≡ cond (hits k q) s (at q (f (slice_index_or ps i d).1))) → (q : ℕ)
      → at q (all (slice_set ps i p')) ≡ cond (hits k q) s (at q (all ps))
  page_changed low next k n i [] p' s h from to t u q = absurd (omega (arith, t.0))
  page_changed low next k n zero (p ∷ ps) p' s h from to t u q =
      let same : p.0 ≡ n = t.1 p in
      at-append q (f p'.1) (all ps) ∙ ap (λ o. either o (at q (all ps))) (u p q) ∙ elim (cases_eq k q) [
        | inl e ↦ ap (λ t. either (cond t s (at q (f p.1))) (at q (all ps))) (hit k q e)
            ∙ ap (either s) (under (p.0 + 1) next q ps h.2.1 (omega (arith, to, e, same)))
            ∙ either_none s
            ∙ sym (ap (λ t. cond t s (at q (f p.1 ++ all ps))) (hit k q e))
        | inr ne ↦ ap (λ t. either (cond t s (at q (f p.1))) (at q (all ps))) (miss k q ne)
            ∙ sym (at-append q (f p.1) (all ps))
            ∙ sym (ap (λ t. cond t s (at q (f p.1 ++ all ps))) (miss k q ne))
      ]
  page_changed low next k n (suc i) (p ∷ ps) p' s h from to t u q =
      let lt : i < length ps = omega (arith, t.0) in
      let behind : p.0 < n = apart (next / 64 + 1) n p ps i (numbers (p.0 + 1) next ps h.2.1) lt t.1 in
      at-append q (f p.1) (all (slice_set ps i p'))
      ∙ ap (either (at q (f p.1))) (page_changed (p.0 + 1) next k n i ps p' s h.2.1 from to (lt, t.1) u q)
      ∙ elim (cases_eq k q) [
        | inl e ↦ ap (λ t. either (at q (f p.1)) (cond t s (at q (all ps)))) (hit k q e)
            ∙ ap (λ o. either o s) (above next q p h.2.0 (omega (arith, from, e, behind)))
            ∙ sym (ap (λ t. cond t s (at q (f p.1 ++ all ps))) (hit k q e))
        | inr ne ↦ ap (λ t. either (at q (f p.1)) (cond t s (at q (all ps)))) (miss k q ne)
            ∙ sym (at-append q (f p.1) (all ps))
            ∙ sym (ap (λ t. cond t s (at q (f p.1 ++ all ps))) (miss k q ne))
      ]

  pub pages_changed : (low next n i : ℕ) (ps : List (ℕ × V)) (p' : ℕ × V) → ArePages f low next ps → IsEntryAt ps n i → p'.0 ≡ n → IsRising (64 * n) (min (64 * n + 64) next) (f p'.1)
      → ArePages f low next (slice_set ps i p')
  pages_changed low next n i [] p' h t e g = tt
  pages_changed low next n zero (p ∷ ps) p' h t e g =
      let same : p.0 ≡ p'.0 = t.1 p ∙ sym e in
      let from : low ≤ p.0 = h.0 in
      let to : 64 * p.0 ≤ next = h.1 in (
        omega (arith, from, same),
        omega (arith, to, same),
        (subst (λ x. IsRising (64 * x) (min (64 * x + 64) next) (f p'.1)) (sym e) g, subst (λ x. ArePages f (x + 1) next ps) same h.2.1),
      )
  pages_changed low next n (suc i) (p ∷ ps) p' h t e g =
      let lt : i < length ps = omega (arith, t.0) in
      (h.0, h.1, (h.2.0, pages_changed (p.0 + 1) next n i ps p' h.2.1 (lt, t.1) e g))

  pub pages_raised : (low next more : ℕ) (ps : List (ℕ × V)) → next ≤ more → ArePages f low next ps → ArePages f low more ps
  pages_raised low next more [] le h = tt
  pages_raised low next more (p ∷ ps) le h =
      let to : 64 * p.0 ≤ next = h.1 in (
        h.0,
        omega (arith, to, le),
        (page_raised (64 * p.0) (min (64 * p.0 + 64) next) (min (64 * p.0 + 64) more) (f p.1) (omega (arith, le)) h.2.0, pages_raised (p.0 + 1) next more ps le h.2.1),
      )

  -- a page that is as it was
  pub same_all : (ps : List (ℕ × V)) (i : ℕ) (p' : ℕ × V) → ((d : ℕ × V) → f p'.1 ≡ f (slice_index_or ps i d).1) → all (slice_set ps i p') ≡ all ps
  same_all [] i p' e = refl
  same_all (p ∷ ps) zero p' e = ap (λ es. es ++ all ps) (e p)
  same_all (p ∷ ps) (suc i) p' e = ap (λ es. f p.1 ++ es) (same_all ps i p' e)

  -- a page at the end, of a higher number than those before
  pub pages_pushed : (low next n : ℕ) (ps : List (ℕ × V)) (v : V) → ArePages f low next ps → IsRising low n ps → low ≤ n → 64 * n ≤ next → IsRising (64 * n) (min (64 * n + 64) next) (f v)
      → ArePages f low next (ps ++ (n, v) ∷ [])
  pages_pushed low next n [] v h r le to g = (le, to, (g, tt))
  pages_pushed low next n (p ∷ ps) v h r le to g =
      let lt : p.0 < n = r.1 in
      (h.0, h.1, (h.2.0, pages_pushed (p.0 + 1) next n ps v h.2.1 r.2 (omega (arith, lt)) to g))

  none_after : (low next q : ℕ) (ps : List (ℕ × V)) → ArePages f low next ps → next ≤ q → at q (all ps) ≡ None
  none_after low next q [] h le = refl
  none_after low next q (p ∷ ps) h le =
      at-append q (f p.1) (all ps)
      ∙ ap (λ o. either o (at q (all ps))) (none_above (64 * p.0) (min (64 * p.0 + 64) next) q (f p.1) h.2.0 (omega (arith, le)))
      ∙ none_after (p.0 + 1) next q ps h.2.1 le

  at-more : (q n : ℕ) (ps : List (ℕ × V)) (v : V) → at q (all (ps ++ (n, v) ∷ [])) ≡ either (at q (all ps)) (at q (f v))
  at-more q n [] v = at-append q (f v) [] ∙ either_none (at q (f v))
  at-more q n (p ∷ ps) v =
      at-append q (f p.1) (all (ps ++ (n, v) ∷ []))
      ∙ ap (either (at q (f p.1))) (at-more q n ps v)
      ∙ either_assoc (at q (f p.1)) (at q (all ps)) (at q (f v))
      ∙ sym (ap (λ o. either o (at q (f v))) (at-append q (f p.1) (all ps)))

  pub begun_found : (next n : ℕ) (ps : List (ℕ × V)) (v : V) (w : O) → ArePages f 0 next ps → f v ≡ (next, w) ∷ [] → (q : ℕ)
      → at q (all (ps ++ (n, v) ∷ [])) ≡ cond (hits next q) (Some w) (at q (all ps))
  begun_found next n ps v w h e q =
      at-more q n ps v ∙ ap (λ es. either (at q (all ps)) (at q es)) e ∙ elim (cases_eq next q) [
        | inl same ↦ ap (λ o. either o (cond (hits q next) (Some w) None)) (none_after 0 next q ps h (omega (arith, same)))
            ∙ ap (λ b. cond b (Some w) None) (hit q next (sym same))
            ∙ sym (ap (λ b. cond b (Some w) (at q (all ps))) (hit next q same))
        | inr ne ↦ ap (λ b. either (at q (all ps)) (cond b (Some w) None)) (miss q next (λ s. ne (sym s)))
            ∙ either_none (at q (all ps))
            ∙ sym (ap (λ b. cond b (Some w) (at q (all ps))) (miss next q ne))
      ]

  pub begun_kept : (next n : ℕ) (ps : List (ℕ × V)) (v : V) (w : O) → ArePages f 0 next ps → IsRising 0 n ps → 64 * n ≤ next → next < 64 * n + 64 → f v ≡ (next, w) ∷ []
      → ArePages f 0 (next + 1) (ps ++ (n, v) ∷ [])
  begun_kept next n ps v w h r from to e =
      pages_pushed 0 (next + 1) n ps v (pages_raised 0 next (next + 1) ps (omega arith) h) r (omega arith) (omega (arith, from))
      (subst (IsRising (64 * n) (min (64 * n + 64) (next + 1))) (sym e) (from, omega (arith, to), tt))

  -- pages are left out
  sooner : (low from next : ℕ) (ps : List (ℕ × V)) → low ≤ from → ArePages f from next ps → ArePages f low next ps
  sooner low from next [] le h = tt
  sooner low from next (p ∷ ps) le h = let x : from ≤ p.0 = h.0 in (omega (arith, le, x), h.1, h.2)

  one_fewer : (low next : ℕ) (p : ℕ × V) (ps : List (ℕ × V)) (b : Bool) → low ≤ p.0 → 64 * p.0 ≤ next → IsRising (64 * p.0) (min (64 * p.0 + 64) next) (f p.1) → ArePages f (p.0 + 1) next ps
      → ArePages f low next (cond b (p ∷ ps) ps)
  one_fewer low next p ps true from to g h = (from, to, (g, h))
  one_fewer low next p ps false from to g h = sooner low (p.0 + 1) next ps (omega (arith, from)) h

  fewer : (test : ℕ × V → Bool) (low next : ℕ) (ps : List (ℕ × V)) → ArePages f low next ps → ArePages f low next (filter test ps)
  fewer test low next [] h = tt
  fewer test low next (p ∷ ps) h = one_fewer low next p (filter test ps) (test p) h.0 h.1 h.2.0 (fewer test (p.0 + 1) next ps h.2.1)

  one_none : (p : ℕ × V) (ps : List (ℕ × V)) (b : Bool) → (b ≡ true → f p.1 ≡ []) → all (cond (not b) (p ∷ ps) ps) ≡ f p.1 ++ all ps
  one_none p ps true e = sym (ap (λ es. es ++ all ps) (e refl))
  one_none p ps false e = refl

  same_fewer : (blank : ℕ × V → Bool) → ((p : ℕ × V) → blank p ≡ true → f p.1 ≡ []) → (ps : List (ℕ × V)) → all (filter (λ p. not (blank p)) ps) ≡ all ps
  same_fewer blank e [] = refl
  same_fewer blank e (p ∷ ps) = one_none p (filter (λ p. not (blank p)) ps) (blank p) (e p) ∙ ap (λ es. f p.1 ++ es) (same_fewer blank e ps)

  pub thinned_pages : (blank : ℕ × V → Bool) (next : ℕ) (ps ns : List (ℕ × V)) (b : Bool) → ns ≡ cond b (filter (λ p. not (blank p)) ps) ps → ArePages f 0 next ps → ArePages f 0 next ns
  thinned_pages blank next ps ns true e h = subst (ArePages f 0 next) (sym e) (fewer (λ p. not (blank p)) 0 next ps h)
  thinned_pages blank next ps ns false e h = subst (ArePages f 0 next) (sym e) h

  pub thinned_all : (blank : ℕ × V → Bool) → ((p : ℕ × V) → blank p ≡ true → f p.1 ≡ []) → (ps ns : List (ℕ × V)) (b : Bool) → ns ≡ cond b (filter (λ p. not (blank p)) ps) ps → all ns ≡ all ps
  thinned_all blank none ps ns true e = ap all e ∙ same_fewer blank none ps
  thinned_all blank none ps ns false e = ap all e

-- ---- an object at a place of its page

-- the page p, the one of that number at the place i, is that of the key k, whose object stands there at the place j
pub record IsHome {O V : Type 0} (f : V → List (ℕ × O)) (next k n i j : ℕ) (ps : List (ℕ × V)) (p : ℕ × V) : Type 0 where
  pub paged : ArePages f 0 next ps
  pub from : 64 * n ≤ k
  pub to : k < 64 * n + 64
  pub page : IsEntryAt ps n i
  pub there : (d : ℕ × V) → IsEntryAt (f (slice_index_or ps i d).1) k j
  pub page_is : p ≡ slice_index_or ps i p

module _ {O V : Type 0} {f : V → List (ℕ × O)} {next k n i j : ℕ} {ps : List (ℕ × V)} {p : ℕ × V} (s : IsHome f next k n i j ps p) where
  home_here : IsEntryAt (f p.1) k j
  home_here = subst (λ v. IsEntryAt (f v.1) k j) (sym s.page_is) (s.there p)

  pub home_within : j < length (f p.1)
  home_within = home_here.0

  home_number : p.0 ≡ n
  home_number = ap (λ v. v.0) s.page_is ∙ s.page.1 p

  home_page : IsRising (64 * n) (min (64 * n + 64) next) (f p.1)
  home_page = subst (λ v. IsRising (64 * n) (min (64 * n + 64) next) (f v.1)) (sym s.page_is) (page_there f 0 next n i ps p s.paged s.page)

  home_changed : (p' : ℕ × V) (o : Option O) → ((q : ℕ) → at q (f p'.1) ≡ cond (hits k q) o (at q (f p.1))) → (q : ℕ)
      → at q (all f (slice_set ps i p')) ≡ cond (hits k q) o (at q (all f ps))
  home_changed p' o u =
      page_changed f 0 next k n i ps p' o s.paged s.from s.to s.page
      (λ d q. u q ∙ ap (λ v. cond (hits k q) o (at q (f v.1))) (s.page_is ∙ get_or_default ps i p d s.page.0))

  home_pages : (p' : ℕ × V) → p'.0 ≡ p.0 → IsRising (64 * n) (min (64 * n + 64) next) (f p'.1) → ArePages f 0 next (slice_set ps i p')
  home_pages p' e h = pages_changed f 0 next n i ps p' s.paged s.page (e ∙ home_number) h

  -- the object is taken out
  pub home_removed : (p' : ℕ × V) → f p'.1 ≡ remove (f p.1) j → (q : ℕ) → at q (all f (slice_set ps i p')) ≡ cond (hits k q) None (at q (all f ps))
  home_removed p' e = home_changed p' None (λ q. ap (at q) e ∙ remove_there (64 * n) (min (64 * n + 64) next) (f p.1) j k home_page home_here q)

  pub home_left : (p' : ℕ × V) → p'.0 ≡ p.0 → f p'.1 ≡ remove (f p.1) j → ArePages f 0 next (slice_set ps i p')
  home_left p' number e =
      home_pages p' number (subst (IsRising (64 * n) (min (64 * n + 64) next)) (sym e) (page_removed (64 * n) (min (64 * n + 64) next) (f p.1) j k home_page home_here))

  -- how many pages pass a test
  pub home_counted : (test : ℕ × V → Bool) (p' : ℕ × V) → count_by test (slice_set ps i p') + ones (test p) ≡ count_by test ps + ones (test p')
  home_counted test p' = subst (λ v. count_by test (slice_set ps i p') + ones (test v) ≡ count_by test ps + ones (test p')) (sym s.page_is) (count-set test ps i p' p s.page.0)

  pub home_recounted : (test : ℕ × V → Bool) (p' : ℕ × V) → test p' ≡ test p → count_by test (slice_set ps i p') ≡ count_by test ps
  home_recounted test p' e = count-same test ps i p' p s.page.0 (e ∙ ap test s.page_is)

-- and x is what stands there
pub record IsSpot {O V : Type 0} (f : V → List (ℕ × O)) (next k n i j : ℕ) (ps : List (ℕ × V)) (p : ℕ × V) (x : ℕ × O) : Type 0 where
  pub home : IsHome f next k n i j ps p
  pub object_is : x ≡ slice_index_or (f p.1) j x

module _ {O V : Type 0} {f : V → List (ℕ × O)} {next k n i j : ℕ} {ps : List (ℕ × V)} {p : ℕ × V} {x : ℕ × O} (s : IsSpot f next k n i j ps p x) where
  pub spot_found : at k (all f ps) ≡ Some x.1
  spot_found =
      let h = s.home in
      in_page f 0 next k n i ps p h.paged h.from h.to h.page
      ∙ ap (λ v. at k (f v.1)) (sym h.page_is)
      ∙ read_there (64 * n) (min (64 * n + 64) next) (f p.1) j k (home_page h) (home_here h) x
      ∙ ap (λ y. Some y.1) (sym s.object_is)

  spot_key : x.0 ≡ k
  spot_key = ap (λ y. y.0) s.object_is ∙ (home_here s.home).1 x

  -- another object w there
  pub spot_written : (p' : ℕ × V) (w : O) → f p'.1 ≡ slice_set (f p.1) j (x.0, w) → (q : ℕ)
      → at q (all f (slice_set ps i p')) ≡ cond (hits k q) (Some w) (at q (all f ps))
  spot_written p' w e =
      home_changed s.home p' (Some w) (λ q. ap (at q) (e ∙ ap (λ y. slice_set (f p.1) j (y, w)) spot_key)
      ∙ write_there (64 * n) (min (64 * n + 64) next) (f p.1) j k w (home_page s.home) (home_here s.home) q)

  pub spot_kept : (p' : ℕ × V) (w : O) → p'.0 ≡ p.0 → f p'.1 ≡ slice_set (f p.1) j (x.0, w) → ArePages f 0 next (slice_set ps i p')
  spot_kept p' w number e =
      home_pages s.home p' number (subst (IsRising (64 * n) (min (64 * n + 64) next)) (sym (e ∙ ap (λ y. slice_set (f p.1) j (y, w)) spot_key))
      (page_written (64 * n) (min (64 * n + 64) next) (f p.1) j k w (home_page s.home) (home_here s.home)))

-- ---- the page of the next key

pub record IsOpen {O V : Type 0} (f : V → List (ℕ × O)) (next n i : ℕ) (ps : List (ℕ × V)) (p : ℕ × V) : Type 0 where
  pub paged : ArePages f 0 next ps
  pub from : 64 * n ≤ next
  pub to : next < 64 * n + 64
  pub page : IsEntryAt ps n i
  pub page_is : p ≡ slice_index_or ps i p

module _ {O V : Type 0} {f : V → List (ℕ × O)} {next n i : ℕ} {ps : List (ℕ × V)} {p : ℕ × V} (s : IsOpen f next n i ps p) where
  open_page : IsRising (64 * n) (min (64 * n + 64) next) (f p.1)
  open_page = subst (λ v. IsRising (64 * n) (min (64 * n + 64) next) (f v.1)) (sym s.page_is) (page_there f 0 next n i ps p s.paged s.page)

  open_number : p.0 ≡ n
  open_number = ap (λ v. v.0) s.page_is ∙ s.page.1 p

  pub open_pushed : (p' : ℕ × V) (w : O) → f p'.1 ≡ f p.1 ++ (next, w) ∷ [] → (q : ℕ)
      → at q (all f (slice_set ps i p')) ≡ cond (hits next q) (Some w) (at q (all f ps))
  open_pushed p' w e =
      page_changed f 0 next next n i ps p' (Some w) s.paged s.from s.to s.page
      (λ d q. ap (at q) e
      ∙ push_there (64 * n) (min (64 * n + 64) next) (f p.1) next w open_page (omega arith) q
      ∙ ap (λ v. cond (hits next q) (Some w) (at q (f v.1))) (s.page_is ∙ get_or_default ps i p d s.page.0))

  pub open_kept : (p' : ℕ × V) (w : O) → p'.0 ≡ p.0 → f p'.1 ≡ f p.1 ++ (next, w) ∷ [] → ArePages f 0 (next + 1) (slice_set ps i p')
  open_kept p' w number e =
      pages_changed f 0 (next + 1) n i ps p' (pages_raised f 0 next (next + 1) ps (omega arith) s.paged) s.page (number ∙ open_number)
      (subst (IsRising (64 * n) (min (64 * n + 64) (next + 1))) (sym e)
      (page_pushed (64 * n) (min (64 * n + 64) next) (min (64 * n + 64) (next + 1)) (f p.1) next w open_page (omega arith) s.from (omega (arith, s.to))))

  -- the page as it was
  pub open_same : (p' : ℕ × V) → p'.0 ≡ p.0 → f p'.1 ≡ f p.1 → ArePages f 0 next (slice_set ps i p')
  open_same p' number e =
      pages_changed f 0 next n i ps p' s.paged s.page (number ∙ open_number) (subst (IsRising (64 * n) (min (64 * n + 64) next)) (sym e) open_page)

  pub open_all : (p' : ℕ × V) → f p'.1 ≡ f p.1 → all f (slice_set ps i p') ≡ all f ps
  open_all p' e = same_all f ps i p' (λ d. e ∙ ap (λ v. f v.1) (s.page_is ∙ get_or_default ps i p d s.page.0))

  pub open_counted : (test : ℕ × V → Bool) (p' : ℕ × V) → count_by test (slice_set ps i p') + ones (test p) ≡ count_by test ps + ones (test p')
  open_counted test p' = subst (λ v. count_by test (slice_set ps i p') + ones (test v) ≡ count_by test ps + ones (test p')) (sym s.page_is) (count-set test ps i p' p s.page.0)

  pub open_recounted : (test : ℕ × V → Bool) (p' : ℕ × V) → test p' ≡ test p → count_by test (slice_set ps i p') ≡ count_by test ps
  open_recounted test p' e = count-same test ps i p' p s.page.0 (e ∙ ap test s.page_is)

-- A number goes as far as the digits of its base.
use Rattle.std.proofs.Common.{◌≡◌, ℕ, zero, suc, ◌<◌, ◌≤◌, Bool, true, false, cond, ◌&&◌, List, [], ◌∷◌, length, take, drop, refl, ap, sym, ◌∙◌, subst, arith, ⊎_elim, nat_eq, Option, Some, None, inl, inr}
use Rattle.std.specs.Prelude.{◌⊎◌, is_some, option_and_then}
use Rattle.std.proofs.lemmas.Bool.{and_from, and_left, and_right, both_ways, cases_Bool, false_from_ne_true, lt-ltb}
use Rattle.std.proofs.lemmas.Bool.Decides.{nat_tests}
use Rattle.std.proofs.lemmas.List.{length-take-le}
use Rattle.std.proofs.str.Laws.{order}
use Rattle.std.proofs.lemmas.List.Sums.{prefix_len-le-length}
use Rattle.ang_lex.specs.Bytes.{is_digit_in}
use Rattle.ang_lex.specs.Numbers.{base_of, are_digits, digits_in, is_number}
use Rattle.ang_lex.specs.Fronts.{digits_len, behind_prefix, digits_in_len, prefixed_len, or_else, number_len}
use Rattle.ang_lex.specs.Spelling.{is_token_of}
use Rattle.ang_lex.proofs.Runs.{run_all, run_longer}
use Rattle.ang_lex.proofs.Longest.{IsLongest}
use Rattle.ang_lex.proofs.FirstBytes.{digit_range, is_prefixed, number_cases, token_by_digit}

-- ---- digits of a base

digits_are : (base : ℕ) (ds : List ℕ) → 0 < digits_len base ds → are_digits base (take (digits_len base ds) ds) ≡ true
digits_are base ds some =
    let size = length-take-le (digits_len base ds) ds (prefix_len-le-length (is_digit_in base) ds) in
    and_from _ _ (lt-ltb 0 (length (take (digits_len base ds) ds)) (omega arith)) (run_all (is_digit_in base) ds)

digits_no_longer : (base : ℕ) (ds : List ℕ) (n : ℕ) → digits_len base ds < n → n ≤ length ds → are_digits base (take n ds) ≡ false
digits_no_longer base ds n more most = and_right _ _ (run_longer (is_digit_in base) ds n more most)

-- ---- numbers with a prefix

some_cond : {A : Type 0} (t : Bool) (x : A) → is_some (cond t (Some x) None) ≡ t
some_cond true x = refl
some_cond false x = refl

some_digits : (base : ℕ) (ds : List ℕ) → is_some (digits_in ds base) ≡ are_digits base ds
some_digits base ds = some_cond {A = ℕ × List ℕ} (are_digits base ds) (base, ds)

abbrev are_digits_at : Option ℕ → List ℕ → Bool
are_digits_at None ds = false
are_digits_at (Some base) ds = are_digits base ds

prefixed_at : (o : Option ℕ) (ds : List ℕ) → is_some (option_and_then (digits_in ds) o) ≡ are_digits_at o ds
prefixed_at None ds = refl
prefixed_at (Some base) ds = some_digits base ds

guarded : {A : Type 0} (t : Bool) (o : Option A) → is_some (cond t o None) ≡ (t && is_some o)
guarded true o = refl
guarded false o = refl

prefixed_cons : (z l : ℕ) (ds : List ℕ) → is_prefixed (z ∷ l ∷ ds) ≡ (nat_eq z 48 && are_digits_at (base_of l) ds)
prefixed_cons z l ds = guarded (nat_eq z 48) (option_and_then (digits_in ds) (base_of l)) ∙ ap (λ t. nat_eq z 48 && t) (prefixed_at (base_of l) ds)

-- what is after a prefix counts from one digit on
behind_more : (d : ℕ) → 0 < behind_prefix d → (0 < d) × (behind_prefix d ≡ suc (suc d))
behind_more zero some = absurd (omega arith)
behind_more (suc d) some = (omega arith, omega arith)

behind_less : (d k : ℕ) → behind_prefix d < suc (suc k) → (d < k) ⊎ (k ≡ 0)
behind_less zero zero less = inr refl
behind_less zero (suc k) less = inl (omega arith)
behind_less (suc d) k less = inl (omega arith)

-- the digits after a prefix
record Behind (o : Option ℕ) (ds : List ℕ) : Type 0 where
  count : ℕ
  len : digits_in_len o ds ≡ suc (suc count)
  within : count ≤ length ds
  are : are_digits_at o (take count ds) ≡ true

behind_of : (o : Option ℕ) (ds : List ℕ) → 0 < digits_in_len o ds → Behind o ds
behind_of None ds some = absurd (omega arith)
behind_of (Some base) ds some =
    let more = behind_more (digits_len base ds) some in
    record {
      count = digits_len base ds;
      len = more.1;
      within = prefix_len-le-length (is_digit_in base) ds;
      are = digits_are base ds more.0;
    }

behind_no_longer : (o : Option ℕ) (ds : List ℕ) (k : ℕ) → digits_in_len o ds < suc (suc k) → k ≤ length ds → are_digits_at o (take k ds) ≡ false
behind_no_longer None ds k less most = refl
behind_no_longer (Some base) ds k less most =
    ⊎_elim
    (λ more. digits_no_longer base ds k more most)
    (λ none. subst (λ n. are_digits base (take n ds) ≡ false) (sym none) refl)
    (behind_less (digits_len base ds) k less)

prefixed_no_longer : (rest : List ℕ) (m : ℕ) → prefixed_len rest < m → m ≤ length rest → is_prefixed (take m rest) ≡ false
prefixed_no_longer [] zero more most = refl
prefixed_no_longer [] (suc m) more most = absurd (omega arith)
prefixed_no_longer (z ∷ []) zero more most = refl
prefixed_no_longer (z ∷ []) (suc zero) more most = refl
prefixed_no_longer (z ∷ []) (suc (suc m)) more most = absurd (omega arith)
prefixed_no_longer (z ∷ l ∷ ds) zero more most = absurd (omega arith)
prefixed_no_longer (z ∷ l ∷ ds) (suc zero) more most = refl
prefixed_no_longer (z ∷ l ∷ ds) (suc (suc k)) more most =
    prefixed_cons z l (take k ds) ∙ ⊎_elim
    (λ yes. and_right _ _ (behind_no_longer (base_of l) ds k (rw yes at more) (omega arith)))
    (λ no. and_left _ _ no)
    (cases_Bool (nat_eq z 48))

digit_no_base : (l : ℕ) → is_digit_in 10 l ≡ true → base_of l ≡ None
digit_no_base l e = let r = digit_range l e in grind (arith, nat_tests)

no_base_len : (o : Option ℕ) (ds : List ℕ) → o ≡ None → digits_in_len o ds ≡ 0
no_base_len o ds e = rw e refl

-- where the second byte is no digit, no more than one byte is digits
no_digits_at : (z l : ℕ) (ds : List ℕ) → is_digit_in 10 l ≡ false → (m : ℕ) → 2 ≤ m → are_digits 10 (take m (z ∷ l ∷ ds)) ≡ false
no_digits_at z l ds e zero large = absurd (omega arith)
no_digits_at z l ds e (suc zero) large = absurd (omega arith)
no_digits_at z l ds e (suc (suc k)) large = and_right _ _ (and_right _ _ (and_left _ _ e))

-- a number with a prefix at the front of the rest
record Prefixed (rest : List ℕ) : Type 0 where
  large : 2 ≤ prefixed_len rest
  within : prefixed_len rest ≤ length rest
  is : is_prefixed (take (prefixed_len rest) rest) ≡ true
  no_digits : (m : ℕ) → 2 ≤ m → are_digits 10 (take m rest) ≡ false

prefixed_by : (z l : ℕ) (ds : List ℕ) → nat_eq z 48 ≡ true → 0 < digits_in_len (base_of l) ds → Prefixed (z ∷ l ∷ ds)
prefixed_by z l ds zero_first some =
    let behind = behind_of (base_of l) ds some in
    let len : prefixed_len (z ∷ l ∷ ds) ≡ suc (suc behind.count) = rw zero_first behind.len in
    record {
      large = omega (arith, len);
      within = omega (arith, len, behind.within);
      is = rw len (prefixed_cons z l (take behind.count ds) ∙ and_from _ _ zero_first behind.are);
      no_digits = no_digits_at z l ds (false_from_ne_true _ (λ digit. let none = no_base_len (base_of l) ds (digit_no_base l digit) in omega arith));
    }

prefixed_some : (rest : List ℕ) → 0 < prefixed_len rest → Prefixed rest
prefixed_some [] some = absurd (omega arith)
prefixed_some (z ∷ []) some = absurd (omega arith)
prefixed_some (z ∷ l ∷ ds) some =
    ⊎_elim
    (λ yes. prefixed_by z l ds yes (rw yes at some))
    (λ no. let none : prefixed_len (z ∷ l ∷ ds) ≡ 0 = rw no refl in absurd (omega arith))
    (cases_Bool (nat_eq z 48))

-- ---- numbers

some_by_first : {A : Type 0} (t : Bool) (x : A) (o : Option A) → t ≡ true → is_some (cond t (Some x) o) ≡ true
some_by_first t x o e = rw e refl

some_by_second : {A : Type 0} (t : Bool) (x : A) (o : Option A) → is_some o ≡ true → is_some (cond t (Some x) o) ≡ true
some_by_second true x o e = refl
some_by_second false x o e = e

or_some : (m n : ℕ) → 0 < m → or_else m n ≡ m
or_some zero n some = absurd (omega arith)
or_some (suc m) n some = refl

module _ (b : ℕ) (bs : List ℕ) (start : is_digit_in 10 b ≡ true) where
  token_of : (m : ℕ) → 0 < m → is_token_of m (b ∷ bs) ≡ is_number (take m (b ∷ bs))
  token_of zero some = absurd (omega arith)
  token_of (suc k) some = token_by_digit b (take k bs) (drop k bs) start

  abbrev number_is_at : ℕ → Type 0
  number_is_at n = (0 < n) × (n ≤ length (b ∷ bs)) × (is_number (take n (b ∷ bs)) ≡ true) × ((m : ℕ) → n < m → m ≤ length (b ∷ bs) → is_number (take m (b ∷ bs)) ≡ false)

  with_prefix : 0 < prefixed_len (b ∷ bs) → number_is_at (number_len (b ∷ bs))
  with_prefix some =
      let p = prefixed_some (b ∷ bs) some in
      let len : number_len (b ∷ bs) ≡ prefixed_len (b ∷ bs) = or_some (prefixed_len (b ∷ bs)) (digits_len 10 (b ∷ bs)) some in
      rw len (
        some,
        p.within,
        some_by_second (are_digits 10 (take (prefixed_len (b ∷ bs)) (b ∷ bs))) _ _ p.is,
        λ m more most. false_from_ne_true _ (λ is. ⊎_elim
            (λ digits. both_ways _ (p.no_digits m (omega (arith, p.large))) digits)
            (λ prefixed. both_ways _ (prefixed_no_longer (b ∷ bs) m more most) prefixed)
            (number_cases (take m (b ∷ bs)) is)),
      )

  digits_some : 0 < digits_len 10 (b ∷ bs)
  digits_some = rw start (omega arith)

  without_prefix : prefixed_len (b ∷ bs) ≡ 0 → number_is_at (number_len (b ∷ bs))
  without_prefix none =
      let len : number_len (b ∷ bs) ≡ digits_len 10 (b ∷ bs) = rw none refl in
      rw len (
        digits_some,
        prefix_len-le-length (is_digit_in 10) (b ∷ bs),
        some_by_first _ _ _ (digits_are 10 (b ∷ bs) digits_some),
        λ m more most. false_from_ne_true _ (λ is. ⊎_elim
            (λ digits. both_ways _ (digits_no_longer 10 (b ∷ bs) m more most) digits)
            (λ prefixed. both_ways _ (prefixed_no_longer (b ∷ bs) m (omega arith) most) prefixed)
            (number_cases (take m (b ∷ bs)) is)),
      )

  at_len : number_is_at (number_len (b ∷ bs))
  at_len = ⊎_elim (λ some. with_prefix some) (λ none. without_prefix (omega arith)) (order 0 (prefixed_len (b ∷ bs)))

  pub number_is : is_number (take (number_len (b ∷ bs)) (b ∷ bs)) ≡ true
  number_is = at_len.2

  pub number_is_longest : IsLongest (b ∷ bs) (number_len (b ∷ bs))
  number_is_longest = record {
    within = at_len.1;
    token = λ some. token_of (number_len (b ∷ bs)) some ∙ at_len.2;
    none_longer = λ m more most. token_of m (omega arith) ∙ at_len.3 m more most;
  }

-- Reading digits from left to right.
use Rattle.std.proofs.Common.{◌≡◌, ℕ, ◌+◌, ◌*◌, ◌<◌, ◌≤◌, ◌^◌, true, false, cond, List, [], ◌∷◌, length, get_or, drop, Some, None, nat_lt, refl, sym, ap, ◌∙◌, arith}
use Rattle.std.specs.Option.{option_and_then}
use Rattle.std.specs.Char.{digit_value}
use Rattle.std.proofs.lemmas.List.{at_drop_more, at_drop_all}
use Rattle.std.proofs.lemmas.Bool.Decides.{nat_tests}
use Rattle.std.proofs.Math.Nat.{mul-le-mul_left}
use Rattle.asrun_lines.specs.Fields.{numeral_of, numeral64_of, below}

not_lt : (m n : ℕ) → (m < n → ⊥) → n ≤ m
not_lt m n h = grind arith

numeral-digit : (base n b : ℕ) (bs : List ℕ) → digit_value b < base → numeral_of base n (b ∷ bs) ≡ numeral_of base (n * base + digit_value b) bs
unfolding numeral_of
numeral-digit base n b bs h = grind (arith, nat_tests)

numeral-other : (base n b : ℕ) (bs : List ℕ) → base ≤ digit_value b → numeral_of base n (b ∷ bs) ≡ None
unfolding numeral_of
numeral-other base n b bs h = grind (arith, nat_tests)

-- a digit goes onto the number
pub numeral_more : (base n i : ℕ) (bs : List ℕ) → i < length bs → digit_value (get_or bs i 0) < base
    → numeral_of base n (drop i bs) ≡ numeral_of base (n * base + digit_value (get_or bs i 0)) (drop (i + 1) bs)
numeral_more base n i bs h d = at_drop_more (numeral_of base n) bs i 0 h ∙ numeral-digit base n (get_or bs i 0) (drop (i + 1) bs) d

-- what is no digit ends it
pub numeral_broken : (base n i : ℕ) (bs : List ℕ) → i < length bs → base ≤ digit_value (get_or bs i 0)
    → numeral_of base n (drop i bs) ≡ None
numeral_broken base n i bs h d = at_drop_more (numeral_of base n) bs i 0 h ∙ numeral-other base n (get_or bs i 0) (drop (i + 1) bs) d

pub numeral_whole : (base n i : ℕ) (bs : List ℕ) → length bs ≤ i → numeral_of base n (drop i bs) ≡ Some n
unfolding numeral_of
numeral_whole base n i bs h = at_drop_all (numeral_of base n) bs i h

-- a number that has grown too large stays so
pub numeral_large : (base n : ℕ) (bs : List ℕ) → 2 ≤ base → 2 ^ 64 ≤ n → option_and_then (below (2 ^ 64)) (numeral_of base n bs) ≡ None
unfolding numeral_of
numeral_large base n [] h k = grind (arith, nat_tests)
numeral_large base n (b ∷ bs) h k =
    let grows : n * 1 ≤ n * base = mul-le-mul_left n (omega arith) in
    elim (nat_lt (digit_value b) base) as (λ t. option_and_then (below (2 ^ 64)) (cond t (numeral_of base (n * base + digit_value b) bs) None) ≡ None) [
      | true ↦ numeral_large base (n * base + digit_value b) bs h (omega arith)
      | false ↦ refl
    ]

-- A loop over the digits has read i of them and has the number n; the next byte is b. It meets no digit,
pub reads_broken : (base n i b : ℕ) (bs : List ℕ) → numeral_of base n (drop i bs) ≡ numeral_of base 0 bs → i < length bs
    → b ≡ get_or bs i 0 → (digit_value b < base → ⊥) → None ≡ numeral64_of base bs
unfolding numeral64_of
reads_broken base n i b bs e h a d =
    let at : get_or bs i 0 ≡ b = sym a in
    let other : base ≤ digit_value (get_or bs i 0) = rw at (not_lt _ _ d) in
    rw (← e, numeral_broken base n i bs h other) refl

-- or the number grows too large,
pub reads_large : (base n i b : ℕ) (bs : List ℕ) → 2 ≤ base → numeral_of base n (drop i bs) ≡ numeral_of base 0 bs → i < length bs
    → b ≡ get_or bs i 0 → digit_value b < base → (n * base + digit_value b < 2 ^ 64 → ⊥) → None ≡ numeral64_of base bs
unfolding numeral64_of
reads_large base n i b bs two e h a d k =
    let at : get_or bs i 0 ≡ b = sym a in
    let digit : digit_value (get_or bs i 0) < base = rw at d in
    rw (← e, numeral_more base n i bs h digit, at) (sym (numeral_large base (n * base + digit_value b) (drop (i + 1) bs) two (not_lt _ _ k)))

-- or the digit goes onto the number,
pub reads_more : (base n i b : ℕ) (bs : List ℕ) → numeral_of base n (drop i bs) ≡ numeral_of base 0 bs → i < length bs
    → b ≡ get_or bs i 0 → digit_value b < base → numeral_of base (n * base + digit_value b) (drop (i + 1) bs) ≡ numeral_of base 0 bs
reads_more base n i b bs e h a d =
    let at : get_or bs i 0 ≡ b = sym a in
    let digit : digit_value (get_or bs i 0) < base = rw at d in
    ap (λ x. numeral_of base (n * base + digit_value x) (drop (i + 1) bs)) a ∙ sym (numeral_more base n i bs h digit) ∙ e

-- or it has read all.
pub reads_whole : (base n i : ℕ) (bs : List ℕ) → numeral_of base n (drop i bs) ≡ numeral_of base 0 bs → length bs ≤ i
    → n < 2 ^ 64 → Some n ≡ numeral64_of base bs
unfolding numeral64_of
reads_whole base n i bs e h k = rw (← e, numeral_whole base n i bs h) (grind (arith, nat_tests))

-- The value of digits only grows with each digit.
use Rattle.std.proofs.Common.{ℕ, zero, suc, ◌+◌, ◌*◌, ◌≤◌, ◌<◌, List, [], ◌∷◌, take, length, get_or, arith}
use Rattle.std.proofs.Math.Nat.{mul-le-mul_left}
use Rattle.std.specs.Char.{digit_value}
use Rattle.std.specs.Str.Parse.{digits_value, digits_value_after}
use Rattle.std.proofs.lemmas.Int.Digits.{digits_value_more}

after_ge : (base n : ℕ) (ds : List ℕ) → 1 ≤ base → n ≤ digits_value_after base n ds
after_ge base n [] h = omega arith
after_ge base n (c ∷ cs) h =
    let grows : n * 1 ≤ n * base = mul-le-mul_left n h in
    omega (arith, after_ge base (n * base + digit_value c) cs h)

after_take_le : (base n i : ℕ) (ds : List ℕ) → 1 ≤ base → digits_value_after base n (take i ds) ≤ digits_value_after base n ds
after_take_le base n zero ds h = after_ge base n ds h
after_take_le base n (suc i) [] h = omega arith
after_take_le base n (suc i) (c ∷ cs) h = after_take_le base (n * base + digit_value c) i cs h

-- with one more digit of the digits, the value is at most that of all
pub next_value_le : (base i : ℕ) (ds : List ℕ) → 1 ≤ base → i < length ds →
    digits_value base (take i ds) * base + digit_value (get_or ds i 0) ≤ digits_value base ds
next_value_le base i ds h l = omega (arith, digits_value_more base ds i l, after_take_le base 0 (i + 1) ds h)

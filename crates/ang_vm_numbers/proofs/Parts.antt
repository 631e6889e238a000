-- What the parts of each operator come to, over plain variables.
use Rattle.std.proofs.Common.{◌≡◌, ℕ, zero, suc, ◌*◌, ◌/◌, ◌%◌, ◌^◌, ◌<◌, ◌≤◌, true, ℤ, pos, negsuc, neg_ℤ, unsigned_abs, int_div, int_rem, refl, sym, ap, ◌∙◌, subst, arith, div-le_self, mod-eq_of_lt, Option, Some, None, Ok, Err, SFits, w8, w16, w32, w64}
use Rattle.std.specs.Int.{cast_signed, cast_unsigned, int_div_euclid, int_shr, int_wrapping_div, int_wrap}
use mir.ValLaws.{to_z-Fits}
use Rattle.std.proofs.lemmas.Int.{of_z-to_z}
use Rattle.std.proofs.Math.Nat.{mod-le}
use Rattle.ang_kinds.specs.declared.primitive.Primitive.{Primitive}
use Rattle.ang_kinds.specs.declared.primitive.Primitive.TheVariants.{I8, I16, I32, I64, U64}
use Rattle.ang_kinds.specs.declared.fault.Fault.{Fault}
use Rattle.ang_meaning.specs.Numbers.{number, number_of, bits_of, converted, divided}
use Rattle.ang_kinds.specs.Primitives.{is_signed}
use Rattle.ang_vm_numbers.specs.Answers.{answer_of, unless}
use Rattle.ang_vm_numbers.proofs.Congruence.{same_left, same_written, bits_same}

-- what speaks against a division, and what does not
module _ (p : Primitive) (x y x' y' r : ℤ) (o : Option Fault) (ex : x' ≡ x) (ey : y' ≡ y) (h : divided p x' y' r ≡ unless o p r) where
  tested : divided p x y r ≡ unless o p r
  tested = sym (ap (λ z. divided p z y' r) ex ∙ ap (λ z. divided p x z r) ey) ∙ h

  pub bars : (f : Fault) → o ≡ Some f → Err f ≡ answer_of (divided p x y r)
  bars f e = sym (ap answer_of (tested ∙ ap (λ q. unless q p r) e))

  pub passes : (n : ℕ) → o ≡ None → n ≡ bits_of p r → Ok n ≡ answer_of (divided p x y r)
  passes n e k = ap Ok k ∙ sym (ap answer_of (tested ∙ ap (λ q. unless q p r) e))

-- a number that fits 64 bits is not far from 0
fits_small : (z : ℤ) → SFits w64 z → unsigned_abs z ≤ 2 ^ 63
fits_small (pos n) h = omega (arith, h.sfits)
fits_small (negsuc n) h = omega (arith, h.sfits)

small_neg : (n m : ℕ) → n ≤ m → unsigned_abs (neg_ℤ (pos n)) ≤ m
small_neg zero m h = h
small_neg (suc n) m h = h

quotient_small : (a d : ℤ) → unsigned_abs (int_div a d) ≤ unsigned_abs a
quotient_small (pos a) (pos b) = div-le_self a b
quotient_small (pos a) (negsuc b) = small_neg (a / suc b) a (div-le_self a (suc b))
quotient_small (negsuc a) (pos b) = small_neg (suc a / b) (suc a) (div-le_self (suc a) b)
quotient_small (negsuc a) (negsuc b) = div-le_self (suc a) (suc b)

rest_small : (a d : ℤ) → unsigned_abs (int_rem a d) ≤ unsigned_abs a
rest_small (pos a) d = mod-le a (unsigned_abs d)
rest_small (negsuc a) d = small_neg (suc a % unsigned_abs d) (suc a) (mod-le (suc a) (unsigned_abs d))

-- the bits of a number near 0 are 64 bits
written_small : (z : ℤ) → unsigned_abs z ≤ 2 ^ 63 → cast_unsigned w64 z < 2 ^ 64
written_small (pos n) h = omega arith
written_small (negsuc n) h = omega arith

pub written_bits : (p : Primitive) (z : ℤ) (n : ℕ) → unsigned_abs z ≤ 2 ^ 63 → n ≡ cast_unsigned w64 z → bits_of p (pos n) ≡ bits_of p z
written_bits p z n h e = ap (λ k. bits_of p (pos k)) e ∙ bits_same p (pos (cast_unsigned w64 z)) z (same_written z (omega (arith, h)))

module _ (p : Primitive) (x y x' y' q q' : ℤ) (n : ℕ) (h : SFits w64 x) (ex : x' ≡ x) (ey : y' ≡ y) (eq : q' ≡ q) (f : n ≡ cast_unsigned w64 q') where
  pub quotient_bits : q ≡ int_wrapping_div w64 x' y' → bits_of p (pos n) ≡ bits_of p (int_div x y)
  quotient_bits e =
      let small : unsigned_abs (int_div x y) ≤ 2 ^ 63 = omega (arith, fits_small x h, quotient_small x y) in
      let same : int_div x' y' ≡ int_div x y = ap (λ z. int_div z y') ex ∙ ap (int_div x) ey in
      written_bits p (int_div x y) n small
      (f ∙ ap (cast_unsigned w64) (eq ∙ e ∙ ap (λ z. cast_signed w64 (cast_unsigned w64 z)) same) ∙ of_z-to_z w64 (cast_unsigned w64 (int_div x y)) (written_small (int_div x y) small))

  pub rest_bits : q ≡ int_rem x' y' → bits_of p (pos n) ≡ bits_of p (int_rem x y)
  rest_bits e =
      let small : unsigned_abs (int_rem x y) ≤ 2 ^ 63 = omega (arith, fits_small x h, rest_small x y) in
      written_bits p (int_rem x y) n small (f ∙ ap (cast_unsigned w64) (eq ∙ e ∙ ap (λ z. int_rem z y') ex ∙ ap (int_rem x) ey))

-- a shift to the left, whose upper bits are lost
pub left_bits : (p : Primitive) (x k count n : ℕ) → count ≡ k → count < 64 → n ≡ (x * 2 ^ (count % 64)) % 2 ^ 64 → bits_of p (pos n) ≡ bits_of p (pos (x * 2 ^ k))
left_bits p x k count n e h f =
    let whole : count % 64 ≡ k = mod-eq_of_lt h ∙ e in
    ap (λ m. bits_of p (pos m)) (f ∙ ap (λ i. (x * 2 ^ i) % 2 ^ 64) whole) ∙ bits_same p _ _ (same_left (x * 2 ^ k))

shifted_is : (z : ℤ) (m : ℕ) → int_shr z m ≡ int_div_euclid z (pos (2 ^ m))
shifted_is (pos a) m = refl
shifted_is (negsuc a) m = refl

shifted_small : (z : ℤ) (m : ℕ) → unsigned_abs (int_div_euclid z (pos m)) ≤ unsigned_abs z
shifted_small (pos a) m = div-le_self a m
shifted_small (negsuc a) m = omega (arith, div-le_self a m)

-- a shift to the right, which copies the sign
pub right_bits : (p : Primitive) (x k count n : ℕ) (z z' s s' : ℤ) → z' ≡ z → s' ≡ s → x < 2 ^ 64 → is_signed p ≡ true → count ≡ k → count < 64 → z ≡ cast_signed w64 x → s ≡ int_shr z' (count % 64) → n ≡ cast_unsigned w64 s' → bits_of p (pos n) ≡ bits_of p (int_div_euclid (number_of p x) (pos (2 ^ k)))
right_bits p x k count n z z' s s' sz ss h signed e small ez es en =
    let whole : count % 64 ≡ k = mod-eq_of_lt small ∙ e in
    let from : z ≡ number_of p x = ez ∙ sym (ap (λ b. number b x) signed) in
    let near : unsigned_abs z ≤ 2 ^ 63 = subst (λ y. unsigned_abs y ≤ 2 ^ 63) (sym ez) (fits_small (cast_signed w64 x) (to_z-Fits w64 x (record { fits = h }))) in
    let there : s ≡ int_div_euclid z (pos (2 ^ k)) = es ∙ ap (λ y. int_shr y (count % 64)) sz ∙ ap (int_shr z) whole ∙ shifted_is z k in
    written_bits p (int_div_euclid z (pos (2 ^ k))) n (omega (arith, near, shifted_small z (2 ^ k))) (en ∙ ap (cast_unsigned w64) (ss ∙ there)) ∙ ap (λ y. bits_of p (int_div_euclid y (pos (2 ^ k)))) from

-- a conversion to a signed type
pub wide_bits : (n : ℕ) → n < 2 ^ 64 → n ≡ converted I64 n
unfolding int_wrap
wide_bits n h = sym (ap (λ m. cast_unsigned w64 (cast_signed w64 m)) (mod-eq_of_lt h) ∙ of_z-to_z w64 n h)

pub flat_bits : (n : ℕ) → n < 2 ^ 64 → n ≡ converted U64 n
flat_bits n h = sym (mod-eq_of_lt h)

pub byte_bits : (n r : ℕ) (z z' y y' : ℤ) → z ≡ cast_signed w8 (n % 2 ^ 8) → z' ≡ z → y ≡ z' → y' ≡ y → r ≡ cast_unsigned w64 y' → r ≡ converted I8 n
unfolding int_wrap
byte_bits n r z z' y y' e ez f ey g = g ∙ ap (cast_unsigned w64) (ey ∙ f ∙ ez ∙ e)

pub short_bits : (n r : ℕ) (z z' y y' : ℤ) → z ≡ cast_signed w16 (n % 2 ^ 16) → z' ≡ z → y ≡ z' → y' ≡ y → r ≡ cast_unsigned w64 y' → r ≡ converted I16 n
unfolding int_wrap
short_bits n r z z' y y' e ez f ey g = g ∙ ap (cast_unsigned w64) (ey ∙ f ∙ ez ∙ e)

pub word_bits : (n r : ℕ) (z z' y y' : ℤ) → z ≡ cast_signed w32 (n % 2 ^ 32) → z' ≡ z → y ≡ z' → y' ≡ y → r ≡ cast_unsigned w64 y' → r ≡ converted I32 n
unfolding int_wrap
word_bits n r z z' y y' e ez f ey g = g ∙ ap (cast_unsigned w64) (ey ∙ f ∙ ez ∙ e)

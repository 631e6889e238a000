-- Numbers that differ by a multiple of 2 ^ 64 have the same bits in each type.
use Rattle.std.proofs.Common.{◌≡◌, ℕ, ◌+◌, ◌-◌, ◌*◌, ◌/◌, ◌%◌, ◌^◌, ◌<◌, ◌≤◌, Bool, true, false, ℤ, pos, negsuc, ◌+ℤ◌, ◌-ℤ◌, ◌*ℤ◌, neg_ℤ, unsigned_abs, refl, sym, ap, ◌∙◌, arith, mul-le-mul_left, div-add-mod', w8, w16, w32, w64}
use Rattle.std.specs.Int.{Width, cast_signed, cast_unsigned, int_rem_euclid, int_wrap}
use mir.Val.{bits, SFits}
use mir.ValLaws.{to_z-Fits}
use borrow.Author.Differences.{up, down, same_in, same_out, sum_is_lem, neg_is, product_is}
use lib.IntN.{*ℤ_comm, +ℤ_idl}
use Rattle.std.proofs.lemmas.Int.{ints, int_rem_euclid_is, of_z-to_z}
use Rattle.ang_kinds.specs.declared.primitive.Primitive.{Primitive}
use Rattle.ang_kinds.specs.declared.primitive.Primitive.TheVariants.{I8, I16, I32, I64, U8, U16, U32, U64, Bool as Truth}
use Rattle.ang_meaning.specs.Numbers.{number, number_of, bits_of}
use Rattle.ang_kinds.specs.Primitives.{is_signed}

-- a and b differ by a multiple of m
pub record Same (m : ℕ) (a b : ℤ) : Type 0 where
  pub more : ℕ
  pub less : ℕ
  pub meet : a +ℤ pos (more * m) ≡ b +ℤ pos (less * m)

rem_same : (m : ℕ) → 0 < m → (a b : ℤ) → Same m a b → int_rem_euclid a (pos m) ≡ int_rem_euclid b (pos m)
rem_same m some a b s =
    let e = s.meet in
    let t = down a + down b in
    let far : t * 1 ≤ t * m = mul-le-mul_left t some in
    let n = up a + (s.more + t) * m - down a in
    let from : (z : ℤ) (i : ℕ) → z +ℤ pos ((i + t) * m) ≡ pos n → int_rem_euclid z (pos m) ≡ pos (n % m) = λ z i h. int_rem_euclid_is z (pos m) m (i + t) n some refl h in
    from a s.more (omega (arith, ints)) ∙ sym (from b s.less (omega (arith, ints)))

narrower : (k m : ℕ) (a b : ℤ) → Same (k * m) a b → Same m a b
narrower k m a b s =
    let e : s.more * (k * m) ≡ s.more * k * m = omega arith in
    let f : s.less * (k * m) ≡ s.less * k * m = omega arith in
    record { more = s.more * k; less = s.less * k; meet = sym (ap (λ n. a +ℤ pos n) e) ∙ s.meet ∙ ap (λ n. b +ℤ pos n) f }

wrap_same : (w : Width) (a b : ℤ) → 0 < 2 ^ bits w → Same (2 ^ bits w) a b → int_wrap w a ≡ int_wrap w b
unfolding int_wrap
wrap_same w a b some s = ap (λ r. cast_signed w (unsigned_abs r)) (rem_same (2 ^ bits w) some a b s)

pub bits_same : (p : Primitive) (a b : ℤ) → Same (2 ^ 64) a b → bits_of p a ≡ bits_of p b
bits_same I8 a b s = ap (cast_unsigned w64) (wrap_same w8 a b (omega arith) (narrower (2 ^ 56) (2 ^ 8) a b s))
bits_same I16 a b s = ap (cast_unsigned w64) (wrap_same w16 a b (omega arith) (narrower (2 ^ 48) (2 ^ 16) a b s))
bits_same I32 a b s = ap (cast_unsigned w64) (wrap_same w32 a b (omega arith) (narrower (2 ^ 32) (2 ^ 32) a b s))
bits_same I64 a b s = ap (cast_unsigned w64) (wrap_same w64 a b (omega arith) s)
bits_same U8 a b s = ap (cast_unsigned w64) (rem_same (2 ^ 8) (omega arith) a b (narrower (2 ^ 56) (2 ^ 8) a b s))
bits_same U16 a b s = ap (cast_unsigned w64) (rem_same (2 ^ 16) (omega arith) a b (narrower (2 ^ 48) (2 ^ 16) a b s))
bits_same U32 a b s = ap (cast_unsigned w64) (rem_same (2 ^ 32) (omega arith) a b (narrower (2 ^ 32) (2 ^ 32) a b s))
bits_same U64 a b s = ap (cast_unsigned w64) (rem_same (2 ^ 64) (omega arith) a b s)
bits_same Truth a b s = ap (cast_unsigned w64) (rem_same 2 (omega arith) a b (narrower (2 ^ 63) 2 a b s))

pub same_back : (m : ℕ) (a b : ℤ) → Same m a b → Same m b a
same_back m a b s = record { more = s.less; less = s.more; meet = sym s.meet }

pub same_on : (m : ℕ) (a b c : ℤ) → Same m a b → Same m b c → Same m a c
same_on m a b c s t =
    let e = s.meet in
    let f = t.meet in
    record { more = s.more + t.more; less = s.less + t.less; meet = omega (arith, same_in, same_out, sum_is_lem) }

same_sum : (m : ℕ) (a b c d : ℤ) → Same m a b → Same m c d → Same m (a +ℤ c) (b +ℤ d)
same_sum m a b c d s t =
    let e = s.meet in
    let f = t.meet in
    record { more = s.more + t.more; less = s.less + t.less; meet = omega (arith, same_in, same_out, sum_is_lem) }

same_difference : (m : ℕ) (a b c d : ℤ) → Same m a b → Same m c d → Same m (a -ℤ c) (b -ℤ d)
same_difference m a b c d s t =
    let e = s.meet in
    let f = t.meet in
    record { more = s.more + t.less; less = s.less + t.more; meet = omega (arith, same_in, same_out, sum_is_lem, neg_is) }

same_times : (m : ℕ) (a b c : ℤ) → Same m a b → Same m (a *ℤ c) (b *ℤ c)
same_times m a b c s =
    let e = s.meet in
    let sum : up a + s.more * m + down b ≡ up b + s.less * m + down a = omega (arith, same_out, sum_is_lem) in
    let above = ap (λ x. x * up c) sum in
    let below = ap (λ x. x * down c) sum in
    record { more = s.more * up c + s.less * down c; less = s.less * up c + s.more * down c; meet = omega (arith, same_in, sum_is_lem, product_is) }

same_product : (m : ℕ) (a b c d : ℤ) → Same m a b → Same m c d → Same m (a *ℤ c) (b *ℤ d)
same_product m a b c d s t =
    let first = same_times m a b c s in
    let second = same_times m c d b t in
    let turned : Same m (b *ℤ c) (b *ℤ d) = record { more = second.more; less = second.less; meet = ap (λ z. z +ℤ pos (second.more * m)) (*ℤ_comm b c) ∙ second.meet ∙ ap (λ z. z +ℤ pos (second.less * m)) (*ℤ_comm d b) } in
    same_on m (a *ℤ c) (b *ℤ c) (b *ℤ d) first turned

-- what is left of a number of at least 64 bits
pub same_left : (n : ℕ) → Same (2 ^ 64) (pos (n % 2 ^ 64)) (pos n)
same_left n = record { more = n / 2 ^ 64; less = 0; meet = ap pos (omega (arith, div-add-mod' n (2 ^ 64))) }

read_from : (z : ℤ) (x : ℕ) → SFits w64 z → cast_unsigned w64 z ≡ x → Same (2 ^ 64) z (pos x)
read_from (pos n) x f e = record { more = 0; less = 0; meet = omega (arith, ints) }
read_from (negsuc n) x f e = let small = f.sfits in record { more = 1; less = 0; meet = omega (arith, ints) }

-- the number that some bits stand for
pub same_read : (signed : Bool) (x : ℕ) → x < 2 ^ 64 → Same (2 ^ 64) (number signed x) (pos x)
same_read false x h = record { more = 0; less = 0; meet = refl }
same_read true x h = read_from (cast_signed w64 x) x (to_z-Fits w64 x (record { fits = h })) (of_z-to_z w64 x h)

-- and the bits of a number that is not too large
pub same_written : (z : ℤ) → unsigned_abs z ≤ 2 ^ 64 → Same (2 ^ 64) (pos (cast_unsigned w64 z)) z
same_written (pos n) h = record { more = 0; less = 0; meet = refl }
same_written (negsuc n) h = record { more = 0; less = 1; meet = omega (arith, ints) }

module _ (p : Primitive) (x y : ℕ) (hx : x < 2 ^ 64) (hy : y < 2 ^ 64) where
  pub sum_bits : bits_of p (pos ((x + y) % 2 ^ 64)) ≡ bits_of p (number_of p x +ℤ number_of p y)
  sum_bits = bits_same p _ _ (same_on (2 ^ 64) (pos ((x + y) % 2 ^ 64)) (pos x +ℤ pos y) (number_of p x +ℤ number_of p y) (same_left (x + y)) (same_back (2 ^ 64) _ _ (same_sum (2 ^ 64) (number_of p x) (pos x) (number_of p y) (pos y) (same_read (is_signed p) x hx) (same_read (is_signed p) y hy))))

  pub difference_bits : bits_of p (pos ((x + (2 ^ 64 - y)) % 2 ^ 64)) ≡ bits_of p (number_of p x -ℤ number_of p y)
  difference_bits =
      let less : Same (2 ^ 64) (pos (x + (2 ^ 64 - y))) (pos x -ℤ pos y) = record { more = 0; less = 1; meet = omega (arith, ints) } in
      bits_same p _ _ (same_on (2 ^ 64) (pos ((x + (2 ^ 64 - y)) % 2 ^ 64)) (pos x -ℤ pos y) (number_of p x -ℤ number_of p y)
      (same_on (2 ^ 64) _ _ _ (same_left (x + (2 ^ 64 - y))) less)
      (same_back (2 ^ 64) _ _ (same_difference (2 ^ 64) (number_of p x) (pos x) (number_of p y) (pos y) (same_read (is_signed p) x hx) (same_read (is_signed p) y hy))))

  pub product_bits : bits_of p (pos ((x * y) % 2 ^ 64)) ≡ bits_of p (number_of p x *ℤ number_of p y)
  product_bits = bits_same p _ _ (same_on (2 ^ 64) (pos ((x * y) % 2 ^ 64)) (pos x *ℤ pos y) (number_of p x *ℤ number_of p y) (same_left (x * y)) (same_back (2 ^ 64) _ _ (same_product (2 ^ 64) (number_of p x) (pos x) (number_of p y) (pos y) (same_read (is_signed p) x hx) (same_read (is_signed p) y hy))))

none_is : (signed : Bool) → number signed 0 ≡ pos 0
none_is true = refl
none_is false = refl

module _ (p : Primitive) (x : ℕ) (hx : x < 2 ^ 64) where
  pub negated_bits : bits_of p (pos ((0 + (2 ^ 64 - x)) % 2 ^ 64)) ≡ bits_of p (neg_ℤ (number_of p x))
  negated_bits = difference_bits p 0 x (omega arith) hx ∙ ap (λ z. bits_of p (z -ℤ number_of p x)) (none_is (is_signed p)) ∙ ap (bits_of p) (+ℤ_idl (neg_ℤ (number_of p x)))

  pub complemented_bits : bits_of p (pos (2 ^ 64 - 1 - x)) ≡ bits_of p (negsuc 0 -ℤ number_of p x)
  complemented_bits =
      let turned : Same (2 ^ 64) (pos (2 ^ 64 - 1 - x)) (negsuc 0 -ℤ pos x) = record { more = 0; less = 1; meet = omega (arith, ints) } in
      let one : Same (2 ^ 64) (negsuc 0) (negsuc 0) = record { more = 0; less = 0; meet = refl } in
      bits_same p _ _ (same_on (2 ^ 64) (pos (2 ^ 64 - 1 - x)) (negsuc 0 -ℤ pos x) (negsuc 0 -ℤ number_of p x) turned
      (same_back (2 ^ 64) _ _ (same_difference (2 ^ 64) (negsuc 0) (negsuc 0) (number_of p x) (pos x) one (same_read (is_signed p) x hx))))

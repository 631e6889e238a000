-- Numbers of the script's types and the operators on them (docs/LANGUAGE.md, "Values of operators"; the AngelScript manual, "Expressions").
use Rattle.std.specs.Prelude.{ℕ, zero, suc, ◌-◌, ◌*◌, ◌/◌, ◌%◌, ◌^◌, Bool, true, false, not, if◌then◌else◌, nat_eq, ℤ, pos, negsuc, ◌+ℤ◌, ◌-ℤ◌, ◌*ℤ◌, neg_ℤ, int_lt, int_le, int_div, int_rem, bit_and, bit_or, bit_xor}
use Rattle.std.specs.Int.{w8, w16, w32, w64, cast_signed, cast_unsigned, int_div_euclid, int_rem_euclid, int_wrap}
use Rattle.ang_kinds.specs.declared.primitive.Primitive.{Primitive}
use Rattle.ang_kinds.specs.declared.primitive.Primitive.TheVariants.{I8, I16, I32, I64, U8, U16, U32, U64, Bool as Truth}
use Rattle.ang_kinds.specs.Primitives.{is_signed, width_of}
use Rattle.ang_kinds.specs.declared.fault.Fault.{Fault}
use Rattle.ang_kinds.specs.declared.fault.Fault.TheVariants.{DivideByZero, DivideOverflow}
use Rattle.ang_kinds.specs.declared.operator.Operator.{Operator}
use Rattle.ang_kinds.specs.declared.operator.Operator.TheVariants.{Add, Subtract, Multiply, Divide, Remainder, BitAnd, BitOr, BitXor, ShiftLeft, ShiftRight, ShiftRightArithmetic}
use Rattle.ang_kinds.specs.declared.operator.Comparison.{Comparison}
use Rattle.ang_kinds.specs.declared.operator.Comparison.TheVariants.{Equal, NotEqual, Less, LessEqual, Greater, GreaterEqual}
use Rattle.ang_meaning.specs.declared.operation.Update.{Update}

-- the one number of the type that differs from z by a multiple of 2 ^ width
abbrev pub wrapped : Primitive → ℤ → ℤ
wrapped I8 z = int_wrap w8 z
wrapped I16 z = int_wrap w16 z
wrapped I32 z = int_wrap w32 z
wrapped I64 z = int_wrap w64 z
wrapped U8 z = int_rem_euclid z (pos (2 ^ 8))
wrapped U16 z = int_rem_euclid z (pos (2 ^ 16))
wrapped U32 z = int_rem_euclid z (pos (2 ^ 32))
wrapped U64 z = int_rem_euclid z (pos (2 ^ 64))
wrapped Truth z = int_rem_euclid z (pos 2)

-- A number is kept as 64 bits: two's complement where its type is signed. This is the number that the bits stand for.
abbrev pub number : Bool → ℕ → ℤ
number true n = cast_signed w64 n
number false n = pos n

abbrev pub number_of : Primitive → ℕ → ℤ
number_of p n = number (is_signed p) n

-- the bits of a number that is brought into the type
abbrev pub bits_of : Primitive → ℤ → ℕ
bits_of p z = cast_unsigned w64 (wrapped p z)

-- a conversion keeps the low bits
abbrev pub converted : Primitive → ℕ → ℕ
converted p n = bits_of p (pos n)

-- the bits of the result, or a fault
pub data Worked : Type 0 where
  Is : ℕ → Worked
  Cannot : Fault → Worked

-- the least number of a type
abbrev pub least : Primitive → ℤ
least I8 = negsuc (2 ^ 7 - 1)
least I16 = negsuc (2 ^ 15 - 1)
least I32 = negsuc (2 ^ 31 - 1)
least I64 = negsuc (2 ^ 63 - 1)
least _ = pos 0

-- the least number divided by -1 has no quotient in its type
abbrev pub divided : Primitive → ℤ → ℤ → ℤ → Worked
divided p x (pos zero) result = Cannot DivideByZero
divided p x (pos (suc n)) result = Is (bits_of p result)
divided p x (negsuc zero) result = if int_le x (least p) then Cannot DivideOverflow else Is (bits_of p result)
divided p x (negsuc (suc n)) result = Is (bits_of p result)

-- A binary operator in a type. A shift's count is taken modulo the width; `>>` fills zeros into the type's bits, and `>>>` divides by the power of 2,
-- rounding down, which copies the sign.
unfoldable pub binary_result : Operator → Primitive → ℕ → ℕ → Worked
binary_result Add p x y = Is (bits_of p (number_of p x +ℤ number_of p y))
binary_result Subtract p x y = Is (bits_of p (number_of p x -ℤ number_of p y))
binary_result Multiply p x y = Is (bits_of p (number_of p x *ℤ number_of p y))
binary_result Divide p x y = divided p (number_of p x) (number_of p y) (int_div (number_of p x) (number_of p y))
binary_result Remainder p x y = divided p (number_of p x) (number_of p y) (int_rem (number_of p x) (number_of p y))
binary_result BitAnd p x y = Is (bit_and x y)
binary_result BitOr p x y = Is (bit_or x y)
binary_result BitXor p x y = Is (bit_xor x y)
binary_result ShiftLeft p x y = Is (bits_of p (pos (x * 2 ^ (y % width_of p))))
binary_result ShiftRight p x y = Is (bits_of p (pos (x % 2 ^ width_of p / 2 ^ (y % width_of p))))
binary_result ShiftRightArithmetic p x y = Is (bits_of p (int_div_euclid (number_of p x) (pos (2 ^ (y % width_of p)))))

-- 1 where it holds, and else 0
abbrev pub truth : Bool → ℕ
truth true = 1
truth false = 0

abbrev pub compared : Comparison → ℤ → ℤ → ℕ → ℕ → Bool
compared Equal x y m n = nat_eq m n
compared NotEqual x y m n = not (nat_eq m n)
compared Less x y m n = int_lt x y
compared LessEqual x y m n = int_le x y
compared Greater x y m n = int_lt y x
compared GreaterEqual x y m n = int_le y x

-- a comparison of numbers of a signed type, or of an unsigned one
unfoldable pub holds_of : Comparison → Bool → ℕ → ℕ → ℕ
holds_of c signed x y = truth (compared c (number signed x) (number signed y) x y)

unfoldable pub negated : Primitive → ℕ → ℕ
negated p x = bits_of p (neg_ℤ (number_of p x))

-- each bit turned: -1 - x
unfoldable pub complemented : Primitive → ℕ → ℕ
complemented p x = bits_of p (negsuc 0 -ℤ number_of p x)

unfoldable pub denied : ℕ → ℕ
denied x = truth (nat_eq x 0)

-- what a change stores and what its expression gives, or a fault
pub data Changed : Type 0 where
  Into : (stored given : ℕ) → Changed
  Never : Fault → Changed

abbrev pub changed_to : Update → ℕ → Worked → Changed
changed_to c x (Cannot f) = Never f
changed_to c x (Is n) = Into (converted c.to n) (if c.old then x else converted c.to n)

-- a variable's value x changed by y
unfoldable pub changed : Update → ℕ → ℕ → Changed
changed c x y = changed_to c x (binary_result c.operator c.at (converted c.at x) y)

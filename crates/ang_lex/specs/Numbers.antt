-- Numbers: their spelling, their value and their type (docs/LANGUAGE.md, "Tokens").
use Rattle.std.specs.Prelude.{ℕ, ◌^◌, Bool, ◌==◌, ◌||◌, ◌&&◌, length, nat_lt, if◌then◌else◌, List, [], ◌∷◌, Option, Some, None, is_some, option_and_then, unwrap_or}
use Rattle.std.specs.List.{list_all}
use Rattle.std.specs.Str.Parse.{digits_value}
use Rattle.ang_kinds.specs.declared.primitive.Primitive.{Primitive}
use Rattle.ang_kinds.specs.declared.primitive.Primitive.TheVariants.{I32, I64, U32, U64}
use Rattle.ang_lex.specs.declared.numeral.Number.{Number}
use Rattle.ang_lex.specs.Bytes.{is_digit_in}

-- the base that the letter of a prefix stands for: `x` 16, `o` 8, `b` 2, `d` 10, in either case
abbrev pub base_of : ℕ → Option ℕ
base_of letter =
    if letter == 120 || letter == 88 then Some 16
    else (if letter == 111 || letter == 79 then Some 8
    else (if letter == 98 || letter == 66 then Some 2
    else (if letter == 100 || letter == 68 then Some 10
    else None)))

-- digits of the base, one at least
abbrev pub are_digits : ℕ → List ℕ → Bool
are_digits base digits = nat_lt 0 (length digits) && list_all (is_digit_in base) digits

-- a base, and digits of it
abbrev pub Numeral : Type 0
Numeral = ℕ × List ℕ

abbrev pub digits_in : List ℕ → ℕ → Option Numeral
digits_in digits base = if are_digits base digits then Some (base, digits) else None

-- `0`, the letter of a base, and digits of that base
abbrev pub prefixed_numeral : List ℕ → Option Numeral
prefixed_numeral [] = None
prefixed_numeral (first ∷ []) = None
prefixed_numeral (first ∷ letter ∷ digits) = if first == 48 then option_and_then (digits_in digits) (base_of letter) else None

-- the numeral that a text spells: decimal digits, or a numeral with a prefix
abbrev pub numeral_of : List ℕ → Option Numeral
numeral_of text = if are_digits 10 text then Some (10, text) else prefixed_numeral text

abbrev pub is_number : List ℕ → Bool
is_number text = is_some (numeral_of text)

-- the type of a number: in base 10 the first of `int`, `int64` and `uint64` that has it, in another base `uint` or `uint64`
abbrev pub type_of : ℕ → ℕ → Primitive
type_of base value =
    if base == 10 then (if nat_lt value (2 ^ 31) then I32 else (if nat_lt value (2 ^ 63) then I64 else U64))
    else (if nat_lt value (2 ^ 32) then U32 else U64)

-- the number of a numeral, unless it is 2^64 or more
abbrev pub number_of_numeral : Numeral → Option Number
number_of_numeral n =
    let value = digits_value n.0 n.1 in
    if nat_lt value (2 ^ 64) then Some (record { ty = type_of n.0 value; value = value }) else None

-- the number that a text spells, if it spells one below 2^64
unfoldable pub spelled_number : List ℕ → Option Number
spelled_number text = option_and_then number_of_numeral (numeral_of text)

-- the same, and for any other text the `int` 0
abbrev pub number_of : List ℕ → Number
number_of text = unwrap_or (spelled_number text) (record { ty = I32; value = 0 })

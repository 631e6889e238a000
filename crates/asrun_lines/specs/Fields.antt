-- The fields of a line, and the numbers, masks and values that they spell (docs/HOST.md, "The
-- program").
use Rattle.std.specs.Prelude.{ℕ, ℤ, pos, neg_ℤ, ◌+◌, ◌*◌, ◌^◌, Bool, ◌||◌, List, [], ◌∷◌, length, take, drop, Option, Some, None, nat_lt, nat_le, slice_index, ◌==◌, if◌then◌else◌, position}
use Rattle.std.specs.Option.{option_and_then, option_map}
use Rattle.std.specs.List.{list_any}
use Rattle.std.specs.Char.{digit_value}
use Rattle.ang_kinds.specs.declared.mask.Mask.{Mask}

infixl 10 ◌>>=◌
abbrev pub ◌>>=◌ : {A B : Type 0} → Option A → (A → Option B) → Option B
o >>= f = option_and_then f o

-- Fields are separated by one space.
abbrev pub is_space : ℕ → Bool
is_space b = b == 32

-- the first field, which isn't empty, and what follows the space after it
unfoldable pub field_of : List ℕ → Option (List ℕ × List ℕ)
field_of line = do
  at ← position is_space line
  if at == 0 then None else Some (take at line, drop (at + 1) line)

-- the last field: all that is left, if that is neither empty nor has a space
unfoldable pub last_field_of : List ℕ → Option (List ℕ)
last_field_of line = if length line == 0 || list_any is_space line then None else Some line

-- the rest of a line, spaces and all, which isn't empty
unfoldable pub rest_of : List ℕ → Option (List ℕ)
rest_of line = if length line == 0 then None else Some line

-- the number that digits of a base write after the number n
unfoldable pub numeral_of : ℕ → ℕ → List ℕ → Option ℕ
numeral_of base n [] = Some n
numeral_of base n (b ∷ bs) =
    if nat_lt (digit_value b) base then numeral_of base (n * base + digit_value b) bs else None

-- a number below the bound
abbrev pub below : ℕ → ℕ → Option ℕ
below bound n = if nat_lt n bound then Some n else None

-- a number of 64 bits
unfoldable pub numeral64_of : ℕ → List ℕ → Option ℕ
numeral64_of base text = numeral_of base 0 text >>= below (2 ^ 64)

-- 1 to `most` decimal digits that write a number of 64 bits
unfoldable pub decimal_of : ℕ → List ℕ → Option ℕ
decimal_of most text =
    if length text == 0 || nat_lt most (length text) then None else numeral64_of 10 text

-- eight hexadecimal digits
unfoldable pub mask_of : List ℕ → Option Mask
mask_of text =
    if length text == 8
    then option_map (λ n. record { 0 = n }) (numeral64_of 16 text >>= below (2 ^ 32))
    else None

-- a number of 32 bits in 1 to 10 decimal digits
unfoldable pub number_of : List ℕ → Option ℕ
number_of text = decimal_of 10 text >>= below (2 ^ 32)

-- a number of 32 bits with a sign, written as `7` or, without its sign here, as `-7`
unfoldable pub positive32_of : List ℕ → Option ℤ
positive32_of digits = do
  n ← decimal_of 10 digits
  if nat_lt n (2 ^ 31) then Some (pos n) else None

unfoldable pub negative32_of : List ℕ → Option ℤ
negative32_of digits = do
  n ← decimal_of 10 digits
  if nat_le n (2 ^ 31) then Some (neg_ℤ (pos n)) else None

-- `7` or `-7`, of 1 to 10 digits
unfoldable pub signed_of : List ℕ → Option ℤ
signed_of text =
    if length text == 0 then None
    else (if slice_index text 0 == 45 then negative32_of (drop 1 text) else positive32_of text)

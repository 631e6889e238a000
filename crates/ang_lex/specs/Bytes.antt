-- Classes of bytes.
use Rattle.std.specs.Prelude.{ℕ, Bool, ◌==◌, ◌||◌, ◌&&◌, not, nat_le, nat_lt, List, [], ◌∷◌, false}
use Rattle.std.specs.Char.{is_ascii_alphabetic, is_ascii_alphanumeric, digit_value}

-- the end of a line
abbrev pub line_feed : ℕ
line_feed = 10

-- a byte of white space: space, tab, CR or LF
abbrev pub is_white : ℕ → Bool
is_white b = b == 32 || b == 9 || b == 13 || b == line_feed

-- a letter or `_`: a name begins with it
abbrev pub is_name_start : ℕ → Bool
is_name_start b = is_ascii_alphabetic b || b == 95

-- a letter, a digit or `_`: a name goes on with it
abbrev pub is_name_byte : ℕ → Bool
is_name_byte b = is_ascii_alphanumeric b || b == 95

-- a digit of the base, a letter in either case
abbrev pub is_digit_in : ℕ → ℕ → Bool
is_digit_in base b = nat_lt (digit_value b) base

-- what a text may have between its quotes: printable ASCII without `"` and `\`
abbrev pub is_text_byte : ℕ → Bool
is_text_byte b = nat_le 32 b && nat_le b 126 && not (b == 34) && not (b == 92)

-- the first byte is of the class; there is none in nothing
abbrev pub begins : (ℕ → Bool) → List ℕ → Bool
begins class [] = false
begins class (b ∷ bs) = class b

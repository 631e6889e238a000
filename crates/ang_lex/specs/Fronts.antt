-- How far each kind of token goes, by its first byte. That this is the longest token is a law: proofs/FoundIsLongest.antt.
use Rattle.std.specs.Prelude.{ℕ, zero, suc, ◌+◌, Bool, ◌==◌, ◌&&◌, not, if◌then◌else◌, List, [], ◌∷◌, length, take, drop, nat_eq, Option, Some, None}
use Rattle.std.specs.List.{prefix_len, starts_with}
use Rattle.ang_lex.specs.declared.token.TokenKind.{TokenKind}
use Rattle.ang_lex.specs.declared.token.TokenKind.TheVariants as k
use Rattle.ang_lex.specs.Bytes.{is_name_start, is_name_byte, is_digit_in, is_text_byte, begins}
use Rattle.ang_lex.specs.Numbers.{base_of}
use Rattle.ang_lex.specs.Words.{Entry, reserved_words, signs, not_is, lookup}

abbrev pub name_len : List ℕ → ℕ
name_len = prefix_len is_name_byte

abbrev pub digits_len : ℕ → List ℕ → ℕ
digits_len base = prefix_len (is_digit_in base)

-- after a prefix one digit at least has to come
abbrev pub behind_prefix : ℕ → ℕ
behind_prefix zero = 0
behind_prefix (suc n) = suc n + 2

abbrev pub digits_in_len : Option ℕ → List ℕ → ℕ
digits_in_len None digits = 0
digits_in_len (Some base) digits = behind_prefix (digits_len base digits)

-- the length of a number with a prefix, or 0
abbrev pub prefixed_len : List ℕ → ℕ
prefixed_len [] = 0
prefixed_len (first ∷ []) = 0
prefixed_len (first ∷ letter ∷ digits) = if first == 48 then digits_in_len (base_of letter) digits else 0

abbrev pub or_else : ℕ → ℕ → ℕ
or_else zero n = n
or_else (suc m) n = suc m

abbrev pub number_len : List ℕ → ℕ
number_len rest = or_else (prefixed_len rest) (digits_len 10 rest)

abbrev pub text_len : List ℕ → ℕ
text_len [] = 0
text_len (quote ∷ rest) =
    let n = prefix_len is_text_byte rest in
    if begins (λ b. b == 34) (drop n rest) then n + 2 else 0

-- the first entry that the rest begins with
unfoldable pub first_of_entries : List Entry → List ℕ → Option Entry
first_of_entries [] rest = None
first_of_entries (e ∷ entries) rest = if starts_with nat_eq rest e.0 then Some e else first_of_entries entries rest

abbrev pub begins_not_is : List ℕ → Bool
begins_not_is rest = starts_with nat_eq rest not_is && not (begins is_name_byte (drop 3 rest))

-- a token: its kind and its length
abbrev pub Front : Type 0
Front = TokenKind × ℕ

abbrev pub entry_token : Option Entry → Front
entry_token None = (k.NotIs, 0)
entry_token (Some e) = (e.1, length e.0)

unfoldable pub front_sign : List ℕ → Front
front_sign rest = if begins_not_is rest then (k.NotIs, 3) else entry_token (first_of_entries signs rest)

unfoldable pub front_name : List ℕ → Front
front_name rest = (lookup reserved_words (take (name_len rest) rest) k.Name, name_len rest)

-- the token at the front of a rest; its length is 0 where there is none
unfoldable pub front_token : List ℕ → Front
front_token [] = (k.Name, 0)
front_token (b ∷ bs) =
    if is_name_start b then front_name (b ∷ bs)
    else (if is_digit_in 10 b then (k.Number, number_len (b ∷ bs))
    else (if b == 34 then (k.Text, text_len (b ∷ bs))
    else front_sign (b ∷ bs)))

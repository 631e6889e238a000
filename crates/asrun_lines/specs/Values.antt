-- The arguments of a call, as a session spells them (docs/HOST.md, "The program").
use Rattle.std.specs.Prelude.{ℕ, pos, neg_ℤ, ◌-◌, ◌^◌, Bool, true, false, ◌&&◌, List, [], ◌∷◌, length, take, drop, Option, Some, None, nat_lt, nat_le, slice_index, slice_range, ◌==◌, if◌then◌else◌, codes}
use Rattle.std.specs.Option.{option_map}
use Rattle.std.specs.Str.{bytes_eq}
use Rattle.std.specs.List.{slice_split}
use Rattle.ang_kinds.specs.declared.value.Value.{Value}
use Rattle.ang_kinds.specs.declared.value.Value.TheVariants as value
use Rattle.asrun_lines.specs.Fields.{◌>>=◌, decimal_of}

-- a value of 64 bits with a sign, whose number 1 to 20 digits write
unfoldable pub positive_of : List ℕ → Option Value
positive_of digits = do
  n ← decimal_of 20 digits
  if nat_lt n (2 ^ 63) then Some (value.Int (pos n)) else None

unfoldable pub negative_of : List ℕ → Option Value
negative_of digits = do
  n ← decimal_of 20 digits
  if nat_le n (2 ^ 63) then Some (value.Int (neg_ℤ (pos n))) else None

-- the digits of `7`, `7u` or `-7`, of which there are 1 to 20
unfoldable pub digits_value_of : List ℕ → Option Value
digits_value_of text =
    if length text == 0 then None
    else (if slice_index text 0 == 45 then negative_of (drop 1 text)
    else (if slice_index text (length text - 1) == 117
    then option_map value.Uint (decimal_of 20 (take (length text - 1) text))
    else positive_of text))

-- `7` or `-7`, `7u`, `true`, `false`
unfoldable pub value_of : List ℕ → Option Value
value_of text =
    if bytes_eq text (codes "true") then Some (value.Bool true)
    else (if bytes_eq text (codes "false") then Some (value.Bool false)
    else digits_value_of text)

-- what each of them spells, if each spells something
unfoldable pub values_of : List (List ℕ) → Option (List Value)
values_of [] = Some []
values_of (piece ∷ pieces) = do
  v ← value_of piece
  option_map (λ vs. v ∷ vs) (values_of pieces)

abbrev pub is_comma : ℕ → Bool
is_comma b = b == 44

-- what stands between `(` and `)`
unfoldable pub inside_of : List ℕ → Option (List ℕ)
inside_of text =
    if nat_lt (length text) 2 then None
    else (if slice_index text 0 == 40 && slice_index text (length text - 1) == 41
    then Some (slice_range text 1 (length text - 1))
    else None)

-- `(V,V)`, or `()` for none
unfoldable pub arguments_of : List ℕ → Option (List Value)
arguments_of text = do
  inside ← inside_of text
  if length inside == 0 then Some [] else values_of (slice_split is_comma inside)

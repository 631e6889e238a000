-- What a line spells as an answer (docs/FORMATS.md, "The conversation of asremote").
use Rattle.std.specs.Prelude.{ℕ, List, Option, Some, None, length, slice_index, drop, ◌==◌, if◌then◌else◌, codes}
use Rattle.std.specs.Option.{option_map}
use Rattle.std.specs.Str.{bytes_eq}
use Rattle.ang_kinds.specs.declared.value.Value.{Value}
use Rattle.ang_kinds.specs.declared.value.Value.TheVariants as value
use Rattle.asrun_lines.specs.Fields.{field_of, decimal_of, number_of}
use Rattle.asrun_lines.specs.Lines.{shown_of}
use Rattle.asrun_lines.specs.Values.{value_of}
use Rattle.ang_remote.specs.declared.answers.Said.{Said}
use Rattle.ang_remote.specs.declared.answers.Said.TheVariants as said

-- the key that `#7` spells
unfoldable pub key_of : List ℕ → Option ℕ
key_of text =
    if length text == 0 then None
    else (if slice_index text 0 == 35 then decimal_of 20 (drop 1 text) else None)

-- a handle, where the text spells a key, and else a value without one
abbrev pub handle_or : Option ℕ → Option Value → Option Value
handle_or None other = other
handle_or (Some k) other = Some (value.Key (Some k))

-- `null`, `#7`, or a value of a call's notation
unfoldable pub handle_of : List ℕ → Option Value
handle_of text =
    if bytes_eq text (codes "null") then Some (value.Key None) else handle_or (key_of text) (value_of text)

-- `made #KEY` and `fault N`, by their word and what is after it
unfoldable pub spoken_of : List ℕ → List ℕ → Option Said
spoken_of word rest =
    if bytes_eq word (codes "made") then option_map said.Made (key_of rest)
    else (if bytes_eq word (codes "fault") then option_map said.Fault (number_of rest) else None)

-- an answer of more than one word, or else a value
abbrev pub in_words : Option (List ℕ × List ℕ) → List ℕ → Option Said
in_words None text = option_map said.Gave (handle_of text)
in_words (Some words) text = spoken_of words.0 words.1

-- the answer that a text spells
unfoldable pub spelled_of : List ℕ → Option Said
spelled_of text =
    if bytes_eq text (codes "void") then Some said.Void
    else (if bytes_eq text (codes "nothing") then Some said.Nothing
    else (if bytes_eq text (codes "memory") then Some said.Memory else in_words (field_of text) text))

-- the faults of the conversation
abbrev pub not_written : Said
not_written = said.Fault 4294967280

abbrev pub not_read : Said
not_read = said.Fault 4294967281

abbrev pub input_ended : Said
input_ended = said.Fault 4294967282

abbrev pub bad_form : Said
bad_form = said.Fault 4294967283

abbrev pub or_bad_form : Option Said → Said
or_bad_form None = bad_form
or_bad_form (Some s) = s

-- what a line says
unfoldable pub said_in : List ℕ → Said
said_in line = or_bad_form (spelled_of (shown_of line))

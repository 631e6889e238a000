-- What a mask hides, and the view with a hidden entry added, as denials ask it (docs/LANGUAGE.md, "Denials"; the AngelScript manual,
-- "Access masks and exposing different interfaces").
use Rattle.std.specs.Prelude.{ℕ, ◌+◌, ◌==◌, Bool, false, not, ◌||◌, if◌then◌else◌, is_some, List, [], ◌∷◌, map, length, Option, Some, None}
use Rattle.std.specs.List.{range_with_len}
use Rattle.std.specs.Option.{option_map_or}
use Rattle.ang_kinds.specs.Masks.{meets}
use Rattle.ang_view.specs.declared.entry.Entry.{Entry}
use Rattle.ang_view.specs.Registration.{RegistrationList, entry_at, is_named_by, is_seen, seen_entry}

-- the numbers of a list, blanks included
abbrev pub numbers_of : RegistrationList → List ℕ
numbers_of R = range_with_len 0 (length R)

-- ---- what is not seen

abbrev pub hidden_entry : RegistrationList → ℕ → Option Entry → Option Entry
hidden_entry R m None = None
hidden_entry R m (Some x) = if is_seen R m x then None else Some x

-- The list with every entry blanked that a module of mask m sees: what is left is hidden from it. Numbers stay.
unfoldable pub hidden : RegistrationList → ℕ → RegistrationList
hidden R m = map (hidden_entry R m) R

-- entry x is there, and a module of mask m does not see it
abbrev pub is_hidden : RegistrationList → ℕ → ℕ → Bool
is_hidden R m x = is_some (entry_at (hidden R m) x)

-- the own mask of entry y does not meet m
abbrev pub is_unmet : RegistrationList → ℕ → ℕ → Bool
is_unmet R m y = option_map_or (λ (e : Entry). not (meets e.mask.0 m)) (entry_at R y) false

-- ---- the view with an entry added

abbrev pub names_entry : Option Entry → ℕ → Option Entry → Bool
names_entry None n t = false
names_entry (Some x) n t = is_named_by x n t

-- entry y comes with entry x: it is x, or a type that the declaration of x names
abbrev pub is_with : RegistrationList → ℕ → ℕ → Bool
is_with R x y = (y == x) || names_entry (entry_at R x) y (entry_at R y)

abbrev pub shown_from : (ℕ → Option Entry → Option Entry) → ℕ → RegistrationList → RegistrationList
shown_from f n [] = []
shown_from f n (o ∷ os) = f n o ∷ shown_from f (n + 1) os

abbrev pub seen_entry_with : RegistrationList → ℕ → ℕ → ℕ → Option Entry → Option Entry
seen_entry_with R m x n o = if is_with R x n then o else seen_entry R m o

-- What a module of mask m sees, with entry x and the types that its declaration names added.
unfoldable pub seen_with : RegistrationList → ℕ → ℕ → RegistrationList
seen_with R m x = shown_from (seen_entry_with R m x) 0 R

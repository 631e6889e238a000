-- A list of which some entries alone are kept: a group of entries that was removed leaves blanks, and a built module keeps of its view
-- what it uses.
use Rattle.std.specs.Prelude.{ℕ, ◌≡◌, Bool, true, if◌then◌else◌, Option, Some, None}
use Rattle.ang_view.specs.declared.entry.Entry.{Entry}
use Rattle.ang_view.specs.Hidden.{shown_from}
use Rattle.ang_view.specs.Registration.{RegistrationList, entry_at, is_named_by}

abbrev pub kept_entry : (ℕ → Bool) → ℕ → Option Entry → Option Entry
kept_entry keep n o = if keep n then o else None

-- The list with every entry blanked whose number does not pass the test. Numbers stay.
unfoldable pub only : (ℕ → Bool) → RegistrationList → RegistrationList
only keep R = shown_from (kept_entry keep) 0 R

-- No entry that is kept names a type that is not.
abbrev pub NamesKept : (ℕ → Bool) → RegistrationList → Type 0
NamesKept keep R =
    (n k : ℕ) (x : Entry) → entry_at R n ≡ Some x → keep n ≡ true → is_named_by x k (entry_at R k) ≡ true → keep k ≡ true

-- Each entry of the first list stands in the second one, under its number.
abbrev pub IsWithin : RegistrationList → RegistrationList → Type 0
IsWithin V W = (n : ℕ) (x : Entry) → entry_at V n ≡ Some x → entry_at W n ≡ Some x

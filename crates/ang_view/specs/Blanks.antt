-- A registration list in which an entry becomes a blank, and an index of it out of which the entry's number is taken.
use Rattle.std.specs.Prelude.{ℕ, ◌≡◌, ◌==◌, Bool, not, ◌&&◌, nat_le, nat_lt, if◌then◌else◌, List, [], ◌∷◌, slice_set, Option, None}
use Rattle.ang_index.specs.Rows.{Rows, is_under}
use Rattle.ang_kinds.specs.declared.mask.EntityNo.{EntityNo}
use Rattle.ang_view.specs.declared.entry.Entry.{Entry}
use Rattle.ang_view.specs.Named.{Indexes, Scopes, numbers_at}
use Rattle.ang_view.specs.Registration.{RegistrationList, entry_at}

-- the numbers without the first that is n
abbrev pub without_first : ℕ → List ℕ → List ℕ
without_first n [] = []
without_first n (k ∷ ks) = if k == n then ks else k ∷ without_first n ks

-- n is taken out under a scope's number and a name, where it stands there, and nothing else changes
abbrev pub TakesOut : Rows EntityNo → Rows EntityNo → ℕ → List ℕ → ℕ → Type 0
TakesOut old new scope name n = (s : ℕ) (other : List ℕ) →
    numbers_at s other new ≡ (if is_under s other (scope, name) then without_first n (numbers_at s other old) else numbers_at s other old)

-- the list with a blank in place of the entry of number n; the others keep their numbers
abbrev pub blanked : RegistrationList → ℕ → RegistrationList
blanked V n = slice_set V n None

-- n does not stand in the range from `first` up to `after`, which is left out
abbrev pub left_outside_range : ℕ → ℕ → ℕ → Bool
left_outside_range first after n = not (nat_le first n && nat_lt n after)

-- an entry's number is taken out where it stands in a scope: rows that have a list's entries have those of the list with a blank in its place
abbrev pub TakesEntry : Scopes → Rows EntityNo → Rows EntityNo → Option Entry → ℕ → Type 0
TakesEntry scope_of old new o number = (V : RegistrationList) → o ≡ entry_at V number → Indexes scope_of V old → Indexes scope_of (blanked V number) new

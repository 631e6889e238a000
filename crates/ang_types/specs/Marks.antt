-- What is kept beside long lists of numbers, so that whether one has a number is told by one bit.
use Rattle.std.specs.Prelude.{ℕ, Bool, false, ◌≡◌, ◌==◌, ◌+◌, ◌-◌, ◌<◌, ◌≤◌, ◌/◌, ◌%◌, nat_lt, if◌then◌else◌, List, Option, IfSome, slice_get, slice_index}
use Rattle.std.specs.Int.{bit_at}
use Rattle.std.specs.List.{list_any}
use Rattle.ang_types.specs.declared.marks.Marks.{Marks}
use Rattle.ang_types.specs.Ranks.{Ancestors, types_above}

-- whether the list has the number
abbrev pub has : List ℕ → ℕ → Bool
has numbers n = list_any (λ k. k == n) numbers

-- whether a bit of the words is set, counted from the lowest of the first word
abbrev pub bit_of : List ℕ → ℕ → Bool
bit_of words at = bit_at (slice_index words (at / 64)) (at % 64) == 1

-- The words have a bit for each number from the least one on.
abbrev pub is_marked_in : ℕ → List ℕ → ℕ → Bool
is_marked_in least words n = if nat_lt n least then false else bit_of words (n - least)

abbrev pub is_marked : Marks → ℕ → Bool
is_marked marks n = is_marked_in marks.least marks.words.items n

-- There is a bit for this number in this many words.
pub record IsWithin (least count n : ℕ) : Type 0 where
  pub low : least ≤ n
  pub high : (n - least) / 64 < count

-- The marks, if there are any, are those of the list.
abbrev pub AreMarksOf : List ℕ → Option Marks → Type 0
AreMarksOf numbers marks = IfSome marks (λ m. (n : ℕ) → is_marked m n ≡ has numbers n)

-- Each of the marks are those of its list, of which the first is this one.
abbrev pub AreMarked : ℕ → List (Option Marks) → Ancestors → Type 0
AreMarked first marks above = (i : ℕ) → IfSome (slice_get marks i) (AreMarksOf (types_above above (first + i)))

-- Marks of a row, gone through place by place.
use Rattle.std.specs.Prelude.{ℕ, Bool, false, not, List, ◌++◌, length, ◌≡◌, ◌<◌, ◌≤◌, ◌&&◌, ◌||◌, slice_index_or}
use Rattle.ang_names_graph.specs.Graphs.{numbers_below}

-- j is marked in a row, and was not near
abbrev pub is_new : List Bool → List Bool → ℕ → Bool
is_new row was j = not (slice_index_or was j false) && slice_index_or row j false

-- Of the places below j those are near that were or are marked in the row, and those that are new stand after those in front.
pub record IsPart (row was : List Bool) (front : List ℕ) (j : ℕ) (near : List Bool) (places : List ℕ) : Type 0 where
  pub size : length near ≡ length row
  pub found : places ≡ front ++ numbers_below (is_new row was) j
  pub done : (a : ℕ) → a < j → a < length row → slice_index_or near a false ≡ (slice_index_or was a false || slice_index_or row a false)
  pub left : (a : ℕ) → j ≤ a → a < length row → slice_index_or near a false ≡ slice_index_or was a false

-- A text that is written in pieces: a front of it is written, and the rest is kept back.
use Rattle.std.specs.Prelude.{ℕ, ◌≡◌, List, ◌++◌, Option, flat_map}
use Rattle.std.specs.Io.KnownBytes.{Appends}
use Rattle.asrun_session.specs.Writing.{HasFront}

-- From the bytes `old` to the bytes `new` of the writer a front of the text was written, and the
-- rest of it is kept back.
pub record Holds (old new : Option (List ℕ)) (kept text : List ℕ) : Type 0 where
  pub written : List ℕ
  pub printed : Appends old new written
  pub whole : written ++ kept ≡ text

-- Lines, each with the text that f gives it, were put after what was kept back before.
pub record AddsLines {X : Type 0} (f : X → List ℕ) (old new : Option (List ℕ)) (before after : List ℕ) : Type 0 where
  pub lines : List X
  pub holds : Holds old new after (before ++ flat_map f lines)

-- A front of that was written.
pub record AddsFront {X : Type 0} (f : X → List ℕ) (old new : Option (List ℕ)) (before : List ℕ) : Type 0 where
  pub lines : List X
  pub front : HasFront old new (before ++ flat_map f lines)

-- The classes and interfaces of a build, found by name.
use Rattle.std.specs.Prelude.{ℕ, ◌≡◌, List, map}
use Rattle.ang_index.specs.Rows.{Rows, items_at}
use Rattle.ang_names_known.specs.NameIndex.{places_of}
use Rattle.ang_names_listed.specs.Declarations.{Declaring, family_name}

-- the rows have the places of each name, in scope 0
pub record HasPlaces (ds : List Declaring) (rows : Rows ℕ) : Type 0 where
  pub places : (name : List ℕ) → items_at 0 name rows ≡ places_of (map family_name ds) name

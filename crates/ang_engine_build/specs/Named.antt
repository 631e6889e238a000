-- What the tree of a built program has of the names that its sections declare.
use Rattle.std.specs.Prelude.{◌≡◌, ℕ, List, Ok}
use Rattle.ang_view.specs.Registration.{RegistrationList}
use Rattle.ang_names_listed.specs.Sources.{Source}
use Rattle.ang_check_sound.specs.Checked.{HasNames}
use Rattle.ang_engine_build.specs.Build.{Resolved}
use Rattle.ang_engine_build.specs.Script.{sources_of}

-- The sections are read, and what is in the tree is what their names declare.
pub record HasNamesOf (V : RegistrationList) (sections : List (List ℕ)) (r : Resolved) : Type 0 where
  pub sources : List Source
  pub are_read : sources_of 0 sections ≡ Ok sources
  pub names : HasNames V r.names sources r.tree

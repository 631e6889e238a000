-- What built modules keep of a group of entries (docs/HOST.md, "Groups").
use Rattle.std.specs.Prelude.{ℕ, ◌-◌, Bool, false, ◌&&◌, is_some, Option, Some, None}
use Rattle.std.specs.List.{list_any, range_with_len}
use Rattle.ang_view.specs.declared.group.Group.{Group}
use Rattle.ang_view.specs.Groups.{is_in}
use Rattle.ang_view.specs.Hidden.{numbers_of}
use Rattle.ang_view.specs.Registration.{RegistrationList, entry_at}
use Rattle.ang_engine_modules.specs.declared.modules.LoadedModule.{LoadedModule}

-- it is among what it keeps of its view
abbrev pub keeps : RegistrationList → ℕ → Bool
keeps V n = is_some (entry_at V n)

-- a module that has this view keeps an entry of the group, of a list
abbrev pub keeps_group : RegistrationList → Group → RegistrationList → Bool
keeps_group R g V = list_any (λ n. is_in g n && keeps V n) (numbers_of R)

abbrev pub place_keeps : RegistrationList → Group → Option LoadedModule → Bool
place_keeps R g None = false
place_keeps R g (Some l) = keeps_group R g l.view

-- ---- by the group's numbers alone, as the code goes

abbrev pub keeps_some : Group → RegistrationList → Bool
keeps_some g V = list_any (keeps V) (range_with_len g.first (g.after - g.first))

abbrev pub place_keeps_some : Group → Option LoadedModule → Bool
place_keeps_some g None = false
place_keeps_some g (Some l) = keeps_some g l.view

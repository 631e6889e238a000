-- What of the host is found among some entries of a view, given by their numbers.
use Rattle.std.specs.Prelude.{List, [], ◌∷◌, ◌++◌, Option, Some, None, option_to_list}
use Rattle.std.specs.Option.{option_or}
use Rattle.ang_kinds.specs.declared.mask.EntityNo.{EntityNo}
use Rattle.ang_view.specs.Registration.{RegistrationList, entry_at}
use Rattle.ang_check_contest.specs.declared.host.SeenFunction.{SeenFunction}
use Rattle.ang_check_contest.specs.declared.host.SeenProperty.{SeenProperty}
use Rattle.ang_check_contest.specs.declared.host.Wanted.{Wanted}
use Rattle.ang_check_contest.specs.declared.host.WantedProperty.{WantedProperty}
use Rattle.ang_check_contest.specs.Host.{found, property_found}

abbrev pub found_among : Wanted → RegistrationList → List EntityNo → List SeenFunction
found_among w V [] = []
found_among w V (e ∷ es) = option_to_list (found w V e.0 (entry_at V e.0)) ++ found_among w V es

abbrev pub property_among : WantedProperty → RegistrationList → List EntityNo → Option SeenProperty
property_among w V [] = None
property_among w V (e ∷ es) = option_or (property_found w V e.0 (entry_at V e.0)) (property_among w V es)

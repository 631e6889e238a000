-- The names of classes and interfaces, in their order.
use Rattle.std.specs.Prelude.{◌≡◌, List, length, map, Option, Some, None, option_map}
use Rattle.std.specs.List.{cons_option}
use Rattle.std.proofs.Common.{refl}
use Rattle.ang_view.proofs.Lists.{length-map}
use Rattle.ang_names_listed.specs.Declarations.{Declaring, family_name}

pub named_as_many : (fs : List Declaring) → length (map family_name fs) ≡ length fs
named_as_many fs = length-map family_name fs

-- the name in front of others, where a declaration gives one
pub names_in_front : (o : Option Declaring) (rest : List Declaring) → map family_name (cons_option o rest) ≡ cons_option (option_map family_name o) (map family_name rest)
names_in_front None rest = refl
names_in_front (Some d) rest = refl

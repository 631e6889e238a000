-- What is found in a view with one entry more (docs/LANGUAGE.md, "Denials"): what is found without it, and the entry at its place.
use Rattle.std.specs.Prelude.{nat_lt, if◌then◌else◌, List, [], ◌∷◌, Option, Some, None}
use Rattle.ang_check_contest.specs.declared.host.SeenFunction.{SeenFunction}
use Rattle.ang_check_contest.specs.declared.host.SeenProperty.{SeenProperty}

-- put in at its place, by its number
abbrev pub put_in : SeenFunction → List SeenFunction → List SeenFunction
put_in f [] = f ∷ []
put_in f (g ∷ gs) = if nat_lt f.entity.0 g.entity.0 then f ∷ g ∷ gs else g ∷ put_in f gs

abbrev pub added : Option SeenFunction → List SeenFunction → List SeenFunction
added None gs = gs
added (Some f) gs = put_in f gs

-- of two properties the one of the lower number
abbrev pub first_property : SeenProperty → Option SeenProperty → SeenProperty
first_property p None = p
first_property p (Some q) = if nat_lt p.entity.0 q.entity.0 then p else q

abbrev pub added_property : Option SeenProperty → Option SeenProperty → Option SeenProperty
added_property None q = q
added_property (Some p) q = Some (first_property p q)

use Rattle.std.proofs.Common.{◌≡◌, ap, map, ◌∙◌}
use Rattle.ang_names_known.specs.NameIndex.{places_of}
use Rattle.ang_names_listed.specs.Declarations.{family_name}
use Rattle.ang_names_classes.proofs.Places.{place_is}
use Rattle.ang_names_classes.proofs.placed.Placed.place_of.Goals as goal

pub returns : goal.returns
returns c =
    let name = c.args.name.now in
    let places = c.find.result.now in
    let row : places ≡ places_of (map family_name c.args.self.now) name =
    c.find.ensures.exact ∙ c.self.invariant.places name ∙ ap (λ ds. places_of (map family_name ds) name) c.self.view_is in
    record { exact = place_is c.args.self.now name places c.first_of.result c.first_of.ensures.exact row }

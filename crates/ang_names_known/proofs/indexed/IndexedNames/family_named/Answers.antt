use Rattle.std.proofs.Common.{◌≡◌, ap, ◌∙◌}
use Rattle.ang_names_known.specs.declared.names.Names.{Names}
use Rattle.ang_names_known.specs.NameIndex.{families_names, places_of}
use Rattle.ang_names_known.proofs.NameIndex.{family_within}
use Rattle.ang_names_known.proofs.indexed.IndexedNames.family_named.Goals as goal

pub returns-clause-within : goal.returns-clause-within
returns-clause-within c =
    let name = c.args.name.now in
    let places = c.find.result.now in
    let row : places ≡ places_of (families_names c.args.self.now.families) name =
    c.find.ensures.exact ∙ c.self.invariant.of_kinds.in_families name ∙ ap (λ (n : Names). places_of (families_names n.families) name) c.self.view_is in
    family_within c.args.self.now.families name places c.first_of.result c.first_of.ensures.exact row

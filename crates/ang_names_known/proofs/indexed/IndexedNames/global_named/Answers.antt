use Rattle.std.proofs.Common.{◌≡◌, ap, ◌∙◌}
use Rattle.ang_names_known.specs.declared.names.Names.{Names}
use Rattle.ang_names_known.specs.Lookup.{global_named}
use Rattle.ang_names_known.specs.NameIndex.{global_names, places_of}
use Rattle.ang_names_known.proofs.NameIndex.{global_is}
use Rattle.ang_names_known.proofs.indexed.IndexedNames.global_named.Goals as goal

pub returns : goal.returns
unfolding global_named
returns c =
    let name = c.args.name.now in
    let places = c.find.result.now in
    let row : places ≡ places_of (global_names c.args.self.now.globals) name =
    c.find.ensures.exact ∙ c.self.invariant.of_kinds.in_globals name ∙ ap (λ (n : Names). places_of (global_names n.globals) name) c.self.view_is in
    record { exact = global_is c.args.self.now.globals name places c.first_of.result c.first_of.ensures.exact row }

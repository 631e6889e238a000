use Rattle.std.proofs.Common.{◌≡◌, true, false, List, take, drop, refl, sym, ◌∙◌}
use Rattle.std.specs.List.{list_any}
use Rattle.ang_names_known.specs.declared.methods.MethodPlace.{MethodPlace}
use Rattle.ang_names_known.specs.declared.names.Family.{Family}
use Rattle.ang_names_known.specs.Lookup.{stands_in}
use Rattle.ang_names_known.specs.MethodPlaces.{found_in, stands_at}
use Rattle.ang_names_known.proofs.MethodPlaces.{slot_of_both}
use Rattle.ang_names_known.proofs.methods.has_slot.Goals as goal

pub returns-then-is_among_few : goal.returns-then-is_among_few
returns-then-is_among_few c =
    let fs : List Family = c.args.families.now in
    let ps : List MethodPlace = c.args.found.now in
    let few : true ≡ list_any (stands_at fs c.args.slot) (take 8 ps) = sym c.if-is_among_few.true ∙ c.is_among_few.ensures.exact in
    record { exact = c.if-is_among_few.true ∙ slot_of_both fs c.args.slot ps true (list_any (stands_in c.args.slot) (drop 8 (found_in fs ps))) c.requires.there few refl }

pub returns-else-is_among_few : goal.returns-else-is_among_few
returns-else-is_among_few c =
    let fs : List Family = c.args.families.now in
    let ps : List MethodPlace = c.args.found.now in
    let few : false ≡ list_any (stands_at fs c.args.slot) (take 8 ps) = sym c.if-is_among_few.false ∙ c.is_among_few.ensures.exact in
    let others : c.contains.result ≡ list_any (stands_in c.args.slot) (drop 8 (found_in fs ps)) = c.contains.ensures ∙ c.requires.slots c.args.slot in
    record { exact = slot_of_both fs c.args.slot ps false c.contains.result c.requires.there few others }

use Rattle.std.specs.Prelude.{[], ◌∷◌, ◌++◌, length}
use Rattle.std.proofs.Common.{arith, rules, ◌≡◌, ◌<◌, ap, sym, ◌∙◌}
use Rattle.ang_names_listed.proofs.Among.{one_more_place}
use Rattle.ang_names_listed.proofs.Counts.{few_counted, one_more_counted}
use Rattle.ang_names_listed.proofs.earlier.Earlier.grown.Goals as goal

pub counted-counts-requires-clause-families : goal.counted-counts-requires-clause-families
counted-counts-requires-clause-families c =
    let few = few_counted c.self.inside.counts c.self.inside.items.now c.self.invariant.1 in
    let fits : length c.self.inside.items.now < 9223372036854775808 = search rules in
    let least = few.0 in
    omega (arith, least, fits)

pub invariant_of-result : goal.invariant_of-result
invariant_of-result c =
    let before = c.self.inside.items.now in
    let declared = c.args.declared.now in
    let grown : c.args.items.now ≡ before ++ declared ∷ [] = c.requires.one_more ∙ ap (λ ds. ds ++ declared ∷ []) (sym c.self.view_is) in (
      one_more_place c.self.inside.places c.push_places.new.places before c.args.items.now declared c.self.invariant.0 c.in_ok-push_places.ensures.pushed grown,
      one_more_counted c.self.inside.counts c.counted-counts.result before c.args.items.now declared c.self.invariant.1 c.counted-counts.ensures.exact grown,
    )

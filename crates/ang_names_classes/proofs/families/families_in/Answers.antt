use Rattle.std.specs.Prelude.{◌≡◌, [], ◌∷◌, ◌++◌, length}
use Rattle.std.proofs.Common.{rules, ap, ◌∙◌}
use Rattle.ang_names_classes.specs.Headings.{signatures_of}
use Rattle.ang_names_classes.specs.Resolved.{family_with}
use Rattle.ang_names_classes.proofs.Numbered.{body_of_next, next_families}
use Rattle.ang_names_classes.proofs.families.families_in.Goals as goal

pub loop-number-preserved : goal.loop-number-preserved
loop-number-preserved c =
    let E = c.args.space.now in
    let ds = c.args.families.now in
    let all = signatures_of E ds in
    let i = c.loop-number.number in
    let d = c.index-families-number.result in
    let functions = length c.args.bodies.now.items in
    let first = length c.loop-number.bodies.items in
    let was = c.loop-number.found.items in
    let lent : c.deref.result.now ≡ c.loop-number.bodies.items = search rules in
    let made = c.in_ok-family_with.ensures.exact ∙ ap (λ bs. family_with E ds all i (length bs) d) lent in
    let pushed : c.push.new.self.items ≡ was ++ family_with E ds all i first d ∷ [] = c.in_ok-push.ensures.items ∙ ap (λ f. was ++ f ∷ []) made in (
      next_families E ds all functions i d first was _ c.loop-number.invariant.1 c.loop-number.invariant.0 c.loop-number-test.true c.index-families-number.is pushed,
      body_of_next functions ds i d first _ c.loop-number.invariant.1 c.loop-number-test.true c.index-families-number.is c.in_ok-add_bodies.ensures.exact,
    )

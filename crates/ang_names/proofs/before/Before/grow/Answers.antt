use Rattle.std.specs.Prelude.{[], ◌∷◌, ◌++◌}
use Rattle.std.proofs.Common.{◌≡◌, ap, sym, ◌∙◌}
use Rattle.ang_names.specs.Before.{Members}
use Rattle.ang_names.proofs.Among.{one_more_place}
use Rattle.ang_names.proofs.before.Before.grow.Goals as goal

pub invariant_of-self-2 : goal.invariant_of-self-2
invariant_of-self-2 c =
    let text = c.self.inside.text.now in
    let before = c.self.inside.items.now in
    let member = c.args.member.now in
    let grown : c.args.items.now ≡ before ++ member ∷ [] = c.requires.one_more ∙ ap (λ (b : Members). b.items ++ member ∷ []) (sym c.self.view_is) in
    one_more_place text c.self.inside.places c.push.new.self before c.args.items.now member c.text_of.result.now c.self.invariant
    c.text_of.ensures.exact (λ name. c.in_ok-push.ensures.pushed 0 name) grown

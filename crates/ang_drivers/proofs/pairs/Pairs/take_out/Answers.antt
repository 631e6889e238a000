use Rattle.std.specs.Prelude.{T}
use Rattle.std.specs.Ordering.{int_cmp}
use Rattle.std.specs.FinMap.{is_sorted}
use Rattle.std.proofs.Common.{sym, ap, ◌∙◌, subst}
use Rattle.ang_drivers.specs.IntMap.{without_key}
use Rattle.ang_drivers.specs.Places.{IsAt}
use Rattle.ang_drivers.proofs.Pairing.{removed_at, without_rises}
use Rattle.ang_drivers.proofs.pairs.Pairs.take_out.Goals as goal

pub invariant_of-self : goal.invariant_of-self
invariant_of-self c =
    let es = c.self.inside.items.items in
    let here : IsAt es c.args._key c.args.place = subst (λ l. IsAt l c.args._key c.args.place) (sym c.self.view_is) c.requires.at in
    subst (λ l. T (is_sorted int_cmp l)) (removed_at es c.args._key c.args.place c.self.invariant here ∙ sym c.remove.ensures.items) (without_rises es c.args._key c.self.invariant)

pub returns : goal.returns
returns c =
    let es = c.self.inside.items.items in
    let here : IsAt es c.args._key c.args.place = subst (λ l. IsAt l c.args._key c.args.place) (sym c.self.view_is) c.requires.at in
    record {
      removed = c.remove.ensures.items ∙ sym (removed_at es c.args._key c.args.place c.self.invariant here) ∙ ap (without_key c.args._key) c.self.view_is;
    }

use Rattle.std.proofs.Common.{◌==◌, ap, position, ◌∙◌}
use Rattle.ang_kinds.specs.declared.mask.EntityNo.{EntityNo}
use Rattle.ang_view.proofs.Blanking.{number_absent, number_taken}
use Rattle.ang_view.proofs.by_name.take_number.Goals as goal

pub returns-in-Some : goal.returns-in-Some
returns-in-Some c =
    record {
      taken =
          number_taken c.args.index.now c.remove.new.self c.args.scope c.args.name.now c.args.number.0 c.in-Some.place
          (c.in-Some.ensures.exact ∙ ap (position (λ (e : EntityNo). e.0 == c.args.number.0)) c.find.ensures.exact) c.remove.ensures.removed;
    }

pub returns-in_default : goal.returns-in_default
returns-in_default c =
    record {
      taken =
          number_absent c.args.index.now c.args.scope c.args.name.now c.args.number.0
          (c.in_default.ensures.exact ∙ ap (position (λ (e : EntityNo). e.0 == c.args.number.0)) c.find.ensures.exact);
    }

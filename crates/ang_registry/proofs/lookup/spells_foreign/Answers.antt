use Rattle.std.proofs.Common.{◌∙◌}
use Rattle.ang_registry.proofs.Among.{foreign_spelled}
use Rattle.ang_registry.proofs.lookup.spells_foreign.Goals as goal

pub returns : goal.returns
returns c =
    record {
      exact = c.is_foreign_among.ensures.exact ∙ foreign_spelled c.args.list.now c.args.ty.now c.args.driver c.spelled.result.now c.spelled.ensures.exact;
    }

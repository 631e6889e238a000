use Rattle.std.proofs.Common.{◌∙◌}
use Rattle.ang_typed.specs.View.{view_typed}
use Rattle.ang_typed.proofs.Marking.{program_marked}
use Rattle.ang_typed.proofs.uses.modules.mark_uses.Goals as goal

pub returns : goal.returns
returns c = record { exact = c.mark_module.ensures.exact ∙ program_marked (view_typed c.args.module.now) _ }

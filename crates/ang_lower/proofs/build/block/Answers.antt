use Rattle.ang_lower.proofs.Rows.{in_block}
use Rattle.ang_lower.proofs.build.block.Goals as goal

pub returns : goal.returns
returns c = record { exact = in_block c.args.statements }

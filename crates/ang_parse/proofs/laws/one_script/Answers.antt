use Rattle.ang_parse.proofs.Exactly.{one_script}
use Rattle.ang_parse.proofs.laws.one_script.Goals as goal

pub returns : goal.returns
returns c = record { unique = one_script }

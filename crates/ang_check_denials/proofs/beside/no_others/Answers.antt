use Rattle.std.specs.Prelude.{[]}
use Rattle.ang_check_denials.proofs.Seen.{no_contest}
use Rattle.ang_check_denials.proofs.beside.no_others.Goals as goal

pub returns : goal.returns
returns c = record { none = λ ancestors args long. c.in_ok-others.ensures.rivals ancestors [] args (no_contest ancestors args c.new-contest.result c.new-contest.ensures.fresh) long }

-- What is kept of the candidates beside which one more is told to be the best.
use Rattle.std.specs.Prelude.{List}
use Rattle.ang_types.specs.declared.arg_type.ArgType.{ArgType}
use Rattle.ang_types.specs.declared.candidate.Candidate.{Candidate}
use Rattle.ang_types.specs.Ranks.{Ancestors}
use Rattle.ang_types.specs.Rivals.{AreRivals}
use Rattle.ang_check_contest.specs.declared.rivalry.Rivalry.{Rivalry}

abbrev pub AreOthers : Rivalry → Ancestors → List Candidate → List ArgType → Type 0
AreOthers others ancestors candidates args = AreRivals (others.least.items, others.tied) ancestors candidates args

-- What is told of a candidate that was made is told of what is found there.
use Rattle.std.specs.Prelude.{◌≡◌, Bool, List, option_map, Option, Some, None}
use Rattle.std.proofs.Common.{refl, ap, ◌∙◌}
use Rattle.ang_types.specs.declared.arg_type.ArgType.{ArgType}
use Rattle.ang_types.specs.declared.candidate.Candidate.{Candidate}
use Rattle.ang_types.specs.Ranks.{Ancestors}
use Rattle.ang_check_contest.specs.declared.host.SeenFunction.{SeenFunction}
use Rattle.ang_check_added.specs.Made.{is_won, made}
use Rattle.ang_check_denials.specs.Added.{wins}

-- ---- a candidate beside others

won_is : (a : Ancestors) (cand : SeenFunction → Candidate) (cs : List Candidate) (args : List ArgType) (o : Option SeenFunction)
    → is_won a cs args (option_map cand o) ≡ wins a cand cs args o
won_is a cand cs args None = refl
won_is a cand cs args (Some f) = refl

-- what is told of a candidate that was made is told of what was found
pub won_as : (a : Ancestors) (cand : SeenFunction → Candidate) (cs : List Candidate) (args : List ArgType) (o : Option SeenFunction) (c : Option Candidate) (b : Bool)
    → c ≡ option_map cand o → b ≡ is_won a cs args c → b ≡ wins a cand cs args o
won_as a cand cs args o c b e won = won ∙ ap (is_won a cs args) e ∙ won_is a cand cs args o

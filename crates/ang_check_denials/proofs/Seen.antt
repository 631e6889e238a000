-- What is kept of candidates that are seen.
use Rattle.std.specs.Prelude.{ℕ, ◌≡◌, List, []}
use Rattle.std.proofs.Common.{refl}
use Rattle.ang_types.specs.declared.arg_type.ArgType.{ArgType}
use Rattle.ang_types.specs.Ranks.{Ancestors}
use Rattle.ang_view.specs.Registration.{RegistrationList}
use Rattle.ang_check_contest.specs.declared.host.Wanted.TheVariants as wanted
use Rattle.ang_check_contest.specs.Contest.{IsContest, Standing, fresh}
use Rattle.ang_check_contest.specs.Host.{host_where}
use Rattle.ang_check_uses.specs.Uses.{candidates_of, factories_of, maker}
use Rattle.ang_check_added.specs.Made.{plain}
use Rattle.ang_check_denials.specs.Added.{factories}
use Rattle.ang_check_denials.proofs.Places.{candidates_map}

-- factories that can be called are candidates as they are
pub factories_are : (V : RegistrationList) (n : ℕ) → candidates_of (factories_of V n) ≡ factories V n
factories_are V n = candidates_map (maker n) plain (λ f. refl) (host_where (wanted.Factory n) V)

-- a contest that none has entered
pub no_contest : (l : Ancestors) (args : List ArgType) (s : Standing) → s ≡ fresh → IsContest l [] args s
no_contest l args s e = record { entries = []; taken_in = e; are = refl }

use Rattle.std.specs.Prelude.{IfSome, None, option_copied, slice_index_or}
use Rattle.std.proofs.Common.{subst, ◌∙◌}
use Rattle.ang_names_known.specs.KindRows.{row_at}
use Rattle.ang_check_added.specs.Made.{made}
use Rattle.ang_check_added.specs.Verdicts.{verdicts_in}
use Rattle.ang_check_denials.specs.Telling.{AreCandidateSets}
use Rattle.ang_check_denials.proofs.Winners.{winner_is}
use Rattle.ang_check_denials.proofs.told.winners_of.Goals as goal

pub returns : goal.returns
returns c =
    let k = c.args.masked.now in
    let v = c.args.verdicts.now in
    let sets : AreCandidateSets k.list k.kinds c.in-Some.sets.now =
    subst (λ o. IfSome (option_copied o) (AreCandidateSets k.list k.kinds)) c.in-Some.is c.sets.ensures.tell in
    record {
      exact = λ ancestors cs args judge x.
          c.winners.ensures.exact sets.rows sets.are x
          ∙ winner_is ancestors cs args k.kinds (verdicts_in v.rows.items) v.ahead (row_at sets.rows x) (slice_index_or (made k.list) x None) (sets.says x) judge;
    }

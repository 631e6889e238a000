use Rattle.std.specs.Prelude.{slice_get}
use Rattle.std.proofs.Common.{ap, ◌∙◌, length}
use Rattle.ang_names_known.specs.KindRows.{row_at}
use Rattle.ang_check_added.specs.Sets.{has, in_kind, in_set, is_winner, sets_in}
use Rattle.ang_check_added.specs.Verdicts.{verdicts_in}
use Rattle.ang_check_added.proofs.WinnerLaws.{winner_is}
use Rattle.ang_check_added.proofs.verdicts.Verdicts.winners.Goals as goal

pub returns : goal.returns
returns c =
    let rows = c.as_slice-rows.result.now in
    let ahead = c.args.self.now.ahead in
    record {
      exact = λ all are n.
          winner_is rows c.as_slice-places.result.now ahead n (row_at all n) (has c.entries_of-among.result.words n) (has c.winners_among.result.words n)
          (λ p k. ap (λ s. in_kind (sets_in s p) k n) c.as_slice-places.ensures.value ∙ are.places p k n)
          (c.entries_of-among.ensures.exact n
          ∙ ap (λ s. in_set (slice_get s (length rows)) n) c.as_slice-counts.ensures.value
          ∙ are.counts (length rows) n)
          (c.winners_among.ensures.exact n) (c.winners_among.ensures.none n)
          ∙ ap (λ vs. is_winner (verdicts_in vs) ahead (row_at all n)) c.as_slice-rows.ensures.value;
    }

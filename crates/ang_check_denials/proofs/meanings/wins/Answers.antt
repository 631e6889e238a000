use Rattle.std.proofs.Common.{◌≡◌, ℕ, List, Option, Some, Bor, subst, sym, ap, ◌∙◌}
use Rattle.std.specs.Prelude.{option_copied, option_map}
use Rattle.ang_check_contest.specs.Told.{table_of}
use Rattle.ang_check_added.specs.Made.{candidate_in}
use Rattle.ang_check_added.proofs.Making.{candidate_is_made}
use Rattle.ang_check_denials.proofs.Taking.{told_tells}
use Rattle.ang_check_denials.proofs.meanings.wins.Goals as goal

pub would_win-requires : goal.would_win-requires
would_win-requires c =
    let R = c.args.masked.now.list in
    let k = c.in-Some.candidate.now in
    record {
      told =
          told_tells R c.args.added c.args.wanted.now c.args.lineage.now c.args.masked.now.kinds c.args.types.now (table_of c.args.table.now)
          (option_map {T = Bor (List ℕ)} {U = List ℕ} (λ row. row.now) c.row.result) k c.as_slice-params.result.now c.requires.table c.row.ensures.says
          (sym c.candidate.ensures.exact ∙ ap option_copied c.in-Some.is) c.as_slice-params.ensures.same;
    }

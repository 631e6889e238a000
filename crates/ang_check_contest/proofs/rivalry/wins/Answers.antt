use Rattle.std.proofs.Common.{◌≡◌, ℕ, List, Bor, sym, ◌∙◌}
use Rattle.std.specs.Prelude.{option_map}
use Rattle.ang_check_contest.specs.Told.{table_of}
use Rattle.ang_check_contest.proofs.WinLaws.{told_wins}
use Rattle.ang_check_contest.proofs.rivalry.wins.Goals as goal

pub returns : goal.returns
returns c =
    record {
      exact =
          told_wins c.args.lineage.now c.args.params.now c.args.args.now (table_of c.args.table.now)
          (option_map {T = Bor (List ℕ)} {U = List ℕ} (λ row. row.now) c.args.numbers) c.args.least.now c.args.is_ahead c.in-Some.won c.requires.told
          (sym c.wins_if_told.ensures.exact ∙ c.in-Some.is);
    }

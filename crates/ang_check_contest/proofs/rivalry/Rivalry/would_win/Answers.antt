use Rattle.std.specs.Prelude.{not}
use Rattle.std.proofs.Common.{◌≡◌, ap, ◌∙◌}
use Rattle.ang_check_contest.specs.Contest.{ranks_of}
use Rattle.ang_check_contest.specs.Winning.{wins_by}
use Rattle.ang_check_contest.proofs.WinLaws.{wins_as}
use Rattle.ang_check_contest.proofs.rivalry.Rivalry.would_win.Goals as goal

pub returns : goal.returns
returns c =
    let r = c.args.self.now in
    let l = c.args.lineage.now in
    let ps = c.args.params.now in
    let args = c.args.args.now in
    let told : c.wins.result ≡ wins_by (ranks_of l ps args) r.least.items (not r.tied) =
    c.wins.ensures.exact ∙ ap (λ least. wins_by (ranks_of l ps args) least (not r.tied)) c.as_slice-least.ensures.value in
    record { exact = λ cs rivals k e. wins_as c.wins.result l ps args cs r.least.items r.tied k told rivals e }

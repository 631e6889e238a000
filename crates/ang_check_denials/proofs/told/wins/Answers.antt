use Rattle.std.proofs.Common.{rules, ◌≡◌, ℕ, List, None, Some, Bor, ap, subst, ◌∙◌}
use Rattle.std.specs.Prelude.{IfSome, option_map, slice_index_or}
use Rattle.ang_check_added.specs.Verdicts.{verdicts_in}
use Rattle.ang_check_added.specs.Made.{made}
use Rattle.ang_check_denials.specs.Telling.{AreWinners}
use Rattle.ang_check_denials.proofs.Telling.{none_won, some_won}
use Rattle.ang_check_denials.proofs.told.wins.Goals as goal

pub returns-in-Some : goal.returns-in-Some
returns-in-Some c =
    let R = c.args.masked.now.list in
    record {
      exact = λ ancestors cs args judge are.
          c.has.ensures.exact ∙ subst (λ o. IfSome o (AreWinners R ancestors cs args)) c.in-Some.is are c.args.number;
    }

pub returns-in_default-row : goal.returns-in_default-row
returns-in_default-row c =
    let k = c.args.masked.now in
    let row = option_map {T = Bor (List ℕ)} {U = List ℕ} (λ row. row.now) c.row.result in
    let missing : c.row.result ≡ None = search rules in
    let none : row ≡ None = ap (option_map {T = Bor (List ℕ)} {U = List ℕ} (λ row. row.now)) missing in
    record { exact = λ ancestors cs args judge are. none_won ancestors cs args k.kinds row (slice_index_or (made k.list) c.args.number None) c.row.ensures.says none }

pub returns : goal.returns
returns c =
    let k = c.args.masked.now in
    let v = c.args.told.now.verdicts in
    let row = option_map {T = Bor (List ℕ)} {U = List ℕ} (λ row. row.now) c.row.result in
    let ns = c.in-Some-row.numbers.now in
    let is : row ≡ Some ns = ap (option_map {T = Bor (List ℕ)} {U = List ℕ} (λ row. row.now)) c.in-Some-row.is in
    record {
      exact = λ ancestors cs args judge are.
          c.wins.ensures.exact
          ∙ some_won ancestors cs args k.kinds (verdicts_in v.rows.items) v.ahead row ns (slice_index_or (made k.list) c.args.number None) c.row.ensures.says is judge;
    }

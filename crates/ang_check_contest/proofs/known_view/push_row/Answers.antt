use Rattle.std.proofs.Common.{◌≡◌, ◌++◌, ◌∷◌, [], ℕ, true, false, List, Option, Some, None, sym, ap, ◌∙◌}
use Rattle.std.proofs.lemmas.Result.{on_ok_weaker}
use Rattle.ang_view.specs.declared.entry.Entry.{Entry}
use Rattle.ang_check_contest.specs.EntryKinds.{row_if}
use Rattle.ang_check_contest.proofs.SeenRows.{entry_put}
use Rattle.ang_check_contest.proofs.known_view.push_row.Goals as goal

pub returns-then-branch-clause-pushed : goal.returns-then-branch-clause-pushed
returns-then-branch-clause-pushed c =
    let V = c.args.view.now in
    let new = c.push_entry.new.table in
    let ns : List ℕ = c.push_entry.new.row.items in
    let all = c.in_ok-push_entry.field-0 in
    let row : Option (List ℕ) = Some c.as_slice.result.now in
    let row_is : row ≡ row_if all ns = ap Some c.as_slice.ensures.value ∙ ap (λ b. row_if b ns) (sym c.if-branch.true) in
    on_ok_weaker c.push.result
    (λ (pushed : c.push.new.self ≡ c.args.rows.now ++ row ∷ []).
    λ t rest others e.
    entry_put V t c.args.table.now new (c.in_ok-push_entry.ensures.keeps t) c.args.rows.now c.push.new.self all ns c.args.entry.now c.in-Some.entry row c.in-Some.is
    (c.in_ok-push_entry.ensures.pushed t) row_is pushed rest others e)
    c.push.ensures.pushed

pub returns-else-branch-clause-pushed : goal.returns-else-branch-clause-pushed
returns-else-branch-clause-pushed c =
    let V = c.args.view.now in
    let new = c.push_entry.new.table in
    let ns : List ℕ = c.push_entry.new.row.items in
    let all = c.in_ok-push_entry.field-0 in
    let row : Option (List ℕ) = None in
    let row_is : row ≡ row_if all ns = ap (λ b. row_if b ns) (sym c.if-branch.false) in
    on_ok_weaker c.leave_out-else-branch.result
    (λ (pushed : c.leave_out-else-branch.new.self ≡ c.args.rows.now ++ row ∷ []).
    λ t rest others e.
    entry_put V t c.args.table.now new (c.in_ok-push_entry.ensures.keeps t) c.args.rows.now c.leave_out-else-branch.new.self all ns c.args.entry.now c.in-Some.entry row c.in-Some.is
    (c.in_ok-push_entry.ensures.pushed t) row_is pushed rest others e)
    c.leave_out-else-branch.ensures.pushed

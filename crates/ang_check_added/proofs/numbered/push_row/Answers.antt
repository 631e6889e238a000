use Rattle.std.proofs.Common.{◌≡◌, ◌++◌, ◌∷◌, [], ℕ, List, Some, map as list_map, ap, subst, ◌∙◌}
use Rattle.std.proofs.lemmas.Result.{on_ok_weaker}
use Rattle.ang_names_known.specs.Kinds.{kinds_at, kinds_of, numbered, told_of}
use Rattle.ang_names_known.proofs.KeptNumbers.{row_added}
use Rattle.ang_check_added.specs.Made.{params_in}
use Rattle.ang_check_added.proofs.numbered.push_row.Goals as goal

pub returns-in_ok-push_numbers-in-Some-clause-pushed : goal.returns-in_ok-push_numbers-in-Some-clause-pushed
returns-in_ok-push_numbers-in-Some-clause-pushed c =
    let old = c.args.table.now in
    let new = c.push_numbers.new.table in
    let rows = c.args.rows.now in
    let ns : List ℕ = c.push_numbers.new.row.items in
    on_ok_weaker c.push.result
    (λ (pushed : c.push.new.self ≡ rows ++ Some c.as_slice-in-Some.result.now ∷ []).
    λ t rest all e.
    row_added (numbered t old) (numbered t new) (c.in_ok-push_numbers-in-Some.ensures.keeps t) rows c.push.new.self ns c.in-Some.candidate.params rest all
    (subst (λ o. kinds_of (numbered t old) rows ++ told_of (params_in o ∷ rest) ≡ told_of all) c.in-Some.is e)
    (c.in_ok-push_numbers-in-Some.ensures.pushed t [] (ap (kinds_at (numbered t old)) c.clear.ensures.items) ∙ ap (λ ps. list_map Some ps) c.as_slice.ensures.same)
    (pushed ∙ ap (λ r. rows ++ Some r ∷ []) c.as_slice-in-Some.ensures.value))
    c.push.ensures.pushed

use Rattle.std.specs.Prelude.{not, ◌==◌, ◌&&◌, ◌||◌}
use Rattle.std.proofs.Common.{◌≡◌, ◌+◌, true, false, get_or, sym, ap, ◌∙◌}
use Rattle.ang_check_added.specs.Verdicts.{verdict_at}
use Rattle.ang_check_added.proofs.Judging.{from_place, goes_on}
use Rattle.ang_check_added.proofs.verdicts.wins_by_places.Goals as goal

pub returns-then-is_lost : goal.returns-then-is_lost
returns-then-is_lost c =
    let numbers = c.args.numbers.now in
    let p = c.loop-place.place in
    let ahead = c.loop-place.ahead in
    let row = c.index-rows-place.result in
    let k = verdict_at row.items (get_or numbers p 0) in
    let found : k ≡ c.verdict_at-verdict.result = ap (λ xs. verdict_at xs (get_or numbers p 0)) (sym c.as_slice.ensures.value) ∙ sym c.verdict_at-verdict.ensures.exact in
    let lost : (k == 2) ≡ true = ap (λ q. q == 2) found ∙ (sym c.is_lost.ensures.exact ∙ c.if-is_lost.true) in
    let more = goes_on c.args.rows.now numbers p row ahead c.loop-place-test.true c.requires.same c.index-rows-place.is in
    let after = from_place c.args.rows.now numbers (p + 1) (ahead || (k == 1)) in
    record { exact = sym (more ∙ ap (λ b. not b && after) lost) ∙ c.loop-place.invariant }

pub loop-place-preserved : goal.loop-place-preserved
loop-place-preserved c =
    let numbers = c.args.numbers.now in
    let p = c.loop-place.place in
    let ahead = c.loop-place.ahead in
    let row = c.index-rows-place.result in
    let k = verdict_at row.items (get_or numbers p 0) in
    let found : k ≡ c.verdict_at-verdict.result = ap (λ xs. verdict_at xs (get_or numbers p 0)) (sym c.as_slice.ensures.value) ∙ sym c.verdict_at-verdict.ensures.exact in
    let kept : (k == 2) ≡ false = ap (λ q. q == 2) found ∙ (sym c.is_lost.ensures.exact ∙ c.if-is_lost.false) in
    let more = goes_on c.args.rows.now numbers p row ahead c.loop-place-test.true c.requires.same c.index-rows-place.is in
    let after = from_place c.args.rows.now numbers (p + 1) (ahead || (k == 1)) in
    let gets : c.gets_ahead-ahead.result ≡ (ahead || (k == 1)) = c.gets_ahead-ahead.ensures.exact ∙ ap (λ q. ahead || (q == 1)) (sym found) in
    ap (from_place c.args.rows.now numbers (p + 1)) gets ∙ (sym (more ∙ ap (λ b. not b && after) kept) ∙ c.loop-place.invariant)

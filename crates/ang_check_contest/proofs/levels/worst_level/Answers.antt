use Rattle.std.proofs.Common.{◌≡◌, ◌+◌, None, Some, drop, slice_get, get_or, sym, ap, ◌∙◌}
use Rattle.ang_check_contest.specs.Levels.{greater, levels_in, worst}
use Rattle.ang_check_contest.proofs.LevelLaws.{worst_missing, worst_more}
use Rattle.ang_check_contest.proofs.levels.worst_level.Goals as goal

pub returns-in_err-level : goal.returns-in_err-level
returns-in_err-level c =
    let numbers = c.args.numbers.now in
    let p = c.loop-place.place in
    let row = c.index-levels-place.result in
    let gone : slice_get row.items (get_or numbers p 0) ≡ None = ap (λ xs. slice_get xs (get_or numbers p 0)) (sym c.as_slice.ensures.value) ∙ sym c.in_err-level.ensures.exact in
    let none_left = worst_missing c.args.levels.now numbers p row c.loop-place-test.true c.requires.same c.index-levels-place.is c.loop-place.worst gone in
    record { exact = c.from_residual.ensures ∙ (sym none_left ∙ c.loop-place.invariant) }

pub loop-place-preserved : goal.loop-place-preserved
loop-place-preserved c =
    let numbers = c.args.numbers.now in
    let p = c.loop-place.place in
    let row = c.index-levels-place.result in
    let level = c.in_ok-level.level in
    let there : slice_get row.items (get_or numbers p 0) ≡ Some level = ap (λ xs. slice_get xs (get_or numbers p 0)) (sym c.as_slice.ensures.value) ∙ sym c.in_ok-level.ensures.exact in
    let more = worst_more c.args.levels.now numbers p row c.loop-place-test.true c.requires.same c.index-levels-place.is c.loop-place.worst level there in
    ap (λ k. greater (Some k) (worst (levels_in (drop (p + 1) c.args.levels.now)) (drop (p + 1) numbers))) c.max-worst.ensures ∙ (more ∙ c.loop-place.invariant)

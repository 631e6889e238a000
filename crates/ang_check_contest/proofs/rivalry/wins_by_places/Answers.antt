use Rattle.std.specs.Prelude.{not, ◌&&◌, ◌||◌}
use Rattle.std.proofs.Common.{rules, ◌≡◌, ◌+◌, true, false, None, Some, get_or, sym, ap, ◌∙◌}
use Rattle.ang_types.specs.Best.{is_less}
use Rattle.ang_types.specs.Rivals.{least_at}
use Rattle.ang_check_contest.specs.Told.{rank_in}
use Rattle.ang_check_contest.proofs.WinLaws.{from_place, rank_missing, rank_there}
use Rattle.ang_check_contest.proofs.rivalry.wins_by_places.Goals as goal

pub returns-in_default : goal.returns-in_default
returns-in_default c =
    let numbers = c.args.numbers.now in
    let p = c.loop-place.place in
    let row = c.index-rows-place.result in
    let missing : c.rank_at.result ≡ None = search rules in
    let gone : rank_in row.items (get_or numbers p 0) ≡ None =
    ap (λ xs. rank_in xs (get_or numbers p 0)) (sym c.as_slice.ensures.value) ∙ (sym c.rank_at.ensures.exact ∙ missing) in
    let lost = rank_missing c.args.rows.now numbers c.args.least.now p row c.loop-place-test.true c.requires.same c.index-rows-place.is c.loop-place.ahead gone in
    record { exact = sym lost ∙ c.loop-place.invariant }

pub returns-then-is_less : goal.returns-then-is_less
returns-then-is_less c =
    let numbers = c.args.numbers.now in
    let least = c.args.least.now in
    let p = c.loop-place.place in
    let r = c.in-Some.rank in
    let ahead = c.loop-place.ahead in
    let row = c.index-rows-place.result in
    let found : c.rank_at.result ≡ Some r = search rules in
    let there : rank_in row.items (get_or numbers p 0) ≡ Some r =
    ap (λ xs. rank_in xs (get_or numbers p 0)) (sym c.as_slice.ensures.value) ∙ (sym c.rank_at.ensures.exact ∙ found) in
    let more = rank_there c.args.rows.now numbers least p row c.loop-place-test.true c.requires.same c.index-rows-place.is ahead r there in
    let above : is_less (least_at least p) (Some r) ≡ true =
    ap (λ q. is_less q (Some r)) (sym c.least_of-first.ensures.exact) ∙ (sym c.is_less.ensures.exact ∙ c.if-is_less.true) in
    let after = from_place c.args.rows.now numbers least (p + 1) (ahead || is_less (Some r) (least_at least p)) in
    record { exact = sym (more ∙ ap (λ b. not b && after) above) ∙ c.loop-place.invariant }

pub loop-place-preserved : goal.loop-place-preserved
loop-place-preserved c =
    let numbers = c.args.numbers.now in
    let least = c.args.least.now in
    let p = c.loop-place.place in
    let r = c.in-Some.rank in
    let ahead = c.loop-place.ahead in
    let row = c.index-rows-place.result in
    let found : c.rank_at.result ≡ Some r = search rules in
    let there : rank_in row.items (get_or numbers p 0) ≡ Some r =
    ap (λ xs. rank_in xs (get_or numbers p 0)) (sym c.as_slice.ensures.value) ∙ (sym c.rank_at.ensures.exact ∙ found) in
    let more = rank_there c.args.rows.now numbers least p row c.loop-place-test.true c.requires.same c.index-rows-place.is ahead r there in
    let first = c.least_of-first.ensures.exact in
    let beside : is_less (least_at least p) (Some r) ≡ false =
    ap (λ q. is_less q (Some r)) (sym first) ∙ (sym c.is_less.ensures.exact ∙ c.if-is_less.false) in
    let after = from_place c.args.rows.now numbers least (p + 1) (ahead || is_less (Some r) (least_at least p)) in
    let goes_on : c.gets_ahead-ahead.result ≡ (ahead || is_less (Some r) (least_at least p)) =
    c.gets_ahead-ahead.ensures.exact ∙ ap (λ q. ahead || is_less (Some r) q) first in
    ap (from_place c.args.rows.now numbers least (p + 1)) goes_on ∙ (sym (more ∙ ap (λ b. not b && after) beside) ∙ c.loop-place.invariant)

use Rattle.std.proofs.Common.{◌<◌, length, get_or, arith}
use Rattle.ang_check_added.specs.Sets.{IsOnlyIn, has}
use Rattle.ang_check_added.specs.Verdicts.{verdicts_in, wins_by}
use Rattle.ang_check_added.proofs.WinnerLaws.{only_there, place_more, places_end}
use Rattle.ang_check_added.proofs.winners.winners_among.Goals as goal

pub loop-place-preserved : goal.loop-place-preserved
loop-place-preserved c n ns stands same there =
    let l = c.loop-place in
    let rows = c.args.rows.now in
    let new = c.judge_place.new.self in
    let row = c.index-rows-place.result in
    let lt : l.place < length ns = omega arith in
    let only : IsOnlyIn c.sets_at.result.now (get_or ns l.place 0) n = only_there c.args.places.now c.sets_at.result.now ns n l.place c.sets_at.ensures.exact stands lt in
    place_more rows ns l.place row c.as_slice.result.now
    (has l.standings.lost.words n) (has new.lost.words n) (has l.standings.ahead.words n) (has new.ahead.words n) (wins_by (verdicts_in rows) ns c.args.is_ahead)
    c.loop-place-test.true same c.index-rows-place.is c.as_slice.ensures.value
    (c.judge_place.ensures.lost (get_or ns l.place 0) n only)
    (c.judge_place.ensures.ahead (get_or ns l.place 0) n only)
    (l.invariant n ns stands same there)

pub returns-clause-exact : goal.returns-clause-exact
returns-clause-exact c n ns stands is_among =
    let l = c.loop-place in
    places_end c.args.rows.now ns l.place (has c.args.among.now.words n) (has l.standings.lost.words n) (has l.standings.ahead.words n) c.args.is_ahead (has c.chosen.result.words n)
    (omega arith) is_among (l.invariant n ns stands) (c.chosen.ensures.exact n)

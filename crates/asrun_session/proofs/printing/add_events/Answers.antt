use Rattle.std.proofs.Common.{rules, arith, ◌≡◌, ◌≤◌, sym, length, slice_get, Some}
use Rattle.std.proofs.lemmas.Option.{get_or_from_slice_get, slice_get_within}
use Rattle.ang_host.specs.Lent.{event_of}
use Rattle.asrun_text.specs.Text.{event_text}
use Rattle.asrun_session.proofs.Held.{on_err, held_start, lines_turn, lines_front, lines_all}
use Rattle.asrun_session.proofs.printing.add_events.Goals as goal
use Rattle.asrun_session.proofs.printing.add_events.Goals.{in-Some+in_ok-add_line, in_default}

pub loop-index-init : goal.loop-index-init
loop-index-init g c = held_start _ _

pub loop-index-preserved : goal.loop-index-preserved
loop-index-preserved g c =
    let events = c.args.events.now in
    let i = c.loop-index.index in
    elim c.match-get.branch [
      | in-Some+in_ok-add_line w ↦
          let event = event_of w.in-Some.event in
          let there : slice_get events i ≡ Some event = search rules in
          rw (w.writer-is, w.text-is) (
          lines_turn event_text _ _ _ _ _ _ events i event c.loop-index.invariant (slice_get_within events i event there)
          (sym (get_or_from_slice_get events i event event there)) w.in_ok-add_line.ensures.whole)
      | in_default w ↦
          let past : length events ≤ i = search rules in
          absurd (omega (arith, past, c.loop-index-test.true, c.len-index-end.ensures.exact))
    ]

pub returns-in_err-add_line-clause-front : goal.returns-in_err-add_line-clause-front
returns-in_err-add_line-clause-front g c =
    let events = c.args.events.now in
    let i = c.loop-index.index in
    let event = event_of c.in-Some.event in
    let there : slice_get events i ≡ Some event = search rules in
    on_err c.from_residual.result
    (lines_front event_text _ _ _ _ _ events i event c.loop-index.invariant (slice_get_within events i event there)
    (sym (get_or_from_slice_get events i event event there)) c.in_err-add_line.ensures.front)

pub returns-clause-whole : goal.returns-clause-whole
returns-clause-whole g c =
    let past : length c.args.events.now ≤ c.loop-index.index = omega (arith, c.loop-index-test.false, c.len-index-end.ensures.exact) in
    lines_all event_text _ _ _ _ c.args.events.now c.loop-index.index c.loop-index.invariant past

use Rattle.std.proofs.Common.{rules, arith, ◌≡◌, ◌≤◌, ◌++◌, ◌∙◌, ap, length, slice_get, Some}
use Rattle.ang_host.specs.Lent.{event_of}
use Rattle.asrun_text.specs.Text.{event_text}
use Rattle.asrun_text.proofs.Texts.{text_more}
use Rattle.asrun_text.proofs.reply.push_events.Goals as goal
use Rattle.asrun_text.proofs.reply.push_events.Goals.{in-Some+in_ok-push_event, in_default}

pub loop-index-preserved : goal.loop-index-preserved
loop-index-preserved c =
    let events = c.args.events.now in
    let i = c.loop-index.index in
    elim c.match-get.branch [
      | in-Some+in_ok-push_event w ↦
          let event = event_of w.in-Some.event in
          let there : slice_get events i ≡ Some event = search rules in
          rw w.out-is (
          w.in_ok-push_event.ensures.added ∙ ap (λ l. l ++ event_text event) c.loop-index.invariant ∙ text_more event_text c.args.out.now.items events i event there)
      | in_default w ↦
          let past : length events ≤ i = search rules in
          absurd (omega (arith, past, c.loop-index-test.true, c.len-index-end.ensures.exact))
    ]

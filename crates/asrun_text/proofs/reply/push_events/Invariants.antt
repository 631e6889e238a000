use Rattle.std.proofs.Common.{◌≡◌, ◌++◌, take, flat_map}
use Rattle.asrun_text.specs.Text.{event_text}
use Rattle.asrun_text.proofs.reply.push_events.Given as goal

abbrev pub invariant-loop-index : goal.invariant-loop-index
invariant-loop-index l = l.out.items ≡ l.initial.out.items ++ flat_map event_text (take l.index l.events)

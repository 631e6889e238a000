-- The replies that commands are answered by.
use Rattle.std.specs.Prelude.{◌≡◌, ◌+◌, List, length}
use Rattle.ang_host.specs.Logs.{listed_in}
use Rattle.ang_host.specs.Events.{ends_listed}
use Rattle.ang_host.specs.declared.event.HostEvent.{HostEvent}
use Rattle.ang_engine.specs.declared.replies.Finished.{Finished}
use Rattle.ang_engine.specs.declared.replies.Unheard.{Unheard}
use Rattle.ang_engine_modules.specs.declared.reply.Reply.{Reply}

-- the reply to a command that has ended so
abbrev pub reply_in : Finished → Reply
reply_in f = record {
  outcome = f.outcome;
  events = listed_in f.events;
  errors = f.errors;
  denials = f.denials;
}

-- the reply to a command that was answered so, with the events that were not handed out
abbrev pub reply_with : List HostEvent → Unheard → Reply
reply_with events u =
    record { outcome = u.outcome; events = events; errors = u.errors; denials = u.denials }

-- A reply to which this applies was answered without its events: there is a list of them, of which
-- so many are ends of host objects, and the others host calls.
pub record WasUnheard (u : Unheard) (Applies : Reply → Type 0) : Type 0 where
  pub events : List HostEvent
  pub applies : Applies (reply_with events u)
  pub ended : u.ended ≡ ends_listed events
  pub count : u.asked + u.ended ≡ length events

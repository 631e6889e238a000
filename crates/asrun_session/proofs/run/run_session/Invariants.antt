use Rattle.std.proofs.Common.{◌≡◌, ◌+◌, ◌≤◌, length}
use Rattle.ang_engine.specs.Engines.{list_in, registrations, world_in, drivers_in, limits_in}
use Rattle.ang_view.specs.Only.{IsWithin}
use Rattle.ang_engine.specs.Sound.{IsSound}
use Rattle.asrun_session.specs.Drivers.{kinds_of}
use Rattle.asrun_lines.specs.Lines.{lines_of}
use Rattle.asrun_session.specs.Session.{session_from}
use Rattle.asrun_session.proofs.Doing.{HasDone}
use Rattle.asrun_session.proofs.run.run_session.Given as goal

abbrev pub invariant-loop-line : goal.invariant-loop-line
invariant-loop-line g l =
    record {
      lines : l.number + length l.rest ≤ length l.text + 1;
      sound : IsSound (λ v. (g.dyn-1.0.entry v).1) l.engine;
      limits : limits_in l.engine ≡ limits_in l.initial.engine;
      list : IsWithin (registrations l.engine) (registrations l.initial.engine);
      order : kinds_of (drivers_in l.engine) ≡ kinds_of (drivers_in l.initial.engine);
      done : HasDone (λ v. (g.dyn-1.0.entry v).1) (list_in l.initial.engine) (world_in (λ v. (g.dyn-1.0.entry v).1) l.initial.engine) (drivers_in l.initial.engine)
          (session_from 1 l.budget 0 (lines_of l.text)) (session_from l.number l.ticks 0 (lines_of l.rest))
          (g.W.Write.contents l.initial.writer) (g.W.Write.contents l.writer) l.all_ok (list_in l.engine) (world_in (λ v. (g.dyn-1.0.entry v).1) l.engine) (drivers_in l.engine);
    }

abbrev pub decreases-loop-line : goal.decreases-loop-line
decreases-loop-line g l = length l.rest

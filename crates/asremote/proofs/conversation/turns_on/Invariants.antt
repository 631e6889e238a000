use Rattle.std.proofs.Common.{◌≡◌, ℕ, List}
use Rattle.ang_view.specs.Only.{IsWithin}
use Rattle.ang_engine.specs.Engines.{registrations, drivers_in}
use Rattle.ang_engine.specs.Sound.{IsSound}
use Rattle.asrun_session.specs.Drivers.{kinds_of}
use Rattle.asremote.specs.Commands.{AreLines}
use Rattle.asremote.specs.Standing.{standing}
use Rattle.asremote.proofs.Coming.{HasGone}
use Rattle.asremote.proofs.conversation.turns_on.Given as goal

abbrev pub invariant-loop : goal.invariant-loop
invariant-loop g l =
    record {
      sound : IsSound (λ v. (g.dyn-1.0.entry v).1) l.engine;
      list : IsWithin (registrations l.engine) (registrations l.initial.engine);
      order : kinds_of (drivers_in l.engine) ≡ kinds_of (drivers_in l.initial.engine);
      come : (text : List ℕ) × (lines : List (List ℕ)) × AreLines text lines
          × HasGone (λ v. (g.dyn-1.0.entry v).1) (standing (λ v. (g.dyn-1.0.entry v).1) l.initial.engine l.initial.prepared.items) (drivers_in l.initial.engine) l.budget
          (g.S.Read.remaining l.initial.input) (g.S.Read.remaining l.input) (g.W.Write.contents l.initial.writer) (g.W.Write.contents l.writer)
          text lines l.number l.ticks l.all_ok (standing (λ v. (g.dyn-1.0.entry v).1) l.engine l.prepared.items) (drivers_in l.engine);
    }

use Rattle.std.proofs.Common.{[], length, sym, ap, subst}
use Rattle.ang_host.specs.Boxes.{members}
use Rattle.ang_meaning.specs.Counting.{IsCounted}
use Rattle.ang_heap.specs.Globals.{values_in}
use Rattle.ang_engine_modules.specs.Sound.{HaveGlobals}
use Rattle.ang_engine_modules.specs.States.{states_in}
use Rattle.ang_engine_modules.specs.World.{left_to}
use Rattle.ang_engine.specs.Engines.{registrations}
use Rattle.ang_engine.specs.Sound.{HaveDrivers}
use Rattle.ang_engine.proofs.engine.Engine.set_limits.Goals as goal

pub returns-clause-set : goal.returns-clause-set
returns-clause-set g c = ap (λ s. s.limits) c.set_limits.ensures.set

pub returns-clause-world : goal.returns-clause-world
returns-clause-world g c = ap (λ w. left_to (states_in c.args.self.now.modules) w) c.set_limits.ensures.world

pub returns-clause-drivers : goal.returns-clause-drivers
returns-clause-drivers g c = ap (λ s. members s.drivers) c.set_limits.ensures.set

pub returns-clause-sound : goal.returns-clause-sound
returns-clause-sound g c = record {
  modules = c.requires.sound.modules;
  globals = subst (λ gs. HaveGlobals c.args.self.now.modules gs) (sym (ap (λ s. values_in s.globals) c.set_limits.ensures.set)) c.requires.sound.globals;
  in_list = subst (λ bs. HaveDrivers (registrations c.args.self.now) (length bs)) (sym (ap (λ s. members s.drivers) c.set_limits.ensures.set)) c.requires.sound.in_list;
  kept = c.set_limits.ensures.kept;
  counted = subst (λ w. IsCounted [] w) (sym c.set_limits.ensures.world) c.requires.sound.counted;
  numbered = c.requires.sound.numbered;
}

use Rattle.std.proofs.Common.{◌≡◌, true, false, refl, sym, inr, rules}
use Rattle.ang_host.specs.Logs.{listed_in}
use Rattle.ang_engine.specs.Engines.{registrations, world_in}
use Rattle.ang_engine.specs.Step.{is_budget}
use Rattle.ang_engine.proofs.Asking.{asked-nothing}
use Rattle.ang_engine.proofs.Named.{called-number, calling-unbudgeted}
use Rattle.ang_engine.proofs.engine.Engine.call_there.Goals as goal

-- ---- the budget is none

pub returns-then-not-may_run-clause-done : goal.returns-then-not-may_run-clause-done
returns-then-not-may_run-clause-done g c =
    let w = world_in (λ v. (g.dyn-1.0.entry v).1) c.args.self.now in
    let may : is_budget c.args.budget ≡ false = search rules in
    λ name decl h.
    (inr (λ rest. calling-unbudgeted w name decl c.args.args.now c.args.budget c.args.prepared.home (sym h.place) h.program rest h.built may), refl)

pub returns-then-not-may_run-clause-asked : goal.returns-then-not-may_run-clause-asked
returns-then-not-may_run-clause-asked g c =
    asked-nothing (λ v. (g.dyn-1.0.entry v).1) (registrations c.args.self.now) (world_in (λ v. (g.dyn-1.0.entry v).1) c.args.self.now) c.args.self.now.machine.store
    c.requires.sound.kept c.requires.sound.counted

-- ---- it is called

pub returns-clause-done : goal.returns-clause-done
returns-clause-done g c =
    let w = world_in (λ v. (g.dyn-1.0.entry v).1) c.args.self.now in
    let may : is_budget c.args.budget ≡ true = search rules in
    λ name decl h.
    called-number w name decl c.args.args.now c.args.budget c.args.prepared.home (sym h.place) h.program h.built may c.args.prepared.number c.call_number.result (listed_in c.call_number.new.events)
    (world_in (λ v. (g.dyn-1.0.entry v).1) c.call_number.new.self) h.number c.call_number.ensures.done

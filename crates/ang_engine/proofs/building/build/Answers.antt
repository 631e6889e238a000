use Rattle.std.proofs.Common.{◌≡◌, rules, refl, sym, subst, true, false, Some, None}
use Rattle.ang_heap.specs.Stores.{world_of}
use Rattle.ang_engine_modules.specs.declared.reply.Outcome.TheVariants.{Refused}
use Rattle.ang_engine_modules.specs.declared.reply.Refusal.TheVariants.{NoModule, BadBudget}
use Rattle.ang_engine_modules.specs.World.{World, module_named, left_to}
use Rattle.ang_engine_modules.specs.States.{states_in, build_at}
use Rattle.ang_engine.specs.Outcomes.{building}
use Rattle.ang_engine.specs.Step.{build_within, is_budget}
use Rattle.ang_engine_modules.proofs.Finding.{found_same, on_module-none}
use Rattle.ang_engine.proofs.Leading.{leads-at_once, leads-same}
use Rattle.ang_engine.proofs.Asking.{asked-nothing, kept-same}
use Rattle.ang_engine.proofs.Refusing.{begun_build}
use Rattle.ang_engine.proofs.Rebuilding.{building-found, building-refused}
use Rattle.ang_host.specs.Logs.{listed_in}
use Rattle.ang_engine.proofs.Moved.{same_moved, nothing_built, begun_moved, begun_one}
use Rattle.ang_engine.specs.Prepared.{HaveMoved}
use Rattle.ang_engine.proofs.building.build.Goals as goal

pub returns-in_default-clause-done : goal.returns-in_default-clause-done
returns-in_default-clause-done g c =
    let R = c.args.registry.now.entries in
    let ls = c.args.list.now.code in
    let w : World = left_to (states_in c.args.list.now) (world_of (λ v. (g.dyn-1.0.entry v).1) c.args.machine.now.store) in
    leads-at_once (building R c.args.name.now c.args.budget w) (Refused NoModule) w
    (λ rest. on_module-none c.args.name.now w rest (build_within c.args.budget R w) (found_same _ _ _ ls _ _ (c.in_default.ensures.exact ls) c.deref.ensures.value refl))

pub returns-in_default-clause-asked : goal.returns-in_default-clause-asked
returns-in_default-clause-asked g c =
    asked-nothing (λ v. (g.dyn-1.0.entry v).1) c.args.registry.now.entries _ c.args.machine.now.store
    (kept-same (λ v. (g.dyn-1.0.entry v).1) c.args.machine.now.store c.args.events.now c.requires.ready.kept) c.requires.counted

pub returns-then-not-may_run-clause-done : goal.returns-then-not-may_run-clause-done
returns-then-not-may_run-clause-done g c =
    let R = c.args.registry.now.entries in
    let ls = c.args.list.now.code in
    let b : is_budget c.args.budget ≡ false = search rules in
    let w : World = left_to (states_in c.args.list.now) (world_of (λ v. (g.dyn-1.0.entry v).1) c.args.machine.now.store) in
    leads-at_once (building R c.args.name.now c.args.budget w) (Refused BadBudget) w
    (λ rest. building-refused R c.args.name.now c.args.budget w c.in-Some.home rest (found_same _ _ _ ls _ _ (c.in-Some.ensures.exact ls) c.deref.ensures.value refl) b)

pub returns-then-not-may_run-clause-asked : goal.returns-then-not-may_run-clause-asked
returns-then-not-may_run-clause-asked g c =
    asked-nothing (λ v. (g.dyn-1.0.entry v).1) c.args.registry.now.entries _ c.args.machine.now.store
    (kept-same (λ v. (g.dyn-1.0.entry v).1) c.args.machine.now.store c.args.events.now c.requires.ready.kept) c.requires.counted

pub returns-clause-done : goal.returns-clause-done
returns-clause-done g c =
    let R = c.args.registry.now.entries in
    let ls = c.args.list.now.code in
    let b : is_budget c.args.budget ≡ true = search rules in
    let w : World = left_to (states_in c.args.list.now) (world_of (λ v. (g.dyn-1.0.entry v).1) c.args.machine.now.store) in
    leads-same _ (building R c.args.name.now c.args.budget w) _ _ _
    (λ rest. building-found R c.args.name.now c.args.budget w c.in-Some.home rest (found_same _ _ _ ls _ _ (c.in-Some.ensures.exact ls) c.deref.ensures.value refl) b)
    refl c.build_module.ensures.done

pub returns-clause-refused : goal.returns-clause-refused
returns-clause-refused g c = begun_build c.build_module.result (listed_in c.build_module.new.events) _ c.build_module.ensures.begun

pub returns-in_default-clause-prepared : goal.returns-in_default-clause-prepared
returns-in_default-clause-prepared g c = same_moved c.args.list.now c.args.list.now None refl (nothing_built c.args.list.now)

pub returns-then-not-may_run-clause-prepared : goal.returns-then-not-may_run-clause-prepared
returns-then-not-may_run-clause-prepared g c = same_moved c.args.list.now c.args.list.now None refl (nothing_built c.args.list.now)

pub returns-clause-prepared : goal.returns-clause-prepared
returns-clause-prepared g c =
    let x = c.args.list.now in
    let y = c.build_module.new.list in
    let ls = x.code in
    let w : World = left_to (states_in x) (world_of (λ v. (g.dyn-1.0.entry v).1) c.args.machine.now.store) in
    let found : Some c.in-Some.home ≡ module_named c.args.name.now w = found_same _ _ _ ls _ _ (c.in-Some.ensures.exact ls) c.deref.ensures.value refl in
    subst (λ o. HaveMoved o x.builds (build_at x.places.items) y.builds (build_at y.places.items))
    (sym (begun_one c.build_module.result (listed_in c.build_module.new.events) (module_named c.args.name.now w) c.in-Some.home c.build_module.ensures.begun found))
    (begun_moved x y c.in-Some.home c.build_module.ensures.others c.build_module.ensures.builds c.build_module.ensures.build)

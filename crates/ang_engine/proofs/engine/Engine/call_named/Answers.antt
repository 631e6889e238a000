use Rattle.std.proofs.Common.{◌≡◌, Some, None, true, false, refl, subst, inr, rules}
use Rattle.std.specs.Prelude.{IsSome, slice_index_or}
use Rattle.ang_engine_modules.specs.World.{module_named}
use Rattle.ang_engine_modules.specs.States.{program_in}
use Rattle.ang_engine.specs.Engines.{registrations, world_in}
use Rattle.ang_engine.specs.Step.{is_budget, call}
use Rattle.ang_engine_modules.proofs.Finding.{found_same, on_module-none}
use Rattle.ang_engine.proofs.Named.{few_families, program_there, calling-unbuilt, calling-unbudgeted, called-number, called-none}
use Rattle.ang_engine_modules.specs.declared.reply.Outcome.TheVariants.{Refused}
use Rattle.ang_engine.proofs.Refusing.{refused_anyway}
use Rattle.ang_engine.proofs.Asking.{asked-nothing}
use Rattle.ang_host.specs.Logs.{listed_in}
use Rattle.ang_engine.proofs.engine.Engine.call_named.Goals as goal

-- ---- there is no module of that name

pub returns-in_default-clause-done : goal.returns-in_default-clause-done
returns-in_default-clause-done g c =
    let w = world_in (λ v. (g.dyn-1.0.entry v).1) c.args.self.now in
    (inr (λ rest. on_module-none c.args.name.now w rest (call c.args.decl.now c.args.args.now c.args.budget w) (found_same _ _ _ c.args.self.now.modules.code _ _ (c.in_default.ensures.exact c.args.self.now.modules.code) c.deref.ensures.value refl)), refl)

pub returns-in_default-clause-asked : goal.returns-in_default-clause-asked
returns-in_default-clause-asked g c =
    asked-nothing (λ v. (g.dyn-1.0.entry v).1) (registrations c.args.self.now) (world_in (λ v. (g.dyn-1.0.entry v).1) c.args.self.now) c.args.self.now.machine.store
    c.requires.sound.kept c.requires.sound.counted

-- ---- the module is not built

pub returns-in_default-loaded-clause-done : goal.returns-in_default-loaded-clause-done
returns-in_default-loaded-clause-done g c =
    let m = c.args.self.now.modules in
    let w = world_in (λ v. (g.dyn-1.0.entry v).1) c.args.self.now in
    let found : Some c.in-Some.home ≡ module_named c.args.name.now w = found_same _ _ _ m.code _ _ (c.in-Some.ensures.exact m.code) c.deref.ensures.value refl in
    let there : IsSome (slice_index_or m.places.items c.in-Some.home None) = subst (λ xs. IsSome (slice_index_or xs c.in-Some.home None)) c.deref.ensures.value c.in-Some.ensures.there in (
      inr (λ rest.
          calling-unbuilt w c.args.name.now c.args.decl.now c.args.args.now c.args.budget c.in-Some.home found rest
          (program_there m.places.items m.code c.in-Some.home None there c.in_default-loaded.ensures.exact)),
      refl,
    )

pub returns-in_default-loaded-clause-asked : goal.returns-in_default-loaded-clause-asked
returns-in_default-loaded-clause-asked g c =
    asked-nothing (λ v. (g.dyn-1.0.entry v).1) (registrations c.args.self.now) (world_in (λ v. (g.dyn-1.0.entry v).1) c.args.self.now) c.args.self.now.machine.store
    c.requires.sound.kept c.requires.sound.counted

-- ---- the budget is none

pub returns-then-not-may_run-clause-done : goal.returns-then-not-may_run-clause-done
returns-then-not-may_run-clause-done g c =
    let m = c.args.self.now.modules in
    let w = world_in (λ v. (g.dyn-1.0.entry v).1) c.args.self.now in
    let found : Some c.in-Some.home ≡ module_named c.args.name.now w = found_same _ _ _ m.code _ _ (c.in-Some.ensures.exact m.code) c.deref.ensures.value refl in
    let there : IsSome (slice_index_or m.places.items c.in-Some.home None) = subst (λ xs. IsSome (slice_index_or xs c.in-Some.home None)) c.deref.ensures.value c.in-Some.ensures.there in
    let l = c.in-Some-loaded.loaded.now in
    let may : is_budget c.args.budget ≡ false = search rules in (
      inr (λ rest.
          calling-unbudgeted w c.args.name.now c.args.decl.now c.args.args.now c.args.budget c.in-Some.home found (program_in l) rest
          (program_there m.places.items m.code c.in-Some.home (Some l) there c.in-Some-loaded.ensures.exact) may),
      refl,
    )

pub returns-then-not-may_run-clause-asked : goal.returns-then-not-may_run-clause-asked
returns-then-not-may_run-clause-asked g c =
    asked-nothing (λ v. (g.dyn-1.0.entry v).1) (registrations c.args.self.now) (world_in (λ v. (g.dyn-1.0.entry v).1) c.args.self.now) c.args.self.now.machine.store
    c.requires.sound.kept c.requires.sound.counted

-- ---- a function is looked for

pub number_of-requires : goal.number_of-requires
number_of-requires g c =
    let m = c.args.self.now.modules in
    record { few = few_families (registrations c.args.self.now) m.places.items m.code c.in-Some.home c.in-Some-loaded.loaded.now c.requires.sound.modules.each c.in-Some-loaded.ensures.exact }

-- ---- there is none

pub returns-in-Err-clause-done : goal.returns-in-Err-clause-done
returns-in-Err-clause-done g c =
    let m = c.args.self.now.modules in
    let w = world_in (λ v. (g.dyn-1.0.entry v).1) c.args.self.now in
    let found : Some c.in-Some.home ≡ module_named c.args.name.now w = found_same _ _ _ m.code _ _ (c.in-Some.ensures.exact m.code) c.deref.ensures.value refl in
    let there : IsSome (slice_index_or m.places.items c.in-Some.home None) = subst (λ xs. IsSome (slice_index_or xs c.in-Some.home None)) c.deref.ensures.value c.in-Some.ensures.there in
    let l = c.in-Some-loaded.loaded.now in
    let may : is_budget c.args.budget ≡ true = search rules in
    called-none w c.args.name.now c.args.decl.now c.args.args.now c.args.budget c.in-Some.home found (program_in l)
    (program_there m.places.items m.code c.in-Some.home (Some l) there c.in-Some-loaded.ensures.exact) may c.in-Err.refusal (listed_in c.args.events.now) c.in-Err.ensures.none

pub returns-in-Err-clause-asked : goal.returns-in-Err-clause-asked
returns-in-Err-clause-asked g c =
    asked-nothing (λ v. (g.dyn-1.0.entry v).1) (registrations c.args.self.now) (world_in (λ v. (g.dyn-1.0.entry v).1) c.args.self.now) c.args.self.now.machine.store
    c.requires.sound.kept c.requires.sound.counted

pub returns-in-Err-clause-refused : goal.returns-in-Err-clause-refused
returns-in-Err-clause-refused g c = refused_anyway (Refused c.in-Err.refusal) _ refl

-- ---- it is called

pub returns-in-Ok-clause-done : goal.returns-in-Ok-clause-done
returns-in-Ok-clause-done g c =
    let m = c.args.self.now.modules in
    let w = world_in (λ v. (g.dyn-1.0.entry v).1) c.args.self.now in
    let found : Some c.in-Some.home ≡ module_named c.args.name.now w = found_same _ _ _ m.code _ _ (c.in-Some.ensures.exact m.code) c.deref.ensures.value refl in
    let there : IsSome (slice_index_or m.places.items c.in-Some.home None) = subst (λ xs. IsSome (slice_index_or xs c.in-Some.home None)) c.deref.ensures.value c.in-Some.ensures.there in
    let l = c.in-Some-loaded.loaded.now in
    let may : is_budget c.args.budget ≡ true = search rules in
    called-number w c.args.name.now c.args.decl.now c.args.args.now c.args.budget c.in-Some.home found (program_in l)
    (program_there m.places.items m.code c.in-Some.home (Some l) there c.in-Some-loaded.ensures.exact) may c.in-Ok.number c.call_number.result (listed_in c.call_number.new.events)
    (world_in (λ v. (g.dyn-1.0.entry v).1) c.call_number.new.self) c.in-Ok.ensures.found c.call_number.ensures.done

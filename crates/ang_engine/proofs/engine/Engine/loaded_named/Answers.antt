use Rattle.std.proofs.Common.{◌≡◌, Some, None, refl, sym, ap, ◌∙◌, subst}
use Rattle.std.specs.Prelude.{IsSome, slice_index_or}
use Rattle.ang_engine_modules.specs.World.{module_named}
use Rattle.ang_engine_modules.proofs.Finding.{found_same}
use Rattle.ang_engine.specs.Declarations.{program_at}
use Rattle.ang_engine.specs.Engines.{registrations, world_in}
use Rattle.ang_engine.proofs.Named.{few_families, program_there}
use Rattle.ang_engine.proofs.engine.Engine.loaded_named.Goals as goal

pub returns-in_default-clause-program : goal.returns-in_default-clause-program
returns-in_default-clause-program g c =
    let w = world_in (λ v. (g.dyn-1.0.entry v).1) c.args.self.now in
    ap (λ o. program_at o w) (found_same _ _ _ c.args.self.now.modules.code _ _ (c.in_default.ensures.exact c.args.self.now.modules.code) c.deref.ensures.value refl)

pub returns-in-Some-loaded-clause-program : goal.returns-in-Some-loaded-clause-program
returns-in-Some-loaded-clause-program g c =
    let m = c.args.self.now.modules in
    let w = world_in (λ v. (g.dyn-1.0.entry v).1) c.args.self.now in
    let found : Some c.in-Some.home ≡ module_named c.args.name.now w = found_same _ _ _ m.code _ _ (c.in-Some.ensures.exact m.code) c.deref.ensures.value refl in
    let there : IsSome (slice_index_or m.places.items c.in-Some.home None) = subst (λ xs. IsSome (slice_index_or xs c.in-Some.home None)) c.deref.ensures.value c.in-Some.ensures.there in
    sym (program_there m.places.items m.code c.in-Some.home (Some c.in-Some-loaded.loaded.now) there c.in-Some-loaded.ensures.exact) ∙ ap (λ o. program_at o w) found

pub returns-in-Some-loaded-clause-few : goal.returns-in-Some-loaded-clause-few
returns-in-Some-loaded-clause-few g c =
    let m = c.args.self.now.modules in
    few_families (registrations c.args.self.now) m.places.items m.code c.in-Some.home c.in-Some-loaded.loaded.now c.requires.sound.modules.each c.in-Some-loaded.ensures.exact

pub returns-in-None-clause-program : goal.returns-in-None-clause-program
returns-in-None-clause-program g c =
    let m = c.args.self.now.modules in
    let w = world_in (λ v. (g.dyn-1.0.entry v).1) c.args.self.now in
    let found : Some c.in-Some.home ≡ module_named c.args.name.now w = found_same _ _ _ m.code _ _ (c.in-Some.ensures.exact m.code) c.deref.ensures.value refl in
    let there : IsSome (slice_index_or m.places.items c.in-Some.home None) = subst (λ xs. IsSome (slice_index_or xs c.in-Some.home None)) c.deref.ensures.value c.in-Some.ensures.there in
    sym (program_there m.places.items m.code c.in-Some.home None there c.in-None.ensures.exact) ∙ ap (λ o. program_at o w) found

use Rattle.std.proofs.Common.{◌≡◌, Some, None, refl, sym, ◌∙◌, subst}
use Rattle.std.specs.Prelude.{IsSome, slice_index_or}
use Rattle.ang_engine_modules.specs.States.{program_in, build_at}
use Rattle.ang_engine_modules.specs.World.{module_named}
use Rattle.ang_engine_modules.proofs.Finding.{found_same}
use Rattle.ang_engine.specs.Engines.{registrations, world_in}
use Rattle.ang_engine.proofs.Named.{few_families, program_there}
use Rattle.ang_engine.proofs.Preparing.{looked-found}
use Rattle.ang_engine.proofs.Moved.{found_there}
use Rattle.ang_engine.proofs.engine.Engine.prepare.Goals as goal

pub returns-in_default-loaded-clause-refused : goal.returns-in_default-loaded-clause-refused
returns-in_default-loaded-clause-refused g c = λ other.
    let m = c.args.self.now.modules in
    let w = world_in (λ v. (g.dyn-1.0.entry v).1) c.args.self.now in
    let found : Some c.in-Some.home ≡ module_named c.args.name.now w = found_same _ _ _ m.code _ _ (c.in-Some.ensures.exact m.code) c.deref.ensures.value refl in
    let there : IsSome (slice_index_or m.places.items c.in-Some.home None) = subst (λ xs. IsSome (slice_index_or xs c.in-Some.home None)) c.deref.ensures.value c.in-Some.ensures.there in
    looked-found c.args.name.now c.args.decl.now w c.in-Some.home None found (program_there m.places.items m.code c.in-Some.home None there c.in_default-loaded.ensures.exact)

pub callable_number-requires : goal.callable_number-requires
callable_number-requires g c =
    let m = c.args.self.now.modules in
    record { few = few_families (registrations c.args.self.now) m.places.items m.code c.in-Some.home c.in-Some-loaded.loaded.now c.requires.sound.modules.each c.in-Some-loaded.ensures.exact }

pub returns-in-Ok-clause-prepared : goal.returns-in-Ok-clause-prepared
returns-in-Ok-clause-prepared g c =
    let m = c.args.self.now.modules in
    let w = world_in (λ v. (g.dyn-1.0.entry v).1) c.args.self.now in
    let found : Some c.in-Some.home ≡ module_named c.args.name.now w = found_same _ _ _ m.code _ _ (c.in-Some.ensures.exact m.code) c.deref.ensures.value refl in
    let there : IsSome (slice_index_or m.places.items c.in-Some.home None) = subst (λ xs. IsSome (slice_index_or xs c.in-Some.home None)) c.deref.ensures.value c.in-Some.ensures.there in
    let l = c.in-Some-loaded.loaded.now in
    record {
      place = sym found;
      build = sym (subst (λ xs. Some c.in-Some-build_at.build ≡ build_at xs c.in-Some.home) c.deref-2.ensures.value c.in-Some-build_at.ensures.exact);
      program = program_in l;
      built = program_there m.places.items m.code c.in-Some.home (Some l) there c.in-Some-loaded.ensures.exact;
      number = c.in-Ok.ensures.named;
    }

pub returns-in-Ok-clause-found : goal.returns-in-Ok-clause-found
returns-in-Ok-clause-found g c =
    let m = c.args.self.now.modules in
    let w = world_in (λ v. (g.dyn-1.0.entry v).1) c.args.self.now in
    let found : Some c.in-Some.home ≡ module_named c.args.name.now w = found_same _ _ _ m.code _ _ (c.in-Some.ensures.exact m.code) c.deref.ensures.value refl in
    let there : IsSome (slice_index_or m.places.items c.in-Some.home None) = subst (λ xs. IsSome (slice_index_or xs c.in-Some.home None)) c.deref.ensures.value c.in-Some.ensures.there in
    let l = c.in-Some-loaded.loaded.now in
    looked-found c.args.name.now c.args.decl.now w c.in-Some.home (Some (program_in l)) found (program_there m.places.items m.code c.in-Some.home (Some l) there c.in-Some-loaded.ensures.exact)
    ∙ c.in-Ok.ensures.found

pub returns-in-Err-clause-refused : goal.returns-in-Err-clause-refused
returns-in-Err-clause-refused g c = λ other.
    let m = c.args.self.now.modules in
    let w = world_in (λ v. (g.dyn-1.0.entry v).1) c.args.self.now in
    let found : Some c.in-Some.home ≡ module_named c.args.name.now w = found_same _ _ _ m.code _ _ (c.in-Some.ensures.exact m.code) c.deref.ensures.value refl in
    let there : IsSome (slice_index_or m.places.items c.in-Some.home None) = subst (λ xs. IsSome (slice_index_or xs c.in-Some.home None)) c.deref.ensures.value c.in-Some.ensures.there in
    let l = c.in-Some-loaded.loaded.now in
    looked-found c.args.name.now c.args.decl.now w c.in-Some.home (Some (program_in l)) found (program_there m.places.items m.code c.in-Some.home (Some l) there c.in-Some-loaded.ensures.exact)
    ∙ c.in-Err.ensures.refused other

pub returns-in-Ok-clause-there : goal.returns-in-Ok-clause-there
returns-in-Ok-clause-there g c =
    found_there (build_at c.args.self.now.modules.places.items) (record { home = c.in-Some.home; build = c.in-Some-build_at.build; number = c.in-Ok.number })
    (sym (subst (λ xs. Some c.in-Some-build_at.build ≡ build_at xs c.in-Some.home) c.deref-2.ensures.value c.in-Some-build_at.ensures.exact))

pub returns-in-Ok-clause-begun : goal.returns-in-Ok-clause-begun
returns-in-Ok-clause-begun g c =
    c.requires.sound.numbered.begun c.in-Some.home c.in-Some-build_at.build
    (sym (subst (λ xs. Some c.in-Some-build_at.build ≡ build_at xs c.in-Some.home) c.deref-2.ensures.value c.in-Some-build_at.ensures.exact))

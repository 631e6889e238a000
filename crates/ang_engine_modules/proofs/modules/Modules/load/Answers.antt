use Rattle.std.proofs.Common.{List, ◌∙◌, ◌≡◌, None, ap, sym, subst, map as list_map}
use Rattle.ang_typed.specs.declared.program.Heading.{Heading}
use Rattle.ang_typed.specs.declared.program.TypedClass.{TypedClass}
use Rattle.ang_typed.specs.View.{view_typed}
use Rattle.ang_source.specs.Sound.{SoundProgram}
use Rattle.ang_engine_modules.specs.declared.modules.LoadedModule.{LoadedModule}
use Rattle.ang_engine_modules.specs.Loaded.{loaded_at}
use Rattle.ang_engine_modules.specs.Trees.{headings_in, classes_from}
use Rattle.ang_engine_modules.proofs.Loading.{coded_by, loaded_put}
use Rattle.ang_engine_modules.proofs.modules.Modules.load.Goals as goal

pub generate_dropping_bodies-requires : goal.generate_dropping_bodies-requires
generate_dropping_bodies-requires c =
    let parts = c.into_parts-loaded in
    record { sound = (c.args.loaded.view, subst (λ p. SoundProgram c.args.loaded.view (view_typed p)) (sym parts.ensures.tree) c.requires.sound) }

pub invariant_of-self : goal.invariant_of-self
invariant_of-self c =
    let x = c.self.inside in
    let e = c.in-Ok-code_of.ensures in
    let made = c.in-Ok.ensures in
    let parts = c.into_parts-loaded in
    let b : LoadedModule = parts.result.0 in
    let p = parts.result.1 in
    let same : b ≡ c.args.loaded = parts.ensures.loaded in
    let unbound = subst (λ (l : LoadedModule). l.links ≡ list_map (λ h. None) l.tree.imports) (sym same) c.requires.unbound in
    loaded_put x.table _ x.loaded.items _ c.self.invariant c.args.home c.in-Ok-code_of.code b c.put_code.ensures.put c.put_loaded.ensures.put
    (coded_by c.args.home c.in-Ok-code_of.code b p c.in-Ok.made.0 (parts.ensures.tree ∙ ap (λ (l : LoadedModule). l.tree) (sym same))
    (e.name ∙ c.as_slice-name.ensures.same) e.bodies
    (e.imports ∙ ap headings_in made.imports) (e.bound ∙ ap (λ (hs : List Heading). list_map (λ h. None) hs) made.imports) e.entities
    (e.classes ∙ ap (λ (ks : List TypedClass). classes_from c.args.home ks 0 ks) made.classes) (e.slots ∙ ap headings_in made.methods)
    made.params made.results made.code
    (subst (λ (l : LoadedModule). SoundProgram l.view (view_typed l.tree)) (sym same) c.requires.sound) unbound)
    (ap (λ l. loaded_at l c.args.home) c.self.view_is ∙ c.requires.empty) unbound

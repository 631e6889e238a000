use Rattle.std.proofs.Common.{refl, subst, ◌∙◌}
use Rattle.ang_view.specs.Registration.{seen}
use Rattle.ang_engine_build.specs.Answer.{HasDenials}
use Rattle.ang_engine_build.specs.Build.{build_of, denials_in}
use Rattle.ang_engine.specs.Outcomes.{IsCompiled}
use Rattle.ang_engine.proofs.Rebuilding.{waiting-built}
use Rattle.ang_engine.proofs.building.compile_waiting.Goals as goal

pub returns-clause-compiled : goal.returns-clause-compiled
returns-clause-compiled c =
    let R = c.args.registry.now.entries in
    subst (λ k. IsCompiled c.compile.result (build_of (seen R k.0) c.args.from.now.sections.items)) c.take_sections-sections.ensures.built_mask
    (subst (λ ss. IsCompiled c.compile.result (build_of (seen R c.take_sections-sections.new.from.built_mask.0) ss)) (c.deref.ensures.value ∙ c.take_sections-sections.ensures.sections)
    c.compile.ensures.compiled)

pub returns-clause-denials : goal.returns-clause-denials
returns-clause-denials c =
    let R = c.args.registry.now.entries in
    subst (λ k. HasDenials c.compile.result (denials_in R k.0 c.args.from.now.sections.items)) c.take_sections-sections.ensures.built_mask
    (subst (λ ss. HasDenials c.compile.result (denials_in R c.take_sections-sections.new.from.built_mask.0 ss)) (c.deref.ensures.value ∙ c.take_sections-sections.ensures.sections)
    c.compile.ensures.denials)

pub returns-clause-built : goal.returns-clause-built
returns-clause-built c =
    waiting-built c.args.registry.now.entries c.take_sections-sections.new.from c.compile.result _ c.take_sections-sections.new.from.built_mask _ c.as_slice.ensures.same refl
    c.compile.ensures.compiled c.compile.ensures.name c.compile.ensures.view

use Rattle.std.proofs.Common.{ap, sym, subst, ◌∙◌}
use Rattle.ang_source.specs.Sound.{SoundProgram}
use Rattle.ang_engine_build.specs.Build.{Resolved, resolved_of}
use Rattle.ang_engine_build.specs.Narrowed.{narrowed}
use Rattle.ang_engine_build.proofs.Programs.{program-sound}
use Rattle.ang_engine_build.proofs.Narrowing.{narrowed_sound}
use Rattle.ang_engine.proofs.building.compile.Goals as goal

pub returns-in-Ok-with_uses-clause-sound : goal.returns-in-Ok-with_uses-clause-sound
returns-in-Ok-with_uses-clause-sound c =
    let l = c.in-Ok-with_uses.loaded in
    let r : Resolved = resolved_of c.in-Ok-build_sections.program in
    subst (λ (q : Resolved). SoundProgram l.view q.tree) (sym c.in-Ok-with_uses.ensures.program)
    (subst (λ V. SoundProgram V r.tree) (sym (c.in-Ok-with_uses.ensures.view ∙ ap (λ (q : Resolved). narrowed c.in-Ok.view q.tree) c.in-Ok-with_uses.ensures.program))
    (narrowed_sound c.in-Ok.view r.tree (program-sound c.in-Ok.view c.args.sections.now r c.in-Ok.ensures.values c.in-Ok.ensures.few c.in-Ok-build_sections.ensures.built)))

use Rattle.std.proofs.Common.{sym, subst}
use Rattle.ang_typed.specs.declared.program.Typed.{Typed}
use Rattle.ang_typed.specs.View.{view_typed}
use Rattle.ang_source.specs.Sound.{SoundProgram}
use Rattle.ang_gen.proofs.generate_dropping_bodies.Goals as goal

pub generate_lowered-requires : goal.generate_lowered-requires
generate_lowered-requires c =
    let view = c.requires.sound.0 in
    record { sound = (view, subst (λ (p : Typed). SoundProgram view (view_typed p)) (sym c.in-Ok.ensures.same) c.requires.sound.1) }

use Rattle.std.proofs.Common.{sym, subst}
use Rattle.ang_typed.specs.View.{view_typed}
use Rattle.ang_gen.specs.Compiled.{IsCompiled}
use Rattle.ang_gen.proofs.Composed.{takes, gives, means}
use Rattle.ang_gen.proofs.generate_lowered.Goals as goal

pub code_of-requires : goal.code_of-requires
code_of-requires c =
    let p = view_typed c.args.program in
    let codes = c.in_ok-codes.codes.items in
    let bodies = c.into_bodies-bodies.result.items in
    record {
      well_formed = record {
        view = c.requires.sound.0;
        program = p;
        sound = c.requires.sound.1;
        compiled = record { bodies = bodies; lowered = c.into_bodies-bodies.ensures.lowered; positions = c.into_bodies-bodies.ensures.positions; code = c.in_ok-codes.ensures.codes };
      };
    }

pub returns : goal.returns
returns c =
    let p = view_typed c.args.program in
    let codes = c.in_ok-codes.codes.items in
    let bodies = c.into_bodies-bodies.result.items in
    let made : IsCompiled p codes = record { bodies = bodies; lowered = c.into_bodies-bodies.ensures.lowered; positions = c.into_bodies-bodies.ensures.positions; code = c.in_ok-codes.ensures.codes } in
    let is : IsCompiled p c.code_of.result = subst (IsCompiled p) (sym c.code_of.ensures.same) made in
    record { means = means p c.code_of.result is; code = is; params = takes p c.code_of.result is; results = gives p c.code_of.result is }

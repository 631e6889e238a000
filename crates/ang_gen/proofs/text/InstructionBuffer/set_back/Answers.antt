use Rattle.std.proofs.Common.{◌≡◌, ◌∷◌, ◌++◌}
use Rattle.std.specs.Prelude.{reverse}
use Rattle.ang_code.specs.declared.instruction.Instruction.TheVariants.{LoopBack}
use Rattle.ang_gen.proofs.Writing.{patched}
use Rattle.ang_gen.proofs.text.InstructionBuffer.set_back.Goals as goal

pub returns : goal.returns
returns c = record {
  set = λ front rest i e n.
      let v = c.self.view_is in
      let e' : reverse c.self.inside.reversed.items ≡ front ++ i ∷ rest = cc in
      patched c.self.inside.reversed.items front rest i (LoopBack c.args.distance) c.args.behind e' n;
}

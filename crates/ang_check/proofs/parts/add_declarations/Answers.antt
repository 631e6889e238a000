use Rattle.ang_tree.specs.View.{view_decl}
use Rattle.ang_check.proofs.JudgedParts.{judges_turn, judges_all}
use Rattle.ang_check.proofs.parts.add_declarations.Goals as goal

pub loop-declaration-preserved : goal.loop-declaration-preserved
loop-declaration-preserved c =
    judges_turn c.args.build.now.view.now c.args.build.now.names.now view_decl c.args.declarations.now
    c.loop-declaration.declaration-index c.declaration-item.result _ _ _ _ _ _ c.args.text.now
    c.loop-declaration.invariant c.loop-declaration-test.true c.declaration-item.is c.in_ok-add_declaration.ensures.judged

pub returns : goal.returns
returns c = record {
  judged = judges_all c.args.build.now.view.now c.args.build.now.names.now view_decl c.args.declarations.now
      c.loop-declaration.declaration-index _ _ _ _ c.args.text.now c.loop-declaration.invariant c.loop-declaration-test.false;
}

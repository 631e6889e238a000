use Rattle.ang_names_listed.specs.Sources.{source_of}
use Rattle.ang_check.specs.Bodies.{parts_of, judgements}
use Rattle.ang_check.specs.Judging.{section_of}
use Rattle.ang_check.proofs.JudgedParts.{sections_turn, all_judged}
use Rattle.ang_check.proofs.judging.found_in.Goals as goal

pub loop-script-preserved : goal.loop-script-preserved
loop-script-preserved c =
    sections_turn c.args.build.now.view.now c.args.build.now.names.now section_of source_of c.args.scripts.now c.loop-script.script-index c.script-item.result
    _ _ _ _ _ _ c.loop-script.invariant c.loop-script-test.true c.script-item.is c.in_ok-add_script.ensures.judged

pub returns : goal.returns
unfolding judgements parts_of
returns c = record {
  all = all_judged c.args.build.now.view.now c.args.build.now.names.now section_of source_of c.args.scripts.now c.loop-script.script-index
      _ _ _ _ c.loop-script.invariant c.loop-script-test.false
      c.functions.ensures.same c.globals.ensures.same c.families.ensures.same
      c.new.ensures.items c.new-2.ensures.items c.new-3.ensures.items c.new-4.ensures.items;
}

use Rattle.std.specs.Prelude.{◌≤◌, ◌<◌, length}
use Rattle.std.proofs.Common.{arith, sym, subst, ◌∙◌}
use Rattle.ang_names.proofs.Nearest.{methods_done, methods_more}
use Rattle.ang_names.proofs.kin.note_methods.Goals as goal

pub loop-method-preserved : goal.loop-method-preserved
loop-method-preserved c =
    let l = c.loop-method in (
      c.note.ensures.size ∙ l.invariant.0,
      λ s lt.
          l.invariant.1 s lt
          ∙ methods_more l.nearest c.note.new.nearest c.args.number s c.args.methods.now c.method-item.result l.method-index c.loop-method-test.true c.method-item.is
          (c.note.ensures.noted s (subst (λ n. s < n) (sym l.invariant.0) lt)),
    )

pub returns : goal.returns
returns c =
    let l = c.loop-method in
    let over : length c.args.methods.now ≤ l.method-index = omega arith in
    record {
      size = l.invariant.0;
      noted = λ s lt. methods_done c.args.nearest.now l.nearest c.args.number s c.args.methods.now l.method-index over (l.invariant.1 s lt);
    }

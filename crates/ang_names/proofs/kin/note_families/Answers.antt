use Rattle.std.specs.Prelude.{ℕ, ◌≤◌, ◌<◌, ◌==◌, None, Some, get_or, if◌then◌else◌, length}
use Rattle.std.specs.List.{list_any}
use Rattle.std.specs.Option.{option_or}
use Rattle.std.proofs.Common.{arith, sym, ap, subst, ◌∙◌}
use Rattle.ang_names_known.specs.declared.names.ScriptMethod.{ScriptMethod}
use Rattle.ang_names.specs.Rows.{noted_at}
use Rattle.ang_names.proofs.Nearest.{families_done, families_more}
use Rattle.ang_names.proofs.kin.note_families.Goals as goal

pub loop-number-preserved : goal.loop-number-preserved
loop-number-preserved c =
    let l = c.loop-number in
    let n : ℕ = get_or c.args.order.now l.number-index 0 in (
      c.note_methods.ensures.size ∙ l.invariant.0,
      λ s lt.
          l.invariant.1 s lt
          ∙ families_more c.args.families.now l.nearest c.note_methods.new.nearest c.args.order.now l.number-index s c.loop-number-test.true
          (c.note_methods.ensures.noted s (subst (λ k. s < k) (sym l.invariant.0) lt)
          ∙ ap (λ ms. option_or (noted_at l.nearest s) (if list_any (λ (m : ScriptMethod). m.slot == s) ms then Some n else None)) c.methods_of.ensures.exact),
    )

pub returns : goal.returns
returns c =
    let l = c.loop-number in
    let over : length c.args.order.now ≤ l.number-index = omega arith in
    record {
      size = l.invariant.0;
      noted = λ s lt. families_done c.args.families.now c.args.nearest.now l.nearest c.args.order.now l.number-index s over (l.invariant.1 s lt);
    }

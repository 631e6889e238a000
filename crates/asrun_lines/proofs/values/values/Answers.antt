use Rattle.std.proofs.Common.{sym}
use Rattle.asrun_lines.proofs.ValueLists.{values_broken, values_more, values_whole}
use Rattle.asrun_lines.proofs.values.values.Goals as goal

pub returns-in_default-value : goal.returns-in_default-value
returns-in_default-value c = record {
  exact = values_broken c.loop-first.values.items _ _ _ _ c.in-Some.ensures.some (sym c.in_default-value.ensures.exact) c.loop-first.invariant;
}

pub loop-first-preserved : goal.loop-first-preserved
loop-first-preserved c =
    values_more c.loop-first.values.items c.push.new.self.items _ _ _ c.in-Some-value.value _ c.in-Some.ensures.some (sym c.in-Some-value.ensures.exact)
    c.in_ok-push.ensures.items c.loop-first.invariant

pub returns-in_default-value-2 : goal.returns-in_default-value-2
returns-in_default-value-2 c = record {
  exact = values_broken c.loop-first.values.items _ _ _ _ c.in_default.ensures.none (sym c.in_default-value-2.ensures.exact) c.loop-first.invariant;
}

pub returns : goal.returns
returns c = record {
  exact = values_whole c.loop-first.values.items c.push-2.new.self.items _ _ c.in-Some-value-2.value _ c.in_default.ensures.none (sym c.in-Some-value-2.ensures.exact)
      c.loop-first.invariant c.in_ok-push-2.ensures.items;
}

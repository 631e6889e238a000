use Rattle.ang_names.proofs.Nearest.{none_missing}
use Rattle.ang_names.proofs.heirs.missing_method.Goals as goal

pub returns-then-not-asks_for_methods : goal.returns-then-not-asks_for_methods
returns-then-not-asks_for_methods c = record {
  exact = none_missing c.args.families.now c.families-all.result.now c.args.class c.args.family.now c.as_slice-above.result.now c.asks_for_methods.result
      c.families-all.ensures.same c.as_slice-above.ensures.same c.asks_for_methods.ensures.exact c.if-not-asks_for_methods.true;
}

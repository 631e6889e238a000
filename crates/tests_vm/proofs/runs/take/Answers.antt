use Rattle.std.proofs.Common.{◌≡◌, Ok}
use Rattle.tests_vm.specs.declared.runs.Verdict as Verdict
use Rattle.tests_vm.proofs.Ready.{comes_to_rest}
use Rattle.tests_vm.proofs.runs.take.Goals as goal

pub returns : goal.returns
returns g c = record {
  goes_on = λ e.
      let right : c.verdict_on.result ≡ Verdict.TheVariants.Right = cc in
      comes_to_rest (λ v. (g.dyn-1.0.entry v).1) c.run_again-ended.new.machine c.run_again-ended.new.events (c.run_again-ended.ensures.begins (c.verdict_on.ensures.goes_on right));
}

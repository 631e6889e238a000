use Rattle.std.proofs.Common.{sym, ap, length, ◌∙◌}
use Rattle.ang_engine_call.specs.Calls.{arguments_of}
use Rattle.ang_engine_call.proofs.Lengths.{arguments_for-none}
use Rattle.ang_engine_call.proofs.argument_slots.arguments.Goals as goal

pub returns-then-values-params : goal.returns-then-values-params
unfolding arguments_of
returns-then-values-params c = record {
  exact = arguments_for-none _ _ (λ e. c.if-values-params.true (e ∙ ap length (sym c.as_slice-params.ensures.same)));
}

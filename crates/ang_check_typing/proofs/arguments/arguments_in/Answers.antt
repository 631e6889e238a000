use Rattle.std.proofs.Common.{refl, sym, ◌∙◌, drop}
use Rattle.std.specs.Vec.Iter.{into_iter_items}
use Rattle.ang_kinds.specs.declared.types.Pass.TheVariants.{Value}
use Rattle.ang_types.specs.declared.arg_type.ArgType.TheVariants.{Void}
use Rattle.ang_typed.specs.View.{view_arg}
use Rattle.ang_check_operators.specs.View.{view_operand}
use Rattle.ang_check_typing.proofs.Passing.{arguments_end, arguments_turn}
use Rattle.ang_check_typing.proofs.arguments.arguments_in.Goals as goal

pub returns-in_default : goal.returns-in_default
returns-in_default c =
    record {
      exact =
          arguments_end view_operand c.args.lineage.now (drop c.loop-param.param-index c.args.params.now) _ (into_iter_items c.loop-param.rest) _
          (sym c.loop-param.rest.rest.ok.0 ∙ c.in_default.ensures.cases.0) c.loop-param.invariant;
    }

pub loop-param-preserved : goal.loop-param-preserved
loop-param-preserved c =
    arguments_turn view_operand view_arg c.args.lineage.now c.args.params.now c.loop-param.param-index _ (Void, Value) c.in-Some.operand
    (into_iter_items c.loop-param.rest) (into_iter_items c.next.new.self) c.in_ok-value.value c.loop-param.arguments.items c.push.new.self.items _
    c.loop-param.invariant c.in-Some.ensures.cases.0 c.loop-param-test.true refl c.in_ok-value.ensures.exact c.in_ok-push.ensures.items

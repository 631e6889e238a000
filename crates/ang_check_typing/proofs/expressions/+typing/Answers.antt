use Rattle.ang_check_typing.proofs.Operands.{one_operand, two_operands, three_operands, of_object}
use Rattle.ang_check_typing.proofs.expressions.+typing.Goals as goal

pub typing_over_one-unreachable-requires : goal.typing_over_one-unreachable-requires
typing_over_one-unreachable-requires t c =
    one_operand c.args.expression.now c.requires.kind c.in_default.not-Convert c.in_default.not-Parenthesized c.in_default.not-Postfix c.in_default.not-Prefix

pub typing_over_two-unreachable-requires : goal.typing_over_two-unreachable-requires
typing_over_two-unreachable-requires t c =
    two_operands c.args.expression.now c.requires.kind c.in_default.not-Binary c.in_default.not-Assignment

pub typing_over_three-unreachable-requires : goal.typing_over_three-unreachable-requires
typing_over_three-unreachable-requires t c = three_operands c.args.expression.now c.requires.kind c.in_default.not-Conditional

pub typing_over_object-unreachable-requires : goal.typing_over_object-unreachable-requires
typing_over_object-unreachable-requires t c =
    of_object c.args.expression.now c.requires.kind c.in_default.not-Cast c.in_default.not-Member c.in_default.not-MethodCall

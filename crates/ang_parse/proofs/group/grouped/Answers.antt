use Rattle.std.proofs.Common.{take}
use Rattle.ang_parse.proofs.Faults.{params_end}
use Rattle.ang_parse.proofs.group.grouped.Goals as goal

pub without_parameters-requires-clause-end : goal.without_parameters-requires-clause-end
without_parameters-requires-clause-end c =
    rw c.in-Err-Syntax.field-0-is
    (params_end c.args.limit c.args.open (take c.group_len-len.result c.args.tokens.now) c.in-Err-Syntax.fault.now c.requires.paren (rw (c.split_at.ensures.front, c.in-Err-Syntax.field-0-is) at c.in-Err-Syntax.ensures.reads))

use Rattle.ang_parse.proofs.Answered.{not_too_small}
use Rattle.ang_parse.proofs.parser.declarations.Goals as goal

pub unreachable-requires : goal.unreachable-requires
unreachable-requires c =
    let deep = rw c.in-Err-Deep.field-0-is at c.in-Err-Deep.ensures.reads in
    not_too_small c.args.tokens.now deep

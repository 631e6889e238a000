use Rattle.ang_parse.proofs.Faults.{later_fault}
use Rattle.ang_parse.proofs.group.without_parameters.Goals as goal

pub returns-in-Err-Syntax : goal.returns-in-Err-Syntax
returns-in-Err-Syntax c =
    record {
      reads =
          later_fault c.args.limit c.args.open c.args.tokens.now c.args.fault.now c.in-Err-Syntax.other.now c.args.len c.min-left.result c.requires.left c.requires.within c.requires.end
          (rw (c.split_at.ensures.front, c.in-Err-Syntax.field-0-is) at c.in-Err-Syntax.ensures.reads) (rw c.in-Err-Syntax.field-0-is at c.min-left.ensures);
    }

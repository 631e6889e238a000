use Rattle.std.proofs.Common.{drop, arith}
use Rattle.asrun_text.specs.Denied.{front_text}
use Rattle.asrun_text.proofs.Parts.{behind, up_to}
use Rattle.asrun_text.proofs.denials.turn_front.Goals as goal

pub returns-clause-ordered : goal.returns-clause-ordered
returns-clause-ordered c = omega (arith, c.write_front.ensures.start)

pub returns-clause-front : goal.returns-clause-front
returns-clause-front c =
    up_to c.write_front.new.line (front_text c.args.denial.now.place) (drop c.args.number c.args.line.now) c.write_front.result c.args.number
    c.write_front.ensures.written c.write_front.ensures.start

pub returns-clause-behind : goal.returns-clause-behind
returns-clause-behind c =
    behind c.write_front.new.line (front_text c.args.denial.now.place) (drop c.args.number c.args.line.now) c.write_front.result c.args.number
    c.write_front.ensures.written c.write_front.ensures.start

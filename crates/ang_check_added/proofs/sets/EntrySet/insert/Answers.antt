use Rattle.std.proofs.Common.{arith}
use Rattle.ang_types.proofs.MarkLaws.{bit_of-set}
use Rattle.ang_check_added.proofs.sets.EntrySet.insert.Goals as goal

pub returns : goal.returns
returns c = record { added = bit_of-set c.args.self.now.words c.args.number (omega arith) }

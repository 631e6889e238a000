use Rattle.std.proofs.Common.{arith}
use Rattle.asremote.proofs.Lining.{section_begins, section_more, section_last, section_long, section_ends, section_whole}
use Rattle.asremote.proofs.commands.read_section.Goals as goal

pub loop-init : goal.loop-init
loop-init g c = (omega arith, section_begins _ _ c.requires.few)

pub loop-preserved : goal.loop-preserved
loop-preserved g c = (omega (arith, c.loop-test.true), section_more c.loop.counter _ _ _ _ _ _ c.loop.invariant.1 c.in-Line.ensures.heard)

pub returns-in-Last : goal.returns-in-Last
returns-in-Last g c = record { read = section_last c.loop.counter c.args.lines _ _ _ _ _ _ c.loop.invariant.1 c.in-Last.ensures.heard (omega (arith, c.loop-test.true)) }

pub returns-in-Long : goal.returns-in-Long
returns-in-Long g c = record { read = section_long c.loop.counter c.args.lines _ _ _ _ _ _ c.loop.invariant.1 c.in-Long.ensures.heard }

pub returns-in-End : goal.returns-in-End
returns-in-End g c = record { read = section_ends c.loop.counter c.args.lines _ _ _ _ _ _ c.loop.invariant.1 c.in-End.ensures.heard.0 c.in-End.ensures.heard.2 c.loop.invariant.0 }

pub returns : goal.returns
returns g c = record { read = section_whole c.loop.counter c.args.lines _ _ _ _ c.loop.invariant.1 (omega (arith, c.loop.invariant.0, c.loop-test.false)) }

use Rattle.ang_types.specs.Overloads.{Leads}
use Rattle.ang_types.proofs.overloads.leader.Given as goal

abbrev pub invariant-loop-i : goal.invariant-loop-i
invariant-loop-i l = Leads l.lineage l.candidates l.args l.i l.leader

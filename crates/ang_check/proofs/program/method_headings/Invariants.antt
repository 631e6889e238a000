use Rattle.std.proofs.Common.{◌≡◌, ◌++◌, drop, take, map as list_map}
use Rattle.ang_names_known.specs.declared.names.Family.{Family}
use Rattle.ang_names_known.specs.Items.{each_after}
use Rattle.ang_check.specs.Bodies.{method_heading, method_headings}
use Rattle.ang_check.proofs.Classes.{numbered}
use Rattle.ang_check.proofs.program.method_headings.Given as goal

abbrev pub invariant-loop-number : goal.invariant-loop-number
invariant-loop-number l =
    method_headings l.families
    ≡ l.headings.items ++ each_after (numbered (λ n (f : Family). list_map (method_heading n) f.methods)) (take l.number l.families) (drop l.number l.families)

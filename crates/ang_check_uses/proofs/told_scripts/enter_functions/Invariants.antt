use Rattle.std.proofs.Common.{◌≡◌, drop}
use Rattle.std.specs.List.{flat_map}
use Rattle.ang_check_uses.specs.Choosing.{function_entry}
use Rattle.ang_check_contest.specs.Contest.{after}
use Rattle.ang_check_uses.proofs.told_scripts.enter_functions.Given as goal

abbrev pub invariant-loop-number : goal.invariant-loop-number
invariant-loop-number l =
    after l.lineage l.args l.initial.contest (flat_map (function_entry l.declared l.functions) l.numbers)
    ≡ after l.lineage l.args l.contest (flat_map (function_entry l.declared l.functions) (drop l.number-index l.numbers))

use Rattle.std.proofs.Common.{◌≡◌, drop}
use Rattle.std.specs.List.{flat_map}
use Rattle.ang_check_uses.specs.Choosing.{function_entry, functions_in}
use Rattle.ang_check_contest.specs.Contest.{after}
use Rattle.ang_check_uses.proofs.told_scripts.enter_told_functions.Given as goal

abbrev pub invariant-loop-number : goal.invariant-loop-number
invariant-loop-number l = record {
  same : l.contest.telling ≡ l.initial.contest.telling;
  entered :
      after l.initial.contest.telling.ancestors l.initial.contest.telling.args l.initial.contest.standing
      (flat_map (function_entry l.declared (functions_in l.declared l.functions)) l.numbers)
      ≡ after l.initial.contest.telling.ancestors l.initial.contest.telling.args l.contest.standing
      (flat_map (function_entry l.declared (functions_in l.declared l.functions)) (drop l.number-index l.numbers));
}

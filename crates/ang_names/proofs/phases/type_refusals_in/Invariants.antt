use Rattle.std.proofs.Common.{◌≡◌, [], ◌++◌, take, drop}
use Rattle.ang_names.proofs.Named.{refused_after}
use Rattle.ang_names.proofs.phases.type_refusals_in.Given as goal

abbrev pub invariant-loop-declared : goal.invariant-loop-declared
invariant-loop-declared l =
    refused_after l.space l.families [] l.all ≡ l.found.items ++ refused_after l.space l.families (take l.declared-index l.all) (drop l.declared-index l.all)

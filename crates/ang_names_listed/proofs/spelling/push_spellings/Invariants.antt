use Rattle.std.proofs.Common.{◌≡◌, ◌++◌, drop}
use Rattle.ang_names_listed.specs.Spellings.{codes_of}
use Rattle.ang_names_listed.proofs.spelling.push_spellings.Given as goal

abbrev pub invariant-loop-parameter : goal.invariant-loop-parameter
invariant-loop-parameter l = l.initial.code.items ++ codes_of l.text l.params ≡ l.code.items ++ codes_of l.text (drop l.parameter-index l.params)

use Rattle.std.proofs.Common.{◌≡◌, take}
use Rattle.ang_names_known.specs.NameIndex.{function_names}
use Rattle.ang_names_known.proofs.places.function_texts.Given as goal

abbrev pub invariant-loop-function : goal.invariant-loop-function
invariant-loop-function l = l.texts.items ≡ function_names (take l.function-index l.functions)

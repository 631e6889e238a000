use Rattle.std.proofs.Common.{◌≡◌, take}
use Rattle.ang_names_known.specs.NameIndex.{global_names}
use Rattle.ang_names_known.proofs.places.global_texts.Given as goal

abbrev pub invariant-loop-global : goal.invariant-loop-global
invariant-loop-global l = l.texts.items ≡ global_names (take l.global-index l.globals)

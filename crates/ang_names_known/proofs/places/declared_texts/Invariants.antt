use Rattle.std.proofs.Common.{◌≡◌, take}
use Rattle.ang_names_known.proofs.places.declared_texts.Given as goal

abbrev pub invariant-loop-name : goal.invariant-loop-name
invariant-loop-name l = l.texts.items ≡ take l.name-index l.names

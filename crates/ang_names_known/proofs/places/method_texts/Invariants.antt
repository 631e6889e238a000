use Rattle.std.proofs.Common.{◌≡◌, map, take}
use Rattle.ang_names_known.specs.declared.names.ScriptMethod.{ScriptMethod}
use Rattle.ang_names_known.proofs.places.method_texts.Given as goal

abbrev pub invariant-loop-method : goal.invariant-loop-method
invariant-loop-method l = l.texts.items ≡ map (λ (m : ScriptMethod). m.function.name) (take l.method-index l.methods)

use Rattle.std.proofs.Common.{◌≡◌, ◌++◌, drop, map as list_map}
use Rattle.ang_source.specs.Meaning.{kind_of}
use Rattle.ang_engine_modules.proofs.classes.add_own_kinds.Given as goal

abbrev pub invariant-loop-ty : goal.invariant-loop-ty
invariant-loop-ty l = l.kinds.items ++ list_map kind_of (drop l.ty-index l.fields) ≡ l.initial.kinds.items ++ list_map kind_of l.fields

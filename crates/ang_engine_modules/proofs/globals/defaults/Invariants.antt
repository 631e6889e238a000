use Rattle.std.proofs.Common.{◌≡◌, take, map as list_map}
use Rattle.ang_source.specs.Meaning.{default_in}
use Rattle.ang_engine_modules.proofs.globals.defaults.Given as goal

abbrev pub invariant-loop-ty : goal.invariant-loop-ty
invariant-loop-ty l = l.values.items ≡ list_map default_in (take l.ty-index l.globals)

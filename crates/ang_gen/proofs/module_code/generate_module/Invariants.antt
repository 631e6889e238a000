use Rattle.std.specs.List.{AllZip}
use Rattle.ang_gen.specs.Programs.{IsBodyCode}
use Rattle.ang_gen.proofs.module_code.generate_module.Given as goal

abbrev pub invariant-loop-body : goal.invariant-loop-body
invariant-loop-body l = AllZip IsBodyCode l.yielded l.codes.items

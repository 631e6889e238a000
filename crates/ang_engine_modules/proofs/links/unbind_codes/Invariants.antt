use Rattle.ang_vm_stack.specs.declared.table.ModuleCode.{ModuleCode}
use Rattle.ang_engine_modules.specs.Modules.{unbound_links}
use Rattle.ang_engine_modules.specs.Relinked.{bounds_of, IsRelinked}
use Rattle.ang_engine_modules.proofs.Lists.{FirstsZip}
use Rattle.ang_engine_modules.proofs.links.unbind_codes.Given as goal

abbrev pub invariant-loop-code : goal.invariant-loop-code
invariant-loop-code l = FirstsZip (λ (c d : ModuleCode). IsRelinked c (unbound_links l.home (bounds_of c)) d) l.code-index l.initial.code-items l.code-items

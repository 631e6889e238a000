use Rattle.std.proofs.Common.{◌≡◌}
use Rattle.ang_engine_modules.proofs.Lists.{firsts}
use Rattle.ang_engine_modules.proofs.Imports.{unbound_import}
use Rattle.ang_engine_modules.proofs.links.unbind_imports.Given as goal

abbrev pub invariant-loop-import : goal.invariant-loop-import
invariant-loop-import l = l.import-items ≡ firsts (unbound_import l.home) l.import-index l.initial.import-items

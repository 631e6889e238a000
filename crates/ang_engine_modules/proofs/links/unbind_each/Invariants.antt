use Rattle.std.proofs.Common.{◌≡◌}
use Rattle.ang_engine_modules.specs.Modules.{unbound_link}
use Rattle.ang_engine_modules.proofs.Lists.{firsts}
use Rattle.ang_engine_modules.proofs.links.unbind_each.Given as goal

abbrev pub invariant-loop-link : goal.invariant-loop-link
invariant-loop-link l = l.link-items ≡ firsts (unbound_link l.home) l.link-index l.initial.link-items

use Rattle.std.proofs.Common.{◌≡◌, option_map}
use Rattle.ang_engine_modules.specs.Loaded.{without_links}
use Rattle.ang_engine_modules.proofs.Lists.{firsts}
use Rattle.ang_engine_modules.proofs.links.unbind_places.Given as goal

abbrev pub invariant-loop-place : goal.invariant-loop-place
invariant-loop-place l = l.place-items ≡ firsts (option_map (without_links l.home)) l.place-index l.initial.place-items

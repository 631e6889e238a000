use Rattle.std.proofs.Common.{ap, ◌∙◌}
use Rattle.std.specs.Prelude.{slice_set}
use Rattle.std.specs.Box.{with_value}
use Rattle.ang_heap.specs.Globals.{values_in}
use Rattle.ang_engine_modules.proofs.PlaceLists.{map_set}
use Rattle.ang_engine.proofs.ending.take_globals.Goals as goal

pub returns-then-home-len-clause-none : goal.returns-then-home-len-clause-none
returns-then-home-len-clause-none c =
    map_set (λ b. b.value.items) c.args.globals.now.modules.items c.args.home (with_value c.index_mut.result.now c.replace.new.dest)
    ∙ ap (slice_set (values_in c.args.globals.now) c.args.home) (ap (λ v. v.items) c.replace.ensures.after ∙ c.new.ensures.items)

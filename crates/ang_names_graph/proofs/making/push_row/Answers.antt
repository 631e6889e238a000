use Rattle.std.specs.Prelude.{◌==◌}
use Rattle.std.specs.List.{list_any}
use Rattle.std.proofs.Common.{rules}
use Rattle.ang_names_graph.proofs.Begun.{pushed_more}
use Rattle.ang_names_graph.proofs.making.push_row.Goals as goal

pub loop-j-preserved : goal.loop-j-preserved
loop-j-preserved c =
    pushed_more (λ j. list_any (λ k. k == j) c.args.places.now) c.args.table.now.items c.loop-j.table.items c.push.new.self.items c.loop-j.j-counter _
    c.loop-j.invariant c.in_ok-push.ensures.items (search rules)

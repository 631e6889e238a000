use Rattle.ang_names_graph.specs.Graphs.{leads}
use Rattle.std.specs.Prelude.{◌≡◌}
use Rattle.std.proofs.Common.{rules, subst}
use Rattle.ang_names_graph.specs.Tables.{edges_of, Shows}
use Rattle.ang_names_graph.proofs.Within.{ways_shown}
use Rattle.ang_names_graph.proofs.Rows.{shows_edges, shows_next}
use Rattle.ang_names_graph.proofs.close.Goals as goal

pub loop-k-init : goal.loop-k-init
loop-k-init c = shows_edges c.args.table.now c.args.n c.requires.size

pub loop-k-preserved : goal.loop-k-preserved
loop-k-preserved c =
    shows_next c.pass.new.table c.args.n c.loop-k.k (edges_of c.args.table.now c.args.n)
    (c.pass.ensures.exact (leads (edges_of c.args.table.now c.args.n) c.loop-k.k) c.loop-k.invariant)

pub returns-clause-ways : goal.returns-clause-ways
returns-clause-ways c =
    let e : c.loop-k.k ≡ c.args.n = search rules in
    ways_shown c.args.table.now c.loop-k.table c.args.n (subst (λ k. Shows c.loop-k.table c.args.n (leads (edges_of c.args.table.now c.args.n) k)) e c.loop-k.invariant)

use Rattle.std.proofs.Common.{subst}
use Rattle.ang_names_graph.specs.Graphs.{leads}
use Rattle.ang_names_graph.specs.Tables.{Shows, edges_of}
use Rattle.ang_names_graph.proofs.Begun.{closed_shown}
use Rattle.ang_names_graph.proofs.making.closed.Goals as goal

pub returns : goal.returns
returns c =
    let after = c.close_all.new.table.items in
    record {
      exact = λ e s. closed_shown c.args.table.now after c.args.n e s
          (subst (λ t. Shows after c.args.n (leads (edges_of t c.args.n) c.args.n)) c.in_ok-copy.ensures.items c.close_all.ensures.exact);
    }

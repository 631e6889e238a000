use Rattle.std.specs.Prelude.{◌≡◌}
use Rattle.std.proofs.Common.{◌∙◌}
use Rattle.std.proofs.lemmas.Result.{IfOk-weaker}
use Rattle.ang_names_graph.specs.Graphs.{numbers_below, above}
use Rattle.ang_names_graph.specs.Tables.{edges_of}
use Rattle.ang_names_graph.proofs.Rings.{above_shown}
use Rattle.ang_names_graph.proofs.orders.above_of.Goals as goal

pub returns : goal.returns
returns c =
    record {
      exact = λ e s. IfOk-weaker _ (λ places. places.items ≡ numbers_below (edges_of c.args.closed.now c.args.n c.args.i) c.args.n)
          (λ places. places.items ≡ above e c.args.n c.args.i)
          (λ places is. is ∙ above_shown c.args.closed.now c.args.n c.args.i e s c.requires.there) c.targets_of.ensures.exact;
    }

use Rattle.std.specs.Prelude.{◌≡◌, true, false}
use Rattle.std.proofs.Common.{rules, ap, sym, ◌∙◌}
use Rattle.ang_names_graph.specs.Graphs.{numbers_below}
use Rattle.ang_names_graph.specs.Tables.{edges_of}
use Rattle.ang_names_graph.proofs.Rings.{numbers_more, numbers_same}
use Rattle.ang_names_graph.proofs.orders.targets_of.Goals as goal
use Rattle.ang_names_graph.proofs.orders.targets_of.Goals.{then-has_edge+in_ok-push, else-has_edge}

pub loop-j-preserved : goal.loop-j-preserved
loop-j-preserved c =
    elim c.if-has_edge.branch [
      | then-has_edge+in_ok-push w ↦
          let there : edges_of c.args.edges.now c.args.n c.args.i c.loop-j.j ≡ true = search rules in
          rw (w.places-is, w.in_ok-push.ensures.items, c.loop-j.invariant) (sym (numbers_more (edges_of c.args.edges.now c.args.n c.args.i) c.loop-j.j there))
      | else-has_edge w ↦
          let none : edges_of c.args.edges.now c.args.n c.args.i c.loop-j.j ≡ false = search rules in
          rw w.places-is (c.loop-j.invariant ∙ sym (numbers_same (edges_of c.args.edges.now c.args.n c.args.i) c.loop-j.j none))
    ]

pub returns : goal.returns
returns c =
    let e : c.loop-j.j ≡ c.args.n = search rules in
    record { exact = c.loop-j.invariant ∙ ap (numbers_below (edges_of c.args.edges.now c.args.n c.args.i)) e }

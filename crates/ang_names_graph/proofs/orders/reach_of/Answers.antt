use Rattle.std.specs.Prelude.{◌≡◌, ◌≤◌, ◌+◌, true, false}
use Rattle.std.proofs.Common.{rules, arith, ap, sym, ◌∙◌}
use Rattle.ang_names_graph.specs.Graphs.{count_below}
use Rattle.ang_names_graph.specs.Tables.{edges_of}
use Rattle.ang_names_graph.proofs.Rings.{counted_more, counted_same, reach_shown}
use Rattle.ang_names_graph.proofs.orders.reach_of.Goals as goal
use Rattle.ang_names_graph.proofs.orders.reach_of.Goals.{then-has_edge, else-has_edge}

pub loop-j-preserved : goal.loop-j-preserved
loop-j-preserved c =
    elim c.if-has_edge.branch [
      | then-has_edge w ↦
          let there : edges_of c.args.closed.now c.args.n c.args.i c.loop-j.j ≡ true = search rules in
          let low : c.loop-j.count + 1 ≤ c.loop-j.j + 1 = omega (arith, c.loop-j.invariant.1) in
          rw w.count-is (ap (λ k. k + 1) c.loop-j.invariant.0 ∙ sym (counted_more (edges_of c.args.closed.now c.args.n c.args.i) c.loop-j.j there), low)
      | else-has_edge w ↦
          let none : edges_of c.args.closed.now c.args.n c.args.i c.loop-j.j ≡ false = search rules in
          let low : c.loop-j.count ≤ c.loop-j.j + 1 = omega (arith, c.loop-j.invariant.1) in
          rw w.count-is (c.loop-j.invariant.0 ∙ sym (counted_same (edges_of c.args.closed.now c.args.n c.args.i) c.loop-j.j none), low)
    ]

pub returns : goal.returns
returns c =
    let e : c.loop-j.j ≡ c.args.n = search rules in
    record {
      exact = λ f s. c.loop-j.invariant.0 ∙ ap (count_below (edges_of c.args.closed.now c.args.n c.args.i)) e ∙ reach_shown c.args.closed.now c.args.n c.args.i f s c.requires.there;
      most = omega (arith, c.loop-j.invariant.1);
    }

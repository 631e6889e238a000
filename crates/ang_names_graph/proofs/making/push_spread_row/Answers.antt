use Rattle.std.specs.Prelude.{◌≡◌, ◌==◌, ◌||◌}
use Rattle.std.specs.List.{list_any}
use Rattle.std.proofs.Common.{rules, ◌∙◌}
use Rattle.ang_names_graph.specs.Tables.{edges_of, is_spread}
use Rattle.ang_names_graph.proofs.Begun.{pushed_more, spread_by}
use Rattle.ang_names_graph.proofs.making.push_spread_row.Goals as goal

pub loop-j-preserved : goal.loop-j-preserved
loop-j-preserved c =
    let led : c.leads_to_some.result ≡ list_any (λ d. c.loop-j.j == d || edges_of c.args.closed.now c.args.n c.loop-j.j d) c.in_ok-marked.marked.items = search rules in
    pushed_more (is_spread c.args.marks.now c.args.closed.now c.args.n c.args.i) c.args.table.now.items c.loop-j.table.items c.push.new.self.items c.loop-j.j _
    c.loop-j.invariant c.in_ok-push.ensures.items
    (led ∙ spread_by c.args.marks.now c.args.closed.now c.args.n c.args.i c.loop-j.j c.in_ok-marked.marked.items c.in_ok-marked.ensures.exact)

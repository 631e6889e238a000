use Rattle.std.specs.Prelude.{◌≡◌, Some, None, find, if◌then◌else◌}
use Rattle.std.specs.List.{range_with_len}
use Rattle.std.specs.Option.{option_or}
use Rattle.std.proofs.Common.{rules, ap, sym, ◌∙◌}
use Rattle.ang_names_graph.specs.Tables.{edges_of}
use Rattle.ang_names_graph.proofs.Begun.{first_more, first_shown}
use Rattle.ang_names_graph.proofs.making.first_of.Goals as goal

pub loop-j-preserved : goal.loop-j-preserved
loop-j-preserved c =
    let edge = edges_of c.args.edges.now c.args.n c.args.i in
    let j = c.loop-j.j in
    c.first_with-first.ensures.exact
    ∙ ap (λ b. option_or c.loop-j.first (if b then Some j else None)) c.has_edge.ensures.exact
    ∙ ap (λ o. option_or o (if edge j then Some j else None)) c.loop-j.invariant
    ∙ sym (first_more edge j)

pub returns : goal.returns
returns c =
    let e : c.loop-j.j ≡ c.args.n = search rules in
    let edge = edges_of c.args.edges.now c.args.n c.args.i in
    record {
      exact = λ f s. c.loop-j.invariant ∙ ap (λ m. find edge (range_with_len 0 m)) e ∙ first_shown c.args.edges.now c.args.n c.args.i f s c.requires.there;
    }

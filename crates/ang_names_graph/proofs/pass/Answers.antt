use Rattle.std.specs.Prelude.{◌≡◌}
use Rattle.std.proofs.Common.{rules, subst, inl, ◌∙◌}
use Rattle.ang_names_graph.proofs.Rows.{IsTurned, turned_added, turned_skipped, turned_skip, turned_end, rows_apart_at}
use Rattle.ang_names_graph.proofs.pass.Goals as goal
use Rattle.ang_names_graph.proofs.pass.Goals.{then-i-k+then-table-other, else-i-k, else-i-k-via-then-i-k+else-table-other, else-i-k-via-else-i-k}

pub add_row-requires-clause-apart : goal.add_row-requires-clause-apart
add_row-requires-clause-apart c =
    rows_apart_at c.args.n c.loop-i.i c.args.k c.row_of-other.result c.row_of-row.result (search rules) c.row_of-other.ensures.exact c.row_of-row.ensures.exact

pub loop-i-preserved : goal.loop-i-preserved
loop-i-preserved c =
    elim c.if-i-k.branch [
      | then-i-k+then-table-other w ↦
          rw w.table-is (
            w.add_row.ensures.size ∙ c.loop-i.invariant.0,
            λ f s. turned_added c.loop-i.table w.add_row.new.table c.args.n c.args.k c.loop-i.i c.row_of-other.result c.row_of-row.result f
                (c.loop-i.invariant.1 f s) c.requires.there c.loop-i-test.true c.row_of-other.ensures.exact c.row_of-row.ensures.exact
                w.if-table-other.true w.add_row.ensures.size w.add_row.ensures.others w.add_row.ensures.row,
          )
      | else-i-k w ↦ elim w.else-i-k.branch [
        | else-i-k-via-then-i-k+else-table-other x ↦
            rw w.table-is (c.loop-i.invariant.0, λ f s. turned_skipped c.loop-i.table c.args.n c.args.k c.loop-i.i c.row_of-other.result f (c.loop-i.invariant.1 f s) c.requires.there c.loop-i-test.true c.row_of-other.ensures.exact x.if-table-other.false)
        | else-i-k-via-else-i-k x ↦
            rw w.table-is (c.loop-i.invariant.0, λ f s. turned_skip c.loop-i.table c.args.n c.args.k c.loop-i.i f (c.loop-i.invariant.1 f s) c.requires.there c.loop-i-test.true (inl (search rules)))
      ]
    ]

pub returns-clause-exact : goal.returns-clause-exact
returns-clause-exact c = λ f s.
    turned_end c.loop-i.table c.args.n c.args.k f (let e : c.loop-i.i ≡ c.args.n = search rules in subst (λ x. IsTurned c.loop-i.table c.args.n c.args.k x f) e (c.loop-i.invariant.1 f s))

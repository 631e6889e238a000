use Rattle.std.proofs.Common.{◌≡◌, ◌≤◌, IfOk, subst, ap, ◌∙◌}
use Rattle.ang_check_denials.specs.Names.{help_row}
use Rattle.ang_check_denials.proofs.ByName.{row_helps}
use Rattle.ang_check_denials.proofs.helpers.helpers.Goals as goal

pub returns : goal.returns
returns c =
    let R = c.args.masked.now.list in
    let m = c.args.masked.now.mask in
    record {
      exact =
          subst (λ ns. IfOk c.helpers_among.result (λ numbers. numbers.items ≡ ns))
          (row_helps R m c.args.scope.now c.args.refused.now c.args.asks.now c.help_row-row.result.now c.requires.view
          (subst (λ n. n ≤ 1024) c.len-count.ensures.exact c.len-count.ensures.most)
          (c.help_row-row.ensures.exact ∙ ap (λ name. help_row R m name c.args.asks.now) c.as_slice.ensures.same))
          c.helpers_among.ensures.exact;
    }

pub helpers_among-requires-clause-row : goal.helpers_among-requires-clause-row
helpers_among-requires-clause-row c =
    c.help_row-row.ensures.exact ∙ ap (λ name. help_row c.args.masked.now.list c.args.masked.now.mask name c.args.asks.now) c.as_slice.ensures.same

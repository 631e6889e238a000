use Rattle.std.specs.Prelude.{ℕ, false, ◌≡◌, ◌+◌, slice_index_or}
use Rattle.std.proofs.Common.{sym, ◌∙◌}
use Rattle.ang_names_graph.specs.Graphs.{some_below}
use Rattle.ang_names_graph.proofs.Blocks.{none_below, part_skipped}
use Rattle.ang_names_graph.proofs.marked.push_block.Goals as goal

pub returns-else-has_mark-clause-further : goal.returns-else-has_mark-clause-further
returns-else-has_mark-clause-further c = λ was front p.
    part_skipped c.args.row.now was c.args.near.now front c.args.places.now.items c.args.start 16 p c.requires.within
    (none_below (λ (k : ℕ). slice_index_or c.args.row.now (c.args.start + k) false) 16 (sym c.has_mark.ensures.exact ∙ c.if-has_mark.false))

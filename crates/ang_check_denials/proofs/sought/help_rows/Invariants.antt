use Rattle.std.specs.Prelude.{filter}
use Rattle.std.specs.List.{range_with_len}
use Rattle.std.proofs.Common.{◌≡◌, ℕ, List}
use Rattle.ang_index.specs.Rows.{items_at}
use Rattle.ang_check_denials.specs.Names.{is_hidden_named}
use Rattle.ang_check_denials.proofs.sought.help_rows.Given as goal

abbrev pub invariant-loop-number : goal.invariant-loop-number
invariant-loop-number l = (name : List ℕ) →
    items_at 0 name l.rows ≡ filter (is_hidden_named l.masked.list l.masked.mask name) (range_with_len 0 l.number)

use Rattle.std.proofs.Common.{◌≡◌, ◌++◌, ℕ, Some, drop, map as list_map}
use Rattle.ang_types.specs.Overloads.{Params}
use Rattle.ang_names_known.specs.Kinds.{Keeps, kinds_at, numbered}
use Rattle.ang_check_added.proofs.numbered.push_numbers.Given as goal

abbrev pub invariant-loop-param : goal.invariant-loop-param
invariant-loop-param l =
    ((t : ℕ) → Keeps (numbered t l.initial.table) (numbered t l.table))
    × ((t : ℕ) (front : Params) → kinds_at (numbered t l.initial.table) l.initial.row.items ≡ list_map Some front
    → kinds_at (numbered t l.table) l.row.items ++ list_map Some (drop l.param-index l.params)
    ≡ list_map Some (front ++ l.params))

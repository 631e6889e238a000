use Rattle.std.proofs.Common.{◌≡◌, ◌++◌, ℕ, drop, map as list_map}
use Rattle.ang_names_known.specs.Kinds.{Keeps, kinds_of, numbered}
use Rattle.ang_names_known.specs.Numbering.{rows_wanted}
use Rattle.ang_names_known.proofs.numbering.rows_of_families.Given as goal

abbrev pub invariant-loop-family : goal.invariant-loop-family
invariant-loop-family l =
    ((t : ℕ) → Keeps (numbered t l.initial.table) (numbered t l.table))
    × ((t : ℕ) → list_map (kinds_of (numbered t l.table)) l.all.items ++ rows_wanted t (drop l.family-index l.families) ≡ rows_wanted t l.families)

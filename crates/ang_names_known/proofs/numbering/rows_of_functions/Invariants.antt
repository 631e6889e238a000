use Rattle.std.proofs.Common.{◌≡◌, ◌++◌, ℕ, drop}
use Rattle.ang_names_known.specs.Kinds.{Keeps, function_params, kinds_of, numbered, told_of}
use Rattle.ang_names_known.proofs.numbering.rows_of_functions.Given as goal

abbrev pub invariant-loop-function : goal.invariant-loop-function
invariant-loop-function l =
    ((t : ℕ) → Keeps (numbered t l.initial.table) (numbered t l.table))
    × ((t : ℕ) → kinds_of (numbered t l.table) l.rows ++ told_of (function_params (drop l.function-index l.functions)) ≡ told_of (function_params l.functions))

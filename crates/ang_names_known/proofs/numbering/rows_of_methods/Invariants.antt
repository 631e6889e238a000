use Rattle.std.proofs.Common.{◌≡◌, ◌++◌, ℕ, drop}
use Rattle.ang_names_known.specs.Kinds.{Keeps, kinds_of, method_params, numbered, told_of}
use Rattle.ang_names_known.proofs.numbering.rows_of_methods.Given as goal

abbrev pub invariant-loop-method : goal.invariant-loop-method
invariant-loop-method l =
    ((t : ℕ) → Keeps (numbered t l.initial.table) (numbered t l.table))
    × ((t : ℕ) → kinds_of (numbered t l.table) l.rows ++ told_of (method_params t (drop l.method-index l.methods)) ≡ told_of (method_params t l.methods))

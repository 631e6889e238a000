-- The numbers of a module's initializers.
use Rattle.std.specs.Prelude.{ℕ, zero, suc, List, [], ◌∷◌}
use Rattle.ang_meaning.specs.declared.routine.Routine.{Routine}
use Rattle.ang_source.specs.Meaning.{routine}

-- n routines of module m, from this number on
abbrev pub routines_at : ℕ → ℕ → ℕ → List Routine
routines_at m n zero = []
routines_at m n (suc count) = routine m n ∷ routines_at m (suc n) count

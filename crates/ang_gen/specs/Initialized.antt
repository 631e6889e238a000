-- The numbers of the globals that have initializers.
use Rattle.std.specs.Prelude.{ℕ, suc, List, [], ◌∷◌, ◌++◌, Option, Some, None}
use Rattle.ang_typed.specs.declared.program.Global.{Global}

-- the number of a global that has an initializer
abbrev pub numbered : {A : Type 0} → ℕ → Option A → List ℕ
numbered n None = []
numbered n (Some x) = n ∷ []

-- the numbers of the globals that have one, of which the first that is asked has this number
abbrev pub initialized_from : ℕ → List Global → List ℕ
initialized_from n [] = []
initialized_from n (g ∷ gs) = numbered n g.initializer ++ initialized_from (suc n) gs

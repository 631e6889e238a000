-- That a run has one end.
use Rattle.std.specs.Prelude.{◌≡◌, ℕ}
use Rattle.ang_meaning.specs.Environment.{Environment}
use Rattle.ang_code.specs.Machine.{Texts, Config, Over, Outcome, steps}

-- two numbers of steps that lead from a configuration to an end lead to the same one
abbrev pub HasOneEnd : Type 0
HasOneEnd = (z : Environment) (code : Texts) (m n : ℕ) (c : Config) (o p : Outcome) → steps z code m c ≡ Over o → steps z code n c ≡ Over p → o ≡ p

use Rattle.std.proofs.Common.{◌≡◌, ℕ, List}
use Rattle.ang_view.specs.Named.{numbers_at, numbers_under, value_scope_in}
use Rattle.ang_view.proofs.by_name.values_of.Given as goal

abbrev pub invariant-loop-number : goal.invariant-loop-number
invariant-loop-number l = (s : ℕ) (name : List ℕ) → numbers_at s name l.values ≡ numbers_under value_scope_in l.entries s name l.number

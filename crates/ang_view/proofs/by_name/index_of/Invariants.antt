use Rattle.std.proofs.Common.{◌≡◌, ℕ, List}
use Rattle.ang_view.specs.Named.{numbers_at, numbers_under, scope_in}
use Rattle.ang_view.proofs.by_name.index_of.Given as goal

abbrev pub invariant-loop-number : goal.invariant-loop-number
invariant-loop-number l = (s : ℕ) (name : List ℕ) → numbers_at s name l.index ≡ numbers_under scope_in l.entries s name l.number

-- Locals by name: the numbers of those that have it.
use Rattle.std.specs.Prelude.{ℕ, ◌≡◌, ◌+◌, bytes_eq, if◌then◌else◌, List, [], ◌∷◌}
use Rattle.ang_index.specs.Rows.{Rows, items_at}
use Rattle.ang_check_context.specs.declared.scope.LocalVariable.{LocalVariable}

-- the numbers of the locals of the name, rising, where the first local has the number n
abbrev pub numbers_from : List ℕ → ℕ → List LocalVariable → List ℕ
numbers_from name n [] = []
numbers_from name n (p ∷ ps) = if bytes_eq p.name name then n ∷ numbers_from name (n + 1) ps else numbers_from name (n + 1) ps

-- under each name stand the numbers of the locals that have it, rising
pub record AreNumbered (locals : List LocalVariable) (index : Rows ℕ) : Type 0 where
  pub each : (name : List ℕ) → items_at 0 name index ≡ numbers_from name 0 locals

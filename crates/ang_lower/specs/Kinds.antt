-- Statements of the resolved tree by their kinds.
use Rattle.std.specs.Prelude.{Bool, true, false}
use Rattle.ang_typed.specs.Typed as t

-- one statement of the core tree stands for it
abbrev pub is_single : t.Stmt → Bool
is_single (t.locals ls) = false
is_single s = true

-- Where the statements stand of which the instructions of a body are.
use Rattle.std.specs.Prelude.{List, Contains}
use Rattle.std.specs.List.{AllByRecursion}
use Rattle.ang_kinds.specs.declared.position.Position.{Position}
use Rattle.ang_code.specs.declared.instruction.Mark.{Mark}

-- each mark stands at one of these places
abbrev pub AreAmong : List Position → List Mark → Type 0
AreAmong positions marks = AllByRecursion (λ (m : Mark). Contains positions m.position) marks

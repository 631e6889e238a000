-- A typed expression of the program without where it lies in memory.
use Rattle.std.specs.Prelude.{List, map}
use Rattle.ang_typed.specs.View.{view_tree}
use Rattle.ang_check_operators.specs.declared.operand.Operand as operands
use Rattle.ang_check_operators.specs.Operands.{Operand}

abbrev pub view_operand : operands.Operand → Operand
view_operand a = record { place = a.place; ty = a.ty; tree = view_tree a.tree; target = a.target; seat = a.seat }

abbrev pub view_operands : List operands.Operand → List Operand
view_operands xs = map view_operand xs

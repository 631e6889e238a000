-- Lists of operands.
use Rattle.std.specs.Prelude.{List, map}
use Rattle.ang_types.specs.declared.arg_type.ArgType.{ArgType}
use Rattle.ang_check_operators.specs.Operands.{Operand}

abbrev pub types_of : List Operand → List ArgType
types_of operands = map (λ (a : Operand). a.ty) operands

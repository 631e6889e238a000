-- The operators that stand between two operands, one row a token: how tightly it binds, and what it does (docs/LANGUAGE.md, "Expressions"; the
-- AngelScript manual, "Operator precedence"). The grammar, the count of operators in a statement and the checker read this table.
use Rattle.std.specs.Prelude.{ℕ, Option, Some, None}
use Rattle.ang_kinds.specs.declared.operator.Operator.{Operator}
use Rattle.ang_kinds.specs.declared.operator.Operator.TheVariants as op
use Rattle.ang_kinds.specs.declared.operator.Comparison.TheVariants as cmp
use Rattle.ang_lex.specs.declared.token.TokenKind.{TokenKind}
use Rattle.ang_lex.specs.declared.token.TokenKind.TheVariants as k
use Rattle.ang_lex.specs.declared.operators.IntegerOperator.{IntegerOperator}
use Rattle.ang_lex.specs.declared.operators.IntegerOperator.TheVariants.{Arithmetic, Shift}
use Rattle.ang_lex.specs.declared.operators.OperatorForm.{OperatorForm}
use Rattle.ang_lex.specs.declared.operators.OperatorForm.TheVariants.{Integers, Order, Equality, And, Or, Xor, Same, Differ}
use Rattle.ang_lex.specs.declared.operators.BinaryOperator.{BinaryOperator}

-- on two integers, in their common type
abbrev pub arithmetic : Operator → OperatorForm
arithmetic o = Integers (Arithmetic o)

-- on two integers, in the left one's type
abbrev pub shift : Operator → OperatorForm
shift o = Integers (Shift o)

-- a row: how tightly the operator binds, from 1 on, and what it does
abbrev pub binds : ℕ → OperatorForm → Option BinaryOperator
binds n f = Some (record { precedence = n; form = f })

-- No other token is a binary operator.
abbrev pub binary_operator : TokenKind → Option BinaryOperator
binary_operator k.Or = binds 1 Or
binary_operator k.And = binds 2 And
binary_operator k.Equal = binds 3 (Equality cmp.Equal)
binary_operator k.NotEqual = binds 3 (Equality cmp.NotEqual)
binary_operator k.Is = binds 3 Same
binary_operator k.NotIs = binds 3 Differ
binary_operator k.Xor = binds 3 Xor
binary_operator k.Less = binds 4 (Order cmp.Less)
binary_operator k.LessEqual = binds 4 (Order cmp.LessEqual)
binary_operator k.Greater = binds 4 (Order cmp.Greater)
binary_operator k.GreaterEqual = binds 4 (Order cmp.GreaterEqual)
binary_operator k.Pipe = binds 5 (arithmetic op.BitOr)
binary_operator k.Caret = binds 6 (arithmetic op.BitXor)
binary_operator k.Ampersand = binds 7 (arithmetic op.BitAnd)
binary_operator k.ShiftLeft = binds 8 (shift op.ShiftLeft)
binary_operator k.ShiftRight = binds 8 (shift op.ShiftRight)
binary_operator k.ShiftRightArithmetic = binds 8 (shift op.ShiftRightArithmetic)
binary_operator k.Plus = binds 9 (arithmetic op.Add)
binary_operator k.Minus = binds 9 (arithmetic op.Subtract)
binary_operator k.Star = binds 10 (arithmetic op.Multiply)
binary_operator k.Slash = binds 10 (arithmetic op.Divide)
binary_operator k.Percent = binds 10 (arithmetic op.Remainder)
binary_operator _ = None

-- The operators of compound assignments.
abbrev pub compound_operator : TokenKind → Option IntegerOperator
compound_operator k.PlusAssign = Some (Arithmetic op.Add)
compound_operator k.MinusAssign = Some (Arithmetic op.Subtract)
compound_operator k.StarAssign = Some (Arithmetic op.Multiply)
compound_operator k.SlashAssign = Some (Arithmetic op.Divide)
compound_operator k.PercentAssign = Some (Arithmetic op.Remainder)
compound_operator k.AmpersandAssign = Some (Arithmetic op.BitAnd)
compound_operator k.PipeAssign = Some (Arithmetic op.BitOr)
compound_operator k.CaretAssign = Some (Arithmetic op.BitXor)
compound_operator k.ShiftLeftAssign = Some (Shift op.ShiftLeft)
compound_operator k.ShiftRightAssign = Some (Shift op.ShiftRight)
compound_operator k.ShiftRightArithmeticAssign = Some (Shift op.ShiftRightArithmetic)
compound_operator _ = None

-- how tightly it binds; what is no binary operator does not, and has 0
abbrev pub precedence_of : Option BinaryOperator → ℕ
precedence_of None = 0
precedence_of (Some o) = o.precedence

-- what it does, if it is one
abbrev pub form_of : Option BinaryOperator → Option OperatorForm
form_of None = None
form_of (Some o) = Some o.form

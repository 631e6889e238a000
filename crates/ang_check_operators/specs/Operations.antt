-- What operators make of typed operands (docs/LANGUAGE.md, "Expressions": types of operations; the AngelScript manual,
-- "Math operators", "Bitwise operators", "Comparison operators", "Identity comparison", "Logic operators", "Conditional expression",
-- "Handle of" and "Assignments").
use Rattle.std.specs.Prelude.{ℕ, Bool, true, false, ◌==◌, if◌then◌else◌, is_some, List, Option, Some, None, Ok, Err}
use Rattle.ang_kinds.specs.declared.error.ErrorKind.TheVariants as kind
use Rattle.ang_kinds.specs.declared.place.Place.{Place}
use Rattle.ang_kinds.specs.declared.primitive.Primitive.{Primitive}
use Rattle.ang_kinds.specs.declared.primitive.Primitive.TheVariants as p
use Rattle.ang_lex.specs.declared.token.Token.{Token}
use Rattle.ang_lex.specs.declared.token.TokenKind.{TokenKind}
use Rattle.ang_lex.specs.declared.token.TokenKind.TheVariants as k
use Rattle.ang_lex.specs.Numbers.{number_of}
use Rattle.ang_types.specs.declared.arg_type.ArgType.{ArgType}
use Rattle.ang_types.specs.declared.arg_type.ArgType.TheVariants as type
use Rattle.ang_types.specs.Integers.{common_type}
use Rattle.ang_types.specs.Ranks.{Ancestors, rank_of}
use Rattle.ang_kinds.specs.declared.operator.Operator.{Operator}
use Rattle.ang_kinds.specs.declared.operator.Comparison.{Comparison}
use Rattle.ang_kinds.specs.declared.operator.Comparison.TheVariants as cmp
use Rattle.ang_typed.specs.declared.expression.StepKind.{StepKind}
use Rattle.ang_typed.specs.declared.expression.StepKind.TheVariants as step
use Rattle.ang_typed.specs.Typed as t
use Rattle.ang_check_operators.specs.declared.operand.HandleSite.{HandleSite}
use Rattle.ang_check_operators.specs.declared.operand.SiteUse.{SiteUse}
use Rattle.ang_lex.specs.declared.operators.OperatorForm.{OperatorForm}
use Rattle.ang_lex.specs.declared.operators.OperatorForm.TheVariants as form
use Rattle.ang_lex.specs.declared.operators.IntegerOperator.{IntegerOperator}
use Rattle.ang_lex.specs.declared.operators.IntegerOperator.TheVariants as work
use Rattle.ang_check_operators.specs.Refusals.{Typing, ◌>>=◌, fault}
use Rattle.ang_check_operators.specs.Operands.{Operand, operand, fit, integer, number, truth, identity, object_of, target, seat}
use Rattle.ang_lex.specs.Operators.{binary_operator, compound_operator, form_of}

-- what no grammar puts here
abbrev pub misplaced : {A : Type 0} → Place → Typing A
misplaced place = Err (fault kind.BadConversion place)

-- ---- literals

abbrev pub number_operand : Place → List ℕ → Operand
number_operand place text = let n = number_of text in operand place (type.Plain n.ty) (t.number n.ty n.value)

abbrev pub literal_by : Token → List ℕ → TokenKind → Typing Operand
literal_by x text k.Number = Ok (number_operand x.place text)
literal_by x text k.True = Ok (operand x.place (type.Plain p.Bool) (t.truth true))
literal_by x text k.False = Ok (operand x.place (type.Plain p.Bool) (t.truth false))
literal_by x text k.Null = Ok (operand x.place type.Null t.null)
literal_by x text _ = misplaced x.place

-- A number, `true`, `false` or `null`, with its bytes.
unfoldable pub literal_typing : Token → List ℕ → Typing Operand
literal_typing x text = literal_by x text x.kind

-- ---- two operands

-- An integer type raised to at least 32 bits: the common type with itself.
abbrev pub raised_type : Primitive → Primitive
raised_type q = common_type q q

-- Both operands and the result have the type in which the operator works.
abbrev pub worked_in : Ancestors → Primitive → Operator → Operand → Operand → Typing Operand
worked_in ancestors r op a b = do
  x ← fit ancestors (type.Plain r) a
  y ← fit ancestors (type.Plain r) b
  Ok (operand a.place (type.Plain r) (t.operate op r x y))

-- Two integers, worked on in a type that comes of theirs.
unfoldable pub worked : (Primitive → Primitive → Primitive) → Ancestors → Operator → Operand → Operand → Typing Operand
worked type_of ancestors op a b = do
  q ← integer a
  r ← integer b
  worked_in ancestors (type_of q r) op a b

-- A shift works in the left operand's type, raised.
abbrev pub shift_type : Primitive → Primitive → Primitive
shift_type q r = raised_type q

-- A truth value that is made of two operands' values.
abbrev pub tested : (Operand → Typing t.Expr) → (t.Expr → t.Expr → t.Expr) → Operand → Operand → Typing Operand
tested value make a b = do
  x ← value a
  y ← value b
  Ok (operand a.place (type.Plain p.Bool) (make x y))

-- Both operands are compared in one type.
abbrev pub compared_in : Ancestors → Primitive → Comparison → Operand → Operand → Typing Operand
compared_in ancestors r c a b = tested (fit ancestors (type.Plain r)) (t.compare c r) a b

-- Two integers are compared in their common type.
unfoldable pub order : Ancestors → Comparison → Operand → Operand → Typing Operand
order ancestors c a b = do
  q ← integer a
  r ← integer b
  compared_in ancestors (common_type q r) c a b

abbrev pub equality_by : Ancestors → Comparison → Operand → Operand → ArgType → Typing Operand
equality_by ancestors c a b (type.Plain p.Bool) = compared_in ancestors p.Bool c a b
equality_by ancestors c a b _ = order ancestors c a b

-- `==` and `!=`: two truth values, or two integers
unfoldable pub equality : Ancestors → Comparison → Operand → Operand → Typing Operand
equality ancestors c a b = equality_by ancestors c a b a.ty

-- Two integers are worked on in their common type. `xor` is one of two truth values and not the other; `is` and `!is` compare which
-- object two objects, handles or nulls are.
abbrev pub formed : Ancestors → Option OperatorForm → Operand → Operand → Typing Operand
formed ancestors None a b = misplaced a.place
formed ancestors (Some (form.Integers (work.Arithmetic op))) a b = worked common_type ancestors op a b
formed ancestors (Some (form.Integers (work.Shift op))) a b = worked shift_type ancestors op a b
formed ancestors (Some (form.Order c)) a b = order ancestors c a b
formed ancestors (Some (form.Equality c)) a b = equality ancestors c a b
formed ancestors (Some form.And) a b = tested truth t.and a b
formed ancestors (Some form.Or) a b = tested truth t.or a b
formed ancestors (Some form.Xor) a b = tested truth (t.compare cmp.NotEqual p.Bool) a b
formed ancestors (Some form.Same) a b = tested identity t.same a b
formed ancestors (Some form.Differ) a b = tested identity (λ x y. t.not (t.same x y)) a b

-- Two operands with a binary operator between them.
unfoldable pub binary_typing : Ancestors → Operand → TokenKind → Operand → Typing Operand
binary_typing ancestors a op b = formed ancestors (form_of (binary_operator op)) a b

-- ---- one operand

-- what is made of an integer in its type, raised
unfoldable pub of_raised : (Primitive → t.Expr → t.Expr) → Ancestors → Place → Operand → Typing Operand
of_raised make ancestors place a = do
  q ← integer a
  let r = raised_type q in do
    x ← fit ancestors (type.Plain r) a
    Ok (operand place (type.Plain r) (make r x))

-- one of two truth values for the other
unfoldable pub opposite : Place → Operand → Typing Operand
opposite place a = do
  x ← truth a
  Ok (operand place (type.Plain p.Bool) (t.not x))

abbrev pub seat_of : Bool → Option SiteUse → Option HandleSite
seat_of is_object None = None
seat_of is_object (Some x) = Some (record { target = x; is_object = is_object })

-- `@` in front of an object or a handle gives the handle, and in front of null null. What stands after it is a site for `=` alone.
abbrev pub handle_in : Place → Operand → ArgType → Typing Operand
handle_in place a type.Null = Ok (operand place type.Null a.tree)
handle_in place a (type.Object n c) = Ok (record { place = place; ty = type.Handle n c; tree = a.tree; target = None; seat = seat_of true a.target })
handle_in place a (type.Handle n c) = Ok (record { place = place; ty = type.Handle n c; tree = a.tree; target = None; seat = seat_of false a.target })
handle_in place a _ = Err (fault kind.BadConversion a.place)

unfoldable pub handle_typing : Place → Operand → Typing Operand
handle_typing place a = handle_in place a a.ty

-- `++` and `--` of what stands at a site of an integer type, which keeps its type; of an enumeration there is no next value
unfoldable pub stepped : StepKind → Place → Operand → Typing Operand
stepped kind place a = do
  x ← target a
  q ← number a
  Ok (operand place (type.Plain q) (t.step x q kind))

abbrev pub prefix_by : Ancestors → Token → TokenKind → Operand → Typing Operand
prefix_by ancestors op k.Not a = opposite op.place a
prefix_by ancestors op k.Minus a = of_raised t.negate ancestors op.place a
prefix_by ancestors op k.Plus a = of_raised (λ r x. x) ancestors op.place a
prefix_by ancestors op k.Tilde a = of_raised t.complement ancestors op.place a
prefix_by ancestors op k.Increment a = stepped step.IncrementBefore op.place a
prefix_by ancestors op k.Decrement a = stepped step.DecrementBefore op.place a
prefix_by ancestors op k.At a = handle_typing op.place a
prefix_by ancestors op _ a = misplaced op.place

-- An operand with an operator in front of it.
unfoldable pub prefix_typing : Ancestors → Token → Operand → Typing Operand
prefix_typing ancestors op a = prefix_by ancestors op op.kind a

abbrev pub postfix_by : TokenKind → Operand → Typing Operand
postfix_by k.Increment a = stepped step.IncrementAfter a.place a
postfix_by k.Decrement a = stepped step.DecrementAfter a.place a
postfix_by _ a = misplaced a.place

-- An operand with `++` or `--` after it.
unfoldable pub postfix_typing : Operand → TokenKind → Typing Operand
postfix_typing a op = postfix_by op a

abbrev pub converted_by : Ancestors → Token → TokenKind → Operand → Typing Operand
converted_by ancestors word (k.Primitive q) a = do
  x ← fit ancestors (type.Plain q) a
  Ok (operand word.place (type.Plain q) x)
converted_by ancestors word _ a = misplaced word.place

-- `int8(e)` and the like take integers, and `bool(e)` a truth value.
unfoldable pub convert_typing : Ancestors → Token → Operand → Typing Operand
convert_typing ancestors word a = converted_by ancestors word word.kind a

-- In parentheses a name is still a target, but no bare name, and `@` names no site.
abbrev pub inside : Option SiteUse → Option SiteUse
inside None = None
inside (Some x) = Some (record x { bare = false })

abbrev pub group_typing : Place → Operand → Operand
group_typing place a = record { place = place; ty = a.ty; tree = a.tree; target = inside a.target; seat = None }

-- ---- `?:`

-- One of two values, as a value of this type.
abbrev pub choice_as : Ancestors → ArgType → Place → t.Expr → Operand → Operand → Typing Operand
choice_as ancestors ty place c a b = do
  x ← fit ancestors ty a
  y ← fit ancestors ty b
  Ok (operand place ty (t.choose c x y))

abbrev pub choice_of_integers : Ancestors → Place → t.Expr → Operand → Operand → Typing Operand
choice_of_integers ancestors place c a b = do
  q ← integer a
  r ← integer b
  choice_as ancestors (type.Plain (common_type q r)) place c a b

-- Whether a value of the one type can stand for the other: a handle becomes an object in a parameter alone, and here in none.
abbrev pub stands_for : Ancestors → ArgType → ArgType → Bool
stands_for ancestors (type.Handle n r) (type.Object m s) = false
stands_for ancestors from to = is_some (rank_of ancestors from to)

-- The third operand converts to the second's type, or else the second to the third's.
abbrev pub choice_of : Ancestors → Place → t.Expr → Operand → Operand → Typing Operand
choice_of ancestors place c a b =
    if stands_for ancestors b.ty a.ty then choice_as ancestors a.ty place c a b
    else (if stands_for ancestors a.ty b.ty then choice_as ancestors b.ty place c a b else Err (fault kind.BadConversion b.place))

abbrev pub choice_of_objects : Ancestors → Place → t.Expr → Operand → Operand → Option (ℕ × Bool) → Typing Operand
choice_of_objects ancestors place c a b None = Err (fault kind.BadConversion b.place)
choice_of_objects ancestors place c a b (Some x) = choice_of ancestors place c a b

-- Two values of one enumeration are one of it, and any others are integers.
abbrev pub choice_of_enumerations : Ancestors → Place → t.Expr → Operand → Operand → ℕ → ArgType → Typing Operand
choice_of_enumerations ancestors place c a b n (type.Enumeration m) =
    if n == m then choice_as ancestors (type.Enumeration n) place c a b else choice_of_integers ancestors place c a b
choice_of_enumerations ancestors place c a b n _ = choice_of_integers ancestors place c a b

-- two truth values, two of one enumeration, two integers, or two objects or handles
abbrev pub choice_by : Ancestors → Place → t.Expr → Operand → Operand → ArgType → Typing Operand
choice_by ancestors place c a b (type.Plain p.Bool) = choice_as ancestors (type.Plain p.Bool) place c a b
choice_by ancestors place c a b (type.Enumeration n) = choice_of_enumerations ancestors place c a b n b.ty
choice_by ancestors place c a b (type.Object n read_only) = choice_of_objects ancestors place c a b (object_of b.ty)
choice_by ancestors place c a b (type.Handle n read_only) = choice_of_objects ancestors place c a b (object_of b.ty)
choice_by ancestors place c a b _ = choice_of_integers ancestors place c a b

unfoldable pub choice : Ancestors → Place → t.Expr → Operand → Operand → Typing Operand
choice ancestors place c a b = choice_by ancestors place c a b a.ty

-- The condition is judged when all three are typed.
unfoldable pub conditional_typing : Ancestors → Operand → Operand → Operand → Typing Operand
conditional_typing ancestors c a b = do
  x ← truth c
  choice ancestors c.place x a b

-- ---- assignments

-- Objects and handles are not assigned by value: `NoAssign` at the operator.
abbrev pub assign_in : Ancestors → Place → Place → t.Site → Operand → ArgType → Typing Operand
assign_in ancestors at place x b (type.Plain q) = do
  y ← fit ancestors (type.Plain q) b
  Ok (operand place (type.Plain q) (t.assign x (type.Plain q) y))
assign_in ancestors at place x b (type.Enumeration n) = do
  y ← fit ancestors (type.Enumeration n) b
  Ok (operand place (type.Enumeration n) (t.assign x (type.Enumeration n) y))
assign_in ancestors at place x b _ = Err (fault kind.NoAssign at)

-- the value is converted to the site's type
unfoldable pub assigned : Ancestors → Place → Operand → Operand → Typing Operand
assigned ancestors at a b = do
  x ← target a
  assign_in ancestors at a.place x b a.ty

-- `@t = e`: the handle is put in its place
unfoldable pub reseated : Ancestors → Operand → Operand → Typing Operand
reseated ancestors a b = do
  x ← seat a
  y ← fit ancestors a.ty b
  Ok (operand a.place a.ty (t.assign x a.ty y))

abbrev pub assigned_by : Ancestors → Place → Operand → Operand → Option HandleSite → Typing Operand
assigned_by ancestors at a b None = assigned ancestors at a b
assigned_by ancestors at a b (Some s) = reseated ancestors a b

-- The operator works in a type of its own, and its result is converted back to the site's.
abbrev pub compound_in : Ancestors → Operator → Place → t.Site → Primitive → Primitive → Operand → Typing Operand
compound_in ancestors op place x q r b = do
  y ← fit ancestors (type.Plain r) b
  Ok (operand place (type.Plain q) (t.compound x q op r y))

unfoldable pub compounded : (Primitive → Primitive → Primitive) → Ancestors → Operator → Operand → Operand → Typing Operand
compounded type_of ancestors op a b = do
  x ← target a
  q ← number a
  r ← integer b
  compound_in ancestors op a.place x q (type_of q r) b

abbrev pub assignment_by : Ancestors → Place → Option IntegerOperator → Operand → Operand → Typing Operand
assignment_by ancestors at None a b = assigned_by ancestors at a b a.seat
assignment_by ancestors at (Some (work.Arithmetic op)) a b = compounded common_type ancestors op a b
assignment_by ancestors at (Some (work.Shift op)) a b = compounded shift_type ancestors op a b

-- A target and its value, with `=` or a compound assignment between them.
unfoldable pub assignment_typing : Ancestors → Operand → Token → Operand → Typing Operand
assignment_typing ancestors a op b = assignment_by ancestors op.place (compound_operator op.kind) a b

-- What an operator refuses is no use.
use Rattle.std.specs.Prelude.{ℕ, zero, suc, ◌==◌, Bool, List, Option, Some, None, Ok, Err}
use Rattle.std.proofs.Common.{refl}
use Rattle.ang_kinds.specs.declared.error.ErrorKind.TheVariants as why
use Rattle.ang_kinds.specs.declared.place.Place.{Place}
use Rattle.ang_kinds.specs.declared.primitive.Primitive.{Primitive}
use Rattle.ang_kinds.specs.declared.primitive.Primitive.TheVariants as p
use Rattle.ang_lex.specs.declared.token.Token.{Token}
use Rattle.ang_lex.specs.declared.token.TokenKind.{TokenKind}
use Rattle.ang_lex.specs.declared.token.TokenKind.TheVariants as k
use Rattle.ang_types.specs.declared.arg_type.ArgType.{ArgType}
use Rattle.ang_types.specs.declared.arg_type.ArgType.TheVariants as type
use Rattle.ang_types.specs.Integers.{common_type, is_integer}
use Rattle.ang_types.specs.Ranks.{Ancestors, rank_of}
use Rattle.ang_kinds.specs.declared.operator.Operator.{Operator}
use Rattle.ang_kinds.specs.declared.operator.Comparison.{Comparison}
use Rattle.ang_kinds.specs.declared.operator.Comparison.TheVariants as cmp
use Rattle.ang_typed.specs.declared.expression.StepKind.{StepKind}
use Rattle.ang_typed.specs.declared.expression.StepKind.TheVariants as step
use Rattle.ang_typed.specs.Typed as t
use Rattle.ang_check_operators.specs.declared.operand.HandleSite.{HandleSite}
use Rattle.ang_check_operators.specs.declared.operand.SiteUse.{SiteUse}
use Rattle.ang_lex.specs.declared.operators.OperatorForm.{OperatorForm}
use Rattle.ang_lex.specs.declared.operators.OperatorForm.TheVariants as form
use Rattle.ang_lex.specs.declared.operators.IntegerOperator.{IntegerOperator}
use Rattle.ang_lex.specs.declared.operators.IntegerOperator.TheVariants as work
use Rattle.ang_check_operators.specs.Operands.{Operand, fit_by, fit, integer_in, integer, number_in, number, truth_in, truth, identity_in, identity, object_of, site_in, site_or, target_by, target, seat_by, seat}
use Rattle.ang_check_operators.specs.Refusals.{Typing, ◌>>=◌, refused, fault}
use Rattle.ang_lex.specs.Operators.{binary_operator, compound_operator, form_of}
use Rattle.ang_check_operators.specs.Operations.{literal_by, literal_typing, raised_type, worked_in, worked, shift_type, tested, compared_in, order, equality_by, equality, formed, binary_typing, of_raised, opposite, handle_in, handle_typing, stepped, prefix_by, prefix_typing, postfix_by, postfix_typing, converted_by, convert_typing, choice_as, choice_of_integers, stands_for, choice_of, choice_of_objects, choice_of_enumerations, choice_by, choice, conditional_typing, assign_in, assigned, reseated, assigned_by, compound_in, compounded, assignment_by, assignment_typing}
use Rattle.ang_check_laws.proofs.Judged.{Silent, silent_in, either_silent}

-- ---- operands

fit_by_silent : (rank : Option ℕ) (ty : ArgType) (a : Operand) → Silent (fit_by rank ty a)
fit_by_silent None ty a = refl
fit_by_silent (Some zero) ty a = tt
fit_by_silent (Some (suc r)) ty a = tt

pub fit_silent : (ancestors : Ancestors) (ty : ArgType) (a : Operand) → Silent (fit ancestors ty a)
unfolding fit
fit_silent ancestors ty a = fit_by_silent (rank_of ancestors a.ty ty) ty a

integer_in_silent : (a : Operand) (ty : ArgType) → Silent (integer_in a ty)
integer_in_silent a (type.Plain q) = either_silent (is_integer q) (Ok q) (Err (fault why.BadConversion a.place)) tt refl
integer_in_silent a (type.Enumeration n) = tt
integer_in_silent a _ = refl

pub integer_silent : (a : Operand) → Silent (integer a)
unfolding integer
integer_silent a = integer_in_silent a a.ty

number_in_silent : (a : Operand) (ty : ArgType) → Silent (number_in a ty)
number_in_silent a (type.Plain q) = either_silent (is_integer q) (Ok q) (Err (fault why.BadConversion a.place)) tt refl
number_in_silent a _ = refl

number_silent : (a : Operand) → Silent (number a)
unfolding number
number_silent a = number_in_silent a a.ty

truth_in_silent : (a : Operand) (ty : ArgType) → Silent (truth_in a ty)
truth_in_silent a (type.Plain p.Bool) = tt
truth_in_silent a _ = refl

pub truth_silent : (a : Operand) → Silent (truth a)
unfolding truth
truth_silent a = truth_in_silent a a.ty

identity_in_silent : (a : Operand) (ty : ArgType) → Silent (identity_in a ty)
identity_in_silent a type.Void = refl
identity_in_silent a type.Null = tt
identity_in_silent a (type.Plain q) = refl
identity_in_silent a (type.Enumeration n) = refl
identity_in_silent a (type.Object n c) = tt
identity_in_silent a (type.Handle n c) = tt

identity_silent : (a : Operand) → Silent (identity a)
unfolding identity
identity_silent a = identity_in_silent a a.ty

site_silent : (place : Place) (x : Option t.Site) → Silent (site_or place x)
site_silent place None = refl
site_silent place (Some x) = tt

target_by_silent : (place : Place) (x : Option SiteUse) (e : t.Expr) → Silent (target_by place x e)
target_by_silent place None e = refl
target_by_silent place (Some x) e =
    either_silent x.read_only (Err (refused why.Const x.name)) (site_or place (site_in e)) refl (site_silent place (site_in e))

target_silent : (a : Operand) → Silent (target a)
unfolding target
target_silent a = target_by_silent a.place a.target a.tree

seat_by_silent : (place : Place) (x : Option HandleSite) (e : t.Expr) → Silent (seat_by place x e)
seat_by_silent place None e = refl
seat_by_silent place (Some x) e =
    either_silent x.is_object (Err (refused why.Const x.target.name)) (target_by place (Some x.target) e) refl (target_by_silent place (Some x.target) e)

seat_silent : (a : Operand) → Silent (seat a)
unfolding seat
seat_silent a = seat_by_silent a.place a.seat a.tree

-- ---- two operands at once

fit_two : (ancestors : Ancestors) (r : ArgType) (a b : Operand) (f : t.Expr → t.Expr → Typing Operand) → ((x y : t.Expr) → Silent (f x y))
    → Silent (fit ancestors r a >>= (λ x. fit ancestors r b >>= (λ y. f x y)))
fit_two ancestors r a b f g =
    silent_in (fit ancestors r a) _ (fit_silent ancestors r a) (λ x. silent_in (fit ancestors r b) _ (fit_silent ancestors r b) (λ y. g x y))

truth_two : (a b : Operand) (f : t.Expr → t.Expr → Typing Operand) → ((x y : t.Expr) → Silent (f x y))
    → Silent (truth a >>= (λ x. truth b >>= (λ y. f x y)))
truth_two a b f g = silent_in (truth a) _ (truth_silent a) (λ x. silent_in (truth b) _ (truth_silent b) (λ y. g x y))

identity_two : (a b : Operand) (f : t.Expr → t.Expr → Typing Operand) → ((x y : t.Expr) → Silent (f x y))
    → Silent (identity a >>= (λ x. identity b >>= (λ y. f x y)))
identity_two a b f g = silent_in (identity a) _ (identity_silent a) (λ x. silent_in (identity b) _ (identity_silent b) (λ y. g x y))

integers : {B : Type 0} (a b : Operand) (f : Primitive → Primitive → Typing B) → ((q r : Primitive) → Silent (f q r))
    → Silent (integer a >>= (λ q. integer b >>= (λ r. f q r)))
integers a b f g = silent_in (integer a) _ (integer_silent a) (λ q. silent_in (integer b) _ (integer_silent b) (λ r. g q r))

number_and_integer : {B : Type 0} (a b : Operand) (f : Primitive → Primitive → Typing B) → ((q r : Primitive) → Silent (f q r))
    → Silent (number a >>= (λ q. integer b >>= (λ r. f q r)))
number_and_integer a b f g = silent_in (number a) _ (number_silent a) (λ q. silent_in (integer b) _ (integer_silent b) (λ r. g q r))

-- ---- literals

literal_by_silent : (x : Token) (text : List ℕ) (kind : TokenKind) → Silent (literal_by x text kind)
literal_by_silent x text k.Number = tt
literal_by_silent x text k.True = tt
literal_by_silent x text k.False = tt
literal_by_silent x text k.Null = tt
literal_by_silent x text _ = refl

pub literal_silent : (x : Token) (text : List ℕ) → Silent (literal_typing x text)
unfolding literal_typing
literal_silent x text = literal_by_silent x text x.kind

-- ---- two operands

worked_silent : (ancestors : Ancestors) (r : Primitive) (op : Operator) (a b : Operand) → Silent (worked_in ancestors r op a b)
worked_silent ancestors r op a b = fit_two ancestors (type.Plain r) a b _ (λ x y. tt)

compared_silent : (ancestors : Ancestors) (r : Primitive) (c : Comparison) (a b : Operand) → Silent (compared_in ancestors r c a b)
compared_silent ancestors r c a b = fit_two ancestors (type.Plain r) a b _ (λ x y. tt)

arithmetic_silent : (ancestors : Ancestors) (op : Operator) (a b : Operand) → Silent (worked common_type ancestors op a b)
unfolding worked
arithmetic_silent ancestors op a b = integers a b _ (λ q r. worked_silent ancestors (common_type q r) op a b)

shift_silent : (ancestors : Ancestors) (op : Operator) (a b : Operand) → Silent (worked shift_type ancestors op a b)
unfolding worked
shift_silent ancestors op a b = integers a b _ (λ q r. worked_silent ancestors (raised_type q) op a b)

order_silent : (ancestors : Ancestors) (c : Comparison) (a b : Operand) → Silent (order ancestors c a b)
unfolding order
order_silent ancestors c a b = integers a b _ (λ q r. compared_silent ancestors (common_type q r) c a b)

equality_by_silent : (ancestors : Ancestors) (c : Comparison) (a b : Operand) (ty : ArgType) → Silent (equality_by ancestors c a b ty)
equality_by_silent ancestors c a b (type.Plain p.Bool) = compared_silent ancestors p.Bool c a b
equality_by_silent ancestors c a b _ = order_silent ancestors c a b

equality_silent : (ancestors : Ancestors) (c : Comparison) (a b : Operand) → Silent (equality ancestors c a b)
unfolding equality
equality_silent ancestors c a b = equality_by_silent ancestors c a b a.ty

conjunction_silent : (a b : Operand) → Silent (tested truth t.and a b)
conjunction_silent a b = truth_two a b _ (λ x y. tt)

disjunction_silent : (a b : Operand) → Silent (tested truth t.or a b)
disjunction_silent a b = truth_two a b _ (λ x y. tt)

exclusion_silent : (a b : Operand) → Silent (tested truth (t.compare cmp.NotEqual p.Bool) a b)
exclusion_silent a b = truth_two a b _ (λ x y. tt)

sameness_silent : (a b : Operand) → Silent (tested identity t.same a b)
sameness_silent a b = identity_two a b _ (λ x y. tt)

difference_silent : (a b : Operand) → Silent (tested identity (λ x y. t.not (t.same x y)) a b)
difference_silent a b = identity_two a b _ (λ x y. tt)

formed_silent : (ancestors : Ancestors) (f : Option OperatorForm) (a b : Operand) → Silent (formed ancestors f a b)
formed_silent ancestors None a b = refl
formed_silent ancestors (Some (form.Integers (work.Arithmetic op))) a b = arithmetic_silent ancestors op a b
formed_silent ancestors (Some (form.Integers (work.Shift op))) a b = shift_silent ancestors op a b
formed_silent ancestors (Some (form.Order c)) a b = order_silent ancestors c a b
formed_silent ancestors (Some (form.Equality c)) a b = equality_silent ancestors c a b
formed_silent ancestors (Some form.And) a b = conjunction_silent a b
formed_silent ancestors (Some form.Or) a b = disjunction_silent a b
formed_silent ancestors (Some form.Xor) a b = exclusion_silent a b
formed_silent ancestors (Some form.Same) a b = sameness_silent a b
formed_silent ancestors (Some form.Differ) a b = difference_silent a b

pub binary_silent : (ancestors : Ancestors) (a : Operand) (op : TokenKind) (b : Operand) → Silent (binary_typing ancestors a op b)
unfolding binary_typing
binary_silent ancestors a op b = formed_silent ancestors (form_of (binary_operator op)) a b

-- ---- one operand

raised_silent : {B : Type 0} (ancestors : Ancestors) (a : Operand) (f : Primitive → t.Expr → Typing B) → ((q : Primitive) (x : t.Expr) → Silent (f q x))
    → Silent (integer a >>= (λ q. fit ancestors (type.Plain (raised_type q)) a >>= (λ x. f q x)))
raised_silent ancestors a f g =
    silent_in (integer a) _ (integer_silent a)
    (λ q. silent_in (fit ancestors (type.Plain (raised_type q)) a) _ (fit_silent ancestors (type.Plain (raised_type q)) a) (λ x. g q x))

negated_silent : (ancestors : Ancestors) (place : Place) (a : Operand) → Silent (of_raised t.negate ancestors place a)
unfolding of_raised
negated_silent ancestors place a = raised_silent ancestors a _ (λ q x. tt)

complemented_silent : (ancestors : Ancestors) (place : Place) (a : Operand) → Silent (of_raised t.complement ancestors place a)
unfolding of_raised
complemented_silent ancestors place a = raised_silent ancestors a _ (λ q x. tt)

raised_operand_silent : (ancestors : Ancestors) (place : Place) (a : Operand) → Silent (of_raised (λ r x. x) ancestors place a)
unfolding of_raised
raised_operand_silent ancestors place a = raised_silent ancestors a _ (λ q x. tt)

opposite_silent : (place : Place) (a : Operand) → Silent (opposite place a)
unfolding opposite
opposite_silent place a = silent_in (truth a) _ (truth_silent a) (λ x. tt)

stepped_silent : (kind : StepKind) (place : Place) (a : Operand) → Silent (stepped kind place a)
unfolding stepped
stepped_silent kind place a = silent_in (target a) _ (target_silent a) (λ x. silent_in (number a) _ (number_silent a) (λ q. tt))

handle_in_silent : (place : Place) (a : Operand) (ty : ArgType) → Silent (handle_in place a ty)
handle_in_silent place a type.Void = refl
handle_in_silent place a type.Null = tt
handle_in_silent place a (type.Plain q) = refl
handle_in_silent place a (type.Enumeration n) = refl
handle_in_silent place a (type.Object m c) = tt
handle_in_silent place a (type.Handle m c) = tt

handle_silent : (place : Place) (a : Operand) → Silent (handle_typing place a)
unfolding handle_typing
handle_silent place a = handle_in_silent place a a.ty

prefix_by_silent : (ancestors : Ancestors) (op : Token) (kind : TokenKind) (a : Operand) → Silent (prefix_by ancestors op kind a)
prefix_by_silent ancestors op k.Not a = opposite_silent op.place a
prefix_by_silent ancestors op k.Minus a = negated_silent ancestors op.place a
prefix_by_silent ancestors op k.Plus a = raised_operand_silent ancestors op.place a
prefix_by_silent ancestors op k.Tilde a = complemented_silent ancestors op.place a
prefix_by_silent ancestors op k.Increment a = stepped_silent step.IncrementBefore op.place a
prefix_by_silent ancestors op k.Decrement a = stepped_silent step.DecrementBefore op.place a
prefix_by_silent ancestors op k.At a = handle_silent op.place a
prefix_by_silent ancestors op _ a = refl

pub prefix_silent : (ancestors : Ancestors) (op : Token) (a : Operand) → Silent (prefix_typing ancestors op a)
unfolding prefix_typing
prefix_silent ancestors op a = prefix_by_silent ancestors op op.kind a

postfix_by_silent : (kind : TokenKind) (a : Operand) → Silent (postfix_by kind a)
postfix_by_silent k.Increment a = stepped_silent step.IncrementAfter a.place a
postfix_by_silent k.Decrement a = stepped_silent step.DecrementAfter a.place a
postfix_by_silent _ a = refl

pub postfix_silent : (a : Operand) (kind : TokenKind) → Silent (postfix_typing a kind)
unfolding postfix_typing
postfix_silent a kind = postfix_by_silent kind a

converted_by_silent : (ancestors : Ancestors) (word : Token) (kind : TokenKind) (a : Operand) → Silent (converted_by ancestors word kind a)
converted_by_silent ancestors word (k.Primitive q) a = silent_in (fit ancestors (type.Plain q) a) _ (fit_silent ancestors (type.Plain q) a) (λ x. tt)
converted_by_silent ancestors word _ a = refl

pub converted_silent : (ancestors : Ancestors) (word : Token) (a : Operand) → Silent (convert_typing ancestors word a)
unfolding convert_typing
converted_silent ancestors word a = converted_by_silent ancestors word word.kind a

-- ---- `?:`

chosen_silent : (ancestors : Ancestors) (ty : ArgType) (place : Place) (c : t.Expr) (a b : Operand) → Silent (choice_as ancestors ty place c a b)
chosen_silent ancestors ty place c a b = fit_two ancestors ty a b _ (λ x y. tt)

integers_silent : (ancestors : Ancestors) (place : Place) (c : t.Expr) (a b : Operand) → Silent (choice_of_integers ancestors place c a b)
integers_silent ancestors place c a b = integers a b _ (λ q r. chosen_silent ancestors (type.Plain (common_type q r)) place c a b)

one_of_two_silent : (ancestors : Ancestors) (place : Place) (c : t.Expr) (a b : Operand) → Silent (choice_of ancestors place c a b)
one_of_two_silent ancestors place c a b =
    either_silent (stands_for ancestors b.ty a.ty) _ _ (chosen_silent ancestors a.ty place c a b)
    (either_silent (stands_for ancestors a.ty b.ty) _ _ (chosen_silent ancestors b.ty place c a b) refl)

objects_silent : (ancestors : Ancestors) (place : Place) (c : t.Expr) (a b : Operand) (o : Option (ℕ × Bool)) → Silent (choice_of_objects ancestors place c a b o)
objects_silent ancestors place c a b None = refl
objects_silent ancestors place c a b (Some x) = one_of_two_silent ancestors place c a b

enumerations_silent : (ancestors : Ancestors) (place : Place) (c : t.Expr) (a b : Operand) (n : ℕ) (ty : ArgType)
    → Silent (choice_of_enumerations ancestors place c a b n ty)
enumerations_silent ancestors place c a b n (type.Enumeration m) =
    either_silent (n == m) _ _ (chosen_silent ancestors (type.Enumeration n) place c a b) (integers_silent ancestors place c a b)
enumerations_silent ancestors place c a b n _ = integers_silent ancestors place c a b

choice_by_silent : (ancestors : Ancestors) (place : Place) (c : t.Expr) (a b : Operand) (ty : ArgType) → Silent (choice_by ancestors place c a b ty)
choice_by_silent ancestors place c a b (type.Plain p.Bool) = chosen_silent ancestors (type.Plain p.Bool) place c a b
choice_by_silent ancestors place c a b (type.Enumeration n) = enumerations_silent ancestors place c a b n b.ty
choice_by_silent ancestors place c a b (type.Object m r) = objects_silent ancestors place c a b (object_of b.ty)
choice_by_silent ancestors place c a b (type.Handle m r) = objects_silent ancestors place c a b (object_of b.ty)
choice_by_silent ancestors place c a b _ = integers_silent ancestors place c a b

choice_silent : (ancestors : Ancestors) (place : Place) (c : t.Expr) (a b : Operand) → Silent (choice ancestors place c a b)
unfolding choice
choice_silent ancestors place c a b = choice_by_silent ancestors place c a b a.ty

pub conditional_silent : (ancestors : Ancestors) (c a b : Operand) → Silent (conditional_typing ancestors c a b)
unfolding conditional_typing
conditional_silent ancestors c a b = silent_in (truth c) _ (truth_silent c) (λ x. choice_silent ancestors c.place x a b)

-- ---- assignments

assign_in_silent : (ancestors : Ancestors) (at place : Place) (x : t.Site) (b : Operand) (ty : ArgType) → Silent (assign_in ancestors at place x b ty)
assign_in_silent ancestors at place x b (type.Plain q) = silent_in (fit ancestors (type.Plain q) b) _ (fit_silent ancestors (type.Plain q) b) (λ y. tt)
assign_in_silent ancestors at place x b (type.Enumeration n) =
    silent_in (fit ancestors (type.Enumeration n) b) _ (fit_silent ancestors (type.Enumeration n) b) (λ y. tt)
assign_in_silent ancestors at place x b _ = refl

assigned_silent : (ancestors : Ancestors) (at : Place) (a b : Operand) → Silent (assigned ancestors at a b)
unfolding assigned
assigned_silent ancestors at a b = silent_in (target a) _ (target_silent a) (λ x. assign_in_silent ancestors at a.place x b a.ty)

reseated_silent : (ancestors : Ancestors) (a b : Operand) → Silent (reseated ancestors a b)
unfolding reseated
reseated_silent ancestors a b =
    silent_in (seat a) _ (seat_silent a) (λ x. silent_in (fit ancestors a.ty b) _ (fit_silent ancestors a.ty b) (λ y. tt))

assigned_by_silent : (ancestors : Ancestors) (at : Place) (a b : Operand) (s : Option HandleSite) → Silent (assigned_by ancestors at a b s)
assigned_by_silent ancestors at a b None = assigned_silent ancestors at a b
assigned_by_silent ancestors at a b (Some s) = reseated_silent ancestors a b

compound_silent : (ancestors : Ancestors) (op : Operator) (place : Place) (x : t.Site) (q r : Primitive) (b : Operand) → Silent (compound_in ancestors op place x q r b)
compound_silent ancestors op place x q r b = silent_in (fit ancestors (type.Plain r) b) _ (fit_silent ancestors (type.Plain r) b) (λ y. tt)

compound_arithmetic_silent : (ancestors : Ancestors) (op : Operator) (a b : Operand) → Silent (compounded common_type ancestors op a b)
unfolding compounded
compound_arithmetic_silent ancestors op a b =
    silent_in (target a) _ (target_silent a) (λ x. number_and_integer a b _ (λ q r. compound_silent ancestors op a.place x q (common_type q r) b))

compound_shift_silent : (ancestors : Ancestors) (op : Operator) (a b : Operand) → Silent (compounded shift_type ancestors op a b)
unfolding compounded
compound_shift_silent ancestors op a b =
    silent_in (target a) _ (target_silent a) (λ x. number_and_integer a b _ (λ q r. compound_silent ancestors op a.place x q (raised_type q) b))

assignment_by_silent : (ancestors : Ancestors) (at : Place) (w : Option IntegerOperator) (a b : Operand) → Silent (assignment_by ancestors at w a b)
assignment_by_silent ancestors at None a b = assigned_by_silent ancestors at a b a.seat
assignment_by_silent ancestors at (Some (work.Arithmetic op)) a b = compound_arithmetic_silent ancestors op a b
assignment_by_silent ancestors at (Some (work.Shift op)) a b = compound_shift_silent ancestors op a b

pub assignment_silent : (ancestors : Ancestors) (a : Operand) (op : Token) (b : Operand) → Silent (assignment_typing ancestors a op b)
unfolding assignment_typing
assignment_silent ancestors a op b = assignment_by_silent ancestors op.place (compound_operator op.kind) a b

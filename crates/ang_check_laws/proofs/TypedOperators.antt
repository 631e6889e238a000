-- The tree that an operator makes is typed where those of its operands are.
use Rattle.std.specs.Prelude.{◌≡◌, ℕ, ◌==◌, Bool, true, false, List, Option, Some, None, IfSome, Ok, IfOk}
use Rattle.std.proofs.Common.{refl, subst}
use Rattle.ang_kinds.specs.declared.place.Place.{Place}
use Rattle.ang_kinds.specs.declared.primitive.Primitive.{Primitive}
use Rattle.ang_kinds.specs.declared.primitive.Primitive.TheVariants as p
use Rattle.ang_lex.specs.declared.token.Token.{Token}
use Rattle.ang_lex.specs.declared.token.TokenKind.{TokenKind}
use Rattle.ang_lex.specs.declared.token.TokenKind.TheVariants as k
use Rattle.ang_types.specs.declared.arg_type.ArgType.{ArgType}
use Rattle.ang_types.specs.declared.arg_type.ArgType.TheVariants as type
use Rattle.ang_types.specs.Integers.{common_type}
use Rattle.ang_types.specs.Ranks.{Ancestors}
use Rattle.ang_kinds.specs.declared.operator.Operator.{Operator}
use Rattle.ang_kinds.specs.declared.operator.Comparison.{Comparison}
use Rattle.ang_kinds.specs.declared.operator.Comparison.TheVariants as cmp
use Rattle.ang_typed.specs.declared.expression.StepKind.{StepKind}
use Rattle.ang_typed.specs.declared.expression.StepKind.TheVariants as step
use Rattle.ang_typed.specs.Typed as t
use Rattle.ang_check_operators.specs.declared.operand.HandleSite.{HandleSite}
use Rattle.ang_check_operators.specs.declared.operand.SiteUse.{SiteUse}
use Rattle.ang_lex.specs.declared.operators.OperatorForm.{OperatorForm}
use Rattle.ang_lex.specs.declared.operators.OperatorForm.TheVariants as form
use Rattle.ang_lex.specs.declared.operators.IntegerOperator.{IntegerOperator}
use Rattle.ang_lex.specs.declared.operators.IntegerOperator.TheVariants as work
use Rattle.ang_check_operators.specs.Operands.{Operand, operand, fit, integer, number, truth, identity, object_of, site_in, target, seat}
use Rattle.ang_check_operators.specs.Refusals.{Typing, ◌>>=◌}
use Rattle.ang_lex.specs.Operators.{binary_operator, compound_operator, form_of}
use Rattle.ang_check_operators.specs.Operations.{literal_by, literal_typing, raised_type, worked_in, worked, shift_type, tested, compared_in, order, equality_by, equality, formed, binary_typing, of_raised, opposite, seat_of, handle_in, handle_typing, stepped, prefix_by, prefix_typing, postfix_by, postfix_typing, converted_by, convert_typing, inside, group_typing, choice_as, choice_of_integers, stands_for, choice_of, choice_of_objects, choice_of_enumerations, choice_by, choice, conditional_typing, assign_in, assigned, reseated, assigned_by, compound_in, compounded, assignment_by, assignment_typing}
use Rattle.ang_meaning.specs.Environment.{Environment}
use Rattle.ang_source_typed.specs.Types.{SlotType, Number, Modules, IsA}
use Rattle.ang_source_typed.specs.TypedProgram.{AreClasses, Types}
use Rattle.ang_check_sound.proofs.Judged.{holds, either_holds}
use Rattle.ang_check_laws.specs.Contexts.{place_type, AreAbove}
use Rattle.ang_check_laws.proofs.Operands as operands
use Rattle.ang_check_laws.proofs.Operands.{fit_typed, integer_typed, number_typed, truth_typed, identity_typed, target_typed, seat_typed, assigned_typed, changed_typed, stepped_typed, made}

-- In module m, where locals of these types are alive:
module _ (z : Environment) (ms : Modules) (m : ℕ) (locals : List SlotType) (classes : AreClasses z ms m) (ancestors : Ancestors) (above : AreAbove z ms m ancestors) where
  abbrev T : ArgType → SlotType
  T ty = place_type z ms m ty

  abbrev Ty : SlotType → t.Expr → Type 0
  Ty s e = Types z ms m locals s e

  abbrev Of : ArgType → t.Expr → Type 0
  Of ty e = operands.IsTyped z ms m locals ty e

  abbrev Typed : Operand → Type 0
  Typed a = operands.TypedOperand z ms m locals a

  abbrev Stored : SlotType → t.Site → Type 0
  Stored s x = operands.IsStoredSite z ms m locals s x

  abbrev Seat : ArgType → t.Site → Type 0
  Seat ty x = (ty ≡ type.Null → ⊥) × Stored (place_type z ms m ty) x

  abbrev Handled : t.Expr → Type 0
  Handled e = operands.IsHandled z ms m locals e

  num : (place : Place) (q : Primitive) (e : t.Expr) → Ty Number e → Typed (operand place (type.Plain q) e)
  num place q e h = made z ms m locals place (type.Plain q) e (record { tree = h; nulls = tt }) tt

  of_type : (place : Place) (ty : ArgType) (e : t.Expr) → Of ty e → IsA z ms (T ty) (T ty) → Typed (operand place ty e)
  of_type place ty e h i = made z ms m locals place ty e h i

  fits : (r : ArgType) (a : Operand) → Typed a → IfOk (fit ancestors r a) (Of r)
  fits r a s = fit_typed z ms m locals classes ancestors above r a s

  -- what comes of an integer's type
  with_integer : {B : Type 0} (Q : B → Type 0) (a : Operand) (f : Primitive → Typing B) → ((q : Primitive) → IfOk (f q) Q) → IfOk (integer a >>= f) Q
  with_integer Q a f g = holds (λ q. place_type z ms m a.ty ≡ Number) Q (integer a) f (integer_typed z ms m locals a) (λ q h. g q)

  -- and of one that is changed in place
  with_number : {B : Type 0} (Q : B → Type 0) (a : Operand) (f : Primitive → Typing B) → ((q : Primitive) → place_type z ms m a.ty ≡ Number → IfOk (f q) Q)
      → IfOk (number a >>= f) Q
  with_number Q a f g = holds (λ q. place_type z ms m a.ty ≡ Number) Q (number a) f (number_typed z ms m locals a) g

  -- two operands in one type, and what is made of them
  fit_two : (r : ArgType) (a b : Operand) (f : t.Expr → t.Expr → Typing Operand) → Typed a → Typed b
      → ((x y : t.Expr) → Of r x → Of r y → IfOk (f x y) Typed)
      → IfOk (fit ancestors r a >>= (λ x. fit ancestors r b >>= (λ y. f x y))) Typed
  fit_two r a b f sa sb g =
      holds (Of r) Typed (fit ancestors r a) (λ x. fit ancestors r b >>= (λ y. f x y)) (fits r a sa)
      (λ x sx. holds (Of r) Typed (fit ancestors r b) (λ y. f x y) (fits r b sb) (λ y sy. g x y sx sy))

  truth_two : (a b : Operand) (f : t.Expr → t.Expr → Typing Operand) → Typed a → Typed b
      → ((x y : t.Expr) → Ty Number x → Ty Number y → IfOk (f x y) Typed)
      → IfOk (truth a >>= (λ x. truth b >>= (λ y. f x y))) Typed
  truth_two a b f sa sb g =
      holds (Ty Number) Typed (truth a) (λ x. truth b >>= (λ y. f x y)) (truth_typed z ms m locals a sa)
      (λ x sx. holds (Ty Number) Typed (truth b) (λ y. f x y) (truth_typed z ms m locals b sb) (λ y sy. g x y sx sy))

  -- ---- literals

  literal_by_typed : (x : Token) (text : List ℕ) (kind : TokenKind) → IfOk (literal_by x text kind) Typed
  literal_by_typed x text k.Number = num _ _ _ refl
  literal_by_typed x text k.True = num _ _ _ refl
  literal_by_typed x text k.False = num _ _ _ refl
  literal_by_typed x text k.Null = of_type _ _ _ (record { tree = tt; nulls = λ want h. h }) refl
  literal_by_typed x text _ = tt

  pub literal_typed : (x : Token) (text : List ℕ) → IfOk (literal_typing x text) (operands.TypedOperand z ms m locals)
  unfolding literal_typing
  literal_typed x text = literal_by_typed x text x.kind

  -- ---- two operands

  worked_typed : (r : Primitive) (op : Operator) (a b : Operand) → Typed a → Typed b
      → IfOk (worked_in ancestors r op a b) Typed
  worked_typed r op a b sa sb =
      fit_two (type.Plain r) a b (λ x y. Ok (operand a.place (type.Plain r) (t.operate op r x y))) sa sb (λ x y sx sy. num _ _ _ (refl, sx.tree, sy.tree))

  compared_typed : (r : Primitive) (c : Comparison) (a b : Operand) → Typed a → Typed b
      → IfOk (compared_in ancestors r c a b) Typed
  compared_typed r c a b sa sb =
      fit_two (type.Plain r) a b (λ x y. Ok (operand a.place (type.Plain p.Bool) (t.compare c r x y))) sa sb (λ x y sx sy. num _ _ _ (refl, sx.tree, sy.tree))

  arithmetic_typed : (op : Operator) (a b : Operand) → Typed a → Typed b → IfOk (worked common_type ancestors op a b) Typed
  unfolding worked
  arithmetic_typed op a b sa sb =
      with_integer Typed a _ (λ q. with_integer Typed b _ (λ r. worked_typed (common_type q r) op a b sa sb))

  shift_typed : (op : Operator) (a b : Operand) → Typed a → Typed b → IfOk (worked shift_type ancestors op a b) Typed
  unfolding worked
  shift_typed op a b sa sb =
      with_integer Typed a _ (λ q. with_integer Typed b _ (λ r. worked_typed (raised_type q) op a b sa sb))

  order_typed : (c : Comparison) (a b : Operand) → Typed a → Typed b → IfOk (order ancestors c a b) Typed
  unfolding order
  order_typed c a b sa sb =
      with_integer Typed a _ (λ q. with_integer Typed b _ (λ r. compared_typed (common_type q r) c a b sa sb))

  equality_by_typed : (c : Comparison) (a b : Operand) (ty : ArgType) → Typed a → Typed b
      → IfOk (equality_by ancestors c a b ty) Typed
  equality_by_typed c a b (type.Plain p.Bool) sa sb = compared_typed p.Bool c a b sa sb
  equality_by_typed c a b _ sa sb = order_typed c a b sa sb

  equality_typed : (c : Comparison) (a b : Operand) → Typed a → Typed b → IfOk (equality ancestors c a b) Typed
  unfolding equality
  equality_typed c a b sa sb = equality_by_typed c a b a.ty sa sb

  conjunction_typed : (a b : Operand) → Typed a → Typed b → IfOk (tested truth t.and a b) Typed
  conjunction_typed a b sa sb =
      truth_two a b (λ x y. Ok (operand a.place (type.Plain p.Bool) (t.and x y))) sa sb (λ x y sx sy. num _ _ _ (refl, sx, sy))

  disjunction_typed : (a b : Operand) → Typed a → Typed b → IfOk (tested truth t.or a b) Typed
  disjunction_typed a b sa sb =
      truth_two a b (λ x y. Ok (operand a.place (type.Plain p.Bool) (t.or x y))) sa sb (λ x y sx sy. num _ _ _ (refl, sx, sy))

  exclusion_typed : (a b : Operand) → Typed a → Typed b → IfOk (tested truth (t.compare cmp.NotEqual p.Bool) a b) Typed
  exclusion_typed a b sa sb =
      truth_two a b (λ x y. Ok (operand a.place (type.Plain p.Bool) (t.compare cmp.NotEqual p.Bool x y))) sa sb (λ x y sx sy. num _ _ _ (refl, sx, sy))

  identity_two : (a b : Operand) (f : t.Expr → t.Expr → Typing Operand) → Typed a → Typed b
      → ((x y : t.Expr) → Handled x → Handled y → IfOk (f x y) Typed)
      → IfOk (identity a >>= (λ x. identity b >>= (λ y. f x y))) Typed
  identity_two a b f sa sb g =
      holds (Handled) Typed (identity a) (λ x. identity b >>= (λ y. f x y)) (identity_typed z ms m locals a sa)
      (λ x sx. holds (Handled) Typed (identity b) (λ y. f x y) (identity_typed z ms m locals b sb) (λ y sy. g x y sx sy))

  sameness_typed : (a b : Operand) → Typed a → Typed b → IfOk (tested identity t.same a b) Typed
  sameness_typed a b sa sb =
      identity_two a b (λ x y. Ok (operand a.place (type.Plain p.Bool) (t.same x y))) sa sb (λ x y sx sy. num _ _ _ (refl, (sx.0, sy.0, sx.1, sx.2, sy.1, sy.2)))

  difference_typed : (a b : Operand) → Typed a → Typed b → IfOk (tested identity (λ x y. t.not (t.same x y)) a b) Typed
  difference_typed a b sa sb =
      identity_two a b (λ x y. Ok (operand a.place (type.Plain p.Bool) (t.not (t.same x y)))) sa sb (λ x y sx sy. num _ _ _ (refl, (refl, (sx.0, sy.0, sx.1, sx.2, sy.1, sy.2))))

  formed_typed : (f : Option OperatorForm) (a b : Operand) → Typed a → Typed b → IfOk (formed ancestors f a b) Typed
  formed_typed None a b sa sb = tt
  formed_typed (Some (form.Integers (work.Arithmetic op))) a b sa sb = arithmetic_typed op a b sa sb
  formed_typed (Some (form.Integers (work.Shift op))) a b sa sb = shift_typed op a b sa sb
  formed_typed (Some (form.Order c)) a b sa sb = order_typed c a b sa sb
  formed_typed (Some (form.Equality c)) a b sa sb = equality_typed c a b sa sb
  formed_typed (Some form.And) a b sa sb = conjunction_typed a b sa sb
  formed_typed (Some form.Or) a b sa sb = disjunction_typed a b sa sb
  formed_typed (Some form.Xor) a b sa sb = exclusion_typed a b sa sb
  formed_typed (Some form.Same) a b sa sb = sameness_typed a b sa sb
  formed_typed (Some form.Differ) a b sa sb = difference_typed a b sa sb

  pub binary_typed : (a : Operand) (op : TokenKind) (b : Operand) → operands.TypedOperand z ms m locals a → operands.TypedOperand z ms m locals b
      → IfOk (binary_typing ancestors a op b) (operands.TypedOperand z ms m locals)
  unfolding binary_typing
  binary_typed a op b sa sb = formed_typed (form_of (binary_operator op)) a b sa sb

  -- ---- one operand

  fit_one : (r : ArgType) (a : Operand) (f : t.Expr → Typing Operand) → Typed a
      → ((x : t.Expr) → Of r x → IfOk (f x) Typed) → IfOk (fit ancestors r a >>= f) Typed
  fit_one r a f sa g = holds (Of r) Typed (fit ancestors r a) f (fits r a sa) g

  negated_typed : (place : Place) (a : Operand) → Typed a → IfOk (of_raised t.negate ancestors place a) Typed
  unfolding of_raised
  negated_typed place a sa =
      with_integer Typed a _ (λ q. fit_one (type.Plain (raised_type q)) a _ sa (λ x sx. num _ _ _ (refl, sx.tree)))

  complemented_typed : (place : Place) (a : Operand) → Typed a → IfOk (of_raised t.complement ancestors place a) Typed
  unfolding of_raised
  complemented_typed place a sa =
      with_integer Typed a _ (λ q. fit_one (type.Plain (raised_type q)) a _ sa (λ x sx. num _ _ _ (refl, sx.tree)))

  raised_typed : (place : Place) (a : Operand) → Typed a → IfOk (of_raised (λ r x. x) ancestors place a) Typed
  unfolding of_raised
  raised_typed place a sa =
      with_integer Typed a _ (λ q. fit_one (type.Plain (raised_type q)) a _ sa (λ x sx. num _ _ _ sx.tree))

  opposite_typed : (place : Place) (a : Operand) → Typed a → IfOk (opposite place a) Typed
  unfolding opposite
  opposite_typed place a sa = holds (Ty Number) Typed (truth a) _ (truth_typed z ms m locals a sa) (λ x sx. num _ _ _ (refl, sx))

  step_typed : (kind : StepKind) (place : Place) (a : Operand) → Typed a → IfOk (stepped kind place a) Typed
  unfolding stepped
  step_typed kind place a sa =
      holds (Stored (T a.ty)) Typed (target a) _ (target_typed z ms m locals a sa)
      (λ x sx. with_number Typed a _ (λ q is. num _ _ _ (stepped_typed z ms m locals x q kind (subst (λ s. Stored s x) is sx))))

  seated : (ty other : ArgType) (is_object : Bool) (x : Option SiteUse) (e : t.Expr) → (other ≡ type.Null → ⊥) → place_type z ms m ty ≡ place_type z ms m other
      → operands.IsTargeted z ms m locals ty x e → operands.IsSeated z ms m locals other (seat_of is_object x) e
  seated ty other is_object None e ne same s = tt
  seated ty other is_object (Some x) e ne same s = (ne, λ free. subst (λ u. IfSome (site_in e) (Stored u)) same (s free))

  handle_in_typed : (place : Place) (a : Operand) (ty : ArgType) → Of ty a.tree → IsA z ms (T ty) (T ty) → operands.IsTargeted z ms m locals ty a.target a.tree
      → IfOk (handle_in place a ty) Typed
  handle_in_typed place a type.Void h i s = tt
  handle_in_typed place a type.Null h i s = of_type _ _ _ h i
  handle_in_typed place a (type.Plain q) h i s = tt
  handle_in_typed place a (type.Enumeration j) h i s = tt
  handle_in_typed place a (type.Object j c) h i s =
      record { typed = record { tree = h.tree; nulls = tt }; itself = i; target = tt; seat = seated (type.Object j c) (type.Handle j c) true a.target a.tree (λ e. cc) refl s }
  handle_in_typed place a (type.Handle j c) h i s =
      record { typed = record { tree = h.tree; nulls = tt }; itself = i; target = tt; seat = seated (type.Handle j c) (type.Handle j c) false a.target a.tree (λ e. cc) refl s }

  handle_typed : (place : Place) (a : Operand) → Typed a → IfOk (handle_typing place a) Typed
  unfolding handle_typing
  handle_typed place a sa = handle_in_typed place a a.ty sa.typed sa.itself sa.target

  prefix_by_typed : (op : Token) (kind : TokenKind) (a : Operand) → Typed a → IfOk (prefix_by ancestors op kind a) Typed
  prefix_by_typed op k.Not a sa = opposite_typed op.place a sa
  prefix_by_typed op k.Minus a sa = negated_typed op.place a sa
  prefix_by_typed op k.Plus a sa = raised_typed op.place a sa
  prefix_by_typed op k.Tilde a sa = complemented_typed op.place a sa
  prefix_by_typed op k.Increment a sa = step_typed step.IncrementBefore op.place a sa
  prefix_by_typed op k.Decrement a sa = step_typed step.DecrementBefore op.place a sa
  prefix_by_typed op k.At a sa = handle_typed op.place a sa
  prefix_by_typed op _ a sa = tt

  pub prefix_typed : (op : Token) (a : Operand) → operands.TypedOperand z ms m locals a → IfOk (prefix_typing ancestors op a) (operands.TypedOperand z ms m locals)
  unfolding prefix_typing
  prefix_typed op a sa = prefix_by_typed op op.kind a sa

  postfix_by_typed : (kind : TokenKind) (a : Operand) → Typed a → IfOk (postfix_by kind a) Typed
  postfix_by_typed k.Increment a sa = step_typed step.IncrementAfter a.place a sa
  postfix_by_typed k.Decrement a sa = step_typed step.DecrementAfter a.place a sa
  postfix_by_typed _ a sa = tt

  pub postfix_typed : (a : Operand) (kind : TokenKind) → operands.TypedOperand z ms m locals a → IfOk (postfix_typing a kind) (operands.TypedOperand z ms m locals)
  unfolding postfix_typing
  postfix_typed a kind sa = postfix_by_typed kind a sa

  converted_by_typed : (word : Token) (kind : TokenKind) (a : Operand) → Typed a
      → IfOk (converted_by ancestors word kind a) Typed
  converted_by_typed word (k.Primitive q) a sa = fit_one (type.Plain q) a _ sa (λ x sx. num _ _ _ sx.tree)
  converted_by_typed word _ a sa = tt

  pub converted_typed : (word : Token) (a : Operand) → operands.TypedOperand z ms m locals a → IfOk (convert_typing ancestors word a) (operands.TypedOperand z ms m locals)
  unfolding convert_typing
  converted_typed word a sa = converted_by_typed word word.kind a sa

  inside_targeted : (ty : ArgType) (x : Option SiteUse) (e : t.Expr) → operands.IsTargeted z ms m locals ty x e → operands.IsTargeted z ms m locals ty (inside x) e
  inside_targeted ty None e s = tt
  inside_targeted ty (Some x) e s = s

  pub group_typed : (place : Place) (a : Operand) → operands.TypedOperand z ms m locals a → operands.TypedOperand z ms m locals (group_typing place a)
  group_typed place a sa = record { typed = sa.typed; itself = sa.itself; target = inside_targeted a.ty a.target a.tree sa.target; seat = tt }

  -- ---- `?:`

  chosen_nulls : (ty : ArgType) (c x y : t.Expr) → Ty Number c → Of ty x → Of ty y → operands.Nulls z ms m locals ty (t.choose c x y)
  chosen_nulls type.Void c x y sc sx sy = tt
  chosen_nulls type.Null c x y sc sx sy = λ want h. (sc, sx.nulls want h, sy.nulls want h)
  chosen_nulls (type.Plain q) c x y sc sx sy = tt
  chosen_nulls (type.Enumeration j) c x y sc sx sy = tt
  chosen_nulls (type.Object j d) c x y sc sx sy = tt
  chosen_nulls (type.Handle j d) c x y sc sx sy = tt

  chosen_typed : (ty : ArgType) (place : Place) (c : t.Expr) (a b : Operand) → IsA z ms (T ty) (T ty) → Ty Number c → Typed a → Typed b
      → IfOk (choice_as ancestors ty place c a b) Typed
  chosen_typed ty place c a b i sc sa sb =
      fit_two ty a b (λ x y. Ok (operand place ty (t.choose c x y))) sa sb
      (λ x y sx sy. of_type _ _ _ (record { tree = (sc, sx.tree, sy.tree); nulls = chosen_nulls ty c x y sc sx sy }) i)

  integers_typed : (place : Place) (c : t.Expr) (a b : Operand) → Ty Number c → Typed a → Typed b
      → IfOk (choice_of_integers ancestors place c a b) Typed
  integers_typed place c a b sc sa sb =
      with_integer Typed a _ (λ q. with_integer Typed b _ (λ r. chosen_typed (type.Plain (common_type q r)) place c a b tt sc sa sb))

  one_of_two_typed : (place : Place) (c : t.Expr) (a b : Operand) → Ty Number c → Typed a → Typed b
      → IfOk (choice_of ancestors place c a b) Typed
  one_of_two_typed place c a b sc sa sb =
      either_holds Typed (stands_for ancestors b.ty a.ty) _ _ (chosen_typed a.ty place c a b sa.itself sc sa sb)
      (either_holds Typed (stands_for ancestors a.ty b.ty) _ _ (chosen_typed b.ty place c a b sb.itself sc sa sb) tt)

  objects_typed : (place : Place) (c : t.Expr) (a b : Operand) (o : Option (ℕ × Bool)) → Ty Number c → Typed a → Typed b
      → IfOk (choice_of_objects ancestors place c a b o) Typed
  objects_typed place c a b None sc sa sb = tt
  objects_typed place c a b (Some x) sc sa sb = one_of_two_typed place c a b sc sa sb

  enumerations_typed : (place : Place) (c : t.Expr) (a b : Operand) (m : ℕ) (ty : ArgType) → Ty Number c → Typed a → Typed b
      → IfOk (choice_of_enumerations ancestors place c a b m ty) Typed
  enumerations_typed place c a b m (type.Enumeration k) sc sa sb =
      either_holds Typed (m == k) _ _ (chosen_typed (type.Enumeration m) place c a b tt sc sa sb) (integers_typed place c a b sc sa sb)
  enumerations_typed place c a b m _ sc sa sb = integers_typed place c a b sc sa sb

  choice_by_typed : (place : Place) (c : t.Expr) (a b : Operand) (ty : ArgType) → Ty Number c → Typed a → Typed b
      → IfOk (choice_by ancestors place c a b ty) Typed
  choice_by_typed place c a b (type.Plain p.Bool) sc sa sb = chosen_typed (type.Plain p.Bool) place c a b tt sc sa sb
  choice_by_typed place c a b (type.Enumeration m) sc sa sb = enumerations_typed place c a b m b.ty sc sa sb
  choice_by_typed place c a b (type.Object m r) sc sa sb = objects_typed place c a b (object_of b.ty) sc sa sb
  choice_by_typed place c a b (type.Handle m r) sc sa sb = objects_typed place c a b (object_of b.ty) sc sa sb
  choice_by_typed place c a b _ sc sa sb = integers_typed place c a b sc sa sb

  choice_typed : (place : Place) (c : t.Expr) (a b : Operand) → Ty Number c → Typed a → Typed b
      → IfOk (choice ancestors place c a b) Typed
  unfolding choice
  choice_typed place c a b sc sa sb = choice_by_typed place c a b a.ty sc sa sb

  pub conditional_typed : (c a b : Operand) → operands.TypedOperand z ms m locals c → operands.TypedOperand z ms m locals a → operands.TypedOperand z ms m locals b
      → IfOk (conditional_typing ancestors c a b) (operands.TypedOperand z ms m locals)
  unfolding conditional_typing
  conditional_typed c a b sc sa sb =
      holds (Ty Number) Typed (truth c) _ (truth_typed z ms m locals c sc) (λ x sx. choice_typed c.place x a b sx sa sb)

  -- ---- assignments

  assign_in_typed : (at place : Place) (x : t.Site) (b : Operand) (ty : ArgType) → Stored (T ty) x → Typed b
      → IfOk (assign_in ancestors at place x b ty) Typed
  assign_in_typed at place x b type.Void sx sb = tt
  assign_in_typed at place x b type.Null sx sb = tt
  assign_in_typed at place x b (type.Plain q) sx sb =
      fit_one (type.Plain q) b _ sb (λ y sy. num _ _ _ (assigned_typed z ms m locals x (type.Plain q) Number y sx tt sy.tree))
  assign_in_typed at place x b (type.Enumeration j) sx sb =
      fit_one (type.Enumeration j) b _ sb
      (λ y sy. of_type _ _ _ (record { tree = assigned_typed z ms m locals x (type.Enumeration j) Number y sx tt sy.tree; nulls = tt }) tt)
  assign_in_typed at place x b (type.Object j c) sx sb = tt
  assign_in_typed at place x b (type.Handle j c) sx sb = tt

  store_typed : (at : Place) (a b : Operand) → Typed a → Typed b → IfOk (assigned ancestors at a b) Typed
  unfolding assigned
  store_typed at a b sa sb =
      holds (Stored (T a.ty)) Typed (target a) _ (target_typed z ms m locals a sa) (λ x sx. assign_in_typed at a.place x b a.ty sx sb)

  reseated_typed : (a b : Operand) → Typed a → Typed b → IfOk (reseated ancestors a b) Typed
  unfolding reseated
  reseated_typed a b sa sb =
      holds (Seat a.ty) Typed (seat a) _ (seat_typed z ms m locals a sa)
      (λ x sx. fit_one a.ty b _ sb
      (λ y sy. of_type _ _ _
      (record { tree = assigned_typed z ms m locals x a.ty (T a.ty) y sx.1 sa.itself sy.tree; nulls = operands.no_nulls z ms m locals a.ty (t.assign x a.ty y) sx.0 })
      sa.itself))

  assigned_by_typed : (at : Place) (a b : Operand) (s : Option HandleSite) → Typed a → Typed b
      → IfOk (assigned_by ancestors at a b s) Typed
  assigned_by_typed at a b None sa sb = store_typed at a b sa sb
  assigned_by_typed at a b (Some s) sa sb = reseated_typed a b sa sb

  compound_typed : (op : Operator) (place : Place) (x : t.Site) (q r : Primitive) (b : Operand) → Stored Number x → Typed b
      → IfOk (compound_in ancestors op place x q r b) Typed
  compound_typed op place x q r b sx sb =
      fit_one (type.Plain r) b _ sb (λ y sy. num _ _ _ (changed_typed z ms m locals x q r op y sx sy.tree))

  compound_arithmetic_typed : (op : Operator) (a b : Operand) → Typed a → Typed b → IfOk (compounded common_type ancestors op a b) Typed
  unfolding compounded
  compound_arithmetic_typed op a b sa sb =
      holds (Stored (T a.ty)) Typed (target a) _ (target_typed z ms m locals a sa)
      (λ x sx. with_number Typed a _ (λ q is. with_integer Typed b _
      (λ r. compound_typed op a.place x q (common_type q r) b (subst (λ s. Stored s x) is sx) sb)))

  compound_shift_typed : (op : Operator) (a b : Operand) → Typed a → Typed b → IfOk (compounded shift_type ancestors op a b) Typed
  unfolding compounded
  compound_shift_typed op a b sa sb =
      holds (Stored (T a.ty)) Typed (target a) _ (target_typed z ms m locals a sa)
      (λ x sx. with_number Typed a _ (λ q is. with_integer Typed b _
      (λ r. compound_typed op a.place x q (raised_type q) b (subst (λ s. Stored s x) is sx) sb)))

  assignment_by_typed : (at : Place) (w : Option IntegerOperator) (a b : Operand) → Typed a → Typed b
      → IfOk (assignment_by ancestors at w a b) Typed
  assignment_by_typed at None a b sa sb = assigned_by_typed at a b a.seat sa sb
  assignment_by_typed at (Some (work.Arithmetic op)) a b sa sb = compound_arithmetic_typed op a b sa sb
  assignment_by_typed at (Some (work.Shift op)) a b sa sb = compound_shift_typed op a b sa sb

  pub assignment_typed : (a : Operand) (op : Token) (b : Operand) → operands.TypedOperand z ms m locals a → operands.TypedOperand z ms m locals b
      → IfOk (assignment_typing ancestors a op b) (operands.TypedOperand z ms m locals)
  unfolding assignment_typing
  assignment_typed a op b sa sb = assignment_by_typed op.place (compound_operator op.kind) a b sa sb

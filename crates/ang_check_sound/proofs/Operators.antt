-- The tree that an operator makes is sound where those of its operands are.
use Rattle.std.specs.Prelude.{◌≡◌, ℕ, zero, suc, ◌==◌, Bool, true, false, if◌then◌else◌, List, Option, Some, None, IfSome, Ok, Err, IfOk}
use Rattle.std.proofs.Common.{refl}
use Rattle.ang_kinds.specs.declared.error.ErrorKind.TheVariants as why
use Rattle.ang_kinds.specs.declared.place.Place.{Place}
use Rattle.ang_kinds.specs.declared.primitive.Primitive.{Primitive}
use Rattle.ang_kinds.specs.declared.primitive.Primitive.TheVariants as p
use Rattle.ang_lex.specs.declared.token.Token.{Token}
use Rattle.ang_lex.specs.declared.token.TokenKind.{TokenKind}
use Rattle.ang_lex.specs.declared.token.TokenKind.TheVariants as k
use Rattle.ang_types.specs.declared.arg_type.ArgType.{ArgType}
use Rattle.ang_types.specs.declared.arg_type.ArgType.TheVariants as type
use Rattle.ang_types.specs.Integers.{common_type}
use Rattle.ang_types.specs.Ranks.{Ancestors, rank_of}
use Rattle.ang_typed.specs.declared.expression.TypedMember.{TypedMember}
use Rattle.ang_kinds.specs.declared.operator.Operator.{Operator}
use Rattle.ang_kinds.specs.declared.operator.Comparison.{Comparison}
use Rattle.ang_kinds.specs.declared.operator.Comparison.TheVariants as cmp
use Rattle.ang_typed.specs.declared.expression.StepKind.{StepKind}
use Rattle.ang_typed.specs.declared.expression.StepKind.TheVariants as step
use Rattle.ang_typed.specs.declared.expression.TypedVariable.{TypedVariable}
use Rattle.ang_typed.specs.Typed as t
use Rattle.ang_check_operators.specs.declared.operand.HandleSite.{HandleSite}
use Rattle.ang_check_operators.specs.declared.operand.SiteUse.{SiteUse}
use Rattle.ang_lex.specs.declared.operators.OperatorForm.{OperatorForm}
use Rattle.ang_lex.specs.declared.operators.OperatorForm.TheVariants as form
use Rattle.ang_lex.specs.declared.operators.IntegerOperator.{IntegerOperator}
use Rattle.ang_lex.specs.declared.operators.IntegerOperator.TheVariants as work
use Rattle.ang_check_operators.specs.Operands.{Operand, operand, reading, conversion, fit_by, fit, integer, number, truth_in, truth, identity_in, identity, object_of, site_in, site_or, target_by, target, seat_by, seat}
use Rattle.ang_check_operators.specs.Refusals.{Typing, ◌>>=◌, refused}
use Rattle.ang_lex.specs.Operators.{binary_operator, compound_operator, form_of}
use Rattle.ang_check_operators.specs.Operations.{literal_by, literal_typing, raised_type, worked_in, worked, shift_type, tested, compared_in, order, equality_by, equality, formed, binary_typing, of_raised, opposite, seat_of, handle_in, handle_typing, stepped, prefix_by, prefix_typing, postfix_by, postfix_typing, converted_by, convert_typing, inside, group_typing, choice_as, choice_of_integers, stands_for, choice_of, choice_of_objects, choice_of_enumerations, choice_by, choice, conditional_typing, assign_in, assigned, reseated, assigned_by, compound_in, compounded, assignment_by, assignment_typing}
use Rattle.ang_source.specs.Sound.{Module, IsVariable, IsStored, IsMember, IsStoredMember, Sound}
use Rattle.ang_check_sound.proofs.Judged.{holds, either_holds, any}

-- In a module, where n locals are alive:
module _ (M : Module) (n : ℕ) where
  -- a site that is stored into
  abbrev pub IsStoredSite : t.Site → Type 0
  IsStoredSite (t.named x) = IsStored M n x
  IsStoredSite (t.member_of o a) = IsStoredMember M a × Sound M n o

  -- The site that a tree reads may be stored into where it is not `const`.
  abbrev pub IsTargeted : Option SiteUse → t.Expr → Type 0
  IsTargeted None e = Unit {0}
  IsTargeted (Some x) e = x.read_only ≡ false → IfSome (site_in e) IsStoredSite

  -- The same of the site after `@`.
  abbrev pub IsSeated : Option HandleSite → t.Expr → Type 0
  IsSeated None e = Unit {0}
  IsSeated (Some s) e = IsTargeted (Some s.target) e

  -- what was typed
  pub record SoundOperand (a : Operand) : Type 0 where
    pub tree : Sound M n a.tree
    pub target : IsTargeted a.target a.tree
    pub seat : IsSeated a.seat a.tree

  pub no_site : (place : Place) (ty : ArgType) (e : t.Expr) → Sound M n e → SoundOperand (operand place ty e)
  no_site place ty e s = record { tree = s; target = tt; seat = tt }

  -- a variable by its bare name
  pub read_sound : (place : Place) (x : TypedVariable) (ty : ArgType) (how : SiteUse) → IsVariable M n x
      → (how.read_only ≡ false → IsStored M n x) → SoundOperand (reading place (t.named x) ty how)
  read_sound place x ty how s stored = record { tree = s; target = stored; seat = tt }

  -- a member of a sound object
  pub member_sound : (place : Place) (o : t.Expr) (m : TypedMember) (ty : ArgType) (how : SiteUse) → Sound M n o → IsMember M m
      → (how.read_only ≡ false → IsStoredMember M m) → SoundOperand (reading place (t.member_of o m) ty how)
  member_sound place o m ty how so sm stored = record { tree = (sm, so); target = λ writable. (stored writable, so); seat = tt }

  -- what is stored into a site
  assign_sound : (x : t.Site) (ty : ArgType) (e : t.Expr) → IsStoredSite x → Sound M n e → Sound M n (t.assign x ty e)
  assign_sound (t.named x) ty e sx se = (sx, se)
  assign_sound (t.member_of o a) ty e sx se = (sx.0, sx.1, se)

  change_sound : (x : t.Site) (q r : Primitive) (op : Operator) (e : t.Expr) → IsStoredSite x → Sound M n e → Sound M n (t.compound x q op r e)
  change_sound (t.named x) q r op e sx se = (sx, se)
  change_sound (t.member_of o a) q r op e sx se = (sx.0, sx.1, se)

  step_sound : (x : t.Site) (q : Primitive) (kind : StepKind) → IsStoredSite x → Sound M n (t.step x q kind)
  step_sound (t.named x) q kind sx = sx
  step_sound (t.member_of o a) q kind sx = sx

  -- ---- parts of operations

  convert_sound : (from to : ArgType) (e : t.Expr) → Sound M n e → Sound M n (conversion from to e)
  convert_sound type.Void to e s = s
  convert_sound type.Null to e s = s
  convert_sound (type.Plain p) type.Void e s = s
  convert_sound (type.Plain p) type.Null e s = s
  convert_sound (type.Plain p) (type.Plain q) e s = s
  convert_sound (type.Plain p) (type.Enumeration m) e s = s
  convert_sound (type.Plain p) (type.Object m c) e s = s
  convert_sound (type.Plain p) (type.Handle m c) e s = s
  convert_sound (type.Enumeration m) type.Void e s = s
  convert_sound (type.Enumeration m) type.Null e s = s
  convert_sound (type.Enumeration m) (type.Plain q) e s = s
  convert_sound (type.Enumeration m) (type.Enumeration k) e s = s
  convert_sound (type.Enumeration m) (type.Object k c) e s = s
  convert_sound (type.Enumeration m) (type.Handle k c) e s = s
  convert_sound (type.Object m c) to e s = s
  convert_sound (type.Handle m c) to e s = s

  fit_by_sound : (rank : Option ℕ) (ty : ArgType) (a : Operand) → SoundOperand a → IfOk (fit_by rank ty a) (Sound M n)
  fit_by_sound None ty a s = tt
  fit_by_sound (Some zero) ty a s = s.tree
  fit_by_sound (Some (suc r)) ty a s = convert_sound a.ty ty a.tree s.tree

  pub fit_sound : (ancestors : Ancestors) (ty : ArgType) (a : Operand) → SoundOperand a → IfOk (fit ancestors ty a) (Sound M n)
  unfolding fit
  fit_sound ancestors ty a s = fit_by_sound (rank_of ancestors a.ty ty) ty a s

  truth_in_sound : (ty : ArgType) (a : Operand) → SoundOperand a → IfOk (truth_in a ty) (Sound M n)
  truth_in_sound (type.Plain p.Bool) a s = s.tree
  truth_in_sound _ a s = tt

  pub truth_sound : (a : Operand) → SoundOperand a → IfOk (truth a) (Sound M n)
  unfolding truth
  truth_sound a s = truth_in_sound a.ty a s

  site_sound : (place : Place) (x : Option t.Site) → IfSome x IsStoredSite → IfOk (site_or place x) IsStoredSite
  site_sound place None s = tt
  site_sound place (Some x) s = s

  stored_there : (place : Place) (x : SiteUse) (b : Bool) (e : t.Expr) → x.read_only ≡ b → IsTargeted (Some x) e
      → IfOk (if b then Err (refused why.Const x.name) else site_or place (site_in e)) IsStoredSite
  stored_there place x true e is s = tt
  stored_there place x false e is s = site_sound place (site_in e) (s is)

  target_by_sound : (place : Place) (x : Option SiteUse) (e : t.Expr) → IsTargeted x e → IfOk (target_by place x e) IsStoredSite
  target_by_sound place None e s = tt
  target_by_sound place (Some x) e s = stored_there place x x.read_only e refl s

  pub target_sound : (a : Operand) → SoundOperand a → IfOk (target a) IsStoredSite
  unfolding target
  target_sound a s = target_by_sound a.place a.target a.tree s.target

  seat_by_sound : (place : Place) (x : Option HandleSite) (e : t.Expr) → IsSeated x e → IfOk (seat_by place x e) IsStoredSite
  seat_by_sound place None e s = tt
  seat_by_sound place (Some x) e s = either_holds IsStoredSite x.is_object _ _ tt (target_by_sound place (Some x.target) e s)

  pub seat_sound : (a : Operand) → SoundOperand a → IfOk (seat a) IsStoredSite
  unfolding seat
  seat_sound a s = seat_by_sound a.place a.seat a.tree s.seat

  identity_by_sound : (ty : ArgType) (a : Operand) → SoundOperand a → IfOk (identity_in a ty) (Sound M n)
  identity_by_sound type.Void a s = tt
  identity_by_sound type.Null a s = s.tree
  identity_by_sound (type.Plain q) a s = tt
  identity_by_sound (type.Enumeration m) a s = tt
  identity_by_sound (type.Object m c) a s = s.tree
  identity_by_sound (type.Handle m c) a s = s.tree

  identity_sound : (a : Operand) → SoundOperand a → IfOk (identity a) (Sound M n)
  unfolding identity
  identity_sound a s = identity_by_sound a.ty a s

  -- what comes of an integer's type
  with_integer : {B : Type 0} (Q : B → Type 0) (a : Operand) (f : Primitive → Typing B) → ((q : Primitive) → IfOk (f q) Q) → IfOk (integer a >>= f) Q
  with_integer Q a f g = holds (λ q. Unit {0}) Q (integer a) f (any (integer a)) (λ q h. g q)

  -- and of one that is changed in place
  with_number : {B : Type 0} (Q : B → Type 0) (a : Operand) (f : Primitive → Typing B) → ((q : Primitive) → IfOk (f q) Q) → IfOk (number a >>= f) Q
  with_number Q a f g = holds (λ q. Unit {0}) Q (number a) f (any (number a)) (λ q h. g q)

  -- two operands in one type, and what is made of them
  fit_two : (ancestors : Ancestors) (r : ArgType) (a b : Operand) (f : t.Expr → t.Expr → Typing Operand) → SoundOperand a → SoundOperand b
      → ((x y : t.Expr) → Sound M n x → Sound M n y → IfOk (f x y) SoundOperand)
      → IfOk (fit ancestors r a >>= (λ x. fit ancestors r b >>= (λ y. f x y))) SoundOperand
  fit_two ancestors r a b f sa sb g =
      holds (Sound M n) SoundOperand (fit ancestors r a) (λ x. fit ancestors r b >>= (λ y. f x y)) (fit_sound ancestors r a sa)
      (λ x sx. holds (Sound M n) SoundOperand (fit ancestors r b) (λ y. f x y) (fit_sound ancestors r b sb) (λ y sy. g x y sx sy))

  truth_two : (a b : Operand) (f : t.Expr → t.Expr → Typing Operand) → SoundOperand a → SoundOperand b
      → ((x y : t.Expr) → Sound M n x → Sound M n y → IfOk (f x y) SoundOperand)
      → IfOk (truth a >>= (λ x. truth b >>= (λ y. f x y))) SoundOperand
  truth_two a b f sa sb g =
      holds (Sound M n) SoundOperand (truth a) (λ x. truth b >>= (λ y. f x y)) (truth_sound a sa)
      (λ x sx. holds (Sound M n) SoundOperand (truth b) (λ y. f x y) (truth_sound b sb) (λ y sy. g x y sx sy))

  -- ---- literals

  literal_by_sound : (x : Token) (text : List ℕ) (kind : TokenKind) → IfOk (literal_by x text kind) SoundOperand
  literal_by_sound x text k.Number = no_site _ _ _ tt
  literal_by_sound x text k.True = no_site _ _ _ tt
  literal_by_sound x text k.False = no_site _ _ _ tt
  literal_by_sound x text k.Null = no_site _ _ _ tt
  literal_by_sound x text _ = tt

  pub literal_sound : (x : Token) (text : List ℕ) → IfOk (literal_typing x text) SoundOperand
  unfolding literal_typing
  literal_sound x text = literal_by_sound x text x.kind

  -- ---- two operands

  worked_sound : (ancestors : Ancestors) (r : Primitive) (op : Operator) (a b : Operand) → SoundOperand a → SoundOperand b
      → IfOk (worked_in ancestors r op a b) SoundOperand
  worked_sound ancestors r op a b sa sb =
      fit_two ancestors (type.Plain r) a b (λ x y. Ok (operand a.place (type.Plain r) (t.operate op r x y))) sa sb (λ x y sx sy. no_site _ _ _ (sx, sy))

  compared_sound : (ancestors : Ancestors) (r : Primitive) (c : Comparison) (a b : Operand) → SoundOperand a → SoundOperand b
      → IfOk (compared_in ancestors r c a b) SoundOperand
  compared_sound ancestors r c a b sa sb =
      fit_two ancestors (type.Plain r) a b (λ x y. Ok (operand a.place (type.Plain p.Bool) (t.compare c r x y))) sa sb (λ x y sx sy. no_site _ _ _ (sx, sy))

  arithmetic_sound : (ancestors : Ancestors) (op : Operator) (a b : Operand) → SoundOperand a → SoundOperand b → IfOk (worked common_type ancestors op a b) SoundOperand
  unfolding worked
  arithmetic_sound ancestors op a b sa sb =
      with_integer SoundOperand a _ (λ q. with_integer SoundOperand b _ (λ r. worked_sound ancestors (common_type q r) op a b sa sb))

  shift_sound : (ancestors : Ancestors) (op : Operator) (a b : Operand) → SoundOperand a → SoundOperand b → IfOk (worked shift_type ancestors op a b) SoundOperand
  unfolding worked
  shift_sound ancestors op a b sa sb =
      with_integer SoundOperand a _ (λ q. with_integer SoundOperand b _ (λ r. worked_sound ancestors (raised_type q) op a b sa sb))

  order_sound : (ancestors : Ancestors) (c : Comparison) (a b : Operand) → SoundOperand a → SoundOperand b → IfOk (order ancestors c a b) SoundOperand
  unfolding order
  order_sound ancestors c a b sa sb =
      with_integer SoundOperand a _ (λ q. with_integer SoundOperand b _ (λ r. compared_sound ancestors (common_type q r) c a b sa sb))

  equality_by_sound : (ancestors : Ancestors) (c : Comparison) (a b : Operand) (ty : ArgType) → SoundOperand a → SoundOperand b
      → IfOk (equality_by ancestors c a b ty) SoundOperand
  equality_by_sound ancestors c a b (type.Plain p.Bool) sa sb = compared_sound ancestors p.Bool c a b sa sb
  equality_by_sound ancestors c a b _ sa sb = order_sound ancestors c a b sa sb

  equality_sound : (ancestors : Ancestors) (c : Comparison) (a b : Operand) → SoundOperand a → SoundOperand b → IfOk (equality ancestors c a b) SoundOperand
  unfolding equality
  equality_sound ancestors c a b sa sb = equality_by_sound ancestors c a b a.ty sa sb

  conjunction_sound : (a b : Operand) → SoundOperand a → SoundOperand b → IfOk (tested truth t.and a b) SoundOperand
  conjunction_sound a b sa sb =
      truth_two a b (λ x y. Ok (operand a.place (type.Plain p.Bool) (t.and x y))) sa sb (λ x y sx sy. no_site _ _ _ (sx, sy))

  disjunction_sound : (a b : Operand) → SoundOperand a → SoundOperand b → IfOk (tested truth t.or a b) SoundOperand
  disjunction_sound a b sa sb =
      truth_two a b (λ x y. Ok (operand a.place (type.Plain p.Bool) (t.or x y))) sa sb (λ x y sx sy. no_site _ _ _ (sx, sy))

  exclusion_sound : (a b : Operand) → SoundOperand a → SoundOperand b → IfOk (tested truth (t.compare cmp.NotEqual p.Bool) a b) SoundOperand
  exclusion_sound a b sa sb =
      truth_two a b (λ x y. Ok (operand a.place (type.Plain p.Bool) (t.compare cmp.NotEqual p.Bool x y))) sa sb (λ x y sx sy. no_site _ _ _ (sx, sy))

  identity_two : (a b : Operand) (f : t.Expr → t.Expr → Typing Operand) → SoundOperand a → SoundOperand b
      → ((x y : t.Expr) → Sound M n x → Sound M n y → IfOk (f x y) SoundOperand)
      → IfOk (identity a >>= (λ x. identity b >>= (λ y. f x y))) SoundOperand
  identity_two a b f sa sb g =
      holds (Sound M n) SoundOperand (identity a) (λ x. identity b >>= (λ y. f x y)) (identity_sound a sa)
      (λ x sx. holds (Sound M n) SoundOperand (identity b) (λ y. f x y) (identity_sound b sb) (λ y sy. g x y sx sy))

  sameness_sound : (a b : Operand) → SoundOperand a → SoundOperand b → IfOk (tested identity t.same a b) SoundOperand
  sameness_sound a b sa sb =
      identity_two a b (λ x y. Ok (operand a.place (type.Plain p.Bool) (t.same x y))) sa sb (λ x y sx sy. no_site _ _ _ (sx, sy))

  difference_sound : (a b : Operand) → SoundOperand a → SoundOperand b → IfOk (tested identity (λ x y. t.not (t.same x y)) a b) SoundOperand
  difference_sound a b sa sb =
      identity_two a b (λ x y. Ok (operand a.place (type.Plain p.Bool) (t.not (t.same x y)))) sa sb (λ x y sx sy. no_site _ _ _ (sx, sy))

  formed_sound : (ancestors : Ancestors) (f : Option OperatorForm) (a b : Operand) → SoundOperand a → SoundOperand b → IfOk (formed ancestors f a b) SoundOperand
  formed_sound ancestors None a b sa sb = tt
  formed_sound ancestors (Some (form.Integers (work.Arithmetic op))) a b sa sb = arithmetic_sound ancestors op a b sa sb
  formed_sound ancestors (Some (form.Integers (work.Shift op))) a b sa sb = shift_sound ancestors op a b sa sb
  formed_sound ancestors (Some (form.Order c)) a b sa sb = order_sound ancestors c a b sa sb
  formed_sound ancestors (Some (form.Equality c)) a b sa sb = equality_sound ancestors c a b sa sb
  formed_sound ancestors (Some form.And) a b sa sb = conjunction_sound a b sa sb
  formed_sound ancestors (Some form.Or) a b sa sb = disjunction_sound a b sa sb
  formed_sound ancestors (Some form.Xor) a b sa sb = exclusion_sound a b sa sb
  formed_sound ancestors (Some form.Same) a b sa sb = sameness_sound a b sa sb
  formed_sound ancestors (Some form.Differ) a b sa sb = difference_sound a b sa sb

  pub binary_sound : (ancestors : Ancestors) (a : Operand) (op : TokenKind) (b : Operand) → SoundOperand a → SoundOperand b
      → IfOk (binary_typing ancestors a op b) SoundOperand
  unfolding binary_typing
  binary_sound ancestors a op b sa sb = formed_sound ancestors (form_of (binary_operator op)) a b sa sb

  -- ---- one operand

  fit_one : (ancestors : Ancestors) (r : ArgType) (a : Operand) (f : t.Expr → Typing Operand) → SoundOperand a
      → ((x : t.Expr) → Sound M n x → IfOk (f x) SoundOperand) → IfOk (fit ancestors r a >>= f) SoundOperand
  fit_one ancestors r a f sa g = holds (Sound M n) SoundOperand (fit ancestors r a) f (fit_sound ancestors r a sa) g

  negated_sound : (ancestors : Ancestors) (place : Place) (a : Operand) → SoundOperand a → IfOk (of_raised t.negate ancestors place a) SoundOperand
  unfolding of_raised
  negated_sound ancestors place a sa =
      with_integer SoundOperand a _ (λ q. fit_one ancestors (type.Plain (raised_type q)) a _ sa (λ x sx. no_site _ _ _ sx))

  complemented_sound : (ancestors : Ancestors) (place : Place) (a : Operand) → SoundOperand a → IfOk (of_raised t.complement ancestors place a) SoundOperand
  unfolding of_raised
  complemented_sound ancestors place a sa =
      with_integer SoundOperand a _ (λ q. fit_one ancestors (type.Plain (raised_type q)) a _ sa (λ x sx. no_site _ _ _ sx))

  raised_sound : (ancestors : Ancestors) (place : Place) (a : Operand) → SoundOperand a → IfOk (of_raised (λ r x. x) ancestors place a) SoundOperand
  unfolding of_raised
  raised_sound ancestors place a sa =
      with_integer SoundOperand a _ (λ q. fit_one ancestors (type.Plain (raised_type q)) a _ sa (λ x sx. no_site _ _ _ sx))

  opposite_sound : (place : Place) (a : Operand) → SoundOperand a → IfOk (opposite place a) SoundOperand
  unfolding opposite
  opposite_sound place a sa = holds (Sound M n) SoundOperand (truth a) _ (truth_sound a sa) (λ x sx. no_site _ _ _ sx)

  stepped_sound : (kind : StepKind) (place : Place) (a : Operand) → SoundOperand a → IfOk (stepped kind place a) SoundOperand
  unfolding stepped
  stepped_sound kind place a sa =
      holds IsStoredSite SoundOperand (target a) _ (target_sound a sa)
      (λ x sx. with_number SoundOperand a _ (λ q. no_site _ _ _ (step_sound x q kind sx)))

  seated : (is_object : Bool) (x : Option SiteUse) (e : t.Expr) → IsTargeted x e → IsSeated (seat_of is_object x) e
  seated is_object None e s = tt
  seated is_object (Some x) e s = s

  handle_by_sound : (place : Place) (a : Operand) (ty : ArgType) → SoundOperand a → IfOk (handle_in place a ty) SoundOperand
  handle_by_sound place a type.Void sa = tt
  handle_by_sound place a type.Null sa = no_site _ _ _ sa.tree
  handle_by_sound place a (type.Plain q) sa = tt
  handle_by_sound place a (type.Enumeration m) sa = tt
  handle_by_sound place a (type.Object m c) sa = record { tree = sa.tree; target = tt; seat = seated true a.target a.tree sa.target }
  handle_by_sound place a (type.Handle m c) sa = record { tree = sa.tree; target = tt; seat = seated false a.target a.tree sa.target }

  handle_sound : (place : Place) (a : Operand) → SoundOperand a → IfOk (handle_typing place a) SoundOperand
  unfolding handle_typing
  handle_sound place a sa = handle_by_sound place a a.ty sa

  prefix_by_sound : (ancestors : Ancestors) (op : Token) (kind : TokenKind) (a : Operand) → SoundOperand a → IfOk (prefix_by ancestors op kind a) SoundOperand
  prefix_by_sound ancestors op k.Not a sa = opposite_sound op.place a sa
  prefix_by_sound ancestors op k.Minus a sa = negated_sound ancestors op.place a sa
  prefix_by_sound ancestors op k.Plus a sa = raised_sound ancestors op.place a sa
  prefix_by_sound ancestors op k.Tilde a sa = complemented_sound ancestors op.place a sa
  prefix_by_sound ancestors op k.Increment a sa = stepped_sound step.IncrementBefore op.place a sa
  prefix_by_sound ancestors op k.Decrement a sa = stepped_sound step.DecrementBefore op.place a sa
  prefix_by_sound ancestors op k.At a sa = handle_sound op.place a sa
  prefix_by_sound ancestors op _ a sa = tt

  pub prefix_sound : (ancestors : Ancestors) (op : Token) (a : Operand) → SoundOperand a → IfOk (prefix_typing ancestors op a) SoundOperand
  unfolding prefix_typing
  prefix_sound ancestors op a sa = prefix_by_sound ancestors op op.kind a sa

  postfix_by_sound : (kind : TokenKind) (a : Operand) → SoundOperand a → IfOk (postfix_by kind a) SoundOperand
  postfix_by_sound k.Increment a sa = stepped_sound step.IncrementAfter a.place a sa
  postfix_by_sound k.Decrement a sa = stepped_sound step.DecrementAfter a.place a sa
  postfix_by_sound _ a sa = tt

  pub postfix_sound : (a : Operand) (kind : TokenKind) → SoundOperand a → IfOk (postfix_typing a kind) SoundOperand
  unfolding postfix_typing
  postfix_sound a kind sa = postfix_by_sound kind a sa

  converted_by_sound : (ancestors : Ancestors) (word : Token) (kind : TokenKind) (a : Operand) → SoundOperand a
      → IfOk (converted_by ancestors word kind a) SoundOperand
  converted_by_sound ancestors word (k.Primitive q) a sa = fit_one ancestors (type.Plain q) a _ sa (λ x sx. no_site _ _ _ sx)
  converted_by_sound ancestors word _ a sa = tt

  pub converted_sound : (ancestors : Ancestors) (word : Token) (a : Operand) → SoundOperand a → IfOk (convert_typing ancestors word a) SoundOperand
  unfolding convert_typing
  converted_sound ancestors word a sa = converted_by_sound ancestors word word.kind a sa

  inside_targeted : (x : Option SiteUse) (e : t.Expr) → IsTargeted x e → IsTargeted (inside x) e
  inside_targeted None e s = tt
  inside_targeted (Some x) e s = s

  pub group_sound : (place : Place) (a : Operand) → SoundOperand a → SoundOperand (group_typing place a)
  group_sound place a sa = record { tree = sa.tree; target = inside_targeted a.target a.tree sa.target; seat = tt }

  -- ---- `?:`

  chosen_sound : (ancestors : Ancestors) (ty : ArgType) (place : Place) (c : t.Expr) (a b : Operand) → Sound M n c → SoundOperand a → SoundOperand b
      → IfOk (choice_as ancestors ty place c a b) SoundOperand
  chosen_sound ancestors ty place c a b sc sa sb =
      fit_two ancestors ty a b (λ x y. Ok (operand place ty (t.choose c x y))) sa sb (λ x y sx sy. no_site _ _ _ (sc, sx, sy))

  integers_sound : (ancestors : Ancestors) (place : Place) (c : t.Expr) (a b : Operand) → Sound M n c → SoundOperand a → SoundOperand b
      → IfOk (choice_of_integers ancestors place c a b) SoundOperand
  integers_sound ancestors place c a b sc sa sb =
      with_integer SoundOperand a _ (λ q. with_integer SoundOperand b _ (λ r. chosen_sound ancestors (type.Plain (common_type q r)) place c a b sc sa sb))

  one_of_two_sound : (ancestors : Ancestors) (place : Place) (c : t.Expr) (a b : Operand) → Sound M n c → SoundOperand a → SoundOperand b
      → IfOk (choice_of ancestors place c a b) SoundOperand
  one_of_two_sound ancestors place c a b sc sa sb =
      either_holds SoundOperand (stands_for ancestors b.ty a.ty) _ _ (chosen_sound ancestors a.ty place c a b sc sa sb)
      (either_holds SoundOperand (stands_for ancestors a.ty b.ty) _ _ (chosen_sound ancestors b.ty place c a b sc sa sb) tt)

  objects_sound : (ancestors : Ancestors) (place : Place) (c : t.Expr) (a b : Operand) (o : Option (ℕ × Bool)) → Sound M n c → SoundOperand a → SoundOperand b
      → IfOk (choice_of_objects ancestors place c a b o) SoundOperand
  objects_sound ancestors place c a b None sc sa sb = tt
  objects_sound ancestors place c a b (Some x) sc sa sb = one_of_two_sound ancestors place c a b sc sa sb

  enumerations_sound : (ancestors : Ancestors) (place : Place) (c : t.Expr) (a b : Operand) (m : ℕ) (ty : ArgType) → Sound M n c → SoundOperand a → SoundOperand b
      → IfOk (choice_of_enumerations ancestors place c a b m ty) SoundOperand
  enumerations_sound ancestors place c a b m (type.Enumeration k) sc sa sb =
      either_holds SoundOperand (m == k) _ _ (chosen_sound ancestors (type.Enumeration m) place c a b sc sa sb) (integers_sound ancestors place c a b sc sa sb)
  enumerations_sound ancestors place c a b m _ sc sa sb = integers_sound ancestors place c a b sc sa sb

  choice_by_sound : (ancestors : Ancestors) (place : Place) (c : t.Expr) (a b : Operand) (ty : ArgType) → Sound M n c → SoundOperand a → SoundOperand b
      → IfOk (choice_by ancestors place c a b ty) SoundOperand
  choice_by_sound ancestors place c a b (type.Plain p.Bool) sc sa sb = chosen_sound ancestors (type.Plain p.Bool) place c a b sc sa sb
  choice_by_sound ancestors place c a b (type.Enumeration m) sc sa sb = enumerations_sound ancestors place c a b m b.ty sc sa sb
  choice_by_sound ancestors place c a b (type.Object m r) sc sa sb = objects_sound ancestors place c a b (object_of b.ty) sc sa sb
  choice_by_sound ancestors place c a b (type.Handle m r) sc sa sb = objects_sound ancestors place c a b (object_of b.ty) sc sa sb
  choice_by_sound ancestors place c a b _ sc sa sb = integers_sound ancestors place c a b sc sa sb

  choice_sound : (ancestors : Ancestors) (place : Place) (c : t.Expr) (a b : Operand) → Sound M n c → SoundOperand a → SoundOperand b
      → IfOk (choice ancestors place c a b) SoundOperand
  unfolding choice
  choice_sound ancestors place c a b sc sa sb = choice_by_sound ancestors place c a b a.ty sc sa sb

  pub conditional_sound : (ancestors : Ancestors) (c a b : Operand) → SoundOperand c → SoundOperand a → SoundOperand b
      → IfOk (conditional_typing ancestors c a b) SoundOperand
  unfolding conditional_typing
  conditional_sound ancestors c a b sc sa sb =
      holds (Sound M n) SoundOperand (truth c) _ (truth_sound c sc) (λ x sx. choice_sound ancestors c.place x a b sx sa sb)

  -- ---- assignments

  assign_in_sound : (ancestors : Ancestors) (at place : Place) (x : t.Site) (b : Operand) (ty : ArgType) → IsStoredSite x → SoundOperand b
      → IfOk (assign_in ancestors at place x b ty) SoundOperand
  assign_in_sound ancestors at place x b (type.Plain q) sx sb =
      fit_one ancestors (type.Plain q) b _ sb (λ y sy. no_site _ _ _ (assign_sound x (type.Plain q) y sx sy))
  assign_in_sound ancestors at place x b (type.Enumeration m) sx sb =
      fit_one ancestors (type.Enumeration m) b _ sb (λ y sy. no_site _ _ _ (assign_sound x (type.Enumeration m) y sx sy))
  assign_in_sound ancestors at place x b _ sx sb = tt

  assigned_sound : (ancestors : Ancestors) (at : Place) (a b : Operand) → SoundOperand a → SoundOperand b → IfOk (assigned ancestors at a b) SoundOperand
  unfolding assigned
  assigned_sound ancestors at a b sa sb =
      holds IsStoredSite SoundOperand (target a) _ (target_sound a sa) (λ x sx. assign_in_sound ancestors at a.place x b a.ty sx sb)

  reseated_sound : (ancestors : Ancestors) (a b : Operand) → SoundOperand a → SoundOperand b → IfOk (reseated ancestors a b) SoundOperand
  unfolding reseated
  reseated_sound ancestors a b sa sb =
      holds IsStoredSite SoundOperand (seat a) _ (seat_sound a sa)
      (λ x sx. fit_one ancestors a.ty b _ sb (λ y sy. no_site _ _ _ (assign_sound x a.ty y sx sy)))

  assigned_by_sound : (ancestors : Ancestors) (at : Place) (a b : Operand) (s : Option HandleSite) → SoundOperand a → SoundOperand b
      → IfOk (assigned_by ancestors at a b s) SoundOperand
  assigned_by_sound ancestors at a b None sa sb = assigned_sound ancestors at a b sa sb
  assigned_by_sound ancestors at a b (Some s) sa sb = reseated_sound ancestors a b sa sb

  compound_sound : (ancestors : Ancestors) (op : Operator) (place : Place) (x : t.Site) (q r : Primitive) (b : Operand) → IsStoredSite x → SoundOperand b
      → IfOk (compound_in ancestors op place x q r b) SoundOperand
  compound_sound ancestors op place x q r b sx sb =
      fit_one ancestors (type.Plain r) b _ sb (λ y sy. no_site _ _ _ (change_sound x q r op y sx sy))

  compound_arithmetic_sound : (ancestors : Ancestors) (op : Operator) (a b : Operand) → SoundOperand a → SoundOperand b
      → IfOk (compounded common_type ancestors op a b) SoundOperand
  unfolding compounded
  compound_arithmetic_sound ancestors op a b sa sb =
      holds IsStoredSite SoundOperand (target a) _ (target_sound a sa)
      (λ x sx. with_number SoundOperand a _ (λ q. with_integer SoundOperand b _ (λ r. compound_sound ancestors op a.place x q (common_type q r) b sx sb)))

  compound_shift_sound : (ancestors : Ancestors) (op : Operator) (a b : Operand) → SoundOperand a → SoundOperand b
      → IfOk (compounded shift_type ancestors op a b) SoundOperand
  unfolding compounded
  compound_shift_sound ancestors op a b sa sb =
      holds IsStoredSite SoundOperand (target a) _ (target_sound a sa)
      (λ x sx. with_number SoundOperand a _ (λ q. with_integer SoundOperand b _ (λ r. compound_sound ancestors op a.place x q (raised_type q) b sx sb)))

  assignment_by_sound : (ancestors : Ancestors) (at : Place) (w : Option IntegerOperator) (a b : Operand) → SoundOperand a → SoundOperand b
      → IfOk (assignment_by ancestors at w a b) SoundOperand
  assignment_by_sound ancestors at None a b sa sb = assigned_by_sound ancestors at a b a.seat sa sb
  assignment_by_sound ancestors at (Some (work.Arithmetic op)) a b sa sb = compound_arithmetic_sound ancestors op a b sa sb
  assignment_by_sound ancestors at (Some (work.Shift op)) a b sa sb = compound_shift_sound ancestors op a b sa sb

  pub assignment_sound : (ancestors : Ancestors) (a : Operand) (op : Token) (b : Operand) → SoundOperand a → SoundOperand b
      → IfOk (assignment_typing ancestors a op b) SoundOperand
  unfolding assignment_typing
  assignment_sound ancestors a op b sa sb = assignment_by_sound ancestors op.place (compound_operator op.kind) a b sa sb

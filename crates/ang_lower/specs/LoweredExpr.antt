-- The core tree of an expression of the resolved tree (docs/CLAIMS.md, "What a script means" and "What a body does"), where n locals are alive. A local of
-- the resolved tree is numbered from the outermost one, and one of the core tree from the innermost one.
use Rattle.std.specs.Prelude.{ℕ, suc, ◌-◌, List, [], ◌∷◌, Option, Some, None}
use Rattle.ang_kinds.specs.declared.primitive.Primitive.{Primitive}
use Rattle.ang_types.specs.declared.arg_type.ArgType.{ArgType}
use Rattle.ang_typed.specs.declared.expression.TypedVariable.{TypedVariable}
use Rattle.ang_typed.specs.declared.expression.TypedVariable.TheVariants as variable
use Rattle.ang_typed.specs.declared.expression.TypedMember.{TypedMember}
use Rattle.ang_typed.specs.declared.expression.TypedMember.TheVariants as member
use Rattle.ang_typed.specs.Typed as t
use Rattle.ang_meaning.specs.declared.class.ValueKind.{ValueKind}
use Rattle.ang_meaning.specs.declared.class.ValueKind.TheVariants.{Number, Handle}
use Rattle.ang_meaning.specs.declared.operation.Update.{Update}
use Rattle.ang_meaning.specs.declared.operation.Operation.{Operation}
use Rattle.ang_meaning.specs.declared.operation.Operation.TheVariants.{Binary, Compare, Convert, Negate, Complement, Not, Same, GlobalGet, GlobalSet, GlobalChange, Ask, Read, Write, Alter, Make, FieldGet, FieldSet, FieldChange, Cast}
use Rattle.ang_meaning.specs.declared.routine.Callee.TheVariants.{Own}
use Rattle.ang_meaning.specs.declared.routine.Spot.{Spot}
use Rattle.ang_meaning.specs.declared.routine.Spot.TheVariants as spot
use Rattle.ang_meaning.specs.declared.routine.Target.{Target}
use Rattle.ang_meaning.specs.Numbers.{truth, converted, negated, complemented, denied}
use Rattle.ang_kinds.specs.Primitives.{is_signed}
use Rattle.ang_source.specs.Meaning.{compound_of, step_of, brought_to, kind_of, callee_of}
use Rattle.ang_lower.specs.ExprTree as c

-- ---- operations

abbrev pub unary : Operation → c.Expr → c.Expr
unary o e = c.apply o (c.more e c.none)

abbrev pub binary : Operation → c.Expr → c.Expr → c.Expr
binary o l r = c.apply o (c.more l (c.more r c.none))

-- the number that a tree is, where it is one
abbrev pub number_in : c.Expr → Option ℕ
number_in (c.number x) = Some x
number_in c.null = None
number_in (c.local i) = None
number_in (c.assign i e) = None
number_in (c.change i by e) = None
number_in (c.apply o args) = None
number_in (c.call f args outs) = None
number_in (c.choose a b d) = None

-- the operation that turns each number x into f x, on a number that may be known
abbrev pub folded_to : (ℕ → ℕ) → Operation → c.Expr → Option ℕ → c.Expr
folded_to f o e (Some x) = c.number (f x)
folded_to f o e None = unary o e

-- An operation on a number that the script wrote is the number that it gives.
abbrev pub folded : (ℕ → ℕ) → Operation → c.Expr → c.Expr
folded f o e = folded_to f o e (number_in e)

abbrev pub conversion : Primitive → c.Expr → c.Expr
conversion to e = folded (converted to) (Convert to) e

abbrev pub negation : Primitive → c.Expr → c.Expr
negation ty e = folded (negated ty) (Negate ty) e

abbrev pub complement : Primitive → c.Expr → c.Expr
complement ty e = folded (complemented ty) (Complement ty) e

abbrev pub denial : c.Expr → c.Expr
denial e = folded denied Not e

-- ---- variables

-- `this`, which is local 0
abbrev pub this_at : ℕ → c.Expr
this_at n = c.local (n - suc 0)

abbrev pub read : ℕ → TypedVariable → c.Expr
read n (variable.Local i) = c.local (n - suc i)
read n (variable.Global g) = c.apply (GlobalGet g) c.none
read n (variable.Property h) = c.apply (Read h.entity) c.none
read n (variable.Field i) = unary (FieldGet i) (this_at n)

abbrev pub stored : ℕ → TypedVariable → c.Expr → c.Expr
stored n (variable.Local i) e = c.assign (n - suc i) e
stored n (variable.Global g) e = unary (GlobalSet g) e
stored n (variable.Property h) e = unary (Write h.entity) e
stored n (variable.Field i) e = binary (FieldSet i) e (this_at n)

abbrev pub changed : ℕ → TypedVariable → Update → c.Expr → c.Expr
changed n (variable.Local i) by e = c.change (n - suc i) by e
changed n (variable.Global g) by e = unary (GlobalChange by g) e
changed n (variable.Property h) by e = unary (Alter h.entity by) e
changed n (variable.Field i) by e = binary (FieldChange by i) e (this_at n)

-- where a variable stands that an `&out` value moves into; no host property is one
abbrev pub spot_of : ℕ → TypedVariable → Spot
spot_of n (variable.Local i) = spot.Local (n - suc i)
spot_of n (variable.Global g) = spot.Global g
spot_of n (variable.Property h) = spot.Local 0
spot_of n (variable.Field i) = spot.Field (n - suc 0) i

-- in front of the targets that there are
abbrev pub with_target : ℕ → t.Arg → List Target → List Target
with_target n (t.by_value ty e) found = found
with_target n (t.out x from to) found = record { spot = spot_of n x; to = brought_to to } ∷ found

abbrev pub targets_behind : ℕ → t.Args → List Target → List Target
targets_behind n t.none found = found
targets_behind n (t.more a args) found = targets_behind n args (with_target n a found)

-- The variables that the `&out` values of a call move into; the last one is the first.
abbrev pub targets_of : ℕ → t.Args → List Target
targets_of n args = targets_behind n args []

-- ---- members of objects

-- what reads a member of its operand
abbrev pub reading : TypedMember → Operation
reading (member.Field i) = FieldGet i
reading (member.Property h) = Read h.entity

-- what stores its first operand into a member of the second
abbrev pub writing : TypedMember → Operation
writing (member.Field i) = FieldSet i
writing (member.Property h) = Write h.entity

-- what changes a member of its second operand by the first
abbrev pub altering : TypedMember → Update → Operation
altering (member.Field i) by = FieldChange by i
altering (member.Property h) by = Alter h.entity by

-- ---- expressions

-- what stands for a value of that kind that nobody wrote
abbrev pub initial_by : ValueKind → c.Expr
initial_by Number = c.number 0
initial_by Handle = c.null

-- and for one of that type: 0, false or null
abbrev pub initial : ArgType → c.Expr
initial ty = initial_by (kind_of ty)

-- a new object of a class
abbrev pub made : ℕ → c.Expr
made family = c.apply (Make family) c.none

-- It is the first argument of its constructor, where one runs.
abbrev pub made_by : ℕ → Option ℕ → List c.Expr → List Target → c.Expr
made_by family None values outs = made family
made_by family (Some k) values outs = c.call (Own k) (c.exprs (made family ∷ values)) outs

abbrev mutual
  pub lowered : ℕ → t.Expr → c.Expr
  lowered n (t.number ty x) = c.number x
  lowered n (t.truth b) = c.number (truth b)
  lowered n (t.read x ty) = lowered_read n x
  lowered n t.null = c.null
  lowered n (t.convert from to e) = conversion to (lowered n e)
  lowered n (t.negate ty e) = negation ty (lowered n e)
  lowered n (t.complement ty e) = complement ty (lowered n e)
  lowered n (t.not e) = denial (lowered n e)
  lowered n (t.operate op ty l r) = binary (Binary op ty) (lowered n l) (lowered n r)
  lowered n (t.compare op ty l r) = binary (Compare op (is_signed ty)) (lowered n l) (lowered n r)
  lowered n (t.and l r) = c.choose (lowered n l) (lowered n r) (c.number 0)
  lowered n (t.or l r) = c.choose (lowered n l) (c.number 1) (lowered n r)
  lowered n (t.choose a l r) = c.choose (lowered n a) (lowered n l) (lowered n r)
  lowered n (t.same l r) = binary Same (lowered n l) (lowered n r)
  lowered n (t.cast family e) = unary (Cast family) (lowered n e)
  lowered n (t.naming x e) = lowered n e
  lowered n (t.make family constructor args) = made_by family constructor (lowered_args n args) (targets_of n args)
  lowered n (t.assign x ty e) = lowered_store n x (lowered n e)
  lowered n (t.compound x ty op at e) = lowered_change n x (compound_of ty op at) (lowered n e)
  lowered n (t.step x ty kind) = lowered_change n x (step_of ty kind) (c.number 1)
  lowered n (t.call f ty args) = c.call (callee_of f) (c.exprs (lowered_args n args)) (targets_of n args)
  lowered n (t.host_call h ty args) = c.apply (Ask h.entity) (c.exprs (lowered_args n args))

  -- what stands at a site
  pub lowered_read : ℕ → t.Site → c.Expr
  lowered_read n (t.named x) = read n x
  lowered_read n (t.member_of o a) = unary (reading a) (lowered n o)

  -- a value is stored there; a member's object comes after it
  pub lowered_store : ℕ → t.Site → c.Expr → c.Expr
  lowered_store n (t.named x) v = stored n x v
  lowered_store n (t.member_of o a) v = binary (writing a) v (lowered n o)

  -- and is changed by an operand
  pub lowered_change : ℕ → t.Site → Update → c.Expr → c.Expr
  lowered_change n (t.named x) by v = changed n x by v
  lowered_change n (t.member_of o a) by v = binary (altering a by) v (lowered n o)

  pub lowered_args : ℕ → t.Args → List c.Expr
  lowered_args n t.none = []
  lowered_args n (t.more a args) = lowered_arg n a ∷ lowered_args n args

  pub lowered_arg : ℕ → t.Arg → c.Expr
  lowered_arg n (t.by_value ty e) = lowered n e
  lowered_arg n (t.out x from to) = initial from

-- this number where nothing is written
abbrev pub lowered_or : ℕ → ℕ → Option t.Expr → c.Expr
lowered_or n x None = c.number x
lowered_or n x (Some e) = lowered n e

-- what a new local begins with
abbrev pub lowered_begin : ℕ → ArgType → Option t.Expr → c.Expr
lowered_begin n ty None = initial ty
lowered_begin n ty (Some e) = lowered n e

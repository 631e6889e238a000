-- What a script means: what an expression, a statement and a body of the resolved tree does, by cases on the tree (docs/CLAIMS.md, "What a script means";
-- the AngelScript manual, "Expressions", "Statements" and "Functions"). What follows from the ends of a construct's parts is said by the combinators of
-- `Results`. A local is numbered from the outermost one, and `this` is local 0 of the bodies of methods and constructors.
use Rattle.std.specs.Prelude.{ℕ, zero, suc, ◌-◌, ◌==◌, true, false, List, [], ◌∷◌, length, reverse, map, find, ◌++◌, Option, Some, None, option_map, option_and_then, slice_get, slice_index_or}
use Rattle.std.specs.Option.{option_or}
use Rattle.ang_kinds.specs.declared.operator.Operator.{Operator}
use Rattle.ang_kinds.specs.declared.operator.Operator.TheVariants as operator
use Rattle.ang_kinds.specs.declared.primitive.Primitive.{Primitive}
use Rattle.ang_kinds.specs.declared.primitive.Primitive.TheVariants.{I32, Bool as Truth}
use Rattle.ang_kinds.specs.declared.fault.Fault.TheVariants.{Null, Budget}
use Rattle.ang_kinds.specs.declared.types.Pass.{Pass}
use Rattle.ang_kinds.specs.declared.types.Pass.TheVariants as pass
use Rattle.ang_types.specs.declared.arg_type.ArgType.{ArgType}
use Rattle.ang_types.specs.declared.arg_type.ArgType.TheVariants as type
use Rattle.ang_types.specs.ArgTypes.{primitive_of}
use Rattle.ang_typed.specs.declared.expression.TypedVariable.{TypedVariable}
use Rattle.ang_typed.specs.declared.expression.TypedVariable.TheVariants as variable
use Rattle.ang_typed.specs.declared.expression.TypedMember.{TypedMember}
use Rattle.ang_typed.specs.declared.expression.TypedMember.TheVariants as member
use Rattle.ang_typed.specs.declared.expression.TypedCallee as typed
use Rattle.ang_typed.specs.declared.expression.TypedCallee.TheVariants as callee
use Rattle.ang_typed.specs.declared.expression.StepKind.{StepKind}
use Rattle.ang_typed.specs.declared.expression.StepKind.TheVariants as kind
use Rattle.ang_typed.specs.declared.program.TypedClass as families
use Rattle.ang_typed.specs.declared.program.Heading.{Heading}
use Rattle.ang_typed.specs.declared.program.TypedParameter.{TypedParameter}
use Rattle.ang_typed.specs.Typed as t
use Rattle.ang_meaning.specs.declared.class.Class.{Class}
use Rattle.ang_meaning.specs.declared.class.ValueKind.{ValueKind}
use Rattle.ang_meaning.specs.declared.class.ValueKind.TheVariants as holds_a
use Rattle.ang_meaning.specs.declared.slot.Slot.{Slot}
use Rattle.ang_meaning.specs.declared.slot.Slot.TheVariants.{Bits, Script}
use Rattle.ang_meaning.specs.declared.operation.Update.{Update}
use Rattle.ang_meaning.specs.declared.operation.Operation.TheVariants.{Binary, Compare, Convert, Negate, Complement, Not, Same, GlobalGet, GlobalSet, GlobalChange, Ask, Read, Write, Alter, Make, FieldGet, FieldSet, FieldChange, Cast}
use Rattle.ang_meaning.specs.declared.routine.Routine.{Routine}
use Rattle.ang_meaning.specs.declared.routine.Callee.{Callee}
use Rattle.ang_meaning.specs.declared.routine.Callee.TheVariants.{Own, Import, Virtual}
use Rattle.ang_meaning.specs.declared.routine.Passing.{Passing}
use Rattle.ang_meaning.specs.declared.routine.Passing.TheVariants.{In, Out, Object}
use Rattle.ang_meaning.specs.declared.routine.Spot.{Spot}
use Rattle.ang_meaning.specs.declared.routine.Spot.TheVariants as spot
use Rattle.ang_meaning.specs.declared.routine.Target.{Target}
use Rattle.ang_meaning.specs.Numbers.{truth}
use Rattle.ang_kinds.specs.Primitives.{is_signed}
use Rattle.ang_meaning.specs.World.{World, give}
use Rattle.ang_meaning.specs.Environment.{Environment, default_of}
use Rattle.ang_meaning.specs.Perform.{perform}
use Rattle.ang_meaning.specs.Bodies.{Callees, PassesOf}
use Rattle.ang_meaning.specs.Bodies as bodies_of
use Rattle.ang_meaning.specs.Results.{Evaluated, Gave, Gathered, Ready, Ran, Went, Returned, Halted, Broken, Continued, Reply, Calls, local_at, on_test, ticked, loaded, applied, assigned, altered, chosen, then_rest, called, leave, with_value, then_run, caught}

-- ---- operators

-- `operator=` of a variable of type `ty`, in the type `at`: the value is what was stored
abbrev pub compound_of : Primitive → Operator → Primitive → Update
compound_of ty op at = record { operator = op; at = at; to = ty; old = false }

-- `++` and `--` in the variable's type; after the variable the value is the old one
abbrev pub step_of : Primitive → StepKind → Update
step_of ty kind.IncrementBefore = record { operator = operator.Add; at = ty; to = ty; old = false }
step_of ty kind.DecrementBefore = record { operator = operator.Subtract; at = ty; to = ty; old = false }
step_of ty kind.IncrementAfter = record { operator = operator.Add; at = ty; to = ty; old = true }
step_of ty kind.DecrementAfter = record { operator = operator.Subtract; at = ty; to = ty; old = true }

-- the integer type that a value is brought to, as it moves into a variable of this type
abbrev pub integer_of : Primitive → Option Primitive
integer_of Truth = None
integer_of p = Some p

abbrev pub brought_to : ArgType → Option Primitive
brought_to (type.Plain p) = integer_of p
brought_to (type.Enumeration n) = Some I32
brought_to _ = None

-- ---- values that nothing was stored for

-- what a variable, a field or a parameter of this type holds: an object or a handle, or a number or truth value
abbrev pub kind_of : ArgType → ValueKind
kind_of type.Null = holds_a.Handle
kind_of (type.Object n c) = holds_a.Handle
kind_of (type.Handle n c) = holds_a.Handle
kind_of _ = holds_a.Number

-- what it holds while nothing was stored in it: 0, false or null
abbrev pub default_in : ArgType → Slot
default_in ty = default_of (kind_of ty)

-- ---- variables and members

-- the place of local i among those that are alive, counted from the innermost one
abbrev pub inner : List Slot → ℕ → ℕ
inner ls i = length ls - suc i

-- one operand, and two, the first one first
abbrev pub one : Evaluated → Gathered
one e = then_rest [] e (λ v ls t w. Ready (v ∷ []) ls t w)

abbrev pub two : Evaluated → (List Slot → ℕ → World → Evaluated) → Gathered
two e go = then_rest [] e (λ v ls t w. then_rest (v ∷ []) (go ls t w) (λ u ls' t' w'. Ready (u ∷ v ∷ []) ls' t' w'))

-- `this`, as an operand
abbrev pub this_of : List Slot → ℕ → World → Evaluated
this_of ls t w = loaded (local_at ls (inner ls 0)) ls t w

-- In a module of a setting:
module _ (z : Environment) (m : ℕ) where
  abbrev pub read_variable : TypedVariable → List Slot → ℕ → World → Evaluated
  read_variable (variable.Local i) ls t w = loaded (local_at ls (inner ls i)) ls t w
  read_variable (variable.Global g) ls t w = applied (perform z m (GlobalGet g)) (Ready [] ls t w)
  read_variable (variable.Property h) ls t w = applied (perform z m (Read h.entity)) (Ready [] ls t w)
  read_variable (variable.Field i) ls t w = applied (perform z m (FieldGet i)) (one (this_of ls t w))

  -- A member of the object that was evaluated.
  abbrev pub read_member : TypedMember → Evaluated → Evaluated
  read_member (member.Field i) o = applied (perform z m (FieldGet i)) (one o)
  read_member (member.Property h) o = applied (perform z m (Read h.entity)) (one o)

  -- A value is stored, and is the expression's value.
  abbrev pub stored : TypedVariable → List Slot → Evaluated → Evaluated
  stored (variable.Local i) ls e = assigned (inner ls i) e
  stored (variable.Global g) ls e = applied (perform z m (GlobalSet g)) (one e)
  stored (variable.Property h) ls e = applied (perform z m (Write h.entity)) (one e)
  stored (variable.Field i) ls e = applied (perform z m (FieldSet i)) (two e this_of)

  -- A value is stored into a member of an object, which comes after it.
  abbrev pub member_stored : TypedMember → Evaluated → (List Slot → ℕ → World → Evaluated) → Evaluated
  member_stored (member.Field i) e object = applied (perform z m (FieldSet i)) (two e object)
  member_stored (member.Property h) e object = applied (perform z m (Write h.entity)) (two e object)

  -- A variable is changed by an operand.
  abbrev pub changed_by : TypedVariable → List Slot → Update → Evaluated → Evaluated
  changed_by (variable.Local i) ls c e = altered (inner ls i) c e
  changed_by (variable.Global g) ls c e = applied (perform z m (GlobalChange c g)) (one e)
  changed_by (variable.Property h) ls c e = applied (perform z m (Alter h.entity c)) (one e)
  changed_by (variable.Field i) ls c e = applied (perform z m (FieldChange c i)) (two e this_of)

  -- A member of an object, which comes after the operand, is changed by it.
  abbrev pub member_changed : TypedMember → Update → Evaluated → (List Slot → ℕ → World → Evaluated) → Evaluated
  member_changed (member.Field i) c e object = applied (perform z m (FieldChange c i)) (two e object)
  member_changed (member.Property h) c e object = applied (perform z m (Alter h.entity c)) (two e object)

-- ---- the targets of a call

-- where a variable stands; no host property is a target
abbrev pub spot_of : List Slot → TypedVariable → Spot
spot_of ls (variable.Local i) = spot.Local (inner ls i)
spot_of ls (variable.Global g) = spot.Global g
spot_of ls (variable.Property h) = spot.Local 0
spot_of ls (variable.Field i) = spot.Field (inner ls 0) i

-- The variables that the `&out` values move into, after those that there are; the last one is the first.
abbrev pub targets_behind : List Slot → t.Args → List Target → List Target
targets_behind ls t.none found = found
targets_behind ls (t.more (t.by_value ty e) args) found = targets_behind ls args found
targets_behind ls (t.more (t.out x from to) args) found =
    targets_behind ls args (record { spot = spot_of ls x; to = brought_to to } ∷ found)

abbrev pub targets_of : List Slot → t.Args → List Target
targets_of ls args = targets_behind ls args []

-- ---- expressions

-- what the code of a module names by a callee of its tree
abbrev pub callee_of : typed.TypedCallee → Callee
callee_of (callee.Own f) = Own f
callee_of (callee.Import i) = Import i
callee_of (callee.Chosen s) = Virtual s

-- An expression in module m. Operands are evaluated from left to right; in an assignment the value comes first. An object is made
-- before the arguments of its constructor, which gives it back.
abbrev mutual
  pub evaluate : Environment → ℕ → Callees → t.Expr → List Slot → ℕ → World → Evaluated
  evaluate z m c (t.number ty n) ls t w = Gave (Bits n) ls t w
  evaluate z m c (t.truth b) ls t w = Gave (Bits (truth b)) ls t w
  evaluate z m c (t.read (t.named x) ty) ls t w = read_variable z m x ls t w
  evaluate z m c (t.read (t.member_of o a) ty) ls t w = read_member z m a (evaluate z m c o ls t w)
  evaluate z m c t.null ls t w = Gave (Script None) ls t w
  evaluate z m c (t.convert from to e) ls t w = applied (perform z m (Convert to)) (one (evaluate z m c e ls t w))
  evaluate z m c (t.negate ty e) ls t w = applied (perform z m (Negate ty)) (one (evaluate z m c e ls t w))
  evaluate z m c (t.complement ty e) ls t w = applied (perform z m (Complement ty)) (one (evaluate z m c e ls t w))
  evaluate z m c (t.not e) ls t w = applied (perform z m Not) (one (evaluate z m c e ls t w))
  evaluate z m c (t.operate op ty l r) ls t w =
      applied (perform z m (Binary op ty)) (two (evaluate z m c l ls t w) (evaluate z m c r))
  evaluate z m c (t.compare op ty l r) ls t w =
      applied (perform z m (Compare op (is_signed ty))) (two (evaluate z m c l ls t w) (evaluate z m c r))
  evaluate z m c (t.and l r) ls t w = chosen (evaluate z m c l ls t w) (evaluate z m c r) (λ ls' t' w'. Gave (Bits (truth false)) ls' t' w')
  evaluate z m c (t.or l r) ls t w = chosen (evaluate z m c l ls t w) (λ ls' t' w'. Gave (Bits (truth true)) ls' t' w') (evaluate z m c r)
  evaluate z m c (t.choose a l r) ls t w = chosen (evaluate z m c a ls t w) (evaluate z m c l) (evaluate z m c r)
  evaluate z m c (t.same l r) ls t w = applied (perform z m Same) (two (evaluate z m c l ls t w) (evaluate z m c r))
  evaluate z m c (t.naming x e) ls t w = evaluate z m c e ls t w
  evaluate z m c (t.cast n e) ls t w = applied (perform z m (Cast n)) (one (evaluate z m c e ls t w))
  evaluate z m c (t.make n None args) ls t w = applied (perform z m (Make n)) (Ready [] ls t w)
  evaluate z m c (t.make n (Some k) args) ls t w =
      called m (c (Own k)) (targets_of ls args)
      (then_rest [] (applied (perform z m (Make n)) (Ready [] ls t w)) (λ o ls' t' w'. evaluate_all z m c args (o ∷ []) ls' t' w'))
  evaluate z m c (t.assign (t.named x) ty e) ls t w = stored z m x ls (evaluate z m c e ls t w)
  evaluate z m c (t.assign (t.member_of o a) ty e) ls t w = member_stored z m a (evaluate z m c e ls t w) (evaluate z m c o)
  evaluate z m c (t.compound (t.named x) ty op at e) ls t w = changed_by z m x ls (compound_of ty op at) (evaluate z m c e ls t w)
  evaluate z m c (t.compound (t.member_of o a) ty op at e) ls t w =
      member_changed z m a (compound_of ty op at) (evaluate z m c e ls t w) (evaluate z m c o)
  evaluate z m c (t.step (t.named x) ty kind) ls t w = changed_by z m x ls (step_of ty kind) (Gave (Bits 1) ls t w)
  evaluate z m c (t.step (t.member_of o a) ty kind) ls t w =
      member_changed z m a (step_of ty kind) (Gave (Bits 1) ls t w) (evaluate z m c o)
  evaluate z m c (t.call f ty args) ls t w = called m (c (callee_of f)) (targets_of ls args) (evaluate_all z m c args [] ls t w)
  evaluate z m c (t.host_call h ty args) ls t w = applied (perform z m (Ask h.entity)) (evaluate_all z m c args [] ls t w)

  -- the arguments of a call, after those that there are; an `&out` parameter begins as 0, false or null
  pub evaluate_all : Environment → ℕ → Callees → t.Args → List Slot → List Slot → ℕ → World → Gathered
  evaluate_all z m c t.none vs ls t w = Ready vs ls t w
  evaluate_all z m c (t.more a args) vs ls t w =
      then_rest vs (evaluate_argument z m c a ls t w) (λ v ls' t' w'. evaluate_all z m c args (v ∷ vs) ls' t' w')

  pub evaluate_argument : Environment → ℕ → Callees → t.Arg → List Slot → ℕ → World → Evaluated
  evaluate_argument z m c (t.by_value ty e) ls t w = evaluate z m c e ls t w
  evaluate_argument z m c (t.out x from to) ls t w = Gave (default_in from) ls t w

-- ---- statements

-- one pass of a loop, its tick taken: the condition, the body and the steps; a condition that is not written is true
abbrev pub Passes : Type 0
Passes = PassesOf (Option t.Expr) t.Stmts (List t.Expr)

-- what a new local begins with: its initializer's value, or 0, false or null
abbrev pub begin_local : Environment → ℕ → Callees → ArgType → Option t.Expr → List Slot → ℕ → World → Evaluated
begin_local z m c ty None ls t w = Gave (default_in ty) ls t w
begin_local z m c ty (Some e) ls t w = evaluate z m c e ls t w

-- a value or a condition that is written or not
abbrev pub evaluate_or : Environment → ℕ → Callees → ℕ → Option t.Expr → List Slot → ℕ → World → Evaluated
evaluate_or z m c n None ls t w = Gave (Bits n) ls t w
evaluate_or z m c n (Some e) ls t w = evaluate z m c e ls t w

-- an expression whose value nobody takes
abbrev pub discarded : Evaluated → Ran
discarded e = with_value e (λ v ls t w. Went ls t (give v w))

-- a choice between two statements by a test
abbrev pub branched : Evaluated → (List Slot → ℕ → World → Ran) → (List Slot → ℕ → World → Ran) → Ran
branched e go other = with_value e (λ v ls t w. on_test v (Halted Null ls (give v w)) (other ls t w) (go ls t w))

-- new locals, each known after its own initializer
abbrev pub run_locals : Environment → ℕ → Callees → List t.Local → List Slot → ℕ → World → Ran
run_locals z m c [] ls t w = Went ls t w
run_locals z m c (l ∷ rest) ls t w =
    with_value (begin_local z m c l.ty l.initializer ls t w) (λ v ls' t' w'. run_locals z m c rest (v ∷ ls') t' w')

-- the steps of a `for`
abbrev pub run_steps : Environment → ℕ → Callees → List t.Expr → List Slot → ℕ → World → Ran
run_steps z m c [] ls t w = Went ls t w
run_steps z m c (e ∷ es) ls t w = then_run (discarded (evaluate z m c e ls t w)) (run_steps z m c es)

-- statements in a block of their own
abbrev pub in_block : (List Slot → ℕ → World → Ran) → List Slot → ℕ → World → Ran
in_block go ls t w = leave (length ls) (go ls t w)

-- the tick in front of a test
abbrev pub tested : (List Slot → ℕ → World → Ran) → List Slot → ℕ → World → Ran
tested go ls t w = ticked t (Halted Budget ls w) (λ t'. go ls t' w)

abbrev mutual
  pub run : Environment → ℕ → Callees → Passes → t.Stmt → List Slot → ℕ → World → Ran
  run z m c p (t.block ss) ls t w = in_block (run_all z m c p ss) ls t w
  run z m c p (t.locals locals) ls t w = run_locals z m c locals ls t w
  run z m c p (t.expression None) ls t w = Went ls t w
  run z m c p (t.expression (Some e)) ls t w = discarded (evaluate z m c e ls t w)
  run z m c p t.break ls t w = Broken ls t w
  run z m c p t.continue ls t w = Continued ls t w
  run z m c p (t.return e) ls t w = with_value (evaluate_or z m c 0 e ls t w) (λ v ls' t' w'. Returned v ls' t' w')
  run z m c p (t.either e ss otherwise) ls t w =
      branched (evaluate z m c e ls t w) (in_block (run_all z m c p ss)) (in_block (run_all z m c p otherwise))
  run z m c p (t.while e ss) ls t w = tested (p (Some e) ss []) ls t w
  run z m c p (t.do_while ss e) ls t w = caught (length ls) (run_all z m c p ss ls t w) (tested (p (Some e) ss []))
  run z m c p (t.for start e steps ss) ls t w =
      in_block (λ ls' t' w'. then_run (run_all z m c p start ls' t' w') (tested (p e ss steps))) ls t w

  pub run_all : Environment → ℕ → Callees → Passes → t.Stmts → List Slot → ℕ → World → Ran
  run_all z m c p t.end ls t w = Went ls t w
  run_all z m c p (t.then s ss) ls t w = then_run (run z m c p s ls t w) (run_all z m c p ss)

-- one pass of a loop: where the condition is true the body, which a `continue` ends, the steps, and the next pass
abbrev pub pass_of : Environment → ℕ → Callees → Passes → Passes
pass_of z m c p e ss steps ls t w =
    branched (evaluate_or z m c 1 e ls t w)
    (λ ls' t' w'. caught (length ls') (run_all z m c p ss ls' t' w')
    (λ l2 t2 w2. then_run (run_steps z m c steps l2 t2 w2) (tested (p e ss steps))))
    (λ ls' t' w'. Went ls' t' w')

-- ---- bodies

-- A body: that of a function, or an initializer, whose value is stored into its global.
pub data Code : Type 0 where
  of_function : t.Stmts → Code
  of_global : ℕ → t.Expr → Code

-- what a whole body does
abbrev pub run_code : Environment → ℕ → Callees → Passes → Code → List Slot → ℕ → World → Ran
run_code z m c p (of_function ss) ls t w = in_block (run_all z m c p ss) ls t w
run_code z m c p (of_global g e) ls t w = discarded (stored z m (variable.Global g) ls (evaluate z m c e ls t w))

-- the body of each routine
abbrev pub Codes : Type 0
Codes = Routine → Code

-- Whole bodies and initializers, as `ang_meaning/specs/Bodies.antt` has them of any tree: the ticks, the nesting and the memory around each.
abbrev pub body_at : Environment → Codes → ℕ → ℕ → Calls
body_at = bodies_of.body_at run_code pass_of

abbrev pub pass_at : Environment → Codes → ℕ → ℕ → ℕ → Passes
pass_at = bodies_of.pass_at run_code pass_of

abbrev pub begun : Environment → Codes → Routine → List Slot → ℕ → World → Reply
begun = bodies_of.begun run_code pass_of

-- A command's call of a function with a budget of ticks: its entry takes one.
abbrev pub called_with : Environment → Codes → ℕ → Routine → List Slot → World → Reply
called_with = bodies_of.called_with run_code pass_of

-- An initializer's run, with t ticks left: its entry takes none.
abbrev pub initialized : Environment → Codes → ℕ → Routine → World → Reply
initialized = bodies_of.initialized run_code pass_of

-- A build's initializers in order of declaration, on one budget: a fault ends them.
abbrev pub initialized_all : Environment → Codes → List Routine → ℕ → World → Reply
initialized_all = bodies_of.initialized_all run_code pass_of

-- ---- a module's bodies

-- by reference an object itself passes, which is not null
abbrev pub referred : ArgType → Passing
referred (type.Object n c) = Object
referred _ = In

abbrev pub passing_by : Pass → ArgType → Passing
passing_by pass.Value ty = In
passing_by pass.RefOut ty = Out
passing_by _ ty = referred ty

-- how a parameter takes its argument
abbrev pub passing_of : TypedParameter → Passing
passing_of p = passing_by p.pass p.ty

-- how a function's parameters take their arguments, the last one first
abbrev pub passings_of : List TypedParameter → List Passing
passings_of ps = reverse (map (λ p. passing_of p) ps)

-- the initializers of globals, counted from this number on
abbrev pub initializer_of : ℕ → Option t.Expr → List Code
initializer_of g None = []
initializer_of g (Some e) = of_global g e ∷ []

abbrev pub initializers_from : ℕ → List t.Global → List Code
initializers_from g [] = []
initializers_from g (x ∷ xs) = initializer_of g x.initializer ++ initializers_from (suc g) xs

-- The bodies of a module by number: the functions' first, and then the initializers', each in the order of declaration.
abbrev pub codes_of : t.Program → List Code
codes_of p = map (λ f. of_function f.body) p.functions ++ initializers_from 0 p.globals

-- how the parameters of each body take their arguments; an initializer has none
abbrev pub passings_in : t.Program → List (List Passing)
passings_in p = map (λ f. passings_of f.parameters) p.functions ++ map (λ c. []) (initializers_from 0 p.globals)

-- the primitive type of each body's value; an initializer's value is of none
abbrev pub results_in : t.Program → List (Option Primitive)
results_in p = map (λ f. primitive_of f.result) p.functions ++ map (λ c. None) (initializers_from 0 p.globals)

-- the empty body stands where there is none
abbrev pub code_or : Option Code → Code
code_or None = of_function t.end
code_or (Some c) = c

abbrev pub nothing : t.Program
nothing = record { functions = []; globals = []; classes = []; methods = []; imports = [] }

-- the bodies of modules, by their numbers
abbrev pub codes_in : List t.Program → Codes
codes_in ps g = code_or (slice_get (codes_of (slice_index_or ps g.home nothing)) g.number)

-- ---- a module's classes, methods and imports

-- The types of the fields of an object: those of its base class first. The class and n above it are asked.
abbrev pub fields_by : List families.TypedClass → ℕ → Option families.TypedClass → List ArgType
fields_by classes n None = []
fields_by classes zero (Some c) = c.fields
fields_by classes (suc n) (Some c) = fields_by classes n (option_and_then (slice_get classes) c.base) ++ c.fields

-- a class as its objects have it: it stands under itself, too
abbrev pub class_of : List families.TypedClass → ℕ → families.TypedClass → Class
class_of classes n c =
    record { number = n; rank = c.rank; fields = map kind_of (fields_by classes (length classes) (Some c)); under = n ∷ c.above }

abbrev pub class_among : List families.TypedClass → ℕ → Option Class
class_among classes n = option_map (class_of classes n) (slice_get classes n)

-- the class of a number, in the modules by their numbers
unfoldable pub class_in : List t.Program → ℕ → ℕ → Option Class
class_in ps m n = class_among (slice_index_or ps m nothing).classes n

-- the body that a class has itself in a slot
abbrev pub own_body : ℕ → List (ℕ × ℕ) → Option ℕ
own_body s rows = option_map (λ (r : ℕ × ℕ). r.1) (find (λ (r : ℕ × ℕ). r.0 == s) rows)

-- The body that class c has in a slot: its own, or else that of its base class. The class and n above it are asked.
abbrev pub body_by : List families.TypedClass → ℕ → ℕ → Option families.TypedClass → Option ℕ
body_by classes s n None = None
body_by classes s zero (Some c) = own_body s c.chosen
body_by classes s (suc n) (Some c) = option_or (own_body s c.chosen) (body_by classes s n (option_and_then (slice_get classes) c.base))

abbrev pub routine : ℕ → ℕ → Routine
routine m k = record { home = m; number = k }

abbrev pub method_among : ℕ → List families.TypedClass → ℕ → ℕ → Option Routine
method_among m classes n s = option_map (routine m) (body_by classes s (length classes) (slice_get classes n))

-- The method that a class has in a slot (the manual, "Inheritance and polymorphism").
unfoldable pub method_in : List t.Program → ℕ → ℕ → ℕ → Option Routine
method_in ps m n s = method_among m (slice_index_or ps m nothing).classes n s

-- how a function of that heading takes its arguments, the last one first
abbrev pub heading_among : List Heading → ℕ → Option (List Passing)
heading_among headings i = option_map (λ (h : Heading). passings_of h.parameters) (slice_get headings i)

-- how the methods of a slot take their arguments, the last one first; the receiver is the last of the list
unfoldable pub slot_in : List t.Program → ℕ → ℕ → Option (List Passing)
slot_in ps m s = heading_among (slice_index_or ps m nothing).methods s

-- how an import takes its arguments, the last one first
unfoldable pub imported_in : List t.Program → ℕ → ℕ → Option (List Passing)
imported_in ps m i = heading_among (slice_index_or ps m nothing).imports i

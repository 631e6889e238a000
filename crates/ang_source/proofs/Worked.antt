-- Worked examples of what a script means, computed. Each stands above its tree in AngelScript.
use Rattle.std.proofs.Common.{◌≡◌, ◌<◌, ℕ, zero, suc, ◌-◌, List, [], ◌∷◌, ◌++◌, Some, None, refl, ap}
use Rattle.std.specs.Prelude.{true, false, pos, slice_get}
use Rattle.std.specs.FinMap as map
use Rattle.std.specs.Int.{int_wrap}
use Rattle.ang_kinds.specs.declared.primitive.Primitive.TheVariants.{I32, U8}
use Rattle.ang_kinds.specs.declared.fault.Fault.TheVariants.{Unbound, Budget, DivideByZero}
use Rattle.ang_kinds.specs.declared.types.Pass.{Pass}
use Rattle.ang_kinds.specs.declared.types.Pass.TheVariants as pass
use Rattle.ang_kinds.specs.declared.mask.EntityNo.{EntityNo}
use Rattle.ang_kinds.specs.declared.value.Value.TheVariants.{Int}
use Rattle.ang_host.specs.declared.answer.Answer.TheVariants as answer
use Rattle.ang_host.specs.declared.answer.HostReply.{HostReply}
use Rattle.ang_host.specs.declared.answer.HostReply.TheVariants.{Asking}
use Rattle.ang_host.specs.declared.event.HostEvent.TheVariants.{Called}
use Rattle.ang_host.specs.declared.event.Role.TheVariants.{Calling}
use Rattle.ang_types.specs.declared.arg_type.ArgType.{ArgType}
use Rattle.ang_types.specs.declared.arg_type.ArgType.TheVariants as type
use Rattle.ang_typed.specs.declared.expression.TypedVariable.{TypedVariable}
use Rattle.ang_typed.specs.declared.expression.TypedVariable.TheVariants as variable
use Rattle.ang_typed.specs.declared.expression.TypedCallee.{TypedCallee}
use Rattle.ang_typed.specs.declared.expression.TypedCallee.TheVariants as callee
use Rattle.ang_kinds.specs.declared.operator.Operator.TheVariants as operator
use Rattle.ang_kinds.specs.declared.operator.Comparison.TheVariants as comparison
use Rattle.ang_typed.specs.declared.expression.StepKind.TheVariants as kind
use Rattle.ang_typed.specs.declared.program.TypedParameter.{TypedParameter}
use Rattle.ang_typed.specs.Typed as t
use Rattle.ang_host.specs.State.{count_at}
use Rattle.ang_meaning.specs.declared.class.ValueKind.TheVariants.{Number, Handle}
use Rattle.ang_meaning.specs.declared.slot.Slot.{Slot}
use Rattle.ang_meaning.specs.declared.slot.Slot.TheVariants.{Bits, Script, Host}
use Rattle.ang_meaning.specs.declared.host.HostValueType.TheVariants.{Plain}
use Rattle.ang_meaning.specs.declared.routine.Callee.TheVariants.{Own, Import, Virtual}
use Rattle.ang_meaning.specs.World.{World, with_inputs, Input, Room, Said, Tallied, hold, tally_step, one_more, memory_step, give, given}
use Rattle.ang_meaning.specs.Environment.{Environment, method_of, target}
use Rattle.ang_meaning.specs.Hosts.{asked, replied_by, slot_of}
use Rattle.ang_meaning.specs.Numbers.{binary_result, changed, holds_of}
use Rattle.ang_meaning.specs.Perform.{perform, change_of, global_or, global_put}
use Rattle.ang_meaning.specs.Results.{Gave, Failed, Went, Reply, Yields, Raises, brought, replied, found_entered, enter}
use Rattle.ang_meaning.proofs.Keys.{key_back}
use Rattle.ang_meaning.specs.Bodies.{Callees}
use Rattle.ang_source.specs.Meaning.{Passes, evaluate, run, body_at, codes_in, called_with, initialized_all, routine, passings_in, heading_among, class_in, method_in, slot_in}

-- ---- parts of trees

abbrev int : ArgType
int = type.Plain I32

abbrev local : ℕ → t.Expr
local i = t.read (t.named (variable.Local i)) (type.Plain I32)

abbrev number : ℕ → t.Expr
number n = t.number I32 n

abbrev plus : t.Expr → t.Expr → t.Expr
plus l r = t.operate operator.Add I32 l r

abbrev parameter : Pass → TypedParameter
parameter by = record { ty = type.Plain I32; pass = by }

abbrev function : List TypedParameter → List t.Stmt → t.TypedFunction
function ps ss = record { parameters = ps; result = type.Plain I32; body = t.stmts ss; positions = [] }

abbrev returns : t.Expr → t.Stmt
returns e = t.return (Some e)

abbrev call : TypedCallee → List t.Arg → t.Expr
call f args = t.call f (type.Plain I32) (t.args args)

abbrev divide : t.Expr → t.Expr → t.Expr
divide l r = t.operate operator.Divide I32 l r

abbrev set : TypedVariable → t.Expr → t.Expr
set x e = t.assign (t.named x) (type.Plain I32) e

abbrev of_global : ℕ → t.Expr
of_global g = t.read (t.named (variable.Global g)) (type.Plain I32)

abbrev does : t.Expr → t.Stmt
does e = t.expression (Some e)

-- a handle of an object of the host's first type
abbrev handle : ArgType
handle = type.Handle 0 false

abbrev receiver : TypedParameter
receiver = record { ty = type.Handle 1024 false; pass = pass.Value }

abbrev entity : EntityNo
entity = record { 0 = 0 }

abbrev seven : HostReply
seven = Asking (answer.Gave (Int (pos 7)))

-- what two functions give
abbrev first_two : Slot → Slot → Callees
first_two a b (Own zero) vs n w = Yields a [] n w
first_two a b (Own (suc k)) vs n w = Yields b [] n w
first_two a b (Import k) vs n w = Yields b [] n w
first_two a b (Virtual k) vs n w = Yields b [] n w

-- ---- a module on its own, whose entry 0 is a function of driver 1 that takes an `int` and gives one

abbrev alone : t.Program → Environment
alone p = record {
  name = λ m. [];
  host = λ m e. Some (record { driver = 1; role = Calling 0; member = false; params = Plain I32 ∷ []; result = Plain I32; read_only = false });
  imported = λ m i. heading_among p.imports i;
  linked = λ m i. None;
  class = class_in (p ∷ []);
  method = method_in (p ∷ []);
  slot = slot_in (p ∷ []);
  params = λ g. slice_get (passings_in p) g.number;
  nesting = 200;
}

-- no objects, and these globals, events and inputs
abbrev world : List Slot → List Input → World
world globals inputs = record { objects = map.empty; hosts = λ d. map.empty; globals = globals ∷ []; events = []; reserved = 0; spent = false; bounds = record { events = 10; slots = 10; objects = 10 }; inputs = inputs }

-- a command's call of function 0, without arguments, on ten ticks
abbrev called : t.Program → World → Reply
called p w = called_with (alone p) (codes_in (p ∷ [])) 10 (routine 0 0) [] w

abbrev functions : List t.TypedFunction → t.Program
functions fs = record { functions = fs; globals = []; classes = []; methods = []; imports = [] }

-- ---- calls

-- int f() { return twice(20) + 2; }  int twice(int x) { return x + x; }
by_value : called (functions (function [] (returns (plus (call (callee.Own 1) (t.by_value int (number 20) ∷ [])) (number 2)) ∷ [])
    ∷ function (parameter pass.Value ∷ []) (returns (plus (local 0) (local 0)) ∷ []) ∷ []))
    (world [] (Room true ∷ Room true ∷ [])) ≡ Yields (Bits 42) [] 8 (world [] [])
unfolding hold tally_step one_more memory_step give given perform binary_result int_wrap target
by_value = refl

-- int f() { int r; half(9, r); return r; }  int half(int x, int &out y) { y = x / 2; return 0; }
out_argument : called (functions (function [] (t.locals (record { ty = int; initializer = None } ∷ [])
    ∷ does (call (callee.Own 1) (t.by_value int (number 9) ∷ t.out (variable.Local 0) int int ∷ [])) ∷ returns (local 0) ∷ [])
    ∷ function (parameter pass.Value ∷ parameter pass.RefOut ∷ []) (does (set (variable.Local 1) (divide (local 0) (number 2))) ∷ returns (number 0) ∷ []) ∷ []))
    (world [] (Room true ∷ Room true ∷ [])) ≡ Yields (Bits 4) [] 8 (world [] [])
unfolding hold tally_step one_more memory_step give given perform binary_result int_wrap target brought
out_argument = refl

-- import int g() from "m";  int f() { return g(); }  where it is not bound
unbound : called (functions (function [] (returns (call (callee.Import 0) []) ∷ []) ∷ [])) (world [] (Room true ∷ [])) ≡ Raises Unbound (world [] [])
unfolding hold tally_step one_more memory_step give given perform target
unbound = refl

-- g(h, 1 / 0), where h names an object: the argument that is held when the fault comes is given up again
middle : (z : Environment) (c : Callees) (rest : List Input) (n : ℕ) (w : World) → 0 < count_at (w.hosts 2) 5
    → evaluate z 0 c (call (callee.Own 1) (t.by_value handle (t.read (t.named (variable.Local 0)) handle) ∷ t.by_value int (divide (number 1) (number 0)) ∷ []))
    (Host 2 (Some 5) ∷ []) n (with_inputs (Tallied true ∷ rest) w) ≡ Failed DivideByZero (Host 2 (Some 5) ∷ []) (with_inputs rest w)
unfolding hold tally_step perform binary_result give given
middle z c rest n w h = ap (λ u. Failed DivideByZero (Host 2 (Some 5) ∷ []) u) (key_back 2 5 (with_inputs rest w) h)

-- class A { int f() { return 1; } }  class B : A { int f() { return 2; } }  class C : B { }
abbrev methods : t.Program
methods = record {
  functions = function (receiver ∷ []) (returns (number 1) ∷ []) ∷ function (receiver ∷ []) (returns (number 2) ∷ []) ∷ [];
  globals = [];
  classes = record { fields = []; base = None; above = []; chosen = (0, 0) ∷ []; rank = 0 }
      ∷ record { fields = []; base = Some 0; above = 0 ∷ []; chosen = (0, 1) ∷ []; rank = 0 } ∷ record { fields = []; base = Some 1; above = 0 ∷ 1 ∷ []; chosen = []; rank = 0 } ∷ [];
  methods = record { parameters = receiver ∷ []; result = int } ∷ [];
  imports = [];
}

-- an object's number where `first` is called, and else what the bodies of these classes do
abbrev with_object : ℕ → Callees
with_object n (Own k) vs ticks w = Yields (Script (Some n)) [] ticks w
with_object n (Import k) vs ticks w = Raises Unbound w
with_object n (Virtual k) vs ticks w = enter (alone methods) (body_at (alone methods) (codes_in (methods ∷ [])) 10 1) 0 0 (Virtual k) vs ticks w

-- first().f(), which gives a C: the method is that of B, and its receiver is given up at the end
virtual : (c n : ℕ) (rest : List Input) (w : World) → map.get w.objects n ≡ Some (record { class = 2; rank = 0; count = c; fields = [] })
    → evaluate (alone methods) 0 (with_object n) (call (callee.Chosen 0) (t.by_value handle (t.call (callee.Own 0) handle t.none) ∷ [])) [] 10 (with_inputs (Room true ∷ rest) w)
    ≡ Gave (Bits 2) [] 9 (give (Script (Some n)) (with_inputs rest w))
unfolding target slot_in method_in memory_step
virtual c n rest w h =
    ap (λ o. replied 0 [] (found_entered (alone methods) (body_at (alone methods) (codes_in (methods ∷ [])) 10 1) 0 (method_of (alone methods) 0 0 o) (Script (Some n) ∷ []) 10 (with_inputs (Room true ∷ rest) w)) []) h

-- ---- fields

-- class Base { int count; T@ first; }  class Heir : Base { int more; }
abbrev with_fields : t.Program
with_fields = record {
  functions = [];
  globals = [];
  classes = record { fields = int ∷ handle ∷ []; base = None; above = []; chosen = []; rank = 0 }
      ∷ record { fields = int ∷ []; base = Some 0; above = 0 ∷ []; chosen = []; rank = 0 } ∷ [];
  methods = [];
  imports = [];
}

-- an object of the heir has the fields of its base class first
fields_of_the_base_first : class_in (with_fields ∷ []) 0 1 ≡ Some (record { number = 1; rank = 0; fields = Number ∷ Handle ∷ Number ∷ []; under = 1 ∷ 0 ∷ [] })
unfolding class_in
fields_of_the_base_first = refl

-- ---- variables

abbrev two_globals : t.Program
two_globals = record {
  functions = [];
  globals = record { ty = int; initializer = Some (number 1) } ∷ record { ty = int; initializer = Some (plus (of_global 0) (number 1)) } ∷ [];
  classes = [];
  methods = [];
  imports = [];
}

-- int g = 5;  int f() { g = g + 1; return g; }
global : called (functions (function [] (does (set (variable.Global 0) (plus (of_global 0) (number 1))) ∷ returns (of_global 0) ∷ []) ∷ []))
    (world (Bits 5 ∷ []) (Room true ∷ [])) ≡ Yields (Bits 6) [] 9 (world (Bits 6 ∷ []) [])
unfolding hold tally_step one_more memory_step give given perform binary_result int_wrap global_or global_put
global = refl

-- int a = 1;  int b = a + 1;
initializers : initialized_all (alone two_globals) (codes_in (two_globals ∷ [])) (routine 0 0 ∷ routine 0 1 ∷ []) 10 (world (Bits 0 ∷ Bits 0 ∷ []) (Room true ∷ Room true ∷ []))
    ≡ Yields (Bits 0) [] 10 (world (Bits 1 ∷ Bits 2 ∷ []) [])
unfolding hold tally_step one_more memory_step give given perform binary_result int_wrap global_or global_put
initializers = refl

-- x++ of a uint8 that is 255 gives 255, and leaves 0
wraps : (z : Environment) (c : Callees) (n : ℕ) (w : World) → evaluate z 0 c (t.step (t.named (variable.Local 0)) U8 kind.IncrementAfter) (Bits 255 ∷ []) n w ≡ Gave (Bits 255) (Bits 0 ∷ []) n w
unfolding change_of changed binary_result int_wrap
wraps z c n w = refl

-- { T@ a = first(); T@ b = second(); }  gives up b before a
locals_end : (z : Environment) (a b : Slot) (p : Passes) (n : ℕ) (w : World) → run z 0 (first_two a b) p (t.block (t.stmts (t.locals (record { ty = handle; initializer = Some (t.call (callee.Own 0) handle t.none) }
    ∷ record { ty = handle; initializer = Some (t.call (callee.Own 1) handle t.none) } ∷ []) ∷ []))) [] n w ≡ Went [] n (give a (give b w))
locals_end z a b p n w = refl

-- ---- tests and loops

-- false && 1 / 0 == 0  leaves the second operand alone
shortcut : (z : Environment) (c : Callees) (n : ℕ) (w : World)
    → evaluate z 0 c (t.and (t.truth false) (t.compare comparison.Equal I32 (divide (number 1) (number 0)) (number 0))) [] n w ≡ Gave (Bits 0) [] n w
shortcut z c n w = refl

-- int f() { int s = 0; for (int i = 0; i < 3; i++) { s += i; } return s; }
loop : called (functions (function [] (t.locals (record { ty = int; initializer = Some (number 0) } ∷ [])
    ∷ t.for (t.stmts (t.locals (record { ty = int; initializer = Some (number 0) } ∷ []) ∷ [])) (Some (t.compare comparison.Less I32 (local 1) (number 3))) (t.step (t.named (variable.Local 1)) I32 kind.IncrementAfter ∷ [])
    (t.stmts (does (t.compound (t.named (variable.Local 0)) I32 operator.Add I32 (local 1)) ∷ [])) ∷ returns (local 0) ∷ []) ∷ []))
    (world [] (Room true ∷ [])) ≡ Yields (Bits 3) [] 5 (world [] [])
unfolding hold tally_step one_more memory_step give given perform binary_result int_wrap holds_of change_of changed
loop = refl

-- int f() { while (true) { } return 0; }
endless : called (functions (function [] (t.while (t.truth true) t.end ∷ returns (number 0) ∷ []) ∷ [])) (world [] (Room true ∷ [])) ≡ Raises Budget (world [] [])
unfolding hold tally_step one_more memory_step give given
endless = refl

-- ---- the host

-- int f() { return ask(3); }, which the driver answers with 7
host_call : called (functions (function [] (returns (t.host_call (record { entity = entity; driver = 1; f = 0 }) int (t.args (t.by_value int (number 3) ∷ []))) ∷ []) ∷ []))
    (world [] (Room true ∷ Room true ∷ Said seven ∷ [])) ≡ Yields (Bits 7) [] 9 (record (world [] []) { events = Called [] entity 1 None (Int (pos 3) ∷ []) seven ∷ []; reserved = 1 })
unfolding hold tally_step one_more memory_step give given perform asked replied_by slot_of int_wrap
host_call = refl

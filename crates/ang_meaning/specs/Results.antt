-- How the parts of a script end, and one combinator for each construct that says what follows from its parts' ends. Locals are a list, the innermost
-- one first; t is the number of ticks that are left. A fault gives up what each construct holds, in the reverse order of taking
-- (docs/CLAIMS.md, "What a body does").
use Rattle.std.specs.Prelude.{ℕ, zero, suc, ◌+◌, ◌-◌, Bool, ltb, List, [], ◌∷◌, length, Option, Some, if◌then◌else◌}
use Rattle.ang_kinds.specs.declared.fault.Fault.{Fault}
use Rattle.ang_kinds.specs.declared.fault.Fault.TheVariants.{Null, Budget, Depth, Memory, Tally}
use Rattle.ang_meaning.specs.declared.slot.Slot.{Slot}
use Rattle.ang_meaning.specs.declared.slot.Slot.TheVariants.{Bits}
use Rattle.ang_meaning.specs.declared.operation.Update.{Update}
use Rattle.ang_meaning.specs.declared.routine.Routine.{Routine}
use Rattle.ang_meaning.specs.declared.routine.Callee.{Callee}
use Rattle.ang_meaning.specs.declared.routine.Passing.{Passing}
use Rattle.ang_meaning.specs.declared.routine.Passing.TheVariants.{Out}
use Rattle.ang_meaning.specs.declared.routine.Target.{Target}
use Rattle.ang_meaning.specs.declared.routine.Spot.{Spot}
use Rattle.ang_meaning.specs.declared.routine.Spot.TheVariants.{Local, Global, Field}
use Rattle.ang_kinds.specs.declared.primitive.Primitive.{Primitive}
use Rattle.ang_meaning.specs.Numbers.{Changed, Into, Never, converted}
use Rattle.ang_meaning.specs.World.{World, or_else, hold, give, give_all, memory_step}
use Rattle.ang_meaning.specs.Environment.{Environment, Found, Enters, Misses, target, has_objects, params_of}
use Rattle.ang_meaning.specs.Hosts.{Done, Fine, Fails}
use Rattle.ang_meaning.specs.Perform.{change_of, global_or, global_put, member_or, member_put}

-- an expression: its value, or a fault
pub data Evaluated : Type 0 where
  Gave : Slot → List Slot → ℕ → World → Evaluated
  Failed : Fault → List Slot → World → Evaluated

-- arguments: their values with the last one first, or a fault
pub data Gathered : Type 0 where
  Ready : (values locals : List Slot) → ℕ → World → Gathered
  Broke : Fault → List Slot → World → Gathered

-- a statement: it went through, returned a value, faulted, or leaves the loop or its pass
pub data Ran : Type 0 where
  Went : List Slot → ℕ → World → Ran
  Returned : Slot → List Slot → ℕ → World → Ran
  Halted : Fault → List Slot → World → Ran
  Broken : List Slot → ℕ → World → Ran
  Continued : List Slot → ℕ → World → Ran

-- a call: its value and those of its `&out` parameters, the last one first, or a fault
pub data Reply : Type 0 where
  Yields : Slot → List Slot → ℕ → World → Reply
  Raises : Fault → World → Reply

-- functions: which, its arguments with the last one first, ticks and world
abbrev pub Calls : Type 0
Calls = Routine → List Slot → ℕ → World → Reply

-- the local of a number, and 0 where there is none
abbrev pub local_at : List Slot → ℕ → Slot
local_at [] i = Bits 0
local_at (v ∷ vs) zero = v
local_at (v ∷ vs) (suc i) = local_at vs i

abbrev pub local_set : List Slot → ℕ → Slot → List Slot
local_set [] i x = []
local_set (v ∷ vs) zero x = x ∷ vs
local_set (v ∷ vs) (suc i) x = v ∷ local_set vs i x

-- the first n are given up, and the others stay
abbrev pub give_some : ℕ → List Slot → World → World
give_some zero vs w = w
give_some (suc n) [] w = w
give_some (suc n) (v ∷ vs) w = give_some n vs (give v w)

abbrev pub drop_some : ℕ → List Slot → List Slot
drop_some zero vs = vs
drop_some (suc n) [] = []
drop_some (suc n) (v ∷ vs) = drop_some n vs

-- all of these are given up, the last one first
abbrev pub give_back : List Slot → World → World
give_back [] w = w
give_back (v ∷ vs) w = give v (give_back vs w)

-- the first at 0, and else the second
abbrev pub at_zero : {A : Type 0} → ℕ → A → A → A
at_zero zero a b = a
at_zero (suc n) a b = b

-- by a truth value: the second at false, the third at true, and the first where it is none
abbrev pub on_test : {A : Type 0} → Slot → A → A → A → A
on_test (Bits n) bad off on = at_zero n off on
on_test _ bad off on = bad

-- a tick, where one is left
abbrev pub ticked : {A : Type 0} → ℕ → A → (ℕ → A) → A
ticked zero out go = out
ticked (suc t) out go = go t

-- a variable as an operand: one more place holds its value
abbrev pub loaded : Slot → List Slot → ℕ → World → Evaluated
loaded v ls t w = or_else (hold v w) (λ w'. Failed Tally ls w') (λ w'. Gave v ls t w')

abbrev pub performed : Done → List Slot → List Slot → ℕ → Evaluated
performed (Fine v w) vs ls t = Gave v ls t w
performed (Fails f w) vs ls t = Failed f ls (give_all vs w)

-- a strict operation on its operands
abbrev pub applied : (List Slot → World → Done) → Gathered → Evaluated
applied op (Ready vs ls t w) = performed (op vs w) vs ls t
applied op (Broke f ls w) = Failed f ls w

-- a store into a local: the value stands there and is the expression's, and then the old one is given up
abbrev pub assigned : ℕ → Evaluated → Evaluated
assigned i (Gave v ls t w) = or_else (hold v w) (λ w'. Failed Tally ls (give v w')) (λ w'. Gave v (local_set ls i v) t (give (local_at ls i) w'))
assigned i (Failed f ls w) = Failed f ls w

abbrev pub altered_by : ℕ → Changed → Slot → List Slot → ℕ → World → Evaluated
altered_by i (Into stored given) v ls t w = Gave (Bits given) (local_set ls i (Bits stored)) t w
altered_by i (Never f) v ls t w = Failed f ls (give v w)

-- a local changed by an operand
abbrev pub altered : ℕ → Update → Evaluated → Evaluated
altered i c (Gave v ls t w) = altered_by i (change_of c (local_at ls i) v) v ls t w
altered i c (Failed f ls w) = Failed f ls w

-- a choice by a test: the first where it is true, and else the second
abbrev pub chosen : Evaluated → (List Slot → ℕ → World → Evaluated) → (List Slot → ℕ → World → Evaluated) → Evaluated
chosen (Gave v ls t w) one two = on_test v (Failed Null ls (give v w)) (two ls t w) (one ls t w)
chosen (Failed f ls w) one two = Failed f ls w

-- one argument's value, and then the rest
abbrev pub then_rest : List Slot → Evaluated → (Slot → List Slot → ℕ → World → Gathered) → Gathered
then_rest vs (Gave v ls t w) go = go v ls t w
then_rest vs (Failed f ls w) go = Broke f ls (give_all vs w)

-- a value as it is brought to its target's type
unfoldable pub brought : Option Primitive → Slot → Slot
brought (Some p) (Bits n) = Bits (converted p n)
brought _ v = v

-- a variable and the value that moves into it change places
pub record Traded : Type 0 where
  pub old : Slot
  pub locals : List Slot
  pub world : World

abbrev pub trade : ℕ → Spot → Slot → List Slot → World → Traded
trade m (Local i) v ls w = record { old = local_at ls i; locals = local_set ls i v; world = w }
trade m (Global g) v ls w = record { old = global_or m g v w; locals = ls; world = global_put m g v w }
trade m (Field o i) v ls w = record { old = member_or i (local_at ls o) v w; locals = ls; world = member_put i (local_at ls o) v w }

-- the old values of all targets, the last one first
pub record Settled : Type 0 where
  pub olds : List Slot
  pub locals : List Slot
  pub world : World

abbrev pub settled_next : ℕ → Target → Slot → Settled → Settled
settled_next m x v r =
    let moved = trade m x.spot (brought x.to v) r.locals r.world in
    record { olds = moved.old ∷ r.olds; locals = moved.locals; world = moved.world }

-- Values move into targets, the first one first; both lists have the last one first.
abbrev pub settled : ℕ → List Target → List Slot → List Slot → World → Settled
settled m [] outs ls w = record { olds = []; locals = ls; world = w }
settled m (x ∷ xs) [] ls w = record { olds = []; locals = ls; world = w }
settled m (x ∷ xs) (v ∷ outs) ls w = settled_next m x v (settled m xs outs ls w)

-- the new values stand, and then the old ones are given up, the first one first
abbrev pub with_outs : Slot → Settled → ℕ → Evaluated
with_outs v r t = Gave v r.locals t (give_back r.olds r.world)

abbrev pub replied : ℕ → List Target → Reply → List Slot → Evaluated
replied m xs (Yields v outs t w) ls = with_outs v (settled m xs outs ls w) t
replied m xs (Raises f w) ls = Failed f ls w

-- a call with its arguments, and the targets of its `&out` parameters
abbrev pub called : ℕ → (List Slot → ℕ → World → Reply) → List Target → Gathered → Evaluated
called m call xs (Ready vs ls t w) = replied m xs (call vs t w) ls
called m call xs (Broke f ls w) = Failed f ls w

-- the locals above the first n from the outside are given up, whatever the end
abbrev pub leave : ℕ → Ran → Ran
leave n (Went ls t w) = Went (drop_some (length ls - n) ls) t (give_some (length ls - n) ls w)
leave n (Returned v ls t w) = Returned v (drop_some (length ls - n) ls) t (give_some (length ls - n) ls w)
leave n (Halted f ls w) = Halted f (drop_some (length ls - n) ls) (give_some (length ls - n) ls w)
leave n (Broken ls t w) = Broken (drop_some (length ls - n) ls) t (give_some (length ls - n) ls w)
leave n (Continued ls t w) = Continued (drop_some (length ls - n) ls) t (give_some (length ls - n) ls w)

abbrev pub with_value : Evaluated → (Slot → List Slot → ℕ → World → Ran) → Ran
with_value (Gave v ls t w) go = go v ls t w
with_value (Failed f ls w) go = Halted f ls w

abbrev pub then_run : Ran → (List Slot → ℕ → World → Ran) → Ran
then_run (Went ls t w) go = go ls t w
then_run r go = r

-- the end of a loop's body, which leaves n locals: a `continue` goes on with the step, and a `break` after the loop
abbrev pub caught : ℕ → Ran → (List Slot → ℕ → World → Ran) → Ran
caught n (Went ls t w) go = go (drop_some (length ls - n) ls) t (give_some (length ls - n) ls w)
caught n (Continued ls t w) go = go (drop_some (length ls - n) ls) t (give_some (length ls - n) ls w)
caught n (Broken ls t w) go = Went (drop_some (length ls - n) ls) t (give_some (length ls - n) ls w)
caught n (Returned v ls t w) go = Returned v (drop_some (length ls - n) ls) t (give_some (length ls - n) ls w)
caught n (Halted f ls w) go = Halted f (drop_some (length ls - n) ls) (give_some (length ls - n) ls w)

-- the values of the `&out` parameters, and the world after the others gave up theirs; the last parameter is the first
abbrev pub outs_of : List Passing → List Slot → List Slot
outs_of [] vs = []
outs_of (p ∷ ps) [] = []
outs_of (Out ∷ ps) (v ∷ vs) = v ∷ outs_of ps vs
outs_of (p ∷ ps) (v ∷ vs) = outs_of ps vs

abbrev pub give_others : List Passing → List Slot → World → World
give_others [] vs w = w
give_others (p ∷ ps) [] w = w
give_others (Out ∷ ps) (v ∷ vs) w = give_others ps vs w
give_others (p ∷ ps) (v ∷ vs) w = give_others ps vs (give v w)

-- A body's end: it gives up its locals, the last one first, and then the parameters other than `&out`, the last one first.
abbrev pub yielded : List Passing → Slot → List Slot → ℕ → World → Reply
yielded ps v ls t w =
    Yields v (outs_of ps (drop_some (length ls - length ps) ls)) t (give_others ps (drop_some (length ls - length ps) ls) (give_some (length ls - length ps) ls w))

abbrev pub finished : List Passing → Ran → Reply
finished ps (Went ls t w) = yielded ps (Bits 0) ls t w
finished ps (Returned v ls t w) = yielded ps v ls t w
finished ps (Halted f ls w) = Raises f (give_all ls w)
finished ps (Broken ls t w) = yielded ps (Bits 0) ls t w
finished ps (Continued ls t w) = yielded ps (Bits 0) ls t w

-- whether a body with d callers may call
abbrev pub may_nest : Environment → ℕ → Bool
may_nest z d = ltb (d + 1) z.nesting

-- what stands before a body: objects where they are wanted, the nesting, the tick, and memory for its frame
abbrev pub entered : Environment → Calls → ℕ → Routine → List Slot → ℕ → World → Reply
entered z body d g vs t w =
    if has_objects (params_of z g) vs
    then (if may_nest z d
    then (ticked t (Raises Budget (give_all vs w)) (λ t'. or_else (memory_step w) (λ w'. Raises Memory (give_all vs w')) (λ w'. body g vs t' w')))
    else (Raises Depth (give_all vs w)))
    else (Raises Null (give_all vs w))

abbrev pub found_entered : Environment → Calls → ℕ → Found → List Slot → ℕ → World → Reply
found_entered z body d (Enters g) vs t w = entered z body d g vs t w
found_entered z body d (Misses f) vs t w = Raises f (give_all vs w)

-- a call from module m, where d counts the callers of its caller
abbrev pub enter : Environment → Calls → ℕ → ℕ → Callee → List Slot → ℕ → World → Reply
enter z body d m c vs t w = found_entered z body d (target z m c vs w) vs t w

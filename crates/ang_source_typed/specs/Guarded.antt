-- The meaning of scripts once more, where a fault may tell its cause (docs/CLAIMS.md, "What a script means"): a misfit, null where an object is wanted, or an
-- import that leads nowhere. A misfit is a value of another kind than what it meets wants, or a place that is not there: the meaning takes it for null, reads 0,
-- stores nothing, or hands null to the host. What soundness excludes has no guard: a local that is not alive, another number of arguments than of parameters.
use Rattle.std.specs.Prelude.{ℕ, zero, suc, ◌&&◌, not, Bool, true, false, nat_eq, nat_lt, is_some, List, [], ◌∷◌, length, reverse, Option, Some, None}
use Rattle.std.specs.FinMap as map
use Rattle.ang_kinds.specs.declared.fault.Fault.{Fault}
use Rattle.ang_kinds.specs.declared.fault.Fault.TheVariants.{Budget, Memory}
use Rattle.ang_types.specs.declared.arg_type.ArgType.{ArgType}
use Rattle.ang_typed.specs.declared.expression.TypedVariable.{TypedVariable}
use Rattle.ang_typed.specs.declared.expression.TypedVariable.TheVariants as variable
use Rattle.ang_typed.specs.declared.expression.TypedMember.{TypedMember}
use Rattle.ang_typed.specs.declared.expression.TypedMember.TheVariants as member
use Rattle.ang_typed.specs.Typed as t
use Rattle.ang_meaning.specs.declared.slot.Slot.{Slot}
use Rattle.ang_meaning.specs.declared.slot.Slot.TheVariants.{Bits, Script, Host}
use Rattle.ang_meaning.specs.declared.host.HostValueType.{HostValueType}
use Rattle.ang_meaning.specs.declared.host.HostValueType.TheVariants.{Nothing, Plain, Handle}
use Rattle.ang_meaning.specs.declared.operation.Operation.{Operation}
use Rattle.ang_meaning.specs.declared.operation.Operation.TheVariants.{Binary, Compare, Convert, Negate, Complement, Not, Same, GlobalGet, GlobalSet, GlobalChange, Ask, Read, Write, Alter, Make, FieldGet, FieldSet, FieldChange, Cast}
use Rattle.ang_meaning.specs.declared.operation.Update.{Update}
use Rattle.ang_meaning.specs.declared.routine.Routine.{Routine}
use Rattle.ang_meaning.specs.declared.routine.Callee.{Callee}
use Rattle.ang_meaning.specs.declared.routine.Callee.TheVariants.{Own, Import, Virtual}
use Rattle.ang_meaning.specs.declared.routine.Spot.{Spot}
use Rattle.ang_meaning.specs.declared.routine.Spot.TheVariants as spot
use Rattle.ang_meaning.specs.declared.routine.Target.{Target}
use Rattle.ang_meaning.specs.Numbers.{truth}
use Rattle.ang_kinds.specs.Primitives.{is_signed}
use Rattle.ang_meaning.specs.World.{World, ScriptRecord, give, give_all, memory_step, or_else}
use Rattle.ang_meaning.specs.Environment.{Environment, Found, Enters, Misses, params_in, params_of, receiver_in, target, use_at, is_null, has_objects, is_fit}
use Rattle.ang_meaning.specs.Hosts.{Done, Fails}
use Rattle.ang_meaning.specs.Perform.{globals_of, may_take}
use Rattle.ang_meaning.specs.Bodies.{Callees, then_initialized}
use Rattle.ang_meaning.specs.Results.{Evaluated, Gave, Failed, Gathered, Ready, Broke, Ran, Went, Returned, Halted, Broken, Continued, Reply, Yields, Raises, Calls, local_at, ticked, applied, assigned, then_rest, brought, settled, with_value, then_run, caught, loaded, finished, found_entered}
use Rattle.ang_meaning.specs.Results as results
use Rattle.ang_source.specs.Meaning.{Passes, Code, of_function, of_global, Codes, callee_of, compound_of, step_of, default_in, inner, one, two, this_of, targets_of, discarded, in_block, tested}
use Rattle.ang_source.specs.Meaning as source
use Rattle.ang_meaning.specs.Perform as performed

-- ---- guards

-- what follows where a guard's test fails: what the meaning says, or the run ends with this fault
pub data Guard : Type 0 where
  AsMeant : Guard
  Faulting : Fault → Guard

abbrev pub guard : {A : Type 0} → Guard → Bool → A → (Fault → A) → A
guard AsMeant passes go bad = go
guard (Faulting f) true go bad = go
guard (Faulting f) false go bad = bad f

-- the guards against each cause
pub record Guards : Type 0 where
  pub misfit : Guard
  pub null : Guard
  pub unbound : Guard

abbrev pub as_meant : Guards
as_meant = record { misfit = AsMeant; null = AsMeant; unbound = AsMeant }

abbrev pub misfits : Guard → Guards
misfits g = record { misfit = g; null = AsMeant; unbound = AsMeant }

-- a fault for each
abbrev pub causes : (misfit null unbound : Fault) → Guards
causes f n u = record { misfit = Faulting f; null = Faulting n; unbound = Faulting u }

-- ---- what fits

-- whether values of the type are numbers
abbrev pub is_number_type : HostValueType → Bool
is_number_type Nothing = true
is_number_type (Plain p) = true
is_number_type Handle = false

abbrev pub is_number : Slot → Bool
is_number (Bits n) = true
is_number (Script k) = false
is_number (Host d k) = false

-- null, or an object of whatever kind
abbrev pub is_handle : Slot → Bool
is_handle (Bits n) = false
is_handle (Script k) = true
is_handle (Host d k) = true

-- null, or an object of scripts
abbrev pub is_script : Slot → Bool
is_script (Bits n) = false
is_script (Script k) = true
is_script (Host d k) = false

-- null, or an object of driver d
abbrev pub is_of_driver : ℕ → Slot → Bool
is_of_driver d (Bits n) = false
is_of_driver d (Script None) = true
is_of_driver d (Script (Some n)) = false
is_of_driver d (Host e None) = true
is_of_driver d (Host e (Some k)) = nat_eq d e

-- what driver d is handed or asked for, where its declared type is this
abbrev pub is_of_host : ℕ → HostValueType → Slot → Bool
is_of_host d Nothing v = is_number v
is_of_host d (Plain p) v = is_number v
is_of_host d Handle v = is_of_driver d v

-- as many values as types, each of its own
abbrev pub are_of_host : ℕ → List HostValueType → List Slot → Bool
are_of_host d [] [] = true
are_of_host d [] (v ∷ vs) = false
are_of_host d (ty ∷ types) [] = false
are_of_host d (ty ∷ types) (v ∷ vs) = is_of_host d ty v && are_of_host d types vs

-- the types of what an entity takes: a receiver is the first one
abbrev pub with_receiver : Bool → List HostValueType → List HostValueType
with_receiver true types = Handle ∷ types
with_receiver false types = types

abbrev pub fields_in : Option ScriptRecord → List Slot
fields_in None = []
fields_in (Some o) = o.fields

-- a handle of scripts, and an object that it names has the field
abbrev pub has_field : ℕ → Slot → World → Bool
has_field i (Bits n) w = false
has_field i (Script None) w = true
has_field i (Script (Some n)) w = nat_lt i (length (fields_in (map.get w.objects n)))
has_field i (Host d k) w = false

-- and may hold the value there
abbrev pub field_may_hold : ℕ → Slot → Slot → World → Bool
field_may_hold i (Bits n) v w = false
field_may_hold i (Script None) v w = true
field_may_hold i (Script (Some n)) v w = nat_lt i (length (fields_in (map.get w.objects n))) && may_take n v w
field_may_hold i (Host d k) v w = false

abbrev pub field_in : ℕ → Slot → World → Slot
field_in i (Bits n) w = Bits 0
field_in i (Script None) w = Bits 0
field_in i (Script (Some n)) w = local_at (fields_in (map.get w.objects n)) i
field_in i (Host d k) w = Bits 0

abbrev pub has_global : ℕ → ℕ → World → Bool
has_global m g w = nat_lt g (length (globals_of m w))

-- the operands of an operation are of the kinds that it works on, and its place is there; they come with the last one first
unfoldable pub fits : Environment → ℕ → Operation → List Slot → World → Bool
fits z m (Binary a p) (y ∷ x ∷ []) w = is_number y && is_number x
fits z m (Compare c signed) (y ∷ x ∷ []) w = is_number y && is_number x
fits z m (Convert p) (x ∷ []) w = is_number x
fits z m (Negate p) (x ∷ []) w = is_number x
fits z m (Complement p) (x ∷ []) w = is_number x
fits z m Not (x ∷ []) w = is_number x
fits z m Same (y ∷ x ∷ []) w = is_handle y && is_handle x
fits z m (GlobalGet g) [] w = has_global m g w
fits z m (GlobalSet g) (v ∷ []) w = has_global m g w
fits z m (GlobalChange c g) (v ∷ []) w = has_global m g w && (is_number (local_at (globals_of m w) g) && is_number v)
fits z m (Ask e) vs w = are_of_host (use_at z m e).driver (with_receiver (use_at z m e).member (use_at z m e).params) (reverse vs)
fits z m (Read e) vs w = are_of_host (use_at z m e).driver (with_receiver (use_at z m e).member []) vs
fits z m (Write e) vs w = are_of_host (use_at z m e).driver (with_receiver (use_at z m e).member ((use_at z m e).result ∷ [])) vs
fits z m (Alter e c) vs w =
    is_number_type (use_at z m e).result && are_of_host (use_at z m e).driver (with_receiver (use_at z m e).member ((use_at z m e).result ∷ [])) vs
fits z m (Make c) [] w = true
fits z m (FieldGet i) (o ∷ []) w = has_field i o w
fits z m (FieldSet i) (o ∷ v ∷ []) w = field_may_hold i o v w
fits z m (FieldChange c i) (o ∷ v ∷ []) w = has_field i o w && (is_number (field_in i o w) && is_number v)
fits z m (Cast c) (o ∷ []) w = is_script o
fits z m _ _ w = false

abbrev pub has_method_at : Environment → ℕ → ℕ → Option ScriptRecord → Bool
has_method_at z m s None = false
has_method_at z m s (Some o) = is_some (z.method m o.class s)

-- null, or an object whose class has a method in the slot
abbrev pub has_method : Environment → ℕ → ℕ → Slot → World → Bool
has_method z m s (Bits n) w = false
has_method z m s (Script None) w = true
has_method z m s (Script (Some n)) w = has_method_at z m s (map.get w.objects n)
has_method z m s (Host d k) w = false

-- a call finds its function, or its receiver is null, or its import is not bound
abbrev pub finds : Environment → ℕ → Callee → List Slot → World → Bool
finds z m (Own g) vs w = true
finds z m (Import i) vs w = true
finds z m (Virtual s) vs w = has_method z m s (receiver_in (params_in (z.slot m s)) vs) w

-- ---- null where an object is wanted, and imports that lead nowhere

-- the first value is that of an object, where one is wanted there
abbrev pub has_first : Bool → List Slot → Bool
has_first false vs = true
has_first true [] = false
has_first true (v ∷ vs) = not (is_null v)

-- the object on which an operation works is not null
unfoldable pub has_object : Environment → ℕ → Operation → List Slot → Bool
has_object z m (Binary a p) vs = true
has_object z m (Compare c signed) vs = true
has_object z m (Convert p) vs = true
has_object z m (Negate p) vs = true
has_object z m (Complement p) vs = true
has_object z m Not vs = true
has_object z m Same vs = true
has_object z m (GlobalGet g) vs = true
has_object z m (GlobalSet g) vs = true
has_object z m (GlobalChange c g) vs = true
has_object z m (Ask e) vs = has_first (use_at z m e).member (reverse vs)
has_object z m (Read e) vs = has_first (use_at z m e).member vs
has_object z m (Write e) vs = has_first (use_at z m e).member vs
has_object z m (Alter e c) vs = has_first (use_at z m e).member vs
has_object z m (Make c) vs = true
has_object z m (FieldGet i) vs = has_first true vs
has_object z m (FieldSet i) vs = has_first true vs
has_object z m (FieldChange c i) vs = has_first true vs
has_object z m (Cast c) vs = true

-- the receiver of a method is not null
abbrev pub has_receiver : Environment → ℕ → Callee → List Slot → Bool
has_receiver z m (Own g) vs = true
has_receiver z m (Import i) vs = true
has_receiver z m (Virtual s) vs = not (is_null (receiver_in (params_in (z.slot m s)) vs))

-- no argument is null where the function that is found takes an object itself
abbrev pub has_arguments : Environment → Found → List Slot → Bool
has_arguments z (Enters g) vs = has_objects (params_of z g) vs
has_arguments z (Misses f) vs = true

-- an import leads to a function
abbrev pub is_linked : Environment → ℕ → Callee → Bool
is_linked z m (Own g) = true
is_linked z m (Import i) = is_some (z.linked m i)
is_linked z m (Virtual s) = true

-- ---- targets of `&out` values

-- a place holds a number where the value is one, and a handle where it is a handle
abbrev pub is_alike : Slot → Slot → Bool
is_alike (Bits n) v = is_number v
is_alike (Script k) v = is_handle v
is_alike (Host d k) v = is_handle v

-- a variable is there, and takes the value
abbrev pub spot_takes : ℕ → Spot → Slot → List Slot → World → Bool
spot_takes m (spot.Local i) v ls w = nat_lt i (length ls) && is_alike (local_at ls i) v
spot_takes m (spot.Global g) v ls w = has_global m g w && is_alike (local_at (globals_of m w) g) v
spot_takes m (spot.Field o i) v ls w = field_may_hold i (local_at ls o) v w

-- the place that a target names takes the value
abbrev pub takes : ℕ → Target → Slot → List Slot → World → Bool
takes m x v ls w = spot_takes m x.spot (brought x.to v) ls w

-- each takes its own, after those before it have taken theirs; both lists have the last one first
abbrev pub all_take : ℕ → List Target → List Slot → List Slot → World → Bool
all_take m [] [] ls w = true
all_take m [] (v ∷ outs) ls w = false
all_take m (x ∷ xs) [] ls w = false
all_take m (x ∷ xs) (v ∷ outs) ls w =
    let before = settled m xs outs ls w in all_take m xs outs ls w && takes m x v before.locals before.world

-- ---- the guarded meaning: what follows is that of `ang_source`, word for word, but for the guards

module _ (y : Guards) (z : Environment) where
  abbrev pub perform : ℕ → Operation → List Slot → World → Done
  perform m o vs w =
      guard y.misfit (is_fit z m o && fits z m o vs w) (guard y.null (has_object z m o vs) (performed.perform z m o vs w) (λ f. Fails f w)) (λ f. Fails f w)

  -- a choice by a test, which is a number
  abbrev pub chosen : Evaluated → (List Slot → ℕ → World → Evaluated) → (List Slot → ℕ → World → Evaluated) → Evaluated
  chosen (Gave v ls t w) one two = guard y.misfit (is_number v) (results.chosen (Gave v ls t w) one two) (λ f. Failed f ls (give v w))
  chosen (Failed f ls w) one two = Failed f ls w

  abbrev pub branched : Evaluated → (List Slot → ℕ → World → Ran) → (List Slot → ℕ → World → Ran) → Ran
  branched (Gave v ls t w) go other = guard y.misfit (is_number v) (source.branched (Gave v ls t w) go other) (λ f. Halted f ls (give v w))
  branched (Failed f ls w) go other = Halted f ls w

  -- a local that is a number, changed by a number
  abbrev pub altered : ℕ → Update → Evaluated → Evaluated
  altered i c (Gave v ls t w) =
      guard y.misfit (is_number (local_at ls i) && is_number v) (results.altered i c (Gave v ls t w)) (λ f. Failed f ls (give v w))
  altered i c (Failed f ls w) = Failed f ls w

  abbrev pub replied : ℕ → List Target → Reply → List Slot → Evaluated
  replied m xs (Yields v outs t w) ls =
      guard y.misfit (all_take m xs outs ls w) (results.replied m xs (Yields v outs t w) ls) (λ f. Failed f ls (give_all outs (give v w)))
  replied m xs (Raises f w) ls = Failed f ls w

  abbrev pub called : ℕ → (List Slot → ℕ → World → Reply) → List Target → Gathered → Evaluated
  called m call xs (Ready vs ls t w) = replied m xs (call vs t w) ls
  called m call xs (Broke f ls w) = Failed f ls w

  abbrev pub enter : Calls → ℕ → ℕ → Callee → List Slot → ℕ → World → Reply
  enter body d m c vs t w =
      let bad : Fault → Reply = λ f. Raises f (give_all vs w) in
      let found : Found = target z m c vs w in
      guard y.misfit (finds z m c vs w)
      (guard y.null (has_receiver z m c vs && has_arguments z found vs) (guard y.unbound (is_linked z m c) (found_entered z body d found vs t w) bad) bad) bad

  -- ---- variables and members

  module _ (m : ℕ) where
    abbrev pub read_variable : TypedVariable → List Slot → ℕ → World → Evaluated
    read_variable (variable.Local i) ls t w = loaded (local_at ls (inner ls i)) ls t w
    read_variable (variable.Global g) ls t w = applied (perform m (GlobalGet g)) (Ready [] ls t w)
    read_variable (variable.Property h) ls t w = applied (perform m (Read h.entity)) (Ready [] ls t w)
    read_variable (variable.Field i) ls t w = applied (perform m (FieldGet i)) (one (this_of ls t w))

    abbrev pub read_member : TypedMember → Evaluated → Evaluated
    read_member (member.Field i) o = applied (perform m (FieldGet i)) (one o)
    read_member (member.Property h) o = applied (perform m (Read h.entity)) (one o)

    abbrev pub stored : TypedVariable → List Slot → Evaluated → Evaluated
    stored (variable.Local i) ls e = assigned (inner ls i) e
    stored (variable.Global g) ls e = applied (perform m (GlobalSet g)) (one e)
    stored (variable.Property h) ls e = applied (perform m (Write h.entity)) (one e)
    stored (variable.Field i) ls e = applied (perform m (FieldSet i)) (two e this_of)

    abbrev pub member_stored : TypedMember → Evaluated → (List Slot → ℕ → World → Evaluated) → Evaluated
    member_stored (member.Field i) e object = applied (perform m (FieldSet i)) (two e object)
    member_stored (member.Property h) e object = applied (perform m (Write h.entity)) (two e object)

    abbrev pub changed_by : TypedVariable → List Slot → Update → Evaluated → Evaluated
    changed_by (variable.Local i) ls c e = altered (inner ls i) c e
    changed_by (variable.Global g) ls c e = applied (perform m (GlobalChange c g)) (one e)
    changed_by (variable.Property h) ls c e = applied (perform m (Alter h.entity c)) (one e)
    changed_by (variable.Field i) ls c e = applied (perform m (FieldChange c i)) (two e this_of)

    abbrev pub member_changed : TypedMember → Update → Evaluated → (List Slot → ℕ → World → Evaluated) → Evaluated
    member_changed (member.Field i) c e object = applied (perform m (FieldChange c i)) (two e object)
    member_changed (member.Property h) c e object = applied (perform m (Alter h.entity c)) (two e object)

    -- ---- expressions

    abbrev mutual
      pub evaluate : Callees → t.Expr → List Slot → ℕ → World → Evaluated
      evaluate c (t.number ty n) ls t w = Gave (Bits n) ls t w
      evaluate c (t.truth b) ls t w = Gave (Bits (truth b)) ls t w
      evaluate c (t.read (t.named x) ty) ls t w = read_variable x ls t w
      evaluate c (t.read (t.member_of o a) ty) ls t w = read_member a (evaluate c o ls t w)
      evaluate c t.null ls t w = Gave (Script None) ls t w
      evaluate c (t.convert from to e) ls t w = applied (perform m (Convert to)) (one (evaluate c e ls t w))
      evaluate c (t.negate ty e) ls t w = applied (perform m (Negate ty)) (one (evaluate c e ls t w))
      evaluate c (t.complement ty e) ls t w = applied (perform m (Complement ty)) (one (evaluate c e ls t w))
      evaluate c (t.not e) ls t w = applied (perform m Not) (one (evaluate c e ls t w))
      evaluate c (t.operate op ty l r) ls t w = applied (perform m (Binary op ty)) (two (evaluate c l ls t w) (evaluate c r))
      evaluate c (t.compare op ty l r) ls t w = applied (perform m (Compare op (is_signed ty))) (two (evaluate c l ls t w) (evaluate c r))
      evaluate c (t.and l r) ls t w = chosen (evaluate c l ls t w) (evaluate c r) (λ ls' t' w'. Gave (Bits (truth false)) ls' t' w')
      evaluate c (t.or l r) ls t w = chosen (evaluate c l ls t w) (λ ls' t' w'. Gave (Bits (truth true)) ls' t' w') (evaluate c r)
      evaluate c (t.choose a l r) ls t w = chosen (evaluate c a ls t w) (evaluate c l) (evaluate c r)
      evaluate c (t.same l r) ls t w = applied (perform m Same) (two (evaluate c l ls t w) (evaluate c r))
      evaluate c (t.naming x e) ls t w = evaluate c e ls t w
      evaluate c (t.cast n e) ls t w = applied (perform m (Cast n)) (one (evaluate c e ls t w))
      evaluate c (t.make n None args) ls t w = applied (perform m (Make n)) (Ready [] ls t w)
      evaluate c (t.make n (Some k) args) ls t w =
          called m (c (Own k)) (targets_of ls args)
          (then_rest [] (applied (perform m (Make n)) (Ready [] ls t w)) (λ o ls' t' w'. evaluate_all c args (o ∷ []) ls' t' w'))
      evaluate c (t.assign (t.named x) ty e) ls t w = stored x ls (evaluate c e ls t w)
      evaluate c (t.assign (t.member_of o a) ty e) ls t w = member_stored a (evaluate c e ls t w) (evaluate c o)
      evaluate c (t.compound (t.named x) ty op at e) ls t w = changed_by x ls (compound_of ty op at) (evaluate c e ls t w)
      evaluate c (t.compound (t.member_of o a) ty op at e) ls t w = member_changed a (compound_of ty op at) (evaluate c e ls t w) (evaluate c o)
      evaluate c (t.step (t.named x) ty kind) ls t w = changed_by x ls (step_of ty kind) (Gave (Bits 1) ls t w)
      evaluate c (t.step (t.member_of o a) ty kind) ls t w = member_changed a (step_of ty kind) (Gave (Bits 1) ls t w) (evaluate c o)
      evaluate c (t.call f ty args) ls t w = called m (c (callee_of f)) (targets_of ls args) (evaluate_all c args [] ls t w)
      evaluate c (t.host_call h ty args) ls t w = applied (perform m (Ask h.entity)) (evaluate_all c args [] ls t w)

      pub evaluate_all : Callees → t.Args → List Slot → List Slot → ℕ → World → Gathered
      evaluate_all c t.none vs ls t w = Ready vs ls t w
      evaluate_all c (t.more a args) vs ls t w = then_rest vs (evaluate_argument c a ls t w) (λ v ls' t' w'. evaluate_all c args (v ∷ vs) ls' t' w')

      pub evaluate_argument : Callees → t.Arg → List Slot → ℕ → World → Evaluated
      evaluate_argument c (t.by_value ty e) ls t w = evaluate c e ls t w
      evaluate_argument c (t.out x from to) ls t w = Gave (default_in from) ls t w

    -- ---- statements

    abbrev pub begin_local : Callees → ArgType → Option t.Expr → List Slot → ℕ → World → Evaluated
    begin_local c ty None ls t w = Gave (default_in ty) ls t w
    begin_local c ty (Some e) ls t w = evaluate c e ls t w

    abbrev pub evaluate_or : Callees → ℕ → Option t.Expr → List Slot → ℕ → World → Evaluated
    evaluate_or c n None ls t w = Gave (Bits n) ls t w
    evaluate_or c n (Some e) ls t w = evaluate c e ls t w

    abbrev pub run_locals : Callees → List t.Local → List Slot → ℕ → World → Ran
    run_locals c [] ls t w = Went ls t w
    run_locals c (l ∷ rest) ls t w = with_value (begin_local c l.ty l.initializer ls t w) (λ v ls' t' w'. run_locals c rest (v ∷ ls') t' w')

    abbrev pub run_steps : Callees → List t.Expr → List Slot → ℕ → World → Ran
    run_steps c [] ls t w = Went ls t w
    run_steps c (e ∷ es) ls t w = then_run (discarded (evaluate c e ls t w)) (run_steps c es)

    abbrev mutual
      pub run : Callees → Passes → t.Stmt → List Slot → ℕ → World → Ran
      run c p (t.block ss) ls t w = in_block (run_all c p ss) ls t w
      run c p (t.locals locals) ls t w = run_locals c locals ls t w
      run c p (t.expression None) ls t w = Went ls t w
      run c p (t.expression (Some e)) ls t w = discarded (evaluate c e ls t w)
      run c p t.break ls t w = Broken ls t w
      run c p t.continue ls t w = Continued ls t w
      run c p (t.return e) ls t w = with_value (evaluate_or c 0 e ls t w) (λ v ls' t' w'. Returned v ls' t' w')
      run c p (t.either e ss otherwise) ls t w = branched (evaluate c e ls t w) (in_block (run_all c p ss)) (in_block (run_all c p otherwise))
      run c p (t.while e ss) ls t w = tested (p (Some e) ss []) ls t w
      run c p (t.do_while ss e) ls t w = caught (length ls) (run_all c p ss ls t w) (tested (p (Some e) ss []))
      run c p (t.for start e steps ss) ls t w = in_block (λ ls' t' w'. then_run (run_all c p start ls' t' w') (tested (p e ss steps))) ls t w

      pub run_all : Callees → Passes → t.Stmts → List Slot → ℕ → World → Ran
      run_all c p t.end ls t w = Went ls t w
      run_all c p (t.then s ss) ls t w = then_run (run c p s ls t w) (run_all c p ss)

    abbrev pub pass_of : Callees → Passes → Passes
    pass_of c p e ss steps ls t w =
        branched (evaluate_or c 1 e ls t w)
        (λ ls' t' w'. caught (length ls') (run_all c p ss ls' t' w') (λ l2 t2 w2. then_run (run_steps c steps l2 t2 w2) (tested (p e ss steps))))
        (λ ls' t' w'. Went ls' t' w')

    abbrev pub run_code : Callees → Passes → Code → List Slot → ℕ → World → Ran
    run_code c p (of_function ss) ls t w = in_block (run_all c p ss) ls t w
    run_code c p (of_global g e) ls t w = discarded (stored (variable.Global g) ls (evaluate c e ls t w))

  -- ---- bodies

  abbrev mutual
    pub body_at : Codes → ℕ → ℕ → Calls
    body_at codes zero d g vs t w = Raises Budget w
    body_at codes (suc n) d g vs t w =
        finished (params_of z g) (run_code g.home (enter (body_at codes n (suc d)) d g.home) (pass_at codes n d g.home) (codes g) vs t w)

    pub pass_at : Codes → ℕ → ℕ → ℕ → Passes
    pass_at codes zero d m e ss steps ls t w = Halted Budget ls w
    pass_at codes (suc n) d m e ss steps ls t w = pass_of m (enter (body_at codes n (suc d)) d m) (pass_at codes n d m) e ss steps ls t w

  abbrev pub begun : Codes → Routine → List Slot → ℕ → World → Reply
  begun codes g vs t w = or_else (memory_step w) (λ w'. Raises Memory (give_all vs w')) (λ w'. body_at codes (suc t) 0 g vs t w')

  abbrev pub called_with : Codes → ℕ → Routine → List Slot → World → Reply
  called_with codes budget g vs w = ticked budget (Raises Budget (give_all vs w)) (λ t. begun codes g vs t w)

  abbrev pub initialized : Codes → ℕ → Routine → World → Reply
  initialized codes t g w = begun codes g [] t w

  abbrev pub initialized_all : Codes → List Routine → ℕ → World → Reply
  initialized_all codes [] t w = Yields (Bits 0) [] t w
  initialized_all codes (g ∷ gs) t w = then_initialized (initialized codes t g w) (λ t' w'. initialized_all codes gs t' w')

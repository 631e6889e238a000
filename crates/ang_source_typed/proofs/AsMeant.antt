-- Where a misfit does what the meaning says, the guarded meaning is the meaning.
use Rattle.std.proofs.Common.{◌≡◌, ℕ, zero, suc, List, [], ◌∷◌, length, Option, Some, None, refl, ap, ◌∙◌}
use Rattle.std.specs.Prelude.{true, false}
use Rattle.ang_kinds.specs.declared.fault.Fault.TheVariants.{Budget, Memory}
use Rattle.ang_typed.specs.declared.expression.TypedVariable.{TypedVariable}
use Rattle.ang_typed.specs.declared.expression.TypedVariable.TheVariants as variable
use Rattle.ang_typed.specs.declared.expression.TypedMember.{TypedMember}
use Rattle.ang_typed.specs.declared.expression.TypedMember.TheVariants as member
use Rattle.ang_types.specs.declared.arg_type.ArgType.{ArgType}
use Rattle.ang_typed.specs.Typed as t
use Rattle.ang_meaning.specs.declared.slot.Slot.{Slot}
use Rattle.ang_meaning.specs.declared.slot.Slot.TheVariants.{Bits}
use Rattle.ang_meaning.specs.declared.operation.Operation.TheVariants.{Binary, Compare, Convert, Negate, Complement, Not, Same, Ask, Make, Cast}
use Rattle.ang_meaning.specs.declared.operation.Update.{Update}
use Rattle.ang_meaning.specs.declared.routine.Routine.{Routine}
use Rattle.ang_meaning.specs.declared.routine.Callee.{Callee}
use Rattle.ang_meaning.specs.declared.routine.Callee.TheVariants.{Own}
use Rattle.ang_meaning.specs.declared.routine.Target.{Target}
use Rattle.ang_meaning.specs.Numbers.{truth}
use Rattle.ang_kinds.specs.Primitives.{is_signed}
use Rattle.ang_meaning.specs.World.{World, give_all, memory_step, or_else}
use Rattle.ang_meaning.specs.Environment.{Environment, params_of, target}
use Rattle.ang_meaning.specs.Perform.{perform}
use Rattle.ang_meaning.specs.Bodies.{Callees, then_initialized}
use Rattle.ang_meaning.specs.Results.{Evaluated, Gave, Failed, Gathered, Ready, Broke, Ran, Went, Returned, Reply, Yields, Raises, Calls, ticked, applied, altered, chosen, then_rest, replied, called, leave, with_value, then_run, caught, finished, enter, found_entered}
use Rattle.ang_source.specs.Meaning.{Passes, Code, of_function, of_global, Codes, callee_of, compound_of, step_of, one, two, targets_of, stored, discarded, branched, in_block, tested, read_variable, read_member, member_stored, changed_by, member_changed, evaluate, evaluate_all, evaluate_argument, begin_local, evaluate_or, run_locals, run_steps, run, run_all, pass_of, run_code, body_at, pass_at, begun, initialized_all}
use Rattle.ang_source_typed.specs.Guarded.{as_meant}
use Rattle.ang_source_typed.specs.Guarded as guarded
use Rattle.ang_source_typed.specs.Runs.{CallsAreAsMeant, InitializersAreAsMeant}

-- ---- combinators

module _ (z : Environment) where
  abbrev Go : Type 0
  Go = List Slot → ℕ → World → Evaluated

  chosen_is : (e : Evaluated) (one two : Go) → guarded.chosen as_meant z e one two ≡ chosen e one two
  chosen_is (Gave v ls t w) one two = refl
  chosen_is (Failed f ls w) one two = refl

  branched_is : (e : Evaluated) (go other : List Slot → ℕ → World → Ran) → guarded.branched as_meant z e go other ≡ branched e go other
  branched_is (Gave v ls t w) go other = refl
  branched_is (Failed f ls w) go other = refl

  altered_is : (i : ℕ) (c : Update) (e : Evaluated) → guarded.altered as_meant z i c e ≡ altered i c e
  altered_is i c (Gave v ls t w) = refl
  altered_is i c (Failed f ls w) = refl

  replied_is : (m : ℕ) (xs : List Target) (r : Reply) (ls : List Slot) → guarded.replied as_meant z m xs r ls ≡ replied m xs r ls
  replied_is m xs (Yields v outs t w) ls = refl
  replied_is m xs (Raises f w) ls = refl

  called_is : (m : ℕ) (call : List Slot → ℕ → World → Reply) (xs : List Target) (g : Gathered) → guarded.called as_meant z m call xs g ≡ called m call xs g
  called_is m call xs (Ready vs ls t w) = replied_is m xs (call vs t w) ls
  called_is m call xs (Broke f ls w) = refl

-- ---- expressions and statements, over calls and passes that are as meant

module _ (z : Environment) (m : ℕ) (by calls : Callees) (calls_are : (k : Callee) (vs : List Slot) (t : ℕ) (w : World) → by k vs t w ≡ calls k vs t w) where
  stored_is : (x : TypedVariable) (ls : List Slot) (e : Evaluated) → guarded.stored as_meant z m x ls e ≡ stored z m x ls e
  stored_is (variable.Local i) ls e = refl
  stored_is (variable.Global g) ls e = refl
  stored_is (variable.Property h) ls e = refl
  stored_is (variable.Field i) ls e = refl

  read_is : (x : TypedVariable) (ls : List Slot) (n : ℕ) (w : World) → guarded.read_variable as_meant z m x ls n w ≡ read_variable z m x ls n w
  read_is (variable.Local i) ls n w = refl
  read_is (variable.Global g) ls n w = refl
  read_is (variable.Property h) ls n w = refl
  read_is (variable.Field i) ls n w = refl

  member_read_is : (x : TypedMember) (e : Evaluated) → guarded.read_member as_meant z m x e ≡ read_member z m x e
  member_read_is (member.Field i) e = refl
  member_read_is (member.Property h) e = refl

  member_stored_is : (x : TypedMember) (e : Evaluated) (object : List Slot → ℕ → World → Evaluated) → guarded.member_stored as_meant z m x e object ≡ member_stored z m x e object
  member_stored_is (member.Field i) e object = refl
  member_stored_is (member.Property h) e object = refl

  changed_is : (x : TypedVariable) (ls : List Slot) (c : Update) (e : Evaluated) → guarded.changed_by as_meant z m x ls c e ≡ changed_by z m x ls c e
  changed_is (variable.Local i) ls c e = altered_is z _ c e
  changed_is (variable.Global g) ls c e = refl
  changed_is (variable.Property h) ls c e = refl
  changed_is (variable.Field i) ls c e = refl

  member_changed_is : (x : TypedMember) (c : Update) (e : Evaluated) (object : List Slot → ℕ → World → Evaluated)
      → guarded.member_changed as_meant z m x c e object ≡ member_changed z m x c e object
  member_changed_is (member.Field i) c e object = refl
  member_changed_is (member.Property h) c e object = refl

  mutual
    eval_is : (e : t.Expr) (ls : List Slot) (n : ℕ) (w : World) → guarded.evaluate as_meant z m by e ls n w ≡ evaluate z m calls e ls n w
    eval_is (t.number ty k) ls n w = refl
    eval_is (t.truth b) ls n w = refl
    eval_is (t.read (t.named x) ty) ls n w = read_is x ls n w
    eval_is (t.read (t.member_of o a) ty) ls n w =
        member_read_is a (guarded.evaluate as_meant z m by o ls n w) ∙ ap (read_member z m a) (eval_is o ls n w)
    eval_is t.null ls n w = refl
    eval_is (t.convert from to e) ls n w = λ j. applied (perform z m (Convert to)) (one (eval_is e ls n w j))
    eval_is (t.negate ty e) ls n w = λ j. applied (perform z m (Negate ty)) (one (eval_is e ls n w j))
    eval_is (t.complement ty e) ls n w = λ j. applied (perform z m (Complement ty)) (one (eval_is e ls n w j))
    eval_is (t.not e) ls n w = λ j. applied (perform z m Not) (one (eval_is e ls n w j))
    eval_is (t.operate op ty l r) ls n w = λ j. applied (perform z m (Binary op ty)) (two (eval_is l ls n w j) (λ ls' n' w'. eval_is r ls' n' w' j))
    eval_is (t.compare op ty l r) ls n w =
        λ j. applied (perform z m (Compare op (is_signed ty))) (two (eval_is l ls n w j) (λ ls' n' w'. eval_is r ls' n' w' j))
    eval_is (t.and l r) ls n w =
        chosen_is z (guarded.evaluate as_meant z m by l ls n w) (guarded.evaluate as_meant z m by r) (λ ls' n' w'. Gave (Bits (truth false)) ls' n' w')
        ∙ (λ j. chosen (eval_is l ls n w j) (λ ls' n' w'. eval_is r ls' n' w' j) (λ ls' n' w'. Gave (Bits (truth false)) ls' n' w'))
    eval_is (t.or l r) ls n w =
        chosen_is z (guarded.evaluate as_meant z m by l ls n w) (λ ls' n' w'. Gave (Bits (truth true)) ls' n' w') (guarded.evaluate as_meant z m by r)
        ∙ (λ j. chosen (eval_is l ls n w j) (λ ls' n' w'. Gave (Bits (truth true)) ls' n' w') (λ ls' n' w'. eval_is r ls' n' w' j))
    eval_is (t.choose a l r) ls n w =
        chosen_is z (guarded.evaluate as_meant z m by a ls n w) (guarded.evaluate as_meant z m by l) (guarded.evaluate as_meant z m by r)
        ∙ (λ j. chosen (eval_is a ls n w j) (λ ls' n' w'. eval_is l ls' n' w' j) (λ ls' n' w'. eval_is r ls' n' w' j))
    eval_is (t.same l r) ls n w = λ j. applied (perform z m Same) (two (eval_is l ls n w j) (λ ls' n' w'. eval_is r ls' n' w' j))
    eval_is (t.naming x e) ls n w = eval_is e ls n w
    eval_is (t.cast k e) ls n w = λ j. applied (perform z m (Cast k)) (one (eval_is e ls n w j))
    eval_is (t.make k None args) ls n w = refl
    eval_is (t.make k (Some f) args) ls n w =
        called_is z m (by (Own f)) (targets_of ls args)
        (then_rest [] (applied (perform z m (Make k)) (Ready [] ls n w)) (λ o ls' n' w'. guarded.evaluate_all as_meant z m by args (o ∷ []) ls' n' w'))
        ∙ (λ j. called m (λ vs n' w'. calls_are (Own f) vs n' w' j) (targets_of ls args)
        (then_rest [] (applied (perform z m (Make k)) (Ready [] ls n w)) (λ o ls' n' w'. all_is args (o ∷ []) ls' n' w' j)))
    eval_is (t.assign (t.named x) ty e) ls n w = stored_is x ls (guarded.evaluate as_meant z m by e ls n w) ∙ ap (stored z m x ls) (eval_is e ls n w)
    eval_is (t.assign (t.member_of o a) ty e) ls n w =
        member_stored_is a (guarded.evaluate as_meant z m by e ls n w) (guarded.evaluate as_meant z m by o)
        ∙ (λ j. member_stored z m a (eval_is e ls n w j) (λ ls' n' w'. eval_is o ls' n' w' j))
    eval_is (t.compound (t.named x) ty op at e) ls n w =
        changed_is x ls (compound_of ty op at) (guarded.evaluate as_meant z m by e ls n w) ∙ ap (changed_by z m x ls (compound_of ty op at)) (eval_is e ls n w)
    eval_is (t.compound (t.member_of o a) ty op at e) ls n w =
        member_changed_is a (compound_of ty op at) (guarded.evaluate as_meant z m by e ls n w) (guarded.evaluate as_meant z m by o)
        ∙ (λ j. member_changed z m a (compound_of ty op at) (eval_is e ls n w j) (λ ls' n' w'. eval_is o ls' n' w' j))
    eval_is (t.step (t.named x) ty kind) ls n w = changed_is x ls (step_of ty kind) (Gave (Bits 1) ls n w)
    eval_is (t.step (t.member_of o a) ty kind) ls n w =
        member_changed_is a (step_of ty kind) (Gave (Bits 1) ls n w) (guarded.evaluate as_meant z m by o)
        ∙ (λ j. member_changed z m a (step_of ty kind) (Gave (Bits 1) ls n w) (λ ls' n' w'. eval_is o ls' n' w' j))
    eval_is (t.call f ty args) ls n w =
        called_is z m (by (callee_of f)) (targets_of ls args) (guarded.evaluate_all as_meant z m by args [] ls n w)
        ∙ (λ j. called m (λ vs n' w'. calls_are (callee_of f) vs n' w' j) (targets_of ls args) (all_is args [] ls n w j))
    eval_is (t.host_call h ty args) ls n w = λ j. applied (perform z m (Ask h.entity)) (all_is args [] ls n w j)

    all_is : (args : t.Args) (vs ls : List Slot) (n : ℕ) (w : World) → guarded.evaluate_all as_meant z m by args vs ls n w ≡ evaluate_all z m calls args vs ls n w
    all_is t.none vs ls n w = refl
    all_is (t.more a args) vs ls n w = λ j. then_rest vs (argument_is a ls n w j) (λ v ls' n' w'. all_is args (v ∷ vs) ls' n' w' j)

    argument_is : (a : t.Arg) (ls : List Slot) (n : ℕ) (w : World) → guarded.evaluate_argument as_meant z m by a ls n w ≡ evaluate_argument z m calls a ls n w
    argument_is (t.by_value ty e) ls n w = eval_is e ls n w
    argument_is (t.out x from to) ls n w = refl

  -- ---- statements

  begin_is : (ty : ArgType) (e : Option t.Expr) (ls : List Slot) (n : ℕ) (w : World) → guarded.begin_local as_meant z m by ty e ls n w ≡ begin_local z m calls ty e ls n w
  begin_is ty None ls n w = refl
  begin_is ty (Some e) ls n w = eval_is e ls n w

  option_is : (k : ℕ) (e : Option t.Expr) (ls : List Slot) (n : ℕ) (w : World) → guarded.evaluate_or as_meant z m by k e ls n w ≡ evaluate_or z m calls k e ls n w
  option_is k None ls n w = refl
  option_is k (Some e) ls n w = eval_is e ls n w

  locals_are : (locals : List t.Local) (ls : List Slot) (n : ℕ) (w : World) → guarded.run_locals as_meant z m by locals ls n w ≡ run_locals z m calls locals ls n w
  locals_are [] ls n w = refl
  locals_are (l ∷ rest) ls n w = λ j. with_value (begin_is l.ty l.initializer ls n w j) (λ v ls' n' w'. locals_are rest (v ∷ ls') n' w' j)

  steps_are : (es : List t.Expr) (ls : List Slot) (n : ℕ) (w : World) → guarded.run_steps as_meant z m by es ls n w ≡ run_steps z m calls es ls n w
  steps_are [] ls n w = refl
  steps_are (e ∷ es) ls n w = λ j. then_run (discarded (eval_is e ls n w j)) (λ ls' n' w'. steps_are es ls' n' w' j)

  module _ (passes other : Passes) (passes_are : (e : Option t.Expr) (ss : t.Stmts) (steps : List t.Expr) (ls : List Slot) (n : ℕ) (w : World) → passes e ss steps ls n w ≡ other e ss steps ls n w) where
    mutual
      run_is : (s : t.Stmt) (ls : List Slot) (n : ℕ) (w : World) → guarded.run as_meant z m by passes s ls n w ≡ run z m calls other s ls n w
      run_is (t.block ss) ls n w = λ j. leave (length ls) (run_all_is ss ls n w j)
      run_is (t.locals locals) ls n w = locals_are locals ls n w
      run_is (t.expression None) ls n w = refl
      run_is (t.expression (Some e)) ls n w = λ j. discarded (eval_is e ls n w j)
      run_is t.break ls n w = refl
      run_is t.continue ls n w = refl
      run_is (t.return e) ls n w = λ j. with_value (option_is 0 e ls n w j) (λ v ls' n' w'. Returned v ls' n' w')
      run_is (t.either e ss otherwise) ls n w =
          branched_is z (guarded.evaluate as_meant z m by e ls n w) (in_block (guarded.run_all as_meant z m by passes ss)) (in_block (guarded.run_all as_meant z m by passes otherwise))
          ∙ (λ j. branched (eval_is e ls n w j) (in_block (λ ls' n' w'. run_all_is ss ls' n' w' j)) (in_block (λ ls' n' w'. run_all_is otherwise ls' n' w' j)))
      run_is (t.while e ss) ls n w = λ j. tested (λ ls' n' w'. passes_are (Some e) ss [] ls' n' w' j) ls n w
      run_is (t.do_while ss e) ls n w =
          λ j. caught (length ls) (run_all_is ss ls n w j) (tested (λ ls' n' w'. passes_are (Some e) ss [] ls' n' w' j))
      run_is (t.for start e steps ss) ls n w =
          λ j. in_block (λ ls' n' w'. then_run (run_all_is start ls' n' w' j) (tested (λ l2 n2 w2. passes_are e ss steps l2 n2 w2 j))) ls n w

      run_all_is : (ss : t.Stmts) (ls : List Slot) (n : ℕ) (w : World) → guarded.run_all as_meant z m by passes ss ls n w ≡ run_all z m calls other ss ls n w
      run_all_is t.end ls n w = refl
      run_all_is (t.then s ss) ls n w = λ j. then_run (run_is s ls n w j) (λ ls' n' w'. run_all_is ss ls' n' w' j)

    pass_is : (e : Option t.Expr) (ss : t.Stmts) (steps : List t.Expr) (ls : List Slot) (n : ℕ) (w : World)
        → guarded.pass_of as_meant z m by passes e ss steps ls n w ≡ pass_of z m calls other e ss steps ls n w
    pass_is e ss steps ls n w =
        branched_is z (guarded.evaluate_or as_meant z m by 1 e ls n w)
        (λ ls' n' w'. caught (length ls') (guarded.run_all as_meant z m by passes ss ls' n' w')
        (λ l2 n2 w2. then_run (guarded.run_steps as_meant z m by steps l2 n2 w2) (tested (passes e ss steps))))
        (λ ls' n' w'. Went ls' n' w')
        ∙ (λ j. branched (option_is 1 e ls n w j)
        (λ ls' n' w'. caught (length ls') (run_all_is ss ls' n' w' j)
        (λ l2 n2 w2. then_run (steps_are steps l2 n2 w2 j) (tested (λ l3 n3 w3. passes_are e ss steps l3 n3 w3 j))))
        (λ ls' n' w'. Went ls' n' w'))

    code_is : (x : Code) (ls : List Slot) (n : ℕ) (w : World) → guarded.run_code as_meant z m by passes x ls n w ≡ run_code z m calls other x ls n w
    code_is (of_function ss) ls n w = λ j. in_block (λ ls' n' w'. run_all_is ss ls' n' w' j) ls n w
    code_is (of_global g e) ls n w = λ j. discarded (stored z m (variable.Global g) ls (eval_is e ls n w j))

-- ---- bodies

module _ (z : Environment) (codes : Codes) where
  enter_is : (by calls : Calls) → ((g : Routine) (vs : List Slot) (n : ℕ) (w : World) → by g vs n w ≡ calls g vs n w)
      → (d m : ℕ) (k : Callee) (vs : List Slot) (n : ℕ) (w : World) → guarded.enter as_meant z by d m k vs n w ≡ enter z calls d m k vs n w
  enter_is by calls h d m k vs n w = λ j. found_entered z (λ g vs' n' w'. h g vs' n' w' j) d (target z m k vs w) vs n w

  mutual
    body_is : (fuel d : ℕ) (g : Routine) (vs : List Slot) (n : ℕ) (w : World) → guarded.body_at as_meant z codes fuel d g vs n w ≡ body_at z codes fuel d g vs n w
    body_is zero d g vs n w = refl
    body_is (suc fuel) d g vs n w =
        ap (finished (params_of z g))
        (code_is z g.home (guarded.enter as_meant z (guarded.body_at as_meant z codes fuel (suc d)) d g.home) (enter z (body_at z codes fuel (suc d)) d g.home)
        (enter_is (guarded.body_at as_meant z codes fuel (suc d)) (body_at z codes fuel (suc d)) (body_is fuel (suc d)) d g.home)
        (guarded.pass_at as_meant z codes fuel d g.home) (pass_at z codes fuel d g.home) (passes_is fuel d g.home) (codes g) vs n w)

    passes_is : (fuel d m : ℕ) (e : Option t.Expr) (ss : t.Stmts) (steps : List t.Expr) (ls : List Slot) (n : ℕ) (w : World)
        → guarded.pass_at as_meant z codes fuel d m e ss steps ls n w ≡ pass_at z codes fuel d m e ss steps ls n w
    passes_is zero d m e ss steps ls n w = refl
    passes_is (suc fuel) d m e ss steps ls n w =
        pass_is z m (guarded.enter as_meant z (guarded.body_at as_meant z codes fuel (suc d)) d m) (enter z (body_at z codes fuel (suc d)) d m)
        (enter_is (guarded.body_at as_meant z codes fuel (suc d)) (body_at z codes fuel (suc d)) (body_is fuel (suc d)) d m)
        (guarded.pass_at as_meant z codes fuel d m) (pass_at z codes fuel d m) (passes_is fuel d m) e ss steps ls n w

  begun_is : (g : Routine) (vs : List Slot) (n : ℕ) (w : World) → guarded.begun as_meant z codes g vs n w ≡ begun z codes g vs n w
  begun_is g vs n w = λ j. or_else (memory_step w) (λ w'. Raises Memory (give_all vs w')) (λ w'. body_is (suc n) 0 g vs n w' j)

  all_initialized : (gs : List Routine) (n : ℕ) (w : World) → guarded.initialized_all as_meant z codes gs n w ≡ initialized_all z codes gs n w
  all_initialized [] n w = refl
  all_initialized (g ∷ gs) n w = λ j. then_initialized (begun_is g [] n w j) (λ n' w'. all_initialized gs n' w' j)

pub calls_are_as_meant : CallsAreAsMeant
calls_are_as_meant z codes budget g vs w = λ j. ticked budget (Raises Budget (give_all vs w)) (λ n. begun_is z codes g vs n w j)

pub initializers_are_as_meant : InitializersAreAsMeant
initializers_are_as_meant z codes gs ticks w = all_initialized z codes gs ticks w

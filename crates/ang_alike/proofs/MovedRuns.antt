-- Runs of modules under other numbers come to the same.
use Rattle.std.specs.Prelude.{◌≡◌, ℕ, zero, suc, true, false, List, [], ◌∷◌, length, map, Option, Some, None}
use Rattle.std.proofs.Common.{refl, ap}
use Rattle.ang_kinds.specs.declared.fault.Fault.TheVariants.{Null, Budget, Memory}
use Rattle.ang_kinds.specs.Primitives.{is_signed}
use Rattle.ang_types.specs.declared.arg_type.ArgType.{ArgType}
use Rattle.ang_typed.specs.declared.expression.TypedVariable.{TypedVariable}
use Rattle.ang_typed.specs.declared.expression.TypedVariable.TheVariants as variable
use Rattle.ang_typed.specs.declared.expression.TypedMember.{TypedMember}
use Rattle.ang_typed.specs.declared.expression.TypedMember.TheVariants as member
use Rattle.ang_typed.specs.Typed as t
use Rattle.ang_meaning.specs.declared.slot.Slot.{Slot}
use Rattle.ang_meaning.specs.declared.slot.Slot.TheVariants.{Bits}
use Rattle.ang_meaning.specs.declared.operation.Update.{Update}
use Rattle.ang_meaning.specs.declared.operation.Operation.{Operation}
use Rattle.ang_meaning.specs.declared.operation.Operation.TheVariants.{Binary, Compare, Convert, Negate, Complement, Not, Same, GlobalGet, GlobalSet, GlobalChange, Ask, Read, Write, Alter, Make, FieldGet, FieldSet, FieldChange, Cast}
use Rattle.ang_meaning.specs.declared.routine.Routine.{Routine}
use Rattle.ang_meaning.specs.declared.routine.Callee.{Callee}
use Rattle.ang_meaning.specs.declared.routine.Callee.TheVariants.{Own}
use Rattle.ang_meaning.specs.Numbers.{truth}
use Rattle.ang_meaning.specs.World.{World, give, give_all}
use Rattle.ang_meaning.specs.Environment.{Environment, params_of}
use Rattle.ang_meaning.specs.Perform.{perform}
use Rattle.ang_meaning.specs.Results.{Evaluated, Gave, Ready, Ran, Went, Returned, Halted, Reply, Yields, Raises, local_at, on_test, applied, then_rest, then_run, caught, finished, enter}
use Rattle.ang_meaning.specs.Bodies.{Callees, then_initialized}
use Rattle.ang_alike.specs.Moved.{Moving, AreMovedLists, moved_routine, moved_setting, with_lists, reply_with, reply_lists, RepliesMoved}
use Rattle.ang_alike.proofs.MovedWorlds.{give_moved}
use Rattle.ang_alike.proofs.MovedResults.{ValueMoved, ValuesMoved, RunMoved, ReplyMoved, GoesOn, on_same, loaded_moved, assigned_moved, altered_moved, test_moved, chosen_moved, then_rest_moved, leave_moved, with_value_moved, then_run_moved, caught_moved, ticked_moved, raised_moved, finished_moved, stepped_moved, op_moved, called_moved, params_moved, enter_moved, gone_on, given_on}
use Rattle.ang_source.specs.Meaning.{compound_of, step_of, inner, one, two, this_of, read_variable, read_member, stored, member_stored, changed_by, member_changed, targets_of, callee_of, evaluate, evaluate_all, evaluate_argument, Passes, begin_local, evaluate_or, discarded, branched, run_locals, run_steps, in_block, tested, run, run_all, pass_of, Code, of_function, of_global, run_code, Codes, body_at, pass_at, begun, called_with, initialized_all}

module _ (p : Moving) (z : Environment) where
  abbrev elsewhere : Environment
  elsewhere = moved_setting p z

  -- ---- operands

  value_here : (v : Slot) (ls : List Slot) (t : ℕ) → GoesOn p (ValueMoved p) (λ w. Gave v ls t w) (λ w. Gave v ls t w)
  value_here v ls t w gs h = record { there = gs; same = refl; moved = h }

  ready_here : (vs ls : List Slot) (t : ℕ) → GoesOn p (ValuesMoved p) (λ w. Ready vs ls t w) (λ w. Ready vs ls t w)
  ready_here vs ls t w gs h = record { there = gs; same = refl; moved = h }

  one_moved : (o o' : Evaluated) → ValueMoved p o o' → ValuesMoved p (one o) (one o')
  one_moved o o' h = then_rest_moved p [] o o' (λ v ls t w. Ready (v ∷ []) ls t w) (λ v ls t w. Ready (v ∷ []) ls t w) h (λ v ls t. ready_here (v ∷ []) ls t)

  two_moved : (o o' : Evaluated) (go go' : List Slot → ℕ → World → Evaluated) → ValueMoved p o o'
      → ((ls : List Slot) (t : ℕ) → GoesOn p (ValueMoved p) (go ls t) (go' ls t)) → ValuesMoved p (two o go) (two o' go')
  two_moved o o' go go' h k =
      then_rest_moved p [] o o' (λ v ls t w. then_rest (v ∷ []) (go ls t w) (λ u ls' t' w'. Ready (u ∷ v ∷ []) ls' t' w'))
      (λ v ls t w. then_rest (v ∷ []) (go' ls t w) (λ u ls' t' w'. Ready (u ∷ v ∷ []) ls' t' w')) h
      (λ v ls t w gs l. then_rest_moved p (v ∷ []) (go ls t w) (go' ls t (with_lists gs w)) (λ u ls' t' w'. Ready (u ∷ v ∷ []) ls' t' w') (λ u ls' t' w'. Ready (u ∷ v ∷ []) ls' t' w')
      (k ls t w gs l) (λ u ls' t'. ready_here (u ∷ v ∷ []) ls' t'))

  this_moved : (ls : List Slot) (t : ℕ) → GoesOn p (ValueMoved p) (this_of ls t) (this_of ls t)
  this_moved ls t w gs h = loaded_moved p (local_at ls (inner ls 0)) ls t w gs h

  unary : (m : ℕ) (op : Operation) (o o' : Evaluated) → ValueMoved p o o'
      → ValueMoved p (applied (perform z m op) (one o)) (applied (perform elsewhere (p.to m) op) (one o'))
  unary m op o o' h = op_moved p z m op (one o) (one o') (one_moved o o' h)

  binary : (m : ℕ) (op : Operation) (o o' : Evaluated) (go go' : List Slot → ℕ → World → Evaluated) → ValueMoved p o o'
      → ((ls : List Slot) (t : ℕ) → GoesOn p (ValueMoved p) (go ls t) (go' ls t))
      → ValueMoved p (applied (perform z m op) (two o go)) (applied (perform elsewhere (p.to m) op) (two o' go'))
  binary m op o o' go go' h k = op_moved p z m op (two o go) (two o' go') (two_moved o o' go go' h k)

  nullary : (m : ℕ) (op : Operation) (ls : List Slot) (t : ℕ)
      → GoesOn p (ValueMoved p) (λ w. applied (perform z m op) (Ready [] ls t w)) (λ w. applied (perform elsewhere (p.to m) op) (Ready [] ls t w))
  nullary m op ls t w gs h = op_moved p z m op (Ready [] ls t w) (Ready [] ls t (with_lists gs w)) (ready_here [] ls t w gs h)

  -- ---- variables and members

  variable_moved : (m : ℕ) (x : TypedVariable) (ls : List Slot) (t : ℕ) → GoesOn p (ValueMoved p) (read_variable z m x ls t) (read_variable elsewhere (p.to m) x ls t)
  variable_moved m (variable.Local i) ls t w gs h = loaded_moved p (local_at ls (inner ls i)) ls t w gs h
  variable_moved m (variable.Global g) ls t w gs h = nullary m (GlobalGet g) ls t w gs h
  variable_moved m (variable.Property x) ls t w gs h = nullary m (Read x.entity) ls t w gs h
  variable_moved m (variable.Field i) ls t w gs h = unary m (FieldGet i) (this_of ls t w) (this_of ls t (with_lists gs w)) (this_moved ls t w gs h)

  member_moved : (m : ℕ) (x : TypedMember) (o o' : Evaluated) → ValueMoved p o o' → ValueMoved p (read_member z m x o) (read_member elsewhere (p.to m) x o')
  member_moved m (member.Field i) o o' h = unary m (FieldGet i) o o' h
  member_moved m (member.Property x) o o' h = unary m (Read x.entity) o o' h

  stored_moved : (m : ℕ) (x : TypedVariable) (ls : List Slot) (o o' : Evaluated) → ValueMoved p o o' → ValueMoved p (stored z m x ls o) (stored elsewhere (p.to m) x ls o')
  stored_moved m (variable.Local i) ls o o' h = assigned_moved p (inner ls i) o o' h
  stored_moved m (variable.Global g) ls o o' h = unary m (GlobalSet g) o o' h
  stored_moved m (variable.Property x) ls o o' h = unary m (Write x.entity) o o' h
  stored_moved m (variable.Field i) ls o o' h = binary m (FieldSet i) o o' this_of this_of h this_moved

  member_stored_moved : (m : ℕ) (x : TypedMember) (o o' : Evaluated) (go go' : List Slot → ℕ → World → Evaluated) → ValueMoved p o o'
      → ((ls : List Slot) (t : ℕ) → GoesOn p (ValueMoved p) (go ls t) (go' ls t))
      → ValueMoved p (member_stored z m x o go) (member_stored elsewhere (p.to m) x o' go')
  member_stored_moved m (member.Field i) o o' go go' h k = binary m (FieldSet i) o o' go go' h k
  member_stored_moved m (member.Property x) o o' go go' h k = binary m (Write x.entity) o o' go go' h k

  changed_moved : (m : ℕ) (x : TypedVariable) (ls : List Slot) (c : Update) (o o' : Evaluated) → ValueMoved p o o'
      → ValueMoved p (changed_by z m x ls c o) (changed_by elsewhere (p.to m) x ls c o')
  changed_moved m (variable.Local i) ls c o o' h = altered_moved p (inner ls i) c o o' h
  changed_moved m (variable.Global g) ls c o o' h = unary m (GlobalChange c g) o o' h
  changed_moved m (variable.Property x) ls c o o' h = unary m (Alter x.entity c) o o' h
  changed_moved m (variable.Field i) ls c o o' h = binary m (FieldChange c i) o o' this_of this_of h this_moved

  member_changed_moved : (m : ℕ) (x : TypedMember) (c : Update) (o o' : Evaluated) (go go' : List Slot → ℕ → World → Evaluated) → ValueMoved p o o'
      → ((ls : List Slot) (t : ℕ) → GoesOn p (ValueMoved p) (go ls t) (go' ls t))
      → ValueMoved p (member_changed z m x c o go) (member_changed elsewhere (p.to m) x c o' go')
  member_changed_moved m (member.Field i) c o o' go go' h k = binary m (FieldChange c i) o o' go go' h k
  member_changed_moved m (member.Property x) c o o' go go' h k = binary m (Alter x.entity c) o o' go go' h k

  -- ---- statements' parts

  discarded_moved : (o o' : Evaluated) → ValueMoved p o o' → RunMoved p (discarded o) (discarded o')
  discarded_moved o o' h =
      with_value_moved p o o' (λ v ls t w. Went ls t (give v w)) (λ v ls t w. Went ls t (give v w)) h
      (λ v ls t. gone_on p (λ u. Went ls t u) (give v) (λ u hs. refl) (λ u. refl) (λ u hs. give_moved (λ xs. hs) v u))

  branched_moved : (o o' : Evaluated) (go other go' other' : List Slot → ℕ → World → Ran) → ValueMoved p o o'
      → ((ls : List Slot) (t : ℕ) → GoesOn p (RunMoved p) (go ls t) (go' ls t)) → ((ls : List Slot) (t : ℕ) → GoesOn p (RunMoved p) (other ls t) (other' ls t))
      → RunMoved p (branched o go other) (branched o' go' other')
  branched_moved o o' go other go' other' h k l =
      with_value_moved p o o' (λ v ls t w. on_test v (Halted Null ls (give v w)) (other ls t w) (go ls t w))
      (λ v ls t w. on_test v (Halted Null ls (give v w)) (other' ls t w) (go' ls t w)) h
      (λ v ls t w gs i. test_moved p (RunMoved p) v (Halted Null ls (give v w)) (other ls t w) (go ls t w)
      (Halted Null ls (give v (with_lists gs w))) (other' ls t (with_lists gs w)) (go' ls t (with_lists gs w))
      (gone_on p (λ u. Halted Null ls u) (give v) (λ u hs. refl) (λ u. refl) (λ u hs. give_moved (λ xs. hs) v u) w gs i) (l ls t w gs i) (k ls t w gs i))

  block_moved : (go go' : List Slot → ℕ → World → Ran) → ((ls : List Slot) (t : ℕ) → GoesOn p (RunMoved p) (go ls t) (go' ls t))
      → (ls : List Slot) (t : ℕ) → GoesOn p (RunMoved p) (in_block go ls t) (in_block go' ls t)
  block_moved go go' k ls t w gs h = leave_moved p (length ls) (go ls t w) (go' ls t (with_lists gs w)) (k ls t w gs h)

  tested_moved : (go go' : List Slot → ℕ → World → Ran) → ((ls : List Slot) (t : ℕ) → GoesOn p (RunMoved p) (go ls t) (go' ls t))
      → (ls : List Slot) (t : ℕ) → GoesOn p (RunMoved p) (tested go ls t) (tested go' ls t)
  tested_moved go go' k ls t w gs h =
      ticked_moved p (RunMoved p) t (Halted Budget ls w) (Halted Budget ls (with_lists gs w)) (λ n. go ls n w) (λ n. go' ls n (with_lists gs w))
      (record { there = gs; same = refl; moved = h }) (λ n. k ls n w gs h)

  went_here : (ls : List Slot) (t : ℕ) → GoesOn p (RunMoved p) (λ w. Went ls t w) (λ w. Went ls t w)
  went_here ls t w gs h = record { there = gs; same = refl; moved = h }

  -- ---- a body, of which the calls come to the same

  module _ (m : ℕ) (c c' : Callees) (calls : (x : Callee) (vs : List Slot) (t : ℕ) → GoesOn p (ReplyMoved p) (c x vs t) (c' x vs t)) where
    abbrev old : t.Expr → List Slot → ℕ → World → Evaluated
    old = evaluate z m c

    abbrev new : t.Expr → List Slot → ℕ → World → Evaluated
    new = evaluate elsewhere (p.to m) c'

    mutual
      value_moved : (e : t.Expr) (ls : List Slot) (t : ℕ) (w : World) (gs : List (List Slot)) → AreMovedLists p w.globals gs
          → ValueMoved p (evaluate z m c e ls t w) (evaluate elsewhere (p.to m) c' e ls t (with_lists gs w))
      value_moved (t.number ty n) ls t w gs h = value_here (Bits n) ls t w gs h
      value_moved (t.truth b) ls t w gs h = record { there = gs; same = refl; moved = h }
      value_moved (t.read (t.named x) ty) ls t w gs h = variable_moved m x ls t w gs h
      value_moved (t.read (t.member_of o a) ty) ls t w gs h = member_moved m a (old o ls t w) (new o ls t (with_lists gs w)) (value_moved o ls t w gs h)
      value_moved t.null ls t w gs h = record { there = gs; same = refl; moved = h }
      value_moved (t.convert from to e) ls t w gs h = unary m (Convert to) (old e ls t w) (new e ls t (with_lists gs w)) (value_moved e ls t w gs h)
      value_moved (t.negate ty e) ls t w gs h = unary m (Negate ty) (old e ls t w) (new e ls t (with_lists gs w)) (value_moved e ls t w gs h)
      value_moved (t.complement ty e) ls t w gs h = unary m (Complement ty) (old e ls t w) (new e ls t (with_lists gs w)) (value_moved e ls t w gs h)
      value_moved (t.not e) ls t w gs h = unary m Not (old e ls t w) (new e ls t (with_lists gs w)) (value_moved e ls t w gs h)
      value_moved (t.operate op ty l r) ls t w gs h =
          binary m (Binary op ty) (old l ls t w) (new l ls t (with_lists gs w)) (old r) (new r) (value_moved l ls t w gs h) (λ ls' t' w' hs k. value_moved r ls' t' w' hs k)
      value_moved (t.compare op ty l r) ls t w gs h =
          binary m (Compare op (is_signed ty)) (old l ls t w) (new l ls t (with_lists gs w)) (old r) (new r) (value_moved l ls t w gs h) (λ ls' t' w' hs k. value_moved r ls' t' w' hs k)
      value_moved (t.and l r) ls t w gs h =
          chosen_moved p (old l ls t w) (new l ls t (with_lists gs w)) (old r) (λ ls' t' w'. Gave (Bits (truth false)) ls' t' w')
          (new r) (λ ls' t' w'. Gave (Bits (truth false)) ls' t' w') (value_moved l ls t w gs h) (λ ls' t' w' hs k. value_moved r ls' t' w' hs k) (λ ls' t'. value_here (Bits (truth false)) ls' t')
      value_moved (t.or l r) ls t w gs h =
          chosen_moved p (old l ls t w) (new l ls t (with_lists gs w)) (λ ls' t' w'. Gave (Bits (truth true)) ls' t' w') (old r)
          (λ ls' t' w'. Gave (Bits (truth true)) ls' t' w') (new r) (value_moved l ls t w gs h) (λ ls' t'. value_here (Bits (truth true)) ls' t') (λ ls' t' w' hs k. value_moved r ls' t' w' hs k)
      value_moved (t.choose a l r) ls t w gs h =
          chosen_moved p (old a ls t w) (new a ls t (with_lists gs w)) (old l) (old r) (new l) (new r) (value_moved a ls t w gs h)
          (λ ls' t' w' hs k. value_moved l ls' t' w' hs k) (λ ls' t' w' hs k. value_moved r ls' t' w' hs k)
      value_moved (t.same l r) ls t w gs h =
          binary m Same (old l ls t w) (new l ls t (with_lists gs w)) (old r) (new r) (value_moved l ls t w gs h) (λ ls' t' w' hs k. value_moved r ls' t' w' hs k)
      value_moved (t.naming x e) ls t w gs h = value_moved e ls t w gs h
      value_moved (t.cast n e) ls t w gs h = unary m (Cast n) (old e ls t w) (new e ls t (with_lists gs w)) (value_moved e ls t w gs h)
      value_moved (t.make n None args) ls t w gs h = nullary m (Make n) ls t w gs h
      value_moved (t.make n (Some k) args) ls t w gs h =
          let made = applied (perform z m (Make n)) (Ready [] ls t w) in
          let made' = applied (perform elsewhere (p.to m) (Make n)) (Ready [] ls t (with_lists gs w)) in
          called_moved p z m (c (Own k)) (c' (Own k)) (calls (Own k)) (targets_of ls args)
          (then_rest [] made (λ o ls' t' w'. evaluate_all z m c args (o ∷ []) ls' t' w')) (then_rest [] made' (λ o ls' t' w'. evaluate_all elsewhere (p.to m) c' args (o ∷ []) ls' t' w'))
          (then_rest_moved p [] made made' (λ o ls' t' w'. evaluate_all z m c args (o ∷ []) ls' t' w') (λ o ls' t' w'. evaluate_all elsewhere (p.to m) c' args (o ∷ []) ls' t' w')
          (nullary m (Make n) ls t w gs h) (λ o ls' t' w' hs k'. values_moved args (o ∷ []) ls' t' w' hs k'))
      value_moved (t.assign (t.named x) ty e) ls t w gs h = stored_moved m x ls (old e ls t w) (new e ls t (with_lists gs w)) (value_moved e ls t w gs h)
      value_moved (t.assign (t.member_of o a) ty e) ls t w gs h =
          member_stored_moved m a (old e ls t w) (new e ls t (with_lists gs w)) (old o) (new o) (value_moved e ls t w gs h) (λ ls' t' w' hs k. value_moved o ls' t' w' hs k)
      value_moved (t.compound (t.named x) ty op at e) ls t w gs h =
          changed_moved m x ls (compound_of ty op at) (old e ls t w) (new e ls t (with_lists gs w)) (value_moved e ls t w gs h)
      value_moved (t.compound (t.member_of o a) ty op at e) ls t w gs h =
          member_changed_moved m a (compound_of ty op at) (old e ls t w) (new e ls t (with_lists gs w)) (old o) (new o) (value_moved e ls t w gs h) (λ ls' t' w' hs k. value_moved o ls' t' w' hs k)
      value_moved (t.step (t.named x) ty kind) ls t w gs h =
          changed_moved m x ls (step_of ty kind) (Gave (Bits 1) ls t w) (Gave (Bits 1) ls t (with_lists gs w)) (value_here (Bits 1) ls t w gs h)
      value_moved (t.step (t.member_of o a) ty kind) ls t w gs h =
          member_changed_moved m a (step_of ty kind) (Gave (Bits 1) ls t w) (Gave (Bits 1) ls t (with_lists gs w)) (old o) (new o) (value_here (Bits 1) ls t w gs h)
          (λ ls' t' w' hs k. value_moved o ls' t' w' hs k)
      value_moved (t.call f ty args) ls t w gs h =
          called_moved p z m (c (callee_of f)) (c' (callee_of f)) (calls (callee_of f)) (targets_of ls args)
          (evaluate_all z m c args [] ls t w) (evaluate_all elsewhere (p.to m) c' args [] ls t (with_lists gs w)) (values_moved args [] ls t w gs h)
      value_moved (t.host_call x ty args) ls t w gs h =
          op_moved p z m (Ask x.entity) (evaluate_all z m c args [] ls t w) (evaluate_all elsewhere (p.to m) c' args [] ls t (with_lists gs w)) (values_moved args [] ls t w gs h)

      values_moved : (args : t.Args) (vs ls : List Slot) (t : ℕ) (w : World) (gs : List (List Slot)) → AreMovedLists p w.globals gs
          → ValuesMoved p (evaluate_all z m c args vs ls t w) (evaluate_all elsewhere (p.to m) c' args vs ls t (with_lists gs w))
      values_moved t.none vs ls t w gs h = record { there = gs; same = refl; moved = h }
      values_moved (t.more a args) vs ls t w gs h =
          then_rest_moved p vs (evaluate_argument z m c a ls t w) (evaluate_argument elsewhere (p.to m) c' a ls t (with_lists gs w))
          (λ v ls' t' w'. evaluate_all z m c args (v ∷ vs) ls' t' w') (λ v ls' t' w'. evaluate_all elsewhere (p.to m) c' args (v ∷ vs) ls' t' w')
          (argument_moved a ls t w gs h) (λ v ls' t' w' hs k. values_moved args (v ∷ vs) ls' t' w' hs k)

      argument_moved : (a : t.Arg) (ls : List Slot) (t : ℕ) (w : World) (gs : List (List Slot)) → AreMovedLists p w.globals gs
          → ValueMoved p (evaluate_argument z m c a ls t w) (evaluate_argument elsewhere (p.to m) c' a ls t (with_lists gs w))
      argument_moved (t.by_value ty e) ls t w gs h = value_moved e ls t w gs h
      argument_moved (t.out x from to) ls t w gs h = record { there = gs; same = refl; moved = h }

    begin_moved : (ty : ArgType) (e : Option t.Expr) (ls : List Slot) (t : ℕ) → GoesOn p (ValueMoved p) (begin_local z m c ty e ls t) (begin_local elsewhere (p.to m) c' ty e ls t)
    begin_moved ty None ls t w gs h = record { there = gs; same = refl; moved = h }
    begin_moved ty (Some e) ls t w gs h = value_moved e ls t w gs h

    perhaps_moved : (n : ℕ) (e : Option t.Expr) (ls : List Slot) (t : ℕ) → GoesOn p (ValueMoved p) (evaluate_or z m c n e ls t) (evaluate_or elsewhere (p.to m) c' n e ls t)
    perhaps_moved n None ls t w gs h = value_here (Bits n) ls t w gs h
    perhaps_moved n (Some e) ls t w gs h = value_moved e ls t w gs h

    locals_moved : (locals : List t.Local) (ls : List Slot) (t : ℕ) → GoesOn p (RunMoved p) (run_locals z m c locals ls t) (run_locals elsewhere (p.to m) c' locals ls t)
    locals_moved [] ls t w gs h = went_here ls t w gs h
    locals_moved (l ∷ rest) ls t w gs h =
        with_value_moved p (begin_local z m c l.ty l.initializer ls t w) (begin_local elsewhere (p.to m) c' l.ty l.initializer ls t (with_lists gs w))
        (λ v ls' t' w'. run_locals z m c rest (v ∷ ls') t' w') (λ v ls' t' w'. run_locals elsewhere (p.to m) c' rest (v ∷ ls') t' w')
        (begin_moved l.ty l.initializer ls t w gs h) (λ v ls' t'. locals_moved rest (v ∷ ls') t')

    steps_moved : (es : List t.Expr) (ls : List Slot) (t : ℕ) → GoesOn p (RunMoved p) (run_steps z m c es ls t) (run_steps elsewhere (p.to m) c' es ls t)
    steps_moved [] ls t w gs h = went_here ls t w gs h
    steps_moved (e ∷ es) ls t w gs h =
        then_run_moved p (discarded (old e ls t w)) (discarded (new e ls t (with_lists gs w))) (run_steps z m c es) (run_steps elsewhere (p.to m) c' es)
        (discarded_moved (old e ls t w) (new e ls t (with_lists gs w)) (value_moved e ls t w gs h)) (λ ls' t'. steps_moved es ls' t')

    -- and so do its loops
    module _ (q q' : Passes) (passes : (e : Option t.Expr) (ss : t.Stmts) (steps : List t.Expr) (ls : List Slot) (t : ℕ) → GoesOn p (RunMoved p) (q e ss steps ls t) (q' e ss steps ls t)) where
      loop_goes : (e : Option t.Expr) (ss : t.Stmts) (steps : List t.Expr) (ls : List Slot) (t : ℕ) → GoesOn p (RunMoved p) (tested (q e ss steps) ls t) (tested (q' e ss steps) ls t)
      loop_goes e ss steps = tested_moved (q e ss steps) (q' e ss steps) (passes e ss steps)

      mutual
        statement_moved : (s : t.Stmt) (ls : List Slot) (t : ℕ) (w : World) (gs : List (List Slot)) → AreMovedLists p w.globals gs
            → RunMoved p (run z m c q s ls t w) (run elsewhere (p.to m) c' q' s ls t (with_lists gs w))
        statement_moved (t.block ss) ls t w gs h =
            block_moved (run_all z m c q ss) (run_all elsewhere (p.to m) c' q' ss) (λ ls' t' w' hs k. statements_moved ss ls' t' w' hs k) ls t w gs h
        statement_moved (t.locals locals) ls t w gs h = locals_moved locals ls t w gs h
        statement_moved (t.expression None) ls t w gs h = went_here ls t w gs h
        statement_moved (t.expression (Some e)) ls t w gs h = discarded_moved (old e ls t w) (new e ls t (with_lists gs w)) (value_moved e ls t w gs h)
        statement_moved t.break ls t w gs h = record { there = gs; same = refl; moved = h }
        statement_moved t.continue ls t w gs h = record { there = gs; same = refl; moved = h }
        statement_moved (t.return e) ls t w gs h =
            with_value_moved p (evaluate_or z m c 0 e ls t w) (evaluate_or elsewhere (p.to m) c' 0 e ls t (with_lists gs w))
            (λ v ls' t' w'. Returned v ls' t' w') (λ v ls' t' w'. Returned v ls' t' w') (perhaps_moved 0 e ls t w gs h)
            (λ v ls' t' w' hs k. record { there = hs; same = refl; moved = k })
        statement_moved (t.either e ss otherwise) ls t w gs h =
            branched_moved (old e ls t w) (new e ls t (with_lists gs w)) (in_block (run_all z m c q ss)) (in_block (run_all z m c q otherwise))
            (in_block (run_all elsewhere (p.to m) c' q' ss)) (in_block (run_all elsewhere (p.to m) c' q' otherwise)) (value_moved e ls t w gs h)
            (block_moved (run_all z m c q ss) (run_all elsewhere (p.to m) c' q' ss) (λ ls' t' w' hs k. statements_moved ss ls' t' w' hs k))
            (block_moved (run_all z m c q otherwise) (run_all elsewhere (p.to m) c' q' otherwise) (λ ls' t' w' hs k. statements_moved otherwise ls' t' w' hs k))
        statement_moved (t.while e ss) ls t w gs h = loop_goes (Some e) ss [] ls t w gs h
        statement_moved (t.do_while ss e) ls t w gs h =
            caught_moved p (length ls) (run_all z m c q ss ls t w) (run_all elsewhere (p.to m) c' q' ss ls t (with_lists gs w)) (tested (q (Some e) ss [])) (tested (q' (Some e) ss []))
            (statements_moved ss ls t w gs h) (loop_goes (Some e) ss [])
        statement_moved (t.for start e steps ss) ls t w gs h =
            block_moved (λ ls' t' w'. then_run (run_all z m c q start ls' t' w') (tested (q e ss steps)))
            (λ ls' t' w'. then_run (run_all elsewhere (p.to m) c' q' start ls' t' w') (tested (q' e ss steps)))
            (λ ls' t' w' hs k. then_run_moved p (run_all z m c q start ls' t' w') (run_all elsewhere (p.to m) c' q' start ls' t' (with_lists hs w')) (tested (q e ss steps)) (tested (q' e ss steps))
            (statements_moved start ls' t' w' hs k) (loop_goes e ss steps)) ls t w gs h

        statements_moved : (ss : t.Stmts) (ls : List Slot) (t : ℕ) (w : World) (gs : List (List Slot)) → AreMovedLists p w.globals gs
            → RunMoved p (run_all z m c q ss ls t w) (run_all elsewhere (p.to m) c' q' ss ls t (with_lists gs w))
        statements_moved t.end ls t w gs h = went_here ls t w gs h
        statements_moved (t.then s ss) ls t w gs h =
            then_run_moved p (run z m c q s ls t w) (run elsewhere (p.to m) c' q' s ls t (with_lists gs w)) (run_all z m c q ss) (run_all elsewhere (p.to m) c' q' ss)
            (statement_moved s ls t w gs h) (λ ls' t' w' hs k. statements_moved ss ls' t' w' hs k)

      code_moved : (x : Code) (ls : List Slot) (t : ℕ) → GoesOn p (RunMoved p) (run_code z m c q x ls t) (run_code elsewhere (p.to m) c' q' x ls t)
      code_moved (of_function ss) ls t w gs h =
          block_moved (run_all z m c q ss) (run_all elsewhere (p.to m) c' q' ss) (λ ls' t' w' hs k. statements_moved ss ls' t' w' hs k) ls t w gs h
      code_moved (of_global g e) ls t w gs h =
          discarded_moved (stored z m (variable.Global g) ls (old e ls t w)) (stored elsewhere (p.to m) (variable.Global g) ls (new e ls t (with_lists gs w)))
          (stored_moved m (variable.Global g) ls (old e ls t w) (new e ls t (with_lists gs w)) (value_moved e ls t w gs h))

      turn_moved : (e : Option t.Expr) (ss : t.Stmts) (steps : List t.Expr) (ls : List Slot) (t : ℕ)
          → GoesOn p (RunMoved p) (pass_of z m c q e ss steps ls t) (pass_of elsewhere (p.to m) c' q' e ss steps ls t)
      turn_moved e ss steps ls t w gs h =
          let after : List Slot → ℕ → World → Ran = λ l2 t2 w2. then_run (run_steps z m c steps l2 t2 w2) (tested (q e ss steps)) in
          let after' : List Slot → ℕ → World → Ran = λ l2 t2 w2. then_run (run_steps elsewhere (p.to m) c' steps l2 t2 w2) (tested (q' e ss steps)) in
          branched_moved (evaluate_or z m c 1 e ls t w) (evaluate_or elsewhere (p.to m) c' 1 e ls t (with_lists gs w))
          (λ ls' t' w'. caught (length ls') (run_all z m c q ss ls' t' w') after) (λ ls' t' w'. Went ls' t' w')
          (λ ls' t' w'. caught (length ls') (run_all elsewhere (p.to m) c' q' ss ls' t' w') after') (λ ls' t' w'. Went ls' t' w') (perhaps_moved 1 e ls t w gs h)
          (λ ls' t' w' hs k. caught_moved p (length ls') (run_all z m c q ss ls' t' w') (run_all elsewhere (p.to m) c' q' ss ls' t' (with_lists hs w')) after after' (statements_moved ss ls' t' w' hs k)
          (λ l2 t2 w2 ks i. then_run_moved p (run_steps z m c steps l2 t2 w2) (run_steps elsewhere (p.to m) c' steps l2 t2 (with_lists ks w2)) (tested (q e ss steps)) (tested (q' e ss steps))
          (steps_moved steps l2 t2 w2 ks i) (loop_goes e ss steps)))
          (λ ls' t'. went_here ls' t')

  -- ---- whole bodies

  module _ (codes codes' : Codes) (same : (g : Routine) → codes' (moved_routine p g) ≡ codes g) where
    mutual
      body_moved : (n d : ℕ) (g : Routine) (vs : List Slot) (t : ℕ) (w : World) (gs : List (List Slot)) → AreMovedLists p w.globals gs
          → ReplyMoved p (body_at z codes n d g vs t w) (body_at elsewhere codes' n d (moved_routine p g) vs t (with_lists gs w))
      body_moved zero d g vs t w gs h = record { there = gs; same = refl; moved = h }
      body_moved (suc n) d g vs t w gs h =
          let m = g.home in
          let c : Callees = enter z (body_at z codes n (suc d)) d m in
          let c' : Callees = enter elsewhere (body_at elsewhere codes' n (suc d)) d (p.to m) in
          let q : Passes = pass_at z codes n d m in
          let q' : Passes = pass_at elsewhere codes' n d (p.to m) in
          let ran : Ran = run_code z m c q (codes g) vs t w in
          let ran' : Ran = run_code elsewhere (p.to m) c' q' (codes g) vs t (with_lists gs w) in
          let here : RunMoved p ran ran' =
          code_moved m c c' (λ x us t'. enter_moved p z (body_at z codes n (suc d)) (body_at elsewhere codes' n (suc d)) (λ k us' t2 w2 hs l. body_moved n (suc d) k us' t2 w2 hs l) d m x us t')
          q q' (λ e ss steps ls t' w' hs l. loop_moved n d m e ss steps ls t' w' hs l) (codes g) vs t w gs h in
          on_same p reply_with reply_lists (finished (params_of z g) ran)
          (finished (params_of elsewhere (moved_routine p g)) (run_code elsewhere (p.to m) c' q' (codes' (moved_routine p g)) vs t (with_lists gs w))) (finished (params_of z g) ran')
          (λ j. finished (params_moved p z g j) (run_code elsewhere (p.to m) c' q' (same g j) vs t (with_lists gs w))) (finished_moved p (params_of z g) ran ran' here)

      loop_moved : (n d m : ℕ) (e : Option t.Expr) (ss : t.Stmts) (steps : List t.Expr) (ls : List Slot) (t : ℕ) (w : World) (gs : List (List Slot)) → AreMovedLists p w.globals gs
          → RunMoved p (pass_at z codes n d m e ss steps ls t w) (pass_at elsewhere codes' n d (p.to m) e ss steps ls t (with_lists gs w))
      loop_moved zero d m e ss steps ls t w gs h = record { there = gs; same = refl; moved = h }
      loop_moved (suc n) d m e ss steps ls t w gs h =
          turn_moved m (enter z (body_at z codes n (suc d)) d m) (enter elsewhere (body_at elsewhere codes' n (suc d)) d (p.to m))
          (λ x us t'. enter_moved p z (body_at z codes n (suc d)) (body_at elsewhere codes' n (suc d)) (λ k us' t2 w2 hs l. body_moved n (suc d) k us' t2 w2 hs l) d m x us t')
          (pass_at z codes n d m) (pass_at elsewhere codes' n d (p.to m)) (λ e' ss' steps' ls' t' w' hs l. loop_moved n d m e' ss' steps' ls' t' w' hs l) e ss steps ls t w gs h

    begun_moved : (g : Routine) (vs : List Slot) (t : ℕ) → GoesOn p (ReplyMoved p) (begun z codes g vs t) (begun elsewhere codes' (moved_routine p g) vs t)
    begun_moved g vs t w gs h =
        stepped_moved p reply_with reply_lists w gs (λ u. Raises Memory (give_all vs u)) (λ u. body_at z codes (suc t) 0 g vs t u)
        (λ u. Raises Memory (give_all vs u)) (λ u. body_at elsewhere codes' (suc t) 0 (moved_routine p g) vs t u) h
        (λ u hs k. raised_moved p Memory vs u hs k) (λ u hs k. body_moved (suc t) 0 g vs t u hs k)

    call_moved : (budget : ℕ) (g : Routine) (vs : List Slot) → GoesOn p (ReplyMoved p) (called_with z codes budget g vs) (called_with elsewhere codes' budget (moved_routine p g) vs)
    call_moved zero g vs w gs h = raised_moved p Budget vs w gs h
    call_moved (suc t) g vs w gs h = begun_moved g vs t w gs h

    then_by : (r : Reply) (gs : List (List Slot)) (go go' : ℕ → World → Reply) → AreMovedLists p (reply_lists r) gs
        → ((t : ℕ) → GoesOn p (ReplyMoved p) (go t) (go' t)) → ReplyMoved p (then_initialized r go) (then_initialized (reply_with gs r) go')
    then_by (Yields v outs t w) gs go go' h k = given_on p (go t) (go' t) (give v) (λ u hs. give_moved (λ xs. hs) v u) (k t) w gs h
    then_by (Raises f w) gs go go' h k = record { there = gs; same = refl; moved = h }

    initializing_moved : (rs : List Routine) (t : ℕ) → GoesOn p (ReplyMoved p) (initialized_all z codes rs t) (initialized_all elsewhere codes' (map (moved_routine p) rs) t)
    initializing_moved [] t w gs h = record { there = gs; same = refl; moved = h }
    initializing_moved (g ∷ rs) t w gs h =
        let r = begun_moved g [] t w gs h in
        let go : ℕ → World → Reply = λ t' w'. initialized_all z codes rs t' w' in
        let go' : ℕ → World → Reply = λ t' w'. initialized_all elsewhere codes' (map (moved_routine p) rs) t' w' in
        on_same p reply_with reply_lists (then_initialized (begun z codes g [] t w) go) (then_initialized (begun elsewhere codes' (moved_routine p g) [] t (with_lists gs w)) go')
        (then_initialized (reply_with r.there (begun z codes g [] t w)) go') (ap (λ x. then_initialized x go') r.same)
        (then_by (begun z codes g [] t w) r.there go go' r.moved (λ t'. initializing_moved rs t'))

-- ---- as the law has it

in_law : (p : Moving) (o o' : Reply) → ReplyMoved p o o' → RepliesMoved p o o'
in_law p o o' h = record { lists = h.there; same = h.same; moved = h.moved }

pub calls_moved : (p : Moving) (z : Environment) (codes codes' : Codes) → ((g : Routine) → codes' (moved_routine p g) ≡ codes g)
    → (budget : ℕ) (g : Routine) (vs : List Slot) (w : World) (gs : List (List Slot)) → AreMovedLists p w.globals gs
    → RepliesMoved p (called_with z codes budget g vs w) (called_with (moved_setting p z) codes' budget (moved_routine p g) vs (with_lists gs w))
calls_moved p z codes codes' same budget g vs w gs h = in_law p _ _ (call_moved p z codes codes' same budget g vs w gs h)

pub initializers_moved : (p : Moving) (z : Environment) (codes codes' : Codes) → ((g : Routine) → codes' (moved_routine p g) ≡ codes g)
    → (rs : List Routine) (t : ℕ) (w : World) (gs : List (List Slot)) → AreMovedLists p w.globals gs
    → RepliesMoved p (initialized_all z codes rs t w) (initialized_all (moved_setting p z) codes' (map (moved_routine p) rs) t (with_lists gs w))
initializers_moved p z codes codes' same rs t w gs h = in_law p _ _ (initializing_moved p z codes codes' same rs t w gs h)

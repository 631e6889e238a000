-- Where null and an import that leads nowhere have faults of their own, a run is the same but for these names: by cases on the tree, as in `AsMeant`.
use Rattle.std.proofs.Common.{◌≡◌, ◌≢◌, ℕ, zero, suc, List, [], ◌∷◌, length, Option, Some, None, refl, sym, ap, ◌∙◌}
use Rattle.std.specs.Prelude.{Bool, true, false, ◌&&◌, not, cond, is_some}
use Rattle.std.specs.FinMap as map
use Rattle.ang_kinds.specs.declared.fault.Fault.{Fault}
use Rattle.ang_kinds.specs.declared.fault.Fault.TheVariants.{Null, DivideByZero, DivideOverflow, Unbound, Budget, Depth, Host as OfHost, BadAnswer, NoObject, Memory, Tally}
use Rattle.ang_types.specs.declared.arg_type.ArgType.{ArgType}
use Rattle.ang_typed.specs.declared.expression.TypedVariable.{TypedVariable}
use Rattle.ang_typed.specs.declared.expression.TypedVariable.TheVariants as variable
use Rattle.ang_typed.specs.declared.expression.TypedMember.{TypedMember}
use Rattle.ang_typed.specs.declared.expression.TypedMember.TheVariants as member
use Rattle.ang_typed.specs.Typed as t
use Rattle.ang_meaning.specs.declared.slot.Slot.{Slot}
use Rattle.ang_meaning.specs.declared.slot.Slot.TheVariants.{Bits, Script, Host}
use Rattle.ang_meaning.specs.declared.operation.Operation.{Operation}
use Rattle.ang_meaning.specs.declared.operation.Operation.TheVariants.{Binary, Compare, Convert, Negate, Complement, Not, Same, GlobalGet, GlobalSet, GlobalChange, Ask, Read, Write, Alter, Make, FieldGet, FieldSet, FieldChange, Cast}
use Rattle.ang_meaning.specs.declared.operation.Update.{Update}
use Rattle.ang_meaning.specs.declared.routine.Passing.{Passing}
use Rattle.ang_meaning.specs.declared.routine.Routine.{Routine}
use Rattle.ang_meaning.specs.declared.routine.Callee.{Callee}
use Rattle.ang_meaning.specs.declared.routine.Callee.TheVariants.{Own, Import, Virtual}
use Rattle.ang_meaning.specs.declared.routine.Target.{Target}
use Rattle.ang_meaning.specs.Numbers.{Changed, Into, Never, truth}
use Rattle.ang_kinds.specs.Primitives.{is_signed}
use Rattle.ang_meaning.specs.World.{World, ScriptRecord, Tried, Yes, No, or_else, memory_step, hold, give, give_all}
use Rattle.ang_meaning.specs.Environment.{Environment, params_in, params_of, receiver_in, bound, virtual_of, method_of, target, is_null, has_objects, is_fit}
use Rattle.ang_meaning.specs.Hosts.{Done, Fine, Fails}
use Rattle.ang_meaning.specs.Perform.{perform, change_of}
use Rattle.ang_meaning.specs.Bodies.{Callees, then_initialized}
use Rattle.ang_meaning.specs.Results.{Evaluated, Gave, Failed, Gathered, Ready, Broke, Ran, Went, Returned, Halted, Broken, Continued, Reply, Yields, Raises, Calls, local_at, local_set, on_test, ticked, loaded, performed, applied, assigned, altered_by, then_rest, leave, with_value, then_run, caught, finished, may_nest, entered, found_entered}
use Rattle.ang_meaning.specs.Results as results
use Rattle.ang_source.specs.Meaning.{Passes, Code, of_function, of_global, Codes, callee_of, compound_of, step_of, inner, one, two, this_of, targets_of, discarded, in_block, tested}
use Rattle.ang_source.specs.Meaning as source
use Rattle.ang_source_typed.specs.Guarded.{Guard, Guards, Faulting, guard, misfits, causes, is_number, fits, has_object, has_method_at, has_method, finds, has_receiver, has_arguments, is_linked, all_take}
use Rattle.ang_source_typed.specs.Guarded as guarded
use Rattle.ang_source_typed.specs.Runs.{sources, named, reply_named, CallsTellCauses, InitializersTellCauses}
use Rattle.ang_source_typed.proofs.Kept.{left_of, right_of, done_named, IsKeptChange, change_kept, perform_named}
use Rattle.ang_source_typed.proofs.Bodies.{calls_meet_no_misfit}
use Rattle.ang_source_typed.proofs.Initializers.{initializers_meet_no_misfit}

-- a fault other than these two has no other name
keeps : (n u f : Fault) → f ≢ Null → f ≢ Unbound → named n u f ≡ f
keeps n u Null a b = absurd (a refl)
keeps n u DivideByZero a b = refl
keeps n u DivideOverflow a b = refl
keeps n u Unbound a b = absurd (b refl)
keeps n u Budget a b = refl
keeps n u Depth a b = refl
keeps n u (OfHost k) a b = refl
keeps n u BadAnswer a b = refl
keeps n u NoObject a b = refl
keeps n u Memory a b = refl
keeps n u Tally a b = refl

module _ (f n u : Fault) (keep : named n u f ≡ f) (z : Environment) where
  abbrev told : Guards
  told = causes f n u

  abbrev plain : Guards
  plain = misfits (Faulting f)

  -- ---- ends with their faults by these names

  abbrev by : Fault → Fault
  by = named n u

  abbrev value_named : Evaluated → Evaluated
  value_named (Gave v ls t w) = Gave v ls t w
  value_named (Failed x ls w) = Failed (by x) ls w

  abbrev all_named : Gathered → Gathered
  all_named (Ready vs ls t w) = Ready vs ls t w
  all_named (Broke x ls w) = Broke (by x) ls w

  abbrev ran_named : Ran → Ran
  ran_named (Went ls t w) = Went ls t w
  ran_named (Returned v ls t w) = Returned v ls t w
  ran_named (Halted x ls w) = Halted (by x) ls w
  ran_named (Broken ls t w) = Broken ls t w
  ran_named (Continued ls t w) = Continued ls t w

  abbrev Go : Type 0
  Go = List Slot → ℕ → World → Evaluated

  abbrev GoOn : Type 0
  GoOn = List Slot → ℕ → World → Ran

  abbrev More : Type 0
  More = Slot → List Slot → ℕ → World → Gathered

  abbrev Then : Type 0
  Then = Slot → List Slot → ℕ → World → Ran

  abbrev Asks : Type 0
  Asks = List Slot → ℕ → World → Reply

  -- what comes next is the same but for these names
  abbrev SameGo : Go → Go → Type 0
  SameGo go' go = (ls : List Slot) (t : ℕ) (w : World) → go' ls t w ≡ value_named (go ls t w)

  abbrev SameOn : GoOn → GoOn → Type 0
  SameOn go' go = (ls : List Slot) (t : ℕ) (w : World) → go' ls t w ≡ ran_named (go ls t w)

  abbrev SameMore : More → More → Type 0
  SameMore go' go = (v : Slot) (ls : List Slot) (t : ℕ) (w : World) → go' v ls t w ≡ all_named (go v ls t w)

  abbrev SameThen : Then → Then → Type 0
  SameThen go' go = (v : Slot) (ls : List Slot) (t : ℕ) (w : World) → go' v ls t w ≡ ran_named (go v ls t w)

  abbrev SameAsk : Asks → Asks → Type 0
  SameAsk ask' ask = (vs : List Slot) (t : ℕ) (w : World) → ask' vs t w ≡ reply_named n u (ask vs t w)

  -- a misfit has the same fault in both
  guard_named : {A : Type 0} (b : Bool) (go' go : A) (bad : Fault → A) (name : A → A) → name (bad f) ≡ bad f → (b ≡ true → go' ≡ name go)
      → guard (Faulting f) b go' bad ≡ name (guard (Faulting f) b go bad)
  guard_named true go' go bad name p k = k refl
  guard_named false go' go bad name p k = sym p

  -- ---- operations

  operation_named : (m : ℕ) (o : Operation) (vs : List Slot) (w : World) → guarded.perform told z m o vs w ≡ done_named n u (guarded.perform plain z m o vs w)
  operation_named m o vs w =
      guard_named (is_fit z m o && fits z m o vs w) (guard (Faulting n) (has_object z m o vs) (perform z m o vs w) (λ x. Fails x w)) (perform z m o vs w) (λ x. Fails x w) (done_named n u)
      (ap (λ x. Fails x w) keep)
      (λ h. perform_named n u z m o vs w (left_of (is_fit z m o) (fits z m o vs w) h) (right_of (is_fit z m o) (fits z m o vs w) h))

  done_at : (d : Done) (vs ls : List Slot) (t : ℕ) → performed (done_named n u d) vs ls t ≡ value_named (performed d vs ls t)
  done_at (Fine v w) vs ls t = refl
  done_at (Fails x w) vs ls t = refl

  applied_at : (m : ℕ) (o : Operation) (g : Gathered) → applied (guarded.perform told z m o) (all_named g) ≡ value_named (applied (guarded.perform plain z m o) g)
  applied_at m o (Ready vs ls t w) = ap (λ d. performed d vs ls t) (operation_named m o vs w) ∙ done_at (guarded.perform plain z m o vs w) vs ls t
  applied_at m o (Broke x ls w) = refl

  applied_named : (m : ℕ) (o : Operation) (g' g : Gathered) → g' ≡ all_named g → applied (guarded.perform told z m o) g' ≡ value_named (applied (guarded.perform plain z m o) g)
  applied_named m o g' g e = ap (applied (guarded.perform told z m o)) e ∙ applied_at m o g

  rest_at : (vs : List Slot) (e : Evaluated) (go' go : More) → SameMore go' go → then_rest vs (value_named e) go' ≡ all_named (then_rest vs e go)
  rest_at vs (Gave v ls t w) go' go k = k v ls t w
  rest_at vs (Failed x ls w) go' go k = refl

  rest_named : (vs : List Slot) (e' e : Evaluated) (go' go : More) → e' ≡ value_named e → SameMore go' go → then_rest vs e' go' ≡ all_named (then_rest vs e go)
  rest_named vs e' e go' go h k = ap (λ x. then_rest vs x go') h ∙ rest_at vs e go' go k

  one_named : (e' e : Evaluated) → e' ≡ value_named e → one e' ≡ all_named (one e)
  one_named e' e h = rest_named [] e' e (λ v ls t w. Ready (v ∷ []) ls t w) (λ v ls t w. Ready (v ∷ []) ls t w) h (λ v ls t w. refl)

  two_named : (e' e : Evaluated) (go' go : Go) → e' ≡ value_named e → SameGo go' go → two e' go' ≡ all_named (two e go)
  two_named e' e go' go h k =
      rest_named [] e' e _ _ h
      (λ v ls t w. rest_named (v ∷ []) (go' ls t w) (go ls t w) (λ x ls' t' w'. Ready (x ∷ v ∷ []) ls' t' w') (λ x ls' t' w'. Ready (x ∷ v ∷ []) ls' t' w') (k ls t w) (λ x ls' t' w'. refl))

  -- ---- locals

  load_at : (v : Slot) (ls : List Slot) (t : ℕ) (o : Tried) → or_else o (λ w. Failed Tally ls w) (λ w. Gave v ls t w) ≡ value_named (or_else o (λ w. Failed Tally ls w) (λ w. Gave v ls t w))
  load_at v ls t (No w) = refl
  load_at v ls t (Yes w) = refl

  loaded_named : (v : Slot) → SameGo (loaded v) (loaded v)
  loaded_named v ls t w = load_at v ls t (hold v w)

  assign_at : (i : ℕ) (v : Slot) (ls : List Slot) (t : ℕ) (o : Tried)
      → or_else o (λ w. Failed Tally ls (give v w)) (λ w. Gave v (local_set ls i v) t (give (local_at ls i) w))
      ≡ value_named (or_else o (λ w. Failed Tally ls (give v w)) (λ w. Gave v (local_set ls i v) t (give (local_at ls i) w)))
  assign_at i v ls t (No w) = refl
  assign_at i v ls t (Yes w) = refl

  assigned_at : (i : ℕ) (e : Evaluated) → assigned i (value_named e) ≡ value_named (assigned i e)
  assigned_at i (Gave v ls t w) = assign_at i v ls t (hold v w)
  assigned_at i (Failed x ls w) = refl

  change_at : (i : ℕ) (c : Changed) (v : Slot) (ls : List Slot) (t : ℕ) (w : World) → IsKeptChange n u c → altered_by i c v ls t w ≡ value_named (altered_by i c v ls t w)
  change_at i (Into stored given) v ls t w h = refl
  change_at i (Never x) v ls t w h = ap (λ y. Failed y ls (give v w)) (sym h)

  altered_at : (i : ℕ) (c : Update) (e : Evaluated) → guarded.altered told z i c (value_named e) ≡ value_named (guarded.altered plain z i c e)
  altered_at i c (Gave v ls t w) =
      let x = local_at ls i in
      guard_named (is_number x && is_number v) (results.altered i c (Gave v ls t w)) (results.altered i c (Gave v ls t w)) (λ y. Failed y ls (give v w)) value_named
      (ap (λ y. Failed y ls (give v w)) keep)
      (λ h. change_at i (change_of c x v) v ls t w (change_kept n u c x v (left_of (is_number x) (is_number v) h) (right_of (is_number x) (is_number v) h)))
  altered_at i c (Failed x ls w) = refl

  altered_named : (i : ℕ) (c : Update) (e' e : Evaluated) → e' ≡ value_named e → guarded.altered told z i c e' ≡ value_named (guarded.altered plain z i c e)
  altered_named i c e' e h = ap (guarded.altered told z i c) h ∙ altered_at i c e

  -- ---- choices

  choice_at : (v : Slot) (ls : List Slot) (t : ℕ) (w : World) (one' two' one two : Go) → SameGo one' one → SameGo two' two → is_number v ≡ true
      → results.chosen (Gave v ls t w) one' two' ≡ value_named (results.chosen (Gave v ls t w) one two)
  choice_at (Bits zero) ls t w one' two' one two a b h = b ls t w
  choice_at (Bits (suc k)) ls t w one' two' one two a b h = a ls t w
  choice_at (Script j) ls t w one' two' one two a b h = absurd (let x : ⊥ = cc in x)
  choice_at (Host d j) ls t w one' two' one two a b h = absurd (let x : ⊥ = cc in x)

  chosen_at : (e : Evaluated) (one' two' one two : Go) → SameGo one' one → SameGo two' two
      → guarded.chosen told z (value_named e) one' two' ≡ value_named (guarded.chosen plain z e one two)
  chosen_at (Gave v ls t w) one' two' one two a b =
      guard_named (is_number v) (results.chosen (Gave v ls t w) one' two') (results.chosen (Gave v ls t w) one two) (λ y. Failed y ls (give v w)) value_named
      (ap (λ y. Failed y ls (give v w)) keep) (λ h. choice_at v ls t w one' two' one two a b h)
  chosen_at (Failed x ls w) one' two' one two a b = refl

  chosen_named : (e' e : Evaluated) (one' two' one two : Go) → e' ≡ value_named e → SameGo one' one → SameGo two' two
      → guarded.chosen told z e' one' two' ≡ value_named (guarded.chosen plain z e one two)
  chosen_named e' e one' two' one two h a b = ap (λ x. guarded.chosen told z x one' two') h ∙ chosen_at e one' two' one two a b

  branch_at : (v : Slot) (ls : List Slot) (t : ℕ) (w : World) (go' other' go other : GoOn) → SameOn go' go → SameOn other' other → is_number v ≡ true
      → source.branched (Gave v ls t w) go' other' ≡ ran_named (source.branched (Gave v ls t w) go other)
  branch_at (Bits zero) ls t w go' other' go other a b h = b ls t w
  branch_at (Bits (suc k)) ls t w go' other' go other a b h = a ls t w
  branch_at (Script j) ls t w go' other' go other a b h = absurd (let x : ⊥ = cc in x)
  branch_at (Host d j) ls t w go' other' go other a b h = absurd (let x : ⊥ = cc in x)

  branched_at : (e : Evaluated) (go' other' go other : GoOn) → SameOn go' go → SameOn other' other
      → guarded.branched told z (value_named e) go' other' ≡ ran_named (guarded.branched plain z e go other)
  branched_at (Gave v ls t w) go' other' go other a b =
      guard_named (is_number v) (source.branched (Gave v ls t w) go' other') (source.branched (Gave v ls t w) go other) (λ y. Halted y ls (give v w)) ran_named
      (ap (λ y. Halted y ls (give v w)) keep) (λ h. branch_at v ls t w go' other' go other a b h)
  branched_at (Failed x ls w) go' other' go other a b = refl

  branched_named : (e' e : Evaluated) (go' other' go other : GoOn) → e' ≡ value_named e → SameOn go' go → SameOn other' other
      → guarded.branched told z e' go' other' ≡ ran_named (guarded.branched plain z e go other)
  branched_named e' e go' other' go other h a b = ap (λ x. guarded.branched told z x go' other') h ∙ branched_at e go' other' go other a b

  -- ---- calls

  replied_at : (m : ℕ) (xs : List Target) (r : Reply) (ls : List Slot) → guarded.replied told z m xs (reply_named n u r) ls ≡ value_named (guarded.replied plain z m xs r ls)
  replied_at m xs (Yields v outs t w) ls =
      guard_named (all_take m xs outs ls w) (results.replied m xs (Yields v outs t w) ls) (results.replied m xs (Yields v outs t w) ls) (λ y. Failed y ls (give_all outs (give v w))) value_named
      (ap (λ y. Failed y ls (give_all outs (give v w))) keep) (λ h. refl)
  replied_at m xs (Raises x w) ls = refl

  called_at : (m : ℕ) (ask' ask : Asks) (xs : List Target) (g : Gathered) → SameAsk ask' ask → guarded.called told z m ask' xs (all_named g) ≡ value_named (guarded.called plain z m ask xs g)
  called_at m ask' ask xs (Ready vs ls t w) k = ap (λ r. guarded.replied told z m xs r ls) (k vs t w) ∙ replied_at m xs (ask vs t w) ls
  called_at m ask' ask xs (Broke x ls w) k = refl

  called_named : (m : ℕ) (ask' ask : Asks) (xs : List Target) (g' g : Gathered) → SameAsk ask' ask → g' ≡ all_named g
      → guarded.called told z m ask' xs g' ≡ value_named (guarded.called plain z m ask xs g)
  called_named m ask' ask xs g' g k h = ap (guarded.called told z m ask' xs) h ∙ called_at m ask' ask xs g k

  module _ (body' body : Calls) (same : (g : Routine) → SameAsk (body' g) (body g)) (d : ℕ) where
    memory_at : (g : Routine) (vs : List Slot) (t : ℕ) (o : Tried) → or_else o (λ w. Raises Memory (give_all vs w)) (λ w. body' g vs t w)
        ≡ reply_named n u (or_else o (λ w. Raises Memory (give_all vs w)) (λ w. body g vs t w))
    memory_at g vs t (No w) = refl
    memory_at g vs t (Yes w) = same g vs t w

    ticks_at : (g : Routine) (vs : List Slot) (t : ℕ) (w : World)
        → ticked t (Raises Budget (give_all vs w)) (λ t'. or_else (memory_step w) (λ w'. Raises Memory (give_all vs w')) (λ w'. body' g vs t' w'))
        ≡ reply_named n u (ticked t (Raises Budget (give_all vs w)) (λ t'. or_else (memory_step w) (λ w'. Raises Memory (give_all vs w')) (λ w'. body g vs t' w')))
    ticks_at g vs zero w = refl
    ticks_at g vs (suc t) w = memory_at g vs t (memory_step w)

    nesting_at : (b : Bool) (vs : List Slot) (w : World) (r' r : Reply) → r' ≡ reply_named n u r
        → cond b r' (Raises Depth (give_all vs w)) ≡ reply_named n u (cond b r (Raises Depth (give_all vs w)))
    nesting_at true vs w r' r h = h
    nesting_at false vs w r' r h = refl

    -- null where the function takes an object itself
    objects_at : (b : Bool) (vs : List Slot) (w : World) (r' r : Reply) → r' ≡ reply_named n u r
        → guard (Faulting n) b (cond b r' (Raises Null (give_all vs w))) (λ x. Raises x (give_all vs w)) ≡ reply_named n u (cond b r (Raises Null (give_all vs w)))
    objects_at true vs w r' r h = h
    objects_at false vs w r' r h = refl

    entered_named : (g : Routine) (vs : List Slot) (t : ℕ) (w : World)
        → guard (Faulting n) (has_objects (params_of z g) vs) (entered z body' d g vs t w) (λ x. Raises x (give_all vs w)) ≡ reply_named n u (entered z body d g vs t w)
    entered_named g vs t w = objects_at (has_objects (params_of z g) vs) vs w _ _ (nesting_at (may_nest z d) vs w _ _ (ticks_at g vs t w))

    linked_named : (o : Option Routine) (vs : List Slot) (t : ℕ) (w : World)
        → guard (Faulting n) (true && has_arguments z (bound o) vs) (guard (Faulting u) (is_some o) (found_entered z body' d (bound o) vs t w) (λ x. Raises x (give_all vs w))) (λ x. Raises x (give_all vs w))
        ≡ reply_named n u (found_entered z body d (bound o) vs t w)
    linked_named None vs t w = refl
    linked_named (Some g) vs t w = entered_named g vs t w

    method_named : (o : Option Routine) (vs : List Slot) (t : ℕ) (w : World) → is_some o ≡ true
        → guard (Faulting n) (true && has_arguments z (bound o) vs) (found_entered z body' d (bound o) vs t w) (λ x. Raises x (give_all vs w)) ≡ reply_named n u (found_entered z body d (bound o) vs t w)
    method_named None vs t w h = absurd (let x : ⊥ = cc in x)
    method_named (Some g) vs t w h = entered_named g vs t w

    object_method_named : (m s : ℕ) (o : Option ScriptRecord) (vs : List Slot) (t : ℕ) (w : World) → has_method_at z m s o ≡ true
        → guard (Faulting n) (true && has_arguments z (method_of z m s o) vs) (found_entered z body' d (method_of z m s o) vs t w) (λ x. Raises x (give_all vs w))
        ≡ reply_named n u (found_entered z body d (method_of z m s o) vs t w)
    object_method_named m s None vs t w h = absurd (let x : ⊥ = cc in x)
    object_method_named m s (Some o) vs t w h = method_named (z.method m o.class s) vs t w h

    virtual_named : (m s : ℕ) (v : Slot) (vs : List Slot) (t : ℕ) (w : World) → has_method z m s v w ≡ true
        → guard (Faulting n) (not (is_null v) && has_arguments z (virtual_of z m s v w) vs) (found_entered z body' d (virtual_of z m s v w) vs t w) (λ x. Raises x (give_all vs w))
        ≡ reply_named n u (found_entered z body d (virtual_of z m s v w) vs t w)
    unfolding is_null
    virtual_named m s (Bits k) vs t w h = absurd (let x : ⊥ = cc in x)
    virtual_named m s (Script None) vs t w h = refl
    virtual_named m s (Script (Some k)) vs t w h = object_method_named m s (map.get w.objects k) vs t w h
    virtual_named m s (Host e k) vs t w h = absurd (let x : ⊥ = cc in x)

    -- a call that meets no misfit
    found_named : (m : ℕ) (k : Callee) (vs : List Slot) (t : ℕ) (w : World) → finds z m k vs w ≡ true
        → guard (Faulting n) (has_receiver z m k vs && has_arguments z (target z m k vs w) vs)
        (guard (Faulting u) (is_linked z m k) (found_entered z body' d (target z m k vs w) vs t w) (λ x. Raises x (give_all vs w))) (λ x. Raises x (give_all vs w))
        ≡ reply_named n u (found_entered z body d (target z m k vs w) vs t w)
    unfolding target
    found_named m (Own g) vs t w h = entered_named (record { home = m; number = g }) vs t w
    found_named m (Import i) vs t w h = linked_named (z.linked m i) vs t w
    found_named m (Virtual s) vs t w h = virtual_named m s (receiver_in (params_in (z.slot m s)) vs) vs t w h

    enter_named : (m : ℕ) (k : Callee) → SameAsk (guarded.enter told z body' d m k) (guarded.enter plain z body d m k)
    enter_named m k vs t w =
        guard_named (finds z m k vs w) _ (found_entered z body d (target z m k vs w) vs t w) (λ x. Raises x (give_all vs w)) (reply_named n u)
        (ap (λ x. Raises x (give_all vs w)) keep) (found_named m k vs t w)

  -- ---- statements

  then_at : (e : Evaluated) (go' go : Then) → SameThen go' go → with_value (value_named e) go' ≡ ran_named (with_value e go)
  then_at (Gave v ls t w) go' go k = k v ls t w
  then_at (Failed x ls w) go' go k = refl

  with_value_named : (e' e : Evaluated) (go' go : Then) → e' ≡ value_named e → SameThen go' go → with_value e' go' ≡ ran_named (with_value e go)
  with_value_named e' e go' go h k = ap (λ x. with_value x go') h ∙ then_at e go' go k

  discarded_named : (e' e : Evaluated) → e' ≡ value_named e → discarded e' ≡ ran_named (discarded e)
  discarded_named e' e h = with_value_named e' e (λ v ls t w. Went ls t (give v w)) (λ v ls t w. Went ls t (give v w)) h (λ v ls t w. refl)

  next_at : (r : Ran) (go' go : GoOn) → SameOn go' go → then_run (ran_named r) go' ≡ ran_named (then_run r go)
  next_at (Went ls t w) go' go k = k ls t w
  next_at (Returned v ls t w) go' go k = refl
  next_at (Halted x ls w) go' go k = refl
  next_at (Broken ls t w) go' go k = refl
  next_at (Continued ls t w) go' go k = refl

  then_run_named : (r' r : Ran) (go' go : GoOn) → r' ≡ ran_named r → SameOn go' go → then_run r' go' ≡ ran_named (then_run r go)
  then_run_named r' r go' go h k = ap (λ x. then_run x go') h ∙ next_at r go' go k

  leave_at : (k : ℕ) (r : Ran) → leave k (ran_named r) ≡ ran_named (leave k r)
  leave_at k (Went ls t w) = refl
  leave_at k (Returned v ls t w) = refl
  leave_at k (Halted x ls w) = refl
  leave_at k (Broken ls t w) = refl
  leave_at k (Continued ls t w) = refl

  block_named : (go' go : GoOn) → SameOn go' go → SameOn (in_block go') (in_block go)
  block_named go' go k ls t w = ap (leave (length ls)) (k ls t w) ∙ leave_at (length ls) (go ls t w)

  caught_at : (k : ℕ) (r : Ran) (go' go : GoOn) → SameOn go' go → caught k (ran_named r) go' ≡ ran_named (caught k r go)
  caught_at k (Went ls t w) go' go h = h _ t _
  caught_at k (Continued ls t w) go' go h = h _ t _
  caught_at k (Broken ls t w) go' go h = refl
  caught_at k (Returned v ls t w) go' go h = refl
  caught_at k (Halted x ls w) go' go h = refl

  caught_named : (k : ℕ) (r' r : Ran) (go' go : GoOn) → r' ≡ ran_named r → SameOn go' go → caught k r' go' ≡ ran_named (caught k r go)
  caught_named k r' r go' go h p = ap (λ x. caught k x go') h ∙ caught_at k r go' go p

  tested_named : (go' go : GoOn) → SameOn go' go → SameOn (tested go') (tested go)
  tested_named go' go k ls zero w = refl
  tested_named go' go k ls (suc t) w = k ls t w

  finished_at : (ps : List Passing) (r : Ran) → finished ps (ran_named r) ≡ reply_named n u (finished ps r)
  finished_at ps (Went ls t w) = refl
  finished_at ps (Returned v ls t w) = refl
  finished_at ps (Halted x ls w) = refl
  finished_at ps (Broken ls t w) = refl
  finished_at ps (Continued ls t w) = refl

  -- ---- the tree, over calls that are the same but for these names

  module _ (m : ℕ) (calls' calls : Callees) (calls_are : (k : Callee) → SameAsk (calls' k) (calls k)) where
    abbrev G' : t.Expr → Go
    G' = guarded.evaluate told z m calls'

    abbrev G : t.Expr → Go
    G = guarded.evaluate plain z m calls

    read_named : (x : TypedVariable) → SameGo (guarded.read_variable told z m x) (guarded.read_variable plain z m x)
    read_named (variable.Local i) ls k w = loaded_named (local_at ls (inner ls i)) ls k w
    read_named (variable.Global g) ls k w = applied_named m (GlobalGet g) (Ready [] ls k w) (Ready [] ls k w) refl
    read_named (variable.Property h) ls k w = applied_named m (Read h.entity) (Ready [] ls k w) (Ready [] ls k w) refl
    read_named (variable.Field i) ls k w = applied_named m (FieldGet i) _ _ (one_named (this_of ls k w) (this_of ls k w) (loaded_named (local_at ls (inner ls 0)) ls k w))

    member_read_named : (x : TypedMember) (e' e : Evaluated) → e' ≡ value_named e → guarded.read_member told z m x e' ≡ value_named (guarded.read_member plain z m x e)
    member_read_named (member.Field i) e' e h = applied_named m (FieldGet i) _ _ (one_named e' e h)
    member_read_named (member.Property p) e' e h = applied_named m (Read p.entity) _ _ (one_named e' e h)

    this_named : SameGo this_of this_of
    this_named ls k w = loaded_named (local_at ls (inner ls 0)) ls k w

    stored_named : (x : TypedVariable) (ls : List Slot) (e' e : Evaluated) → e' ≡ value_named e → guarded.stored told z m x ls e' ≡ value_named (guarded.stored plain z m x ls e)
    stored_named (variable.Local i) ls e' e h = ap (assigned (inner ls i)) h ∙ assigned_at (inner ls i) e
    stored_named (variable.Global g) ls e' e h = applied_named m (GlobalSet g) _ _ (one_named e' e h)
    stored_named (variable.Property p) ls e' e h = applied_named m (Write p.entity) _ _ (one_named e' e h)
    stored_named (variable.Field i) ls e' e h = applied_named m (FieldSet i) _ _ (two_named e' e this_of this_of h this_named)

    member_stored_named : (x : TypedMember) (e' e : Evaluated) (go' go : Go) → e' ≡ value_named e → SameGo go' go
        → guarded.member_stored told z m x e' go' ≡ value_named (guarded.member_stored plain z m x e go)
    member_stored_named (member.Field i) e' e go' go h k = applied_named m (FieldSet i) _ _ (two_named e' e go' go h k)
    member_stored_named (member.Property p) e' e go' go h k = applied_named m (Write p.entity) _ _ (two_named e' e go' go h k)

    changed_named : (x : TypedVariable) (ls : List Slot) (c : Update) (e' e : Evaluated) → e' ≡ value_named e
        → guarded.changed_by told z m x ls c e' ≡ value_named (guarded.changed_by plain z m x ls c e)
    changed_named (variable.Local i) ls c e' e h = altered_named (inner ls i) c e' e h
    changed_named (variable.Global g) ls c e' e h = applied_named m (GlobalChange c g) _ _ (one_named e' e h)
    changed_named (variable.Property p) ls c e' e h = applied_named m (Alter p.entity c) _ _ (one_named e' e h)
    changed_named (variable.Field i) ls c e' e h = applied_named m (FieldChange c i) _ _ (two_named e' e this_of this_of h this_named)

    member_changed_named : (x : TypedMember) (c : Update) (e' e : Evaluated) (go' go : Go) → e' ≡ value_named e → SameGo go' go
        → guarded.member_changed told z m x c e' go' ≡ value_named (guarded.member_changed plain z m x c e go)
    member_changed_named (member.Field i) c e' e go' go h k = applied_named m (FieldChange c i) _ _ (two_named e' e go' go h k)
    member_changed_named (member.Property p) c e' e go' go h k = applied_named m (Alter p.entity c) _ _ (two_named e' e go' go h k)

    mutual
      eval_named : (e : t.Expr) → SameGo (G' e) (G e)
      eval_named (t.number ty k) ls i w = refl
      eval_named (t.truth b) ls i w = refl
      eval_named (t.read (t.named x) ty) ls i w = read_named x ls i w
      eval_named (t.read (t.member_of o a) ty) ls i w = member_read_named a (G' o ls i w) (G o ls i w) (eval_named o ls i w)
      eval_named t.null ls i w = refl
      eval_named (t.convert from to e) ls i w = applied_named m (Convert to) _ _ (one_named (G' e ls i w) (G e ls i w) (eval_named e ls i w))
      eval_named (t.negate ty e) ls i w = applied_named m (Negate ty) _ _ (one_named (G' e ls i w) (G e ls i w) (eval_named e ls i w))
      eval_named (t.complement ty e) ls i w = applied_named m (Complement ty) _ _ (one_named (G' e ls i w) (G e ls i w) (eval_named e ls i w))
      eval_named (t.not e) ls i w = applied_named m Not _ _ (one_named (G' e ls i w) (G e ls i w) (eval_named e ls i w))
      eval_named (t.operate op ty l r) ls i w = applied_named m (Binary op ty) _ _ (two_named (G' l ls i w) (G l ls i w) (G' r) (G r) (eval_named l ls i w) (eval_named r))
      eval_named (t.compare op ty l r) ls i w =
          applied_named m (Compare op (is_signed ty)) _ _ (two_named (G' l ls i w) (G l ls i w) (G' r) (G r) (eval_named l ls i w) (eval_named r))
      eval_named (t.and l r) ls i w =
          chosen_named (G' l ls i w) (G l ls i w) (G' r) (λ ls' i' w'. Gave (Bits (truth false)) ls' i' w') (G r) (λ ls' i' w'. Gave (Bits (truth false)) ls' i' w') (eval_named l ls i w)
          (eval_named r) (λ ls' i' w'. refl)
      eval_named (t.or l r) ls i w =
          chosen_named (G' l ls i w) (G l ls i w) (λ ls' i' w'. Gave (Bits (truth true)) ls' i' w') (G' r) (λ ls' i' w'. Gave (Bits (truth true)) ls' i' w') (G r) (eval_named l ls i w)
          (λ ls' i' w'. refl) (eval_named r)
      eval_named (t.choose a l r) ls i w = chosen_named (G' a ls i w) (G a ls i w) (G' l) (G' r) (G l) (G r) (eval_named a ls i w) (eval_named l) (eval_named r)
      eval_named (t.same l r) ls i w = applied_named m Same _ _ (two_named (G' l ls i w) (G l ls i w) (G' r) (G r) (eval_named l ls i w) (eval_named r))
      eval_named (t.naming x e) ls i w = eval_named e ls i w
      eval_named (t.cast k e) ls i w = applied_named m (Cast k) _ _ (one_named (G' e ls i w) (G e ls i w) (eval_named e ls i w))
      eval_named (t.make k None args) ls i w = applied_named m (Make k) (Ready [] ls i w) (Ready [] ls i w) refl
      eval_named (t.make k (Some g) args) ls i w =
          called_named m (calls' (Own g)) (calls (Own g)) (targets_of ls args) _ _ (calls_are (Own g))
          (rest_named [] (applied (guarded.perform told z m (Make k)) (Ready [] ls i w)) (applied (guarded.perform plain z m (Make k)) (Ready [] ls i w)) _ _
          (applied_named m (Make k) (Ready [] ls i w) (Ready [] ls i w) refl) (λ o ls' i' w'. args_named args (o ∷ []) ls' i' w'))
      eval_named (t.assign (t.named x) ty e) ls i w = stored_named x ls (G' e ls i w) (G e ls i w) (eval_named e ls i w)
      eval_named (t.assign (t.member_of o a) ty e) ls i w = member_stored_named a (G' e ls i w) (G e ls i w) (G' o) (G o) (eval_named e ls i w) (eval_named o)
      eval_named (t.compound (t.named x) ty op at e) ls i w = changed_named x ls (compound_of ty op at) (G' e ls i w) (G e ls i w) (eval_named e ls i w)
      eval_named (t.compound (t.member_of o a) ty op at e) ls i w =
          member_changed_named a (compound_of ty op at) (G' e ls i w) (G e ls i w) (G' o) (G o) (eval_named e ls i w) (eval_named o)
      eval_named (t.step (t.named x) ty kind) ls i w = changed_named x ls (step_of ty kind) (Gave (Bits 1) ls i w) (Gave (Bits 1) ls i w) refl
      eval_named (t.step (t.member_of o a) ty kind) ls i w =
          member_changed_named a (step_of ty kind) (Gave (Bits 1) ls i w) (Gave (Bits 1) ls i w) (G' o) (G o) refl (eval_named o)
      eval_named (t.call g ty args) ls i w = called_named m (calls' (callee_of g)) (calls (callee_of g)) (targets_of ls args) _ _ (calls_are (callee_of g)) (args_named args [] ls i w)
      eval_named (t.host_call h ty args) ls i w = applied_named m (Ask h.entity) _ _ (args_named args [] ls i w)

      args_named : (args : t.Args) (vs ls : List Slot) (i : ℕ) (w : World) → guarded.evaluate_all told z m calls' args vs ls i w ≡ all_named (guarded.evaluate_all plain z m calls args vs ls i w)
      args_named t.none vs ls i w = refl
      args_named (t.more a args) vs ls i w =
          rest_named vs (guarded.evaluate_argument told z m calls' a ls i w) (guarded.evaluate_argument plain z m calls a ls i w) _ _ (argument_named a ls i w)
          (λ v ls' i' w'. args_named args (v ∷ vs) ls' i' w')

      argument_named : (a : t.Arg) → SameGo (guarded.evaluate_argument told z m calls' a) (guarded.evaluate_argument plain z m calls a)
      argument_named (t.by_value ty e) ls i w = eval_named e ls i w
      argument_named (t.out x from to) ls i w = refl

    begin_named : (ty : ArgType) (e : Option t.Expr) → SameGo (guarded.begin_local told z m calls' ty e) (guarded.begin_local plain z m calls ty e)
    begin_named ty None ls i w = refl
    begin_named ty (Some e) ls i w = eval_named e ls i w

    option_named : (k : ℕ) (e : Option t.Expr) → SameGo (guarded.evaluate_or told z m calls' k e) (guarded.evaluate_or plain z m calls k e)
    option_named k None ls i w = refl
    option_named k (Some e) ls i w = eval_named e ls i w

    locals_named : (locals : List t.Local) → SameOn (guarded.run_locals told z m calls' locals) (guarded.run_locals plain z m calls locals)
    locals_named [] ls i w = refl
    locals_named (l ∷ rest) ls i w =
        with_value_named (guarded.begin_local told z m calls' l.ty l.initializer ls i w) (guarded.begin_local plain z m calls l.ty l.initializer ls i w) _ _ (begin_named l.ty l.initializer ls i w)
        (λ v ls' i' w'. locals_named rest (v ∷ ls') i' w')

    steps_named : (es : List t.Expr) → SameOn (guarded.run_steps told z m calls' es) (guarded.run_steps plain z m calls es)
    steps_named [] ls i w = refl
    steps_named (e ∷ es) ls i w = then_run_named _ _ _ _ (discarded_named (G' e ls i w) (G e ls i w) (eval_named e ls i w)) (steps_named es)

    module _ (passes' passes : Passes) (passes_are : (e : Option t.Expr) (ss : t.Stmts) (steps : List t.Expr) → SameOn (passes' e ss steps) (passes e ss steps)) where
      abbrev R' : t.Stmts → GoOn
      R' = guarded.run_all told z m calls' passes'

      abbrev R : t.Stmts → GoOn
      R = guarded.run_all plain z m calls passes

      mutual
        run_named : (s : t.Stmt) → SameOn (guarded.run told z m calls' passes' s) (guarded.run plain z m calls passes s)
        run_named (t.block ss) ls i w = block_named (R' ss) (R ss) (run_all_named ss) ls i w
        run_named (t.locals locals) ls i w = locals_named locals ls i w
        run_named (t.expression None) ls i w = refl
        run_named (t.expression (Some e)) ls i w = discarded_named (G' e ls i w) (G e ls i w) (eval_named e ls i w)
        run_named t.break ls i w = refl
        run_named t.continue ls i w = refl
        run_named (t.return e) ls i w =
            with_value_named (guarded.evaluate_or told z m calls' 0 e ls i w) (guarded.evaluate_or plain z m calls 0 e ls i w) (λ v ls' i' w'. Returned v ls' i' w') (λ v ls' i' w'. Returned v ls' i' w')
            (option_named 0 e ls i w) (λ v ls' i' w'. refl)
        run_named (t.either e ss otherwise) ls i w =
            branched_named (G' e ls i w) (G e ls i w) (in_block (R' ss)) (in_block (R' otherwise)) (in_block (R ss)) (in_block (R otherwise)) (eval_named e ls i w)
            (block_named (R' ss) (R ss) (run_all_named ss)) (block_named (R' otherwise) (R otherwise) (run_all_named otherwise))
        run_named (t.while e ss) ls i w = tested_named (passes' (Some e) ss []) (passes (Some e) ss []) (passes_are (Some e) ss []) ls i w
        run_named (t.do_while ss e) ls i w =
            caught_named (length ls) (R' ss ls i w) (R ss ls i w) (tested (passes' (Some e) ss [])) (tested (passes (Some e) ss [])) (run_all_named ss ls i w)
            (tested_named (passes' (Some e) ss []) (passes (Some e) ss []) (passes_are (Some e) ss []))
        run_named (t.for start e steps ss) ls i w =
            block_named (λ ls' i' w'. then_run (R' start ls' i' w') (tested (passes' e ss steps))) (λ ls' i' w'. then_run (R start ls' i' w') (tested (passes e ss steps)))
            (λ ls' i' w'. then_run_named (R' start ls' i' w') (R start ls' i' w') (tested (passes' e ss steps)) (tested (passes e ss steps)) (run_all_named start ls' i' w')
            (tested_named (passes' e ss steps) (passes e ss steps) (passes_are e ss steps))) ls i w

        run_all_named : (ss : t.Stmts) → SameOn (R' ss) (R ss)
        run_all_named t.end ls i w = refl
        run_all_named (t.then s ss) ls i w =
            then_run_named (guarded.run told z m calls' passes' s ls i w) (guarded.run plain z m calls passes s ls i w) (R' ss) (R ss) (run_named s ls i w) (run_all_named ss)

      turn_named : (e : Option t.Expr) (ss : t.Stmts) (steps : List t.Expr) → SameOn (λ ls i w. then_run (guarded.run_steps told z m calls' steps ls i w) (tested (passes' e ss steps)))
          (λ ls i w. then_run (guarded.run_steps plain z m calls steps ls i w) (tested (passes e ss steps)))
      turn_named e ss steps ls i w =
          then_run_named (guarded.run_steps told z m calls' steps ls i w) (guarded.run_steps plain z m calls steps ls i w) (tested (passes' e ss steps)) (tested (passes e ss steps)) (steps_named steps ls i w)
          (tested_named (passes' e ss steps) (passes e ss steps) (passes_are e ss steps))

      pass_named : (e : Option t.Expr) (ss : t.Stmts) (steps : List t.Expr) → SameOn (guarded.pass_of told z m calls' passes' e ss steps) (guarded.pass_of plain z m calls passes e ss steps)
      pass_named e ss steps ls i w =
          branched_named (guarded.evaluate_or told z m calls' 1 e ls i w) (guarded.evaluate_or plain z m calls 1 e ls i w) _ (λ ls' i' w'. Went ls' i' w') _ (λ ls' i' w'. Went ls' i' w')
          (option_named 1 e ls i w) (λ ls' i' w'. caught_named (length ls') (R' ss ls' i' w') (R ss ls' i' w') _ _ (run_all_named ss ls' i' w') (turn_named e ss steps)) (λ ls' i' w'. refl)

      code_named : (x : Code) → SameOn (guarded.run_code told z m calls' passes' x) (guarded.run_code plain z m calls passes x)
      code_named (of_function ss) ls i w = block_named (R' ss) (R ss) (run_all_named ss) ls i w
      code_named (of_global g e) ls i w =
          discarded_named _ _ (stored_named (variable.Global g) ls (G' e ls i w) (G e ls i w) (eval_named e ls i w))

  -- ---- bodies

  module _ (codes : Codes) where
    mutual
      body_named : (fuel d : ℕ) (g : Routine) → SameAsk (guarded.body_at told z codes fuel d g) (guarded.body_at plain z codes fuel d g)
      body_named zero d g vs i w = refl
      body_named (suc fuel) d g vs i w =
          let body' = guarded.body_at told z codes fuel (suc d) in
          let body = guarded.body_at plain z codes fuel (suc d) in
          ap (finished (params_of z g))
          (code_named g.home (guarded.enter told z body' d g.home) (guarded.enter plain z body d g.home) (enter_named body' body (body_named fuel (suc d)) d g.home)
          (guarded.pass_at told z codes fuel d g.home) (guarded.pass_at plain z codes fuel d g.home) (passes_named fuel d g.home) (codes g) vs i w)
          ∙ finished_at (params_of z g) (guarded.run_code plain z g.home (guarded.enter plain z body d g.home) (guarded.pass_at plain z codes fuel d g.home) (codes g) vs i w)

      passes_named : (fuel d m : ℕ) (e : Option t.Expr) (ss : t.Stmts) (steps : List t.Expr) → SameOn (guarded.pass_at told z codes fuel d m e ss steps) (guarded.pass_at plain z codes fuel d m e ss steps)
      passes_named zero d m e ss steps ls i w = refl
      passes_named (suc fuel) d m e ss steps ls i w =
          let body' = guarded.body_at told z codes fuel (suc d) in
          let body = guarded.body_at plain z codes fuel (suc d) in
          pass_named m (guarded.enter told z body' d m) (guarded.enter plain z body d m) (enter_named body' body (body_named fuel (suc d)) d m)
          (guarded.pass_at told z codes fuel d m) (guarded.pass_at plain z codes fuel d m) (passes_named fuel d m) e ss steps ls i w

    start_named : (g : Routine) (vs : List Slot) (i : ℕ) (o : Tried) → or_else o (λ w. Raises Memory (give_all vs w)) (λ w. guarded.body_at told z codes (suc i) 0 g vs i w)
        ≡ reply_named n u (or_else o (λ w. Raises Memory (give_all vs w)) (λ w. guarded.body_at plain z codes (suc i) 0 g vs i w))
    start_named g vs i (No w) = refl
    start_named g vs i (Yes w) = body_named (suc i) 0 g vs i w

    begun_named : (g : Routine) → SameAsk (guarded.begun told z codes g) (guarded.begun plain z codes g)
    begun_named g vs i w = start_named g vs i (memory_step w)

    call_named : (budget : ℕ) (g : Routine) (vs : List Slot) (w : World) → guarded.called_with told z codes budget g vs w ≡ reply_named n u (guarded.called_with plain z codes budget g vs w)
    call_named zero g vs w = refl
    call_named (suc i) g vs w = begun_named g vs i w

    initialized_at : (r : Reply) (go' go : ℕ → World → Reply) → ((i : ℕ) (w : World) → go' i w ≡ reply_named n u (go i w))
        → then_initialized (reply_named n u r) go' ≡ reply_named n u (then_initialized r go)
    initialized_at (Yields v outs i w) go' go k = k i (give v w)
    initialized_at (Raises x w) go' go k = refl

    initializers_named : (gs : List Routine) (i : ℕ) (w : World) → guarded.initialized_all told z codes gs i w ≡ reply_named n u (guarded.initialized_all plain z codes gs i w)
    initializers_named [] i w = refl
    initializers_named (g ∷ gs) i w =
        ap (λ r. then_initialized r (λ i' w'. guarded.initialized_all told z codes gs i' w')) (begun_named g [] i w)
        ∙ initialized_at (guarded.begun plain z codes g [] i w) (λ i' w'. guarded.initialized_all told z codes gs i' w') (λ i' w'. guarded.initialized_all plain z codes gs i' w') (initializers_named gs)

pub calls_tell_causes : CallsTellCauses
calls_tell_causes z ms f n u a b setting budget g s vs w h k =
    call_named f n u (keeps n u f a b) z (sources ms) budget g vs w ∙ ap (reply_named n u) (calls_meet_no_misfit z ms (Faulting f) setting budget g s vs w h k).0

pub initializers_tell_causes : InitializersTellCauses
initializers_tell_causes z ms f n u a b setting gs ticks w h k =
    initializers_named f n u (keeps n u f a b) z (sources ms) gs ticks w ∙ ap (reply_named n u) (initializers_meet_no_misfit z ms (Faulting f) setting gs ticks w h k).0

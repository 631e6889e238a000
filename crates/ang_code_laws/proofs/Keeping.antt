-- Each step leaves the modules as many globals as they had.
use Rattle.std.proofs.Common.{◌≡◌, ℕ, zero, suc, ◌+◌, List, [], ◌∷◌, ◌++◌, length, Option, Some, None, refl, subst}
use Rattle.std.specs.Prelude.{Bool, true, false, cond, ltb, leb, slice_get}
use Rattle.ang_kinds.specs.declared.fault.Fault.{Fault}
use Rattle.ang_kinds.specs.declared.fault.Fault.TheVariants.{Null as NullFault, Budget, Depth, Memory, Tally}
use Rattle.ang_meaning.specs.declared.slot.Slot.{Slot}
use Rattle.ang_meaning.specs.declared.slot.Slot.TheVariants.{Bits, Script, Host}
use Rattle.ang_meaning.specs.declared.routine.Routine.{Routine}
use Rattle.ang_meaning.specs.Numbers.{Changed, Into, Never}
use Rattle.ang_meaning.specs.World.{World, with_inputs, Tried, Yes, No, hold, memory_step, or_else}
use Rattle.ang_meaning.specs.Environment.{Environment, Found, Enters, Misses, target, has_objects, params_of, is_fit}
use Rattle.ang_meaning.specs.Hosts.{Done, Fine, Fails}
use Rattle.ang_meaning.specs.Perform.{perform, operands, change_of}
use Rattle.ang_meaning.specs.Results.{local_at, drop_some, give_some, at_zero, on_test, ticked, brought, may_nest}
use Rattle.ang_code.specs.declared.instruction.Frame.{Frame}
use Rattle.ang_code.specs.declared.instruction.Instruction.{Instruction}
use Rattle.ang_code.specs.declared.instruction.Instruction.TheVariants.{PushBits, PushNull, Load, Store, Update, Apply, Drop, Leave, JumpIfFalse, Jump, Tick, LoopBack, Enter, Swap, SwapGlobal, SwapField, DropUnder, Return}
use Rattle.ang_code.specs.Machine.{Texts, Config, At, Over, Stuck, fault, on_top, did, changed_into, back, begins, found_enters, act, step, take_some, call_begins, initializer_begins}
use Rattle.ang_code.specs.Runs.{Completion, Gives, Stops, ended}
use Rattle.ang_code_laws.specs.Globals.{globals_of_each, HasSoMany, StepsKeep, CallRunsKeep, InitializerRunsKeep}
use Rattle.ang_code_laws.proofs.Worlds.{Has, give_has, give_all_has, give_some_has, give_back_has, give_others_has, put_has, member_has, TriedHas, memory_has, hold_has}
use Rattle.ang_code_laws.proofs.Operations.{DoneHas, perform_has}

module _ (ns : List ℕ) (z : Environment) (code : Texts) where
  -- a test before a step
  if_has : (b : Bool) (c : Config) → HasSoMany ns c → HasSoMany ns (cond b c (Over Stuck))
  if_has true c h = h
  if_has false c h = tt

  top_has : (s : List Slot) (go : Slot → List Slot → Config) → ((v : Slot) (r : List Slot) → HasSoMany ns (go v r)) → HasSoMany ns (on_top s go)
  top_has [] go h = tt
  top_has (v ∷ r) go h = h v r

  -- a fault gives up the stack
  fault_has : (x : Fault) (s : List Slot) (w : World) → Has ns w → HasSoMany ns (fault x s w)
  fault_has x s w p = give_all_has ns s w p

  else_has : (x : Fault) (s : List Slot) (o : Tried) (go : World → Config) → TriedHas ns o → ((w : World) → Has ns w → HasSoMany ns (go w)) → HasSoMany ns (or_else o (λ w. fault x s w) go)
  else_has x s (No w) go p h = fault_has x s w p
  else_has x s (Yes w) go p h = h w p

  did_has : (s : List Slot) (o : Done) (go : Slot → World → Config) → DoneHas ns o → ((v : Slot) (w : World) → Has ns w → HasSoMany ns (go v w)) → HasSoMany ns (did o s go)
  did_has s (Fine v w) go p h = h v w p
  did_has s (Fails x w) go p h = fault_has x s w p

  changed_has : (o : Changed) (s : List Slot) (w : World) (go : ℕ → ℕ → Config) → Has ns w → ((a b : ℕ) → HasSoMany ns (go a b)) → HasSoMany ns (changed_into o s w go)
  changed_has (Into a b) s w go p h = h a b
  changed_has (Never x) s w go p h = fault_has x s w p

  zero_has : (n : ℕ) (a b : Config) → HasSoMany ns a → HasSoMany ns b → HasSoMany ns (at_zero n a b)
  zero_has zero a b ha hb = ha
  zero_has (suc n) a b ha hb = hb

  test_has : (v : Slot) (bad off on : Config) → HasSoMany ns bad → HasSoMany ns off → HasSoMany ns on → HasSoMany ns (on_test v bad off on)
  test_has (Bits n) bad off on hb hf ho = zero_has n off on hf ho
  test_has (Script k) bad off on hb hf ho = hb
  test_has (Host d k) bad off on hb hf ho = hb

  tick_has : (t : ℕ) (s : List Slot) (w : World) (go : ℕ → Config) → Has ns w → ((t' : ℕ) → HasSoMany ns (go t')) → HasSoMany ns (ticked t (fault Budget s w) go)
  tick_has zero s w go p h = fault_has Budget s w p
  tick_has (suc t) s w go p h = h t

  begins_has : (g : Routine) (s : List Slot) (fr : List Frame) (t : ℕ) (w : World) → Has ns w → HasSoMany ns (begins code g s fr t w)
  begins_has g s fr t w p = else_has Memory s (memory_step w) _ (memory_has ns w p) (λ w' q. q)

  nests_has : (g : Routine) (s : List Slot) (fr : List Frame) (here : Frame) (t : ℕ) (w : World) (objects nest : Bool) → Has ns w
      → HasSoMany ns (cond objects (cond nest (ticked t (fault Budget s w) (λ t'. begins code g s (here ∷ fr) t' w)) (fault Depth s w)) (fault NullFault s w))
  nests_has g s fr here t w false nest p = fault_has NullFault s w p
  nests_has g s fr here t w true false p = fault_has Depth s w p
  nests_has g s fr here t w true true p = tick_has t s w _ p (λ t'. begins_has g s (here ∷ fr) t' w p)

  found_has : (o : Found) (s : List Slot) (fr : List Frame) (here : Frame) (t : ℕ) (w : World) → Has ns w → HasSoMany ns (found_enters z code o s fr here t w)
  found_has (Misses x) s fr here t w p = fault_has x s w p
  found_has (Enters g) s fr here t w p =
      if_has (leb (length (params_of z g)) (length s)) _ (nests_has g s fr here t w (has_objects (params_of z g) s) (may_nest z (length fr)) p)

  back_has : (fr : List Frame) (v : Slot) (outs s : List Slot) (t : ℕ) (w : World) → Has ns w → HasSoMany ns (back fr v outs s t w)
  back_has [] v outs s t w p = give_all_has ns (outs ++ s) w p
  back_has (c ∷ fr) v outs s t w p = if_has (ltb (length (outs ++ s)) c.room) _ p

  act_has : (i : Instruction) (f : Routine) (pc room : ℕ) (s : List Slot) (fr : List Frame) (t : ℕ) (w : World) → Has ns w → HasSoMany ns (act z code (Some i) f pc room s fr t w)
  act_has (PushBits n) f pc room s fr t w p = if_has (ltb (length s) room) _ p
  act_has PushNull f pc room s fr t w p = if_has (ltb (length s) room) _ p
  act_has (Load d) f pc room s fr t w p =
      let v = local_at s d in
      if_has (ltb d (length s)) _ (if_has (ltb (length s) room) _ (else_has Tally s (hold v w) _ (hold_has ns v w p) (λ w' q. q)))
  act_has (Store d) f pc room s fr t w p =
      top_has s _ (λ v r. if_has (ltb d (length r)) _ (else_has Tally (v ∷ r) (hold v w) _ (hold_has ns v w p) (λ w' q. give_has ns (local_at r d) w' q)))
  act_has (Update by d) f pc room s fr t w p =
      top_has s _ (λ v r. if_has (ltb d (length r)) _ (changed_has (change_of by (local_at r d) v) (v ∷ r) w _ p (λ a b. p)))
  act_has (Apply o) f pc room s fr t w p =
      let n = operands z f.home o in
      let vs = take_some n s in
      if_has (is_fit z f.home o) _ (if_has (leb n (length s)) _ (if_has (ltb (length (drop_some n s)) room) _
      (did_has s (perform z f.home o vs w) _ (perform_has ns z f.home o vs w p) (λ v w' q. q))))
  act_has Drop f pc room s fr t w p = top_has s _ (λ v r. give_has ns v w p)
  act_has (Leave n) f pc room s fr t w p = if_has (leb n (length s)) _ (give_some_has ns n s w p)
  act_has (JumpIfFalse n) f pc room s fr t w p = top_has s _ (λ v r. test_has v _ _ _ (fault_has NullFault (v ∷ r) w p) p p)
  act_has (Jump n) f pc room s fr t w p = p
  act_has Tick f pc room s fr t w p = tick_has t s w _ p (λ t'. p)
  act_has (LoopBack n) f pc room s fr t w p = tick_has t s w _ p (λ t'. p)
  act_has (Enter c) f pc room s fr t w p = found_has (target z f.home c s w) s fr _ t w p
  act_has (Swap to under d) f pc room s fr t w p = if_has (ltb under (length s)) _ (if_has (ltb d (length s)) _ p)
  act_has (SwapGlobal to under g) f pc room s fr t w p =
      if_has (ltb under (length s)) _ (put_has ns f.home g (brought to (local_at s under)) w p)
  act_has (SwapField to under d i) f pc room s fr t w p =
      if_has (ltb under (length s)) _ (if_has (ltb d (length s)) _ (member_has ns i (local_at s d) (brought to (local_at s under)) w p))
  act_has (DropUnder n) f pc room s fr t w p = top_has s _ (λ v r. if_has (leb n (length r)) _ (give_back_has ns (take_some n r) w p))
  act_has (Return n) f pc room s fr t w p =
      let ps = params_of z f in
      top_has s _ (λ v r. if_has (leb (n + length ps) (length r)) _
      (back_has fr v _ _ t _ (give_others_has ns ps (drop_some n r) (give_some n r w) (give_some_has ns n r w p))))

  fetched_has : (o : Option Instruction) (f : Routine) (pc room : ℕ) (s : List Slot) (fr : List Frame) (t : ℕ) (w : World) → Has ns w → HasSoMany ns (act z code o f pc room s fr t w)
  fetched_has None f pc room s fr t w p = tt
  fetched_has (Some i) f pc room s fr t w p = act_has i f pc room s fr t w p

  pub step_has : (c : Config) → HasSoMany ns c → HasSoMany ns (step z code c)
  step_has (At f pc room s fr t w) p = fetched_has (slice_get (code.text f) pc) f pc room s fr t w p
  step_has (Over o) p = p

pub steps_keep : StepsKeep
steps_keep ns z code zero c p = p
steps_keep ns z code (suc n) c p = steps_keep ns z code n (step z code c) (step_has ns z code c p)

-- ---- whole runs

end_has : (ns : List ℕ) (w : World) (end : Completion) → HasSoMany ns (Over (ended end (with_inputs [] w))) → globals_of_each w ≡ ns
end_has ns w (Gives v t) p = p
end_has ns w (Stops x) p = p

pub call_runs_keep : CallRunsKeep
call_runs_keep z code budget g vs w w' end run =
    let ns = globals_of_each w in
    let u : World = with_inputs (run.told.used ++ []) w in
    let begins : HasSoMany ns (call_begins z code budget g vs u) = tick_has ns z code budget vs u _ refl (λ t. begins_has ns z code g vs [] t u refl) in
    end_has ns w' end (subst (HasSoMany ns) (run.told.tells []) (steps_keep ns z code run.count (call_begins z code budget g vs u) begins))

pub initializer_runs_keep : InitializerRunsKeep
initializer_runs_keep z code t g w w' end run =
    let ns = globals_of_each w in
    let u : World = with_inputs (run.told.used ++ []) w in
    end_has ns w' end (subst (HasSoMany ns) (run.told.tells []) (steps_keep ns z code run.count (initializer_begins z code t g u) (begins_has ns z code g [] [] t u refl)))

-- Each run is told what it lists, and a refusal ends it.
use Rattle.std.proofs.Common.{ℕ, zero, suc, ◌+◌, List, [], ◌∷◌, ◌++◌, length, Option, Some, None}
use Rattle.std.specs.Prelude.{Bool, true, false, cond, ltb, leb, slice_get}
use Rattle.ang_kinds.specs.declared.fault.Fault.{Fault}
use Rattle.ang_kinds.specs.declared.fault.Fault.TheVariants.{Null as NullFault, Budget, Depth, Memory, Tally}
use Rattle.ang_meaning.specs.declared.slot.Slot.{Slot}
use Rattle.ang_meaning.specs.declared.slot.Slot.TheVariants.{Bits, Script, Host}
use Rattle.ang_meaning.specs.declared.routine.Routine.{Routine}
use Rattle.ang_meaning.specs.Numbers.{Changed, Into, Never}
use Rattle.ang_meaning.specs.World.{World, Tried, Yes, No, hold, give, give_all, memory_step, or_else}
use Rattle.ang_meaning.specs.Told.{GoesOn, Faults}
use Rattle.ang_meaning.specs.Environment.{Environment, Found, Enters, Misses, target, has_objects, params_of, is_fit}
use Rattle.ang_meaning.specs.Hosts.{Done, Fine, Fails}
use Rattle.ang_meaning.specs.Perform.{perform, operands, change_of, global_put, member_put}
use Rattle.ang_meaning.specs.Results.{local_at, drop_some, give_some, give_back, at_zero, on_test, ticked, brought, give_others, may_nest}
use Rattle.ang_meaning.proofs.Moving.{goes_then, goes_stop, faulted, gives, stop_gives, nothing, give_moves, give_all_moves, give_some_moves, give_back_moves, give_others_moves, put_moves, member_moves, TriedFrom, memory_goes, hold_goes, DoneFrom, perform_goes}
use Rattle.ang_code.specs.declared.instruction.Frame.{Frame}
use Rattle.ang_code.specs.declared.instruction.Instruction.{Instruction}
use Rattle.ang_code.specs.declared.instruction.Instruction.TheVariants.{PushBits, PushNull, Load, Store, Update, Apply, Drop, Leave, JumpIfFalse, Jump, Tick, LoopBack, Enter, Swap, SwapGlobal, SwapField, DropUnder, Return}
use Rattle.ang_code.specs.Machine.{Texts, Config, At, Over, Stuck, fault, roomy, within, enough, on_top, did, changed_into, back, begins, found_enters, act, step, steps, take_some, call_begins, initializer_begins}
use Rattle.ang_code.specs.Told.{ComesFrom, CallsComeFrom, InitializersComeFrom}

module _ (z : Environment) (code : Texts) (u : World) where
  -- a test before a step
  if_from : (b : Bool) (c : Config) → ComesFrom u c → ComesFrom u (cond b c (Over Stuck))
  if_from true c h = h
  if_from false c h = tt

  roomy_from : (room : ℕ) (s : List Slot) (c : Config) → ComesFrom u c → ComesFrom u (roomy room s c)
  roomy_from room s c h = if_from (ltb (length s) room) c h

  within_from : (d : ℕ) (s : List Slot) (c : Config) → ComesFrom u c → ComesFrom u (within d s c)
  within_from d s c h = if_from (ltb d (length s)) c h

  enough_from : (k : ℕ) (s : List Slot) (c : Config) → ComesFrom u c → ComesFrom u (enough k s c)
  enough_from k s c h = if_from (leb k (length s)) c h

  top_from : (s : List Slot) (go : Slot → List Slot → Config) → ((v : Slot) (r : List Slot) → ComesFrom u (go v r)) → ComesFrom u (on_top s go)
  top_from [] go h = tt
  top_from (v ∷ r) go h = h v r

  -- a fault gives up the stack
  stop_from : (x : Fault) (s : List Slot) (w : World) → Faults x u w → ComesFrom u (fault x s w)
  stop_from x s w p = stop_gives x u w (give_all s w) p (give_all_moves s w)

  fault_from : (x : Fault) (s : List Slot) (w : World) → GoesOn u w → ComesFrom u (fault x s w)
  fault_from x s w p = stop_from x s w (faulted x u w p)

  else_from : (x : Fault) (s : List Slot) (w : World) (o : Tried) (go : World → Config) → GoesOn u w → TriedFrom x w o → ((w' : World) → GoesOn u w' → ComesFrom u (go w')) → ComesFrom u (or_else o (λ w'. fault x s w') go)
  else_from x s w (No w') go p q h = stop_from x s w' (goes_stop x u w w' p q)
  else_from x s w (Yes w') go p q h = h w' (goes_then u w w' p q)

  did_from : (w : World) (o : Done) (s : List Slot) (go : Slot → World → Config) → GoesOn u w → DoneFrom w o → ((v : Slot) (w' : World) → GoesOn u w' → ComesFrom u (go v w')) → ComesFrom u (did o s go)
  did_from w (Fine v w') s go p q h = h v w' (goes_then u w w' p q)
  did_from w (Fails x w') s go p q h = stop_from x s w' (goes_stop x u w w' p q)

  changed_from : (o : Changed) (s : List Slot) (w : World) (go : ℕ → ℕ → Config) → GoesOn u w → ((a b : ℕ) → ComesFrom u (go a b)) → ComesFrom u (changed_into o s w go)
  changed_from (Into a b) s w go p h = h a b
  changed_from (Never x) s w go p h = fault_from x s w p

  zero_from : (n : ℕ) (a b : Config) → ComesFrom u a → ComesFrom u b → ComesFrom u (at_zero n a b)
  zero_from zero a b ha hb = ha
  zero_from (suc n) a b ha hb = hb

  test_from : (v : Slot) (bad off on : Config) → ComesFrom u bad → ComesFrom u off → ComesFrom u on → ComesFrom u (on_test v bad off on)
  test_from (Bits n) bad off on hb hf ho = zero_from n off on hf ho
  test_from (Script k) bad off on hb hf ho = hb
  test_from (Host d k) bad off on hb hf ho = hb

  tick_from : (t : ℕ) (s : List Slot) (w : World) (go : ℕ → Config) → GoesOn u w → ((t' : ℕ) → ComesFrom u (go t')) → ComesFrom u (ticked t (fault Budget s w) go)
  tick_from zero s w go p h = fault_from Budget s w p
  tick_from (suc t) s w go p h = h t

  begins_from : (g : Routine) (s : List Slot) (fr : List Frame) (t : ℕ) (w : World) → GoesOn u w → ComesFrom u (begins code g s fr t w)
  begins_from g s fr t w p = else_from Memory s w (memory_step w) _ p (memory_goes w) (λ w' q. q)

  nests_from : (g : Routine) (s : List Slot) (fr : List Frame) (here : Frame) (t : ℕ) (w : World) (objects nest : Bool) → GoesOn u w → ComesFrom u (cond objects (cond nest (ticked t (fault Budget s w) (λ t'. begins code g s (here ∷ fr) t' w)) (fault Depth s w)) (fault NullFault s w))
  nests_from g s fr here t w false nest p = fault_from NullFault s w p
  nests_from g s fr here t w true false p = fault_from Depth s w p
  nests_from g s fr here t w true true p = tick_from t s w _ p (λ t'. begins_from g s (here ∷ fr) t' w p)

  found_from : (o : Found) (s : List Slot) (fr : List Frame) (here : Frame) (t : ℕ) (w : World) → GoesOn u w → ComesFrom u (found_enters z code o s fr here t w)
  found_from (Misses x) s fr here t w p = fault_from x s w p
  found_from (Enters g) s fr here t w p =
      enough_from (length (params_of z g)) s _ (nests_from g s fr here t w (has_objects (params_of z g) s) (may_nest z (length fr)) p)

  back_from : (fr : List Frame) (v : Slot) (outs s : List Slot) (t : ℕ) (w : World) → GoesOn u w → ComesFrom u (back fr v outs s t w)
  back_from [] v outs s t w p = goes_then u w (give_all (outs ++ s) w) p (gives w _ (give_all_moves (outs ++ s) w))
  back_from (c ∷ fr) v outs s t w p = roomy_from c.room (outs ++ s) _ p

  act_from : (i : Instruction) (f : Routine) (pc room : ℕ) (s : List Slot) (fr : List Frame) (t : ℕ) (w : World) → GoesOn u w → ComesFrom u (act z code (Some i) f pc room s fr t w)
  act_from (PushBits n) f pc room s fr t w p = roomy_from room s _ p
  act_from PushNull f pc room s fr t w p = roomy_from room s _ p
  act_from (Load d) f pc room s fr t w p =
      within_from d s _ (roomy_from room s _ (else_from Tally s w (hold (local_at s d) w) _ p (hold_goes (local_at s d) w) (λ w' q. q)))
  act_from (Store d) f pc room s fr t w p =
      top_from s _ (λ v r. within_from d r _ (else_from Tally (v ∷ r) w (hold v w) _ p (hold_goes v w)
      (λ w' q. goes_then u w' (give (local_at r d) w') q (gives w' _ (give_moves (local_at r d) w')))))
  act_from (Update by d) f pc room s fr t w p =
      top_from s _ (λ v r. within_from d r _ (changed_from (change_of by (local_at r d) v) (v ∷ r) w _ p (λ a b. p)))
  act_from (Apply o) f pc room s fr t w p =
      let vs = take_some (operands z f.home o) s in
      if_from (is_fit z f.home o) _ (enough_from (operands z f.home o) s _ (roomy_from room (drop_some (operands z f.home o) s) _
      (did_from w (perform z f.home o vs w) s _ p (perform_goes z f.home o vs w) (λ v w' q. q))))
  act_from Drop f pc room s fr t w p = top_from s _ (λ v r. goes_then u w (give v w) p (gives w _ (give_moves v w)))
  act_from (Leave n) f pc room s fr t w p = enough_from n s _ (goes_then u w (give_some n s w) p (gives w _ (give_some_moves n s w)))
  act_from (JumpIfFalse n) f pc room s fr t w p = top_from s _ (λ v r. test_from v _ _ _ (fault_from NullFault (v ∷ r) w p) p p)
  act_from (Jump n) f pc room s fr t w p = p
  act_from Tick f pc room s fr t w p = tick_from t s w _ p (λ t'. p)
  act_from (LoopBack n) f pc room s fr t w p = tick_from t s w _ p (λ t'. p)
  act_from (Enter c) f pc room s fr t w p = found_from (target z f.home c s w) s fr _ t w p
  act_from (Swap to under d) f pc room s fr t w p = within_from under s _ (within_from d s _ p)
  act_from (SwapGlobal to under g) f pc room s fr t w p =
      let v = brought to (local_at s under) in
      within_from under s _ (goes_then u w (global_put f.home g v w) p (gives w _ (put_moves f.home g v w)))
  act_from (SwapField to under d i) f pc room s fr t w p =
      let v = brought to (local_at s under) in
      let o = local_at s d in
      within_from under s _ (within_from d s _ (goes_then u w (member_put i o v w) p (gives w _ (member_moves i o v w))))
  act_from (DropUnder n) f pc room s fr t w p =
      top_from s _ (λ v r. enough_from n r _ (goes_then u w (give_back (take_some n r) w) p (gives w _ (give_back_moves (take_some n r) w))))
  act_from (Return n) f pc room s fr t w p =
      let ps = params_of z f in
      top_from s _ (λ v r. enough_from (n + length ps) r _
      (let w1 = give_some n r w in let w2 = give_others ps (drop_some n r) w1 in
      back_from fr v _ _ t w2 (goes_then u w1 w2 (goes_then u w w1 p (gives w w1 (give_some_moves n r w))) (gives w1 w2 (give_others_moves ps (drop_some n r) w1)))))

  fetched_from : (o : Option Instruction) (f : Routine) (pc room : ℕ) (s : List Slot) (fr : List Frame) (t : ℕ) (w : World) → GoesOn u w → ComesFrom u (act z code o f pc room s fr t w)
  fetched_from None f pc room s fr t w p = tt
  fetched_from (Some i) f pc room s fr t w p = act_from i f pc room s fr t w p

  pub step_from : (c : Config) → ComesFrom u c → ComesFrom u (step z code c)
  step_from (At f pc room s fr t w) p = fetched_from (slice_get (code.text f) pc) f pc room s fr t w p
  step_from (Over o) p = p

  steps_from : (n : ℕ) (c : Config) → ComesFrom u c → ComesFrom u (steps z code n c)
  steps_from zero c p = p
  steps_from (suc n) c p = steps_from n (step z code c) (step_from c p)

pub calls_come_from : CallsComeFrom
calls_come_from z code n budget g vs w =
    steps_from z code w n (call_begins z code budget g vs w) (tick_from z code w budget vs w _ (nothing w) (λ t. begins_from z code w g vs [] t w (nothing w)))

pub initializers_come_from : InitializersComeFrom
initializers_come_from z code n t g w = steps_from z code w n (initializer_begins z code t g w) (begins_from z code w g [] [] t w (nothing w))

-- What the fault `Tally` of each run comes of.
use Rattle.std.proofs.Common.{◌≡◌, ℕ, zero, suc, ◌+◌, ◌⊎◌, inl, inr, List, [], ◌∷◌, ◌++◌, length, Option, Some, None, refl, sym, ap, ◌∙◌, subst, append-nil}
use Rattle.std.specs.Prelude.{Bool, true, false, cond, ltb, leb, slice_get}
use Rattle.std.specs.FinMap as map
use Rattle.ang_kinds.specs.declared.fault.Fault.{Fault}
use Rattle.ang_kinds.specs.declared.fault.Fault.TheVariants.{Null as NullFault, Budget, Depth, Memory, Tally}
use Rattle.ang_meaning.specs.declared.slot.Slot.{Slot}
use Rattle.ang_meaning.specs.declared.slot.Slot.TheVariants.{Bits, Script, Host}
use Rattle.ang_meaning.specs.declared.routine.Routine.{Routine}
use Rattle.ang_meaning.specs.declared.routine.Callee.{Callee}
use Rattle.ang_meaning.specs.declared.routine.Callee.TheVariants.{Own, Import, Virtual}
use Rattle.ang_meaning.specs.Numbers.{Changed, Into, Never}
use Rattle.ang_meaning.specs.World.{World, ScriptRecord, Input, Tallied, with_inputs, Tried, Yes, No, hold, give_all, memory_step, or_else}
use Rattle.ang_meaning.specs.Told.{has_room, stopped_by, GoesOn, Faults}
use Rattle.ang_meaning.specs.Causes.{RefusesFullCount, TallyCause}
use Rattle.ang_meaning.specs.Environment.{Environment, Found, Enters, Misses, bound, method_of, virtual_of, receiver_in, params_in, target, has_objects, params_of, is_fit}
use Rattle.ang_meaning.specs.Hosts.{Done, Fine, Fails}
use Rattle.ang_meaning.specs.Perform.{perform, operands, change_of}
use Rattle.ang_meaning.specs.Results.{local_at, drop_some, at_zero, on_test, ticked, may_nest}
use Rattle.ang_meaning.proofs.Moving.{room_append, give_all_moves}
use Rattle.ang_meaning.proofs.Causes.{TallyOf, tally_later, tally_further, give_all_notes, TriedTally, hold_tally, DoneTally, ChangesOtherwise, changes_otherwise, perform_tally}
use Rattle.ang_code.specs.declared.instruction.Frame.{Frame}
use Rattle.ang_code.specs.declared.instruction.Instruction.{Instruction}
use Rattle.ang_code.specs.declared.instruction.Instruction.TheVariants.{PushBits, PushNull, Load, Store, Update, Apply, Drop, Leave, JumpIfFalse, Jump, Tick, LoopBack, Enter, Swap, SwapGlobal, SwapField, DropUnder, Return}
use Rattle.ang_code.specs.Machine.{Texts, Config, At, Over, Finished, Faulted, Stuck, fault, roomy, within, enough, on_top, did, changed_into, back, begins, found_enters, act, step, steps, take_some, call_begins, initializer_begins}
use Rattle.ang_code.specs.Told.{ComesFrom}
use Rattle.ang_code.proofs.Telling.{step_from, calls_come_from, initializers_come_from}
use Rattle.ang_code_laws.specs.Causes.{IsAtFullCount, StopsAtFullCount, CallTalliesHaveCause, InitializerTalliesHaveCause}

-- what a callee that is not found comes to
abbrev MissesOtherwise : Found → Type 0
MissesOtherwise (Enters g) = Unit {0}
MissesOtherwise (Misses x) = x ≡ Tally → ⊥

null_otherwise : NullFault ≡ Tally → ⊥
null_otherwise e = let x : ⊥ = cc in x

budget_otherwise : Budget ≡ Tally → ⊥
budget_otherwise e = let x : ⊥ = cc in x

depth_otherwise : Depth ≡ Tally → ⊥
depth_otherwise e = let x : ⊥ = cc in x

memory_otherwise : Memory ≡ Tally → ⊥
memory_otherwise e = let x : ⊥ = cc in x

bound_otherwise : (o : Option Routine) → MissesOtherwise (bound o)
bound_otherwise None = λ e. let x : ⊥ = cc in x
bound_otherwise (Some g) = tt

method_otherwise : (z : Environment) (m s : ℕ) (o : Option ScriptRecord) → MissesOtherwise (method_of z m s o)
method_otherwise z m s None = null_otherwise
method_otherwise z m s (Some o) = bound_otherwise (z.method m o.class s)

virtual_otherwise : (z : Environment) (m s : ℕ) (v : Slot) (w : World) → MissesOtherwise (virtual_of z m s v w)
virtual_otherwise z m s (Bits n) w = null_otherwise
virtual_otherwise z m s (Script None) w = null_otherwise
virtual_otherwise z m s (Script (Some n)) w = method_otherwise z m s (map.get w.objects n)
virtual_otherwise z m s (Host d k) w = null_otherwise

target_otherwise : (z : Environment) (m : ℕ) (c : Callee) (vs : List Slot) (w : World) → MissesOtherwise (target z m c vs w)
unfolding target
target_otherwise z m (Own g) vs w = tt
target_otherwise z m (Import i) vs w = bound_otherwise (z.linked m i)
target_otherwise z m (Virtual s) vs w = virtual_otherwise z m s (receiver_in (params_in (z.slot m s)) vs) w

-- where a run from this world has stopped with `Tally`, it has a cause
abbrev TallyAt : Type 0 → World → Config → Type 0
TallyAt P w (At f pc room s fr t u) = Unit {0}
TallyAt P w (Over (Finished v t u)) = Unit {0}
TallyAt P w (Over (Faulted x u)) = x ≡ Tally → TallyOf P w u
TallyAt P w (Over Stuck) = Unit {0}

module _ (z : Environment) (code : Texts) (P : Type 0) (w : World) where
  if_tally : (b : Bool) (c : Config) → TallyAt P w c → TallyAt P w (cond b c (Over Stuck))
  if_tally true c h = h
  if_tally false c h = tt

  roomy_tally : (room : ℕ) (s : List Slot) (c : Config) → TallyAt P w c → TallyAt P w (roomy room s c)
  roomy_tally room s c h = if_tally (ltb (length s) room) c h

  within_tally : (d : ℕ) (s : List Slot) (c : Config) → TallyAt P w c → TallyAt P w (within d s c)
  within_tally d s c h = if_tally (ltb d (length s)) c h

  enough_tally : (k : ℕ) (s : List Slot) (c : Config) → TallyAt P w c → TallyAt P w (enough k s c)
  enough_tally k s c h = if_tally (leb k (length s)) c h

  top_tally : (s : List Slot) (go : Slot → List Slot → Config) → ((v : Slot) (r : List Slot) → TallyAt P w (go v r)) → TallyAt P w (on_top s go)
  top_tally [] go h = tt
  top_tally (v ∷ r) go h = h v r

  -- a fault gives up the stack
  stop_tally : (x : Fault) (s : List Slot) (u : World) → (x ≡ Tally → TallyOf P w u) → TallyAt P w (fault x s u)
  stop_tally x s u h = λ e. tally_further P w u (give_all s u) (give_all_moves s u) (give_all_notes s u) (h e)

  other_tally : (x : Fault) (s : List Slot) (u : World) → (x ≡ Tally → ⊥) → TallyAt P w (fault x s u)
  other_tally x s u h = λ e. absurd (h e)

  hold_else : (s : List Slot) (o : Tried) (go : World → Config) → TriedTally P w o → ((u : World) → TallyAt P w (go u)) → TallyAt P w (or_else o (λ u. fault Tally s u) go)
  hold_else s (No u) go p h = stop_tally Tally s u (λ e. p)
  hold_else s (Yes u) go p h = h u

  memory_else : (s : List Slot) (o : Tried) (go : World → Config) → ((u : World) → TallyAt P w (go u)) → TallyAt P w (or_else o (λ u. fault Memory s u) go)
  memory_else s (No u) go h = other_tally Memory s u memory_otherwise
  memory_else s (Yes u) go h = h u

  did_tally : (o : Done) (s : List Slot) (go : Slot → World → Config) → DoneTally P w o → ((v : Slot) (u : World) → TallyAt P w (go v u)) → TallyAt P w (did o s go)
  did_tally (Fine v u) s go p h = h v u
  did_tally (Fails x u) s go p h = stop_tally x s u p

  changed_tally : (o : Changed) (s : List Slot) (go : ℕ → ℕ → Config) → ChangesOtherwise o → ((a b : ℕ) → TallyAt P w (go a b)) → TallyAt P w (changed_into o s w go)
  changed_tally (Into a b) s go p h = h a b
  changed_tally (Never x) s go p h = other_tally x s w p

  zero_tally : (n : ℕ) (a b : Config) → TallyAt P w a → TallyAt P w b → TallyAt P w (at_zero n a b)
  zero_tally zero a b ha hb = ha
  zero_tally (suc n) a b ha hb = hb

  test_tally : (v : Slot) (bad off on : Config) → TallyAt P w bad → TallyAt P w off → TallyAt P w on → TallyAt P w (on_test v bad off on)
  test_tally (Bits n) bad off on hb hf ho = zero_tally n off on hf ho
  test_tally (Script k) bad off on hb hf ho = hb
  test_tally (Host d k) bad off on hb hf ho = hb

  tick_tally : (t : ℕ) (s : List Slot) (go : ℕ → Config) → ((t' : ℕ) → TallyAt P w (go t')) → TallyAt P w (ticked t (fault Budget s w) go)
  tick_tally zero s go h = other_tally Budget s w budget_otherwise
  tick_tally (suc t) s go h = h t

  begins_tally : (g : Routine) (s : List Slot) (fr : List Frame) (t : ℕ) → TallyAt P w (begins code g s fr t w)
  begins_tally g s fr t = memory_else s (memory_step w) _ (λ u. tt)

  nests_tally : (g : Routine) (s : List Slot) (fr : List Frame) (here : Frame) (t : ℕ) (objects nest : Bool)
      → TallyAt P w (cond objects (cond nest (ticked t (fault Budget s w) (λ t'. begins code g s (here ∷ fr) t' w)) (fault Depth s w)) (fault NullFault s w))
  nests_tally g s fr here t false nest = other_tally NullFault s w null_otherwise
  nests_tally g s fr here t true false = other_tally Depth s w depth_otherwise
  nests_tally g s fr here t true true = tick_tally t s _ (λ t'. begins_tally g s (here ∷ fr) t')

  found_tally : (o : Found) (s : List Slot) (fr : List Frame) (here : Frame) (t : ℕ) → MissesOtherwise o → TallyAt P w (found_enters z code o s fr here t w)
  found_tally (Misses x) s fr here t h = other_tally x s w h
  found_tally (Enters g) s fr here t h =
      enough_tally (length (params_of z g)) s _ (nests_tally g s fr here t (has_objects (params_of z g) s) (may_nest z (length fr)))

  back_tally : (fr : List Frame) (v : Slot) (outs s : List Slot) (t : ℕ) (u : World) → TallyAt P w (back fr v outs s t u)
  back_tally [] v outs s t u = tt
  back_tally (c ∷ fr) v outs s t u = roomy_tally c.room (outs ++ s) _ tt

  later_tally : (u : World) (S : Type 0) (c : Config) → GoesOn u w → ((v : World) → c ≡ Over (Faulted Tally v) → P → S) → TallyAt P w c → TallyAt S u c
  later_tally u S (At f pc room s fr t x) g h p = tt
  later_tally u S (Over (Finished v t x)) g h p = tt
  later_tally u S (Over (Faulted x v)) g h p = λ e. tally_later P S u w v g (h v (ap (λ y. Over (Faulted y v)) e)) (p e)
  later_tally u S (Over Stuck) g h p = tt

module _ (z : Environment) (code : Texts) (w : World) where
  act_tally : (i : Instruction) (f : Routine) (pc room : ℕ) (s : List Slot) (fr : List Frame) (t : ℕ) → TallyAt (RefusesFullCount w) w (act z code (Some i) f pc room s fr t w)
  act_tally (PushBits n) f pc room s fr t = roomy_tally z code (RefusesFullCount w) w room s _ tt
  act_tally PushNull f pc room s fr t = roomy_tally z code (RefusesFullCount w) w room s _ tt
  act_tally (Load d) f pc room s fr t =
      within_tally z code (RefusesFullCount w) w d s _ (roomy_tally z code (RefusesFullCount w) w room s _
      (hold_else z code (RefusesFullCount w) w s (hold (local_at s d) w) _ (hold_tally (local_at s d) w) (λ u. tt)))
  act_tally (Store d) f pc room s fr t =
      top_tally z code (RefusesFullCount w) w s _ (λ v r. within_tally z code (RefusesFullCount w) w d r _
      (hold_else z code (RefusesFullCount w) w (v ∷ r) (hold v w) _ (hold_tally v w) (λ u. tt)))
  act_tally (Update by d) f pc room s fr t =
      top_tally z code (RefusesFullCount w) w s _ (λ v r. within_tally z code (RefusesFullCount w) w d r _
      (changed_tally z code (RefusesFullCount w) w (change_of by (local_at r d) v) (v ∷ r) _ (changes_otherwise by (local_at r d) v) (λ a b. tt)))
  act_tally (Apply o) f pc room s fr t =
      let vs = take_some (operands z f.home o) s in
      if_tally z code (RefusesFullCount w) w (is_fit z f.home o) _ (enough_tally z code (RefusesFullCount w) w (operands z f.home o) s _
      (roomy_tally z code (RefusesFullCount w) w room (drop_some (operands z f.home o) s) _
      (did_tally z code (RefusesFullCount w) w (perform z f.home o vs w) s _ (perform_tally z f.home o vs w) (λ v u. tt))))
  act_tally Drop f pc room s fr t = top_tally z code (RefusesFullCount w) w s _ (λ v r. tt)
  act_tally (Leave n) f pc room s fr t = enough_tally z code (RefusesFullCount w) w n s _ tt
  act_tally (JumpIfFalse n) f pc room s fr t =
      top_tally z code (RefusesFullCount w) w s _ (λ v r. test_tally z code (RefusesFullCount w) w v _ _ _ (other_tally z code (RefusesFullCount w) w NullFault (v ∷ r) w null_otherwise) tt tt)
  act_tally (Jump n) f pc room s fr t = tt
  act_tally Tick f pc room s fr t = tick_tally z code (RefusesFullCount w) w t s _ (λ t'. tt)
  act_tally (LoopBack n) f pc room s fr t = tick_tally z code (RefusesFullCount w) w t s _ (λ t'. tt)
  act_tally (Enter c) f pc room s fr t = found_tally z code (RefusesFullCount w) w (target z f.home c s w) s fr _ t (target_otherwise z f.home c s w)
  act_tally (Swap to under d) f pc room s fr t = within_tally z code (RefusesFullCount w) w under s _ (within_tally z code (RefusesFullCount w) w d s _ tt)
  act_tally (SwapGlobal to under g) f pc room s fr t = within_tally z code (RefusesFullCount w) w under s _ tt
  act_tally (SwapField to under d i) f pc room s fr t = within_tally z code (RefusesFullCount w) w under s _ (within_tally z code (RefusesFullCount w) w d s _ tt)
  act_tally (DropUnder n) f pc room s fr t = top_tally z code (RefusesFullCount w) w s _ (λ v r. enough_tally z code (RefusesFullCount w) w n r _ tt)
  act_tally (Return n) f pc room s fr t =
      top_tally z code (RefusesFullCount w) w s _ (λ v r. enough_tally z code (RefusesFullCount w) w (n + length (params_of z f)) r _
      (back_tally z code (RefusesFullCount w) w fr v _ _ t _))

  fetched_tally : (o : Option Instruction) (f : Routine) (pc room : ℕ) (s : List Slot) (fr : List Frame) (t : ℕ) → TallyAt (RefusesFullCount w) w (act z code o f pc room s fr t w)
  fetched_tally None f pc room s fr t = tt
  fetched_tally (Some i) f pc room s fr t = act_tally i f pc room s fr t

-- ---- from the first world on

module _ (z : Environment) (code : Texts) (u : World) (S : Type 0) where
  step_tally : (c : Config) → ComesFrom u c → (IsAtFullCount c → (v : World) → step z code c ≡ Over (Faulted Tally v) → S) → TallyAt S u c → TallyAt S u (step z code c)
  step_tally (At f pc room s fr t w) g h p =
      later_tally z code (RefusesFullCount w) w u S (act z code (slice_get (code.text f) pc) f pc room s fr t w) g (λ v e q. h q v e)
      (fetched_tally z code w (slice_get (code.text f) pc) f pc room s fr t)
  step_tally (Over o) g h p = p

  steps_tally : (n : ℕ) (c : Config) → ComesFrom u c → ((k : ℕ) → IsAtFullCount (steps z code k c) → (v : World) → step z code (steps z code k c) ≡ Over (Faulted Tally v) → S) → TallyAt S u c → TallyAt S u (steps z code n c)
  steps_tally zero c g h p = p
  steps_tally (suc n) c g h p = steps_tally n (step z code c) (step_from z code u c g) (λ k. h (suc k)) (step_tally c g (h zero) p)

-- such a place is told a refusal
place_refused : (u : World) (c : Config) → ComesFrom u c → IsAtFullCount c → has_room u.inputs ≡ false
place_refused u (At f pc room s fr t w) g q = ap has_room (g.moves.inputs ∙ ap (λ is. g.used ++ is) q.told) ∙ room_append g.used (Tallied false ∷ q.rest) g.room
place_refused u (Over o) g q = absurd q

-- of the inputs that a run used, none refused or the last one
told_of : (x : Fault) (used : List Input) (w u : World) → Faults x (with_inputs (used ++ []) w) (with_inputs [] u) → (has_room used ≡ true) ⊎ (stopped_by used ≡ Some x)
told_of x used w u f = subst (λ is. (has_room is ≡ true) ⊎ (stopped_by is ≡ Some x)) (sym (append-nil f.used) ∙ sym f.moves.inputs ∙ append-nil used) f.told

last_refused : (used : List Input) → (has_room used ≡ true) ⊎ (stopped_by used ≡ Some Tally) → has_room (used ++ (Tallied true ∷ [])) ≡ false → stopped_by used ≡ Some Tally
last_refused used (inl e) h = absurd (let x : true ≡ false = sym (room_append used (Tallied true ∷ []) e) ∙ h in let y : ⊥ = cc in y)
last_refused used (inr e) h = e

-- a whole run, told that there was room in one tally more
whole_tally : (S : Type 0) (is : List Input) (w u : World) → TallyOf S (with_inputs is w) (with_inputs (Tallied true ∷ []) u) → TallyCause S w u
whole_tally S is w u (inl (inl s)) = inl s
whole_tally S is w u (inl (inr (inl f))) = inr (inl (record { more = f.more; events = f.events; full = f.full }))
whole_tally S is w u (inl (inr (inr p))) = inr (inr p)
whole_tally S is w u (inr n) = absurd (n [] refl)

pub call_tallies : CallTalliesHaveCause
call_tallies z code budget g vs w u run =
    let further : List Input = Tallied true ∷ [] in
    let before = with_inputs (run.told.used ++ further) w in
    let from : List Input → Config = λ is. call_begins z code budget g vs (with_inputs is w) in
    let S : Type 0 = StopsAtFullCount z code from run.told.used in
    let told = told_of Tally run.told.used w u (subst (ComesFrom (with_inputs (run.told.used ++ []) w)) (run.told.tells []) (calls_come_from z code run.count budget g vs (with_inputs (run.told.used ++ []) w))) in
    let all : TallyAt S before (steps z code run.count (from (run.told.used ++ further))) =
    steps_tally z code before S run.count (from (run.told.used ++ further)) (calls_come_from z code 0 budget g vs before)
    (λ k full v e. record {
      told = last_refused run.told.used told (place_refused before (steps z code k (from (run.told.used ++ further))) (calls_come_from z code k budget g vs before) full);
      count = k;
      further = further;
      full = full;
      after = v;
      stops = e;
    })
    (tick_tally z code S before budget vs _ (λ t. begins_tally z code S before g vs [] t)) in
    let end : TallyAt S before (Over (Faulted Tally (with_inputs further u))) = subst (TallyAt S before) (run.told.tells further) all in
    whole_tally S (run.told.used ++ further) w u (end refl)

pub initializer_tallies : InitializerTalliesHaveCause
initializer_tallies z code t g w u run =
    let further : List Input = Tallied true ∷ [] in
    let before = with_inputs (run.told.used ++ further) w in
    let from : List Input → Config = λ is. initializer_begins z code t g (with_inputs is w) in
    let S : Type 0 = StopsAtFullCount z code from run.told.used in
    let told = told_of Tally run.told.used w u (subst (ComesFrom (with_inputs (run.told.used ++ []) w)) (run.told.tells []) (initializers_come_from z code run.count t g (with_inputs (run.told.used ++ []) w))) in
    let all : TallyAt S before (steps z code run.count (from (run.told.used ++ further))) =
    steps_tally z code before S run.count (from (run.told.used ++ further)) (initializers_come_from z code 0 t g before)
    (λ k full v e. record {
      told = last_refused run.told.used told (place_refused before (steps z code k (from (run.told.used ++ further))) (initializers_come_from z code k t g before) full);
      count = k;
      further = further;
      full = full;
      after = v;
      stops = e;
    })
    (begins_tally z code S before g [] [] t) in
    let end : TallyAt S before (Over (Faulted Tally (with_inputs further u))) = subst (TallyAt S before) (run.told.tells further) all in
    whole_tally S (run.told.used ++ further) w u (end refl)

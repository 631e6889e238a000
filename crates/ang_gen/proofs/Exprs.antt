-- The code of an expression does what the expression does.
use Rattle.std.proofs.Common.{◌≡◌, ℕ, zero, suc, ◌+◌, ◌<◌, ◌≤◌, ◌^◌, List, [], ◌∷◌, ◌++◌, length, Some, refl, sym, ap, ◌∙◌, subst, arith, append_assoc, length-append}
use Rattle.std.specs.Prelude.{Bool, true, false, cond, slice_get}
use Rattle.ang_kinds.specs.declared.fault.Fault.TheVariants.{Null as NullFault, Budget, Depth, Memory, Tally}
use Rattle.ang_meaning.specs.declared.slot.Slot.{Slot}
use Rattle.ang_meaning.specs.declared.slot.Slot.TheVariants.{Bits, Script, Host}
use Rattle.ang_meaning.specs.declared.operation.Operation.{Operation}
use Rattle.ang_meaning.specs.declared.operation.Update.{Update as ChangeBy}
use Rattle.ang_meaning.specs.declared.routine.Routine.{Routine}
use Rattle.ang_meaning.specs.declared.routine.Callee.{Callee}
use Rattle.ang_meaning.specs.declared.routine.Passing.{Passing}
use Rattle.ang_meaning.specs.declared.routine.Target.{Target}
use Rattle.ang_meaning.specs.Numbers.{Changed, Into, Never}
use Rattle.ang_meaning.specs.World.{World, Tried, Yes, No, hold, give, give_all, memory_step, or_else}
use Rattle.ang_meaning.specs.Environment.{Environment, Found, Enters, Misses, target, has_objects, params_in, params_of, is_fit}
use Rattle.ang_meaning.specs.Hosts.{Done, Fine, Fails}
use Rattle.ang_meaning.specs.Perform.{perform, operands, change_of}
use Rattle.ang_meaning.specs.Results.{Evaluated, Gave, Failed, Gathered, Ready, Broke, Reply, Yields, Raises, Calls, local_at, local_set, drop_some, at_zero, on_test, ticked, performed, applied, assigned, altered_by, altered, chosen, then_rest, settled, with_outs, replied, called, may_nest, found_entered, enter}
use Rattle.ang_core.specs.declared.tree.CoreExpression.{CoreExpression, Row_of-CoreExpression, end_of-CoreExpression, more_of-CoreExpression}
use Rattle.ang_core.specs.declared.tree.CoreExpression.TheVariants.{Number, Null as Nothing, Local, Assign', Update', Apply', Call', Choose'}
use Rattle.ang_core.specs.Meaning.{eval, eval_args}
use Rattle.ang_core.specs.Sound.{row_count, out_count, Takes, Fits, LinksFit, AreSpots, Sound, SoundArgs}
use Rattle.ang_code.specs.declared.instruction.Frame.{Frame}
use Rattle.ang_code.specs.declared.instruction.Instruction.TheVariants.{PushBits, PushNull, Load, Store, Update, Apply, JumpIfFalse, Jump, Enter}
use Rattle.ang_code.specs.Machine.{Texts, Config, At, Over, Faulted, fault, roomy, did, changed_into, begins, found_enters, take_some}
use Rattle.ang_code.proofs.Steps.{HasAt, has_front, has_back, Comes, here, comes_on, comes_to, one_step, then_step, roomy_on, within_on, enough_on, fitting_on}
use Rattle.ang_gen.specs.Code.{place_above, if_code, outs_code, expr_code, args_code}
use Rattle.ang_gen.specs.Heights.{Below, BelowArgs}
use Rattle.ang_gen.proofs.Stacks.{give_two, take_front, drop_front, local_under, set_under, length_set, objects_front}
use Rattle.ang_gen.proofs.Relate.{Running, at, EvalGoes, ArgsGo, ReplyGoes}
use Rattle.ang_gen.proofs.Counted.{placed, beneath}
use Rattle.ang_gen.proofs.Outs.{outs_go}
use Rattle.ang_gen.proofs.Leads.{target_front, leads}

module _ (z : Environment) (code : Texts) (r : Running) where
  -- the place at the end, under another name
  pub eval_ends : (start : Config) (pc1 pc2 : ℕ) (s : List Slot) (n t : ℕ) (o : Evaluated) → pc1 ≡ pc2 → EvalGoes z code r start pc1 s n t o → EvalGoes z code r start pc2 s n t o
  eval_ends start pc1 pc2 s n t o e p = subst (λ j. EvalGoes z code r start j s n t o) e p

  -- what follows a stretch of code
  pub after_eval : (start mid : Config) (pc : ℕ) (s : List Slot) (n n1 t t1 : ℕ) (o : Evaluated) → Comes z code start mid → n1 ≡ n → t1 ≤ t → EvalGoes z code r mid pc s n1 t1 o → EvalGoes z code r start pc s n t o
  after_eval start mid pc s n n1 t t1 (Gave v ls t' w) p e h q = (comes_on z code start mid _ p q.0, q.1 ∙ e, omega (arith, q.2))
  after_eval start mid pc s n n1 t t1 (Failed x ls w) p e h q = comes_on z code start mid _ p q

  after_args : (start mid : Config) (pc : ℕ) (s : List Slot) (n n1 m t t1 : ℕ) (o : Gathered) → Comes z code start mid → n1 ≡ n → t1 ≤ t → ArgsGo z code r mid pc s n1 m t1 o → ArgsGo z code r start pc s n m t o
  after_args start mid pc s n n1 m t t1 (Ready vs ls t' w) p e h q = (comes_on z code start mid _ p q.0, q.1 ∙ e, q.2, omega (arith, q.3))
  after_args start mid pc s n n1 m t t1 (Broke x ls w) p e h q = comes_on z code start mid _ p q

  load_goes : (start : Config) (pc : ℕ) (s ls : List Slot) (t : ℕ) (v : Slot) (o : Tried) → Comes z code start (or_else o (λ w'. fault Tally (s ++ (ls ++ r.below)) w') (λ w'. at r (pc + 1) (v ∷ (s ++ (ls ++ r.below))) t w')) → EvalGoes z code r start (pc + 1) s (length ls) t (or_else o (λ w'. Failed Tally ls w') (λ w'. Gave v ls t w'))
  load_goes start pc s ls t v (No w') p = p
  load_goes start pc s ls t v (Yes w') p = (p, refl, omega arith)

  store_goes : (start : Config) (pc i d : ℕ) (s ls : List Slot) (t : ℕ) (v : Slot) (o : Tried) → i < length ls → d ≡ length s + i → Comes z code start (or_else o (λ w'. fault Tally (v ∷ (s ++ (ls ++ r.below))) w') (λ w'. at r (pc + 1) (v ∷ local_set (s ++ (ls ++ r.below)) d v) t (give (local_at (s ++ (ls ++ r.below)) d) w'))) → EvalGoes z code r start (pc + 1) s (length ls) t (or_else o (λ w'. Failed Tally ls (give v w')) (λ w'. Gave v (local_set ls i v) t (give (local_at ls i) w')))
  store_goes start pc i d s ls t v (No w') h e p = p
  store_goes start pc i d s ls t v (Yes w') h e p = (
    comes_to z code start _ _ p
        (ap (λ l. at r (pc + 1) (v ∷ l) t (give (local_at (s ++ (ls ++ r.below)) d) w')) (set_under s ls r.below i d v h e)
        ∙ ap (λ x. at r (pc + 1) (v ∷ (s ++ (local_set ls i v ++ r.below))) t (give x w')) (local_under s ls r.below i d h e)),
    length_set ls i v,
    omega arith,
  )

  change_goes : (start : Config) (pc i d : ℕ) (s ls : List Slot) (t : ℕ) (w : World) (v : Slot) (o : Changed) → i < length ls → d ≡ length s + i → Comes z code start (changed_into o (v ∷ (s ++ (ls ++ r.below))) w (λ stored given. at r (pc + 1) (Bits given ∷ local_set (s ++ (ls ++ r.below)) d (Bits stored)) t w)) → EvalGoes z code r start (pc + 1) s (length ls) t (altered_by i o v ls t w)
  change_goes start pc i d s ls t w v (Never x) h e p = p
  change_goes start pc i d s ls t w v (Into stored given) h e p =
      (comes_to z code start _ _ p (ap (λ l. at r (pc + 1) (Bits given ∷ l) t w) (set_under s ls r.below i d (Bits stored) h e)), length_set ls i (Bits stored), omega arith)

  -- a local's place is on the stack
  local_there : (i d : ℕ) (s ls : List Slot) → i < length ls → d ≡ length s + i → d < length (s ++ (ls ++ r.below))
  local_there i d s ls h e = omega (arith, length-append s (ls ++ r.below), length-append ls r.below)

  assign_goes : (start : Config) (pc i d : ℕ) (s : List Slot) (n t : ℕ) (o : Evaluated) → slice_get (code.text r.of) pc ≡ Some (Store d) → i < n → d ≡ length s + i → EvalGoes z code r start pc s n t o → EvalGoes z code r start (pc + 1) s n t (assigned i o)
  assign_goes start pc i d s n t (Failed x ls w) has h e q = q
  assign_goes start pc i d s n t (Gave v ls t' w) has h e q =
      let stack = s ++ (ls ++ r.below) in
      let inside : i < length ls = omega (arith, q.1) in
      let p = comes_to z code start _ _ (then_step z code start r.of pc r.room (v ∷ stack) r.callers t' w (Store d) has q.0) (within_on d stack _ (local_there i d s ls inside e)) in
      after_eval start start (pc + 1) s n (length ls) t t' _ (here z code start) q.1 q.2 (store_goes start pc i d s ls t' v (hold v w) inside e p)

  alter_goes : (start : Config) (pc i d : ℕ) (by : ChangeBy) (s : List Slot) (n t : ℕ) (o : Evaluated) → slice_get (code.text r.of) pc ≡ Some (Update by d) → i < n → d ≡ length s + i → EvalGoes z code r start pc s n t o → EvalGoes z code r start (pc + 1) s n t (altered i by o)
  alter_goes start pc i d by s n t (Failed x ls w) has h e q = q
  alter_goes start pc i d by s n t (Gave v ls t' w) has h e q =
      let stack = s ++ (ls ++ r.below) in
      let inside : i < length ls = omega (arith, q.1) in
      let p = comes_to z code start _ _ (then_step z code start r.of pc r.room (v ∷ stack) r.callers t' w (Update by d) has q.0) (within_on d stack _ (local_there i d s ls inside e)) in
      let p' = comes_to z code start _ _ p (ap (λ x. changed_into (change_of by x v) (v ∷ stack) w (λ stored given. at r (pc + 1) (Bits given ∷ local_set stack d (Bits stored)) t' w)) (local_under s ls r.below i d inside e)) in
      after_eval start start (pc + 1) s n (length ls) t t' _ (here z code start) q.1 q.2 (change_goes start pc i d s ls t' w v (change_of by (local_at ls i) v) inside e p')

  did_goes : (start : Config) (pc : ℕ) (vs s ls : List Slot) (t : ℕ) (o : Done) → Comes z code start (did o ((vs ++ s) ++ (ls ++ r.below)) (λ v w'. at r (pc + 1) (v ∷ (s ++ (ls ++ r.below))) t w')) → EvalGoes z code r start (pc + 1) s (length ls) t (performed o vs ls t)
  did_goes start pc vs s ls t (Fine v w) p = (p, refl, omega arith)
  did_goes start pc vs s ls t (Fails x w) p = comes_to z code start _ _ p (ap (λ y. Over (Faulted x y)) (give_two vs s (ls ++ r.below) w))

  jump_goes : (start : Config) (pc k : ℕ) (s : List Slot) (n t : ℕ) (o : Evaluated) → slice_get (code.text r.of) pc ≡ Some (Jump k) → EvalGoes z code r start pc s n t o → EvalGoes z code r start (pc + 1 + k) s n t o
  jump_goes start pc k s n t (Failed x ls w) has q = q
  jump_goes start pc k s n t (Gave v ls t' w) has q = (then_step z code start r.of pc r.room (v ∷ (s ++ (ls ++ r.below))) r.callers t' w (Jump k) has q.0, q.1, q.2)

  zero_goes : (start : Config) (pc' n t x : ℕ) (s : List Slot) (off_at on_at : Config) (off on : Evaluated) → Comes z code start (at_zero x off_at on_at) → EvalGoes z code r off_at pc' s n t off → EvalGoes z code r on_at pc' s n t on → EvalGoes z code r start pc' s n t (at_zero x off on)
  zero_goes start pc' n t zero s off_at on_at off on p q1 q2 = after_eval start off_at pc' s n n t t off p refl (omega arith) q1
  zero_goes start pc' n t (suc x) s off_at on_at off on p q1 q2 = after_eval start on_at pc' s n n t t on p refl (omega arith) q2

  branch_goes : (start : Config) (pc' n t : ℕ) (s ls : List Slot) (w : World) (v : Slot) (off_at on_at : Config) (off on : Evaluated) → Comes z code start (on_test v (fault NullFault (v ∷ (s ++ (ls ++ r.below))) w) off_at on_at) → EvalGoes z code r off_at pc' s n t off → EvalGoes z code r on_at pc' s n t on → EvalGoes z code r start pc' s n t (on_test v (Failed NullFault ls (give v w)) off on)
  branch_goes start pc' n t s ls w (Bits x) off_at on_at off on p q1 q2 = zero_goes start pc' n t x s off_at on_at off on p q1 q2
  branch_goes start pc' n t s ls w (Script k) off_at on_at off on p q1 q2 = p
  branch_goes start pc' n t s ls w (Host d k) off_at on_at off on p q1 q2 = p

  choose_goes : (start : Config) (pc pc' k : ℕ) (s : List Slot) (n t : ℕ) (o : Evaluated) (one two : List Slot → ℕ → World → Evaluated) → slice_get (code.text r.of) pc ≡ Some (JumpIfFalse k) → EvalGoes z code r start pc s n t o → ((ls : List Slot) (t' : ℕ) (w : World) → length ls ≡ n → t' ≤ t → EvalGoes z code r (at r (pc + 1) (s ++ (ls ++ r.below)) t' w) pc' s (length ls) t' (one ls t' w)) → ((ls : List Slot) (t' : ℕ) (w : World) → length ls ≡ n → t' ≤ t → EvalGoes z code r (at r (pc + 1 + k) (s ++ (ls ++ r.below)) t' w) pc' s (length ls) t' (two ls t' w)) → EvalGoes z code r start pc' s n t (chosen o one two)
  choose_goes start pc pc' k s n t (Failed x ls w) one two has q on off = q
  choose_goes start pc pc' k s n t (Gave v ls t' w) one two has q on off =
      after_eval start start pc' s n (length ls) t t' _ (here z code start) q.1 q.2
      (branch_goes start pc' (length ls) t' s ls w v _ _ (two ls t' w) (one ls t' w)
      (then_step z code start r.of pc r.room (v ∷ (s ++ (ls ++ r.below))) r.callers t' w (JumpIfFalse k) has q.0) (off ls t' w q.1 q.2) (on ls t' w q.1 q.2))

  then_args : (start : Config) (pc pc' : ℕ) (vs s : List Slot) (n m t : ℕ) (o : Evaluated) (go : Slot → List Slot → ℕ → World → Gathered) → EvalGoes z code r start pc (vs ++ s) n t o → ((v : Slot) (ls : List Slot) (t' : ℕ) (w : World) → length ls ≡ n → t' ≤ t → ArgsGo z code r (at r pc (v ∷ ((vs ++ s) ++ (ls ++ r.below))) t' w) pc' s (length ls) m t' (go v ls t' w)) → ArgsGo z code r start pc' s n m t (then_rest vs o go)
  then_args start pc pc' vs s n m t (Failed x ls w) go q k = comes_to z code start _ _ q (ap (λ y. Over (Faulted x y)) (give_two vs s (ls ++ r.below) w))
  then_args start pc pc' vs s n m t (Gave v ls t' w) go q k = after_args start _ pc' s n (length ls) m t t' (go v ls t' w) q.0 q.1 q.2 (k v ls t' w q.1 q.2)

  module _ (h : ℕ) (room_is : r.room ≡ length r.below + h) (counted : h < 2 ^ 64) where
    -- one more value fits
    fits : (s ls : List Slot) → length s + length ls < h → length (s ++ (ls ++ r.below)) < r.room
    fits s ls lt = omega (arith, room_is, length-append s (ls ++ r.below), length-append ls r.below)

    apply_goes : (start : Config) (pc : ℕ) (o : Operation) (s : List Slot) (n m t : ℕ) (a : Gathered) → slice_get (code.text r.of) pc ≡ Some (Apply o) → m ≡ operands z r.of.home o → is_fit z r.of.home o ≡ true → length s + n < h → ArgsGo z code r start pc s n m t a → EvalGoes z code r start (pc + 1) s n t (applied (perform z r.of.home o) a)
    apply_goes start pc o s n m t (Broke x ls w) has e fit lt q = q
    apply_goes start pc o s n m t (Ready vs ls t' w) has e fit lt q =
        let k = operands z r.of.home o in
        let rest = s ++ (ls ++ r.below) in
        let top = (vs ++ s) ++ (ls ++ r.below) in
        let flat : top ≡ vs ++ rest = append_assoc vs s (ls ++ r.below) in
        let k_is : k ≡ length vs = omega (arith, q.2, e) in
        let taken : take_some k top ≡ vs = ap (λ j. take_some j top) k_is ∙ ap (λ l. take_some (length vs) l) flat ∙ take_front vs rest in
        let dropped : drop_some k top ≡ rest = ap (λ j. drop_some j top) k_is ∙ ap (λ l. drop_some (length vs) l) flat ∙ drop_front vs rest in
        let there : k ≤ length top = omega (arith, ap length flat, length-append vs rest) in
        let roomy_here : length rest < r.room = fits s ls (omega (arith, q.1)) in
        let roomy_dropped : length (drop_some k top) < r.room = omega (arith, ap length dropped) in
        let p = then_step z code start r.of pc r.room top r.callers t' w (Apply o) has q.0 in
        let p' = comes_to z code start _ (did (perform z r.of.home o vs w) top (λ v w'. at r (pc + 1) (v ∷ rest) t' w')) p
        (fitting_on z r.of.home o _ fit
        ∙ enough_on k top _ there ∙ roomy_on r.room (drop_some k top) _ roomy_dropped
        ∙ ap (λ l. did (perform z r.of.home o l w) top (λ v w'. at r (pc + 1) (v ∷ drop_some k top) t' w')) taken
        ∙ ap (λ l. did (perform z r.of.home o vs w) top (λ v w'. at r (pc + 1) (v ∷ l) t' w')) dropped) in
        after_eval start start (pc + 1) s n (length ls) t t' _ (here z code start) q.1 q.3 (did_goes start pc vs s ls t' (perform z r.of.home o vs w) p')

    -- the values that a body gives go on the stack, and its `&out` values into their targets
    reply_goes : (start : Config) (pc : ℕ) (xs : List Target) (s ls : List Slot) (t k : ℕ) (o : Reply) → HasAt (code.text r.of) pc (outs_code (length s) xs) → AreSpots (length ls) xs → k ≡ length xs → length xs + (length s + length ls) < h → ReplyGoes z code start (record { of = r.of; at = pc; room = r.room } ∷ r.callers) (s ++ (ls ++ r.below)) k t o → EvalGoes z code r start (pc + length (outs_code (length s) xs)) s (length ls) t (replied r.of.home xs o ls)
    reply_goes start pc xs s ls t k (Yields v outs t' w) has ok e lt q =
        let rest = s ++ (ls ++ r.below) in
        let same : length outs ≡ length xs = q.2 ∙ e in
        let holds_all : length (outs ++ rest) < r.room = omega (arith, room_is, same, length-append outs rest, length-append s (ls ++ r.below), length-append ls r.below) in
        let p = comes_to z code start _ (at r pc (v ∷ (outs ++ rest)) t' w) q.0 (roomy_on r.room (outs ++ rest) _ holds_all) in
        after_eval start start (pc + length (outs_code (length s) xs)) s (length ls) (length ls) t t' (with_outs v (settled r.of.home xs outs ls w) t') (here z code start) refl q.1 (outs_go z code r xs start pc t' v outs s ls w has ok (omega (arith, lt, counted)) same p)
    reply_goes start pc xs s ls t k (Raises x w) has ok e lt q = q

    module _ (links : LinksFit z) (body : Calls) (fuel : ℕ)
        (bodies_go : (g : Routine) (ps : List Passing) (vs s : List Slot) (fr2 : List Frame) (t : ℕ) (w : World) → length fr2 ≡ suc (length r.callers) → z.params g ≡ Some ps → length ps ≡ length vs → t < fuel → ReplyGoes z code (At g 0 (length (vs ++ s) + code.height g) (vs ++ s) fr2 t w) fr2 s (out_count ps) t (body g vs t w)) where
      module _ (pc : ℕ) (xs : List Target) (s ls : List Slot) (has : HasAt (code.text r.of) pc (outs_code (length s) xs)) (ok : AreSpots (length ls) xs) (lt : length xs + (length s + length ls) < h) where
        begin_goes : (start : Config) (g : Routine) (ps : List Passing) (vs : List Slot) (t : ℕ) (o : Tried) → z.params g ≡ Some ps → length ps ≡ length vs → out_count ps ≡ length xs → t < fuel → Comes z code start (or_else o (λ w'. fault Memory ((vs ++ s) ++ (ls ++ r.below)) w') (λ w'. At g 0 (length ((vs ++ s) ++ (ls ++ r.below)) + code.height g) ((vs ++ s) ++ (ls ++ r.below)) (record { of = r.of; at = pc; room = r.room } ∷ r.callers) t w')) → EvalGoes z code r start (pc + length (outs_code (length s) xs)) s (length ls) t (replied r.of.home xs (or_else o (λ w'. Raises Memory (give_all vs w')) (λ w'. body g vs t w')) ls)
        begin_goes start g ps vs t (No w') known count outs le p = comes_to z code start _ _ p (ap (λ y. Over (Faulted Memory y)) (give_two vs s (ls ++ r.below) w'))
        begin_goes start g ps vs t (Yes w') known count outs le p =
            let fr2 = record { of = r.of; at = pc; room = r.room } ∷ r.callers in
            let p' = comes_to z code start _ _ p (ap (λ l. At g 0 (length l + code.height g) l fr2 t w') (append_assoc vs s (ls ++ r.below))) in
            let body_at = At g 0 (length (vs ++ (s ++ (ls ++ r.below))) + code.height g) (vs ++ (s ++ (ls ++ r.below))) fr2 t w' in
            after_eval start body_at (pc + length (outs_code (length s) xs)) s (length ls) (length ls) t t (replied r.of.home xs (body g vs t w') ls) p' refl (omega arith)
            (reply_goes body_at pc xs s ls t (out_count ps) (body g vs t w') has ok outs lt (bodies_go g ps vs (s ++ (ls ++ r.below)) fr2 t w' refl known count le))

        tick_goes : (start : Config) (g : Routine) (ps : List Passing) (vs : List Slot) (t : ℕ) (w : World) (objects nest : Bool) → z.params g ≡ Some ps → length ps ≡ length vs → out_count ps ≡ length xs → t ≤ fuel → Comes z code start (cond objects (cond nest (ticked t (fault Budget ((vs ++ s) ++ (ls ++ r.below)) w) (λ t'. begins code g ((vs ++ s) ++ (ls ++ r.below)) (record { of = r.of; at = pc; room = r.room } ∷ r.callers) t' w)) (fault Depth ((vs ++ s) ++ (ls ++ r.below)) w)) (fault NullFault ((vs ++ s) ++ (ls ++ r.below)) w)) → EvalGoes z code r start (pc + length (outs_code (length s) xs)) s (length ls) t (replied r.of.home xs (cond objects (cond nest (ticked t (Raises Budget (give_all vs w)) (λ t'. or_else (memory_step w) (λ w'. Raises Memory (give_all vs w')) (λ w'. body g vs t' w'))) (Raises Depth (give_all vs w))) (Raises NullFault (give_all vs w))) ls)
        tick_goes start g ps vs t w false nest known count outs le p = comes_to z code start _ _ p (ap (λ y. Over (Faulted NullFault y)) (give_two vs s (ls ++ r.below) w))
        tick_goes start g ps vs t w true false known count outs le p = comes_to z code start _ _ p (ap (λ y. Over (Faulted Depth y)) (give_two vs s (ls ++ r.below) w))
        tick_goes start g ps vs zero w true true known count outs le p = comes_to z code start _ _ p (ap (λ y. Over (Faulted Budget y)) (give_two vs s (ls ++ r.below) w))
        tick_goes start g ps vs (suc t) w true true known count outs le p =
            after_eval start start (pc + length (outs_code (length s) xs)) s (length ls) (length ls) (suc t) t (replied r.of.home xs (or_else (memory_step w) (λ w'. Raises Memory (give_all vs w')) (λ w'. body g vs t w')) ls) (here z code start) refl (omega arith) (begin_goes start g ps vs t (memory_step w) known count outs (omega arith) p)

        found_goes : (start : Config) (vs : List Slot) (m t : ℕ) (w : World) (o : Found) → ((g : Routine) → o ≡ Enters g → Takes z g m (length xs)) → length vs ≡ m → t ≤ fuel → Comes z code start (found_enters z code o ((vs ++ s) ++ (ls ++ r.below)) r.callers (record { of = r.of; at = pc; room = r.room }) t w) → EvalGoes z code r start (pc + length (outs_code (length s) xs)) s (length ls) t (replied r.of.home xs (found_entered z body (length r.callers) o vs t w) ls)
        found_goes start vs m t w (Misses x) fit e le p = comes_to z code start _ _ p (ap (λ y. Over (Faulted x y)) (give_two vs s (ls ++ r.below) w))
        found_goes start vs m t w (Enters g) fit e le p =
            let takes = fit g refl in
            let ps = takes.params in
            let params_is : params_of z g ≡ ps = ap params_in takes.known in
            let count : length ps ≡ length vs = takes.count ∙ sym e in
            let rest = s ++ (ls ++ r.below) in
            let top = (vs ++ s) ++ (ls ++ r.below) in
            let flat : top ≡ vs ++ rest = append_assoc vs s (ls ++ r.below) in
            let there : length (params_of z g) ≤ length top = omega (arith, ap length params_is, ap length flat, length-append vs rest) in
            let same_count : length (params_of z g) ≡ length vs = ap length params_is ∙ count in
            let objects : has_objects (params_of z g) top ≡ has_objects (params_of z g) vs = ap (λ l. has_objects (params_of z g) l) flat ∙ objects_front (params_of z g) vs rest same_count in
            let go = λ (b : Bool). cond b (cond (may_nest z (length r.callers)) (ticked t (fault Budget top w) (λ t'. begins code g top (record { of = r.of; at = pc; room = r.room } ∷ r.callers) t' w)) (fault Depth top w)) (fault NullFault top w) in
            let p' = comes_to z code start _ _ p (enough_on (length (params_of z g)) top (go (has_objects (params_of z g) top)) there ∙ ap go objects) in
            tick_goes start g ps vs t w (has_objects (params_of z g) vs) (may_nest z (length r.callers)) takes.known count takes.given le p'

      call_goes : (start : Config) (pc : ℕ) (f : Callee) (xs : List Target) (s : List Slot) (n m t : ℕ) (a : Gathered) → HasAt (code.text r.of) pc (Enter f ∷ outs_code (length s) xs) → Fits z r.of.home f m (length xs) → AreSpots n xs → length xs + (length s + n) < h → t ≤ fuel → ArgsGo z code r start pc s n m t a → EvalGoes z code r start (pc + 1 + length (outs_code (length s) xs)) s n t (called r.of.home (enter z body (length r.callers) r.of.home f) xs a)
      call_goes start pc f xs s n m t (Broke x ls w) has fit ok lt le q = q
      call_goes start pc f xs s n m t (Ready vs ls t' w) has fit ok lt le q =
          let top = (vs ++ s) ++ (ls ++ r.below) in
          let frame : Frame = record { of = r.of; at = pc + 1; room = r.room } in
          let to_here : target z r.of.home f top w ≡ target z r.of.home f vs w =
          ap (λ l. target z r.of.home f l w) (append_assoc vs s (ls ++ r.below)) ∙ target_front z r.of.home f (length xs) vs (s ++ (ls ++ r.below)) w (subst (λ j. Fits z r.of.home f j (length xs)) (sym q.2) fit) in
          let p = comes_to z code start _ (found_enters z code (target z r.of.home f vs w) top r.callers frame t' w)
          (then_step z code start r.of pc r.room top r.callers t' w (Enter f) has.0 q.0) (ap (λ o. found_enters z code o top r.callers frame t' w) to_here) in
          after_eval start start (pc + 1 + length (outs_code (length s) xs)) s n (length ls) t t' (replied r.of.home xs (found_entered z body (length r.callers) (target z r.of.home f vs w) vs t' w) ls) (here z code start) q.1 q.3
          (found_goes (pc + 1) xs s ls has.1 (subst (λ j. AreSpots j xs) (sym q.1) ok) (omega (arith, q.1)) start vs m t' w (target z r.of.home f vs w) (λ g e. leads z r.of.home f m (length xs) links fit g vs w e) q.2 (omega (arith, q.3)) p)

      abbrev calls : Callee → List Slot → ℕ → World → Reply
      calls = enter z body (length r.callers) r.of.home

      mutual
        pub eval_runs : (e : CoreExpression) (pc : ℕ) (s ls : List Slot) (t : ℕ) (w : World) → HasAt (code.text r.of) pc (expr_code (length s) e) → Sound z r.of.home (length ls) e → Below h (length s + length ls) e → t ≤ fuel → EvalGoes z code r (at r pc (s ++ (ls ++ r.below)) t w) (pc + length (expr_code (length s) e)) s (length ls) t (eval z r.of.home (enter z body (length r.callers) r.of.home) e ls t w)
        eval_runs (Number n) pc s ls t w has ok low le = (comes_to z code _ _ _ (one_step z code r.of pc r.room (s ++ (ls ++ r.below)) r.callers t w (PushBits n) has.0) (roomy_on r.room (s ++ (ls ++ r.below)) _ (fits s ls low)), refl, omega arith)
        eval_runs Nothing pc s ls t w has ok low le = (comes_to z code _ _ _ (one_step z code r.of pc r.room (s ++ (ls ++ r.below)) r.callers t w PushNull has.0) (roomy_on r.room (s ++ (ls ++ r.below)) _ (fits s ls low)), refl, omega arith)
        eval_runs (Local i) pc s ls t w has ok low le =
            let stack = s ++ (ls ++ r.below) in
            let d = place_above (length s) i in
            let d_is : d ≡ length s + i = placed (length s) i (omega (arith, ok, low, counted)) in
            let go = λ (v : Slot). or_else (hold v w) (λ w'. fault Tally stack w') (λ w'. at r (pc + 1) (v ∷ stack) t w') in
            let p = one_step z code r.of pc r.room stack r.callers t w (Load d) has.0 in
            let p' = comes_to z code _ _ _ p (within_on d stack (roomy r.room stack (go (local_at stack d))) (local_there i d s ls ok d_is) ∙ roomy_on r.room stack (go (local_at stack d)) (fits s ls low) ∙ ap go (local_under s ls r.below i d ok d_is)) in
            load_goes _ pc s ls t (local_at ls i) (hold (local_at ls i) w) p'
        eval_runs (Assign' i p e) pc s ls t w has ok low le =
            let ce = expr_code (length s) e in
            let d = place_above (length s) i in
            let d_is : d ≡ length s + i = placed (length s) i (omega (arith, ok.0, beneath h (length s + length ls) e low, counted)) in
            let i' = Store d in
            let len : pc + length ce + 1 ≡ pc + length (ce ++ i' ∷ []) = omega (arith, length-append ce (i' ∷ [])) in
            eval_ends _ _ _ s (length ls) t _ len
            (assign_goes _ (pc + length ce) i d s (length ls) t (eval z r.of.home calls e ls t w) (has_back (code.text r.of) pc ce _ has).0 ok.0 d_is
            (eval_runs e pc s ls t w (has_front (code.text r.of) pc ce _ has) ok.1 low le))
        eval_runs (Update' i by p e) pc s ls t w has ok low le =
            let ce = expr_code (length s) e in
            let d = place_above (length s) i in
            let d_is : d ≡ length s + i = placed (length s) i (omega (arith, ok.0, beneath h (length s + length ls) e low, counted)) in
            let i' = Update by d in
            let len : pc + length ce + 1 ≡ pc + length (ce ++ i' ∷ []) = omega (arith, length-append ce (i' ∷ [])) in
            eval_ends _ _ _ s (length ls) t _ len
            (alter_goes _ (pc + length ce) i d by s (length ls) t (eval z r.of.home calls e ls t w) (has_back (code.text r.of) pc ce _ has).0 ok.0 d_is
            (eval_runs e pc s ls t w (has_front (code.text r.of) pc ce _ has) ok.1 low le))
        eval_runs (Apply' o shape args) pc s ls t w has ok low le =
            let ca = args_code (length s) args in
            let i = Apply o in
            let len : pc + length ca + 1 ≡ pc + length (ca ++ i ∷ []) = omega (arith, length-append ca (i ∷ [])) in
            eval_ends _ _ _ s (length ls) t _ len
            (apply_goes _ (pc + length ca) o s (length ls) (row_count args + 0) t (eval_args z r.of.home calls args [] ls t w) (has_back (code.text r.of) pc ca _ has).0 (omega (arith, ok.0)) ok.1 low.0
            (args_runs args pc [] s ls t w (has_front (code.text r.of) pc ca _ has) ok.2 low.1 le))
        eval_runs (Call' f shape args outs) pc s ls t w has ok low le =
            let ca = args_code (length s) args in
            let co = outs_code (length s) outs.value.items in
            let len : pc + length ca + 1 + length co ≡ pc + length (ca ++ Enter f ∷ co) = omega (arith, length-append ca (Enter f ∷ co)) in
            let same : row_count args ≡ row_count args + 0 = omega arith in
            eval_ends _ _ _ s (length ls) t _ len
            (call_goes _ (pc + length ca) f outs.value.items s (length ls) (row_count args + 0) t (eval_args z r.of.home calls args [] ls t w) (has_back (code.text r.of) pc ca _ has) (subst (λ j. Fits z r.of.home f j (length outs.value.items)) same ok.0) ok.1 low.0 le
            (args_runs args pc [] s ls t w (has_front (code.text r.of) pc ca _ has) ok.2 low.1 le))
        eval_runs (Choose' p1 a p2 c p3 d) pc s ls t w has ok low le =
            let ca = expr_code (length s) a in let cc = expr_code (length s) c in let cd = expr_code (length s) d in
            let h1 = has_back (code.text r.of) pc ca _ has in
            let h2 = has_back (code.text r.of) (pc + length ca + 1) cc _ h1.1 in
            let len : pc + length ca + 1 + length cc + 1 + length cd ≡ pc + length (if_code ca cc cd) = omega (arith, length-append ca (JumpIfFalse (length cc + 1) ∷ (cc ++ Jump (length cd) ∷ cd)), length-append cc (Jump (length cd) ∷ cd)) in
            let e : pc + length ca + 1 + length cc + 1 ≡ pc + length ca + 1 + (length cc + 1) = omega arith in
            choose_goes _ (pc + length ca) _ (length cc + 1) s (length ls) t (eval z r.of.home calls a ls t w) (eval z r.of.home calls c) (eval z r.of.home calls d) h1.0
            (eval_runs a pc s ls t w (has_front (code.text r.of) pc ca _ has) ok.0 low.0 le)
            (λ ls' t' w' n_is lt. eval_ends _ _ _ s (length ls') t' _ len
            (jump_goes _ (pc + length ca + 1 + length cc) (length cd) s (length ls') t' (eval z r.of.home calls c ls' t' w') h2.0
            (eval_runs c (pc + length ca + 1) s ls' t' w' (has_front (code.text r.of) _ cc _ h1.1) (subst (λ n. Sound z r.of.home n c) (sym n_is) ok.1) (subst (λ n. Below h (length s + n) c) (sym n_is) low.1) (omega arith))))
            (λ ls' t' w' n_is lt. eval_ends _ _ _ s (length ls') t' _ len
            (subst (λ q. EvalGoes z code r (at r q (s ++ (ls' ++ r.below)) t' w') (pc + length ca + 1 + length cc + 1 + length cd) s (length ls') t' (eval z r.of.home calls d ls' t' w')) e
            (eval_runs d (pc + length ca + 1 + length cc + 1) s ls' t' w' h2.1 (subst (λ n. Sound z r.of.home n d) (sym n_is) ok.2) (subst (λ n. Below h (length s + n) d) (sym n_is) low.2) (omega arith))))

        pub args_runs : {k : _} → (args : Row_of-CoreExpression k) (pc : ℕ) (vs s ls : List Slot) (t : ℕ) (w : World) → HasAt (code.text r.of) pc (args_code (length (vs ++ s)) args) → SoundArgs z r.of.home (length ls) args → BelowArgs h (length (vs ++ s) + length ls) args → t ≤ fuel → ArgsGo z code r (at r pc ((vs ++ s) ++ (ls ++ r.below)) t w) (pc + length (args_code (length (vs ++ s)) args)) s (length ls) (row_count args + length vs) t (eval_args z r.of.home (enter z body (length r.callers) r.of.home) args vs ls t w)
        args_runs end_of-CoreExpression pc vs s ls t w has ok low le =
            (record { count = 0; leads = let e : pc ≡ pc + 0 = omega arith in ap (λ p. at r p ((vs ++ s) ++ (ls ++ r.below)) t w) e }, refl, omega arith, omega arith)
        args_runs (more_of-CoreExpression e rest) pc vs s ls t w has ok low le =
            let ce = expr_code (length (vs ++ s)) e in
            let cr = args_code (suc (length (vs ++ s))) rest in
            let len : pc + length ce + length cr ≡ pc + length (ce ++ cr) = omega (arith, length-append ce cr) in
            let m_is : row_count rest + suc (length vs) ≡ suc (row_count rest) + length vs = omega arith in
            then_args _ (pc + length ce) _ vs s (length ls) _ t (eval z r.of.home calls e ls t w) (λ v ls' t' w'. eval_args z r.of.home calls rest (v ∷ vs) ls' t' w')
            (eval_runs e pc (vs ++ s) ls t w (has_front (code.text r.of) pc ce cr has) ok.0 low.0 le)
            (λ v ls' t' w' n_is lt.
            let deeper : suc (length (vs ++ s) + length ls) ≡ suc (length (vs ++ s)) + length ls' = omega (arith, n_is) in
            subst (λ p. ArgsGo z code r (at r (pc + length ce) (v ∷ ((vs ++ s) ++ (ls' ++ r.below))) t' w') p s (length ls') (suc (row_count rest) + length vs) t' (eval_args z r.of.home calls rest (v ∷ vs) ls' t' w')) len
            (subst (λ m. ArgsGo z code r (at r (pc + length ce) (v ∷ ((vs ++ s) ++ (ls' ++ r.below))) t' w') (pc + length ce + length cr) s (length ls') m t' (eval_args z r.of.home calls rest (v ∷ vs) ls' t' w')) m_is
            (args_runs rest (pc + length ce) (v ∷ vs) s ls' t' w' (has_back (code.text r.of) pc ce cr has) (subst (λ n. SoundArgs z r.of.home n rest) (sym n_is) ok.1) (subst (λ d. BelowArgs h d rest) deeper low.1) (omega arith))))

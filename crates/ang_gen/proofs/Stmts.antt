-- The code of a statement does what the statement does.
use Rattle.std.proofs.Common.{◌≡◌, ℕ, zero, suc, ◌+◌, ◌-◌, ◌≤◌, List, [], ◌∷◌, ◌++◌, length, Some, refl, sym, ap, ◌∙◌, subst, arith, length-append}
use Rattle.std.specs.Prelude.{slice_get, Bool, true, false, IsTrue}
use Rattle.ang_kinds.specs.declared.fault.Fault.TheVariants.{Null as NullFault, Budget}
use Rattle.ang_meaning.specs.declared.slot.Slot.{Slot}
use Rattle.ang_meaning.specs.declared.slot.Slot.TheVariants.{Bits, Script, Host}
use Rattle.ang_meaning.specs.declared.routine.Passing.{Passing}
use Rattle.ang_meaning.specs.World.{World, give}
use Rattle.ang_meaning.specs.Environment.{Environment, params_of}
use Rattle.ang_meaning.specs.Results.{Evaluated, Gave, Failed, Ran, Went, Returned, Halted, Broken, Continued, drop_some, give_some, outs_of, give_others, at_zero, on_test, ticked, leave, with_value, then_run, caught}
use Rattle.ang_code.specs.declared.instruction.Instruction.{Instruction}
use Rattle.ang_code.specs.declared.instruction.Instruction.TheVariants.{Leave, Jump, Return}
use Rattle.ang_code.specs.Machine.{Texts, Config, Over, Faulted, fault, back, enough}
use Rattle.ang_code.proofs.Steps.{HasAt, has_front, has_back, Comes, here, comes_on, comes_to, then_step, enough_on}
use Rattle.ang_gen.specs.Code.{past_code, leave_code, block_code}
use Rattle.ang_gen.proofs.Stacks.{drop_front, drop_within, give_within, length_drop, give_drop, drop_more, give_more, outs_front, others_front}
use Rattle.ang_gen.proofs.Relate.{Running, at, Exits, EvalGoes, returning, RunGoes}

pub no_true : (l : Bool) → l ≡ false → IsTrue l → ⊥
no_true false e h = cc
no_true true e h = cc

-- the code of a statement stands at a place where n locals are alive, between the exits
pub record Stands (code : Texts) (r : Running) (q : ℕ) (c : List Instruction) (pc kb kc n : ℕ) (x : Exits) : Type 0 where
  pub has : HasAt (code.text r.of) pc c
  pub params : q ≤ n
  pub alive : x.alive ≤ n
  pub out : x.out ≡ pc + length c + kb
  pub again : x.again ≡ pc + length c + kc

module _ (z : Environment) (code : Texts) (r : Running) (ps : List Passing) where
  module _ (x : Exits) where
    pub after_run : (start mid : Config) (pc n0 n0' n n1 t t1 : ℕ) (o : Ran) → Comes z code start mid → n0 ≤ n0' → n1 ≡ n → t1 ≤ t → RunGoes z code r ps mid pc x n0' n1 t1 o → RunGoes z code r ps start pc x n0 n t o
    after_run start mid pc n0 n0' n n1 t t1 (Went ls t' w) p k e h q = (comes_on z code start mid _ p q.0, q.1 ∙ e, omega (arith, q.2))
    after_run start mid pc n0 n0' n n1 t t1 (Returned v ls t' w) p k e h q = (comes_on z code start mid _ p q.0, omega (arith, q.1), omega (arith, q.2))
    after_run start mid pc n0 n0' n n1 t t1 (Halted y ls w) p k e h q = comes_on z code start mid _ p q
    after_run start mid pc n0 n0' n n1 t t1 (Broken ls t' w) p k e h q = (comes_on z code start mid _ p q.0, omega (arith, q.1), omega (arith, q.2), q.3)
    after_run start mid pc n0 n0' n n1 t t1 (Continued ls t' w) p k e h q = (comes_on z code start mid _ p q.0, omega (arith, q.1), omega (arith, q.2), q.3)

    pub run_ends : (start : Config) (pc1 pc2 n0 n t : ℕ) (o : Ran) → pc1 ≡ pc2 → RunGoes z code r ps start pc1 x n0 n t o → RunGoes z code r ps start pc2 x n0 n t o
    run_ends start pc1 pc2 n0 n t o e q = subst (λ p. RunGoes z code r ps start p x n0 n t o) e q

    -- one more block's end on the way out of a loop's body
    out_more : (n m t place : ℕ) (ls : List Slot) (w : World) → n ≤ length ls → m ≤ n → at r place (drop_some (length ls - m) ls ++ r.below) t (give_some (length ls - m) ls w) ≡ at r place (drop_some (length (drop_some (length ls - n) ls) - m) (drop_some (length ls - n) ls) ++ r.below) t (give_some (length (drop_some (length ls - n) ls) - m) (drop_some (length ls - n) ls) (give_some (length ls - n) ls w))
    out_more n m t place ls w h k =
        let i = length ls - n in
        let j = length (drop_some i ls) - m in
        let len = length_drop i ls (let le : i ≤ length ls = omega arith in le) in
        let e : length ls - m ≡ i + j = omega (arith, len) in
        ap (λ q. at r place (drop_some q ls ++ r.below) t (give_some q ls w)) e
        ∙ ap (λ s. at r place (s ++ r.below) t (give_some (i + j) ls w)) (drop_more i j ls)
        ∙ ap (λ y. at r place (drop_some j (drop_some i ls) ++ r.below) t y) (give_more i j ls w)

    -- and on the way out of the body
    home_more : (n t : ℕ) (v : Slot) (ls : List Slot) (w : World) → n ≤ length ls → length ps ≤ n → returning r ps v ls t w ≡ returning r ps v (drop_some (length ls - n) ls) t (give_some (length ls - n) ls w)
    home_more n t v ls w h k =
        let i = length ls - n in
        let j = length (drop_some i ls) - length ps in
        let len = length_drop i ls (let le : i ≤ length ls = omega arith in le) in
        let e : length ls - length ps ≡ i + j = omega (arith, len) in
        let go = λ (l : List Slot) (u : World). back r.callers v (outs_of ps l) r.below t (give_others ps l u) in
        ap (λ q. go (drop_some q ls) (give_some q ls w)) e ∙ ap (λ l. go l (give_some (i + j) ls w)) (drop_more i j ls) ∙ ap (λ u. go (drop_some j (drop_some i ls)) u) (give_more i j ls w)

    -- the locals of a block are given up
    left_goes : (start : Config) (pc k t : ℕ) (ls : List Slot) (w : World) → HasAt (code.text r.of) pc (leave_code k) → k ≤ length ls → Comes z code start (at r pc (ls ++ r.below) t w) → Comes z code start (at r (pc + length (leave_code k)) (drop_some k ls ++ r.below) t (give_some k ls w))
    left_goes start pc zero t ls w has h p = comes_to z code start _ _ p (let e : pc ≡ pc + 0 = omega arith in ap (λ j. at r j (ls ++ r.below) t w) e)
    left_goes start pc (suc k) t ls w has h p =
        let n = suc k in
        let there : n ≤ length (ls ++ r.below) = omega (arith, length-append ls r.below) in
        comes_to z code start _ _ (then_step z code start r.of pc r.room (ls ++ r.below) r.callers t w (Leave n) has.0 p)
        (enough_on n (ls ++ r.below) _ there
        ∙ ap (λ s. at r (pc + 1) s t (give_some n (ls ++ r.below) w)) (drop_within n ls r.below h)
        ∙ ap (λ y. at r (pc + 1) (drop_some n ls ++ r.below) t y) (give_within n ls r.below w h))

    -- a block's end
    pub leave_goes : (start : Config) (pc k n t : ℕ) (o : Ran) → length ps ≤ n → x.alive ≤ n → HasAt (code.text r.of) pc (leave_code k) → RunGoes z code r ps start pc x n (k + n) t o → RunGoes z code r ps start (pc + length (leave_code k)) x n n t (leave n o)
    leave_goes start pc k n t (Went ls t' w) pa al has q =
        let i = length ls - n in
        let k_is : k ≡ i = omega (arith, q.1) in
        let p = left_goes start pc k t' ls w has (omega (arith, q.1)) q.0 in (
          comes_to z code start _ _ p (ap (λ j. at r (pc + length (leave_code k)) (drop_some j ls ++ r.below) t' (give_some j ls w)) k_is),
          length_drop i ls (let le : i ≤ length ls = omega arith in le) ∙ omega (arith, q.1),
          q.2,
        )
    leave_goes start pc k n t (Returned v ls t' w) pa al has q =
        let len = length_drop (length ls - n) ls (let le : length ls - n ≤ length ls = omega arith in le) in
        (comes_to z code start _ _ q.0 (home_more n t' v ls w q.2 pa), q.1, omega (arith, len, q.2))
    leave_goes start pc k n t (Halted y ls w) pa al has q = comes_to z code start _ _ q (ap (λ u. Over (Faulted y u)) (give_drop (length ls - n) ls r.below w))
    leave_goes start pc k n t (Broken ls t' w) pa al has q =
        let len = length_drop (length ls - n) ls (let le : length ls - n ≤ length ls = omega arith in le) in
        (comes_to z code start _ _ q.0 (out_more n x.alive t' x.out ls w q.2 al), q.1, omega (arith, len, q.2), q.3)
    leave_goes start pc k n t (Continued ls t' w) pa al has q =
        let len = length_drop (length ls - n) ls (let le : length ls - n ≤ length ls = omega arith in le) in
        (comes_to z code start _ _ q.0 (out_more n x.alive t' x.again ls w q.2 al), q.1, omega (arith, len, q.2), q.3)

    -- a block, from what its inside does
    pub block_goes : (cs : List Instruction) (d : ℕ) (start : Config) (pc n t : ℕ) (o : Ran) → length ps ≤ n → x.alive ≤ n → HasAt (code.text r.of) pc (block_code cs d) → RunGoes z code r ps start (pc + length cs) x n (d + n) t o → RunGoes z code r ps start (pc + length (block_code cs d)) x n n t (leave n o)
    block_goes cs d start pc n t o pa al has q =
        let len : pc + length cs + length (leave_code d) ≡ pc + length (block_code cs d) = omega (arith, length-append cs (leave_code d)) in
        run_ends start _ _ n n t (leave n o) len (leave_goes start (pc + length cs) d n t o pa al (has_back (code.text r.of) pc cs _ has) q)

    pub value_goes : (start : Config) (pc pc' n0 n k t : ℕ) (o : Evaluated) (go : Slot → List Slot → ℕ → World → Ran) → EvalGoes z code r start pc [] n t o → ((v : Slot) (ls : List Slot) (t' : ℕ) (w : World) → length ls ≡ n → t' ≤ t → RunGoes z code r ps (at r pc (v ∷ (ls ++ r.below)) t' w) pc' x n0 k t' (go v ls t' w)) → RunGoes z code r ps start pc' x n0 k t (with_value o go)
    value_goes start pc pc' n0 n k t (Gave v ls t' w) go q h = after_run start _ pc' n0 n0 k k t t' (go v ls t' w) q.0 (omega arith) refl q.2 (h v ls t' w q.1 q.2)
    value_goes start pc pc' n0 n k t (Failed y ls w) go q h = q

    pub seq_goes : (start : Config) (pc pc' n0 n0' n k t : ℕ) (o : Ran) (go : List Slot → ℕ → World → Ran) → n0 ≤ n0' → RunGoes z code r ps start pc x n0 n t o → ((ls : List Slot) (t' : ℕ) (w : World) → length ls ≡ n → t' ≤ t → RunGoes z code r ps (at r pc (ls ++ r.below) t' w) pc' x n0' k t' (go ls t' w)) → RunGoes z code r ps start pc' x n0 k t (then_run o go)
    seq_goes start pc pc' n0 n0' n k t (Went ls t' w) go m q h = after_run start _ pc' n0 n0' k k t t' (go ls t' w) q.0 m refl q.2 (h ls t' w q.1 q.2)
    seq_goes start pc pc' n0 n0' n k t (Returned v ls t' w) go m q h = q
    seq_goes start pc pc' n0 n0' n k t (Halted y ls w) go m q h = q
    seq_goes start pc pc' n0 n0' n k t (Broken ls t' w) go m q h = q
    seq_goes start pc pc' n0 n0' n k t (Continued ls t' w) go m q h = q

    pub jump_run : (start : Config) (pc k n0 n t : ℕ) (o : Ran) → slice_get (code.text r.of) pc ≡ Some (Jump k) → RunGoes z code r ps start pc x n0 n t o → RunGoes z code r ps start (pc + 1 + k) x n0 n t o
    jump_run start pc k n0 n t (Went ls t' w) has q = (then_step z code start r.of pc r.room (ls ++ r.below) r.callers t' w (Jump k) has q.0, q.1, q.2)
    jump_run start pc k n0 n t (Returned v ls t' w) has q = q
    jump_run start pc k n0 n t (Halted y ls w) has q = q
    jump_run start pc k n0 n t (Broken ls t' w) has q = q
    jump_run start pc k n0 n t (Continued ls t' w) has q = q

    -- past a side of a choice, where it does anything
    pub past_run : (start : Config) (pc k n0 n t : ℕ) (o : Ran) → HasAt (code.text r.of) pc (past_code k) → RunGoes z code r ps start pc x n0 n t o → RunGoes z code r ps start (pc + length (past_code k) + k) x n0 n t o
    past_run start pc zero n0 n t o has q = run_ends start pc (pc + 0 + 0) n0 n t o (omega arith) q
    past_run start pc (suc k) n0 n t o has q = jump_run start pc (suc k) n0 n t o has.0 q

    zero_run : (start : Config) (pc' n0 n t y : ℕ) (off_at on_at : Config) (off on : Ran) → Comes z code start (at_zero y off_at on_at) → RunGoes z code r ps off_at pc' x n0 n t off → RunGoes z code r ps on_at pc' x n0 n t on → RunGoes z code r ps start pc' x n0 n t (at_zero y off on)
    zero_run start pc' n0 n t zero off_at on_at off on p q1 q2 = after_run start off_at pc' n0 n0 n n t t off p (omega arith) refl (omega arith) q1
    zero_run start pc' n0 n t (suc y) off_at on_at off on p q1 q2 = after_run start on_at pc' n0 n0 n n t t on p (omega arith) refl (omega arith) q2

    pub branch_run : (start : Config) (pc' n0 n t : ℕ) (ls : List Slot) (w : World) (v : Slot) (off_at on_at : Config) (off on : Ran) → Comes z code start (on_test v (fault NullFault (v ∷ (ls ++ r.below)) w) off_at on_at) → RunGoes z code r ps off_at pc' x n0 n t off → RunGoes z code r ps on_at pc' x n0 n t on → RunGoes z code r ps start pc' x n0 n t (on_test v (Halted NullFault ls (give v w)) off on)
    branch_run start pc' n0 n t ls w (Bits y) off_at on_at off on p q1 q2 = zero_run start pc' n0 n t y off_at on_at off on p q1 q2
    branch_run start pc' n0 n t ls w (Script k) off_at on_at off on p q1 q2 = p
    branch_run start pc' n0 n t ls w (Host d k) off_at on_at off on p q1 q2 = p

    pub tick_run : (start : Config) (pc' n0 n t : ℕ) (ls : List Slot) (w : World) (to : ℕ → Config) (go : ℕ → Ran) → Comes z code start (ticked t (fault Budget (ls ++ r.below) w) to) → ((t' : ℕ) → suc t' ≤ t → RunGoes z code r ps (to t') pc' x n0 n t' (go t')) → RunGoes z code r ps start pc' x n0 n t (ticked t (Halted Budget ls w) go)
    tick_run start pc' n0 n zero ls w to go p h = p
    tick_run start pc' n0 n (suc t) ls w to go p h = after_run start _ pc' n0 n0 n n (suc t) t (go t) p (omega arith) refl (omega arith) (h t (omega arith))

    -- the way out of a loop's body
    pub exit_goes : (to pc k m t : ℕ) (ls : List Slot) (w : World) → HasAt (code.text r.of) pc (leave_code (length ls - m) ++ Jump k ∷ []) → to ≡ pc + length (leave_code (length ls - m)) + 1 + k → Comes z code (at r pc (ls ++ r.below) t w) (at r to (drop_some (length ls - m) ls ++ r.below) t (give_some (length ls - m) ls w))
    exit_goes to pc k m t ls w has e =
        let i = length ls - m in
        let cl = leave_code i in
        let p1 = left_goes _ pc i t ls w (has_front (code.text r.of) pc cl _ has) (omega arith) (here z code _) in
        let p2 = then_step z code _ r.of (pc + length cl) r.room _ r.callers t _ (Jump k) (has_back (code.text r.of) pc cl _ has).0 p1 in
        comes_to z code _ _ _ p2 (ap (λ q. at r q (drop_some i ls ++ r.below) t (give_some i ls w)) (sym e))

  -- a statement that is in no loop, where another loop's exits are said
  pub in_no_loop : (x y : Exits) (start : Config) (pc n0 n t : ℕ) (o : Ran) → x.loop ≡ false → RunGoes z code r ps start pc x n0 n t o → RunGoes z code r ps start pc y n0 n t o
  in_no_loop x y start pc n0 n t (Went ls t' w) no_loop q = q
  in_no_loop x y start pc n0 n t (Returned v ls t' w) no_loop q = q
  in_no_loop x y start pc n0 n t (Halted f ls w) no_loop q = q
  in_no_loop x y start pc n0 n t (Broken ls t' w) no_loop q = absurd (no_true x.loop no_loop q.3)
  in_no_loop x y start pc n0 n t (Continued ls t' w) no_loop q = absurd (no_true x.loop no_loop q.3)

  -- a loop's body: leave its block at pc, go on after it, or get out at x.out, where the loop has n locals
  dropped : (n : ℕ) (ls : List Slot) → n ≤ length ls → length (drop_some (length ls - n) ls) ≡ n
  dropped n ls h =
      let e : length ls - (length ls - n) ≡ n = omega arith in
      length_drop (length ls - n) ls (let le : length ls - n ≤ length ls = omega arith in le) ∙ e

  pub caught_goes : (x y : Exits) (start : Config) (pc k n t : ℕ) (o : Ran) (go : List Slot → ℕ → World → Ran) → length ps ≤ n → x.alive ≡ n → x.again ≡ pc + length (leave_code k) → HasAt (code.text r.of) pc (leave_code k) → RunGoes z code r ps start pc x n (k + n) t o → ((ls : List Slot) (t' : ℕ) (w : World) → length ls ≡ n → t' ≤ t → RunGoes z code r ps (at r (pc + length (leave_code k)) (ls ++ r.below) t' w) x.out y n n t' (go ls t' w)) → RunGoes z code r ps start x.out y n n t (caught n o go)
  caught_goes x y start pc k n t (Went ls t' w) go pa m e has q h =
      let l = leave_goes x start pc k n t (Went ls t' w) pa (omega (arith, m)) has q in
      after_run y start _ x.out n n n n t t' _ l.0 (omega arith) refl l.2 (h _ t' _ l.1 l.2)
  caught_goes x y start pc k n t (Continued ls t' w) go pa m e has q h =
      let p = comes_to z code start _ _ q.0 (ap (λ j. at r j (drop_some (length ls - x.alive) ls ++ r.below) t' (give_some (length ls - x.alive) ls w)) e ∙ ap (λ j. at r (pc + length (leave_code k)) (drop_some (length ls - j) ls ++ r.below) t' (give_some (length ls - j) ls w)) m) in
      after_run y start _ x.out n n n n t t' _ p (omega arith) refl q.1 (h _ t' _ (dropped n ls q.2) q.1)
  caught_goes x y start pc k n t (Broken ls t' w) go pa m e has q h =
      (comes_to z code start _ _ q.0 (ap (λ j. at r x.out (drop_some (length ls - j) ls ++ r.below) t' (give_some (length ls - j) ls w)) m), dropped n ls q.2, q.1)
  caught_goes x y start pc k n t (Returned v ls t' w) go pa m e has q h =
      (comes_to z code start _ _ q.0 (home_more x n t' v ls w q.2 pa), q.1, omega (arith, dropped n ls q.2))
  caught_goes x y start pc k n t (Halted f ls w) go pa m e has q h = comes_to z code start _ _ q (ap (λ u. Over (Faulted f u)) (give_drop (length ls - n) ls r.below w))

  -- `return`: the value and the `&out` values go to the caller
  pub return_goes : (start : Config) (pc k t : ℕ) (v : Slot) (ls : List Slot) (w : World) → params_of z r.of ≡ ps → slice_get (code.text r.of) pc ≡ Some (Return k) → k ≡ length ls - length ps → length ps ≤ length ls → Comes z code start (at r pc (v ∷ (ls ++ r.below)) t w) → Comes z code start (returning r ps v ls t w)
  return_goes start pc k t v ls w ps_is has e h p =
      let stack = ls ++ r.below in
      let i = length ls - length ps in
      let i_in : i ≤ length ls = omega arith in
      let own = drop_some i ls in
      let own_is : length own ≡ length ps = length_drop i ls i_in ∙ omega arith in
      let there : i + length ps ≤ length stack = omega (arith, length-append ls r.below) in
      let dropped_is : drop_some i stack ≡ own ++ r.below = drop_within i ls r.below i_in in
      let given_is : give_some i stack w ≡ give_some i ls w = give_within i ls r.below w i_in in
      let behind : drop_some (length ps) (own ++ r.below) ≡ r.below = ap (λ j. drop_some j (own ++ r.below)) (sym own_is) ∙ drop_front own r.below in
      let go = λ (qs : List Passing) (j : ℕ). enough (j + length qs) stack (back r.callers v (outs_of qs (drop_some j stack)) (drop_some (length qs) (drop_some j stack)) t (give_others qs (drop_some j stack) (give_some j stack w))) in
      let end = λ (l m : List Slot) (u : World). back r.callers v l m t u in
      comes_to z code start _ _ (then_step z code start r.of pc r.room (v ∷ stack) r.callers t w (Return k) has p)
      (ap (λ j. go (params_of z r.of) j) e ∙ ap (λ qs. go qs i) ps_is ∙ enough_on (i + length ps) stack _ there
      ∙ ap (λ l. back r.callers v (outs_of ps l) (drop_some (length ps) l) t (give_others ps l (give_some i stack w))) dropped_is
      ∙ ap (λ l. end l (drop_some (length ps) (own ++ r.below)) (give_others ps (own ++ r.below) (give_some i stack w))) (outs_front ps own r.below own_is)
      ∙ ap (λ l. end (outs_of ps own) l (give_others ps (own ++ r.below) (give_some i stack w))) behind
      ∙ ap (λ u. end (outs_of ps own) r.below u) (others_front ps own r.below (give_some i stack w) own_is)
      ∙ ap (λ u. end (outs_of ps own) r.below (give_others ps own u)) given_is)

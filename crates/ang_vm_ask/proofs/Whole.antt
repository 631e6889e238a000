-- The whole of an operation on the host is its host call, and then what is given up after it: for the machine's arm.
use Rattle.std.proofs.Common.{◌≡◌, ℕ, zero, suc, ◌≤◌, List, [], ◌∷◌, true, length, refl, sym, ap, ◌∙◌, arith}
use Rattle.std.specs.Prelude.{Result, Ok, Err}
use Rattle.ang_kinds.specs.declared.fault.Fault.{Fault}
use Rattle.ang_code.specs.Machine.{take_some}
use Rattle.ang_meaning.specs.declared.slot.Slot.{Slot}
use Rattle.ang_meaning.specs.declared.operation.Operation.{Operation}
use Rattle.ang_meaning.specs.declared.operation.Operation.TheVariants.{Binary, Compare, Convert, Negate, Complement, Not, Same, GlobalGet, GlobalSet, GlobalChange, Ask, Read, Write, Alter, Make, FieldGet, FieldSet, FieldChange, Cast}
use Rattle.ang_meaning.specs.World.{World, Input, with_inputs, give, give_all}
use Rattle.ang_meaning.specs.Environment.{Environment}
use Rattle.ang_meaning.specs.Hosts.{Done, Fine, Fails}
use Rattle.ang_meaning.specs.Perform.{gives_up, perform}
use Rattle.ang_meaning.specs.Results.{give_some}
use Rattle.ang_meaning.specs.Told.{Told}
use Rattle.ang_meaning.proofs.Telling.{told_same, told_then, told_map}
use Rattle.ang_vm_stack.specs.Arms.{done}
use Rattle.ang_vm_ask.specs.Asks.{asks_host, asks, given_count}
use Rattle.ang_vm_ask.proofs.Live.{take_length}

gives_none : (o : Done) → gives_up [] o ≡ o
gives_none (Fine v w) = refl
gives_none (Fails f w) = refl

take_all : (vs : List Slot) → take_some (length vs) vs ≡ vs
take_all [] = refl
take_all (v ∷ vs) = ap (λ l. v ∷ l) (take_all vs)

-- what the meaning does is the host call, and then the operands are given up
pub performed : (z : Environment) (m : ℕ) (o : Operation) (vs : List Slot) (w : World) → asks_host o ≡ true → perform z m o vs w ≡ gives_up (take_some (given_count o (length vs)) vs) (asks z m o vs w)
unfolding perform asks
performed z m (Ask e) vs w h = ap (λ l. gives_up l (asks z m (Ask e) vs w)) (sym (take_all vs))
performed z m (Read e) vs w h = ap (λ l. gives_up l (asks z m (Read e) vs w)) (sym (take_all vs))
performed z m (Write e) [] w h = refl
performed z m (Write e) (v ∷ []) w h = sym (gives_none _)
performed z m (Write e) (o ∷ (v ∷ [])) w h = refl
performed z m (Write e) (o ∷ (v ∷ (x ∷ vs))) w h = refl
performed z m (Alter e c) [] w h = refl
performed z m (Alter e c) (v ∷ []) w h = sym (gives_none _)
performed z m (Alter e c) (o ∷ (v ∷ [])) w h = refl
performed z m (Alter e c) (o ∷ (v ∷ (x ∷ vs))) w h = refl
performed z m (Binary a p) vs w h = absurd (let y : ⊥ = cc in y)
performed z m (Compare c signed) vs w h = absurd (let y : ⊥ = cc in y)
performed z m (Convert p) vs w h = absurd (let y : ⊥ = cc in y)
performed z m (Negate p) vs w h = absurd (let y : ⊥ = cc in y)
performed z m (Complement p) vs w h = absurd (let y : ⊥ = cc in y)
performed z m Not vs w h = absurd (let y : ⊥ = cc in y)
performed z m Same vs w h = absurd (let y : ⊥ = cc in y)
performed z m (GlobalGet g) vs w h = absurd (let y : ⊥ = cc in y)
performed z m (GlobalSet g) vs w h = absurd (let y : ⊥ = cc in y)
performed z m (GlobalChange c g) vs w h = absurd (let y : ⊥ = cc in y)
performed z m (Make c) vs w h = absurd (let y : ⊥ = cc in y)
performed z m (FieldGet i) vs w h = absurd (let y : ⊥ = cc in y)
performed z m (FieldSet i) vs w h = absurd (let y : ⊥ = cc in y)
performed z m (FieldChange c i) vs w h = absurd (let y : ⊥ = cc in y)
performed z m (Cast c) vs w h = absurd (let y : ⊥ = cc in y)

take_less : (k n : ℕ) (s : List Slot) → k ≤ n → take_some k (take_some n s) ≡ take_some k s
take_less zero n s h = refl
take_less (suc k) zero s h = absurd (omega (arith, h))
take_less (suc k) (suc n) [] h = refl
take_less (suc k) (suc n) (v ∷ s) h = ap (λ l. v ∷ l) (take_less k n s (omega (arith, h)))

give_taken : (k : ℕ) (s : List Slot) (w : World) → give_all (take_some k s) w ≡ give_some k s w
give_taken zero s w = refl
give_taken (suc k) [] w = refl
give_taken (suc k) (v ∷ s) w = give_taken k s (give v w)

given_fewer : (o : Operation) (n : ℕ) → asks_host o ≡ true → given_count o n ≤ n
given_fewer (Ask e) n h = omega arith
given_fewer (Read e) n h = omega arith
given_fewer (Write e) n h = omega arith
given_fewer (Alter e c) n h = omega arith
given_fewer (Binary a p) n h = absurd (let y : ⊥ = cc in y)
given_fewer (Compare c signed) n h = absurd (let y : ⊥ = cc in y)
given_fewer (Convert p) n h = absurd (let y : ⊥ = cc in y)
given_fewer (Negate p) n h = absurd (let y : ⊥ = cc in y)
given_fewer (Complement p) n h = absurd (let y : ⊥ = cc in y)
given_fewer Not n h = absurd (let y : ⊥ = cc in y)
given_fewer Same n h = absurd (let y : ⊥ = cc in y)
given_fewer (GlobalGet g) n h = absurd (let y : ⊥ = cc in y)
given_fewer (GlobalSet g) n h = absurd (let y : ⊥ = cc in y)
given_fewer (GlobalChange c g) n h = absurd (let y : ⊥ = cc in y)
given_fewer (Make c) n h = absurd (let y : ⊥ = cc in y)
given_fewer (FieldGet i) n h = absurd (let y : ⊥ = cc in y)
given_fewer (FieldSet i) n h = absurd (let y : ⊥ = cc in y)
given_fewer (FieldChange c i) n h = absurd (let y : ⊥ = cc in y)
given_fewer (Cast c) n h = absurd (let y : ⊥ = cc in y)

-- For the machine's arm, where s is the stack: the host call went well, and then n values were given up; or it faulted.
module _ (z : Environment) (m : ℕ) (o : Operation) (n : ℕ) (s : List Slot) (is : asks_host o ≡ true) (there : n ≤ length s) (r : Result Slot Fault) (w w1 : World)
    (t : Told (λ ins. asks z m o (take_some n s) (with_inputs ins w)) (λ ins. done r (with_inputs ins w1))) where
  whole : (u : World) → perform z m o (take_some n s) u ≡ gives_up (take_some (given_count o n) s) (asks z m o (take_some n s) u)
  whole u =
      performed z m o (take_some n s) u is ∙ ap (λ k. gives_up (take_some (given_count o k) (take_some n s)) (asks z m o (take_some n s) u)) (take_length n s there)
      ∙ ap (λ l. gives_up l (asks z m o (take_some n s) u)) (take_less (given_count o n) n s (given_fewer o n is))

  pub asked_fine : (v : Slot) (w' : World) → r ≡ Ok v → ((ins : List Input) → give_some (given_count o n) s (with_inputs ins w1) ≡ with_inputs ins w')
      → Told (λ ins. perform z m o (take_some n s) (with_inputs ins w)) (λ ins. done (Ok v) (with_inputs ins w'))
  asked_fine v w' e gives =
      told_then (told_same (λ ins. whole (with_inputs ins w)))
      (told_then (told_map (gives_up (take_some (given_count o n) s)) t)
      (told_same (λ ins. ap (λ x. gives_up (take_some (given_count o n) s) (done x (with_inputs ins w1))) e ∙ ap (Fine v) (give_taken (given_count o n) s (with_inputs ins w1) ∙ gives ins))))

  pub asked_fails : (f : Fault) → r ≡ Err f → Told (λ ins. perform z m o (take_some n s) (with_inputs ins w)) (λ ins. done (Err f) (with_inputs ins w1))
  asked_fails f e =
      told_then (told_same (λ ins. whole (with_inputs ins w)))
      (told_then (told_map (gives_up (take_some (given_count o n) s)) t)
      (told_same (λ ins. ap (λ x. gives_up (take_some (given_count o n) s) (done x (with_inputs ins w1))) e)))

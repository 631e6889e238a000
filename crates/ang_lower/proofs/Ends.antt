-- Ends of parts that are the same, with as many locals as there were: one lemma for each combinator of the meaning.
use Rattle.std.proofs.Common.{◌≡◌, ℕ, zero, suc, ◌-◌, ◌≤◌, List, [], ◌∷◌, length, refl, ap, ◌∙◌, subst, arith}
use Rattle.ang_kinds.specs.declared.fault.Fault.TheVariants.{Null, Tally}
use Rattle.ang_meaning.specs.declared.slot.Slot.{Slot}
use Rattle.ang_meaning.specs.declared.slot.Slot.TheVariants.{Bits, Script, Host}
use Rattle.ang_meaning.specs.declared.operation.Update.{Update}
use Rattle.ang_meaning.specs.declared.routine.Spot.{Spot}
use Rattle.ang_meaning.specs.declared.routine.Spot.TheVariants as spot
use Rattle.ang_meaning.specs.declared.routine.Target.{Target}
use Rattle.ang_meaning.specs.Numbers.{Changed, Into, Never}
use Rattle.ang_meaning.specs.World.{World, Tried, Yes, No, or_else, hold, give}
use Rattle.ang_meaning.specs.Hosts.{Done, Fine, Fails}
use Rattle.ang_meaning.specs.Perform.{change_of}
use Rattle.ang_meaning.specs.Results.{Evaluated, Gave, Failed, Gathered, Ready, Broke, Ran, Went, Returned, Halted, Broken, Continued, Reply, Yields, Raises, local_at, local_set, give_some, drop_some, on_test, ticked, loaded, performed, applied, assigned, altered_by, altered, chosen, then_rest, brought, trade, settled, replied, called, leave, with_value, then_run, caught}

-- ---- lists of locals

length_set : (a : List Slot) (i : ℕ) (x : Slot) → length (local_set a i x) ≡ length a
length_set [] i x = refl
length_set (v ∷ a) zero x = refl
length_set (v ∷ a) (suc i) x = ap suc (length_set a i x)

length_drop : (n : ℕ) (a : List Slot) → n ≤ length a → length (drop_some n a) ≡ length a - n
length_drop zero a h = omega arith
length_drop (suc n) [] h = absurd (omega arith)
length_drop (suc n) (v ∷ a) h = length_drop n a (omega arith) ∙ omega arith

-- what is left of a block's locals
left_over : (n : ℕ) (ls : List Slot) → n ≤ length ls → length (drop_some (length ls - n) ls) ≡ n
left_over n ls h = length_drop (length ls - n) ls (omega arith) ∙ omega arith

none_over : (n : ℕ) (ls : List Slot) → length (drop_some (length ls - n) ls) - n ≡ 0
none_over n ls =
    let d = length_drop (length ls - n) ls (omega arith) in omega (arith, d)

-- ---- expressions

-- it leaves n locals
abbrev pub Keeps : ℕ → Evaluated → Type 0
Keeps n (Gave v ls t w) = length ls ≡ n
Keeps n (Failed f ls w) = length ls ≡ n

-- and gives m values
abbrev pub KeepsAll : ℕ → ℕ → Gathered → Type 0
KeepsAll n m (Ready vs ls t w) = (length ls ≡ n) × (length vs ≡ m)
KeepsAll n m (Broke f ls w) = length ls ≡ n

pub record SameEval (n : ℕ) (x y : Evaluated) : Type 0 where
  pub same : x ≡ y
  pub keeps : Keeps n y

pub record SameAll (n m : ℕ) (x y : Gathered) : Type 0 where
  pub same : x ≡ y
  pub keeps : KeepsAll n m y

-- continuations that are the same at n locals
abbrev pub SameFrom : ℕ → (List Slot → ℕ → World → Evaluated) → (List Slot → ℕ → World → Evaluated) → Type 0
SameFrom n go go' = (ls : List Slot) (t : ℕ) (w : World) → length ls ≡ n → SameEval n (go ls t w) (go' ls t w)

loaded_by : (n : ℕ) (o : Tried) (v : Slot) (ls : List Slot) (t : ℕ) → length ls ≡ n → Keeps n (or_else o (λ w'. Failed Tally ls w') (λ w'. Gave v ls t w'))
loaded_by n (No w) v ls t l = l
loaded_by n (Yes w) v ls t l = l

pub loaded_keeps : (n : ℕ) (v : Slot) (ls : List Slot) (t : ℕ) (w : World) → length ls ≡ n → Keeps n (loaded v ls t w)
loaded_keeps n v ls t w l = loaded_by n (hold v w) v ls t l

performed_keeps : (n : ℕ) (o : Done) (vs ls : List Slot) (t : ℕ) → length ls ≡ n → Keeps n (performed o vs ls t)
performed_keeps n (Fine v w) vs ls t l = l
performed_keeps n (Fails f w) vs ls t l = l

pub applied_keeps : (n m : ℕ) (op : List Slot → World → Done) (a : Gathered) → KeepsAll n m a → Keeps n (applied op a)
applied_keeps n m op (Ready vs ls t w) h = performed_keeps n (op vs w) vs ls t h.0
applied_keeps n m op (Broke f ls w) h = h

pub applied_same : (n m : ℕ) (op : List Slot → World → Done) (a b : Gathered) → SameAll n m a b → SameEval n (applied op a) (applied op b)
applied_same n m op a b h = record { same = ap (λ x. applied op x) h.same; keeps = applied_keeps n m op b h.keeps }

stored_by : (n i : ℕ) (o : Tried) (v : Slot) (ls : List Slot) (t : ℕ) → length ls ≡ n →
    Keeps n (or_else o (λ w'. Failed Tally ls (give v w')) (λ w'. Gave v (local_set ls i v) t (give (local_at ls i) w')))
stored_by n i (No w) v ls t l = l
stored_by n i (Yes w) v ls t l = length_set ls i v ∙ l

pub assigned_keeps : (n i : ℕ) (y : Evaluated) → Keeps n y → Keeps n (assigned i y)
assigned_keeps n i (Gave v ls t w) l = stored_by n i (hold v w) v ls t l
assigned_keeps n i (Failed f ls w) l = l

changed_keeps : (n i : ℕ) (o : Changed) (v : Slot) (ls : List Slot) (t : ℕ) (w : World) → length ls ≡ n → Keeps n (altered_by i o v ls t w)
changed_keeps n i (Into stored given) v ls t w l = length_set ls i (Bits stored) ∙ l
changed_keeps n i (Never f) v ls t w l = l

pub altered_keeps : (n i : ℕ) (c : Update) (y : Evaluated) → Keeps n y → Keeps n (altered i c y)
altered_keeps n i c (Gave v ls t w) l = changed_keeps n i (change_of c (local_at ls i) v) v ls t w l
altered_keeps n i c (Failed f ls w) l = l

test_same : (n : ℕ) (v : Slot) (bad off on off' on' : Evaluated) → Keeps n bad → SameEval n off off' → SameEval n on on' → SameEval n (on_test v bad off on) (on_test v bad off' on')
test_same n (Bits zero) bad off on off' on' k a b = a
test_same n (Bits (suc x)) bad off on off' on' k a b = b
test_same n (Script x) bad off on off' on' k a b = record { same = refl; keeps = k }
test_same n (Host d x) bad off on off' on' k a b = record { same = refl; keeps = k }

chosen_at : (n : ℕ) (y : Evaluated) (one two one' two' : List Slot → ℕ → World → Evaluated) → Keeps n y → SameFrom n one one' → SameFrom n two two' → SameEval n (chosen y one two) (chosen y one' two')
chosen_at n (Gave v ls t w) one two one' two' l a b = test_same n v (Failed Null ls (give v w)) (two ls t w) (one ls t w) (two' ls t w) (one' ls t w) l (b ls t w l) (a ls t w l)
chosen_at n (Failed f ls w) one two one' two' l a b = record { same = refl; keeps = l }

pub chosen_same : (n : ℕ) (x y : Evaluated) (one two one' two' : List Slot → ℕ → World → Evaluated) → SameEval n x y → SameFrom n one one' → SameFrom n two two' → SameEval n (chosen x one two) (chosen y one' two')
chosen_same n x y one two one' two' h a b =
    let p = chosen_at n y one two one' two' h.keeps a b in
    record { same = ap (λ z. chosen z one two) h.same ∙ p.same; keeps = p.keeps }

then_rest_at : (n m : ℕ) (vs : List Slot) (y : Evaluated) (go go' : Slot → List Slot → ℕ → World → Gathered) → Keeps n y
    → ((v : Slot) (ls : List Slot) (t : ℕ) (w : World) → length ls ≡ n → SameAll n m (go v ls t w) (go' v ls t w)) → SameAll n m (then_rest vs y go) (then_rest vs y go')
then_rest_at n m vs (Gave v ls t w) go go' l a = a v ls t w l
then_rest_at n m vs (Failed f ls w) go go' l a = record { same = refl; keeps = l }

pub then_rest_same : (n m : ℕ) (vs : List Slot) (x y : Evaluated) (go go' : Slot → List Slot → ℕ → World → Gathered) → SameEval n x y
    → ((v : Slot) (ls : List Slot) (t : ℕ) (w : World) → length ls ≡ n → SameAll n m (go v ls t w) (go' v ls t w)) → SameAll n m (then_rest vs x go) (then_rest vs y go')
then_rest_same n m vs x y go go' h a =
    let p = then_rest_at n m vs y go go' h.keeps a in
    record { same = ap (λ z. then_rest vs z go) h.same ∙ p.same; keeps = p.keeps }

traded : (m : ℕ) (s : Spot) (v : Slot) (ls : List Slot) (w : World) → length (trade m s v ls w).locals ≡ length ls
traded m (spot.Local i) v ls w = length_set ls i v
traded m (spot.Global g) v ls w = refl
traded m (spot.Field o i) v ls w = refl

settled_keeps : (m : ℕ) (xs : List Target) (outs ls : List Slot) (w : World) → length (settled m xs outs ls w).locals ≡ length ls
settled_keeps m [] outs ls w = refl
settled_keeps m (x ∷ xs) [] ls w = refl
settled_keeps m (x ∷ xs) (v ∷ outs) ls w =
    let r = settled m xs outs ls w in
    traded m x.spot (brought x.to v) r.locals r.world ∙ settled_keeps m xs outs ls w

replied_keeps : (n m : ℕ) (xs : List Target) (o : Reply) (ls : List Slot) → length ls ≡ n → Keeps n (replied m xs o ls)
replied_keeps n m xs (Yields v outs t w) ls l = settled_keeps m xs outs ls w ∙ l
replied_keeps n m xs (Raises f w) ls l = l

called_at : (n k m : ℕ) (call call' : List Slot → ℕ → World → Reply) (xs : List Target) (y : Gathered) → KeepsAll n k y
    → ((vs : List Slot) (t : ℕ) (w : World) → length vs ≡ k → call vs t w ≡ call' vs t w) → SameEval n (called m call xs y) (called m call' xs y)
called_at n k m call call' xs (Ready vs ls t w) h a = record { same = ap (λ r. replied m xs r ls) (a vs t w h.1); keeps = replied_keeps n m xs (call' vs t w) ls h.0 }
called_at n k m call call' xs (Broke f ls w) h a = record { same = refl; keeps = h }

pub called_same : (n k m : ℕ) (call call' : List Slot → ℕ → World → Reply) (xs ys : List Target) (x y : Gathered) → xs ≡ ys → SameAll n k x y
    → ((vs : List Slot) (t : ℕ) (w : World) → length vs ≡ k → call vs t w ≡ call' vs t w) → SameEval n (called m call xs x) (called m call' ys y)
called_same n k m call call' xs ys x y e h a =
    let p = called_at n k m call call' ys y h.keeps a in
    record { same = ap (λ q. called m call q x) e ∙ ap (λ z. called m call ys z) h.same ∙ p.same; keeps = p.keeps }

-- ---- statements

-- It went through with n locals; where it leaves a pass it leaves no fewer than q.
abbrev pub RunKeeps : ℕ → ℕ → Ran → Type 0
RunKeeps q n (Went ls t w) = length ls ≡ n
RunKeeps q n (Returned v ls t w) = Unit {0}
RunKeeps q n (Halted f ls w) = Unit {0}
RunKeeps q n (Broken ls t w) = q ≤ length ls
RunKeeps q n (Continued ls t w) = q ≤ length ls

pub record SameRun (q n : ℕ) (x y : Ran) : Type 0 where
  pub same : x ≡ y
  pub keeps : RunKeeps q n y

abbrev pub SameRunFrom : ℕ → ℕ → ℕ → (List Slot → ℕ → World → Ran) → (List Slot → ℕ → World → Ran) → Type 0
SameRunFrom q n n1 go go' = (ls : List Slot) (t : ℕ) (w : World) → length ls ≡ n → SameRun q n1 (go ls t w) (go' ls t w)

-- the same end under another count
pub run_at : (q n n1 : ℕ) (x y : Ran) → n ≡ n1 → SameRun q n x y → SameRun q n1 x y
run_at q n n1 x y e h = subst (λ i. SameRun q i x y) e h

with_value_at : (q n n1 : ℕ) (y : Evaluated) (go go' : Slot → List Slot → ℕ → World → Ran) → Keeps n y
    → ((v : Slot) (ls : List Slot) (t : ℕ) (w : World) → length ls ≡ n → SameRun q n1 (go v ls t w) (go' v ls t w)) → SameRun q n1 (with_value y go) (with_value y go')
with_value_at q n n1 (Gave v ls t w) go go' l a = a v ls t w l
with_value_at q n n1 (Failed f ls w) go go' l a = record { same = refl; keeps = tt }

pub with_value_same : (q n n1 : ℕ) (x y : Evaluated) (go go' : Slot → List Slot → ℕ → World → Ran) → SameEval n x y
    → ((v : Slot) (ls : List Slot) (t : ℕ) (w : World) → length ls ≡ n → SameRun q n1 (go v ls t w) (go' v ls t w)) → SameRun q n1 (with_value x go) (with_value y go')
with_value_same q n n1 x y go go' h a =
    let p = with_value_at q n n1 y go go' h.keeps a in
    record { same = ap (λ z. with_value z go) h.same ∙ p.same; keeps = p.keeps }

-- fewer locals at the end of a pass
lower_end : (q q1 n : ℕ) (y : Ran) → q ≤ q1 → RunKeeps q1 n y → RunKeeps q n y
lower_end q q1 n (Went ls t w) h k = k
lower_end q q1 n (Returned v ls t w) h k = tt
lower_end q q1 n (Halted f ls w) h k = tt
lower_end q q1 n (Broken ls t w) h k = omega (arith, h, k)
lower_end q q1 n (Continued ls t w) h k = omega (arith, h, k)

pub run_lower : (q q1 n : ℕ) (x y : Ran) → q ≤ q1 → SameRun q1 n x y → SameRun q n x y
run_lower q q1 n x y h p = record { same = p.same; keeps = lower_end q q1 n y h p.keeps }

then_run_at : (q n n1 : ℕ) (y : Ran) (go go' : List Slot → ℕ → World → Ran) → RunKeeps q n y → SameRunFrom q n n1 go go' → SameRun q n1 (then_run y go) (then_run y go')
then_run_at q n n1 (Went ls t w) go go' k a = a ls t w k
then_run_at q n n1 (Returned v ls t w) go go' k a = record { same = refl; keeps = tt }
then_run_at q n n1 (Halted f ls w) go go' k a = record { same = refl; keeps = tt }
then_run_at q n n1 (Broken ls t w) go go' k a = record { same = refl; keeps = k }
then_run_at q n n1 (Continued ls t w) go go' k a = record { same = refl; keeps = k }

pub then_run_same : (q n n1 : ℕ) (x y : Ran) (go go' : List Slot → ℕ → World → Ran) → SameRun q n x y → SameRunFrom q n n1 go go' → SameRun q n1 (then_run x go) (then_run y go')
then_run_same q n n1 x y go go' h a =
    let p = then_run_at q n n1 y go go' h.keeps a in
    record { same = ap (λ z. then_run z go) h.same ∙ p.same; keeps = p.keeps }

caught_at : (q n : ℕ) (y : Ran) (go go' : List Slot → ℕ → World → Ran) → q ≤ n → RunKeeps q n y → SameRunFrom q q q go go' → SameRun q q (caught q y go) (caught q y go')
caught_at q n (Went ls t w) go go' h k a = a _ t _ (left_over q ls (omega (arith, k)))
caught_at q n (Returned v ls t w) go go' h k a = record { same = refl; keeps = tt }
caught_at q n (Halted f ls w) go go' h k a = record { same = refl; keeps = tt }
caught_at q n (Broken ls t w) go go' h k a = record { same = refl; keeps = left_over q ls k }
caught_at q n (Continued ls t w) go go' h k a = a _ t _ (left_over q ls k)

pub caught_same : (q n : ℕ) (x y : Ran) (go go' : List Slot → ℕ → World → Ran) → q ≤ n → SameRun q n x y → SameRunFrom q q q go go' → SameRun q q (caught q x go) (caught q y go')
caught_same q n x y go go' h p a =
    let r = caught_at q n y go go' h p.keeps a in
    record { same = ap (λ z. caught q z go) p.same ∙ r.same; keeps = r.keeps }

leave_keeps : (q n : ℕ) (y : Ran) → q ≤ n → RunKeeps q n y → RunKeeps q q (leave q y)
leave_keeps q n (Went ls t w) h k = left_over q ls (omega (arith, k))
leave_keeps q n (Returned v ls t w) h k = tt
leave_keeps q n (Halted f ls w) h k = tt
leave_keeps q n (Broken ls t w) h k = let e = left_over q ls k in omega (arith, e)
leave_keeps q n (Continued ls t w) h k = let e = left_over q ls k in omega (arith, e)

pub leave_same : (q n : ℕ) (x y : Ran) → q ≤ n → SameRun q n x y → SameRun q q (leave q x) (leave q y)
leave_same q n x y h p = record { same = ap (λ z. leave q z) p.same; keeps = leave_keeps q n y h p.keeps }

pub ticked_same : (q n t : ℕ) (out : Ran) (go go' : ℕ → Ran) → RunKeeps q n out → ((t' : ℕ) → SameRun q n (go t') (go' t')) → SameRun q n (ticked t out go) (ticked t out go')
ticked_same q n zero out go go' k a = record { same = refl; keeps = k }
ticked_same q n (suc t) out go go' k a = a t

pub test_run : (q n : ℕ) (v : Slot) (bad off on off' on' : Ran) → RunKeeps q n bad → SameRun q n off off' → SameRun q n on on' → SameRun q n (on_test v bad off on) (on_test v bad off' on')
test_run q n (Bits zero) bad off on off' on' k a b = a
test_run q n (Bits (suc x)) bad off on off' on' k a b = b
test_run q n (Script x) bad off on off' on' k a b = record { same = refl; keeps = k }
test_run q n (Host d x) bad off on off' on' k a b = record { same = refl; keeps = k }

-- ---- a block in a block

pub leave_leave : (n : ℕ) (o : Ran) → leave n (leave n o) ≡ leave n o
leave_leave n (Went ls t w) = ap (λ i. Went (drop_some i (drop_some (length ls - n) ls)) t (give_some i (drop_some (length ls - n) ls) (give_some (length ls - n) ls w))) (none_over n ls)
leave_leave n (Returned v ls t w) = ap (λ i. Returned v (drop_some i (drop_some (length ls - n) ls)) t (give_some i (drop_some (length ls - n) ls) (give_some (length ls - n) ls w))) (none_over n ls)
leave_leave n (Halted f ls w) = ap (λ i. Halted f (drop_some i (drop_some (length ls - n) ls)) (give_some i (drop_some (length ls - n) ls) (give_some (length ls - n) ls w))) (none_over n ls)
leave_leave n (Broken ls t w) = ap (λ i. Broken (drop_some i (drop_some (length ls - n) ls)) t (give_some i (drop_some (length ls - n) ls) (give_some (length ls - n) ls w))) (none_over n ls)
leave_leave n (Continued ls t w) = ap (λ i. Continued (drop_some i (drop_some (length ls - n) ls)) t (give_some i (drop_some (length ls - n) ls) (give_some (length ls - n) ls w))) (none_over n ls)

-- a loop's body in a block
pub caught_leave : (n : ℕ) (o : Ran) (go : List Slot → ℕ → World → Ran) → caught n (leave n o) go ≡ caught n o go
caught_leave n (Went ls t w) go = ap (λ i. go (drop_some i (drop_some (length ls - n) ls)) t (give_some i (drop_some (length ls - n) ls) (give_some (length ls - n) ls w))) (none_over n ls)
caught_leave n (Returned v ls t w) go = ap (λ i. Returned v (drop_some i (drop_some (length ls - n) ls)) t (give_some i (drop_some (length ls - n) ls) (give_some (length ls - n) ls w))) (none_over n ls)
caught_leave n (Halted f ls w) go = ap (λ i. Halted f (drop_some i (drop_some (length ls - n) ls)) (give_some i (drop_some (length ls - n) ls) (give_some (length ls - n) ls w))) (none_over n ls)
caught_leave n (Broken ls t w) go = ap (λ i. Went (drop_some i (drop_some (length ls - n) ls)) t (give_some i (drop_some (length ls - n) ls) (give_some (length ls - n) ls w))) (none_over n ls)
caught_leave n (Continued ls t w) go = ap (λ i. go (drop_some i (drop_some (length ls - n) ls)) t (give_some i (drop_some (length ls - n) ls) (give_some (length ls - n) ls w))) (none_over n ls)

-- ---- one statement and others after it

pub then_went : (o : Ran) → then_run o (λ ls t w. Went ls t w) ≡ o
then_went (Went ls t w) = refl
then_went (Returned v ls t w) = refl
then_went (Halted f ls w) = refl
then_went (Broken ls t w) = refl
then_went (Continued ls t w) = refl

pub then_then : (o : Ran) (f g : List Slot → ℕ → World → Ran) → then_run o (λ ls t w. then_run (f ls t w) g) ≡ then_run (then_run o f) g
then_then (Went ls t w) f g = refl
then_then (Returned v ls t w) f g = refl
then_then (Halted x ls w) f g = refl
then_then (Broken ls t w) f g = refl
then_then (Continued ls t w) f g = refl

pub then_value : (o : Evaluated) (f : Slot → List Slot → ℕ → World → Ran) (g : List Slot → ℕ → World → Ran)
    → then_run (with_value o f) g ≡ with_value o (λ v ls t w. then_run (f v ls t w) g)
then_value (Gave v ls t w) f g = refl
then_value (Failed x ls w) f g = refl

-- ---- the steps of a loop, which leave no pass and end with the locals that there were

abbrev pub Exact : ℕ → Ran → Type 0
Exact n (Went ls t w) = length ls ≡ n
Exact n (Returned v ls t w) = ⊥
Exact n (Halted f ls w) = length ls ≡ n
Exact n (Broken ls t w) = ⊥
Exact n (Continued ls t w) = ⊥

pub record SameSteps (n : ℕ) (x y : Ran) : Type 0 where
  pub same : x ≡ y
  pub keeps : Exact n y

pub leave_exact : (n : ℕ) (o : Ran) → Exact n o → leave n o ≡ o
leave_exact n (Went ls t w) e = let z : length ls - n ≡ 0 = omega (arith, e) in ap (λ i. Went (drop_some i ls) t (give_some i ls w)) z
leave_exact n (Returned v ls t w) e = absurd e
leave_exact n (Halted f ls w) e = let z : length ls - n ≡ 0 = omega (arith, e) in ap (λ i. Halted f (drop_some i ls) (give_some i ls w)) z
leave_exact n (Broken ls t w) e = absurd e
leave_exact n (Continued ls t w) e = absurd e

pub exact_keeps : (n : ℕ) (o : Ran) → Exact n o → RunKeeps n n o
exact_keeps n (Went ls t w) e = e
exact_keeps n (Returned v ls t w) e = tt
exact_keeps n (Halted f ls w) e = tt
exact_keeps n (Broken ls t w) e = absurd e
exact_keeps n (Continued ls t w) e = absurd e

pub discarded_exact : (n : ℕ) (y : Evaluated) → Keeps n y → Exact n (with_value y (λ v ls t w. Went ls t (give v w)))
discarded_exact n (Gave v ls t w) l = l
discarded_exact n (Failed f ls w) l = l

steps_at : (n : ℕ) (y : Ran) (go go' : List Slot → ℕ → World → Ran) → Exact n y → ((ls : List Slot) (t : ℕ) (w : World) → length ls ≡ n → SameSteps n (go ls t w) (go' ls t w)) → SameSteps n (then_run y go) (then_run y go')
steps_at n (Went ls t w) go go' e a = a ls t w e
steps_at n (Returned v ls t w) go go' e a = absurd e
steps_at n (Halted f ls w) go go' e a = record { same = refl; keeps = e }
steps_at n (Broken ls t w) go go' e a = absurd e
steps_at n (Continued ls t w) go go' e a = absurd e

pub steps_same : (n : ℕ) (x y : Ran) (go go' : List Slot → ℕ → World → Ran) → SameSteps n x y → ((ls : List Slot) (t : ℕ) (w : World) → length ls ≡ n → SameSteps n (go ls t w) (go' ls t w)) → SameSteps n (then_run x go) (then_run y go')
steps_same n x y go go' h a =
    let p = steps_at n y go go' h.keeps a in
    record { same = ap (λ z. then_run z go) h.same ∙ p.same; keeps = p.keeps }

-- The values of `&out` parameters move into their targets.
use Rattle.std.proofs.Common.{◌≡◌, ℕ, suc, ◌+◌, ◌<◌, ◌≤◌, ◌^◌, List, [], ◌∷◌, ◌++◌, length, Option, Some, refl, sym, ap, ◌∙◌, subst, arith, append_assoc, length-append}
use Rattle.std.specs.Prelude.{slice_get}
use Rattle.ang_kinds.specs.declared.primitive.Primitive.{Primitive}
use Rattle.ang_meaning.specs.declared.slot.Slot.{Slot}
use Rattle.ang_meaning.specs.declared.routine.Spot.{Spot}
use Rattle.ang_meaning.specs.declared.routine.Spot.TheVariants as spot
use Rattle.ang_meaning.specs.declared.routine.Target.{Target}
use Rattle.ang_meaning.specs.World.{World}
use Rattle.ang_meaning.specs.Environment.{Environment}
use Rattle.ang_meaning.specs.Perform.{global_or, global_put, member_or, member_put}
use Rattle.ang_meaning.specs.Results.{local_at, local_set, drop_some, give_back, brought, trade, Settled, settled, with_outs}
use Rattle.ang_core.specs.Sound.{IsSpot, AreSpots}
use Rattle.ang_code.specs.declared.instruction.Instruction.TheVariants.{Swap, SwapGlobal, SwapField, DropUnder}
use Rattle.ang_code.specs.Machine.{Texts, Config, At, take_some, within}
use Rattle.ang_code.proofs.Steps.{HasAt, has_front, has_back, Comes, comes_to, then_step, within_on, enough_on}
use Rattle.ang_gen.specs.Code.{place_above, swap_at, swaps_code, outs_code}
use Rattle.ang_gen.proofs.Stacks.{local_seam, set_seam, local_under, set_under, length_set, take_front, drop_front, none_long}
use Rattle.ang_gen.proofs.Relate.{Running, at, EvalGoes}
use Rattle.ang_gen.proofs.Counted.{placed}

flat : (pre : List Slot) (y : Slot) (olds s q : List Slot) → pre ++ (y ∷ (olds ++ (s ++ q))) ≡ (pre ++ (y ∷ (olds ++ s))) ++ q
flat pre y olds s q = sym (append_assoc pre (y ∷ (olds ++ s)) q ∙ ap (λ l. pre ++ (y ∷ l)) (append_assoc olds s q))

one_more : (pre : List Slot) (o : Slot) (q : List Slot) → pre ++ (o ∷ q) ≡ (pre ++ (o ∷ [])) ++ q
one_more pre o q = sym (append_assoc pre (o ∷ []) q)

-- what was settled, below the values pre and above s
abbrev pub SettledGoes : Environment → Texts → Running → Config → ℕ → List Slot → List Slot → ℕ → ℕ → ℕ → Settled → Type 0
SettledGoes z code r start pc' pre s n k t q = Comes z code start (at r pc' (pre ++ (q.olds ++ (s ++ (q.locals ++ r.below)))) t q.world) × (length q.locals ≡ n) × (length q.olds ≡ k)

module _ (z : Environment) (code : Texts) (r : Running) where
  -- one value that lies below pre changes places with its target
  swap_by : (to : Option Primitive) (sp : Spot) (start : Config) (pc u base n k t : ℕ) (o : Slot) (pre s : List Slot) (q : Settled) → slice_get (code.text r.of) pc ≡ Some (swap_at to u base sp) → IsSpot n sp → base + n < 2 ^ 64 → u ≡ length pre → base ≡ length pre + 1 + k + length s → SettledGoes z code r start pc (pre ++ (o ∷ [])) s n k t q →
      SettledGoes z code r start (pc + 1) pre s n (suc k) t (record { olds = (trade r.of.home sp (brought to o) q.locals q.world).old ∷ q.olds; locals = (trade r.of.home sp (brought to o) q.locals q.world).locals; world = (trade r.of.home sp (brought to o) q.locals q.world).world })
  swap_by to (spot.Local i) start pc u base n k t o pre s q has ok few eu eb p =
      let d = place_above base i in
      let d_is : d ≡ base + i = placed base i (omega (arith, ok, few)) in
      let ls = q.locals in
      let v = brought to o in
      let rest = q.olds ++ (s ++ (ls ++ r.below)) in
      let stack = pre ++ (o ∷ rest) in
      let old = local_at ls i in
      let p0 = comes_to z code start _ (at r pc stack t q.world) p.0 (ap (λ l. at r pc l t q.world) (sym (one_more pre o rest))) in
      let long1 = length-append pre (o ∷ rest) in
      let long2 = length-append q.olds (s ++ (ls ++ r.below)) in
      let long3 = length-append s (ls ++ r.below) in
      let long4 = length-append ls r.below in
      let deep : d < length stack = omega (arith, d_is, long1, long2, long3, long4, p.1, p.2) in
      let under_in : u < length stack = omega (arith, long1) in
      let inside : i < length ls = omega (arith, p.1) in
      let at_u : local_at stack u ≡ o = ap (λ j. local_at stack j) eu ∙ local_seam pre o rest in
      let far : (y : Slot) → d ≡ length (pre ++ (y ∷ (q.olds ++ s))) + i = λ y. omega (arith, d_is, length-append pre (y ∷ (q.olds ++ s)), length-append q.olds s, p.2) in
      let at_d : local_at stack d ≡ old = ap (λ l. local_at l d) (flat pre o q.olds s (ls ++ r.below)) ∙ local_under (pre ++ (o ∷ (q.olds ++ s))) ls r.below i d inside (far o) in
      let set_u : local_set stack u old ≡ pre ++ (old ∷ rest) = ap (λ j. local_set stack j old) eu ∙ set_seam pre o rest old in
      let set_d : local_set (pre ++ (old ∷ rest)) d v ≡ pre ++ (old ∷ (q.olds ++ (s ++ (local_set ls i v ++ r.below)))) =
      ap (λ l. local_set l d v) (flat pre old q.olds s (ls ++ r.below)) ∙ set_under (pre ++ (old ∷ (q.olds ++ s))) ls r.below i d v inside (far old)
      ∙ sym (flat pre old q.olds s (local_set ls i v ++ r.below)) in
      let go = λ (x y : Slot). At r.of (pc + 1) r.room (local_set (local_set stack u x) d (brought to y)) r.callers t q.world in
      let step1 = then_step z code start r.of pc r.room stack r.callers t q.world (Swap to u d) has p0 in (
        comes_to z code start _ _ step1
            (within_on u stack (within d stack (go (local_at stack d) (local_at stack u))) under_in ∙ within_on d stack (go (local_at stack d) (local_at stack u)) deep
            ∙ ap (λ x. go x (local_at stack u)) at_d ∙ ap (λ y. go old y) at_u
            ∙ ap (λ l. At r.of (pc + 1) r.room (local_set l d v) r.callers t q.world) set_u
            ∙ ap (λ l. At r.of (pc + 1) r.room l r.callers t q.world) set_d),
        length_set ls i v ∙ p.1,
        ap suc p.2,
      )
  swap_by to (spot.Global g) start pc u base n k t o pre s q has ok few eu eb p =
      let ls = q.locals in
      let m = r.of.home in
      let v = brought to o in
      let rest = q.olds ++ (s ++ (ls ++ r.below)) in
      let stack = pre ++ (o ∷ rest) in
      let p0 = comes_to z code start _ (at r pc stack t q.world) p.0 (ap (λ l. at r pc l t q.world) (sym (one_more pre o rest))) in
      let under_in : u < length stack = omega (arith, length-append pre (o ∷ rest)) in
      let at_u : local_at stack u ≡ o = ap (λ j. local_at stack j) eu ∙ local_seam pre o rest in
      let old = global_or m g v q.world in
      let set_u : local_set stack u old ≡ pre ++ (old ∷ rest) = ap (λ j. local_set stack j old) eu ∙ set_seam pre o rest old in
      let go = λ (y : Slot). At r.of (pc + 1) r.room (local_set stack u (global_or m g (brought to y) q.world)) r.callers t (global_put m g (brought to y) q.world) in
      let step1 = then_step z code start r.of pc r.room stack r.callers t q.world (SwapGlobal to u g) has p0 in (
        comes_to z code start _ _ step1
            (within_on u stack (go (local_at stack u)) under_in ∙ ap (λ y. go y) at_u
            ∙ ap (λ l. At r.of (pc + 1) r.room l r.callers t (global_put m g v q.world)) set_u),
        p.1,
        ap suc p.2,
      )
  swap_by to (spot.Field x i) start pc u base n k t o pre s q has ok few eu eb p =
      let d = place_above base x in
      let d_is : d ≡ base + x = placed base x (omega (arith, ok, few)) in
      let ls = q.locals in
      let v = brought to o in
      let rest = q.olds ++ (s ++ (ls ++ r.below)) in
      let stack = pre ++ (o ∷ rest) in
      let object = local_at ls x in
      let p0 = comes_to z code start _ (at r pc stack t q.world) p.0 (ap (λ l. at r pc l t q.world) (sym (one_more pre o rest))) in
      let long1 = length-append pre (o ∷ rest) in
      let long2 = length-append q.olds (s ++ (ls ++ r.below)) in
      let long3 = length-append s (ls ++ r.below) in
      let long4 = length-append ls r.below in
      let deep : d < length stack = omega (arith, d_is, long1, long2, long3, long4, p.1, p.2) in
      let under_in : u < length stack = omega (arith, long1) in
      let inside : x < length ls = omega (arith, p.1) in
      let at_u : local_at stack u ≡ o = ap (λ j. local_at stack j) eu ∙ local_seam pre o rest in
      let far : d ≡ length (pre ++ (o ∷ (q.olds ++ s))) + x = omega (arith, d_is, length-append pre (o ∷ (q.olds ++ s)), length-append q.olds s, p.2) in
      let at_d : local_at stack d ≡ object = ap (λ l. local_at l d) (flat pre o q.olds s (ls ++ r.below)) ∙ local_under (pre ++ (o ∷ (q.olds ++ s))) ls r.below x d inside far in
      let old = member_or i object v q.world in
      let set_u : local_set stack u old ≡ pre ++ (old ∷ rest) = ap (λ j. local_set stack j old) eu ∙ set_seam pre o rest old in
      let go = λ (a b : Slot). At r.of (pc + 1) r.room (local_set stack u (member_or i a (brought to b) q.world)) r.callers t (member_put i a (brought to b) q.world) in
      let step1 = then_step z code start r.of pc r.room stack r.callers t q.world (SwapField to u d i) has p0 in (
        comes_to z code start _ _ step1
            (within_on u stack (within d stack (go (local_at stack d) (local_at stack u))) under_in ∙ within_on d stack (go (local_at stack d) (local_at stack u)) deep
            ∙ ap (λ a. go a (local_at stack u)) at_d ∙ ap (λ b. go object b) at_u
            ∙ ap (λ l. At r.of (pc + 1) r.room l r.callers t (member_put i object v q.world)) set_u),
        p.1,
        ap suc p.2,
      )

  -- all of them, the deepest first
  swaps_go : (xs : List Target) (start : Config) (pc u base t : ℕ) (pre outs s ls : List Slot) (w : World) → HasAt (code.text r.of) pc (swaps_code u base xs) → AreSpots (length ls) xs → base + length ls < 2 ^ 64 → length outs ≡ length xs → u ≡ length pre → base ≡ length pre + length xs + length s → Comes z code start (at r pc (pre ++ (outs ++ (s ++ (ls ++ r.below)))) t w) →
      SettledGoes z code r start (pc + length (swaps_code u base xs)) pre s (length ls) (length xs) t (settled r.of.home xs outs ls w)
  swaps_go [] start pc u base t pre [] s ls w has ok few e eu eb p = (comes_to z code start _ _ p (let same : pc ≡ pc + 0 = omega arith in ap (λ j. at r j (pre ++ (s ++ (ls ++ r.below))) t w) same), refl, refl)
  swaps_go [] start pc u base t pre (o ∷ outs) s ls w has ok few e eu eb p = absurd (omega arith)
  swaps_go (x ∷ xs) start pc u base t pre [] s ls w has ok few e eu eb p = absurd (omega arith)
  swaps_go (x ∷ xs) start pc u base t pre (o ∷ outs) s ls w has ok few e eu eb p =
      let inner = swaps_code (suc u) base xs in
      let long = length-append pre (o ∷ []) in
      let p0 = comes_to z code start _ _ p (ap (λ l. at r pc l t w) (one_more pre o (outs ++ (s ++ (ls ++ r.below))))) in
      let q = swaps_go xs start pc (suc u) base t (pre ++ (o ∷ [])) outs s ls w (has_front (code.text r.of) pc inner _ has) ok.1 few (omega arith) (omega (arith, long)) (omega (arith, long)) p0 in
      let done = swap_by x.to x.spot start (pc + length inner) u base (length ls) (length xs) t o pre s (settled r.of.home xs outs ls w) (has_back (code.text r.of) pc inner _ has).0 ok.0 few eu (omega arith) q in
      let len : pc + length inner + 1 ≡ pc + length (inner ++ swap_at x.to u base x.spot ∷ []) = omega (arith, length-append inner (swap_at x.to u base x.spot ∷ [])) in
      subst (λ j. SettledGoes z code r start j pre s (length ls) (suc (length xs)) t (settled r.of.home (x ∷ xs) (o ∷ outs) ls w)) len done

  -- the old values are given up
  dropped_goes : (start : Config) (pc n k t : ℕ) (v : Slot) (s : List Slot) (q : Settled) → slice_get (code.text r.of) pc ≡ Some (DropUnder k) → SettledGoes z code r start pc (v ∷ []) s n k t q → EvalGoes z code r start (pc + 1) s n t (with_outs v q t)
  dropped_goes start pc n k t v s q has p =
      let rest = s ++ (q.locals ++ r.below) in
      let stack = q.olds ++ rest in
      let k_is : k ≡ length q.olds = sym p.2 in
      let there : k ≤ length stack = omega (arith, length-append q.olds rest) in
      let step1 = then_step z code start r.of pc r.room (v ∷ stack) r.callers t q.world (DropUnder k) has p.0 in (
        comes_to z code start _ _ step1
            (enough_on k stack _ there
            ∙ ap (λ j. At r.of (pc + 1) r.room (v ∷ drop_some j stack) r.callers t (give_back (take_some j stack) q.world)) k_is
            ∙ ap (λ l. At r.of (pc + 1) r.room (v ∷ l) r.callers t (give_back (take_some (length q.olds) stack) q.world)) (drop_front q.olds rest)
            ∙ ap (λ l. At r.of (pc + 1) r.room (v ∷ rest) r.callers t (give_back l q.world)) (take_front q.olds rest)),
        p.1,
        omega arith,
      )

  pub outs_go : (xs : List Target) (start : Config) (pc t : ℕ) (v : Slot) (outs s ls : List Slot) (w : World) → HasAt (code.text r.of) pc (outs_code (length s) xs) → AreSpots (length ls) xs → 1 + length xs + length s + length ls < 2 ^ 64 → length outs ≡ length xs → Comes z code start (at r pc (v ∷ (outs ++ (s ++ (ls ++ r.below)))) t w) →
      EvalGoes z code r start (pc + length (outs_code (length s) xs)) s (length ls) t (with_outs v (settled r.of.home xs outs ls w) t)
  outs_go [] start pc t v outs s ls w has ok few e p =
      let none = none_long outs e in (
        comes_to z code start _ _ p
            (ap (λ l. at r pc (v ∷ (l ++ (s ++ (ls ++ r.below)))) t w) none
            ∙ (let same : pc ≡ pc + 0 = omega arith in ap (λ j. at r j (v ∷ (s ++ (ls ++ r.below))) t w) same)),
        refl,
        omega arith,
      )
  outs_go (x ∷ xs) start pc t v outs s ls w has ok few e p =
      let k = length (x ∷ xs) in
      let swaps = swaps_code 1 (1 + k + length s) (x ∷ xs) in
      let q = swaps_go (x ∷ xs) start pc 1 (1 + k + length s) t (v ∷ []) outs s ls w (has_front (code.text r.of) pc swaps _ has) ok few e refl (omega arith) p in
      let done = dropped_goes start (pc + length swaps) (length ls) k t v s (settled r.of.home (x ∷ xs) outs ls w) (has_back (code.text r.of) pc swaps _ has).0 q in
      let len : pc + length swaps + 1 ≡ pc + length (swaps ++ DropUnder k ∷ []) = omega (arith, length-append swaps (DropUnder k ∷ [])) in
      subst (λ j. EvalGoes z code r start j s (length ls) t (with_outs v (settled r.of.home (x ∷ xs) outs ls w) t)) len done

-- Numbers of builds, and what they say of functions that were looked up before.
use Rattle.std.proofs.Common.{◌≡◌, ◌≤◌, ◌+◌, refl, ap, sym, ◌∙◌, subst, arith, ◌⊎◌, inl, inr, ℕ, zero, suc, Bool, true, false, List, [], ◌∷◌, Option, Some, None, Ok, Err}
use Rattle.std.specs.Prelude.{◌==◌, ◌≢◌, if◌then◌else◌, Result, IfErr, slice_index_or, slice_set}
use Rattle.std.proofs.lemmas.Bool.{eqb-true, eq-eqb, false_from_ne_true}
use Rattle.std.proofs.lemmas.Bool.Decides.{eqb_tells}
use Rattle.ang_host.specs.declared.event.HostEvent.{HostEvent}
use Rattle.ang_engine_modules.specs.declared.module.Module.{Module}
use Rattle.ang_engine_modules.specs.declared.module.ModuleList.{ModuleList}
use Rattle.ang_engine_modules.specs.States.{build_in as number_of, build_at, HaveSameBuilds}
use Rattle.ang_engine.specs.declared.building.BuildRefused.{BuildRefused}
use Rattle.ang_engine.specs.declared.building.BuildRefused.TheVariants as why
use Rattle.ang_engine.specs.declared.prepared.Prepared.{Prepared}
use Rattle.ang_engine.specs.Outcomes.{IsBegun, reply_to_build}
use Rattle.ang_engine.specs.Prepared.{place_in, build_in, is_build, is_there, has_begun, HaveMoved}
use Rattle.ang_engine.specs.Sound.{AreNumbered}
use Rattle.ang_engine.proofs.Checks.{set_others}

-- what was looked up in a module that is there is there
pub found_there : (builds : ℕ → Option ℕ) (p : Prepared) → builds (place_in p) ≡ Some (build_in p) → is_there builds p ≡ true
found_there builds p at = ap (is_build (build_in p)) at ∙ eq-eqb (build_in p) (build_in p) refl

-- ---- no build

pub nothing_built : (x : ModuleList) → HaveSameBuilds x x
nothing_built x = record { count = refl; each = λ i. refl }

no_number : (i b : ℕ) → build_at [] i ≡ Some b → ⊥
no_number i b at = cc

pub no_numbers : (x : ModuleList) → x.places.items ≡ [] → AreNumbered x
no_numbers x e = record { begun = λ i b at. absurd (no_number i b (sym (ap (λ l. build_at l i) e) ∙ at)) }

pub same_numbers : (x y : ModuleList) → HaveSameBuilds x y → AreNumbered x → AreNumbered y
same_numbers x y same h = record { begun = λ i b at. subst (λ n. b ≤ n) (sym same.count) (h.begun i b (sym (same.each i) ∙ at)) }

pub same_moved : (x y : ModuleList) (one : Option ℕ) → one ≡ None → HaveSameBuilds x y → HaveMoved one x.builds (build_at x.places.items) y.builds (build_at y.places.items)
same_moved x y one none same = record {
  count = omega (arith, same.count);
  lost = λ p e le. absurd (cc);
  kept = λ p ne. ap (is_build (build_in p)) (same.each (place_in p));
}

-- ---- one module that is built or discarded

pub set_builds : (xs : List (Option Module)) (home : ℕ) (n : Option Module) (i : ℕ) → (i ≡ home → ⊥) → build_at (slice_set xs home n) i ≡ build_at xs i
set_builds xs home n i ne = ap number_of (set_others xs home n None i ne)

left_empty : (xs : List (Option Module)) (i : ℕ) → build_at (slice_set xs i None) i ≡ None
left_empty [] i = refl
left_empty (x ∷ xs) zero = refl
left_empty (x ∷ xs) (suc i) = left_empty xs i

module _ (x y : ModuleList) (home : ℕ) (others : (i : ℕ) → (i ≡ home → ⊥) → build_at y.places.items i ≡ build_at x.places.items i) (count : x.builds ≤ y.builds) where
  numbered_at : ((b : ℕ) → build_at y.places.items home ≡ Some b → b ≤ y.builds) → AreNumbered x → (i b : ℕ) → build_at y.places.items i ≡ Some b
      → (((i == home) ≡ true) × (i ≡ home)) ⊎ (((i == home) ≡ false) × (i ≢ home)) → b ≤ y.builds
  numbered_at here h i b at (inl p) = here b (sym (ap (λ k. build_at y.places.items k) p.1) ∙ at)
  numbered_at here h i b at (inr p) = let le : b ≤ x.builds = h.begun i b (sym (others i p.1) ∙ at) in omega (arith, le, count)

  numbered_by : ((b : ℕ) → build_at y.places.items home ≡ Some b → b ≤ y.builds) → AreNumbered x → AreNumbered y
  numbered_by here h = record { begun = λ i b at. numbered_at here h i b at (eqb_tells i home) }

  moved_by : ((k : ℕ) → k ≤ x.builds → is_build k (build_at y.places.items home) ≡ false) → HaveMoved (Some home) x.builds (build_at x.places.items) y.builds (build_at y.places.items)
  moved_by here = record {
    count = count;
    lost = λ p e le.
        let same : home ≡ place_in p = cc in
        subst (λ i. is_build (build_in p) (build_at y.places.items i) ≡ false) same (here (build_in p) le);
    kept = λ p ne. ap (is_build (build_in p)) (others (place_in p) (λ e. ne (ap Some (sym e))));
  }

-- it has the number of a build that is new
module _ (x y : ModuleList) (home : ℕ) (others : (i : ℕ) → (i ≡ home → ⊥) → build_at y.places.items i ≡ build_at x.places.items i) (count : y.builds ≡ x.builds + 1)
    (at : build_at y.places.items home ≡ Some y.builds) where
  own_number : (b : ℕ) → build_at y.places.items home ≡ Some b → b ≤ y.builds
  own_number b e = let same : b ≡ y.builds = cc in omega (arith, same)

  pub begun_numbers : AreNumbered x → AreNumbered y
  begun_numbers h = numbered_by x y home others (omega (arith, count)) own_number h

  another : (k : ℕ) → k ≤ x.builds → (y.builds == k) ≡ false
  another k le = false_from_ne_true (y.builds == k) (λ e. absurd (omega (arith, eqb-true y.builds k e, le, count)))

  pub begun_moved : HaveMoved (Some home) x.builds (build_at x.places.items) y.builds (build_at y.places.items)
  begun_moved = moved_by x y home others (omega (arith, count)) (λ k le. ap (is_build k) at ∙ another k le)

-- its place is empty
module _ (x y : ModuleList) (home : ℕ) (places : y.places.items ≡ slice_set x.places.items home None) (count : y.builds ≡ x.builds) where
  gone_others : (i : ℕ) → (i ≡ home → ⊥) → build_at y.places.items i ≡ build_at x.places.items i
  gone_others i ne = ap (λ l. build_at l i) places ∙ set_builds x.places.items home None i ne

  gone_at : build_at y.places.items home ≡ None
  gone_at = ap (λ l. build_at l home) places ∙ left_empty x.places.items home

  no_own : (b : ℕ) → build_at y.places.items home ≡ Some b → ⊥
  no_own b e = let n : None ≡ Some b = sym gone_at ∙ e in cc

  pub gone_numbers : AreNumbered x → AreNumbered y
  gone_numbers h = numbered_by x y home gone_others (omega (arith, count)) (λ b e. absurd (no_own b e)) h

  pub gone_moved : HaveMoved (Some home) x.builds (build_at x.places.items) y.builds (build_at y.places.items)
  gone_moved = moved_by x y home gone_others (omega (arith, count)) (λ k le. ap (is_build k) gone_at)

-- ---- the command

begun_reply : {U : Type 0} (r : Result U BuildRefused) (es : List HostEvent) → IfErr r IsBegun → has_begun (reply_to_build r es).outcome ≡ true
begun_reply (Ok u) es h = refl
begun_reply (Err (why.Before refusal)) es h = absurd h
begun_reply (Err why.Memory) es h = refl
begun_reply (Err (why.Errors errors ds)) es h = refl
begun_reply (Err (why.Initializer f)) es h = refl

chosen : (b : Bool) (o : Option ℕ) (home : ℕ) → b ≡ true → Some home ≡ o → (if b then o else None) ≡ Some home
chosen b o home begun found = ap (λ c. if c then o else None) begun ∙ sym found

-- a build that has begun is of the module that was found
pub begun_one : {U : Type 0} (r : Result U BuildRefused) (es : List HostEvent) (o : Option ℕ) (home : ℕ) → IfErr r IsBegun → Some home ≡ o
    → (if (has_begun (reply_to_build r es).outcome) then o else None) ≡ Some home
begun_one r es o home begun found = chosen (has_begun (reply_to_build r es).outcome) o home (begun_reply r es begun) found

-- The order of an engine's modules: it has the number of each once, and so there are as many modules as it has numbers.
use Rattle.std.proofs.Common.{◌≡◌, ◌≢◌, ◌≤◌, ◌<◌, ◌+◌, refl, sym, ap, ◌∙◌, subst, inl, inr, arith, ℕ, zero, suc, Bool, true, false, List, [], ◌∷◌, ◌++◌, length, map, Option, Some, None}
use Rattle.std.specs.Prelude.{◌⊎◌, ◌==◌, IsSome, cond, filter, not, is_some, is_none, option_map, position, slice_get, slice_set, if◌then◌else◌}
use Rattle.std.proofs.lemmas.Bool.{eq-eqb, eqb-true}
use Rattle.std.proofs.lemmas.List.{length-append, length-map}
use Rattle.std.proofs.lemmas.Option.{slice_get_within, get_or_from_slice_get}
use Rattle.ang_engine_modules.specs.World.{ModuleState, ModuleStates, unbound_module}
use Rattle.ang_engine_modules.proofs.Finding.{none_passes}
use Rattle.ang_engine_modules.proofs.PlaceLists.{set_at, set_length}
use Rattle.ang_alike.proofs.ByNumber.{at_more, at_unbound, set_either}
use Rattle.ang_alike.proofs.MovedPlaces.{same_or_not, differs, index_other}
use Rattle.ang_alike.proofs.MovedKept.{AllHold, all_last, all_still, all_left, places_at, put_stays, gone_stays, unbound_stays}

-- ---- how often a number is in a list

abbrev pub how_often : ℕ → List ℕ → ℕ
how_often n [] = 0
how_often n (k ∷ ks) = if k == n then suc (how_often n ks) else how_often n ks

abbrev others : ℕ → List ℕ → List ℕ
others i ks = filter (λ j. not (j == i)) ks

one_more : (b : Bool) (x y : ℕ) → x ≡ suc y → (if b then suc x else x) ≡ suc (if b then suc y else y)
one_more true x y e = ap suc e
one_more false x y e = e

often_new : (n k : ℕ) (ks : List ℕ) → k ≡ n → how_often n (ks ++ k ∷ []) ≡ suc (how_often n ks)
often_new n k [] e = ap (λ b. if b then suc zero else zero) (eq-eqb k n e)
often_new n k (j ∷ ks) e = one_more (j == n) (how_often n (ks ++ k ∷ [])) (how_often n ks) (often_new n k ks e)

often_same : (n k : ℕ) (ks : List ℕ) → k ≢ n → how_often n (ks ++ k ∷ []) ≡ how_often n ks
often_same n k [] d = ap (λ b. if b then suc zero else zero) (differs k n d)
often_same n k (j ∷ ks) d = ap (λ x. if j == n then suc x else x) (often_same n k ks d)

gone_by : (i j : ℕ) (ks : List ℕ) (b : Bool) → (j == i) ≡ b → how_often i ks ≡ 0 → how_often i (cond (not b) (j ∷ ks) ks) ≡ 0
gone_by i j ks true e h = h
gone_by i j ks false e h = ap (λ c. if c then suc (how_often i ks) else how_often i ks) e ∙ h

often_gone : (i : ℕ) (ks : List ℕ) → how_often i (others i ks) ≡ 0
often_gone i [] = refl
often_gone i (j ∷ ks) = gone_by i j (others i ks) (j == i) refl (often_gone i ks)

other_by : (n i j : ℕ) (ls ks : List ℕ) (b : Bool) → (j == i) ≡ b → n ≢ i → how_often n ls ≡ how_often n ks → how_often n (cond (not b) (j ∷ ls) ls) ≡ how_often n (j ∷ ks)
other_by n i j ls ks true e d h =
    h ∙ sym (ap (λ c. if c then suc (how_often n ks) else how_often n ks) (differs j n (λ s. d (sym s ∙ eqb-true j i e))))
other_by n i j ls ks false e d h = ap (λ x. if j == n then suc x else x) h

often_other : (n i : ℕ) (ks : List ℕ) → n ≢ i → how_often n (others i ks) ≡ how_often n ks
often_other n i [] d = refl
often_other n i (j ∷ ks) d = other_by n i j (others i ks) ks (j == i) refl d (often_other n i ks d)

long_by : (i j : ℕ) (ls ks : List ℕ) (b : Bool) → length ls + how_often i ks ≡ length ks
    → length (cond (not b) (j ∷ ls) ls) + (if b then suc (how_often i ks) else how_often i ks) ≡ suc (length ks)
long_by i j ls ks true h = omega (arith, h)
long_by i j ls ks false h = omega (arith, h)

often_long : (i : ℕ) (ks : List ℕ) → length (others i ks) + how_often i ks ≡ length ks
often_long i [] = refl
often_long i (j ∷ ks) = long_by i j (others i ks) ks (j == i) (often_long i ks)

-- ---- how many modules there are

abbrev pub one_if : Option ModuleState → ℕ
one_if None = 0
one_if (Some m) = 1

abbrev pub occupied : List (Option ModuleState) → ℕ
occupied [] = 0
occupied (None ∷ ps) = occupied ps
occupied (Some m ∷ ps) = suc (occupied ps)

one_there : (o : Option ModuleState) → IsSome o → one_if o ≡ 1
one_there None e = absurd (let q : ⊥ = cc in q)
one_there (Some m) e = refl

one_unbound : (i : ℕ) (o : Option ModuleState) → one_if (option_map (unbound_module i) o) ≡ one_if o
one_unbound i None = refl
one_unbound i (Some m) = refl

occupied_put : (ps : List (Option ModuleState)) (i : ℕ) (x : ModuleState) → IsSome (places_at ps i) → occupied (slice_set ps i (Some x)) ≡ occupied ps
occupied_put [] i x h = refl
occupied_put (None ∷ ps) zero x h = absurd (let q : ⊥ = cc in q)
occupied_put (Some m ∷ ps) zero x h = refl
occupied_put (None ∷ ps) (suc i) x h = occupied_put ps i x h
occupied_put (Some m ∷ ps) (suc i) x h = ap suc (occupied_put ps i x h)

occupied_gone : (ps : List (Option ModuleState)) (i : ℕ) → IsSome (places_at ps i) → suc (occupied (slice_set ps i None)) ≡ occupied ps
occupied_gone [] i h = absurd (let q : ⊥ = cc in q)
occupied_gone (None ∷ ps) zero h = absurd (let q : ⊥ = cc in q)
occupied_gone (Some m ∷ ps) zero h = refl
occupied_gone (None ∷ ps) (suc i) h = occupied_gone ps i h
occupied_gone (Some m ∷ ps) (suc i) h = ap suc (occupied_gone ps i h)

occupied_new : (ps : List (Option ModuleState)) (k : ℕ) (x : ModuleState) → slice_get ps k ≡ Some None → occupied (slice_set ps k (Some x)) ≡ suc (occupied ps)
occupied_new [] k x h = absurd (let q : ⊥ = cc in q)
occupied_new (None ∷ ps) zero x h = refl
occupied_new (Some m ∷ ps) zero x h = absurd (let q : ⊥ = cc in q)
occupied_new (None ∷ ps) (suc k) x h = occupied_new ps k x h
occupied_new (Some m ∷ ps) (suc k) x h = ap suc (occupied_new ps k x h)

occupied_more : (ps : List (Option ModuleState)) → occupied (ps ++ None ∷ []) ≡ occupied ps
occupied_more [] = refl
occupied_more (None ∷ ps) = occupied_more ps
occupied_more (Some m ∷ ps) = ap suc (occupied_more ps)

occupied_unbound : (i : ℕ) (ps : List (Option ModuleState)) → occupied (map (option_map (unbound_module i)) ps) ≡ occupied ps
occupied_unbound i [] = refl
occupied_unbound i (None ∷ ps) = occupied_unbound i ps
occupied_unbound i (Some m ∷ ps) = ap suc (occupied_unbound i ps)

occupied_most : (ps : List (Option ModuleState)) → occupied ps ≤ length ps
occupied_most [] = omega arith
occupied_most (None ∷ ps) = omega (arith, occupied_most ps)
occupied_most (Some m ∷ ps) = omega (arith, occupied_most ps)

-- fewer than places, where one is empty
pub occupied_less : (ps : List (Option ModuleState)) (k : ℕ) → slice_get ps k ≡ Some None → occupied ps < length ps
occupied_less [] k h = absurd (let q : ⊥ = cc in q)
occupied_less (None ∷ ps) zero h = omega (arith, occupied_most ps)
occupied_less (Some m ∷ ps) zero h = absurd (let q : ⊥ = cc in q)
occupied_less (None ∷ ps) (suc k) h = omega (arith, occupied_less ps k h)
occupied_less (Some m ∷ ps) (suc k) h = omega (arith, occupied_less ps k h)

full_by : (ps : List (Option ModuleState)) → ((j : ℕ) (o : Option ModuleState) → slice_get ps j ≡ Some o → is_none o ≡ false) → occupied ps ≡ length ps
full_by [] h = refl
full_by (None ∷ ps) h = absurd (let s : true ≡ false = h zero None refl in let q : ⊥ = cc in q)
full_by (Some m ∷ ps) h = ap suc (full_by ps (λ j o e. h (suc j) o e))

-- as many as places, where none is empty
pub occupied_full : (ps : List (Option ModuleState)) → position is_none ps ≡ None → occupied ps ≡ length ps
occupied_full ps e = full_by ps (λ j o at. none_passes is_none ps j o e at)

-- ---- what is kept

-- The order has the number of each module once, and of no empty place, and there are at most 64 places.
pub record AreOrdered (ms : ModuleStates) : Type 0 where
  pub listed : AllHold (λ n. IsSome (places_at ms.places n)) ms.order
  pub times : (n : ℕ) → how_often n ms.order ≡ one_if (places_at ms.places n)
  pub count : length ms.order ≡ occupied ms.places
  pub few : length ms.places ≤ 64

one_put : (ps : List (Option ModuleState)) (i : ℕ) (x : ModuleState) (n : ℕ) → IsSome (places_at ps i) → one_if (places_at (slice_set ps i (Some x)) n) ≡ one_if (places_at ps n)
one_put ps i x n h = elim (set_either ps i n (Some x) None) [
  | inl e ↦ ap one_if e
  | inr e ↦ ap one_if e.1 ∙ sym (ap (λ k. one_if (places_at ps k)) e.0 ∙ one_there (places_at ps i) h)
]

-- a module in place of another one
pub ordered_put : (ms : ModuleStates) (i : ℕ) (x : ModuleState) → AreOrdered ms → IsSome (places_at ms.places i) → AreOrdered (record ms { places = slice_set ms.places i (Some x) })
ordered_put ms i x h there = record {
  listed = all_still (λ n. IsSome (places_at ms.places n)) (λ n. IsSome (places_at (slice_set ms.places i (Some x)) n)) ms.order (put_stays ms.places i x) h.listed;
  times = λ n. h.times n ∙ sym (one_put ms.places i x n there);
  count = h.count ∙ sym (occupied_put ms.places i x there);
  few = omega (arith, h.few, set_length ms.places i (Some x));
}

pub ordered_unbound : (ms : ModuleStates) (i : ℕ) → AreOrdered ms → AreOrdered (record ms { places = map (option_map (unbound_module i)) ms.places })
ordered_unbound ms i h =
    let ps : List (Option ModuleState) = map (option_map (unbound_module i)) ms.places in
    record {
      listed = all_still (λ n. IsSome (places_at ms.places n)) (λ n. IsSome (places_at ps n)) ms.order (unbound_stays ms.places i) h.listed;
      times = λ n. h.times n ∙ sym (ap one_if (at_unbound ms.places i n) ∙ one_unbound i (places_at ms.places n));
      count = h.count ∙ sym (occupied_unbound i ms.places);
      few = omega (arith, h.few, length-map ms.places (option_map (unbound_module i)));
    }

-- a module is gone
module _ (ms : ModuleStates) (i : ℕ) (h : AreOrdered ms) (within : i < length ms.places) (there : IsSome (places_at ms.places i)) where
  abbrev left : List (Option ModuleState)
  left = slice_set ms.places i None

  times_by : (n : ℕ) → (n ≡ i) ⊎ (n ≢ i) → how_often n (others i ms.order) ≡ one_if (places_at left n)
  times_by n (inl e) =
      subst (λ k. how_often k (others i ms.order) ≡ one_if (places_at left k)) (sym e)
      (often_gone i ms.order ∙ sym (ap one_if (set_at ms.places i None None within)))
  times_by n (inr d) = often_other n i ms.order d ∙ h.times n ∙ ap one_if (sym (index_other ms.places i n None None d))

  pub ordered_gone : AreOrdered (record { places = left; order = others i ms.order })
  ordered_gone = record {
    listed = all_left (λ n. IsSome (places_at ms.places n)) (λ n. IsSome (places_at left n)) i (gone_stays ms.places i) ms.order h.listed;
    times = λ n. times_by n (same_or_not n i);
    count = omega (arith, often_long i ms.order, h.times i, one_there (places_at ms.places i) there, h.count, occupied_gone ms.places i there);
    few = omega (arith, h.few, set_length ms.places i None);
  }

-- a new module in an empty place
module _ (ms : ModuleStates) (k : ℕ) (x : ModuleState) (h : AreOrdered ms) (free : slice_get ms.places k ≡ Some None) where
  abbrev now : List (Option ModuleState)
  now = slice_set ms.places k (Some x)

  abbrev grown : List ℕ
  grown = ms.order ++ k ∷ []

  was_none : places_at ms.places k ≡ None
  was_none = get_or_from_slice_get ms.places k None None free

  here : places_at now k ≡ Some x
  here = set_at ms.places k (Some x) None (slice_get_within ms.places k None free)

  new_by : (n : ℕ) → (n ≡ k) ⊎ (n ≢ k) → how_often n grown ≡ one_if (places_at now n)
  new_by n (inl e) =
      subst (λ i. how_often i grown ≡ one_if (places_at now i)) (sym e)
      (often_new k k ms.order refl ∙ ap suc (h.times k ∙ ap one_if was_none) ∙ sym (ap one_if here))
  new_by n (inr d) = often_same n k ms.order (λ e. d (sym e)) ∙ h.times n ∙ ap one_if (sym (index_other ms.places k n (Some x) None d))

  pub ordered_new : AreOrdered (record { places = now; order = grown })
  ordered_new = record {
    listed = all_last (λ n. IsSome (places_at now n)) ms.order k
        (all_still (λ n. IsSome (places_at ms.places n)) (λ n. IsSome (places_at now n)) ms.order (put_stays ms.places k x) h.listed) (ap is_some here);
    times = λ n. new_by n (same_or_not n k);
    count = omega (arith, length-append ms.order (k ∷ []), h.count, occupied_new ms.places k x free);
    few = omega (arith, h.few, set_length ms.places k (Some x));
  }

-- one more place
pub ordered_more : (ms : ModuleStates) → AreOrdered ms → length ms.places < 64 → AreOrdered (record ms { places = ms.places ++ None ∷ [] })
ordered_more ms h less = record {
  listed = all_still (λ n. IsSome (places_at ms.places n)) (λ n. IsSome (places_at (ms.places ++ None ∷ []) n)) ms.order (λ n e. ap is_some (at_more ms.places n) ∙ e) h.listed;
  times = λ n. h.times n ∙ sym (ap one_if (at_more ms.places n));
  count = h.count ∙ sym (occupied_more ms.places);
  few = omega (arith, less, length-append ms.places (None ∷ []));
}

-- Numbers of builds.
use Rattle.std.proofs.Common.{◌≡◌, refl, ap, sym, ◌∙◌, inl, inr, ℕ, zero, suc, List, [], ◌∷◌, Option, Some, None}
use Rattle.std.specs.Prelude.{slice_index_or, slice_set}
use Rattle.ang_meaning.specs.declared.slot.Slot.{Slot}
use Rattle.ang_engine_modules.specs.declared.module.Module.{Module}
use Rattle.ang_engine_modules.specs.declared.module.ModuleList.{ModuleList}
use Rattle.ang_engine_modules.specs.States.{build_in, build_at, HaveSameBuilds}
use Rattle.ang_engine_modules.specs.Taken.{IsReadied, HasTaken}
use Rattle.ang_engine_modules.proofs.Adding.{more_at, ready_empty}

-- a module that keeps its number keeps it among the others
builds_set : (ms : List (Option Module)) (i : ℕ) (n : Option Module) → build_in n ≡ build_in (slice_index_or ms i None) → (j : ℕ) → build_at (slice_set ms i n) j ≡ build_at ms j
builds_set [] i n e j = refl
builds_set (m ∷ ms) zero n e zero = e
builds_set (m ∷ ms) zero n e (suc j) = refl
builds_set (m ∷ ms) (suc i) n e zero = refl
builds_set (m ∷ ms) (suc i) n e (suc j) = builds_set ms i n e j

pub same_builds : (x y : ModuleList) → y.places.items ≡ x.places.items → y.builds ≡ x.builds → HaveSameBuilds x y
same_builds x y places count = record { count = count; each = λ i. ap (λ l. build_at l i) places }

-- one module has changed, and keeps its number
pub one_builds : (x y : ModuleList) (i : ℕ) (d n : Option Module) → d ≡ slice_index_or x.places.items i None → build_in n ≡ build_in d → y.places.items ≡ slice_set x.places.items i n
    → y.builds ≡ x.builds → HaveSameBuilds x y
one_builds x y i d n at kept places count =
    record { count = count; each = λ j. ap (λ l. build_at l j) places ∙ builds_set x.places.items i n (kept ∙ ap build_in at) j }

-- ---- a module that was put in a place

ready_builds : (x y : ModuleList) (gs hs : List (List Slot)) (i : ℕ) → IsReadied x gs y hs i → (j : ℕ) → build_at y.places.items j ≡ build_at x.places.items j
ready_builds x y gs hs i (inl e) j = ap (λ l. build_at l j) e.places
ready_builds x y gs hs i (inr e) j = ap (λ l. build_at l j) e.places ∙ ap build_in (more_at x.places.items None j)

pub taken_builds : (x z : ModuleList) (gs hs : List (List Slot)) (m : Module) → HasTaken x gs m z hs → m.build ≡ None → z.builds ≡ x.builds → HaveSameBuilds x z
taken_builds x z gs hs m t none count = record {
  count = count;
  each = λ j.
      ap (λ l. build_at l j) t.places
      ∙ builds_set t.readied.places.items t.place (Some m) (none ∙ sym (ap build_in (ready_empty x t.readied gs hs t.place t.ready))) j
      ∙ ready_builds x t.readied gs hs t.place t.ready j;
}

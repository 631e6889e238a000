-- Modules that stay in their places, with their names and built masks.
use Rattle.std.proofs.Common.{◌≡◌, refl, ap, sym, ◌∙◌, subst, ℕ, zero, suc, List, [], ◌∷◌, length, Option, Some, None, arith}
use Rattle.std.specs.Prelude.{Contains, slice_get, slice_index_or, slice_set}
use Rattle.std.specs.List.{AllZip}
use Rattle.ang_engine_modules.specs.declared.modules.LoadedModule.{LoadedModule}
use Rattle.ang_engine_modules.specs.declared.module.Module.{Module}
use Rattle.ang_engine_modules.specs.declared.module.ModuleList.{ModuleList}
use Rattle.ang_engine_modules.specs.Sound.{IsPlaceOf, HasSameName, IsKept, IsKeptPlace, ArePlacesKept, AreModules}
use Rattle.ang_engine_modules.proofs.PlaceLists.{set_length}
use Rattle.ang_engine_modules.proofs.Worlds.{zip_keep}

-- a module that had the place before, of the same name
pub record WasThere (ms : List (Option Module)) (j : ℕ) (m : Module) : Type 0 where
  pub own : Module
  pub there : slice_get ms j ≡ Some (Some own)
  pub name : m.name ≡ own.name

pub was_there : (ms : List (Option Module)) (i : ℕ) (n : Option Module) → HasSameName (slice_index_or ms i None) n → (j : ℕ) (m : Module) → slice_get (slice_set ms i n) j ≡ Some (Some m) → WasThere ms j m
was_there [] i n kept j m at = absurd (cc)
was_there (None ∷ ms) zero n kept zero m at = absurd kept
was_there (Some k ∷ ms) zero None kept zero m at = absurd kept
was_there (Some k ∷ ms) zero (Some q) kept zero m at =
    let same : q ≡ m = cc in
    record { own = k; there = refl; name = ap (λ (x : Module). x.name) (sym same) ∙ kept }
was_there (x ∷ ms) zero n kept (suc j) m at = record { own = m; there = at; name = refl }
was_there (x ∷ ms) (suc i) n kept zero m at = record { own = m; there = at; name = refl }
was_there (x ∷ ms) (suc i) n kept (suc j) m at = let r = was_there ms i n kept j m at in record { own = r.own; there = r.there; name = r.name }

module _ (P : List ℕ → ℕ → LoadedModule → Type 0) where
  keep_one : (d n : Option Module) → IsKept d n → (l : Option LoadedModule) → IsPlaceOf P d l → IsPlaceOf P n l
  keep_one None n kept l h = absurd kept
  keep_one (Some d) None kept l h = absurd kept
  keep_one (Some d) (Some n) kept None h = tt
  keep_one (Some d) (Some n) kept (Some l) h = subst (λ name. P name n.built_mask.0 l) (sym kept.0) (subst (λ mask. P d.name mask.0 l) (sym kept.1) h)

  kept_name : (d n : Option Module) → IsKept d n → HasSameName d n
  kept_name None n kept = absurd kept
  kept_name (Some d) None kept = absurd kept
  kept_name (Some d) (Some n) kept = kept.0

  -- a module of the same name stands in its place, with what is built
  pub placed_modules : (x y : ModuleList) (i : ℕ) (n : Option Module) → HasSameName (slice_index_or x.places.items i None) n → y.places.items ≡ slice_set x.places.items i n
      → y.order.items ≡ x.order.items → AllZip (IsPlaceOf P) (slice_set x.places.items i n) y.code → AreModules P x → AreModules P y
  placed_modules x y i n named places order each h =
      let ms = x.places.items in
      let was : (j : ℕ) (m : Module) → slice_get y.places.items j ≡ Some (Some m) → WasThere ms j m = λ j m at. was_there ms i n named j m (sym (ap (λ l. slice_get l j) places) ∙ at) in
      record {
        each = subst (λ l. AllZip (IsPlaceOf P) l y.code) (sym places) each;
        apart = λ j k m q at bt same.
            let a = was j m at in
            let b = was k q bt in
            h.apart j k a.own b.own a.there b.there (sym a.name ∙ same ∙ b.name);
        few = omega (arith, h.few, ap length places, set_length ms i n);
        listed = λ j m at. let a = was j m at in subst (λ l. Contains l j) (sym order) (h.listed j a.own a.there);
      }

  -- a module is kept in its place, and all else is as it was
  pub kept_modules : (x y : ModuleList) (i : ℕ) (n : Option Module) → IsKept (slice_index_or x.places.items i None) n → y.places.items ≡ slice_set x.places.items i n → y.code ≡ x.code
      → y.order.items ≡ x.order.items → AreModules P x → AreModules P y
  kept_modules x y i n kept places code order h =
      let d = slice_index_or x.places.items i None in
      placed_modules x y i n (kept_name d n kept) places order
      (subst (λ l. AllZip (IsPlaceOf P) (slice_set x.places.items i n) l) (sym code) (zip_keep (IsPlaceOf P) None x.places.items x.code i n h.each (λ l q. keep_one d n kept l q))) h

  -- nothing has changed
  pub same_modules : (x y : ModuleList) → y.places.items ≡ x.places.items → y.code ≡ x.code → y.order.items ≡ x.order.items → AreModules P x → AreModules P y
  same_modules x y places code order h = record {
    each = subst (λ l. AllZip (IsPlaceOf P) l y.code) (sym places) (subst (λ l. AllZip (IsPlaceOf P) x.places.items l) (sym code) h.each);
    apart = λ j k m q at bt same. h.apart j k m q (sym (ap (λ l. slice_get l j) places) ∙ at) (sym (ap (λ l. slice_get l k) places) ∙ bt) same;
    few = omega (arith, h.few, ap length places);
    listed = λ j m at. subst (λ l. Contains l j) (sym order) (h.listed j m (sym (ap (λ l. slice_get l j) places) ∙ at));
  }

-- ---- places that are kept

same_place : (d : Option Module) → IsKeptPlace d d
same_place None = tt
same_place (Some d) = (refl, refl)

same_places : (xs : List (Option Module)) → AllZip IsKeptPlace xs xs
same_places [] = tt
same_places (x ∷ xs) = (same_place x, same_places xs)

pub nothing_kept : (x y : ModuleList) → y.places.items ≡ x.places.items → y.code ≡ x.code → y.order.items ≡ x.order.items → ArePlacesKept x y
nothing_kept x y places code order = record { places = subst (λ l. AllZip IsKeptPlace x.places.items l) (sym places) (same_places x.places.items); code = code; order = order }

kept_one : (d n : Option Module) → IsKept d n → IsKeptPlace d n
kept_one None n kept = absurd kept
kept_one (Some d) n kept = kept

kept_set : (xs : List (Option Module)) (i : ℕ) (n : Option Module) → IsKept (slice_index_or xs i None) n → AllZip IsKeptPlace xs (slice_set xs i n)
kept_set [] i n kept = tt
kept_set (x ∷ xs) zero n kept = (kept_one x n kept, same_places xs)
kept_set (x ∷ xs) (suc i) n kept = (same_place x, kept_set xs i n kept)

-- one module is kept in its place
pub one_kept : (x y : ModuleList) (i : ℕ) (d n : Option Module) → slice_index_or x.places.items i None ≡ d → IsKept d n → y.places.items ≡ slice_set x.places.items i n → y.code ≡ x.code
    → y.order.items ≡ x.order.items → ArePlacesKept x y
one_kept x y i d n at kept places code order = record {
  places = subst (λ l. AllZip IsKeptPlace x.places.items l) (sym places) (kept_set x.places.items i n (subst (λ o. IsKept o n) (sym at) kept));
  code = code;
  order = order;
}

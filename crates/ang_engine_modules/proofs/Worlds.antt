-- The modules of an engine, seen as a world.
use Rattle.std.proofs.Common.{◌≡◌, ◌<◌, refl, ap, ◌∙◌, ℕ, zero, suc, List, [], ◌∷◌, ◌++◌, length, arith, Option, Some, None}
use Rattle.std.specs.Prelude.{option_map, slice_index_or, slice_set, map as list_map}
use Rattle.std.specs.List.{AllZip}
use Rattle.ang_engine_modules.specs.declared.modules.LoadedModule.{LoadedModule}
use Rattle.ang_engine_modules.specs.Loaded.{without_links, unbound_in}
use Rattle.ang_engine_modules.specs.declared.module.Module.{Module}
use Rattle.ang_engine_modules.specs.World.{unbound_module}
use Rattle.ang_engine_modules.specs.States.{place_of, places_of}
use Rattle.ang_engine_modules.specs.Sound.{IsPlaceOf}

pub places_length : (ms : List (Option Module)) (ls : List (Option LoadedModule)) → length (places_of ms ls) ≡ length ms
places_length [] ls = refl
places_length (m ∷ ms) [] = ap suc (places_length ms [])
places_length (m ∷ ms) (l ∷ ls) = ap suc (places_length ms ls)

-- a place
pub places_at : (ms : List (Option Module)) (ls : List (Option LoadedModule)) (i : ℕ) → slice_index_or (places_of ms ls) i None ≡ place_of (slice_index_or ms i None) (slice_index_or ls i None)
places_at [] ls i = refl
places_at (m ∷ ms) [] zero = refl
places_at (m ∷ ms) [] (suc i) = places_at ms [] i
places_at (m ∷ ms) (l ∷ ls) zero = refl
places_at (m ∷ ms) (l ∷ ls) (suc i) = places_at ms ls i

-- a module and what is built of it are put there
pub places_set : (ms : List (Option Module)) (ls : List (Option LoadedModule)) (i : ℕ) (m : Option Module) (l : Option LoadedModule) → length ls ≡ length ms
    → places_of (slice_set ms i m) (slice_set ls i l) ≡ slice_set (places_of ms ls) i (place_of m l)
places_set [] ls i m l e = refl
places_set (n ∷ ms) [] i m l e = absurd (omega (arith, e))
places_set (n ∷ ms) (k ∷ ls) zero m l e = refl
places_set (n ∷ ms) (k ∷ ls) (suc i) m l e = ap (λ ss. place_of n k ∷ ss) (places_set ms ls i m l (omega (arith, e)))

-- a module alone is put there
pub places_put : (ms : List (Option Module)) (ls : List (Option LoadedModule)) (i : ℕ) (m : Option Module)
    → places_of (slice_set ms i m) ls ≡ slice_set (places_of ms ls) i (place_of m (slice_index_or ls i None))
places_put [] ls i m = refl
places_put (n ∷ ms) [] zero m = refl
places_put (n ∷ ms) [] (suc i) m = ap (λ ss. place_of n None ∷ ss) (places_put ms [] i m)
places_put (n ∷ ms) (k ∷ ls) zero m = refl
places_put (n ∷ ms) (k ∷ ls) (suc i) m = ap (λ ss. place_of n k ∷ ss) (places_put ms ls i m)

-- what is built there alone is put there
pub places_built : (ms : List (Option Module)) (ls : List (Option LoadedModule)) (i : ℕ) (l : Option LoadedModule) → i < length ls
    → places_of ms (slice_set ls i l) ≡ slice_set (places_of ms ls) i (place_of (slice_index_or ms i None) l)
places_built [] ls i l lt = refl
places_built (m ∷ ms) [] i l lt = absurd (omega (arith, lt))
places_built (m ∷ ms) (k ∷ ls) zero l lt = refl
places_built (m ∷ ms) (k ∷ ls) (suc i) l lt = ap (λ ss. place_of m k ∷ ss) (places_built ms ls i l (omega (arith, lt)))

-- the same of as many places as there are modules
pub places_loaded : (ms : List (Option Module)) (ls : List (Option LoadedModule)) (i : ℕ) (l : Option LoadedModule) → length ls ≡ length ms
    → places_of ms (slice_set ls i l) ≡ slice_set (places_of ms ls) i (place_of (slice_index_or ms i None) l)
places_loaded [] ls i l e = refl
places_loaded (m ∷ ms) [] i l e = absurd (omega (arith, e))
places_loaded (m ∷ ms) (k ∷ ls) zero l e = refl
places_loaded (m ∷ ms) (k ∷ ls) (suc i) l e = ap (λ ss. place_of m k ∷ ss) (places_loaded ms ls i l (omega (arith, e)))

-- one more place
pub places_push : (ms : List (Option Module)) (ls : List (Option LoadedModule)) (m : Option Module) (l : Option LoadedModule) → length ls ≡ length ms
    → places_of (ms ++ m ∷ []) (ls ++ l ∷ []) ≡ places_of ms ls ++ place_of m l ∷ []
places_push [] [] m l e = refl
places_push [] (k ∷ ls) m l e = absurd (omega (arith, e))
places_push (n ∷ ms) [] m l e = absurd (omega (arith, e))
places_push (n ∷ ms) (k ∷ ls) m l e = ap (λ ss. place_of n k ∷ ss) (places_push ms ls m l (omega (arith, e)))

-- no import leads to module i any more
unbound_place : (i : ℕ) (m : Option Module) (l : Option LoadedModule) → place_of m (option_map (without_links i) l) ≡ option_map (unbound_module i) (place_of m l)
unbound_place i None l = refl
unbound_place i (Some m) None = refl
unbound_place i (Some m) (Some l) = refl

pub places_unbound : (i : ℕ) (ms : List (Option Module)) (ls : List (Option LoadedModule)) → places_of ms (unbound_in i ls) ≡ list_map (option_map (unbound_module i)) (places_of ms ls)
places_unbound i [] ls = refl
places_unbound i (m ∷ ms) [] = ap (λ p. p ∷ places_of ms []) (unbound_place i m None) ∙ ap (λ ss. option_map (unbound_module i) (place_of m None) ∷ ss) (places_unbound i ms [])
places_unbound i (m ∷ ms) (l ∷ ls) =
    ap (λ p. p ∷ places_of ms (unbound_in i ls)) (unbound_place i m l) ∙ ap (λ ss. option_map (unbound_module i) (place_of m l) ∷ ss) (places_unbound i ms ls)

-- ---- two lists in step

pub zip_length : {A B : Type 0} (P : A → B → Type 0) (xs : List A) (ys : List B) → AllZip P xs ys → length ys ≡ length xs
zip_length P [] [] h = refl
zip_length P [] (y ∷ ys) h = absurd h
zip_length P (x ∷ xs) [] h = absurd h
zip_length P (x ∷ xs) (y ∷ ys) h = ap suc (zip_length P xs ys h.1)

pub zip_at : {A B : Type 0} (P : A → B → Type 0) (xs : List A) (ys : List B) (i : ℕ) (d : A) (e : B) → AllZip P xs ys → i < length xs → P (slice_index_or xs i d) (slice_index_or ys i e)
zip_at P [] [] i d e h lt = absurd (omega (arith, lt))
zip_at P [] (y ∷ ys) i d e h lt = absurd h
zip_at P (x ∷ xs) [] i d e h lt = absurd h
zip_at P (x ∷ xs) (y ∷ ys) zero d e h lt = h.0
zip_at P (x ∷ xs) (y ∷ ys) (suc i) d e h lt = zip_at P xs ys i d e h.1 (omega (arith, lt))

pub zip_set : {A B : Type 0} (P : A → B → Type 0) (xs : List A) (ys : List B) (i : ℕ) (x : A) (y : B) → AllZip P xs ys → P x y → AllZip P (slice_set xs i x) (slice_set ys i y)
zip_set P [] [] i x y h p = tt
zip_set P [] (b ∷ ys) i x y h p = absurd h
zip_set P (a ∷ xs) [] i x y h p = absurd h
zip_set P (a ∷ xs) (b ∷ ys) zero x y h p = (p, h.1)
zip_set P (a ∷ xs) (b ∷ ys) (suc i) x y h p = (h.0, zip_set P xs ys i x y h.1 p)

pub zip_push : {A B : Type 0} (P : A → B → Type 0) (xs : List A) (ys : List B) (x : A) (y : B) → AllZip P xs ys → P x y → AllZip P (xs ++ x ∷ []) (ys ++ y ∷ [])
zip_push P [] [] x y h p = (p, tt)
zip_push P [] (b ∷ ys) x y h p = absurd h
zip_push P (a ∷ xs) [] x y h p = absurd h
zip_push P (a ∷ xs) (b ∷ ys) x y h p = (h.0, zip_push P xs ys x y h.1 p)

-- ---- a module that keeps its name and its built mask

pub zip_keep : {A B : Type 0} (P : A → B → Type 0) (d : A) (xs : List A) (ys : List B) (i : ℕ) (x : A) → AllZip P xs ys → ((y : B) → P (slice_index_or xs i d) y → P x y) → AllZip P (slice_set xs i x) ys
zip_keep P d [] [] i x h keep = tt
zip_keep P d [] (b ∷ ys) i x h keep = absurd h
zip_keep P d (a ∷ xs) [] i x h keep = absurd h
zip_keep P d (a ∷ xs) (b ∷ ys) zero x h keep = (keep b h.0, h.1)
zip_keep P d (a ∷ xs) (b ∷ ys) (suc i) x h keep = (h.0, zip_keep P d xs ys i x h.1 keep)

-- what is built of each module is changed
pub zip_changed : {A B : Type 0} (P : A → B → Type 0) (f : B → B) (xs : List A) (ys : List B) → AllZip P xs ys → ((x : A) (y : B) → P x y → P x (f y)) → AllZip P xs (list_map f ys)
zip_changed P f [] [] h keep = tt
zip_changed P f [] (y ∷ ys) h keep = absurd h
zip_changed P f (x ∷ xs) [] h keep = absurd h
zip_changed P f (x ∷ xs) (y ∷ ys) h keep = (keep x y h.0, zip_changed P f xs ys h.1 keep)

module _ (P : List ℕ → ℕ → LoadedModule → Type 0) where
  -- imports that lead elsewhere leave a module built as it was
  pub place_changed : (f : LoadedModule → LoadedModule) → ((name : List ℕ) (mask : ℕ) (l : LoadedModule) → P name mask l → P name mask (f l))
      → (m : Option Module) (l : Option LoadedModule) → IsPlaceOf P m l → IsPlaceOf P m (option_map f l)
  place_changed f keep None None h = tt
  place_changed f keep None (Some l) h = absurd h
  place_changed f keep (Some m) None h = tt
  place_changed f keep (Some m) (Some l) h = keep m.name m.built_mask.0 l h

-- Methods by their places.
use Rattle.std.proofs.Common.{◌≡◌, ◌||◌, ℕ, zero, suc, Bool, true, false, List, [], ◌∷◌, ◌++◌, length, map, take, drop, Option, Some, None, refl, sym, ap, ◌∙◌}
use Rattle.std.specs.Prelude.{slice_get, option_map, option_to_list, if◌then◌else◌}
use Rattle.std.specs.List.{list_any}
use Rattle.std.proofs.lemmas.List.{append-nil, map-append}
use Rattle.std.proofs.lemmas.Option.{same_Some}
use Rattle.ang_names_known.specs.declared.methods.MethodPlace.{MethodPlace}
use Rattle.ang_names_known.specs.declared.names.Family.{Family}
use Rattle.ang_names_known.specs.declared.names.ScriptMethod.{ScriptMethod}
use Rattle.ang_names_known.specs.Lookup.{FoundMethod, stands_in}
use Rattle.ang_names_known.specs.MethodPlaces.{AreFound, found_at, found_in, stands_at, stands_with}
use Rattle.ang_names_known.specs.Nearest.{methods_declared, nearest_at, of_owner}
use Rattle.ang_names_known.proofs.NearestMethods.{any_of_both}

append_assoc : {A : Type 0} → (xs ys zs : List A) → (xs ++ ys) ++ zs ≡ xs ++ (ys ++ zs)
append_assoc [] ys zs = refl
append_assoc (x ∷ xs) ys zs = ap (λ r. x ∷ r) (append_assoc xs ys zs)

found_append : (fs : List Family) (ps qs : List MethodPlace) → found_in fs (ps ++ qs) ≡ found_in fs ps ++ found_in fs qs
found_append fs [] qs = refl
found_append fs (p ∷ ps) qs =
    ap (λ r. option_to_list (found_at fs p) ++ r) (found_append fs ps qs) ∙ sym (append_assoc (option_to_list (found_at fs p)) (found_in fs ps) (found_in fs qs))

one_found : (fs : List Family) (p : MethodPlace) (m : FoundMethod) → found_at fs p ≡ Some m → found_in fs (p ∷ []) ≡ m ∷ []
one_found fs p m e = ap (λ o. option_to_list o ++ []) e

-- a place more, at which a method stands
pub found_more : (fs : List Family) (ps : List MethodPlace) (p : MethodPlace) (m : FoundMethod) → found_at fs p ≡ Some m → found_in fs (ps ++ p ∷ []) ≡ found_in fs ps ++ m ∷ []
found_more fs ps p m e = found_append fs ps (p ∷ []) ∙ ap (λ r. found_in fs ps ++ r) (one_found fs p m e)

pub are_found_more : (fs : List Family) (ps : List MethodPlace) (p : MethodPlace) (m : FoundMethod) → AreFound fs ps → found_at fs p ≡ Some m → AreFound fs (ps ++ p ∷ [])
are_found_more fs ps p m are e =
    map-append (found_at fs) ps (p ∷ [])
    ∙ (λ i. are i ++ e i ∷ [])
    ∙ sym (map-append Some (found_in fs ps) (m ∷ []))
    ∙ ap (map Some) (sym (found_more fs ps p m e))

-- ---- one after the other

record Split (fs : List Family) (p : MethodPlace) (ps : List MethodPlace) : Type 0 where
  method : FoundMethod
  here : found_at fs p ≡ Some method
  there : AreFound fs ps

split : (fs : List Family) (p : MethodPlace) (ps : List MethodPlace) → AreFound fs (p ∷ ps) → Split fs p ps
split fs p ps are = by (found_at fs p) refl are
  where
    none : (found : List FoundMethod) → None ∷ map (found_at fs) ps ≡ map Some found → ⊥
    none [] e = cc
    none (x ∷ xs) e = cc

    by : (o : Option FoundMethod) → found_at fs p ≡ o → o ∷ map (found_at fs) ps ≡ map Some (option_to_list o ++ found_in fs ps) → Split fs p ps
    by None is e = absurd (none (found_in fs ps) e)
    by (Some m) is e = let left : map (found_at fs) ps ≡ map Some (found_in fs ps) = cc in record { method = m; here = is; there = left }

-- the method at a place among them
pub get_found : (fs : List Family) (ps : List MethodPlace) (n : ℕ) (p : MethodPlace) → AreFound fs ps → slice_get ps n ≡ Some p → found_at fs p ≡ slice_get (found_in fs ps) n
get_found fs [] n p are e = cc
get_found fs (q ∷ ps) zero p are e =
    let s = split fs q ps are in
    let same : q ≡ p = same_Some q p e in
    ap (found_at fs) (sym same) ∙ s.here ∙ sym (ap (λ o. slice_get (option_to_list o ++ found_in fs ps) 0) s.here)
get_found fs (q ∷ ps) (suc n) p are e =
    let s = split fs q ps are in
    get_found fs ps n p s.there e ∙ sym (ap (λ o. slice_get (option_to_list o ++ found_in fs ps) (suc n)) s.here)

pub none_found : (fs : List Family) (ps : List MethodPlace) (n : ℕ) → AreFound fs ps → slice_get ps n ≡ None → slice_get (found_in fs ps) n ≡ None
none_found fs [] n are e = refl
none_found fs (q ∷ ps) zero are e = cc
none_found fs (q ∷ ps) (suc n) are e =
    let s = split fs q ps are in
    ap (λ o. slice_get (option_to_list o ++ found_in fs ps) (suc n)) s.here ∙ none_found fs ps n s.there e

pub as_many : (fs : List Family) (ps : List MethodPlace) → AreFound fs ps → length ps ≡ length (found_in fs ps)
as_many fs [] are = refl
as_many fs (p ∷ ps) are =
    let s = split fs p ps are in
    ap suc (as_many fs ps s.there) ∙ sym (ap (λ o. length (option_to_list o ++ found_in fs ps)) s.here)

-- slots of the first places are those of the first methods
pub few_found : (fs : List Family) (slot k : ℕ) (ps : List MethodPlace) → AreFound fs ps → list_any (stands_at fs slot) (take k ps) ≡ list_any (stands_in slot) (take k (found_in fs ps))
few_found fs slot zero ps are = refl
few_found fs slot (suc k) [] are = refl
few_found fs slot (suc k) (p ∷ ps) are =
    let s = split fs p ps are in
    (λ i. stands_with slot (s.here i) || few_found fs slot k ps s.there i)
    ∙ sym (ap (λ o. list_any (stands_in slot) (take (suc k) (option_to_list o ++ found_in fs ps))) s.here)

-- the method at a place is that of its family
pub found_here : (fs : List Family) (at : MethodPlace) (owner place : ℕ) (m : ScriptMethod) → at.owner ≡ owner → at.place ≡ place
    → slice_get (methods_declared (slice_get fs owner)) place ≡ Some m → found_at fs at ≡ Some (of_owner owner m)
found_here fs at owner place m o p here =
    (λ i. option_map (of_owner (o i)) (slice_get (methods_declared (slice_get fs (o i))) (p i))) ∙ ap (option_map (of_owner owner)) here

-- nothing stands there, so nothing is put in
pub nothing_nearest : (found : List FoundMethod) (owner : ℕ) (o : Option ScriptMethod) → o ≡ None → found ≡ found ++ nearest_at found (option_map (of_owner owner) o)
nothing_nearest found owner o none = sym (ap (λ o. found ++ nearest_at found (option_map (of_owner owner) o)) none ∙ append-nil found)

-- a method of its slot is in front
pub slot_taken : (found : List FoundMethod) (owner : ℕ) (o : Option ScriptMethod) (m : ScriptMethod) → o ≡ Some m → list_any (stands_in m.slot) found ≡ true
    → found ≡ found ++ nearest_at found (option_map (of_owner owner) o)
slot_taken found owner o m is taken =
    sym (ap (λ o. found ++ nearest_at found (option_map (of_owner owner) o)) is ∙ ap (λ b. found ++ (if b then [] else of_owner owner m ∷ [])) taken ∙ append-nil found)

-- none is
pub slot_free : (found : List FoundMethod) (owner : ℕ) (o : Option ScriptMethod) (m : ScriptMethod) → o ≡ Some m → list_any (stands_in m.slot) found ≡ false
    → nearest_at found (option_map (of_owner owner) o) ≡ of_owner owner m ∷ []
slot_free found owner o m is free = ap (λ o. nearest_at found (option_map (of_owner owner) o)) is ∙ ap (λ b. if b then [] else of_owner owner m ∷ []) free

-- a slot is that of one of the first eight, or of one after them
pub slot_of_both : (fs : List Family) (slot : ℕ) (ps : List MethodPlace) (few behind : Bool) → AreFound fs ps → few ≡ list_any (stands_at fs slot) (take 8 ps)
    → behind ≡ list_any (stands_in slot) (drop 8 (found_in fs ps)) → (few || behind) ≡ list_any (stands_in slot) (found_in fs ps)
slot_of_both fs slot ps few behind are is others = any_of_both slot (found_in fs ps) few behind (is ∙ few_found fs slot 8 ps are) others

-- All that a declaration clashes with are among those of its name, of a function among those of its key, and how these places grow.
use Rattle.std.specs.Prelude.{ℕ, suc, ◌≡◌, ◌+◌, cond, Bool, true, false, ◌&&◌, ◌||◌, List, [], ◌∷◌, ◌++◌, Some, bytes_eq, length, map, slice_get}
use Rattle.std.specs.List.{list_any}
use Rattle.std.specs.Cmp.Lexicographic.{nat_list_eq_equiv}
use Rattle.std.proofs.Common.{arith, refl, sym, ap, ◌∙◌}
use Rattle.std.proofs.lemmas.Slice.Eq.{bytes_eq-Decides}
use Rattle.ang_index.specs.Rows.{Puts, Rows, items_at}
use Rattle.ang_tree.specs.declared.declaration.Parameter.{Parameter}
use Rattle.ang_view.proofs.Lists.{and_gives}
use Rattle.ang_names_known.specs.NameIndex.{places_from, places_of}
use Rattle.ang_names_known.proofs.PlacesByName.{one_more_place as place_put}
use Rattle.ang_names_listed.specs.Spellings.{same_spellings}
use Rattle.ang_names_listed.proofs.Codes.{codes_alike}
use Rattle.ang_names_listed.specs.declared.listed.ListedDeclaration.{ListedDeclaration}
use Rattle.ang_names_listed.specs.declared.listed.Part.{Part}
use Rattle.ang_names_listed.specs.declared.listed.Part.TheVariants as part
use Rattle.ang_names_listed.specs.Declarations.{declared_name}
use Rattle.ang_names_listed.specs.Earlier.{HasPlaces, PutsPlaces, clashes_at, clashes_with, function_key, key_of, key_with, keyed, named, params_of, put_at}
use Rattle.ang_names_listed.specs.Taken.{clashes, excludes}

-- ---- what is found

one_any : (f : ℕ → Bool) (same c r : Bool) (i : ℕ) (places : List ℕ) → f i ≡ c → list_any f places ≡ r
    → list_any f (cond same (i ∷ places) places) ≡ ((same && c) || r)
one_any f true c r i places here rest = ap (λ b. b || list_any f places) here ∙ ap (λ b. c || b) rest
one_any f false c r i places here rest = rest

bytes_eq-sym : (xs ys : List ℕ) → bytes_eq xs ys ≡ bytes_eq ys xs
bytes_eq-sym xs ys = nat_list_eq_equiv.symm xs ys

module _ (found_by : ListedDeclaration → List ℕ) (key : List ℕ) (all : List ListedDeclaration) (d : ListedDeclaration) where
  any_from : (ds : List ListedDeclaration) (i : ℕ) → ((j : ℕ) → slice_get all (i + j) ≡ slice_get ds j)
      → list_any (clashes_at all d) (places_from i (map found_by ds) key) ≡ list_any (λ x. bytes_eq (found_by x) key && clashes d x) ds
  any_from [] i stands = refl
  any_from (x ∷ xs) i stands =
      let first : i + 0 ≡ i = omega arith in
      let here : clashes_at all d i ≡ clashes d x = ap (clashes_at all d) (sym first) ∙ ap (clashes_with d) (stands 0) in
      one_any (clashes_at all d) (bytes_eq (found_by x) key) (clashes d x) (list_any (λ y. bytes_eq (found_by y) key && clashes d y) xs) i
      (places_from (i + 1) (map found_by xs) key) here
      (any_from xs (i + 1) (λ j. let up : (i + 1) + j ≡ i + suc j = omega arith in ap (slice_get all) up ∙ stands (suc j)))

  -- those that clash, of what is found by a key
  any_found : list_any (clashes_at all d) (places_of (map found_by all) key) ≡ list_any (λ x. bytes_eq (found_by x) key && clashes d x) all
  any_found = any_from all 0 (λ j. let first : 0 + j ≡ j = omega arith in ap (slice_get all) first)

any_alike : (f g : ListedDeclaration → Bool) → ((x : ListedDeclaration) → f x ≡ g x) → (ds : List ListedDeclaration) → list_any f ds ≡ list_any g ds
any_alike f g same [] = refl
any_alike f g same (x ∷ xs) = λ i. same x i || any_alike f g same xs i

either_one : (a b c d : Bool) → ((a || b) || (c || d)) ≡ ((a || c) || (b || d))
either_one true b c d = refl
either_one false true true d = refl
either_one false true false d = refl
either_one false false c d = refl

any_either : (f g : ListedDeclaration → Bool) (ds : List ListedDeclaration) → (list_any f ds || list_any g ds) ≡ list_any (λ x. f x || g x) ds
any_either f g [] = refl
any_either f g (x ∷ xs) = either_one (f x) (list_any f xs) (g x) (list_any g xs) ∙ ap (λ b. (f x || g x) || b) (any_either f g xs)

covered : (a c : Bool) → (c ≡ true → a ≡ true) → (a && c) ≡ c
covered true c h = refl
covered false true h = cc (h refl)
covered false false h = refl

covered_once : (a b c : Bool) → (c ≡ true → (a || b) ≡ true) → ((a && c) || (b && c)) ≡ c
covered_once true true true h = refl
covered_once true true false h = refl
covered_once true false true h = refl
covered_once true false false h = refl
covered_once false b c h = covered b c h

-- what clashes has the name
same_name : (d x : ListedDeclaration) → clashes d x ≡ true → bytes_eq (declared_name x) (declared_name d) ≡ true
same_name d x h = bytes_eq-sym (declared_name x) (declared_name d) ∙ (and_gives (bytes_eq (declared_name d) (declared_name x)) (excludes d.text d.part x.text x.part) h).0

pub all_among : (all : List ListedDeclaration) (d : ListedDeclaration) (places : List ℕ) → places ≡ named all (declared_name d)
    → list_any (clashes_at all d) places ≡ list_any (clashes d) all
unfolding named
all_among all d places is =
    ap (list_any (clashes_at all d)) is
    ∙ any_found declared_name (declared_name d) all d
    ∙ any_alike (λ x. bytes_eq (declared_name x) (declared_name d) && clashes d x) (clashes d)
    (λ x. covered (bytes_eq (declared_name x) (declared_name d)) (clashes d x) (same_name d x)) all

-- ---- what a function is found by

or_left : (a b : Bool) → a ≡ true → (a || b) ≡ true
or_left true b h = refl
or_left false b h = cc

or_right : (a b : Bool) → b ≡ true → (a || b) ≡ true
or_right true b h = refl
or_right false b h = h

equal_bytes : (xs ys : List ℕ) → xs ≡ ys → bytes_eq xs ys ≡ true
equal_bytes xs ys h = (bytes_eq-Decides xs ys).1 h

same_key : (d x : ListedDeclaration) (ps qs : List Parameter) → bytes_eq (declared_name d) (declared_name x) ≡ true → same_spellings d.text ps x.text qs ≡ true
    → function_key x qs ≡ function_key d ps
same_key d x ps qs names spelled =
    let same = (bytes_eq-Decides (declared_name d) (declared_name x)).0 names in
    let codes = codes_alike d.text ps x.text qs spelled in
    λ i. sym same i ++ 0 ∷ sym codes i

same_some : (rs ps : List Parameter) → Some rs ≡ Some ps → rs ≡ ps
same_some rs ps h = cc

-- what clashes with a function stands under its bare name, or is a function of its key
either_key : (d x : ListedDeclaration) (ps : List Parameter) (p q : Part) → params_of p ≡ Some ps → bytes_eq (declared_name d) (declared_name x) ≡ true
    → excludes d.text p x.text q ≡ true
    → (bytes_eq (key_with x (params_of q)) (declared_name d) || bytes_eq (key_with x (params_of q)) (function_key d ps)) ≡ true
either_key d x ps p (part.Family s) is names h = or_left _ _ (bytes_eq-sym (declared_name x) (declared_name d) ∙ names)
either_key d x ps p (part.Global y) is names h = or_left _ _ (bytes_eq-sym (declared_name x) (declared_name d) ∙ names)
either_key d x ps (part.Family s) (part.Function y qs) is names h = cc
either_key d x ps (part.Global s) (part.Function y qs) is names h = cc
either_key d x ps (part.Function z rs) (part.Function y qs) is names h =
    or_right _ _ (equal_bytes _ _ (same_key d x rs qs names h ∙ ap (function_key d) (same_some rs ps is)))
either_key d x ps (part.Import z rs) (part.Function y qs) is names h =
    or_right _ _ (equal_bytes _ _ (same_key d x rs qs names h ∙ ap (function_key d) (same_some rs ps is)))
either_key d x ps (part.Family s) (part.Import y qs) is names h = cc
either_key d x ps (part.Global s) (part.Import y qs) is names h = cc
either_key d x ps (part.Function z rs) (part.Import y qs) is names h =
    or_right _ _ (equal_bytes _ _ (same_key d x rs qs names h ∙ ap (function_key d) (same_some rs ps is)))
either_key d x ps (part.Import z rs) (part.Import y qs) is names h =
    or_right _ _ (equal_bytes _ _ (same_key d x rs qs names h ∙ ap (function_key d) (same_some rs ps is)))

clashing_key : (d x : ListedDeclaration) (ps : List Parameter) → params_of d.part ≡ Some ps → clashes d x ≡ true
    → (bytes_eq (key_of x) (declared_name d) || bytes_eq (key_of x) (function_key d ps)) ≡ true
clashing_key d x ps is h =
    let both = and_gives (bytes_eq (declared_name d) (declared_name x)) (excludes d.text d.part x.text x.part) h in
    either_key d x ps d.part x.part is both.0 both.1

pub both_among : (all : List ListedDeclaration) (d : ListedDeclaration) (ps : List Parameter) (others functions : List ℕ) → params_of d.part ≡ Some ps
    → others ≡ keyed all (declared_name d) → functions ≡ keyed all (function_key d ps)
    → (list_any (clashes_at all d) others || list_any (clashes_at all d) functions) ≡ list_any (clashes d) all
unfolding keyed
both_among all d ps others functions is at_name at_key =
    let key = function_key d ps in
    (λ i. list_any (clashes_at all d) (at_name i) || list_any (clashes_at all d) (at_key i))
    ∙ (λ i. any_found key_of (declared_name d) all d i || any_found key_of key all d i)
    ∙ any_either (λ x. bytes_eq (key_of x) (declared_name d) && clashes d x) (λ x. bytes_eq (key_of x) key && clashes d x) all
    ∙ any_alike (λ x. (bytes_eq (key_of x) (declared_name d) && clashes d x) || (bytes_eq (key_of x) key && clashes d x)) (clashes d)
    (λ x. covered_once (bytes_eq (key_of x) (declared_name d)) (bytes_eq (key_of x) key) (clashes d x) (clashing_key d x ps is)) all

-- ---- a declaration more

pub one_more_place : (old new : Rows ℕ) (ds all : List ListedDeclaration) (d : ListedDeclaration) → HasPlaces ds old → PutsPlaces old new d (length ds)
    → all ≡ ds ++ d ∷ [] → HasPlaces all new
unfolding named keyed
one_more_place old new ds all d has puts grown = record {
  names = λ name.
      place_put declared_name ds all d (declared_name d) name (items_at 0 name old) (items_at 0 name new) refl grown (has.names name) (puts.under_name name);
  keys = λ key. place_put key_of ds all d (key_of d) key (items_at 1 key old) (items_at 1 key new) refl grown (has.keys key) (puts.under_key key);
}

-- a number is put in under a name, and then under a key
pub both_put : (old middle new : Rows ℕ) (d : ListedDeclaration) (n : ℕ) (name key : List ℕ) → name ≡ declared_name d → key ≡ key_of d
    → Puts old middle 0 name n → Puts middle new 1 key n → PutsPlaces old new d n
both_put old middle new d n name key named keyed first second = record {
  under_name = λ other. second 0 other ∙ first 0 other ∙ ap (λ own. put_at own other n (items_at 0 other old)) named;
  under_key = λ other.
      second 1 other ∙ ap (put_at key other n) (first 1 other) ∙ ap (λ own. put_at own other n (items_at 1 other old)) keyed;
}

pub no_places : HasPlaces [] []
unfolding named keyed
no_places = record { names = λ name. refl; keys = λ key. refl }

-- The places of names in an index, and what is looked for by them.
use Rattle.std.proofs.Common.{◌≡◌, ℕ, suc, ◌+◌, ◌<◌, ◌==◌, Bool, true, false, cond, ◌&&◌, ◌||◌, not, List, [], ◌∷◌, ◌++◌, map, drop, get_or, length, Option, Some, refl, sym, ap, subst, ◌∙◌, arith, position, bytes_eq}
use Rattle.std.specs.Prelude.{IfSome}
use Rattle.std.specs.List.{list_any, position_from}
use Rattle.std.specs.Cmp.Lexicographic.{nat_list_eq_equiv}
use Rattle.std.proofs.lemmas.Iterator.Adapters.{position_from-zero}
use Rattle.std.proofs.lemmas.List.{append-nil, drop_more}
use Rattle.ang_view.proofs.Lists.{length-map}
use Rattle.ang_index.specs.Rows.{Rows, items_at}
use Rattle.ang_names_known.specs.declared.names.Family.{Family}
use Rattle.ang_names_known.specs.declared.names.Names.{Names}
use Rattle.ang_names_known.specs.declared.names.ScriptFunction.{ScriptFunction}
use Rattle.ang_names_known.specs.declared.names.ScriptGlobal.{ScriptGlobal}
use Rattle.ang_names_known.specs.Lookup.{functions_named, named_from}
use Rattle.ang_names_known.specs.NameIndex.{IndexesKinds, PutsAll, PutsKinds, families_names, first_place, function_names, global_names, places_from, places_of}

-- ---- a name more

put_front : (xs : List ℕ) (n : ℕ) (rest : List ℕ) → xs ++ n ∷ rest ≡ (xs ++ n ∷ []) ++ rest
put_front [] n rest = refl
put_front (x ∷ xs) n rest = ap (λ r. x ∷ r) (put_front xs n rest)

one_of_all : (b c : Bool) (xs : List ℕ) (n : ℕ) (rest : List ℕ)
    → xs ++ cond b (cond c (n ∷ rest) rest) [] ≡ cond (b && c) (xs ++ n ∷ []) xs ++ cond b rest []
one_of_all true true xs n rest = put_front xs n rest
one_of_all true false xs n rest = refl
one_of_all false c xs n rest = refl

-- from turn n to the next one
pub place_more : (scope s n : ℕ) (name own : List ℕ) (all : List (List ℕ)) (first old new : List ℕ) → n < length all → own ≡ get_or all n []
    → new ≡ cond (scope == s && bytes_eq own name) (old ++ n ∷ []) old
    → first ++ cond (scope == s) (places_of all name) [] ≡ old ++ cond (scope == s) (places_from n (drop n all) name) []
    → first ++ cond (scope == s) (places_of all name) [] ≡ new ++ cond (scope == s) (places_from (n + 1) (drop (n + 1) all) name) []
place_more scope s n name own all first old new lt is puts so_far =
    so_far
    ∙ ap (λ xs. old ++ cond (scope == s) (places_from n xs name) []) (drop_more all n [] lt)
    ∙ one_of_all (scope == s) (bytes_eq (get_or all n []) name) old n (places_from (n + 1) (drop (n + 1) all) name)
    ∙ ap (λ x. cond (scope == s && bytes_eq x name) (old ++ n ∷ []) old ++ cond (scope == s) (places_from (n + 1) (drop (n + 1) all) name) []) (sym is)
    ∙ ap (λ xs. xs ++ cond (scope == s) (places_from (n + 1) (drop (n + 1) all) name) []) (sym puts)

pub places_end : (b : Bool) (name xs : List ℕ) (n : ℕ) (left : List (List ℕ)) → left ≡ [] → xs ++ cond b (places_from n left name) [] ≡ xs
places_end true name xs n left e = ap (λ l. xs ++ places_from n l name) e ∙ append-nil xs
places_end false name xs n left e = append-nil xs

-- ---- all kinds

pub kinds_indexed : (N : Names) (empty first second rows : Rows ℕ) → empty ≡ [] → PutsAll empty first 0 N.declared → PutsKinds first second N
    → PutsAll second rows 4 (families_names N.families) → IndexesKinds N rows
kinds_indexed N empty first second rows e one more last =
    let start : (s : ℕ) (name : List ℕ) → items_at s name empty ≡ [] = λ s name. ap (items_at s name) e in
    record {
      in_declared = λ name.
          last 0 name ∙ append-nil _ ∙ more 0 name ∙ append-nil _ ∙ append-nil _ ∙ append-nil _ ∙ one 0 name
          ∙ ap (λ xs. xs ++ places_of N.declared name) (start 0 name);
      in_functions = λ name.
          last 1 name ∙ append-nil _ ∙ more 1 name ∙ append-nil _ ∙ append-nil _
          ∙ ap (λ xs. xs ++ places_of (function_names N.functions) name) (one 1 name ∙ append-nil _ ∙ start 1 name);
      in_imports = λ name.
          last 2 name ∙ append-nil _ ∙ more 2 name ∙ append-nil _
          ∙ ap (λ xs. xs ++ places_of (function_names N.imports) name) (append-nil _ ∙ one 2 name ∙ append-nil _ ∙ start 2 name);
      in_globals = λ name.
          last 3 name ∙ append-nil _ ∙ more 3 name
          ∙ ap (λ xs. xs ++ places_of (global_names N.globals) name) (append-nil _ ∙ append-nil _ ∙ one 3 name ∙ append-nil _ ∙ start 3 name);
      in_families = λ name.
          last 4 name
          ∙ ap (λ xs. xs ++ places_of (families_names N.families) name)
          (more 4 name ∙ append-nil _ ∙ append-nil _ ∙ append-nil _ ∙ one 4 name ∙ append-nil _ ∙ start 4 name);
    }

-- ---- what is looked for

named_places : (n : ℕ) (fs : List ScriptFunction) (name : List ℕ) → named_from n fs name ≡ places_from n (function_names fs) name
named_places n [] name = refl
named_places n (f ∷ fs) name =
    ap (λ ns. cond (bytes_eq f.name name) (n ∷ ns) ns) (named_places (n + 1) fs name)

pub functions_are : (fs : List ScriptFunction) (name : List ℕ) → places_of (function_names fs) name ≡ functions_named fs name
unfolding functions_named
functions_are fs name = sym (named_places 0 fs name)

module _ {A : Type 0} (nm : A → List ℕ) (name : List ℕ) where
  first_step : (b : Bool) (n : ℕ) (ns : List ℕ) → first_place (cond b (n ∷ ns) ns) ≡ cond b (Some n) (first_place ns)
  first_step true n ns = refl
  first_step false n ns = refl

  pub first_from : (n : ℕ) (xs : List A) → first_place (places_from n (map nm xs) name) ≡ position_from (λ x. bytes_eq (nm x) name) n xs
  first_from n [] = refl
  first_from n (x ∷ xs) =
      first_step (bytes_eq (nm x) name) n (places_from (n + 1) (map nm xs) name)
      ∙ ap (λ r. cond (bytes_eq (nm x) name) (Some n) r) (first_from (n + 1) xs)

  pub first_is : (xs : List A) → first_place (places_of (map nm xs) name) ≡ position (λ x. bytes_eq (nm x) name) xs
  first_is xs = first_from 0 xs ∙ sym (position_from-zero (λ x. bytes_eq (nm x) name) xs)

pub global_is : (gs : List ScriptGlobal) (name places : List ℕ) (r : Option ℕ) → r ≡ first_place places → places ≡ places_of (global_names gs) name
    → r ≡ position (λ (g : ScriptGlobal). bytes_eq g.name name) gs
global_is gs name places r is e = is ∙ ap first_place e ∙ first_is (λ (g : ScriptGlobal). g.name) name gs

bytes_eq-sym : (xs ys : List ℕ) → bytes_eq xs ys ≡ bytes_eq ys xs
bytes_eq-sym xs ys = nat_list_eq_equiv.symm xs ys

itself : (xs : List (List ℕ)) → map (λ (x : List ℕ). x) xs ≡ xs
itself [] = refl
itself (x ∷ xs) = ap (λ r. x ∷ r) (itself xs)

name_first : (name : List ℕ) (names : List (List ℕ)) → first_place (places_of names name) ≡ position (bytes_eq name) names
name_first name names =
    ap (λ xs. first_place (places_of xs name)) (sym (itself names)) ∙ first_is (λ (x : List ℕ). x) name names
    ∙ (λ i. position (λ x. bytes_eq-sym x name i) names)

pub family_is : (fs : List Family) (name places : List ℕ) (r : Option ℕ) → r ≡ first_place places → places ≡ places_of (families_names fs) name
    → r ≡ position (bytes_eq name) (map (λ (f : Family). f.name) fs)
family_is fs name places r is e = is ∙ ap first_place e ∙ name_first name (families_names fs)

first_within : (n : ℕ) (xs : List (List ℕ)) (name : List ℕ) → IfSome (first_place (places_from n xs name)) (λ c. c < n + length xs)
first_within n [] name = tt
first_within n (x ∷ xs) name = by (bytes_eq x name) (first_within (n + 1) xs name)
  where
    by : (b : Bool) → IfSome (first_place (places_from (n + 1) xs name)) (λ c. c < (n + 1) + length xs)
        → IfSome (first_place (cond b (n ∷ places_from (n + 1) xs name) (places_from (n + 1) xs name))) (λ c. c < n + suc (length xs))
    by true later = omega arith
    by false later =
        let up : (n + 1) + length xs ≡ n + suc (length xs) = omega arith in
        subst (λ k. IfSome (first_place (places_from (n + 1) xs name)) (λ c. c < k)) up later

length_names : (fs : List Family) → 0 + length (families_names fs) ≡ length fs
length_names fs = let first : 0 + length (families_names fs) ≡ length (families_names fs) = omega arith in first ∙ length-map (λ (f : Family). f.name) fs

pub family_within : (fs : List Family) (name places : List ℕ) (r : Option ℕ) → r ≡ first_place places → places ≡ places_of (families_names fs) name
    → IfSome r (λ c. c < length fs)
family_within fs name places r is e =
    subst (λ o. IfSome o (λ c. c < length fs)) (sym (is ∙ ap first_place e))
    (subst (λ k. IfSome (first_place (places_of (families_names fs) name)) (λ c. c < k)) (length_names fs) (first_within 0 (families_names fs) name))

abbrev pub is_some_place : List ℕ → Bool
is_some_place [] = false
is_some_place (p ∷ ps) = true

pub any_step : (b : Bool) (n : ℕ) (ns : List ℕ) → is_some_place (cond b (n ∷ ns) ns) ≡ (b || is_some_place ns)
any_step true n ns = refl
any_step false n ns = refl

any_from : (n : ℕ) (name : List ℕ) (names : List (List ℕ)) → is_some_place (places_from n names name) ≡ list_any (bytes_eq name) names
any_from n name [] = refl
any_from n name (x ∷ xs) =
    any_step (bytes_eq x name) n (places_from (n + 1) xs name)
    ∙ (λ i. bytes_eq-sym x name i || any_from (n + 1) name xs i)

pub not_empty : (ns : List ℕ) → not (length ns == 0) ≡ is_some_place ns
not_empty [] = refl
not_empty (n ∷ ns) = let some : (suc (length ns) == 0) ≡ false = search arith in ap not some

pub any_place : (name : List ℕ) (names : List (List ℕ)) (places : List ℕ) → places ≡ places_of names name → not (length places == 0) ≡ list_any (bytes_eq name) names
any_place name names places e = not_empty places ∙ ap is_some_place e ∙ any_from 0 name names

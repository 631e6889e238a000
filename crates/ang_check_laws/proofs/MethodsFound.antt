-- Of a family the nearest method of a slot is the first of that slot in its own family.
use Rattle.std.specs.Prelude.{ℕ, ◌≡◌, ◌==◌, Bool, true, false, ◌||◌, cond, if◌then◌else◌, List, [], ◌∷◌, ◌++◌, filter, find, map, option_map, Option, Some, None}
use Rattle.std.specs.List.{list_any, flat_map}
use Rattle.std.specs.Option.{option_or}
use Rattle.std.proofs.Common.{refl, ap, sym, subst, ◌∙◌}
use Rattle.std.proofs.lemmas.Bool.{eq-eqb}
use Rattle.std.proofs.lemmas.Option.{same_Some}
use Rattle.ang_tree.specs.Stmt.{Every}
use Rattle.ang_names_known.specs.declared.names.Family.{Family}
use Rattle.ang_names_known.specs.declared.names.ScriptMethod.{ScriptMethod}
use Rattle.ang_names_known.specs.Items.{each_after}
use Rattle.ang_names_known.specs.Lookup.{Numbered, FoundMethod, methods_in, stands_in, if_nearest}
use Rattle.ang_check_sound.proofs.Items.{every_joined}
use Rattle.ang_check_laws.proofs.MethodsWalk.{at_slot}

-- ---- the first that passes

find_joined : {A : Type 0} (p : A → Bool) (xs ys : List A) → find p (xs ++ ys) ≡ option_or (find p xs) (find p ys)
find_joined p [] ys = refl
find_joined p (x ∷ xs) ys = by (p x) (find_joined p xs ys)
  where
    by : (b : Bool) → find p (xs ++ ys) ≡ option_or (find p xs) (find p ys)
        → cond b (Some x) (find p (xs ++ ys)) ≡ option_or (cond b (Some x) (find p xs)) (find p ys)
    by true h = refl
    by false h = h

joined_again : {A : Type 0} (xs : List A) (x : A) (ys : List A) → (xs ++ x ∷ []) ++ ys ≡ xs ++ x ∷ ys
joined_again [] x ys = refl
joined_again (y ∷ xs) x ys = ap (λ l. y ∷ l) (joined_again xs x ys)

none_before : {A : Type 0} (p : A → Bool) (xs : List A) → list_any p xs ≡ false → find p xs ≡ None
none_before p [] e = refl
none_before p (x ∷ xs) e = by (p x) e (none_before p xs)
  where
    by : (b : Bool) → (b || list_any p xs) ≡ false → (list_any p xs ≡ false → find p xs ≡ None) → cond b (Some x) (find p xs) ≡ None
    by true e h = cc
    by false e h = h e

find_mapped : (s n : ℕ) (ms : List ScriptMethod)
    → find (stands_in s) (map (λ (y : ScriptMethod). record { owner = n; method = y }) ms)
    ≡ option_map (λ (y : ScriptMethod). record { owner = n; method = y }) (find (at_slot s) ms)
find_mapped s n [] = refl
find_mapped s n (y ∷ ms) = by (y.slot == s) (find_mapped s n ms)
  where
    by : (b : Bool) → find (stands_in s) (map (λ (u : ScriptMethod). record { owner = n; method = u }) ms)
        ≡ option_map (λ (u : ScriptMethod). record { owner = n; method = u }) (find (at_slot s) ms)
        → cond b (Some (record { owner = n; method = y })) (find (stands_in s) (map (λ (u : ScriptMethod). record { owner = n; method = u }) ms))
        ≡ option_map (λ (u : ScriptMethod). record { owner = n; method = u }) (cond b (Some y) (find (at_slot s) ms))
    by true h = refl
    by false h = h

-- ---- where it is found

pub record IsFirstOf (P : Numbered → Type 0) (s : ℕ) (x : FoundMethod) : Type 0 where
  pub family : Family
  pub of : P (x.owner, family)
  pub first : find (at_slot s) family.methods ≡ Some x.method

kin_by : (P : Numbered → Type 0) (s : ℕ) (x : FoundMethod) (g : Numbered) (kin : List Numbered) (o : Option ScriptMethod) → P g → find (at_slot s) g.1.methods ≡ o
    → option_or (option_map (λ (y : ScriptMethod). record { owner = g.0; method = y }) o) (find (stands_in s) (flat_map methods_in kin)) ≡ Some x
    → (find (stands_in s) (flat_map methods_in kin) ≡ Some x → IsFirstOf P s x) → IsFirstOf P s x
kin_by P s x g kin None h at e go = go e
kin_by P s x g kin (Some y) h at e go =
    let same : record { owner = g.0; method = y } ≡ x = same_Some (record { owner = g.0; method = y }) x e in
    subst (IsFirstOf P s) same (record { family = g.1; of = h; first = at })

pub in_kin : (P : Numbered → Type 0) (s : ℕ) (x : FoundMethod) (kin : List Numbered) → Every P kin → find (stands_in s) (flat_map methods_in kin) ≡ Some x → IsFirstOf P s x
in_kin P s x [] h e = cc
in_kin P s x (g ∷ kin) h e =
    kin_by P s x g kin (find (at_slot s) g.1.methods) h.0 refl
    (ap (λ o. option_or o (find (stands_in s) (flat_map methods_in kin))) (sym (find_mapped s g.0 g.1.methods))
    ∙ sym (find_joined (stands_in s) (methods_in g) (flat_map methods_in kin)) ∙ e)
    (λ rest. in_kin P s x kin h.1 rest)

-- ---- the nearest are the first of their slots

abbrev pub IsNearest : List FoundMethod → FoundMethod → Type 0
IsNearest xs x = find (stands_in x.method.slot) xs ≡ Some x

here_first : (x : FoundMethod) (xs : List FoundMethod) → find (stands_in x.method.slot) (x ∷ xs) ≡ Some x
here_first x xs = ap (λ b. cond b (Some x) (find (stands_in x.method.slot) xs)) (eq-eqb x.method.slot x.method.slot refl)

nearest_one : (before xs : List FoundMethod) (x : FoundMethod) (b : Bool) → list_any (stands_in x.method.slot) before ≡ b
    → Every (IsNearest (before ++ x ∷ xs)) (if b then [] else x ∷ [])
nearest_one before xs x true e = tt
nearest_one before xs x false e = (
  find_joined (stands_in x.method.slot) before (x ∷ xs)
      ∙ ap (λ o. option_or o (find (stands_in x.method.slot) (x ∷ xs))) (none_before (stands_in x.method.slot) before e) ∙ here_first x xs,
  tt,
)

pub nearest_first : (before xs : List FoundMethod) → Every (IsNearest (before ++ xs)) (each_after if_nearest before xs)
nearest_first before [] = tt
nearest_first before (x ∷ xs) =
    every_joined (IsNearest (before ++ x ∷ xs)) (if_nearest before x) (each_after if_nearest (before ++ x ∷ []) xs)
    (nearest_one before xs x (list_any (stands_in x.method.slot) before) refl)
    (subst (λ l. Every (IsNearest l) (each_after if_nearest (before ++ x ∷ []) xs)) (joined_again before x xs) (nearest_first (before ++ x ∷ []) xs))

-- Among all, where each of the slot passes the test besides.
kept_first : (p q : FoundMethod → Bool) (y x : FoundMethod) (xs : List FoundMethod) (b c : Bool) → p y ≡ b → q y ≡ c → (p y ≡ true → q y ≡ true)
    → find p (if c then y ∷ filter q xs else filter q xs) ≡ Some x → (find p (filter q xs) ≡ Some x → find p xs ≡ Some x) → cond b (Some y) (find p xs) ≡ Some x
kept_first p q y x xs true true e f h k go = sym (ap (λ b. cond b (Some y) (find p (filter q xs))) e) ∙ k
kept_first p q y x xs true false e f h k go = let wrong : true ≡ false = sym (h e) ∙ f in cc
kept_first p q y x xs false true e f h k go = go (sym (ap (λ b. cond b (Some y) (find p (filter q xs))) e) ∙ k)
kept_first p q y x xs false false e f h k go = go k

pub first_of_all : (p q : FoundMethod → Bool) (x : FoundMethod) (xs : List FoundMethod) → Every (λ y. p y ≡ true → q y ≡ true) xs → find p (filter q xs) ≡ Some x
    → find p xs ≡ Some x
first_of_all p q x [] h e = e
first_of_all p q x (y ∷ xs) h e = kept_first p q y x xs (p y) (q y) refl refl h.0 e (λ k. first_of_all p q x xs h.1 k)

-- What is found among those that pass a test passes it.
passes_by : (p q : FoundMethod → Bool) (y x : FoundMethod) (xs : List FoundMethod) (b c : Bool) → p y ≡ b → q y ≡ c
    → find p (if c then y ∷ filter q xs else filter q xs) ≡ Some x → (find p (filter q xs) ≡ Some x → q x ≡ true) → q x ≡ true
passes_by p q y x xs true true e f k go =
    let same : y ≡ x = same_Some y x (sym (ap (λ b. cond b (Some y) (find p (filter q xs))) e) ∙ k) in subst (λ u. q u ≡ true) same f
passes_by p q y x xs true false e f k go = go k
passes_by p q y x xs false true e f k go = go (sym (ap (λ b. cond b (Some y) (find p (filter q xs))) e) ∙ k)
passes_by p q y x xs false false e f k go = go k

pub kept_passes : (p q : FoundMethod → Bool) (x : FoundMethod) (xs : List FoundMethod) → find p (filter q xs) ≡ Some x → q x ≡ true
kept_passes p q x [] e = cc
kept_passes p q x (y ∷ xs) e = passes_by p q y x xs (p y) (q y) refl refl e (kept_passes p q x xs)

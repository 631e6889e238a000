-- The families of names are few, and what stands above each is among them.
use Rattle.std.specs.Prelude.{ℕ, zero, suc, ◌≡◌, ◌≢◌, ◌≤◌, ◌<◌, ◌⊎◌, Bool, true, false, if◌then◌else◌, All, Contains, List, [], ◌∷◌, ◌++◌, length, slice_index_or, Some, None, IsSome, is_some, option_to_list}
use Rattle.std.proofs.Common.{arith, refl, sym, subst, ap, inl, inr, ◌∙◌, length-append}
use Rattle.ang_kinds.specs.declared.error.Error.{Error}
use Rattle.std.proofs.lemmas.List.Elements.{All-append}
use Rattle.ang_types.specs.declared.asks.Refused.{Refused}
use Rattle.ang_view.specs.Registration.{RegistrationList}
use Rattle.ang_names_graph.specs.Graphs.{above, leads, numbers_below}
use Rattle.ang_names_known.specs.declared.names.Family.{Family}
use Rattle.ang_names_known.specs.Items.{each_after, list_or}
use Rattle.ang_names_known.specs.Spaces.{AreFamilies, Space}
use Rattle.ang_names_listed.specs.declared.listed.ListedDeclaration.{ListedDeclaration}
use Rattle.ang_names_listed.specs.Declarations.{Declaring, declarations_of, families_of}
use Rattle.ang_names_listed.specs.Taken.{is_first_above, is_taken, name_refusal, name_refusals}
use Rattle.ang_types.specs.Refusals.{plain_refusal}
use Rattle.ang_names_listed.proofs.Few as listed
use Rattle.ang_names_listed.specs.Sources.{Source}
use Rattle.ang_names.specs.Phases as phase
use Rattle.ang_names.specs.Phases.{all_phases, errors_in, first_refusals, refusals_of}
use Rattle.ang_names_classes.specs.Headings.{signatures_of}
use Rattle.ang_names_classes.specs.Hierarchy.{is_parent}
use Rattle.ang_names_classes.specs.Resolved.{families_after, families_in, functions_in, names_of, space_of_declared}

module _ {A B : Type 0} (f : List A → A → List B) where
  -- where each item gives one there are as many
  as_many : ((before : List A) (x : A) → length (f before x) ≡ 1) → (before xs : List A) → length (each_after f before xs) ≡ length xs
  as_many one before [] = refl
  as_many one before (x ∷ xs) =
      omega (arith, length-append (f before x) (each_after f (before ++ x ∷ []) xs), one before x, as_many one (before ++ x ∷ []) xs)

  -- what holds of all that each item gives
  holds_of_all : (P : B → Type 0) → ((before : List A) (x : A) → All P (f before x)) → (before xs : List A) → All P (each_after f before xs)
  holds_of_all P h before [] = λ k d lt. absurd (omega (arith, lt))
  holds_of_all P h before (x ∷ xs) = All-append P (f before x) _ (h before x) (holds_of_all P h (before ++ x ∷ []) xs)

one_small : (n m : ℕ) → n < m → (k : ℕ) (d : ℕ) → k < length (n ∷ []) → slice_index_or (n ∷ []) k d < m
one_small n m lt zero d l = lt
one_small n m lt (suc k) d l = absurd (omega (arith, l))

own_small : (b : Bool) (n m : ℕ) → n < m → All (λ k. k < m) (if b then n ∷ [] else [])
own_small true n m lt = one_small n m lt
own_small false n m lt = λ k d l. absurd (omega (arith, l))

numbers_small : (p : ℕ → Bool) (n m : ℕ) → n ≤ m → All (λ k. k < m) (numbers_below p n)
numbers_small p zero m le = λ k d l. absurd (omega (arith, l))
numbers_small p (suc n) m le = All-append (λ k. k < m) (numbers_below p n) _ (numbers_small p n m (omega arith)) (own_small (p n) n m le)

above_small : (e : ℕ → ℕ → Bool) (n i : ℕ) → All (λ k. k < n) (above e n i)
unfolding above
above_small e n i = numbers_small (leads e n i) n n (omega arith)

module _ (E : Space) (ds : List ListedDeclaration) where
  abbrev made : List Declaring → Declaring → List Family
  made = families_after E (families_of ds) (signatures_of E (families_of ds)) (length (functions_in E ds))

  pub family_number : length (families_in E ds) ≡ length (families_of ds)
  unfolding families_in
  family_number = as_many made (λ before d. refl) [] (families_of ds)

  one_above : (n : ℕ) → length (families_of ds) ≡ n → (before : List Declaring) (d : Declaring) (k : ℕ) (x : Family) → k < length (made before d)
      → All (λ j. j < n) (slice_index_or (made before d) k x).above
  one_above n e before d zero x l = subst (λ n. All (λ j. j < n) (above (is_parent (families_of ds)) (length (families_of ds)) (length before))) e
      (above_small (is_parent (families_of ds)) (length (families_of ds)) (length before))
  one_above n e before d (suc k) x l = absurd (omega (arith, l))

  all_above : (n : ℕ) → length (families_of ds) ≡ n → All (λ (f : Family). All (λ j. j < n) f.above) (families_in E ds)
  unfolding families_in
  all_above n e = holds_of_all made (λ (f : Family). All (λ j. j < n) f.above) (one_above n e) [] (families_of ds)

  families_are : length (families_of ds) ≤ 256 → AreFamilies (families_in E ds)
  families_are le = record {
    few = subst (λ n. n ≤ 256) (sym family_number) le;
    above = all_above (length (families_in E ds)) (sym family_number);
  }

pub are_families : (V : RegistrationList) (ds : List ListedDeclaration) → length (families_of ds) ≤ 256 → AreFamilies (names_of V ds).families
unfolding names_of
are_families V ds le = families_are (space_of_declared V ds) ds le

first_empty : {A : Type 0} (xs ys : List A) → list_or xs ys ≡ [] → xs ≡ []
first_empty [] ys e = refl
first_empty (x ∷ xs) ys e = cc

pub few_where_none : (V : RegistrationList) (all : List ListedDeclaration) (found : List Refused) → found ≡ name_refusals V all → found ≡ []
    → length (families_of all) ≤ 256
few_where_none V all found e empty = listed.names_are_few V all (sym e ∙ empty)

-- the phases decide
pub phases_decide : (V : RegistrationList) (ss : List Source) (all : List ListedDeclaration) → all ≡ declarations_of ss → first_refusals V all all_phases ≡ refusals_of V ss
unfolding refusals_of
phases_decide V ss all l = ap (λ ds. first_refusals V ds all_phases) l

pub accepted_few : (V : RegistrationList) (ss : List Source) → refusals_of V ss ≡ [] → length (families_of (declarations_of ss)) ≤ 256
unfolding refusals_of name_refusals
accepted_few V ss e =
    let names : name_refusals V (declarations_of ss) ≡ [] = first_empty (name_refusals V (declarations_of ss)) _ e in
    listed.names_are_few V (declarations_of ss) names

pub accepted_families : (V : RegistrationList) (ss : List Source) → refusals_of V ss ≡ [] → AreFamilies (names_of V (declarations_of ss)).families
accepted_families V ss e = are_families V (declarations_of ss) (accepted_few V ss e)

-- where something is refused there is an error
pub some_errors : (rs : List Refused) → rs ≢ [] → errors_in rs ≢ []
some_errors [] h = absurd (h refl)
some_errors (r ∷ rs) h = λ e. cc

-- ---- what asks is refused after the first phase

abbrev AsksNothing : Refused → Type 0
AsksNothing r = r.asks ≡ None

one_silent : (r : Refused) → AsksNothing r → (k : ℕ) (d : Refused) → k < length (r ∷ []) → AsksNothing (slice_index_or (r ∷ []) k d)
one_silent r h zero d l = h
one_silent r h (suc k) d l = absurd (omega (arith, l))

choice_silent : (taken above : Bool) (e f : Error) → All AsksNothing (option_to_list (if taken then Some (plain_refusal e) else (if above then Some (plain_refusal f) else None)))
choice_silent true above e f = one_silent (plain_refusal e) refl
choice_silent false true e f = one_silent (plain_refusal f) refl
choice_silent false false e f = λ k d l. absurd (omega (arith, l))

names_silent : (V : RegistrationList) (all : List ListedDeclaration) → All AsksNothing (name_refusals V all)
unfolding name_refusals name_refusal
names_silent V all =
    holds_of_all (λ before d. option_to_list (name_refusal V before d)) AsksNothing
    (λ before d. choice_silent (is_taken V before d) (is_first_above before d.part) _ _) [] all

silent_in : (rs : List Refused) (r : Refused) → All AsksNothing rs → Contains rs r → IsSome r.asks → ⊥
silent_in rs r h c asks =
    let none : r.asks ≡ None = subst AsksNothing c.2 (h c.0 r c.1) in
    let no' : true ≡ false = sym asks ∙ ap is_some none in
    cc

either_list : {A : Type 0} (xs ys : List A) → (list_or xs ys ≡ xs) ⊎ ((xs ≡ []) × (list_or xs ys ≡ ys))
either_list [] ys = inr (refl, refl)
either_list (x ∷ xs) ys = inl refl

abbrev later_phases : RegistrationList → List ListedDeclaration → List Refused
later_phases V ds = first_refusals V ds (phase.Types ∷ phase.Ancestors ∷ phase.Heirs ∷ phase.Cycles ∷ [])

pub asked_families : (V : RegistrationList) (ss : List Source) (r : Refused) → Contains (refusals_of V ss) r → IsSome r.asks → length (families_of (declarations_of ss)) ≤ 256
unfolding refusals_of name_refusals
asked_families V ss r c asks =
    let ds = declarations_of ss in
    elim (either_list (name_refusals V ds) (later_phases V ds)) [
      | inl e ↦ absurd (silent_in (name_refusals V ds) r (names_silent V ds) (subst (λ rs. Contains rs r) e c) asks)
      | inr free ↦ listed.names_are_few V ds free.0
    ]

-- Classes and interfaces by name, the second phase in a space, and lists of what is refused.
use Rattle.std.specs.Prelude.{ℕ, suc, ◌≡◌, ◌+◌, ◌==◌, Bool, true, false, IfOk, Result, Ok, Err, List, [], ◌∷◌, length, Option, Some, None, option_map, option_to_list, slice_get, if◌then◌else◌, bytes_eq}
use Rattle.std.specs.List.{position_from}
use Rattle.std.proofs.Common.{refl, sym, ap, ◌∙◌, arith}
use Rattle.std.proofs.lemmas.Iterator.Adapters.{position_from-zero}
use Rattle.std.proofs.lemmas.Bool.{eqb-true}
use Rattle.ang_types.specs.declared.asks.Refused.{Refused}
use Rattle.ang_view.specs.Registration.{RegistrationList}
use Rattle.ang_names_known.specs.Items.{each_after}
use Rattle.ang_names_known.specs.Spaces.{Space}
use Rattle.ang_names_listed.specs.declared.listed.ListedDeclaration.{ListedDeclaration}
use Rattle.ang_names_listed.specs.Declarations.{Declaring, families_of, family_name}
use Rattle.ang_names_listed.specs.declared.listed.ListedFamily.{ListedFamily}
use Rattle.ang_names_classes.specs.Hierarchy.{place_of}
use Rattle.ang_names_classes.specs.Resolved.{space_of_declared}
use Rattle.ang_names.specs.Phases as phase
use Rattle.ang_names.specs.Refusals.{part_refusal, shape_named, type_refusal}
use Rattle.ang_names.specs.Phases.{refusals}

-- what the family of this number declares
abbrev pub shape_at : List Declaring → Option ℕ → Option ListedFamily
shape_at all None = None
shape_at all (Some n) = option_map (λ (d : Declaring). d.shape) (slice_get all n)

module _ (all : List Declaring) (name : List ℕ) where
  by_name : (b : Bool) (d : Declaring) (n : ℕ) (later : Option ListedFamily) (place : Option ℕ) → slice_get all n ≡ Some d → shape_at all place ≡ later
      → shape_at all (if b then Some n else place) ≡ (if b then Some d.shape else later)
  by_name true d n later place is e = ap (option_map (λ (x : Declaring). x.shape)) is
  by_name false d n later place is e = e

  shape_from : (xs : List Declaring) (n : ℕ) → ((k : ℕ) → slice_get all (n + k) ≡ slice_get xs k)
      → shape_at all (position_from (λ (d : Declaring). bytes_eq (family_name d) name) n xs) ≡ shape_named xs name
  shape_from [] n stands = refl
  shape_from (x ∷ xs) n stands =
      let first : n + 0 ≡ n = omega arith in
      by_name (bytes_eq (family_name x) name) x n (shape_named xs name) (position_from (λ (d : Declaring). bytes_eq (family_name d) name) (n + 1) xs)
      (ap (slice_get all) (sym first) ∙ stands 0)
      (shape_from xs (n + 1) (λ k. let up : (n + 1) + k ≡ n + suc k = omega arith in ap (slice_get all) up ∙ stands (suc k)))

  -- a name is the one of the family at its place
  shape_placed : shape_at all (place_of all name) ≡ shape_named all name
  shape_placed =
      ap (shape_at all) (position_from-zero (λ (d : Declaring). bytes_eq (family_name d) name) all)
      ∙ shape_from all 0 (λ k. let first : 0 + k ≡ k = omega arith in ap (slice_get all) first)

pub no_shape : (all : List Declaring) (name : List ℕ) → place_of all name ≡ None → None ≡ shape_named all name
no_shape all name e = ap (shape_at all) (sym e) ∙ shape_placed all name

pub shape_there : (all : List Declaring) (name : List ℕ) (n : ℕ) (s : Option ListedFamily) → place_of all name ≡ Some n
    → s ≡ option_map (λ (d : Declaring). d.shape) (slice_get all n) → s ≡ shape_named all name
shape_there all name n s e is = is ∙ ap (shape_at all) (sym e) ∙ shape_placed all name

-- what is refused of the types of declarations in a space, of all of which these are a part
abbrev pub refused_after : Space → List Declaring → List ListedDeclaration → List ListedDeclaration → List Refused
refused_after E families before ds = each_after (λ (front : List ListedDeclaration) (d : ListedDeclaration). option_to_list (part_refusal E families d d.part)) before ds

pub second_phase : (V : RegistrationList) (all : List ListedDeclaration) (E : Space) (families : List Declaring) → E ≡ space_of_declared V all
    → families ≡ families_of all → refused_after E families [] all ≡ refusals V all phase.Types
unfolding type_refusal
second_phase V all E families e f = λ i. refused_after (e i) (f i) [] all

-- what is the same as something that was found, where anything was
pub found_as : {R X A : Type 0} (items : R → A) (x y : A) (r : Result R X) → IfOk r (λ v. items v ≡ x) → x ≡ y → IfOk r (λ v. items v ≡ y)
found_as items x y (Ok v) h e = h ∙ e
found_as items x y (Err z) h e = h

-- a list of no items, as a `Vec` counts them
pub none_left : {A : Type 0} (xs : List A) (n : ℕ) → n ≡ length xs → (n == 0) ≡ true → xs ≡ []
none_left [] n e z = refl
none_left (x ∷ xs) n e z =
    let none : n ≡ 0 = eqb-true n 0 z in absurd (omega (arith, none, e))

-- Where no name is refused there are few classes and interfaces.
use Rattle.std.specs.Prelude.{ℕ, ◌≡◌, ◌≢◌, ◌≤◌, ◌+◌, ◌==◌, Bool, true, false, if◌then◌else◌, List, [], ◌∷◌, ◌++◌, length, filter_map, Some, None, option_to_list}
use Rattle.std.specs.List.{cons_option}
use Rattle.std.proofs.Common.{arith, refl, sym, subst, ap, ◌∙◌, length-append}
use Rattle.std.proofs.lemmas.Bool.{eqb-false}
use Rattle.std.proofs.lemmas.List.{append_assoc, append-nil}
use Rattle.std.proofs.lemmas.List.Elements.{filter_map-append}
use Rattle.ang_types.specs.declared.asks.Refused.{Refused}
use Rattle.ang_view.specs.Registration.{RegistrationList}
use Rattle.ang_names_known.specs.Items.{each_after}
use Rattle.ang_names_listed.specs.declared.listed.ListedDeclaration.{ListedDeclaration}
use Rattle.ang_names_listed.specs.declared.listed.Part.{Part}
use Rattle.ang_names_listed.specs.declared.listed.Part.TheVariants as part
use Rattle.ang_names_listed.specs.Declarations.{declaring_by, declaring_of, families_of}
use Rattle.ang_names_listed.specs.Taken.{is_taken, is_first_above, name_refusal, name_refusals}

both_empty : {A : Type 0} (xs ys : List A) → xs ++ ys ≡ [] → (xs ≡ []) × (ys ≡ [])
both_empty [] ys e = (refl, e)
both_empty (x ∷ xs) ys e = cc

not_above : (taken above : Bool) (r s : Refused) → option_to_list (if taken then Some r else (if above then Some s else None)) ≡ [] → above ≡ false
not_above true above r s e = cc
not_above false true r s e = cc
not_above false false r s e = refl

-- how many one declaration more leaves
counted : (before : List ListedDeclaration) (d : ListedDeclaration) → length (families_of (before ++ d ∷ [])) ≡ length (families_of before) + length (cons_option (declaring_of d) [])
unfolding families_of
counted before d = ap length (filter_map-append declaring_of before (d ∷ [])) ∙ length-append (filter_map declaring_of before) (cons_option (declaring_of d) [])

below : (n : ℕ) → (n == 256) ≡ false → n ≤ 256 → n + 1 ≤ 256
below n e le = let ne : n ≢ 256 = eqb-false n 256 e in grind (arith, ne)

still_few : (before : List ListedDeclaration) (d : ListedDeclaration) (p : Part) → is_first_above before p ≡ false → length (families_of before) ≤ 256
    → length (families_of before) + length (cons_option (declaring_by d p) []) ≤ 256
still_few before d (part.Family s) e le = below (length (families_of before)) e le
still_few before d (part.Function y ps) e le = omega arith
still_few before d (part.Import y ps) e le = omega arith
still_few before d (part.Global y) e le = omega arith

module _ (V : RegistrationList) where
  one_more : (before : List ListedDeclaration) (d : ListedDeclaration) → option_to_list (name_refusal V before d) ≡ [] → length (families_of before) ≤ 256
      → length (families_of (before ++ d ∷ [])) ≤ 256
  unfolding name_refusal
  one_more before d e le =
      subst (λ n. n ≤ 256) (sym (counted before d)) (still_few before d d.part (not_above (is_taken V before d) (is_first_above before d.part) _ _ e) le)

  few_after : (before ds : List ListedDeclaration) → each_after (λ front d. option_to_list (name_refusal V front d)) before ds ≡ []
      → length (families_of before) ≤ 256 → length (families_of (before ++ ds)) ≤ 256
  few_after before [] e le = subst (λ ds. length (families_of ds) ≤ 256) (sym (append-nil before)) le
  few_after before (d ∷ ds) e le =
      let parts = both_empty (option_to_list (name_refusal V before d)) _ e in
      subst (λ all. length (families_of all) ≤ 256) (append_assoc before (d ∷ []) ds)
      (few_after (before ++ d ∷ []) ds parts.1 (one_more before d parts.0 le))

  pub names_are_few : (all : List ListedDeclaration) → name_refusals V all ≡ [] → length (families_of all) ≤ 256
  unfolding name_refusals families_of
  names_are_few all e = few_after [] all e (omega arith)

-- The number that a text names is the first with its heading.
use Rattle.std.proofs.Common.{◌≡◌, ℕ, zero, suc, ◌<◌, ◌≤◌, Bool, true, false, cond, ltb, List, [], ◌∷◌, length, get_or, Option, Some, None, refl, sym, ap, ◌∙◌, arith}
use Rattle.std.specs.Prelude.{IfSome, slice_get}
use Rattle.std.specs.List.{position, position_or_len}
use Rattle.std.proofs.lemmas.Bool.Decides.{nat_tests}
use Rattle.std.proofs.lemmas.List.Quantifiers.{position-Some}
use Rattle.std.proofs.lemmas.List.Sums.{fails_before_first}
use Rattle.ang_view.specs.Registration.{RegistrationList}
use Rattle.ang_names_known.specs.declared.names.Names.{Names}
use Rattle.ang_names_known.specs.declared.names.ScriptFunction.{ScriptFunction}
use Rattle.ang_names_known.specs.Lookup.{function_with, same_heading}
use Rattle.ang_names_known.specs.Spaces.{space_of_names}
use Rattle.ang_engine_call.specs.Declaration.{declared_by}
use Rattle.ang_engine_call.specs.Headings.{heading_of}
use Rattle.ang_engine_call.specs.Named.{IsNamedBy, number_of, function_named_by}
use Rattle.ang_engine_call.proofs.SameHeading.{heading-Decides}

-- ---- lists

within_is : {X : Type 0} (xs : List X) (i : ℕ) (d : X) → i < length xs → slice_get xs i ≡ Some (get_or xs i d)
within_is [] i d h = absurd (omega arith)
within_is (x ∷ xs) zero d h = refl
within_is (x ∷ xs) (suc i) d h = within_is xs i d (omega arith)

got_within : {X : Type 0} (xs : List X) (i : ℕ) (x d : X) → slice_get xs i ≡ Some x → (i < length xs) × (get_or xs i d ≡ x)
got_within [] i x d e = cc
got_within (y ∷ ys) zero x d e = (omega arith, cc)
got_within (y ∷ ys) (suc i) x d e = let h = got_within ys i x d e in (omega arith, h.1)

-- no item in front of the place, and none at all without a place
before_place : {X : Type 0} (p : X → Bool) (xs : List X) (i k : ℕ) (x d : X) → position p xs ≡ Some i → k < i → slice_get xs k ≡ Some x → p x ≡ false
before_place p xs i k x d e below at =
    ap p (sym (got_within xs k x d at).1) ∙ (position-Some p xs i d e).2 k below

without_place : {X : Type 0} (p : X → Bool) (xs : List X) (k : ℕ) (x d : X) → position p xs ≡ None → slice_get xs k ≡ Some x → p x ≡ false
without_place p xs k x d e at =
    let got = got_within xs k x d at in
    let far : length xs ≤ position_or_len p xs = past (position_or_len p xs) (length xs) e in
    ap p (sym got.1) ∙ fails_before_first p xs k d (omega arith)
  where
    past : (n m : ℕ) → cond (ltb n m) (Some n) None ≡ None → m ≤ n
    past n m e = grind (arith, nat_tests)

-- ---- functions

-- the place of a function of this heading is among them
pub place_within : (fs : List ScriptFunction) (f : ScriptFunction) → IfSome (function_with fs f) (λ n. n < length fs)
unfolding function_with
place_within fs f = below (position (same_heading f) fs) refl
  where
    below : (o : Option ℕ) → position (same_heading f) fs ≡ o → IfSome o (λ n. n < length fs)
    below None e = tt
    below (Some n) e = (position-Some (same_heading f) fs n f e).0

abbrev Named : Option ScriptFunction → List ScriptFunction → ℕ → Type 0
Named d fs n = (f : ScriptFunction) × (g : ScriptFunction) × (d ≡ Some f) × (slice_get fs n ≡ Some g) × (heading_of g ≡ heading_of f)

found_is : (d : Option ScriptFunction) (fs : List ScriptFunction) (n : ℕ) → number_of d fs ≡ Some n → Named d fs n
unfolding function_with
found_is None fs n e = cc
found_is (Some f) fs n e =
    let h = position-Some (same_heading f) fs n f e in
    (f, get_or fs n f, refl, within_is fs n f h.0, sym ((heading-Decides f (get_or fs n f)).0 h.1))

differs : (f g h : ScriptFunction) → Some f ≡ Some h → heading_of g ≡ heading_of h → same_heading f g ≡ false → ⊥
differs f g h e same fails =
    let own : f ≡ h = cc in
    let holds : same_heading f g ≡ true = (heading-Decides f g).1 (ap heading_of own ∙ sym same) in
    cc

none_before : (d : Option ScriptFunction) (fs : List ScriptFunction) (n k : ℕ) → number_of d fs ≡ Some n → k < n → Named d fs k → ⊥
unfolding function_with
none_before None fs n k e below named = cc
none_before (Some f) fs n k e below named =
    differs f named.1 named.0 named.2 named.4 (before_place (same_heading f) fs n k named.1 f e below named.3)

none_at_all : (d : Option ScriptFunction) (fs : List ScriptFunction) (k : ℕ) → number_of d fs ≡ None → Named d fs k → ⊥
unfolding function_with
none_at_all None fs k e named = let clash : None ≡ Some named.0 = named.2 in cc
none_at_all (Some f) fs k e named =
    differs f named.1 named.0 named.2 named.4 (without_place (same_heading f) fs k named.1 f e named.3)

-- ---- the laws

module _ (V : RegistrationList) (names : Names) (decl : List ℕ) where
  named_from : (n : ℕ) → IsNamedBy V names decl n → Named (declared_by (space_of_names V names) decl) names.functions n
  named_from n h = (h.declared, h.function, h.has, h.at, h.same)

  pub found : (n : ℕ) → function_named_by V names decl ≡ Some n → IsNamedBy V names decl n
  unfolding function_named_by
  found n e =
      let h = found_is (declared_by (space_of_names V names) decl) names.functions n e in
      record { declared = h.0; has = h.2; function = h.1; at = h.3; same = h.4 }

  pub first : (n k : ℕ) → function_named_by V names decl ≡ Some n → k < n → IsNamedBy V names decl k → ⊥
  unfolding function_named_by
  first n k e below h = none_before (declared_by (space_of_names V names) decl) names.functions n k e below (named_from k h)

  pub only : (k : ℕ) → function_named_by V names decl ≡ None → IsNamedBy V names decl k → ⊥
  unfolding function_named_by
  only k e h = none_at_all (declared_by (space_of_names V names) decl) names.functions k e (named_from k h)

-- What a name means over a view of which some entries alone are kept.
use Rattle.std.proofs.Common.{inl, inr, ◌≡◌, ℕ, ◌+◌, ◌<◌, ◌≤◌, Bool, true, false, ◌&&◌, cond, ltb, List, length, get_or, Option, Some, None, refl, sym, ap, subst, ◌∙◌, arith}
use Rattle.std.specs.Prelude.{bytes_eq}
use Rattle.std.specs.List.{position, position_or_len}
use Rattle.std.proofs.lemmas.Bool.{cases_order}
use Rattle.std.proofs.lemmas.Bool.Decides.{nat_tests}
use Rattle.std.proofs.lemmas.List.Quantifiers.{position-Some}
use Rattle.std.proofs.lemmas.List.Sums.{fails_before_first}
use Rattle.std.proofs.lemmas.Slice.Eq.{bytes_eq-Decides}
use Rattle.ang_view.specs.declared.entry.Entry.{Entry}
use Rattle.ang_view.specs.Only.{only}
use Rattle.ang_view.specs.Registration.{RegistrationList, entry_at, is_host_type}
use Rattle.ang_view.specs.Types.{enumeration_named, is_enumeration, is_enumeration_named, is_type_named, type_named}
use Rattle.ang_view.proofs.Entries.{entry_at-lt}
use Rattle.ang_view.proofs.Keeping.{entry_at-only, length-only}
use Rattle.ang_names_known.specs.declared.space.Named.{Named}
use Rattle.ang_names_known.specs.declared.space.Named.TheVariants as named
use Rattle.ang_names_known.specs.Spaces.{Space, family_or_host, family_type, first_family, type_of_name}

-- ---- the first place at which a test passes

position_none : {X : Type 0} (p : X → Bool) (xs : List X) (k : ℕ) (d : X) → position p xs ≡ None → k < length xs → p (get_or xs k d) ≡ false
position_none p xs k d e within =
    let far : length xs ≤ position_or_len p xs = past (position_or_len p xs) (length xs) e in fails_before_first p xs k d (omega (arith, far, within))
  where
    past : (n m : ℕ) → cond (ltb n m) (Some n) None ≡ None → m ≤ n
    past n m e = grind (arith, nat_tests)

position_at : {X : Type 0} (p : X → Bool) (xs : List X) (n : ℕ) (d : X) → n < length xs → p (get_or xs n d) ≡ true → ((k : ℕ) → k < n → p (get_or xs k d) ≡ false)
    → position p xs ≡ Some n
position_at p xs n d within passes before = by (position p xs) refl
  where
    clash : (b : Bool) → b ≡ true → b ≡ false → ⊥
    clash true e f = cc
    clash false e f = cc

    by : (o : Option ℕ) → position p xs ≡ o → o ≡ Some n
    by None e = absurd (clash (p (get_or xs n d)) passes (position_none p xs n d e within))
    by (Some m) e =
        let at = position-Some p xs m d e in
        elim (cases_order m n) [
          | inl same ↦ ap Some same
          | inr (inl less) ↦ absurd (clash (p (get_or xs m d)) at.1 (before m less))
          | inr (inr more) ↦ absurd (clash (p (get_or xs n d)) passes (at.2 n more))
        ]

-- two names that are both an entry's are one
one_name : (b : Bool) (own name other : List ℕ) → (b && bytes_eq own name) ≡ true → (b && bytes_eq own other) ≡ true → other ≡ name
one_name true own name other e f = sym ((bytes_eq-Decides own other).0 f) ∙ (bytes_eq-Decides own name).0 e
one_name false own name other e f = cc

-- ---- in a list of which some entries are kept

module _ (V : RegistrationList) (keep : ℕ → Bool) (p : Option Entry → Bool) (blank : p None ≡ false) where
  passed_by : (b : Bool) (o : Option Entry) → p (cond b o None) ≡ true → (b ≡ true) × (p o ≡ true)
  passed_by true o e = (refl, e)
  passed_by false o e = let x : false ≡ true = sym blank ∙ e in cc

  failed_by : (b : Bool) (o : Option Entry) → p o ≡ false → p (cond b o None) ≡ false
  failed_by true o e = e
  failed_by false o e = blank

  kept_by : (b : Bool) (o : Option Entry) → b ≡ true → p o ≡ true → p (cond b o None) ≡ true
  kept_by true o k e = e
  kept_by false o k e = cc

  -- what passes in the narrower list was kept, and passes in the other
  pub passes : (n : ℕ) → p (entry_at (only keep V) n) ≡ true → (keep n ≡ true) × (p (entry_at V n) ≡ true)
  passes n e = passed_by (keep n) (entry_at V n) (ap p (sym (entry_at-only keep V n)) ∙ e)

  -- the first that passes is the first in the narrower list, where it is kept
  pub position_kept : (n : ℕ) → position p V ≡ Some n → keep n ≡ true → position p (only keep V) ≡ Some n
  position_kept n e kept =
      let at = position-Some p V n None e in
      let same = length-only keep V in
      let within : n < length V = at.0 in
      position_at p (only keep V) n None (omega (arith, within, same))
      (ap p (entry_at-only keep V n) ∙ kept_by (keep n) (entry_at V n) kept at.1)
      (λ k less. ap p (entry_at-only keep V k) ∙ failed_by (keep k) (entry_at V k) (at.2 k less))

  pub position_gone : position p V ≡ None → position p (only keep V) ≡ None
  position_gone e = by (position p (only keep V)) refl
    where
      clash : (b : Bool) → b ≡ true → b ≡ false → ⊥
      clash true e f = cc
      clash false e f = cc

      by : (o : Option ℕ) → position p (only keep V) ≡ o → o ≡ None
      by None f = refl
      by (Some n) f =
          let at = position-Some p (only keep V) n None f in
          let same = length-only keep V in
          let within : n < length (only keep V) = at.0 in
          absurd (clash (p (entry_at V n)) (passes n at.1).1 (position_none p V n None e (omega (arith, within, same))))

-- ---- what a name means

-- In two spaces with the same families, where the second has some entries alone of the first one's view:
module _ (V : RegistrationList) (families : List (List ℕ)) (keep : ℕ → Bool) where
  abbrev pub Whole : Space
  Whole = record { view = V; families = families }

  abbrev pub Narrow : Space
  Narrow = record { view = only keep V; families = families }

  -- the number that a name means is kept
  abbrev pub KeptName : Named → Type 0
  KeptName named.Unknown = Unit {0}
  KeptName (named.Object n) = keep n ≡ true
  KeptName (named.Enumeration n) = keep n ≡ true

  abbrev first_type : List ℕ → RegistrationList → Option ℕ
  first_type name W = position (is_type_named name) W

  abbrev first_enumeration : List ℕ → RegistrationList → Option ℕ
  first_enumeration name W = position (is_enumeration_named name) W

  abbrev means : List ℕ → RegistrationList → Named
  means name W = family_or_host (position (bytes_eq name) families) (first_type name W) (first_enumeration name W)

  spelled_out : (name : List ℕ) → type_of_name Whole name ≡ means name V
  unfolding type_of_name type_named enumeration_named
  spelled_out name = refl

  meant_by : (name : List ℕ) (c n m : Option ℕ) → first_type name V ≡ n → first_enumeration name V ≡ m → KeptName (family_or_host c n m)
      → family_or_host c (first_type name (only keep V)) (first_enumeration name (only keep V)) ≡ family_or_host c n m
  meant_by name (Some c) n m e f kept = refl
  meant_by name None (Some n) m e f kept =
      ap (λ o. family_or_host None o (first_enumeration name (only keep V))) (position_kept V keep (is_type_named name) refl n e kept)
  meant_by name None None (Some m) e f kept =
      ap (λ o. family_or_host None o (first_enumeration name (only keep V))) (position_gone V keep (is_type_named name) refl e)
      ∙ ap (λ o. family_or_host None None o) (position_kept V keep (is_enumeration_named name) refl m f kept)
  meant_by name None None None e f kept =
      ap (λ o. family_or_host None o (first_enumeration name (only keep V))) (position_gone V keep (is_type_named name) refl e)
      ∙ ap (λ o. family_or_host None None o) (position_gone V keep (is_enumeration_named name) refl f)

  -- a name that means what is kept means it still
  pub means_still : (name : List ℕ) → KeptName (type_of_name Whole name) → type_of_name Narrow name ≡ type_of_name Whole name
  unfolding type_of_name type_named enumeration_named
  means_still name kept = meant_by name (position (bytes_eq name) families) (first_type name V) (first_enumeration name V) refl refl kept

  -- ---- the other way round

  -- a number is what the name of its entry means
  abbrev pub IsMeant : Named → Type 0
  IsMeant named.Unknown = Unit {0}
  IsMeant (named.Object n) = (name : List ℕ) → is_type_named name (entry_at V n) ≡ true → type_of_name Whole name ≡ named.Object n
  IsMeant (named.Enumeration n) = (name : List ℕ) → is_enumeration_named name (entry_at V n) ≡ true → type_of_name Whole name ≡ named.Enumeration n

  meant_before : (name : List ℕ) (c n m : Option ℕ) → position (bytes_eq name) families ≡ c → first_type name (only keep V) ≡ n
      → first_enumeration name (only keep V) ≡ m → IsMeant (family_or_host c n m) → (family_or_host c n m ≡ named.Unknown → ⊥)
      → type_of_name Whole name ≡ family_or_host c n m
  unfolding type_of_name
  meant_before name (Some c) n m e f g meant known = ap (λ o. family_or_host o (type_named V name) (enumeration_named V name)) e
  meant_before name None (Some n) m e f g meant known =
      meant name (passes V keep (is_type_named name) refl n (position-Some (is_type_named name) (only keep V) n None f).1).1
  meant_before name None None (Some m) e f g meant known =
      meant name (passes V keep (is_enumeration_named name) refl m (position-Some (is_enumeration_named name) (only keep V) m None g).1).1
  meant_before name None None None e f g meant known = absurd (known refl)

  -- what a name means in the narrower view, it means in the other, if that is so of the name of its entry
  pub meant_in_whole : (name : List ℕ) → IsMeant (type_of_name Narrow name) → (type_of_name Narrow name ≡ named.Unknown → ⊥)
      → type_of_name Whole name ≡ type_of_name Narrow name
  unfolding type_of_name type_named enumeration_named
  meant_in_whole name meant known =
      meant_before name (position (bytes_eq name) families) (first_type name (only keep V)) (first_enumeration name (only keep V)) refl refl refl meant known

  -- ---- each number that a name means is what the name of its entry means

  same_type_name : (name other : List ℕ) (o : Option Entry) → is_type_named name o ≡ true → is_type_named other o ≡ true → other ≡ name
  same_type_name name other None e f = cc
  same_type_name name other (Some x) e f = one_name (is_host_type x.kind) x.signature.name name other e f

  same_enumeration_name : (name other : List ℕ) (o : Option Entry) → is_enumeration_named name o ≡ true → is_enumeration_named other o ≡ true → other ≡ name
  same_enumeration_name name other None e f = cc
  same_enumeration_name name other (Some x) e f = one_name (is_enumeration x.kind) x.signature.name name other e f

  no_entry : (few : length V ≤ first_family) (c : ℕ) (name : List ℕ) (o : Option Entry) → entry_at V (family_type c) ≡ o → is_type_named name o ≡ true → ⊥
  no_entry few c name None e f = cc
  no_entry few c name (Some x) e f =
      let below : length V ≤ 1024 = few in
      let within : 1024 + c < length V = entry_at-lt V (family_type c) x e in
      omega (arith, below, within)

  found_by : (few : length V ≤ first_family) (name : List ℕ) (c n m : Option ℕ) → type_of_name Whole name ≡ family_or_host c n m → first_type name V ≡ n
      → first_enumeration name V ≡ m → IsMeant (family_or_host c n m)
  found_by few name (Some c) n m is e f = λ other h. absurd (no_entry few c other (entry_at V (family_type c)) refl h)
  found_by few name None (Some n) m is e f = λ other h.
      ap (type_of_name Whole) (same_type_name name other (entry_at V n) (position-Some (is_type_named name) V n None e).1 h) ∙ is
  found_by few name None None (Some m) is e f = λ other h.
      ap (type_of_name Whole) (same_enumeration_name name other (entry_at V m) (position-Some (is_enumeration_named name) V m None f).1 h) ∙ is
  found_by few name None None None is e f = tt

  pub each_is_meant : length V ≤ first_family → (name : List ℕ) → IsMeant (type_of_name Whole name)
  each_is_meant few name =
      subst IsMeant (sym (spelled_out name)) (found_by few name (position (bytes_eq name) families) (first_type name V) (first_enumeration name V) (spelled_out name) refl refl)

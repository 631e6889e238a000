-- What a class can hold, by what its fields are handles to and what stands above what.
use Rattle.std.specs.Prelude.{ℕ, zero, suc, ◌+◌, ◌≡◌, ◌==◌, ◌<◌, ◌≤◌, ◌⊎◌, Bool, true, false, ◌&&◌, ◌||◌, nat_lt, List, [], ◌∷◌, ◌++◌, length, Option, Some, None, slice_get}
use Rattle.std.specs.Option.{option_map_or}
use Rattle.std.specs.List.{cons_option, filter_map, flat_map, list_any}
use Rattle.std.proofs.Common.{arith, refl, sym, subst, ap, inl, inr, ◌∙◌}
use Rattle.std.proofs.lemmas.List.Folds.{list_any-append}
use Rattle.ang_names_graph.specs.Graphs.{above, leads, order_of, some_below}
use Rattle.ang_names_graph.specs.Tables.{IsBegun, Shows, edges_of, is_spread, row_below}
use Rattle.ang_names_graph.proofs.Begun.{begun_next}
use Rattle.ang_names_graph.proofs.Rings.{any_numbers, edge_shown, none_equal, some_agree, some_equal}
use Rattle.ang_names_graph.proofs.Rows.{lt_true}
use Rattle.ang_names_known.specs.declared.names.Written.{Written}
use Rattle.ang_names_known.specs.Spaces.{Space}
use Rattle.ang_names_listed.specs.declared.listed.ListedMember.{ListedMember}
use Rattle.ang_names_listed.specs.Declarations.{Declaring}
use Rattle.ang_names_classes.specs.Hierarchy.{field_type, field_types_at, field_types, held_by, holds, is_base, is_parent, is_under_or}
use Rattle.ang_names_classes.specs.Tables.{carries, held_in, held_of, holds_itself}
use Rattle.ang_names_classes.proofs.Marked.{any_agree}

-- ---- some number below a bound, of some item of a list

none_of : (U : ℕ → Bool) (n : ℕ) → some_below (λ d. false && U d) n ≡ false
none_of U zero = refl
none_of U (suc n) = none_of U n

either : (a b c d : Bool) → ((a || b) || (c || d)) ≡ ((a || c) || (b || d))
either true b c d = refl
either false true true d = refl
either false true false d = refl
either false false true d = refl
either false false false d = refl

some_or : (p q : ℕ → Bool) (n : ℕ) → some_below (λ d. p d || q d) n ≡ (some_below p n || some_below q n)
some_or p q zero = refl
some_or p q (suc n) = ap (λ b. (p n || q n) || b) (some_or p q n) ∙ either (p n) (q n) (some_below p n) (some_below q n)

shared : (a b u : Bool) → ((a || b) && u) ≡ ((a && u) || (b && u))
shared true true true = refl
shared true false true = refl
shared true true false = refl
shared true false false = refl
shared false b u = refl

some_of : {A : Type 0} (H : A → ℕ → Bool) (U : ℕ → Bool) (n : ℕ) (xs : List A)
    → some_below (λ d. list_any (λ x. H x d) xs && U d) n ≡ list_any (λ x. some_below (λ d. H x d && U d) n) xs
some_of H U n [] = none_of U n
some_of H U n (x ∷ xs) =
    some_agree (λ d. (H x d || list_any (λ y. H y d) xs) && U d) (λ d. (H x d && U d) || (list_any (λ y. H y d) xs && U d)) n (λ d lt. shared (H x d) (list_any (λ y. H y d) xs) (U d))
    ∙ some_or (λ d. H x d && U d) (λ d. list_any (λ y. H y d) xs && U d) n
    ∙ ap (λ b. some_below (λ d. H x d && U d) n || b) (some_of H U n xs)

any_flat : {A B : Type 0} (p : B → Bool) (f : A → List B) (xs : List A) → list_any p (flat_map f xs) ≡ list_any (λ x. list_any p (f x)) xs
any_flat p f [] = refl
any_flat p f (x ∷ xs) = list_any-append p (f x) (flat_map f xs) ∙ ap (λ b. list_any p (f x) || b) (any_flat p f xs)

-- ---- a family of this number, and what stands under it

order : (a i : ℕ) → (a < i) ⊎ (i ≤ a)
order a i = grind arith

swapped : (a : Bool) (k m : ℕ) → (a && (k == m)) ≡ ((m == k) && a)
swapped true k m = same k m ∙ sym (and_true (m == k))
  where
    same : (x y : ℕ) → (x == y) ≡ (y == x)
    same x y = search arith

    and_true : (b : Bool) → (b && true) ≡ b
    and_true true = refl
    and_true false = refl
swapped false k m = sym (and_false (m == k))
  where
    and_false : (b : Bool) → (b && false) ≡ false
    and_false true = refl
    and_false false = refl

differ : (j m n : ℕ) → j < n → n ≤ m → (j == m) ≡ false
differ j m n lt le = search arith

module _ (ds : List Declaring) (j : ℕ) (there : j < length ds) where
  abbrev n : ℕ
  n = length ds

  -- j is d, or stands under it
  abbrev under : ℕ → Bool
  under d = j == d || leads (is_parent ds) n j d

  above_has : (m : ℕ) → list_any (λ k. k == m) (above (is_parent ds) n j) ≡ some_below (λ k. (m == k) && leads (is_parent ds) n j k) n
  unfolding above
  above_has m =
      any_numbers (λ k. k == m) (leads (is_parent ds) n j) n
      ∙ some_agree (λ k. leads (is_parent ds) n j k && (k == m)) (λ k. (m == k) && leads (is_parent ds) n j k) n (λ k lt. swapped (leads (is_parent ds) n j k) k m)

  of_number : (m : ℕ) → some_below (λ d. (m == d) && under d) n ≡ is_under_or ds j (Some m)
  of_number m = elim (order m n) [
    | inl below ↦
        some_equal under n m below
        ∙ ap (λ b. j == m || b) (sym (above_has m ∙ some_equal (leads (is_parent ds) n j) n m below))
    | inr past ↦
        none_equal under n m past
        ∙ sym (ap (λ b. b || list_any (λ k. k == m) (above (is_parent ds) n j)) (differ j m n there past) ∙ above_has m ∙ none_equal (leads (is_parent ds) n j) n m past)
  ]

  of_field : (o : Option Written) (places : List ℕ) (types : List Written)
      → list_any (λ m. some_below (λ d. (m == d) && under d) n) places ≡ list_any (λ (w : Written). is_under_or ds j (held_by w.ty)) types
      → list_any (λ m. some_below (λ d. (m == d) && under d) n) (cons_option (held_in o) places)
      ≡ list_any (λ (w : Written). is_under_or ds j (held_by w.ty)) (cons_option o types)
  of_field None places types h = h
  of_field (Some w) places types h = by_type (held_by w.ty) refl
    where
      by_type : (o : Option ℕ) → held_by w.ty ≡ o
          → list_any (λ m. some_below (λ d. (m == d) && under d) n) (cons_option o places)
          ≡ (is_under_or ds j o || list_any (λ (x : Written). is_under_or ds j (held_by x.ty)) types)
      by_type None e = h
      by_type (Some m) e = ap (λ b. b || list_any (λ k. some_below (λ d. (k == d) && under d) n) places) (of_number m) ∙ ap (λ b. is_under_or ds j (Some m) || b) h

  module _ (E : Space) where
    of_members : (d : Declaring) (ms : List ListedMember)
        → list_any (λ m. some_below (λ x. (m == x) && under x) n) (filter_map (λ (m : ListedMember). held_in (field_type E d m.kind)) ms)
        ≡ list_any (λ (w : Written). is_under_or ds j (held_by w.ty)) (filter_map (λ (m : ListedMember). field_type E d m.kind) ms)
    of_members d [] = refl
    of_members d (m ∷ ms) = of_field (field_type E d m.kind) _ _ (of_members d ms)

    of_family : (o : Option Declaring)
        → list_any (λ m. some_below (λ x. (m == x) && under x) n) (held_of E o) ≡ list_any (λ (w : Written). is_under_or ds j (held_by w.ty)) (option_map_or (field_types E) o [])
    of_family None = refl
    of_family (Some d) = of_members d d.shape.members

    of_families : (ns : List ℕ)
        → some_below (λ d. list_any (λ k. holds_itself E ds k d) ns && under d) n
        ≡ list_any (λ (w : Written). is_under_or ds j (held_by w.ty)) (field_types_at E ds ns)
    of_families ns =
        some_of (holds_itself E ds) under n ns
        ∙ any_agree (λ k. some_below (λ d. holds_itself E ds k d && under d) n) (λ k. list_any (λ (w : Written). is_under_or ds j (held_by w.ty)) (option_map_or (field_types E) (slice_get ds k) [])) ns
        (λ k. some_of (λ m d. m == d) under n (held_of E (slice_get ds k)) ∙ of_family (slice_get ds k))
        ∙ sym (any_flat (λ (w : Written). is_under_or ds j (held_by w.ty)) (λ k. option_map_or (field_types E) (slice_get ds k) []) ns)

both_below : (a b c : Bool) → a ≡ true → b ≡ true → (a && b && c) ≡ c
both_below true true c e f = refl
both_below true false c e f = cc
both_below false b c e f = cc

pub holding_row : (E : Space) (ds : List Declaring) (carried over : List Bool)
    → Shows carried (length ds) (carries E ds) → Shows over (length ds) (leads (is_parent ds) (length ds))
    → (i j : ℕ) → i < length ds → j < length ds → is_spread carried over (length ds) i j ≡ holds E ds i j
unfolding holds
holding_row E ds carried over s t i j lt jn =
    some_agree (λ d. edges_of carried (length ds) i d && (j == d || edges_of over (length ds) j d)) (λ d. carries E ds i d && (j == d || leads (is_parent ds) (length ds) j d)) (length ds) (λ d dn.
    ap (λ b. b && (j == d || edges_of over (length ds) j d)) (edge_shown carried (length ds) (carries E ds) s i d lt dn)
    ∙ ap (λ b. carries E ds i d && (j == d || b)) (edge_shown over (length ds) (leads (is_parent ds) (length ds)) t j d jn dn))
    ∙ of_families ds j jn E (order_of (is_base ds) (length ds) i)
    ∙ sym (both_below (nat_lt i (length ds)) (nat_lt j (length ds)) _ (lt_true i (length ds) lt) (lt_true j (length ds) jn))

pub holding_next : (E : Space) (ds : List Declaring) (t now carried over : List Bool) (i n : ℕ) → IsBegun t n i (holds E ds) → n ≡ length ds
    → Shows carried (length ds) (carries E ds) → Shows over (length ds) (leads (is_parent ds) (length ds)) → i < n
    → now ≡ t ++ row_below (is_spread carried over n i) n → IsBegun now n (i + 1) (holds E ds)
holding_next E ds t now carried over i n s e c o lt pushed =
    let row : (j : ℕ) → j < length ds → is_spread carried over (length ds) i j ≡ holds E ds i j =
    λ j jn. holding_row E ds carried over c o i j (subst (λ m. i < m) e lt) jn in
    subst (λ u. IsBegun u n (i + 1) (holds E ds)) (sym pushed)
    (begun_next t n i (holds E ds) (is_spread carried over n i) s
    (λ j jn. subst (λ m. is_spread carried over m i j ≡ holds E ds i j) (sym e) (row j (subst (λ m. j < m) e jn))))

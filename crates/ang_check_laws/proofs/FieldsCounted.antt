-- How many fields a class has: as many as the classes in its order have by themselves, so that its own come after as many as are inherited.
use Rattle.std.specs.Prelude.{ℕ, zero, suc, true, false, ◌≡◌, ◌+◌, List, [], ◌∷◌, ◌++◌, drop, length, Option, Some, None, option_map, option_and_then, slice_get}
use Rattle.std.specs.List.{range_with_len}
use Rattle.std.proofs.Common.{arith, refl, ap, sym, subst, inl, inr, ◌∙◌, length-append}
use Rattle.std.proofs.lemmas.Bool.{cases_Bool}
use Rattle.std.proofs.lemmas.List.{length-map}
use Rattle.std.proofs.lemmas.Option.{slice_get_within, slice_get-get_or, slice_get-map}
use Rattle.ang_types.specs.declared.arg_type.ArgType.{ArgType}
use Rattle.ang_typed.specs.declared.program.TypedClass.{TypedClass}
use Rattle.ang_names_graph.specs.Graphs.{IsWithin, is_near, leads, order_of}
use Rattle.ang_names_graph.proofs.Closure.{leads_join, least}
use Rattle.ang_names_known.specs.declared.names.Written.{Written}
use Rattle.ang_names_known.specs.Spaces.{Space}
use Rattle.ang_names_listed.specs.Declarations.{Declaring}
use Rattle.ang_names_classes.specs.Hierarchy.{field_types, field_types_at, is_base, is_class_at, is_parent}
use Rattle.ang_names_classes.specs.Resolved.{first_below, inherited_fields}
use Rattle.ang_source.specs.Meaning.{fields_by}
use Rattle.ang_check_laws.proofs.ClassesGraph.{and_parts, find_only, find_passes}
use Rattle.ang_check_laws.proofs.ClassesDeclared.{IsAccepted, parent_there}
use Rattle.ang_check_laws.proofs.ClassesTables.{IsTable, own_row, type_of}
use Rattle.ang_check_laws.proofs.ClassesKin.{near_out}
use Rattle.ang_check_laws.proofs.FieldsGraph.{total, weight, weight_zero, weight_next, weight_alone, total_order, order_first}
use Rattle.ang_check_laws.proofs.Placed.{field_types_in}

pub nothing_before : (n : ℕ) → 0 + n ≡ n
nothing_before n = omega arith

after_front : {A : Type 0} (xs ys : List A) (p : ℕ) → slice_get (xs ++ ys) (length xs + p) ≡ slice_get ys p
after_front [] ys p = ap (slice_get ys) (nothing_before p)
after_front (x ∷ xs) ys p =
    let further : suc (length xs) + p ≡ suc (length xs + p) = omega arith in ap (slice_get (x ∷ (xs ++ ys))) further ∙ after_front xs ys p

turned : (a b k n : ℕ) → a ≡ b → n ≡ k + b → a + k ≡ n
turned a b k n e f = omega (arith, e, f)

counts : (a b c k n p : ℕ) → b ≡ a + c → c ≡ k → b ≡ k + n → n + p ≡ a + p
counts a b c k n p e f g = omega (arith, e, f, g)

-- Among families that are accepted:
module _ (E : Space) (ds : List Declaring) (cs : List TypedClass) (table : IsTable E ds cs) (accepted : IsAccepted E ds)
    (free : (c : ℕ) → leads (is_parent ds) (length ds) c c ≡ false) where
  -- how many fields a family declares itself
  abbrev pub many_own : ℕ → ℕ
  many_own k = length (field_types_in E (slice_get ds k))

  within : IsWithin (is_parent ds) (length ds)
  within = record { below = parent_there ds }

  many_at : (ks : List ℕ) → length (field_types_at E ds ks) ≡ total many_own ks
  many_at [] = refl
  many_at (k ∷ ks) =
      length-append (field_types_in E (slice_get ds k)) (field_types_at E ds ks) ∙ ap (λ n. many_own k + n) (many_at ks)

  row_many : (c : ℕ) (d : Declaring) (is : slice_get ds c ≡ Some d) → length ((table.rows c d is).row.fields) ≡ many_own c
  row_many c d is =
      ap length (table.rows c d is).fields ∙ length-map (field_types E d) type_of ∙ ap (λ o. length (field_types_in E o)) (sym is)

  -- a class is not near its base class
  not_near : (c b t : ℕ) → is_base ds c b ≡ true → is_near (is_base ds) (length ds) t b c ≡ false
  not_near c b t edge =
      elim (cases_Bool (is_near (is_base ds) (length ds) t b c)) [
        | inl is ↦
            let over : leads (is_parent ds) (length ds) c b ≡ true =
            (least (is_parent ds) (length ds) within c b).1 (zero, (and_parts (is_parent ds c b) (is_class_at ds b) edge).0) in
            let lt = parent_there ds c b (and_parts (is_parent ds c b) (is_class_at ds b) edge).0 in
            let round : leads (is_parent ds) (length ds) c c ≡ true =
            (elim (near_out (is_base ds) (is_parent ds) (length ds) within (λ i j h. (and_parts (is_parent ds i j) (is_class_at ds j) h).0) t b c is) [
              | inl same ↦ subst (λ x. leads (is_parent ds) (length ds) c x ≡ true) same over
              | inr back ↦ leads_join (is_parent ds) (length ds) c b c lt over back
            ]) in
            absurd (let no' : false ≡ true = sym (free c) ∙ round in cc)
        | inr isnt ↦ isnt
      ]

  -- a class without a base class has none among the families
  no_edge : (c : ℕ) → first_below (is_base ds c) (length ds) ≡ None → (j : ℕ) → is_base ds c j ≡ false
  no_edge c none j =
      elim (cases_Bool (is_base ds c j)) [
        | inl edge ↦
            let lt = parent_there ds c j (and_parts (is_parent ds c j) (is_class_at ds j) edge).0 in
            let first = find_only (is_base ds c) 0 (length ds) j edge (λ k q. accepted.one_base c k j q edge) (omega arith) (omega (arith, lt)) in
            absurd (let no' : None ≡ Some j = sym none ∙ first in cc)
        | inr isnt ↦ isnt
      ]

  abbrev near_weight : ℕ → ℕ → ℕ
  near_weight a c = weight many_own (is_near (is_base ds) (length ds) a c) (length ds)

  abbrev Counted : ℕ → Type 0
  Counted a = (c : ℕ) (d : Declaring) → slice_get ds c ≡ Some d → length (fields_by cs a (slice_get cs c)) ≡ near_weight a c

  by_base : (a c : ℕ) (d : Declaring) (o : Option ℕ) → Counted a → slice_get ds c ≡ Some d → first_below (is_base ds c) (length ds) ≡ o
      → length (fields_by cs a (option_and_then (slice_get cs) o)) + many_own c ≡ near_weight (suc a) c
  by_base a c d None go is first =
      nothing_before (many_own c)
      ∙ sym (weight_alone (is_base ds) (length ds) c many_own (suc a) (slice_get_within ds c d is) (no_edge c first))
  by_base a c d (Some b) go is first =
      let edge = find_passes (is_base ds c) (range_with_len 0 (length ds)) b first in
      let there = slice_get-get_or ds b d (parent_there ds c b (and_parts (is_parent ds c b) (is_class_at ds b) edge).0) in
      let before = go b _ there in
      let next = weight_next (is_base ds) (length ds) c many_own b a (slice_get_within ds c d is) edge
      (λ j h. accepted.one_base c j b h edge) (not_near c b a edge) in
      turned (length (fields_by cs a (slice_get cs b))) (near_weight a b) (many_own c) (near_weight (suc a) c) before next

  counted : (a : ℕ) → Counted a
  counted zero c d is =
      let h = table.rows c d is in
      ap (λ o. length (fields_by cs zero o)) h.there
      ∙ row_many c d is ∙ sym (weight_zero many_own (is_base ds) (length ds) c (slice_get_within ds c d is))
  counted (suc a) c d is =
      let h = table.rows c d is in
      let before = fields_by cs a (option_and_then (slice_get cs) h.row.base) in
      ap (λ o. length (fields_by cs (suc a) o)) h.there
      ∙ length-append before h.row.fields
      ∙ ap (λ n. length before + n) (row_many c d is)
      ∙ ap (λ o. length (fields_by cs a (option_and_then (slice_get cs) o)) + many_own c) h.base
      ∙ by_base a c d (first_below (is_base ds c) (length ds)) (counted a) is refl

  abbrev all_fields : ℕ → List ArgType
  all_fields c = fields_by cs (length cs) (slice_get cs c)

  -- of a class: its own, and those that it inherits
  many_fields : (c : ℕ) (d : Declaring) → slice_get ds c ≡ Some d → length (all_fields c) ≡ many_own c + inherited_fields E ds c
  many_fields c d is =
      let order = order_of (is_base ds) (length ds) c in
      counted (length cs) c d is
      ∙ ap (λ n. near_weight n c) table.many
      ∙ sym (total_order many_own (is_base ds) (length ds) c (slice_get_within ds c d is))
      ∙ ap (total many_own) (order_first (is_base ds) (length ds) c)
      ∙ ap (λ n. many_own c + n) (sym (many_at (drop 1 order)))

  -- a family's own field stands after all that it inherits
  pub own_there : (c p : ℕ) (d : Declaring) (w : Written) → slice_get ds c ≡ Some d → slice_get (field_types E d) p ≡ Some w
      → slice_get (all_fields c) (inherited_fields E ds c + p) ≡ Some w.ty
  own_there c p d w is e =
      let h = table.rows c d is in
      let before = fields_by cs (length cs) (option_and_then (slice_get cs) h.row.base) in
      let whole = own_row E ds cs table accepted free c h.row h.there in
      let many = many_fields c d is in
      let parts = sym (ap length whole) ∙ many in
      let own = row_many c d is in
      let joined = length-append before h.row.fields in
      let same : inherited_fields E ds c + p ≡ length before + p =
      counts (length before) (length (before ++ h.row.fields)) (length h.row.fields) (many_own c) (inherited_fields E ds c) p joined own parts in
      ap (λ n. slice_get (all_fields c) n) same
      ∙ ap (λ ts. slice_get ts (length before + p)) whole
      ∙ after_front before h.row.fields p
      ∙ ap (λ ts. slice_get ts p) h.fields
      ∙ slice_get-map type_of (field_types E d) p
      ∙ ap (option_map type_of) e

-- The table of a tree's classes: each row is what the declaration of its family says, and fields are those of the base class, then the family's own.
use Rattle.std.specs.Prelude.{ℕ, zero, suc, Bool, true, false, ◌≡◌, ◌<◌, ◌≤◌, ◌+◌, ◌==◌, ◌&&◌, ◌||◌, List, [], ◌∷◌, ◌++◌, length, map, Option, Some, None, option_map, option_and_then, slice_get, nat_lt, Ok, Err}
use Rattle.std.specs.List.{list_any, filter_map, flat_map, cons_option, range_with_len}
use Rattle.std.proofs.Common.{arith, refl, ap, sym, subst, inl, inr, ◌∙◌, length-append}
use Rattle.std.proofs.lemmas.Bool.{cases_Bool, eqb-true, lt-ltb}
use Rattle.std.proofs.lemmas.Bool.Decides.{Decides-ltb}
use Rattle.std.proofs.lemmas.Option.{same_Some, slice_get_within, slice_get-map}
use Rattle.std.proofs.lemmas.List.Folds.{list_any-append}
use Rattle.ang_tree.specs.declared.type_name.TypeName.{TypeName}
use Rattle.ang_types.specs.declared.arg_type.ArgType.{ArgType}
use Rattle.ang_types.specs.declared.arg_type.ArgType.TheVariants as type
use Rattle.ang_typed.specs.declared.program.TypedClass.{TypedClass}
use Rattle.ang_names_graph.specs.Graphs.{leads, above, is_near, order_of, reach_of, Way, IsWithin}
use Rattle.ang_names_graph.proofs.Closure.{least, falls}
use Rattle.ang_names_known.specs.declared.names.Field.{Field}
use Rattle.ang_names_known.specs.declared.names.ScriptFunction.{ScriptFunction}
use Rattle.ang_names_known.specs.declared.names.Written.{Written}
use Rattle.ang_names_known.specs.Items.{each_after}
use Rattle.ang_names_known.specs.Spaces.{Space, family_of_type}
use Rattle.ang_names_listed.specs.declared.listed.ListedMember.{ListedMember}
use Rattle.ang_names_listed.specs.declared.listed.MemberKind.{MemberKind}
use Rattle.ang_names_listed.specs.declared.listed.MemberKind.TheVariants as member
use Rattle.ang_names_listed.specs.declared.role.TypePosition.TheVariants as role
use Rattle.ang_names_listed.specs.Declarations.{Declaring}
use Rattle.ang_names_listed.specs.Types.{TypeOrError, ◌and_then◌, written_type, admitted, type_in, settled}
use Rattle.ang_names_classes.specs.Hierarchy.{field_type, field_types, field_types_at, held_by, holds, is_base, is_class_at, is_parent, is_under_or, names_place}
use Rattle.ang_names_classes.specs.Resolved.{body_members, families_after, family_with, field_numbered, fields_after, first_below, inherited_fields}
use Rattle.ang_check.specs.Bodies.{typed_class, typed_classes}
use Rattle.ang_source.specs.Meaning.{fields_by}
use Rattle.ang_check_sound.proofs.Items.{at_front}
use Rattle.ang_check_laws.proofs.ClassesGraph.{or_left, or_right, or_cases, both_true, and_parts, reach_within, find_none, find_passes, find_only, near_itself, near_more, near_later, order_has}
use Rattle.ang_check_laws.proofs.ClassesDeclared.{IsAccepted, parent_there}
use Rattle.ang_check_laws.proofs.Placed.{field_types_in}

-- ---- rows

abbrev pub type_of : Written → ArgType
type_of w = w.ty

-- In the space of a build, among these families:
module _ (E : Space) (ds : List Declaring) where
  -- what the tree has at the number of this family
  pub record HasRow (cs : List TypedClass) (c : ℕ) (d : Declaring) : Type 0 where
    pub row : TypedClass
    pub there : slice_get cs c ≡ Some row
    pub fields : row.fields ≡ map type_of (field_types E d)
    pub base : row.base ≡ first_below (is_base ds c) (length ds)
    pub above : row.above ≡ above (is_parent ds) (length ds) c
    pub rank : row.rank ≡ reach_of (holds E ds) (length ds) c

  -- The tree has a row for each family, and no more.
  pub record IsTable (cs : List TypedClass) : Type 0 where
    pub rows : (c : ℕ) (d : Declaring) → slice_get ds c ≡ Some d → HasRow cs c d
    pub gone : (c : ℕ) → slice_get ds c ≡ None → slice_get cs c ≡ None
    pub many : length cs ≡ length ds

  one_field : (d : Declaring) (m : ListedMember) (n : ℕ) (o : Option Written) (rest : List Field) (others : List Written) → map (λ (x : Field). x.written.ty) rest ≡ map type_of others
      → map (λ (x : Field). x.written.ty) (field_numbered d m n o ++ rest) ≡ map type_of (cons_option o others)
  one_field d m n None rest others h = h
  one_field d m n (Some w) rest others h = ap (λ ts. w.ty ∷ ts) h

  own_fields : (d : Declaring) (inherited : ℕ) (before ms : List ListedMember)
      → map (λ (x : Field). x.written.ty) (each_after (fields_after E d inherited) before ms) ≡ map type_of (filter_map (λ (m : ListedMember). field_type E d m.kind) ms)
  own_fields d inherited before [] = refl
  own_fields d inherited before (m ∷ ms) =
      one_field d m _ (field_type E d m.kind) (each_after (fields_after E d inherited) (before ++ m ∷ []) ms) (filter_map (λ (x : ListedMember). field_type E d x.kind) ms)
      (own_fields d inherited (before ++ m ∷ []) ms)

  module _ (methods : List (ScriptFunction × Bool)) (functions : ℕ) where
    pub family_there : (before xs : List Declaring) (k n : ℕ) (d : Declaring) → length before + k ≡ n → slice_get xs k ≡ Some d
        → (first : ℕ) × (slice_get (each_after (families_after E ds methods functions) before xs) k ≡ Some (family_with E ds methods n first d))
    family_there before [] k n d s e = cc
    family_there before (x ∷ xs) zero n d s e =
        let first = functions + length (flat_map body_members before) in
        let same : length before ≡ n = omega (arith, s) in
        (first, ap (λ c. Some (family_with E ds methods c first x)) same ∙ ap (λ y. Some (family_with E ds methods n first y)) (same_Some x d e))
    family_there before (x ∷ xs) (suc k) n d s e =
        let longer = length-append before (x ∷ []) in family_there (before ++ x ∷ []) xs k n d (omega (arith, s, longer)) e

    pub family_gone : (before xs : List Declaring) (k : ℕ) → slice_get xs k ≡ None
        → slice_get (each_after (families_after E ds methods functions) before xs) k ≡ None
    family_gone before [] k e = refl
    family_gone before (x ∷ xs) zero e = cc
    family_gone before (x ∷ xs) (suc k) e = family_gone (before ++ x ∷ []) xs k e

    families_many : (before xs : List Declaring) → length (typed_classes (each_after (families_after E ds methods functions) before xs)) ≡ length xs
    families_many before [] = refl
    families_many before (x ∷ xs) = ap suc (families_many (before ++ x ∷ []) xs)

    row_there : (c : ℕ) (d : Declaring) → slice_get ds c ≡ Some d → HasRow (typed_classes (each_after (families_after E ds methods functions) [] ds)) c d
    row_there c d e =
        let found = family_there [] ds c c d (omega arith) e in
        let fs = each_after (families_after E ds methods functions) [] ds in record {
          row = typed_class (family_with E ds methods c found.0 d);
          there = slice_get-map typed_class fs c ∙ ap (option_map typed_class) found.1;
          fields = own_fields d (inherited_fields E ds c) [] d.shape.members;
          base = refl;
          above = refl;
          rank = refl;
        }

    pub table_of : IsTable (typed_classes (each_after (families_after E ds methods functions) [] ds))
    table_of =
        let fs = each_after (families_after E ds methods functions) [] ds in record {
          rows = row_there;
          gone = λ c e. slice_get-map typed_class fs c ∙ ap (option_map typed_class) (family_gone [] ds c e);
          many = families_many [] ds;
        }

-- ---- fields of classes

any_mapped : (q : ArgType → Bool) (ws : List Written) → list_any q (map type_of ws) ≡ list_any (λ w. q (type_of w)) ws
any_mapped q [] = refl
any_mapped q (w ∷ ws) = ap (λ b. q w.ty || b) (any_mapped q ws)

any_flat : {A : Type 0} (q : A → Bool) (g : ℕ → List A) (xs : List ℕ) (k : ℕ) → list_any (λ j. j == k) xs ≡ true → list_any q (g k) ≡ true → list_any q (flat_map g xs) ≡ true
any_flat q g [] k e h = cc
any_flat q g (x ∷ xs) k e h =
    list_any-append q (g x) (flat_map g xs)
    ∙ (elim (or_cases (x == k) (list_any (λ j. j == k) xs) e) [
      | inl here ↦ or_left (list_any q (g x)) (list_any q (flat_map g xs)) (subst (λ y. list_any q (g y) ≡ true) (sym (eqb-true x k here)) h)
      | inr later ↦ or_right (list_any q (g x)) (list_any q (flat_map g xs)) (any_flat q g xs k later h)
    ])

-- the family of whose objects a type speaks, by value too
abbrev pub family_in : ArgType → Option ℕ
family_in type.Void = None
family_in type.Null = None
family_in (type.Plain p) = None
family_in (type.Enumeration n) = None
family_in (type.Object n c) = family_of_type n
family_in (type.Handle n c) = family_of_type n

-- no field is an object by value
module _ (E : Space) (ds : List Declaring) (e : ℕ) where
  by_handle : (r : TypeOrError) → is_under_or ds e (family_in (settled (r and_then admitted role.Field))) ≡ true
      → is_under_or ds e (held_by (settled (r and_then admitted role.Field))) ≡ true
  by_handle (Err why) h = cc
  by_handle (Ok type.Void) h = cc
  by_handle (Ok type.Null) h = cc
  by_handle (Ok (type.Plain p)) h = cc
  by_handle (Ok (type.Enumeration n)) h = cc
  by_handle (Ok (type.Object n c)) h = cc
  by_handle (Ok (type.Handle n c)) h = h

  field_by_handle : (text : List ℕ) (y : TypeName) → is_under_or ds e (family_in (settled (type_in E role.Field text y))) ≡ true
      → is_under_or ds e (held_by (settled (type_in E role.Field text y))) ≡ true
  unfolding type_in
  field_by_handle text y h = by_handle (written_type E text y y.name.kind) h

  abbrev may_name : Written → Bool
  may_name w = is_under_or ds e (family_in w.ty)

  abbrev holds_one : Written → Bool
  holds_one w = is_under_or ds e (held_by w.ty)

  one_held : (d : Declaring) (kind : MemberKind) (rest : List Written) → (list_any may_name rest ≡ true → list_any holds_one rest ≡ true)
      → list_any may_name (cons_option (field_type E d kind) rest) ≡ true → list_any holds_one (cons_option (field_type E d kind) rest) ≡ true
  one_held d (member.Field y) rest go h =
      let name = is_under_or ds e (family_in (settled (type_in E role.Field d.text y))) in
      let held = is_under_or ds e (held_by (settled (type_in E role.Field d.text y))) in
      elim (or_cases name (list_any may_name rest) h) [
        | inl here ↦ or_left held (list_any holds_one rest) (field_by_handle d.text y here)
        | inr later ↦ or_right held (list_any holds_one rest) (go later)
      ]
  one_held d (member.Method y ps a) rest go h = go h
  one_held d (member.Constructor ps) rest go h = go h

  members_held : (d : Declaring) (ms : List ListedMember) → list_any may_name (filter_map (λ (m : ListedMember). field_type E d m.kind) ms) ≡ true
      → list_any holds_one (filter_map (λ (m : ListedMember). field_type E d m.kind) ms) ≡ true
  members_held d [] h = cc
  members_held d (m ∷ ms) h = one_held d m.kind (filter_map (λ (x : ListedMember). field_type E d x.kind) ms) (members_held d ms) h

  own_held : (o : Option Declaring) → list_any may_name (field_types_in E o) ≡ true → list_any holds_one (field_types_in E o) ≡ true
  own_held None h = cc
  own_held (Some d) h = members_held d d.shape.members h

-- Among families that are accepted:
module _ (E : Space) (ds : List Declaring) (cs : List TypedClass) (table : IsTable E ds cs) (accepted : IsAccepted E ds)
    (free : (c : ℕ) → leads (is_parent ds) (length ds) c c ≡ false) where
  abbrev fields_of : ℕ → List ArgType
  fields_of c = fields_by cs (length cs) (slice_get cs c)

  abbrev reach : ℕ → ℕ
  reach c = reach_of (is_parent ds) (length ds) c

  pub parents_within : IsWithin (is_parent ds) (length ds)
  parents_within = record { below = parent_there ds }

  parent_reaches_less : (i j : ℕ) → is_parent ds i j ≡ true → reach j < reach i
  parent_reaches_less i j edge =
      falls (is_parent ds) (length ds) parents_within i j ((least (is_parent ds) (length ds) parents_within i j).1 (zero, edge)) (free j)

  -- a row's base class is one
  base_by : (c : ℕ) (row : TypedClass) (k : ℕ) (o : Option Declaring) → slice_get ds c ≡ o → slice_get cs c ≡ Some row → row.base ≡ Some k → is_base ds c k ≡ true
  base_by c row k None is e b = absurd (let no' : None ≡ Some row = sym (table.gone c is) ∙ e in cc)
  base_by c row k (Some d) is e b =
      let h = table.rows c d is in
      let same = same_Some h.row row (sym h.there ∙ e) in
      find_passes (is_base ds c) (range_with_len 0 (length ds)) k (sym h.base ∙ ap (λ (r : TypedClass). r.base) same ∙ b)

  base_is : (c : ℕ) (row : TypedClass) (k : ℕ) → slice_get cs c ≡ Some row → row.base ≡ Some k → is_base ds c k ≡ true
  base_is c row k e b = base_by c row k (slice_get ds c) refl e b

  base_lower : (c : ℕ) (row : TypedClass) (k : ℕ) → slice_get cs c ≡ Some row → row.base ≡ Some k → reach k < reach c
  base_lower c row k e b = parent_reaches_less c k (and_parts (is_parent ds c k) (is_class_at ds k) (base_is c row k e b)).0

  -- ---- fields are those of the base class, then one's own

  abbrev Unrolled : ℕ → Type 0
  Unrolled a = (c : ℕ) (row : TypedClass) → slice_get cs c ≡ Some row → reach c ≤ a
      → fields_by cs a (Some row) ≡ fields_by cs a (option_and_then (slice_get cs) row.base) ++ row.fields

  at_end : (c : ℕ) (row : TypedClass) (o : Option ℕ) → slice_get cs c ≡ Some row → row.base ≡ o → reach c ≤ zero
      → row.fields ≡ fields_by cs zero (option_and_then (slice_get cs) o) ++ row.fields
  at_end c row None e b le = refl
  at_end c row (Some k) e b le = let less = base_lower c row k e b in absurd (omega (arith, less, le))

  further_at : (a k : ℕ) (o : Option TypedClass) → Unrolled a → slice_get cs k ≡ o → reach k ≤ a → fields_by cs a o ≡ fields_by cs (suc a) o
  further_at a k None go is le = refl
  further_at a k (Some r) go is le = go k r is le

  further : (a c : ℕ) (row : TypedClass) (o : Option ℕ) → Unrolled a → slice_get cs c ≡ Some row → row.base ≡ o → reach c ≤ suc a
      → fields_by cs a (option_and_then (slice_get cs) o) ≡ fields_by cs (suc a) (option_and_then (slice_get cs) o)
  further a c row None go e b le = refl
  further a c row (Some k) go e b le =
      let less = base_lower c row k e b in further_at a k (slice_get cs k) go refl (omega (arith, less, le))

  unrolled : (a : ℕ) → Unrolled a
  unrolled zero c row e le = at_end c row row.base e refl le
  unrolled (suc a) c row e le = ap (λ (ts : List ArgType). ts ++ row.fields) (further a c row row.base (unrolled a) e refl le)

  pub own_row : (c : ℕ) (row : TypedClass) → slice_get cs c ≡ Some row
      → fields_of c ≡ fields_by cs (length cs) (option_and_then (slice_get cs) row.base) ++ row.fields
  own_row c row e =
      let few = reach_within (is_parent ds) (length ds) c in
      let many : length cs ≡ length ds = table.many in
      ap (fields_by cs (length cs)) e ∙ unrolled (length cs) c row e (omega (arith, few, many))

  -- ---- what is above has them at the same places

  base_found : (c : ℕ) (d : Declaring) (h : HasRow E ds cs c d) (j : ℕ) → is_base ds c j ≡ true → h.row.base ≡ Some j
  base_found c d h j b =
      let lt = parent_there ds c j (and_parts (is_parent ds c j) (is_class_at ds j) b).0 in
      h.base ∙ find_only (is_base ds c) 0 (length ds) j b (λ k q. accepted.one_base c k j q b) (omega arith) (omega (arith, lt))

  one_up : (c j i : ℕ) (ty : ArgType) (o : Option Declaring) → slice_get ds c ≡ o → is_base ds c j ≡ true → slice_get (fields_of j) i ≡ Some ty
      → slice_get (fields_of c) i ≡ Some ty
  one_up c j i ty None is b e =
      absurd (let no' : false ≡ true = sym (ap (names_place ds j) is) ∙ (and_parts (is_parent ds c j) (is_class_at ds j) b).0 in cc)
  one_up c j i ty (Some d) is b e =
      let h = table.rows c d is in
      let whole = own_row c h.row h.there
      ∙ ap (λ o. fields_by cs (length cs) (option_and_then (slice_get cs) o) ++ h.row.fields) (base_found c d h j b) in
      subst (λ ts. slice_get ts i ≡ Some ty) (sym whole) (at_front (fields_of j) h.row.fields i ty e)

  no_fields_by : (d : ℕ) (o : Option Declaring) → slice_get ds d ≡ o → is_class_at ds d ≡ false → fields_of d ≡ []
  no_fields_by d None is off = ap (fields_by cs (length cs)) (table.gone d is)
  no_fields_by d (Some x) is off =
      let h = table.rows d x is in
      let none : h.row.base ≡ None = h.base ∙ find_none (is_base ds d) (range_with_len 0 (length ds)) (λ j. accepted.no_base d j off) in
      let empty : h.row.fields ≡ [] = h.fields ∙ ap (map type_of) (sym (ap (field_types_in E) is) ∙ accepted.no_fields d off) in
      own_row d h.row h.there
      ∙ ap (λ o. fields_by cs (length cs) (option_and_then (slice_get cs) o) ++ h.row.fields) none ∙ empty

  -- what has a field is a class
  class_by_field : (d i : ℕ) (ty : ArgType) → slice_get (fields_of d) i ≡ Some ty → is_class_at ds d ≡ true
  class_by_field d i ty e =
      elim (cases_Bool (is_class_at ds d)) [
        | inl is ↦ is
        | inr isnt ↦ absurd (let no' : None ≡ Some ty = sym (ap (λ ts. slice_get ts i) (no_fields_by d (slice_get ds d) refl isnt)) ∙ e in cc)
      ]

  way_up : (m c d i : ℕ) (ty : ArgType) → Way (is_parent ds) m c d → slice_get (fields_of d) i ≡ Some ty → slice_get (fields_of c) i ≡ Some ty
  way_up zero c d i ty w e =
      one_up c d i ty (slice_get ds c) refl (both_true (is_parent ds c d) (is_class_at ds d) w (class_by_field d i ty e)) e
  way_up (suc m) c d i ty w e =
      let next = way_up m w.0 d i ty w.2 e in
      one_up c w.0 i ty (slice_get ds c) refl (both_true (is_parent ds c w.0) (is_class_at ds w.0) w.1 (class_by_field w.0 i ty next)) next

  pub inherits : (c d i : ℕ) (ty : ArgType) → leads (is_parent ds) (length ds) c d ≡ true → slice_get (fields_of d) i ≡ Some ty → slice_get (fields_of c) i ≡ Some ty
  inherits c d i ty l e =
      let way = (least (is_parent ds) (length ds) parents_within c d).0 l in way_up way.0 c d i ty way.1 e

  -- ---- each field is one's own or of a class in the order of bases

  abbrev Found : (ArgType → Bool) → ℕ → ℕ → Type 0
  Found q s bound = (k : ℕ) × (k < length ds) × (is_near (is_base ds) (length ds) bound s k ≡ true)
      × (list_any q (map type_of (field_types_in E (slice_get ds k))) ≡ true)

  own_found : (q : ArgType → Bool) (c : ℕ) (d : Declaring) (bound s : ℕ) (h : HasRow E ds cs c d) → slice_get ds c ≡ Some d
      → is_near (is_base ds) (length ds) bound s c ≡ true → list_any q h.row.fields ≡ true → Found q s bound
  own_found q c d bound s h is near e = (
    c,
    slice_get_within ds c d is,
    near,
    ap (λ o. list_any q (map type_of (field_types_in E o))) is ∙ sym (ap (list_any q) h.fields) ∙ e,
  )

  abbrev Finds : (ArgType → Bool) → ℕ → ℕ → ℕ → Type 0
  Finds q a s t = (c : ℕ) → is_near (is_base ds) (length ds) t s c ≡ true → list_any q (fields_by cs a (slice_get cs c)) ≡ true → Found q s (t + a)

  through_base : (q : ArgType → Bool) (a s t c : ℕ) (d : Declaring) (row : TypedClass) (o : Option ℕ) → Finds q a s (suc t) → slice_get ds c ≡ Some d → slice_get cs c ≡ Some row
      → row.base ≡ o → is_near (is_base ds) (length ds) t s c ≡ true → list_any q (fields_by cs a (option_and_then (slice_get cs) o)) ≡ true → Found q s (t + suc a)
  through_base q a s t c d row None go is e b near h = cc
  through_base q a s t c d row (Some k) go is e b near h =
      let within = slice_get_within ds c d is in
      let found = go k (near_more (is_base ds) (length ds) t s c k within near (base_is c row k e b)) h in
      let same : suc t + a ≡ t + suc a = omega arith in
      subst (Found q s) same found

  finds_at : (q : ArgType → Bool) (a s t c : ℕ) (o : Option Declaring) → Finds q a s (suc t) → slice_get ds c ≡ o → is_near (is_base ds) (length ds) t s c ≡ true
      → list_any q (fields_by cs (suc a) (slice_get cs c)) ≡ true → Found q s (t + suc a)
  finds_at q a s t c None go is near h =
      absurd (let no' : false ≡ true = sym (ap (λ o. list_any q (fields_by cs (suc a) o)) (table.gone c is)) ∙ h in cc)
  finds_at q a s t c (Some d) go is near h =
      let r = table.rows c d is in
      let before = fields_by cs a (option_and_then (slice_get cs) r.row.base) in
      let there : list_any q (before ++ r.row.fields) ≡ true = sym (ap (λ o. list_any q (fields_by cs (suc a) o)) r.there) ∙ h in
      elim (or_cases (list_any q before) (list_any q r.row.fields) (sym (list_any-append q before r.row.fields) ∙ there)) [
        | inl b ↦ through_base q a s t c d r.row r.row.base go is r.there refl near b
        | inr own ↦ own_found q c d (t + suc a) s r is (near_later (is_base ds) (length ds) t (suc a) s c near) own
      ]

  finds_last : (q : ArgType → Bool) (s t c : ℕ) (o : Option Declaring) → slice_get ds c ≡ o → is_near (is_base ds) (length ds) t s c ≡ true
      → list_any q (fields_by cs zero (slice_get cs c)) ≡ true → Found q s (t + zero)
  finds_last q s t c None is near h =
      absurd (let no' : false ≡ true = sym (ap (λ o. list_any q (fields_by cs zero o)) (table.gone c is)) ∙ h in cc)
  finds_last q s t c (Some d) is near h =
      let r = table.rows c d is in
      own_found q c d (t + zero) s r is (near_later (is_base ds) (length ds) t zero s c near) (sym (ap (λ o. list_any q (fields_by cs zero o)) r.there) ∙ h)

  finds : (q : ArgType → Bool) (a s t : ℕ) → Finds q a s t
  finds q zero s t c near h = finds_last q s t c (slice_get ds c) refl near h
  finds q (suc a) s t c near h = finds_at q a s t c (slice_get ds c) (finds q a s (suc t)) refl near h

  found_in_order : (q : ArgType → Bool) (c : ℕ) → list_any q (fields_of c) ≡ true → (k : ℕ) × (list_any (λ j. j == k) (order_of (is_base ds) (length ds) c) ≡ true)
      × (list_any q (map type_of (field_types_in E (slice_get ds k))) ≡ true)
  found_in_order q c h =
      let found = finds q (length cs) c 0 c (near_itself (is_base ds) (length ds) c) h in
      let many : 0 + length cs ≡ length ds = omega (arith, table.many) in
      (found.0, order_has (is_base ds) (length ds) c found.0 found.1 (subst (λ n. is_near (is_base ds) (length ds) n c found.0 ≡ true) many found.2), found.3)

  -- ---- ranks

  three : (a b c : Bool) → a ≡ true → b ≡ true → c ≡ true → (a && b && c) ≡ true
  three true true c e f g = g
  three true false c e f g = cc
  three false b c e f g = cc

  -- a field of class c may hold an object of family e
  pub can_hold : (c e : ℕ) → c < length ds → e < length ds → list_any (λ ty. is_under_or ds e (family_in ty)) (fields_of c) ≡ true → holds E ds c e ≡ true
  unfolding holds
  can_hold c e lt le h =
      let found = found_in_order (λ ty. is_under_or ds e (family_in ty)) c h in
      let own = own_held E ds e (slice_get ds found.0) (sym (any_mapped (λ ty. is_under_or ds e (family_in ty)) (field_types_in E (slice_get ds found.0))) ∙ found.2) in
      three (nat_lt c (length ds)) (nat_lt e (length ds)) (list_any (holds_one E ds e) (field_types_at E ds (order_of (is_base ds) (length ds) c)))
      (lt-ltb c (length ds) lt) (lt-ltb e (length ds) le)
      (any_flat (holds_one E ds e) (λ n. field_types_in E (slice_get ds n)) (order_of (is_base ds) (length ds) c) found.0 found.1 own)

second : (a b c : Bool) → (a && b && c) ≡ true → b ≡ true
second true true c e = refl
second true false c e = cc
second false b c e = cc

held_within : (E : Space) (ds : List Declaring) (i j : ℕ) → holds E ds i j ≡ true → nat_lt j (length ds) ≡ true
unfolding holds
held_within E ds i j e =
    second (nat_lt i (length ds)) (nat_lt j (length ds))
    (list_any (λ (w : Written). is_under_or ds j (held_by w.ty)) (field_types_at E ds (order_of (is_base ds) (length ds) i))) e

pub rank_lower : (E : Space) (ds : List Declaring) → ((c : ℕ) → leads (holds E ds) (length ds) c c ≡ false) → (i j : ℕ) → holds E ds i j ≡ true
    → reach_of (holds E ds) (length ds) j < reach_of (holds E ds) (length ds) i
rank_lower E ds none i j edge =
    let w : IsWithin (holds E ds) (length ds) = record { below = λ a b e. (Decides-ltb b (length ds)).0 (held_within E ds a b e) } in
    falls (holds E ds) (length ds) w i j ((least (holds E ds) (length ds) w i j).1 (zero, edge)) (none j)

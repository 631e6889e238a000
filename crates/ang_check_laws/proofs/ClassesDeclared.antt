-- Bases and fields of declarations that the phases accept: a class has one base class at most, an interface has neither base class nor fields.
use Rattle.std.specs.Prelude.{ℕ, zero, suc, Bool, true, false, not, ◌≡◌, ◌<◌, ◌+◌, ◌&&◌, ◌||◌, List, [], ◌∷◌, ◌++◌, length, map, Option, Some, None, IfSome, option_to_list, slice_get, get_or, bytes_eq, if◌then◌else◌}
use Rattle.std.specs.List.{list_any, filter_map}
use Rattle.std.specs.Option.{option_or}
use Rattle.std.proofs.Common.{arith, refl, ap, sym, inl, inr, ◌∙◌}
use Rattle.std.proofs.lemmas.List.Quantifiers.{position-Some}
use Rattle.std.proofs.lemmas.Option.{same_Some, slice_get-get_or, slice_get_within}
use Rattle.std.proofs.lemmas.Bool.{eqb-true}
use Rattle.ang_kinds.specs.declared.error.ErrorKind.{ErrorKind}
use Rattle.ang_lex.specs.declared.token.Token.{Token}
use Rattle.ang_lex.specs.Text.{text_of}
use Rattle.ang_tree.specs.declared.type_name.TypeName.{TypeName}
use Rattle.ang_tree.specs.Stmt.{Every, Var}
use Rattle.ang_tree.specs.Declarations.{Decl, class, interface, import, function, globals, empty, MethodTree}
use Rattle.ang_types.specs.declared.asks.Refused.{Refused}
use Rattle.ang_view.specs.Registration.{RegistrationList}
use Rattle.ang_names_known.specs.Items.{each_after, list_or}
use Rattle.ang_names_known.specs.Spaces.{Space}
use Rattle.ang_names_listed.specs.Sources.{Source}
use Rattle.ang_names_listed.specs.declared.listed.ListedDeclaration.{ListedDeclaration}
use Rattle.ang_names_listed.specs.declared.listed.ListedMember.{ListedMember}
use Rattle.ang_names_listed.specs.declared.listed.Part.{Part}
use Rattle.ang_names_listed.specs.declared.listed.Part.TheVariants as part
use Rattle.ang_names_listed.specs.Declarations.{Declaring, declaring_by, declaring_of, declared_at, declared_from, declarations_from, declarations_of, families_of, family_name, globals_from, member_of, interface_shape, stands_at}
use Rattle.ang_names_classes.specs.Hierarchy.{field_type, field_types, place_of, is_place, names_place, is_parent, is_base, is_class_at}
use Rattle.ang_names_classes.specs.Resolved.{space_of_declared}
use Rattle.ang_names.specs.Refusals.{refusal_if, shape_named, names_class, is_bad_base, bases_refusal, member_limit, members_refusal, part_refusal, type_refusal}
use Rattle.ang_names.specs.Phases as phase
use Rattle.ang_names.specs.Phases.{first_refusals, refusals, refusals_of}
use Rattle.ang_check_sound.proofs.DeclaredTypes.{every_given}
use Rattle.ang_check_sound.proofs.Items.{every_joined, every_at}
use Rattle.ang_check_laws.proofs.ClassesGraph.{or_right, or_cases, and_parts}
use Rattle.ang_check_laws.proofs.Placed.{field_types_in, is_class_in}

-- ---- a family by its name

shape_first : (ds : List Declaring) (name : List ℕ) (i : ℕ) (d : Declaring) → i < length ds → bytes_eq (family_name (get_or ds i d)) name ≡ true
    → ((k : ℕ) → k < i → bytes_eq (family_name (get_or ds k d)) name ≡ false) → shape_named ds name ≡ Some (get_or ds i d).shape
shape_first [] name i d lt h before = absurd (omega (arith, lt))
shape_first (x ∷ xs) name zero d lt h before = ap (λ b. if b then Some x.shape else shape_named xs name) h
shape_first (x ∷ xs) name (suc i) d lt h before =
    ap (λ b. if b then Some x.shape else shape_named xs name) (before zero (omega arith))
    ∙ shape_first xs name i d (omega (arith, lt)) h (λ k less. before (suc k) (omega (arith, less)))

-- the family of a name that has a place stands there, and is the first of the name
pub place_shape : (ds : List Declaring) (name : List ℕ) (k : ℕ) → place_of ds name ≡ Some k
    → (x : Declaring) × (slice_get ds k ≡ Some x) × (shape_named ds name ≡ Some x.shape)
place_shape [] name k e = cc
place_shape (d ∷ ds) name k e =
    let found = position-Some (λ (y : Declaring). bytes_eq (family_name y) name) (d ∷ ds) k d e in
    (get_or (d ∷ ds) k d, slice_get-get_or (d ∷ ds) k d found.0, shape_first (d ∷ ds) name k d found.0 found.1 found.2)

placed_at : (j : ℕ) (o : Option ℕ) → is_place j o ≡ true → o ≡ Some j
placed_at j None e = cc
placed_at j (Some k) e = ap Some (eqb-true k j e)

-- one of these tokens names family j
abbrev pub Names : List Declaring → List ℕ → ℕ → List Token → Type 0
Names ds text j bs = list_any (λ b. is_place j (place_of ds (text_of text b))) bs ≡ true

named_there : (ds : List Declaring) (text : List ℕ) (j : ℕ) (bs : List Token) → Names ds text j bs → (x : Declaring) × (slice_get ds j ≡ Some x)
named_there ds text j [] e = cc
named_there ds text j (b ∷ bs) e =
    elim (or_cases (is_place j (place_of ds (text_of text b))) (list_any (λ b. is_place j (place_of ds (text_of text b))) bs) e) [
      | inl a ↦ let found = place_shape ds (text_of text b) j (placed_at j (place_of ds (text_of text b)) a) in (found.0, found.1)
      | inr a ↦ named_there ds text j bs a
    ]

parent_there_of : (ds : List Declaring) (j : ℕ) (o : Option Declaring) → names_place ds j o ≡ true → (x : Declaring) × (slice_get ds j ≡ Some x)
parent_there_of ds j None e = cc
parent_there_of ds j (Some d) e = named_there ds d.text j d.shape.bases e

pub parent_there : (ds : List Declaring) (i j : ℕ) → is_parent ds i j ≡ true → j < length ds
parent_there ds i j e = let found = parent_there_of ds j (slice_get ds i) e in slice_get_within ds j found.0 found.1

-- ---- bases that are accepted

neither : {A : Type 0} (a b : Option A) → option_or a b ≡ None → (a ≡ None) × (b ≡ None)
neither None b e = (refl, e)
neither (Some x) b e = cc

not_refused : (b : Bool) (why : ErrorKind) (text : List ℕ) (t : Token) → refusal_if b why text t ≡ None → b ≡ false
not_refused true why text t e = cc
not_refused false why text t e = refl

no_good : (a is_class has_class is_final : Bool) → (not is_class || has_class) ≡ true → (a && (not is_class || has_class || is_final)) ≡ false → a ≡ false
no_good false c h f g e = refl
no_good true true true f g e = cc
no_good true true false f g e = cc
no_good true false h f g e = cc

still_none : (is_class has_class more : Bool) → (not is_class || has_class) ≡ true → (not is_class || (has_class || more)) ≡ true
still_none true true m e = refl
still_none true false m e = cc
still_none false h m e = refl

-- where none can be a class any more, none is
no_class : (ds : List Declaring) (text : List ℕ) (is_class has_class : Bool) (bs : List Token) (j : ℕ) → (not is_class || has_class) ≡ true
    → bases_refusal ds text is_class has_class bs ≡ None → Names ds text j bs → is_class_at ds j ≡ false
no_class ds text is_class has_class [] j none e named = cc
no_class ds text is_class has_class (b ∷ bs) j none e named =
    let s = shape_named ds (text_of text b) in
    let parts = neither (refusal_if (is_bad_base is_class has_class s) _ text b) (bases_refusal ds text is_class (has_class || names_class s) bs) e in
    elim (or_cases (is_place j (place_of ds (text_of text b))) (list_any (λ b. is_place j (place_of ds (text_of text b))) bs) named) [
      | inl a ↦
          let found = place_shape ds (text_of text b) j (placed_at j (place_of ds (text_of text b)) a) in
          let good = not_refused (is_bad_base is_class has_class s) _ text b parts.0 in
          let here = sym (ap (is_bad_base is_class has_class) found.2) ∙ good in
          ap is_class_in found.1 ∙ no_good (found.0).shape.is_class is_class has_class (found.0).shape.is_final none here
      | inr a ↦ no_class ds text is_class (has_class || names_class s) bs j (still_none is_class has_class (names_class s) none) parts.1 a
    ]

-- two classes among the bases are one
one_class : (ds : List Declaring) (text : List ℕ) (is_class has_class : Bool) (bs : List Token) (i j : ℕ) → bases_refusal ds text is_class has_class bs ≡ None
    → Names ds text i bs → Names ds text j bs → is_class_at ds i ≡ true → is_class_at ds j ≡ true → i ≡ j
one_class ds text is_class has_class [] i j e n m c d = cc
one_class ds text is_class has_class (b ∷ bs) i j e n m c d =
    let place = place_of ds (text_of text b) in
    let s = shape_named ds (text_of text b) in
    let parts = neither (refusal_if (is_bad_base is_class has_class s) _ text b) (bases_refusal ds text is_class (has_class || names_class s) bs) e in
    let later : (k l : ℕ) → is_place k place ≡ true → is_class_at ds k ≡ true → Names ds text l bs → is_class_at ds l ≡ true → i ≡ j =
    (λ k l a ck x cl.
    let found = place_shape ds (text_of text b) k (placed_at k place a) in
    let is : names_class s ≡ true = ap names_class found.2 ∙ sym (ap is_class_in found.1) ∙ ck in
    let none = no_class ds text is_class (has_class || names_class s) bs l
    (or_right (not is_class) (has_class || names_class s) (or_right has_class (names_class s) is)) parts.1 x in
    absurd (let no' : true ≡ false = sym cl ∙ none in cc)) in
    elim (or_cases (is_place i place) (list_any (λ b. is_place i (place_of ds (text_of text b))) bs) n) [
      | inl a ↦ elim (or_cases (is_place j place) (list_any (λ b. is_place j (place_of ds (text_of text b))) bs) m) [
        | inl y ↦ same_Some i j (sym (placed_at i place a) ∙ placed_at j place y)
        | inr y ↦ later i j a c y d
      ]
      | inr x ↦ elim (or_cases (is_place j place) (list_any (λ b. is_place j (place_of ds (text_of text b))) bs) m) [
        | inl y ↦ later j i y d x c
        | inr y ↦ one_class ds text is_class (has_class || names_class s) bs i j parts.1 x y c d
      ]
    ]

-- ---- declarations that the phases accept

both_empty : {A : Type 0} (xs ys : List A) → list_or xs ys ≡ [] → (xs ≡ []) × (ys ≡ [])
both_empty [] ys e = (refl, e)
both_empty (x ∷ xs) ys e = cc

none_given : (o : Option Refused) (rest : List Refused) → option_to_list o ++ rest ≡ [] → (o ≡ None) × (rest ≡ [])
none_given None rest e = (refl, e)
none_given (Some r) rest e = cc

each_passes : (q : ListedDeclaration → Option Refused) (before xs : List ListedDeclaration) → each_after (λ (front : List ListedDeclaration) d. option_to_list (q d)) before xs ≡ []
    → Every (λ d. q d ≡ None) xs
each_passes q before [] e = tt
each_passes q before (x ∷ xs) e =
    let parts = none_given (q x) (each_after (λ (front : List ListedDeclaration) d. option_to_list (q d)) (before ++ x ∷ []) xs) e in
    (parts.0, each_passes q (before ++ x ∷ []) xs parts.1)

-- its bases are accepted
abbrev pub BasesPass : List Declaring → Declaring → Type 0
BasesPass ds d = bases_refusal ds d.text d.shape.is_class false d.shape.bases ≡ None

bases_by : (E : Space) (ds : List Declaring) (d : ListedDeclaration) (p : Part) → part_refusal E ds d p ≡ None → IfSome (declaring_by d p) (BasesPass ds)
bases_by E ds d (part.Family s) e =
    let first = neither (member_limit d s) _ e in
    (neither (bases_refusal ds d.text s.is_class false s.bases) (members_refusal E d.text (text_of d.text d.name) [] s.members) first.1).0
bases_by E ds d (part.Function y ps) e = tt
bases_by E ds d (part.Import y ps) e = tt
bases_by E ds d (part.Global y) e = tt

types_pass : (V : RegistrationList) (ss : List Source) → refusals_of V ss ≡ [] → refusals V (declarations_of ss) phase.Types ≡ []
unfolding refusals_of
types_pass V ss e =
    let all = declarations_of ss in
    let later = (both_empty (refusals V all phase.Names) (first_refusals V all (phase.Types ∷ phase.Ancestors ∷ phase.Heirs ∷ phase.Cycles ∷ [])) e).1 in
    (both_empty (refusals V all phase.Types) (first_refusals V all (phase.Ancestors ∷ phase.Heirs ∷ phase.Cycles ∷ [])) later).0

-- each declaration passes the phase of types
pub each_type_passes : (V : RegistrationList) (ss : List Source) → refusals_of V ss ≡ []
    → Every (λ d. type_refusal (space_of_declared V (declarations_of ss)) (declarations_of ss) d ≡ None) (declarations_of ss)
each_type_passes V ss e =
    let all = declarations_of ss in each_passes (type_refusal (space_of_declared V all) all) [] all (types_pass V ss e)

bases_of : (E : Space) (all ds : List ListedDeclaration) → Every (λ d. type_refusal E all d ≡ None) ds → Every (λ d. IfSome (declaring_of d) (BasesPass (families_of all))) ds
unfolding type_refusal
bases_of E all [] h = tt
bases_of E all (d ∷ ds) h = (bases_by E (families_of all) d d.part h.0, bases_of E all ds h.1)

families_by : (P : Declaring → Type 0) (ds : List ListedDeclaration) → Every (λ d. IfSome (declaring_of d) P) ds → Every P (families_of ds)
unfolding families_of
families_by P ds h = every_given P declaring_of ds h

pub bases_pass : (V : RegistrationList) (ss : List Source) → refusals_of V ss ≡ []
    → Every (BasesPass (families_of (declarations_of ss))) (families_of (declarations_of ss))
bases_pass V ss e =
    let all = declarations_of ss in
    families_by (BasesPass (families_of all)) all (bases_of (space_of_declared V all) all all (each_type_passes V ss e))

-- ---- interfaces have no fields

abbrev pub HasNoFields : Space → Declaring → Type 0
HasNoFields E d = d.shape.is_class ≡ false → field_types E d ≡ []

methods_only : (E : Space) (d : Declaring) (methods : List MethodTree) → filter_map (λ (m : ListedMember). field_type E d m.kind) (map member_of methods) ≡ []
methods_only E d [] = refl
methods_only E d (m ∷ ms) = methods_only E d ms

module _ (E : Space) (script : ℕ) (text : List ℕ) where
  abbrev Plain : ListedDeclaration → Type 0
  Plain d = IfSome (declaring_of d) (HasNoFields E)

  globals_plain : (n : ℕ) (y : TypeName) (i : ℕ) (vs : List Var) → Every Plain (globals_from script text n y i vs)
  globals_plain n y i [] = tt
  globals_plain n y i (v ∷ vs) = (tt, globals_plain n y (i + 1) vs)

  declared_plain : (n : ℕ) (d : Decl) → Every Plain (declared_at script text n d)
  declared_plain n (class final word x bases left members right) = (λ e. cc, tt)
  declared_plain n (interface word x bases left methods right) =
      let new : Declaring = record { origin = stands_at script n 0; text = text; name = x; shape = interface_shape bases methods } in
      (λ e. methods_only E new methods, tt)
  declared_plain n (import word y x ps from module_name semicolon) = (tt, tt)
  declared_plain n (function y x ps b) = (tt, tt)
  declared_plain n (globals vs) = globals_plain n vs.declared_type 0 vs.items
  declared_plain n (empty semicolon) = tt

  section_plain : (n : ℕ) (ds : List Decl) → Every Plain (declared_from script text n ds)
  section_plain n [] = tt
  section_plain n (d ∷ ds) = every_joined Plain (declared_at script text n d) (declared_from script text (n + 1) ds) (declared_plain n d) (section_plain (n + 1) ds)

all_plain : (E : Space) (s : ℕ) (xs : List Source) → Every (λ d. IfSome (declaring_of d) (HasNoFields E)) (declarations_from s xs)
all_plain E s [] = tt
all_plain E s (x ∷ xs) =
    every_joined (λ d. IfSome (declaring_of d) (HasNoFields E)) (declared_from s x.text 0 x.declarations) (declarations_from (s + 1) xs)
    (section_plain E s x.text 0 x.declarations) (all_plain E (s + 1) xs)

of_sources : (E : Space) (xs : List Source) → Every (λ d. IfSome (declaring_of d) (HasNoFields E)) (declarations_of xs)
unfolding declarations_of
of_sources E xs = all_plain E 0 xs

pub interfaces_plain : (E : Space) (xs : List Source) → Every (HasNoFields E) (families_of (declarations_of xs))
interfaces_plain E xs = families_by (HasNoFields E) (declarations_of xs) (of_sources E xs)

-- ---- by number

-- What is accepted of families: none leads to itself; a class has one base class at most, an interface none, nor fields.
pub record IsAccepted (E : Space) (ds : List Declaring) : Type 0 where
  pub one_base : (i j k : ℕ) → is_base ds i j ≡ true → is_base ds i k ≡ true → j ≡ k
  pub no_base : (i j : ℕ) → is_class_at ds i ≡ false → is_base ds i j ≡ false
  pub no_fields : (i : ℕ) → is_class_at ds i ≡ false → field_types_in E (slice_get ds i) ≡ []

module _ (E : Space) (ds : List Declaring) (bases : Every (BasesPass ds) ds) (plain : Every (HasNoFields E) ds) where
  one_base_of : (i j k : ℕ) (o : Option Declaring) → slice_get ds i ≡ o → names_place ds j o ≡ true → names_place ds k o ≡ true
      → is_class_at ds j ≡ true → is_class_at ds k ≡ true → j ≡ k
  one_base_of i j k None e n m c d = cc
  one_base_of i j k (Some x) e n m c d = one_class ds x.text x.shape.is_class false x.shape.bases j k (every_at (BasesPass ds) ds i x bases e) n m c d

  no_base_of : (i j : ℕ) (o : Option Declaring) (named a_class : Bool) → slice_get ds i ≡ o → is_class_in o ≡ false → names_place ds j o ≡ named
      → is_class_at ds j ≡ a_class → (named && a_class) ≡ false
  no_base_of i j o false a_class e is n c = refl
  no_base_of i j None true a_class e is n c = cc
  no_base_of i j (Some x) true a_class e is n c =
      let none : (not x.shape.is_class || false) ≡ true = ap (λ b. not b || false) is in
      sym c ∙ no_class ds x.text x.shape.is_class false x.shape.bases j none (every_at (BasesPass ds) ds i x bases e) n

  no_fields_of : (i : ℕ) (o : Option Declaring) → slice_get ds i ≡ o → is_class_in o ≡ false → field_types_in E o ≡ []
  no_fields_of i None e is = refl
  no_fields_of i (Some x) e is = every_at (HasNoFields E) ds i x plain e is

  accepted_of : IsAccepted E ds
  accepted_of = record {
    one_base = λ i j k a b.
        let p = and_parts (is_parent ds i j) (is_class_at ds j) a in
        let q = and_parts (is_parent ds i k) (is_class_at ds k) b in one_base_of i j k (slice_get ds i) refl p.0 q.0 p.1 q.1;
    no_base = λ i j is. no_base_of i j (slice_get ds i) (is_parent ds i j) (is_class_at ds j) refl is refl refl;
    no_fields = λ i is. no_fields_of i (slice_get ds i) refl is;
  }

pub accepted : (V : RegistrationList) (ss : List Source) → refusals_of V ss ≡ []
    → IsAccepted (space_of_declared V (declarations_of ss)) (families_of (declarations_of ss))
accepted V ss e =
    let all = declarations_of ss in
    accepted_of (space_of_declared V all) (families_of all) (bases_pass V ss e) (interfaces_plain (space_of_declared V all) ss)

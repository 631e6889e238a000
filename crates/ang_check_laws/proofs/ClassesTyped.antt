-- The classes of a build are typed.
use Rattle.std.specs.Prelude.{ℕ, zero, suc, Bool, true, false, ◌≡◌, ◌<◌, ◌-◌, ◌==◌, ◌⊎◌, nat_eq, nat_lt, if◌then◌else◌, List, [], ◌∷◌, length, map as list_map, Option, Some, None, option_map, slice_get}
use Rattle.std.specs.List.{list_any}
use Rattle.std.proofs.Common.{arith, refl, ap, sym, subst, inl, inr, ◌∙◌}
use Rattle.std.proofs.lemmas.Bool.{eqb-true, eq-eqb}
use Rattle.std.proofs.lemmas.Option.{same_Some, slice_get_within, slice_get-map}
use Rattle.ang_view.specs.Registration.{RegistrationList, entry_at}
use Rattle.ang_types.specs.declared.arg_type.ArgType.{ArgType}
use Rattle.ang_types.specs.declared.arg_type.ArgType.TheVariants as type
use Rattle.ang_typed.specs.declared.program.TypedClass.{TypedClass}
use Rattle.ang_names_graph.specs.Graphs.{leads, above}
use Rattle.ang_names_graph.proofs.Closure.{leads_join}
use Rattle.ang_names_known.specs.declared.names.Names.{Names}
use Rattle.ang_names_known.specs.declared.names.Family.{Family as ScriptFamily}
use Rattle.ang_names_known.specs.Spaces.{Space, family_of_type}
use Rattle.ang_names_listed.specs.Sources.{Source}
use Rattle.ang_names_listed.specs.declared.listed.ListedDeclaration.{ListedDeclaration}
use Rattle.ang_names_listed.specs.Declarations.{Declaring, declarations_of, families_of}
use Rattle.ang_names_classes.specs.Headings.{signatures_of}
use Rattle.ang_names_classes.specs.Hierarchy.{holds, is_parent, is_under_or}
use Rattle.ang_names_classes.specs.Resolved.{families_in, functions_in, names_of, space_of_declared}
use Rattle.ang_names.specs.Phases.{refusals_of}
use Rattle.ang_names.proofs.Ranks.{ancestors, cycles}
use Rattle.ang_check.specs.Bodies.{typed_classes, program_of}
use Rattle.ang_meaning.specs.Environment.{Environment, class_in}
use Rattle.ang_source.specs.Meaning.{class_among, class_of, fields_by}
use Rattle.ang_source_typed.specs.Types.{SlotType, Key, Family, TypedModule, Modules, driver_of, slot_type, field_types, first_family, IsUnder}
use Rattle.ang_source_typed.specs.TypedProgram.{AreClasses}
use Rattle.ang_check_laws.specs.Given.{IsBuilt, module_typed, is_class_at}
use Rattle.ang_check_laws.specs.Kin.{TablesAreTyped}
use Rattle.ang_check_laws.proofs.ClassesGraph.{or_left, or_right, or_cases, above_in, above_out}
use Rattle.ang_check_laws.proofs.ClassesDeclared.{IsAccepted, accepted}
use Rattle.ang_check_laws.proofs.ClassesTables.{IsTable, table_of, family_there, family_gone, family_in, inherits, can_hold, rank_lower}
use Rattle.ang_check_laws.proofs.Placed.{is_class_in}

-- ---- a field that holds a family's objects

slot_by : (V : RegistrationList) (m n d : ℕ) (b : Bool) → nat_lt n first_family ≡ b → (if b then Key (driver_of (entry_at V n)) else Family m (n - first_family)) ≡ Family m d
    → family_of_type n ≡ Some d
slot_by V m n d true is e = cc
slot_by V m n d false is e =
    let same : n - first_family ≡ d = cc in ap (λ b. if b then None else Some (n - first_family)) is ∙ ap Some same

slot_of_family : (V : RegistrationList) (m d : ℕ) (ty : ArgType) → slot_type V m ty ≡ Family m d → family_in ty ≡ Some d
slot_of_family V m d type.Void e = cc
slot_of_family V m d type.Null e = cc
slot_of_family V m d (type.Plain p) e = cc
slot_of_family V m d (type.Enumeration n) e = cc
slot_of_family V m d (type.Object n c) e = slot_by V m n d (nat_lt n first_family) refl e
slot_of_family V m d (type.Handle n c) e = slot_by V m n d (nat_lt n first_family) refl e

pub given_by : {A B : Type 0} (f : A → B) (o : Option A) (b : B) → option_map f o ≡ Some b → (a : A) × (o ≡ Some a) × (f a ≡ b)
given_by f None b e = cc
given_by f (Some a) b e = (a, refl, same_Some (f a) b e)

any_at : {A : Type 0} (q : A → Bool) (xs : List A) (i : ℕ) (a : A) → slice_get xs i ≡ Some a → q a ≡ true → list_any q xs ≡ true
any_at q [] i a e h = cc
any_at q (x ∷ xs) zero a e h = or_left (q x) (list_any q xs) (subst (λ y. q y ≡ true) (sym (same_Some x a e)) h)
any_at q (x ∷ xs) (suc i) a e h = or_right (q x) (list_any q xs) (any_at q xs i a e h)

-- ---- of the table

module _ (E : Space) (ds : List Declaring) (cs : List TypedClass) (table : IsTable E ds cs) (accepted : IsAccepted E ds)
    (free : (c : ℕ) → leads (is_parent ds) (length ds) c c ≡ false) (low : (c : ℕ) → leads (holds E ds) (length ds) c c ≡ false) where
  abbrev Under : ℕ → ℕ → Type 0
  Under c d = list_any (nat_eq d) (class_in (class_among cs c)).under ≡ true

  -- d is c or stands above it
  abbrev Reaches : ℕ → ℕ → Type 0
  Reaches c d = (c ≡ d) ⊎ ((d < length ds) × (leads (is_parent ds) (length ds) c d ≡ true))

  pub record IsIn (c d : ℕ) : Type 0 where
    pub family : Declaring
    pub there : slice_get ds c ≡ Some family
    pub reaches : Reaches c d

  row_under : (c : ℕ) (x : Declaring) → slice_get ds c ≡ Some x → (class_in (class_among cs c)).under ≡ c ∷ above (is_parent ds) (length ds) c
  row_under c x e =
      let h = table.rows c x e in
      ap (λ o. (class_in (option_map (class_of cs c) o)).under) h.there ∙ ap (λ ks. c ∷ ks) h.above

  row_rank : (c : ℕ) (x : Declaring) (e : slice_get ds c ≡ Some x) → (class_in (class_among cs c)).rank ≡ (table.rows c x e).row.rank
  row_rank c x e = ap (λ o. (class_in (option_map (class_of cs c) o)).rank) (table.rows c x e).there

  under_by : (c d : ℕ) (o : Option Declaring) → slice_get ds c ≡ o → Under c d → IsIn c d
  under_by c d None is u = absurd (let no' : false ≡ true = sym (ap (λ o. list_any (nat_eq d) (class_in (option_map (class_of cs c) o)).under) (table.gone c is)) ∙ u in cc)
  under_by c d (Some x) is u = record {
    family = x;
    there = is;
    reaches =
        let listed = sym (ap (list_any (nat_eq d)) (row_under c x is)) ∙ u in
        elim (or_cases (nat_eq d c) (list_any (nat_eq d) (above (is_parent ds) (length ds) c)) listed) [
          | inl same ↦ inl (sym (eqb-true d c same))
          | inr over ↦ inr (above_out (is_parent ds) (length ds) c d (nat_eq d) (λ k e. sym (eqb-true d k e)) over)
        ];
  }

  pub under_out : (c d : ℕ) → Under c d → IsIn c d
  under_out c d u = under_by c d (slice_get ds c) refl u

  pub under_in : (c d : ℕ) → IsIn c d → Under c d
  under_in c d h =
      ap (list_any (nat_eq d)) (row_under c h.family h.there)
      ∙ (elim (h.reaches) [
        | inl same ↦ or_left (nat_eq d c) (list_any (nat_eq d) (above (is_parent ds) (length ds) c)) (eq-eqb d c (sym same))
        | inr over ↦ or_right (nat_eq d c) (list_any (nat_eq d) (above (is_parent ds) (length ds) c))
            (above_in (is_parent ds) (length ds) c d (nat_eq d) (eq-eqb d d refl) over.0 over.1)
      ])

  joined : (c d e : ℕ) → Reaches c d → Reaches d e → Reaches c e
  joined c d e (inl x) r = subst (λ k. Reaches k e) (sym x) r
  joined c d e (inr x) (inl y) = inr (subst (λ k. (k < length ds) × (leads (is_parent ds) (length ds) c k ≡ true)) y x)
  joined c d e (inr x) (inr y) = inr (y.0, leads_join (is_parent ds) (length ds) c d e x.0 x.1 y.1)

  pub stands : (c d e : ℕ) → Under c d → Under d e → Under c e
  stands c d e u w =
      let a = under_out c d u in
      let b = under_out d e w in
      under_in c e (record { family = a.family; there = a.there; reaches = joined c d e a.reaches b.reaches })

  abbrev own : ℕ → List ArgType
  own c = fields_by cs (length cs) (slice_get cs c)

  inherits_by : (c d i : ℕ) (ty : ArgType) → Reaches c d → slice_get (own d) i ≡ Some ty → slice_get (own c) i ≡ Some ty
  inherits_by c d i ty (inl same) e = subst (λ k. slice_get (own k) i ≡ Some ty) (sym same) e
  inherits_by c d i ty (inr over) e = inherits E ds cs table accepted free c d i ty over.1 e

  -- what is under d, or d itself, is one of its kind
  under_or_by : (d e : ℕ) → Reaches e d → is_under_or ds e (Some d) ≡ true
  under_or_by d e (inl same) = or_left (e == d) (list_any (λ k. k == d) (above (is_parent ds) (length ds) e)) (eq-eqb e d same)
  under_or_by d e (inr over) =
      or_right (e == d) (list_any (λ k. k == d) (above (is_parent ds) (length ds) e))
      (above_in (is_parent ds) (length ds) e d (λ k. k == d) (eq-eqb d d refl) over.0 over.1)

  -- a class of which a field is there is one of the declared
  there_by : (c i : ℕ) (ty : ArgType) (o : Option Declaring) → slice_get ds c ≡ o → slice_get (own c) i ≡ Some ty → (x : Declaring) × (slice_get ds c ≡ Some x)
  there_by c i ty None is e = absurd (let no' : None ≡ Some ty = sym (ap (λ o. slice_get (fields_by cs (length cs) o) i) (table.gone c is)) ∙ e in cc)
  there_by c i ty (Some x) is e = (x, is)

  pub lower : (c d e i : ℕ) (ty : ArgType) → slice_get (own c) i ≡ Some ty → family_in ty ≡ Some d → Under e d
      → (class_in (class_among cs e)).rank < (class_in (class_among cs c)).rank
  lower c d e i ty at is u =
      let low_end = under_out e d u in
      let top = there_by c i ty (slice_get ds c) refl at in
      let named : is_under_or ds e (family_in ty) ≡ true = ap (is_under_or ds e) is ∙ under_or_by d e low_end.reaches in
      let some = any_at (λ x. is_under_or ds e (family_in x)) (own c) i ty at named in
      let held = can_hold E ds cs table accepted free c e (slice_get_within ds c top.0 top.1) (slice_get_within ds e low_end.family low_end.there) some in
      let less = rank_lower E ds low c e held in
      let mine = row_rank c top.0 top.1 ∙ (table.rows c top.0 top.1).rank in
      let its = row_rank e low_end.family low_end.there ∙ (table.rows e low_end.family low_end.there).rank in
      omega (arith, less, mine, its)

  -- In a setting that has this table:
  module _ (z : Environment) (ms : Modules) (m : ℕ) (V : RegistrationList) (classes : (c : ℕ) → z.class m c ≡ class_among cs c)
      (fields : (c : ℕ) → field_types ms m c ≡ list_map (slot_type V m) (own c))
      (itself : (c : ℕ) → (ms m).is_class c ≡ true → (x : Declaring) × (slice_get ds c ≡ Some x)) where
    to_setting : (c d : ℕ) → Under c d → IsUnder z ms m c d
    to_setting c d u = subst (λ o. list_any (nat_eq d) (class_in o).under ≡ true) (sym (classes c)) u

    of_setting : (c d : ℕ) → IsUnder z ms m c d → Under c d
    of_setting c d u = subst (λ o. list_any (nat_eq d) (class_in o).under ≡ true) (classes c) u

    field_of : (c i : ℕ) (s : SlotType) → slice_get (field_types ms m c) i ≡ Some s → (ty : ArgType) × (slice_get (own c) i ≡ Some ty) × (slot_type V m ty ≡ s)
    field_of c i s e =
        given_by (slot_type V m) (slice_get (own c) i) s
        (sym (slice_get-map (slot_type V m) (own c) i) ∙ sym (ap (λ ts. slice_get ts i) (fields c)) ∙ e)

    inherited_field : (c d i : ℕ) (s : SlotType) → IsUnder z ms m c d → slice_get (field_types ms m d) i ≡ Some s → slice_get (field_types ms m c) i ≡ Some s
    inherited_field c d i s u e =
        let f = field_of d i s e in
        let up = inherits_by c d i f.0 (under_out c d (of_setting c d u)).reaches f.1 in
        ap (λ ts. slice_get ts i) (fields c)
        ∙ slice_get-map (slot_type V m) (own c) i
        ∙ ap (option_map (slot_type V m)) up ∙ ap Some f.2

    lower_rank : (c d e i : ℕ) → slice_get (field_types ms m c) i ≡ Some (Family m d) → IsUnder z ms m e d
        → (class_in (z.class m e)).rank < (class_in (z.class m c)).rank
    lower_rank c d e i at u =
        let f = field_of c i (Family m d) at in
        let less = lower c d e i f.0 f.1 (slot_of_family V m d f.0 f.2) (of_setting e d u) in
        let mine = ap (λ o. (class_in o).rank) (classes c) in
        let its = ap (λ o. (class_in o).rank) (classes e) in
        omega (arith, less, mine, its)

    pub are_classes : AreClasses z ms m
    are_classes = record {
      itself = λ c is. let x = itself c is in to_setting c c (under_in c c (record { family = x.0; there = x.1; reaches = inl refl }));
      above = λ c d e u w. to_setting c e (stands c d e (of_setting c d u) (of_setting d e w));
      inherits = inherited_field;
      falls = lower_rank;
    }

-- ---- of a build

pub classes_in : (V : RegistrationList) (names : Names) (ss : List Source) → (program_of V names ss).classes ≡ typed_classes names.families
unfolding program_of
classes_in V names ss = refl

pub families_named : (V : RegistrationList) (all : List ListedDeclaration) → (names_of V all).families ≡ families_in (space_of_declared V all) all
unfolding names_of
families_named V all = refl

pub table_declared : (E : Space) (all : List ListedDeclaration) → IsTable E (families_of all) (typed_classes (families_in E all))
unfolding families_in
table_declared E all = table_of E (families_of all) (signatures_of E (families_of all)) (length (functions_in E all))

gone_declared : (E : Space) (all : List ListedDeclaration) (c : ℕ) → slice_get (families_of all) c ≡ None → slice_get (families_in E all) c ≡ None
unfolding families_in
gone_declared E all c e = family_gone E (families_of all) (signatures_of E (families_of all)) (length (functions_in E all)) [] (families_of all) c e

class_there : (E : Space) (all : List ListedDeclaration) (c : ℕ) (o : Option Declaring) → slice_get (families_of all) c ≡ o
    → is_class_at (slice_get (families_in E all) c) ≡ true → (x : Declaring) × (slice_get (families_of all) c ≡ Some x)
class_there E all c None is e = absurd (let no' : false ≡ true = sym (ap is_class_at (gone_declared E all c is)) ∙ e in cc)
class_there E all c (Some x) is e = (x, is)

pub fields_in : (V : RegistrationList) (names : Names) (ss : List Source) (m c : ℕ) (M : TypedModule) (fs : List ScriptFamily) → M ≡ module_typed V names ss → names.families ≡ fs
    → list_map (slot_type M.view m) (fields_by M.program.classes (length M.program.classes) (slice_get M.program.classes c))
    ≡ list_map (slot_type V m) (fields_by (typed_classes fs) (length (typed_classes fs)) (slice_get (typed_classes fs) c))
fields_in V names ss m c M fs known same =
    ap (λ (N : TypedModule). list_map (slot_type N.view m) (fields_by N.program.classes (length N.program.classes) (slice_get N.program.classes c))) known
    ∙ ap (λ cs. list_map (slot_type V m) (fields_by cs (length cs) (slice_get cs c))) (classes_in V names ss ∙ ap typed_classes same)

pub typed : TablesAreTyped
typed V names ss z ms m free e built =
    let all = declarations_of ss in
    let E = space_of_declared V all in
    let fs = families_in E all in
    let same : names.families ≡ fs = ap (λ (ns : Names). ns.families) e ∙ families_named V all in
    are_classes E (families_of all) (typed_classes fs) (table_declared E all) (accepted V ss free) (λ c. ancestors V ss c free) (λ c. cycles V ss c free) z ms m V
    (λ c. built.tree.classes c ∙ ap (λ cs. class_among cs c) (classes_in V names ss ∙ ap typed_classes same))
    (λ c. fields_in V names ss m c (ms m) fs built.known same)
    (λ c is. class_there E all c (slice_get (families_of all) c) refl
    (sym (ap (λ gs. is_class_at (slice_get gs c)) same) ∙ sym (ap (λ (M : TypedModule). M.is_class c) built.known) ∙ is))

-- A family of the names is a class where its declaration is one.
pub kind_declared : (E : Space) (all : List ListedDeclaration) (c : ℕ) (o : Option Declaring) → slice_get (families_of all) c ≡ o
    → is_class_at (slice_get (families_in E all) c) ≡ is_class_in o
unfolding families_in
kind_declared E all c None is = ap is_class_at (gone_declared E all c is)
kind_declared E all c (Some d) is =
    ap is_class_at (family_there E (families_of all) (signatures_of E (families_of all)) (length (functions_in E all)) [] (families_of all) c c d (omega arith) is).1

-- To what an object's class stands under, one is led from it by base classes and interfaces.
pub led_to : (V : RegistrationList) (names : Names) (ss : List Source) (z : Environment) (ms : Modules) (m : ℕ) → refusals_of V ss ≡ [] → names ≡ names_of V (declarations_of ss)
    → IsBuilt z ms m V names ss → (c d : ℕ) → IsUnder z ms m c d
    → (c ≡ d) ⊎ (leads (is_parent (families_of (declarations_of ss))) (length (families_of (declarations_of ss))) c d ≡ true)
led_to V names ss z ms m free e built c d under =
    let all = declarations_of ss in
    let E = space_of_declared V all in
    let fs = families_in E all in
    let same : names.families ≡ fs = ap (λ (ns : Names). ns.families) e ∙ families_named V all in
    let class : z.class m c ≡ class_among (typed_classes fs) c =
    built.tree.classes c ∙ ap (λ cs. class_among cs c) (classes_in V names ss ∙ ap typed_classes same) in
    let h = under_out E (families_of all) (typed_classes fs) (table_declared E all) (accepted V ss free) (λ k. ancestors V ss k free) (λ k. cycles V ss k free) c d
    (subst (λ o. list_any (nat_eq d) (class_in o).under ≡ true) class under) in
    elim (h.reaches) [
      | inl equal ↦ inl equal
      | inr over ↦ inr over.1
    ]

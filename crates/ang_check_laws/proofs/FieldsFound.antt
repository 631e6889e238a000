-- The field of a name stands where its number says.
use Rattle.std.specs.Prelude.{ℕ, suc, Bool, true, false, ◌≡◌, ◌+◌, ◌==◌, ◌||◌, List, [], ◌∷◌, ◌++◌, length, find, cond, Option, Some, None, bytes_eq, option_map, slice_get}
use Rattle.std.specs.List.{list_any, filter_map, cons_option}
use Rattle.std.specs.Option.{option_or}
use Rattle.std.proofs.Common.{arith, refl, ap, sym, subst, inl, inr, ◌∙◌, length-append}
use Rattle.std.proofs.lemmas.Bool.{eqb-true, eq-eqb}
use Rattle.std.proofs.lemmas.Option.{same_Some, slice_get-map}
use Rattle.std.proofs.lemmas.List.Elements.{filter_map-append}
use Rattle.ang_view.specs.Registration.{RegistrationList}
use Rattle.ang_types.specs.declared.arg_type.ArgType.{ArgType}
use Rattle.ang_typed.specs.declared.program.TypedClass.{TypedClass}
use Rattle.ang_names_graph.specs.Graphs.{leads}
use Rattle.ang_names.proofs.Ranks.{ancestors}
use Rattle.ang_names_known.specs.declared.names.Family.{Family}
use Rattle.ang_names_known.specs.declared.names.Field.{Field}
use Rattle.ang_names_known.specs.declared.names.FoundField.{FoundField}
use Rattle.ang_names_known.specs.declared.names.Names.{Names}
use Rattle.ang_names_known.specs.declared.names.ScriptFunction.{ScriptFunction}
use Rattle.ang_names_known.specs.declared.names.Written.{Written}
use Rattle.ang_names_known.specs.Items.{each_after}
use Rattle.ang_names_known.specs.Lookup.{field_named, field_of, first_field, families_at, is_under, kin_of, own_field, with_family}
use Rattle.ang_names_known.specs.Spaces.{Space}
use Rattle.ang_names_listed.specs.declared.listed.ListedDeclaration.{ListedDeclaration}
use Rattle.ang_names_listed.specs.declared.listed.ListedMember.{ListedMember}
use Rattle.ang_names_listed.specs.Declarations.{Declaring, declarations_of, families_of}
use Rattle.ang_names_classes.specs.Headings.{signatures_of}
use Rattle.ang_names_classes.specs.Hierarchy.{field_type, is_parent}
use Rattle.ang_names_classes.specs.Resolved.{families_after, families_in, family_with, field_numbered, fields_after, functions_in, inherited_fields, names_of, space_of_declared}
use Rattle.ang_check.specs.Bodies.{typed_classes}
use Rattle.ang_source.specs.Meaning.{fields_by}
use Rattle.ang_source_typed.specs.Types.{TypedModule, slot_type}
use Rattle.ang_check_laws.specs.Fields.{FieldsStand}
use Rattle.ang_check_laws.proofs.ClassesGraph.{or_left, or_cases, above_out}
use Rattle.ang_check_laws.proofs.ClassesDeclared.{IsAccepted, accepted}
use Rattle.ang_check_laws.proofs.ClassesTables.{family_there, family_gone, inherits, table_of}
use Rattle.ang_check_laws.proofs.ClassesTyped.{fields_in, given_by}
use Rattle.ang_check_laws.proofs.ClassesKin.{orders_above}
use Rattle.ang_check_laws.proofs.FieldsCounted.{nothing_before, own_there}
use Rattle.ang_check_laws.proofs.Placed.{above_of, kin_in}

-- ---- a field's number among those of its family

same_place : (x i a b p : ℕ) → x ≡ i + (a + p) → a ≡ b + 0 → x ≡ i + (b + p)
same_place x i a b p e f = omega (arith, e, f)

next : (x i a b p : ℕ) → x ≡ i + (a + p) → a ≡ b + 1 → x ≡ i + (b + suc p)
next x i a b p e f = omega (arith, e, f)

later : (a b : Bool) → b ≡ true → (a || b) ≡ true
later true b e = refl
later false b e = e

module _ (E : Space) (d : Declaring) (inherited : ℕ) (q : Field → Bool) where
  abbrev types_in : List ListedMember → List Written
  types_in ms = filter_map (λ (m : ListedMember). field_type E d m.kind) ms

  abbrev numbered : List ListedMember → List ListedMember → List Field
  numbered before ms = each_after (fields_after E d inherited) before ms

  -- after these members, a field of those is the one of its number
  pub record Stands (before ms : List ListedMember) (x : Field) : Type 0 where
    pub at : ℕ
    pub number : x.number ≡ inherited + (length (types_in before) + at)
    pub there : slice_get (types_in ms) at ≡ Some x.written

  longer : (before : List ListedMember) (m : ListedMember) (o : Option Written) → field_type E d m.kind ≡ o
      → length (types_in (before ++ m ∷ [])) ≡ length (types_in before) + length (cons_option o [])
  longer before m o is =
      ap length (filter_map-append (λ (x : ListedMember). field_type E d x.kind) before (m ∷ []))
      ∙ length-append (types_in before) (types_in (m ∷ []))
      ∙ ap (λ r. length (types_in before) + length (cons_option r [])) is

  this_one : (before ms : List ListedMember) (m : ListedMember) (x y : Field) (w : Written) (b : Bool) → q y ≡ b → y.number ≡ inherited + length (types_in before) → y.written ≡ w
      → field_type E d m.kind ≡ Some w → (find q (numbered (before ++ m ∷ []) ms) ≡ Some x → Stands (before ++ m ∷ []) ms x)
      → cond b (Some y) (find q (numbered (before ++ m ∷ []) ms)) ≡ Some x → Stands before (m ∷ ms) x
  this_one before ms m x y w true is number written has go e =
      let same : y ≡ x = same_Some y x e in record {
        at = 0;
        number =
            let n : x.number ≡ inherited + length (types_in before) = ap (λ (v : Field). v.number) (sym same) ∙ number in
            let none : inherited + length (types_in before) ≡ inherited + (length (types_in before) + 0) = omega arith in n ∙ none;
        there = ap (λ r. slice_get (cons_option r (types_in ms)) 0) has ∙ ap Some (sym written ∙ ap (λ (v : Field). v.written) same);
      }
  this_one before ms m x y w false is number written has go e =
      let rest = go e in record {
        at = suc rest.at;
        number = next x.number inherited (length (types_in (before ++ m ∷ []))) (length (types_in before)) rest.at rest.number (longer before m (Some w) has);
        there = ap (λ r. slice_get (cons_option r (types_in ms)) (suc rest.at)) has ∙ rest.there;
      }

  one_found : (before ms : List ListedMember) (m : ListedMember) (x : Field) (o : Option Written) → field_type E d m.kind ≡ o
      → (find q (numbered (before ++ m ∷ []) ms) ≡ Some x → Stands (before ++ m ∷ []) ms x)
      → find q (field_numbered d m (inherited + length (types_in before)) o ++ numbered (before ++ m ∷ []) ms) ≡ Some x → Stands before (m ∷ ms) x
  one_found before ms m x None has go e =
      let rest = go e in record {
        at = rest.at;
        number = same_place x.number inherited (length (types_in (before ++ m ∷ []))) (length (types_in before)) rest.at rest.number (longer before m None has);
        there = ap (λ r. slice_get (cons_option r (types_in ms)) rest.at) has ∙ rest.there;
      }
  one_found before ms m x (Some w) has go e = this_one before ms m x _ w _ refl refl refl has go e

  pub found_there : (before ms : List ListedMember) (x : Field) → find q (numbered before ms) ≡ Some x → Stands before ms x
  found_there before [] x e = cc
  found_there before (m ∷ ms) x e = one_found before ms m x (field_type E d m.kind) refl (found_there (before ++ m ∷ []) ms x) e

-- ---- the family that has it

pub record IsFoundIn (fs : List Family) (ks : List ℕ) (name : List ℕ) (f : FoundField) : Type 0 where
  pub owner : ℕ
  pub family : Family
  pub listed : list_any (λ j. j == owner) ks ≡ true
  pub there : slice_get fs owner ≡ Some family
  pub own : own_field name (owner, family) ≡ Some f

module _ (fs : List Family) (name : List ℕ) (f : FoundField) where
  after_one : (k : ℕ) (ks : List ℕ) → IsFoundIn fs ks name f → IsFoundIn fs (k ∷ ks) name f
  after_one k ks h = record {
    owner = h.owner;
    family = h.family;
    listed = later (k == h.owner) (list_any (λ j. j == h.owner) ks) h.listed;
    there = h.there;
    own = h.own;
  }

  this_or_later : (k : ℕ) (ks : List ℕ) (F : Family) (o : Option FoundField) → slice_get fs k ≡ Some F → own_field name (k, F) ≡ o
      → (first_field name (families_at fs ks) ≡ Some f → IsFoundIn fs ks name f) → option_or o (first_field name (families_at fs ks)) ≡ Some f → IsFoundIn fs (k ∷ ks) name f
  this_or_later k ks F None there own go e = after_one k ks (go e)
  this_or_later k ks F (Some g) there own go e = record {
    owner = k;
    family = F;
    listed = or_left (k == k) (list_any (λ j. j == k) ks) (eq-eqb k k refl);
    there = there;
    own = own ∙ e;
  }

  in_one : (k : ℕ) (ks : List ℕ) (o : Option Family) → slice_get fs k ≡ o → (first_field name (families_at fs ks) ≡ Some f → IsFoundIn fs ks name f)
      → first_field name (with_family k o (families_at fs ks)) ≡ Some f → IsFoundIn fs (k ∷ ks) name f
  in_one k ks None there go e = after_one k ks (go e)
  in_one k ks (Some F) there go e = this_or_later k ks F (own_field name (k, F)) there refl go e

  in_order : (ks : List ℕ) → first_field name (families_at fs ks) ≡ Some f → IsFoundIn fs ks name f
  in_order [] e = cc
  in_order (k ∷ ks) e = in_one k ks (slice_get fs k) refl (in_order ks) e

  pub record IsFoundOf (c : ℕ) : Type 0 where
    pub class : Family
    pub there : slice_get fs c ≡ Some class
    pub found : IsFoundIn fs class.order name f

  found_by : (c : ℕ) (o : Option Family) → slice_get fs c ≡ o → first_field name (kin_in fs o) ≡ Some f → IsFoundOf c
  found_by c None there e = cc
  found_by c (Some F) there e = record { class = F; there = there; found = in_order F.order e }

  pub found_of : (c : ℕ) → field_named fs c name ≡ Some f → IsFoundOf c
  unfolding field_named kin_of
  found_of c e = found_by c (slice_get fs c) refl e

-- ---- of the families of a build

module _ (E : Space) (ds : List Declaring) (methods : List (ScriptFunction × Bool)) (functions : ℕ) where
  abbrev families : List Family
  families = each_after (families_after E ds methods functions) [] ds

  pub record IsOf (c : ℕ) (f : Family) : Type 0 where
    pub first : ℕ
    pub declaration : Declaring
    pub there : slice_get ds c ≡ Some declaration
    pub is : family_with E ds methods c first declaration ≡ f

  of_declaration : (c : ℕ) (f : Family) (o : Option Declaring) → slice_get ds c ≡ o → slice_get families c ≡ Some f → IsOf c f
  of_declaration c f None there e = absurd (let no' : None ≡ Some f = sym (family_gone E ds methods functions [] ds c there) ∙ e in cc)
  of_declaration c f (Some d) there e =
      let found = family_there E ds methods functions [] ds c c d (omega arith) there in
      record { first = found.0; declaration = d; there = there; is = same_Some _ f (sym found.1 ∙ e) }

  module _ (accepted : IsAccepted E ds) (free : (c : ℕ) → leads (is_parent ds) (length ds) c c ≡ false) where
    abbrev classes : List TypedClass
    classes = typed_classes families

    abbrev pub all_fields : ℕ → List ArgType
    all_fields c = fields_by classes (length classes) (slice_get classes c)

    -- where it is declared
    declared_there : (k : ℕ) (F : Family) (name : List ℕ) (f : FoundField) → slice_get families k ≡ Some F → own_field name (k, F) ≡ Some f
        → slice_get (all_fields k) f.number ≡ Some f.written.ty
    declared_there k F name f e own =
        let h = of_declaration k F (slice_get ds k) refl e in
        let x = given_by (field_of k) (find (λ (x : Field). bytes_eq x.name name) F.fields) f own in
        let s = found_there E h.declaration (inherited_fields E ds k) (λ (x : Field). bytes_eq x.name name) [] (h.declaration).shape.members x.0
        (ap (λ (G : Family). find (λ (x : Field). bytes_eq x.name name) G.fields) h.is ∙ x.1) in
        let number : f.number ≡ inherited_fields E ds k + s.at = ap (λ (g : FoundField). g.number) (sym x.2) ∙ s.number ∙ ap (λ n. inherited_fields E ds k + n) (nothing_before s.at) in
        ap (slice_get (all_fields k)) number
        ∙ own_there E ds classes (table_of E ds methods functions) accepted free k s.at h.declaration x.0.written h.there s.there
        ∙ ap (λ (g : FoundField). Some g.written.ty) x.2

    -- what is listed as above a family
    leads_to : (c k : ℕ) (F : Family) → slice_get families c ≡ Some F → list_any (λ j. j == k) F.above ≡ true → leads (is_parent ds) (length ds) c k ≡ true
    leads_to c k F e listed =
        let h = of_declaration c F (slice_get ds c) refl e in
        (above_out (is_parent ds) (length ds) c k (λ j. j == k) (λ j same. eqb-true j k same)
        (ap (λ (G : Family). list_any (λ j. j == k) G.above) h.is ∙ listed)).1

    pub found_field : (c k : ℕ) (F G : Family) (name : List ℕ) (f : FoundField) → slice_get families c ≡ Some F → slice_get families k ≡ Some G → own_field name (k, G) ≡ Some f
        → is_under families c k ≡ true → slice_get (all_fields c) f.number ≡ Some f.written.ty
    found_field c k F G name f class there own under =
        let declared = declared_there k G name f there own in
        elim (or_cases (c == k) (list_any (λ j. j == k) (above_of (slice_get families c))) under) [
          | inl same ↦ subst (λ j. slice_get (all_fields j) f.number ≡ Some f.written.ty) (sym (eqb-true c k same)) declared
          | inr over ↦
              inherits E ds classes (table_of E ds methods functions) accepted free c k f.number f.written.ty
              (leads_to c k F class (sym (ap (λ o. list_any (λ j. j == k) (above_of o)) class) ∙ over)) declared
        ]

families_named : (V : RegistrationList) (all : List ListedDeclaration)
    → (names_of V all).families ≡ families (space_of_declared V all) (families_of all) (signatures_of (space_of_declared V all) (families_of all)) (length (functions_in (space_of_declared V all) all))
unfolding names_of families_in
families_named V all = refl

pub fields_stand : FieldsStand
fields_stand V names ss z ms m no_refusals e built c name f found =
    let all = declarations_of ss in
    let E = space_of_declared V all in
    let ds = families_of all in
    let methods = signatures_of E ds in
    let functions = length (functions_in E all) in
    let fs = families E ds methods functions in
    let same : names.families ≡ fs = ap (λ (ns : Names). ns.families) e ∙ families_named V all in
    let h = found_of names.families name f c found in
    let x = h.found in
    let under = orders_above V names all e c x.owner h.class h.there x.listed in
    let main = found_field E ds methods functions (accepted V ss no_refusals) (λ k. ancestors V ss k no_refusals) c x.owner h.class x.family name f
    (sym (ap (λ gs. slice_get gs c) same) ∙ h.there) (sym (ap (λ gs. slice_get gs x.owner) same) ∙ x.there) x.own
    (sym (ap (λ gs. is_under gs c x.owner) same) ∙ under) in
    let own = fields_by (typed_classes fs) (length (typed_classes fs)) (slice_get (typed_classes fs) c) in
    ap (λ ts. slice_get ts f.number) (fields_in V names ss m c (ms m) fs built.known same)
    ∙ slice_get-map (slot_type V m) own f.number
    ∙ ap (option_map (slot_type V m)) main
    ∙ ap (λ (M : TypedModule). Some (slot_type M.view m f.written.ty)) (sym built.known)

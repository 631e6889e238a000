-- Each class at or under a family has a body in the slot of each method that is found of the family.
use Rattle.std.specs.Prelude.{ℕ, ◌≡◌, ◌==◌, ◌⊎◌, Bool, true, false, List, [], ◌∷◌, find, length, Option, Some, None, slice_get}
use Rattle.std.specs.List.{list_any, flat_map}
use Rattle.std.proofs.Common.{arith, refl, ap, sym, subst, inl, inr, ◌∙◌}
use Rattle.std.proofs.lemmas.Bool.{eq-eqb}
use Rattle.std.proofs.lemmas.Option.{same_Some, slice_get_within}
use Rattle.ang_tree.specs.Stmt.{Every}
use Rattle.ang_names_graph.specs.Graphs.{leads, order_of, is_near}
use Rattle.ang_names_known.specs.declared.names.Family.{Family}
use Rattle.ang_names_known.specs.declared.names.ScriptFunction.{ScriptFunction}
use Rattle.ang_names_known.specs.declared.names.ScriptMethod.{ScriptMethod}
use Rattle.ang_names_known.specs.Lookup.{Numbered, FoundMethod, with_family, families_at, kin_of, methods_in, methods_of, stands_in, method_in_slot, same_type}
use Rattle.ang_names_known.specs.Spaces.{Space}
use Rattle.ang_names_listed.specs.declared.listed.ListedDeclaration.{ListedDeclaration}
use Rattle.ang_names_listed.specs.Declarations.{Declaring, declarations_of, families_of}
use Rattle.ang_names_classes.specs.Headings.{signatures_of}
use Rattle.ang_names_classes.specs.Hierarchy.{is_base, is_class_at, is_parent}
use Rattle.ang_names_classes.specs.Resolved.{families_in, family_with, functions_in, gives_members, space_of_declared}
use Rattle.ang_check.specs.Bodies.{typed_classes}
use Rattle.ang_source.specs.Meaning.{body_by}
use Rattle.ang_names.specs.Heirs.{has_public_method, is_met_by, is_public}
use Rattle.ang_names.proofs.Ranks.{ancestors}
use Rattle.ang_check_sound.proofs.Items.{second_true}
use Rattle.ang_check_laws.specs.Methods.{BodyIn, ClassesHaveMethods}
use Rattle.ang_check_laws.proofs.ClassesGraph.{or_left, or_right, above_in}
use Rattle.ang_check_laws.proofs.ClassesDeclared.{IsAccepted, accepted}
use Rattle.ang_check_laws.proofs.ClassesKin.{order_out}
use Rattle.ang_check_laws.proofs.ClassesTables.{family_there, family_gone}
use Rattle.ang_check_laws.proofs.MethodsFound.{in_kin}
use Rattle.ang_check_laws.proofs.MethodsKin.{class_near}
use Rattle.ang_check_laws.proofs.MethodsPhases.{overrides, interfaces_met}
use Rattle.ang_check_laws.proofs.MethodsSlots.{type_is}
use Rattle.ang_check_laws.proofs.MethodsWalk.{KeepsResults, families, walk, up_near, near_here, near_of, base_from, at_slot, first_at}
use Rattle.ang_check_laws.proofs.Placed.{is_class_in, kin_in}

abbrev pub MeetsInterfaces : List Family → Type 0
MeetsInterfaces fs = (c d j : ℕ) (f g : Family) (x : ScriptMethod) → slice_get fs c ≡ Some f → f.is_class ≡ true → slice_get fs d ≡ Some g → g.is_class ≡ false
    → slice_get g.methods j ≡ Some x → list_any (λ k. k == d) f.above ≡ true → has_public_method fs c x ≡ true

module _ (fs : List Family) (ns : List ℕ) where
  abbrev IsOf : Numbered → Type 0
  IsOf g = (slice_get fs g.0 ≡ Some g.1) × (list_any (λ k. k == g.0) ns ≡ true)

  one_of : (n : ℕ) (o : Option Family) (rest : List Numbered) → slice_get fs n ≡ o → list_any (λ k. k == n) ns ≡ true → Every IsOf rest → Every IsOf (with_family n o rest)
  one_of n None rest e u h = h
  one_of n (Some f) rest e u h = ((e, u), h)

  all_of : (ks : List ℕ) → ((k : ℕ) → list_any (λ j. j == k) ks ≡ true → list_any (λ j. j == k) ns ≡ true) → Every IsOf (families_at fs ks)
  all_of [] h = tt
  all_of (n ∷ ks) h =
      one_of n (slice_get fs n) (families_at fs ks) refl (h n (or_left (n == n) (list_any (λ j. j == n) ks) (eq-eqb n n refl)))
      (all_of ks (λ k e. h k (or_right (n == k) (list_any (λ j. j == k) ks) e)))

slot_found : (fs : List Family) (c s : ℕ) (f : Family) → slice_get fs c ≡ Some f → method_in_slot fs c s ≡ find (stands_in s) (flat_map methods_in (families_at fs f.order))
unfolding method_in_slot methods_of kin_of
slot_found fs c s f at = ap (λ o. find (stands_in s) (flat_map methods_in (kin_in fs o))) at

met_by : (x : ScriptMethod) (o : Option FoundMethod) → is_met_by x o ≡ true → (y : FoundMethod) × (o ≡ Some y) × (x.function.result.ty ≡ y.method.function.result.ty)
met_by x None e = cc
met_by x (Some y) e = (
  y,
  refl,
  sym (type_is y.method.function.result.ty x.function.result.ty
      (second_true (is_public y.method.access) (same_type y.method.function.result.ty x.function.result.ty) e)),
)

module _ (E : Space) (ds : List Declaring) (methods : List (ScriptFunction × Bool)) (functions : ℕ) (accepted : IsAccepted E ds)
    (free : (c : ℕ) → leads (is_parent ds) (length ds) c c ≡ false) where
  abbrev Fs : List Family
  Fs = families E ds methods functions accepted

  record IsDeclaredAt (c : ℕ) (f : Family) : Type 0 where
    number : ℕ
    declaration : Declaring
    there : slice_get ds c ≡ Some declaration
    is : family_with E ds methods c number declaration ≡ f

  declared_by : (c : ℕ) (f : Family) (o : Option Declaring) → slice_get ds c ≡ o → slice_get Fs c ≡ Some f → IsDeclaredAt c f
  declared_by c f None is e = absurd (let no' : None ≡ Some f = sym (family_gone E ds methods functions [] ds c is) ∙ e in cc)
  declared_by c f (Some d) is e =
      let found = family_there E ds methods functions [] ds c c d (omega arith) is in
      record { number = found.0; declaration = d; there = is; is = same_Some _ f (sym found.1 ∙ e) }

  module _ (keeps : KeepsResults Fs) (meets : MeetsInterfaces Fs) where
    -- of a method of a class
    of_near : (top j c : ℕ) (g : Family) (x : ScriptMethod) → slice_get Fs top ≡ Some g → slice_get g.methods j ≡ Some x → find (at_slot x.slot) g.methods ≡ Some x
        → is_class_at ds c ≡ true → is_near (is_base ds) (length ds) (length ds) c top ≡ true → BodyIn Fs ds x c
    of_near top j c g x at inner first class near =
        let d = declared_by top g (slice_get ds top) refl at in
        let h = walk E ds methods functions accepted keeps top j g x at inner first (slice_get_within ds top d.declaration d.there) (length ds) c (omega arith) class
        (up_near (is_base ds) (length ds) (length ds) c top near) in record {
          number = h.number;
          chosen = h.chosen;
          class = h.class;
          family = h.family;
          place = h.place;
          method = h.method;
          there = h.there;
          within = h.within;
          body = h.body;
          slot = h.slot;
          result = h.result;
          over = near_of (is_base ds) (length ds) (base_from ds) (length ds) c h.class h.over;
        }

    -- of one of an interface
    of_interface : (top j c : ℕ) (g f : Family) (x : ScriptMethod) → slice_get Fs top ≡ Some g → slice_get g.methods j ≡ Some x → g.is_class ≡ false
        → is_class_at ds c ≡ true → slice_get Fs c ≡ Some f → f.is_class ≡ true → f.order ≡ order_of (is_base ds) (length ds) c → list_any (λ k. k == top) f.above ≡ true
        → BodyIn Fs ds x c
    of_interface top j c g f x at inner isnt class own is order listed =
        let met = met_by x (method_in_slot Fs c x.slot) (meets c top j f g x own is at isnt inner listed) in
        let y = met.0 in
        let h = in_kin (IsOf Fs f.order) x.slot y (families_at Fs f.order) (all_of Fs f.order f.order (λ k e. e)) (sym (slot_found Fs c x.slot f own) ∙ met.1) in
        let first = first_at x.slot (h.family).methods y.method h.first in
        let near = order_out (is_base ds) (length ds) c y.owner (sym (ap (list_any (λ k. k == y.owner)) order) ∙ h.of.1) in
        let r = of_near y.owner first.place c h.family y.method h.of.0 first.there (subst (λ s. find (at_slot s) (h.family).methods ≡ Some y.method) (sym first.slot) h.first)
        class near in record {
          number = r.number;
          chosen = subst (λ s. body_by (typed_classes Fs) s (length ds) (slice_get (typed_classes Fs) c) ≡ Some r.number) first.slot r.chosen;
          class = r.class;
          family = r.family;
          place = r.place;
          method = r.method;
          there = r.there;
          within = r.within;
          body = r.body;
          slot = r.slot ∙ first.slot;
          result = met.2 ∙ r.result;
          over = r.over;
        }

    near_class : (c top : ℕ) → is_class_at ds top ≡ true → (c ≡ top) ⊎ (leads (is_parent ds) (length ds) c top ≡ true)
        → is_near (is_base ds) (length ds) (length ds) c top ≡ true
    near_class c top is (inl same) = near_here (is_base ds) (length ds) (length ds) c top same
    near_class c top is (inr over) = class_near E ds accepted free c top over is

    by_kind : (top j c : ℕ) (g f : Family) (x : ScriptMethod) (b : Bool) (d : IsDeclaredAt top g) (o : IsDeclaredAt c f) → d.declaration.shape.is_class ≡ b
        → slice_get Fs top ≡ Some g → slice_get g.methods j ≡ Some x → find (at_slot x.slot) g.methods ≡ Some x
        → is_class_at ds c ≡ true → slice_get Fs c ≡ Some f → (c ≡ top) ⊎ (leads (is_parent ds) (length ds) c top ≡ true) → BodyIn Fs ds x c
    by_kind top j c g f x true d o is at inner first class own over = of_near top j c g x at inner first class (near_class c top (ap is_class_in d.there ∙ is) over)
    by_kind top j c g f x false d o is at inner first class own (inl same) =
        absurd (let no' : true ≡ false = sym class ∙ ap (is_class_at ds) same ∙ ap is_class_in d.there ∙ is in cc)
    by_kind top j c g f x false d o is at inner first class own (inr over) =
        let kind : o.declaration.shape.is_class ≡ true = sym (ap is_class_in o.there) ∙ class in
        of_interface top j c g f x at inner (sym (ap (λ (u : Family). u.is_class) d.is) ∙ is) class own (sym (ap (λ (u : Family). u.is_class) o.is) ∙ kind)
        (sym (ap (λ (u : Family). u.order) o.is) ∙ ap (λ b. order_of (gives_members ds b) (length ds) c) kind)
        (sym (ap (λ (u : Family). list_any (λ k. k == top) u.above) o.is)
        ∙ above_in (is_parent ds) (length ds) c top (λ k. k == top) (eq-eqb top top refl) (slice_get_within ds top d.declaration d.there) over)

    named : (c : ℕ) (o : Option Declaring) → slice_get ds c ≡ o → is_class_in o ≡ true → (f : Family) × (slice_get Fs c ≡ Some f)
    named c None e is = cc
    named c (Some d) e is =
        let found = family_there E ds methods functions [] ds c c d (omega arith) e in (family_with E ds methods c found.0 d, found.1)

    pub has_body : (top j c : ℕ) (g : Family) (x : ScriptMethod) → slice_get Fs top ≡ Some g → slice_get g.methods j ≡ Some x → find (at_slot x.slot) g.methods ≡ Some x
        → is_class_at ds c ≡ true → (c ≡ top) ⊎ (leads (is_parent ds) (length ds) c top ≡ true) → BodyIn Fs ds x c
    has_body top j c g x at inner first class over =
        let f = named c (slice_get ds c) refl class in
        let d = declared_by top g (slice_get ds top) refl at in
        by_kind top j c g f.0 x d.declaration.shape.is_class d (declared_by c f.0 (slice_get ds c) refl f.1) refl at inner first class f.1 over

has_body_in : (E : Space) (all : List ListedDeclaration) → IsAccepted E (families_of all) → ((c : ℕ) → leads (is_parent (families_of all)) (length (families_of all)) c c ≡ false)
    → KeepsResults (families_in E all) → MeetsInterfaces (families_in E all) → (top j c : ℕ) (g : Family) (x : ScriptMethod)
    → slice_get (families_in E all) top ≡ Some g → slice_get g.methods j ≡ Some x → find (at_slot x.slot) g.methods ≡ Some x
    → is_class_at (families_of all) c ≡ true → (c ≡ top) ⊎ (leads (is_parent (families_of all)) (length (families_of all)) c top ≡ true)
    → BodyIn (families_in E all) (families_of all) x c
unfolding families_in
has_body_in E all accepted free keeps meets = has_body E (families_of all) (signatures_of E (families_of all)) (length (functions_in E all)) accepted free keeps meets

pub have_methods : ClassesHaveMethods
have_methods V ss e =
    has_body_in (space_of_declared V (declarations_of ss)) (declarations_of ss) (accepted V ss e) (λ c. ancestors V ss c e) (overrides V ss e) (interfaces_met V ss e)

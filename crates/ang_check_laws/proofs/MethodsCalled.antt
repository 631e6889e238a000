-- A method that is found of a family is in each class at or under it: a call by the object's class finds a body that takes what it gives.
use Rattle.std.specs.Prelude.{◌≡◌, ℕ, Bool, true, List, [], ◌∷◌, ◌++◌, find, map, reverse, option_map, Option, Some, None, slice_get}
use Rattle.std.proofs.Common.{refl, ap, sym, subst, ◌∙◌}
use Rattle.std.proofs.lemmas.List.{reverse-append}
use Rattle.std.proofs.lemmas.Option.{slice_get-map}
use Rattle.ang_view.specs.Registration.{RegistrationList}
use Rattle.ang_tree.specs.Stmt.{Every}
use Rattle.ang_typed.specs.declared.program.Heading.{Heading}
use Rattle.ang_typed.specs.declared.program.TypedParameter.{TypedParameter}
use Rattle.ang_typed.specs.Typed as t
use Rattle.ang_names_known.specs.declared.names.Family.{Family}
use Rattle.ang_names_known.specs.declared.names.Names.{Names}
use Rattle.ang_names_known.specs.declared.names.ScriptFunction.{ScriptFunction}
use Rattle.ang_names_known.specs.declared.names.ScriptMethod.{ScriptMethod}
use Rattle.ang_names_known.specs.Lookup.{FoundMethod, methods_named}
use Rattle.ang_names_known.specs.Spaces.{Space}
use Rattle.ang_names_listed.specs.declared.listed.ListedDeclaration.{ListedDeclaration}
use Rattle.ang_names_listed.specs.Declarations.{declarations_of, families_of}
use Rattle.ang_names_listed.specs.Sources.{Source}
use Rattle.ang_names_classes.specs.Resolved.{families_in, names_of, space_of_declared}
use Rattle.ang_names.specs.Phases.{refusals_of}
use Rattle.ang_check.specs.Bodies.{body_refusals, method_headings, program_of, typed_classes, within_of}
use Rattle.ang_check.specs.Typing.{this_parameter, typed_parameters}
use Rattle.ang_meaning.specs.declared.routine.Passing.TheVariants.{Object}
use Rattle.ang_meaning.specs.Environment.{Environment}
use Rattle.ang_source.specs.Meaning.{body_by, method_among, passing_of, passings_of, routine}
use Rattle.ang_source_typed.specs.Types.{SlotType, Family as FamilyType, TypedModule, Modules, IsUnder}
use Rattle.ang_source_typed.specs.TypedProgram.{Parameter, Signature, passings_among, parameter_of, signature_of, HasSignature, IsMethod}
use Rattle.ang_check_sound.specs.Checked.{with_this}
use Rattle.ang_check_sound.proofs.Items.{every_other}
use Rattle.ang_check_sound.proofs.Slots.{has_slot}
use Rattle.ang_check_laws.specs.Contexts.{place_type, method_signature}
use Rattle.ang_check_laws.specs.Given.{IsBuilt, is_class_at}
use Rattle.ang_check_laws.specs.Methods.{BodyIn, MethodsStand}
use Rattle.ang_check_laws.proofs.Built.{tree_is, place_of}
use Rattle.ang_check_laws.proofs.ClassesKin.{bases_near, orders_above}
use Rattle.ang_check_laws.proofs.ClassesTyped.{classes_in, families_named, given_by, kind_declared, led_to, table_declared, typed}
use Rattle.ang_check_laws.proofs.Found.{OrdersAreUnder, IsKin, method_signed, under_of}
use Rattle.ang_check_laws.proofs.MethodsFound.{IsFirstOf}
use Rattle.ang_check_laws.proofs.MethodsNearest.{NamesAlike, named_first}
use Rattle.ang_check_laws.proofs.MethodsSlots.{in_one_slot}
use Rattle.ang_check_laws.proofs.MethodsThere.{have_methods}
use Rattle.ang_check_laws.proofs.MethodsWalk.{IsFirstAt, at_slot, first_at}
use Rattle.ang_check_laws.proofs.Placed.{is_class_in}

-- ---- how arguments pass

abbrev object_of : SlotType → Parameter
object_of ty = record { passing = Object; type = ty }

both_among : (xs ys : List Parameter) → passings_among (xs ++ ys) ≡ passings_among xs ++ passings_among ys
both_among [] ys = refl
both_among (x ∷ xs) ys = ap (λ ways. x.passing ∷ ways) (both_among xs ys)

module _ (z : Environment) (ms : Modules) (m : ℕ) where
  turned_among : (ps : List TypedParameter) → passings_among (reverse (map (parameter_of z ms m) ps)) ≡ passings_of ps
  turned_among [] = refl
  turned_among (p ∷ ps) =
      let q = parameter_of z ms m p in
      ap passings_among (reverse-append (q ∷ []) (map (parameter_of z ms m) ps))
      ∙ both_among (reverse (map (parameter_of z ms m) ps)) (q ∷ [])
      ∙ ap (λ ways. ways ++ passing_of p ∷ []) (turned_among ps)
      ∙ sym (reverse-append (passing_of p ∷ []) (map (λ (r : TypedParameter). passing_of r) ps))

  called_among : (c : ℕ) (f : ScriptFunction)
      → passings_among (method_signature z ms m c f).params ≡ reverse (Object ∷ map (λ (p : TypedParameter). passing_of p) (typed_parameters f))
  called_among c f =
      both_among (reverse (map (parameter_of z ms m) (typed_parameters f))) (object_of (FamilyType m c) ∷ [])
      ∙ ap (λ ways. ways ++ Object ∷ []) (turned_among (typed_parameters f))
      ∙ sym (reverse-append (Object ∷ []) (map (λ (p : TypedParameter). passing_of p) (typed_parameters f)))

-- ---- of a build

abbrev signed : List Parameter → SlotType → Signature
signed ps ty = record { params = ps; result = ty }

headings_are : (V : RegistrationList) (names : Names) (ss : List Source) → (program_of V names ss).methods ≡ method_headings names.families
unfolding program_of
headings_are V names ss = refl

class_named : (o : Option Family) → is_class_at o ≡ true → (f : Family) × (o ≡ Some f)
class_named None is = cc
class_named (Some f) is = (f, refl)

module _ (V : RegistrationList) (names : Names) (ss : List Source) (z : Environment) (ms : Modules) (m : ℕ) (free : refusals_of V ss ≡ [])
    (e : names ≡ names_of V (declarations_of ss)) (none : body_refusals V names ss ≡ []) (built : IsBuilt z ms m V names ss) where
  abbrev all : List ListedDeclaration
  all = declarations_of ss

  abbrev E : Space
  E = space_of_declared V all

  abbrev fs : List Family
  fs = families_in E all

  same : names.families ≡ fs
  same = ap (λ (ns : Names). ns.families) e ∙ families_named V all

  orders : OrdersAreUnder names.families
  orders = orders_above V names all e

  alike : NamesAlike names.families
  alike = subst NamesAlike (sym same) (in_one_slot E all)

  -- A body's own signature is that of a call on an object of its class.
  signed_alike : (d : ℕ) (read_only : Bool) (f g : ScriptFunction) → typed_parameters g ≡ typed_parameters f → f.result.ty ≡ g.result.ty
      → signature_of z ms m (with_this (within_of V names d read_only) g) g.result.ty ≡ method_signature z ms m d f
  signed_alike d read_only f g params result =
      let this = parameter_of z ms m (this_parameter (within_of V names d read_only)) in
      ap (λ ps. signed ps (place_type z ms m g.result.ty))
      (reverse-append (this ∷ []) (map (parameter_of z ms m) (typed_parameters g))
      ∙ ap (λ ps. reverse (map (parameter_of z ms m) ps) ++ this ∷ []) params
      ∙ ap (λ ty. reverse (map (parameter_of z ms m) (typed_parameters f)) ++ object_of ty ∷ []) (place_of z ms m V names ss built d))
      ∙ ap (λ ty. signed (reverse (map (parameter_of z ms m) (typed_parameters f)) ++ object_of (FamilyType m d) ∷ []) (place_type z ms m ty)) (sym result)

  -- class c has a body in the slot of the method, which takes what a call on its object gives
  abbrev CanBeCalled : ℕ → ScriptMethod → Type 0
  CanBeCalled c x = (k d : ℕ) × (z.method m c x.slot ≡ Some (routine m k)) × IsUnder z ms m c d × HasSignature z ms m k (method_signature z ms m d x.function)

  of_body : (c top place : ℕ) (f own : Family) (x : ScriptMethod) → slice_get fs top ≡ Some f → slice_get f.methods place ≡ Some x
      → slice_get names.families c ≡ Some own → BodyIn fs (families_of all) x c → CanBeCalled c x
  of_body c top place f own x at inner is r =
      let there : slice_get names.families r.class ≡ Some r.family = ap (λ gs. slice_get gs r.class) same ∙ r.there in
      let call = in_one_slot E all r.class top r.place place r.family f r.method x r.there r.within at inner r.slot in (
        r.number,
        r.class,
        built.methods c x.slot ∙ ap (λ cs. method_among m cs c x.slot) (classes_in V names ss ∙ ap typed_classes same)
            ∙ ap (λ n. option_map (routine m) (body_by (typed_classes fs) x.slot n (slice_get (typed_classes fs) c))) (table_declared E all).many
            ∙ ap (option_map (routine m)) r.chosen,
        under_of z ms m V names ss built c r.class r.family there (bases_near V names all e c r.class own is r.over),
        subst (HasSignature z ms m r.number) (signed_alike r.class r.method.read_only x.function r.method.function call.parameters r.result)
            (method_signed z ms m V names ss built e none r.class r.place r.number r.family r.method there r.within r.body),
      )

  called_on : (c top place : ℕ) (f : Family) (x : ScriptMethod) → slice_get names.families top ≡ Some f → slice_get f.methods place ≡ Some x
      → find (at_slot x.slot) f.methods ≡ Some x → (ms m).is_class c ≡ true → IsUnder z ms m c top → CanBeCalled c x
  called_on c top place f x at inner first is under =
      let there : slice_get fs top ≡ Some f = sym (ap (λ gs. slice_get gs top) same) ∙ at in
      let class : is_class_at (slice_get names.families c) ≡ true = sym (ap (λ (M : TypedModule). M.is_class c) built.known) ∙ is in
      let declared : is_class_in (slice_get (families_of all) c) ≡ true =
      sym (kind_declared E all c (slice_get (families_of all) c) refl) ∙ sym (ap (λ gs. is_class_at (slice_get gs c)) same) ∙ class in
      let own = class_named (slice_get names.families c) class in
      of_body c top place f own.0 x there inner own.1
      (have_methods V ss free top place c f x there inner first declared (led_to V names ss z ms m free e built c top under))

  -- by the heading of its slot
  headed : (c : ℕ) (x : FoundMethod) (h : IsFirstOf (IsKin names.families orders c) x.method.slot x) → IsFirstAt x.method.slot (h.family).methods x.method
      → (k : Heading) → slice_get (method_headings names.families) x.method.slot ≡ Some k
      → passings_of k.parameters ≡ reverse (Object ∷ map (λ (p : TypedParameter). passing_of p) (typed_parameters x.method.function))
      → IsMethod z ms m x.method.slot (method_signature z ms m c x.method.function)
  headed c x h first k there takes = record {
    heading = k;
    there = ap (λ (p : t.Program). slice_get p.methods x.method.slot) (tree_is z ms m V names ss built)
        ∙ ap (λ ks. slice_get ks x.method.slot) (headings_are V names ss) ∙ there;
    takes = takes ∙ sym (called_among z ms m c x.method.function);
    others = reverse (map (parameter_of z ms m) (typed_parameters x.method.function));
    passing = Object;
    family = c;
    taken = λ p. cc;
    params = refl;
    body = λ d is under.
        called_on d x.owner first.place h.family x.method h.of.0 first.there h.first is
        ((typed V names ss z ms m free e built).above d c x.owner under (under_of z ms m V names ss built c x.owner h.family h.of.0 h.of.1));
  }

  is_method : (c : ℕ) (x : FoundMethod) → IsFirstOf (IsKin names.families orders c) x.method.slot x
      → IsMethod z ms m x.method.slot (method_signature z ms m c x.method.function)
  is_method c x h =
      let first = first_at x.method.slot (h.family).methods x.method h.first in
      let slot = has_slot V names ss e x.owner h.family h.of.0 first.place x.method first.there in
      let k = given_by (λ (g : Heading). g.parameters) (slice_get (method_headings names.families) x.method.slot) slot.heading
      (sym (slice_get-map (λ (g : Heading). g.parameters) (method_headings names.families) x.method.slot) ∙ slot.slot_is) in
      headed c x h first k.0 k.1 (ap passings_of k.2 ∙ ap reverse slot.takes)

  methods_are : (c : ℕ) (name : List ℕ)
      → Every (λ (x : FoundMethod). IsMethod z ms m x.method.slot (method_signature z ms m c x.method.function)) (methods_named names.families c name)
  methods_are c name =
      every_other (λ (x : FoundMethod). IsFirstOf (IsKin names.families orders c) x.method.slot x)
      (λ (x : FoundMethod). IsMethod z ms m x.method.slot (method_signature z ms m c x.method.function)) (methods_named names.families c name) (is_method c)
      (named_first names.families orders alike c name)

pub methods_stand : MethodsStand
methods_stand = methods_are

-- An import that leads to a function that is declared just so leads to a call of its own types: what both modules keep of the host stands in one list.
use Rattle.std.specs.Prelude.{◌≡◌, ◌⊎◌, ◌==◌, ◌+◌, ◌-◌, ◌<◌, ◌≤◌, ℕ, Bool, true, false, if◌then◌else◌, List, [], ◌∷◌, ◌++◌, length, map, option_and_then, reverse, Option, Some, None, IsSome, IfOk, slice_get}
use Rattle.std.specs.List.{AllByRecursion, flat_map, list_any}
use Rattle.std.proofs.Common.{arith, refl, sym, ap, ◌∙◌, subst, inl, inr}
use Rattle.std.proofs.lemmas.Bool.{eqb-true, lt-ltb}
use Rattle.std.proofs.lemmas.Option.{same_Some}
use Rattle.ang_view.specs.declared.entry.Entry.{Entry}
use Rattle.ang_view.specs.Only.{IsWithin}
use Rattle.ang_view.specs.Registration.{RegistrationList, entry_at}
use Rattle.ang_tree.specs.Stmt.{Every}
use Rattle.ang_types.specs.declared.arg_type.ArgType.{ArgType}
use Rattle.ang_types.specs.declared.arg_type.ArgType.TheVariants as type
use Rattle.ang_typed.specs.declared.program.Heading.{Heading}
use Rattle.ang_typed.specs.declared.program.TypedParameter.{TypedParameter}
use Rattle.ang_typed.specs.Typed as t
use Rattle.ang_typed.specs.Uses.{function_uses, heading_uses, parameter_uses, stmts_uses, type_uses}
use Rattle.ang_names_known.specs.declared.names.Family.{Family}
use Rattle.ang_names_known.specs.declared.names.Names.{Names}
use Rattle.ang_names_known.specs.declared.names.ScriptConstructor.{ScriptConstructor}
use Rattle.ang_names_known.specs.declared.names.ScriptFunction.{ScriptFunction}
use Rattle.ang_names_known.specs.declared.names.ScriptParameter.{ScriptParameter}
use Rattle.ang_names_known.specs.Spaces.{family_of_type}
use Rattle.ang_names_listed.specs.Declarations.{declarations_of}
use Rattle.ang_names_listed.specs.Sources.{Source}
use Rattle.ang_names_classes.specs.Resolved.{names_of}
use Rattle.ang_check_context.specs.declared.scope.Within.{Within}
use Rattle.ang_check.specs.Typing.{this_parameter, typed_parameter, typed_parameters}
use Rattle.ang_check.specs.Bodies.{base_name, base_of, body_refusals, context_in, import_heading, program_of, within_of}
use Rattle.ang_meaning.specs.Environment.{Environment}
use Rattle.ang_source.specs.Meaning.{passing_of}
use Rattle.ang_source_typed.specs.Types.{SlotType, Key, Family as FamilyType, Modules, TypedModule, driver_of, first_family, object_type, slot_type}
use Rattle.ang_source_typed.specs.TypedProgram.{Parameter, Signature, HasSignature, IsImport, IsSignature, parameter_of, signature_of}
use Rattle.ang_engine_build.specs.Build.{Resolved, resolution_of}
use Rattle.ang_engine_build.specs.Narrowed.{narrowed}
use Rattle.ang_check_sound.specs.Checked.{with_this}
use Rattle.ang_check_sound.proofs.Bodies.{constructor_declared}
use Rattle.ang_check_sound.proofs.Items.{every_at, every_mapped}
use Rattle.ang_check_sound.proofs.Program.{has_names}
use Rattle.ang_check_laws.specs.Given.{constructs}
use Rattle.ang_check_laws.specs.Imports.{IsOfTheHost}
use Rattle.ang_check_laws.specs.HostTypes.{IsSeenType}
use Rattle.ang_check_laws.specs.Narrowed.{HasUses, IsKept}
use Rattle.ang_check_laws.proofs.Imports.{each_import}
use Rattle.ang_check_laws.proofs.NarrowedUses.{back_of, each_uses, front_of, narrowed_has}
use Rattle.ang_check_laws.proofs.Program.{one_of}
use Rattle.ang_check_laws.proofs.SettingsTypes.{BeginsWithThis, HasThere, IsThere, functions_there}

-- ---- one type

-- in a view that keeps an entry
held_by : (W : RegistrationList) (m n : ℕ) (x : Entry) → n < first_family → entry_at W n ≡ Some x → object_type W m n ≡ Key x.driver
held_by W m n x less e =
    subst (λ b. (if b then Key (driver_of (entry_at W n)) else FamilyType m (n - first_family)) ≡ Key x.driver) (sym (lt-ltb n first_family less))
    (ap (λ o. Key (driver_of o)) e)

no_family : (n : ℕ) → n < first_family → family_of_type n ≡ None
no_family n less = ap (λ b. if b then None else Some (n - first_family)) (lt-ltb n first_family less)

entry_of : (o : Option Entry) → IsSome o → (x : Entry) × (o ≡ Some x)
entry_of None h = cc
entry_of (Some x) h = (x, refl)

-- ---- no body of a family's member

-- a type that passes by an import is no family's
no_own : (V : RegistrationList) (w : Within) → IsSeenType V (this_parameter w).ty → ⊥
no_own V w seen = let less : 1024 + w.family < 1024 = seen.0 in omega (arith, less)

no_this : (V : RegistrationList) (qs rest : List TypedParameter) (w : Within) → Every (λ (q : TypedParameter). IsSeenType V q.ty) qs → qs ≡ this_parameter w ∷ rest → ⊥
no_this V qs rest w seen e = no_own V w (subst (Every (λ (q : TypedParameter). IsSeenType V q.ty)) e seen).0

either : (b : Bool) → (b ≡ true → ⊥) → b ≡ false
either true h = absurd (h refl)
either false h = refl

module _ (V : RegistrationList) (ss : List Source) (none : body_refusals V (names_of V (declarations_of ss)) ss ≡ []) where
  abbrev N : Names
  N = names_of V (declarations_of ss)

  -- a constructor's body has `this` in front
  constructor_begins : (k : ℕ) (f : t.TypedFunction) → slice_get (program_of V N ss).functions k ≡ Some f → list_any (constructs k) N.families ≡ true → BeginsWithThis f
  constructor_begins k f at e =
      let family = one_of (constructs k) N.families e in
      let made = one_of (λ (u : ScriptConstructor). u.body == k) (family.1).constructors family.3 in
      let c = family.0 in
      let x = made.1 in
      let number : x.body ≡ k = eqb-true x.body k made.3 in
      let body = (has_names V N ss refl none).bodies.constructors c made.0 x (ap (option_and_then (λ (g : Family). slice_get g.constructors made.0)) family.2 ∙ made.2) in
      let w = within_of V N c false in
      let g = body.typed.0 in
      let parameters : g.parameters ≡ with_this w x.function =
      subst (λ v. IfOk v (λ (u : t.TypedFunction). u.parameters ≡ with_this w x.function)) body.typed.1
      (constructor_declared (context_in V N body.text (Some w)) w x.function body.name (base_name V N c body.text body.own body.bases) (base_of V N c) body.super body.tree body.close) in
      let same : g ≡ f = same_Some g f (sym body.typed.2 ∙ ap (slice_get (program_of V N ss).functions) number ∙ at) in
      record { class = w; rest = typed_parameters x.function; parameters = ap (λ (u : t.TypedFunction). u.parameters) (sym same) ∙ parameters }

-- ---- an import's types

-- of what an import is declared with
pub record IsSeenHeading (V : RegistrationList) (h : Heading) : Type 0 where
  pub parameters : Every (λ (q : TypedParameter). IsSeenType V q.ty) h.parameters
  pub result : IsSeenType V h.result

heading_seen : (V : RegistrationList) (f : ScriptFunction) → IsOfTheHost V f → IsSeenHeading V (import_heading f)
heading_seen V f h = record {
  parameters = every_mapped (λ (p : ScriptParameter). IsSeenType V p.written.ty) (λ (q : TypedParameter). IsSeenType V q.ty) typed_parameter f.params (λ p k. k) h.params;
  result = h.result;
}

headings_seen : (V : RegistrationList) (ss : List Source) → Every (IsSeenHeading V) (program_of V (names_of V (declarations_of ss)) ss).imports
unfolding program_of
headings_seen V ss =
    every_mapped (IsOfTheHost V) (IsSeenHeading V) import_heading (names_of V (declarations_of ss)).imports (heading_seen V) (each_import V (declarations_of ss))

-- ---- the call

-- Import i of module m leads to body k of module j; each sees what its program uses of what it was built over, in one list.
module _ (R V W : RegistrationList) (z : Environment) (ms : Modules) (m j : ℕ) (has : HasUses V (ms m).view (ms m).program) (other_has : HasUses W (ms j).view (ms j).program)
    (stands : IsWithin (ms m).view R) (other_stands : IsWithin (ms j).view R) where
  abbrev Stays : ℕ → Type 0
  Stays n = entry_at (ms m).view n ≡ entry_at V n

  abbrev OtherStays : ℕ → Type 0
  OtherStays n = entry_at (ms j).view n ≡ entry_at W n

  object_alike : (n : ℕ) → Stays n → OtherStays n → (n < first_family) × ((x : Entry) × (entry_at V n ≡ Some x)) → (family_of_type n ≡ None → IsSome (entry_at W n))
      → object_type (ms m).view m n ≡ object_type (ms j).view j n
  object_alike n a b seen there =
      let x = seen.1.0 in
      let other = entry_of (entry_at W n) (there (no_family n seen.0)) in
      let y = other.0 in
      let at : entry_at (ms m).view n ≡ Some x = a ∙ seen.1.1 in
      let on : entry_at (ms j).view n ≡ Some y = b ∙ other.1 in
      let same : x ≡ y = same_Some x y (sym (stands n x at) ∙ other_stands n y on) in
      held_by (ms m).view m n x seen.0 at ∙ ap (λ (u : Entry). Key u.driver) same ∙ sym (held_by (ms j).view j n y seen.0 on)

  type_alike : (ty : ArgType) → AllByRecursion Stays (type_uses ty) → AllByRecursion OtherStays (type_uses ty) → IsSeenType V ty → IsThere W ty
      → slot_type (ms m).view m ty ≡ slot_type (ms j).view j ty
  type_alike type.Void a b seen there = refl
  type_alike type.Null a b seen there = refl
  type_alike (type.Plain p) a b seen there = refl
  type_alike (type.Enumeration n) a b seen there = refl
  type_alike (type.Object n c) a b seen there = object_alike n a.0 b.0 seen there
  type_alike (type.Handle n c) a b seen there = object_alike n a.0 b.0 seen there

  abbrev taking : TypedParameter → SlotType → Parameter
  taking q u = record { passing = passing_of q; type = u }

  abbrev giving : List Parameter → SlotType → Signature
  giving ps u = record { params = reverse ps; result = u }

  parameters_alike : (qs : List TypedParameter) → AllByRecursion Stays (flat_map parameter_uses qs) → AllByRecursion OtherStays (flat_map parameter_uses qs)
      → Every (λ (q : TypedParameter). IsSeenType V q.ty) qs → Every (λ (q : TypedParameter). IsThere W q.ty) qs → map (parameter_of z ms m) qs ≡ map (parameter_of z ms j) qs
  parameters_alike [] a b seen there = refl
  parameters_alike (q ∷ qs) a b seen there =
      let here : slot_type (ms m).view m q.ty ≡ slot_type (ms j).view j q.ty =
      type_alike q.ty (front_of Stays (type_uses q.ty) (flat_map parameter_uses qs) a) (front_of OtherStays (type_uses q.ty) (flat_map parameter_uses qs) b) seen.0 there.0 in
      let rest = parameters_alike qs (back_of Stays (type_uses q.ty) (flat_map parameter_uses qs) a) (back_of OtherStays (type_uses q.ty) (flat_map parameter_uses qs) b) seen.1 there.1 in
      λ i. taking q (here i) ∷ rest i

  call_alike : (i k : ℕ) (h : Heading) (f : t.TypedFunction) → slice_get (ms m).program.imports i ≡ Some h → slice_get (ms j).program.functions k ≡ Some f
      → f.parameters ≡ h.parameters → f.result ≡ h.result → IsSeenHeading V h → HasThere W f
      → signature_of z ms m h.parameters h.result ≡ signature_of z ms j f.parameters f.result
  call_alike i k h f at on params result seen there =
      let ps = flat_map parameter_uses h.parameters in
      let a = every_at (λ (g : Heading). AllByRecursion Stays (heading_uses g)) (ms m).program.imports i h (each_uses Stays (ms m).program has).imports at in
      let b = every_at (λ (g : t.TypedFunction). AllByRecursion OtherStays (function_uses g)) (ms j).program.functions k f (each_uses OtherStays (ms j).program other_has).functions on in
      let qs = flat_map parameter_uses f.parameters in
      let ends = back_of OtherStays qs (type_uses f.result ++ stmts_uses f.body) b in
      let used : AllByRecursion OtherStays (flat_map parameter_uses h.parameters) =
      subst (λ (l : List TypedParameter). AllByRecursion OtherStays (flat_map parameter_uses l)) params (front_of OtherStays qs (type_uses f.result ++ stmts_uses f.body) b) in
      let given : AllByRecursion OtherStays (type_uses h.result) =
      subst (λ (ty : ArgType). AllByRecursion OtherStays (type_uses ty)) result (front_of OtherStays (type_uses f.result) (stmts_uses f.body) ends) in
      let types = parameters_alike h.parameters (front_of Stays ps (type_uses h.result) a) used seen.parameters
      (subst (Every (λ (q : TypedParameter). IsThere W q.ty)) params there.parameters) in
      let value : slot_type (ms m).view m h.result ≡ slot_type (ms j).view j h.result =
      type_alike h.result (back_of Stays ps (type_uses h.result) a) given seen.result (subst (IsThere W) result there.result) in
      let alike : signature_of z ms m h.parameters h.result ≡ signature_of z ms j h.parameters h.result = λ l. giving (types l) (value l) in
      alike ∙ ap (λ (l : List TypedParameter). signature_of z ms j l h.result) (sym params) ∙ ap (λ (ty : ArgType). signature_of z ms j f.parameters ty) (sym result)

  pub link_typed : (i k : ℕ) (u : Signature) (h : Heading) (f : t.TypedFunction) → slice_get (ms m).program.imports i ≡ Some h → slice_get (ms j).program.functions k ≡ Some f
      → f.parameters ≡ h.parameters → f.result ≡ h.result → IsSeenHeading V h → HasThere W f → (ms j).is_constructor k ≡ false → IsImport z ms m i u → HasSignature z ms j k u
  link_typed i k u h f at on params result seen there plain is =
      let same : h ≡ is.heading = same_Some h is.heading (sym at ∙ is.there) in
      let called : u ≡ signature_of z ms j f.parameters f.result =
      is.signature ∙ ap (λ (g : Heading). signature_of z ms m g.parameters g.result) (sym same) ∙ call_alike i k h f at on params result seen there in
      record { function = f; there = on; signature = subst (λ b. IsSignature z ms j b f u) (sym plain) called }

-- ---- of builds

-- what its module sees has what it uses, and stands in the list
pub kept_has : (z : Environment) (ms : Modules) (m : ℕ) (V : RegistrationList) (r : Resolved) → IsKept z ms m V r → HasUses V (ms m).view (ms m).program
kept_has z ms m V r kept = subst (λ (x : TypedModule). HasUses V x.view x.program) (sym kept.known) (narrowed_has V r.tree)

pub kept_stands : (R : RegistrationList) (z : Environment) (ms : Modules) (m : ℕ) (V : RegistrationList) (r : Resolved) → IsKept z ms m V r → IsWithin (narrowed V r.tree) R
    → IsWithin (ms m).view R
kept_stands R z ms m V r kept stands = subst (λ (x : TypedModule). IsWithin x.view R) (sym kept.known) stands

module _ (z : Environment) (ms : Modules) (m : ℕ) (V : RegistrationList) (ss : List Source) (kept : IsKept z ms m V (resolution_of V ss)) where
  abbrev names : Names
  names = names_of V (declarations_of ss)

  tree_is : (ms m).program ≡ program_of V (names_of V (declarations_of ss)) ss
  tree_is = ap (λ (x : TypedModule). x.program) kept.known

  pub import_seen : (i : ℕ) (h : Heading) → slice_get (ms m).program.imports i ≡ Some h → IsSeenHeading V h
  import_seen i h at = every_at (IsSeenHeading V) (program_of V names ss).imports i h (headings_seen V ss) (ap (λ (p : t.Program). slice_get p.imports i) (sym tree_is) ∙ at)

  module _ (few : length V ≤ first_family) (none : body_refusals V (names_of V (declarations_of ss)) ss ≡ []) where
    there_of : (k : ℕ) (f : t.TypedFunction) → slice_get (ms m).program.functions k ≡ Some f → HasThere V f ⊎ BeginsWithThis f
    there_of k f at =
        every_at (λ (g : t.TypedFunction). HasThere V g ⊎ BeginsWithThis g) (program_of V names ss).functions k f (functions_there V ss few)
        (ap (λ (p : t.Program). slice_get p.functions k) (sym tree_is) ∙ at)

    -- what takes what may pass by an import has types that are there, and is no constructor's body
    module _ (U : RegistrationList) (k : ℕ) (f : t.TypedFunction) (at : slice_get (ms m).program.functions k ≡ Some f)
        (seen : Every (λ (q : TypedParameter). IsSeenType U q.ty) f.parameters) where
      no_member : BeginsWithThis f → ⊥
      no_member b = no_this U f.parameters b.rest b.class seen b.parameters

      of_function : HasThere V f ⊎ BeginsWithThis f → HasThere V f
      of_function (inl h) = h
      of_function (inr b) = absurd (no_member b)

      pub has_there : HasThere V f
      has_there = of_function (there_of k f at)

      pub is_plain : (ms m).is_constructor k ≡ false
      is_plain =
          ap (λ (x : TypedModule). x.is_constructor k) kept.known
          ∙ either (list_any (constructs k) names.families)
          (λ e. no_member (constructor_begins V ss none k f (ap (λ (p : t.Program). slice_get p.functions k) (sym tree_is) ∙ at) e))

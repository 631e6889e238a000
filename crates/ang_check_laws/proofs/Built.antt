-- What a built module's tree has of its names: what bodies are typed in.
use Rattle.std.specs.Prelude.{◌≡◌, ℕ, zero, suc, ◌+◌, ◌-◌, ◌≤◌, ◌<◌, ◌==◌, nat_eq, Bool, true, false, ◌||◌, if◌then◌else◌, length, List, [], ◌∷◌, ◌++◌, map, take, replicate, option_map, option_and_then, Option, Some, None, IfSome, IfOk, slice_get, slice_index_or}
use Rattle.std.specs.List.{list_any}
use Rattle.std.proofs.Common.{refl, ap, sym, ◌∙◌, subst, arith}
use Rattle.std.proofs.lemmas.Bool.{eqb-true, eq-eqb}
use Rattle.std.proofs.lemmas.Option.{same_Some, slice_get_within, slice_get-map}
use Rattle.ang_view.specs.Registration.{RegistrationList, entry_at}
use Rattle.ang_view.specs.Values.{TakesValues}
use Rattle.ang_tree.specs.Stmt.{Every}
use Rattle.ang_types.specs.declared.arg_type.ArgType.{ArgType}
use Rattle.ang_types.specs.declared.arg_type.ArgType.TheVariants as type
use Rattle.ang_typed.specs.declared.program.TypedClass.{TypedClass}
use Rattle.ang_typed.specs.Typed as t
use Rattle.ang_names_known.specs.declared.names.Default.{Default}
use Rattle.ang_names_known.specs.declared.names.Default.TheVariants as default
use Rattle.ang_names_known.specs.declared.names.Family.{Family}
use Rattle.ang_names_known.specs.declared.names.FoundField.{FoundField}
use Rattle.ang_names_known.specs.declared.names.Names.{Names}
use Rattle.ang_names_known.specs.declared.names.ScriptConstructor.{ScriptConstructor}
use Rattle.ang_names_known.specs.declared.names.ScriptFunction.{ScriptFunction}
use Rattle.ang_names_known.specs.declared.names.ScriptGlobal.{ScriptGlobal}
use Rattle.ang_names_known.specs.declared.names.ScriptParameter.{ScriptParameter}
use Rattle.ang_names_known.specs.Items.{is_empty}
use Rattle.ang_names_known.specs.Lookup.{type_and_pass, parameters_of, field_named, methods_named, is_under, default_of}
use Rattle.ang_names_known.specs.Spaces.{family_type, ancestors_of}
use Rattle.ang_names_listed.specs.Sources.{Source}
use Rattle.ang_names_listed.specs.Declarations.{declarations_of}
use Rattle.ang_names_classes.specs.Resolved.{names_of}
use Rattle.ang_check_context.specs.declared.scope.Within.{Within}
use Rattle.ang_check_typing.specs.Calls.{virtual_method, direct_method}
use Rattle.ang_check_uses.specs.declared.uses.Callable.{Callable}
use Rattle.ang_check_uses.specs.Uses.{own_function, imported_function, constructor_of, default_maker, makers_in}
use Rattle.ang_check.specs.Typing.{typed_parameter, typed_parameters, this_parameter}
use Rattle.ang_check.specs.Bodies.{context_in, within_of, base_of, base_name, typed_class, import_heading, body_refusals, program_of}
use Rattle.ang_meaning.specs.Environment.{Environment, class_in}
use Rattle.ang_source.specs.Meaning.{passing_by, passing_of, class_of, class_among}
use Rattle.ang_source_typed.specs.Types.{SlotType, Key, Family as FamilyType, Modules, TypedModule, driver_of, object_type, slot_type, first_family, field_types, global_types, IsUnder, IsA}
use Rattle.ang_source_typed.specs.TypedProgram.{parameter_of, signature_of, constructor_signature, IsSignature, IsConstructorSignature, HasSignature, AreClasses}
use Rattle.ang_check_sound.specs.Checked.{with_this}
use Rattle.ang_check_sound.proofs.Bodies.{constructor_declared}
use Rattle.ang_check_sound.proofs.DeclaredTypes.{NamesHave, FamilyHas, FunctionHas}
use Rattle.ang_check_sound.proofs.Items.{every_at, at_front}
use Rattle.ang_check_sound.proofs.Passings.{only_out}
use Rattle.ang_check_sound.proofs.Program.{has_names}
use Rattle.ang_check_laws.specs.Contexts.{place_type, IsDeclared, TakesOne, Takes, IsMaker, IsTypedCallable, AreAbove, IsTypedContext}
use Rattle.ang_check_laws.specs.Given.{IsBuilt, is_class_at, constructs}
use Rattle.ang_check_laws.specs.HostTypes.{HandlesAreOwn}
use Rattle.ang_check_laws.proofs.Program.{one_of, any_there, IsTypedBuild}
use Rattle.ang_check_laws.proofs.Numbered.{no_function}
use Rattle.ang_check_laws.proofs.TypedCalls.{not_low}

-- ---- lists

pub within_list : {A : Type 0} (xs : List A) (i : ℕ) → i < length xs → (a : A) × (slice_get xs i ≡ Some a)
within_list [] i less = let x : ⊥ = omega (arith, less) in absurd x
within_list (x ∷ xs) zero less = (x, refl)
within_list (x ∷ xs) (suc i) less = within_list xs i (let fewer : i < length xs = omega (arith, less) in fewer)

in_front_of : {A : Type 0} (n : ℕ) (xs : List A) (i : ℕ) (a : A) → slice_get (take n xs) i ≡ Some a → slice_get xs i ≡ Some a
in_front_of zero xs i a e = cc
in_front_of (suc n) [] i a e = cc
in_front_of (suc n) (x ∷ xs) zero a e = e
in_front_of (suc n) (x ∷ xs) (suc i) a e = in_front_of n xs i a e

mapped_from : {A B : Type 0} (f : A → B) (o : Option A) (b : B) → option_map f o ≡ Some b → (a : A) × (o ≡ Some a) × (f a ≡ b)
mapped_from f None b e = cc
mapped_from f (Some a) b e = (a, refl, same_Some (f a) b e)

-- an item of a list of lists behind some that are empty
behind_empty : (P : List ℕ → Type 0) (ys : List (List ℕ)) (k n : ℕ) → P [] → ((c : ℕ) → n ≡ k + c → P (slice_index_or ys c []))
    → P (slice_index_or (replicate k [] ++ ys) n [])
behind_empty P ys zero n none h = h n (let same : n ≡ 0 + n = omega arith in same)
behind_empty P ys (suc k) zero none h = none
behind_empty P ys (suc k) (suc n) none h = behind_empty P ys k n none (λ c e. h c (let more : suc n ≡ suc k + c = omega (arith, e) in more))

among_families : (P : List ℕ → Type 0) (fs : List Family) (c : ℕ) → P [] → ((f : Family) → slice_get fs c ≡ Some f → P (map family_type f.above))
    → P (slice_index_or (map (λ (f : Family). map family_type f.above) fs) c [])
among_families P [] c none h = none
among_families P (f ∷ fs) zero none h = h f refl
among_families P (f ∷ fs) (suc c) none h = among_families P fs c none h

every_flat_option : {A B : Type 0} (P : B → Type 0) (f : A → B) (xs : List A) → ((i : ℕ) (a : A) → slice_get xs i ≡ Some a → P (f a)) → Every P (map f xs)
every_flat_option P f [] h = tt
every_flat_option P f (x ∷ xs) h = (h 0 x refl, every_flat_option P f xs (λ i a e. h (suc i) a e))

-- ---- a built module

-- What a body's context wants of the classes of a build, beside what its names and its tree have.
pub record HasClasses (z : Environment) (ms : Modules) (m : ℕ) (names : Names) : Type 0 where
  pub classes : AreClasses z ms m
  pub fields : (c : ℕ) (name : List ℕ) (f : FoundField) → field_named names.families c name ≡ Some f
      → IsDeclared z ms m f.written.ty × (slice_get (field_types ms m c) f.number ≡ Some (place_type z ms m f.written.ty))
  pub methods : (c : ℕ) (name : List ℕ) → Every (λ x. IsTypedCallable z ms m (virtual_method (family_type c) x)) (methods_named names.families c name)
  pub direct : (c d : ℕ) (name : List ℕ) → is_under names.families c d ≡ true
      → Every (λ x. Every (IsTypedCallable z ms m) (direct_method (family_type c) x)) (methods_named names.families d name)
  pub defaults : (c k : ℕ) → default_of names.families c ≡ default.Written k → IsMaker z ms m c k [] (FamilyType m c)
  pub bases : (c b : ℕ) (f : Family) → slice_get names.families c ≡ Some f → f.base ≡ Some b → list_any (λ k. k == b) f.above ≡ true

module _ (z : Environment) (ms : Modules) (m : ℕ) (V : RegistrationList) (names : Names) (sources : List Source) (b : IsBuilt z ms m V names sources) where
  abbrev T : ArgType → SlotType
  T ty = place_type z ms m ty

  pub tree_is : (ms m).program ≡ program_of V names sources
  tree_is = ap (λ (x : TypedModule). x.program) b.known

  view_is : (ms m).view ≡ V
  view_is = ap (λ (x : TypedModule). x.view) b.known

  pub place_of : (c : ℕ) → object_type (ms m).view m (family_type c) ≡ FamilyType m c
  place_of c =
      ap (λ b. if b then Key (driver_of (entry_at (ms m).view (family_type c))) else FamilyType m (family_type c - first_family)) (not_low c)
      ∙ ap (FamilyType m) (let same : 1024 + c - 1024 ≡ c = omega arith in same)

  -- ---- what stands above a family

  classes_are : (program_of V names sources).classes ≡ map typed_class names.families
  unfolding program_of
  classes_are = refl

  among : (cs : List TypedClass) (o : Option TypedClass) (n : ℕ) (x : TypedClass) → slice_get cs n ≡ Some x → (class_in (class_among cs n)).under ≡ n ∷ x.above
  among cs o n x e = ap (λ (o : Option TypedClass). (class_in (option_map (class_of cs n) o)).under) e

  under_is : (c : ℕ) (f : Family) → slice_get names.families c ≡ Some f → (class_in (z.class m c)).under ≡ c ∷ f.above
  under_is c f at =
      ap (λ o. (class_in o).under) (b.tree.classes c) ∙ ap (λ cs. (class_in (class_among cs c)).under) classes_are
      ∙ among (map typed_class names.families) None c (typed_class f) (slice_get-map typed_class names.families c ∙ ap (option_map typed_class) at)

  none_under : (c : ℕ) → slice_get names.families c ≡ None → (class_in (z.class m c)).under ≡ []
  none_under c at =
      ap (λ o. (class_in o).under) (b.tree.classes c) ∙ ap (λ cs. (class_in (class_among cs c)).under) classes_are
      ∙ ap (λ (o : Option TypedClass). (class_in (option_map (class_of (map typed_class names.families) c) o)).under)
      (slice_get-map typed_class names.families c ∙ ap (option_map typed_class) at)

  first_of : (x y : Bool) → x ≡ true → (x || y) ≡ true
  first_of true y e = refl
  first_of false y e = cc

  second_of : (x y : Bool) → y ≡ true → (x || y) ≡ true
  second_of true y e = refl
  second_of false y e = e

  pub there : (c : ℕ) (f : Family) → slice_get names.families c ≡ Some f → IsUnder z ms m c c
  there c f at = ap (list_any (nat_eq c)) (under_is c f at) ∙ first_of (nat_eq c c) (list_any (nat_eq c) f.above) (eq-eqb c c refl)

  pub above_is : (c e : ℕ) (f : Family) → slice_get names.families c ≡ Some f → list_any (λ k. k == e) f.above ≡ true → IsUnder z ms m c e
  above_is c e f at h =
      let r = one_of (λ k. k == e) f.above h in
      let is : r.1 ≡ e = eqb-true r.1 e r.3 in
      ap (list_any (nat_eq e)) (under_is c f at)
      ∙ second_of (nat_eq e c) (list_any (nat_eq e) f.above) (any_there (nat_eq e) f.above r.0 r.1 r.2 (eq-eqb e r.1 (sym is)))

  pub itself_by : (c d : ℕ) (o : Option Family) → slice_get names.families c ≡ o → IsUnder z ms m c d → IsUnder z ms m c c
  itself_by c d None at h = let x : list_any (nat_eq d) [] ≡ true = sym (ap (list_any (nat_eq d)) (none_under c at)) ∙ h in cc
  itself_by c d (Some f) at h = there c f at

  -- what stands above an object type
  one_above : (n k c e : ℕ) (rest x : Bool) → (family_type e == k) ≡ x → n ≡ 1024 + c → IsUnder z ms m c e
      → (rest ≡ true → IsA z ms (object_type (ms m).view m n) (object_type (ms m).view m k)) → (x || rest) ≡ true
      → IsA z ms (object_type (ms m).view m n) (object_type (ms m).view m k)
  one_above n k c e rest true one is under go g =
      let number : n ≡ family_type c = is in
      let other : family_type e ≡ k = eqb-true (family_type e) k one in
      subst (λ i. IsA z ms (object_type (ms m).view m i) (object_type (ms m).view m k)) (sym number)
      (subst (λ i. IsA z ms (object_type (ms m).view m (family_type c)) (object_type (ms m).view m i)) other
      (subst (λ u. IsA z ms u (object_type (ms m).view m (family_type e))) (sym (place_of c))
      (subst (λ u. IsA z ms (FamilyType m c) u) (sym (place_of e)) (refl, under))))
  one_above n k c e rest false one is under go g = go g

  above_in : (n k c : ℕ) (f : Family) → slice_get names.families c ≡ Some f → n ≡ 1024 + c → (es : List ℕ) → ((e : ℕ) → list_any (λ j. j == e) es ≡ true → IsUnder z ms m c e)
      → list_any (λ j. j == k) (map family_type es) ≡ true → IsA z ms (object_type (ms m).view m n) (object_type (ms m).view m k)
  above_in n k c f at is [] each h = cc
  above_in n k c f at is (e ∷ es) each h =
      one_above n k c e (list_any (λ j. j == k) (map family_type es)) (family_type e == k) refl is (each e (first_of (e == e) (list_any (λ j. j == e) es) (eq-eqb e e refl)))
      (λ g. above_in n k c f at is es (λ i x. each i (second_of (e == i) (list_any (λ j. j == i) es) x)) g) h

  ancestors_are : AreAbove z ms m (ancestors_of names)
  unfolding ancestors_of
  ancestors_are n k =
      behind_empty (λ l. list_any (λ j. j == k) l ≡ true → IsA z ms (object_type (ms m).view m n) (object_type (ms m).view m k))
      (map (λ (f : Family). map family_type f.above) names.families) 1024 n (λ e. cc)
      (λ c is. among_families (λ l. list_any (λ j. j == k) l ≡ true → IsA z ms (object_type (ms m).view m n) (object_type (ms m).view m k)) names.families c (λ e. cc)
      (λ f at. above_in n k c f at is f.above (λ e h. above_is c e f at h)))

  -- ---- parameters

  takes_one : (p : ScriptParameter) → IsDeclared z ms m p.written.ty → TakesOne z ms m (type_and_pass p) (parameter_of z ms m (typed_parameter p))
  takes_one p d = record {
    value = d.itself;
    out = λ e. (ap (λ way. passing_by way p.written.ty) e, refl, d.not_null);
    only = λ e. only_out p.pass p.written.ty e;
  }

  takes_all : (ps : List ScriptParameter) → Every (λ (p : ScriptParameter). IsDeclared z ms m p.written.ty) ps
      → Takes z ms m (map type_and_pass ps) (map (parameter_of z ms m) (map typed_parameter ps))
  takes_all [] d = tt
  takes_all (p ∷ ps) d = (takes_one p d.0, takes_all ps d.1)

  pub takes_of : (f : ScriptFunction) → Every (λ (p : ScriptParameter). IsDeclared z ms m p.written.ty) f.params
      → Takes z ms m (parameters_of f) (map (parameter_of z ms m) (typed_parameters f))
  unfolding parameters_of
  takes_of f d = takes_all f.params d

  module _ (same : names ≡ names_of V (declarations_of sources)) (none : body_refusals V names sources ≡ []) (declared : NamesHave (IsDeclared z ms m) names) where
    -- ---- globals and functions

    global_is : (g : ℕ) (x : ScriptGlobal) → slice_get names.globals g ≡ Some x
        → IsDeclared z ms m x.written.ty × (slice_get (global_types ms m) g ≡ Some (place_type z ms m x.written.ty))
    global_is g x at =
        let gs = (ms m).program.globals in
        let types : map (λ (y : t.Global). y.ty) gs ≡ map (λ (y : ScriptGlobal). y.written.ty) names.globals =
        ap (λ (p : t.Program). map (λ (y : t.Global). y.ty) p.globals) tree_is ∙ (has_names V names sources same none).types in
        let held : option_map (λ (y : t.Global). y.ty) (slice_get gs g) ≡ Some x.written.ty =
        sym (slice_get-map (λ (y : t.Global). y.ty) gs g) ∙ ap (λ l. slice_get l g) types ∙ slice_get-map (λ (y : ScriptGlobal). y.written.ty) names.globals g
        ∙ ap (option_map (λ (y : ScriptGlobal). y.written.ty)) at in
        let own = mapped_from (λ (y : t.Global). y.ty) (slice_get gs g) x.written.ty held in (
          every_at (λ (y : ScriptGlobal). IsDeclared z ms m y.written.ty) names.globals g x declared.globals at,
          slice_get-map (λ (y : t.Global). slot_type (ms m).view m y.ty) gs g ∙ ap (option_map (λ (y : t.Global). slot_type (ms m).view m y.ty)) own.1
              ∙ ap (λ ty. Some (slot_type (ms m).view m ty)) own.2,
        )

    function_is : (i : ℕ) (f : ScriptFunction) → slice_get names.functions i ≡ Some f → HasSignature z ms m i (signature_of z ms m (typed_parameters f) f.result.ty)
    function_is i f at =
        let has = has_names V names sources same none in
        let p = program_of V names sources in
        let less : i < length names.functions = slice_get_within names.functions i f at in
        let params : option_map (λ (g : t.TypedFunction). g.parameters) (slice_get p.functions i) ≡ Some (typed_parameters f) =
        sym (slice_get-map (λ (g : t.TypedFunction). g.parameters) p.functions i) ∙ ap (λ l. slice_get l i) has.parameters
        ∙ at_front (map typed_parameters names.functions) _ i (typed_parameters f) (slice_get-map typed_parameters names.functions i ∙ ap (option_map typed_parameters) at) in
        let g = mapped_from (λ (g : t.TypedFunction). g.parameters) (slice_get p.functions i) (typed_parameters f) params in
        let results : slice_get (map (λ (g : t.TypedFunction). g.result) p.functions) i ≡ Some f.result.ty =
        in_front_of (length names.functions) (map (λ (g : t.TypedFunction). g.result) p.functions) i f.result.ty
        (ap (λ l. slice_get l i) has.results ∙ slice_get-map (λ (h : ScriptFunction). h.result.ty) names.functions i ∙ ap (option_map (λ (h : ScriptFunction). h.result.ty)) at) in
        let result : (g.0).result ≡ f.result.ty =
        same_Some (g.0).result f.result.ty
        (sym (slice_get-map (λ (h : t.TypedFunction). h.result) p.functions i ∙ ap (option_map (λ (h : t.TypedFunction). h.result)) g.1) ∙ results) in
        let plain : (ms m).is_constructor i ≡ false = ap (λ (x : TypedModule). x.is_constructor i) b.known ∙ no_function V names sources same i less in
        record {
          function = g.0;
          there = ap (λ (q : t.Program). slice_get q.functions i) tree_is ∙ g.1;
          signature = subst (λ x. IsSignature z ms m x g.0 (signature_of z ms m (typed_parameters f) f.result.ty)) (sym plain)
              (ap (λ ps. signature_of z ms m ps f.result.ty) (sym g.2) ∙ ap (λ ty. signature_of z ms m (g.0).parameters ty) (sym result));
        }

    function_callable : (i : ℕ) (f : ScriptFunction) → slice_get names.functions i ≡ Some f → IsTypedCallable z ms m (own_function i f)
    function_callable i f at =
        let d = every_at (FunctionHas (IsDeclared z ms m)) names.functions i f declared.functions at in record {
          declared = d.result;
          gives = (signature_of z ms m (typed_parameters f) f.result.ty, map (parameter_of z ms m) (typed_parameters f), function_is i f at, refl, takes_of f d.params, (d.result).itself);
        }

    imports_are : (program_of V names sources).imports ≡ map import_heading names.imports
    unfolding program_of
    imports_are = refl

    import_callable : (i : ℕ) (f : ScriptFunction) → slice_get names.imports i ≡ Some f → IsTypedCallable z ms m (imported_function i f)
    import_callable i f at =
        let d = every_at (FunctionHas (IsDeclared z ms m)) names.imports i f declared.imports at in
        let heading : slice_get (ms m).program.imports i ≡ Some (import_heading f) =
        ap (λ (q : t.Program). slice_get q.imports i) tree_is ∙ ap (λ hs. slice_get hs i) imports_are ∙ slice_get-map import_heading names.imports i ∙ ap (option_map import_heading) at in
        record {
          declared = d.result;
          gives = (
            signature_of z ms m (typed_parameters f) f.result.ty,
            map (parameter_of z ms m) (typed_parameters f),
            record { heading = import_heading f; there = heading; signature = refl },
            refl,
            takes_of f d.params,
            (d.result).itself,
          );
        }

    -- ---- what makes objects

    module _ (classes : HasClasses z ms m names) where
      class_is : (c : ℕ) (f : Family) → slice_get names.families c ≡ Some f → f.is_class ≡ true → (ms m).is_class c ≡ true
      class_is c f at e = ap (λ (x : TypedModule). x.is_class c) b.known ∙ ap is_class_at at ∙ e

      object_declared : (c : ℕ) (f : Family) → slice_get names.families c ≡ Some f → IsDeclared z ms m (type.Object (family_type c) false)
      object_declared c f at =
          record { not_null = λ e. cc; itself = subst (λ u. IsA z ms u u) (sym (place_of c)) (refl, there c f at) }

      gives_own : (c : ℕ) (f : Family) → slice_get names.families c ≡ Some f → IsA z ms (FamilyType m c) (place_type z ms m (type.Object (family_type c) false))
      gives_own c f at = subst (λ u. IsA z ms (FamilyType m c) u) (sym (place_of c)) (refl, there c f at)

      constructor_callable : (c : ℕ) (f : Family) → slice_get names.families c ≡ Some f → f.is_class ≡ true → (i : ℕ) (k : ScriptConstructor) → slice_get f.constructors i ≡ Some k
          → IsTypedCallable z ms m (constructor_of c k)
      constructor_callable c f at is i k inner =
          let family = every_at (FamilyHas (IsDeclared z ms m)) names.families c f declared.families at in
          let d = every_at (λ (u : ScriptConstructor). FunctionHas (IsDeclared z ms m) u.function) f.constructors i k family.constructors inner in
          let body = (has_names V names sources same none).bodies.constructors c i k (ap (option_and_then (λ (g : Family). slice_get g.constructors i)) at ∙ inner) in
          let w = within_of V names c false in
          let ctx = context_in V names body.text (Some w) in
          let g = body.typed.0 in
          let parameters : g.parameters ≡ with_this w k.function =
          subst (λ v. IfOk v (λ (u : t.TypedFunction). u.parameters ≡ with_this w k.function)) body.typed.1
          (constructor_declared ctx w k.function body.name (base_name V names c body.text body.own body.bases) (base_of V names c) body.super body.tree body.close) in
          let sig = constructor_signature z ms m (this_parameter w) (typed_parameters k.function) c in
          let made : (ms m).is_constructor k.body ≡ true =
          ap (λ (x : TypedModule). x.is_constructor k.body) b.known
          ∙ any_there (constructs k.body) names.families c f at (any_there (λ (u : ScriptConstructor). u.body == k.body) f.constructors i k inner (eq-eqb k.body k.body refl)) in
          let own : IsConstructorSignature z ms m g.parameters sig =
          subst (λ ps. IsConstructorSignature z ms m ps sig) (sym parameters) (c, c, place_of c, there c f at, refl) in
          let signed : HasSignature z ms m k.body sig = record {
            function = g;
            there = ap (λ (q : t.Program). slice_get q.functions k.body) tree_is ∙ body.typed.2;
            signature = subst (λ x. IsSignature z ms m x g sig) (sym made) own;
          } in record {
            declared = object_declared c f at;
            gives = (
              class_is c f at is,
              (sig, map (parameter_of z ms m) (typed_parameters k.function), passing_of (this_parameter w), signed, (λ e. cc), refl, takes_of k.function d.params, gives_own c f at),
            );
          }

      default_callable : (c : ℕ) (f : Family) → slice_get names.families c ≡ Some f → f.is_class ≡ true → (d : Default) → default_of names.families c ≡ d
          → Every (IsTypedCallable z ms m) (default_maker c d)
      default_callable c f at is default.Missing e = tt
      default_callable c f at is default.Unwritten e =
          (record { declared = object_declared c f at; gives = (class_is c f at is, gives_own c f at) }, tt)
      default_callable c f at is (default.Written k) e =
          let maker : IsMaker z ms m c k [] (place_type z ms m (type.Object (family_type c) false)) =
          subst (λ u. IsMaker z ms m c k [] u) (sym (place_of c)) (classes.defaults c k e) in
          (record { declared = object_declared c f at; gives = (class_is c f at is, maker) }, tt)

      of_class : (x y : Bool) (cs ds : List Callable) → (x ≡ true → Every (IsTypedCallable z ms m) cs) → (x ≡ true → Every (IsTypedCallable z ms m) ds)
          → Every (IsTypedCallable z ms m) (if x then (if y then cs else ds) else [])
      of_class false y cs ds h k = tt
      of_class true true cs ds h k = h refl
      of_class true false cs ds h k = k refl

      makers_are : (c : ℕ) (f : Option Family) → slice_get names.families c ≡ f → Every (IsTypedCallable z ms m) (makers_in names.families c f)
      makers_are c None at = tt
      makers_are c (Some f) at =
          of_class f.is_class (is_empty f.constructors) (default_maker c (default_of names.families c)) (map (constructor_of c) f.constructors)
          (λ is. default_callable c f at is (default_of names.families c) refl)
          (λ is. every_flat_option (IsTypedCallable z ms m) (constructor_of c) f.constructors (λ i k e. constructor_callable c f at is i k e))

      -- ---- all of it

      context_is : TakesValues V → HandlesAreOwn V → length V ≤ first_family → (text : List ℕ) (within : Option Within) → IsTypedContext z ms m (context_in V names text within)
      context_is values own few text within = record {
        values = values;
        own = own;
        few = few;
        view = view_is;
        host = b.view;
        classes = classes.classes;
        ancestors = ancestors_are;
        families = λ c less. let f = within_list names.families c less in there c f.0 f.1;
        globals = global_is;
        fields = classes.fields;
        functions = function_callable;
        imports = import_callable;
        methods = classes.methods;
        direct = classes.direct;
        makers = λ c. makers_are c (slice_get names.families c) refl;
        defaults = classes.defaults;
      }

      base_is : (c : ℕ) (o : Option Family) → slice_get names.families c ≡ o → IfSome (option_and_then (λ (f : Family). f.base) o) (λ d. IsUnder z ms m c d)
      base_is c None at = tt
      base_is c (Some f) at = base_by c f at f.base refl
        where
          base_by : (c : ℕ) (f : Family) → slice_get names.families c ≡ Some f → (d : Option ℕ) → f.base ≡ d → IfSome d (λ e. IsUnder z ms m c e)
          base_by c f at None e = tt
          base_by c f at (Some d) e = above_is c d f at (classes.bases c d f at e)

      pub build_is : TakesValues V → HandlesAreOwn V → length V ≤ first_family → IsTypedBuild z ms m V names
      build_is values own few = record {
        context = context_is values own few;
        declared = declared;
        bases = λ c. base_is c (slice_get names.families c) refl;
        itself = λ c d h. itself_by c d (slice_get names.families c) refl h;
        there = there;
        constructors = λ k. ap (λ (x : TypedModule). x.is_constructor k) b.known;
      }

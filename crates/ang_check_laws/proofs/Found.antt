-- What is found of a family, own and inherited, is typed: the body of a method of a family above, and what makes an object without arguments.
use Rattle.std.specs.Prelude.{◌≡◌, ℕ, suc, ◌==◌, Bool, true, false, ◌||◌, if◌then◌else◌, cond, List, [], ◌∷◌, ◌++◌, filter, find, map, option_map, option_and_then, bytes_eq, Option, Some, None, IfSome, Ok, IfOk, slice_get}
use Rattle.std.specs.List.{list_any, flat_map}
use Rattle.std.specs.Option.{option_or}
use Rattle.std.proofs.Common.{refl, ap, sym, ◌∙◌, subst}
use Rattle.std.proofs.lemmas.Bool.{eqb-true, eq-eqb}
use Rattle.std.proofs.lemmas.List.{reverse-append}
use Rattle.ang_kinds.specs.declared.types.Pass.TheVariants as pass
use Rattle.ang_view.specs.Registration.{RegistrationList}
use Rattle.ang_tree.specs.Stmt.{Every}
use Rattle.ang_types.specs.declared.arg_type.ArgType.{ArgType}
use Rattle.ang_types.specs.declared.arg_type.ArgType.TheVariants as type
use Rattle.ang_typed.specs.declared.program.TypedParameter.{TypedParameter}
use Rattle.ang_typed.specs.Typed as t
use Rattle.ang_names_known.specs.declared.names.Default.TheVariants as default
use Rattle.ang_names_known.specs.declared.names.Family.{Family}
use Rattle.ang_names_known.specs.declared.names.Field.{Field}
use Rattle.ang_names_known.specs.declared.names.FoundField.{FoundField}
use Rattle.ang_names_known.specs.declared.names.Names.{Names}
use Rattle.ang_names_known.specs.declared.names.ScriptConstructor.{ScriptConstructor}
use Rattle.ang_names_known.specs.declared.names.ScriptMethod.{ScriptMethod}
use Rattle.ang_names_known.specs.declared.names.ScriptParameter.{ScriptParameter}
use Rattle.ang_names_known.specs.Items.{is_empty, each_after}
use Rattle.ang_names_known.specs.Lookup.{Numbered, with_family, families_at, kin_of, is_under, FoundMethod, methods_in, methods_of, stands_in, is_named, if_nearest, methods_named, takes_nothing, default_among, written_or, has_constructors, nearest_default, constructors_in, default_of, field_of, own_field, first_field, field_named}
use Rattle.ang_names_known.specs.Spaces.{family_type}
use Rattle.ang_names_listed.specs.Sources.{Source}
use Rattle.ang_names_listed.specs.Declarations.{declarations_of}
use Rattle.ang_names_classes.specs.Resolved.{names_of}
use Rattle.ang_check_operators.specs.Refusals.{Typing}
use Rattle.ang_check_typing.specs.Calls.{virtual_method, direct_by, direct_method}
use Rattle.ang_check.specs.Typing.{typed_parameter, typed_parameters, this_parameter, method_body_typing}
use Rattle.ang_check.specs.Bodies.{context_in, within_of, base_of, base_name, body_refusals, program_of}
use Rattle.ang_meaning.specs.Environment.{Environment}
use Rattle.ang_meaning.specs.declared.routine.Passing.TheVariants.{Object}
use Rattle.ang_source.specs.Meaning.{passing_of}
use Rattle.ang_source_typed.specs.Types.{Family as FamilyType, Modules, TypedModule, IsUnder, IsA}
use Rattle.ang_source_typed.specs.TypedProgram.{Parameter, parameter_of, signature_of, constructor_signature, IsSignature, IsConstructorSignature, HasSignature, IsMethod, AreClasses}
use Rattle.ang_check_sound.specs.Checked.{with_this}
use Rattle.ang_check_sound.proofs.Bodies.{IsOf, method_declared, constructor_declared}
use Rattle.ang_check_sound.proofs.DeclaredTypes.{NamesHave, FamilyHas, FunctionHas}
use Rattle.ang_check_sound.proofs.Items.{every_joined, every_mapped, every_placed, every_filter, every_at, every_other}
use Rattle.ang_check_sound.proofs.Program.{has_names}
use Rattle.ang_check_laws.specs.Contexts.{place_type, IsDeclared, TakesOne, IsMaker, IsTypedCallable, method_signature, ClassesAre}
use Rattle.ang_check_laws.specs.Given.{IsBuilt, constructs}
use Rattle.ang_check_laws.proofs.Program.{any_there}
use Rattle.ang_check_laws.proofs.Numbered.{no_method}
use Rattle.ang_check_laws.proofs.Built.{HasClasses, tree_is, place_of, there, above_is, itself_by, takes_of}
use Rattle.ang_check_laws.proofs.Placed.{kin_in, above_of}

-- what a family has members of is itself, or stands above it
abbrev pub OrdersAreUnder : List Family → Type 0
OrdersAreUnder fs = (c k : ℕ) (f : Family) → slice_get fs c ≡ Some f → list_any (λ j. j == k) f.order ≡ true → is_under fs c k ≡ true

or_first : (x y : Bool) → x ≡ true → (x || y) ≡ true
or_first true y e = refl
or_first false y e = cc

or_second : (x y : Bool) → y ≡ true → (x || y) ≡ true
or_second true y e = refl
or_second false y e = e

-- what stands under nothing else is the same
only_equal : (x y : Bool) → y ≡ false → (x || y) ≡ true → x ≡ true
only_equal true y none e = refl
only_equal false y none e = let wrong : false ≡ true = sym none ∙ e in cc

module _ (fs : List Family) (orders : OrdersAreUnder fs) (c : ℕ) where
  -- a family that is there, c or one above it
  abbrev pub IsKin : Numbered → Type 0
  IsKin f = (slice_get fs f.0 ≡ Some f.1) × (is_under fs c f.0 ≡ true)

  one_kin : (n : ℕ) (o : Option Family) (rest : List Numbered) → slice_get fs n ≡ o → is_under fs c n ≡ true → Every IsKin rest → Every IsKin (with_family n o rest)
  one_kin n None rest e u h = h
  one_kin n (Some f) rest e u h = ((e, u), h)

  all_kin : (ns : List ℕ) → ((k : ℕ) → list_any (λ j. j == k) ns ≡ true → is_under fs c k ≡ true) → Every IsKin (families_at fs ns)
  all_kin [] h = tt
  all_kin (n ∷ ns) h =
      one_kin n (slice_get fs n) (families_at fs ns) refl (h n (or_first (n == n) (list_any (λ j. j == n) ns) (eq-eqb n n refl)))
      (all_kin ns (λ k e. h k (or_second (n == k) (list_any (λ j. j == k) ns) e)))

  kin_by : (o : Option Family) → slice_get fs c ≡ o → Every IsKin (kin_in fs o)
  kin_by None e = tt
  kin_by (Some f) e = all_kin f.order (λ k h. orders c k f e h)

  pub kin_is : Every IsKin (kin_of fs c)
  unfolding kin_of
  kin_is = kin_by (slice_get fs c) refl

  -- ---- methods

  -- a method of a family that is c or stands above it
  pub record IsFound (x : FoundMethod) : Type 0 where
    pub family : Family
    pub number : ℕ
    pub there : slice_get fs x.owner ≡ Some family
    pub method : slice_get family.methods number ≡ Some x.method
    pub under : is_under fs c x.owner ≡ true

  own_found : (f : Numbered) → IsKin f → Every IsFound (methods_in f)
  own_found f k =
      every_mapped (λ y. IsFound (record { owner = f.0; method = y })) IsFound (λ (y : ScriptMethod). record { owner = f.0; method = y }) f.1.methods (λ y h. h)
      (every_placed (λ y. IsFound (record { owner = f.0; method = y })) f.1.methods
      (λ i y e. record { family = f.1; number = i; there = k.0; method = e; under = k.1 }))

  kin_found : (kin : List Numbered) → Every IsKin kin → Every IsFound (flat_map methods_in kin)
  kin_found [] k = tt
  kin_found (f ∷ kin) k = every_joined IsFound (methods_in f) (flat_map methods_in kin) (own_found f k.0) (kin_found kin k.1)

  pub all_found : Every IsFound (methods_of fs c)
  unfolding methods_of
  all_found = kin_found (kin_of fs c) kin_is

  if_nearest_found : (b : Bool) (x : FoundMethod) → IsFound x → Every IsFound (if b then [] else x ∷ [])
  if_nearest_found true x h = tt
  if_nearest_found false x h = (h, tt)

  nearest_found : (before xs : List FoundMethod) → Every IsFound xs → Every IsFound (each_after if_nearest before xs)
  nearest_found before [] h = tt
  nearest_found before (x ∷ xs) h =
      every_joined IsFound (if_nearest before x) (each_after if_nearest (before ++ x ∷ []) xs)
      (if_nearest_found (list_any (stands_in x.method.slot) before) x h.0) (nearest_found (before ++ x ∷ []) xs h.1)

  pub named_found : (name : List ℕ) → Every IsFound (methods_named fs c name)
  unfolding methods_named
  named_found name = nearest_found [] (filter (is_named name) (methods_of fs c)) (every_filter IsFound (is_named name) (methods_of fs c) all_found)

  -- ---- constructors without parameters

  -- the body of a constructor without parameters of a family that is c or stands above it
  pub record IsDefault (k : ℕ) : Type 0 where
    pub owner : ℕ
    pub family : Family
    pub number : ℕ
    pub constructor : ScriptConstructor
    pub there : slice_get fs owner ≡ Some family
    pub made : slice_get family.constructors number ≡ Some constructor
    pub under : is_under fs c owner ≡ true
    pub body : constructor.body ≡ k
    pub nothing : takes_nothing constructor ≡ true

  found_in : (d n : ℕ) (f : Family) (ks : List ScriptConstructor) → slice_get fs d ≡ Some f → is_under fs c d ≡ true
      → ((i : ℕ) (y : ScriptConstructor) → slice_get ks i ≡ Some y → (j : ℕ) × (slice_get f.constructors j ≡ Some y)) → IfSome (default_among ks) IsDefault
  found_in d n f [] e u h = tt
  found_in d n f (y ∷ ks) e u h = found_by d f y ks (takes_nothing y) refl e u h (found_in d n f ks e u (λ i z at. h (suc i) z at))
    where
      found_by : (d : ℕ) (f : Family) (y : ScriptConstructor) (ks : List ScriptConstructor) (b : Bool) → takes_nothing y ≡ b → slice_get fs d ≡ Some f → is_under fs c d ≡ true
          → ((i : ℕ) (x : ScriptConstructor) → slice_get (y ∷ ks) i ≡ Some x → (j : ℕ) × (slice_get f.constructors j ≡ Some x))
          → IfSome (option_map (λ (k : ScriptConstructor). k.body) (find takes_nothing ks)) IsDefault
          → IfSome (option_map (λ (k : ScriptConstructor). k.body) (cond b (Some y) (find takes_nothing ks))) IsDefault
      found_by d f y ks true is e u h rest =
          let p = h 0 y refl in record { owner = d; family = f; number = p.0; constructor = y; there = e; made = p.1; under = u; body = refl; nothing = is }
      found_by d f y ks false is e u h rest = rest

  of_kin : (kin : List Numbered) → Every IsKin kin → IfSome (nearest_default kin) IsDefault
  of_kin [] h = tt
  of_kin (f ∷ kin) h = by (has_constructors f) (of_kin kin h.1)
    where
      by : (b : Bool) → IfSome (nearest_default kin) IsDefault
          → IfSome (option_and_then (λ (g : Numbered). default_among g.1.constructors) (cond b (Some f) (find has_constructors kin))) IsDefault
      by true rest = found_in f.0 0 f.1 f.1.constructors h.0.0 h.0.1 (λ i y e. (i, e))
      by false rest = rest

  if_written : (o : Option ℕ) (k : ℕ) → IfSome o IsDefault → written_or default.Missing o ≡ default.Written k → IsDefault k
  if_written None k h e = cc
  if_written (Some b) k h e = let same : b ≡ k = cc in subst IsDefault same h

  if_written_above : (o : Option ℕ) (k : ℕ) → IfSome o IsDefault → written_or default.Unwritten o ≡ default.Written k → IsDefault k
  if_written_above None k h e = cc
  if_written_above (Some b) k h e = let same : b ≡ k = cc in subst IsDefault same h

  own_defaults : (o : Option Family) → slice_get fs c ≡ o → IfSome (default_among (constructors_in o)) IsDefault
  own_defaults None e = tt
  own_defaults (Some f) e = found_in c 0 f f.constructors e (or_first (c == c) (list_any (λ k. k == c) (above_of (slice_get fs c))) (eq-eqb c c refl)) (λ i y at. (i, at))

  default_by : (b : Bool) (k : ℕ)
      → (if b then written_or default.Unwritten (nearest_default (kin_of fs c)) else written_or default.Missing (default_among (constructors_in (slice_get fs c)))) ≡ default.Written k → IsDefault k
  default_by true k e = if_written_above (nearest_default (kin_of fs c)) k (of_kin (kin_of fs c) kin_is) e
  default_by false k e = if_written (default_among (constructors_in (slice_get fs c))) k (own_defaults (slice_get fs c) refl) e

  pub default_found : (k : ℕ) → default_of fs c ≡ default.Written k → IsDefault k
  unfolding default_of
  default_found k e = default_by (is_empty (constructors_in (slice_get fs c))) k e

-- ---- in a built module

module _ (z : Environment) (ms : Modules) (m : ℕ) (V : RegistrationList) (names : Names) (sources : List Source) (b : IsBuilt z ms m V names sources) where
  under_by : (c d : ℕ) (o : Option Family) (x : Bool) → slice_get names.families c ≡ o → (c == d) ≡ x → (x || list_any (λ k. k == d) (above_of o)) ≡ true
      → IsUnder z ms m d d → IsUnder z ms m c d
  under_by c d o true at is h own = subst (λ k. IsUnder z ms m k d) (sym (eqb-true c d is)) own
  under_by c d None false at is h own = cc
  under_by c d (Some f) false at is h own = above_is z ms m V names sources b c d f at h

  -- a family that is there
  pub under_of : (c d : ℕ) (f : Family) → slice_get names.families d ≡ Some f → is_under names.families c d ≡ true → IsUnder z ms m c d
  under_of c d f at h = under_by c d (slice_get names.families c) (c == d) refl refl h (there z ms m V names sources b d f at)

  module _ (same : names ≡ names_of V (declarations_of sources)) (none : body_refusals V names sources ≡ []) where
    -- ---- bodies of methods

    signed_as : (ps : List TypedParameter) (ty : ArgType) (x : Typing t.TypedFunction) (g : t.TypedFunction) → x ≡ Ok g → IfOk x (IsOf ps ty)
        → (g.parameters ≡ ps) × (g.result ≡ ty)
    signed_as ps ty x g e h = let is = subst (λ v. IfOk v (IsOf ps ty)) e h in (is.parameters, is.result)

    pub method_signed : (c i k : ℕ) (f : Family) (y : ScriptMethod) → slice_get names.families c ≡ Some f → slice_get f.methods i ≡ Some y → y.body ≡ Some k
        → HasSignature z ms m k (signature_of z ms m (with_this (within_of V names c y.read_only) y.function) y.function.result.ty)
    method_signed c i k f y at inner body =
        let w = within_of V names c y.read_only in
        let h = (has_names V names sources same none).bodies.methods c i k y (ap (option_and_then (λ (g : Family). slice_get g.methods i)) at ∙ inner) body in
        let ctx = context_in V names h.text (Some w) in
        let g = h.typed.0 in
        let own = signed_as (with_this w y.function) y.function.result.ty (method_body_typing ctx w y.function h.name h.tree) g h.typed.1
        (method_declared ctx w y.function h.name h.tree) in
        let plain : (ms m).is_constructor k ≡ false =
        ap (λ (x : TypedModule). x.is_constructor k) b.known ∙ no_method V names sources same c i k f y at inner body in record {
          function = g;
          there = ap (λ (q : t.Program). slice_get q.functions k) (tree_is z ms m V names sources b) ∙ h.typed.2;
          signature = subst (λ x. IsSignature z ms m x g (signature_of z ms m (with_this w y.function) y.function.result.ty)) (sym plain)
              (ap (λ ps. signature_of z ms m ps y.function.result.ty) (sym own.0) ∙ ap (λ ty. signature_of z ms m g.parameters ty) (sym own.1));
        }

    module _ (declared : NamesHave (IsDeclared z ms m) names) (classes : AreClasses z ms m) (orders : OrdersAreUnder names.families) where
      receiver : (c d : ℕ) (read_only own : Bool) → IsUnder z ms m c d
          → TakesOne z ms m (type.Object (family_type c) read_only, pass.RefInOut) (parameter_of z ms m (this_parameter (record { family = d; read_only = own })))
      receiver c d read_only own under = record {
        value = subst (λ u. IsA z ms u (place_type z ms m (type.Object (family_type d) own))) (sym (place_of z ms m V names sources b c))
            (subst (λ u. IsA z ms (FamilyType m c) u) (sym (place_of z ms m V names sources b d)) (refl, under));
        out = λ e. cc;
        only = λ e. cc;
      }

      direct_body : (c : ℕ) (x : FoundMethod) (o : Option ℕ) → x.method.body ≡ o → (f : Family) (i : ℕ) → slice_get names.families x.owner ≡ Some f → slice_get f.methods i ≡ Some x.method
          → IsUnder z ms m c x.owner → Every (IsTypedCallable z ms m) (direct_by (family_type c) x o)
      direct_body c x None e f i at inner under = tt
      direct_body c x (Some k) e f i at inner under =
          let y = x.method in
          let family = every_at (FamilyHas (IsDeclared z ms m)) names.families x.owner f declared.families at in
          let d = every_at (λ (u : ScriptMethod). FunctionHas (IsDeclared z ms m) u.function) f.methods i y family.methods inner in
          let w = within_of V names x.owner y.read_only in (
            record {
              declared = d.result;
              gives = (
                signature_of z ms m (with_this w y.function) y.function.result.ty,
                parameter_of z ms m (this_parameter w) ∷ map (parameter_of z ms m) (typed_parameters y.function),
                method_signed x.owner i k f y at inner e,
                refl,
                (receiver c x.owner y.read_only y.read_only under, takes_of z ms m V names sources b y.function d.params),
                (d.result).itself,
              );
            },
            tt,
          )

      through : (c d : ℕ) (x : FoundMethod) → is_under names.families c d ≡ true → IsFound names.families orders d x → (o : Option Family) → slice_get names.families d ≡ o
          → IsUnder z ms m c x.owner
      through c d x under h (Some f) at = classes.above c d x.owner (under_of c d f at under) (under_of d x.owner h.family h.there h.under)
      through c d x under h None at =
          let equal : d ≡ x.owner =
          eqb-true d x.owner (only_equal (d == x.owner) _ (ap (λ o. list_any (λ k. k == x.owner) (above_of o)) at) h.under) in
          subst (λ k. IsUnder z ms m c k) equal (under_of c d h.family (ap (slice_get names.families) equal ∙ h.there) under)

      pub direct_is : (c d : ℕ) (name : List ℕ) → is_under names.families c d ≡ true
          → Every (λ x. Every (IsTypedCallable z ms m) (direct_method (family_type c) x)) (methods_named names.families d name)
      direct_is c d name under =
          every_other (IsFound names.families orders d) (λ x. Every (IsTypedCallable z ms m) (direct_method (family_type c) x)) (methods_named names.families d name)
          (λ x h. direct_body c x x.method.body refl h.family h.number h.there h.method (through c d x under h (slice_get names.families d) refl))
          (named_found names.families orders d name)

      -- ---- constructors without parameters

      no_parameters : (ps : List ScriptParameter) → is_empty ps ≡ true → map typed_parameter ps ≡ []
      no_parameters [] h = refl
      no_parameters (p ∷ ps) h = cc

      default_made : (c k : ℕ) → IsDefault names.families orders c k → IsMaker z ms m c k [] (FamilyType m c)
      default_made c k h =
          let y = h.constructor in
          let d = h.owner in
          let w = within_of V names d false in
          let body = (has_names V names sources same none).bodies.constructors d h.number y
          (ap (option_and_then (λ (g : Family). slice_get g.constructors h.number)) h.there ∙ h.made) in
          let ctx = context_in V names body.text (Some w) in
          let g = body.typed.0 in
          let parameters : g.parameters ≡ this_parameter w ∷ [] =
          subst (λ v. IfOk v (λ (u : t.TypedFunction). u.parameters ≡ with_this w y.function)) body.typed.1
          (constructor_declared ctx w y.function body.name (base_name V names d body.text body.own body.bases) (base_of V names d) body.super body.tree body.close)
          ∙ ap (λ ps. this_parameter w ∷ ps) (no_parameters y.function.params h.nothing) in
          let sig = constructor_signature z ms m (this_parameter w) [] c in
          let under : IsUnder z ms m c d = under_of c d h.family h.there h.under in
          let is_made : (ms m).is_constructor k ≡ true =
          ap (λ (x : TypedModule). x.is_constructor k) b.known
          ∙ any_there (constructs k) names.families d h.family h.there (any_there (λ (u : ScriptConstructor). u.body == k) (h.family).constructors h.number y h.made (eq-eqb y.body k h.body)) in
          let own : IsConstructorSignature z ms m g.parameters sig =
          subst (λ ps. IsConstructorSignature z ms m ps sig) (sym parameters) (c, d, place_of z ms m V names sources b d, under, refl) in
          let signed : HasSignature z ms m k sig = record {
            function = g;
            there = ap (λ (q : t.Program). slice_get q.functions k) (tree_is z ms m V names sources b) ∙ ap (λ n. slice_get (program_of V names sources).functions n) (sym h.body) ∙ body.typed.2;
            signature = subst (λ x. IsSignature z ms m x g sig) (sym is_made) own;
          } in
          (sig, [], passing_of (this_parameter w), signed, (λ e. cc), refl, tt, (refl, itself_by z ms m V names sources b c d (slice_get names.families c) refl under))

      pub defaults_are : (c k : ℕ) → default_of names.families c ≡ default.Written k → IsMaker z ms m c k [] (FamilyType m c)
      defaults_are c k e = default_made c k (default_found names.families orders c k e)

      -- ---- fields

      kept_by : (P : Field → Type 0) (x : Field) (rest : Option Field) (c : Bool) → P x → IfSome rest P → IfSome (cond c (Some x) rest) P
      kept_by P x rest true h k = h
      kept_by P x rest false h k = k

      find_holds : (P : Field → Type 0) (p : Field → Bool) (xs : List Field) → Every P xs → IfSome (find p xs) P
      find_holds P p [] h = tt
      find_holds P p (x ∷ xs) h = kept_by P x (find p xs) (p x) h.0 (find_holds P p xs h.1)

      either_field : (d : ℕ) (o : Option Field) (rest : Option FoundField) → IfSome o (λ (x : Field). IsDeclared z ms m x.written.ty)
          → IfSome rest (λ (f : FoundField). IsDeclared z ms m f.written.ty) → IfSome (option_or (option_map (field_of d) o) rest) (λ (f : FoundField). IsDeclared z ms m f.written.ty)
      either_field d None rest h k = k
      either_field d (Some x) rest h k = h

      one_field : (name : List ℕ) (g : Numbered) (rest : Option FoundField) → Every (λ (x : Field). IsDeclared z ms m x.written.ty) g.1.fields
          → IfSome rest (λ (f : FoundField). IsDeclared z ms m f.written.ty) → IfSome (option_or (own_field name g) rest) (λ (f : FoundField). IsDeclared z ms m f.written.ty)
      one_field name g rest h k =
          either_field g.0 (find (λ (x : Field). bytes_eq x.name name) g.1.fields) rest
          (find_holds (λ (x : Field). IsDeclared z ms m x.written.ty) (λ (x : Field). bytes_eq x.name name) g.1.fields h) k

      all_fields : (c : ℕ) (name : List ℕ) (kin : List Numbered) → Every (IsKin names.families orders c) kin
          → IfSome (first_field name kin) (λ (f : FoundField). IsDeclared z ms m f.written.ty)
      all_fields c name [] h = tt
      all_fields c name (g ∷ kin) h =
          one_field name g (first_field name kin) (every_at (FamilyHas (IsDeclared z ms m)) names.families g.0 g.1 declared.families h.0.0).fields (all_fields c name kin h.1)

      field_declared : (c : ℕ) (name : List ℕ) (f : FoundField) → field_named names.families c name ≡ Some f → IsDeclared z ms m f.written.ty
      unfolding field_named
      field_declared c name f e =
          subst (λ o. IfSome o (λ (g : FoundField). IsDeclared z ms m g.written.ty)) e (all_fields c name (kin_of names.families c) (kin_is names.families orders c))

      -- ---- methods by the object's class

      virtual_is : (c : ℕ) (x : FoundMethod) → IsFound names.families orders c x → IsMethod z ms m x.method.slot (method_signature z ms m c x.method.function)
          → IsTypedCallable z ms m (virtual_method (family_type c) x)
      virtual_is c x h is =
          let y = x.method in
          let family = every_at (FamilyHas (IsDeclared z ms m)) names.families x.owner h.family declared.families h.there in
          let d = every_at (λ (u : ScriptMethod). FunctionHas (IsDeclared z ms m) u.function) (h.family).methods h.number y family.methods h.method in
          let q : Parameter = record { passing = Object; type = FamilyType m c } in
          let first : TakesOne z ms m (type.Object (family_type c) y.read_only, pass.RefInOut) q = record {
            value = subst (λ u. IsA z ms u (FamilyType m c)) (sym (place_of z ms m V names sources b c)) (refl, itself_by z ms m V names sources b c x.owner (slice_get names.families c) refl (under_of c x.owner h.family h.there h.under));
            out = λ e. cc;
            only = λ e. cc;
          } in record {
            declared = d.result;
            gives = (
              method_signature z ms m c y.function,
              q ∷ map (parameter_of z ms m) (typed_parameters y.function),
              is,
              sym (reverse-append (q ∷ []) (map (parameter_of z ms m) (typed_parameters y.function))),
              (first, takes_of z ms m V names sources b y.function d.params),
              (d.result).itself,
            );
          }

      methods_are : (c : ℕ) (xs : List FoundMethod) → Every (IsFound names.families orders c) xs → Every (λ x. IsMethod z ms m x.method.slot (method_signature z ms m c x.method.function)) xs
          → Every (λ x. IsTypedCallable z ms m (virtual_method (family_type c) x)) xs
      methods_are c [] h k = tt
      methods_are c (x ∷ xs) h k = (virtual_is c x h.0 k.0, methods_are c xs h.1 k.1)

pub has_classes : (z : Environment) (ms : Modules) (m : ℕ) (V : RegistrationList) (names : Names) (sources : List Source) (b : IsBuilt z ms m V names sources)
    (same : names ≡ names_of V (declarations_of sources)) (none : body_refusals V names sources ≡ []) (declared : NamesHave (IsDeclared z ms m) names)
    → ClassesAre z ms m names → HasClasses z ms m names
has_classes z ms m V names sources b same none declared h = record {
  classes = h.classes;
  fields = λ c name f e. (field_declared z ms m V names sources b same none declared h.classes h.orders c name f e, h.fields c name f e);
  methods = λ c name.
      methods_are z ms m V names sources b same none declared h.classes h.orders c (methods_named names.families c name) (named_found names.families h.orders c name) (h.methods c name);
  direct = direct_is z ms m V names sources b same none declared h.classes h.orders;
  defaults = defaults_are z ms m V names sources b same none declared h.classes h.orders;
  bases = h.bases;
}

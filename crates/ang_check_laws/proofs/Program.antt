-- The functions and the initializers of a build's tree are typed, where its context is and the types that its names declare are those of declarations.
use Rattle.std.specs.Prelude.{◌≡◌, ℕ, zero, suc, ◌+◌, ◌==◌, Bool, true, false, ◌||◌, length, List, [], ◌∷◌, ◌++◌, option_and_then, Option, Some, None, IfSome, Ok, Err, IfOk, slice_get}
use Rattle.std.specs.List.{filter_map, list_any}
use Rattle.std.proofs.Common.{refl, ap, sym, ◌∙◌, subst, arith}
use Rattle.std.proofs.lemmas.Bool.{eqb-true, eq-eqb}
use Rattle.std.proofs.lemmas.Option.{same_Some}
use Rattle.ang_lex.specs.declared.token.Token.{Token}
use Rattle.ang_view.specs.Registration.{RegistrationList}
use Rattle.ang_tree.specs.declared.type_name.TypeName.{TypeName}
use Rattle.ang_tree.specs.Declarations.{SuperTree}
use Rattle.ang_tree.specs.Stmt.{Init, Body, Stmts, Every}
use Rattle.ang_types.specs.declared.arg_type.ArgType.{ArgType}
use Rattle.ang_typed.specs.declared.program.TypedParameter.{TypedParameter}
use Rattle.ang_typed.specs.Typed as t
use Rattle.ang_names_known.specs.declared.names.Family.{Family}
use Rattle.ang_names_known.specs.declared.names.Names.{Names}
use Rattle.ang_names_known.specs.declared.names.ScriptConstructor.{ScriptConstructor}
use Rattle.ang_names_known.specs.declared.names.ScriptFunction.{ScriptFunction}
use Rattle.ang_names_known.specs.declared.names.ScriptGlobal.{ScriptGlobal}
use Rattle.ang_names_known.specs.declared.names.ScriptMethod.{ScriptMethod}
use Rattle.ang_names_listed.specs.Sources.{Source}
use Rattle.ang_names_listed.specs.Declarations.{declarations_of}
use Rattle.ang_names_classes.specs.Resolved.{names_of}
use Rattle.ang_check_operators.specs.Refusals.{Typing}
use Rattle.ang_check_context.specs.declared.scope.Within.{Within}
use Rattle.ang_check.specs.Typing.{Base, typed_parameters, this_parameter, function_typing, method_body_typing, constructor_typing, global_typing}
use Rattle.ang_check.specs.Bodies.{Part, a_function, a_global, a_method, a_constructor, a_default, parts_of, Judgement, of_function, of_global, of_member, of_default, context_in, within_of, base_of, base_name, judged_function, judged_global, method_at, judged_method, constructor_at, judged_constructor, judged, judgements, refusal_in, function_given, member_given, global_given, body_refusals, program_of}
use Rattle.ang_meaning.specs.Environment.{Environment}
use Rattle.ang_source_typed.specs.Types.{Family as FamilyType, Modules, IsUnder}
use Rattle.ang_source_typed.specs.TypedProgram.{Signature, signature_of, constructor_signature, IsConstructorSignature, IsSignature, HasSignature, TypesOption, TypesBody, TypedProgram}
use Rattle.ang_check_sound.specs.Checked.{with_this}
use Rattle.ang_check_sound.proofs.Bodies.{IsOf, function_declared, method_declared, constructor_declared}
use Rattle.ang_check_sound.proofs.DeclaredTypes.{NamesHave, FamilyHas, FunctionHas}
use Rattle.ang_check_sound.proofs.Items.{every_at}
use Rattle.ang_check_sound.proofs.Members.{number_of, AreNumbered}
use Rattle.ang_check_sound.proofs.Parts.{total_of, names_have_parts}
use Rattle.ang_check_sound.proofs.Places.{EachFrom, at_number}
use Rattle.ang_check_sound.proofs.Program.{J, none_behind, has_names}
use Rattle.ang_check_laws.specs.Contexts.{place_type, IsDeclared, IsTypedContext}
use Rattle.ang_check_laws.specs.Given.{constructs}
use Rattle.ang_check_laws.proofs.TypedCalls.{family_place}
use Rattle.ang_check_laws.proofs.TypedBodies.{function_body, method_body, global_body, constructor_body}

-- What typing knows of a build: each body's context, the types that names declare, and what stands above classes.
pub record IsTypedBuild (z : Environment) (ms : Modules) (m : ℕ) (V : RegistrationList) (names : Names) : Type 0 where
  pub context : (text : List ℕ) (within : Option Within) → IsTypedContext z ms m (context_in V names text within)
  pub declared : NamesHave (IsDeclared z ms m) names
  pub bases : (c : ℕ) → IfSome (base_of V names c) (λ b. IsUnder z ms m c b)
  pub itself : (c d : ℕ) → IsUnder z ms m c d → IsUnder z ms m c c
  pub there : (c : ℕ) (f : Family) → slice_get names.families c ≡ Some f → IsUnder z ms m c c
  pub constructors : (k : ℕ) → (ms m).is_constructor k ≡ list_any (constructs k) names.families

-- two things that hold of what was typed
both : {A : Type 0} (P Q R : A → Type 0) (x : Typing A) → IfOk x P → IfOk x Q → ((a : A) → P a → Q a → R a) → IfOk x R
both P Q R (Ok a) h k g = g a h k
both P Q R (Err r) h k g = tt

-- what holds at the places of two lists holds at those of both
in_joined : {A : Type 0} (R : ℕ → A → Type 0) (xs ys : List A) → ((i : ℕ) (a : A) → slice_get xs i ≡ Some a → R i a)
    → ((j : ℕ) (a : A) → slice_get ys j ≡ Some a → R (length xs + j) a) → (k : ℕ) (a : A) → slice_get (xs ++ ys) k ≡ Some a → R k a
in_joined R [] ys h g k a e = let same : 0 + k ≡ k = omega arith in subst (λ n. R n a) same (g k a e)
in_joined R (x ∷ xs) ys h g zero a e = h 0 a e
in_joined R (x ∷ xs) ys h g (suc k) a e =
    in_joined (λ n b. R (suc n) b) xs ys (λ i b at. h (suc i) b at)
    (λ j b at. let same : suc (length xs) + j ≡ suc (length xs + j) = omega arith in subst (λ n. R n b) same (g j b at)) k a e

-- the one of which a test holds
first_or : {A : Type 0} (p : A → Bool) (x : A) (xs : List A) (b : Bool) → p x ≡ b → (b || list_any p xs) ≡ true
    → (list_any p xs ≡ true → (i : ℕ) × (a : A) × (slice_get xs i ≡ Some a) × (p a ≡ true))
    → (i : ℕ) × (a : A) × (slice_get (x ∷ xs) i ≡ Some a) × (p a ≡ true)
first_or p x xs true is h rest = (0, x, refl, is)
first_or p x xs false is h rest = let r = rest h in (suc r.0, r.1, r.2, r.3)

pub one_of : {A : Type 0} (p : A → Bool) (xs : List A) → list_any p xs ≡ true → (i : ℕ) × (a : A) × (slice_get xs i ≡ Some a) × (p a ≡ true)
one_of p [] e = cc
one_of p (x ∷ xs) e = first_or p x xs (p x) refl e (λ h. one_of p xs h)

pub any_there : {A : Type 0} (p : A → Bool) (xs : List A) (i : ℕ) (a : A) → slice_get xs i ≡ Some a → p a ≡ true → list_any p xs ≡ true
any_there p [] i a at e = cc
any_there p (x ∷ xs) zero a at e = by (p x) (ap p (same_Some x a at) ∙ e)
  where
    by : (b : Bool) → b ≡ true → (b || list_any p xs) ≡ true
    by true is = refl
    by false is = cc
any_there p (x ∷ xs) (suc i) a at e = by (p x) (any_there p xs i a at e)
  where
    by : (b : Bool) → list_any p xs ≡ true → (b || list_any p xs) ≡ true
    by true is = refl
    by false is = is

module _ (z : Environment) (ms : Modules) (m : ℕ) (V : RegistrationList) (names : Names) (built : IsTypedBuild z ms m V names) where
  -- a function that is no constructor's
  abbrev pub IsTypedFunction : t.TypedFunction → Type 0
  IsTypedFunction g = TypesBody z ms m (signature_of z ms m g.parameters g.result) g.body

  -- body k, if it is no constructor's
  abbrev IsTypedMember : ℕ → t.TypedFunction → Type 0
  IsTypedMember k g = (ms m).is_constructor k ≡ false → IsTypedFunction g

  abbrev IsTypedGlobal : t.Global → Type 0
  IsTypedGlobal x = TypesOption z ms m [] (place_type z ms m x.ty) x.initializer

  named : (ps : List TypedParameter) (ty : ArgType) (x : Typing t.TypedFunction) → IfOk x (λ (g : t.TypedFunction). TypesBody z ms m (signature_of z ms m ps ty) g.body)
      → IfOk x (IsOf ps ty) → IfOk x IsTypedFunction
  named ps ty x h k =
      both (λ (g : t.TypedFunction). TypesBody z ms m (signature_of z ms m ps ty) g.body) (IsOf ps ty) IsTypedFunction x h k
      (λ g hg kg. subst (λ qs. TypesBody z ms m (signature_of z ms m qs g.result) g.body) (sym kg.parameters)
      (subst (λ r. TypesBody z ms m (signature_of z ms m ps r) g.body) (sym kg.result) hg))

  function_is : (text : List ℕ) (n : ℕ) (f : ScriptFunction) (x : Token) (b : Body) → slice_get names.functions n ≡ Some f
      → IfOk (function_typing (context_in V names text None) f x b) IsTypedFunction
  function_is text n f x b at =
      let d = every_at (FunctionHas (IsDeclared z ms m)) names.functions n f (built.declared).functions at in
      named (typed_parameters f) f.result.ty (function_typing (context_in V names text None) f x b)
      (function_body z ms m (context_in V names text None) (built.context text None) refl f x b d.params) (function_declared (context_in V names text None) f x b)

  method_is : (text : List ℕ) (c k : ℕ) (f : Family) (y : ScriptMethod) (x : Token) (b : Body) → slice_get names.families c ≡ Some f → slice_get f.methods k ≡ Some y
      → IfOk (method_body_typing (context_in V names text (Some (within_of V names c y.read_only))) (within_of V names c y.read_only) y.function x b) IsTypedFunction
  method_is text c k f y x b at inner =
      let w = within_of V names c y.read_only in
      let s = context_in V names text (Some w) in
      let family = every_at (FamilyHas (IsDeclared z ms m)) names.families c f (built.declared).families at in
      let d = every_at (λ (u : ScriptMethod). FunctionHas (IsDeclared z ms m) u.function) f.methods k y family.methods inner in
      named (with_this w y.function) y.function.result.ty (method_body_typing s w y.function x b)
      (method_body z ms m s (built.context text (Some w)) w refl (built.there c f at) y.function x b d.params) (method_declared s w y.function x b)

  -- ---- what the parts give

  abbrev Clean : List Judgement → Type 0
  Clean js = filter_map refusal_in js ≡ []

  record Given (i j : ℕ) (js : List Judgement) : Type 0 where
    functions : Every IsTypedFunction (filter_map function_given js)
    count : i + length (filter_map function_given js) ≡ length names.functions
    globals : Every IsTypedGlobal (filter_map global_given js)
    members : EachFrom (λ k g. IsTypedMember (number_of V names k) g) j (filter_map member_given js)

  function_more : (i j : ℕ) (text : List ℕ) (x : Typing t.TypedFunction) (js : List Judgement) → IfOk x IsTypedFunction → Clean (of_function text x ∷ js)
      → Given (i + 1) j js → Given i j (of_function text x ∷ js)
  function_more i j text (Ok h) js is e r = record {
    functions = (is, r.functions);
    count = let n = length (filter_map function_given js) in
        let was : i + 1 + n ≡ length names.functions = r.count in let goal : i + suc n ≡ length names.functions = omega arith in goal;
    globals = r.globals;
    members = r.members;
  }
  function_more i j text (Err why) js is e r = cc

  global_more : (i j : ℕ) (text : List ℕ) (x : Typing t.Global) (js : List Judgement) → IfOk x IsTypedGlobal → Clean (of_global text x ∷ js)
      → Given i j js → Given i j (of_global text x ∷ js)
  global_more i j text (Ok h) js is e r = record { functions = r.functions; count = r.count; globals = (is, r.globals); members = r.members }
  global_more i j text (Err why) js is e r = cc

  member_more : (i j : ℕ) (text : List ℕ) (x : Typing t.TypedFunction) (js : List Judgement) → IfOk x (IsTypedMember (number_of V names j)) → Clean (of_member text x ∷ js)
      → Given i (j + 1) js → Given i j (of_member text x ∷ js)
  member_more i j text (Ok h) js is e r = record { functions = r.functions; count = r.count; globals = r.globals; members = (is, r.members) }
  member_more i j text (Err why) js is e r = cc

  default_more : (i j : ℕ) (text : List ℕ) (x : Typing Base) (js : List Judgement) → Clean (of_default text x ∷ js) → Given i j js → Given i j (of_default text x ∷ js)
  default_more i j text (Ok b) js e r = record { functions = r.functions; count = r.count; globals = r.globals; members = r.members }
  default_more i j text (Err why) js e r = cc

  by_function : (i j n : ℕ) (text : List ℕ) (x : Token) (b : Body) (o : Option ScriptFunction) (f : ScriptFunction) (js : List Judgement)
      → slice_get names.functions n ≡ o → o ≡ Some f → Clean (judged_function V names text x b o ++ js)
      → Given (i + 1) j js → Given i j (judged_function V names text x b o ++ js)
  by_function i j n text x b None f js at e clean r = cc
  by_function i j n text x b (Some h) f js at e clean r =
      function_more i j text (function_typing (context_in V names text None) h x b) js (function_is text n h x b at) clean r

  by_global : (i j : ℕ) (text : List ℕ) (y : TypeName) (init : Init) (o : Option ScriptGlobal) (f : ScriptGlobal) (js : List Judgement) → o ≡ Some f
      → Clean (judged_global V names text y init o ++ js) → Given i j js → Given i j (judged_global V names text y init o ++ js)
  by_global i j text y init None f js e clean r = cc
  by_global i j text y init (Some h) f js e clean r =
      global_more i j text (global_typing (context_in V names text None) h y init) js
      (global_body z ms m (context_in V names text None) (built.context text None) refl h y init) clean r

  -- what a number of a family has
  family_method : (c k : ℕ) (o : Option Family) (y : ScriptMethod) → slice_get names.families c ≡ o → option_and_then (λ (f : Family). slice_get f.methods k) o ≡ Some y
      → (f : Family) × (slice_get names.families c ≡ Some f) × (slice_get f.methods k ≡ Some y)
  family_method c k None y is e = cc
  family_method c k (Some f) y is e = (f, is, e)

  family_constructor : (c k : ℕ) (o : Option Family) (y : ScriptConstructor) → slice_get names.families c ≡ o
      → option_and_then (λ (f : Family). slice_get f.constructors k) o ≡ Some y
      → (f : Family) × (slice_get names.families c ≡ Some f) × (slice_get f.constructors k ≡ Some y)
  family_constructor c k None y is e = cc
  family_constructor c k (Some f) y is e = (f, is, e)

  no_constructor : (k : ℕ) (g : t.TypedFunction) → IsTypedFunction g → IsTypedMember k g
  no_constructor k g h is = h

  by_method : (i j c k : ℕ) (text : List ℕ) (x : Token) (b : Body) (o : Option ScriptMethod) (y : ScriptMethod) (js : List Judgement) → method_at V names c k ≡ o → o ≡ Some y
      → Clean (judged_method V names c text x b o ++ js) → Given i (j + 1) js → Given i j (judged_method V names c text x b o ++ js)
  by_method i j c k text x b None y js at e clean r = cc
  by_method i j c k text x b (Some u) y js at e clean r =
      let w = within_of V names c u.read_only in
      let typing = method_body_typing (context_in V names text (Some w)) w u.function x b in
      let there = family_method c k (slice_get names.families c) u refl at in
      member_more i j text typing js
      (both IsTypedFunction IsTypedFunction (IsTypedMember (number_of V names j)) typing (method_is text c k there.0 u x b there.1 there.2)
      (method_is text c k there.0 u x b there.1 there.2) (λ g h same is. h)) clean r

  -- the body of a constructor is one
  is_constructor : (k c n : ℕ) (f : Family) (y : ScriptConstructor) → slice_get names.families c ≡ Some f → slice_get f.constructors n ≡ Some y → y.body ≡ k
      → (ms m).is_constructor k ≡ true
  is_constructor k c n f y at inner e =
      built.constructors k
      ∙ any_there (constructs k) names.families c f at (any_there (λ (u : ScriptConstructor). u.body == k) f.constructors n y inner (eq-eqb y.body k e))

  by_constructor : (i j c k : ℕ) (text : List ℕ) (x base : Token) (bn : Option ℕ) (u : Option SuperTree) (ss : Stmts) (close : Token) (o : Option ScriptConstructor) (y : ScriptConstructor)
      (js : List Judgement) → o ≡ Some y → (ms m).is_constructor (number_of V names j) ≡ true → Clean (judged_constructor V names c text x base bn u ss close o ++ js)
      → Given i (j + 1) js → Given i j (judged_constructor V names c text x base bn u ss close o ++ js)
  by_constructor i j c k text x base bn u ss close None y js e is clean r = cc
  by_constructor i j c k text x base bn u ss close (Some v) y js e is clean r =
      let w = within_of V names c false in
      let typing = constructor_typing (context_in V names text (Some w)) w v.function x base bn u ss close in
      member_more i j text typing js (never typing) clean r
    where
      never : (x : Typing t.TypedFunction) → IfOk x (IsTypedMember (number_of V names j))
      never (Ok g) = λ no. let wrong : true ≡ false = sym is ∙ no in cc
      never (Err why) = tt

  all_given : (total i g j : ℕ) (ps : List Part) → AreNumbered V names total i g j ps → Clean (J V names ps) → Given i j (J V names ps)
  all_given total i g j [] h clean = record {
    functions = tt;
    count = let e : length names.functions ≡ i = h.0 in let goal : i + 0 ≡ length names.functions = omega arith in goal;
    globals = tt;
    members = tt;
  }
  all_given total i g j (a_function n text x b ∷ ps) h clean =
      by_function i j n text x b (slice_get names.functions n) h.1.0 (J V names ps) refl h.1.1 clean
      (all_given total (i + 1) g j ps h.2 (none_behind (judged V names (a_function n text x b)) (J V names ps) clean))
  all_given total i g j (a_global n text y init ∷ ps) h clean =
      by_global i j text y init (slice_get names.globals n) h.1.0 (J V names ps) h.1.1 clean
      (all_given total i (g + 1) j ps h.2 (none_behind (judged V names (a_global n text y init)) (J V names ps) clean))
  all_given total i g j (a_method c k text x b ∷ ps) h clean =
      by_method i j c k text x b (method_at V names c k) h.0.method (J V names ps) refl h.0.there clean
      (all_given total i g (j + 1) ps h.1 (none_behind (judged V names (a_method c k text x b)) (J V names ps) clean))
  all_given total i g j (a_constructor c k text x own bases u ss close ∷ ps) h clean =
      let there = family_constructor c k (slice_get names.families c) h.0.constructor refl h.0.there in
      by_constructor i j c k text x (base_name V names c text own bases) (base_of V names c) u ss close (constructor_at V names c k) h.0.constructor (J V names ps)
      h.0.there (is_constructor (number_of V names j) c k there.0 h.0.constructor there.1 there.2 h.0.body) clean
      (all_given total i g (j + 1) ps h.1 (none_behind (judged V names (a_constructor c k text x own bases u ss close)) (J V names ps) clean))
  all_given total i g j (a_default c text x bases ∷ ps) h clean =
      default_more i j text _ (J V names ps) clean
      (all_given total i g j ps h.1 (none_behind (judged V names (a_default c text x bases)) (J V names ps) clean))

  -- ---- the tree

  -- body k of the tree, by whether it is a constructor's
  module _ (sources : List Source) (same : names ≡ names_of V (declarations_of sources)) (none : body_refusals V names sources ≡ []) where
    abbrev js : List Judgement
    js = J V names (parts_of sources)

    given : Given 0 0 (J V names (parts_of sources))
    unfolding judgements body_refusals
    given = all_given (total_of sources) 0 0 0 (parts_of sources) (names_have_parts V names sources same).numbered none

    plain_function : (k : ℕ) (g : t.TypedFunction) → slice_get (program_of V names sources).functions k ≡ Some g → IsTypedMember k g
    unfolding judgements program_of
    plain_function k g at =
        let functions = filter_map function_given (J V names (parts_of sources)) in
        let members = filter_map member_given (J V names (parts_of sources)) in
        let count : length functions ≡ length names.functions = let c = given.count in omega (arith, c) in
        in_joined IsTypedMember functions members (λ i a e is. every_at IsTypedFunction functions i a given.functions e)
        (λ j a e. subst (λ n. IsTypedMember (n + j) a) (sym count) (at_number (λ k g. IsTypedMember (number_of V names k) g) j members a given.members e)) k g at

    -- a constructor's, for each class that it may run for
    constructor_function : (k : ℕ) (g : t.TypedFunction) (s : Signature) → slice_get (program_of V names sources).functions k ≡ Some g → (ms m).is_constructor k ≡ true
        → IsConstructorSignature z ms m g.parameters s → TypesBody z ms m s g.body
    constructor_function k g s at is sig =
        let family = one_of (constructs k) names.families (sym (built.constructors k) ∙ is) in
        let made = one_of (λ (u : ScriptConstructor). u.body == k) (family.1).constructors family.3 in
        let c = family.0 in
        let y = made.1 in
        let body : y.body ≡ k = eqb-true y.body k made.3 in
        let b = (has_names V names sources same none).bodies.constructors c made.0 y
        (ap (option_and_then (λ (f : Family). slice_get f.constructors made.0)) family.2 ∙ made.2) in
        let w = within_of V names c false in
        let base = base_name V names c b.text b.own b.bases in
        let ctx = context_in V names b.text (Some w) in
        let typing = constructor_typing ctx w y.function b.name base (base_of V names c) b.super b.tree b.close in
        let h = b.typed.0 in
        let one : h ≡ g = same_Some h g (sym b.typed.2 ∙ ap (λ n. slice_get (program_of V names sources).functions n) body ∙ at) in
        let ok : typing ≡ Ok g = b.typed.1 ∙ ap Ok one in
        let parameters : g.parameters ≡ with_this w y.function =
        subst (λ v. IfOk v (λ (u : t.TypedFunction). u.parameters ≡ with_this w y.function)) ok
        (constructor_declared ctx w y.function b.name base (base_of V names c) b.super b.tree b.close) in
        let own : IsConstructorSignature z ms m (with_this w y.function) s = subst (λ ps. IsConstructorSignature z ms m ps s) parameters sig in
        let e = own.0 in
        let of : FamilyType m own.1 ≡ FamilyType m c = sym own.2 ∙ family_place z ms m ctx (built.context b.text (Some w)) [] c in
        let d : own.1 ≡ c = cc in
        let under : IsUnder z ms m e c = subst (λ u. IsUnder z ms m e u) d own.3 in
        let family_types = every_at (FamilyHas (IsDeclared z ms m)) names.families c family.1 (built.declared).families family.2 in
        let types = every_at (λ (u : ScriptConstructor). FunctionHas (IsDeclared z ms m) u.function) (family.1).constructors made.0 y family_types.constructors made.2 in
        subst (λ u. TypesBody z ms m u g.body) (sym own.4)
        (subst (λ v. IfOk v (λ (u : t.TypedFunction). TypesBody z ms m (constructor_signature z ms m (this_parameter w) (typed_parameters y.function) e) u.body)) ok
        (constructor_body z ms m ctx (built.context b.text (Some w)) w refl e under (built.there c family.1 family.2) (built.itself e c under)
        y.function b.name base (base_of V names c) b.super b.tree b.close types.params (built.bases c)))

    signed : (k : ℕ) (g : t.TypedFunction) (s : Signature) (b : Bool) → (ms m).is_constructor k ≡ b → slice_get (program_of V names sources).functions k ≡ Some g
        → IsSignature z ms m b g s → TypesBody z ms m s g.body
    signed k g s false is at sig = subst (λ u. TypesBody z ms m u g.body) (sym sig) (plain_function k g at is)
    signed k g s true is at sig = constructor_function k g s at is sig

    pub functions_typed : (ms m).program ≡ program_of V names sources → (k : ℕ) (s : Signature) (f : HasSignature z ms m k s) → TypesBody z ms m s f.function.body
    functions_typed tree k s f =
        signed k f.function s ((ms m).is_constructor k) refl (ap (λ (p : t.Program). slice_get p.functions k) (sym tree) ∙ f.there) f.signature

    pub globals_typed : (ms m).program ≡ program_of V names sources → (g : ℕ) (x : t.Global) → slice_get (ms m).program.globals g ≡ Some x
        → TypesOption z ms m [] (place_type z ms m x.ty) x.initializer
    unfolding judgements program_of
    globals_typed tree g x at =
        every_at IsTypedGlobal (filter_map global_given (J V names (parts_of sources))) g x given.globals
        (ap (λ (p : t.Program). slice_get p.globals g) (sym tree) ∙ at)

-- The program is typed, where its classes are.
pub build_typed : (z : Environment) (ms : Modules) (m : ℕ) (V : RegistrationList) (names : Names) (sources : List Source) → IsTypedBuild z ms m V names
    → names ≡ names_of V (declarations_of sources) → body_refusals V names sources ≡ [] → (ms m).program ≡ program_of V names sources → TypedProgram z ms m
build_typed z ms m V names sources built same none tree = record {
  classes = (built.context [] None).classes;
  functions = functions_typed z ms m V names built sources same none tree;
  globals = globals_typed z ms m V names built sources same none tree;
}

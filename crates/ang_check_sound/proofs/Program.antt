-- The resolved tree of scripts without errors has what the names declare, each body at its number.
use Rattle.std.specs.Prelude.{◌≡◌, ℕ, suc, ◌+◌, true, false, Contains, length, take, List, [], ◌∷◌, ◌++◌, map, unwrap_or, option_map, option_and_then, Option, Some, None, Ok, Err, IfOk, slice_get}
use Rattle.std.specs.List.{cons_option, filter_map, flat_map, list_any, range_with_len}
use Rattle.std.proofs.Common.{refl, ap, sym, ◌∙◌, subst, arith}
use Rattle.std.proofs.lemmas.Bool.{eqb-true}
use Rattle.std.proofs.lemmas.List.{length-map, map-append}
use Rattle.std.proofs.lemmas.Option.{same_Some}
use Rattle.ang_lex.specs.declared.token.Token.{Token}
use Rattle.ang_view.specs.Registration.{RegistrationList}
use Rattle.ang_tree.specs.declared.type_name.TypeName.{TypeName}
use Rattle.ang_tree.specs.Declarations.{SuperTree}
use Rattle.ang_tree.specs.Stmt.{Init, Body, Stmts, Every}
use Rattle.ang_types.specs.declared.arg_type.ArgType.{ArgType}
use Rattle.ang_types.specs.declared.asks.Refused.{Refused}
use Rattle.ang_typed.specs.declared.program.TypedParameter.{TypedParameter}
use Rattle.ang_typed.specs.Typed as t
use Rattle.ang_names_known.specs.declared.names.ScriptConstructor.{ScriptConstructor}
use Rattle.ang_names_known.specs.declared.names.Family.{Family}
use Rattle.ang_names_known.specs.declared.names.ScriptMethod.{ScriptMethod}
use Rattle.ang_names_known.specs.declared.names.Names.{Names}
use Rattle.ang_names_known.specs.declared.names.ScriptFunction.{ScriptFunction}
use Rattle.ang_names_known.specs.declared.names.ScriptGlobal.{ScriptGlobal}
use Rattle.ang_names_listed.specs.Sources.{Source}
use Rattle.ang_names_listed.specs.Declarations.{declarations_of, families_of}
use Rattle.ang_names_classes.specs.Headings.{signatures_of}
use Rattle.ang_names_classes.specs.Resolved.{functions_in, families_in, names_of, space_of_declared}
use Rattle.ang_check_operators.specs.Refusals.{Typing}
use Rattle.ang_check.specs.Typing.{Base, typed_parameters, function_typing, method_body_typing, constructor_typing, global_typing}
use Rattle.ang_check.specs.Bodies.{Part, a_function, a_global, a_method, a_constructor, a_default, parts_of, Judgement, of_function, of_global, of_member, of_default, context_in, within_of, base_of, base_name, judged_function, judged_global, method_at, judged_method, constructor_at, judged_constructor, judged, judgements, refusal_in, function_given, member_given, global_given, body_refusals, program_of, HasMethodBody, HasConstructorBody, HasBodies}
use Rattle.ang_check_sound.specs.Checked.{NumberedBody, with_this, bodies_of, body_parameters, HasNames}
use Rattle.ang_check_sound.proofs.Bodies.{IsOf, IsGlobal, function_declared, method_declared, constructor_declared, global_declared}
use Rattle.ang_check_sound.proofs.Members.{number_of, IsMethod, IsConstructor, AreNumbered, IsMethodWritten, IsConstructorWritten}
use Rattle.ang_check_sound.proofs.Numbers.{has_number, bodies_counted, method_numbered, constructor_numbered, HoldsIn, every_body, found}
use Rattle.ang_check_sound.proofs.Parts.{total_of, IsFamilyWritten, HasParts, names_have_parts}
use Rattle.ang_check_sound.proofs.Places.{Behind, all_left, next_item, next_left, EachFrom, at_number, all_of_each, in_second}

-- ---- judgements without refusals

pub none_behind : (xs ys : List Judgement) → filter_map refusal_in (xs ++ ys) ≡ [] → filter_map refusal_in ys ≡ []
none_behind [] ys e = e
none_behind (x ∷ xs) ys e = none_behind xs ys (behind_first (refusal_in x) (filter_map refusal_in (xs ++ ys)) e)
  where
    behind_first : (o : Option Refused) (rs : List Refused) → cons_option o rs ≡ [] → rs ≡ []
    behind_first None rs e = e
    behind_first (Some r) rs e = cc

each_has : {A : Type 0} (P : A → Type 0) (xs : List A) (x : A) → Every P xs → Contains xs x → P x
each_has P xs x h c = subst P c.2 (all_of_each P xs h c.0 x c.1)

-- ---- what the parts give, over a view and names

module _ (V : RegistrationList) (names : Names) where
  abbrev pub J : List Part → List Judgement
  J ps = flat_map (judged V names) ps

  -- ---- functions and globals

  abbrev IsFunctionAt : ℕ → t.TypedFunction → Type 0
  IsFunctionAt n h = (f : ScriptFunction) × (slice_get names.functions n ≡ Some f) × IsOf (typed_parameters f) f.result.ty h

  abbrev IsGlobalAt : ℕ → t.Global → Type 0
  IsGlobalAt n x = (g : ScriptGlobal) × (slice_get names.globals n ≡ Some g) × IsGlobal g x

  -- a body of this number is listed
  abbrev IsListed : ℕ → t.TypedFunction → Type 0
  IsListed j h = list_any (has_number (number_of V names j)) (bodies_of names) ≡ true

  -- what these judgements give, where i functions, g globals and j bodies of members stand before them
  record Given (total i g j : ℕ) (js : List Judgement) : Type 0 where
    functions : EachFrom IsFunctionAt i (filter_map function_given js)
    function_count : i + length (filter_map function_given js) ≡ length names.functions
    globals : EachFrom IsGlobalAt g (filter_map global_given js)
    global_count : g + length (filter_map global_given js) ≡ length names.globals
    members : EachFrom IsListed j (filter_map member_given js)
    member_count : j + length (filter_map member_given js) ≡ total

  abbrev Clean : List Judgement → Type 0
  Clean js = filter_map refusal_in js ≡ []

  function_more : (total i g j : ℕ) (text : List ℕ) (f : ScriptFunction) (x : Typing t.TypedFunction) (js : List Judgement)
      → slice_get names.functions i ≡ Some f → IfOk x (IsOf (typed_parameters f) f.result.ty) → Clean (of_function text x ∷ js)
      → Given total (i + 1) g j js → Given total i g j (of_function text x ∷ js)
  function_more total i g j text f (Ok h) js at is e r = record {
    functions = ((f, at, is), r.functions);
    function_count = let n = length (filter_map function_given js) in
        let was : i + 1 + n ≡ length names.functions = r.function_count in let goal : i + suc n ≡ length names.functions = omega arith in goal;
    globals = r.globals;
    global_count = r.global_count;
    members = r.members;
    member_count = r.member_count;
  }
  function_more total i g j text f (Err why) js at is e r = cc

  global_more : (total i g j : ℕ) (text : List ℕ) (f : ScriptGlobal) (x : Typing t.Global) (js : List Judgement)
      → slice_get names.globals g ≡ Some f → IfOk x (IsGlobal f) → Clean (of_global text x ∷ js)
      → Given total i (g + 1) j js → Given total i g j (of_global text x ∷ js)
  global_more total i g j text f (Ok h) js at is e r = record {
    functions = r.functions;
    function_count = r.function_count;
    globals = ((f, at, is), r.globals);
    global_count = let n = length (filter_map global_given js) in
        let was : g + 1 + n ≡ length names.globals = r.global_count in let goal : g + suc n ≡ length names.globals = omega arith in goal;
    members = r.members;
    member_count = r.member_count;
  }
  global_more total i g j text f (Err why) js at is e r = cc

  member_more : (total i g j : ℕ) (text : List ℕ) (x : Typing t.TypedFunction) (js : List Judgement)
      → list_any (has_number (number_of V names j)) (bodies_of names) ≡ true → Clean (of_member text x ∷ js)
      → Given total i g (j + 1) js → Given total i g j (of_member text x ∷ js)
  member_more total i g j text (Ok h) js listed e r = record {
    functions = r.functions;
    function_count = r.function_count;
    globals = r.globals;
    global_count = r.global_count;
    members = (listed, r.members);
    member_count = let n = length (filter_map member_given js) in
        let was : j + 1 + n ≡ total = r.member_count in let goal : j + suc n ≡ total = omega arith in goal;
  }
  member_more total i g j text (Err why) js listed e r = cc

  default_more : (total i g j : ℕ) (text : List ℕ) (x : Typing Base) (js : List Judgement) → Clean (of_default text x ∷ js)
      → Given total i g j js → Given total i g j (of_default text x ∷ js)
  default_more total i g j text (Ok b) js e r = record {
    functions = r.functions;
    function_count = r.function_count;
    globals = r.globals;
    global_count = r.global_count;
    members = r.members;
    member_count = r.member_count;
  }
  default_more total i g j text (Err why) js e r = cc

  by_function : (total i g j : ℕ) (text : List ℕ) (x : Token) (b : Body) (o : Option ScriptFunction) (f : ScriptFunction) (js : List Judgement)
      → slice_get names.functions i ≡ o → o ≡ Some f → Clean (judged_function V names text x b o ++ js)
      → Given total (i + 1) g j js → Given total i g j (judged_function V names text x b o ++ js)
  by_function total i g j text x b None f js at e clean r = cc
  by_function total i g j text x b (Some h) f js at e clean r =
      function_more total i g j text h (function_typing (context_in V names text None) h x b) js at
      (function_declared (context_in V names text None) h x b) clean r

  by_global : (total i g j : ℕ) (text : List ℕ) (y : TypeName) (init : Init) (o : Option ScriptGlobal) (f : ScriptGlobal) (js : List Judgement)
      → slice_get names.globals g ≡ o → o ≡ Some f → Clean (judged_global V names text y init o ++ js)
      → Given total i (g + 1) j js → Given total i g j (judged_global V names text y init o ++ js)
  by_global total i g j text y init None f js at e clean r = cc
  by_global total i g j text y init (Some h) f js at e clean r =
      global_more total i g j text h (global_typing (context_in V names text None) h y init) js at
      (global_declared (context_in V names text None) h y init) clean r

  -- what a number of a family has
  family_method : (c m : ℕ) (o : Option Family) (y : ScriptMethod) → slice_get names.families c ≡ o
      → option_and_then (λ (f : Family). slice_get f.methods m) o ≡ Some y
      → (f : Family) × (slice_get names.families c ≡ Some f) × (slice_get f.methods m ≡ Some y)
  family_method c m None y is e = cc
  family_method c m (Some f) y is e = (f, is, e)

  family_constructor : (c m : ℕ) (o : Option Family) (y : ScriptConstructor) → slice_get names.families c ≡ o
      → option_and_then (λ (f : Family). slice_get f.constructors m) o ≡ Some y
      → (f : Family) × (slice_get names.families c ≡ Some f) × (slice_get f.constructors m ≡ Some y)
  family_constructor c m None y is e = cc
  family_constructor c m (Some f) y is e = (f, is, e)

  method_listed : (j c m : ℕ) (text : List ℕ) (x : Token) → IsMethod V names j c m text x
      → list_any (has_number (number_of V names j)) (bodies_of names) ≡ true
  method_listed j c m text x h =
      let there = family_method c m (slice_get names.families c) h.method refl h.there in
      method_numbered names (number_of V names j) c m there.0 h.method there.1 there.2 h.body

  constructor_listed : (j c m : ℕ) (text : List ℕ) (x : Token) → IsConstructor V names j c m text x
      → list_any (has_number (number_of V names j)) (bodies_of names) ≡ true
  constructor_listed j c m text x h =
      let there = family_constructor c m (slice_get names.families c) h.constructor refl h.there in
      constructor_numbered names (number_of V names j) c m there.0 h.constructor there.1 there.2 h.body

  by_method : (total i g j c : ℕ) (text : List ℕ) (x : Token) (b : Body) (o : Option ScriptMethod) (y : ScriptMethod) (js : List Judgement) → o ≡ Some y
      → list_any (has_number (number_of V names j)) (bodies_of names) ≡ true → Clean (judged_method V names c text x b o ++ js)
      → Given total i g (j + 1) js → Given total i g j (judged_method V names c text x b o ++ js)
  by_method total i g j c text x b None y js e listed clean r = cc
  by_method total i g j c text x b (Some z) y js e listed clean r =
      let w = within_of V names c z.read_only in
      member_more total i g j text (method_body_typing (context_in V names text (Some w)) w z.function x b) js listed clean r

  by_constructor : (total i g j c : ℕ) (text : List ℕ) (x base : Token) (bn : Option ℕ) (u : Option SuperTree) (ss : Stmts) (close : Token) (o : Option ScriptConstructor) (y : ScriptConstructor)
      (js : List Judgement) → o ≡ Some y → list_any (has_number (number_of V names j)) (bodies_of names) ≡ true
      → Clean (judged_constructor V names c text x base bn u ss close o ++ js)
      → Given total i g (j + 1) js → Given total i g j (judged_constructor V names c text x base bn u ss close o ++ js)
  by_constructor total i g j c text x base bn u ss close None y js e listed clean r = cc
  by_constructor total i g j c text x base bn u ss close (Some z) y js e listed clean r =
      let w = within_of V names c false in
      member_more total i g j text (constructor_typing (context_in V names text (Some w)) w z.function x base bn u ss close) js listed clean r

  all_given : (total i g j : ℕ) (ps : List Part) → AreNumbered V names total i g j ps → Clean (J ps) → Given total i g j (J ps)
  all_given total i g j [] h clean = record {
    functions = tt;
    function_count = let e : length names.functions ≡ i = h.0 in let goal : i + 0 ≡ length names.functions = omega arith in goal;
    globals = tt;
    global_count = let e : length names.globals ≡ g = h.1 in let goal : g + 0 ≡ length names.globals = omega arith in goal;
    members = tt;
    member_count = let e : total ≡ j = h.2 in let goal : j + 0 ≡ total = omega arith in goal;
  }
  all_given total i g j (a_function n text x b ∷ ps) h clean =
      let at : slice_get names.functions i ≡ slice_get names.functions n = ap (slice_get names.functions) (sym h.0) in
      by_function total i g j text x b (slice_get names.functions n) h.1.0 (J ps) at h.1.1 clean
      (all_given total (i + 1) g j ps h.2 (none_behind (judged V names (a_function n text x b)) (J ps) clean))
  all_given total i g j (a_global n text y init ∷ ps) h clean =
      let at : slice_get names.globals g ≡ slice_get names.globals n = ap (slice_get names.globals) (sym h.0) in
      by_global total i g j text y init (slice_get names.globals n) h.1.0 (J ps) at h.1.1 clean
      (all_given total i (g + 1) j ps h.2 (none_behind (judged V names (a_global n text y init)) (J ps) clean))
  all_given total i g j (a_method c m text x b ∷ ps) h clean =
      by_method total i g j c text x b (method_at V names c m) h.0.method (J ps) h.0.there (method_listed j c m text x h.0) clean
      (all_given total i g (j + 1) ps h.1 (none_behind (judged V names (a_method c m text x b)) (J ps) clean))
  all_given total i g j (a_constructor c m text x own bases u ss close ∷ ps) h clean =
      by_constructor total i g j c text x (base_name V names c text own bases) (base_of V names c) u ss close (constructor_at V names c m) h.0.constructor (J ps)
      h.0.there (constructor_listed j c m text x h.0) clean
      (all_given total i g (j + 1) ps h.1 (none_behind (judged V names (a_constructor c m text x own bases u ss close)) (J ps) clean))
  all_given total i g j (a_default c text x bases ∷ ps) h clean =
      default_more total i g j text _ (J ps) clean
      (all_given total i g j ps h.1 (none_behind (judged V names (a_default c text x bases)) (J ps) clean))

  -- ---- each body of a member at its number

  -- of all functions and of the bodies of members
  module _ (functions members : List t.TypedFunction) (functions_first : length functions ≡ length names.functions) where
    -- The body of this part was typed, and is at the number that it has.
    abbrev Sits : Part → Type 0
    Sits (a_function n text x b) = Unit {0}
    Sits (a_global n text y i) = Unit {0}
    Sits (a_method c m text x b) =
        (y : ScriptMethod) × (h : t.TypedFunction) × (k : ℕ) × (method_at V names c m ≡ Some y)
        × (method_body_typing (context_in V names text (Some (within_of V names c y.read_only))) (within_of V names c y.read_only) y.function x b ≡ Ok h)
        × (y.body ≡ Some k) × (slice_get (functions ++ members) k ≡ Some h)
    Sits (a_constructor c m text x own bases u ss close) =
        (y : ScriptConstructor) × (h : t.TypedFunction) × (constructor_at V names c m ≡ Some y)
        × (constructor_typing (context_in V names text (Some (within_of V names c false))) (within_of V names c false) y.function x
        (base_name V names c text own bases) (base_of V names c) u ss close ≡ Ok h)
        × (slice_get (functions ++ members) y.body ≡ Some h)
    Sits (a_default c text x bases) = Unit {0}

    -- the typing of a member that comes next
    next_member : (j : ℕ) (text : List ℕ) (x : Typing t.TypedFunction) (js : List Judgement) → Clean (of_member text x ∷ js)
        → Behind t.TypedFunction j members (filter_map member_given (of_member text x ∷ js))
        → (h : t.TypedFunction) × (x ≡ Ok h) × (slice_get (functions ++ members) (number_of V names j) ≡ Some h)
        × Behind t.TypedFunction (j + 1) members (filter_map member_given js)
    next_member j text (Ok h) js clean b = (
      h,
      refl,
      in_second functions members (length names.functions) j h functions_first (next_item j members h (filter_map member_given js) b),
      next_left j members h (filter_map member_given js) b,
    )
    next_member j text (Err why) js clean b = cc

    -- a list of one judgement that is no member's
    no_function : (text : List ℕ) (x : Token) (b : Body) (o : Option ScriptFunction) (js : List Judgement)
        → filter_map member_given (judged_function V names text x b o ++ js) ≡ filter_map member_given js
    no_function text x b None js = refl
    no_function text x b (Some f) js = refl

    no_global : (text : List ℕ) (y : TypeName) (i : Init) (o : Option ScriptGlobal) (js : List Judgement)
        → filter_map member_given (judged_global V names text y i o ++ js) ≡ filter_map member_given js
    no_global text y i None js = refl
    no_global text y i (Some g) js = refl

    all_sit : (total i g j : ℕ) (ps : List Part) → AreNumbered V names total i g j ps → Clean (J ps)
        → Behind t.TypedFunction j members (filter_map member_given (J ps)) → Every Sits ps
    all_sit total i g j [] h clean b = tt
    all_sit total i g j (a_function n text x code ∷ ps) h clean b = (
      tt,
      all_sit total (i + 1) g j ps h.2 (none_behind (judged V names (a_function n text x code)) (J ps) clean)
          (subst (Behind t.TypedFunction j members) (no_function text x code (slice_get names.functions n) (J ps)) b),
    )
    all_sit total i g j (a_global n text y init ∷ ps) h clean b = (
      tt,
      all_sit total i (g + 1) j ps h.2 (none_behind (judged V names (a_global n text y init)) (J ps) clean)
          (subst (Behind t.TypedFunction j members) (no_global text y init (slice_get names.globals n) (J ps)) b),
    )
    all_sit total i g j (a_method c m text x code ∷ ps) h clean b =
        let y = h.0.method in
        let w = within_of V names c y.read_only in
        let typing = method_body_typing (context_in V names text (Some w)) w y.function x code in
        let js : List Judgement = of_member text typing ∷ J ps in
        let same : J (a_method c m text x code ∷ ps) ≡ js = ap (λ (o : Option ScriptMethod). judged_method V names c text x code o ++ J ps) h.0.there in
        let next = next_member j text typing (J ps) (subst Clean same clean)
        (subst (λ (l : List Judgement). Behind t.TypedFunction j members (filter_map member_given l)) same b) in (
          (y, next.0, number_of V names j, h.0.there, next.1, h.0.body, next.2),
          all_sit total i g (j + 1) ps h.1 (none_behind (judged V names (a_method c m text x code)) (J ps) clean) next.3,
        )
    all_sit total i g j (a_constructor c m text x own bases u ss close ∷ ps) h clean b =
        let y = h.0.constructor in
        let w = within_of V names c false in
        let base = base_name V names c text own bases in
        let typing = constructor_typing (context_in V names text (Some w)) w y.function x base (base_of V names c) u ss close in
        let js : List Judgement = of_member text typing ∷ J ps in
        let same : J (a_constructor c m text x own bases u ss close ∷ ps) ≡ js =
        ap (λ (o : Option ScriptConstructor). judged_constructor V names c text x base (base_of V names c) u ss close o ++ J ps) h.0.there in
        let next = next_member j text typing (J ps) (subst Clean same clean)
        (subst (λ (l : List Judgement). Behind t.TypedFunction j members (filter_map member_given l)) same b) in (
          (y, next.0, h.0.there, next.1, subst (λ k. slice_get (functions ++ members) k ≡ Some next.0) (sym h.0.body) next.2),
          all_sit total i g (j + 1) ps h.1 (none_behind (judged V names (a_constructor c m text x own bases u ss close)) (J ps) clean) next.3,
        )
    all_sit total i g j (a_default c text x bases ∷ ps) h clean b = (
      tt,
      all_sit total i g j ps h.1 (none_behind (judged V names (a_default c text x bases)) (J ps) clean) b,
    )

-- ---- lists that are alike

same_by_place : {A B C : Type 0} (f : A → C) (g : B → C) (all : List B) (n : ℕ) (xs : List A) (ys : List B) → Behind B n all ys
    → EachFrom (λ k x. (y : B) × (slice_get all k ≡ Some y) × (f x ≡ g y)) n xs → length xs ≡ length ys → map f xs ≡ map g ys
same_by_place f g all n [] [] b h e = refl
same_by_place f g all n [] (y ∷ ys) b h e = cc
same_by_place f g all n (x ∷ xs) [] b h e = cc
same_by_place f g all n (x ∷ xs) (y ∷ ys) b h e =
    let is = same_Some h.0.0 y (sym h.0.1 ∙ next_item n all y ys b) in
    let less : length xs ≡ length ys = cc in
    ap (λ c. c ∷ map f xs) (h.0.2 ∙ ap g is) ∙ ap (λ cs. g y ∷ cs) (same_by_place f g all (n + 1) xs ys (next_left n all y ys b) h.1 less)

each_other : {A : Type 0} (P Q : ℕ → A → Type 0) (n : ℕ) (xs : List A) → ((k : ℕ) (x : A) → P k x → Q k x) → EachFrom P n xs → EachFrom Q n xs
each_other P Q n [] go h = tt
each_other P Q n (x ∷ xs) go h = (go n x h.0, each_other P Q (n + 1) xs go h.1)

each_at_place : {A : Type 0} (P : ℕ → A → Type 0) (all : List A) (n : ℕ) (xs : List A) → Behind A n all xs
    → ((k : ℕ) (x : A) → slice_get all k ≡ Some x → P k x) → EachFrom P n xs
each_at_place P all n [] b go = tt
each_at_place P all n (x ∷ xs) b go = (go n x (next_item n all x xs b), each_at_place P all (n + 1) xs (next_left n all x xs b) go)

ranged : (B : ℕ → List TypedParameter) (first j : ℕ) (xs : List t.TypedFunction) → EachFrom (λ k (h : t.TypedFunction). B (first + k) ≡ h.parameters) j xs
    → map (λ (h : t.TypedFunction). h.parameters) xs ≡ map B (range_with_len (first + j) (length xs))
ranged B first j [] h = refl
ranged B first j (x ∷ xs) h =
    let next : first + (j + 1) ≡ first + j + 1 = omega arith in
    ap (λ ps. ps ∷ map (λ (h : t.TypedFunction). h.parameters) xs) (sym h.0)
    ∙ ap (λ rest. B (first + j) ∷ rest) (ranged B first (j + 1) xs h.1 ∙ ap (λ k. map B (range_with_len k (length xs))) next)

take_front : {A : Type 0} (xs ys : List A) → take (length xs) (xs ++ ys) ≡ xs
take_front [] ys = refl
take_front (x ∷ xs) ys = ap (λ zs. x ∷ zs) (take_front xs ys)

-- ---- what the names declare

-- Over a view, names and sources, of functions and bodies of members that are given:
module _ (V : RegistrationList) (names : Names) (sources : List Source) (p : t.Program) (functions members : List t.TypedFunction)
    (tree : p.functions ≡ functions ++ members) (count : length functions ≡ length names.functions) (has : HasParts V names sources)
    (sit : Every (Sits V names functions members count) (parts_of sources)) where
  at_tree : (k : ℕ) (h : t.TypedFunction) → slice_get (functions ++ members) k ≡ Some h → slice_get p.functions k ≡ Some h
  at_tree k h e = ap (λ fs. slice_get fs k) tree ∙ e

  method_is : (c m k : ℕ) (x : ScriptMethod) → method_at V names c m ≡ Some x → x.body ≡ Some k → HasMethodBody V names sources p c m k x
  method_is c m k x e body =
      let family = family_method V names c m (slice_get names.families c) x refl e in
      let written = at_number (IsFamilyWritten (parts_of sources)) c names.families family.0 has.written family.1 in
      let part = at_number (IsMethodWritten (parts_of sources) c) m family.0.methods x written.methods family.2 k body in
      let s = each_has (Sits V names functions members count) (parts_of sources) (a_method c m part.text part.name part.tree) sit part.written in
      let same : s.0 ≡ x = same_Some s.0 x (sym s.3 ∙ e) in
      let number : s.2 ≡ k = same_Some s.2 k (sym s.5 ∙ ap (λ (y : ScriptMethod). y.body) same ∙ body) in
      record {
        text = part.text;
        name = part.name;
        tree = part.tree;
        written = part.written;
        typed = subst (λ (y : ScriptMethod). (h : t.TypedFunction)
            × (method_body_typing (context_in V names part.text (Some (within_of V names c y.read_only))) (within_of V names c y.read_only) y.function part.name part.tree ≡ Ok h)
            × (slice_get p.functions k ≡ Some h)) same (s.1, s.4, subst (λ n. slice_get p.functions n ≡ Some s.1) number (at_tree s.2 s.1 s.6));
      }

  constructor_is : (c m : ℕ) (x : ScriptConstructor) → constructor_at V names c m ≡ Some x → HasConstructorBody V names sources p c m x
  constructor_is c m x e =
      let family = family_constructor V names c m (slice_get names.families c) x refl e in
      let written = at_number (IsFamilyWritten (parts_of sources)) c names.families family.0 has.written family.1 in
      let part = at_number (IsConstructorWritten (parts_of sources) c) m family.0.constructors x written.constructors family.2 in
      let s = each_has (Sits V names functions members count) (parts_of sources)
      (a_constructor c m part.text part.name part.own part.bases part.super part.tree part.close) sit part.written in
      let same : s.0 ≡ x = same_Some s.0 x (sym s.2 ∙ e) in
      record {
        text = part.text;
        name = part.name;
        own = part.own;
        bases = part.bases;
        super = part.super;
        tree = part.tree;
        close = part.close;
        written = part.written;
        typed = subst (λ (y : ScriptConstructor). (h : t.TypedFunction)
            × (constructor_typing (context_in V names part.text (Some (within_of V names c false))) (within_of V names c false) y.function part.name
            (base_name V names c part.text part.own part.bases) (base_of V names c) part.super part.tree part.close ≡ Ok h)
            × (slice_get p.functions y.body ≡ Some h)) same (s.1, s.3, at_tree s.0.body s.1 s.4);
      }

  has_bodies : HasBodies V names sources p
  has_bodies = record { methods = method_is; constructors = constructor_is }

  -- The function of a body's number has its parameters.
  abbrev HasParameters : NumberedBody → Type 0
  HasParameters b = (h : t.TypedFunction) × (slice_get (functions ++ members) b.0 ≡ Some h) × (h.parameters ≡ b.1)

  typed_as : (ps : List TypedParameter) (x : Typing t.TypedFunction) (h : t.TypedFunction) → x ≡ Ok h → IfOk x (λ g. g.parameters ≡ ps) → h.parameters ≡ ps
  typed_as ps x h e is = subst (λ y. IfOk y (λ (g : t.TypedFunction). g.parameters ≡ ps)) e is

  only_parameters : (ps : List TypedParameter) (ty : ArgType) (x : Typing t.TypedFunction) → IfOk x (IsOf ps ty) → IfOk x (λ g. g.parameters ≡ ps)
  only_parameters ps ty (Ok h) is = is.parameters
  only_parameters ps ty (Err why) is = tt

  in_tree : (k : ℕ) (h : t.TypedFunction) → slice_get p.functions k ≡ Some h → slice_get (functions ++ members) k ≡ Some h
  in_tree k h e = ap (λ fs. slice_get fs k) (sym tree) ∙ e

  family_holds : (c : ℕ) (f : Family) → slice_get names.families c ≡ Some f → HoldsIn HasParameters c f
  family_holds c f e = record {
    methods = λ m y at k body.
        let b = method_is c m k y (ap (option_and_then (λ (g : Family). slice_get g.methods m)) e ∙ at) body in
        let w = within_of V names c y.read_only in
        let typing = method_body_typing (context_in V names b.text (Some w)) w y.function b.name b.tree in (
          b.typed.0,
          in_tree k b.typed.0 b.typed.2,
          typed_as (with_this w y.function) typing b.typed.0 b.typed.1
              (only_parameters (with_this w y.function) y.function.result.ty typing (method_declared (context_in V names b.text (Some w)) w y.function b.name b.tree)),
        );
    constructors = λ m y at.
        let b = constructor_is c m y (ap (option_and_then (λ (g : Family). slice_get g.constructors m)) e ∙ at) in
        let w = within_of V names c false in
        let base = base_name V names c b.text b.own b.bases in
        let typing = constructor_typing (context_in V names b.text (Some w)) w y.function b.name base (base_of V names c) b.super b.tree b.close in (
          b.typed.0,
          in_tree y.body b.typed.0 b.typed.2,
          typed_as (with_this w y.function) typing b.typed.0 b.typed.1
              (constructor_declared (context_in V names b.text (Some w)) w y.function b.name base (base_of V names c) b.super b.tree b.close),
        );
  }

  parameters_at : (k : ℕ) (h : t.TypedFunction) → list_any (has_number k) (bodies_of names) ≡ true → slice_get (functions ++ members) k ≡ Some h
      → body_parameters names k ≡ h.parameters
  parameters_at k h listed e =
      let b = found (has_number k) HasParameters (bodies_of names) listed (every_body HasParameters names family_holds) in
      let number : b.0.0 ≡ k = eqb-true b.0.0 k b.2 in
      let there : slice_get (functions ++ members) k ≡ Some b.3.0 = subst (λ n. slice_get (functions ++ members) n ≡ Some b.3.0) number b.3.1 in
      let same : b.3.0 ≡ h = same_Some b.3.0 h (sym there ∙ e) in
      ap (λ (o : Option NumberedBody). unwrap_or (option_map (λ (c : NumberedBody). c.1) o) []) b.1 ∙ sym b.3.2 ∙ ap (λ (g : t.TypedFunction). g.parameters) same

-- how many bodies the names have
total_is : (V : RegistrationList) (sources : List Source) → length (bodies_of (names_of V (declarations_of sources))) ≡ total_of sources
unfolding names_of families_in
total_is V sources =
    let ds = declarations_of sources in
    let E = space_of_declared V ds in
    bodies_counted E (signatures_of E (families_of ds)) (families_of ds) (length (functions_in E ds)) [] [] (families_of ds)

pub has_names : (V : RegistrationList) (names : Names) (sources : List Source) → names ≡ names_of V (declarations_of sources)
    → body_refusals V names sources ≡ [] → HasNames V names sources (program_of V names sources)
unfolding judgements body_refusals program_of
has_names V names sources e none =
    let parts = parts_of sources in
    let js = J V names parts in
    let functions = filter_map function_given js in
    let members = filter_map member_given js in
    let globals = filter_map global_given js in
    let p = program_of V names sources in
    let has = names_have_parts V names sources e in
    let total = total_of sources in
    let given = all_given V names total 0 0 0 parts has.numbered none in
    let count : length functions ≡ length names.functions = let c = given.function_count in omega (arith, c) in
    let global_count : length globals ≡ length names.globals = let c = given.global_count in omega (arith, c) in
    let member_count : length members ≡ total = let c = given.member_count in omega (arith, c) in
    let sit = all_sit V names functions members count total 0 0 0 parts has.numbered none (all_left members) in
    let own : map (λ (h : t.TypedFunction). h.parameters) functions ≡ map typed_parameters names.functions =
    same_by_place (λ (h : t.TypedFunction). h.parameters) typed_parameters names.functions 0 functions names.functions (all_left names.functions)
    (each_other (IsFunctionAt V names) (λ k h. (f : ScriptFunction) × (slice_get names.functions k ≡ Some f) × (h.parameters ≡ typed_parameters f)) 0 functions
    (λ k h i. (i.0, i.1, i.2.parameters)) given.functions) count in
    let bodies : map (λ (h : t.TypedFunction). h.parameters) members
    ≡ map (body_parameters names) (range_with_len (length names.functions) (length (bodies_of names))) =
    let start : length names.functions + 0 ≡ length names.functions = omega arith in
    let many : length members ≡ length (bodies_of names) =
    member_count ∙ sym (total_is V sources) ∙ ap (λ (m : Names). length (bodies_of m)) (sym e) in
    ranged (body_parameters names) (length names.functions) 0 members
    (each_at_place (λ k (h : t.TypedFunction). body_parameters names (length names.functions + k) ≡ h.parameters) members 0 members (all_left members)
    (λ k h i. parameters_at V names sources p functions members refl count has sit (length names.functions + k) h
    (at_number (IsListed V names) k members h given.members i) (in_second functions members (length names.functions) k h count i)))
    ∙ ap (λ n. map (body_parameters names) (range_with_len n (length members))) start
    ∙ ap (λ n. map (body_parameters names) (range_with_len (length names.functions) n)) many in
    let results : map (λ (h : t.TypedFunction). h.result) functions ≡ map (λ (f : ScriptFunction). f.result.ty) names.functions =
    same_by_place (λ (h : t.TypedFunction). h.result) (λ (f : ScriptFunction). f.result.ty) names.functions 0 functions names.functions (all_left names.functions)
    (each_other (IsFunctionAt V names) (λ k h. (f : ScriptFunction) × (slice_get names.functions k ≡ Some f) × (h.result ≡ f.result.ty)) 0 functions
    (λ k h i. (i.0, i.1, i.2.result)) given.functions) count in
    let as_many : length names.functions ≡ length (map (λ (h : t.TypedFunction). h.result) functions) = sym count ∙ sym (length-map functions (λ (h : t.TypedFunction). h.result)) in
    record {
      parameters = map-append (λ (h : t.TypedFunction). h.parameters) functions members
          ∙ ap (λ ps. ps ++ map (λ (h : t.TypedFunction). h.parameters) members) own ∙ ap (λ ps. map typed_parameters names.functions ++ ps) bodies;
      results = ap (take (length names.functions)) (map-append (λ (h : t.TypedFunction). h.result) functions members)
          ∙ ap (λ n. take n (map (λ (h : t.TypedFunction). h.result) functions ++ map (λ (h : t.TypedFunction). h.result) members)) as_many
          ∙ take_front (map (λ (h : t.TypedFunction). h.result) functions) (map (λ (h : t.TypedFunction). h.result) members) ∙ results;
      types = same_by_place (λ (x : t.Global). x.ty) (λ (g : ScriptGlobal). g.written.ty) names.globals 0 globals names.globals (all_left names.globals)
          given.globals global_count;
      bodies = has_bodies V names sources p functions members refl count has sit;
    }

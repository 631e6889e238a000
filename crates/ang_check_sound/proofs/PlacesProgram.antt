-- In a resolved tree each body's places are those that its part was given, so all of its names and statements stand in sections.
use Rattle.std.specs.Prelude.{◌≡◌, ℕ, zero, suc, ◌+◌, false, ◌||◌, length, List, [], ◌∷◌, ◌++◌, map, option_and_then, Option, Some, None, Ok, Err, IfOk, slice_get}
use Rattle.std.specs.List.{cons_option, filter_map, flat_map}
use Rattle.std.proofs.Common.{refl, ap, sym, ◌∙◌, subst, arith}
use Rattle.std.proofs.lemmas.Option.{same_Some}
use Rattle.ang_lex.specs.declared.token.Token.{Token}
use Rattle.ang_view.specs.Registration.{RegistrationList}
use Rattle.ang_tree.specs.declared.type_name.TypeName.{TypeName}
use Rattle.ang_tree.specs.Declarations.{SuperTree}
use Rattle.ang_tree.specs.Stmt.{Init, Body, Stmts, Every}
use Rattle.ang_typed.specs.Typed as t
use Rattle.ang_names_known.specs.declared.names.ScriptConstructor.{ScriptConstructor}
use Rattle.ang_names_known.specs.declared.names.Family.{Family}
use Rattle.ang_names_known.specs.declared.names.ScriptMethod.{ScriptMethod}
use Rattle.ang_names_known.specs.declared.names.Names.{Names}
use Rattle.ang_names_known.specs.declared.names.ScriptFunction.{ScriptFunction}
use Rattle.ang_names_known.specs.declared.names.ScriptGlobal.{ScriptGlobal}
use Rattle.ang_names_known.specs.Spaces.{Space}
use Rattle.ang_names_listed.specs.Sources.{Source}
use Rattle.ang_names_listed.specs.declared.listed.ListedDeclaration.{ListedDeclaration}
use Rattle.ang_names_listed.specs.declared.listed.Part.TheVariants as listed
use Rattle.ang_names_listed.specs.declared.listed.Part as listing
use Rattle.ang_names_listed.specs.Declarations.{declarations_of}
use Rattle.ang_names_classes.specs.Resolved.{global_by, global_of, names_of, space_of_declared}
use Rattle.ang_check_context.specs.declared.scope.Within.{Within}
use Rattle.ang_check_context.specs.Scope.{BodyContext}
use Rattle.ang_check_operators.specs.Refusals.{Typing}
use Rattle.ang_check_stmt.specs.Paths.{body_ends}
use Rattle.ang_check_stmt.specs.Positions.{inner_positions}
use Rattle.ang_check_stmt.specs.Typing.{block_typing, stmts_typing}
use Rattle.ang_check.specs.Positions.{constructor_positions}
use Rattle.ang_check.specs.Typing.{Base, parameter_local, this_local, frame_of, function_typing, method_body_typing, base_typing, maker_frame, constructor_typing}
use Rattle.ang_types.specs.ArgTypes.{is_void}
use Rattle.ang_check.specs.Bodies.{Part, a_function, a_global, a_method, a_constructor, a_default, parts_of, Judgement, of_function, context_in, within_of, base_of, base_name, judged_function, judged_global, method_at, judged_method, constructor_at, judged_constructor, judged, judgements, refusal_in, function_given, member_given, body_refusals, program_of}
use Rattle.ang_check_sound.specs.Parts.{IsPartOf}
use Rattle.ang_check_sound.specs.Placed.{StandsIn, ArePlaced}
use Rattle.ang_check_sound.proofs.Items.{every_at}
use Rattle.ang_check_sound.proofs.Judged.{holds, either_holds, any}
use Rattle.ang_check_sound.proofs.Members.{AreNumbered}
use Rattle.ang_check_sound.proofs.Places.{EachFrom, at_number}
use Rattle.ang_check_sound.proofs.Parts.{total_of, names_have_parts, all_belong}
use Rattle.ang_check_sound.proofs.PlacesParts.{PartStands, NameStands, each_is, parts_stand, names_stand}
use Rattle.ang_check_sound.proofs.Program.{none_behind, has_names}

-- ---- the places that a typed body has

pub function_places : (s : BodyContext) (f : ScriptFunction) (x : Token) (b : Body)
    → IfOk (function_typing s f x b) (λ g. g.positions ≡ inner_positions b)
unfolding function_typing
function_places s f x b =
    let P : t.TypedFunction → Type 0 = λ g. g.positions ≡ inner_positions b in
    holds (λ (ss : t.Stmts). Unit {0}) P (block_typing (frame_of s f.result.ty (map parameter_local f.params)) false (map parameter_local f.params) b) _ (any _)
    (λ ss h. either_holds P (body_ends b || is_void f.result.ty) _ _ refl tt)

pub method_places : (s : BodyContext) (w : Within) (f : ScriptFunction) (x : Token) (b : Body)
    → IfOk (method_body_typing s w f x b) (λ g. g.positions ≡ inner_positions b)
unfolding method_body_typing
method_places s w f x b =
    let P : t.TypedFunction → Type 0 = λ g. g.positions ≡ inner_positions b in
    let ps = this_local w ∷ map parameter_local f.params in
    holds (λ (ss : t.Stmts). Unit {0}) P (block_typing (frame_of s f.result.ty ps) false ps b) _ (any _)
    (λ ss h. either_holds P (body_ends b || is_void f.result.ty) _ _ refl tt)

-- of a constructor: those with some body of a base class's constructor, or with none
abbrev pub IsConstructed : Token → Option SuperTree → Stmts → Token → t.TypedFunction → Type 0
IsConstructed x u ss close g = (base : Option ℕ) × (g.positions ≡ constructor_positions base x u ss close)

pub constructor_places : (s : BodyContext) (w : Within) (f : ScriptFunction) (x base : Token) (b : Option ℕ) (u : Option SuperTree) (ss : Stmts) (close : Token)
    → IfOk (constructor_typing s w f x base b u ss close) (IsConstructed x u ss close)
unfolding constructor_typing
constructor_places s w f x base b u ss close =
    let ps = this_local w ∷ map parameter_local f.params in
    holds (λ (first : Base). Unit {0}) (IsConstructed x u ss close) (base_typing s ps x base b u) _ (any _)
    (λ first h. holds (λ (xs : t.Stmts). Unit {0}) (IsConstructed x u ss close) (stmts_typing (maker_frame s w ps) false (length ps) ps ss) _ (any _)
    (λ xs k. (first.0, refl)))

-- what holds of a typing's answer
of_answer : {A : Type 0} (P : A → Type 0) (x : Typing A) (a : A) → x ≡ Ok a → IfOk x P → P a
of_answer P x a e h = subst (λ y. IfOk y P) e h

-- ---- functions by their numbers

-- the item of a list in front of others, where another list has one there too
in_front : {A B : Type 0} (xs ys : List A) (zs : List B) (n : ℕ) (a : A) (b : B) → length xs ≡ length zs → slice_get zs n ≡ Some b
    → slice_get (xs ++ ys) n ≡ Some a → slice_get xs n ≡ Some a
in_front xs ys [] n a b count there e = cc
in_front [] ys (z ∷ zs) n a b count there e = let no : ⊥ = omega (arith, count) in absurd no
in_front (x ∷ xs) ys (z ∷ zs) zero a b count there e = e
in_front (x ∷ xs) ys (z ∷ zs) (suc n) a b count there e =
    let fewer : length xs ≡ length zs = omega (arith, count) in in_front xs ys zs n a b fewer there e

-- Over a view, names and sections:
module _ (V : RegistrationList) (names : Names) (sources : List Source) where
  abbrev FunctionStands : ℕ → t.TypedFunction → Type 0
  FunctionStands n g = (f : ScriptFunction) × (slice_get names.functions n ≡ Some f) × StandsIn sources f.place g.positions

  -- the functions that are given, where i stand before them
  record Stand (i : ℕ) (gs : List t.TypedFunction) : Type 0 where
    each : EachFrom FunctionStands i gs
    count : i + length gs ≡ length names.functions

  abbrev Clean : List Judgement → Type 0
  Clean js = filter_map refusal_in js ≡ []

  abbrev functions_in : List Judgement → List t.TypedFunction
  functions_in js = filter_map function_given js

  given_more : (i : ℕ) (text : List ℕ) (x : Token) (b : Body) (f : ScriptFunction) (y : Typing t.TypedFunction) (js : List Judgement)
      → slice_get names.functions i ≡ Some f → f.place ≡ x.place → StandsIn sources x.place (inner_positions b)
      → IfOk y (λ g. g.positions ≡ inner_positions b) → Clean (of_function text y ∷ js)
      → Stand (i + 1) (functions_in js) → Stand i (functions_in (of_function text y ∷ js))
  given_more i text x b f (Ok g) js at place stands is clean r = record {
    each = ((f, at, subst (λ p. StandsIn sources p g.positions) (sym place) (subst (StandsIn sources x.place) (sym is) stands)), r.each);
    count = let n = length (functions_in js) in
        let was : i + 1 + n ≡ length names.functions = r.count in let goal : i + suc n ≡ length names.functions = omega arith in goal;
  }
  given_more i text x b f (Err why) js at place stands is clean r = cc

  function_more : (i : ℕ) (text : List ℕ) (x : Token) (b : Body) (o : Option ScriptFunction) (f : ScriptFunction) (js : List Judgement)
      → slice_get names.functions i ≡ o → o ≡ Some f → f.place ≡ x.place → StandsIn sources x.place (inner_positions b)
      → Clean (judged_function V names text x b o ++ js) → Stand (i + 1) (functions_in js) → Stand i (functions_in (judged_function V names text x b o ++ js))
  function_more i text x b None f js at e place stands clean r = cc
  function_more i text x b (Some h) f js at e place stands clean r =
      let same : h ≡ f = same_Some h f e in
      given_more i text x b h (function_typing (context_in V names text None) h x b) js at (ap (λ (k : ScriptFunction). k.place) same ∙ place) stands
      (function_places (context_in V names text None) h x b) clean r

  -- other parts give no function
  global_same : (i : ℕ) (text : List ℕ) (y : TypeName) (init : Init) (o : Option ScriptGlobal) (js : List Judgement)
      → Stand i (functions_in js) → Stand i (functions_in (judged_global V names text y init o ++ js))
  global_same i text y init None js r = r
  global_same i text y init (Some g) js r = r

  method_same : (i c : ℕ) (text : List ℕ) (x : Token) (b : Body) (o : Option ScriptMethod) (js : List Judgement)
      → Stand i (functions_in js) → Stand i (functions_in (judged_method V names c text x b o ++ js))
  method_same i c text x b None js r = r
  method_same i c text x b (Some y) js r = r

  constructor_same : (i c : ℕ) (text : List ℕ) (x base : Token) (n : Option ℕ) (u : Option SuperTree) (ss : Stmts) (close : Token) (o : Option ScriptConstructor)
      (js : List Judgement) → Stand i (functions_in js) → Stand i (functions_in (judged_constructor V names c text x base n u ss close o ++ js))
  constructor_same i c text x base n u ss close None js r = r
  constructor_same i c text x base n u ss close (Some k) js r = r

  functions_stand : (total i g j : ℕ) (ps : List Part) → AreNumbered V names total i g j ps → Every (PartStands sources) ps
      → Clean (flat_map (judged V names) ps) → Stand i (functions_in (flat_map (judged V names) ps))
  functions_stand total i g j [] h all clean = record {
    each = tt;
    count = let e : length names.functions ≡ i = h.0 in let goal : i + 0 ≡ length names.functions = omega arith in goal;
  }
  functions_stand total i g j (a_function n text x b ∷ ps) h all clean =
      let js = flat_map (judged V names) ps in
      let at : slice_get names.functions i ≡ slice_get names.functions n = ap (slice_get names.functions) (sym h.0) in
      function_more i text x b (slice_get names.functions n) h.1.0 js at h.1.1 h.1.3 all.0 clean
      (functions_stand total (i + 1) g j ps h.2 all.1 (none_behind (judged V names (a_function n text x b)) js clean))
  functions_stand total i g j (a_global n text y init ∷ ps) h all clean =
      let js = flat_map (judged V names) ps in
      global_same i text y init (slice_get names.globals n) js
      (functions_stand total i (g + 1) j ps h.2 all.1 (none_behind (judged V names (a_global n text y init)) js clean))
  functions_stand total i g j (a_method c m text x b ∷ ps) h all clean =
      let js = flat_map (judged V names) ps in
      method_same i c text x b (method_at V names c m) js
      (functions_stand total i g (j + 1) ps h.1 all.1 (none_behind (judged V names (a_method c m text x b)) js clean))
  functions_stand total i g j (a_constructor c m text x own bases u ss close ∷ ps) h all clean =
      let js = flat_map (judged V names) ps in
      constructor_same i c text x (base_name V names c text own bases) (base_of V names c) u ss close (constructor_at V names c m) js
      (functions_stand total i g (j + 1) ps h.1 all.1 (none_behind (judged V names (a_constructor c m text x own bases u ss close)) js clean))
  functions_stand total i g j (a_default c text x bases ∷ ps) h all clean =
      functions_stand total i g j ps h.1 all.1 (none_behind (judged V names (a_default c text x bases)) (flat_map (judged V names) ps) clean)

  function_placed : names ≡ names_of V (declarations_of sources) → body_refusals V names sources ≡ [] → (n : ℕ) (f : ScriptFunction) (g : t.TypedFunction)
      → slice_get names.functions n ≡ Some f → slice_get (program_of V names sources).functions n ≡ Some g → StandsIn sources f.place g.positions
  unfolding judgements body_refusals program_of
  function_placed e none n f g there typed =
      let js = flat_map (judged V names) (parts_of sources) in
      let all = functions_stand (total_of sources) 0 0 0 (parts_of sources) (names_have_parts V names sources e).numbered (parts_stand sources) none in
      let count : length (functions_in js) ≡ length names.functions = let c = all.count in omega (arith, c) in
      let own = at_number FunctionStands n (functions_in js) g all.each
      (in_front (functions_in js) (filter_map member_given js) names.functions n g f count there typed) in
      let same : own.0 ≡ f = same_Some own.0 f (sym own.1 ∙ there) in
      subst (λ (h : ScriptFunction). StandsIn sources h.place g.positions) same own.2

  -- ---- methods and constructors

  method_placed : names ≡ names_of V (declarations_of sources) → body_refusals V names sources ≡ []
      → (c m n : ℕ) (f : Family) (y : ScriptMethod) (g : t.TypedFunction)
      → slice_get names.families c ≡ Some f → slice_get f.methods m ≡ Some y → y.body ≡ Some n
      → slice_get (program_of V names sources).functions n ≡ Some g → StandsIn sources y.function.place g.positions
  method_placed e none c m n f y g family there body typed =
      let at : method_at V names c m ≡ Some y = ap (option_and_then (λ (k : Family). slice_get k.methods m)) family ∙ there in
      let b = (has_names V names sources e none).bodies.methods c m n y at body in
      let w = within_of V names c y.read_only in
      let part = a_method c m b.text b.name b.tree in
      let stands = each_is (PartStands sources) (parts_of sources) part (parts_stand sources) b.written in
      let is = subst (IsPartOf V names) b.written.2 (all_belong V names sources e b.written.0 part b.written.1) in
      let place : b.name.place ≡ y.function.place =
      sym is.3 ∙ ap (λ (z : ScriptMethod). z.function.place) (same_Some is.0 y (sym is.1 ∙ at)) in
      let same : b.typed.0 ≡ g = same_Some b.typed.0 g (sym b.typed.2 ∙ typed) in
      let places : inner_positions b.tree ≡ g.positions =
      sym (of_answer (λ (k : t.TypedFunction). k.positions ≡ inner_positions b.tree)
      (method_body_typing (context_in V names b.text (Some w)) w y.function b.name b.tree) b.typed.0 b.typed.1
      (method_places (context_in V names b.text (Some w)) w y.function b.name b.tree)) ∙ ap (λ (k : t.TypedFunction). k.positions) same in
      subst (λ p. StandsIn sources p g.positions) place (subst (StandsIn sources b.name.place) places stands)

  constructor_placed : names ≡ names_of V (declarations_of sources) → body_refusals V names sources ≡ []
      → (c m : ℕ) (f : Family) (y : ScriptConstructor) (g : t.TypedFunction)
      → slice_get names.families c ≡ Some f → slice_get f.constructors m ≡ Some y
      → slice_get (program_of V names sources).functions y.body ≡ Some g → StandsIn sources y.function.place g.positions
  constructor_placed e none c m f y g family there typed =
      let at : constructor_at V names c m ≡ Some y = ap (option_and_then (λ (k : Family). slice_get k.constructors m)) family ∙ there in
      let b = (has_names V names sources e none).bodies.constructors c m y at in
      let w = within_of V names c false in
      let base = base_name V names c b.text b.own b.bases in
      let part = a_constructor c m b.text b.name b.own b.bases b.super b.tree b.close in
      let stands = each_is (PartStands sources) (parts_of sources) part (parts_stand sources) b.written in
      let is = subst (IsPartOf V names) b.written.2 (all_belong V names sources e b.written.0 part b.written.1) in
      let place : b.name.place ≡ y.function.place =
      sym is.3 ∙ ap (λ (z : ScriptConstructor). z.function.place) (same_Some is.0 y (sym is.1 ∙ at)) in
      let same : b.typed.0 ≡ g = same_Some b.typed.0 g (sym b.typed.2 ∙ typed) in
      let has = of_answer (IsConstructed b.name b.super b.tree b.close)
      (constructor_typing (context_in V names b.text (Some w)) w y.function b.name base (base_of V names c) b.super b.tree b.close) b.typed.0 b.typed.1
      (constructor_places (context_in V names b.text (Some w)) w y.function b.name base (base_of V names c) b.super b.tree b.close) in
      let places : constructor_positions has.0 b.name b.super b.tree b.close ≡ g.positions = sym has.1 ∙ ap (λ (k : t.TypedFunction). k.positions) same in
      subst (λ p. StandsIn sources p g.positions) place (subst (StandsIn sources b.name.place) places (stands has.0))

-- ---- globals

-- In the space of a build:
module _ (E : Space) (sources : List Source) where
  abbrev GlobalStands : ScriptGlobal → Type 0
  GlobalStands g = StandsIn sources g.place []

  one_global : (d : ListedDeclaration) (p : listing.Part) (gs : List ScriptGlobal) → NameStands sources d → Every GlobalStands gs
      → Every GlobalStands (cons_option (global_by E d p) gs)
  one_global d (listed.Family s) gs h rest = rest
  one_global d (listed.Function y ps) gs h rest = rest
  one_global d (listed.Import y ps) gs h rest = rest
  one_global d (listed.Global y) gs h rest = (h, rest)

  globals_stand : (ds : List ListedDeclaration) → Every (NameStands sources) ds → Every GlobalStands (filter_map (global_of E) ds)
  unfolding global_of
  globals_stand [] h = tt
  globals_stand (d ∷ ds) h = one_global d d.part (filter_map (global_of E) ds) h.0 (globals_stand ds h.1)

all_globals : (V : RegistrationList) (sources : List Source)
    → Every (λ (g : ScriptGlobal). StandsIn sources g.place []) (names_of V (declarations_of sources)).globals
unfolding names_of
all_globals V sources = globals_stand (space_of_declared V (declarations_of sources)) sources (declarations_of sources) (names_stand sources)

-- ---- all of them

pub program_placed : (V : RegistrationList) (names : Names) (sources : List Source) → names ≡ names_of V (declarations_of sources)
    → body_refusals V names sources ≡ [] → ArePlaced (StandsIn sources) names (program_of V names sources)
program_placed V names sources e none = record {
  functions = function_placed V names sources e none;
  methods = method_placed V names sources e none;
  constructors = constructor_placed V names sources e none;
  globals = λ n g there.
      every_at (λ (k : ScriptGlobal). StandsIn sources k.place []) names.globals n g
      (subst (λ (m : Names). Every (λ (k : ScriptGlobal). StandsIn sources k.place []) m.globals) (sym e) (all_globals V sources)) there;
}

-- The resolved tree of scripts without errors is sound.
use Rattle.std.specs.Prelude.{◌≡◌, ℕ, ◌≤◌, false, length, List, [], ◌∷◌, ◌++◌, map, Option, Some, None, Ok, Err, IfOk, slice_get}
use Rattle.std.specs.List.{filter_map}
use Rattle.std.proofs.Common.{refl, ap, sym, ◌∙◌, subst}
use Rattle.std.proofs.lemmas.List.{length-map}
use Rattle.ang_lex.specs.declared.token.Token.{Token}
use Rattle.ang_view.specs.Registration.{RegistrationList}
use Rattle.ang_view.specs.Values.{TakesValues}
use Rattle.ang_tree.specs.declared.type_name.TypeName.{TypeName}
use Rattle.ang_tree.specs.Declarations.{SuperTree}
use Rattle.ang_tree.specs.Stmt.{Init, Body, Stmts}
use Rattle.ang_typed.specs.declared.program.Heading.{Heading}
use Rattle.ang_typed.specs.declared.program.TypedParameter.{TypedParameter}
use Rattle.ang_typed.specs.Typed as t
use Rattle.ang_names_known.specs.declared.names.ScriptConstructor.{ScriptConstructor}
use Rattle.ang_names_known.specs.declared.names.ScriptMethod.{ScriptMethod}
use Rattle.ang_names_known.specs.declared.names.Names.{Names}
use Rattle.ang_names_known.specs.declared.names.ScriptFunction.{ScriptFunction}
use Rattle.ang_names_known.specs.declared.names.ScriptGlobal.{ScriptGlobal}
use Rattle.ang_names_known.specs.Spaces.{first_family}
use Rattle.ang_names_listed.specs.Sources.{Source}
use Rattle.ang_names_listed.specs.Declarations.{declarations_of}
use Rattle.ang_names_classes.specs.Resolved.{names_of}
use Rattle.ang_check_operators.specs.Refusals.{Typing}
use Rattle.ang_check_context.specs.declared.scope.Within.{Within}
use Rattle.ang_check.specs.Typing.{Base, typed_parameters, function_typing, method_body_typing, constructor_typing, global_typing, implicit_super}
use Rattle.ang_check.specs.Bodies.{Part, a_function, a_global, a_method, a_constructor, a_default, parts_of, Judgement, of_function, of_global, of_member, of_default, context_in, within_of, base_of, base_name, judged_function, judged_global, method_at, judged_method, constructor_at, judged_constructor, judged, judgements, refusal_in, function_given, member_given, global_given, body_refusals, typed_class, method_headings, import_heading, program_of}
use Rattle.ang_source.specs.Sound.{Module, module_of, SoundOption, SoundFunction, SoundFunctions, SoundGlobals, SoundClasses, SoundProgram}
use Rattle.ang_check_sound.specs.Checked.{module_in, HasNames}
use Rattle.ang_check_sound.specs.Built.{IsBuiltContext}
use Rattle.ang_check_sound.proofs.Bodies.{function_sound, global_sound, method_sound, constructor_sound}
use Rattle.ang_check_sound.proofs.Built.{families_built, context_built}
use Rattle.ang_check_sound.proofs.Classes.{all_below, all_classes_sound}
use Rattle.ang_check_sound.proofs.Program.{none_behind, J, has_names}

-- ---- what the parts give

module _ (V : RegistrationList) (names : Names) (built : (text : List ℕ) (within : Option Within) → IsBuiltContext (context_in V names text within)) where
  abbrev M : Module
  M = module_in V names

  abbrev Clean : List Judgement → Type 0
  Clean js = filter_map refusal_in js ≡ []

  record AreSound (js : List Judgement) : Type 0 where
    functions : SoundFunctions M (filter_map function_given js)
    members : SoundFunctions M (filter_map member_given js)
    globals : SoundGlobals M (filter_map global_given js)

  function_then : (text : List ℕ) (x : Typing t.TypedFunction) (js : List Judgement) → IfOk x (SoundFunction M) → Clean (of_function text x ∷ js) → AreSound js
      → AreSound (of_function text x ∷ js)
  function_then text (Ok h) js s e r = record { functions = (s, r.functions); members = r.members; globals = r.globals }
  function_then text (Err why) js s e r = cc

  global_then : (text : List ℕ) (x : Typing t.Global) (js : List Judgement) → IfOk x (λ g. SoundOption M 0 g.initializer) → Clean (of_global text x ∷ js)
      → AreSound js → AreSound (of_global text x ∷ js)
  global_then text (Ok g) js s e r = record { functions = r.functions; members = r.members; globals = (s, r.globals) }
  global_then text (Err why) js s e r = cc

  member_then : (text : List ℕ) (x : Typing t.TypedFunction) (js : List Judgement) → IfOk x (SoundFunction M) → Clean (of_member text x ∷ js) → AreSound js
      → AreSound (of_member text x ∷ js)
  member_then text (Ok h) js s e r = record { functions = r.functions; members = (s, r.members); globals = r.globals }
  member_then text (Err why) js s e r = cc

  default_then : (text : List ℕ) (x : Typing Base) (js : List Judgement) → Clean (of_default text x ∷ js) → AreSound js → AreSound (of_default text x ∷ js)
  default_then text (Ok b) js e r = record { functions = r.functions; members = r.members; globals = r.globals }
  default_then text (Err why) js e r = cc

  one_function : (text : List ℕ) (x : Token) (b : Body) (o : Option ScriptFunction) (js : List Judgement) → Clean (judged_function V names text x b o ++ js)
      → AreSound js → AreSound (judged_function V names text x b o ++ js)
  one_function text x b None js e r = r
  one_function text x b (Some f) js e r =
      let s = context_in V names text None in
      function_then text (function_typing s f x b) js (function_sound s (built text None) refl f x b) e r

  one_global : (text : List ℕ) (y : TypeName) (i : Init) (o : Option ScriptGlobal) (js : List Judgement) → Clean (judged_global V names text y i o ++ js)
      → AreSound js → AreSound (judged_global V names text y i o ++ js)
  one_global text y i None js e r = r
  one_global text y i (Some g) js e r =
      let s = context_in V names text None in
      global_then text (global_typing s g y i) js (global_sound s (built text None) refl g y i) e r

  one_method : (c : ℕ) (text : List ℕ) (x : Token) (b : Body) (o : Option ScriptMethod) (js : List Judgement) → Clean (judged_method V names c text x b o ++ js)
      → AreSound js → AreSound (judged_method V names c text x b o ++ js)
  one_method c text x b None js e r = r
  one_method c text x b (Some y) js e r =
      let w = within_of V names c y.read_only in
      let s = context_in V names text (Some w) in
      member_then text (method_body_typing s w y.function x b) js (method_sound s (built text (Some w)) w refl y.function x b) e r

  one_constructor : (c : ℕ) (text : List ℕ) (x base : Token) (n : Option ℕ) (u : Option SuperTree) (ss : Stmts) (close : Token) (o : Option ScriptConstructor) (js : List Judgement)
      → Clean (judged_constructor V names c text x base n u ss close o ++ js) → AreSound js → AreSound (judged_constructor V names c text x base n u ss close o ++ js)
  one_constructor c text x base n u ss close None js e r = r
  one_constructor c text x base n u ss close (Some k) js e r =
      let w = within_of V names c false in
      let s = context_in V names text (Some w) in
      member_then text (constructor_typing s w k.function x base n u ss close) js (constructor_sound s (built text (Some w)) w refl k.function x base n u ss close) e r

  one_sound : (p : Part) (js : List Judgement) → Clean (judged V names p ++ js) → AreSound js → AreSound (judged V names p ++ js)
  one_sound (a_function n text x b) js e r = one_function text x b (slice_get names.functions n) js e r
  one_sound (a_global n text y i) js e r = one_global text y i (slice_get names.globals n) js e r
  one_sound (a_method c m text x b) js e r = one_method c text x b (method_at V names c m) js e r
  one_sound (a_constructor c k text x own bases u ss close) js e r =
      one_constructor c text x (base_name V names c text own bases) (base_of V names c) u ss close (constructor_at V names c k) js e r
  one_sound (a_default c text x bases) js e r =
      default_then text (implicit_super names x.place (base_name V names c text x bases) (base_of V names c)) js e r

  all_sound : (ps : List Part) → Clean (J V names ps) → AreSound (J V names ps)
  all_sound [] e = record { functions = tt; members = tt; globals = tt }
  all_sound (p ∷ ps) e = one_sound p (J V names ps) e (all_sound ps (none_behind (judged V names p) (J V names ps) e))

-- the tree's module is that of its names
module_with : RegistrationList → List (List TypedParameter) → List (List TypedParameter) → List (List TypedParameter) → ℕ → ℕ → Module
module_with V ps ms is gs cs = record { view = V; parameters = ps; methods = ms; imports = is; globals = gs; classes = cs }

imports_same : (fs : List ScriptFunction) → map typed_parameters fs ≡ map (λ (h : Heading). h.parameters) (map import_heading fs)
imports_same [] = refl
imports_same (f ∷ fs) = ap (λ ps. typed_parameters f ∷ ps) (imports_same fs)

same_module : (V : RegistrationList) (names : Names) (sources : List Source) → HasNames V names sources (program_of V names sources)
    → module_in V names ≡ module_of V (program_of V names sources)
unfolding module_with program_of
same_module V names sources h =
    let p = program_of V names sources in
    let globals : length names.globals ≡ length p.globals =
    sym (length-map names.globals (λ (g : ScriptGlobal). g.written.ty)) ∙ ap length (sym h.types) ∙ length-map p.globals (λ (g : t.Global). g.ty) in
    let methods = map (λ (g : Heading). g.parameters) (method_headings names.families) in
    let imports = map typed_parameters names.imports in
    ap (λ ps. module_with V ps methods imports (length names.globals) (length names.families)) (sym h.parameters)
    ∙ ap (λ is. module_with V (map (λ (f : t.TypedFunction). f.parameters) p.functions) methods is (length names.globals) (length names.families)) (imports_same names.imports)
    ∙ ap (λ n. module_with V (map (λ (f : t.TypedFunction). f.parameters) p.functions) methods (map (λ (g : Heading). g.parameters) p.imports) n (length names.families)) globals
    ∙ ap (λ n. module_with V (map (λ (f : t.TypedFunction). f.parameters) p.functions) methods (map (λ (g : Heading). g.parameters) p.imports) (length p.globals) n)
    (sym (length-map names.families typed_class))

sound_joined : (M : Module) (xs ys : List t.TypedFunction) → SoundFunctions M xs → SoundFunctions M ys → SoundFunctions M (xs ++ ys)
sound_joined M [] ys h k = k
sound_joined M (x ∷ xs) ys h k = (h.0, sound_joined M xs ys h.1 k)

record SoundOver (M : Module) (p : t.Program) : Type 0 where
  functions : SoundFunctions M p.functions
  globals : SoundGlobals M p.globals
  classes : SoundClasses M p.classes

sound_over : (V : RegistrationList) (names : Names) (sources : List Source) → TakesValues V → length V ≤ first_family
    → names ≡ names_of V (declarations_of sources) → body_refusals V names sources ≡ [] → SoundOver (module_in V names) (program_of V names sources)
unfolding judgements body_refusals program_of
sound_over V names sources values few e none =
    let built = context_built V values few names sources e in
    let all = all_sound V names built (parts_of sources) none in
    record {
      functions = sound_joined (module_in V names) _ _ all.functions all.members;
      globals = all.globals;
      classes = all_classes_sound (module_in V names) names.families (all_below V names sources e) (families_built V names sources e);
    }

pub program_is_sound : (V : RegistrationList) (names : Names) (sources : List Source) → TakesValues V → length V ≤ first_family
    → names ≡ names_of V (declarations_of sources) → body_refusals V names sources ≡ [] → SoundProgram V (program_of V names sources)
program_is_sound V names sources values few e none =
    let p = program_of V names sources in
    let same = same_module V names sources (has_names V names sources e none) in
    let sound = sound_over V names sources values few e none in
    record {
      functions = subst (λ (N : Module). SoundFunctions N p.functions) same sound.functions;
      globals = subst (λ (N : Module). SoundGlobals N p.globals) same sound.globals;
      classes = subst (λ (N : Module). SoundClasses N p.classes) same sound.classes;
    }

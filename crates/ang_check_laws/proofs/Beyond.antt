-- Refusals that ask nothing are beyond help.
use Rattle.std.specs.Prelude.{◌≡◌, ℕ, true, false, All, Contains, List, [], option_map, Option, Some, None, Ok, Err, IfErr, IfSome, slice_get}
use Rattle.std.specs.List.{cons_option, filter_map}
use Rattle.std.proofs.Common.{refl, ap, sym, subst, ◌∙◌}
use Rattle.ang_lex.specs.declared.token.Token.{Token}
use Rattle.ang_tree.specs.declared.declaration.BaseName.{BaseName}
use Rattle.ang_tree.specs.declared.type_name.TypeName.{TypeName}
use Rattle.ang_tree.specs.Declarations.{SuperTree}
use Rattle.ang_tree.specs.Stmt.{Every, Init, Body, Stmts}
use Rattle.ang_tree.specs.Tree.{Tree}
use Rattle.ang_types.specs.declared.arg_type.ArgType.{ArgType}
use Rattle.ang_view.specs.Hidden.{seen_with}
use Rattle.ang_view.specs.Registration.{RegistrationList, seen}
use Rattle.ang_names_known.specs.declared.names.Names.{Names}
use Rattle.ang_names_known.specs.declared.names.ScriptConstructor.{ScriptConstructor}
use Rattle.ang_names_known.specs.declared.names.ScriptFunction.{ScriptFunction}
use Rattle.ang_names_known.specs.declared.names.ScriptGlobal.{ScriptGlobal}
use Rattle.ang_names_known.specs.declared.names.ScriptMethod.{ScriptMethod}
use Rattle.ang_names_classes.specs.Resolved.{names_of}
use Rattle.ang_names_listed.specs.Declarations.{declarations_of}
use Rattle.ang_names_listed.specs.Sources.{Source}
use Rattle.ang_names.specs.Phases.{refusals_of}
use Rattle.ang_check_operators.specs.declared.refusal.TypingRefusal.{TypingRefusal}
use Rattle.ang_check_operators.specs.Refusals.{Typing}
use Rattle.ang_check_context.specs.declared.scope.LocalVariable.{LocalVariable}
use Rattle.ang_check_context.specs.Scope.{BodyContext}
use Rattle.ang_check_typing.specs.Typing.{typing_of}
use Rattle.ang_check_stmt.specs.Typing.{local_type, initializer_typing}
use Rattle.ang_check.specs.Typing.{function_typing, global_typing, method_body_typing, constructor_typing, implicit_super}
use Rattle.ang_check.specs.Bodies.{Part, a_function, a_global, a_method, a_constructor, a_default, Judgement, context_in, within_of, base_of, base_name, judged_function, judged_global, method_at, judged_method, constructor_at, judged_constructor, judged, judgements, parts_of, refused_of, refused_by, refusal_in, body_refusals}
use Rattle.ang_check.specs.Denials.{script_refusals}
use Rattle.ang_check_laws.specs.Beyond.{refusal, initializer_tried, tried, type_tried, function_tried, global_tried, method_tried, constructor_tried, part_tried, IfSilentStays, IsHelpedOrBeyond, IsRegistered}
use Rattle.ang_check_laws.proofs.Declared.{each_declared}
use Rattle.ang_check_laws.proofs.Items.{every_flat_in, every_given, every_or, all_of_each}
use Rattle.ang_check_laws.proofs.Trying.{Kept, kept_harmless, kept_itself}
use Rattle.ang_check_laws.proofs.TryingBodies.{function_kept, global_kept, method_body_kept, constructor_kept}
use Rattle.ang_check_laws.proofs.TryingTrees.{initializer_kept, local_type_harmless, tree_kept}
use Rattle.ang_check_laws.proofs.TryingUses.{KeepsValues}
use Rattle.ang_check_laws.proofs.Wider.{keeps_values}

-- what is kept over each larger view stays
stays : {A : Type 0} (R : RegistrationList) (m : ℕ) (x : Typing A) (again : RegistrationList → Option TypingRefusal)
    → ((y : ℕ) → Kept x (again (seen_with R m y))) → IfErr x (IfSilentStays R m again)
stays R m (Ok a) again h = tt
stays R m (Err r) again h = λ e f y hidden. h y e f

module _ (R : RegistrationList) (m : ℕ) (s : BodyContext) (locals : List LocalVariable) (h : IsRegistered R) (is : s.view ≡ seen R m) where
  keeps : (y : ℕ) → KeepsValues s.view (seen_with R m y)
  keeps y = subst (λ V. KeepsValues V (seen_with R m y)) (sym is) (keeps_values R m h y)

pub expression_beyond : (R : RegistrationList) (m : ℕ) (s : BodyContext) (locals : List LocalVariable) (e : Tree) → IsRegistered R → s.view ≡ seen R m
    → IfErr (typing_of s locals e) (IfSilentStays R m (λ W. tried s W locals e))
expression_beyond R m s locals e h is =
    stays R m (typing_of s locals e) (λ W. tried s W locals e) (λ y. tree_kept s (seen_with R m y) (keeps R m s locals h is y) locals e)

pub type_beyond : (R : RegistrationList) (m : ℕ) (s : BodyContext) (locals : List LocalVariable) (y : TypeName) → IsRegistered R → s.view ≡ seen R m
    → IfErr (local_type s locals y) (IfSilentStays R m (λ W. type_tried s W locals y))
type_beyond R m s locals y h is =
    stays R m (local_type s locals y) (λ W. type_tried s W locals y)
    (λ x. kept_harmless (local_type s locals y) _ (local_type_harmless s (seen_with R m x) (keeps R m s locals h is x) locals y))

pub initializer_beyond : (R : RegistrationList) (m : ℕ) (s : BodyContext) (locals : List LocalVariable) (y : TypeName) (ty : ArgType) (i : Init) → IsRegistered R
    → s.view ≡ seen R m → IfErr (initializer_typing s locals y ty i) (IfSilentStays R m (λ W. initializer_tried s W locals y ty i))
initializer_beyond R m s locals y ty i h is =
    stays R m (initializer_typing s locals y ty i) (λ W. initializer_tried s W locals y ty i)
    (λ x. initializer_kept s (seen_with R m x) (keeps R m s locals h is x) locals y ty i)

-- ---- bodies

module _ (R : RegistrationList) (m : ℕ) (h : IsRegistered R) (ss : List Source) where
  abbrev V : RegistrationList
  V = seen R m

  abbrev names : Names
  names = names_of V (declarations_of ss)

  abbrev Beyond : Judgement → Type 0
  Beyond j = IfSome (refusal_in j) (IsHelpedOrBeyond R m ss)

  -- what is refused of a part of the scripts
  of_part : {A : Type 0} (p : Part) (text : List ℕ) (x : Typing A) (again : RegistrationList → Option TypingRefusal) → Contains (parts_of ss) p
      → filter_map refusal_in (judged V names p) ≡ cons_option (refused_by text x) []
      → ((W : RegistrationList) → part_tried V W names p ≡ option_map (refused_of text) (again W))
      → ((y : ℕ) → Kept x (again (seen_with R m y))) → IfSome (refused_by text x) (IsHelpedOrBeyond R m ss)
  of_part p text (Ok a) again c same is k = tt
  of_part p text (Err r) again c same is k = λ e f. record {
    part = p;
    written = c;
    refused = same;
    stays = λ y hidden. is (seen_with R m y) ∙ ap (option_map (refused_of text)) (k y e f);
  }

  function_beyond : (n : ℕ) (text : List ℕ) (x : Token) (b : Body) → Contains (parts_of ss) (a_function n text x b) → (o : Option ScriptFunction)
      → slice_get names.functions n ≡ o → Every Beyond (judged_function V names text x b o)
  function_beyond n text x b c None is = tt
  function_beyond n text x b c (Some f) is =
      let s = context_in V names text None in (
        of_part (a_function n text x b) text (function_typing s f x b) (λ W. function_tried V W names text b (Some f)) c
            (ap (λ o. filter_map refusal_in (judged_function V names text x b o)) is) (λ W. ap (λ o. option_map (refused_of text) (function_tried V W names text b o)) is)
            (λ y. function_kept s (seen_with R m y) (keeps_values R m h y) f x b),
        tt,
      )

  global_beyond : (n : ℕ) (text : List ℕ) (y : TypeName) (i : Init) → Contains (parts_of ss) (a_global n text y i) → (o : Option ScriptGlobal)
      → slice_get names.globals n ≡ o → Every Beyond (judged_global V names text y i o)
  global_beyond n text y i c None is = tt
  global_beyond n text y i c (Some g) is =
      let s = context_in V names text None in (
        of_part (a_global n text y i) text (global_typing s g y i) (λ W. global_tried V W names text y i (Some g)) c
            (ap (λ o. filter_map refusal_in (judged_global V names text y i o)) is) (λ W. ap (λ o. option_map (refused_of text) (global_tried V W names text y i o)) is)
            (λ x. global_kept s (seen_with R m x) (keeps_values R m h x) g y i),
        tt,
      )

  method_beyond : (d k : ℕ) (text : List ℕ) (x : Token) (b : Body) → Contains (parts_of ss) (a_method d k text x b) → (o : Option ScriptMethod)
      → method_at V names d k ≡ o → Every Beyond (judged_method V names d text x b o)
  method_beyond d k text x b c None is = tt
  method_beyond d k text x b c (Some f) is =
      let w = within_of V names d f.read_only in
      let s = context_in V names text (Some w) in (
        of_part (a_method d k text x b) text (method_body_typing s w f.function x b) (λ W. method_tried V W names d text b (Some f)) c
            (ap (λ o. filter_map refusal_in (judged_method V names d text x b o)) is) (λ W. ap (λ o. option_map (refused_of text) (method_tried V W names d text b o)) is)
            (λ y. method_body_kept s (seen_with R m y) (keeps_values R m h y) w f.function x b),
        tt,
      )

  constructor_beyond : (d k : ℕ) (text : List ℕ) (x own : Token) (bases : List BaseName) (u : Option SuperTree) (es : Stmts) (close : Token)
      → Contains (parts_of ss) (a_constructor d k text x own bases u es close) → (o : Option ScriptConstructor) → constructor_at V names d k ≡ o
      → Every Beyond (judged_constructor V names d text x (base_name V names d text own bases) (base_of V names d) u es close o)
  constructor_beyond d k text x own bases u es close c None is = tt
  constructor_beyond d k text x own bases u es close c (Some f) is =
      let w = within_of V names d false in
      let s = context_in V names text (Some w) in
      let base = base_name V names d text own bases in
      let b = base_of V names d in (
        of_part (a_constructor d k text x own bases u es close) text (constructor_typing s w f.function x base b u es close)
            (λ W. constructor_tried V W names d text x base b u es (Some f)) c
            (ap (λ o. filter_map refusal_in (judged_constructor V names d text x base b u es close o)) is)
            (λ W. ap (λ o. option_map (refused_of text) (constructor_tried V W names d text x base b u es o)) is)
            (λ y. constructor_kept s (seen_with R m y) (keeps_values R m h y) w f.function x base b u es close),
        tt,
      )

  part_beyond : (p : Part) → Contains (parts_of ss) p → Every Beyond (judged V names p)
  part_beyond (a_function n text x b) c = function_beyond n text x b c (slice_get names.functions n) refl
  part_beyond (a_global n text y i) c = global_beyond n text y i c (slice_get names.globals n) refl
  part_beyond (a_method d k text x b) c = method_beyond d k text x b c (method_at V names d k) refl
  part_beyond (a_constructor d k text x own bases u es close) c =
      constructor_beyond d k text x own bases u es close c (constructor_at V names d k) refl
  part_beyond (a_default d text x bases) c =
      let base = implicit_super names x.place (base_name V names d text x bases) (base_of V names d) in
      (of_part (a_default d text x bases) text base (λ W. refusal base) c refl (λ W. refl) (λ y. kept_itself base), tt)

  bodies_beyond : Every (IsHelpedOrBeyond R m ss) (body_refusals V names ss)
  unfolding body_refusals judgements
  bodies_beyond =
      every_given (IsHelpedOrBeyond R m ss) refusal_in (judgements V names ss)
      (every_flat_in Beyond (judged V names) (parts_of ss) part_beyond)

  -- a declaration is refused for what is no use, or asks for a type
  declarations_beyond : Every (IsHelpedOrBeyond R m ss) (refusals_of V ss)
  declarations_beyond = each_declared V ss (IsHelpedOrBeyond R m ss) (record {
    plain = λ r e no f yes. let both : false ≡ true = sym no ∙ yes in cc;
    unknown = λ text t e none yes. cc;
  })

  scripts_beyond : All (IsHelpedOrBeyond R m ss) (script_refusals V ss)
  unfolding script_refusals
  scripts_beyond =
      all_of_each (IsHelpedOrBeyond R m ss) (script_refusals V ss)
      (every_or (IsHelpedOrBeyond R m ss) (refusals_of V ss) (body_refusals V names ss) declarations_beyond bodies_beyond)

pub beyond_help : (R : RegistrationList) (m : ℕ) (ss : List Source) → IsRegistered R → All (IsHelpedOrBeyond R m ss) (script_refusals (seen R m) ss)
beyond_help R m ss h = scripts_beyond R m h ss

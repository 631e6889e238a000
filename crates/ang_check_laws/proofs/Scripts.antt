-- What refusals of scripts ask means nothing over the same view, for just the reason that they give.
use Rattle.std.specs.Prelude.{◌≡◌, ℕ, Bool, false, length, List, [], ◌∷◌, ◌++◌, All, map, Option, Some, None, Ok, Err, IfSome, slice_get}
use Rattle.std.proofs.Common.{refl, ap, sym, subst}
use Rattle.ang_lex.specs.declared.token.Token.{Token}
use Rattle.ang_lex.specs.Text.{name_of}
use Rattle.ang_tree.specs.declared.type_name.TypeName.{TypeName}
use Rattle.ang_tree.specs.Declarations.{SuperTree}
use Rattle.ang_tree.specs.Stmt.{Every, Init, Body, Stmts}
use Rattle.ang_types.specs.declared.asks.Asks.{Asks}
use Rattle.ang_view.specs.Registration.{RegistrationList}
use Rattle.ang_names_known.specs.declared.names.ScriptConstructor.{ScriptConstructor}
use Rattle.ang_names_known.specs.declared.names.Family.{Family}
use Rattle.ang_names_known.specs.declared.names.ScriptMethod.{ScriptMethod}
use Rattle.ang_names_known.specs.declared.names.Names.{Names}
use Rattle.ang_names_known.specs.declared.names.ScriptFunction.{ScriptFunction}
use Rattle.ang_names_known.specs.declared.names.ScriptGlobal.{ScriptGlobal}
use Rattle.ang_names_known.specs.Items.{each_after}
use Rattle.ang_names_known.specs.Spaces.{Space, space_of_names}
use Rattle.ang_names_listed.specs.declared.listed.ListedDeclaration.{ListedDeclaration}
use Rattle.ang_names_listed.specs.Declarations.{Declaring, declarations_of, families_of, family_name}
use Rattle.ang_names_classes.specs.Headings.{signatures_of}
use Rattle.ang_names_classes.specs.Resolved.{families_after, functions_in, families_in, names_of, space_of_declared}
use Rattle.ang_names_listed.specs.Sources.{Source}
use Rattle.ang_names.specs.Phases.{refusals_of}
use Rattle.ang_check_operators.specs.declared.refusal.TypingRefusal.{TypingRefusal}
use Rattle.ang_check_operators.specs.Refusals.{Typing}
use Rattle.ang_check_context.specs.declared.scope.LocalVariable.{LocalVariable}
use Rattle.ang_check_context.specs.Scope as context
use Rattle.ang_check_context.specs.Scope.{BodyContext}
use Rattle.ang_check_uses.specs.declared.uses.Resolution.TheVariants as resolution
use Rattle.ang_check_uses.specs.Uses.{resolution_of}
use Rattle.ang_check.specs.Typing.{function_typing, global_typing, method_body_typing, constructor_typing, implicit_super}
use Rattle.ang_check.specs.Bodies.{Part, a_function, a_global, a_method, a_constructor, a_default, Judgement, context_in, within_of, base_of, base_name, judged_function, judged_global, method_at, judged_method, constructor_at, judged_constructor, judged, judgements, parts_of, refused_by, refusal_in, body_refusals}
use Rattle.ang_check.specs.Denials.{scope_of, scope_over, script_refusals}
use Rattle.ang_check_laws.specs.Asked.{IsAskedAgain, IsRefusedUse}
use Rattle.ang_check_laws.proofs.Items.{every_flat, every_given, every_or, all_of_each}
use Rattle.ang_check_laws.proofs.Statements.{BodyUses, none_here}
use Rattle.ang_check_laws.proofs.Bodies.{implicit_silent, function_use, method_use, constructor_use, global_use}
use Rattle.ang_check_laws.proofs.Declared.{declarations_again}

-- ---- a body

asks_again : (s : BodyContext) (r : TypingRefusal) (o : Option Asks) → IfSome o (λ (a : Asks). (ps : List LocalVariable) × IsRefusedUse s ps r a)
    → IfSome o (λ (a : Asks). resolution_of (context.scope_of s) (name_of s.text r.name) a ≡ resolution.Refused r.kind)
asks_again s r None h = tt
asks_again s r (Some a) h =
    subst (λ (x : Option Token). resolution_of (context.scope_of s) (name_of s.text x) a ≡ resolution.Refused r.kind)
    (sym (ap (λ (q : TypingRefusal). q.name) h.1.refusal)) h.1.means_nothing

use_again : {A : Type 0} (s : BodyContext) (x : Typing A) → BodyUses s x → IfSome (refused_by s.text x) (IsAskedAgain (context.scope_of s))
use_again s (Ok a) h = tt
use_again s (Err r) h = asks_again s r r.asks h

module _ (V : RegistrationList) (names : Names) where
  abbrev Again : Judgement → Type 0
  Again j = IfSome (refusal_in j) (IsAskedAgain (scope_of V names))

  function_again : (text : List ℕ) (x : Token) (b : Body) (f : Option ScriptFunction) → Every Again (judged_function V names text x b f)
  function_again text x b None = tt
  function_again text x b (Some f) =
      let s = context_in V names text None in (use_again s (function_typing s f x b) (function_use s f x b), tt)

  global_again : (text : List ℕ) (y : TypeName) (i : Init) (g : Option ScriptGlobal) → Every Again (judged_global V names text y i g)
  global_again text y i None = tt
  global_again text y i (Some g) =
      let s = context_in V names text None in (use_again s (global_typing s g y i) (global_use s g y i), tt)

  method_again : (c : ℕ) (text : List ℕ) (x : Token) (b : Body) (m : Option ScriptMethod) → Every Again (judged_method V names c text x b m)
  method_again c text x b None = tt
  method_again c text x b (Some m) =
      let w = within_of V names c m.read_only in
      let s = context_in V names text (Some w) in (use_again s (method_body_typing s w m.function x b) (method_use s w m.function x b), tt)

  constructor_again : (c : ℕ) (text : List ℕ) (x base : Token) (b : Option ℕ) (u : Option SuperTree) (ss : Stmts) (close : Token) (k : Option ScriptConstructor)
      → Every Again (judged_constructor V names c text x base b u ss close k)
  constructor_again c text x base b u ss close None = tt
  constructor_again c text x base b u ss close (Some k) =
      let w = within_of V names c false in
      let s = context_in V names text (Some w) in
      (use_again s (constructor_typing s w k.function x base b u ss close) (constructor_use s w k.function x base b u ss close), tt)

  part_again : (p : Part) → Every Again (judged V names p)
  part_again (a_function n text x b) = function_again text x b (slice_get names.functions n)
  part_again (a_global n text y i) = global_again text y i (slice_get names.globals n)
  part_again (a_method c m text x b) = method_again c text x b (method_at V names c m)
  part_again (a_constructor c k text x own bases u ss close) =
      constructor_again c text x (base_name V names c text own bases) (base_of V names c) u ss close (constructor_at V names c k)
  part_again (a_default c text x bases) =
      let s = context_in V names text None in
      let base = implicit_super names x.place (base_name V names c text x bases) (base_of V names c) in
      (use_again s base (none_here s base (implicit_silent names x.place (base_name V names c text x bases) (base_of V names c))), tt)

  bodies_again : (ss : List Source) → Every (IsAskedAgain (scope_of V names)) (body_refusals V names ss)
  unfolding body_refusals judgements
  bodies_again ss =
      every_given (IsAskedAgain (scope_of V names)) refusal_in (judgements V names ss)
      (every_flat Again (judged V names) (parts_of ss) part_again)

-- ---- the types that names mean, in the space of all declarations and over their names

same_names : (E : Space) (fs : List Declaring) (all : List (ScriptFunction × Bool)) (n : ℕ) (before ds : List Declaring)
    → map (λ (f : Family). f.name) (each_after (families_after E fs all n) before ds) ≡ map family_name ds
same_names E fs all n before [] = refl
same_names E fs all n before (d ∷ ds) = ap (λ xs. family_name d ∷ xs) (same_names E fs all n (before ++ d ∷ []) ds)

space_with : RegistrationList → List (List ℕ) → Space
space_with V families = record { view = V; families = families }

same_space : (V : RegistrationList) (ds : List ListedDeclaration) → space_of_names V (names_of V ds) ≡ space_of_declared V ds
unfolding space_with names_of families_in
same_space V ds =
    let E = space_of_declared V ds in
    let fs = families_of ds in
    ap (space_with V) (same_names E fs (signatures_of E fs) (length (functions_in E ds)) [] fs)

-- ---- all of them

pub asked_again : (V : RegistrationList) (ss : List Source) → All (IsAskedAgain (scope_over V ss)) (script_refusals V ss)
unfolding script_refusals
asked_again V ss =
    let names = names_of V (declarations_of ss) in
    let S = scope_over V ss in
    all_of_each (IsAskedAgain S) (script_refusals V ss)
    (every_or (IsAskedAgain S) (refusals_of V ss) (body_refusals V names ss)
    (declarations_again S V ss (same_space V (declarations_of ss))) (bodies_again V names ss))

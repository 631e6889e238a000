-- The trees of builds are typed: the law, and its parts.
use Rattle.std.specs.Prelude.{◌≡◌, ◌≤◌, ℕ, Bool, List, [], length, Option, Some, None, IfSome, IfOk}
use Rattle.ang_lex.specs.declared.token.Token.{Token}
use Rattle.ang_tree.specs.declared.type_name.TypeName.{TypeName}
use Rattle.ang_tree.specs.Declarations.{SuperTree}
use Rattle.ang_tree.specs.Stmt.{Init, Body, Stmt, Stmts, Every}
use Rattle.ang_tree.specs.Tree.{Tree}
use Rattle.ang_view.specs.Registration.{RegistrationList}
use Rattle.ang_view.specs.Values.{TakesValues}
use Rattle.ang_types.specs.declared.arg_type.ArgType.{ArgType}
use Rattle.ang_types.specs.declared.arg_type.ArgType.TheVariants as type
use Rattle.ang_typed.specs.Typed as t
use Rattle.ang_names_known.specs.declared.names.Names.{Names}
use Rattle.ang_names_known.specs.declared.names.ScriptFunction.{ScriptFunction}
use Rattle.ang_names_known.specs.declared.names.ScriptGlobal.{ScriptGlobal}
use Rattle.ang_names_known.specs.declared.names.ScriptParameter.{ScriptParameter}
use Rattle.ang_names_listed.specs.Sources.{Source}
use Rattle.ang_names_listed.specs.Declarations.{declarations_of}
use Rattle.ang_names_classes.specs.Resolved.{names_of}
use Rattle.ang_names.specs.Phases.{refusals_of}
use Rattle.ang_check_context.specs.declared.scope.LocalVariable.{LocalVariable}
use Rattle.ang_check_context.specs.declared.scope.Within.{Within}
use Rattle.ang_check_context.specs.Scope.{BodyContext}
use Rattle.ang_check_typing.specs.Typing.{typing_of}
use Rattle.ang_check_stmt.specs.Typing.{FunctionContext, stmt_typing}
use Rattle.ang_check.specs.Typing.{typed_parameters, this_parameter, function_typing, method_body_typing, constructor_typing, global_typing}
use Rattle.ang_check.specs.Bodies.{body_refusals}
use Rattle.ang_meaning.specs.Environment.{Environment}
use Rattle.ang_source_typed.specs.Types.{SlotType, Number, Key, Family, Modules, first_family, IsA, IsUnder}
use Rattle.ang_source_typed.specs.TypedProgram.{signature_of, constructor_signature, AreClasses, IsHandle, Types, TypesOption, TypesStatement, TypesBody, TypedProgram, after}
use Rattle.ang_check_sound.specs.Checked.{with_this}
use Rattle.ang_check_laws.specs.Contexts.{place_type, IsDeclared, IsTypedContext, AreLocals, IsAlive, ClassesAre}
use Rattle.ang_check_laws.specs.Given.{IsBuilt}
use Rattle.ang_check_laws.specs.HostTypes.{HandlesAreOwn}

-- ---- the law

-- The tree of scripts of which nothing is refused is typed, wherever the module stands. Unlike soundness it needs that the phases refuse nothing: ranks, missing
-- methods and results of overrides are theirs.
abbrev pub ProgramIsTyped : Type 0
ProgramIsTyped = (V : RegistrationList) (names : Names) (ss : List Source) (z : Environment) (ms : Modules) (m : ℕ)
    → TakesValues V → HandlesAreOwn V → length V ≤ first_family → refusals_of V ss ≡ []
    → names ≡ names_of V (declarations_of ss) → body_refusals V names ss ≡ [] → IsBuilt z ms m V names ss → TypedProgram z ms m

-- Its first part: the classes and methods of a build are as typing wants them, where no phase refuses anything.
abbrev pub ClassesAreTyped : Type 0
ClassesAreTyped = (V : RegistrationList) (names : Names) (ss : List Source) (z : Environment) (ms : Modules) (m : ℕ)
    → refusals_of V ss ≡ [] → names ≡ names_of V (declarations_of ss) → body_refusals V names ss ≡ [] → IsBuilt z ms m V names ss → ClassesAre z ms m names

-- Its second part: a tree is typed where its classes are.
abbrev pub ProgramsAreTyped : Type 0
ProgramsAreTyped = (V : RegistrationList) (names : Names) (ss : List Source) (z : Environment) (ms : Modules) (m : ℕ)
    → TakesValues V → HandlesAreOwn V → length V ≤ first_family
    → names ≡ names_of V (declarations_of ss) → body_refusals V names ss ≡ []
    → IsBuilt z ms m V names ss → ClassesAre z ms m names → TypedProgram z ms m

-- ---- its parts

-- A tree is of each type above its own: there is no node where a derived class's object stands for one of a family above it. A type's family is of the tree's
-- own module, as each type that is written there.
abbrev pub IsOwn : ℕ → SlotType → Type 0
IsOwn m Number = Unit {0}
IsOwn m (Key d) = Unit {0}
IsOwn m (Family k c) = k ≡ m

abbrev pub TypesGoUp : Environment → Modules → ℕ → Type 0
TypesGoUp z ms m = AreClasses z ms m → (locals : List SlotType) (s ty : SlotType) (e : t.Expr) → IsOwn m s → IsA z ms s ty → Types z ms m locals s e → Types z ms m locals ty e

-- In a setting with these modules, in module m:
module _ (z : Environment) (ms : Modules) (m : ℕ) where
  -- An expression's tree is of its type, and that of `null`, which no variable has, of each handle's.
  pub record IsTypedAs (locals : List SlotType) (ty : ArgType) (e : t.Expr) : Type 0 where
    pub tree : Types z ms m locals (place_type z ms m ty) e
    pub nulls : ty ≡ type.Null → (want : SlotType) → IsHandle want → Types z ms m locals want e

  abbrev pub ExpressionsAreTyped : Type 0
  ExpressionsAreTyped = (s : BodyContext) (ps : List LocalVariable) (locals : List SlotType) (e : Tree) → IsTypedContext z ms m s → AreLocals z ms m s.within ps locals
      → IfOk (typing_of s ps e) (λ a. IsTypedAs locals a.ty a.tree)

  -- A statement's tree is typed, and the locals after it are alive.
  abbrev pub StatementsAreTyped : Type 0
  StatementsAreTyped = (f : FunctionContext) (result : SlotType) (x : Stmt) (loop : Bool) (start : ℕ) (ps : List LocalVariable) (locals : List SlotType)
      → IsTypedContext z ms m f.context → IsAlive z ms m f result ps locals
      → IfOk (stmt_typing f loop start ps x) (λ r. TypesStatement z ms m result loop locals r.1 × IsAlive z ms m f result r.0 (after z ms m locals r.1))

  -- the types of its parameters are those of declarations
  abbrev pub AreDeclared : ScriptFunction → Type 0
  AreDeclared f = Every (λ (p : ScriptParameter). IsDeclared z ms m p.written.ty) f.params

  abbrev pub FunctionsAreTyped : Type 0
  FunctionsAreTyped = (s : BodyContext) → IsTypedContext z ms m s → s.within ≡ None → (f : ScriptFunction) (x : Token) (b : Body) → AreDeclared f
      → IfOk (function_typing s f x b) (λ (g : t.TypedFunction). TypesBody z ms m (signature_of z ms m (typed_parameters f) f.result.ty) g.body)

  abbrev pub MethodsAreTyped : Type 0
  MethodsAreTyped = (s : BodyContext) → IsTypedContext z ms m s → (w : Within) → s.within ≡ Some w → IsUnder z ms m w.family w.family
      → (f : ScriptFunction) (x : Token) (b : Body) → AreDeclared f
      → IfOk (method_body_typing s w f x b) (λ (g : t.TypedFunction). TypesBody z ms m (signature_of z ms m (with_this w f) f.result.ty) g.body)

  -- for objects of each class at or under its own
  abbrev pub ConstructorsAreTyped : Type 0
  ConstructorsAreTyped = (s : BodyContext) → IsTypedContext z ms m s → (w : Within) → s.within ≡ Some w
      → (c : ℕ) → IsUnder z ms m c w.family → IsUnder z ms m w.family w.family → IsUnder z ms m c c
      → (f : ScriptFunction) (x base : Token) (b : Option ℕ) (u : Option SuperTree) (ss : Stmts) (close : Token)
      → AreDeclared f → IfSome b (λ d. IsUnder z ms m w.family d)
      → IfOk (constructor_typing s w f x base b u ss close)
      (λ (g : t.TypedFunction). TypesBody z ms m (constructor_signature z ms m (this_parameter w) (typed_parameters f) c) g.body)

  abbrev pub InitializersAreTyped : Type 0
  InitializersAreTyped = (s : BodyContext) → IsTypedContext z ms m s → s.within ≡ None → (g : ScriptGlobal) (y : TypeName) (i : Init)
      → IfOk (global_typing s g y i) (λ (x : t.Global). TypesOption z ms m [] (place_type z ms m x.ty) x.initializer)

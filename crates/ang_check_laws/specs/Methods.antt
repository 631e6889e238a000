-- The methods of a build: those of one slot are alike, and where nothing is refused a class has each method that is found of a family above it.
use Rattle.std.specs.Prelude.{◌≡◌, ◌==◌, ◌<◌, ◌⊎◌, ℕ, true, false, List, [], drop, find, length, map, Some, slice_get}
use Rattle.std.specs.List.{list_any}
use Rattle.ang_tree.specs.Stmt.{Every}
use Rattle.ang_view.specs.Registration.{RegistrationList}
use Rattle.ang_names_known.specs.declared.names.Family.{Family}
use Rattle.ang_names_known.specs.declared.names.Names.{Names}
use Rattle.ang_names_known.specs.declared.names.ScriptFunction.{ScriptFunction}
use Rattle.ang_names_known.specs.declared.names.ScriptMethod.{ScriptMethod}
use Rattle.ang_names_known.specs.Lookup.{FoundMethod, methods_named}
use Rattle.ang_names_known.specs.Spaces.{Space}
use Rattle.ang_names_listed.specs.declared.listed.ListedDeclaration.{ListedDeclaration}
use Rattle.ang_names_listed.specs.Declarations.{Declaring, declarations_of, families_of}
use Rattle.ang_names_listed.specs.Sources.{Source}
use Rattle.ang_names_graph.specs.Graphs.{is_near, leads}
use Rattle.ang_names_classes.specs.Hierarchy.{is_base, is_class_at, is_parent}
use Rattle.ang_names_classes.specs.Resolved.{families_in, names_of, space_of_declared}
use Rattle.ang_names.specs.Heirs.{has_public_method}
use Rattle.ang_names.specs.Phases.{refusals_of}
use Rattle.ang_check.specs.Bodies.{body_refusals, typed_classes}
use Rattle.ang_check.specs.Typing.{typed_parameter}
use Rattle.ang_meaning.specs.Environment.{Environment}
use Rattle.ang_source.specs.Meaning.{body_by}
use Rattle.ang_source_typed.specs.Types.{Modules}
use Rattle.ang_source_typed.specs.TypedProgram.{IsMethod}
use Rattle.ang_check_laws.specs.Contexts.{method_signature}
use Rattle.ang_check_laws.specs.Given.{IsBuilt}

-- of one name and with the same parameters
pub record AreAlike (a b : ScriptFunction) : Type 0 where
  pub name : a.name ≡ b.name
  pub parameters : map typed_parameter a.params ≡ map typed_parameter b.params

-- Methods of one slot are alike.
abbrev pub SlotsAreAlike : Type 0
SlotsAreAlike = (E : Space) (ds : List ListedDeclaration) (c d i j : ℕ) (f g : Family) (x y : ScriptMethod) → slice_get (families_in E ds) c ≡ Some f
    → slice_get f.methods i ≡ Some x → slice_get (families_in E ds) d ≡ Some g → slice_get g.methods j ≡ Some y → x.slot ≡ y.slot → AreAlike x.function y.function

-- Where nothing is refused, a class's method has the result of each method of its slot in a class above it.
abbrev pub OverridesKeepResults : Type 0
OverridesKeepResults = (V : RegistrationList) (ss : List Source) → refusals_of V ss ≡ []
    → (c d i j : ℕ) (f g : Family) (y x : ScriptMethod) → slice_get (families_in (space_of_declared V (declarations_of ss)) (declarations_of ss)) c ≡ Some f
    → f.is_class ≡ true → slice_get f.methods i ≡ Some y
    → slice_get (families_in (space_of_declared V (declarations_of ss)) (declarations_of ss)) d ≡ Some g → slice_get g.methods j ≡ Some x
    → list_any (λ k. k == d) (drop 1 f.order) ≡ true → (x.slot == y.slot) ≡ true → x.function.result.ty ≡ y.function.result.ty

-- and each method of an interface above a class is met by one that it has.
abbrev pub InterfacesAreMet : Type 0
InterfacesAreMet = (V : RegistrationList) (ss : List Source) → refusals_of V ss ≡ []
    → (c d j : ℕ) (f g : Family) (x : ScriptMethod) → slice_get (families_in (space_of_declared V (declarations_of ss)) (declarations_of ss)) c ≡ Some f
    → f.is_class ≡ true
    → slice_get (families_in (space_of_declared V (declarations_of ss)) (declarations_of ss)) d ≡ Some g → g.is_class ≡ false → slice_get g.methods j ≡ Some x
    → list_any (λ k. k == d) f.above ≡ true → has_public_method (families_in (space_of_declared V (declarations_of ss)) (declarations_of ss)) c x ≡ true

-- Class c has a body in the slot of method x, its own or that of a base class, of a method with the same result.
pub record BodyIn (fs : List Family) (ds : List Declaring) (x : ScriptMethod) (c : ℕ) : Type 0 where
  pub number : ℕ
  pub chosen : body_by (typed_classes fs) x.slot (length ds) (slice_get (typed_classes fs) c) ≡ Some number
  pub class : ℕ
  pub family : Family
  pub place : ℕ
  pub method : ScriptMethod
  pub there : slice_get fs class ≡ Some family
  pub within : slice_get family.methods place ≡ Some method
  pub body : method.body ≡ Some number
  pub slot : method.slot ≡ x.slot
  pub result : x.function.result.ty ≡ method.function.result.ty
  pub over : is_near (is_base ds) (length ds) (length ds) c class ≡ true

-- Where overrides keep results, a class has in the slot of a method of a class above it a body with that method's result.
abbrev pub ClassesHaveBodies : Type 0
ClassesHaveBodies = (V : RegistrationList) (ss : List Source) → refusals_of V ss ≡ []
    → (top j c : ℕ) (g : Family) (x : ScriptMethod) → slice_get (families_in (space_of_declared V (declarations_of ss)) (declarations_of ss)) top ≡ Some g
    → slice_get g.methods j ≡ Some x → find (λ (y : ScriptMethod). y.slot == x.slot) g.methods ≡ Some x → top < length (families_of (declarations_of ss))
    → is_class_at (families_of (declarations_of ss)) c ≡ true
    → is_near (is_base (families_of (declarations_of ss))) (length (families_of (declarations_of ss))) (length (families_of (declarations_of ss))) c top ≡ true
    → BodyIn (families_in (space_of_declared V (declarations_of ss)) (declarations_of ss)) (families_of (declarations_of ss)) x c

-- Where nothing is refused, each class at or under a family has in the slot of the family's method (the first of that slot there) a body with that method's result.
abbrev pub ClassesHaveMethods : Type 0
ClassesHaveMethods = (V : RegistrationList) (ss : List Source) → refusals_of V ss ≡ []
    → (top j c : ℕ) (g : Family) (x : ScriptMethod) → slice_get (families_in (space_of_declared V (declarations_of ss)) (declarations_of ss)) top ≡ Some g
    → slice_get g.methods j ≡ Some x → find (λ (y : ScriptMethod). y.slot == x.slot) g.methods ≡ Some x
    → is_class_at (families_of (declarations_of ss)) c ≡ true
    → (c ≡ top) ⊎ (leads (is_parent (families_of (declarations_of ss))) (length (families_of (declarations_of ss))) c top ≡ true)
    → BodyIn (families_in (space_of_declared V (declarations_of ss)) (declarations_of ss)) (families_of (declarations_of ss)) x c

-- So a method that is found of a family is in each class at or under it, with the parameters and the result that a call of it has.
abbrev pub MethodsStand : Type 0
MethodsStand = (V : RegistrationList) (names : Names) (ss : List Source) (z : Environment) (ms : Modules) (m : ℕ)
    → refusals_of V ss ≡ [] → names ≡ names_of V (declarations_of ss) → body_refusals V names ss ≡ [] → IsBuilt z ms m V names ss
    → (c : ℕ) (name : List ℕ) → Every (λ (x : FoundMethod). IsMethod z ms m x.method.slot (method_signature z ms m c x.method.function)) (methods_named names.families c name)

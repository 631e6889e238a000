-- The bodies and initializers of a build (docs/LANGUAGE.md, "Statements"; the AngelScript manual, "Functions", "Script classes" and
-- "Inheritance"): each is judged by itself, in the order of sections and text, and gives at most its first refusal. Those of functions and
-- globals are numbered in the order of their declarations, and those of members by their family and their place there.
use Rattle.std.specs.Prelude.{◌≡◌, ℕ, ◌+◌, Contains, Bool, true, false, bytes_eq, if◌then◌else◌, length, List, [], ◌∷◌, ◌++◌, map, filter, find, sum_by, slice_get, option_map, option_and_then, Option, Some, None, Ok, Err}
use Rattle.std.specs.List.{filter_map, flat_map, list_any}
use Rattle.std.specs.Option.{option_map_or}
use Rattle.ang_kinds.specs.declared.error.Error.{Error}
use Rattle.ang_lex.specs.declared.token.Token.{Token}
use Rattle.ang_tree.specs.declared.declaration.BaseName.{BaseName}
use Rattle.ang_tree.specs.declared.type_name.TypeName.{TypeName}
use Rattle.ang_tree.specs.Stmt.{Init, Var, Body, Stmts}
use Rattle.ang_tree.specs.Declarations.{Decl, class, interface, function, globals, MemberTree, fields, method, constructor, SuperTree}
use Rattle.ang_types.specs.declared.arg_type.ArgType.{ArgType}
use Rattle.ang_types.specs.declared.asks.Refused.{Refused}
use Rattle.ang_typed.specs.declared.program.TypedClass as classes
use Rattle.ang_typed.specs.declared.program.Heading.{Heading}
use Rattle.ang_typed.specs.Typed as t
use Rattle.ang_view.specs.Registration.{RegistrationList}
use Rattle.ang_names_known.specs.declared.names.ScriptConstructor.{ScriptConstructor}
use Rattle.ang_names_known.specs.declared.names.Family.{Family}
use Rattle.ang_names_known.specs.declared.names.Field.{Field}
use Rattle.ang_names_known.specs.declared.names.ScriptMethod.{ScriptMethod}
use Rattle.ang_names_known.specs.declared.names.Names.{Names}
use Rattle.ang_names_known.specs.declared.names.ScriptFunction.{ScriptFunction}
use Rattle.ang_names_known.specs.declared.names.ScriptGlobal.{ScriptGlobal}
use Rattle.ang_check_operators.specs.declared.refusal.TypingRefusal.{TypingRefusal}
use Rattle.ang_check_context.specs.declared.scope.Within.{Within}
use Rattle.ang_names_known.specs.Items.{each_after}
use Rattle.ang_names_known.specs.Spaces.{ancestors_of}
use Rattle.ang_lex.specs.Text.{text_of, name_of}
use Rattle.ang_names_listed.specs.Sources.{Source}
use Rattle.ang_check_operators.specs.Refusals.{Typing}
use Rattle.ang_check_context.specs.Scope.{BodyContext}
use Rattle.ang_check.specs.Typing.{Base, this_parameter, typed_parameters, function_typing, method_body_typing, constructor_typing, global_typing, implicit_super}

-- ---- all of them

-- A body or an initializer as it is written, with the number of what it belongs to, in a section of some bytes: of a function of this
-- name, of a global of this type, of a method, of a constructor, and a class without a constructor, for which its base class has to
-- have one. Of a member the numbers are its family's and its place among the methods or the constructors there.
pub data Part : Type 0 where
  a_function : ℕ → List ℕ → Token → Body → Part
  a_global : ℕ → List ℕ → TypeName → Init → Part
  a_method : ℕ → ℕ → List ℕ → Token → Body → Part
  a_constructor : ℕ → ℕ → List ℕ → Token → Token → List BaseName → Option SuperTree → Stmts → Token → Part
  a_default : ℕ → List ℕ → Token → List BaseName → Part

-- the initializers of a declaration of globals, before which `first` globals stand
abbrev pub initializer_parts : ℕ → List ℕ → TypeName → List Var → Var → List Part
initializer_parts first text y before v = a_global (first + length before) text y v.initializer ∷ []

abbrev pub is_method_tree : MemberTree → Bool
is_method_tree (method a y x ps constant attributes b) = true
is_method_tree _ = false

abbrev pub is_constructor_tree : MemberTree → Bool
is_constructor_tree (constructor x ps left s ss right) = true
is_constructor_tree _ = false

-- the part of a member of class c, after the members before it: methods and constructors are numbered apart
abbrev pub member_parts : ℕ → List ℕ → Token → List BaseName → List MemberTree → MemberTree → List Part
member_parts c text own bases before (fields a y names semicolon) = []
member_parts c text own bases before (method a y x ps constant attributes b) = a_method c (length (filter is_method_tree before)) text x b ∷ []
member_parts c text own bases before (constructor x ps left s ss right) =
    a_constructor c (length (filter is_constructor_tree before)) text x own bases s ss right ∷ []

-- A class without a constructor has a part of its own, which stands in front of its members.
abbrev pub class_parts : ℕ → List ℕ → Token → List BaseName → List MemberTree → List Part
class_parts c text x bases members =
    (if list_any is_constructor_tree members then [] else a_default c text x bases ∷ []) ++ each_after (member_parts c text x bases) [] members

-- a declaration, and the bytes of its section
abbrev pub InSection : Type 0
InSection = List ℕ × Decl

abbrev pub function_count : InSection → ℕ
function_count (text, function y x ps b) = 1
function_count _ = 0

abbrev pub global_count : InSection → ℕ
global_count (text, globals vs) = length vs.items
global_count _ = 0

abbrev pub family_count : InSection → ℕ
family_count (text, class final word x bases left members right) = 1
family_count (text, interface word x bases left methods right) = 1
family_count _ = 0

-- The parts of a declaration, after those before it: a number is how many of the kind stand before. Each name of a `globals` has its own.
abbrev pub declaration_parts : List InSection → InSection → List Part
declaration_parts before (text, function y x ps b) = a_function (sum_by function_count before) text x b ∷ []
declaration_parts before (text, globals vs) = each_after (initializer_parts (sum_by global_count before) text vs.declared_type) [] vs.items
declaration_parts before (text, class final word x bases left members right) = class_parts (sum_by family_count before) text x bases members
declaration_parts before _ = []

-- the declarations of all sections, in order
abbrev pub in_sections : List Source → List InSection
in_sections sources = flat_map (λ (s : Source). map (λ d. (s.text, d)) s.declarations) sources

-- The parts of all sections, in order.
unfoldable pub parts_of : List Source → List Part
parts_of sources = each_after declaration_parts [] (in_sections sources)

-- ---- the name of a base class

abbrev pub names_family : List ℕ → Family → BaseName → Bool
names_family text f x = bytes_eq f.name (text_of text x.name)

-- the name of the base class as it is written after `:`; the family's own name stands where there is none
abbrev pub base_token : List ℕ → Option Family → Token → List BaseName → Token
base_token text None own bases = own
base_token text (Some f) own bases = option_map_or (λ (x : BaseName). x.name) (find (names_family text f) bases) own

-- ---- each by itself

-- what one of them gives, with the bytes of its section
pub data Judgement : Type 0 where
  of_function : List ℕ → Typing t.TypedFunction → Judgement
  of_global : List ℕ → Typing t.Global → Judgement
  of_member : List ℕ → Typing t.TypedFunction → Judgement
  of_default : List ℕ → Typing Base → Judgement

-- Over a view and the names that the scripts declare:
module _ (V : RegistrationList) (names : Names) where
  abbrev pub context_in : List ℕ → Option Within → BodyContext
  context_in text within = record { view = V; names = names; ancestors = ancestors_of names; text = text; within = within }

  abbrev pub within_of : ℕ → Bool → Within
  within_of c read_only = record { family = c; read_only = read_only }

  abbrev pub base_of : ℕ → Option ℕ
  base_of c = option_and_then (λ (f : Family). f.base) (slice_get names.families c)

  -- the base class of class c as it is written after `:`
  abbrev pub base_name : ℕ → List ℕ → Token → List BaseName → Token
  base_name c text own bases = base_token text (option_and_then (slice_get names.families) (base_of c)) own bases

  abbrev pub judged_function : List ℕ → Token → Body → Option ScriptFunction → List Judgement
  judged_function text x b None = []
  judged_function text x b (Some f) = of_function text (function_typing (context_in text None) f x b) ∷ []

  abbrev pub judged_global : List ℕ → TypeName → Init → Option ScriptGlobal → List Judgement
  judged_global text y i None = []
  judged_global text y i (Some g) = of_global text (global_typing (context_in text None) g y i) ∷ []

  abbrev pub method_at : ℕ → ℕ → Option ScriptMethod
  method_at c m = option_and_then (λ (f : Family). slice_get f.methods m) (slice_get names.families c)

  abbrev pub judged_method : ℕ → List ℕ → Token → Body → Option ScriptMethod → List Judgement
  judged_method c text x b None = []
  judged_method c text x b (Some m) =
      let w = within_of c m.read_only in of_member text (method_body_typing (context_in text (Some w)) w m.function x b) ∷ []

  abbrev pub constructor_at : ℕ → ℕ → Option ScriptConstructor
  constructor_at c k = option_and_then (λ (f : Family). slice_get f.constructors k) (slice_get names.families c)

  abbrev pub judged_constructor : ℕ → List ℕ → Token → Token → Option ℕ → Option SuperTree → Stmts → Token → Option ScriptConstructor → List Judgement
  judged_constructor c text x base b u ss close None = []
  judged_constructor c text x base b u ss close (Some k) =
      let w = within_of c false in of_member text (constructor_typing (context_in text (Some w)) w k.function x base b u ss close) ∷ []

  abbrev pub judged : Part → List Judgement
  judged (a_function n text x b) = judged_function text x b (slice_get names.functions n)
  judged (a_global n text y i) = judged_global text y i (slice_get names.globals n)
  judged (a_method c m text x b) = judged_method c text x b (method_at c m)
  judged (a_constructor c k text x own bases u ss close) =
      judged_constructor c text x (base_name c text own bases) (base_of c) u ss close (constructor_at c k)
  judged (a_default c text x bases) = of_default text (implicit_super names x.place (base_name c text x bases) (base_of c)) ∷ []

  unfoldable pub judgements : List Source → List Judgement
  judgements sources = flat_map judged (parts_of sources)

-- ---- what a build gets of it

-- a refusal in a section of these bytes
abbrev pub error_of : List ℕ → TypingRefusal → Error
error_of text r = record { kind = r.kind; place = r.place; name = name_of text r.name }

abbrev pub refused_of : List ℕ → TypingRefusal → Refused
refused_of text r = record { error = error_of text r; asks = r.asks; is_there = r.is_there }

abbrev pub refused_by : {A : Type 0} → List ℕ → Typing A → Option Refused
refused_by text (Ok a) = None
refused_by text (Err r) = Some (refused_of text r)

abbrev pub refusal_in : Judgement → Option Refused
refusal_in (of_function text f) = refused_by text f
refusal_in (of_global text g) = refused_by text g
refusal_in (of_member text f) = refused_by text f
refusal_in (of_default text b) = refused_by text b

abbrev pub given : {A : Type 0} → Typing A → Option A
given (Ok a) = Some a
given (Err r) = None

abbrev pub function_given : Judgement → Option t.TypedFunction
function_given (of_function text f) = given f
function_given _ = None

abbrev pub member_given : Judgement → Option t.TypedFunction
member_given (of_member text f) = given f
member_given _ = None

abbrev pub global_given : Judgement → Option t.Global
global_given (of_global text g) = given g
global_given _ = None

-- What is refused of the bodies and initializers, of each its first, in order.
unfoldable pub body_refusals : RegistrationList → Names → List Source → List Refused
body_refusals V names sources = filter_map refusal_in (judgements V names sources)

-- ---- families, methods and imports of the resolved tree

-- the types of the fields that a family declares itself; an interface has none
abbrev pub own_types : Family → List ArgType
own_types f = map (λ (x : Field). x.written.ty) f.fields

-- the slot and the body of a method, where it has one
abbrev pub slot_and_body : ScriptMethod → Option (ℕ × ℕ)
slot_and_body m = option_map (λ k. (m.slot, k)) m.body

abbrev pub typed_class : Family → classes.TypedClass
typed_class f = record {
  fields = own_types f;
  base = f.base;
  above = f.above;
  chosen = filter_map slot_and_body f.methods;
  rank = f.rank;
}

abbrev pub typed_classes : List Family → List classes.TypedClass
typed_classes fs = map typed_class fs

abbrev pub method_heading : ℕ → ScriptMethod → Heading
method_heading c m = record {
  parameters = this_parameter (record { family = c; read_only = m.read_only }) ∷ typed_parameters m.function;
  result = m.function.result.ty;
}

abbrev pub method_headings : List Family → List Heading
method_headings fs = each_after (λ before (f : Family). map (method_heading (length before)) f.methods) [] fs

abbrev pub import_heading : ScriptFunction → Heading
import_heading f = record { parameters = typed_parameters f; result = f.result.ty }

-- The resolved tree of scripts of which nothing is refused.
unfoldable pub program_of : RegistrationList → Names → List Source → t.Program
program_of V names sources =
    let found = judgements V names sources in record {
      functions = filter_map function_given found ++ filter_map member_given found;
      globals = filter_map global_given found;
      classes = typed_classes names.families;
      methods = method_headings names.families;
      imports = map import_heading names.imports;
    }

-- ---- bodies by number

-- Over a view and names, in a resolved tree:
module _ (V : RegistrationList) (names : Names) (sources : List Source) (p : t.Program) where
  -- body k of the tree is a function that was typed so
  abbrev pub IsBody : ℕ → Typing t.TypedFunction → Type 0
  IsBody k typing = (f : t.TypedFunction) × (typing ≡ Ok f) × (slice_get p.functions k ≡ Some f)

  -- Method m of class c is written in some section, and its body k is what was typed there.
  pub record HasMethodBody (c m k : ℕ) (x : ScriptMethod) : Type 0 where
    pub text : List ℕ
    pub name : Token
    pub tree : Body
    pub written : Contains (parts_of sources) (a_method c m text name tree)
    pub typed : let w = within_of V names c x.read_only in IsBody k (method_body_typing (context_in V names text (Some w)) w x.function name tree)

  -- The same of constructor m of class c.
  pub record HasConstructorBody (c m : ℕ) (x : ScriptConstructor) : Type 0 where
    pub text : List ℕ
    pub name : Token
    pub own : Token
    pub bases : List BaseName
    pub super : Option SuperTree
    pub tree : Stmts
    pub close : Token
    pub written : Contains (parts_of sources) (a_constructor c m text name own bases super tree close)
    pub typed : let w = within_of V names c false in
        IsBody x.body (constructor_typing (context_in V names text (Some w)) w x.function name (base_name V names c text own bases) (base_of V names c) super tree close)

  -- Each body of the names has the function at its number that was typed of its own tree.
  pub record HasBodies : Type 0 where
    pub methods : (c m k : ℕ) (x : ScriptMethod) → method_at V names c m ≡ Some x → x.body ≡ Some k → HasMethodBody c m k x
    pub constructors : (c m : ℕ) (x : ScriptConstructor) → constructor_at V names c m ≡ Some x → HasConstructorBody c m x

-- What scripts declare (docs/LANGUAGE.md, "Names of a build"; the AngelScript manual, "Global entities" and "Script classes"): all
-- declarations, in the order of sections and text, with the members of classes and interfaces. Each has its heading, and where it stands;
-- its body or initializer stands there too, which no phase over the declarations looks at.
use Rattle.std.specs.Prelude.{ℕ, ◌+◌, Bool, true, false, List, [], ◌∷◌, ◌++◌, map, is_some, Option, Some, None}
use Rattle.std.specs.List.{list_any, filter_map, flat_map}
use Rattle.ang_lex.specs.declared.token.Token.{Token}
use Rattle.ang_lex.specs.declared.token.TokenKind.{TokenKind}
use Rattle.ang_lex.specs.declared.token.TokenKind.TheVariants as k
use Rattle.ang_tree.specs.declared.type_name.TypeName.{TypeName}
use Rattle.ang_tree.specs.declared.declaration.BaseName.{BaseName}
use Rattle.ang_tree.specs.declared.declaration.FieldName.{FieldName}
use Rattle.ang_tree.specs.Stmt.{Var}
use Rattle.ang_tree.specs.Declarations.{Decl, class, interface, import, function, globals, empty, MemberTree, fields, method, constructor, MethodTree}
use Rattle.ang_names_known.specs.declared.names.Access.{Access}
use Rattle.ang_names_known.specs.declared.names.Access.TheVariants as access
use Rattle.ang_names_known.specs.declared.names.Origin.{Origin}
use Rattle.ang_names_listed.specs.declared.listed.Attributes.{Attributes}
use Rattle.ang_names_listed.specs.declared.listed.ListedDeclaration.{ListedDeclaration}
use Rattle.ang_names_listed.specs.declared.listed.ListedMember.{ListedMember}
use Rattle.ang_names_listed.specs.declared.listed.MemberKind.TheVariants as member
use Rattle.ang_names_listed.specs.declared.listed.Part.{Part}
use Rattle.ang_names_listed.specs.declared.listed.Part.TheVariants as part
use Rattle.ang_names_listed.specs.declared.listed.ListedFamily.{ListedFamily}
use Rattle.ang_lex.specs.Text.{text_of}
use Rattle.ang_names_listed.specs.Sources.{Source}

-- ---- members

abbrev pub access_by : TokenKind → Access
access_by k.Private = access.Private
access_by k.Protected = access.Protected
access_by _ = access.Public

abbrev pub access_of : Option Token → Access
access_of None = access.Public
access_of (Some t) = access_by t.kind

abbrev pub is_final_word : TokenKind → Bool
is_final_word k.Final = true
is_final_word _ = false

abbrev pub is_override_word : TokenKind → Bool
is_override_word k.Override = true
is_override_word _ = false

abbrev pub attributes_of : Option Token → List Token → Attributes
attributes_of constant words = record {
  read_only = is_some constant;
  is_final = list_any (λ (t : Token). is_final_word t.kind) words;
  is_override = list_any (λ (t : Token). is_override_word t.kind) words;
}

abbrev pub field_as : Access → TypeName → FieldName → ListedMember
field_as a y f = record { name = f.name; access = a; kind = member.Field y }

-- Each name of a declaration of fields is a member of its own.
abbrev pub members_by : MemberTree → List ListedMember
members_by (fields a y names semicolon) = map (field_as (access_of a) y) names
members_by (method a y x ps constant attributes b) =
    record { name = x; access = access_of a; kind = member.Method y ps.items (attributes_of constant attributes) } ∷ []
members_by (constructor x ps left s ss right) = record { name = x; access = access.Public; kind = member.Constructor ps.items } ∷ []

-- a method of an interface, which is public
abbrev pub member_of : MethodTree → ListedMember
member_of m = record { name = m.name; access = access.Public; kind = member.Method m.result_type m.parameters.items (attributes_of m.constant []) }

abbrev pub base_names : List BaseName → List Token
base_names bases = map (λ (b : BaseName). b.name) bases

abbrev pub class_shape : Option Token → List BaseName → List MemberTree → ListedFamily
class_shape final bases members = record { is_class = true; is_final = is_some final; bases = base_names bases; members = flat_map members_by members }

abbrev pub interface_shape : List BaseName → List MethodTree → ListedFamily
interface_shape bases methods = record { is_class = false; is_final = false; bases = base_names bases; members = map member_of methods }

-- ---- declarations

abbrev pub stands_at : ℕ → ℕ → ℕ → Origin
stands_at script declaration variable = record { script = script; declaration = declaration; variable = variable }

-- In one section, whose number and bytes are these:
module _ (script : ℕ) (text : List ℕ) where
  abbrev pub declared_as : ℕ → ℕ → Token → Part → ListedDeclaration
  declared_as n i name p = record { origin = stands_at script n i; text = text; name = name; part = p }

  -- the names of a declaration of globals, each of which has the type of the whole
  abbrev pub globals_from : ℕ → TypeName → ℕ → List Var → List ListedDeclaration
  globals_from n y i [] = []
  globals_from n y i (v ∷ vs) = declared_as n i v.name (part.Global y) ∷ globals_from n y (i + 1) vs

  -- What the declaration at this place declares: each name of a declaration of globals is a declaration of its own, and a `;` alone
  -- declares nothing.
  abbrev pub declared_at : ℕ → Decl → List ListedDeclaration
  declared_at n (class final word x bases left members right) = declared_as n 0 x (part.Family (class_shape final bases members)) ∷ []
  declared_at n (interface word x bases left methods right) = declared_as n 0 x (part.Family (interface_shape bases methods)) ∷ []
  declared_at n (import word y x ps from module_name semicolon) = declared_as n 0 x (part.Import y ps.items) ∷ []
  declared_at n (function y x ps b) = declared_as n 0 x (part.Function y ps.items) ∷ []
  declared_at n (globals vs) = globals_from n vs.declared_type 0 vs.items
  declared_at n (empty semicolon) = []

  abbrev pub declared_from : ℕ → List Decl → List ListedDeclaration
  declared_from n [] = []
  declared_from n (d ∷ ds) = declared_at n d ++ declared_from (n + 1) ds

abbrev pub declarations_from : ℕ → List Source → List ListedDeclaration
declarations_from s [] = []
declarations_from s (x ∷ xs) = declared_from s x.text 0 x.declarations ++ declarations_from (s + 1) xs

-- The declarations of all sections, in order.
unfoldable pub declarations_of : List Source → List ListedDeclaration
declarations_of xs = declarations_from 0 xs

-- ---- families

-- a class or an interface: where it stands, the bytes of its section, its name and what it declares
pub record Declaring : Type 0 where
  pub origin : Origin
  pub text : List ℕ
  pub name : Token
  pub shape : ListedFamily

abbrev pub declaring_by : ListedDeclaration → Part → Option Declaring
declaring_by d (part.Family s) = Some (record { origin = d.origin; text = d.text; name = d.name; shape = s })
declaring_by d _ = None

abbrev pub declaring_of : ListedDeclaration → Option Declaring
declaring_of d = declaring_by d d.part

-- The classes and interfaces of the declarations, in order: their places are their numbers.
unfoldable pub families_of : List ListedDeclaration → List Declaring
families_of ds = filter_map declaring_of ds

-- the name that is declared
abbrev pub declared_name : ListedDeclaration → List ℕ
declared_name d = text_of d.text d.name

abbrev pub family_name : Declaring → List ℕ
family_name d = text_of d.text d.name

-- Types, bases and members that can't stand where they stand, and too many of them (docs/LANGUAGE.md, "Names of a build"; the
-- AngelScript manual, "Data types", "Parameter references" and "Inheritance"; the limits are this profile's own). Of a declaration the
-- first refusal in the order of the text counts.
use Rattle.std.specs.Prelude.{ℕ, nat_lt, Bool, true, false, not, ◌&&◌, ◌||◌, if◌then◌else◌, List, [], ◌∷◌, ◌++◌, length, Option, Some, None, Ok, Err, bytes_eq}
use Rattle.std.specs.List.{list_any}
use Rattle.std.specs.Option.{option_or}
use Rattle.std.proofs.Math.Bool.{beq}
use Rattle.ang_kinds.specs.declared.error.ErrorKind.{ErrorKind}
use Rattle.ang_kinds.specs.declared.error.ErrorKind.TheVariants as kind
use Rattle.ang_lex.specs.declared.token.Token.{Token}
use Rattle.ang_tree.specs.declared.declaration.Parameter.{Parameter}
use Rattle.ang_tree.specs.declared.type_name.TypeName.{TypeName}
use Rattle.ang_types.specs.declared.asks.Asks.TheVariants as asks
use Rattle.ang_types.specs.declared.asks.Refused.{Refused}
use Rattle.ang_names_listed.specs.declared.listed.ListedDeclaration.{ListedDeclaration}
use Rattle.ang_names_listed.specs.declared.listed.ListedMember.{ListedMember}
use Rattle.ang_names_listed.specs.declared.listed.MemberKind.{MemberKind}
use Rattle.ang_names_listed.specs.declared.listed.MemberKind.TheVariants as member
use Rattle.ang_names_listed.specs.declared.listed.Part.{Part}
use Rattle.ang_names_listed.specs.declared.listed.Part.TheVariants as part
use Rattle.ang_names_listed.specs.declared.listed.ListedFamily.{ListedFamily}
use Rattle.ang_names_listed.specs.declared.role.TypePosition.{TypePosition}
use Rattle.ang_names_listed.specs.declared.role.TypePosition.TheVariants as role
use Rattle.ang_names_known.specs.Spaces.{Space}
use Rattle.ang_names_listed.specs.Declarations.{Declaring, families_of, family_name}
use Rattle.ang_types.specs.Refusals.{plain_refusal}
use Rattle.ang_lex.specs.Text.{text_of}
use Rattle.ang_names_listed.specs.Sources.{error_at}
use Rattle.ang_names_listed.specs.Spellings.{same_spellings}
use Rattle.ang_names_listed.specs.Types.{TypeOrError, type_in, is_unknown_type}
use Rattle.ang_names_classes.specs.Headings.{parameter_role}

abbrev pub refusal_if : Bool → ErrorKind → List ℕ → Token → Option Refused
refusal_if holds why text t = if holds then Some (plain_refusal (error_at why text t)) else None

-- ---- types

-- an unknown name is a use of it
abbrev pub type_refused : ErrorKind → List ℕ → Token → Refused
type_refused why text t = record {
  error = error_at why text t;
  asks = if is_unknown_type why then Some asks.Type else None;
  is_there = false;
}

-- why the type of this name is refused, at the name
abbrev pub why_refused : List ℕ → Token → TypeOrError → Option Refused
why_refused text t (Ok y) = None
why_refused text t (Err why) = Some (type_refused why text t)

-- ---- headings

abbrev pub most_parameters : ℕ
most_parameters = 32

-- the role of the result of an import, or of any other function
abbrev pub result_role : Bool → TypePosition
result_role imported = if imported then role.ImportResult else role.Result

-- more parameters than a function can have, at its name
abbrev pub parameter_limit : List ℕ → Token → List Parameter → Option Refused
parameter_limit text name ps = refusal_if (nat_lt most_parameters (length ps)) kind.Limit text name

-- In the space of a build, in a section of these bytes:
module _ (E : Space) (text : List ℕ) where
  abbrev pub type_refusal_of : TypePosition → TypeName → Option Refused
  type_refusal_of r y = why_refused text y.name (type_in E r text y)

  -- the first refusal of a parameter, of an import's or of another function's
  abbrev pub parameters_refusal : Bool → List Parameter → Option Refused
  parameters_refusal imported [] = None
  parameters_refusal imported (p ∷ ps) =
      option_or (type_refusal_of (parameter_role imported p) p.declared_type) (parameters_refusal imported ps)

  -- what stands after the name
  abbrev pub parameter_list_refusal : Bool → Token → List Parameter → Option Refused
  parameter_list_refusal imported name ps = option_or (parameter_limit text name ps) (parameters_refusal imported ps)

  -- Of an import or of another function, in the order of the text: the result's type, the name, the parameters' types.
  abbrev pub heading_refusal : Bool → Token → TypeName → List Parameter → Option Refused
  heading_refusal imported name y ps = option_or (type_refusal_of (result_role imported) y) (parameter_list_refusal imported name ps)

-- ---- members

-- Of members of one family, in a section of these bytes:
module _ (text : List ℕ) where
  -- Under one name a field stands beside nothing, methods beside those of other parameters or `const` (`final` and `override` tell none
  -- apart), and constructors beside those of other parameters; a method named as the class is no constructor.
  abbrev pub excludes_member : MemberKind → MemberKind → Bool
  excludes_member (member.Field y) other = true
  excludes_member (member.Method y ps a) (member.Field z) = true
  excludes_member (member.Method y ps a) (member.Method z qs b) = same_spellings text ps text qs && beq a.read_only b.read_only
  excludes_member (member.Method y ps a) (member.Constructor qs) = false
  excludes_member (member.Constructor ps) (member.Field z) = true
  excludes_member (member.Constructor ps) (member.Method z qs b) = false
  excludes_member (member.Constructor ps) (member.Constructor qs) = same_spellings text ps text qs

  abbrev pub clashes_with_member : ListedMember → ListedMember → Bool
  clashes_with_member m earlier = bytes_eq (text_of text m.name) (text_of text earlier.name) && excludes_member m.kind earlier.kind

  abbrev pub duplicate : List ListedMember → ListedMember → Option Refused
  duplicate before m = refusal_if (list_any (clashes_with_member m) before) kind.Duplicate text m.name

-- In the space of a build, in a section of these bytes:
module _ (E : Space) (text : List ℕ) where
  -- a member of the family of this name, after those before it: its type, its name, then its parameters
  abbrev pub member_refusal : List ℕ → List ListedMember → ListedMember → MemberKind → Option Refused
  member_refusal family before m (member.Field y) = option_or (type_refusal_of E text role.Field y) (duplicate text before m)
  member_refusal family before m (member.Method y ps a) =
      option_or (type_refusal_of E text role.Result y) (option_or (duplicate text before m) (parameter_list_refusal E text false m.name ps))
  member_refusal family before m (member.Constructor ps) =
      option_or (refusal_if (not (bytes_eq (text_of text m.name) family)) kind.BadType text m.name)
      (option_or (duplicate text before m) (parameter_list_refusal E text false m.name ps))

  abbrev pub members_refusal : List ℕ → List ListedMember → List ListedMember → Option Refused
  members_refusal family before [] = None
  members_refusal family before (m ∷ ms) = option_or (member_refusal family before m m.kind) (members_refusal family (before ++ m ∷ []) ms)

-- ---- bases

abbrev pub most_members : ℕ
most_members = 256

abbrev pub shape_named : List Declaring → List ℕ → Option ListedFamily
shape_named [] name = None
shape_named (d ∷ ds) name = if bytes_eq (family_name d) name then Some d.shape else shape_named ds name

abbrev pub names_class : Option ListedFamily → Bool
names_class None = false
names_class (Some s) = s.is_class

-- A name of no family, a second class, a `final` class, and a class as an interface's base.
abbrev pub is_bad_base : Bool → Bool → Option ListedFamily → Bool
is_bad_base is_class has_class None = true
is_bad_base is_class has_class (Some s) = s.is_class && (not is_class || has_class || s.is_final)

-- Among the families of a build, in a section of these bytes:
module _ (families : List Declaring) (text : List ℕ) where
  -- the bases from here on of a class or an interface, where one before named a class
  abbrev pub bases_refusal : Bool → Bool → List Token → Option Refused
  bases_refusal is_class has_class [] = None
  bases_refusal is_class has_class (b ∷ bs) =
      let s = shape_named families (text_of text b) in
      option_or (refusal_if (is_bad_base is_class has_class s) kind.BadBase text b) (bases_refusal is_class (has_class || names_class s) bs)

-- ---- declarations

-- too many members, at the name
abbrev pub member_limit : ListedDeclaration → ListedFamily → Option Refused
member_limit d s = refusal_if (nat_lt most_members (length s.members)) kind.Limit d.text d.name

-- In the order of the text: how many members, the bases, the members.
abbrev pub family_refusal : Space → List Declaring → ListedDeclaration → ListedFamily → Option Refused
family_refusal E families d s =
    option_or (member_limit d s)
    (option_or (bases_refusal families d.text s.is_class false s.bases) (members_refusal E d.text (text_of d.text d.name) [] s.members))

abbrev pub part_refusal : Space → List Declaring → ListedDeclaration → Part → Option Refused
part_refusal E families d (part.Family s) = family_refusal E families d s
part_refusal E families d (part.Function y ps) = heading_refusal E d.text false d.name y ps
part_refusal E families d (part.Import y ps) = heading_refusal E d.text true d.name y ps
part_refusal E families d (part.Global y) = type_refusal_of E d.text role.Variable y

unfoldable pub type_refusal : Space → List ListedDeclaration → ListedDeclaration → Option Refused
type_refusal E all d = part_refusal E (families_of all) d d.part

-- Headings as they are written, with what their types mean, and methods by them (docs/LANGUAGE.md, "Names of a build"; the AngelScript
-- manual, "Functions" and "Inheritance").
use Rattle.std.specs.Prelude.{ℕ, Bool, false, ◌&&◌, if◌then◌else◌, List, map, length, unwrap_or, Option, Some, None, bytes_eq}
use Rattle.std.specs.List.{filter_map, flat_map, position}
use Rattle.std.proofs.Math.Bool.{beq}
use Rattle.ang_lex.specs.declared.token.Token.{Token}
use Rattle.ang_tree.specs.declared.declaration.Parameter.{Parameter}
use Rattle.ang_tree.specs.declared.type_name.TypeName.{TypeName}
use Rattle.ang_types.specs.declared.arg_type.ArgType.TheVariants as type
use Rattle.ang_names_known.specs.declared.names.Origin.{Origin}
use Rattle.ang_names_known.specs.declared.names.ScriptFunction.{ScriptFunction}
use Rattle.ang_names_known.specs.declared.names.ScriptParameter.{ScriptParameter}
use Rattle.ang_names_known.specs.declared.names.Written.{Written}
use Rattle.ang_names_known.specs.Lookup.{same_parameters}
use Rattle.ang_names_known.specs.Spaces.{Space}
use Rattle.ang_names_listed.specs.declared.listed.ListedMember.{ListedMember}
use Rattle.ang_names_listed.specs.declared.listed.MemberKind.{MemberKind}
use Rattle.ang_names_listed.specs.declared.listed.MemberKind.TheVariants as member
use Rattle.ang_names_listed.specs.Declarations.{Declaring}
use Rattle.ang_names_listed.specs.declared.role.TypePosition.{TypePosition}
use Rattle.ang_names_listed.specs.declared.role.TypePosition.TheVariants as role
use Rattle.ang_lex.specs.Text.{text_of, name_of}
use Rattle.ang_names_listed.specs.Types.{written_in, pass_of}

-- the role of a parameter of an import, or of any other function
abbrev pub parameter_role : Bool → Parameter → TypePosition
parameter_role imported p = if imported then role.ImportParameter (pass_of p.reference) else role.Parameter (pass_of p.reference)

abbrev pub function_with : Origin → List ℕ → Token → Written → List ScriptParameter → ScriptFunction
function_with o text x result ps = record { name = text_of text x; place = x.place; result = result; params = ps; origin = o }

-- In the space of a build, where a function is imported or not:
module _ (E : Space) where
  abbrev pub parameter_of : List ℕ → Bool → Parameter → ScriptParameter
  parameter_of text imported p = record {
    written = written_in E (parameter_role imported p) text p.declared_type;
    pass = pass_of p.reference;
    name = name_of text p.name;
  }

  -- a function or an import, with this result
  abbrev pub function_as : Origin → List ℕ → Token → Written → Bool → List Parameter → ScriptFunction
  function_as o text x result imported ps = function_with o text x result (map (parameter_of text imported) ps)

  -- a function or a method
  abbrev pub heading_of : Origin → List ℕ → Token → TypeName → List Parameter → ScriptFunction
  heading_of o text x y ps = function_as o text x (written_in E role.Result text y) false ps

  -- a constructor, which gives nothing
  abbrev pub maker_of : Origin → List ℕ → Token → List Parameter → ScriptFunction
  maker_of o text x ps = function_as o text x (record { ty = type.Void; constant = false; const_handle = false }) false ps

  -- ---- methods

  -- a method's heading, and whether it is `const`
  abbrev pub signature_by : Declaring → ListedMember → MemberKind → Option (ScriptFunction × Bool)
  signature_by d m (member.Method y ps a) = Some (heading_of d.origin d.text m.name y ps, a.read_only)
  signature_by d m _ = None

  -- those of one family
  abbrev pub signatures_in : Declaring → List (ScriptFunction × Bool)
  signatures_in d = filter_map (λ (m : ListedMember). signature_by d m m.kind) d.shape.members

  -- All methods of all families, in order: their places are their numbers.
  unfoldable pub signatures_of : List Declaring → List (ScriptFunction × Bool)
  signatures_of ds = flat_map signatures_in ds

-- methods of equal name, parameters and `const` stand for one another
abbrev pub same_signature : ScriptFunction × Bool → ScriptFunction × Bool → Bool
same_signature a b = bytes_eq a.0.name b.0.name && same_parameters a.0.params b.0.params && beq a.1 b.1

-- the number of the first method of this signature; how many there are, where none is
abbrev pub slot_of : List (ScriptFunction × Bool) → ScriptFunction × Bool → ℕ
slot_of all s = unwrap_or (position (same_signature s) all) (length all)

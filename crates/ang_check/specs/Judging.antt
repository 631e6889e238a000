-- What judging the parts of a build gave so far.
use Rattle.std.specs.Prelude.{◌≡◌, ℕ, ◌+◌, if◌then◌else◌, List, [], ◌∷◌, ◌++◌, Some, drop, filter, length, map, option_to_list, slice_get, sum_by}
use Rattle.std.specs.List.{filter_map, flat_map, list_any}
use Rattle.ang_lex.specs.declared.token.Token.{Token}
use Rattle.ang_tree.specs.declared.declaration.BaseName.{BaseName}
use Rattle.ang_tree.specs.Declarations.{MemberTree}
use Rattle.ang_types.specs.declared.arg_type.ArgType.{ArgType}
use Rattle.ang_names_known.specs.declared.names.Family.{Family}
use Rattle.ang_names_known.specs.declared.names.Field.{Field}
use Rattle.ang_check.specs.declared.members.MembersLeft.{MembersLeft}
use Rattle.ang_check.specs.declared.members.OfClass.{OfClass}
use Rattle.ang_tree.specs.declared.type_name.TypeName.{TypeName}
use Rattle.ang_tree.specs.Stmt.{Var}
use Rattle.ang_view.specs.Registration.{RegistrationList}
use Rattle.ang_typed.specs.Typed as t
use Rattle.ang_typed.specs.View.{view_function, view_global}
use Rattle.ang_names_known.specs.declared.names.Names.{Names}
use Rattle.ang_names_known.specs.Items.{each_after}
use Rattle.ang_check.specs.declared.found.Found.{Found}
use Rattle.ang_check.specs.declared.parts.Left.{Left}
use Rattle.ang_check.specs.Bodies.{InSection, Judgement, Part, a_default, base_of, base_name, is_method_tree, is_constructor_tree, member_parts, function_count, global_count, family_count, initializer_parts, declaration_parts, judged, function_given, member_given, global_given, refusal_in, typed_classes, method_headings, import_heading}
use Rattle.ang_names_listed.specs.Sources.{Source}

-- One judgement more.
pub record Noted (old new : Found) (j : Judgement) : Type 0 where
  pub functions : map view_function new.functions.items ≡ map view_function old.functions.items ++ option_to_list (function_given j)
  pub members : map view_function new.members.items ≡ map view_function old.members.items ++ option_to_list (member_given j)
  pub globals : map view_global new.globals.items ≡ map view_global old.globals.items ++ option_to_list (global_given j)
  pub refused : new.refused.items ≡ old.refused.items ++ option_to_list (refusal_in j)

-- Some judgements more.
pub record Adds (old new : Found) (js : List Judgement) : Type 0 where
  pub functions : map view_function new.functions.items ≡ map view_function old.functions.items ++ filter_map function_given js
  pub members : map view_function new.members.items ≡ map view_function old.members.items ++ filter_map member_given js
  pub globals : map view_global new.globals.items ≡ map view_global old.globals.items ++ filter_map global_given js
  pub refused : new.refused.items ≡ old.refused.items ++ filter_map refusal_in js

-- What is left of a class's methods and constructors after these members.
pub record IsMemberLeft (f : Family) (left : MembersLeft) (before : List MemberTree) : Type 0 where
  pub methods : left.methods.now ≡ drop (length (filter is_method_tree before)) f.methods
  pub constructors : left.constructors.now ≡ drop (length (filter is_constructor_tree before)) f.constructors

-- the type of a field
abbrev pub field_type : Field → ArgType
field_type x = x.written.ty

-- the part of its own that a class without a constructor has
abbrev pub default_parts : ℕ → List ℕ → Token → List BaseName → List MemberTree → List Part
default_parts c text x bases members = if list_any is_constructor_tree members then [] else a_default c text x bases ∷ []

-- a list without its first item
abbrev pub tail : {A : Type 0} → List A → List A
tail [] = []
tail (x ∷ xs) = xs

-- Over a view and the names that the scripts declare:
module _ (V : RegistrationList) (names : Names) where
  -- The names whose bodies and initializers come after these declarations.
  pub record IsLeft (left : Left) (before : List InSection) : Type 0 where
    pub functions : left.functions.now ≡ drop (sum_by function_count before) names.functions
    pub globals : left.globals.now ≡ drop (sum_by global_count before) names.globals
    pub families : left.families.now ≡ drop (sum_by family_count before) names.families

  -- These declarations were judged, whatever stands before them.
  pub record Judges (was is : Left) (old new : Found) (more : List InSection) : Type 0 where
    pub left : (before : List InSection) → IsLeft was before → IsLeft is (before ++ more)
    pub added : (before : List InSection) → IsLeft was before → Adds old new (flat_map (judged V names) (each_after declaration_parts before more))

  -- The initializers of a declaration of globals of this type were judged, whatever globals stand before them.
  pub record Initializes (was is : Left) (old new : Found) (text : List ℕ) (y : TypeName) (vs : List Var) : Type 0 where
    pub functions : is.functions.now ≡ was.functions.now
    pub families : is.families.now ≡ was.families.now
    pub globals : (n : ℕ) → was.globals.now ≡ drop n names.globals → is.globals.now ≡ drop (n + length vs) names.globals
    pub added : (n : ℕ) → was.globals.now ≡ drop n names.globals → Adds old new (flat_map (judged V names) (each_after (initializer_parts n text y) [] vs))

  -- ---- members

  -- This is the class of this family as it is written, with this name and these names after `:`.
  pub record IsOf (class : OfClass) (f : Family) (own : Token) (bases : List BaseName) : Type 0 where
    pub family : slice_get names.families class.number ≡ Some f
    pub base : class.base ≡ base_of V names class.number
    pub name : class.base_name ≡ base_name V names class.number class.text.now own bases

  -- The members of the class were judged, whatever stands before them.
  pub record JudgesMembers (class : OfClass) (f : Family) (own : Token) (bases : List BaseName) (was is : MembersLeft) (old new : Found) (more : List MemberTree) : Type 0 where
    pub left : (before : List MemberTree) → IsMemberLeft f was before → IsMemberLeft f is (before ++ more)
    pub added : (before : List MemberTree) → IsMemberLeft f was before
        → Adds old new (flat_map (judged V names) (each_after (member_parts class.number class.text.now own bases) before more))

-- the declarations of a section
abbrev pub section_of : Source → List InSection
section_of s = map (λ d. (s.text, d)) s.declarations

-- All that these judgements give.
pub record Holds (found : Found) (js : List Judgement) : Type 0 where
  pub functions : map view_function found.functions.items ≡ filter_map function_given js
  pub members : map view_function found.members.items ≡ filter_map member_given js
  pub globals : map view_global found.globals.items ≡ filter_map global_given js
  pub refused : found.refused.items ≡ filter_map refusal_in js

-- the resolved tree of these judgements
abbrev pub program_with : Names → List Judgement → t.Program
program_with names js = record {
  functions = filter_map function_given js ++ filter_map member_given js;
  globals = filter_map global_given js;
  classes = typed_classes names.families;
  methods = method_headings names.families;
  imports = map import_heading names.imports;
}

-- This is the resolved tree of all judgements that gave this.
abbrev pub IsTreeOf : Names → Found → t.Program → Type 0
IsTreeOf names found p = (js : List Judgement) → Holds found js → p ≡ program_with names js

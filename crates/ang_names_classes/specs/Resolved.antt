-- The names of declarations, with what their types mean (docs/LANGUAGE.md, "Names of a build"; the AngelScript manual, "Functions",
-- "Global variables", "Script classes" and "Inheritance"). All of it is said of any declarations, refused ones too: these are
-- families like the others, a name means the first of its name, and a type that is refused stands as `void`.
use Rattle.std.specs.Prelude.{ℕ, ◌+◌, Bool, true, false, List, [], ◌∷◌, map, length, drop, filter, find, Option, Some, None, if◌then◌else◌}
use Rattle.std.specs.List.{filter_map, flat_map, range_with_len}
use Rattle.ang_view.specs.Registration.{RegistrationList}
use Rattle.ang_tree.specs.declared.declaration.Parameter.{Parameter}
use Rattle.ang_tree.specs.declared.type_name.TypeName.{TypeName}
use Rattle.ang_names_graph.specs.Graphs.{above, order_of, reach_of}
use Rattle.ang_names_known.specs.declared.names.ScriptConstructor.{ScriptConstructor}
use Rattle.ang_names_known.specs.declared.names.Family.{Family}
use Rattle.ang_names_known.specs.declared.names.Field.{Field}
use Rattle.ang_names_known.specs.declared.names.ScriptMethod.{ScriptMethod}
use Rattle.ang_names_known.specs.declared.names.Names.{Names}
use Rattle.ang_names_known.specs.declared.names.ScriptFunction.{ScriptFunction}
use Rattle.ang_names_known.specs.declared.names.ScriptGlobal.{ScriptGlobal}
use Rattle.ang_names_known.specs.declared.names.Written.{Written}
use Rattle.ang_names_listed.specs.declared.listed.Attributes.{Attributes}
use Rattle.ang_names_listed.specs.declared.listed.ListedDeclaration.{ListedDeclaration}
use Rattle.ang_names_listed.specs.declared.listed.ListedMember.{ListedMember}
use Rattle.ang_names_listed.specs.declared.listed.MemberKind.{MemberKind}
use Rattle.ang_names_listed.specs.declared.listed.MemberKind.TheVariants as member
use Rattle.ang_names_listed.specs.declared.listed.Part.{Part}
use Rattle.ang_names_listed.specs.declared.listed.Part.TheVariants as part
use Rattle.ang_names_listed.specs.declared.role.TypePosition.TheVariants as role
use Rattle.ang_names_known.specs.Spaces.{Space}
use Rattle.ang_names_known.specs.Items.{each_after}
use Rattle.ang_names_listed.specs.Declarations.{Declaring, families_of, family_name, declared_name}
use Rattle.ang_lex.specs.Text.{text_of}
use Rattle.ang_names_listed.specs.Types.{written_in}
use Rattle.ang_names_classes.specs.Headings.{function_as, heading_of, maker_of, signatures_of, slot_of}
use Rattle.ang_names_classes.specs.Hierarchy.{field_type, field_types_at, holds, is_base, is_parent}

-- ---- the space of a build

-- the view, and the families of all declarations, whether before or after
abbrev pub space_of_declared : RegistrationList → List ListedDeclaration → Space
space_of_declared V all = record { view = V; families = map family_name (families_of all) }

-- ---- functions, imports and globals

-- In the space of a build:
module _ (E : Space) where
  abbrev pub import_of : ListedDeclaration → TypeName → List Parameter → ScriptFunction
  import_of d y ps = function_as E d.origin d.text d.name (written_in E role.ImportResult d.text y) true ps

  abbrev pub global_with : ListedDeclaration → TypeName → ScriptGlobal
  global_with d y = record {
    name = text_of d.text d.name;
    place = d.name.place;
    written = written_in E role.Variable d.text y;
    origin = d.origin;
  }

  abbrev pub function_by : ListedDeclaration → Part → Option ScriptFunction
  function_by d (part.Function y ps) = Some (heading_of E d.origin d.text d.name y ps)
  function_by d _ = None

  abbrev pub import_by : ListedDeclaration → Part → Option ScriptFunction
  import_by d (part.Import y ps) = Some (import_of d y ps)
  import_by d _ = None

  abbrev pub global_by : ListedDeclaration → Part → Option ScriptGlobal
  global_by d (part.Global y) = Some (global_with d y)
  global_by d _ = None

  -- the function that a declaration declares, if it declares one
  unfoldable pub function_of : ListedDeclaration → Option ScriptFunction
  function_of d = function_by d d.part

  unfoldable pub imported_of : ListedDeclaration → Option ScriptFunction
  imported_of d = import_by d d.part

  unfoldable pub global_of : ListedDeclaration → Option ScriptGlobal
  global_of d = global_by d d.part

-- ---- members

abbrev pub field_with : Declaring → ListedMember → ℕ → Written → Field
field_with d m number w = record { name = text_of d.text m.name; place = m.name.place; written = w; access = m.access; number = number }

abbrev pub field_numbered : Declaring → ListedMember → ℕ → Option Written → List Field
field_numbered d m number None = []
field_numbered d m number (Some w) = field_with d m number w ∷ []

-- In the space of a build:
module _ (E : Space) where
  -- A field's number is how many stand before it: `inherited` in base classes, and those of the members before it.
  abbrev pub fields_after : Declaring → ℕ → List ListedMember → ListedMember → List Field
  fields_after d inherited before m =
      field_numbered d m (inherited + length (filter_map (λ (x : ListedMember). field_type E d x.kind) before)) (field_type E d m.kind)

-- whether a member has a body, in a class or in an interface
abbrev pub has_body : Bool → MemberKind → Bool
has_body is_class (member.Field y) = false
has_body is_class (member.Method y ps a) = is_class
has_body is_class (member.Constructor ps) = true

-- the members of a family that have bodies
abbrev pub with_bodies : Bool → List ListedMember → List ListedMember
with_bodies is_class ms = filter (λ (m : ListedMember). has_body is_class m.kind) ms

abbrev pub body_members : Declaring → List ListedMember
body_members d = with_bodies d.shape.is_class d.shape.members

-- a method with this heading, where all methods are these
abbrev pub method_with : List (ScriptFunction × Bool) → Declaring → ListedMember → ℕ → ScriptFunction → Attributes → ScriptMethod
method_with all d m body f a = record {
  function = f;
  access = m.access;
  read_only = a.read_only;
  is_final = a.is_final;
  is_override = a.is_override;
  slot = slot_of all (f, a.read_only);
  body = if d.shape.is_class then Some body else None;
}

-- In the space of a build, whose methods are these:
module _ (E : Space) (all : List (ScriptFunction × Bool)) where
  abbrev pub methods_by : Declaring → ListedMember → ℕ → MemberKind → List ScriptMethod
  methods_by d m body (member.Method y ps a) = method_with all d m body (heading_of E d.origin d.text m.name y ps) a ∷ []
  methods_by d m body _ = []

  -- A body's number is how many stand before it: `first` before the family, and those of the members before it.
  abbrev pub methods_after : Declaring → ℕ → List ListedMember → ListedMember → List ScriptMethod
  methods_after d first before m = methods_by d m (first + length (with_bodies d.shape.is_class before)) m.kind

-- In the space of a build:
module _ (E : Space) where
  abbrev pub constructors_by : Declaring → ListedMember → ℕ → MemberKind → List ScriptConstructor
  constructors_by d m body (member.Constructor ps) = record { function = maker_of E d.origin d.text m.name ps; body = body } ∷ []
  constructors_by d m body _ = []

  -- Constructors are numbered as methods are, among the same bodies.
  abbrev pub constructors_after : Declaring → ℕ → List ListedMember → ListedMember → List ScriptConstructor
  constructors_after d first before m = constructors_by d m (first + length (with_bodies d.shape.is_class before)) m.kind

-- ---- what stands above a family

-- of which families a class or an interface has members: of its base class, or of all above it
abbrev pub gives_members : List Declaring → Bool → ℕ → ℕ → Bool
gives_members ds true i j = is_base ds i j
gives_members ds false i j = is_parent ds i j

-- the first number below n that passes
abbrev pub first_below : (ℕ → Bool) → ℕ → Option ℕ
first_below p n = find p (range_with_len 0 n)

-- ---- all of them

-- how many fields the base classes of class c have
abbrev pub inherited_fields : Space → List Declaring → ℕ → ℕ
inherited_fields E ds c = length (field_types_at E ds (drop 1 (order_of (is_base ds) (length ds) c)))

-- In the space of a build, whose families and methods are these:
module _ (E : Space) (ds : List Declaring) (all : List (ScriptFunction × Bool)) where
  -- family c, before whose bodies stand `first` others
  abbrev pub family_with : ℕ → ℕ → Declaring → Family
  family_with c first d = record {
    name = family_name d;
    place = d.name.place;
    is_class = d.shape.is_class;
    base = first_below (is_base ds c) (length ds);
    above = above (is_parent ds) (length ds) c;
    order = order_of (gives_members ds d.shape.is_class) (length ds) c;
    rank = reach_of (holds E ds) (length ds) c;
    fields = each_after (fields_after E d (inherited_fields E ds c)) [] d.shape.members;
    methods = each_after (methods_after E all d first) [] d.shape.members;
    constructors = each_after (constructors_after E d first) [] d.shape.members;
    origin = d.origin;
  }

  -- A family's number is how many stand before it. Its bodies come after those of the functions and of these.
  abbrev pub families_after : ℕ → List Declaring → Declaring → List Family
  families_after functions before d = family_with (length before) (functions + length (flat_map body_members before)) d ∷ []

abbrev pub functions_in : Space → List ListedDeclaration → List ScriptFunction
functions_in E ds = filter_map (function_of E) ds

-- The families of the declarations.
unfoldable pub families_in : Space → List ListedDeclaration → List Family
families_in E ds =
    let families = families_of ds in
    each_after (families_after E families (signatures_of E families) (length (functions_in E ds))) [] families

-- All names of the declarations over a view, each kind in order.
unfoldable pub names_of : RegistrationList → List ListedDeclaration → Names
names_of V ds = record {
  declared = map declared_name ds;
  families = families_in (space_of_declared V ds) ds;
  functions = functions_in (space_of_declared V ds) ds;
  imports = filter_map (imported_of (space_of_declared V ds)) ds;
  globals = filter_map (global_of (space_of_declared V ds)) ds;
}

-- What holds of each type that is written holds of all types that names declare.
use Rattle.std.specs.Prelude.{ℕ, Bool, true, false, List, [], ◌∷◌, ◌++◌, length, map, Option, Some, None, IfSome}
use Rattle.std.specs.List.{cons_option, filter_map}
use Rattle.ang_lex.specs.declared.token.Token.{Token}
use Rattle.ang_view.specs.Registration.{RegistrationList}
use Rattle.ang_tree.specs.declared.declaration.Parameter.{Parameter}
use Rattle.ang_tree.specs.declared.type_name.TypeName.{TypeName}
use Rattle.ang_tree.specs.Stmt.{Every}
use Rattle.ang_types.specs.declared.arg_type.ArgType.{ArgType}
use Rattle.ang_types.specs.declared.arg_type.ArgType.TheVariants as type
use Rattle.ang_names_known.specs.declared.names.ScriptConstructor.{ScriptConstructor}
use Rattle.ang_names_known.specs.declared.names.Family.{Family}
use Rattle.ang_names_known.specs.declared.names.Field.{Field}
use Rattle.ang_names_known.specs.declared.names.ScriptMethod.{ScriptMethod}
use Rattle.ang_names_known.specs.declared.names.Names.{Names}
use Rattle.ang_names_known.specs.declared.names.ScriptFunction.{ScriptFunction}
use Rattle.ang_names_known.specs.declared.names.ScriptGlobal.{ScriptGlobal}
use Rattle.ang_names_known.specs.declared.names.ScriptParameter.{ScriptParameter}
use Rattle.ang_names_known.specs.Items.{each_after}
use Rattle.ang_names_known.specs.Spaces.{Space}
use Rattle.ang_names_listed.specs.declared.listed.ListedDeclaration.{ListedDeclaration}
use Rattle.ang_names_listed.specs.declared.listed.ListedMember.{ListedMember}
use Rattle.ang_names_listed.specs.declared.listed.MemberKind.{MemberKind}
use Rattle.ang_names_listed.specs.declared.listed.MemberKind.TheVariants as member
use Rattle.ang_names_listed.specs.declared.listed.Part.{Part}
use Rattle.ang_names_listed.specs.declared.listed.Part.TheVariants as part
use Rattle.ang_names_listed.specs.declared.role.TypePosition.{TypePosition}
use Rattle.ang_names_listed.specs.declared.role.TypePosition.TheVariants as role
use Rattle.ang_names_listed.specs.Types.{settled, type_in}
use Rattle.ang_names_listed.specs.Declarations.{Declaring, families_of}
use Rattle.ang_names_classes.specs.Headings.{parameter_role, parameter_of, heading_of, maker_of, signatures_of}
use Rattle.ang_names_classes.specs.Hierarchy.{field_type}
use Rattle.ang_names_classes.specs.Resolved.{space_of_declared, function_by, import_by, global_by, function_of, imported_of, global_of, field_numbered, fields_after, methods_by, methods_after, constructors_by, constructors_after, inherited_fields, family_with, families_after, functions_in, families_in, names_of}
use Rattle.ang_check_sound.proofs.Items.{every_joined}

-- ---- lists

cons_given : {B : Type 0} (P : B → Type 0) (o : Option B) (bs : List B) → IfSome o P → Every P bs → Every P (cons_option o bs)
cons_given P None bs h k = k
cons_given P (Some b) bs h k = (h, k)

pub every_given : {A B : Type 0} (P : B → Type 0) (f : A → Option B) (xs : List A) → Every (λ a. IfSome (f a) P) xs → Every P (filter_map f xs)
every_given P f [] h = tt
every_given P f (x ∷ xs) h = cons_given P (f x) (filter_map f xs) h.0 (every_given P f xs h.1)

every_after : {A B : Type 0} (P : B → Type 0) (f : List A → A → List B) → ((before : List A) (a : A) → Every P (f before a)) → (before xs : List A) → Every P (each_after f before xs)
every_after P f each before [] = tt
every_after P f each before (x ∷ xs) = every_joined P (f before x) (each_after f (before ++ x ∷ []) xs) (each before x) (every_after P f each (before ++ x ∷ []) xs)

-- ---- names

-- What holds of a type:
module _ (P : ArgType → Type 0) where
  abbrev pub ParameterHas : ScriptParameter → Type 0
  ParameterHas p = P p.written.ty

  -- of the types of a function, of a family and of a build's names
  pub record FunctionHas (f : ScriptFunction) : Type 0 where
    pub params : Every ParameterHas f.params
    pub result : P f.result.ty

  abbrev pub FieldHas : Field → Type 0
  FieldHas x = P x.written.ty

  abbrev pub MethodHas : ScriptMethod → Type 0
  MethodHas m = FunctionHas m.function

  abbrev pub ConstructorHas : ScriptConstructor → Type 0
  ConstructorHas k = FunctionHas k.function

  abbrev pub GlobalHas : ScriptGlobal → Type 0
  GlobalHas g = P g.written.ty

  pub record FamilyHas (f : Family) : Type 0 where
    pub fields : Every FieldHas f.fields
    pub methods : Every MethodHas f.methods
    pub constructors : Every ConstructorHas f.constructors

  pub record NamesHave (names : Names) : Type 0 where
    pub functions : Every FunctionHas names.functions
    pub imports : Every FunctionHas names.imports
    pub globals : Every GlobalHas names.globals
    pub families : Every FamilyHas names.families

-- ---- what is written

-- In a space, of what holds of each type that is written there, and of `void`:
module _ (E : Space) (P : ArgType → Type 0) (written : (r : TypePosition) (text : List ℕ) (y : TypeName) → P (settled (type_in E r text y))) (void : P type.Void) where
  parameters_have : (text : List ℕ) (imported : Bool) (ps : List Parameter) → Every (ParameterHas P) (map (parameter_of E text imported) ps)
  parameters_have text imported [] = tt
  parameters_have text imported (p ∷ ps) = (written (parameter_role imported p) text p.declared_type, parameters_have text imported ps)

  heading_has : (d : Declaring) (x : Token) (y : TypeName) (ps : List Parameter) → FunctionHas P (heading_of E d.origin d.text x y ps)
  heading_has d x y ps = record { params = parameters_have d.text false ps; result = written role.Result d.text y }

  maker_has : (d : Declaring) (x : Token) (ps : List Parameter) → FunctionHas P (maker_of E d.origin d.text x ps)
  maker_has d x ps = record { params = parameters_have d.text false ps; result = void }

  function_by_has : (d : ListedDeclaration) (p : Part) → IfSome (function_by E d p) (FunctionHas P)
  function_by_has d (part.Family s) = tt
  function_by_has d (part.Function y ps) = record { params = parameters_have d.text false ps; result = written role.Result d.text y }
  function_by_has d (part.Import y ps) = tt
  function_by_has d (part.Global y) = tt

  import_by_has : (d : ListedDeclaration) (p : Part) → IfSome (import_by E d p) (FunctionHas P)
  import_by_has d (part.Family s) = tt
  import_by_has d (part.Function y ps) = tt
  import_by_has d (part.Import y ps) = record { params = parameters_have d.text true ps; result = written role.ImportResult d.text y }
  import_by_has d (part.Global y) = tt

  global_by_has : (d : ListedDeclaration) (p : Part) → IfSome (global_by E d p) (GlobalHas P)
  global_by_has d (part.Family s) = tt
  global_by_has d (part.Function y ps) = tt
  global_by_has d (part.Import y ps) = tt
  global_by_has d (part.Global y) = written role.Variable d.text y

  all_functions_have : (ds : List ListedDeclaration) → Every (FunctionHas P) (filter_map (function_of E) ds)
  unfolding function_of
  all_functions_have ds = every_given (FunctionHas P) (function_of E) ds (each ds)
    where
      each : (ds : List ListedDeclaration) → Every (λ d. IfSome (function_by E d d.part) (FunctionHas P)) ds
      each [] = tt
      each (d ∷ ds) = (function_by_has d d.part, each ds)

  all_imports_have : (ds : List ListedDeclaration) → Every (FunctionHas P) (filter_map (imported_of E) ds)
  unfolding imported_of
  all_imports_have ds = every_given (FunctionHas P) (imported_of E) ds (each ds)
    where
      each : (ds : List ListedDeclaration) → Every (λ d. IfSome (import_by E d d.part) (FunctionHas P)) ds
      each [] = tt
      each (d ∷ ds) = (import_by_has d d.part, each ds)

  all_globals_have : (ds : List ListedDeclaration) → Every (GlobalHas P) (filter_map (global_of E) ds)
  unfolding global_of
  all_globals_have ds = every_given (GlobalHas P) (global_of E) ds (each ds)
    where
      each : (ds : List ListedDeclaration) → Every (λ d. IfSome (global_by E d d.part) (GlobalHas P)) ds
      each [] = tt
      each (d ∷ ds) = (global_by_has d d.part, each ds)

  -- ---- members

  field_has : (d : Declaring) (m : ListedMember) (n : ℕ) (kind : MemberKind) → Every (FieldHas P) (field_numbered d m n (field_type E d kind))
  field_has d m n (member.Field y) = (written role.Field d.text y, tt)
  field_has d m n (member.Method y ps a) = tt
  field_has d m n (member.Constructor ps) = tt

  method_has : (all : List (ScriptFunction × Bool)) (d : Declaring) (m : ListedMember) (n : ℕ) (kind : MemberKind) → Every (MethodHas P) (methods_by E all d m n kind)
  method_has all d m n (member.Field y) = tt
  method_has all d m n (member.Method y ps a) = (heading_has d m.name y ps, tt)
  method_has all d m n (member.Constructor ps) = tt

  constructor_has : (d : Declaring) (m : ListedMember) (n : ℕ) (kind : MemberKind) → Every (ConstructorHas P) (constructors_by E d m n kind)
  constructor_has d m n (member.Field y) = tt
  constructor_has d m n (member.Method y ps a) = tt
  constructor_has d m n (member.Constructor ps) = (maker_has d m.name ps, tt)

  family_has : (ds : List Declaring) (all : List (ScriptFunction × Bool)) (c first : ℕ) (d : Declaring) → FamilyHas P (family_with E ds all c first d)
  family_has ds all c first d = record {
    fields = every_after (FieldHas P) (fields_after E d (inherited_fields E ds c)) (λ before m. field_has d m _ m.kind) [] d.shape.members;
    methods = every_after (MethodHas P) (methods_after E all d first) (λ before m. method_has all d m _ m.kind) [] d.shape.members;
    constructors = every_after (ConstructorHas P) (constructors_after E d first) (λ before m. constructor_has d m _ m.kind) [] d.shape.members;
  }

  all_families_have : (ds : List ListedDeclaration) → Every (FamilyHas P) (families_in E ds)
  unfolding families_in
  all_families_have ds =
      let families = families_of ds in
      every_after (FamilyHas P) (families_after E families (signatures_of E families) (length (functions_in E ds)))
      (λ before d. (family_has families (signatures_of E families) (length before) _ d, tt)) [] families

pub names_have : (V : RegistrationList) (ds : List ListedDeclaration) (P : ArgType → Type 0)
    → ((r : TypePosition) (text : List ℕ) (y : TypeName) → P (settled (type_in (space_of_declared V ds) r text y))) → P type.Void → NamesHave P (names_of V ds)
unfolding names_of
names_have V ds P each void =
    let E = space_of_declared V ds in record {
      functions = all_functions_have E P each void ds;
      imports = all_imports_have E P each void ds;
      globals = all_globals_have E P each void ds;
      families = all_families_have E P each void ds;
    }

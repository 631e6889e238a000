-- Each type that names declare is one that a declaration can have.
use Rattle.std.specs.Prelude.{◌≡◌, ℕ, suc, ◌≤◌, ◌<◌, Bool, true, false, if◌then◌else◌, length, List, [], ◌∷◌, ◌++◌, IfSome, Ok, Err, IfOk}
use Rattle.std.proofs.Common.{refl, ap, sym, ◌∙◌, subst}
use Rattle.std.proofs.lemmas.List.{length-map}
use Rattle.ang_kinds.specs.declared.error.ErrorKind.TheVariants.{ByValue, BadImport}
use Rattle.ang_kinds.specs.declared.types.Pass.{Pass}
use Rattle.ang_kinds.specs.declared.types.Pass.TheVariants as pass
use Rattle.ang_view.specs.Registration.{RegistrationList}
use Rattle.ang_tree.specs.declared.type_name.TypeName.{TypeName}
use Rattle.ang_types.specs.declared.arg_type.ArgType.{ArgType}
use Rattle.ang_types.specs.declared.arg_type.ArgType.TheVariants as type
use Rattle.ang_names_known.specs.declared.names.ScriptFunction.{ScriptFunction}
use Rattle.ang_names_known.specs.Items.{each_after}
use Rattle.ang_names_known.specs.declared.space.Named.{Named}
use Rattle.ang_names_known.specs.declared.space.Named.TheVariants as named
use Rattle.ang_names_known.specs.Spaces.{Space, family_of_type, type_of_name, is_family_type}
use Rattle.ang_names_listed.specs.declared.listed.ListedDeclaration.{ListedDeclaration}
use Rattle.ang_names_listed.specs.declared.role.TypePosition.{TypePosition}
use Rattle.ang_names_listed.specs.declared.role.TypePosition.TheVariants as role
use Rattle.ang_names_listed.specs.Declarations.{Declaring, family_name, families_of}
use Rattle.ang_names_listed.specs.Types.{TypeOrError, ◌and_then◌, no_void, no_object, taken_in, changed, passed, crossing, is_by_value, cast_to, admitted, written_type, type_in, settled}
use Rattle.ang_names_classes.specs.Headings.{signatures_of}
use Rattle.ang_names_classes.specs.Resolved.{space_of_declared, functions_in, families_after, families_in, names_of}
use Rattle.ang_meaning.specs.Environment.{Environment}
use Rattle.ang_source_typed.specs.Types as types
use Rattle.ang_source_typed.specs.Types.{Modules, first_family, IsA}
use Rattle.ang_check_sound.proofs.DeclaredTypes.{NamesHave, names_have}
use Rattle.ang_check_sound.proofs.Types.{TypeHas, type_in_has, IsNameThere, name_there}
use Rattle.ang_check_laws.specs.Contexts.{IsDeclared}
use Rattle.ang_check_laws.proofs.Locals.{IsNoNull, written_no_null}

-- ---- no type of `null`

if_no_null : (b : Bool) (x y : TypeOrError) → IfOk x IsNoNull → IfOk y IsNoNull → IfOk (if b then x else y) IsNoNull
if_no_null true x y h k = h
if_no_null false x y h k = k

then_no_null : (h : TypeOrError) (f : ArgType → TypeOrError) → IfOk h IsNoNull → ((ty : ArgType) → IsNoNull ty → IfOk (f ty) IsNoNull) → IfOk (h and_then f) IsNoNull
then_no_null (Ok ty) f ne keeps = keeps ty ne
then_no_null (Err why) f ne keeps = tt

no_void_keeps : (ty : ArgType) → IsNoNull ty → IfOk (no_void ty) IsNoNull
no_void_keeps type.Void ne = tt
no_void_keeps type.Null ne = ne
no_void_keeps (type.Plain p) ne = ne
no_void_keeps (type.Enumeration n) ne = ne
no_void_keeps (type.Object n c) ne = ne
no_void_keeps (type.Handle n c) ne = ne

no_object_keeps : (ty : ArgType) → IsNoNull ty → IfOk (no_object ty) IsNoNull
no_object_keeps type.Void ne = ne
no_object_keeps type.Null ne = ne
no_object_keeps (type.Plain p) ne = ne
no_object_keeps (type.Enumeration n) ne = ne
no_object_keeps (type.Object n c) ne = tt
no_object_keeps (type.Handle n c) ne = ne

taken_in_keeps : (ty : ArgType) → IsNoNull ty → IfOk (taken_in ty) IsNoNull
taken_in_keeps type.Void ne = ne
taken_in_keeps type.Null ne = ne
taken_in_keeps (type.Plain p) ne = ne
taken_in_keeps (type.Enumeration n) ne = ne
taken_in_keeps (type.Object n c) ne = if_no_null c (Ok (type.Object n c)) (Err ByValue) ne tt
taken_in_keeps (type.Handle n c) ne = ne

changed_keeps : (ty : ArgType) → IsNoNull ty → IfOk (changed ty) IsNoNull
changed_keeps type.Void ne = tt
changed_keeps type.Null ne = tt
changed_keeps (type.Plain p) ne = tt
changed_keeps (type.Enumeration n) ne = tt
changed_keeps (type.Object n c) ne = ne
changed_keeps (type.Handle n c) ne = tt

passed_keeps : (p : Pass) (ty : ArgType) → IsNoNull ty → IfOk (passed p ty) IsNoNull
passed_keeps pass.Value ty ne = no_object_keeps ty ne
passed_keeps pass.RefIn ty ne = taken_in_keeps ty ne
passed_keeps pass.RefOut ty ne = no_object_keeps ty ne
passed_keeps pass.RefInOut ty ne = changed_keeps ty ne

crossing_keeps : (b : Bool) (ty : ArgType) → IsNoNull ty → IfOk (crossing b ty) IsNoNull
crossing_keeps b type.Void ne = ne
crossing_keeps b type.Null ne = tt
crossing_keeps b (type.Plain p) ne = if_no_null b (Ok (type.Plain p)) (Err BadImport) ne tt
crossing_keeps b (type.Enumeration n) ne = if_no_null b (Ok (type.Enumeration n)) (Err BadImport) ne tt
crossing_keeps b (type.Object n c) ne = tt
crossing_keeps b (type.Handle n c) ne = if_no_null (is_family_type n) (Err BadImport) (Ok (type.Handle n c)) tt ne

cast_to_keeps : (ty : ArgType) → IsNoNull ty → IfOk (cast_to ty) IsNoNull
cast_to_keeps type.Void ne = tt
cast_to_keeps type.Null ne = tt
cast_to_keeps (type.Plain p) ne = tt
cast_to_keeps (type.Enumeration n) ne = tt
cast_to_keeps (type.Object n c) ne = λ e. cc
cast_to_keeps (type.Handle n c) ne = λ e. cc

admitted_keeps : (r : TypePosition) (ty : ArgType) → IsNoNull ty → IfOk (admitted r ty) IsNoNull
admitted_keeps role.Result ty ne = no_object_keeps ty ne
admitted_keeps role.Variable ty ne = no_void_keeps ty ne
admitted_keeps role.Field ty ne = then_no_null (no_void ty) no_object (no_void_keeps ty ne) no_object_keeps
admitted_keeps (role.Parameter p) ty ne = then_no_null (no_void ty) (passed p) (no_void_keeps ty ne) (passed_keeps p)
admitted_keeps role.ImportResult ty ne = then_no_null (no_object ty) (crossing true) (no_object_keeps ty ne) (crossing_keeps true)
admitted_keeps (role.ImportParameter p) ty ne =
    then_no_null (no_void ty and_then passed p) (crossing (is_by_value p)) (then_no_null (no_void ty) (passed p) (no_void_keeps ty ne) (passed_keeps p)) (crossing_keeps (is_by_value p))
admitted_keeps role.Cast ty ne = cast_to_keeps ty ne

type_no_null : (E : Space) (r : TypePosition) (text : List ℕ) (y : TypeName) → IfOk (type_in E r text y) IsNoNull
unfolding type_in
type_no_null E r text y = then_no_null (written_type E text y y.name.kind) (admitted r) (written_no_null E text y y.name.kind) (admitted_keeps r)

-- ---- types that are there

families_counted : (E : Space) (families : List Declaring) (all : List (ScriptFunction × Bool)) (n : ℕ) (front ds : List Declaring)
    → length (each_after (families_after E families all n) front ds) ≡ length ds
families_counted E families all n front [] = refl
families_counted E families all n front (d ∷ ds) = ap suc (families_counted E families all n (front ++ d ∷ []) ds)

names_counted : (V : RegistrationList) (ds : List ListedDeclaration) → length (names_of V ds).families ≡ length (families_of ds)
unfolding names_of families_in
names_counted V ds =
    let E = space_of_declared V ds in families_counted E (families_of ds) (signatures_of E (families_of ds)) (length (functions_in E ds)) [] (families_of ds)

module _ (z : Environment) (ms : Modules) (m : ℕ) (V : RegistrationList) (few : length V ≤ first_family) (ds : List ListedDeclaration)
    (itself : (n : ℕ) → IfSome (family_of_type n) (λ d. d < length (names_of V ds).families) → IsA z ms (types.object_type (ms m).view m n) (types.object_type (ms m).view m n)) where
  abbrev E : Space
  E = space_of_declared V ds

  abbrev IsNamed : Named → Type 0
  IsNamed named.Unknown = Unit {0}
  IsNamed (named.Object n) = IsA z ms (types.object_type (ms m).view m n) (types.object_type (ms m).view m n)
  IsNamed (named.Enumeration n) = Unit {0}

  named_itself : (d : Named) → IsNameThere E few d → IsNamed d
  named_itself named.Unknown h = tt
  named_itself (named.Object n) h = itself n (subst (λ k. IfSome (family_of_type n) (λ c. c < k)) (spaced ∙ sym (names_counted V ds)) h.0)
    where
      spaced : length (space_of_declared V ds).families ≡ length (families_of ds)
      spaced = length-map (families_of ds) family_name
  named_itself (named.Enumeration n) h = tt

  declared_by : (ty : ArgType) → TypeHas IsNamed (Unit {0}) ty → IsNoNull ty → IsDeclared z ms m ty
  declared_by type.Void h ne = record { not_null = ne; itself = tt }
  declared_by type.Null h ne = absurd (ne refl)
  declared_by (type.Plain p) h ne = record { not_null = ne; itself = tt }
  declared_by (type.Enumeration n) h ne = record { not_null = ne; itself = tt }
  declared_by (type.Object n c) h ne = record { not_null = ne; itself = h }
  declared_by (type.Handle n c) h ne = record { not_null = ne; itself = h }

  void_declared : IsDeclared z ms m type.Void
  void_declared = record { not_null = λ e. cc; itself = tt }

  settled_declared : (h : TypeOrError) → IfOk h (TypeHas IsNamed (Unit {0})) → IfOk h IsNoNull → IsDeclared z ms m (settled h)
  settled_declared (Ok ty) h ne = declared_by ty h ne
  settled_declared (Err why) h ne = void_declared

  pub all_declared : NamesHave (IsDeclared z ms m) (names_of V ds)
  all_declared =
      names_have V ds (IsDeclared z ms m)
      (λ r text y. settled_declared (type_in E r text y)
      (type_in_has E IsNamed (λ name. named_itself (type_of_name E name) (name_there E few name)) r text y) (type_no_null E r text y)) void_declared

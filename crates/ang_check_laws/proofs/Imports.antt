-- Types of imports are numbers' and those of the host.
use Rattle.std.specs.Prelude.{◌≡◌, ℕ, Bool, true, false, not, nat_lt, is_some, if◌then◌else◌, List, [], ◌∷◌, map, bytes_eq, Option, Some, None, IfSome, Ok, Err, IfOk, slice_get}
use Rattle.std.specs.List.{position}
use Rattle.std.proofs.Common.{arith, refl, ap, sym, ◌∙◌}
use Rattle.std.proofs.lemmas.Bool.Decides.{Decides-ltb}
use Rattle.ang_kinds.specs.declared.types.Pass.{Pass}
use Rattle.ang_kinds.specs.declared.types.Pass.TheVariants as pass
use Rattle.ang_kinds.specs.declared.error.ErrorKind.TheVariants.{BadImport}
use Rattle.ang_lex.specs.declared.token.TokenKind.{TokenKind}
use Rattle.ang_lex.specs.declared.token.TokenKind.TheVariants as k
use Rattle.ang_lex.specs.Text.{text_of}
use Rattle.ang_tree.specs.declared.declaration.Parameter.{Parameter}
use Rattle.ang_tree.specs.declared.type_name.Handle.{Handle}
use Rattle.ang_tree.specs.declared.type_name.TypeName.{TypeName}
use Rattle.ang_tree.specs.Stmt.{Every}
use Rattle.ang_types.specs.declared.arg_type.ArgType.{ArgType}
use Rattle.ang_types.specs.declared.arg_type.ArgType.TheVariants as type
use Rattle.ang_view.specs.declared.entry.Entry.{Entry}
use Rattle.ang_view.specs.Registration.{RegistrationList, entry_at}
use Rattle.ang_view.specs.Types.{enumeration_named, is_type_named, type_named}
use Rattle.ang_view.proofs.Seen.{position-passes}
use Rattle.ang_names_known.specs.declared.names.Names.{Names}
use Rattle.ang_names_known.specs.declared.names.ScriptParameter.{ScriptParameter}
use Rattle.ang_names_known.specs.declared.space.Named.{Named}
use Rattle.ang_names_known.specs.declared.space.Named.TheVariants as named
use Rattle.ang_names_known.specs.Spaces.{Space, family_or_host, family_type, first_family, is_family_type, type_of_name}
use Rattle.ang_names_listed.specs.declared.listed.ListedDeclaration.{ListedDeclaration}
use Rattle.ang_names_listed.specs.declared.listed.Part.{Part}
use Rattle.ang_names_listed.specs.declared.listed.Part.TheVariants as part
use Rattle.ang_names_listed.specs.declared.role.TypePosition.TheVariants as role
use Rattle.ang_names_listed.specs.Declarations.{declarations_of}
use Rattle.ang_names_listed.specs.Types.{TypeOrError, ◌and_then◌, admitted, changed, crossing, is_by_value, no_object, no_void, object_type, passed, pass_of, settled, taken_in, type_in, without_handle, written_type}
use Rattle.ang_names_classes.specs.Headings.{parameter_of}
use Rattle.ang_names_classes.specs.Resolved.{import_by, imported_of, names_of, space_of_declared}
use Rattle.ang_check_sound.proofs.DeclaredTypes.{every_given}
use Rattle.ang_check_sound.proofs.Items.{every_at}
use Rattle.ang_check_laws.specs.HostTypes.{IsSeenType}
use Rattle.ang_check_laws.specs.Imports.{IsOfTheHost, EachImportIsOfTheHost, BuiltImportsAreOfTheHost}

-- Over a view:
module _ (V : RegistrationList) where
  -- a type of the host's is there
  abbrev IsThere : ℕ → Type 0
  IsThere n = is_family_type n ≡ false → (x : Entry) × (entry_at V n ≡ Some x)

  abbrev MayPass : ArgType → Type 0
  MayPass type.Void = Unit {0}
  MayPass type.Null = Unit {0}
  MayPass (type.Plain p) = Unit {0}
  MayPass (type.Enumeration n) = Unit {0}
  MayPass (type.Object n c) = IsThere n
  MayPass (type.Handle n c) = IsThere n

  abbrev IsNamed : Named → Type 0
  IsNamed named.Unknown = Unit {0}
  IsNamed (named.Object n) = IsThere n
  IsNamed (named.Enumeration n) = Unit {0}

  -- ---- what a name means

  type_by : (name : List ℕ) (n : ℕ) (o : Option Entry) → entry_at V n ≡ o → is_type_named name o ≡ true → (x : Entry) × (entry_at V n ≡ Some x)
  type_by name n None e h = cc
  type_by name n (Some x) e h = (x, e)

  host_there : (name : List ℕ) (n : ℕ) → type_named V name ≡ Some n → (x : Entry) × (entry_at V n ≡ Some x)
  unfolding type_named
  host_there name n e = type_by name n (entry_at V n) refl (position-passes (is_type_named name) V n None e).1

  not_both : (b : Bool) → not b ≡ false → b ≡ true
  not_both true e = refl
  not_both false e = cc

  family_is_none : (c : ℕ) → IsThere (family_type c)
  family_is_none c = λ e.
      let lt = (Decides-ltb (family_type c) first_family).0 (not_both (nat_lt (family_type c) first_family) e) in
      absurd (omega (arith, lt))

  named_by : (name : List ℕ) (family host enumeration : Option ℕ) → type_named V name ≡ host → IsNamed (family_or_host family host enumeration)
  named_by name (Some c) host enumeration e = family_is_none c
  named_by name None (Some n) enumeration e = λ isnt. host_there name n e
  named_by name None None (Some n) e = tt
  named_by name None None None e = tt

  -- ---- what is written

  plain_passes : (ty : ArgType) (h : Option Handle) → MayPass ty → IfOk (without_handle ty h) MayPass
  plain_passes ty None m = m
  plain_passes ty (Some h) m = tt

  object_passes : (d : Named) (constant : Bool) (h : Option Handle) → IsNamed d → IfOk (object_type d constant h) MayPass
  object_passes named.Unknown constant h m = tt
  object_passes (named.Object n) constant None m = m
  object_passes (named.Object n) constant (Some h) m = m
  object_passes (named.Enumeration n) constant h m = plain_passes (type.Enumeration n) h tt

  -- ---- what is admitted

  joined : (f : ArgType → TypeOrError) (P Q : ArgType → Type 0) → ((ty : ArgType) → P ty → IfOk (f ty) Q) → (r : TypeOrError) → IfOk r P → IfOk (r and_then f) Q
  joined f P Q go (Ok ty) h = go ty h
  joined f P Q go (Err why) h = tt

  void_none : (ty : ArgType) → MayPass ty → IfOk (no_void ty) MayPass
  void_none type.Void m = tt
  void_none type.Null m = m
  void_none (type.Plain p) m = m
  void_none (type.Enumeration n) m = m
  void_none (type.Object n c) m = m
  void_none (type.Handle n c) m = m

  object_none : (ty : ArgType) → MayPass ty → IfOk (no_object ty) MayPass
  object_none type.Void m = m
  object_none type.Null m = m
  object_none (type.Plain p) m = m
  object_none (type.Enumeration n) m = m
  object_none (type.Object n c) m = tt
  object_none (type.Handle n c) m = m

  in_passes : (ty : ArgType) → MayPass ty → IfOk (taken_in ty) MayPass
  in_passes type.Void m = m
  in_passes type.Null m = m
  in_passes (type.Plain p) m = m
  in_passes (type.Enumeration n) m = m
  in_passes (type.Object n true) m = m
  in_passes (type.Object n false) m = tt
  in_passes (type.Handle n c) m = m

  changed_passes : (ty : ArgType) → MayPass ty → IfOk (changed ty) MayPass
  changed_passes type.Void m = tt
  changed_passes type.Null m = tt
  changed_passes (type.Plain p) m = tt
  changed_passes (type.Enumeration n) m = tt
  changed_passes (type.Object n c) m = m
  changed_passes (type.Handle n c) m = tt

  passed_passes : (p : Pass) (ty : ArgType) → MayPass ty → IfOk (passed p ty) MayPass
  passed_passes pass.Value ty m = object_none ty m
  passed_passes pass.RefIn ty m = in_passes ty m
  passed_passes pass.RefOut ty m = object_none ty m
  passed_passes pass.RefInOut ty m = changed_passes ty m

  handle_crosses : (n : ℕ) (c b : Bool) → is_family_type n ≡ b → IsThere n → IfOk (if b then Err BadImport else Ok (type.Handle n c)) (IsSeenType V)
  handle_crosses n c true e m = tt
  handle_crosses n c false e m = ((Decides-ltb n first_family).0 (not_both (nat_lt n first_family) e), m e)

  by_value : (b : Bool) (ty : ArgType) → IsSeenType V ty → IfOk (if b then Ok ty else Err BadImport) (IsSeenType V)
  by_value true ty h = h
  by_value false ty h = tt

  crosses : (b : Bool) (ty : ArgType) → MayPass ty → IfOk (crossing b ty) (IsSeenType V)
  crosses b type.Void m = tt
  crosses b type.Null m = tt
  crosses b (type.Plain p) m = by_value b (type.Plain p) tt
  crosses b (type.Enumeration n) m = by_value b (type.Enumeration n) tt
  crosses b (type.Object n c) m = tt
  crosses b (type.Handle n c) m = handle_crosses n c (is_family_type n) refl m

  result_crosses : (ty : ArgType) → MayPass ty → IfOk (admitted role.ImportResult ty) (IsSeenType V)
  result_crosses ty m = joined (crossing true) MayPass (IsSeenType V) (crosses true) (no_object ty) (object_none ty m)

  parameter_crosses : (p : Pass) (ty : ArgType) → MayPass ty → IfOk (admitted (role.ImportParameter p) ty) (IsSeenType V)
  parameter_crosses p ty m =
      joined (crossing (is_by_value p)) MayPass (IsSeenType V) (crosses (is_by_value p)) (no_void ty and_then passed p)
      (joined (passed p) MayPass MayPass (passed_passes p) (no_void ty) (void_none ty m))

  seen_of : (r : TypeOrError) → IfOk r (IsSeenType V) → IsSeenType V (settled r)
  seen_of (Ok ty) h = h
  seen_of (Err why) h = tt

-- In a space over that view:
module _ (E : Space) where
  name_means : (name : List ℕ) → IsNamed E.view (type_of_name E name)
  unfolding type_of_name
  name_means name = named_by E.view name (position (bytes_eq name) E.families) (type_named E.view name) (enumeration_named E.view name) refl

  written_passes : (text : List ℕ) (y : TypeName) (kind : TokenKind) → IfOk (written_type E text y kind) (MayPass E.view)
  written_passes text y (k.Primitive p) = plain_passes E.view (type.Plain p) y.handle tt
  written_passes text y k.Void = plain_passes E.view type.Void y.handle tt
  written_passes text y _ = object_passes E.view (type_of_name E (text_of text y.name)) (is_some y.constant) y.handle (name_means (text_of text y.name))

  result_seen : (text : List ℕ) (y : TypeName) → IsSeenType E.view (settled (type_in E role.ImportResult text y))
  unfolding type_in
  result_seen text y =
      seen_of E.view (written_type E text y y.name.kind and_then admitted role.ImportResult)
      (joined E.view (admitted role.ImportResult) (MayPass E.view) (IsSeenType E.view) (result_crosses E.view) (written_type E text y y.name.kind) (written_passes text y y.name.kind))

  parameter_seen : (p : Pass) (text : List ℕ) (y : TypeName) → IsSeenType E.view (settled (type_in E (role.ImportParameter p) text y))
  unfolding type_in
  parameter_seen p text y =
      seen_of E.view (written_type E text y y.name.kind and_then admitted (role.ImportParameter p))
      (joined E.view (admitted (role.ImportParameter p)) (MayPass E.view) (IsSeenType E.view) (parameter_crosses E.view p) (written_type E text y y.name.kind)
      (written_passes text y y.name.kind))

  parameters_seen : (text : List ℕ) (ps : List Parameter) → Every (λ (p : ScriptParameter). IsSeenType E.view p.written.ty) (map (parameter_of E text true) ps)
  parameters_seen text [] = tt
  parameters_seen text (p ∷ ps) = (parameter_seen (pass_of p.reference) text p.declared_type, parameters_seen text ps)

  import_seen : (d : ListedDeclaration) (p : Part) → IfSome (import_by E d p) (IsOfTheHost E.view)
  import_seen d (part.Family s) = tt
  import_seen d (part.Function y ps) = tt
  import_seen d (part.Import y ps) = record { params = parameters_seen d.text ps; result = result_seen d.text y }
  import_seen d (part.Global y) = tt

  imports_seen : (ds : List ListedDeclaration) → Every (λ d. IfSome (imported_of E d) (IsOfTheHost E.view)) ds
  unfolding imported_of
  imports_seen [] = tt
  imports_seen (d ∷ ds) = (import_seen d d.part, imports_seen ds)

pub each_import : EachImportIsOfTheHost
unfolding names_of
each_import V ds =
    let E = space_of_declared V ds in every_given (IsOfTheHost V) (imported_of E) ds (imports_seen E ds)

pub built_imports : BuiltImportsAreOfTheHost
built_imports V names ss e i f there =
    let all = declarations_of ss in
    (every_at (IsOfTheHost V) (names_of V all).imports i f (each_import V all) (sym (ap (λ (ns : Names). slice_get ns.imports i) e) ∙ there)).result

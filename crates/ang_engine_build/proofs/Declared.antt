-- What a built module declares is the same over what its tree uses of its view.
use Rattle.std.proofs.Common.{◌≡◌, ℕ, zero, suc, ◌≤◌, Bool, true, List, [], ◌∷◌, ◌++◌, length, take, refl, ap, subst}
use Rattle.std.specs.Prelude.{Ok, Err, Result, map}
use Rattle.std.specs.List.{flat_map, range_with_len}
use Rattle.ang_kinds.specs.declared.error.Error.{Error}
use Rattle.ang_tree.specs.declared.type_name.TypeName.{TypeName}
use Rattle.ang_tree.specs.Stmt.{Every}
use Rattle.ang_view.specs.Registration.{RegistrationList}
use Rattle.ang_types.specs.declared.arg_type.ArgType.{ArgType}
use Rattle.ang_types.specs.declared.arg_type.ArgType.TheVariants as type
use Rattle.ang_typed.specs.declared.program.TypedParameter.{TypedParameter}
use Rattle.ang_typed.specs.Typed as t
use Rattle.ang_typed.specs.Uses.{class_uses, function_uses, global_uses, heading_uses, option_uses, parameter_uses, stmts_uses, type_uses, uses}
use Rattle.ang_names_known.specs.declared.names.Family.{Family}
use Rattle.ang_names_known.specs.declared.names.Names.{Names}
use Rattle.ang_names_known.specs.declared.names.ScriptFunction.{ScriptFunction}
use Rattle.ang_names_known.specs.declared.names.ScriptGlobal.{ScriptGlobal}
use Rattle.ang_names_known.specs.declared.names.ScriptParameter.{ScriptParameter}
use Rattle.ang_names_known.specs.Spaces.{Space, first_family}
use Rattle.ang_names_listed.specs.declared.listed.ListedDeclaration.{ListedDeclaration}
use Rattle.ang_names_listed.specs.declared.role.TypePosition.{TypePosition}
use Rattle.ang_names_listed.specs.Declarations.{declarations_of, families_of}
use Rattle.ang_names_listed.specs.Sources.{Source}
use Rattle.ang_names_listed.specs.Types.{settled, type_in}
use Rattle.ang_names_classes.specs.Headings.{signatures_of}
use Rattle.ang_names_classes.specs.Resolved.{families_in, functions_in, names_of, space_of_declared}
use Rattle.ang_check.specs.Typing.{typed_parameter, typed_parameters}
use Rattle.ang_check.specs.Bodies.{import_heading, program_of}
use Rattle.ang_check_sound.specs.Checked.{HasNames, bodies_of, body_parameters}
use Rattle.ang_check_sound.proofs.DeclaredTypes.{FunctionHas, GlobalHas, NamesHave, ParameterHas, names_have}
use Rattle.ang_check_sound.proofs.Parts.{names_same}
use Rattle.ang_check_sound.proofs.Program.{has_names}
use Rattle.ang_check_sound.proofs.Types.{settled_has}
use Rattle.ang_engine_build.specs.Build.{Resolved, Compiled, after_reading, build_of}
use Rattle.ang_engine_build.specs.Declares.{DeclareSame}
use Rattle.ang_engine_build.specs.Narrowed.{is_among, narrowed}
use Rattle.ang_engine_build.specs.Script.{sources_of}
use Rattle.ang_engine_build.proofs.Declaring.{AreKept, KeptType, MeantType, declare_same}
use Rattle.ang_engine_build.proofs.Lookups.{Whole, IsMeant, each_is_meant}
use Rattle.ang_engine_build.proofs.Narrowing.{AllOf, all_among, back_of, front_of}
use Rattle.ang_engine_build.proofs.Programs.{IsResolution, scripts_resolve}

-- ---- lists

every_take : {A : Type 0} (P : A → Type 0) (n : ℕ) (xs : List A) → Every P xs → Every P (take n xs)
every_take P zero xs h = tt
every_take P (suc n) [] h = tt
every_take P (suc n) (x ∷ xs) h = (h.0, every_take P n xs h.1)

every_front : {A : Type 0} (P : A → Type 0) (xs ys : List A) → Every P (xs ++ ys) → Every P xs
every_front P [] ys h = tt
every_front P (x ∷ xs) ys h = (h.0, every_front P xs ys h.1)

-- ---- the types of a tree's declarations are kept

module _ (V : RegistrationList) (keep : ℕ → Bool) (names : Names) where
  abbrev Kept : ArgType → Type 0
  Kept = KeptType V keep names

  abbrev Among : List ℕ → Type 0
  Among = AllOf (λ n. keep n ≡ true)

  abbrev front : (ms ns : List ℕ) → Among (ms ++ ns) → Among ms
  front = front_of (λ n. keep n ≡ true)

  abbrev back : (ms ns : List ℕ) → Among (ms ++ ns) → Among ns
  back = back_of (λ n. keep n ≡ true)

  type_kept : (ty : ArgType) → Among (type_uses ty) → Kept ty
  type_kept type.Void h = tt
  type_kept type.Null h = tt
  type_kept (type.Plain p) h = tt
  type_kept (type.Enumeration n) h = h.0
  type_kept (type.Object n c) h = h.0
  type_kept (type.Handle n c) h = h.0

  abbrev AreKeptTypes : List TypedParameter → Type 0
  AreKeptTypes ps = Every (λ (p : TypedParameter). Kept p.ty) ps

  parameters_kept : (ps : List TypedParameter) → Among (flat_map parameter_uses ps) → AreKeptTypes ps
  parameters_kept [] h = tt
  parameters_kept (p ∷ ps) h = (type_kept p.ty (front (type_uses p.ty) (flat_map parameter_uses ps) h), parameters_kept ps (back (type_uses p.ty) (flat_map parameter_uses ps) h))

  all_parameters : (fs : List t.TypedFunction) → Among (flat_map function_uses fs) → Every AreKeptTypes (map (λ (f : t.TypedFunction). f.parameters) fs)
  all_parameters [] h = tt
  all_parameters (f ∷ fs) h =
      let here = front (function_uses f) (flat_map function_uses fs) h in
      (parameters_kept f.parameters (front (flat_map parameter_uses f.parameters) (type_uses f.result ++ stmts_uses f.body) here), all_parameters fs (back (function_uses f) (flat_map function_uses fs) h))

  all_results : (fs : List t.TypedFunction) → Among (flat_map function_uses fs) → Every Kept (map (λ (f : t.TypedFunction). f.result) fs)
  all_results [] h = tt
  all_results (f ∷ fs) h =
      let here = front (function_uses f) (flat_map function_uses fs) h in
      let rest = back (flat_map parameter_uses f.parameters) (type_uses f.result ++ stmts_uses f.body) here in
      (type_kept f.result (front (type_uses f.result) (stmts_uses f.body) rest), all_results fs (back (function_uses f) (flat_map function_uses fs) h))

  all_globals : (gs : List t.Global) → Among (flat_map global_uses gs) → Every Kept (map (λ (g : t.Global). g.ty) gs)
  all_globals [] h = tt
  all_globals (g ∷ gs) h =
      let here = front (global_uses g) (flat_map global_uses gs) h in
      (type_kept g.ty (front (type_uses g.ty) (option_uses g.initializer) here), all_globals gs (back (global_uses g) (flat_map global_uses gs) h))

  -- ---- and so are those of the names

  params_kept : (ps : List ScriptParameter) → AreKeptTypes (map typed_parameter ps) → Every (ParameterHas Kept) ps
  params_kept [] h = tt
  params_kept (p ∷ ps) h = (h.0, params_kept ps h.1)

  functions_kept : (fs : List ScriptFunction) → Every AreKeptTypes (map typed_parameters fs) → Every Kept (map (λ (f : ScriptFunction). f.result.ty) fs) → Every (FunctionHas Kept) fs
  functions_kept [] h k = tt
  functions_kept (f ∷ fs) h k = (record { params = params_kept f.params h.0; result = k.0 }, functions_kept fs h.1 k.1)

  globals_kept : (gs : List ScriptGlobal) → Every Kept (map (λ (g : ScriptGlobal). g.written.ty) gs) → Every (GlobalHas Kept) gs
  globals_kept [] h = tt
  globals_kept (g ∷ gs) h = (h.0, globals_kept gs h.1)

  imports_kept : (fs : List ScriptFunction) → Among (flat_map heading_uses (map import_heading fs)) → Every (FunctionHas Kept) fs
  imports_kept [] h = tt
  imports_kept (f ∷ fs) h =
      let here = front (heading_uses (import_heading f)) (flat_map heading_uses (map import_heading fs)) h in (
        record {
          params = params_kept f.params (parameters_kept (typed_parameters f) (front (flat_map parameter_uses (typed_parameters f)) (type_uses f.result.ty) here));
          result = type_kept f.result.ty (back (flat_map parameter_uses (typed_parameters f)) (type_uses f.result.ty) here);
        },
        imports_kept fs (back (heading_uses (import_heading f)) (flat_map heading_uses (map import_heading fs)) h),
      )

  -- of a tree that has what the names declare
  names_kept : (ss : List Source) (p : t.Program) → HasNames V names ss p → p.imports ≡ map import_heading names.imports → Among (uses p) → AreKept V keep names
  unfolding uses
  names_kept ss p has imports h =
      let fs = flat_map function_uses p.functions in
      let gs = flat_map global_uses p.globals in
      let cs = flat_map class_uses p.classes in
      let ms = flat_map heading_uses p.methods in
      let is = flat_map heading_uses p.imports in
      let in_functions = front fs (gs ++ (cs ++ (ms ++ is))) h in
      let after = back fs (gs ++ (cs ++ (ms ++ is))) h in
      let in_globals = front gs (cs ++ (ms ++ is)) after in
      let in_imports = back ms is (back cs (ms ++ is) (back gs (cs ++ (ms ++ is)) after)) in
      let bodies = map (body_parameters names) (range_with_len (length names.functions) (length (bodies_of names))) in
      record {
        functions =
            functions_kept names.functions
            (every_front AreKeptTypes (map typed_parameters names.functions) bodies (subst (Every AreKeptTypes) has.parameters (all_parameters p.functions in_functions)))
            (subst (Every Kept) has.results (every_take Kept (length names.functions) (map (λ (f : t.TypedFunction). f.result) p.functions) (all_results p.functions in_functions)));
        imports = imports_kept names.imports (subst (λ hs. Among (flat_map heading_uses hs)) imports in_imports);
        globals = globals_kept names.globals (subst (Every Kept) has.types (all_globals p.globals in_globals));
      }

-- ---- each type is what the name of its entry means

space_with : RegistrationList → List (List ℕ) → Space
space_with V families = record { view = V; families = families }

same_space : (V : RegistrationList) (ds : List ListedDeclaration) → Whole V (map (λ (f : Family). f.name) (names_of V ds).families) (λ n. true) ≡ space_of_declared V ds
unfolding space_with names_of families_in
same_space V ds =
    let E = space_of_declared V ds in
    let fs = families_of ds in
    ap (space_with V) (names_same E fs (signatures_of E fs) (length (functions_in E ds)) [] fs)

names_meant : (V : RegistrationList) (keep : ℕ → Bool) (ds : List ListedDeclaration) → length V ≤ first_family → NamesHave (MeantType V keep (names_of V ds)) (names_of V ds)
names_meant V keep ds few =
    let families = map (λ (f : Family). f.name) (names_of V ds).families in
    names_have V ds (MeantType V keep (names_of V ds))
    (subst (λ (E : Space). (r : TypePosition) (text : List ℕ) (y : TypeName) → MeantType V keep (names_of V ds) (settled (type_in E r text y))) (same_space V ds)
    (settled_has (Whole V families keep) (IsMeant V families keep) (each_is_meant V families keep few))) tt

-- ---- of a build

imports_of : (V : RegistrationList) (names : Names) (ss : List Source) → (program_of V names ss).imports ≡ map import_heading names.imports
unfolding program_of
imports_of V names ss = refl

scripts_declare : (V : RegistrationList) (ss : List Source) (r : Resolved) → length V ≤ 1024 → IsResolution V ss r → DeclareSame V (narrowed V r.tree) r.names
unfolding narrowed
scripts_declare V ss r few h =
    let ds = declarations_of ss in
    let names = names_of V ds in
    let p = program_of V names ss in
    let keep = is_among (uses p) in
    let kept = names_kept V keep names ss p (has_names V names ss refl h.accepted) (imports_of V names ss) (all_among (uses p)) in
    let meant = names_meant V keep ds few in
    subst (λ (q : Resolved). DeclareSame V (narrowed V q.tree) q.names) h.is (declare_same V keep names kept meant.functions meant.imports)

read_declare : (V : RegistrationList) (read : Result (List Source) Error) (r : Resolved) → length V ≤ 1024 → after_reading V read ≡ Compiled r → DeclareSame V (narrowed V r.tree) r.names
read_declare V (Ok ss) r few is = scripts_declare V ss r few (scripts_resolve V ss r is)
read_declare V (Err e) r few is = cc

pub program-declares : (V : RegistrationList) (sections : List (List ℕ)) (r : Resolved) → length V ≤ 1024 → build_of V sections ≡ Compiled r
    → DeclareSame V (narrowed V r.tree) r.names
program-declares V sections r few is = read_declare V (sources_of 0 sections) r few is

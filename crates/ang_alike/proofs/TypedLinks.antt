-- Functions of typed modules: those that a host calls, and those to which bound imports lead.
use Rattle.std.proofs.Common.{◌≡◌, refl, sym, ap, ◌∙◌, subst, ℕ, zero, suc, Bool, true, false, List, [], ◌∷◌, length, take, map, Option, Some}
use Rattle.std.specs.Prelude.{Result, Ok, Err, ◌&&◌, slice_get}
use Rattle.std.proofs.lemmas.Option.{same_Some, slice_get_within}
use Rattle.std.proofs.lemmas.Slice.Eq.{bytes_eq-Decides}
use Rattle.ang_kinds.specs.declared.error.Error.{Error}
use Rattle.ang_view.specs.Registration.{RegistrationList}
use Rattle.ang_types.specs.declared.arg_type.ArgType.{ArgType}
use Rattle.ang_typed.specs.declared.program.TypedParameter.{TypedParameter}
use Rattle.ang_typed.specs.Typed as t
use Rattle.ang_names_known.specs.declared.names.Names.{Names}
use Rattle.ang_names_known.specs.declared.names.ScriptFunction.{ScriptFunction}
use Rattle.ang_names_known.specs.declared.names.ScriptParameter.{ScriptParameter}
use Rattle.ang_names_known.specs.Lookup.{same_call}
use Rattle.ang_names_listed.specs.Declarations.{declarations_of}
use Rattle.ang_names_listed.specs.Sources.{Source}
use Rattle.ang_names_classes.specs.Resolved.{names_of}
use Rattle.ang_check.specs.Typing.{typed_parameter, typed_parameters}
use Rattle.ang_check.specs.Bodies.{import_heading}
use Rattle.ang_check_sound.specs.Checked.{HasNames, module_in}
use Rattle.ang_meaning.specs.Environment.{Environment}
use Rattle.ang_meaning.specs.declared.routine.Routine.{Routine}
use Rattle.ang_source_typed.specs.Types.{Modules}
use Rattle.ang_source_typed.specs.TypedProgram.{signature_of, IsSignature, HasSignature}
use Rattle.ang_engine_call.specs.Headings.{Passed, Heading as CallHeading, passed_of, heading_of}
use Rattle.ang_engine_call.proofs.SameHeading.{heading-Decides}
use Rattle.ang_engine_build.specs.Build.{Resolved, Compiled, after_reading, build_of}
use Rattle.ang_engine_build.specs.Named.{HasNamesOf}
use Rattle.ang_engine_build.specs.Script.{sources_of}
use Rattle.ang_engine_build.proofs.Programs.{IsResolution, scripts_resolve, program-named}
use Rattle.ang_check_laws.specs.Settings.{IsDeclaredSo}
use Rattle.ang_check_laws.proofs.Numbered.{no_function}
use Rattle.ang_engine_modules.specs.Executed.{setting_for}
use Rattle.ang_engine_modules.specs.World.{Program, ModuleStates, built_in}
use Rattle.ang_engine_modules.proofs.PlaceLists.{get-map, map-get, get-front}
use Rattle.ang_alike.specs.Misfits.{typed_of, typed_modules}
use Rattle.ang_alike.proofs.Linking.{program_imports}
use Rattle.ang_alike.proofs.TypedPrograms.{IsOwnProgram, programs_of, resolved_of}

-- ---- equal calls are of equal types

abbrev parameter_by : Passed → TypedParameter
parameter_by q = record { ty = q.written.ty; pass = q.pass }

typed_as_passed : (ps : List ScriptParameter) → map typed_parameter ps ≡ map parameter_by (map passed_of ps)
typed_as_passed [] = refl
typed_as_passed (p ∷ ps) = ap (λ l. typed_parameter p ∷ l) (typed_as_passed ps)

record IsSameTyped (f g : ScriptFunction) : Type 0 where
  params : typed_parameters f ≡ typed_parameters g
  result : f.result.ty ≡ g.result.ty

same_typed : (f g : ScriptFunction) → same_call f g ≡ true → IsSameTyped f g
same_typed f g e =
    let h : ScriptFunction = record f { name = g.name } in
    let same : heading_of h ≡ heading_of g = (heading-Decides h g).0 (ap (λ b. b && same_call f g) ((bytes_eq-Decides g.name g.name).1 refl) ∙ e) in
    record {
      params = typed_as_passed f.params ∙ ap (map parameter_by) (ap (λ (x : CallHeading). x.params) same) ∙ sym (typed_as_passed g.params);
      result = ap (λ (x : CallHeading). x.result_type.ty) same;
    }

-- ---- a function of the names, in their tree

taken_at : {A : Type 0} (n k : ℕ) (xs : List A) (x : A) → slice_get (take n xs) k ≡ Some x → slice_get xs k ≡ Some x
taken_at zero k xs x e = absurd (let q : ⊥ = cc in q)
taken_at (suc n) k [] x e = absurd (let q : ⊥ = cc in q)
taken_at (suc n) zero (y ∷ xs) x e = e
taken_at (suc n) (suc k) (y ∷ xs) x e = taken_at n k xs x e

record IsInTree (p : t.Program) (f : ScriptFunction) (n : ℕ) : Type 0 where
  function : t.TypedFunction
  at : slice_get p.functions n ≡ Some function
  params : function.parameters ≡ typed_parameters f
  result : function.result ≡ f.result.ty

in_tree : (V : RegistrationList) (names : Names) (ss : List Source) (p : t.Program) (f : ScriptFunction) (n : ℕ) → HasNames V names ss p → slice_get names.functions n ≡ Some f → IsInTree p f n
in_tree V names ss p f n has at =
    let ps : List TypedParameter = typed_parameters f in
    let named : slice_get (module_in V names).parameters n ≡ Some ps = get-front (map typed_parameters names.functions) _ n ps (get-map typed_parameters names.functions n f at) in
    let here = map-get (λ (g : t.TypedFunction). g.parameters) p.functions n ps (ap (λ l. slice_get l n) has.parameters ∙ named) in
    let results : List ArgType = map (λ (g : t.TypedFunction). g.result) p.functions in
    let declared : slice_get results n ≡ Some f.result.ty =
    taken_at (length names.functions) n results f.result.ty
    (ap (λ l. slice_get l n) has.results ∙ get-map (λ (g : ScriptFunction). g.result.ty) names.functions n f at) in
    let own : slice_get results n ≡ Some here.item.result = get-map (λ (g : t.TypedFunction). g.result) p.functions n here.item here.at in
    record { function = here.item; at = here.at; params = here.same; result = same_Some here.item.result f.result.ty (sym own ∙ declared) }

-- ---- the scripts of a program

record IsOfScripts (V : RegistrationList) (r : Resolved) : Type 0 where
  sources : List Source
  resolution : IsResolution V sources r

of_read : (V : RegistrationList) (read : Result (List Source) Error) (r : Resolved) → after_reading V read ≡ Compiled r → IsOfScripts V r
of_read V (Ok ss) r is = record { sources = ss; resolution = scripts_resolve V ss r is }
of_read V (Err e) r is = absurd (let q : ⊥ = cc in q)

of_scripts : (V : RegistrationList) (sections : List (List ℕ)) (r : Resolved) → build_of V sections ≡ Compiled r → IsOfScripts V r
of_scripts V sections r is = of_read V (sources_of 0 sections) r is

-- Of a program that was built over a part of this list:
module _ (L : RegistrationList) (p : Program) (own : IsOwnProgram L p) where
  scripts : IsOfScripts own.sight (resolved_of p)
  scripts = of_scripts own.sight own.sections (resolved_of p) own.built

  names_are : p.names ≡ names_of own.sight (declarations_of scripts.sources)
  names_are = sym (ap (λ (r : Resolved). r.names) scripts.resolution.is)

  has : HasNamesOf own.sight own.sections (resolved_of p)
  has = program-named own.sight own.sections (resolved_of p) own.built

  -- a function of the names, and its types
  function_there : (n : ℕ) (f : ScriptFunction) → slice_get p.names.functions n ≡ Some f → IsInTree p.tree f n
  function_there n f at = in_tree own.sight p.names has.sources p.tree f n has.names at

  no_maker : (n : ℕ) (f : ScriptFunction) → slice_get p.names.functions n ≡ Some f → (typed_of (Some p)).is_constructor n ≡ false
  no_maker n f at = no_function own.sight p.names scripts.sources names_are n (slice_get_within p.names.functions n f at)

-- ---- what is bound

-- an import of one program and a function of another, which are one call
pub record IsBound (o : Option Program) (i : ℕ) (e : Option Program) (n : ℕ) : Type 0 where
  pub importer : Program
  pub here : o ≡ Some importer
  pub import : ScriptFunction
  pub declared : slice_get importer.names.imports i ≡ Some import
  pub exporter : Program
  pub there : e ≡ Some exporter
  pub function : ScriptFunction
  pub at : slice_get exporter.names.functions n ≡ Some function
  pub same : same_call import function ≡ true

module _ (L : RegistrationList) (ms : ModuleStates) (nesting : ℕ) where
  abbrev z : Environment
  z = setting_for (built_in ms) nesting

  abbrev T : Modules
  T = typed_modules ms

  -- a function of a module is called so
  pub function_signed : (m n : ℕ) (p : Program) (f : ScriptFunction) → programs_of ms m ≡ Some p → IsOwnProgram L p → slice_get p.names.functions n ≡ Some f
      → HasSignature z T m n (signature_of z T m (typed_parameters f) f.result.ty)
  function_signed m n p f here own at =
      let g = function_there L p own n f at in
      let plain : (T m).is_constructor n ≡ false = ap (λ (o : Option Program). (typed_of o).is_constructor n) here ∙ no_maker L p own n f at in
      let same : signature_of z T m (typed_parameters f) f.result.ty ≡ signature_of z T m g.function.parameters g.function.result =
      ap (λ (ps : List TypedParameter). signature_of z T m ps f.result.ty) (sym g.params) ∙ ap (signature_of z T m g.function.parameters) (sym g.result) in
      record {
        function = g.function;
        there = ap (λ (o : Option Program). slice_get (typed_of o).program.functions n) here ∙ g.at;
        signature = subst (λ (x : Bool). IsSignature z T m x g.function (signature_of z T m (typed_parameters f) f.result.ty)) (sym plain) same;
      }

  -- both sides of a link are declared so
  pub bound_declared : (m i : ℕ) (g : Routine) (b : IsBound (programs_of ms m) i (programs_of ms g.home) g.number) → IsOwnProgram L b.importer → IsOwnProgram L b.exporter
      → IsDeclaredSo T m i g
  bound_declared m i g b own other =
      let p = b.importer in
      let same = same_typed b.import b.function b.same in
      let f = function_there L b.exporter other g.number b.function b.at in
      record {
        heading = import_heading b.import;
        declared = ap (λ (o : Option Program). slice_get (typed_of o).program.imports i) b.here
            ∙ ap (λ l. slice_get l i) (program_imports own.sight own.sections (resolved_of p) own.built) ∙ get-map import_heading p.names.imports i b.import b.declared;
        function = f.function;
        there = ap (λ (o : Option Program). slice_get (typed_of o).program.functions g.number) b.there ∙ f.at;
        parameters = f.params ∙ sym same.params;
        result = f.result ∙ sym same.result;
      }

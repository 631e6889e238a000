-- What an import can be bound to.
use Rattle.std.proofs.Common.{◌≡◌, refl, ap, sym, ◌∙◌, subst, ℕ, Bool, true, false, List, [], ◌∷◌, Option, Some, None, map}
use Rattle.std.specs.Prelude.{Result, Ok, Err, ◌&&◌, if◌then◌else◌, option_map, reverse, slice_get}
use Rattle.std.proofs.lemmas.Slice.Eq.{bytes_eq-Decides}
use Rattle.ang_kinds.specs.declared.error.Error.{Error}
use Rattle.ang_view.specs.Registration.{RegistrationList}
use Rattle.ang_typed.specs.declared.program.Heading.{Heading}
use Rattle.ang_typed.specs.declared.program.TypedParameter.{TypedParameter}
use Rattle.ang_typed.specs.Typed as t
use Rattle.ang_typed.specs.View.{view_typed}
use Rattle.ang_names_known.specs.declared.names.ScriptFunction.{ScriptFunction}
use Rattle.ang_names_known.specs.declared.names.ScriptParameter.{ScriptParameter}
use Rattle.ang_names_known.specs.Lookup.{same_call}
use Rattle.ang_names_listed.specs.Sources.{Source}
use Rattle.ang_check.specs.Typing.{typed_parameter, typed_parameters}
use Rattle.ang_check.specs.Bodies.{import_heading, program_of}
use Rattle.ang_check_sound.specs.Checked.{HasNames, module_in}
use Rattle.ang_meaning.specs.declared.routine.Passing.{Passing}
use Rattle.ang_meaning.specs.declared.routine.Routine.{Routine}
use Rattle.ang_source.specs.Meaning.{passing_by, passing_of, passings_of, passings_in, heading_among, initializers_from, routine}
use Rattle.ang_engine_call.specs.Headings.{Passed, Heading as CallHeading, passed_of, heading_of}
use Rattle.ang_engine_call.proofs.SameHeading.{heading-Decides}
use Rattle.ang_engine_call.specs.Named.{function_named_by}
use Rattle.ang_engine_build.specs.Script.{sources_of}
use Rattle.ang_engine_build.specs.Build.{Resolved, Compiled, resolution_of, script_errors, unless_refused, build_of_scripts, after_reading, build_of}
use Rattle.ang_engine_build.proofs.Programs.{program-named}
use Rattle.ang_engine_modules.specs.declared.modules.LoadedModule.{LoadedModule}
use Rattle.ang_engine_modules.specs.Loaded.{loaded_at, module_of, modules_of}
use Rattle.ang_engine_modules.specs.Modules.{module_at, LinkFits}
use Rattle.ang_engine_modules.proofs.Loading.{module_loaded}
use Rattle.ang_engine_modules.specs.declared.reply.Refusal.TheVariants.{SignatureDiffers}
use Rattle.ang_engine_modules.specs.World.{Program}
use Rattle.ang_engine_modules.proofs.PlaceLists.{get-map, map-get, get-front}
use Rattle.ang_engine.specs.Engines.{resolved_in}
use Rattle.ang_engine.specs.Sound.{IsBuiltBy}
use Rattle.ang_engine.specs.Step.{link_to, link_to_number, link_of}

-- ---- the imports of a tree are those of the names

passed_on : (es : List Error) (r s : Resolved) → unless_refused es r ≡ Compiled s → r ≡ s
passed_on [] r s is = cc
passed_on (e ∷ es) r s is = cc

imports_read : (V : RegistrationList) (ss : List Source) (r : Resolved) → build_of_scripts V ss ≡ Compiled r → r.tree.imports ≡ map import_heading r.names.imports
unfolding program_of
imports_read V ss r is = subst (λ (q : Resolved). q.tree.imports ≡ map import_heading q.names.imports) (passed_on (script_errors V ss) (resolution_of V ss) r is) refl

imports_after : (V : RegistrationList) (read : Result (List Source) Error) (r : Resolved) → after_reading V read ≡ Compiled r → r.tree.imports ≡ map import_heading r.names.imports
imports_after V (Ok ss) r is = imports_read V ss r is
imports_after V (Err e) r is = cc

pub program_imports : (V : RegistrationList) (sections : List (List ℕ)) (r : Resolved) → build_of V sections ≡ Compiled r → r.tree.imports ≡ map import_heading r.names.imports
program_imports V sections r is = imports_after V (sources_of 0 sections) r is

-- ---- equal headings take arguments alike

abbrev way_of : Passed → Passing
way_of q = passing_by q.pass q.written.ty

ways : (ps : List ScriptParameter) → map (λ (p : TypedParameter). passing_of p) (map typed_parameter ps) ≡ map way_of (map passed_of ps)
ways [] = refl
ways (p ∷ ps) = ap (λ l. passing_by p.pass p.written.ty ∷ l) (ways ps)

pub takes_alike : (f g : ScriptFunction) → same_call f g ≡ true → passings_of (typed_parameters f) ≡ passings_of (typed_parameters g)
takes_alike f g e =
    let h : ScriptFunction = record f { name = g.name } in
    let same : heading_of h ≡ heading_of g = (heading-Decides h g).0 (ap (λ b. b && same_call f g) ((bytes_eq-Decides g.name g.name).1 refl) ∙ e) in
    ap reverse (ways f.params ∙ ap (map way_of) (ap (λ (x : CallHeading). x.params) same) ∙ sym (ways g.params))

-- ---- the function that a declaration names

-- what was chosen is one of them, with the import's heading
pub record IsBindable (import : ScriptFunction) (fs : List ScriptFunction) (n : ℕ) : Type 0 where
  pub function : ScriptFunction
  pub at : slice_get fs n ≡ Some function
  pub same : same_call import function ≡ true

-- routines of one module with one number
one_number : (j m n : ℕ) → routine j m ≡ routine j n → m ≡ n
one_number j m n e = ap (λ (r : Routine). r.number) e

bindable_if : (import g : ScriptFunction) (fs : List ScriptFunction) (j m n : ℕ) (b : Bool) → same_call import g ≡ b → slice_get fs m ≡ Some g
    → (if b then (Ok (routine j m)) else (Err SignatureDiffers)) ≡ Ok (routine j n) → IsBindable import fs n
bindable_if import g fs j m n true same at e =
    let number : m ≡ n = one_number j m n (cc) in
    record { function = g; at = subst (λ k. slice_get fs k ≡ Some g) number at; same = same }
bindable_if import g fs j m n false same at e = absurd (cc)

bindable_to : (import : ScriptFunction) (o : Option ScriptFunction) (fs : List ScriptFunction) (j m n : ℕ) → slice_get fs m ≡ o → link_to import j m o ≡ Ok (routine j n) → IsBindable import fs n
bindable_to import None fs j m n at e = absurd (cc)
bindable_to import (Some g) fs j m n at e = bindable_if import g fs j m n (same_call import g) refl at e

bindable_number : (import : ScriptFunction) (o : Option ℕ) (fs : List ScriptFunction) (j n : ℕ) → link_to_number import j o fs ≡ Ok (routine j n) → IsBindable import fs n
bindable_number import None fs j n e = absurd (cc)
bindable_number import (Some m) fs j n e = bindable_to import (slice_get fs m) fs j m n refl e

pub bindable : (import : ScriptFunction) (j n : ℕ) (q : Program) (decl : List ℕ) → link_of (Some import) j q decl ≡ Ok (routine j n) → IsBindable import q.names.functions n
bindable import j n q decl e = bindable_number import (function_named_by q.view q.names decl) q.names.functions j n e

-- ---- it fits

module _ (xs : List (Option LoadedModule)) (m i j n : ℕ) (p q : LoadedModule) (importer : loaded_at xs m ≡ Some p) (exporter : loaded_at xs j ≡ Some q) (import : ScriptFunction)
    (there : slice_get p.names.imports i ≡ Some import) (g : IsBindable import q.names.functions n) where
  abbrev ways_taken : List Passing
  ways_taken = passings_of (typed_parameters import)

  declared_so : p.tree.imports ≡ map import_heading p.names.imports → heading_among (module_at (modules_of xs) m).tree.imports i ≡ Some ways_taken
  declared_so imports =
      ap (λ x. heading_among x.tree.imports i) (module_loaded xs m ∙ ap module_of importer)
      ∙ ap (λ l. option_map (λ (h : Heading). passings_of h.parameters) (slice_get l i)) imports
      ∙ ap (option_map (λ (h : Heading). passings_of h.parameters)) (get-map import_heading p.names.imports i import there)

  function_so : (V : RegistrationList) (ss : List Source) → HasNames V q.names ss (view_typed q.tree) → slice_get (passings_in (module_at (modules_of xs) j).tree) n ≡ Some ways_taken
  function_so V ss has =
      let ps : List TypedParameter = typed_parameters g.function in
      let tree : t.Program = view_typed q.tree in
      let named : slice_get (module_in V q.names).parameters n ≡ Some ps = get-front (map typed_parameters q.names.functions) _ n ps (get-map typed_parameters q.names.functions n g.function g.at) in
      let here = map-get (λ (f : t.TypedFunction). f.parameters) tree.functions n ps (ap (λ l. slice_get l n) has.parameters ∙ named) in
      ap (λ x. slice_get (passings_in x.tree) n) (module_loaded xs j ∙ ap module_of exporter)
      ∙ get-front (map (λ (f : t.TypedFunction). passings_of f.parameters) tree.functions) (map (λ c. []) (initializers_from 0 tree.globals)) n (passings_of here.item.parameters)
      (get-map (λ (f : t.TypedFunction). passings_of f.parameters) tree.functions n here.item here.at)
      ∙ ap (λ l. Some (passings_of l)) here.same
      ∙ ap (λ l. Some l) (sym (takes_alike import g.function g.same))

  pub link_fits : (R : RegistrationList) (own other : List ℕ) (mask sight : ℕ) → IsBuiltBy R own mask p → IsBuiltBy R other sight q → LinkFits (modules_of xs) m i (routine j n)
  link_fits R own other mask sight a b =
      let named = program-named b.sight b.sections (resolved_in q) b.built in
      record {
        params = ways_taken;
        declared = declared_so (program_imports a.sight a.sections (resolved_in p) a.built);
        function = function_so b.sight named.sources named.names;
      }

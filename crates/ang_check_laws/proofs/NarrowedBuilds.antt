-- The program of a build is typed over what its module keeps of its view.
use Rattle.std.specs.Prelude.{◌≡◌, ◌≤◌, ℕ, nat_eq, Bool, true, false, List, length, Option, Some, None, Result, Ok, Err, slice_get}
use Rattle.std.specs.List.{list_any}
use Rattle.std.proofs.Common.{refl, sym, ap, subst}
use Rattle.ang_kinds.specs.declared.error.Error.{Error}
use Rattle.ang_view.specs.Registration.{RegistrationList, seen}
use Rattle.ang_view.specs.Values.{TakesValues}
use Rattle.ang_names_listed.specs.Declarations.{declarations_of}
use Rattle.ang_names_listed.specs.Sources.{Source}
use Rattle.ang_names_classes.specs.Resolved.{names_of}
use Rattle.ang_meaning.specs.Environment.{Environment, class_in}
use Rattle.ang_source.specs.Hosts.{HasView}
use Rattle.ang_source.specs.Meaning.{nothing as no_program}
use Rattle.ang_source_typed.specs.Types.{TypedModule, Modules, first_family, IsUnder}
use Rattle.ang_source_typed.specs.TypedProgram.{AreClasses, TypedProgram}
use Rattle.ang_source_typed.specs.Runs.{HasTree}
use Rattle.ang_check_laws.specs.Registered.{after_calls, nothing}
use Rattle.ang_engine_build.specs.Build.{Resolved, Compiled, resolution_of, after_reading}
use Rattle.ang_engine_build.specs.Narrowed.{narrowed}
use Rattle.ang_engine_build.specs.Script.{sources_of}
use Rattle.ang_engine_build.proofs.Programs.{IsResolution, scripts_resolve}
use Rattle.ang_check_laws.specs.Given.{IsBuilt}
use Rattle.ang_check_laws.specs.HostTypes.{HandlesAreOwn}
use Rattle.ang_check_laws.specs.Narrowed.{asking, seeing, IsKept, BuildsAreTyped, SeenBuildsAreTyped, module_unbuilt, UnbuiltIsTyped}
use Rattle.ang_check_laws.specs.Typed.{ProgramIsTyped}
use Rattle.ang_check_laws.proofs.NarrowedPrograms.{narrowed_typed}
use Rattle.ang_check_laws.proofs.RegistryOwn.{registries_owned, seen_owned, handles_own}
use Rattle.ang_check_laws.proofs.RegistryValues.{registries_take, seen_few}

-- ---- what is built

abbrev over : RegistrationList → TypedModule → TypedModule
over V x = record x { view = V }

-- Over all of the view the module is what its sections build to.
was_built : (V : RegistrationList) (ss : List Source) (z : Environment) (ms : Modules) (m : ℕ) → IsKept z ms m V (resolution_of V ss)
    → IsBuilt (asking V z) (seeing V ms) m V (names_of V (declarations_of ss)) ss
was_built V ss z ms m kept = record {
  known = ap (over V) kept.known;
  tree = record { bodies = kept.tree.bodies; slots = kept.tree.slots; classes = kept.tree.classes };
  view = record { each = λ e. refl };
  methods = kept.methods;
}

module _ (program_is_typed : ProgramIsTyped) where
  resolved_typed : (V : RegistrationList) (ss : List Source) (r : Resolved) (z : Environment) (ms : Modules) (m : ℕ) → TakesValues V → HandlesAreOwn V
      → length V ≤ first_family → IsResolution V ss r → IsKept z ms m V r → TypedProgram z ms m
  resolved_typed V ss r z ms m values own few h kept =
      let names = names_of V (declarations_of ss) in
      let whole : IsKept z ms m V (resolution_of V ss) = subst (IsKept z ms m V) (sym h.is) kept in
      let typed : TypedProgram (asking V z) (seeing V ms) m =
      program_is_typed V names ss (asking V z) (seeing V ms) m values own few h.declared refl h.accepted (was_built V ss z ms m whole) in
      narrowed_typed V z ms m (subst (λ (x : TypedModule). x.view ≡ narrowed V x.program) (sym kept.known) refl)
      (subst (λ (x : TypedModule). HasView z m x.view) (sym kept.known) kept.view) typed

  read_typed : (V : RegistrationList) (read : Result (List Source) Error) (r : Resolved) (z : Environment) (ms : Modules) (m : ℕ) → TakesValues V → HandlesAreOwn V
      → length V ≤ first_family → after_reading V read ≡ Compiled r → IsKept z ms m V r → TypedProgram z ms m
  read_typed V (Ok ss) r z ms m values own few is kept = resolved_typed V ss r z ms m values own few (scripts_resolve V ss r is) kept
  read_typed V (Err e) r z ms m values own few is kept = absurd (let x : ⊥ = cc in x)

  pub builds_typed : BuildsAreTyped
  builds_typed V sections r z ms m values own few is kept = read_typed V (sources_of 0 sections) r z ms m values own few is kept

  pub seen_typed : SeenBuildsAreTyped
  seen_typed calls mask sections r z ms m is kept =
      let R = (after_calls nothing calls).entries in
      let h = seen_few R mask (registries_take calls) in
      builds_typed (seen R mask) sections r z ms m h.values (handles_own (seen R mask) (seen_owned R mask (registries_owned calls))) h.few is kept

-- ---- where nothing is built

false_is : (b : Bool) → b ≡ true → b ≡ false → ⊥
false_is true h k = cc
false_is false h k = cc

nothing_there : {A : Type 0} (o : Option A) (a : A) → o ≡ Some a → o ≡ None → ⊥
nothing_there None a h k = cc
nothing_there (Some x) a h k = cc

module _ (z : Environment) (ms : Modules) (m : ℕ) (known : ms m ≡ module_unbuilt) (tree : HasTree z m no_program) where
  none_above : (c d : ℕ) → IsUnder z ms m c d → ⊥
  none_above c d h =
      let none : list_any (nat_eq d) (class_in (z.class m c)).under ≡ false = ap (λ o. list_any (nat_eq d) (class_in o).under) (tree.classes c) in
      false_is (list_any (nat_eq d) (class_in (z.class m c)).under) h none

  no_classes : AreClasses z ms m
  no_classes = record {
    itself = λ c is. absurd (false_is ((ms m).is_class c) is (ap (λ (x : TypedModule). x.is_class c) known));
    above = λ c d e under up. absurd (none_above c d under);
    inherits = λ c d i ty under at. absurd (none_above c d under);
    falls = λ c d e i at under. absurd (none_above e d under);
  }

  no_bodies : TypedProgram z ms m
  no_bodies = record {
    classes = no_classes;
    functions = λ k s f. absurd (nothing_there (slice_get (ms m).program.functions k) f.function f.there (ap (λ (x : TypedModule). slice_get x.program.functions k) known));
    globals = λ g x at. absurd (nothing_there (slice_get (ms m).program.globals g) x at (ap (λ (x : TypedModule). slice_get x.program.globals g) known));
  }

pub unbuilt_typed : UnbuiltIsTyped
unbuilt_typed z ms m known tree = no_bodies z ms m known tree

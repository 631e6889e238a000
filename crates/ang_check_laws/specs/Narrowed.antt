-- The engine keeps of a built module's view what its program uses: a program that is typed over all of the view is typed over that.
use Rattle.std.specs.Prelude.{◌≡◌, ◌≤◌, ℕ, All, false, List, [], length, slice_get}
use Rattle.std.specs.List.{list_any}
use Rattle.ang_view.specs.Registration.{RegistrationList, entry_at, seen}
use Rattle.ang_view.specs.Values.{TakesValues}
use Rattle.ang_typed.specs.Typed as t
use Rattle.ang_typed.specs.Uses.{uses}
use Rattle.ang_meaning.specs.Environment.{Environment}
use Rattle.ang_source.specs.Hosts.{HasView, use_in}
use Rattle.ang_source.specs.Meaning.{method_among, nothing as no_program}
use Rattle.ang_source_typed.specs.Types.{TypedModule, Modules, first_family}
use Rattle.ang_source_typed.specs.TypedProgram.{TypedProgram}
use Rattle.ang_source_typed.specs.Runs.{HasTree}
use Rattle.ang_check_laws.specs.Registered.{RegistryCall, after_calls, nothing}
use Rattle.ang_engine_build.specs.Build.{Resolved, Compiled, build_of}
use Rattle.ang_engine_build.specs.Narrowed.{narrowed}
use Rattle.ang_check_laws.specs.Given.{is_class_at, constructs}
use Rattle.ang_check_laws.specs.HostTypes.{HandlesAreOwn}

-- ---- over another view

-- the setting, but that each module may ask what this view has
abbrev pub asking : RegistrationList → Environment → Environment
asking V z = record z { host = λ m e. use_in V e }

-- the modules, but that each sees this view
abbrev pub seeing : RegistrationList → Modules → Modules
seeing V ms m = record (ms m) { view = V }

-- The second view has under each number that the program uses what the first has.
abbrev pub HasUses : RegistrationList → RegistrationList → t.Program → Type 0
HasUses V W p = All (λ (n : ℕ). entry_at W n ≡ entry_at V n) (uses p)

-- A program that is typed where its module sees one view is typed where it sees another that has what the program uses.
abbrev pub UsesAreEnough : Type 0
UsesAreEnough = (V : RegistrationList) (z : Environment) (ms : Modules) (m : ℕ) → HasUses V (ms m).view (ms m).program → HasView z m (ms m).view
    → TypedProgram (asking V z) (seeing V ms) m → TypedProgram z ms m

-- So is it over what is kept of the first.
abbrev pub NarrowedIsTyped : Type 0
NarrowedIsTyped = (V : RegistrationList) (z : Environment) (ms : Modules) (m : ℕ) → (ms m).view ≡ narrowed V (ms m).program → HasView z m (ms m).view
    → TypedProgram (asking V z) (seeing V ms) m → TypedProgram z ms m

-- ---- of builds

-- What typing knows of a module that was built over this view.
abbrev pub module_kept : RegistrationList → Resolved → TypedModule
module_kept V r = record {
  view = narrowed V r.tree;
  program = r.tree;
  is_class = λ c. is_class_at (slice_get r.names.families c);
  is_constructor = λ k. list_any (constructs k) r.names.families;
}

-- In the setting, module m is that one, as `setting_for` of the engine gives it.
pub record IsKept (z : Environment) (ms : Modules) (m : ℕ) (V : RegistrationList) (r : Resolved) : Type 0 where
  pub known : ms m ≡ module_kept V r
  pub tree : HasTree z m r.tree
  pub view : HasView z m (narrowed V r.tree)
  pub methods : (c s : ℕ) → z.method m c s ≡ method_among m r.tree.classes c s

-- What is built without errors is typed over what its module keeps of its view. That handles are own is asked of all of the view. Of what is kept it need not
-- hold: a program that asks a factory and does not write its type leaves the factory in a list without the type.
abbrev pub BuildsAreTyped : Type 0
BuildsAreTyped = (V : RegistrationList) (sections : List (List ℕ)) (r : Resolved) (z : Environment) (ms : Modules) (m : ℕ)
    → TakesValues V → HandlesAreOwn V → length V ≤ first_family → build_of V sections ≡ Compiled r → IsKept z ms m V r → TypedProgram z ms m

-- What `seen` says of a view: its declarations take values alone, and the numbers of its types are below those of families.
pub record TakesFewValues (R : RegistrationList) : Type 0 where
  pub values : TakesValues R
  pub few : length R ≤ first_family

-- It holds of each list that a registry's calls make.
abbrev pub RegistriesTakeValues : Type 0
RegistriesTakeValues = (calls : List RegistryCall) → TakesFewValues (after_calls nothing calls).entries

-- So what is built without errors over what a mask shows of such a list is typed.
abbrev pub SeenBuildsAreTyped : Type 0
SeenBuildsAreTyped = (calls : List RegistryCall) (mask : ℕ) (sections : List (List ℕ)) (r : Resolved) (z : Environment) (ms : Modules) (m : ℕ)
    → build_of (seen (after_calls nothing calls).entries mask) sections ≡ Compiled r → IsKept z ms m (seen (after_calls nothing calls).entries mask) r
    → TypedProgram z ms m

-- ---- where nothing is built

abbrev pub module_unbuilt : TypedModule
module_unbuilt = record { view = []; program = no_program; is_class = λ c. false; is_constructor = λ k. false }

-- The program of no functions is typed.
abbrev pub UnbuiltIsTyped : Type 0
UnbuiltIsTyped = (z : Environment) (ms : Modules) (m : ℕ) → ms m ≡ module_unbuilt → HasTree z m no_program → TypedProgram z ms m

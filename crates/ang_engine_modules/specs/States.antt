-- What contracts see of a list of modules.
use Rattle.std.specs.Prelude.{ℕ, ◌≡◌, Bool, false, List, [], ◌∷◌, Option, Some, None, option_map, bytes_eq, slice_index_or}
use Rattle.ang_typed.specs.View.{view_typed}
use Rattle.ang_meaning.specs.World.{World as RunWorld}
use Rattle.ang_heap.specs.declared.globals.Globals.{Globals}
use Rattle.ang_heap.specs.Globals.{values_in}
use Rattle.ang_engine_modules.specs.declared.modules.LoadedModule.{LoadedModule}
use Rattle.ang_engine_modules.specs.declared.module.Module.{Module}
use Rattle.ang_engine_modules.specs.declared.module.ModuleList.{ModuleList}
use Rattle.ang_engine_modules.specs.World.{Program, ModuleState, ModuleStates, World, left_to}

-- what a module is built to
abbrev pub program_in : LoadedModule → Program
program_in l = record { view = l.view; names = l.names; tree = view_typed l.tree; links = l.links }

-- a module, with its program where it is built
abbrev pub state_of : Module → Option LoadedModule → ModuleState
state_of m l = record {
  name = m.name;
  mask = m.mask.0;
  built_mask = m.built_mask.0;
  sections = m.sections.items;
  program = option_map program_in l;
}

-- a module's place, with what is built of it
abbrev pub place_of : Option Module → Option LoadedModule → Option ModuleState
place_of None l = None
place_of (Some m) l = Some (state_of m l)

-- each place, by number
abbrev pub places_of : List (Option Module) → List (Option LoadedModule) → List (Option ModuleState)
places_of [] ls = []
places_of (m ∷ ms) [] = place_of m None ∷ places_of ms []
places_of (m ∷ ms) (l ∷ ls) = place_of m l ∷ places_of ms ls

abbrev pub states_in : ModuleList → ModuleStates
states_in x = record { places = places_of x.places.items x.code; order = x.order.items }

-- these modules, with these globals, beside what a run has left
abbrev pub world_beside : ModuleList → Globals → RunWorld → World
world_beside x gs r = left_to (states_in x) (record r { globals = values_in gs })

-- whether the module in a place has this name
abbrev pub is_named : List ℕ → Option Module → Bool
is_named name None = false
is_named name (Some m) = bytes_eq m.name name

-- ---- numbers of builds

abbrev pub build_in : Option Module → Option ℕ
build_in None = None
build_in (Some m) = m.build

-- the number of the last build of the module in a place, where there is one
abbrev pub build_at : List (Option Module) → ℕ → Option ℕ
build_at xs i = build_in (slice_index_or xs i None)

-- no build was begun
pub record HaveSameBuilds (x y : ModuleList) : Type 0 where
  pub count : y.builds ≡ x.builds
  pub each : (i : ℕ) → build_at y.places.items i ≡ build_at x.places.items i

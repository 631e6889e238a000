-- What an engine keeps from one command to the next (docs/CLAIMS.md, "A command").
use Rattle.std.specs.Prelude.{ℕ, ◌-◌, ◌^◌, Bool, false, List, [], ◌∷◌, Option, Some, None, option_map, position, bytes_eq, slice_index_or, slice_set, map as list_map}
use Rattle.std.specs.FinMap as map
use Rattle.ang_view.specs.Registration.{RegistrationList}
use Rattle.ang_typed.specs.Typed as t
use Rattle.ang_names_known.specs.declared.names.Names.{Names}
use Rattle.ang_meaning.specs.declared.slot.Slot.{Slot}
use Rattle.ang_meaning.specs.declared.routine.Routine.{Routine}
use Rattle.ang_meaning.specs.World.{Input, Bounds, ScriptObjects, HostCounts, World as RunWorld, live_hosts}
use Rattle.ang_meaning.specs.Results.{give_back}
use Rattle.ang_engine_modules.specs.Modules.{Module, unbuilt, unbound_links}

-- what a module is built to: what it sees of the host, the names that its scripts declare, their
-- resolved tree, and by the number of an import the function that it is bound to, if any
pub record Program : Type 0 where
  pub view : RegistrationList
  pub names : Names
  pub tree : t.Program
  pub links : List (Option Routine)

-- a module: its name, the mask that acts at its next build, the mask of its last build, a failed
-- one too (before the first build the mask that it was made with), the sections that wait, and
-- where it is built its program
pub record ModuleState : Type 0 where
  pub name : List ℕ
  pub mask : ℕ
  pub built_mask : ℕ
  pub sections : List (List ℕ)
  pub program : Option Program

-- The modules by number. A module keeps its number for as long as it is there, and the place that a
-- discarded one leaves is empty until a new one takes it. `order` has the numbers of those that are
-- there, in the order in which they were made.
pub record ModuleStates : Type 0 where
  pub places : List (Option ModuleState)
  pub order : List ℕ

-- The modules, and beside them what their runs leave for one another: script objects, how many
-- places hold each host object, by driver, and the values of the globals, by module and number.
pub record World : Type 0 where
  pub modules : ModuleStates
  pub objects : ScriptObjects
  pub hosts : HostCounts
  pub globals : List (List Slot)
  -- how many host objects live
  pub live : ℕ
  -- whether a reference was refused since a driver's tally has run out
  pub spent : Bool
  -- how much the host allows
  pub bounds : Bounds

-- as much as there are numbers for
abbrev pub unbounded : Bounds
unbounded = record { events = 2 ^ 64 - 1; slots = 2 ^ 64 - 1; objects = 2 ^ 64 - 1 }

-- an engine begins without modules and bounds, and with nothing alive
abbrev pub no_modules : World
no_modules = record {
  modules = record { places = []; order = [] };
  objects = map.empty;
  hosts = λ d. map.empty;
  globals = [];
  live = 0;
  spent = false;
  bounds = unbounded;
}

-- from now on the host allows so much
abbrev pub bounded_by : Bounds → World → World
bounded_by b w = record w { bounds = b }

-- ---- the module of a name

abbrev pub has_name : List ℕ → Option ModuleState → Bool
has_name name None = false
has_name name (Some m) = bytes_eq m.name name

-- the number of the module of that name, of which there is one at most
abbrev pub module_named : List ℕ → World → Option ℕ
module_named name w = position (has_name name) w.modules.places

-- stands where there is no module; no command reads it
abbrev pub no_module : ModuleState
no_module = record { name = []; mask = 0; built_mask = 0; sections = []; program = None }

abbrev pub module_in : Option ModuleState → ModuleState
module_in None = no_module
module_in (Some m) = m

abbrev pub module_at : World → ℕ → ModuleState
module_at w i = module_in (slice_index_or w.modules.places i None)

-- the modules with this one in the place of that number
abbrev pub placed : World → ℕ → ModuleState → ModuleStates
placed w i m = record w.modules { places = slice_set w.modules.places i (Some m) }

-- ---- bindings

-- its imports that were bound to a function of module i are unbound
abbrev pub unbound_program : ℕ → Program → Program
unbound_program i p = record p { links = unbound_links i p.links }

abbrev pub unbound_module : ℕ → ModuleState → ModuleState
unbound_module i m = record m { program = option_map (unbound_program i) m.program }

-- every import of any module that was bound to a function of module i is unbound
abbrev pub all_unbound_from : ℕ → World → World
all_unbound_from i w =
    record w {
      modules = record w.modules {
        places = list_map (option_map (unbound_module i)) w.modules.places;
      };
    }

-- ---- runs of its modules

-- a module as runs know it
abbrev pub built_of : List ℕ → Option Program → Module
built_of name None = unbuilt
built_of name (Some p) = record { name = name; view = p.view; tree = p.tree; links = p.links }

abbrev pub built_at : Option ModuleState → Module
built_at None = unbuilt
built_at (Some m) = built_of m.name m.program

abbrev pub built_in : ModuleStates → List Module
built_in ms = list_map built_at ms.places

-- the world of a run that begins, with nothing listed yet
abbrev pub running : World → List Input → RunWorld
running w inputs = record {
  objects = w.objects;
  hosts = w.hosts;
  globals = w.globals;
  events = [];
  reserved = w.live;
  spent = w.spent;
  bounds = w.bounds;
  inputs = inputs;
}

-- what a run leaves, beside these modules
abbrev pub left_to : ModuleStates → RunWorld → World
left_to modules r =
    record {
      modules = modules;
      objects = r.objects;
      hosts = r.hosts;
      globals = r.globals;
      live = live_hosts r;
      spent = r.spent;
      bounds = r.bounds;
    }

-- ---- globals that end

-- A module's globals end: it has none any more, and their values are given up, the last one first.
abbrev pub globals_ended : ℕ → RunWorld → RunWorld
globals_ended i r =
    give_back (slice_index_or r.globals i []) (record r { globals = slice_set r.globals i [] })

-- those of some modules, the last one first
abbrev pub all_ended : List ℕ → RunWorld → RunWorld
all_ended [] r = r
all_ended (i ∷ is) r = globals_ended i (all_ended is r)

-- The engine ends: so do the globals of all modules, those of the module last made first.
abbrev pub engine_ended : World → RunWorld
engine_ended w = all_ended w.modules.order (running w [])

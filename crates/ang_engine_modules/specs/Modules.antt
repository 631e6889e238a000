-- The modules of an engine as their runs know them, by number (docs/CLAIMS.md, "A run of a built
-- module").
use Rattle.std.specs.Prelude.{◌≡◌, ◌<◌, ◌==◌, ℕ, List, [], Option, Some, None, IsSome, length, slice_get, slice_index_or, if◌then◌else◌, map}
use Rattle.std.specs.Option.{option_flatten}
use Rattle.ang_kinds.specs.declared.primitive.Primitive.{Primitive}
use Rattle.ang_host.specs.declared.event.HostEvent.{HostEvent}
use Rattle.ang_host.specs.declared.event.HostEvent.TheVariants.{Called, Ended}
use Rattle.ang_host.specs.declared.event.Role.{Role}
use Rattle.ang_host.specs.Events.{role_at}
use Rattle.ang_view.specs.declared.entry.Entry.{Entry}
use Rattle.ang_view.specs.Registration.{RegistrationList, entry_at}
use Rattle.ang_typed.specs.Typed as t
use Rattle.ang_source.specs.Meaning.{nothing, heading_among, passings_in}
use Rattle.ang_types.specs.ArgTypes.{primitive_of}
use Rattle.ang_meaning.specs.declared.host.HostUse.{HostUse}
use Rattle.ang_meaning.specs.declared.routine.Passing.{Passing}
use Rattle.ang_meaning.specs.declared.routine.Routine.{Routine}
use Rattle.ang_source.specs.Hosts.{use_in}

-- a built module: its name, as events list it, what its built mask shows of the host
-- (docs/CLAIMS.md, "Masks and views"), its resolved tree, and by the number of an import the
-- function that it is bound to, if any
pub record Module : Type 0 where
  pub name : List ℕ
  pub view : RegistrationList
  pub tree : t.Program
  pub links : List (Option Routine)

-- stands where no module is built: it sees nothing and has no bodies
abbrev pub unbuilt : Module
unbuilt = record { name = []; view = []; tree = nothing; links = [] }

abbrev pub module_at : List Module → ℕ → Module
module_at ms m = slice_index_or ms m unbuilt

-- ---- where imports lead

-- where import i of module m leads, if it is bound
abbrev pub link_at : List Module → ℕ → ℕ → Option Routine
link_at ms m i = option_flatten (slice_get (module_at ms m).links i)

-- an import that leads to a function of module m leads nowhere
abbrev pub unbound_link : ℕ → Option Routine → Option Routine
unbound_link m None = None
unbound_link m (Some g) = if g.home == m then None else Some g

abbrev pub unbound_links : ℕ → List (Option Routine) → List (Option Routine)
unbound_links m = map (unbound_link m)

-- the function takes its arguments as import i of module m is declared to
pub record LinkFits (ms : List Module) (m i : ℕ) (g : Routine) : Type 0 where
  pub params : List Passing
  pub declared : heading_among (module_at ms m).tree.imports i ≡ Some params
  pub function : slice_get (passings_in (module_at ms g.home).tree) g.number ≡ Some params

-- so does each function to which an import leads
pub record AreLinked (ms : List Module) : Type 0 where
  pub each : (m i : ℕ) (g : Routine) → link_at ms m i ≡ Some g → LinkFits ms m i g

abbrev pub trees_of : List Module → List t.Program
trees_of ms = map (λ x. x.tree) ms

-- ---- what they may ask

-- module m sees this entry under its number
abbrev pub entry_in : List Module → ℕ → ℕ → Option Entry
entry_in ms m e = entry_at (module_at ms m).view e

-- the driver of each entry that some module may ask is one of the first `count`
abbrev pub AreDriversThere : List Module → ℕ → Type 0
AreDriversThere ms count =
    (m e : ℕ) (u : HostUse) → use_in (module_at ms m).view e ≡ Some u → u.driver < count

-- each entry that some module may ask has the role by which it is asked
pub record AgreesWith (roles : List Role) (ms : List Module) : Type 0 where
  pub each :
      (m e : ℕ) (u : HostUse) → use_in (module_at ms m).view e ≡ Some u → role_at roles e ≡ u.role

-- a host call by one of the modules, of an entry that this module sees; or an object's end
abbrev pub IsAskedIn : List Module → HostEvent → Type 0
IsAskedIn ms (Called caller entity driver object args reply) =
    (m : ℕ) × (caller ≡ (module_at ms m).name) × IsSome (entry_in ms m entity.0)
IsAskedIn ms (Ended driver key) = Unit {0}

-- the primitive type of a function's value, where there is the function and its value is of one
abbrev pub result_in : Option t.TypedFunction → Option Primitive
result_in None = None
result_in (Some f) = primitive_of f.result

abbrev pub result_at : List Module → ℕ → ℕ → Option Primitive
result_at ms m n = result_in (slice_get (module_at ms m).tree.functions n)

-- the function of that number in module m takes n arguments
pub record TakesSoMany (ms : List Module) (m n count : ℕ) : Type 0 where
  pub function : t.TypedFunction
  pub at : slice_get (module_at ms m).tree.functions n ≡ Some function
  pub params : length function.parameters ≡ count

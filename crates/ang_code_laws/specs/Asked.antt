-- What a run asks of the host, and for which module.
use Rattle.std.specs.Prelude.{◌≡◌, ◌⊎◌, ℕ, true, false, List, [], ◌++◌, length, Option, is_some}
use Rattle.std.specs.List.{AllByRecursion}
use Rattle.ang_kinds.specs.declared.mask.EntityNo.{EntityNo}
use Rattle.ang_kinds.specs.declared.value.Value.{Value}
use Rattle.ang_host.specs.declared.event.HostEvent.{HostEvent}
use Rattle.ang_host.specs.declared.event.HostEvent.TheVariants.{Called, Ended}
use Rattle.ang_host.specs.declared.event.Role.{Role}
use Rattle.ang_host.specs.declared.event.Role.TheVariants.{Making, Calling, Property}
use Rattle.ang_meaning.specs.declared.host.HostUse.{HostUse}
use Rattle.ang_meaning.specs.declared.slot.Slot.{Slot}
use Rattle.ang_meaning.specs.declared.routine.Routine.{Routine}
use Rattle.ang_meaning.specs.World.{World, with_inputs}
use Rattle.ang_meaning.specs.Environment.{Environment, use_at, may_call, may_access}
use Rattle.ang_meaning.specs.Hosts.{is_reply_to}
use Rattle.ang_code.specs.Machine.{Texts, Config, At, Over, Finished, Faulted, Stuck, steps, call_begins, initializer_begins}
use Rattle.ang_code.specs.Runs.{Runs, Completion}

-- there is such an entity, and its role is to be called, or to be read and written as a property
abbrev pub MayBeAsked : Environment → ℕ → EntityNo → Type 0
MayBeAsked z m e = (may_call (z.host m e.0) ≡ true) ⊎ (may_access (z.host m e.0) ≡ true)

-- what an entity is asked with: as many arguments as it declares; a property with none where it is read, and with one where it is written, and then it is
-- not declared `const`
abbrev pub ArgumentsBy : Role → HostUse → List Value → Type 0
ArgumentsBy (Making f) u args = length args ≡ length u.params
ArgumentsBy (Calling f) u args = length args ≡ length u.params
ArgumentsBy (Property f) u args = (args ≡ []) ⊎ ((length args ≡ 1) × (u.read_only ≡ false))

-- it is asked of an object just where it is a member
pub record FitsUse (u : HostUse) (object : Option ℕ) (args : List Value) : Type 0 where
  pub of_object : is_some object ≡ u.member
  pub arguments : ArgumentsBy u.role u args

-- the event is a host call by a module, of an entity that this module sees, of its driver, as it is declared, and its reply is of the kind that its role gives;
-- or an object's end
abbrev pub IsAskedBy : Environment → HostEvent → Type 0
IsAskedBy z (Called caller entity driver object args reply) =
    (m : ℕ) × (caller ≡ z.name m) × MayBeAsked z m entity × (driver ≡ (use_at z m entity).driver) × FitsUse (use_at z m entity) object args × (is_reply_to (use_at z m entity).role reply ≡ true)
IsAskedBy z (Ended driver key) = Unit {0}

-- what a run listed since
pub record Asks (z : Environment) (before after : World) : Type 0 where
  pub more : List HostEvent
  pub events : after.events ≡ before.events ++ more
  pub askings : AllByRecursion (IsAskedBy z) more

-- a configuration to which a run has come from a world
abbrev pub AsksFrom : Environment → World → Config → Type 0
AsksFrom z w (At f pc room s fr t w') = Asks z w w'
AsksFrom z w (Over (Finished v t w')) = Asks z w w'
AsksFrom z w (Over (Faulted x w')) = Asks z w w'
AsksFrom z w (Over Stuck) = Unit {0}

-- each run of a command's call, as far as it has come
abbrev pub CallsAsk : Type 0
CallsAsk = (z : Environment) (code : Texts) (n budget : ℕ) (g : Routine) (vs : List Slot) (w : World) → AsksFrom z w (steps z code n (call_begins z code budget g vs w))

-- and of an initializer
abbrev pub InitializersAsk : Type 0
InitializersAsk = (z : Environment) (code : Texts) (n t : ℕ) (g : Routine) (w : World) → AsksFrom z w (steps z code n (initializer_begins z code t g w))

-- each whole run of a command's call, told the inputs that it takes
abbrev pub CallRunsAsk : Type 0
CallRunsAsk = (z : Environment) (code : Texts) (budget : ℕ) (g : Routine) (vs : List Slot) (w w' : World) (end : Completion) → Runs z code (λ is. call_begins z code budget g vs (with_inputs is w)) end w' → Asks z w w'

-- and of an initializer
abbrev pub InitializerRunsAsk : Type 0
InitializerRunsAsk = (z : Environment) (code : Texts) (t : ℕ) (g : Routine) (w w' : World) (end : Completion) → Runs z code (λ is. initializer_begins z code t g (with_inputs is w)) end w' → Asks z w w'

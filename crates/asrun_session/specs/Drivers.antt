-- The drivers of a run.
use Rattle.std.specs.Prelude.{◌≡◌, ℕ, ◌≤◌, List, [], ◌++◌, All, length, codes, map as list_map}
use Rattle.std.specs.declared.alloc.Global.{Global}
use Rattle.std.specs.declared.dyn_box.DynBox.{DynBox}
use Rattle.ang_host.specs.Counts.{IsBalanced}
use Rattle.ang_host.specs.Events.{DriversFollow}
use Rattle.ang_host.specs.Meanings.{Meanings}
use Rattle.ang_host.specs.Members.{states_of, AreFresh}
use Rattle.ang_host.specs.Refusal.{IsRefusal}
use Rattle.ang_host.specs.declared.drivers.DriversError.{DriversError}
use Rattle.ang_host.specs.declared.drivers.DriversError.TheVariants.{TooMany, Busy}
use Rattle.ang_host.specs.declared.event.HostEvent.{HostEvent}
use Rattle.ang_host.specs.declared.event.Role.{Role}
use Rattle.ang_view.specs.Registration.{RegistrationList}
use Rattle.ang_engine.specs.Roles.{AreRoles, roles_of}
use Rattle.ang_engine.specs.Sound.{HaveDrivers}
use Rattle.ang_engine_modules.specs.World.{World, engine_ended}
use Rattle.asrun_session.specs.LastEnds.{AreLastEnds}

-- which driver stands at each place
abbrev pub kinds_of : {V : Type 0} {P : V → Type 0} → List (DynBox V Global P) → List V
kinds_of = list_map (λ b. b.vtable)

-- The drivers are taken as a list: there are at most 64, and none has a live key.
pub record AreListed {V : Type 0} {P : V → Type 0} (m : Meanings P)
    (xs : List (DynBox V Global P)) : Type 0 where
  pub few : length xs ≤ 64
  pub idle : AreFresh (states_of m xs)

-- An engine over the list R takes the drivers: each entry's driver is one of them, too.
pub record AreTaken {V : Type 0} {P : V → Type 0} (m : Meanings P) (R : RegistrationList)
    (xs : List (DynBox V Global P)) : Type 0 where
  pub listed : AreListed m xs
  pub in_list : HaveDrivers R (length xs)

-- why none takes them: they are not taken as a list, or an entry's driver is not there
pub data EngineRefusal : Type 0 where
  NotListed : DriversError → EngineRefusal
  NoDriver : EngineRefusal

abbrev pub IsRefused : {V : Type 0} {P : V → Type 0} → Meanings P → RegistrationList
    → List (DynBox V Global P) → EngineRefusal → Type 0
IsRefused m R xs (NotListed why) = IsRefusal why (states_of m xs)
IsRefused m R xs NoDriver = AreListed m xs × (HaveDrivers R (length xs) → ⊥)

-- no engine over the list R takes them
abbrev pub AreRefused : {V : Type 0} {P : V → Type 0} → Meanings P → RegistrationList
    → List (DynBox V Global P) → Type 0
AreRefused m R xs = (why : EngineRefusal) × IsRefused m R xs why

-- what is printed then
abbrev pub engine_text : EngineRefusal → List ℕ
engine_text (NotListed TooMany) = codes "engine TooMany\n"
engine_text (NotListed Busy) = codes "engine Busy\n"
engine_text NoDriver = codes "engine NoDriver\n"

-- By some events, of which S is said, the drivers xs became ys, by any roles that fit the list R: those of
-- a list that R comes from do, by entries that went.
abbrev pub ByEvents : {V : Type 0} {P : V → Type 0} → Meanings P → RegistrationList
    → List (DynBox V Global P) → (List HostEvent → Type 0) → List (DynBox V Global P) → Type 0
ByEvents m R xs S ys =
    (es : List HostEvent) × S es
    × ((roles : List Role) → AreRoles roles R → DriversFollow m roles xs es ys)

-- They come back with nothing alive, so that another engine can take them.
pub record AreBack {V : Type 0} {P : V → Type 0} (m : Meanings P)
    (xs : List (DynBox V Global P)) : Type 0 where
  pub balanced : All IsBalanced (states_of m xs)
  pub fresh : AreFresh (states_of m xs)

-- An engine over the list R took the drivers. What was done with it, of which S is said, listed
-- some events and left a world; and then it was discarded. The drivers followed these events and
-- then the ends of what the world still held, which are one for each object that was alive, and
-- came back with nothing alive.
pub record WasDiscarded {V : Type 0} {P : V → Type 0} (m : Meanings P) (R : RegistrationList)
    (xs ys : List (DynBox V Global P)) (S : List HostEvent → World → Type 0) : Type 0 where
  pub taken : AreTaken m R xs
  pub events : List HostEvent
  pub after : World
  pub did : S events after
  pub follow : DriversFollow m (roles_of R) xs (events ++ (engine_ended after).events) ys
  pub last : AreLastEnds (length xs) events (engine_ended after).events
  pub back : AreBack m ys

-- nothing was done with an engine that had the world w
abbrev pub DidNothing : World → List HostEvent → World → Type 0
DidNothing w es after = (es ≡ []) × (after ≡ w)

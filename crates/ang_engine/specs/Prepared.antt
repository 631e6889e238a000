-- Functions of built modules that are looked up once and called by their number (docs/HOST.md, "Besides
-- commands").
use Rattle.std.specs.Prelude.{ℕ, ◌≡◌, ◌≢◌, ◌≤◌, ◌==◌, Bool, true, false, if◌then◌else◌, List, [], All, Option, Some, None, Result, Ok, Err, slice_get}
use Rattle.std.specs.declared.alloc.Global.{Global}
use Rattle.std.specs.declared.dyn_box.DynBox.{DynBox}
use Rattle.ang_kinds.specs.declared.value.Value.{Value}
use Rattle.ang_host.specs.Meanings.{Meanings}
use Rattle.ang_host.specs.Events.{DriversFollow}
use Rattle.ang_host.specs.declared.event.Role.{Role}
use Rattle.ang_view.specs.Groups.{Grouped}
use Rattle.ang_names_known.specs.declared.names.ScriptFunction.{ScriptFunction}
use Rattle.ang_meaning.specs.World.{Input}
use Rattle.ang_engine_call.specs.Named.{function_named_by}
use Rattle.ang_engine_call.specs.Calls.{is_callable}
use Rattle.ang_engine_modules.specs.declared.command.Command.{Command}
use Rattle.ang_engine_modules.specs.declared.command.Command.TheVariants.{Build, Call, Discard}
use Rattle.ang_engine_modules.specs.declared.reply.Reply.{Reply}
use Rattle.ang_engine_modules.specs.declared.reply.Outcome.{Outcome}
use Rattle.ang_engine_modules.specs.declared.reply.Outcome.TheVariants.{Refused}
use Rattle.ang_engine_modules.specs.declared.reply.Refusal.{Refusal}
use Rattle.ang_engine_modules.specs.declared.reply.Refusal.TheVariants.{NoModule, NotBuilt, BuildMemory, BuildErrors, InitFailed, NoFunction, NotCallable}
use Rattle.ang_engine_modules.specs.World.{Program, World, module_named, module_at}
use Rattle.ang_engine_modules.specs.Commands.{Stepped, refused, reply_of}
use Rattle.ang_engine.specs.declared.engine.Engine.{Engine}
use Rattle.ang_engine.specs.declared.prepared.Prepared.{Prepared}
use Rattle.ang_engine.specs.Roles.{AreRoles}
use Rattle.ang_engine.specs.Engines.{list_in, world_in, drivers_in, builds_in, last_build}
use Rattle.ang_engine.specs.Step.{Takes, IsEntitled, of_function, call_chosen}
use Rattle.ang_engine.specs.Outcomes.{IfRefusedAtOnce}

-- ---- what a look-up finds

-- the number of the module that has the function
abbrev pub place_in : Prepared → ℕ
place_in p = p.home

-- the number of that module's last build when it was looked up
abbrev pub build_in : Prepared → ℕ
build_in p = p.build

-- the function's number in its module
abbrev pub number_in : Prepared → ℕ
number_in p = p.number

abbrev pub callable : ℕ → Option ScriptFunction → Result ℕ Refusal
callable n None = Err NoFunction
callable n (Some f) = if is_callable f then Ok n else Err NotCallable

abbrev pub callable_of : Option ℕ → List ScriptFunction → Result ℕ Refusal
callable_of None fs = Err NoFunction
callable_of (Some n) fs = callable n (slice_get fs n)

-- the number of the function that a text names in a module's program, if a host can call it
abbrev pub callable_in : Option Program → List ℕ → Result ℕ Refusal
callable_in None decl = Err NotBuilt
callable_in (Some p) decl =
    callable_of (function_named_by p.view p.names decl) p.names.functions

abbrev pub callable_at : Option ℕ → List ℕ → World → Result ℕ Refusal
callable_at None decl w = Err NoModule
callable_at (Some i) decl w = callable_in (module_at w i).program decl

-- In the module of a name, or why there is none: no such module, not built, no such function, none
-- that a host can call, in this order.
abbrev pub looked_up : List ℕ → List ℕ → World → Result ℕ Refusal
looked_up name decl w = callable_at (module_named name w) decl w

-- ---- what it stands for

-- The module of that name is built still as it was when the function was looked up, and the text names
-- that function in it. `builds` gives for each place the number of the last build of its module.
pub record IsFunctionOf (w : World) (builds : ℕ → Option ℕ) (p : Prepared) (name decl : List ℕ) : Type 0 where
  pub place : module_named name w ≡ Some (place_in p)
  pub build : builds (place_in p) ≡ Some (build_in p)
  pub program : Program
  pub built : (module_at w (place_in p)).program ≡ Some program
  pub number : function_named_by program.view program.names decl ≡ Some (number_in p)

abbrev pub is_build : ℕ → Option ℕ → Bool
is_build n None = false
is_build n (Some b) = b == n

-- whether its module is there still, and was not built since
abbrev pub is_there : (ℕ → Option ℕ) → Prepared → Bool
is_there builds p = is_build (build_in p) (builds (place_in p))

-- ---- what a command does to it

-- whether a build that was answered so had begun, or a discard that was answered so was done
abbrev pub has_begun : Outcome → Bool
has_begun (Refused BuildMemory) = true
has_begun (Refused BuildErrors) = true
has_begun (Refused (InitFailed f)) = true
has_begun (Refused why) = false
has_begun _ = true

-- The number of the module that a command has built anew, left unbuilt or discarded, if there is one.
abbrev pub replaced : Command → Outcome → World → Option ℕ
replaced (Build name budget) outcome w = if has_begun outcome then module_named name w else None
replaced (Discard name) outcome w = if has_begun outcome then module_named name w else None
replaced _ outcome w = None

-- What was looked up while n builds had begun, when k have: of the module that was replaced nothing is
-- there any more, and of every other all is there that was, and nothing else. So what is not there never
-- comes back.
pub record HaveMoved (one : Option ℕ) (n : ℕ) (before : ℕ → Option ℕ) (k : ℕ) (after : ℕ → Option ℕ)
    : Type 0 where
  pub count : n ≤ k
  pub lost : (p : Prepared) → one ≡ Some (place_in p) → build_in p ≤ n → is_there after p ≡ false
  pub kept : (p : Prepared) → one ≢ Some (place_in p) → is_there after p ≡ is_there before p

-- the command, which ended so, took one engine to the other
abbrev pub HasMovedPrepared : {V : Type 0} {P : V → Type 0} → Meanings P → Engine V P → Command
    → Outcome → Engine V P → Type 0
HasMovedPrepared m e c outcome f =
    HaveMoved (replaced c outcome (world_in m e)) (last_build e) (builds_in e) (last_build f) (builds_in f)

-- ---- a call of it

-- Told the values and the budget, it takes the modules from w to v as a call does by each text that names
-- the function. Where its module was built anew since, or is gone, it is refused and changes nothing.
pub record PreparedApplied {V : Type 0} {P : V → Type 0} (m : Meanings P) (R : Grouped)
    (builds : ℕ → Option ℕ) (w : World) (xs : List (DynBox V Global P)) (p : Prepared) (args : List Value)
    (budget : ℕ) (reply : Reply) (v : World) (ys : List (DynBox V Global P)) : Type 0 where
  pub takes : (name decl : List ℕ) → IsFunctionOf w builds p name decl
      → Takes R w (Call name decl args budget) reply v
  pub gone : is_there builds p ≡ false → (reply ≡ reply_of (Refused NoFunction) [] []) × (v ≡ w)
  pub entitled : All (IsEntitled R.entries v) reply.events
  pub follow : (roles : List Role) → AreRoles roles R.entries
      → DriversFollow m roles xs reply.events ys
  pub refused : IfRefusedAtOnce reply.outcome (ys ≡ xs)

-- it takes one engine to the other
abbrev pub HasAppliedPrepared : {V : Type 0} {P : V → Type 0} → Meanings P → Engine V P → Prepared
    → List Value → ℕ → Reply → Engine V P → Type 0
HasAppliedPrepared m e p args budget reply f =
    PreparedApplied m (list_in e) (builds_in e) (world_in m e) (drivers_in e) p args budget
    reply (world_in m f) (drivers_in f)

-- ---- the second half of a call

-- a call of a function by its number in module i
abbrev pub call_by_number :
    Option Program → ℕ → List Value → ℕ → World → ℕ → List Input → Option Stepped
call_by_number None n args budget w i inputs = refused NotBuilt w inputs
call_by_number (Some p) n args budget w i inputs =
    call_chosen (of_function n (slice_get p.names.functions n) args) w i budget inputs

abbrev pub calling_number : ℕ → ℕ → List Value → ℕ → World → List Input → Option Stepped
calling_number i n args budget w inputs =
    call_by_number (module_at w i).program n args budget w i inputs

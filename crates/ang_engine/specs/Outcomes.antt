-- What the functions behind the commands answer.
use Rattle.std.specs.Prelude.{◌≡◌, ◌⊎◌, ℕ, List, [], Option, Some, None, Result, Ok, Err, slice_get}
use Rattle.ang_kinds.specs.declared.fault.Fault.{Fault}
use Rattle.ang_kinds.specs.declared.value.Value.{Value}
use Rattle.ang_host.specs.declared.event.HostEvent.{HostEvent}
use Rattle.ang_view.specs.Registration.{RegistrationList}
use Rattle.ang_meaning.specs.declared.routine.Routine.{Routine}
use Rattle.ang_meaning.specs.declared.slot.Slot.{Slot}
use Rattle.ang_meaning.specs.declared.slot.Slot.TheVariants.{Bits}
use Rattle.ang_meaning.specs.World.{Input, World as RunWorld, with_inputs}
use Rattle.ang_meaning.specs.Counting.{Thing, how_many}
use Rattle.ang_source.specs.Meaning.{routine}
use Rattle.ang_names_known.specs.declared.names.Names.{Names}
use Rattle.ang_names_known.specs.declared.names.ScriptFunction.{ScriptFunction}
use Rattle.ang_engine_call.specs.Calls.{result_of}
use Rattle.ang_types.specs.ArgTypes.{primitive_of}
use Rattle.ang_engine_build.specs.declared.program.NoProgram.{NoProgram}
use Rattle.ang_engine_build.specs.declared.program.NoProgram.TheVariants as no
use Rattle.ang_engine_build.specs.Build.{Built, Errors, Compiled}
use Rattle.ang_engine_modules.specs.declared.modules.LoadedModule.{LoadedModule}
use Rattle.ang_engine_modules.specs.Modules.{Module, result_at}
use Rattle.ang_engine_modules.specs.Executed.{call_of, initialization_of}
use Rattle.ang_engine_modules.specs.Ends.{Ends}
use Rattle.ang_engine.specs.declared.building.BuildRefused.{BuildRefused}
use Rattle.ang_engine.specs.declared.building.BuildRefused.TheVariants as why
use Rattle.ang_engine.specs.declared.calling.ChosenCall.{ChosenCall}
use Rattle.ang_engine_modules.specs.declared.reply.Outcome.{Outcome}
use Rattle.ang_engine_modules.specs.declared.reply.Outcome.TheVariants.{Done, Failed, Refused}
use Rattle.ang_engine_modules.specs.declared.reply.Reply.{Reply}
use Rattle.ang_engine_modules.specs.declared.reply.Refusal.{Refusal}
use Rattle.ang_engine_modules.specs.declared.reply.Refusal.TheVariants.{BuildMemory, BuildErrors, InitFailed, Memory}
use Rattle.ang_engine_modules.specs.World.{Program, World, module_named, globals_ended}
use Rattle.ang_engine.specs.Engines.{resolved_in}
use Rattle.ang_engine_modules.specs.Commands.{Stepped, reply_of, on_module, on_both, discard}
use Rattle.ang_engine_modules.specs.Outcomes.{IsRefused}
use Rattle.ang_engine.specs.Step.{Leads, Choice, errors_reply, globals_begun, build_within, bind, call}
use Rattle.ang_engine.specs.Step.{Chosen, Not}

-- This holds where a command was refused before it did anything, as every refused command is but a
-- build that was begun.
abbrev pub IfRefusedAtOnce : Outcome → Type 0 → Type 0
IfRefusedAtOnce (Refused BuildMemory) P = Unit {0}
IfRefusedAtOnce (Refused BuildErrors) P = Unit {0}
IfRefusedAtOnce (Refused (InitFailed f)) P = Unit {0}
IfRefusedAtOnce (Refused why) P = P
IfRefusedAtOnce _ P = Unit {0}

-- ---- bindings

-- the number of a function of module j to which an import is bound, or the refusal, unless memory was
-- refused
abbrev pub IsLinked : Result ℕ Refusal → ℕ → Result Routine Refusal → Type 0
IsLinked (Ok n) j link = link ≡ Ok (routine j n)
IsLinked (Err why) j link = (why ≡ Memory) ⊎ (link ≡ Err why)

-- refused so
abbrev pub IsRefusedBy : {U : Type 0} → Result U Refusal → Refusal → Type 0
IsRefusedBy (Ok u) why = ⊥
IsRefusedBy (Err because) why = because ≡ why

-- an import of the module of a name that is bound to a function of the module of another name
abbrev pub binding : List ℕ → ℕ → List ℕ → List ℕ → World → List Input → Option Stepped
binding name index exporter decl w inputs =
    on_both (module_named name w) (module_named exporter w) w inputs (bind index decl w)

-- ---- discards

abbrev pub discarding : List ℕ → World → List Input → Option Stepped
discarding name w inputs = on_module (module_named name w) w inputs (discard w)

-- The module was discarded, and these events are listed; or the command was refused.
abbrev pub IsDiscarded : {U : Type 0} → Result U Refusal → List HostEvent
    → (List Input → Option Stepped) → World → World → Type 0
IsDiscarded (Ok u) events go before after = Leads go (reply_of (Done None) events []) after
IsDiscarded (Err why) events go before after = IsRefused why go before after

-- the reply to a discard that has listed these events
abbrev pub reply_to_discard : {U : Type 0} → Result U Refusal → List HostEvent → Reply
reply_to_discard (Ok u) events = reply_of (Done None) events []
reply_to_discard (Err why) events = reply_of (Refused why) [] []

-- ---- builds

-- what the sections build to, unless memory was refused
abbrev pub IsCompiled : Result LoadedModule NoProgram → Built → Type 0
IsCompiled (Ok l) built = built ≡ Compiled (resolved_in l)
IsCompiled (Err (no.Errors es ds)) built = built ≡ Errors es
IsCompiled (Err no.Memory) built = Unit {0}

-- what a build is refused by that comes to no program
abbrev pub refused_by : NoProgram → BuildRefused
refused_by (no.Errors es ds) = why.Errors es ds
refused_by no.Memory = why.Memory

-- a build was begun that is refused so
abbrev pub IsBegun : BuildRefused → Type 0
IsBegun (why.Before refusal) = ⊥
IsBegun why.Memory = Unit {0}
IsBegun (why.Errors es ds) = Unit {0}
IsBegun (why.Initializer f) = Unit {0}

-- A program's globals have begun and its initializers have run, in module i among these; and where
-- one has failed the globals have ended. Or memory was refused before, and nothing was done.
abbrev pub HasStarted : {U : Type 0} → List Module → ℕ → ℕ → Program → RunWorld
    → Result U BuildRefused → RunWorld → Type 0
HasStarted ms i budget p before (Ok u) after =
    Ends (initialization_of ms budget i) (globals_begun i p before) (Ok (Bits 0)) after
HasStarted ms i budget p before (Err (why.Before refusal)) after = ⊥
HasStarted ms i budget p before (Err why.Memory) after = after ≡ before
HasStarted ms i budget p before (Err (why.Errors es ds)) after = ⊥
HasStarted ms i budget p before (Err (why.Initializer f)) after =
    (end : RunWorld) × Ends (initialization_of ms budget i) (globals_begun i p before) (Err f) end
    × ((rest : List Input) → globals_ended i (with_inputs rest end) ≡ with_inputs rest after)

-- the reply to a build that has listed these events
abbrev pub reply_to_build : {U : Type 0} → Result U BuildRefused → List HostEvent → Reply
reply_to_build (Ok u) events = reply_of (Done None) events []
reply_to_build (Err (why.Before refusal)) events = reply_of (Refused refusal) [] []
reply_to_build (Err why.Memory) events = reply_of (Refused BuildMemory) events []
reply_to_build (Err (why.Errors es ds)) events = errors_reply events es ds
reply_to_build (Err (why.Initializer fault)) events =
    reply_of (Refused (InitFailed fault)) events []

-- a build of the module of a name
abbrev pub building : RegistrationList → List ℕ → ℕ → World → List Input → Option Stepped
building R name budget w inputs = on_module (module_named name w) w inputs (build_within budget R w)

-- ---- calls

-- the function and its arguments, or the refusal, unless memory was refused
abbrev pub IsChosen : Result ChosenCall Refusal → Choice → Type 0
IsChosen (Ok c) choice = (f : ScriptFunction) × (choice ≡ Chosen c.number f c.args.items)
IsChosen (Err why) choice = (why ≡ Memory) ⊎ (choice ≡ Not why)

-- values from outside are numbers and truth values: none of them names an object
abbrev pub NameNothing : List Slot → Type 0
NameNothing vs = (x : Thing) → how_many x vs ≡ 0

-- how a call of the function ended
abbrev pub outcome_by : ScriptFunction → Result Slot Fault → Outcome
outcome_by f (Ok v) = Done (result_of f v)
outcome_by f (Err fault) = Failed fault

-- how a call ended that was answered so
abbrev pub outcome_as : Result (Option Value) Fault → Outcome
outcome_as (Ok v) = Done v
outcome_as (Err fault) = Failed fault

-- Function n of module m, of which the names say the same as its tree: the primitive type of its
-- value, if it is of one.
pub record IsTyped (ms : List Module) (names : Names) (m n : ℕ) : Type 0 where
  pub function : ScriptFunction
  pub at : slice_get names.functions n ≡ Some function
  pub result : result_at ms m n ≡ primitive_of function.result.ty

-- The call was run of that function of module m, among these, and ended so, within the budget and
-- from one world to the other.
pub record HasCalled (ms : List Module) (names : Names) (m budget : ℕ) (c : ChosenCall)
    (before : RunWorld) (outcome : Outcome) (after : RunWorld) : Type 0 where
  pub function : ScriptFunction
  pub at : slice_get names.functions c.number ≡ Some function
  pub value : Result Slot Fault
  pub ended : outcome ≡ outcome_by function value
  pub ends : Ends (call_of ms budget m c.number c.args.items) before value after

-- A call that was run and has listed these events; or refused.
abbrev pub IsCalled :
    Result Outcome Refusal → List HostEvent → (List Input → Option Stepped) → World → World → Type 0
IsCalled (Ok outcome) events go before after = Leads go (reply_of outcome events []) after
IsCalled (Err why) events go before after = IsRefused why go before after

-- the reply to a call that has listed these events
abbrev pub reply_to_call : Result Outcome Refusal → List HostEvent → Reply
reply_to_call (Ok outcome) events = reply_of outcome events []
reply_to_call (Err why) events = reply_of (Refused why) [] []

-- a call of a function of the module of a name
abbrev pub calling : List ℕ → List ℕ → List Value → ℕ → World → List Input → Option Stepped
calling name decl args budget w inputs =
    on_module (module_named name w) w inputs (call decl args budget w)

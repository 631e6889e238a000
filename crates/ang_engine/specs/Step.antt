-- What one command does: the reply, and the world after it (docs/CLAIMS.md, "A command").
use Rattle.std.specs.Prelude.{ℕ, ◌≡◌, ◌⊎◌, Bool, true, false, ◌&&◌, nat_le, if◌then◌else◌, List, [], ◌∷◌, ◌++◌, slice_get, slice_set, Option, Some, None, IsSome, Result, Ok, Err, map as list_map}
use Rattle.ang_kinds.specs.declared.error.Denial.{Denial}
use Rattle.ang_kinds.specs.declared.error.Error.{Error}
use Rattle.ang_kinds.specs.declared.fault.Fault.{Fault}
use Rattle.ang_kinds.specs.declared.fault.Fault.TheVariants.{Memory as MemoryFault}
use Rattle.ang_kinds.specs.declared.value.Value.{Value}
use Rattle.ang_host.specs.declared.event.HostEvent.{HostEvent}
use Rattle.ang_host.specs.declared.event.HostEvent.TheVariants.{Called, Ended as ObjectEnded}
use Rattle.ang_view.specs.Groups.{Grouped}
use Rattle.ang_view.specs.Registration.{RegistrationList, seen, entry_at}
use Rattle.ang_names_known.specs.declared.names.ScriptFunction.{ScriptFunction}
use Rattle.ang_names_known.specs.Lookup.{same_call}
use Rattle.ang_meaning.specs.declared.routine.Routine.{Routine}
use Rattle.ang_meaning.specs.declared.slot.Slot.{Slot}
use Rattle.ang_meaning.specs.World.{Input, Room, World as RunWorld}
use Rattle.ang_meaning.specs.Told.{has_room, stopped_by, answers_told, answers_listed}
use Rattle.ang_source.specs.Meaning.{routine}
use Rattle.ang_engine_build.specs.Narrowed.{narrowed}
use Rattle.ang_engine_build.specs.Build.{Resolved, Built, Errors, Compiled, build_of, denials_in}
use Rattle.ang_engine_call.specs.Named.{function_named_by}
use Rattle.ang_engine_call.specs.Calls.{is_callable, arguments_of, result_of}
use Rattle.ang_engine_modules.specs.Executed.{first_globals, call_of, initialization_of}
use Rattle.ang_engine_modules.specs.Ends.{Ended, end_of}
use Rattle.ang_engine_modules.specs.declared.command.Command.{Command}
use Rattle.ang_engine_modules.specs.declared.command.Command.TheVariants.{NewModule, SetMask, AddSection, Build, Bind, Unbind, Call, Discard, RemoveGroup}
use Rattle.ang_engine_modules.specs.declared.reply.Reply.{Reply}
use Rattle.ang_engine_modules.specs.declared.reply.Outcome.{Outcome}
use Rattle.ang_engine_modules.specs.declared.reply.Outcome.TheVariants.{Done, Failed, Refused}
use Rattle.ang_engine_modules.specs.declared.reply.Refusal.{Refusal}
use Rattle.ang_engine_modules.specs.declared.reply.Refusal.TheVariants.{NotBuilt, BadBudget, BuildMemory, BuildErrors, InitFailed, NoFunction, NoImport, SignatureDiffers, NotCallable, BadArguments, Memory}
use Rattle.ang_engine_modules.specs.World.{Program, ModuleState, ModuleStates, World, module_named, module_at, placed, all_unbound_from, built_in, running, left_to, globals_ended}
use Rattle.ang_engine.specs.Groups.{removal, removing, list_of}
use Rattle.ang_engine_modules.specs.Commands.{Stepped, answered, refused, after_run, linked, added_module, set_mask, add_section, unbind, discard, on_module, on_both}

-- a budget is a number of ticks from 1 to 2,147,483,647
abbrev pub is_budget : ℕ → Bool
is_budget n = nat_le 1 n && nat_le n 2147483647

-- the reply to a build of sections with these errors and denials
abbrev pub errors_reply : List HostEvent → List Error → List Denial → Reply
errors_reply events errors denials =
    record { outcome = Refused BuildErrors; events = events; errors = errors; denials = denials }

-- ---- Build

-- A build takes what the module had and the sections that waited, and its mask becomes the mask of
-- the last build.
abbrev pub emptied : ModuleState → ModuleState
emptied m = record m { built_mask = m.mask; sections = []; program = None }

-- what scripts are resolved to, with what they use of what their module sees, and with no import bound
-- yet
abbrev pub program_over : RegistrationList → Resolved → Program
program_over V r = record {
  view = narrowed V r.tree;
  names = r.names;
  tree = r.tree;
  links = list_map (λ h. None) r.tree.imports;
}

abbrev pub with_program : Program → ModuleState → ModuleState
with_program p m = record (emptied m) { program = Some p }

-- the module's globals begin
abbrev pub globals_begun : ℕ → Program → RunWorld → RunWorld
globals_begun i p r = record r { globals = slice_set r.globals i (first_globals p.tree) }

-- what the initializers of module i do, one after the other, within the budget, the module among
-- the others as it is built now
abbrev pub initializers_end : ModuleStates → ℕ → Program → ℕ → RunWorld → Ended
initializers_end ms i p budget r =
    end_of (initialization_of (built_in ms) budget i (globals_begun i p r))

-- They have ended: the module is built; or their fault leaves it emptied, and its globals end.
abbrev pub initialized : Result Slot Fault → RunWorld → World → ℕ → ModuleState → Program → Stepped
initialized (Ok v) r w i m p = after_run (Done None) [] (placed w i (with_program p m)) r
initialized (Err f) r w i m p =
    after_run (Refused (InitFailed f)) [] (placed w i (emptied m)) (globals_ended i r)

-- what the end of its initializers leaves
abbrev pub started : Ended → World → ℕ → ModuleState → Program → Stepped
started e w i m p = initialized e.result e.world w i m p

-- the errors and the denials are listed beside what a run has listed
abbrev pub after_errors : List Error → List Denial → ModuleStates → RunWorld → Stepped
after_errors errors denials modules r = record {
  reply = errors_reply r.events errors denials;
  world = left_to modules r;
  left = r.inputs;
}

-- over a view the sections have errors, which are listed with their denials, and the module is left
-- emptied; or they are a program, whose initializers run
abbrev pub after_build : RegistrationList → List Denial → Built → World → ℕ → ModuleState → ℕ
    → RunWorld → Stepped
after_build V ds (Errors es) w i m budget r = after_errors es ds (placed w i (emptied m)) r
after_build V ds (Compiled q) w i m budget r =
    let p = program_over V q in
    started (initializers_end (placed w i (with_program p m)) i p budget r) w i m p

-- A build first ends the module's globals and unbinds every import that is bound to it, and is over
-- what the module's mask sees now. The first input says whether there is memory to build, the others
-- are those of the initializers. Without memory no initializer runs, and the module is left emptied.
abbrev pub build : RegistrationList → World → ℕ → ModuleState → ℕ → List Input → Option Stepped
build R w i m budget (Room true ∷ inputs) =
    Some (after_build (seen R m.mask) (denials_in R m.mask m.sections)
    (build_of (seen R m.mask) m.sections) (all_unbound_from i w) i m budget
    (globals_ended i (running w inputs)))
build R w i m budget (Room false ∷ inputs) =
    Some (after_run (Refused BuildMemory) [] (placed (all_unbound_from i w) i (emptied m))
    (globals_ended i (running w inputs)))
build R w i m budget _ = None

-- the budget is judged before anything is done
abbrev pub build_within :
    ℕ → RegistrationList → World → ℕ → ModuleState → List Input → Option Stepped
build_within budget R w i m inputs =
    if is_budget budget then build R w i m budget inputs else refused BadBudget w inputs

-- ---- Bind

-- Function n of module j, where the import can be bound to it: result and parameters are the same,
-- each with its type, its `const` and its passing. Object types are the same as one registered entry.
abbrev pub link_to : ScriptFunction → ℕ → ℕ → Option ScriptFunction → Result Routine Refusal
link_to import j n None = Err NoFunction
link_to import j n (Some f) = if same_call import f then Ok (routine j n) else Err SignatureDiffers

abbrev pub link_to_number :
    ScriptFunction → ℕ → Option ℕ → List ScriptFunction → Result Routine Refusal
link_to_number import j None fs = Err NoFunction
link_to_number import j (Some n) fs = link_to import j n (slice_get fs n)

-- The function to which an import is bound by a declaration: one of module j, whose program is q.
abbrev pub link_of : Option ScriptFunction → ℕ → Program → List ℕ → Result Routine Refusal
link_of None j q decl = Err NoImport
link_of (Some import) j q decl =
    link_to_number import j (function_named_by q.view q.names decl) q.names.functions

-- the import is bound, and an earlier binding of it is replaced
abbrev pub bound :
    Result Routine Refusal → World → ℕ → ModuleState → Program → ℕ → List Input → Option Stepped
bound (Err why) w i m p index inputs = refused why w inputs
bound (Ok g) w i m p index inputs = answered (Done None) (linked (Some g) w i m p index) inputs

-- Module i binds an import to a function of module j. That module i is built, and that module j is,
-- are judged in this order, before the import and the function.
abbrev pub bind_programs : Option Program → Option Program → ℕ → List ℕ → World → ℕ → ModuleState
    → ℕ → List Input → Option Stepped
bind_programs None q index decl w i m j inputs = refused NotBuilt w inputs
bind_programs (Some p) None index decl w i m j inputs = refused NotBuilt w inputs
bind_programs (Some p) (Some q) index decl w i m j inputs =
    bound (link_of (slice_get p.names.imports index) j q decl) w i m p index inputs

abbrev pub bind : ℕ → List ℕ → World → ℕ → ModuleState → ℕ → ModuleState → List Input
    → Option Stepped
bind index decl w i m j x inputs = bind_programs m.program x.program index decl w i m j inputs

-- ---- Call

-- the function that a call runs, with its number and its arguments, or why there is none
pub data Choice : Type 0 where
  Chosen : ℕ → ScriptFunction → List Slot → Choice
  Not : Refusal → Choice

-- the values are to be those of the function's parameters
abbrev pub with_arguments : ℕ → ScriptFunction → Option (List Slot) → Choice
with_arguments n f None = Not BadArguments
with_arguments n f (Some slots) = Chosen n f slots

-- there is to be such a function, and the host is to be able to call it
abbrev pub of_function : ℕ → Option ScriptFunction → List Value → Choice
of_function n None args = Not NoFunction
of_function n (Some f) args =
    if is_callable f then with_arguments n f (arguments_of f args) else Not NotCallable

abbrev pub of_number : Option ℕ → List ScriptFunction → List Value → Choice
of_number None fs args = Not NoFunction
of_number (Some n) fs args = of_function n (slice_get fs n) args

-- of the functions that a module's program declares
abbrev pub choice_of : Program → List ℕ → List Value → Choice
choice_of p decl args = of_number (function_named_by p.view p.names decl) p.names.functions args

-- The call has ended: with the function's value, or with a fault. What it changed stands either
-- way.
abbrev pub called : Result Slot Fault → RunWorld → World → ScriptFunction → Stepped
called (Ok v) r w f = after_run (Done (result_of f v)) [] w.modules r
called (Err fault) r w f = after_run (Failed fault) [] w.modules r

-- what the end of a call leaves
abbrev pub call_ended : Ended → World → ScriptFunction → Stepped
call_ended e w f = called e.result e.world w f

-- what function n of module i does within the budget, among all that are built
abbrev pub call_end : World → ℕ → ℕ → ℕ → List Slot → List Input → Ended
call_end w i budget n slots inputs =
    end_of (call_of (built_in w.modules) budget i n slots (running w inputs))

-- a call of the function that was chosen, or the reason why none was
abbrev pub call_chosen : Choice → World → ℕ → ℕ → List Input → Option Stepped
call_chosen (Not why) w i budget inputs = refused why w inputs
call_chosen (Chosen n f slots) w i budget inputs =
    Some (call_ended (call_end w i budget n slots inputs) w f)

-- A call of a function of a module's program. That the module is built, that the budget is one, and
-- the choice of the function are judged in this order.
abbrev pub call_program :
    Option Program → List ℕ → List Value → ℕ → World → ℕ → List Input → Option Stepped
call_program None decl args budget w i inputs = refused NotBuilt w inputs
call_program (Some p) decl args budget w i inputs =
    if is_budget budget
    then call_chosen (choice_of p decl args) w i budget inputs
    else refused BadBudget w inputs

-- a call of a module's function
abbrev pub call : List ℕ → List Value → ℕ → World → ℕ → ModuleState → List Input → Option Stepped
call decl args budget w i m inputs = call_program m.program decl args budget w i inputs

-- ---- a command

-- a command, judged and done, where memory was there to begin
abbrev pub judged : Grouped → World → Command → List Input → Option Stepped
judged R w (NewModule name mask) inputs = added_module name mask.0 w inputs
judged R w (SetMask name mask) inputs =
    on_module (module_named name w) w inputs (set_mask mask.0 w)
judged R w (AddSection name text) inputs =
    on_module (module_named name w) w inputs (add_section text w)
judged R w (Build name budget) inputs =
    on_module (module_named name w) w inputs (build_within budget R.entries w)
judged R w (Bind name index exporter decl) inputs =
    on_both (module_named name w) (module_named exporter w) w inputs (bind index decl w)
judged R w (Unbind name index) inputs =
    on_module (module_named name w) w inputs (unbind index w)
judged R w (Call name decl args budget) inputs =
    on_module (module_named name w) w inputs (call decl args budget w)
judged R w (Discard name) inputs = on_module (module_named name w) w inputs (discard w)
judged R w (RemoveGroup name) inputs = removing (removal name R w.modules) w inputs

-- whether a command may be refused for want of memory before it changes anything
abbrev pub may_want_memory : Command → Bool
may_want_memory (SetMask name mask) = false
may_want_memory (Unbind name index) = false
may_want_memory (RemoveGroup name) = false
may_want_memory _ = true

-- such a command: the first input says whether there is memory to begin
abbrev pub granted : Grouped → World → Command → List Input → Option Stepped
granted R w c (Room true ∷ inputs) = judged R w c inputs
granted R w c (Room false ∷ inputs) = refused Memory w inputs
granted R w c _ = None

-- One command over a registration list with its groups. There is no step with other inputs than those
-- that are asked for.
abbrev pub step : Grouped → World → Command → List Input → Option Stepped
step R w c inputs = if may_want_memory c then granted R w c inputs else judged R w c inputs

-- The list after a command: `RemoveGroup` alone changes it, and that only where it is done. What a
-- list was before, no command gives back.
abbrev pub list_after : Grouped → World → Command → Grouped
list_after R w (RemoveGroup name) = list_of R (removal name R w.modules)
list_after R w _ = R

-- ---- what an outcome tells

-- the fault that a refusal of a command tells
abbrev pub fault_of_refusal : Refusal → Option Fault
fault_of_refusal BuildMemory = Some MemoryFault
fault_of_refusal (InitFailed f) = Some f
fault_of_refusal Memory = Some MemoryFault
fault_of_refusal _ = None

-- the fault that an outcome tells
abbrev pub fault_told : Outcome → Option Fault
fault_told (Done v) = None
fault_told (Failed f) = Some f
fault_told (Refused why) = fault_of_refusal why

-- ---- relations

-- the last of these inputs alone refused, and the outcome tells the fault of that
abbrev pub TellsRefusal : Outcome → List Input → Type 0
TellsRefusal outcome used =
    IsSome (stopped_by used) × (stopped_by used ≡ fault_told outcome)

-- Told these inputs, and whatever further ones it leaves, it gives this reply and leaves this
-- world. There was memory and room each time, or the last input alone refused it, as the reply
-- tells; and drivers answered just what the reply's events list.
pub record Leads (go : List Input → Option Stepped) (reply : Reply) (after : World) : Type 0 where
  pub used : List Input
  pub tells : (rest : List Input)
      → go (used ++ rest) ≡ Some (record { reply = reply; world = after; left = rest })
  pub told : (has_room used ≡ true) ⊎ TellsRefusal reply.outcome used
  pub answers : answers_told used ≡ answers_listed reply.events

-- The command takes the world from `before` to `after` with this reply, told what it asked for and
-- nothing else.
abbrev pub Takes : Grouped → World → Command → Reply → World → Type 0
Takes R before c reply after = Leads (step R before c) reply after

-- a list of commands in turn, with the reply to each, over the list that those before it have left
abbrev pub Runs : Grouped → World → List Command → List Reply → World → Type 0
Runs R w [] [] after = w ≡ after
Runs R w [] (r ∷ rs) after = ⊥
Runs R w (c ∷ cs) [] after = ⊥
Runs R w (c ∷ cs) (r ∷ rs) after =
    (m : World) × Takes R w c r m × Runs (list_after R w c) m cs rs after

-- The entity of a host call is one that its caller saw when it was built.
abbrev pub IsEntitled : RegistrationList → World → HostEvent → Type 0
IsEntitled R w (Called caller entity driver object args reply) =
    (i : ℕ) × (module_named caller w ≡ Some i)
    × IsSome (entry_at (seen R (module_at w i).built_mask) entity.0)
IsEntitled R w (ObjectEnded driver key) = Unit {0}

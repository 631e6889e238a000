-- A command once more, where a run may end with a fault where it meets a misfit, and that this makes no difference (docs/CLAIMS.md, "What a script means"). A
-- misfit is a value of another kind than what it meets wants, or a place that is not there.
use Rattle.std.specs.Prelude.{◌≡◌, ℕ, Bool, false, true, List, [], ◌∷◌, reverse, Option, Some, None, Result, Ok, Err, if◌then◌else◌, slice_get, slice_index_or}
use Rattle.std.specs.List.{list_any}
use Rattle.ang_kinds.specs.declared.error.Denial.{Denial}
use Rattle.ang_kinds.specs.declared.fault.Fault.{Fault}
use Rattle.ang_kinds.specs.declared.primitive.Primitive.{Primitive}
use Rattle.ang_kinds.specs.declared.value.Value.{Value}
use Rattle.ang_view.specs.Groups.{Grouped}
use Rattle.ang_view.specs.Registration.{RegistrationList, seen}
use Rattle.ang_registry.specs.Registrations.{grouped}
use Rattle.ang_types.specs.ArgTypes.{primitive_of}
use Rattle.ang_names_known.specs.declared.names.ScriptFunction.{ScriptFunction}
use Rattle.ang_meaning.specs.declared.slot.Slot.{Slot}
use Rattle.ang_meaning.specs.World.{Input, Room, World as RunWorld}
use Rattle.ang_meaning.specs.Results.{Reply as RunReply}
use Rattle.ang_source.specs.Meaning.{nothing, codes_in, routine}
use Rattle.ang_source_typed.specs.Types.{TypedModule, Modules, IsGood}
use Rattle.ang_source_typed.specs.Runs.{IsTypedSetting}
use Rattle.ang_source_typed.specs.Guarded.{Guard, AsMeant, guard, misfits, is_number}
use Rattle.ang_source_typed.specs.Guarded as guarded
use Rattle.ang_check_laws.specs.Registered.{RegistryCall, after_calls}
use Rattle.ang_check_laws.specs.Registered as registry
use Rattle.ang_check_laws.specs.Given.{constructs, is_class_at}
use Rattle.ang_engine_build.specs.Build.{Built, Errors, Compiled, build_of, denials_in}
use Rattle.ang_engine_modules.specs.Modules.{Module, module_at as built_module, trees_of}
use Rattle.ang_engine_modules.specs.Executed.{setting_for, initializers_of}
use Rattle.ang_engine_modules.specs.Ends.{Ended, end_of}
use Rattle.ang_engine_modules.specs.declared.command.Command.{Command}
use Rattle.ang_engine_modules.specs.declared.command.Command.TheVariants.{NewModule, SetMask, AddSection, Build, Bind, Unbind, Call, Discard, RemoveGroup}
use Rattle.ang_engine_modules.specs.declared.reply.Reply.{Reply}
use Rattle.ang_engine_modules.specs.declared.reply.Outcome.TheVariants.{Refused}
use Rattle.ang_engine_modules.specs.declared.reply.Refusal.TheVariants.{NotBuilt, BadBudget, BuildMemory, Memory}
use Rattle.ang_engine_modules.specs.World.{Program, ModuleState, ModuleStates, World, no_modules, module_named, module_in, placed, all_unbound_from, built_in, running, globals_ended}
use Rattle.ang_engine_modules.specs.Commands.{Stepped, refused, after_run, on_module}
use Rattle.ang_engine.specs.Step.{Choice, Chosen, Not, Leads, Takes, is_budget, emptied, program_over, with_program, globals_begun, started, after_errors, choice_of, may_want_memory}
use Rattle.ang_engine.specs.Step as engine
use Rattle.ang_alike.specs.Alike.{BoundedCommand, InTurn}

-- ---- a command whose runs are guarded: `step` of `ang_engine`, word for word, but for its runs and the value of a call

-- a call ends with a number where its function's result is a primitive or an enumeration, as the host wants one
abbrev pub is_result : Option Primitive → Slot → Bool
is_result None v = true
is_result (Some p) v = is_number v

module _ (y : Guard) where
  -- what a call does, and what the initializers of a build do
  abbrev pub call_of : List Module → ℕ → ℕ → ℕ → List Slot → RunWorld → RunReply
  call_of ms budget m n args w = guarded.called_with (misfits y) (setting_for ms 200) (codes_in (trees_of ms)) budget (routine m n) (reverse args) w

  abbrev pub initialization_of : List Module → ℕ → ℕ → RunWorld → RunReply
  initialization_of ms budget m w = guarded.initialized_all (misfits y) (setting_for ms 201) (codes_in (trees_of ms)) (initializers_of m (built_module ms m).tree) budget w

  abbrev pub initializers_end : ModuleStates → ℕ → Program → ℕ → RunWorld → Ended
  initializers_end ms i p budget r = end_of (initialization_of (built_in ms) budget i (globals_begun i p r))

  abbrev pub after_build : RegistrationList → List Denial → Built → World → ℕ → ModuleState → ℕ → RunWorld → Stepped
  after_build V ds (Errors es) w i m budget r = after_errors es ds (placed w i (emptied m)) r
  after_build V ds (Compiled q) w i m budget r =
      let p = program_over V q in started (initializers_end (placed w i (with_program p m)) i p budget r) w i m p

  abbrev pub build : RegistrationList → World → ℕ → ModuleState → ℕ → List Input → Option Stepped
  build R w i m budget (Room true ∷ inputs) =
      Some (after_build (seen R m.mask) (denials_in R m.mask m.sections) (build_of (seen R m.mask) m.sections) (all_unbound_from i w) i m budget
      (globals_ended i (running w inputs)))
  build R w i m budget (Room false ∷ inputs) =
      Some (after_run (Refused BuildMemory) [] (placed (all_unbound_from i w) i (emptied m)) (globals_ended i (running w inputs)))
  build R w i m budget _ = None

  abbrev pub build_within : ℕ → RegistrationList → World → ℕ → ModuleState → List Input → Option Stepped
  build_within budget R w i m inputs = if is_budget budget then build R w i m budget inputs else refused BadBudget w inputs

  abbrev pub call_end : World → ℕ → ℕ → ℕ → List Slot → List Input → Ended
  call_end w i budget n slots inputs = end_of (call_of (built_in w.modules) budget i n slots (running w inputs))

  -- the call has ended: a value of another kind than its function declares is a misfit too
  abbrev pub called : Result Slot Fault → RunWorld → World → ScriptFunction → Stepped
  called (Ok v) r w f = guard y (is_result (primitive_of f.result.ty) v) (engine.called (Ok v) r w f) (λ fault. engine.called (Err fault) r w f)
  called (Err fault) r w f = engine.called (Err fault) r w f

  abbrev pub call_ended : Ended → World → ScriptFunction → Stepped
  call_ended e w f = called e.result e.world w f

  abbrev pub call_chosen : Choice → World → ℕ → ℕ → List Input → Option Stepped
  call_chosen (Not why) w i budget inputs = refused why w inputs
  call_chosen (Chosen n f slots) w i budget inputs = Some (call_ended (call_end w i budget n slots inputs) w f)

  abbrev pub call_program : Option Program → List ℕ → List Value → ℕ → World → ℕ → List Input → Option Stepped
  call_program None decl args budget w i inputs = refused NotBuilt w inputs
  call_program (Some p) decl args budget w i inputs =
      if is_budget budget then call_chosen (choice_of p decl args) w i budget inputs else refused BadBudget w inputs

  abbrev pub call : List ℕ → List Value → ℕ → World → ℕ → ModuleState → List Input → Option Stepped
  call decl args budget w i m inputs = call_program m.program decl args budget w i inputs

  -- the other commands run nothing
  abbrev pub judged : Grouped → World → Command → List Input → Option Stepped
  judged R w (NewModule name mask) inputs = engine.judged R w (NewModule name mask) inputs
  judged R w (SetMask name mask) inputs = engine.judged R w (SetMask name mask) inputs
  judged R w (AddSection name text) inputs = engine.judged R w (AddSection name text) inputs
  judged R w (Build name budget) inputs = on_module (module_named name w) w inputs (build_within budget R.entries w)
  judged R w (Bind name index exporter decl) inputs = engine.judged R w (Bind name index exporter decl) inputs
  judged R w (Unbind name index) inputs = engine.judged R w (Unbind name index) inputs
  judged R w (Call name decl args budget) inputs = on_module (module_named name w) w inputs (call decl args budget w)
  judged R w (Discard name) inputs = engine.judged R w (Discard name) inputs
  judged R w (RemoveGroup name) inputs = engine.judged R w (RemoveGroup name) inputs

  abbrev pub granted : Grouped → World → Command → List Input → Option Stepped
  granted R w c (Room true ∷ inputs) = judged R w c inputs
  granted R w c (Room false ∷ inputs) = refused Memory w inputs
  granted R w c _ = None

  abbrev pub step : Grouped → World → Command → List Input → Option Stepped
  step R w c inputs = if may_want_memory c then granted R w c inputs else judged R w c inputs

  -- the command takes the world so where its runs are guarded
  abbrev pub GuardedTakes : Grouped → World → Command → Reply → World → Type 0
  GuardedTakes R before c reply after = Leads (step R before c) reply after

-- ---- typed modules and worlds

-- what typing knows of a module that is built to this program, or to none
abbrev pub typed_of : Option Program → TypedModule
typed_of None = record { view = []; program = nothing; is_class = λ c. false; is_constructor = λ k. false }
typed_of (Some p) = record {
  view = p.view;
  program = p.tree;
  is_class = λ c. is_class_at (slice_get p.names.families c);
  is_constructor = λ k. list_any (constructs k) p.names.families;
}

abbrev pub typed_modules : ModuleStates → Modules
typed_modules ms m = typed_of (module_in (slice_index_or ms.places m None)).program

-- Each built module is typed, and so are all that runs leave for one another: objects and globals. So a run that begins here meets no misfit.
pub record IsTypedBetween (w : World) : Type 0 where
  pub setting : (nesting : ℕ) → IsTypedSetting (setting_for (built_in w.modules) nesting) (typed_modules w.modules)
  pub good : (nesting : ℕ) (inputs : List Input) → IsGood (setting_for (built_in w.modules) nesting) (typed_modules w.modules) [] [] (running w inputs)

-- ---- the laws

-- the list, with its groups, that the calls of a registry make of an empty one
abbrev pub list_of : List RegistryCall → Grouped
list_of calls = grouped (after_calls registry.nothing calls)

-- Where a misfit does what the meaning says, a command whose runs are guarded is the command. So what is said of those is said of the engine's.
abbrev pub GuardsChangeNothing : Type 0
GuardsChangeNothing = (R : Grouped) (w : World) (c : Command) (inputs : List Input) → step AsMeant R w c inputs ≡ engine.step R w c inputs

-- Commands in turn over a registry's list have the replies, and lead through the worlds, that they would have if each run ended with a fault at the first misfit
-- that it meets, whatever fault. So no run meets one.
abbrev pub MisfitsDoNotMatter : Type 0
MisfitsDoNotMatter = (y : Guard) (calls : List RegistryCall) (cs : List BoundedCommand) (rs : List Reply) (v : World)
    → InTurn Takes (list_of calls) no_modules cs rs v → InTurn (GuardedTakes y) (list_of calls) no_modules cs rs v

-- After each of them all is typed: live objects are of classes that fit all places that hold them, whatever was built anew, bound, discarded or removed since.
abbrev pub AllStayTyped : Type 0
AllStayTyped = (calls : List RegistryCall) (cs : List BoundedCommand) (rs : List Reply) (v : World) → InTurn Takes (list_of calls) no_modules cs rs v → IsTypedBetween v

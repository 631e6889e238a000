-- What a check of the sections that wait answers, and what it leaves (docs/HOST.md, "Besides commands").
use Rattle.std.specs.Prelude.{ℕ, ◌≡◌, true, false, List, [], ◌∷◌, Option, Some, None, Result, Ok, Err, option_map, map as list_map}
use Rattle.ang_kinds.specs.declared.error.Denial.{Denial}
use Rattle.ang_view.specs.Registration.{RegistrationList, seen}
use Rattle.ang_meaning.specs.World.{Input, Room}
use Rattle.ang_engine_build.specs.Build.{Resolved, Built, Errors, Compiled, build_of, denials_in}
use Rattle.ang_engine_build.specs.declared.program.NoProgram.{NoProgram}
use Rattle.ang_engine_build.specs.declared.program.NoProgram.TheVariants as no
use Rattle.ang_engine_modules.specs.declared.reply.Outcome.TheVariants.{Done}
use Rattle.ang_engine_modules.specs.declared.reply.Refusal.TheVariants.{BuildMemory}
use Rattle.ang_engine_modules.specs.World.{ModuleState, ModuleStates, World, module_named, placed}
use Rattle.ang_engine_modules.specs.Commands.{Stepped, refused, reply_of, on_module}
use Rattle.ang_engine.specs.Step.{errors_reply}

-- none waits any more, and all else of the module is as it was
abbrev pub without_sections : ModuleState → ModuleState
without_sections m = record m { sections = [] }

abbrev pub after_check : List Denial → Built → World → ℕ → ModuleState → List Input → Stepped
after_check ds (Errors es) w i m inputs = record {
  reply = errors_reply [] es ds;
  world = record w { modules = placed w i (without_sections m) };
  left = inputs;
}
after_check ds (Compiled q) w i m inputs =
    record { reply = reply_of (Done None) [] []; world = w; left = inputs }

-- The sections that wait in module i are judged as its build would judge them, over what its mask sees
-- now. Where they have errors they wait no more, as after a build; else all stays as it was. The input
-- says whether there is memory for it.
abbrev pub check : RegistrationList → World → ℕ → ModuleState → List Input → Option Stepped
check R w i m (Room true ∷ inputs) =
    Some (after_check (denials_in R m.mask m.sections) (build_of (seen R m.mask) m.sections) w i m inputs)
check R w i m (Room false ∷ inputs) = refused BuildMemory w inputs
check R w i m _ = None

-- of the module of a name
abbrev pub checking : RegistrationList → List ℕ → World → List Input → Option Stepped
checking R name w inputs = on_module (module_named name w) w inputs (check R w)

-- ---- what it leaves

-- modules but for the sections that wait in them
abbrev pub unwaiting : ModuleStates → ModuleStates
unwaiting ms = record ms { places = list_map (option_map without_sections) ms.places }

-- all of a world but the sections that wait
abbrev pub beside_sections : World → World
beside_sections w = record w { modules = unwaiting w.modules }

-- ---- what is judged

-- whether it is a program, or the errors, unless memory was refused
abbrev pub IsJudged : {U : Type 0} → Result U NoProgram → Built → Type 0
IsJudged (Ok u) built = (q : Resolved) × (built ≡ Compiled q)
IsJudged (Err (no.Errors es ds)) built = built ≡ Errors es
IsJudged (Err no.Memory) built = Unit {0}

-- a module whose sections were judged so
abbrev pub state_after : {U : Type 0} → Result U NoProgram → ModuleState → ModuleState
state_after (Ok u) m = m
state_after (Err (no.Errors es ds)) m = without_sections m
state_after (Err no.Memory) m = m

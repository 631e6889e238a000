-- What the functions behind the commands answer that neither build nor run.
use Rattle.std.specs.Prelude.{◌≡◌, ◌⊎◌, ℕ, List, Option, Some, None, Result, Ok, Err}
use Rattle.ang_meaning.specs.World.{Input}
use Rattle.ang_engine_modules.specs.declared.reply.Outcome.{Outcome}
use Rattle.ang_engine_modules.specs.declared.reply.Outcome.TheVariants.{Done, Refused}
use Rattle.ang_engine_modules.specs.declared.reply.Refusal.{Refusal}
use Rattle.ang_engine_modules.specs.declared.reply.Refusal.TheVariants.{Limit, Memory}
use Rattle.ang_engine_modules.specs.World.{ModuleState, World, module_named}
use Rattle.ang_engine_modules.specs.Commands.{Stepped, answered, refused, set_mask, section_added, add_section, on_module, unbind}

-- Refused as the step says, or for want of memory, with the world as it was.
abbrev pub IsRefused : Refusal → (List Input → Option Stepped) → World → World → Type 0
IsRefused why go before after =
    ((why ≡ Memory) ⊎ ((rest : List Input) → go rest ≡ refused why before rest)) × (after ≡ before)

-- ---- commands that ask nothing

-- done as the step says, or refused
abbrev pub IsDone :
    {U : Type 0} → Result U Refusal → (List Input → Option Stepped) → World → World → Type 0
IsDone (Ok u) go before after = (rest : List Input) → go rest ≡ answered (Done None) after rest
IsDone (Err why) go before after = IsRefused why go before after

-- how the command ended
abbrev pub outcome_of : {U : Type 0} → Result U Refusal → Outcome
outcome_of (Ok u) = Done None
outcome_of (Err why) = Refused why

-- The same of a command that wants no memory: it is done or refused as the step says.
abbrev pub IsDoneWithoutMemory :
    {U : Type 0} → Result U Refusal → (List Input → Option Stepped) → World → World → Type 0
IsDoneWithoutMemory (Ok u) go before after =
    (rest : List Input) → go rest ≡ answered (Done None) after rest
IsDoneWithoutMemory (Err why) go before after =
    ((rest : List Input) → go rest ≡ refused why before rest) × (after ≡ before)

-- a module that is given another mask, and one that takes one more section, by name
abbrev pub masking : List ℕ → ℕ → World → List Input → Option Stepped
masking name mask w inputs = on_module (module_named name w) w inputs (set_mask mask w)

abbrev pub adding : List ℕ → List ℕ → World → List Input → Option Stepped
adding name text w inputs = on_module (module_named name w) w inputs (add_section text w)

-- One module that takes one more section.
abbrev pub IsAdded : {U : Type 0} → Result U Refusal → List ℕ → ModuleState → ModuleState → Type 0
IsAdded (Ok u) text before after = section_added text before ≡ Some after
IsAdded (Err why) text before after =
    ((why ≡ Memory) ⊎ ((why ≡ Limit) × (section_added text before ≡ None))) × (after ≡ before)

-- ---- bindings

-- an import of the module of a name that is unbound
abbrev pub unbinding : List ℕ → ℕ → World → List Input → Option Stepped
unbinding name index w inputs = on_module (module_named name w) w inputs (unbind index w)

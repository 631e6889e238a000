-- What the commands do that neither build nor run: the reply, and the world after it (docs/CLAIMS.md,
-- "A command").
use Rattle.std.specs.Prelude.{ℕ, ◌==◌, not, nat_le, if◌then◌else◌, List, [], ◌∷◌, ◌++◌, length, filter, position, slice_get, slice_set, Option, Some, None, is_none}
use Rattle.ang_kinds.specs.declared.error.Error.{Error}
use Rattle.ang_host.specs.declared.event.HostEvent.{HostEvent}
use Rattle.ang_lex.specs.Spelling.{is_identifier}
use Rattle.ang_names_known.specs.declared.names.ScriptFunction.{ScriptFunction}
use Rattle.ang_meaning.specs.declared.routine.Routine.{Routine}
use Rattle.ang_meaning.specs.World.{Input, World as RunWorld}
use Rattle.ang_engine_modules.specs.declared.command.Command.{Command}
use Rattle.ang_engine_modules.specs.declared.command.Command.TheVariants.{Build, Call}
use Rattle.ang_engine_modules.specs.declared.reply.Reply.{Reply}
use Rattle.ang_engine_modules.specs.declared.reply.Outcome.{Outcome}
use Rattle.ang_engine_modules.specs.declared.reply.Outcome.TheVariants.{Done, Refused}
use Rattle.ang_engine_modules.specs.declared.reply.Refusal.{Refusal}
use Rattle.ang_engine_modules.specs.declared.reply.Refusal.TheVariants.{BadName, ModuleExists, Limit, NoModule, NotBuilt, NoImport}
use Rattle.ang_engine_modules.specs.World.{Program, ModuleState, ModuleStates, World, module_named, module_at, placed, all_unbound_from, running, left_to, globals_ended}

-- the modules of one engine
abbrev pub most_modules : ℕ
most_modules = 64

-- the sections that wait in one module
abbrev pub most_sections : ℕ
most_sections = 64

-- the ticks that a command may take; one that runs nothing has none
abbrev pub budget_of : Command → ℕ
budget_of (Build name budget) = budget
budget_of (Call name decl args budget) = budget
budget_of _ = 0

-- the reply, the world after it, and the inputs that were not asked for
pub record Stepped : Type 0 where
  pub reply : Reply
  pub world : World
  pub left : List Input

-- a reply without denials
abbrev pub reply_of : Outcome → List HostEvent → List Error → Reply
reply_of outcome events errors =
    record { outcome = outcome; events = events; errors = errors; denials = [] }

-- answered at once: nobody was asked
abbrev pub answered : Outcome → World → List Input → Option Stepped
answered outcome world left =
    Some (record { reply = reply_of outcome [] []; world = world; left = left })

-- after a refusal the world is as it was
abbrev pub refused : Refusal → World → List Input → Option Stepped
refused why = answered (Refused why)

-- the reply lists what a run has listed, and what it left stands, beside these modules
abbrev pub after_run : Outcome → List Error → ModuleStates → RunWorld → Stepped
after_run outcome errors modules r =
    record { reply = reply_of outcome r.events errors; world = left_to modules r; left = r.inputs }

-- ---- NewModule

-- a module without sections, unbuilt, whose built mask is the mask that it was made with
abbrev pub fresh_module : List ℕ → ℕ → ModuleState
fresh_module name mask =
    record { name = name; mask = mask; built_mask = mask; sections = []; program = None }

-- one more place, which is empty and has no globals
abbrev pub with_place : World → World
with_place w = record w {
  modules = record w.modules { places = w.modules.places ++ None ∷ [] };
  globals = w.globals ++ [] ∷ [];
}

-- the module takes the empty place of that number, and is the one made last
abbrev pub with_module : ℕ → ModuleState → World → World
with_module i m w =
    record w { modules = record (placed w i m) { order = w.modules.order ++ i ∷ [] } }

-- it takes the first empty place; and where there is none one more, unless there are too many
abbrev pub in_place : Option ℕ → ModuleState → World → List Input → Option Stepped
in_place (Some i) m w inputs = answered (Done None) (with_module i m w) inputs
in_place None m w inputs =
    if nat_le most_modules (length w.modules.places) then refused Limit w inputs
    else answered (Done None) (with_module (length w.modules.places) m (with_place w)) inputs

abbrev pub empty_place : World → Option ℕ
empty_place w = position is_none w.modules.places

-- the name is an identifier: it is to be free, and there is to be room for a module
abbrev pub where_free : Option ℕ → List ℕ → ℕ → World → List Input → Option Stepped
where_free (Some i) name mask w inputs = refused ModuleExists w inputs
where_free None name mask w inputs = in_place (empty_place w) (fresh_module name mask) w inputs

-- a new module, or the first reason why there is none: its name, another of that name, too many
abbrev pub added_module : List ℕ → ℕ → World → List Input → Option Stepped
added_module name mask w inputs =
    if is_identifier name then where_free (module_named name w) name mask w inputs
    else refused BadName w inputs

-- ---- SetMask

-- the mask acts from the module's next build on
abbrev pub set_mask : ℕ → World → ℕ → ModuleState → List Input → Option Stepped
set_mask mask w i m inputs =
    answered (Done None) (record w { modules = placed w i (record m { mask = mask }) }) inputs

-- ---- AddSection

-- the module with one more section that waits, where there is room for it
abbrev pub section_added : List ℕ → ModuleState → Option ModuleState
section_added text m =
    if nat_le most_sections (length m.sections)
    then None
    else Some (record m { sections = m.sections ++ text ∷ [] })

-- one section too many is refused
abbrev pub or_limit : Option ModuleState → World → ℕ → List Input → Option Stepped
or_limit None w i inputs = refused Limit w inputs
or_limit (Some m) w i inputs = answered (Done None) (record w { modules = placed w i m }) inputs

abbrev pub add_section : List ℕ → World → ℕ → ModuleState → List Input → Option Stepped
add_section text w i m inputs = or_limit (section_added text m) w i inputs

-- ---- Unbind

-- An import of that number is bound to a function, or to none.
abbrev pub with_link : ℕ → Option Routine → Program → Program
with_link index g p = record p { links = slice_set p.links index g }

abbrev pub linked : Option Routine → World → ℕ → ModuleState → Program → ℕ → World
linked g w i m p index =
    record w { modules = placed w i (record m { program = Some (with_link index g p) }) }

-- an import that is there is bound to none
abbrev pub unbind_import :
    Option ScriptFunction → World → ℕ → ModuleState → Program → ℕ → List Input → Option Stepped
unbind_import None w i m p index inputs = refused NoImport w inputs
unbind_import (Some import) w i m p index inputs =
    answered (Done None) (linked None w i m p index) inputs

abbrev pub unbind_program : Option Program → ℕ → World → ℕ → ModuleState → List Input
    → Option Stepped
unbind_program None index w i m inputs = refused NotBuilt w inputs
unbind_program (Some p) index w i m inputs =
    unbind_import (slice_get p.names.imports index) w i m p index inputs

abbrev pub unbind : ℕ → World → ℕ → ModuleState → List Input → Option Stepped
unbind index w i m inputs = unbind_program m.program index w i m inputs

-- ---- Discard

-- without the module of that number: its place is empty
abbrev pub without : ℕ → ModuleStates → ModuleStates
without i ms = record {
  places = slice_set ms.places i None;
  order = filter (λ j. not (j == i)) ms.order;
}

-- The module's globals end, every import that is bound to it is unbound, and it is gone.
abbrev pub discard : World → ℕ → ModuleState → List Input → Option Stepped
discard w i m inputs =
    Some (after_run (Done None) [] (without i (all_unbound_from i w).modules)
    (globals_ended i (running w inputs)))

-- ---- a command

-- what is done with the module of a name, where there is one
abbrev pub on_module :
    Option ℕ → World → List Input → (ℕ → ModuleState → List Input → Option Stepped) → Option Stepped
on_module None w inputs go = refused NoModule w inputs
on_module (Some i) w inputs go = go i (module_at w i) inputs

-- what is done with the modules of two names, where there are both
abbrev pub on_both : Option ℕ → Option ℕ → World → List Input
    → (ℕ → ModuleState → ℕ → ModuleState → List Input → Option Stepped) → Option Stepped
on_both None o w inputs go = refused NoModule w inputs
on_both (Some i) None w inputs go = refused NoModule w inputs
on_both (Some i) (Some j) w inputs go = go i (module_at w i) j (module_at w j) inputs

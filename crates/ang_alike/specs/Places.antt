-- That the places of modules do not show in what a host is told: a new module may take any empty
-- place, or one more though one is empty (docs/CLAIMS.md, "A command").
use Rattle.std.specs.Prelude.{◌≡◌, ℕ, suc, nat_le, true, false, List, [], ◌∷◌, length, Option, Some, None, if◌then◌else◌, option_map, slice_get}
use Rattle.ang_host.specs.declared.event.HostEvent.{HostEvent}
use Rattle.ang_lex.specs.Spelling.{is_identifier}
use Rattle.ang_view.specs.Groups.{Grouped}
use Rattle.ang_meaning.specs.World.{Input, Room}
use Rattle.ang_engine_modules.specs.declared.command.Command.{Command}
use Rattle.ang_engine_modules.specs.declared.command.Command.TheVariants.{NewModule}
use Rattle.ang_engine_modules.specs.declared.reply.Reply.{Reply}
use Rattle.ang_engine_modules.specs.declared.reply.Outcome.TheVariants.{Done}
use Rattle.ang_engine_modules.specs.declared.reply.Refusal.TheVariants.{BadName, ModuleExists, Limit, Memory}
use Rattle.ang_engine_modules.specs.World.{ModuleState, World, no_modules, bounded_by, module_named, engine_ended}
use Rattle.ang_engine_modules.specs.Commands.{Stepped, answered, refused, fresh_module, with_place, with_module, most_modules}
use Rattle.ang_engine.specs.Step.{Takes, may_want_memory, list_after}
use Rattle.ang_engine.specs.Step as engine
use Rattle.ang_alike.specs.Alike.{BoundedCommand, InTurn}

-- ---- the place that a new module takes

-- one that is there, by its number, or one more
abbrev pub PlaceChoice : Type 0
PlaceChoice = World → Option ℕ

-- one that is there is empty
abbrev pub IsFreePlace : World → Option ℕ → Type 0
IsFreePlace w (Some i) = slice_get w.modules.places i ≡ Some None
IsFreePlace w None = Unit {0}

abbrev pub GivesFree : PlaceChoice → Type 0
GivesFree choose = (w : World) → IsFreePlace w (choose w)

abbrev pub placed_in : Option ℕ → ModuleState → World → World
placed_in (Some i) m w = with_module i m w
placed_in None m w = with_module (length w.modules.places) m (with_place w)

-- ---- a command once more: `step` of `ang_engine`, but for the place that a new module takes

module _ (choose : PlaceChoice) where
  -- there are to be fewer modules than an engine may have
  abbrev pub put_new : ModuleState → World → List Input → Option Stepped
  put_new m w inputs =
      if nat_le most_modules (length w.modules.order) then refused Limit w inputs
      else answered (Done None) (placed_in (choose w) m w) inputs

  abbrev pub where_free : Option ℕ → List ℕ → ℕ → World → List Input → Option Stepped
  where_free (Some i) name mask w inputs = refused ModuleExists w inputs
  where_free None name mask w inputs = put_new (fresh_module name mask) w inputs

  abbrev pub added_module : List ℕ → ℕ → World → List Input → Option Stepped
  added_module name mask w inputs =
      if is_identifier name then where_free (module_named name w) name mask w inputs
      else refused BadName w inputs

  abbrev pub judged : Grouped → World → Command → List Input → Option Stepped
  judged R w (NewModule name mask) inputs = added_module name mask.0 w inputs
  judged R w c inputs = engine.judged R w c inputs

  abbrev pub granted : Grouped → World → Command → List Input → Option Stepped
  granted R w c (Room true ∷ inputs) = judged R w c inputs
  granted R w c (Room false ∷ inputs) = refused Memory w inputs
  granted R w c _ = None

  abbrev pub step : Grouped → World → Command → List Input → Option Stepped
  step R w c inputs = if may_want_memory c then granted R w c inputs else judged R w c inputs

-- ---- commands in turn

-- What a host is told: the replies to commands, and what ends as the engine ends after them.
pub record Heard : Type 0 where
  pub replies : List Reply
  pub ended : List HostEvent

-- a reply, and then what is told after it
abbrev pub then_heard : Option Stepped → (World → List Input → Option Heard) → Option Heard
then_heard None go = None
then_heard (Some s) go =
    option_map (λ (h : Heard). record h { replies = s.reply ∷ h.replies }) (go s.world s.left)

-- What commands in turn come to with these inputs, where the n-th one does this: so what one does may
-- hang on all that was done before it. Each leaves to those after it what it has not asked for. It is
-- none where one asks for another input than it is told.
abbrev pub heard_of : (ℕ → Grouped → World → Command → List Input → Option Stepped) → ℕ → Grouped
    → List BoundedCommand → World → List Input → Option Heard
heard_of does n R [] w inputs = Some (record { replies = []; ended = (engine_ended w).events })
heard_of does n R (c ∷ cs) w inputs =
    then_heard (does n R (bounded_by c.bounds w) c.command inputs)
    (heard_of does (suc n) (list_after R (bounded_by c.bounds w) c.command) cs)

-- what the engine's commands come to
abbrev pub heard_of_engine : Grouped → List BoundedCommand → List Input → Option Heard
heard_of_engine R cs inputs = heard_of (λ n. engine.step) 0 R cs no_modules inputs

-- ---- the laws

-- Wherever new modules are put, whatever engine chooses their places, by what rule and memory of what
-- it did: a host is told the same after the same commands as by this engine, which puts them into the
-- first empty place, where both are told the same: whether there is memory or room in a tally, what
-- drivers answer, and the numbers of new objects.
abbrev pub PlacesDoNotShow : Type 0
PlacesDoNotShow = (choose : ℕ → PlaceChoice) → ((n : ℕ) → GivesFree (choose n))
    → (R : Grouped) (cs : List BoundedCommand) (inputs : List Input)
    → heard_of (λ n. step (choose n)) 0 R cs no_modules inputs ≡ heard_of_engine R cs inputs

-- What an engine takes commands in turn with, by some inputs, is what a host is told so.
abbrev pub IsHeardSo : Type 0
IsHeardSo = (R : Grouped) (cs : List BoundedCommand) (rs : List Reply) (v : World)
    → InTurn Takes R no_modules cs rs v
    → (inputs : List Input) × (heard_of_engine R cs inputs
    ≡ Some (record { replies = rs; ended = (engine_ended v).events }))

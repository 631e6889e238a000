-- That the numbers of script objects do not show in what the bodies of sound trees do.
use Rattle.std.specs.Prelude.{◌≡◌, ℕ, List, [], length, Some}
use Rattle.ang_view.specs.Registration.{RegistrationList}
use Rattle.ang_typed.specs.Typed as t
use Rattle.ang_meaning.specs.declared.slot.Slot.{Slot}
use Rattle.ang_meaning.specs.declared.routine.Routine.{Routine}
use Rattle.ang_meaning.specs.declared.routine.Passing.{Passing}
use Rattle.ang_meaning.specs.World.{World}
use Rattle.ang_meaning.specs.Environment.{Environment}
use Rattle.ang_meaning.specs.Results.{Reply, Yields, Raises}
use Rattle.ang_meaning.specs.Counting.{IsCounted}
use Rattle.ang_meaning.specs.Alike.{Renaming, renamed, renamed_all, Alike}
use Rattle.ang_core.specs.Sound.{LinksFit}
use Rattle.ang_source.specs.Meaning.{Codes, called_with, initialized_all}
use Rattle.ang_source.specs.Sound.{SoundProgram}
use Rattle.ang_source.specs.Hosts.{HasView}
use Rattle.ang_lower.specs.Same.{HasProgram, AreCodes, TakeNothing}

-- the same reply in another world, in which script objects have other numbers
abbrev pub turned_reply : Renaming → World → Reply → Reply
turned_reply r w (Yields x outs t v) = Yields (renamed r x) (renamed_all r outs) t w
turned_reply r w (Raises f v) = Raises f w

abbrev pub reply_world : Reply → World
reply_world (Yields x outs t v) = v
reply_world (Raises f v) = v

-- The second reply is the first one renamed, and so is the world that it leaves.
pub record RepliesAlike (o p : Reply) : Type 0 where
  pub by : Renaming
  pub world : World
  pub same : p ≡ turned_reply by world o
  pub alike : Alike by (reply_world o) world

-- Two calls, and initializers run twice, in worlds that are equal up to the numbers of script objects,
-- and told the same but for these, come to the same but for these.
pub record AreAlikeInRuns (z : Environment) (codes : Codes) : Type 0 where
  pub calls : (budget : ℕ) (g : Routine) (ps : List Passing) (vs : List Slot) (r : Renaming) (v w : World)
      → z.params g ≡ Some ps → length ps ≡ length vs → IsCounted vs v → Alike r v w
      → RepliesAlike (called_with z codes budget g vs v)
      (called_with z codes budget g (renamed_all r vs) w)
  pub initializers : (gs : List Routine) (budget : ℕ) (r : Renaming) (v w : World)
      → TakeNothing z gs → IsCounted [] v → Alike r v w
      → RepliesAlike (initialized_all z codes gs budget v)
      (initialized_all z codes gs budget w)

-- Each module of the setting has this sound tree over what it sees, and imports and methods lead where
-- they may.
pub record AreSoundSources (z : Environment) (view : ℕ → RegistrationList) (program : ℕ → t.Program)
    (codes : Codes) : Type 0 where
  pub sound : (m : ℕ) → SoundProgram (view m) (program m)
  pub sees : (m : ℕ) → HasView z m (view m)
  pub has : (m : ℕ) → HasProgram z m (program m)
  pub coded : (m : ℕ) → AreCodes m (program m) codes
  pub links : LinksFit z

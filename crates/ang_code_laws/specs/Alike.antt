-- That the numbers of script objects do not show: two runs of the same code that are told the same but for these numbers come to the same.
use Rattle.std.specs.Prelude.{◌≡◌, ℕ, true, List, []}
use Rattle.ang_meaning.specs.declared.slot.Slot.{Slot}
use Rattle.ang_meaning.specs.declared.routine.Routine.{Routine}
use Rattle.ang_meaning.specs.World.{World, Input, with_inputs}
use Rattle.ang_meaning.specs.Told.{has_room, answers_told}
use Rattle.ang_meaning.specs.Counting.{IsCounted}
use Rattle.ang_meaning.specs.Alike.{Renaming, renamed, renamed_all, Alike, SameButNumbers}
use Rattle.ang_meaning.specs.Environment.{Environment}
use Rattle.ang_code.specs.Machine.{Texts, Config, At, Over, Finished, Faulted, Stuck, steps, call_begins, initializer_begins}
use Rattle.ang_code.specs.Runs.{Completion, Gives, Stops, Runs}
use Rattle.ang_code_laws.specs.Counting.{CountedAt}

-- the same place of the same run in another world, in which script objects have other numbers
abbrev pub turned : Renaming → World → Config → Config
turned r w (At f pc room s fr t v) = At f pc room (renamed_all r s) fr t w
turned r w (Over (Finished x t v)) = Over (Finished (renamed r x) t w)
turned r w (Over (Faulted x v)) = Over (Faulted x w)
turned r w (Over Stuck) = Over Stuck

abbrev pub WorldAlike : Renaming → Config → World → Type 0
WorldAlike r (At f pc room s fr t v) w = Alike r v w
WorldAlike r (Over (Finished x t v)) w = Alike r v w
WorldAlike r (Over (Faulted x v)) w = Alike r v w
WorldAlike r (Over Stuck) w = Unit {0}

-- the second configuration is the first one renamed
pub record ConfigsAlike (c d : Config) : Type 0 where
  pub by : Renaming
  pub world : World
  pub same : d ≡ turned by world c
  pub alike : WorldAlike by c world

-- Told the same but for numbers, two runs go the same way: step by step, what is asked next is of the same sort.
abbrev pub StepsAlike : Type 0
StepsAlike = (z : Environment) (code : Texts) (n : ℕ) (c d : Config) → CountedAt c → ConfigsAlike c d → ConfigsAlike (steps z code n c) (steps z code n d)

-- worlds that are alike, whatever inputs they have left
abbrev pub AreAlike : Renaming → World → World → Type 0
AreAlike r v w = Alike r (with_inputs [] v) (with_inputs [] w)

abbrev pub renamed_end : Renaming → Completion → Completion
renamed_end r (Gives x t) = Gives (renamed r x) t
renamed_end r (Stops x) = Stops x

-- two runs end alike: the same fault, or values and ticks; the same events; and worlds that are the same up to the numbers of script objects
pub record EndsAlike (end : Completion) (v : World) (other : Completion) (w : World) : Type 0 where
  pub by : Renaming
  pub ending : other ≡ renamed_end by end
  pub worlds : AreAlike by v w

-- Where the used inputs are the same but for numbers, two whole runs of a command's call end alike.
abbrev pub CallRunsAlike : Type 0
CallRunsAlike = (z : Environment) (code : Texts) (budget : ℕ) (g : Routine) (vs : List Slot) (r : Renaming) (v w v' w' : World) (end other : Completion) → IsCounted vs v → AreAlike r v w
    → (run : Runs z code (λ is. call_begins z code budget g vs (with_inputs is v)) end v')
    → (again : Runs z code (λ is. call_begins z code budget g (renamed_all r vs) (with_inputs is w)) other w')
    → SameButNumbers run.told.used again.told.used → EndsAlike end v' other w'

abbrev pub InitializerRunsAlike : Type 0
InitializerRunsAlike = (z : Environment) (code : Texts) (t : ℕ) (g : Routine) (r : Renaming) (v w v' w' : World) (end other : Completion) → IsCounted [] v → AreAlike r v w
    → (run : Runs z code (λ is. initializer_begins z code t g (with_inputs is v)) end v')
    → (again : Runs z code (λ is. initializer_begins z code t g (with_inputs is w)) other w')
    → SameButNumbers run.told.used again.told.used → EndsAlike end v' other w'

-- Two runs that were granted all that they asked for, and whose drivers answered the same, were told the same but for numbers, and so end alike.
pub record GrantedAlike (used other : List Input) : Type 0 where
  pub room : has_room used ≡ true
  pub again : has_room other ≡ true
  pub answers : answers_told used ≡ answers_told other

abbrev pub GrantedCallsAlike : Type 0
GrantedCallsAlike = (z : Environment) (code : Texts) (budget : ℕ) (g : Routine) (vs : List Slot) (r : Renaming) (v w v' w' : World) (end other : Completion) → IsCounted vs v → AreAlike r v w
    → (run : Runs z code (λ is. call_begins z code budget g vs (with_inputs is v)) end v')
    → (again : Runs z code (λ is. call_begins z code budget g (renamed_all r vs) (with_inputs is w)) other w')
    → GrantedAlike run.told.used again.told.used → SameButNumbers run.told.used again.told.used × EndsAlike end v' other w'

abbrev pub GrantedInitializersAlike : Type 0
GrantedInitializersAlike = (z : Environment) (code : Texts) (t : ℕ) (g : Routine) (r : Renaming) (v w v' w' : World) (end other : Completion) → IsCounted [] v → AreAlike r v w
    → (run : Runs z code (λ is. initializer_begins z code t g (with_inputs is v)) end v')
    → (again : Runs z code (λ is. initializer_begins z code t g (with_inputs is w)) other w')
    → GrantedAlike run.told.used again.told.used → SameButNumbers run.told.used again.told.used × EndsAlike end v' other w'

-- The command `RemoveGroup` (docs/CLAIMS.md, "A command"): in a world that holds its registration list, what it leaves; and what
-- the other commands do there.
use Rattle.std.specs.Prelude.{ℕ, ◌≡◌, Bool, false, not, ◌&&◌, ◌||◌, if◌then◌else◌, List, [], ◌∷◌, length, Option, Some, None, Result, Ok, Err}
use Rattle.std.specs.List.{list_any}
use Rattle.ang_view.specs.declared.entry.Entry.{Entry}
use Rattle.ang_view.specs.declared.group.Group.{Group}
use Rattle.ang_view.specs.Groups.{Grouped, group_named, is_in, is_named_outside, without_group}
use Rattle.ang_view.specs.Hidden.{names_entry, numbers_of}
use Rattle.ang_view.specs.Only.{IsWithin}
use Rattle.ang_view.specs.Registration.{RegistrationList, entry_at, seen}
use Rattle.ang_engine_modules.specs.Keeping.{keeps}
use Rattle.ang_meaning.specs.World.{Input}
use Rattle.ang_engine_modules.specs.declared.reply.Outcome.TheVariants.{Done}
use Rattle.ang_engine_modules.specs.declared.reply.Refusal.{Refusal}
use Rattle.ang_engine_modules.specs.declared.reply.Refusal.TheVariants as refusal
use Rattle.ang_engine_modules.specs.World.{Program, ModuleState, ModuleStates, World}
use Rattle.ang_engine_modules.specs.Commands.{Stepped, answered, refused}

-- ---- what a built module uses: what it keeps of its view,

-- or the declaration of such an entry names it
abbrev pub uses_entry : RegistrationList → RegistrationList → ℕ → Bool
uses_entry R V n = keeps V n || list_any (λ k. names_entry (entry_at V k) n (entry_at R n)) (numbers_of V)

-- of a list of entries, a module that has this view uses one of the group
abbrev pub uses_group : RegistrationList → Group → RegistrationList → Bool
uses_group R g V = list_any (λ n. is_in g n && uses_entry R V n) (numbers_of R)

abbrev pub program_uses : RegistrationList → Group → Option Program → Bool
program_uses R g None = false
program_uses R g (Some p) = uses_group R g p.view

abbrev pub place_uses : RegistrationList → Group → Option ModuleState → Bool
place_uses R g None = false
place_uses R g (Some m) = program_uses R g m.program

-- some built module uses an entry of the group
abbrev pub is_used : RegistrationList → Group → ModuleStates → Bool
is_used R g ms = list_any (place_uses R g) ms.places

-- ---- the command

pub data Removal : Type 0 where
  Removed : Grouped → Removal
  NoGroup : Removal
  InUse : Removal

abbrev pub removal_of : Option Group → Grouped → ModuleStates → Removal
removal_of None r ms = NoGroup
removal_of (Some g) r ms =
    if is_named_outside r.entries g || is_used r.entries g ms then InUse else Removed (without_group g r)

-- the group of this name is removed, or why it is not
abbrev pub removal : List ℕ → Grouped → ModuleStates → Removal
removal name r ms = removal_of (group_named name r) r ms

-- the list that it leaves
abbrev pub list_of : Grouped → Removal → Grouped
list_of r (Removed s) = s
list_of r NoGroup = r
list_of r InUse = r

-- what it answers; modules and all that scripts have stay as they are
abbrev pub removing : Removal → World → List Input → Option Stepped
removing (Removed s) w inputs = answered (Done None) w inputs
removing NoGroup w inputs = refused refusal.NoGroup w inputs
removing InUse w inputs = refused refusal.InUse w inputs

-- ---- what stands

-- All that a module of this mask keeps stands in the list, and the mask sees it.
abbrev pub ProgramStands : RegistrationList → ℕ → Option Program → Type 0
ProgramStands R mask None = Unit {0}
ProgramStands R mask (Some p) = IsWithin p.view (seen R mask)

abbrev pub PlaceStands : RegistrationList → Option ModuleState → Type 0
PlaceStands R None = Unit {0}
PlaceStands R (Some m) = ProgramStands R m.built_mask m.program

-- so it is of each built module
abbrev pub AllStand : RegistrationList → List (Option ModuleState) → Type 0
AllStand R [] = Unit {0}
AllStand R (o ∷ os) = PlaceStands R o × AllStand R os

abbrev pub StepStands : RegistrationList → Option Stepped → Type 0
StepStands R None = Unit {0}
StepStands R (Some s) = AllStand R s.world.modules.places

-- A removal was answered so. It never wants memory.
abbrev pub IsRemoved : {U : Type 0} → Result U Refusal → Removal → Type 0
IsRemoved (Ok u) (Removed s) = Unit {0}
IsRemoved (Ok u) NoGroup = ⊥
IsRemoved (Ok u) InUse = ⊥
IsRemoved (Err why) (Removed s) = ⊥
IsRemoved (Err why) NoGroup = why ≡ refusal.NoGroup
IsRemoved (Err why) InUse = why ≡ refusal.InUse

-- A command leaves of the registration list no more than there was.
use Rattle.std.proofs.Common.{◌≡◌, ℕ, Bool, true, false, ◌||◌, List, Option, Some, None}
use Rattle.std.specs.Prelude.{if◌then◌else◌}
use Rattle.ang_view.specs.declared.entry.Entry.{Entry}
use Rattle.ang_view.specs.declared.group.Group.{Group}
use Rattle.ang_view.specs.Groups.{Grouped, group_named, is_named_outside, left_outside, without_group}
use Rattle.ang_view.specs.Only.{IsWithin}
use Rattle.ang_view.specs.Registration.{RegistrationList, entry_at}
use Rattle.ang_view.proofs.Keeping.{only_within}
use Rattle.ang_engine_modules.specs.declared.command.Command.{Command}
use Rattle.ang_engine_modules.specs.declared.command.Command.TheVariants.{NewModule, SetMask, AddSection, Build, Bind, Unbind, Call, Discard, RemoveGroup}
use Rattle.ang_engine_modules.specs.World.{ModuleStates, World}
use Rattle.ang_engine.specs.Groups.{Removed, InUse, is_used, list_of, removal_of}
use Rattle.ang_engine.specs.Step.{list_after}

pub all_within : (R : RegistrationList) → IsWithin R R
all_within R n x e = e

pub within_join : (R S T : RegistrationList) → IsWithin S R → IsWithin T S → IsWithin T R
within_join R S T first second n x e = first n x (second n x e)

left_within : (R : Grouped) (o : Option Group) (ms : ModuleStates) → IsWithin (list_of R (removal_of o R ms)).entries R.entries
left_within R None ms = all_within R.entries
left_within R (Some g) ms = by (is_named_outside R.entries g || is_used R.entries g ms)
  where
    by : (b : Bool) → IsWithin (list_of R (if b then InUse else Removed (without_group g R))).entries R.entries
    by true = all_within R.entries
    by false = only_within (left_outside g) R.entries

pub after_within : (R : Grouped) (w : World) (c : Command) → IsWithin (list_after R w c).entries R.entries
after_within R w (NewModule name mask) = all_within R.entries
after_within R w (SetMask name mask) = all_within R.entries
after_within R w (AddSection name text) = all_within R.entries
after_within R w (Build name budget) = all_within R.entries
after_within R w (Bind name index exporter decl) = all_within R.entries
after_within R w (Unbind name index) = all_within R.entries
after_within R w (Call name decl args budget) = all_within R.entries
after_within R w (Discard name) = all_within R.entries
after_within R w (RemoveGroup name) = left_within R (group_named name R) w.modules

-- What a host can read off its lists, its commands and their replies, with nothing else in view
-- (docs/CLAIMS.md, "What hidden registrations change").
use Rattle.std.specs.Prelude.{◌≡◌, ℕ, Bool, true, false, List, [], ◌∷◌, ◌++◌, All, Option, Some, None, if◌then◌else◌, map as list_map}
use Rattle.ang_view.specs.declared.group.Group.{Group}
use Rattle.ang_view.specs.Groups.{Grouped, group_named, without_group}
use Rattle.ang_view.specs.Registration.{RegistrationList, seen}
use Rattle.ang_engine_modules.specs.declared.command.Command.{Command}
use Rattle.ang_engine_modules.specs.declared.command.Command.TheVariants.{NewModule, SetMask, AddSection, Build, Bind, Unbind, Call, Discard, RemoveGroup}
use Rattle.ang_engine_modules.specs.declared.reply.Reply.{Reply}
use Rattle.ang_engine_modules.specs.declared.reply.Outcome.{Outcome}
use Rattle.ang_engine_modules.specs.declared.reply.Outcome.TheVariants.{Done, Failed, Refused}
use Rattle.ang_engine_modules.specs.World.{World, no_modules}
use Rattle.ang_engine.specs.Step.{Takes}
use Rattle.ang_alike.specs.Alike.{BoundedCommand, InTurn, IsRegistered, IsUnrefused, answers_in, common_in}

-- ---- the list, as replies tell it

abbrev pub is_done : Outcome → Bool
is_done (Done v) = true
is_done (Failed f) = false
is_done (Refused why) = false

abbrev pub without_found : Grouped → Option Group → Grouped
without_found R None = R
without_found R (Some g) = without_group g R

-- the list after a command that was answered so: a group is gone where its removal was done
abbrev pub list_told : Grouped → Command → Reply → Grouped
list_told R (NewModule name mask) r = R
list_told R (SetMask name mask) r = R
list_told R (AddSection name text) r = R
list_told R (Build name budget) r = R
list_told R (Bind name index exporter decl) r = R
list_told R (Unbind name index) r = R
list_told R (Call name decl args budget) r = R
list_told R (Discard name) r = R
list_told R (RemoveGroup name) r =
    if is_done r.outcome then without_found R (group_named name R) else R

-- ---- the masks that a host gives

-- the mask that a command gives a module
abbrev pub mask_in : Command → List ℕ
mask_in (NewModule name mask) = mask.0 ∷ []
mask_in (SetMask name mask) = mask.0 ∷ []
mask_in (AddSection name text) = []
mask_in (Build name budget) = []
mask_in (Bind name index exporter decl) = []
mask_in (Unbind name index) = []
mask_in (Call name decl args budget) = []
mask_in (Discard name) = []
mask_in (RemoveGroup name) = []

-- those of a command and these
abbrev pub masks_with : Command → List ℕ → List ℕ
masks_with c ms = mask_in c ++ ms

-- both lists show the same to each of these masks
abbrev pub ShowSame : RegistrationList → RegistrationList → List ℕ → Type 0
ShowSame R S ms = All (λ m. seen R m ≡ seen S m) ms

-- where a command builds
abbrev pub BuildsSame : Grouped → Grouped → List ℕ → Command → Type 0
BuildsSame R S ms (NewModule name mask) = Unit {0}
BuildsSame R S ms (SetMask name mask) = Unit {0}
BuildsSame R S ms (AddSection name text) = Unit {0}
BuildsSame R S ms (Build name budget) = ShowSame R.entries S.entries ms
BuildsSame R S ms (Bind name index exporter decl) = Unit {0}
BuildsSame R S ms (Unbind name index) = Unit {0}
BuildsSame R S ms (Call name decl args budget) = Unit {0}
BuildsSame R S ms (Discard name) = Unit {0}
BuildsSame R S ms (RemoveGroup name) = Unit {0}

-- At each build both lists, as the replies tell them, show the same to each mask that a module was given
-- so far.
abbrev pub AllBuildsSame : Grouped → Grouped → List ℕ → List BoundedCommand → List Reply → List Reply
    → Type 0
AllBuildsSame R S ms [] rs ss = Unit {0}
AllBuildsSame R S ms (c ∷ cs) [] ss = Unit {0}
AllBuildsSame R S ms (c ∷ cs) (r ∷ rs) [] = Unit {0}
AllBuildsSame R S ms (c ∷ cs) (r ∷ rs) (s ∷ ss) =
    BuildsSame R S ms c.command
    × AllBuildsSame (list_told R c.command r) (list_told S c.command s) (masks_with c.command ms) cs rs ss

-- ---- the law

-- Two lists of replies to the same commands, as `Engine::apply` gives them (`takes`), under the same
-- limits, over two registries. If none of the replies tells of a refusal, both lists show the same to the
-- masks at each build, and drivers answered the same, then the replies are the same but for denials and
-- what `RemoveGroup` answers. A host has all of these in hand.
abbrev pub RepliesTell : Type 0
RepliesTell =
    (R S : Grouped) (cs : List BoundedCommand) (rs ss : List Reply) (v w : World)
    → IsRegistered R.entries
    → InTurn Takes R no_modules cs rs v
    → InTurn Takes S no_modules cs ss w
    → AllBuildsSame R S [] cs rs ss
    → All IsUnrefused rs
    → All IsUnrefused ss
    → list_map answers_in rs ≡ list_map answers_in ss
    → common_in cs rs ≡ common_in cs ss

-- What a session says (docs/HOST.md, "The program").
use Rattle.std.specs.Prelude.{ℕ, zero, suc, ◌+◌, nat_le, List, [], ◌∷◌, length, take, Option, Some, None, option_and_then, if◌then◌else◌}
use Rattle.std.specs.List.{concat}
use Rattle.ang_engine_modules.specs.declared.command.Command.{Command}
use Rattle.ang_engine_modules.specs.declared.command.Command.TheVariants.{NewModule, SetMask, AddSection, Build, Bind, Unbind, Call, Discard, RemoveGroup}
use Rattle.asrun_lines.specs.Lines.{shown_of, is_skipped}
use Rattle.asrun_lines.specs.SessionLines.{session_line_of}
use Rattle.asrun_session.specs.declared.action.Action.{Action}
use Rattle.asrun_session.specs.declared.action.Action.TheVariants as action
use Rattle.asrun_lines.specs.declared.session_lines.SessionLine.{SessionLine}
use Rattle.asrun_lines.specs.declared.session_lines.SessionLine.TheVariants as line

-- an action, and how many of the lines after it are its section's
pub record Act : Type 0 where
  pub action : Action
  pub lines : ℕ

abbrev pub command : Command → Option Act
command c = Some (record { action = action.Command c; lines = 0 })

-- the first `lines` lines of those after are a section of the module: nothing where they are too
-- few
abbrev pub section_act : List (List ℕ) → List ℕ → ℕ → Option Act
section_act behind name lines =
    if nat_le lines (length behind)
    then Some (record {
      action = action.Command (AddSection name (concat (take lines behind)));
      lines = lines;
    })
    else None

-- what a line does, where `behind` are the lines that follow it: nothing where they are too few for
-- its section
abbrev pub act_of : ℕ → List (List ℕ) → SessionLine → Option Act
act_of budget behind (line.Module name mask) = command (NewModule name mask)
act_of budget behind (line.Section name lines) = section_act behind name lines
act_of budget behind (line.Mask name mask) = command (SetMask name mask)
act_of budget behind (line.Build name) = command (Build name budget)
act_of budget behind (line.Bind name index exporter decl) =
    command (Bind name index exporter decl)
act_of budget behind (line.Unbind name index) = command (Unbind name index)
act_of budget behind (line.Discard name) = command (Discard name)
act_of budget behind (line.Remove name) = command (RemoveGroup name)
act_of budget behind (line.Call name args decl) = command (Call name decl args budget)
act_of budget behind (line.Budget ticks) = Some (record { action = action.Budget ticks; lines = 0 })

-- the budget of the commands after an action
abbrev pub budget_after : ℕ → Action → ℕ
budget_after budget (action.Command c) = budget
budget_after budget (action.Budget ticks) = ticks

-- the actions of a session, and the line of another form, or without lines enough for its section,
-- that ends it
pub record Session : Type 0 where
  pub actions : List Action
  pub bad_line : Option ℕ

abbrev pub behind_action : Action → Session → Session
behind_action a s = record { actions = a ∷ s.actions; bad_line = s.bad_line }

abbrev pub acts : ℕ → ℕ → Option Act → (ℕ → ℕ → Session) → Session
acts n budget None more = record { actions = []; bad_line = Some n }
acts n budget (Some a) more = behind_action a.action (more (budget_after budget a.action) a.lines)

-- The session from line n on, with the budget that holds there. The next `lines` lines are the text
-- of a section.
unfoldable pub session_from : ℕ → ℕ → ℕ → List (List ℕ) → Session
session_from n budget lines [] = record { actions = []; bad_line = None }
session_from n budget (suc lines) (l ∷ ls) = session_from (n + 1) budget lines ls
session_from n budget zero (l ∷ ls) =
    if is_skipped (shown_of l)
    then session_from (n + 1) budget zero ls
    else acts n budget (option_and_then (act_of budget ls) (session_line_of (shown_of l)))
    (λ b lines. session_from (n + 1) b lines ls)

-- The limits that a profile sets (docs/FORMATS.md, "Profile").
use Rattle.std.specs.Prelude.{ℕ, List, [], ◌∷◌, Option, Some, if◌then◌else◌}
use Rattle.ang_meaning.specs.World.{Bounds}
use Rattle.ang_heap.specs.declared.limits.Limits.{Limits}
use Rattle.asrun_lines.specs.Lines.{shown_of, is_skipped}
use Rattle.asrun_lines.specs.ProfileLines.{Entry, Limit, entry_of}
use Rattle.asrun_lines.specs.declared.limits.LimitKind.{LimitKind}
use Rattle.asrun_lines.specs.declared.limits.LimitKind.TheVariants.{Events, Slots, Objects}
use Rattle.asrun_lines.specs.declared.limits.LimitLine.{LimitLine}

abbrev pub limit_put : Limits → ℕ → LimitKind → Limits
limit_put l most Events = record l { events = most }
limit_put l most Slots = record l { slots = most }
limit_put l most Objects = record l { objects = most }

-- one of the limits is another
abbrev pub with_limit : Limits → LimitLine → Limits
with_limit l limit = limit_put l limit.most limit.kind

abbrev pub bound_put : Bounds → ℕ → LimitKind → Bounds
bound_put b most Events = record b { events = most }
bound_put b most Slots = record b { slots = most }
bound_put b most Objects = record b { objects = most }

-- the same of what the host allows in a world
abbrev pub with_bound : Bounds → LimitLine → Bounds
with_bound b limit = bound_put b limit.most limit.kind

-- the limits after a line
abbrev pub entry_limits : Limits → Option Entry → Limits
entry_limits l (Some (Limit limit)) = with_limit l limit
entry_limits l _ = l

abbrev pub line_limits : Limits → List ℕ → Limits
line_limits l line = if is_skipped line then l else entry_limits l (entry_of line)

-- the limits after some lines, each of which may set one: the last of a kind counts
unfoldable pub limits_of : Limits → List (List ℕ) → Limits
limits_of l [] = l
limits_of l (line ∷ lines) = limits_of (line_limits l (shown_of line)) lines

-- The text of a trace (docs/FORMATS.md, "Traces").
use Rattle.std.specs.Prelude.{ℕ, Bool, List, ◌++◌, length, ◌==◌, Option, Some, None, if◌then◌else◌, codes}
use Rattle.ang_engine_modules.specs.Traced.{Frame, frame_of}
use Rattle.ang_engine_modules.specs.declared.traced.TraceFrame.{TraceFrame}
use Rattle.ang_kinds.specs.declared.place.Place.{Place}
use Rattle.asrun_text.specs.Text.{newline, place_text}

-- a body that was running, and the place of the statement in which it stood
pub record TraceLine : Type 0 where
  pub frame : Frame
  pub place : Option Place

-- what a frame that is lent says
abbrev pub trace_line : TraceFrame → TraceLine
trace_line t = record { frame = frame_of t; place = t.place }

-- `f`, `C::f` of a method or constructor, or `global g` of the global whose initializer it is
unfoldable pub frame_name : List ℕ → List ℕ → Bool → List ℕ
frame_name class name is_global =
    if is_global then codes "global " ++ name
    else if length class == 0 then name
    else class ++ codes "::" ++ name

-- `SECT:LINE:COLUMN`, or `-` where there is none
abbrev pub place_or_none : Option Place → List ℕ
place_or_none None = codes "-"
place_or_none (Some p) = place_text p

-- `at MODULE NAME SECT:LINE:COLUMN SECT:LINE:COLUMN`: the place of the name, and that of the statement
unfoldable pub trace_line_text : TraceLine → List ℕ
trace_line_text l =
    codes "at " ++ l.frame.own ++ codes " "
    ++ frame_name l.frame.class l.frame.name l.frame.is_global ++ codes " "
    ++ place_text l.frame.declared ++ codes " " ++ place_or_none l.place ++ newline

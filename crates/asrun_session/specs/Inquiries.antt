-- What is told a host between commands (docs/FORMATS.md, "The conversation of asremote").
use Rattle.std.specs.Prelude.{ℕ, ◌≡◌, Bool, List, ◌++◌, Option, codes, decimal, flat_map}
use Rattle.std.specs.Io.KnownBytes.{Appends}
use Rattle.ang_engine_modules.specs.declared.reply.Outcome.{Outcome}
use Rattle.ang_heap.specs.declared.limits.Held.{Held}
use Rattle.asrun_session.specs.Deeds.{is_done}
use Rattle.asrun_session.specs.Writing.{HasFront}
use Rattle.asrun_text.specs.Text.{newline, outcome_text}
use Rattle.asrun_text.specs.Trace.{TraceLine, trace_line_text}

-- `ticks N`, `slots N` and `objects N`, and then `ok`
unfoldable pub used_text : ℕ → Held → List ℕ
used_text ticks h =
    codes "ticks " ++ decimal ticks ++ codes "\nslots " ++ decimal h.slots ++ codes "\nobjects "
    ++ decimal h.objects ++ codes "\nok\n"

-- `prepared N`, and then `ok`
unfoldable pub prepared_text : ℕ → List ℕ
prepared_text n = codes "prepared " ++ decimal n ++ codes "\nok\n"

-- a line for each body, and then `ok`
abbrev pub trace_text : List TraceLine → List ℕ
trace_text frames = flat_map trace_line_text frames ++ codes "ok\n"

-- the lines of some bodies were written, and then `ok`
pub record PrintsTrace (old new : Option (List ℕ)) : Type 0 where
  pub frames : List TraceLine
  pub printed : Appends old new (trace_text frames)

-- or a front of them
pub record PrintsTraceFront (old new : Option (List ℕ)) : Type 0 where
  pub frames : List TraceLine
  pub front : HasFront old new (trace_text frames)

-- a declaration of a module, as its line tells it
abbrev pub declared_line : List ℕ → List ℕ
declared_line line = line ++ newline

-- a line for each declaration, and then the outcome
abbrev pub listing_text : List (List ℕ) → Outcome → List ℕ
listing_text lines outcome = flat_map declared_line lines ++ outcome_text outcome

-- the lines of some declarations were written, and then `ok`, or why there are no more
pub record PrintsListing (old new : Option (List ℕ)) (ok : Bool) : Type 0 where
  pub lines : List (List ℕ)
  pub outcome : Outcome
  pub printed : Appends old new (listing_text lines outcome)
  pub ended : ok ≡ is_done outcome

-- or a front of them
pub record PrintsListingFront (old new : Option (List ℕ)) : Type 0 where
  pub lines : List (List ℕ)
  pub outcome : Outcome
  pub front : HasFront old new (listing_text lines outcome)

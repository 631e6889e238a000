-- Which functions a profile has posted (docs/FORMATS.md, "The conversation of asremote").
use Rattle.std.specs.Prelude.{ℕ, ◌==◌, List, [], ◌∷◌, flat_map, Option, Some, None, if◌then◌else◌}
use Rattle.asrun_lines.specs.Lines.{shown_of}
use Rattle.asrun_lines.specs.ProfileLines.{Entry, DefaultMask, Limit, HostType, Factory, Method, Property, Function, Posted, Global, Enumeration, EnumValue, Group, EndGroup, Blank, entry_of}
use Rattle.asremote.specs.declared.posted.PostedFunction.{PostedFunction}

-- the function that a line has posted: one line `posted DRIVER F DECL` has one, and any other none
abbrev pub posted_by : Option Entry → List PostedFunction
posted_by None = []
posted_by (Some (DefaultMask m)) = []
posted_by (Some (Limit limit)) = []
posted_by (Some (HostType name own)) = []
posted_by (Some (Factory t f decl)) = []
posted_by (Some (Method t f decl)) = []
posted_by (Some (Property t f decl)) = []
posted_by (Some (Function own f decl)) = []
posted_by (Some (Posted own number decl)) = record { driver = own; f = number } ∷ []
posted_by (Some (Global own f decl)) = []
posted_by (Some (Enumeration name)) = []
posted_by (Some (EnumValue enumeration name value)) = []
posted_by (Some (Group name)) = []
posted_by (Some EndGroup) = []
posted_by (Some Blank) = []

-- those of all lines, in their order
unfoldable pub posted_in : List (List ℕ) → List PostedFunction
posted_in lines = flat_map (λ line. posted_by (entry_of (shown_of line))) lines

-- the number of a function that is posted to this driver
abbrev pub number_for : ℕ → PostedFunction → List ℕ
number_for driver posted = if posted.driver == driver then posted.f ∷ [] else []

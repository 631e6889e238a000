-- The function with a heading, among some functions by number.
use Rattle.std.specs.Prelude.{ℕ, Bool, false, if◌then◌else◌, List, [], ◌∷◌, Option, Some, None, slice_get}
use Rattle.ang_names_known.specs.declared.names.ScriptFunction.{ScriptFunction}
use Rattle.ang_names_known.specs.Lookup.{same_heading}

abbrev pub heads : ScriptFunction → Option ScriptFunction → Bool
heads wanted None = false
heads wanted (Some f) = same_heading wanted f

abbrev pub has_heading : List ScriptFunction → ScriptFunction → ℕ → Bool
has_heading fs wanted n = heads wanted (slice_get fs n)

abbrev pub heading_among : List ScriptFunction → ScriptFunction → List ℕ → Option ℕ
heading_among fs wanted [] = None
heading_among fs wanted (n ∷ ns) = if has_heading fs wanted n then Some n else heading_among fs wanted ns

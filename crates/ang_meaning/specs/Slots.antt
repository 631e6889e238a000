-- The slots of script objects: what a limit on them counts.
use Rattle.std.specs.Prelude.{ℕ, ◌+◌, List, [], ◌∷◌, length}
use Rattle.std.specs.FinMap as map
use Rattle.ang_meaning.specs.World.{ScriptRecord, ScriptObjects}

-- an object takes one slot, and one for each of its fields
abbrev pub slots_at : ScriptRecord → ℕ
slots_at o = 1 + length o.fields

abbrev pub slots_listed : List (ℕ × ScriptRecord) → ℕ
slots_listed [] = 0
slots_listed (e ∷ es) = slots_at e.1 + slots_listed es

-- what all script objects take
unfoldable pub slots_of : ScriptObjects → ℕ
slots_of os = slots_listed (map.entries os)

-- The texts of keys and objects (docs/FORMATS.md, "Events").
use Rattle.std.specs.Prelude.{ℕ, List, ◌++◌, Option, Some, None, codes, decimal}

-- a key is `#k`
abbrev pub key_text : ℕ → List ℕ
key_text k = codes "#" ++ decimal k

-- the object that is asked: `-` for none
unfoldable pub object_text : Option ℕ → List ℕ
object_text None = codes "-"
object_text (Some k) = key_text k

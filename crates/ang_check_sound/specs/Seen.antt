-- What a resolved tree uses of the host is seen (docs/CLAIMS.md, "What a module uses").
use Rattle.std.specs.Prelude.{All}
use Rattle.ang_view.specs.Registration.{RegistrationList}
use Rattle.ang_typed.specs.Typed as t
use Rattle.ang_typed.specs.Uses.{uses}
use Rattle.ang_source.specs.Sound.{IsNoBlank}

-- No number that the tree uses is that of a blank: the view has each entry that the tree asks or names, and each type of the host
-- that its declarations name.
abbrev pub SeesUses : RegistrationList → t.Program → Type 0
SeesUses V p = All (IsNoBlank V) (uses p)

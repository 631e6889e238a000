-- What a built module keeps of what it sees (docs/CLAIMS.md, "What a module uses"): the entries that it uses.
use Rattle.std.specs.Prelude.{ℕ, ◌==◌, Bool, List}
use Rattle.std.specs.List.{list_any}
use Rattle.ang_view.specs.Only.{only}
use Rattle.ang_view.specs.Registration.{RegistrationList}
use Rattle.ang_typed.specs.Typed as t
use Rattle.ang_typed.specs.Uses.{uses}

abbrev pub is_among : List ℕ → ℕ → Bool
is_among ns n = list_any (λ k. k == n) ns

-- Every entry is blanked that the tree does not use. The numbers of those that are left rise, and none comes twice.
unfoldable pub narrowed : RegistrationList → t.Program → RegistrationList
narrowed V p = only (is_among (uses p)) V

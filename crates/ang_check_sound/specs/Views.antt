-- What a module of a mask may ask the host for (docs/HOST.md, "Masks").
use Rattle.std.specs.Prelude.{◌≡◌, ℕ, true, Some}
use Rattle.ang_view.specs.declared.entry.Entry.{Entry}
use Rattle.ang_view.specs.Registration.{RegistrationList, entry_at, is_seen}

-- Entry n of the list is x, and a module of mask m sees it.
pub record Entitled (list : RegistrationList) (m n : ℕ) (x : Entry) : Type 0 where
  pub registered : entry_at list n ≡ Some x
  pub is_seen : is_seen list m x ≡ true

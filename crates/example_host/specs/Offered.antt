-- Under which mask each entry of a registration list stands.
use Rattle.std.specs.Prelude.{ℕ, List, Option, map, option_map}
use Rattle.ang_view.specs.declared.entry.Entry.{Entry}
use Rattle.ang_view.specs.Registration.{RegistrationList}

abbrev pub mask_of : Option Entry → Option ℕ
mask_of = option_map (λ e. e.mask.0)

-- the masks in the order of the entries; a blank has none
abbrev pub masks_of : RegistrationList → List (Option ℕ)
masks_of = map mask_of

-- The drivers that entries name, by their numbers in an engine's list (docs/HOST.md, "Drivers").
use Rattle.std.specs.Prelude.{ℕ, ◌≡◌, ◌<◌, Bool, true, false, Some}
use Rattle.ang_view.specs.declared.entry.Entry.{Entry}
use Rattle.ang_view.specs.declared.entry.EntryKind.{EntryKind}
use Rattle.ang_view.specs.declared.entry.EntryKind.TheVariants.{HostType, Factory, Method, Property, Function, Global, Enumeration, EnumValue}
use Rattle.ang_view.specs.Registration.{RegistrationList, entry_at}

-- whether entries of this kind are a driver's: an enumeration and a value of one are no driver's
abbrev pub has_driver : EntryKind → Bool
has_driver Enumeration = false
has_driver (EnumValue v) = false
has_driver HostType = true
has_driver Factory = true
has_driver Method = true
has_driver Property = true
has_driver Function = true
has_driver Global = true

-- each entry's driver is one of a list of so many
abbrev pub HaveDrivers : RegistrationList → ℕ → Type 0
HaveDrivers R count = (number : ℕ) (x : Entry) → entry_at R number ≡ Some x → has_driver x.kind ≡ true → x.driver < count

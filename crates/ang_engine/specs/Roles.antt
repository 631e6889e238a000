-- What asking each entry means to its driver (docs/HOST.md, "Drivers").
use Rattle.std.specs.Prelude.{ℕ, ◌≡◌, ◌^◌, true, if◌then◌else◌, List, map, Option, Some, None}
use Rattle.ang_host.specs.declared.event.Role.{Role}
use Rattle.ang_host.specs.declared.event.Role.TheVariants.{Making}
use Rattle.ang_view.specs.declared.entry.Entry.{Entry}
use Rattle.ang_host.specs.Events.{role_at}
use Rattle.ang_source.specs.Hosts.{is_asked, role_in}
use Rattle.ang_view.specs.Registration.{RegistrationList, entry_at}

-- the role of what can't be asked: no driver has a function of this number
abbrev pub no_role : Role
no_role = Making (2 ^ 32)

abbrev pub role_of : Option Entry → Role
role_of None = no_role
role_of (Some x) = if is_asked x.kind then role_in x.kind x.f else no_role

-- the roles of all entries, by their numbers
unfoldable pub roles_of : RegistrationList → List Role
roles_of list = map role_of list

-- These are the roles of the entries of a list, and may be those of more: where entries go, the roles
-- that a list had go on to fit.
abbrev pub AreRoles : List Role → RegistrationList → Type 0
AreRoles roles R =
    (n : ℕ) (x : Entry) → entry_at R n ≡ Some x → is_asked x.kind ≡ true
    → role_at roles n ≡ role_in x.kind x.f

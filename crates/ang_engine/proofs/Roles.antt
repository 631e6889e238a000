-- The role of each entry.
use Rattle.std.proofs.Common.{◌≡◌, ℕ, zero, suc, ◌<◌, List, [], ◌∷◌, map, length, Some, refl, ap, ◌∙◌, arith, get_or}
use Rattle.std.specs.Prelude.{if◌then◌else◌}
use Rattle.ang_host.specs.declared.event.Role.{Role}
use Rattle.ang_host.specs.Events.{role_at}
use Rattle.ang_view.specs.declared.entry.Entry.{Entry}
use Rattle.ang_view.specs.Registration.{RegistrationList, entry_at}
use Rattle.ang_view.proofs.Entries.{entry_at-lt}
use Rattle.ang_view.specs.Only.{IsWithin}
use Rattle.ang_source.specs.Hosts.{role_in}
use Rattle.ang_engine.specs.Roles.{AreRoles, no_role, role_of, roles_of}

at_map : (list : RegistrationList) (n : ℕ) (d : Role) → n < length list → get_or (map role_of list) n d ≡ role_of (entry_at list n)
at_map [] n d l = absurd (omega arith)
at_map (x ∷ xs) zero d l = refl
at_map (x ∷ xs) (suc n) d l = at_map xs n d (omega arith)

-- the role of a number of the list is its entry's
pub role_at-roles_of : (list : RegistrationList) (n : ℕ) → n < length list → role_at (roles_of list) n ≡ role_of (entry_at list n)
unfolding roles_of
role_at-roles_of list n l = at_map list n _ l

-- the role of an entry that is there
pub role_at-entry : (list : RegistrationList) (n : ℕ) (x : Entry) → entry_at list n ≡ Some x → role_at (roles_of list) n ≡ role_of (Some x)
role_at-entry list n x e = role_at-roles_of list n (entry_at-lt list n x e) ∙ ap role_of e

-- a list's own roles fit it
pub own_roles : (list : RegistrationList) → AreRoles (roles_of list) list
own_roles list n x e asked = role_at-entry list n x e ∙ ap (λ b. if b then role_in x.kind x.f else no_role) asked

-- and those that fit a list fit what is left of it
pub roles_still : (roles : List Role) (list left : RegistrationList) → IsWithin left list → AreRoles roles list → AreRoles roles left
roles_still roles list left within fit n x e asked = fit n x (within n x e) asked

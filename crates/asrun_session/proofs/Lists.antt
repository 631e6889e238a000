-- The registration list of an engine, of which commands take groups away.
use Rattle.std.proofs.Common.{◌≡◌, Bool, true, false, refl, sym, ap, subst}
use Rattle.std.specs.Prelude.{if◌then◌else◌}
use Rattle.ang_view.specs.Groups.{Grouped}
use Rattle.ang_view.specs.Only.{IsWithin}
use Rattle.ang_registry.specs.Groups.{all_ended, with_ended}
use Rattle.ang_registry.specs.Registrations.{Registrations, grouped}
use Rattle.ang_engine.specs.Step.{list_after}
use Rattle.ang_engine.proofs.Lists.{after_within, all_within}
use Rattle.ang_engine_modules.specs.declared.command.Command.{Command}
use Rattle.ang_engine_modules.specs.World.{World}
use Rattle.asrun_session.specs.Deeds.{Deed, Ran, Set, list_behind}
use Rattle.asrun_session.specs.Whole.{list_begun}

abbrev with_groups_of : Registrations → Registrations → Grouped
with_groups_of r s = record { entries = r.entries; groups = s.groups }

-- an engine begins with no group open
pub begun_list : (r : Registrations) → grouped (all_ended r) ≡ list_begun r
begun_list r = by r.is_open refl
  where
    by : (b : Bool) → r.is_open ≡ b → grouped (if b then with_ended r else r) ≡ with_groups_of r (if b then with_ended r else r)
    by true e = refl
    by false e = ap (λ b. grouped (record r { is_open = b })) e

-- a registry that stays has the same list
pub same_list : (r s : Registrations) → s ≡ r → grouped s ≡ grouped r
same_list r s e = ap grouped e

pub same_within : (R S : Grouped) → S ≡ R → IsWithin S.entries R.entries
same_within R S e = subst (λ l. IsWithin l.entries R.entries) (sym e) (all_within R.entries)

pub registry_within : (r s : Registrations) → s ≡ r → IsWithin s.entries r.entries
registry_within r s e = same_within (grouped r) (grouped s) (same_list r s e)

-- a command leaves no more than there was
pub command_within : (R S : Grouped) (w : World) (c : Command) → S ≡ list_after R w c → IsWithin S.entries R.entries
command_within R S w c e = subst (λ l. IsWithin l.entries R.entries) (sym e) (after_within R w c)

-- nor does a deed
pub deed_within : (R S : Grouped) (w : World) (d : Deed) → S ≡ list_behind R w d → IsWithin S.entries R.entries
deed_within R S w (Ran c r) e = command_within R S w c e
deed_within R S w (Set ticks) e = same_within R S e

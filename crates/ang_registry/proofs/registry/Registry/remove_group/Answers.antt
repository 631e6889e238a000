use Rattle.std.proofs.Common.{rules, ◌≡◌, Bool, true, false, None, Some, sym, ap, ◌∙◌, get_or}
use Rattle.std.specs.List.{position}
use Rattle.ang_view.specs.Groups.{is_called, is_named_outside}
use Rattle.ang_registry.specs.Groups.{removal_row}
use Rattle.ang_registry.specs.Registrations.{Registrations, closed}
use Rattle.ang_registry.proofs.Grouping.{IsFirst, gone, is_first, is_there, none_found, refused_so}
use Rattle.ang_registry.proofs.registry.Registry.remove_group.Goals as goal

pub returns-in_default-clause-first_refusal : goal.returns-in_default-clause-first_refusal
returns-in_default-clause-first_refusal c =
    let r = c.args.self.now in
    let p = is_called c.args.name.now in
    let none : None ≡ position p c.groups.result.now = first_of (cc, search rules) in
    ap (removal_row r) (none_found p (closed r) (none ∙ ap (position p) c.groups.ensures.exact))

pub returns-then-is_named_outside-clause-first_refusal : goal.returns-then-is_named_outside-clause-first_refusal
returns-then-is_named_outside-clause-first_refusal c =
    let r = c.args.self.now in
    let p = is_called c.args.name.now in
    let place = c.in-Some.place in
    let group = c.index-groups-place.result in
    let first : IsFirst p (closed r) place = is_first p (closed r) place (c.in-Some.ensures.exact ∙ ap (position p) c.groups.ensures.exact) in
    let at : group ≡ get_or (closed r) place group = c.index-groups-place.is ∙ ap (λ gs. get_or gs place group) c.groups-2.ensures.exact in
    let named : is_named_outside c.self.inside.list group ≡ true = first_of (cc, search rules) in
    refused_so r c.args.name.now place first group at true (ap (λ (s : Registrations). is_named_outside s.entries group) (sym c.self.view_is) ∙ named)

pub remove_at-requires : goal.remove_at-requires
remove_at-requires c =
    let r = c.args.self.now in
    let p = is_called c.args.name.now in
    let place = c.in-Some.place in
    let first : IsFirst p (closed r) place = is_first p (closed r) place (c.in-Some.ensures.exact ∙ ap (position p) c.groups.ensures.exact) in
    record { there = is_there r c.args.name.now place first }

pub returns-clause-accepted : goal.returns-clause-accepted
returns-clause-accepted c =
    let r = c.args.self.now in
    let p = is_called c.args.name.now in
    let place = c.in-Some.place in
    let group = c.index-groups-place.result in
    let first : IsFirst p (closed r) place = is_first p (closed r) place (c.in-Some.ensures.exact ∙ ap (position p) c.groups.ensures.exact) in
    let at : group ≡ get_or (closed r) place group = c.index-groups-place.is ∙ ap (λ gs. get_or gs place group) c.groups-2.ensures.exact in
    let free : is_named_outside c.self.inside.list group ≡ false = first_of (cc, search rules) in
    refused_so r c.args.name.now place first group at false (ap (λ (s : Registrations). is_named_outside s.entries group) (sym c.self.view_is) ∙ free)

pub returns-clause-removed : goal.returns-clause-removed
returns-clause-removed c =
    let r = c.args.self.now in
    let p = is_called c.args.name.now in
    let place = c.in-Some.place in
    let first : IsFirst p (closed r) place = is_first p (closed r) place (c.in-Some.ensures.exact ∙ ap (position p) c.groups.ensures.exact) in
    (gone r c.args.name.now place first c.remove_at.new.self c.remove_at.ensures.removed).0

pub returns-clause-left : goal.returns-clause-left
returns-clause-left c =
    let r = c.args.self.now in
    let p = is_called c.args.name.now in
    let place = c.in-Some.place in
    let first : IsFirst p (closed r) place = is_first p (closed r) place (c.in-Some.ensures.exact ∙ ap (position p) c.groups.ensures.exact) in
    (gone r c.args.name.now place first c.remove_at.new.self c.remove_at.ensures.removed).1

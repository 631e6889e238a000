use Rattle.std.proofs.Common.{◌≡◌, true, false, Some, None, rules, ap}
use Rattle.std.proofs.lemmas.Result.{err_from_is_err_and}
use Rattle.ang_registry.specs.Registrations.{Registrations}
use Rattle.ang_registry.specs.Types.{is_misused}
use Rattle.ang_registry.specs.Refusals.{gives_own, refusal_of_member, refusal_of_entry}
use Rattle.ang_view.specs.Types.{type_named, driver_at}
use Rattle.ang_registry.proofs.Tables.{AreHeld, HasRoom, refusal_of_member-early, refusal_of_member-undeclared, refusal_of_member-other, refusal_of_member-misused, refusal_of_member-unknown, refusal_of_member-entry}
use Rattle.ang_registry.proofs.registry.Registry.add_member.Goals as goal

pub returns-in_err-check_room-clause-first_refusal :
    goal.returns-in_err-check_room-clause-first_refusal
returns-in_err-check_room-clause-first_refusal c =
    let a = c.args in
    let held : AreHeld c.self.inside.list c.self.inside.default_mask a.self.now = record {
      same_entries = ap (λ (r : Registrations). r.entries) c.self.view_is;
      same_mask = ap (λ (r : Registrations). r.default_mask) c.self.view_is;
    } in
    let p = err_from_is_err_and c.from_residual.result c.from_residual.ensures.1 in
    rw (p.1, p.2) (λ _. refusal_of_member-early a.kind a.self.now a.type_name.now a.declared _ _ _ held c.in_err-check_room.ensures.refused)

pub returns-in_default-clause-first_refusal : goal.returns-in_default-clause-first_refusal
returns-in_default-clause-first_refusal c =
    let a = c.args in
    let held : AreHeld c.self.inside.list c.self.inside.default_mask a.self.now = record {
      same_entries = ap (λ (r : Registrations). r.entries) c.self.view_is;
      same_mask = ap (λ (r : Registrations). r.default_mask) c.self.view_is;
    } in
    let room : HasRoom c.self.inside.list c.self.inside.default_mask a.declared = record { within_limit = c.in_ok-check_room.ensures.limit; has_mask = c.in_ok-check_room.ensures.mask } in
    let none : a.declared ≡ None = first_of (cc, search rules) in
    λ _. refusal_of_member-undeclared a.kind a.self.now a.type_name.now a.declared _ _ held room none

pub returns-then-not-gives_own-clause-first_refusal :
    goal.returns-then-not-gives_own-clause-first_refusal
returns-then-not-gives_own-clause-first_refusal c =
    let a = c.args in
    let held : AreHeld c.self.inside.list c.self.inside.default_mask a.self.now = record {
      same_entries = ap (λ (r : Registrations). r.entries) c.self.view_is;
      same_mask = ap (λ (r : Registrations). r.default_mask) c.self.view_is;
    } in
    let room : HasRoom c.self.inside.list c.self.inside.default_mask a.declared = record { within_limit = c.in_ok-check_room.ensures.limit; has_mask = c.in_ok-check_room.ensures.mask } in
    let other : gives_own a.kind a.type_name.now c.in-Some.signature ≡ false = first_of (cc, search rules) in
    λ _. refusal_of_member-other a.kind a.self.now a.type_name.now a.declared c.in-Some.signature _ _ held room c.in-Some.is other

pub returns-then-is_misused-clause-first_refusal :
    goal.returns-then-is_misused-clause-first_refusal
returns-then-is_misused-clause-first_refusal c =
    let a = c.args in
    let held : AreHeld c.self.inside.list c.self.inside.default_mask a.self.now = record {
      same_entries = ap (λ (r : Registrations). r.entries) c.self.view_is;
      same_mask = ap (λ (r : Registrations). r.default_mask) c.self.view_is;
    } in
    let room : HasRoom c.self.inside.list c.self.inside.default_mask a.declared = record { within_limit = c.in_ok-check_room.ensures.limit; has_mask = c.in_ok-check_room.ensures.mask } in
    let own : gives_own a.kind a.type_name.now c.in-Some.signature ≡ true = first_of (cc, search rules) in
    let misused : is_misused c.self.inside.list c.in-Some.signature ≡ true = first_of (cc, search rules) in
    λ _. refusal_of_member-misused a.kind a.self.now a.type_name.now a.declared c.in-Some.signature _ _ held room c.in-Some.is own misused

pub returns-in_default-find_type-clause-first_refusal :
    goal.returns-in_default-find_type-clause-first_refusal
returns-in_default-find_type-clause-first_refusal c =
    let a = c.args in
    let held : AreHeld c.self.inside.list c.self.inside.default_mask a.self.now = record {
      same_entries = ap (λ (r : Registrations). r.entries) c.self.view_is;
      same_mask = ap (λ (r : Registrations). r.default_mask) c.self.view_is;
    } in
    let room : HasRoom c.self.inside.list c.self.inside.default_mask a.declared = record { within_limit = c.in_ok-check_room.ensures.limit; has_mask = c.in_ok-check_room.ensures.mask } in
    let own : gives_own a.kind a.type_name.now c.in-Some.signature ≡ true = first_of (cc, search rules) in
    let used : is_misused c.self.inside.list c.in-Some.signature ≡ false = first_of (cc, search rules) in
    let absent : type_named c.self.inside.list a.type_name.now ≡ None = c.in_default-find_type.ensures.absent in
    λ _. refusal_of_member-unknown a.kind a.self.now a.type_name.now a.declared c.in-Some.signature _ _ held room c.in-Some.is own used absent

pub returns-clause-accepted : goal.returns-clause-accepted
returns-clause-accepted c =
    let a = c.args in
    let held : AreHeld c.self.inside.list c.self.inside.default_mask a.self.now = record {
      same_entries = ap (λ (r : Registrations). r.entries) c.self.view_is;
      same_mask = ap (λ (r : Registrations). r.default_mask) c.self.view_is;
    } in
    let room : HasRoom c.self.inside.list c.self.inside.default_mask a.declared = record { within_limit = c.in_ok-check_room.ensures.limit; has_mask = c.in_ok-check_room.ensures.mask } in
    let own : gives_own a.kind a.type_name.now c.in-Some.signature ≡ true = first_of (cc, search rules) in
    let used : is_misused c.self.inside.list c.in-Some.signature ≡ false = first_of (cc, search rules) in
    let found = c.in-Some-find_type.found in
    let place : type_named c.self.inside.list a.type_name.now ≡ Some found.number.0 = c.in-Some-find_type.ensures.number in
    let by : found.driver ≡ driver_at c.self.inside.list (Some found.number.0) = c.in-Some-find_type.ensures.driver in
    let same : refusal_of_member a.kind a.self.now a.type_name.now a.declared ≡ refusal_of_entry a.self.now.entries a.kind (Some found.number) found.driver c.in-Some.signature = refusal_of_member-entry a.kind a.self.now a.type_name.now a.declared c.in-Some.signature found.number found.driver _ _ held room c.in-Some.is own used place by in
    rw same c.add.ensures.accepted

pub returns-clause-first_refusal : goal.returns-clause-first_refusal
returns-clause-first_refusal c =
    let a = c.args in
    let held : AreHeld c.self.inside.list c.self.inside.default_mask a.self.now = record {
      same_entries = ap (λ (r : Registrations). r.entries) c.self.view_is;
      same_mask = ap (λ (r : Registrations). r.default_mask) c.self.view_is;
    } in
    let room : HasRoom c.self.inside.list c.self.inside.default_mask a.declared = record { within_limit = c.in_ok-check_room.ensures.limit; has_mask = c.in_ok-check_room.ensures.mask } in
    let own : gives_own a.kind a.type_name.now c.in-Some.signature ≡ true = first_of (cc, search rules) in
    let used : is_misused c.self.inside.list c.in-Some.signature ≡ false = first_of (cc, search rules) in
    let found = c.in-Some-find_type.found in
    let place : type_named c.self.inside.list a.type_name.now ≡ Some found.number.0 = c.in-Some-find_type.ensures.number in
    let by : found.driver ≡ driver_at c.self.inside.list (Some found.number.0) = c.in-Some-find_type.ensures.driver in
    let same : refusal_of_member a.kind a.self.now a.type_name.now a.declared ≡ refusal_of_entry a.self.now.entries a.kind (Some found.number) found.driver c.in-Some.signature = refusal_of_member-entry a.kind a.self.now a.type_name.now a.declared c.in-Some.signature found.number found.driver _ _ held room c.in-Some.is own used place by in
    rw same c.add.ensures.first_refusal

use Rattle.std.proofs.Common.{◌≡◌, true, false, None, rules, ap}
use Rattle.std.proofs.lemmas.Result.{err_from_is_err_and}
use Rattle.ang_registry.specs.Registrations.{Registrations}
use Rattle.ang_registry.specs.Types.{is_misused}
use Rattle.ang_registry.specs.Refusals.{refusal_of_own, refusal_of_entry}
use Rattle.ang_registry.proofs.Tables.{AreHeld, HasRoom, refusal_of_own-early, refusal_of_own-bad, refusal_of_own-misused, refusal_of_own-entry}
use Rattle.ang_registry.proofs.registry.Registry.add_own.Goals as goal

pub returns-in_err-check_room-clause-first_refusal :
    goal.returns-in_err-check_room-clause-first_refusal
returns-in_err-check_room-clause-first_refusal c =
    let a = c.args in
    let held : AreHeld c.self.inside.list c.self.inside.default_mask a.self.now = record {
      same_entries = ap (λ (r : Registrations). r.entries) c.self.view_is;
      same_mask = ap (λ (r : Registrations). r.default_mask) c.self.view_is;
    } in
    let p = err_from_is_err_and c.from_residual.result c.from_residual.ensures.1 in
    rw (p.1, p.2) (λ _. refusal_of_own-early a.kind a.self.now a.driver a.declared _ _ _ held c.in_err-check_room.ensures.refused)

pub returns-in_default-clause-first_refusal : goal.returns-in_default-clause-first_refusal
returns-in_default-clause-first_refusal c =
    let a = c.args in
    let held : AreHeld c.self.inside.list c.self.inside.default_mask a.self.now = record {
      same_entries = ap (λ (r : Registrations). r.entries) c.self.view_is;
      same_mask = ap (λ (r : Registrations). r.default_mask) c.self.view_is;
    } in
    let room : HasRoom c.self.inside.list c.self.inside.default_mask a.declared = record { within_limit = c.in_ok-check_room.ensures.limit; has_mask = c.in_ok-check_room.ensures.mask } in
    let none : a.declared ≡ None = first_of (cc, search rules) in
    λ _. refusal_of_own-bad a.kind a.self.now a.driver a.declared _ _ held room none

pub returns-then-is_misused-clause-first_refusal : goal.returns-then-is_misused-clause-first_refusal
returns-then-is_misused-clause-first_refusal c =
    let a = c.args in
    let held : AreHeld c.self.inside.list c.self.inside.default_mask a.self.now = record {
      same_entries = ap (λ (r : Registrations). r.entries) c.self.view_is;
      same_mask = ap (λ (r : Registrations). r.default_mask) c.self.view_is;
    } in
    let room : HasRoom c.self.inside.list c.self.inside.default_mask a.declared = record { within_limit = c.in_ok-check_room.ensures.limit; has_mask = c.in_ok-check_room.ensures.mask } in
    let misused : is_misused c.self.inside.list c.in-Some.signature ≡ true = first_of (cc, search rules) in
    λ _. refusal_of_own-misused a.kind a.self.now a.driver a.declared c.in-Some.signature _ _ held room c.in-Some.is misused

pub returns-clause-accepted : goal.returns-clause-accepted
returns-clause-accepted c =
    let a = c.args in
    let held : AreHeld c.self.inside.list c.self.inside.default_mask a.self.now = record {
      same_entries = ap (λ (r : Registrations). r.entries) c.self.view_is;
      same_mask = ap (λ (r : Registrations). r.default_mask) c.self.view_is;
    } in
    let room : HasRoom c.self.inside.list c.self.inside.default_mask a.declared = record { within_limit = c.in_ok-check_room.ensures.limit; has_mask = c.in_ok-check_room.ensures.mask } in
    let used : is_misused c.self.inside.list c.in-Some.signature ≡ false = first_of (cc, search rules) in
    let same : refusal_of_own a.kind a.self.now a.driver a.declared ≡ refusal_of_entry a.self.now.entries a.kind None a.driver c.in-Some.signature = refusal_of_own-entry a.kind a.self.now a.driver a.declared c.in-Some.signature _ _ held room c.in-Some.is used in
    rw same c.add.ensures.accepted

pub returns-clause-first_refusal : goal.returns-clause-first_refusal
returns-clause-first_refusal c =
    let a = c.args in
    let held : AreHeld c.self.inside.list c.self.inside.default_mask a.self.now = record {
      same_entries = ap (λ (r : Registrations). r.entries) c.self.view_is;
      same_mask = ap (λ (r : Registrations). r.default_mask) c.self.view_is;
    } in
    let room : HasRoom c.self.inside.list c.self.inside.default_mask a.declared = record { within_limit = c.in_ok-check_room.ensures.limit; has_mask = c.in_ok-check_room.ensures.mask } in
    let used : is_misused c.self.inside.list c.in-Some.signature ≡ false = first_of (cc, search rules) in
    let same : refusal_of_own a.kind a.self.now a.driver a.declared ≡ refusal_of_entry a.self.now.entries a.kind None a.driver c.in-Some.signature = refusal_of_own-entry a.kind a.self.now a.driver a.declared c.in-Some.signature _ _ held room c.in-Some.is used in
    rw same c.add.ensures.first_refusal

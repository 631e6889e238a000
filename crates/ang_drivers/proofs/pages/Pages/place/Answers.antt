use Rattle.std.proofs.Common.{◌≤◌, ◌/◌, ℕ, arith}
use Rattle.ang_drivers.specs.Pages.{objects_in}
use Rattle.ang_drivers.proofs.Paging.{own_page, own_place}
use Rattle.ang_drivers.proofs.pages.Pages.place.Goals as goal

-- each key up to this one is that of a live object
pub returns-then-key-self : goal.returns-then-key-self
returns-then-key-self g c =
    let s = c.args.self.now in
    let k = c.args.key in
    let before = c.if-key-self.true in
    let each = λ (q : ℕ) (le : q ≤ k). s.led q (omega (arith, le, before)) in
    let page = own_page objects_in s.next k s.pages.items s.paged each in
    record { there = record { page = page; there = λ d. own_place objects_in s.next k (k / 64) s.pages.items d s.paged page each } }

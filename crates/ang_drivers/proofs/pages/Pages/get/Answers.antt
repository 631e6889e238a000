use Rattle.std.proofs.Common.{◌/◌}
use Rattle.ang_drivers.specs.Pages.{objects_in}
use Rattle.ang_drivers.proofs.Paging.{IsSpot, page_from, page_to, spot_found}
use Rattle.ang_drivers.proofs.pages.Pages.get.Goals as goal

pub returns : goal.returns
returns g c =
    let s = c.args.self.now in
    let t = c.place-place.ensures.there in
    let at = c.place-place.result in
    let p = c.index.result.now in
    let x = c.index-2.result.now in
    let spot : IsSpot objects_in s.next c.args.key (c.args.key / 64) at.page at.index s.pages.items p x =
    record { home = record { paged = s.paged; from = page_from c.args.key; to = page_to c.args.key; page = t.page; there = t.there; page_is = c.index.ensures }; object_is = c.index-2.ensures } in
    record { exact = spot_found spot }

use Rattle.std.proofs.Common.{refl, sym, ap, ◌∙◌, arith, ◌-◌, nat_lt, ◌/◌, ℕ, Vec, Global}
use Rattle.std.proofs.lemmas.Bool.{lt-ltb, le-ltb}
use Rattle.std.specs.Vec.{with_item}
use Rattle.ang_host.specs.State.{count_of}
use Rattle.ang_drivers.specs.declared.pages.Counted.{Counted}
use Rattle.ang_drivers.specs.Pages.{objects_in, is_blank}
use Rattle.ang_drivers.specs.PagesHeld.{entries_of}
use Rattle.ang_drivers.proofs.Ledgers.{by_key-kept, by_key-less, read_at}
use Rattle.ang_drivers.proofs.Paging.{IsSpot, page_from, page_to, spot_found, spot_written, spot_kept, home_recounted, each_kept}
use Rattle.ang_drivers.proofs.pages.Pages.count_down.Goals as goal

pub invariant_of-self : goal.invariant_of-self
invariant_of-self g c =
    let s = c.args.self.now in
    let k = c.args.key in
    let t = c.place-place.ensures.there in
    let at = c.place-place.result in
    let p = c.index_mut.result.now in
    let x = c.index_mut-2.result.now in
    let spot : IsSpot objects_in s.next k (k / 64) at.page at.index s.pages.items p x =
    record { home = record { paged = s.paged; from = page_from k; to = page_to k; page = t.page; there = t.there; page_is = c.index_mut.ensures.value }; object_is = c.index_mut-2.ensures.value } in
    let w : Counted g.row.T.Denot = record { count = x.1.count - 1; value = x.1.value } in
    let p' : ℕ × Vec (ℕ × Counted g.row.T.Denot) Global = (p.0, with_item p.1 at.index (x.0, w)) in
    record {
      paged = spot_kept spot p' w refl refl;
      counted = home_recounted spot.home is_blank p' refl ∙ s.counted;
      few = s.few;
      led = each_kept s.leading k (entries_of s) _ w (spot_written spot p' w refl) s.led;
    }

pub returns-then-object-gt1-clause-exact : goal.returns-then-object-gt1-clause-exact
returns-then-object-gt1-clause-exact g c =
    let s = c.args.self.now in
    let k = c.args.key in
    let t = c.place-place.ensures.there in
    let at = c.place-place.result in
    let p = c.index_mut.result.now in
    let x = c.index_mut-2.result.now in
    let spot : IsSpot objects_in s.next k (k / 64) at.page at.index s.pages.items p x =
    record { home = record { paged = s.paged; from = page_from k; to = page_to k; page = t.page; there = t.there; page_is = c.index_mut.ensures.value }; object_is = c.index_mut-2.ensures.value } in
    let read = ap count_of (read_at (λ (o : Counted g.row.T.Denot). o.count) (entries_of s) k x.1 (spot_found spot)) in
    sym (ap (λ n. nat_lt 1 n) read ∙ lt-ltb 1 x.1.count (omega (arith, c.if-object-gt1.true)))

pub returns-then-object-gt1-clause-counts : goal.returns-then-object-gt1-clause-counts
returns-then-object-gt1-clause-counts g c =
    let s = c.args.self.now in
    let k = c.args.key in
    let t = c.place-place.ensures.there in
    let at = c.place-place.result in
    let p = c.index_mut.result.now in
    let x = c.index_mut-2.result.now in
    let spot : IsSpot objects_in s.next k (k / 64) at.page at.index s.pages.items p x =
    record { home = record { paged = s.paged; from = page_from k; to = page_to k; page = t.page; there = t.there; page_is = c.index_mut.ensures.value }; object_is = c.index_mut-2.ensures.value } in
    let w : Counted g.row.T.Denot = record { count = x.1.count - 1; value = x.1.value } in
    let p' : ℕ × Vec (ℕ × Counted g.row.T.Denot) Global = (p.0, with_item p.1 at.index (x.0, w)) in
    by_key-less (entries_of s) _ k x.1 w (spot_found spot) (spot_written spot p' w refl) (λ (o : Counted g.row.T.Denot). o.count) refl

pub returns-then-object-gt1-clause-values : goal.returns-then-object-gt1-clause-values
returns-then-object-gt1-clause-values g c =
    let s = c.args.self.now in
    let k = c.args.key in
    let t = c.place-place.ensures.there in
    let at = c.place-place.result in
    let p = c.index_mut.result.now in
    let x = c.index_mut-2.result.now in
    let spot : IsSpot objects_in s.next k (k / 64) at.page at.index s.pages.items p x =
    record { home = record { paged = s.paged; from = page_from k; to = page_to k; page = t.page; there = t.there; page_is = c.index_mut.ensures.value }; object_is = c.index_mut-2.ensures.value } in
    let w : Counted g.row.T.Denot = record { count = x.1.count - 1; value = x.1.value } in
    let p' : ℕ × Vec (ℕ × Counted g.row.T.Denot) Global = (p.0, with_item p.1 at.index (x.0, w)) in
    by_key-kept (entries_of s) _ k x.1 w (spot_found spot) (spot_written spot p' w refl) (λ (o : Counted g.row.T.Denot). o.value) refl

pub invariant_of-self-else-object-gt1 : goal.invariant_of-self-else-object-gt1
invariant_of-self-else-object-gt1 g c =
    let s = c.args.self.now in
    let k = c.args.key in
    let t = c.place-place.ensures.there in
    let at = c.place-place.result in
    let p = c.index_mut.result.now in
    let x = c.index_mut-2.result.now in
    let spot : IsSpot objects_in s.next k (k / 64) at.page at.index s.pages.items p x =
    record { home = record { paged = s.paged; from = page_from k; to = page_to k; page = t.page; there = t.there; page_is = c.index_mut.ensures.value }; object_is = c.index_mut-2.ensures.value } in
    let w : Counted g.row.T.Denot = x.1 in
    let p' : ℕ × Vec (ℕ × Counted g.row.T.Denot) Global = (p.0, with_item p.1 at.index (x.0, w)) in
    record {
      paged = spot_kept spot p' w refl refl;
      counted = home_recounted spot.home is_blank p' refl ∙ s.counted;
      few = s.few;
      led = each_kept s.leading k (entries_of s) _ w (spot_written spot p' w refl) s.led;
    }

pub returns-clause-exact : goal.returns-clause-exact
returns-clause-exact g c =
    let s = c.args.self.now in
    let k = c.args.key in
    let t = c.place-place.ensures.there in
    let at = c.place-place.result in
    let p = c.index_mut.result.now in
    let x = c.index_mut-2.result.now in
    let spot : IsSpot objects_in s.next k (k / 64) at.page at.index s.pages.items p x =
    record { home = record { paged = s.paged; from = page_from k; to = page_to k; page = t.page; there = t.there; page_is = c.index_mut.ensures.value }; object_is = c.index_mut-2.ensures.value } in
    let read = ap count_of (read_at (λ (o : Counted g.row.T.Denot). o.count) (entries_of s) k x.1 (spot_found spot)) in
    sym (ap (λ n. nat_lt 1 n) read ∙ le-ltb 1 x.1.count (omega (arith, c.if-object-gt1.false)))

pub returns-clause-counts : goal.returns-clause-counts
returns-clause-counts g c =
    let s = c.args.self.now in
    let k = c.args.key in
    let t = c.place-place.ensures.there in
    let at = c.place-place.result in
    let p = c.index_mut.result.now in
    let x = c.index_mut-2.result.now in
    let spot : IsSpot objects_in s.next k (k / 64) at.page at.index s.pages.items p x =
    record { home = record { paged = s.paged; from = page_from k; to = page_to k; page = t.page; there = t.there; page_is = c.index_mut.ensures.value }; object_is = c.index_mut-2.ensures.value } in
    let w : Counted g.row.T.Denot = x.1 in
    let p' : ℕ × Vec (ℕ × Counted g.row.T.Denot) Global = (p.0, with_item p.1 at.index (x.0, w)) in
    by_key-kept (entries_of s) _ k x.1 w (spot_found spot) (spot_written spot p' w refl) (λ (o : Counted g.row.T.Denot). o.count) refl

pub returns-clause-values : goal.returns-clause-values
returns-clause-values g c =
    let s = c.args.self.now in
    let k = c.args.key in
    let t = c.place-place.ensures.there in
    let at = c.place-place.result in
    let p = c.index_mut.result.now in
    let x = c.index_mut-2.result.now in
    let spot : IsSpot objects_in s.next k (k / 64) at.page at.index s.pages.items p x =
    record { home = record { paged = s.paged; from = page_from k; to = page_to k; page = t.page; there = t.there; page_is = c.index_mut.ensures.value }; object_is = c.index_mut-2.ensures.value } in
    let w : Counted g.row.T.Denot = x.1 in
    let p' : ℕ × Vec (ℕ × Counted g.row.T.Denot) Global = (p.0, with_item p.1 at.index (x.0, w)) in
    by_key-kept (entries_of s) _ k x.1 w (spot_found spot) (spot_written spot p' w refl) (λ (o : Counted g.row.T.Denot). o.value) refl

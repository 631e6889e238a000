use Rattle.std.proofs.Common.{◌≡◌, ◌/◌, slice_set, vec_len, refl, ap, ◌∙◌, arith, ℕ, Vec, Global}
use Rattle.ang_drivers.specs.declared.pages.Counted.{Counted}
use Rattle.ang_drivers.specs.Pages.{objects_in, is_blank}
use Rattle.ang_drivers.specs.PagesHeld.{entries_of}
use Rattle.ang_drivers.proofs.Ledgers.{by_key-removed}
use Rattle.ang_drivers.proofs.Paging.{IsHome, at, page_from, page_to, home_removed, home_left, home_within, home_counted, ones, thinned_pages, thinned_all, none_if_zero, some_if, each_before}
use Rattle.ang_drivers.proofs.pages.Pages.take_out.Goals as goal

pub remove_from-is_gone-requires : goal.remove_from-is_gone-requires
remove_from-is_gone-requires g c =
    let s = c.args.self.now in
    let k = c.args.key in
    let t = c.place-place.ensures.there in
    let at = c.place-place.result in
    let p = c.index_mut.result.now in
    let home : IsHome objects_in s.next k (k / 64) at.page at.index s.pages.items p =
    record { paged = s.paged; from = page_from k; to = page_to k; page = t.page; there = t.there; page_is = c.index_mut.ensures.value } in
    record { within = omega (arith, home_within home, p.1.ok.0) }

pub thinned-self-requires : goal.thinned-self-requires
thinned-self-requires g c =
    let s = c.args.self.now in
    let k = c.args.key in
    let t = c.place-place.ensures.there in
    let at = c.place-place.result in
    let p = c.index_mut.result.now in
    let home : IsHome objects_in s.next k (k / 64) at.page at.index s.pages.items p =
    record { paged = s.paged; from = page_from k; to = page_to k; page = t.page; there = t.there; page_is = c.index_mut.ensures.value } in
    let p' : ℕ × Vec (ℕ × Counted g.row.T.Denot) Global = (p.0, c.remove_from-is_gone.new.page) in
    let counted = home_counted home is_blank p' in
    let some : ones (is_blank p) ≡ 0 = ap ones (some_if (vec_len p.1) p.1.items p.1.ok.0 (omega (arith, home_within home))) in
    let gone : ones c.remove_from-is_gone.result ≡ ones (is_blank p') = ap ones c.remove_from-is_gone.ensures.gone in
    record { counted = omega (arith, counted, some, gone, c.more_if-blank.ensures.exact, s.counted) }

pub invariant_of-self : goal.invariant_of-self
invariant_of-self g c =
    let s = c.args.self.now in
    let k = c.args.key in
    let t = c.place-place.ensures.there in
    let i = c.place-place.result in
    let p = c.index_mut.result.now in
    let home : IsHome objects_in s.next k (k / 64) i.page i.index s.pages.items p =
    record { paged = s.paged; from = page_from k; to = page_to k; page = t.page; there = t.there; page_is = c.index_mut.ensures.value } in
    let p' : ℕ × Vec (ℕ × Counted g.row.T.Denot) Global = (p.0, c.remove_from-is_gone.new.page) in
    let thin = c.thinned-self.ensures.thinned in
    let same = thinned_all objects_in is_blank (λ v e. none_if_zero (vec_len v.1) v.1.items v.1.ok.0 e) (slice_set s.pages.items i.page p') c.thinned-self.new.pages.items thin.0 thin.1 in
    let least = c.least-self.ensures in
    record {
      paged = thinned_pages objects_in is_blank s.next (slice_set s.pages.items i.page p') c.thinned-self.new.pages.items thin.0 thin.1 (home_left home p' refl c.remove_from-is_gone.ensures.removed);
      counted = c.thinned-self.ensures.counted;
      few = c.thinned-self.ensures.few;
      led =
          each_before s.leading k c.least-self.result (entries_of s) _ (λ q. ap (at q) same ∙ home_removed home p' c.remove_from-is_gone.ensures.removed q)
          least.among least.before s.led;
    }

pub returns-clause-counts : goal.returns-clause-counts
returns-clause-counts g c =
    let s = c.args.self.now in
    let k = c.args.key in
    let t = c.place-place.ensures.there in
    let i = c.place-place.result in
    let p = c.index_mut.result.now in
    let home : IsHome objects_in s.next k (k / 64) i.page i.index s.pages.items p =
    record { paged = s.paged; from = page_from k; to = page_to k; page = t.page; there = t.there; page_is = c.index_mut.ensures.value } in
    let p' : ℕ × Vec (ℕ × Counted g.row.T.Denot) Global = (p.0, c.remove_from-is_gone.new.page) in
    let thin = c.thinned-self.ensures.thinned in
    let same = thinned_all objects_in is_blank (λ v e. none_if_zero (vec_len v.1) v.1.items v.1.ok.0 e) (slice_set s.pages.items i.page p') c.thinned-self.new.pages.items thin.0 thin.1 in
    by_key-removed (λ (o : Counted g.row.T.Denot). o.count) (entries_of s) _ k (λ q. ap (at q) same ∙ home_removed home p' c.remove_from-is_gone.ensures.removed q)

pub returns-clause-values : goal.returns-clause-values
returns-clause-values g c =
    let s = c.args.self.now in
    let k = c.args.key in
    let t = c.place-place.ensures.there in
    let i = c.place-place.result in
    let p = c.index_mut.result.now in
    let home : IsHome objects_in s.next k (k / 64) i.page i.index s.pages.items p =
    record { paged = s.paged; from = page_from k; to = page_to k; page = t.page; there = t.there; page_is = c.index_mut.ensures.value } in
    let p' : ℕ × Vec (ℕ × Counted g.row.T.Denot) Global = (p.0, c.remove_from-is_gone.new.page) in
    let thin = c.thinned-self.ensures.thinned in
    let same = thinned_all objects_in is_blank (λ v e. none_if_zero (vec_len v.1) v.1.items v.1.ok.0 e) (slice_set s.pages.items i.page p') c.thinned-self.new.pages.items thin.0 thin.1 in
    by_key-removed (λ (o : Counted g.row.T.Denot). o.value) (entries_of s) _ k (λ q. ap (at q) same ∙ home_removed home p' c.remove_from-is_gone.ensures.removed q)

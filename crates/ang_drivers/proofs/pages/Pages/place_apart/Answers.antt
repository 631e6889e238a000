use Rattle.std.proofs.Common.{◌*◌, ◌+◌, ◌/◌, ◌≡◌, min, is_some, IsSome, slice_index_or, sym, ap, ◌∙◌, subst}
use Rattle.std.specs.Ordering.{nat_cmp}
use Rattle.std.specs.Map.{lookup}
use Rattle.std.specs.BTreeMap.{is_at}
use Rattle.std.proofs.lemmas.List.{get_or_default}
use Rattle.ang_drivers.specs.Pages.{objects_in, IsRising, IsEntryAt}
use Rattle.ang_drivers.proofs.Paging.{page_from, page_to, page_listed, page_there, numbers, in_page}
use Rattle.ang_drivers.proofs.pages.Pages.place_apart.Goals as goal

pub index_of-page-requires-clause-held : goal.index_of-page-requires-clause-held
index_of-page-requires-clause-held g c =
    let s = c.args.self.now in
    let k = c.args.key in
    subst (λ es. IsSome (lookup (is_at (nat_cmp (k / 64))) es)) (sym c.deref.ensures.value)
    (page_listed objects_in 0 s.next k (k / 64) s.pages.items s.paged (page_from k) (page_to k) c.requires.held)

pub index_of-page-requires-clause-rises : goal.index_of-page-requires-clause-rises
index_of-page-requires-clause-rises g c =
    let s = c.args.self.now in
    (0, s.next / 64 + 1, subst (IsRising 0 (s.next / 64 + 1)) (sym c.deref.ensures.value) (numbers objects_in 0 s.next s.pages.items s.paged))

pub index_of-requires-clause-held : goal.index_of-requires-clause-held
index_of-requires-clause-held g c =
    let s = c.args.self.now in
    let k = c.args.key in
    let i = c.index_of-page.result in
    let p = c.index.result.now in
    let page : IsEntryAt s.pages.items (k / 64) i = subst (λ es. IsEntryAt es (k / 64) i) c.deref.ensures.value c.index_of-page.ensures.there in
    let same : objects_in (slice_index_or s.pages.items i p).1 ≡ c.deref-2.result.now = ap (λ e. objects_in e.1) (sym c.index.ensures) ∙ sym c.deref-2.ensures.value in
    ap (λ es. is_some (lookup (is_at (nat_cmp k)) es)) (sym same)
    ∙ ap is_some (sym (in_page objects_in 0 s.next k (k / 64) i s.pages.items p s.paged (page_from k) (page_to k) page))
    ∙ c.requires.held

pub index_of-requires-clause-rises : goal.index_of-requires-clause-rises
index_of-requires-clause-rises g c =
    let s = c.args.self.now in
    let k = c.args.key in
    let i = c.index_of-page.result in
    let p = c.index.result.now in
    let page : IsEntryAt s.pages.items (k / 64) i = subst (λ es. IsEntryAt es (k / 64) i) c.deref.ensures.value c.index_of-page.ensures.there in
    let same : objects_in (slice_index_or s.pages.items i p).1 ≡ c.deref-2.result.now = ap (λ e. objects_in e.1) (sym c.index.ensures) ∙ sym c.deref-2.ensures.value in (
      64 * (k / 64),
      min (64 * (k / 64) + 64) s.next,
      subst (λ es. IsRising (64 * (k / 64)) (min (64 * (k / 64) + 64) s.next) es) same (page_there objects_in 0 s.next (k / 64) i s.pages.items p s.paged page),
    )

pub returns : goal.returns
returns g c =
    let s = c.args.self.now in
    let k = c.args.key in
    let i = c.index_of-page.result in
    let p = c.index.result.now in
    let page : IsEntryAt s.pages.items (k / 64) i = subst (λ es. IsEntryAt es (k / 64) i) c.deref.ensures.value c.index_of-page.ensures.there in
    let same : objects_in (slice_index_or s.pages.items i p).1 ≡ c.deref-2.result.now = ap (λ e. objects_in e.1) (sym c.index.ensures) ∙ sym c.deref-2.ensures.value in
    record {
      there = record {
        page = page;
        there = λ d. subst (λ es. IsEntryAt es k c.index_of.result) (sym same ∙ ap (λ e. objects_in e.1) (get_or_default s.pages.items i p d page.0)) c.index_of.ensures.there;
      };
    }

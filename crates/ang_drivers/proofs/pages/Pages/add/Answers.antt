use Rattle.std.proofs.Common.{ℕ, ◌-◌, ◌/◌, ◌≡◌, nat_eq, length, vec_len, Vec, Global, refl, sym, ap, ◌∙◌, subst, arith}
use Rattle.ang_drivers.specs.declared.pages.Counted.{Counted}
use Rattle.ang_drivers.specs.Pages.{objects_in, is_blank, IsEntryAt, HasEachBelow}
use Rattle.ang_drivers.specs.PagesHeld.{entries_of}
use Rattle.ang_drivers.proofs.Ledgers.{on_err}
use Rattle.ang_drivers.proofs.Paging.{IsOpen, open_pushed, open_kept, open_same, open_all, open_counted, open_recounted, ones, page_from, page_to, pushed_some, each_kept}
use Rattle.ang_drivers.proofs.pages.Pages.add.Goals as goal

pub invariant_of-self : goal.invariant_of-self
invariant_of-self g c =
    let s = c.args.self.now in
    let n = s.next / 64 in
    let i = c.len-last.result - 1 in
    let p = c.index_mut.result.now in
    let page : IsEntryAt s.pages.items n i = subst (λ m. IsEntryAt s.pages.items n (m - 1)) (sym (c.len-last.ensures ∙ s.pages.ok.0)) c.requires.begun in
    let opened : IsOpen objects_in s.next n i s.pages.items p = record { paged = s.paged; from = page_from s.next; to = page_to s.next; page = page; page_is = c.index_mut.ensures.value } in
    let p' : ℕ × Vec (ℕ × Counted g.row.T.Denot) Global = (p.0, c.add_to.new.page) in
    let same = c.in_err-was_blank.ensures.unchanged in
    let blank : is_blank p' ≡ is_blank p = ap (λ m. nat_eq m 0) (c.add_to.new.page.ok.0 ∙ ap length same ∙ sym p.1.ok.0) in
    record {
      paged = open_same opened p' refl same;
      counted = open_recounted opened is_blank p' blank ∙ s.counted;
      few = s.few;
      led = subst (HasEachBelow s.leading) (sym (open_all opened p' same)) s.led;
    }

pub returns-in_err-was_blank-clause-unchanged : goal.returns-in_err-was_blank-clause-unchanged
returns-in_err-was_blank-clause-unchanged g c =
    let s = c.args.self.now in
    let n = s.next / 64 in
    let i = c.len-last.result - 1 in
    let p = c.index_mut.result.now in
    let page : IsEntryAt s.pages.items n i = subst (λ m. IsEntryAt s.pages.items n (m - 1)) (sym (c.len-last.ensures ∙ s.pages.ok.0)) c.requires.begun in
    let opened : IsOpen objects_in s.next n i s.pages.items p = record { paged = s.paged; from = page_from s.next; to = page_to s.next; page = page; page_is = c.index_mut.ensures.value } in
    let p' : ℕ × Vec (ℕ × Counted g.row.T.Denot) Global = (p.0, c.add_to.new.page) in
    on_err _ (open_all opened p' c.in_err-was_blank.ensures.unchanged)

pub invariant_of-self-2 : goal.invariant_of-self-2
invariant_of-self-2 g c =
    let s = c.args.self.now in
    let n = s.next / 64 in
    let i = c.len-last.result - 1 in
    let p = c.index_mut.result.now in
    let page : IsEntryAt s.pages.items n i = subst (λ m. IsEntryAt s.pages.items n (m - 1)) (sym (c.len-last.ensures ∙ s.pages.ok.0)) c.requires.begun in
    let opened : IsOpen objects_in s.next n i s.pages.items p = record { paged = s.paged; from = page_from s.next; to = page_to s.next; page = page; page_is = c.index_mut.ensures.value } in
    let p' : ℕ × Vec (ℕ × Counted g.row.T.Denot) Global = (p.0, c.add_to.new.page) in
    let added = c.in_ok-was_blank.ensures.added in
    let counted = open_counted opened is_blank p' in
    let some : ones (is_blank p') ≡ 0 = ap ones (pushed_some (vec_len p'.1) p'.1.items p.1.items (s.next, c.args.object) p'.1.ok.0 added) in
    let was : ones c.in_ok-was_blank.was_blank ≡ ones (is_blank p) = ap ones c.in_ok-was_blank.ensures.was in
    let fewer = c.fewer_if-self.ensures.exact in
    record {
      paged = open_kept opened p' c.args.object refl added;
      counted = omega (arith, counted, some, was, fewer, s.counted);
      few = omega (arith, s.few, fewer);
      led = each_kept s.leading s.next (entries_of s) _ c.args.object (open_pushed opened p' c.args.object added) s.led;
    }

pub returns-clause-pushed : goal.returns-clause-pushed
returns-clause-pushed g c =
    let s = c.args.self.now in
    let n = s.next / 64 in
    let i = c.len-last.result - 1 in
    let p = c.index_mut.result.now in
    let page : IsEntryAt s.pages.items n i = subst (λ m. IsEntryAt s.pages.items n (m - 1)) (sym (c.len-last.ensures ∙ s.pages.ok.0)) c.requires.begun in
    let opened : IsOpen objects_in s.next n i s.pages.items p = record { paged = s.paged; from = page_from s.next; to = page_to s.next; page = page; page_is = c.index_mut.ensures.value } in
    let p' : ℕ × Vec (ℕ × Counted g.row.T.Denot) Global = (p.0, c.add_to.new.page) in
    record { next = refl; found = open_pushed opened p' c.args.object c.in_ok-was_blank.ensures.added }

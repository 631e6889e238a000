use Rattle.std.proofs.Common.{◌≡◌, ◌+◌, ◌/◌, ◌++◌, ◌∷◌, [], false, vec_len, count_by, refl, sym, ap, ◌∙◌, subst, arith}
use Rattle.ang_drivers.specs.Pages.{objects_in, is_blank, ArePages}
use Rattle.ang_drivers.specs.PagesHeld.{entries_of}
use Rattle.ang_drivers.proofs.Paging.{all, at, begun_found, begun_kept, count-push, half_grows, page_from, page_to, pushed_some, each_kept}
use Rattle.ang_drivers.proofs.pages.Pages.begin.Goals as goal

pub invariant_of-self-2 : goal.invariant_of-self-2
invariant_of-self-2 g c =
    let s = c.args.self.now in
    let v = c.add_to.new.page in
    let one : objects_in v ≡ (s.next, c.args.object) ∷ [] = c.in_ok-add_to.ensures.added ∙ ap (λ es. es ++ (s.next, c.args.object) ∷ []) c.new-page.ensures.items in
    let some : is_blank (s.next / 64, v) ≡ false = pushed_some (vec_len v) v.items [] (s.next, c.args.object) v.ok.0 one in
    let grows = half_grows (vec_len s.pages) (vec_len c.push.new.self) c.in_ok-push.ensures.len in
    record {
      paged =
          subst (ArePages objects_in 0 (s.next + 1)) (sym c.in_ok-push.ensures.items)
          (begun_kept objects_in s.next (s.next / 64) s.pages.items v c.args.object s.paged c.requires.ahead (page_from s.next) (page_to s.next) one);
      counted = ap (count_by is_blank) c.in_ok-push.ensures.items ∙ count-push is_blank s.pages.items (s.next / 64, v) some ∙ s.counted;
      few = omega (arith, s.few, grows);
      led =
          each_kept s.leading s.next (entries_of s) _ c.args.object
          (λ q. ap (λ ps. at q (all objects_in ps)) c.in_ok-push.ensures.items ∙ begun_found objects_in s.next (s.next / 64) s.pages.items v c.args.object s.paged one q) s.led;
    }

pub returns-clause-pushed : goal.returns-clause-pushed
returns-clause-pushed g c =
    let s = c.args.self.now in
    let v = c.add_to.new.page in
    let one : objects_in v ≡ (s.next, c.args.object) ∷ [] = c.in_ok-add_to.ensures.added ∙ ap (λ es. es ++ (s.next, c.args.object) ∷ []) c.new-page.ensures.items in
    record {
      next = refl;
      found = λ q. ap (λ ps. at q (all objects_in ps)) c.in_ok-push.ensures.items ∙ begun_found objects_in s.next (s.next / 64) s.pages.items v c.args.object s.paged one q;
    }

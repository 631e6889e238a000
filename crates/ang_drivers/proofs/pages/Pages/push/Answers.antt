use Rattle.ang_drivers.specs.declared.pages.Counted.{Counted}
use Rattle.ang_drivers.specs.PagesHeld.{entries_of}
use Rattle.ang_drivers.proofs.Ledgers.{by_key-inserted}
use Rattle.ang_drivers.proofs.Paging.{each_more}
use Rattle.ang_drivers.proofs.pages.Pages.push.Goals as goal

pub invariant_of-self : goal.invariant_of-self
invariant_of-self g c =
    let s = c.add_next.new.self in
    record {
      paged = s.paged;
      counted = s.counted;
      few = s.few;
      led =
          each_more s.leading c.args.self.now.next c.more_with-self.result (entries_of c.args.self.now) _ c.args.object c.in_ok-add_next.ensures.pushed.found s.led
          c.more_with-self.ensures.exact;
    }

pub returns-clause-counts : goal.returns-clause-counts
returns-clause-counts g c =
    by_key-inserted (λ (x : Counted g.row.T.Denot). x.count) (entries_of c.args.self.now) _ c.args.self.now.next c.args.object c.in_ok-add_next.ensures.pushed.found

pub returns-clause-values : goal.returns-clause-values
returns-clause-values g c =
    by_key-inserted (λ (x : Counted g.row.T.Denot). x.value) (entries_of c.args.self.now) _ c.args.self.now.next c.args.object c.in_ok-add_next.ensures.pushed.found

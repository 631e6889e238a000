use Rattle.std.proofs.Common.{sym, ◌∙◌, arith, ap}
use Rattle.std.specs.FinMap as map
use Rattle.ang_drivers.specs.declared.pages.Counted.{Counted}
use Rattle.ang_drivers.specs.Objects.{by_key}
use Rattle.ang_drivers.specs.PagesHeld.{entries_of}
use Rattle.ang_drivers.proofs.Ledgers.{AreCounted, unused-none, counted_pushed, few_pushed, ledger_kept, on_err}
use Rattle.ang_drivers.proofs.objects.Objects.insert.Goals as goal

pub push-requires : goal.push-requires
push-requires g c =
    let s = c.args.self.now in
    record { room = omega (arith, c.requires.asking_left, s.few_asked) }

pub invariant_of-self : goal.invariant_of-self
invariant_of-self g c =
    let s = c.args.self.now in
    let done = c.push.ensures in
    let counted : AreCounted (by_key (λ (o : Counted g.row.T.Denot). o.count) (entries_of s.live)) s.live.next s.added s.released =
    record { sums = s.sums; positive = s.positive; unused = s.unused } in
    let new = counted_pushed (λ (o : Counted g.row.T.Denot). o.count) (entries_of s.live) _ c.push.result _ s.live.next s.added s.released done.next done.counts done.kept done.unchanged counted in
    record {
      sums = new.sums;
      positive = new.positive;
      unused = new.unused;
      makings = few_pushed c.push.result _ s.live.next s.asked done.next done.kept c.requires.asking_left;
      few_asked = s.few_asked;
      few_added = s.few_added;
    }

pub returns-in_err-key-clause-unchanged : goal.returns-in_err-key-clause-unchanged
returns-in_err-key-clause-unchanged g c =
    let s = c.args.self.now in
    on_err _
    (ledger_kept (λ (o : Counted g.row.T.Denot). o.count) (λ (o : Counted g.row.T.Denot). o.value) (entries_of s.live) _ _ s.live.next s.asked s.added s.released c.in_err-key.ensures.unchanged
    c.in_err-key.ensures.kept)

pub returns-clause-inserted : goal.returns-clause-inserted
returns-clause-inserted g c =
    let s = c.args.self.now in
    let counts = by_key (λ (o : Counted g.row.T.Denot). o.count) (entries_of s.live) in
    let key = c.in_ok-key.ensures.key in
    record {
      key = key;
      unused = unused-none _ s.live.next c.in_ok-key.key s.positive s.unused (omega (arith, key));
      counts = c.in_ok-key.ensures.counts ∙ ap (λ k. map.insert counts k 1) (sym key);
      table = λ i. record { next = c.in_ok-key.ensures.next i; values = c.in_ok-key.ensures.values i };
      tally = λ i. record { asked = s.asked; made = c.in_ok-key.ensures.next i; added = s.added; released = s.released };
    }

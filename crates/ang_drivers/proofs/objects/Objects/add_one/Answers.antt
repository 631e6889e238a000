use Rattle.std.proofs.Common.{arith, ◌+◌}
use Rattle.ang_host.specs.State.{count_at}
use Rattle.ang_drivers.specs.declared.pages.Counted.{Counted}
use Rattle.ang_drivers.specs.Objects.{by_key}
use Rattle.ang_drivers.specs.PagesHeld.{entries_of}
use Rattle.ang_drivers.proofs.Ledgers.{is_held, stands, counted-added, count-bound, recounted}
use Rattle.ang_drivers.proofs.objects.Objects.add_one.Goals as goal

pub count_up-requires-clause-held : goal.count_up-requires-clause-held
count_up-requires-clause-held g c = is_held (λ (o : Counted g.row.T.Denot). o.count) _ _ c.requires.held.0 c.requires.held.1

pub count_up-requires-clause-room : goal.count_up-requires-clause-room
count_up-requires-clause-room g c =
    let s = c.args.self.now in
    let counts = by_key (λ (o : Counted g.row.T.Denot). o.count) (entries_of s.live) in
    let n = count_at counts c.args.key in
    let there = stands counts c.args.key c.requires.held.0 c.requires.held.1 in
    let bound = count-bound counts c.args.key n s.live.next s.added s.released there (record { sums = s.sums; positive = s.positive; unused = s.unused }) in
    omega (arith, bound, s.makings, s.few_asked, s.few_added)

pub invariant_of-self : goal.invariant_of-self
invariant_of-self g c =
    let s = c.args.self.now in
    let counts = by_key (λ (o : Counted g.row.T.Denot). o.count) (entries_of s.live) in
    let n = count_at counts c.args.key in
    let there = stands counts c.args.key c.requires.held.0 c.requires.held.1 in
    let new = recounted _ _ _ _ _ c.count_up.ensures.next
    (counted-added counts _ c.args.key n s.live.next s.added s.released there c.count_up.ensures.counts (record { sums = s.sums; positive = s.positive; unused = s.unused })) in
    record { sums = new.sums; positive = new.positive; unused = new.unused; makings = omega (arith, s.makings, c.count_up.ensures.next); few_asked = s.few_asked; few_added = omega (arith, s.few_added, c.if-self-eq-LIMIT.false) }

pub returns : goal.returns
returns g c =
    let s = c.args.self.now in
    let counts = by_key (λ (o : Counted g.row.T.Denot). o.count) (entries_of s.live) in
    let n = count_at counts c.args.key in
    let there = stands counts c.args.key c.requires.held.0 c.requires.held.1 in
    record {
      added = (
        n,
        there,
        c.count_up.ensures.counts,
        λ i. record { next = c.count_up.ensures.next i; values = c.count_up.ensures.values i },
        λ i. record { asked = s.asked; made = c.count_up.ensures.next i; added = s.added + 1; released = s.released },
      );
    }

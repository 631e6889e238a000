use Rattle.std.proofs.Common.{sym, ◌∙◌, ap, arith, Some, ◌≡◌, ◌+◌, ◌-◌, ◌<◌}
use Rattle.std.proofs.lemmas.Bool.{ltb-true, ltb-false}
use Rattle.std.specs.FinMap as map
use Rattle.ang_host.specs.State.{count_at}
use Rattle.ang_drivers.specs.declared.pages.Counted.{Counted}
use Rattle.ang_drivers.specs.Objects.{by_key}
use Rattle.ang_drivers.specs.PagesHeld.{entries_of}
use Rattle.ang_drivers.proofs.Ledgers.{is_held, stands, counted-released, counted-ended, recounted}
use Rattle.ang_drivers.proofs.objects.Objects.release_one.Goals as goal

pub count_down-requires : goal.count_down-requires
count_down-requires g c = record {
  held = is_held (λ (o : Counted g.row.T.Denot). o.count) _ _ c.requires.held.0 c.requires.held.1;
}

pub invariant_of-self : goal.invariant_of-self
invariant_of-self g c =
    let s = c.args.self.now in
    let counts = by_key (λ (o : Counted g.row.T.Denot). o.count) (entries_of s.live) in
    let n = count_at counts c.args.key in
    let there = stands counts c.args.key c.requires.held.0 c.requires.held.1 in
    let more : 1 < n = ltb-true 1 n (sym c.if-count_down.ensures.exact) in
    let new = recounted _ _ _ _ _ c.if-count_down.ensures.next
    (counted-released counts _ c.args.key n s.live.next s.added s.released there more c.if-count_down.ensures.counts (record { sums = s.sums; positive = s.positive; unused = s.unused })) in
    record { sums = new.sums; positive = new.positive; unused = new.unused; makings = omega (arith, s.makings, c.if-count_down.ensures.next); few_asked = s.few_asked; few_added = s.few_added }

pub returns-then-count_down : goal.returns-then-count_down
returns-then-count_down g c =
    let s = c.args.self.now in
    let counts = by_key (λ (o : Counted g.row.T.Denot). o.count) (entries_of s.live) in
    let n = count_at counts c.args.key in
    let there = stands counts c.args.key c.requires.held.0 c.requires.held.1 in
    let more : 1 < n = ltb-true 1 n (sym c.if-count_down.ensures.exact) in
    let two : n ≡ (n - 2) + 2 = omega (arith, more) in
    let one : n - 1 ≡ (n - 2) + 1 = omega (arith, more) in
    record {
      released = (
        n - 2,
        there ∙ ap Some two,
        c.if-count_down.ensures.counts ∙ ap (λ v. map.insert counts c.args.key v) one,
        λ i. record { next = c.if-count_down.ensures.next i; values = c.if-count_down.ensures.values i },
        λ i. record { asked = s.asked; made = c.if-count_down.ensures.next i; added = s.added; released = s.released + 1 },
      );
    }

-- the object is still there
pub take_out-requires : goal.take_out-requires
take_out-requires g c =
    let s = c.args.self.now in
    let counts = by_key (λ (o : Counted g.row.T.Denot). o.count) (entries_of s.live) in
    let n = count_at counts c.args.key in
    let there = stands counts c.args.key c.requires.held.0 c.requires.held.1 in
    record { held = is_held (λ (o : Counted g.row.T.Denot). o.count) _ c.args.key n (ap (λ m. map.get m c.args.key) c.if-count_down.ensures.counts ∙ there) }

pub invariant_of-self-2 : goal.invariant_of-self-2
invariant_of-self-2 g c =
    let s = c.args.self.now in
    let counts = by_key (λ (o : Counted g.row.T.Denot). o.count) (entries_of s.live) in
    let n = count_at counts c.args.key in
    let there = stands counts c.args.key c.requires.held.0 c.requires.held.1 in
    let one : n ≡ 1 = omega (arith, ltb-false 1 n (sym c.if-count_down.ensures.exact), s.positive c.args.key n there) in
    let next = c.take_out.ensures.next ∙ c.if-count_down.ensures.next in
    let new = recounted _ _ _ _ _ next
    (counted-ended counts _ c.args.key n s.live.next s.added s.released there one
    (c.take_out.ensures.counts ∙ ap (λ m. map.remove m c.args.key) c.if-count_down.ensures.counts)
    (record { sums = s.sums; positive = s.positive; unused = s.unused })) in
    record { sums = new.sums; positive = new.positive; unused = new.unused; makings = omega (arith, s.makings, next); few_asked = s.few_asked; few_added = s.few_added }

pub returns : goal.returns
returns g c =
    let s = c.args.self.now in
    let counts = by_key (λ (o : Counted g.row.T.Denot). o.count) (entries_of s.live) in
    let n = count_at counts c.args.key in
    let there = stands counts c.args.key c.requires.held.0 c.requires.held.1 in
    let one : n ≡ 1 = omega (arith, ltb-false 1 n (sym c.if-count_down.ensures.exact), s.positive c.args.key n there) in
    let next = c.take_out.ensures.next ∙ c.if-count_down.ensures.next in
    let values = c.take_out.ensures.values ∙ ap (λ m. map.remove m c.args.key) c.if-count_down.ensures.values in
    record {
      released = (
        there ∙ ap Some one,
        c.take_out.ensures.counts ∙ ap (λ m. map.remove m c.args.key) c.if-count_down.ensures.counts,
        λ i. record { next = next i; values = values i },
        λ i. record { asked = s.asked; made = next i; added = s.added; released = s.released + 1 },
      );
    }

use Rattle.std.proofs.Common.{arith}
use Rattle.ang_drivers.specs.declared.pages.Counted.{Counted}
use Rattle.ang_drivers.proofs.Ledgers.{is_held, recounted_at}
use Rattle.ang_drivers.proofs.objects.Objects.set_value.Goals as goal

pub exchange-requires : goal.exchange-requires
exchange-requires g c = record {
  held = is_held (λ (o : Counted g.row.T.Denot). o.count) _ _ c.requires.held.0 c.requires.held.1;
}

pub invariant_of-self : goal.invariant_of-self
invariant_of-self g c =
    let s = c.args.self.now in
    let old = recounted_at _ _ _ _ _ _ c.exchange.ensures.counts c.exchange.ensures.next (record { sums = s.sums; positive = s.positive; unused = s.unused }) in
    record { sums = old.sums; positive = old.positive; unused = old.unused; makings = omega (arith, s.makings, c.exchange.ensures.next); few_asked = s.few_asked; few_added = s.few_added }

pub returns : goal.returns
returns g c =
    let s = c.args.self.now in
    record {
      revalued = λ i. record {
        counts = c.exchange.ensures.counts i;
        table = record { next = c.exchange.ensures.next i; values = c.exchange.ensures.values i };
        tally = record { asked = s.asked; made = c.exchange.ensures.next i; added = s.added; released = s.released };
      };
    }

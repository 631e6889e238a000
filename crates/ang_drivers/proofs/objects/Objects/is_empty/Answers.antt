use Rattle.std.proofs.Common.{◌≡◌, ◌+◌, arith}
use Rattle.std.proofs.lemmas.Bool.{eq-eqb, eqb-true}
use Rattle.ang_drivers.specs.declared.pages.Counted.{Counted}
use Rattle.ang_drivers.specs.Objects.{by_key}
use Rattle.ang_drivers.specs.PagesHeld.{entries_of}
use Rattle.ang_drivers.proofs.Ledgers.{AreCounted, none_live, all_released}
use Rattle.ang_drivers.proofs.objects.Objects.is_empty.Goals as goal

pub returns : goal.returns
returns g c =
    let s = c.args.self.now in
    let counted : AreCounted (by_key (λ (o : Counted g.row.T.Denot). o.count) (entries_of s.live)) s.live.next s.added s.released = record { sums = s.sums; positive = s.positive; unused = s.unused } in
    record {
      exact = (
        λ t. none_live _ s.live.next s.added s.released counted (let e : c.next.result + s.added ≡ s.released = eqb-true (c.next.result + s.added) s.released t in omega (arith, e, c.next.ensures.exact)),
        λ h. eq-eqb (c.next.result + s.added) s.released (let e : s.live.next + s.added ≡ s.released = all_released _ s.live.next s.added s.released counted h in omega (arith, e, c.next.ensures.exact)),
      );
    }

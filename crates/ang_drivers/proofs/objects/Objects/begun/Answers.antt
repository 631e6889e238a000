use Rattle.std.proofs.Common.{ap, ◌∙◌, arith}
use Rattle.ang_drivers.specs.declared.pages.Counted.{Counted}
use Rattle.ang_drivers.specs.Objects.{by_key}
use Rattle.ang_drivers.proofs.Ledgers.{by_key-nil, counted-none, recounted, begun_ledger}
use Rattle.ang_drivers.proofs.objects.Objects.begun.Goals as goal

pub invariant_of-result : goal.invariant_of-result
invariant_of-result g c =
    let none = recounted _ _ _ _ _ c.new.ensures.next
    (counted-none _ (ap (by_key (λ (o : Counted g.row.T.Denot). o.count)) c.new.ensures.empty ∙ by_key-nil (λ (o : Counted g.row.T.Denot). o.count))) in
    record {
      sums = none.sums;
      positive = none.positive;
      unused = none.unused;
      makings = omega (arith, c.new.ensures.next);
      few_asked = c.requires.few;
      few_added = omega arith;
    }

pub returns : goal.returns
returns g c = record {
  begun =
      begun_ledger _ _ _ c.args.asked
      (ap (by_key (λ (o : Counted g.row.T.Denot). o.count)) c.new.ensures.empty ∙ by_key-nil (λ (o : Counted g.row.T.Denot). o.count))
      (ap (by_key (λ (o : Counted g.row.T.Denot). o.value)) c.new.ensures.empty ∙ by_key-nil (λ (o : Counted g.row.T.Denot). o.value))
      c.new.ensures.next;
}

use Rattle.ang_drivers.specs.declared.pages.Counted.{Counted}
use Rattle.ang_drivers.proofs.Ledgers.{is_held, read_at}
use Rattle.ang_drivers.proofs.objects.Objects.value.Goals as goal

pub get-requires : goal.get-requires
get-requires g c = record {
  held = is_held (λ (o : Counted g.row.T.Denot). o.count) _ _ c.requires.held.0 c.requires.held.1;
}

pub returns : goal.returns
returns g c = record {
  exact = read_at (λ (o : Counted g.row.T.Denot). o.value) _ _ _ c.get.ensures.exact;
}

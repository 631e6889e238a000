use Rattle.ang_host.proofs.Members.{one_moved}
use Rattle.ang_host.proofs.drivers.Drivers.release.Goals as goal

pub returns : goal.returns
returns g c = record {
  moved = one_moved _ _ _ _ _ _ _ _ c.requires.in_list c.index_mut-b.ensures.value c.release_at.ensures.kind c.release_at.ensures.law;
}

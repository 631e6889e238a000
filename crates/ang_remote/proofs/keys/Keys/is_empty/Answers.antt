use Rattle.std.proofs.Common.{ap, length}
use Rattle.ang_drivers.proofs.Ledgers.{by_key-none, by_key-empty}
use Rattle.ang_remote.proofs.keys.Keys.is_empty.Goals as goal

pub returns : goal.returns
returns c = record {
  exact = (λ t. by_key-none _ _ (c.is_empty.ensures.0 t), λ h. c.is_empty.ensures.1 (ap length (by_key-empty _ _ h)));
}

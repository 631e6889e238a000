-- Texts that are put together piece by piece.
use Rattle.std.proofs.Common.{append_assoc}

pub ruleset texts = append_assoc

use Rattle.std.proofs.Common.{ℕ, true, refl, ◌+◌, arith}
use Rattle.ang_drivers.specs.Objects.{by_key}
use Rattle.ang_drivers.proofs.Ledgers.{by_key-inserted}
use Rattle.ang_remote.proofs.Holding.{kept-new}
use Rattle.ang_remote.proofs.keys.Keys.insert.Goals as goal

pub invariant_of-self-2 : goal.invariant_of-self-2
invariant_of-self-2 c =
    let s = c.args.self.now in
    let new = kept-new (by_key (λ (n : ℕ). n) s.live.entries) _ c.args.key s.made s.added s.released c.requires.not_live
    (by_key-inserted (λ (n : ℕ). n) _ _ c.args.key 1 c.in_ok-insert.ensures.updates.0) (record { sums = s.sums; positive = s.positive }) in
    record { sums = new.sums; positive = new.positive; makings = omega (arith, c.requires.asking_left); few_asked = s.few_asked; few_added = s.few_added }

pub returns-clause-inserted : goal.returns-clause-inserted
returns-clause-inserted c = record {
  counts = by_key-inserted (λ (n : ℕ). n) _ _ c.args.key 1 c.in_ok-insert.ensures.updates.0;
  live = by_key-inserted (λ (n : ℕ). true) _ _ c.args.key 1 c.in_ok-insert.ensures.updates.0;
  tally = refl;
}

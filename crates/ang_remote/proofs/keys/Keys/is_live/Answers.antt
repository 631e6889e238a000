use Rattle.std.proofs.Common.{ℕ, true, sym, ◌∙◌}
use Rattle.ang_remote.proofs.Holding.{there_by_key}
use Rattle.ang_remote.proofs.keys.Keys.is_live.Goals as goal

pub returns : goal.returns
returns c = record {
  exact = c.contains_key.ensures ∙ sym (there_by_key (λ (n : ℕ). true) c.args.self.now.live.entries c.args.key);
  counted = c.contains_key.ensures ∙ sym (there_by_key (λ (n : ℕ). n) c.args.self.now.live.entries c.args.key);
}

use Rattle.std.proofs.Common.{ℕ, true, ap, ◌∙◌, arith}
use Rattle.ang_drivers.specs.Objects.{by_key}
use Rattle.ang_drivers.proofs.Ledgers.{by_key-nil}
use Rattle.ang_remote.proofs.Holding.{kept-none, same_ledger}
use Rattle.ang_remote.proofs.keys.Keys.new.Goals as goal

pub invariant_of-result : goal.invariant_of-result
invariant_of-result c =
    let none = kept-none _ (ap (by_key (λ (n : ℕ). n)) c.new.ensures.empty ∙ by_key-nil (λ (n : ℕ). n)) in
    record { sums = none.sums; positive = none.positive; makings = omega arith; few_asked = omega arith; few_added = omega arith }

pub returns : goal.returns
returns c = record {
  fresh =
      same_ledger _ _ _ _ (record { asked = 0; made = 0; added = 0; released = 0 })
      (ap (by_key (λ (n : ℕ). n)) c.new.ensures.empty ∙ by_key-nil (λ (n : ℕ). n))
      (ap (by_key (λ (n : ℕ). true)) c.new.ensures.empty ∙ by_key-nil (λ (n : ℕ). true));
}

use Rattle.std.proofs.Common.{ℕ, true, refl, arith}
use Rattle.ang_drivers.specs.Objects.{by_key}
use Rattle.ang_drivers.proofs.Ledgers.{is_held, read_at, by_key-replaced, by_key-inserted}
use Rattle.ang_remote.proofs.Holding.{kept-added, kept-bound}
use Rattle.ang_remote.proofs.keys.Keys.add_ref.Goals as goal

pub count_at-count-requires : goal.count_at-count-requires
count_at-count-requires c = record { held = is_held (λ (n : ℕ). n) _ _ c.requires.held.0 c.requires.held.1 }

pub overflow_add-count : goal.overflow_add-count
overflow_add-count c =
    let s = c.args.self.now in
    let bound = kept-bound (by_key (λ (n : ℕ). n) s.live.entries) c.args.key c.count_at-count.result s.made s.added s.released
    (read_at (λ (n : ℕ). n) _ _ _ c.count_at-count.ensures.exact) (record { sums = s.sums; positive = s.positive }) in
    omega (arith, bound, s.makings, s.few_asked, s.few_added, c.if-self-eq-LIMIT.false)

pub invariant_of-self : goal.invariant_of-self
invariant_of-self c =
    let s = c.args.self.now in
    let new = kept-added (by_key (λ (n : ℕ). n) s.live.entries) _ c.args.key c.count_at-count.result s.made s.added s.released
    (read_at (λ (n : ℕ). n) _ _ _ c.count_at-count.ensures.exact) (by_key-inserted (λ (n : ℕ). n) _ _ _ _ c.replace.ensures.replaced)
    (record { sums = s.sums; positive = s.positive }) in
    record { sums = new.sums; positive = new.positive; makings = s.makings; few_asked = s.few_asked; few_added = omega (arith, s.few_added, c.if-self-eq-LIMIT.false) }

pub returns : goal.returns
returns c = record {
  added = (
    c.count_at-count.result,
    read_at (λ (n : ℕ). n) _ _ _ c.count_at-count.ensures.exact,
    by_key-inserted (λ (n : ℕ). n) _ _ _ _ c.replace.ensures.replaced,
    by_key-replaced (λ (n : ℕ). true) _ _ _ _ (read_at (λ (n : ℕ). true) _ _ _ c.count_at-count.ensures.exact) c.replace.ensures.replaced,
    refl,
  );
}

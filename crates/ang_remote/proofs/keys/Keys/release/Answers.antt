use Rattle.std.proofs.Common.{ℕ, true, refl, ◌∙◌, ap, arith, Some, ◌≡◌, ◌+◌, ◌-◌, ◌<◌}
use Rattle.std.specs.FinMap as map
use Rattle.ang_drivers.specs.Objects.{by_key}
use Rattle.ang_drivers.proofs.Ledgers.{is_held, read_at, by_key-replaced, by_key-inserted, by_key-removed, two_or_more}
use Rattle.ang_remote.proofs.Holding.{kept-released, kept-ended}
use Rattle.ang_remote.proofs.keys.Keys.release.Goals as goal

pub count_at-count-requires : goal.count_at-count-requires
count_at-count-requires c = record { held = is_held (λ (n : ℕ). n) _ _ c.requires.held.0 c.requires.held.1 }

pub invariant_of-self : goal.invariant_of-self
invariant_of-self c =
    let s = c.args.self.now in
    let new = kept-ended (by_key (λ (n : ℕ). n) s.live.entries) _ c.args.key c.count_at-count.result s.made s.added s.released
    (read_at (λ (n : ℕ). n) _ _ _ c.count_at-count.ensures.exact) c.if-count-eq1.true (by_key-removed (λ (n : ℕ). n) _ _ _ c.remove.ensures.updates.0)
    (record { sums = s.sums; positive = s.positive }) in
    record { sums = new.sums; positive = new.positive; makings = s.makings; few_asked = s.few_asked; few_added = s.few_added }

pub returns-then-count-eq1 : goal.returns-then-count-eq1
returns-then-count-eq1 c = record {
  released = (
    read_at (λ (n : ℕ). n) _ _ _ c.count_at-count.ensures.exact ∙ ap Some c.if-count-eq1.true,
    by_key-removed (λ (n : ℕ). n) _ _ _ c.remove.ensures.updates.0,
    by_key-removed (λ (n : ℕ). true) _ _ _ c.remove.ensures.updates.0,
    refl,
  );
}

pub overflow_sub-count : goal.overflow_sub-count
overflow_sub-count c =
    let s = c.args.self.now in
    let more = two_or_more (by_key (λ (n : ℕ). n) s.live.entries) c.args.key c.count_at-count.result s.positive
    (read_at (λ (n : ℕ). n) _ _ _ c.count_at-count.ensures.exact) c.if-count-eq1.false in
    omega (arith, more)

pub invariant_of-self-2 : goal.invariant_of-self-2
invariant_of-self-2 c =
    let s = c.args.self.now in
    let read = read_at (λ (n : ℕ). n) s.live.entries _ _ c.count_at-count.ensures.exact in
    let new = kept-released (by_key (λ (n : ℕ). n) s.live.entries) _ c.args.key c.count_at-count.result s.made s.added s.released read
    (two_or_more _ c.args.key c.count_at-count.result s.positive read c.if-count-eq1.false)
    (by_key-inserted (λ (n : ℕ). n) _ _ _ _ c.replace.ensures.replaced)
    (record { sums = s.sums; positive = s.positive }) in
    record { sums = new.sums; positive = new.positive; makings = s.makings; few_asked = s.few_asked; few_added = s.few_added }

pub returns : goal.returns
returns c = record {
  released =
      let s = c.args.self.now in
      let n = c.count_at-count.result in
      let read = read_at (λ (n : ℕ). n) s.live.entries _ _ c.count_at-count.ensures.exact in
      let more : 1 < n = two_or_more _ c.args.key n s.positive read c.if-count-eq1.false in
      let two : n ≡ (n - 2) + 2 = omega (arith, more) in
      let one : n - 1 ≡ (n - 2) + 1 = omega (arith, more) in (
        n - 2,
        read ∙ ap Some two,
        by_key-inserted (λ (n : ℕ). n) _ _ _ _ c.replace.ensures.replaced ∙ ap (λ v. map.insert (by_key (λ (n : ℕ). n) s.live.entries) c.args.key v) one,
        by_key-replaced (λ (n : ℕ). true) _ _ _ _ (read_at (λ (n : ℕ). true) _ _ _ c.count_at-count.ensures.exact) c.replace.ensures.replaced,
        refl,
      );
}

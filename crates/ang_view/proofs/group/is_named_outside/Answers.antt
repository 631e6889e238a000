use Rattle.std.proofs.Common.{rules, ◌≡◌, ℕ, ◌<◌, Bool, true, false, not, ◌&&◌, length, sym, ap, ◌∙◌}
use Rattle.std.specs.List.{list_any, range_with_len}
use Rattle.ang_view.specs.Groups.{is_in, is_named_outside, names_into}
use Rattle.ang_view.specs.Registration.{entry_at}
use Rattle.ang_view.proofs.Outside.{names_it, names_none, none_yet, one_at, stays_in}
use Rattle.ang_view.proofs.group.is_named_outside.Goals as goal
use Rattle.ang_view.proofs.group.is_named_outside.Goals.{else-not-is_in-via-then-not-is_in+else-names_into, else-not-is_in-via-else-not-is_in}

pub returns-then-names_into : goal.returns-then-names_into
unfolding is_named_outside
returns-then-names_into c =
    let R = c.args.list.now in
    let g = c.args.group.now in
    let n = c.loop-number.number in
    let out : is_in g n ≡ false = search rules in
    let into : names_into R g (entry_at R n) ≡ true = search rules in
    let low : n < length R = search rules in
    record { exact = one_at (λ k. not (is_in g k) && names_into R g (entry_at R k)) (length R) n low (names_it (is_in g n) (names_into R g (entry_at R n)) out into) }

pub loop-number-preserved : goal.loop-number-preserved
loop-number-preserved c =
    let R = c.args.list.now in
    let g = c.args.group.now in
    let n = c.loop-number.number in
    let f : ℕ → Bool = λ k. not (is_in g k) && names_into R g (entry_at R k) in
    none_yet f n c.loop-number.invariant
    (elim c.else-not-is_in.branch [
      | else-not-is_in-via-then-not-is_in+else-names_into w ↦ names_none (is_in g n) (names_into R g (entry_at R n)) (search rules)
      | else-not-is_in-via-else-not-is_in w ↦ stays_in (is_in g n) (names_into R g (entry_at R n)) (search rules)
    ])

pub returns : goal.returns
unfolding is_named_outside
returns c =
    let R = c.args.list.now in
    let g = c.args.group.now in
    let many : c.loop-number.number ≡ length R = search rules in
    record { exact = sym c.loop-number.invariant ∙ ap (λ n. list_any (λ k. not (is_in g k) && names_into R g (entry_at R k)) (range_with_len 0 n)) many }

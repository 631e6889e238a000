use Rattle.std.specs.Prelude.{ℕ, ◌+◌, [], ◌∷◌, ◌++◌, List, Option, Some, length, map}
use Rattle.std.specs.List.{range_with_len}
use Rattle.std.proofs.Common.{◌≡◌, arith, ap, sym, rules, ◌∙◌}
use Rattle.std.proofs.lemmas.List.FromFn.{map-range_with_len_more}
use Rattle.ang_check_added.specs.Brought.{all_brought, brought}
use Rattle.ang_check_added.proofs.brought.brought_rows.Goals as goal

pub loop-number-preserved : goal.loop-number-preserved
loop-number-preserved c =
    let n = c.loop-number.number in
    let f : ℕ → Option (List ℕ) = λ k. Some (brought c.args.whole.now c.args.mask.0 k) in
    let first : 0 + n ≡ n = omega arith in
    c.in_ok-push_row.ensures.pushed ∙ ap (λ rows. rows ++ f n ∷ []) c.loop-number.invariant ∙ sym (map-range_with_len_more f 0 n n first)

pub returns : goal.returns
unfolding all_brought
returns c =
    let R = c.args.whole.now in
    let many : c.loop-number.number ≡ length R = search rules in
    record { exact = c.loop-number.invariant ∙ ap (λ n. map (λ k. Some (brought R c.args.mask.0 k)) (range_with_len 0 n)) many }

use Rattle.std.specs.Prelude.{ℕ, Bool, ◌+◌, [], ◌∷◌, ◌++◌, length, map}
use Rattle.std.specs.List.{range_with_len}
use Rattle.std.proofs.Common.{◌≡◌, arith, ap, sym, rules, ◌∙◌}
use Rattle.std.proofs.lemmas.List.FromFn.{map-range_with_len_more}
use Rattle.ang_check_added.specs.Brought.{is_only, numbers_at}
use Rattle.ang_check_added.proofs.brought.alone_marks.Goals as goal

pub loop-number-preserved : goal.loop-number-preserved
loop-number-preserved c =
    let n = c.loop-number.number in
    let f : ℕ → Bool = λ k. is_only k (numbers_at c.args.rows.now k) in
    let first : 0 + n ≡ n = omega arith in
    let one : c.is_only-is_alone.result ≡ f n = c.is_only-is_alone.ensures.exact ∙ ap (is_only n) c.numbers_at.ensures.exact in
    c.in_ok-push.ensures.items ∙ ap (λ b. c.loop-number.marks.items ++ b ∷ []) one
    ∙ ap (λ bs. bs ++ f n ∷ []) c.loop-number.invariant ∙ sym (map-range_with_len_more f 0 n n first)

pub returns : goal.returns
returns c =
    let many : c.loop-number.number ≡ length c.args.whole.now = search rules in
    record { exact = c.loop-number.invariant ∙ ap (λ n. map (λ k. is_only k (numbers_at c.args.rows.now k)) (range_with_len 0 n)) many }

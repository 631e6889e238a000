use Rattle.std.specs.Prelude.{ℕ, ◌+◌, [], ◌∷◌, ◌++◌, Option, length, map}
use Rattle.std.specs.List.{range_with_len}
use Rattle.std.proofs.Common.{◌≡◌, arith, ap, sym, rules, ◌∙◌}
use Rattle.std.proofs.lemmas.List.FromFn.{map-range_with_len_more}
use Rattle.ang_types.specs.declared.candidate.Candidate.{Candidate}
use Rattle.ang_view.specs.Registration.{entry_at}
use Rattle.ang_check_added.specs.Made.{made, made_of}
use Rattle.ang_check_added.proofs.made.all_made.Goals as goal

pub loop-number-preserved : goal.loop-number-preserved
loop-number-preserved c =
    let R = c.args.whole.now in
    let n = c.loop-number.number in
    let f : ℕ → Option Candidate = λ k. made_of R k (entry_at R k) in
    let first : 0 + n ≡ n = omega arith in
    c.in_ok-push_made.ensures.pushed ∙ ap (λ all. all ++ f n ∷ []) c.loop-number.invariant ∙ sym (map-range_with_len_more f 0 n n first)

pub returns : goal.returns
unfolding made
returns c =
    let R = c.args.whole.now in
    let many : c.loop-number.number ≡ length R = search rules in
    record { exact = c.loop-number.invariant ∙ ap (λ n. map (λ k. made_of R k (entry_at R k)) (range_with_len 0 n)) many }

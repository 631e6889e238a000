use Rattle.std.specs.Prelude.{ℕ, Bool, false, [], ◌∷◌, ◌++◌, if◌then◌else◌, slice_index_or}
use Rattle.std.proofs.Common.{sym, ap, ◌∙◌}
use Rattle.ang_check_added.proofs.Kept.{kept_more}
use Rattle.ang_check_denials.proofs.marked.numbers_marked.Goals as goal

pub loop-number-preserved : goal.loop-number-preserved
loop-number-preserved c =
    let n = c.loop-number.number in
    let passes : ℕ → Bool = λ y. slice_index_or c.args.marks.now y false in
    c.in_ok-push_kept.ensures.pushed ∙ ap (λ k. c.loop-number.numbers.items ++ (if k then n ∷ [] else [])) c.is_marked.ensures.exact
    ∙ ap (λ ns. ns ++ (if passes n then n ∷ [] else [])) c.loop-number.invariant ∙ sym (kept_more passes n)

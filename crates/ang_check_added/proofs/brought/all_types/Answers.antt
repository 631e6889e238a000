use Rattle.std.specs.Prelude.{ℕ, Bool, [], ◌∷◌, ◌++◌, if◌then◌else◌, filter, length}
use Rattle.std.specs.List.{range_with_len}
use Rattle.std.proofs.Common.{◌≡◌, rules, sym, ap, ◌∙◌}
use Rattle.ang_view.specs.Named.{is_type_entry}
use Rattle.ang_view.specs.Registration.{entry_at}
use Rattle.ang_check_added.specs.Brought.{all_types}
use Rattle.ang_check_added.proofs.Kept.{kept_more}
use Rattle.ang_check_added.proofs.brought.all_types.Goals as goal

pub loop-number-preserved : goal.loop-number-preserved
loop-number-preserved c =
    let n = c.loop-number.number in
    let passes : ℕ → Bool = λ k. is_type_entry (entry_at c.args.whole.now k) in
    c.in_ok-push_kept.ensures.pushed ∙ ap (λ k. c.loop-number.numbers.items ++ (if k then n ∷ [] else [])) c.is_type_at.ensures.exact
    ∙ ap (λ ns. ns ++ (if passes n then n ∷ [] else [])) c.loop-number.invariant ∙ sym (kept_more passes n)

pub returns : goal.returns
unfolding all_types
returns c =
    let R = c.args.whole.now in
    let many : c.loop-number.number ≡ length R = search rules in
    record { exact = c.loop-number.invariant ∙ ap (λ n. filter (λ k. is_type_entry (entry_at R k)) (range_with_len 0 n)) many }

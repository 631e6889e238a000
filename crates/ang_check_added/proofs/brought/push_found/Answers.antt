use Rattle.std.specs.Prelude.{ℕ, Bool, [], ◌∷◌, ◌++◌, if◌then◌else◌, filter, map}
use Rattle.std.proofs.Common.{◌≡◌, ◌≤◌, ◌+◌, List, drop, get_or, length, rules, sym, ap, ◌∙◌}
use Rattle.std.proofs.lemmas.List.{append-nil, drop_all, drop_more}
use Rattle.ang_kinds.specs.declared.mask.EntityNo.{EntityNo}
use Rattle.ang_check_added.specs.Brought.{is_unmet_type}
use Rattle.ang_check_added.proofs.Bringing.{one_kept}
use Rattle.ang_check_added.proofs.brought.push_found.Goals as goal

pub loop-number-preserved : goal.loop-number-preserved
loop-number-preserved c =
    let l = c.loop-number in
    let found : List EntityNo = c.find-found.result.now in
    let first : EntityNo = record { 0 = 0 } in
    let n : EntityNo = get_or found l.number-index first in
    let so_far : List ℕ = l.numbers.items in
    let passes : ℕ → Bool = is_unmet_type c.args.whole.now c.args.mask.0 c.args.ty.now in
    let rest : List ℕ = filter passes (map (λ (e : EntityNo). e.0) (drop (l.number-index + 1) found)) in
    let here : drop l.number-index found ≡ n ∷ drop (l.number-index + 1) found = drop_more found l.number-index first c.loop-number-test.true in
    let kept = c.in_ok-push_kept.ensures.pushed ∙ ap (λ b. so_far ++ (if b then n.0 ∷ [] else [])) c.is_unmet_type-keeps.ensures.exact in
    l.invariant
    ∙ ap (λ (es : List EntityNo). so_far ++ filter passes (map (λ (e : EntityNo). e.0) es)) here
    ∙ one_kept (passes n.0) n.0 so_far rest
    ∙ ap (λ ns. ns ++ rest) (sym kept)

pub returns : goal.returns
returns c =
    let l = c.loop-number in
    let R = c.args.whole.now in
    let found : List EntityNo = c.find-found.result.now in
    let passes : ℕ → Bool = is_unmet_type R c.args.mask.0 c.args.ty.now in
    let over : length found ≤ l.number-index = search rules in
    let none : drop l.number-index found ≡ [] = drop_all l.number-index found over in
    record {
      pushed =
          sym (append-nil l.numbers.items)
          ∙ ap (λ (es : List EntityNo). l.numbers.items ++ filter passes (map (λ (e : EntityNo). e.0) es)) (sym none)
          ∙ sym l.invariant
          ∙ ap (λ ns. c.args.numbers.now.items ++ filter passes ns) c.find-found.ensures.exact;
    }

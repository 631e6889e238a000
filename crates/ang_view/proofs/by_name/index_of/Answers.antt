use Rattle.std.proofs.Common.{◌≡◌, ◌<◌, cond, [], ◌∷◌, ◌++◌, length, None, arith, sym, ap, ◌∙◌}
use Rattle.std.proofs.lemmas.List.{get_or_read}
use Rattle.ang_view.specs.Named.{numbers_at, numbers_under, scope_in, stands_under}
use Rattle.ang_view.specs.Registration.{entry_at}
use Rattle.ang_view.proofs.Named.{under_more}
use Rattle.ang_view.proofs.by_name.index_of.Goals as goal

pub loop-number-init : goal.loop-number-init
unfolding numbers_under
loop-number-init c s name = ap (numbers_at s name) c.new-index.ensures.none

pub loop-number-preserved : goal.loop-number-preserved
loop-number-preserved c s name =
    let list = c.args.entries.now in
    let n = c.loop-number.number in
    let inside : n < length list = omega arith in
    let is : c.index-entries-number.result ≡ entry_at list n = get_or_read list _ _ inside c.index-entries-number.is None in
    c.in_ok-push_entry.ensures.pushed s name
    ∙ ap (λ ns. ns ++ cond (stands_under scope_in s name c.index-entries-number.result) (n ∷ []) []) (c.loop-number.invariant s name)
    ∙ ap (λ o. numbers_under scope_in list s name n ++ cond (stands_under scope_in s name o) (n ∷ []) []) is
    ∙ sym (under_more scope_in list s name n)

pub returns : goal.returns
returns c =
    let many : c.loop-number.number ≡ length c.args.entries.now = omega arith in
    record { exact = record { same = λ s name. c.loop-number.invariant s name ∙ ap (numbers_under scope_in c.args.entries.now s name) many } }

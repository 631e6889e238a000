use Rattle.std.specs.Prelude.{[], ◌∷◌, ◌++◌, if◌then◌else◌, filter, length}
use Rattle.std.specs.List.{range_with_len}
use Rattle.std.proofs.Common.{◌≡◌, ap, sym, rules, ◌∙◌}
use Rattle.ang_index.specs.Rows.{items_at}
use Rattle.ang_check_denials.specs.Names.{hidden_named, is_hidden_named}
use Rattle.ang_check_added.proofs.Kept.{kept_more}
use Rattle.ang_check_denials.proofs.sought.help_rows.Goals as goal

pub loop-number-init : goal.loop-number-init
loop-number-init c name = ap (items_at 0 name) c.new-rows.ensures.none

pub loop-number-preserved : goal.loop-number-preserved
loop-number-preserved c name =
    let R = c.args.masked.now.list in
    let m = c.args.masked.now.mask in
    let n = c.loop-number.number in
    c.in_ok-push_hidden.ensures.pushed name
    ∙ ap (λ ns. ns ++ (if is_hidden_named R m name n then n ∷ [] else [])) (c.loop-number.invariant name)
    ∙ sym (kept_more (is_hidden_named R m name) n)

pub returns : goal.returns
unfolding hidden_named
returns c =
    let R = c.args.masked.now.list in
    let m = c.args.masked.now.mask in
    let many : c.loop-number.number ≡ length R = search rules in
    record { exact = record { numbers = λ name. c.loop-number.invariant name ∙ ap (λ n. filter (is_hidden_named R m name) (range_with_len 0 n)) many } }

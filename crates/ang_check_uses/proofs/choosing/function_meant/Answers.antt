use Rattle.std.proofs.Common.{rules, ◌≡◌, Bool, true, false, cond, IfOk, ap, sym, subst, ◌∙◌}
use Rattle.ang_kinds.specs.declared.error.ErrorKind.TheVariants as kind
use Rattle.ang_names_known.specs.Items.{is_empty}
use Rattle.ang_check_uses.specs.declared.uses.Resolution.TheVariants as resolution
use Rattle.ang_check_uses.specs.Choosing.{function_by}
use Rattle.ang_check_uses.specs.Contenders.{meant_by}
use Rattle.ang_check_uses.specs.Uses.{best_function, best_of_those, functions_of}
use Rattle.ang_check_uses.proofs.ChosenLaws.{functions_empty, functions_best}
use Rattle.ang_check_uses.proofs.choosing.function_meant.Goals as goal

pub returns-then-is_empty : goal.returns-then-is_empty
returns-then-is_empty c =
    let s = c.args.scope.now in
    let name = c.args.name.now in
    let args = c.args.args.now in
    let none_seen : c.in_ok-contest.contest.empty ≡ true = search rules in
    let gone : is_empty (functions_of s name) ≡ true = sym (functions_empty s name args c.in_ok-contest.contest c.in_ok-contest.ensures.entered) ∙ none_seen in
    record { exact = ap (λ (b : Bool). cond b (resolution.Refused kind.UnknownName) (best_of_those s.ancestors kind.NoMatch (functions_of s name) args)) (sym gone) }

pub returns : goal.returns
returns c =
    let s = c.args.scope.now in
    let name = c.args.name.now in
    let args = c.args.args.now in
    let some_seen : c.in_ok-contest.contest.empty ≡ false = search rules in
    let any : is_empty (functions_of s name) ≡ false = sym (functions_empty s name args c.in_ok-contest.contest c.in_ok-contest.ensures.entered) ∙ some_seen in
    let meant : meant_by (function_by s name) kind.NoMatch c.outcome.result ≡ best_function s.ancestors (functions_of s name) args =
    ap (meant_by (function_by s name) kind.NoMatch) c.outcome.ensures.exact
    ∙ functions_best s name args c.in_ok-contest.contest c.in_ok-contest.ensures.entered
    ∙ ap (λ (b : Bool). cond b (resolution.Refused kind.UnknownName) (best_of_those s.ancestors kind.NoMatch (functions_of s name) args)) (sym any) in
    record { exact = subst (λ x. IfOk c.function_picked.result (λ r. r ≡ x)) meant c.function_picked.ensures.exact }

use Rattle.std.proofs.Common.{rules, ◌≡◌, ◌∷◌, Bool, true, false, cond, IfOk, ap, sym, subst, ◌∙◌}
use Rattle.ang_kinds.specs.declared.error.ErrorKind.TheVariants as kind
use Rattle.ang_types.specs.declared.arg_type.ArgType.TheVariants as type
use Rattle.ang_names_known.specs.Items.{is_empty}
use Rattle.ang_check_uses.specs.declared.uses.Resolution.TheVariants as resolution
use Rattle.ang_check_uses.specs.Choosing.{method_by}
use Rattle.ang_check_uses.specs.Contenders.{meant_by}
use Rattle.ang_check_uses.specs.Uses.{best_method, best_of_those, host_methods, unmatched}
use Rattle.ang_check_uses.proofs.ChosenLaws.{methods_empty, methods_best}
use Rattle.ang_check_uses.proofs.choosing.host_method_meant.Goals as goal

pub returns-then-is_empty : goal.returns-then-is_empty
unfolding best_method
returns-then-is_empty c =
    let s = c.args.scope.now in
    let n = c.args.number in
    let name = c.args.name.now in
    let constant = c.args.read_only in
    let args = c.args.args.now in
    let cs = host_methods s.view n name in
    let none_seen : c.in_ok-contest.contest.empty ≡ true = search rules in
    let gone : is_empty cs ≡ true = sym (methods_empty s.ancestors (type.Object n constant ∷ args) s.view n name c.in_ok-contest.contest c.in_ok-contest.ensures.entered) ∙ none_seen in
    record { exact = ap (λ (b : Bool). cond b (resolution.Refused kind.UnknownName) (best_of_those s.ancestors (unmatched s.ancestors cs n constant args) cs (type.Object n constant ∷ args))) (sym gone) }

pub returns : goal.returns
unfolding best_method
returns c =
    let s = c.args.scope.now in
    let n = c.args.number in
    let name = c.args.name.now in
    let constant = c.args.read_only in
    let args = c.args.args.now in
    let cs = host_methods s.view n name in
    let types = type.Object n constant ∷ args in
    let why = unmatched s.ancestors cs n constant args in
    let some_seen : c.in_ok-contest.contest.empty ≡ false = search rules in
    let any : is_empty cs ≡ false = sym (methods_empty s.ancestors types s.view n name c.in_ok-contest.contest c.in_ok-contest.ensures.entered) ∙ some_seen in
    let meant : meant_by (method_by s.view n name) why c.outcome-outcome.result ≡ best_method s.ancestors cs n constant args =
    ap (meant_by (method_by s.view n name) why) c.outcome-outcome.ensures.exact
    ∙ methods_best s.ancestors types why s.view n name c.in_ok-contest.contest c.in_ok-contest.ensures.entered
    ∙ ap (λ (b : Bool). cond b (resolution.Refused kind.UnknownName) (best_of_those s.ancestors why cs types)) (sym any) in
    record { exact = subst (λ x. IfOk c.method_picked.result (λ r. r ≡ x)) meant c.method_picked.ensures.exact }

use Rattle.std.proofs.Common.{◌≡◌, true, IfOk, rules, subst, sym, ap, ◌∙◌}
use Rattle.ang_check_denials.specs.Added.{adds, named_with}
use Rattle.ang_check_denials.proofs.Helping.{free_helps_is}
use Rattle.ang_check_denials.proofs.helpers.helps.Goals as goal

pub returns : goal.returns
returns c =
    let R = c.args.masked.now.list in
    let m = c.args.masked.now.mask in
    let s = c.args.scope.now in
    let r = c.args.refused.now in
    let a = c.args.asks.now in
    let x = c.args.number in
    let hides : c.hides.result ≡ true = search rules in
    record {
      exact =
          subst (λ b. IfOk c.adds.result (λ help. help ≡ b))
          (ap (λ name. adds R s name x (named_with R m s x name) a) c.as_slice-name.ensures.same
          ∙ free_helps_is R m s r a x c.args.beside.now.joined c.args.taken c.stays.result c.requires.joined c.requires.taken c.stays.ensures.exact c.if-stays.false
          c.requires.view c.requires.few (sym c.hides.ensures.exact ∙ hides))
          c.adds.ensures.exact;
    }

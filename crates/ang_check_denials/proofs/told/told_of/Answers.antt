use Rattle.std.proofs.Common.{◌≡◌, Some, subst, sym, ap, ◌∙◌}
use Rattle.ang_names_known.specs.Kinds.{numbered}
use Rattle.ang_check_contest.specs.Told.{IsTable, rows_of, table_of}
use Rattle.ang_check_denials.specs.Added.{types_of}
use Rattle.ang_check_denials.specs.Others.{AreOthers}
use Rattle.ang_check_denials.specs.Telling.{rivals_for, rivals_kept, sought_for}
use Rattle.ang_check_added.specs.Verdicts.{verdicts_in}
use Rattle.ang_check_denials.proofs.Telling.{fit, tells}
use Rattle.ang_check_denials.proofs.Winners.{winners_tell}
use Rattle.ang_check_denials.proofs.told.told_of.Goals as goal

pub returns : goal.returns
returns c =
    let k = c.args.masked.now in
    let s = c.args.scope.now in
    let r = c.args.refused.now in
    let a = c.args.asks.now in
    let b = c.args.beside.now in
    let own = r.error.name in
    let types = b.types.items in
    let made_type = b.made in
    let family = b.named.family in
    let ns = b.named.numbers.items in
    let q = c.in-Some-sought_for.sought in
    let is : sought_for k.list own b.joined c.args.taken made_type family ns a ≡ Some q =
    sym (c.sought_for.ensures.exact ∙ ap (λ n. sought_for k.list n b.joined c.args.taken made_type family ns a) c.as_slice-name.ensures.same) ∙ c.in-Some-sought_for.is in
    let are : AreOthers (rivals_kept b.rivals b.makers q a) s.ancestors (rivals_for s own q) types =
    fit k.list s own types b.rivals b.makers b.joined c.args.taken made_type family ns a q is c.requires.rivals c.requires.makers in
    let others : AreOthers c.rivals_of-rivals.result.now s.ancestors (rivals_for s own q) (types_of a) =
    subst (λ ts. AreOthers c.rivals_of-rivals.result.now s.ancestors (rivals_for s own q) ts) c.requires.types
    (subst (λ o. AreOthers o s.ancestors (rivals_for s own q) types) (sym c.rivals_of-rivals.ensures.exact) are) in
    let table : IsTable s.ancestors (numbered 0 k.kinds) (types_of a) (table_of (Some c.in-Some.rows)) =
    subst (λ ts. IsTable s.ancestors (numbered 0 k.kinds) ts (table_of (Some c.in-Some.rows))) c.requires.types
    (subst (λ t. IsTable s.ancestors (numbered 0 k.kinds) types (table_of t)) c.in-Some.is c.requires.table) in
    let judge = c.in_ok-verdicts.ensures.judge s.ancestors (numbered 0 k.kinds) (rivals_for s own q) (types_of a) (ap rows_of c.as_slice.ensures.value ∙ table) others in
    let v = c.in_ok-verdicts.verdicts in
    record {
      told = record {
        tells = tells k.list k.mask s r c.requires.view b.joined c.args.taken made_type family c.requires.family a ns c.requires.named c.requires.joined c.requires.taken q is;
        judge = judge;
        winners = winners_tell k.list (numbered 0 k.kinds) (verdicts_in v.rows.items) v.ahead s.ancestors (rivals_for s own q) (types_of a) c.winners_of-winners.result judge c.winners_of-winners.ensures.exact;
      };
    }

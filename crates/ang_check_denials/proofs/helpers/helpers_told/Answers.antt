use Rattle.std.specs.Prelude.{IfOk, IfSome}
use Rattle.std.specs.List.{list_all}
use Rattle.std.proofs.Common.{◌≡◌, true, sym, subst, ◌∙◌}
use Rattle.ang_view.specs.Registration.{entry_at}
use Rattle.ang_check_denials.specs.Added.{types_of}
use Rattle.ang_check_denials.specs.Telling.{AreWinners, is_sought, rivals_for}
use Rattle.ang_check_denials.proofs.Winners.{won_chosen}
use Rattle.ang_check_denials.proofs.helpers.helpers_told.Goals as goal

pub returns-then-are_sought : goal.returns-then-are_sought
returns-then-are_sought c =
    let k = c.args.masked.now in
    let s = c.args.scope.now in
    let r = c.args.refused.now in
    let a = c.args.asks.now in
    let t = c.args.told.now in
    let row = c.args.row.now in
    let set = c.in-Some.winners in
    let are : AreWinners k.list s.ancestors (rivals_for s r.error.name t.sought) (types_of a) set =
    subst (λ o. IfSome o (AreWinners k.list s.ancestors (rivals_for s r.error.name t.sought) (types_of a))) c.in-Some.is c.requires.told.winners in
    let all : list_all (λ x. is_sought t.sought (entry_at k.list x)) row ≡ true = sym c.are_sought.ensures.exact ∙ c.if-are_sought.true in
    record {
      exact =
          subst (λ ns. IfOk c.numbers_in.result (λ numbers. numbers.items ≡ ns)) (won_chosen k.list k.mask s r a t.sought set are row all) c.numbers_in.ensures.exact;
    }

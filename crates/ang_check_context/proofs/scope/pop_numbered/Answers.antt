use Rattle.std.proofs.Common.{◌≡◌, [], ℕ, List, subst}
use Rattle.std.specs.Prelude.{IfSome, IfNone}
use Rattle.ang_index.specs.Rows.{Puts, items_at}
use Rattle.ang_check_context.proofs.NumberedLocals.{numbered_less}
use Rattle.ang_check_context.proofs.scope.pop_numbered.Goals as goal

pub returns-in-Some-clause-numbered : goal.returns-in-Some-clause-numbered
returns-in-Some-clause-numbered c =
    let old = c.args.numbers.now in
    let new = c.pop-in-Some.new.self in
    let o = c.pop-in-Some.result in
    let named : c.bytes.result.now ≡ c.in-Some.local.name = c.bytes.ensures.exact in
    numbered_less c.pop.new.self.items c.args.list.now.items c.in-Some.local old new o c.requires.numbered c.in-Some.ensures.items
    (subst (λ (name : List ℕ). IfSome o (λ x. Puts new old 0 name x)) named c.pop-in-Some.ensures.popped)
    (subst (λ (name : List ℕ). IfNone o (items_at 0 name old ≡ [])) named c.pop-in-Some.ensures.none)

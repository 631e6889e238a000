use Rattle.std.proofs.Common.{◌≡◌, ◌==◌, true, length, rules, sym, ◌∙◌}
use Rattle.ang_check_denials.proofs.Types.{nothing_left, nothing_named_is}
use Rattle.ang_check_denials.proofs.named.named_with.Goals as goal

pub returns-then-is_empty : goal.returns-then-is_empty
returns-then-is_empty c =
    let named = c.args.named.now in
    let found = c.as_slice.result.now in
    let none : (length found == 0) ≡ true = search rules in
    record {
      exact =
          nothing_named_is c.args.masked.now.list c.args.scope.now.view c.args.masked.now.mask c.args.scope.now c.args.added c.args.name.now named.family named.numbers.items
          c.requires.view c.requires.numbers c.requires.family (sym c.as_slice.ensures.value ∙ nothing_left found none);
    }

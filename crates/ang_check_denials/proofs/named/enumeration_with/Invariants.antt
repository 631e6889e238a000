use Rattle.std.specs.Prelude.{find}
use Rattle.std.proofs.Common.{◌≡◌, drop}
use Rattle.ang_view.specs.Hidden.{seen_with}
use Rattle.ang_view.specs.Types.{enumeration_named}
use Rattle.ang_check_denials.specs.Added.{is_shown_enumeration}
use Rattle.ang_check_denials.proofs.named.enumeration_with.Given as goal

abbrev pub invariant-loop-number : goal.invariant-loop-number
invariant-loop-number l =
    find (is_shown_enumeration l.masked.list l.view l.name l.added) (drop l.number-index l.numbers)
    ≡ enumeration_named (seen_with l.masked.list l.masked.mask l.added) l.name

use Rattle.std.specs.Prelude.{filter, map}
use Rattle.std.proofs.Common.{◌≡◌, ◌++◌, drop}
use Rattle.ang_kinds.specs.declared.mask.EntityNo.{EntityNo}
use Rattle.ang_check_added.specs.Brought.{is_unmet_type}
use Rattle.ang_check_added.proofs.brought.push_found.Given as goal

-- what was put in, in front of what is left to be kept, is all
abbrev pub invariant-loop-number : goal.invariant-loop-number
invariant-loop-number l =
    l.initial.numbers.items ++ filter (is_unmet_type l.whole l.mask.0 l.ty) (map (λ (e : EntityNo). e.0) l.found)
    ≡ l.numbers.items ++ filter (is_unmet_type l.whole l.mask.0 l.ty) (map (λ (e : EntityNo). e.0) (drop l.number-index l.found))

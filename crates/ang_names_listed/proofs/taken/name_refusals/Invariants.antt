use Rattle.std.proofs.Common.{◌≡◌, [], ◌++◌, take, drop}
use Rattle.std.specs.Prelude.{option_to_list}
use Rattle.ang_names_known.specs.Items.{each_after}
use Rattle.ang_names_listed.specs.Taken.{name_refusal}
use Rattle.ang_names_listed.proofs.taken.name_refusals.Given as goal

abbrev pub invariant-loop-i : goal.invariant-loop-i
invariant-loop-i l =
    (each_after (λ before d. option_to_list (name_refusal l.view before d)) [] l.all
    ≡ l.found.items ++ each_after (λ before d. option_to_list (name_refusal l.view before d)) (take l.i l.all) (drop l.i l.all))
    × (l.before ≡ take l.i l.all)

use Rattle.std.proofs.Common.{◌≡◌, ◌+◌, ◌≤◌, ◌++◌, drop}
use Rattle.ang_gen.specs.Code.{swaps_code}
use Rattle.ang_gen.proofs.expression.write_swaps.Given as goal

abbrev pub invariant-loop-target : goal.invariant-loop-target
invariant-loop-target l =
    (swaps_code l.under l.base (drop l.target-index l.targets) ++ l.text ≡ swaps_code 1 l.base l.targets ++ l.initial.text) × (l.under ≤ l.target-index + 1)

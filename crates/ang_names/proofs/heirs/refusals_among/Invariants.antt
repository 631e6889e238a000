use Rattle.std.proofs.Common.{◌≡◌, ◌++◌, drop}
use Rattle.ang_names.specs.Heirs.{heir_refusal}
use Rattle.ang_names.specs.ByNumber.{refused_from}
use Rattle.ang_names.proofs.heirs.refusals_among.Given as goal

abbrev pub invariant-loop-number : goal.invariant-loop-number
invariant-loop-number l =
    refused_from (heir_refusal l.indexed) 0 l.families ≡ l.found.items ++ refused_from (heir_refusal l.indexed) l.number (drop l.number l.families)

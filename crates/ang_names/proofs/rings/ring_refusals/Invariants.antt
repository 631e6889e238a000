use Rattle.std.proofs.Common.{◌≡◌, ◌++◌, drop, length}
use Rattle.ang_names.specs.ByNumber.{refused_from, ring_refusal}
use Rattle.ang_names.proofs.rings.ring_refusals.Given as goal

abbrev pub invariant-loop-number : goal.invariant-loop-number
invariant-loop-number l =
    refused_from (ring_refusal l.kind l.closed (length l.families)) 0 l.families
    ≡ l.found.items ++ refused_from (ring_refusal l.kind l.closed (length l.families)) l.number (drop l.number l.families)

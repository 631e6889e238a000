use Rattle.std.proofs.Common.{◌≡◌, drop}
use Rattle.ang_names_known.specs.Headings.{heading_among}
use Rattle.ang_names_known.proofs.lookup.heading_among.Given as goal

abbrev pub invariant-loop-number : goal.invariant-loop-number
invariant-loop-number l =
    heading_among l.functions l.heading l.numbers ≡ heading_among l.functions l.heading (drop l.number-index l.numbers)

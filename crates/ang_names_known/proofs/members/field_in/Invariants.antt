use Rattle.std.proofs.Common.{◌≡◌, drop}
use Rattle.ang_names_known.specs.Lookup.{families_at, first_field, kin_of}
use Rattle.ang_names_known.proofs.members.field_in.Given as goal

abbrev pub invariant-loop-number : goal.invariant-loop-number
invariant-loop-number l =
    first_field l.name (kin_of l.families l.family) ≡ first_field l.name (families_at l.families (drop l.number-index l.order))

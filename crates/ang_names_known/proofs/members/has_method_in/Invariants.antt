use Rattle.std.proofs.Common.{◌≡◌, drop}
use Rattle.std.specs.List.{list_any}
use Rattle.ang_names_known.specs.Lookup.{declares_method, families_at, kin_of}
use Rattle.ang_names_known.proofs.members.has_method_in.Given as goal

abbrev pub invariant-loop-number : goal.invariant-loop-number
invariant-loop-number l =
    list_any (declares_method l.name) (kin_of l.families l.family) ≡ list_any (declares_method l.name) (families_at l.families (drop l.number-index l.order))

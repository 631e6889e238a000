use Rattle.std.proofs.Common.{◌≡◌, [], take, drop}
use Rattle.ang_names.specs.Refusals.{members_refusal}
use Rattle.ang_names.proofs.members.members_refusal.Given as goal

abbrev pub invariant-loop-i : goal.invariant-loop-i
invariant-loop-i l =
    (members_refusal l.space l.text l.family [] l.members
    ≡ members_refusal l.space l.text l.family (take l.i l.members) (drop l.i l.members))
    × (l.before.text ≡ l.text)
    × (l.before.items ≡ take l.i l.members)

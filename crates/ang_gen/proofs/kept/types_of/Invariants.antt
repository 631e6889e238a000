use Rattle.std.proofs.Common.{◌≡◌, take, map as list_map}
use Rattle.ang_gen.proofs.kept.types_of.Given as goal

abbrev pub invariant-loop-global : goal.invariant-loop-global
invariant-loop-global l = l.types.items ≡ list_map (λ g. g.ty) (take l.global-index l.globals)

-- Functions that a call can mean, kept as two lists beside one another.
use Rattle.std.specs.Prelude.{List, [], ◌∷◌}
use Rattle.ang_types.specs.declared.candidate.Candidate.{Candidate}
use Rattle.ang_check_uses.specs.declared.callables.CallTarget.{CallTarget}
use Rattle.ang_check_uses.specs.declared.uses.Callable.{Callable}

abbrev pub callable : CallTarget → Candidate → Callable
callable h c = record { called = h.called; result = h.result; candidate = c; reach = h.reach }

abbrev pub callables : List CallTarget → List Candidate → List Callable
callables [] cs = []
callables (h ∷ hs) [] = []
callables (h ∷ hs) (c ∷ cs) = callable h c ∷ callables hs cs

use Rattle.ang_host.specs.Laws.{IsLiveOption}
use Rattle.tests_api.proofs.drivers.asking.first_wrong.Given as goal

abbrev pub invariant-loop-at : goal.invariant-loop-at
invariant-loop-at g l = IsLiveOption (g.D.Driver.meaning.state l.driver) l.object

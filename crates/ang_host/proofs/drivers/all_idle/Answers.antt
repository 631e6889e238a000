use Rattle.std.proofs.Common.{rules, ◌≡◌, IsTrue}
use Rattle.std.specs.FinMap as map
use Rattle.ang_host.specs.Laws.{IsSound}
use Rattle.ang_host.proofs.Members.{states_more, fresh_all}
use Rattle.ang_host.proofs.drivers.all_idle.Goals as goal

pub loop-b-preserved : goal.loop-b-preserved
loop-b-preserved g c =
    let yes : IsTrue c.idle_at.result = search rules in
    states_more _ (λ s. (s.counts ≡ map.empty) × IsSound s) _ _ c.b-item.result c.loop-b-test.true c.b-item.is c.loop-b.invariant
    (c.idle_at.ensures.idle.exact.0 yes, c.idle_at.ensures.idle.sound)

pub returns-clause-idle : goal.returns-clause-idle
returns-clause-idle g c = λ _. fresh_all _ _ _ c.loop-b-test.false c.loop-b.invariant

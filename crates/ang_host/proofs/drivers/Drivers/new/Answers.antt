use Rattle.std.proofs.Common.{rules, IsTrue}
use Rattle.ang_host.proofs.drivers.Drivers.new.Goals as goal

pub returns-clause-fresh : goal.returns-clause-fresh
returns-clause-fresh g c = let h : IsTrue c.all_idle.result = search rules in rw (← c.deref.ensures.value) (c.all_idle.ensures.idle h)

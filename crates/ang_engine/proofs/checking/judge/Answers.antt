use Rattle.ang_engine_modules.specs.declared.modules.LoadedModule.{LoadedModule}
use Rattle.ang_engine.specs.Engines.{resolved_in}
use Rattle.ang_engine.proofs.Checks.{judged-errors, denied-errors}
use Rattle.ang_engine.proofs.checking.judge.Goals as goal

pub returns-in-Ok-clause-judged : goal.returns-in-Ok-clause-judged
returns-in-Ok-clause-judged c = (resolved_in c.in-Ok.compiled, c.in-Ok.ensures.compiled)

pub returns-in-Err-clause-judged : goal.returns-in-Err-clause-judged
returns-in-Err-clause-judged c = judged-errors (Unit {0}) c.in-Err.why _ c.in-Err.ensures.compiled

pub returns-in-Err-clause-denials : goal.returns-in-Err-clause-denials
returns-in-Err-clause-denials c = denied-errors LoadedModule (Unit {0}) c.in-Err.why _ c.in-Err.ensures.denials

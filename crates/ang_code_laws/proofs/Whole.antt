-- Whole runs, told the inputs that they take.
use Rattle.std.proofs.Common.{List, [], ◌++◌, subst}
use Rattle.ang_meaning.specs.World.{World, Input, with_inputs}
use Rattle.ang_meaning.specs.Environment.{Environment}
use Rattle.ang_code.specs.Machine.{Over}
use Rattle.ang_code.specs.Runs.{Completion, Gives, Stops, ended}
use Rattle.ang_code_laws.specs.Asked.{Asks, AsksFrom, CallRunsAsk, InitializerRunsAsk}
use Rattle.ang_code_laws.proofs.Asking.{calls_ask, initializers_ask}

-- what a run lists does not depend on the inputs that are left
end_asks : (z : Environment) (before after : List Input) (w w' : World) (end : Completion) → AsksFrom z (with_inputs before w) (Over (ended end (with_inputs after w'))) → Asks z w w'
end_asks z before after w w' (Gives v t) p = record { more = p.more; events = p.events; askings = p.askings }
end_asks z before after w w' (Stops x) p = record { more = p.more; events = p.events; askings = p.askings }

pub call_runs_ask : CallRunsAsk
call_runs_ask z code budget g vs w w' end run =
    let inputs = run.told.used ++ [] in
    let u = with_inputs inputs w in
    end_asks z inputs [] w w' end (subst (AsksFrom z u) (run.told.tells []) (calls_ask z code run.count budget g vs u))

pub initializer_runs_ask : InitializerRunsAsk
initializer_runs_ask z code t g w w' end run =
    let inputs = run.told.used ++ [] in
    let u = with_inputs inputs w in
    end_asks z inputs [] w w' end (subst (AsksFrom z u) (run.told.tells []) (initializers_ask z code run.count t g u))

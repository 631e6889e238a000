-- What the machine is told is what bodies are told.
use Rattle.std.proofs.Common.{subst}
use Rattle.ang_meaning.specs.Environment.{Environment}
use Rattle.ang_core.specs.Meaning.{Bodies}
use Rattle.ang_core.specs.Sound.{AreSound}
use Rattle.ang_code.specs.Machine.{Texts}
use Rattle.ang_code.specs.Told.{ComesFrom}
use Rattle.ang_code.proofs.Telling.{calls_come_from, initializers_come_from}
use Rattle.ang_gen.specs.BodyBehaves.{IsCode}
use Rattle.ang_gen.specs.Told.{AreTold}
use Rattle.ang_gen.proofs.Bodies.{behaves}

pub are_told : (z : Environment) (bodies : Bodies) (code : Texts) → AreSound z bodies → IsCode z bodies code → AreTold z bodies
are_told z bodies code sound is_code =
    let same = behaves z bodies code sound is_code in
    record {
      calls = λ budget g ps vs w known count. let p = same.calls budget g ps vs w known count in subst (λ c. ComesFrom w c) p.1 (calls_come_from z code p.0 budget g vs w);
      initializers = λ ticks g w known. let p = same.initializers ticks g w known in subst (λ c. ComesFrom w c) p.1 (initializers_come_from z code p.0 ticks g w);
    }

use Rattle.std.proofs.Common.{Some, None, ap, ◌∙◌, ◌≡◌}
use Rattle.ang_host.specs.Logs.{listed_in}
use Rattle.ang_host.specs.Boxes.{members}
use Rattle.ang_meaning.specs.declared.slot.Slot.TheVariants.{Host}
use Rattle.ang_meaning.specs.World.{give}
use Rattle.ang_meaning.proofs.Giving.{give_no_key}
use Rattle.ang_heap.specs.Parts.{counts_of, world_by}
use Rattle.ang_heap.specs.Heaps.{objects_of}
use Rattle.ang_heap.proofs.Hosting.{parts_none}
use Rattle.ang_heap.proofs.heap.Heap.give_up.Goals as goal

pub returns-in-Some-clause-gives : goal.returns-in-Some-clause-gives
returns-in-Some-clause-gives g c = λ gs n sp b is.
    let is_host : c.args.value ≡ Host c.in-Host.driver (Some c.in-Some.key) = c.in-Host.is ∙ ap (λ o. Host c.in-Host.driver o) c.in-Some.is in
    ap (λ v. give v (world_by (objects_of c.args.self.now) (counts_of (λ v. (g.dyn-1.0.entry v).1) (members c.args.drivers.now)) gs (listed_in c.args.events.now) n sp b is)) is_host
    ∙ c.release.ensures.gives (objects_of c.args.self.now) gs n sp b is

pub returns-in-None-clause-gives : goal.returns-in-None-clause-gives
returns-in-None-clause-gives g c = λ gs n sp b is.
    let is_no_key : c.args.value ≡ Host c.in-Host.driver None = c.in-Host.is ∙ ap (λ o. Host c.in-Host.driver o) c.in-None.is in
    ap (λ v. give v (world_by (objects_of c.args.self.now) (counts_of (λ v. (g.dyn-1.0.entry v).1) (members c.args.drivers.now)) gs (listed_in c.args.events.now) n sp b is)) is_no_key ∙ give_no_key _ _

pub returns-in-None-clause-moves : goal.returns-in-None-clause-moves
returns-in-None-clause-moves g c = λ roles. parts_none _ roles _ _

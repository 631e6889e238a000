use Rattle.std.proofs.Common.{false, ◌≡◌, [], ap, ◌∙◌, sym, subst}
use Rattle.std.specs.Prelude.{slice_index_or, slice_set}
use Rattle.ang_host.specs.Logs.{listed_in}
use Rattle.ang_host.specs.Boxes.{members}
use Rattle.ang_meaning.specs.World.{World}
use Rattle.ang_meaning.specs.Results.{give_back}
use Rattle.ang_meaning.specs.Counting.{EnoughIn}
use Rattle.ang_meaning.proofs.Enough.{counted_enough}
use Rattle.ang_heap.specs.Globals.{values_in}
use Rattle.ang_heap.specs.Parts.{counts_of, world_by}
use Rattle.ang_heap.specs.Heaps.{objects_of}
use Rattle.ang_engine_modules.specs.World.{unbounded}
use Rattle.ang_engine.proofs.GlobalsEnd.{taken_counted}
use Rattle.ang_engine.proofs.ending.end_module.Goals as goal

pub give_back-requires-clause-enough : goal.give_back-requires-clause-enough
give_back-requires-clause-enough g c =
    let w : World = world_by (objects_of c.args.heap.now) (counts_of (λ v. (g.dyn-1.0.entry v).1) (members c.args.drivers.now)) (values_in c.args.globals.now) [] 0 false unbounded [] in
    let vs = slice_index_or (values_in c.args.globals.now) c.args.home [] in
    let e : c.deref.result.now ≡ vs = c.deref.ensures.value ∙ c.take_globals-values.ensures.taken in
    let enough : EnoughIn vs w.objects w.hosts = counted_enough vs (record w { globals = slice_set w.globals c.args.home [] }) (taken_counted c.args.home w c.requires.counted) in
    subst (λ l. EnoughIn l w.objects w.hosts) (sym e) enough

pub returns-clause-ended : goal.returns-clause-ended
returns-clause-ended g c = λ n sp b is.
    let os = objects_of c.args.heap.now in
    let hs = counts_of (λ v. (g.dyn-1.0.entry v).1) (members c.args.drivers.now) in
    let e : c.deref.result.now ≡ slice_index_or (values_in c.args.globals.now) c.args.home [] = c.deref.ensures.value ∙ c.take_globals-values.ensures.taken in
    ap (λ l. give_back l (world_by os hs (slice_set (values_in c.args.globals.now) c.args.home []) (listed_in c.args.events.now) n sp b is)) (sym e)
    ∙ ap (λ q. give_back c.deref.result.now (world_by os hs q (listed_in c.args.events.now) n sp b is)) (sym c.take_globals-values.ensures.none)
    ∙ c.give_back.ensures.gives (values_in c.take_globals-values.new.globals) n sp b is

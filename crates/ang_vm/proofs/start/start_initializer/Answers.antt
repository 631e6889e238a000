use Rattle.std.proofs.Common.{◌≡◌, [], sym, ap, subst}
use Rattle.std.specs.Prelude.{reverse}
use Rattle.ang_meaning.specs.World.{with_inputs}
use Rattle.ang_meaning.specs.Counting.{IsCounted}
use Rattle.ang_code.specs.Machine.{begins}
use Rattle.ang_heap.specs.Stores.{world_of}
use Rattle.ang_vm_stack.specs.Tables.{setting_of, texts_of}
use Rattle.ang_vm_steps.proofs.Paths.{reach_same, reach_then}
use Rattle.ang_vm.proofs.start.start_initializer.Goals as goal

pub start-requires-clause-counted : goal.start-requires-clause-counted
start-requires-clause-counted g c = subst (λ l. IsCounted (reverse l) (world_of (λ v. (g.dyn-1.0.entry v).1) c.args.store.now)) (sym c.requires.empty) c.requires.counted

pub returns : goal.returns
returns g c =
    let code = texts_of c.args.table.now in
    let w = (world_of (λ v. (g.dyn-1.0.entry v).1) c.args.store.now) in
    let none : reverse c.args.stack.now.items ≡ [] = ap reverse c.requires.empty in
    record {
      starts = λ nesting. let z = setting_of c.args.table.now nesting in
          reach_then z code (reach_same z code (λ is. ap (λ s. begins code c.args.entry s [] c.args.ticks (with_inputs is w)) (sym none))) (c.start.ensures.starts nesting);
      fits = c.start.ensures.fits;
      moves = c.start.ensures.moves;
      callers = c.start.ensures.callers;
    }

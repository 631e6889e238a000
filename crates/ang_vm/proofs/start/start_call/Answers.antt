use Rattle.std.proofs.Common.{sym, ap, ◌∙◌, subst, arith}
use Rattle.std.specs.Prelude.{reverse}
use Rattle.ang_kinds.specs.declared.fault.Fault.TheVariants.{Budget}
use Rattle.ang_meaning.specs.World.{with_inputs}
use Rattle.ang_meaning.specs.Counting.{CanGive}
use Rattle.ang_meaning.proofs.Enough.{counted_enough}
use Rattle.ang_meaning.proofs.Telling.{told_same, told_then}
use Rattle.ang_code.specs.Machine.{fault}
use Rattle.ang_heap.specs.Stores.{world_of}
use Rattle.ang_vm_stack.specs.Tables.{setting_of, texts_of}
use Rattle.ang_vm_steps.proofs.Paths.{reach_same, reach_told, reach_then}
use Rattle.ang_vm.proofs.Running.{all_values, call_spent, call_starts}
use Rattle.ang_vm.proofs.start.start_call.Goals as goal

pub fail-requires : goal.fail-requires
fail-requires g c =
    let w = (world_of (λ v. (g.dyn-1.0.entry v).1) c.args.store.now) in
    let all = all_values c.args.stack.now.items c.len-held.result (omega (arith, c.len-held.ensures, c.args.stack.now.ok.0)) in
    record {
      within = omega (arith, c.len-held.ensures, c.args.stack.now.ok.0);
      ready = c.requires.ready;
      held = subst (λ l. CanGive l w) (sym all) (counted_enough (reverse c.args.stack.now.items) w c.requires.counted);
    }

pub returns-then-budget-eq0 : goal.returns-then-budget-eq0
returns-then-budget-eq0 g c =
    let code = texts_of c.args.table.now in
    let w = (world_of (λ v. (g.dyn-1.0.entry v).1) c.args.store.now) in
    let s = reverse c.args.stack.now.items in
    let all = all_values c.args.stack.now.items c.len-held.result (omega (arith, c.len-held.ensures, c.args.stack.now.ok.0)) in
    record {
      starts = λ nesting. let z = setting_of c.args.table.now nesting in
          reach_told z code (told_then (told_same (λ is. call_spent z code c.args.budget c.args.entry s (with_inputs is w) (omega arith) ∙ ap (λ x. fault Budget x (with_inputs is w)) (sym all))) c.fail.ensures.told);
      fits = tt;
      moves = c.fail.ensures.moves;
      callers = λ none. none;
    }

pub returns : goal.returns
returns g c =
    let code = texts_of c.args.table.now in
    let w = (world_of (λ v. (g.dyn-1.0.entry v).1) c.args.store.now) in
    let s = reverse c.args.stack.now.items in
    record {
      starts = λ nesting. let z = setting_of c.args.table.now nesting in
          reach_then z code (reach_same z code (λ is. call_starts z code c.args.budget c.args.entry s (with_inputs is w) (omega arith))) (c.start.ensures.starts nesting);
      fits = c.start.ensures.fits;
      moves = c.start.ensures.moves;
      callers = λ none. c.start.ensures.callers;
    }

use Rattle.std.proofs.Common.{◌≡◌, [], length, arith, sym, ap, ◌∙◌, subst}
use Rattle.std.specs.Prelude.{reverse}
use Rattle.ang_meaning.specs.World.{with_inputs}
use Rattle.ang_meaning.specs.Counting.{CanGive}
use Rattle.ang_meaning.proofs.Enough.{counted_enough}
use Rattle.ang_meaning.proofs.Telling.{told_same, told_then}
use Rattle.ang_code.specs.Machine.{begins}
use Rattle.ang_heap.specs.Stores.{world_of}
use Rattle.ang_heap.proofs.Storing.{moves_none}
use Rattle.ang_vm_stack.specs.Tables.{setting_of, texts_of}
use Rattle.ang_vm_steps.proofs.Paths.{reach_told}
use Rattle.ang_vm.specs.Legs.{AllFit, standing}
use Rattle.ang_vm.proofs.Running.{all_values}
use Rattle.ang_vm.proofs.start.start.Goals as goal

pub returns-in-Ok : goal.returns-in-Ok
returns-in-Ok g c =
    let code = texts_of c.args.table.now in
    let w = (world_of (λ v. (g.dyn-1.0.entry v).1) c.args.store.now) in
    let all = all_values c.args.stack.now.items c.len-top.result (omega (arith, c.len-top.ensures, c.args.stack.now.ok.0)) in
    let none : reverse c.clear.new.self.items ≡ [] = ap reverse c.clear.ensures.items in
    record {
      starts = λ nesting. reach_told (setting_of c.args.table.now nesting) code
          (told_then (told_same (λ is. ap (λ s. begins code c.args.entry s [] c.args.ticks (with_inputs is w)) (sym all)))
          (told_then (c.in-Ok.ensures.told [] w) (told_same (λ is. ap (λ fr. standing c.in-Ok.standing c.begin.new.stack.items fr (with_inputs is w)) (sym none)))));
      fits = record { values = c.in-Ok.ensures.in_room.0; body = c.in-Ok.ensures.in_room.1; callers = subst (AllFit (length c.begin.new.stack.items)) (sym none) tt };
      moves = λ roles. moves_none (λ v. (g.dyn-1.0.entry v).1) roles c.args.store.now;
      callers = c.clear.ensures.items;
    }

pub give_up-requires : goal.give_up-requires
give_up-requires g c =
    let w = (world_of (λ v. (g.dyn-1.0.entry v).1) c.args.store.now) in
    let all = all_values c.args.stack.now.items c.len-top.result (omega (arith, c.len-top.ensures, c.args.stack.now.ok.0)) in
    record {
      within = omega (arith, c.in-Err.ensures.grows, c.len-top.ensures, c.args.stack.now.ok.0);
      ready = c.requires.ready;
      held = subst (λ l. CanGive l w) (sym all ∙ sym c.in-Err.ensures.same) (counted_enough (reverse c.args.stack.now.items) w c.requires.counted);
    }

pub returns-in-Err : goal.returns-in-Err
returns-in-Err g c =
    let code = texts_of c.args.table.now in
    let w = (world_of (λ v. (g.dyn-1.0.entry v).1) c.args.store.now) in
    let all = all_values c.args.stack.now.items c.len-top.result (omega (arith, c.len-top.ensures, c.args.stack.now.ok.0)) in
    record {
      starts = λ nesting. reach_told (setting_of c.args.table.now nesting) code
          (told_then (told_same (λ is. ap (λ s. begins code c.args.entry s [] c.args.ticks (with_inputs is w)) (sym all)))
          (told_then (c.in-Err.ensures.told [] w) (c.give_up.ensures.told [])));
      fits = tt;
      moves = c.give_up.ensures.moves;
      callers = c.clear.ensures.items;
    }

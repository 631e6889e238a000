use Rattle.std.proofs.Common.{◌≤◌, ◌+◌, ◌-◌, length, refl, sym, arith}
use Rattle.ang_code.specs.Machine.{take_some}
use Rattle.ang_heap.specs.Stores.{world_of}
use Rattle.ang_heap.proofs.Storing.{moves_none}
use Rattle.ang_vm_stack.specs.Stacks.{values}
use Rattle.ang_vm_stack.specs.Tables.{setting_of}
use Rattle.ang_vm_steps.proofs.TopValues.{do_unfit, do_short, do_full, do_told, room_left}
use Rattle.ang_vm_steps.proofs.asks.ask_host.Goals as goal

pub returns-in-None : goal.returns-in-None
returns-in-None g c =
    let deep : c.args.top ≤ length c.args.stack.now = omega (arith, c.requires.in_room, c.requires.within) in
    let w = world_of (λ v. (g.dyn-1.0.entry v).1) c.args.store.now in
    record {
      acts = λ nesting code. do_unfit (setting_of c.args.table.now nesting) code c.args.operation c.args.room c.args.top c.args.stack.now c.args.stack.now w deep c.args.body (c.in-None.ensures.none c.requires.asks nesting);
      in_room = tt;
      moves = λ roles h. moves_none _ roles _;
      ready = c.requires.ready;
      count = refl;
    }

pub returns-then-count-top : goal.returns-then-count-top
returns-then-count-top g c =
    let deep : c.args.top ≤ length c.args.stack.now = omega (arith, c.requires.in_room, c.requires.within) in
    let w = world_of (λ v. (g.dyn-1.0.entry v).1) c.args.store.now in
    record {
      acts = λ nesting code.
          let fit = c.in-Some.ensures.some nesting in
          do_short (setting_of c.args.table.now nesting) code c.args.operation c.args.room c.args.top c.args.stack.now c.args.stack.now w deep c.args.body fit.0 c.in-Some.count (sym fit.1) (omega arith);
      in_room = tt;
      moves = λ roles h. moves_none _ roles _;
      ready = c.requires.ready;
      count = refl;
    }

pub returns-then-top-count : goal.returns-then-top-count
returns-then-top-count g c =
    let deep : c.args.top ≤ length c.args.stack.now = omega (arith, c.requires.in_room, c.requires.within) in
    let w = world_of (λ v. (g.dyn-1.0.entry v).1) c.args.store.now in
    record {
      acts = λ nesting code.
          let fit = c.in-Some.ensures.some nesting in
          do_full (setting_of c.args.table.now nesting) code c.args.operation c.args.room c.args.top c.args.stack.now c.args.stack.now w deep c.args.body fit.0 c.in-Some.count (sym fit.1) (omega arith) (omega arith);
      in_room = tt;
      moves = λ roles h. moves_none _ roles _;
      ready = c.requires.ready;
      count = refl;
    }

pub returns-else-top-count : goal.returns-else-top-count
returns-else-top-count g c =
    let deep : c.args.top ≤ length c.args.stack.now = omega (arith, c.requires.in_room, c.requires.within) in
    let w = world_of (λ v. (g.dyn-1.0.entry v).1) c.args.store.now in
    let n = c.in-Some.count in
    record {
      acts = λ nesting code.
          let fit = c.in-Some.ensures.some nesting in
          do_told (setting_of c.args.table.now nesting) code c.args.operation c.args.room c.args.top c.args.stack.now _ w deep c.args.body fit.0 n (sym fit.1) (omega arith) (omega arith)
          (take_some n (values c.args.stack.now c.args.top)) c.perform_on_host-answer.result c.put_answer.result refl (world_of (λ v. (g.dyn-1.0.entry v).1) c.perform_on_host-answer.new.store)
          (c.perform_on_host-answer.ensures.told nesting c.requires.asks fit.0 fit.1) (λ pc fr t u. c.put_answer.ensures.exact c.args.room c.args.body pc fr t u) c.put_answer.ensures.fails;
      in_room = room_left c.put_answer.result (c.args.top - n + 1) c.args.room (omega arith) c.put_answer.ensures.in_room;
      moves = c.perform_on_host-answer.ensures.moves;
      ready = c.perform_on_host-answer.ensures.ready;
      count = c.perform_on_host-answer.ensures.count;
    }

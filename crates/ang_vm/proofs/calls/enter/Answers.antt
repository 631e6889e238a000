use Rattle.std.proofs.Common.{◌≡◌, ◌≤◌, length, sym, ap, ◌∙◌, arith, Some, None}
use Rattle.std.specs.Prelude.{reverse}
use Rattle.ang_meaning.specs.World.{with_inputs}
use Rattle.ang_meaning.specs.Environment.{target}
use Rattle.ang_meaning.proofs.Telling.{told_same, told_then}
use Rattle.ang_code.specs.Machine.{found_enters}
use Rattle.ang_heap.specs.Stores.{world_of}
use Rattle.ang_vm_stack.specs.Stacks.{values}
use Rattle.ang_vm_stack.specs.Tables.{body_of, setting_of, texts_of}
use Rattle.ang_vm_steps.proofs.Paths.{reach_told, reach_then}
use Rattle.ang_vm.specs.Legs.{caller_at}
use Rattle.ang_vm.proofs.Going.{none_there}
use Rattle.ang_vm.proofs.Tracing.{refused_by, refused_after}
use Rattle.ang_vm.proofs.calls.enter.Goals as goal

pub returns-in-Ok-enter_body-clause-reaches : goal.returns-in-Ok-enter_body-clause-reaches
returns-in-Ok-enter_body-clause-reaches g c =
    let z = setting_of c.args.table.now c.args.nesting in
    let f = c.args.from in
    let w = (world_of (λ v. (g.dyn-1.0.entry v).1) c.args.store.now) in
    let s = values c.args.stack.now.items f.place.top in
    reach_told z (texts_of c.args.table.now) (told_then (told_same (λ is. ap (λ e. found_enters z (texts_of c.args.table.now) e s (reverse c.args.frames.now.items) (caller_at f) f.place.ticks (with_inputs is w))
    (sym (ap (λ l. target z f.body.home c.args.callee (values l f.place.top) (with_inputs is w)) c.as_slice.ensures.value) ∙ c.in-Ok.ensures.exact c.args.nesting is)))
    (c.in-Ok-enter_body.ensures.told w))

pub returns-in-Err-enter_body-clause-reaches : goal.returns-in-Err-enter_body-clause-reaches
returns-in-Err-enter_body-clause-reaches g c =
    let z = setting_of c.args.table.now c.args.nesting in
    let f = c.args.from in
    let w = (world_of (λ v. (g.dyn-1.0.entry v).1) c.args.store.now) in
    let s = values c.args.stack.now.items f.place.top in
    reach_told z (texts_of c.args.table.now) (told_then (told_same (λ is. ap (λ e. found_enters z (texts_of c.args.table.now) e s (reverse c.args.frames.now.items) (caller_at f) f.place.ticks (with_inputs is w))
    (sym (ap (λ l. target z f.body.home c.args.callee (values l f.place.top) (with_inputs is w)) c.as_slice.ensures.value) ∙ c.in-Ok.ensures.exact c.args.nesting is)))
    (c.in-Err-enter_body.ensures.told w))

pub returns-in-Err-clause-reaches : goal.returns-in-Err-clause-reaches
returns-in-Err-clause-reaches g c =
    let z = setting_of c.args.table.now c.args.nesting in
    let f = c.args.from in
    let w = (world_of (λ v. (g.dyn-1.0.entry v).1) c.args.store.now) in
    let s = values c.args.stack.now.items f.place.top in
    reach_told z (texts_of c.args.table.now) (told_same (λ is. ap (λ e. found_enters z (texts_of c.args.table.now) e s (reverse c.args.frames.now.items) (caller_at f) f.place.ticks (with_inputs is w))
    (sym (ap (λ l. target z f.body.home c.args.callee (values l f.place.top) (with_inputs is w)) c.as_slice.ensures.value) ∙ c.in-Err.ensures.exact c.args.nesting is)))

-- a function that there is not
pub returns-in_default-clause-reaches : goal.returns-in_default-clause-reaches
returns-in_default-clause-reaches g c =
    let z = setting_of c.args.table.now c.args.nesting in
    let f = c.args.from in
    let stack = c.args.stack.now.items in
    let deep : f.place.top ≤ length stack = omega (arith, c.requires.fits.values, c.requires.fits.body) in
    let w = (world_of (λ v. (g.dyn-1.0.entry v).1) c.args.store.now) in
    let s = values stack f.place.top in
    let none : body_of c.args.table.now c.in-Ok.body ≡ None = none_there _ (λ code. body_of c.args.table.now c.in-Ok.body ≡ Some code.now) c.body_at.result c.in_default.is c.body_at.ensures.exact in
    reach_then z (texts_of c.args.table.now)
    (reach_told z (texts_of c.args.table.now) (told_same (λ is. ap (λ e. found_enters z (texts_of c.args.table.now) e s (reverse c.args.frames.now.items) (caller_at f) f.place.ticks (with_inputs is w))
    (sym (ap (λ l. target z f.body.home c.args.callee (values l f.place.top) (with_inputs is w)) c.as_slice.ensures.value) ∙ c.in-Ok.ensures.exact c.args.nesting is))))
    (c.enter_nothing.ensures.reaches c.args.table.now c.in-Ok.body stack f.place.top (caller_at f) w none deep)

-- why it is not entered
pub returns-in-Err-enter_body-clause-refused : goal.returns-in-Err-enter_body-clause-refused
returns-in-Err-enter_body-clause-refused g c =
    let z = setting_of c.args.table.now c.args.nesting in
    let f = c.args.from in
    let w = (world_of (λ v. (g.dyn-1.0.entry v).1) c.args.store.now) in
    let s = values c.args.stack.now.items f.place.top in
    refused_by c.in-Err-enter_body.stop f.place.top c.enter_body.new.stack.items (reverse c.enter_body.new.frames.items) w (told_then (told_same (λ is. ap (λ e. found_enters z (texts_of c.args.table.now) e s (reverse c.args.frames.now.items) (caller_at f) f.place.ticks (with_inputs is w))
    (sym (ap (λ l. target z f.body.home c.args.callee (values l f.place.top) (with_inputs is w)) c.as_slice.ensures.value) ∙ c.in-Ok.ensures.exact c.args.nesting is)))
    (c.in-Err-enter_body.ensures.told w))

pub returns-in-Err-clause-refused : goal.returns-in-Err-clause-refused
returns-in-Err-clause-refused g c =
    let z = setting_of c.args.table.now c.args.nesting in
    let f = c.args.from in
    let w = (world_of (λ v. (g.dyn-1.0.entry v).1) c.args.store.now) in
    let s = values c.args.stack.now.items f.place.top in
    told_same (λ is. ap (λ e. found_enters z (texts_of c.args.table.now) e s (reverse c.args.frames.now.items) (caller_at f) f.place.ticks (with_inputs is w))
    (sym (ap (λ l. target z f.body.home c.args.callee (values l f.place.top) (with_inputs is w)) c.as_slice.ensures.value) ∙ c.in-Err.ensures.exact c.args.nesting is))

pub returns-in_default-clause-refused : goal.returns-in_default-clause-refused
returns-in_default-clause-refused g c =
    let z = setting_of c.args.table.now c.args.nesting in
    let f = c.args.from in
    let stack = c.args.stack.now.items in
    let deep : f.place.top ≤ length stack = omega (arith, c.requires.fits.values, c.requires.fits.body) in
    let w = (world_of (λ v. (g.dyn-1.0.entry v).1) c.args.store.now) in
    let s = values stack f.place.top in
    let none : body_of c.args.table.now c.in-Ok.body ≡ None = none_there _ (λ code. body_of c.args.table.now c.in-Ok.body ≡ Some code.now) c.body_at.result c.in_default.is c.body_at.ensures.exact in
    refused_after c.enter_nothing.result s w (told_same (λ is. ap (λ e. found_enters z (texts_of c.args.table.now) e s (reverse c.args.frames.now.items) (caller_at f) f.place.ticks (with_inputs is w))
    (sym (ap (λ l. target z f.body.home c.args.callee (values l f.place.top) (with_inputs is w)) c.as_slice.ensures.value) ∙ c.in-Ok.ensures.exact c.args.nesting is)))
    (c.enter_nothing.ensures.refuses c.args.table.now c.in-Ok.body stack f.place.top (caller_at f) w none deep)

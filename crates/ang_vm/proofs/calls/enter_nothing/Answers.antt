use Rattle.std.proofs.Common.{◌+◌, ◌-◌, ◌<◌, ◌∷◌, length, refl, ap, arith}
use Rattle.std.specs.Prelude.{reverse}
use Rattle.std.proofs.lemmas.List.{length-reverse}
use Rattle.ang_meaning.specs.World.{with_inputs}
use Rattle.ang_meaning.specs.Environment.{has_objects}
use Rattle.ang_meaning.proofs.Telling.{told_same, told_then}
use Rattle.ang_vm_stack.specs.Stacks.{values}
use Rattle.ang_vm_stack.specs.Tables.{setting_of, texts_of}
use Rattle.ang_vm_steps.proofs.Paths.{reach_told, reach_then}
use Rattle.ang_vm.proofs.Calling.{enters_deep, enters_spent, enters_begins, begins_there}
use Rattle.ang_vm.proofs.Going.{params_nowhere, lost_place}
use Rattle.ang_vm.proofs.calls.enter_nothing.Goals as goal

pub returns-then-nesting-len : goal.returns-then-nesting-len
returns-then-nesting-len c = record {
  reaches = λ t f stack top caller w missing deep.
      let z = setting_of t c.args.nesting in
      let none = params_nowhere t f c.args.nesting missing in
      let objects = ap (λ ps. has_objects ps (values stack top)) none in
      let callers = length-reverse c.args.frames.now.items in
      reach_told z (texts_of t) (told_same (λ is. enters_deep z (texts_of t) f stack top (reverse c.args.frames.now.items) caller c.args.place.ticks deep (omega (arith, ap length none)) objects
      (omega (arith, callers, c.len.ensures, c.args.frames.now.ok.0)) (with_inputs is w)));
  refuses = λ t f stack top caller w missing deep.
      let z = setting_of t c.args.nesting in
      let none = params_nowhere t f c.args.nesting missing in
      let objects = ap (λ ps. has_objects ps (values stack top)) none in
      let callers = length-reverse c.args.frames.now.items in
      told_same (λ is. enters_deep z (texts_of t) f stack top (reverse c.args.frames.now.items) caller c.args.place.ticks deep (omega (arith, ap length none)) objects
      (omega (arith, callers, c.len.ensures, c.args.frames.now.ok.0)) (with_inputs is w));
}

pub returns-then-place-eq0 : goal.returns-then-place-eq0
returns-then-place-eq0 c = record {
  reaches = λ t f stack top caller w missing deep.
      let z = setting_of t c.args.nesting in
      let none = params_nowhere t f c.args.nesting missing in
      let objects = ap (λ ps. has_objects ps (values stack top)) none in
      let callers = length-reverse c.args.frames.now.items in
      let nests : length (reverse c.args.frames.now.items) + 1 < c.args.nesting = omega (arith, callers, c.len.ensures, c.args.frames.now.ok.0) in
      reach_told z (texts_of t) (told_same (λ is. enters_spent z (texts_of t) f stack top (reverse c.args.frames.now.items) caller c.args.place.ticks deep (omega (arith, ap length none)) objects nests (omega arith) (with_inputs is w)));
  refuses = λ t f stack top caller w missing deep.
      let z = setting_of t c.args.nesting in
      let none = params_nowhere t f c.args.nesting missing in
      let objects = ap (λ ps. has_objects ps (values stack top)) none in
      let callers = length-reverse c.args.frames.now.items in
      let nests : length (reverse c.args.frames.now.items) + 1 < c.args.nesting = omega (arith, callers, c.len.ensures, c.args.frames.now.ok.0) in
      told_same (λ is. enters_spent z (texts_of t) f stack top (reverse c.args.frames.now.items) caller c.args.place.ticks deep (omega (arith, ap length none)) objects nests (omega arith) (with_inputs is w));
}

pub returns : goal.returns
returns c = record {
  reaches = λ t f stack top caller w missing deep.
      let z = setting_of t c.args.nesting in
      let none = params_nowhere t f c.args.nesting missing in
      let objects = ap (λ ps. has_objects ps (values stack top)) none in
      let callers = length-reverse c.args.frames.now.items in
      let nests : length (reverse c.args.frames.now.items) + 1 < c.args.nesting = omega (arith, callers, c.len.ensures, c.args.frames.now.ok.0) in
      let room = length (values stack top) + (texts_of t).height f in
      reach_then z (texts_of t)
      (reach_told z (texts_of t) (told_then (told_same (λ is. enters_begins z (texts_of t) f stack top (reverse c.args.frames.now.items) caller c.args.place.ticks deep (omega (arith, ap length none)) objects nests (omega arith) (with_inputs is w)))
      (begins_there (texts_of t) f stack top (caller ∷ reverse c.args.frames.now.items) (c.args.place.ticks - 1) w stack room refl refl)))
      (lost_place t c.args.nesting f room (record { at = 0; top = top; ticks = c.args.place.ticks - 1 }) stack (caller ∷ reverse c.args.frames.now.items) w missing);
  refuses = λ t f stack top caller w missing deep. tt;
}

use Rattle.std.proofs.Common.{◌≡◌, ◌+◌, ◌-◌, drop, sym, ap, ◌∙◌, cond, false, arith}
use Rattle.std.proofs.lemmas.List.{get_or_default}
use Rattle.ang_meaning.specs.Environment.{has_objects}
use Rattle.ang_vm_stack.specs.Stacks.{values}
use Rattle.ang_vm_steps.proofs.WantedObjects.{objects_turn, none_left}
use Rattle.ang_vm_steps.proofs.objects.have_objects.Goals as goal

pub loop-i-init : goal.loop-i-init
loop-i-init c = let e : c.args.top ≡ c.args.top - 0 = omega arith in ap (λ n. has_objects c.args.params.now (values c.args.stack.now n)) e

pub returns-then-misses_object : goal.returns-then-misses_object
returns-then-misses_object c =
    let i = c.loop-i.i in
    let rest = has_objects (drop (i + 1) c.args.params.now) (values c.args.stack.now (c.args.top - (i + 1))) in
    record {
      exact = sym (c.loop-i.invariant ∙ objects_turn c.args.params.now c.args.stack.now c.args.top i _ c.peek-value.result (omega arith) c.requires.enough c.requires.within (get_or_default c.args.params.now i _ _ (omega arith)) c.peek-value.ensures.exact
          ∙ ap (λ b. cond b false rest) (sym c.misses_object.ensures.exact ∙ c.if-misses_object.true));
    }

pub loop-i-preserved : goal.loop-i-preserved
loop-i-preserved c =
    let i = c.loop-i.i in
    let rest = has_objects (drop (i + 1) c.args.params.now) (values c.args.stack.now (c.args.top - (i + 1))) in
    c.loop-i.invariant ∙ objects_turn c.args.params.now c.args.stack.now c.args.top i _ c.peek-value.result (omega arith) c.requires.enough c.requires.within (get_or_default c.args.params.now i _ _ (omega arith)) c.peek-value.ensures.exact
    ∙ ap (λ b. cond b false rest) (sym c.misses_object.ensures.exact ∙ c.if-misses_object.false)

pub returns : goal.returns
returns c = record { exact = sym (c.loop-i.invariant ∙ ap (λ ps. has_objects ps (values c.args.stack.now (c.args.top - c.loop-i.i))) (none_left c.args.params.now c.loop-i.i (omega arith))) }

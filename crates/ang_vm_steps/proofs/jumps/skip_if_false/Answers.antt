use Rattle.std.proofs.Common.{ap, inl, inr, arith}
use Rattle.ang_meaning.specs.Results.{on_test}
use Rattle.ang_vm_steps.proofs.Turning.{skip_nothing, skip_true, skip_passes, skip_out, skip_null}
use Rattle.ang_vm_steps.proofs.jumps.skip_if_false.Goals as goal

pub returns-then-here-eq0 : goal.returns-then-here-eq0
returns-then-here-eq0 c =
    record { turned = λ t f w is_next. skip_nothing t f c.args.room c.args.here c.args.stack.now w c.requires.in_room c.args.count c.args.size is_next (omega arith) }

pub returns-then-n-ne0 : goal.returns-then-n-ne0
returns-then-n-ne0 c =
    record { turned = λ t f w is_next. skip_true t f c.args.room c.args.here c.args.stack.now w c.requires.in_room c.args.count c.args.size is_next c.peek.result (omega arith) c.requires.within c.peek.ensures.exact c.in-Bits.n c.in-Bits.is c.if-n-ne0.true }

pub returns-in-Some : goal.returns-in-Some
returns-in-Some c =
    record { turned = λ t f w is_next. skip_passes t f c.args.room c.args.here c.args.stack.now w c.requires.in_room c.args.count c.args.size is_next c.peek.result (omega arith) c.requires.within c.peek.ensures.exact c.in-Bits.n c.in-Some.at c.in-Bits.is (omega arith) c.in-Some.ensures.some.0 }

pub returns-in-None : goal.returns-in-None
returns-in-None c =
    record { turned = λ t f w is_next. skip_out t f c.args.room c.args.here c.args.stack.now w c.requires.in_room c.args.count c.args.size is_next c.peek.result (omega arith) c.requires.within c.peek.ensures.exact c.in-Bits.n c.in-Bits.is (omega arith) c.in-None.ensures.none }

pub returns-in-Script : goal.returns-in-Script
returns-in-Script c =
    record {
      turned = λ t f w is_next. skip_null t f c.args.room c.args.here c.args.stack.now w c.requires.in_room c.args.count c.args.size is_next c.peek.result (omega arith) c.requires.within c.peek.ensures.exact
          (λ bad off on. elim c.in-Script.is [ inl h ↦ ap (λ v. on_test v bad off on) h.1 | inr h ↦ ap (λ v. on_test v bad off on) h.2 ]);
    }

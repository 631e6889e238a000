use Rattle.std.proofs.Common.{[], sym, ap, ◌∙◌, subst}
use Rattle.std.specs.Prelude.{reverse}
use Rattle.ang_meaning.specs.Counting.{IsCounted}
use Rattle.ang_meaning.proofs.Counted.{counted_as}
use Rattle.ang_heap.specs.Stores.{world_of}
use Rattle.ang_vm.specs.Machines.{lent}
use Rattle.ang_engine_modules.specs.Executed.{call_of}
use Rattle.ang_engine_modules.specs.Ends.{Ends}
use Rattle.ang_engine_modules.specs.Loaded.{modules_of}
use Rattle.ang_engine.specs.Outcomes.{outcome_as}
use Rattle.ang_engine.proofs.Calls.{answered-by, reverse-plain}
use Rattle.ang_engine.proofs.calling.run_chosen.Goals as goal

pub call-answer-requires-clause-counted : goal.call-answer-requires-clause-counted
call-answer-requires-clause-counted g c =
    let w = world_of (λ v. (g.dyn-1.0.entry v).1) (lent c.args.machine.now c.args.events.now) in
    let vs = c.args.chosen.now.args.items in
    subst (λ l. IsCounted (reverse l) w) (sym c.deref.ensures.value) (counted_as [] (reverse vs) w (λ x. sym (reverse-plain vs c.requires.plain x)) c.requires.counted)

pub returns-clause-means : goal.returns-clause-means
returns-clause-means g c =
    let u = world_of (λ v. (g.dyn-1.0.entry v).1) (lent c.args.machine.now c.args.events.now) in
    let x = world_of (λ v. (g.dyn-1.0.entry v).1) (lent c.call-answer.new.machine c.call-answer.new.events) in
    λ names typed.
    record {
      function = typed.function;
      at = typed.at;
      value = c.call-answer.ensures.means.result;
      ended = c.call_outcome.ensures.exact ∙ ap outcome_as c.call-answer.ensures.means.answered ∙ answered-by _ typed.function c.call-answer.ensures.means.result typed.result;
      ends = subst (λ l. Ends (call_of (modules_of c.args.code.now) c.args.budget c.args.home c.args.chosen.now.number l) u c.call-answer.ensures.means.result x) c.deref.ensures.value
          c.call-answer.ensures.means.ends;
    }

pub returns-clause-asked : goal.returns-clause-asked
returns-clause-asked g c = record {
  asked = c.call-answer.ensures.asked;
  moves = c.call-answer.ensures.moves;
  ready = λ q. c.call-answer.ensures.ready;
  counted = λ q. c.call-answer.ensures.counted;
}

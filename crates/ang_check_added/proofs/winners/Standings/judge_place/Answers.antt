use Rattle.std.specs.Prelude.{None}
use Rattle.std.proofs.Common.{arith}
use Rattle.ang_check_added.specs.Sets.{has}
use Rattle.ang_check_added.proofs.WinnerLaws.{kind_more, kinds_end}
use Rattle.ang_check_added.proofs.winners.Standings.judge_place.Goals as goal

pub loop-kind-preserved : goal.loop-kind-preserved
loop-kind-preserved c =
    let l = c.loop-kind in
    let sets = c.args.sets.now in
    let verdicts = c.args.verdicts.now in
    let v = c.verdict_of_kind.result in
    let new = c.judge_kind.new.self in
    record {
      lost = λ k n only.
          kind_more sets verdicts 2 k n only l.kind v None (has c.args.self.now.lost.words n) (has l.self.lost.words n) (has new.lost.words n)
          c.loop-kind-test.true c.verdict_of_kind.ensures.exact (l.invariant.lost k n only) (c.judge_kind.ensures.lost n);
      ahead = λ k n only.
          kind_more sets verdicts 1 k n only l.kind v None (has c.args.self.now.ahead.words n) (has l.self.ahead.words n) (has new.ahead.words n)
          c.loop-kind-test.true c.verdict_of_kind.ensures.exact (l.invariant.ahead k n only) (c.judge_kind.ensures.ahead n);
    }

pub returns-clause-lost : goal.returns-clause-lost
returns-clause-lost c k n only =
    let l = c.loop-kind in
    kinds_end c.args.sets.now c.args.verdicts.now 2 k n only l.kind (has c.args.self.now.lost.words n) (has l.self.lost.words n) (omega arith) (l.invariant.lost k n only)

pub returns-clause-ahead : goal.returns-clause-ahead
returns-clause-ahead c k n only =
    let l = c.loop-kind in
    kinds_end c.args.sets.now c.args.verdicts.now 1 k n only l.kind (has c.args.self.now.ahead.words n) (has l.self.ahead.words n) (omega arith) (l.invariant.ahead k n only)

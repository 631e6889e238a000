use Rattle.std.proofs.Common.{◌≡◌, sym, ap, ◌∙◌}
use Rattle.ang_names_known.specs.Kinds.{kinds_at}
use Rattle.ang_check_uses.specs.Choosing.{contender_in, functions_in}
use Rattle.ang_check_contest.specs.Contest.{after, entered}
use Rattle.ang_check_contest.specs.Told.{Telling}
use Rattle.ang_check_uses.proofs.ToldChoices.{function_told, no_function}
use Rattle.ang_check_uses.proofs.told_scripts.enter_told_function.Goals as goal

pub returns-in_default-clause-entered : goal.returns-in_default-clause-entered
returns-in_default-clause-entered c =
    let t = c.args.contest.now.telling in
    let fs = functions_in c.args.declared c.args.functions.now in
    sym (ap (after t.ancestors t.args c.args.contest.now.standing) (no_function c.args.declared fs c.args.number 0 c.args.functions.now.kinds (c.in_default.ensures.says 0)))

pub returns-then-passes-clause-entered : goal.returns-then-passes-clause-entered
returns-then-passes-clause-entered c =
    let t = c.args.contest.now.telling in
    let list = c.args.declared in
    let row = c.in-Some.row.now in
    function_told t.ancestors t.args list (functions_in list c.args.functions.now) c.args.number 0 c.args.functions.now.kinds row c.args.contest.now.standing c.passes.new.self.standing
    (c.in-Some.ensures.says 0)
    (λ params are. c.passes.ensures.passed c.if-passes.true params (contender_in list c.args.number) (ap (λ kinds. kinds_at kinds row) c.requires.kinds ∙ are))

pub returns-clause-entered : goal.returns-clause-entered
returns-clause-entered c =
    let t = c.args.contest.now.telling in
    let list = c.args.declared in
    let row = c.in-Some.row.now in
    let same = c.passes.ensures.same in
    let left = c.passes.ensures.left c.if-passes.false in
    let named = c.contender_in.ensures.exact in
    function_told t.ancestors t.args list (functions_in list c.args.functions.now) c.args.number 0 c.args.functions.now.kinds row c.args.contest.now.standing c.enter.new.self.standing
    (c.in-Some.ensures.says 0)
    (λ params are.
    c.in_ok-enter.ensures.entered params (ap (λ (t : Telling). kinds_at t.kinds row) same ∙ (ap (λ kinds. kinds_at kinds row) c.requires.kinds ∙ are))
    ∙ (λ i. entered (same i).ancestors (same i).args (left i) (named i) params))

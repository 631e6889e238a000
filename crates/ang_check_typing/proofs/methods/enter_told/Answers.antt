use Rattle.std.proofs.Common.{rules, ◌≡◌, true, slice_get, sym, ap, ◌∙◌}
use Rattle.ang_names_known.specs.Kinds.{kinds_at}
use Rattle.ang_check_contest.specs.declared.score.Contender.TheVariants as contender
use Rattle.ang_check_contest.specs.Contest.{after, entered}
use Rattle.ang_check_contest.specs.Told.{Telling}
use Rattle.ang_check_typing.specs.Methods.{can_be_called}
use Rattle.ang_check_typing.proofs.ToldMethods.{method_told, not_told}
use Rattle.ang_check_typing.proofs.methods.enter_told.Goals as goal

pub returns-in_default-clause-entered : goal.returns-in_default-clause-entered
returns-in_default-clause-entered c =
    let t = c.args.contest.now.telling in
    let method = slice_get c.args.methods.now.methods c.args.place in
    sym (ap (after t.ancestors t.args c.args.contest.now.standing) (not_told c.args.dispatch c.args.number c.args.place method c.args.methods.now.kinds (c.in_default.ensures.says c.args.number)))

pub returns-then-passes-clause-entered : goal.returns-then-passes-clause-entered
returns-then-passes-clause-entered c =
    let t = c.args.contest.now.telling in
    let method = slice_get c.args.methods.now.methods c.args.place in
    let row = c.in-Some.row.now in
    let called : can_be_called c.args.dispatch method ≡ true = search rules in
    method_told t.ancestors t.args c.args.dispatch c.args.number c.args.place method c.args.methods.now.kinds row c.args.contest.now.standing c.passes.new.self.standing
    called (c.in-Some.ensures.says c.args.number)
    (λ params are. c.passes.ensures.passed c.if-passes.true params (contender.Method c.args.place) (ap (λ kinds. kinds_at kinds row) c.requires.kinds ∙ are))

pub returns-clause-entered : goal.returns-clause-entered
returns-clause-entered c =
    let t = c.args.contest.now.telling in
    let method = slice_get c.args.methods.now.methods c.args.place in
    let row = c.in-Some.row.now in
    let called : can_be_called c.args.dispatch method ≡ true = search rules in
    let same = c.passes.ensures.same in
    let left = c.passes.ensures.left c.if-passes.false in
    method_told t.ancestors t.args c.args.dispatch c.args.number c.args.place method c.args.methods.now.kinds row c.args.contest.now.standing c.enter.new.self.standing
    called (c.in-Some.ensures.says c.args.number)
    (λ params are.
    c.in_ok-enter.ensures.entered params (ap (λ (t : Telling). kinds_at t.kinds row) same ∙ (ap (λ kinds. kinds_at kinds row) c.requires.kinds ∙ are))
    ∙ (λ i. entered (same i).ancestors (same i).args (left i) (contender.Method c.args.place) params))

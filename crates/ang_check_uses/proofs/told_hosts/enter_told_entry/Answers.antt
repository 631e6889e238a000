use Rattle.std.proofs.Common.{rules, ◌≡◌, true, Some, None, sym, ap, subst, ◌∙◌}
use Rattle.ang_view.specs.Registration.{RegistrationList, entry_at}
use Rattle.ang_check_contest.specs.Host.{is_wanted}
use Rattle.ang_names_known.specs.Kinds.{Says, kinds_at}
use Rattle.ang_check_contest.specs.EntryKinds.{entry_params}
use Rattle.ang_check_contest.specs.declared.score.Contender.TheVariants as contender
use Rattle.ang_check_uses.specs.Choosing.{params_as, receiver_as}
use Rattle.ang_check_contest.specs.Contest.{after, entered}
use Rattle.ang_check_contest.specs.Told.{Telling}
use Rattle.ang_check_uses.proofs.ChosenLaws.{host_entered, not_seen}
use Rattle.ang_check_uses.proofs.ToldChoices.{not_told, told_params, told_seen}
use Rattle.ang_check_uses.proofs.told_hosts.enter_told_entry.Goals as goal

pub returns-in_default-row-clause-entered : goal.returns-in_default-row-clause-entered
returns-in_default-row-clause-entered c =
    let t = c.args.contest.now.telling in
    let s = c.args.contest.now.standing in
    let u = c.args.usage in
    let w = c.args.wanted.now in
    let V = c.args.view.now in
    let e = c.args.number in
    let x = c.in-Some.entry.now in
    let kinds = c.args.entries.now.kinds in
    let at : entry_at V e.0 ≡ Some x = search rules in
    let wants : is_wanted w x ≡ true = search rules in
    let of_view = subst (λ (V : RegistrationList). Says (receiver_as u) kinds None (entry_params V (receiver_as u) (entry_at V e.0))) c.requires.view (c.in_default-row.ensures.says (receiver_as u)) in
    let says = subst (λ o. Says (receiver_as u) kinds None (entry_params V (receiver_as u) o)) at of_view in
    sym (ap (after t.ancestors t.args s) (not_seen u w V e x at (not_told u w V x kinds c.requires.usage wants says)))

pub returns-then-passes-clause-entered : goal.returns-then-passes-clause-entered
returns-then-passes-clause-entered c =
    let t = c.args.contest.now.telling in
    let s = c.args.contest.now.standing in
    let u = c.args.usage in
    let w = c.args.wanted.now in
    let V = c.args.view.now in
    let e = c.args.number in
    let x = c.in-Some.entry.now in
    let kinds = c.args.entries.now.kinds in
    let at : entry_at V e.0 ≡ Some x = search rules in
    let wants : is_wanted w x ≡ true = search rules in
    let row = c.in-Some-row.row.now in
    let of_view = subst (λ (V : RegistrationList). Says (receiver_as u) kinds (Some row) (entry_params V (receiver_as u) (entry_at V e.0))) c.requires.view (c.in-Some-row.ensures.says (receiver_as u)) in
    let says = subst (λ o. Says (receiver_as u) kinds (Some row) (entry_params V (receiver_as u) o)) at of_view in
    let seen = told_seen u w V x kinds c.requires.usage wants row says in
    host_entered t.ancestors t.args s c.passes.new.self.standing u w V e x at wants seen
    (λ params are.
    c.passes.ensures.passed c.if-passes.true (params_as u x.signature.read_only params) (contender.Entry e)
    (ap (λ kinds. kinds_at kinds row) c.requires.kinds ∙ told_params u w V x kinds c.requires.usage wants row params says are))

pub returns-clause-entered : goal.returns-clause-entered
returns-clause-entered c =
    let t = c.args.contest.now.telling in
    let s = c.args.contest.now.standing in
    let u = c.args.usage in
    let w = c.args.wanted.now in
    let V = c.args.view.now in
    let e = c.args.number in
    let x = c.in-Some.entry.now in
    let kinds = c.args.entries.now.kinds in
    let at : entry_at V e.0 ≡ Some x = search rules in
    let wants : is_wanted w x ≡ true = search rules in
    let row = c.in-Some-row.row.now in
    let of_view = subst (λ (V : RegistrationList). Says (receiver_as u) kinds (Some row) (entry_params V (receiver_as u) (entry_at V e.0))) c.requires.view (c.in-Some-row.ensures.says (receiver_as u)) in
    let says = subst (λ o. Says (receiver_as u) kinds (Some row) (entry_params V (receiver_as u) o)) at of_view in
    let seen = told_seen u w V x kinds c.requires.usage wants row says in
    let same = c.passes.ensures.same in
    let left = c.passes.ensures.left c.if-passes.false in
    host_entered t.ancestors t.args s c.enter.new.self.standing u w V e x at wants seen
    (λ params are.
    let these = params_as u x.signature.read_only params in
    c.in_ok-enter.ensures.entered these
    (ap (λ (t : Telling). kinds_at t.kinds row) same
    ∙ (ap (λ kinds. kinds_at kinds row) c.requires.kinds ∙ told_params u w V x kinds c.requires.usage wants row params says are))
    ∙ (λ i. entered (same i).ancestors (same i).args (left i) (contender.Entry e) these))

use Rattle.std.proofs.Common.{rules, ◌≡◌, true, Some}
use Rattle.ang_view.specs.Registration.{entry_at}
use Rattle.ang_check_contest.specs.Host.{is_wanted}
use Rattle.ang_check_uses.specs.Choosing.{is_seen}
use Rattle.ang_check_uses.proofs.ChosenLaws.{host_entered}
use Rattle.ang_check_uses.proofs.told_hosts.enter_entry.Goals as goal

pub returns : goal.returns
returns c =
    let s = c.args.scope.now in
    let x = c.in-Some.entry.now in
    let at : entry_at s.view c.args.number.0 ≡ Some x = search rules in
    let wants : is_wanted c.args.wanted.now x ≡ true = search rules in
    let seen : is_seen s.view x ≡ true = search rules in
    record {
      entered = host_entered s.ancestors c.args.args.now c.args.contest.now c.enter_seen.new.contest c.args.usage c.args.wanted.now s.view c.args.number x at wants seen
          c.in_ok-enter_seen.ensures.entered;
    }

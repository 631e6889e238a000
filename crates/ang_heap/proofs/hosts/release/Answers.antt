use Rattle.std.proofs.Common.{◌+◌, sym, ap, ◌∙◌}
use Rattle.ang_host.specs.Logs.{listed_in, log_len}
use Rattle.ang_host.specs.Boxes.{members}
use Rattle.ang_host.specs.Events.{ends}
use Rattle.ang_host.specs.Members.{state_at, states_of}
use Rattle.ang_host.proofs.Counts.{IsLive-held}
use Rattle.ang_heap.specs.Parts.{counts_of, world_by}
use Rattle.ang_heap.proofs.Hosting.{in_list, room_left, ends_length, release_gives, release_ready, release_level, release_fewer}
use Rattle.ang_heap.proofs.hosts.release.Goals as goal

pub release_listed-requires-clause-in_list : goal.release_listed-requires-clause-in_list
release_listed-requires-clause-in_list g c = in_list _ _ _ _ c.requires.held

pub release_listed-requires-clause-room : goal.release_listed-requires-clause-room
release_listed-requires-clause-room g c = room_left _ _ _ _ _ c.requires.ready c.requires.held

pub release_listed-requires-clause-key_live : goal.release_listed-requires-clause-key_live
release_listed-requires-clause-key_live g c = IsLive-held (state_at (states_of (λ v. (g.dyn-1.0.entry v).1) (members c.args.drivers.now)) c.args.driver) c.args.key c.requires.held

pub returns-clause-gives : goal.returns-clause-gives
returns-clause-gives g c = λ os gs n sp b is.
    release_gives _ _ _ _ _ _ _ _ c.release_listed.ensures.moved os gs (listed_in c.args.events.now) n sp b is
    ∙ ap (λ es. world_by os (counts_of (λ v. (g.dyn-1.0.entry v).1) (members c.release_listed.new.drivers)) gs es n sp b is) (sym c.release_listed.ensures.listed)

pub returns-clause-ready : goal.returns-clause-ready
returns-clause-ready g c = release_ready _ _ _ _ _ _ _ _ c.release_listed.ensures.moved _ _ _ _ c.requires.ready c.release_listed.ensures.len c.release_listed.ensures.capacity

pub returns-clause-ended : goal.returns-clause-ended
returns-clause-ended g c = c.release_listed.ensures.len ∙ ap (λ n. log_len c.args.events.now + n) (ends_length c.args.driver c.args.key c.release_listed.result)

pub returns-clause-fewer : goal.returns-clause-fewer
returns-clause-fewer g c = release_fewer _ _ _ _ _ _ _ _ c.release_listed.ensures.moved

pub returns-clause-level : goal.returns-clause-level
returns-clause-level g c = release_level _ _ _ _ _ _ _ _ c.release_listed.ensures.moved _ _ c.release_listed.ensures.len

pub returns-clause-moves : goal.returns-clause-moves
returns-clause-moves g c = λ roles. record { more = ends c.args.driver c.args.key c.release_listed.result; events = c.release_listed.ensures.listed; follow = c.release_listed.ensures.follow roles }

use Rattle.ang_host.specs.Boxes.{members}
use Rattle.ang_host.specs.Members.{state_at, states_of}
use Rattle.ang_host.proofs.Counts.{IsLive-held}
use Rattle.ang_host.proofs.Steps.{AllFollow-added}
use Rattle.ang_heap.proofs.Hosting.{in_list, add_counts, add_full, add_unchanged, add_live, add_ready}
use Rattle.ang_heap.proofs.hosts.add.Goals as goal

pub add_ref-requires-clause-in_list : goal.add_ref-requires-clause-in_list
add_ref-requires-clause-in_list g c = in_list _ _ _ _ c.requires.held

pub add_ref-requires-clause-key_live : goal.add_ref-requires-clause-key_live
add_ref-requires-clause-key_live g c = IsLive-held (state_at (states_of (λ v. (g.dyn-1.0.entry v).1) (members c.args.drivers.now)) c.args.driver) c.args.key c.requires.held

pub returns-clause-counts : goal.returns-clause-counts
returns-clause-counts g c = add_counts _ _ _ _ _ _ _ _ c.add_ref.ensures.moved

pub returns-clause-full : goal.returns-clause-full
returns-clause-full g c = λ e. add_full _ _ _ _ _ _ _ _ c.add_ref.ensures.moved e

pub returns-clause-unchanged : goal.returns-clause-unchanged
returns-clause-unchanged g c = λ e. add_unchanged _ _ _ _ _ _ _ _ c.add_ref.ensures.moved e

pub returns-clause-live : goal.returns-clause-live
returns-clause-live g c = add_live _ _ _ _ _ _ _ _ c.add_ref.ensures.moved

pub returns-clause-ready : goal.returns-clause-ready
returns-clause-ready g c = λ len capacity r. add_ready _ _ _ _ _ _ _ _ c.add_ref.ensures.moved len capacity r

pub returns-clause-follow : goal.returns-clause-follow
returns-clause-follow g c = λ roles. AllFollow-added _ _ _ roles _ _ _ _ _ c.add_ref.ensures.moved

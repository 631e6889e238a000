use Rattle.std.proofs.Common.{subst, sym, ap}
use Rattle.ang_host.specs.Boxes.{members}
use Rattle.ang_host.specs.Members.{states_of}
use Rattle.ang_meaning.specs.World.{with_inputs}
use Rattle.ang_meaning.specs.Hosts.{accepted}
use Rattle.ang_meaning.proofs.Telling.{told_same, told_then}
use Rattle.ang_heap.specs.Stores.{world_of}
use Rattle.ang_vm_ask.proofs.Replying.{HasKeyOption, slot_there}
use Rattle.ang_vm_ask.proofs.replies.take_value_apart.Goals as goal

pub accept-requires : goal.accept-requires
accept-requires g c =
    let ss = states_of (λ v. (g.dyn-1.0.entry v).1) (members c.args.store.now.drivers) in
    record {
      there = subst (HasKeyOption ss c.args.driver c.requires.sound) (sym c.slot_from.ensures.exact)
          (slot_there ss c.args.driver c.requires.sound c.args.of c.args.value c.requires.live);
    }

pub returns-clause-told : goal.returns-clause-told
returns-clause-told g c =
    told_then (told_same (λ is. ap (λ o. accepted o (with_inputs is (world_of (λ v. (g.dyn-1.0.entry v).1) c.args.store.now))) (sym c.slot_from.ensures.exact))) c.accept.ensures.told

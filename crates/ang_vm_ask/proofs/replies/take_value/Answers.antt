use Rattle.std.proofs.Common.{◌≡◌, refl, sym, ap, ◌∙◌, true, Some, rules, w64, to_z, of_z}
use Rattle.ang_kinds.specs.declared.value.Value.TheVariants.{Int}
use Rattle.ang_kinds.specs.declared.primitive.Primitive.TheVariants.{I64}
use Rattle.ang_meaning.specs.declared.host.HostValueType.TheVariants.{Plain}
use Rattle.ang_meaning.specs.declared.slot.Slot.TheVariants.{Bits}
use Rattle.ang_meaning.specs.Hosts.{slot_of}
use Rattle.ang_heap.specs.Stores.{world_of}
use Rattle.ang_heap.proofs.Storing.{moves_none, bits_hold}
use Rattle.ang_vm_ask.proofs.Replying.{accepted_told}
use Rattle.ang_vm_ask.proofs.replies.take_value.Goals as goal

pub returns-then-is_int64-clause-told : goal.returns-then-is_int64-clause-told
returns-then-is_int64-clause-told g c =
    let w = world_of (λ v. (g.dyn-1.0.entry v).1) c.args.store.now in
    let plain : c.args.of ≡ Plain I64 = c.if-is_int64.ensures.exact.0 refl in
    let back : to_z w64 (of_z w64 c.in-Int.number) ≡ c.in-Int.number = search rules in
    let slot : slot_of c.args.driver c.args.of c.args.value ≡ Some (Bits c.int64_bits.result) = (λ j. slot_of c.args.driver (plain j) (c.in-Int.is j)) ∙ ap (λ z. slot_of c.args.driver (Plain I64) (Int z)) (sym back)
    ∙ c.int64_bits.ensures.exact c.args.driver in
    accepted_told (slot_of c.args.driver c.args.of c.args.value) (Bits c.int64_bits.result) true w w slot refl (bits_hold c.int64_bits.result w)

pub returns-then-is_int64-clause-moves : goal.returns-then-is_int64-clause-moves
returns-then-is_int64-clause-moves g c = λ roles. moves_none (λ v. (g.dyn-1.0.entry v).1) roles c.args.store.now

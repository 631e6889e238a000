-- Each strict operation leaves the modules as many globals as they had.
use Rattle.std.proofs.Common.{ℕ, suc, List, [], ◌∷◌, ◌++◌, Option, Some, None}
use Rattle.std.specs.Prelude.{Bool, true, false, cond, reverse}
use Rattle.std.specs.FinMap as map
use Rattle.ang_kinds.specs.declared.mask.EntityNo.{EntityNo}
use Rattle.ang_kinds.specs.declared.value.Value.{Value}
use Rattle.ang_kinds.specs.declared.fault.Fault.TheVariants.{Null, BadAnswer, Memory, Tally}
use Rattle.ang_host.specs.declared.answer.Made.TheVariants.{Key as MadeKey, Nothing as MadeNothing, Fault as MadeFault, Memory as MadeMemory, Full as MadeFull}
use Rattle.ang_host.specs.declared.answer.Answer.TheVariants.{Void, Gave, Fault as SaidFault, Memory as SaidMemory, Full}
use Rattle.ang_host.specs.declared.answer.HostReply.{HostReply}
use Rattle.ang_host.specs.declared.answer.HostReply.TheVariants.{Making, Asking}
use Rattle.ang_host.specs.declared.event.HostEvent.TheVariants.{Called}
use Rattle.ang_meaning.specs.declared.slot.Slot.{Slot}
use Rattle.ang_meaning.specs.declared.slot.Slot.TheVariants.{Bits, Script, Host}
use Rattle.ang_meaning.specs.declared.host.HostValueType.{HostValueType}
use Rattle.ang_meaning.specs.declared.host.HostValueType.TheVariants.{Nothing}
use Rattle.ang_meaning.specs.declared.class.Class.{Class}
use Rattle.ang_meaning.specs.declared.operation.Update.{Update}
use Rattle.ang_meaning.specs.declared.operation.Operation.{Operation}
use Rattle.ang_meaning.specs.declared.operation.Operation.TheVariants.{Binary, Compare, Convert, Negate, Complement, Not, Same, GlobalGet, GlobalSet, GlobalChange, Ask, Read, Write, Alter, Make, FieldGet, FieldSet, FieldChange, Cast}
use Rattle.ang_meaning.specs.Numbers.{Worked, Is, Cannot, Changed, Into, Never, binary_result}
use Rattle.ang_meaning.specs.World.{World, Input, Room, Said, Tallied, Fresh, Tried, Yes, No, memory_step, hold, give, or_else}
use Rattle.ang_meaning.specs.Environment.{Environment, class_at, use_at}
use Rattle.ang_meaning.specs.Hosts.{Done, Fine, Fails, accepted, is_void, slot_of, one_reserved, replied_by, is_reply_to, may_ask, asked_from, asked, value_of, values_of}
use Rattle.ang_meaning.specs.Perform.{work_done, change_of, global_or, global_put, stored_global, changed_global, Receiver, NoReceiver, Of, NullReceiver, receiver_of, arguments_of, gives_up, called_of, read_of, write_of, in_place_of, altered_to, altered_of, field_or, field_put, may_take, stored_field, changed_field, is_under, cast_to, may_make, made_from, perform}
use Rattle.ang_code_laws.proofs.Worlds.{Has, give_has, give_all_has, put_has, field_has, TriedHas, memory_has, more_has, hold_has}

module _ (ns : List ℕ) where
  abbrev pub DoneHas : Done → Type 0
  DoneHas (Fine v w) = Has ns w
  DoneHas (Fails f w) = Has ns w

  -- ---- host calls

  holding_has : (v : Slot) (o : Tried) → TriedHas ns o → DoneHas (or_else o (Fails Tally) (Fine v))
  holding_has v (No w) h = h
  holding_has v (Yes w) h = h

  accepted_has : (o : Option Slot) (w : World) → Has ns w → DoneHas (accepted o w)
  accepted_has None w h = h
  accepted_has (Some v) w h = holding_has v (hold v w) (hold_has ns v w h)

  void_has : (b : Bool) (w : World) → Has ns w → DoneHas (cond b (Fine (Bits 0) w) (Fails BadAnswer w))
  void_has true w h = h
  void_has false w h = h

  replied_has : (d : ℕ) (result : HostValueType) (r : HostReply) (w : World) → Has ns w → DoneHas (replied_by d result r w)
  unfolding replied_by
  replied_has d result (Making (MadeKey k)) w h = more_has ns (Host d (Some k)) (one_reserved w) h
  replied_has d result (Making MadeNothing) w h = h
  replied_has d result (Making (MadeFault n)) w h = h
  replied_has d result (Making MadeMemory) w h = h
  replied_has d result (Making MadeFull) w h = h
  replied_has d result (Asking Void) w h = void_has (is_void result) w h
  replied_has d result (Asking (Gave v)) w h = accepted_has (slot_of d result v) w h
  replied_has d result (Asking (SaidFault n)) w h = h
  replied_has d result (Asking SaidMemory) w h = h
  replied_has d result (Asking Full) w h = h

  kind_has : (b : Bool) (w : World) (o : Done) → Has ns w → DoneHas o → DoneHas (cond b o (Fails Memory w))
  kind_has true w o h p = p
  kind_has false w o h p = h

  module _ (z : Environment) (m : ℕ) (e : EntityNo) where
    asked_said : (object : Option ℕ) (args : List Value) (result : HostValueType) (inputs : List Input) (w : World) → Has ns w → DoneHas (asked_from z m e object args result inputs w)
    asked_said object args result (Said reply ∷ rest) w h =
        let event = Called (z.name m) e (use_at z m e).driver object args reply in
        kind_has (is_reply_to (use_at z m e).role reply) w _ h
        (replied_has (use_at z m e).driver result reply (record w { inputs = rest; events = w.events ++ event ∷ []; reserved = suc w.reserved }) h)
    asked_said object args result [] w h = h
    asked_said object args result (Room b ∷ rest) w h = h
    asked_said object args result (Tallied b ∷ rest) w h = h
    asked_said object args result (Fresh n ∷ rest) w h = h

    asked_tried : (object : Option ℕ) (args : List Value) (result : HostValueType) (o : Tried) → TriedHas ns o → DoneHas (or_else o (Fails Memory) (λ u. asked_from z m e object args result u.inputs u))
    asked_tried object args result (No w) h = h
    asked_tried object args result (Yes w) h = asked_said object args result w.inputs w h

    asked_has : (object : Option ℕ) (args : List Value) (result : HostValueType) (w : World) → Has ns w → DoneHas (asked z m e object args result w)
    unfolding asked
    asked_has object args result w h = kind_has (may_ask (use_at z m e).role w) w _ h (asked_tried object args result (memory_step w) (memory_has ns w h))

    called_has : (r : Receiver) (args : List Slot) (w : World) → Has ns w → DoneHas (called_of z m e r args w)
    called_has NoReceiver args w h = asked_has None (values_of (use_at z m e).driver (use_at z m e).params args) (use_at z m e).result w h
    called_has (Of k) args w h = asked_has (Some k) (values_of (use_at z m e).driver (use_at z m e).params args) (use_at z m e).result w h
    called_has NullReceiver args w h = h

    read_has : (r : Receiver) (w : World) → Has ns w → DoneHas (read_of z m e r w)
    read_has NoReceiver w h = asked_has None [] (use_at z m e).result w h
    read_has (Of k) w h = asked_has (Some k) [] (use_at z m e).result w h
    read_has NullReceiver w h = h

    write_has : (r : Receiver) (v : Slot) (w : World) → Has ns w → DoneHas (write_of z m e r v w)
    write_has NoReceiver v w h = asked_has None (value_of (use_at z m e).driver (use_at z m e).result v ∷ []) Nothing w h
    write_has (Of k) v w h = asked_has (Some k) (value_of (use_at z m e).driver (use_at z m e).result v ∷ []) Nothing w h
    write_has NullReceiver v w h = h

  in_place_has : (v : Slot) (o : Done) → DoneHas o → DoneHas (in_place_of v o)
  in_place_has v (Fine x w) h = h
  in_place_has v (Fails f w) h = h

  altered_to_has : (z : Environment) (m : ℕ) (e : EntityNo) (r : Receiver) (x : Slot) (c : Changed) (w : World) → Has ns w → DoneHas (altered_to z m e r x c w)
  altered_to_has z m e r x (Never f) w h = give_has ns x w h
  altered_to_has z m e r x (Into stored given) w h = in_place_has (Bits given) _ (write_has z m e r (Bits stored) w h)

  altered_has : (z : Environment) (m : ℕ) (e : EntityNo) (r : Receiver) (c : Update) (v : Slot) (o : Done) → DoneHas o → DoneHas (altered_of z m e r c v o)
  altered_has z m e r c v (Fails f w) h = h
  altered_has z m e r c v (Fine x w) h = altered_to_has z m e r x (change_of c x v) w h

  -- ---- the others

  work_has : (o : Worked) (w : World) → Has ns w → DoneHas (work_done o w)
  work_has (Is n) w h = h
  work_has (Cannot f) w h = h

  stored_has : (m g : ℕ) (v : Slot) (o : Tried) → TriedHas ns o → DoneHas (or_else o (Fails Tally) (stored_global m g v))
  stored_has m g v (No w) h = h
  stored_has m g v (Yes w) h = give_has ns (global_or m g v w) (global_put m g v w) (put_has ns m g v w h)

  changed_has : (m g : ℕ) (c : Changed) (w : World) → Has ns w → DoneHas (changed_global m g c w)
  changed_has m g (Into stored given) w h = put_has ns m g (Bits stored) w h
  changed_has m g (Never f) w h = h

  gives_up_has : (vs : List Slot) (o : Done) → DoneHas o → DoneHas (gives_up vs o)
  gives_up_has vs (Fine v w) h = give_all_has ns vs w h
  gives_up_has vs (Fails f w) h = h

  stored_field_has : (n i : ℕ) (v : Slot) (o : Tried) → TriedHas ns o → DoneHas (or_else o (Fails Tally) (stored_field n i v))
  stored_field_has n i v (No w) h = h
  stored_field_has n i v (Yes w) h = give_has ns (field_or n i v w) (field_put n i v w) (field_has ns n i v w h)

  may_store_has : (b : Bool) (n i : ℕ) (v : Slot) (w : World) → Has ns w → DoneHas (cond b (or_else (hold v w) (Fails Tally) (stored_field n i v)) (Fails Null w))
  may_store_has true n i v w h = stored_field_has n i v (hold v w) (hold_has ns v w h)
  may_store_has false n i v w h = h

  changed_field_has : (n i : ℕ) (c : Changed) (w : World) → Has ns w → DoneHas (changed_field n i c w)
  changed_field_has n i (Into stored given) w h = field_has ns n i (Bits stored) w h
  changed_field_has n i (Never f) w h = h

  cast_has : (b : Bool) (n : ℕ) (w : World) → Has ns w → DoneHas (cast_to b n w)
  cast_has true n w h = h
  cast_has false n w h = give_has ns (Script (Some n)) w h

  made_from_has : (k : Class) (inputs : List Input) (w : World) → Has ns w → DoneHas (made_from k inputs w)
  made_from_has k [] w h = h
  made_from_has k (Fresh n ∷ rest) w h = h
  made_from_has k (Said r ∷ rest) w h = h
  made_from_has k (Room b ∷ rest) w h = h
  made_from_has k (Tallied b ∷ rest) w h = h

  made_has : (k : Class) (o : Tried) → TriedHas ns o → DoneHas (or_else o (Fails Memory) (λ u. made_from k u.inputs u))
  made_has k (No w) h = h
  made_has k (Yes w) h = made_from_has k w.inputs w h

  pub perform_has : (z : Environment) (m : ℕ) (o : Operation) (vs : List Slot) (w : World) → Has ns w → DoneHas (perform z m o vs w)
  unfolding perform
  perform_has z m (Binary a p) [] w h = h
  perform_has z m (Binary a p) (Bits y ∷ []) w h = h
  perform_has z m (Binary a p) (Bits y ∷ (Bits x ∷ [])) w h = work_has (binary_result a p x y) w h
  perform_has z m (Binary a p) (Bits y ∷ (Bits x ∷ (u ∷ us))) w h = h
  perform_has z m (Binary a p) (Bits y ∷ (Script j ∷ us)) w h = h
  perform_has z m (Binary a p) (Bits y ∷ (Host d j ∷ us)) w h = h
  perform_has z m (Binary a p) (Script j ∷ us) w h = h
  perform_has z m (Binary a p) (Host d j ∷ us) w h = h
  perform_has z m (Compare c signed) [] w h = h
  perform_has z m (Compare c signed) (Bits y ∷ []) w h = h
  perform_has z m (Compare c signed) (Bits y ∷ (Bits x ∷ [])) w h = h
  perform_has z m (Compare c signed) (Bits y ∷ (Bits x ∷ (u ∷ us))) w h = h
  perform_has z m (Compare c signed) (Bits y ∷ (Script j ∷ us)) w h = h
  perform_has z m (Compare c signed) (Bits y ∷ (Host d j ∷ us)) w h = h
  perform_has z m (Compare c signed) (Script j ∷ us) w h = h
  perform_has z m (Compare c signed) (Host d j ∷ us) w h = h
  perform_has z m (Convert p) [] w h = h
  perform_has z m (Convert p) (Bits x ∷ []) w h = h
  perform_has z m (Convert p) (Bits x ∷ (u ∷ us)) w h = h
  perform_has z m (Convert p) (Script j ∷ us) w h = h
  perform_has z m (Convert p) (Host d j ∷ us) w h = h
  perform_has z m (Negate p) [] w h = h
  perform_has z m (Negate p) (Bits x ∷ []) w h = h
  perform_has z m (Negate p) (Bits x ∷ (u ∷ us)) w h = h
  perform_has z m (Negate p) (Script j ∷ us) w h = h
  perform_has z m (Negate p) (Host d j ∷ us) w h = h
  perform_has z m (Complement p) [] w h = h
  perform_has z m (Complement p) (Bits x ∷ []) w h = h
  perform_has z m (Complement p) (Bits x ∷ (u ∷ us)) w h = h
  perform_has z m (Complement p) (Script j ∷ us) w h = h
  perform_has z m (Complement p) (Host d j ∷ us) w h = h
  perform_has z m Not [] w h = h
  perform_has z m Not (Bits x ∷ []) w h = h
  perform_has z m Not (Bits x ∷ (u ∷ us)) w h = h
  perform_has z m Not (Script j ∷ us) w h = h
  perform_has z m Not (Host d j ∷ us) w h = h
  perform_has z m Same [] w h = h
  perform_has z m Same (y ∷ []) w h = h
  perform_has z m Same (y ∷ (x ∷ [])) w h = give_has ns x (give y w) (give_has ns y w h)
  perform_has z m Same (y ∷ (x ∷ (u ∷ us))) w h = h
  perform_has z m (GlobalGet g) [] w h = let v = global_or m g (Bits 0) w in holding_has v (hold v w) (hold_has ns v w h)
  perform_has z m (GlobalGet g) (v ∷ vs) w h = h
  perform_has z m (GlobalSet g) [] w h = h
  perform_has z m (GlobalSet g) (v ∷ []) w h = stored_has m g v (hold v w) (hold_has ns v w h)
  perform_has z m (GlobalSet g) (v ∷ (u ∷ us)) w h = h
  perform_has z m (GlobalChange c g) [] w h = h
  perform_has z m (GlobalChange c g) (v ∷ []) w h = changed_has m g (change_of c (global_or m g (Bits 0) w) v) w h
  perform_has z m (GlobalChange c g) (v ∷ (u ∷ us)) w h = h
  perform_has z m (Ask e) vs w h = gives_up_has vs _ (called_has z m e (receiver_of (use_at z m e) (reverse vs)) (arguments_of (use_at z m e) (reverse vs)) w h)
  perform_has z m (Read e) vs w h = gives_up_has vs _ (read_has z m e (receiver_of (use_at z m e) vs) w h)
  perform_has z m (Write e) [] w h = h
  perform_has z m (Write e) (v ∷ []) w h = in_place_has v _ (write_has z m e (receiver_of (use_at z m e) []) v w h)
  perform_has z m (Write e) (o ∷ (v ∷ [])) w h = gives_up_has (o ∷ []) _ (in_place_has v _ (write_has z m e (receiver_of (use_at z m e) (o ∷ [])) v w h))
  perform_has z m (Write e) (o ∷ (v ∷ (u ∷ us))) w h = h
  perform_has z m (Alter e c) [] w h = h
  perform_has z m (Alter e c) (v ∷ []) w h =
      let r = receiver_of (use_at z m e) [] in
      altered_has z m e r c v (read_of z m e r w) (read_has z m e r w h)
  perform_has z m (Alter e c) (o ∷ (v ∷ [])) w h =
      let r = receiver_of (use_at z m e) (o ∷ []) in
      gives_up_has (o ∷ []) _ (altered_has z m e r c v (read_of z m e r w) (read_has z m e r w h))
  perform_has z m (Alter e c) (o ∷ (v ∷ (u ∷ us))) w h = h
  perform_has z m (Make c) [] w h = kind_has (may_make (class_at z m c) w) w _ h (made_has (class_at z m c) (memory_step w) (memory_has ns w h))
  perform_has z m (Make c) (v ∷ vs) w h = h
  perform_has z m (FieldGet i) [] w h = h
  perform_has z m (FieldGet i) (Bits x ∷ us) w h = h
  perform_has z m (FieldGet i) (Script None ∷ us) w h = h
  perform_has z m (FieldGet i) (Script (Some n) ∷ []) w h =
      let v = field_or n i (Bits 0) w in gives_up_has (Script (Some n) ∷ []) _ (holding_has v (hold v w) (hold_has ns v w h))
  perform_has z m (FieldGet i) (Script (Some n) ∷ (u ∷ us)) w h = h
  perform_has z m (FieldGet i) (Host d j ∷ us) w h = h
  perform_has z m (FieldSet i) [] w h = h
  perform_has z m (FieldSet i) (Bits x ∷ us) w h = h
  perform_has z m (FieldSet i) (Script None ∷ us) w h = h
  perform_has z m (FieldSet i) (Script (Some n) ∷ []) w h = h
  perform_has z m (FieldSet i) (Script (Some n) ∷ (v ∷ [])) w h = gives_up_has (Script (Some n) ∷ []) _ (may_store_has (may_take n v w) n i v w h)
  perform_has z m (FieldSet i) (Script (Some n) ∷ (v ∷ (u ∷ us))) w h = h
  perform_has z m (FieldSet i) (Host d j ∷ us) w h = h
  perform_has z m (FieldChange c i) [] w h = h
  perform_has z m (FieldChange c i) (Bits x ∷ us) w h = h
  perform_has z m (FieldChange c i) (Script None ∷ us) w h = h
  perform_has z m (FieldChange c i) (Script (Some n) ∷ []) w h = h
  perform_has z m (FieldChange c i) (Script (Some n) ∷ (v ∷ [])) w h =
      gives_up_has (Script (Some n) ∷ []) _ (changed_field_has n i (change_of c (field_or n i (Bits 0) w) v) w h)
  perform_has z m (FieldChange c i) (Script (Some n) ∷ (v ∷ (u ∷ us))) w h = h
  perform_has z m (FieldChange c i) (Host d j ∷ us) w h = h
  perform_has z m (Cast c) [] w h = h
  perform_has z m (Cast c) (Bits x ∷ us) w h = h
  perform_has z m (Cast c) (Script None ∷ []) w h = h
  perform_has z m (Cast c) (Script None ∷ (u ∷ us)) w h = h
  perform_has z m (Cast c) (Script (Some n) ∷ []) w h = cast_has (is_under z m c (map.get w.objects n)) n w h
  perform_has z m (Cast c) (Script (Some n) ∷ (u ∷ us)) w h = h
  perform_has z m (Cast c) (Host d j ∷ us) w h = h

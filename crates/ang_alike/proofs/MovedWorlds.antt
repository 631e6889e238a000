-- What is done in a world is done in the same world whose lists of globals stand elsewhere, as long as it looks at none of them.
use Rattle.std.specs.Prelude.{◌≡◌, ℕ, suc, Bool, true, false, List, [], ◌∷◌, ◌++◌, reverse, Option, Some, None, if◌then◌else◌}
use Rattle.std.specs.FinMap as map
use Rattle.std.proofs.Common.{refl, ap, ap₂, ◌∙◌}
use Rattle.ang_kinds.specs.declared.mask.EntityNo.{EntityNo}
use Rattle.ang_kinds.specs.declared.value.Value.{Value}
use Rattle.ang_kinds.specs.declared.fault.Fault.TheVariants.{Null, BadAnswer, Memory, Tally}
use Rattle.ang_host.specs.declared.answer.Made.TheVariants.{Key as MadeKey}
use Rattle.ang_host.specs.declared.answer.Answer.TheVariants.{Void, Gave}
use Rattle.ang_host.specs.declared.answer.HostReply.{HostReply}
use Rattle.ang_host.specs.declared.answer.HostReply.TheVariants.{Making, Asking}
use Rattle.ang_host.specs.declared.event.HostEvent.TheVariants.{Called}
use Rattle.ang_host.specs.declared.event.Role.{Role}
use Rattle.ang_host.specs.declared.event.Role.TheVariants.{Making as MakingRole}
use Rattle.ang_meaning.specs.declared.slot.Slot.{Slot}
use Rattle.ang_meaning.specs.declared.slot.Slot.TheVariants.{Bits, Script, Host}
use Rattle.ang_meaning.specs.declared.class.Class.{Class}
use Rattle.ang_meaning.specs.declared.host.HostValueType.{HostValueType}
use Rattle.ang_meaning.specs.declared.host.HostValueType.TheVariants.{Nothing}
use Rattle.ang_meaning.specs.declared.operation.Update.{Update}
use Rattle.ang_meaning.specs.declared.operation.Operation.{Operation}
use Rattle.ang_meaning.specs.declared.operation.Operation.TheVariants.{Binary, Compare, Convert, Negate, Complement, Not, Same, GlobalGet, GlobalSet, GlobalChange, Ask, Read, Write, Alter, Make, FieldGet, FieldSet, FieldChange, Cast}
use Rattle.ang_meaning.specs.Numbers.{Worked, Is, Cannot, binary_result, truth, Changed, Into, Never}
use Rattle.ang_meaning.specs.World.{World, Input, Room, Said, Tallied, Fresh, Tried, Yes, No, HoldLimit, Inside, AtEnd, OfDriver, hold_limit_of, tally_told, tally_step, one_more, hold, or_else, memory_told, memory_step, Lowered, Gone, Kept, script_lowered, script_given, each_given, given, give, give_all}
use Rattle.ang_meaning.specs.Environment.{Environment, use_at, class_at}
use Rattle.ang_meaning.specs.Hosts.{Done, Fine, Fails, holding, accepted, is_void, one_reserved, slot_of, replied_by, is_reply_to, may_ask, asked_from, asked}
use Rattle.ang_meaning.specs.Perform.{work_done, is_same, change_of, Receiver, NoReceiver, Of, NullReceiver, receiver_of, arguments_of, gives_up, called_of, read_of, write_of, in_place_of, altered_to, altered_of, field_or, field_put, may_take, stored_field, changed_field, is_under, cast_to, may_make, made_from, perform}

-- what looks at the running module's globals
abbrev pub of_globals : Operation → Bool
of_globals (GlobalGet g) = true
of_globals (GlobalSet g) = true
of_globals (GlobalChange c g) = true
of_globals _ = false

module _ (T : List (List Slot) → List (List Slot)) where
  abbrev pub moved_world : World → World
  moved_world w = record w { globals = T w.globals }

  abbrev pub moved_tried : Tried → Tried
  moved_tried (Yes w) = Yes (moved_world w)
  moved_tried (No w) = No (moved_world w)

  abbrev pub moved_done : Done → Done
  moved_done (Fine v w) = Fine v (moved_world w)
  moved_done (Fails f w) = Fails f (moved_world w)

  -- what follows a request for room
  pub or_moved : {A : Type 0} (turn : A → A) (o : Tried) (out go : World → A) (out' go' : World → A)
      → ((w : World) → out' (moved_world w) ≡ turn (out w)) → ((w : World) → go' (moved_world w) ≡ turn (go w))
      → or_else (moved_tried o) out' go' ≡ turn (or_else o out go)
  or_moved turn (Yes w) out go out' go' h k = k w
  or_moved turn (No w) out go out' go' h k = h w

  pub if_moved : {A : Type 0} (turn : A → A) (b : Bool) (x y : A) (x' y' : A) → x' ≡ turn x → y' ≡ turn y → (if b then x' else y') ≡ turn (if b then x else y)
  if_moved turn true x y x' y' h k = h
  if_moved turn false x y x' y' h k = k

  -- ---- what is told

  memory_moved : (is : List Input) (w : World) → memory_told is (moved_world w) ≡ moved_tried (memory_told is w)
  memory_moved (Room true ∷ rest) w = refl
  memory_moved (Room false ∷ rest) w = refl
  memory_moved _ w = refl

  pub step_moved : (w : World) → memory_step (moved_world w) ≡ moved_tried (memory_step w)
  unfolding memory_step
  step_moved w = memory_moved w.inputs w

  tallied_moved : (e : HoldLimit) (is : List Input) (w : World) → tally_told e is (moved_world w) ≡ moved_tried (tally_told e is w)
  tallied_moved e (Tallied true ∷ rest) w = refl
  tallied_moved Inside (Tallied false ∷ rest) w = refl
  tallied_moved AtEnd (Tallied false ∷ rest) w = refl
  tallied_moved OfDriver (Tallied false ∷ rest) w = refl
  tallied_moved e _ w = refl

  -- ---- one hold more or less

  tallying_moved : (v : Slot) (w : World) → tally_step v (moved_world w) ≡ moved_tried (tally_step v w)
  unfolding tally_step
  tallying_moved (Script (Some n)) w = tallied_moved (hold_limit_of (map.get w.objects n)) w.inputs w
  tallying_moved (Host d (Some k)) w = tallied_moved OfDriver w.inputs w
  tallying_moved _ w = refl

  more_moved : (v : Slot) (w : World) → one_more v (moved_world w) ≡ moved_world (one_more v w)
  unfolding one_more
  more_moved (Script (Some n)) w = refl
  more_moved (Host d (Some k)) w = refl
  more_moved _ w = refl

  pub hold_moved : (v : Slot) (w : World) → hold v (moved_world w) ≡ moved_tried (hold v w)
  unfolding hold
  hold_moved v w =
      ap (λ o. or_else o No (λ u. Yes (one_more v u))) (tallying_moved v w)
      ∙ or_moved moved_tried (tally_step v w) (λ u. No u) (λ u. Yes (one_more v u)) (λ u. No u) (λ u. Yes (one_more v u)) (λ u. refl) (λ u. ap Yes (more_moved v u))

  each_moved : (go : Slot → World → World) → ((v : Slot) (w : World) → go v (moved_world w) ≡ moved_world (go v w))
      → (vs : List Slot) (w : World) → each_given go vs (moved_world w) ≡ moved_world (each_given go vs w)
  each_moved go h [] w = refl
  each_moved go h (v ∷ vs) w = ap (each_given go vs) (h v w) ∙ each_moved go h vs (go v w)

  script_moved : (go : Slot → World → World) → ((v : Slot) (w : World) → go v (moved_world w) ≡ moved_world (go v w))
      → (l : Lowered) (w : World) → script_given go l (moved_world w) ≡ moved_world (script_given go l w)
  script_moved go h (Kept os) w = refl
  script_moved go h (Gone vs os) w = each_moved go h vs (record w { objects = os })

  given_moved : (n : ℕ) (v : Slot) (w : World) → given n v (moved_world w) ≡ moved_world (given n v w)
  unfolding given
  given_moved n (Host d (Some k)) w = refl
  given_moved n (Script None) w = refl
  given_moved (suc n) (Script (Some k)) w = script_moved (given n) (λ v u. given_moved n v u) (script_lowered k w.objects) w
  given_moved n v w = refl

  pub give_moved : (v : Slot) (w : World) → give v (moved_world w) ≡ moved_world (give v w)
  unfolding give
  give_moved v w = given_moved (map.len w.objects) v w

  pub give_all_moved : (vs : List Slot) (w : World) → give_all vs (moved_world w) ≡ moved_world (give_all vs w)
  give_all_moved [] w = refl
  give_all_moved (v ∷ vs) w = ap (give_all vs) (give_moved v w) ∙ give_all_moved vs (give v w)

  pub holding_moved : (v : Slot) (w : World) → holding v (moved_world w) ≡ moved_done (holding v w)
  holding_moved v w =
      ap (λ o. or_else o (Fails Tally) (Fine v)) (hold_moved v w)
      ∙ or_moved moved_done (hold v w) (Fails Tally) (Fine v) (Fails Tally) (Fine v) (λ u. refl) (λ u. refl)

  -- ---- host calls

  accepted_moved : (o : Option Slot) (w : World) → accepted o (moved_world w) ≡ moved_done (accepted o w)
  accepted_moved None w = refl
  accepted_moved (Some v) w = holding_moved v w

  answered_moved : (d : ℕ) (result : HostValueType) (reply : HostReply) (w : World) → replied_by d result reply (moved_world w) ≡ moved_done (replied_by d result reply w)
  unfolding replied_by
  answered_moved d result (Making (MadeKey k)) w = ap (Fine (Host d (Some k))) (more_moved (Host d (Some k)) (one_reserved w))
  answered_moved d result (Asking Void) w =
      if_moved moved_done (is_void result) (Fine (Bits 0) w) (Fails BadAnswer w) (Fine (Bits 0) (moved_world w)) (Fails BadAnswer (moved_world w)) refl refl
  answered_moved d result (Asking (Gave v)) w = accepted_moved (slot_of d result v) w
  answered_moved d result _ w = refl

  may_moved : (r : Role) (w : World) → may_ask r (moved_world w) ≡ may_ask r w
  may_moved (MakingRole f) w = refl
  may_moved _ w = refl

  told_moved : (z : Environment) (m : ℕ) (e : EntityNo) (object : Option ℕ) (args : List Value) (result : HostValueType) (is : List Input) (w : World)
      → asked_from z m e object args result is (moved_world w) ≡ moved_done (asked_from z m e object args result is w)
  told_moved z m e object args result (Said reply ∷ rest) w =
      let u : World = record w { inputs = rest; events = w.events ++ Called (z.name m) e (use_at z m e).driver object args reply ∷ []; reserved = suc w.reserved } in
      if_moved moved_done (is_reply_to (use_at z m e).role reply) (replied_by (use_at z m e).driver result reply u) (Fails Memory w)
      (replied_by (use_at z m e).driver result reply (moved_world u)) (Fails Memory (moved_world w))
      (answered_moved (use_at z m e).driver result reply u) refl
  told_moved z m e object args result _ w = refl

  asked_moved : (z : Environment) (m : ℕ) (e : EntityNo) (object : Option ℕ) (args : List Value) (result : HostValueType) (w : World)
      → asked z m e object args result (moved_world w) ≡ moved_done (asked z m e object args result w)
  unfolding asked
  asked_moved z m e object args result w =
      let go : World → Done = λ u. asked_from z m e object args result u.inputs u in
      ap (λ b. if b then or_else (memory_step (moved_world w)) (Fails Memory) go else Fails Memory (moved_world w)) (may_moved (use_at z m e).role w)
      ∙ if_moved moved_done (may_ask (use_at z m e).role w) (or_else (memory_step w) (Fails Memory) go) (Fails Memory w)
      (or_else (memory_step (moved_world w)) (Fails Memory) go) (Fails Memory (moved_world w))
      (ap (λ s. or_else s (Fails Memory) go) (step_moved w)
      ∙ or_moved moved_done (memory_step w) (Fails Memory) go (Fails Memory) go (λ u. refl) (λ u. told_moved z m e object args result u.inputs u)) refl

  -- ---- operations on what is no global

  gives_moved : (vs : List Slot) (o : Done) → gives_up vs (moved_done o) ≡ moved_done (gives_up vs o)
  gives_moved vs (Fine v w) = ap (Fine v) (give_all_moved vs w)
  gives_moved vs (Fails f w) = refl

  in_place_moved : (v : Slot) (o : Done) → in_place_of v (moved_done o) ≡ moved_done (in_place_of v o)
  in_place_moved v (Fine x w) = refl
  in_place_moved v (Fails f w) = refl

  calling_moved : (z : Environment) (m : ℕ) (e : EntityNo) (r : Receiver) (args : List Slot) (w : World)
      → called_of z m e r args (moved_world w) ≡ moved_done (called_of z m e r args w)
  calling_moved z m e NoReceiver args w = asked_moved z m e None _ _ w
  calling_moved z m e (Of k) args w = asked_moved z m e (Some k) _ _ w
  calling_moved z m e NullReceiver args w = refl

  reading_moved : (z : Environment) (m : ℕ) (e : EntityNo) (r : Receiver) (w : World) → read_of z m e r (moved_world w) ≡ moved_done (read_of z m e r w)
  reading_moved z m e NoReceiver w = asked_moved z m e None [] _ w
  reading_moved z m e (Of k) w = asked_moved z m e (Some k) [] _ w
  reading_moved z m e NullReceiver w = refl

  writing_moved : (z : Environment) (m : ℕ) (e : EntityNo) (r : Receiver) (v : Slot) (w : World) → write_of z m e r v (moved_world w) ≡ moved_done (write_of z m e r v w)
  writing_moved z m e NoReceiver v w = asked_moved z m e None _ Nothing w
  writing_moved z m e (Of k) v w = asked_moved z m e (Some k) _ Nothing w
  writing_moved z m e NullReceiver v w = refl

  placed_moved : (z : Environment) (m : ℕ) (e : EntityNo) (r : Receiver) (x v : Slot) (w : World)
      → in_place_of x (write_of z m e r v (moved_world w)) ≡ moved_done (in_place_of x (write_of z m e r v w))
  placed_moved z m e r x v w = ap (in_place_of x) (writing_moved z m e r v w) ∙ in_place_moved x (write_of z m e r v w)

  altering_moved : (z : Environment) (m : ℕ) (e : EntityNo) (r : Receiver) (x : Slot) (c : Changed) (w : World)
      → altered_to z m e r x c (moved_world w) ≡ moved_done (altered_to z m e r x c w)
  altering_moved z m e r x (Never f) w = ap (Fails f) (give_moved x w)
  altering_moved z m e r x (Into stored given) w = placed_moved z m e r (Bits given) (Bits stored) w

  altered_moved : (z : Environment) (m : ℕ) (e : EntityNo) (r : Receiver) (c : Update) (v : Slot) (o : Done)
      → altered_of z m e r c v (moved_done o) ≡ moved_done (altered_of z m e r c v o)
  altered_moved z m e r c v (Fine x w) = altering_moved z m e r x (change_of c x v) w
  altered_moved z m e r c v (Fails f w) = refl

  alters_moved : (z : Environment) (m : ℕ) (e : EntityNo) (r : Receiver) (c : Update) (v : Slot) (w : World)
      → altered_of z m e r c v (read_of z m e r (moved_world w)) ≡ moved_done (altered_of z m e r c v (read_of z m e r w))
  alters_moved z m e r c v w = ap (altered_of z m e r c v) (reading_moved z m e r w) ∙ altered_moved z m e r c v (read_of z m e r w)

  work_moved : (o : Worked) (w : World) → work_done o (moved_world w) ≡ moved_done (work_done o w)
  work_moved (Is n) w = refl
  work_moved (Cannot f) w = refl

  made_moved : (c : Class) (is : List Input) (w : World) → made_from c is (moved_world w) ≡ moved_done (made_from c is w)
  made_moved c (Fresh n ∷ rest) w = refl
  made_moved c _ w = refl

  pub take_moved : (n : ℕ) (v : Slot) (w : World) → may_take n v (moved_world w) ≡ may_take n v w
  unfolding may_take
  take_moved n (Script (Some k)) w = refl
  take_moved n _ w = refl

  pub field_moved : (n i : ℕ) (v : Slot) (w : World) → field_or n i v (moved_world w) ≡ field_or n i v w
  unfolding field_or
  field_moved n i v w = refl

  pub field_put_moved : (n i : ℕ) (v : Slot) (w : World) → field_put n i v (moved_world w) ≡ moved_world (field_put n i v w)
  unfolding field_put
  field_put_moved n i v w = refl

  stored_field_moved : (n i : ℕ) (v : Slot) (w : World) → stored_field n i v (moved_world w) ≡ moved_done (stored_field n i v w)
  stored_field_moved n i v w =
      ap₂ (λ x u. Fine v (give x u)) (field_moved n i v w) (field_put_moved n i v w) ∙ ap (Fine v) (give_moved (field_or n i v w) (field_put n i v w))

  changed_field_moved : (n i : ℕ) (c : Changed) (w : World) → changed_field n i c (moved_world w) ≡ moved_done (changed_field n i c w)
  changed_field_moved n i (Into stored given) w = ap (Fine (Bits given)) (field_put_moved n i (Bits stored) w)
  changed_field_moved n i (Never f) w = refl

  cast_moved : (b : Bool) (n : ℕ) (w : World) → cast_to b n (moved_world w) ≡ moved_done (cast_to b n w)
  cast_moved true n w = refl
  cast_moved false n w = ap (Fine (Script None)) (give_moved (Script (Some n)) w)

  -- a field that may take the value, or not
  set_moved : (n i : ℕ) (v : Slot) (w : World)
      → (if may_take n v (moved_world w) then or_else (hold v (moved_world w)) (Fails Tally) (stored_field n i v) else Fails Null (moved_world w))
      ≡ moved_done (if may_take n v w then or_else (hold v w) (Fails Tally) (stored_field n i v) else Fails Null w)
  set_moved n i v w =
      ap (λ b. if b then or_else (hold v (moved_world w)) (Fails Tally) (stored_field n i v) else Fails Null (moved_world w)) (take_moved n v w)
      ∙ if_moved moved_done (may_take n v w) (or_else (hold v w) (Fails Tally) (stored_field n i v)) (Fails Null w)
      (or_else (hold v (moved_world w)) (Fails Tally) (stored_field n i v)) (Fails Null (moved_world w))
      (ap (λ o. or_else o (Fails Tally) (stored_field n i v)) (hold_moved v w)
      ∙ or_moved moved_done (hold v w) (Fails Tally) (stored_field n i v) (Fails Tally) (stored_field n i v) (λ u. refl) (λ u. stored_field_moved n i v u)) refl

  make_moved : (c : Class) (w : World)
      → (if may_make c w then or_else (memory_step (moved_world w)) (Fails Memory) (λ u. made_from c u.inputs u) else Fails Memory (moved_world w))
      ≡ moved_done (if may_make c w then or_else (memory_step w) (Fails Memory) (λ u. made_from c u.inputs u) else Fails Memory w)
  make_moved c w =
      let go : World → Done = λ u. made_from c u.inputs u in
      if_moved moved_done (may_make c w) (or_else (memory_step w) (Fails Memory) go) (Fails Memory w)
      (or_else (memory_step (moved_world w)) (Fails Memory) go) (Fails Memory (moved_world w))
      (ap (λ s. or_else s (Fails Memory) go) (step_moved w)
      ∙ or_moved moved_done (memory_step w) (Fails Memory) go (Fails Memory) go (λ u. refl) (λ u. made_moved c u.inputs u)) refl

  pub performed_elsewhere : (z : Environment) (m : ℕ) (op : Operation) (vs : List Slot) (w : World) → of_globals op ≡ false
      → perform z m op vs (moved_world w) ≡ moved_done (perform z m op vs w)
  unfolding perform
  performed_elsewhere z m (Binary a q) (Bits y ∷ Bits x ∷ []) w e = work_moved (binary_result a q x y) w
  performed_elsewhere z m (Compare c signed) (Bits y ∷ Bits x ∷ []) w e = refl
  performed_elsewhere z m (Convert q) (Bits x ∷ []) w e = refl
  performed_elsewhere z m (Negate q) (Bits x ∷ []) w e = refl
  performed_elsewhere z m (Complement q) (Bits x ∷ []) w e = refl
  performed_elsewhere z m Not (Bits x ∷ []) w e = refl
  performed_elsewhere z m Same (y ∷ x ∷ []) w e = ap (Fine (Bits (truth (is_same x y)))) (ap (give x) (give_moved y w) ∙ give_moved x (give y w))
  performed_elsewhere z m (GlobalGet g) vs w e = absurd (cc)
  performed_elsewhere z m (GlobalSet g) vs w e = absurd (cc)
  performed_elsewhere z m (GlobalChange c g) vs w e = absurd (cc)
  performed_elsewhere z m (Ask x) vs w e =
      let r = receiver_of (use_at z m x) (reverse vs) in
      let args = arguments_of (use_at z m x) (reverse vs) in
      ap (gives_up vs) (calling_moved z m x r args w) ∙ gives_moved vs (called_of z m x r args w)
  performed_elsewhere z m (Read x) vs w e =
      let r = receiver_of (use_at z m x) vs in
      ap (gives_up vs) (reading_moved z m x r w) ∙ gives_moved vs (read_of z m x r w)
  performed_elsewhere z m (Write x) (v ∷ []) w e = placed_moved z m x (receiver_of (use_at z m x) []) v v w
  performed_elsewhere z m (Write x) (o ∷ v ∷ []) w e =
      let r = receiver_of (use_at z m x) (o ∷ []) in
      ap (gives_up (o ∷ [])) (placed_moved z m x r v v w) ∙ gives_moved (o ∷ []) (in_place_of v (write_of z m x r v w))
  performed_elsewhere z m (Alter x c) (v ∷ []) w e = alters_moved z m x (receiver_of (use_at z m x) []) c v w
  performed_elsewhere z m (Alter x c) (o ∷ v ∷ []) w e =
      let r = receiver_of (use_at z m x) (o ∷ []) in
      ap (gives_up (o ∷ [])) (alters_moved z m x r c v w) ∙ gives_moved (o ∷ []) (altered_of z m x r c v (read_of z m x r w))
  performed_elsewhere z m (Make c) [] w e = make_moved (class_at z m c) w
  performed_elsewhere z m (FieldGet i) (Script (Some n) ∷ []) w e =
      let v = field_or n i (Bits 0) w in
      ap (λ x. gives_up (Script (Some n) ∷ []) (holding x (moved_world w))) (field_moved n i (Bits 0) w)
      ∙ ap (gives_up (Script (Some n) ∷ [])) (holding_moved v w) ∙ gives_moved (Script (Some n) ∷ []) (holding v w)
  performed_elsewhere z m (FieldSet i) (Script (Some n) ∷ v ∷ []) w e =
      ap (gives_up (Script (Some n) ∷ [])) (set_moved n i v w)
      ∙ gives_moved (Script (Some n) ∷ []) (if may_take n v w then or_else (hold v w) (Fails Tally) (stored_field n i v) else Fails Null w)
  performed_elsewhere z m (FieldChange c i) (Script (Some n) ∷ v ∷ []) w e =
      let d = change_of c (field_or n i (Bits 0) w) v in
      ap (λ x. gives_up (Script (Some n) ∷ []) (changed_field n i (change_of c x v) (moved_world w))) (field_moved n i (Bits 0) w)
      ∙ ap (gives_up (Script (Some n) ∷ [])) (changed_field_moved n i d w) ∙ gives_moved (Script (Some n) ∷ []) (changed_field n i d w)
  performed_elsewhere z m (Cast c) (Script None ∷ []) w e = refl
  performed_elsewhere z m (Cast c) (Script (Some n) ∷ []) w e = cast_moved (is_under z m c (map.get w.objects n)) n w
  performed_elsewhere z m _ _ w e = refl

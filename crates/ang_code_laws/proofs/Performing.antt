-- What each strict operation lists: its host calls are of its entity.
use Rattle.std.proofs.Common.{◌≡◌, ℕ, suc, ◌+◌, ◌≤◌, inl, inr, List, [], ◌∷◌, ◌++◌, length, Option, Some, None, refl, sym, ap, ◌∙◌, arith, append-nil}
use Rattle.std.specs.Prelude.{Bool, true, false, cond, ◌&&◌, not, nat_eq, reverse}
use Rattle.std.proofs.lemmas.List.{length-reverse}
use Rattle.std.specs.FinMap as map
use Rattle.ang_kinds.specs.declared.mask.EntityNo.{EntityNo}
use Rattle.ang_kinds.specs.declared.value.Value.{Value}
use Rattle.ang_kinds.specs.declared.fault.Fault.TheVariants.{BadAnswer, Memory, Null, Tally}
use Rattle.ang_host.specs.declared.answer.Made.TheVariants.{Key as MadeKey, Nothing as MadeNothing, Fault as MadeFault, Memory as MadeMemory, Full as MadeFull}
use Rattle.ang_host.specs.declared.answer.Answer.TheVariants.{Void, Gave, Fault as SaidFault, Memory as SaidMemory, Full}
use Rattle.ang_host.specs.declared.answer.HostReply.{HostReply}
use Rattle.ang_host.specs.declared.answer.HostReply.TheVariants.{Making, Asking}
use Rattle.ang_host.specs.declared.event.HostEvent.TheVariants.{Called}
use Rattle.ang_host.specs.declared.event.Role.{Role}
use Rattle.ang_host.specs.declared.event.Role.TheVariants.{Making as MakingRole, Calling as CallingRole, Property as PropertyRole}
use Rattle.ang_meaning.specs.declared.host.HostUse.{HostUse}
use Rattle.ang_meaning.specs.declared.slot.Slot.{Slot}
use Rattle.ang_meaning.specs.declared.slot.Slot.TheVariants.{Bits, Script, Host}
use Rattle.ang_meaning.specs.declared.host.HostValueType.{HostValueType}
use Rattle.ang_meaning.specs.declared.host.HostValueType.TheVariants.{Nothing}
use Rattle.ang_meaning.specs.declared.operation.Update.{Update}
use Rattle.ang_meaning.specs.declared.operation.Operation.{Operation}
use Rattle.ang_meaning.specs.declared.operation.Operation.TheVariants.{Binary, Compare, Convert, Negate, Complement, Not, Same, GlobalGet, GlobalSet, GlobalChange, Ask, Read, Write, Alter, Make, FieldGet, FieldSet, FieldChange, Cast}
use Rattle.ang_meaning.specs.Numbers.{Worked, Is, Cannot, Changed, Into, Never, binary_result}
use Rattle.ang_meaning.specs.World.{World, Input, Room, Said, Tallied, Fresh, Tried, Yes, No, memory_step, hold, give, give_all, or_else}
use Rattle.ang_meaning.specs.declared.class.Class.{Class}
use Rattle.ang_meaning.specs.Environment.{Environment, class_at, host_in, use_at, is_called_by, is_property, may_call, may_access, may_write, is_fit}
use Rattle.ang_meaning.specs.Hosts.{Done, Fine, Fails, accepted, is_void, slot_of, one_reserved, replied_by, is_reply_to, may_ask, asked_from, asked, value_of, values_of}
use Rattle.ang_meaning.specs.Perform.{work_done, change_of, global_or, global_put, stored_global, changed_global, Receiver, Of, key_at, receiver_of, behind_first, arguments_of, gives_up, called_of, read_of, write_of, in_place_of, altered_to, altered_of, field_or, field_put, may_take, stored_field, changed_field, is_under, cast_to, may_make, made_from, perform, member_count, operands, NoReceiver, NullReceiver}
use Rattle.ang_meaning.proofs.Moving.{give_moves, give_all_moves, put_moves, field_moves}
use Rattle.ang_code_laws.specs.Asked.{MayBeAsked, ArgumentsBy, FitsUse, Asks}
use Rattle.ang_code_laws.proofs.Events.{asks_then, nothing, untold, TriedAsks, memory_asks, more_asks, hold_asks}

-- ---- what a host call hands over

values_length : (d : ℕ) (types : List HostValueType) (vs : List Slot) → length types ≤ length vs → length (values_of d types vs) ≡ length types
values_length d [] vs le = refl
values_length d (ty ∷ types) [] le = absurd (omega (arith, le))
values_length d (ty ∷ types) (v ∷ vs) le = ap suc (values_length d types vs (omega (arith, le)))

behind_length : (b : Bool) (k : ℕ) (vs : List Slot) → length vs ≡ k + member_count b → length (cond b (behind_first vs) vs) ≡ k
behind_length true k [] e = absurd (omega (arith, e))
behind_length true k (v ∷ vs) e = omega (arith, e)
behind_length false k vs e = omega (arith, e)

-- the object that an entity is asked of
abbrev IsReceiver : HostUse → Receiver → Type 0
IsReceiver u NoReceiver = false ≡ u.member
IsReceiver u (Of k) = true ≡ u.member
IsReceiver u NullReceiver = Unit {0}

one_key : (b : Bool) (u : HostUse) (k : ℕ) → u.member ≡ true → IsReceiver u (cond b (Of k) NullReceiver)
one_key true u k e = sym e
one_key false u k e = tt

key_is : (u : HostUse) (vs : List Slot) → u.member ≡ true → IsReceiver u (key_at u.driver vs)
key_is u [] e = tt
key_is u (Bits n ∷ vs) e = tt
key_is u (Script j ∷ vs) e = tt
key_is u (Host d None ∷ vs) e = tt
key_is u (Host d (Some k) ∷ vs) e = one_key (nat_eq u.driver d) u k e

receiver_by : (b : Bool) (u : HostUse) (vs : List Slot) → u.member ≡ b → IsReceiver u (cond b (key_at u.driver vs) NoReceiver)
receiver_by true u vs e = key_is u vs e
receiver_by false u vs e = sym e

receiver_is : (u : HostUse) (vs : List Slot) → IsReceiver u (receiver_of u vs)
receiver_is u vs = receiver_by u.member u vs refl

both_first : (a b : Bool) → (a && b) ≡ true → a ≡ true
both_first true b h = refl
both_first false b h = h

not_is : (b : Bool) → not b ≡ true → b ≡ false
not_is true h = absurd (let x : ⊥ = cc in x)
not_is false h = refl

-- the arguments of a call, of a read and of a write
called_by : (r : Role) (u : HostUse) (args : List Value) → is_called_by r u.member ≡ true → length args ≡ length u.params → ArgumentsBy r u args
called_by (MakingRole f) u args h e = e
called_by (CallingRole f) u args h e = e
called_by (PropertyRole f) u args h e = absurd (let x : ⊥ = cc in x)

call_arguments : (o : Option HostUse) (args : List Value) → may_call o ≡ true → length args ≡ length (host_in o).params → ArgumentsBy (host_in o).role (host_in o) args
call_arguments None args h e = absurd (let x : ⊥ = cc in x)
call_arguments (Some u) args h e = called_by u.role u args h e

read_by : (r : Role) (u : HostUse) → is_property r ≡ true → ArgumentsBy r u []
read_by (MakingRole f) u h = absurd (let x : ⊥ = cc in x)
read_by (CallingRole f) u h = absurd (let x : ⊥ = cc in x)
read_by (PropertyRole f) u h = inl refl

read_arguments : (o : Option HostUse) → may_access o ≡ true → ArgumentsBy (host_in o).role (host_in o) []
read_arguments None h = absurd (let x : ⊥ = cc in x)
read_arguments (Some u) h = read_by u.role u h

written_by : (r : Role) (u : HostUse) (v : Value) → (is_property r && not u.read_only) ≡ true → ArgumentsBy r u (v ∷ [])
written_by (MakingRole f) u v h = absurd (let x : ⊥ = cc in x)
written_by (CallingRole f) u v h = absurd (let x : ⊥ = cc in x)
written_by (PropertyRole f) u v h = inr (refl, not_is u.read_only h)

write_arguments : (o : Option HostUse) → may_write o ≡ true → (v : Value) → ArgumentsBy (host_in o).role (host_in o) (v ∷ [])
write_arguments None h v = absurd (let x : ⊥ = cc in x)
write_arguments (Some u) h v = written_by u.role u v h

-- what may be written may be read
accesses : (o : Option HostUse) → may_write o ≡ true → may_access o ≡ true
accesses None h = absurd (let x : ⊥ = cc in x)
accesses (Some u) h = both_first (is_property u.role) (not u.read_only) h

module _ (z : Environment) (m : ℕ) where
  abbrev pub DoneAsks : World → Done → Type 0
  DoneAsks w (Fine v w') = Asks z w w'
  DoneAsks w (Fails f w') = Asks z w w'

  done_then : (u w : World) (o : Done) → Asks z u w → DoneAsks w o → DoneAsks u o
  done_then u w (Fine v w') p q = asks_then z u w w' p q
  done_then u w (Fails f w') p q = asks_then z u w w' p q

  holding_asks : (v : Slot) (w : World) (o : Tried) → TriedAsks z w o → DoneAsks w (or_else o (Fails Tally) (Fine v))
  holding_asks v w (No w') p = p
  holding_asks v w (Yes w') p = p

  accepted_asks : (o : Option Slot) (w : World) → DoneAsks w (accepted o w)
  accepted_asks None w = nothing z w
  accepted_asks (Some v) w = holding_asks v w (hold v w) (hold_asks z v w)

  void_asks : (b : Bool) (w : World) → DoneAsks w (cond b (Fine (Bits 0) w) (Fails BadAnswer w))
  void_asks true w = nothing z w
  void_asks false w = nothing z w

  replied_asks : (d : ℕ) (result : HostValueType) (r : HostReply) (w : World) → DoneAsks w (replied_by d result r w)
  unfolding replied_by
  replied_asks d result (Making (MadeKey k)) w =
      let p = more_asks z (Host d (Some k)) (one_reserved w) in record { more = p.more; events = p.events; askings = p.askings }
  replied_asks d result (Making MadeNothing) w = nothing z w
  replied_asks d result (Making (MadeFault n)) w = nothing z w
  replied_asks d result (Making MadeMemory) w = nothing z w
  replied_asks d result (Making MadeFull) w = nothing z w
  replied_asks d result (Asking Void) w = void_asks (is_void result) w
  replied_asks d result (Asking (Gave v)) w = accepted_asks (slot_of d result v) w
  replied_asks d result (Asking (SaidFault n)) w = nothing z w
  replied_asks d result (Asking SaidMemory) w = nothing z w
  replied_asks d result (Asking Full) w = nothing z w

  -- a reply of another kind is left, and nothing is asked where a bound is met
  kind_asks : (b : Bool) (w : World) (o : Done) → (b ≡ true → DoneAsks w o) → DoneAsks w (cond b o (Fails Memory w))
  kind_asks true w o p = p refl
  kind_asks false w o p = nothing z w

  -- a host call of an entity that may be asked
  module _ (e : EntityNo) (may : MayBeAsked z m e) where
    asked_said : (object : Option ℕ) (args : List Value) (result : HostValueType) (inputs : List Input) (w : World) → FitsUse (use_at z m e) object args → DoneAsks w (asked_from z m e object args result inputs w)
    asked_said object args result (Said reply ∷ rest) w fits =
        let event = Called (z.name m) e (use_at z m e).driver object args reply in
        let u : World = record w { inputs = rest; events = w.events ++ event ∷ []; reserved = suc w.reserved } in
        kind_asks (is_reply_to (use_at z m e).role reply) w _
        (λ kind. done_then w u _ (record { more = event ∷ []; events = refl; askings = ((m, refl, may, refl, fits, kind), tt) }) (replied_asks (use_at z m e).driver result reply u))
    asked_said object args result [] w fits = nothing z w
    asked_said object args result (Room b ∷ rest) w fits = nothing z w
    asked_said object args result (Tallied b ∷ rest) w fits = nothing z w
    asked_said object args result (Fresh n ∷ rest) w fits = nothing z w

    asked_tried : (object : Option ℕ) (args : List Value) (result : HostValueType) (w : World) (o : Tried) → FitsUse (use_at z m e) object args → TriedAsks z w o → DoneAsks w (or_else o (Fails Memory) (λ u. asked_from z m e object args result u.inputs u))
    asked_tried object args result w (No w') fits p = p
    asked_tried object args result w (Yes w') fits p = done_then w w' _ p (asked_said object args result w'.inputs w' fits)

    asked_asks : (object : Option ℕ) (args : List Value) (result : HostValueType) (w : World) → FitsUse (use_at z m e) object args → DoneAsks w (asked z m e object args result w)
    unfolding asked
    asked_asks object args result w fits = kind_asks (may_ask (use_at z m e).role w) w _ (λ b. asked_tried object args result w (memory_step w) fits (memory_asks z w))

    called_asks : (r : Receiver) (args : List Slot) (w : World) → IsReceiver (use_at z m e) r
        → ArgumentsBy (use_at z m e).role (use_at z m e) (values_of (use_at z m e).driver (use_at z m e).params args) → DoneAsks w (called_of z m e r args w)
    called_asks NoReceiver args w t q =
        asked_asks None (values_of (use_at z m e).driver (use_at z m e).params args) (use_at z m e).result w (record { of_object = t; arguments = q })
    called_asks (Of k) args w t q =
        asked_asks (Some k) (values_of (use_at z m e).driver (use_at z m e).params args) (use_at z m e).result w (record { of_object = t; arguments = q })
    called_asks NullReceiver args w t q = nothing z w

    read_asks : (r : Receiver) (w : World) → IsReceiver (use_at z m e) r → ArgumentsBy (use_at z m e).role (use_at z m e) [] → DoneAsks w (read_of z m e r w)
    read_asks NoReceiver w t q = asked_asks None [] (use_at z m e).result w (record { of_object = t; arguments = q })
    read_asks (Of k) w t q = asked_asks (Some k) [] (use_at z m e).result w (record { of_object = t; arguments = q })
    read_asks NullReceiver w t q = nothing z w

    write_asks : (r : Receiver) (v : Slot) (w : World) → IsReceiver (use_at z m e) r → ((x : Value) → ArgumentsBy (use_at z m e).role (use_at z m e) (x ∷ [])) → DoneAsks w (write_of z m e r v w)
    write_asks NoReceiver v w t q =
        let x = value_of (use_at z m e).driver (use_at z m e).result v in
        asked_asks None (x ∷ []) Nothing w (record { of_object = t; arguments = q x })
    write_asks (Of k) v w t q =
        let x = value_of (use_at z m e).driver (use_at z m e).result v in
        asked_asks (Some k) (x ∷ []) Nothing w (record { of_object = t; arguments = q x })
    write_asks NullReceiver v w t q = nothing z w

  in_place_asks : (v : Slot) (w : World) (o : Done) → DoneAsks w o → DoneAsks w (in_place_of v o)
  in_place_asks v w (Fine x w') p = p
  in_place_asks v w (Fails f w') p = p

  module _ (e : EntityNo) (may : MayBeAsked z m e) (q : (x : Value) → ArgumentsBy (use_at z m e).role (use_at z m e) (x ∷ [])) where
    altered_to_asks : (r : Receiver) (x : Slot) (c : Changed) (w : World) → IsReceiver (use_at z m e) r → DoneAsks w (altered_to z m e r x c w)
    altered_to_asks r x (Never f) w t = untold z w (give x w) (give_moves x w)
    altered_to_asks r x (Into stored given) w t = in_place_asks (Bits given) w (write_of z m e r (Bits stored) w) (write_asks e may r (Bits stored) w t q)

    altered_asks : (r : Receiver) (c : Update) (v : Slot) (w : World) (o : Done) → IsReceiver (use_at z m e) r → DoneAsks w o → DoneAsks w (altered_of z m e r c v o)
    altered_asks r c v w (Fails f w') t p = p
    altered_asks r c v w (Fine x w') t p = done_then w w' _ p (altered_to_asks r x (change_of c x v) w' t)

  work_asks : (o : Worked) (w : World) → DoneAsks w (work_done o w)
  work_asks (Is n) w = nothing z w
  work_asks (Cannot f) w = nothing z w

  stored_asks : (g : ℕ) (v : Slot) (w : World) (o : Tried) → TriedAsks z w o → DoneAsks w (or_else o (Fails Tally) (stored_global m g v))
  stored_asks g v w (No w') p = p
  stored_asks g v w (Yes w') p =
      let put = global_put m g v w' in
      let old = global_or m g v w' in
      asks_then z w w' (give old put) p (asks_then z w' put (give old put) (untold z w' put (put_moves m g v w')) (untold z put _ (give_moves old put)))

  changed_asks : (g : ℕ) (c : Changed) (w : World) → DoneAsks w (changed_global m g c w)
  changed_asks g (Into stored given) w = untold z w _ (put_moves m g (Bits stored) w)
  changed_asks g (Never f) w = nothing z w

  gives_up_asks : (vs : List Slot) (w : World) (o : Done) → DoneAsks w o → DoneAsks w (gives_up vs o)
  gives_up_asks vs w (Fine v w') p = asks_then z w w' (give_all vs w') p (untold z w' _ (give_all_moves vs w'))
  gives_up_asks vs w (Fails f w') p = p

  stored_field_asks : (n i : ℕ) (v : Slot) (w : World) (o : Tried) → TriedAsks z w o → DoneAsks w (or_else o (Fails Tally) (stored_field n i v))
  stored_field_asks n i v w (No w') p = p
  stored_field_asks n i v w (Yes w') p =
      let put = field_put n i v w' in
      let old = field_or n i v w' in
      asks_then z w w' (give old put) p (asks_then z w' put (give old put) (untold z w' put (field_moves n i v w')) (untold z put _ (give_moves old put)))

  may_store_asks : (b : Bool) (n i : ℕ) (v : Slot) (w : World) → DoneAsks w (cond b (or_else (hold v w) (Fails Tally) (stored_field n i v)) (Fails Null w))
  may_store_asks true n i v w = stored_field_asks n i v w (hold v w) (hold_asks z v w)
  may_store_asks false n i v w = nothing z w

  changed_field_asks : (n i : ℕ) (c : Changed) (w : World) → DoneAsks w (changed_field n i c w)
  changed_field_asks n i (Into stored given) w = untold z w _ (field_moves n i (Bits stored) w)
  changed_field_asks n i (Never f) w = nothing z w

  cast_asks : (b : Bool) (n : ℕ) (w : World) → DoneAsks w (cast_to b n w)
  cast_asks true n w = nothing z w
  cast_asks false n w = untold z w _ (give_moves (Script (Some n)) w)

  made_from_asks : (k : Class) (inputs : List Input) (w : World) → DoneAsks w (made_from k inputs w)
  made_from_asks k [] w = nothing z w
  made_from_asks k (Fresh n ∷ rest) w = record { more = []; events = sym (append-nil w.events); askings = tt }
  made_from_asks k (Said r ∷ rest) w = nothing z w
  made_from_asks k (Room b ∷ rest) w = nothing z w
  made_from_asks k (Tallied b ∷ rest) w = nothing z w

  made_asks : (k : Class) (w : World) (o : Tried) → TriedAsks z w o → DoneAsks w (or_else o (Fails Memory) (λ u. made_from k u.inputs u))
  made_asks k w (No w') p = p
  made_asks k w (Yes w') p = done_then w w' _ p (made_from_asks k w'.inputs w')

  -- the host calls of each operation, by its guard
  ask_asks : (e : EntityNo) (vs : List Slot) (w : World) → is_fit z m (Ask e) ≡ true → length vs ≡ operands z m (Ask e)
      → DoneAsks w (called_of z m e (receiver_of (use_at z m e) vs) (arguments_of (use_at z m e) vs) w)
  unfolding is_fit operands
  ask_asks e vs w h n =
      let u = use_at z m e in
      let behind : length (arguments_of u vs) ≡ length u.params = behind_length u.member (length u.params) vs n in
      called_asks e (inl h) (receiver_of u vs) (arguments_of u vs) w (receiver_is u vs)
      (call_arguments (z.host m e.0) (values_of u.driver u.params (arguments_of u vs)) h (values_length u.driver u.params (arguments_of u vs) (omega (arith, behind))))

  read_fit_asks : (e : EntityNo) (vs : List Slot) (w : World) → is_fit z m (Read e) ≡ true → DoneAsks w (read_of z m e (receiver_of (use_at z m e) vs) w)
  unfolding is_fit
  read_fit_asks e vs w h = read_asks e (inr h) (receiver_of (use_at z m e) vs) w (receiver_is (use_at z m e) vs) (read_arguments (z.host m e.0) h)

  write_fit_asks : (e : EntityNo) (vs : List Slot) (v : Slot) (w : World) → is_fit z m (Write e) ≡ true → DoneAsks w (write_of z m e (receiver_of (use_at z m e) vs) v w)
  unfolding is_fit
  write_fit_asks e vs v w h =
      write_asks e (inr (accesses (z.host m e.0) h)) (receiver_of (use_at z m e) vs) v w (receiver_is (use_at z m e) vs) (write_arguments (z.host m e.0) h)

  alter_fit_asks : (e : EntityNo) (c : Update) (vs : List Slot) (v : Slot) (w : World) → is_fit z m (Alter e c) ≡ true
      → DoneAsks w (altered_of z m e (receiver_of (use_at z m e) vs) c v (read_of z m e (receiver_of (use_at z m e) vs) w))
  unfolding is_fit
  alter_fit_asks e c vs v w h =
      let r = receiver_of (use_at z m e) vs in
      let t = receiver_is (use_at z m e) vs in
      let may = accesses (z.host m e.0) h in
      altered_asks e (inr may) (write_arguments (z.host m e.0) h) r c v w (read_of z m e r w) t (read_asks e (inr may) r w t (read_arguments (z.host m e.0) may))

  pub perform_asks : (o : Operation) (vs : List Slot) (w : World) → is_fit z m o ≡ true → length vs ≡ operands z m o → DoneAsks w (perform z m o vs w)
  unfolding perform
  perform_asks (Binary a p) [] w h len = nothing z w
  perform_asks (Binary a p) (Bits y ∷ []) w h len = nothing z w
  perform_asks (Binary a p) (Bits y ∷ (Bits x ∷ [])) w h len = work_asks (binary_result a p x y) w
  perform_asks (Binary a p) (Bits y ∷ (Bits x ∷ (u ∷ us))) w h len = nothing z w
  perform_asks (Binary a p) (Bits y ∷ (Script j ∷ us)) w h len = nothing z w
  perform_asks (Binary a p) (Bits y ∷ (Host d j ∷ us)) w h len = nothing z w
  perform_asks (Binary a p) (Script j ∷ us) w h len = nothing z w
  perform_asks (Binary a p) (Host d j ∷ us) w h len = nothing z w
  perform_asks (Compare c signed) [] w h len = nothing z w
  perform_asks (Compare c signed) (Bits y ∷ []) w h len = nothing z w
  perform_asks (Compare c signed) (Bits y ∷ (Bits x ∷ [])) w h len = nothing z w
  perform_asks (Compare c signed) (Bits y ∷ (Bits x ∷ (u ∷ us))) w h len = nothing z w
  perform_asks (Compare c signed) (Bits y ∷ (Script j ∷ us)) w h len = nothing z w
  perform_asks (Compare c signed) (Bits y ∷ (Host d j ∷ us)) w h len = nothing z w
  perform_asks (Compare c signed) (Script j ∷ us) w h len = nothing z w
  perform_asks (Compare c signed) (Host d j ∷ us) w h len = nothing z w
  perform_asks (Convert p) [] w h len = nothing z w
  perform_asks (Convert p) (Bits x ∷ []) w h len = nothing z w
  perform_asks (Convert p) (Bits x ∷ (u ∷ us)) w h len = nothing z w
  perform_asks (Convert p) (Script j ∷ us) w h len = nothing z w
  perform_asks (Convert p) (Host d j ∷ us) w h len = nothing z w
  perform_asks (Negate p) [] w h len = nothing z w
  perform_asks (Negate p) (Bits x ∷ []) w h len = nothing z w
  perform_asks (Negate p) (Bits x ∷ (u ∷ us)) w h len = nothing z w
  perform_asks (Negate p) (Script j ∷ us) w h len = nothing z w
  perform_asks (Negate p) (Host d j ∷ us) w h len = nothing z w
  perform_asks (Complement p) [] w h len = nothing z w
  perform_asks (Complement p) (Bits x ∷ []) w h len = nothing z w
  perform_asks (Complement p) (Bits x ∷ (u ∷ us)) w h len = nothing z w
  perform_asks (Complement p) (Script j ∷ us) w h len = nothing z w
  perform_asks (Complement p) (Host d j ∷ us) w h len = nothing z w
  perform_asks Not [] w h len = nothing z w
  perform_asks Not (Bits x ∷ []) w h len = nothing z w
  perform_asks Not (Bits x ∷ (u ∷ us)) w h len = nothing z w
  perform_asks Not (Script j ∷ us) w h len = nothing z w
  perform_asks Not (Host d j ∷ us) w h len = nothing z w
  perform_asks Same [] w h len = nothing z w
  perform_asks Same (y ∷ []) w h len = nothing z w
  perform_asks Same (y ∷ (x ∷ [])) w h len = asks_then z w (give y w) _ (untold z w _ (give_moves y w)) (untold z (give y w) _ (give_moves x (give y w)))
  perform_asks Same (y ∷ (x ∷ (u ∷ us))) w h len = nothing z w
  perform_asks (GlobalGet g) [] w h len = let v = global_or m g (Bits 0) w in holding_asks v w (hold v w) (hold_asks z v w)
  perform_asks (GlobalGet g) (v ∷ vs) w h len = nothing z w
  perform_asks (GlobalSet g) [] w h len = nothing z w
  perform_asks (GlobalSet g) (v ∷ []) w h len = stored_asks g v w (hold v w) (hold_asks z v w)
  perform_asks (GlobalSet g) (v ∷ (u ∷ us)) w h len = nothing z w
  perform_asks (GlobalChange c g) [] w h len = nothing z w
  perform_asks (GlobalChange c g) (v ∷ []) w h len = changed_asks g (change_of c (global_or m g (Bits 0) w) v) w
  perform_asks (GlobalChange c g) (v ∷ (u ∷ us)) w h len = nothing z w
  perform_asks (Ask e) vs w h len = gives_up_asks vs w _ (ask_asks e (reverse vs) w h (length-reverse vs ∙ len))
  perform_asks (Read e) vs w h len = gives_up_asks vs w _ (read_fit_asks e vs w h)
  perform_asks (Write e) [] w h len = nothing z w
  perform_asks (Write e) (v ∷ []) w h len = in_place_asks v w _ (write_fit_asks e [] v w h)
  perform_asks (Write e) (o ∷ (v ∷ [])) w h len = gives_up_asks (o ∷ []) w _ (in_place_asks v w _ (write_fit_asks e (o ∷ []) v w h))
  perform_asks (Write e) (o ∷ (v ∷ (u ∷ us))) w h len = nothing z w
  perform_asks (Alter e c) [] w h len = nothing z w
  perform_asks (Alter e c) (v ∷ []) w h len = alter_fit_asks e c [] v w h
  perform_asks (Alter e c) (o ∷ (v ∷ [])) w h len = gives_up_asks (o ∷ []) w _ (alter_fit_asks e c (o ∷ []) v w h)
  perform_asks (Alter e c) (o ∷ (v ∷ (u ∷ us))) w h len = nothing z w
  perform_asks (Make c) [] w h len = kind_asks (may_make (class_at z m c) w) w _ (λ b. made_asks (class_at z m c) w (memory_step w) (memory_asks z w))
  perform_asks (Make c) (v ∷ vs) w h len = nothing z w
  perform_asks (FieldGet i) [] w h len = nothing z w
  perform_asks (FieldGet i) (Bits x ∷ us) w h len = nothing z w
  perform_asks (FieldGet i) (Script None ∷ us) w h len = nothing z w
  perform_asks (FieldGet i) (Script (Some n) ∷ []) w h len =
      let v = field_or n i (Bits 0) w in gives_up_asks (Script (Some n) ∷ []) w _ (holding_asks v w (hold v w) (hold_asks z v w))
  perform_asks (FieldGet i) (Script (Some n) ∷ (u ∷ us)) w h len = nothing z w
  perform_asks (FieldGet i) (Host d j ∷ us) w h len = nothing z w
  perform_asks (FieldSet i) [] w h len = nothing z w
  perform_asks (FieldSet i) (Bits x ∷ us) w h len = nothing z w
  perform_asks (FieldSet i) (Script None ∷ us) w h len = nothing z w
  perform_asks (FieldSet i) (Script (Some n) ∷ []) w h len = nothing z w
  perform_asks (FieldSet i) (Script (Some n) ∷ (v ∷ [])) w h len = gives_up_asks (Script (Some n) ∷ []) w _ (may_store_asks (may_take n v w) n i v w)
  perform_asks (FieldSet i) (Script (Some n) ∷ (v ∷ (u ∷ us))) w h len = nothing z w
  perform_asks (FieldSet i) (Host d j ∷ us) w h len = nothing z w
  perform_asks (FieldChange c i) [] w h len = nothing z w
  perform_asks (FieldChange c i) (Bits x ∷ us) w h len = nothing z w
  perform_asks (FieldChange c i) (Script None ∷ us) w h len = nothing z w
  perform_asks (FieldChange c i) (Script (Some n) ∷ []) w h len = nothing z w
  perform_asks (FieldChange c i) (Script (Some n) ∷ (v ∷ [])) w h len =
      gives_up_asks (Script (Some n) ∷ []) w _ (changed_field_asks n i (change_of c (field_or n i (Bits 0) w) v) w)
  perform_asks (FieldChange c i) (Script (Some n) ∷ (v ∷ (u ∷ us))) w h len = nothing z w
  perform_asks (FieldChange c i) (Host d j ∷ us) w h len = nothing z w
  perform_asks (Cast c) [] w h len = nothing z w
  perform_asks (Cast c) (Bits x ∷ us) w h len = nothing z w
  perform_asks (Cast c) (Script None ∷ []) w h len = nothing z w
  perform_asks (Cast c) (Script None ∷ (u ∷ us)) w h len = nothing z w
  perform_asks (Cast c) (Script (Some n) ∷ []) w h len = cast_asks (is_under z m c (map.get w.objects n)) n w
  perform_asks (Cast c) (Script (Some n) ∷ (u ∷ us)) w h len = nothing z w
  perform_asks (Cast c) (Host d j ∷ us) w h len = nothing z w

-- What each piece of a run is told, and what it lists.
use Rattle.std.proofs.Common.{◌≡◌, ℕ, zero, suc, inl, inr, ⊎_elim, List, [], ◌∷◌, ◌++◌, Option, Some, None, refl, sym, ap, ◌∙◌, append_assoc, append-nil}
use Rattle.std.specs.Prelude.{Bool, true, false, cond, reverse}
use Rattle.std.specs.FinMap as map
use Rattle.ang_kinds.specs.declared.mask.EntityNo.{EntityNo}
use Rattle.ang_kinds.specs.declared.value.Value.{Value}
use Rattle.ang_kinds.specs.declared.fault.Fault.{Fault}
use Rattle.ang_kinds.specs.declared.fault.Fault.TheVariants.{Null, Host as HostFault, BadAnswer, NoObject, Memory, Tally}
use Rattle.ang_host.specs.declared.answer.Made.TheVariants.{Key as MadeKey, Nothing as MadeNothing, Fault as MadeFault, Memory as MadeMemory, Full as MadeFull}
use Rattle.ang_host.specs.declared.answer.Answer.TheVariants.{Void, Gave, Fault as SaidFault, Memory as SaidMemory, Full}
use Rattle.ang_host.specs.declared.answer.HostReply.{HostReply}
use Rattle.ang_host.specs.declared.answer.HostReply.TheVariants.{Making, Asking}
use Rattle.ang_host.specs.declared.event.HostEvent.{HostEvent}
use Rattle.ang_host.specs.declared.event.HostEvent.TheVariants.{Called, Ended}
use Rattle.ang_meaning.specs.declared.slot.Slot.{Slot}
use Rattle.ang_meaning.specs.declared.slot.Slot.TheVariants.{Bits, Script, Host}
use Rattle.ang_meaning.specs.declared.host.HostValueType.{HostValueType}
use Rattle.ang_meaning.specs.declared.host.HostValueType.TheVariants.{Nothing}
use Rattle.ang_meaning.specs.declared.operation.Update.{Update}
use Rattle.ang_meaning.specs.declared.operation.Operation.{Operation}
use Rattle.ang_meaning.specs.declared.operation.Operation.TheVariants.{Binary, Compare, Convert, Negate, Complement, Not, Same, GlobalGet, GlobalSet, GlobalChange, Ask, Read, Write, Alter, Make, FieldGet, FieldSet, FieldChange, Cast}
use Rattle.ang_meaning.specs.declared.routine.Passing.{Passing}
use Rattle.ang_meaning.specs.declared.routine.Passing.TheVariants.{In, Out, Object}
use Rattle.ang_meaning.specs.Numbers.{Worked, Is, Cannot, Changed, Into, Never, binary_result}
use Rattle.ang_meaning.specs.World.{World, HostCounts, Input, Room, Said, Tallied, Fresh, Tried, Yes, No, memory_told, memory_step, one_more, HoldLimit, Inside, AtEnd, OfDriver, hold_limit_of, refused_at, tally_told, tally_step, hold, Lowered, Gone, Kept, host_lowered, each_given, script_given, script_lowered, given, give, give_all, or_else}
use Rattle.ang_meaning.specs.Told.{has_room, stopped_by, answers_told, answers_listed, Moves, GoesOn, Faults}
use Rattle.ang_meaning.specs.declared.class.Class.{Class}
use Rattle.ang_meaning.specs.Environment.{Environment, class_at, use_at}
use Rattle.ang_meaning.specs.Hosts.{Done, Fine, Fails, accepted, is_void, slot_of, one_reserved, replied_by, is_reply_to, may_ask, asked_from, asked, value_of, values_of}
use Rattle.ang_meaning.specs.Perform.{work_done, change_of, global_or, global_put, stored_global, changed_global, Receiver, Of, receiver_of, arguments_of, gives_up, called_of, read_of, write_of, in_place_of, altered_to, altered_of, field_or, field_put, may_take, member_put, stored_field, changed_field, is_under, cast_to, number_for, may_make, made_at, made_from, perform, NoReceiver, NullReceiver}
use Rattle.ang_meaning.specs.Results.{give_some, give_back, give_others}

told_append : (a b : List Input) → answers_told (a ++ b) ≡ answers_told a ++ answers_told b
told_append [] b = refl
told_append (Said r ∷ a) b = ap (λ l. r ∷ l) (told_append a b)
told_append (Room x ∷ a) b = told_append a b
told_append (Tallied x ∷ a) b = told_append a b
told_append (Fresh n ∷ a) b = told_append a b

listed_append : (a b : List HostEvent) → answers_listed (a ++ b) ≡ answers_listed a ++ answers_listed b
listed_append [] b = refl
listed_append (Called c e d o args r ∷ a) b = ap (λ l. r ∷ l) (listed_append a b)
listed_append (Ended d k ∷ a) b = listed_append a b

pub room_append : (a b : List Input) → has_room a ≡ true → has_room (a ++ b) ≡ has_room b
room_append [] b h = refl
room_append (Said r ∷ a) b h = room_append a b h
room_append (Room true ∷ a) b h = room_append a b h
room_append (Room false ∷ a) b h = absurd (cc)
room_append (Tallied true ∷ a) b h = room_append a b h
room_append (Tallied false ∷ a) b h = absurd (cc)
room_append (Fresh n ∷ a) b h = room_append a b h

stopped_append : (a b : List Input) → has_room a ≡ true → stopped_by (a ++ b) ≡ stopped_by b
stopped_append [] b h = refl
stopped_append (Said r ∷ a) b h = stopped_append a b h
stopped_append (Room true ∷ a) b h = stopped_append a b h
stopped_append (Room false ∷ a) b h = absurd (cc)
stopped_append (Tallied true ∷ a) b h = stopped_append a b h
stopped_append (Tallied false ∷ a) b h = absurd (cc)
stopped_append (Fresh n ∷ a) b h = stopped_append a b h

moves_then : (u v w : World) (a b : List Input) → Moves u a v → Moves v b w → Moves u (a ++ b) w
moves_then u v w a b p q = record {
  more = p.more ++ q.more;
  inputs = p.inputs ∙ ap (λ l. a ++ l) q.inputs ∙ sym (append_assoc a b w.inputs);
  events = q.events ∙ ap (λ l. l ++ q.more) p.events ∙ append_assoc u.events p.more q.more;
  answers = listed_append p.more q.more ∙ ap (λ l. l ++ answers_listed q.more) p.answers ∙ ap (λ l. answers_told a ++ l) q.answers ∙ sym (told_append a b);
}

pub goes_then : (u v w : World) → GoesOn u v → GoesOn v w → GoesOn u w
goes_then u v w p q = record { used = p.used ++ q.used; moves = moves_then u v w p.used q.used p.moves q.moves; room = room_append p.used q.used p.room ∙ q.room }

pub goes_stop : (f : Fault) (u v w : World) → GoesOn u v → Faults f v w → Faults f u w
goes_stop f u v w p q = record {
  used = p.used ++ q.used;
  moves = moves_then u v w p.used q.used p.moves q.moves;
  told = ⊎_elim (λ (e : has_room q.used ≡ true). inl (room_append p.used q.used p.room ∙ e)) (λ (e : stopped_by q.used ≡ Some f). inr (stopped_append p.used q.used p.room ∙ e)) q.told;
}

pub faulted : (f : Fault) (u v : World) → GoesOn u v → Faults f u v
faulted f u v p = record { used = p.used; moves = p.moves; told = inl p.room }

-- what asks for nothing
pub gives : (u v : World) → Moves u [] v → GoesOn u v
gives u v p = record { used = []; moves = p; room = refl }

-- and so may follow a refusal
pub stop_gives : (f : Fault) (u v w : World) → Faults f u v → Moves v [] w → Faults f u w
stop_gives f u v w p q =
    let m = p.moves in
    record {
      used = p.used;
      moves = record {
        more = m.more ++ q.more;
        inputs = m.inputs ∙ ap (λ l. p.used ++ l) q.inputs;
        events = q.events ∙ ap (λ l. l ++ q.more) m.events ∙ append_assoc u.events m.more q.more;
        answers = listed_append m.more q.more ∙ ap (λ l. answers_listed m.more ++ l) q.answers ∙ append-nil (answers_listed m.more) ∙ m.answers;
      };
      told = p.told;
    }

-- the inputs and the events stay
same : (u v : World) → v.inputs ≡ u.inputs → v.events ≡ u.events → Moves u [] v
same u v i e = record { more = []; inputs = sym i; events = e ∙ sym (append-nil u.events); answers = refl }

pub nothing : (w : World) → GoesOn w w
nothing w = gives w w (same w w refl refl)

-- giving up
each_gives : (go : Slot → World → World) → ((v : Slot) (w : World) → Moves w [] (go v w)) → (vs : List Slot) (w : World) → Moves w [] (each_given go vs w)
each_gives go h [] w = same w w refl refl
each_gives go h (v ∷ vs) w = moves_then w (go v w) (each_given go vs (go v w)) [] [] (h v w) (each_gives go h vs (go v w))

host_ends : (b : Bool) (d k : ℕ) (hs : HostCounts) (w : World) → Moves w [] (record w { hosts = hs; events = cond b (w.events ++ Ended d k ∷ []) w.events })
host_ends true d k hs w = record { more = Ended d k ∷ []; inputs = refl; events = refl; answers = refl }
host_ends false d k hs w = same w _ refl refl

script_gives : (go : Slot → World → World) → ((v : Slot) (w : World) → Moves w [] (go v w)) → (l : Lowered) (w : World) → Moves w [] (script_given go l w)
script_gives go h (Kept os) w = same w _ refl refl
script_gives go h (Gone vs os) w =
    let u : World = record w { objects = os } in
    moves_then w u (each_given go vs u) [] [] (same w u refl refl) (each_gives go h vs u)

given_moves : (n : ℕ) (v : Slot) (w : World) → Moves w [] (given n v w)
unfolding given
given_moves n (Bits x) w = same w w refl refl
given_moves n (Script None) w = same w w refl refl
given_moves n (Host d None) w = same w w refl refl
given_moves n (Host d (Some k)) w = let l = host_lowered d k w.hosts in host_ends l.ended d k l.hosts w
given_moves zero (Script (Some k)) w = same w w refl refl
given_moves (suc n) (Script (Some k)) w = script_gives (given n) (given_moves n) (script_lowered k w.objects) w

pub give_moves : (v : Slot) (w : World) → Moves w [] (give v w)
unfolding give
give_moves v w = given_moves (map.len w.objects) v w

pub give_all_moves : (vs : List Slot) (w : World) → Moves w [] (give_all vs w)
give_all_moves [] w = same w w refl refl
give_all_moves (v ∷ vs) w = moves_then w (give v w) (give_all vs (give v w)) [] [] (give_moves v w) (give_all_moves vs (give v w))

pub give_some_moves : (n : ℕ) (vs : List Slot) (w : World) → Moves w [] (give_some n vs w)
give_some_moves zero vs w = same w w refl refl
give_some_moves (suc n) [] w = same w w refl refl
give_some_moves (suc n) (v ∷ vs) w = moves_then w (give v w) (give_some n vs (give v w)) [] [] (give_moves v w) (give_some_moves n vs (give v w))

pub give_back_moves : (vs : List Slot) (w : World) → Moves w [] (give_back vs w)
give_back_moves [] w = same w w refl refl
give_back_moves (v ∷ vs) w = moves_then w (give_back vs w) (give v (give_back vs w)) [] [] (give_back_moves vs w) (give_moves v (give_back vs w))

pub give_others_moves : (ps : List Passing) (vs : List Slot) (w : World) → Moves w [] (give_others ps vs w)
give_others_moves [] vs w = same w w refl refl
give_others_moves (p ∷ ps) [] w = same w w refl refl
give_others_moves (In ∷ ps) (v ∷ vs) w = moves_then w (give v w) (give_others ps vs (give v w)) [] [] (give_moves v w) (give_others_moves ps vs (give v w))
give_others_moves (Object ∷ ps) (v ∷ vs) w = moves_then w (give v w) (give_others ps vs (give v w)) [] [] (give_moves v w) (give_others_moves ps vs (give v w))
give_others_moves (Out ∷ ps) (v ∷ vs) w = give_others_moves ps vs w

pub put_moves : (m g : ℕ) (v : Slot) (w : World) → Moves w [] (global_put m g v w)
unfolding global_put
put_moves m g v w = same w _ refl refl

-- a step that may be refused
abbrev pub TriedFrom : Fault → World → Tried → Type 0
TriedFrom f w (Yes w') = GoesOn w w'
TriedFrom f w (No w') = Faults f w w'

told_one : (w : World) (i : Input) (rest : List Input) → w.inputs ≡ i ∷ rest → answers_told (i ∷ []) ≡ [] → Moves w (i ∷ []) (record w { inputs = rest })
told_one w i rest e a = record { more = []; inputs = e; events = sym (append-nil w.events); answers = sym a }

memory_from : (inputs : List Input) (w : World) → w.inputs ≡ inputs → TriedFrom Memory w (memory_told inputs w)
memory_from [] w e = faulted Memory w w (nothing w)
memory_from (Room true ∷ rest) w e = record { used = Room true ∷ []; moves = told_one w (Room true) rest e refl; room = refl }
memory_from (Room false ∷ rest) w e = record { used = Room false ∷ []; moves = told_one w (Room false) rest e refl; told = inr refl }
memory_from (Said r ∷ rest) w e = faulted Memory w w (nothing w)
memory_from (Tallied b ∷ rest) w e = faulted Memory w w (nothing w)
memory_from (Fresh n ∷ rest) w e = faulted Memory w w (nothing w)

pub memory_goes : (w : World) → TriedFrom Memory w (memory_step w)
unfolding memory_step
memory_goes w = memory_from w.inputs w refl

refused_from : (x : HoldLimit) (rest : List Input) (w : World) → w.inputs ≡ Tallied false ∷ rest → TriedFrom Tally w (refused_at x rest w)
refused_from Inside rest w e = faulted Tally w w (nothing w)
refused_from AtEnd rest w e = record { used = Tallied false ∷ []; moves = told_one w (Tallied false) rest e refl; told = inr refl }
refused_from OfDriver rest w e = record {
  used = Tallied false ∷ [];
  moves = record { more = []; inputs = e; events = sym (append-nil w.events); answers = refl };
  told = inr refl;
}

tally_from : (x : HoldLimit) (inputs : List Input) (w : World) → w.inputs ≡ inputs → TriedFrom Tally w (tally_told x inputs w)
tally_from x [] w e = faulted Tally w w (nothing w)
tally_from x (Tallied true ∷ rest) w e = record { used = Tallied true ∷ []; moves = told_one w (Tallied true) rest e refl; room = refl }
tally_from x (Tallied false ∷ rest) w e = refused_from x rest w e
tally_from x (Said r ∷ rest) w e = faulted Tally w w (nothing w)
tally_from x (Room b ∷ rest) w e = faulted Tally w w (nothing w)
tally_from x (Fresh n ∷ rest) w e = faulted Tally w w (nothing w)

tally_goes : (v : Slot) (w : World) → TriedFrom Tally w (tally_step v w)
unfolding tally_step
tally_goes (Bits n) w = nothing w
tally_goes (Script None) w = nothing w
tally_goes (Script (Some n)) w = tally_from (hold_limit_of (map.get w.objects n)) w.inputs w refl
tally_goes (Host d None) w = nothing w
tally_goes (Host d (Some k)) w = tally_from OfDriver w.inputs w refl

more_moves : (v : Slot) (w : World) → Moves w [] (one_more v w)
unfolding one_more
more_moves (Bits n) w = same w w refl refl
more_moves (Script None) w = same w w refl refl
more_moves (Script (Some n)) w = same w _ refl refl
more_moves (Host d None) w = same w w refl refl
more_moves (Host d (Some k)) w = same w _ refl refl

held_goes : (v : Slot) (w : World) (o : Tried) → TriedFrom Tally w o → TriedFrom Tally w (or_else o No (λ u. Yes (one_more v u)))
held_goes v w (No w') p = p
held_goes v w (Yes w') p = goes_then w w' (one_more v w') p (gives w' (one_more v w') (more_moves v w'))

pub hold_goes : (v : Slot) (w : World) → TriedFrom Tally w (hold v w)
unfolding hold
hold_goes v w = held_goes v w (tally_step v w) (tally_goes v w)

-- an operation
abbrev pub DoneFrom : World → Done → Type 0
DoneFrom w (Fine v w') = GoesOn w w'
DoneFrom w (Fails f w') = Faults f w w'

done_then : (u w : World) (o : Done) → GoesOn u w → DoneFrom w o → DoneFrom u o
done_then u w (Fine v w') p q = goes_then u w w' p q
done_then u w (Fails f w') p q = goes_stop f u w w' p q

holding_goes : (v : Slot) (w : World) (o : Tried) → TriedFrom Tally w o → DoneFrom w (or_else o (Fails Tally) (Fine v))
holding_goes v w (No w') p = p
holding_goes v w (Yes w') p = p

accepted_goes : (o : Option Slot) (w : World) → DoneFrom w (accepted o w)
accepted_goes None w = faulted BadAnswer w w (nothing w)
accepted_goes (Some v) w = holding_goes v w (hold v w) (hold_goes v w)

void_goes : (b : Bool) (w : World) → DoneFrom w (cond b (Fine (Bits 0) w) (Fails BadAnswer w))
void_goes true w = nothing w
void_goes false w = faulted BadAnswer w w (nothing w)

replied_goes : (d : ℕ) (result : HostValueType) (r : HostReply) (w : World) → DoneFrom w (replied_by d result r w)
unfolding replied_by
replied_goes d result (Making (MadeKey k)) w =
    let p = more_moves (Host d (Some k)) (one_reserved w) in gives w _ (record { more = p.more; inputs = p.inputs; events = p.events; answers = p.answers })
replied_goes d result (Making MadeNothing) w = faulted NoObject w w (nothing w)
replied_goes d result (Making (MadeFault n)) w = faulted (HostFault n) w w (nothing w)
replied_goes d result (Making MadeMemory) w = faulted Memory w w (nothing w)
replied_goes d result (Making MadeFull) w = faulted Tally w w (nothing w)
replied_goes d result (Asking Void) w = void_goes (is_void result) w
replied_goes d result (Asking (Gave v)) w = accepted_goes (slot_of d result v) w
replied_goes d result (Asking (SaidFault n)) w = faulted (HostFault n) w w (nothing w)
replied_goes d result (Asking SaidMemory) w = faulted Memory w w (nothing w)
replied_goes d result (Asking Full) w = faulted Tally w w (nothing w)

-- a reply of another kind is left, and so are all inputs where a bound is met
kind_goes : (b : Bool) (w : World) (o : Done) → DoneFrom w o → DoneFrom w (cond b o (Fails Memory w))
kind_goes true w o p = p
kind_goes false w o p = faulted Memory w w (nothing w)

module _ (z : Environment) (m : ℕ) (e : EntityNo) where
  asked_said : (object : Option ℕ) (args : List Value) (result : HostValueType) (inputs : List Input) (w : World) → w.inputs ≡ inputs → DoneFrom w (asked_from z m e object args result inputs w)
  asked_said object args result (Said reply ∷ rest) w h =
      let event = Called (z.name m) e (use_at z m e).driver object args reply in
      let u : World = record w { inputs = rest; events = w.events ++ event ∷ []; reserved = suc w.reserved } in
      kind_goes (is_reply_to (use_at z m e).role reply) w _
      (done_then w u _ (record { used = Said reply ∷ []; moves = record { more = event ∷ []; inputs = h; events = refl; answers = refl }; room = refl })
      (replied_goes (use_at z m e).driver result reply u))
  asked_said object args result [] w h = faulted Memory w w (nothing w)
  asked_said object args result (Room b ∷ rest) w h = faulted Memory w w (nothing w)
  asked_said object args result (Tallied b ∷ rest) w h = faulted Memory w w (nothing w)
  asked_said object args result (Fresh n ∷ rest) w h = faulted Memory w w (nothing w)

  asked_tried : (object : Option ℕ) (args : List Value) (result : HostValueType) (w : World) (o : Tried) → TriedFrom Memory w o → DoneFrom w (or_else o (Fails Memory) (λ u. asked_from z m e object args result u.inputs u))
  asked_tried object args result w (No w') p = p
  asked_tried object args result w (Yes w') p = done_then w w' _ p (asked_said object args result w'.inputs w' refl)

  asked_goes : (object : Option ℕ) (args : List Value) (result : HostValueType) (w : World) → DoneFrom w (asked z m e object args result w)
  unfolding asked
  asked_goes object args result w = kind_goes (may_ask (use_at z m e).role w) w _ (asked_tried object args result w (memory_step w) (memory_goes w))

  called_goes : (r : Receiver) (args : List Slot) (w : World) → DoneFrom w (called_of z m e r args w)
  called_goes NoReceiver args w = asked_goes None (values_of (use_at z m e).driver (use_at z m e).params args) (use_at z m e).result w
  called_goes (Of k) args w = asked_goes (Some k) (values_of (use_at z m e).driver (use_at z m e).params args) (use_at z m e).result w
  called_goes NullReceiver args w = faulted Null w w (nothing w)

  pub read_goes : (r : Receiver) (w : World) → DoneFrom w (read_of z m e r w)
  read_goes NoReceiver w = asked_goes None [] (use_at z m e).result w
  read_goes (Of k) w = asked_goes (Some k) [] (use_at z m e).result w
  read_goes NullReceiver w = faulted Null w w (nothing w)

  write_goes : (r : Receiver) (v : Slot) (w : World) → DoneFrom w (write_of z m e r v w)
  write_goes NoReceiver v w = asked_goes None (value_of (use_at z m e).driver (use_at z m e).result v ∷ []) Nothing w
  write_goes (Of k) v w = asked_goes (Some k) (value_of (use_at z m e).driver (use_at z m e).result v ∷ []) Nothing w
  write_goes NullReceiver v w = faulted Null w w (nothing w)

  in_place_goes : (v : Slot) (w : World) (o : Done) → DoneFrom w o → DoneFrom w (in_place_of v o)
  in_place_goes v w (Fine x w') p = p
  in_place_goes v w (Fails f w') p = p

  altered_to_goes : (r : Receiver) (x : Slot) (c : Changed) (w : World) → DoneFrom w (altered_to z m e r x c w)
  altered_to_goes r x (Never f) w = faulted f w (give x w) (gives w (give x w) (give_moves x w))
  altered_to_goes r x (Into stored given) w = in_place_goes (Bits given) w (write_of z m e r (Bits stored) w) (write_goes r (Bits stored) w)

  altered_goes : (r : Receiver) (c : Update) (v : Slot) (w : World) (o : Done) → DoneFrom w o → DoneFrom w (altered_of z m e r c v o)
  altered_goes r c v w (Fails f w') p = p
  altered_goes r c v w (Fine x w') p = done_then w w' _ p (altered_to_goes r x (change_of c x v) w')

work_goes : (o : Worked) (w : World) → DoneFrom w (work_done o w)
work_goes (Is n) w = nothing w
work_goes (Cannot f) w = faulted f w w (nothing w)

stored_goes : (m g : ℕ) (v : Slot) (w : World) (o : Tried) → TriedFrom Tally w o → DoneFrom w (or_else o (Fails Tally) (stored_global m g v))
stored_goes m g v w (No w') p = p
stored_goes m g v w (Yes w') p =
    let put = global_put m g v w' in
    goes_then w w' (give (global_or m g v w') put) p (gives w' _ (moves_then w' put _ [] [] (put_moves m g v w') (give_moves (global_or m g v w') put)))

changed_goes : (m g : ℕ) (c : Changed) (w : World) → DoneFrom w (changed_global m g c w)
changed_goes m g (Into stored given) w = gives w _ (put_moves m g (Bits stored) w)
changed_goes m g (Never f) w = faulted f w w (nothing w)

gives_up_goes : (vs : List Slot) (w : World) (o : Done) → DoneFrom w o → DoneFrom w (gives_up vs o)
gives_up_goes vs w (Fine v w') p = goes_then w w' (give_all vs w') p (gives w' _ (give_all_moves vs w'))
gives_up_goes vs w (Fails f w') p = p

pub field_moves : (n i : ℕ) (v : Slot) (w : World) → Moves w [] (field_put n i v w)
unfolding field_put
field_moves n i v w = same w _ refl refl

taken_moves : (b : Bool) (n i : ℕ) (v : Slot) (w : World) → Moves w [] (cond b (field_put n i v w) w)
taken_moves true n i v w = field_moves n i v w
taken_moves false n i v w = same w w refl refl

pub member_moves : (i : ℕ) (o v : Slot) (w : World) → Moves w [] (member_put i o v w)
unfolding member_put
member_moves i (Bits x) v w = same w w refl refl
member_moves i (Script None) v w = same w w refl refl
member_moves i (Script (Some n)) v w = taken_moves (may_take n v w) n i v w
member_moves i (Host d k) v w = same w w refl refl

stored_field_goes : (n i : ℕ) (v : Slot) (w : World) (o : Tried) → TriedFrom Tally w o → DoneFrom w (or_else o (Fails Tally) (stored_field n i v))
stored_field_goes n i v w (No w') p = p
stored_field_goes n i v w (Yes w') p =
    let put = field_put n i v w' in
    goes_then w w' (give (field_or n i v w') put) p (gives w' _ (moves_then w' put _ [] [] (field_moves n i v w') (give_moves (field_or n i v w') put)))

may_store_goes : (b : Bool) (n i : ℕ) (v : Slot) (w : World) → DoneFrom w (cond b (or_else (hold v w) (Fails Tally) (stored_field n i v)) (Fails Null w))
may_store_goes true n i v w = stored_field_goes n i v w (hold v w) (hold_goes v w)
may_store_goes false n i v w = faulted Null w w (nothing w)

changed_field_goes : (n i : ℕ) (c : Changed) (w : World) → DoneFrom w (changed_field n i c w)
changed_field_goes n i (Into stored given) w = gives w _ (field_moves n i (Bits stored) w)
changed_field_goes n i (Never f) w = faulted f w w (nothing w)

cast_goes : (b : Bool) (n : ℕ) (w : World) → DoneFrom w (cast_to b n w)
cast_goes true n w = nothing w
cast_goes false n w = gives w _ (give_moves (Script (Some n)) w)

made_at_goes : (k : Class) (n q : ℕ) (rest : List Input) (w : World) → w.inputs ≡ Fresh q ∷ rest → DoneFrom w (made_at k n rest w)
made_at_goes k n q rest w e =
    record { used = Fresh q ∷ []; moves = record { more = []; inputs = e; events = sym (append-nil w.events); answers = refl }; room = refl }

made_from_goes : (k : Class) (inputs : List Input) (w : World) → w.inputs ≡ inputs → DoneFrom w (made_from k inputs w)
made_from_goes k [] w e = faulted Memory w w (nothing w)
made_from_goes k (Fresh n ∷ rest) w e = made_at_goes k (number_for n w.objects) n rest w e
made_from_goes k (Said r ∷ rest) w e = faulted Memory w w (nothing w)
made_from_goes k (Room b ∷ rest) w e = faulted Memory w w (nothing w)
made_from_goes k (Tallied b ∷ rest) w e = faulted Memory w w (nothing w)

made_goes : (k : Class) (w : World) (o : Tried) → TriedFrom Memory w o → DoneFrom w (or_else o (Fails Memory) (λ u. made_from k u.inputs u))
made_goes k w (No w') p = p
made_goes k w (Yes w') p = done_then w w' _ p (made_from_goes k w'.inputs w' refl)

misfit : (w : World) → Faults Null w w
misfit w = faulted Null w w (nothing w)

pub perform_goes : (z : Environment) (m : ℕ) (o : Operation) (vs : List Slot) (w : World) → DoneFrom w (perform z m o vs w)
unfolding perform
perform_goes z m (Binary a p) [] w = misfit w
perform_goes z m (Binary a p) (Bits y ∷ []) w = misfit w
perform_goes z m (Binary a p) (Bits y ∷ (Bits x ∷ [])) w = work_goes (binary_result a p x y) w
perform_goes z m (Binary a p) (Bits y ∷ (Bits x ∷ (u ∷ us))) w = misfit w
perform_goes z m (Binary a p) (Bits y ∷ (Script j ∷ us)) w = misfit w
perform_goes z m (Binary a p) (Bits y ∷ (Host d j ∷ us)) w = misfit w
perform_goes z m (Binary a p) (Script j ∷ us) w = misfit w
perform_goes z m (Binary a p) (Host d j ∷ us) w = misfit w
perform_goes z m (Compare c signed) [] w = misfit w
perform_goes z m (Compare c signed) (Bits y ∷ []) w = misfit w
perform_goes z m (Compare c signed) (Bits y ∷ (Bits x ∷ [])) w = nothing w
perform_goes z m (Compare c signed) (Bits y ∷ (Bits x ∷ (u ∷ us))) w = misfit w
perform_goes z m (Compare c signed) (Bits y ∷ (Script j ∷ us)) w = misfit w
perform_goes z m (Compare c signed) (Bits y ∷ (Host d j ∷ us)) w = misfit w
perform_goes z m (Compare c signed) (Script j ∷ us) w = misfit w
perform_goes z m (Compare c signed) (Host d j ∷ us) w = misfit w
perform_goes z m (Convert p) [] w = misfit w
perform_goes z m (Convert p) (Bits x ∷ []) w = nothing w
perform_goes z m (Convert p) (Bits x ∷ (u ∷ us)) w = misfit w
perform_goes z m (Convert p) (Script j ∷ us) w = misfit w
perform_goes z m (Convert p) (Host d j ∷ us) w = misfit w
perform_goes z m (Negate p) [] w = misfit w
perform_goes z m (Negate p) (Bits x ∷ []) w = nothing w
perform_goes z m (Negate p) (Bits x ∷ (u ∷ us)) w = misfit w
perform_goes z m (Negate p) (Script j ∷ us) w = misfit w
perform_goes z m (Negate p) (Host d j ∷ us) w = misfit w
perform_goes z m (Complement p) [] w = misfit w
perform_goes z m (Complement p) (Bits x ∷ []) w = nothing w
perform_goes z m (Complement p) (Bits x ∷ (u ∷ us)) w = misfit w
perform_goes z m (Complement p) (Script j ∷ us) w = misfit w
perform_goes z m (Complement p) (Host d j ∷ us) w = misfit w
perform_goes z m Not [] w = misfit w
perform_goes z m Not (Bits x ∷ []) w = nothing w
perform_goes z m Not (Bits x ∷ (u ∷ us)) w = misfit w
perform_goes z m Not (Script j ∷ us) w = misfit w
perform_goes z m Not (Host d j ∷ us) w = misfit w
perform_goes z m Same [] w = misfit w
perform_goes z m Same (y ∷ []) w = misfit w
perform_goes z m Same (y ∷ (x ∷ [])) w = gives w _ (moves_then w (give y w) _ [] [] (give_moves y w) (give_moves x (give y w)))
perform_goes z m Same (y ∷ (x ∷ (u ∷ us))) w = misfit w
perform_goes z m (GlobalGet g) [] w = let v = global_or m g (Bits 0) w in holding_goes v w (hold v w) (hold_goes v w)
perform_goes z m (GlobalGet g) (v ∷ vs) w = misfit w
perform_goes z m (GlobalSet g) [] w = misfit w
perform_goes z m (GlobalSet g) (v ∷ []) w = stored_goes m g v w (hold v w) (hold_goes v w)
perform_goes z m (GlobalSet g) (v ∷ (u ∷ us)) w = misfit w
perform_goes z m (GlobalChange c g) [] w = misfit w
perform_goes z m (GlobalChange c g) (v ∷ []) w = changed_goes m g (change_of c (global_or m g (Bits 0) w) v) w
perform_goes z m (GlobalChange c g) (v ∷ (u ∷ us)) w = misfit w
perform_goes z m (Ask e) vs w = gives_up_goes vs w _ (called_goes z m e (receiver_of (use_at z m e) (reverse vs)) (arguments_of (use_at z m e) (reverse vs)) w)
perform_goes z m (Read e) vs w = gives_up_goes vs w _ (read_goes z m e (receiver_of (use_at z m e) vs) w)
perform_goes z m (Write e) [] w = misfit w
perform_goes z m (Write e) (v ∷ []) w = in_place_goes z m e v w _ (write_goes z m e (receiver_of (use_at z m e) []) v w)
perform_goes z m (Write e) (o ∷ (v ∷ [])) w = gives_up_goes (o ∷ []) w _ (in_place_goes z m e v w _ (write_goes z m e (receiver_of (use_at z m e) (o ∷ [])) v w))
perform_goes z m (Write e) (o ∷ (v ∷ (u ∷ us))) w = misfit w
perform_goes z m (Alter e c) [] w = misfit w
perform_goes z m (Alter e c) (v ∷ []) w =
    let r = receiver_of (use_at z m e) [] in
    altered_goes z m e r c v w (read_of z m e r w) (read_goes z m e r w)
perform_goes z m (Alter e c) (o ∷ (v ∷ [])) w =
    let r = receiver_of (use_at z m e) (o ∷ []) in
    gives_up_goes (o ∷ []) w _ (altered_goes z m e r c v w (read_of z m e r w) (read_goes z m e r w))
perform_goes z m (Alter e c) (o ∷ (v ∷ (u ∷ us))) w = misfit w
perform_goes z m (Make c) [] w = kind_goes (may_make (class_at z m c) w) w _ (made_goes (class_at z m c) w (memory_step w) (memory_goes w))
perform_goes z m (Make c) (v ∷ vs) w = misfit w
perform_goes z m (FieldGet i) [] w = misfit w
perform_goes z m (FieldGet i) (Bits x ∷ us) w = misfit w
perform_goes z m (FieldGet i) (Script None ∷ us) w = misfit w
perform_goes z m (FieldGet i) (Script (Some n) ∷ []) w =
    let v = field_or n i (Bits 0) w in gives_up_goes (Script (Some n) ∷ []) w _ (holding_goes v w (hold v w) (hold_goes v w))
perform_goes z m (FieldGet i) (Script (Some n) ∷ (u ∷ us)) w = misfit w
perform_goes z m (FieldGet i) (Host d j ∷ us) w = misfit w
perform_goes z m (FieldSet i) [] w = misfit w
perform_goes z m (FieldSet i) (Bits x ∷ us) w = misfit w
perform_goes z m (FieldSet i) (Script None ∷ us) w = misfit w
perform_goes z m (FieldSet i) (Script (Some n) ∷ []) w = misfit w
perform_goes z m (FieldSet i) (Script (Some n) ∷ (v ∷ [])) w = gives_up_goes (Script (Some n) ∷ []) w _ (may_store_goes (may_take n v w) n i v w)
perform_goes z m (FieldSet i) (Script (Some n) ∷ (v ∷ (u ∷ us))) w = misfit w
perform_goes z m (FieldSet i) (Host d j ∷ us) w = misfit w
perform_goes z m (FieldChange c i) [] w = misfit w
perform_goes z m (FieldChange c i) (Bits x ∷ us) w = misfit w
perform_goes z m (FieldChange c i) (Script None ∷ us) w = misfit w
perform_goes z m (FieldChange c i) (Script (Some n) ∷ []) w = misfit w
perform_goes z m (FieldChange c i) (Script (Some n) ∷ (v ∷ [])) w =
    gives_up_goes (Script (Some n) ∷ []) w _ (changed_field_goes n i (change_of c (field_or n i (Bits 0) w) v) w)
perform_goes z m (FieldChange c i) (Script (Some n) ∷ (v ∷ (u ∷ us))) w = misfit w
perform_goes z m (FieldChange c i) (Host d j ∷ us) w = misfit w
perform_goes z m (Cast c) [] w = misfit w
perform_goes z m (Cast c) (Bits x ∷ us) w = misfit w
perform_goes z m (Cast c) (Script None ∷ []) w = nothing w
perform_goes z m (Cast c) (Script None ∷ (u ∷ us)) w = misfit w
perform_goes z m (Cast c) (Script (Some n) ∷ []) w = cast_goes (is_under z m c (map.get w.objects n)) n w
perform_goes z m (Cast c) (Script (Some n) ∷ (u ∷ us)) w = misfit w
perform_goes z m (Cast c) (Host d j ∷ us) w = misfit w

-- Each strict operation leaves the counts those of the places.
use Rattle.std.proofs.Common.{◌≡◌, ℕ, List, [], ◌∷◌, ◌++◌, Option, Some, None, refl, sym, ◌∙◌, subst, arith}
use Rattle.std.specs.Prelude.{Bool, true, false, cond, ◌&&◌, not, reverse}
use Rattle.std.specs.FinMap as map
use Rattle.ang_kinds.specs.declared.mask.EntityNo.{EntityNo}
use Rattle.ang_kinds.specs.declared.value.Value.{Value}
use Rattle.ang_kinds.specs.declared.value.Value.TheVariants.{Int, Uint, Bool as Truth, Key}
use Rattle.ang_kinds.specs.declared.primitive.Primitive.TheVariants.{I8, I16, I32, I64, U8, U16, U32, U64, Bool as TruthType}
use Rattle.ang_kinds.specs.declared.fault.Fault.{Fault}
use Rattle.ang_kinds.specs.declared.fault.Fault.TheVariants.{Null, Memory, Tally}
use Rattle.ang_host.specs.declared.answer.Made.{Made}
use Rattle.ang_host.specs.declared.answer.Made.TheVariants.{Key as MadeKey, Nothing as MadeNothing, Fault as MadeFault, Memory as MadeMemory, Full as MadeFull}
use Rattle.ang_host.specs.declared.answer.Answer.TheVariants.{Void, Gave, Fault as SaidFault, Memory as SaidMemory, Full}
use Rattle.ang_host.specs.declared.answer.HostReply.{HostReply}
use Rattle.ang_host.specs.declared.answer.HostReply.TheVariants.{Making, Asking}
use Rattle.ang_host.specs.declared.event.Role.{Role}
use Rattle.ang_host.specs.declared.event.Role.TheVariants.{Making as MakingRole, Calling as CallingRole, Property as PropertyRole}
use Rattle.ang_meaning.specs.declared.slot.Slot.{Slot}
use Rattle.ang_meaning.specs.declared.slot.Slot.TheVariants.{Bits, Script, Host}
use Rattle.ang_meaning.specs.declared.host.HostValueType.{HostValueType}
use Rattle.ang_meaning.specs.declared.host.HostValueType.TheVariants.{Nothing, Plain, Handle}
use Rattle.ang_meaning.specs.declared.host.HostUse.{HostUse}
use Rattle.ang_meaning.specs.declared.operation.Update.{Update}
use Rattle.ang_meaning.specs.declared.operation.Operation.{Operation}
use Rattle.ang_meaning.specs.declared.operation.Operation.TheVariants.{Binary, Compare, Convert, Negate, Complement, Not, Same, GlobalGet, GlobalSet, GlobalChange, Ask, Read, Write, Alter, Make, FieldGet, FieldSet, FieldChange, Cast}
use Rattle.ang_meaning.specs.Numbers.{Worked, Is, Cannot, Changed, Into, Never, binary_result}
use Rattle.ang_meaning.specs.World.{World, ScriptRecord, Input, Room, Said, Tallied, Fresh, with_inputs, if_told, Tried, Yes, No, memory_step, HoldLimit, Inside, AtEnd, OfDriver, hold_limit_of, refused_at, tally_told, tally_step, one_more, hold, give, or_else}
use Rattle.ang_meaning.specs.declared.class.Class.{Class}
use Rattle.ang_meaning.specs.Environment.{Environment, class_at, use_at, host_in, is_property, may_write, is_fit}
use Rattle.ang_meaning.specs.Hosts.{Done, Fine, Fails, accepted, is_void, if_within, slot_of, one_reserved, replied_by, is_reply_to, may_ask, asked_from, asked, value_of, values_of}
use Rattle.ang_meaning.specs.Perform.{work_done, change_of, global_or, global_put, stored_global, changed_global, Receiver, Of, receiver_of, arguments_of, gives_up, called_of, read_of, write_of, in_place_of, altered_to, altered_of, field_or, field_put, may_take, stored_field, changed_field, is_under, cast_to, number_for, may_make, made_from, perform, NoReceiver, NullReceiver}
use Rattle.ang_meaning.specs.Counting.{Thing, names, IsCounted, IsBelow, AreSoundObjects}
use Rattle.ang_meaning.proofs.Counting.{bits_name_none, null_names_none, HasObject}
use Rattle.ang_meaning.proofs.Ranks.{stems_ranked, still_below, more_stems}
use Rattle.ang_meaning.proofs.Tables.{number_free}
use Rattle.ang_meaning.proofs.Counted.{counted_as, more_counted, give_counted, give_all_under, first_there, global_there, field_there, TriedCounted, memory_counted, hold_counted, put_counted, field_counted, taken_below, new_counted}

-- the operands are still held, with the value on top
abbrev pub DoneWith : List Slot → Done → Type 0
DoneWith s (Fine v w) = IsCounted (v ∷ s) w
DoneWith s (Fails f w) = IsCounted s w

-- the value names nothing that is counted with it
abbrev pub DoneVoid : List Slot → Done → Type 0
DoneVoid s (Fine v w) = IsCounted s w
DoneVoid s (Fails f w) = IsCounted s w

-- the operands have been taken, or a fault leaves them
abbrev pub DoneCounted : List Slot → List Slot → Done → Type 0
DoneCounted vs s (Fine v w) = IsCounted (v ∷ s) w
DoneCounted vs s (Fails f w) = IsCounted (vs ++ s) w

-- what names nothing
abbrev pub NamesNone : Slot → Type 0
NamesNone v = (x : Thing) → names x v ≡ 0

bits_none : (n : ℕ) → NamesNone (Bits n)
bits_none n x = bits_name_none n x

-- on top, one that names nothing comes and goes
pub drop_none : (v : Slot) (s : List Slot) (w : World) → NamesNone v → IsCounted (v ∷ s) w → IsCounted s w
drop_none v s w h p = counted_as (v ∷ s) s w (λ x. omega (arith, h x)) p

pub push_none : (v : Slot) (s : List Slot) (w : World) → NamesNone v → IsCounted s w → IsCounted (v ∷ s) w
push_none v s w h p = counted_as s (v ∷ s) w (λ x. omega (arith, h x)) p

swapped : (u v : Slot) (s : List Slot) (w : World) → IsCounted (u ∷ v ∷ s) w → IsCounted (v ∷ u ∷ s) w
swapped u v s w p = counted_as (u ∷ v ∷ s) (v ∷ u ∷ s) w (λ x. omega arith) p

holding_counted : (v : Slot) (s : List Slot) (o : Tried) → TriedCounted (v ∷ s) s o → DoneWith s (or_else o (Fails Tally) (Fine v))
holding_counted v s (No w) p = p
holding_counted v s (Yes w) p = p

-- ---- what a driver answers

abbrev pub KnownOption : World → Option Slot → Type 0
KnownOption w None = Unit {0}
KnownOption w (Some v) = HasObject v w.objects

within_known : (w : World) (b : Bool) (n : ℕ) → KnownOption w (if_within b n)
within_known w true n = tt
within_known w false n = tt

pub slot_known : (w : World) (d : ℕ) (ty : HostValueType) (v : Value) → KnownOption w (slot_of d ty v)
unfolding slot_of
slot_known w d Nothing (Int z) = tt
slot_known w d Nothing (Uint n) = tt
slot_known w d Nothing (Truth b) = tt
slot_known w d Nothing (Key k) = tt
slot_known w d (Plain p) (Int z) = within_known w _ _
slot_known w d (Plain p) (Uint n) = within_known w _ _
slot_known w d (Plain I8) (Truth b) = tt
slot_known w d (Plain I16) (Truth b) = tt
slot_known w d (Plain I32) (Truth b) = tt
slot_known w d (Plain I64) (Truth b) = tt
slot_known w d (Plain U8) (Truth b) = tt
slot_known w d (Plain U16) (Truth b) = tt
slot_known w d (Plain U32) (Truth b) = tt
slot_known w d (Plain U64) (Truth b) = tt
slot_known w d (Plain TruthType) (Truth b) = tt
slot_known w d (Plain p) (Key k) = tt
slot_known w d Handle (Int z) = tt
slot_known w d Handle (Uint n) = tt
slot_known w d Handle (Truth b) = tt
slot_known w d Handle (Key None) = tt
slot_known w d Handle (Key (Some k)) = tt

no_slot : (d : ℕ) (v : Value) → slot_of d Nothing v ≡ None
unfolding slot_of
no_slot d (Int z) = refl
no_slot d (Uint n) = refl
no_slot d (Truth b) = refl
no_slot d (Key k) = refl

accepted_counted : (o : Option Slot) (s : List Slot) (w : World) → KnownOption w o → IsCounted s w → DoneWith s (accepted o w)
accepted_counted None s w k p = p
accepted_counted (Some v) s w k p = holding_counted v s (hold v w) (hold_counted v s w k p)

accepted_void : (o : Option Slot) (s : List Slot) (w : World) → o ≡ None → IsCounted s w → DoneVoid s (accepted o w)
accepted_void None s w e p = p
accepted_void (Some v) s w e p = absurd (let x : ⊥ = cc in x)

void_counted : (b : Bool) (f : Fault) (s : List Slot) (w : World) → IsCounted s w → DoneWith s (cond b (Fine (Bits 0) w) (Fails f w))
void_counted true f s w p = push_none (Bits 0) s w (bits_none 0) p
void_counted false f s w p = p

replied_counted : (d : ℕ) (result : HostValueType) (r : HostReply) (s : List Slot) (w : World) → IsCounted s w → DoneWith s (replied_by d result r w)
unfolding replied_by
replied_counted d result (Making (MadeKey k)) s w p = more_counted (Host d (Some k)) s (one_reserved w) tt p
replied_counted d result (Making MadeNothing) s w p = p
replied_counted d result (Making (MadeFault n)) s w p = p
replied_counted d result (Making MadeMemory) s w p = p
replied_counted d result (Making MadeFull) s w p = p
replied_counted d result (Asking Void) s w p = void_counted (is_void result) _ s w p
replied_counted d result (Asking (Gave v)) s w p = accepted_counted (slot_of d result v) s w (slot_known w d result v) p
replied_counted d result (Asking (SaidFault n)) s w p = p
replied_counted d result (Asking SaidMemory) s w p = p
replied_counted d result (Asking Full) s w p = p

no_making : (r : Role) (m : Made) → is_property r ≡ true → is_reply_to r (Making m) ≡ true → ⊥
no_making (MakingRole f) m e h = let x : ⊥ = cc in x
no_making (CallingRole f) m e h = let x : ⊥ = cc in x
no_making (PropertyRole f) m e h = let x : ⊥ = cc in x

-- a write gives no value to hold
replied_void : (role : Role) (d : ℕ) (r : HostReply) (s : List Slot) (w : World) → is_property role ≡ true → is_reply_to role r ≡ true → IsCounted s w → DoneVoid s (replied_by d Nothing r w)
unfolding replied_by
replied_void role d (Making m) s w e h p = absurd (no_making role m e h)
replied_void role d (Asking Void) s w e h p = p
replied_void role d (Asking (Gave v)) s w e h p = accepted_void (slot_of d Nothing v) s w (no_slot d v) p
replied_void role d (Asking (SaidFault n)) s w e h p = p
replied_void role d (Asking SaidMemory) s w e h p = p
replied_void role d (Asking Full) s w e h p = p

-- where the bounds don't allow it
may_counted : (b : Bool) (s : List Slot) (w : World) (d : Done) → IsCounted s w → DoneWith s d → DoneWith s (cond b d (Fails Memory w))
may_counted true s w d p q = q
may_counted false s w d p q = p

may_void : (b : Bool) (s : List Slot) (w : World) (d : Done) → IsCounted s w → DoneVoid s d → DoneVoid s (cond b d (Fails Memory w))
may_void true s w d p q = q
may_void false s w d p q = p

module _ (z : Environment) (m : ℕ) (e : EntityNo) where
  said_counted : (b : Bool) (result : HostValueType) (reply : HostReply) (s : List Slot) (w w' : World) → IsCounted s w → IsCounted s w' → DoneWith s (cond b (replied_by (use_at z m e).driver result reply w') (Fails Memory w))
  said_counted true result reply s w w' p q = replied_counted (use_at z m e).driver result reply s w' q
  said_counted false result reply s w w' p q = p

  from_counted : (object : Option ℕ) (args : List Value) (result : HostValueType) (inputs : List Input) (s : List Slot) (w : World) → IsCounted s w → DoneWith s (asked_from z m e object args result inputs w)
  from_counted object args result [] s w p = p
  from_counted object args result (Said reply ∷ rest) s w p = said_counted (is_reply_to (use_at z m e).role reply) result reply s w _ p p
  from_counted object args result (Room b ∷ rest) s w p = p
  from_counted object args result (Tallied b ∷ rest) s w p = p
  from_counted object args result (Fresh n ∷ rest) s w p = p

  told_counted : (object : Option ℕ) (args : List Value) (result : HostValueType) (s : List Slot) (o : Tried) → TriedCounted s s o → DoneWith s (or_else o (Fails Memory) (λ u. asked_from z m e object args result u.inputs u))
  told_counted object args result s (No w) p = p
  told_counted object args result s (Yes w) p = from_counted object args result w.inputs s w p

  pub asked_counted : (object : Option ℕ) (args : List Value) (result : HostValueType) (s : List Slot) (w : World) → IsCounted s w → DoneWith s (asked z m e object args result w)
  unfolding asked
  asked_counted object args result s w p = may_counted (may_ask (use_at z m e).role w) s w _ p (told_counted object args result s (memory_step w) (memory_counted s w p))

  called_counted : (r : Receiver) (args : List Slot) (s : List Slot) (w : World) → IsCounted s w → DoneWith s (called_of z m e r args w)
  called_counted NoReceiver args s w p = asked_counted None (values_of (use_at z m e).driver (use_at z m e).params args) (use_at z m e).result s w p
  called_counted (Of k) args s w p = asked_counted (Some k) (values_of (use_at z m e).driver (use_at z m e).params args) (use_at z m e).result s w p
  called_counted NullReceiver args s w p = p

  pub read_counted : (r : Receiver) (s : List Slot) (w : World) → IsCounted s w → DoneWith s (read_of z m e r w)
  read_counted NoReceiver s w p = asked_counted None [] (use_at z m e).result s w p
  read_counted (Of k) s w p = asked_counted (Some k) [] (use_at z m e).result s w p
  read_counted NullReceiver s w p = p

  module _ (property : is_property (use_at z m e).role ≡ true) where
    said_void : (b : Bool) (reply : HostReply) (s : List Slot) (w w' : World) → is_reply_to (use_at z m e).role reply ≡ b → IsCounted s w → IsCounted s w'
        → DoneVoid s (cond b (replied_by (use_at z m e).driver Nothing reply w') (Fails Memory w))
    said_void true reply s w w' h p q = replied_void (use_at z m e).role (use_at z m e).driver reply s w' property h q
    said_void false reply s w w' h p q = p

    from_void : (object : Option ℕ) (args : List Value) (inputs : List Input) (s : List Slot) (w : World) → IsCounted s w → DoneVoid s (asked_from z m e object args Nothing inputs w)
    from_void object args [] s w p = p
    from_void object args (Said reply ∷ rest) s w p = said_void (is_reply_to (use_at z m e).role reply) reply s w _ refl p p
    from_void object args (Room b ∷ rest) s w p = p
    from_void object args (Tallied b ∷ rest) s w p = p
    from_void object args (Fresh n ∷ rest) s w p = p

    told_void : (object : Option ℕ) (args : List Value) (s : List Slot) (o : Tried) → TriedCounted s s o → DoneVoid s (or_else o (Fails Memory) (λ u. asked_from z m e object args Nothing u.inputs u))
    told_void object args s (No w) p = p
    told_void object args s (Yes w) p = from_void object args w.inputs s w p

    asked_void : (object : Option ℕ) (args : List Value) (s : List Slot) (w : World) → IsCounted s w → DoneVoid s (asked z m e object args Nothing w)
    unfolding asked
    asked_void object args s w p = may_void (may_ask (use_at z m e).role w) s w _ p (told_void object args s (memory_step w) (memory_counted s w p))

    write_void : (r : Receiver) (v : Slot) (s : List Slot) (w : World) → IsCounted s w → DoneVoid s (write_of z m e r v w)
    write_void NoReceiver v s w p = asked_void None (value_of (use_at z m e).driver (use_at z m e).result v ∷ []) s w p
    write_void (Of k) v s w p = asked_void (Some k) (value_of (use_at z m e).driver (use_at z m e).result v ∷ []) s w p
    write_void NullReceiver v s w p = p

-- ---- the operands are given up

gives_up_counted : (vs s : List Slot) (o : Done) → DoneWith (vs ++ s) o → DoneCounted vs s (gives_up vs o)
gives_up_counted vs s (Fine v w) p = give_all_under v vs s w p
gives_up_counted vs s (Fails f w) p = p

-- a write of the value that stands last
written : (v : Slot) (s : List Slot) (o : Done) → DoneVoid (v ∷ s) o → DoneCounted (v ∷ []) s (in_place_of v o)
written v s (Fine x w) p = p
written v s (Fails f w) p = p

written_of : (o v : Slot) (s : List Slot) (d : Done) → DoneVoid (o ∷ v ∷ s) d → DoneCounted (o ∷ v ∷ []) s (gives_up (o ∷ []) (in_place_of v d))
written_of o v s (Fine x w) p = give_counted o (v ∷ s) w p
written_of o v s (Fails f w) p = p

-- ---- changes are of numbers

pub change_plain : (c : Update) (x v : Slot) (a b : ℕ) → change_of c x v ≡ Into a b → NamesNone x × NamesNone v
unfolding change_of
change_plain c (Bits x) (Bits y) a b e = (bits_none x, bits_none y)
change_plain c (Bits x) (Script k) a b e = absurd (let q : ⊥ = cc in q)
change_plain c (Bits x) (Host d k) a b e = absurd (let q : ⊥ = cc in q)
change_plain c (Script j) v a b e = absurd (let q : ⊥ = cc in q)
change_plain c (Host d j) v a b e = absurd (let q : ⊥ = cc in q)

changed_global_counted : (m g : ℕ) (v : Slot) (s : List Slot) (w : World) (c : Changed) → ((a b : ℕ) → c ≡ Into a b → NamesNone (global_or m g (Bits 0) w) × NamesNone v)
    → IsCounted (v ∷ s) w → DoneCounted (v ∷ []) s (changed_global m g c w)
changed_global_counted m g v s w (Never f) h p = p
changed_global_counted m g v s w (Into stored given) h p =
    let q = h stored given refl in
    let old = global_or m g (Bits 0) w in
    let stands = push_none (Bits stored) s w (bits_none stored) (drop_none v s w q.1 p) in
    let put = put_counted m g (Bits 0) (Bits stored) s w (λ x. bits_none 0 x ∙ sym (bits_none stored x)) stands in
    push_none (Bits given) s (global_put m g (Bits stored) w) (bits_none given) (drop_none old s (global_put m g (Bits stored) w) q.0 put)

-- with the object on top
changed_field_counted : (n i : ℕ) (v : Slot) (s : List Slot) (w : World) (c : Changed) → ((a b : ℕ) → c ≡ Into a b → NamesNone (field_or n i (Bits 0) w) × NamesNone v)
    → IsCounted (Script (Some n) ∷ v ∷ s) w → DoneCounted (Script (Some n) ∷ v ∷ []) s (gives_up (Script (Some n) ∷ []) (changed_field n i c w))
changed_field_counted n i v s w (Never f) h p = p
changed_field_counted n i v s w (Into stored given) h p =
    let q = h stored given refl in
    let o = Script (Some n) in
    let put = field_put n i (Bits stored) w in
    let plain : IsCounted (Bits stored ∷ o ∷ s) w = counted_as (o ∷ v ∷ s) (Bits stored ∷ o ∷ s) w (λ x. omega (arith, q.1 x, bits_none stored x)) p in
    let stands = field_counted n i (Bits 0) (Bits stored) (o ∷ s) w (λ x. bits_none 0 x ∙ sym (bits_none stored x)) (λ r g. tt) plain in
    push_none (Bits given) s (give o put) (bits_none given) (give_counted o s put (drop_none (field_or n i (Bits 0) w) (o ∷ s) put q.0 stands))

module _ (z : Environment) (m : ℕ) (e : EntityNo) (property : is_property (use_at z m e).role ≡ true) where
  -- the changed value is written, and the value that was read names nothing
  in_place_counted : (x v : Slot) (s us : List Slot) (given : ℕ) (d : Done) → NamesNone x → DoneVoid (x ∷ s) d → DoneVoid s (in_place_of (Bits given) d)
  in_place_counted x v s us given (Fine y w) h p = drop_none x s w h p
  in_place_counted x v s us given (Fails f w) h p = drop_none x s w h p

  altered_to_void : (r : Receiver) (x v : Slot) (s : List Slot) (w : World) (c : Changed) → ((a b : ℕ) → c ≡ Into a b → NamesNone x) → IsCounted (x ∷ s) w → DoneVoid s (altered_to z m e r x c w)
  altered_to_void r x v s w (Never f) h p = give_counted x s w p
  altered_to_void r x v s w (Into stored given) h p =
      in_place_counted x v s [] given (write_of z m e r (Bits stored) w) (h stored given refl) (write_void z m e property r (Bits stored) (x ∷ s) w p)

  altered_void : (r : Receiver) (c : Update) (v : Slot) (s : List Slot) (d : Done) → DoneWith s d → DoneVoid s (altered_of z m e r c v d)
  altered_void r c v s (Fails f w) p = p
  altered_void r c v s (Fine x w) p = altered_to_void r x v s w (change_of c x v) (λ a b q. (change_plain c x v a b q).0) p

  -- where it went well the operand and the value name nothing
  abbrev PlainEnd : Slot → Done → Type 0
  PlainEnd v (Fine x w) = NamesNone x × NamesNone v
  PlainEnd v (Fails f w) = Unit {0}

  in_place_plain : (v : Slot) (given : ℕ) (d : Done) → NamesNone v → PlainEnd v (in_place_of (Bits given) d)
  in_place_plain v given (Fine y w) h = (bits_none given, h)
  in_place_plain v given (Fails f w) h = tt

  altered_to_plain : (r : Receiver) (x v : Slot) (w : World) (c : Changed) → ((a b : ℕ) → c ≡ Into a b → NamesNone v) → PlainEnd v (altered_to z m e r x c w)
  altered_to_plain r x v w (Never f) h = tt
  altered_to_plain r x v w (Into stored given) h = in_place_plain v given (write_of z m e r (Bits stored) w) (h stored given refl)

  altered_plain : (r : Receiver) (c : Update) (v : Slot) (d : Done) → PlainEnd v (altered_of z m e r c v d)
  altered_plain r c v (Fails f w) = tt
  altered_plain r c v (Fine x w) = altered_to_plain r x v w (change_of c x v) (λ a b q. (change_plain c x v a b q).1)

  alone : (v : Slot) (s : List Slot) (d : Done) → PlainEnd v d → DoneVoid (v ∷ s) d → DoneCounted (v ∷ []) s d
  alone v s (Fine x w) h p = push_none x s w h.0 (drop_none v s w h.1 p)
  alone v s (Fails f w) h p = p

  of_object : (o v : Slot) (s : List Slot) (d : Done) → PlainEnd v d → DoneVoid (o ∷ v ∷ s) d → DoneCounted (o ∷ v ∷ []) s (gives_up (o ∷ []) d)
  of_object o v s (Fine x w) h p = push_none x s (give o w) h.0 (drop_none v s (give o w) h.1 (give_counted o (v ∷ s) w p))
  of_object o v s (Fails f w) h p = p

-- ---- globals and fields

stored_counted : (m g : ℕ) (v : Slot) (s : List Slot) (o : Tried) → TriedCounted (v ∷ v ∷ s) (v ∷ s) o → DoneCounted (v ∷ []) s (or_else o (Fails Tally) (stored_global m g v))
stored_counted m g v s (No w) p = p
stored_counted m g v s (Yes w) p = give_counted (global_or m g v w) (v ∷ s) (global_put m g v w) (put_counted m g v v (v ∷ s) w (λ x. refl) p)

field_got : (n : ℕ) (v : Slot) (s : List Slot) (o : Tried) → TriedCounted (v ∷ Script (Some n) ∷ s) (Script (Some n) ∷ s) o
    → DoneCounted (Script (Some n) ∷ []) s (gives_up (Script (Some n) ∷ []) (or_else o (Fails Tally) (Fine v)))
field_got n v s (No w) p = p
field_got n v s (Yes w) p = give_counted (Script (Some n)) (v ∷ s) w (swapped v (Script (Some n)) s w p)

-- ranks do not change where a value is held
abbrev pub TriedBelow : ℕ → Slot → Tried → Type 0
TriedBelow n v (Yes w) = (r : ScriptRecord) → map.get w.objects n ≡ Some r → IsBelow w.objects r.rank v
TriedBelow n v (No w) = Unit {0}

pub below_more : (n : ℕ) (v : Slot) (w : World) → AreSoundObjects w.objects → ((r : ScriptRecord) → map.get w.objects n ≡ Some r → IsBelow w.objects r.rank v)
    → (r : ScriptRecord) → map.get (one_more v w).objects n ≡ Some r → IsBelow (one_more v w).objects r.rank v
below_more n v w h b r g =
    let ranked = stems_ranked w.objects (one_more v w).objects (more_stems v w h) in
    let q = ranked n r g in
    subst (λ k. IsBelow (one_more v w).objects k v) q.2 (still_below w.objects (one_more v w).objects q.0.rank v ranked (b q.0 q.1))

below_refused : (e : HoldLimit) (n : ℕ) (v : Slot) (is : List Input) (w : World) → TriedBelow n v (or_else (refused_at e is w) No (λ u. Yes (one_more v u)))
below_refused Inside n v is w = tt
below_refused AtEnd n v is w = tt
below_refused OfDriver n v is w = tt

below_from : (e : HoldLimit) (inputs : List Input) (n : ℕ) (v : Slot) (w : World) → AreSoundObjects w.objects → ((r : ScriptRecord) → map.get w.objects n ≡ Some r → IsBelow w.objects r.rank v)
    → TriedBelow n v (or_else (tally_told e inputs w) No (λ u. Yes (one_more v u)))
below_from e [] n v w h b = tt
below_from e (Tallied true ∷ rest) n v w h b = below_more n v (with_inputs rest w) h b
below_from e (Tallied false ∷ rest) n v w h b = below_refused e n v rest w
below_from e (Room x ∷ rest) n v w h b = tt
below_from e (Said r ∷ rest) n v w h b = tt
below_from e (Fresh k ∷ rest) n v w h b = tt

pub hold_below : (n : ℕ) (v : Slot) (w : World) → AreSoundObjects w.objects → ((r : ScriptRecord) → map.get w.objects n ≡ Some r → IsBelow w.objects r.rank v) → TriedBelow n v (hold v w)
unfolding hold tally_step
hold_below n (Bits x) w h b = below_more n (Bits x) w h b
hold_below n (Script None) w h b = below_more n (Script None) w h b
hold_below n (Script (Some k)) w h b = below_from (hold_limit_of (map.get w.objects k)) w.inputs n (Script (Some k)) w h b
hold_below n (Host d None) w h b = below_more n (Host d None) w h b
hold_below n (Host d (Some k)) w h b = below_from OfDriver w.inputs n (Host d (Some k)) w h b

field_stored : (n i : ℕ) (v : Slot) (s : List Slot) (o : Tried) → TriedBelow n v o → TriedCounted (v ∷ Script (Some n) ∷ v ∷ s) (Script (Some n) ∷ v ∷ s) o
    → DoneCounted (Script (Some n) ∷ v ∷ []) s (gives_up (Script (Some n) ∷ []) (or_else o (Fails Tally) (stored_field n i v)))
field_stored n i v s (No w) b p = p
field_stored n i v s (Yes w) b p =
    let o = Script (Some n) in
    let put = field_put n i v w in
    let stands = field_counted n i v v (o ∷ v ∷ s) w (λ x. refl) b p in
    let old = field_or n i v w in
    give_counted o (v ∷ s) (give old put) (give_counted old (o ∷ v ∷ s) put stands)

made_from_counted : (k : Class) (inputs : List Input) (s : List Slot) (w : World) → IsCounted s w → DoneWith s (made_from k inputs w)
made_from_counted k [] s w p = p
made_from_counted k (Fresh n ∷ rest) s w p = new_counted (number_for n w.objects) k rest s w (number_free n w.objects) p
made_from_counted k (Said r ∷ rest) s w p = p
made_from_counted k (Room b ∷ rest) s w p = p
made_from_counted k (Tallied b ∷ rest) s w p = p

made_counted : (k : Class) (s : List Slot) (o : Tried) → TriedCounted s s o → DoneWith s (or_else o (Fails Memory) (λ u. made_from k u.inputs u))
made_counted k s (No w) p = p
made_counted k s (Yes w) p = made_from_counted k w.inputs s w p

-- without operands
made_taken : (s : List Slot) (d : Done) → DoneWith s d → DoneCounted [] s d
made_taken s (Fine v w) p = p
made_taken s (Fails f w) p = p

cast_counted : (b : Bool) (n : ℕ) (s : List Slot) (w : World) → IsCounted (Script (Some n) ∷ s) w → DoneCounted (Script (Some n) ∷ []) s (cast_to b n w)
cast_counted true n s w p = p
cast_counted false n s w p = push_none (Script None) s (give (Script (Some n)) w) null_names_none (give_counted (Script (Some n)) s w p)

may_store_counted : (b : Bool) (n i : ℕ) (v : Slot) (s : List Slot) (w : World) → may_take n v w ≡ b → IsCounted (Script (Some n) ∷ v ∷ s) w
    → DoneCounted (Script (Some n) ∷ v ∷ []) s (gives_up (Script (Some n) ∷ []) (cond b (or_else (hold v w) (Fails Tally) (stored_field n i v)) (Fails Null w)))
may_store_counted false n i v s w t p = p
may_store_counted true n i v s w t p =
    let o = Script (Some n) in
    let known : HasObject v w.objects = (first_there v (o ∷ s) w (swapped o v s w p)).0 in
    field_stored n i v s (hold v w) (hold_below n v w p.ordered (taken_below n v w t)) (hold_counted v (o ∷ v ∷ s) w known p)

-- ---- an entity that is asked as a property is one

both_true : (a b : Bool) → (a && b) ≡ true → a ≡ true
both_true true b h = refl
both_true false b h = h

access_role : (o : Option HostUse) → may_write o ≡ true → is_property (host_in o).role ≡ true
access_role None h = absurd (let x : ⊥ = cc in x)
access_role (Some u) h = both_true (is_property u.role) (not u.read_only) h

work_counted : (o : Worked) (x y : ℕ) (s : List Slot) (w : World) → IsCounted (Bits y ∷ Bits x ∷ s) w → DoneCounted (Bits y ∷ Bits x ∷ []) s (work_done o w)
work_counted (Is n) x y s w p = counted_as (Bits y ∷ Bits x ∷ s) (Bits n ∷ s) w (λ t. omega (arith, bits_none y t, bits_none x t, bits_none n t)) p
work_counted (Cannot f) x y s w p = p

one_number : (n x : ℕ) (s : List Slot) (w : World) → IsCounted (Bits x ∷ s) w → IsCounted (Bits n ∷ s) w
one_number n x s w p = push_none (Bits n) s w (bits_none n) (drop_none (Bits x) s w (bits_none x) p)

-- Where the operands stand above s. An operation that does not ask in the way of the entity's role is none that code takes.
pub perform_counted : (z : Environment) (m : ℕ) (o : Operation) (vs s : List Slot) (w : World) → is_fit z m o ≡ true → IsCounted (vs ++ s) w → DoneCounted vs s (perform z m o vs w)
unfolding perform is_fit
perform_counted z m (Binary a k) [] s w fit p = p
perform_counted z m (Binary a k) (Bits y ∷ []) s w fit p = p
perform_counted z m (Binary a k) (Bits y ∷ (Bits x ∷ [])) s w fit p = work_counted (binary_result a k x y) x y s w p
perform_counted z m (Binary a k) (Bits y ∷ (Bits x ∷ (u ∷ us))) s w fit p = p
perform_counted z m (Binary a k) (Bits y ∷ (Script j ∷ us)) s w fit p = p
perform_counted z m (Binary a k) (Bits y ∷ (Host d j ∷ us)) s w fit p = p
perform_counted z m (Binary a k) (Script j ∷ us) s w fit p = p
perform_counted z m (Binary a k) (Host d j ∷ us) s w fit p = p
perform_counted z m (Compare c signed) [] s w fit p = p
perform_counted z m (Compare c signed) (Bits y ∷ []) s w fit p = p
perform_counted z m (Compare c signed) (Bits y ∷ (Bits x ∷ [])) s w fit p = work_counted (Is _) x y s w p
perform_counted z m (Compare c signed) (Bits y ∷ (Bits x ∷ (u ∷ us))) s w fit p = p
perform_counted z m (Compare c signed) (Bits y ∷ (Script j ∷ us)) s w fit p = p
perform_counted z m (Compare c signed) (Bits y ∷ (Host d j ∷ us)) s w fit p = p
perform_counted z m (Compare c signed) (Script j ∷ us) s w fit p = p
perform_counted z m (Compare c signed) (Host d j ∷ us) s w fit p = p
perform_counted z m (Convert q) [] s w fit p = p
perform_counted z m (Convert q) (Bits x ∷ []) s w fit p = one_number _ x s w p
perform_counted z m (Convert q) (Bits x ∷ (u ∷ us)) s w fit p = p
perform_counted z m (Convert q) (Script j ∷ us) s w fit p = p
perform_counted z m (Convert q) (Host d j ∷ us) s w fit p = p
perform_counted z m (Negate q) [] s w fit p = p
perform_counted z m (Negate q) (Bits x ∷ []) s w fit p = one_number _ x s w p
perform_counted z m (Negate q) (Bits x ∷ (u ∷ us)) s w fit p = p
perform_counted z m (Negate q) (Script j ∷ us) s w fit p = p
perform_counted z m (Negate q) (Host d j ∷ us) s w fit p = p
perform_counted z m (Complement q) [] s w fit p = p
perform_counted z m (Complement q) (Bits x ∷ []) s w fit p = one_number _ x s w p
perform_counted z m (Complement q) (Bits x ∷ (u ∷ us)) s w fit p = p
perform_counted z m (Complement q) (Script j ∷ us) s w fit p = p
perform_counted z m (Complement q) (Host d j ∷ us) s w fit p = p
perform_counted z m Not [] s w fit p = p
perform_counted z m Not (Bits x ∷ []) s w fit p = one_number _ x s w p
perform_counted z m Not (Bits x ∷ (u ∷ us)) s w fit p = p
perform_counted z m Not (Script j ∷ us) s w fit p = p
perform_counted z m Not (Host d j ∷ us) s w fit p = p
perform_counted z m Same [] s w fit p = p
perform_counted z m Same (y ∷ []) s w fit p = p
perform_counted z m Same (y ∷ (x ∷ [])) s w fit p = push_none (Bits _) s (give x (give y w)) (bits_none _) (give_counted x s (give y w) (give_counted y (x ∷ s) w p))
perform_counted z m Same (y ∷ (x ∷ (u ∷ us))) s w fit p = p
perform_counted z m (GlobalGet g) [] s w fit p =
    let v = global_or m g (Bits 0) w in
    made_taken s _ (holding_counted v s (hold v w) (hold_counted v s w ((global_there m g s w p).0) p))
perform_counted z m (GlobalGet g) (v ∷ vs) s w fit p = p
perform_counted z m (GlobalSet g) [] s w fit p = p
perform_counted z m (GlobalSet g) (v ∷ []) s w fit p = stored_counted m g v s (hold v w) (hold_counted v (v ∷ s) w ((first_there v s w p).0) p)
perform_counted z m (GlobalSet g) (v ∷ (u ∷ us)) s w fit p = p
perform_counted z m (GlobalChange c g) [] s w fit p = p
perform_counted z m (GlobalChange c g) (v ∷ []) s w fit p =
    let x = global_or m g (Bits 0) w in changed_global_counted m g v s w (change_of c x v) (λ a b e. change_plain c x v a b e) p
perform_counted z m (GlobalChange c g) (v ∷ (u ∷ us)) s w fit p = p
perform_counted z m (Ask e) vs s w fit p =
    gives_up_counted vs s _ (called_counted z m e (receiver_of (use_at z m e) (reverse vs)) (arguments_of (use_at z m e) (reverse vs)) (vs ++ s) w p)
perform_counted z m (Read e) vs s w fit p = gives_up_counted vs s _ (read_counted z m e (receiver_of (use_at z m e) vs) (vs ++ s) w p)
perform_counted z m (Write e) [] s w fit p = p
perform_counted z m (Write e) (v ∷ []) s w fit p =
    written v s _ (write_void z m e (access_role (z.host m e.0) fit) (receiver_of (use_at z m e) []) v (v ∷ s) w p)
perform_counted z m (Write e) (o ∷ (v ∷ [])) s w fit p =
    written_of o v s _ (write_void z m e (access_role (z.host m e.0) fit) (receiver_of (use_at z m e) (o ∷ [])) v (o ∷ v ∷ s) w p)
perform_counted z m (Write e) (o ∷ (v ∷ (u ∷ us))) s w fit p = p
perform_counted z m (Alter e c) [] s w fit p = p
perform_counted z m (Alter e c) (v ∷ []) s w fit p =
    let r = receiver_of (use_at z m e) [] in
    let property = access_role (z.host m e.0) fit in
    alone z m e property v s _ (altered_plain z m e property r c v (read_of z m e r w)) (altered_void z m e property r c v (v ∷ s) (read_of z m e r w) (read_counted z m e r (v ∷ s) w p))
perform_counted z m (Alter e c) (o ∷ (v ∷ [])) s w fit p =
    let r = receiver_of (use_at z m e) (o ∷ []) in
    let property = access_role (z.host m e.0) fit in
    of_object z m e property o v s _ (altered_plain z m e property r c v (read_of z m e r w)) (altered_void z m e property r c v (o ∷ v ∷ s) (read_of z m e r w) (read_counted z m e r (o ∷ v ∷ s) w p))
perform_counted z m (Alter e c) (o ∷ (v ∷ (u ∷ us))) s w fit p = p
perform_counted z m (Make c) [] s w fit p = made_taken s _ (may_counted (may_make (class_at z m c) w) s w _ p (made_counted (class_at z m c) s (memory_step w) (memory_counted s w p)))
perform_counted z m (Make c) (v ∷ vs) s w fit p = p
perform_counted z m (FieldGet i) [] s w fit p = p
perform_counted z m (FieldGet i) (Bits x ∷ us) s w fit p = p
perform_counted z m (FieldGet i) (Script None ∷ us) s w fit p = p
perform_counted z m (FieldGet i) (Script (Some n) ∷ []) s w fit p =
    let v = field_or n i (Bits 0) w in
    let o = Script (Some n) in
    field_got n v s (hold v w) (hold_counted v (o ∷ s) w ((field_there (o ∷ s) w n i p).0) p)
perform_counted z m (FieldGet i) (Script (Some n) ∷ (u ∷ us)) s w fit p = p
perform_counted z m (FieldGet i) (Host d j ∷ us) s w fit p = p
perform_counted z m (FieldSet i) [] s w fit p = p
perform_counted z m (FieldSet i) (Bits x ∷ us) s w fit p = p
perform_counted z m (FieldSet i) (Script None ∷ us) s w fit p = p
perform_counted z m (FieldSet i) (Script (Some n) ∷ []) s w fit p = p
perform_counted z m (FieldSet i) (Script (Some n) ∷ (v ∷ [])) s w fit p = may_store_counted (may_take n v w) n i v s w refl p
perform_counted z m (FieldSet i) (Script (Some n) ∷ (v ∷ (u ∷ us))) s w fit p = p
perform_counted z m (FieldSet i) (Host d j ∷ us) s w fit p = p
perform_counted z m (FieldChange c i) [] s w fit p = p
perform_counted z m (FieldChange c i) (Bits x ∷ us) s w fit p = p
perform_counted z m (FieldChange c i) (Script None ∷ us) s w fit p = p
perform_counted z m (FieldChange c i) (Script (Some n) ∷ []) s w fit p = p
perform_counted z m (FieldChange c i) (Script (Some n) ∷ (v ∷ [])) s w fit p =
    let x = field_or n i (Bits 0) w in changed_field_counted n i v s w (change_of c x v) (λ a b e. change_plain c x v a b e) p
perform_counted z m (FieldChange c i) (Script (Some n) ∷ (v ∷ (u ∷ us))) s w fit p = p
perform_counted z m (FieldChange c i) (Host d j ∷ us) s w fit p = p
perform_counted z m (Cast c) [] s w fit p = p
perform_counted z m (Cast c) (Bits x ∷ us) s w fit p = p
perform_counted z m (Cast c) (Script None ∷ []) s w fit p = p
perform_counted z m (Cast c) (Script None ∷ (u ∷ us)) s w fit p = p
perform_counted z m (Cast c) (Script (Some n) ∷ []) s w fit p = cast_counted (is_under z m c (map.get w.objects n)) n s w p
perform_counted z m (Cast c) (Script (Some n) ∷ (u ∷ us)) s w fit p = p
perform_counted z m (Cast c) (Host d j ∷ us) s w fit p = p

-- A global is cleared, and its old value given up.
pub cleared_counted : (m g : ℕ) (s : List Slot) (w : World) → IsCounted s w → IsCounted s (give (global_or m g (Bits 0) w) (global_put m g (Bits 0) w))
cleared_counted m g s w p =
    give_counted (global_or m g (Bits 0) w) s (global_put m g (Bits 0) w)
    (put_counted m g (Bits 0) (Bits 0) s w (λ x. refl) (push_none (Bits 0) s w (bits_none 0) p))

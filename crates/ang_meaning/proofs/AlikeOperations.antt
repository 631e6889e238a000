-- Each strict operation does the same in two worlds that are equal up to the numbers of script objects.
use Rattle.std.proofs.Common.{◌≡◌, ℕ, suc, inl, inr, List, [], ◌∷◌, ◌++◌, Option, Some, None, refl, sym, ap, ◌∙◌, subst}
use Rattle.std.specs.Prelude.{Bool, true, false, cond, ◌&&◌, ◌||◌, reverse, map as list_map}
use Rattle.std.specs.FinMap as map
use Rattle.std.proofs.lemmas.List.{reverse-append}
use Rattle.ang_kinds.specs.declared.mask.EntityNo.{EntityNo}
use Rattle.ang_kinds.specs.declared.value.Value.{Value}
use Rattle.ang_kinds.specs.declared.value.Value.TheVariants.{Int, Uint, Bool as Truth, Key}
use Rattle.ang_kinds.specs.declared.primitive.Primitive.TheVariants.{I8, I16, I32, I64, U8, U16, U32, U64, Bool as TruthType}
use Rattle.ang_kinds.specs.declared.fault.Fault.TheVariants.{Null, Memory, BadAnswer, Tally}
use Rattle.ang_host.specs.declared.answer.Made.TheVariants.{Key as MadeKey, Nothing as MadeNothing, Fault as MadeFault, Memory as MadeMemory, Full as MadeFull}
use Rattle.ang_host.specs.declared.answer.Answer.TheVariants.{Void, Gave, Fault as SaidFault, Memory as SaidMemory, Full}
use Rattle.ang_host.specs.declared.answer.HostReply.{HostReply}
use Rattle.ang_host.specs.declared.answer.HostReply.TheVariants.{Making, Asking}
use Rattle.ang_host.specs.declared.event.HostEvent.TheVariants.{Called}
use Rattle.ang_meaning.specs.declared.slot.Slot.{Slot}
use Rattle.ang_meaning.specs.declared.slot.Slot.TheVariants.{Bits, Script, Host}
use Rattle.ang_meaning.specs.declared.host.HostValueType.{HostValueType}
use Rattle.ang_meaning.specs.declared.host.HostValueType.TheVariants.{Nothing, Plain, Handle}
use Rattle.ang_meaning.specs.declared.host.HostUse.{HostUse}
use Rattle.ang_meaning.specs.declared.operation.Update.{Update}
use Rattle.ang_meaning.specs.declared.operation.Operation.{Operation}
use Rattle.ang_meaning.specs.declared.operation.Operation.TheVariants.{Binary, Compare, Convert, Negate, Complement, Not, Same, GlobalGet, GlobalSet, GlobalChange, Ask, Read, Write, Alter, Make, FieldGet, FieldSet, FieldChange, Cast}
use Rattle.ang_meaning.specs.Numbers.{Worked, Is, Cannot, Changed, Into, Never, binary_result, truth}
use Rattle.ang_meaning.specs.World.{World, ScriptRecord, ScriptObjects, Input, Room, Said, Tallied, Fresh, Tried, Yes, No, memory_step, hold, give, or_else}
use Rattle.ang_meaning.specs.declared.class.Class.{Class}
use Rattle.ang_meaning.specs.declared.class.ValueKind.{ValueKind}
use Rattle.ang_meaning.specs.declared.class.ValueKind.TheVariants.{Number as NumberField, Handle as HandleField}
use Rattle.ang_meaning.specs.Environment.{Environment, default_of, class_at, use_at, is_null}
use Rattle.ang_meaning.specs.Hosts.{Done, Fine, Fails, accepted, is_void, if_within, slot_of, one_reserved, replied_by, is_reply_to, may_ask, asked_from, asked, value_of, values_of}
use Rattle.ang_meaning.specs.Perform.{work_done, name_one, is_same, change_of, global_or, global_put, stored_global, changed_global, Receiver, Of, key_at, receiver_of, behind_first, arguments_of, gives_up, called_of, read_of, write_of, in_place_of, altered_to, altered_of, field_or, field_put, may_take, stored_field, changed_field, is_under, cast_to, new_object, number_for, may_make, made_at, made_from, perform, NoReceiver, NullReceiver}
use Rattle.ang_meaning.specs.Counting.{IsCounted}
use Rattle.ang_meaning.specs.Alike.{Renaming, renamed, renamed_all, renamed_record, Tables}
use Rattle.ang_meaning.proofs.Tables.{number_free}
use Rattle.ang_meaning.proofs.Counted.{TriedCounted, memory_counted}
use Rattle.ang_meaning.proofs.Renaming.{to_eq, swapped, swapped_at, swapped_alike, tables_insert}
use Rattle.ang_meaning.proofs.AlikeWorlds.{three, TriedLeaves, DoneLeaves, TriedSame, DoneSame, DoneAlike, reserved_alike, may_ask_alike, may_make_alike, memory_alike, more_alike, hold_alike, give_alike, give_all_alike, global_renamed, put_alike, field_renamed, field_alike, takes_renamed, holding_alike}
use Rattle.ang_meaning.proofs.Matching.{Match, AlikeUpTo}

-- another renaming may do after an operation; it agrees on what stands on the stack
pub record OneAlike (apart : Type 0) (r : Renaming) (s : List Slot) (o p : Done) : Type 0 where
  pub by : Renaming
  pub same : renamed_all by s ≡ renamed_all r s
  pub done : DoneAlike apart by o p

-- ---- what an operation reads of its operands

pub null_renamed : (r : Renaming) (x : Slot) → is_null (renamed r x) ≡ is_null x
unfolding is_null
null_renamed r (Bits n) = refl
null_renamed r (Script None) = refl
null_renamed r (Script (Some n)) = refl
null_renamed r (Host d None) = refl
null_renamed r (Host d (Some k)) = refl

one_renamed : (r : Renaming) (x y : Slot) → name_one (renamed r x) (renamed r y) ≡ name_one x y
one_renamed r (Bits n) (Bits m) = refl
one_renamed r (Bits n) (Script None) = refl
one_renamed r (Bits n) (Script (Some m)) = refl
one_renamed r (Bits n) (Host d k) = refl
one_renamed r (Script None) (Bits m) = refl
one_renamed r (Script None) (Script None) = refl
one_renamed r (Script None) (Script (Some m)) = refl
one_renamed r (Script None) (Host d k) = refl
one_renamed r (Script (Some n)) (Bits m) = refl
one_renamed r (Script (Some n)) (Script None) = refl
one_renamed r (Script (Some n)) (Script (Some m)) = to_eq r n m
one_renamed r (Script (Some n)) (Host d k) = refl
one_renamed r (Host e None) (Bits m) = refl
one_renamed r (Host e None) (Script k) = refl
one_renamed r (Host e None) (Host d k) = refl
one_renamed r (Host e (Some j)) (Bits m) = refl
one_renamed r (Host e (Some j)) (Script k) = refl
one_renamed r (Host e (Some j)) (Host d k) = refl

same_renamed : (r : Renaming) (x y : Slot) → is_same (renamed r x) (renamed r y) ≡ is_same x y
unfolding is_same
same_renamed r x y =
    ap (λ b. (b && is_null (renamed r y)) || name_one (renamed r x) (renamed r y)) (null_renamed r x) ∙ ap (λ b. (is_null x && b) || name_one (renamed r x) (renamed r y)) (null_renamed r y)
    ∙ ap (λ b. (is_null x && is_null y) || b) (one_renamed r x y)

pub change_renamed : (r : Renaming) (c : Update) (x y : Slot) → change_of c (renamed r x) (renamed r y) ≡ change_of c x y
unfolding change_of
change_renamed r c (Bits n) (Bits m) = refl
change_renamed r c (Bits n) (Script None) = refl
change_renamed r c (Bits n) (Script (Some m)) = refl
change_renamed r c (Bits n) (Host d k) = refl
change_renamed r c (Script None) y = refl
change_renamed r c (Script (Some n)) y = refl
change_renamed r c (Host d k) y = refl

ends_renamed : (r : Renaming) (us : List Slot) (v : Slot) → renamed_all r us ++ renamed r v ∷ [] ≡ renamed_all r (us ++ v ∷ [])
ends_renamed r [] v = refl
ends_renamed r (u ∷ us) v = ap (λ l. renamed r u ∷ l) (ends_renamed r us v)

pub reverse_renamed : (r : Renaming) (vs : List Slot) → reverse (renamed_all r vs) ≡ renamed_all r (reverse vs)
reverse_renamed r [] = refl
reverse_renamed r (v ∷ vs) =
    reverse-append (renamed r v ∷ []) (renamed_all r vs) ∙ ap (λ l. l ++ renamed r v ∷ []) (reverse_renamed r vs) ∙ ends_renamed r (reverse vs) v ∙ ap (renamed_all r) (sym (reverse-append (v ∷ []) vs))

key_renamed : (r : Renaming) (d : ℕ) (vs : List Slot) → key_at d (renamed_all r vs) ≡ key_at d vs
key_renamed r d [] = refl
key_renamed r d (Bits n ∷ vs) = refl
key_renamed r d (Script None ∷ vs) = refl
key_renamed r d (Script (Some n) ∷ vs) = refl
key_renamed r d (Host e None ∷ vs) = refl
key_renamed r d (Host e (Some k) ∷ vs) = refl

receiver_renamed : (r : Renaming) (u : HostUse) (vs : List Slot) → receiver_of u (renamed_all r vs) ≡ receiver_of u vs
receiver_renamed r u vs = ap (λ k. cond u.member k NoReceiver) (key_renamed r u.driver vs)

behind_renamed : (r : Renaming) (vs : List Slot) → behind_first (renamed_all r vs) ≡ renamed_all r (behind_first vs)
behind_renamed r [] = refl
behind_renamed r (v ∷ vs) = refl

arguments_by : (r : Renaming) (b : Bool) (vs : List Slot) → cond b (behind_first (renamed_all r vs)) (renamed_all r vs) ≡ renamed_all r (cond b (behind_first vs) vs)
arguments_by r true vs = behind_renamed r vs
arguments_by r false vs = refl

arguments_renamed : (r : Renaming) (u : HostUse) (vs : List Slot) → arguments_of u (renamed_all r vs) ≡ renamed_all r (arguments_of u vs)
arguments_renamed r u vs = arguments_by r u.member vs

pub value_renamed : (r : Renaming) (d : ℕ) (ty : HostValueType) (x : Slot) → value_of d ty (renamed r x) ≡ value_of d ty x
value_renamed r d Nothing (Bits n) = refl
value_renamed r d Nothing (Script None) = refl
value_renamed r d Nothing (Script (Some n)) = refl
value_renamed r d Nothing (Host e k) = refl
value_renamed r d (Plain p) (Bits n) = refl
value_renamed r d (Plain p) (Script None) = refl
value_renamed r d (Plain p) (Script (Some n)) = refl
value_renamed r d (Plain p) (Host e k) = refl
value_renamed r d Handle (Bits n) = refl
value_renamed r d Handle (Script None) = refl
value_renamed r d Handle (Script (Some n)) = refl
value_renamed r d Handle (Host e None) = refl
value_renamed r d Handle (Host e (Some k)) = refl

values_renamed : (r : Renaming) (d : ℕ) (types : List HostValueType) (vs : List Slot) → values_of d types (renamed_all r vs) ≡ values_of d types vs
values_renamed r d [] vs = refl
values_renamed r d (ty ∷ types) [] = refl
values_renamed r d (ty ∷ types) (v ∷ vs) =
    ap (λ x. x ∷ values_of d types (renamed_all r vs)) (value_renamed r d ty v) ∙ ap (λ l. value_of d ty v ∷ l) (values_renamed r d types vs)

-- what a driver gives is no script object
abbrev IsFixed : Renaming → Option Slot → Type 0
IsFixed r None = Unit {0}
IsFixed r (Some x) = x ≡ renamed r x

within_fixed : (r : Renaming) (b : Bool) (n : ℕ) → IsFixed r (if_within b n)
within_fixed r true n = refl
within_fixed r false n = tt

slot_fixed : (r : Renaming) (d : ℕ) (ty : HostValueType) (v : Value) → IsFixed r (slot_of d ty v)
unfolding slot_of
slot_fixed r d Nothing (Int z) = tt
slot_fixed r d Nothing (Uint n) = tt
slot_fixed r d Nothing (Truth b) = tt
slot_fixed r d Nothing (Key k) = tt
slot_fixed r d (Plain p) (Int z) = within_fixed r _ _
slot_fixed r d (Plain p) (Uint n) = within_fixed r _ _
slot_fixed r d (Plain I8) (Truth b) = tt
slot_fixed r d (Plain I16) (Truth b) = tt
slot_fixed r d (Plain I32) (Truth b) = tt
slot_fixed r d (Plain I64) (Truth b) = tt
slot_fixed r d (Plain U8) (Truth b) = tt
slot_fixed r d (Plain U16) (Truth b) = tt
slot_fixed r d (Plain U32) (Truth b) = tt
slot_fixed r d (Plain U64) (Truth b) = tt
slot_fixed r d (Plain TruthType) (Truth b) = refl
slot_fixed r d (Plain p) (Key k) = tt
slot_fixed r d Handle (Int z) = tt
slot_fixed r d Handle (Uint n) = tt
slot_fixed r d Handle (Truth b) = tt
slot_fixed r d Handle (Key None) = refl
slot_fixed r d Handle (Key (Some k)) = refl

-- ---- a new object

default_renamed : (r : Renaming) (k : ValueKind) → renamed r (default_of k) ≡ default_of k
default_renamed r NumberField = refl
default_renamed r HandleField = refl

pub defaults_renamed : (r : Renaming) (ks : List ValueKind) → renamed_all r (list_map default_of ks) ≡ list_map default_of ks
defaults_renamed r [] = refl
defaults_renamed r (k ∷ ks) = ap (λ x. x ∷ renamed_all r (list_map default_of ks)) (default_renamed r k) ∙ ap (λ l. default_of k ∷ l) (defaults_renamed r ks)

new_tables : (r : Renaming) (os ps : ScriptObjects) (n : ℕ) (k : Class) → Tables r os ps → Tables r (map.insert os n (new_object k)) (map.insert ps (r.to n) (new_object k))
new_tables r os ps n k t =
    subst (λ l. Tables r (map.insert os n (new_object k)) (map.insert ps (r.to n) (record (new_object k) { fields = l }))) (defaults_renamed r k.fields) (tables_insert r os ps n (new_object k) t)

module _ (apart : Type 0) (r : Renaming) where
  -- the two numbers may be any that are free
  made_at_alike : (k : Class) (a b : ℕ) (is js : List Input) (s : List Slot) (v w : World) → map.get v.objects a ≡ None → map.get w.objects b ≡ None → Match apart is js → IsCounted s v → AlikeUpTo apart r v w
      → OneAlike apart r s (made_at k a is v) (made_at k b js w)
  made_at_alike k a b is js s v w g e m counted h =
      let q = swapped r (r.to a) b in
      let free : map.get w.objects (r.to a) ≡ None = h.objects.has a ∙ ap (renamed_record r) g in
      let x = swapped_alike apart r (r.to a) b s v w free e counted h in
      let at : q.to a ≡ b = swapped_at r a b in
      record {
        by = q;
        same = x.1;
        done = inl (
          ap (λ j. Script (Some j)) (sym at),
          record {
            objects = subst (λ j. Tables q (map.insert v.objects a (new_object k)) (map.insert w.objects j (new_object k))) at (new_tables q v.objects w.objects a k x.0.objects);
            hosts = x.0.hosts;
            globals = x.0.globals;
            events = x.0.events;
            reserved = x.0.reserved;
            spent = x.0.spent;
            bounds = x.0.bounds;
            inputs = m;
          },
        );
      }

  -- the same renaming does
  kept : (s : List Slot) (o p : Done) → DoneAlike apart r o p → OneAlike apart r s o p
  kept s o p h = record { by = r; same = refl; done = h }

  made_from_alike : (k : Class) (s : List Slot) (is js : List Input) (v w : World) → v.inputs ≡ is → w.inputs ≡ js → Match apart is js → AlikeUpTo apart r v w → IsCounted s v → OneAlike apart r s (made_from k is v) (made_from k js w)
  made_from_alike o s [] [] v w e f mt h counted = kept s _ _ (inl (refl, h))
  made_from_alike o s [] (j ∷ js) v w e f mt h counted = absurd mt
  made_from_alike o s (i ∷ is) [] v w e f mt h counted = absurd mt
  made_from_alike o s (Room a ∷ is) (Room b ∷ js) v w e f mt h counted = kept s _ _ (inl (refl, h))
  made_from_alike o s (Room a ∷ is) (Said u ∷ js) v w e f mt h counted = kept s _ _ (inl (refl, h))
  made_from_alike o s (Room a ∷ is) (Tallied b ∷ js) v w e f mt h counted = kept s _ _ (inl (refl, h))
  made_from_alike o s (Room a ∷ is) (Fresh k ∷ js) v w e f mt h counted = kept s _ _ (inr (inl (mt, record { first = Room a; rest = is; inputs = e })))
  made_from_alike o s (Said q ∷ is) (Room b ∷ js) v w e f mt h counted = kept s _ _ (inl (refl, h))
  made_from_alike o s (Said q ∷ is) (Said u ∷ js) v w e f mt h counted = kept s _ _ (inl (refl, h))
  made_from_alike o s (Said q ∷ is) (Tallied b ∷ js) v w e f mt h counted = kept s _ _ (inl (refl, h))
  made_from_alike o s (Said q ∷ is) (Fresh k ∷ js) v w e f mt h counted = kept s _ _ (inr (inl (mt, record { first = Said q; rest = is; inputs = e })))
  made_from_alike o s (Tallied a ∷ is) (Room b ∷ js) v w e f mt h counted = kept s _ _ (inl (refl, h))
  made_from_alike o s (Tallied a ∷ is) (Said u ∷ js) v w e f mt h counted = kept s _ _ (inl (refl, h))
  made_from_alike o s (Tallied a ∷ is) (Tallied b ∷ js) v w e f mt h counted = kept s _ _ (inl (refl, h))
  made_from_alike o s (Tallied a ∷ is) (Fresh k ∷ js) v w e f mt h counted = kept s _ _ (inr (inl (mt, record { first = Tallied a; rest = is; inputs = e })))
  made_from_alike o s (Fresh n ∷ is) (Room b ∷ js) v w e f mt h counted = kept s _ _ (inr (inr (mt, record { first = Room b; rest = js; inputs = f })))
  made_from_alike o s (Fresh n ∷ is) (Said u ∷ js) v w e f mt h counted = kept s _ _ (inr (inr (mt, record { first = Said u; rest = js; inputs = f })))
  made_from_alike o s (Fresh n ∷ is) (Tallied b ∷ js) v w e f mt h counted = kept s _ _ (inr (inr (mt, record { first = Tallied b; rest = js; inputs = f })))
  made_from_alike o s (Fresh n ∷ is) (Fresh k ∷ js) v w e f mt h counted = made_at_alike o (number_for n v.objects) (number_for k w.objects) is js s v w (number_free n v.objects) (number_free k w.objects) mt counted h

  made_told_alike : (k : Class) (s : List Slot) (o p : Tried) → TriedSame apart r o p → TriedCounted s s o → OneAlike apart r s (or_else o (Fails Memory) (λ u. made_from k u.inputs u)) (or_else p (Fails Memory) (λ u. made_from k u.inputs u))
  made_told_alike k s (Yes v) (Yes w) h counted = made_from_alike k s v.inputs w.inputs v w refl refl h.inputs h counted
  made_told_alike k s (Yes v) (No w) h counted = absurd h
  made_told_alike k s (No v) (Yes w) h counted = absurd h
  made_told_alike k s (No v) (No w) h counted = kept s _ _ (inl (refl, h))

  made_leaves : (k : Class) (o : Tried) → TriedLeaves apart o → DoneLeaves apart (or_else o (Fails Memory) (λ u. made_from k u.inputs u))
  made_leaves k (Yes w) h = absurd h
  made_leaves k (No w) h = h

  made_alike : (k : Class) (s : List Slot) (v w : World) → IsCounted s v → AlikeUpTo apart r v w → OneAlike apart r s (or_else (memory_step v) (Fails Memory) (λ u. made_from k u.inputs u)) (or_else (memory_step w) (Fails Memory) (λ u. made_from k u.inputs u))
  made_alike k s v w counted h =
      three (λ t. made_told_alike k s (memory_step v) (memory_step w) t (memory_counted s v counted)) (λ l. kept s _ _ (inr (inl (made_leaves k (memory_step v) l))))
      (λ l. kept s _ _ (inr (inr (made_leaves k (memory_step w) l)))) (memory_alike apart r v w h)

  -- where the bounds allow it, and where they don't
  if_may_make : (b c : Bool) (s : List Slot) (v w : World) (o p : Done) → c ≡ b → AlikeUpTo apart r v w → OneAlike apart r s o p → OneAlike apart r s (cond b o (Fails Memory v)) (cond c p (Fails Memory w))
  if_may_make b c s v w o p e h a =
      subst (λ x. OneAlike apart r s (cond b o (Fails Memory v)) (cond x p (Fails Memory w))) (sym e)
      (elim b as (λ x. OneAlike apart r s (cond x o (Fails Memory v)) (cond x p (Fails Memory w))) [ true ↦ a | false ↦ kept s _ _ (inl (refl, h)) ])

  -- ---- host calls

  if_may_ask : (b c : Bool) (v w : World) (o p : Done) → c ≡ b → AlikeUpTo apart r v w → DoneAlike apart r o p → DoneAlike apart r (cond b o (Fails Memory v)) (cond c p (Fails Memory w))
  if_may_ask b c v w o p e h a =
      subst (λ x. DoneAlike apart r (cond b o (Fails Memory v)) (cond x p (Fails Memory w))) (sym e)
      (elim b as (λ x. DoneAlike apart r (cond x o (Fails Memory v)) (cond x p (Fails Memory w))) [ true ↦ a | false ↦ inl (refl, h) ])

  accepted_alike : (o : Option Slot) (v w : World) → IsFixed r o → AlikeUpTo apart r v w → DoneAlike apart r (accepted o v) (accepted o w)
  accepted_alike None v w e h = inl (refl, h)
  accepted_alike (Some x) v w e h = holding_alike apart r x x v w e h

  void_alike : (b : Bool) (v w : World) → AlikeUpTo apart r v w → DoneAlike apart r (cond b (Fine (Bits 0) v) (Fails BadAnswer v)) (cond b (Fine (Bits 0) w) (Fails BadAnswer w))
  void_alike true v w h = inl (refl, h)
  void_alike false v w h = inl (refl, h)

  replied_alike : (d : ℕ) (result : HostValueType) (q : HostReply) (v w : World) → AlikeUpTo apart r v w → DoneAlike apart r (replied_by d result q v) (replied_by d result q w)
  unfolding replied_by
  replied_alike d result (Making (MadeKey k)) v w h = inl (refl, more_alike apart r (Host d (Some k)) (one_reserved v) (one_reserved w) (reserved_alike apart r v w h))
  replied_alike d result (Making MadeNothing) v w h = inl (refl, h)
  replied_alike d result (Making (MadeFault n)) v w h = inl (refl, h)
  replied_alike d result (Making MadeMemory) v w h = inl (refl, h)
  replied_alike d result (Making MadeFull) v w h = inl (refl, h)
  replied_alike d result (Asking Void) v w h = void_alike (is_void result) v w h
  replied_alike d result (Asking (Gave x)) v w h = accepted_alike (slot_of d result x) v w (slot_fixed r d result x) h
  replied_alike d result (Asking (SaidFault n)) v w h = inl (refl, h)
  replied_alike d result (Asking SaidMemory) v w h = inl (refl, h)
  replied_alike d result (Asking Full) v w h = inl (refl, h)

  module _ (z : Environment) (m : ℕ) (e : EntityNo) where
    said_alike : (b : Bool) (result : HostValueType) (reply : HostReply) (v w v' w' : World) → AlikeUpTo apart r v w → AlikeUpTo apart r v' w'
        → DoneAlike apart r (cond b (replied_by (use_at z m e).driver result reply v') (Fails Memory v)) (cond b (replied_by (use_at z m e).driver result reply w') (Fails Memory w))
    said_alike true result reply v w v' w' h k = replied_alike (use_at z m e).driver result reply v' w' k
    said_alike false result reply v w v' w' h k = inl (refl, h)

    listed_alike : (object : Option ℕ) (args : List Value) (reply : HostReply) (is js : List Input) (v w : World) → Match apart is js → AlikeUpTo apart r v w
        → AlikeUpTo apart r (record v { inputs = is; events = v.events ++ Called (z.name m) e (use_at z m e).driver object args reply ∷ []; reserved = suc v.reserved })
        (record w { inputs = js; events = w.events ++ Called (z.name m) e (use_at z m e).driver object args reply ∷ []; reserved = suc w.reserved })
    listed_alike object args reply is js v w mt h = record {
      objects = h.objects;
      hosts = h.hosts;
      globals = h.globals;
      events = ap (λ es. es ++ Called (z.name m) e (use_at z m e).driver object args reply ∷ []) h.events;
      reserved = ap suc h.reserved;
      spent = h.spent;
      bounds = h.bounds;
      inputs = mt;
    }

    -- the same reply to both
    pair_alike : (object : Option ℕ) (args : List Value) (result : HostValueType) (q u : HostReply) (is js : List Input) (v w : World) → q ≡ u → Match apart is js → AlikeUpTo apart r v w
        → DoneAlike apart r (asked_from z m e object args result (Said q ∷ is) v) (asked_from z m e object args result (Said u ∷ js) w)
    pair_alike object args result q u is js v w s mt h =
        subst (λ x. DoneAlike apart r (asked_from z m e object args result (Said q ∷ is) v) (asked_from z m e object args result (Said x ∷ js) w)) s
        (said_alike (is_reply_to (use_at z m e).role q) result q v w _ _ h (listed_alike object args q is js v w mt h))

    from_alike : (object : Option ℕ) (args : List Value) (result : HostValueType) (is js : List Input) (v w : World) → v.inputs ≡ is → w.inputs ≡ js → Match apart is js → AlikeUpTo apart r v w
        → DoneAlike apart r (asked_from z m e object args result is v) (asked_from z m e object args result js w)
    from_alike object args result [] [] v w le ri mt h = inl (refl, h)
    from_alike object args result [] (j ∷ js) v w le ri mt h = absurd mt
    from_alike object args result (i ∷ is) [] v w le ri mt h = absurd mt
    from_alike object args result (Room a ∷ is) (Room b ∷ js) v w le ri mt h = inl (refl, h)
    from_alike object args result (Room a ∷ is) (Said u ∷ js) v w le ri mt h = inr (inl (mt, record { first = Room a; rest = is; inputs = le }))
    from_alike object args result (Room a ∷ is) (Tallied b ∷ js) v w le ri mt h = inl (refl, h)
    from_alike object args result (Room a ∷ is) (Fresh k ∷ js) v w le ri mt h = inl (refl, h)
    from_alike object args result (Said q ∷ is) (Room b ∷ js) v w le ri mt h = inr (inr (mt, record { first = Room b; rest = js; inputs = ri }))
    from_alike object args result (Said q ∷ is) (Said u ∷ js) v w le ri mt h = pair_alike object args result q u is js v w mt.0 mt.1 h
    from_alike object args result (Said q ∷ is) (Tallied b ∷ js) v w le ri mt h = inr (inr (mt, record { first = Tallied b; rest = js; inputs = ri }))
    from_alike object args result (Said q ∷ is) (Fresh k ∷ js) v w le ri mt h = inr (inr (mt, record { first = Fresh k; rest = js; inputs = ri }))
    from_alike object args result (Tallied a ∷ is) (Room b ∷ js) v w le ri mt h = inl (refl, h)
    from_alike object args result (Tallied a ∷ is) (Said u ∷ js) v w le ri mt h = inr (inl (mt, record { first = Tallied a; rest = is; inputs = le }))
    from_alike object args result (Tallied a ∷ is) (Tallied b ∷ js) v w le ri mt h = inl (refl, h)
    from_alike object args result (Tallied a ∷ is) (Fresh k ∷ js) v w le ri mt h = inl (refl, h)
    from_alike object args result (Fresh n ∷ is) (Room b ∷ js) v w le ri mt h = inl (refl, h)
    from_alike object args result (Fresh n ∷ is) (Said u ∷ js) v w le ri mt h = inr (inl (mt, record { first = Fresh n; rest = is; inputs = le }))
    from_alike object args result (Fresh n ∷ is) (Tallied b ∷ js) v w le ri mt h = inl (refl, h)
    from_alike object args result (Fresh n ∷ is) (Fresh k ∷ js) v w le ri mt h = inl (refl, h)

    asked_same : (object : Option ℕ) (args : List Value) (result : HostValueType) (o p : Tried) → TriedSame apart r o p → DoneAlike apart r (or_else o (Fails Memory) (λ u. asked_from z m e object args result u.inputs u)) (or_else p (Fails Memory) (λ u. asked_from z m e object args result u.inputs u))
    asked_same object args result (Yes v) (Yes w) h = from_alike object args result v.inputs w.inputs v w refl refl h.inputs h
    asked_same object args result (Yes v) (No w) h = absurd h
    asked_same object args result (No v) (Yes w) h = absurd h
    asked_same object args result (No v) (No w) h = inl (refl, h)

    asked_leaves : (object : Option ℕ) (args : List Value) (result : HostValueType) (o : Tried) → TriedLeaves apart o → DoneLeaves apart (or_else o (Fails Memory) (λ u. asked_from z m e object args result u.inputs u))
    asked_leaves object args result (Yes w) h = absurd h
    asked_leaves object args result (No w) h = h

    asked_alike : (object : Option ℕ) (args : List Value) (result : HostValueType) (v w : World) → AlikeUpTo apart r v w → DoneAlike apart r (asked z m e object args result v) (asked z m e object args result w)
    unfolding asked
    asked_alike object args result v w h =
        if_may_ask (may_ask (use_at z m e).role v) (may_ask (use_at z m e).role w) v w _ _ (may_ask_alike apart r (use_at z m e).role v w h) h
        (three (λ t. asked_same object args result (memory_step v) (memory_step w) t) (λ l. inr (inl (asked_leaves object args result (memory_step v) l)))
        (λ l. inr (inr (asked_leaves object args result (memory_step w) l))) (memory_alike apart r v w h))

    called_by : (q : Receiver) (args : List Slot) (v w : World) → AlikeUpTo apart r v w → DoneAlike apart r (called_of z m e q args v) (called_of z m e q (renamed_all r args) w)
    called_by NoReceiver args v w h =
        subst (λ l. DoneAlike apart r (called_of z m e NoReceiver args v) (asked z m e None l (use_at z m e).result w)) (sym (values_renamed r (use_at z m e).driver (use_at z m e).params args))
        (asked_alike None (values_of (use_at z m e).driver (use_at z m e).params args) (use_at z m e).result v w h)
    called_by (Of k) args v w h =
        subst (λ l. DoneAlike apart r (called_of z m e (Of k) args v) (asked z m e (Some k) l (use_at z m e).result w)) (sym (values_renamed r (use_at z m e).driver (use_at z m e).params args))
        (asked_alike (Some k) (values_of (use_at z m e).driver (use_at z m e).params args) (use_at z m e).result v w h)
    called_by NullReceiver args v w h = inl (refl, h)

    called_alike : (vs : List Slot) (v w : World) → AlikeUpTo apart r v w
        → DoneAlike apart r (called_of z m e (receiver_of (use_at z m e) (reverse vs)) (arguments_of (use_at z m e) (reverse vs)) v)
        (called_of z m e (receiver_of (use_at z m e) (reverse (renamed_all r vs))) (arguments_of (use_at z m e) (reverse (renamed_all r vs))) w)
    called_alike vs v w h =
        let u = use_at z m e in
        let o = called_of z m e (receiver_of u (reverse vs)) (arguments_of u (reverse vs)) v in
        subst (λ l. DoneAlike apart r o (called_of z m e (receiver_of u l) (arguments_of u l) w)) (sym (reverse_renamed r vs))
        (subst (λ q. DoneAlike apart r o (called_of z m e q (arguments_of u (renamed_all r (reverse vs))) w)) (sym (receiver_renamed r u (reverse vs)))
        (subst (λ l. DoneAlike apart r o (called_of z m e (receiver_of u (reverse vs)) l w)) (sym (arguments_renamed r u (reverse vs)))
        (called_by (receiver_of u (reverse vs)) (arguments_of u (reverse vs)) v w h)))

    read_by : (q : Receiver) (v w : World) → AlikeUpTo apart r v w → DoneAlike apart r (read_of z m e q v) (read_of z m e q w)
    read_by NoReceiver v w h = asked_alike None [] (use_at z m e).result v w h
    read_by (Of k) v w h = asked_alike (Some k) [] (use_at z m e).result v w h
    read_by NullReceiver v w h = inl (refl, h)

    read_alike : (vs : List Slot) (v w : World) → AlikeUpTo apart r v w → DoneAlike apart r (read_of z m e (receiver_of (use_at z m e) vs) v) (read_of z m e (receiver_of (use_at z m e) (renamed_all r vs)) w)
    read_alike vs v w h =
        subst (λ q. DoneAlike apart r (read_of z m e (receiver_of (use_at z m e) vs) v) (read_of z m e q w)) (sym (receiver_renamed r (use_at z m e) vs)) (read_by (receiver_of (use_at z m e) vs) v w h)

    write_by : (q : Receiver) (x : Slot) (v w : World) → AlikeUpTo apart r v w → DoneAlike apart r (write_of z m e q x v) (write_of z m e q (renamed r x) w)
    write_by NoReceiver x v w h =
        subst (λ y. DoneAlike apart r (write_of z m e NoReceiver x v) (asked z m e None (y ∷ []) Nothing w)) (sym (value_renamed r (use_at z m e).driver (use_at z m e).result x))
        (asked_alike None (value_of (use_at z m e).driver (use_at z m e).result x ∷ []) Nothing v w h)
    write_by (Of k) x v w h =
        subst (λ y. DoneAlike apart r (write_of z m e (Of k) x v) (asked z m e (Some k) (y ∷ []) Nothing w)) (sym (value_renamed r (use_at z m e).driver (use_at z m e).result x))
        (asked_alike (Some k) (value_of (use_at z m e).driver (use_at z m e).result x ∷ []) Nothing v w h)
    write_by NullReceiver x v w h = inl (refl, h)

    write_alike : (vs : List Slot) (x : Slot) (v w : World) → AlikeUpTo apart r v w
        → DoneAlike apart r (write_of z m e (receiver_of (use_at z m e) vs) x v) (write_of z m e (receiver_of (use_at z m e) (renamed_all r vs)) (renamed r x) w)
    write_alike vs x v w h =
        subst (λ q. DoneAlike apart r (write_of z m e (receiver_of (use_at z m e) vs) x v) (write_of z m e q (renamed r x) w)) (sym (receiver_renamed r (use_at z m e) vs))
        (write_by (receiver_of (use_at z m e) vs) x v w h)

  -- ---- what follows

  in_place_same : (x : Slot) (o p : Done) → DoneSame apart r o p → DoneSame apart r (in_place_of x o) (in_place_of (renamed r x) p)
  in_place_same x (Fine a v) (Fine b w) h = (refl, h.1)
  in_place_same x (Fine a v) (Fails g w) h = absurd h
  in_place_same x (Fails f v) (Fine b w) h = absurd h
  in_place_same x (Fails f v) (Fails g w) h = h

  in_place_leaves : (x : Slot) (o : Done) → DoneLeaves apart o → DoneLeaves apart (in_place_of x o)
  in_place_leaves x (Fine a w) h = absurd h
  in_place_leaves x (Fails f w) h = h

  in_place_alike : (x : Slot) (o p : Done) → DoneAlike apart r o p → DoneAlike apart r (in_place_of x o) (in_place_of (renamed r x) p)
  in_place_alike x o p h = three (λ s. inl (in_place_same x o p s)) (λ l. inr (inl (in_place_leaves x o l))) (λ l. inr (inr (in_place_leaves (renamed r x) p l))) h

  gives_same : (vs : List Slot) (o p : Done) → DoneSame apart r o p → DoneSame apart r (gives_up vs o) (gives_up (renamed_all r vs) p)
  gives_same vs (Fine a v) (Fine b w) h = (h.0, give_all_alike apart r vs v w h.1)
  gives_same vs (Fine a v) (Fails g w) h = absurd h
  gives_same vs (Fails f v) (Fine b w) h = absurd h
  gives_same vs (Fails f v) (Fails g w) h = h

  gives_leaves : (vs : List Slot) (o : Done) → DoneLeaves apart o → DoneLeaves apart (gives_up vs o)
  gives_leaves vs (Fine a w) h = absurd h
  gives_leaves vs (Fails f w) h = h

  gives_alike : (vs : List Slot) (o p : Done) → DoneAlike apart r o p → DoneAlike apart r (gives_up vs o) (gives_up (renamed_all r vs) p)
  gives_alike vs o p h = three (λ s. inl (gives_same vs o p s)) (λ l. inr (inl (gives_leaves vs o l))) (λ l. inr (inr (gives_leaves (renamed_all r vs) p l))) h

  work_alike : (o : Worked) (v w : World) → AlikeUpTo apart r v w → DoneAlike apart r (work_done o v) (work_done o w)
  work_alike (Is n) v w h = inl (refl, h)
  work_alike (Cannot f) v w h = inl (refl, h)

  module _ (z : Environment) (m : ℕ) (e : EntityNo) where
    altered_to_alike : (vs : List Slot) (x : Slot) (c : Changed) (v w : World) → AlikeUpTo apart r v w
        → DoneAlike apart r (altered_to z m e (receiver_of (use_at z m e) vs) x c v) (altered_to z m e (receiver_of (use_at z m e) (renamed_all r vs)) (renamed r x) c w)
    altered_to_alike vs x (Never f) v w h = inl (refl, give_alike apart r x v w h)
    altered_to_alike vs x (Into stored given) v w h = in_place_alike (Bits given) _ _ (write_alike z m e vs (Bits stored) v w h)

    altered_same : (vs : List Slot) (c : Update) (y : Slot) (o p : Done) → DoneSame apart r o p
        → DoneAlike apart r (altered_of z m e (receiver_of (use_at z m e) vs) c y o) (altered_of z m e (receiver_of (use_at z m e) (renamed_all r vs)) c (renamed r y) p)
    altered_same vs c y (Fine a v) (Fine b w) h =
        let q = receiver_of (use_at z m e) (renamed_all r vs) in
        let o = altered_to z m e (receiver_of (use_at z m e) vs) a (change_of c a y) v in
        subst (λ x. DoneAlike apart r o (altered_to z m e q x (change_of c x (renamed r y)) w)) (sym h.0)
        (subst (λ k. DoneAlike apart r o (altered_to z m e q (renamed r a) k w)) (sym (change_renamed r c a y)) (altered_to_alike vs a (change_of c a y) v w h.1))
    altered_same vs c y (Fine a v) (Fails g w) h = absurd h
    altered_same vs c y (Fails f v) (Fine b w) h = absurd h
    altered_same vs c y (Fails f v) (Fails g w) h = inl h

    altered_leaves : (q : Receiver) (c : Update) (y : Slot) (o : Done) → DoneLeaves apart o → DoneLeaves apart (altered_of z m e q c y o)
    altered_leaves q c y (Fine a w) h = absurd h
    altered_leaves q c y (Fails f w) h = h

    altered_alike : (vs : List Slot) (c : Update) (y : Slot) (v w : World) → AlikeUpTo apart r v w
        → DoneAlike apart r (altered_of z m e (receiver_of (use_at z m e) vs) c y (read_of z m e (receiver_of (use_at z m e) vs) v))
        (altered_of z m e (receiver_of (use_at z m e) (renamed_all r vs)) c (renamed r y) (read_of z m e (receiver_of (use_at z m e) (renamed_all r vs)) w))
    altered_alike vs c y v w h =
        three (λ s. altered_same vs c y _ _ s) (λ l. inr (inl (altered_leaves (receiver_of (use_at z m e) vs) c y _ l)))
        (λ l. inr (inr (altered_leaves (receiver_of (use_at z m e) (renamed_all r vs)) c (renamed r y) _ l))) (read_alike z m e vs v w h)

  module _ (m : ℕ) where
    stored_same : (g : ℕ) (x : Slot) (o p : Tried) → TriedSame apart r o p → DoneSame apart r (or_else o (Fails Tally) (stored_global m g x)) (or_else p (Fails Tally) (stored_global m g (renamed r x)))
    stored_same g x (Yes v) (Yes w) h = (
      refl,
      subst (λ q. AlikeUpTo apart r (give (global_or m g x v) (global_put m g x v)) (give q (global_put m g (renamed r x) w))) (sym (global_renamed apart r m g x v w h))
          (give_alike apart r (global_or m g x v) _ _ (put_alike apart r m g x v w h)),
    )
    stored_same g x (Yes v) (No w) h = absurd h
    stored_same g x (No v) (Yes w) h = absurd h
    stored_same g x (No v) (No w) h = (refl, h)

    stored_leaves : (g : ℕ) (x : Slot) (o : Tried) → TriedLeaves apart o → DoneLeaves apart (or_else o (Fails Tally) (stored_global m g x))
    stored_leaves g x (Yes w) h = absurd h
    stored_leaves g x (No w) h = h

    stored_alike : (g : ℕ) (x : Slot) (v w : World) → AlikeUpTo apart r v w → DoneAlike apart r (or_else (hold x v) (Fails Tally) (stored_global m g x)) (or_else (hold (renamed r x) w) (Fails Tally) (stored_global m g (renamed r x)))
    stored_alike g x v w h =
        three (λ s. inl (stored_same g x _ _ s)) (λ l. inr (inl (stored_leaves g x _ l))) (λ l. inr (inr (stored_leaves g (renamed r x) _ l))) (hold_alike apart r x v w h)

    changed_by : (g : ℕ) (c : Changed) (v w : World) → AlikeUpTo apart r v w → DoneAlike apart r (changed_global m g c v) (changed_global m g c w)
    changed_by g (Into stored given) v w h = inl (refl, put_alike apart r m g (Bits stored) v w h)
    changed_by g (Never f) v w h = inl (refl, h)

    changed_alike : (g : ℕ) (c : Update) (x : Slot) (v w : World) → AlikeUpTo apart r v w
        → DoneAlike apart r (changed_global m g (change_of c (global_or m g (Bits 0) v) x) v) (changed_global m g (change_of c (global_or m g (Bits 0) w) (renamed r x)) w)
    changed_alike g c x v w h =
        let o = changed_global m g (change_of c (global_or m g (Bits 0) v) x) v in
        subst (λ q. DoneAlike apart r o (changed_global m g (change_of c q (renamed r x)) w)) (sym (global_renamed apart r m g (Bits 0) v w h))
        (subst (λ k. DoneAlike apart r o (changed_global m g k w)) (sym (change_renamed r c (global_or m g (Bits 0) v) x)) (changed_by g (change_of c (global_or m g (Bits 0) v) x) v w h))

  field_same : (n i : ℕ) (x : Slot) (o p : Tried) → TriedSame apart r o p → DoneSame apart r (or_else o (Fails Tally) (stored_field n i x)) (or_else p (Fails Tally) (stored_field (r.to n) i (renamed r x)))
  field_same n i x (Yes v) (Yes w) h = (
    refl,
    subst (λ q. AlikeUpTo apart r (give (field_or n i x v) (field_put n i x v)) (give q (field_put (r.to n) i (renamed r x) w))) (sym (field_renamed apart r n i x v w h))
        (give_alike apart r (field_or n i x v) _ _ (field_alike apart r n i x v w h)),
  )
  field_same n i x (Yes v) (No w) h = absurd h
  field_same n i x (No v) (Yes w) h = absurd h
  field_same n i x (No v) (No w) h = (refl, h)

  field_leaves : (n i : ℕ) (x : Slot) (o : Tried) → TriedLeaves apart o → DoneLeaves apart (or_else o (Fails Tally) (stored_field n i x))
  field_leaves n i x (Yes w) h = absurd h
  field_leaves n i x (No w) h = h

  may_store : (b : Bool) (n i : ℕ) (x : Slot) (v w : World) → AlikeUpTo apart r v w
      → DoneAlike apart r (cond b (or_else (hold x v) (Fails Tally) (stored_field n i x)) (Fails Null v)) (cond b (or_else (hold (renamed r x) w) (Fails Tally) (stored_field (r.to n) i (renamed r x))) (Fails Null w))
  may_store true n i x v w h = three (λ s. inl (field_same n i x _ _ s)) (λ l. inr (inl (field_leaves n i x _ l))) (λ l. inr (inr (field_leaves (r.to n) i (renamed r x) _ l))) (hold_alike apart r x v w h)
  may_store false n i x v w h = inl (refl, h)

  field_set_alike : (n i : ℕ) (x : Slot) (v w : World) → AlikeUpTo apart r v w
      → DoneAlike apart r (cond (may_take n x v) (or_else (hold x v) (Fails Tally) (stored_field n i x)) (Fails Null v)) (cond (may_take (r.to n) (renamed r x) w) (or_else (hold (renamed r x) w) (Fails Tally) (stored_field (r.to n) i (renamed r x))) (Fails Null w))
  field_set_alike n i x v w h =
      subst (λ b. DoneAlike apart r (cond (may_take n x v) (or_else (hold x v) (Fails Tally) (stored_field n i x)) (Fails Null v)) (cond b (or_else (hold (renamed r x) w) (Fails Tally) (stored_field (r.to n) i (renamed r x))) (Fails Null w)))
      (sym (takes_renamed apart r n x v w h)) (may_store (may_take n x v) n i x v w h)

  field_changed_by : (n i : ℕ) (c : Changed) (v w : World) → AlikeUpTo apart r v w → DoneAlike apart r (changed_field n i c v) (changed_field (r.to n) i c w)
  field_changed_by n i (Into stored given) v w h = inl (refl, field_alike apart r n i (Bits stored) v w h)
  field_changed_by n i (Never f) v w h = inl (refl, h)

  field_changed : (n i : ℕ) (c : Update) (x : Slot) (v w : World) → AlikeUpTo apart r v w
      → DoneAlike apart r (changed_field n i (change_of c (field_or n i (Bits 0) v) x) v) (changed_field (r.to n) i (change_of c (field_or (r.to n) i (Bits 0) w) (renamed r x)) w)
  field_changed n i c x v w h =
      let o = changed_field n i (change_of c (field_or n i (Bits 0) v) x) v in
      subst (λ q. DoneAlike apart r o (changed_field (r.to n) i (change_of c q (renamed r x)) w)) (sym (field_renamed apart r n i (Bits 0) v w h))
      (subst (λ k. DoneAlike apart r o (changed_field (r.to n) i k w)) (sym (change_renamed r c (field_or n i (Bits 0) v) x)) (field_changed_by n i (change_of c (field_or n i (Bits 0) v) x) v w h))

  under_renamed : (z : Environment) (m c : ℕ) (o : Option ScriptRecord) → is_under z m c (renamed_record r o) ≡ is_under z m c o
  under_renamed z m c None = refl
  under_renamed z m c (Some o) = refl

  cast_by : (b : Bool) (n : ℕ) (v w : World) → AlikeUpTo apart r v w → DoneAlike apart r (cast_to b n v) (cast_to b (r.to n) w)
  cast_by true n v w h = inl (refl, h)
  cast_by false n v w h = inl (refl, give_alike apart r (Script (Some n)) v w h)

  cast_alike : (z : Environment) (m c n : ℕ) (v w : World) → AlikeUpTo apart r v w → DoneAlike apart r (cast_to (is_under z m c (map.get v.objects n)) n v) (cast_to (is_under z m c (map.get w.objects (r.to n))) (r.to n) w)
  cast_alike z m c n v w h =
      subst (λ b. DoneAlike apart r (cast_to (is_under z m c (map.get v.objects n)) n v) (cast_to b (r.to n) w))
      (sym (ap (is_under z m c) (h.objects.has n) ∙ under_renamed z m c (map.get v.objects n))) (cast_by (is_under z m c (map.get v.objects n)) n v w h)

  -- ---- all operations

  module _ (z : Environment) (m : ℕ) (s : List Slot) (v w : World) (counted : IsCounted s v) (h : AlikeUpTo apart r v w) where
    -- nothing is asked, and the world stays
    as_it_is : (o p : Done) → DoneSame apart r o p → OneAlike apart r s o p
    as_it_is o p d = kept s o p (inl d)

    misfit : OneAlike apart r s (Fails Null v) (Fails Null w)
    misfit = kept s _ _ (inl (refl, h))

    pub perform_alike : (o : Operation) (vs : List Slot) → OneAlike apart r s (perform z m o vs v) (perform z m o (renamed_all r vs) w)
    unfolding perform
    perform_alike (Binary a p) [] = misfit
    perform_alike (Binary a p) (Bits y ∷ []) = misfit
    perform_alike (Binary a p) (Bits y ∷ (Bits x ∷ [])) = kept s _ _ (work_alike (binary_result a p x y) v w h)
    perform_alike (Binary a p) (Bits y ∷ (Bits x ∷ (u ∷ us))) = misfit
    perform_alike (Binary a p) (Bits y ∷ (Script j ∷ us)) = misfit
    perform_alike (Binary a p) (Bits y ∷ (Host d j ∷ us)) = misfit
    perform_alike (Binary a p) (Script j ∷ us) = misfit
    perform_alike (Binary a p) (Host d j ∷ us) = misfit
    perform_alike (Compare c signed) [] = misfit
    perform_alike (Compare c signed) (Bits y ∷ []) = misfit
    perform_alike (Compare c signed) (Bits y ∷ (Bits x ∷ [])) = kept s _ _ (inl (refl, h))
    perform_alike (Compare c signed) (Bits y ∷ (Bits x ∷ (u ∷ us))) = misfit
    perform_alike (Compare c signed) (Bits y ∷ (Script j ∷ us)) = misfit
    perform_alike (Compare c signed) (Bits y ∷ (Host d j ∷ us)) = misfit
    perform_alike (Compare c signed) (Script j ∷ us) = misfit
    perform_alike (Compare c signed) (Host d j ∷ us) = misfit
    perform_alike (Convert p) [] = misfit
    perform_alike (Convert p) (Bits x ∷ []) = kept s _ _ (inl (refl, h))
    perform_alike (Convert p) (Bits x ∷ (u ∷ us)) = misfit
    perform_alike (Convert p) (Script j ∷ us) = misfit
    perform_alike (Convert p) (Host d j ∷ us) = misfit
    perform_alike (Negate p) [] = misfit
    perform_alike (Negate p) (Bits x ∷ []) = kept s _ _ (inl (refl, h))
    perform_alike (Negate p) (Bits x ∷ (u ∷ us)) = misfit
    perform_alike (Negate p) (Script j ∷ us) = misfit
    perform_alike (Negate p) (Host d j ∷ us) = misfit
    perform_alike (Complement p) [] = misfit
    perform_alike (Complement p) (Bits x ∷ []) = kept s _ _ (inl (refl, h))
    perform_alike (Complement p) (Bits x ∷ (u ∷ us)) = misfit
    perform_alike (Complement p) (Script j ∷ us) = misfit
    perform_alike (Complement p) (Host d j ∷ us) = misfit
    perform_alike Not [] = misfit
    perform_alike Not (Bits x ∷ []) = kept s _ _ (inl (refl, h))
    perform_alike Not (Bits x ∷ (u ∷ us)) = misfit
    perform_alike Not (Script j ∷ us) = misfit
    perform_alike Not (Host d j ∷ us) = misfit
    perform_alike Same [] = misfit
    perform_alike Same (y ∷ []) = misfit
    perform_alike Same (y ∷ (x ∷ [])) = kept s _ _ (inl (ap (λ b. Bits (truth b)) (same_renamed r x y), give_alike apart r x _ _ (give_alike apart r y v w h)))
    perform_alike Same (y ∷ (x ∷ (u ∷ us))) = misfit
    perform_alike (GlobalGet g) [] = kept s _ _ (holding_alike apart r (global_or m g (Bits 0) v) (global_or m g (Bits 0) w) v w (global_renamed apart r m g (Bits 0) v w h) h)
    perform_alike (GlobalGet g) (x ∷ vs) = misfit
    perform_alike (GlobalSet g) [] = misfit
    perform_alike (GlobalSet g) (x ∷ []) = kept s _ _ (stored_alike m g x v w h)
    perform_alike (GlobalSet g) (x ∷ (u ∷ us)) = misfit
    perform_alike (GlobalChange c g) [] = misfit
    perform_alike (GlobalChange c g) (x ∷ []) = kept s _ _ (changed_alike m g c x v w h)
    perform_alike (GlobalChange c g) (x ∷ (u ∷ us)) = misfit
    perform_alike (Ask e) vs = kept s _ _ (gives_alike vs _ _ (called_alike z m e vs v w h))
    perform_alike (Read e) vs = kept s _ _ (gives_alike vs _ _ (read_alike z m e vs v w h))
    perform_alike (Write e) [] = misfit
    perform_alike (Write e) (x ∷ []) = kept s _ _ (in_place_alike x _ _ (write_alike z m e [] x v w h))
    perform_alike (Write e) (o ∷ (x ∷ [])) = kept s _ _ (gives_alike (o ∷ []) _ _ (in_place_alike x _ _ (write_alike z m e (o ∷ []) x v w h)))
    perform_alike (Write e) (o ∷ (x ∷ (u ∷ us))) = misfit
    perform_alike (Alter e c) [] = misfit
    perform_alike (Alter e c) (x ∷ []) = kept s _ _ (altered_alike z m e [] c x v w h)
    perform_alike (Alter e c) (o ∷ (x ∷ [])) = kept s _ _ (gives_alike (o ∷ []) _ _ (altered_alike z m e (o ∷ []) c x v w h))
    perform_alike (Alter e c) (o ∷ (x ∷ (u ∷ us))) = misfit
    perform_alike (Make c) [] =
        if_may_make (may_make (class_at z m c) v) (may_make (class_at z m c) w) s v w _ _ (may_make_alike apart r (class_at z m c) v w h) h
        (made_alike (class_at z m c) s v w counted h)
    perform_alike (Make c) (x ∷ vs) = misfit
    perform_alike (FieldGet i) [] = misfit
    perform_alike (FieldGet i) (Bits x ∷ us) = misfit
    perform_alike (FieldGet i) (Script None ∷ us) = misfit
    perform_alike (FieldGet i) (Script (Some n) ∷ []) = kept s _ _ (gives_alike (Script (Some n) ∷ []) _ _ (holding_alike apart r (field_or n i (Bits 0) v) (field_or (r.to n) i (Bits 0) w) v w (field_renamed apart r n i (Bits 0) v w h) h))
    perform_alike (FieldGet i) (Script (Some n) ∷ (u ∷ us)) = misfit
    perform_alike (FieldGet i) (Host d j ∷ us) = misfit
    perform_alike (FieldSet i) [] = misfit
    perform_alike (FieldSet i) (Bits x ∷ us) = misfit
    perform_alike (FieldSet i) (Script None ∷ us) = misfit
    perform_alike (FieldSet i) (Script (Some n) ∷ []) = misfit
    perform_alike (FieldSet i) (Script (Some n) ∷ (x ∷ [])) = kept s _ _ (gives_alike (Script (Some n) ∷ []) _ _ (field_set_alike n i x v w h))
    perform_alike (FieldSet i) (Script (Some n) ∷ (x ∷ (u ∷ us))) = misfit
    perform_alike (FieldSet i) (Host d j ∷ us) = misfit
    perform_alike (FieldChange c i) [] = misfit
    perform_alike (FieldChange c i) (Bits x ∷ us) = misfit
    perform_alike (FieldChange c i) (Script None ∷ us) = misfit
    perform_alike (FieldChange c i) (Script (Some n) ∷ []) = misfit
    perform_alike (FieldChange c i) (Script (Some n) ∷ (x ∷ [])) = kept s _ _ (gives_alike (Script (Some n) ∷ []) _ _ (field_changed n i c x v w h))
    perform_alike (FieldChange c i) (Script (Some n) ∷ (x ∷ (u ∷ us))) = misfit
    perform_alike (FieldChange c i) (Host d j ∷ us) = misfit
    perform_alike (Cast c) [] = misfit
    perform_alike (Cast c) (Bits x ∷ us) = misfit
    perform_alike (Cast c) (Script None ∷ []) = kept s _ _ (inl (refl, h))
    perform_alike (Cast c) (Script None ∷ (u ∷ us)) = misfit
    perform_alike (Cast c) (Script (Some n) ∷ []) = kept s _ _ (cast_alike z m c n v w h)
    perform_alike (Cast c) (Script (Some n) ∷ (u ∷ us)) = misfit
    perform_alike (Cast c) (Host d j ∷ us) = misfit

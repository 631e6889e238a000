-- Faults of operations on operands that fit them, none of which is null where an object is wanted: none is `Null` or `Unbound`.
use Rattle.std.proofs.Common.{◌≡◌, ℕ, zero, suc, List, [], ◌∷◌, Option, Some, None, refl, sym, ap, ◌∙◌, subst}
use Rattle.std.specs.Prelude.{Bool, true, false, cond, ◌&&◌, not, nat_eq, int_le, ℤ, pos, negsuc, reverse, slice_index_or}
use Rattle.std.specs.FinMap as map
use Rattle.ang_kinds.specs.declared.fault.Fault.{Fault}
use Rattle.ang_kinds.specs.declared.fault.Fault.TheVariants.{Null, DivideOverflow, BadAnswer, Memory, Tally}
use Rattle.ang_kinds.specs.declared.mask.EntityNo.{EntityNo}
use Rattle.ang_kinds.specs.declared.operator.Operator.{Operator}
use Rattle.ang_kinds.specs.declared.operator.Operator.TheVariants.{Add, Subtract, Multiply, Divide, Remainder, BitAnd, BitOr, BitXor, ShiftLeft, ShiftRight, ShiftRightArithmetic}
use Rattle.ang_kinds.specs.declared.primitive.Primitive.{Primitive}
use Rattle.ang_kinds.specs.declared.value.Value.{Value}
use Rattle.ang_host.specs.declared.answer.Made.TheVariants.{Key as MadeKey, Nothing as MadeNothing, Fault as MadeFault, Memory as MadeMemory, Full as MadeFull}
use Rattle.ang_host.specs.declared.answer.Answer.TheVariants.{Void, Gave, Fault as SaidFault, Memory as SaidMemory, Full}
use Rattle.ang_host.specs.declared.answer.HostReply.{HostReply}
use Rattle.ang_host.specs.declared.answer.HostReply.TheVariants.{Making, Asking}
use Rattle.ang_meaning.specs.declared.class.Class.{Class}
use Rattle.ang_meaning.specs.declared.slot.Slot.{Slot}
use Rattle.ang_meaning.specs.declared.slot.Slot.TheVariants.{Bits, Script, Host}
use Rattle.ang_meaning.specs.declared.host.HostValueType.{HostValueType}
use Rattle.ang_meaning.specs.declared.host.HostValueType.TheVariants.{Nothing, Plain, Handle}
use Rattle.ang_meaning.specs.declared.host.HostUse.{HostUse}
use Rattle.ang_meaning.specs.declared.operation.Operation.{Operation}
use Rattle.ang_meaning.specs.declared.operation.Operation.TheVariants.{Binary, Compare, Convert, Negate, Complement, Not, Same, GlobalGet, GlobalSet, GlobalChange, Ask, Read, Write, Alter, Make, FieldGet, FieldSet, FieldChange, Cast}
use Rattle.ang_meaning.specs.declared.operation.Update.{Update}
use Rattle.ang_meaning.specs.Numbers.{Worked, Is, Cannot, Changed, Into, Never, binary_result, divided, least, converted, changed_to, changed}
use Rattle.ang_meaning.specs.World.{World, ScriptRecord, Input, Room, Said, Tallied, Fresh, Tried, Yes, No, or_else, memory_step, hold, give}
use Rattle.ang_meaning.specs.Environment.{Environment, class_at, use_at, is_null, is_property, is_fit}
use Rattle.ang_meaning.specs.Hosts.{Done, Fine, Fails, holding, accepted, is_void, is_reply_to, may_ask, slot_of, replied_by, asked_from, asked, value_of, values_of}
use Rattle.ang_meaning.specs.Perform.{perform, work_done, change_of, globals_of, global_or, stored_global, changed_global, Receiver, NoReceiver, Of, NullReceiver, key_at, receiver_of, arguments_of, gives_up, called_of, read_of, write_of, in_place_of, altered_to, altered_of, field_of, field_or, may_take, stored_field, changed_field, is_under, cast_to, may_make, made_from}
use Rattle.ang_meaning.specs.Results.{local_at}
use Rattle.ang_source.specs.Meaning.{nothing}
use Rattle.ang_source_typed.specs.Types.{Number, Modules, Owners}
use Rattle.ang_source_typed.specs.TypedProgram.{host_type}
use Rattle.ang_source_typed.specs.Guarded.{Faulting, guard, is_number_type, is_number, is_of_driver, is_of_host, are_of_host, with_receiver, fields_in, has_field, has_global, fits, has_first, has_object}
use Rattle.ang_source_typed.specs.Runs.{named}
use Rattle.ang_source_typed.proofs.Values.{DoneLeads}
use Rattle.ang_source_typed.proofs.Operations.{number_fits}
use Rattle.ang_source_typed.proofs.HostCalls.{read_leads, write_role}

-- ---- tests

pub left_of : (a b : Bool) → (a && b) ≡ true → a ≡ true
left_of true b h = refl
left_of false b h = h

pub right_of : (a b : Bool) → (a && b) ≡ true → b ≡ true
right_of true b h = h
right_of false b h = absurd (let x : ⊥ = cc in x)

not_both : (b : Bool) → b ≡ true → b ≡ false → ⊥
not_both b h k = let x : true ≡ false = sym h ∙ k in cc

global_index : (vs : List Slot) (i : ℕ) → local_at vs i ≡ slice_index_or vs i (Bits 0)
global_index [] i = refl
global_index (v ∷ vs) zero = refl
global_index (v ∷ vs) (suc i) = global_index vs i

-- modules without anything in them
nothing_there : Modules
nothing_there k = record { view = []; program = nothing; is_class = λ c. false; is_constructor = λ b. false }

module _ (n u : Fault) where
  -- ---- faults that have no other name

  abbrev pub done_named : Done → Done
  done_named (Fine v w) = Fine v w
  done_named (Fails f w) = Fails (named n u f) w

  abbrev pub IsKept : Done → Type 0
  IsKept d = done_named d ≡ d

  abbrev IsKeptWork : Worked → Type 0
  IsKeptWork (Is k) = Unit {0}
  IsKeptWork (Cannot f) = named n u f ≡ f

  abbrev pub IsKeptChange : Changed → Type 0
  IsKeptChange (Into stored given) = Unit {0}
  IsKeptChange (Never f) = named n u f ≡ f

  tried_kept : (o : Tried) (refused granted : World → Done) → ((w : World) → IsKept (refused w)) → ((w : World) → IsKept (granted w)) → IsKept (or_else o refused granted)
  tried_kept (No w) refused granted h k = h w
  tried_kept (Yes w) refused granted h k = k w

  if_kept : (b : Bool) (d e : Done) → IsKept d → IsKept e → IsKept (cond b d e)
  if_kept true d e h k = h
  if_kept false d e h k = k

  gives_up_kept : (vs : List Slot) (d : Done) → IsKept d → IsKept (gives_up vs d)
  gives_up_kept vs (Fine v w) h = refl
  gives_up_kept vs (Fails f w) h = h

  in_place_kept : (v : Slot) (d : Done) → IsKept d → IsKept (in_place_of v d)
  in_place_kept v (Fine x w) h = refl
  in_place_kept v (Fails f w) h = h

  holding_kept : (v : Slot) (w : World) → IsKept (holding v w)
  holding_kept v w = tried_kept (hold v w) (Fails Tally) (Fine v) (λ x. refl) (λ x. refl)

  -- ---- numbers

  over_kept : (b : Bool) (k : ℕ) → IsKeptWork (cond b (Cannot DivideOverflow) (Is k))
  over_kept true k = refl
  over_kept false k = tt

  divided_kept : (p : Primitive) (x y r : ℤ) → IsKeptWork (divided p x y r)
  divided_kept p x (pos zero) r = refl
  divided_kept p x (pos (suc k)) r = tt
  divided_kept p x (negsuc zero) r = over_kept (int_le x (least p)) _
  divided_kept p x (negsuc (suc k)) r = tt

  binary_kept : (a : Operator) (p : Primitive) (x y : ℕ) → IsKeptWork (binary_result a p x y)
  unfolding binary_result
  binary_kept Add p x y = tt
  binary_kept Subtract p x y = tt
  binary_kept Multiply p x y = tt
  binary_kept Divide p x y = divided_kept p _ _ _
  binary_kept Remainder p x y = divided_kept p _ _ _
  binary_kept BitAnd p x y = tt
  binary_kept BitOr p x y = tt
  binary_kept BitXor p x y = tt
  binary_kept ShiftLeft p x y = tt
  binary_kept ShiftRight p x y = tt
  binary_kept ShiftRightArithmetic p x y = tt

  work_kept : (r : Worked) (w : World) → IsKeptWork r → IsKept (work_done r w)
  work_kept (Is k) w h = refl
  work_kept (Cannot f) w h = ap (λ x. Fails x w) h

  changed_from : (c : Update) (x : ℕ) (r : Worked) → IsKeptWork r → IsKeptChange (changed_to c x r)
  changed_from c x (Is k) h = tt
  changed_from c x (Cannot f) h = h

  pub change_kept : (c : Update) (x y : Slot) → is_number x ≡ true → is_number y ≡ true → IsKeptChange (change_of c x y)
  unfolding change_of changed
  change_kept c (Bits x) (Bits y) h k = changed_from c x (binary_result c.operator c.at (converted c.at x) y) (binary_kept c.operator c.at (converted c.at x) y)
  change_kept c (Bits x) (Script j) h k = absurd (let e : ⊥ = cc in e)
  change_kept c (Bits x) (Host d j) h k = absurd (let e : ⊥ = cc in e)
  change_kept c (Script j) y h k = absurd (let e : ⊥ = cc in e)
  change_kept c (Host d j) y h k = absurd (let e : ⊥ = cc in e)

  -- ---- host calls

  void_kept : (b : Bool) (w : World) → IsKept (cond b (Fine (Bits 0) w) (Fails BadAnswer w))
  void_kept true w = refl
  void_kept false w = refl

  accepted_kept : (o : Option Slot) (w : World) → IsKept (accepted o w)
  accepted_kept None w = refl
  accepted_kept (Some v) w = holding_kept v w

  replied_kept : (d : ℕ) (result : HostValueType) (r : HostReply) (w : World) → IsKept (replied_by d result r w)
  unfolding replied_by
  replied_kept d result (Making (MadeKey k)) w = refl
  replied_kept d result (Making MadeNothing) w = refl
  replied_kept d result (Making (MadeFault k)) w = refl
  replied_kept d result (Making MadeMemory) w = refl
  replied_kept d result (Making MadeFull) w = refl
  replied_kept d result (Asking Void) w = void_kept (is_void result) w
  replied_kept d result (Asking (Gave v)) w = accepted_kept (slot_of d result v) w
  replied_kept d result (Asking (SaidFault k)) w = refl
  replied_kept d result (Asking SaidMemory) w = refl
  replied_kept d result (Asking Full) w = refl

  module _ (z : Environment) (m : ℕ) (e : EntityNo) where
    abbrev U : HostUse
    U = use_at z m e

    from_kept : (object : Option ℕ) (args : List Value) (result : HostValueType) (is : List Input) (w : World) → IsKept (asked_from z m e object args result is w)
    from_kept object args result [] w = refl
    from_kept object args result (Said r ∷ is) w = if_kept (is_reply_to U.role r) _ (Fails Memory w) (replied_kept U.driver result r _) refl
    from_kept object args result (Room b ∷ is) w = refl
    from_kept object args result (Tallied b ∷ is) w = refl
    from_kept object args result (Fresh k ∷ is) w = refl

    asked_kept : (object : Option ℕ) (args : List Value) (result : HostValueType) (w : World) → IsKept (asked z m e object args result w)
    unfolding asked
    asked_kept object args result w =
        if_kept (may_ask U.role w) _ (Fails Memory w)
        (tried_kept (memory_step w) (Fails Memory) (λ x. asked_from z m e object args result x.inputs x) (λ x. refl) (λ x. from_kept object args result x.inputs x)) refl

    -- it is asked of no object, or of one
    abbrev IsThere : Receiver → Type 0
    IsThere NoReceiver = Unit {0}
    IsThere (Of k) = Unit {0}
    IsThere NullReceiver = ⊥

    called_kept : (r : Receiver) (args : List Slot) (w : World) → IsThere r → IsKept (called_of z m e r args w)
    called_kept NoReceiver args w h = asked_kept None (values_of U.driver U.params args) U.result w
    called_kept (Of k) args w h = asked_kept (Some k) (values_of U.driver U.params args) U.result w
    called_kept NullReceiver args w h = absurd h

    read_kept : (r : Receiver) (w : World) → IsThere r → IsKept (read_of z m e r w)
    read_kept NoReceiver w h = asked_kept None [] U.result w
    read_kept (Of k) w h = asked_kept (Some k) [] U.result w
    read_kept NullReceiver w h = absurd h

    write_kept : (r : Receiver) (v : Slot) (w : World) → IsThere r → IsKept (write_of z m e r v w)
    write_kept NoReceiver v w h = asked_kept None (value_of U.driver U.result v ∷ []) Nothing w
    write_kept (Of k) v w h = asked_kept (Some k) (value_of U.driver U.result v ∷ []) Nothing w
    write_kept NullReceiver v w h = absurd h

    altered_to_kept : (r : Receiver) (x : Slot) (c : Changed) (w : World) → IsThere r → IsKeptChange c → IsKept (altered_to z m e r x c w)
    altered_to_kept r x (Never f) w h k = ap (λ y. Fails y (give x w)) k
    altered_to_kept r x (Into stored given) w h k = in_place_kept (Bits given) (write_of z m e r (Bits stored) w) (write_kept r (Bits stored) w h)

    -- what was read is a number
    abbrev GivesNumber : Done → Type 0
    GivesNumber (Fine v w) = is_number v ≡ true
    GivesNumber (Fails f w) = Unit {0}

    altered_kept : (r : Receiver) (c : Update) (v : Slot) (d : Done) → IsThere r → is_number v ≡ true → GivesNumber d → IsKept d → IsKept (altered_of z m e r c v d)
    altered_kept r c v (Fails f w) h k g p = p
    altered_kept r c v (Fine x w) h k g p = altered_to_kept r x (change_of c x v) w h (change_kept c x v g k)

    -- ---- receivers

    abbrev receiver_by : Bool → ℕ → List Slot → Receiver
    receiver_by b d vs = cond b (key_at d vs) NoReceiver

    at_key : (b : Bool) (k : ℕ) → b ≡ true → IsThere (cond b (Of k) NullReceiver)
    at_key true k h = tt
    at_key false k h = absurd (let x : ⊥ = cc in x)

    -- the receiver is the first value, whatever comes after it
    first_there : (d : ℕ) (o : Slot) (vs : List Slot) → is_of_driver d o ≡ true → not (is_null o) ≡ true → IsThere (key_at d (o ∷ vs))
    unfolding is_null
    first_there d (Bits k) vs h p = absurd (let x : ⊥ = cc in x)
    first_there d (Script None) vs h p = absurd (let x : ⊥ = cc in x)
    first_there d (Script (Some k)) vs h p = absurd (let x : ⊥ = cc in x)
    first_there d (Host c None) vs h p = absurd (let x : ⊥ = cc in x)
    first_there d (Host c (Some k)) vs h p = at_key (nat_eq d c) k h

    first_gone : (d : ℕ) (o : Slot) (vs : List Slot) → not (is_null o) ≡ false → key_at d (o ∷ vs) ≡ NullReceiver
    unfolding is_null
    first_gone d (Bits k) vs p = refl
    first_gone d (Script k) vs p = refl
    first_gone d (Host c None) vs p = refl
    first_gone d (Host c (Some k)) vs p = absurd (let x : ⊥ = cc in x)

    there : (b : Bool) (d : ℕ) (types : List HostValueType) (vs : List Slot) → are_of_host d (with_receiver b types) vs ≡ true → has_first b vs ≡ true → IsThere (receiver_by b d vs)
    there false d types vs h p = tt
    there true d types [] h p = absurd (let x : ⊥ = cc in x)
    there true d types (o ∷ vs) h p = first_there d o vs (left_of (is_of_driver d o) (are_of_host d types vs) h) p

    gone : (b : Bool) (d : ℕ) (vs : List Slot) → has_first b vs ≡ false → receiver_by b d vs ≡ NullReceiver
    gone false d vs p = absurd (let x : ⊥ = cc in x)
    gone true d [] p = refl
    gone true d (o ∷ vs) p = first_gone d o vs p

    -- ---- what is written

    no_value : (b : Bool) (d : ℕ) (ty : HostValueType) → are_of_host d (with_receiver b (ty ∷ [])) [] ≡ true → ⊥
    no_value true d ty h = let x : ⊥ = cc in x
    no_value false d ty h = let x : ⊥ = cc in x

    -- a value alone is written into what is of no object
    abbrev IsAlone : Bool → ℕ → HostValueType → Slot → Type 0
    IsAlone b d ty v = IsThere (receiver_by b d []) × (has_first b (v ∷ []) ≡ true) × (is_of_host d ty v ≡ true)

    alone : (b : Bool) (d : ℕ) (ty : HostValueType) (v : Slot) → are_of_host d (with_receiver b (ty ∷ [])) (v ∷ []) ≡ true → IsAlone b d ty v
    alone true d ty v h = absurd (let p : false ≡ true = right_of (is_of_driver d v) false h in let x : ⊥ = cc in x)
    alone false d ty v h = (tt, refl, left_of (is_of_host d ty v) true h)

    -- a value below an object
    abbrev IsBelow : Bool → ℕ → HostValueType → Slot → Slot → Type 0
    IsBelow b d ty o v = (b ≡ true) × (is_of_driver d o ≡ true) × (is_of_host d ty v ≡ true)

    below : (b : Bool) (d : ℕ) (ty : HostValueType) (o v : Slot) → are_of_host d (with_receiver b (ty ∷ [])) (o ∷ v ∷ []) ≡ true → IsBelow b d ty o v
    below true d ty o v h =
        (refl, left_of (is_of_driver d o) (is_of_host d ty v && true) h, left_of (is_of_host d ty v) true (right_of (is_of_driver d o) (is_of_host d ty v && true) h))
    below false d ty o v h = absurd (let p : false ≡ true = right_of (is_of_host d ty o) false h in let x : ⊥ = cc in x)

    too_many : (b : Bool) (d : ℕ) (ty : HostValueType) (o v x : Slot) (vs : List Slot) → are_of_host d (with_receiver b (ty ∷ [])) (o ∷ v ∷ x ∷ vs) ≡ true → ⊥
    too_many true d ty o v x vs h =
        let p : false ≡ true = right_of (is_of_host d ty v) false (right_of (is_of_driver d o) (is_of_host d ty v && false) h) in let q : ⊥ = cc in q
    too_many false d ty o v x vs h = let p : false ≡ true = right_of (is_of_host d ty o) false h in let q : ⊥ = cc in q

    number_of : (d : ℕ) (ty : HostValueType) (v : Slot) → is_number_type ty ≡ true → is_of_host d ty v ≡ true → is_number v ≡ true
    number_of d Nothing v h k = k
    number_of d (Plain p) v h k = k
    number_of d Handle v h k = absurd (let x : ⊥ = cc in x)

  -- ---- operations

  -- where what is wanted is there, no fault has another name; where it is null, the fault is `Null`
  pub object_named : (b : Bool) (d : Done) (w : World) → (b ≡ true → IsKept d) → (b ≡ false → d ≡ Fails Null w) → guard (Faulting n) b d (λ x. Fails x w) ≡ done_named d
  object_named true d w h k = sym (h refl)
  object_named false d w h k = sym (ap done_named (k refl))

  -- no object is wanted
  always_named : (d : Done) (w : World) → IsKept d → guard (Faulting n) true d (λ x. Fails x w) ≡ done_named d
  always_named d w h = sym h

  module _ (z : Environment) (m : ℕ) where
    -- where the operands of an operation fit it
    abbrev pub IsNamed : Operation → List Slot → World → Type 0
    IsNamed o vs w = guard (Faulting n) (has_object z m o vs) (perform z m o vs w) (λ x. Fails x w) ≡ done_named (perform z m o vs w)

    -- ---- numbers and handles

    binary_named : (a : Operator) (p : Primitive) (vs : List Slot) (w : World) → fits z m (Binary a p) vs w ≡ true → IsNamed (Binary a p) vs w
    unfolding perform fits has_object
    binary_named a p [] w h = absurd (let x : ⊥ = cc in x)
    binary_named a p (y ∷ []) w h = absurd (let x : ⊥ = cc in x)
    binary_named a p (Bits y ∷ Bits x ∷ []) w h = always_named _ w (work_kept (binary_result a p x y) w (binary_kept a p x y))
    binary_named a p (Bits y ∷ Script j ∷ []) w h = absurd (let x : ⊥ = cc in x)
    binary_named a p (Bits y ∷ Host d j ∷ []) w h = absurd (let x : ⊥ = cc in x)
    binary_named a p (Script j ∷ x ∷ []) w h = absurd (let x : ⊥ = cc in x)
    binary_named a p (Host d j ∷ x ∷ []) w h = absurd (let x : ⊥ = cc in x)
    binary_named a p (y ∷ x ∷ v ∷ vs) w h = absurd (let x : ⊥ = cc in x)

    compare_named : (c : _) (signed : Bool) (vs : List Slot) (w : World) → fits z m (Compare c signed) vs w ≡ true → IsNamed (Compare c signed) vs w
    unfolding perform fits has_object
    compare_named c signed [] w h = absurd (let x : ⊥ = cc in x)
    compare_named c signed (y ∷ []) w h = absurd (let x : ⊥ = cc in x)
    compare_named c signed (Bits y ∷ Bits x ∷ []) w h = refl
    compare_named c signed (Bits y ∷ Script j ∷ []) w h = absurd (let x : ⊥ = cc in x)
    compare_named c signed (Bits y ∷ Host d j ∷ []) w h = absurd (let x : ⊥ = cc in x)
    compare_named c signed (Script j ∷ x ∷ []) w h = absurd (let x : ⊥ = cc in x)
    compare_named c signed (Host d j ∷ x ∷ []) w h = absurd (let x : ⊥ = cc in x)
    compare_named c signed (y ∷ x ∷ v ∷ vs) w h = absurd (let x : ⊥ = cc in x)

    convert_named : (p : Primitive) (vs : List Slot) (w : World) → fits z m (Convert p) vs w ≡ true → IsNamed (Convert p) vs w
    unfolding perform fits has_object
    convert_named p [] w h = absurd (let x : ⊥ = cc in x)
    convert_named p (Bits x ∷ []) w h = refl
    convert_named p (Script j ∷ []) w h = absurd (let x : ⊥ = cc in x)
    convert_named p (Host d j ∷ []) w h = absurd (let x : ⊥ = cc in x)
    convert_named p (x ∷ v ∷ vs) w h = absurd (let x : ⊥ = cc in x)

    negate_named : (p : Primitive) (vs : List Slot) (w : World) → fits z m (Negate p) vs w ≡ true → IsNamed (Negate p) vs w
    unfolding perform fits has_object
    negate_named p [] w h = absurd (let x : ⊥ = cc in x)
    negate_named p (Bits x ∷ []) w h = refl
    negate_named p (Script j ∷ []) w h = absurd (let x : ⊥ = cc in x)
    negate_named p (Host d j ∷ []) w h = absurd (let x : ⊥ = cc in x)
    negate_named p (x ∷ v ∷ vs) w h = absurd (let x : ⊥ = cc in x)

    complement_named : (p : Primitive) (vs : List Slot) (w : World) → fits z m (Complement p) vs w ≡ true → IsNamed (Complement p) vs w
    unfolding perform fits has_object
    complement_named p [] w h = absurd (let x : ⊥ = cc in x)
    complement_named p (Bits x ∷ []) w h = refl
    complement_named p (Script j ∷ []) w h = absurd (let x : ⊥ = cc in x)
    complement_named p (Host d j ∷ []) w h = absurd (let x : ⊥ = cc in x)
    complement_named p (x ∷ v ∷ vs) w h = absurd (let x : ⊥ = cc in x)

    not_named : (vs : List Slot) (w : World) → fits z m Not vs w ≡ true → IsNamed Not vs w
    unfolding perform fits has_object
    not_named [] w h = absurd (let x : ⊥ = cc in x)
    not_named (Bits x ∷ []) w h = refl
    not_named (Script j ∷ []) w h = absurd (let x : ⊥ = cc in x)
    not_named (Host d j ∷ []) w h = absurd (let x : ⊥ = cc in x)
    not_named (x ∷ v ∷ vs) w h = absurd (let x : ⊥ = cc in x)

    same_named : (vs : List Slot) (w : World) → fits z m Same vs w ≡ true → IsNamed Same vs w
    unfolding perform fits has_object
    same_named [] w h = absurd (let x : ⊥ = cc in x)
    same_named (y ∷ []) w h = absurd (let x : ⊥ = cc in x)
    same_named (y ∷ x ∷ []) w h = refl
    same_named (y ∷ x ∷ v ∷ vs) w h = absurd (let x : ⊥ = cc in x)

    cast_kept : (b : Bool) (k : ℕ) (w : World) → IsKept (cast_to b k w)
    cast_kept true k w = refl
    cast_kept false k w = refl

    cast_named : (c : ℕ) (vs : List Slot) (w : World) → fits z m (Cast c) vs w ≡ true → IsNamed (Cast c) vs w
    unfolding perform fits has_object
    cast_named c [] w h = absurd (let x : ⊥ = cc in x)
    cast_named c (Bits x ∷ []) w h = absurd (let x : ⊥ = cc in x)
    cast_named c (Script None ∷ []) w h = refl
    cast_named c (Script (Some k) ∷ []) w h = always_named _ w (cast_kept (is_under z m c (map.get w.objects k)) k w)
    cast_named c (Host d j ∷ []) w h = absurd (let x : ⊥ = cc in x)
    cast_named c (x ∷ v ∷ vs) w h = absurd (let x : ⊥ = cc in x)

    -- ---- globals

    get_global_named : (g : ℕ) (vs : List Slot) (w : World) → fits z m (GlobalGet g) vs w ≡ true → IsNamed (GlobalGet g) vs w
    unfolding perform fits has_object
    get_global_named g [] w h = always_named _ w (holding_kept (global_or m g (Bits 0) w) w)
    get_global_named g (v ∷ vs) w h = absurd (let x : ⊥ = cc in x)

    set_global_named : (g : ℕ) (vs : List Slot) (w : World) → fits z m (GlobalSet g) vs w ≡ true → IsNamed (GlobalSet g) vs w
    unfolding perform fits has_object
    set_global_named g [] w h = absurd (let x : ⊥ = cc in x)
    set_global_named g (v ∷ []) w h = always_named _ w (tried_kept (hold v w) (Fails Tally) (stored_global m g v) (λ x. refl) (λ x. refl))
    set_global_named g (v ∷ x ∷ vs) w h = absurd (let x : ⊥ = cc in x)

    changed_global_kept : (g : ℕ) (c : Changed) (w : World) → IsKeptChange c → IsKept (changed_global m g c w)
    changed_global_kept g (Into stored given) w h = refl
    changed_global_kept g (Never f) w h = ap (λ x. Fails x w) h

    change_global_named : (c : Update) (g : ℕ) (vs : List Slot) (w : World) → fits z m (GlobalChange c g) vs w ≡ true → IsNamed (GlobalChange c g) vs w
    unfolding perform fits has_object global_or
    change_global_named c g [] w h = absurd (let x : ⊥ = cc in x)
    change_global_named c g (v ∷ []) w h =
        let x = local_at (globals_of m w) g in
        let both = right_of (has_global m g w) (is_number x && is_number v) h in
        let number = subst (λ s. is_number s ≡ true) (global_index (globals_of m w) g) (left_of (is_number x) (is_number v) both) in
        always_named _ w (changed_global_kept g (change_of c (slice_index_or (globals_of m w) g (Bits 0)) v) w
        (change_kept c (slice_index_or (globals_of m w) g (Bits 0)) v number (right_of (is_number x) (is_number v) both)))
    change_global_named c g (v ∷ x ∷ vs) w h = absurd (let x : ⊥ = cc in x)

    -- ---- objects

    made_kept : (c : Class) (is : List Input) (w : World) → IsKept (made_from c is w)
    made_kept c [] w = refl
    made_kept c (Room b ∷ is) w = refl
    made_kept c (Said r ∷ is) w = refl
    made_kept c (Tallied b ∷ is) w = refl
    made_kept c (Fresh k ∷ is) w = refl

    make_named : (c : ℕ) (vs : List Slot) (w : World) → fits z m (Make c) vs w ≡ true → IsNamed (Make c) vs w
    unfolding perform fits has_object
    make_named c [] w h =
        always_named _ w
        (if_kept (may_make (class_at z m c) w) _ (Fails Memory w)
        (tried_kept (memory_step w) (Fails Memory) (λ x. made_from (class_at z m c) x.inputs x) (λ x. refl) (λ x. made_kept (class_at z m c) x.inputs x)) refl)
    make_named c (v ∷ vs) w h = absurd (let x : ⊥ = cc in x)

    get_field_named : (i : ℕ) (vs : List Slot) (w : World) → fits z m (FieldGet i) vs w ≡ true → IsNamed (FieldGet i) vs w
    unfolding perform fits has_object is_null
    get_field_named i [] w h = absurd (let x : ⊥ = cc in x)
    get_field_named i (Bits x ∷ []) w h = absurd (let x : ⊥ = cc in x)
    get_field_named i (Script None ∷ []) w h = refl
    get_field_named i (Script (Some k) ∷ []) w h =
        always_named _ w (gives_up_kept (Script (Some k) ∷ []) (holding (field_or k i (Bits 0) w) w) (holding_kept (field_or k i (Bits 0) w) w))
    get_field_named i (Host d j ∷ []) w h = absurd (let x : ⊥ = cc in x)
    get_field_named i (x ∷ v ∷ vs) w h = absurd (let x : ⊥ = cc in x)

    taken_kept : (b : Bool) (d : Done) (w : World) → b ≡ true → IsKept d → IsKept (cond b d (Fails Null w))
    taken_kept true d w h k = k
    taken_kept false d w h k = absurd (let x : ⊥ = cc in x)

    set_field_named : (i : ℕ) (vs : List Slot) (w : World) → fits z m (FieldSet i) vs w ≡ true → IsNamed (FieldSet i) vs w
    unfolding perform fits has_object is_null
    set_field_named i [] w h = absurd (let x : ⊥ = cc in x)
    set_field_named i (o ∷ []) w h = absurd (let x : ⊥ = cc in x)
    set_field_named i (Bits x ∷ v ∷ []) w h = absurd (let x : ⊥ = cc in x)
    set_field_named i (Script None ∷ v ∷ []) w h = refl
    set_field_named i (Script (Some k) ∷ v ∷ []) w h =
        always_named _ w (gives_up_kept (Script (Some k) ∷ []) _ (taken_kept (may_take k v w) _ w (right_of _ (may_take k v w) h)
        (tried_kept (hold v w) (Fails Tally) (stored_field k i v) (λ x. refl) (λ x. refl))))
    set_field_named i (Host d j ∷ v ∷ []) w h = absurd (let x : ⊥ = cc in x)
    set_field_named i (o ∷ v ∷ x ∷ vs) w h = absurd (let x : ⊥ = cc in x)

    changed_field_kept : (k i : ℕ) (c : Changed) (w : World) → IsKeptChange c → IsKept (changed_field k i c w)
    changed_field_kept k i (Into stored given) w h = refl
    changed_field_kept k i (Never f) w h = ap (λ x. Fails x w) h

    field_number : (o : Option ScriptRecord) (i : ℕ) → is_number (local_at (fields_in o) i) ≡ true → is_number (field_of o i (Bits 0)) ≡ true
    field_number None i h = refl
    field_number (Some o) i h = subst (λ s. is_number s ≡ true) (global_index o.fields i) h

    change_field_named : (c : Update) (i : ℕ) (vs : List Slot) (w : World) → fits z m (FieldChange c i) vs w ≡ true → IsNamed (FieldChange c i) vs w
    unfolding perform fits has_object is_null field_or
    change_field_named c i [] w h = absurd (let x : ⊥ = cc in x)
    change_field_named c i (o ∷ []) w h = absurd (let x : ⊥ = cc in x)
    change_field_named c i (Bits x ∷ v ∷ []) w h = absurd (let x : ⊥ = cc in x)
    change_field_named c i (Script None ∷ v ∷ []) w h = refl
    change_field_named c i (Script (Some k) ∷ v ∷ []) w h =
        let object = map.get w.objects k in
        let x = local_at (fields_in object) i in
        let both = right_of (has_field i (Script (Some k)) w) (is_number x && is_number v) h in
        let number = field_number object i (left_of (is_number x) (is_number v) both) in
        always_named _ w (gives_up_kept (Script (Some k) ∷ []) _ (changed_field_kept k i (change_of c (field_of object i (Bits 0)) v) w
        (change_kept c (field_of object i (Bits 0)) v number (right_of (is_number x) (is_number v) both))))
    change_field_named c i (Host d j ∷ v ∷ []) w h = absurd (let x : ⊥ = cc in x)
    change_field_named c i (o ∷ v ∷ x ∷ vs) w h = absurd (let x : ⊥ = cc in x)

    -- ---- the host

    module _ (e : EntityNo) where
      abbrev V : HostUse
      V = use_at z m e

      ask_named : (vs : List Slot) (w : World) → fits z m (Ask e) vs w ≡ true → IsNamed (Ask e) vs w
      unfolding perform fits has_object
      ask_named vs w h =
          let args = arguments_of V (reverse vs) in
          object_named (has_first V.member (reverse vs)) _ w
          (λ p. gives_up_kept vs (called_of z m e (receiver_of V (reverse vs)) args w)
          (called_kept z m e (receiver_of V (reverse vs)) args w (there z m e V.member V.driver V.params (reverse vs) h p)))
          (λ p. ap (λ r. gives_up vs (called_of z m e r args w)) (gone z m e V.member V.driver (reverse vs) p))

      read_named : (vs : List Slot) (w : World) → fits z m (Read e) vs w ≡ true → IsNamed (Read e) vs w
      unfolding perform fits has_object
      read_named vs w h =
          object_named (has_first V.member vs) _ w
          (λ p. gives_up_kept vs (read_of z m e (receiver_of V vs) w) (read_kept z m e (receiver_of V vs) w (there z m e V.member V.driver [] vs h p)))
          (λ p. ap (λ r. gives_up vs (read_of z m e r w)) (gone z m e V.member V.driver vs p))

      -- a receiver below which a value is written
      above : (b : Bool) (d : ℕ) (o v : Slot) → is_of_driver d o ≡ true → has_first b (o ∷ v ∷ []) ≡ true → IsThere z m e (receiver_by z m e b d (o ∷ []))
      above true d o v h p = first_there z m e d o [] h p
      above false d o v h p = tt

      gone_above : (b : Bool) (d : ℕ) (o v : Slot) → has_first b (o ∷ v ∷ []) ≡ false → receiver_by z m e b d (o ∷ []) ≡ NullReceiver
      gone_above true d o v p = first_gone z m e d o [] p
      gone_above false d o v p = absurd (let x : ⊥ = cc in x)

      write_named : (vs : List Slot) (w : World) → fits z m (Write e) vs w ≡ true → IsNamed (Write e) vs w
      unfolding perform fits has_object
      write_named [] w h = absurd (no_value z m e V.member V.driver V.result h)
      write_named (v ∷ []) w h =
          let k = alone z m e V.member V.driver V.result v h in
          object_named (has_first V.member (v ∷ [])) _ w
          (λ p. in_place_kept v (write_of z m e (receiver_of V []) v w) (write_kept z m e (receiver_of V []) v w k.0))
          (λ p. absurd (not_both (has_first V.member (v ∷ [])) k.1 p))
      write_named (o ∷ v ∷ []) w h =
          let k = below z m e V.member V.driver V.result o v h in
          object_named (has_first V.member (o ∷ v ∷ [])) _ w
          (λ p. gives_up_kept (o ∷ []) (in_place_of v (write_of z m e (receiver_of V (o ∷ [])) v w))
          (in_place_kept v (write_of z m e (receiver_of V (o ∷ [])) v w) (write_kept z m e (receiver_of V (o ∷ [])) v w (above V.member V.driver o v k.1 p))))
          (λ p. ap (λ r. gives_up (o ∷ []) (in_place_of v (write_of z m e r v w))) (gone_above V.member V.driver o v p))
      write_named (o ∷ v ∷ x ∷ vs) w h = absurd (too_many z m e V.member V.driver V.result o v x vs h)

      host_number : (d : ℕ) (ty : HostValueType) → is_number_type ty ≡ true → host_type d ty ≡ Number
      host_number d Nothing h = refl
      host_number d (Plain p) h = refl
      host_number d Handle h = absurd (let x : ⊥ = cc in x)

      gives_number : (own : Owners) (w : World) (d : Done) → DoneLeads z nothing_there own Number w d → GivesNumber z m e d
      gives_number own w (Fine v x) h = number_fits z nothing_there own x.objects v h.0
      gives_number own w (Fails f x) h = tt

      number_read : (r : Receiver) (w : World) → is_property V.role ≡ true → is_number_type V.result ≡ true → GivesNumber z m e (read_of z m e r w)
      number_read r w h k =
          gives_number (λ x. 0) w (read_of z m e r w)
          (subst (λ ty. DoneLeads z nothing_there (λ x. 0) ty w (read_of z m e r w)) (host_number V.driver V.result k) (read_leads z nothing_there m e (λ x. 0) r w h))

      property_kept : (r : Receiver) (c : Update) (v : Slot) (w : World) → is_property V.role ≡ true → is_number_type V.result ≡ true → is_of_host V.driver V.result v ≡ true → IsThere z m e r
          → IsKept (altered_of z m e r c v (read_of z m e r w))
      property_kept r c v w p k h t =
          altered_kept z m e r c v (read_of z m e r w) t (number_of z m e V.driver V.result v k h) (number_read r w p k) (read_kept z m e r w t)

      alter_named : (c : Update) (vs : List Slot) (w : World) → is_property V.role ≡ true → fits z m (Alter e c) vs w ≡ true → IsNamed (Alter e c) vs w
      unfolding perform fits has_object
      alter_named c [] w q h = absurd (no_value z m e V.member V.driver V.result (right_of (is_number_type V.result) _ h))
      alter_named c (v ∷ []) w q h =
          let number = left_of (is_number_type V.result) _ h in
          let k = alone z m e V.member V.driver V.result v (right_of (is_number_type V.result) _ h) in
          object_named (has_first V.member (v ∷ [])) _ w (λ p. property_kept (receiver_of V []) c v w q number k.2 k.0)
          (λ p. absurd (not_both (has_first V.member (v ∷ [])) k.1 p))
      alter_named c (o ∷ v ∷ []) w q h =
          let number = left_of (is_number_type V.result) _ h in
          let k = below z m e V.member V.driver V.result o v (right_of (is_number_type V.result) _ h) in
          object_named (has_first V.member (o ∷ v ∷ [])) _ w
          (λ p. gives_up_kept (o ∷ []) _ (property_kept (receiver_of V (o ∷ [])) c v w q number k.2 (above V.member V.driver o v k.1 p)))
          (λ p. ap (λ r. gives_up (o ∷ []) (altered_of z m e r c v (read_of z m e r w))) (gone_above V.member V.driver o v p))
      alter_named c (o ∷ v ∷ x ∷ vs) w q h = absurd (too_many z m e V.member V.driver V.result o v x vs (right_of (is_number_type V.result) _ h))

    pub perform_named : (o : Operation) (vs : List Slot) (w : World) → is_fit z m o ≡ true → fits z m o vs w ≡ true → IsNamed o vs w
    unfolding is_fit
    perform_named (Binary a p) vs w k h = binary_named a p vs w h
    perform_named (Compare c signed) vs w k h = compare_named c signed vs w h
    perform_named (Convert p) vs w k h = convert_named p vs w h
    perform_named (Negate p) vs w k h = negate_named p vs w h
    perform_named (Complement p) vs w k h = complement_named p vs w h
    perform_named Not vs w k h = not_named vs w h
    perform_named Same vs w k h = same_named vs w h
    perform_named (GlobalGet g) vs w k h = get_global_named g vs w h
    perform_named (GlobalSet g) vs w k h = set_global_named g vs w h
    perform_named (GlobalChange c g) vs w k h = change_global_named c g vs w h
    perform_named (Ask e) vs w k h = ask_named e vs w h
    perform_named (Read e) vs w k h = read_named e vs w h
    perform_named (Write e) vs w k h = write_named e vs w h
    perform_named (Alter e c) vs w k h = alter_named e c vs w (write_role z nothing_there m e (z.host m e.0) k) h
    perform_named (Make c) vs w k h = make_named c vs w h
    perform_named (FieldGet i) vs w k h = get_field_named i vs w h
    perform_named (FieldSet i) vs w k h = set_field_named i vs w h
    perform_named (FieldChange c i) vs w k h = change_field_named c i vs w h
    perform_named (Cast c) vs w k h = cast_named c vs w h

-- Types of places stay while values are held and given up, and what the host gives is of its declared type.
use Rattle.std.proofs.Common.{◌≡◌, ℕ, zero, suc, ◌<◌, List, [], ◌∷◌, ◌++◌, length, Option, Some, None, refl, sym, ap, ◌∙◌, subst, unwrap_or, arith}
use Rattle.std.specs.Prelude.{Bool, true, false, cond, slice_get, slice_set, slice_index_or}
use Rattle.std.specs.FinMap as map
use Rattle.ang_kinds.specs.declared.value.Value.{Value}
use Rattle.ang_kinds.specs.declared.value.Value.TheVariants.{Int, Uint, Bool as Truth, Key as KeyValue}
use Rattle.ang_kinds.specs.declared.primitive.Primitive.TheVariants.{I8, I16, I32, I64, U8, U16, U32, U64, Bool as TruthType}
use Rattle.ang_kinds.specs.declared.mask.EntityNo.{EntityNo}
use Rattle.ang_kinds.specs.declared.fault.Fault.{Fault}
use Rattle.ang_kinds.specs.declared.fault.Fault.TheVariants.{Memory, Tally}
use Rattle.ang_host.specs.declared.answer.Made.TheVariants.{Key as MadeKey, Nothing as MadeNothing, Fault as MadeFault, Memory as MadeMemory, Full as MadeFull}
use Rattle.ang_host.specs.declared.answer.Answer.TheVariants.{Void, Gave, Fault as SaidFault, Memory as SaidMemory, Full}
use Rattle.ang_host.specs.declared.answer.HostReply.{HostReply}
use Rattle.ang_host.specs.declared.answer.HostReply.TheVariants.{Making as MakingReply, Asking}
use Rattle.ang_host.specs.declared.event.HostEvent.TheVariants.{Called}
use Rattle.ang_host.specs.declared.event.Role.{Role}
use Rattle.ang_host.specs.declared.event.Role.TheVariants.{Making, Calling, Property}
use Rattle.ang_meaning.specs.declared.slot.Slot.{Slot}
use Rattle.ang_meaning.specs.declared.slot.Slot.TheVariants.{Bits, Script, Host}
use Rattle.ang_meaning.specs.declared.host.HostValueType.{HostValueType}
use Rattle.ang_meaning.specs.declared.host.HostValueType.TheVariants.{Nothing, Plain, Handle}
use Rattle.ang_meaning.specs.World.{World, ScriptRecord, ScriptObjects, Input, Room, Said, Tallied, Fresh, with_inputs, if_told, Tried, Yes, No, HoldLimit, Inside, AtEnd, OfDriver, hold_limit_of, refused_at, tally_told, memory_told, memory_step, tally_step, or_else, hold, one_more, give, give_all}
use Rattle.ang_meaning.specs.Environment.{Environment, class_in, use_at}
use Rattle.ang_meaning.specs.Hosts.{Done, Fine, Fails, holding, accepted, if_within, is_void, slot_of, one_reserved, replied_by, is_reply_to, may_ask, asked_from, asked}
use Rattle.ang_meaning.specs.Perform.{gives_up, in_place_of}
use Rattle.ang_meaning.proofs.Counting.{more_globals, give_globals}
use Rattle.ang_meaning.proofs.Typed.{AreKept, TriedKept, kept_same, kept_then, more_kept, give_kept_all, hold_kept}
use Rattle.ang_source_typed.specs.Types.{SlotType, Number, Key, Family, Modules, Owners, IsUnder, IsA, HasType, AllTyped, IsTypedObject, IsTypedWorld, field_types, global_types}
use Rattle.ang_source_typed.specs.TypedProgram.{AreClasses, host_type, result_by}

-- ---- what is later

-- an object of a later table was in the earlier one, of the same class
pub record Earlier (os : ScriptObjects) (n : ℕ) (o : ScriptRecord) : Type 0 where
  pub old : ScriptRecord
  pub there : map.get os n ≡ Some old
  pub class : old.class ≡ o.class
  pub rank : old.rank ≡ o.rank

abbrev pub SameKinds : ScriptObjects → ScriptObjects → Type 0
SameKinds os later = (n : ℕ) (o : ScriptRecord) → map.get later n ≡ Some o → Earlier os n o

pub kinds_same : (os : ScriptObjects) → SameKinds os os
kinds_same os n o g = record { old = o; there = g; class = refl; rank = refl }

pub kinds_then : (os ps qs : ScriptObjects) → SameKinds os ps → SameKinds ps qs → SameKinds os qs
kinds_then os ps qs h k n o g =
    let b = k n o g in
    let a = h n b.old b.there in
    record { old = a.old; there = a.there; class = a.class ∙ b.class; rank = a.rank ∙ b.rank }

pub kinds_kept : (os later : ScriptObjects) → AreKept os later → SameKinds os later
kinds_kept os later k n o g = let b = k n o g in record { old = b.old; there = b.there; class = b.class; rank = b.rank }

-- nothing was stored
abbrev pub Leads : World → World → Type 0
Leads w u = AreKept w.objects u.objects × (u.globals ≡ w.globals)

abbrev pub TriedLeads : World → Tried → Type 0
TriedLeads w (Yes u) = Leads w u
TriedLeads w (No u) = Leads w u

pub leads_same : (w : World) → Leads w w
leads_same w = (kept_same w.objects, refl)

pub leads_then : (w u x : World) → Leads w u → Leads u x → Leads w x
leads_then w u x h k = (kept_then w.objects u.objects x.objects h.0 k.0, k.1 ∙ h.1)

pub give_leads : (v : Slot) (w : World) → Leads w (give v w)
give_leads v w = (give_kept_all v w, give_globals v w)

pub give_all_leads : (vs : List Slot) (w : World) → Leads w (give_all vs w)
give_all_leads [] w = leads_same w
give_all_leads (v ∷ vs) w = leads_then w (give v w) (give_all vs (give v w)) (give_leads v w) (give_all_leads vs (give v w))

abbrev SameGlobals : World → Tried → Type 0
SameGlobals w (Yes u) = u.globals ≡ w.globals
SameGlobals w (No u) = u.globals ≡ w.globals

refused_globals : (x : HoldLimit) (is : List Input) (w : World) → SameGlobals w (refused_at x is w)
refused_globals Inside is w = refl
refused_globals AtEnd is w = refl
refused_globals OfDriver is w = refl

told_globals : (x : HoldLimit) (is : List Input) (v : Slot) (w : World) → SameGlobals w (or_else (tally_told x is w) No (λ u. Yes (one_more v u)))
told_globals x [] v w = refl
told_globals x (Tallied true ∷ is) v w = more_globals v (with_inputs is w)
told_globals Inside (Tallied false ∷ is) v w = refl
told_globals AtEnd (Tallied false ∷ is) v w = refl
told_globals OfDriver (Tallied false ∷ is) v w = refl
told_globals x (Room b ∷ is) v w = refl
told_globals x (Said r ∷ is) v w = refl
told_globals x (Fresh n ∷ is) v w = refl

hold_globals : (v : Slot) (w : World) → SameGlobals w (hold v w)
unfolding hold tally_step
hold_globals (Bits n) w = more_globals (Bits n) w
hold_globals (Script None) w = more_globals (Script None) w
hold_globals (Script (Some n)) w = told_globals (hold_limit_of (map.get w.objects n)) w.inputs (Script (Some n)) w
hold_globals (Host d None) w = more_globals (Host d None) w
hold_globals (Host d (Some k)) w = told_globals OfDriver w.inputs (Host d (Some k)) w

both_lead : (w : World) (o : Tried) → TriedKept w o → SameGlobals w o → TriedLeads w o
both_lead w (Yes u) k g = (k, g)
both_lead w (No u) k g = (k, g)

pub hold_leads : (v : Slot) (w : World) → TriedLeads w (hold v w)
hold_leads v w = both_lead w (hold v w) (hold_kept v w) (hold_globals v w)

if_leads : (b : Bool) (is : List Input) (w : World) → TriedLeads w (if_told b (with_inputs is w))
if_leads true is w = leads_same w
if_leads false is w = leads_same w

memory_leads_from : (is : List Input) (w : World) → TriedLeads w (memory_told is w)
memory_leads_from [] w = leads_same w
memory_leads_from (Room b ∷ is) w = if_leads b is w
memory_leads_from (Said r ∷ is) w = leads_same w
memory_leads_from (Tallied b ∷ is) w = leads_same w
memory_leads_from (Fresh n ∷ is) w = leads_same w

pub memory_leads : (w : World) → TriedLeads w (memory_step w)
unfolding memory_step
memory_leads w = memory_leads_from w.inputs w

-- ---- types stay

module _ (z : Environment) (ms : Modules) (own : Owners) where
  pub still : (os later : ScriptObjects) (ty : SlotType) (v : Slot) → SameKinds os later → HasType z ms own os ty v → HasType z ms own later ty v
  still os later Number (Bits n) k h = tt
  still os later Number (Script j) k h = h
  still os later Number (Host d j) k h = h
  still os later (Key d) (Bits n) k h = h
  still os later (Key d) (Script None) k h = tt
  still os later (Key d) (Script (Some n)) k h = h
  still os later (Key d) (Host e None) k h = tt
  still os later (Key d) (Host e (Some j)) k h = h
  still os later (Family m c) (Bits n) k h = h
  still os later (Family m c) (Script None) k h = tt
  still os later (Family m c) (Script (Some n)) k h = λ o g.
      let q = k n o g in
      let p = h q.old q.there in
      (p.0, subst (λ x. IsUnder z ms m x c) q.class p.1)
  still os later (Family m c) (Host d j) k h = h

  pub all_still : (os later : ScriptObjects) (types : List SlotType) (vs : List Slot) → SameKinds os later → AllTyped z ms own os types vs → AllTyped z ms own later types vs
  all_still os later [] [] k h = tt
  all_still os later [] (v ∷ vs) k h = h
  all_still os later (ty ∷ types) [] k h = h
  all_still os later (ty ∷ types) (v ∷ vs) k h = (still os later ty v k h.0, all_still os later types vs k h.1)

  object_still : (os later : ScriptObjects) (n : ℕ) (o : ScriptRecord) → AreKept os later → ((p : ScriptRecord) → map.get os n ≡ Some p → IsTypedObject z ms own os n p) → map.get later n ≡ Some o
      → IsTypedObject z ms own later n o
  object_still os later n o k h g =
      let q = k n o g in
      let old = h q.old q.there in
      let kinds = kinds_kept os later k in
      record {
        fields = subst (λ c. AllTyped z ms own later (field_types ms (own n) c) o.fields) q.class
            (subst (λ vs. AllTyped z ms own later (field_types ms (own n) q.old.class) vs) q.fields
            (all_still os later (field_types ms (own n) q.old.class) q.old.fields kinds old.fields));
        rank = sym q.rank ∙ old.rank ∙ ap (λ c. (class_in (z.class (own n) c)).rank) q.class;
        made = subst (λ c. (ms (own n)).is_class c ≡ true) q.class old.made;
      }

  pub leads_world : (w u : World) → Leads w u → IsTypedWorld z ms own w → IsTypedWorld z ms own u
  leads_world w u k h = record {
    objects = λ n o g. object_still w.objects u.objects n o k.0 (h.objects n) g;
    globals = λ m. subst (λ gs. AllTyped z ms own u.objects (global_types ms m) (slice_index_or gs m [])) (sym k.1)
        (all_still w.objects u.objects (global_types ms m) (slice_index_or w.globals m []) (kinds_kept w.objects u.objects k.0) (h.globals m));
  }

  -- ---- ends of operations

  -- other places keep their types, and all objects and globals have theirs
  abbrev pub Moves : World → World → Type 0
  Moves w u = SameKinds w.objects u.objects × IsTypedWorld z ms own u

  pub moves_of : (w u : World) → IsTypedWorld z ms own w → Leads w u → Moves w u
  moves_of w u h k = (kinds_kept w.objects u.objects k.0, leads_world w u k h)

  abbrev pub DoneTyped : SlotType → World → Done → Type 0
  DoneTyped ty w (Fine v u) = HasType z ms own u.objects ty v × Moves w u
  DoneTyped ty w (Fails f u) = Moves w u

  -- the same where nothing was stored
  abbrev pub DoneLeads : SlotType → World → Done → Type 0
  DoneLeads ty w (Fine v u) = HasType z ms own u.objects ty v × Leads w u
  DoneLeads ty w (Fails f u) = Leads w u

  pub done_of : (ty : SlotType) (w : World) (d : Done) → IsTypedWorld z ms own w → DoneLeads ty w d → DoneTyped ty w d
  done_of ty w (Fine v u) h k = (k.0, moves_of w u h k.1)
  done_of ty w (Fails f u) h k = moves_of w u h k

  pub later_leads : (ty : SlotType) (w u : World) (d : Done) → Leads w u → DoneLeads ty u d → DoneLeads ty w d
  later_leads ty w u (Fine v x) k h = (h.0, leads_then w u x k h.1)
  later_leads ty w u (Fails f x) k h = leads_then w u x k h

  pub leads_type : (w u : World) (ty : SlotType) (v : Slot) → Leads w u → HasType z ms own w.objects ty v → HasType z ms own u.objects ty v
  leads_type w u ty v k h = still w.objects u.objects ty v (kinds_kept w.objects u.objects k.0) h

  held_leads : (ty : SlotType) (v : Slot) (w : World) (o : Tried) → HasType z ms own w.objects ty v → TriedLeads w o → DoneLeads ty w (or_else o (Fails Tally) (Fine v))
  held_leads ty v w (Yes u) h k = (leads_type w u ty v k h, k)
  held_leads ty v w (No u) h k = k

  pub holding_leads : (ty : SlotType) (v : Slot) (w : World) → HasType z ms own w.objects ty v → DoneLeads ty w (holding v w)
  holding_leads ty v w h = held_leads ty v w (hold v w) h (hold_leads v w)

  pub gives_up_leads : (ty : SlotType) (vs : List Slot) (w : World) (d : Done) → DoneLeads ty w d → DoneLeads ty w (gives_up vs d)
  gives_up_leads ty vs w (Fine v u) h =
      let k = give_all_leads vs u in (leads_type u (give_all vs u) ty v k h.0, leads_then w u (give_all vs u) h.1 k)
  gives_up_leads ty vs w (Fails f u) h = h

  pub in_place_leads : (ty other : SlotType) (v : Slot) (w : World) (d : Done) → HasType z ms own w.objects ty v → DoneLeads other w d → DoneLeads ty w (in_place_of v d)
  in_place_leads ty other v w (Fine x u) h k = (leads_type w u ty v k.1 h, k.1)
  in_place_leads ty other v w (Fails f u) h k = k

  -- ---- what a driver answers

  abbrev OptionTyped : ScriptObjects → SlotType → Option Slot → Type 0
  OptionTyped os ty None = Unit {0}
  OptionTyped os ty (Some v) = HasType z ms own os ty v

  within_typed : (os : ScriptObjects) (b : Bool) (n : ℕ) → OptionTyped os Number (if_within b n)
  within_typed os true n = tt
  within_typed os false n = tt

  slot_typed : (os : ScriptObjects) (d : ℕ) (ty : HostValueType) (v : Value) → OptionTyped os (host_type d ty) (slot_of d ty v)
  unfolding slot_of
  slot_typed os d Nothing (Int x) = tt
  slot_typed os d Nothing (Uint n) = tt
  slot_typed os d Nothing (Truth b) = tt
  slot_typed os d Nothing (KeyValue k) = tt
  slot_typed os d (Plain p) (Int x) = within_typed os _ _
  slot_typed os d (Plain p) (Uint n) = within_typed os _ _
  slot_typed os d (Plain I8) (Truth b) = tt
  slot_typed os d (Plain I16) (Truth b) = tt
  slot_typed os d (Plain I32) (Truth b) = tt
  slot_typed os d (Plain I64) (Truth b) = tt
  slot_typed os d (Plain U8) (Truth b) = tt
  slot_typed os d (Plain U16) (Truth b) = tt
  slot_typed os d (Plain U32) (Truth b) = tt
  slot_typed os d (Plain U64) (Truth b) = tt
  slot_typed os d (Plain TruthType) (Truth b) = tt
  slot_typed os d (Plain p) (KeyValue k) = tt
  slot_typed os d Handle (Int x) = tt
  slot_typed os d Handle (Uint n) = tt
  slot_typed os d Handle (Truth b) = tt
  slot_typed os d Handle (KeyValue None) = tt
  slot_typed os d Handle (KeyValue (Some k)) = refl

  accepted_leads : (ty : SlotType) (o : Option Slot) (w : World) → OptionTyped w.objects ty o → DoneLeads ty w (accepted o w)
  accepted_leads ty None w h = leads_same w
  accepted_leads ty (Some v) w h = holding_leads ty v w h

  void_leads : (d : ℕ) (result : HostValueType) (f : Fault) (w : World) → DoneLeads (host_type d result) w (cond (is_void result) (Fine (Bits 0) w) (Fails f w))
  void_leads d Nothing f w = (tt, leads_same w)
  void_leads d (Plain p) f w = leads_same w
  void_leads d Handle f w = leads_same w

  made_leads : (d k : ℕ) (w : World) → Leads w (one_more (Host d (Some k)) (one_reserved w))
  made_leads d k w = (more_kept (Host d (Some k)) (one_reserved w), more_globals (Host d (Some k)) (one_reserved w))

  replied_leads : (role : Role) (d : ℕ) (result : HostValueType) (r : HostReply) (w : World) → is_reply_to role r ≡ true → DoneLeads (result_by d result role) w (replied_by d result r w)
  unfolding replied_by
  replied_leads (Making f) d result (MakingReply (MadeKey k)) w e = (refl, made_leads d k w)
  replied_leads (Making f) d result (MakingReply MadeNothing) w e = leads_same w
  replied_leads (Making f) d result (MakingReply (MadeFault n)) w e = leads_same w
  replied_leads (Making f) d result (MakingReply MadeMemory) w e = leads_same w
  replied_leads (Making f) d result (MakingReply MadeFull) w e = leads_same w
  replied_leads (Making f) d result (Asking a) w e = absurd (let x : ⊥ = cc in x)
  replied_leads (Calling f) d result (MakingReply a) w e = absurd (let x : ⊥ = cc in x)
  replied_leads (Calling f) d result (Asking Void) w e = void_leads d result _ w
  replied_leads (Calling f) d result (Asking (Gave v)) w e = accepted_leads (host_type d result) (slot_of d result v) w (slot_typed w.objects d result v)
  replied_leads (Calling f) d result (Asking (SaidFault n)) w e = leads_same w
  replied_leads (Calling f) d result (Asking SaidMemory) w e = leads_same w
  replied_leads (Calling f) d result (Asking Full) w e = leads_same w
  replied_leads (Property f) d result (MakingReply a) w e = absurd (let x : ⊥ = cc in x)
  replied_leads (Property f) d result (Asking Void) w e = void_leads d result _ w
  replied_leads (Property f) d result (Asking (Gave v)) w e = accepted_leads (host_type d result) (slot_of d result v) w (slot_typed w.objects d result v)
  replied_leads (Property f) d result (Asking (SaidFault n)) w e = leads_same w
  replied_leads (Property f) d result (Asking SaidMemory) w e = leads_same w
  replied_leads (Property f) d result (Asking Full) w e = leads_same w

  if_reply_leads : (b : Bool) (role : Role) (d : ℕ) (result : HostValueType) (r : HostReply) (w x : World) → is_reply_to role r ≡ b → Leads w x
      → DoneLeads (result_by d result role) w (cond b (replied_by d result r x) (Fails Memory w))
  if_reply_leads true role d result r w x e k = later_leads (result_by d result role) w x (replied_by d result r x) k (replied_leads role d result r x e)
  if_reply_leads false role d result r w x e k = leads_same w

  asked_leads_from : (m : ℕ) (e : EntityNo) (object : Option ℕ) (args : List Value) (result : HostValueType) (is : List Input) (w : World)
      → DoneLeads (result_by (use_at z m e).driver result (use_at z m e).role) w (asked_from z m e object args result is w)
  asked_leads_from m e object args result [] w = leads_same w
  asked_leads_from m e object args result (Said r ∷ is) w =
      let u = use_at z m e in
      if_reply_leads (is_reply_to u.role r) u.role u.driver result r w
      (record w { inputs = is; events = w.events ++ Called (z.name m) e u.driver object args r ∷ []; reserved = suc w.reserved }) refl (leads_same w)
  asked_leads_from m e object args result (Room b ∷ is) w = leads_same w
  asked_leads_from m e object args result (Tallied b ∷ is) w = leads_same w
  asked_leads_from m e object args result (Fresh n ∷ is) w = leads_same w

  memory_then : (ty : SlotType) (w : World) (o : Tried) (go : World → Done) → TriedLeads w o → ((u : World) → DoneLeads ty u (go u)) → DoneLeads ty w (or_else o (Fails Memory) go)
  memory_then ty w (Yes u) go k h = later_leads ty w u (go u) k (h u)
  memory_then ty w (No u) go k h = k

  -- where a bound is met, nothing is asked
  may_lead : (ty : SlotType) (b : Bool) (w : World) (o : Done) → DoneLeads ty w o → DoneLeads ty w (cond b o (Fails Memory w))
  may_lead ty true w o h = h
  may_lead ty false w o h = leads_same w

  pub asked_leads : (m : ℕ) (e : EntityNo) (object : Option ℕ) (args : List Value) (result : HostValueType) (w : World)
      → DoneLeads (result_by (use_at z m e).driver result (use_at z m e).role) w (asked z m e object args result w)
  unfolding asked
  asked_leads m e object args result w =
      may_lead (result_by (use_at z m e).driver result (use_at z m e).role) (may_ask (use_at z m e).role w) w _
      (memory_then (result_by (use_at z m e).driver result (use_at z m e).role) w (memory_step w) (λ u. asked_from z m e object args result u.inputs u) (memory_leads w)
      (λ u. asked_leads_from m e object args result u.inputs u))

  -- ---- a derived class's object is one of a family above it

  pub is_a : ((m : ℕ) → AreClasses z ms m) → (os : ScriptObjects) (s ty : SlotType) (v : Slot) → IsA z ms s ty → HasType z ms own os s v → HasType z ms own os ty v
  is_a a os Number Number (Bits n) i h = tt
  is_a a os Number Number (Script j) i h = h
  is_a a os Number Number (Host d j) i h = h
  is_a a os Number (Key e) v i h = absurd i
  is_a a os Number (Family k e) v i h = absurd i
  is_a a os (Key d) Number v i h = absurd i
  is_a a os (Key d) (Key e) v i h = subst (λ x. HasType z ms own os (Key x) v) i h
  is_a a os (Key d) (Family k e) v i h = absurd i
  is_a a os (Family m c) Number v i h = absurd i
  is_a a os (Family m c) (Key e) v i h = absurd i
  is_a a os (Family m c) (Family k d) (Bits n) i h = h
  is_a a os (Family m c) (Family k d) (Script None) i h = tt
  is_a a os (Family m c) (Family k d) (Script (Some n)) i h = λ o g.
      let p = h o g in
      (p.0 ∙ i.0, subst (λ x. IsUnder z ms x o.class d) i.0 ((a m).above o.class c d p.1 i.1))
  is_a a os (Family m c) (Family k d) (Host e j) i h = h

  -- ---- lists of typed values

  pub typed_at : (os : ScriptObjects) (i : ℕ) (types : List SlotType) (vs : List Slot) (ty : SlotType) (d : Slot) → slice_get types i ≡ Some ty → AllTyped z ms own os types vs
      → HasType z ms own os ty (slice_index_or vs i d)
  typed_at os i [] [] ty d e h = absurd (let x : ⊥ = cc in x)
  typed_at os i [] (v ∷ vs) ty d e h = absurd h
  typed_at os i (s ∷ types) [] ty d e h = absurd h
  typed_at os zero (s ∷ types) (v ∷ vs) ty d e h = subst (λ x. HasType z ms own os x v) (ap (λ o. unwrap_or o s) e) h.0
  typed_at os (suc i) (s ∷ types) (v ∷ vs) ty d e h = typed_at os i types vs ty d e h.1

  pub typed_within : (os : ScriptObjects) (i : ℕ) (types : List SlotType) (vs : List Slot) (ty : SlotType) → slice_get types i ≡ Some ty → AllTyped z ms own os types vs → i < length vs
  typed_within os i [] [] ty e h = absurd (let x : ⊥ = cc in x)
  typed_within os i [] (v ∷ vs) ty e h = absurd h
  typed_within os i (s ∷ types) [] ty e h = absurd h
  typed_within os zero (s ∷ types) (v ∷ vs) ty e h = omega arith
  typed_within os (suc i) (s ∷ types) (v ∷ vs) ty e h = omega (arith, typed_within os i types vs ty e h.1)

  pub typed_put : (os : ScriptObjects) (i : ℕ) (types : List SlotType) (vs : List Slot) (ty : SlotType) (v : Slot) → slice_get types i ≡ Some ty → AllTyped z ms own os types vs → HasType z ms own os ty v
      → AllTyped z ms own os types (slice_set vs i v)
  typed_put os i [] [] ty v e h k = tt
  typed_put os i [] (u ∷ vs) ty v e h k = absurd h
  typed_put os i (s ∷ types) [] ty v e h k = absurd h
  typed_put os zero (s ∷ types) (u ∷ vs) ty v e h k = (subst (λ x. HasType z ms own os x v) (sym (ap (λ o. unwrap_or o s) e)) k, h.1)
  typed_put os (suc i) (s ∷ types) (u ∷ vs) ty v e h k = (h.0, typed_put os i types vs ty v e h.1 k)

  pub typed_length : (os : ScriptObjects) (types : List SlotType) (vs : List Slot) → AllTyped z ms own os types vs → length types ≡ length vs
  typed_length os [] [] h = refl
  typed_length os [] (v ∷ vs) h = absurd h
  typed_length os (s ∷ types) [] h = absurd h
  typed_length os (s ∷ types) (v ∷ vs) h = ap suc (typed_length os types vs h.1)

  pub both_typed : (os : ScriptObjects) (a b : List SlotType) (xs ys : List Slot) → AllTyped z ms own os a xs → AllTyped z ms own os b ys → AllTyped z ms own os (a ++ b) (xs ++ ys)
  both_typed os [] b [] ys h k = k
  both_typed os [] b (x ∷ xs) ys h k = absurd h
  both_typed os (s ∷ a) b [] ys h k = absurd h
  both_typed os (s ∷ a) b (x ∷ xs) ys h k = (h.0, both_typed os a b xs ys h.1 k)

  pub split_typed : (os : ScriptObjects) (a b : List SlotType) (xs ys : List Slot) → length a ≡ length xs → AllTyped z ms own os (a ++ b) (xs ++ ys) → AllTyped z ms own os a xs × AllTyped z ms own os b ys
  split_typed os [] b [] ys n h = (tt, h)
  split_typed os [] b (x ∷ xs) ys n h = absurd (omega (arith, n))
  split_typed os (s ∷ a) b [] ys n h = absurd (omega (arith, n))
  split_typed os (s ∷ a) b (x ∷ xs) ys n h = let q = split_typed os a b xs ys (omega (arith, n)) h.1 in ((h.0, q.0), q.1)

-- A core of the typing of values: what a place of a type holds keeps its type whatever is held and given up, fields have the types of their classes, and
-- an operation on operands of their types meets no misfit.
use Rattle.std.proofs.Common.{◌≡◌, ℕ, zero, suc, ◌<◌, List, [], ◌∷◌, Option, Some, None, refl, sym, ap, ◌∙◌, subst, length, unwrap_or, arith}
use Rattle.std.specs.Prelude.{Bool, true, false, cond, nat_eq, slice_get, slice_index_or, if◌then◌else◌}
use Rattle.std.specs.FinMap as map
use Rattle.std.proofs.lemmas.Bool.{eqb-true, lt-ltb}
use Rattle.ang_kinds.specs.declared.fault.Fault.{Fault}
use Rattle.ang_kinds.specs.declared.fault.Fault.TheVariants.{Null, Tally}
use Rattle.ang_meaning.specs.declared.slot.Slot.{Slot}
use Rattle.ang_meaning.specs.declared.slot.Slot.TheVariants.{Bits, Script, Host}
use Rattle.ang_meaning.specs.declared.operation.Operation.{Operation}
use Rattle.ang_meaning.specs.declared.operation.Operation.TheVariants.{Binary, GlobalGet, GlobalSet, GlobalChange, FieldGet, FieldSet, FieldChange}
use Rattle.ang_meaning.specs.declared.operation.Update.{Update}
use Rattle.ang_meaning.specs.Numbers.{Worked, Is, Cannot, Changed, Never, binary_result, changed}
use Rattle.ang_meaning.specs.World.{World, ScriptRecord, ScriptObjects, Input, Room, Said, Tallied, Fresh, with_inputs, Tried, Yes, No, HoldLimit, Inside, AtEnd, OfDriver, hold_limit_of, refused_at, tally_told, tally_step, or_else, hold, raised_at, script_raised, one_more, Lowered, Gone, Kept, one_less, lowered_at, script_lowered, each_given, script_given, given, give}
use Rattle.ang_meaning.specs.Environment.{Environment, class_in}
use Rattle.ang_meaning.specs.Hosts.{Done, Fine, Fails, holding}
use Rattle.ang_meaning.specs.Perform.{perform, work_done, change_of, global_or, stored_global, changed_global, field_of, field_or, is_lower, may_take, stored_field, changed_field, gives_up, is_under}
use Rattle.ang_meaning.specs.Results.{local_at, local_set}
use Rattle.ang_meaning.specs.Counting.{count_of_object, IsCounted}
use Rattle.ang_meaning.proofs.Counted.{first_there}
use Rattle.ang_meaning.proofs.Tables.{get_inserted, get_without}
use Rattle.ang_meaning.proofs.Counting.{left_of}

-- ---- types of places

-- a number or truth value; null or an object of this driver; null or an object whose class is or stands under this family of a module
pub data SlotType : Type 0 where
  Number : SlotType
  Key : ℕ → SlotType
  Family : ℕ → SlotType

-- What a setting does not say of modules: which module made each object, and the types of each class's fields, those of the base class first.
pub record Owners : Type 0 where
  pub owner : ℕ → ℕ
  pub fields : ℕ → ℕ → List SlotType

module _ (z : Environment) (t : Owners) where
  -- A place of module m that has this type may hold the value. It says nothing of a number that names no object: counts say that there is none such.
  abbrev pub HasType : ScriptObjects → ℕ → SlotType → Slot → Type 0
  HasType os m Number (Bits n) = Unit {0}
  HasType os m Number (Script k) = ⊥
  HasType os m Number (Host d k) = ⊥
  HasType os m (Key d) (Bits n) = ⊥
  HasType os m (Key d) (Script None) = Unit {0}
  HasType os m (Key d) (Script (Some n)) = ⊥
  HasType os m (Key d) (Host e None) = Unit {0}
  HasType os m (Key d) (Host e (Some k)) = e ≡ d
  HasType os m (Family c) (Bits n) = ⊥
  HasType os m (Family c) (Script None) = Unit {0}
  HasType os m (Family c) (Script (Some n)) = (o : ScriptRecord) → map.get os n ≡ Some o → (t.owner n ≡ m) × (is_under z m c (Some o) ≡ true)
  HasType os m (Family c) (Host d k) = ⊥

  abbrev pub AllTyped : ScriptObjects → ℕ → List SlotType → List Slot → Type 0
  AllTyped os m [] [] = Unit {0}
  AllTyped os m [] (v ∷ vs) = ⊥
  AllTyped os m (ty ∷ types) [] = ⊥
  AllTyped os m (ty ∷ types) (v ∷ vs) = HasType os m ty v × AllTyped os m types vs

  -- each object's fields have the types of its class, in the module that made it
  pub record AreTyped (os : ScriptObjects) : Type 0 where
    pub fields : (n : ℕ) (o : ScriptRecord) → map.get os n ≡ Some o → AllTyped os (t.owner n) (t.fields (t.owner n) o.class) o.fields
    pub rank : (n : ℕ) (o : ScriptRecord) → map.get os n ≡ Some o → o.rank ≡ (class_in (z.class (t.owner n) o.class)).rank

  -- What the names of a build promise of its classes: a class has the fields of each family above it at the same places, and what a field can hold is of a
  -- lower rank than the class.
  pub record AreClasses : Type 0 where
    pub inherits : (m c i : ℕ) (ty : SlotType) (o : ScriptRecord) → is_under z m c (Some o) ≡ true → slice_get (t.fields m c) i ≡ Some ty → slice_get (t.fields m o.class) i ≡ Some ty
    pub falls : (m d i : ℕ) (o p : ScriptRecord) → slice_get (t.fields m o.class) i ≡ Some (Family d) → is_under z m d (Some p) ≡ true
        → (class_in (z.class m p.class)).rank < (class_in (z.class m o.class)).rank

-- ---- objects of a later table were in the earlier one

pub record WasThere (os : ScriptObjects) (n : ℕ) (o : ScriptRecord) : Type 0 where
  pub old : ScriptRecord
  pub there : map.get os n ≡ Some old
  pub class : old.class ≡ o.class
  pub rank : old.rank ≡ o.rank
  pub fields : old.fields ≡ o.fields

abbrev pub AreKept : ScriptObjects → ScriptObjects → Type 0
AreKept os later = (n : ℕ) (o : ScriptRecord) → map.get later n ≡ Some o → WasThere os n o

pub kept_same : (os : ScriptObjects) → AreKept os os
kept_same os n o g = record { old = o; there = g; class = refl; rank = refl; fields = refl }

pub kept_then : (os ps qs : ScriptObjects) → AreKept os ps → AreKept ps qs → AreKept os qs
kept_then os ps qs h k n o g =
    let b = k n o g in
    let a = h n b.old b.there in
    record { old = a.old; there = a.there; class = a.class ∙ b.class; rank = a.rank ∙ b.rank; fields = a.fields ∙ b.fields }

counted_at : (b : Bool) (os : ScriptObjects) (n q c : ℕ) (o p : ScriptRecord) → nat_eq n q ≡ b → map.get os n ≡ Some o → cond b (Some (record o { count = c })) (map.get os q) ≡ Some p → WasThere os q p
counted_at true os n q c o p e g h =
    let s : record o { count = c } ≡ p = ap (λ x. unwrap_or x (record o { count = c })) h in
    record { old = o; there = ap (map.get os) (sym (eqb-true n q e)) ∙ g; class = ap (λ (x : ScriptRecord). x.class) s; rank = ap (λ (x : ScriptRecord). x.rank) s; fields = ap (λ (x : ScriptRecord). x.fields) s }
counted_at false os n q c o p e g h = record { old = p; there = h; class = refl; rank = refl; fields = refl }

kept_counted : (os : ScriptObjects) (n c : ℕ) (o : ScriptRecord) → map.get os n ≡ Some o → AreKept os (map.insert os n (record o { count = c }))
kept_counted os n c o g q p h = counted_at (nat_eq n q) os n q c o p refl g (sym (get_inserted os n q (record o { count = c })) ∙ h)

left_at : (b : Bool) (o : Option ScriptRecord) (p : ScriptRecord) → cond b None o ≡ Some p → o ≡ Some p
left_at true o p e = absurd (let x : ⊥ = cc in x)
left_at false o p e = e

kept_removed : (os : ScriptObjects) (n : ℕ) → AreKept os (map.remove os n)
kept_removed os n q p h = kept_same os q p (left_at (nat_eq n q) (map.get os q) p (sym (get_without os n q) ∙ h))

kept_less : (n : ℕ) (o : ScriptRecord) (c : ℕ) (os : ScriptObjects) → map.get os n ≡ Some o → AreKept os (left_of (one_less n o c os))
kept_less n o zero os g = kept_removed os n
kept_less n o (suc zero) os g = kept_removed os n
kept_less n o (suc (suc c)) os g = kept_counted os n (suc c) o g

kept_lowered : (n : ℕ) (o : Option ScriptRecord) (os : ScriptObjects) → map.get os n ≡ o → AreKept os (left_of (lowered_at n o os))
kept_lowered n None os g = kept_same os
kept_lowered n (Some o) os g = kept_less n o o.count os g

kept_raised : (n : ℕ) (o : Option ScriptRecord) (os : ScriptObjects) → map.get os n ≡ o → AreKept os (raised_at n o os)
kept_raised n None os g = kept_same os
kept_raised n (Some o) os g = kept_counted os n (suc o.count) o g

pub more_kept : (v : Slot) (w : World) → AreKept w.objects (one_more v w).objects
unfolding one_more script_raised
more_kept (Bits n) w = kept_same w.objects
more_kept (Script None) w = kept_same w.objects
more_kept (Script (Some n)) w = kept_raised n (map.get w.objects n) w.objects refl
more_kept (Host d None) w = kept_same w.objects
more_kept (Host d (Some k)) w = kept_same w.objects

abbrev Keeps : (Slot → World → World) → Type 0
Keeps go = (v : Slot) (w : World) → AreKept w.objects (go v w).objects

each_kept : (go : Slot → World → World) → Keeps go → (vs : List Slot) (w : World) → AreKept w.objects (each_given go vs w).objects
each_kept go h [] w = kept_same w.objects
each_kept go h (v ∷ vs) w = kept_then w.objects (go v w).objects (each_given go vs (go v w)).objects (h v w) (each_kept go h vs (go v w))

script_kept : (go : Slot → World → World) → Keeps go → (l : Lowered) (w : World) → AreKept w.objects (left_of l) → AreKept w.objects (script_given go l w).objects
script_kept go h (Kept os) w p = p
script_kept go h (Gone vs os) w p =
    kept_then w.objects os (each_given go vs (record w { objects = os })).objects p (each_kept go h vs (record w { objects = os }))

given_kept : (n : ℕ) → Keeps (given n)
unfolding given script_lowered
given_kept n (Bits x) w = kept_same w.objects
given_kept n (Script None) w = kept_same w.objects
given_kept n (Host d None) w = kept_same w.objects
given_kept n (Host d (Some k)) w = kept_same w.objects
given_kept zero (Script (Some k)) w = kept_same w.objects
given_kept (suc n) (Script (Some k)) w =
    script_kept (given n) (given_kept n) (lowered_at k (map.get w.objects k) w.objects) w (kept_lowered k (map.get w.objects k) w.objects refl)

pub give_kept_all : (v : Slot) (w : World) → AreKept w.objects (give v w).objects
unfolding give
give_kept_all v w = given_kept (map.len w.objects) v w

-- what may be refused
abbrev pub TriedKept : World → Tried → Type 0
TriedKept w (Yes u) = AreKept w.objects u.objects
TriedKept w (No u) = AreKept w.objects u.objects

refused_kept : (x : HoldLimit) (is : List Input) (w : World) → TriedKept w (refused_at x is w)
refused_kept Inside is w = kept_same w.objects
refused_kept AtEnd is w = kept_same w.objects
refused_kept OfDriver is w = kept_same w.objects

told_kept : (x : HoldLimit) (is : List Input) (v : Slot) (w : World) → TriedKept w (or_else (tally_told x is w) No (λ u. Yes (one_more v u)))
told_kept x [] v w = kept_same w.objects
told_kept x (Tallied true ∷ is) v w = more_kept v (with_inputs is w)
told_kept Inside (Tallied false ∷ is) v w = kept_same w.objects
told_kept AtEnd (Tallied false ∷ is) v w = kept_same w.objects
told_kept OfDriver (Tallied false ∷ is) v w = kept_same w.objects
told_kept x (Room b ∷ is) v w = kept_same w.objects
told_kept x (Said r ∷ is) v w = kept_same w.objects
told_kept x (Fresh n ∷ is) v w = kept_same w.objects

pub hold_kept : (v : Slot) (w : World) → TriedKept w (hold v w)
unfolding hold tally_step
hold_kept (Bits n) w = more_kept (Bits n) w
hold_kept (Script None) w = more_kept (Script None) w
hold_kept (Script (Some n)) w = told_kept (hold_limit_of (map.get w.objects n)) w.inputs (Script (Some n)) w
hold_kept (Host d None) w = more_kept (Host d None) w
hold_kept (Host d (Some k)) w = told_kept OfDriver w.inputs (Host d (Some k)) w

-- the object that it names, if it names one, is there: of what stands among the places that is `first_there`
abbrev pub IsHere : World → Slot → Type 0
IsHere w v = (k : ℕ) → v ≡ Script (Some k) → (p : ScriptRecord) × (map.get w.objects k ≡ Some p)

-- ---- types stay

module _ (z : Environment) (t : Owners) where
  under_same : (m c : ℕ) (o p : ScriptRecord) → o.class ≡ p.class → is_under z m c (Some o) ≡ true → is_under z m c (Some p) ≡ true
  under_same m c o p e h = subst (λ k. is_under z m c (Some (record p { class = k })) ≡ true) e (subst (λ k. is_under z m c (Some (record p { class = k })) ≡ true) refl h)

  pub still_typed : (os later : ScriptObjects) (m : ℕ) (ty : SlotType) (v : Slot) → AreKept os later → HasType z t os m ty v → HasType z t later m ty v
  still_typed os later m Number (Bits n) k h = tt
  still_typed os later m Number (Script j) k h = h
  still_typed os later m Number (Host d j) k h = h
  still_typed os later m (Key d) (Bits n) k h = h
  still_typed os later m (Key d) (Script None) k h = tt
  still_typed os later m (Key d) (Script (Some n)) k h = h
  still_typed os later m (Key d) (Host e None) k h = tt
  still_typed os later m (Key d) (Host e (Some j)) k h = h
  still_typed os later m (Family c) (Bits n) k h = h
  still_typed os later m (Family c) (Script None) k h = tt
  still_typed os later m (Family c) (Script (Some n)) k h = λ o g.
      let q = k n o g in
      let p = h q.old q.there in
      (p.0, under_same m c q.old o q.class p.1)
  still_typed os later m (Family c) (Host d j) k h = h

  pub all_still_typed : (os later : ScriptObjects) (m : ℕ) (types : List SlotType) (vs : List Slot) → AreKept os later → AllTyped z t os m types vs → AllTyped z t later m types vs
  all_still_typed os later m [] [] k h = tt
  all_still_typed os later m [] (v ∷ vs) k h = h
  all_still_typed os later m (ty ∷ types) [] k h = h
  all_still_typed os later m (ty ∷ types) (v ∷ vs) k h = (still_typed os later m ty v k h.0, all_still_typed os later m types vs k h.1)

  pub objects_still_typed : (os later : ScriptObjects) → AreKept os later → AreTyped z t os → AreTyped z t later
  objects_still_typed os later k h = record {
    fields = λ n o g.
        let q = k n o g in
        let m = t.owner n in
        subst (λ c. AllTyped z t later m (t.fields m c) o.fields) q.class
        (subst (λ vs. AllTyped z t later m (t.fields m q.old.class) vs) q.fields
        (all_still_typed os later m (t.fields m q.old.class) q.old.fields k (h.fields n q.old q.there)));
    rank = λ n o g.
        let q = k n o g in
        sym q.rank ∙ h.rank n q.old q.there ∙ ap (λ c. (class_in (z.class (t.owner n) c)).rank) q.class;
  }

  -- whatever is given up, all places keep their types
  pub give_types : (v x : Slot) (m : ℕ) (ty : SlotType) (w : World) → HasType z t w.objects m ty x → HasType z t (give v w).objects m ty x
  give_types v x m ty w h = still_typed w.objects (give v w).objects m ty x (give_kept_all v w) h

  pub give_typed : (v : Slot) (w : World) → AreTyped z t w.objects → AreTyped z t (give v w).objects
  give_typed v w h = objects_still_typed w.objects (give v w).objects (give_kept_all v w) h

  -- ---- fields

  typed_at : (os : ScriptObjects) (m i : ℕ) (types : List SlotType) (vs : List Slot) (ty : SlotType) (d : Slot) → slice_get types i ≡ Some ty → AllTyped z t os m types vs → HasType z t os m ty (slice_index_or vs i d)
  typed_at os m i [] [] ty d e h = absurd (let x : ⊥ = cc in x)
  typed_at os m i [] (v ∷ vs) ty d e h = absurd h
  typed_at os m i (s ∷ types) [] ty d e h = absurd h
  typed_at os m zero (s ∷ types) (v ∷ vs) ty d e h = subst (λ x. HasType z t os m x v) (ap (λ o. unwrap_or o s) e) h.0
  typed_at os m (suc i) (s ∷ types) (v ∷ vs) ty d e h = typed_at os m i types vs ty d e h.1

  -- a field of an object of a family has the type that the family's field has
  pub field_typed : (m c i n : ℕ) (ty : SlotType) (o : ScriptRecord) (w : World) → AreClasses z t → AreTyped z t w.objects → HasType z t w.objects m (Family c) (Script (Some n)) → map.get w.objects n ≡ Some o
      → slice_get (t.fields m c) i ≡ Some ty → HasType z t w.objects m ty (field_or n i (Bits 0) w)
  unfolding field_or
  field_typed m c i n ty o w a h v g e =
      let own = v o g in
      let types = h.fields n o g in
      let at : HasType z t w.objects (t.owner n) ty (slice_index_or o.fields i (Bits 0)) =
      typed_at w.objects (t.owner n) i (t.fields (t.owner n) o.class) o.fields ty (Bits 0)
      (subst (λ k. slice_get (t.fields k o.class) i ≡ Some ty) (sym own.0) (a.inherits m c i ty o own.1 e)) types in
      subst (λ x. HasType z t w.objects m ty (field_of x i (Bits 0))) (sym g) (subst (λ k. HasType z t w.objects k ty (slice_index_or o.fields i (Bits 0))) own.0 at)

  -- and takes what has that type: its rank is below
  lower_there : (x y : ScriptRecord) → x.rank < y.rank → is_lower (Some x) (Some y) ≡ true
  lower_there x y h = lt-ltb x.rank y.rank h

  pub field_takes : (m c i n : ℕ) (ty : SlotType) (v : Slot) (o : ScriptRecord) (w : World) → AreClasses z t → AreTyped z t w.objects → HasType z t w.objects m (Family c) (Script (Some n)) → map.get w.objects n ≡ Some o
      → slice_get (t.fields m c) i ≡ Some ty → HasType z t w.objects m ty v → IsHere w v → may_take n v w ≡ true
  unfolding may_take
  field_takes m c i n ty (Bits x) o w a h r g e q there = refl
  field_takes m c i n ty (Script None) o w a h r g e q there = refl
  field_takes m c i n Number (Script (Some k)) o w a h r g e q there = absurd q
  field_takes m c i n (Key d) (Script (Some k)) o w a h r g e q there = absurd q
  field_takes m c i n (Family d) (Script (Some k)) o w a h r g e q there =
      let p = there k refl in
      let own = r o g in
      let held = q p.0 p.1 in
      let at : slice_get (t.fields m o.class) i ≡ Some (Family d) = a.inherits m c i (Family d) o own.1 e in
      let high : o.rank ≡ (class_in (z.class m o.class)).rank = h.rank n o g ∙ ap (λ j. (class_in (z.class j o.class)).rank) own.0 in
      let low : (p.0).rank ≡ (class_in (z.class m (p.0).class)).rank = h.rank k p.0 p.1 ∙ ap (λ j. (class_in (z.class j (p.0).class)).rank) held.0 in
      let f = a.falls m d i o p.0 at held.1 in
      ap (λ x. is_lower x (map.get w.objects n)) p.1 ∙ ap (λ x. is_lower (Some p.0) x) g ∙ lower_there p.0 o (omega (arith, high, low, f))
  field_takes m c i n ty (Host d k) o w a h r g e q there = refl

here_at : (o : Option ScriptRecord) → 0 < count_of_object o → (p : ScriptRecord) × (o ≡ Some p)
here_at None h = absurd (omega (arith, h))
here_at (Some p) h = (p, refl)

pub here_of : (v : Slot) (s : List Slot) (w : World) → IsCounted (v ∷ s) w → IsHere w v
here_of v s w c k e = here_at (map.get w.objects k) ((first_there (Script (Some k)) s w (subst (λ x. IsCounted (x ∷ s) w) e c)).0)

-- ---- misfits

-- What an operation does where a misfit has this fault. With `Null` it is `perform`, for the operations that ask no host.
abbrev pub change_or : Fault → Update → Slot → Slot → Changed
change_or f c (Bits x) (Bits y) = changed c x y
change_or f c (Bits x) (Script k) = Never f
change_or f c (Bits x) (Host d k) = Never f
change_or f c (Script j) v = Never f
change_or f c (Host d j) v = Never f

unfoldable pub perform_or : Fault → Environment → ℕ → Operation → List Slot → World → Done
perform_or f z m (Binary a p) (Bits y ∷ Bits x ∷ []) w = work_done (binary_result a p x y) w
perform_or f z m (GlobalGet g) [] w = holding (global_or m g (Bits 0) w) w
perform_or f z m (GlobalSet g) (v ∷ []) w = or_else (hold v w) (Fails Tally) (stored_global m g v)
perform_or f z m (GlobalChange c g) (v ∷ []) w = changed_global m g (change_or f c (global_or m g (Bits 0) w) v) w
perform_or f z m (FieldGet i) (Script None ∷ []) w = Fails Null w
perform_or f z m (FieldGet i) (Script (Some n) ∷ []) w = gives_up (Script (Some n) ∷ []) (holding (field_or n i (Bits 0) w) w)
perform_or f z m (FieldSet i) (Script None ∷ v ∷ []) w = Fails Null w
perform_or f z m (FieldSet i) (Script (Some n) ∷ v ∷ []) w =
    gives_up (Script (Some n) ∷ []) (if may_take n v w then (or_else (hold v w) (Fails Tally) (stored_field n i v)) else (Fails f w))
perform_or f z m (FieldChange c i) (Script None ∷ v ∷ []) w = Fails Null w
perform_or f z m (FieldChange c i) (Script (Some n) ∷ v ∷ []) w =
    gives_up (Script (Some n) ∷ []) (changed_field n i (change_or f c (field_or n i (Bits 0) w) v) w)
perform_or f z m _ _ w = Fails f w

module _ (z : Environment) (t : Owners) (f : Fault) (m : ℕ) where
  change_fits : (os : ScriptObjects) (c : Update) (x y : Slot) → HasType z t os m Number x → HasType z t os m Number y → change_or f c x y ≡ change_of c x y
  unfolding change_of
  change_fits os c (Bits a) (Bits b) h k = refl
  change_fits os c (Bits a) (Script j) h k = absurd k
  change_fits os c (Bits a) (Host d j) h k = absurd k
  change_fits os c (Script j) y h k = absurd h
  change_fits os c (Host d j) y h k = absurd h

  pub work_fits : (a : _) (p : _) (x y : Slot) (w : World) → HasType z t w.objects m Number x → HasType z t w.objects m Number y → perform_or f z m (Binary a p) (y ∷ x ∷ []) w ≡ perform z m (Binary a p) (y ∷ x ∷ []) w
  unfolding perform perform_or
  work_fits a p (Bits x) (Bits y) w h k = refl
  work_fits a p (Bits x) (Script j) w h k = absurd k
  work_fits a p (Bits x) (Host d j) w h k = absurd k
  work_fits a p (Script i) y w h k = absurd h
  work_fits a p (Host d i) y w h k = absurd h

  -- a field is read: null is `Null`, and nothing else is
  pub get_fits : (c i : ℕ) (o : Slot) (w : World) → HasType z t w.objects m (Family c) o → perform_or f z m (FieldGet i) (o ∷ []) w ≡ perform z m (FieldGet i) (o ∷ []) w
  unfolding perform perform_or
  get_fits c i (Bits n) w h = absurd h
  get_fits c i (Script None) w h = refl
  get_fits c i (Script (Some n)) w h = refl
  get_fits c i (Host d k) w h = absurd h

  -- a field is written
  pub set_fits : (c i : ℕ) (ty : SlotType) (o v : Slot) (w : World) → AreClasses z t → AreTyped z t w.objects → HasType z t w.objects m (Family c) o → slice_get (t.fields m c) i ≡ Some ty → HasType z t w.objects m ty v
      → IsHere w o → IsHere w v → perform_or f z m (FieldSet i) (o ∷ v ∷ []) w ≡ perform z m (FieldSet i) (o ∷ v ∷ []) w
  unfolding perform perform_or
  set_fits c i ty (Bits n) v w a h r e q here there = absurd r
  set_fits c i ty (Script None) v w a h r e q here there = refl
  set_fits c i ty (Script (Some n)) v w a h r e q here there =
      let at = here n refl in
      let takes : may_take n v w ≡ true = field_takes z t m c i n ty v at.0 w a h r at.1 e q there in
      let both : (x : Done) → cond (may_take n v w) x (Fails f w) ≡ cond (may_take n v w) x (Fails Null w) =
      λ x. ap (λ b. cond b x (Fails f w)) takes ∙ ap (λ b. cond b x (Fails Null w)) (sym takes) in
      ap (gives_up (Script (Some n) ∷ [])) (both (or_else (hold v w) (Fails Tally) (stored_field n i v)))
  set_fits c i ty (Host d k) v w a h r e q here there = absurd r

  -- a field that is a number is changed
  pub change_fits_field : (c i : ℕ) (ch : Update) (o v : Slot) (w : World) → AreClasses z t → AreTyped z t w.objects → HasType z t w.objects m (Family c) o → slice_get (t.fields m c) i ≡ Some Number → HasType z t w.objects m Number v
      → IsHere w o → perform_or f z m (FieldChange ch i) (o ∷ v ∷ []) w ≡ perform z m (FieldChange ch i) (o ∷ v ∷ []) w
  unfolding perform perform_or
  change_fits_field c i ch (Bits n) v w a h r e q here = absurd r
  change_fits_field c i ch (Script None) v w a h r e q here = refl
  change_fits_field c i ch (Script (Some n)) v w a h r e q here =
      let at = here n refl in
      let was : HasType z t w.objects m Number (field_or n i (Bits 0) w) = field_typed z t m c i n Number at.0 w a h r at.1 e in
      ap (λ x. gives_up (Script (Some n) ∷ []) (changed_field n i x w)) (change_fits w.objects ch (field_or n i (Bits 0) w) v was q)
  change_fits_field c i ch (Host d k) v w a h r e q here = absurd r

-- ---- what operations give

module _ (z : Environment) (t : Owners) (m : ℕ) where
  -- a value of the type, or a fault; the objects that are left were there
  abbrev pub DoneTyped : SlotType → World → Done → Type 0
  DoneTyped ty w (Fine v u) = HasType z t u.objects m ty v × AreKept w.objects u.objects
  DoneTyped ty w (Fails x u) = AreKept w.objects u.objects

  got_typed : (ty : SlotType) (n : ℕ) (v : Slot) (w : World) (o : Tried) → HasType z t w.objects m ty v → TriedKept w o → DoneTyped ty w (gives_up (Script (Some n) ∷ []) (or_else o (Fails Tally) (Fine v)))
  got_typed ty n v w (No u) h k = k
  got_typed ty n v w (Yes u) h k =
      let all = kept_then w.objects u.objects (give (Script (Some n)) u).objects k (give_kept_all (Script (Some n)) u) in
      (still_typed z t w.objects (give (Script (Some n)) u).objects m ty v all h, all)

  pub get_typed : (c i : ℕ) (ty : SlotType) (o : Slot) (w : World) → AreClasses z t → AreTyped z t w.objects → HasType z t w.objects m (Family c) o → slice_get (t.fields m c) i ≡ Some ty → IsHere w o → DoneTyped ty w (perform z m (FieldGet i) (o ∷ []) w)
  unfolding perform
  get_typed c i ty (Bits n) w a h r e here = absurd r
  get_typed c i ty (Script None) w a h r e here = kept_same w.objects
  get_typed c i ty (Script (Some n)) w a h r e here =
      let at = here n refl in
      let v = field_or n i (Bits 0) w in
      got_typed ty n v w (hold v w) (field_typed z t m c i n ty at.0 w a h r at.1 e) (hold_kept v w)
  get_typed c i ty (Host d k) w a h r e here = absurd r

  work_done_typed : (r : Worked) (w : World) → DoneTyped Number w (work_done r w)
  work_done_typed (Is n) w = (tt, kept_same w.objects)
  work_done_typed (Cannot x) w = kept_same w.objects

  pub work_typed : (a : _) (p : _) (x y : Slot) (w : World) → HasType z t w.objects m Number x → HasType z t w.objects m Number y → DoneTyped Number w (perform z m (Binary a p) (y ∷ x ∷ []) w)
  unfolding perform
  work_typed a p (Bits x) (Bits y) w h k = work_done_typed (binary_result a p x y) w
  work_typed a p (Bits x) (Script j) w h k = absurd k
  work_typed a p (Bits x) (Host d j) w h k = absurd k
  work_typed a p (Script i) y w h k = absurd h
  work_typed a p (Host d i) y w h k = absurd h

  pub typed_local : (os : ScriptObjects) (d : ℕ) (types : List SlotType) (ls : List Slot) (ty : SlotType) → slice_get types d ≡ Some ty → AllTyped z t os m types ls → HasType z t os m ty (local_at ls d)
  typed_local os d [] [] ty e h = absurd (let x : ⊥ = cc in x)
  typed_local os d [] (v ∷ vs) ty e h = absurd h
  typed_local os d (s ∷ types) [] ty e h = absurd h
  typed_local os zero (s ∷ types) (v ∷ vs) ty e h = subst (λ x. HasType z t os m x v) (ap (λ o. unwrap_or o s) e) h.0
  typed_local os (suc d) (s ∷ types) (v ∷ vs) ty e h = typed_local os d types vs ty e h.1

  pub typed_length : (os : ScriptObjects) (types : List SlotType) (ls : List Slot) → AllTyped z t os m types ls → length types ≡ length ls
  typed_length os [] [] h = refl
  typed_length os [] (v ∷ vs) h = absurd h
  typed_length os (s ∷ types) [] h = absurd h
  typed_length os (s ∷ types) (v ∷ vs) h = ap suc (typed_length os types vs h.1)

  pub typed_set : (os : ScriptObjects) (d : ℕ) (types : List SlotType) (ls : List Slot) (ty : SlotType) (v : Slot) → slice_get types d ≡ Some ty → AllTyped z t os m types ls → HasType z t os m ty v → AllTyped z t os m types (local_set ls d v)
  typed_set os d [] [] ty v e h k = tt
  typed_set os d [] (u ∷ ls) ty v e h k = absurd h
  typed_set os d (s ∷ types) [] ty v e h k = absurd h
  typed_set os zero (s ∷ types) (u ∷ ls) ty v e h k = (subst (λ x. HasType z t os m x v) (sym (ap (λ o. unwrap_or o s) e)) k, h.1)
  typed_set os (suc d) (s ∷ types) (u ∷ ls) ty v e h k = (h.0, typed_set os d types ls ty v e h.1 k)

  pub typed_within : (os : ScriptObjects) (d : ℕ) (types : List SlotType) (ls : List Slot) (ty : SlotType) → slice_get types d ≡ Some ty → AllTyped z t os m types ls → d < length ls
  typed_within os d [] [] ty e h = absurd (let x : ⊥ = cc in x)
  typed_within os d [] (u ∷ ls) ty e h = absurd h
  typed_within os d (s ∷ types) [] ty e h = absurd h
  typed_within os zero (s ∷ types) (u ∷ ls) ty e h = omega arith
  typed_within os (suc d) (s ∷ types) (u ∷ ls) ty e h = omega (arith, typed_within os d types ls ty e h.1)

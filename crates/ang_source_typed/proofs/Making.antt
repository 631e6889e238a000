-- A new object is typed, and so is all that was: no place held its number before, so its owner may be another one now.
use Rattle.std.proofs.Common.{◌≡◌, ℕ, zero, suc, ◌≤◌, List, [], ◌∷◌, ◌++◌, length, Option, Some, None, refl, sym, ap, ◌∙◌, subst, unwrap_or, arith}
use Rattle.std.specs.Prelude.{Bool, true, false, ◌&&◌, cond, option_map, is_some, nat_eq, nat_lt, map as list_map, slice_get, slice_index_or}
use Rattle.std.specs.List.{list_any}
use Rattle.std.specs.FinMap as map
use Rattle.std.proofs.lemmas.Bool.{eqb-true, eq-eqb}
use Rattle.ang_kinds.specs.declared.fault.Fault.TheVariants.{Memory}
use Rattle.ang_types.specs.declared.arg_type.ArgType.{ArgType}
use Rattle.ang_types.specs.declared.arg_type.ArgType.TheVariants as type
use Rattle.ang_view.specs.Registration.{RegistrationList}
use Rattle.ang_typed.specs.declared.program.TypedClass as families
use Rattle.ang_meaning.specs.declared.class.Class.{Class}
use Rattle.ang_meaning.specs.declared.slot.Slot.{Slot}
use Rattle.ang_meaning.specs.declared.slot.Slot.TheVariants.{Bits, Script, Host}
use Rattle.ang_meaning.specs.declared.operation.Operation.TheVariants.{Make}
use Rattle.ang_meaning.specs.World.{World, ScriptRecord, ScriptObjects, Input, Room, Said, Tallied, Fresh, Tried, Yes, No, memory_step, or_else}
use Rattle.ang_meaning.specs.Environment.{Environment, class_in, class_at, default_of, is_fit}
use Rattle.ang_meaning.specs.Hosts.{Done, Fails}
use Rattle.ang_meaning.specs.Perform.{perform, new_object, number_for, may_make, made_from}
use Rattle.ang_meaning.specs.Results.{Gave, Ready, performed, applied}
use Rattle.ang_meaning.specs.Counting.{Thing, NumberOf, names, how_many, in_lists, count_of_object, count_in}
use Rattle.ang_meaning.proofs.Counting.{many_append}
use Rattle.ang_meaning.proofs.Counted.{TriedCounted, memory_counted, new_counted}
use Rattle.ang_meaning.proofs.Tables.{get_inserted, number_free, sum-bound}
use Rattle.ang_source.specs.Meaning.{kind_of, default_in, fields_by, class_of, class_among}
use Rattle.ang_source_typed.specs.Types.{SlotType, Number, Key, Family, Modules, Owners, IsUnder, HasType, AllTyped, IsTypedObject, slot_type, first_family, field_types, global_types}
use Rattle.ang_source_typed.specs.TypedProgram.{AreClasses}
use Rattle.ang_source_typed.specs.Runs.{HasTree}
use Rattle.ang_source_typed.specs.Guarded.{Guard, fits, misfits}
use Rattle.ang_source_typed.specs.Guarded as guarded
use Rattle.ang_source_typed.proofs.Values.{TriedLeads, memory_leads, moves_of}
use Rattle.ang_source_typed.proofs.Operations.{both_true}
use Rattle.ang_source_typed.proofs.Ends.{Good, At, IsGoodEnd, moved_good, below_counted, guard_passes}

-- ---- what nothing was stored in

null_typed : (z : Environment) (ms : Modules) (own : Owners) (os : ScriptObjects) (b : Bool) (d m c : ℕ) → HasType z ms own os (cond b (Key d) (Family m c)) (Script None)
null_typed z ms own os true d m c = tt
null_typed z ms own os false d m c = tt

pub default_typed : (z : Environment) (ms : Modules) (own : Owners) (os : ScriptObjects) (V : RegistrationList) (m : ℕ) (a : ArgType) → HasType z ms own os (slot_type V m a) (default_in a)
default_typed z ms own os V m type.Void = tt
default_typed z ms own os V m type.Null = tt
default_typed z ms own os V m (type.Plain p) = tt
default_typed z ms own os V m (type.Enumeration n) = tt
default_typed z ms own os V m (type.Object n c) = null_typed z ms own os (nat_lt n first_family) _ m _
default_typed z ms own os V m (type.Handle n c) = null_typed z ms own os (nat_lt n first_family) _ m _

defaults_typed : (z : Environment) (ms : Modules) (own : Owners) (os : ScriptObjects) (V : RegistrationList) (m : ℕ) (types : List ArgType)
    → AllTyped z ms own os (list_map (slot_type V m) types) (list_map default_of (list_map kind_of types))
defaults_typed z ms own os V m [] = tt
defaults_typed z ms own os V m (a ∷ types) = (default_typed z ms own os V m a, defaults_typed z ms own os V m types)

-- the fields of a class's new object, whether the class is there or not
fields_default : (z : Environment) (ms : Modules) (own : Owners) (os : ScriptObjects) (V : RegistrationList) (m n : ℕ) (classes : List families.TypedClass) (c : Option families.TypedClass)
    → slice_get classes n ≡ c → AllTyped z ms own os (list_map (slot_type V m) (fields_by classes (length classes) (slice_get classes n))) (list_map default_of (class_in (class_among classes n)).fields)
fields_default z ms own os V m n classes None e =
    subst (λ x. AllTyped z ms own os (list_map (slot_type V m) (fields_by classes (length classes) x)) (list_map default_of (class_in (option_map (class_of classes n) x)).fields)) (sym e) tt
fields_default z ms own os V m n classes (Some c) e =
    subst (λ x. AllTyped z ms own os (list_map (slot_type V m) (fields_by classes (length classes) x)) (list_map default_of (class_in (option_map (class_of classes n) x)).fields)) (sym e)
    (defaults_typed z ms own os V m (fields_by classes (length classes) (Some c)))

-- ---- a number that no place holds

list_index : (x : Thing) (ls : List (List Slot)) (m : ℕ) → how_many x (slice_index_or ls m []) ≤ in_lists x ls
list_index x [] m = omega arith
list_index x (l ∷ ls) zero = omega arith
list_index x (l ∷ ls) (suc m) = omega (arith, list_index x ls m)

module _ (z : Environment) (ms : Modules) (T m n : ℕ) where
  module _ (own : Owners) (k : ℕ) (os : ScriptObjects) (o : ScriptRecord) where
    -- who made what, with the new object
    abbrev owners : Owners
    owners = λ j. cond (nat_eq k j) m (own j)

    abbrev later : ScriptObjects
    later = map.insert os k o

    abbrev count_at : Bool → ℕ
    count_at b = cond b 1 0

    other_at : (j : ℕ) (b c : Bool) → nat_eq j k ≡ b → nat_eq k j ≡ c → count_at b ≡ 0 → nat_eq k j ≡ false
    other_at j true c e f h = absurd (omega (arith, h))
    other_at j false true e f h = absurd (let x : true ≡ false = sym (eq-eqb j k (sym (eqb-true k j f))) ∙ e in let y : ⊥ = cc in y)
    other_at j false false e f h = f

    -- a value that does not name the new object keeps its type
    fresh_still : (ty : SlotType) (v : Slot) → names (NumberOf k) v ≡ 0 → HasType z ms own os ty v → HasType z ms owners later ty v
    fresh_still Number (Bits x) h t = tt
    fresh_still Number (Script j) h t = t
    fresh_still Number (Host d j) h t = t
    fresh_still (Key d) (Bits x) h t = t
    fresh_still (Key d) (Script None) h t = tt
    fresh_still (Key d) (Script (Some j)) h t = t
    fresh_still (Key d) (Host e None) h t = tt
    fresh_still (Key d) (Host e (Some j)) h t = t
    fresh_still (Family q c) (Bits x) h t = t
    fresh_still (Family q c) (Script None) h t = tt
    fresh_still (Family q c) (Script (Some j)) h t = λ p g.
        let no = other_at j (nat_eq j k) (nat_eq k j) refl refl h in
        let was : map.get os j ≡ Some p = sym (get_inserted os k j o ∙ ap (λ b. cond b (Some o) (map.get os j)) no) ∙ g in
        let r = t p was in
        (ap (λ b. cond b m (own j)) no ∙ r.0, r.1)
    fresh_still (Family q c) (Host d j) h t = t

    fresh_all : (types : List SlotType) (vs : List Slot) → how_many (NumberOf k) vs ≡ 0 → AllTyped z ms own os types vs → AllTyped z ms owners later types vs
    fresh_all [] [] h t = tt
    fresh_all [] (v ∷ vs) h t = t
    fresh_all (s ∷ types) [] h t = t
    fresh_all (s ∷ types) (v ∷ vs) h t = (fresh_still s v (omega (arith, h)) t.0, fresh_all types vs (omega (arith, h)) t.1)

    objects_at : (q : ℕ) (p : ScriptRecord) (b : Bool) → nat_eq k q ≡ b → ((j : ℕ) (x : ScriptRecord) → map.get os j ≡ Some x → IsTypedObject z ms own os j x)
        → ((j : ℕ) (x : ScriptRecord) → map.get os j ≡ Some x → how_many (NumberOf k) x.fields ≡ 0) → IsTypedObject z ms owners later k o → cond b (Some o) (map.get os q) ≡ Some p
        → IsTypedObject z ms owners later q p
    objects_at q p true e t none new g =
        let s : o ≡ p = ap (λ x. unwrap_or x o) g in
        subst (λ j. IsTypedObject z ms owners later j p) (eqb-true k q e) (subst (λ x. IsTypedObject z ms owners later k x) s new)
    objects_at q p false e t none new g =
        let old = t q p g in
        let mine : owners q ≡ own q = ap (λ b. cond b m (own q)) e in
        record {
          fields = subst (λ j. AllTyped z ms owners later (field_types ms j p.class) p.fields) (sym mine) (fresh_all (field_types ms (own q) p.class) p.fields (none q p g) old.fields);
          rank = old.rank ∙ ap (λ j. (class_in (z.class j p.class)).rank) (sym mine);
          made = subst (λ j. (ms j).is_class p.class ≡ true) (sym mine) old.made;
        }

  module _ (tree : HasTree z m (ms m).program) (classes : AreClasses z ms m) (is_class : (ms m).is_class n ≡ true) where
    class_there : (c : Option Class) → list_any (nat_eq n) (class_in c).under ≡ true → is_some c ≡ true
    class_there None h = absurd (let x : ⊥ = cc in x)
    class_there (Some c) h = refl

    there : is_some (z.class m n) ≡ true
    there = class_there (z.class m n) (classes.itself n is_class)

    abbrev made : ScriptRecord
    made = new_object (class_at z m n)

    made_good : (locals below : List SlotType) (ls under : List Slot) (t k : ℕ) (is : List Input) (w : World) → map.get w.objects k ≡ None → At z ms T t locals below ls under w
        → IsGoodEnd z ms T (Family m n) locals below under (Gave (Script (Some k)) ls t (record w { inputs = is; objects = map.insert w.objects k made }))
    made_good locals below ls under t k is w free h =
        let g = h.1 in
        let os = w.objects in
        let own = owners g.own k os made in
        let os' = map.insert os k made in
        let own_k : own k ≡ m = ap (λ b. cond b m (g.own k)) (eq-eqb k k refl) in
        let zero_count : count_in (NumberOf k) w ≡ 0 = ap count_of_object free in
        let counts = g.counted.counts.counts (NumberOf k) in
        let new : IsTypedObject z ms own os' k made = record {
          fields = subst (λ j. AllTyped z ms own os' (field_types ms j n) made.fields) (sym own_k)
              (subst (λ c. AllTyped z ms own os' (field_types ms m n) (list_map default_of (class_in c).fields)) (sym (tree.classes n))
              (fields_default z ms own os' (ms m).view m n (ms m).program.classes (slice_get (ms m).program.classes n) refl));
          rank = ap (λ j. (class_in (z.class j n)).rank) (sym own_k);
          made = subst (λ j. (ms j).is_class n ≡ true) (sym own_k) is_class;
        } in
        let value : HasType z ms own os' (Family m n) (Script (Some k)) = λ o e.
        let same : made ≡ o = ap (λ x. unwrap_or x made) (sym (get_inserted os k k made ∙ ap (λ b. cond b (Some made) (map.get os k)) (eq-eqb k k refl)) ∙ e) in
        (own_k, subst (λ x. IsUnder z ms m x n) (ap (λ (x : ScriptRecord). x.class) same) (classes.itself n is_class)) in
        let good : Good z ms locals (Family m n ∷ below) ls (Script (Some k) ∷ under) (record w { inputs = is; objects = os' }) = record {
          own = own;
          locals_typed = fresh_all g.own k os made locals ls (omega (arith, zero_count, counts, many_append (NumberOf k) ls under)) g.locals_typed;
          under_typed = (value, fresh_all g.own k os made below under (omega (arith, zero_count, counts, many_append (NumberOf k) ls under)) g.under_typed);
          world = record {
            objects = λ q p e. objects_at g.own k os made q p (nat_eq k q) refl g.world.objects
                (λ j x h. omega (arith, zero_count, counts, sum-bound (λ (r : ScriptRecord). how_many (NumberOf k) r.fields) os j x h)) new (sym (get_inserted os k q made) ∙ e);
            globals = λ j. fresh_all g.own k os made (global_types ms j) (slice_index_or w.globals j [])
                (omega (arith, zero_count, counts, list_index (NumberOf k) w.globals j)) (g.world.globals j);
          };
          counted = below_counted z ms (Script (Some k)) ls under (record w { inputs = is; objects = os' }) (new_counted k (class_at z m n) is (ls ++ under) w free g.counted);
        } in
        (h.0, good)

    made_by : (locals below : List SlotType) (ls under : List Slot) (t : ℕ) (is : List Input) (w : World) → At z ms T t locals below ls under w
        → IsGoodEnd z ms T (Family m n) locals below under (performed (made_from (class_at z m n) is w) [] ls t)
    made_by locals below ls under t [] w g = g.1
    made_by locals below ls under t (Fresh k ∷ is) w g = made_good locals below ls under t (number_for k w.objects) is w (number_free k w.objects) g
    made_by locals below ls under t (Room b ∷ is) w g = g.1
    made_by locals below ls under t (Said r ∷ is) w g = g.1
    made_by locals below ls under t (Tallied b ∷ is) w g = g.1

    made_tried : (locals below : List SlotType) (ls under : List Slot) (t : ℕ) (w : World) (o : Tried) → TriedLeads w o → TriedCounted (ls ++ under) (ls ++ under) o → At z ms T t locals below ls under w
        → IsGoodEnd z ms T (Family m n) locals below under (performed (or_else o (Fails Memory) (λ u. made_from (class_at z m n) u.inputs u)) [] ls t)
    made_tried locals below ls under t w (No u) k p h = let g = h.1 in moved_good z ms g.own locals below ls under w u g.locals_typed g.under_typed (moves_of z ms g.own w u g.world k) p
    made_tried locals below ls under t w (Yes u) k p h =
        let g = h.1 in
        made_by locals below ls under t u.inputs u (h.0, moved_good z ms g.own locals below ls under w u g.locals_typed g.under_typed (moves_of z ms g.own w u g.world k) p)

    -- where no more slots are allowed
    made_if : (b : Bool) (locals below : List SlotType) (ls under : List Slot) (t : ℕ) (w : World) (o : Done) → At z ms T t locals below ls under w
        → IsGoodEnd z ms T (Family m n) locals below under (performed o [] ls t) → IsGoodEnd z ms T (Family m n) locals below under (performed (cond b o (Fails Memory w)) [] ls t)
    made_if true locals below ls under t w o g h = h
    made_if false locals below ls under t w o g h = g.1

    pub make_good : (y : Guard) (locals below : List SlotType) (ls under : List Slot) (t : ℕ) (w : World) → At z ms T t locals below ls under w
        → IsGoodEnd z ms T (Family m n) locals below under (applied (perform z m (Make n)) (Ready [] ls t w))
        × (applied (guarded.perform (misfits y) z m (Make n)) (Ready [] ls t w) ≡ applied (perform z m (Make n)) (Ready [] ls t w))
    unfolding perform fits is_fit
    make_good y locals below ls under t w g = (
      made_if (may_make (class_at z m n) w) locals below ls under t w _ g
          (made_tried locals below ls under t w (memory_step w) (memory_leads w) (memory_counted (ls ++ under) w (g.1).counted) g),
      ap (λ d. performed d [] ls t) (guard_passes y (is_some (z.class m n) && true) (perform z m (Make n) [] w) (λ f. Fails f w) (both_true (is_some (z.class m n)) true there refl)),
    )

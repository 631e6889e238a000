-- Fields of objects are read, written and changed: they have the types of their families' fields, and take what has such a type.
use Rattle.std.proofs.Common.{◌≡◌, ℕ, zero, suc, List, [], ◌∷◌, ◌++◌, length, Some, None, refl, sym, ap, ◌∙◌, subst, unwrap_or, arith}
use Rattle.std.specs.Prelude.{Bool, true, false, cond, ◌&&◌, nat_eq, nat_lt, map as list_map, slice_get, slice_set, slice_index_or}
use Rattle.std.specs.FinMap as map
use Rattle.std.proofs.lemmas.Bool.{lt-ltb, eqb-true}
use Rattle.ang_kinds.specs.declared.fault.Fault.TheVariants.{Null, Tally}
use Rattle.ang_types.specs.declared.arg_type.ArgType.{ArgType}
use Rattle.ang_types.specs.declared.arg_type.ArgType.TheVariants as type
use Rattle.ang_view.specs.Registration.{RegistrationList}
use Rattle.ang_meaning.specs.declared.slot.Slot.{Slot}
use Rattle.ang_meaning.specs.declared.slot.Slot.TheVariants.{Bits, Script, Host}
use Rattle.ang_meaning.specs.declared.operation.Operation.TheVariants.{FieldGet, FieldSet, FieldChange}
use Rattle.ang_meaning.specs.declared.operation.Update.{Update}
use Rattle.ang_meaning.specs.Numbers.{Changed, Into, Never}
use Rattle.ang_meaning.specs.World.{World, ScriptRecord, ScriptObjects, Tried, Yes, No, or_else, hold, give}
use Rattle.ang_meaning.specs.Environment.{Environment, class_in, is_fit}
use Rattle.ang_meaning.specs.Hosts.{Fails}
use Rattle.ang_meaning.specs.Perform.{perform, change_of, field_of, field_or, field_put, with_field, is_lower, may_take, stored_field, changed_field, gives_up}
use Rattle.ang_meaning.specs.Results.{local_at}
use Rattle.ang_meaning.specs.Counting.{IsCounted}
use Rattle.ang_meaning.proofs.Counted.{TriedCounted, first_there, hold_counted}
use Rattle.ang_meaning.proofs.Tables.{get_inserted}
use Rattle.ang_source.specs.Meaning.{fields_by}
use Rattle.ang_source_typed.specs.Types.{SlotType, Number, Key, Family, Modules, Owners, IsUnder, HasType, AllTyped, IsTypedObject, IsTypedWorld, slot_type, first_family, field_types, global_types}
use Rattle.ang_source_typed.specs.TypedProgram.{AreClasses}
use Rattle.ang_source_typed.specs.Guarded.{is_number, fields_in, fits}
use Rattle.ang_source_typed.proofs.Values.{Earlier, SameKinds, TriedLeads, leads_same, hold_leads, still, all_still, leads_world, Moves, moves_of, DoneTyped, done_of, leads_type, holding_leads, gives_up_leads, typed_at, typed_within, typed_put}
use Rattle.ang_source_typed.proofs.Operations.{DoesWell, both_true, number_fits, here, second_counted, give_after, lead_then, local_number}

-- ---- the families that a module's types name are its own

abbrev home_of : SlotType → ℕ → ℕ
home_of Number d = d
home_of (Key e) d = d
home_of (Family k c) d = k

object_home : (b : Bool) (m e n k d : ℕ) → cond b (Key e) (Family m n) ≡ Family k d → k ≡ m
object_home true m e n k d h = absurd (let x : ⊥ = cc in x)
object_home false m e n k d h = ap (λ t. home_of t m) (sym h)

slot_home : (V : RegistrationList) (m : ℕ) (a : ArgType) (k d : ℕ) → slot_type V m a ≡ Family k d → k ≡ m
slot_home V m type.Void k d h = absurd (let x : ⊥ = cc in x)
slot_home V m type.Null k d h = absurd (let x : ⊥ = cc in x)
slot_home V m (type.Plain p) k d h = absurd (let x : ⊥ = cc in x)
slot_home V m (type.Enumeration n) k d h = absurd (let x : ⊥ = cc in x)
slot_home V m (type.Object n c) k d h = object_home (nat_lt n first_family) m _ _ k d h
slot_home V m (type.Handle n c) k d h = object_home (nat_lt n first_family) m _ _ k d h

types_home : (V : RegistrationList) (m : ℕ) (types : List ArgType) (i k d : ℕ) → slice_get (list_map (slot_type V m) types) i ≡ Some (Family k d) → k ≡ m
types_home V m [] i k d h = absurd (let x : ⊥ = cc in x)
types_home V m (a ∷ types) zero k d h = slot_home V m a k d (ap (λ o. unwrap_or o (slot_type V m a)) h)
types_home V m (a ∷ types) (suc i) k d h = types_home V m types i k d h

module _ (z : Environment) (ms : Modules) (m : ℕ) (classes : AreClasses z ms m) where
  -- an object of a family with a field of this type
  pub record Held (own : Owners) (i n : ℕ) (ty : SlotType) (w : World) : Type 0 where
    pub object : ScriptRecord
    pub there : map.get w.objects n ≡ Some object
    pub mine : own n ≡ m
    pub typed : IsTypedObject z ms own w.objects n object
    pub field : slice_get (field_types ms m object.class) i ≡ Some ty

  pub held_at : (own : Owners) (c i n : ℕ) (ty : SlotType) (w : World) → slice_get (field_types ms m c) i ≡ Some ty → HasType z ms own w.objects (Family m c) (Script (Some n))
      → IsTypedWorld z ms own w → ((o : ScriptRecord) × (map.get w.objects n ≡ Some o)) → Held own i n ty w
  held_at own c i n ty w e h t o =
      let mine = h o.0 o.1 in
      record { object = o.0; there = o.1; mine = mine.0; typed = t.objects n o.0 o.1; field = classes.inherits (o.0).class c i ty mine.1 e }

  held_of : (own : Owners) (c i n : ℕ) (ty : SlotType) (s : List Slot) (w : World) → slice_get (field_types ms m c) i ≡ Some ty → HasType z ms own w.objects (Family m c) (Script (Some n))
      → IsTypedWorld z ms own w → IsCounted (Script (Some n) ∷ s) w → Held own i n ty w
  held_of own c i n ty s w e h t p = held_at own c i n ty w e h t (here n s w p)

  -- its fields, by the types of the class in the module
  fields_typed : (own : Owners) (i n : ℕ) (ty : SlotType) (w : World) (h : Held own i n ty w) → AllTyped z ms own w.objects (field_types ms m h.object.class) h.object.fields
  fields_typed own i n ty w h = subst (λ k. AllTyped z ms own w.objects (field_types ms k h.object.class) h.object.fields) h.mine h.typed.fields

  pub has_it : (own : Owners) (i n : ℕ) (ty : SlotType) (w : World) → Held own i n ty w → nat_lt i (length (fields_in (map.get w.objects n))) ≡ true
  has_it own i n ty w h =
      ap (λ o. nat_lt i (length (fields_in o))) h.there
      ∙ lt-ltb i (length h.object.fields) (typed_within z ms own w.objects i (field_types ms m h.object.class) h.object.fields ty h.field (fields_typed own i n ty w h))

  pub field_typed : (own : Owners) (i n : ℕ) (ty : SlotType) (d : Slot) (w : World) → Held own i n ty w → HasType z ms own w.objects ty (field_or n i d w)
  unfolding field_or
  field_typed own i n ty d w h =
      subst (λ o. HasType z ms own w.objects ty (field_of o i d)) (sym h.there)
      (typed_at z ms own w.objects i (field_types ms m h.object.class) h.object.fields ty d h.field (fields_typed own i n ty w h))

  -- ---- reading

  get_does : (c i : ℕ) (ty : SlotType) → slice_get (field_types ms m c) i ≡ Some ty → (own : Owners) (vs s : List Slot) (w : World) → AllTyped z ms own w.objects (Family m c ∷ []) vs
      → IsTypedWorld z ms own w → IsCounted (vs ++ s) w → (fits z m (FieldGet i) vs w ≡ true) × DoneTyped z ms own ty w (perform z m (FieldGet i) vs w)
  unfolding perform fits
  get_does c i ty e own [] s w h t p = absurd h
  get_does c i ty e own (Bits x ∷ us) s w h t p = absurd h.0
  get_does c i ty e own (Script None ∷ []) s w h t p = (refl, moves_of z ms own w w t (leads_same w))
  get_does c i ty e own (Script None ∷ (u ∷ us)) s w h t p = absurd h.1
  get_does c i ty e own (Script (Some n) ∷ []) s w h t p =
      let held = held_of own c i n ty s w e h.0 t p in
      let v = field_or n i (Bits 0) w in (
        has_it own i n ty w held,
        done_of z ms own ty w _ t (gives_up_leads z ms own ty (Script (Some n) ∷ []) w _ (holding_leads z ms own ty v w (field_typed own i n ty (Bits 0) w held))),
      )
  get_does c i ty e own (Script (Some n) ∷ (u ∷ us)) s w h t p = absurd h.1
  get_does c i ty e own (Host d j ∷ us) s w h t p = absurd h.0

  pub gets_field : (c i : ℕ) (ty : SlotType) → slice_get (field_types ms m c) i ≡ Some ty → DoesWell z ms m (FieldGet i) (Family m c ∷ []) ty
  unfolding is_fit
  gets_field c i ty e = record { fit = refl; does = get_does c i ty e }

  -- ---- storing

  same_at : (b : Bool) (os : ScriptObjects) (n q : ℕ) (o r p : ScriptRecord) → nat_eq n q ≡ b → map.get os n ≡ Some o → o.class ≡ r.class → o.rank ≡ r.rank
      → cond b (Some r) (map.get os q) ≡ Some p → Earlier os q p
  same_at true os n q o r p e g c k h =
      let s : r ≡ p = ap (λ x. unwrap_or x r) h in
      record { old = o; there = ap (map.get os) (sym (eqb-true n q e)) ∙ g; class = c ∙ ap (λ (x : ScriptRecord). x.class) s; rank = k ∙ ap (λ (x : ScriptRecord). x.rank) s }
  same_at false os n q o r p e g c k h = record { old = p; there = h; class = refl; rank = refl }

  object_at : (b : Bool) (own : Owners) (os later : ScriptObjects) (n q : ℕ) (r p : ScriptRecord) → nat_eq n q ≡ b → SameKinds os later
      → ((j : ℕ) (x : ScriptRecord) → map.get os j ≡ Some x → IsTypedObject z ms own os j x) → IsTypedObject z ms own later n r → cond b (Some r) (map.get os q) ≡ Some p
      → IsTypedObject z ms own later q p
  object_at true own os later n q r p e k t new h =
      let s : r ≡ p = ap (λ x. unwrap_or x r) h in
      subst (λ j. IsTypedObject z ms own later j p) (eqb-true n q e) (subst (λ x. IsTypedObject z ms own later n x) s new)
  object_at false own os later n q r p e k t new h =
      let old = t q p h in
      record { fields = all_still z ms own os later (field_types ms (own q) p.class) p.fields k old.fields; rank = old.rank; made = old.made }

  pub put_typed : (own : Owners) (i n : ℕ) (ty : SlotType) (v : Slot) (w : World) → Held own i n ty w → HasType z ms own w.objects ty v → IsTypedWorld z ms own w
      → Moves z ms own w (field_put n i v w)
  unfolding field_put
  put_typed own i n ty v w h q t =
      let os = w.objects in
      let o = h.object in
      let r = record o { fields = slice_set o.fields i v } in
      let later = map.insert os n r in
      let kinds : SameKinds os later = λ j p g. same_at (nat_eq n j) os n j o r p refl h.there refl refl (sym (get_inserted os n j r) ∙ g) in
      let at : slice_get (field_types ms (own n) o.class) i ≡ Some ty = subst (λ k. slice_get (field_types ms k o.class) i ≡ Some ty) (sym h.mine) h.field in
      let new : IsTypedObject z ms own later n r = record {
        fields = all_still z ms own os later (field_types ms (own n) o.class) (slice_set o.fields i v) kinds (typed_put z ms own os i (field_types ms (own n) o.class) o.fields ty v at h.typed.fields q);
        rank = h.typed.rank;
        made = h.typed.made;
      } in
      subst (λ x. Moves z ms own w (record w { objects = with_field n x i v os })) (sym h.there) (
        kinds,
        record {
          objects = λ j p g. object_at (nat_eq n j) own os later n j r p refl kinds t.objects new (sym (get_inserted os n j r) ∙ g);
          globals = λ k. all_still z ms own os later (global_types ms k) (slice_index_or w.globals k []) kinds (t.globals k);
        },
      )

  -- what has the field's type is of a lower rank
  pub takes : (own : Owners) (i n : ℕ) (ty : SlotType) (v : Slot) (s : List Slot) (w : World) → Held own i n ty w → HasType z ms own w.objects ty v → IsTypedWorld z ms own w
      → IsCounted (v ∷ s) w → may_take n v w ≡ true
  unfolding may_take
  takes own i n ty (Bits x) s w h q t p = refl
  takes own i n ty (Script None) s w h q t p = refl
  takes own i n Number (Script (Some k)) s w h q t p = absurd q
  takes own i n (Key d) (Script (Some k)) s w h q t p = absurd q
  takes own i n (Family j d) (Script (Some k)) s w h q t p =
      let at = here k s w p in
      let held = q at.0 at.1 in
      let o = h.object in
      let home : j ≡ m = types_home (ms m).view m (fields_by (ms m).program.classes (length (ms m).program.classes) (slice_get (ms m).program.classes o.class)) i j d h.field in
      let field : slice_get (field_types ms m o.class) i ≡ Some (Family m d) = subst (λ x. slice_get (field_types ms m o.class) i ≡ Some (Family x d)) home h.field in
      let under : IsUnder z ms m (at.0).class d = subst (λ x. IsUnder z ms x (at.0).class d) home held.1 in
      let high : o.rank ≡ (class_in (z.class m o.class)).rank = h.typed.rank ∙ ap (λ x. (class_in (z.class x o.class)).rank) h.mine in
      let low : (at.0).rank ≡ (class_in (z.class m (at.0).class)).rank = (t.objects k at.0 at.1).rank ∙ ap (λ x. (class_in (z.class x (at.0).class)).rank) (held.0 ∙ home) in
      let falls = classes.falls o.class d (at.0).class i field under in
      ap (λ x. is_lower x (map.get w.objects n)) at.1 ∙ ap (λ x. is_lower (Some at.0) x) h.there ∙ lt-ltb (at.0).rank o.rank (omega (arith, high, low, falls))
  takes own i n ty (Host d k) s w h q t p = refl

  stored_typed : (own : Owners) (c i n : ℕ) (ty : SlotType) (v : Slot) (s : List Slot) (w : World) (o : Tried) → slice_get (field_types ms m c) i ≡ Some ty
      → HasType z ms own w.objects (Family m c) (Script (Some n)) → HasType z ms own w.objects ty v → IsTypedWorld z ms own w → TriedLeads w o
      → TriedCounted (v ∷ Script (Some n) ∷ v ∷ s) (Script (Some n) ∷ v ∷ s) o → DoneTyped z ms own ty w (gives_up (Script (Some n) ∷ []) (or_else o (Fails Tally) (stored_field n i v)))
  stored_typed own c i n ty v s w (No u) e r q t k p = moves_of z ms own w u t k
  stored_typed own c i n ty v s w (Yes u) e r q t k p =
      let there = leads_world z ms own w u k t in
      let value = leads_type z ms own w u ty v k q in
      let held = held_of own c i n ty (v ∷ v ∷ s) u e (leads_type z ms own w u (Family m c) (Script (Some n)) k r) there (second_counted v (Script (Some n)) (v ∷ s) u p) in
      let put = field_put n i v u in
      let one = give_after z ms m own (field_or n i v u) u put (put_typed own i n ty v u held value there) in
      let two = give_after z ms m own (Script (Some n)) u (give (field_or n i v u) put) one in
      let last = give (Script (Some n)) (give (field_or n i v u) put) in
      (still z ms own u.objects last.objects ty v two.0 value, lead_then z ms m own w u last k two)

  if_takes : (b : Bool) (own : Owners) (c i n : ℕ) (ty : SlotType) (v : Slot) (s : List Slot) (w : World) → b ≡ true → slice_get (field_types ms m c) i ≡ Some ty
      → HasType z ms own w.objects (Family m c) (Script (Some n)) → HasType z ms own w.objects ty v → IsTypedWorld z ms own w → IsCounted (Script (Some n) ∷ v ∷ s) w
      → DoneTyped z ms own ty w (gives_up (Script (Some n) ∷ []) (cond b (or_else (hold v w) (Fails Tally) (stored_field n i v)) (Fails Null w)))
  if_takes true own c i n ty v s w b e r q t p =
      stored_typed own c i n ty v s w (hold v w) e r q t (hold_leads v w)
      (hold_counted v (Script (Some n) ∷ v ∷ s) w ((first_there v (Script (Some n) ∷ s) w (second_counted (Script (Some n)) v s w p)).0) p)
  if_takes false own c i n ty v s w b e r q t p = absurd (let x : ⊥ = cc in x)

  set_does : (c i : ℕ) (ty : SlotType) → slice_get (field_types ms m c) i ≡ Some ty → (own : Owners) (vs s : List Slot) (w : World) → AllTyped z ms own w.objects (Family m c ∷ ty ∷ []) vs
      → IsTypedWorld z ms own w → IsCounted (vs ++ s) w → (fits z m (FieldSet i) vs w ≡ true) × DoneTyped z ms own ty w (perform z m (FieldSet i) vs w)
  unfolding perform fits
  set_does c i ty e own [] s w h t p = absurd h
  set_does c i ty e own (o ∷ []) s w h t p = absurd h.1
  set_does c i ty e own (Bits x ∷ (v ∷ us)) s w h t p = absurd h.0
  set_does c i ty e own (Script None ∷ (v ∷ [])) s w h t p = (refl, moves_of z ms own w w t (leads_same w))
  set_does c i ty e own (Script (Some n) ∷ (v ∷ [])) s w h t p =
      let held = held_of own c i n ty (v ∷ s) w e h.0 t p in
      let may = takes own i n ty v (Script (Some n) ∷ s) w held h.1.0 t (second_counted (Script (Some n)) v s w p) in (
        both_true (nat_lt i (length (fields_in (map.get w.objects n)))) (may_take n v w) (has_it own i n ty w held) may,
        if_takes (may_take n v w) own c i n ty v s w may e h.0 h.1.0 t p,
      )
  set_does c i ty e own (Script None ∷ (v ∷ (u ∷ us))) s w h t p = absurd h.1.1
  set_does c i ty e own (Script (Some n) ∷ (v ∷ (u ∷ us))) s w h t p = absurd h.1.1
  set_does c i ty e own (Host d j ∷ (v ∷ us)) s w h t p = absurd h.0

  pub sets_field : (c i : ℕ) (ty : SlotType) → slice_get (field_types ms m c) i ≡ Some ty → DoesWell z ms m (FieldSet i) (Family m c ∷ ty ∷ []) ty
  unfolding is_fit
  sets_field c i ty e = record { fit = refl; does = set_does c i ty e }

  -- ---- changing

  changed_typed : (own : Owners) (i n : ℕ) (r : Changed) (w : World) → Held own i n Number w → IsTypedWorld z ms own w
      → DoneTyped z ms own Number w (gives_up (Script (Some n) ∷ []) (changed_field n i r w))
  changed_typed own i n (Into stored given) w h t =
      (tt, give_after z ms m own (Script (Some n)) w (field_put n i (Bits stored) w) (put_typed own i n Number (Bits stored) w h tt t))
  changed_typed own i n (Never f) w h t = moves_of z ms own w w t (leads_same w)

  number_in : (own : Owners) (i n : ℕ) (w : World) → Held own i n Number w → is_number (local_at (fields_in (map.get w.objects n)) i) ≡ true
  number_in own i n w h =
      ap (λ o. is_number (local_at (fields_in o) i)) h.there
      ∙ local_number z ms m own w.objects i (field_types ms m h.object.class) h.object.fields h.field (fields_typed own i n Number w h)

  change_does : (c i : ℕ) (by : Update) → slice_get (field_types ms m c) i ≡ Some Number → (own : Owners) (vs s : List Slot) (w : World)
      → AllTyped z ms own w.objects (Family m c ∷ Number ∷ []) vs → IsTypedWorld z ms own w → IsCounted (vs ++ s) w
      → (fits z m (FieldChange by i) vs w ≡ true) × DoneTyped z ms own Number w (perform z m (FieldChange by i) vs w)
  unfolding perform fits
  change_does c i by e own [] s w h t p = absurd h
  change_does c i by e own (o ∷ []) s w h t p = absurd h.1
  change_does c i by e own (Bits x ∷ (v ∷ us)) s w h t p = absurd h.0
  change_does c i by e own (Script None ∷ (v ∷ [])) s w h t p = (number_fits z ms own w.objects v h.1.0, moves_of z ms own w w t (leads_same w))
  change_does c i by e own (Script (Some n) ∷ (v ∷ [])) s w h t p =
      let held = held_of own c i n Number (v ∷ s) w e h.0 t p in
      let old = local_at (fields_in (map.get w.objects n)) i in (
        both_true (nat_lt i (length (fields_in (map.get w.objects n)))) (is_number old && is_number v) (has_it own i n Number w held)
            (both_true (is_number old) (is_number v) (number_in own i n w held) (number_fits z ms own w.objects v h.1.0)),
        changed_typed own i n (change_of by (field_or n i (Bits 0) w) v) w held t,
      )
  change_does c i by e own (Script None ∷ (v ∷ (u ∷ us))) s w h t p = absurd h.1.1
  change_does c i by e own (Script (Some n) ∷ (v ∷ (u ∷ us))) s w h t p = absurd h.1.1
  change_does c i by e own (Host d j ∷ (v ∷ us)) s w h t p = absurd h.0

  pub changes_field : (c i : ℕ) (by : Update) → slice_get (field_types ms m c) i ≡ Some Number → DoesWell z ms m (FieldChange by i) (Family m c ∷ Number ∷ []) Number
  unfolding is_fit
  changes_field c i by e = record { fit = refl; does = change_does c i by e }

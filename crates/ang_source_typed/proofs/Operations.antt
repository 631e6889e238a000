-- Each operation on operands of its types meets no misfit, gives a value of its type, and leaves all places typed.
use Rattle.std.proofs.Common.{◌≡◌, ℕ, zero, suc, ◌<◌, List, [], ◌∷◌, ◌++◌, length, Option, Some, None, refl, sym, subst, arith}
use Rattle.std.specs.Prelude.{Bool, true, false, ◌&&◌, slice_get, slice_set, slice_index_or}
use Rattle.std.specs.FinMap as map
use Rattle.std.proofs.lemmas.Bool.{lt-ltb}
use Rattle.ang_kinds.specs.declared.fault.Fault.TheVariants.{Tally}
use Rattle.ang_meaning.specs.declared.slot.Slot.{Slot}
use Rattle.ang_meaning.specs.declared.slot.Slot.TheVariants.{Bits, Script, Host}
use Rattle.ang_meaning.specs.declared.operation.Operation.{Operation}
use Rattle.ang_meaning.specs.declared.operation.Operation.TheVariants.{Binary, Compare, Convert, Negate, Complement, Not, Same, GlobalGet, GlobalSet, GlobalChange, Cast}
use Rattle.ang_meaning.specs.declared.operation.Update.{Update}
use Rattle.ang_meaning.specs.Numbers.{Worked, Is, Cannot, Changed, Into, Never, binary_result}
use Rattle.ang_meaning.specs.World.{World, ScriptRecord, ScriptObjects, Tried, Yes, No, or_else, hold, give}
use Rattle.ang_meaning.specs.Environment.{Environment, is_fit}
use Rattle.ang_meaning.specs.Hosts.{Fine, Fails}
use Rattle.ang_meaning.specs.Perform.{perform, work_done, change_of, globals_of, global_or, global_put, stored_global, changed_global, is_under, cast_to}
use Rattle.ang_meaning.specs.Results.{local_at}
use Rattle.ang_meaning.specs.Counting.{count_of_object, IsCounted}
use Rattle.ang_meaning.proofs.Counted.{first_there, counted_as}
use Rattle.ang_source_typed.specs.Types.{SlotType, Number, Key, Family, Modules, Owners, HasType, AllTyped, IsTypedWorld, global_types}
use Rattle.ang_source_typed.specs.TypedProgram.{IsHandle}
use Rattle.ang_source_typed.specs.Guarded.{is_number, is_handle, has_global, fits}
use Rattle.ang_source_typed.proofs.Values.{kinds_same, kinds_then, kinds_kept, Leads, TriedLeads, leads_same, leads_then, give_leads, hold_leads, still, leads_world, Moves, moves_of, DoneTyped, DoneLeads, done_of, leads_type, holding_leads, typed_at, typed_within, typed_put}

pub both_true : (a b : Bool) → a ≡ true → b ≡ true → (a && b) ≡ true
both_true a b h k = λ j. h j && k j

pub number_fits : (z : Environment) (ms : Modules) (own : Owners) (os : ScriptObjects) (v : Slot) → HasType z ms own os Number v → is_number v ≡ true
number_fits z ms own os (Bits n) h = refl
number_fits z ms own os (Script k) h = absurd h
number_fits z ms own os (Host d k) h = absurd h

handle_fits : (z : Environment) (ms : Modules) (own : Owners) (os : ScriptObjects) (ty : SlotType) (v : Slot) → IsHandle ty → HasType z ms own os ty v → is_handle v ≡ true
handle_fits z ms own os Number v i h = absurd i
handle_fits z ms own os (Key d) (Bits n) i h = absurd h
handle_fits z ms own os (Key d) (Script k) i h = refl
handle_fits z ms own os (Key d) (Host e k) i h = refl
handle_fits z ms own os (Family m c) (Bits n) i h = absurd h
handle_fits z ms own os (Family m c) (Script k) i h = refl
handle_fits z ms own os (Family m c) (Host e k) i h = refl

pub here_at : (o : Option ScriptRecord) → 0 < count_of_object o → (p : ScriptRecord) × (o ≡ Some p)
here_at None h = absurd (omega (arith, h))
here_at (Some p) h = (p, refl)

-- an object that is held by a place is there
pub here : (n : ℕ) (s : List Slot) (w : World) → IsCounted (Script (Some n) ∷ s) w → (p : ScriptRecord) × (map.get w.objects n ≡ Some p)
here n s w c = here_at (map.get w.objects n) ((first_there (Script (Some n)) s w c).0)

pub second_counted : (u v : Slot) (s : List Slot) (w : World) → IsCounted (u ∷ v ∷ s) w → IsCounted (v ∷ u ∷ s) w
second_counted u v s w p = counted_as (u ∷ v ∷ s) (v ∷ u ∷ s) w (λ x. omega arith) p

module _ (z : Environment) (ms : Modules) (m : ℕ) where
  -- An operation on operands of these types, the last one first, gives a value of this type. What lies below them is counted.
  pub record DoesWell (o : Operation) (types : List SlotType) (ty : SlotType) : Type 0 where
    pub fit : is_fit z m o ≡ true
    pub does : (own : Owners) (vs s : List Slot) (w : World) → AllTyped z ms own w.objects types vs → IsTypedWorld z ms own w → IsCounted (vs ++ s) w
        → (fits z m o vs w ≡ true) × DoneTyped z ms own ty w (perform z m o vs w)

  -- ---- numbers

  unary : (o : Operation) → is_fit z m o ≡ true → ((x : ℕ) (w : World) → (fits z m o (Bits x ∷ []) w ≡ true) × ((y : ℕ) × (perform z m o (Bits x ∷ []) w ≡ Fine (Bits y) w)))
      → (own : Owners) (vs s : List Slot) (w : World) → AllTyped z ms own w.objects (Number ∷ []) vs → IsTypedWorld z ms own w → IsCounted (vs ++ s) w
      → (fits z m o vs w ≡ true) × DoneTyped z ms own Number w (perform z m o vs w)
  unary o f k own [] s w h t p = absurd h
  unary o f k own (Bits x ∷ []) s w h t p =
      let q = k x w in (q.0, subst (λ d. DoneTyped z ms own Number w d) (sym q.1.1) (tt, moves_of z ms own w w t (leads_same w)))
  unary o f k own (Bits x ∷ (u ∷ us)) s w h t p = absurd h.1
  unary o f k own (Script j ∷ us) s w h t p = absurd h.0
  unary o f k own (Host d j ∷ us) s w h t p = absurd h.0

  convert_to : (q : _) (x : ℕ) (w : World) → (fits z m (Convert q) (Bits x ∷ []) w ≡ true) × ((y : ℕ) × (perform z m (Convert q) (Bits x ∷ []) w ≡ Fine (Bits y) w))
  unfolding perform fits
  convert_to q x w = (refl, (_, refl))

  negate_to : (q : _) (x : ℕ) (w : World) → (fits z m (Negate q) (Bits x ∷ []) w ≡ true) × ((y : ℕ) × (perform z m (Negate q) (Bits x ∷ []) w ≡ Fine (Bits y) w))
  unfolding perform fits
  negate_to q x w = (refl, (_, refl))

  complement_to : (q : _) (x : ℕ) (w : World) → (fits z m (Complement q) (Bits x ∷ []) w ≡ true) × ((y : ℕ) × (perform z m (Complement q) (Bits x ∷ []) w ≡ Fine (Bits y) w))
  unfolding perform fits
  complement_to q x w = (refl, (_, refl))

  not_to : (x : ℕ) (w : World) → (fits z m Not (Bits x ∷ []) w ≡ true) × ((y : ℕ) × (perform z m Not (Bits x ∷ []) w ≡ Fine (Bits y) w))
  unfolding perform fits
  not_to x w = (refl, (_, refl))

  pub converts : (q : _) → DoesWell (Convert q) (Number ∷ []) Number
  unfolding is_fit
  converts q = record { fit = refl; does = unary (Convert q) refl (convert_to q) }

  pub negates : (q : _) → DoesWell (Negate q) (Number ∷ []) Number
  unfolding is_fit
  negates q = record { fit = refl; does = unary (Negate q) refl (negate_to q) }

  pub complements : (q : _) → DoesWell (Complement q) (Number ∷ []) Number
  unfolding is_fit
  complements q = record { fit = refl; does = unary (Complement q) refl (complement_to q) }

  pub denies : DoesWell Not (Number ∷ []) Number
  unfolding is_fit
  denies = record { fit = refl; does = unary Not refl not_to }

  binary : (o : Operation) → ((own : Owners) (x y : ℕ) (w : World) → (fits z m o (Bits y ∷ Bits x ∷ []) w ≡ true) × DoneLeads z ms own Number w (perform z m o (Bits y ∷ Bits x ∷ []) w))
      → (own : Owners) (vs s : List Slot) (w : World) → AllTyped z ms own w.objects (Number ∷ Number ∷ []) vs → IsTypedWorld z ms own w → IsCounted (vs ++ s) w
      → (fits z m o vs w ≡ true) × DoneTyped z ms own Number w (perform z m o vs w)
  binary o k own [] s w h t p = absurd h
  binary o k own (v ∷ []) s w h t p = absurd h.1
  binary o k own (Bits y ∷ (Bits x ∷ [])) s w h t p =
      let q = k own x y w in (q.0, done_of z ms own Number w (perform z m o (Bits y ∷ Bits x ∷ []) w) t q.1)
  binary o k own (Bits y ∷ (Bits x ∷ (u ∷ us))) s w h t p = absurd h.1.1
  binary o k own (Bits y ∷ (Script j ∷ us)) s w h t p = absurd h.1.0
  binary o k own (Bits y ∷ (Host d j ∷ us)) s w h t p = absurd h.1.0
  binary o k own (Script j ∷ (x ∷ us)) s w h t p = absurd h.0
  binary o k own (Host d j ∷ (x ∷ us)) s w h t p = absurd h.0

  work_leads : (own : Owners) (r : Worked) (w : World) → DoneLeads z ms own Number w (work_done r w)
  work_leads own (Is n) w = (tt, leads_same w)
  work_leads own (Cannot f) w = leads_same w

  operate_to : (a : _) (q : _) (own : Owners) (x y : ℕ) (w : World)
      → (fits z m (Binary a q) (Bits y ∷ Bits x ∷ []) w ≡ true) × DoneLeads z ms own Number w (perform z m (Binary a q) (Bits y ∷ Bits x ∷ []) w)
  unfolding perform fits
  operate_to a q own x y w = (refl, work_leads own (binary_result a q x y) w)

  compare_to : (c : _) (signed : Bool) (own : Owners) (x y : ℕ) (w : World)
      → (fits z m (Compare c signed) (Bits y ∷ Bits x ∷ []) w ≡ true) × DoneLeads z ms own Number w (perform z m (Compare c signed) (Bits y ∷ Bits x ∷ []) w)
  unfolding perform fits
  compare_to c signed own x y w = (refl, (tt, leads_same w))

  pub operates : (a : _) (q : _) → DoesWell (Binary a q) (Number ∷ Number ∷ []) Number
  unfolding is_fit
  operates a q = record { fit = refl; does = binary (Binary a q) (operate_to a q) }

  pub compares : (c : _) (signed : Bool) → DoesWell (Compare c signed) (Number ∷ Number ∷ []) Number
  unfolding is_fit
  compares c signed = record { fit = refl; does = binary (Compare c signed) (compare_to c signed) }

  -- ---- handles

  same_does : (a b : SlotType) → IsHandle a → IsHandle b → (own : Owners) (vs s : List Slot) (w : World) → AllTyped z ms own w.objects (b ∷ a ∷ []) vs → IsTypedWorld z ms own w
      → IsCounted (vs ++ s) w → (fits z m Same vs w ≡ true) × DoneTyped z ms own Number w (perform z m Same vs w)
  unfolding perform fits
  same_does a b i j own [] s w h t p = absurd h
  same_does a b i j own (y ∷ []) s w h t p = absurd h.1
  same_does a b i j own (y ∷ (x ∷ [])) s w h t p =
      let u = give x (give y w) in
      let k = leads_then w (give y w) u (give_leads y w) (give_leads x (give y w)) in (
        both_true (is_handle y) (is_handle x) (handle_fits z ms own w.objects b y j h.0) (handle_fits z ms own w.objects a x i h.1.0),
        (tt, moves_of z ms own w u t k),
      )
  same_does a b i j own (y ∷ (x ∷ (u ∷ us))) s w h t p = absurd h.1.1

  pub same : (a b : SlotType) → IsHandle a → IsHandle b → DoesWell Same (b ∷ a ∷ []) Number
  unfolding is_fit
  same a b i j = record { fit = refl; does = same_does a b i j }

  cast_done : (b : Bool) (n c k : ℕ) (own : Owners) (w : World) → is_under z m n (map.get w.objects k) ≡ b → HasType z ms own w.objects (Family m c) (Script (Some k)) → IsTypedWorld z ms own w
      → DoneTyped z ms own (Family m n) w (cast_to b k w)
  cast_done true n c k own w e h t = (λ o g. ((h o g).0, subst (λ x. is_under z m n x ≡ true) g e), moves_of z ms own w w t (leads_same w))
  cast_done false n c k own w e h t = (tt, moves_of z ms own w (give (Script (Some k)) w) t (give_leads (Script (Some k)) w))

  cast_does : (n c : ℕ) (own : Owners) (vs s : List Slot) (w : World) → AllTyped z ms own w.objects (Family m c ∷ []) vs → IsTypedWorld z ms own w → IsCounted (vs ++ s) w
      → (fits z m (Cast n) vs w ≡ true) × DoneTyped z ms own (Family m n) w (perform z m (Cast n) vs w)
  unfolding perform fits
  cast_does n c own [] s w h t p = absurd h
  cast_does n c own (Bits x ∷ us) s w h t p = absurd h.0
  cast_does n c own (Script None ∷ []) s w h t p = (refl, (tt, moves_of z ms own w w t (leads_same w)))
  cast_does n c own (Script None ∷ (u ∷ us)) s w h t p = absurd h.1
  cast_does n c own (Script (Some k) ∷ []) s w h t p = (refl, cast_done (is_under z m n (map.get w.objects k)) n c k own w refl h.0 t)
  cast_does n c own (Script (Some k) ∷ (u ∷ us)) s w h t p = absurd h.1
  cast_does n c own (Host d j ∷ us) s w h t p = absurd h.0

  pub casts : (n c : ℕ) → DoesWell (Cast n) (Family m c ∷ []) (Family m n)
  unfolding is_fit
  casts n c = record { fit = refl; does = cast_does n c }

  -- ---- globals

  pub local_index : (vs : List Slot) (i : ℕ) → local_at vs i ≡ slice_index_or vs i (Bits 0)
  local_index [] i = refl
  local_index (v ∷ vs) zero = refl
  local_index (v ∷ vs) (suc i) = local_index vs i

  set_lists : (own : Owners) (os : ScriptObjects) (types : ℕ → List SlotType) (gs : List (List Slot)) (k j : ℕ) (new : List Slot) → ((i : ℕ) → AllTyped z ms own os (types i) (slice_index_or gs i []))
      → AllTyped z ms own os (types k) new → AllTyped z ms own os (types j) (slice_index_or (slice_set gs k new) j [])
  set_lists own os types [] k j new h n = h j
  set_lists own os types (l ∷ ls) zero zero new h n = n
  set_lists own os types (l ∷ ls) zero (suc j) new h n = h (suc j)
  set_lists own os types (l ∷ ls) (suc k) zero new h n = h zero
  set_lists own os types (l ∷ ls) (suc k) (suc j) new h n = set_lists own os (λ i. types (suc i)) ls k j new (λ i. h (suc i)) n

  pub global_there : (own : Owners) (g : ℕ) (ty : SlotType) (w : World) → slice_get (global_types ms m) g ≡ Some ty → IsTypedWorld z ms own w → has_global m g w ≡ true
  global_there own g ty w e t = lt-ltb g (length (globals_of m w)) (typed_within z ms own w.objects g (global_types ms m) (globals_of m w) ty e (t.globals m))

  pub global_typed : (own : Owners) (g : ℕ) (ty : SlotType) (d : Slot) (w : World) → slice_get (global_types ms m) g ≡ Some ty → IsTypedWorld z ms own w
      → HasType z ms own w.objects ty (global_or m g d w)
  unfolding global_or
  global_typed own g ty d w e t = typed_at z ms own w.objects g (global_types ms m) (globals_of m w) ty d e (t.globals m)

  pub global_put_typed : (own : Owners) (g : ℕ) (ty : SlotType) (v : Slot) (w : World) → slice_get (global_types ms m) g ≡ Some ty → HasType z ms own w.objects ty v → IsTypedWorld z ms own w
      → Moves z ms own w (global_put m g v w)
  unfolding global_put
  global_put_typed own g ty v w e h t = (
    kinds_same w.objects,
    record {
      objects = t.objects;
      globals = λ j. set_lists own w.objects (λ i. global_types ms i) w.globals m j (slice_set (globals_of m w) g v) t.globals
          (typed_put z ms own w.objects g (global_types ms m) (globals_of m w) ty v e (t.globals m) h);
    },
  )

  pub moves_then : (own : Owners) (w u x : World) → Moves z ms own w u → Moves z ms own u x → Moves z ms own w x
  moves_then own w u x h k = (kinds_then w.objects u.objects x.objects h.0 k.0, k.1)

  -- nothing is stored, and then something
  pub lead_then : (own : Owners) (w u x : World) → Leads w u → Moves z ms own u x → Moves z ms own w x
  lead_then own w u x h k = (kinds_then w.objects u.objects x.objects (kinds_kept w.objects u.objects h.0) k.0, k.1)

  -- something is stored, and then a value is given up
  pub give_after : (own : Owners) (v : Slot) (w u : World) → Moves z ms own w u → Moves z ms own w (give v u)
  give_after own v w u h = moves_then own w u (give v u) h (moves_of z ms own u (give v u) h.1 (give_leads v u))

  get_global_does : (g : ℕ) (ty : SlotType) → slice_get (global_types ms m) g ≡ Some ty → (own : Owners) (vs s : List Slot) (w : World) → AllTyped z ms own w.objects [] vs
      → IsTypedWorld z ms own w → IsCounted (vs ++ s) w → (fits z m (GlobalGet g) vs w ≡ true) × DoneTyped z ms own ty w (perform z m (GlobalGet g) vs w)
  unfolding perform fits
  get_global_does g ty e own [] s w h t p = (
    global_there own g ty w e t,
    done_of z ms own ty w _ t (holding_leads z ms own ty (global_or m g (Bits 0) w) w (global_typed own g ty (Bits 0) w e t)),
  )
  get_global_does g ty e own (v ∷ vs) s w h t p = absurd h

  pub gets_global : (g : ℕ) (ty : SlotType) → slice_get (global_types ms m) g ≡ Some ty → DoesWell (GlobalGet g) [] ty
  unfolding is_fit
  gets_global g ty e = record { fit = refl; does = get_global_does g ty e }

  global_stored : (own : Owners) (g : ℕ) (ty : SlotType) (v : Slot) (w : World) (o : Tried) → slice_get (global_types ms m) g ≡ Some ty → HasType z ms own w.objects ty v → IsTypedWorld z ms own w
      → TriedLeads w o → DoneTyped z ms own ty w (or_else o (Fails Tally) (stored_global m g v))
  global_stored own g ty v w (No u) e h t k = moves_of z ms own w u t k
  global_stored own g ty v w (Yes u) e h t k =
      let held = leads_type z ms own w u ty v k h in
      let put = global_put_typed own g ty v u e held (leads_world z ms own w u k t) in
      let all = give_after own (global_or m g v u) u (global_put m g v u) put in
      (still z ms own u.objects (give (global_or m g v u) (global_put m g v u)).objects ty v all.0 held, lead_then own w u (give (global_or m g v u) (global_put m g v u)) k all)

  set_global_does : (g : ℕ) (ty : SlotType) → slice_get (global_types ms m) g ≡ Some ty → (own : Owners) (vs s : List Slot) (w : World) → AllTyped z ms own w.objects (ty ∷ []) vs
      → IsTypedWorld z ms own w → IsCounted (vs ++ s) w → (fits z m (GlobalSet g) vs w ≡ true) × DoneTyped z ms own ty w (perform z m (GlobalSet g) vs w)
  unfolding perform fits
  set_global_does g ty e own [] s w h t p = absurd h
  set_global_does g ty e own (v ∷ []) s w h t p = (global_there own g ty w e t, global_stored own g ty v w (hold v w) e h.0 t (hold_leads v w))
  set_global_does g ty e own (v ∷ (u ∷ us)) s w h t p = absurd h.1

  pub sets_global : (g : ℕ) (ty : SlotType) → slice_get (global_types ms m) g ≡ Some ty → DoesWell (GlobalSet g) (ty ∷ []) ty
  unfolding is_fit
  sets_global g ty e = record { fit = refl; does = set_global_does g ty e }

  global_changed : (own : Owners) (g : ℕ) (r : Changed) (w : World) → slice_get (global_types ms m) g ≡ Some Number → IsTypedWorld z ms own w → DoneTyped z ms own Number w (changed_global m g r w)
  global_changed own g (Into stored given) w e t = (tt, global_put_typed own g Number (Bits stored) w e tt t)
  global_changed own g (Never f) w e t = moves_of z ms own w w t (leads_same w)

  pub local_number : (own : Owners) (os : ScriptObjects) (i : ℕ) (types : List SlotType) (vs : List Slot) → slice_get types i ≡ Some Number → AllTyped z ms own os types vs → is_number (local_at vs i) ≡ true
  local_number own os i types vs e h =
      number_fits z ms own os (local_at vs i) (subst (λ v. HasType z ms own os Number v) (sym (local_index vs i)) (typed_at z ms own os i types vs Number (Bits 0) e h))

  change_global_does : (g : ℕ) (c : Update) → slice_get (global_types ms m) g ≡ Some Number → (own : Owners) (vs s : List Slot) (w : World) → AllTyped z ms own w.objects (Number ∷ []) vs
      → IsTypedWorld z ms own w → IsCounted (vs ++ s) w → (fits z m (GlobalChange c g) vs w ≡ true) × DoneTyped z ms own Number w (perform z m (GlobalChange c g) vs w)
  unfolding perform fits
  change_global_does g c e own [] s w h t p = absurd h
  change_global_does g c e own (v ∷ []) s w h t p = (
    both_true (has_global m g w) (is_number (local_at (globals_of m w) g) && is_number v) (global_there own g Number w e t)
        (both_true (is_number (local_at (globals_of m w) g)) (is_number v) (local_number own w.objects g (global_types ms m) (globals_of m w) e (t.globals m)) (number_fits z ms own w.objects v h.0)),
    global_changed own g (change_of c (global_or m g (Bits 0) w) v) w e t,
  )
  change_global_does g c e own (v ∷ (u ∷ us)) s w h t p = absurd h.1

  pub changes_global : (g : ℕ) (c : Update) → slice_get (global_types ms m) g ≡ Some Number → DoesWell (GlobalChange c g) (Number ∷ []) Number
  unfolding is_fit
  changes_global g c e = record { fit = refl; does = change_global_does g c e }

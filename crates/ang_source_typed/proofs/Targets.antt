-- What `&out` parameters hold moves into variables that may hold it, and what these held before is given up.
use Rattle.std.proofs.Common.{◌≡◌, ℕ, suc, List, [], ◌∷◌, ◌++◌, length, Option, Some, None, refl, sym, ap, ◌∙◌, subst, arith}
use Rattle.std.specs.Prelude.{Bool, true, false, cond, nat_lt, slice_get}
use Rattle.std.specs.FinMap as map
use Rattle.std.proofs.lemmas.Bool.{lt-ltb}
use Rattle.ang_kinds.specs.declared.primitive.Primitive.{Primitive}
use Rattle.ang_meaning.specs.declared.slot.Slot.{Slot}
use Rattle.ang_meaning.specs.declared.slot.Slot.TheVariants.{Bits, Script, Host}
use Rattle.ang_meaning.specs.declared.routine.Spot.{Spot}
use Rattle.ang_meaning.specs.declared.routine.Spot.TheVariants as spot
use Rattle.ang_meaning.specs.declared.routine.Target.{Target}
use Rattle.ang_meaning.specs.World.{World, ScriptRecord, ScriptObjects, give, give_all}
use Rattle.ang_meaning.specs.Environment.{Environment}
use Rattle.ang_meaning.specs.Perform.{globals_of, global_or, global_put, may_take, field_or, field_put, member_or, member_put}
use Rattle.ang_meaning.specs.Results.{Failed, Reply, Yields, Raises, local_at, local_set, give_back, brought, trade, settled, replied}
use Rattle.ang_meaning.specs.Counting.{Thing, names, IsCounted}
use Rattle.ang_meaning.proofs.Counting.{HasObject, many_append, bits_name_none}
use Rattle.ang_meaning.proofs.Counted.{counted_as, counted_there, names_at, store_places, put_counted, member_counted}
use Rattle.ang_source_typed.specs.Types.{SlotType, Number, Key, Family, Modules, Owners, IsA, HasType, field_types, global_types}
use Rattle.ang_source_typed.specs.TypedProgram.{Signature, AreClasses}
use Rattle.ang_source_typed.specs.Runs.{out_types}
use Rattle.ang_source_typed.specs.Guarded.{Guard, is_number, is_handle, is_alike, has_global, fields_in, field_may_hold, spot_takes, takes, all_take, misfits}
use Rattle.ang_source_typed.specs.Guarded as guarded
use Rattle.ang_source_typed.proofs.Values.{all_still, is_a, still, typed_length, both_typed, split_typed, typed_at}
use Rattle.ang_source_typed.proofs.Operations.{both_true, here_at, global_there, global_typed, global_put_typed, local_index}
use Rattle.ang_source_typed.proofs.Fields.{Held, held_at, has_it, field_typed, put_typed, takes as field_takes}
use Rattle.ang_source_typed.proofs.Ends.{Good, At, IsGoodEnd, give_good, guard_passes, local_typed, local_put, local_within, top_counted, below_counted}

module _ (z : Environment) (ms : Modules) (T : ℕ) where
  -- a reply with typed values, above whatever is typed
  abbrev pub IsGoodCall : Signature → List SlotType → List Slot → Reply → Type 0
  IsGoodCall s below under (Yields v outs t w) = At z ms T t (out_types s.params) (s.result ∷ below) outs (v ∷ under) w
  IsGoodCall s below under (Raises f w) = Good z ms [] below [] under w

  -- ---- kinds of values

  alike : (own : Owners) (os : ScriptObjects) (ty : SlotType) (u v : Slot) → HasType z ms own os ty u → HasType z ms own os ty v → is_alike u v ≡ true
  alike own os Number (Bits n) (Bits k) h t = refl
  alike own os Number (Bits n) (Script k) h t = absurd t
  alike own os Number (Bits n) (Host d k) h t = absurd t
  alike own os Number (Script j) v h t = absurd h
  alike own os Number (Host d j) v h t = absurd h
  alike own os (Key d) (Bits n) v h t = absurd h
  alike own os (Key d) (Script j) (Bits n) h t = absurd t
  alike own os (Key d) (Script j) (Script k) h t = refl
  alike own os (Key d) (Script j) (Host e k) h t = refl
  alike own os (Key d) (Host e j) (Bits n) h t = absurd t
  alike own os (Key d) (Host e j) (Script k) h t = refl
  alike own os (Key d) (Host e j) (Host f k) h t = refl
  alike own os (Family m c) (Bits n) v h t = absurd h
  alike own os (Family m c) (Script j) (Bits n) h t = absurd t
  alike own os (Family m c) (Script j) (Script k) h t = refl
  alike own os (Family m c) (Script j) (Host e k) h t = refl
  alike own os (Family m c) (Host e j) v h t = absurd h

  brought_typed : (own : Owners) (os : ScriptObjects) (ty : SlotType) (to : Option Primitive) (v : Slot) → HasType z ms own os ty v → HasType z ms own os ty (brought to v)
  unfolding brought
  brought_typed own os ty None v h = h
  brought_typed own os Number (Some p) (Bits n) h = tt
  brought_typed own os (Key d) (Some p) (Bits n) h = absurd h
  brought_typed own os (Family m c) (Some p) (Bits n) h = absurd h
  brought_typed own os ty (Some p) (Script k) h = h
  brought_typed own os ty (Some p) (Host d k) h = h

  brought_names : (to : Option Primitive) (v : Slot) (x : Thing) → names x (brought to v) ≡ names x v
  unfolding brought
  brought_names None v x = refl
  brought_names (Some p) (Bits n) x = bits_name_none _ x ∙ sym (bits_name_none n x)
  brought_names (Some p) (Script k) x = refl
  brought_names (Some p) (Host d k) x = refl

  -- ---- places by another order

  pub sink_good : (types locals below : List SlotType) (a : SlotType) (vs ls under : List Slot) (v : Slot) (w : World) → length types ≡ length vs
      → Good z ms locals (a ∷ (types ++ below)) ls (v ∷ (vs ++ under)) w → Good z ms locals (types ++ (a ∷ below)) ls (vs ++ (v ∷ under)) w
  sink_good types locals below a vs ls under v w n g =
      let q = split_typed z ms g.own w.objects types below vs under n g.under_typed.1 in
      record {
        own = g.own;
        locals_typed = g.locals_typed;
        under_typed = both_typed z ms g.own w.objects types (a ∷ below) vs (v ∷ under) q.0 (g.under_typed.0, q.1);
        world = g.world;
        counted = counted_as (ls ++ (v ∷ (vs ++ under))) (ls ++ (vs ++ (v ∷ under))) w
            (λ x. omega (arith, many_append x ls (v ∷ (vs ++ under)), many_append x ls (vs ++ (v ∷ under)), many_append x vs under, many_append x vs (v ∷ under))) g.counted;
      }

  pub raise_good : (types locals below : List SlotType) (a : SlotType) (vs ls under : List Slot) (v : Slot) (w : World) → length types ≡ length vs
      → Good z ms locals (types ++ (a ∷ below)) ls (vs ++ (v ∷ under)) w → Good z ms locals (a ∷ (types ++ below)) ls (v ∷ (vs ++ under)) w
  raise_good types locals below a vs ls under v w n g =
      let q = split_typed z ms g.own w.objects types (a ∷ below) vs (v ∷ under) n g.under_typed in
      record {
        own = g.own;
        locals_typed = g.locals_typed;
        under_typed = (q.1.0, both_typed z ms g.own w.objects types below vs under q.0 q.1.1);
        world = g.world;
        counted = counted_as (ls ++ (vs ++ (v ∷ under))) (ls ++ (v ∷ (vs ++ under))) w
            (λ x. omega (arith, many_append x ls (v ∷ (vs ++ under)), many_append x ls (vs ++ (v ∷ under)), many_append x vs under, many_append x vs (v ∷ under))) g.counted;
      }

  pub give_back_good : (types locals below : List SlotType) (vs ls under : List Slot) (w : World) → length types ≡ length vs → Good z ms locals (types ++ below) ls (vs ++ under) w
      → Good z ms locals below ls under (give_back vs w)
  give_back_good [] locals below [] ls under w n g = g
  give_back_good [] locals below (v ∷ vs) ls under w n g = absurd (omega (arith, n))
  give_back_good (s ∷ types) locals below [] ls under w n g = absurd (omega (arith, n))
  give_back_good (s ∷ types) locals below (v ∷ vs) ls under w n g =
      give_good z ms locals below ls under s v (give_back vs w)
      (give_back_good types locals (s ∷ below) vs ls (v ∷ under) w (omega (arith, n)) (sink_good types locals below s vs ls under v w (omega (arith, n)) g))

  -- ---- targets

  module _ (m : ℕ) (classes : (k : ℕ) → AreClasses z ms k) where
    -- where a variable of this type stands
    abbrev pub IsSpot : List SlotType → Spot → SlotType → Type 0
    IsSpot locals (spot.Local d) ty = slice_get locals d ≡ Some ty
    IsSpot locals (spot.Global g) ty = slice_get (global_types ms m) g ≡ Some ty
    IsSpot locals (spot.Field o i) ty = (c : ℕ) × (slice_get locals o ≡ Some (Family m c)) × (slice_get (field_types ms m c) i ≡ Some ty)

    -- a target for each of these types, which may hold it
    abbrev pub IsTargets : List SlotType → List Target → List SlotType → Type 0
    IsTargets locals [] [] = Unit {0}
    IsTargets locals [] (a ∷ types) = ⊥
    IsTargets locals (x ∷ xs) [] = ⊥
    IsTargets locals (x ∷ xs) (a ∷ types) = ((s : SlotType) × IsSpot locals x.spot s × IsA z ms a s) × IsTargets locals xs types

    -- a value that the variable may hold and the variable change places
    abbrev IsTraded : List SlotType → List SlotType → List Slot → Spot → SlotType → Slot → List Slot → World → Type 0
    IsTraded locals below under x ty v ls w =
        (spot_takes m x v ls w ≡ true) × Good z ms locals (ty ∷ below) (trade m x v ls w).locals ((trade m x v ls w).old ∷ under) (trade m x v ls w).world

    local_traded : (locals below : List SlotType) (under : List Slot) (d : ℕ) (ty : SlotType) (v : Slot) (ls : List Slot) (w : World) → slice_get locals d ≡ Some ty
        → Good z ms locals (ty ∷ below) ls (v ∷ under) w → IsTraded locals below under (spot.Local d) ty v ls w
    local_traded locals below under d ty v ls w e g =
        let lt = local_within z ms T g.own w d locals ls ty e g.locals_typed in
        let was = local_typed z ms T g.own w d locals ls ty e g.locals_typed in (
          both_true (nat_lt d (length ls)) (is_alike (local_at ls d) v) (lt-ltb d (length ls) lt) (alike g.own w.objects ty (local_at ls d) v was g.under_typed.0),
          record {
            own = g.own;
            locals_typed = local_put z ms T g.own w d locals ls ty v e g.locals_typed g.under_typed.0;
            under_typed = (was, g.under_typed.1);
            world = g.world;
            counted = counted_as (ls ++ (v ∷ under)) (local_set ls d v ++ (local_at ls d ∷ under)) w
                (λ x. omega (arith, store_places x ls d v lt, many_append x ls (v ∷ under), many_append x (local_set ls d v) (local_at ls d ∷ under))) g.counted;
          },
        )

    global_traded : (locals below : List SlotType) (under : List Slot) (n : ℕ) (ty : SlotType) (v : Slot) (ls : List Slot) (w : World) → slice_get (global_types ms m) n ≡ Some ty
        → Good z ms locals (ty ∷ below) ls (v ∷ under) w → IsTraded locals below under (spot.Global n) ty v ls w
    global_traded locals below under n ty v ls w e g =
        let put = global_put_typed z ms m g.own n ty v w e g.under_typed.0 g.world in
        let u = global_put m n v w in
        let old = subst (λ x. HasType z ms g.own w.objects ty x) (sym (local_index z ms m (globals_of m w) n)) (typed_at z ms g.own w.objects n (global_types ms m) (globals_of m w) ty (Bits 0) e (g.world.globals m)) in (
          both_true (has_global m n w) (is_alike (local_at (globals_of m w) n) v) (global_there z ms m g.own n ty w e g.world) (alike g.own w.objects ty (local_at (globals_of m w) n) v old g.under_typed.0),
          record {
            own = g.own;
            locals_typed = all_still z ms g.own w.objects u.objects locals ls put.0 g.locals_typed;
            under_typed = (
              still z ms g.own w.objects u.objects ty (global_or m n v w) put.0 (global_typed z ms m g.own n ty v w e g.world),
              all_still z ms g.own w.objects u.objects below under put.0 g.under_typed.1,
            );
            world = put.1;
            counted = below_counted z ms (global_or m n v w) ls under u (put_counted m n v v (ls ++ under) w (λ x. refl) (top_counted z ms v ls under w g.counted));
          },
        )

    object_traded : (b : Bool) (locals below : List SlotType) (under : List Slot) (n i : ℕ) (ty : SlotType) (v : Slot) (ls : List Slot) (w : World) → b ≡ true
        → (g : Good z ms locals (ty ∷ below) ls (v ∷ under) w) → Held z ms m (classes m) g.own i n ty w → IsCounted (cond b (field_or n i v w) v ∷ (ls ++ under)) (cond b (field_put n i v w) w)
        → Good z ms locals (ty ∷ below) ls (cond b (field_or n i v w) v ∷ under) (cond b (field_put n i v w) w)
    object_traded true locals below under n i ty v ls w e g h p =
        let put = put_typed z ms m (classes m) g.own i n ty v w h g.under_typed.0 g.world in
        let u = field_put n i v w in
        record {
          own = g.own;
          locals_typed = all_still z ms g.own w.objects u.objects locals ls put.0 g.locals_typed;
          under_typed = (
            still z ms g.own w.objects u.objects ty (field_or n i v w) put.0 (field_typed z ms m (classes m) g.own i n ty v w h),
            all_still z ms g.own w.objects u.objects below under put.0 g.under_typed.1,
          );
          world = put.1;
          counted = below_counted z ms (field_or n i v w) ls under u p;
        }
    object_traded false locals below under n i ty v ls w e g h p = absurd (let x : ⊥ = cc in x)

    -- the object is held by a local
    member_traded : (locals below : List SlotType) (under : List Slot) (c i : ℕ) (ty : SlotType) (o v : Slot) (ls : List Slot) (w : World) → slice_get (field_types ms m c) i ≡ Some ty
        → (g : Good z ms locals (ty ∷ below) ls (v ∷ under) w) → HasType z ms g.own w.objects (Family m c) o
        → ((n : ℕ) → o ≡ Script (Some n) → (p : ScriptRecord) × (map.get w.objects n ≡ Some p))
        → (field_may_hold i o v w ≡ true) × Good z ms locals (ty ∷ below) ls (member_or i o v w ∷ under) (member_put i o v w)
    unfolding member_or member_put
    member_traded locals below under c i ty (Bits x) v ls w e g h there = absurd h
    member_traded locals below under c i ty (Script None) v ls w e g h there = (refl, g)
    member_traded locals below under c i ty (Script (Some n)) v ls w e g h there =
        let held = held_at z ms m (classes m) g.own c i n ty w e h g.world (there n refl) in
        let top = top_counted z ms v ls under w g.counted in
        let may = field_takes z ms m (classes m) g.own i n ty v (ls ++ under) w held g.under_typed.0 g.world top in (
          both_true (nat_lt i (length (fields_in (map.get w.objects n)))) (may_take n v w) (has_it z ms m (classes m) g.own i n ty w held) may,
          object_traded (may_take n v w) locals below under n i ty v ls w may g held (member_counted i (Script (Some n)) v (ls ++ under) w top),
        )
    member_traded locals below under c i ty (Host d k) v ls w e g h there = absurd h

    traded : (locals below : List SlotType) (under : List Slot) (x : Spot) (ty : SlotType) (v : Slot) (ls : List Slot) (w : World) → IsSpot locals x ty
        → Good z ms locals (ty ∷ below) ls (v ∷ under) w → IsTraded locals below under x ty v ls w
    traded locals below under (spot.Local d) ty v ls w e g = local_traded locals below under d ty v ls w e g
    traded locals below under (spot.Global n) ty v ls w e g = global_traded locals below under n ty v ls w e g
    traded locals below under (spot.Field o i) ty v ls w e g =
        member_traded locals below under e.0 i ty (local_at ls o) v ls w e.2 g (local_typed z ms T g.own w o locals ls (Family m e.0) e.1 g.locals_typed)
        (λ n s. here_at (map.get w.objects n)
        (subst (λ q. HasObject q w.objects) s (counted_there (local_at ls o) (ls ++ (v ∷ under)) w (λ x. omega (arith, names_at x ls o, many_append x ls (v ∷ under))) g.counted).0))

    -- the value as it is brought to the variable's type, which the variable may hold
    brought_good : (locals below : List SlotType) (under : List Slot) (a s : SlotType) (to : Option Primitive) (v : Slot) (ls : List Slot) (w : World) → IsA z ms a s
        → Good z ms locals (a ∷ below) ls (v ∷ under) w → Good z ms locals (s ∷ below) ls (brought to v ∷ under) w
    brought_good locals below under a s to v ls w i g = record {
      own = g.own;
      locals_typed = g.locals_typed;
      under_typed = (is_a z ms g.own classes w.objects a s (brought to v) i (brought_typed g.own w.objects a to v g.under_typed.0), g.under_typed.1);
      world = g.world;
      counted = counted_as (ls ++ (v ∷ under)) (ls ++ (brought to v ∷ under)) w
          (λ x. omega (arith, brought_names to v x, many_append x ls (v ∷ under), many_append x ls (brought to v ∷ under))) g.counted;
    }

    -- all have taken theirs: the old values lie where the new ones lay
    record HaveSettled (locals below : List SlotType) (xs : List Target) (outs ls under : List Slot) (w : World) : Type 0 where
      fit : all_take m xs outs ls w ≡ true
      types : List SlotType
      many : length types ≡ length (settled m xs outs ls w).olds
      good : Good z ms locals (types ++ below) (settled m xs outs ls w).locals ((settled m xs outs ls w).olds ++ under) (settled m xs outs ls w).world

    settled_good : (locals below : List SlotType) (xs : List Target) (types : List SlotType) (outs ls under : List Slot) (w : World) → IsTargets locals xs types → length types ≡ length outs
        → Good z ms locals (types ++ below) ls (outs ++ under) w → HaveSettled locals below xs outs ls under w
    settled_good locals below [] [] [] ls under w h n g = record { fit = refl; types = []; many = refl; good = g }
    settled_good locals below [] [] (v ∷ outs) ls under w h n g = absurd (omega (arith, n))
    settled_good locals below [] (a ∷ types) outs ls under w h n g = absurd h
    settled_good locals below (x ∷ xs) [] outs ls under w h n g = absurd h
    settled_good locals below (x ∷ xs) (a ∷ types) [] ls under w h n g = absurd (omega (arith, n))
    settled_good locals below (x ∷ xs) (a ∷ types) (v ∷ outs) ls under w h n g =
        let fewer : length types ≡ length outs = omega (arith, n) in
        let before = settled_good locals (a ∷ below) xs types outs ls (v ∷ under) w h.1 fewer (sink_good types locals below a outs ls under v w fewer g) in
        let r = settled m xs outs ls w in
        let raised = raise_good before.types locals below a r.olds r.locals under v r.world before.many before.good in
        let s = h.0.0 in
        let q = traded locals (before.types ++ below) (r.olds ++ under) x.spot s (brought x.to v) r.locals r.world h.0.1
        (brought_good locals (before.types ++ below) (r.olds ++ under) a s x.to v r.locals r.world h.0.2 raised) in
        record {
          fit = both_true (all_take m xs outs ls w) (takes m x v r.locals r.world) before.fit q.0;
          types = s ∷ before.types;
          many = ap suc before.many;
          good = q.1;
        }

    -- ---- replies

    pub replied_good : (y : Guard) (s : Signature) (locals below : List SlotType) (xs : List Target) (ls under : List Slot) (r : Reply) → IsTargets locals xs (out_types s.params)
        → length locals ≡ length ls → IsGoodCall s (locals ++ below) (ls ++ under) r
        → IsGoodEnd z ms T s.result locals below under (replied m xs r ls) × (guarded.replied (misfits y) z m xs r ls ≡ replied m xs r ls)
    replied_good y s locals below xs ls under (Yields v outs t w) h n k =
        let g = k.1 in
        let types = out_types s.params in
        let parts = split_typed z ms g.own w.objects locals below ls under n g.under_typed.1 in
        let many = typed_length z ms g.own w.objects types outs g.locals_typed in
        let start : Good z ms locals (types ++ (s.result ∷ below)) ls (outs ++ (v ∷ under)) w = record {
          own = g.own;
          locals_typed = parts.0;
          under_typed = both_typed z ms g.own w.objects types (s.result ∷ below) outs (v ∷ under) g.locals_typed (g.under_typed.0, parts.1);
          world = g.world;
          counted = counted_as (outs ++ (v ∷ (ls ++ under))) (ls ++ (outs ++ (v ∷ under))) w
              (λ x. omega (arith, many_append x outs (v ∷ (ls ++ under)), many_append x ls under, many_append x ls (outs ++ (v ∷ under)), many_append x outs (v ∷ under))) g.counted;
        } in
        let done = settled_good locals (s.result ∷ below) xs types outs ls (v ∷ under) w h many start in
        let q = settled m xs outs ls w in (
          (k.0, give_back_good done.types locals (s.result ∷ below) q.olds q.locals (v ∷ under) q.world done.many done.good),
          guard_passes y (all_take m xs outs ls w) (replied m xs (Yields v outs t w) ls) (λ f. Failed f ls (give_all outs (give v w))) done.fit,
        )
    replied_good y s locals below xs ls under (Raises f w) h n g =
        let parts = split_typed z ms g.own w.objects locals below ls under n g.under_typed in
        (record { own = g.own; locals_typed = parts.0; under_typed = parts.1; world = g.world; counted = g.counted }, refl)

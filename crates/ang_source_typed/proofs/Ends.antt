-- How the parts of a script end whose places are all typed, one lemma for each construct.
use Rattle.std.proofs.Common.{◌≡◌, ℕ, zero, suc, ◌<◌, ◌≤◌, List, [], ◌∷◌, ◌++◌, length, Some, refl, sym, ap, ◌∙◌, subst, unwrap_or, arith}
use Rattle.std.specs.Prelude.{Bool, true, false, ◌&&◌, slice_get}
use Rattle.ang_kinds.specs.declared.fault.Fault.{Fault}
use Rattle.ang_kinds.specs.declared.fault.Fault.TheVariants.{Tally}
use Rattle.ang_meaning.specs.declared.slot.Slot.{Slot}
use Rattle.ang_meaning.specs.declared.slot.Slot.TheVariants.{Bits, Script, Host}
use Rattle.ang_meaning.specs.declared.operation.Operation.{Operation}
use Rattle.ang_meaning.specs.declared.operation.Update.{Update}
use Rattle.ang_meaning.specs.Numbers.{Changed, Into, Never}
use Rattle.ang_meaning.specs.World.{World, Tried, Yes, No, or_else, hold, give, give_all}
use Rattle.ang_meaning.specs.Environment.{Environment, is_fit}
use Rattle.ang_meaning.specs.Hosts.{Done, Fine, Fails}
use Rattle.ang_meaning.specs.Perform.{perform, change_of}
use Rattle.ang_meaning.specs.Results.{Evaluated, Gave, Failed, Gathered, Ready, Broke, local_at, local_set, loaded, performed, applied, assigned, altered, altered_by, chosen, then_rest}
use Rattle.ang_meaning.specs.Counting.{Thing, names, IsCounted}
use Rattle.ang_meaning.proofs.Counting.{many_append, bits_name_none}
use Rattle.ang_meaning.proofs.Counted.{TriedCounted, counted_as, counted_there, give_counted, hold_counted, first_there, store_places, names_at}
use Rattle.ang_meaning.proofs.Operating.{DoneCounted, perform_counted}
use Rattle.ang_source.specs.Meaning.{one, two}
use Rattle.ang_source_typed.specs.Types.{SlotType, Number, Modules, Owners, IsA, HasType, AllTyped, IsTypedWorld}
use Rattle.ang_source_typed.specs.TypedProgram.{AreClasses}
use Rattle.ang_source_typed.specs.Guarded.{Guard, AsMeant, Faulting, guard, is_number, fits, misfits}
use Rattle.ang_source_typed.specs.Guarded as guarded
use Rattle.ang_source_typed.proofs.Values.{TriedLeads, leads_then, give_leads, hold_leads, all_still, Moves, moves_of, DoneTyped, is_a, both_typed, split_typed}
use Rattle.ang_source_typed.proofs.Operations.{DoesWell, both_true, number_fits}

pub guard_passes : {A : Type 0} (y : Guard) (b : Bool) (go : A) (bad : Fault → A) → b ≡ true → guard y b go bad ≡ go
guard_passes AsMeant b go bad e = refl
guard_passes (Faulting f) true go bad e = refl
guard_passes (Faulting f) false go bad e = absurd (let x : ⊥ = cc in x)

abbrev pub Go : Type 0
Go = List Slot → ℕ → World → Evaluated

module _ (z : Environment) (ms : Modules) where
  -- The places of a run are typed: the locals that are alive, what lies below them, all globals and all fields; and each count is the number of the places.
  pub record Good (locals below : List SlotType) (ls under : List Slot) (w : World) : Type 0 where
    pub own : Owners
    pub locals_typed : AllTyped z ms own w.objects locals ls
    pub under_typed : AllTyped z ms own w.objects below under
    pub world : IsTypedWorld z ms own w
    pub counted : IsCounted (ls ++ under) w

  -- ---- places by another order

  pub front_counted : (ls us under : List Slot) (w : World) → IsCounted (ls ++ (us ++ under)) w → IsCounted (us ++ (ls ++ under)) w
  front_counted ls us under w p =
      counted_as (ls ++ (us ++ under)) (us ++ (ls ++ under)) w
      (λ x. omega (arith, many_append x ls (us ++ under), many_append x us under, many_append x us (ls ++ under), many_append x ls under)) p

  pub top_counted : (v : Slot) (ls under : List Slot) (w : World) → IsCounted (ls ++ (v ∷ under)) w → IsCounted (v ∷ (ls ++ under)) w
  top_counted v ls under w p = counted_as (ls ++ (v ∷ under)) (v ∷ (ls ++ under)) w (λ x. omega (arith, many_append x ls (v ∷ under), many_append x ls under)) p

  pub below_counted : (v : Slot) (ls under : List Slot) (w : World) → IsCounted (v ∷ (ls ++ under)) w → IsCounted (ls ++ (v ∷ under)) w
  below_counted v ls under w p = counted_as (v ∷ (ls ++ under)) (ls ++ (v ∷ under)) w (λ x. omega (arith, many_append x ls (v ∷ under), many_append x ls under)) p

  -- ---- values that come and go

  pub moved_good : (own : Owners) (locals below : List SlotType) (ls under : List Slot) (w u : World) → AllTyped z ms own w.objects locals ls → AllTyped z ms own w.objects below under
      → Moves z ms own w u → IsCounted (ls ++ under) u → Good locals below ls under u
  moved_good own locals below ls under w u a b k p = record {
    own = own;
    locals_typed = all_still z ms own w.objects u.objects locals ls k.0 a;
    under_typed = all_still z ms own w.objects u.objects below under k.0 b;
    world = k.1;
    counted = p;
  }

  pub give_good : (locals below : List SlotType) (ls under : List Slot) (ty : SlotType) (v : Slot) (w : World) → Good locals (ty ∷ below) ls (v ∷ under) w → Good locals below ls under (give v w)
  give_good locals below ls under ty v w g =
      moved_good g.own locals below ls under w (give v w) g.locals_typed (g.under_typed.1) (moves_of z ms g.own w (give v w) g.world (give_leads v w))
      (give_counted v (ls ++ under) w (top_counted v ls under w g.counted))

  pub give_all_good : (types locals below : List SlotType) (vs ls under : List Slot) (w : World) → length types ≡ length vs → Good locals (types ++ below) ls (vs ++ under) w
      → Good locals below ls under (give_all vs w)
  give_all_good [] locals below [] ls under w n g = g
  give_all_good [] locals below (v ∷ vs) ls under w n g = absurd (omega (arith, n))
  give_all_good (s ∷ types) locals below [] ls under w n g = absurd (omega (arith, n))
  give_all_good (s ∷ types) locals below (v ∷ vs) ls under w n g =
      give_all_good types locals below vs ls under (give v w) (omega (arith, n)) (give_good locals (types ++ below) ls (vs ++ under) s v w g)

  -- a number is no place that anything is held by
  pub number_names : (own : Owners) (w : World) (v : Slot) (x : Thing) → HasType z ms own w.objects Number v → names x v ≡ 0
  number_names own w (Bits n) x h = bits_name_none n x
  number_names own w (Script k) x h = absurd h
  number_names own w (Host d k) x h = absurd h

  pub push_number : (n : ℕ) (locals below : List SlotType) (ls under : List Slot) (w : World) → Good locals below ls under w → Good locals (Number ∷ below) ls (Bits n ∷ under) w
  push_number n locals below ls under w g = record {
    own = g.own;
    locals_typed = g.locals_typed;
    under_typed = (tt, g.under_typed);
    world = g.world;
    counted = counted_as (ls ++ under) (ls ++ (Bits n ∷ under)) w (λ x. omega (arith, many_append x ls under, many_append x ls (Bits n ∷ under), bits_name_none n x)) g.counted;
  }

  pub drop_number : (v : Slot) (locals below : List SlotType) (ls under : List Slot) (w : World) → Good locals (Number ∷ below) ls (v ∷ under) w → Good locals below ls under w
  drop_number v locals below ls under w g = record {
    own = g.own;
    locals_typed = g.locals_typed;
    under_typed = g.under_typed.1;
    world = g.world;
    counted = counted_as (ls ++ (v ∷ under)) (ls ++ under) w
        (λ x. omega (arith, many_append x ls under, many_append x ls (v ∷ under), number_names g.own w v x g.under_typed.0)) g.counted;
  }

-- Where a run has at most T ticks left:
module _ (z : Environment) (ms : Modules) (T : ℕ) where
  abbrev pub At : ℕ → List SlotType → List SlotType → List Slot → List Slot → World → Type 0
  At n locals below ls under w = (n ≤ T) × Good z ms locals below ls under w

  -- A value lies on top of what is below the locals; a fault leaves only the locals and that.
  abbrev pub IsGoodEnd : SlotType → List SlotType → List SlotType → List Slot → Evaluated → Type 0
  IsGoodEnd ty locals below under (Gave v ls t w) = At t locals (ty ∷ below) ls (v ∷ under) w
  IsGoodEnd ty locals below under (Failed f ls w) = Good z ms locals below ls under w

  abbrev pub IsGoodAll : List SlotType → List SlotType → List SlotType → List Slot → Gathered → Type 0
  IsGoodAll types locals below under (Ready vs ls t w) = (length types ≡ length vs) × At t locals (types ++ below) ls (vs ++ under) w
  IsGoodAll types locals below under (Broke f ls w) = Good z ms locals below ls under w

  -- ---- operations

  performed_good : (own : Owners) (types locals below : List SlotType) (ty : SlotType) (vs ls under : List Slot) (t : ℕ) (w : World) (d : Done) → (t ≤ T) → length types ≡ length vs
      → AllTyped z ms own w.objects locals ls → AllTyped z ms own w.objects types vs → AllTyped z ms own w.objects below under → DoneTyped z ms own ty w d → DoneCounted vs (ls ++ under) d
      → IsGoodEnd ty locals below under (performed d vs ls t)
  performed_good own types locals below ty vs ls under t w (Fine v u) k n a b c h p = (
    k,
    record {
      own = own;
      locals_typed = all_still z ms own w.objects u.objects locals ls h.1.0 a;
      under_typed = (h.0, all_still z ms own w.objects u.objects below under h.1.0 c);
      world = h.1.1;
      counted = below_counted z ms v ls under u p;
    },
  )
  performed_good own types locals below ty vs ls under t w (Fails f u) k n a b c h p =
      give_all_good z ms types locals below vs ls under u n
      (moved_good z ms own locals (types ++ below) ls (vs ++ under) w u a (both_typed z ms own w.objects types below vs under b c) h
      (front_counted z ms vs ls under u p))

  module _ (m : ℕ) (y : Guard) where
    pub applied_good : (o : Operation) (types locals below : List SlotType) (ty : SlotType) (under : List Slot) (g : Gathered) → DoesWell z ms m o types ty → IsGoodAll types locals below under g
        → IsGoodEnd ty locals below under (applied (perform z m o) g) × (applied (guarded.perform (misfits y) z m o) g ≡ applied (perform z m o) g)
    applied_good o types locals below ty under (Ready vs ls t w) k h =
        let g = h.1.1 in
        let typed = split_typed z ms g.own w.objects types below vs under h.0 g.under_typed in
        let counted = front_counted z ms ls vs under w g.counted in
        let did = k.does g.own vs (ls ++ under) w typed.0 g.world counted in (
          performed_good g.own types locals below ty vs ls under t w (perform z m o vs w) h.1.0 h.0 g.locals_typed typed.0 typed.1 did.1 (perform_counted z m o vs (ls ++ under) w k.fit counted),
          ap (λ d. performed d vs ls t) (guard_passes y (is_fit z m o && fits z m o vs w) (perform z m o vs w) (λ f. Fails f w) (both_true (is_fit z m o) (fits z m o vs w) k.fit did.0)),
        )
    applied_good o types locals below ty under (Broke f ls w) k h = (h, refl)

  -- ---- operands

  pub one_good : (ty : SlotType) (locals below : List SlotType) (under : List Slot) (e : Evaluated) → IsGoodEnd ty locals below under e → IsGoodAll (ty ∷ []) locals below under (one e)
  one_good ty locals below under (Gave v ls t w) h = (refl, h)
  one_good ty locals below under (Failed f ls w) h = h

  -- what comes next, above a value, gives this type, and is the same in the guarded meaning
  abbrev pub GoesWell : SlotType → List SlotType → List SlotType → List Slot → Go → Go → Type 0
  GoesWell ty locals below under go other = (ls : List Slot) (t : ℕ) (w : World) → At t locals below ls under w → IsGoodEnd ty locals below under (go ls t w) × (other ls t w ≡ go ls t w)

  then_good : (a b : SlotType) (locals below : List SlotType) (v : Slot) (under : List Slot) (r : Evaluated) → IsGoodEnd b locals (a ∷ below) (v ∷ under) r
      → IsGoodAll (b ∷ a ∷ []) locals below under (then_rest (v ∷ []) r (λ u ls t w. Ready (u ∷ v ∷ []) ls t w))
  then_good a b locals below v under (Gave u ls t w) h = (refl, h)
  then_good a b locals below v under (Failed f ls w) h = give_good z ms locals below ls under a v w h

  pub two_good : (a b : SlotType) (locals below : List SlotType) (under : List Slot) (e : Evaluated) (go other : Go) → IsGoodEnd a locals below under e
      → ((v : Slot) → GoesWell b locals (a ∷ below) (v ∷ under) go other) → IsGoodAll (b ∷ a ∷ []) locals below under (two e go) × (two e other ≡ two e go)
  two_good a b locals below under (Gave v ls t w) go other h k =
      let next = k v ls t w h in (
        then_good a b locals below v under (go ls t w) next.0,
        ap (λ r. then_rest (v ∷ []) r (λ u ls' t' w'. Ready (u ∷ v ∷ []) ls' t' w')) next.1,
      )
  two_good a b locals below under (Failed f ls w) go other h k = (h, refl)

  -- ---- subsumption

  pub subsumed : ((m : ℕ) → AreClasses z ms m) → (s ty : SlotType) (locals below : List SlotType) (under : List Slot) (e : Evaluated) → IsA z ms s ty → IsGoodEnd s locals below under e
      → IsGoodEnd ty locals below under e
  subsumed a s ty locals below under (Gave v ls t w) i h = let g = h.1 in (
    h.0,
    record {
      own = g.own;
      locals_typed = g.locals_typed;
      under_typed = (is_a z ms g.own a w.objects s ty v i g.under_typed.0, g.under_typed.1);
      world = g.world;
      counted = g.counted;
    },
  )
  subsumed a s ty locals below under (Failed f ls w) i g = g

  -- ---- locals

  pub local_typed : (own : Owners) (w : World) (d : ℕ) (locals : List SlotType) (ls : List Slot) (ty : SlotType) → slice_get locals d ≡ Some ty → AllTyped z ms own w.objects locals ls
      → HasType z ms own w.objects ty (local_at ls d)
  local_typed own w d [] [] ty e h = absurd (let x : ⊥ = cc in x)
  local_typed own w d [] (v ∷ vs) ty e h = absurd h
  local_typed own w d (s ∷ types) [] ty e h = absurd h
  local_typed own w zero (s ∷ types) (v ∷ vs) ty e h = subst (λ x. HasType z ms own w.objects x v) (ap (λ o. unwrap_or o s) e) h.0
  local_typed own w (suc d) (s ∷ types) (v ∷ vs) ty e h = local_typed own w d types vs ty e h.1

  pub local_put : (own : Owners) (w : World) (d : ℕ) (locals : List SlotType) (ls : List Slot) (ty : SlotType) (v : Slot) → slice_get locals d ≡ Some ty → AllTyped z ms own w.objects locals ls
      → HasType z ms own w.objects ty v → AllTyped z ms own w.objects locals (local_set ls d v)
  local_put own w d [] [] ty v e h k = tt
  local_put own w d [] (u ∷ ls) ty v e h k = absurd h
  local_put own w d (s ∷ types) [] ty v e h k = absurd h
  local_put own w zero (s ∷ types) (u ∷ ls) ty v e h k = (subst (λ x. HasType z ms own w.objects x v) (sym (ap (λ o. unwrap_or o s) e)) k, h.1)
  local_put own w (suc d) (s ∷ types) (u ∷ ls) ty v e h k = (h.0, local_put own w d types ls ty v e h.1 k)

  pub local_within : (own : Owners) (w : World) (d : ℕ) (locals : List SlotType) (ls : List Slot) (ty : SlotType) → slice_get locals d ≡ Some ty → AllTyped z ms own w.objects locals ls → d < length ls
  local_within own w d [] [] ty e h = absurd (let x : ⊥ = cc in x)
  local_within own w d [] (u ∷ ls) ty e h = absurd h
  local_within own w d (s ∷ types) [] ty e h = absurd h
  local_within own w zero (s ∷ types) (u ∷ ls) ty e h = omega arith
  local_within own w (suc d) (s ∷ types) (u ∷ ls) ty e h = omega (arith, local_within own w d types ls ty e h.1)

  load_tried : (ty : SlotType) (locals below : List SlotType) (v : Slot) (ls under : List Slot) (t : ℕ) (w : World) (r : Tried) → (t ≤ T) → (g : Good z ms locals below ls under w) → HasType z ms g.own w.objects ty v
      → TriedLeads w r → TriedCounted (v ∷ (ls ++ under)) (ls ++ under) r → IsGoodEnd ty locals below under (or_else r (λ u. Failed Tally ls u) (λ u. Gave v ls t u))
  load_tried ty locals below v ls under t w (No u) c g h k p = moved_good z ms g.own locals below ls under w u g.locals_typed g.under_typed (moves_of z ms g.own w u g.world k) p
  load_tried ty locals below v ls under t w (Yes u) c g h k p =
      (c, moved_good z ms g.own locals (ty ∷ below) ls (v ∷ under) w u g.locals_typed (h, g.under_typed) (moves_of z ms g.own w u g.world k) (below_counted z ms v ls under u p))

  pub loaded_good : (d : ℕ) (ty : SlotType) (locals below : List SlotType) (ls under : List Slot) (t : ℕ) (w : World) → slice_get locals d ≡ Some ty → At t locals below ls under w
      → IsGoodEnd ty locals below under (loaded (local_at ls d) ls t w)
  loaded_good d ty locals below ls under t w e h =
      let g = h.1 in
      let v = local_at ls d in
      load_tried ty locals below v ls under t w (hold v w) h.0 g (local_typed g.own w d locals ls ty e g.locals_typed) (hold_leads v w)
      (hold_counted v (ls ++ under) w ((counted_there v (ls ++ under) w (λ x. omega (arith, names_at x ls d, many_append x ls under)) g.counted).0) g.counted)

  put_tried : (d : ℕ) (ty : SlotType) (locals below : List SlotType) (under : List Slot) (v : Slot) (ls : List Slot) (t : ℕ) (w : World) (r : Tried) → (t ≤ T) → slice_get locals d ≡ Some ty
      → Good z ms locals (ty ∷ below) ls (v ∷ under) w → TriedLeads w r → TriedCounted (v ∷ v ∷ (ls ++ under)) (v ∷ (ls ++ under)) r
      → IsGoodEnd ty locals below under (or_else r (λ u. Failed Tally ls (give v u)) (λ u. Gave v (local_set ls d v) t (give (local_at ls d) u)))
  put_tried d ty locals below under v ls t w (No u) c e g k p =
      give_good z ms locals below ls under ty v u
      (moved_good z ms g.own locals (ty ∷ below) ls (v ∷ under) w u g.locals_typed g.under_typed (moves_of z ms g.own w u g.world k) (below_counted z ms v ls under u p))
  put_tried d ty locals below under v ls t w (Yes u) c e g k p =
      let old = local_at ls d in
      let last = give old u in
      let lt : d < length ls = local_within g.own w d locals ls ty e g.locals_typed in
      let put : IsCounted (old ∷ (local_set ls d v ++ (v ∷ under))) u =
      counted_as (v ∷ v ∷ (ls ++ under)) (old ∷ (local_set ls d v ++ (v ∷ under))) u
      (λ x. omega (arith, store_places x ls d v lt, many_append x ls under, many_append x (local_set ls d v) (v ∷ under))) p in
      let good = moved_good z ms g.own locals (ty ∷ below) (local_set ls d v) (v ∷ under) w last
      (local_put g.own w d locals ls ty v e g.locals_typed g.under_typed.0) g.under_typed (moves_of z ms g.own w last g.world (leads_then w u last k (give_leads old u)))
      (give_counted old (local_set ls d v ++ (v ∷ under)) u put) in
      (c, good)

  pub assigned_good : (d : ℕ) (ty : SlotType) (locals below : List SlotType) (under : List Slot) (e : Evaluated) → slice_get locals d ≡ Some ty → IsGoodEnd ty locals below under e
      → IsGoodEnd ty locals below under (assigned d e)
  assigned_good d ty locals below under (Gave v ls t w) at h =
      let g = h.1 in
      let top = top_counted z ms v ls under w g.counted in
      put_tried d ty locals below under v ls t w (hold v w) h.0 at g (hold_leads v w) (hold_counted v (v ∷ (ls ++ under)) w ((first_there v (ls ++ under) w top).0) top)
  assigned_good d ty locals below under (Failed f ls w) at g = g

  change_good : (d : ℕ) (c : Changed) (v : Slot) (locals below : List SlotType) (ls under : List Slot) (t : ℕ) (w : World) → slice_get locals d ≡ Some Number
      → At t locals (Number ∷ below) ls (v ∷ under) w → IsGoodEnd Number locals below under (altered_by d c v ls t w)
  change_good d (Never f) v locals below ls under t w e g = give_good z ms locals below ls under Number v w g.1
  change_good d (Into stored given) v locals below ls under t w e h =
      let g = h.1 in
      let lt : d < length ls = local_within g.own w d locals ls Number e g.locals_typed in
      let was = local_typed g.own w d locals ls Number e g.locals_typed in
      let good : Good z ms locals (Number ∷ below) (local_set ls d (Bits stored)) (Bits given ∷ under) w = record {
        own = g.own;
        locals_typed = local_put g.own w d locals ls Number (Bits stored) e g.locals_typed tt;
        under_typed = (tt, g.under_typed.1);
        world = g.world;
        counted = counted_as (ls ++ (v ∷ under)) (local_set ls d (Bits stored) ++ (Bits given ∷ under)) w
            (λ x. omega (
              arith,
              store_places x ls d (Bits stored) lt,
              number_names z ms g.own w (local_at ls d) x was,
              number_names z ms g.own w v x g.under_typed.0,
              bits_name_none stored x,
              bits_name_none given x,
              many_append x ls (v ∷ under),
              many_append x (local_set ls d (Bits stored)) (Bits given ∷ under),
            )) g.counted;
      } in
      (h.0, good)

  pub altered_good : (y : Guard) (d : ℕ) (c : Update) (locals below : List SlotType) (under : List Slot) (e : Evaluated) → slice_get locals d ≡ Some Number → IsGoodEnd Number locals below under e
      → IsGoodEnd Number locals below under (altered d c e) × (guarded.altered (misfits y) z d c e ≡ altered d c e)
  altered_good y d c locals below under (Gave v ls t w) at h = let g = h.1 in (
    change_good d (change_of c (local_at ls d) v) v locals below ls under t w at h,
    guard_passes y (is_number (local_at ls d) && is_number v) (altered d c (Gave v ls t w)) (λ f. Failed f ls (give v w))
        (both_true (is_number (local_at ls d)) (is_number v) (number_fits z ms g.own w.objects (local_at ls d) (local_typed g.own w d locals ls Number at g.locals_typed))
        (number_fits z ms g.own w.objects v g.under_typed.0)),
  )
  altered_good y d c locals below under (Failed f ls w) at g = (g, refl)

  -- ---- choices

  tested_good : (n : ℕ) (ty : SlotType) (locals below : List SlotType) (under ls : List Slot) (t : ℕ) (w : World) (y : Guard) (one two one' two' : Go) → At t locals below ls under w
      → GoesWell ty locals below under one one' → GoesWell ty locals below under two two'
      → IsGoodEnd ty locals below under (chosen (Gave (Bits n) ls t w) one two) × (guarded.chosen (misfits y) z (Gave (Bits n) ls t w) one' two' ≡ chosen (Gave (Bits n) ls t w) one two)
  tested_good zero ty locals below under ls t w y one two one' two' g a b =
      let k = b ls t w g in (k.0, guard_passes y true (two' ls t w) (λ f. Failed f ls (give (Bits zero) w)) refl ∙ k.1)
  tested_good (suc n) ty locals below under ls t w y one two one' two' g a b =
      let k = a ls t w g in (k.0, guard_passes y true (one' ls t w) (λ f. Failed f ls (give (Bits (suc n)) w)) refl ∙ k.1)

  pub chosen_good : (ty : SlotType) (locals below : List SlotType) (under : List Slot) (y : Guard) (e : Evaluated) (one two one' two' : Go) → IsGoodEnd Number locals below under e
      → GoesWell ty locals below under one one' → GoesWell ty locals below under two two'
      → IsGoodEnd ty locals below under (chosen e one two) × (guarded.chosen (misfits y) z e one' two' ≡ chosen e one two)
  chosen_good ty locals below under y (Gave (Bits n) ls t w) one two one' two' g a b =
      tested_good n ty locals below under ls t w y one two one' two' (g.0, drop_number z ms (Bits n) locals below ls under w g.1) a b
  chosen_good ty locals below under y (Gave (Script k) ls t w) one two one' two' g a b = absurd g.1.under_typed.0
  chosen_good ty locals below under y (Gave (Host d k) ls t w) one two one' two' g a b = absurd g.1.under_typed.0
  chosen_good ty locals below under y (Failed f ls w) one two one' two' g a b = (g, refl)

-- Parts of values that are renamed are renamed parts.
use Rattle.std.proofs.Common.{◌≡◌, ◌≤◌, ◌-◌, ℕ, zero, suc, List, [], ◌∷◌, ◌++◌, length, refl, sym, ap, ◌∙◌, arith, Option, Some, None}
use Rattle.std.specs.Prelude.{◌&&◌, not, take, slice_index_or}
use Rattle.std.specs.FinMap as map
use Rattle.std.proofs.lemmas.List.{length-map, take-map}
use Rattle.std.proofs.Math.ListN.{get_or-map}
use Rattle.ang_kinds.specs.declared.primitive.Primitive.{Primitive}
use Rattle.ang_meaning.specs.declared.slot.Slot.{Slot}
use Rattle.ang_meaning.specs.declared.slot.Slot.TheVariants.{Bits, Script, Host}
use Rattle.ang_meaning.specs.declared.routine.Callee.{Callee}
use Rattle.ang_meaning.specs.declared.routine.Callee.TheVariants.{Own, Import, Virtual}
use Rattle.ang_meaning.specs.declared.routine.Passing.{Passing}
use Rattle.ang_meaning.specs.declared.routine.Passing.TheVariants.{In, Out, Object}
use Rattle.ang_meaning.specs.World.{World, ScriptRecord, give, give_all}
use Rattle.ang_meaning.specs.Environment.{Environment, method_of, virtual_of, params_in, receiver_in, target, is_null, has_objects}
use Rattle.ang_meaning.specs.Results.{local_at, local_set, drop_some, give_some, brought, outs_of, give_others}
use Rattle.ang_meaning.specs.Counting.{Thing, names, IsCounted}
use Rattle.ang_meaning.specs.Alike.{Renaming, renamed, renamed_all, renamed_record}
use Rattle.ang_meaning.proofs.Counting.{many_append, bits_name_none}
use Rattle.ang_meaning.proofs.Counted.{counted_as, give_counted}
use Rattle.ang_meaning.proofs.Moving.{give_all_moves}
use Rattle.ang_meaning.proofs.AlikeWorlds.{HasMore, give_alike}
use Rattle.ang_meaning.proofs.AlikeOperations.{null_renamed}
use Rattle.ang_meaning.proofs.Matching.{AlikeUpTo}

-- ---- lists of values

pub many_renamed : (r : Renaming) (s : List Slot) → length (renamed_all r s) ≡ length s
many_renamed r s = length-map s (renamed r)

first_or : Slot → List Slot → Slot
first_or d [] = d
first_or d (x ∷ xs) = x

later : List Slot → List Slot
later [] = []
later (x ∷ xs) = xs

-- two renamings that agree on a list agree on its parts
pub front_kept : (q r : Renaming) (a b : List Slot) → renamed_all q (a ++ b) ≡ renamed_all r (a ++ b) → renamed_all q a ≡ renamed_all r a
unfolding first_or later
front_kept q r [] b e = refl
front_kept q r (x ∷ a) b e = ap (λ y. y ∷ renamed_all q a) (ap (first_or (Bits 0)) e) ∙ ap (λ l. renamed r x ∷ l) (front_kept q r a b (ap later e))

pub back_kept : (q r : Renaming) (a b : List Slot) → renamed_all q (a ++ b) ≡ renamed_all r (a ++ b) → renamed_all q b ≡ renamed_all r b
unfolding later
back_kept q r [] b e = e
back_kept q r (x ∷ a) b e = back_kept q r a b (ap later e)

pub first_kept : (q r : Renaming) (x : Slot) (b : List Slot) → renamed_all q (x ∷ b) ≡ renamed_all r (x ∷ b) → renamed q x ≡ renamed r x
unfolding first_or
first_kept q r x b e = ap (first_or (Bits 0)) e

pub both_kept : (q r : Renaming) (a b : List Slot) → renamed_all q a ≡ renamed_all r a → renamed_all q b ≡ renamed_all r b → renamed_all q (a ++ b) ≡ renamed_all r (a ++ b)
unfolding later
both_kept q r [] b e f = f
both_kept q r (x ∷ a) b e f =
    let rest = both_kept q r a b (ap later e) f in
    ap (λ y. y ∷ renamed_all q (a ++ b)) (first_kept q r x a e) ∙ ap (λ l. renamed r x ∷ l) rest

-- ---- locals

module _ (r : Renaming) where
  pub at_renamed : (s : List Slot) (d : ℕ) → local_at (renamed_all r s) d ≡ renamed r (local_at s d)
  at_renamed [] d = refl
  at_renamed (v ∷ s) zero = refl
  at_renamed (v ∷ s) (suc d) = at_renamed s d

  pub set_renamed : (s : List Slot) (d : ℕ) (x : Slot) → local_set (renamed_all r s) d (renamed r x) ≡ renamed_all r (local_set s d x)
  set_renamed [] d x = refl
  set_renamed (v ∷ s) zero x = refl
  set_renamed (v ∷ s) (suc d) x = ap (λ l. renamed r v ∷ l) (set_renamed s d x)

  pub drop_renamed : (n : ℕ) (s : List Slot) → drop_some n (renamed_all r s) ≡ renamed_all r (drop_some n s)
  drop_renamed zero s = refl
  drop_renamed (suc n) [] = refl
  drop_renamed (suc n) (v ∷ s) = drop_renamed n s

  pub outs_renamed : (ps : List Passing) (s : List Slot) → outs_of ps (renamed_all r s) ≡ renamed_all r (outs_of ps s)
  outs_renamed [] s = refl
  outs_renamed (p ∷ ps) [] = refl
  outs_renamed (In ∷ ps) (v ∷ s) = outs_renamed ps s
  outs_renamed (Object ∷ ps) (v ∷ s) = outs_renamed ps s
  outs_renamed (Out ∷ ps) (v ∷ s) = ap (λ l. renamed r v ∷ l) (outs_renamed ps s)

  pub objects_renamed : (ps : List Passing) (s : List Slot) → has_objects ps (renamed_all r s) ≡ has_objects ps s
  objects_renamed [] s = refl
  objects_renamed (p ∷ ps) [] = refl
  objects_renamed (In ∷ ps) (v ∷ s) = objects_renamed ps s
  objects_renamed (Out ∷ ps) (v ∷ s) = objects_renamed ps s
  objects_renamed (Object ∷ ps) (v ∷ s) = ap (λ b. not b && has_objects ps (renamed_all r s)) (null_renamed r v) ∙ ap (λ b. not (is_null v) && b) (objects_renamed ps s)

  pub brought_renamed : (to : Option Primitive) (x : Slot) → brought to (renamed r x) ≡ renamed r (brought to x)
  unfolding brought
  brought_renamed None x = refl
  brought_renamed (Some p) (Bits n) = refl
  brought_renamed (Some p) (Script k) = refl
  brought_renamed (Some p) (Host d k) = refl

  receiver_renamed : (ps : List Passing) (s : List Slot) → receiver_in ps (renamed_all r s) ≡ renamed r (receiver_in ps s)
  receiver_renamed ps s =
      ap (λ l. slice_index_or l (length ps - 1) (Bits 0)) (take-map (renamed r) (length ps) s) ∙ get_or-map (renamed r) (take (length ps) s) (length ps - 1) (Bits 0)

  method_renamed : (z : Environment) (m k : ℕ) (o : Option ScriptRecord) → method_of z m k (renamed_record r o) ≡ method_of z m k o
  method_renamed z m k None = refl
  method_renamed z m k (Some o) = refl

  module _ (apart : Type 0) (v w : World) (h : AlikeUpTo apart r v w) where
    virtual_renamed : (z : Environment) (m k : ℕ) (x : Slot) → virtual_of z m k (renamed r x) w ≡ virtual_of z m k x v
    virtual_renamed z m k (Bits n) = refl
    virtual_renamed z m k (Script None) = refl
    virtual_renamed z m k (Script (Some n)) = ap (method_of z m k) (h.objects.has n) ∙ method_renamed z m k (map.get v.objects n)
    virtual_renamed z m k (Host d j) = refl

    pub target_renamed : (z : Environment) (m : ℕ) (c : Callee) (s : List Slot) → target z m c (renamed_all r s) w ≡ target z m c s v
    unfolding target
    target_renamed z m (Own g) s = refl
    target_renamed z m (Import i) s = refl
    target_renamed z m (Virtual k) s =
        ap (λ x. virtual_of z m k x w) (receiver_renamed (params_in (z.slot m k)) s) ∙ virtual_renamed z m k (receiver_in (params_in (z.slot m k)) s)

-- ---- values that are given up

module _ (apart : Type 0) where
  pub some_alike : (r : Renaming) (n : ℕ) (s : List Slot) (v w : World) → AlikeUpTo apart r v w → AlikeUpTo apart r (give_some n s v) (give_some n (renamed_all r s) w)
  some_alike r zero s v w h = h
  some_alike r (suc n) [] v w h = h
  some_alike r (suc n) (x ∷ s) v w h = some_alike r n s (give x v) (give (renamed r x) w) (give_alike apart r x v w h)

  pub others_alike : (r : Renaming) (ps : List Passing) (s : List Slot) (v w : World) → AlikeUpTo apart r v w → AlikeUpTo apart r (give_others ps s v) (give_others ps (renamed_all r s) w)
  others_alike r [] s v w h = h
  others_alike r (p ∷ ps) [] v w h = h
  others_alike r (In ∷ ps) (x ∷ s) v w h = others_alike r ps s (give x v) (give (renamed r x) w) (give_alike apart r x v w h)
  others_alike r (Object ∷ ps) (x ∷ s) v w h = others_alike r ps s (give x v) (give (renamed r x) w) (give_alike apart r x v w h)
  others_alike r (Out ∷ ps) (x ∷ s) v w h = others_alike r ps s v w h

-- what is left of the inputs stays
pub more_given : (s : List Slot) (w : World) → HasMore w → HasMore (give_all s w)
more_given s w h = record { first = h.first; rest = h.rest; inputs = sym (give_all_moves s w).inputs ∙ h.inputs }

pub more_gave : (x : Slot) (w : World) → HasMore w → HasMore (give x w)
more_gave x w h = more_given (x ∷ []) w h

pub more_some : (n : ℕ) (s : List Slot) (w : World) → HasMore w → HasMore (give_some n s w)
more_some zero s w h = h
more_some (suc n) [] w h = h
more_some (suc n) (x ∷ s) w h = more_some n s (give x w) (more_gave x w h)

-- with others below
pub some_counted : (n : ℕ) (vs rest : List Slot) (w : World) → IsCounted (vs ++ rest) w → IsCounted (drop_some n vs ++ rest) (give_some n vs w)
some_counted zero vs rest w p = p
some_counted (suc n) [] rest w p = p
some_counted (suc n) (v ∷ vs) rest w p = some_counted n vs rest (give v w) (give_counted v (vs ++ rest) w p)

pub others_counted : (ps : List Passing) (vs rest : List Slot) (w : World) → IsCounted (vs ++ rest) w → IsCounted (outs_of ps vs ++ (drop_some (length ps) vs ++ rest)) (give_others ps vs w)
others_counted [] vs rest w p = p
others_counted (q ∷ ps) [] rest w p = p
others_counted (In ∷ ps) (v ∷ vs) rest w p = others_counted ps vs rest (give v w) (give_counted v (vs ++ rest) w p)
others_counted (Object ∷ ps) (v ∷ vs) rest w p = others_counted ps vs rest (give v w) (give_counted v (vs ++ rest) w p)
others_counted (Out ∷ ps) (v ∷ vs) rest w p =
    let outs = outs_of ps vs in
    let below = drop_some (length ps) vs in
    let q = others_counted ps vs (v ∷ rest) w (counted_as (v ∷ (vs ++ rest)) (vs ++ (v ∷ rest)) w (λ x. omega (arith, many_append x vs rest, many_append x vs (v ∷ rest))) p) in
    counted_as (outs ++ (below ++ (v ∷ rest))) (v ∷ (outs ++ (below ++ rest))) (give_others ps vs w)
    (λ x. omega (arith, many_append x outs (below ++ (v ∷ rest)), many_append x below (v ∷ rest), many_append x outs (below ++ rest), many_append x below rest)) q

-- ---- lengths

pub length_set : (s : List Slot) (d : ℕ) (v : Slot) → length (local_set s d v) ≡ length s
length_set [] d v = refl
length_set (u ∷ s) zero v = refl
length_set (u ∷ s) (suc d) v = ap suc (length_set s d v)

pub length_drop : (n : ℕ) (s : List Slot) → length (drop_some n s) ≡ length s - n
length_drop zero s = omega arith
length_drop (suc n) [] = omega arith
length_drop (suc n) (v ∷ s) = length_drop n s ∙ omega arith

pub none_left : (n : ℕ) (s : List Slot) → length s ≤ n → drop_some n s ≡ []
none_left zero [] h = refl
none_left zero (v ∷ s) h = absurd (let x : ⊥ = omega (arith, h) in x)
none_left (suc n) [] h = refl
none_left (suc n) (v ∷ s) h = none_left n s (omega (arith, h))

pub brought_names : (x : Thing) (to : Option Primitive) (v : Slot) → names x (brought to v) ≡ names x v
unfolding brought
brought_names x None v = refl
brought_names x (Some p) (Bits n) = bits_name_none _ x ∙ sym (bits_name_none n x)
brought_names x (Some p) (Script k) = refl
brought_names x (Some p) (Host d k) = refl

-- Operations on a world that hold and give up leave its globals, and a store writes one.
use Rattle.std.proofs.Common.{◌≡◌, ℕ, zero, suc, List, [], ◌∷◌, length, Some, None, refl, ap, ◌∙◌}
use Rattle.std.specs.Prelude.{Bool, true, false, cond, slice_set, slice_index_or, map as list_map}
use Rattle.std.specs.FinMap as map
use Rattle.ang_meaning.specs.declared.slot.Slot.{Slot}
use Rattle.ang_meaning.specs.declared.slot.Slot.TheVariants.{Bits, Script, Host}
use Rattle.ang_meaning.specs.declared.routine.Passing.{Passing}
use Rattle.ang_meaning.specs.declared.routine.Passing.TheVariants.{In, Out, Object}
use Rattle.ang_meaning.specs.World.{World, Input, Room, Said, Tallied, Fresh, Tried, Yes, No, memory_told, memory_step, one_more, HoldLimit, Inside, AtEnd, OfDriver, hold_limit_of, refused_at, tally_told, tally_step, hold, give, give_all, or_else}
use Rattle.ang_meaning.specs.Perform.{global_put, field_put, may_take, member_put}
use Rattle.ang_meaning.specs.Results.{give_some, give_back, give_others}
use Rattle.ang_meaning.proofs.Counting.{more_globals, give_globals}
use Rattle.ang_code_laws.specs.Globals.{globals_of_each}

-- ---- giving up

module _ (ns : List ℕ) where
  -- the modules have these numbers of globals
  abbrev pub Has : World → Type 0
  Has w = globals_of_each w ≡ ns

  pub give_has : (v : Slot) (w : World) → Has w → Has (give v w)
  give_has v w p = ap (list_map length) (give_globals v w) ∙ p

  pub give_all_has : (vs : List Slot) (w : World) → Has w → Has (give_all vs w)
  give_all_has [] w p = p
  give_all_has (v ∷ vs) w p = give_all_has vs (give v w) (give_has v w p)

  pub give_some_has : (n : ℕ) (vs : List Slot) (w : World) → Has w → Has (give_some n vs w)
  give_some_has zero vs w p = p
  give_some_has (suc n) [] w p = p
  give_some_has (suc n) (v ∷ vs) w p = give_some_has n vs (give v w) (give_has v w p)

  pub give_back_has : (vs : List Slot) (w : World) → Has w → Has (give_back vs w)
  give_back_has [] w p = p
  give_back_has (v ∷ vs) w p = give_has v (give_back vs w) (give_back_has vs w p)

  pub give_others_has : (ps : List Passing) (vs : List Slot) (w : World) → Has w → Has (give_others ps vs w)
  give_others_has [] vs w p = p
  give_others_has (q ∷ ps) [] w p = p
  give_others_has (In ∷ ps) (v ∷ vs) w p = give_others_has ps vs (give v w) (give_has v w p)
  give_others_has (Object ∷ ps) (v ∷ vs) w p = give_others_has ps vs (give v w) (give_has v w p)
  give_others_has (Out ∷ ps) (v ∷ vs) w p = give_others_has ps vs w p

-- ---- stores

set_count : (xs : List Slot) (i : ℕ) (x : Slot) → length (slice_set xs i x) ≡ length xs
set_count [] i x = refl
set_count (y ∷ xs) zero x = refl
set_count (y ∷ xs) (suc i) x = ap suc (set_count xs i x)

-- a global is written where it is
written_count : (gs : List (List Slot)) (m g : ℕ) (v : Slot) → list_map length (slice_set gs m (slice_set (slice_index_or gs m []) g v)) ≡ list_map length gs
written_count [] m g v = refl
written_count (vs ∷ gs) zero g v = ap (λ n. n ∷ list_map length gs) (set_count vs g v)
written_count (vs ∷ gs) (suc m) g v = ap (λ ns. length vs ∷ ns) (written_count gs m g v)

module _ (ns : List ℕ) where
  pub put_has : (m g : ℕ) (v : Slot) (w : World) → Has ns w → Has ns (global_put m g v w)
  unfolding global_put
  put_has m g v w p = written_count w.globals m g v ∙ p

  pub field_has : (n i : ℕ) (v : Slot) (w : World) → Has ns w → Has ns (field_put n i v w)
  unfolding field_put
  field_has n i v w p = p

  taken_has : (b : Bool) (n i : ℕ) (v : Slot) (w : World) → Has ns w → Has ns (cond b (field_put n i v w) w)
  taken_has true n i v w p = field_has n i v w p
  taken_has false n i v w p = p

  pub member_has : (i : ℕ) (o v : Slot) (w : World) → Has ns w → Has ns (member_put i o v w)
  unfolding member_put
  member_has i (Bits x) v w p = p
  member_has i (Script None) v w p = p
  member_has i (Script (Some n)) v w p = taken_has (may_take n v w) n i v w p
  member_has i (Host d k) v w p = p

  -- ---- steps that may be refused

  abbrev pub TriedHas : Tried → Type 0
  TriedHas (Yes w) = Has ns w
  TriedHas (No w) = Has ns w

  told_has : (b : Bool) (rest : List Input) (w : World) → Has ns w → TriedHas (memory_told (Room b ∷ rest) w)
  told_has true rest w p = p
  told_has false rest w p = p

  memory_told_has : (is : List Input) (w : World) → Has ns w → TriedHas (memory_told is w)
  memory_told_has [] w p = p
  memory_told_has (Room b ∷ rest) w p = told_has b rest w p
  memory_told_has (Said r ∷ rest) w p = p
  memory_told_has (Tallied b ∷ rest) w p = p
  memory_told_has (Fresh n ∷ rest) w p = p

  pub memory_has : (w : World) → Has ns w → TriedHas (memory_step w)
  unfolding memory_step
  memory_has w p = memory_told_has w.inputs w p

  refused_has : (x : HoldLimit) (rest : List Input) (w : World) → Has ns w → TriedHas (refused_at x rest w)
  refused_has Inside rest w p = p
  refused_has AtEnd rest w p = p
  refused_has OfDriver rest w p = p

  tally_told_has : (x : HoldLimit) (is : List Input) (w : World) → Has ns w → TriedHas (tally_told x is w)
  tally_told_has x [] w p = p
  tally_told_has x (Tallied true ∷ rest) w p = p
  tally_told_has x (Tallied false ∷ rest) w p = refused_has x rest w p
  tally_told_has x (Said r ∷ rest) w p = p
  tally_told_has x (Room b ∷ rest) w p = p
  tally_told_has x (Fresh n ∷ rest) w p = p

  tally_has : (v : Slot) (w : World) → Has ns w → TriedHas (tally_step v w)
  unfolding tally_step
  tally_has (Bits n) w p = p
  tally_has (Script None) w p = p
  tally_has (Script (Some n)) w p = tally_told_has (hold_limit_of (map.get w.objects n)) w.inputs w p
  tally_has (Host d None) w p = p
  tally_has (Host d (Some k)) w p = tally_told_has OfDriver w.inputs w p

  pub more_has : (v : Slot) (w : World) → Has ns w → Has ns (one_more v w)
  more_has v w p = ap (list_map length) (more_globals v w) ∙ p

  held_has : (v : Slot) (o : Tried) → TriedHas o → TriedHas (or_else o No (λ u. Yes (one_more v u)))
  held_has v (No w) p = p
  held_has v (Yes w) p = more_has v w p

  pub hold_has : (v : Slot) (w : World) → Has ns w → TriedHas (hold v w)
  unfolding hold
  hold_has v w p = held_has v (tally_step v w) (tally_has v w p)

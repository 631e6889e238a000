-- There is still enough for each place where a value is held once more.
use Rattle.std.proofs.Common.{◌≡◌, List, [], ◌∷◌, ◌++◌, Bool, true, false, Some, None, ap, subst, ◌∙◌}
use Rattle.std.specs.FinMap as map
use Rattle.ang_meaning.specs.declared.slot.Slot.{Slot}
use Rattle.ang_meaning.specs.declared.slot.Slot.TheVariants.{Bits, Script, Host}
use Rattle.ang_meaning.specs.World.{World, Input, Room, Said, Tallied, Fresh, Tried, Yes, No, or_else, HoldLimit, Inside, AtEnd, OfDriver, hold_limit_of, refused_at, tally_told, tally_step, one_more, hold, if_told, with_inputs}
use Rattle.ang_meaning.specs.Told.{Told}
use Rattle.ang_meaning.specs.Counting.{CanGive}
use Rattle.ang_meaning.proofs.Enough.{more_can}

-- for the value and the others, or for the others alone where it was refused
abbrev CanIf : Slot → List Slot → Tried → Type 0
CanIf v vs (Yes u) = CanGive (v ∷ vs) u
CanIf v vs (No u) = CanGive vs u

-- a tally that was asked
abbrev CanAfter : Slot → List Slot → Tried → Type 0
CanAfter v vs (Yes u) = CanGive (v ∷ vs) (one_more v u)
CanAfter v vs (No u) = CanGive vs u

refused_can : (x : HoldLimit) (v : Slot) (vs : List Slot) (is : List Input) (w : World) → CanGive vs w → CanAfter v vs (refused_at x is w)
refused_can Inside v vs is w c = c
refused_can AtEnd v vs is w c = c
refused_can OfDriver v vs is w c = c

told_can : (x : HoldLimit) (v : Slot) (vs : List Slot) (is : List Input) (w : World) → CanGive vs w → CanAfter v vs (tally_told x is w)
told_can x v vs [] w c = c
told_can x v vs (Tallied true ∷ rest) w c = more_can v vs (with_inputs rest w) c
told_can x v vs (Tallied false ∷ rest) w c = refused_can x v vs rest w c
told_can x v vs (Room b ∷ rest) w c = c
told_can x v vs (Said r ∷ rest) w c = c
told_can x v vs (Fresh n ∷ rest) w c = c

tally_can : (v : Slot) (vs : List Slot) (w : World) → CanGive vs w → CanAfter v vs (tally_step v w)
unfolding tally_step
tally_can (Bits n) vs w c = more_can (Bits n) vs w c
tally_can (Script None) vs w c = more_can (Script None) vs w c
tally_can (Script (Some n)) vs w c = told_can (hold_limit_of (map.get w.objects n)) (Script (Some n)) vs w.inputs w c
tally_can (Host d None) vs w c = more_can (Host d None) vs w c
tally_can (Host d (Some k)) vs w c = told_can OfDriver (Host d (Some k)) vs w.inputs w c

after_can : (v : Slot) (vs : List Slot) (t : Tried) → CanAfter v vs t → CanIf v vs (or_else t No (λ u. Yes (one_more v u)))
after_can v vs (No w) p = p
after_can v vs (Yes w) p = p

pub hold_can : (v : Slot) (vs : List Slot) (w : World) → CanGive vs w → CanIf v vs (hold v w)
unfolding hold
hold_can v vs w c = after_can v vs (tally_step v w) (tally_can v vs w c)

-- what was held
pub held_can : (v : Slot) (vs : List Slot) (b : Bool) (w w' : World) → b ≡ true → Told (λ is. hold v (with_inputs is w)) (λ is. if_told b (with_inputs is w')) → CanGive vs w → CanGive (v ∷ vs) w'
held_can v vs b w w' e t c = subst (CanIf v vs) (t.tells [] ∙ ap (λ x. if_told x (with_inputs [] w')) e) (hold_can v vs (with_inputs (t.used ++ []) w) c)

pub not_held_can : (v : Slot) (vs : List Slot) (b : Bool) (w w' : World) → b ≡ false → Told (λ is. hold v (with_inputs is w)) (λ is. if_told b (with_inputs is w')) → CanGive vs w → CanGive vs w'
not_held_can v vs b w w' e t c = subst (CanIf v vs) (t.tells [] ∙ ap (λ x. if_told x (with_inputs [] w')) e) (hold_can v vs (with_inputs (t.used ++ []) w) c)

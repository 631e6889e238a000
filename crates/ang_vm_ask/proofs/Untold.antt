-- What a run is told stands in no global and no field.
use Rattle.std.proofs.Common.{◌≡◌, ℕ, List, refl, ap, ◌∙◌, Some, None}
use Rattle.std.specs.Prelude.{cond}
use Rattle.ang_meaning.specs.declared.slot.Slot.{Slot}
use Rattle.ang_meaning.specs.declared.slot.Slot.TheVariants.{Bits, Script, Host}
use Rattle.ang_meaning.specs.World.{World, Input, with_inputs}
use Rattle.ang_meaning.specs.Perform.{global_or, field_or, may_take, member_or}

pub same_global : (m g : ℕ) (v : Slot) (w : World) (is : List Input) → global_or m g v w ≡ global_or m g v (with_inputs is w)
unfolding global_or
same_global m g v w is = refl

pub same_take : (n : ℕ) (v : Slot) (w : World) (is : List Input) → may_take n v w ≡ may_take n v (with_inputs is w)
unfolding may_take
same_take n (Bits x) w is = refl
same_take n (Script None) w is = refl
same_take n (Script (Some k)) w is = refl
same_take n (Host d k) w is = refl

pub same_field : (n i : ℕ) (v : Slot) (w : World) (is : List Input) → field_or n i v w ≡ field_or n i v (with_inputs is w)
unfolding field_or
same_field n i v w is = refl

pub same_member : (i : ℕ) (o v : Slot) (w : World) (is : List Input) → member_or i o v w ≡ member_or i o v (with_inputs is w)
unfolding member_or
same_member i (Bits x) v w is = refl
same_member i (Script None) v w is = refl
same_member i (Script (Some n)) v w is =
    ap (λ b. cond b (field_or n i v w) v) (same_take n v w is) ∙ ap (λ x. cond (may_take n v (with_inputs is w)) x v) (same_field n i v w is)
same_member i (Host d k) v w is = refl

-- An object's fields given up one after the other.
use Rattle.std.specs.Prelude.{ℕ, zero, suc, ◌+◌, ◌≡◌, ◌<◌, ◌≤◌, List, [], ◌∷◌, Some, length, drop, slice_index_or}
use Rattle.std.proofs.Math.Seq.{drop-cons}
use Rattle.std.proofs.Common.{refl, sym, ◌∙◌, ap, subst, arith, append-nil}
use Rattle.ang_meaning.specs.declared.slot.Slot.{Slot}
use Rattle.ang_meaning.specs.declared.slot.Slot.TheVariants.{Script}
use Rattle.ang_meaning.specs.World.{World, Bounds, ScriptObjects, HostCounts, Gone, script_lowered, give, give_all}
use Rattle.ang_meaning.specs.Counting.{EnoughIn, CanGive}
use Rattle.ang_meaning.proofs.Enough.{gone_enough, give_can}

-- any bounds, where none is looked at
abbrev pub no_bounds : Bounds
no_bounds = record { events = 0; slots = 0; objects = 0 }

pub fields_enough : (k : ℕ) (fs : List Slot) (os us : ScriptObjects) (hs : HostCounts) → script_lowered k os ≡ Gone fs us → EnoughIn (Script (Some k) ∷ []) os hs → EnoughIn fs us hs
fields_enough k fs os us hs e p = subst (λ l. EnoughIn l us hs) (append-nil fs) (gone_enough k fs [] os us hs e p)

pub taken : (fs : List Slot) (i : ℕ) (v : Slot) → i < length fs → v ≡ slice_index_or fs i v → drop i fs ≡ v ∷ drop (i + 1) fs
taken fs i v lt e =
    let next : suc i ≡ i + 1 = omega arith in
    drop-cons fs i v lt ∙ ap (λ x. x ∷ drop (suc i) fs) (sym e) ∙ ap (λ n. v ∷ drop n fs) next

pub turn_gives : (fs : List Slot) (i : ℕ) (v : Slot) (w0 w w1 : World) → drop i fs ≡ v ∷ drop (i + 1) fs → give_all fs w0 ≡ give_all (drop i fs) w → give v w ≡ w1 → give_all fs w0 ≡ give_all (drop (i + 1) fs) w1
turn_gives fs i v w0 w w1 e p q = p ∙ ap (λ l. give_all l w) e ∙ ap (λ u. give_all (drop (i + 1) fs) u) q

pub turn_can : (fs : List Slot) (i : ℕ) (v : Slot) (w w1 : World) → drop i fs ≡ v ∷ drop (i + 1) fs → CanGive (drop i fs) w → give v w ≡ w1 → CanGive (drop (i + 1) fs) w1
turn_can fs i v w w1 e c q = subst (λ u. CanGive (drop (i + 1) fs) u) q (give_can v (drop (i + 1) fs) w (subst (λ l. CanGive l w) e c))

pub all_given : (fs : List Slot) (i : ℕ) (w : World) → length fs ≤ i → give_all (drop i fs) w ≡ w
all_given [] zero w le = refl
all_given [] (suc i) w le = refl
all_given (f ∷ fs) zero w le = absurd (omega (arith, le))
all_given (f ∷ fs) (suc i) w le = all_given fs i w (omega (arith, le))

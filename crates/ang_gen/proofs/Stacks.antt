-- Lists of values: what is taken from a stack that has these values on top.
use Rattle.std.proofs.Common.{◌≡◌, ℕ, zero, suc, ◌+◌, ◌-◌, ◌<◌, ◌≤◌, List, [], ◌∷◌, ◌++◌, length, refl, ap, ◌∙◌, arith, append_assoc}
use Rattle.std.specs.Prelude.{not, ◌&&◌}
use Rattle.ang_meaning.specs.declared.slot.Slot.{Slot}
use Rattle.ang_meaning.specs.declared.routine.Passing.{Passing}
use Rattle.ang_meaning.specs.declared.routine.Passing.TheVariants.{In, Out, Object}
use Rattle.ang_meaning.specs.World.{World, give, give_all}
use Rattle.ang_meaning.specs.Environment.{has_objects, is_null}
use Rattle.ang_meaning.specs.Results.{local_at, local_set, give_some, drop_some, give_back, outs_of, give_others}
use Rattle.ang_core.specs.Sound.{out_count}
use Rattle.ang_code.specs.Machine.{take_some}

pub give_append : (a b : List Slot) (w : World) → give_all (a ++ b) w ≡ give_all b (give_all a w)
give_append [] b w = refl
give_append (v ∷ a) b w = give_append a b (give v w)

-- what was taken last is given first
pub give_two : (a b c : List Slot) (w : World) → give_all ((a ++ b) ++ c) w ≡ give_all (b ++ c) (give_all a w)
give_two a b c w = ap (λ s. give_all s w) (append_assoc a b c) ∙ give_append a (b ++ c) w

pub take_front : (a b : List Slot) → take_some (length a) (a ++ b) ≡ a
take_front [] b = refl
take_front (v ∷ a) b = ap (λ s. v ∷ s) (take_front a b)

pub drop_front : (a b : List Slot) → drop_some (length a) (a ++ b) ≡ b
drop_front [] b = refl
drop_front (v ∷ a) b = drop_front a b

pub give_front : (a b : List Slot) (w : World) → give_some (length a) (a ++ b) w ≡ give_all a w
give_front [] b w = refl
give_front (v ∷ a) b w = give_front a b (give v w)

-- a block's end: its own locals go, and the others stay
pub drop_within : (n : ℕ) (a b : List Slot) → n ≤ length a → drop_some n (a ++ b) ≡ drop_some n a ++ b
drop_within zero a b h = refl
drop_within (suc n) [] b h = absurd (omega arith)
drop_within (suc n) (v ∷ a) b h = drop_within n a b (omega arith)

pub give_within : (n : ℕ) (a b : List Slot) (w : World) → n ≤ length a → give_some n (a ++ b) w ≡ give_some n a w
give_within zero a b w h = refl
give_within (suc n) [] b w h = absurd (omega arith)
give_within (suc n) (v ∷ a) b w h = give_within n a b (give v w) (omega arith)

pub length_drop : (n : ℕ) (a : List Slot) → n ≤ length a → length (drop_some n a) ≡ length a - n
length_drop zero a h = omega arith
length_drop (suc n) [] h = absurd (omega arith)
length_drop (suc n) (v ∷ a) h = length_drop n a (omega arith) ∙ omega arith

-- it makes no difference whether a block's end or what ends the run gives them
pub give_drop : (n : ℕ) (a b : List Slot) (w : World) → give_all (a ++ b) w ≡ give_all (drop_some n a ++ b) (give_some n a w)
give_drop zero a b w = refl
give_drop (suc n) [] b w = refl
give_drop (suc n) (v ∷ a) b w = give_drop n a b (give v w)

pub local_in : (a b : List Slot) (i : ℕ) → i < length a → local_at (a ++ b) i ≡ local_at a i
local_in [] b i h = absurd (omega arith)
local_in (v ∷ a) b zero h = refl
local_in (v ∷ a) b (suc i) h = local_in a b i (omega arith)

pub local_under : (s a b : List Slot) (i d : ℕ) → i < length a → d ≡ length s + i → local_at (s ++ (a ++ b)) d ≡ local_at a i
local_under [] a b i d h e = let e' : d ≡ i = omega arith in ap (λ k. local_at (a ++ b) k) e' ∙ local_in a b i h
local_under (v ∷ s) a b i zero h e = absurd (omega arith)
local_under (v ∷ s) a b i (suc d) h e = local_under s a b i d h (omega arith)

pub set_in : (a b : List Slot) (i : ℕ) (x : Slot) → i < length a → local_set (a ++ b) i x ≡ local_set a i x ++ b
set_in [] b i x h = absurd (omega arith)
set_in (v ∷ a) b zero x h = refl
set_in (v ∷ a) b (suc i) x h = ap (λ s. v ∷ s) (set_in a b i x (omega arith))

pub set_under : (s a b : List Slot) (i d : ℕ) (x : Slot) → i < length a → d ≡ length s + i → local_set (s ++ (a ++ b)) d x ≡ s ++ (local_set a i x ++ b)
set_under [] a b i d x h e = let e' : d ≡ i = omega arith in ap (λ k. local_set (a ++ b) k x) e' ∙ set_in a b i x h
set_under (v ∷ s) a b i zero x h e = absurd (omega arith)
set_under (v ∷ s) a b i (suc d) x h e = ap (λ r. v ∷ r) (set_under s a b i d x h (omega arith))

pub length_set : (a : List Slot) (i : ℕ) (x : Slot) → length (local_set a i x) ≡ length a
length_set [] i x = refl
length_set (v ∷ a) zero x = refl
length_set (v ∷ a) (suc i) x = ap suc (length_set a i x)

-- the value after these
pub local_seam : (a : List Slot) (v : Slot) (b : List Slot) → local_at (a ++ v ∷ b) (length a) ≡ v
local_seam [] v b = refl
local_seam (x ∷ a) v b = local_seam a v b

pub set_seam : (a : List Slot) (v : Slot) (b : List Slot) (y : Slot) → local_set (a ++ v ∷ b) (length a) y ≡ a ++ y ∷ b
set_seam [] v b y = refl
set_seam (x ∷ a) v b y = ap (λ s. x ∷ s) (set_seam a v b y)

pub give_back_front : (a b : List Slot) (w : World) → give_back (take_some (length a) (a ++ b)) w ≡ give_back a w
give_back_front a b w = ap (λ s. give_back s w) (take_front a b)

-- two blocks' ends
pub drop_more : (i j : ℕ) (a : List Slot) → drop_some (i + j) a ≡ drop_some j (drop_some i a)
drop_more zero j a = ap (λ n. drop_some n a) (let e : 0 + j ≡ j = omega arith in e)
drop_more (suc i) zero [] = ap (λ n. drop_some n []) (let e : suc i + 0 ≡ suc i = omega arith in e)
drop_more (suc i) (suc j) [] = ap (λ n. drop_some n []) (let e : suc i + suc j ≡ suc (i + suc j) = omega arith in e)
drop_more (suc i) j (v ∷ a) = ap (λ n. drop_some n (v ∷ a)) (let e : suc i + j ≡ suc (i + j) = omega arith in e) ∙ drop_more i j a

pub give_more : (i j : ℕ) (a : List Slot) (w : World) → give_some (i + j) a w ≡ give_some j (drop_some i a) (give_some i a w)
give_more zero j a w = ap (λ n. give_some n a w) (let e : 0 + j ≡ j = omega arith in e)
give_more (suc i) zero [] w = ap (λ n. give_some n [] w) (let e : suc i + 0 ≡ suc i = omega arith in e)
give_more (suc i) (suc j) [] w = ap (λ n. give_some n [] w) (let e : suc i + suc j ≡ suc (i + suc j) = omega arith in e)
give_more (suc i) j (v ∷ a) w = ap (λ n. give_some n (v ∷ a) w) (let e : suc i + j ≡ suc (i + j) = omega arith in e) ∙ give_more i j a (give v w)

-- parameters on top of a stack
pub outs_front : (ps : List Passing) (a b : List Slot) → length a ≡ length ps → outs_of ps (a ++ b) ≡ outs_of ps a
outs_front [] a b e = refl
outs_front (p ∷ ps) [] b e = absurd (omega arith)
outs_front (In ∷ ps) (v ∷ a) b e = outs_front ps a b (omega arith)
outs_front (Object ∷ ps) (v ∷ a) b e = outs_front ps a b (omega arith)
outs_front (Out ∷ ps) (v ∷ a) b e = ap (λ s. v ∷ s) (outs_front ps a b (omega arith))

pub others_front : (ps : List Passing) (a b : List Slot) (w : World) → length a ≡ length ps → give_others ps (a ++ b) w ≡ give_others ps a w
others_front [] a b w e = refl
others_front (p ∷ ps) [] b w e = absurd (omega arith)
others_front (In ∷ ps) (v ∷ a) b w e = others_front ps a b (give v w) (omega arith)
others_front (Object ∷ ps) (v ∷ a) b w e = others_front ps a b (give v w) (omega arith)
others_front (Out ∷ ps) (v ∷ a) b w e = others_front ps a b w (omega arith)

pub objects_front : (ps : List Passing) (a b : List Slot) → length ps ≡ length a → has_objects ps (a ++ b) ≡ has_objects ps a
objects_front [] a b e = refl
objects_front (p ∷ ps) [] b e = absurd (omega arith)
objects_front (In ∷ ps) (v ∷ a) b e = objects_front ps a b (omega arith)
objects_front (Out ∷ ps) (v ∷ a) b e = objects_front ps a b (omega arith)
objects_front (Object ∷ ps) (v ∷ a) b e = ap (λ x. not (is_null v) && x) (objects_front ps a b (omega arith))

pub length_outs : (ps : List Passing) (a : List Slot) → length a ≡ length ps → length (outs_of ps a) ≡ out_count ps
length_outs [] a e = refl
length_outs (p ∷ ps) [] e = absurd (omega arith)
length_outs (In ∷ ps) (v ∷ a) e = length_outs ps a (omega arith)
length_outs (Object ∷ ps) (v ∷ a) e = length_outs ps a (omega arith)
length_outs (Out ∷ ps) (v ∷ a) e = ap suc (length_outs ps a (omega arith))

pub none_long : (a : List Slot) → length a ≡ 0 → a ≡ []
none_long [] e = refl
none_long (v ∷ a) e = absurd (omega arith)

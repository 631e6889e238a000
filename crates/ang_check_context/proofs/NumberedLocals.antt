-- The numbers of the locals of a name, and the last of them.
use Rattle.std.proofs.Common.{◌≡◌, ℕ, zero, suc, ◌+◌, ◌-◌, ◌<◌, ◌≤◌, Bool, true, false, cond, ◌||◌, List, [], ◌∷◌, ◌++◌, take, drop, length, Option, Some, None, refl, sym, ap, ◌∙◌, arith, bytes_eq}
use Rattle.std.specs.Prelude.{IfSome, IfNone, is_some, nat_le, slice_get}
use Rattle.std.specs.List.{list_any}
use Rattle.std.specs.Option.{option_or}
use Rattle.std.proofs.lemmas.List.{length-append, length-take}
use Rattle.std.proofs.lemmas.Option.{slice_get-get_or}
use Rattle.std.proofs.lemmas.Slice.Eq.{bytes_eq-Decides}
use Rattle.std.proofs.Math.Seq.{take-append_seam}
use Rattle.ang_index.specs.Rows.{Rows, items_at, Puts}
use Rattle.ang_check_context.specs.declared.scope.LocalVariable.{LocalVariable}
use Rattle.ang_check_context.specs.Numbered.{AreNumbered, numbers_from}
use Rattle.ang_check_context.specs.Scope.{last_named}

or_none : (o : Option ℕ) → o ≡ option_or o None
or_none None = refl
or_none (Some n) = refl

or_joins : (a b c : Option ℕ) → option_or (option_or a b) c ≡ option_or a (option_or b c)
or_joins None b c = refl
or_joins (Some n) b c = refl

-- those after a place go first
last_parts : (name : List ℕ) (n i : ℕ) (ps : List LocalVariable)
    → last_named name n ps ≡ option_or (last_named name (n + i) (drop i ps)) (last_named name n (take i ps))
last_parts name n zero ps = let first : n ≡ n + 0 = omega arith in ap (λ k. last_named name k ps) first ∙ or_none (last_named name (n + 0) ps)
last_parts name n (suc i) [] = refl
last_parts name n (suc i) (p ∷ ps) =
    let next : (n + 1) + i ≡ n + suc i = omega arith in
    let own = cond (bytes_eq p.name name) (Some n) None in
    ap (λ o. option_or o own) (last_parts name (n + 1) i ps)
    ∙ or_joins (last_named name ((n + 1) + i) (drop i ps)) (last_named name (n + 1) (take i ps)) own
    ∙ ap (λ k. option_or (last_named name k (drop i ps)) (option_or (last_named name (n + 1) (take i ps)) own)) next

-- ---- the numbers of a name

numbers_more : (name : List ℕ) (n : ℕ) (ps : List LocalVariable) (p : LocalVariable)
    → numbers_from name n (ps ++ p ∷ []) ≡ cond (bytes_eq p.name name) (numbers_from name n ps ++ (n + length ps) ∷ []) (numbers_from name n ps)
numbers_more name n [] p = let first : n ≡ n + 0 = omega arith in ap (λ k. cond (bytes_eq p.name name) (k ∷ []) []) first
numbers_more name n (q ∷ ps) p =
    let next : (n + 1) + length ps ≡ n + length (q ∷ ps) = omega arith in
    ap (λ r. cond (bytes_eq q.name name) (n ∷ r) r) (numbers_more name (n + 1) ps p)
    ∙ in_front (bytes_eq q.name name) (bytes_eq p.name name) n (numbers_from name (n + 1) ps) (((n + 1) + length ps) ∷ [])
    ∙ ap (λ k. cond (bytes_eq p.name name) (numbers_from name n (q ∷ ps) ++ k ∷ []) (numbers_from name n (q ∷ ps))) next
  where
    in_front : (b c : Bool) (n : ℕ) (r more : List ℕ)
        → cond b (n ∷ cond c (r ++ more) r) (cond c (r ++ more) r) ≡ cond c (cond b (n ∷ r) r ++ more) (cond b (n ∷ r) r)
    in_front true true n r more = refl
    in_front true false n r more = refl
    in_front false true n r more = refl
    in_front false false n r more = refl

pub numbered_none : AreNumbered [] []
numbered_none = record { each = λ name. refl }

pub numbered_more : (ps qs : List LocalVariable) (p : LocalVariable) (old new : Rows ℕ) (n : ℕ) → AreNumbered ps old
    → Puts old new 0 p.name n → n ≡ length ps → qs ≡ ps ++ p ∷ [] → AreNumbered qs new
numbered_more ps qs p old new n h put number all = record {
  each = λ other.
      put 0 other
      ∙ ap (λ k. cond (bytes_eq p.name other) (items_at 0 other old ++ k ∷ []) (items_at 0 other old)) number
      ∙ ap (λ r. cond (bytes_eq p.name other) (r ++ length ps ∷ []) r) (h.each other)
      ∙ ap (λ k. cond (bytes_eq p.name other) (numbers_from other 0 ps ++ k ∷ []) (numbers_from other 0 ps)) first
      ∙ sym (numbers_more other 0 ps p) ∙ ap (numbers_from other 0) (sym all);
}
  where
    first : length ps ≡ 0 + length ps
    first = omega arith

pub numbered_same : (ps qs : List LocalVariable) (old new : Rows ℕ) → AreNumbered ps old → qs ≡ ps → new ≡ old → AreNumbered qs new
numbered_same ps qs old new h e f = record { each = λ name. ap (items_at 0 name) f ∙ h.each name ∙ ap (numbers_from name 0) (sym e) }

-- ---- one local less

itself : (name : List ℕ) → bytes_eq name name ≡ true
itself name = (bytes_eq-Decides name name).1 refl

cancelled : (b : Bool) (r t : List ℕ) (x y : ℕ) → cond b (r ++ x ∷ []) r ≡ cond b (t ++ y ∷ []) t → r ≡ t
cancelled true r t x y e =
    let long : length r ≡ length t = omega (arith, ap length e, length-append r (x ∷ []), length-append t (y ∷ [])) in
    sym (take-append_seam r (x ∷ [])) ∙ (λ i. take (long i) (e i)) ∙ take-append_seam t (y ∷ [])
cancelled false r t x y e = e

some_number : (name : List ℕ) (ps : List LocalVariable) (p : LocalVariable) → p.name ≡ name → [] ≡ numbers_from name 0 (ps ++ p ∷ []) → ⊥
some_number name ps p is e =
    let own : bytes_eq p.name name ≡ true = ap (λ m. bytes_eq m name) is ∙ itself name in
    let all = e ∙ numbers_more name 0 ps p ∙ ap (λ b. cond b (numbers_from name 0 ps ++ (0 + length ps) ∷ []) (numbers_from name 0 ps)) own in
    omega (arith, ap length all, length-append (numbers_from name 0 ps) ((0 + length ps) ∷ []))

pub numbered_less : (ps qs : List LocalVariable) (p : LocalVariable) (old new : Rows ℕ) (o : Option ℕ) → AreNumbered qs old → qs ≡ ps ++ p ∷ []
    → IfSome o (λ x. Puts new old 0 p.name x) → IfNone o (items_at 0 p.name old ≡ []) → AreNumbered ps new
numbered_less ps qs p old new (Some x) h all put none = record {
  each = λ other.
      cancelled (bytes_eq p.name other) (items_at 0 other new) (numbers_from other 0 ps) x (0 + length ps)
      (sym (put 0 other) ∙ h.each other ∙ ap (numbers_from other 0) all ∙ numbers_more other 0 ps p);
}
numbered_less ps qs p old new None h all put none =
    absurd (some_number p.name ps p refl (sym none ∙ h.each p.name ∙ ap (numbers_from p.name 0) all))

-- ---- the last number of a name

final : List ℕ → Option ℕ
final [] = None
final (x ∷ xs) = option_or (final xs) (Some x)

final_numbers : (name : List ℕ) (n : ℕ) (ps : List LocalVariable) → last_named name n ps ≡ final (numbers_from name n ps)
unfolding final
final_numbers name n [] = refl
final_numbers name n (p ∷ ps) =
    ap (λ o. option_or o (cond (bytes_eq p.name name) (Some n) None)) (final_numbers name (n + 1) ps)
    ∙ by (bytes_eq p.name name) n (numbers_from name (n + 1) ps)
  where
    by : (b : Bool) (n : ℕ) (r : List ℕ) → option_or (final r) (cond b (Some n) None) ≡ final (cond b (n ∷ r) r)
    by true n r = refl
    by false n r = sym (or_none (final r))

final_at : (x : ℕ) (xs : List ℕ) → final (x ∷ xs) ≡ slice_get (x ∷ xs) (length xs)
unfolding final
final_at x [] = refl
final_at x (y ∷ ys) =
    let below : length ys < length (y ∷ ys) = omega arith in
    let there = slice_get-get_or (y ∷ ys) (length ys) 0 below in
    ap (λ o. option_or o (Some x)) (final_at y ys ∙ there) ∙ sym there

final_is : (xs : List ℕ) → final xs ≡ slice_get xs (length xs - 1)
unfolding final
final_is [] = refl
final_is (x ∷ xs) = let at : length xs ≡ length (x ∷ xs) - 1 = omega arith in final_at x xs ∙ ap (slice_get (x ∷ xs)) at

pub last_found : (name : List ℕ) (ps : List LocalVariable) (index : Rows ℕ) (ns : List ℕ) → AreNumbered ps index → ns ≡ items_at 0 name index
    → slice_get ns (length ns - 1) ≡ last_named name 0 ps
last_found name ps index ns h e = sym (final_numbers name 0 ps ∙ ap final (sym (e ∙ h.each name)) ∙ final_is ns)

-- ---- whether one from a number on has the name

any_is : (name : List ℕ) (n : ℕ) (ps : List LocalVariable) → list_any (λ (p : LocalVariable). bytes_eq p.name name) ps ≡ is_some (last_named name n ps)
any_is name n [] = refl
any_is name n (p ∷ ps) =
    ap (λ b. bytes_eq p.name name || b) (any_is name (n + 1) ps) ∙ by (bytes_eq p.name name) n (last_named name (n + 1) ps)
  where
    by : (b : Bool) (n : ℕ) (o : Option ℕ) → (b || is_some o) ≡ is_some (option_or o (cond b (Some n) None))
    by true n None = refl
    by true n (Some k) = refl
    by false n None = refl
    by false n (Some k) = refl

some_is : (k m : ℕ) → Some k ≡ Some m → k ≡ m
some_is k m e = cc

last_within : (name : List ℕ) (n : ℕ) (ps : List LocalVariable) (m : ℕ) → last_named name n ps ≡ Some m → (n ≤ m) × (m < n + length ps)
last_within name n [] m e = cc
last_within name n (p ∷ ps) m e = by (bytes_eq p.name name) (last_named name (n + 1) ps) (last_within name (n + 1) ps m) e
  where
    by : (b : Bool) (o : Option ℕ) → (o ≡ Some m → (n + 1 ≤ m) × (m < (n + 1) + length ps)) → option_or o (cond b (Some n) None) ≡ Some m
        → (n ≤ m) × (m < n + length (p ∷ ps))
    by b (Some k) later e = let r = later e in (omega (arith, r.0), omega (arith, r.1))
    by true None later e = let is = some_is n m e in (omega (arith, is), omega (arith, is))
    by false None later e = cc

is_from : ℕ → Option ℕ → Bool
is_from start None = false
is_from start (Some m) = nat_le start m

from_parts : (start : ℕ) (a b : Option ℕ) → IfSome a (λ k. start ≤ k) → IfSome b (λ m. m < start) → is_some a ≡ is_from start (option_or a b)
unfolding is_from
from_parts start (Some k) b h g = sym (search (arith, h))
from_parts start None (Some m) h g = sym (search (arith, g))
from_parts start None None h g = refl

any_is_from : (name : List ℕ) (ps : List LocalVariable) (start : ℕ)
    → list_any (λ (p : LocalVariable). bytes_eq p.name name) (drop start ps) ≡ is_from start (last_named name 0 ps)
any_is_from name ps start =
    any_is name (0 + start) (drop start ps)
    ∙ from_parts start (last_named name (0 + start) (drop start ps)) (last_named name 0 (take start ps))
    (after (last_named name (0 + start) (drop start ps)) (last_within name (0 + start) (drop start ps)))
    (before (last_named name 0 (take start ps)) (last_within name 0 (take start ps)))
    ∙ ap (is_from start) (sym (last_parts name 0 start ps))
  where
    after : (o : Option ℕ) → ((m : ℕ) → o ≡ Some m → (0 + start ≤ m) × (m < (0 + start) + length (drop start ps))) → IfSome o (λ k. start ≤ k)
    after None h = tt
    after (Some k) h = let r = (h k refl).0 in omega (arith, r)

    before : (o : Option ℕ) → ((m : ℕ) → o ≡ Some m → (0 ≤ m) × (m < 0 + length (take start ps))) → IfSome o (λ m. m < start)
    before None h = tt
    before (Some m) h = let r = (h m refl).1 in omega (arith, r, length-take start ps)

pub any_none : (name : List ℕ) (ps : List LocalVariable) (start : ℕ) → None ≡ last_named name 0 ps
    → false ≡ list_any (λ (p : LocalVariable). bytes_eq p.name name) (drop start ps)
unfolding is_from
any_none name ps start e = ap (is_from start) e ∙ sym (any_is_from name ps start)

pub any_some : (name : List ℕ) (ps : List LocalVariable) (start m : ℕ) → Some m ≡ last_named name 0 ps
    → nat_le start m ≡ list_any (λ (p : LocalVariable). bytes_eq p.name name) (drop start ps)
unfolding is_from
any_some name ps start m e = ap (is_from start) e ∙ sym (any_is_from name ps start)

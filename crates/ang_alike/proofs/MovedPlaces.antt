-- Lists whose items stand under other numbers, and other numbers for what is empty.
use Rattle.std.proofs.Common.{◌≡◌, ◌≢◌, ◌<◌, refl, sym, ap, ◌∙◌, subst, inl, inr, arith, ℕ, zero, suc, Bool, true, false, List, [], ◌∷◌, ◌++◌, length, map, Option, Some, None}
use Rattle.std.specs.Prelude.{◌⊎◌, ◌==◌, ◌||◌, IsSome, slice_get, slice_set, slice_index_or, if◌then◌else◌}
use Rattle.std.specs.List.{list_any}
use Rattle.std.proofs.lemmas.Bool.{eq-eqb, eqb-true}
use Rattle.std.proofs.lemmas.List.Folds.{Any-from_list_any}
use Rattle.ang_meaning.specs.declared.slot.Slot.{Slot}
use Rattle.ang_engine_modules.proofs.PlaceLists.{set_at, any_default}
use Rattle.ang_alike.specs.Moved.{Moving, AreMovedLists}
use Rattle.ang_alike.proofs.ByNumber.{by_number}

-- ---- two numbers in each other's place

pub same_or_not : (m i : ℕ) → (m ≡ i) ⊎ (m ≢ i)
same_or_not m i = by_number m i (λ e. inl e) (λ d. inr d) (m == i) refl

differs_by : (m i : ℕ) (b : Bool) → (m == i) ≡ b → m ≢ i → (m == i) ≡ false
differs_by m i true e d = absurd (d (eqb-true m i e))
differs_by m i false e d = e

pub differs : (m i : ℕ) → m ≢ i → (m == i) ≡ false
differs m i d = differs_by m i (m == i) refl d

abbrev pub swapped : ℕ → ℕ → ℕ → ℕ
swapped a b x = if x == a then b else (if x == b then a else x)

swap_first : (a b x : ℕ) → x ≡ a → swapped a b x ≡ b
swap_first a b x e = ap (λ c. if c then b else (if x == b then a else x)) (eq-eqb x a e)

swap_other : (a b x : ℕ) → x ≢ a → x ≢ b → swapped a b x ≡ x
swap_other a b x d e = ap (λ c. if c then b else (if x == b then a else x)) (differs x a d) ∙ ap (λ c. if c then a else x) (differs x b e)

second_by : (a b x : ℕ) → (x ≡ a) ⊎ (x ≢ a) → x ≡ b → swapped a b x ≡ a
second_by a b x (inl s) e = swap_first a b x s ∙ sym e ∙ s
second_by a b x (inr d) e = ap (λ c. if c then b else (if x == b then a else x)) (differs x a d) ∙ ap (λ c. if c then a else x) (eq-eqb x b e)

swap_second : (a b x : ℕ) → x ≡ b → swapped a b x ≡ a
swap_second a b x e = second_by a b x (same_or_not x a) e

twice_by : (a b x : ℕ) → (x ≡ a) ⊎ (x ≢ a) → (x ≡ b) ⊎ (x ≢ b) → swapped a b (swapped a b x) ≡ x
twice_by a b x (inl e) k = ap (swapped a b) (swap_first a b x e) ∙ swap_second a b b refl ∙ sym e
twice_by a b x (inr d) (inl e) = ap (swapped a b) (swap_second a b x e) ∙ swap_first a b a refl ∙ sym e
twice_by a b x (inr d) (inr e) = ap (swapped a b) (swap_other a b x d e) ∙ swap_other a b x d e

pub swap_twice : (a b x : ℕ) → swapped a b (swapped a b x) ≡ x
swap_twice a b x = twice_by a b x (same_or_not x a) (same_or_not x b)

swap_by : {A : Type 0} (ys : List A) (d : A) (a b x : ℕ) → slice_index_or ys a d ≡ slice_index_or ys b d → (x ≡ a) ⊎ (x ≢ a) → (x ≡ b) ⊎ (x ≢ b)
    → slice_index_or ys (swapped a b x) d ≡ slice_index_or ys x d
swap_by ys d a b x h (inl e) k = ap (λ n. slice_index_or ys n d) (swap_first a b x e) ∙ sym h ∙ ap (λ n. slice_index_or ys n d) (sym e)
swap_by ys d a b x h (inr f) (inl e) = ap (λ n. slice_index_or ys n d) (swap_second a b x e) ∙ h ∙ ap (λ n. slice_index_or ys n d) (sym e)
swap_by ys d a b x h (inr f) (inr e) = ap (λ n. slice_index_or ys n d) (swap_other a b x f e)

-- where both have the same, all is as it was
swap_index : {A : Type 0} (ys : List A) (d : A) (a b x : ℕ) → slice_index_or ys a d ≡ slice_index_or ys b d → slice_index_or ys (swapped a b x) d ≡ slice_index_or ys x d
swap_index ys d a b x h = swap_by ys d a b x h (same_or_not x a) (same_or_not x b)

-- the numbers by which k has the new number j, and what had it the one of k
abbrev pub turned : Moving → ℕ → ℕ → Moving
turned p k j = record {
  to = λ i. swapped (p.to k) j (p.to i);
  back = λ i. p.back (swapped (p.to k) j i);
  there = λ i. ap p.back (swap_twice (p.to k) j (p.to i)) ∙ p.there i;
  here = λ i. ap (swapped (p.to k) j) (p.here (swapped (p.to k) j i)) ∙ swap_twice (p.to k) j i;
}

pub turned_here : (p : Moving) (k j : ℕ) → (turned p k j).to k ≡ j
turned_here p k j = swap_first (p.to k) j (p.to k) refl

pub turned_other : (p : Moving) (k j i : ℕ) → i ≢ k → p.to i ≢ j → (turned p k j).to i ≡ p.to i
turned_other p k j i d e = swap_other (p.to k) j (p.to i) (λ s. d (sym (p.there i) ∙ ap p.back s ∙ p.there k)) e

-- the numbers as they are
pub unmoved : Moving
unmoved = record { to = λ i. i; back = λ i. i; there = λ i. refl; here = λ i. refl }

pub one_number : (p : Moving) (a b : ℕ) → p.to a ≡ p.to b → a ≡ b
one_number p a b e = sym (p.there a) ∙ ap p.back e ∙ p.there b

-- ---- items

pub index_other : {A : Type 0} (xs : List A) (k j : ℕ) (x d : A) → j ≢ k → slice_index_or (slice_set xs k x) j d ≡ slice_index_or xs j d
index_other [] k j x d ne = refl
index_other (y ∷ ys) zero zero x d ne = absurd (ne refl)
index_other (y ∷ ys) zero (suc j) x d ne = refl
index_other (y ∷ ys) (suc k) zero x d ne = refl
index_other (y ∷ ys) (suc k) (suc j) x d ne = index_other ys k j x d (λ e. ne (ap suc e))

index_map : {A : Type 0} (g : A → A) (xs : List A) (i : ℕ) (d : A) → g d ≡ d → slice_index_or (map g xs) i d ≡ g (slice_index_or xs i d)
index_map g [] i d e = sym e
index_map g (x ∷ xs) zero d e = refl
index_map g (x ∷ xs) (suc i) d e = index_map g xs i d e

-- where there is something there is a place
pub some_within : {B : Type 0} (xs : List (Option B)) (i : ℕ) → IsSome (slice_index_or xs i None) → i < length xs
some_within [] i e = absurd (let q : ⊥ = cc in q)
some_within (x ∷ xs) zero e = omega arith
some_within (x ∷ xs) (suc i) e = omega (arith, some_within xs i e)

-- the last of a list
pub last_at : {A : Type 0} (xs : List A) (d : A) → slice_get (xs ++ d ∷ []) (length xs) ≡ Some d
last_at [] d = refl
last_at (x ∷ xs) d = last_at xs d

-- Each item stands under its new number, as f has it, and in no other place is there one.
pub record AreUnder {B : Type 0} (p : Moving) (f : Option B → Option B) (xs ys : List (Option B)) : Type 0 where
  pub each : (i : ℕ) → slice_index_or ys (p.to i) None ≡ f (slice_index_or xs i None)

or_true : (b : Bool) → (b || true) ≡ true
or_true true = refl
or_true false = refl

any_at : {A : Type 0} (P : A → Bool) (xs : List A) (i : ℕ) (d : A) → P d ≡ false → P (slice_index_or xs i d) ≡ true → list_any P xs ≡ true
any_at P [] i d off e = absurd (let s : false ≡ true = sym off ∙ e in let q : ⊥ = cc in q)
any_at P (x ∷ xs) zero d off e = ap (λ b. b || list_any P xs) e
any_at P (x ∷ xs) (suc i) d off e = ap (λ b. P x || b) (any_at P xs i d off e) ∙ or_true (P x)

-- where the test passes
any_where : {A : Type 0} (P : A → Bool) (xs : List A) (d : A) → list_any P xs ≡ true → (i : ℕ) × (P (slice_index_or xs i d) ≡ true)
any_where P xs d e =
    let found = Any-from_list_any P xs e in
    (found.0, ap P (any_default xs found.0 d found.1 found.2 ∙ found.3) ∙ found.4)

both_ways : (a b : Bool) → (a ≡ true → b ≡ true) → (b ≡ true → a ≡ true) → b ≡ a
both_ways true b h k = h refl
both_ways false true h k = sym (k refl)
both_ways false false h k = refl

module _ {B : Type 0} (p : Moving) (f : Option B → Option B) (xs ys : List (Option B)) (h : AreUnder p f xs ys) where
  set_by : (k : ℕ) (x y : Option B) → y ≡ f x → k < length xs → p.to k < length ys → (i : ℕ) → (i ≡ k) ⊎ (i ≢ k)
      → slice_index_or (slice_set ys (p.to k) y) (p.to i) None ≡ f (slice_index_or (slice_set xs k x) i None)
  set_by k x y same within there i (inl e) =
      subst (λ n. slice_index_or (slice_set ys (p.to k) y) (p.to n) None ≡ f (slice_index_or (slice_set xs k x) n None)) (sym e)
      (set_at ys (p.to k) y None there ∙ same ∙ ap f (sym (set_at xs k x None within)))
  set_by k x y same within there i (inr ne) =
      index_other ys (p.to k) (p.to i) y None (λ e. ne (one_number p i k e)) ∙ h.each i ∙ ap f (sym (index_other xs k i x None ne))

  pub under_set : (k : ℕ) (x y : Option B) → y ≡ f x → k < length xs → p.to k < length ys → AreUnder p f (slice_set xs k x) (slice_set ys (p.to k) y)
  under_set k x y same within there = record { each = λ i. set_by k x y same within there i (same_or_not i k) }

  pub under_map : (g k : Option B → Option B) → g None ≡ None → k None ≡ None → ((x : Option B) → k (f x) ≡ f (g x)) → AreUnder p f (map g xs) (map k ys)
  under_map g k gn kn e = record {
    each = λ i. index_map k ys (p.to i) None kn ∙ ap k (h.each i) ∙ e (slice_index_or xs i None) ∙ ap f (sym (index_map g xs i None gn));
  }

  -- under other numbers, where two have the same
  pub under_turned : (k j : ℕ) → slice_index_or ys (p.to k) None ≡ slice_index_or ys j None → AreUnder (turned p k j) f xs ys
  under_turned k j e = record { each = λ i. swap_index ys None (p.to k) j (p.to i) e ∙ h.each i }

  -- by what is the same of each item
  pub under_as : (g : Option B → Option B) → ((i : ℕ) → g (slice_index_or xs i None) ≡ f (slice_index_or xs i None)) → AreUnder p g xs ys
  under_as g e = record { each = λ i. h.each i ∙ sym (e i) }

  pub under_back : (i : ℕ) → slice_index_or ys i None ≡ f (slice_index_or xs (p.back i) None)
  under_back i = ap (λ n. slice_index_or ys n None) (sym (p.here i)) ∙ h.each (p.back i)

  -- a test that some item passes
  pub any_same : (P : Option B → Bool) → P None ≡ false → ((x : Option B) → P (f x) ≡ P x) → list_any P ys ≡ list_any P xs
  any_same P off e =
      both_ways (list_any P xs) (list_any P ys)
      (λ a. let found = any_where P xs None a in any_at P ys (p.to found.0) None off (ap P (h.each found.0) ∙ e (slice_index_or xs found.0 None) ∙ found.1))
      (λ a. let found = any_where P ys None a in any_at P xs (p.back found.0) None off (sym (e (slice_index_or xs (p.back found.0) None)) ∙ ap P (sym (under_back found.0)) ∙ found.1))

-- ---- lists of globals

module _ (p : Moving) (gs hs : List (List Slot)) (h : AreMovedLists p gs hs) where
  within_by : (k : ℕ) (l : List Slot) → k < length gs → p.to k < length hs → (m : ℕ) → (m ≡ k) ⊎ (m ≢ k)
      → slice_index_or (slice_set hs (p.to k) l) (p.to m) [] ≡ slice_index_or (slice_set gs k l) m []
  within_by k l within there m (inl e) =
      subst (λ n. slice_index_or (slice_set hs (p.to k) l) (p.to n) [] ≡ slice_index_or (slice_set gs k l) n []) (sym e)
      (set_at hs (p.to k) l [] there ∙ sym (set_at gs k l [] within))
  within_by k l within there m (inr ne) =
      index_other hs (p.to k) (p.to m) l [] (λ e. ne (one_number p m k e)) ∙ h.each m ∙ sym (index_other gs k m l [] ne)

  -- globals begin in a place that is there
  pub put_within : (k : ℕ) (l : List Slot) → k < length gs → p.to k < length hs → AreMovedLists p (slice_set gs k l) (slice_set hs (p.to k) l)
  put_within k l within there = record { each = λ m. within_by k l within there m (same_or_not m k) }

  pub lists_turned : (k j : ℕ) → slice_index_or hs (p.to k) [] ≡ slice_index_or hs j [] → AreMovedLists (turned p k j) gs hs
  lists_turned k j e = record { each = λ i. swap_index hs [] (p.to k) j (p.to i) e ∙ h.each i }

-- Marks of a row, gone through place by place.
use Rattle.std.specs.Prelude.{ℕ, zero, suc, Bool, true, false, not, List, [], ◌∷◌, ◌++◌, length, ◌≡◌, ◌<◌, ◌≤◌, ◌+◌, ◌&&◌, ◌||◌, ◌⊎◌, slice_index_or, slice_set}
use Rattle.std.proofs.Common.{arith, refl, ap, sym, subst, inl, inr, append_assoc, ◌∙◌}
use Rattle.std.proofs.lemmas.List.{append-nil, get_or-set_same, get_or-set_other, length-set}
use Rattle.ang_names_graph.specs.Graphs.{numbers_below, some_below}
use Rattle.ang_names_graph.specs.Marks.{IsPart, is_new}
use Rattle.ang_names_graph.specs.Tables.{is_next, is_reached}
use Rattle.ang_names_graph.proofs.Rings.{numbers_agree, numbers_more, numbers_same, some_in}

pub part_start : (row was : List Bool) (front : List ℕ) → length was ≡ length row → IsPart row was front 0 was front
part_start row was front len = record { size = len; found = sym (append-nil front); done = λ a lt an. absurd (omega arith); left = λ a le an. refl }

last_place : (a j : ℕ) → a < j + 1 → (a < j) ⊎ (a ≡ j)
last_place a j lt = grind arith

-- place j stays as it was
part_kept : (row was near : List Bool) (front places : List ℕ) (j : ℕ) → IsPart row was front j near places → j < length row
    → is_new row was j ≡ false → slice_index_or was j false ≡ (slice_index_or was j false || slice_index_or row j false) → IsPart row was front (j + 1) near places
part_kept row was near front places j p lt isnt same = record {
  size = p.size;
  found = p.found ∙ ap (λ xs. front ++ xs) (sym (numbers_same (is_new row was) j isnt));
  done = λ a less an. elim (last_place a j less) [
    | inl below ↦ p.done a below an
    | inr is ↦ subst (λ x. slice_index_or near x false ≡ (slice_index_or was x false || slice_index_or row x false)) (sym is) (p.left j (omega arith) lt ∙ same)
  ];
  left = λ a le an. p.left a (omega arith) an;
}

near_already : (a b : Bool) → a ≡ true → (not a && b) ≡ false
near_already true b e = refl
near_already false b e = cc

or_already : (a b : Bool) → a ≡ true → a ≡ (a || b)
or_already true b e = refl
or_already false b e = cc

and_false : (a b : Bool) → b ≡ false → (a && b) ≡ false
and_false true b e = e
and_false false b e = refl

or_nothing : (a b : Bool) → b ≡ false → a ≡ (a || b)
or_nothing true b e = refl
or_nothing false b e = sym e

-- place j was near
pub part_near : (row was near : List Bool) (front places : List ℕ) (j : ℕ) → IsPart row was front j near places → j < length row
    → slice_index_or near j false ≡ true → IsPart row was front (j + 1) near places
part_near row was near front places j p lt marked =
    let w : slice_index_or was j false ≡ true = sym (p.left j (omega arith) lt) ∙ marked in
    part_kept row was near front places j p lt (near_already (slice_index_or was j false) (slice_index_or row j false) w) (or_already (slice_index_or was j false) (slice_index_or row j false) w)

-- place j is not marked
pub part_far : (row was near : List Bool) (front places : List ℕ) (j : ℕ) → IsPart row was front j near places → j < length row
    → slice_index_or row j false ≡ false → IsPart row was front (j + 1) near places
part_far row was near front places j p lt none =
    part_kept row was near front places j p lt (and_false (not (slice_index_or was j false)) (slice_index_or row j false) none)
    (or_nothing (slice_index_or was j false) (slice_index_or row j false) none)

new_here : (a b : Bool) → a ≡ false → b ≡ true → (not a && b) ≡ true
new_here true b e f = cc
new_here false b e f = f

or_here : (a b : Bool) → b ≡ true → (a || b) ≡ true
or_here true b e = refl
or_here false b e = e

-- place j is found, and is near now
pub part_found : (row was near : List Bool) (front places : List ℕ) (j : ℕ) → IsPart row was front j near places → j < length row
    → slice_index_or near j false ≡ false → slice_index_or row j false ≡ true → IsPart row was front (j + 1) (slice_set near j true) (places ++ j ∷ [])
part_found row was near front places j p lt unmarked there =
    let w : slice_index_or was j false ≡ false = sym (p.left j (omega arith) lt) ∙ unmarked in
    let size : j < length near = omega (arith, p.size) in
    record {
      size = length-set near j true ∙ p.size;
      found = ap (λ xs. xs ++ j ∷ []) p.found
          ∙ append_assoc front (numbers_below (is_new row was) j) (j ∷ [])
          ∙ ap (λ xs. front ++ xs) (sym (numbers_more (is_new row was) j (new_here (slice_index_or was j false) (slice_index_or row j false) w there)));
      done = λ a less an. elim (last_place a j less) [
        | inl below ↦ get_or-set_other near j a true false (omega arith) ∙ p.done a below an
        | inr is ↦ subst (λ x. slice_index_or (slice_set near j true) x false ≡ (slice_index_or was x false || slice_index_or row x false)) (sym is)
            (get_or-set_same near j true false size ∙ sym (or_here (slice_index_or was j false) (slice_index_or row j false) there))
      ];
      left = λ a le an. get_or-set_other near j a true false (omega arith) ∙ p.left a (omega arith) an;
    }

-- ---- a block in which nothing is marked

pub none_below : (p : ℕ → Bool) (n : ℕ) → some_below p n ≡ false → (k : ℕ) → k < n → p k ≡ false
none_below p n none k lt = by (p k) refl
  where
    by : (b : Bool) → p k ≡ b → b ≡ false
    by true is = let some : some_below p n ≡ true = some_in p n k lt is in cc
    by false is = refl

pub part_skipped : (row was near : List Bool) (front places : List ℕ) (start count : ℕ) → IsPart row was front start near places → start + count ≤ length row
    → ((k : ℕ) → k < count → slice_index_or row (start + k) false ≡ false) → IsPart row was front (start + count) near places
part_skipped row was near front places start zero p within none =
    let same : start ≡ start + 0 = omega arith in
    subst (λ j. IsPart row was front j near places) same p
part_skipped row was near front places start (suc count) p within none =
    let before : IsPart row was front (start + count) near places = part_skipped row was near front places start count p (omega arith) (λ k lt. none k (omega arith)) in
    let further : IsPart row was front (start + count + 1) near places
    = part_far row was near front places (start + count) before (omega arith) (none count (omega arith)) in
    let same : start + count + 1 ≡ start + suc count = omega arith in
    subst (λ j. IsPart row was front j near places) same further

pub some_more : (p : ℕ → Bool) (k : ℕ) (any b : Bool) → any ≡ some_below p k → b ≡ p k → (any || b) ≡ some_below p (k + 1)
some_more p k any b before here =
    let up : suc k ≡ k + 1 = omega arith in
    (λ i. before i || here i) ∙ turned (some_below p k) (p k) ∙ ap (some_below p) up
  where
    turned : (a b : Bool) → (a || b) ≡ (b || a)
    turned true true = refl
    turned true false = refl
    turned false true = refl
    turned false false = refl

-- ---- the next ring

-- what a row adds is the next ring, where the row has what the last one reaches
pub ring_found : (t row near : List Bool) (n : ℕ) (ring : List ℕ) → length row ≡ n → ((j : ℕ) → j < n → slice_index_or row j false ≡ is_reached t n ring j)
    → numbers_below (is_new row near) (length row) ≡ numbers_below (is_next t n near ring) n
ring_found t row near n ring size entries =
    ap (numbers_below (is_new row near)) size
    ∙ numbers_agree (is_new row near) (is_next t n near ring) n (λ j lt. ap (λ b. not (slice_index_or near j false) && b) (entries j lt))

pub ring_marked : (t row near new : List Bool) (n : ℕ) (ring : List ℕ) → length row ≡ n → ((j : ℕ) → j < n → slice_index_or row j false ≡ is_reached t n ring j)
    → ((j : ℕ) → j < length row → slice_index_or new j false ≡ (slice_index_or near j false || slice_index_or row j false))
    → (j : ℕ) → j < n → slice_index_or new j false ≡ (slice_index_or near j false || is_reached t n ring j)
ring_marked t row near new n ring size entries marked j lt = marked j (omega (arith, size)) ∙ ap (λ b. slice_index_or near j false || b) (entries j lt)

-- Tables that are made row by row.
use Rattle.std.specs.Prelude.{ℕ, zero, suc, Bool, true, false, List, [], ◌∷◌, replicate, take, ◌++◌, length, find, Option, Some, None, ◌≡◌, ◌==◌, ◌<◌, ◌≤◌, ◌+◌, ◌*◌, ◌⊎◌, ◌&&◌, ◌||◌, if◌then◌else◌, slice_index_or}
use Rattle.std.specs.List.{list_any, range_with_len}
use Rattle.std.specs.Option.{option_or}
use Rattle.std.proofs.Common.{arith, refl, ap, sym, subst, inl, inr, ◌∙◌, length-append}
use Rattle.std.proofs.Math.Nat.{mul-le-mul_right}
use Rattle.std.proofs.Math.ListN.{get_or-append}
use Rattle.std.proofs.lemmas.List.{append_assoc, ext_get_or, get_or-append-add, get_or-replicate, length-replicate, take_all, take_more}
use Rattle.std.proofs.lemmas.List.Folds.{list_any-append}
use Rattle.std.proofs.lemmas.List.FromFn.{get_or-map-range_with_len, length-map-range_with_len, map-range_with_len_more}
use Rattle.ang_names_graph.specs.Graphs.{leads, numbers_below}
use Rattle.ang_names_graph.specs.Tables.{Shows, IsBegun, at, edges_of, is_reached, is_spread, row_below}
use Rattle.ang_names_graph.proofs.Rings.{any_numbers, edge_shown, or_false}

-- one entry more of a row
pub row_more : (p : ℕ → Bool) (j : ℕ) → row_below p (j + 1) ≡ row_below p j ++ p j ∷ []
row_more p j = map-range_with_len_more p 0 j j (omega arith)

-- an entry of a row, whatever stands for those past its end
pub row_entry : (p : ℕ → Bool) (n j : ℕ) (row : List Bool) (none : Bool) → row ≡ row_below p n → j < n → slice_index_or row j none ≡ p j
row_entry p n j row none is jn = ap (λ xs. slice_index_or xs j none) is ∙ get_or-map-range_with_len p 0 n j j none jn (omega arith)

-- one entry more after what was there
pub pushed_more : (p : ℕ → Bool) (was t now : List Bool) (j : ℕ) (b : Bool) → t ≡ was ++ row_below p j → now ≡ t ++ b ∷ [] → b ≡ p j
    → now ≡ was ++ row_below p (j + 1)
pushed_more p was t now j b begun pushed is =
    pushed ∙ ap (λ xs. xs ++ b ∷ []) begun ∙ ap (λ x. (was ++ row_below p j) ++ x ∷ []) is ∙ append_assoc was (row_below p j) (p j ∷ [])
    ∙ ap (λ row. was ++ row) (sym (row_more p j))

pub begun_start : (n : ℕ) (f : ℕ → ℕ → Bool) → IsBegun [] n 0 f
begun_start n f = record { size = omega arith; entries = λ a j lt jn. absurd (omega (arith, lt)) }

last : (a i : ℕ) → a < i + 1 → (a < i) ⊎ (a ≡ i)
last a i lt = grind arith

within : (n a i j : ℕ) → a < i → j < n → a * n + j < i * n
within n a i j lt jn = let le : suc a ≤ i = omega (arith, lt) in let m : suc a * n ≤ i * n = mul-le-mul_right n le in omega (arith, m, jn)

-- a row more
pub begun_next : (t : List Bool) (n i : ℕ) (f : ℕ → ℕ → Bool) (p : ℕ → Bool) → IsBegun t n i f → ((j : ℕ) → j < n → p j ≡ f i j)
    → IsBegun (t ++ row_below p n) n (i + 1) f
begun_next t n i f p s row =
    let count : length (row_below p n) ≡ n = length-map-range_with_len p 0 n in
    let last_row : (j : ℕ) → j < n → at (t ++ row_below p n) n i j ≡ f i j = λ j jn.
    subst (λ m. slice_index_or (t ++ row_below p n) (m + j) false ≡ slice_index_or (row_below p n) j false) s.size (get_or-append-add t (row_below p n) j false)
    ∙ get_or-map-range_with_len p 0 n j j false jn (omega arith) ∙ row j jn in
    record {
      size = length-append t (row_below p n) ∙ omega (arith, s.size, count);
      entries = λ a j lt jn. elim (last a i lt) [
        | inl below ↦
            let inside : a * n + j < length t = subst (λ m. a * n + j < m) (sym s.size) (within n a i j below jn) in
            get_or-append t (row_below p n) false (a * n + j) inside ∙ s.entries a j below jn
        | inr same ↦ subst (λ x. at (t ++ row_below p n) n x j ≡ f x j) (sym same) (last_row j jn)
      ];
    }

pub begun_end : (t : List Bool) (n i : ℕ) (f : ℕ → ℕ → Bool) → i ≡ n → IsBegun t n i f → Shows t n f
begun_end t n i f e s = record {
  size = s.size ∙ ap (λ m. m * n) e;
  entries = λ a j an jn. s.entries a j (subst (λ m. a < m) (sym e) an) jn;
}

-- a table is the same relation wherever that says the same
pub shows_same : (t : List Bool) (n : ℕ) (f g : ℕ → ℕ → Bool) → Shows t n f → ((i j : ℕ) → i < n → j < n → f i j ≡ g i j) → Shows t n g
shows_same t n f g s h = record { size = s.size; entries = λ i j lt jn. s.entries i j lt jn ∙ h i j lt jn }

-- ---- the first edge

own_range : (n a : ℕ) → range_with_len a (suc n) ≡ range_with_len a n ++ (a + n) ∷ []
own_range zero a = let e : a ≡ a + 0 = omega arith in ap (λ x. x ∷ []) e
own_range (suc n) a =
    let e : a + 1 + n ≡ a + suc n = omega arith in
    let later : range_with_len (a + 1) (suc n) ≡ range_with_len (a + 1) n ++ (a + suc n) ∷ [] =
    own_range n (a + 1) ∙ ap (λ x. range_with_len (a + 1) n ++ x ∷ []) e in
    ap (λ xs. a ∷ xs) later

range_more : (n : ℕ) → range_with_len 0 (n + 1) ≡ range_with_len 0 n ++ n ∷ []
range_more n =
    let up : n + 1 ≡ suc n = omega arith in
    let e : 0 + n ≡ n = omega arith in
    ap (range_with_len 0) up ∙ own_range n 0 ∙ ap (λ x. range_with_len 0 n ++ x ∷ []) e

put_behind : (b : Bool) (y : ℕ) (later front o : Option ℕ) → later ≡ option_or front o → (if b then Some y else later) ≡ option_or (if b then Some y else front) o
put_behind true y later front o h = refl
put_behind false y later front o h = h

find_last : (p : ℕ → Bool) (xs : List ℕ) (x : ℕ) → find p (xs ++ x ∷ []) ≡ option_or (find p xs) (if p x then Some x else None)
find_last p [] x = refl
find_last p (y ∷ ys) x = put_behind (p y) y (find p (ys ++ x ∷ [])) (find p ys) _ (find_last p ys x)

pub first_more : (p : ℕ → Bool) (j : ℕ) → find p (range_with_len 0 (j + 1)) ≡ option_or (find p (range_with_len 0 j)) (if p j then Some j else None)
first_more p j = ap (find p) (range_more j) ∙ find_last p (range_with_len 0 j) j

find_agree : (p q : ℕ → Bool) (n : ℕ) → ((j : ℕ) → j < n → p j ≡ q j) → find p (range_with_len 0 n) ≡ find q (range_with_len 0 n)
find_agree p q zero h = refl
find_agree p q (suc n) h =
    let up : suc n ≡ n + 1 = omega arith in
    let before : find p (range_with_len 0 n) ≡ find q (range_with_len 0 n) = find_agree p q n (λ j lt. h j (omega arith)) in
    let here : p n ≡ q n = h n (omega arith) in
    subst (λ m. find p (range_with_len 0 m) ≡ find q (range_with_len 0 m)) (sym up)
    (first_more p n
    ∙ ap (λ o. option_or o (if p n then Some n else None)) before
    ∙ ap (λ b. option_or (find q (range_with_len 0 n)) (if b then Some n else None)) here
    ∙ sym (first_more q n))

pub first_shown : (t : List Bool) (n i : ℕ) (e : ℕ → ℕ → Bool) → Shows t n e → i < n → find (edges_of t n i) (range_with_len 0 n) ≡ find (e i) (range_with_len 0 n)
first_shown t n i e s lt = find_agree (edges_of t n i) (e i) n (λ j jn. edge_shown t n e s i j lt jn)

-- ---- marks that are spread

-- place j leads to some of the places that are marked
pub spread_by : (marks closed : List Bool) (n i j : ℕ) (marked : List ℕ) → marked ≡ numbers_below (edges_of marks n i) n
    → list_any (λ d. j == d || edges_of closed n j d) marked ≡ is_spread marks closed n i j
spread_by marks closed n i j marked is =
    ap (list_any (λ d. j == d || edges_of closed n j d)) is ∙ any_numbers (λ d. j == d || edges_of closed n j d) (edges_of marks n i) n

-- ---- marks that are joined

-- a row has the marks that these places have in their rows
pub record IsJoined (t : List Bool) (n : ℕ) (places : List ℕ) (row : List Bool) : Type 0 where
  pub size : length row ≡ n
  pub entries : (j : ℕ) → j < n → slice_index_or row j false ≡ is_reached t n places j

pub joined_start : (t : List Bool) (n : ℕ) → IsJoined t n [] (replicate n false)
joined_start t n = record { size = length-replicate n false; entries = λ j jn. get_or-replicate n j false false jn }

pub joined_more : (t : List Bool) (n k : ℕ) (places : List ℕ) (row more : List Bool) → IsJoined t n (take k places) row → k < length places → length more ≡ n
    → ((j : ℕ) → j < n → slice_index_or more j false ≡ (slice_index_or row j false || edges_of t n (slice_index_or places k 0) j))
    → IsJoined t n (take (k + 1) places) more
joined_more t n k places row more s lt size put =
    let all : (j : ℕ) → is_reached t n (take (k + 1) places) j ≡ (is_reached t n (take k places) j || edges_of t n (slice_index_or places k 0) j) = λ j.
    ap (λ xs. is_reached t n xs j) (take_more places k 0 lt)
    ∙ list_any-append (λ i. edges_of t n i j) (take k places) (slice_index_or places k 0 ∷ [])
    ∙ ap (λ b. is_reached t n (take k places) j || b) (or_false (edges_of t n (slice_index_or places k 0) j)) in
    record {
      size = size;
      entries = λ j jn. put j jn ∙ ap (λ b. b || edges_of t n (slice_index_or places k 0) j) (s.entries j jn) ∙ sym (all j);
    }

pub joined_end : (t : List Bool) (n k : ℕ) (places : List ℕ) (row : List Bool) → length places ≤ k → IsJoined t n (take k places) row
    → row ≡ row_below (is_reached t n places) n
joined_end t n k places row le s =
    let all : take k places ≡ places = take_all k places le in
    ext_get_or false row (row_below (is_reached t n places) n) (s.size ∙ sym (length-map-range_with_len (is_reached t n places) 0 n)) (λ j lt.
    let jn : j < n = omega (arith, lt, s.size) in
    s.entries j jn ∙ ap (λ xs. is_reached t n xs j) all ∙ sym (get_or-map-range_with_len (is_reached t n places) 0 n j j false jn (omega arith)))

-- ---- closed tables

leads_agree : (e f : ℕ → ℕ → Bool) (n : ℕ) → ((i j : ℕ) → i < n → j < n → e i j ≡ f i j) → (k : ℕ) → k ≤ n → (i j : ℕ) → i < n → j < n → leads e k i j ≡ leads f k i j
unfolding leads
leads_agree e f n h zero le i j lt jn = h i j lt jn
leads_agree e f n h (suc k) le i j lt jn =
    let kn : k < n = omega arith in
    let less : k ≤ n = omega arith in
    let a : leads e k i j ≡ leads f k i j = leads_agree e f n h k less i j lt jn in
    let b : leads e k i k ≡ leads f k i k = leads_agree e f n h k less i k lt kn in
    let c : leads e k k j ≡ leads f k k j = leads_agree e f n h k less k j kn jn in
    ap (λ x. x || (leads e k i k && leads e k k j)) a
    ∙ ap (λ x. leads f k i j || (x && leads e k k j)) b
    ∙ ap (λ x. leads f k i j || (leads f k i k && x)) c

-- what leads where by the edges of a table does by all that the table shows
pub closed_shown : (t u : List Bool) (n : ℕ) (e : ℕ → ℕ → Bool) → Shows t n e → Shows u n (leads (edges_of t n) n) → Shows u n (leads e n)
closed_shown t u n e s c =
    let le : n ≤ n = omega arith in
    shows_same u n (leads (edges_of t n) n) (leads e n) c (leads_agree (edges_of t n) e n (λ i j lt jn. edge_shown t n e s i j lt jn) n le)

-- What a turn leaves in a table.
use Rattle.std.specs.Prelude.{ℕ, suc, Bool, true, false, List, length, ◌≡◌, ◌≢◌, ◌<◌, ◌≤◌, ◌+◌, ◌*◌, ◌&&◌, ◌||◌, ◌⊎◌, nat_lt, slice_index_or}
use Rattle.std.proofs.Common.{arith, refl, ap, sym, subst, inl, inr, ◌∙◌}
use Rattle.std.proofs.Math.Nat.{mul-le-mul_right}
use Rattle.ang_names_graph.specs.Graphs.{leads, through}
use Rattle.ang_names_graph.specs.Tables.{Shows, at, edges_of}

-- turn k as far as row i: rows below i have the ways through k, the others are as they were
pub record IsTurned (t : List Bool) (n k i : ℕ) (f : ℕ → ℕ → Bool) : Type 0 where
  pub size : length t ≡ n * n
  pub done : (a j : ℕ) → a < i → a < n → j < n → at t n a j ≡ through f k a j
  pub left : (a j : ℕ) → i ≤ a → a < n → j < n → at t n a j ≡ f a j

pub turned_start : (t : List Bool) (n k : ℕ) (f : ℕ → ℕ → Bool) → Shows t n f → IsTurned t n k 0 f
turned_start t n k f s = record { size = s.size; done = λ a j lt an jn. absurd (omega arith); left = λ a j le an jn. s.entries a j an jn }

pub turned_end : (t : List Bool) (n k : ℕ) (f : ℕ → ℕ → Bool) → IsTurned t n k n f → Shows t n (through f k)
turned_end t n k f s = record { size = s.size; entries = λ a j an jn. s.done a j an an jn }

absorb : (a b : Bool) → (a || (b && a)) ≡ a
absorb true b = refl
absorb false true = refl
absorb false false = refl

absorb' : (a b : Bool) → (a || (a && b)) ≡ a
absorb' true b = refl
absorb' false b = refl

none_by : (a b c : Bool) → b ≡ false → (a || (b && c)) ≡ a
none_by true b c e = refl
none_by false true c e = cc
none_by false false c e = refl

some_by : (a b c : Bool) → b ≡ true → (a || (b && c)) ≡ (a || c)
some_by true b c e = refl
some_by false true c e = refl
some_by false false c e = cc

-- row k is as it was, whether it was passed or not
row_kept : (t : List Bool) (n k i : ℕ) (f : ℕ → ℕ → Bool) → IsTurned t n k i f → k < n → (j : ℕ) → j < n → ((k < i) ⊎ (i ≤ k)) → at t n k j ≡ f k j
row_kept t n k i f s kn j jn o =
    elim o [ inl lt ↦ s.done k j lt kn jn ∙ absorb (f k j) (f k k) | inr le ↦ s.left k j le kn jn ]

order : (a i : ℕ) → (a < i) ⊎ (i ≤ a)
order a i = grind arith

last : (a i : ℕ) → a < i + 1 → (a < i) ⊎ (a ≡ i)
last a i lt = grind arith

-- the next row, left as it is
pub turned_skip : (t : List Bool) (n k i : ℕ) (f : ℕ → ℕ → Bool) → IsTurned t n k i f → k < n → i < n → ((i ≡ k) ⊎ (at t n i k ≡ false)) → IsTurned t n k (i + 1) f
turned_skip t n k i f s kn lt why =
    let kept : (j : ℕ) → j < n → at t n i j ≡ through f k i j = λ j jn.
    let was : at t n i j ≡ f i j = s.left i j (omega arith) lt jn in
    elim why [
      | inl same ↦ was ∙ sym (subst (λ x. (f x j || (f x k && f k j)) ≡ f x j) (sym same) (absorb (f k j) (f k k)))
      | inr isnt ↦ was ∙ sym (none_by (f i j) (f i k) (f k j) (sym (s.left i k (omega arith) lt kn) ∙ isnt))
    ] in
    record {
      size = s.size;
      done = λ a j less an jn. elim (last a i less) [
        | inl below ↦ s.done a j below an jn
        | inr same ↦ subst (λ x. at t n x j ≡ through f k x j) (sym same) (kept j jn)
      ];
      left = λ a j le an jn. s.left a j (omega arith) an jn;
    }

-- places of other rows are elsewhere
elsewhere : (n a i j : ℕ) → j < n → a ≢ i → (a * n + j < i * n) ⊎ (i * n + n ≤ a * n + j)
elsewhere n a i j jn ne =
    elim (order a i) [
      | inl less ↦ inl (let lt : suc a ≤ i = omega arith in let m : suc a * n ≤ i * n = mul-le-mul_right n lt in omega arith)
      | inr more ↦ inr (let lt : suc i ≤ a = omega arith in let m : suc i * n ≤ a * n = mul-le-mul_right n lt in omega arith)
    ]

pub rows_apart : (n i k : ℕ) → i ≢ k → (i * n + n ≤ k * n) ⊎ (k * n + n ≤ i * n)
rows_apart n i k ne =
    elim (order i k) [
      | inl less ↦ inl (let lt : suc i ≤ k = omega arith in let m : suc i * n ≤ k * n = mul-le-mul_right n lt in omega arith)
      | inr more ↦ inr (let lt : suc k ≤ i = omega arith in let m : suc k * n ≤ i * n = mul-le-mul_right n lt in omega arith)
    ]

-- the next row, with row k put into it
pub turned_add : (t u : List Bool) (n k i : ℕ) (f : ℕ → ℕ → Bool) → IsTurned t n k i f → k < n → i < n → at t n i k ≡ true
    → length u ≡ length t
    → ((p : ℕ) → (p < i * n) ⊎ (i * n + n ≤ p) → slice_index_or u p false ≡ slice_index_or t p false)
    → ((j : ℕ) → j < n → slice_index_or u (i * n + j) false ≡ (slice_index_or t (i * n + j) false || slice_index_or t (k * n + j) false))
    → IsTurned u n k (i + 1) f
turned_add t u n k i f s kn lt there len others row =
    let same : (a j : ℕ) → a ≢ i → j < n → at u n a j ≡ at t n a j = λ a j ne jn. others (a * n + j) (elsewhere n a i j jn ne) in
    let put : (j : ℕ) → j < n → at u n i j ≡ through f k i j = λ j jn.
    let was : at t n i j ≡ f i j = s.left i j (omega arith) lt jn in
    let from : at t n k j ≡ f k j = row_kept t n k i f s kn j jn (order k i) in
    let is : f i k ≡ true = sym (s.left i k (omega arith) lt kn) ∙ there in
    row j jn ∙ ap (λ x. x || at t n k j) was ∙ ap (λ x. f i j || x) from ∙ sym (some_by (f i j) (f i k) (f k j) is) in
    record {
      size = len ∙ s.size;
      done = λ a j less an jn. elim (last a i less) [
        | inl below ↦ same a j (omega arith) jn ∙ s.done a j below an jn
        | inr is ↦ subst (λ x. at u n x j ≡ through f k x j) (sym is) (put j jn)
      ];
      left = λ a j le an jn. same a j (omega arith) jn ∙ s.left a j (omega arith) an jn;
    }

pub lt_true : (a b : ℕ) → a < b → nat_lt a b ≡ true
lt_true a b h = search arith

pub first_entry : (x y c : Bool) → x ≡ true → y ≡ true → c ≡ (x && (y && c))
first_entry true true c e f = refl
first_entry true false c e f = cc
first_entry false y c e f = cc

pub shows_edges : (t : List Bool) (n : ℕ) → length t ≡ n * n → Shows t n (leads (edges_of t n) 0)
unfolding leads
shows_edges t n len = record { size = len; entries = λ i j lt jn. first_entry (nat_lt i n) (nat_lt j n) (at t n i j) (lt_true i n lt) (lt_true j n jn) }

pub shows_next : (t : List Bool) (n k : ℕ) (e : ℕ → ℕ → Bool) → Shows t n (through (leads e k) k) → Shows t n (leads e (k + 1))
unfolding leads
shows_next t n k e s =
    let same : suc k ≡ k + 1 = omega arith in
    subst (λ m. Shows t n (leads e m)) same (record { size = s.size; entries = s.entries })

pub turned_added : (t u : List Bool) (n k i to from : ℕ) (f : ℕ → ℕ → Bool) → IsTurned t n k i f → k < n → i < n → to ≡ i * n → from ≡ k * n
    → slice_index_or t (to + k) false ≡ true
    → length u ≡ length t
    → ((p : ℕ) → (p < to) ⊎ (to + n ≤ p) → slice_index_or u p false ≡ slice_index_or t p false)
    → ((j : ℕ) → j < n → slice_index_or u (to + j) false ≡ (slice_index_or t (to + j) false || slice_index_or t (from + j) false))
    → IsTurned u n k (i + 1) f
turned_added t u n k i to from f s kn lt to_is from_is there len others row =
    turned_add t u n k i f s kn lt
    (subst (λ x. slice_index_or t (x + k) false ≡ true) to_is there)
    len
    (subst (λ x. (p : ℕ) → (p < x) ⊎ (x + n ≤ p) → slice_index_or u p false ≡ slice_index_or t p false) to_is others)
    (subst (λ x. (j : ℕ) → j < n → slice_index_or u (i * n + j) false ≡ (slice_index_or t (i * n + j) false || slice_index_or t (x + j) false)) from_is
    (subst (λ x. (j : ℕ) → j < n → slice_index_or u (x + j) false ≡ (slice_index_or t (x + j) false || slice_index_or t (from + j) false)) to_is row))

pub rows_apart_at : (n i k to from : ℕ) → i ≢ k → to ≡ i * n → from ≡ k * n → (to + n ≤ from) ⊎ (from + n ≤ to)
rows_apart_at n i k to from ne e f =
    subst (λ x. (x + n ≤ from) ⊎ (from + n ≤ x)) (sym e) (subst (λ x. (i * n + n ≤ x) ⊎ (x + n ≤ i * n)) (sym f) (rows_apart n i k ne))

pub turned_skipped : (t : List Bool) (n k i to : ℕ) (f : ℕ → ℕ → Bool) → IsTurned t n k i f → k < n → i < n → to ≡ i * n → slice_index_or t (to + k) false ≡ false → IsTurned t n k (i + 1) f
turned_skipped t n k i to f s kn lt e none = turned_skip t n k i f s kn lt (inr (subst (λ x. slice_index_or t (x + k) false ≡ false) e none))

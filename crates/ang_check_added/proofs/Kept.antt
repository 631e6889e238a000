-- Numbers of a list that are kept.
use Rattle.std.specs.Prelude.{ℕ, ◌≡◌, ◌+◌, Bool, true, false, cond, if◌then◌else◌, List, [], ◌∷◌, ◌++◌, filter, find, Option, Some}
use Rattle.std.specs.List.{range_with_len}
use Rattle.std.proofs.Common.{arith, refl, sym, ap, ◌∙◌}
use Rattle.std.proofs.lemmas.List.{map-id}
use Rattle.std.proofs.lemmas.List.FromFn.{filter_of_map_range_with_len_more}

-- one number more
pub kept_more : (p : ℕ → Bool) (n : ℕ) → filter p (range_with_len 0 (n + 1)) ≡ filter p (range_with_len 0 n) ++ (if p n then n ∷ [] else [])
kept_more p n =
    let first : 0 + n ≡ n = omega arith in
    ap (filter p) (sym (map-id (range_with_len 0 (n + 1)))) ∙ filter_of_map_range_with_len_more p (λ k. k) 0 n n first
    ∙ ap (λ ks. filter p ks ++ (if p n then n ∷ [] else [])) (map-id (range_with_len 0 n))

left_out : (q : Bool) (n : ℕ) (ks rest : List ℕ) → (q ≡ true → false ≡ true) → ks ≡ rest → ks ≡ cond q (n ∷ rest) rest
left_out true n ks rest h e = let no' : false ≡ true = h refl in cc
left_out false n ks rest h e = e

pub one_more : (p : ℕ → Bool) (b : Bool) (n : ℕ) (row rest : List ℕ) → (p n ≡ true → b ≡ true) → filter p row ≡ rest
    → filter p (if b then n ∷ row else row) ≡ cond (p n) (n ∷ rest) rest
one_more p true n row rest h e = ap (λ ks. cond (p n) (n ∷ ks) ks) e
one_more p false n row rest h e = left_out (p n) n (filter p row) rest h e

-- What passes a test is found where another one that it implies was asked first.
pub kept_of_part : (p q : ℕ → Bool) → ((k : ℕ) → p k ≡ true → q k ≡ true) → (ks : List ℕ) → filter p (filter q ks) ≡ filter p ks
kept_of_part p q h [] = refl
kept_of_part p q h (k ∷ ks) = one_more p (q k) k (filter q ks) (filter p ks) (h k) (kept_of_part p q h ks)

-- Nor is the first one another.
found_more : (p : ℕ → Bool) (b : Bool) (n : ℕ) (row : List ℕ) (rest : Option ℕ) → (p n ≡ true → b ≡ true) → find p row ≡ rest
    → find p (if b then n ∷ row else row) ≡ cond (p n) (Some n) rest
found_more p true n row rest h e = ap (cond (p n) (Some n)) e
found_more p false n row rest h e = none_of_it (p n) h
  where
    none_of_it : (q : Bool) → (q ≡ true → false ≡ true) → find p row ≡ cond q (Some n) rest
    none_of_it true g = let no' : false ≡ true = g refl in cc
    none_of_it false g = e

pub found_of_part : (p q : ℕ → Bool) → ((k : ℕ) → p k ≡ true → q k ≡ true) → (ks : List ℕ) → find p (filter q ks) ≡ find p ks
found_of_part p q h [] = refl
found_of_part p q h (k ∷ ks) = found_more p (q k) k (filter q ks) (find p ks) (h k) (found_of_part p q h ks)

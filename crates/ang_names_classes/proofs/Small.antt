-- What stands above a family, and what is nearest to it, are places below the number of families.
use Rattle.std.specs.Prelude.{ℕ, zero, suc, ◌≡◌, ◌≤◌, ◌<◌, Bool, true, false, if◌then◌else◌, All, List, [], ◌∷◌, ◌++◌}
use Rattle.std.proofs.Common.{arith, sym, subst}
use Rattle.std.proofs.lemmas.List.Elements.{All-append}
use Rattle.ang_names_graph.specs.Graphs.{above, leads, numbers_below, order_of, rings}

one_small : (n m : ℕ) → n < m → All (λ k. k < m) (n ∷ [])
one_small n m lt zero d l = lt
one_small n m lt (suc k) d l = absurd (omega (arith, l))

own_small : (b : Bool) (n m : ℕ) → n < m → All (λ k. k < m) (if b then n ∷ [] else [])
own_small true n m lt = one_small n m lt
own_small false n m lt = λ k d l. absurd (omega (arith, l))

numbers_small : (p : ℕ → Bool) (n m : ℕ) → n ≤ m → All (λ k. k < m) (numbers_below p n)
numbers_small p zero m le = λ k d l. absurd (omega (arith, l))
numbers_small p (suc n) m le = All-append (λ k. k < m) (numbers_below p n) _ (numbers_small p n m (omega arith)) (own_small (p n) n m le)

rings_small : (e : ℕ → ℕ → Bool) (n i : ℕ) → i < n → (d : ℕ) → All (λ k. k < n) (rings e n d i)
rings_small e n i lt zero = one_small i n lt
rings_small e n i lt (suc d) = All-append (λ k. k < n) (rings e n d i) _ (rings_small e n i lt d) (numbers_small _ n n (omega arith))

few_of : (n : ℕ) (places : List ℕ) → n ≤ 256 → All (λ k. k < n) places → All (λ k. k < 256) places
few_of n places le h = λ k d l. omega (arith, h k d l)

pub above_few : (e : ℕ → ℕ → Bool) (n i : ℕ) → n ≤ 256 → (places : List ℕ) → places ≡ above e n i → All (λ k. k < 256) places
unfolding above
above_few e n i le places is = subst (λ xs. All (λ k. k < 256) xs) (sym is) (few_of n _ le (numbers_small (leads e n i) n n (omega arith)))

pub order_few : (e : ℕ → ℕ → Bool) (n i : ℕ) → n ≤ 256 → i < n → (places : List ℕ) → places ≡ order_of e n i → All (λ k. k < 256) places
unfolding order_of
order_few e n i le lt places is = subst (λ xs. All (λ k. k < 256) xs) (sym is) (few_of n _ le (rings_small e n i lt n))

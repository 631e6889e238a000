-- Entries that come with some of those that are kept.
use Rattle.std.specs.Prelude.{ℕ, ◌≡◌, Bool, true, false, cond, ◌&&◌, ◌||◌, List, [], ◌∷◌, filter, map, Option, Some, None}
use Rattle.std.specs.List.{list_any}
use Rattle.std.proofs.Common.{refl, ap, ◌∙◌}
use Rattle.ang_types.specs.declared.asks.Asks.{Asks}
use Rattle.ang_types.specs.declared.asks.Refused.{Refused}
use Rattle.ang_view.specs.Hidden.{is_unmet, is_with, numbers_of}
use Rattle.ang_view.specs.Registration.{RegistrationList}
use Rattle.ang_check_contest.specs.Scopes.{Scope}
use Rattle.ang_check_denials.specs.Denials.{IsSameUse, denied, helps, numbers_asked, row, rows_asked}

any_with : (b : Bool) (q : ℕ → Bool) (n : ℕ) (ks : List ℕ) (rest : Bool) → list_any q ks ≡ rest → list_any q (cond b (n ∷ ks) ks) ≡ ((b && q n) || rest)
any_with true q n ks rest e = ap (λ r. q n || r) e
any_with false q n ks rest e = e

pub any_kept : (h q : ℕ → Bool) (ns : List ℕ) → list_any q (filter h ns) ≡ list_any (λ x. h x && q x) ns
any_kept h q [] = refl
any_kept h q (n ∷ ns) = any_with (h n) q n (filter h ns) (list_any (λ x. h x && q x) ns) (any_kept h q ns)

pub denied_are : (R : RegistrationList) (m : ℕ) (s : Scope) (r : Refused) (a : Asks) (hs : List ℕ) → hs ≡ filter (helps R m s r a) (numbers_of R)
    → filter (λ y. is_unmet R m y && list_any (λ x. is_with R x y) hs) (numbers_of R) ≡ filter (denied R m s r a) (numbers_of R)
denied_are R m s r a hs e =
    let brought : (y : ℕ) → list_any (λ x. is_with R x y) hs ≡ list_any (λ x. helps R m s r a x && is_with R x y) (numbers_of R) =
    λ y. ap (list_any (λ x. is_with R x y)) e ∙ any_kept (helps R m s r a) (λ x. is_with R x y) (numbers_of R) in
    λ i. filter (λ y. is_unmet R m y && brought y i) (numbers_of R)

-- uses that ask the same are denied the same
same_asked : (R : RegistrationList) (m : ℕ) (s : Scope) (r q : Refused) (o : Option Asks) → r.error.name ≡ q.error.name → r.is_there ≡ q.is_there
    → numbers_asked R m s r o ≡ numbers_asked R m s q o
same_asked R m s r q None name there = refl
same_asked R m s r q (Some a) name there =
    λ i. filter (λ y. denied R m s (record r { error = record r.error { name = name i }; is_there = there i }) a y) (numbers_of R)

pub same_numbers : (R : RegistrationList) (m : ℕ) (s : Scope) (r q : Refused) → IsSameUse r q → numbers_asked R m s r r.asks ≡ numbers_asked R m s q q.asks
same_numbers R m s r q same = same_asked R m s r q r.asks same.name same.is_there ∙ ap (numbers_asked R m s q) same.asks

-- the rows of a use are those of its numbers
pub rows_of_numbers : (R : RegistrationList) (m : ℕ) (s : Scope) (r : Refused) (o : Option Asks) → rows_asked R m s r o ≡ map (row R m r) (numbers_asked R m s r o)
rows_of_numbers R m s r None = refl
rows_of_numbers R m s r (Some a) = refl

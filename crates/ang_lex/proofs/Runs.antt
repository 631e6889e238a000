-- How far a class of bytes goes: all of them are of the class, and no more.
use Rattle.std.proofs.Common.{◌≡◌, ℕ, suc, ◌+◌, ◌<◌, ◌≤◌, Bool, true, false, List, [], ◌∷◌, length, take, refl, ap, ◌∙◌, arith, get_or-take}
use Rattle.std.specs.List.{prefix_len, list_all}
use Rattle.std.proofs.lemmas.List.{length-take-le}
use Rattle.std.proofs.lemmas.List.Folds.{list_all_at}
use Rattle.std.proofs.lemmas.List.Sums.{prefix_len_stops}

run_all_by : (p : ℕ → Bool) (x : ℕ) (xs : List ℕ) → list_all p (take (prefix_len p xs) xs) ≡ true → (t : Bool) → p x ≡ t → list_all p (take (prefix_len p (x ∷ xs)) (x ∷ xs)) ≡ true
run_all_by p x xs more true e =
    let next : 1 + prefix_len p xs ≡ suc (prefix_len p xs) = omega arith in
    rw (e, next, e) more
run_all_by p x xs more false e = rw e refl

pub run_all : (p : ℕ → Bool) (xs : List ℕ) → list_all p (take (prefix_len p xs) xs) ≡ true
run_all p [] = refl
run_all p (x ∷ xs) = run_all_by p x xs (run_all p xs) (p x) refl

pub run_longer : (p : ℕ → Bool) (xs : List ℕ) (n : ℕ) → prefix_len p xs < n → n ≤ length xs → list_all p (take n xs) ≡ false
run_longer p xs n longer within =
    let stops = prefix_len_stops p xs 0 (omega arith) in
    list_all_at p (take n xs) (prefix_len p xs) 0 (omega (arith, length-take-le n xs within)) (ap p (get_or-take n xs (prefix_len p xs) 0 longer) ∙ stops)

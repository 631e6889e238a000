-- Entries of a list by number.
use Rattle.std.proofs.Common.{◌≡◌, ℕ, zero, suc, ◌<◌, [], ◌∷◌, length, Some, arith}
use Rattle.ang_view.specs.declared.entry.Entry.{Entry}
use Rattle.ang_view.specs.Registration.{RegistrationList, entry_at}

-- an entry is found within the list
pub entry_at-lt : (list : RegistrationList) (n : ℕ) (x : Entry) → entry_at list n ≡ Some x → n < length list
entry_at-lt [] n x e = cc
entry_at-lt (y ∷ ys) zero x e = omega arith
entry_at-lt (y ∷ ys) (suc n) x e = let l = entry_at-lt ys n x e in omega arith

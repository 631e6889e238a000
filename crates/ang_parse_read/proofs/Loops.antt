-- A loop at what ends it, and at what it goes on with.
use Rattle.std.proofs.Common.{◌≡◌, ℕ, zero, suc, ◌≤◌, true, false, List, Ok, ap, arith}
use Rattle.ang_lex.specs.declared.token.Token.{Token}
use Rattle.ang_parse_read.specs.Read.{and_then, Turn, turned, repeat}

-- a turn that ends the loop, and leaves what it had
pub repeat_stops : {A : Type 0} (once : A → Turn A) (x : A) (j : ℕ) (ts : List Token) → 1 ≤ j → once x ts ≡ Ok ((x, false), ts) → repeat once j x ts ≡ Ok (x, ts)
unfolding repeat
repeat_stops once x zero ts le h = absurd (omega arith)
repeat_stops once x (suc j) ts le h = ap (λ v. and_then v (turned (repeat once j))) h

-- a turn that ends the loop after some token
pub repeat_ends : {A : Type 0} (once : A → Turn A) (x : A) (j : ℕ) (ts us : List Token) → 1 ≤ j → once x ts ≡ Ok ((x, false), us) → repeat once j x ts ≡ Ok (x, us)
unfolding repeat
repeat_ends once x zero ts us le h = absurd (omega arith)
repeat_ends once x (suc j) ts us le h = ap (λ v. and_then v (turned (repeat once j))) h

pub repeat_goes_on : {A : Type 0} (once : A → Turn A) (x y : A) (j : ℕ) (ts us : List Token) → once x ts ≡ Ok ((y, true), us) → repeat once (suc j) x ts ≡ repeat once j y us
unfolding repeat
repeat_goes_on once x y j ts us h = ap (λ v. and_then v (turned (repeat once j))) h

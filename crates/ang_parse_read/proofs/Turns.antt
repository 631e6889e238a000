-- The turns of a loop that counts up to the bound.
use Rattle.std.proofs.Common.{◌≡◌, ℕ, suc, ◌+◌, ◌-◌, ◌<◌, ◌≤◌, Bool, true, false, List, Ok, Err, ap, sym, ◌∙◌, arith}
use Rattle.ang_lex.specs.declared.token.Token.{Token}
use Rattle.ang_parse_read.specs.declared.error.ReadError.{ReadError}
use Rattle.ang_parse_read.specs.declared.error.ReadError.TheVariants as e
use Rattle.ang_parse_read.specs.Read.{deep, Outcome, and_then, Turn, turned, repeat}
use Rattle.ang_parse_read.specs.Gives.{Fails}

turn : (n i : ℕ) → i < n → n - i ≡ suc (n - (i + 1))
turn n i h = omega arith

once_more : {A : Type 0} (once : A → Turn A) (n i : ℕ) (x : A) (ts : List Token) → i < n → repeat once (n - i) x ts ≡ and_then (once x ts) (turned (repeat once (n - (i + 1))))
unfolding repeat
once_more once n i x ts h = ap (λ k. repeat once k x ts) (turn n i h)

pub goes_on : {A : Type 0} (once : A → Turn A) (n i : ℕ) (x y : A) (ts us : List Token) (whole : Outcome A) → i < n → once x ts ≡ Ok ((y, true), us) → repeat once (n - i) x ts ≡ whole → repeat once (n - (i + 1)) y us ≡ whole
goes_on once n i x y ts us whole h o w = sym (once_more once n i x ts h ∙ ap (λ r. and_then r (turned (repeat once (n - (i + 1))))) o) ∙ w

pub ends : {A : Type 0} (once : A → Turn A) (n i : ℕ) (x y : A) (ts us : List Token) (whole : Outcome A) → i < n → once x ts ≡ Ok ((y, false), us) → repeat once (n - i) x ts ≡ whole → whole ≡ Ok (y, us)
ends once n i x y ts us whole h o w = sym w ∙ once_more once n i x ts h ∙ ap (λ r. and_then r (turned (repeat once (n - (i + 1))))) o

pub fails : {A : Type 0} (once : A → Turn A) (n i : ℕ) (x : A) (ts : List Token) (whole : Outcome A) (f : ReadError) → i < n → Fails f (once x ts) → repeat once (n - i) x ts ≡ whole → Fails f whole
fails once n i x ts whole e.Memory h o w = tt
fails once n i x ts whole (e.Syntax rest) h o w = sym w ∙ once_more once n i x ts h ∙ ap (λ r. and_then r (turned (repeat once (n - (i + 1))))) o
fails once n i x ts whole e.Deep h o w = sym w ∙ once_more once n i x ts h ∙ ap (λ r. and_then r (turned (repeat once (n - (i + 1))))) o

pub runs_out : {A : Type 0} (once : A → Turn A) (n i : ℕ) (x : A) (ts : List Token) (whole : Outcome A) → n ≤ i → repeat once (n - i) x ts ≡ whole → whole ≡ Err deep
unfolding repeat
runs_out once n i x ts whole h w = sym w ∙ ap (λ k. repeat once k x ts) (let z : n - i ≡ 0 = omega arith in z)

pub ends_at : {A : Type 0} (once : A → Turn A) (n i : ℕ) (x y : A) (b : Bool) (ts us : List Token) (whole : Outcome A) → i < n → once x ts ≡ Ok ((y, b), us) → b ≡ false → repeat once (n - i) x ts ≡ whole → whole ≡ Ok (y, us)
ends_at once n i x y b ts us whole h o f w = ends once n i x y ts us whole h (o ∙ ap (λ v. Ok ((y, v), us)) f) w

pub goes_on_at : {A : Type 0} (once : A → Turn A) (n i : ℕ) (x y : A) (b : Bool) (ts us : List Token) (whole : Outcome A) → i < n → once x ts ≡ Ok ((y, b), us) → b ≡ true → repeat once (n - i) x ts ≡ whole → repeat once (n - (i + 1)) y us ≡ whole
goes_on_at once n i x y b ts us whole h o f w = goes_on once n i x y ts us whole h (o ∙ ap (λ v. Ok ((y, v), us)) f) w

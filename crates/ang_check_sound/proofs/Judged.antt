-- What holds of what was typed, where the first part's value has what the second one wants of it.
use Rattle.std.specs.Prelude.{Bool, true, false, Ok, Err, IfOk, if◌then◌else◌}
use Rattle.ang_check_operators.specs.Refusals.{Typing, ◌>>=◌}

pub holds : {A B : Type 0} (P : A → Type 0) (Q : B → Type 0) (x : Typing A) (f : A → Typing B)
    → IfOk x P → ((a : A) → P a → IfOk (f a) Q) → IfOk (x >>= f) Q
holds P Q (Ok a) f h g = g a h
holds P Q (Err r) f h g = tt

-- a choice by a test
pub either_holds : {A : Type 0} (P : A → Type 0) (b : Bool) (x y : Typing A) → IfOk x P → IfOk y P → IfOk (if b then x else y) P
either_holds P true x y h k = h
either_holds P false x y h k = k

-- nothing is wanted of the first part's value
pub any : {A : Type 0} (x : Typing A) → IfOk x (λ a. Unit {0})
any (Ok a) = tt
any (Err r) = tt

-- What holds of the refusal of what was typed, where it holds of that of each part.
use Rattle.std.specs.Prelude.{◌≡◌, Bool, true, false, if◌then◌else◌, None, IfSome, Ok, Err, IfErr}
use Rattle.std.proofs.Common.{sym, subst}
use Rattle.ang_types.specs.declared.asks.Asks.{Asks}
use Rattle.ang_check_operators.specs.declared.refusal.TypingRefusal.{TypingRefusal}
use Rattle.ang_check_operators.specs.Refusals.{Typing, ◌>>=◌}

pub refused_in : {A B : Type 0} (P : TypingRefusal → Type 0) (x : Typing A) (f : A → Typing B)
    → IfErr x P → ((a : A) → IfErr (f a) P) → IfErr (x >>= f) P
refused_in P (Ok a) f h g = g a
refused_in P (Err r) f h g = h

-- a choice by a test
pub either_refused : {A : Type 0} (P : TypingRefusal → Type 0) (b : Bool) (x y : Typing A) → IfErr x P → IfErr y P → IfErr (if b then x else y) P
either_refused P true x y h k = h
either_refused P false x y h k = k

-- ---- refusals of what is no use

abbrev pub IsSilent : TypingRefusal → Type 0
IsSilent r = r.asks ≡ None

abbrev pub Silent : {A : Type 0} → Typing A → Type 0
Silent x = IfErr x IsSilent

pub silent_in : {A B : Type 0} (x : Typing A) (f : A → Typing B) → Silent x → ((a : A) → Silent (f a)) → Silent (x >>= f)
silent_in x f h g = refused_in IsSilent x f h g

pub either_silent : {A : Type 0} (b : Bool) (x y : Typing A) → Silent x → Silent y → Silent (if b then x else y)
either_silent b x y h k = either_refused IsSilent b x y h k

-- where nothing is asked
pub unasked : {A : Type 0} (Q : TypingRefusal → Asks → Type 0) (x : Typing A) → Silent x → IfErr x (λ (r : TypingRefusal). IfSome r.asks (Q r))
unasked Q (Ok a) h = tt
unasked Q (Err r) h = subst (λ o. IfSome o (Q r)) (sym h) tt

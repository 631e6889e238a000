-- What is tried over a larger view of the refusals that ask nothing, part by part.
use Rattle.std.specs.Prelude.{◌≡◌, Bool, true, false, not, ◌||◌, if◌then◌else◌, is_some, Option, Some, None, Ok, Err, IfErr}
use Rattle.std.proofs.Common.{refl, subst}
use Rattle.ang_types.specs.declared.asks.Asks.{Asks}
use Rattle.ang_check_operators.specs.declared.refusal.TypingRefusal.{TypingRefusal}
use Rattle.ang_check_operators.specs.Refusals.{Typing, ◌>>=◌}
use Rattle.ang_check_laws.specs.Asked.{refuses_use}
use Rattle.ang_check_laws.specs.Beyond.{refusal, tried_by}
use Rattle.ang_check_laws.proofs.Judged.{refused_in, either_refused}

-- ---- refusals that ask something, or are none of a use

abbrev pub IsHarmless : TypingRefusal → Type 0
IsHarmless r = (is_some r.asks || not (refuses_use r.kind)) ≡ true

abbrev pub Harmless : {A : Type 0} → Typing A → Type 0
Harmless x = IfErr x IsHarmless

pub harmless_in : {A B : Type 0} (x : Typing A) (f : A → Typing B) → Harmless x → ((a : A) → Harmless (f a)) → Harmless (x >>= f)
harmless_in x f h g = refused_in IsHarmless x f h g

pub either_harmless : {A : Type 0} (b : Bool) (x y : Typing A) → Harmless x → Harmless y → Harmless (if b then x else y)
either_harmless b x y h k = either_refused IsHarmless b x y h k

pub asks_nothing : (o : Option Asks) (b : Bool) → (is_some o || not b) ≡ true → o ≡ None → b ≡ true → ⊥
asks_nothing None true h e f = cc
asks_nothing None false h e f = cc
asks_nothing (Some a) b h e f = cc

-- ---- what is tried gives the refusal, if that is one of a use which asks nothing

abbrev pub Kept : {A : Type 0} → Typing A → Option TypingRefusal → Type 0
Kept x u = IfErr x (λ (r : TypingRefusal). r.asks ≡ None → refuses_use r.kind ≡ true → u ≡ Some r)

pub kept_harmless : {A : Type 0} (x : Typing A) (u : Option TypingRefusal) → Harmless x → Kept x u
kept_harmless (Ok a) u h = tt
kept_harmless (Err r) u h = λ e f. absurd (asks_nothing r.asks (refuses_use r.kind) h e f)

pub kept_itself : {A : Type 0} (x : Typing A) → Kept x (refusal x)
kept_itself (Ok a) = tt
kept_itself (Err r) = λ e f. refl

pub kept_equal : {A : Type 0} (x y : Typing A) → x ≡ y → Kept x (refusal y)
kept_equal x y e = subst (λ z. Kept x (refusal z)) e (kept_itself x)

-- one thing after another
pub kept_after : {A B : Type 0} (x : Typing A) (f : A → Typing B) (u : Option TypingRefusal) (g : A → Option TypingRefusal) → Kept x u
    → ((a : A) → Kept (f a) (g a)) → Kept (x >>= f) (tried_by x u g)
kept_after (Ok a) f u g h k = k a
kept_after (Err r) f u g h k = h

pub kept_first : {A B : Type 0} (x : Typing A) (f : A → Typing B) (u : Option TypingRefusal) → Kept x u → ((a : A) → Harmless (f a)) → Kept (x >>= f) u
kept_first (Ok a) f u h k = kept_harmless (f a) u (k a)
kept_first (Err r) f u h k = h

pub kept_last : {A B : Type 0} (x : Typing A) (f : A → Typing B) (u : Option TypingRefusal) → Harmless x → ((a : A) → Kept (f a) u) → Kept (x >>= f) u
kept_last (Ok a) f u h k = k a
kept_last (Err r) f u h k = λ e g. absurd (asks_nothing r.asks (refuses_use r.kind) h e g)

-- What a parser reads, by its steps.
use Rattle.std.proofs.Common.{◌≡◌, ℕ, zero, suc, ◌-◌, ◌<◌, ◌≤◌, Bool, true, false, List, [], ◌∷◌, ◌++◌, length, Some, None, Ok, Err, refl, ap, sym, ◌∙◌, append_assoc, arith}
use Rattle.std.specs.Prelude.{IfSome}
use Rattle.std.proofs.lemmas.List.{length-append}
use Rattle.ang_lex.specs.declared.token.Token.{Token}
use Rattle.ang_lex.specs.declared.token.TokenKind.{TokenKind}
use Rattle.ang_parse_read.specs.From.{From}
use Rattle.ang_parse_read.specs.Read.{at, deep, Parser, Outcome, and_then, Choice, given, chosen, look, Turn, turned, repeat}

pub From-self : (ts : List Token) → From ts ts
From-self ts = record { front = []; parts = refl }

pub From-behind : (t : Token) (ts s : List Token) → From ts s → From (t ∷ ts) s
From-behind t ts s h = record { front = t ∷ h.front; parts = ap (λ u. t ∷ u) h.parts }

pub From-one : (t : Token) (ts : List Token) → From (t ∷ ts) ts
From-one t ts = From-behind t ts ts (From-self ts)

pub From-then : (ts us s : List Token) → From ts us → From us s → From ts s
From-then ts us s h k = record { front = h.front ++ k.front; parts = h.parts ∙ ap (λ u. h.front ++ u) k.parts ∙ sym (append_assoc h.front k.front s) }

pub From-length : (ts s : List Token) → From ts s → length s ≤ length ts
From-length ts s h = omega (arith, ap length h.parts, length-append h.front s)

-- An outcome at ts: what is read has the property and leaves an end of ts, a fault is in ts, and the bound is
-- too small only if it is at most the length.
abbrev pub Reads : {A : Type 0} → ℕ → List Token → (A → List Token → Type 0) → Outcome A → Type 0
Reads n ts R (Ok p) = R p.0 p.1 × From ts p.1
Reads n ts R (Err (at s)) = From ts s
Reads n ts R (Err deep) = n ≤ length ts

pub and_reads : {A B : Type 0} (n : ℕ) (ts : List Token) (R : A → List Token → Type 0) (Q : B → List Token → Type 0) (o : Outcome A) (f : A → Parser B)
    → Reads n ts R o → ((x : A) (s : List Token) → R x s → From ts s → Reads n ts Q (f x s)) → Reads n ts Q (and_then o f)
and_reads n ts R Q (Ok p) f h k = k p.0 p.1 h.0 h.1
and_reads n ts R Q (Err (at s)) f h k = h
and_reads n ts R Q (Err deep) f h k = h

-- the same outcome, seen from further left
pub along : {A : Type 0} (m n : ℕ) (ts s : List Token) (R Q : A → List Token → Type 0) (o : Outcome A)
    → From ts s → (m ≤ length s → n ≤ length ts) → ((x : A) (u : List Token) → R x u → Q x u) → Reads m s R o → Reads n ts Q o
along m n ts s R Q (Ok p) h k w r = (w p.0 p.1 r.0, From-then ts s p.1 h r.1)
along m n ts s R Q (Err (at u)) h k w r = From-then ts s u h r
along m n ts s R Q (Err deep) h k w r = k r

pub chosen_reads : {A : Type 0} (n : ℕ) (ts : List Token) (t : Token) (u : List Token) (Q : A → List Token → Type 0) (o : Choice A) (w : Outcome A)
    → IfSome o (λ q. Reads n ts Q (q t u)) → Reads n ts Q w → Reads n ts Q (chosen o t u w)
chosen_reads n ts t u Q None w h k = k
chosen_reads n ts t u Q (Some q) w h k = h

-- What a kind of token chooses reads so, after each token of that kind.
abbrev pub ChoiceReads : {A : Type 0} → ℕ → (List Token → Type 0) → (List Token → A → List Token → Type 0) → (TokenKind → Choice A) → Type 0
ChoiceReads n P Q f = (kind : TokenKind) (t : Token) (u : List Token) → t.kind ≡ kind → P (t ∷ u) → IfSome (f kind) (λ q. Reads n (t ∷ u) (Q (t ∷ u)) (q t u))

pub look_reads : {A : Type 0} (n : ℕ) (P : List Token → Type 0) (Q : List Token → A → List Token → Type 0) (f : TokenKind → Choice A) (p : Parser A)
    → ChoiceReads n P Q f
    → ((ts : List Token) → P ts → Reads n ts (Q ts) (p ts))
    → (ts : List Token) → P ts → Reads n ts (Q ts) (look f p ts)
look_reads n P Q f p h k [] z = k [] z
look_reads n P Q f p h k (t ∷ u) z = chosen_reads n (t ∷ u) t u (Q (t ∷ u)) (f t.kind) (p (t ∷ u)) (h t.kind t u refl z) (k (t ∷ u) z)

-- a choice by a test
pub given_reads : {A : Type 0} (n : ℕ) (ts : List Token) (t : Token) (u : List Token) (Q : A → List Token → Type 0) (b : Bool) (p : Token → Parser A)
    → (b ≡ true → Reads n ts Q (p t u)) → IfSome (given b p) (λ q. Reads n ts Q (q t u))
given_reads n ts t u Q true p h = h refl
given_reads n ts t u Q false p h = tt

-- The token chooses nothing.
abbrev pub Passes : {A : Type 0} → (TokenKind → Choice A) → List Token → Type 0
Passes f [] = Unit {0}
Passes f (t ∷ u) = f t.kind ≡ None

passed_reads : {A : Type 0} (n : ℕ) (ts : List Token) (t : Token) (u : List Token) (Q : A → List Token → Type 0) (o : Choice A) (w : Outcome A)
    → IfSome o (λ q. Reads n ts Q (q t u)) → (o ≡ None → Reads n ts Q w) → Reads n ts Q (chosen o t u w)
passed_reads n ts t u Q None w h k = k refl
passed_reads n ts t u Q (Some q) w h k = h

pub look_or_pass_reads : {A : Type 0} (n : ℕ) (P : List Token → Type 0) (Q : List Token → A → List Token → Type 0) (f : TokenKind → Choice A) (p : Parser A)
    → ChoiceReads n P Q f
    → ((ts : List Token) → P ts → Passes f ts → Reads n ts (Q ts) (p ts))
    → (ts : List Token) → P ts → Reads n ts (Q ts) (look f p ts)
look_or_pass_reads n P Q f p h k [] z = k [] z tt
look_or_pass_reads n P Q f p h k (t ∷ u) z = passed_reads n (t ∷ u) t u (Q (t ∷ u)) (f t.kind) (p (t ∷ u)) (h t.kind t u refl z) (k (t ∷ u) z)

-- after a token
pub behind : {A : Type 0} (n : ℕ) (t : Token) (u : List Token) (R Q : A → List Token → Type 0) (o : Outcome A)
    → ((x : A) (s : List Token) → R x s → Q x s) → Reads n u R o → Reads (suc n) (t ∷ u) Q o
behind n t u R Q o w r = along n (suc n) (t ∷ u) u R Q o (From-one t u) (λ d. omega arith) w r

pub further : {A : Type 0} (n : ℕ) (ts s : List Token) (R Q : A → List Token → Type 0) (o : Outcome A)
    → From ts s → ((x : A) (u : List Token) → R x u → Q x u) → Reads n s R o → Reads n ts Q o
further n ts s R Q o f w r = along n n ts s R Q o f (λ d. omega (arith, From-length ts s f)) w r

-- A turn goes on after at least one token, with what it has in Mid, or ends with it in End.
abbrev pub Turns : {A : Type 0} → (A → List Token → Type 0) → (A → List Token → Type 0) → ℕ → A × Bool → List Token → Type 0
Turns Mid End len (x, true) s = Mid x s × (length s < len)
Turns Mid End len (x, false) s = End x s

turned_reads : {A : Type 0} (Mid End : A → List Token → Type 0) (m : ℕ) (once : A → Turn A) (k : ℕ) (ts s : List Token) (y : A × Bool)
    → Turns Mid End (length ts) y s → From ts s → ((z : A) → Mid z s → Reads k s End (repeat once k z s)) → Reads (suc k) ts End (turned (repeat once k) y s)
turned_reads Mid End m once k ts s (x, true) r f again = along k (suc k) ts s _ _ (repeat once k x s) f (λ d. omega (arith, r.1)) (λ y u q. q) (again x r.0)
turned_reads Mid End m once k ts s (x, false) r f again = (r, f)

pub repeat_reads : {A : Type 0} (Mid End : A → List Token → Type 0) (m : ℕ) (once : A → Turn A)
    → ((x : A) (ts : List Token) → Mid x ts → Reads m ts (Turns Mid End (length ts)) (once x ts))
    → (k : ℕ) → k ≤ m → (x : A) (ts : List Token) → Mid x ts → Reads k ts End (repeat once k x ts)
unfolding repeat
repeat_reads Mid End m once h zero le x ts mid = omega arith
repeat_reads Mid End m once h (suc k) le x ts mid =
    and_reads (suc k) ts (Turns Mid End (length ts)) End (once x ts) (turned (repeat once k))
    (along m (suc k) ts ts _ _ (once x ts) (From-self ts) (λ d. omega arith) (λ y u r. r) (h x ts mid))
    (λ y s r f. turned_reads Mid End m once k ts s y r f (λ z mid'. repeat_reads Mid End m once h k (omega arith) z s mid'))

turned_reads_to : {A : Type 0} (Mid End : A → List Token → Type 0) (d k : ℕ) (once : A → Turn A) (ts s : List Token) (y : A × Bool)
    → Turns Mid End (length ts) y s → From ts s → ((z : A) → Mid z s → Reads (d - 1) s End (repeat once k z s)) → Reads d ts End (turned (repeat once k) y s)
turned_reads_to Mid End d k once ts s (x, true) r f again = along (d - 1) d ts s _ _ (repeat once k x s) f (λ e. omega (arith, r.1)) (λ y u q. q) (again x r.0)
turned_reads_to Mid End d k once ts s (x, false) r f again = (r, f)

-- the same with any smaller bound
pub repeat_reads_to : {A : Type 0} (Mid End : A → List Token → Type 0) (m : ℕ) (once : A → Turn A)
    → ((x : A) (ts : List Token) → Mid x ts → Reads m ts (Turns Mid End (length ts)) (once x ts))
    → (k d : ℕ) → d ≤ m → d ≤ k → (x : A) (ts : List Token) → Mid x ts → Reads d ts End (repeat once k x ts)
unfolding repeat
repeat_reads_to Mid End m once h zero d le low x ts mid = omega arith
repeat_reads_to Mid End m once h (suc k) d le low x ts mid =
    and_reads d ts (Turns Mid End (length ts)) End (once x ts) (turned (repeat once k))
    (along m d ts ts _ _ (once x ts) (From-self ts) (λ e. omega arith) (λ y u r. r) (h x ts mid))
    (λ y s r f. turned_reads_to Mid End d k once ts s y r f (λ z mid'. repeat_reads_to Mid End m once h k (d - 1) (omega arith) (omega arith) z s mid'))

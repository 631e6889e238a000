-- What a parser finds, by its steps.
use Rattle.std.proofs.Common.{◌≡◌, ℕ, zero, suc, Bool, true, false, List, [], ◌∷◌, Option, Some, None, Ok, Err, refl, ap, ◌∙◌}
use Rattle.std.specs.Prelude.{IfSome}
use Rattle.ang_lex.specs.declared.token.Token.{Token}
use Rattle.ang_lex.specs.declared.token.TokenKind.{TokenKind}
use Rattle.ang_parse_read.specs.Read.{Parser, Outcome, and_then, pure, refuse, Choice, given, chosen, look, Turn, turned, repeat}
use Rattle.ang_parse_read.specs.Tokens.{a_token, perhaps}

-- what is read, and the tokens after it, have the property
abbrev pub Found : {A : Type 0} → (A → List Token → Type 0) → Outcome A → Type 0
Found R (Ok p) = R p.0 p.1
Found R (Err f) = Unit {0}

pub and_found : {A B : Type 0} (R : A → List Token → Type 0) (Q : B → List Token → Type 0) (o : Outcome A) (f : A → Parser B)
    → Found R o → ((x : A) (s : List Token) → R x s → Found Q (f x s)) → Found Q (and_then o f)
and_found R Q (Ok p) f h k = k p.0 p.1 h
and_found R Q (Err e) f h k = tt

chosen_found : {A : Type 0} (t : Token) (u : List Token) (Q : A → List Token → Type 0) (o : Choice A) (w : Outcome A)
    → IfSome o (λ q. Found Q (q t u)) → Found Q w → Found Q (chosen o t u w)
chosen_found t u Q None w h k = k
chosen_found t u Q (Some q) w h k = h

-- What a kind of token chooses is found so, after each token of that kind.
abbrev pub ChoiceFound : {A : Type 0} → (List Token → A → List Token → Type 0) → (TokenKind → Choice A) → Type 0
ChoiceFound Q f = (kind : TokenKind) (t : Token) (u : List Token) → t.kind ≡ kind → IfSome (f kind) (λ q. Found (Q (t ∷ u)) (q t u))

pub look_found : {A : Type 0} (Q : List Token → A → List Token → Type 0) (f : TokenKind → Choice A) (p : Parser A)
    → ChoiceFound Q f → ((ts : List Token) → Found (Q ts) (p ts)) → (ts : List Token) → Found (Q ts) (look f p ts)
look_found Q f p h k [] = k []
look_found Q f p h k (t ∷ u) = chosen_found t u (Q (t ∷ u)) (f t.kind) (p (t ∷ u)) (h t.kind t u refl) (k (t ∷ u))

-- a choice at one list of tokens
pub look_found_at : {A : Type 0} (Q : A → List Token → Type 0) (f : TokenKind → Choice A) (p : Parser A) (ts : List Token)
    → ((kind : TokenKind) (t : Token) (u : List Token) → ts ≡ t ∷ u → t.kind ≡ kind → IfSome (f kind) (λ q. Found Q (q t u)))
    → Found Q (p ts) → Found Q (look f p ts)
look_found_at Q f p [] h k = k
look_found_at Q f p (t ∷ u) h k = chosen_found t u Q (f t.kind) (p (t ∷ u)) (h t.kind t u refl refl) k

given_found : {A : Type 0} (t : Token) (u : List Token) (Q : A → List Token → Type 0) (b : Bool) (p : Token → Parser A)
    → (b ≡ true → Found Q (p t u)) → IfSome (given b p) (λ q. Found Q (q t u))
given_found t u Q true p h = h refl
given_found t u Q false p h = tt

-- ---- single tokens

-- the first token, and of such a kind
pub record Token_found (test : TokenKind → Bool) (w : List Token) (x : Token) (s : List Token) : Type 0 where
  pub text : w ≡ x ∷ s
  pub kind : test x.kind ≡ true

pub a_token_found : (test : TokenKind → Bool) (ts : List Token) → Found (Token_found test ts) (a_token test ts)
unfolding a_token
a_token_found test ts = look_found (Token_found test) (λ kind. given (test kind) pure) refuse
    (λ kind t u is. given_found t u (Token_found test (t ∷ u)) (test kind) pure (λ h. record { text = refl; kind = ap test is ∙ h }))
    (λ ts. tt) ts

-- the first token, if it is of such a kind
pub data Perhaps_found (test : TokenKind → Bool) (w : List Token) : Option Token → List Token → Type 0 where
  written : (x : Token) (s : List Token) → w ≡ x ∷ s → test x.kind ≡ true → Perhaps_found test w (Some x) s
  unwritten : Perhaps_found test w None w

pub perhaps_found : (test : TokenKind → Bool) (ts : List Token) → Found (Perhaps_found test ts) (perhaps test ts)
unfolding perhaps
perhaps_found test ts = look_found (Perhaps_found test) (λ kind. given (test kind) (λ t. pure (Some t))) (pure None)
    (λ kind t u is. given_found t u (Perhaps_found test (t ∷ u)) (test kind) (λ t. pure (Some t)) (λ h. written t u refl (ap test is ∙ h)))
    (λ ts. unwritten) ts

-- ---- loops

-- a turn goes on with what has the property, or ends with it
abbrev pub Turned : {A : Type 0} → (A → List Token → Type 0) → A × Bool → List Token → Type 0
Turned R p s = R p.0 s

turned_found : {A : Type 0} (R : A → List Token → Type 0) (again : A → Parser A) (s : List Token) (y : A × Bool)
    → R y.0 s → ((z : A) → R z s → Found R (again z s)) → Found R (turned again y s)
turned_found R again s (x, true) r h = h x r
turned_found R again s (x, false) r h = r

pub repeat_found : {A : Type 0} (R : A → List Token → Type 0) (once : A → Turn A)
    → ((x : A) (ts : List Token) → R x ts → Found (Turned R) (once x ts))
    → (n : ℕ) (x : A) (ts : List Token) → R x ts → Found R (repeat once n x ts)
unfolding repeat
repeat_found R once h zero x ts r = tt
repeat_found R once h (suc n) x ts r =
    and_found (Turned R) R (once x ts) (turned (repeat once n)) (h x ts r)
    (λ y s q. turned_found R (repeat once n) s y q (λ z q'. repeat_found R once h n z s q'))

-- Reading from the front of a list of tokens.
use Rattle.std.specs.Prelude.{ℕ, zero, suc, List, [], ◌∷◌, Bool, true, false, Option, Some, None, Result, Ok, Err}
use Rattle.ang_lex.specs.declared.token.Token.{Token}
use Rattle.ang_lex.specs.declared.token.TokenKind.{TokenKind}

pub data Fault : Type 0 where
  -- the tokens from the first that cannot stand there
  at : List Token → Fault
  -- the bound on nested calls was too small
  deep : Fault

-- what was read and the tokens after it, or why nothing was
abbrev pub Outcome : Type 0 → Type 0
Outcome A = Result (A × List Token) Fault

abbrev pub Parser : Type 0 → Type 0
Parser A = List Token → Outcome A

abbrev pub and_then : {A B : Type 0} → Outcome A → (A → Parser B) → Outcome B
and_then (Ok p) f = f p.0 p.1
and_then (Err e) f = Err e

infixl 10 ◌>>=◌
abbrev pub ◌>>=◌ : {A B : Type 0} → Parser A → (A → Parser B) → Parser B
p >>= f = λ ts. and_then (p ts) f

infixl 10 ◌>>◌
abbrev pub ◌>>◌ : {A B : Type 0} → Parser A → Parser B → Parser B
p >> q = p >>= (λ _. q)

abbrev pub pure : {A : Type 0} → A → Parser A
pure a = λ ts. Ok (a, ts)

abbrev pub refuse : {A : Type 0} → Parser A
refuse = λ ts. Err (at ts)

abbrev pub out_of_depth : {A : Type 0} → Parser A
out_of_depth = λ ts. Err deep

-- ---- looking at the next token

-- What a token of some kind chooses: a reader of what stands after it, which keeps the token.
abbrev pub Choice : Type 0 → Type 0
Choice A = Option (Token → Parser A)

abbrev pub given : {A : Type 0} → Bool → (Token → Parser A) → Choice A
given true p = Some p
given false p = None

abbrev pub chosen : {A : Type 0} → Choice A → Token → List Token → Outcome A → Outcome A
chosen None t after otherwise = otherwise
chosen (Some p) t after otherwise = p t after

-- What the next token's kind chooses, after that token; or else p, at it.
abbrev pub look : {A : Type 0} → (TokenKind → Choice A) → Parser A → Parser A
look f p [] = p []
look f p (t ∷ ts) = chosen (f t.kind) t ts (p (t ∷ ts))

abbrev pub next : {A : Type 0} → (TokenKind → Choice A) → Parser A
next f = look f refuse

-- ---- loops

-- One turn of a loop: what it has then, and whether it goes on.
abbrev pub Turn : Type 0 → Type 0
Turn A = Parser (A × Bool)

abbrev pub on : {A : Type 0} → Parser A → Turn A
on p = p >>= (λ x. pure (x, true))

abbrev pub ready : {A : Type 0} → A → Turn A
ready x = pure (x, false)

abbrev pub turned : {A : Type 0} → (A → Parser A) → A × Bool → Parser A
turned again (x, true) = again x
turned again (x, false) = pure x

-- Turns of a loop, fewer than n.
unfoldable pub repeat : {A : Type 0} → (A → Turn A) → ℕ → A → Parser A
repeat once zero x = out_of_depth
repeat once (suc n) x = once x >>= turned (repeat once n)

-- Tokens up to a right parenthesis that may be read in two ways.
use Rattle.std.specs.Prelude.{ℕ, zero, suc, nat_lt, if◌then◌else◌, List, [], ◌∷◌, ◌++◌, length, Option, Some, None, Ok, Err}
use Rattle.ang_lex.specs.declared.token.Token.{Token}
use Rattle.ang_lex.specs.declared.token.TokenKind.{TokenKind}
use Rattle.ang_lex.specs.declared.token.TokenKind.TheVariants as k
use Rattle.ang_parse_read.specs.Read.{at, deep, Outcome, Parser}

-- a pair with one token more in front of its first list
abbrev pub fronted : Token → List Token × List Token → List Token × List Token
fronted t p = (t ∷ p.0, p.1)

-- how many parentheses are open after a token, or nothing where it closes one more than d
abbrev pub deeper : TokenKind → ℕ → Option ℕ
deeper k.LeftParen d = Some (suc d)
deeper k.RightParen zero = None
deeper k.RightParen (suc d) = Some d
deeper _ d = Some d

abbrev pub cut : Token → List Token → (ℕ → List Token × List Token) → Option ℕ → List Token × List Token
cut t ts again None = (t ∷ [], ts)
cut t ts again (Some d) = fronted t (again d)

-- The tokens up to the right parenthesis that closes one more than d, with it, and those after it; or all of them.
abbrev pub split : List Token → ℕ → List Token × List Token
split [] d = ([], [])
split (t ∷ ts) d = cut t ts (split ts) (deeper t.kind d)

-- What each way of reading the group gives. Where neither reads it, the fault is the one further right.
abbrev pub merged : {A B : Type 0} → Outcome A → Outcome B → List Token → Outcome (Option A × Option B)
merged (Ok a) (Ok b) rest = Ok ((Some a.0, Some b.0), rest)
merged (Ok a) (Err (at u)) rest = Ok ((Some a.0, None), rest)
merged (Ok a) (Err deep) rest = Err deep
merged (Err (at v)) (Ok b) rest = Ok ((None, Some b.0), rest)
merged (Err (at v)) (Err (at u)) rest = Err (at ((if nat_lt (length u) (length v) then u else v) ++ rest))
merged (Err (at v)) (Err deep) rest = Err deep
merged (Err deep) o rest = Err deep

abbrev pub both_at : {A B : Type 0} → Parser A → Parser B → List Token × List Token → Outcome (Option A × Option B)
both_at p q g = merged (p g.0) (q g.0) g.1

-- The group, read in two ways: each sees its tokens alone.
unfoldable pub both : {A B : Type 0} → Parser A → Parser B → Parser (Option A × Option B)
both p q ts = both_at p q (split ts 0)

-- Tokens that lie too deep, which is judged before the grammar. (docs/LANGUAGE.md, "Grammar": `TooDeep`.)
use Rattle.std.specs.Prelude.{ℕ, ◌+◌, ◌-◌, nat_lt, Bool, true, false, ◌||◌, if◌then◌else◌, List, [], ◌∷◌, Option, Some, None, is_some}
use Rattle.ang_lex.specs.declared.token.Token.{Token}
use Rattle.ang_lex.specs.declared.token.TokenKind.{TokenKind}
use Rattle.ang_lex.specs.declared.token.TokenKind.TheVariants as k
use Rattle.ang_lex.specs.Operators.{binary_operator}
use Rattle.ang_tree.specs.Kinds.{assignment_kind, prefix_kind}

-- How many of `(` and `{` are open after a token. A `)` or `}` closes the last open one, of either kind, if there is one.
abbrev pub opened : ℕ → TokenKind → ℕ
opened n k.LeftParen = n + 1
opened n k.LeftBrace = n + 1
opened n k.RightParen = n - 1
opened n k.RightBrace = n - 1
opened n _ = n

-- what counts as operators do: `? .`, and the words `if else while for do`
abbrev pub counts_besides : TokenKind → Bool
counts_besides k.If = true
counts_besides k.Else = true
counts_besides k.While = true
counts_besides k.For = true
counts_besides k.Do = true
counts_besides k.Question = true
counts_besides k.Dot = true
counts_besides _ = false

-- The operators, and the words `if else while for do not and or xor is`: all signs but `; , ( ) { } :: :`.
abbrev pub counts : TokenKind → Bool
counts kind = is_some (binary_operator kind) || assignment_kind kind || prefix_kind kind || counts_besides kind

-- `;`, `{` and `}`, after which the count of operators begins again
abbrev pub ends_count : TokenKind → Bool
ends_count k.Semicolon = true
ends_count k.LeftBrace = true
ends_count k.RightBrace = true
ends_count _ = false

-- How many operators stand since the last `;`, `{` or `}`, after a token.
abbrev pub counted : ℕ → TokenKind → ℕ
counted n kind = if ends_count kind then 0 else (if counts kind then n + 1 else n)

abbrev pub too_many : ℕ → ℕ → Bool
too_many parens operators = nat_lt 64 parens || nat_lt 256 operators

-- With `parens` open and `operators` counted before them: the tokens from the first after which more than 64 are open, or more
-- than 256 operators stand.
abbrev pub too_deep_from : ℕ → ℕ → List Token → Option (List Token)
too_deep_from parens operators [] = None
too_deep_from parens operators (t ∷ ts) = if too_many (opened parens t.kind) (counted operators t.kind) then Some (t ∷ ts) else too_deep_from (opened parens t.kind) (counted operators t.kind) ts

abbrev pub too_deep : List Token → Option (List Token)
too_deep tokens = too_deep_from 0 0 tokens

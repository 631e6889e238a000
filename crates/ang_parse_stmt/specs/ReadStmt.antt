-- Reading statements. (docs/LANGUAGE.md, "Grammar": `block`, `stmt`.)
use Rattle.std.specs.Prelude.{ℕ, zero, suc, true, Option, Some, None}
use Rattle.ang_lex.specs.declared.token.Token.{Token}
use Rattle.ang_lex.specs.declared.token.TokenKind.{TokenKind}
use Rattle.ang_lex.specs.declared.token.TokenKind.TheVariants as k
use Rattle.ang_tree.specs.Tree.{Tree, Trees, none}
use Rattle.ang_tree.specs.Stmt.{Start, with_variables, with_expression, Stmt, Body, Stmts, block, variables, expression, break, continue, return, while, do_while, for, body, end, added_stmt}
use Rattle.ang_tree.specs.View.{Branch, conditional_of}
use Rattle.ang_parse_read.specs.Read.{Parser, ◌>>=◌, pure, out_of_depth, Choice, look, Turn, ready, repeat}
use Rattle.ang_parse_read.specs.Tokens.{a_token, is_left_paren, is_right_paren, is_right_brace, is_semicolon, is_while}
use Rattle.ang_parse_expr.specs.ReadExpr.{expr, expressions}
use Rattle.ang_parse_stmt.specs.Ahead.{ahead}
use Rattle.ang_parse_stmt.specs.ReadVars.{ended, start}

-- "(" assign ")"
pub record Condition : Type 0 where
  pub left : Token
  pub value : Tree
  pub right : Token

-- "while" "(" assign ")" ";"
pub record Ending : Type 0 where
  pub word : Token
  pub condition : Condition
  pub semicolon : Token

-- "(" ( vars | [ assign ] ";" ) [ assign ] ";" [ assign { "," assign } ] ")"
pub record Head : Type 0 where
  pub left : Token
  pub start : Start
  pub condition : Option Tree
  pub semicolon : Token
  pub steps : Trees
  pub right : Token

-- "(" assign ")" stmt
pub record Guarded : Type 0 where
  pub condition : Condition
  pub statement : Stmt

abbrev pub condition_of : Token → Tree → Token → Condition
condition_of left c right = record { left = left; value = c; right = right }

abbrev pub ending_of : Token → Condition → Token → Ending
ending_of word c semicolon = record { word = word; condition = c; semicolon = semicolon }

abbrev pub head_of : Token → Start → Option Tree × Token → Trees × Token → Head
head_of left b c steps = record { left = left; start = b; condition = c.0; semicolon = c.1; steps = steps.0; right = steps.1 }

abbrev pub guarded_of : Condition → Stmt → Guarded
guarded_of c s = record { condition = c; statement = s }

-- vars | [ assign ] ";"
abbrev pub simple_of : Start → Stmt
simple_of (with_variables vs) = variables vs
simple_of (with_expression e semicolon) = expression e semicolon

abbrev pub branched : Token → Guarded → Option Branch → Stmt
branched word g o = conditional_of word g.condition.left g.condition.value g.condition.right g.statement o

abbrev pub while_of : Token → Guarded → Stmt
while_of word g = while word g.condition.left g.condition.value g.condition.right g.statement

abbrev pub do_while_of : Token → Stmt → Ending → Stmt
do_while_of word s e = do_while word s e.word e.condition.left e.condition.value e.condition.right e.semicolon

abbrev pub for_of : Token → Head → Stmt → Stmt
for_of word h s = for word h.left h.start h.condition h.semicolon h.steps h.right s

-- ---- after a word

unfoldable pub broken : Token → Parser Stmt
broken word = do semicolon ← a_token is_semicolon; pure (break word semicolon)

unfoldable pub continued : Token → Parser Stmt
continued word = do semicolon ← a_token is_semicolon; pure (continue word semicolon)

-- By the bound of expressions and of loops.
module _ (limit : ℕ) where
  unfoldable pub condition : Parser Condition
  condition = do left ← a_token is_left_paren; c ← expr limit 0; right ← a_token is_right_paren; pure (condition_of left c right)

  unfoldable pub ending : Parser Ending
  ending = do word ← a_token is_while; c ← condition; semicolon ← a_token is_semicolon; pure (ending_of word c semicolon)

  abbrev pub steps_by : TokenKind → Choice (Trees × Token)
  steps_by k.RightParen = Some (λ right. pure (none, right))
  steps_by _ = None

  -- assign { "," assign } ")"
  unfoldable pub some_steps : Parser (Trees × Token)
  some_steps = do es ← expressions (expr limit) limit; right ← a_token is_right_paren; pure (es, right)

  -- [ assign { "," assign } ] ")"
  unfoldable pub steps : Parser (Trees × Token)
  steps = look steps_by some_steps

  unfoldable pub head : Parser Head
  head = do left ← a_token is_left_paren; b ← start limit; c ← ended limit; es ← steps; pure (head_of left b c es)

  unfoldable pub simple : Parser Stmt
  simple = do b ← start limit; pure (simple_of b)

  -- after `return`
  unfoldable pub returned : Token → Parser Stmt
  returned word = do e ← ended limit; pure (return word e.0 e.1)

-- By what reads a statement inside, and the same bound.
module _ (stmt : Parser Stmt) (limit : ℕ) where
  unfoldable pub next_statement : Stmts → Turn Stmts
  next_statement ss = do s ← stmt; pure (added_stmt ss s, true)

  unfoldable pub other_statement : Stmts → Turn Stmts
  other_statement ss = ahead is_right_brace (ready ss) (next_statement ss)

  -- { stmt }, up to a right brace
  unfoldable pub statements : Parser Stmts
  statements = repeat other_statement limit end

  -- after the left brace
  unfoldable pub a_body : Token → Parser Body
  a_body left = do ss ← statements; right ← a_token is_right_brace; pure (body left ss right)

  unfoldable pub guarded : Parser Guarded
  guarded = do c ← condition limit; s ← stmt; pure (guarded_of c s)

  -- after `else`
  unfoldable pub other_branch : Token → Parser (Option Branch)
  other_branch word = do s ← stmt; pure (Some (word, s))

  abbrev pub otherwise_by : TokenKind → Choice (Option Branch)
  otherwise_by k.Else = Some other_branch
  otherwise_by _ = None

  -- [ "else" stmt ]
  unfoldable pub otherwise : Parser (Option Branch)
  otherwise = look otherwise_by (pure None)

  -- ---- after a word

  unfoldable pub conditional : Token → Parser Stmt
  conditional word = do g ← guarded; o ← otherwise; pure (branched word g o)

  unfoldable pub while_loop : Token → Parser Stmt
  while_loop word = do g ← guarded; pure (while_of word g)

  unfoldable pub do_loop : Token → Parser Stmt
  do_loop word = do s ← stmt; e ← ending limit; pure (do_while_of word s e)

  unfoldable pub for_loop : Token → Parser Stmt
  for_loop word = do h ← head limit; s ← stmt; pure (for_of word h s)

  unfoldable pub braced : Token → Parser Stmt
  braced left = do b ← a_body left; pure (block b)

  abbrev pub statement_by : TokenKind → Choice Stmt
  statement_by k.LeftBrace = Some braced
  statement_by k.If = Some conditional
  statement_by k.While = Some while_loop
  statement_by k.Do = Some do_loop
  statement_by k.For = Some for_loop
  statement_by k.Break = Some broken
  statement_by k.Continue = Some continued
  statement_by k.Return = Some (returned limit)
  statement_by _ = None

  unfoldable pub statement : Parser Stmt
  statement = look statement_by (simple limit)

-- a statement, by the bound of nested statements and that of expressions and loops
unfoldable pub stmt : ℕ → ℕ → Parser Stmt
stmt zero limit = out_of_depth
stmt (suc n) limit = statement (stmt n limit) limit

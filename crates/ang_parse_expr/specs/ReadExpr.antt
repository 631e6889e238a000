-- Reading expressions.
use Rattle.std.specs.Prelude.{ℕ, zero, suc, ◌+◌, nat_le, Bool, true, false, Some, None}
use Rattle.ang_lex.specs.declared.token.Token.{Token}
use Rattle.ang_lex.specs.declared.token.TokenKind.{TokenKind}
use Rattle.ang_lex.specs.declared.token.TokenKind.TheVariants as k
use Rattle.ang_tree.specs.Kinds.{literal_kind, prefix_kind, step_kind, assignment_kind, precedence}
use Rattle.ang_tree.specs.Tree.{Tree, Args, Trees, literal, name, call, scoped_call, scoped_name, cast, convert, group, postfix, member, method_call, prefix, binary, conditional, assignment, arguments, none, more, added}
use Rattle.ang_parse_read.specs.Read.{Parser, ◌>>=◌, pure, out_of_depth, Choice, given, look, next, Turn, ready, repeat}
use Rattle.ang_parse_read.specs.Tokens.{a_token, is_name, is_left_paren, is_right_paren, is_less, is_greater, is_colon}
use Rattle.ang_parse_expr.specs.ReadType.{a_type}

-- An operator that binds so tightly is taken where one of the rule `least` or a tighter one is wanted.
abbrev pub binds : ℕ → ℕ → Bool
binds least zero = false
binds least (suc p) = nat_le least (suc p)

-- By what reads an expression of a rule or a tighter one, and a bound on the turns of a loop.
module _ (expr : ℕ → Parser Tree) (bound : ℕ) where
  -- ---- expressions with commas between them, and arguments

  -- after a comma
  unfoldable pub another : Trees → Token → Turn Trees
  another es comma = do e ← expr 0; pure (added es (Some comma) e, true)

  abbrev pub others_by : Trees → TokenKind → Choice (Trees × Bool)
  others_by es k.Comma = Some (another es)
  others_by es _ = None

  unfoldable pub other_expression : Trees → Turn Trees
  other_expression es = look (others_by es) (ready es)

  -- one or more
  unfoldable pub expressions : Parser Trees
  expressions = do e ← expr 0; repeat other_expression bound (more None e none)

  abbrev pub args_by : Token → TokenKind → Choice Args
  args_by left k.RightParen = Some (λ right. pure (arguments left none right))
  args_by left _ = None

  unfoldable pub some_args : Token → Parser Args
  some_args left = do es ← expressions; right ← a_token is_right_paren; pure (arguments left es right)

  -- after the left parenthesis
  unfoldable pub args : Token → Parser Args
  args left = look (args_by left) (some_args left)

  -- ---- primary

  abbrev pub scoped_by : Token → Token → Token → TokenKind → Choice Tree
  scoped_by c scope x k.LeftParen = Some (λ left. do es ← args left; pure (scoped_call c scope x es))
  scoped_by c scope x _ = None

  -- after a name and `::`
  unfoldable pub scoped : Token → Token → Parser Tree
  scoped c scope = do x ← a_token is_name; look (scoped_by c scope x) (pure (scoped_name c scope x))

  abbrev pub named_by : Token → TokenKind → Choice Tree
  named_by x k.LeftParen = Some (λ left. do es ← args left; pure (call x es))
  named_by x k.Scope = Some (scoped x)
  named_by x _ = None

  unfoldable pub named : Token → Parser Tree
  named x = look (named_by x) (pure (name x))

  -- an expression and the right parenthesis
  unfoldable pub inside : Parser (Tree × Token)
  inside = do e ← expr 0; right ← a_token is_right_paren; pure (e, right)

  unfoldable pub converted : Token → Parser Tree
  converted p = do left ← a_token is_left_paren; i ← inside; pure (convert p left i.0 i.1)

  unfoldable pub casted : Token → Parser Tree
  casted word = do less ← a_token is_less; y ← a_type; greater ← a_token is_greater; left ← a_token is_left_paren; i ← inside; pure (cast word less y greater left i.0 i.1)

  unfoldable pub grouped : Token → Parser Tree
  grouped left = do i ← inside; pure (group left i.0 i.1)

  abbrev pub primary_by : TokenKind → Choice Tree
  primary_by k.Name = Some named
  primary_by k.Cast = Some casted
  primary_by (k.Primitive p) = Some converted
  primary_by k.LeftParen = Some grouped
  primary_by kind = given (literal_kind kind) (λ t. pure (literal t))

  unfoldable pub primary : Parser Tree
  primary = next primary_by

  -- ---- post

  abbrev pub membered_by : Tree → Token → Token → TokenKind → Choice Tree
  membered_by e dot x k.LeftParen = Some (λ left. do es ← args left; pure (method_call e dot x es))
  membered_by e dot x _ = None

  -- after the dot
  unfoldable pub membered : Tree → Token → Parser Tree
  membered e dot = do x ← a_token is_name; look (membered_by e dot x) (pure (member e dot x))

  abbrev pub suffix_by : Tree → TokenKind → Choice (Tree × Bool)
  suffix_by e k.Dot = Some (λ dot. do m ← membered e dot; pure (m, true))
  suffix_by e kind = given (step_kind kind) (λ op. pure (postfix e op, true))

  unfoldable pub suffix : Tree → Turn Tree
  suffix e = look (suffix_by e) (ready e)

  unfoldable pub post : Parser Tree
  post = primary >>= repeat suffix bound

  -- ---- unary and the levels of binary

  abbrev pub unary_by : TokenKind → Choice Tree
  unary_by kind = given (prefix_kind kind) (λ op. do e ← expr 11; pure (prefix op e))

  unfoldable pub unary : Parser Tree
  unary = look unary_by post

  -- after a binary operator
  unfoldable pub operated : Tree → Token → Turn Tree
  operated l op = do r ← expr (precedence op.kind + 1); pure (binary l op r, true)

  abbrev pub operation_by : ℕ → Tree → TokenKind → Choice (Tree × Bool)
  operation_by least l kind = given (binds least (precedence kind)) (operated l)

  unfoldable pub operation : ℕ → Tree → Turn Tree
  operation least l = look (operation_by least l) (ready l)

  unfoldable pub term : ℕ → Parser Tree
  term least = unary >>= repeat (operation least) bound

  -- ---- cond and assign

  -- after `?`
  unfoldable pub branches : Parser (Tree × Token × Tree)
  branches = do l ← expr 0; colon ← a_token is_colon; r ← expr 0; pure (l, colon, r)

  unfoldable pub conditioned : Tree → Token → Parser Tree
  conditioned c question = do b ← branches; pure (conditional c question b.0 b.1 b.2)

  -- after an assignment operator
  unfoldable pub assigned : Tree → Token → Parser Tree
  assigned c op = do r ← expr 0; pure (assignment c op r)

  abbrev pub tail_by : Tree → TokenKind → Choice Tree
  tail_by c k.Question = Some (conditioned c)
  tail_by c kind = given (assignment_kind kind) (assigned c)

  unfoldable pub tail : Tree → Parser Tree
  tail c = look (tail_by c) (pure c)

  abbrev pub tail_at : ℕ → Tree → Parser Tree
  tail_at zero e = tail e
  tail_at (suc n) e = pure e

  unfoldable pub level : ℕ → Parser Tree
  level least = term least >>= tail_at least

-- an expression of the rule of this number or a tighter one: 0 for `assign`, 1 to 10 for the levels of `binary`, 11 for `unary`
unfoldable pub expr : ℕ → ℕ → Parser Tree
expr zero least = out_of_depth
expr (suc n) least = level (expr n) n least

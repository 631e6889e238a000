-- Reading variables, and what begins with them or with an expression. (docs/LANGUAGE.md, "Grammar": `vars`, `stmt`.)
use Rattle.std.specs.Prelude.{ℕ, Bool, true, List, [], ◌∷◌, ◌++◌, Option, Some, None}
use Rattle.ang_lex.specs.declared.token.Token.{Token}
use Rattle.ang_lex.specs.declared.token.TokenKind.{TokenKind}
use Rattle.ang_lex.specs.declared.token.TokenKind.TheVariants as k
use Rattle.ang_tree.specs.declared.type_name.TypeName.{TypeName}
use Rattle.ang_tree.specs.Kinds.{type_kind}
use Rattle.ang_tree.specs.Tree.{Tree}
use Rattle.ang_tree.specs.Stmt.{Init, absent, value, constructor, Var, Vars, Start, with_variables, with_expression}
use Rattle.ang_parse_read.specs.Read.{Parser, ◌>>=◌, pure, Choice, look, Turn, ready, repeat}
use Rattle.ang_parse_read.specs.Tokens.{a_token, perhaps, is_name, is_semicolon, is_const}
use Rattle.ang_parse_expr.specs.ReadType.{handle_of, type_of, type_named}
use Rattle.ang_parse_expr.specs.ReadExpr.{expr, args}

abbrev pub variable_of : Option Token → Token → Init → Var
variable_of comma x i = record { comma = comma; name = x; initializer = i }

abbrev pub variables_of : TypeName → List Var → Token → Vars
variables_of y vs semicolon = record { declared_type = y; items = vs; semicolon = semicolon }

-- By the bound of expressions and of loops.
module _ (limit : ℕ) where
  -- ---- variables

  -- after `=`
  unfoldable pub valued : Token → Parser Init
  valued equals = do e ← expr limit 0; pure (value equals e)

  -- after the left parenthesis
  unfoldable pub constructed : Token → Parser Init
  constructed left = do es ← args (expr limit) limit left; pure (constructor es)

  abbrev pub init_by : TokenKind → Choice Init
  init_by k.Assign = Some valued
  init_by k.LeftParen = Some constructed
  init_by _ = None

  -- [ "=" assign | args ]
  unfoldable pub init : Parser Init
  init = look init_by (pure absent)

  -- a variable, after its name
  unfoldable pub variable_named : Option Token → Token → Parser Var
  variable_named comma x = do i ← init; pure (variable_of comma x i)

  -- one more, after the comma
  unfoldable pub another_variable : List Var → Token → Turn (List Var)
  another_variable vs comma = do x ← a_token is_name; v ← variable_named (Some comma) x; pure (vs ++ v ∷ [], true)

  abbrev pub other_variable_by : List Var → TokenKind → Choice (List Var × Bool)
  other_variable_by vs k.Comma = Some (another_variable vs)
  other_variable_by vs _ = None

  unfoldable pub other_variable : List Var → Turn (List Var)
  other_variable vs = look (other_variable_by vs) (ready vs)

  -- variables of a type, after the first of them
  unfoldable pub variables_behind : TypeName → Var → Parser Vars
  variables_behind y v = do vs ← repeat other_variable limit (v ∷ []); semicolon ← a_token is_semicolon; pure (variables_of y vs semicolon)

  -- variables of a type, after the name of the first
  unfoldable pub variables_named : TypeName → Token → Parser Vars
  variables_named y x = do v ← variable_named None x; variables_behind y v

  -- ---- vars | [ assign ] ";"

  abbrev pub ended_by : TokenKind → Choice (Option Tree × Token)
  ended_by k.Semicolon = Some (λ semicolon. pure (None, semicolon))
  ended_by _ = None

  -- assign ";"
  unfoldable pub some_ended : Parser (Option Tree × Token)
  some_ended = do e ← expr limit 0; semicolon ← a_token is_semicolon; pure (Some e, semicolon)

  -- [ assign ] ";"
  unfoldable pub ended : Parser (Option Tree × Token)
  ended = look ended_by some_ended

  unfoldable pub ran : Parser Start
  ran = do e ← some_ended; pure (with_expression e.0 e.1)

  -- variables, after the name of the first
  unfoldable pub declared : TypeName → Token → Parser Start
  declared y x = do vs ← variables_named y x; pure (with_variables vs)

  -- variables, after their type
  unfoldable pub declared_of : TypeName → Parser Start
  declared_of y = do x ← a_token is_name; declared y x

  -- variables, after their type's name
  unfoldable pub typed : Option Token → Token → Parser Start
  typed constant x = do y ← type_named constant x; declared_of y

  -- variables, after `const`
  unfoldable pub constant_typed : Token → Parser Start
  constant_typed word = do x ← a_token type_kind; typed (Some word) x

  -- variables, after the name of their type and `@`
  unfoldable pub handled : Token → Token → Parser Start
  handled x sign = do c ← perhaps is_const; declared_of (type_of None x (Some (handle_of sign c)))

  -- After a name, another name or `@` tells variables from an expression. An expression is read from the first name on.
  abbrev pub named_by : Token → TokenKind → Choice Start
  named_by x k.At = Some (handled x)
  named_by x k.Name = Some (declared (type_of None x None))
  named_by x _ = None

  unfoldable pub named : Token → Parser Start
  named x = look (named_by x) (λ ts. ran (x ∷ ts))

  -- After a primitive type, `(` tells an expression from variables.
  abbrev pub primitive_by : Token → TokenKind → Choice Start
  primitive_by p k.LeftParen = Some (λ left ts. ran (p ∷ left ∷ ts))
  primitive_by p _ = None

  unfoldable pub primitive : Token → Parser Start
  primitive p = look (primitive_by p) (typed None p)

  abbrev pub start_by : TokenKind → Choice Start
  start_by k.Semicolon = Some (λ semicolon. pure (with_expression None semicolon))
  start_by k.Const = Some constant_typed
  start_by k.Void = Some (typed None)
  start_by k.Name = Some named
  start_by (k.Primitive p) = Some primitive
  start_by _ = None

  unfoldable pub start : Parser Start
  start = look start_by ran

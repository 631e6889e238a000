-- Reading what begins with a type at the top of a script, a function or global variables, and reading imports.
-- (docs/LANGUAGE.md, "Grammar": `function`, `globals`, `import`.)
use Rattle.std.specs.Prelude.{ℕ, Option, Some, None, option_map}
use Rattle.ang_lex.specs.declared.token.Token.{Token}
use Rattle.ang_lex.specs.declared.token.TokenKind.{TokenKind}
use Rattle.ang_lex.specs.declared.token.TokenKind.TheVariants as k
use Rattle.ang_tree.specs.declared.type_name.TypeName.{TypeName}
use Rattle.ang_tree.specs.Tree.{Args}
use Rattle.ang_tree.specs.Stmt.{constructor}
use Rattle.ang_tree.specs.Declarations.{Params, Decl}
use Rattle.ang_tree.specs.Declarations as decl
use Rattle.ang_parse_read.specs.Read.{Parser, ◌>>=◌, pure, refuse, Choice, look}
use Rattle.ang_parse_read.specs.Tokens.{a_token, is_name, is_semicolon, is_from, is_text}
use Rattle.ang_parse_read.specs.Law.{finish}
use Rattle.ang_parse_read.specs.Group.{both}
use Rattle.ang_parse_expr.specs.ReadType.{a_type}
use Rattle.ang_parse_expr.specs.ReadExpr.{expr, args}
use Rattle.ang_parse_stmt.specs.ReadVars.{variable_of, variables_behind, variables_named}
use Rattle.ang_parse_stmt.specs.ReadStmt.{stmt, a_body}
use Rattle.ang_parse_stmt.specs.ReadParams.{params, a_params}

-- ---- the group after a name: "(" .. ")"

-- parameters after the left parenthesis, and nothing after them
unfoldable pub whole_params : ℕ → Token → Parser Params
whole_params limit left = params limit left >>= finish

-- arguments after the left parenthesis, and nothing after them
unfoldable pub whole_args : ℕ → Token → Parser Args
whole_args limit left = args (expr limit) limit left >>= finish

-- a group as parameters, and as arguments: it may be both, as `()` and `(A)` are
abbrev pub Group : Type 0
Group = Option Params × Option Args

-- The group after its left parenthesis, read in both ways. Where it is neither, the fault is the one further right.
unfoldable pub group : ℕ → Token → Parser Group
group limit left = both (whole_params limit left) (whole_args limit left)

-- ---- global variables, by the bound of expressions and loops

module _ (limit : ℕ) where
  -- global variables of which the first has these arguments, after them
  unfoldable pub constructed : TypeName → Token → Args → Parser Decl
  constructed y x es = do vs ← variables_behind limit y (variable_of None x (constructor es)); pure (decl.globals vs)

  abbrev pub perhaps_constructed : TypeName → Token → Option Args → Parser Decl
  perhaps_constructed y x None = refuse
  perhaps_constructed y x (Some es) = constructed y x es

  -- global variables, after the name of the first
  unfoldable pub declared : TypeName → Token → Parser Decl
  declared y x = do vs ← variables_named limit y x; pure (decl.globals vs)

-- ---- function and globals, by the bound of nested statements as well

module _ (depth limit : ℕ) where
  -- a function, after the left brace
  unfoldable pub bodied : TypeName → Token → Params → Token → Parser Decl
  bodied y x ps left = do b ← a_body (stmt depth limit) limit left; pure (decl.function y x ps b)

  abbrev pub told_by : TypeName → Token → Option Params → TokenKind → Choice Decl
  told_by y x ps k.LeftBrace = option_map (bodied y x) ps
  told_by y x ps _ = None

  -- After the group, a left brace wants its parameters, and anything else its arguments.
  unfoldable pub told : TypeName → Token → Group → Parser Decl
  told y x g = look (told_by y x g.0) (perhaps_constructed limit y x g.1)

  unfoldable pub grouped : TypeName → Token → Token → Parser Decl
  grouped y x left = group limit left >>= told y x

  abbrev pub named_by : TypeName → Token → TokenKind → Choice Decl
  named_by y x k.LeftParen = Some (grouped y x)
  named_by y x _ = None

  -- after the type and the name
  unfoldable pub named : TypeName → Token → Parser Decl
  named y x = look (named_by y x) (declared limit y x)

  unfoldable pub function_or_globals : Parser Decl
  function_or_globals = do y ← a_type; x ← a_token is_name; named y x

-- ---- import

-- "from" TEXT ";"
unfoldable pub origin : Parser (Token × Token × Token)
origin = do word ← a_token is_from; text ← a_token is_text; semicolon ← a_token is_semicolon; pure (word, text, semicolon)

-- after the word `import`, by the bound of loops
unfoldable pub import : ℕ → Token → Parser Decl
import limit word = do y ← a_type; x ← a_token is_name; ps ← a_params limit; o ← origin; pure (decl.import word y x ps o.0 o.1 o.2)

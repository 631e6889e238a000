-- Reading a script. (docs/LANGUAGE.md, "Grammar": `script`.)
use Rattle.std.specs.Prelude.{ℕ, Bool, true, List, [], ◌∷◌, ◌++◌, Some, None}
use Rattle.ang_lex.specs.declared.token.TokenKind.{TokenKind}
use Rattle.ang_lex.specs.declared.token.TokenKind.TheVariants as k
use Rattle.ang_tree.specs.Declarations.{Decl, empty}
use Rattle.ang_parse_read.specs.Read.{Parser, ◌>>=◌, pure, Choice, look, Turn, ready, repeat}
use Rattle.ang_parse_stmt.specs.Ahead.{ahead}
use Rattle.ang_parse.specs.ReadFunction.{function_or_globals, import}
use Rattle.ang_parse.specs.ReadClass.{class, final_class, interface}

abbrev pub any_kind : TokenKind → Bool
any_kind kind = true

-- By the bound of nested calls and of the turns of a loop.
module _ (limit : ℕ) where
  abbrev pub declaration_by : TokenKind → Choice Decl
  declaration_by k.Class = Some (class limit limit None)
  declaration_by k.Final = Some (final_class limit limit)
  declaration_by k.Interface = Some (interface limit)
  declaration_by k.Import = Some (import limit)
  declaration_by k.Semicolon = Some (λ semicolon. pure (empty semicolon))
  declaration_by _ = None

  -- class | interface | import | function | globals | ";"
  unfoldable pub declaration : Parser Decl
  declaration = look declaration_by (function_or_globals limit limit)

  unfoldable pub next_declaration : List Decl → Turn (List Decl)
  next_declaration ds = do d ← declaration; pure (ds ++ d ∷ [], true)

  unfoldable pub other_declaration : List Decl → Turn (List Decl)
  other_declaration ds = ahead any_kind (next_declaration ds) (ready ds)

  -- to the end
  unfoldable pub script : Parser (List Decl)
  script = repeat other_declaration limit []

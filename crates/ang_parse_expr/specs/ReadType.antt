-- Reading types: [ "const" ] ( PRIM | "void" | NAME ) [ "@" [ "const" ] ].
use Rattle.std.specs.Prelude.{Option, Some, None}
use Rattle.ang_lex.specs.declared.token.Token.{Token}
use Rattle.ang_lex.specs.declared.token.TokenKind.{TokenKind}
use Rattle.ang_lex.specs.declared.token.TokenKind.TheVariants as k
use Rattle.ang_tree.specs.declared.type_name.TypeName.{TypeName}
use Rattle.ang_tree.specs.declared.type_name.Handle.{Handle}
use Rattle.ang_tree.specs.Kinds.{type_kind}
use Rattle.ang_parse_read.specs.Read.{Parser, ◌>>=◌, pure, Choice, look}
use Rattle.ang_parse_read.specs.Tokens.{a_token, perhaps, is_const}

abbrev pub handle_of : Token → Option Token → Handle
handle_of sign constant = record { at = sign; constant = constant }

abbrev pub handle_by : TokenKind → Choice (Option Handle)
handle_by k.At = Some (λ sign. do c ← perhaps is_const; pure (Some (handle_of sign c)))
handle_by _ = None

-- [ "@" [ "const" ] ]
unfoldable pub a_handle : Parser (Option Handle)
a_handle = look handle_by (pure None)

abbrev pub type_of : Option Token → Token → Option Handle → TypeName
type_of constant x handle = record { constant = constant; name = x; handle = handle }

-- what stands after the type's name
unfoldable pub type_named : Option Token → Token → Parser TypeName
type_named constant x = do h ← a_handle; pure (type_of constant x h)

unfoldable pub a_type : Parser TypeName
a_type = do c ← perhaps is_const; x ← a_token type_kind; type_named c x

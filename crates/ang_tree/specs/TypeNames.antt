-- Types as they are written, and the tokens that spell them. (docs/LANGUAGE.md, "Grammar": `type`.)
use Rattle.std.specs.Prelude.{List, ◌∷◌, Option, Some, None}
use Rattle.ang_lex.specs.declared.token.Token.{Token}
use Rattle.ang_lex.specs.declared.token.TokenKind.TheVariants as k
use Rattle.ang_tree.specs.declared.type_name.TypeName.{TypeName}
use Rattle.ang_tree.specs.declared.type_name.Handle.{Handle}
use Rattle.ang_tree.specs.Kinds.{Is, IsA, IfWritten, optional, type_kind}

-- [ "@" [ "const" ] ]
abbrev pub spelled_handle : Option Handle → List Token → List Token
spelled_handle None after = after
spelled_handle (Some h) after = h.at ∷ optional h.constant after

-- [ "const" ] ( PRIM | "void" | NAME ) [ "@" [ "const" ] ]
abbrev pub spelled_type : TypeName → List Token → List Token
spelled_type y after = optional y.constant (y.name ∷ spelled_handle y.handle after)

abbrev pub FitsHandle : Option Handle → Type 0
FitsHandle None = Unit {0}
FitsHandle (Some h) = Is k.At h.at × IfWritten k.Const h.constant

abbrev pub FitsType : TypeName → Type 0
FitsType y = IfWritten k.Const y.constant × IsA type_kind y.name × FitsHandle y.handle

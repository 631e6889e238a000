-- The reader of a script looks no further than it reads.
use Rattle.std.proofs.Common.{ℕ, ◌≤◌, true, false, List, [], ◌∷◌, ◌++◌, None}
use Rattle.ang_lex.specs.declared.token.Token.{Token}
use Rattle.ang_lex.specs.declared.token.TokenKind.{TokenKind}
use Rattle.ang_lex.specs.declared.token.TokenKind.TheVariants as k
use Rattle.ang_tree.specs.Declarations.{Decl, empty}
use Rattle.ang_parse_read.specs.Read.{pure}
use Rattle.ang_parse_read.proofs.DependsOnPrefix.{DependsOnPrefix, Both, prefix_pure, prefix_bind, prefix_look, prefix_repeat}
use Rattle.ang_parse_stmt.proofs.Ahead.{prefix_ahead}
use Rattle.ang_parse.specs.ReadFunction.{function_or_globals}
use Rattle.ang_parse.proofs.PrefixFunction.{function_or_globals_prefix, import_prefix}
use Rattle.ang_parse.proofs.PrefixClass.{class_prefix, final_class_prefix, interface_prefix}
use Rattle.ang_parse.specs.ReadScript as r

module _ (b z : List Token) (m n : ℕ) (le : m ≤ n) where
  declaration_by_prefix : (kind : TokenKind) → Both b z (r.declaration_by m kind) (r.declaration_by n kind)
  declaration_by_prefix k.Class = class_prefix b z m n le m n le None
  declaration_by_prefix k.Final = final_class_prefix b z m n le m n le
  declaration_by_prefix k.Interface = interface_prefix b z m n le
  declaration_by_prefix k.Import = import_prefix b z m n le
  declaration_by_prefix k.Semicolon = λ semicolon. prefix_pure b z (empty semicolon)
  declaration_by_prefix _ = tt

  declaration_prefix : DependsOnPrefix b z (r.declaration m) (r.declaration n)
  unfolding r.declaration
  declaration_prefix = prefix_look b z (r.declaration_by m) (r.declaration_by n) (function_or_globals m m) (function_or_globals n n) declaration_by_prefix (function_or_globals_prefix b z m n le m n le)

  next_declaration_prefix : (ds : List Decl) → DependsOnPrefix b z (r.next_declaration m ds) (r.next_declaration n ds)
  unfolding r.next_declaration
  next_declaration_prefix ds = prefix_bind b z (r.declaration m) (r.declaration n) _ _ declaration_prefix (λ d. prefix_pure b z (ds ++ d ∷ [], true))

  other_declaration_prefix : (ds : List Decl) → DependsOnPrefix b z (r.other_declaration m ds) (r.other_declaration n ds)
  unfolding r.other_declaration
  other_declaration_prefix ds = prefix_ahead b z r.any_kind (r.next_declaration m ds) (r.next_declaration n ds) (pure (ds, false)) (pure (ds, false)) (next_declaration_prefix ds) (prefix_pure b z (ds, false))

  pub script_prefix : DependsOnPrefix b z (r.script m) (r.script n)
  unfolding r.script
  script_prefix = prefix_repeat b z (r.other_declaration m) (r.other_declaration n) other_declaration_prefix m n le []

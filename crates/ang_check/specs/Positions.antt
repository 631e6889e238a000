-- Where the statements of a constructor stand.
use Rattle.std.specs.Prelude.{ℕ, List, [], ◌∷◌, ◌++◌, Option, Some, None}
use Rattle.ang_kinds.specs.declared.position.Position.{Position}
use Rattle.ang_lex.specs.declared.token.Token.{Token}
use Rattle.ang_tree.specs.Stmt.{Stmts}
use Rattle.ang_tree.specs.Declarations.{SuperTree}
use Rattle.ang_check_stmt.specs.Positions.{token_position, positions_of}

-- the call of the base class's constructor: at `super`, or else at the constructor's own name
abbrev pub base_position : Token → Option SuperTree → Position
base_position x None = token_position x
base_position x (Some u) = token_position u.word

-- where one is called
abbrev pub base_positions : Option ℕ → Token → Option SuperTree → List Position
base_positions None x u = []
base_positions (Some k) x u = base_position x u ∷ []

-- That call, the statements, and, at the closing `}`, what gives the object back.
abbrev pub constructor_positions : Option ℕ → Token → Option SuperTree → Stmts → Token → List Position
constructor_positions base x u ss close = (base_positions base x u ++ positions_of ss) ++ (token_position close ∷ [])

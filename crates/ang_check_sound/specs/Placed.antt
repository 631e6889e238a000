-- Where the names and the statements of a build stand: at tokens of their sections (docs/LANGUAGE.md, "Tokens"; docs/HOST.md, "Besides commands").
use Rattle.std.specs.Prelude.{◌≡◌, ℕ, List, [], Contains, Some, length, map, slice_get}
use Rattle.ang_kinds.specs.declared.place.Place.{Place}
use Rattle.ang_kinds.specs.declared.position.Position.{Position}
use Rattle.ang_lex.specs.declared.token.Token.{Token}
use Rattle.ang_tree.specs.Stmt.{each}
use Rattle.ang_tree.specs.Declarations.{spelled_decl}
use Rattle.ang_typed.specs.Typed as t
use Rattle.ang_names_known.specs.declared.names.Family.{Family}
use Rattle.ang_names_known.specs.declared.names.Names.{Names}
use Rattle.ang_names_known.specs.declared.names.ScriptConstructor.{ScriptConstructor}
use Rattle.ang_names_known.specs.declared.names.ScriptFunction.{ScriptFunction}
use Rattle.ang_names_known.specs.declared.names.ScriptGlobal.{ScriptGlobal}
use Rattle.ang_names_known.specs.declared.names.ScriptMethod.{ScriptMethod}
use Rattle.ang_names_listed.specs.Sources.{Source}
use Rattle.ang_check_stmt.specs.Positions.{token_position}

-- A name stands at one of these tokens, and so does each of these statements.
pub record StandsAmong (tokens : List Token) (name : Place) (statements : List Position) : Type 0 where
  pub name_is : Contains (map (λ (t : Token). t.place) tokens) name
  pub statements_are : (q : Position) → Contains statements q → Contains (map token_position tokens) q

-- the tokens that spell the declarations of a section
abbrev pub tokens_in : Source → List Token
tokens_in s = each spelled_decl s.declarations []

-- The name and the statements stand at tokens of one and the same section.
pub record StandsIn (sources : List Source) (name : Place) (statements : List Position) : Type 0 where
  pub number : ℕ
  pub source : Source
  pub there : slice_get sources number ≡ Some source
  pub among : StandsAmong (tokens_in source) name statements

-- This holds of the place of each name that a trace can tell, with those of the statements of its body: a global has none.
module _ (P : Place → List Position → Type 0) where
  pub record ArePlaced (names : Names) (p : t.Program) : Type 0 where
    pub functions : (n : ℕ) (f : ScriptFunction) (g : t.TypedFunction) → slice_get names.functions n ≡ Some f
        → slice_get p.functions n ≡ Some g → P f.place g.positions
    pub methods : (c m n : ℕ) (f : Family) (y : ScriptMethod) (g : t.TypedFunction) → slice_get names.families c ≡ Some f
        → slice_get f.methods m ≡ Some y → y.body ≡ Some n → slice_get p.functions n ≡ Some g → P y.function.place g.positions
    pub constructors : (c m : ℕ) (f : Family) (y : ScriptConstructor) (g : t.TypedFunction) → slice_get names.families c ≡ Some f
        → slice_get f.constructors m ≡ Some y → slice_get p.functions y.body ≡ Some g → P y.function.place g.positions
    pub globals : (n : ℕ) (g : ScriptGlobal) → slice_get names.globals n ≡ Some g → P g.place []

-- each body has as many places as statements
abbrev pub AreCounted : t.Program → Type 0
AreCounted p = (n : ℕ) (g : t.TypedFunction) → slice_get p.functions n ≡ Some g → t.statement_count g.body ≡ length g.positions

-- The grammar of a list of parameters alone. (docs/LANGUAGE.md, "Grammar": `params`.)
use Rattle.std.specs.Prelude.{◌≡◌, List, []}
use Rattle.ang_lex.specs.declared.token.Token.{Token}
use Rattle.ang_tree.specs.Declarations.{Params, spelled_params, FitsParams}

-- The parameters spell these tokens, all of them.
pub record SpellsParams (ps : Params) (tokens : List Token) : Type 0 where
  pub fits : FitsParams ps
  pub text : tokens ≡ spelled_params ps []

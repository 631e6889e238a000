-- What is left of a list of tokens.
use Rattle.std.specs.Prelude.{◌≡◌, List, ◌++◌}
use Rattle.ang_lex.specs.declared.token.Token.{Token}

-- s is what is left of ts after some of its tokens
pub record From (ts s : List Token) : Type 0 where
  pub front : List Token
  pub parts : ts ≡ front ++ s

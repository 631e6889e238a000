-- Where what a built program declares stands in its sections.
use Rattle.std.specs.Prelude.{◌≡◌, ℕ, ◌+◌, List, Contains, Some, Ok, map, slice_get}
use Rattle.ang_kinds.specs.declared.place.Place.{Place}
use Rattle.ang_kinds.specs.declared.position.Position.{Position}
use Rattle.ang_lex.specs.declared.token.Token.{Token}
use Rattle.ang_lex.specs.Tokens.{tokens_of}

-- It is the place of a token of the section of its number, which is one of these.
pub record IsTokenPlace (sections : List (List ℕ)) (p : Place) : Type 0 where
  pub text : List ℕ
  pub tokens : List Token
  pub there : slice_get sections p.sect ≡ Some text
  pub read : tokens_of p.sect text ≡ Ok tokens
  pub among : Contains (map (λ (t : Token). t.place) tokens) p

-- a place within a section, whose lines and columns count from 0
abbrev pub place_at : ℕ → Position → Place
place_at section q = record { sect = section; line = q.line + 1; column = q.column + 1 }

-- The name is so, and so is each of these statements, in the name's section.
pub record IsPlaced (sections : List (List ℕ)) (name : Place) (statements : List Position) : Type 0 where
  pub name_is : IsTokenPlace sections name
  pub statements_are : (q : Position) → Contains statements q → IsTokenPlace sections (place_at name.sect q)

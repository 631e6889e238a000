-- What a parser answers, by the grammar: a relation between what is read and all of the tokens.
use Rattle.std.specs.Prelude.{◌≡◌, ℕ, ◌+◌, List, [], ◌∷◌, ◌++◌, length, Ok, Err}
use Rattle.ang_lex.specs.declared.token.Token.{Token}
use Rattle.ang_parse_read.specs.declared.error.ReadError.{ReadError}
use Rattle.ang_parse_read.specs.declared.error.ReadError.TheVariants as e
use Rattle.ang_parse_read.specs.From.{From}
use Rattle.ang_parse_read.specs.Read.{at, Parser, ◌>>=◌}

-- Nothing spells the tokens. The rest is an end of them, and no list that is spelled begins with the tokens up to and
-- including the first of the rest.
pub record Refused {A : Type 0} (Spells : A → List Token → Type 0) (tokens rest : List Token) : Type 0 where
  pub from : From tokens rest
  pub none : (x : A) → Spells x tokens → ⊥
  pub none_begins : (t : Token) (more other : List Token) → rest ≡ t ∷ more → (x : A) → Spells x (from.front ++ t ∷ other) → ⊥

abbrev pub Faulty : {A : Type 0} → (A → List Token → Type 0) → List Token → ReadError → Type 0
Faulty Spells tokens e.Memory = Unit {0}
Faulty Spells tokens (e.Syntax rest) = Refused Spells tokens rest.now
Faulty Spells tokens e.Deep = ⊥

-- nothing may follow
abbrev pub finish : {A : Type 0} → A → Parser A
finish x [] = Ok (x, [])
finish x (t ∷ ts) = Err (at (t ∷ ts))

-- all of the tokens, with a bound above their number
unfoldable pub all_of : {A : Type 0} → (ℕ → Parser A) → Parser A
all_of reader ts = (reader (length ts + 1) >>= finish) ts

-- What is spelled as a reference is read.
use Rattle.std.proofs.Common.{◌≡◌, Bool, true, false, List, [], ◌∷◌, Option, Some, None, Ok, refl, ap, ◌∙◌}
use Rattle.ang_lex.specs.declared.token.Token.{Token}
use Rattle.ang_lex.specs.declared.token.TokenKind.{TokenKind}
use Rattle.ang_lex.specs.declared.token.TokenKind.TheVariants as k
use Rattle.ang_tree.specs.declared.declaration.Reference.{Reference}
use Rattle.ang_tree.specs.Kinds.{Is, IfWrittenA, optional, direction_kind}
use Rattle.ang_tree.specs.Declarations.{spelled_reference, FitsReference}
use Rattle.ang_parse_read.specs.Read.{and_then, pure}
use Rattle.ang_parse_read.specs.Tokens.{perhaps}
use Rattle.ang_parse_read.specs.References.{reference_of, reference_by, a_reference}
use Rattle.ang_parse_read.proofs.Tokens.{begins, look_is, look_at, perhaps_is, perhaps_not}

abbrev pub is_ampersand : TokenKind → Bool
is_ampersand k.Ampersand = true
is_ampersand _ = false

-- a token that may be left out
pub perhaps_read : (test : TokenKind → Bool) (o : Option Token) (ts : List Token) → IfWrittenA test o → begins test ts ≡ false → perhaps test (optional o ts) ≡ Ok (o, ts)
perhaps_read test None ts f h = perhaps_not test ts h
perhaps_read test (Some t) ts f h = perhaps_is test t ts f

stops_by : (kind : TokenKind) → is_ampersand kind ≡ false → reference_by kind ≡ None
stops_by k.Ampersand h = absurd cc
stops_by _ h = refl

stops : (ts : List Token) → begins is_ampersand ts ≡ false → a_reference ts ≡ Ok (None, ts)
unfolding a_reference
stops [] h = refl
stops (t ∷ ts) h = look_at reference_by (pure None) None t ts (stops_by t.kind h)

done : (sign : Token) (d : Option Token) (ts us : List Token) → Is k.Ampersand sign → perhaps direction_kind ts ≡ Ok (d, us) → a_reference (sign ∷ ts) ≡ Ok (Some (reference_of sign d), us)
unfolding a_reference
done sign d ts us is h = look_is reference_by (pure None) k.Ampersand sign ts is ∙ ap (λ v. and_then v (λ d. pure (Some (reference_of sign d)))) h

pub reference_read : (o : Option Reference) (ts : List Token) → FitsReference o → begins is_ampersand ts ≡ false → begins direction_kind ts ≡ false → a_reference (spelled_reference o ts) ≡ Ok (o, ts)
reference_read None ts f a b = stops ts a
reference_read (Some r) ts f a b = done r.ampersand r.direction (optional r.direction ts) ts f.0 (perhaps_read direction_kind r.direction ts f.1 b)

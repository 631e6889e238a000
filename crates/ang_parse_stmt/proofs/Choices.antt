-- The laws of choices whose readers rest on the token's kind.
use Rattle.std.proofs.Common.{◌≡◌, ◌≤◌, inr, List, [], ◌∷◌, ◌++◌, length, Some, None, Ok, Err, refl, arith}
use Rattle.ang_lex.specs.declared.token.Token.{Token}
use Rattle.ang_lex.specs.declared.token.TokenKind.{TokenKind}
use Rattle.ang_parse_read.specs.Read.{at, deep, Outcome, Parser, Choice, chosen, look}
use Rattle.ang_parse_read.proofs.DependsOnPrefix.{DependsOnPrefix, Agree, Past, Kept, Filled}

module _ (r z : List Token) where
  past_agrees : {A : Type 0} (o o' : Outcome A) → Past r z o → Agree r z o o'
  past_agrees (Ok p) o' h = inr h
  past_agrees (Err (at s)) o' h = inr h
  past_agrees (Err deep) o' h = tt

  -- two choices of one kind of token, whose readers depend on a prefix alone after a token of that kind
  abbrev pub BothAt : {A : Type 0} → TokenKind → Choice A → Choice A → Type 0
  BothAt kind None None = Unit {0}
  BothAt kind (Some p) (Some q) = (t : Token) → t.kind ≡ kind → DependsOnPrefix r z (p t) (q t)
  BothAt kind _ _ = ⊥

  chosen_agrees : {A : Type 0} (a b : Choice A) (t : Token) (c : List Token) (o o' : Outcome A) → BothAt t.kind a b → Agree r z o o' → Agree r z (chosen a t (c ++ r) o) (chosen b t (c ++ z) o')
  chosen_agrees None None t c o o' h g = g
  chosen_agrees None (Some q) t c o o' h g = absurd h
  chosen_agrees (Some p) None t c o o' h g = absurd h
  chosen_agrees (Some p) (Some q) t [] o o' h g = past_agrees (p t r) (q t z) ((h t refl).past r (omega arith))
  chosen_agrees (Some p) (Some q) t (d ∷ c) o o' h g = (h t refl).common (d ∷ c) tt

  chosen_past : {A : Type 0} (a b : Choice A) (t : Token) (s : List Token) (o : Outcome A) → BothAt t.kind a b → length s ≤ length r → Past r z o → Past r z (chosen a t s o)
  chosen_past None b t s o h le g = g
  chosen_past (Some p) None t s o h le g = absurd h
  chosen_past (Some p) (Some q) t s o h le g = (h t refl).past s le

  chosen_kept : {A : Type 0} (a b : Choice A) (t : Token) (s : List Token) (o o' : Outcome A) → BothAt t.kind a b → Kept o o' → Kept (chosen a t s o) (chosen b t s o')
  chosen_kept None None t s o o' h g = g
  chosen_kept None (Some q) t s o o' h g = absurd h
  chosen_kept (Some p) None t s o o' h g = absurd h
  chosen_kept (Some p) (Some q) t s o o' h g = (h t refl).same s

  look_common : {A : Type 0} (f g : TokenKind → Choice A) (p q : Parser A) → ((kind : TokenKind) → BothAt kind (f kind) (g kind)) → DependsOnPrefix r z p q → (c : List Token) → Filled c → Agree r z (look f p (c ++ r)) (look g q (c ++ z))
  look_common f g p q h w [] filled = absurd filled
  look_common f g p q h w (t ∷ c) filled = chosen_agrees (f t.kind) (g t.kind) t c (p (t ∷ c ++ r)) (q (t ∷ c ++ z)) (h t.kind) (w.common (t ∷ c) tt)

  look_past : {A : Type 0} (f g : TokenKind → Choice A) (p q : Parser A) → ((kind : TokenKind) → BothAt kind (f kind) (g kind)) → DependsOnPrefix r z p q → (s : List Token) → length s ≤ length r → Past r z (look f p s)
  look_past f g p q h w [] le = w.past [] le
  look_past f g p q h w (t ∷ u) le = chosen_past (f t.kind) (g t.kind) t u (p (t ∷ u)) (h t.kind) (omega arith) (w.past (t ∷ u) le)

  look_kept : {A : Type 0} (f g : TokenKind → Choice A) (p q : Parser A) → ((kind : TokenKind) → BothAt kind (f kind) (g kind)) → DependsOnPrefix r z p q → (s : List Token) → Kept (look f p s) (look g q s)
  look_kept f g p q h w [] = w.same []
  look_kept f g p q h w (t ∷ u) = chosen_kept (f t.kind) (g t.kind) t u (p (t ∷ u)) (q (t ∷ u)) (h t.kind) (w.same (t ∷ u))

  pub prefix_look_at : {A : Type 0} (f g : TokenKind → Choice A) (p q : Parser A) → ((kind : TokenKind) → BothAt kind (f kind) (g kind)) → DependsOnPrefix r z p q → DependsOnPrefix r z (look f p) (look g q)
  prefix_look_at f g p q h w = record { common = look_common f g p q h w; past = look_past f g p q h w; same = look_kept f g p q h w }

-- The laws of looking at the next token without taking it.
use Rattle.std.proofs.Common.{◌≡◌, ℕ, ◌≤◌, Bool, true, false, List, [], ◌∷◌, ◌++◌, length, refl, ap}
use Rattle.ang_lex.specs.declared.token.Token.{Token}
use Rattle.ang_lex.specs.declared.token.TokenKind.{TokenKind}
use Rattle.ang_parse_read.specs.Read.{Outcome, Parser}
use Rattle.ang_parse_read.proofs.Outcomes.{Reads}
use Rattle.ang_parse_read.proofs.Tokens.{begins}
use Rattle.ang_parse_read.proofs.DependsOnPrefix.{DependsOnPrefix, Agree, Past, Kept, Filled}
use Rattle.ang_parse_stmt.specs.Ahead.{one_of, ahead}

-- ---- what is read

one_of_reads : {A : Type 0} (n : ℕ) (ts : List Token) (R : A → List Token → Type 0) (b : Bool) (o w : Outcome A)
    → (b ≡ true → Reads n ts R o) → (b ≡ false → Reads n ts R w) → Reads n ts R (one_of b o w)
one_of_reads n ts R true o w h g = h refl
one_of_reads n ts R false o w h g = g refl

pub ahead_reads : {A : Type 0} (n : ℕ) (R : A → List Token → Type 0) (test : TokenKind → Bool) (p q : Parser A) (ts : List Token)
    → (begins test ts ≡ true → Reads n ts R (p ts)) → (begins test ts ≡ false → Reads n ts R (q ts)) → Reads n ts R (ahead test p q ts)
ahead_reads n R test p q [] h g = g refl
ahead_reads n R test p q (t ∷ ts) h g = one_of_reads n (t ∷ ts) R (test t.kind) (p (t ∷ ts)) (q (t ∷ ts)) h g

-- ---- what is there is read

pub ahead_is : {A : Type 0} (test : TokenKind → Bool) (p q : Parser A) (t : Token) (ts : List Token) → test t.kind ≡ true → ahead test p q (t ∷ ts) ≡ p (t ∷ ts)
ahead_is test p q t ts h = ap (λ b. one_of b (p (t ∷ ts)) (q (t ∷ ts))) h

pub ahead_not : {A : Type 0} (test : TokenKind → Bool) (p q : Parser A) (ts : List Token) → begins test ts ≡ false → ahead test p q ts ≡ q ts
ahead_not test p q [] h = refl
ahead_not test p q (t ∷ ts) h = ap (λ b. one_of b (p (t ∷ ts)) (q (t ∷ ts))) h

-- ---- they look no further

module _ (r z : List Token) where
  one_of_agrees : {A : Type 0} (b : Bool) (o o' w w' : Outcome A) → Agree r z o o' → Agree r z w w' → Agree r z (one_of b o w) (one_of b o' w')
  one_of_agrees true o o' w w' h g = h
  one_of_agrees false o o' w w' h g = g

  one_of_past : {A : Type 0} (b : Bool) (o w : Outcome A) → Past r z o → Past r z w → Past r z (one_of b o w)
  one_of_past true o w h g = h
  one_of_past false o w h g = g

  one_of_kept : {A : Type 0} (b : Bool) (o o' w w' : Outcome A) → Kept o o' → Kept w w' → Kept (one_of b o w) (one_of b o' w')
  one_of_kept true o o' w w' h g = h
  one_of_kept false o o' w w' h g = g

  ahead_common : {A : Type 0} (test : TokenKind → Bool) (p p' q q' : Parser A) → DependsOnPrefix r z p p' → DependsOnPrefix r z q q' → (c : List Token) → Filled c → Agree r z (ahead test p q (c ++ r)) (ahead test p' q' (c ++ z))
  ahead_common test p p' q q' h g [] filled = absurd filled
  ahead_common test p p' q q' h g (t ∷ c) filled = one_of_agrees (test t.kind) (p (t ∷ c ++ r)) (p' (t ∷ c ++ z)) (q (t ∷ c ++ r)) (q' (t ∷ c ++ z)) (h.common (t ∷ c) tt) (g.common (t ∷ c) tt)

  ahead_past : {A : Type 0} (test : TokenKind → Bool) (p p' q q' : Parser A) → DependsOnPrefix r z p p' → DependsOnPrefix r z q q' → (s : List Token) → length s ≤ length r → Past r z (ahead test p q s)
  ahead_past test p p' q q' h g [] le = g.past [] le
  ahead_past test p p' q q' h g (t ∷ u) le = one_of_past (test t.kind) (p (t ∷ u)) (q (t ∷ u)) (h.past (t ∷ u) le) (g.past (t ∷ u) le)

  ahead_kept : {A : Type 0} (test : TokenKind → Bool) (p p' q q' : Parser A) → DependsOnPrefix r z p p' → DependsOnPrefix r z q q' → (s : List Token) → Kept (ahead test p q s) (ahead test p' q' s)
  ahead_kept test p p' q q' h g [] = g.same []
  ahead_kept test p p' q q' h g (t ∷ u) = one_of_kept (test t.kind) (p (t ∷ u)) (p' (t ∷ u)) (q (t ∷ u)) (q' (t ∷ u)) (h.same (t ∷ u)) (g.same (t ∷ u))

  pub prefix_ahead : {A : Type 0} (test : TokenKind → Bool) (p p' q q' : Parser A) → DependsOnPrefix r z p p' → DependsOnPrefix r z q q' → DependsOnPrefix r z (ahead test p q) (ahead test p' q')
  prefix_ahead test p p' q q' h g = record { common = ahead_common test p p' q q' h g; past = ahead_past test p p' q q' h g; same = ahead_kept test p p' q q' h g }

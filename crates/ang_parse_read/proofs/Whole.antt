-- The laws of a parser of whole lists, from those of its reader.
use Rattle.std.proofs.Common.{◌≡◌, ℕ, ◌+◌, ◌<◌, ◌≤◌, inl, inr, List, [], ◌∷◌, ◌++◌, length, Result, Ok, Err, ap, sym, subst, ◌∙◌, append_assoc, arith}
use Rattle.std.specs.Prelude.{IfOk, IfErr}
use Rattle.ang_lex.specs.declared.token.Token.{Token}
use Rattle.ang_parse_read.specs.declared.error.ReadError.{ReadError}
use Rattle.ang_parse_read.specs.declared.error.ReadError.TheVariants as e
use Rattle.ang_parse_read.specs.From.{From}
use Rattle.ang_parse_read.specs.Read.{at, deep, Parser, Outcome, and_then}
use Rattle.ang_parse_read.specs.Gives.{Gives, Fails}
use Rattle.ang_parse_read.specs.Law.{Refused, Faulty, finish, all_of}
use Rattle.ang_parse_read.proofs.Outcomes.{Reads}
use Rattle.ang_parse_read.proofs.DependsOnPrefix.{Agree, DependsOnPrefix, Filled}

-- A reader that is exact for a relation: what it reads to the end of the tokens is spelled so, if they are such tokens; what is
-- spelled so is read, with any bound above the number of the tokens; and it looks no further than the token at which it stops.
pub record Exact {A : Type 0} (reader : ℕ → Parser A) (Such : List Token → Type 0) (Read : List Token → A → List Token → Type 0) (Spells : A → List Token → Type 0) : Type 0 where
  pub reads : (n : ℕ) (ts : List Token) → Reads n ts (Read ts) (reader n ts)
  pub whole : (ts : List Token) (x : A) → Such ts → Read ts x [] → Spells x ts
  pub again : (x : A) (ts : List Token) (n : ℕ) → Spells x ts → length ts < n → reader n ts ≡ Ok (x, [])
  pub on_prefix : (r z : List Token) (m n : ℕ) → m ≤ n → DependsOnPrefix r z (reader m) (reader n)

no_rest : (c z : List Token) → [] ≡ c ++ z → Filled c → ⊥
no_rest [] z e f = f
no_rest (k ∷ c) z e f = cc

last_filled : (c : List Token) (t : Token) → Filled (c ++ t ∷ [])
last_filled [] t = tt
last_filled (k ∷ c) t = tt

module _ (A : Type 0) where
  abbrev reading : A → List Token → Outcome A
  reading x s = Ok (x, s)

  same_reading : (x y : A) (s u : List Token) → reading x s ≡ reading y u → (x ≡ y) × (s ≡ u)
  same_reading x y s u e = let f : (x, s) ≡ (y, u) = cc in (ap (λ (p : A × List Token). p.0) f, ap (λ (p : A × List Token). p.1) f)

  -- two outcomes that agree up to a token, of which one is a whole and the other a fault at that token
  clash : (t : Token) (u z : List Token) (x : A) (o : Outcome A) → Agree u z o (Ok (x, [])) → and_then o finish ≡ Err (at (t ∷ u)) → ⊥
  clash t u z x (Ok (y, [])) h e = cc
  clash t u z x (Ok (y, k ∷ v)) (inl h) e = no_rest h.rest z ((same_reading x y [] (h.rest ++ z) h.same).1) h.filled
  clash t u z x (Ok (y, k ∷ v)) (inr h) e = let f : k ∷ v ≡ t ∷ u = cc in omega (arith, ap length f)
  clash t u z x (Err (at v)) (inl h) e = cc (h.same)
  clash t u z x (Err (at v)) (inr h) e = let f : v ≡ t ∷ u = cc in omega (arith, ap length f)
  clash t u z x (Err deep) h e = cc

  module _ (reader : ℕ → Parser A) (Such : List Token → Type 0) (Read : List Token → A → List Token → Type 0) (Spells : A → List Token → Type 0) (exact : Exact reader Such Read Spells) where
    pub all_complete : (x : A) (ts : List Token) → Spells x ts → all_of reader ts ≡ Ok (x, [])
    unfolding all_of
    all_complete x ts h = ap (λ v. and_then v finish) (exact.again x ts (length ts + 1) h (omega arith))

    -- no tokens are spelled in two ways
    pub one_reading : (x y : A) (ts : List Token) → Spells x ts → Spells y ts → x ≡ y
    one_reading x y ts h k = (same_reading x y [] [] (sym (all_complete x ts h) ∙ all_complete y ts k)).0

    found_at : (n : ℕ) (ts : List Token) → Such ts → (o : Outcome A) → Reads n ts (Read ts) o → (p : A × List Token) → and_then o finish ≡ Ok p → Spells p.0 ts
    found_at n ts such (Ok (y, [])) h p e = subst (λ (q : A × List Token). Spells q.0 ts) (let f : (y, []) ≡ p = cc in f) (exact.whole ts y such h.0)
    found_at n ts such (Ok (y, t ∷ u)) h p e = absurd cc
    found_at n ts such (Err f) h p e = absurd cc

    pub all_found : (ts : List Token) → Such ts → (p : A × List Token) → all_of reader ts ≡ Ok p → Spells p.0 ts
    unfolding all_of
    all_found ts such p e = found_at (length ts + 1) ts such (reader (length ts + 1) ts) (exact.reads (length ts + 1) ts) p e

    deep_at : (ts : List Token) (o : Outcome A) → Reads (length ts + 1) ts (Read ts) o → and_then o finish ≡ Err deep → ⊥
    deep_at ts (Ok (y, [])) h e = cc
    deep_at ts (Ok (y, t ∷ u)) h e = cc
    deep_at ts (Err (at s)) h e = cc
    deep_at ts (Err deep) h e = omega arith

    pub never_deep : (ts : List Token) → all_of reader ts ≡ Err deep → ⊥
    unfolding all_of
    never_deep ts e = deep_at ts (reader (length ts + 1) ts) (exact.reads (length ts + 1) ts) e

    from_at : (n : ℕ) (ts : List Token) (o : Outcome A) → Reads n ts (Read ts) o → (s : List Token) → and_then o finish ≡ Err (at s) → From ts s
    from_at n ts (Ok (y, [])) h s e = absurd cc
    from_at n ts (Ok (y, t ∷ u)) h s e = subst (λ v. From ts v) (let f : t ∷ u ≡ s = cc in f) h.1
    from_at n ts (Err (at v)) h s e = subst (λ v. From ts v) (let f : v ≡ s = cc in f) h
    from_at n ts (Err deep) h s e = absurd cc

    begins_none : (ts s : List Token) (t : Token) (u z : List Token) (from : From ts s) → s ≡ t ∷ u → and_then (reader (length ts + 1) ts) finish ≡ Err (at s) → (x : A) → Spells x (from.front ++ t ∷ z) → ⊥
    begins_none ts s t u z from is e x h =
        let c = from.front ++ t ∷ [] in
        let n = length ts + 1 in
        let m = length ts + length (from.front ++ t ∷ z) + 1 in
        let left : ts ≡ c ++ u = from.parts ∙ ap (λ v. from.front ++ v) is ∙ sym (append_assoc from.front (t ∷ []) u) in
        let right : from.front ++ t ∷ z ≡ c ++ z = sym (append_assoc from.front (t ∷ []) z) in
        let on_prefix : DependsOnPrefix u z (reader n) (reader m) = exact.on_prefix u z n m (omega arith) in
        let whole : reader m (from.front ++ t ∷ z) ≡ Ok (x, []) = exact.again x (from.front ++ t ∷ z) m h (omega arith) in
        let agree : Agree u z (reader n (c ++ u)) (reader m (c ++ z)) = on_prefix.common c (last_filled from.front t) in
        clash t u z x (reader n ts) (subst (λ v. Agree u z (reader n v) (Ok (x, []))) (sym left) (subst (λ v. Agree u z (reader n (c ++ u)) v) (ap (reader m) (sym right) ∙ whole) agree)) (e ∙ ap (λ v. Err (at v)) is)

    pub all_refused : (ts s : List Token) → all_of reader ts ≡ Err (at s) → Refused Spells ts s
    unfolding all_of
    all_refused ts s e =
        let from : From ts s = from_at (length ts + 1) ts (reader (length ts + 1) ts) (exact.reads (length ts + 1) ts) s e in
        record {
          from = from;
          none = λ x h. let f : all_of reader ts ≡ Ok (x, []) = all_complete x ts h in cc;
          none_begins = λ t u z is x h. begins_none ts s t u z from is e x h;
        }

    -- ---- in the form of a contract

    given_fault : (f : ReadError) (ts : List Token) → Fails f (all_of reader ts) → Faulty Spells ts f
    given_fault e.Memory ts g = tt
    given_fault (e.Syntax rest) ts g = all_refused ts rest.now g
    given_fault e.Deep ts g = never_deep ts g

    pub given_all : (X : Type 0) (view : X → A) (result : Result X ReadError) (ts : List Token) → Such ts → Gives (λ x. (view x, [])) result (all_of reader ts)
        → IfOk result (λ x. Spells (view x) ts) × ((x : A) → Spells x ts → Gives (λ x. (view x, [])) result (Ok (x, []))) × IfErr result (λ f. Faulty Spells ts f)
    given_all X view (Ok y) ts such g = (all_found ts such (view y, []) g, λ x h. sym (all_complete x ts h) ∙ g, tt)
    given_all X view (Err f) ts such g = (tt, λ x h. subst (λ v. Gives {X = X} (λ x. (view x, [])) (Err f) v) (all_complete x ts h) g, given_fault f ts g)

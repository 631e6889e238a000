-- A length found in the rest, counted from an earlier point.
use Rattle.std.proofs.Common.{◌≡◌, ℕ, suc, ◌+◌, ◌<◌, false, cond, List, ◌∷◌, length, drop, Option, Some, None, refl, ap, ◌∙◌, arith, codes, nat_eq, add-one, get_or, drop-cons}
use Rattle.std.specs.Prelude.{option_map}
use Rattle.std.specs.List.{starts_with}
use Rattle.ang_lex.specs.Tokens.{closing_len}

abbrev pub shifted : ℕ → Option ℕ → Option ℕ
shifted i None = None
shifted i (Some n) = Some (i + n)

pub shifted_zero : (r : Option ℕ) → shifted 0 r ≡ r
shifted_zero None = refl
shifted_zero (Some n) = let e : 0 + n ≡ n = omega arith in ap (λ k. Some k) e

shifted_suc : (i : ℕ) (r : Option ℕ) → shifted i (option_map suc r) ≡ shifted (i + 1) r
shifted_suc i None = refl
shifted_suc i (Some n) = let e : i + suc n ≡ i + 1 + n = omega arith in ap (λ k. Some k) e

closing_behind : (i b : ℕ) (bs : List ℕ) → starts_with nat_eq (b ∷ bs) (codes "*/") ≡ false →
    shifted i (closing_len (b ∷ bs)) ≡ shifted (i + 1) (closing_len bs)
closing_behind i b bs e = ap (λ t. shifted i (cond t (Some 2) (option_map suc (closing_len bs)))) e ∙ shifted_suc i (closing_len bs)

-- where no `*/` stands, the one that comes is found from the next byte
pub closing_later : (i : ℕ) (rest : List ℕ) → i < length rest → starts_with nat_eq (drop i rest) (codes "*/") ≡ false →
    shifted i (closing_len (drop i rest)) ≡ shifted (i + 1) (closing_len (drop (i + 1) rest))
closing_later i rest h e =
    let cut : drop i rest ≡ get_or rest i 0 ∷ drop (i + 1) rest = rw (add-one, drop-cons rest i 0) in
    ap (λ xs. shifted i (closing_len xs)) cut ∙ closing_behind i (get_or rest i 0) (drop (i + 1) rest) (rw cut at e)

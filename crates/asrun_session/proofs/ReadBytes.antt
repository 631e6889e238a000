-- What was read, where the bytes of the reader are known.
use Rattle.std.proofs.Common.{◌≡◌, ℕ, ◌+◌, ◌<◌, ◌≤◌, List, ◌++◌, length, drop, Option, Some, None, sym, ap, subst, ◌∙◌, arith, length-append}
use Rattle.std.specs.Option.{IfSome}
use Rattle.std.specs.Io.KnownBytes.{Consumes, IsAtEnd}
use Rattle.std.proofs.lemmas.List.{append-nil, drop_all, drop_at}
use Rattle.std.proofs.KnownBytes.{Consumes-trans}

-- some bytes more than what was read before
pub read_on : (a b c : Option (List ℕ)) (old new : List ℕ) (count : ℕ) → Consumes a b old
    → (bytes : List ℕ) × (length bytes ≡ count) × (new ≡ old ++ bytes) × Consumes b c bytes → Consumes a c new × (length new ≡ length old + count)
read_on a b c old new count before (bytes, many, is, after) = (
  subst (λ text. Consumes a c text) (sym is) (Consumes-trans a b c old bytes before after),
  ap length is ∙ length-append old bytes ∙ ap (λ n. length old + n) many,
)

pub read_all : (old new : Option (List ℕ)) (text : List ℕ) (limit : ℕ) → Consumes old new text → IsAtEnd new → length text ≤ limit
    → IfSome old (λ bytes. (text ≡ bytes) × (length bytes ≤ limit))
read_all None new text limit c e h = tt
read_all (Some xs) None text limit c e h = absurd c
read_all (Some xs) (Some ys) text limit c e h =
    let same : text ≡ xs = sym (append-nil text) ∙ ap (λ y. text ++ y) (sym e) ∙ sym c in
    (same, rw (← same) h)

pub read_above : (old new : Option (List ℕ)) (text : List ℕ) (limit : ℕ) → Consumes old new text → limit < length text → IfSome old (λ bytes. limit < length bytes)
read_above None new text limit c h = tt
read_above (Some xs) None text limit c h = absurd c
read_above (Some xs) (Some ys) text limit c h = rw (c, length-append) (omega arith)

-- nothing is left of a text within the limit
pub through_whole : (old new : Option (List ℕ)) (text : List ℕ) (limit : ℕ) → Consumes old new text → IsAtEnd new → length text ≤ limit
    → IfSome old (λ bytes. new ≡ Some (drop (limit + 1) bytes))
through_whole None new text limit c e h = tt
through_whole (Some xs) None text limit c e h = absurd c
through_whole (Some xs) (Some ys) text limit c e h =
    let same : text ≡ xs = sym (append-nil text) ∙ ap (λ y. text ++ y) (sym e) ∙ sym c in
    let short : length xs ≤ limit + 1 = rw (← same) (omega (arith, h)) in
    ap (λ y. Some y) (e ∙ sym (drop_all (limit + 1) xs short))

-- what is left of a longer one stands after one byte above the limit
pub through_above : (old new : Option (List ℕ)) (taken : List ℕ) (limit : ℕ) → Consumes old new taken → length taken ≡ limit + 1
    → IfSome old (λ bytes. new ≡ Some (drop (limit + 1) bytes))
through_above None new taken limit c h = tt
through_above (Some xs) None taken limit c h = absurd c
through_above (Some xs) (Some ys) taken limit c h = ap (λ y. Some y) (sym (ap (λ z. drop (limit + 1) z) c ∙ drop_at taken ys (limit + 1) h))

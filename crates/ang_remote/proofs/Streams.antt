-- What reading and writing in pieces comes to.
use Rattle.std.proofs.Common.{◌≡◌, ℕ, ◌+◌, ◌-◌, ◌≤◌, Bool, true, false, List, [], ◌∷◌, ◌++◌, length, take, drop, Option, Some, None, refl, sym, ap, ◌∙◌, arith, append_assoc}
use Rattle.std.specs.Io.KnownBytes.{Appends, Keeps, Consumes}
use Rattle.std.proofs.lemmas.List.{take_rest}
use Rattle.std.proofs.Math.Seq.{take-add, take-length}
use Rattle.ang_remote.specs.Wires.{HasFront, IsWritten}

-- two texts, one after the other
pub appends_both : (a b c : Option (List ℕ)) (xs ys : List ℕ) → Appends a b xs → Appends b c ys → Appends a c (xs ++ ys)
appends_both None b c xs ys p q = tt
appends_both (Some old) None c xs ys p q = absurd p
appends_both (Some old) (Some bs) None xs ys p q = absurd q
appends_both (Some old) (Some bs) (Some cs) xs ys p q = q ∙ ap (λ x. x ++ ys) p ∙ append_assoc old xs ys

-- a front of a text, and more of what is left
pub appends_more : (a b c : Option (List ℕ)) (text : List ℕ) (n count : ℕ)
    → Appends a b (take n text) → Appends b c (take count (take (length text - n) (drop n text))) → Appends a c (take (n + count) text)
appends_more a b c text n count p q =
    let e : take (n + count) text ≡ take n text ++ take count (take (length text - n) (drop n text)) = rw (take_rest text n) (take-add n count text) in
    rw e (appends_both a b c _ _ p q)

pub appends_kept : (a b c : Option (List ℕ)) (xs : List ℕ) → Appends a b xs → Keeps b c → Appends a c xs
appends_kept None b c xs p q = tt
appends_kept (Some old) None c xs p q = absurd p
appends_kept (Some old) (Some bs) None xs p q = absurd q
appends_kept (Some old) (Some bs) (Some cs) xs p q = q ∙ p

-- the whole text, and whether it was flushed
pub flushed : (a b c : Option (List ℕ)) (text : List ℕ) (n : ℕ) (ok : Bool) → Appends a b (take n text) → n ≡ length text → Keeps b c → IsWritten a c text ok
flushed a b c text n true p e k =
    let whole : take n text ≡ text = ap (λ m. take m text) e ∙ take-length text in
    rw (← whole) (appends_kept a b c (take n text) p k)
flushed a b c text n false p e k = record {
  count = n;
  within = rw e (omega arith);
  printed = appends_kept a b c (take n text) p k;
}

pub consumes_none : (a b : Option (List ℕ)) → Keeps a b → Consumes a b []
consumes_none None b p = tt
consumes_none (Some xs) None p = absurd p
consumes_none (Some xs) (Some ys) p = sym p

pub consumes_both : (a b c : Option (List ℕ)) (xs ys : List ℕ) → Consumes a b xs → Consumes b c ys → Consumes a c (xs ++ ys)
consumes_both None b c xs ys p q = tt
consumes_both (Some old) None c xs ys p q = absurd p
consumes_both (Some old) (Some bs) None xs ys p q = absurd q
consumes_both (Some old) (Some bs) (Some cs) xs ys p q = p ∙ ap (λ x. xs ++ x) q ∙ sym (append_assoc xs ys cs)

pub consumes_nothing : (a : Option (List ℕ)) → Consumes a a []
consumes_nothing None = tt
consumes_nothing (Some xs) = refl

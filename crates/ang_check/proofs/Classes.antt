-- Families one after the other, as the headings of their methods.
use Rattle.std.proofs.Common.{◌≡◌, ◌<◌, ◌+◌, refl, ap, sym, ◌∙◌, ℕ, arith, List, [], ◌∷◌, ◌++◌, append_assoc, length, get_or, drop, take}
use Rattle.std.proofs.lemmas.List.{drop_more, length-take-le, take_more}
use Rattle.ang_names_known.specs.declared.names.Family.{Family}
use Rattle.ang_names_known.specs.Items.{each_after}

-- what each family gives by its number
abbrev pub numbered : {B : Type 0} → (ℕ → Family → List B) → List Family → Family → List B
numbered g before f = g (length before) f

numbered_turn : {B : Type 0} (g : ℕ → Family → List B) (fs : List Family) (n : ℕ) (f : Family) → n < length fs → get_or fs n f ≡ f
    → each_after (numbered g) (take n fs) (drop n fs) ≡ g n f ++ each_after (numbered g) (take (n + 1) fs) (drop (n + 1) fs)
numbered_turn g fs n f lt is =
    ap (each_after (numbered g) (take n fs)) (drop_more fs n f lt)
    ∙ ap (λ x. g (length (take n fs)) x ++ each_after (numbered g) (take n fs ++ x ∷ []) (drop (n + 1) fs)) is
    ∙ ap (λ k. g k f ++ each_after (numbered g) (take n fs ++ f ∷ []) (drop (n + 1) fs)) (length-take-le n fs (omega (arith, lt)))
    ∙ ap (λ before. g n f ++ each_after (numbered g) before (drop (n + 1) fs)) (sym (take_more fs n f lt ∙ ap (λ x. take n fs ++ x ∷ []) is))

-- one family more
pub families_turn : {B : Type 0} (g : ℕ → Family → List B) (fs : List Family) (n : ℕ) (f : Family) (all found next : List B)
    → all ≡ found ++ each_after (numbered g) (take n fs) (drop n fs) → n < length fs → get_or fs n f ≡ f → next ≡ found ++ g n f
    → all ≡ next ++ each_after (numbered g) (take (n + 1) fs) (drop (n + 1) fs)
families_turn g fs n f all found next h lt is e =
    h ∙ ap (λ xs. found ++ xs) (numbered_turn g fs n f lt is)
    ∙ sym (append_assoc found (g n f) (each_after (numbered g) (take (n + 1) fs) (drop (n + 1) fs)))
    ∙ ap (λ xs. xs ++ each_after (numbered g) (take (n + 1) fs) (drop (n + 1) fs)) (sym e)

-- A text that is written from its end to its beginning.
use Rattle.std.proofs.Common.{◌≡◌, ℕ, List, [], ◌∷◌, ◌++◌, length, sym, ap, ◌∙◌, append_assoc}
use Rattle.std.specs.Prelude.{reverse, slice_set}
use Rattle.std.proofs.lemmas.List.{reverse-append, reverse-reverse, length-reverse}
use Rattle.std.proofs.Math.Seq.{set-append_seam}
use Rattle.ang_code.specs.declared.instruction.Instruction.{Instruction}

seam : (a : List Instruction) (x : Instruction) (b : List Instruction) → reverse (a ++ x ∷ b) ≡ reverse b ++ (x ∷ reverse a)
seam a x b =
    reverse-append a (x ∷ b) ∙ ap (λ l. l ++ reverse a) (reverse-append (x ∷ []) b) ∙ append_assoc (reverse b) (x ∷ []) (reverse a)

-- one instruction of the text changes
pub patched : (items front rest : List Instruction) (x y : Instruction) (k : ℕ) → reverse items ≡ front ++ x ∷ rest → length rest ≡ k → reverse (slice_set items k y) ≡ front ++ y ∷ rest
patched items front rest x y k e n =
    let whole : items ≡ reverse rest ++ (x ∷ reverse front) = sym (reverse-reverse items) ∙ ap (λ l. reverse l) e ∙ seam front x rest in
    let k_is : k ≡ length (reverse rest) = sym n ∙ sym (length-reverse rest) in
    ap (λ l. reverse (slice_set l k y)) whole
    ∙ ap (λ j. reverse (slice_set (reverse rest ++ (x ∷ reverse front)) j y)) k_is
    ∙ ap (λ l. reverse l) (set-append_seam (reverse rest) x (reverse front) y)
    ∙ seam (reverse rest) y (reverse front)
    ∙ ap (λ l. l ++ (y ∷ reverse (reverse rest))) (reverse-reverse front)
    ∙ ap (λ l. front ++ (y ∷ l)) (reverse-reverse rest)

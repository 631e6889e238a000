-- The fault in a group that is neither parameters nor arguments, as an end of the tokens.
use Rattle.std.proofs.Common.{◌≡◌, ℕ, ◌-◌, ◌≤◌, min, Bool, true, false, List, ◌∷◌, ◌++◌, length, take, drop, Err, refl, ap, sym, subst, ◌∙◌, append_assoc, arith}
use Rattle.std.specs.Prelude.{nat_lt, if◌then◌else◌}
use Rattle.std.proofs.lemmas.List.{length-append, length-take-le, take-append-drop, take_rest}
use Rattle.std.proofs.lemmas.Bool.{ltb-false}
use Rattle.std.proofs.Math.Seq.{drop-append_seam}
use borrow.Author.Tests.{ltb-true}
use Rattle.ang_lex.specs.declared.token.Token.{Token}
use Rattle.ang_lex.specs.declared.token.TokenKind.TheVariants as k
use Rattle.ang_tree.specs.Kinds.{Is}
use Rattle.ang_tree.specs.Declarations.{Params}
use Rattle.ang_parse_read.specs.From.{From}
use Rattle.ang_parse_read.specs.Read.{at}
use Rattle.ang_parse_read.specs.Group.{merged}
use Rattle.ang_parse_read.proofs.Outcomes.{Reads}
use Rattle.ang_parse_expr.proofs.Sound.{IsArgs}
use Rattle.ang_parse_stmt.proofs.SoundParams.{IsParams}
use Rattle.ang_parse.specs.ReadFunction as r
use Rattle.ang_parse.proofs.SoundFunction.{IsWhole, whole_params_reads, whole_args_reads}

-- a fault is in the tokens that were read
pub params_end : (l : ℕ) (left : Token) (a u : List Token) → Is k.LeftParen left → r.whole_params l left a ≡ Err (at u) → From a u
params_end l left a u L e = subst (λ o. Reads l a (IsWhole (IsParams (left ∷ a))) o) e (whole_params_reads l l (omega arith) left L a)

args_end : (l : ℕ) (left : Token) (a u : List Token) → Is k.LeftParen left → r.whole_args l left a ≡ Err (at u) → From a u
args_end l left a u L e = subst (λ o. Reads l a (IsWhole (IsArgs left a)) o) e (whole_args_reads l l (omega arith) left L a)

-- an end of the first `len` tokens, with those after them
end_at : (ts w : List Token) (len left : ℕ) → len ≤ length ts → From (take len ts) w → left ≡ length w → w ++ drop len ts ≡ drop (len - left) ts
end_at ts w len left le h e =
    let whole : ts ≡ h.front ++ (w ++ drop len ts) = sym (take-append-drop len ts) ∙ ap (λ v. v ++ drop len ts) h.parts ∙ append_assoc h.front w (drop len ts) in
    let front : length h.front ≡ len - left = omega (arith, length-take-le len ts le, ap length h.parts, length-append h.front w) in
    sym (drop-append_seam h.front (w ++ drop len ts)) ∙ ap (λ n. drop n (h.front ++ (w ++ drop len ts))) front ∙ ap (drop (len - left)) (sym whole)

later_at : (ts v u : List Token) (len left : ℕ) → len ≤ length ts → From (take len ts) v → From (take len ts) u → left ≡ min (length v) (length u) → (b : Bool) → nat_lt (length u) (length v) ≡ b
    → (if b then u else v) ++ drop len ts ≡ drop (len - left) ts
later_at ts v u len left le f g e true h = end_at ts u len left le g (omega (arith, ltb-true (length u) (length v) h))
later_at ts v u len left le f g e false h = end_at ts v len left le f (omega (arith, ltb-false (length u) (length v) h))

pub later_fault : (l : ℕ) (paren : Token) (ts v u : List Token) (len left : ℕ) → Is k.LeftParen paren → len ≤ length ts → From (take len ts) v → r.whole_args l paren (take len ts) ≡ Err (at u) → left ≡ min (length v) (length u)
    → merged {A = Params} (Err (at v)) (r.whole_args l paren (take len ts)) (drop len ts) ≡ Err (at (take (length ts - (len - left)) (drop (len - left) ts)))
later_fault l paren ts v u len left L le f read e =
    ap (λ o. merged {A = Params} (Err (at v)) o (drop len ts)) read
    ∙ ap (λ s. Err (at s)) (later_at ts v u len left le f (args_end l paren (take len ts) u L read) e (nat_lt (length u) (length v)) refl ∙ sym (take_rest ts (len - left)))

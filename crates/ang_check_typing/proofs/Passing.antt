-- Arguments that are put to their parameters, one by one.
use Rattle.std.proofs.Common.{◌≡◌, refl, ap, sym, ◌∙◌, ℕ, ◌+◌, ◌<◌, suc, List, [], ◌∷◌, ◌++◌, append_assoc, length, get_or, drop, drop-cons, add-one, map as list_map, arith}
use Rattle.std.specs.Prelude.{Ok, Err}
use Rattle.std.proofs.lemmas.List.{append-nil, map-append}
use Rattle.ang_kinds.specs.declared.types.Pass.{Pass}
use Rattle.ang_types.specs.declared.arg_type.ArgType.{ArgType}
use Rattle.ang_types.specs.Ranks.{Ancestors}
use Rattle.ang_typed.specs.Typed as t
use Rattle.ang_check_operators.specs.Refusals.{Typing, ◌>>=◌}
use Rattle.ang_check_operators.specs.Operands.{Operand}
use Rattle.ang_check_typing.specs.Calls.{argument, arguments_for}
use Rattle.ang_check_typing.proofs.SoFar.{all_behind}

abbrev Params : Type 0
Params = List (ArgType × Pass)

-- the item of an index stands in front of what is after it
drop_item : {A : Type 0} (xs : List A) (i : ℕ) (x d : A) → i < length xs → x ≡ get_or xs i d → drop i xs ≡ x ∷ drop (i + 1) xs
drop_item xs i x d lt e = drop-cons xs i d lt ∙ ap (λ y. y ∷ drop (suc i) xs) (sym e) ∙ ap (λ n. x ∷ drop n xs) (sym (add-one i))

-- one more goes from what is left to what there is so far
behind_more : {A : Type 0} (xs : List A) (a : A) (left : Typing (List A)) → all_behind xs (left >>= (λ ys. Ok (a ∷ ys))) ≡ all_behind (xs ++ (a ∷ [])) left
behind_more xs a (Ok ys) = ap Ok (sym (append_assoc xs (a ∷ []) ys))
behind_more xs a (Err r) = refl

-- where no operand is left, no argument comes
none_left : (ancestors : Ancestors) (ps : Params) → arguments_for ancestors ps [] ≡ Ok []
none_left ancestors [] = refl
none_left ancestors (p ∷ ps) = refl

pub arguments_end : {S : Type 0} (v : S → Operand) (ancestors : Ancestors) (ps : Params) (was : List t.Arg) (left : List S) (all : Typing (List t.Arg))
    → length left ≡ 0 → all ≡ all_behind was (arguments_for ancestors ps (list_map v left)) → all ≡ Ok was
arguments_end v ancestors ps was [] all e h = h ∙ ap (all_behind was) (none_left ancestors ps) ∙ ap Ok (append-nil was)
arguments_end v ancestors ps was (s ∷ left) all e h = absurd (omega arith)

pub arguments_turn : {S B : Type 0} (v : S → Operand) (w : B → t.Arg) (ancestors : Ancestors) (ps : Params) (i : ℕ) (p d : ArgType × Pass)
    (s : S) (before left : List S) (b : B) (was now : List B) (all : Typing (List t.Arg))
    → all ≡ all_behind (list_map w was) (arguments_for ancestors (drop i ps) (list_map v before)) → before ≡ s ∷ left
    → i < length ps → p ≡ get_or ps i d → argument ancestors p (v s) ≡ Ok (w b) → now ≡ was ++ (b ∷ [])
    → all ≡ all_behind (list_map w now) (arguments_for ancestors (drop (i + 1) ps) (list_map v left))
arguments_turn v w ancestors ps i p d s before left b was now all h taken lt is e grown =
    h ∙ ap (λ xs. all_behind (list_map w was) (arguments_for ancestors (drop i ps) (list_map v xs))) taken
    ∙ ap (λ qs. all_behind (list_map w was) (arguments_for ancestors qs (v s ∷ list_map v left))) (drop_item ps i p d lt is)
    ∙ ap (λ (j : Typing t.Arg). all_behind (list_map w was) (j >>= (λ y. arguments_for ancestors (drop (i + 1) ps) (list_map v left) >>= (λ ys. Ok (y ∷ ys))))) e
    ∙ behind_more (list_map w was) (w b) (arguments_for ancestors (drop (i + 1) ps) (list_map v left))
    ∙ ap (λ xs. all_behind xs (arguments_for ancestors (drop (i + 1) ps) (list_map v left))) (sym (map-append w was (b ∷ [])) ∙ sym (ap (list_map w) grown))

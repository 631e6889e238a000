-- Two lists beside one another that are as long.
use Rattle.std.specs.Prelude.{ℕ, zero, suc, ◌≡◌, ◌==◌, ◌≤◌, List, [], ◌∷◌, ◌++◌, length, slice_get, Option, Some, None}
use Rattle.std.proofs.Common.{arith, refl, sym, ap}
use Rattle.std.proofs.Math.Dec.{eqb-suc-zero}
use Rattle.ang_types.specs.declared.candidate.Candidate.{Candidate}
use Rattle.ang_names_known.specs.Items.{is_empty}
use Rattle.ang_check_uses.specs.declared.callables.CallTarget.{CallTarget}
use Rattle.ang_check_uses.specs.declared.uses.Callable.{Callable}
use Rattle.ang_check_uses.specs.Callables.{callable, callables}
use Rattle.ang_check_uses.specs.Uses.{candidates_of}

pub candidates_are : (hs : List CallTarget) (cs : List Candidate) → length hs ≡ length cs → candidates_of (callables hs cs) ≡ cs
candidates_are [] [] e = refl
candidates_are [] (c ∷ cs) e = absurd (omega (arith, e))
candidates_are (h ∷ hs) [] e = absurd (omega (arith, e))
candidates_are (h ∷ hs) (c ∷ cs) e = ap (λ rest. c ∷ rest) (candidates_are hs cs (omega (arith, e)))

pub none_are : (hs : List CallTarget) (cs : List Candidate) → length hs ≡ length cs → is_empty (callables hs cs) ≡ (length hs == 0)
none_are [] cs e = refl
none_are (h ∷ hs) [] e = absurd (omega (arith, e))
none_are (h ∷ hs) (c ∷ cs) e = sym (eqb-suc-zero (length hs))

pub one_more : (hs : List CallTarget) (cs : List Candidate) (h : CallTarget) (c : Candidate) → length hs ≡ length cs
    → callables (hs ++ h ∷ []) (cs ++ c ∷ []) ≡ callables hs cs ++ callable h c ∷ []
one_more [] [] h c e = refl
one_more [] (d ∷ cs) h c e = absurd (omega (arith, e))
one_more (g ∷ hs) [] h c e = absurd (omega (arith, e))
one_more (g ∷ hs) (d ∷ cs) h c e = ap (λ rest. callable g d ∷ rest) (one_more hs cs h c (omega (arith, e)))

-- both by place, where both are there
abbrev pub joined_at : Option CallTarget → Option Candidate → Option Callable
joined_at None c = None
joined_at (Some h) None = None
joined_at (Some h) (Some c) = Some (callable h c)

pub one_at : (hs : List CallTarget) (cs : List Candidate) (i : ℕ) → length hs ≡ length cs
    → slice_get (callables hs cs) i ≡ joined_at (slice_get hs i) (slice_get cs i)
one_at [] cs i e = refl
one_at (h ∷ hs) [] i e = absurd (omega (arith, e))
one_at (h ∷ hs) (c ∷ cs) zero e = refl
one_at (h ∷ hs) (c ∷ cs) (suc i) e = one_at hs cs i (omega (arith, e))

pub none_at : (hs : List CallTarget) (cs : List Candidate) (i : ℕ) → length hs ≤ i → slice_get (callables hs cs) i ≡ None
none_at [] cs i past = refl
none_at (h ∷ hs) [] i past = refl
none_at (h ∷ hs) (c ∷ cs) zero past = absurd (omega (arith, past))
none_at (h ∷ hs) (c ∷ cs) (suc i) past = none_at hs cs i (omega (arith, past))

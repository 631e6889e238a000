-- Ranks so far, in front of those that follow.
use Rattle.std.specs.Prelude.{ℕ, Bool, true, false, ◌≡◌, ◌≢◌, List, [], ◌∷◌, ◌++◌, length, map, is_some, Option, Some, None}
use Rattle.std.proofs.Common.{arith, refl, ap, ◌∙◌}
use Rattle.std.proofs.lemmas.Option.{same_Some}
use Rattle.ang_kinds.specs.declared.types.Pass.TheVariants.{RefInOut}
use Rattle.ang_kinds.specs.declared.types.Param.{Param}
use Rattle.ang_types.specs.declared.arg_type.ArgType.{ArgType}
use Rattle.ang_types.specs.Overloads.{Params}
use Rattle.ang_types.specs.Ranks.{Ancestors, argument_rank}
use Rattle.ang_view.specs.Registration.{RegistrationList}
use Rattle.ang_names_known.specs.declared.names.ScriptParameter.{ScriptParameter}
use Rattle.ang_check_contest.specs.Host.{host_type, host_parameters, in_front as param_in_front}
use Rattle.ang_names_known.specs.Lookup.{type_and_pass}
use Rattle.ang_check_contest.specs.Contest.{with_rank, ranks_of, has_lower, lesser_ranks}
use Rattle.ang_check_contest.specs.Scores.{host_method_ranks, host_rank, host_ranks, in_front, ranks_if}

pub no_ranks : (l : Ancestors) (params : List ScriptParameter) (args : List ArgType) → length params ≢ length args → ranks_of l (map type_and_pass params) args ≡ None
no_ranks l [] [] ne = absurd (ne refl)
no_ranks l [] (a ∷ args) ne = refl
no_ranks l (p ∷ params) [] ne = refl
no_ranks l (p ∷ params) (a ∷ args) ne =
    ap (with_rank (argument_rank l p.written.ty p.pass a)) (no_ranks l params args (λ e. ne (omega (arith, e)))) ∙ none_left (argument_rank l p.written.ty p.pass a)
  where
    none_left : (o : Option ℕ) → with_rank o None ≡ None
    none_left None = refl
    none_left (Some r) = refl

pub no_host_ranks : (l : Ancestors) (V : RegistrationList) (params : List Param) (args : List ArgType) → length params ≢ length args → host_ranks l V params args ≡ None
no_host_ranks l V [] [] ne = absurd (ne refl)
no_host_ranks l V [] (a ∷ args) ne = refl
no_host_ranks l V (p ∷ params) [] ne = refl
no_host_ranks l V (p ∷ params) (a ∷ args) ne =
    ap (with_rank (host_rank l (host_type V p.ty) p.pass a)) (no_host_ranks l V params args (λ e. ne (omega (arith, e)))) ∙ none_left (host_rank l (host_type V p.ty) p.pass a)
  where
    none_left : (o : Option ℕ) → with_rank o None ≡ None
    none_left None = refl
    none_left (Some r) = refl

pub one_more_rank : (ranks : List ℕ) (r : ℕ) (o : Option (List ℕ)) → in_front ranks (with_rank (Some r) o) ≡ in_front (ranks ++ r ∷ []) o
one_more_rank ranks r None = refl
one_more_rank ranks r (Some others) = ap Some (split ranks)
  where
    split : (xs : List ℕ) → xs ++ r ∷ others ≡ (xs ++ r ∷ []) ++ others
    split [] = refl
    split (x ∷ xs) = ap (λ ys. x ∷ ys) (split xs)

-- where all types are seen the ranks are those of the parameters that are meant
pub seen_ranks : (l : Ancestors) (V : RegistrationList) (params : List Param) (args : List ArgType) (seen : Params) → host_parameters V params ≡ Some seen
    → host_ranks l V params args ≡ ranks_of l seen args
seen_ranks l V [] args [] e = same args
  where
    same : (args : List ArgType) → host_ranks l V [] args ≡ ranks_of l [] args
    same [] = refl
    same (a ∷ args) = refl
seen_ranks l V [] args (s ∷ seen) e = cc
seen_ranks l V (p ∷ params) args seen e = by (seen_ranks l V params) (host_type V p.ty) refl (host_parameters V params) refl e
  where
    by : ((args : List ArgType) (rest : Params) → host_parameters V params ≡ Some rest → host_ranks l V params args ≡ ranks_of l rest args)
        → (t : Option ArgType) → host_type V p.ty ≡ t → (o : Option Params) → host_parameters V params ≡ o → param_in_front t p.pass o ≡ Some seen
        → host_ranks l V (p ∷ params) args ≡ ranks_of l seen args
    by ih None te o oe e = cc
    by ih (Some t) te None oe e = cc
    by ih (Some t) te (Some rest) oe e =
        let are : (t, p.pass) ∷ rest ≡ seen = same_Some ((t, p.pass) ∷ rest) seen e in
        with_args args ∙ ap (λ ps. ranks_of l ps args) are
      where
        with_args : (args : List ArgType) → host_ranks l V (p ∷ params) args ≡ ranks_of l ((t, p.pass) ∷ rest) args
        with_args [] = refl
        with_args (a ∷ args) = λ i. with_rank (host_rank l (te i) p.pass a) (ih args rest oe i)

pub seen_method_ranks : (l : Ancestors) (V : RegistrationList) (receiver : ArgType) (params : List Param) (args : List ArgType) (seen : Params) → host_parameters V params ≡ Some seen
    → host_method_ranks l V receiver params args ≡ ranks_of l ((receiver, RefInOut) ∷ seen) args
seen_method_ranks l V receiver params [] seen e = refl
seen_method_ranks l V receiver params (a ∷ args) seen e = ap (with_rank (argument_rank l receiver RefInOut a)) (seen_ranks l V params args seen e)

pub lower_none : (ranks others : List ℕ) → length others ≡ 0 → has_lower ranks others ≡ false
lower_none [] others e = refl
lower_none (r ∷ ranks) [] e = refl
lower_none (r ∷ ranks) (o ∷ others) e = absurd (omega (arith, e))

pub lesser_none : (ranks others : List ℕ) → length others ≡ 0 → lesser_ranks ranks others ≡ []
lesser_none [] others e = refl
lesser_none (r ∷ ranks) [] e = refl
lesser_none (r ∷ ranks) (o ∷ others) e = absurd (omega (arith, e))

pub nothing_more : (xs ys : List ℕ) → ys ≡ [] → xs ++ ys ≡ xs
nothing_more [] ys e = e
nothing_more (x ∷ xs) ys e = ap (λ rest. x ∷ rest) (nothing_more xs ys e)

pub none_in_front : (o : Option (List ℕ)) → in_front [] o ≡ o
none_in_front None = refl
none_in_front (Some ranks) = refl

pub some_if : (b : Bool) (ranks : List ℕ) → b ≡ is_some (ranks_if b ranks)
some_if true ranks = refl
some_if false ranks = refl

-- A method that is taken in by the numbers of its parameters' kinds is taken in by its parameters.
use Rattle.std.proofs.Common.{◌≡◌, refl, ℕ, true, false, is_some, List, [], ◌∷◌, map, Option, Some, None, option_map}
use Rattle.std.proofs.lemmas.Option.{same_Some}
use Rattle.ang_types.specs.declared.arg_type.ArgType.{ArgType}
use Rattle.ang_types.specs.Overloads.{Params}
use Rattle.ang_types.specs.Ranks.{Ancestors}
use Rattle.ang_typed.specs.declared.expression.TypedCallee.TheVariants as callee
use Rattle.ang_names_known.specs.Kinds.{Kind, Says, kinds_at, numbered, params_on}
use Rattle.ang_names_known.specs.Lookup.{FoundMethod}
use Rattle.ang_check_contest.specs.declared.score.Contender.TheVariants as contender
use Rattle.ang_check_contest.specs.Contest.{Standing, after, entered}
use Rattle.ang_check_uses.specs.Contenders.{entry_in}
use Rattle.ang_check_typing.specs.declared.methods.Dispatch.{Dispatch}
use Rattle.ang_check_typing.specs.declared.methods.Dispatch.TheVariants as dispatch
use Rattle.ang_check_typing.specs.Methods.{callable_by, can_be_called, method_at}

-- what can't be called so is not taken in
pub not_called : (d : Dispatch) (n k : ℕ) (o : Option FoundMethod) → can_be_called d o ≡ false → entry_in (contender.Method k) (method_at d n o) ≡ []
not_called dispatch.Virtual n k o e = cc
not_called dispatch.Direct n k None e = refl
not_called dispatch.Direct n k (Some x) e = by x.method.body e
  where
    by : (b : Option ℕ) → is_some b ≡ false → entry_in (contender.Method k) (callable_by n x (option_map callee.Own b)) ≡ []
    by None e = refl
    by (Some b) e = cc

-- where there is no row there is no method
pub not_told : (d : Dispatch) (n k : ℕ) (o : Option FoundMethod) (kinds : List Kind)
    → Says n kinds None (option_map (λ (m : FoundMethod). params_on n m.method) o) → entry_in (contender.Method k) (method_at d n o) ≡ []
not_told d n k None kinds says = refl
not_told d n k (Some x) kinds says = cc

-- one that can be called so is taken in by its row
pub method_told : (l : Ancestors) (args : List ArgType) (d : Dispatch) (n k : ℕ) (o : Option FoundMethod) (kinds : List Kind) (row : List ℕ) (old new : Standing)
    → can_be_called d o ≡ true
    → Says n kinds (Some row) (option_map (λ (m : FoundMethod). params_on n m.method) o)
    → ((params : Params) → kinds_at (numbered n kinds) row ≡ map Some params → new ≡ entered l args old (contender.Method k) params)
    → new ≡ after l args old (entry_in (contender.Method k) (method_at d n o))
method_told l args d n k None kinds row old new called says enters = cc
method_told l args d n k (Some x) kinds row old new called says enters = by d called
  where
    told : new ≡ entered l args old (contender.Method k) (params_on n x.method)
    told = enters (params_on n x.method) (same_Some (kinds_at (numbered n kinds) row) (map Some (params_on n x.method)) says)

    directly : (b : Option ℕ) → is_some b ≡ true → new ≡ after l args old (entry_in (contender.Method k) (callable_by n x (option_map callee.Own b)))
    directly None e = cc
    directly (Some b) e = told

    by : (d : Dispatch) → can_be_called d (Some x) ≡ true → new ≡ after l args old (entry_in (contender.Method k) (method_at d n (Some x)))
    by dispatch.Virtual e = told
    by dispatch.Direct e = directly x.method.body e

-- Methods that a contest takes in by their places.
use Rattle.std.proofs.Common.{◌≡◌, ◌<◌, ◌-◌, length, arith, refl, ap, sym, ◌∙◌, ℕ, ◌+◌, suc, zero, Bool, true, false, cond, List, [], ◌∷◌, ◌++◌, drop, add-one, slice_get, Option, Some, None, option_map, option_to_list}
use Rattle.std.proofs.lemmas.List.{length-drop}
use Rattle.ang_kinds.specs.declared.error.ErrorKind.{ErrorKind}
use Rattle.ang_kinds.specs.declared.error.ErrorKind.TheVariants as kind
use Rattle.ang_types.specs.declared.arg_type.ArgType.{ArgType}
use Rattle.ang_types.specs.declared.arg_type.ArgType.TheVariants.{Object}
use Rattle.ang_types.specs.Best.{best_of}
use Rattle.ang_types.specs.Ranks.{Ancestors}
use Rattle.ang_typed.specs.declared.expression.TypedCallee.TheVariants as callee
use Rattle.ang_names_known.specs.Items.{is_empty}
use Rattle.ang_names_known.specs.Lookup.{FoundMethod}
use Rattle.ang_check_contest.specs.declared.score.Contender.TheVariants as contender
use Rattle.ang_check_uses.specs.declared.uses.Callable.{Callable}
use Rattle.ang_check_uses.specs.declared.uses.Resolution.TheVariants as resolution
use Rattle.ang_check_contest.specs.Contest.{Standing, after, fresh, is_none_viable, outcome_of, placed}
use Rattle.ang_check_uses.specs.Contenders.{callables_by, entries_by, entry_in, meant_by}
use Rattle.ang_check_uses.specs.Uses.{best_method, best_of_those, candidates_of, is_none_viable as none_viable, unmatched}
use Rattle.ang_check_uses.proofs.Contests.{after_append, empty_none, meant_best, none_best}
use Rattle.ang_check_typing.specs.declared.methods.Dispatch.{Dispatch}
use Rattle.ang_check_typing.specs.declared.methods.Dispatch.TheVariants as dispatch
use Rattle.ang_check_typing.specs.Calls.{direct_by}
use Rattle.ang_check_typing.specs.Methods.{callable_as, callable_by, callables_as, method_at, method_by, method_entries}

-- ---- what is left of a list

abbrev tail : {A : Type 0} → List A → List A
tail [] = []
tail (x ∷ xs) = xs

drop_tail : {A : Type 0} (xs : List A) (k : ℕ) → drop (suc k) xs ≡ tail (drop k xs)
drop_tail [] zero = refl
drop_tail [] (suc k) = refl
drop_tail (x ∷ xs) zero = refl
drop_tail (x ∷ xs) (suc k) = drop_tail xs k

get_left : {A : Type 0} (xs : List A) (k : ℕ) → slice_get xs k ≡ slice_get (drop k xs) 0
get_left [] zero = refl
get_left [] (suc k) = refl
get_left (x ∷ xs) zero = refl
get_left (x ∷ xs) (suc k) = get_left xs k

first_left : {A : Type 0} (all rest : List A) (x : A) (k : ℕ) → x ∷ rest ≡ drop k all → slice_get all k ≡ Some x
first_left all rest x k e = get_left all k ∙ ap (λ xs. slice_get xs 0) (sym e)

rest_left : {A : Type 0} (all rest : List A) (x : A) (k : ℕ) → x ∷ rest ≡ drop k all → rest ≡ drop (k + 1) all
rest_left all rest x k e = sym (ap (λ j. drop j all) (add-one k) ∙ drop_tail all k ∙ ap tail (sym e))

-- ---- methods by their places

-- from place k on, by what a place of all methods names
entries_from : (d : Dispatch) (n : ℕ) (all : List FoundMethod) (k : ℕ) (xs : List FoundMethod) → xs ≡ drop k all
    → method_entries d n k xs ≡ entries_by (method_by d n all) (placed contender.Method k xs)
entries_from d n all k [] e = refl
entries_from d n all k (x ∷ xs) e =
    ap (λ o. entry_in (contender.Method k) (method_at d n o) ++ method_entries d n (k + 1) xs) (sym (first_left all xs x k e))
    ∙ ap (λ es. entry_in (contender.Method k) (method_at d n (slice_get all k)) ++ es) (entries_from d n all (k + 1) xs (rest_left all xs x k e))

none_as : (d : Dispatch) (n : ℕ) → callables_as d n [] ≡ []
none_as dispatch.Virtual n = refl
none_as dispatch.Direct n = refl

own_as : (n : ℕ) (x : FoundMethod) (o : Option ℕ) → direct_by n x o ≡ option_to_list (callable_by n x (option_map callee.Own o))
own_as n x None = refl
own_as n x (Some body) = refl

first_as : (d : Dispatch) (n : ℕ) (x : FoundMethod) (xs : List FoundMethod)
    → callables_as d n (x ∷ xs) ≡ option_to_list (callable_as d n x) ++ callables_as d n xs
first_as dispatch.Virtual n x xs = refl
first_as dispatch.Direct n x xs = ap (λ cs. cs ++ callables_as dispatch.Direct n xs) (own_as n x x.method.body)

callables_from : (d : Dispatch) (n : ℕ) (all : List FoundMethod) (k : ℕ) (xs : List FoundMethod) → xs ≡ drop k all
    → callables_by (method_by d n all) (placed contender.Method k xs) ≡ callables_as d n xs
callables_from d n all k [] e = sym (none_as d n)
callables_from d n all k (x ∷ xs) e =
    ap (λ o. option_to_list (method_at d n o) ++ callables_by (method_by d n all) (placed contender.Method (k + 1) xs)) (first_left all xs x k e)
    ∙ ap (λ cs. option_to_list (callable_as d n x) ++ cs) (callables_from d n all (k + 1) xs (rest_left all xs x k e))
    ∙ sym (first_as d n x xs)

-- what is left from a place on begins with the method there
left_at : (d : Dispatch) (n : ℕ) (all : List FoundMethod) (k : ℕ) → k < length all
    → method_entries d n k (drop k all) ≡ entry_in (contender.Method k) (method_at d n (slice_get all k)) ++ method_entries d n (k + 1) (drop (k + 1) all)
left_at d n all k lt = by (drop k all) refl
  where
    by : (rest : List FoundMethod) → rest ≡ drop k all
        → method_entries d n k rest ≡ entry_in (contender.Method k) (method_at d n (slice_get all k)) ++ method_entries d n (k + 1) (drop (k + 1) all)
    by [] e =
        let none : length (drop k all) ≡ 0 = sym (ap (λ (xs : List FoundMethod). length xs) e) in
        let left : length (drop k all) ≡ length all - k = length-drop k all in
        absurd (omega (arith, none, left, lt))
    by (x ∷ xs) e =
        (λ i. entry_in (contender.Method k) (method_at d n (sym (first_left all xs x k e) i)) ++ method_entries d n (k + 1) (rest_left all xs x k e i))

-- one method more is taken in
pub one_more : (l : Ancestors) (args : List ArgType) (d : Dispatch) (n : ℕ) (all : List FoundMethod) (k : ℕ) (s new : Standing) → k < length all
    → new ≡ after l args s (entry_in (contender.Method k) (method_at d n (slice_get all k)))
    → after l args new (method_entries d n (k + 1) (drop (k + 1) all)) ≡ after l args s (method_entries d n k (drop k all))
one_more l args d n all k s new lt e =
    let one = entry_in (contender.Method k) (method_at d n (slice_get all k)) in
    let others = method_entries d n (k + 1) (drop (k + 1) all) in
    ap (λ s. after l args s others) e ∙ sym (after_append l args s one others) ∙ sym (ap (after l args s) (left_at d n all k lt))

-- ---- what comes of it

by_places : (l : Ancestors) (args : List ArgType) (d : Dispatch) (n : ℕ) (xs : List FoundMethod)
    → after l args fresh (method_entries d n 0 xs) ≡ after l args fresh (entries_by (method_by d n xs) (placed contender.Method 0 xs))
by_places l args d n xs = ap (after l args fresh) (entries_from d n xs 0 xs refl)

best_is : (l : Ancestors) (args : List ArgType) (unviable : ErrorKind) (d : Dispatch) (n : ℕ) (xs : List FoundMethod)
    → meant_by (method_by d n xs) unviable (outcome_of (after l args fresh (method_entries d n 0 xs))) ≡ best_of_those l unviable (callables_as d n xs) args
best_is l args unviable d n xs =
    ap (λ s. meant_by (method_by d n xs) unviable (outcome_of s)) (by_places l args d n xs)
    ∙ meant_best l args unviable (method_by d n xs) (placed contender.Method 0 xs)
    ∙ ap (λ cs. best_of_those l unviable cs args) (callables_from d n xs 0 xs refl)

none_is : (l : Ancestors) (args : List ArgType) (d : Dispatch) (n : ℕ) (xs : List FoundMethod)
    → (after l args fresh (method_entries d n 0 xs)).empty ≡ is_empty (callables_as d n xs)
none_is l args d n xs =
    ap (λ (s : Standing). s.empty) (by_places l args d n xs)
    ∙ empty_none l args (method_by d n xs) (placed contender.Method 0 xs)
    ∙ ap (λ (cs : List Callable). is_empty cs) (callables_from d n xs 0 xs refl)

pub viable_is : (l : Ancestors) (args : List ArgType) (d : Dispatch) (n : ℕ) (xs : List FoundMethod) (s : Standing)
    → s ≡ after l args fresh (method_entries d n 0 xs) → is_none_viable (outcome_of s) ≡ none_viable (best_of l (candidates_of (callables_as d n xs)) args)
viable_is l args d n xs s e =
    ap (λ r. is_none_viable (outcome_of r)) (e ∙ by_places l args d n xs)
    ∙ none_best l args (method_by d n xs) (placed contender.Method 0 xs)
    ∙ ap (λ cs. none_viable (best_of l (candidates_of cs) args)) (callables_from d n xs 0 xs refl)

-- where no method can be called so
pub no_method : (l : Ancestors) (d : Dispatch) (n : ℕ) (c : Bool) (xs : List FoundMethod) (args : List ArgType) (s : Standing)
    → s ≡ after l (Object n c ∷ args) fresh (method_entries d n 0 xs) → s.empty ≡ true
    → resolution.Refused kind.UnknownName ≡ best_method l (callables_as d n xs) n c args
unfolding best_method
no_method l d n c xs args s e none =
    let cs = callables_as d n xs in
    let all : is_empty cs ≡ true = sym (none_is l (Object n c ∷ args) d n xs) ∙ sym (ap (λ (r : Standing). r.empty) e) ∙ none in
    sym (ap (λ b. cond b (resolution.Refused kind.UnknownName) (best_of_those l (unmatched l cs n c args) cs (Object n c ∷ args))) all)

pub method_is : (l : Ancestors) (d : Dispatch) (n : ℕ) (c : Bool) (xs : List FoundMethod) (args : List ArgType) (s : Standing)
    → s ≡ after l (Object n c ∷ args) fresh (method_entries d n 0 xs) → s.empty ≡ false
    → meant_by (method_by d n xs) (unmatched l (callables_as d n xs) n c args) (outcome_of s) ≡ best_method l (callables_as d n xs) n c args
unfolding best_method
method_is l d n c xs args s e some =
    let cs = callables_as d n xs in
    let all : is_empty cs ≡ false = sym (none_is l (Object n c ∷ args) d n xs) ∙ sym (ap (λ (r : Standing). r.empty) e) ∙ some in
    ap (λ r. meant_by (method_by d n xs) (unmatched l cs n c args) (outcome_of r)) e
    ∙ best_is l (Object n c ∷ args) (unmatched l cs n c args) d n xs
    ∙ sym (ap (λ b. cond b (resolution.Refused kind.UnknownName) (best_of_those l (unmatched l cs n c args) cs (Object n c ∷ args))) all)

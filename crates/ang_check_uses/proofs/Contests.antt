-- Contests among functions that a call can mean.
use Rattle.std.specs.Prelude.{ℕ, Bool, true, false, ◌≡◌, ◌≢◌, ◌<◌, List, [], ◌∷◌, ◌++◌, length, map, slice_get, option_to_list, Option, Some, None}
use Rattle.std.specs.List.{flat_map}
use Rattle.std.proofs.Common.{arith, refl, ap, sym, zero, suc, ◌∙◌}
use Rattle.ang_kinds.specs.declared.error.ErrorKind.{ErrorKind}
use Rattle.ang_types.specs.declared.arg_type.ArgType.{ArgType}
use Rattle.ang_types.specs.declared.candidate.Pick.{Pick}
use Rattle.ang_types.specs.declared.candidate.Pick.TheVariants as pick
use Rattle.ang_types.specs.Best.{best_of}
use Rattle.ang_types.specs.Overloads.{Params}
use Rattle.ang_types.specs.Ranks.{Ancestors}
use Rattle.ang_types.proofs.BestLaws.{best_of-says}
use Rattle.ang_names_known.specs.Items.{is_empty}
use Rattle.ang_check_contest.specs.declared.score.Contender.{Contender}
use Rattle.ang_check_uses.specs.declared.uses.Callable.{Callable}
use Rattle.ang_check_contest.specs.Contest.{Entry, Standing, fresh, met, compared, entered_viable, entered_with, entered, after, outcome_of, candidate_of, chosen, chosen_at, is_none_viable, ranks_of, has_lower, placed}
use Rattle.ang_check_uses.specs.Contenders.{entry_in, entries_by, callables_by, meant_by}
use Rattle.ang_check_uses.specs.Uses.{best_of_those, called_at, candidates_of, picked, is_none_viable as none_viable}
use Rattle.ang_check_contest.proofs.ContestLaws.{outcome_best, map_long}

-- ---- one list after another

pub after_append : (l : Ancestors) (args : List ArgType) (s : Standing) (xs ys : List Entry) → after l args s (xs ++ ys) ≡ after l args (after l args s xs) ys
after_append l args s [] ys = refl
after_append l args s (x ∷ xs) ys = after_append l args (entered l args s x.contender x.params) xs ys

split : {A : Type 0} → (xs ys zs : List A) → (xs ++ ys) ++ zs ≡ xs ++ (ys ++ zs)
split [] ys zs = refl
split (x ∷ xs) ys zs = ap (λ rest. x ∷ rest) (split xs ys zs)

pub entries_append : (by : Contender → Option Callable) (ts us : List Contender) → entries_by by (ts ++ us) ≡ entries_by by ts ++ entries_by by us
entries_append by [] us = refl
entries_append by (t ∷ ts) us = ap (λ rest. entry_in t (by t) ++ rest) (entries_append by ts us) ∙ sym (split (entry_in t (by t)) (entries_by by ts) (entries_by by us))

pub callables_append : (by : Contender → Option Callable) (ts us : List Contender) → callables_by by (ts ++ us) ≡ callables_by by ts ++ callables_by by us
callables_append by [] us = refl
callables_append by (t ∷ ts) us = ap (λ rest. option_to_list (by t) ++ rest) (callables_append by ts us) ∙ sym (split (option_to_list (by t)) (callables_by by ts) (callables_by by us))

pub entries_map : {A : Type 0} → (by : Contender → Option Callable) (make : A → Contender) (xs : List A) → entries_by by (map make xs) ≡ flat_map (λ x. entry_in (make x) (by (make x))) xs
entries_map by make [] = refl
entries_map by make (x ∷ xs) = ap (λ rest. entry_in (make x) (by (make x)) ++ rest) (entries_map by make xs)

pub callables_map : {A : Type 0} → (by : Contender → Option Callable) (make : A → Contender) (xs : List A) → callables_by by (map make xs) ≡ flat_map (λ x. option_to_list (by (make x))) xs
callables_map by make [] = refl
callables_map by make (x ∷ xs) = ap (λ rest. option_to_list (by (make x)) ++ rest) (callables_map by make xs)

-- ---- whether there is any

entered_some : (l : Ancestors) (args : List ArgType) (s : Standing) (t : Contender) (ps : Params) → (entered l args s t ps).empty ≡ false
unfolding entered
entered_some l args s t ps = with_ranks (ranks_of l ps args)
  where
    met_some : (front : Option Contender) → (met s t front).empty ≡ false
    met_some None = refl
    met_some (Some first) = refl

    compared_some : (rs ls : List ℕ) (low high : Bool) → (compared s t rs ls low high).empty ≡ false
    compared_some rs ls true true = refl
    compared_some rs ls true false = refl
    compared_some rs ls false true = refl
    compared_some rs ls false false = met_some s.front

    viable_some : (rs : List ℕ) (least : Option (List ℕ)) → (entered_viable s t rs least).empty ≡ false
    viable_some rs None = refl
    viable_some rs (Some ls) = compared_some rs ls (has_lower rs ls) (has_lower ls rs)

    with_ranks : (o : Option (List ℕ)) → (entered_with s t o).empty ≡ false
    with_ranks None = refl
    with_ranks (Some rs) = viable_some rs s.least

after_some : (l : Ancestors) (args : List ArgType) (s : Standing) (es : List Entry) → s.empty ≡ false → (after l args s es).empty ≡ false
after_some l args s [] e = e
after_some l args s (x ∷ es) e = after_some l args (entered l args s x.contender x.params) es (entered_some l args s x.contender x.params)

pub empty_after : (l : Ancestors) (args : List ArgType) (es : List Entry) → (after l args fresh es).empty ≡ is_empty es
empty_after l args [] = refl
empty_after l args (x ∷ es) = after_some l args (entered l args fresh x.contender x.params) es (entered_some l args fresh x.contender x.params)

empty_as : (by : Contender → Option Callable) (ts : List Contender) → is_empty (entries_by by ts) ≡ is_empty (callables_by by ts)
empty_as by [] = refl
empty_as by (t ∷ ts) = at (empty_as by ts) (by t)
  where
    at : is_empty (entries_by by ts) ≡ is_empty (callables_by by ts) → (o : Option Callable) → is_empty (entry_in t o ++ entries_by by ts) ≡ is_empty (option_to_list o ++ callables_by by ts)
    at rest None = rest
    at rest (Some c) = refl

-- None was entered just where none can be meant.
pub empty_none : (l : Ancestors) (args : List ArgType) (by : Contender → Option Callable) (ts : List Contender)
    → (after l args fresh (entries_by by ts)).empty ≡ is_empty (callables_by by ts)
empty_none l args by ts = empty_after l args (entries_by by ts) ∙ empty_as by ts

-- ---- which is the best

pub candidates_as : (by : Contender → Option Callable) (ts : List Contender) → map candidate_of (entries_by by ts) ≡ candidates_of (callables_by by ts)
candidates_as by [] = refl
candidates_as by (t ∷ ts) = at (candidates_as by ts) (by t)
  where
    at : map candidate_of (entries_by by ts) ≡ candidates_of (callables_by by ts) → (o : Option Callable)
        → map candidate_of (entry_in t o ++ entries_by by ts) ≡ candidates_of (option_to_list o ++ callables_by by ts)
    at rest None = rest
    at rest (Some c) = ap (λ cs. c.candidate ∷ cs) rest

abbrev Names : (Contender → Option Callable) → Option Entry → Option Callable → Type 0
Names by None None = Unit {0}
Names by None (Some c) = ⊥
Names by (Some e) None = ⊥
Names by (Some e) (Some c) = by e.contender ≡ Some c

names_at : (by : Contender → Option Callable) (ts : List Contender) (i : ℕ) → Names by (slice_get (entries_by by ts) i) (slice_get (callables_by by ts) i)
names_at by [] i = tt
names_at by (t ∷ ts) i = at (names_at by ts) (by t) refl i
  where
    at : ((i : ℕ) → Names by (slice_get (entries_by by ts) i) (slice_get (callables_by by ts) i)) → (o : Option Callable) → by t ≡ o → (i : ℕ)
        → Names by (slice_get (entry_in t o ++ entries_by by ts) i) (slice_get (option_to_list o ++ callables_by by ts) i)
    at rest None e i = rest i
    at rest (Some c) e zero = e
    at rest (Some c) e (suc i) = rest i

gets : {A : Type 0} → (xs : List A) (i : ℕ) → i < length xs → slice_get xs i ≢ None
gets [] i lt = absurd (omega (arith, lt))
gets (x ∷ xs) zero lt = λ e. cc
gets (x ∷ xs) (suc i) lt = gets xs i (omega (arith, lt))

pick_meant : (unviable : ErrorKind) (by : Contender → Option Callable) (ts : List Contender) (p : Pick) → ((i : ℕ) → p ≡ pick.One i → i < length (entries_by by ts))
    → meant_by by unviable (chosen (entries_by by ts) p) ≡ picked unviable (callables_by by ts) p
pick_meant unviable by ts pick.NoViable h = refl
pick_meant unviable by ts pick.Ambiguous h = refl
pick_meant unviable by ts (pick.One i) h = at (slice_get (entries_by by ts) i) (slice_get (callables_by by ts) i) (gets (entries_by by ts) i (h i refl)) (names_at by ts i)
  where
    at : (o : Option Entry) (c : Option Callable) → o ≢ None → Names by o c → meant_by by unviable (chosen_at o) ≡ called_at c
    at None c ne n = absurd (ne refl)
    at (Some e) None ne n = absurd n
    at (Some e) (Some c) ne n = ap called_at n

-- The outcome means what the best of them is.
pub meant_best : (l : Ancestors) (args : List ArgType) (unviable : ErrorKind) (by : Contender → Option Callable) (ts : List Contender)
    → meant_by by unviable (outcome_of (after l args fresh (entries_by by ts))) ≡ best_of_those l unviable (callables_by by ts) args
unfolding best_of_those
meant_best l args unviable by ts =
    let es = entries_by by ts in
    ap (meant_by by unviable) (outcome_best l args es)
    ∙ pick_meant unviable by ts (best_of l (map candidate_of es) args)
    (λ i e. let b = ((best_of-says l (map candidate_of es) args).one i).0 e in omega (arith, b.viable.there, map_long es))
    ∙ ap (λ cs. picked unviable (callables_by by ts) (best_of l cs args)) (candidates_as by ts)

-- None is viable just where the best of them is none.
pub none_best : (l : Ancestors) (args : List ArgType) (by : Contender → Option Callable) (ts : List Contender)
    → is_none_viable (outcome_of (after l args fresh (entries_by by ts))) ≡ none_viable (best_of l (candidates_of (callables_by by ts)) args)
none_best l args by ts =
    let es = entries_by by ts in
    ap is_none_viable (outcome_best l args es) ∙ same es (best_of l (map candidate_of es) args) ∙ ap (λ cs. none_viable (best_of l cs args)) (candidates_as by ts)
  where
    at : (o : Option Entry) → is_none_viable (chosen_at o) ≡ false
    at None = refl
    at (Some e) = refl

    same : (es : List Entry) (p : Pick) → is_none_viable (chosen es p) ≡ none_viable p
    same es pick.NoViable = refl
    same es pick.Ambiguous = refl
    same es (pick.One i) = at (slice_get es i)

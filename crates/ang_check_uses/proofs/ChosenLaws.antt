-- The contests of each use, and what can be meant there.
use Rattle.std.specs.Prelude.{ℕ, Bool, true, false, ◌≡◌, ◌+◌, List, [], ◌∷◌, ◌++◌, map, slice_get, option_to_list, option_map, Option, Some, None, is_some, ◌&&◌, if◌then◌else◌}
use Rattle.std.specs.List.{flat_map}
use Rattle.std.proofs.Common.{arith, refl, ap, sym, subst, zero, suc, ◌∙◌}
use Rattle.ang_kinds.specs.declared.error.ErrorKind.{ErrorKind}
use Rattle.ang_kinds.specs.declared.error.ErrorKind.TheVariants as kind
use Rattle.ang_kinds.specs.declared.types.Pass.{Pass}
use Rattle.ang_kinds.specs.declared.mask.EntityNo.{EntityNo}
use Rattle.ang_types.specs.declared.arg_type.ArgType.{ArgType}
use Rattle.ang_types.specs.Best.{best_of}
use Rattle.ang_types.specs.Overloads.{Params}
use Rattle.ang_types.specs.Ranks.{Ancestors}
use Rattle.ang_view.specs.declared.entry.Entry.{Entry as ViewEntry}
use Rattle.ang_view.specs.Named.{find, makers, owned}
use Rattle.ang_view.specs.Registration.{RegistrationList, entry_at}
use Rattle.ang_check_contest.specs.declared.host.SeenFunction.{SeenFunction}
use Rattle.ang_check_contest.specs.declared.host.Wanted.{Wanted}
use Rattle.ang_check_contest.specs.declared.host.Wanted.TheVariants as wanted
use Rattle.ang_names_known.specs.declared.names.Family.{Family}
use Rattle.ang_names_known.specs.declared.names.ScriptConstructor.{ScriptConstructor}
use Rattle.ang_names_known.specs.declared.names.ScriptFunction.{ScriptFunction}
use Rattle.ang_check_contest.specs.Among.{found_among}
use Rattle.ang_check_contest.specs.Host.{found, function_of_entry, host_function, host_parameters, host_type, host_where, in_front, is_wanted}
use Rattle.ang_names_known.specs.Items.{is_empty}
use Rattle.ang_names_known.specs.Lookup.{functions_named as numbers_named, default_of, parameters_of}
use Rattle.ang_check_contest.proofs.Among.{functions_in, factories_in, methods_in}
use Rattle.ang_check_uses.specs.declared.hosts.HostCallKind.{HostCallKind}
use Rattle.ang_check_uses.specs.declared.hosts.HostCallKind.TheVariants as usage
use Rattle.ang_check_contest.specs.declared.score.Contender.{Contender}
use Rattle.ang_check_contest.specs.declared.score.Contender.TheVariants as contender
use Rattle.ang_check_uses.specs.declared.scripts.FunctionList.{FunctionList}
use Rattle.ang_check_uses.specs.declared.scripts.FunctionList.TheVariants as declared
use Rattle.ang_check_uses.specs.declared.uses.Callable.{Callable}
use Rattle.ang_check_uses.specs.CallableKinds.{function_in, host_callable_as}
use Rattle.ang_check_uses.specs.Choosing.{is_seen, params_as, function_entry, entry_named, host_entry, host_by, entity, function_by, functions_named, method_by, methods_named, constructor_entries, constructor_in, constructor_by, constructors_in}
use Rattle.ang_check_contest.specs.Contest.{Entry, IsContest, Standing, fresh, after, entered, outcome_of, is_none_viable, placed}
use Rattle.ang_check_uses.specs.Contenders.{entry_of, entry_in, entries_by, callables_by, meant_by}
use Rattle.ang_check_uses.specs.Uses.{best_of_those, candidates_of, constructor_of, default_maker, factories_of, functions_of, host_methods, makers_in, script_callables, is_none_viable as none_viable}
use Rattle.ang_check_contest.specs.Scopes.{Scope}
use Rattle.ang_check_uses.proofs.Contests.{after_append, candidates_as, entries_append, callables_append, entries_map, callables_map, empty_none, meant_best, none_best}

split : {A : Type 0} → (xs ys zs : List A) → (xs ++ ys) ++ zs ≡ xs ++ (ys ++ zs)
split [] ys zs = refl
split (x ∷ xs) ys zs = ap (λ rest. x ∷ rest) (split xs ys zs)

-- ---- entries of the host

abbrev entity_of : ℕ → EntityNo
entity_of n = record { 0 = n }

numbers : (ns : List ℕ) → map (λ (e : EntityNo). e.0) (map entity_of ns) ≡ ns
numbers [] = refl
numbers (n ∷ ns) = ap (λ rest. n ∷ rest) (numbers ns)

by_number : (u : HostCallKind) (w : Wanted) (V : RegistrationList) (es : List EntityNo)
    → flat_map (host_entry u w V) es ≡ flat_map (λ n. host_entry u w V (entity_of n)) (map (λ (e : EntityNo). e.0) es)
by_number u w V [] = refl
by_number u w V (e ∷ es) = ap (λ rest. host_entry u w V e ++ rest) (by_number u w V es)

-- by whatever names the entries so
abbrev NamesHosts : HostCallKind → Wanted → RegistrationList → (Contender → Option Callable) → Type 0
NamesHosts u w V by = (n : ℕ) → by (entity n) ≡ entry_named u w V (entity_of n)

host_entries : (u : HostCallKind) (w : Wanted) (V : RegistrationList) (by : Contender → Option Callable) → NamesHosts u w V by → (es : List EntityNo) (ns : List ℕ) → map (λ (e : EntityNo). e.0) es ≡ ns
    → flat_map (host_entry u w V) es ≡ entries_by by (map entity ns)
host_entries u w V by names es ns row =
    by_number u w V es ∙ ap (flat_map (λ n. host_entry u w V (entity_of n))) row ∙ same ns
  where
    same : (ns : List ℕ) → flat_map (λ n. host_entry u w V (entity_of n)) ns ≡ entries_by by (map entity ns)
    same [] = refl
    same (n ∷ ns) = λ i. entry_in (entity n) (sym (names n) i) ++ same ns i

mapped : (f : SeenFunction → Callable) (o : Option SeenFunction) (rest : List SeenFunction) (cs : List Callable) → cs ≡ map f rest
    → option_to_list (option_map f o) ++ cs ≡ map f (option_to_list o ++ rest)
mapped f None rest cs e = e
mapped f (Some x) rest cs e = ap (λ r. f x ∷ r) e

host_callables : (u : HostCallKind) (w : Wanted) (V : RegistrationList) (by : Contender → Option Callable) → NamesHosts u w V by → (ns : List ℕ)
    → found_among w V (map entity_of ns) ≡ host_where w V → callables_by by (map entity ns) ≡ map (host_callable_as u) (host_where w V)
host_callables u w V by names ns all = same ns ∙ ap (map (host_callable_as u)) all
  where
    same : (ns : List ℕ) → callables_by by (map entity ns) ≡ map (host_callable_as u) (found_among w V (map entity_of ns))
    same [] = refl
    same (n ∷ ns) =
        ap (λ o. option_to_list o ++ callables_by by (map entity ns)) (names n)
        ∙ mapped (host_callable_as u) (found w V n (entry_at V n)) (found_among w V (map entity_of ns)) (callables_by by (map entity ns)) (same ns)

-- ---- one entry of the host

pub all_seen : (t : Option ArgType) (pass : Pass) (o : Option Params) → is_some t ≡ true → is_some (in_front t pass o) ≡ is_some o
all_seen None pass o e = cc
all_seen (Some t) pass None e = refl
all_seen (Some t) pass (Some ps) e = refl

pub none_seen : (t : Option ArgType) (pass : Pass) (o : Option Params) → is_some t ≡ false → is_some (in_front t pass o) ≡ false
none_seen None pass o e = refl
none_seen (Some t) pass o e = cc

pub not_there : (u : HostCallKind) (w : Wanted) (V : RegistrationList) (e : EntityNo) → entry_at V e.0 ≡ None → host_entry u w V e ≡ []
not_there u w V e gone = ap (λ o. entry_in (contender.Entry e) (option_map (host_callable_as u) (found w V e.0 o))) gone

pub not_wanted : (u : HostCallKind) (w : Wanted) (V : RegistrationList) (e : EntityNo) (x : ViewEntry) → entry_at V e.0 ≡ Some x → is_wanted w x ≡ false → host_entry u w V e ≡ []
not_wanted u w V e x at isnt =
    ap (λ o. entry_in (contender.Entry e) (option_map (host_callable_as u) (found w V e.0 o))) at
    ∙ ap (λ b. entry_in (contender.Entry e) (option_map (host_callable_as u) (if b then function_of_entry V e.0 x else None))) isnt

pub not_seen : (u : HostCallKind) (w : Wanted) (V : RegistrationList) (e : EntityNo) (x : ViewEntry) → entry_at V e.0 ≡ Some x → is_seen V x ≡ false → host_entry u w V e ≡ []
not_seen u w V e x at isnt =
    ap (λ o. entry_in (contender.Entry e) (option_map (host_callable_as u) (found w V e.0 o))) at
    ∙ by (is_wanted w x) (host_type V x.signature.result) (host_parameters V x.signature.params) isnt
  where
    by : (b : Bool) (t : Option ArgType) (o : Option Params) → (is_some t && is_some o) ≡ false
        → entry_in (contender.Entry e) (option_map (host_callable_as u) (if b then host_function e.0 x t o else None)) ≡ []
    by false t o isnt = refl
    by true None o isnt = refl
    by true (Some t) None isnt = refl
    by true (Some t) (Some ps) isnt = cc

params_are : (u : HostCallKind) (f : SeenFunction) → (host_callable_as u f).candidate.params ≡ params_as u f.read_only f.params
params_are usage.Function f = refl
params_are (usage.Maker n) f = refl
params_are (usage.Method n) f = refl

pub host_entered : (l : Ancestors) (args : List ArgType) (s s' : Standing) (u : HostCallKind) (w : Wanted) (V : RegistrationList) (e : EntityNo) (x : ViewEntry)
    → entry_at V e.0 ≡ Some x → is_wanted w x ≡ true → is_seen V x ≡ true
    → ((seen : Params) → host_parameters V x.signature.params ≡ Some seen → s' ≡ entered l args s (contender.Entry e) (params_as u x.signature.read_only seen))
    → s' ≡ after l args s (host_entry u w V e)
host_entered l args s s' u w V e x at want see h =
    by (host_type V x.signature.result) (host_parameters V x.signature.params) refl refl see
    ∙ sym (ap (λ o. after l args s (entry_in (contender.Entry e) (option_map (host_callable_as u) (found w V e.0 o)))) at
    ∙ ap (λ b. after l args s (entry_in (contender.Entry e) (option_map (host_callable_as u) (if b then function_of_entry V e.0 x else None)))) want)
  where
    by : (t : Option ArgType) (o : Option Params) → host_type V x.signature.result ≡ t → host_parameters V x.signature.params ≡ o → (is_some t && is_some o) ≡ true
        → s' ≡ after l args s (entry_in (contender.Entry e) (option_map (host_callable_as u) (function_of_entry V e.0 x)))
    by None o te oe see = cc
    by (Some t) None te oe see = cc
    by (Some t) (Some ps) te oe see =
        let f : SeenFunction = record { entity = record { 0 = e.0 }; driver = x.driver; f = x.f; result = t; params = ps; read_only = x.signature.read_only } in
        h ps oe
        ∙ ap (entered l args s (contender.Entry e)) (sym (params_are u f))
        ∙ sym (λ i. after l args s (entry_in (contender.Entry e) (option_map (host_callable_as u) (host_function e.0 x (te i) (oe i)))))

-- ---- a bare call

pub function_params : (list : FunctionList) (n : ℕ) (f : ScriptFunction) → (function_in list n f).candidate.params ≡ parameters_of f
function_params declared.Functions n f = refl
function_params declared.Imports n f = refl

pub functions_joined : (s : Scope) (name : List ℕ) (args : List ArgType) (a b c : Standing) (es : List EntityNo) → map (λ (e : EntityNo). e.0) es ≡ find s.view name
    → a ≡ after s.ancestors args fresh (flat_map (function_entry declared.Functions s.names.functions) (numbers_named s.names.functions name))
    → b ≡ after s.ancestors args a (flat_map (function_entry declared.Imports s.names.imports) (numbers_named s.names.imports name))
    → c ≡ after s.ancestors args b (flat_map (host_entry usage.Function (wanted.Function name) s.view) es)
    → c ≡ after s.ancestors args fresh (entries_by (function_by s name) (functions_named s name))
functions_joined s name args a b c es row ea eb ec =
    let l = s.ancestors in
    let by = function_by s name in
    let fs = map contender.Function (numbers_named s.names.functions name) in
    let ims = map contender.Import (numbers_named s.names.imports name) in
    let hs = map entity (find s.view name) in
    let ea' : a ≡ after l args fresh (entries_by by fs) = ea ∙ ap (after l args fresh) (sym (entries_map by contender.Function (numbers_named s.names.functions name))) in
    let eb' : b ≡ after l args a (entries_by by ims) = eb ∙ ap (after l args a) (sym (entries_map by contender.Import (numbers_named s.names.imports name))) in
    let ec' : c ≡ after l args b (entries_by by hs) = ec ∙ ap (after l args b) (host_entries usage.Function (wanted.Function name) s.view by (λ n. refl) es (find s.view name) row) in
    ec' ∙ ap (λ x. after l args x (entries_by by hs)) (eb' ∙ ap (λ x. after l args x (entries_by by ims)) ea')
    ∙ sym (ap (after l args fresh) (entries_append by fs (ims ++ hs) ∙ ap (λ rest. entries_by by fs ++ rest) (entries_append by ims hs))
    ∙ after_append l args fresh (entries_by by fs) (entries_by by ims ++ entries_by by hs)
    ∙ after_append l args (after l args fresh (entries_by by fs)) (entries_by by ims) (entries_by by hs))

functions_are : (s : Scope) (name : List ℕ) → callables_by (function_by s name) (functions_named s name) ≡ functions_of s name
unfolding script_callables
functions_are s name =
    let by = function_by s name in
    let fs = map contender.Function (numbers_named s.names.functions name) in
    let ims = map contender.Import (numbers_named s.names.imports name) in
    let hs = map entity (find s.view name) in
    let w = wanted.Function name in
    callables_append by fs (ims ++ hs) ∙ ap (λ rest. callables_by by fs ++ rest) (callables_append by ims hs)
    ∙ sym (split (callables_by by fs) (callables_by by ims) (callables_by by hs))
    ∙ (λ i. (callables_map by contender.Function (numbers_named s.names.functions name) i ++ callables_map by contender.Import (numbers_named s.names.imports name) i)
    ++ host_callables usage.Function w s.view by (λ n. refl) (find s.view name) (functions_in s.view name (map entity_of (find s.view name)) (numbers (find s.view name))) i)

pub functions_empty : (s : Scope) (name : List ℕ) (args : List ArgType) (c : Standing) → c ≡ after s.ancestors args fresh (entries_by (function_by s name) (functions_named s name))
    → c.empty ≡ is_empty (functions_of s name)
functions_empty s name args c e =
    ap (λ (x : Standing). x.empty) e ∙ empty_none s.ancestors args (function_by s name) (functions_named s name) ∙ ap is_empty (functions_are s name)

pub functions_best : (s : Scope) (name : List ℕ) (args : List ArgType) (c : Standing) → c ≡ after s.ancestors args fresh (entries_by (function_by s name) (functions_named s name))
    → meant_by (function_by s name) kind.NoMatch (outcome_of c) ≡ best_of_those s.ancestors kind.NoMatch (functions_of s name) args
functions_best s name args c e =
    ap (λ x. meant_by (function_by s name) kind.NoMatch (outcome_of x)) e ∙ meant_best s.ancestors args kind.NoMatch (function_by s name) (functions_named s name)
    ∙ ap (λ cs. best_of_those s.ancestors kind.NoMatch cs args) (functions_are s name)

-- ---- factories of the host

pub factories_best : (l : Ancestors) (args : List ArgType) (unviable : ErrorKind) (V : RegistrationList) (n : ℕ) (es : List EntityNo) (c : Standing) → map (λ (e : EntityNo). e.0) es ≡ makers V n
    → c ≡ after l args fresh (flat_map (host_entry (usage.Maker n) (wanted.Factory n) V) es)
    → meant_by (host_by (usage.Maker n) (wanted.Factory n) V) unviable (outcome_of c) ≡ best_of_those l unviable (factories_of V n) args
factories_best l args unviable V n es c row e =
    let u = usage.Maker n in
    let w = wanted.Factory n in
    let by = host_by u w V in
    let ts = map entity (makers V n) in
    ap (λ x. meant_by by unviable (outcome_of x)) (e ∙ ap (after l args fresh) (host_entries u w V by (λ k. refl) es (makers V n) row))
    ∙ meant_best l args unviable by ts
    ∙ ap (λ cs. best_of_those l unviable cs args) (host_callables u w V by (λ k. refl) (makers V n) (factories_in V n (map entity_of (makers V n)) (numbers (makers V n))))

-- ---- methods of the host

pub methods_joined : (l : Ancestors) (args : List ArgType) (V : RegistrationList) (n : ℕ) (name : List ℕ) (es : List EntityNo) (c : Standing) → map (λ (e : EntityNo). e.0) es ≡ owned V n name
    → c ≡ after l args fresh (flat_map (host_entry (usage.Method n) (wanted.Method n name) V) es)
    → c ≡ after l args fresh (entries_by (method_by V n name) (methods_named V n name))
methods_joined l args V n name es c row e =
    e ∙ ap (after l args fresh) (host_entries (usage.Method n) (wanted.Method n name) V (method_by V n name) (λ k. refl) es (owned V n name) row)

methods_are : (V : RegistrationList) (n : ℕ) (name : List ℕ) → callables_by (method_by V n name) (methods_named V n name) ≡ host_methods V n name
methods_are V n name =
    host_callables (usage.Method n) (wanted.Method n name) V (method_by V n name) (λ k. refl) (owned V n name)
    (methods_in V n name (map entity_of (owned V n name)) (numbers (owned V n name)))

pub methods_empty : (l : Ancestors) (args : List ArgType) (V : RegistrationList) (n : ℕ) (name : List ℕ) (c : Standing) → c ≡ after l args fresh (entries_by (method_by V n name) (methods_named V n name))
    → c.empty ≡ is_empty (host_methods V n name)
methods_empty l args V n name c e =
    ap (λ (x : Standing). x.empty) e ∙ empty_none l args (method_by V n name) (methods_named V n name) ∙ ap is_empty (methods_are V n name)

pub methods_best : (l : Ancestors) (args : List ArgType) (unviable : ErrorKind) (V : RegistrationList) (n : ℕ) (name : List ℕ) (c : Standing)
    → c ≡ after l args fresh (entries_by (method_by V n name) (methods_named V n name))
    → meant_by (method_by V n name) unviable (outcome_of c) ≡ best_of_those l unviable (host_methods V n name) args
methods_best l args unviable V n name c e =
    ap (λ x. meant_by (method_by V n name) unviable (outcome_of x)) e ∙ meant_best l args unviable (method_by V n name) (methods_named V n name)
    ∙ ap (λ cs. best_of_those l unviable cs args) (methods_are V n name)

pub methods_none : (l : Ancestors) (args : List ArgType) (V : RegistrationList) (n : ℕ) (name : List ℕ) (c : Standing) → c ≡ after l args fresh (entries_by (method_by V n name) (methods_named V n name))
    → is_none_viable (outcome_of c) ≡ none_viable (best_of l (candidates_of (host_methods V n name)) args)
methods_none l args V n name c e =
    ap (λ x. is_none_viable (outcome_of x)) e ∙ none_best l args (method_by V n name) (methods_named V n name)
    ∙ ap (λ cs. none_viable (best_of l (candidates_of cs) args)) (methods_are V n name)

-- ---- the contests themselves

contest_by : (l : Ancestors) (args : List ArgType) (by : Contender → Option Callable) (ts : List Contender) (cs : List Callable) (c : Standing) → callables_by by ts ≡ cs
    → c ≡ after l args fresh (entries_by by ts) → IsContest l (candidates_of cs) args c
contest_by l args by ts cs c are e = record { entries = entries_by by ts; taken_in = e; are = candidates_as by ts ∙ ap candidates_of are }

pub contest_of_functions : (s : Scope) (name : List ℕ) (args : List ArgType) (c : Standing) → c ≡ after s.ancestors args fresh (entries_by (function_by s name) (functions_named s name))
    → IsContest s.ancestors (candidates_of (functions_of s name)) args c
contest_of_functions s name args c e = contest_by s.ancestors args (function_by s name) (functions_named s name) (functions_of s name) c (functions_are s name) e

pub contest_of_factories : (l : Ancestors) (args : List ArgType) (V : RegistrationList) (n : ℕ) (es : List EntityNo) (c : Standing) → map (λ (e : EntityNo). e.0) es ≡ makers V n
    → c ≡ after l args fresh (flat_map (host_entry (usage.Maker n) (wanted.Factory n) V) es) → IsContest l (candidates_of (factories_of V n)) args c
contest_of_factories l args V n es c row e =
    let u = usage.Maker n in
    let w = wanted.Factory n in
    let by = host_by u w V in
    contest_by l args by (map entity (makers V n)) (factories_of V n) c
    (host_callables u w V by (λ k. refl) (makers V n) (factories_in V n (map entity_of (makers V n)) (numbers (makers V n))))
    (e ∙ ap (after l args fresh) (host_entries u w V by (λ k. refl) es (makers V n) row))

pub contest_of_methods : (l : Ancestors) (args : List ArgType) (V : RegistrationList) (n : ℕ) (name : List ℕ) (c : Standing)
    → c ≡ after l args fresh (entries_by (method_by V n name) (methods_named V n name)) → IsContest l (candidates_of (host_methods V n name)) args c
contest_of_methods l args V n name c e = contest_by l args (method_by V n name) (methods_named V n name) (host_methods V n name) c (methods_are V n name) e

-- ---- constructors of a class

module _ (c : ℕ) (ks : List ScriptConstructor) where
  abbrev By : Contender → Option Callable
  By = constructor_by c ks

  -- what is left from place n on
  abbrev Left : ℕ → List ScriptConstructor → Type 0
  Left n rest = (k : ℕ) → slice_get ks (n + k) ≡ slice_get rest k

  left_here : (n : ℕ) (x : ScriptConstructor) (rest : List ScriptConstructor) → Left n (x ∷ rest) → By (contender.Constructor n) ≡ Some (constructor_of c x)
  left_here n x rest left =
      let same : n + 0 ≡ n = omega arith in
      ap (constructor_in c) (subst (λ m. slice_get ks m ≡ Some x) same (left 0))

  left_more : (n : ℕ) (x : ScriptConstructor) (rest : List ScriptConstructor) → Left n (x ∷ rest) → Left (n + 1) rest
  left_more n x rest left = λ k. let same : n + suc k ≡ (n + 1) + k = omega arith in subst (λ m. slice_get ks m ≡ slice_get rest k) same (left (suc k))

  entries_from : (n : ℕ) (rest : List ScriptConstructor) → Left n rest → constructor_entries n rest ≡ entries_by By (placed contender.Constructor n rest)
  entries_from n [] left = refl
  entries_from n (x ∷ rest) left = λ i. entry_in (contender.Constructor n) (sym (left_here n x rest left) i) ++ entries_from (n + 1) rest (left_more n x rest left) i

  callables_from : (n : ℕ) (rest : List ScriptConstructor) → Left n rest → callables_by By (placed contender.Constructor n rest) ≡ map (constructor_of c) rest
  callables_from n [] left = refl
  callables_from n (x ∷ rest) left = λ i. option_to_list (left_here n x rest left i) ++ callables_from (n + 1) rest (left_more n x rest left) i

  all_left : Left 0 ks
  all_left k = let same : k ≡ 0 + k = omega arith in subst (λ m. slice_get ks m ≡ slice_get ks k) same refl

  pub constructors_best : (l : Ancestors) (args : List ArgType) (unviable : ErrorKind) (s : Standing) → s ≡ after l args fresh (constructor_entries 0 ks)
      → meant_by By unviable (outcome_of s) ≡ best_of_those l unviable (map (constructor_of c) ks) args
  constructors_best l args unviable s e =
      ap (λ x. meant_by By unviable (outcome_of x)) (e ∙ ap (after l args fresh) (entries_from 0 ks all_left))
      ∙ meant_best l args unviable By (placed contender.Constructor 0 ks)
      ∙ ap (λ cs. best_of_those l unviable cs args) (callables_from 0 ks all_left)

-- a class that has constructors is made by them
pub made_by_own : (fs : List Family) (c : ℕ) (o : Option Family) → is_empty (constructors_in o) ≡ false → makers_in fs c o ≡ map (constructor_of c) (constructors_in o)
made_by_own fs c None e = cc
made_by_own fs c (Some f) e = by f.is_class f.constructors e
  where
    by : (b : Bool) (ks : List ScriptConstructor) → is_empty (if b then ks else []) ≡ false
        → (if b then (if is_empty ks then default_maker c (default_of fs c) else map (constructor_of c) ks) else []) ≡ map (constructor_of c) (if b then ks else [])
    by false ks e = cc
    by true [] e = cc
    by true (k ∷ ks) e = refl

-- What a use means where a hidden entry is added is what is told from the entry and from what is seen alone.
use Rattle.std.specs.Prelude.{ℕ, ◌≡◌, ◌<◌, ◌-◌, ◌==◌, Bool, true, false, cond, nat_lt, not, ◌&&◌, ◌||◌, List, [], ◌∷◌, ◌++◌, map, slice_get, is_some, option_to_list, Option, Some, None}
use Rattle.std.specs.List.{flat_map}
use Rattle.std.proofs.Common.{arith, refl, sym, ap, subst, ◌∙◌}
use Rattle.ang_kinds.specs.declared.error.ErrorKind.{ErrorKind}
use Rattle.ang_kinds.specs.declared.error.ErrorKind.TheVariants as kind
use Rattle.ang_kinds.specs.declared.mask.EntityNo.{EntityNo}
use Rattle.ang_types.specs.declared.arg_type.ArgType.{ArgType}
use Rattle.ang_types.specs.declared.arg_type.ArgType.TheVariants as type
use Rattle.ang_types.specs.declared.asks.Asks.{Asks}
use Rattle.ang_types.specs.declared.asks.Asks.TheVariants as asks
use Rattle.ang_types.specs.declared.candidate.Candidate.{Candidate}
use Rattle.ang_types.specs.declared.candidate.Pick.{Pick}
use Rattle.ang_types.specs.declared.candidate.Pick.TheVariants as pick
use Rattle.ang_types.specs.Best.{best_of}
use Rattle.ang_types.specs.Ranks.{Ancestors}
use Rattle.ang_view.specs.declared.entry.Entry.{Entry}
use Rattle.ang_view.specs.Hidden.{seen_with}
use Rattle.ang_view.specs.Registration.{RegistrationList, entry_at, is_function_named, is_number, seen}
use Rattle.ang_view.specs.Named.{values_named, is_factory}
use Rattle.ang_view.specs.Types.{is_enumeration_named, is_type_named}
use Rattle.ang_check_contest.specs.declared.host.SeenFunction.{SeenFunction}
use Rattle.ang_check_contest.specs.declared.host.SeenProperty.{SeenProperty}
use Rattle.ang_check_contest.specs.declared.host.Wanted.TheVariants as wanted
use Rattle.ang_check_contest.specs.declared.host.WantedProperty.{WantedProperty}
use Rattle.ang_check_contest.specs.declared.host.WantedProperty.TheVariants as property
use Rattle.ang_names_known.specs.declared.names.Default.{Default}
use Rattle.ang_names_known.specs.declared.names.Default.TheVariants as default
use Rattle.ang_names_known.specs.declared.names.ScriptConstructor.{ScriptConstructor}
use Rattle.ang_names_known.specs.declared.names.Family.{Family}
use Rattle.ang_names_known.specs.declared.names.ScriptFunction.{ScriptFunction}
use Rattle.ang_names_known.specs.declared.names.ScriptGlobal.{ScriptGlobal}
use Rattle.ang_names_known.specs.declared.space.Named.{Named}
use Rattle.ang_names_known.specs.declared.space.Named.TheVariants as named
use Rattle.ang_check_contest.specs.Added.{added_property}
use Rattle.ang_check_contest.specs.Host.{found, function_of_entry, host_where, is_wanted, property_found, property_where}
use Rattle.ang_names_known.specs.Items.{is_empty}
use Rattle.ang_names_known.specs.Lookup.{default_of, functions_named, global_named}
use Rattle.ang_names_known.specs.Spaces.{family_of_type}
use Rattle.ang_check_contest.proofs.AddingProperties.{one_property_added}
use Rattle.ang_check_uses.specs.declared.uses.Callable.{Callable}
use Rattle.ang_check_uses.specs.declared.uses.Resolution.{Resolution}
use Rattle.ang_check_uses.specs.declared.uses.Resolution.TheVariants as resolution
use Rattle.ang_check_uses.specs.Uses.{best_function, best_method, best_of_those, called_by, called_name, callable_at, callable_in, candidates_of, constructor_of, default_maker, enumeration_meant, factories_of, functions_of, global_meant, global_or_host, host_callable, host_meant, host_method, host_methods, imported_function, maker, makers_for, makers_in, makers_of, own_function, picked, property_meant, resolution_of, script_callables, takes_number, type_meant, unmatched, value_meant, variable_meant}
use Rattle.ang_check_contest.specs.Scopes.{Scope}
use Rattle.ang_check_added.specs.Made.{found_in, plain, with_receiver}
use Rattle.ang_check_denials.specs.Added.{adds, call_wins, factories, factory_wins, has_global, has_place, is_called_by, is_enumeration_number, is_factory_of, is_number_of, is_property_of, is_type_number, is_value_at, named_with, property_wins, value_wins, wins}
use Rattle.ang_check_denials.specs.Denials.{is_called, means_entry}
use Rattle.ang_check_denials.specs.Names.{is_a_type_named}
use Rattle.ang_check_denials.proofs.Places.{Apart, apart_append, candidates_map, means_added, none_meant}
use Rattle.ang_check_denials.proofs.Types.{enumeration_has_kind, named_enumeration, named_type, type_has_kind}
use Rattle.ang_check_denials.proofs.Values.{value_added}

-- ---- a test that another one follows from

and_absorbed : (b c : Bool) → (c ≡ true → b ≡ true) → (b && c) ≡ c
and_absorbed true c h = refl
and_absorbed false true h = let no' : false ≡ true = h refl in cc
and_absorbed false false h = refl

first_of_two : (b c : Bool) → (b && c) ≡ true → b ≡ true
first_of_two true c e = refl
first_of_two false c e = cc

second_of_two : (b c : Bool) → (b && c) ≡ true → c ≡ true
second_of_two true c e = e
second_of_two false c e = cc

-- ---- values and properties

meant_member : (x : ℕ) (h : Option SeenProperty) → means_entry x (property_meant h) ≡ is_property_of x h
meant_member x None = refl
meant_member x (Some h) = refl

module _ (R : RegistrationList) (s : Scope) (name : List ℕ) (x : ℕ) (otherwise : Resolution) (meant : means_entry x otherwise ≡ value_wins R s name x None) where
  meant_property : (h : Option SeenProperty) → means_entry x (host_meant otherwise h) ≡ value_wins R s name x h
  meant_property None = meant
  meant_property (Some h) = refl

  meant_variable : (n : ℕ) (g : Option ScriptGlobal) (h : Option SeenProperty)
      → means_entry x (variable_meant otherwise n g h) ≡ (not (is_some g) && value_wins R s name x h)
  meant_variable n None h = meant_property h
  meant_variable n (Some g) h = refl

  meant_value : (gs : List ScriptGlobal) (o : Option ℕ) (h : Option SeenProperty)
      → means_entry x (global_or_host otherwise gs o h) ≡ (not (has_place gs o) && value_wins R s name x h)
  meant_value gs None h = meant_property h
  meant_value gs (Some n) h = meant_variable n (slice_get gs n) h

-- ---- types

meant_type : (x : ℕ) (n : Named) → means_entry x (type_meant n) ≡ is_number_of x n
meant_type x named.Unknown = refl
meant_type x (named.Object n) = refl
meant_type x (named.Enumeration n) = refl

meant_enumeration : (x : ℕ) (n : Named) → means_entry x (enumeration_meant n) ≡ is_enumeration_number x n
meant_enumeration x named.Unknown = refl
meant_enumeration x (named.Object n) = refl
meant_enumeration x (named.Enumeration n) = refl

same_as : (x n : ℕ) → (n == x) ≡ true → n ≡ x
same_as x n e = search (arith, e)

module _ (R : RegistrationList) (m : ℕ) (s : Scope) (name : List ℕ) (x : ℕ) where
  of_the_name : (t : Named) → named_with R m s x name ≡ t → x < 1024 → is_number_of x t ≡ true → is_a_type_named name (entry_at R x) ≡ true
  of_the_name named.Unknown e lt h = cc
  of_the_name (named.Object n) e lt h =
      type_has_kind name (entry_at R x) (named_type R m s x name x (e ∙ ap named.Object (same_as x n h)) lt)
  of_the_name (named.Enumeration n) e lt h =
      enumeration_has_kind name (entry_at R x) (named_enumeration R m s x name x (e ∙ ap named.Enumeration (same_as x n h)))

  enumeration_of_the_name : (t : Named) → named_with R m s x name ≡ t → is_enumeration_number x t ≡ true → is_enumeration_named name (entry_at R x) ≡ true
  enumeration_of_the_name named.Unknown e h = cc
  enumeration_of_the_name (named.Object n) e h = cc
  enumeration_of_the_name (named.Enumeration n) e h = named_enumeration R m s x name x (e ∙ ap named.Enumeration (same_as x n h))

-- an enumeration that is called
meant_number : (x n : ℕ) (takes : Bool) → (n == x && takes) ≡ means_entry x (cond takes (resolution.Enumeration n) (resolution.Refused kind.NoMatch))
meant_number x n true = and_all (n == x)
  where
    and_all : (b : Bool) → (b && true) ≡ b
    and_all true = refl
    and_all false = refl
meant_number x n false = and_none (n == x)
  where
    and_none : (b : Bool) → (b && false) ≡ false
    and_none true = refl
    and_none false = refl

-- ---- what is called

module _ (x : ℕ) where
  apart_option : (f : ℕ → ScriptFunction → Callable) → ((n : ℕ) (g : ScriptFunction) → is_called x (f n g).called ≡ false)
      → (n : ℕ) (o : Option ScriptFunction) → Apart x (option_to_list (callable_in f n o))
  apart_option f h n None = tt
  apart_option f h n (Some g) = (h n g, tt)

  apart_numbered : (f : ℕ → ScriptFunction → Callable) → ((n : ℕ) (g : ScriptFunction) → is_called x (f n g).called ≡ false)
      → (fs : List ScriptFunction) (ns : List ℕ) → Apart x (flat_map (callable_at f fs) ns)
  apart_numbered f h fs [] = tt
  apart_numbered f h fs (n ∷ ns) =
      apart_append x (callable_at f fs n) (flat_map (callable_at f fs) ns) (apart_option f h n (slice_get fs n)) (apart_numbered f h fs ns)

  apart_script : (s : Scope) (name : List ℕ) → Apart x (script_callables s.names name)
  unfolding script_callables
  apart_script s name =
      apart_append x (flat_map (callable_at own_function s.names.functions) (functions_named s.names.functions name))
      (flat_map (callable_at imported_function s.names.imports) (functions_named s.names.imports name))
      (apart_numbered own_function (λ n g. refl) s.names.functions (functions_named s.names.functions name))
      (apart_numbered imported_function (λ n g. refl) s.names.imports (functions_named s.names.imports name))

  apart_default : (c : ℕ) (d : Default) → Apart x (default_maker c d)
  apart_default c default.Missing = tt
  apart_default c default.Unwritten = (refl, tt)
  apart_default c (default.Written body) = (refl, tt)

  apart_constructors : (c : ℕ) (ks : List ScriptConstructor) → Apart x (map (constructor_of c) ks)
  apart_constructors c [] = tt
  apart_constructors c (k ∷ ks) = (refl, apart_constructors c ks)

  apart_either : (is_class none : Bool) (cs ds : List Callable) → Apart x cs → Apart x ds → Apart x (cond is_class (cond none cs ds) [])
  apart_either true true cs ds a b = a
  apart_either true false cs ds a b = b
  apart_either false none cs ds a b = tt

  apart_makers : (fs : List Family) (c : ℕ) (o : Option Family) → Apart x (makers_in fs c o)
  apart_makers fs c None = tt
  apart_makers fs c (Some f) =
      apart_either f.is_class (is_empty f.constructors) (default_maker c (default_of fs c)) (map (constructor_of c) f.constructors)
      (apart_default c (default_of fs c)) (apart_constructors c f.constructors)

meant_function : (x : ℕ) (ancestors : Ancestors) (cs : List Callable) (args : List ArgType)
    → means_entry x (best_function ancestors cs args) ≡ means_entry x (best_of_those ancestors kind.NoMatch cs args)
unfolding best_of_those best_of
meant_function x ancestors [] args = refl
meant_function x ancestors (c ∷ cs) args = refl

any_kind : (x : ℕ) (k l : ErrorKind) (cs : List Callable) (p : Pick) → means_entry x (picked k cs p) ≡ means_entry x (picked l cs p)
any_kind x k l cs pick.NoViable = refl
any_kind x k l cs pick.Ambiguous = refl
any_kind x k l cs (pick.One i) = refl

meant_method : (x : ℕ) (ancestors : Ancestors) (cs : List Callable) (n : ℕ) (c : Bool) (args : List ArgType)
    → means_entry x (best_method ancestors cs n c args) ≡ means_entry x (best_of_those ancestors kind.NoMatch cs (type.Object n c ∷ args))
unfolding best_method best_of_those best_of
meant_method x ancestors [] n c args = refl
meant_method x ancestors (d ∷ cs) n c args =
    any_kind x (unmatched ancestors (d ∷ cs) n c args) kind.NoMatch (d ∷ cs) (best_of ancestors (candidates_of (d ∷ cs)) (type.Object n c ∷ args))

-- ---- what wins was wanted

pub wins_wanted : (ancestors : Ancestors) (cand : SeenFunction → Candidate) (cs : List Candidate) (args : List ArgType) (b : Bool) (o : Option SeenFunction)
    → wins ancestors cand cs args (cond b o None) ≡ true → b ≡ true
wins_wanted ancestors cand cs args true o e = refl
wins_wanted ancestors cand cs args false o e = cc

function_wins_named : (ancestors : Ancestors) (cs : List Candidate) (args : List ArgType) (R : RegistrationList) (name : List ℕ) (x : ℕ) (o : Option Entry)
    → wins ancestors plain cs args (found (wanted.Function name) R x o) ≡ true → is_function_named name o ≡ true
function_wins_named ancestors cs args R name x None e = cc
function_wins_named ancestors cs args R name x (Some y) e =
    wins_wanted ancestors plain cs args (is_wanted (wanted.Function name) y) (function_of_entry R x y) e

owner_named : (R : RegistrationList) (name : List ℕ) (n : ℕ) (o : Option EntityNo) → is_number n o ≡ true → is_type_named name (entry_at R n) ≡ true
    → is_type_number R name o ≡ true
owner_named R name n None e h = cc
owner_named R name n (Some k) e h = let same : n ≡ k.0 = search (arith, e) in subst (λ j. is_type_named name (entry_at R j) ≡ true) same h

both_hold : (b c : Bool) → b ≡ true → c ≡ true → (b && c) ≡ true
both_hold true c e f = f
both_hold false c e f = cc

factory_wins_named : (ancestors : Ancestors) (cs : List Candidate) (args : List ArgType) (R : RegistrationList) (name : List ℕ) (x n : ℕ) (o : Option Entry)
    → is_type_named name (entry_at R n) ≡ true → wins ancestors plain cs args (found (wanted.Factory n) R x o) ≡ true → is_factory_of R name o ≡ true
factory_wins_named ancestors cs args R name x n None h e = cc
factory_wins_named ancestors cs args R name x n (Some y) h e =
    let both = wins_wanted ancestors plain cs args (is_wanted (wanted.Factory n) y) (function_of_entry R x y) e in
    both_hold (is_factory y.kind) (is_type_number R name y.owner) (first_of_two (is_factory y.kind) (is_number n y.owner) both)
    (owner_named R name n y.owner (second_of_two (is_factory y.kind) (is_number n y.owner) both) h)

host_number : (n : ℕ) (b : Bool) → nat_lt n 1024 ≡ b → cond b None (Some (n - 1024)) ≡ None → n < 1024
host_number n true e f = search (arith, e)
host_number n false e f = cc

or_first : (b c : Bool) → b ≡ true → (b || c) ≡ true
or_first true c e = refl
or_first false c e = cc

or_second : (b c : Bool) → c ≡ true → (b || c) ≡ true
or_second true c e = refl
or_second false c e = e

module _ (R : RegistrationList) (m : ℕ) (s : Scope) (name : List ℕ) (x : ℕ) (args : List ArgType) where
  by_family : (n : ℕ) → named_with R m s x name ≡ named.Object n → (o : Option ℕ) → family_of_type n ≡ o → factory_wins R s args x n o ≡ true → is_called_by R name x ≡ true
  by_family n e (Some c) f w = cc
  by_family n e None f w =
      let named_so = named_type R m s x name n e (host_number n (nat_lt n 1024) refl f) in
      or_second (is_function_named name (entry_at R x)) (is_enumeration_named name (entry_at R x) || is_factory_of R name (entry_at R x))
      (or_second (is_enumeration_named name (entry_at R x)) (is_factory_of R name (entry_at R x))
      (factory_wins_named s.ancestors (factories s.view n) args R name x n (entry_at R x) named_so w))

  wins_called : (t : Named) → named_with R m s x name ≡ t → call_wins R s name args x t ≡ true → is_called_by R name x ≡ true
  wins_called named.Unknown e w =
      or_first (is_function_named name (entry_at R x)) (is_enumeration_named name (entry_at R x) || is_factory_of R name (entry_at R x))
      (function_wins_named s.ancestors (candidates_of (functions_of s name)) args R name x (entry_at R x) w)
  wins_called (named.Object n) e w = by_family n e (family_of_type n) refl w
  wins_called (named.Enumeration n) e w =
      let same = same_as x n (first_of_two (n == x) (takes_number args) w) in
      or_second (is_function_named name (entry_at R x)) (is_enumeration_named name (entry_at R x) || is_factory_of R name (entry_at R x))
      (or_first (is_enumeration_named name (entry_at R x)) (is_factory_of R name (entry_at R x))
      (named_enumeration R m s x name x (e ∙ ap named.Enumeration same)))

-- ---- calls over the larger view

-- what is asked over the view with the entry added
abbrev with_added : RegistrationList → ℕ → ℕ → Scope → Scope
with_added R m x s = record s { view = seen_with R m x }

module _ (R : RegistrationList) (m : ℕ) (s : Scope) (x : ℕ) (view : s.view ≡ seen R m) (unseen : entry_at (seen R m) x ≡ None) (args : List ArgType) where
  factory_meant : (k : ErrorKind) (n : ℕ)
      → wins s.ancestors plain (factories s.view n) args (found_in R x (wanted.Factory n)) ≡ means_entry x (best_of_those s.ancestors k (factories_of (seen_with R m x) n) args)
  factory_meant k n =
      ap (λ V. wins s.ancestors plain (factories V n) args (found_in R x (wanted.Factory n))) view
      ∙ sym (ap (λ cs. wins s.ancestors plain cs args (found_in R x (wanted.Factory n))) (candidates_map (maker n) plain (λ f. refl) (host_where (wanted.Factory n) (seen R m))))
      ∙ sym (means_added s.ancestors k (maker n) plain (λ y f. refl) (λ f. refl) [] args R m x (wanted.Factory n) tt unseen)

  function_meant : (name : List ℕ) → wins s.ancestors plain (candidates_of (functions_of s name)) args (found_in R x (wanted.Function name))
      ≡ means_entry x (best_of_those s.ancestors kind.NoMatch (functions_of (with_added R m x s) name) args)
  function_meant name =
      ap (λ V. wins s.ancestors plain (candidates_of (script_callables s.names name ++ map host_callable (host_where (wanted.Function name) V))) args (found_in R x (wanted.Function name))) view
      ∙ sym (means_added s.ancestors kind.NoMatch host_callable plain (λ y f. refl) (λ f. refl) (script_callables s.names name) args R m x (wanted.Function name) (apart_script x s name) unseen)

  method_meant : (n : ℕ) (name : List ℕ) → wins s.ancestors (with_receiver n) (candidates_of (host_methods s.view n name)) args (found_in R x (wanted.Method n name))
      ≡ means_entry x (best_of_those s.ancestors kind.NoMatch (host_methods (seen_with R m x) n name) args)
  method_meant n name =
      ap (λ V. wins s.ancestors (with_receiver n) (candidates_of (host_methods V n name)) args (found_in R x (wanted.Method n name))) view
      ∙ sym (means_added s.ancestors kind.NoMatch (host_method n) (with_receiver n) (λ y f. refl) (λ f. refl) [] args R m x (wanted.Method n name) tt unseen)

  made_meant : (n : ℕ) (o : Option ℕ) → factory_wins R s args x n o ≡ means_entry x (best_of_those s.ancestors kind.NoMatch (makers_for (with_added R m x s) n o) args)
  made_meant n (Some c) = sym (none_meant s.ancestors kind.NoMatch x args (makers_in s.names.families c (slice_get s.names.families c)) (apart_makers x s.names.families c (slice_get s.names.families c)))
  made_meant n None = factory_meant kind.NoMatch n

  call_meant : (name : List ℕ) (t : Named) → call_wins R s name args x t ≡ means_entry x (called_by (with_added R m x s) name args t)
  unfolding makers_of
  call_meant name named.Unknown = function_meant name ∙ sym (meant_function x s.ancestors (functions_of (with_added R m x s) name) args)
  call_meant name (named.Object n) = made_meant n (family_of_type n)
  call_meant name (named.Enumeration n) = meant_number x n (takes_number args)

  property_added : (w : WantedProperty) → property_wins R x w (property_where w s.view) ≡ is_property_of x (property_where w (seen_with R m x))
  property_added w =
      ap (λ V. property_wins R x w (property_where w V)) view ∙ sym (ap (is_property_of x) (one_property_added R m x w unseen))

-- ---- any use

pub adds_means : (R : RegistrationList) (m : ℕ) (s : Scope) (name : List ℕ) (x : ℕ) (a : Asks) → s.view ≡ seen R m → x < 1024 → entry_at (seen R m) x ≡ None
    → adds R s name x (named_with R m s x name) a ≡ means_entry x (resolution_of (record s { view = seen_with R m x }) name a)
unfolding global_meant called_name
adds_means R m s name x asks.Value view lt unseen =
    let own = property_found (property.Global name) R x (entry_at R x) in
    let meant : means_entry x (value_meant (seen_with R m x) name) ≡ value_wins R s name x None =
    value_added R m x name unseen ∙ sym (ap (λ V. is_value_at name x (entry_at R x) && is_empty (values_named V name)) view) in
    ap (λ V. not (has_global s.names.globals name) && value_wins R s name x (added_property own (property_where (property.Global name) V))) view
    ∙ sym (ap (λ h. not (has_global s.names.globals name) && value_wins R s name x h) (one_property_added R m x (property.Global name) unseen))
    ∙ sym (meant_value R s name x (value_meant (seen_with R m x) name) meant s.names.globals (global_named s.names.globals name)
    (property_where (property.Global name) (seen_with R m x)))
adds_means R m s name x asks.Type view lt unseen =
    let t = named_with R m s x name in
    and_absorbed (is_a_type_named name (entry_at R x)) (is_number_of x t) (of_the_name R m s name x t refl lt) ∙ sym (meant_type x t)
adds_means R m s name x asks.Enumeration view lt unseen =
    let t = named_with R m s x name in
    and_absorbed (is_enumeration_named name (entry_at R x)) (is_enumeration_number x t) (enumeration_of_the_name R m s name x t refl) ∙ sym (meant_enumeration x t)
adds_means R m s name x (asks.Call args) view lt unseen =
    let t = named_with R m s x name in
    and_absorbed (is_called_by R name x) (call_wins R s name args x t) (wins_called R m s name x args t refl) ∙ call_meant R m s x view unseen args name t
adds_means R m s name x (asks.Make n args) view lt unseen = factory_meant R m s x view unseen args kind.NoMatch n
adds_means R m s name x (asks.Default n) view lt unseen = factory_meant R m s x view unseen [] kind.NoDefault n
adds_means R m s name x (asks.Property n) view lt unseen =
    property_added R m s x view unseen [] (property.Member n name) ∙ sym (meant_member x (property_where (property.Member n name) (seen_with R m x)))
adds_means R m s name x (asks.Method n c args) view lt unseen =
    method_meant R m s x view unseen (type.Object n c ∷ args) n name ∙ sym (meant_method x s.ancestors (host_methods (seen_with R m x) n name) n c args)

-- A use of a name means a variable of its type, or what is called with its parameters.
use Rattle.std.specs.Prelude.{◌≡◌, ℕ, nat_lt, Bool, true, false, if◌then◌else◌, List, [], ◌∷◌, map, slice_get, option_map, Option, Some, None, IfSome}
use Rattle.std.specs.Option.{option_map_or}
use Rattle.std.proofs.Common.{refl, ap, ◌∙◌, subst}
use Rattle.std.proofs.lemmas.Option.{slice_get-map}
use Rattle.ang_kinds.specs.declared.error.ErrorKind.{ErrorKind}
use Rattle.ang_kinds.specs.declared.error.ErrorKind.TheVariants as kind
use Rattle.ang_types.specs.declared.arg_type.ArgType.{ArgType}
use Rattle.ang_types.specs.declared.arg_type.ArgType.TheVariants as type
use Rattle.ang_types.specs.declared.asks.Asks.TheVariants as asks
use Rattle.ang_types.specs.declared.candidate.Pick.{Pick}
use Rattle.ang_types.specs.declared.candidate.Pick.TheVariants as pick
use Rattle.ang_types.specs.declared.candidate.Candidate.{Candidate}
use Rattle.ang_types.specs.Overloads.{IsViable, params_at}
use Rattle.ang_types.specs.Best.{best_of}
use Rattle.ang_types.proofs.BestLaws.{best_of-says}
use Rattle.ang_check_contest.specs.declared.host.SeenProperty.{SeenProperty}
use Rattle.ang_check_contest.specs.declared.host.Wanted.TheVariants as wanted
use Rattle.ang_check_contest.specs.declared.host.WantedProperty.TheVariants as property
use Rattle.ang_check_contest.specs.Host.{host_where, property_where}
use Rattle.ang_tree.specs.Stmt.{Every}
use Rattle.ang_names_known.specs.declared.names.ScriptFunction.{ScriptFunction}
use Rattle.ang_names_known.specs.declared.names.ScriptGlobal.{ScriptGlobal}
use Rattle.ang_names_known.specs.declared.space.Named.{Named}
use Rattle.ang_names_known.specs.declared.space.Named.TheVariants as named
use Rattle.ang_names_known.specs.Items.{is_empty}
use Rattle.ang_names_known.specs.Lookup.{functions_named, global_named}
use Rattle.ang_names_known.specs.Spaces.{family_of_type, type_of_name}
use Rattle.ang_check_context.specs.Scope.{BodyContext, scope_of, space_of}
use Rattle.ang_check_uses.specs.declared.uses.Callable.{Callable}
use Rattle.ang_check_uses.specs.declared.uses.EnumerationValue.{EnumerationValue}
use Rattle.ang_check_uses.specs.declared.uses.Resolution.{Resolution}
use Rattle.ang_check_uses.specs.declared.uses.Resolution.TheVariants as resolution
use Rattle.ang_check_uses.specs.Uses.{one_value, value_among, value_meant, value_at, host_meant, variable_meant, global_or_host, global_meant, own_function, imported_function, callable_in, callable_at, script_callables, host_callable, maker, factories_of, makers_for, makers_of, candidates_of, called_at, picked, best_of_those, functions_of, takes_number, called_by, called_name, property_meant, host_method, host_methods, unmatched, best_method, resolution_of}
use Rattle.ang_meaning.specs.Environment.{Environment}
use Rattle.ang_source_typed.specs.Types.{SlotType, Modules, first_family}
use Rattle.ang_source_typed.specs.TypedProgram.{IsVariable, IsStored}
use Rattle.ang_check_sound.proofs.Items.{every_joined, every_option, every_mapped, every_flat, every_at}
use Rattle.ang_check_laws.specs.Contexts.{place_type, IsDeclared, IsTypedCallable, IsTypedContext}
use Rattle.ang_check_laws.proofs.Arguments.{AreRanked, all_ranked}
use Rattle.ang_check_laws.proofs.Hosts.{IsFoundIn, IsPropertyIn, each_found, the_property, low, function_typed, maker_typed, method_typed, global_property, IsTypedMember, member_property}

-- In a body:
module _ (z : Environment) (ms : Modules) (m : ℕ) (s : BodyContext) (built : IsTypedContext z ms m s) where
  -- ---- variables and properties

  -- where locals of these types are alive
  abbrev pub IsMeant : List SlotType → Resolution → Type 0
  IsMeant locals (resolution.Variable x ty read_only) =
      IsDeclared z ms m ty × IsVariable z ms m locals x (place_type z ms m ty) × (read_only ≡ false → IsStored z ms m x)
  IsMeant locals (resolution.Property h) = Unit {0}
  IsMeant locals (resolution.Call c) = Unit {0}
  IsMeant locals (resolution.Type k) = Unit {0}
  IsMeant locals (resolution.Enumeration k) = Unit {0}
  IsMeant locals (resolution.Value v) = Unit {0}
  IsMeant locals (resolution.Refused why) = Unit {0}

  one_value_is : (locals : List SlotType) (v : Option EnumerationValue) → IsMeant locals (one_value v)
  one_value_is locals None = tt
  one_value_is locals (Some v) = tt

  value_among_is : (locals : List SlotType) (found : List ℕ) → IsMeant locals (value_among s.view found)
  value_among_is locals [] = tt
  value_among_is locals (k ∷ []) = one_value_is locals (value_at s.view k)
  value_among_is locals (k ∷ j ∷ rest) = tt

  value_is : (locals : List SlotType) (name : List ℕ) → IsMeant locals (value_meant s.view name)
  unfolding value_meant
  value_is locals name = value_among_is locals _

  host_is : (locals : List SlotType) (name : List ℕ) (otherwise : Resolution) (g : Option SeenProperty) → IsMeant locals otherwise
      → IfSome g (IsPropertyIn s.view (property.Global name)) → IsMeant locals (host_meant otherwise g)
  host_is locals name otherwise None o h = o
  host_is locals name otherwise (Some g) o h =
      let p = global_property z ms m s built name g h in (p.declared, (p.driver, p.held), p.writable)

  script_is : (locals : List SlotType) (name : List ℕ) (otherwise : Resolution) (i : ℕ) (g : Option ScriptGlobal) (host : Option SeenProperty)
      → slice_get s.names.globals i ≡ g → IsMeant locals otherwise → IfSome host (IsPropertyIn s.view (property.Global name))
      → IsMeant locals (variable_meant otherwise i g host)
  script_is locals name otherwise i None host e o h = host_is locals name otherwise host o h
  script_is locals name otherwise i (Some g) host e o h = let own = built.globals i g e in (own.0, own.1, λ free. tt)

  global_is : (locals : List SlotType) (name : List ℕ) (otherwise : Resolution) (i : Option ℕ) (host : Option SeenProperty) → IsMeant locals otherwise
      → IfSome host (IsPropertyIn s.view (property.Global name)) → IsMeant locals (global_or_host otherwise s.names.globals i host)
  global_is locals name otherwise None host o h = host_is locals name otherwise host o h
  global_is locals name otherwise (Some i) host o h = script_is locals name otherwise i (slice_get s.names.globals i) host refl o h

  pub value_typed : (locals : List SlotType) (name : List ℕ) → IsMeant locals (resolution_of (scope_of s) name asks.Value)
  unfolding global_meant
  value_typed locals name =
      global_is locals name (value_meant s.view name) (global_named s.names.globals name) (property_where (property.Global name) s.view)
      (value_is locals name) (the_property s.view (property.Global name))

  -- of objects of the type of number n
  abbrev pub IsMeantMember : ℕ → Resolution → Type 0
  IsMeantMember n (resolution.Variable x ty read_only) = Unit {0}
  IsMeantMember n (resolution.Property h) = IsTypedMember z ms m s built n h
  IsMeantMember n (resolution.Call c) = Unit {0}
  IsMeantMember n (resolution.Type k) = Unit {0}
  IsMeantMember n (resolution.Enumeration k) = Unit {0}
  IsMeantMember n (resolution.Value v) = Unit {0}
  IsMeantMember n (resolution.Refused why) = Unit {0}

  property_or_none : (n : ℕ) (name : List ℕ) (g : Option SeenProperty) → nat_lt n first_family ≡ true
      → IfSome g (IsPropertyIn s.view (property.Member n name)) → IsMeantMember n (property_meant g)
  property_or_none n name None small h = tt
  property_or_none n name (Some g) small h = member_property z ms m s built n name g small h

  pub property_typed : (n : ℕ) (name : List ℕ) → family_of_type n ≡ None → IsMeantMember n (resolution_of (scope_of s) name (asks.Property n))
  property_typed n name none =
      property_or_none n name (property_where (property.Member n name) s.view) (low n none) (the_property s.view (property.Member n name))

  -- ---- what can be called

  abbrev Can : Callable → Type 0
  Can c = IsTypedCallable z ms m c

  own_one : (i : ℕ) (f : Option ScriptFunction) → slice_get s.names.functions i ≡ f → IfSome (callable_in own_function i f) Can
  own_one i None e = tt
  own_one i (Some f) e = built.functions i f e

  imported_one : (i : ℕ) (f : Option ScriptFunction) → slice_get s.names.imports i ≡ f → IfSome (callable_in imported_function i f) Can
  imported_one i None e = tt
  imported_one i (Some f) e = built.imports i f e

  scripts_typed : (name : List ℕ) → Every Can (script_callables s.names name)
  unfolding script_callables
  scripts_typed name =
      every_joined Can _ _
      (every_flat Can (callable_at own_function s.names.functions) (functions_named s.names.functions name)
      (λ i. every_option Can (callable_in own_function i (slice_get s.names.functions i)) (own_one i (slice_get s.names.functions i) refl)))
      (every_flat Can (callable_at imported_function s.names.imports) (functions_named s.names.imports name)
      (λ i. every_option Can (callable_in imported_function i (slice_get s.names.imports i)) (imported_one i (slice_get s.names.imports i) refl)))

  functions_typed : (name : List ℕ) → Every Can (functions_of (scope_of s) name)
  functions_typed name =
      every_joined Can (script_callables s.names name) (map host_callable (host_where (wanted.Function name) s.view)) (scripts_typed name)
      (every_mapped (IsFoundIn s.view (wanted.Function name)) Can host_callable (host_where (wanted.Function name) s.view)
      (λ f h. function_typed z ms m s built name f h) (each_found s.view (wanted.Function name) built.values))

  factories_typed : (n : ℕ) → family_of_type n ≡ None → Every Can (factories_of s.view n)
  factories_typed n none =
      every_mapped (IsFoundIn s.view (wanted.Factory n)) Can (maker n) (host_where (wanted.Factory n) s.view)
      (λ f h. maker_typed z ms m s built n f (low n none) h) (each_found s.view (wanted.Factory n) built.values)

  methods_typed : (n : ℕ) (name : List ℕ) → family_of_type n ≡ None → Every Can (host_methods s.view n name)
  methods_typed n name none =
      every_mapped (IsFoundIn s.view (wanted.Method n name)) Can (host_method n) (host_where (wanted.Method n name) s.view)
      (λ f h. method_typed z ms m s built n name f (low n none) h) (each_found s.view (wanted.Method n name) built.values)

  makers_by : (n : ℕ) (c : Option ℕ) → family_of_type n ≡ c → Every Can (makers_for (scope_of s) n c)
  makers_by n None e = factories_typed n e
  makers_by n (Some c) e = built.makers c

  pub makers_typed : (n : ℕ) → Every (IsTypedCallable z ms m) (makers_of (scope_of s) n)
  unfolding makers_of
  makers_typed n = makers_by n (family_of_type n) refl

  -- ---- the best of them

  -- what is called takes these arguments
  abbrev pub IsMeantCall : List ArgType → Resolution → Type 0
  IsMeantCall args (resolution.Variable x ty read_only) = Unit {0}
  IsMeantCall args (resolution.Property h) = Unit {0}
  IsMeantCall args (resolution.Call c) = IsTypedCallable z ms m c × AreRanked s.ancestors c.candidate.params args
  IsMeantCall args (resolution.Type k) = Unit {0}
  IsMeantCall args (resolution.Enumeration k) = Unit {0}
  IsMeantCall args (resolution.Value v) = Unit {0}
  IsMeantCall args (resolution.Refused why) = Unit {0}

  candidate_at : (cs : List Callable) (i : ℕ) (c : Callable) → slice_get cs i ≡ Some c → params_at (candidates_of cs) i ≡ c.candidate.params
  candidate_at cs i c e =
      ap (λ (o : Option Candidate). option_map_or (λ (k : Candidate). k.params) o []) (slice_get-map (λ (c : Callable). c.candidate) cs i ∙ ap (option_map (λ (c : Callable). c.candidate)) e)

  best_typed : (cs : List Callable) (args : List ArgType) (i : ℕ) (c : Option Callable) → slice_get cs i ≡ c → Every Can cs
      → IsViable s.ancestors (params_at (candidates_of cs) i) args → IsMeantCall args (called_at c)
  best_typed cs args i None e all viable = tt
  best_typed cs args i (Some c) e all viable = (
    every_at Can cs i c all e,
    subst (λ ps. AreRanked s.ancestors ps args) (candidate_at cs i c e)
        (all_ranked s.ancestors (params_at (candidates_of cs) i) args viable.equal_number viable.ranked),
  )

  picked_typed : (unviable : ErrorKind) (cs : List Callable) (args : List ArgType) (p : Pick) → best_of s.ancestors (candidates_of cs) args ≡ p
      → Every Can cs → IsMeantCall args (picked unviable cs p)
  picked_typed unviable cs args pick.NoViable e all = tt
  picked_typed unviable cs args pick.Ambiguous e all = tt
  picked_typed unviable cs args (pick.One i) e all =
      best_typed cs args i (slice_get cs i) refl all (((best_of-says s.ancestors (candidates_of cs) args).one i).0 e).viable.viable

  pub those_typed : (unviable : ErrorKind) (cs : List Callable) (args : List ArgType) → Every (IsTypedCallable z ms m) cs
      → IsMeantCall args (best_of_those s.ancestors unviable cs args)
  unfolding best_of_those
  those_typed unviable cs args all = picked_typed unviable cs args (best_of s.ancestors (candidates_of cs) args) refl all

  or_unknown : (args : List ArgType) (b : Bool) (r : Resolution) → IsMeantCall args r
      → IsMeantCall args (if b then resolution.Refused kind.UnknownName else r)
  or_unknown args true r h = tt
  or_unknown args false r h = h

  enumeration_is : (k : ℕ) (args : List ArgType) (b : Bool) → IsMeantCall args (if b then resolution.Enumeration k else resolution.Refused kind.NoMatch)
  enumeration_is k args true = tt
  enumeration_is k args false = tt

  by_name : (name : List ℕ) (args : List ArgType) (d : Named) → IsMeantCall args (called_by (scope_of s) name args d)
  by_name name args (named.Object n) = those_typed kind.NoMatch (makers_of (scope_of s) n) args (makers_typed n)
  by_name name args (named.Enumeration k) = enumeration_is k args (takes_number args)
  by_name name args named.Unknown =
      let cs = functions_of (scope_of s) name in
      or_unknown args (is_empty cs) _ (those_typed kind.NoMatch cs args (functions_typed name))

  pub name_typed : (name : List ℕ) (args : List ArgType) → IsMeantCall args (resolution_of (scope_of s) name (asks.Call args))
  unfolding called_name
  name_typed name args = by_name name args (type_of_name (space_of s) name)

  -- on a receiver of the type of number n
  pub best_method_typed : (cs : List Callable) (n : ℕ) (c : Bool) (args : List ArgType) → Every (IsTypedCallable z ms m) cs
      → IsMeantCall (type.Object n c ∷ args) (best_method s.ancestors cs n c args)
  unfolding best_method
  best_method_typed cs n c args all =
      or_unknown (type.Object n c ∷ args) (is_empty cs) _
      (those_typed (unmatched s.ancestors cs n c args) cs (type.Object n c ∷ args) all)

  pub host_method_typed : (name : List ℕ) (n : ℕ) (c : Bool) (args : List ArgType) → family_of_type n ≡ None
      → IsMeantCall (type.Object n c ∷ args) (resolution_of (scope_of s) name (asks.Method n c args))
  host_method_typed name n c args none = best_method_typed (host_methods s.view n name) n c args (methods_typed n name none)

  pub make_typed : (name : List ℕ) (n : ℕ) (args : List ArgType) → family_of_type n ≡ None
      → IsMeantCall args (resolution_of (scope_of s) name (asks.Make n args))
  make_typed name n args none = those_typed kind.NoMatch (factories_of s.view n) args (factories_typed n none)

  pub default_typed : (name : List ℕ) (n : ℕ) → family_of_type n ≡ None → IsMeantCall [] (resolution_of (scope_of s) name (asks.Default n))
  default_typed name n none = those_typed kind.NoDefault (factories_of s.view n) [] (factories_typed n none)

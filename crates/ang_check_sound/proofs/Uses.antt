-- A use of a name means a variable, a property or a function that is there, a value or an enumeration that the view has.
use Rattle.std.specs.Prelude.{◌≡◌, ◌≢◌, ℕ, suc, ◌<◌, Bool, true, false, if◌then◌else◌, length, List, [], ◌∷◌, map, slice_get, option_map, Option, Some, None, IfSome, IsSome, is_some}
use Rattle.std.specs.Option.{option_map_or}
use Rattle.std.proofs.Common.{refl, ap, sym, ◌∙◌}
use Rattle.std.proofs.lemmas.Option.{slice_get_within, slice_get-map}
use Rattle.ang_kinds.specs.declared.error.ErrorKind.{ErrorKind}
use Rattle.ang_kinds.specs.declared.error.ErrorKind.TheVariants as kind
use Rattle.ang_kinds.specs.declared.types.Pass.TheVariants as pass
use Rattle.ang_typed.specs.declared.program.TypedParameter.{TypedParameter}
use Rattle.ang_types.specs.declared.arg_type.ArgType.{ArgType}
use Rattle.ang_types.specs.declared.candidate.Candidate.{Candidate}
use Rattle.ang_types.specs.declared.arg_type.ArgType.TheVariants as type
use Rattle.ang_types.specs.declared.asks.Asks.TheVariants as asks
use Rattle.ang_types.specs.declared.candidate.Pick.{Pick}
use Rattle.ang_types.specs.declared.candidate.Pick.TheVariants as pick
use Rattle.ang_types.specs.Overloads.{Params, params_at}
use Rattle.ang_types.specs.Best.{best_of}
use Rattle.ang_types.proofs.BestLaws.{best_of-says}
use Rattle.ang_kinds.specs.declared.mask.EntityNo.{EntityNo}
use Rattle.ang_view.specs.declared.entry.Entry.{Entry}
use Rattle.ang_view.specs.declared.entry.EntryKind.{EntryKind}
use Rattle.ang_view.specs.declared.entry.EntryKind.TheVariants as entry
use Rattle.ang_view.specs.Named.{members, values_named}
use Rattle.ang_view.specs.Registration.{RegistrationList, entry_at}
use Rattle.ang_check_contest.specs.declared.host.SeenFunction.{SeenFunction}
use Rattle.ang_check_contest.specs.declared.host.SeenProperty.{SeenProperty}
use Rattle.ang_check_contest.specs.declared.host.Wanted.TheVariants as wanted
use Rattle.ang_check_contest.specs.declared.host.WantedProperty.TheVariants as property
use Rattle.ang_names_known.specs.declared.names.ScriptConstructor.{ScriptConstructor}
use Rattle.ang_names_known.specs.declared.names.Default.{Default}
use Rattle.ang_names_known.specs.declared.names.Default.TheVariants as default
use Rattle.ang_names_known.specs.declared.names.Family.{Family}
use Rattle.ang_names_known.specs.declared.names.ScriptFunction.{ScriptFunction}
use Rattle.ang_names_known.specs.declared.names.ScriptGlobal.{ScriptGlobal}
use Rattle.ang_names_known.specs.declared.names.ScriptParameter.{ScriptParameter}
use Rattle.ang_names_known.specs.declared.space.Named.{Named}
use Rattle.ang_names_known.specs.declared.space.Named.TheVariants as named
use Rattle.ang_check_contest.specs.Host.{host_where, property_where}
use Rattle.ang_names_known.specs.Items.{is_empty}
use Rattle.ang_names_known.specs.Lookup.{functions_named, global_named, parameters_of, takes_nothing, default_of}
use Rattle.ang_names_known.specs.Spaces.{family_of_type, type_of_name}
use Rattle.ang_check_context.specs.Scope.{BodyContext, scope_of, space_of}
use Rattle.ang_check_uses.specs.declared.uses.Callable.{Callable}
use Rattle.ang_check_uses.specs.declared.uses.Called.{Called}
use Rattle.ang_check_uses.specs.declared.uses.Called.TheVariants as calls
use Rattle.ang_check_uses.specs.declared.uses.EnumerationValue.{EnumerationValue}
use Rattle.ang_check_uses.specs.declared.uses.Resolution.{Resolution}
use Rattle.ang_check_uses.specs.declared.uses.Resolution.TheVariants as resolution
use Rattle.ang_check_uses.specs.Uses.{value_by, value_in, value_at, first_value, value_of, one_value, value_among, value_meant, takes_number, host_meant, variable_meant, global_or_host, global_meant, own_function, imported_function, callable_in, callable_at, script_callables, host_callable, maker, factories_of, constructor_of, default_maker, makers_in, makers_for, makers_of, candidates_of, called_at, picked, best_of_those, functions_of, called_by, called_name, property_meant, host_method, host_methods, unmatched, best_method, resolution_of}
use Rattle.ang_check.specs.Typing.{typed_parameter, typed_parameters, this_parameter}
use Rattle.ang_source.specs.Sound as sound
use Rattle.ang_source.specs.Sound.{Module, IsVariable, IsStored, IsHostCallee}
use Rattle.ang_tree.specs.Stmt.{Every}
use Rattle.ang_check_sound.specs.Checked.{module_in}
use Rattle.ang_check_sound.specs.Built.{IsConstructorIn, IsBuiltContext}
use Rattle.ang_check_sound.proofs.Items.{every_joined, every_option, every_mapped, every_flat, every_placed, every_at, at_front}
use Rattle.ang_check_sound.proofs.Families.{IfWritten, default_holds}
use Rattle.ang_check_sound.proofs.Passings.{TakeAlike, params_alike}
use Rattle.ang_check_sound.proofs.Hosts.{Values, IsHost, hosts_there, IsHostProperty, property_there}
use Rattle.ang_check_sound.proofs.Types.{IsNameThere, name_there}

-- ---- values of enumerations

-- the view has the value's entry
abbrev pub HasValue : RegistrationList → EnumerationValue → Type 0
HasValue V v = IsSome (entry_at V v.entity.0)

value_by_there : (V : RegistrationList) (n : ℕ) (kind : EntryKind) (owner : Option EntityNo) → IsSome (entry_at V n) → IfSome (value_by n kind owner) (HasValue V)
value_by_there V n entry.HostType owner h = tt
value_by_there V n entry.Factory owner h = tt
value_by_there V n entry.Method owner h = tt
value_by_there V n entry.Property owner h = tt
value_by_there V n entry.Function owner h = tt
value_by_there V n entry.Global owner h = tt
value_by_there V n entry.Enumeration owner h = tt
value_by_there V n (entry.EnumValue v) None h = tt
value_by_there V n (entry.EnumValue v) (Some e) h = h

value_in_there : (V : RegistrationList) (n : ℕ) (o : Option Entry) → entry_at V n ≡ o → IfSome (value_in n o) (HasValue V)
value_in_there V n None e = tt
value_in_there V n (Some x) e = value_by_there V n x.kind x.owner (ap is_some e)

value_at_there : (V : RegistrationList) (n : ℕ) → IfSome (value_at V n) (HasValue V)
value_at_there V n = value_in_there V n (entry_at V n) refl

first_there : (V : RegistrationList) (found : List ℕ) → IfSome (first_value V found) (HasValue V)
first_there V [] = tt
first_there V (n ∷ rest) = value_at_there V n

-- of an enumeration, by its name
pub value_of_there : (V : RegistrationList) (n : ℕ) (name : List ℕ) → IfSome (value_of V n name) (HasValue V)
unfolding value_of
value_of_there V n name = first_there V (members V n name)

-- In a body:
module _ (s : BodyContext) where
  -- what there is for it
  abbrev pub Here : Module
  Here = module_in s.view s.names

  -- ---- variables and properties

  -- where n locals are alive
  abbrev pub IsMeant : ℕ → Resolution → Type 0
  IsMeant n (resolution.Variable x ty read_only) = IsVariable Here n x × (read_only ≡ false → IsStored Here n x)
  IsMeant n (resolution.Property h) = IsHostProperty s.view entry.Property h
  IsMeant n (resolution.Call c) = Unit {0}
  IsMeant n (resolution.Type k) = Unit {0}
  IsMeant n (resolution.Enumeration k) = Unit {0}
  IsMeant n (resolution.Value v) = HasValue s.view v
  IsMeant n (resolution.Refused why) = Unit {0}

  one_value_there : (n : ℕ) (v : Option EnumerationValue) → IfSome v (HasValue s.view) → IsMeant n (one_value v)
  one_value_there n None h = tt
  one_value_there n (Some v) h = h

  value_among_there : (n : ℕ) (found : List ℕ) → IsMeant n (value_among s.view found)
  value_among_there n [] = tt
  value_among_there n (k ∷ []) = one_value_there n (value_at s.view k) (value_at_there s.view k)
  value_among_there n (k ∷ m ∷ rest) = tt

  value_there : (n : ℕ) (name : List ℕ) → IsMeant n (value_meant s.view name)
  unfolding value_meant
  value_there n name = value_among_there n (values_named s.view name)

  host_there : (n : ℕ) (otherwise : Resolution) (g : Option SeenProperty) → IsMeant n otherwise → IfSome g (IsHostProperty s.view entry.Global)
      → IsMeant n (host_meant otherwise g)
  host_there n otherwise None o h = o
  host_there n otherwise (Some g) o h = (h.entity, h.writable)

  script_there : (n : ℕ) (otherwise : Resolution) (i : ℕ) (g : Option ScriptGlobal) (host : Option SeenProperty) → slice_get s.names.globals i ≡ g
      → IsMeant n otherwise → IfSome host (IsHostProperty s.view entry.Global) → IsMeant n (variable_meant otherwise i g host)
  script_there n otherwise i None host e o h = host_there n otherwise host o h
  script_there n otherwise i (Some g) host e o h = let there = slice_get_within s.names.globals i g e in (there, λ writable. there)

  global_there : (n : ℕ) (otherwise : Resolution) (i : Option ℕ) (host : Option SeenProperty) → IsMeant n otherwise
      → IfSome host (IsHostProperty s.view entry.Global) → IsMeant n (global_or_host otherwise s.names.globals i host)
  global_there n otherwise None host o h = host_there n otherwise host o h
  global_there n otherwise (Some i) host o h = script_there n otherwise i (slice_get s.names.globals i) host refl o h

  pub global_sound : (n : ℕ) (name : List ℕ) → IsMeant n (resolution_of (scope_of s) name asks.Value)
  unfolding global_meant
  global_sound n name =
      global_there n (value_meant s.view name) (global_named s.names.globals name) (property_where (property.Global name) s.view) (value_there n name)
      (property_there s.view (property.Global name))

  property_or_none : (n : ℕ) (g : Option SeenProperty) → IfSome g (IsHostProperty s.view entry.Property) → IsMeant n (property_meant g)
  property_or_none n None h = tt
  property_or_none n (Some g) h = h

  -- of objects of the type of number t
  pub property_sound : (n t : ℕ) (name : List ℕ) → IsMeant n (resolution_of (scope_of s) name (asks.Property t))
  property_sound n t name = property_or_none n (property_where (property.Member t name) s.view) (property_there s.view (property.Member t name))

  -- ---- functions

  -- The body of a constructor takes its object, and then these parameters.
  abbrev pub IsMaker : ℕ → Params → Type 0
  IsMaker k ps = (own : TypedParameter) × (qs : List TypedParameter) × (slice_get Here.parameters k ≡ Some (own ∷ qs)) × (own.pass ≢ pass.RefOut) × TakeAlike ps qs

  -- what is called with these parameters is there
  abbrev pub IsCallee : Called → Params → Type 0
  IsCallee (calls.Script f) ps = (qs : List TypedParameter) × (sound.parameters_of Here f ≡ Some qs) × TakeAlike ps qs
  IsCallee (calls.Host h) ps = IsHostCallee s.view h (length ps) × Values ps
  IsCallee (calls.Makes c None) ps = (c < length s.names.families) × (ps ≡ [])
  IsCallee (calls.Makes c (Some k)) ps = (c < length s.names.families) × IsMaker k ps

  abbrev pub IsCallable : Callable → Type 0
  IsCallable c = IsCallee c.called c.candidate.params

  own_one : (i : ℕ) (f : Option ScriptFunction) → slice_get s.names.functions i ≡ f → IfSome (callable_in own_function i f) IsCallable
  unfolding parameters_of
  own_one i None e = tt
  own_one i (Some f) e = (
    typed_parameters f,
    at_front (map typed_parameters s.names.functions) _ i (typed_parameters f)
        (slice_get-map typed_parameters s.names.functions i ∙ ap (option_map typed_parameters) e),
    params_alike f.params,
  )

  imported_one : (i : ℕ) (f : Option ScriptFunction) → slice_get s.names.imports i ≡ f → IfSome (callable_in imported_function i f) IsCallable
  unfolding parameters_of
  imported_one i None e = tt
  imported_one i (Some f) e = (
    typed_parameters f,
    slice_get-map typed_parameters s.names.imports i ∙ ap (option_map typed_parameters) e,
    params_alike f.params,
  )

  scripts_there : (name : List ℕ) → Every IsCallable (script_callables s.names name)
  unfolding script_callables
  scripts_there name =
      every_joined IsCallable _ _
      (every_flat IsCallable (callable_at own_function s.names.functions) (functions_named s.names.functions name)
      (λ i. every_option IsCallable (callable_in own_function i (slice_get s.names.functions i)) (own_one i (slice_get s.names.functions i) refl)))
      (every_flat IsCallable (callable_at imported_function s.names.imports) (functions_named s.names.imports name)
      (λ i. every_option IsCallable (callable_in imported_function i (slice_get s.names.imports i)) (imported_one i (slice_get s.names.imports i) refl)))

  function_one : (f : SeenFunction) → IsHost s.view entry.Function f → IsCallable (host_callable f)
  function_one f h = (record { kind = entry.Function; entity = h.entity; params = ap Some h.count }, h.values)

  maker_one : (t : ℕ) (f : SeenFunction) → IsHost s.view entry.Factory f → IsCallable (maker t f)
  maker_one t f h = (record { kind = entry.Factory; entity = h.entity; params = ap Some h.count }, h.values)

  -- its receiver is the first parameter
  method_one : (t : ℕ) (f : SeenFunction) → IsHost s.view entry.Method f → IsCallable (host_method t f)
  method_one t f h = (record { kind = entry.Method; entity = h.entity; params = ap (λ n. Some (suc n)) h.count }, (λ e. cc, h.values))

  functions_there : IsBuiltContext s → (name : List ℕ) → Every IsCallable (functions_of (scope_of s) name)
  functions_there built name =
      every_joined IsCallable (script_callables s.names name) (map host_callable (host_where (wanted.Function name) s.view)) (scripts_there name)
      (every_mapped (IsHost s.view entry.Function) IsCallable host_callable (host_where (wanted.Function name) s.view) function_one
      (hosts_there s.view (wanted.Function name) built.values))

  factories_there : IsBuiltContext s → (t : ℕ) → Every IsCallable (factories_of s.view t)
  factories_there built t =
      every_mapped (IsHost s.view entry.Factory) IsCallable (maker t) (host_where (wanted.Factory t) s.view) (maker_one t)
      (hosts_there s.view (wanted.Factory t) built.values)

  methods_there : IsBuiltContext s → (t : ℕ) (name : List ℕ) → Every IsCallable (host_methods s.view t name)
  methods_there built t name =
      every_mapped (IsHost s.view entry.Method) IsCallable (host_method t) (host_where (wanted.Method t name) s.view) (method_one t)
      (hosts_there s.view (wanted.Method t name) built.values)

  -- ---- what makes an object of a class

  constructor_one : (c : ℕ) → c < length s.names.families → (k : ScriptConstructor) → IsConstructorIn Here c k → IsCallable (constructor_of c k)
  unfolding parameters_of
  constructor_one c there k e =
      (there, (this_parameter (record { family = c; read_only = false }), typed_parameters k.function, e, (λ same. cc), params_alike k.function.params))

  nothing_taken : (k : ScriptConstructor) → takes_nothing k ≡ true → TakeAlike [] (typed_parameters k.function)
  nothing_taken k e = by k.function.params e
    where
      by : (ps : List ScriptParameter) → is_empty ps ≡ true → TakeAlike [] (map typed_parameter ps)
      by [] e = refl
      by (p ∷ ps) e = cc

  -- A body that makes an object without arguments takes its object alone.
  pub default_made : IsBuiltContext s → (d : ℕ) → IfWritten (λ k. IsMaker k []) (default_of s.names.families d)
  default_made built d =
      default_holds s.names.families (λ k. IsMaker k [])
      (λ c f there m k at nothing. (
        this_parameter (record { family = c; read_only = false }),
        typed_parameters k.function,
        (built.families c f there).constructors m k at,
        (λ same. cc),
        nothing_taken k nothing,
      )) d

  default_one : (c : ℕ) → c < length s.names.families → (d : Default) → IfWritten (λ k. IsMaker k []) d
      → Every IsCallable (default_maker c d)
  default_one c there default.Missing h = tt
  default_one c there default.Unwritten h = ((there, refl), tt)
  default_one c there (default.Written k) h = ((there, h), tt)

  makers_of_class : (b e : Bool) (xs ys : List Callable) → Every IsCallable xs → Every IsCallable ys → Every IsCallable (if b then (if e then xs else ys) else [])
  makers_of_class false e xs ys h k = tt
  makers_of_class true true xs ys h k = h
  makers_of_class true false xs ys h k = k

  makers_of_family : IsBuiltContext s → (c : ℕ) (f : Option Family) → slice_get s.names.families c ≡ f → Every IsCallable (makers_in s.names.families c f)
  makers_of_family built c None e = tt
  makers_of_family built c (Some f) e =
      let there = slice_get_within s.names.families c f e in
      makers_of_class f.is_class (is_empty f.constructors) (default_maker c (default_of s.names.families c)) (map (constructor_of c) f.constructors)
      (default_one c there (default_of s.names.families c) (default_made built c))
      (every_mapped (IsConstructorIn Here c) IsCallable (constructor_of c) f.constructors (constructor_one c there)
      (every_placed (IsConstructorIn Here c) f.constructors (built.families c f e).constructors))

  makers_by : IsBuiltContext s → (t : ℕ) (c : Option ℕ) → Every IsCallable (makers_for (scope_of s) t c)
  makers_by built t None = factories_there built t
  makers_by built t (Some c) = makers_of_family built c (slice_get s.names.families c) refl

  pub makers_there : IsBuiltContext s → (t : ℕ) → Every IsCallable (makers_of (scope_of s) t)
  unfolding makers_of
  makers_there built t = makers_by built t (family_of_type t)

  -- ---- the best of them

  -- a function that is there, with a parameter for each argument
  abbrev pub IsMeantCall : List ArgType → Resolution → Type 0
  IsMeantCall args (resolution.Variable x ty read_only) = Unit {0}
  IsMeantCall args (resolution.Property h) = Unit {0}
  IsMeantCall args (resolution.Call c) = IsCallable c × (length c.candidate.params ≡ length args)
  IsMeantCall args (resolution.Type k) = Unit {0}
  IsMeantCall args (resolution.Enumeration k) = IsSome (entry_at s.view k)
  IsMeantCall args (resolution.Value v) = Unit {0}
  IsMeantCall args (resolution.Refused why) = Unit {0}

  candidate_at : (cs : List Callable) (i : ℕ) (c : Callable) → slice_get cs i ≡ Some c → params_at (candidates_of cs) i ≡ c.candidate.params
  candidate_at cs i c e =
      ap (λ (o : Option Candidate). option_map_or (λ (k : Candidate). k.params) o []) (slice_get-map (λ (c : Callable). c.candidate) cs i ∙ ap (option_map (λ (c : Callable). c.candidate)) e)

  best_there : (cs : List Callable) (args : List ArgType) (i : ℕ) (c : Option Callable) → slice_get cs i ≡ c → Every IsCallable cs
      → length (params_at (candidates_of cs) i) ≡ length args → IsMeantCall args (called_at c)
  best_there cs args i None e all count = tt
  best_there cs args i (Some c) e all count = (every_at IsCallable cs i c all e, ap length (sym (candidate_at cs i c e)) ∙ count)

  picked_there : (unviable : ErrorKind) (cs : List Callable) (args : List ArgType) (p : Pick) → best_of s.ancestors (candidates_of cs) args ≡ p
      → Every IsCallable cs → IsMeantCall args (picked unviable cs p)
  picked_there unviable cs args pick.NoViable e all = tt
  picked_there unviable cs args pick.Ambiguous e all = tt
  picked_there unviable cs args (pick.One i) e all =
      best_there cs args i (slice_get cs i) refl all (((best_of-says s.ancestors (candidates_of cs) args).one i).0 e).viable.viable.equal_number

  pub those_there : (unviable : ErrorKind) (cs : List Callable) (args : List ArgType) → Every IsCallable cs
      → IsMeantCall args (best_of_those s.ancestors unviable cs args)
  unfolding best_of_those
  those_there unviable cs args all = picked_there unviable cs args (best_of s.ancestors (candidates_of cs) args) refl all

  -- nothing is meant where there is none to choose from
  or_unknown : (args : List ArgType) (b : Bool) (r : Resolution) → IsMeantCall args r
      → IsMeantCall args (if b then resolution.Refused kind.UnknownName else r)
  or_unknown args true r h = tt
  or_unknown args false r h = h

  -- an enumeration is no function
  enumeration_there : (k : ℕ) (args : List ArgType) (b : Bool) → IsSome (entry_at s.view k)
      → IsMeantCall args (if b then resolution.Enumeration k else resolution.Refused kind.NoMatch)
  enumeration_there k args true h = h
  enumeration_there k args false h = tt

  by_name : (built : IsBuiltContext s) (name : List ℕ) (args : List ArgType) (d : Named) → IsNameThere (space_of s) built.few d
      → IsMeantCall args (called_by (scope_of s) name args d)
  by_name built name args (named.Object t) h = those_there kind.NoMatch (makers_of (scope_of s) t) args (makers_there built t)
  by_name built name args (named.Enumeration k) h = enumeration_there k args (takes_number args) h
  by_name built name args named.Unknown h =
      let cs = functions_of (scope_of s) name in
      or_unknown args (is_empty cs) _ (those_there kind.NoMatch cs args (functions_there built name))

  pub call_there : IsBuiltContext s → (name : List ℕ) (args : List ArgType) → IsMeantCall args (resolution_of (scope_of s) name (asks.Call args))
  unfolding called_name
  call_there built name args = by_name built name args (type_of_name (space_of s) name) (name_there (space_of s) built.few name)

  -- on a receiver of the type of number t
  pub best_method_there : (cs : List Callable) (t : ℕ) (c : Bool) (args : List ArgType) → Every IsCallable cs
      → IsMeantCall (type.Object t c ∷ args) (best_method s.ancestors cs t c args)
  unfolding best_method
  best_method_there cs t c args all =
      or_unknown (type.Object t c ∷ args) (is_empty cs) _
      (those_there (unmatched s.ancestors cs t c args) cs (type.Object t c ∷ args) all)

  pub method_there : IsBuiltContext s → (name : List ℕ) (t : ℕ) (c : Bool) (args : List ArgType)
      → IsMeantCall (type.Object t c ∷ args) (resolution_of (scope_of s) name (asks.Method t c args))
  method_there built name t c args = best_method_there (host_methods s.view t name) t c args (methods_there built t name)

  pub make_there : IsBuiltContext s → (name : List ℕ) (t : ℕ) (args : List ArgType)
      → IsMeantCall args (resolution_of (scope_of s) name (asks.Make t args))
  make_there built name t args = those_there kind.NoMatch (factories_of s.view t) args (factories_there built t)

  pub default_there : IsBuiltContext s → (name : List ℕ) (t : ℕ) → IsMeantCall [] (resolution_of (scope_of s) name (asks.Default t))
  default_there built name t = those_there kind.NoDefault (factories_of s.view t) [] (factories_there built t)

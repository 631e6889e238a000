-- What a look-up in a view finds takes and gives what its declaration says, each handle of the entity's own driver.
use Rattle.std.specs.Prelude.{◌≡◌, ◌≢◌, ℕ, suc, ◌+◌, ◌-◌, ◌<◌, nat_lt, Bool, true, false, not, ◌&&◌, if◌then◌else◌, bytes_eq, List, [], ◌∷◌, ◌++◌, map, length, option_to_list, option_map, Option, Some, None, IfSome}
use Rattle.std.specs.Option.{option_or}
use Rattle.std.proofs.Common.{refl, ap, sym, ◌∙◌, subst, arith}
use Rattle.std.proofs.lemmas.Bool.{eqb-true, lt-ltb}
use Rattle.std.proofs.lemmas.List.Quantifiers.{position-Some}
use Rattle.std.proofs.lemmas.Option.{same_Some}
use Rattle.ang_kinds.specs.declared.mask.EntityNo.{EntityNo}
use Rattle.ang_kinds.specs.declared.types.Param.{Param}
use Rattle.ang_kinds.specs.declared.types.Pass.{Pass}
use Rattle.ang_kinds.specs.declared.types.Pass.TheVariants as pass
use Rattle.ang_kinds.specs.declared.types.Shape.{Shape}
use Rattle.ang_kinds.specs.declared.types.Shape.TheVariants as shape
use Rattle.ang_kinds.specs.declared.types.TypeRef.{TypeRef}
use Rattle.ang_kinds.specs.declared.types.TypeRef.TheVariants as ref
use Rattle.ang_view.specs.declared.entry.Entry.{Entry}
use Rattle.ang_view.specs.declared.entry.EntryKind.{EntryKind}
use Rattle.ang_view.specs.declared.entry.EntryKind.TheVariants as entry
use Rattle.ang_view.specs.Named.{is_factory}
use Rattle.ang_view.specs.Registration.{RegistrationList, entry_at, is_function, is_number}
use Rattle.ang_view.specs.Types.{enumeration_named, type_named, is_type_named}
use Rattle.ang_view.specs.Values.{AreValues, EntryTakesValues, TakesValues}
use Rattle.ang_types.specs.declared.arg_type.ArgType.{ArgType}
use Rattle.ang_types.specs.declared.arg_type.ArgType.TheVariants as type
use Rattle.ang_types.specs.Overloads.{Params}
use Rattle.ang_tree.specs.Stmt.{Every}
use Rattle.ang_names_known.specs.Spaces.{family_of_type}
use Rattle.ang_check_contest.specs.declared.host.SeenFunction.{SeenFunction}
use Rattle.ang_check_contest.specs.declared.host.SeenProperty.{SeenProperty}
use Rattle.ang_check_contest.specs.declared.host.Wanted.{Wanted}
use Rattle.ang_check_contest.specs.declared.host.Wanted.TheVariants as wanted
use Rattle.ang_check_contest.specs.declared.host.WantedProperty.{WantedProperty}
use Rattle.ang_check_contest.specs.declared.host.WantedProperty.TheVariants as property
use Rattle.ang_check_contest.specs.Host.{shaped, object_with, host_type, in_front, host_parameters, host_function, function_of_entry, is_method, is_wanted, found, scan, host_where, is_global, is_property, is_wanted_property, property_with, property_found, first_found, property_where}
use Rattle.ang_check_uses.specs.Uses.{entity_of, host_callable, maker, host_method}
use Rattle.ang_check_context.specs.Scope.{BodyContext}
use Rattle.ang_meaning.specs.declared.host.HostValueType.{HostValueType}
use Rattle.ang_meaning.specs.declared.host.HostValueType.TheVariants.{Nothing, Plain, Handle}
use Rattle.ang_meaning.specs.Environment as environment
use Rattle.ang_meaning.specs.Environment.{Environment, may_call, may_access, may_write, is_called_by}
use Rattle.ang_source.specs.Hosts.{host_type_of, is_member, is_asked, role_in, use_of, asked_as}
use Rattle.ang_source_typed.specs.Types.{SlotType, Number, Key, Family, Modules, driver_of, object_type, first_family, IsA}
use Rattle.ang_source_typed.specs.TypedProgram as typed
use Rattle.ang_source_typed.specs.TypedProgram.{Parameter, by_value, receiver_params, result_by, IsProperty}
use Rattle.ang_check_sound.proofs.Items.{every_joined, every_option, tested, first_true, second_true}
use Rattle.ang_check_laws.specs.HostTypes.{IsOwnType, AreOwnTypes, HasOwnTypes}
use Rattle.ang_check_laws.specs.Contexts.{place_type, IsDeclared, TakesOne, Takes, IsTypedCallable, IsTypedContext}

-- ---- kinds

function_kind : (k : EntryKind) → is_function k ≡ true → k ≡ entry.Function
function_kind entry.HostType e = cc
function_kind entry.Factory e = cc
function_kind entry.Method e = cc
function_kind entry.Property e = cc
function_kind entry.Function e = refl
function_kind entry.Global e = cc
function_kind entry.Enumeration e = cc
function_kind (entry.EnumValue v) e = cc

factory_kind : (k : EntryKind) → is_factory k ≡ true → k ≡ entry.Factory
factory_kind entry.HostType e = cc
factory_kind entry.Factory e = refl
factory_kind entry.Method e = cc
factory_kind entry.Property e = cc
factory_kind entry.Function e = cc
factory_kind entry.Global e = cc
factory_kind entry.Enumeration e = cc
factory_kind (entry.EnumValue v) e = cc

method_kind : (k : EntryKind) → is_method k ≡ true → k ≡ entry.Method
method_kind entry.HostType e = cc
method_kind entry.Factory e = cc
method_kind entry.Method e = refl
method_kind entry.Property e = cc
method_kind entry.Function e = cc
method_kind entry.Global e = cc
method_kind entry.Enumeration e = cc
method_kind (entry.EnumValue v) e = cc

global_kind : (k : EntryKind) → is_global k ≡ true → k ≡ entry.Global
global_kind entry.HostType e = cc
global_kind entry.Factory e = cc
global_kind entry.Method e = cc
global_kind entry.Property e = cc
global_kind entry.Function e = cc
global_kind entry.Global e = refl
global_kind entry.Enumeration e = cc
global_kind (entry.EnumValue v) e = cc

member_kind : (k : EntryKind) → is_property k ≡ true → k ≡ entry.Property
member_kind entry.HostType e = cc
member_kind entry.Factory e = cc
member_kind entry.Method e = cc
member_kind entry.Property e = refl
member_kind entry.Function e = cc
member_kind entry.Global e = cc
member_kind entry.Enumeration e = cc
member_kind (entry.EnumValue v) e = cc

-- ---- what is found

-- this list is the view from place n on
abbrev IsRest : RegistrationList → ℕ → RegistrationList → Type 0
IsRest V n xs = (i j : ℕ) → j ≡ n + i → entry_at xs i ≡ entry_at V j

next_rest : (V : RegistrationList) (n : ℕ) (x : Option Entry) (xs : RegistrationList) → IsRest V n (x ∷ xs) → IsRest V (n + 1) xs
next_rest V n x xs h i j e = h (suc i) j (omega arith)

all_rest : (V : RegistrationList) → IsRest V 0 V
all_rest V i j e = let same : i ≡ j = omega arith in ap (entry_at V) same

-- the function of an entry that is wanted
pub record IsFoundIn (V : RegistrationList) (w : Wanted) (f : SeenFunction) : Type 0 where
  pub entry : Entry
  pub there : entry_at V f.entity.0 ≡ Some entry
  pub wanted : is_wanted w entry ≡ true
  pub result : host_type V entry.signature.result ≡ Some f.result
  pub params : host_parameters V entry.signature.params ≡ Some f.params
  pub values : AreValues entry.signature.params

pub record IsPropertyIn (V : RegistrationList) (w : WantedProperty) (g : SeenProperty) : Type 0 where
  pub entry : Entry
  pub there : entry_at V g.entity.0 ≡ Some entry
  pub wanted : is_wanted_property w entry ≡ true
  pub result : host_type V entry.signature.result ≡ Some g.ty
  pub read_only : g.read_only ≡ entry.signature.read_only

module _ (V : RegistrationList) (w : Wanted) where
  function_found : (n : ℕ) (x : Entry) (o : Option ArgType) (qs : Option Params) → entry_at V n ≡ Some x → is_wanted w x ≡ true
      → AreValues x.signature.params → host_type V x.signature.result ≡ o → host_parameters V x.signature.params ≡ qs → IfSome (host_function n x o qs) (IsFoundIn V w)
  function_found n x None qs at is values result params = tt
  function_found n x (Some ty) None at is values result params = tt
  function_found n x (Some ty) (Some qs) at is values result params =
      record { entry = x; there = at; wanted = is; result = result; params = params; values = values }

  entry_found : (n : ℕ) (x : Option Entry) → x ≡ entry_at V n → EntryTakesValues x → IfSome (found w V n x) (IsFoundIn V w)
  entry_found n None at values = tt
  entry_found n (Some x) at values =
      tested (IsFoundIn V w) (is_wanted w x) (function_of_entry V n x) (λ e. function_found n x _ _ (sym at) e values.params refl refl)

  all_found : (n : ℕ) (xs : RegistrationList) → IsRest V n xs → TakesValues xs → Every (IsFoundIn V w) (scan (found w V) n xs)
  all_found n [] rest values = tt
  all_found n (x ∷ xs) rest values =
      every_joined (IsFoundIn V w) (option_to_list (found w V n x)) (scan (found w V) (n + 1) xs)
      (every_option (IsFoundIn V w) (found w V n x) (entry_found n x (rest 0 n (omega arith)) values.0))
      (all_found (n + 1) xs (next_rest V n x xs rest) values.1)

  pub each_found : TakesValues V → Every (IsFoundIn V w) (host_where w V)
  unfolding host_where
  each_found values = all_found 0 V (all_rest V) values

module _ (V : RegistrationList) (w : WantedProperty) where
  property_is : (n : ℕ) (x : Entry) (o : Option ArgType) → entry_at V n ≡ Some x → is_wanted_property w x ≡ true → host_type V x.signature.result ≡ o
      → IfSome (property_with n x o) (IsPropertyIn V w)
  property_is n x None at is result = tt
  property_is n x (Some ty) at is result = record { entry = x; there = at; wanted = is; result = result; read_only = refl }

  entry_property : (n : ℕ) (x : Option Entry) → x ≡ entry_at V n → IfSome (property_found w V n x) (IsPropertyIn V w)
  entry_property n None at = tt
  entry_property n (Some x) at =
      tested (IsPropertyIn V w) (is_wanted_property w x) (property_with n x (host_type V x.signature.result)) (λ e. property_is n x _ (sym at) e refl)

  either_property : (here rest : Option SeenProperty) → IfSome here (IsPropertyIn V w) → IfSome rest (IsPropertyIn V w) → IfSome (option_or here rest) (IsPropertyIn V w)
  either_property (Some g) rest h k = h
  either_property None rest h k = k

  all_properties : (n : ℕ) (xs : RegistrationList) → IsRest V n xs → IfSome (first_found (property_found w V) n xs) (IsPropertyIn V w)
  all_properties n [] rest = tt
  all_properties n (x ∷ xs) rest =
      either_property (property_found w V n x) (first_found (property_found w V) (n + 1) xs) (entry_property n x (rest 0 n (omega arith)))
      (all_properties (n + 1) xs (next_rest V n x xs rest))

  pub the_property : IfSome (property_where w V) (IsPropertyIn V w)
  unfolding property_where
  the_property = all_properties 0 V (all_rest V)

type_low : (V : RegistrationList) (name : List ℕ) (n : ℕ) → type_named V name ≡ Some n → n < length V
unfolding type_named
type_low V name n e = (position-Some (is_type_named name) V n None e).0

low_by : (n : ℕ) (b : Bool) → (if b then None else Some (n - first_family)) ≡ None → b ≡ true
low_by n true e = refl
low_by n false e = cc

-- the number of what is no family's type
pub low : (n : ℕ) → family_of_type n ≡ None → nat_lt n first_family ≡ true
low n e = low_by n (nat_lt n first_family) e

owned_by : (n : ℕ) (o : Option EntityNo) (P : ℕ → Type 0) → is_number n o ≡ true → IfSome o (λ (e : EntityNo). P e.0) → P n
owned_by n None P is h = cc
owned_by n (Some e) P is h = subst P (eqb-true e.0 n is) h

-- ---- what it takes and gives

module _ (z : Environment) (ms : Modules) (m : ℕ) (s : BodyContext) (c : IsTypedContext z ms m s) where
  abbrev T : ArgType → SlotType
  T ty = place_type z ms m ty

  -- an object of a type of the host is one of its driver
  pub key_of : (n d : ℕ) → nat_lt n first_family ≡ true → driver_of (entry_at s.view n) ≡ d → object_type (ms m).view m n ≡ Key d
  key_of n d is e =
      subst (λ b. (if b then Key (driver_of (entry_at (ms m).view n)) else Family m (n - first_family)) ≡ Key d) (sym is)
      (ap (λ V. Key (driver_of (entry_at V n))) c.view ∙ ap Key e)

  itself : (d : ℕ) (h : HostValueType) → IsA z ms (typed.host_type d h) (typed.host_type d h)
  itself d Nothing = tt
  itself d (Plain p) = tt
  itself d Handle = refl

  -- a type as scripts and as its driver have it
  abbrev Agrees : SlotType → ArgType → Type 0
  Agrees h ty = (place_type z ms m ty ≡ h) × (ty ≢ type.Null)

  shaped_agrees : (d : ℕ) (shape : Shape) (n : ℕ) (o : Bool) → object_type (ms m).view m n ≡ Key d → Agrees (Key d) (shaped shape n o)
  shaped_agrees d shape.ByValue n o e = (e, λ is. cc)
  shaped_agrees d shape.Handle n o e = (e, λ is. cc)
  shaped_agrees d shape.AutoHandle n o e = (e, λ is. cc)

  object_agrees : (d : ℕ) (name : List ℕ) (shape : Shape) (o : Bool) (n : Option ℕ) (ty : ArgType) → type_named s.view name ≡ n
      → ((k : ℕ) → type_named s.view name ≡ Some k → driver_of (entry_at s.view k) ≡ d) → object_with shape o n ≡ Some ty → Agrees (Key d) ty
  object_agrees d name shape o None ty at own e = cc
  object_agrees d name shape o (Some n) ty at own e =
      let less : n < first_family = omega (arith, type_low s.view name n at, c.few) in
      subst (λ u. Agrees (Key d) u) (same_Some (shaped shape n o) ty e) (shaped_agrees d shape n o (key_of n d (lt-ltb n first_family less) (own n at)))

  enumeration_agrees : (n : Option ℕ) (ty : ArgType) → option_map type.Enumeration n ≡ Some ty → Agrees Number ty
  enumeration_agrees None ty e = cc
  enumeration_agrees (Some n) ty e = subst (λ u. Agrees Number u) (same_Some (type.Enumeration n) ty e) (refl, λ is. cc)

  agrees : (d : ℕ) (r : TypeRef) (ty : ArgType) → host_type s.view r ≡ Some ty → IsOwnType s.view d r → Agrees (typed.host_type d (host_type_of r)) ty
  agrees d ref.Void ty e own = subst (λ u. Agrees Number u) (same_Some type.Void ty e) (refl, λ is. cc)
  agrees d (ref.Plain p) ty e own = subst (λ u. Agrees Number u) (same_Some (type.Plain p) ty e) (refl, λ is. cc)
  agrees d (ref.Enumeration name) ty e own = enumeration_agrees (enumeration_named s.view name) ty e
  agrees d (ref.Object name shape o h) ty e own = object_agrees d name shape o (type_named s.view name) ty refl own e

  one_taken : (d : ℕ) (h : HostValueType) (ty : ArgType) (way : Pass) → way ≢ pass.RefOut → Agrees (typed.host_type d h) ty → TakesOne z ms m (ty, way) (by_value (typed.host_type d h))
  one_taken d h ty way ne a = record {
    value = subst (λ u. IsA z ms u (typed.host_type d h)) (sym a.0) (itself d h);
    out = λ e. absurd (ne e);
    only = λ e. cc;
  }

  abbrev values_of : ℕ → List Param → List Parameter
  values_of d ps = map (λ ty. by_value (typed.host_type d ty)) (map (λ (p : Param). host_type_of p.ty) ps)

  front_taken : (d : ℕ) (p : Param) (ps : List Param) (o : Option ArgType) (rest : Option Params) (qs : Params) → host_type s.view p.ty ≡ o
      → host_parameters s.view ps ≡ rest → in_front o p.pass rest ≡ Some qs → IsOwnType s.view d p.ty → p.pass ≢ pass.RefOut
      → ((rs : Params) → host_parameters s.view ps ≡ Some rs → Takes z ms m rs (values_of d ps)) → Takes z ms m qs (values_of d (p ∷ ps))
  front_taken d p ps None rest qs at all e own ne h = cc
  front_taken d p ps (Some ty) None qs at all e own ne h = cc
  front_taken d p ps (Some ty) (Some rs) qs at all e own ne h =
      subst (λ q. Takes z ms m q (values_of d (p ∷ ps))) (same_Some ((ty, p.pass) ∷ rs) qs e)
      (one_taken d (host_type_of p.ty) ty p.pass ne (agrees d p.ty ty at own), h rs all)

  values_taken : (d : ℕ) (ps : List Param) (qs : Params) → host_parameters s.view ps ≡ Some qs → AreOwnTypes s.view d ps → AreValues ps → Takes z ms m qs (values_of d ps)
  values_taken d [] qs e own values = subst (λ q. Takes z ms m q []) (same_Some [] qs e) tt
  values_taken d (p ∷ ps) qs e own values =
      front_taken d p ps (host_type s.view p.ty) (host_parameters s.view ps) qs refl refl e own.0 values.0
      (λ rs at. values_taken d ps rs at own.1 values.1)

  -- how it is asked
  asked : (n : ℕ) (x : Entry) → entry_at s.view n ≡ Some x → is_asked x.kind ≡ true → z.host m n ≡ Some (use_of x)
  asked n x at is = c.host.each n ∙ ap asked_as at ∙ ap (λ b. if b then Some (use_of x) else None) is

  called : (x : Entry) (kind : EntryKind) → x.kind ≡ kind → is_called_by (role_in kind x.f) (is_member kind) ≡ true → may_call (Some (use_of x)) ≡ true
  called x kind is e = ap (λ k. is_called_by (role_in k x.f) (is_member k)) is ∙ e

  -- the declared types of an entry of the view
  own_types : (n : ℕ) (x : Entry) → entry_at s.view n ≡ Some x → HasOwnTypes s.view x
  own_types n x at = c.own n x at

  result_declared : (x : Entry) (ty : ArgType) → host_type s.view x.signature.result ≡ Some ty → HasOwnTypes s.view x → IsDeclared z ms m ty
  result_declared x ty e own =
      let a = agrees x.driver x.signature.result ty e own.result in
      record { not_null = a.1; itself = subst (λ u. IsA z ms u u) (sym a.0) (itself x.driver (host_type_of x.signature.result)) }

  result_is : (x : Entry) (ty : ArgType) → host_type s.view x.signature.result ≡ Some ty → HasOwnTypes s.view x
      → IsA z ms (typed.host_type x.driver (host_type_of x.signature.result)) (T ty)
  result_is x ty e own =
      let a = agrees x.driver x.signature.result ty e own.result in
      subst (λ u. IsA z ms (typed.host_type x.driver (host_type_of x.signature.result)) u) (sym a.0) (itself x.driver (host_type_of x.signature.result))

  -- the parameters of an entry of a kind, with a receiver or none
  abbrev params_of : Entry → Bool → List Parameter
  params_of x member = receiver_params (use_of x) member ++ values_of x.driver x.signature.params

  pub function_typed : (name : List ℕ) (f : SeenFunction) → IsFoundIn s.view (wanted.Function name) f → IsTypedCallable z ms m (host_callable f)
  function_typed name f h =
      let x = h.entry in
      let is : x.kind ≡ entry.Function = function_kind x.kind (first_true (is_function x.kind) (bytes_eq x.signature.name name) h.wanted) in
      let own = own_types f.entity.0 x h.there in record {
        declared = result_declared x f.result h.result own;
        gives = (
          use_of x,
          params_of x (is_member x.kind),
          asked f.entity.0 x h.there (ap is_asked is),
          called x entry.Function is refl,
          refl,
          subst (λ b. Takes z ms m f.params (params_of x b)) (sym (ap is_member is)) (values_taken x.driver x.signature.params f.params h.params own.params h.values),
          subst (λ k. IsA z ms (result_by x.driver (host_type_of x.signature.result) (role_in k x.f)) (T f.result)) (sym is) (result_is x f.result h.result own),
        );
      }

  owner_key : (n : ℕ) (x : Entry) → is_number n x.owner ≡ true → nat_lt n first_family ≡ true → HasOwnTypes s.view x → object_type (ms m).view m n ≡ Key x.driver
  owner_key n x is small own = key_of n x.driver small (owned_by n x.owner (λ k. driver_of (entry_at s.view k) ≡ x.driver) is own.owner)

  host_object : (n d : ℕ) (read_only : Bool) → object_type (ms m).view m n ≡ Key d → IsDeclared z ms m (type.Object n read_only)
  host_object n d read_only e = record { not_null = λ is. cc; itself = subst (λ u. IsA z ms u u) (sym e) refl }

  pub maker_typed : (n : ℕ) (f : SeenFunction) → nat_lt n first_family ≡ true → IsFoundIn s.view (wanted.Factory n) f → IsTypedCallable z ms m (maker n f)
  maker_typed n f small h =
      let x = h.entry in
      let is : x.kind ≡ entry.Factory = factory_kind x.kind (first_true (is_factory x.kind) (is_number n x.owner) h.wanted) in
      let own = own_types f.entity.0 x h.there in
      let key = owner_key n x (second_true (is_factory x.kind) (is_number n x.owner) h.wanted) small own in record {
        declared = host_object n x.driver false key;
        gives = (
          use_of x,
          params_of x (is_member x.kind),
          asked f.entity.0 x h.there (ap is_asked is),
          called x entry.Factory is refl,
          refl,
          subst (λ b. Takes z ms m f.params (params_of x b)) (sym (ap is_member is)) (values_taken x.driver x.signature.params f.params h.params own.params h.values),
          subst (λ k. IsA z ms (result_by x.driver (host_type_of x.signature.result) (role_in k x.f)) (object_type (ms m).view m n)) (sym is)
              (subst (λ u. IsA z ms (Key x.driver) u) (sym key) refl),
        );
      }

  pub method_typed : (n : ℕ) (name : List ℕ) (f : SeenFunction) → nat_lt n first_family ≡ true → IsFoundIn s.view (wanted.Method n name) f
      → IsTypedCallable z ms m (host_method n f)
  method_typed n name f small h =
      let x = h.entry in
      let tests = is_number n x.owner && bytes_eq x.signature.name name in
      let is : x.kind ≡ entry.Method = method_kind x.kind (first_true (is_method x.kind) tests h.wanted) in
      let own = own_types f.entity.0 x h.there in
      let key = owner_key n x (first_true (is_number n x.owner) (bytes_eq x.signature.name name) (second_true (is_method x.kind) tests h.wanted)) small own in
      let receiver : TakesOne z ms m (type.Object n f.read_only, pass.RefInOut) (by_value (Key x.driver)) =
      record { value = subst (λ u. IsA z ms u (Key x.driver)) (sym key) refl; out = λ e. cc; only = λ e. cc } in record {
        declared = result_declared x f.result h.result own;
        gives = (
          use_of x,
          params_of x (is_member x.kind),
          asked f.entity.0 x h.there (ap is_asked is),
          called x entry.Method is refl,
          refl,
          subst (λ b. Takes z ms m ((type.Object n f.read_only, pass.RefInOut) ∷ f.params) (params_of x b)) (sym (ap is_member is))
              (receiver, values_taken x.driver x.signature.params f.params h.params own.params h.values),
          subst (λ k. IsA z ms (result_by x.driver (host_type_of x.signature.result) (role_in k x.f)) (T f.result)) (sym is) (result_is x f.result h.result own),
        );
      }

  -- ---- properties

  may_ask : (x : Entry) (kind : EntryKind) → x.kind ≡ kind → environment.is_property (role_in kind x.f) ≡ true → may_access (Some (use_of x)) ≡ true
  may_ask x kind is e = ap (λ k. environment.is_property (role_in k x.f)) is ∙ e

  property_held : (x : Entry) (g : SeenProperty) (kind : EntryKind) (member : Bool) → entry_at s.view g.entity.0 ≡ Some x → x.kind ≡ kind → is_asked kind ≡ true
      → environment.is_property (role_in kind x.f) ≡ true → is_member kind ≡ member → host_type s.view x.signature.result ≡ Some g.ty
      → IsProperty z ms m (entity_of g) member x.driver (T g.ty)
  property_held x g kind member at is ask role of result = record {
    entity = use_of x;
    there = asked g.entity.0 x at (ap is_asked is ∙ ask);
    property = may_ask x kind is role;
    of_objects = ap is_member is ∙ of;
    by = refl;
    type = (agrees x.driver x.signature.result g.ty result (own_types g.entity.0 x at).result).0;
  }

  writes : (x : Entry) (g : SeenProperty) (kind : EntryKind) → entry_at s.view g.entity.0 ≡ Some x → x.kind ≡ kind → is_asked kind ≡ true
      → environment.is_property (role_in kind x.f) ≡ true → g.read_only ≡ x.signature.read_only → g.read_only ≡ false → may_write (z.host m g.entity.0) ≡ true
  writes x g kind at is ask role same free =
      ap may_write (asked g.entity.0 x at (ap is_asked is ∙ ask))
      ∙ ap (λ r. environment.is_property r && not (environment.is_property r && x.signature.read_only)) (ap (λ k. role_in k x.f) is)
      ∙ ap (λ b. b && not (b && x.signature.read_only)) role
      ∙ ap (λ b. not b) (sym same ∙ free)

  pub record IsTypedProperty (member : Bool) (g : SeenProperty) : Type 0 where
    pub driver : ℕ
    pub held : IsProperty z ms m (entity_of g) member driver (place_type z ms m g.ty)
    pub declared : IsDeclared z ms m g.ty
    pub writable : g.read_only ≡ false → may_write (z.host m g.entity.0) ≡ true

  pub global_property : (name : List ℕ) (g : SeenProperty) → IsPropertyIn s.view (property.Global name) g → IsTypedProperty false g
  global_property name g h =
      let x = h.entry in
      let is : x.kind ≡ entry.Global = global_kind x.kind (first_true (is_global x.kind) (bytes_eq x.signature.name name) h.wanted) in record {
        driver = x.driver;
        held = property_held x g entry.Global false h.there is refl refl refl h.result;
        declared = result_declared x g.ty h.result (own_types g.entity.0 x h.there);
        writable = λ free. writes x g entry.Global h.there is refl refl h.read_only free;
      }

  pub record IsTypedMember (n : ℕ) (g : SeenProperty) : Type 0 where
    pub property : IsTypedProperty true g
    pub object : object_type (ms m).view m n ≡ Key property.driver

  pub member_property : (n : ℕ) (name : List ℕ) (g : SeenProperty) → nat_lt n first_family ≡ true → IsPropertyIn s.view (property.Member n name) g → IsTypedMember n g
  member_property n name g small h =
      let x = h.entry in
      let tests = is_number n x.owner && bytes_eq x.signature.name name in
      let is : x.kind ≡ entry.Property = member_kind x.kind (first_true (is_property x.kind) tests h.wanted) in
      let own = own_types g.entity.0 x h.there in record {
        property = record {
          driver = x.driver;
          held = property_held x g entry.Property true h.there is refl refl refl h.result;
          declared = result_declared x g.ty h.result own;
          writable = λ free. writes x g entry.Property h.there is refl refl h.read_only free;
        };
        object = owner_key n x (first_true (is_number n x.owner) (bytes_eq x.signature.name name) (second_true (is_property x.kind) tests h.wanted)) small own;
      }

-- What a look-up in a view finds is an entity of the view, of the kind that is wanted.
use Rattle.std.specs.Prelude.{◌≡◌, ◌≢◌, ℕ, suc, ◌+◌, true, false, ◌&&◌, bytes_eq, List, [], ◌∷◌, length, option_to_list, Option, Some, None, IfSome}
use Rattle.std.specs.Option.{option_or}
use Rattle.std.proofs.Common.{refl, ap, sym, arith}
use Rattle.ang_kinds.specs.declared.types.Param.{Param}
use Rattle.ang_kinds.specs.declared.types.Pass.{Pass}
use Rattle.ang_kinds.specs.declared.types.Pass.TheVariants.{RefOut}
use Rattle.ang_view.specs.declared.entry.Entry.{Entry}
use Rattle.ang_view.specs.declared.entry.EntryKind.{EntryKind}
use Rattle.ang_view.specs.declared.entry.EntryKind.TheVariants as entry
use Rattle.ang_view.specs.Named.{is_factory}
use Rattle.ang_view.specs.Registration.{RegistrationList, entry_at, is_function, is_number}
use Rattle.ang_view.specs.Values.{AreValues, EntryTakesValues, TakesValues}
use Rattle.ang_types.specs.declared.arg_type.ArgType.{ArgType}
use Rattle.ang_typed.specs.declared.expression.HostEntity.{HostEntity}
use Rattle.ang_check_contest.specs.declared.host.SeenFunction.{SeenFunction}
use Rattle.ang_check_contest.specs.declared.host.SeenProperty.{SeenProperty}
use Rattle.ang_check_contest.specs.declared.host.Wanted.{Wanted}
use Rattle.ang_check_contest.specs.declared.host.Wanted.TheVariants as wanted
use Rattle.ang_check_contest.specs.declared.host.WantedProperty.{WantedProperty}
use Rattle.ang_check_contest.specs.declared.host.WantedProperty.TheVariants as property
use Rattle.ang_check_contest.specs.Host.{host_type, in_front, host_parameters, host_function, function_of_entry, is_method, is_wanted, found, scan, host_where, is_global, is_property, is_wanted_property, property_with, property_found, first_found, property_where}
use Rattle.ang_tree.specs.Stmt.{Every}
use Rattle.ang_source.specs.Sound.{IsEntity, IsWritable}
use Rattle.ang_check_sound.proofs.Items.{every_joined, every_option, tested, first_true}

-- no parameter is `&out`
abbrev pub Values : List (ArgType × Pass) → Type 0
Values [] = Unit {0}
Values (p ∷ ps) = (p.1 ≢ RefOut) × Values ps

-- what a tree calls
abbrev pub entity_of : SeenFunction → HostEntity
entity_of f = record { entity = f.entity; driver = f.driver; f = f.f }

-- what a tree reads and writes
abbrev pub property_of : SeenProperty → HostEntity
property_of g = record { entity = g.entity; driver = g.driver; f = g.f }

-- a function, a factory or a method of the view, with as many parameters, of which none is `&out`
pub record IsHost (V : RegistrationList) (kind : EntryKind) (f : SeenFunction) : Type 0 where
  pub entity : IsEntity V kind (entity_of f)
  pub count : length entity.entry.signature.params ≡ length f.params
  pub values : Values f.params

-- a property of the view, which may be written where it is not `const`
pub record IsHostProperty (V : RegistrationList) (kind : EntryKind) (g : SeenProperty) : Type 0 where
  pub entity : IsEntity V kind (property_of g)
  pub writable : g.read_only ≡ false → IsWritable V kind (property_of g)

-- ---- parameters

record Like (ps : List Param) (qs : List (ArgType × Pass)) : Type 0 where
  count : length ps ≡ length qs
  values : AreValues ps → Values qs

front_like : (p : Param) (ps : List Param) (o : Option ArgType) (rest : Option (List (ArgType × Pass)))
    → IfSome rest (Like ps) → IfSome (in_front o p.pass rest) (Like (p ∷ ps))
front_like p ps None rest h = tt
front_like p ps (Some ty) None h = tt
front_like p ps (Some ty) (Some qs) h = record {
  count = ap suc h.count;
  values = λ v. (v.0, h.values v.1);
}

params_like : (V : RegistrationList) (ps : List Param) → IfSome (host_parameters V ps) (Like ps)
params_like V [] = record { count = refl; values = λ v. tt }
params_like V (p ∷ ps) = front_like p ps (host_type V p.ty) (host_parameters V ps) (params_like V ps)

-- ---- kinds

function_kind : (k : EntryKind) → is_function k ≡ true → k ≡ entry.Function
function_kind entry.HostType e = cc
function_kind entry.Factory e = cc
function_kind entry.Method e = cc
function_kind entry.Property e = cc
function_kind entry.Function e = refl
function_kind entry.Global e = cc
function_kind entry.Enumeration e = cc
function_kind (entry.EnumValue v) e = cc

factory_kind : (k : EntryKind) → is_factory k ≡ true → k ≡ entry.Factory
factory_kind entry.HostType e = cc
factory_kind entry.Factory e = refl
factory_kind entry.Method e = cc
factory_kind entry.Property e = cc
factory_kind entry.Function e = cc
factory_kind entry.Global e = cc
factory_kind entry.Enumeration e = cc
factory_kind (entry.EnumValue v) e = cc

method_kind : (k : EntryKind) → is_method k ≡ true → k ≡ entry.Method
method_kind entry.HostType e = cc
method_kind entry.Factory e = cc
method_kind entry.Method e = refl
method_kind entry.Property e = cc
method_kind entry.Function e = cc
method_kind entry.Global e = cc
method_kind entry.Enumeration e = cc
method_kind (entry.EnumValue v) e = cc

global_kind : (k : EntryKind) → is_global k ≡ true → k ≡ entry.Global
global_kind entry.HostType e = cc
global_kind entry.Factory e = cc
global_kind entry.Method e = cc
global_kind entry.Property e = cc
global_kind entry.Function e = cc
global_kind entry.Global e = refl
global_kind entry.Enumeration e = cc
global_kind (entry.EnumValue v) e = cc

member_kind : (k : EntryKind) → is_property k ≡ true → k ≡ entry.Property
member_kind entry.HostType e = cc
member_kind entry.Factory e = cc
member_kind entry.Method e = cc
member_kind entry.Property e = refl
member_kind entry.Function e = cc
member_kind entry.Global e = cc
member_kind entry.Enumeration e = cc
member_kind (entry.EnumValue v) e = cc

-- what kind of entity is wanted
abbrev pub kind_wanted : Wanted → EntryKind
kind_wanted (wanted.Function name) = entry.Function
kind_wanted (wanted.Factory n) = entry.Factory
kind_wanted (wanted.Method n name) = entry.Method

has_kind : (w : Wanted) (x : Entry) → is_wanted w x ≡ true → x.kind ≡ kind_wanted w
has_kind (wanted.Function name) x e = function_kind x.kind (first_true (is_function x.kind) (bytes_eq x.signature.name name) e)
has_kind (wanted.Factory n) x e = factory_kind x.kind (first_true (is_factory x.kind) (is_number n x.owner) e)
has_kind (wanted.Method n name) x e =
    method_kind x.kind (first_true (is_method x.kind) (is_number n x.owner && bytes_eq x.signature.name name) e)

abbrev pub kind_of_property : WantedProperty → EntryKind
kind_of_property (property.Global name) = entry.Global
kind_of_property (property.Member n name) = entry.Property

property_has_kind : (w : WantedProperty) (x : Entry) → is_wanted_property w x ≡ true → x.kind ≡ kind_of_property w
property_has_kind (property.Global name) x e = global_kind x.kind (first_true (is_global x.kind) (bytes_eq x.signature.name name) e)
property_has_kind (property.Member n name) x e =
    member_kind x.kind (first_true (is_property x.kind) (is_number n x.owner && bytes_eq x.signature.name name) e)

-- this list is the view from place n on
abbrev IsRest : RegistrationList → ℕ → RegistrationList → Type 0
IsRest V n xs = (i j : ℕ) → j ≡ n + i → entry_at xs i ≡ entry_at V j

next_rest : (V : RegistrationList) (n : ℕ) (x : Option Entry) (xs : RegistrationList) → IsRest V n (x ∷ xs) → IsRest V (n + 1) xs
next_rest V n x xs h i j e = h (suc i) j (omega arith)

all_rest : (V : RegistrationList) → IsRest V 0 V
all_rest V i j e = let same : i ≡ j = omega arith in ap (entry_at V) same

-- ---- functions, factories and methods

module _ (V : RegistrationList) (w : Wanted) where
  abbrev Found : SeenFunction → Type 0
  Found f = IsHost V (kind_wanted w) f

  function_host : (n : ℕ) (x : Entry) (o : Option ArgType) (qs : Option (List (ArgType × Pass))) → entry_at V n ≡ Some x → x.kind ≡ kind_wanted w
      → AreValues x.signature.params → IfSome qs (Like x.signature.params) → IfSome (host_function n x o qs) Found
  function_host n x None qs at kind values like = tt
  function_host n x (Some ty) None at kind values like = tt
  function_host n x (Some ty) (Some qs) at kind values like = record {
    entity = record { entry = x; in_view = at; same_kind = kind; driver = refl; number = refl };
    count = like.count;
    values = like.values values;
  }

  entry_host : (n : ℕ) (x : Option Entry) → x ≡ entry_at V n → EntryTakesValues x → IfSome (found w V n x) Found
  entry_host n None at values = tt
  entry_host n (Some x) at values =
      tested Found (is_wanted w x) (function_of_entry V n x)
      (λ e. function_host n x (host_type V x.signature.result) (host_parameters V x.signature.params) (sym at) (has_kind w x e) values.params
      (params_like V x.signature.params))

  from_hosts : (n : ℕ) (xs : RegistrationList) → IsRest V n xs → TakesValues xs → Every Found (scan (found w V) n xs)
  from_hosts n [] rest values = tt
  from_hosts n (x ∷ xs) rest values =
      every_joined Found (option_to_list (found w V n x)) (scan (found w V) (n + 1) xs)
      (every_option Found (found w V n x) (entry_host n x (rest 0 n (omega arith)) values.0))
      (from_hosts (n + 1) xs (next_rest V n x xs rest) values.1)

  pub hosts_there : TakesValues V → Every (IsHost V (kind_wanted w)) (host_where w V)
  unfolding host_where
  hosts_there values = from_hosts 0 V (all_rest V) values

-- ---- properties

module _ (V : RegistrationList) (w : WantedProperty) where
  abbrev FoundProperty : SeenProperty → Type 0
  FoundProperty g = IsHostProperty V (kind_of_property w) g

  property_host : (n : ℕ) (x : Entry) (o : Option ArgType) → entry_at V n ≡ Some x → x.kind ≡ kind_of_property w → IfSome (property_with n x o) FoundProperty
  property_host n x None at kind = tt
  property_host n x (Some ty) at kind =
      let entity : IsEntity V (kind_of_property w) (record { entity = record { 0 = n }; driver = x.driver; f = x.f }) =
      record { entry = x; in_view = at; same_kind = kind; driver = refl; number = refl } in
      record { entity = entity; writable = λ e. record { entity = entity; not_const = e } }

  entry_property : (n : ℕ) (x : Option Entry) → x ≡ entry_at V n → IfSome (property_found w V n x) FoundProperty
  entry_property n None at = tt
  entry_property n (Some x) at =
      tested FoundProperty (is_wanted_property w x) (property_with n x (host_type V x.signature.result))
      (λ e. property_host n x (host_type V x.signature.result) (sym at) (property_has_kind w x e))

  either_property : (here rest : Option SeenProperty) → IfSome here FoundProperty → IfSome rest FoundProperty → IfSome (option_or here rest) FoundProperty
  either_property (Some g) rest h k = h
  either_property None rest h k = k

  from_properties : (n : ℕ) (xs : RegistrationList) → IsRest V n xs → IfSome (first_found (property_found w V) n xs) FoundProperty
  from_properties n [] rest = tt
  from_properties n (x ∷ xs) rest =
      either_property (property_found w V n x) (first_found (property_found w V) (n + 1) xs) (entry_property n x (rest 0 n (omega arith)))
      (from_properties (n + 1) xs (next_rest V n x xs rest))

  pub property_there : IfSome (property_where w V) (IsHostProperty V (kind_of_property w))
  unfolding property_where
  property_there = from_properties 0 V (all_rest V)

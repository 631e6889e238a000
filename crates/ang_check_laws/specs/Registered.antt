-- What registries hold (docs/HOST.md, "Registration" and "Groups"): what their calls make of one that is empty.
use Rattle.std.specs.Prelude.{ℕ, ℤ, false, List, [], ◌∷◌, Option, Some, None}
use Rattle.ang_kinds.specs.declared.mask.Mask.{Mask}
use Rattle.ang_registry.specs.Declarations.{declared_factory, declared_function, declared_method, declared_property, declared_type}
use Rattle.ang_registry.specs.Groups.{all_ended, refusal_of_begin, refusal_of_end, refusal_of_removal, with_ended, with_opened, without}
use Rattle.ang_registry.specs.Refusals.{refusal_of_blank, refusal_of_enumeration, refusal_of_factory, refusal_of_function, refusal_of_global, refusal_of_method, refusal_of_property, refusal_of_type, refusal_of_value, with_blank, with_enumeration, with_factory, with_function, with_global, with_method, with_property, with_type, with_value}
use Rattle.ang_registry.specs.Registrations.{Registrations}

-- a call of a registry, with the bytes that it is told
pub data RegistryCall : Type 0 where
  set_default_mask : Mask → RegistryCall
  type_ : List ℕ → ℕ → RegistryCall
  factory : List ℕ → ℕ → List ℕ → RegistryCall
  method : List ℕ → ℕ → List ℕ → RegistryCall
  property : List ℕ → ℕ → List ℕ → RegistryCall
  function : ℕ → ℕ → List ℕ → RegistryCall
  global_property : ℕ → ℕ → List ℕ → RegistryCall
  enum_ : List ℕ → RegistryCall
  enum_value : List ℕ → List ℕ → ℤ → RegistryCall
  blank : RegistryCall
  begin_group : List ℕ → RegistryCall
  end_group : RegistryCall
  remove_group : List ℕ → RegistryCall
  close : RegistryCall

-- a refused call changes nothing
abbrev pub where_accepted : {E : Type 0} → Option E → Registrations → Registrations → Registrations
where_accepted None new old = new
where_accepted (Some why) new old = old

abbrev pub after_call : Registrations → RegistryCall → Registrations
after_call r (set_default_mask mask) = record r { default_mask = mask }
after_call r (type_ name driver) = let d = declared_type name in where_accepted (refusal_of_type r driver d) (with_type r driver d) r
after_call r (factory name f text) = let d = declared_factory text in where_accepted (refusal_of_factory r name d) (with_factory r name f d) r
after_call r (method name f text) = let d = declared_method text in where_accepted (refusal_of_method r name d) (with_method r name f d) r
after_call r (property name f text) = let d = declared_property text in where_accepted (refusal_of_property r name d) (with_property r name f d) r
after_call r (function driver f text) = let d = declared_function text in where_accepted (refusal_of_function r driver d) (with_function r driver f d) r
after_call r (global_property driver f text) = let d = declared_property text in where_accepted (refusal_of_global r driver d) (with_global r driver f d) r
after_call r (enum_ name) = let d = declared_type name in where_accepted (refusal_of_enumeration r d) (with_enumeration r d) r
after_call r (enum_value enumeration name value) =
    let d = declared_type name in where_accepted (refusal_of_value r enumeration value d) (with_value r enumeration value d) r
after_call r blank = where_accepted (refusal_of_blank r) (with_blank r) r
after_call r (begin_group name) = where_accepted (refusal_of_begin r name) (with_opened r name) r
after_call r end_group = where_accepted (refusal_of_end r) (with_ended r) r
after_call r (remove_group name) = where_accepted (refusal_of_removal r name) (without r name) r
after_call r close = all_ended r

abbrev pub after_calls : Registrations → List RegistryCall → Registrations
after_calls r [] = r
after_calls r (c ∷ cs) = after_calls (after_call r c) cs

-- what a new registry holds
abbrev pub nothing : Registrations
nothing = record { default_mask = record { 0 = 1 }; entries = []; groups = []; is_open = false }

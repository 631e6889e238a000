-- Each list that a registry's calls make takes values alone and is short enough, and so is what a mask shows of it.
use Rattle.std.specs.Prelude.{◌≡◌, ◌≤◌, ◌<◌, ◌==◌, ℕ, ℤ, Bool, true, false, not, ◌||◌, is_none, if◌then◌else◌, nat_le, length, List, [], ◌∷◌, ◌++◌, Option, Some, None}
use Rattle.std.proofs.Common.{arith, refl, sym, subst}
use Rattle.std.proofs.lemmas.Bool.{leb-false}
use Rattle.std.proofs.lemmas.List.{length-append}
use Rattle.ang_kinds.specs.declared.types.Signature.{Signature}
use Rattle.ang_view.specs.declared.entry.Entry.{Entry}
use Rattle.ang_view.specs.declared.entry.EntryKind.{EntryKind}
use Rattle.ang_view.specs.declared.entry.EntryKind.TheVariants as entry
use Rattle.ang_view.specs.declared.group.Group.{Group}
use Rattle.ang_view.specs.Groups.{group_named, left_outside}
use Rattle.ang_view.specs.Registration.{RegistrationList, seen}
use Rattle.ang_view.specs.Types.{driver_at, enumeration_named, number_at, type_named}
use Rattle.ang_view.specs.Values.{EntryTakesValues}
use Rattle.ang_view.proofs.Keeping.{length-only, only_values}
use Rattle.ang_view.proofs.Seen.{length-seen}
use Rattle.ang_registry.specs.declared.error.RegError.TheVariants as error
use Rattle.ang_registry.specs.Declarations.{declared_factory, declared_function, declared_method, declared_property, declared_type}
use Rattle.ang_registry.specs.Groups.{refusal_of_begin, refusal_of_end, refusal_of_removal, where_found, with_ended, with_opened, without}
use Rattle.ang_registry.specs.Overloads.{is_taken}
use Rattle.ang_registry.specs.Refusals.{first_row, gives_own, has_many_parameters, is_over_limit, refusal_of_blank, refusal_of_enumeration, refusal_of_factory, refusal_of_function, refusal_of_global, refusal_of_member, refusal_of_method, refusal_of_own, refusal_of_property, refusal_of_type, refusal_of_value, where_declared, with_blank, with_entry_in, with_enumeration, with_factory, with_function, with_global, with_method, with_own, with_property, with_type, with_value}
use Rattle.ang_registry.specs.Registrations.{Registrations, grouped}
use Rattle.ang_registry.specs.Types.{is_misused, is_wrong_driver, names_unknown, settled}
use Rattle.ang_registry.specs.Written.{DeclaresWritten}
use Rattle.ang_registry.proofs.Values.{enum_value_values, enumeration_values, factory_values, function_values, global_values, last_takes, method_values, property_values, seen_takes, settled_values, type_values, written_takes}
use Rattle.ang_check_laws.specs.Registered.{RegistryCall, set_default_mask, type_, factory, method, property, function, global_property, enum_, enum_value, blank, begin_group, end_group, remove_group, close, where_accepted, after_call, after_calls, nothing}
use Rattle.ang_check_laws.specs.Narrowed.{TakesFewValues, RegistriesTakeValues}

-- ---- a new entry

-- In the tables of refusals, where no row applies: there is room, and the declaration fits.
passed : (limit mask bad unknown foreign taken : Bool)
    → first_row ((limit, error.Limit) ∷ (mask, error.EmptyMask) ∷ (bad, error.BadDeclaration) ∷ (unknown, error.UnknownType) ∷ (foreign, error.WrongDriver) ∷ (taken, error.Duplicate) ∷ []) ≡ None
    → (limit ≡ false) × (bad ≡ false) × (unknown ≡ false)
passed true mask bad unknown foreign taken e = cc
passed false true bad unknown foreign taken e = cc
passed false false true unknown foreign taken e = cc
passed false false false true foreign taken e = cc
passed false false false false true taken e = cc
passed false false false false false taken e = (refl, refl, refl)

value_passed : (limit bad unknown taken : Bool)
    → first_row ((limit, error.Limit) ∷ (bad, error.BadDeclaration) ∷ (unknown, error.UnknownType) ∷ (taken, error.Duplicate) ∷ []) ≡ None → limit ≡ false
value_passed true bad unknown taken e = cc
value_passed false bad unknown taken e = refl

second_false : (a b : Bool) → (a || b) ≡ false → b ≡ false
second_false true b e = cc
second_false false b e = e

first_false : (a b : Bool) → (a || b) ≡ false → a ≡ false
first_false true b e = cc
first_false false b e = refl

-- there is room, and what is declared is known and used as it can be
record IsAccepted (R : RegistrationList) (s : Signature) : Type 0 where
  room : length R < 1024
  used : is_misused R s ≡ false
  known : names_unknown R s ≡ false

room_in : (R : RegistrationList) (d : Option Signature) → is_over_limit R d ≡ false → length R < 1024
unfolding is_over_limit
room_in R d e = leb-false 1024 (length R) (first_false (nat_le 1024 (length R)) (where_declared has_many_parameters d) e)

own_accepted : (kind : EntryKind) (r : Registrations) (driver : ℕ) (s : Signature) → refusal_of_own kind r driver (Some s) ≡ None → IsAccepted r.entries s
unfolding refusal_of_own
own_accepted kind r driver s e =
    let rows = passed (is_over_limit r.entries (Some s)) (r.default_mask.0 == 0) (is_misused r.entries s) (names_unknown r.entries s)
    (is_wrong_driver r.entries kind driver s) (is_taken r.entries kind None s) e in
    record { room = room_in r.entries (Some s) rows.0; used = rows.1; known = rows.2 }

member_accepted : (kind : EntryKind) (r : Registrations) (name : List ℕ) (s : Signature) → refusal_of_member kind r name (Some s) ≡ None → IsAccepted r.entries s
unfolding refusal_of_member
member_accepted kind r name s e =
    let place = type_named r.entries name in
    let rows = passed (is_over_limit r.entries (Some s)) (r.default_mask.0 == 0) (not (gives_own kind name s) || is_misused r.entries s)
    (is_none place || names_unknown r.entries s) (is_wrong_driver r.entries kind (driver_at r.entries place) s) (is_taken r.entries kind (number_at place) s) e in
    record {
      room = room_in r.entries (Some s) rows.0;
      used = second_false (not (gives_own kind name s)) (is_misused r.entries s) rows.1;
      known = second_false (is_none place) (names_unknown r.entries s) rows.2;
    }

-- ---- a list with one more

one_more : (R : RegistrationList) (o : Option Entry) → TakesFewValues R → length R < 1024 → EntryTakesValues o → TakesFewValues (R ++ o ∷ [])
one_more R o h room fresh = record {
  values = last_takes R o h.values fresh;
  few = let many = length-append R (o ∷ []) in let less : length (R ++ o ∷ []) ≤ 1024 = omega (arith, room, many) in less;
}

module _ (r : Registrations) (h : TakesFewValues r.entries) where
  own_added : (kind : EntryKind) (driver f : ℕ) (d : Option Signature) → DeclaresWritten kind d → refusal_of_own kind r driver d ≡ None
      → TakesFewValues (with_own kind r driver f d).entries
  own_added kind driver f None w e = h
  own_added kind driver f (Some s) w e =
      let a = own_accepted kind r driver s e in
      one_more r.entries _ h a.room (written_takes r.entries kind s w a.used a.known)

  member_added : (kind : EntryKind) (name : List ℕ) (f : ℕ) (d : Option Signature) → DeclaresWritten kind d → refusal_of_member kind r name d ≡ None
      → TakesFewValues (with_entry_in kind r (type_named r.entries name) f d).entries
  member_added kind name f None w e = h
  member_added kind name f (Some s) w e =
      let a = member_accepted kind r name s e in
      one_more r.entries _ h a.room (written_takes r.entries kind s w a.used a.known)

  value_room : (value : ℤ) (name : List ℕ) (s : Signature) → refusal_of_value r name value (Some s) ≡ None → length r.entries < 1024
  unfolding refusal_of_value
  value_room value name s e =
      let place = enumeration_named r.entries name in
      room_in r.entries (Some s)
      (value_passed (is_over_limit r.entries (Some s)) false (is_none place) (is_taken r.entries (entry.EnumValue value) (number_at place) s) e)

  value_added : (value : ℤ) (enumeration : List ℕ) (d : Option Signature) → DeclaresWritten (entry.EnumValue value) d → refusal_of_value r enumeration value d ≡ None
      → TakesFewValues (with_value r enumeration value d).entries
  value_added value enumeration None w e = h
  value_added value enumeration (Some s) w e =
      one_more r.entries _ h (value_room value enumeration s e) (record { params = w.params; of_kind = tt })

  blank_room : (b : Bool) → (if b then Some error.Limit else None) ≡ None → b ≡ false
  blank_room true e = cc
  blank_room false e = refl

  accepted : {E : Type 0} (o : Option E) (new : Registrations) → (o ≡ None → TakesFewValues new.entries) → TakesFewValues (where_accepted o new r).entries
  accepted None new k = k refl
  accepted (Some why) new k = h

  removed : (g : Option Group) → TakesFewValues (where_found r g).entries
  removed None = h
  removed (Some g) = record {
    values = only_values (left_outside g) r.entries h.values;
    few = subst (λ (n : ℕ). n ≤ 1024) (sym (length-only (left_outside g) r.entries)) h.few;
  }

  ended : (b : Bool) → TakesFewValues (if b then with_ended r else r).entries
  ended true = h
  ended false = h

  declares : (kind : EntryKind) (d : Option Signature) → DeclaresWritten kind d → DeclaresWritten kind (settled r.entries d)
  declares kind d w = settled_values r.entries kind d (settled r.entries d) refl w

  call_takes : (c : RegistryCall) → TakesFewValues (after_call r c).entries
  call_takes (set_default_mask mask) = h
  call_takes (type_ name driver) =
      let d = declared_type name in
      accepted (refusal_of_type r driver d) (with_type r driver d)
      (λ e. own_added entry.HostType driver 0 (settled r.entries d) (declares entry.HostType d (type_values name d refl)) e)
  call_takes (factory name f text) =
      let d = declared_factory text in
      accepted (refusal_of_factory r name d) (with_factory r name f d)
      (λ e. member_added entry.Factory name f (settled r.entries d) (declares entry.Factory d (factory_values text d refl)) e)
  call_takes (method name f text) =
      let d = declared_method text in
      accepted (refusal_of_method r name d) (with_method r name f d)
      (λ e. member_added entry.Method name f (settled r.entries d) (declares entry.Method d (method_values text d refl)) e)
  call_takes (property name f text) =
      let d = declared_property text in
      accepted (refusal_of_property r name d) (with_property r name f d)
      (λ e. member_added entry.Property name f (settled r.entries d) (declares entry.Property d (property_values text d refl)) e)
  call_takes (function driver f text) =
      let d = declared_function text in
      accepted (refusal_of_function r driver d) (with_function r driver f d)
      (λ e. own_added entry.Function driver f (settled r.entries d) (declares entry.Function d (function_values text d refl)) e)
  call_takes (global_property driver f text) =
      let d = declared_property text in
      accepted (refusal_of_global r driver d) (with_global r driver f d)
      (λ e. own_added entry.Global driver f (settled r.entries d) (declares entry.Global d (global_values text d refl)) e)
  call_takes (enum_ name) =
      let d = declared_type name in
      accepted (refusal_of_enumeration r d) (with_enumeration r d)
      (λ e. own_added entry.Enumeration 0 0 (settled r.entries d) (declares entry.Enumeration d (enumeration_values name d refl)) e)
  call_takes (enum_value enumeration name value) =
      let d = declared_type name in
      accepted (refusal_of_value r enumeration value d) (with_value r enumeration value d)
      (λ e. value_added value enumeration d (enum_value_values value name d refl) e)
  call_takes blank =
      accepted (refusal_of_blank r) (with_blank r)
      (λ e. one_more r.entries None h (leb-false 1024 (length r.entries) (blank_room (nat_le 1024 (length r.entries)) e)) tt)
  call_takes (begin_group name) = accepted (refusal_of_begin r name) (with_opened r name) (λ e. h)
  call_takes end_group = accepted (refusal_of_end r) (with_ended r) (λ e. h)
  call_takes (remove_group name) = accepted (refusal_of_removal r name) (without r name) (λ e. removed (group_named name (grouped r)))
  call_takes close = ended r.is_open

calls_take : (r : Registrations) (cs : List RegistryCall) → TakesFewValues r.entries → TakesFewValues (after_calls r cs).entries
calls_take r [] h = h
calls_take r (c ∷ cs) h = calls_take (after_call r c) cs (call_takes r h c)

pub registries_take : RegistriesTakeValues
registries_take calls = calls_take nothing calls (record { values = tt; few = let less : 0 ≤ 1024 = omega arith in less })

-- and what a mask shows
pub seen_few : (R : RegistrationList) (m : ℕ) → TakesFewValues R → TakesFewValues (seen R m)
seen_few R m h = record { values = seen_takes R m h.values; few = subst (λ (n : ℕ). n ≤ 1024) (sym (length-seen R m)) h.few }

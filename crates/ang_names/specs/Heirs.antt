-- Families that stand above themselves, members that don't fit with what is inherited, and classes that reach themselves
-- (docs/LANGUAGE.md, "Names of a build"; the AngelScript manual, "Inheritance", "Interfaces" and "Memory management"; what is refused
-- is this profile's own).
use Rattle.std.specs.Prelude.{ℕ, Bool, true, false, not, ◌&&◌, ◌||◌, ◌==◌, nat_lt, if◌then◌else◌, List, [], ◌∷◌, drop, filter, find, Option, Some, None}
use Rattle.std.specs.List.{list_any, flat_map}
use Rattle.std.specs.Option.{option_or}
use Rattle.ang_kinds.specs.declared.error.ErrorKind.{ErrorKind}
use Rattle.ang_kinds.specs.declared.error.ErrorKind.TheVariants as kind
use Rattle.ang_kinds.specs.declared.place.Place.{Place}
use Rattle.ang_types.specs.declared.asks.Refused.{Refused}
use Rattle.ang_names_known.specs.declared.names.Access.{Access}
use Rattle.ang_names_known.specs.declared.names.Access.TheVariants as access
use Rattle.ang_names_known.specs.declared.names.Family.{Family}
use Rattle.ang_names_known.specs.declared.names.Field.{Field}
use Rattle.ang_names_known.specs.declared.names.ScriptMethod.{ScriptMethod}
use Rattle.ang_names_known.specs.Lookup.{Numbered, FoundMethod, families_at, method_in_slot, has_member, same_type}
use Rattle.ang_names_known.specs.Items.{is_empty}
use Rattle.ang_names_known.specs.Spaces.{Space}
use Rattle.ang_names_listed.specs.Declarations.{Declaring}
use Rattle.ang_types.specs.Refusals.{plain_refusal}
use Rattle.ang_names_classes.specs.Hierarchy.{stands_above, is_cyclic}

abbrev pub refused_at : ErrorKind → Place → List ℕ → Refused
refused_at why place name = plain_refusal (record { kind = why; place = place; name = name })

abbrev pub at_name : ErrorKind → Bool → Family → Option Refused
at_name why holds f = if holds then Some (refused_at why f.place f.name) else None

-- ---- one's own ancestor

-- family c stands above itself
abbrev pub ancestor_refusal : List Declaring → ℕ → Family → Option Refused
ancestor_refusal ds c f = at_name kind.BadBase (stands_above ds c c) f

-- ---- methods of interfaces

abbrev pub is_public : Access → Bool
is_public access.Public = true
is_public _ = false

-- a public method of the same result type stands in the slot, if one does
abbrev pub is_met_by : ScriptMethod → Option FoundMethod → Bool
is_met_by wanted None = false
is_met_by wanted (Some x) = is_public x.method.access && same_type x.method.function.result.ty wanted.function.result.ty

-- family c has the method, own or inherited
abbrev pub has_public_method : List Family → ℕ → ScriptMethod → Bool
has_public_method fs c wanted = is_met_by wanted (method_in_slot fs c wanted.slot)

-- the methods of interfaces among these families
abbrev pub of_interfaces : List Numbered → List ScriptMethod
of_interfaces fs = flat_map (λ (f : Numbered). if f.1.is_class then [] else f.1.methods) fs

-- the first of these methods that family c does not have
abbrev pub missing_among : List Family → ℕ → List ScriptMethod → Option ScriptMethod
missing_among fs c ms = find (λ (m : ScriptMethod). not (has_public_method fs c m)) ms

abbrev pub missing_by : Family → Option ScriptMethod → Option Refused
missing_by f None = None
missing_by f (Some m) = Some (refused_at kind.MissingMethod f.place m.function.name)

-- The first method, in order of sections and text, of an interface above the class that the class does not have, own or inherited.
abbrev pub missing_method : List Family → ℕ → Family → Option Refused
missing_method fs c f = missing_by f (missing_among fs c (of_interfaces (families_at fs f.above)))

-- ---- members

-- the base class, if there is one, has a member of this name, own or inherited
abbrev pub inherits : List Family → Option ℕ → List ℕ → Bool
inherits fs None name = false
inherits fs (Some b) name = has_member fs b name

-- a field named as a member that the class inherits
abbrev pub field_refusal : List Family → Family → Field → Option Refused
field_refusal fs f x = if inherits fs f.base x.name then Some (refused_at kind.Duplicate x.place x.name) else None

abbrev pub in_slot : ℕ → List ScriptMethod → List ScriptMethod
in_slot slot ms = filter (λ (x : ScriptMethod). x.slot == slot) ms

-- all methods of the base classes that the method would stand for, the nearest first
abbrev pub overridden : List Family → Family → ScriptMethod → List ScriptMethod
overridden fs f m = in_slot m.slot (flat_map (λ (b : Numbered). b.1.methods) (families_at fs (drop 1 f.order)))

abbrev pub cannot_override : ScriptMethod → ScriptMethod → Bool
cannot_override m old = old.is_final || not (same_type old.function.result.ty m.function.result.ty)

-- `override` of nothing, or a method stands for one that is final or has another result type
abbrev pub is_bad_override : ScriptMethod → List ScriptMethod → Bool
is_bad_override m olds = (m.is_override && is_empty olds) || list_any (cannot_override m) olds

abbrev pub method_refusal : List Family → Family → ScriptMethod → Option Refused
method_refusal fs f m =
    if is_bad_override m (overridden fs f m) then Some (refused_at kind.BadOverride m.function.place m.function.name) else None

abbrev pub first_refused : {A : Type 0} → (A → Option Refused) → List A → Option Refused
first_refused p [] = None
first_refused p (x ∷ xs) = option_or (p x) (first_refused p xs)

-- the first in the text, of two in one section
abbrev pub is_before : Place → Place → Bool
is_before p q = nat_lt p.line q.line || (p.line == q.line && nat_lt p.column q.column)

abbrev pub earlier : Option Refused → Option Refused → Option Refused
earlier None r = r
earlier (Some r) None = Some r
earlier (Some r) (Some s) = if is_before s.error.place r.error.place then Some s else Some r

abbrev pub class_refusal : List Family → ℕ → Family → Option Refused
class_refusal fs c f =
    option_or (missing_method fs c f) (earlier (first_refused (field_refusal fs f) f.fields) (first_refused (method_refusal fs f) f.methods))

-- Why the class of this number does not fit with what it inherits: first, at its name, what it is missing, then its members in the
-- order of the text. Nothing is asked of an interface.
unfoldable pub heir_refusal : List Family → ℕ → Family → Option Refused
heir_refusal fs c f = if f.is_class then class_refusal fs c f else None

-- ---- what reaches itself

-- class c reaches itself through what its fields can hold
abbrev pub cycle_refusal : Space → List Declaring → ℕ → Family → Option Refused
cycle_refusal E ds c f = at_name kind.Cyclic (is_cyclic E ds c) f

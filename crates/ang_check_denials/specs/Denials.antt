-- The rows of denials of one refused use (docs/LANGUAGE.md, "Denials"; the AngelScript manual, "Access masks and exposing different
-- interfaces"): the hidden entries by which it would have been resolved, told by the same resolver over a larger view.
use Rattle.std.specs.Prelude.{ℕ, ◌≡◌, ◌==◌, Bool, true, false, not, ◌&&◌, ◌||◌, List, [], map, filter, Option, Some, None}
use Rattle.std.specs.List.{list_any}
use Rattle.ang_kinds.specs.declared.error.Denial.{Denial}
use Rattle.ang_kinds.specs.declared.mask.Mask.{Mask}
use Rattle.ang_types.specs.declared.asks.Asks.{Asks}
use Rattle.ang_types.specs.declared.asks.Asks.TheVariants as asks
use Rattle.ang_types.specs.declared.asks.Refused.{Refused}
use Rattle.ang_typed.specs.declared.expression.TypedVariable.{TypedVariable}
use Rattle.ang_typed.specs.declared.expression.TypedVariable.TheVariants as variable
use Rattle.ang_view.specs.declared.entry.Entry.{Entry}
use Rattle.ang_view.specs.Hidden.{is_hidden, is_unmet, is_with, numbers_of, seen_with}
use Rattle.ang_view.specs.Registration.{RegistrationList, entry_at, is_function}
use Rattle.ang_check_uses.specs.declared.uses.Called.{Called}
use Rattle.ang_check_uses.specs.declared.uses.Called.TheVariants as calls
use Rattle.ang_check_uses.specs.declared.uses.Resolution.{Resolution}
use Rattle.ang_check_uses.specs.declared.uses.Resolution.TheVariants as resolution
use Rattle.ang_names_known.specs.declared.space.Named.{Named}
use Rattle.ang_names_known.specs.declared.space.Named.TheVariants as named
use Rattle.ang_names_known.specs.Lookup.{is_declared}
use Rattle.ang_names_known.specs.Items.{is_empty}
use Rattle.ang_names_known.specs.Spaces.{space_of_names, type_of_name}
use Rattle.ang_check_uses.specs.Uses.{resolution_of, functions_of}
use Rattle.ang_check_contest.specs.Scopes.{Scope}

-- ---- what a use means

abbrev pub is_variable : ℕ → TypedVariable → Bool
is_variable x (variable.Property h) = h.entity.0 == x
is_variable x _ = false

abbrev pub is_called : ℕ → Called → Bool
is_called x (calls.Host h) = h.entity.0 == x
is_called x _ = false

-- the use means entry x
abbrev pub means_entry : ℕ → Resolution → Bool
means_entry x (resolution.Variable v ty read_only) = is_variable x v
means_entry x (resolution.Property h) = h.entity.0 == x
means_entry x (resolution.Call c) = is_called x c.called
means_entry x (resolution.Type n) = n == x
means_entry x (resolution.Enumeration n) = n == x
means_entry x (resolution.Value v) = v.entity.0 == x
means_entry x (resolution.Refused why) = false

-- ---- names that stay the script's

-- the use of a bare name, a type's in a declaration that makes an object and an enumeration's in front of `::` included
abbrev pub is_bare : Asks → Bool
is_bare (asks.Property n) = false
is_bare (asks.Method n c args) = false
is_bare _ = true

abbrev pub is_call : Asks → Bool
is_call (asks.Call args) = true
is_call _ = false

abbrev pub is_function_entry : Option Entry → Bool
is_function_entry None = false
is_function_entry (Some x) = is_function x.kind

-- an added function joins functions of the name, the script's or those that are seen
abbrev pub joins : Scope → Refused → Asks → Option Entry → Bool
joins s r a x = is_call a && (is_function_entry x && not (is_empty (functions_of s r.error.name)))

-- a type is found
abbrev pub is_known : Named → Bool
is_known named.Unknown = false
is_known _ = true

-- The use means a type that is seen, by its name, whatever local or member has the name too: a call of such a name, and a declaration that
-- makes an object.
abbrev pub is_of_type : Scope → List ℕ → Asks → Bool
is_of_type s name (asks.Call args) = is_known (type_of_name (space_of_names s.view s.names) name)
is_of_type s name (asks.Make n args) = true
is_of_type s name (asks.Default n) = true
is_of_type s name _ = false

-- the script declares the name, or has it there as a local or a member, where the use means no seen type
abbrev pub is_own : Scope → Refused → Asks → Bool
is_own s r a = is_declared s.names.declared r.error.name || (r.is_there && not (is_of_type s r.error.name a))

-- A bare name that is the script's own stays so, but that a function joins functions of it.
abbrev pub stays : Scope → Refused → Asks → Option Entry → Bool
stays s r a x = is_bare a && (is_own s r a && not (joins s r a x))

-- the use is one of a bare name that is the script's own
abbrev pub is_taken : Scope → Refused → Asks → Bool
is_taken s r a = is_bare a && is_own s r a

-- ---- the rows

-- x is hidden, and with it and its types added the use means x
abbrev pub helps : RegistrationList → ℕ → Scope → Refused → Asks → ℕ → Bool
helps R m s r a x =
    is_hidden R m x && (not (stays s r a (entry_at R x))
    && means_entry x (resolution_of (record s { view = seen_with R m x }) r.error.name a))

-- entry y has a row: one that comes with such an x, and whose own mask is not met
abbrev pub denied : RegistrationList → ℕ → Scope → Refused → Asks → ℕ → Bool
denied R m s r a y = is_unmet R m y && list_any (λ x. helps R m s r a x && is_with R x y) (numbers_of R)

abbrev pub mask_of : Option Entry → Mask
mask_of None = record { 0 = 0 }
mask_of (Some y) = y.mask

abbrev pub row : RegistrationList → ℕ → Refused → ℕ → Denial
row R m r y = record {
  place = r.error.place;
  entity = record { 0 = y };
  entity_mask = mask_of (entry_at R y);
  module_mask = record { 0 = m };
}

-- the numbers of the entries that a use is denied, rising
abbrev pub numbers_asked : RegistrationList → ℕ → Scope → Refused → Option Asks → List ℕ
numbers_asked R m s r None = []
numbers_asked R m s r (Some a) = filter (denied R m s r a) (numbers_of R)

-- Two uses ask the same of the same name: they are denied the same entries.
pub record IsSameUse (r q : Refused) : Type 0 where
  pub name : r.error.name ≡ q.error.name
  pub asks : r.asks ≡ q.asks
  pub is_there : r.is_there ≡ q.is_there

abbrev pub rows_asked : RegistrationList → ℕ → Scope → Refused → Option Asks → List Denial
rows_asked R m s r None = []
rows_asked R m s r (Some a) = map (row R m r) (filter (denied R m s r a) (numbers_of R))

-- the rows of one refusal, in the order of entries, none twice
abbrev pub rows_for : RegistrationList → ℕ → Scope → Refused → List Denial
rows_for R m s r = rows_asked R m s r r.asks

-- Names that are taken, and too many of them (docs/LANGUAGE.md, "Names of a build"; the AngelScript manual, "Function
-- overloading"; the limits are this profile's own): types, functions and globals, those that the module sees of the host's
-- included, share one space of names. Imports are functions there.
use Rattle.std.specs.Prelude.{ℕ, ◌==◌, Bool, true, false, ◌&&◌, ◌||◌, if◌then◌else◌, List, [], Option, Some, None, option_to_list, bytes_eq, length, count_by}
use Rattle.std.specs.List.{list_any}
use Rattle.ang_kinds.specs.declared.error.ErrorKind.TheVariants as kind
use Rattle.ang_kinds.specs.declared.types.Param.{Param}
use Rattle.ang_tree.specs.declared.declaration.Parameter.{Parameter}
use Rattle.ang_types.specs.declared.asks.Refused.{Refused}
use Rattle.ang_types.specs.Refusals.{plain_refusal}
use Rattle.ang_view.specs.declared.entry.Entry.{Entry}
use Rattle.ang_view.specs.declared.entry.EntryKind.{EntryKind}
use Rattle.ang_view.specs.declared.entry.EntryKind.TheVariants as entry
use Rattle.ang_view.specs.Registration.{RegistrationList}
use Rattle.ang_names_known.specs.Items.{each_after}
use Rattle.ang_names_known.specs.Spaces.{most_families}
use Rattle.ang_names_listed.specs.declared.listed.ListedDeclaration.{ListedDeclaration}
use Rattle.ang_names_listed.specs.declared.listed.Part.{Part}
use Rattle.ang_names_listed.specs.declared.listed.Part.TheVariants as part
use Rattle.ang_names_listed.specs.Declarations.{declared_name, families_of}
use Rattle.ang_names_listed.specs.Sources.{error_at}
use Rattle.ang_names_listed.specs.Spellings.{same_spellings, same_as_host}

-- ---- against earlier declarations

-- what a function with these parameters can't stand beside, under its name
abbrev pub excludes_function : List ℕ → List Parameter → List ℕ → Part → Bool
excludes_function text ps other (part.Family s) = true
excludes_function text ps other (part.Function y qs) = same_spellings text ps other qs
excludes_function text ps other (part.Import y qs) = same_spellings text ps other qs
excludes_function text ps other (part.Global y) = true

-- Functions of one name differ in their parameters; nothing else shares a name.
abbrev pub excludes : List ℕ → Part → List ℕ → Part → Bool
excludes text (part.Family s) other q = true
excludes text (part.Function y ps) other q = excludes_function text ps other q
excludes text (part.Import y ps) other q = excludes_function text ps other q
excludes text (part.Global y) other q = true

-- the declaration can't stand beside the earlier one
abbrev pub clashes : ListedDeclaration → ListedDeclaration → Bool
clashes d earlier = bytes_eq (declared_name d) (declared_name earlier) && excludes d.text d.part earlier.text earlier.part

-- ---- against the host's names

-- what a declaration can't stand beside, of a host function with these parameters
abbrev pub excludes_host_function : List ℕ → Part → List Param → Bool
excludes_host_function text (part.Family s) qs = true
excludes_host_function text (part.Function y ps) qs = same_as_host text ps qs
excludes_host_function text (part.Import y ps) qs = same_as_host text ps qs
excludes_host_function text (part.Global y) qs = true

-- a type's factories, methods and properties have names of their own, and so have an enumeration's values
abbrev pub excludes_host : List ℕ → Part → EntryKind → List Param → Bool
excludes_host text p entry.HostType qs = true
excludes_host text p entry.Factory qs = false
excludes_host text p entry.Method qs = false
excludes_host text p entry.Property qs = false
excludes_host text p entry.Function qs = excludes_host_function text p qs
excludes_host text p entry.Global qs = true
excludes_host text p entry.Enumeration qs = true
excludes_host text p (entry.EnumValue v) qs = false

abbrev pub clashes_with_host : ListedDeclaration → Option Entry → Bool
clashes_with_host d None = false
clashes_with_host d (Some x) = bytes_eq (declared_name d) x.signature.name && excludes_host d.text d.part x.kind x.signature.params

-- The declaration's name is taken: by an earlier declaration, a refused one too, or by what the module sees of the host's.
unfoldable pub is_taken : RegistrationList → List ListedDeclaration → ListedDeclaration → Bool
is_taken V before d = list_any (clashes d) before || list_any (clashes_with_host d) V

-- ---- how many

abbrev pub most_functions : ℕ
most_functions = 4096

abbrev pub most_imports : ℕ
most_imports = 256

abbrev pub most_globals : ℕ
most_globals = 4096

abbrev pub declares_family : Part → Bool
declares_family (part.Family s) = true
declares_family _ = false

abbrev pub declares_function : Part → Bool
declares_function (part.Function y ps) = true
declares_function _ = false

abbrev pub declares_import : Part → Bool
declares_import (part.Import y ps) = true
declares_import _ = false

abbrev pub declares_global : Part → Bool
declares_global (part.Global y) = true
declares_global _ = false

-- as many of its kind stand before it as a module can have, so it is the first above
abbrev pub is_first_above : List ListedDeclaration → Part → Bool
is_first_above before (part.Family s) = length (families_of before) == most_families
is_first_above before (part.Function y ps) = count_by (λ (d : ListedDeclaration). declares_function d.part) before == most_functions
is_first_above before (part.Import y ps) = count_by (λ (d : ListedDeclaration). declares_import d.part) before == most_imports
is_first_above before (part.Global y) = count_by (λ (d : ListedDeclaration). declares_global d.part) before == most_globals

-- What is refused of a declaration's name, at the name, after the declarations before it.
unfoldable pub name_refusal : RegistrationList → List ListedDeclaration → ListedDeclaration → Option Refused
name_refusal V before d =
    if is_taken V before d then Some (plain_refusal (error_at kind.Duplicate d.text d.name))
    else (if is_first_above before d.part then Some (plain_refusal (error_at kind.Limit d.text d.name)) else None)

-- what something says of each declaration, after those before it
abbrev pub each_refused : (List ListedDeclaration → ListedDeclaration → Option Refused) → List ListedDeclaration → List Refused
each_refused p all = each_after (λ before d. option_to_list (p before d)) [] all

-- What is refused of all names, in order.
unfoldable pub name_refusals : RegistrationList → List ListedDeclaration → List Refused
name_refusals V all = each_refused (name_refusal V) all

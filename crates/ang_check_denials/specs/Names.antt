-- The names by which uses can mean entries, and hidden entries by these names.
use Rattle.std.specs.Prelude.{ℕ, ◌≡◌, Bool, false, ◌&&◌, if◌then◌else◌, List, [], ◌∷◌, ◌++◌, filter, Option, Some, None, bytes_eq}
use Rattle.ang_index.specs.Rows.{Rows, items_at}
use Rattle.ang_kinds.specs.declared.mask.EntityNo.{EntityNo}
use Rattle.ang_types.specs.declared.asks.Asks.{Asks}
use Rattle.ang_types.specs.declared.asks.Asks.TheVariants as asks
use Rattle.ang_view.specs.declared.entry.Entry.{Entry}
use Rattle.ang_view.specs.Hidden.{is_hidden, numbers_of}
use Rattle.ang_view.specs.Named.{is_factory}
use Rattle.ang_view.specs.Registration.{RegistrationList, entry_at, is_type}

-- ---- names

abbrev pub own_name : Option Entry → List ℕ
own_name None = []
own_name (Some x) = x.signature.name

abbrev pub owner_name : RegistrationList → Option EntityNo → List ℕ
owner_name R None = []
owner_name R (Some n) = own_name (entry_at R n.0)

-- the name by which uses can mean an entry: a factory is meant by its type's
abbrev pub name_meant : RegistrationList → Option Entry → List ℕ
name_meant R None = []
name_meant R (Some x) = if is_factory x.kind then owner_name R x.owner else x.signature.name

-- the name of the entries that a use of this name can mean: a declaration that makes an object asks for factories
abbrev pub name_sought : RegistrationList → List ℕ → Asks → List ℕ
name_sought R name asks.Value = name
name_sought R name asks.Type = name
name_sought R name asks.Enumeration = name
name_sought R name (asks.Call args) = name
name_sought R name (asks.Make n args) = own_name (entry_at R n)
name_sought R name (asks.Default n) = own_name (entry_at R n)
name_sought R name (asks.Property n) = name
name_sought R name (asks.Method n c args) = name

-- ---- hidden entries by name

-- entry x is hidden, and uses of this name can mean it
abbrev pub is_hidden_named : RegistrationList → ℕ → List ℕ → ℕ → Bool
is_hidden_named R m name x = is_hidden R m x && bytes_eq (name_meant R (entry_at R x)) name

-- the numbers of the hidden entries that uses of this name can mean, rising
unfoldable pub hidden_named : RegistrationList → ℕ → List ℕ → List ℕ
hidden_named R m name = filter (is_hidden_named R m name) (numbers_of R)

-- entry x is put in under its name, where it is hidden
abbrev pub PutsHidden : RegistrationList → ℕ → ℕ → Rows ℕ → Rows ℕ → Type 0
PutsHidden R m x old new = (name : List ℕ) →
    items_at 0 name new ≡ items_at 0 name old ++ (if is_hidden_named R m name x then x ∷ [] else [])

-- the rows have the hidden entries under their names, in scope 0
pub record HasHidden (R : RegistrationList) (m : ℕ) (rows : Rows ℕ) : Type 0 where
  pub numbers : (name : List ℕ) → items_at 0 name rows ≡ hidden_named R m name

-- the numbers of the hidden entries that a use can mean
abbrev pub help_row : RegistrationList → ℕ → List ℕ → Asks → List ℕ
help_row R m name a = hidden_named R m (name_sought R name a)

-- ---- types by name

-- an object type or an enumeration of this name
abbrev pub is_a_type_named : List ℕ → Option Entry → Bool
is_a_type_named name None = false
is_a_type_named name (Some t) = is_type t.kind && bytes_eq t.signature.name name

-- the numbers of the object types and the enumerations of a name, rising
unfoldable pub types_named : RegistrationList → List ℕ → List ℕ
types_named R name = filter (λ k. is_a_type_named name (entry_at R k)) (numbers_of R)

-- The kinds of parameters by number. A kind is a type and a passing. The first two numbers are those of the receiver of a method, one that may be
-- changed and one that is read only, of whatever type the method is called on; the others are those of kinds in a list.
use Rattle.std.specs.Prelude.{ℕ, ◌≡◌, Bool, true, false, ◌&&◌, ◌==◌, List, ◌∷◌, map, slice_get, Option, Some, option_map}
use Rattle.ang_kinds.specs.declared.types.Pass.{Pass}
use Rattle.ang_kinds.specs.declared.types.Pass.TheVariants as pass
use Rattle.ang_types.specs.declared.arg_type.ArgType.{ArgType}
use Rattle.ang_types.specs.declared.arg_type.ArgType.TheVariants as type
use Rattle.ang_types.specs.Overloads.{Params}
use Rattle.ang_view.specs.Numbers.{pass_number}
use Rattle.ang_names_known.specs.declared.names.ScriptFunction.{ScriptFunction}
use Rattle.ang_names_known.specs.declared.names.ScriptMethod.{ScriptMethod}
use Rattle.ang_names_known.specs.Lookup.{parameters_of, same_type}

-- a type and a passing
abbrev pub Kind : Type 0
Kind = ArgType × Pass

-- a kind is that of this type and this passing
abbrev pub is_kind : Kind → ArgType → Pass → Bool
is_kind k t p = same_type k.0 t && (pass_number k.1 == pass_number p)

-- the receiver of a method that is called on the type of number t
abbrev pub receiver : ℕ → Bool → Kind
receiver t read_only = (type.Object t read_only, pass.RefInOut)

-- all kinds, in the order of their numbers, where methods are called on the type of number t
abbrev pub numbered : ℕ → List Kind → List Kind
numbered t kinds = receiver t false ∷ receiver t true ∷ kinds

abbrev pub receiver_number : Bool → ℕ
receiver_number false = 0
receiver_number true = 1

-- the kinds of these numbers
abbrev pub kinds_at : List Kind → List ℕ → List (Option Kind)
kinds_at kinds ns = map (slice_get kinds) ns

-- a kind that has a number in the first list has it in the second one too
abbrev pub Keeps : List Kind → List Kind → Type 0
Keeps old new = (n : ℕ) (k : Kind) → slice_get old n ≡ Some k → slice_get new n ≡ Some k

-- ---- rows of numbers: one for each function of a list, where it is one that can be called

abbrev pub Rows : Type 0
Rows = List (Option (List ℕ))

-- what the rows say
abbrev pub kinds_of : List Kind → Rows → List (Option (List (Option Kind)))
kinds_of kinds rows = map (option_map (kinds_at kinds)) rows

-- what they have to say of functions with these parameters
abbrev pub told_of : List (Option Params) → List (Option (List (Option Kind)))
told_of params = map (option_map (map Some)) params

-- the rows are those of functions with these parameters, whatever type methods are called on
abbrev pub AreRows : List Kind → Rows → (ℕ → List (Option Params)) → Type 0
AreRows kinds rows params = (t : ℕ) → kinds_of (numbered t kinds) rows ≡ told_of (params t)

-- a row is that of a function with these parameters, where methods are called on the type of number t; or there is neither
abbrev pub Says : ℕ → List Kind → Option (List ℕ) → Option Params → Type 0
Says t kinds row params = option_map (kinds_at (numbered t kinds)) row ≡ option_map (map Some) params

-- ---- of what there are rows

abbrev pub function_params : List ScriptFunction → List (Option Params)
function_params fs = map (λ (f : ScriptFunction). Some (parameters_of f)) fs

-- a method's parameters with its receiver in front
abbrev pub params_on : ℕ → ScriptMethod → Params
params_on t m = receiver t m.read_only ∷ parameters_of m.function

abbrev pub method_params : ℕ → List ScriptMethod → List (Option Params)
method_params t ms = map (λ (m : ScriptMethod). Some (params_on t m)) ms

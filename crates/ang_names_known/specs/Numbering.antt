-- The numbers of the kinds of all parameters that scripts declare.
use Rattle.std.specs.Prelude.{ℕ, ◌≡◌, List, map, Option}
use Rattle.ang_names_known.specs.declared.names.Family.{Family}
use Rattle.ang_names_known.specs.declared.names.Names.{Names}
use Rattle.ang_names_known.specs.declared.numbering.ParameterKinds.{ParameterKinds}
use Rattle.ang_names_known.specs.Kinds.{AreRows, Kind, Rows, function_params, kinds_of, method_params, numbered, told_of}

-- for each family what the rows of the methods that it declares have to say
abbrev pub rows_wanted : ℕ → List Family → List (List (Option (List (Option Kind))))
rows_wanted t fs = map (λ (f : Family). told_of (method_params t f.methods)) fs

-- for each family the rows of the methods that it declares
abbrev pub AreMethodRows : List Kind → List Rows → List Family → Type 0
AreMethodRows kinds rows fs = (t : ℕ) → map (kinds_of (numbered t kinds)) rows ≡ rows_wanted t fs

-- for each function, import and method the numbers of its parameters' kinds
pub record AreKinds (N : Names) (k : ParameterKinds) : Type 0 where
  pub of_functions : AreRows k.kinds.items k.functions (λ t. function_params N.functions)
  pub of_imports : AreRows k.kinds.items k.imports (λ t. function_params N.imports)
  pub of_methods : AreMethodRows k.kinds.items k.methods.items N.families

-- When two functions have the same heading: the name, the result and the parameters, whose names don't count (docs/HOST.md,
-- "Commands"; the AngelScript manual, "Function declaration"). `same_heading` of ang_names_known is the test of it.
use Rattle.std.specs.Prelude.{ℕ, List, map}
use Rattle.ang_kinds.specs.declared.types.Pass.{Pass}
use Rattle.ang_names_known.specs.declared.names.ScriptFunction.{ScriptFunction}
use Rattle.ang_names_known.specs.declared.names.ScriptParameter.{ScriptParameter}
use Rattle.ang_names_known.specs.declared.names.Written.{Written}

-- a parameter without its name
pub record Passed : Type 0 where
  pub written : Written
  pub pass : Pass

-- a function without its place, its body and the names of its parameters
pub record Heading : Type 0 where
  pub name : List ℕ
  pub result_type : Written
  pub params : List Passed

abbrev pub passed_of : ScriptParameter → Passed
passed_of p = record { written = p.written; pass = p.pass }

abbrev pub heading_of : ScriptFunction → Heading
heading_of f = record { name = f.name; result_type = f.result; params = map passed_of f.params }

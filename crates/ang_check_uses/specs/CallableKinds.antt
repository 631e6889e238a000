-- Functions that a call can mean, by where they are found: one form for each list of the scripts and for each use of the host.
use Rattle.std.specs.Prelude.{ℕ, Bool, false, List, ◌∷◌, Option, None}
use Rattle.ang_kinds.specs.declared.types.Pass.{Pass}
use Rattle.ang_kinds.specs.declared.types.Pass.TheVariants as pass
use Rattle.ang_types.specs.declared.arg_type.ArgType.{ArgType}
use Rattle.ang_types.specs.declared.arg_type.ArgType.TheVariants as type
use Rattle.ang_typed.specs.declared.expression.TypedCallee.TheVariants as callee
use Rattle.ang_typed.specs.declared.expression.HostEntity.{HostEntity}
use Rattle.ang_check_contest.specs.declared.host.SeenFunction.{SeenFunction}
use Rattle.ang_names_known.specs.declared.names.ScriptFunction.{ScriptFunction}
use Rattle.ang_names_known.specs.Spaces.{family_type}
use Rattle.ang_check_uses.specs.declared.hosts.HostCallKind.{HostCallKind}
use Rattle.ang_check_uses.specs.declared.hosts.HostCallKind.TheVariants as usage
use Rattle.ang_check_uses.specs.declared.scripts.FunctionList.{FunctionList}
use Rattle.ang_check_uses.specs.declared.scripts.FunctionList.TheVariants as declared
use Rattle.ang_check_uses.specs.declared.uses.Callable.{Callable}
use Rattle.ang_check_uses.specs.declared.uses.Called.{Called}
use Rattle.ang_check_uses.specs.declared.uses.Called.TheVariants as called
use Rattle.ang_check_uses.specs.Uses.{own_function, imported_function, host_callable, maker, host_method}

abbrev pub called_in : FunctionList → ℕ → Called
called_in declared.Functions n = called.Script (callee.Own n)
called_in declared.Imports n = called.Script (callee.Import n)

abbrev pub function_in : FunctionList → ℕ → ScriptFunction → Callable
function_in declared.Functions = own_function
function_in declared.Imports = imported_function

abbrev pub with_receiver : ℕ → Bool → List (ArgType × Pass) → List (ArgType × Pass)
with_receiver n read_only params = (type.Object n read_only, pass.RefInOut) ∷ params

abbrev pub host_callable_of : HostEntity → ArgType → List (ArgType × Pass) → Callable
host_callable_of h result params = record { called = called.Host h; result = result; candidate = record { params = params }; reach = None }

abbrev pub host_callable_as : HostCallKind → SeenFunction → Callable
host_callable_as usage.Function = host_callable
host_callable_as (usage.Maker n) = maker n
host_callable_as (usage.Method n) = host_method n

-- what makes an object of a class, by a constructor with this body or by none
abbrev pub made_callable : ℕ → Option ℕ → List (ArgType × Pass) → Callable
made_callable c body params =
    record { called = called.Makes c body; result = type.Object (family_type c) false; candidate = record { params = params }; reach = None }

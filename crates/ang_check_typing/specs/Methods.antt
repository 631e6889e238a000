-- Methods of the scripts, as functions that a call can mean.
use Rattle.std.specs.Prelude.{ℕ, ◌+◌, Bool, true, false, is_some, List, [], ◌∷◌, ◌++◌, map, slice_get, Option, Some, None, option_map}
use Rattle.std.specs.List.{flat_map}
use Rattle.ang_typed.specs.declared.expression.TypedCallee.{TypedCallee}
use Rattle.ang_typed.specs.declared.expression.TypedCallee.TheVariants as callee
use Rattle.ang_names_known.specs.declared.names.ScriptMethod.{ScriptMethod}
use Rattle.ang_names_known.specs.Lookup.{FoundMethod}
use Rattle.ang_check_contest.specs.declared.score.Contender.{Contender}
use Rattle.ang_check_contest.specs.declared.score.Contender.TheVariants as contender
use Rattle.ang_check_uses.specs.declared.uses.Callable.{Callable}
use Rattle.ang_check_uses.specs.declared.uses.Called.TheVariants as calls
use Rattle.ang_check_contest.specs.Contest.{Entry}
use Rattle.ang_check_uses.specs.Contenders.{entry_in}
use Rattle.ang_check_typing.specs.declared.methods.Dispatch.{Dispatch}
use Rattle.ang_check_typing.specs.declared.methods.Dispatch.TheVariants as dispatch
use Rattle.ang_check_typing.specs.Calls.{with_receiver, virtual_method, direct_method}

-- a method as this call of it, on receivers of the type of number n
abbrev pub method_called : TypedCallee → ℕ → FoundMethod → Callable
method_called f n x = record {
  called = calls.Script f;
  result = x.method.function.result.ty;
  candidate = record { params = with_receiver n x.method };
  reach = Some (record { owner = x.owner; access = x.method.access });
}

-- what a call of the method runs: one without a body is called by its slot alone
abbrev pub callee_of : Dispatch → ScriptMethod → Option TypedCallee
callee_of dispatch.Virtual m = Some (callee.Chosen m.slot)
callee_of dispatch.Direct m = option_map callee.Own m.body

abbrev pub callable_by : ℕ → FoundMethod → Option TypedCallee → Option Callable
callable_by n x None = None
callable_by n x (Some f) = Some (method_called f n x)

abbrev pub callable_as : Dispatch → ℕ → FoundMethod → Option Callable
callable_as d n x = callable_by n x (callee_of d x.method)

-- these methods as functions that a call can mean
abbrev pub callables_as : Dispatch → ℕ → List FoundMethod → List Callable
callables_as dispatch.Virtual n xs = map (virtual_method n) xs
callables_as dispatch.Direct n xs = flat_map (direct_method n) xs

-- a method can be called so; of a call by its slot the method is not looked at
abbrev pub can_be_called : Dispatch → Option FoundMethod → Bool
can_be_called dispatch.Virtual o = true
can_be_called dispatch.Direct None = false
can_be_called dispatch.Direct (Some x) = is_some x.method.body

-- ---- methods by their places

abbrev pub method_at : Dispatch → ℕ → Option FoundMethod → Option Callable
method_at d n None = None
method_at d n (Some x) = callable_as d n x

-- what a contender names among these methods
abbrev pub method_by : Dispatch → ℕ → List FoundMethod → Contender → Option Callable
method_by d n xs (contender.Function k) = None
method_by d n xs (contender.Import k) = None
method_by d n xs (contender.Entry e) = None
method_by d n xs (contender.Constructor k) = None
method_by d n xs (contender.Method k) = method_at d n (slice_get xs k)

-- the methods that can be called so, from place k on
abbrev pub method_entries : Dispatch → ℕ → ℕ → List FoundMethod → List Entry
method_entries d n k [] = []
method_entries d n k (x ∷ xs) = entry_in (contender.Method k) (callable_as d n x) ++ method_entries d n (k + 1) xs

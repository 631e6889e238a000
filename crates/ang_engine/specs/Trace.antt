-- What is kept of how the last command ended: the frames of the bodies that were running where it
-- faulted, and its ticks (docs/HOST.md, "Faults").
use Rattle.std.specs.Prelude.{ℕ, List, Option}
use Rattle.ang_code.specs.declared.instruction.Frame.{Frame}
use Rattle.ang_engine_modules.specs.declared.modules.LoadedModule.{LoadedModule}
use Rattle.ang_engine_modules.specs.Traced.{frames_of, traced_in}
use Rattle.ang_engine.specs.declared.engine.Engine.{Engine}

-- those of the machine's last run, which `HasStood` of ang_vm says where they stood
abbrev pub trace_in : {V : Type 0} {P : V → Type 0} → Engine V P → List Frame
trace_in e = frames_of e.machine.last

-- what the module of that number is loaded with, where it is built, or was, where an initializer of it failed by the last
-- command
abbrev pub traced_module : {V : Type 0} {P : V → Type 0} → Engine V P → ℕ → Option LoadedModule
traced_module e home = traced_in e.modules.code e.modules.failed home

-- the ticks that the last command used
abbrev pub ticks_in : {V : Type 0} {P : V → Type 0} → Engine V P → ℕ
ticks_in e = e.ticks

-- The drivers of a list.
use Rattle.std.specs.Prelude.{List}
use Rattle.std.specs.declared.alloc.Global.{Global}
use Rattle.std.specs.declared.dyn_box.DynBox.{DynBox}
use Rattle.ang_host.specs.declared.drivers.Drivers.{Drivers}

-- the boxed drivers, in their order
abbrev pub members : {V : Type 0} {P : V → Type 0} → Drivers V P → List (DynBox V Global P)
members d = d.boxes.items

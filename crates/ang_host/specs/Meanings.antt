-- What the drivers behind boxes and references mean.
use Rattle.std.specs.declared.alloc.Global.{Global}
use Rattle.std.specs.declared.dyn_box.DynBox.{DynBox}
use Rattle.ang_host.specs.declared.driver.Driver.{Ghosts}
use Rattle.ang_host.specs.State.{State}
use Rattle.ang_host.specs.Laws.{Fits}

-- what `Driver` says of the type behind each vtable; a clause has it by ⟦<dyn Driver as Driver>⟧
abbrev pub Meanings : {V : Type 0} → (V → Type 0) → Type 1
Meanings {V = V} P = (v : V) → Ghosts (P v)

-- the state of the driver in a box, and how its core moves
abbrev pub state_in : {V : Type 0} {P : V → Type 0} → Meanings P → DynBox V Global P → State
state_in m b = (m b.vtable).meaning.state b.value

abbrev pub fits_in : {V : Type 0} {P : V → Type 0} → Meanings P → DynBox V Global P → Fits
fits_in m b = (m b.vtable).meaning.fits

-- the same of the driver behind a reference
abbrev pub state_behind : {V : Type 0} {P : V → Type 0} → Meanings P → (v : V) × P v → State
state_behind m d = (m d.0).meaning.state d.1

abbrev pub fits_behind : {V : Type 0} {P : V → Type 0} → Meanings P → (v : V) × P v → Fits
fits_behind m d = (m d.0).meaning.fits

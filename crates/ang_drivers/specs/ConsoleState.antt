-- The state of a console: it has no objects, so nothing is counted and nothing is made, added or released.
use Rattle.ang_host.specs.State.{State}
use Rattle.ang_drivers.specs.declared.console.Console.{Console}
use Rattle.ang_drivers.specs.Console.{console_state}

abbrev pub state_of : Console → State
state_of c = console_state c.register c.notes.items c.asked

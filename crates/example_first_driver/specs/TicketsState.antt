-- The state of tickets, by what they keep.
use Rattle.ang_host.specs.State.{State}
use Rattle.example_first_driver.specs.declared.Tickets.{Tickets}
use Rattle.example_first_driver.specs.Tickets.{tickets}

abbrev pub state_of : Tickets → State
state_of t = tickets t.asked

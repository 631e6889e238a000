-- The state of a faulty driver.
use Rattle.std.specs.Prelude.{ℕ}
use Rattle.ang_host.specs.State.{State}
use Rattle.ang_drivers.specs.declared.faulty.Faulty.{Faulty}
use Rattle.ang_drivers.specs.CounterState.{counter_ledger, counter_state}
use Rattle.ang_drivers.specs.Faulty.{left_of, faulty_over}

-- how many askings there are up to the one that fails and with it; 0 after it
abbrev pub askings_left : Faulty → ℕ
askings_left f = left_of f.how f.number (counter_ledger f.counter).tally.asked

-- that of its counter, with the askings that are left and how the last of them fails
abbrev pub faulty_state : Faulty → State
faulty_state f = faulty_over f.how f.number (counter_state f.counter)

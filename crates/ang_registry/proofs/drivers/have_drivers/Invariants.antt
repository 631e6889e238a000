use Rattle.std.proofs.Common.{◌≡◌, ℕ, ◌<◌, true, Some}
use Rattle.ang_view.specs.declared.entry.Entry.{Entry}
use Rattle.ang_view.specs.Registration.{entry_at}
use Rattle.ang_registry.specs.Drivers.{has_driver}
use Rattle.ang_registry.proofs.drivers.have_drivers.Given as goal

abbrev pub invariant-loop-number : goal.invariant-loop-number
invariant-loop-number l = (k : ℕ) (x : Entry) → k < l.number → entry_at l.registry.entries k ≡ Some x → has_driver x.kind ≡ true → x.driver < l.count

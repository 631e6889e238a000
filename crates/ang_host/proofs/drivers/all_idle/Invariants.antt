use Rattle.std.proofs.Common.{◌≡◌, ◌<◌, ℕ, map as list_map}
use Rattle.std.specs.FinMap as map
use Rattle.ang_host.specs.Laws.{IsSound}
use Rattle.ang_host.specs.Members.{state_at}
use Rattle.ang_host.proofs.drivers.all_idle.Given as goal

abbrev pub invariant-loop-b : goal.invariant-loop-b
invariant-loop-b g l = (k : ℕ) → k < l.b-index →
    ((state_at (list_map (λ b. (goal.Driver-dyn g (b.vtable, b.value)).meaning.state b.value) l.boxes) k).counts ≡ map.empty)
    × IsSound (state_at (list_map (λ b. (goal.Driver-dyn g (b.vtable, b.value)).meaning.state b.value) l.boxes) k)

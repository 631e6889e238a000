use Rattle.std.proofs.Common.{◌≡◌, ℕ, Some, drop, map as list_map}
use Rattle.ang_types.specs.Overloads.{Params}
use Rattle.ang_check_contest.specs.Host.{host_parameters}
use Rattle.ang_names_known.specs.Kinds.{Keeps, kinds_at, numbered}
use Rattle.ang_check_contest.specs.EntryKinds.{after}
use Rattle.ang_check_contest.proofs.known_view.push_seen.Given as goal

abbrev pub invariant-loop-param : goal.invariant-loop-param
invariant-loop-param l =
    ((t : ℕ) → Keeps (numbered t l.initial.table) (numbered t l.table))
    × ((t : ℕ) (front : Params) → kinds_at (numbered t l.initial.table) l.initial.row.items ≡ list_map Some front
    → (so_far : Params) × ((kinds_at (numbered t l.table) l.row.items ≡ list_map Some so_far)
    × (after front (host_parameters l.view l.params) ≡ after so_far (host_parameters l.view (drop l.param-index l.params)))))

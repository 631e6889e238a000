use Rattle.std.proofs.Common.{◌≡◌, ◌==◌, ℕ, List, [], ◌++◌, cond, drop}
use Rattle.ang_index.specs.Rows.{items_at}
use Rattle.ang_names_known.specs.NameIndex.{places_from, places_of}
use Rattle.ang_names_known.proofs.places.push_all.Given as goal

abbrev pub invariant-loop-place : goal.invariant-loop-place
invariant-loop-place l = (s : ℕ) (name : List ℕ) →
    items_at s name l.initial.index ++ cond (l.scope == s) (places_of l.names name) []
    ≡ items_at s name l.index ++ cond (l.scope == s) (places_from l.place (drop l.place l.names) name) []

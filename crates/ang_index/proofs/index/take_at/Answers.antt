use Rattle.std.proofs.Common.{◌≡◌, ◌<◌, ℕ, List, [], ◌∷◌, length, sym, subst, arith}
use Rattle.std.specs.List.{remove}
use Rattle.ang_index.proofs.Rows.{absent_none, present_changes, row_there}
use Rattle.ang_index.proofs.index.take_at.Goals as goal

pub remove-requires : goal.remove-requires
remove-requires g c =
    let a = c.args in
    record { within = subst (λ l. a.place < length l) (sym (row_there a.scope a.name.now a.rows.now.entries c.in-Some.row.now (sym c.in-Some.ensures.value))) c.requires.there }

pub returns : goal.returns
returns g c =
    let a = c.args in
    record { removed = present_changes a.scope a.name.now a.rows.now.entries _ c.in-Some.row.now c.remove.new.self (λ row. remove row a.place) (sym c.in-Some.ensures.value) c.remove.ensures.removed (c.get_mut.follows.holds c.remove.new.self).0 }

none_below : {T : Type 0} (xs : List T) (k : ℕ) → xs ≡ [] → k < length xs → ⊥
none_below [] k e lt = omega (arith, lt)
none_below (x ∷ xs) k e lt = cc

pub unreachable-requires : goal.unreachable-requires
unreachable-requires g c =
    let a = c.args in
    none_below _ a.place (absent_none a.scope a.name.now a.rows.now.entries (sym c.in_default.ensures.value)) c.requires.there

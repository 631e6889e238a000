use Rattle.std.proofs.Common.{◌≡◌, ◌≤◌, ◌++◌, ◌∷◌, ◌+◌, [], ℕ, List, Option, drop, length, map as list_map, sym, ap, subst, arith}
use Rattle.std.proofs.lemmas.List.{drop_all}
use Rattle.ang_view.specs.declared.entry.Entry.{Entry}
use Rattle.ang_names_known.specs.Kinds.{kinds_of, numbered, told_of}
use Rattle.ang_check_contest.specs.EntryKinds.{entry_params, view_params}
use Rattle.ang_names_known.proofs.KeptNumbers.{left_here, rows_end}
use Rattle.ang_check_contest.proofs.known_view.KnownView.new.Goals as goal

pub loop-entry-preserved : goal.loop-entry-preserved
loop-entry-preserved c =
    let l = c.loop-entry in
    let V = c.args.view.now in
    let entries : List (Option Entry) = c.entries-entries.result.now in
    let x : Option Entry = c.entry-item.result in
    let here : drop l.entry-index entries ≡ x ∷ drop (l.entry-index + 1) entries = left_here entries l.entry-index x c.loop-entry-test.true c.entry-item.is in
    λ t.
    c.in_ok-push_row.ensures.pushed t (list_map (entry_params V t) (drop (l.entry-index + 1) entries)) (view_params V t)
    (subst (λ es. kinds_of (numbered t l.table) l.rows ++ told_of (list_map (entry_params V t) es) ≡ told_of (view_params V t)) here (l.invariant t))

pub invariant_of-result : goal.invariant_of-result
invariant_of-result c =
    let l = c.loop-entry in
    let V = c.args.view.now in
    let entries : List (Option Entry) = c.entries-entries.result.now in
    let over : length entries ≤ l.entry-index = omega arith in
    let none : drop l.entry-index entries ≡ [] = drop_all l.entry-index entries over in
    subst (λ kinds. (t : ℕ) → kinds_of (numbered t kinds) l.rows ≡ told_of (view_params V t)) (sym c.into_kinds.ensures.same)
    (λ t. rows_end (numbered t l.table) l.rows (list_map (entry_params V t) (drop l.entry-index entries)) (view_params V t) (ap (list_map (entry_params V t)) none) (l.invariant t))

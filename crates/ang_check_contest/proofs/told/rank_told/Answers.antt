use Rattle.std.proofs.Common.{◌≡◌, ◌<◌, ◌≤◌, ◌+◌, ◌++◌, ◌∷◌, ℕ, [], List, Option, Some, None, Vec, drop, length, arith, refl, sym, ap, ◌∙◌}
use Rattle.std.specs.declared.alloc.Global.{Global}
use Rattle.std.proofs.lemmas.List.{append-nil, drop_all}
use Rattle.ang_names_known.proofs.KeptNumbers.{left_here}
use Rattle.ang_check_contest.specs.Contest.{with_rank}
use Rattle.ang_check_contest.specs.Scores.{in_front}
use Rattle.ang_check_contest.specs.Told.{rank_in, ranks_at, rows_of}
use Rattle.ang_check_contest.proofs.RankLaws.{one_more_rank}
use Rattle.ang_check_contest.proofs.told.rank_told.Goals as goal

abbrev Row : Type 0
Row = List (Option ℕ)

abbrev Kept : Type 0
Kept = Vec (Option ℕ) Global

-- no rank is left where there is no number for the row
no_number : (ranks : List ℕ) (row : Row) (rows : List Row) (ns : List ℕ) → length ns ≡ 0 → in_front ranks (ranks_at (row ∷ rows) ns) ≡ None
no_number ranks row rows [] none = refl
no_number ranks row rows (n ∷ ns) none = absurd (omega (arith, none))

no_rank : (ranks : List ℕ) (row : Row) (rows : List Row) (n : ℕ) (ns : List ℕ) → None ≡ rank_in row n → in_front ranks (ranks_at (row ∷ rows) (n ∷ ns)) ≡ None
no_rank ranks row rows n ns none = ap (λ o. in_front ranks (with_rank o (ranks_at rows ns))) (sym none)

one_more : (ranks : List ℕ) (row : Row) (rows : List Row) (n r : ℕ) (ns : List ℕ) → Some r ≡ rank_in row n
    → in_front ranks (ranks_at (row ∷ rows) (n ∷ ns)) ≡ in_front (ranks ++ r ∷ []) (ranks_at rows ns)
one_more ranks row rows n r ns is = ap (λ o. in_front ranks (with_rank o (ranks_at rows ns))) (sym is) ∙ one_more_rank ranks r (ranks_at rows ns)

all_told : (ranks ns : List ℕ) → length ns < 1 → in_front ranks (ranks_at [] ns) ≡ Some ranks
all_told ranks [] few = ap Some (append-nil ranks)
all_told ranks (n ∷ ns) few = absurd (omega (arith, few))

too_many : (ranks ns : List ℕ) → 1 ≤ length ns → in_front ranks (ranks_at [] ns) ≡ None
too_many ranks [] many = absurd (omega (arith, many))
too_many ranks (n ∷ ns) many = refl

pub loop-row-preserved : goal.loop-row-preserved
loop-row-preserved c =
    let l = c.loop-row in
    let rows : List Kept = c.args.rows.now in
    let row : Kept = c.row-item.result in
    let left : List Row = rows_of (drop (l.row-index + 1) rows) in
    let here : drop l.row-index rows ≡ row ∷ drop (l.row-index + 1) rows = left_here rows l.row-index row c.loop-row-test.true c.row-item.is in
    let is : Some c.in-Some-rank_at.rank ≡ rank_in row.items c.in-Some.number.now = c.in-Some-rank_at.ensures.exact ∙ ap (λ kept. rank_in kept c.in-Some.number.now) c.as_slice.ensures.value in
    l.invariant
    ∙ ap (λ rs. in_front l.ranks.items (ranks_at (rows_of rs) l.rest.now)) here
    ∙ ap (λ ns. in_front l.ranks.items (ranks_at (row.items ∷ left) ns)) c.in-Some.ensures.cases.0
    ∙ one_more l.ranks.items row.items left c.in-Some.number.now c.in-Some-rank_at.rank c.in-Some.others.now is
    ∙ ap (λ ranks. in_front ranks (ranks_at left c.in-Some.others.now)) (sym c.in_ok-push.ensures.items)

pub returns-in_default : goal.returns-in_default
returns-in_default c =
    let l = c.loop-row in
    let rows : List Kept = c.args.rows.now in
    let row : Kept = c.row-item.result in
    let left : List Row = rows_of (drop (l.row-index + 1) rows) in
    let here : drop l.row-index rows ≡ row ∷ drop (l.row-index + 1) rows = left_here rows l.row-index row c.loop-row-test.true c.row-item.is in
    record {
      ranked =
          sym (l.invariant
          ∙ ap (λ rs. in_front l.ranks.items (ranks_at (rows_of rs) l.rest.now)) here
          ∙ no_number l.ranks.items row.items left l.rest.now c.in_default.ensures.cases);
    }

pub returns-in_default-rank_at : goal.returns-in_default-rank_at
returns-in_default-rank_at c =
    let l = c.loop-row in
    let rows : List Kept = c.args.rows.now in
    let row : Kept = c.row-item.result in
    let left : List Row = rows_of (drop (l.row-index + 1) rows) in
    let here : drop l.row-index rows ≡ row ∷ drop (l.row-index + 1) rows = left_here rows l.row-index row c.loop-row-test.true c.row-item.is in
    let none : None ≡ rank_in row.items c.in-Some.number.now = c.in_default-rank_at.ensures.exact ∙ ap (λ kept. rank_in kept c.in-Some.number.now) c.as_slice.ensures.value in
    record {
      ranked =
          sym (l.invariant
          ∙ ap (λ rs. in_front l.ranks.items (ranks_at (rows_of rs) l.rest.now)) here
          ∙ ap (λ ns. in_front l.ranks.items (ranks_at (row.items ∷ left) ns)) c.in-Some.ensures.cases.0
          ∙ no_rank l.ranks.items row.items left c.in-Some.number.now c.in-Some.others.now none);
    }

pub returns-in-empty : goal.returns-in-empty
returns-in-empty c =
    let l = c.loop-row in
    let none : drop l.row-index c.args.rows.now ≡ [] = drop_all l.row-index c.args.rows.now c.loop-row-test.false in
    record {
      ranked =
          sym (l.invariant
          ∙ ap (λ rs. in_front l.ranks.items (ranks_at (rows_of rs) l.rest.now)) none
          ∙ all_told l.ranks.items l.rest.now c.in-empty.len_below);
    }

pub returns-in_default-rest : goal.returns-in_default-rest
returns-in_default-rest c =
    let l = c.loop-row in
    let none : drop l.row-index c.args.rows.now ≡ [] = drop_all l.row-index c.args.rows.now c.loop-row-test.false in
    record {
      ranked =
          sym (l.invariant
          ∙ ap (λ rs. in_front l.ranks.items (ranks_at (rows_of rs) l.rest.now)) none
          ∙ too_many l.ranks.items l.rest.now c.in_default-rest.len_at_least);
    }

use Rattle.std.proofs.Common.{◌≡◌, ◌≤◌, ◌++◌, ◌∷◌, ◌+◌, [], ℕ, List, Option, drop, length, sym, ap, subst, arith}
use Rattle.std.proofs.lemmas.List.{drop_all}
use Rattle.ang_types.specs.declared.candidate.Candidate.{Candidate}
use Rattle.ang_names_known.specs.Kinds.{kinds_of, numbered, told_of}
use Rattle.ang_names_known.proofs.KeptNumbers.{left_here, rows_end}
use Rattle.ang_check_added.specs.Made.{params_made}
use Rattle.ang_check_added.proofs.SetLaws.{as_many}
use Rattle.ang_check_added.proofs.numbered.number_kinds.Goals as goal

pub loop-candidate-preserved : goal.loop-candidate-preserved
loop-candidate-preserved c =
    let l = c.loop-candidate in
    let all : List (Option Candidate) = c.args.all.now in
    let x : Option Candidate = c.candidate-item.result in
    let here : drop l.candidate-index all ≡ x ∷ drop (l.candidate-index + 1) all = left_here all l.candidate-index x c.loop-candidate-test.true c.candidate-item.is in
    λ t.
    c.in_ok-push_row.ensures.pushed t (params_made (drop (l.candidate-index + 1) all)) (params_made all)
    (subst (λ cs. kinds_of (numbered t l.table) l.rows ++ told_of (params_made cs) ≡ told_of (params_made all)) here (l.invariant t))

pub sets_of-requires : goal.sets_of-requires
sets_of-requires c =
    let l = c.loop-candidate in
    let all : List (Option Candidate) = c.args.all.now in
    let over : length all ≤ l.candidate-index = omega arith in
    let none : drop l.candidate-index all ≡ [] = drop_all l.candidate-index all over in
    let told : kinds_of (numbered 0 l.table) l.rows ≡ told_of (params_made all) =
    rows_end (numbered 0 l.table) l.rows (params_made (drop l.candidate-index all)) (params_made all) (ap params_made none) (l.invariant 0) in
    record { same = as_many (numbered 0 l.table) l.rows all told }

pub returns-clause-rows : goal.returns-clause-rows
returns-clause-rows c =
    let l = c.loop-candidate in
    let all : List (Option Candidate) = c.args.all.now in
    let over : length all ≤ l.candidate-index = omega arith in
    let none : drop l.candidate-index all ≡ [] = drop_all l.candidate-index all over in
    subst (λ kinds. (t : ℕ) → kinds_of (numbered t kinds) l.rows ≡ told_of (params_made all)) (sym c.into_kinds-kinds.ensures.same)
    (λ t. rows_end (numbered t l.table) l.rows (params_made (drop l.candidate-index all)) (params_made all) (ap params_made none) (l.invariant t))

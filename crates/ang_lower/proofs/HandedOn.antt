-- Each place of a lowered body is one of the resolved body's, where there is one for each of its statements.
use Rattle.std.specs.Prelude.{All, Contains}
use Rattle.std.proofs.Common.{◌≡◌, ℕ, zero, suc, ◌+◌, ◌≤◌, List, [], ◌∷◌, ◌++◌, length, replicate, subst, arith, Option, Some, None}
use Rattle.std.proofs.lemmas.List.Elements.{All-nil, All-cons, All-head, All-tail, All-append, All-contains_itself}
use Rattle.ang_kinds.specs.declared.position.Position.{Position}
use Rattle.ang_typed.specs.Typed as t
use Rattle.ang_lower.specs.Positions.{behind, behind_inside, core_in, core_of}

-- Of any such places:
module _ (P : Position → Type 0) where
  -- what is listed is of them, and so is what is left of these, which is so many fewer
  record Keeps (listed left : List Position) (count : ℕ) (ps : List Position) : Type 0 where
    are : All P listed
    left_are : All P left
    many : length left + count ≡ length ps

  repeated : (n : ℕ) (p : Position) → P p → All P (replicate n p)
  repeated zero p h = All-nil P
  repeated (suc n) p h = All-cons P p (replicate n p) h (repeated n p h)

  one : (p : Position) → P p → All P (p ∷ [])
  one p h = All-cons P p [] h (All-nil P)

  -- a statement without others in it
  alone : (xs ps : List Position) → All P xs → All P ps → Keeps xs ps 0 ps
  alone xs ps listed all = record { are = listed; left_are = all; many = omega arith }

  -- and behind it the statement around it
  with_last : (xs left : List Position) (count : ℕ) (p : Position) (ps : List Position) → P p → Keeps xs left count ps → Keeps (xs ++ p ∷ []) left count ps
  with_last xs left count p ps here k = record { are = All-append P xs (p ∷ []) k.are (one p here); left_are = k.left_are; many = k.many }

  mutual
    stmt_kept : (s : t.Stmt) (p : Position) (ps : List Position) → t.inner_count s ≤ length ps → P p → All P ps
        → Keeps (core_in s p ps) (behind_inside s ps) (t.inner_count s) ps
    stmt_kept (t.block ss) p ps few here all = with_last (core_of ss ps) (behind ss ps) (t.statement_count ss) p ps here (stmts_kept ss ps few all)
    stmt_kept (t.locals ls) p ps few here all = alone (replicate (length ls) p) ps (repeated (length ls) p here) all
    stmt_kept (t.expression e) p ps few here all = alone (p ∷ []) ps (one p here) all
    stmt_kept t.break p ps few here all = alone (p ∷ []) ps (one p here) all
    stmt_kept t.continue p ps few here all = alone (p ∷ []) ps (one p here) all
    stmt_kept (t.return e) p ps few here all = alone (p ∷ []) ps (one p here) all
    stmt_kept (t.either e ss otherwise) p ps few here all =
        let a = stmts_kept ss ps (let less : t.statement_count ss ≤ length ps = omega (arith, few) in less) all in
        let b = stmts_kept otherwise (behind ss ps) (let less : t.statement_count otherwise ≤ length (behind ss ps) = omega (arith, few, a.many) in less) a.left_are in
        record {
          are = All-append P (core_of ss ps) (core_of otherwise (behind ss ps) ++ p ∷ []) a.are (All-append P (core_of otherwise (behind ss ps)) (p ∷ []) b.are (one p here));
          left_are = b.left_are;
          many = omega (arith, a.many, b.many);
        }
    stmt_kept (t.while e ss) p ps few here all = with_last (core_of ss ps) (behind ss ps) (t.statement_count ss) p ps here (stmts_kept ss ps few all)
    stmt_kept (t.do_while ss e) p ps few here all = with_last (core_of ss ps) (behind ss ps) (t.statement_count ss) p ps here (stmts_kept ss ps few all)
    stmt_kept (t.for start e steps ss) p ps few here all =
        let a = stmts_kept start ps (let less : t.statement_count start ≤ length ps = omega (arith, few) in less) all in
        let b = stmts_kept ss (behind start ps) (let less : t.statement_count ss ≤ length (behind start ps) = omega (arith, few, a.many) in less) a.left_are in
        let last = All-append P (replicate (length steps) p) (p ∷ p ∷ []) (repeated (length steps) p here) (All-cons P p (p ∷ []) here (one p here)) in
        record {
          are = All-append P (core_of start ps) _ a.are (All-append P (core_of ss (behind start ps)) _ b.are last);
          left_are = b.left_are;
          many = omega (arith, a.many, b.many);
        }

    stmts_kept : (ss : t.Stmts) (ps : List Position) → t.statement_count ss ≤ length ps → All P ps
        → Keeps (core_of ss ps) (behind ss ps) (t.statement_count ss) ps
    stmts_kept t.end ps few all = alone [] ps (All-nil P) all
    stmts_kept (t.«then» s ss) [] few all = absurd (omega (arith, few))
    stmts_kept (t.«then» s ss) (p ∷ ps) few all =
        let rest = All-tail P p ps all in
        let a = stmt_kept s p ps (let less : t.inner_count s ≤ length ps = omega (arith, few) in less) (All-head P p ps all) rest in
        let b = stmts_kept ss (behind_inside s ps) (let less : t.statement_count ss ≤ length (behind_inside s ps) = omega (arith, few, a.many) in less) a.left_are in
        record {
          are = All-append P (core_in s p ps) (core_of ss (behind_inside s ps)) a.are b.are;
          left_are = b.left_are;
          many = omega (arith, a.many, b.many);
        }

pub handed_on : (ss : t.Stmts) (ps : List Position) (q : Position) → t.statement_count ss ≤ length ps → Contains (core_of ss ps) q → Contains ps q
handed_on ss ps q few there =
    let all = stmts_kept (Contains ps) ss ps few (All-contains_itself ps) in
    subst (Contains ps) there.2 (all.are there.0 q there.1)

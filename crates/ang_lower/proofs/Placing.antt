-- As many places are listed of a lowered body as statements stand in its blocks.
use Rattle.std.proofs.Common.{◌≡◌, ℕ, suc, ◌+◌, List, [], ◌∷◌, ◌++◌, length, replicate, refl, sym, ◌∙◌, arith, Option, Some, None}
use Rattle.std.proofs.lemmas.List.{length-append, length-replicate}
use Rattle.ang_kinds.specs.declared.position.Position.{Position}
use Rattle.ang_typed.specs.Typed as t
use Rattle.ang_source.specs.Sound.{declared, declared_by}
use Rattle.ang_lower.specs.Tree as stmt
use Rattle.ang_lower.specs.Lowered.{lowered_stmt, lowered_all, lowered_locals, lowered_each, lowered_steps, lowered_loop}
use Rattle.ang_lower.specs.Positions.{behind, behind_inside, core_in, core_of, first, in_blocks, in_block, others}

append_in : (a b : List stmt.Stmt) → in_block (stmt.stmts (a ++ b)) ≡ in_block (stmt.stmts a) + in_block (stmt.stmts b)
append_in [] b = omega arith
append_in (s ∷ a) b = let h = append_in a b in omega (arith, h)

each_in : (n : ℕ) (es : List t.Expr) → in_block (stmt.stmts (lowered_each n es)) ≡ length es
each_in n [] = refl
each_in n (e ∷ es) = let h = each_in n es in omega (arith, h)

steps_in : (n : ℕ) (es : List t.Expr) → in_blocks (lowered_steps n es) ≡ length es
steps_in n [] = refl
steps_in n (e ∷ es) = each_in n (e ∷ es)

locals_in : (n : ℕ) (ls : List t.Local) → in_block (stmt.stmts (lowered_locals n ls)) ≡ length ls
locals_in n [] = refl
locals_in n (l ∷ ls) = let h = locals_in (suc n) ls in omega (arith, h)

-- one place more behind others
last : (xs : List Position) (p : Position) (k : ℕ) → length xs ≡ k → length (xs ++ p ∷ []) ≡ suc (k + 0)
last xs p k h = let l = length-append xs (p ∷ []) in omega (arith, h, l)

mutual
  stmt_in : (s : t.Stmt) (n : ℕ) (p : Position) (ps : List Position) → length (core_in s p ps) ≡ in_block (stmt.stmts (lowered_stmt n s))
  stmt_in (t.block ss) n p ps = last (core_of ss ps) p _ (stmts_in ss n ps)
  stmt_in (t.locals ls) n p ps = length-replicate (length ls) p ∙ sym (locals_in n ls)
  stmt_in (t.expression None) n p ps = refl
  stmt_in (t.expression (Some e)) n p ps = refl
  stmt_in t.break n p ps = refl
  stmt_in t.continue n p ps = refl
  stmt_in (t.return e) n p ps = refl
  stmt_in (t.either e ss otherwise) n p ps =
      let qs = core_of otherwise (behind ss ps) in
      let l = length-append (core_of ss ps) (qs ++ p ∷ []) in
      let a = stmts_in ss n ps in
      let b = last qs p _ (stmts_in otherwise n (behind ss ps)) in
      omega (arith, l, a, b)
  stmt_in (t.while e ss) n p ps = let h = last (core_of ss ps) p _ (stmts_in ss n ps) in omega (arith, h)
  stmt_in (t.do_while ss e) n p ps = last (core_of ss ps) p _ (stmts_in ss n ps)
  stmt_in (t.for start e steps ss) n p ps =
      let n1 = declared_by start + n in
      let loop = lowered_loop n1 e steps (lowered_all n1 ss) in
      let qs = behind start ps in
      let rs = replicate (length steps) p in
      let l = length-append (core_of start ps) (core_of ss qs ++ (rs ++ p ∷ p ∷ [])) in
      let m = length-append (core_of ss qs) (rs ++ p ∷ p ∷ []) in
      let k = length-append rs (p ∷ p ∷ []) in
      let r = length-replicate (length steps) p in
      let a = stmts_in start n ps in
      let b = stmts_in ss n1 qs in
      let c = steps_in n1 steps in
      let j = append_in (lowered_all n start) (loop ∷ []) in
      omega (arith, l, m, k, r, a, b, c, j)

  pub stmts_in : (ss : t.Stmts) (n : ℕ) (ps : List Position) → length (core_of ss ps) ≡ in_block (stmt.stmts (lowered_all n ss))
  stmts_in t.end n ps = refl
  stmts_in (t.«then» s ss) n ps =
      let l = length-append (core_in s (first ps) (others ps)) (core_of ss (behind_inside s (others ps))) in
      let a = stmt_in s n (first ps) (others ps) in
      let b = stmts_in ss (declared s + n) (behind_inside s (others ps)) in
      let j = append_in (lowered_stmt n s) (lowered_all (declared s + n) ss) in
      omega (arith, l, a, b, j)

-- A body that ends has no path to what stands after it.
use Rattle.std.specs.Prelude.{◌≡◌, ◌⊎◌, Bool, true, false, not, ◌&&◌, ◌||◌, refl}
use Rattle.std.proofs.Common.{inl, inr}
use Rattle.ang_tree.specs.Stmt.{Stmt, Body, Stmts, block, variables, expression, break, continue, return, when, either, while, do_while, for, body, end, then}
use Rattle.ang_check_stmt.specs.Paths.{is_true_word, breaks, body_breaks, some_break, ends, body_ends, some_ends}
use Rattle.ang_check_stmt.specs.Ways.{ahead, out, home, Leaves, LeavesBody, LeavesAll}

or_left : (a b : Bool) → (a || b) ≡ false → a ≡ false
or_left true b e = e
or_left false b e = refl

or_right : (a b : Bool) → (a || b) ≡ false → b ≡ false
or_right true b e = cc
or_right false b e = e

and_left : (a b : Bool) → (a && b) ≡ true → a ≡ true
and_left true b e = refl
and_left false b e = e

and_right : (a b : Bool) → (a && b) ≡ true → b ≡ true
and_right true b e = e
and_right false b e = cc

not_false : (a : Bool) → not a ≡ true → a ≡ false
not_false true e = cc
not_false false e = refl

either_true : (a b : Bool) → (a || b) ≡ true → (a ≡ true) ⊎ (b ≡ true)
either_true true b e = inl refl
either_true false b e = inr e

clash : {A : Type 0} (b : Bool) → b ≡ true → b ≡ false → A
clash true e f = cc
clash false e f = cc

mutual
  pub no_break : (s : Stmt) → breaks s ≡ false → Leaves out s → ⊥
  no_break (block b) e h = no_break_body b e h
  no_break (variables vs) e h = cc
  no_break (expression x semicolon) e h = cc
  no_break (break word semicolon) e h = cc
  no_break (continue word semicolon) e h = cc
  no_break (return word x semicolon) e h = cc
  no_break (when word left c right s) e (inl h) = let k : out ≡ ahead = h.0 in cc
  no_break (when word left c right s) e (inr h) = no_break s e h
  no_break (either word left c right s otherwise u) e (inl h) = no_break s (or_left (breaks s) (breaks u) e) h
  no_break (either word left c right s otherwise u) e (inr h) = no_break u (or_right (breaks s) (breaks u) e) h.1
  no_break (while word left c right s) e (inl h) = let k : out ≡ ahead = h.0 in cc
  no_break (while word left c right s) e (inr h) = let k : out ≡ home = h.0 in cc
  no_break (do_while word s again left c right semicolon) e (inl h) = let k : out ≡ ahead = h.0 in cc
  no_break (do_while word s again left c right semicolon) e (inr h) = let k : out ≡ home = h.0 in cc
  no_break (for word left start c semicolon steps right s) e (inl h) = let k : out ≡ ahead = h.0 in cc
  no_break (for word left start c semicolon steps right s) e (inr h) = let k : out ≡ home = h.0 in cc

  pub no_break_body : (b : Body) → body_breaks b ≡ false → LeavesBody out b → ⊥
  no_break_body (body left ss right) e h = no_break_in ss e h

  pub no_break_in : (ss : Stmts) → some_break ss ≡ false → LeavesAll out ss → ⊥
  no_break_in end e h = cc
  no_break_in (then s ss) e (inl h) = no_break_in ss (or_right (breaks s) (some_break ss) e) h.1
  no_break_in (then s ss) e (inr h) = no_break s (or_left (breaks s) (some_break ss) e) h.1

mutual
  pub no_way : (s : Stmt) → ends s ≡ true → Leaves ahead s → ⊥
  no_way (block b) e h = no_way_body b e h
  no_way (variables vs) e h = cc
  no_way (expression x semicolon) e h = cc
  no_way (break word semicolon) e h = cc
  no_way (continue word semicolon) e h = cc
  no_way (return word x semicolon) e h = cc
  no_way (when word left c right s) e h = cc
  no_way (either word left c right s otherwise u) e (inl h) = no_way s (and_left (ends s) (ends u) e) h
  no_way (either word left c right s otherwise u) e (inr h) = no_way u (and_right (ends s) (ends u) e) h.1
  no_way (while word left c right s) e (inl h) =
      elim h.1 [
        | inl f ↦ clash (is_true_word c) (and_left (is_true_word c) (not (breaks s)) e) f
        | inr g ↦ no_break s (not_false (breaks s) (and_right (is_true_word c) (not (breaks s)) e)) g
      ]
  no_way (while word left c right s) e (inr h) = let k : ahead ≡ home = h.0 in cc
  no_way (do_while word s again left c right semicolon) e h = cc
  no_way (for word left start c semicolon steps right s) e h = cc

  pub no_way_body : (b : Body) → body_ends b ≡ true → LeavesBody ahead b → ⊥
  no_way_body (body left ss right) e h = no_way_in ss e h

  pub no_way_in : (ss : Stmts) → some_ends ss ≡ true → LeavesAll ahead ss → ⊥
  no_way_in end e h = cc
  no_way_in (then s ss) e (inl h) =
      elim (either_true (ends s) (some_ends ss) e) [ inl f ↦ no_way s f h.0 | inr g ↦ no_way_in ss g h.1 ]
  no_way_in (then s ss) e (inr h) = h.0 refl

-- Where each path through a written body ends in it, each path through its tree does.
use Rattle.std.specs.Prelude.{◌≡◌, ℕ, Bool, true, false, not, ◌&&◌, ◌||◌, length, List, Option, Ok, Err, IfOk}
use Rattle.std.proofs.Common.{refl, sym, ap, ◌∙◌, subst}
use Rattle.ang_lex.specs.declared.token.Token.{Token}
use Rattle.ang_lex.specs.declared.token.TokenKind.{TokenKind}
use Rattle.ang_lex.specs.declared.token.TokenKind.TheVariants as k
use Rattle.ang_lex.specs.Text.{text_of}
use Rattle.ang_tree.specs.Tree.{Tree, Trees, literal, name, call, scoped_call, scoped_name, cast, convert, group, postfix, member, method_call, prefix, binary, conditional, assignment}
use Rattle.ang_tree.specs.Stmt.{Vars, Start, with_variables, with_expression, Stmt, Body, Stmts, block, variables, expression, break, continue, return, when, either, while, do_while, for, body, end}
use Rattle.ang_tree.specs.Stmt as written
use Rattle.ang_typed.specs.Typed as t
use Rattle.ang_check_operators.specs.Refusals.{Typing, ◌>>=◌}
use Rattle.ang_check_operators.specs.Operands.{truth, truth_in}
use Rattle.ang_check_operators.specs.Operations.{literal_by, literal_typing}
use Rattle.ang_check_context.specs.declared.scope.LocalVariable.{LocalVariable}
use Rattle.ang_check_context.specs.Scope.{BodyContext}
use Rattle.ang_check_typing.specs.Typing.{word_by}
use Rattle.ang_check_stmt.specs.Paths as trees
use Rattle.ang_check_stmt.specs.Typing.{FunctionContext, with_same, optional_typing, expression_typing, condition_typing, optional_condition, steps_typing, locals_typing, declaration_typing, result_typing, return_typing, jump, start_typing, head_typing, block_of, alone, tested_of, either_of, while_of, do_while_of, for_of, stmt_typing, block_typing, stmts_typing}
use Rattle.ang_source_typed.specs.Paths as paths
use Rattle.ang_check_sound.proofs.Judged.{holds, any}

always : {A : Type 0} (P : A → Type 0) (x : Typing A) → ((a : A) → P a) → IfOk x P
always P (Ok a) h = h a
always P (Err r) h = tt

or_false : (b : Bool) → (b || false) ≡ b
or_false true = refl
or_false false = refl

and_true : (a b : Bool) → a ≡ true → b ≡ true → (a && b) ≡ true
and_true true b e f = f
and_true false b e f = cc

or_by : (a b c d : Bool) → (a ≡ true → c ≡ true) → (b ≡ true → d ≡ true) → (a || b) ≡ true → (c || d) ≡ true
or_by true b c d h k e = subst (λ x. (x || d) ≡ true) (sym (h refl)) refl
or_by false b true d h k e = refl
or_by false b false d h k e = k e

and_by : (a b c d : Bool) → (a ≡ true → c ≡ true) → (b ≡ true → d ≡ true) → (a && b) ≡ true → (c && d) ≡ true
and_by true b c d h k e = and_true c d (h refl) (k e)
and_by false b c d h k e = cc

-- ---- the word `true`

module _ (s : BodyContext) where
  true_literal : (x : Token) (text : List ℕ) → IfOk (literal_by x text k.True >>= (λ a. truth_in a a.ty)) (λ e. paths.is_true e ≡ true)
  true_literal x text = refl

  true_word : (x : Token) (kind : TokenKind) → x.kind ≡ kind → trees.is_true kind ≡ true → IfOk (word_by s x kind >>= truth) (λ e. paths.is_true e ≡ true)
  unfolding literal_typing truth
  true_word x k.True is e =
      subst (λ kind. IfOk (literal_by x (text_of s.text x) kind >>= (λ a. truth_in a a.ty)) (λ e. paths.is_true e ≡ true)) (sym is) (true_literal x (text_of s.text x))
  true_word x _ is e = cc

  abbrev IsTrueOf : Tree → t.Expr → Type 0
  IsTrueOf c e = trees.is_true_word c ≡ true → paths.is_true e ≡ true

  flip : {A : Type 0} (P : A → Type 0) (B : Type 0) (x : Typing A) → (B → IfOk x P) → IfOk x (λ a. B → P a)
  flip P B (Ok a) h = h
  flip P B (Err r) h = tt

  condition_true : (ps : List LocalVariable) (c : Tree) → IfOk (condition_typing s ps c) (IsTrueOf c)
  condition_true ps (literal x) = flip (λ e. paths.is_true e ≡ true) (trees.is_true x.kind ≡ true) _ (λ e. true_word x x.kind refl e)
  condition_true ps (name x) = always (IsTrueOf (name x)) (condition_typing s ps (name x)) (λ e h. cc)
  condition_true ps (call x es) = always (IsTrueOf (call x es)) (condition_typing s ps (call x es)) (λ e h. cc)
  condition_true ps (scoped_call c scope x es) = always (IsTrueOf (scoped_call c scope x es)) (condition_typing s ps (scoped_call c scope x es)) (λ e h. cc)
  condition_true ps (scoped_name c scope x) = always (IsTrueOf (scoped_name c scope x)) (condition_typing s ps (scoped_name c scope x)) (λ e h. cc)
  condition_true ps (cast word less y greater left c right) =
      always (IsTrueOf (cast word less y greater left c right)) (condition_typing s ps (cast word less y greater left c right)) (λ e h. cc)
  condition_true ps (convert word left c right) = always (IsTrueOf (convert word left c right)) (condition_typing s ps (convert word left c right)) (λ e h. cc)
  condition_true ps (group left c right) = always (IsTrueOf (group left c right)) (condition_typing s ps (group left c right)) (λ e h. cc)
  condition_true ps (postfix c op) = always (IsTrueOf (postfix c op)) (condition_typing s ps (postfix c op)) (λ e h. cc)
  condition_true ps (member c dot x) = always (IsTrueOf (member c dot x)) (condition_typing s ps (member c dot x)) (λ e h. cc)
  condition_true ps (method_call c dot x es) = always (IsTrueOf (method_call c dot x es)) (condition_typing s ps (method_call c dot x es)) (λ e h. cc)
  condition_true ps (prefix op c) = always (IsTrueOf (prefix op c)) (condition_typing s ps (prefix op c)) (λ e h. cc)
  condition_true ps (binary l op r) = always (IsTrueOf (binary l op r)) (condition_typing s ps (binary l op r)) (λ e h. cc)
  condition_true ps (conditional c question l colon r) =
      always (IsTrueOf (conditional c question l colon r)) (condition_typing s ps (conditional c question l colon r)) (λ e h. cc)
  condition_true ps (assignment l op r) = always (IsTrueOf (assignment l op r)) (condition_typing s ps (assignment l op r)) (λ e h. cc)

-- ---- statements

-- by whether it has a `break` of its own, and whether it ends
pub record Follows (breaks ends : Bool) (y : t.Stmt) : Type 0 where
  pub breaks_too : paths.breaks y ≡ breaks
  pub ends_too : ends ≡ true → paths.ends y ≡ true

pub record AllFollow (breaks ends : Bool) (ss : t.Stmts) : Type 0 where
  pub breaks_too : paths.some_breaks ss ≡ breaks
  pub ends_too : ends ≡ true → paths.some_ends ss ≡ true

module _ (f : FunctionContext) where
  abbrev After : Bool → Bool → List LocalVariable × t.Stmt → Type 0
  After b e r = Follows b e r.1

  same_follows : (b e : Bool) (ps : List LocalVariable) (x : Typing t.Stmt) → IfOk x (Follows b e) → IfOk (with_same ps x) (After b e)
  same_follows b e ps x h = holds (Follows b e) (After b e) x _ h (λ y k. k)

  -- what neither breaks nor ends
  plain : (y : t.Stmt) → paths.breaks y ≡ false → Follows false false y
  plain y e = record { breaks_too = e; ends_too = λ h. cc }

  declaration_follows : (start : ℕ) (ps : List LocalVariable) (vs : Vars) → IfOk (declaration_typing f start ps vs) (After false false)
  declaration_follows start ps vs = holds (λ ls. Unit {0}) (After false false) (locals_typing f start ps vs) _ (any _) (λ ls h. plain (t.locals ls.1) refl)

  expression_follows : (ps : List LocalVariable) (e : Option Tree) → IfOk (expression_typing f.context ps e) (Follows false false)
  expression_follows ps e = holds (λ x. Unit {0}) (Follows false false) (optional_typing f.context ps e) _ (any _) (λ x h. plain (t.expression x) refl)

  return_follows : (ps : List LocalVariable) (word : Token) (e : Option Tree) → IfOk (return_typing f ps word e) (Follows false true)
  return_follows ps word e =
      holds (λ x. Unit {0}) (Follows false true) (result_typing f ps word e) _ (any _) (λ x h. record { breaks_too = refl; ends_too = λ k. refl })

  break_follows : (loop : Bool) (word : Token) → IfOk (jump loop word t.break) (Follows true false)
  break_follows true word = record { breaks_too = refl; ends_too = λ h. cc }
  break_follows false word = tt

  continue_follows : (loop : Bool) (word : Token) → IfOk (jump loop word t.continue) (Follows false false)
  continue_follows true word = record { breaks_too = refl; ends_too = λ h. cc }
  continue_follows false word = tt

  block_of_follows : (b e : Bool) (x : Typing t.Stmts) → IfOk x (AllFollow b e) → IfOk (block_of x) (Follows b e)
  block_of_follows b e x h =
      holds (AllFollow b e) (Follows b e) x _ h (λ ss k. record { breaks_too = k.breaks_too; ends_too = k.ends_too })

  alone_follows : (b e : Bool) (x : Typing (List LocalVariable × t.Stmt)) → IfOk x (After b e) → IfOk (alone x) (AllFollow b e)
  alone_follows b e x h =
      holds (After b e) (AllFollow b e) x _ h
      (λ y k. record { breaks_too = or_false (paths.breaks y.1) ∙ k.breaks_too; ends_too = λ is. or_false (paths.ends y.1) ∙ k.ends_too is })

  tested_follows : (b e : Bool) (P : t.Expr → Type 0) (c : Typing t.Expr) (x : Typing t.Stmts) → IfOk c P → IfOk x (AllFollow b e)
      → IfOk (tested_of c x) (λ r. P r.0 × AllFollow b e r.1)
  tested_follows b e P c x p h =
      holds P (λ r. P r.0 × AllFollow b e r.1) c _ p (λ y q. holds (AllFollow b e) (λ r. P r.0 × AllFollow b e r.1) x _ h (λ ss k. (q, k)))

  either_follows : (a b d e : Bool) (P : t.Expr → Type 0) (c : Typing (t.Expr × t.Stmts)) (u : Typing t.Stmts) → IfOk c (λ r. P r.0 × AllFollow a d r.1) → IfOk u (AllFollow b e)
      → IfOk (either_of c u) (Follows (a || b) (d && e))
  either_follows a b d e P c u h k =
      holds (λ r. P r.0 × AllFollow a d r.1) (Follows (a || b) (d && e)) c _ h
      (λ x sx. holds (AllFollow b e) (Follows (a || b) (d && e)) u _ k
      (λ us su. record {
        breaks_too = ap (λ i. i || paths.some_breaks us) (sx.1).breaks_too ∙ ap (λ i. a || i) su.breaks_too;
        ends_too = and_by d e (paths.some_ends x.1) (paths.some_ends us) (sx.1).ends_too su.ends_too;
      }))

  while_follows : (c : Tree) (b e : Bool) (ps : List LocalVariable) (x : Typing t.Stmts) → IfOk x (AllFollow b e)
      → IfOk (while_of (condition_typing f.context ps c) x) (Follows false (trees.is_true_word c && not b))
  while_follows c b e ps x h =
      holds (IsTrueOf f.context c) (Follows false (trees.is_true_word c && not b)) (condition_typing f.context ps c) _ (condition_true f.context ps c)
      (λ y q. holds (AllFollow b e) (Follows false (trees.is_true_word c && not b)) x _ h
      (λ ss k. record {
        breaks_too = refl;
        ends_too = and_by (trees.is_true_word c) (not b) (paths.is_true y) (not (paths.some_breaks ss)) q (λ free. ap not k.breaks_too ∙ free);
      }))

  do_while_follows : (x : Typing t.Stmts) (c : Typing t.Expr) → IfOk (do_while_of x c) (Follows false false)
  do_while_follows x c =
      holds (λ ss. Unit {0}) (Follows false false) x _ (any x) (λ ss h. holds (λ e. Unit {0}) (Follows false false) c _ (any c) (λ e k. plain (t.do_while ss e) refl))

  start_follows : (ps : List LocalVariable) (b : Start) → IfOk (start_typing f ps b) (After false false)
  start_follows ps (with_variables vs) = declaration_follows (length ps) ps vs
  start_follows ps (with_expression e semicolon) = same_follows false false ps (expression_typing f.context ps e) (expression_follows ps e)

  head_follows : (ps : List LocalVariable) (b : Start) (c : Option Tree) (steps : Trees) → IfOk (head_typing f ps b c steps) (λ h. Follows false false h.1)
  head_follows ps b c steps =
      holds (After false false) (λ h. Follows false false h.1) (start_typing f ps b) _ (start_follows ps b)
      (λ first sf. holds (λ x. Unit {0}) (λ h. Follows false false h.1) (optional_condition f.context first.0 c) _ (any _)
      (λ x sx. holds (λ es. Unit {0}) (λ h. Follows false false h.1) (steps_typing f.context first.0 steps) _ (any _) (λ es ses. sf)))

  for_follows : (h : List LocalVariable × t.Stmt × Option t.Expr × List t.Expr) (x : Typing t.Stmts) → Follows false false h.1
      → IfOk (for_of (h.1, h.2, h.3) x) (Follows false false)
  for_follows h x k =
      holds (λ ss. Unit {0}) (Follows false false) x _ (any x)
      (λ ss q. plain (t.for (t.then h.1 t.end) h.2 h.3 ss) (or_false (paths.breaks h.1) ∙ k.breaks_too))

  -- an `if` without `else` may go on
  only_breaks : (b e : Bool) (x : Typing t.Stmt) → IfOk x (Follows (b || false) (e && false)) → IfOk x (Follows b false)
  only_breaks b e (Ok y) h = record { breaks_too = h.breaks_too ∙ or_false b; ends_too = λ k. cc }
  only_breaks b e (Err r) h = tt

  mutual
    pub statement_follows : (x : Stmt) (loop : Bool) (start : ℕ) (ps : List LocalVariable)
        → IfOk (stmt_typing f loop start ps x) (λ r. Follows (trees.breaks x) (trees.ends x) r.1)
    statement_follows (block b) loop start ps =
        same_follows _ _ ps (block_of (block_typing f loop ps b)) (block_of_follows _ _ (block_typing f loop ps b) (block_follows b loop ps))
    statement_follows (variables vs) loop start ps = declaration_follows start ps vs
    statement_follows (expression e semicolon) loop start ps = same_follows false false ps (expression_typing f.context ps e) (expression_follows ps e)
    statement_follows (break word semicolon) loop start ps = same_follows true false ps (jump loop word t.break) (break_follows loop word)
    statement_follows (continue word semicolon) loop start ps = same_follows false false ps (jump loop word t.continue) (continue_follows loop word)
    statement_follows (return word e semicolon) loop start ps = same_follows false true ps (return_typing f ps word e) (return_follows ps word e)
    statement_follows (when word left c right x) loop start ps =
        let go = alone_follows (trees.breaks x) (trees.ends x) (stmt_typing f loop (length ps) ps x) (statement_follows x loop (length ps) ps) in
        same_follows (trees.breaks x) false ps _
        (only_breaks (trees.breaks x) (trees.ends x) _
        (either_follows (trees.breaks x) false (trees.ends x) false (λ e. Unit {0}) _ (Ok t.end)
        (tested_follows (trees.breaks x) (trees.ends x) (λ e. Unit {0}) _ _ (any (condition_typing f.context ps c)) go) (record { breaks_too = refl; ends_too = λ h. h })))
    statement_follows (either word left c right x otherwise u) loop start ps =
        let go = alone_follows (trees.breaks x) (trees.ends x) (stmt_typing f loop (length ps) ps x) (statement_follows x loop (length ps) ps) in
        let other = alone_follows (trees.breaks u) (trees.ends u) (stmt_typing f loop (length ps) ps u) (statement_follows u loop (length ps) ps) in
        same_follows _ _ ps _
        (either_follows (trees.breaks x) (trees.breaks u) (trees.ends x) (trees.ends u) (λ e. Unit {0}) _ _
        (tested_follows (trees.breaks x) (trees.ends x) (λ e. Unit {0}) _ _ (any (condition_typing f.context ps c)) go) other)
    statement_follows (while word left c right x) loop start ps =
        same_follows _ _ ps _
        (while_follows c (trees.breaks x) (trees.ends x) ps _
        (alone_follows (trees.breaks x) (trees.ends x) (stmt_typing f true (length ps) ps x) (statement_follows x true (length ps) ps)))
    statement_follows (do_while word x again left c right semicolon) loop start ps = same_follows false false ps _ (do_while_follows _ _)
    statement_follows (for word left b c semicolon steps right x) loop start ps =
        holds (λ h. Follows false false h.1) (After false false) (head_typing f ps b c steps) _ (head_follows ps b c steps)
        (λ h sh. same_follows false false ps _ (for_follows h _ sh))

    pub block_follows : (b : Body) (loop : Bool) (ps : List LocalVariable) → IfOk (block_typing f loop ps b) (AllFollow (trees.body_breaks b) (trees.body_ends b))
    block_follows (body left ss right) loop ps = statements_follow ss loop (length ps) ps

    pub statements_follow : (ss : Stmts) (loop : Bool) (start : ℕ) (ps : List LocalVariable)
        → IfOk (stmts_typing f loop start ps ss) (AllFollow (trees.some_break ss) (trees.some_ends ss))
    statements_follow end loop start ps = record { breaks_too = refl; ends_too = λ h. h }
    statements_follow (written.then x ss) loop start ps =
        holds (After (trees.breaks x) (trees.ends x)) (AllFollow (trees.breaks x || trees.some_break ss) (trees.ends x || trees.some_ends ss))
        (stmt_typing f loop start ps x) _ (statement_follows x loop start ps)
        (λ y sy. holds (AllFollow (trees.some_break ss) (trees.some_ends ss)) (AllFollow (trees.breaks x || trees.some_break ss) (trees.ends x || trees.some_ends ss))
        (stmts_typing f loop start y.0 ss) _ (statements_follow ss loop start y.0)
        (λ xs sxs. record {
          breaks_too = ap (λ i. i || paths.some_breaks xs) sy.breaks_too ∙ ap (λ i. trees.breaks x || i) sxs.breaks_too;
          ends_too = or_by (trees.ends x) (trees.some_ends ss) (paths.ends y.1) (paths.some_ends xs) sy.ends_too sxs.ends_too;
        }))

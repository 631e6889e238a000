use Rattle.std.proofs.Common.{◌≡◌, ◌+◌, ℕ, Bool, refl, ap, sym, subst, ◌∙◌, List, Result, Ok, Err, OnOk, drop, map as list_map, rules}
use Rattle.std.specs.declared.boxed.Box.{Box}
use Rattle.std.specs.declared.alloc.Global.{Global}
use Rattle.ang_lex.specs.declared.token.Token.{Token}
use Rattle.ang_tree.specs.Stmt as written
use Rattle.ang_tree.specs.View as trees
use Rattle.ang_tree.specs.declared.statement.Jump.{Jump}
use Rattle.ang_tree.specs.declared.statement.Statement.{Statement, fold-roll-Statement}
use Rattle.ang_tree.specs.declared.statement.Statement.TheVariants as from
use Rattle.ang_tree.specs.declared.statement.Statement.TheOpen.{Statement-F}
use Rattle.ang_typed.specs.Typed as tree
use Rattle.ang_typed.specs.View as typed
use Rattle.ang_typed.specs.declared.statement.TypedBlock as blocks
use Rattle.ang_typed.specs.declared.statement.TypedStatement as statements
use Rattle.ang_typed.specs.declared.statement.TypedStatement.TheVariants as to
use Rattle.ang_typed.specs.declared.statement.TypedStatement.TheOpen as open_tree
use Rattle.ang_check_operators.specs.Refusals.{Typing}
use Rattle.ang_check_context.specs.declared.scope.LocalVariable.{LocalVariable}
use Rattle.ang_check_stmt.specs.declared.halt.Halt.{Halt}
use Rattle.ang_check_stmt.specs.Halts.{GivesOrHalts}
use Rattle.ang_check_stmt.specs.Typing.{FunctionContext, with_same, jump, stmt_typing, stmts_typing}
use Rattle.ang_check_stmt.proofs.SoFar.{gives_same, keeps_same, keeps_on, stmts_behind, statements_turn, statements_end}
use Rattle.ang_check_stmt.proofs.statements.+statement.Goals as goal

on_ok : {T E P : Type 0} (r : Result T E) → P → OnOk r P
on_ok (Ok x) p = p
on_ok (Err e) p = tt

written_break : (x : Box Jump Global) → trees.view_stmt (from.Break x) ≡ written.break x.value.word x.value.semicolon
written_break x =
    ap trees.view_stmt (sym (from.rolls-Break x))
    ∙ fold-roll-Statement written.Stmt written.Body trees.Branch trees.statement_step trees.block_step trees.else_step (Statement-F.Break x)

written_continue : (x : Box Jump Global) → trees.view_stmt (from.Continue x) ≡ written.continue x.value.word x.value.semicolon
written_continue x =
    ap trees.view_stmt (sym (from.rolls-Continue x))
    ∙ fold-roll-Statement written.Stmt written.Body trees.Branch trees.statement_step trees.block_step trees.else_step (Statement-F.Continue x)

typed_break : typed.view_stmt to.Break ≡ tree.break
typed_break =
    ap typed.view_stmt (sym to.rolls-Break)
    ∙ statements.fold-roll-TypedStatement tree.Stmt tree.Stmts tree.Stmt tree.Stmt typed.Repeated
    typed.statement_step typed.block_step typed.choice_step typed.for_step typed.loop_step open_tree.TypedStatement-F.Break

typed_continue : typed.view_stmt to.Continue ≡ tree.continue
typed_continue =
    ap typed.view_stmt (sym to.rolls-Continue)
    ∙ statements.fold-roll-TypedStatement tree.Stmt tree.Stmts tree.Stmt tree.Stmt typed.Repeated
    typed.statement_step typed.block_step typed.choice_step typed.for_step typed.loop_step open_tree.TypedStatement-F.Continue

-- `break` or `continue`, of which the statement is one
jumped : (f : FunctionContext) (loop : Bool) (start : ℕ) (ps : List LocalVariable) (w : Statement) (word : Token) (x : statements.TypedStatement) (s : written.Stmt) (y : tree.Stmt)
    (r : Result statements.TypedStatement Halt)
    → trees.view_stmt w ≡ s → typed.view_stmt x ≡ y → stmt_typing f loop start ps s ≡ with_same ps (jump loop word y)
    → GivesOrHalts typed.view_stmt r (jump loop word (typed.view_stmt x))
    → GivesOrHalts (λ z. (ps, typed.view_stmt z)) r (stmt_typing f loop start ps (trees.view_stmt w))
jumped f loop start ps w word x s y r e g h k =
    subst (λ (j : Typing (List LocalVariable × tree.Stmt)). GivesOrHalts (λ z. (ps, typed.view_stmt z)) r j)
    (ap (λ (u : tree.Stmt). with_same ps (jump loop word u)) g ∙ sym h ∙ ap (λ (u : written.Stmt). stmt_typing f loop start ps u) (sym e))
    (gives_same ps r (jump loop word (typed.view_stmt x)) k)

pub statements-loop-item-preserved : goal.statements-loop-item-preserved
statements-loop-item-preserved t c =
    let turn = statements_turn c.args.frame.now c.args.in_loop c.args.start c.loop-item.locals c.statement.new.locals _
    (list_map typed.view_stmt c.loop-item.found.items) (typed.view_stmt c.in_ok-typed.typed) c.args.written.now c.loop-item.item-index c.item-item.result
    c.loop-item.invariant.left c.loop-item-test.true c.item-item.is c.in_ok-typed.ensures.exact in
    let rest = stmts_typing c.args.frame.now c.args.in_loop c.args.start c.statement.new.locals
    (trees.view_stmts (drop (c.loop-item.item-index + 1) c.args.written.now)) in
    record {
      left = turn ∙ ap (λ (xs : List tree.Stmt). stmts_behind xs rest) (sym c.in_ok-found.ensures.exact);
      kept = keeps_on _ _ _ c.loop-item.invariant.kept c.in_ok-typed.ensures.kept;
    }

pub statements-returns-clause-exact : goal.statements-returns-clause-exact
statements-returns-clause-exact t c =
    let whole = statements_end c.args.frame.now c.args.in_loop c.args.start c.loop-item.locals _
    (list_map typed.view_stmt c.loop-item.found.items) c.args.written.now c.loop-item.item-index c.loop-item.invariant.left c.loop-item-test.false in
    whole ∙ ap (λ (ss : tree.Stmts). Ok ss)
    (sym (blocks.fold-roll-TypedBlock tree.Stmt tree.Stmts tree.Stmt tree.Stmt typed.Repeated
    typed.statement_step typed.block_step typed.choice_step typed.for_step typed.loop_step (record { statements = c.loop-item.found })))

pub statement-returns-in-Break : goal.statement-returns-in-Break
statement-returns-in-Break t c =
    let ps = c.args.locals.now in
    let x = c.in-Break.found in
    let same : c.deref-in-Break.result.now ≡ x.value = search rules in
    let given : GivesOrHalts typed.view_stmt c.jump.result (jump c.args.in_loop x.value.word (typed.view_stmt to.Break)) =
    subst (λ (y : Jump). GivesOrHalts typed.view_stmt c.jump.result (jump c.args.in_loop y.word (typed.view_stmt to.Break))) same c.jump.ensures.exact in
    record {
      exact = jumped c.args.frame.now c.args.in_loop c.args.start ps c.args.written.now x.value.word to.Break (written.break x.value.word x.value.semicolon) tree.break c.jump.result
          (ap trees.view_stmt c.in-Break.is ∙ written_break x) typed_break refl given;
      kept = on_ok c.jump.result (keeps_same ps ps refl);
    }

pub statement-returns-in-Continue : goal.statement-returns-in-Continue
statement-returns-in-Continue t c =
    let ps = c.args.locals.now in
    let x = c.in-Continue.found in
    let same : c.deref-in-Continue.result.now ≡ x.value = search rules in
    let given : GivesOrHalts typed.view_stmt c.jump-in-Continue.result (jump c.args.in_loop x.value.word (typed.view_stmt to.Continue)) =
    subst (λ (y : Jump). GivesOrHalts typed.view_stmt c.jump-in-Continue.result (jump c.args.in_loop y.word (typed.view_stmt to.Continue))) same c.jump-in-Continue.ensures.exact in
    record {
      exact = jumped c.args.frame.now c.args.in_loop c.args.start ps c.args.written.now x.value.word to.Continue (written.continue x.value.word x.value.semicolon) tree.continue c.jump-in-Continue.result
          (ap trees.view_stmt c.in-Continue.is ∙ written_continue x) typed_continue refl given;
      kept = on_ok c.jump-in-Continue.result (keeps_same ps ps refl);
    }

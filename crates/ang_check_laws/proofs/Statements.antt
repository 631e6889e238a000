-- What is refused of a statement is a use where some parameters and locals are alive, or no use.
use Rattle.std.specs.Prelude.{ℕ, Bool, true, false, length, List, [], ◌∷◌, Option, Some, None, Ok, Err, IfErr, IfSome}
use Rattle.std.proofs.Common.{refl}
use Rattle.ang_kinds.specs.declared.error.ErrorKind.{ErrorKind}
use Rattle.ang_lex.specs.declared.token.Token.{Token}
use Rattle.ang_tree.specs.declared.type_name.TypeName.{TypeName}
use Rattle.ang_tree.specs.Tree.{Tree, Trees}
use Rattle.ang_tree.specs.Stmt.{Var, Vars, Start, with_variables, with_expression, Stmt, Body, Stmts, block, variables, expression, break, continue, return, when, either, while, do_while, for, body, end}
use Rattle.ang_tree.specs.Stmt as written
use Rattle.ang_types.specs.declared.arg_type.ArgType.{ArgType}
use Rattle.ang_types.specs.declared.arg_type.ArgType.TheVariants as type
use Rattle.ang_types.specs.declared.asks.Asks.{Asks}
use Rattle.ang_types.specs.Ranks.{Ancestors}
use Rattle.ang_typed.specs.Typed as t
use Rattle.ang_lex.specs.Text.{text_of}
use Rattle.ang_check_operators.specs.declared.refusal.TypingRefusal.{TypingRefusal}
use Rattle.ang_check_operators.specs.Operands.{Operand, truth}
use Rattle.ang_check_operators.specs.Refusals.{Typing, ◌>>=◌}
use Rattle.ang_check_context.specs.declared.scope.LocalVariable.{LocalVariable}
use Rattle.ang_check_context.specs.Scope.{BodyContext}
use Rattle.ang_check_typing.specs.Typing.{typing_of, typing_of_all}
use Rattle.ang_check_stmt.specs.declared.frame.Returns.{Returns}
use Rattle.ang_check_stmt.specs.declared.frame.Returns.TheVariants as returns
use Rattle.ang_check_stmt.specs.Typing.{FunctionContext, with_same, optional_typing, expression_typing, condition_typing, optional_condition, steps_typing, local_type, local_name_error, name_judged, local_name, initializer_typing, local_typing, each_local, locals_typing, declaration_typing, value_returned, nothing_returned, return_nothing, return_value, result_typing, return_typing, jump, start_typing, head_typing, block_of, alone, tested_of, either_of, while_of, do_while_of, for_of, stmt_typing, block_typing, stmts_typing}
use Rattle.ang_check_laws.specs.Asked.{IsRefusedUse}
use Rattle.ang_check_laws.proofs.Judged.{Silent, refused_in, unasked}
use Rattle.ang_check_laws.proofs.Operators.{fit_silent, truth_silent}
use Rattle.ang_check_laws.proofs.Names.{Uses}
use Rattle.ang_check_laws.proofs.Expressions.{typing_uses, all_use}
use Rattle.ang_check_laws.proofs.Variables.{local_type_uses, initializer_uses}

-- ---- in a body

module _ (s : BodyContext) where
  -- the refusal of a use, wherever it stands in the body
  abbrev pub IsBodyUse : TypingRefusal → Type 0
  IsBodyUse r = IfSome r.asks (λ (a : Asks). (ps : List LocalVariable) × IsRefusedUse s ps r a)

  abbrev pub BodyUses : {A : Type 0} → Typing A → Type 0
  BodyUses x = IfErr x IsBodyUse

  wider : (ps : List LocalVariable) (r : TypingRefusal) (o : Option Asks) → IfSome o (IsRefusedUse s ps r)
      → IfSome o (λ (a : Asks). (qs : List LocalVariable) × IsRefusedUse s qs r a)
  wider ps r None h = tt
  wider ps r (Some a) h = (ps, h)

  pub here : {A : Type 0} (ps : List LocalVariable) (x : Typing A) → Uses s ps x → BodyUses x
  here ps (Ok a) h = tt
  here ps (Err r) h = wider ps r r.asks h

  pub none_here : {A : Type 0} (x : Typing A) → Silent x → BodyUses x
  none_here x h = unasked (λ (r : TypingRefusal) (a : Asks). (ps : List LocalVariable) × IsRefusedUse s ps r a) x h

  pub then_here : {A B : Type 0} (x : Typing A) (f : A → Typing B) → BodyUses x → ((a : A) → BodyUses (f a)) → BodyUses (x >>= f)
  then_here x f h g = refused_in IsBodyUse x f h g

  -- an expression, and what is made of it
  of_expression : {B : Type 0} (ps : List LocalVariable) (e : Tree) (f : Operand → Typing B) → ((a : Operand) → BodyUses (f a))
      → BodyUses (typing_of s ps e >>= f)
  of_expression ps e f g = then_here (typing_of s ps e) f (here ps (typing_of s ps e) (typing_uses s ps e)) g

  optional_use : (ps : List LocalVariable) (e : Option Tree) → BodyUses (optional_typing s ps e)
  optional_use ps None = tt
  optional_use ps (Some e) = of_expression ps e _ (λ a. tt)

  expression_use : (ps : List LocalVariable) (e : Option Tree) → BodyUses (expression_typing s ps e)
  expression_use ps e = then_here (optional_typing s ps e) _ (optional_use ps e) (λ x. tt)

  condition_use : (ps : List LocalVariable) (c : Tree) → BodyUses (condition_typing s ps c)
  condition_use ps c = of_expression ps c _ (λ a. none_here (truth a) (truth_silent a))

  optional_condition_use : (ps : List LocalVariable) (c : Option Tree) → BodyUses (optional_condition s ps c)
  optional_condition_use ps None = tt
  optional_condition_use ps (Some c) = then_here (condition_typing s ps c) _ (condition_use ps c) (λ x. tt)

  steps_use : (ps : List LocalVariable) (es : Trees) → BodyUses (steps_typing s ps es)
  steps_use ps es = then_here (typing_of_all s ps es) _ (here ps (typing_of_all s ps es) (all_use s ps es)) (λ operands. tt)

name_judged_silent : (why : Option ErrorKind) (x : Token) (name : List ℕ) → Silent (name_judged why x name)
name_judged_silent None x name = tt
name_judged_silent (Some why) x name = refl

local_name_silent : (f : FunctionContext) (start : ℕ) (ps : List LocalVariable) (x : Token) → Silent (local_name f start ps x)
unfolding local_name
local_name_silent f start ps x = name_judged_silent (local_name_error f start ps (text_of f.context.text x)) x (text_of f.context.text x)

-- ---- `return`, `break` and `continue`

value_returned_silent : (ancestors : Ancestors) (ty : ArgType) (a : Operand) → Silent (value_returned ancestors ty a)
value_returned_silent ancestors type.Void a = refl
value_returned_silent ancestors type.Null a = fit_silent ancestors type.Null a
value_returned_silent ancestors (type.Plain p) a = fit_silent ancestors (type.Plain p) a
value_returned_silent ancestors (type.Enumeration n) a = fit_silent ancestors (type.Enumeration n) a
value_returned_silent ancestors (type.Object n c) a = fit_silent ancestors (type.Object n c) a
value_returned_silent ancestors (type.Handle n c) a = fit_silent ancestors (type.Handle n c) a

nothing_returned_silent : (ty : ArgType) (word : Token) → Silent (nothing_returned ty word)
nothing_returned_silent type.Void word = tt
nothing_returned_silent type.Null word = refl
nothing_returned_silent (type.Plain p) word = refl
nothing_returned_silent (type.Enumeration n) word = refl
nothing_returned_silent (type.Object n c) word = refl
nothing_returned_silent (type.Handle n c) word = refl

return_nothing_silent : (r : Returns) (word : Token) → Silent (return_nothing r word)
return_nothing_silent (returns.Value ty) word = nothing_returned_silent ty word
return_nothing_silent (returns.Own ty) word = tt

return_value_silent : (ancestors : Ancestors) (r : Returns) (a : Operand) → Silent (return_value ancestors r a)
return_value_silent ancestors (returns.Value ty) a = value_returned_silent ancestors ty a
return_value_silent ancestors (returns.Own ty) a = refl

jump_silent : (loop : Bool) (word : Token) (x : t.Stmt) → Silent (jump loop word x)
jump_silent true word x = tt
jump_silent false word x = refl

-- ---- in a function

module _ (f : FunctionContext) where
  abbrev Within : {A : Type 0} → Typing A → Type 0
  Within x = BodyUses f.context x

  next : {A B : Type 0} (x : Typing A) (g : A → Typing B) → Within x → ((a : A) → Within (g a)) → Within (x >>= g)
  next x g h k = then_here f.context x g h k

  same_use : (ps : List LocalVariable) (x : Typing t.Stmt) → Within x → Within (with_same ps x)
  same_use ps x h = next x _ h (λ y. tt)

  local_use : (start : ℕ) (ps : List LocalVariable) (y : TypeName) (ty : ArgType) (v : Var) → Within (local_typing f start ps y ty v)
  unfolding local_typing
  local_use start ps y ty v =
      next (local_name f start ps v.name) _ (none_here f.context (local_name f start ps v.name) (local_name_silent f start ps v.name))
      (λ name. next (initializer_typing f.context ps y ty v.initializer) _
      (here f.context ps (initializer_typing f.context ps y ty v.initializer) (initializer_uses f.context ps y ty v.initializer)) (λ x. tt))

  each_local_use : (start : ℕ) (ps : List LocalVariable) (y : TypeName) (ty : ArgType) (vs : List Var) → Within (each_local f start ps y ty vs)
  each_local_use start ps y ty [] = tt
  each_local_use start ps y ty (v ∷ vs) =
      next (local_typing f start ps y ty v) _ (local_use start ps y ty v)
      (λ l. next (each_local f start l.0 y ty vs) _ (each_local_use start l.0 y ty vs) (λ ls. tt))

  locals_use : (start : ℕ) (ps : List LocalVariable) (vs : Vars) → Within (locals_typing f start ps vs)
  unfolding locals_typing
  locals_use start ps vs =
      next (local_type f.context ps vs.declared_type) _
      (here f.context ps (local_type f.context ps vs.declared_type) (local_type_uses f.context ps vs.declared_type))
      (λ ty. each_local_use start ps vs.declared_type ty vs.items)

  declaration_use : (start : ℕ) (ps : List LocalVariable) (vs : Vars) → Within (declaration_typing f start ps vs)
  declaration_use start ps vs = next (locals_typing f start ps vs) _ (locals_use start ps vs) (λ ls. tt)

  result_use : (ps : List LocalVariable) (word : Token) (e : Option Tree) → Within (result_typing f ps word e)
  result_use ps word None = none_here f.context (return_nothing f.returns word) (return_nothing_silent f.returns word)
  result_use ps word (Some e) =
      of_expression f.context ps e _
      (λ a. next (return_value f.context.ancestors f.returns a) _
      (none_here f.context (return_value f.context.ancestors f.returns a) (return_value_silent f.context.ancestors f.returns a)) (λ x. tt))

  return_use : (ps : List LocalVariable) (word : Token) (e : Option Tree) → Within (return_typing f ps word e)
  return_use ps word e = next (result_typing f ps word e) _ (result_use ps word e) (λ x. tt)

  jump_use : (loop : Bool) (word : Token) (x : t.Stmt) → Within (jump loop word x)
  jump_use loop word x = none_here f.context (jump loop word x) (jump_silent loop word x)

  -- ---- blocks, branches and loops

  block_of_use : (x : Typing t.Stmts) → Within x → Within (block_of x)
  block_of_use x h = next x _ h (λ ss. tt)

  alone_use : (x : Typing (List LocalVariable × t.Stmt)) → Within x → Within (alone x)
  alone_use x h = next x _ h (λ y. tt)

  tested_use : (c : Typing t.Expr) (x : Typing t.Stmts) → Within c → Within x → Within (tested_of c x)
  tested_use c x h k = next c _ h (λ e. next x _ k (λ ss. tt))

  either_use : (c : Typing (t.Expr × t.Stmts)) (u : Typing t.Stmts) → Within c → Within u → Within (either_of c u)
  either_use c u h k = next c _ h (λ x. next u _ k (λ us. tt))

  while_use : (c : Typing t.Expr) (x : Typing t.Stmts) → Within c → Within x → Within (while_of c x)
  while_use c x h k = next c _ h (λ e. next x _ k (λ ss. tt))

  do_while_use : (x : Typing t.Stmts) (c : Typing t.Expr) → Within x → Within c → Within (do_while_of x c)
  do_while_use x c h k = next x _ h (λ ss. next c _ k (λ e. tt))

  for_use : (h : t.Stmt × Option t.Expr × List t.Expr) (x : Typing t.Stmts) → Within x → Within (for_of h x)
  for_use h x k = next x _ k (λ ss. tt)

  start_use : (ps : List LocalVariable) (b : Start) → Within (start_typing f ps b)
  start_use ps (with_variables vs) = declaration_use (length ps) ps vs
  start_use ps (with_expression e semicolon) = same_use ps (expression_typing f.context ps e) (expression_use f.context ps e)

  head_use : (ps : List LocalVariable) (b : Start) (c : Option Tree) (steps : Trees) → Within (head_typing f ps b c steps)
  head_use ps b c steps =
      next (start_typing f ps b) _ (start_use ps b)
      (λ first. next (optional_condition f.context first.0 c) _ (optional_condition_use f.context first.0 c)
      (λ x. next (steps_typing f.context first.0 steps) _ (steps_use f.context first.0 steps) (λ es. tt)))

  -- ---- statements

  mutual
    pub statement_use : (x : Stmt) (loop : Bool) (start : ℕ) (ps : List LocalVariable) → BodyUses f.context (stmt_typing f loop start ps x)
    statement_use (block b) loop start ps =
        same_use ps (block_of (block_typing f loop ps b)) (block_of_use (block_typing f loop ps b) (block_use b loop ps))
    statement_use (variables vs) loop start ps = declaration_use start ps vs
    statement_use (expression e semicolon) loop start ps = same_use ps (expression_typing f.context ps e) (expression_use f.context ps e)
    statement_use (break word semicolon) loop start ps = same_use ps (jump loop word t.break) (jump_use loop word t.break)
    statement_use (continue word semicolon) loop start ps = same_use ps (jump loop word t.continue) (jump_use loop word t.continue)
    statement_use (return word e semicolon) loop start ps = same_use ps (return_typing f ps word e) (return_use ps word e)
    statement_use (when word left c right x) loop start ps =
        let go = alone_use (stmt_typing f loop (length ps) ps x) (statement_use x loop (length ps) ps) in
        same_use ps _ (either_use _ (Ok t.end) (tested_use _ _ (condition_use f.context ps c) go) tt)
    statement_use (either word left c right x otherwise u) loop start ps =
        let go = alone_use (stmt_typing f loop (length ps) ps x) (statement_use x loop (length ps) ps) in
        let other = alone_use (stmt_typing f loop (length ps) ps u) (statement_use u loop (length ps) ps) in
        same_use ps _ (either_use _ _ (tested_use _ _ (condition_use f.context ps c) go) other)
    statement_use (while word left c right x) loop start ps =
        same_use ps _ (while_use _ _ (condition_use f.context ps c)
        (alone_use (stmt_typing f true (length ps) ps x) (statement_use x true (length ps) ps)))
    statement_use (do_while word x again left c right semicolon) loop start ps =
        same_use ps _ (do_while_use _ _ (alone_use (stmt_typing f true (length ps) ps x) (statement_use x true (length ps) ps))
        (condition_use f.context ps c))
    statement_use (for word left b c semicolon steps right x) loop start ps =
        next (head_typing f ps b c steps) _ (head_use ps b c steps)
        (λ h. same_use ps _ (for_use (h.1, h.2, h.3) _
        (alone_use (stmt_typing f true (length h.0) h.0 x) (statement_use x true (length h.0) h.0))))

    pub block_use : (b : Body) (loop : Bool) (ps : List LocalVariable) → BodyUses f.context (block_typing f loop ps b)
    block_use (body left ss right) loop ps = statements_use ss loop (length ps) ps

    pub statements_use : (ss : Stmts) (loop : Bool) (start : ℕ) (ps : List LocalVariable) → BodyUses f.context (stmts_typing f loop start ps ss)
    statements_use end loop start ps = tt
    statements_use (written.then x ss) loop start ps =
        next (stmt_typing f loop start ps x) _ (statement_use x loop start ps)
        (λ y. next (stmts_typing f loop start y.0 ss) _ (statements_use ss loop start y.0) (λ xs. tt))

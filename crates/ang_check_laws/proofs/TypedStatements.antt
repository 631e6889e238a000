-- A typed statement's tree is typed, and what stands after it are the locals that are alive there.
use Rattle.std.specs.Prelude.{◌≡◌, ℕ, ◌-◌, ◌<◌, Bool, true, false, length, List, [], ◌∷◌, Option, Some, None, Ok, Err, IfOk}
use Rattle.std.proofs.Common.{refl, sym, subst, arith}
use Rattle.std.proofs.lemmas.Option.{slice_get_within}
use Rattle.ang_lex.specs.declared.token.Token.{Token}
use Rattle.ang_types.specs.declared.arg_type.ArgType.{ArgType}
use Rattle.ang_types.specs.declared.arg_type.ArgType.TheVariants as type
use Rattle.ang_tree.specs.declared.type_name.TypeName.{TypeName}
use Rattle.ang_tree.specs.Tree.{Tree, Trees}
use Rattle.ang_tree.specs.Stmt.{Init, absent, value, constructor, Var, Vars, Start, with_variables, with_expression, Stmt, Body, Stmts, block, variables, expression, break, continue, return, when, either, while, do_while, for, body, end, Every}
use Rattle.ang_tree.specs.Stmt as written
use Rattle.ang_typed.specs.Typed as t
use Rattle.ang_check_operators.specs.Refusals.{Typing}
use Rattle.ang_check_operators.specs.Operands.{Operand, fit}
use Rattle.ang_check_context.specs.declared.scope.LocalVariable.{LocalVariable}
use Rattle.ang_check_context.specs.Scope.{BodyContext}
use Rattle.ang_check_typing.specs.Calls.{default_typing, made_typing}
use Rattle.ang_check_typing.specs.Typing.{typing_of, typing_of_args, typing_of_all}
use Rattle.ang_check_stmt.specs.declared.frame.Returns.{Returns}
use Rattle.ang_check_stmt.specs.declared.frame.Returns.TheVariants as returns
use Rattle.ang_check_stmt.specs.Typing.{FunctionContext, with_same, optional_typing, expression_typing, condition_typing, optional_condition, trees_of, steps_typing, local_type, local_name, fitted, absent_typing, value_typing, arguments_typing, initializer_typing, made, local_with, local_typing, each_local, locals_typing, declaration_typing, value_returned, nothing_returned, return_nothing, return_value, result_typing, return_typing, jump, start_typing, head_typing, block_of, alone, tested_of, either_of, while_of, do_while_of, for_of, stmt_typing, block_typing, stmts_typing}
use Rattle.ang_meaning.specs.Environment.{Environment}
use Rattle.ang_source_typed.specs.Types.{SlotType, Number, Modules, object_type}
use Rattle.ang_source_typed.specs.TypedProgram.{Types, TypesOption, TypesEach, TypesLocals, TypesStatement, TypesStatements, with_locals, after}
use Rattle.ang_check_sound.proofs.Judged.{holds, any}
use Rattle.ang_check_laws.specs.Contexts.{place_type, IsDeclared, IsTypedContext, AreLocals, CanReturn, IsAlive}
use Rattle.ang_check_laws.proofs.Operands.{IsTyped, TypedOperand, fit_typed, truth_typed}
use Rattle.ang_check_laws.proofs.Arguments.{follows}
use Rattle.ang_check_laws.proofs.TypedExpressions.{typed, args_typed, all_typed}
use Rattle.ang_check_laws.proofs.Objects.{default_made, object_made}
use Rattle.ang_check_laws.proofs.Made.{default_is, made_is}
use Rattle.ang_check_laws.proofs.Locals.{further, one_more, local_type_declared}

-- two things that hold of a value
both_hold : {A : Type 0} (P Q : A → Type 0) (x : Typing A) → IfOk x P → IfOk x Q → IfOk x (λ a. P a × Q a)
both_hold P Q (Ok a) h k = (h, k)
both_hold P Q (Err r) h k = tt

-- ---- expressions that are written or not

-- of some type, where locals of these types are alive
abbrev pub HasSome : Environment → Modules → ℕ → List SlotType → Option t.Expr → Type 0
HasSome z ms m locals None = Unit {0}
HasSome z ms m locals (Some e) = (ty : SlotType) × Types z ms m locals ty e

module _ (z : Environment) (ms : Modules) (m : ℕ) (s : BodyContext) (built : IsTypedContext z ms m s)
    (ps : List LocalVariable) (locals : List SlotType) (are : AreLocals z ms m s.within ps locals) where
  abbrev T : ArgType → SlotType
  T ty = place_type z ms m ty

  abbrev Typed : Operand → Type 0
  Typed a = TypedOperand z ms m locals a

  abbrev Optional : SlotType → Option t.Expr → Type 0
  Optional ty x = TypesOption z ms m locals ty x

  optional_typed : (e : Option Tree) → IfOk (optional_typing s ps e) (HasSome z ms m locals)
  optional_typed None = tt
  optional_typed (Some e) = holds Typed (HasSome z ms m locals) (typing_of s ps e) _ (typed z ms m s built ps locals are e) (λ a sa. (T a.ty, sa.typed.tree))

  condition_typed : (c : Tree) → IfOk (condition_typing s ps c) (Types z ms m locals Number)
  condition_typed c =
      holds Typed (Types z ms m locals Number) (typing_of s ps c) _ (typed z ms m s built ps locals are c) (λ a sa. truth_typed z ms m locals a sa)

  optional_condition_typed : (c : Option Tree) → IfOk (optional_condition s ps c) (TypesOption z ms m locals Number)
  optional_condition_typed None = tt
  optional_condition_typed (Some c) = holds (Types z ms m locals Number) (Optional Number) (condition_typing s ps c) _ (condition_typed c) (λ x sx. sx)

  each_typed : (operands : List Operand) → Every Typed operands → TypesEach z ms m locals (trees_of operands)
  each_typed [] h = tt
  each_typed (a ∷ rest) h = ((T a.ty, (h.0).typed.tree), each_typed rest h.1)

  steps_typed : (es : Trees) → IfOk (steps_typing s ps es) (TypesEach z ms m locals)
  steps_typed es =
      holds (Every Typed) (TypesEach z ms m locals) (typing_of_all s ps es) _ (all_typed z ms m s built ps locals are es) (λ operands all. each_typed operands all)

  fit_of : (ty : ArgType) (a : Operand) → Typed a → IfOk (fit s.ancestors ty a) (IsTyped z ms m locals ty)
  fit_of ty a sa = fit_typed z ms m locals built.classes s.ancestors built.ancestors ty a sa

  fitted_typed : (ty : ArgType) (a : Operand) → Typed a → IfOk (fitted s.ancestors ty a) (Optional (T ty))
  fitted_typed ty a sa = holds (IsTyped z ms m locals ty) (Optional (T ty)) (fit s.ancestors ty a) _ (fit_of ty a sa) (λ x sx. sx.tree)

  made_typed : (n : ℕ) (x : Typing Operand) → IfOk x Typed → IfOk x (λ a. a.ty ≡ type.Object n false) → IfOk (made x) (Optional (object_type (ms m).view m n))
  made_typed n x h is =
      holds (λ a. Typed a × (a.ty ≡ type.Object n false)) (Optional (object_type (ms m).view m n)) x _ (both_hold Typed (λ a. a.ty ≡ type.Object n false) x h is)
      (λ a sa. subst (λ ty. Types z ms m locals (T ty) a.tree) sa.1 (sa.0).typed.tree)

  absent_typed : (y : TypeName) (ty : ArgType) → IfOk (absent_typing s ps y ty) (Optional (T ty))
  absent_typed y type.Void = tt
  absent_typed y type.Null = tt
  absent_typed y (type.Plain p) = tt
  absent_typed y (type.Enumeration n) = tt
  absent_typed y (type.Object n c) =
      made_typed n (default_typing s ps y.name n) (default_made z ms m s built locals ps y.name n) (default_is s ps y.name n)
  absent_typed y (type.Handle n c) = tt

  value_in_typed : (equals : Token) (ty : ArgType) (a : Operand) → Typed a → IfOk (value_typing s.ancestors equals ty a) (Optional (T ty))
  value_in_typed equals type.Void a sa = fitted_typed type.Void a sa
  value_in_typed equals type.Null a sa = fitted_typed type.Null a sa
  value_in_typed equals (type.Plain p) a sa = fitted_typed (type.Plain p) a sa
  value_in_typed equals (type.Enumeration n) a sa = fitted_typed (type.Enumeration n) a sa
  value_in_typed equals (type.Object n c) a sa = tt
  value_in_typed equals (type.Handle n c) a sa = fitted_typed (type.Handle n c) a sa

  arguments_in_typed : (y : TypeName) (ty : ArgType) (operands : List Operand) → Every Typed operands → IfOk (arguments_typing s ps y ty operands) (Optional (T ty))
  arguments_in_typed y type.Void operands all = tt
  arguments_in_typed y type.Null operands all = tt
  arguments_in_typed y (type.Plain p) operands all = tt
  arguments_in_typed y (type.Enumeration n) operands all = tt
  arguments_in_typed y (type.Object n c) operands all =
      made_typed n (made_typing s ps y.name n operands) (object_made z ms m s built locals ps y.name n operands all) (made_is s ps y.name n operands)
  arguments_in_typed y (type.Handle n c) operands all = tt

  pub initializer_typed : (y : TypeName) (ty : ArgType) (i : Init) → IfOk (initializer_typing s ps y ty i) (TypesOption z ms m locals (place_type z ms m ty))
  initializer_typed y ty absent = absent_typed y ty
  initializer_typed y ty (value equals e) =
      holds Typed (Optional (T ty)) (typing_of s ps e) _ (typed z ms m s built ps locals are e) (λ a sa. value_in_typed equals ty a sa)
  initializer_typed y ty (constructor es) =
      holds (Every Typed) (Optional (T ty)) (typing_of_args s ps es) _ (args_typed z ms m s built ps locals are es)
      (λ operands all. arguments_in_typed y ty operands all)

-- ---- statements of a function

module _ (z : Environment) (ms : Modules) (m : ℕ) where
  pub return_further : (result : SlotType) (r : Returns) (locals : List SlotType) (x : SlotType) → CanReturn z ms m result r locals → CanReturn z ms m result r (x ∷ locals)
  return_further result (returns.Value ty) locals x h = h
  return_further result (returns.Own ty) locals x h =
      let within = slice_get_within locals (length locals - 1) result h.0 in
      let some : 0 < length locals = omega (arith, within) in
      (further locals x 0 (Some result) some h.0, h.1)

module _ (z : Environment) (ms : Modules) (m : ℕ) (f : FunctionContext) (built : IsTypedContext z ms m f.context) (result : SlotType) where
  abbrev Alive : List LocalVariable → List SlotType → Type 0
  Alive ps locals = IsAlive z ms m f result ps locals

  -- A statement is typed, in a loop or not, and its locals are alive after it.
  abbrev Leaves : Bool → List SlotType → List LocalVariable × t.Stmt → Type 0
  Leaves loop locals r = TypesStatement z ms m result loop locals r.1 × Alive r.0 (after z ms m locals r.1)

  -- It leaves no local alive.
  abbrev LeavesNone : Bool → List SlotType → t.Stmt → Type 0
  LeavesNone loop locals y = TypesStatement z ms m result loop locals y × (after z ms m locals y ≡ locals)

  abbrev All : Bool → List SlotType → t.Stmts → Type 0
  All loop locals ss = TypesStatements z ms m result loop locals ss

  abbrev Truth : List SlotType → t.Expr → Type 0
  Truth locals e = Types z ms m locals Number e

  same_typed : (loop : Bool) (ps : List LocalVariable) (locals : List SlotType) (x : Typing t.Stmt) → Alive ps locals → IfOk x (LeavesNone loop locals)
      → IfOk (with_same ps x) (Leaves loop locals)
  same_typed loop ps locals x alive h =
      holds (LeavesNone loop locals) (Leaves loop locals) x _ h (λ y sy. (sy.0, subst (λ l. Alive ps l) (sym sy.1) alive))

  -- ---- local variables

  abbrev LeavesLocal : List SlotType → List LocalVariable × t.Local → Type 0
  LeavesLocal locals r =
      TypesOption z ms m locals (place_type z ms m (r.1).ty) (r.1).initializer × Alive r.0 (place_type z ms m (r.1).ty ∷ locals)

  local_typed : (start : ℕ) (ps : List LocalVariable) (locals : List SlotType) (y : TypeName) (ty : ArgType) (v : Var) → IsDeclared z ms m ty → Alive ps locals
      → IfOk (local_typing f start ps y ty v) (LeavesLocal locals)
  unfolding local_typing
  local_typed start ps locals y ty v d alive =
      holds (λ (name : List ℕ). Unit {0}) (LeavesLocal locals) (local_name f start ps v.name) _ (any (local_name f start ps v.name))
      (λ name h. holds (TypesOption z ms m locals (place_type z ms m ty)) (LeavesLocal locals) (initializer_typing f.context ps y ty v.initializer) _
      (initializer_typed z ms m f.context built ps locals alive.are y ty v.initializer)
      (λ x sx. (
        sx,
        record {
          are = one_more z ms m f.context.within ps locals (local_with name ty y) d alive.are;
          returns = return_further z ms m result f.returns locals (place_type z ms m ty) alive.returns;
        },
      )))

  abbrev LeavesLocals : List SlotType → List LocalVariable × List t.Local → Type 0
  LeavesLocals locals r = TypesLocals z ms m locals r.1 × Alive r.0 (with_locals z ms m locals r.1)

  each_local_typed : (start : ℕ) (ps : List LocalVariable) (locals : List SlotType) (y : TypeName) (ty : ArgType) (vs : List Var) → IsDeclared z ms m ty → Alive ps locals
      → IfOk (each_local f start ps y ty vs) (LeavesLocals locals)
  each_local_typed start ps locals y ty [] d alive = (tt, alive)
  each_local_typed start ps locals y ty (v ∷ vs) d alive =
      holds (LeavesLocal locals) (LeavesLocals locals) (local_typing f start ps y ty v) _ (local_typed start ps locals y ty v d alive)
      (λ l sl. holds (LeavesLocals (place_type z ms m (l.1).ty ∷ locals)) (LeavesLocals locals) (each_local f start l.0 y ty vs) _
      (each_local_typed start l.0 (place_type z ms m (l.1).ty ∷ locals) y ty vs d sl.1) (λ ls sls. ((sl.0, sls.0), sls.1)))

  locals_typed : (start : ℕ) (ps : List LocalVariable) (locals : List SlotType) (vs : Vars) → Alive ps locals → IfOk (locals_typing f start ps vs) (LeavesLocals locals)
  unfolding locals_typing
  locals_typed start ps locals vs alive =
      holds (IsDeclared z ms m) (LeavesLocals locals) (local_type f.context ps vs.declared_type) _
      (local_type_declared z ms m f.context built ps vs.declared_type)
      (λ ty d. each_local_typed start ps locals vs.declared_type ty vs.items d alive)

  declaration_typed : (loop : Bool) (start : ℕ) (ps : List LocalVariable) (locals : List SlotType) (vs : Vars) → Alive ps locals
      → IfOk (declaration_typing f start ps vs) (Leaves loop locals)
  declaration_typed loop start ps locals vs alive =
      holds (LeavesLocals locals) (Leaves loop locals) (locals_typing f start ps vs) _ (locals_typed start ps locals vs alive) (λ ls sls. sls)

  some_typed : (loop : Bool) (locals : List SlotType) (x : Option t.Expr) → HasSome z ms m locals x → LeavesNone loop locals (t.expression x)
  some_typed loop locals None h = (tt, refl)
  some_typed loop locals (Some e) h = (h, refl)

  expression_typed : (loop : Bool) (ps : List LocalVariable) (locals : List SlotType) (e : Option Tree) → Alive ps locals
      → IfOk (expression_typing f.context ps e) (LeavesNone loop locals)
  expression_typed loop ps locals e alive =
      holds (HasSome z ms m locals) (LeavesNone loop locals) (optional_typing f.context ps e) _
      (optional_typed z ms m f.context built ps locals alive.are e) (λ x sx. some_typed loop locals x sx)

  -- ---- `return`, `break` and `continue`

  -- what is returned, if anything is
  abbrev IsReturned : List SlotType → Option t.Expr → Type 0
  IsReturned locals x = TypesStatement z ms m result false locals (t.return x)

  value_returned_typed : (ps : List LocalVariable) (locals : List SlotType) (ty : ArgType) (a : Operand) → Alive ps locals → TypedOperand z ms m locals a
      → IfOk (value_returned f.context.ancestors ty a) (IsTyped z ms m locals ty)
  value_returned_typed ps locals type.Void a alive sa = tt
  value_returned_typed ps locals type.Null a alive sa = fit_of z ms m f.context built ps locals alive.are type.Null a sa
  value_returned_typed ps locals (type.Plain p) a alive sa = fit_of z ms m f.context built ps locals alive.are (type.Plain p) a sa
  value_returned_typed ps locals (type.Enumeration n) a alive sa = fit_of z ms m f.context built ps locals alive.are (type.Enumeration n) a sa
  value_returned_typed ps locals (type.Object n c) a alive sa = fit_of z ms m f.context built ps locals alive.are (type.Object n c) a sa
  value_returned_typed ps locals (type.Handle n c) a alive sa = fit_of z ms m f.context built ps locals alive.are (type.Handle n c) a sa

  nothing_typed : (locals : List SlotType) (ty : ArgType) (word : Token) → result ≡ place_type z ms m ty → IfOk (nothing_returned ty word) (IsReturned locals)
  nothing_typed locals type.Void word is = is
  nothing_typed locals type.Null word is = tt
  nothing_typed locals (type.Plain p) word is = tt
  nothing_typed locals (type.Enumeration n) word is = tt
  nothing_typed locals (type.Object n c) word is = tt
  nothing_typed locals (type.Handle n c) word is = tt

  return_nothing_typed : (locals : List SlotType) (r : Returns) (word : Token) → CanReturn z ms m result r locals → IfOk (return_nothing r word) (IsReturned locals)
  return_nothing_typed locals (returns.Value ty) word can = nothing_typed locals ty word can
  return_nothing_typed locals (returns.Own ty) word can = (result, can.0, can.1)

  return_value_typed : (ps : List LocalVariable) (locals : List SlotType) (r : Returns) (a : Operand) → CanReturn z ms m result r locals → Alive ps locals
      → TypedOperand z ms m locals a → IfOk (return_value f.context.ancestors r a) (Types z ms m locals result)
  return_value_typed ps locals (returns.Value ty) a can alive sa =
      follows (IsTyped z ms m locals ty) (Types z ms m locals result) (value_returned f.context.ancestors ty a) (value_returned_typed ps locals ty a alive sa)
      (λ x sx. subst (λ u. Types z ms m locals u x) (sym can) sx.tree)
  return_value_typed ps locals (returns.Own ty) a can alive sa = tt

  result_typed : (ps : List LocalVariable) (locals : List SlotType) (word : Token) (e : Option Tree) → Alive ps locals → IfOk (result_typing f ps word e) (IsReturned locals)
  result_typed ps locals word None alive = return_nothing_typed locals f.returns word alive.returns
  result_typed ps locals word (Some e) alive =
      holds (TypedOperand z ms m locals) (IsReturned locals) (typing_of f.context ps e) _ (typed z ms m f.context built ps locals alive.are e)
      (λ a sa. holds (Types z ms m locals result) (IsReturned locals) (return_value f.context.ancestors f.returns a) _
      (return_value_typed ps locals f.returns a alive.returns alive sa) (λ x sx. sx))

  returned_typed : (loop : Bool) (locals : List SlotType) (x : Option t.Expr) → IsReturned locals x → LeavesNone loop locals (t.return x)
  returned_typed loop locals None h = (h, refl)
  returned_typed loop locals (Some e) h = (h, refl)

  return_typed : (loop : Bool) (ps : List LocalVariable) (locals : List SlotType) (word : Token) (e : Option Tree) → Alive ps locals
      → IfOk (return_typing f ps word e) (LeavesNone loop locals)
  return_typed loop ps locals word e alive =
      holds (IsReturned locals) (LeavesNone loop locals) (result_typing f ps word e) _ (result_typed ps locals word e alive)
      (λ x sx. returned_typed loop locals x sx)

  break_typed : (loop : Bool) (locals : List SlotType) (word : Token) → IfOk (jump loop word t.break) (LeavesNone loop locals)
  break_typed true locals word = (refl, refl)
  break_typed false locals word = tt

  continue_typed : (loop : Bool) (locals : List SlotType) (word : Token) → IfOk (jump loop word t.continue) (LeavesNone loop locals)
  continue_typed true locals word = (refl, refl)
  continue_typed false locals word = tt

  -- ---- blocks, branches and loops

  block_of_typed : (loop : Bool) (locals : List SlotType) (x : Typing t.Stmts) → IfOk x (All loop locals) → IfOk (block_of x) (LeavesNone loop locals)
  block_of_typed loop locals x h = holds (All loop locals) (LeavesNone loop locals) x _ h (λ ss sss. (sss, refl))

  alone_typed : (loop : Bool) (locals : List SlotType) (x : Typing (List LocalVariable × t.Stmt)) → IfOk x (Leaves loop locals) → IfOk (alone x) (All loop locals)
  alone_typed loop locals x h = holds (Leaves loop locals) (All loop locals) x _ h (λ y sy. (sy.0, tt))

  abbrev Tested : Bool → List SlotType → t.Expr × t.Stmts → Type 0
  Tested loop locals r = Truth locals r.0 × All loop locals r.1

  tested_typed : (loop : Bool) (locals : List SlotType) (c : Typing t.Expr) (x : Typing t.Stmts) → IfOk c (Truth locals) → IfOk x (All loop locals)
      → IfOk (tested_of c x) (Tested loop locals)
  tested_typed loop locals c x h k =
      holds (Truth locals) (Tested loop locals) c _ h (λ e se. holds (All loop locals) (Tested loop locals) x _ k (λ ss sss. (se, sss)))

  either_typed : (loop : Bool) (locals : List SlotType) (c : Typing (t.Expr × t.Stmts)) (u : Typing t.Stmts) → IfOk c (Tested loop locals) → IfOk u (All loop locals)
      → IfOk (either_of c u) (LeavesNone loop locals)
  either_typed loop locals c u h k =
      holds (Tested loop locals) (LeavesNone loop locals) c _ h
      (λ x sx. holds (All loop locals) (LeavesNone loop locals) u _ k (λ us sus. ((sx.0, sx.1, sus), refl)))

  while_typed : (loop : Bool) (locals : List SlotType) (c : Typing t.Expr) (x : Typing t.Stmts) → IfOk c (Truth locals) → IfOk x (All true locals)
      → IfOk (while_of c x) (LeavesNone loop locals)
  while_typed loop locals c x h k =
      holds (Truth locals) (LeavesNone loop locals) c _ h (λ e se. holds (All true locals) (LeavesNone loop locals) x _ k (λ ss sss. ((se, sss), refl)))

  do_while_typed : (loop : Bool) (locals : List SlotType) (x : Typing t.Stmts) (c : Typing t.Expr) → IfOk x (All true locals) → IfOk c (Truth locals)
      → IfOk (do_while_of x c) (LeavesNone loop locals)
  do_while_typed loop locals x c h k =
      holds (All true locals) (LeavesNone loop locals) x _ h (λ ss sss. holds (Truth locals) (LeavesNone loop locals) c _ k (λ e se. ((sss, se), refl)))

  -- ---- `for`

  start_typed : (loop : Bool) (ps : List LocalVariable) (locals : List SlotType) (b : Start) → Alive ps locals → IfOk (start_typing f ps b) (Leaves loop locals)
  start_typed loop ps locals (with_variables vs) alive = declaration_typed loop (length ps) ps locals vs alive
  start_typed loop ps locals (with_expression e semicolon) alive =
      same_typed loop ps locals (expression_typing f.context ps e) alive (expression_typed loop ps locals e alive)

  pub record Head (loop : Bool) (locals : List SlotType) (h : List LocalVariable × t.Stmt × Option t.Expr × List t.Expr) : Type 0 where
    start : TypesStatement z ms m result loop locals h.1
    alive : IsAlive z ms m f result h.0 (after z ms m locals h.1)
    condition : TypesOption z ms m (after z ms m locals h.1) Number h.2
    steps : TypesEach z ms m (after z ms m locals h.1) h.3

  head_typed : (loop : Bool) (ps : List LocalVariable) (locals : List SlotType) (b : Start) (c : Option Tree) (steps : Trees) → Alive ps locals
      → IfOk (head_typing f ps b c steps) (Head loop locals)
  head_typed loop ps locals b c steps alive =
      holds (Leaves loop locals) (Head loop locals) (start_typing f ps b) _ (start_typed loop ps locals b alive)
      (λ first sf. let inside = after z ms m locals first.1 in
      holds (TypesOption z ms m inside Number) (Head loop locals) (optional_condition f.context first.0 c) _
      (optional_condition_typed z ms m f.context built first.0 inside (sf.1).are c)
      (λ x sx. holds (TypesEach z ms m inside) (Head loop locals) (steps_typing f.context first.0 steps) _
      (steps_typed z ms m f.context built first.0 inside (sf.1).are steps)
      (λ es ses. record { start = sf.0; alive = sf.1; condition = sx; steps = ses })))

  for_typed : (loop : Bool) (locals : List SlotType) (h : List LocalVariable × t.Stmt × Option t.Expr × List t.Expr) (x : Typing t.Stmts) → Head loop locals h
      → IfOk x (All true (after z ms m locals h.1)) → IfOk (for_of (h.1, h.2, h.3) x) (LeavesNone loop locals)
  for_typed loop locals h x sh k =
      holds (All true (after z ms m locals h.1)) (LeavesNone loop locals) x _ k
      (λ ss sss. (((sh.start, tt), sh.condition, sh.steps, sss), refl))

  -- ---- statements

  mutual
    pub statement_typed : (x : Stmt) (loop : Bool) (start : ℕ) (ps : List LocalVariable) (locals : List SlotType) → IsAlive z ms m f result ps locals
        → IfOk (stmt_typing f loop start ps x)
        (λ r. TypesStatement z ms m result loop locals r.1 × IsAlive z ms m f result r.0 (after z ms m locals r.1))
    statement_typed (block b) loop start ps locals alive =
        same_typed loop ps locals (block_of (block_typing f loop ps b)) alive (block_of_typed loop locals (block_typing f loop ps b) (block_typed b loop ps locals alive))
    statement_typed (variables vs) loop start ps locals alive = declaration_typed loop start ps locals vs alive
    statement_typed (expression e semicolon) loop start ps locals alive =
        same_typed loop ps locals (expression_typing f.context ps e) alive (expression_typed loop ps locals e alive)
    statement_typed (break word semicolon) loop start ps locals alive = same_typed loop ps locals (jump loop word t.break) alive (break_typed loop locals word)
    statement_typed (continue word semicolon) loop start ps locals alive =
        same_typed loop ps locals (jump loop word t.continue) alive (continue_typed loop locals word)
    statement_typed (return word e semicolon) loop start ps locals alive =
        same_typed loop ps locals (return_typing f ps word e) alive (return_typed loop ps locals word e alive)
    statement_typed (when word left c right x) loop start ps locals alive =
        let go = alone_typed loop locals (stmt_typing f loop (length ps) ps x) (statement_typed x loop (length ps) ps locals alive) in
        same_typed loop ps locals _ alive
        (either_typed loop locals _ (Ok t.end) (tested_typed loop locals _ _ (condition_typed z ms m f.context built ps locals alive.are c) go) tt)
    statement_typed (either word left c right x otherwise u) loop start ps locals alive =
        let go = alone_typed loop locals (stmt_typing f loop (length ps) ps x) (statement_typed x loop (length ps) ps locals alive) in
        let other = alone_typed loop locals (stmt_typing f loop (length ps) ps u) (statement_typed u loop (length ps) ps locals alive) in
        same_typed loop ps locals _ alive
        (either_typed loop locals _ _ (tested_typed loop locals _ _ (condition_typed z ms m f.context built ps locals alive.are c) go) other)
    statement_typed (while word left c right x) loop start ps locals alive =
        same_typed loop ps locals _ alive (while_typed loop locals _ _ (condition_typed z ms m f.context built ps locals alive.are c)
        (alone_typed true locals (stmt_typing f true (length ps) ps x) (statement_typed x true (length ps) ps locals alive)))
    statement_typed (do_while word x again left c right semicolon) loop start ps locals alive =
        same_typed loop ps locals _ alive (do_while_typed loop locals _ _
        (alone_typed true locals (stmt_typing f true (length ps) ps x) (statement_typed x true (length ps) ps locals alive))
        (condition_typed z ms m f.context built ps locals alive.are c))
    statement_typed (for word left b c semicolon steps right x) loop start ps locals alive =
        holds (Head loop locals) (Leaves loop locals) (head_typing f ps b c steps) _ (head_typed loop ps locals b c steps alive)
        (λ h sh. same_typed loop ps locals _ alive (for_typed loop locals h _ sh
        (alone_typed true (after z ms m locals h.1) (stmt_typing f true (length h.0) h.0 x)
        (statement_typed x true (length h.0) h.0 (after z ms m locals h.1) sh.alive))))

    pub block_typed : (b : Body) (loop : Bool) (ps : List LocalVariable) (locals : List SlotType) → IsAlive z ms m f result ps locals
        → IfOk (block_typing f loop ps b) (TypesStatements z ms m result loop locals)
    block_typed (body left ss right) loop ps locals alive = statements_typed ss loop (length ps) ps locals alive

    pub statements_typed : (ss : Stmts) (loop : Bool) (start : ℕ) (ps : List LocalVariable) (locals : List SlotType) → IsAlive z ms m f result ps locals
        → IfOk (stmts_typing f loop start ps ss) (TypesStatements z ms m result loop locals)
    statements_typed end loop start ps locals alive = tt
    statements_typed (written.then x ss) loop start ps locals alive =
        holds (Leaves loop locals) (All loop locals) (stmt_typing f loop start ps x) _ (statement_typed x loop start ps locals alive)
        (λ y sy. holds (All loop (after z ms m locals y.1)) (All loop locals) (stmts_typing f loop start y.0 ss) _
        (statements_typed ss loop start y.0 (after z ms m locals y.1) sy.1) (λ xs sxs. (sy.0, sxs)))

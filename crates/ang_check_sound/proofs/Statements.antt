-- A typed statement is sound, and what stands after it are the locals that are alive there.
use Rattle.std.specs.Prelude.{◌≡◌, ℕ, suc, ◌+◌, ◌≤◌, ◌<◌, Bool, true, false, length, List, [], ◌∷◌, ◌++◌, Option, Some, None, IfSome, Ok, IfOk}
use Rattle.std.proofs.Common.{refl, subst, arith, length-append}
use Rattle.ang_lex.specs.declared.token.Token.{Token}
use Rattle.ang_types.specs.declared.arg_type.ArgType.{ArgType}
use Rattle.ang_types.specs.declared.arg_type.ArgType.TheVariants as type
use Rattle.ang_tree.specs.declared.type_name.TypeName.{TypeName}
use Rattle.ang_tree.specs.Tree.{Tree, Trees}
use Rattle.ang_tree.specs.Stmt.{Init, absent, value, constructor, Var, Vars, Start, with_variables, with_expression, Stmt, Body, Stmts, block, variables, expression, break, continue, return, when, either, while, do_while, for, body, end, Every}
use Rattle.ang_tree.specs.Stmt as written
use Rattle.ang_names_listed.specs.declared.role.TypePosition.TheVariants as role
use Rattle.ang_names_listed.specs.Types.{type_in}
use Rattle.ang_typed.specs.Typed as t
use Rattle.ang_types.specs.Ranks.{Ancestors}
use Rattle.ang_check_operators.specs.Refusals.{Typing}
use Rattle.ang_check_operators.specs.Operands.{Operand, fit}
use Rattle.ang_check_context.specs.declared.scope.LocalVariable.{LocalVariable}
use Rattle.ang_check_context.specs.declared.scope.Within.{Within}
use Rattle.ang_check_typing.specs.Calls.{default_typing, made_typing}
use Rattle.ang_check_context.specs.Scope.{BodyContext, space_of}
use Rattle.ang_check_typing.specs.Typing.{typing_of, typing_of_args, typing_of_all}
use Rattle.ang_check_stmt.specs.declared.frame.Returns.{Returns}
use Rattle.ang_check_stmt.specs.declared.frame.Returns.TheVariants as returns
use Rattle.ang_check_stmt.specs.Typing.{FunctionContext, with_same, optional_typing, expression_typing, condition_typing, optional_condition, trees_of, steps_typing, local_type, local_name, fitted, absent_typing, value_typing, arguments_typing, initializer_typing, made, local_with, local_typing, each_local, locals_typing, declaration_typing, value_returned, nothing_returned, return_nothing, return_value, result_typing, return_typing, jump, start_typing, head_typing, block_of, alone, tested_of, either_of, while_of, do_while_of, for_of, stmt_typing, block_typing, stmts_typing}
use Rattle.ang_source.specs.Sound.{Module, IsSeenType, Sound, SoundOption, SoundEach, SoundLocals, SoundStatement, SoundStatements, declared}
use Rattle.ang_check_sound.specs.Built.{IsBuiltContext, HasThis}
use Rattle.ang_check_sound.proofs.Judged.{holds, any}
use Rattle.ang_check_sound.proofs.Operators.{SoundOperand, fit_sound, truth_sound}
use Rattle.ang_check_sound.proofs.Uses.{Here}
use Rattle.ang_check_sound.proofs.Objects.{refusal_there, default_typed, made_typed}
use Rattle.ang_check_sound.proofs.Types.{type_in_seen}
use Rattle.ang_check_sound.proofs.Expressions.{typed, args_typed, all_typed}

-- ---- expressions that are written or not

module _ (s : BodyContext) (built : IsBuiltContext s) (ps : List LocalVariable) (alive : HasThis s (length ps)) where
  abbrev N : Module
  N = Here s

  abbrev n : ℕ
  n = length ps

  optional_sound : (e : Option Tree) → IfOk (optional_typing s ps e) (SoundOption (Here s) (length ps))
  optional_sound None = tt
  optional_sound (Some e) = holds (SoundOperand N n) (SoundOption N n) (typing_of s ps e) _ (typed s ps built alive e) (λ a sa. sa.tree)

  condition_sound : (c : Tree) → IfOk (condition_typing s ps c) (Sound (Here s) (length ps))
  condition_sound c = holds (SoundOperand N n) (Sound N n) (typing_of s ps c) _ (typed s ps built alive c) (λ a sa. truth_sound N n a sa)

  optional_condition_sound : (c : Option Tree) → IfOk (optional_condition s ps c) (SoundOption (Here s) (length ps))
  optional_condition_sound None = tt
  optional_condition_sound (Some c) = holds (Sound N n) (SoundOption N n) (condition_typing s ps c) _ (condition_sound c) (λ x sx. sx)

  each_sound : (operands : List Operand) → Every (SoundOperand N n) operands → SoundEach N n (trees_of operands)
  each_sound [] h = tt
  each_sound (a ∷ rest) h = (h.0.tree, each_sound rest h.1)

  steps_sound : (es : Trees) → IfOk (steps_typing s ps es) (SoundEach (Here s) (length ps))
  steps_sound es =
      holds (Every (SoundOperand N n)) (SoundEach N n) (typing_of_all s ps es) _ (all_typed s ps built alive es) (λ operands all. each_sound operands all)

  fitted_sound : (ancestors : Ancestors) (ty : ArgType) (a : Operand) → SoundOperand N n a → IfOk (fitted ancestors ty a) (SoundOption N n)
  fitted_sound ancestors ty a sa = holds (Sound N n) (SoundOption N n) (fit ancestors ty a) _ (fit_sound N n ancestors ty a sa) (λ x sx. sx)

  made_sound : (x : Typing Operand) → IfOk x (SoundOperand N n) → IfOk (made x) (SoundOption N n)
  made_sound x h = holds (SoundOperand N n) (SoundOption N n) x _ h (λ a sa. sa.tree)

  absent_sound : (y : TypeName) (ty : ArgType) → IfOk (absent_typing s ps y ty) (SoundOption N n)
  absent_sound y type.Void = tt
  absent_sound y type.Null = tt
  absent_sound y (type.Plain p) = tt
  absent_sound y (type.Enumeration m) = tt
  absent_sound y (type.Object m c) = made_sound (default_typing s ps y.name m) (default_typed s n built ps y.name m)
  absent_sound y (type.Handle m c) = tt

  value_in_sound : (equals : Token) (ty : ArgType) (a : Operand) → SoundOperand N n a → IfOk (value_typing s.ancestors equals ty a) (SoundOption N n)
  value_in_sound equals type.Void a sa = fitted_sound s.ancestors type.Void a sa
  value_in_sound equals type.Null a sa = fitted_sound s.ancestors type.Null a sa
  value_in_sound equals (type.Plain p) a sa = fitted_sound s.ancestors (type.Plain p) a sa
  value_in_sound equals (type.Enumeration m) a sa = fitted_sound s.ancestors (type.Enumeration m) a sa
  value_in_sound equals (type.Object m c) a sa = tt
  value_in_sound equals (type.Handle m c) a sa = fitted_sound s.ancestors (type.Handle m c) a sa

  arguments_in_sound : (y : TypeName) (ty : ArgType) (operands : List Operand) → Every (SoundOperand N n) operands
      → IfOk (arguments_typing s ps y ty operands) (SoundOption N n)
  arguments_in_sound y type.Void operands all = tt
  arguments_in_sound y type.Null operands all = tt
  arguments_in_sound y (type.Plain p) operands all = tt
  arguments_in_sound y (type.Enumeration m) operands all = tt
  arguments_in_sound y (type.Object m c) operands all = made_sound (made_typing s ps y.name m operands) (made_typed s n built ps y.name m operands all)
  arguments_in_sound y (type.Handle m c) operands all = tt

  pub initializer_sound : (y : TypeName) (ty : ArgType) (i : Init) → IfOk (initializer_typing s ps y ty i) (SoundOption (Here s) (length ps))
  initializer_sound y ty absent = absent_sound y ty
  initializer_sound y ty (value equals e) =
      holds (SoundOperand N n) (SoundOption N n) (typing_of s ps e) _ (typed s ps built alive e) (λ a sa. value_in_sound equals ty a sa)
  initializer_sound y ty (constructor es) =
      holds (Every (SoundOperand N n)) (SoundOption N n) (typing_of_args s ps es) _ (args_typed s ps built alive es)
      (λ operands all. arguments_in_sound y ty operands all)

-- ---- statements of a function

-- a function returns a value or none, and a constructor `this`
abbrev pub CanReturn : Returns → Option Within → Type 0
CanReturn (returns.Value ty) w = Unit {0}
CanReturn (returns.Own ty) None = ⊥
CanReturn (returns.Own ty) (Some w) = Unit {0}

-- more locals are alive
still : (w : Option Within) (n m : ℕ) → n ≤ m → IfSome w (λ v. 0 < n) → IfSome w (λ v. 0 < m)
still None n m more alive = tt
still (Some w) n m more alive = omega (arith, more, alive)

own_alive : (w : Option Within) (ty : ArgType) (n : ℕ) → CanReturn (returns.Own ty) w → IfSome w (λ v. 0 < n) → 0 < n
own_alive None ty n can alive = absurd can
own_alive (Some w) ty n can alive = alive

module _ (f : FunctionContext) (built : IsBuiltContext f.context) (can : CanReturn f.returns f.context.within) where
  abbrev M : Module
  M = Here f.context

  -- `this` is alive among these, in a class's body
  abbrev Alive : List LocalVariable → Type 0
  Alive ps = HasThis f.context (length ps)

  -- A statement is sound, in a loop or not, and n locals are alive after it.
  abbrev Leaves : Bool → ℕ → List LocalVariable × t.Stmt → Type 0
  Leaves loop n r = SoundStatement M loop n r.1 × (length r.0 ≡ declared r.1 + n) × Alive r.0

  -- It leaves no local alive.
  abbrev LeavesNone : Bool → ℕ → t.Stmt → Type 0
  LeavesNone loop n y = SoundStatement M loop n y × (declared y ≡ 0)

  same_sound : (loop : Bool) (ps : List LocalVariable) (x : Typing t.Stmt) → Alive ps → IfOk x (LeavesNone loop (length ps))
      → IfOk (with_same ps x) (Leaves loop (length ps))
  same_sound loop ps x all h =
      holds (LeavesNone loop (length ps)) (Leaves loop (length ps)) x _ h
      (λ y sy. (sy.0, let none : declared y ≡ 0 = sy.1 in let e : length ps ≡ declared y + length ps = omega arith in e, all))

  -- ---- local variables

  one_alive : (ps : List LocalVariable) (p : LocalVariable) → Alive ps → Alive (ps ++ (p ∷ []))
  one_alive ps p alive = still f.context.within (length ps) (length (ps ++ (p ∷ []))) (omega (arith, length-append ps (p ∷ []))) alive

  -- the type that is written for some
  local_type_seen : (ps : List LocalVariable) (y : TypeName) → IfOk (local_type f.context ps y) (IsSeenType f.context.view)
  unfolding local_type
  local_type_seen ps y =
      refusal_there f.context (length ps) ps y.name (IsSeenType f.context.view) (type_in (space_of f.context) role.Variable f.context.text y)
      (type_in_seen (space_of f.context) built.few role.Variable f.context.text y)

  abbrev LeavesLocal : ℕ → List LocalVariable × t.Local → Type 0
  LeavesLocal n r = IsSeenType f.context.view r.1.ty × SoundOption M n r.1.initializer × (length r.0 ≡ suc n) × Alive r.0

  one_longer : (ps : List LocalVariable) (p : LocalVariable) → length (ps ++ (p ∷ [])) ≡ suc (length ps)
  one_longer ps p = omega (arith, length-append ps (p ∷ []))

  local_sound : (start : ℕ) (ps : List LocalVariable) (y : TypeName) (ty : ArgType) (v : Var) → IsSeenType f.context.view ty → Alive ps
      → IfOk (local_typing f start ps y ty v) (LeavesLocal (length ps))
  unfolding local_typing
  local_sound start ps y ty v seen alive =
      holds (λ (name : List ℕ). Unit {0}) (LeavesLocal (length ps)) (local_name f start ps v.name) _ (any (local_name f start ps v.name))
      (λ name h. holds (SoundOption M (length ps)) (LeavesLocal (length ps)) (initializer_typing f.context ps y ty v.initializer) _
      (initializer_sound f.context built ps alive y ty v.initializer)
      (λ x sx. (seen, sx, one_longer ps (local_with name ty y), one_alive ps (local_with name ty y) alive)))

  abbrev LeavesLocals : ℕ → List LocalVariable × List t.Local → Type 0
  LeavesLocals n r = SoundLocals M n r.1 × (length r.0 ≡ length r.1 + n) × Alive r.0

  each_local_sound : (start : ℕ) (ps : List LocalVariable) (y : TypeName) (ty : ArgType) (vs : List Var) → IsSeenType f.context.view ty → Alive ps
      → IfOk (each_local f start ps y ty vs) (LeavesLocals (length ps))
  each_local_sound start ps y ty [] seen alive = (tt, let e : length ps ≡ 0 + length ps = omega arith in e, alive)
  each_local_sound start ps y ty (v ∷ vs) seen alive =
      holds (LeavesLocal (length ps)) (LeavesLocals (length ps)) (local_typing f start ps y ty v) _ (local_sound start ps y ty v seen alive)
      (λ l sl. holds (LeavesLocals (length l.0)) (LeavesLocals (length ps)) (each_local f start l.0 y ty vs) _
      (each_local_sound start l.0 y ty vs seen sl.3)
      (λ ls sls. (
        (sl.0, sl.1, subst (λ k. SoundLocals M k ls.1) sl.2 sls.0),
        let here : length l.0 ≡ suc (length ps) = sl.2 in
            let there : length ls.0 ≡ length ls.1 + length l.0 = sls.1 in
            let e : length ls.0 ≡ suc (length ls.1) + length ps = omega arith in e,
        sls.2,
      )))

  locals_sound : (start : ℕ) (ps : List LocalVariable) (vs : Vars) → Alive ps → IfOk (locals_typing f start ps vs) (LeavesLocals (length ps))
  unfolding locals_typing
  locals_sound start ps vs alive =
      holds (IsSeenType f.context.view) (LeavesLocals (length ps)) (local_type f.context ps vs.declared_type) _
      (local_type_seen ps vs.declared_type) (λ ty seen. each_local_sound start ps vs.declared_type ty vs.items seen alive)

  declaration_sound : (loop : Bool) (start : ℕ) (ps : List LocalVariable) (vs : Vars) → Alive ps → IfOk (declaration_typing f start ps vs) (Leaves loop (length ps))
  declaration_sound loop start ps vs alive =
      holds (LeavesLocals (length ps)) (Leaves loop (length ps)) (locals_typing f start ps vs) _ (locals_sound start ps vs alive) (λ ls sls. sls)

  expression_sound : (loop : Bool) (ps : List LocalVariable) (e : Option Tree) → Alive ps → IfOk (expression_typing f.context ps e) (LeavesNone loop (length ps))
  expression_sound loop ps e alive =
      holds (SoundOption M (length ps)) (LeavesNone loop (length ps)) (optional_typing f.context ps e) _ (optional_sound f.context built ps alive e)
      (λ x sx. (sx, refl))

  -- ---- `return`, `break` and `continue`

  value_sound : (n : ℕ) (ty : ArgType) (a : Operand) → SoundOperand M n a → IfOk (value_returned f.context.ancestors ty a) (Sound M n)
  value_sound n type.Void a s = tt
  value_sound n type.Null a s = fit_sound M n f.context.ancestors type.Null a s
  value_sound n (type.Plain p) a s = fit_sound M n f.context.ancestors (type.Plain p) a s
  value_sound n (type.Enumeration m) a s = fit_sound M n f.context.ancestors (type.Enumeration m) a s
  value_sound n (type.Object m c) a s = fit_sound M n f.context.ancestors (type.Object m c) a s
  value_sound n (type.Handle m c) a s = fit_sound M n f.context.ancestors (type.Handle m c) a s

  nothing_sound : (n : ℕ) (ty : ArgType) (word : Token) → IfOk (nothing_returned ty word) (SoundOption M n)
  nothing_sound n type.Void word = tt
  nothing_sound n type.Null word = tt
  nothing_sound n (type.Plain p) word = tt
  nothing_sound n (type.Enumeration m) word = tt
  nothing_sound n (type.Object m c) word = tt
  nothing_sound n (type.Handle m c) word = tt

  return_nothing_sound : (n : ℕ) (r : Returns) (word : Token) → CanReturn r f.context.within → HasThis f.context n
      → IfOk (return_nothing r word) (SoundOption M n)
  return_nothing_sound n (returns.Value ty) word h alive = nothing_sound n ty word
  return_nothing_sound n (returns.Own ty) word h alive = own_alive f.context.within ty n h alive

  return_value_sound : (n : ℕ) (r : Returns) (a : Operand) → SoundOperand M n a → IfOk (return_value f.context.ancestors r a) (Sound M n)
  return_value_sound n (returns.Value ty) a s = value_sound n ty a s
  return_value_sound n (returns.Own ty) a s = tt

  result_sound : (ps : List LocalVariable) (word : Token) (e : Option Tree) → Alive ps → IfOk (result_typing f ps word e) (SoundOption M (length ps))
  result_sound ps word None alive = return_nothing_sound (length ps) f.returns word can alive
  result_sound ps word (Some e) alive =
      holds (SoundOperand M (length ps)) (SoundOption M (length ps)) (typing_of f.context ps e) _ (typed f.context ps built alive e)
      (λ a sa. holds (Sound M (length ps)) (SoundOption M (length ps)) (return_value f.context.ancestors f.returns a) _
      (return_value_sound (length ps) f.returns a sa) (λ x sx. sx))

  return_sound : (loop : Bool) (ps : List LocalVariable) (word : Token) (e : Option Tree) → Alive ps → IfOk (return_typing f ps word e) (LeavesNone loop (length ps))
  return_sound loop ps word e alive =
      holds (SoundOption M (length ps)) (LeavesNone loop (length ps)) (result_typing f ps word e) _ (result_sound ps word e alive) (λ x sx. (sx, refl))

  break_sound : (loop : Bool) (n : ℕ) (word : Token) → IfOk (jump loop word t.break) (LeavesNone loop n)
  break_sound true n word = (refl, refl)
  break_sound false n word = tt

  continue_sound : (loop : Bool) (n : ℕ) (word : Token) → IfOk (jump loop word t.continue) (LeavesNone loop n)
  continue_sound true n word = (refl, refl)
  continue_sound false n word = tt

  -- ---- blocks, branches and loops

  block_of_sound : (loop : Bool) (n : ℕ) (x : Typing t.Stmts) → IfOk x (SoundStatements M loop n) → IfOk (block_of x) (LeavesNone loop n)
  block_of_sound loop n x h = holds (SoundStatements M loop n) (LeavesNone loop n) x _ h (λ ss sss. (sss, refl))

  alone_sound : (loop : Bool) (n : ℕ) (x : Typing (List LocalVariable × t.Stmt)) → IfOk x (Leaves loop n) → IfOk (alone x) (SoundStatements M loop n)
  alone_sound loop n x h = holds (Leaves loop n) (SoundStatements M loop n) x _ h (λ y sy. (sy.0, tt))

  abbrev Tested : Bool → ℕ → t.Expr × t.Stmts → Type 0
  Tested loop n r = Sound M n r.0 × SoundStatements M loop n r.1

  tested_sound : (loop : Bool) (n : ℕ) (c : Typing t.Expr) (x : Typing t.Stmts) → IfOk c (Sound M n) → IfOk x (SoundStatements M loop n)
      → IfOk (tested_of c x) (Tested loop n)
  tested_sound loop n c x h k =
      holds (Sound M n) (Tested loop n) c _ h (λ e se. holds (SoundStatements M loop n) (Tested loop n) x _ k (λ ss sss. (se, sss)))

  either_sound : (loop : Bool) (n : ℕ) (c : Typing (t.Expr × t.Stmts)) (u : Typing t.Stmts) → IfOk c (Tested loop n) → IfOk u (SoundStatements M loop n)
      → IfOk (either_of c u) (LeavesNone loop n)
  either_sound loop n c u h k =
      holds (Tested loop n) (LeavesNone loop n) c _ h
      (λ x sx. holds (SoundStatements M loop n) (LeavesNone loop n) u _ k (λ us sus. ((sx.0, sx.1, sus), refl)))

  while_sound : (loop : Bool) (n : ℕ) (c : Typing t.Expr) (x : Typing t.Stmts) → IfOk c (Sound M n) → IfOk x (SoundStatements M true n)
      → IfOk (while_of c x) (LeavesNone loop n)
  while_sound loop n c x h k =
      holds (Sound M n) (LeavesNone loop n) c _ h
      (λ e se. holds (SoundStatements M true n) (LeavesNone loop n) x _ k (λ ss sss. ((se, sss), refl)))

  do_while_sound : (loop : Bool) (n : ℕ) (x : Typing t.Stmts) (c : Typing t.Expr) → IfOk x (SoundStatements M true n) → IfOk c (Sound M n)
      → IfOk (do_while_of x c) (LeavesNone loop n)
  do_while_sound loop n x c h k =
      holds (SoundStatements M true n) (LeavesNone loop n) x _ h
      (λ ss sss. holds (Sound M n) (LeavesNone loop n) c _ k (λ e se. ((sss, se), refl)))

  -- ---- `for`

  start_sound : (loop : Bool) (ps : List LocalVariable) (b : Start) → Alive ps → IfOk (start_typing f ps b) (Leaves loop (length ps))
  start_sound loop ps (with_variables vs) alive = declaration_sound loop (length ps) ps vs alive
  start_sound loop ps (with_expression e semicolon) alive = same_sound loop ps (expression_typing f.context ps e) alive (expression_sound loop ps e alive)

  pub record Head (loop : Bool) (n : ℕ) (h : List LocalVariable × t.Stmt × Option t.Expr × List t.Expr) : Type 0 where
    start : SoundStatement M loop n h.1
    alive : length h.0 ≡ declared h.1 + n
    has_this : Alive h.0
    condition : SoundOption M (length h.0) h.2
    steps : SoundEach M (length h.0) h.3

  head_sound : (loop : Bool) (ps : List LocalVariable) (b : Start) (c : Option Tree) (steps : Trees) → Alive ps
      → IfOk (head_typing f ps b c steps) (Head loop (length ps))
  head_sound loop ps b c steps all =
      holds (Leaves loop (length ps)) (Head loop (length ps)) (start_typing f ps b) _ (start_sound loop ps b all)
      (λ first sf. holds (SoundOption M (length first.0)) (Head loop (length ps)) (optional_condition f.context first.0 c) _
      (optional_condition_sound f.context built first.0 sf.2 c)
      (λ x sx. holds (SoundEach M (length first.0)) (Head loop (length ps)) (steps_typing f.context first.0 steps) _
      (steps_sound f.context built first.0 sf.2 steps)
      (λ es ses. record { start = sf.0; alive = sf.1; has_this = sf.2; condition = sx; steps = ses })))

  for_sound : (loop : Bool) (n : ℕ) (h : List LocalVariable × t.Stmt × Option t.Expr × List t.Expr) (x : Typing t.Stmts) → Head loop n h
      → IfOk x (SoundStatements M true (length h.0)) → IfOk (for_of (h.1, h.2, h.3) x) (LeavesNone loop n)
  for_sound loop n h x sh k =
      let alive : length h.0 ≡ declared h.1 + n = sh.alive in
      let e : length h.0 ≡ 0 + declared h.1 + n = omega arith in
      holds (SoundStatements M true (length h.0)) (LeavesNone loop n) x _ k
      (λ ss sss. (
        (
          (sh.start, tt),
          subst (λ j. SoundOption M j h.2) e sh.condition,
          subst (λ j. SoundEach M j h.3) e sh.steps,
          subst (λ j. SoundStatements M true j ss) e sss,
        ),
        refl,
      ))

  -- ---- statements

  mutual
    pub statement_sound : (x : Stmt) (loop : Bool) (start : ℕ) (ps : List LocalVariable) → Alive ps → IfOk (stmt_typing f loop start ps x) (Leaves loop (length ps))
    statement_sound (block b) loop start ps alive =
        same_sound loop ps (block_of (block_typing f loop ps b)) alive (block_of_sound loop (length ps) (block_typing f loop ps b) (block_sound b loop ps alive))
    statement_sound (variables vs) loop start ps alive = declaration_sound loop start ps vs alive
    statement_sound (expression e semicolon) loop start ps alive =
        same_sound loop ps (expression_typing f.context ps e) alive (expression_sound loop ps e alive)
    statement_sound (break word semicolon) loop start ps alive = same_sound loop ps (jump loop word t.break) alive (break_sound loop (length ps) word)
    statement_sound (continue word semicolon) loop start ps alive = same_sound loop ps (jump loop word t.continue) alive (continue_sound loop (length ps) word)
    statement_sound (return word e semicolon) loop start ps alive = same_sound loop ps (return_typing f ps word e) alive (return_sound loop ps word e alive)
    statement_sound (when word left c right x) loop start ps alive =
        let go = alone_sound loop (length ps) (stmt_typing f loop (length ps) ps x) (statement_sound x loop (length ps) ps alive) in
        same_sound loop ps _ alive
        (either_sound loop (length ps) _ (Ok t.end) (tested_sound loop (length ps) _ _ (condition_sound f.context built ps alive c) go) tt)
    statement_sound (either word left c right x otherwise u) loop start ps alive =
        let go = alone_sound loop (length ps) (stmt_typing f loop (length ps) ps x) (statement_sound x loop (length ps) ps alive) in
        let other = alone_sound loop (length ps) (stmt_typing f loop (length ps) ps u) (statement_sound u loop (length ps) ps alive) in
        same_sound loop ps _ alive
        (either_sound loop (length ps) _ _ (tested_sound loop (length ps) _ _ (condition_sound f.context built ps alive c) go) other)
    statement_sound (while word left c right x) loop start ps alive =
        same_sound loop ps _ alive (while_sound loop (length ps) _ _ (condition_sound f.context built ps alive c)
        (alone_sound true (length ps) (stmt_typing f true (length ps) ps x) (statement_sound x true (length ps) ps alive)))
    statement_sound (do_while word x again left c right semicolon) loop start ps alive =
        same_sound loop ps _ alive (do_while_sound loop (length ps) _ _
        (alone_sound true (length ps) (stmt_typing f true (length ps) ps x) (statement_sound x true (length ps) ps alive))
        (condition_sound f.context built ps alive c))
    statement_sound (for word left b c semicolon steps right x) loop start ps alive =
        holds (Head loop (length ps)) (Leaves loop (length ps)) (head_typing f ps b c steps) _ (head_sound loop ps b c steps alive)
        (λ h sh. same_sound loop ps _ alive (for_sound loop (length ps) h _ sh
        (alone_sound true (length h.0) (stmt_typing f true (length h.0) h.0 x) (statement_sound x true (length h.0) h.0 sh.has_this))))

    pub block_sound : (b : Body) (loop : Bool) (ps : List LocalVariable) → Alive ps → IfOk (block_typing f loop ps b) (SoundStatements M loop (length ps))
    block_sound (body left ss right) loop ps alive = statements_sound ss loop (length ps) ps alive

    pub statements_sound : (ss : Stmts) (loop : Bool) (start : ℕ) (ps : List LocalVariable) → Alive ps
        → IfOk (stmts_typing f loop start ps ss) (SoundStatements M loop (length ps))
    statements_sound end loop start ps alive = tt
    statements_sound (written.then x ss) loop start ps alive =
        holds (Leaves loop (length ps)) (SoundStatements M loop (length ps)) (stmt_typing f loop start ps x) _ (statement_sound x loop start ps alive)
        (λ y sy. holds (SoundStatements M loop (length y.0)) (SoundStatements M loop (length ps)) (stmts_typing f loop start y.0 ss) _
        (statements_sound ss loop start y.0 sy.2) (λ xs sxs. (sy.0, subst (λ j. SoundStatements M loop j xs) sy.1 sxs)))

-- What is refused of a statement or a body asks something, or is refused over each view that keeps values of enumerations.
use Rattle.std.specs.Prelude.{◌≡◌, ◌-◌, ℕ, Bool, true, false, not, ◌||◌, if◌then◌else◌, drop, length, nat_lt, List, [], ◌∷◌, map, Option, Some, None, Ok, Err, IfSome}
use Rattle.std.proofs.Common.{refl, ap, subst, arith}
use Rattle.ang_kinds.specs.declared.error.ErrorKind.{ErrorKind}
use Rattle.ang_kinds.specs.declared.error.ErrorKind.TheVariants as kind
use Rattle.ang_kinds.specs.declared.position.Position.{Position}
use Rattle.ang_kinds.specs.declared.primitive.Primitive.TheVariants as p
use Rattle.ang_lex.specs.declared.token.Token.{Token}
use Rattle.ang_lex.specs.Text.{text_of}
use Rattle.ang_tree.specs.declared.type_name.TypeName.{TypeName}
use Rattle.ang_tree.specs.Declarations.{SuperTree}
use Rattle.ang_tree.specs.Tree.{Tree, Trees}
use Rattle.ang_tree.specs.Stmt.{Init, Var, Vars, Start, with_variables, with_expression, Stmt, Body, Stmts, block, variables, expression, break, continue, return, when, either, while, do_while, for, body, end}
use Rattle.ang_tree.specs.Stmt as written
use Rattle.ang_types.specs.declared.arg_type.ArgType.{ArgType}
use Rattle.ang_types.specs.declared.arg_type.ArgType.TheVariants as type
use Rattle.ang_types.specs.Ranks.{Ancestors}
use Rattle.ang_typed.specs.declared.program.TypedParameter.{TypedParameter}
use Rattle.ang_typed.specs.Typed as t
use Rattle.ang_view.specs.Registration.{RegistrationList}
use Rattle.ang_names_known.specs.declared.names.ScriptFunction.{ScriptFunction}
use Rattle.ang_names_known.specs.declared.names.ScriptGlobal.{ScriptGlobal}
use Rattle.ang_names_known.specs.Spaces.{family_of_type, family_type}
use Rattle.ang_check_contest.proofs.Adding.{not_lt_is}
use Rattle.ang_check_operators.specs.declared.refusal.TypingRefusal.{TypingRefusal}
use Rattle.ang_check_operators.specs.Operands.{Operand, truth_in, truth}
use Rattle.ang_check_operators.specs.Refusals.{Typing, ◌>>=◌}
use Rattle.ang_check_context.specs.declared.scope.LocalVariable.{LocalVariable}
use Rattle.ang_check_context.specs.declared.scope.Within.{Within}
use Rattle.ang_check_context.specs.Operands.{types_of}
use Rattle.ang_check_context.specs.Scope.{BodyContext, scope_of}
use Rattle.ang_check_uses.specs.declared.uses.Resolution.{Resolution}
use Rattle.ang_check_uses.specs.declared.uses.Resolution.TheVariants as resolution
use Rattle.ang_check_uses.specs.Uses.{best_of_those, makers_of}
use Rattle.ang_check_typing.specs.Calls.{arguments_for}
use Rattle.ang_check_typing.specs.Typing.{typing_of, typing_of_args, typing_of_all}
use Rattle.ang_check_stmt.specs.declared.frame.Returns.{Returns}
use Rattle.ang_check_stmt.specs.declared.frame.Returns.TheVariants as returns
use Rattle.ang_check_stmt.specs.Typing.{FunctionContext, most_locals, has_named, with_same, optional_typing, expression_typing, condition_typing, optional_condition, steps_typing, local_type, local_name_error, name_judged, local_name, initializer_typing, local_typing, each_local, locals_typing, declaration_typing, value_returned, nothing_returned, return_nothing, return_value, result_typing, return_typing, jump, start_typing, head_typing, block_of, alone, stmt_typing, tested_typing, block_typing, stmts_typing}
use Rattle.ang_check.specs.Typing.{parameter_local, typed_parameters, this_local, this_parameter, ending, frame_of, function_typing, method_body_typing, super_chosen, super_by, super_typing, implicit_super, base_typing, maker_frame, constructor_typing, global_typing}
use Rattle.ang_types.specs.ArgTypes.{is_void}
use Rattle.ang_check_laws.specs.Asked.{refuses_use}
use Rattle.ang_check_laws.specs.Beyond.{over, refusal, tried_by, tried, args_tried, all_tried, optional_tried, initializer_tried, each_local_tried, locals_tried, start_tried, head_tried, stmt_tried, block_tried, stmts_tried, base_tried}
use Rattle.ang_check_laws.proofs.Trying.{Harmless, Kept, harmless_in, either_harmless, kept_harmless, kept_itself, kept_after, kept_first, kept_last}
use Rattle.ang_check_laws.proofs.TryingUses.{KeepsValues, arguments_harmless, fit_harmless, same_makers}
use Rattle.ang_check_laws.proofs.TryingTrees.{tree_kept, args_kept, all_kept, local_type_harmless, initializer_kept}

-- ---- what is no use

truth_in_harmless : (a : Operand) (ty : ArgType) → Harmless (truth_in a ty)
truth_in_harmless a (type.Plain p.Bool) = tt
truth_in_harmless a _ = refl

truth_harmless : (a : Operand) → Harmless (truth a)
unfolding truth
truth_harmless a = truth_in_harmless a a.ty

name_judged_harmless : (why : Option ErrorKind) (x : Token) (name : List ℕ) → IfSome why (λ w. refuses_use w ≡ false) → Harmless (name_judged why x name)
name_judged_harmless None x name h = tt
name_judged_harmless (Some w) x name h = ap not h

name_error_harmless : (b c : Bool) → IfSome (if b then Some kind.Duplicate else (if c then None else Some kind.Limit)) (λ w. refuses_use w ≡ false)
name_error_harmless true c = refl
name_error_harmless false true = tt
name_error_harmless false false = refl

local_name_harmless : (f : FunctionContext) (start : ℕ) (ps : List LocalVariable) (x : Token) → Harmless (local_name f start ps x)
unfolding local_name
local_name_harmless f start ps x =
    let name = text_of f.context.text x in
    name_judged_harmless (local_name_error f start ps name) x name
    (name_error_harmless (has_named name (drop start ps)) (nat_lt (length ps - f.parameters) most_locals))

value_returned_harmless : (ancestors : Ancestors) (ty : ArgType) (a : Operand) → Harmless (value_returned ancestors ty a)
value_returned_harmless ancestors type.Void a = refl
value_returned_harmless ancestors type.Null a = fit_harmless ancestors type.Null a
value_returned_harmless ancestors (type.Plain q) a = fit_harmless ancestors (type.Plain q) a
value_returned_harmless ancestors (type.Enumeration n) a = fit_harmless ancestors (type.Enumeration n) a
value_returned_harmless ancestors (type.Object n c) a = fit_harmless ancestors (type.Object n c) a
value_returned_harmless ancestors (type.Handle n c) a = fit_harmless ancestors (type.Handle n c) a

nothing_returned_harmless : (ty : ArgType) (word : Token) → Harmless (nothing_returned ty word)
nothing_returned_harmless type.Void word = tt
nothing_returned_harmless type.Null word = refl
nothing_returned_harmless (type.Plain q) word = refl
nothing_returned_harmless (type.Enumeration n) word = refl
nothing_returned_harmless (type.Object n c) word = refl
nothing_returned_harmless (type.Handle n c) word = refl

return_nothing_harmless : (r : Returns) (word : Token) → Harmless (return_nothing r word)
return_nothing_harmless (returns.Value ty) word = nothing_returned_harmless ty word
return_nothing_harmless (returns.Own ty) word = tt

return_value_harmless : (ancestors : Ancestors) (r : Returns) (a : Operand) → Harmless (return_value ancestors r a)
return_value_harmless ancestors (returns.Value ty) a = value_returned_harmless ancestors ty a
return_value_harmless ancestors (returns.Own ty) a = refl

jump_harmless : (loop : Bool) (word : Token) (x : t.Stmt) → Harmless (jump loop word x)
jump_harmless true word x = tt
jump_harmless false word x = refl

ending_harmless : (ty : ArgType) (x : Token) (ends : Bool) (ps : List TypedParameter) (qs : List Position) (ss : t.Stmts) → Harmless (ending ty x ends ps qs ss)
ending_harmless ty x ends ps qs ss = either_harmless (ends || is_void ty) _ _ tt refl

-- ---- a statement in a block of its own

alone_kept : (x : Typing (List LocalVariable × t.Stmt)) (u : Option TypingRefusal) → Kept x u → Kept (alone x) u
alone_kept x u h = kept_first x _ u h (λ y. tt)

after_alone : {B : Type 0} (x : Typing (List LocalVariable × t.Stmt)) (f : t.Stmts → Typing B) (u : Option TypingRefusal)
    (g : List LocalVariable × t.Stmt → Option TypingRefusal) → Kept x u → ((ss : t.Stmts) (y : List LocalVariable × t.Stmt) → Kept (f ss) (g y))
    → Kept (alone x >>= f) (tried_by x u g)
after_alone (Ok y) f u g h k = k _ y
after_alone (Err r) f u g h k = h

same_kept : (ps : List LocalVariable) (x : Typing t.Stmt) (u : Option TypingRefusal) → Kept x u → Kept (with_same ps x) u
same_kept ps x u h = kept_first x _ u h (λ y. tt)

-- In a function, over view W:
module _ (f : FunctionContext) (W : RegistrationList) (keeps : KeepsValues f.context.view W) where
  abbrev s : BodyContext
  s = f.context

  optional_kept : (ps : List LocalVariable) (e : Option Tree) → Kept (optional_typing s ps e) (optional_tried s W ps e)
  optional_kept ps None = tt
  optional_kept ps (Some e) = kept_first (typing_of s ps e) _ _ (tree_kept s W keeps ps e) (λ a. tt)

  expression_kept : (ps : List LocalVariable) (e : Option Tree) → Kept (expression_typing s ps e) (optional_tried s W ps e)
  expression_kept ps e = kept_first (optional_typing s ps e) _ _ (optional_kept ps e) (λ x. tt)

  condition_kept : (ps : List LocalVariable) (c : Tree) → Kept (condition_typing s ps c) (tried s W ps c)
  condition_kept ps c = kept_first (typing_of s ps c) _ _ (tree_kept s W keeps ps c) truth_harmless

  optional_condition_kept : (ps : List LocalVariable) (c : Option Tree) → Kept (optional_condition s ps c) (optional_tried s W ps c)
  optional_condition_kept ps None = tt
  optional_condition_kept ps (Some c) = kept_first (condition_typing s ps c) _ _ (condition_kept ps c) (λ x. tt)

  steps_kept : (ps : List LocalVariable) (es : Trees) → Kept (steps_typing s ps es) (all_tried s W ps es)
  steps_kept ps es = kept_first (typing_of_all s ps es) _ _ (all_kept s W keeps ps es) (λ operands. tt)

  local_kept : (start : ℕ) (ps : List LocalVariable) (y : TypeName) (ty : ArgType) (v : Var)
      → Kept (local_typing f start ps y ty v) (initializer_tried s W ps y ty v.initializer)
  unfolding local_typing
  local_kept start ps y ty v =
      kept_last (local_name f start ps v.name) _ _ (local_name_harmless f start ps v.name)
      (λ name. kept_first (initializer_typing s ps y ty v.initializer) _ _ (initializer_kept s W keeps ps y ty v.initializer) (λ x. tt))

  each_local_kept : (start : ℕ) (ps : List LocalVariable) (y : TypeName) (ty : ArgType) (vs : List Var)
      → Kept (each_local f start ps y ty vs) (each_local_tried f W start ps y ty vs)
  each_local_kept start ps y ty [] = tt
  each_local_kept start ps y ty (v ∷ vs) =
      kept_after (local_typing f start ps y ty v) _ _ _ (local_kept start ps y ty v)
      (λ l. kept_first (each_local f start l.0 y ty vs) _ _ (each_local_kept start l.0 y ty vs) (λ ls. tt))

  locals_kept : (start : ℕ) (ps : List LocalVariable) (vs : Vars) → Kept (locals_typing f start ps vs) (locals_tried f W start ps vs)
  unfolding locals_typing
  locals_kept start ps vs =
      kept_after (local_type s ps vs.declared_type) _ _ _
      (kept_harmless (local_type s ps vs.declared_type) _ (local_type_harmless s W keeps ps vs.declared_type))
      (λ ty. each_local_kept start ps vs.declared_type ty vs.items)

  declaration_kept : (start : ℕ) (ps : List LocalVariable) (vs : Vars) → Kept (declaration_typing f start ps vs) (locals_tried f W start ps vs)
  declaration_kept start ps vs = kept_first (locals_typing f start ps vs) _ _ (locals_kept start ps vs) (λ ls. tt)

  result_kept : (ps : List LocalVariable) (word : Token) (e : Option Tree) → Kept (result_typing f ps word e) (optional_tried s W ps e)
  result_kept ps word None = kept_harmless (return_nothing f.returns word) _ (return_nothing_harmless f.returns word)
  result_kept ps word (Some e) =
      kept_first (typing_of s ps e) _ _ (tree_kept s W keeps ps e)
      (λ a. harmless_in (return_value s.ancestors f.returns a) _ (return_value_harmless s.ancestors f.returns a) (λ x. tt))

  return_kept : (ps : List LocalVariable) (word : Token) (e : Option Tree) → Kept (return_typing f ps word e) (optional_tried s W ps e)
  return_kept ps word e = kept_first (result_typing f ps word e) _ _ (result_kept ps word e) (λ x. tt)

  start_kept : (ps : List LocalVariable) (b : Start) → Kept (start_typing f ps b) (start_tried f W ps b)
  start_kept ps (with_variables vs) = declaration_kept (length ps) ps vs
  start_kept ps (with_expression e semicolon) = same_kept ps (expression_typing s ps e) _ (expression_kept ps e)

  head_kept : (ps : List LocalVariable) (b : Start) (c : Option Tree) (steps : Trees) → Kept (head_typing f ps b c steps) (head_tried f W ps b c steps)
  head_kept ps b c steps =
      kept_after (start_typing f ps b) _ _ _ (start_kept ps b)
      (λ first. kept_after (optional_condition s first.0 c) _ _ _ (optional_condition_kept first.0 c)
      (λ x. kept_first (steps_typing s first.0 steps) _ _ (steps_kept first.0 steps) (λ es. tt)))

  mutual
    pub stmt_kept : (x : Stmt) (loop : Bool) (start : ℕ) (ps : List LocalVariable) → Kept (stmt_typing f loop start ps x) (stmt_tried f W loop start ps x)
    stmt_kept (block b) loop start ps =
        same_kept ps (block_of (block_typing f loop ps b)) _ (kept_first (block_typing f loop ps b) _ _ (block_kept b loop ps) (λ ss. tt))
    stmt_kept (variables vs) loop start ps = declaration_kept start ps vs
    stmt_kept (expression e semicolon) loop start ps = same_kept ps (expression_typing s ps e) _ (expression_kept ps e)
    stmt_kept (break word semicolon) loop start ps =
        same_kept ps (jump loop word t.break) _ (kept_harmless (jump loop word t.break) _ (jump_harmless loop word t.break))
    stmt_kept (continue word semicolon) loop start ps =
        same_kept ps (jump loop word t.continue) _ (kept_harmless (jump loop word t.continue) _ (jump_harmless loop word t.continue))
    stmt_kept (return word e semicolon) loop start ps = same_kept ps (return_typing f ps word e) _ (return_kept ps word e)
    stmt_kept (when word left c right x) loop start ps =
        same_kept ps _ _
        (kept_first (tested_typing f loop ps c x) _ _
        (kept_after (condition_typing s ps c) _ _ _ (condition_kept ps c)
        (λ a. kept_first (alone (stmt_typing f loop (length ps) ps x)) _ _
        (alone_kept (stmt_typing f loop (length ps) ps x) _ (stmt_kept x loop (length ps) ps)) (λ ss. tt))) (λ y. tt))
    stmt_kept (either word left c right x otherwise u) loop start ps =
        same_kept ps _ _
        (kept_after (tested_typing f loop ps c x) _ _ _
        (kept_after (condition_typing s ps c) _ _ _ (condition_kept ps c)
        (λ a. kept_first (alone (stmt_typing f loop (length ps) ps x)) _ _
        (alone_kept (stmt_typing f loop (length ps) ps x) _ (stmt_kept x loop (length ps) ps)) (λ ss. tt)))
        (λ y. kept_first (alone (stmt_typing f loop (length ps) ps u)) _ _
        (alone_kept (stmt_typing f loop (length ps) ps u) _ (stmt_kept u loop (length ps) ps)) (λ us. tt)))
    stmt_kept (while word left c right x) loop start ps =
        same_kept ps _ _
        (kept_after (condition_typing s ps c) _ _ _ (condition_kept ps c)
        (λ a. kept_first (alone (stmt_typing f true (length ps) ps x)) _ _
        (alone_kept (stmt_typing f true (length ps) ps x) _ (stmt_kept x true (length ps) ps)) (λ ss. tt)))
    stmt_kept (do_while word x again left c right semicolon) loop start ps =
        same_kept ps _ _
        (after_alone (stmt_typing f true (length ps) ps x) _ _ _ (stmt_kept x true (length ps) ps)
        (λ ss y. kept_first (condition_typing s ps c) _ _ (condition_kept ps c) (λ e. tt)))
    stmt_kept (for word left b c semicolon steps right x) loop start ps =
        kept_after (head_typing f ps b c steps) _ _ _ (head_kept ps b c steps)
        (λ h. same_kept ps _ _
        (kept_first (alone (stmt_typing f true (length h.0) h.0 x)) _ _
        (alone_kept (stmt_typing f true (length h.0) h.0 x) _ (stmt_kept x true (length h.0) h.0)) (λ ss. tt)))

    pub block_kept : (b : Body) (loop : Bool) (ps : List LocalVariable) → Kept (block_typing f loop ps b) (block_tried f W loop ps b)
    block_kept (body left ss right) loop ps = stmts_kept ss loop (length ps) ps

    pub stmts_kept : (ss : Stmts) (loop : Bool) (start : ℕ) (ps : List LocalVariable) → Kept (stmts_typing f loop start ps ss) (stmts_tried f W loop start ps ss)
    stmts_kept end loop start ps = tt
    stmts_kept (written.then x ss) loop start ps =
        kept_after (stmt_typing f loop start ps x) _ _ _ (stmt_kept x loop start ps)
        (λ y. kept_first (stmts_typing f loop start y.0 ss) _ _ (stmts_kept ss loop start y.0) (λ xs. tt))

-- ---- bodies and initializers

module _ (s : BodyContext) (W : RegistrationList) (keeps : KeepsValues s.view W) where
  pub function_kept : (f : ScriptFunction) (x : Token) (b : Body)
      → let ps = map parameter_local f.params in Kept (function_typing s f x b) (block_tried (frame_of s f.result.ty ps) W false ps b)
  unfolding function_typing
  function_kept f x b =
      let ps = map parameter_local f.params in
      let frame = frame_of s f.result.ty ps in
      kept_first (block_typing frame false ps b) _ _ (block_kept frame W keeps b false ps)
      (λ ss. ending_harmless f.result.ty x _ (typed_parameters f) _ ss)

  pub method_body_kept : (w : Within) (f : ScriptFunction) (x : Token) (b : Body)
      → let ps = this_local w ∷ map parameter_local f.params in Kept (method_body_typing s w f x b) (block_tried (frame_of s f.result.ty ps) W false ps b)
  unfolding method_body_typing
  method_body_kept w f x b =
      let ps = this_local w ∷ map parameter_local f.params in
      let frame = frame_of s f.result.ty ps in
      kept_first (block_typing frame false ps b) _ _ (block_kept frame W keeps b false ps)
      (λ ss. ending_harmless f.result.ty x _ (this_parameter w ∷ typed_parameters f) _ ss)

  pub global_kept : (g : ScriptGlobal) (y : TypeName) (i : Init) → Kept (global_typing s g y i) (initializer_tried s W [] y g.written.ty i)
  unfolding global_typing
  global_kept g y i = kept_first (initializer_typing s [] y g.written.ty i) _ _ (initializer_kept s W keeps [] y g.written.ty i) (λ x. tt)

  -- ---- `super`

  family_is : (b : ℕ) → family_of_type (family_type b) ≡ Some (family_type b - 1024)
  family_is b = ap (λ (below : Bool). if below then None else Some (family_type b - 1024)) (not_lt_is (family_type b) 1024 (omega arith))

  chosen_kept : (word : Token) (operands : List Operand) (r : Resolution)
      → Kept (super_chosen s word operands r) (refusal (super_chosen (over s W) word operands r))
  chosen_kept word operands (resolution.Variable v ty read_only) = λ e f. refl
  chosen_kept word operands (resolution.Property q) = λ e f. refl
  chosen_kept word operands (resolution.Call c) =
      kept_harmless (super_chosen s word operands (resolution.Call c)) _
      (harmless_in (arguments_for s.ancestors c.candidate.params operands) _ (arguments_harmless s.ancestors c.candidate.params operands) (λ xs. tt))
  chosen_kept word operands (resolution.Type k) = λ e f. refl
  chosen_kept word operands (resolution.Enumeration k) = λ e f. refl
  chosen_kept word operands (resolution.Value v) = λ e f. refl
  chosen_kept word operands (resolution.Refused why) = λ e f. refl

  super_by_kept : (word : Token) (operands : List Operand) (b : Option ℕ) → Kept (super_by s word operands b) (refusal (super_by (over s W) word operands b))
  super_by_kept word operands None = λ e f. refl
  super_by_kept word operands (Some b) =
      let n = family_type b in
      let r = best_of_those s.ancestors kind.NoMatch (makers_of (scope_of s) n) (types_of operands) in
      subst
      (λ ms. Kept (super_chosen s word operands r)
      (refusal (super_chosen (over s W) word operands (best_of_those s.ancestors kind.NoMatch ms (types_of operands)))))
      (same_makers s W [] n (n - 1024) (family_is b)) (chosen_kept word operands r)

  super_kept : (ps : List LocalVariable) (b : Option ℕ) (u : SuperTree)
      → Kept (super_typing s ps b u)
      (tried_by (typing_of_args s ps u.arguments) (args_tried s W ps u.arguments) (λ operands. refusal (super_by (over s W) u.word operands b)))
  unfolding super_typing
  super_kept ps b u =
      kept_after (typing_of_args s ps u.arguments) _ _ _ (args_kept s W keeps ps u.arguments) (λ operands. super_by_kept u.word operands b)

  base_kept : (ps : List LocalVariable) (x base : Token) (b : Option ℕ) (u : Option SuperTree)
      → Kept (base_typing s ps x base b u) (base_tried s W ps x base b u)
  base_kept ps x base b None = kept_itself (implicit_super s.names x.place base b)
  base_kept ps x base b (Some u) = super_kept ps b u

  pub constructor_kept : (w : Within) (f : ScriptFunction) (x base : Token) (b : Option ℕ) (u : Option SuperTree) (ss : Stmts) (close : Token)
      → let ps = this_local w ∷ map parameter_local f.params in Kept (constructor_typing s w f x base b u ss close)
      (tried_by (base_typing s ps x base b u) (base_tried s W ps x base b u) (λ first. stmts_tried (maker_frame s w ps) W false (length ps) ps ss))
  unfolding constructor_typing
  constructor_kept w f x base b u ss close =
      let ps = this_local w ∷ map parameter_local f.params in
      let frame = maker_frame s w ps in
      kept_after (base_typing s ps x base b u) _ _ _ (base_kept ps x base b u)
      (λ first. kept_first (stmts_typing frame false (length ps) ps ss) _ _ (stmts_kept frame W keeps ss false (length ps) ps) (λ xs. tt))

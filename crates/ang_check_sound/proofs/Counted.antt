-- Each typed body has as many places as statements.
use Rattle.std.specs.Prelude.{◌≡◌, ℕ, zero, suc, ◌+◌, Bool, true, false, ◌||◌, length, List, [], ◌∷◌, ◌++◌, map, Option, Some, None, Ok, Err, IfOk, slice_get}
use Rattle.std.specs.List.{filter_map}
use Rattle.std.proofs.Common.{refl, ap, sym, subst, arith, length-append}
use Rattle.std.proofs.lemmas.Option.{same_Some}
use Rattle.ang_kinds.specs.declared.position.Position.{Position}
use Rattle.ang_lex.specs.declared.token.Token.{Token}
use Rattle.ang_types.specs.declared.arg_type.ArgType.{ArgType}
use Rattle.ang_tree.specs.Tree.{Tree, Trees}
use Rattle.ang_tree.specs.Declarations.{SuperTree}
use Rattle.ang_tree.specs.declared.type_name.TypeName.{TypeName}
use Rattle.ang_tree.specs.Stmt.{Init, Vars, Start, with_variables, with_expression, Stmt, Body, Stmts, block, variables, expression, break, continue, return, when, either, while, do_while, for, body, end, Every}
use Rattle.ang_tree.specs.Stmt as written
use Rattle.ang_typed.specs.declared.program.TypedParameter.{TypedParameter}
use Rattle.ang_typed.specs.Typed as t
use Rattle.ang_view.specs.Registration.{RegistrationList}
use Rattle.ang_names_known.specs.declared.names.Names.{Names}
use Rattle.ang_names_known.specs.declared.names.ScriptConstructor.{ScriptConstructor}
use Rattle.ang_names_known.specs.declared.names.ScriptFunction.{ScriptFunction}
use Rattle.ang_names_known.specs.declared.names.ScriptGlobal.{ScriptGlobal}
use Rattle.ang_names_known.specs.declared.names.ScriptMethod.{ScriptMethod}
use Rattle.ang_names_listed.specs.Sources.{Source}
use Rattle.ang_names_listed.specs.Declarations.{declarations_of}
use Rattle.ang_names_classes.specs.Resolved.{names_of}
use Rattle.ang_check_operators.specs.Refusals.{Typing}
use Rattle.ang_check_context.specs.declared.scope.LocalVariable.{LocalVariable}
use Rattle.ang_check_context.specs.declared.scope.Within.{Within}
use Rattle.ang_check_context.specs.Names.{own_type}
use Rattle.ang_check_context.specs.Scope.{BodyContext}
use Rattle.ang_check_stmt.specs.Positions.{token_position, positions_in, positions_of, inner_positions}
use Rattle.ang_check_stmt.specs.Typing.{FunctionContext, with_same, optional_typing, expression_typing, condition_typing, optional_condition, steps_typing, locals_typing, declaration_typing, result_typing, return_typing, jump, start_typing, head_typing, block_of, alone, tested_of, either_of, while_of, do_while_of, for_of, stmt_typing, block_typing, stmts_typing, own_object}
use Rattle.ang_check.specs.Positions.{base_positions, constructor_positions}
use Rattle.ang_check.specs.Typing.{Base, parameter_local, typed_parameters, this_parameter, this_local, ending, frame_of, function_typing, method_body_typing, base_call, base_typing, with_last, maker_frame, constructor_typing}
use Rattle.ang_types.specs.ArgTypes.{is_void}
use Rattle.ang_check.specs.Bodies.{Part, a_function, a_global, a_method, a_constructor, a_default, parts_of, Judgement, of_function, of_global, of_member, of_default, context_in, within_of, base_of, base_name, judged_function, judged_global, method_at, judged_method, constructor_at, judged_constructor, judgements, function_given, member_given, body_refusals, program_of}
use Rattle.ang_check_sound.specs.Placed.{AreCounted}
use Rattle.ang_check_sound.proofs.Judged.{holds, either_holds, any}
use Rattle.ang_check_sound.proofs.Program.{J}

-- ---- statements

-- A statement with those inside it is k of them,
abbrev Is : ℕ → t.Stmt → Type 0
Is k y = suc (t.inner_count y) ≡ k

abbrev Leaves : ℕ → List LocalVariable × t.Stmt → Type 0
Leaves k r = Is k r.1

-- and so are these.
abbrev Are : ℕ → t.Stmts → Type 0
Are k ss = t.statement_count ss ≡ k

same_counted : (k : ℕ) (ps : List LocalVariable) (x : Typing t.Stmt) → IfOk x (Is k) → IfOk (with_same ps x) (Leaves k)
same_counted k ps x h = holds (Is k) (Leaves k) x _ h (λ y e. e)

jump_counted : (loop : Bool) (word : Token) (y : t.Stmt) → Is 1 y → IfOk (jump loop word y) (Is 1)
jump_counted true word y e = e
jump_counted false word y e = tt

alone_counted : (k : ℕ) (x : Typing (List LocalVariable × t.Stmt)) → IfOk x (Leaves k) → IfOk (alone x) (Are k)
alone_counted k x h =
    holds (Leaves k) (Are k) x _ h
    (λ y e. let one : suc (t.inner_count y.1) ≡ k = e in let goal : suc (t.inner_count y.1 + 0) ≡ k = omega arith in goal)

block_of_counted : (k : ℕ) (x : Typing t.Stmts) → IfOk x (Are k) → IfOk (block_of x) (Is (suc k))
block_of_counted k x h = holds (Are k) (Is (suc k)) x _ h (λ ss e. ap suc e)

either_counted : (k j n : ℕ) (c : Typing t.Expr) (x u : Typing t.Stmts) → suc (k + j) ≡ n → IfOk x (Are k) → IfOk u (Are j)
    → IfOk (either_of (tested_of c x) u) (Is n)
either_counted k j n c x u all h g =
    holds (λ (r : t.Expr × t.Stmts). Are k r.1) (Is n) (tested_of c x) _
    (holds (λ (e : t.Expr). Unit {0}) (λ (r : t.Expr × t.Stmts). Are k r.1) c _ (any c)
    (λ e i. holds (Are k) (λ (r : t.Expr × t.Stmts). Are k r.1) x _ h (λ ss is. is)))
    (λ r is. holds (Are j) (Is n) u _ g
    (λ us are. let one : t.statement_count r.1 ≡ k = is in let other : t.statement_count us ≡ j = are in
    let goal : suc (t.statement_count r.1 + t.statement_count us) ≡ n = omega (arith, all) in goal))

while_counted : (k : ℕ) (c : Typing t.Expr) (x : Typing t.Stmts) → IfOk x (Are k) → IfOk (while_of c x) (Is (suc k))
while_counted k c x h =
    holds (λ (e : t.Expr). Unit {0}) (Is (suc k)) c _ (any c) (λ e i. holds (Are k) (Is (suc k)) x _ h (λ ss is. ap suc is))

do_while_counted : (k : ℕ) (x : Typing t.Stmts) (c : Typing t.Expr) → IfOk x (Are k) → IfOk (do_while_of x c) (Is (suc k))
do_while_counted k x c h =
    holds (Are k) (Is (suc k)) x _ h (λ ss is. holds (λ (e : t.Expr). Unit {0}) (Is (suc k)) c _ (any c) (λ e i. ap suc is))

for_counted : (k : ℕ) (h : t.Stmt × Option t.Expr × List t.Expr) (x : Typing t.Stmts) → Is 1 h.0 → IfOk x (Are k)
    → IfOk (for_of h x) (Is (suc (suc k)))
for_counted k h x first g =
    holds (Are k) (Is (suc (suc k))) x _ g
    (λ ss is. let start : suc (t.inner_count h.0) ≡ 1 = first in let rest : t.statement_count ss ≡ k = is in
    let goal : suc (suc (t.inner_count h.0 + 0) + t.statement_count ss) ≡ suc (suc k) = omega arith in goal)

-- In a function:
module _ (f : FunctionContext) where
  declaration_counted : (start : ℕ) (ps : List LocalVariable) (vs : Vars) → IfOk (declaration_typing f start ps vs) (Leaves 1)
  declaration_counted start ps vs =
      holds (λ (ls : List LocalVariable × List t.Local). Unit {0}) (Leaves 1) (locals_typing f start ps vs) _ (any _) (λ ls i. refl)

  expression_counted : (ps : List LocalVariable) (e : Option Tree) → IfOk (expression_typing f.context ps e) (Is 1)
  expression_counted ps e =
      holds (λ (x : Option t.Expr). Unit {0}) (Is 1) (optional_typing f.context ps e) _ (any _) (λ x i. refl)

  return_counted : (ps : List LocalVariable) (word : Token) (e : Option Tree) → IfOk (return_typing f ps word e) (Is 1)
  return_counted ps word e = holds (λ (x : Option t.Expr). Unit {0}) (Is 1) (result_typing f ps word e) _ (any _) (λ x i. refl)

  start_counted : (ps : List LocalVariable) (b : Start) → IfOk (start_typing f ps b) (Leaves 1)
  start_counted ps (with_variables vs) = declaration_counted (length ps) ps vs
  start_counted ps (with_expression e semicolon) = same_counted 1 ps (expression_typing f.context ps e) (expression_counted ps e)

  abbrev Head : List LocalVariable × t.Stmt × Option t.Expr × List t.Expr → Type 0
  Head h = Is 1 h.1

  head_counted : (ps : List LocalVariable) (b : Start) (c : Option Tree) (steps : Trees) → IfOk (head_typing f ps b c steps) Head
  head_counted ps b c steps =
      holds (Leaves 1) Head (start_typing f ps b) _ (start_counted ps b)
      (λ first is. holds (λ (x : Option t.Expr). Unit {0}) Head (optional_condition f.context first.0 c) _ (any _)
      (λ x i. holds (λ (es : List t.Expr). Unit {0}) Head (steps_typing f.context first.0 steps) _ (any _) (λ es j. is)))

  mutual
    statement_counted : (x : Stmt) (loop : Bool) (start : ℕ) (ps : List LocalVariable) → IfOk (stmt_typing f loop start ps x) (Leaves (length (positions_in x)))
    statement_counted (block (body left ss right)) loop start ps =
        same_counted _ ps _ (block_of_counted (length (positions_of ss)) (stmts_typing f loop (length ps) ps ss) (statements_counted ss loop (length ps) ps))
    statement_counted (variables vs) loop start ps = declaration_counted start ps vs
    statement_counted (expression e semicolon) loop start ps = same_counted 1 ps (expression_typing f.context ps e) (expression_counted ps e)
    statement_counted (break word semicolon) loop start ps = same_counted 1 ps (jump loop word t.break) (jump_counted loop word t.break refl)
    statement_counted (continue word semicolon) loop start ps = same_counted 1 ps (jump loop word t.continue) (jump_counted loop word t.continue refl)
    statement_counted (return word e semicolon) loop start ps = same_counted 1 ps (return_typing f ps word e) (return_counted ps word e)
    statement_counted (when word left c right x) loop start ps =
        let k = length (positions_in x) in
        same_counted (suc k) ps _ (either_counted k 0 (suc k) (condition_typing f.context ps c) _ (Ok t.end) (omega arith)
        (alone_counted k _ (statement_counted x loop (length ps) ps)) refl)
    statement_counted (either word left c right x otherwise u) loop start ps =
        let k = length (positions_in x) in
        let j = length (positions_in u) in
        same_counted _ ps _ (either_counted k j (suc (length (positions_in x ++ positions_in u))) (condition_typing f.context ps c) _ _
        (ap suc (sym (length-append (positions_in x) (positions_in u))))
        (alone_counted k _ (statement_counted x loop (length ps) ps)) (alone_counted j _ (statement_counted u loop (length ps) ps)))
    statement_counted (while word left c right x) loop start ps =
        let k = length (positions_in x) in
        same_counted (suc k) ps _ (while_counted k (condition_typing f.context ps c) _ (alone_counted k _ (statement_counted x true (length ps) ps)))
    statement_counted (do_while word x again left c right semicolon) loop start ps =
        let k = length (positions_in x) in
        same_counted (suc k) ps _ (do_while_counted k _ (condition_typing f.context ps c) (alone_counted k _ (statement_counted x true (length ps) ps)))
    statement_counted (for word left b c semicolon steps right x) loop start ps =
        let k = length (positions_in x) in
        holds Head (Leaves (suc (suc k))) (head_typing f ps b c steps) _ (head_counted ps b c steps)
        (λ h is. same_counted (suc (suc k)) ps _
        (for_counted k (h.1, h.2, h.3) _ is (alone_counted k _ (statement_counted x true (length h.0) h.0))))

    statements_counted : (ss : Stmts) (loop : Bool) (start : ℕ) (ps : List LocalVariable) → IfOk (stmts_typing f loop start ps ss) (Are (length (positions_of ss)))
    statements_counted end loop start ps = refl
    statements_counted (written.then x ss) loop start ps =
        holds (Leaves (length (positions_in x))) (Are (length (positions_in x ++ positions_of ss))) (stmt_typing f loop start ps x) _ (statement_counted x loop start ps)
        (λ y is. holds (Are (length (positions_of ss))) (Are (length (positions_in x ++ positions_of ss))) (stmts_typing f loop start y.0 ss) _
        (statements_counted ss loop start y.0)
        (λ xs are. let one : suc (t.inner_count y.1) ≡ length (positions_in x) = is in
        let others : t.statement_count xs ≡ length (positions_of ss) = are in
        let goal : suc (t.inner_count y.1 + t.statement_count xs) ≡ length (positions_in x ++ positions_of ss) =
        omega (arith, length-append (positions_in x) (positions_of ss)) in goal))

  block_counted : (b : Body) (loop : Bool) (ps : List LocalVariable) → IfOk (block_typing f loop ps b) (Are (length (inner_positions b)))
  block_counted (body left ss right) loop ps = statements_counted ss loop (length ps) ps

-- ---- bodies

abbrev IsCounted : t.TypedFunction → Type 0
IsCounted g = t.statement_count g.body ≡ length g.positions

ending_counted : (ty : ArgType) (x : Token) (ends : Bool) (ps : List TypedParameter) (qs : List Position) (ss : t.Stmts) → Are (length qs) ss
    → IfOk (ending ty x ends ps qs ss) IsCounted
ending_counted ty x ends ps qs ss h = either_holds IsCounted (ends || is_void ty) _ _ h tt

function_counted : (s : BodyContext) (f : ScriptFunction) (x : Token) (b : Body) → IfOk (function_typing s f x b) IsCounted
unfolding function_typing
function_counted s f x b =
    let ps = map parameter_local f.params in
    holds (Are (length (inner_positions b))) IsCounted (block_typing (frame_of s f.result.ty ps) false ps b) _ (block_counted (frame_of s f.result.ty ps) b false ps)
    (λ ss h. ending_counted f.result.ty x _ (typed_parameters f) (inner_positions b) ss h)

method_counted : (s : BodyContext) (w : Within) (f : ScriptFunction) (x : Token) (b : Body) → IfOk (method_body_typing s w f x b) IsCounted
unfolding method_body_typing
method_counted s w f x b =
    let ps = this_local w ∷ map parameter_local f.params in
    holds (Are (length (inner_positions b))) IsCounted (block_typing (frame_of s f.result.ty ps) false ps b) _ (block_counted (frame_of s f.result.ty ps) b false ps)
    (λ ss h. ending_counted f.result.ty x _ (this_parameter w ∷ typed_parameters f) (inner_positions b) ss h)

last_counted : (ss : t.Stmts) (y : t.Stmt) → t.inner_count y ≡ 0 → t.statement_count (with_last ss y) ≡ t.statement_count ss + 1
last_counted t.end y e = omega (arith, e)
last_counted (t.then x ss) y e = omega (arith, last_counted ss y e)

base_counted : (w : Within) (b : Option ℕ) (xs : List t.Arg) (ss : t.Stmts) (x : Token) (u : Option SuperTree)
    → t.statement_count (base_call w b xs ss) ≡ length (base_positions b x u) + t.statement_count ss
base_counted w None xs ss x u = omega arith
base_counted w (Some k) xs ss x u = omega arith

constructor_counted : (s : BodyContext) (w : Within) (f : ScriptFunction) (x base : Token) (b : Option ℕ) (u : Option SuperTree) (ss : Stmts) (close : Token)
    → IfOk (constructor_typing s w f x base b u ss close) IsCounted
unfolding constructor_typing
constructor_counted s w f x base b u ss close =
    let ps = this_local w ∷ map parameter_local f.params in
    holds (λ (first : Base). Unit {0}) IsCounted (base_typing s ps x base b u) _ (any _)
    (λ first i. holds (Are (length (positions_of ss))) IsCounted (stmts_typing (maker_frame s w ps) false (length ps) ps ss) _
    (statements_counted (maker_frame s w ps) ss false (length ps) ps)
    (λ xs are.
    let back = t.return (Some (own_object (own_type w))) in
    let called = base_positions first.0 x u in
    let all : t.statement_count xs ≡ length (positions_of ss) = are in
    let last = last_counted xs back refl in
    let begun = base_counted w first.0 first.1 (with_last xs back) x u in
    let front = length-append called (positions_of ss) in
    let whole = length-append (called ++ positions_of ss) (token_position close ∷ []) in
    let goal : t.statement_count (base_call w first.0 first.1 (with_last xs back)) ≡ length (constructor_positions first.0 x u ss close) =
    omega (arith, last, begun, front, whole) in goal))

-- ---- all of them

abbrev IsJudged : Judgement → Type 0
IsJudged (of_function text g) = IfOk g IsCounted
IsJudged (of_global text g) = Unit {0}
IsJudged (of_member text g) = IfOk g IsCounted
IsJudged (of_default text g) = Unit {0}

module _ (V : RegistrationList) (names : Names) where
  one_function : (text : List ℕ) (x : Token) (b : Body) (o : Option ScriptFunction) (js : List Judgement) → Every IsJudged js
      → Every IsJudged (judged_function V names text x b o ++ js)
  one_function text x b None js h = h
  one_function text x b (Some f) js h = (function_counted (context_in V names text None) f x b, h)

  one_method : (c : ℕ) (text : List ℕ) (x : Token) (b : Body) (o : Option ScriptMethod) (js : List Judgement) → Every IsJudged js
      → Every IsJudged (judged_method V names c text x b o ++ js)
  one_method c text x b None js h = h
  one_method c text x b (Some y) js h =
      let w = within_of V names c y.read_only in (method_counted (context_in V names text (Some w)) w y.function x b, h)

  one_constructor : (c : ℕ) (text : List ℕ) (x base : Token) (n : Option ℕ) (u : Option SuperTree) (ss : Stmts) (close : Token) (o : Option ScriptConstructor)
      (js : List Judgement) → Every IsJudged js → Every IsJudged (judged_constructor V names c text x base n u ss close o ++ js)
  one_constructor c text x base n u ss close None js h = h
  one_constructor c text x base n u ss close (Some k) js h =
      let w = within_of V names c false in (constructor_counted (context_in V names text (Some w)) w k.function x base n u ss close, h)

  one_global : (text : List ℕ) (y : TypeName) (i : Init) (o : Option ScriptGlobal) (js : List Judgement) → Every IsJudged js
      → Every IsJudged (judged_global V names text y i o ++ js)
  one_global text y i None js h = h
  one_global text y i (Some g) js h = (tt, h)

  all_judged : (ps : List Part) → Every IsJudged (J V names ps)
  all_judged [] = tt
  all_judged (a_function n text x b ∷ ps) = one_function text x b (slice_get names.functions n) _ (all_judged ps)
  all_judged (a_global n text y i ∷ ps) = one_global text y i (slice_get names.globals n) _ (all_judged ps)
  all_judged (a_method c m text x b ∷ ps) = one_method c text x b (method_at V names c m) _ (all_judged ps)
  all_judged (a_constructor c k text x own bases u ss close ∷ ps) =
      one_constructor c text x (base_name V names c text own bases) (base_of V names c) u ss close (constructor_at V names c k) _ (all_judged ps)
  all_judged (a_default c text x bases ∷ ps) = (tt, all_judged ps)

functions_counted : (js : List Judgement) → Every IsJudged js → Every IsCounted (filter_map function_given js)
functions_counted [] h = tt
functions_counted (of_function text (Ok g) ∷ js) h = (h.0, functions_counted js h.1)
functions_counted (of_function text (Err r) ∷ js) h = functions_counted js h.1
functions_counted (of_global text g ∷ js) h = functions_counted js h.1
functions_counted (of_member text g ∷ js) h = functions_counted js h.1
functions_counted (of_default text b ∷ js) h = functions_counted js h.1

members_counted : (js : List Judgement) → Every IsJudged js → Every IsCounted (filter_map member_given js)
members_counted [] h = tt
members_counted (of_function text g ∷ js) h = members_counted js h.1
members_counted (of_global text g ∷ js) h = members_counted js h.1
members_counted (of_member text (Ok g) ∷ js) h = (h.0, members_counted js h.1)
members_counted (of_member text (Err r) ∷ js) h = members_counted js h.1
members_counted (of_default text b ∷ js) h = members_counted js h.1

both_counted : (xs ys : List t.TypedFunction) → Every IsCounted xs → Every IsCounted ys → Every IsCounted (xs ++ ys)
both_counted [] ys h k = k
both_counted (x ∷ xs) ys h k = (h.0, both_counted xs ys h.1 k)

counted_at : (gs : List t.TypedFunction) (n : ℕ) (g : t.TypedFunction) → Every IsCounted gs → slice_get gs n ≡ Some g → IsCounted g
counted_at [] n g h e = cc
counted_at (x ∷ gs) zero g h e = subst IsCounted (same_Some x g e) h.0
counted_at (x ∷ gs) (suc n) g h e = counted_at gs n g h.1 e

pub places_counted : (V : RegistrationList) (names : Names) (sources : List Source) → names ≡ names_of V (declarations_of sources)
    → body_refusals V names sources ≡ [] → AreCounted (program_of V names sources)
unfolding judgements program_of
places_counted V names sources e none n g at =
    let all = all_judged V names (parts_of sources) in
    counted_at _ n g (both_counted _ _ (functions_counted _ all) (members_counted _ all)) at

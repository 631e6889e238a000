-- What a loop has so far, in front of what is left.
use Rattle.std.proofs.Common.{Bool, ◌≡◌, ◌<◌, ◌≤◌, ◌+◌, refl, ap, sym, ◌∙◌, ℕ, suc, List, [], ◌∷◌, ◌++◌, append_assoc, append-nil, length, get_or, drop, take, drop-cons, add-one, arith, Result, Ok, Err, map as list_map}
use Rattle.std.proofs.lemmas.List.{length-append, take-take, drop_all}
use Rattle.std.proofs.Math.Seq.{take-length, take-append_seam}
use Rattle.ang_tree.specs.View as trees
use Rattle.ang_tree.specs.declared.statement.Statement.{Statement}
use Rattle.ang_tree.specs.declared.statement.Variable.{Variable}
use Rattle.ang_tree.specs.declared.type_name.TypeName.{TypeName}
use Rattle.ang_types.specs.declared.arg_type.ArgType.{ArgType}
use Rattle.ang_typed.specs.Typed as t
use Rattle.ang_check_context.specs.declared.scope.LocalVariable.{LocalVariable}
use Rattle.ang_check_operators.specs.declared.refusal.TypingRefusal.{TypingRefusal}
use Rattle.ang_check_operators.specs.Refusals.{Typing, ◌>>=◌}
use Rattle.ang_typed.specs.View.{view_stmt}
use Rattle.ang_typed.specs.declared.statement.TypedStatement as typed
use Rattle.ang_check_stmt.specs.declared.halt.Halt.{Halt}
use Rattle.ang_check_stmt.specs.declared.halt.Halt.TheVariants as halt
use Rattle.ang_check_stmt.specs.Halts.{GivesOrHalts}
use Rattle.ang_check_stmt.specs.Typing.{FunctionContext, Keeps, with_same, stmt_typing, stmts_typing, local_typing, each_local}

-- ---- lists

-- the item of an index stands in front of what is after it
pub drop_item : {A : Type 0} (xs : List A) (i : ℕ) (x : A) → i < length xs → x ≡ get_or xs i x → drop i xs ≡ x ∷ drop (i + 1) xs
drop_item xs i x lt e = drop-cons xs i x lt ∙ ap (λ y. y ∷ drop (suc i) xs) (sym e) ∙ ap (λ n. x ∷ drop n xs) (sym (add-one i))

-- ---- locals

pub keeps_same : (a b : List LocalVariable) → b ≡ a → Keeps a b
keeps_same a b e = record { front = ap (λ x. take (length a) x) e ∙ take-length a; longer = omega (arith, ap length e) }

pub keeps_pushed : (a b : List LocalVariable) (p : LocalVariable) → b ≡ a ++ (p ∷ []) → Keeps a b
keeps_pushed a b p e = record {
  front = ap (λ x. take (length a) x) e ∙ take-append_seam a (p ∷ []);
  longer = omega (arith, ap length e, length-append a (p ∷ []));
}

pub keeps_on : (a b c : List LocalVariable) → Keeps a b → Keeps b c → Keeps a c
keeps_on a b c f g = record {
  front = sym (take-take (length a) (length b) c f.longer) ∙ ap (take (length a)) g.front ∙ f.front;
  longer = omega (arith, f.longer, g.longer);
}

pub ruleset keeps = (keeps_same, keeps_pushed, keeps_on)

-- ---- statements

-- a statement after which the same locals are alive
pub gives_same : (ps : List LocalVariable) (r : Result typed.TypedStatement Halt) (j : Typing t.Stmt) → GivesOrHalts view_stmt r j
    → GivesOrHalts (λ x. (ps, view_stmt x)) r (with_same ps j)
gives_same ps (Ok x) j h = ap (λ k. with_same ps k) h
gives_same ps (Err halt.Memory) j h = tt
gives_same ps (Err (halt.Refused r)) j h = ap (λ k. with_same ps k) h

-- statements in front of others
abbrev pub in_front : List t.Stmt → t.Stmts → t.Stmts
in_front [] ss = ss
in_front (x ∷ xs) ss = t.then x (in_front xs ss)

abbrev pub stmts_behind : List t.Stmt → Typing t.Stmts → Typing t.Stmts
stmts_behind xs (Err r) = Err r
stmts_behind xs (Ok ss) = Ok (in_front xs ss)

-- one more statement goes in front of those that are left
in_front-added : (xs : List t.Stmt) (x : t.Stmt) (ss : t.Stmts) → in_front (xs ++ (x ∷ [])) ss ≡ in_front xs (t.then x ss)
in_front-added [] x ss = refl
in_front-added (y ∷ ys) x ss = ap (t.then y) (in_front-added ys x ss)

-- statements alone
in_front-end : (xs : List t.Stmt) → in_front xs t.end ≡ t.stmts xs
in_front-end [] = refl
in_front-end (x ∷ xs) = ap (t.then x) (in_front-end xs)

behind-added : (xs : List t.Stmt) (x : t.Stmt) (js : Typing t.Stmts)
    → stmts_behind xs (js >>= (λ ss. Ok (t.then x ss))) ≡ stmts_behind (xs ++ (x ∷ [])) js
behind-added xs x (Err r) = refl
behind-added xs x (Ok ss) = ap (λ k. Ok k) (sym (in_front-added xs x ss))

-- a statement that was typed
pub statements_turn : (f : FunctionContext) (loop : Bool) (start : ℕ) (ps qs : List LocalVariable) (all : Typing t.Stmts) (xs : List t.Stmt) (x : t.Stmt)
    (ws : List Statement) (i : ℕ) (w : Statement)
    → all ≡ stmts_behind xs (stmts_typing f loop start ps (trees.view_stmts (drop i ws)))
    → i < length ws → w ≡ get_or ws i w
    → stmt_typing f loop start ps (trees.view_stmt w) ≡ Ok (qs, x)
    → all ≡ stmts_behind (xs ++ (x ∷ [])) (stmts_typing f loop start qs (trees.view_stmts (drop (i + 1) ws)))
statements_turn f loop start ps qs all xs x ws i w h lt is e =
    h ∙ ap (λ l. stmts_behind xs (stmts_typing f loop start ps (trees.view_stmts l))) (drop_item ws i w lt is)
    ∙ ap (λ j. stmts_behind xs (j >>= (λ y. stmts_typing f loop start y.0 (trees.view_stmts (drop (i + 1) ws)) >>= (λ ss. Ok (t.then y.1 ss))))) e
    ∙ behind-added xs x (stmts_typing f loop start qs (trees.view_stmts (drop (i + 1) ws)))

-- a statement that was refused
pub statements_refused : (f : FunctionContext) (loop : Bool) (start : ℕ) (ps : List LocalVariable) (all : Typing t.Stmts) (xs : List t.Stmt)
    (ws : List Statement) (i : ℕ) (w : Statement) (r : TypingRefusal)
    → all ≡ stmts_behind xs (stmts_typing f loop start ps (trees.view_stmts (drop i ws)))
    → i < length ws → w ≡ get_or ws i w
    → stmt_typing f loop start ps (trees.view_stmt w) ≡ Err r
    → all ≡ Err r
statements_refused f loop start ps all xs ws i w r h lt is e =
    h ∙ ap (λ l. stmts_behind xs (stmts_typing f loop start ps (trees.view_stmts l))) (drop_item ws i w lt is)
    ∙ ap (λ j. stmts_behind xs (j >>= (λ y. stmts_typing f loop start y.0 (trees.view_stmts (drop (i + 1) ws)) >>= (λ ss. Ok (t.then y.1 ss))))) e

-- no statement is left
pub statements_end : (f : FunctionContext) (loop : Bool) (start : ℕ) (ps : List LocalVariable) (all : Typing t.Stmts) (xs : List t.Stmt) (ws : List Statement)
    (i : ℕ) → all ≡ stmts_behind xs (stmts_typing f loop start ps (trees.view_stmts (drop i ws))) → length ws ≤ i → all ≡ Ok (t.stmts xs)
statements_end f loop start ps all xs ws i h le =
    h ∙ ap (λ l. stmts_behind xs (stmts_typing f loop start ps (trees.view_stmts l))) (drop_all i ws le) ∙ ap (λ ss. Ok ss) (in_front-end xs)

-- ---- locals

-- locals in front of others, with the locals after them all
abbrev pub locals_behind : List t.Local → Typing (List LocalVariable × List t.Local) → Typing (List LocalVariable × List t.Local)
locals_behind ls (Err r) = Err r
locals_behind ls (Ok x) = Ok ((x.0, ls ++ x.1))

local_added : (ls : List t.Local) (l : t.Local) (js : Typing (List LocalVariable × List t.Local))
    → locals_behind ls (js >>= (λ k. Ok ((k.0, l ∷ k.1)))) ≡ locals_behind (ls ++ (l ∷ [])) js
local_added ls l (Err r) = refl
local_added ls l (Ok k) = ap (λ m. Ok ((k.0, m))) (sym (append_assoc ls (l ∷ []) k.1))

-- a local that was typed
pub locals_turn : (f : FunctionContext) (start : ℕ) (ps qs : List LocalVariable) (y : TypeName) (ty : ArgType) (all : Typing (List LocalVariable × List t.Local))
    (ls : List t.Local) (l : t.Local) (vs : List Variable) (i : ℕ) (v : Variable)
    → all ≡ locals_behind ls (each_local f start ps y ty (list_map trees.view_var (drop i vs)))
    → i < length vs → v ≡ get_or vs i v
    → local_typing f start ps y ty (trees.view_var v) ≡ Ok ((qs, l))
    → all ≡ locals_behind (ls ++ (l ∷ [])) (each_local f start qs y ty (list_map trees.view_var (drop (i + 1) vs)))
locals_turn f start ps qs y ty all ls l vs i v h lt is e =
    h ∙ ap (λ x. locals_behind ls (each_local f start ps y ty (list_map trees.view_var x))) (drop_item vs i v lt is)
    ∙ ap (λ j. locals_behind ls (j >>= (λ k. each_local f start k.0 y ty (list_map trees.view_var (drop (i + 1) vs)) >>= (λ m. Ok ((m.0, k.1 ∷ m.1)))))) e
    ∙ local_added ls l (each_local f start qs y ty (list_map trees.view_var (drop (i + 1) vs)))

-- a local that was refused
pub locals_refused : (f : FunctionContext) (start : ℕ) (ps : List LocalVariable) (y : TypeName) (ty : ArgType) (all : Typing (List LocalVariable × List t.Local))
    (ls : List t.Local) (vs : List Variable) (i : ℕ) (v : Variable) (r : TypingRefusal)
    → all ≡ locals_behind ls (each_local f start ps y ty (list_map trees.view_var (drop i vs)))
    → i < length vs → v ≡ get_or vs i v
    → local_typing f start ps y ty (trees.view_var v) ≡ Err r
    → all ≡ Err r
locals_refused f start ps y ty all ls vs i v r h lt is e =
    h ∙ ap (λ x. locals_behind ls (each_local f start ps y ty (list_map trees.view_var x))) (drop_item vs i v lt is)
    ∙ ap (λ j. locals_behind ls (j >>= (λ k. each_local f start k.0 y ty (list_map trees.view_var (drop (i + 1) vs)) >>= (λ m. Ok ((m.0, k.1 ∷ m.1)))))) e

-- no local is left
pub locals_end : (f : FunctionContext) (start : ℕ) (ps : List LocalVariable) (y : TypeName) (ty : ArgType) (all : Typing (List LocalVariable × List t.Local))
    (ls : List t.Local) (vs : List Variable) (i : ℕ)
    → all ≡ locals_behind ls (each_local f start ps y ty (list_map trees.view_var (drop i vs))) → length vs ≤ i → all ≡ Ok ((ps, ls))
locals_end f start ps y ty all ls vs i h le =
    h ∙ ap (λ x. locals_behind ls (each_local f start ps y ty (list_map trees.view_var x))) (drop_all i vs le) ∙ ap (λ m. Ok ((ps, m))) (append-nil ls)

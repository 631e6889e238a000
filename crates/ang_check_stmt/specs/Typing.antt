-- The typing of statements (docs/LANGUAGE.md, "Statements"; the AngelScript manual, "Statements" and "Variables"): by cases
-- on the tree, the resolved tree and the locals that are alive after it, or the first refusal in reading order.
use Rattle.std.specs.Prelude.{◌≡◌, ℕ, ◌-◌, ◌≤◌, nat_lt, bytes_eq, Bool, true, false, if◌then◌else◌, is_some, length, take, drop, List, [], ◌∷◌, ◌++◌, map, Option, Some, None, Ok, Err}
use Rattle.std.specs.List.{list_any}
use Rattle.ang_kinds.specs.declared.error.ErrorKind.{ErrorKind}
use Rattle.ang_kinds.specs.declared.error.ErrorKind.TheVariants as kind
use Rattle.ang_lex.specs.declared.token.Token.{Token}
use Rattle.ang_types.specs.declared.arg_type.ArgType.{ArgType}
use Rattle.ang_types.specs.declared.arg_type.ArgType.TheVariants as type
use Rattle.ang_types.specs.Ranks.{Ancestors}
use Rattle.ang_tree.specs.declared.type_name.TypeName.{TypeName}
use Rattle.ang_tree.specs.Tree.{Tree, Trees}
use Rattle.ang_tree.specs.Stmt.{Init, absent, value, constructor, Var, Vars, Start, with_variables, with_expression, Stmt, Body, Stmts, block, variables, expression, break, continue, return, when, either, while, do_while, for, body, end}
use Rattle.ang_tree.specs.Stmt as written
use Rattle.ang_typed.specs.declared.expression.TypedVariable.TheVariants as variable
use Rattle.ang_typed.specs.Typed as t
use Rattle.ang_check_stmt.specs.declared.frame.Returns.{Returns}
use Rattle.ang_check_stmt.specs.declared.frame.Returns.TheVariants as returns
use Rattle.ang_check_context.specs.declared.scope.LocalVariable.{LocalVariable}
use Rattle.ang_names_listed.specs.declared.role.TypePosition.TheVariants as role
use Rattle.ang_names_known.specs.Lookup.{is_read_only}
use Rattle.ang_check_operators.specs.Operands.{Operand, fit, truth}
use Rattle.ang_check_operators.specs.Refusals.{Typing, ◌>>=◌, fault, refused}
use Rattle.ang_check_context.specs.Casts.{type_or_refusal}
use Rattle.ang_check_context.specs.Scope.{BodyContext, space_of}
use Rattle.ang_check_typing.specs.Calls.{default_typing, made_typing}
use Rattle.ang_check_typing.specs.Typing.{typing_of, typing_of_args, typing_of_all}
use Rattle.ang_lex.specs.Text.{text_of}
use Rattle.ang_names_listed.specs.Types.{type_in, is_const_handle}

-- What is the same for all statements of a function: what its names are looked up in, how it returns, and how many locals it begins
-- with, `this` and its parameters.
pub record FunctionContext : Type 0 where
  pub context : BodyContext
  pub returns : Returns
  pub parameters : ℕ

-- the most locals that can be alive at once in one function
abbrev pub most_locals : ℕ
most_locals = 1024

-- a statement after which the same locals are alive
abbrev pub with_same : List LocalVariable → Typing t.Stmt → Typing (List LocalVariable × t.Stmt)
with_same ps x = do
  y ← x
  Ok ((ps, y))

abbrev pub optional_typing : BodyContext → List LocalVariable → Option Tree → Typing (Option t.Expr)
optional_typing s ps None = Ok None
optional_typing s ps (Some e) = do
  a ← typing_of s ps e
  Ok (Some a.tree)

-- an expression as a statement
abbrev pub expression_typing : BodyContext → List LocalVariable → Option Tree → Typing t.Stmt
expression_typing s ps e = do
  x ← optional_typing s ps e
  Ok (t.expression x)

-- ---- conditions

abbrev pub condition_typing : BodyContext → List LocalVariable → Tree → Typing t.Expr
condition_typing s ps c = do
  a ← typing_of s ps c
  truth a

abbrev pub optional_condition : BodyContext → List LocalVariable → Option Tree → Typing (Option t.Expr)
optional_condition s ps None = Ok None
optional_condition s ps (Some c) = do
  x ← condition_typing s ps c
  Ok (Some x)

-- ---- the steps of a `for`

abbrev pub trees_of : List Operand → List t.Expr
trees_of operands = map (λ a. a.tree) operands

abbrev pub steps_typing : BodyContext → List LocalVariable → Trees → Typing (List t.Expr)
steps_typing s ps es = do
  operands ← typing_of_all s ps es
  Ok (trees_of operands)

-- ---- local variables

-- The locals that were alive are, in front of others.
pub record Keeps (old new : List LocalVariable) : Type 0 where
  pub front : take (length old) new ≡ old
  pub longer : length old ≤ length new

-- The type of locals, refused at its name.
unfoldable pub local_type : BodyContext → List LocalVariable → TypeName → Typing ArgType
local_type s ps y = type_or_refusal s ps y.name (type_in (space_of s) role.Variable s.text y)

-- some local has the name
abbrev pub has_named : List ℕ → List LocalVariable → Bool
has_named name ps = list_any (λ (p : LocalVariable). bytes_eq p.name name) ps

-- The name of a variable is that of another one of its block, which begins at local `start`, or it is one local too many.
abbrev pub local_name_error : FunctionContext → ℕ → List LocalVariable → List ℕ → Option ErrorKind
local_name_error f start ps name =
    if has_named name (drop start ps) then Some kind.Duplicate
    else (if nat_lt (length ps - f.parameters) most_locals then None else Some kind.Limit)

abbrev pub name_judged : Option ErrorKind → Token → List ℕ → Typing (List ℕ)
name_judged None x name = Ok name
name_judged (Some why) x name = Err (refused why x)

unfoldable pub local_name : FunctionContext → ℕ → List LocalVariable → Token → Typing (List ℕ)
local_name f start ps x = let name = text_of f.context.text x in name_judged (local_name_error f start ps name) x name

abbrev pub made : Typing Operand → Typing (Option t.Expr)
made x = do
  a ← x
  Ok (Some a.tree)

abbrev pub fitted : Ancestors → ArgType → Operand → Typing (Option t.Expr)
fitted ancestors ty a = do
  x ← fit ancestors ty a
  Ok (Some x)

-- A variable without an initializer: an object is made without arguments.
abbrev pub absent_typing : BodyContext → List LocalVariable → TypeName → ArgType → Typing (Option t.Expr)
absent_typing s ps y (type.Object n c) = made (default_typing s ps y.name n)
absent_typing s ps y _ = Ok None

-- One with `=`: no object is assigned by value.
abbrev pub value_typing : Ancestors → Token → ArgType → Operand → Typing (Option t.Expr)
value_typing ancestors equals (type.Object n c) a = Err (fault kind.NoAssign equals.place)
value_typing ancestors equals ty a = fitted ancestors ty a

-- One with arguments, which objects alone take.
abbrev pub arguments_typing : BodyContext → List LocalVariable → TypeName → ArgType → List Operand → Typing (Option t.Expr)
arguments_typing s ps y (type.Object n c) operands = made (made_typing s ps y.name n operands)
arguments_typing s ps y _ operands = Err (refused kind.NoMatch y.name)

-- What a variable of this type begins with.
abbrev pub initializer_typing : BodyContext → List LocalVariable → TypeName → ArgType → Init → Typing (Option t.Expr)
initializer_typing s ps y ty absent = absent_typing s ps y ty
initializer_typing s ps y ty (value equals e) = do
  a ← typing_of s ps e
  value_typing s.ancestors equals ty a
initializer_typing s ps y ty (constructor es) = do
  operands ← typing_of_args s ps es
  arguments_typing s ps y ty operands

abbrev pub local_with : List ℕ → ArgType → TypeName → LocalVariable
local_with name ty y = record {
  name = name;
  ty = ty;
  read_only = is_read_only (record { ty = ty; constant = is_some y.constant; const_handle = is_const_handle y.handle });
}

-- One variable. It is known after its initializer.
unfoldable pub local_typing : FunctionContext → ℕ → List LocalVariable → TypeName → ArgType → Var → Typing (List LocalVariable × t.Local)
local_typing f start ps y ty v = do
  name ← local_name f start ps v.name
  x ← initializer_typing f.context ps y ty v.initializer
  Ok ((ps ++ (local_with name ty y ∷ []), record { ty = ty; initializer = x }))

abbrev pub each_local : FunctionContext → ℕ → List LocalVariable → TypeName → ArgType → List Var → Typing (List LocalVariable × List t.Local)
each_local f start ps y ty [] = Ok ((ps, []))
each_local f start ps y ty (v ∷ vs) = do
  l ← local_typing f start ps y ty v
  ls ← each_local f start l.0 y ty vs
  Ok ((ls.0, l.1 ∷ ls.1))

-- The variables of a declaration, in the block that begins at local `start`.
unfoldable pub locals_typing : FunctionContext → ℕ → List LocalVariable → Vars → Typing (List LocalVariable × List t.Local)
locals_typing f start ps vs = do
  ty ← local_type f.context ps vs.declared_type
  each_local f start ps vs.declared_type ty vs.items

abbrev pub declaration_typing : FunctionContext → ℕ → List LocalVariable → Vars → Typing (List LocalVariable × t.Stmt)
declaration_typing f start ps vs = do
  ls ← locals_typing f start ps vs
  Ok ((ls.0, t.locals ls.1))

-- ---- `return`

abbrev pub value_returned : Ancestors → ArgType → Operand → Typing t.Expr
value_returned ancestors type.Void a = Err (fault kind.BadConversion a.place)
value_returned ancestors ty a = fit ancestors ty a

abbrev pub nothing_returned : ArgType → Token → Typing (Option t.Expr)
nothing_returned type.Void word = Ok None
nothing_returned _ word = Err (fault kind.BadConversion word.place)

-- `this` as the object that a constructor gives back
abbrev pub own_object : ArgType → t.Expr
own_object ty = t.read (t.named (variable.Local 0)) ty

abbrev pub return_nothing : Returns → Token → Typing (Option t.Expr)
return_nothing (returns.Value ty) word = nothing_returned ty word
return_nothing (returns.Own ty) word = Ok (Some (own_object ty))

abbrev pub return_value : Ancestors → Returns → Operand → Typing t.Expr
return_value ancestors (returns.Value ty) a = value_returned ancestors ty a
return_value ancestors (returns.Own ty) a = Err (fault kind.BadConversion a.place)

-- A function with a result returns a value of that type, and one without returns none.
abbrev pub result_typing : FunctionContext → List LocalVariable → Token → Option Tree → Typing (Option t.Expr)
result_typing f ps word None = return_nothing f.returns word
result_typing f ps word (Some e) = do
  a ← typing_of f.context ps e
  x ← return_value f.context.ancestors f.returns a
  Ok (Some x)

abbrev pub return_typing : FunctionContext → List LocalVariable → Token → Option Tree → Typing t.Stmt
return_typing f ps word e = do
  x ← result_typing f ps word e
  Ok (t.return x)

-- ---- `break` and `continue`

abbrev pub jump : Bool → Token → t.Stmt → Typing t.Stmt
jump true word x = Ok x
jump false word x = Err (refused kind.Jump word)

-- ---- `for`

-- What a `for` begins with, in the block that begins there.
abbrev pub start_typing : FunctionContext → List LocalVariable → Start → Typing (List LocalVariable × t.Stmt)
start_typing f ps (with_variables vs) = declaration_typing f (length ps) ps vs
start_typing f ps (with_expression e semicolon) = with_same ps (expression_typing f.context ps e)

-- What stands in the parentheses of a `for`, in the order of the text: the locals alive after its start, the start, the condition and
-- the steps.
abbrev pub head_typing : FunctionContext → List LocalVariable → Start → Option Tree → Trees → Typing (List LocalVariable × t.Stmt × Option t.Expr × List t.Expr)
head_typing f ps b c steps = do
  first ← start_typing f ps b
  x ← optional_condition f.context first.0 c
  es ← steps_typing f.context first.0 steps
  Ok ((first.0, first.1, x, es))

-- ---- statements in blocks of their own

abbrev pub block_of : Typing t.Stmts → Typing t.Stmt
block_of x = do
  ss ← x
  Ok (t.block ss)

-- a statement in a block of its own
abbrev pub alone : Typing (List LocalVariable × t.Stmt) → Typing t.Stmts
alone x = do
  y ← x
  Ok (t.then y.1 t.end)

-- An `if` of a condition and two branches, and loops, each refused as the first of its parts that is, in the order of the text.
abbrev pub tested_of : Typing t.Expr → Typing t.Stmts → Typing (t.Expr × t.Stmts)
tested_of c s = do
  x ← c
  ss ← s
  Ok ((x, ss))

abbrev pub either_of : Typing (t.Expr × t.Stmts) → Typing t.Stmts → Typing t.Stmt
either_of c u = do
  x ← c
  us ← u
  Ok (t.either x.0 x.1 us)

abbrev pub while_of : Typing t.Expr → Typing t.Stmts → Typing t.Stmt
while_of c s = do
  x ← c
  ss ← s
  Ok (t.while x ss)

abbrev pub do_while_of : Typing t.Stmts → Typing t.Expr → Typing t.Stmt
do_while_of s c = do
  ss ← s
  x ← c
  Ok (t.do_while ss x)

-- a `for` with this start, condition and steps
abbrev pub for_of : t.Stmt × Option t.Expr × List t.Expr → Typing t.Stmts → Typing t.Stmt
for_of h s = do
  ss ← s
  Ok (t.for (t.then h.0 t.end) h.1 h.2 ss)

-- ---- statements

-- In a function:
module _ (f : FunctionContext) where
  -- Whether a loop stands around the statement, where the innermost block begins, and the locals alive before it. A branch, a
  -- loop's body, and a `for` from its `(` on are blocks of their own.
  abbrev mutual
    pub stmt_typing : Bool → ℕ → List LocalVariable → Stmt → Typing (List LocalVariable × t.Stmt)
    stmt_typing loop start ps (block b) = with_same ps (block_of (block_typing loop ps b))
    stmt_typing loop start ps (variables vs) = declaration_typing f start ps vs
    stmt_typing loop start ps (expression e semicolon) = with_same ps (expression_typing f.context ps e)
    stmt_typing loop start ps (break word semicolon) = with_same ps (jump loop word t.break)
    stmt_typing loop start ps (continue word semicolon) = with_same ps (jump loop word t.continue)
    stmt_typing loop start ps (return word e semicolon) = with_same ps (return_typing f ps word e)
    stmt_typing loop start ps (when word left c right s) =
        with_same ps (either_of (tested_of (condition_typing f.context ps c) (alone (stmt_typing loop (length ps) ps s))) (Ok t.end))
    stmt_typing loop start ps (either word left c right s otherwise u) =
        with_same ps (either_of (tested_of (condition_typing f.context ps c) (alone (stmt_typing loop (length ps) ps s))) (alone (stmt_typing loop (length ps) ps u)))
    stmt_typing loop start ps (while word left c right s) =
        with_same ps (while_of (condition_typing f.context ps c) (alone (stmt_typing true (length ps) ps s)))
    stmt_typing loop start ps (do_while word s again left c right semicolon) =
        with_same ps (do_while_of (alone (stmt_typing true (length ps) ps s)) (condition_typing f.context ps c))
    stmt_typing loop start ps (for word left b c semicolon steps right s) = do
      h ← head_typing f ps b c steps
      with_same ps (for_of (h.1, h.2, h.3) (alone (stmt_typing true (length h.0) h.0 s)))

    pub block_typing : Bool → List LocalVariable → Body → Typing t.Stmts
    block_typing loop ps (body left ss right) = stmts_typing loop (length ps) ps ss

    pub stmts_typing : Bool → ℕ → List LocalVariable → Stmts → Typing t.Stmts
    stmts_typing loop start ps end = Ok t.end
    stmts_typing loop start ps (written.then s ss) = do
      x ← stmt_typing loop start ps s
      xs ← stmts_typing loop start x.0 ss
      Ok (t.then x.1 xs)

  abbrev pub branch_typing : Bool → List LocalVariable → Stmt → Typing t.Stmts
  branch_typing loop ps s = alone (stmt_typing loop (length ps) ps s)

  -- the condition of an `if` and its first branch
  abbrev pub tested_typing : Bool → List LocalVariable → Tree → Stmt → Typing (t.Expr × t.Stmts)
  tested_typing loop ps c s = tested_of (condition_typing f.context ps c) (branch_typing loop ps s)

  -- a `for`, whose locals end with it
  abbrev pub for_typing : List LocalVariable → Start → Option Tree → Trees → Stmt → Typing (List LocalVariable × t.Stmt)
  for_typing ps b c steps s = do
    h ← head_typing f ps b c steps
    with_same ps (for_of (h.1, h.2, h.3) (branch_typing true h.0 s))

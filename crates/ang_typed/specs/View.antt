-- A resolved tree of the program without where it lies in memory.
use Rattle.std.specs.Prelude.{List, map, Option, option_map}
use Rattle.std.specs.declared.boxed.Box.{Box}
use Rattle.std.specs.declared.alloc.Global.{Global}
use Rattle.ang_typed.specs.declared.expression.TypedExpression.{TypedExpression}
use Rattle.ang_typed.specs.declared.expression.TypedArgument.{TypedArgument}
use Rattle.ang_typed.specs.declared.expression.TypedSite.{TypedSite}
use Rattle.ang_typed.specs.declared.expression.TypedArgument.TheOpen.{TypedExpression-F, TypedArgument-F, TypedSite-F}
use Rattle.ang_typed.specs.declared.expression.TypedArgument.TheFolds.{fold-TypedExpression, fold-TypedArgument, fold-TypedSite}
use Rattle.ang_typed.specs.declared.statement.TypedStatement.{TypedStatement}
use Rattle.ang_typed.specs.declared.statement.TypedBlock.{TypedBlock}
use Rattle.ang_typed.specs.declared.statement.TypedChoice.{TypedChoice}
use Rattle.ang_typed.specs.declared.statement.TypedFor.{TypedFor}
use Rattle.ang_typed.specs.declared.statement.TypedLoop.{TypedLoop}
use Rattle.ang_typed.specs.declared.statement.TypedStatement.TheOpen.{TypedStatement-F, TypedBlock-F, TypedChoice-F, TypedFor-F, TypedLoop-F}
use Rattle.ang_typed.specs.declared.statement.TypedStatement.TheFolds.{fold-TypedStatement, fold-TypedBlock, fold-TypedChoice, fold-TypedFor, fold-TypedLoop}
use Rattle.ang_typed.specs.declared.statement.Local as locals
use Rattle.ang_typed.specs.declared.program.TypedFunction as functions
use Rattle.ang_typed.specs.declared.program.Global as globals
use Rattle.ang_typed.specs.declared.program.Typed as modules
use Rattle.ang_typed.specs.Typed as t

-- ---- expressions

abbrev pub expression_step : TypedExpression-F t.Arg t.Expr t.Site → t.Expr
expression_step (TypedExpression-F.Number ty value) = t.number ty value
expression_step (TypedExpression-F.Truth b) = t.truth b
expression_step (TypedExpression-F.Read x ty) = t.read x ty
expression_step TypedExpression-F.Null = t.null
expression_step (TypedExpression-F.Convert from to e) = t.convert from to e.value
expression_step (TypedExpression-F.Negate ty e) = t.negate ty e.value
expression_step (TypedExpression-F.Complement ty e) = t.complement ty e.value
expression_step (TypedExpression-F.Not e) = t.not e.value
expression_step (TypedExpression-F.Operate op ty l r) = t.operate op ty l.value r.value
expression_step (TypedExpression-F.Compare op ty l r) = t.compare op ty l.value r.value
expression_step (TypedExpression-F.And l r) = t.and l.value r.value
expression_step (TypedExpression-F.Or l r) = t.or l.value r.value
expression_step (TypedExpression-F.Choose c l r) = t.choose c.value l.value r.value
expression_step (TypedExpression-F.Same l r) = t.same l.value r.value
expression_step (TypedExpression-F.Cast n e) = t.cast n e.value
expression_step (TypedExpression-F.Naming x e) = t.naming x e.value
expression_step (TypedExpression-F.Make n f es) = t.make n f (t.args es.items)
expression_step (TypedExpression-F.Assign ty x e) = t.assign x ty e.value
expression_step (TypedExpression-F.Compound x ty op operating e) = t.compound x ty op operating e.value
expression_step (TypedExpression-F.Step x ty kind) = t.step x ty kind
expression_step (TypedExpression-F.Call ty f es) = t.call f ty (t.args es.items)
expression_step (TypedExpression-F.HostCall h ty es) = t.host_call h ty (t.args es.items)

abbrev pub argument_step : TypedArgument-F t.Arg t.Expr t.Site → t.Arg
argument_step (TypedArgument-F.Value ty e) = t.by_value ty e
argument_step (TypedArgument-F.Out x from to) = t.out x from to

abbrev pub site_step : TypedSite-F t.Arg t.Expr t.Site → t.Site
site_step (TypedSite-F.Named x) = t.named x
site_step (TypedSite-F.Of e m) = t.member_of e.value m

abbrev pub view_expr : TypedExpression → t.Expr
view_expr = fold-TypedExpression t.Arg t.Expr t.Site argument_step expression_step site_step

abbrev pub view_arg : TypedArgument → t.Arg
view_arg = fold-TypedArgument t.Arg t.Expr t.Site argument_step expression_step site_step

abbrev pub view_site : TypedSite → t.Site
view_site = fold-TypedSite t.Arg t.Expr t.Site argument_step expression_step site_step

abbrev pub view_args : List TypedArgument → t.Args
view_args es = t.args (map view_arg es)

abbrev pub view_tree : Box TypedExpression Global → t.Expr
view_tree b = view_expr b.value

abbrev pub view_option : Option (Box TypedExpression Global) → Option t.Expr
view_option = option_map view_tree

-- ---- statements

abbrev pub view_local : locals.Local → t.Local
view_local l = record { ty = l.ty; initializer = view_option l.initializer }

-- the condition of a `while` or of a `do`, and what it repeats
abbrev pub Repeated : Type 0
Repeated = t.Expr × t.Stmts

abbrev pub statement_step : TypedStatement-F t.Stmt t.Stmts t.Stmt t.Stmt Repeated → t.Stmt
statement_step (TypedStatement-F.Block b) = t.block b
statement_step (TypedStatement-F.Locals ls) = t.locals (map view_local ls.items)
statement_step (TypedStatement-F.Expression e) = t.expression (view_option e)
statement_step TypedStatement-F.Break = t.break
statement_step TypedStatement-F.Continue = t.continue
statement_step (TypedStatement-F.Return e) = t.return (view_option e)
statement_step (TypedStatement-F.If c) = c.value
statement_step (TypedStatement-F.While l) = t.while l.value.0 l.value.1
statement_step (TypedStatement-F.DoWhile l) = t.do_while l.value.1 l.value.0
statement_step (TypedStatement-F.For f) = f.value

abbrev pub block_step : TypedBlock-F t.Stmt t.Stmts t.Stmt t.Stmt Repeated → t.Stmts
block_step b = t.stmts b.statements.items

abbrev pub choice_step : TypedChoice-F t.Stmt t.Stmts t.Stmt t.Stmt Repeated → t.Stmt
choice_step c = t.either (view_tree c.condition) c.then c.otherwise

abbrev pub for_step : TypedFor-F t.Stmt t.Stmts t.Stmt t.Stmt Repeated → t.Stmt
for_step f = t.for (t.stmts f.start.items) (view_option f.condition) (map view_expr f.steps.items) f.body

abbrev pub loop_step : TypedLoop-F t.Stmt t.Stmts t.Stmt t.Stmt Repeated → Repeated
loop_step l = (view_tree l.condition, l.body)

abbrev pub view_stmt : TypedStatement → t.Stmt
view_stmt = fold-TypedStatement t.Stmt t.Stmts t.Stmt t.Stmt Repeated statement_step block_step choice_step for_step loop_step

abbrev pub view_block : TypedBlock → t.Stmts
view_block = fold-TypedBlock t.Stmt t.Stmts t.Stmt t.Stmt Repeated statement_step block_step choice_step for_step loop_step

abbrev pub view_choice : TypedChoice → t.Stmt
view_choice = fold-TypedChoice t.Stmt t.Stmts t.Stmt t.Stmt Repeated statement_step block_step choice_step for_step loop_step

abbrev pub view_for : TypedFor → t.Stmt
view_for = fold-TypedFor t.Stmt t.Stmts t.Stmt t.Stmt Repeated statement_step block_step choice_step for_step loop_step

abbrev pub view_loop : TypedLoop → Repeated
view_loop = fold-TypedLoop t.Stmt t.Stmts t.Stmt t.Stmt Repeated statement_step block_step choice_step for_step loop_step

abbrev pub view_stmts : List TypedStatement → t.Stmts
view_stmts ss = t.stmts (map view_stmt ss)

-- ---- modules

abbrev pub view_function : functions.TypedFunction → t.TypedFunction
view_function f = record { parameters = f.parameters; result = f.result; body = view_block f.body; positions = f.positions }

abbrev pub view_global : globals.Global → t.Global
view_global g = record { ty = g.ty; initializer = view_option g.initializer }

abbrev pub view_typed : modules.Typed → t.Program
view_typed m = record {
  functions = map view_function m.functions;
  globals = map view_global m.globals;
  classes = m.classes;
  methods = m.methods;
  imports = m.imports;
}

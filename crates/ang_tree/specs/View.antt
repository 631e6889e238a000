-- A tree of the program without where it lies in memory.
use Rattle.std.specs.Prelude.{List, [], ◌∷◌, map, Option, Some, None, option_map}
use Rattle.ang_lex.specs.declared.token.Token.{Token}
use Rattle.ang_tree.specs.declared.expression.Expression.{Expression}
use Rattle.ang_tree.specs.declared.expression.Argument.{Argument}
use Rattle.ang_tree.specs.declared.expression.Arguments.{Arguments}
use Rattle.ang_tree.specs.declared.expression.Expression.TheOpen.{Expression-F, Argument-F, Arguments-F}
use Rattle.ang_tree.specs.declared.expression.Expression.TheFolds.{fold-Expression, fold-Argument, fold-Arguments}
use Rattle.ang_tree.specs.declared.statement.Statement.{Statement}
use Rattle.ang_tree.specs.declared.statement.Block.{Block}
use Rattle.ang_tree.specs.declared.statement.Else.{Else}
use Rattle.ang_tree.specs.declared.statement.Statement.TheOpen.{Statement-F, Block-F, Else-F}
use Rattle.ang_tree.specs.declared.statement.Statement.TheFolds.{fold-Statement, fold-Block, fold-Else}
use Rattle.std.specs.declared.boxed.Box.{Box}
use Rattle.std.specs.declared.alloc.Global.{Global}
use Rattle.ang_tree.specs.declared.statement.Guard as guards
use Rattle.ang_tree.specs.declared.statement.Ending as endings
use Rattle.ang_tree.specs.declared.statement.Head as heads
use Rattle.ang_tree.specs.declared.statement.ForStart.{ForStart}
use Rattle.ang_tree.specs.declared.statement.ForStart.TheVariants as start
use Rattle.ang_tree.specs.declared.statement.Variables.{Variables}
use Rattle.ang_tree.specs.declared.statement.Variable.{Variable}
use Rattle.ang_tree.specs.declared.statement.Initializer.{Initializer}
use Rattle.ang_tree.specs.declared.statement.Initializer.TheVariants as init
use Rattle.ang_tree.specs.declared.declaration.Script.{Script}
use Rattle.ang_tree.specs.declared.declaration.Declaration.{Declaration}
use Rattle.ang_tree.specs.declared.declaration.Declaration.TheVariants as d
use Rattle.ang_tree.specs.declared.declaration.Class as classes
use Rattle.ang_tree.specs.declared.declaration.Member.{Member}
use Rattle.ang_tree.specs.declared.declaration.Member.TheVariants as m
use Rattle.ang_tree.specs.declared.declaration.Fields.{Fields}
use Rattle.ang_tree.specs.declared.declaration.Method.{Method}
use Rattle.ang_tree.specs.declared.declaration.Constructor.{Constructor}
use Rattle.ang_tree.specs.declared.declaration.SuperCall.{SuperCall}
use Rattle.ang_tree.specs.declared.declaration.Interface as interfaces
use Rattle.ang_tree.specs.declared.declaration.InterfaceMethod.{InterfaceMethod}
use Rattle.ang_tree.specs.declared.declaration.Import as imports
use Rattle.ang_tree.specs.declared.declaration.Function as functions
use Rattle.ang_tree.specs.declared.declaration.Parameters.{Parameters}
use Rattle.ang_tree.specs.Tree.{Tree, Args, Trees, literal, name, call, scoped_call, scoped_name, cast, convert, group, postfix, member, method_call, prefix, binary, conditional, assignment, arguments, none, more}
use Rattle.ang_tree.specs.Stmt.{Init, absent, value, constructor, Var, Vars, Start, with_variables, with_expression, Stmt, Body, Stmts, block, variables, expression, break, continue, return, when, either, while, do_while, for, body, end, then}
use Rattle.ang_tree.specs.Declarations as decl

-- ---- expressions

-- one of several expressions, with the comma in front of it
abbrev pub Item : Type 0
Item = Option Token × Tree

abbrev pub trees : List Item → Trees
trees [] = none
trees (i ∷ is) = more i.0 i.1 (trees is)

abbrev pub expression_step : Expression-F Tree Item Args → Tree
expression_step (Expression-F.Literal t) = literal t
expression_step (Expression-F.Name x) = name x
expression_step (Expression-F.Call x es) = call x es.value
expression_step (Expression-F.ScopedCall c s x es) = scoped_call c s x es.value
expression_step (Expression-F.ScopedName c s x) = scoped_name c s x
expression_step (Expression-F.Cast ts e) = cast ts.value.word ts.value.less ts.value.target ts.value.greater ts.value.open e.value ts.value.close
expression_step (Expression-F.Convert p left e right) = convert p left e.value right
expression_step (Expression-F.Parenthesized left e right) = group left e.value right
expression_step (Expression-F.Postfix e op) = postfix e.value op
expression_step (Expression-F.Member e dot x) = member e.value dot x
expression_step (Expression-F.MethodCall e dot x es) = method_call e.value dot x es.value
expression_step (Expression-F.Prefix op e) = prefix op e.value
expression_step (Expression-F.Binary l op r) = binary l.value op r.value
expression_step (Expression-F.Conditional c question l colon r) = conditional c.value question l.value colon r.value
expression_step (Expression-F.Assignment l op r) = assignment l.value op r.value

abbrev pub argument_step : Argument-F Tree Item Args → Item
argument_step a = (a.comma, a.value)

abbrev pub arguments_step : Arguments-F Tree Item Args → Args
arguments_step a = arguments a.open (trees a.items.items) a.close

abbrev pub view_expr : Expression → Tree
view_expr = fold-Expression Tree Item Args expression_step argument_step arguments_step

abbrev pub view_item : Argument → Item
view_item = fold-Argument Tree Item Args expression_step argument_step arguments_step

abbrev pub view_args : Arguments → Args
view_args = fold-Arguments Tree Item Args expression_step argument_step arguments_step

abbrev pub view_items : List Argument → Trees
view_items es = trees (map view_item es)

abbrev pub view_option : Option (Box Expression Global) → Option Tree
view_option = option_map (λ e. view_expr e.value)

-- ---- variables

abbrev pub view_init : Initializer → Init
view_init init.Absent = absent
view_init (init.Value w) = value w.value.equals (view_expr w.value.value)
view_init (init.Constructor es) = constructor (view_args es.value)

abbrev pub view_var : Variable → Var
view_var v = record { comma = v.comma; name = v.name; initializer = view_init v.initializer }

abbrev pub view_vars : Variables → Vars
view_vars vs = record { declared_type = vs.declared_type; items = map view_var vs.items.items; semicolon = vs.semicolon }

-- ---- statements

abbrev pub view_start : ForStart → Start
view_start (start.Variables vs) = with_variables (view_vars vs)
view_start (start.Expression e semicolon) = with_expression (view_option e) semicolon

abbrev pub stmts : List Stmt → Stmts
stmts [] = end
stmts (s ∷ ss) = then s (stmts ss)

-- what stands after an `if`: its word and its statement
abbrev pub Branch : Type 0
Branch = Token × Stmt

abbrev pub conditional_of : Token → Token → Tree → Token → Stmt → Option Branch → Stmt
conditional_of word left c right s None = when word left c right s
conditional_of word left c right s (Some b) = either word left c right s b.0 b.1

abbrev pub guarded_of : guards.Guard → Stmt → Option Branch → Stmt
guarded_of h s o = conditional_of h.word h.open (view_expr h.condition) h.close s o

abbrev pub while_of : guards.Guard → Stmt → Stmt
while_of h s = while h.word h.open (view_expr h.condition) h.close s

abbrev pub do_while_of : Stmt → endings.Ending → Stmt
do_while_of s e = do_while e.word s e.while_word e.open (view_expr e.condition) e.close e.semicolon

abbrev pub for_of : heads.Head → Stmt → Stmt
for_of h s = for h.word h.open (view_start h.start) (view_option h.condition) h.semicolon (view_items h.steps.items) h.close s

abbrev pub statement_step : Statement-F Stmt Body Branch → Stmt
statement_step (Statement-F.Block b) = block b.value
statement_step (Statement-F.Variables vs) = variables (view_vars vs.value)
statement_step (Statement-F.Expression e) = expression (view_option e.value.value) e.value.semicolon
statement_step (Statement-F.Break j) = break j.value.word j.value.semicolon
statement_step (Statement-F.Continue j) = continue j.value.word j.value.semicolon
statement_step (Statement-F.Return r) = return r.value.word (view_option r.value.value) r.value.semicolon
statement_step (Statement-F.If h s otherwise) = guarded_of h.value s.value (option_map (λ b. b.value) otherwise)
statement_step (Statement-F.While h s) = while_of h.value s.value
statement_step (Statement-F.DoWhile s e) = do_while_of s.value e.value
statement_step (Statement-F.For h s) = for_of h.value s.value

abbrev pub block_step : Block-F Stmt Body Branch → Body
block_step b = body b.open (stmts b.statements.items) b.close

abbrev pub else_step : Else-F Stmt Body Branch → Branch
else_step e = (e.word, e.branch.value)

abbrev pub view_stmt : Statement → Stmt
view_stmt = fold-Statement Stmt Body Branch statement_step block_step else_step

abbrev pub view_body : Block → Body
view_body = fold-Block Stmt Body Branch statement_step block_step else_step

abbrev pub view_else : Else → Branch
view_else = fold-Else Stmt Body Branch statement_step block_step else_step

abbrev pub view_stmts : List Statement → Stmts
view_stmts ss = stmts (map view_stmt ss)

-- ---- declarations

abbrev pub view_params : Parameters → decl.Params
view_params ps = record { left = ps.open; void_word = ps.void_word; items = ps.items.items; right = ps.close }

abbrev pub view_super : SuperCall → decl.SuperTree
view_super s = record { word = s.word; arguments = view_args s.arguments; semicolon = s.semicolon }

abbrev pub view_fields : Fields → decl.MemberTree
view_fields fs = decl.fields fs.access fs.declared_type fs.names.items fs.semicolon

abbrev pub view_own_method : Method → decl.MemberTree
view_own_method o = decl.method o.access o.result o.name (view_params o.parameters) o.constant o.attributes.items (view_body o.body)

abbrev pub view_constructor : Constructor → decl.MemberTree
view_constructor c = decl.constructor c.name (view_params c.parameters) c.open (option_map view_super c.super_call) (view_stmts c.statements.items) c.close

abbrev pub view_member : Member → decl.MemberTree
view_member (m.Fields fs) = view_fields fs.value
view_member (m.Method o) = view_own_method o.value
view_member (m.Constructor c) = view_constructor c.value

abbrev pub view_method : InterfaceMethod → decl.MethodTree
view_method q = record { result_type = q.result; name = q.name; parameters = view_params q.parameters; constant = q.constant; semicolon = q.semicolon }

abbrev pub view_class : classes.Class → decl.Decl
view_class c = decl.class c.final_word c.word c.name c.bases.items c.open (map view_member c.members.items) c.close

abbrev pub view_interface : interfaces.Interface → decl.Decl
view_interface i = decl.interface i.word i.name i.bases.items i.open (map view_method i.methods.items) i.close

abbrev pub view_import : imports.Import → decl.Decl
view_import i = decl.import i.word i.result i.name (view_params i.parameters) i.from_word i.module i.semicolon

abbrev pub view_function : functions.Function → decl.Decl
view_function f = decl.function f.result f.name (view_params f.parameters) (view_body f.body)

abbrev pub view_decl : Declaration → decl.Decl
view_decl (d.Class c) = view_class c.value
view_decl (d.Interface i) = view_interface i.value
view_decl (d.Import i) = view_import i.value
view_decl (d.Function f) = view_function f.value
view_decl (d.Globals vs) = decl.globals (view_vars vs.value)
view_decl (d.Empty semicolon) = decl.empty semicolon

abbrev pub view_script : Script → List decl.Decl
view_script s = map view_decl s.declarations.items

-- The marks on the way through a resolved tree: each part sets those of the numbers that it uses. They come to `marked` of all
-- of these (`Uses`).
use Rattle.std.specs.Prelude.{Bool, true, List, [], ◌∷◌, slice_set, Option, Some, None}
use Rattle.ang_typed.specs.declared.program.TypedClass.{TypedClass}
use Rattle.ang_typed.specs.declared.program.Heading.{Heading}
use Rattle.ang_typed.specs.Typed as t
use Rattle.ang_typed.specs.Uses.{host_uses, marked, member_uses, parameter_uses, type_uses, variable_uses}

-- for each of these in turn
abbrev pub each_marks : {A : Type 0} → (A → List Bool → List Bool) → List A → List Bool → List Bool
each_marks f [] ms = ms
each_marks f (x ∷ xs) ms = each_marks f xs (f x ms)

-- ---- expressions

abbrev mutual
  pub expr_marks : t.Expr → List Bool → List Bool
  expr_marks (t.number ty x) ms = ms
  expr_marks (t.truth b) ms = ms
  expr_marks (t.read x ty) ms = site_marks x ms
  expr_marks t.null ms = ms
  expr_marks (t.convert from to e) ms = expr_marks e ms
  expr_marks (t.negate ty e) ms = expr_marks e ms
  expr_marks (t.complement ty e) ms = expr_marks e ms
  expr_marks (t.not e) ms = expr_marks e ms
  expr_marks (t.operate op ty l r) ms = expr_marks r (expr_marks l ms)
  expr_marks (t.compare op ty l r) ms = expr_marks r (expr_marks l ms)
  expr_marks (t.and l r) ms = expr_marks r (expr_marks l ms)
  expr_marks (t.or l r) ms = expr_marks r (expr_marks l ms)
  expr_marks (t.choose c l r) ms = expr_marks r (expr_marks l (expr_marks c ms))
  expr_marks (t.same l r) ms = expr_marks r (expr_marks l ms)
  expr_marks (t.cast family e) ms = expr_marks e ms
  expr_marks (t.naming x e) ms = expr_marks e (slice_set ms x.0 true)
  expr_marks (t.make family constructor args) ms = args_marks args ms
  expr_marks (t.assign x ty e) ms = expr_marks e (site_marks x ms)
  expr_marks (t.compound x ty op at e) ms = expr_marks e (site_marks x ms)
  expr_marks (t.step x ty kind) ms = site_marks x ms
  expr_marks (t.call f ty args) ms = args_marks args ms
  expr_marks (t.host_call h ty args) ms = args_marks args (marked (host_uses h) ms)

  pub site_marks : t.Site → List Bool → List Bool
  site_marks (t.named x) ms = marked (variable_uses x) ms
  site_marks (t.member_of e m) ms = marked (member_uses m) (expr_marks e ms)

  pub args_marks : t.Args → List Bool → List Bool
  args_marks t.none ms = ms
  args_marks (t.more a args) ms = args_marks args (arg_marks a ms)

  pub arg_marks : t.Arg → List Bool → List Bool
  arg_marks (t.by_value ty e) ms = expr_marks e ms
  arg_marks (t.out x from to) ms = marked (variable_uses x) ms

abbrev pub option_marks : Option t.Expr → List Bool → List Bool
option_marks None ms = ms
option_marks (Some e) ms = expr_marks e ms

-- ---- statements

abbrev pub local_marks : t.Local → List Bool → List Bool
local_marks l ms = option_marks l.initializer (marked (type_uses l.ty) ms)

abbrev mutual
  pub stmt_marks : t.Stmt → List Bool → List Bool
  stmt_marks (t.block ss) ms = stmts_marks ss ms
  stmt_marks (t.locals ls) ms = each_marks local_marks ls ms
  stmt_marks (t.expression e) ms = option_marks e ms
  stmt_marks t.break ms = ms
  stmt_marks t.continue ms = ms
  stmt_marks (t.return e) ms = option_marks e ms
  stmt_marks (t.either c ss otherwise) ms = stmts_marks otherwise (stmts_marks ss (expr_marks c ms))
  stmt_marks (t.while c ss) ms = stmts_marks ss (expr_marks c ms)
  stmt_marks (t.do_while ss c) ms = stmts_marks ss (expr_marks c ms)
  stmt_marks (t.for start c steps ss) ms = stmts_marks ss (each_marks expr_marks steps (option_marks c (stmts_marks start ms)))

  pub stmts_marks : t.Stmts → List Bool → List Bool
  stmts_marks t.end ms = ms
  stmts_marks (t.then s ss) ms = stmts_marks ss (stmt_marks s ms)

-- ---- modules

abbrev pub function_marks : t.TypedFunction → List Bool → List Bool
function_marks f ms =
    stmts_marks f.body (marked (type_uses f.result) (each_marks (λ p. marked (parameter_uses p)) f.parameters ms))

abbrev pub global_marks : t.Global → List Bool → List Bool
global_marks g ms = option_marks g.initializer (marked (type_uses g.ty) ms)

abbrev pub class_marks : TypedClass → List Bool → List Bool
class_marks c ms = each_marks (λ ty. marked (type_uses ty)) c.fields ms

abbrev pub heading_marks : Heading → List Bool → List Bool
heading_marks h ms = marked (type_uses h.result) (each_marks (λ p. marked (parameter_uses p)) h.parameters ms)

abbrev pub program_marks : t.Program → List Bool → List Bool
program_marks p ms =
    each_marks heading_marks p.imports (each_marks heading_marks p.methods (each_marks class_marks p.classes
    (each_marks global_marks p.globals (each_marks function_marks p.functions ms))))

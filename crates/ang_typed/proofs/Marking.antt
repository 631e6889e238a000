-- Marks that are set on the way through a tree are those of the numbers that it uses.
use Rattle.std.proofs.Common.{◌≡◌, ℕ, List, [], ◌∷◌, ◌++◌, refl, sym, ap, ◌∙◌, Option, Some, None}
use Rattle.std.specs.Prelude.{Bool, true, slice_set}
use Rattle.std.specs.List.{flat_map}
use Rattle.ang_typed.specs.declared.program.TypedClass.{TypedClass}
use Rattle.ang_typed.specs.declared.program.Heading.{Heading}
use Rattle.ang_typed.specs.declared.program.TypedParameter.{TypedParameter}
use Rattle.ang_types.specs.declared.arg_type.ArgType.{ArgType}
use Rattle.ang_typed.specs.Typed as t
use Rattle.ang_typed.specs.Uses.{args_uses, arg_uses, class_uses, expr_uses, function_uses, global_uses, heading_uses, host_uses, local_uses, marked, member_uses, option_uses, parameter_uses, site_uses, stmt_uses, stmts_uses, type_uses, uses, variable_uses}
use Rattle.ang_typed.specs.Marked.{args_marks, arg_marks, class_marks, each_marks, expr_marks, function_marks, global_marks, heading_marks, local_marks, option_marks, program_marks, site_marks, stmt_marks, stmts_marks}

-- those of two lists, one after the other
pub marked_append : (ms ns : List ℕ) (bs : List Bool) → marked (ms ++ ns) bs ≡ marked ns (marked ms bs)
marked_append [] ns bs = refl
marked_append (m ∷ ms) ns bs = marked_append ms ns (slice_set bs m true)

-- What is marked in two turns, f and then g, is what is marked of two lists.
in_turn : (f g : List Bool → List Bool) (ms ns : List ℕ) → ((bs : List Bool) → f bs ≡ marked ms bs) → ((bs : List Bool) → g bs ≡ marked ns bs) → (bs : List Bool) → g (f bs) ≡ marked (ms ++ ns) bs
in_turn f g ms ns h k bs = k (f bs) ∙ ap (marked ns) (h bs) ∙ sym (marked_append ms ns bs)

each_marked : {A : Type 0} (f : A → List Bool → List Bool) (u : A → List ℕ) → ((x : A) (bs : List Bool) → f x bs ≡ marked (u x) bs) → (xs : List A) (bs : List Bool) → each_marks f xs bs ≡ marked (flat_map u xs) bs
each_marked f u h [] bs = refl
each_marked f u h (x ∷ xs) bs = in_turn (f x) (each_marks f xs) (u x) (flat_map u xs) (h x) (each_marked f u h xs) bs

mutual
  expr_marked : (e : t.Expr) (bs : List Bool) → expr_marks e bs ≡ marked (expr_uses e) bs
  expr_marked (t.number ty x) bs = refl
  expr_marked (t.truth b) bs = refl
  expr_marked (t.read x ty) bs = site_marked x bs
  expr_marked t.null bs = refl
  expr_marked (t.convert from to e) bs = expr_marked e bs
  expr_marked (t.negate ty e) bs = expr_marked e bs
  expr_marked (t.complement ty e) bs = expr_marked e bs
  expr_marked (t.not e) bs = expr_marked e bs
  expr_marked (t.operate op ty l r) bs = in_turn (expr_marks l) (expr_marks r) (expr_uses l) (expr_uses r) (expr_marked l) (expr_marked r) bs
  expr_marked (t.compare op ty l r) bs = in_turn (expr_marks l) (expr_marks r) (expr_uses l) (expr_uses r) (expr_marked l) (expr_marked r) bs
  expr_marked (t.and l r) bs = in_turn (expr_marks l) (expr_marks r) (expr_uses l) (expr_uses r) (expr_marked l) (expr_marked r) bs
  expr_marked (t.or l r) bs = in_turn (expr_marks l) (expr_marks r) (expr_uses l) (expr_uses r) (expr_marked l) (expr_marked r) bs
  expr_marked (t.choose c l r) bs =
      in_turn (expr_marks c) (λ ms. expr_marks r (expr_marks l ms)) (expr_uses c) (expr_uses l ++ expr_uses r) (expr_marked c)
      (in_turn (expr_marks l) (expr_marks r) (expr_uses l) (expr_uses r) (expr_marked l) (expr_marked r)) bs
  expr_marked (t.same l r) bs = in_turn (expr_marks l) (expr_marks r) (expr_uses l) (expr_uses r) (expr_marked l) (expr_marked r) bs
  expr_marked (t.cast family e) bs = expr_marked e bs
  expr_marked (t.naming x e) bs = expr_marked e (slice_set bs x.0 true)
  expr_marked (t.make family constructor args) bs = args_marked args bs
  expr_marked (t.assign x ty e) bs = in_turn (site_marks x) (expr_marks e) (site_uses x) (expr_uses e) (site_marked x) (expr_marked e) bs
  expr_marked (t.compound x ty op at e) bs = in_turn (site_marks x) (expr_marks e) (site_uses x) (expr_uses e) (site_marked x) (expr_marked e) bs
  expr_marked (t.step x ty kind) bs = site_marked x bs
  expr_marked (t.call f ty args) bs = args_marked args bs
  expr_marked (t.host_call h ty args) bs = in_turn (marked (host_uses h)) (args_marks args) (host_uses h) (args_uses args) (λ ms. refl) (args_marked args) bs

  site_marked : (x : t.Site) (bs : List Bool) → site_marks x bs ≡ marked (site_uses x) bs
  site_marked (t.named x) bs = refl
  site_marked (t.member_of e m) bs = in_turn (expr_marks e) (marked (member_uses m)) (expr_uses e) (member_uses m) (expr_marked e) (λ ms. refl) bs

  args_marked : (args : t.Args) (bs : List Bool) → args_marks args bs ≡ marked (args_uses args) bs
  args_marked t.none bs = refl
  args_marked (t.more a args) bs = in_turn (arg_marks a) (args_marks args) (arg_uses a) (args_uses args) (arg_marked a) (args_marked args) bs

  arg_marked : (a : t.Arg) (bs : List Bool) → arg_marks a bs ≡ marked (arg_uses a) bs
  arg_marked (t.by_value ty e) bs = expr_marked e bs
  arg_marked (t.out x from to) bs = refl

option_marked : (o : Option t.Expr) (bs : List Bool) → option_marks o bs ≡ marked (option_uses o) bs
option_marked None bs = refl
option_marked (Some e) bs = expr_marked e bs

local_marked : (l : t.Local) (bs : List Bool) → local_marks l bs ≡ marked (local_uses l) bs
local_marked l bs = in_turn (marked (type_uses l.ty)) (option_marks l.initializer) (type_uses l.ty) (option_uses l.initializer) (λ ms. refl) (option_marked l.initializer) bs

mutual
  stmt_marked : (s : t.Stmt) (bs : List Bool) → stmt_marks s bs ≡ marked (stmt_uses s) bs
  stmt_marked (t.block ss) bs = stmts_marked ss bs
  stmt_marked (t.locals ls) bs = each_marked local_marks local_uses local_marked ls bs
  stmt_marked (t.expression e) bs = option_marked e bs
  stmt_marked t.break bs = refl
  stmt_marked t.continue bs = refl
  stmt_marked (t.return e) bs = option_marked e bs
  stmt_marked (t.either c ss otherwise) bs =
      in_turn (expr_marks c) (λ ms. stmts_marks otherwise (stmts_marks ss ms)) (expr_uses c) (stmts_uses ss ++ stmts_uses otherwise) (expr_marked c)
      (in_turn (stmts_marks ss) (stmts_marks otherwise) (stmts_uses ss) (stmts_uses otherwise) (stmts_marked ss) (stmts_marked otherwise)) bs
  stmt_marked (t.while c ss) bs = in_turn (expr_marks c) (stmts_marks ss) (expr_uses c) (stmts_uses ss) (expr_marked c) (stmts_marked ss) bs
  stmt_marked (t.do_while ss c) bs = in_turn (expr_marks c) (stmts_marks ss) (expr_uses c) (stmts_uses ss) (expr_marked c) (stmts_marked ss) bs
  stmt_marked (t.for start c steps ss) bs =
      in_turn (stmts_marks start) (λ ms. stmts_marks ss (each_marks expr_marks steps (option_marks c ms))) (stmts_uses start) (option_uses c ++ (flat_map expr_uses steps ++ stmts_uses ss)) (stmts_marked start)
      (in_turn (option_marks c) (λ ms. stmts_marks ss (each_marks expr_marks steps ms)) (option_uses c) (flat_map expr_uses steps ++ stmts_uses ss) (option_marked c)
      (in_turn (each_marks expr_marks steps) (stmts_marks ss) (flat_map expr_uses steps) (stmts_uses ss) (each_marked expr_marks expr_uses expr_marked steps) (stmts_marked ss))) bs

  stmts_marked : (ss : t.Stmts) (bs : List Bool) → stmts_marks ss bs ≡ marked (stmts_uses ss) bs
  stmts_marked t.end bs = refl
  stmts_marked (t.then s ss) bs = in_turn (stmt_marks s) (stmts_marks ss) (stmt_uses s) (stmts_uses ss) (stmt_marked s) (stmts_marked ss) bs

parameters_marked : (ps : List TypedParameter) (bs : List Bool) → each_marks (λ p. marked (parameter_uses p)) ps bs ≡ marked (flat_map parameter_uses ps) bs
parameters_marked ps bs = each_marked (λ p. marked (parameter_uses p)) parameter_uses (λ p ms. refl) ps bs

function_marked : (f : t.TypedFunction) (bs : List Bool) → function_marks f bs ≡ marked (function_uses f) bs
function_marked f bs =
    in_turn (each_marks (λ p. marked (parameter_uses p)) f.parameters) (λ ms. stmts_marks f.body (marked (type_uses f.result) ms)) (flat_map parameter_uses f.parameters) (type_uses f.result ++ stmts_uses f.body)
    (parameters_marked f.parameters) (in_turn (marked (type_uses f.result)) (stmts_marks f.body) (type_uses f.result) (stmts_uses f.body) (λ ms. refl) (stmts_marked f.body)) bs

global_marked : (g : t.Global) (bs : List Bool) → global_marks g bs ≡ marked (global_uses g) bs
global_marked g bs = in_turn (marked (type_uses g.ty)) (option_marks g.initializer) (type_uses g.ty) (option_uses g.initializer) (λ ms. refl) (option_marked g.initializer) bs

class_marked : (c : TypedClass) (bs : List Bool) → class_marks c bs ≡ marked (class_uses c) bs
class_marked c bs = each_marked (λ ty. marked (type_uses ty)) type_uses (λ ty ms. refl) c.fields bs

heading_marked : (h : Heading) (bs : List Bool) → heading_marks h bs ≡ marked (heading_uses h) bs
heading_marked h bs =
    in_turn (each_marks (λ p. marked (parameter_uses p)) h.parameters) (marked (type_uses h.result)) (flat_map parameter_uses h.parameters) (type_uses h.result) (parameters_marked h.parameters) (λ ms. refl) bs

-- what a module uses
pub program_marked : (p : t.Program) (bs : List Bool) → program_marks p bs ≡ marked (uses p) bs
unfolding uses
program_marked p bs =
    in_turn (each_marks function_marks p.functions)
    (λ ms. each_marks heading_marks p.imports (each_marks heading_marks p.methods (each_marks class_marks p.classes (each_marks global_marks p.globals ms))))
    (flat_map function_uses p.functions) (flat_map global_uses p.globals ++ (flat_map class_uses p.classes ++ (flat_map heading_uses p.methods ++ flat_map heading_uses p.imports)))
    (each_marked function_marks function_uses function_marked p.functions)
    (in_turn (each_marks global_marks p.globals) (λ ms. each_marks heading_marks p.imports (each_marks heading_marks p.methods (each_marks class_marks p.classes ms)))
    (flat_map global_uses p.globals) (flat_map class_uses p.classes ++ (flat_map heading_uses p.methods ++ flat_map heading_uses p.imports))
    (each_marked global_marks global_uses global_marked p.globals)
    (in_turn (each_marks class_marks p.classes) (λ ms. each_marks heading_marks p.imports (each_marks heading_marks p.methods ms)) (flat_map class_uses p.classes) (flat_map heading_uses p.methods ++ flat_map heading_uses p.imports)
    (each_marked class_marks class_uses class_marked p.classes)
    (in_turn (each_marks heading_marks p.methods) (each_marks heading_marks p.imports) (flat_map heading_uses p.methods) (flat_map heading_uses p.imports)
    (each_marked heading_marks heading_uses heading_marked p.methods) (each_marked heading_marks heading_uses heading_marked p.imports)))) bs

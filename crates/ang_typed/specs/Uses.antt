-- What a module uses of the registration list (docs/CLAIMS.md, "What a module uses"; the AngelScript manual, "Dynamic
-- configurations"): the numbers of the entries that its resolved tree asks or names, and of the types that its declarations name, in
-- reading order. A number may come more than once. A class's number as a type is no entry's: it is past all of these.
use Rattle.std.specs.Prelude.{ℕ, Bool, true, List, [], ◌∷◌, ◌++◌, slice_set, Option, Some, None}
use Rattle.std.specs.List.{flat_map}
use Rattle.ang_types.specs.declared.arg_type.ArgType.{ArgType}
use Rattle.ang_types.specs.declared.arg_type.ArgType.TheVariants as type
use Rattle.ang_typed.specs.declared.expression.HostEntity.{HostEntity}
use Rattle.ang_typed.specs.declared.expression.TypedMember.{TypedMember}
use Rattle.ang_typed.specs.declared.expression.TypedMember.TheVariants as member
use Rattle.ang_typed.specs.declared.expression.TypedVariable.{TypedVariable}
use Rattle.ang_typed.specs.declared.expression.TypedVariable.TheVariants as variable
use Rattle.ang_typed.specs.declared.program.TypedClass.{TypedClass}
use Rattle.ang_typed.specs.declared.program.Heading.{Heading}
use Rattle.ang_typed.specs.declared.program.TypedParameter.{TypedParameter}
use Rattle.ang_typed.specs.Typed as t

-- ---- types that are named

abbrev pub type_uses : ArgType → List ℕ
type_uses (type.Enumeration n) = n ∷ []
type_uses (type.Object n c) = n ∷ []
type_uses (type.Handle n c) = n ∷ []
type_uses _ = []

abbrev pub parameter_uses : TypedParameter → List ℕ
parameter_uses p = type_uses p.ty

-- ---- expressions

abbrev pub host_uses : HostEntity → List ℕ
host_uses h = h.entity.0 ∷ []

abbrev pub variable_uses : TypedVariable → List ℕ
variable_uses (variable.Property h) = host_uses h
variable_uses _ = []

abbrev pub member_uses : TypedMember → List ℕ
member_uses (member.Field i) = []
member_uses (member.Property h) = host_uses h

abbrev mutual
  pub expr_uses : t.Expr → List ℕ
  expr_uses (t.number ty x) = []
  expr_uses (t.truth b) = []
  expr_uses (t.read x ty) = site_uses x
  expr_uses t.null = []
  expr_uses (t.convert from to e) = expr_uses e
  expr_uses (t.negate ty e) = expr_uses e
  expr_uses (t.complement ty e) = expr_uses e
  expr_uses (t.not e) = expr_uses e
  expr_uses (t.operate op ty l r) = expr_uses l ++ expr_uses r
  expr_uses (t.compare op ty l r) = expr_uses l ++ expr_uses r
  expr_uses (t.and l r) = expr_uses l ++ expr_uses r
  expr_uses (t.or l r) = expr_uses l ++ expr_uses r
  expr_uses (t.choose c l r) = expr_uses c ++ (expr_uses l ++ expr_uses r)
  expr_uses (t.same l r) = expr_uses l ++ expr_uses r
  expr_uses (t.cast family e) = expr_uses e
  expr_uses (t.naming x e) = x.0 ∷ expr_uses e
  expr_uses (t.make family constructor args) = args_uses args
  expr_uses (t.assign x ty e) = site_uses x ++ expr_uses e
  expr_uses (t.compound x ty op at e) = site_uses x ++ expr_uses e
  expr_uses (t.step x ty kind) = site_uses x
  expr_uses (t.call f ty args) = args_uses args
  expr_uses (t.host_call h ty args) = host_uses h ++ args_uses args

  pub site_uses : t.Site → List ℕ
  site_uses (t.named x) = variable_uses x
  site_uses (t.member_of e m) = expr_uses e ++ member_uses m

  pub args_uses : t.Args → List ℕ
  args_uses t.none = []
  args_uses (t.more a args) = arg_uses a ++ args_uses args

  pub arg_uses : t.Arg → List ℕ
  arg_uses (t.by_value ty e) = expr_uses e
  arg_uses (t.out x from to) = variable_uses x

abbrev pub option_uses : Option t.Expr → List ℕ
option_uses None = []
option_uses (Some e) = expr_uses e

-- ---- statements

abbrev pub local_uses : t.Local → List ℕ
local_uses l = type_uses l.ty ++ option_uses l.initializer

abbrev mutual
  pub stmt_uses : t.Stmt → List ℕ
  stmt_uses (t.block ss) = stmts_uses ss
  stmt_uses (t.locals ls) = flat_map local_uses ls
  stmt_uses (t.expression e) = option_uses e
  stmt_uses t.break = []
  stmt_uses t.continue = []
  stmt_uses (t.return e) = option_uses e
  stmt_uses (t.either c ss otherwise) = expr_uses c ++ (stmts_uses ss ++ stmts_uses otherwise)
  stmt_uses (t.while c ss) = expr_uses c ++ stmts_uses ss
  stmt_uses (t.do_while ss c) = expr_uses c ++ stmts_uses ss
  stmt_uses (t.for start c steps ss) = stmts_uses start ++ (option_uses c ++ (flat_map expr_uses steps ++ stmts_uses ss))

  pub stmts_uses : t.Stmts → List ℕ
  stmts_uses t.end = []
  stmts_uses (t.then s ss) = stmt_uses s ++ stmts_uses ss

-- ---- modules

abbrev pub function_uses : t.TypedFunction → List ℕ
function_uses f = flat_map parameter_uses f.parameters ++ (type_uses f.result ++ stmts_uses f.body)

abbrev pub global_uses : t.Global → List ℕ
global_uses g = type_uses g.ty ++ option_uses g.initializer

abbrev pub class_uses : TypedClass → List ℕ
class_uses c = flat_map type_uses c.fields

abbrev pub heading_uses : Heading → List ℕ
heading_uses h = flat_map parameter_uses h.parameters ++ type_uses h.result

-- all of it
unfoldable pub uses : t.Program → List ℕ
uses p =
    flat_map function_uses p.functions ++ (flat_map global_uses p.globals ++ (flat_map class_uses p.classes
    ++ (flat_map heading_uses p.methods ++ flat_map heading_uses p.imports)))

-- ---- by number

-- the marks, with those of these numbers set; a number past the end has none
abbrev pub marked : List ℕ → List Bool → List Bool
marked [] ms = ms
marked (n ∷ ns) ms = marked ns (slice_set ms n true)

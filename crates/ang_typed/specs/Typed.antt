-- The resolved tree of a module, without where it lies in memory: source text with its meaning settled. (docs/ARCHITECTURE.md.)
use Rattle.std.specs.Prelude.{ℕ, suc, ◌+◌, Bool, List, [], ◌∷◌, Option}
use Rattle.ang_kinds.specs.declared.mask.EntityNo.{EntityNo}
use Rattle.ang_kinds.specs.declared.position.Position.{Position}
use Rattle.ang_kinds.specs.declared.primitive.Primitive.{Primitive}
use Rattle.ang_types.specs.declared.arg_type.ArgType.{ArgType}
use Rattle.ang_typed.specs.declared.expression.HostEntity.{HostEntity}
use Rattle.ang_typed.specs.declared.expression.TypedVariable.{TypedVariable}
use Rattle.ang_typed.specs.declared.expression.TypedMember.{TypedMember}
use Rattle.ang_typed.specs.declared.expression.TypedCallee.{TypedCallee}
use Rattle.ang_kinds.specs.declared.operator.Operator.{Operator}
use Rattle.ang_kinds.specs.declared.operator.Comparison.{Comparison}
use Rattle.ang_typed.specs.declared.expression.StepKind.{StepKind}
use Rattle.ang_typed.specs.declared.program.TypedClass.{TypedClass}
use Rattle.ang_typed.specs.declared.program.Heading.{Heading}
use Rattle.ang_typed.specs.declared.program.TypedParameter.{TypedParameter}

-- ---- expressions

mutual
  pub data Expr : Type 0 where
    number : Primitive → ℕ → Expr
    truth : Bool → Expr
    read : Site → ArgType → Expr
    null : Expr
    convert : Primitive → Primitive → Expr → Expr
    negate : Primitive → Expr → Expr
    complement : Primitive → Expr → Expr
    not : Expr → Expr
    operate : Operator → Primitive → Expr → Expr → Expr
    compare : Comparison → Primitive → Expr → Expr → Expr
    and : Expr → Expr → Expr
    or : Expr → Expr → Expr
    choose : Expr → Expr → Expr → Expr
    same : Expr → Expr → Expr
    cast : ℕ → Expr → Expr
    -- the operand, in which this entry is named
    naming : EntityNo → Expr → Expr
    make : ℕ → Option ℕ → Args → Expr
    assign : Site → ArgType → Expr → Expr
    compound : Site → Primitive → Operator → Primitive → Expr → Expr
    step : Site → Primitive → StepKind → Expr
    call : TypedCallee → ArgType → Args → Expr
    host_call : HostEntity → ArgType → Args → Expr

  -- what can be read and written: a variable by its bare name, or a member of an object
  pub data Site : Type 0 where
    named : TypedVariable → Site
    member_of : Expr → TypedMember → Site

  -- the arguments of a call
  pub data Args : Type 0 where
    none : Args
    more : Arg → Args → Args

  pub data Arg : Type 0 where
    by_value : ArgType → Expr → Arg
    out : TypedVariable → ArgType → ArgType → Arg

abbrev pub args : List Arg → Args
args [] = none
args (a ∷ others) = more a (args others)

-- ---- statements

-- a local, and its initializer
pub record Local : Type 0 where
  pub ty : ArgType
  pub initializer : Option Expr

mutual
  pub data Stmt : Type 0 where
    block : Stmts → Stmt
    locals : List Local → Stmt
    expression : Option Expr → Stmt
    break : Stmt
    continue : Stmt
    return : Option Expr → Stmt
    either : Expr → Stmts → Stmts → Stmt
    while : Expr → Stmts → Stmt
    do_while : Stmts → Expr → Stmt
    for : Stmts → Option Expr → List Expr → Stmts → Stmt

  pub data Stmts : Type 0 where
    end : Stmts
    then : Stmt → Stmts → Stmts

abbrev pub stmts : List Stmt → Stmts
stmts [] = end
stmts (s ∷ ss) = then s (stmts ss)

-- how many statements there are, those inside statements among them
abbrev mutual
  pub inner_count : Stmt → ℕ
  inner_count (block ss) = statement_count ss
  inner_count (locals ls) = 0
  inner_count (expression e) = 0
  inner_count break = 0
  inner_count continue = 0
  inner_count (return e) = 0
  inner_count (either e ss otherwise) = statement_count ss + statement_count otherwise
  inner_count (while e ss) = statement_count ss
  inner_count (do_while ss e) = statement_count ss
  inner_count (for start e steps ss) = statement_count start + statement_count ss

  pub statement_count : Stmts → ℕ
  statement_count end = 0
  statement_count (then s ss) = suc (inner_count s + statement_count ss)

-- ---- modules

-- A function, with where its statements stand, of which no meaning asks.
pub record TypedFunction : Type 0 where
  pub parameters : List TypedParameter
  pub result : ArgType
  pub body : Stmts
  pub positions : List Position

pub record Global : Type 0 where
  pub ty : ArgType
  pub initializer : Option Expr

-- Functions, with the bodies of families after them, globals, families, the headings of methods, and those of imports, each in the
-- order of their declarations.
pub record Program : Type 0 where
  pub functions : List TypedFunction
  pub globals : List Global
  pub classes : List TypedClass
  pub methods : List Heading
  pub imports : List Heading

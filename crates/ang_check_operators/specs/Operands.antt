-- Operands, and what they are fit for (docs/LANGUAGE.md, "Expressions": conversions and targets; the AngelScript
-- manual, "Conversions", "Object handles" and "Assignments").
use Rattle.std.specs.Prelude.{ℕ, zero, suc, Bool, if◌then◌else◌, Option, Some, None, Ok, Err}
use Rattle.ang_kinds.specs.declared.error.ErrorKind.TheVariants as kind
use Rattle.ang_kinds.specs.declared.place.Place.{Place}
use Rattle.ang_kinds.specs.declared.primitive.Primitive.{Primitive}
use Rattle.ang_kinds.specs.declared.primitive.Primitive.TheVariants as p
use Rattle.ang_types.specs.declared.arg_type.ArgType.{ArgType}
use Rattle.ang_types.specs.declared.arg_type.ArgType.TheVariants as type
use Rattle.ang_types.specs.Integers.{is_integer}
use Rattle.ang_types.specs.Ranks.{Ancestors, rank_of}
use Rattle.ang_typed.specs.Typed as t
use Rattle.ang_check_operators.specs.declared.operand.HandleSite.{HandleSite}
use Rattle.ang_check_operators.specs.declared.operand.SiteUse.{SiteUse}
use Rattle.ang_check_operators.specs.Refusals.{Typing, ◌>>=◌, fault, refused}

-- An expression that was typed: the place of its first token, its type, its resolved tree, how the site that its tree reads may be used,
-- where it reads one, and the site that `@` in front of it names.
pub record Operand : Type 0 where
  pub place : Place
  pub ty : ArgType
  pub tree : t.Expr
  pub target : Option SiteUse
  pub seat : Option HandleSite

-- an expression that is no site
abbrev pub operand : Place → ArgType → t.Expr → Operand
operand place ty e = record { place = place; ty = ty; tree = e; target = None; seat = None }

-- an expression that reads a site
abbrev pub reading : Place → t.Site → ArgType → SiteUse → Operand
reading place site ty x = record { place = place; ty = ty; tree = t.read site ty; target = Some x; seat = None }

-- ---- conversions

-- Between two primitive types a conversion is written out, and so it is from an enumeration, whose values are `int`s; of objects,
-- handles and null nothing changes.
abbrev pub conversion : ArgType → ArgType → t.Expr → t.Expr
conversion (type.Plain p) (type.Plain q) e = t.convert p q e
conversion (type.Enumeration n) (type.Plain q) e = t.convert p.I32 q e
conversion from to e = e

abbrev pub fit_by : Option ℕ → ArgType → Operand → Typing t.Expr
fit_by None ty a = Err (fault kind.BadConversion a.place)
fit_by (Some zero) ty a = Ok a.tree
fit_by (Some (suc n)) ty a = Ok (conversion a.ty ty a.tree)

-- The operand as a value of this type; `BadConversion` where it does not convert by itself.
unfoldable pub fit : Ancestors → ArgType → Operand → Typing t.Expr
fit ancestors ty a = fit_by (rank_of ancestors a.ty ty) ty a

-- ---- what an operator wants

abbrev pub integer_in : Operand → ArgType → Typing Primitive
integer_in a (type.Plain q) = if is_integer q then Ok q else Err (fault kind.BadConversion a.place)
integer_in a (type.Enumeration n) = Ok p.I32
integer_in a _ = Err (fault kind.BadConversion a.place)

-- the operand's integer type: `int` where it is of an enumeration
unfoldable pub integer : Operand → Typing Primitive
integer a = integer_in a a.ty

abbrev pub number_in : Operand → ArgType → Typing Primitive
number_in a (type.Plain q) = if is_integer q then Ok q else Err (fault kind.BadConversion a.place)
number_in a _ = Err (fault kind.BadConversion a.place)

-- the integer type of what is changed in place, which no enumeration is: the `int` that comes out does not convert back
unfoldable pub number : Operand → Typing Primitive
number a = number_in a a.ty

abbrev pub truth_in : Operand → ArgType → Typing t.Expr
truth_in a (type.Plain p.Bool) = Ok a.tree
truth_in a _ = Err (fault kind.NotBool a.place)

-- the operand as a truth value
unfoldable pub truth : Operand → Typing t.Expr
truth a = truth_in a a.ty

-- the number of an object's or a handle's type, and whether the object may not be changed
abbrev pub object_of : ArgType → Option (ℕ × Bool)
object_of (type.Object n c) = Some (n, c)
object_of (type.Handle n c) = Some (n, c)
object_of _ = None

abbrev pub identity_in : Operand → ArgType → Typing t.Expr
identity_in a type.Null = Ok a.tree
identity_in a (type.Object n c) = Ok a.tree
identity_in a (type.Handle n c) = Ok a.tree
identity_in a _ = Err (fault kind.BadConversion a.place)

-- the operand as an object, a handle or null
unfoldable pub identity : Operand → Typing t.Expr
identity a = identity_in a a.ty

-- ---- targets

-- the site that a tree reads
abbrev pub site_in : t.Expr → Option t.Site
site_in (t.read x ty) = Some x
site_in e = None

abbrev pub site_or : Place → Option t.Site → Typing t.Site
site_or place None = Err (fault kind.BadConversion place)
site_or place (Some x) = Ok x

abbrev pub target_by : Place → Option SiteUse → t.Expr → Typing t.Site
target_by place None e = Err (fault kind.BadConversion place)
target_by place (Some x) e = if x.read_only then Err (refused kind.Const x.name) else site_or place (site_in e)

-- The site that an assignment, `++` or `--` changes: `Const` at the name of one that can't be, and `BadConversion` at any other
-- expression.
unfoldable pub target : Operand → Typing t.Site
target a = target_by a.place a.target a.tree

abbrev pub seat_by : Place → Option HandleSite → t.Expr → Typing t.Site
seat_by place None e = Err (fault kind.BadConversion place)
seat_by place (Some s) e = if s.is_object then Err (refused kind.Const s.target.name) else target_by place (Some s.target) e

-- The site of a handle that `@` stands in front of: `Const` also at the name of a variable that is an object.
unfoldable pub seat : Operand → Typing t.Site
seat a = seat_by a.place a.seat a.tree

-- Something is spelled: how many tokens follow it.
use Rattle.std.proofs.Common.{◌<◌, ◌≤◌, List, [], ◌∷◌, length, Option, Some, None, arith}
use Rattle.ang_lex.specs.declared.token.Token.{Token}
use Rattle.ang_tree.specs.Tree.{Tree}
use Rattle.ang_tree.specs.Stmt.{each, Init, absent, value, constructor, Var, Vars, Start, with_variables, with_expression, spelled_init, spelled_var, spelled_vars, spelled_option, spelled_start}
use Rattle.ang_parse_expr.proofs.SoundType.{optional-length, type-length}
use Rattle.ang_parse_expr.proofs.Sound.{spelled-length, args-length}

pub option-length : (e : Option Tree) (s : List Token) → length s ≤ length (spelled_option e s)
option-length None s = omega arith
option-length (Some e) s = omega (arith, spelled-length e s)

pub init-length : (i : Init) (s : List Token) → length s ≤ length (spelled_init i s)
init-length absent s = omega arith
init-length (value equals e) s = omega (arith, spelled-length e s)
init-length (constructor es) s = omega (arith, args-length es s)

pub var-length : (v : Var) (s : List Token) → length s < length (spelled_var v s)
var-length v s = omega (arith, optional-length v.comma (v.name ∷ spelled_init v.initializer s), init-length v.initializer s)

pub each_var-length : (vs : List Var) (s : List Token) → length s ≤ length (each spelled_var vs s)
each_var-length [] s = omega arith
each_var-length (v ∷ vs) s = omega (arith, var-length v (each spelled_var vs s), each_var-length vs s)

pub vars-length : (vs : Vars) (s : List Token) → length s < length (spelled_vars vs s)
vars-length vs s = omega (arith, type-length vs.declared_type (each spelled_var vs.items (vs.semicolon ∷ s)), each_var-length vs.items (vs.semicolon ∷ s))

pub start-length : (b : Start) (s : List Token) → length s < length (spelled_start b s)
start-length (with_variables vs) s = vars-length vs s
start-length (with_expression e semicolon) s = omega (arith, option-length e (semicolon ∷ s))

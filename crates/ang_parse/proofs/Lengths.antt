-- Something is spelled: how many tokens follow it.
use Rattle.std.proofs.Common.{◌<◌, ◌≤◌, List, [], ◌∷◌, length, Option, Some, None, arith}
use Rattle.ang_lex.specs.declared.token.Token.{Token}
use Rattle.ang_tree.specs.declared.declaration.BaseName.{BaseName}
use Rattle.ang_tree.specs.declared.declaration.FieldName.{FieldName}
use Rattle.ang_tree.specs.Kinds.{optional}
use Rattle.ang_tree.specs.TypeNames.{spelled_type}
use Rattle.ang_tree.specs.Stmt.{each, spelled_body, spelled_stmts}
use Rattle.ang_tree.specs.Declarations as tree
use Rattle.ang_parse_expr.proofs.SoundType.{optional-length, type-length}
use Rattle.ang_parse_expr.proofs.Sound.{args-length}
use Rattle.ang_parse_stmt.proofs.Lengths.{body-length, stmts-length}
use Rattle.ang_parse_stmt.proofs.SoundParams.{params-length}

each-length : {A : Type 0} (spell : A → List Token → List Token) → ((x : A) (s : List Token) → length s ≤ length (spell x s)) → (xs : List A) (s : List Token) → length s ≤ length (each spell xs s)
each-length spell h [] s = omega arith
each-length spell h (x ∷ xs) s = omega (arith, h x (each spell xs s), each-length spell h xs s)

pub bases-length : (bs : List BaseName) (s : List Token) → length s ≤ length (each tree.spelled_base bs s)
bases-length = each-length tree.spelled_base (λ b s. omega arith)

pub fields-length : (fs : List FieldName) (s : List Token) → length s ≤ length (each tree.spelled_field fs s)
fields-length = each-length tree.spelled_field (λ f s. omega (arith, optional-length f.comma (f.name ∷ s)))

pub words-length : (ws : List Token) (s : List Token) → length s ≤ length (each tree.spelled_word ws s)
words-length = each-length tree.spelled_word (λ w s. omega arith)

pub super-length : (o : Option tree.SuperTree) (s : List Token) → length s ≤ length (tree.spelled_super o s)
super-length None s = omega arith
super-length (Some u) s = omega (arith, args-length u.arguments (u.semicolon ∷ s))

pub member-length : (m : tree.MemberTree) (s : List Token) → length s < length (tree.spelled_member m s)
member-length (tree.fields access y fs semicolon) s =
    omega (arith, optional-length access (spelled_type y (each tree.spelled_field fs (semicolon ∷ s))), type-length y (each tree.spelled_field fs (semicolon ∷ s)), fields-length fs (semicolon ∷ s))
member-length (tree.method access y x ps c ws b) s =
    let u = each tree.spelled_word ws (spelled_body b s) in
    let v = tree.spelled_params ps (optional c u) in
    omega (arith, optional-length access (spelled_type y (x ∷ v)), type-length y (x ∷ v), params-length ps (optional c u), optional-length c u, words-length ws (spelled_body b s), body-length b s)
member-length (tree.constructor x ps left o ss right) s =
    let u = spelled_stmts ss (right ∷ s) in
    omega (arith, params-length ps (left ∷ tree.spelled_super o u), super-length o u, stmts-length ss (right ∷ s))

pub method-length : (m : tree.MethodTree) (s : List Token) → length s < length (tree.spelled_method m s)
method-length m s =
    let u = optional m.constant (m.semicolon ∷ s) in
    omega (arith, type-length m.result_type (m.name ∷ tree.spelled_params m.parameters u), params-length m.parameters u, optional-length m.constant (m.semicolon ∷ s))

pub members-length : (ms : List tree.MemberTree) (s : List Token) → length s ≤ length (each tree.spelled_member ms s)
members-length = each-length tree.spelled_member (λ m s. omega (arith, member-length m s))

pub methods-length : (ms : List tree.MethodTree) (s : List Token) → length s ≤ length (each tree.spelled_method ms s)
methods-length = each-length tree.spelled_method (λ m s. omega (arith, method-length m s))

pub class-length : (final : Option Token) (word x : Token) (bs : List BaseName) (left : Token) (ms : List tree.MemberTree) (right : Token) (s : List Token) → length s < length (tree.spelled_decl (tree.class final word x bs left ms right) s)
class-length final word x bs left ms right s =
    let u = each tree.spelled_member ms (right ∷ s) in
    let v = each tree.spelled_base bs (left ∷ u) in
    omega (arith, optional-length final (word ∷ x ∷ v), bases-length bs (left ∷ u), members-length ms (right ∷ s))

pub interface-length : (word x : Token) (bs : List BaseName) (left : Token) (ms : List tree.MethodTree) (right : Token) (s : List Token) → length s < length (tree.spelled_decl (tree.interface word x bs left ms right) s)
interface-length word x bs left ms right s =
    let u = each tree.spelled_method ms (right ∷ s) in
    omega (arith, bases-length bs (left ∷ u), methods-length ms (right ∷ s))

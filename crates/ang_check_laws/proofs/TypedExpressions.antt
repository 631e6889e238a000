-- A typed expression's tree is of its type.
use Rattle.std.specs.Prelude.{◌≡◌, ℕ, List, IfOk}
use Rattle.std.proofs.Common.{subst}
use Rattle.ang_lex.specs.declared.token.Token.{Token}
use Rattle.ang_lex.specs.declared.token.TokenKind.{TokenKind}
use Rattle.ang_lex.specs.declared.token.TokenKind.TheVariants as k
use Rattle.ang_lex.specs.Text.{text_of}
use Rattle.ang_tree.specs.Stmt.{Every}
use Rattle.ang_tree.specs.Tree.{Tree, Args, Trees, literal, name, call, scoped_call, scoped_name, cast, convert, group, postfix, member, method_call, prefix, binary, conditional, assignment, arguments, none, more}
use Rattle.ang_types.specs.declared.arg_type.ArgType.{ArgType}
use Rattle.ang_check_operators.specs.Operands.{Operand, object_of}
use Rattle.ang_check_context.specs.declared.scope.LocalVariable.{LocalVariable}
use Rattle.ang_check_context.specs.Casts.{cast_type}
use Rattle.ang_check_context.specs.Scope.{BodyContext}
use Rattle.ang_check_typing.specs.Typing.{word_by, typing_of, typing_of_args, typing_of_all}
use Rattle.ang_meaning.specs.Environment.{Environment}
use Rattle.ang_source_typed.specs.Types.{SlotType, Modules}
use Rattle.ang_check_sound.proofs.Judged.{holds}
use Rattle.ang_types.specs.declared.arg_type.ArgType.TheVariants as type
use Rattle.ang_typed.specs.Typed as t
use Rattle.ang_source_typed.specs.TypedProgram.{IsHandle, Types}
use Rattle.ang_check_laws.specs.Contexts.{IsTypedContext, AreLocals}
use Rattle.ang_check_laws.specs.Typed.{IsTypedAs, ExpressionsAreTyped}
use Rattle.ang_check_laws.proofs.Arguments.{follows}
use Rattle.ang_check_laws.proofs.Operands.{IsTyped, Nulls, TypedOperand}
use Rattle.ang_check_laws.proofs.TypedOperators.{literal_typed, binary_typed, prefix_typed, postfix_typed, converted_typed, group_typed, conditional_typed, assignment_typed}
use Rattle.ang_check_laws.proofs.TypedCalls.{this_typed, bare_call_typed, scoped_typed, scoped_name_typed, bare_name_typed}
use Rattle.ang_check_laws.proofs.Objects.{IsCastable, member_typed, method_call_typed, cast_typed, cast_type_there}

-- In a body, where these parameters and locals are alive:
module _ (z : Environment) (ms : Modules) (m : ℕ) (s : BodyContext) (built : IsTypedContext z ms m s)
    (ps : List LocalVariable) (locals : List SlotType) (are : AreLocals z ms m s.within ps locals) where
  abbrev Typed : Operand → Type 0
  Typed a = TypedOperand z ms m locals a

  word_typed : (x : Token) (kind : TokenKind) → IfOk (word_by s x kind) Typed
  word_typed x k.This = this_typed z ms m s built locals x are.this
  word_typed x _ = literal_typed z ms m locals built.classes s.ancestors built.ancestors x (text_of s.text x)

  mutual
    pub typed : (e : Tree) → IfOk (typing_of s ps e) (TypedOperand z ms m locals)
    typed (literal x) = word_typed x x.kind
    typed (name x) = bare_name_typed z ms m s built locals ps x are
    typed (call x es) =
        holds (Every Typed) Typed (typing_of_args s ps es) _ (args_typed es) (λ operands all. bare_call_typed z ms m s built locals ps x operands are.this all)
    typed (scoped_call c scope x es) =
        holds (Every Typed) Typed (typing_of_args s ps es) _ (args_typed es) (λ operands all. scoped_typed z ms m s built locals c x operands are.this all)
    typed (scoped_name c scope x) = scoped_name_typed z ms m s built locals ps c x
    typed (cast word less y greater left e right) =
        holds (λ (ty : ArgType). IsCastable z ms m s built locals (object_of ty)) Typed (cast_type s ps y) _ (cast_type_there z ms m s built locals ps y)
        (λ ty there. holds Typed Typed (typing_of s ps e) _ (typed e) (λ a sa. cast_typed z ms m s built locals word ty a there sa))
    typed (convert word left e right) =
        holds Typed Typed (typing_of s ps e) _ (typed e) (λ a sa. converted_typed z ms m locals built.classes s.ancestors built.ancestors word a sa)
    typed (group left e right) =
        holds Typed Typed (typing_of s ps e) _ (typed e) (λ a sa. group_typed z ms m locals built.classes s.ancestors built.ancestors left.place a sa)
    typed (postfix e op) =
        holds Typed Typed (typing_of s ps e) _ (typed e) (λ a sa. postfix_typed z ms m locals built.classes s.ancestors built.ancestors a op.kind sa)
    typed (member e dot x) = holds Typed Typed (typing_of s ps e) _ (typed e) (λ a sa. member_typed z ms m s built locals a x sa)
    typed (method_call e dot x es) =
        holds Typed Typed (typing_of s ps e) _ (typed e)
        (λ a sa. holds (Every Typed) Typed (typing_of_args s ps es) _ (args_typed es) (λ operands all. method_call_typed z ms m s built locals a x operands sa all))
    typed (prefix op e) =
        holds Typed Typed (typing_of s ps e) _ (typed e) (λ a sa. prefix_typed z ms m locals built.classes s.ancestors built.ancestors op a sa)
    typed (binary l op r) =
        holds Typed Typed (typing_of s ps l) _ (typed l)
        (λ x sx. holds Typed Typed (typing_of s ps r) _ (typed r)
        (λ y sy. binary_typed z ms m locals built.classes s.ancestors built.ancestors x op.kind y sx sy))
    typed (conditional c question l colon r) =
        holds Typed Typed (typing_of s ps c) _ (typed c)
        (λ x sx. holds Typed Typed (typing_of s ps l) _ (typed l)
        (λ y sy. holds Typed Typed (typing_of s ps r) _ (typed r)
        (λ v sv. conditional_typed z ms m locals built.classes s.ancestors built.ancestors x y v sx sy sv)))
    typed (assignment l op r) =
        holds Typed Typed (typing_of s ps l) _ (typed l)
        (λ x sx. holds Typed Typed (typing_of s ps r) _ (typed r)
        (λ y sy. assignment_typed z ms m locals built.classes s.ancestors built.ancestors x op y sx sy))

    pub args_typed : (es : Args) → IfOk (typing_of_args s ps es) (Every (TypedOperand z ms m locals))
    args_typed (arguments left es right) = all_typed es

    -- expressions with commas between them
    pub all_typed : (es : Trees) → IfOk (typing_of_all s ps es) (Every (TypedOperand z ms m locals))
    all_typed none = tt
    all_typed (more comma e es) =
        holds Typed (Every Typed) (typing_of s ps e) _ (typed e)
        (λ a sa. holds (Every Typed) (Every Typed) (typing_of_all s ps es) _ (all_typed es) (λ rest all. (sa, all)))

null_of : (z : Environment) (ms : Modules) (m : ℕ) (locals : List SlotType) (ty : ArgType) (e : t.Expr) → IsTyped z ms m locals ty e → ty ≡ type.Null
    → (want : SlotType) → IsHandle want → Types z ms m locals want e
null_of z ms m locals ty e h is = (subst (λ u. Nulls z ms m locals u e) is h.nulls)

pub expressions_typed : (z : Environment) (ms : Modules) (m : ℕ) → ExpressionsAreTyped z ms m
expressions_typed z ms m s ps locals e built are =
    follows (TypedOperand z ms m locals) (λ a. IsTypedAs z ms m locals a.ty a.tree) (typing_of s ps e) (typed z ms m s built ps locals are e)
    (λ a h. record { tree = h.typed.tree; nulls = null_of z ms m locals a.ty a.tree h.typed })

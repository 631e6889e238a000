-- What is refused of an expression is a use, or no use.
use Rattle.std.specs.Prelude.{List, IfErr}
use Rattle.ang_lex.specs.declared.token.Token.{Token}
use Rattle.ang_lex.specs.declared.token.TokenKind.{TokenKind}
use Rattle.ang_lex.specs.declared.token.TokenKind.TheVariants as k
use Rattle.ang_tree.specs.Tree.{Tree, Args, Trees, literal, name, call, scoped_call, scoped_name, cast, convert, group, postfix, member, method_call, prefix, binary, conditional, assignment, arguments, none, more}
use Rattle.ang_lex.specs.Text.{text_of}
use Rattle.ang_check_operators.specs.Refusals.{Typing, ◌>>=◌}
use Rattle.ang_check_operators.specs.Operations.{literal_typing, binary_typing, prefix_typing, postfix_typing, convert_typing, conditional_typing, assignment_typing}
use Rattle.ang_check_context.specs.declared.scope.LocalVariable.{LocalVariable}
use Rattle.ang_check_context.specs.Casts.{cast_type, cast_typing}
use Rattle.ang_check_context.specs.Names.{this_typing}
use Rattle.ang_check_context.specs.Scope.{BodyContext}
use Rattle.ang_check_typing.specs.Calls.{scoped_typing}
use Rattle.ang_check_typing.specs.Typing.{word_by, typing_of, typing_of_args, typing_of_all}
use Rattle.ang_check_laws.specs.Asked.{IsAskedThere}
use Rattle.ang_check_laws.proofs.Judged.{refused_in}
use Rattle.ang_check_laws.proofs.Operators.{literal_silent, binary_silent, prefix_silent, postfix_silent, converted_silent, conditional_silent, assignment_silent}
use Rattle.ang_check_laws.proofs.Names.{Uses, no_use, cast_silent, this_silent, cast_type_uses, member_uses, name_uses, scoped_name_uses}
use Rattle.ang_check_laws.proofs.Calls.{call_uses, scoped_silent, method_call_uses}

-- In a body, with these parameters and locals alive:
module _ (s : BodyContext) (ps : List LocalVariable) where
  word_uses : (x : Token) (kind : TokenKind) → Uses s ps (word_by s x kind)
  word_uses x k.This = no_use s ps (this_typing s x) (this_silent s x)
  word_uses x _ = no_use s ps (literal_typing x (text_of s.text x)) (literal_silent x (text_of s.text x))

  pub after : {A B : Type 0} (x : Typing A) (f : A → Typing B) → Uses s ps x → ((a : A) → Uses s ps (f a)) → Uses s ps (x >>= f)
  after x f h g = refused_in (IsAskedThere s ps) x f h g

  mutual
    pub typing_uses : (e : Tree) → Uses s ps (typing_of s ps e)
    typing_uses (literal x) = word_uses x x.kind
    typing_uses (name x) = name_uses s ps x
    typing_uses (call x es) = after (typing_of_args s ps es) _ (args_use es) (λ operands. call_uses s ps x operands)
    typing_uses (scoped_call c scope x es) =
        after (typing_of_args s ps es) _ (args_use es)
        (λ operands. no_use s ps (scoped_typing s c x operands) (scoped_silent s ps c x operands))
    typing_uses (scoped_name c scope x) = scoped_name_uses s ps c x
    typing_uses (cast word less y greater left e right) =
        after (cast_type s ps y) _ (cast_type_uses s ps y)
        (λ ty. after (typing_of s ps e) _ (typing_uses e) (λ a. no_use s ps (cast_typing word ty a) (cast_silent word ty a)))
    typing_uses (convert word left e right) =
        after (typing_of s ps e) _ (typing_uses e) (λ a. no_use s ps (convert_typing s.ancestors word a) (converted_silent s.ancestors word a))
    typing_uses (group left e right) = after (typing_of s ps e) _ (typing_uses e) (λ a. tt)
    typing_uses (postfix e op) = after (typing_of s ps e) _ (typing_uses e) (λ a. no_use s ps (postfix_typing a op.kind) (postfix_silent a op.kind))
    typing_uses (member e dot x) = after (typing_of s ps e) _ (typing_uses e) (λ a. member_uses s ps a x)
    typing_uses (method_call e dot x es) =
        after (typing_of s ps e) _ (typing_uses e)
        (λ a. after (typing_of_args s ps es) _ (args_use es) (λ operands. method_call_uses s ps a x operands))
    typing_uses (prefix op e) =
        after (typing_of s ps e) _ (typing_uses e) (λ a. no_use s ps (prefix_typing s.ancestors op a) (prefix_silent s.ancestors op a))
    typing_uses (binary l op r) =
        after (typing_of s ps l) _ (typing_uses l)
        (λ a. after (typing_of s ps r) _ (typing_uses r)
        (λ b. no_use s ps (binary_typing s.ancestors a op.kind b) (binary_silent s.ancestors a op.kind b)))
    typing_uses (conditional c question l colon r) =
        after (typing_of s ps c) _ (typing_uses c)
        (λ x. after (typing_of s ps l) _ (typing_uses l)
        (λ a. after (typing_of s ps r) _ (typing_uses r)
        (λ b. no_use s ps (conditional_typing s.ancestors x a b) (conditional_silent s.ancestors x a b))))
    typing_uses (assignment l op r) =
        after (typing_of s ps l) _ (typing_uses l)
        (λ a. after (typing_of s ps r) _ (typing_uses r)
        (λ b. no_use s ps (assignment_typing s.ancestors a op b) (assignment_silent s.ancestors a op b)))

    pub args_use : (es : Args) → Uses s ps (typing_of_args s ps es)
    args_use (arguments left es right) = all_use es

    -- expressions with commas between them
    pub all_use : (es : Trees) → Uses s ps (typing_of_all s ps es)
    all_use none = tt
    all_use (more comma e es) =
        after (typing_of s ps e) _ (typing_uses e) (λ a. after (typing_of_all s ps es) _ (all_use es) (λ operands. tt))

pub each_use_asked : (s : BodyContext) (locals : List LocalVariable) (e : Tree)
    → IfErr (typing_of s locals e) (IsAskedThere s locals)
each_use_asked s locals e = typing_uses s locals e

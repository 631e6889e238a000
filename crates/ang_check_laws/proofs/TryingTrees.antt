-- What is refused of an expression, of a local variable's type or of what it begins with asks something, or is refused over each view that
-- keeps values of enumerations.
use Rattle.std.specs.Prelude.{◌≡◌, List, Ok, Err}
use Rattle.std.proofs.Common.{refl, ◌∙◌}
use Rattle.ang_lex.specs.declared.token.Token.{Token}
use Rattle.ang_lex.specs.declared.token.TokenKind.{TokenKind}
use Rattle.ang_lex.specs.declared.token.TokenKind.TheVariants as k
use Rattle.ang_lex.specs.Text.{text_of}
use Rattle.ang_tree.specs.declared.type_name.TypeName.{TypeName}
use Rattle.ang_tree.specs.Stmt.{Init, absent, value, constructor}
use Rattle.ang_tree.specs.Tree.{Tree, Args, Trees, literal, name, call, scoped_call, scoped_name, cast, convert, group, postfix, member, method_call, prefix, binary, conditional, assignment, arguments, none, more}
use Rattle.ang_types.specs.declared.arg_type.ArgType.{ArgType}
use Rattle.ang_types.specs.declared.arg_type.ArgType.TheVariants as type
use Rattle.ang_view.specs.Registration.{RegistrationList}
use Rattle.ang_names_listed.specs.declared.role.TypePosition.TheVariants as role
use Rattle.ang_check_operators.specs.Operands.{Operand}
use Rattle.ang_check_operators.specs.Operations.{literal_typing, binary_typing, prefix_typing, postfix_typing, convert_typing, conditional_typing, assignment_typing}
use Rattle.ang_check_operators.specs.Refusals.{Typing}
use Rattle.ang_check_context.specs.declared.scope.LocalVariable.{LocalVariable}
use Rattle.ang_check_context.specs.Casts.{cast_type, cast_typing}
use Rattle.ang_check_context.specs.Names.{name_typing, this_typing}
use Rattle.ang_check_context.specs.Scope.{BodyContext}
use Rattle.ang_check_typing.specs.Calls.{default_typing, made_typing}
use Rattle.ang_check_typing.specs.Typing.{word_by, typing_of, typing_of_args, typing_of_all}
use Rattle.ang_check_stmt.specs.Typing.{local_type, made, absent_typing, value_typing, arguments_typing, initializer_typing}
use Rattle.ang_check_laws.specs.Beyond.{over, refusal, tried, args_tried, all_tried, initializer_tried}
use Rattle.ang_check_laws.proofs.Trying.{Harmless, Kept, kept_harmless, kept_itself, kept_equal, kept_after, kept_first}
use Rattle.ang_check_laws.proofs.TryingUses.{KeepsValues, written_harmless, cast_type_harmless, name_harmless, member_kept, method_kept, call_kept, scoped_kept, default_kept, made_kept, scoped_name_kept}

-- In a body, over view W, with these parameters and locals alive:
module _ (s : BodyContext) (W : RegistrationList) (keeps : KeepsValues s.view W) (ps : List LocalVariable) where
  same_this : (x : Token) → this_typing s x ≡ this_typing (over s W) x
  unfolding this_typing
  same_this x = refl

  word_kept : (x : Token) (kind : TokenKind) → Kept (word_by s x kind) (refusal (word_by (over s W) x kind))
  word_kept x k.This = kept_equal (this_typing s x) (this_typing (over s W) x) (same_this x)
  word_kept x _ = kept_itself (literal_typing x (text_of s.text x))

  mutual
    pub tree_kept : (e : Tree) → Kept (typing_of s ps e) (tried s W ps e)
    tree_kept (literal x) = word_kept x x.kind
    tree_kept (name x) = kept_harmless (name_typing s ps x) _ (name_harmless s ps x)
    tree_kept (call x es) = kept_after (typing_of_args s ps es) _ _ _ (args_kept es) (λ operands. call_kept s W ps x operands)
    tree_kept (scoped_call c scope x es) = kept_after (typing_of_args s ps es) _ _ _ (args_kept es) (λ operands. scoped_kept s W ps c x operands)
    tree_kept (scoped_name c scope x) = scoped_name_kept s W keeps ps c x
    tree_kept (cast word less y greater left e right) =
        kept_after (cast_type s ps y) _ _ _ (kept_harmless (cast_type s ps y) _ (cast_type_harmless s ps y))
        (λ ty. kept_after (typing_of s ps e) _ _ _ (tree_kept e) (λ a. kept_itself (cast_typing word ty a)))
    tree_kept (convert word left e right) =
        kept_after (typing_of s ps e) _ _ _ (tree_kept e) (λ a. kept_itself (convert_typing s.ancestors word a))
    tree_kept (group left e right) = kept_first (typing_of s ps e) _ _ (tree_kept e) (λ a. tt)
    tree_kept (postfix e op) = kept_after (typing_of s ps e) _ _ _ (tree_kept e) (λ a. kept_itself (postfix_typing a op.kind))
    tree_kept (member e dot x) = kept_after (typing_of s ps e) _ _ _ (tree_kept e) (λ a. member_kept s W ps a x)
    tree_kept (method_call e dot x es) =
        kept_after (typing_of s ps e) _ _ _ (tree_kept e)
        (λ a. kept_after (typing_of_args s ps es) _ _ _ (args_kept es) (λ operands. method_kept s W ps a x operands))
    tree_kept (prefix op e) = kept_after (typing_of s ps e) _ _ _ (tree_kept e) (λ a. kept_itself (prefix_typing s.ancestors op a))
    tree_kept (binary l op r) =
        kept_after (typing_of s ps l) _ _ _ (tree_kept l)
        (λ a. kept_after (typing_of s ps r) _ _ _ (tree_kept r) (λ b. kept_itself (binary_typing s.ancestors a op.kind b)))
    tree_kept (conditional c question l colon r) =
        kept_after (typing_of s ps c) _ _ _ (tree_kept c)
        (λ x. kept_after (typing_of s ps l) _ _ _ (tree_kept l)
        (λ a. kept_after (typing_of s ps r) _ _ _ (tree_kept r) (λ b. kept_itself (conditional_typing s.ancestors x a b))))
    tree_kept (assignment l op r) =
        kept_after (typing_of s ps l) _ _ _ (tree_kept l)
        (λ a. kept_after (typing_of s ps r) _ _ _ (tree_kept r) (λ b. kept_itself (assignment_typing s.ancestors a op b)))

    pub args_kept : (es : Args) → Kept (typing_of_args s ps es) (args_tried s W ps es)
    args_kept (arguments left es right) = all_kept es

    pub all_kept : (es : Trees) → Kept (typing_of_all s ps es) (all_tried s W ps es)
    all_kept none = tt
    all_kept (more comma e es) =
        kept_after (typing_of s ps e) _ _ _ (tree_kept e) (λ a. kept_first (typing_of_all s ps es) _ _ (all_kept es) (λ operands. tt))

  -- ---- variables

  pub local_type_harmless : (y : TypeName) → Harmless (local_type s ps y)
  unfolding local_type
  local_type_harmless y = written_harmless s ps role.Variable y

  same_made : (x : Typing Operand) → refusal (made x) ≡ refusal x
  same_made (Ok a) = refl
  same_made (Err r) = refl

  object_kept : (x y : Typing Operand) → Kept x (refusal y) → Kept (made x) (refusal (made y))
  object_kept (Ok a) y h = tt
  object_kept (Err r) y h = λ e f. same_made y ∙ h e f

  absent_kept : (y : TypeName) (ty : ArgType) → Kept (absent_typing s ps y ty) (refusal (absent_typing (over s W) ps y ty))
  absent_kept y type.Void = tt
  absent_kept y type.Null = tt
  absent_kept y (type.Plain p) = tt
  absent_kept y (type.Enumeration n) = tt
  absent_kept y (type.Object n c) = object_kept (default_typing s ps y.name n) (default_typing (over s W) ps y.name n) (default_kept s W ps y.name n)
  absent_kept y (type.Handle n c) = tt

  arguments_kept : (y : TypeName) (ty : ArgType) (operands : List Operand)
      → Kept (arguments_typing s ps y ty operands) (refusal (arguments_typing (over s W) ps y ty operands))
  arguments_kept y type.Void operands = λ e f. refl
  arguments_kept y type.Null operands = λ e f. refl
  arguments_kept y (type.Plain p) operands = λ e f. refl
  arguments_kept y (type.Enumeration n) operands = λ e f. refl
  arguments_kept y (type.Object n c) operands =
      object_kept (made_typing s ps y.name n operands) (made_typing (over s W) ps y.name n operands) (made_kept s W ps y.name n operands)
  arguments_kept y (type.Handle n c) operands = λ e f. refl

  pub initializer_kept : (y : TypeName) (ty : ArgType) (i : Init) → Kept (initializer_typing s ps y ty i) (initializer_tried s W ps y ty i)
  initializer_kept y ty absent = absent_kept y ty
  initializer_kept y ty (value equals e) =
      kept_after (typing_of s ps e) _ _ _ (tree_kept e) (λ a. kept_itself (value_typing s.ancestors equals ty a))
  initializer_kept y ty (constructor es) =
      kept_after (typing_of_args s ps es) _ _ _ (args_kept es) (λ operands. arguments_kept y ty operands)

-- The readers of functions, global variables and imports look no further than they read.
use Rattle.std.proofs.Common.{ℕ, ◌≤◌, inl, Bool, List, [], ◌∷◌, ◌++◌, length, Option, Some, None, refl}
use Rattle.std.specs.Prelude.{option_map}
use Rattle.ang_lex.specs.declared.token.Token.{Token}
use Rattle.ang_lex.specs.declared.token.TokenKind.{TokenKind}
use Rattle.ang_lex.specs.declared.token.TokenKind.TheVariants as k
use Rattle.ang_tree.specs.declared.type_name.TypeName.{TypeName}
use Rattle.ang_tree.specs.Tree.{Args}
use Rattle.ang_tree.specs.Stmt.{constructor}
use Rattle.ang_tree.specs.Declarations.{Params}
use Rattle.ang_tree.specs.Declarations as decl
use Rattle.ang_parse_read.specs.Read.{Parser, pure, ◌>>=◌, Choice, look}
use Rattle.ang_parse_read.specs.Tokens.{a_token, is_name, is_semicolon, is_from, is_text}
use Rattle.ang_parse_read.specs.Law.{finish}
use Rattle.ang_parse_read.proofs.DependsOnPrefix.{Filled, Kept, Past, Agree, DependsOnPrefix, Both, prefix_pure, prefix_refuse, prefix_bind, prefix_look}
use Rattle.ang_parse_read.proofs.Tokens.{a_token_prefix}
use Rattle.ang_parse_read.proofs.PrefixGroup.{both_prefix}
use Rattle.ang_parse_expr.specs.ReadType.{a_type}
use Rattle.ang_parse_expr.specs.ReadExpr.{expr, args}
use Rattle.ang_parse_expr.proofs.PrefixExpr.{a_type_prefix, args_at_prefix}
use Rattle.ang_parse_stmt.specs.ReadVars.{variable_of, variables_behind, variables_named}
use Rattle.ang_parse_stmt.specs.ReadStmt.{stmt, a_body}
use Rattle.ang_parse_stmt.proofs.PrefixVars.{variables_behind_prefix, variables_named_prefix}
use Rattle.ang_parse_stmt.proofs.PrefixStmt.{body_at_prefix}
use Rattle.ang_parse_stmt.specs.ReadParams.{params, a_params}
use Rattle.ang_parse_stmt.proofs.PrefixParams.{params_prefix, a_params_prefix}
use Rattle.ang_parse.specs.ReadFunction as r

module _ (b z : List Token) where
  abbrev T : {A : Type 0} → Parser A → Parser A → Type 0
  T p q = DependsOnPrefix b z p q

  abbrev bind : {A B : Type 0} (p q : Parser A) (f g : A → Parser B) → T p q → ((x : A) → T (f x) (g x)) → T (p >>= f) (q >>= g)
  bind = prefix_bind b z

  abbrev by_kind : {A : Type 0} (f g : TokenKind → Choice A) (p q : Parser A) → ((kind : TokenKind) → Both b z (f kind) (g kind)) → T p q → T (look f p) (look g q)
  by_kind = prefix_look b z

  abbrev unit : {A : Type 0} (x : A) → T (pure x) (pure x)
  unit = prefix_pure b z

  abbrev then_token : {B : Type 0} (test : TokenKind → Bool) (f g : Token → Parser B) → ((x : Token) → T (f x) (g x)) → T (a_token test >>= f) (a_token test >>= g)
  then_token test f g h = bind (a_token test) (a_token test) f g (a_token_prefix b z test) h

  -- ---- the group

  finish_common : {A : Type 0} (x : A) (c : List Token) → Filled c → Agree b z (finish x (c ++ b)) (finish x (c ++ z))
  finish_common x [] f = absurd f
  finish_common x (t ∷ c) f = inl (record { rest = t ∷ c; filled = tt; is = refl; same = refl })

  finish_prefix : {A : Type 0} (x : A) → T (finish x) (finish x)
  finish_prefix x = record {
    common = finish_common x;
    past = λ s. elim s as (λ s. length s ≤ length b → Past b z (finish x s)) [ [] ↦ λ h. h | t ∷ u ↦ λ h. h ];
    same = λ s. elim s as (λ s. Kept (finish x s) (finish x s)) [ [] ↦ refl | t ∷ u ↦ refl ];
  }

  whole_params_prefix : (m n : ℕ) → m ≤ n → (left : Token) → T (r.whole_params m left) (r.whole_params n left)
  unfolding r.whole_params
  whole_params_prefix m n le left = bind (params m left) (params n left) finish finish (params_prefix b z m n le left) finish_prefix

  whole_args_prefix : (m n : ℕ) → m ≤ n → (left : Token) → T (r.whole_args m left) (r.whole_args n left)
  unfolding r.whole_args
  whole_args_prefix m n le left = bind (args (expr m) m left) (args (expr n) n left) finish finish (args_at_prefix b z m n le left) finish_prefix

pub group_prefix : (b z : List Token) (m n : ℕ) → m ≤ n → (left : Token) → DependsOnPrefix b z (r.group m left) (r.group n left)
unfolding r.group
group_prefix b z m n le left =
    both_prefix b z (r.whole_params m left) (r.whole_params n left) (r.whole_args m left) (r.whole_args n left)
    (λ b z. whole_params_prefix b z m n le left) (λ b z. whole_args_prefix b z m n le left)

module _ (b z : List Token) (m n : ℕ) (le : m ≤ n) where
  constructed_prefix : (y : TypeName) (x : Token) (es : Args) → T b z (r.constructed m y x es) (r.constructed n y x es)
  unfolding r.constructed
  constructed_prefix y x es =
      bind b z (variables_behind m y (variable_of None x (constructor es))) (variables_behind n y (variable_of None x (constructor es))) _ _
      (variables_behind_prefix b z m n le y (variable_of None x (constructor es))) (λ vs. unit b z (decl.globals vs))

  perhaps_constructed_prefix : (y : TypeName) (x : Token) (o : Option Args) → T b z (r.perhaps_constructed m y x o) (r.perhaps_constructed n y x o)
  perhaps_constructed_prefix y x None = prefix_refuse b z
  perhaps_constructed_prefix y x (Some es) = constructed_prefix y x es

  declared_prefix : (y : TypeName) (x : Token) → T b z (r.declared m y x) (r.declared n y x)
  unfolding r.declared
  declared_prefix y x = bind b z (variables_named m y x) (variables_named n y x) _ _ (variables_named_prefix b z m n le y x) (λ vs. unit b z (decl.globals vs))

  module _ (i j : ℕ) (lo : i ≤ j) where
    bodied_prefix : (y : TypeName) (x : Token) (ps : Params) (left : Token) → T b z (r.bodied i m y x ps left) (r.bodied j n y x ps left)
    unfolding r.bodied
    bodied_prefix y x ps left = bind b z (a_body (stmt i m) m left) (a_body (stmt j n) n left) _ _ (body_at_prefix b z m n le i j lo left) (λ q. unit b z (decl.function y x ps q))

    braced_prefix : (y : TypeName) (x : Token) (o : Option Params) → Both b z (option_map (r.bodied i m y x) o) (option_map (r.bodied j n y x) o)
    braced_prefix y x None = tt
    braced_prefix y x (Some ps) = bodied_prefix y x ps

    told_by_prefix : (y : TypeName) (x : Token) (o : Option Params) (kind : TokenKind) → Both b z (r.told_by i m y x o kind) (r.told_by j n y x o kind)
    told_by_prefix y x o k.LeftBrace = braced_prefix y x o
    told_by_prefix y x o _ = tt

    told_prefix : (y : TypeName) (x : Token) (g : r.Group) → T b z (r.told i m y x g) (r.told j n y x g)
    unfolding r.told
    told_prefix y x g = by_kind b z (r.told_by i m y x g.0) (r.told_by j n y x g.0) (r.perhaps_constructed m y x g.1) (r.perhaps_constructed n y x g.1) (told_by_prefix y x g.0) (perhaps_constructed_prefix y x g.1)

    grouped_prefix : (y : TypeName) (x : Token) (left : Token) → T b z (r.grouped i m y x left) (r.grouped j n y x left)
    unfolding r.grouped
    grouped_prefix y x left = bind b z (r.group m left) (r.group n left) _ _ (group_prefix b z m n le left) (told_prefix y x)

    named_by_prefix : (y : TypeName) (x : Token) (kind : TokenKind) → Both b z (r.named_by i m y x kind) (r.named_by j n y x kind)
    named_by_prefix y x k.LeftParen = grouped_prefix y x
    named_by_prefix y x _ = tt

    named_prefix : (y : TypeName) (x : Token) → T b z (r.named i m y x) (r.named j n y x)
    unfolding r.named
    named_prefix y x = by_kind b z (r.named_by i m y x) (r.named_by j n y x) (r.declared m y x) (r.declared n y x) (named_by_prefix y x) (declared_prefix y x)

    pub function_or_globals_prefix : T b z (r.function_or_globals i m) (r.function_or_globals j n)
    unfolding r.function_or_globals
    function_or_globals_prefix = bind b z a_type a_type _ _ (a_type_prefix b z) (λ y. then_token b z is_name (r.named i m y) (r.named j n y) (named_prefix y))

  -- ---- import

  origin_prefix : T b z r.origin r.origin
  unfolding r.origin
  origin_prefix = then_token b z is_from _ _ (λ word. then_token b z is_text _ _ (λ text. then_token b z is_semicolon _ _ (λ semicolon. unit b z (word, text, semicolon))))

  pub import_prefix : (word : Token) → T b z (r.import m word) (r.import n word)
  unfolding r.import
  import_prefix word =
      bind b z a_type a_type _ _ (a_type_prefix b z) (λ y. then_token b z is_name _ _ (λ x.
      bind b z (a_params m) (a_params n) _ _ (a_params_prefix b z m n le) (λ ps. bind b z r.origin r.origin _ _ origin_prefix (λ o. unit b z (decl.import word y x ps o.0 o.1 o.2)))))

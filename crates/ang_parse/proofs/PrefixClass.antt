-- The readers of classes and interfaces look no further than they read.
use Rattle.std.proofs.Common.{ℕ, ◌≤◌, Bool, true, false, List, [], ◌∷◌, ◌++◌, Option, Some, None}
use Rattle.ang_lex.specs.declared.token.Token.{Token}
use Rattle.ang_lex.specs.declared.token.TokenKind.{TokenKind}
use Rattle.ang_lex.specs.declared.token.TokenKind.TheVariants as k
use Rattle.ang_tree.specs.declared.type_name.TypeName.{TypeName}
use Rattle.ang_tree.specs.declared.declaration.BaseName.{BaseName}
use Rattle.ang_tree.specs.declared.declaration.FieldName.{FieldName}
use Rattle.ang_tree.specs.Kinds.{access_kind, attribute_kind}
use Rattle.ang_tree.specs.Declarations as tree
use Rattle.ang_parse_read.specs.Read.{Parser, pure, ◌>>=◌, Choice, look, repeat}
use Rattle.ang_parse_read.specs.Tokens.{a_token, perhaps, is_name, is_left_paren, is_left_brace, is_right_brace, is_semicolon, is_const}
use Rattle.ang_parse_read.proofs.DependsOnPrefix.{DependsOnPrefix, Both, both_given, prefix_pure, prefix_bind, prefix_look, prefix_repeat}
use Rattle.ang_parse_read.proofs.Tokens.{a_token_prefix, perhaps_prefix}
use Rattle.ang_parse_expr.specs.ReadType.{a_type, type_named}
use Rattle.ang_parse_expr.specs.ReadExpr.{expr, args}
use Rattle.ang_parse_expr.proofs.PrefixExpr.{a_type_prefix, type_named_prefix, args_at_prefix}
use Rattle.ang_parse_stmt.specs.ReadStmt.{stmt, statements, a_body}
use Rattle.ang_parse_stmt.proofs.Ahead.{prefix_ahead}
use Rattle.ang_parse_stmt.proofs.PrefixStmt.{statements_at_prefix, body_at_prefix}
use Rattle.ang_parse_stmt.specs.ReadParams.{params, a_params}
use Rattle.ang_parse_stmt.proofs.PrefixParams.{params_prefix, a_params_prefix}
use Rattle.ang_parse.specs.declared.parts.MemberStart.{MemberStart}
use Rattle.ang_parse.specs.ReadClass as r

module _ (b z : List Token) where
  abbrev T : {A : Type 0} → Parser A → Parser A → Type 0
  T p q = DependsOnPrefix b z p q

  abbrev bind : {A B : Type 0} (p q : Parser A) (f g : A → Parser B) → T p q → ((x : A) → T (f x) (g x)) → T (p >>= f) (q >>= g)
  bind = prefix_bind b z

  abbrev by_kind : {A : Type 0} (f g : TokenKind → Choice A) (p q : Parser A) → ((kind : TokenKind) → Both b z (f kind) (g kind)) → T p q → T (look f p) (look g q)
  by_kind = prefix_look b z

  abbrev unit : {A : Type 0} (x : A) → T (pure x) (pure x)
  unit = prefix_pure b z

  abbrev then_token : {B : Type 0} (test : TokenKind → Bool) (f g : Token → Parser B) → ((x : Token) → T (f x) (g x)) → T (a_token test >>= f) (a_token test >>= g)
  then_token test f g h = bind (a_token test) (a_token test) f g (a_token_prefix b z test) h

  -- ---- one more of a list

  another_base_prefix : (bs : List BaseName) (comma : Token) → T (r.another_base bs comma) (r.another_base bs comma)
  unfolding r.another_base
  another_base_prefix bs comma = then_token is_name _ _ (λ x. unit (bs ++ r.base_of comma x ∷ [], true))

  other_base_by_prefix : (bs : List BaseName) (kind : TokenKind) → Both b z (r.other_base_by bs kind) (r.other_base_by bs kind)
  other_base_by_prefix bs k.Comma = another_base_prefix bs
  other_base_by_prefix bs _ = tt

  other_base_prefix : (bs : List BaseName) → T (r.other_base bs) (r.other_base bs)
  unfolding r.other_base
  other_base_prefix bs = by_kind (r.other_base_by bs) (r.other_base_by bs) _ _ (other_base_by_prefix bs) (unit (bs, false))

  another_field_prefix : (fs : List FieldName) (comma : Token) → T (r.another_field fs comma) (r.another_field fs comma)
  unfolding r.another_field
  another_field_prefix fs comma = then_token is_name _ _ (λ x. unit (fs ++ r.field_of (Some comma) x ∷ [], true))

  other_field_by_prefix : (fs : List FieldName) (kind : TokenKind) → Both b z (r.other_field_by fs kind) (r.other_field_by fs kind)
  other_field_by_prefix fs k.Comma = another_field_prefix fs
  other_field_by_prefix fs _ = tt

  other_field_prefix : (fs : List FieldName) → T (r.other_field fs) (r.other_field fs)
  unfolding r.other_field
  other_field_prefix fs = by_kind (r.other_field_by fs) (r.other_field_by fs) _ _ (other_field_by_prefix fs) (unit (fs, false))

  attribute_prefix : (ws : List Token) → T (r.attribute ws) (r.attribute ws)
  unfolding r.attribute
  attribute_prefix ws = by_kind (r.attribute_by ws) (r.attribute_by ws) _ _
      (λ kind. both_given b z (attribute_kind kind) (λ word. pure (ws ++ word ∷ [], true)) (λ word. pure (ws ++ word ∷ [], true)) (λ word. unit (ws ++ word ∷ [], true)))
      (unit (ws, false))

  module _ (m n : ℕ) (le : m ≤ n) where
    -- ---- names and bases

    some_bases_prefix : (colon : Token) → T (r.some_bases m colon) (r.some_bases n colon)
    unfolding r.some_bases
    some_bases_prefix colon = then_token is_name _ _ (λ x. prefix_repeat b z r.other_base r.other_base other_base_prefix m n le (r.base_of colon x ∷ []))

    bases_by_prefix : (kind : TokenKind) → Both b z (r.bases_by m kind) (r.bases_by n kind)
    bases_by_prefix k.Colon = some_bases_prefix
    bases_by_prefix _ = tt

    bases_prefix : T (r.bases m) (r.bases n)
    unfolding r.bases
    bases_prefix = by_kind (r.bases_by m) (r.bases_by n) (pure []) (pure []) bases_by_prefix (unit [])

    heading_prefix : T (r.heading m) (r.heading n)
    unfolding r.heading
    heading_prefix = then_token is_name _ _ (λ x. bind (r.bases m) (r.bases n) _ _ bases_prefix (λ bs. then_token is_left_brace _ _ (λ left. unit (r.heading_of x bs left))))

    -- ---- parts of members

    fields_prefix : (start : MemberStart) → T (r.fields m start) (r.fields n start)
    unfolding r.fields
    fields_prefix start = bind (repeat r.other_field m (r.field_of None start.name ∷ [])) (repeat r.other_field n (r.field_of None start.name ∷ [])) _ _
        (prefix_repeat b z r.other_field r.other_field other_field_prefix m n le (r.field_of None start.name ∷ []))
        (λ fs. then_token is_semicolon _ _ (λ semicolon. unit (r.fields_made start fs semicolon)))

    attributes_prefix : T (r.attributes m) (r.attributes n)
    attributes_prefix = prefix_repeat b z r.attribute r.attribute attribute_prefix m n le []

    super_called_prefix : (word : Token) → T (r.super_called m word) (r.super_called n word)
    unfolding r.super_called
    super_called_prefix word = then_token is_left_paren _ _ (λ left. bind (args (expr m) m left) (args (expr n) n left) _ _ (args_at_prefix b z m n le left) (λ es. then_token is_semicolon _ _ (λ semicolon. unit (Some (r.super_of word es semicolon)))))

    super_by_prefix : (kind : TokenKind) → Both b z (r.super_by m kind) (r.super_by n kind)
    super_by_prefix k.Super = super_called_prefix
    super_by_prefix _ = tt

    super_call_prefix : T (r.super_call m) (r.super_call n)
    unfolding r.super_call
    super_call_prefix = by_kind (r.super_by m) (r.super_by n) (pure None) (pure None) super_by_prefix (unit None)

    -- ---- interfaces

    method_prefix : T (r.method m) (r.method n)
    unfolding r.method
    method_prefix =
        bind a_type a_type _ _ (a_type_prefix b z) (λ y. then_token is_name _ _ (λ x. bind (a_params m) (a_params n) _ _ (a_params_prefix b z m n le)
        (λ ps. bind (perhaps is_const) (perhaps is_const) _ _ (perhaps_prefix b z is_const) (λ c. then_token is_semicolon _ _ (λ semicolon. unit (r.interface_method_of y x ps c semicolon))))))

    next_method_prefix : (ms : List tree.MethodTree) → T (r.next_method m ms) (r.next_method n ms)
    unfolding r.next_method
    next_method_prefix ms = bind (r.method m) (r.method n) _ _ method_prefix (λ x. unit (ms ++ x ∷ [], true))

    other_method_prefix : (ms : List tree.MethodTree) → T (r.other_method m ms) (r.other_method n ms)
    unfolding r.other_method
    other_method_prefix ms = prefix_ahead b z is_right_brace _ _ (r.next_method m ms) (r.next_method n ms) (unit (ms, false)) (next_method_prefix ms)

    methods_prefix : T (r.methods m) (r.methods n)
    methods_prefix = prefix_repeat b z (r.other_method m) (r.other_method n) other_method_prefix m n le []

    pub interface_prefix : (word : Token) → T (r.interface m word) (r.interface n word)
    unfolding r.interface
    interface_prefix word = bind (r.heading m) (r.heading n) _ _ heading_prefix (λ h. bind (r.methods m) (r.methods n) _ _ methods_prefix (λ ms. then_token is_right_brace _ _ (λ right. unit (r.interface_made word h ms right))))

    module _ (i j : ℕ) (low : i ≤ j) where
      -- ---- members

      method_end_prefix : T (r.method_end i m) (r.method_end j n)
      unfolding r.method_end
      method_end_prefix =
          bind (perhaps is_const) (perhaps is_const) _ _ (perhaps_prefix b z is_const) (λ c. bind (r.attributes m) (r.attributes n) _ _ attributes_prefix
          (λ ws. then_token is_left_brace _ _ (λ left. bind (a_body (stmt i m) m left) (a_body (stmt j n) n left) _ _ (body_at_prefix b z m n le i j low left) (λ x. unit (r.method_end_of c ws x)))))

      method_of_prefix : (start : MemberStart) (left : Token) → T (r.method_of i m start left) (r.method_of j n start left)
      unfolding r.method_of
      method_of_prefix start left = bind (params m left) (params n left) _ _ (params_prefix b z m n le left) (λ ps. bind (r.method_end i m) (r.method_end j n) _ _ method_end_prefix (λ e. unit (r.method_made start ps e)))

      constructor_end_prefix : T (r.constructor_end i m) (r.constructor_end j n)
      unfolding r.constructor_end
      constructor_end_prefix =
          bind (r.super_call m) (r.super_call n) _ _ super_call_prefix (λ s. bind (statements (stmt i m) m) (statements (stmt j n) n) _ _ (statements_at_prefix b z m n le i j low)
          (λ ss. then_token is_right_brace _ _ (λ right. unit (r.constructor_end_of s ss right))))

      constructor_of_prefix : (x left : Token) → T (r.constructor_of i m x left) (r.constructor_of j n x left)
      unfolding r.constructor_of
      constructor_of_prefix x left = bind (params m left) (params n left) _ _ (params_prefix b z m n le left) (λ ps. then_token is_left_brace _ _ (λ brace. bind (r.constructor_end i m) (r.constructor_end j n) _ _ constructor_end_prefix (λ e. unit (r.constructor_made x ps brace e))))

      started_by_prefix : (start : MemberStart) (kind : TokenKind) → Both b z (r.started_by i m start kind) (r.started_by j n start kind)
      started_by_prefix start k.LeftParen = method_of_prefix start
      started_by_prefix start _ = tt

      started_prefix : (start : MemberStart) → T (r.started i m start) (r.started j n start)
      unfolding r.started
      started_prefix start = by_kind (r.started_by i m start) (r.started_by j n start) (r.fields m start) (r.fields n start) (started_by_prefix start) (fields_prefix start)

      typed_prefix : (access : Option Token) (y : TypeName) → T (r.typed i m access y) (r.typed j n access y)
      unfolding r.typed
      typed_prefix access y = then_token is_name _ _ (λ x. started_prefix (r.start_of access y x))

      accessed_prefix : (access : Option Token) → T (r.accessed i m access) (r.accessed j n access)
      unfolding r.accessed
      accessed_prefix access = bind a_type a_type _ _ (a_type_prefix b z) (typed_prefix access)

      type_started_prefix : (x : Token) → T (r.type_started i m x) (r.type_started j n x)
      unfolding r.type_started
      type_started_prefix x = bind (type_named None x) (type_named None x) _ _ (type_named_prefix b z None x) (typed_prefix None)

      named_by_prefix : (x : Token) (kind : TokenKind) → Both b z (r.named_by i m x kind) (r.named_by j n x kind)
      named_by_prefix x k.LeftParen = constructor_of_prefix x
      named_by_prefix x _ = tt

      named_prefix : (x : Token) → T (r.named i m x) (r.named j n x)
      unfolding r.named
      named_prefix x = by_kind (r.named_by i m x) (r.named_by j n x) (r.type_started i m x) (r.type_started j n x) (named_by_prefix x) (type_started_prefix x)

      member_by_prefix : (kind : TokenKind) → Both b z (r.member_by i m kind) (r.member_by j n kind)
      member_by_prefix k.Name = named_prefix
      member_by_prefix kind = both_given b z (access_kind kind) (λ word. r.accessed i m (Some word)) (λ word. r.accessed j n (Some word)) (λ word. accessed_prefix (Some word))

      member_prefix : T (r.member i m) (r.member j n)
      unfolding r.member
      member_prefix = by_kind (r.member_by i m) (r.member_by j n) (r.accessed i m None) (r.accessed j n None) member_by_prefix (accessed_prefix None)

      next_member_prefix : (ms : List tree.MemberTree) → T (r.next_member i m ms) (r.next_member j n ms)
      unfolding r.next_member
      next_member_prefix ms = bind (r.member i m) (r.member j n) _ _ member_prefix (λ x. unit (ms ++ x ∷ [], true))

      other_member_prefix : (ms : List tree.MemberTree) → T (r.other_member i m ms) (r.other_member j n ms)
      unfolding r.other_member
      other_member_prefix ms = prefix_ahead b z is_right_brace _ _ (r.next_member i m ms) (r.next_member j n ms) (unit (ms, false)) (next_member_prefix ms)

      members_prefix : T (r.members i m) (r.members j n)
      members_prefix = prefix_repeat b z (r.other_member i m) (r.other_member j n) other_member_prefix m n le []

      -- ---- classes

      pub class_prefix : (final : Option Token) (word : Token) → T (r.class i m final word) (r.class j n final word)
      unfolding r.class
      class_prefix final word = bind (r.heading m) (r.heading n) _ _ heading_prefix (λ h. bind (r.members i m) (r.members j n) _ _ members_prefix (λ ms. then_token is_right_brace _ _ (λ right. unit (r.class_made final word h ms right))))

      pub final_class_prefix : (final : Token) → T (r.final_class i m final) (r.final_class j n final)
      unfolding r.final_class
      final_class_prefix final = then_token r.is_class (r.class i m (Some final)) (r.class j n (Some final)) (class_prefix (Some final))

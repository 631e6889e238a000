-- What is read as a member of a class, or as a method of an interface, is spelled so.
use Rattle.std.proofs.Common.{◌≡◌, ℕ, ◌≤◌, Bool, true, false, List, [], ◌∷◌, ◌++◌, length, Option, Some, None, refl, ap, sym, ◌∙◌, arith}
use Rattle.std.specs.Prelude.{IfSome}
use Rattle.ang_lex.specs.declared.token.Token.{Token}
use Rattle.ang_lex.specs.declared.token.TokenKind.{TokenKind}
use Rattle.ang_lex.specs.declared.token.TokenKind.TheVariants as k
use Rattle.ang_tree.specs.declared.type_name.TypeName.{TypeName}
use Rattle.ang_tree.specs.declared.declaration.FieldName.{FieldName}
use Rattle.ang_tree.specs.Kinds.{Is, IsA, IfWritten, IfWrittenA, optional, access_kind, attribute_kind, type_kind}
use Rattle.ang_tree.specs.TypeNames.{spelled_type, FitsType}
use Rattle.ang_tree.specs.Tree.{spelled_args}
use Rattle.ang_tree.specs.Stmt.{each, Every, Parted, Filled, spelled_body, spelled_stmts, FitsBody, FitsStmts}
use Rattle.ang_tree.specs.Declarations as tree
use Rattle.ang_parse_read.specs.Read.{pure, given, repeat}
use Rattle.ang_parse_read.specs.Tokens.{a_token, perhaps, is_name, is_left_paren, is_left_brace, is_right_brace, is_semicolon, is_const}
use Rattle.ang_parse_read.proofs.Outcomes.{Reads, and_reads, along, further, ChoiceReads, look_reads, given_reads, Turns, repeat_reads_to, From-self, From-one, From-length}
use Rattle.ang_parse_read.proofs.Tokens.{Always, Token_read, a_token_reads, Perhaps_read, written, absent, perhaps_reads, name_is, left_paren_is, left_brace_is, right_brace_is, semicolon_is, const_is}
use Rattle.ang_parse_expr.specs.ReadType.{a_type, type_named}
use Rattle.ang_parse_expr.specs.ReadExpr.{expr, args}
use Rattle.ang_parse_expr.proofs.SoundType.{Type_read, a_type_reads, type_named_reads}
use Rattle.ang_parse_expr.proofs.Sound.{IsArgs, args_at_reads}
use Rattle.ang_parse_stmt.specs.ReadStmt.{stmt, statements, a_body}
use Rattle.ang_parse_stmt.proofs.SoundVars.{each-one_more, Every-one_more, Filled-one_more, Parted-one_more}
use Rattle.ang_parse_stmt.proofs.SoundStmt.{AreStmts, IsBody}
use Rattle.ang_parse_stmt.specs.ReadParams.{params, a_params}
use Rattle.ang_parse_stmt.proofs.SoundParams.{IsParams, params_reads, a_params_reads}
use Rattle.ang_parse.specs.declared.parts.MemberStart.{MemberStart}
use Rattle.ang_parse.specs.ReadClass as r
use Rattle.ang_parse.proofs.Bodies.{statements_within_reads, body_within_reads}

-- ---- what is read

pub record IsMember (w : List Token) (m : tree.MemberTree) (s : List Token) : Type 0 where
  pub text : w ≡ tree.spelled_member m s
  pub fits : tree.FitsMember m

pub record IsMethod (w : List Token) (m : tree.MethodTree) (s : List Token) : Type 0 where
  pub text : w ≡ tree.spelled_method m s
  pub fits : tree.FitsMethod m

-- access type NAME
record IsBegun (w : List Token) (start : MemberStart) (s : List Token) : Type 0 where
  text : w ≡ optional start.access (spelled_type start.declared_type (start.name ∷ s))
  access : IfWrittenA access_kind start.access
  of_type : FitsType start.declared_type
  name : Is k.Name start.name

-- names of fields, of which there is one
record AreFields (w : List Token) (fs : List FieldName) (s : List Token) : Type 0 where
  text : w ≡ each tree.spelled_field fs s
  filled : Filled fs
  parted : Parted (λ (f : FieldName). f.comma) fs
  fits : Every (λ (f : FieldName). Is k.Name f.name) fs

record AreAttributes (w : List Token) (ws : List Token) (s : List Token) : Type 0 where
  text : w ≡ each tree.spelled_word ws s
  fits : Every (IsA attribute_kind) ws

record IsMethodEnd (w : List Token) (e : r.MethodEnd) (s : List Token) : Type 0 where
  text : w ≡ optional e.constant (each tree.spelled_word e.attributes (spelled_body e.body s))
  constant : IfWritten k.Const e.constant
  attributes : Every (IsA attribute_kind) e.attributes
  body : FitsBody e.body

record IsSuper (w : List Token) (o : Option tree.SuperTree) (s : List Token) : Type 0 where
  text : w ≡ tree.spelled_super o s
  fits : tree.FitsSuper o

record IsConstructorEnd (w : List Token) (e : r.ConstructorEnd) (s : List Token) : Type 0 where
  text : w ≡ tree.spelled_super e.super_call (spelled_stmts e.statements (e.right ∷ s))
  super_call : tree.FitsSuper e.super_call
  statements : FitsStmts e.statements
  right : Is k.RightBrace e.right

const_text : (w s : List Token) (o : Option Token) → Perhaps_read is_const w o s → w ≡ optional o s
const_text w s o (written x u e h) = e
const_text w s o absent = refl

const_fits : (w s : List Token) (o : Option Token) → Perhaps_read is_const w o s → IfWritten k.Const o
const_fits w s o (written x u e h) = const_is x.kind h
const_fits w s o absent = tt

one_field_more : (w : List Token) (fs : List FieldName) (comma x : Token) (ts s : List Token) → AreFields w fs (comma ∷ ts) → Is k.Comma comma → Token_read is_name ts x s → AreFields w (fs ++ r.field_of (Some comma) x ∷ []) s
one_field_more w fs comma x ts s h is p = record {
  text = h.text ∙ ap (λ u. each tree.spelled_field fs (comma ∷ u)) p.text ∙ sym (each-one_more tree.spelled_field fs (r.field_of (Some comma) x) s);
  filled = Filled-one_more fs (r.field_of (Some comma) x) h.filled;
  parted = Parted-one_more (λ (f : FieldName). f.comma) fs (r.field_of (Some comma) x) h.filled h.parted is;
  fits = Every-one_more (λ (f : FieldName). Is k.Name f.name) fs (r.field_of (Some comma) x) h.fits (name_is x.kind p.kind);
}

one_attribute_more : (w : List Token) (ws : List Token) (word : Token) (s : List Token) → AreAttributes w ws (word ∷ s) → IsA attribute_kind word → AreAttributes w (ws ++ word ∷ []) s
one_attribute_more w ws word s h is = record { text = h.text ∙ sym (each-one_more tree.spelled_word ws word s); fits = Every-one_more (IsA attribute_kind) ws word h.fits is }

-- ---- one more of a list

abbrev MoreFields : List Token → ℕ → List FieldName × Bool → List Token → Type 0
MoreFields w len = Turns (AreFields w) (AreFields w) len

another_field_reads : (n : ℕ) (w : List Token) (fs : List FieldName) (comma : Token) (ts : List Token) → Is k.Comma comma → AreFields w fs (comma ∷ ts) → Reads n ts (MoreFields w (length (comma ∷ ts))) (r.another_field fs comma ts)
unfolding r.another_field
another_field_reads n w fs comma ts is h =
    and_reads n ts (Token_read is_name ts) (MoreFields w (length (comma ∷ ts))) (a_token is_name ts) (λ x. pure (fs ++ r.field_of (Some comma) x ∷ [], true)) (a_token_reads is_name n ts)
    (λ x s p f. ((one_field_more w fs comma x ts s h is p, omega (arith, From-length ts s f)), f))

other_field_by_reads : (n : ℕ) (w : List Token) (fs : List FieldName) → ChoiceReads n (AreFields w fs) (λ ts. MoreFields w (length ts)) (r.other_field_by fs)
other_field_by_reads n w fs k.Comma t u is h = further n (t ∷ u) u (MoreFields w (length (t ∷ u))) _ _ (From-one t u) (λ y s q. q) (another_field_reads n w fs t u is h)
other_field_by_reads n w fs _ t u is h = tt

other_field_reads : (n : ℕ) (w : List Token) (fs : List FieldName) (ts : List Token) → AreFields w fs ts → Reads n ts (MoreFields w (length ts)) (r.other_field fs ts)
unfolding r.other_field
other_field_reads n w fs ts h = look_reads n (AreFields w fs) (λ ts. MoreFields w (length ts)) (r.other_field_by fs) (pure (fs, false)) (other_field_by_reads n w fs) (λ ts q. (q, From-self ts)) ts h

abbrev MoreAttributes : List Token → ℕ → List Token × Bool → List Token → Type 0
MoreAttributes w len = Turns (AreAttributes w) (AreAttributes w) len

attribute_by_reads : (n : ℕ) (w ws : List Token) → ChoiceReads n (AreAttributes w ws) (λ ts. MoreAttributes w (length ts)) (r.attribute_by ws)
attribute_by_reads n w ws kind t u is h =
    given_reads n (t ∷ u) t u (MoreAttributes w (length (t ∷ u))) (attribute_kind kind) (λ word. pure (ws ++ word ∷ [], true))
    (λ e. ((one_attribute_more w ws t u h (ap attribute_kind is ∙ e), omega arith), From-one t u))

attribute_reads : (n : ℕ) (w ws ts : List Token) → AreAttributes w ws ts → Reads n ts (MoreAttributes w (length ts)) (r.attribute ws ts)
unfolding r.attribute
attribute_reads n w ws ts h = look_reads n (AreAttributes w ws) (λ ts. MoreAttributes w (length ts)) (r.attribute_by ws) (pure (ws, false)) (attribute_by_reads n w ws) (λ ts q. (q, From-self ts)) ts h

-- ---- members

module _ (n l : ℕ) (le : n ≤ l) where
  arguments_reads : (left : Token) → Is k.LeftParen left → (ts : List Token) → Reads n ts (IsArgs left ts) (args (expr l) l left ts)
  arguments_reads left is ts = along l n ts ts (IsArgs left ts) _ _ (From-self ts) (λ d. omega arith) (λ x s q. q) (args_at_reads l left is ts)

  fields_reads : (start : MemberStart) (w ts : List Token) → IsBegun w start ts → Reads n ts (IsMember w) (r.fields l start ts)
  unfolding r.fields
  fields_reads start w ts h =
      and_reads n ts (AreFields (start.name ∷ ts)) (IsMember w) (repeat r.other_field l (r.field_of None start.name ∷ []) ts) _
      (repeat_reads_to (AreFields (start.name ∷ ts)) (AreFields (start.name ∷ ts)) n r.other_field (other_field_reads n (start.name ∷ ts)) l n (omega arith) le (r.field_of None start.name ∷ []) ts
      (record { text = refl; filled = tt; parted = (refl, tt); fits = (h.name, tt) }))
      (λ fs s q f. further n ts s (IsMember w) _ _ f (λ y u z. z)
      (and_reads n s (Token_read is_semicolon s) (IsMember w) (a_token is_semicolon s) (λ semicolon. pure (r.fields_made start fs semicolon)) (a_token_reads is_semicolon n s)
      (λ semicolon u p g. (
        record {
          text = h.text ∙ ap (λ v. optional start.access (spelled_type start.declared_type v)) (q.text ∙ ap (λ v. each tree.spelled_field fs v) p.text);
          fits = (h.access, h.of_type, q.filled, q.parted, q.fits, semicolon_is semicolon.kind p.kind);
        },
        g,
      ))))

  attributes_reads : (ts : List Token) → Reads n ts (AreAttributes ts) (r.attributes l ts)
  attributes_reads ts = repeat_reads_to (AreAttributes ts) (AreAttributes ts) n r.attribute (attribute_reads n ts) l n (omega arith) le [] ts (record { text = refl; fits = tt })

  method_end_reads : (ts : List Token) → Reads n ts (IsMethodEnd ts) (r.method_end n l ts)
  unfolding r.method_end
  method_end_reads ts =
      and_reads n ts (Perhaps_read is_const ts) (IsMethodEnd ts) (perhaps is_const ts) _ (perhaps_reads is_const n ts)
      (λ c s1 p f1. further n ts s1 (IsMethodEnd ts) _ _ f1 (λ y u z. z)
      (and_reads n s1 (AreAttributes s1) (IsMethodEnd ts) (r.attributes l s1) _ (attributes_reads s1)
      (λ ws s2 q f2. further n s1 s2 (IsMethodEnd ts) _ _ f2 (λ y u z. z)
      (and_reads n s2 (Token_read is_left_brace s2) (IsMethodEnd ts) (a_token is_left_brace s2) _ (a_token_reads is_left_brace n s2)
      (λ left s3 t f3. further n s2 s3 (IsMethodEnd ts) _ _ f3 (λ y u z. z)
      (and_reads n s3 (IsBody left s3) (IsMethodEnd ts) (a_body (stmt n l) l left s3) (λ b. pure (r.method_end_of c ws b)) (body_within_reads n l le left (left_brace_is left.kind t.kind) s3)
      (λ b s4 e f4. (
        record {
          text = const_text ts s1 c p ∙ ap (λ v. optional c v) (q.text ∙ ap (λ v. each tree.spelled_word ws v) (t.text ∙ e.text));
          constant = const_fits ts s1 c p;
          attributes = q.fits;
          body = e.fits;
        },
        f4,
      ))))))))

  method_of_reads : (start : MemberStart) (left : Token) (w ts : List Token) → Is k.LeftParen left → IsBegun w start (left ∷ ts) → Reads n ts (IsMember w) (r.method_of n l start left ts)
  unfolding r.method_of
  method_of_reads start left w ts is h =
      and_reads n ts (IsParams (left ∷ ts)) (IsMember w) (params l left ts) _ (params_reads n l le left is ts)
      (λ ps s q f. further n ts s (IsMember w) _ _ f (λ y u z. z)
      (and_reads n s (IsMethodEnd s) (IsMember w) (r.method_end n l s) (λ e. pure (r.method_made start ps e)) (method_end_reads s)
      (λ e u p g. (
        record {
          text = h.text ∙ ap (λ v. optional start.access (spelled_type start.declared_type (start.name ∷ v))) (q.text ∙ ap (λ v. tree.spelled_params ps v) p.text);
          fits = (h.access, h.of_type, h.name, q.fits, p.constant, p.attributes, p.body);
        },
        g,
      ))))

  super_called_reads : (word : Token) → Is k.Super word → (ts : List Token) → Reads n ts (IsSuper (word ∷ ts)) (r.super_called l word ts)
  unfolding r.super_called
  super_called_reads word is ts =
      and_reads n ts (Token_read is_left_paren ts) (IsSuper (word ∷ ts)) (a_token is_left_paren ts) _ (a_token_reads is_left_paren n ts)
      (λ left s1 p f1. further n ts s1 (IsSuper (word ∷ ts)) _ _ f1 (λ y u z. z)
      (and_reads n s1 (IsArgs left s1) (IsSuper (word ∷ ts)) (args (expr l) l left s1) _ (arguments_reads left (left_paren_is left.kind p.kind) s1)
      (λ es s2 q f2. further n s1 s2 (IsSuper (word ∷ ts)) _ _ f2 (λ y u z. z)
      (and_reads n s2 (Token_read is_semicolon s2) (IsSuper (word ∷ ts)) (a_token is_semicolon s2) (λ semicolon. pure (Some (r.super_of word es semicolon))) (a_token_reads is_semicolon n s2)
      (λ semicolon s3 t f3. (
        record {
          text = ap (λ v. word ∷ v) (p.text ∙ q.text ∙ ap (λ v. spelled_args es v) t.text);
          fits = (is, q.fits, semicolon_is semicolon.kind t.kind);
        },
        f3,
      ))))))

  super_by_reads : ChoiceReads n Always IsSuper (r.super_by l)
  super_by_reads k.Super t u is z = further n (t ∷ u) u (IsSuper (t ∷ u)) _ _ (From-one t u) (λ y s q. q) (super_called_reads t is u)
  super_by_reads _ t u is z = tt

  super_call_reads : (ts : List Token) → Reads n ts (IsSuper ts) (r.super_call l ts)
  unfolding r.super_call
  super_call_reads ts = look_reads n Always IsSuper (r.super_by l) (pure None) super_by_reads (λ ts z. (record { text = refl; fits = tt }, From-self ts)) ts tt

  constructor_end_reads : (ts : List Token) → Reads n ts (IsConstructorEnd ts) (r.constructor_end n l ts)
  unfolding r.constructor_end
  constructor_end_reads ts =
      and_reads n ts (IsSuper ts) (IsConstructorEnd ts) (r.super_call l ts) _ (super_call_reads ts)
      (λ o s1 p f1. further n ts s1 (IsConstructorEnd ts) _ _ f1 (λ y u z. z)
      (and_reads n s1 (AreStmts s1) (IsConstructorEnd ts) (statements (stmt n l) l s1) _ (statements_within_reads n l le s1)
      (λ ss s2 q f2. further n s1 s2 (IsConstructorEnd ts) _ _ f2 (λ y u z. z)
      (and_reads n s2 (Token_read is_right_brace s2) (IsConstructorEnd ts) (a_token is_right_brace s2) (λ right. pure (r.constructor_end_of o ss right)) (a_token_reads is_right_brace n s2)
      (λ right s3 t f3. (
        record {
          text = p.text ∙ ap (λ v. tree.spelled_super o v) (q.text ∙ ap (λ v. spelled_stmts ss v) t.text);
          super_call = p.fits;
          statements = q.fits;
          right = right_brace_is right.kind t.kind;
        },
        f3,
      ))))))

  constructor_of_reads : (x left : Token) (ts : List Token) → Is k.Name x → Is k.LeftParen left → Reads n ts (IsMember (x ∷ left ∷ ts)) (r.constructor_of n l x left ts)
  unfolding r.constructor_of
  constructor_of_reads x left ts X L =
      and_reads n ts (IsParams (left ∷ ts)) (IsMember (x ∷ left ∷ ts)) (params l left ts) _ (params_reads n l le left L ts)
      (λ ps s1 p f1. further n ts s1 (IsMember (x ∷ left ∷ ts)) _ _ f1 (λ y u z. z)
      (and_reads n s1 (Token_read is_left_brace s1) (IsMember (x ∷ left ∷ ts)) (a_token is_left_brace s1) _ (a_token_reads is_left_brace n s1)
      (λ brace s2 q f2. further n s1 s2 (IsMember (x ∷ left ∷ ts)) _ _ f2 (λ y u z. z)
      (and_reads n s2 (IsConstructorEnd s2) (IsMember (x ∷ left ∷ ts)) (r.constructor_end n l s2) (λ e. pure (r.constructor_made x ps brace e)) (constructor_end_reads s2)
      (λ e s3 t f3. (
        record {
          text = ap (λ v. x ∷ v) (p.text ∙ ap (λ v. tree.spelled_params ps v) (q.text ∙ ap (λ v. brace ∷ v) t.text));
          fits = (X, p.fits, left_brace_is brace.kind q.kind, t.super_call, t.statements, t.right);
        },
        f3,
      ))))))

  started_by_reads : (w : List Token) (start : MemberStart) → ChoiceReads n (IsBegun w start) (λ ts. IsMember w) (r.started_by n l start)
  started_by_reads w start k.LeftParen t u is h = further n (t ∷ u) u (IsMember w) _ _ (From-one t u) (λ y s q. q) (method_of_reads start t w u is h)
  started_by_reads w start _ t u is h = tt

  started_reads : (w : List Token) (start : MemberStart) (ts : List Token) → IsBegun w start ts → Reads n ts (IsMember w) (r.started n l start ts)
  unfolding r.started
  started_reads w start ts h = look_reads n (IsBegun w start) (λ ts. IsMember w) (r.started_by n l start) (r.fields l start) (started_by_reads w start) (λ ts q. fields_reads start w ts q) ts h

  typed_reads : (w : List Token) (access : Option Token) (y : TypeName) (ts : List Token) → IfWrittenA access_kind access → FitsType y → w ≡ optional access (spelled_type y ts) → Reads n ts (IsMember w) (r.typed n l access y ts)
  unfolding r.typed
  typed_reads w access y ts A Y e =
      and_reads n ts (Token_read is_name ts) (IsMember w) (a_token is_name ts) (λ x. r.started n l (r.start_of access y x)) (a_token_reads is_name n ts)
      (λ x s p f. further n ts s (IsMember w) _ _ f (λ y u q. q)
      (started_reads w (r.start_of access y x) s (record { text = e ∙ ap (λ v. optional access (spelled_type y v)) p.text; access = A; of_type = Y; name = name_is x.kind p.kind })))

  accessed_reads : (access : Option Token) → IfWrittenA access_kind access → (ts : List Token) → Reads n ts (IsMember (optional access ts)) (r.accessed n l access ts)
  unfolding r.accessed
  accessed_reads access A ts =
      and_reads n ts (Type_read ts) (IsMember (optional access ts)) (a_type ts) (r.typed n l access) (a_type_reads n ts)
      (λ y s q f. further n ts s (IsMember (optional access ts)) _ _ f (λ y u z. z) (typed_reads (optional access ts) access y s A q.fits (ap (λ v. optional access v) q.text)))

  type_started_reads : (x : Token) → Is k.Name x → (ts : List Token) → Reads n ts (IsMember (x ∷ ts)) (r.type_started n l x ts)
  unfolding r.type_started
  type_started_reads x X ts =
      and_reads n ts (Type_read (x ∷ ts)) (IsMember (x ∷ ts)) (type_named None x ts) (r.typed n l None) (type_named_reads n None x ts tt (ap type_kind X))
      (λ y s q f. further n ts s (IsMember (x ∷ ts)) _ _ f (λ y u z. z) (typed_reads (x ∷ ts) None y s tt q.fits q.text))

  named_by_reads : (x : Token) → Is k.Name x → ChoiceReads n Always (λ ts. IsMember (x ∷ ts)) (r.named_by n l x)
  named_by_reads x X k.LeftParen t u is z = further n (t ∷ u) u (IsMember (x ∷ t ∷ u)) _ _ (From-one t u) (λ y s q. q) (constructor_of_reads x t u X is)
  named_by_reads x X _ t u is z = tt

  named_reads : (x : Token) → Is k.Name x → (ts : List Token) → Reads n ts (IsMember (x ∷ ts)) (r.named n l x ts)
  unfolding r.named
  named_reads x X ts = look_reads n Always (λ ts. IsMember (x ∷ ts)) (r.named_by n l x) (r.type_started n l x) (named_by_reads x X) (λ ts z. type_started_reads x X ts) ts tt

  accessed_by_reads : (kind : TokenKind) (t : Token) (u : List Token) → t.kind ≡ kind → IfSome (given (access_kind kind) (λ word. r.accessed n l (Some word))) (λ q. Reads n (t ∷ u) (IsMember (t ∷ u)) (q t u))
  accessed_by_reads kind t u is =
      given_reads n (t ∷ u) t u (IsMember (t ∷ u)) (access_kind kind) (λ word. r.accessed n l (Some word))
      (λ e. further n (t ∷ u) u (IsMember (t ∷ u)) _ _ (From-one t u) (λ y s q. q) (accessed_reads (Some t) (ap access_kind is ∙ e) u))

  member_by_reads : ChoiceReads n Always IsMember (r.member_by n l)
  member_by_reads k.Name t u is z = further n (t ∷ u) u (IsMember (t ∷ u)) _ _ (From-one t u) (λ y s q. q) (named_reads t is u)
  member_by_reads kind t u is z = accessed_by_reads kind t u is

  pub member_reads : (ts : List Token) → Reads n ts (IsMember ts) (r.member n l ts)
  unfolding r.member
  member_reads ts = look_reads n Always IsMember (r.member_by n l) (r.accessed n l None) member_by_reads (λ ts z. accessed_reads None tt ts) ts tt

  -- ---- methods of interfaces

  pub method_reads : (ts : List Token) → Reads n ts (IsMethod ts) (r.method l ts)
  unfolding r.method
  method_reads ts =
      and_reads n ts (Type_read ts) (IsMethod ts) (a_type ts) _ (a_type_reads n ts)
      (λ y s1 p f1. further n ts s1 (IsMethod ts) _ _ f1 (λ y u z. z)
      (and_reads n s1 (Token_read is_name s1) (IsMethod ts) (a_token is_name s1) _ (a_token_reads is_name n s1)
      (λ x s2 q f2. further n s1 s2 (IsMethod ts) _ _ f2 (λ y u z. z)
      (and_reads n s2 (IsParams s2) (IsMethod ts) (a_params l s2) _ (a_params_reads n l le s2)
      (λ ps s3 h f3. further n s2 s3 (IsMethod ts) _ _ f3 (λ y u z. z)
      (and_reads n s3 (Perhaps_read is_const s3) (IsMethod ts) (perhaps is_const s3) _ (perhaps_reads is_const n s3)
      (λ c s4 t f4. further n s3 s4 (IsMethod ts) _ _ f4 (λ y u z. z)
      (and_reads n s4 (Token_read is_semicolon s4) (IsMethod ts) (a_token is_semicolon s4) (λ semicolon. pure (r.interface_method_of y x ps c semicolon)) (a_token_reads is_semicolon n s4)
      (λ semicolon s5 e f5. (
        record {
          text = p.text ∙ ap (λ v. spelled_type y v) (q.text ∙ ap (λ v. x ∷ v) (h.text ∙ ap (λ v. tree.spelled_params ps v) (const_text s3 s4 c t ∙ ap (λ v. optional c v) e.text)));
          fits = record { result_type = p.fits; name = name_is x.kind q.kind; parameters = h.fits; constant = const_fits s3 s4 c t; semicolon = semicolon_is semicolon.kind e.kind };
        },
        f5,
      ))))))))))
